-- The forms of a character: their first ranges rise, so that an octet begins at most one of them; and UTF-8 as a character with UTF-8 after it.
use Rattle.std.specs.Prelude.{ℕ, suc, ◌<◌, ◌≤◌, ◌≡◌, refl, List, [], ◌∷◌, ◌++◌, Bool, true, false, ◌&&◌, ◌||◌, leb}
use Rattle.std.proofs.Common.{ap, arith, le-leb, leb-true}
use Rattle.std.proofs.lemmas.Bool.{lt-leb}
use Rattle.basics.specs.TestLaws.{apart, and-of, and-false, both_true}
use Rattle.utf8.specs.Utf8.{Range, range, in_range, Form, forms, begins, others_after, goes_on}

-- ---- ranges

abbrev low : Range → ℕ
low (range l h) = l

abbrev high : Range → ℕ
high (range l h) = h

abbrev pub Lies : Range → ℕ → Type 0
Lies r a = (low r ≤ a) × (a ≤ high r)

pub in-range : (r : Range) (a : ℕ) → Lies r a → in_range r a ≡ true
in-range (range l h) a k = both_true (le-leb l a k.0) (le-leb a h k.1)

pub lies : (r : Range) (a : ℕ) → in_range r a ≡ true → Lies r a
lies (range l h) a e =
    let k = and-of (leb l a) (leb a h) e in
    (leb-true l a k.0, leb-true a h k.1)

past-range : (r : Range) (a : ℕ) → high r < a → in_range r a ≡ false
past-range (range l h) a s = rw (lt-leb a h s) (and-false (leb l a))

-- ---- forms

pub data In : Form → List Form → Type 0 where
  here : {f : Form} {fs : List Form} → In f (f ∷ fs)
  later : {f g : Form} {fs : List Form} → In f fs → In f (g ∷ fs)

-- Does each first range lie past the one before it, and the first at n or past it?
abbrev rising : ℕ → List Form → Bool
rising n [] = true
rising n (f ∷ fs) =
    (leb n (low f.first) && leb (low f.first) (high f.first)) && rising (suc (high f.first)) fs

record Rises (n : ℕ) (f : Form) (fs : List Form) : Type 0 where
  from : n ≤ low f.first
  room : low f.first ≤ high f.first
  next : rising (suc (high f.first)) fs ≡ true

rises : (n : ℕ) (f : Form) (fs : List Form) → rising n (f ∷ fs) ≡ true → Rises n f fs
rises n f fs e =
    let k = and-of (leb n (low f.first) && leb (low f.first) (high f.first)) (rising (suc (high f.first)) fs) e in
    let l = and-of (leb n (low f.first)) (leb (low f.first) (high f.first)) k.0 in
    record { from = leb-true _ _ l.0; room = leb-true _ _ l.1; next = k.1 }

past : (n : ℕ) (fs : List Form) {f : Form} → rising n fs ≡ true → In f fs → n ≤ low f.first
past n [] {f = f} e x'' = elim x'' [ ]
past n (g ∷ fs) e here = (rises n g fs e).from
past n (g ∷ fs) {f} e (later i) =
    let k = rises n g fs e in
    let m = past (suc (high g.first)) fs k.next i in
    omega (arith, k.from, k.room)

-- What is told of an octet by a form that it begins.
form-at : (n : ℕ) (fs : List Form) {f : Form} (a : ℕ) → rising n fs ≡ true → In f fs → in_range f.first a ≡ true →
    (begins fs a ≡ true) × (others_after fs a ≡ f.others)
form-at n [] {f = f} a e x3 w = elim x3 [ ]
form-at n (g ∷ fs) a e here w = (rw w refl, rw w refl)
form-at n (g ∷ fs) {f} a e (later i) w =
    let k = rises n g fs e in
    let m = past (suc (high g.first)) fs k.next i in
    let o = past-range g.first a (omega (arith, lies f.first a w)) in
    let r = form-at (suc (high g.first)) fs a k.next i w in
    (rw o r.0, rw o r.1)

-- The form that an octet begins.
pub record Begun (fs : List Form) (a : ℕ) : Type 0 where
  pub form : Form
  pub one : In form fs
  pub begin : in_range form.first a ≡ true
  pub after : others_after fs a ≡ form.others

pub form-begun : (fs : List Form) (a : ℕ) → begins fs a ≡ true → Begun fs a
form-begun [] a e = apart e
form-begun (g ∷ fs) a e = go (in_range g.first a) refl (form-begun fs a) e
  where
    go : (t : Bool) → in_range g.first a ≡ t → (begins fs a ≡ true → Begun fs a) → t || begins fs a ≡ true → Begun (g ∷ fs) a
    go true w next e = record { form = g; one = here; begin = w; after = rw w refl }
    go false w next e =
        let k = next e in
        record { form = k.form; one = later k.one; begin = k.begin; after = rw w k.after }

-- ---- characters

-- An octet in each of the ranges, and no more.
abbrev pub InRanges : List Range → List ℕ → Type 0
InRanges [] [] = Unit {0}
InRanges [] (b ∷ bs) = ⊥
InRanges (r ∷ rs) [] = ⊥
InRanges (r ∷ rs) (b ∷ bs) = (in_range r b ≡ true) × InRanges rs bs

matched : (rs : List Range) (bs v : List ℕ) → InRanges rs bs → goes_on rs (bs ++ v) ≡ goes_on [] v
unfolding goes_on
matched [] [] v h = refl
matched [] (b ∷ bs) v h = absurd h
matched (r ∷ rs) [] v h = absurd h
matched (r ∷ rs) (b ∷ bs) v h = rw h.0 (matched rs bs v h.1)

-- Octets that go on as told, up to the end of the character.
pub split : (rs : List Range) (w : List ℕ) → goes_on rs w ≡ true →
    (bs : List ℕ) × (v : List ℕ) × (w ≡ bs ++ v) × InRanges rs bs × (goes_on [] v ≡ true)
unfolding goes_on
split [] w e = ([], w, refl, tt, e)
split (r ∷ rs) [] e = apart e
split (r ∷ rs) (a ∷ w) e =
    let k = and-of (in_range r a) (goes_on rs w) e in
    let s = split rs w k.1 in
    (a ∷ s.0, s.1, ap (a ∷◌) s.2, (k.0, s.3), s.4)

-- Octets of a form.
pub record Character (f : Form) (l : List ℕ) : Type 0 where
  pub one : In f forms
  pub head : ℕ
  pub rest : List ℕ
  pub is : l ≡ head ∷ rest
  pub begin : in_range f.first head ≡ true
  pub follow : InRanges f.others rest

pub character-first : {f : Form} (l v : List ℕ) → Character f l → goes_on [] (l ++ v) ≡ goes_on [] v
unfolding goes_on
character-first {f} l v c =
    let k = form-at 0 forms c.head refl c.one c.begin in
    rw (c.is, k.0, k.1) (matched f.others c.rest v c.follow)
