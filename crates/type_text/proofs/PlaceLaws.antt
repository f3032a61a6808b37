-- The places of items: texts that agree as far as an item of one have the same items before it, and one like it there.
use Rattle.std.specs.Prelude.{◌≡◌, Bool, not, ◌⊎◌, take, drop}
use Rattle.std.proofs.Math.Path.{refl, sym, ap}
use Rattle.std.proofs.Common.{subst, ◌∙◌, length-append, get_or-take}
use mathlib.Core.List.{List, [], ◌∷◌, ◌++◌}
use Rattle.std.proofs.Math.Bool.{true, false}
use Rattle.std.proofs.Math.Logic.{inl, inr}
use Prim.Native.Nat.{ℕ, zero, suc, ◌+◌, ◌≤◌, ◌<◌}
use native.Mathlib.Omega.{arith}
use Rattle.std.proofs.Math.ListN.{length, get_or}
use Rattle.std.proofs.Math.Dec.{eqb}
use Rattle.basics.specs.Choice.{pick}
use Rattle.basics.specs.TestLaws.{apart, true-false, eq_of}
use Rattle.type_text.specs.Spelling.{is_blank, in_word, Token, word, colon, opening, closing, dot, question, zero_to_one, one_to_one}
use Rattle.type_text.specs.Reader.{Lexeme, space, found, broken, word_bytes, bracket_end, bracket_at, mark_at, lexeme_at, Item, token, fault}
use Rattle.type_text.specs.Reader.{items_by, items_from}
use Rattle.type_text.proofs.SpellingLaws.{pick-case, pick-either, is_space, word-bytes-split}
use Rattle.type_text.proofs.LookaheadLaws.{Bracket, bracket_zero, bracket_one, bracket_part, Alike, alike_same, alike_bracket}
use Rattle.type_text.proofs.LookaheadLaws.{Offence, offence_next, offence_inside}

-- An item is among others.
pub data ItemIn (i : Item) : List Item → Type 0 where
  item_first : {l : List Item} → ItemIn i (i ∷ l)
  item_later : {j : Item} {l : List Item} → ItemIn i l → ItemIn i (j ∷ l)

pub item-in-append : (i : Item) (t o : List Item) → ItemIn i (t ++ (i ∷ o))
item-in-append i [] o = item_first
item-in-append i (j ∷ t) o = item_later (item-in-append i t o)

-- ---- bytes that agree

agree-cons : (n b : ℕ) (s s' : List ℕ) → take (suc n) (b ∷ s) ≡ take (suc n) s' → (r : List ℕ) × (s' ≡ b ∷ r) × (take n s ≡ take n r)
agree-cons n b s [] e = let z : ◌≡◌ {A = ℕ} 0 1 = cc in absurd (omega arith)
agree-cons n b s (c ∷ r) e = (r, cc, cc)

agree_at : (n i : ℕ) (s s' : List ℕ) → take n s ≡ take n s' → i < n → get_or s i 0 ≡ get_or s' i 0
agree_at n i s s' e h = sym (get_or-take n s i 0 h) ∙ ap (λ (x : List ℕ). get_or x i 0) e ∙ get_or-take n s' i 0 h

agree-word : (n : ℕ) (s s' : List ℕ) → take n s ≡ take n s' → length (word_bytes s) < n → word_bytes s ≡ word_bytes s'
unfolding word_bytes
agree-word zero s s' e h = absurd (omega arith)
agree-word (suc n) [] [] e h = refl
agree-word (suc n) [] (c ∷ s') e h = let z : ◌≡◌ {A = ℕ} 0 1 = cc in absurd (omega arith)
agree-word (suc n) (b ∷ s) s' e h =
    let a = agree-cons n b s s' e in
    rw a.1 (by (in_word b) a.0 (λ k. agree-word n s a.0 a.2 k) h)
  where
    by : (t : Bool) (r : List ℕ) → (length (word_bytes s) < n → word_bytes s ≡ word_bytes r) → length (pick t (b ∷ word_bytes s) []) < suc n
        → pick t (b ∷ word_bytes s) [] ≡ pick t (b ∷ word_bytes r) []
    by true r f k = ap {B = List ℕ} (λ x. b ∷ x) (f (omega arith))
    by false r f k = refl

-- ---- lexemes that agree

-- How many bytes after the first tell a mark.
abbrev pub span : Lexeme → ℕ
span space = 0
span (found k n) = n
span (broken n) = n

module _ (s s' : List ℕ) where
  test-agrees : (i n : ℕ) {t : Bool} → get_or s i 0 ≡ get_or s' i 0 → eqb (get_or s i 0) n ≡ t → eqb (get_or s' i 0) n ≡ t
  test-agrees i n e f = ap (λ (x : ℕ). eqb x n) (sym e) ∙ f

  end-agrees : (k : Token) → ((i : ℕ) → i < span (bracket_end k s) → get_or s i 0 ≡ get_or s' i 0) → bracket_end k s' ≡ bracket_end k s
  unfolding bracket_end
  end-agrees k = by (eqb (get_or s 1 0) 44) (eqb (get_or s 2 0) 49) (eqb (get_or s 3 0) 93) refl refl refl
    where
      by : (x y z : Bool) → eqb (get_or s 1 0) 44 ≡ x → eqb (get_or s 2 0) 49 ≡ y → eqb (get_or s 3 0) 93 ≡ z
          → ((i : ℕ) → i < span (pick x (pick y (pick z (found k 4) (broken 4)) (broken 3)) (broken 2)) → get_or s i 0 ≡ get_or s' i 0)
          → bracket_end k s' ≡ pick x (pick y (pick z (found k 4) (broken 4)) (broken 3)) (broken 2)
      by false y z a b c h = rw (test-agrees 1 44 (h 1 (omega arith)) a) refl
      by true false z a b c h = rw (test-agrees 1 44 (h 1 (omega arith)) a, test-agrees 2 49 (h 2 (omega arith)) b) refl
      by true true false a b c h =
          rw (test-agrees 1 44 (h 1 (omega arith)) a, test-agrees 2 49 (h 2 (omega arith)) b, test-agrees 3 93 (h 3 (omega arith)) c) refl
      by true true true a b c h =
          rw (test-agrees 1 44 (h 1 (omega arith)) a, test-agrees 2 49 (h 2 (omega arith)) b, test-agrees 3 93 (h 3 (omega arith)) c) refl

  span-end : (k : Token) → 0 < span (bracket_end k s)
  unfolding bracket_end
  span-end k =
      let P : Lexeme → Type 0 = λ x. 0 < span x in
      pick-either P (eqb (get_or s 1 0) 44)
      (pick-either P (eqb (get_or s 2 0) 49) (pick-either P (eqb (get_or s 3 0) 93) (omega arith) (omega arith)) (omega arith)) (omega arith)

  bracket-agrees : ((i : ℕ) → i < span (bracket_at s) → get_or s i 0 ≡ get_or s' i 0) → bracket_at s' ≡ bracket_at s
  unfolding bracket_at
  bracket-agrees = by (eqb (get_or s 0 0) 48) (eqb (get_or s 0 0) 49) refl refl
    where
      by : (x y : Bool) → eqb (get_or s 0 0) 48 ≡ x → eqb (get_or s 0 0) 49 ≡ y
          → ((i : ℕ) → i < span (pick x (bracket_end zero_to_one s) (pick y (bracket_end one_to_one s) (broken 1))) → get_or s i 0 ≡ get_or s' i 0)
          → bracket_at s' ≡ pick x (bracket_end zero_to_one s) (pick y (bracket_end one_to_one s) (broken 1))
      by true y a b h = rw (test-agrees 0 48 (h 0 (span-end zero_to_one)) a) (end-agrees zero_to_one h)
      by false true a b h =
          let e = h 0 (span-end one_to_one) in
          rw (test-agrees 0 48 e a, test-agrees 0 49 e b) (end-agrees one_to_one h)
      by false false a b h =
          let e = h 0 (omega arith) in
          rw (test-agrees 0 48 e a, test-agrees 0 49 e b) refl

  -- A mark that is not in brackets goes by its first byte.
  mark-plain : (b : ℕ) → eqb b 91 ≡ false → mark_at b s' ≡ mark_at b s
  unfolding mark_at
  mark-plain b e = rw e refl

  pub mark-agrees : (b : ℕ) → ((i : ℕ) → i < span (mark_at b s) → get_or s i 0 ≡ get_or s' i 0) → mark_at b s' ≡ mark_at b s
  unfolding mark_at
  mark-agrees b h = by (eqb b 91) refl
    where
      by : (t : Bool) → eqb b 91 ≡ t → mark_at b s' ≡ mark_at b s
      by false e = mark-plain b e
      by true e =
          let q : b ≡ 91 = eq_of b 91 e in
          let h' : (i : ℕ) → i < span (mark_at 91 s) → get_or s i 0 ≡ get_or s' i 0 = rw q at h in
          rw q (bracket-agrees h')

-- How many bytes after the first tell a lexeme: of a word, the one after it too.
abbrev told : Lexeme → ℕ
told space = 0
told (found k n) = suc n
told (broken n) = n

span-told : (x : Lexeme) → span x ≤ told x
span-told space = omega arith
span-told (found k n) = omega arith
span-told (broken n) = omega arith

-- A cardinality in brackets, whole or broken off after its first byte.
abbrev bracketed : Lexeme → Bool
bracketed space = false
bracketed (found (word w) n) = false
bracketed (found colon n) = false
bracketed (found opening n) = false
bracketed (found closing n) = false
bracketed (found dot n) = false
bracketed (found question n) = false
bracketed (found zero_to_one n) = true
bracketed (found one_to_one n) = true
bracketed (broken zero) = false
bracketed (broken (suc n)) = true

bracket-bracketed : (s : List ℕ) → bracketed (bracket_at s) ≡ true
unfolding bracket_at bracket_end
bracket-bracketed s =
    let P : Lexeme → Type 0 = λ x. bracketed x ≡ true in
    let end : (k : Token) → bracketed (found k 4) ≡ true → P (bracket_end k s) =
    λ k e. pick-either P (eqb (get_or s 1 0) 44) (pick-either P (eqb (get_or s 2 0) 49) (pick-either P (eqb (get_or s 3 0) 93) e refl) refl) refl in
    pick-either P (eqb (get_or s 0 0) 48) (end zero_to_one refl) (pick-either P (eqb (get_or s 0 0) 49) (end one_to_one refl) refl)

mark-bracket : (b : ℕ) (s : List ℕ) → eqb b 91 ≡ true → mark_at b s ≡ bracket_at s
unfolding mark_at
mark-bracket b s e = let q : b ≡ 91 = eq_of b 91 e in rw q refl

word_first : (b : ℕ) (s : List ℕ) → in_word b ≡ true → word_bytes (b ∷ s) ≡ b ∷ word_bytes s
unfolding word_bytes
word_first b s e = rw e refl

module _ (b : ℕ) (s s' : List ℕ) where
  lexeme-agrees : (n : ℕ) (x : Lexeme) → lexeme_at b s ≡ x → take n s ≡ take n s' → told x ≤ n → lexeme_at b s' ≡ x
  unfolding lexeme_at
  lexeme-agrees n x e a h =
      pick-case (is_blank b) e
      (λ t f. rw t f)
      (λ t f. pick-case (in_word b) f
      (λ u g.
      let q : told x ≡ suc (length (word_bytes s)) = ap told (sym g) in
      let w : word_bytes s ≡ word_bytes s' = agree-word n s s' a (omega arith) in
      rw (t, u, sym w) g)
      (λ u g.
      let q : span x ≡ span (mark_at b s) = ap span (sym g) in
      let k = mark-agrees s s' b (λ i j. agree_at n i s s' a (omega (arith, span-told x))) in
      rw (t, u, k) g))

  -- Where a lexeme begins with the same byte and a word there is the same one: the same lexeme, or both are in brackets.
  lexeme-first : (x : Lexeme) → lexeme_at b s ≡ x → ((w : List ℕ) (n : ℕ) → x ≡ found (word w) n → word_bytes (b ∷ s') ≡ w)
      → (lexeme_at b s' ≡ x) ⊎ ((bracketed x ≡ true) × (bracketed (lexeme_at b s') ≡ true))
  unfolding lexeme_at
  lexeme-first x e h =
      pick-case (is_blank b) e
      (λ t f. inl (rw t f))
      (λ t f. pick-case (in_word b) f
      (λ u g.
      let q : b ∷ word_bytes s' ≡ b ∷ word_bytes s = sym (word_first b s' u) ∙ h (b ∷ word_bytes s) (length (word_bytes s)) (sym g) in
      let w : word_bytes s' ≡ word_bytes s = cc in
      inl (rw (t, u, w) g))
      (λ u g. by (eqb b 91) refl t u g))
    where
      by : (y : Bool) → eqb b 91 ≡ y → is_blank b ≡ false → in_word b ≡ false → mark_at b s ≡ x
          → (lexeme_at b s' ≡ x) ⊎ ((bracketed x ≡ true) × (bracketed (lexeme_at b s') ≡ true))
      by false e t u g = inl (rw (t, u, mark-plain s s' b e) g)
      by true e t u g =
          inr (
            ap bracketed (sym g ∙ mark-bracket b s e) ∙ bracket-bracketed s,
            rw (t, u) (ap bracketed (mark-bracket b s' e) ∙ bracket-bracketed s'),
          )

-- What stands first among the items of brackets.
bracket-first : (at : ℕ) (x : Lexeme) (after : ℕ → List Item) → bracketed x ≡ true
    → (i : Item) × (l : List Item) × (items_by at x after ≡ i ∷ l) × Bracket at i
bracket-first at space after e = apart e
bracket-first at (found (word w) n) after e = apart e
bracket-first at (found colon n) after e = apart e
bracket-first at (found opening n) after e = apart e
bracket-first at (found closing n) after e = apart e
bracket-first at (found dot n) after e = apart e
bracket-first at (found question n) after e = apart e
bracket-first at (found zero_to_one n) after e = (token at zero_to_one, after n, refl, bracket_zero)
bracket-first at (found one_to_one n) after e = (token at one_to_one, after n, refl, bracket_one)
bracket-first at (broken zero) after e = apart e
bracket-first at (broken (suc n)) after e = (fault at (at + suc n), [], refl, (let h : at < at + suc n = omega arith in bracket_part h))

-- ---- places

abbrev pub item_place : Item → ℕ
item_place (token p k) = p
item_place (fault p q) = p

-- No byte of an item is before its place.
abbrev NotBefore : Item → Type 0
NotBefore (token p k) = Unit {0}
NotBefore (fault p q) = p ≤ q

places-by : (at b : ℕ) (s : List ℕ) (x : Lexeme) {i : Item} → ((n : ℕ) → ItemIn i (items_from n (at + 1) s) → (at + 1 + n ≤ item_place i) × NotBefore i)
    → ItemIn i (items_by at x (λ n. items_from n (at + 1) s)) → (at + 0 ≤ item_place i) × NotBefore i
places-by at b s space f h = let a = f 0 h in (omega arith, a.1)
places-by at b s (found k n) f item_first = (omega arith, tt)
places-by at b s (found k n) f (item_later h) = let a = f n h in (omega arith, a.1)
places-by at b s (broken n) f item_first = (omega arith, omega arith)
places-by at b s (broken n) f (item_later h) = elim h [ ]

pub items-places : (n at : ℕ) (s : List ℕ) {i : Item} → ItemIn i (items_from n at s) → (at + n ≤ item_place i) × NotBefore i
unfolding items_from
items-places n at [] h = elim h [ ]
items-places zero at (b ∷ s) h = places-by at b s (lexeme_at b s) (λ n. items-places n (at + 1) s) h
items-places (suc n) at (b ∷ s) h = let a = items-places n (at + 1) s h in (omega arith, a.1)

-- So no offence is before the items.
offence-after : (n at size p : ℕ) (s : List ℕ) (t : List Item) (i : Item) (o : List Item) → items_from n at s ≡ t ++ (i ∷ o)
    → Offence size p (i ∷ o) → at + n ≤ p
offence-after n at size p s t i o e f = by i f (items-places n at s {i = i} (rw e (item-in-append i t o)))
  where
    by : (i : Item) → Offence size p (i ∷ o) → (at + n ≤ item_place i) × NotBefore i → at + n ≤ p
    by (token q k) (offence_next h) a = omega arith
    by (fault q r) (offence_next h) a = omega arith
    by (fault q r) offence_inside a = omega arith

-- ---- texts that agree as far as an item

nothing-before : (t : List Item) (i : Item) (o : List Item) {P : Type 0} → [] ≡ t ++ (i ∷ o) → P
nothing-before [] i o e = let z : ◌≡◌ {A = ℕ} 0 1 = cc in absurd (omega arith)
nothing-before (j ∷ t) i o e = let z : ◌≡◌ {A = ℕ} 0 1 = cc in absurd (omega arith)

offence-token : {size p q : ℕ} {k : Token} (i : Item) {o : List Item} → token q k ≡ i → Offence size p (i ∷ o) → p ≡ q
offence-token (token q' k') e (offence_next h) = h ∙ cc
offence-token (fault q' r) e f = let z : ◌≡◌ {A = ℕ} 0 1 = cc in absurd (omega arith)

offence-fault : {size p q r : ℕ} (i : Item) {o : List Item} → fault q r ≡ i → Offence size p (i ∷ o) → (p ≡ q) ⊎ (p ≡ r)
offence-fault (token q' k') e f = let z : ◌≡◌ {A = ℕ} 0 1 = cc in absurd (omega arith)
offence-fault (fault q' r') e (offence_next h) = inl (h ∙ cc)
offence-fault (fault q' r') e offence_inside = inr (cc)

-- The items t come first, and then one like i at p.
abbrev pub LikeAt : ℕ → List Item → List Item → Item → List Item → Type 0
LikeAt p l t i o = (o' : List Item) × (l ≡ t ++ o') × Alike p (i ∷ o) o'

-- The item is told by the lexeme alone.
same_first : (at : ℕ) (x : Lexeme) (after after' : ℕ → List Item) {i : Item} {o : List Item} → (is_space x ≡ false) → items_by at x after ≡ i ∷ o
    → Alike at (i ∷ o) (items_by at x after')
same_first at space after after' h e = true-false h
same_first at (found k n) after after' {i} {o} h e = let q : token at k ≡ i = cc in rw (sym q) alike_same
same_first at (broken n) after after' {i} {o} h e = let q : fault at (at + n) ≡ i = cc in rw (sym q) alike_same

first-like : (b : ℕ) (s r : List ℕ) (at : ℕ) (x : Lexeme) (after after' : ℕ → List Item) {i : Item} {o : List Item} → is_space x ≡ false
    → lexeme_at b s ≡ x → ((w : List ℕ) (n : ℕ) → x ≡ found (word w) n → word_bytes (b ∷ r) ≡ w) → items_by at x after ≡ i ∷ o
    → Alike at (i ∷ o) (items_by at (lexeme_at b r) after')
first-like b s r at x after after' {i} {o} n e w h = elim (lexeme-first b s r x e w) [
  | inl q ↦ rw q (same_first at x after after' n h)
  | inr q ↦
      let u = bracket-first at x after q.0 in
      let v = bracket-first at (lexeme_at b r) after' q.1 in
      let j : u.0 ≡ i = cc u.2 in
      rw v.2 (alike_bracket (rw j at u.3) v.3)
]

module _ (size p : ℕ) where
  -- Bytes that agree with s through p, the words there too, have like items.
  abbrev pub ItemsAgree : List ℕ → Type 0
  ItemsAgree s =
      (r : List ℕ) (n at d : ℕ) (t : List Item) (i : Item) (o : List Item) → p ≡ at + d → take (suc d) s ≡ take (suc d) r
      → ((w : List ℕ) → ItemIn (token p (word w)) (items_from n at s) → word_bytes (drop d r) ≡ w)
      → items_from n at s ≡ t ++ (i ∷ o) → Offence size p (i ∷ o) → LikeAt p (items_from n at r) t i o

  module _ (b : ℕ) (s r : List ℕ) (f : ItemsAgree s) (at d : ℕ) (i : Item) (o : List Item) (q : p ≡ at + d) (a : take d s ≡ take d r)
      (g : Offence size p (i ∷ o)) where
    later-like : (d' : ℕ) → d ≡ d' → (n : ℕ) (t : List Item)
        → ((w : List ℕ) → ItemIn (token p (word w)) (items_from n (at + 1) s) → word_bytes (drop d (b ∷ r)) ≡ w)
        → items_from n (at + 1) s ≡ t ++ (i ∷ o) → LikeAt p (items_from n (at + 1) r) t i o
    later-like zero z n t w e = let h = offence-after n (at + 1) size p s t i o e g in absurd (omega arith)
    later-like (suc d') z n t w e =
        f r n (at + 1) d' t i o (omega arith) (rw z at a) (λ v j. ap (λ (y : ℕ). word_bytes (drop y (b ∷ r))) (sym z) ∙ w v j) e g

    lexeme-like : (x : Lexeme) → lexeme_at b s ≡ x → (t : List Item)
        → ((w : List ℕ) → ItemIn (token p (word w)) (items_by at x (λ n. items_from n (at + 1) s)) → word_bytes (drop d (b ∷ r)) ≡ w)
        → items_by at x (λ n. items_from n (at + 1) s) ≡ t ++ (i ∷ o)
        → LikeAt p (items_by at (lexeme_at b r) (λ n. items_from n (at + 1) r)) t i o
    lexeme-like space e t w h = rw (lexeme-agrees b s r d space e a (omega arith)) (later-like d refl 0 t w h)
    lexeme-like (found k n) e [] w h =
        let k₁ : token at k ≡ i = cc in
        let z : p ≡ at = offence-token i k₁ g in
        let y : d ≡ 0 = omega arith in
        let v : (u : List ℕ) (m : ℕ) → found k n ≡ found (word u) m → word_bytes (b ∷ r) ≡ u =
        λ u m c. ap (λ (x : ℕ). word_bytes (drop x (b ∷ r))) (sym y) ∙ w u (let l : k ≡ word u = cc in rw (z, l) item_first) in (
          items_by at (lexeme_at b r) (λ n. items_from n (at + 1) r),
          refl,
          rw z (first-like b s r at (found k n) (λ n. items_from n (at + 1) s) (λ n. items_from n (at + 1) r) refl e v h),
        )
    lexeme-like (found k n) e (j ∷ t) w h =
        let h' : items_from n (at + 1) s ≡ t ++ (i ∷ o) = cc in
        let j' : token at k ≡ j = cc in
        let m = offence-after n (at + 1) size p s t i o h' g in
        let y = later-like d refl n t (λ v l. w v (item_later l)) h' in
        rw (lexeme-agrees b s r d (found k n) e a (omega arith))
        (y.0, ap {B = List Item} (λ z. token at k ∷ z) y.1 ∙ ap {B = List Item} (λ z. z ∷ (t ++ y.0)) j', y.2)
    lexeme-like (broken n) e [] w h = elim (offence-fault i (fault-is h) g) [
      | inl z ↦
          let v : (u : List ℕ) (m : ℕ) → broken n ≡ found (word u) m → word_bytes (b ∷ r) ≡ u = λ u m c. cc in (
            items_by at (lexeme_at b r) (λ n. items_from n (at + 1) r),
            refl,
            rw z (first-like b s r at (broken n) (λ n. items_from n (at + 1) s) (λ n. items_from n (at + 1) r) refl e v h),
          )
      | inr z ↦
          rw (lexeme-agrees b s r d (broken n) e a (omega arith))
          (fault at (at + n) ∷ [], refl, rw (sym (fault-is h)) alike_same)
    ]
      where
        fault-is : {q : Item} → fault at (at + n) ∷ [] ≡ q ∷ o → fault at (at + n) ≡ q
        fault-is h = cc
    lexeme-like (broken n) e (j ∷ t) w h = nothing-before t i o (cc)

  -- Texts that agree through p have the same items before the one that offends there, and a like one there.
  pub items-agree : (s : List ℕ) → ItemsAgree s
  unfolding items_from
  items-agree [] r n at d t i o q a w e g = nothing-before t i o e
  items-agree (b ∷ s) r zero at d t i o q a w e g =
      let c = agree-cons d b s r a in
      rw c.1 (lexeme-like b s c.0 (items-agree s) at d i o q c.2 g (lexeme_at b s) refl t (λ v l. rw c.1 at (w v l)) e)
  items-agree (b ∷ s) r (suc n) at d t i o q a w e g =
      let c = agree-cons d b s r a in
      rw c.1 (later-like b s c.0 (items-agree s) at d i o q c.2 g d refl n t (λ v l. rw c.1 at (w v l)) e)

-- ---- no place is past the end

byte-within : (s : List ℕ) (i a : ℕ) → eqb (get_or s i 0) (suc a) ≡ true → i < length s
byte-within [] i a e = let z = eq_of 0 (suc a) e in absurd (omega arith)
byte-within (b ∷ s) zero a e = omega arith
byte-within (b ∷ s) (suc i) a e = let h = byte-within s i a e in omega arith

pick-when : {A : Type 0} (P : A → Type 0) (t : Bool) {x y : A} → (t ≡ true → P x) → P y → P (pick t x y)
pick-when P true f q = f refl
pick-when P false f q = q

-- A lexeme ends in m more bytes, a broken one perhaps right after them.
abbrev pub EndsIn : ℕ → Lexeme → Type 0
EndsIn m space = Unit {0}
EndsIn m (found k n) = n ≤ m
EndsIn m (broken n) = n ≤ suc m

word-shorter : (s : List ℕ) → length (word_bytes s) ≤ length s
word-shorter s =
    let r = drop (length (word_bytes s)) s in
    let e : length (word_bytes s) + length r ≡ length s = sym (length-append (word_bytes s) r) ∙ ap length (word-bytes-split s) in
    omega arith

module _ (b : ℕ) (s : List ℕ) where
  bracket-ends : EndsIn (length s) (bracket_at s)
  unfolding bracket_at bracket_end
  bracket-ends =
      let P : Lexeme → Type 0 = EndsIn (length s) in
      let end : (k : Token) → 0 < length s → P (bracket_end k s) =
      λ k h. pick-when P (eqb (get_or s 1 0) 44)
      (λ u. let i = byte-within s 1 43 u in pick-when P (eqb (get_or s 2 0) 49)
      (λ v. let j = byte-within s 2 48 v in pick-when P (eqb (get_or s 3 0) 93) (λ w. byte-within s 3 92 w) (omega arith)) (omega arith)) (omega arith) in
      pick-when P (eqb (get_or s 0 0) 48) (λ u. end zero_to_one (byte-within s 0 47 u))
      (pick-when P (eqb (get_or s 0 0) 49) (λ u. end one_to_one (byte-within s 0 48 u)) (omega arith))

  pub lexeme-ends : EndsIn (length s) (lexeme_at b s)
  unfolding lexeme_at mark_at
  lexeme-ends =
      let P : Lexeme → Type 0 = EndsIn (length s) in
      let z : 0 ≤ length s = omega arith in
      pick-either P (is_blank b) tt (pick-either P (in_word b) (word-shorter s)
      (pick-either P (eqb b 58) z (pick-either P (eqb b 123) z (pick-either P (eqb b 125) z (pick-either P (eqb b 46) z
      (pick-either P (eqb b 63) z (pick-either P (eqb b 91) bracket-ends (omega arith))))))))

-- An item's places are in a text of this length, that of a departing byte perhaps at its end.
abbrev pub PlacesIn : ℕ → Item → Type 0
PlacesIn size (token p k) = p < size
PlacesIn size (fault p q) = (p < size) × (q ≤ size)

within_by : (at : ℕ) (s : List ℕ) (x : Lexeme) {i : Item} → EndsIn (length s) x
    → ((n : ℕ) → ItemIn i (items_from n (at + 1) s) → PlacesIn (at + suc (length s)) i)
    → ItemIn i (items_by at x (λ n. items_from n (at + 1) s)) → PlacesIn (at + suc (length s)) i
within_by at s space e f h = f 0 h
within_by at s (found k n) e f item_first = omega arith
within_by at s (found k n) e f (item_later h) = f n h
within_by at s (broken n) e f item_first = (omega arith, omega arith)
within_by at s (broken n) e f (item_later h) = elim h [ ]

pub items-within : (n at : ℕ) (s : List ℕ) {i : Item} → ItemIn i (items_from n at s) → PlacesIn (at + length s) i
unfolding items_from
items-within n at [] h = elim h [ ]
items-within zero at (b ∷ s) {i} h =
    let z : at + 1 + length s ≡ at + suc (length s) = omega arith in
    within_by at s (lexeme_at b s) (lexeme-ends b s) (λ n g. subst (λ (e : ℕ). PlacesIn e i) z (items-within n (at + 1) s g)) h
items-within (suc n) at (b ∷ s) {i} h =
    let z : at + 1 + length s ≡ at + suc (length s) = omega arith in
    subst (λ (e : ℕ). PlacesIn e i) z (items-within n (at + 1) s h)

-- ---- where words stand

abbrev word_lexeme : Lexeme → Bool
word_lexeme space = false
word_lexeme (found (word w) n) = true
word_lexeme (found colon n) = false
word_lexeme (found opening n) = false
word_lexeme (found closing n) = false
word_lexeme (found dot n) = false
word_lexeme (found question n) = false
word_lexeme (found zero_to_one n) = false
word_lexeme (found one_to_one n) = false
word_lexeme (broken n) = false

mark-no-word : (b : ℕ) (s : List ℕ) → word_lexeme (mark_at b s) ≡ false
unfolding mark_at bracket_at bracket_end
mark-no-word b s =
    let P : Lexeme → Type 0 = λ x. word_lexeme x ≡ false in
    let end : (k : Token) → P (found k 4) → P (bracket_end k s) =
    λ k h. pick-either P (eqb (get_or s 1 0) 44) (pick-either P (eqb (get_or s 2 0) 49) (pick-either P (eqb (get_or s 3 0) 93) h refl) refl) refl in
    pick-either P (eqb b 58) refl (pick-either P (eqb b 123) refl (pick-either P (eqb b 125) refl (pick-either P (eqb b 46) refl
    (pick-either P (eqb b 63) refl (pick-either P (eqb b 91)
    (pick-either P (eqb (get_or s 0 0) 48) (end zero_to_one refl) (pick-either P (eqb (get_or s 0 0) 49) (end one_to_one refl) refl)) refl)))))

lexeme-word : (b : ℕ) (s w : List ℕ) (n : ℕ) → lexeme_at b s ≡ found (word w) n → word_bytes (b ∷ s) ≡ w
unfolding lexeme_at
lexeme-word b s w n e =
    pick-case (is_blank b) e (λ _ f. apart (ap word_lexeme f))
    (λ _ f. pick-case (in_word b) f (λ u g. word_first b s u ∙ cc) (λ _ g. apart (sym (mark-no-word b s) ∙ ap word_lexeme g)))

-- A word that begins at p is the bytes there.
abbrev WordAt : ℕ → List ℕ → ℕ → List ℕ → Type 0
WordAt at s p w = (d : ℕ) × (p ≡ at + d) × (word_bytes (drop d s) ≡ w)

word-later : (at b : ℕ) (s : List ℕ) {p : ℕ} {w : List ℕ} → WordAt (at + 1) s p w → WordAt at (b ∷ s) p w
word-later at b s a = let z = a.1 in (suc a.0, omega arith, a.2)

word-by : (at b : ℕ) (s : List ℕ) (x : Lexeme) {p : ℕ} {w : List ℕ} → lexeme_at b s ≡ x
    → ((n : ℕ) → ItemIn (token p (word w)) (items_from n (at + 1) s) → WordAt (at + 1) s p w)
    → ItemIn (token p (word w)) (items_by at x (λ n. items_from n (at + 1) s)) → WordAt at (b ∷ s) p w
word-by at b s space e f h = word-later at b s (f 0 h)
word-by at b s (found k n) {w = w} e f item_first = (0, omega arith, lexeme-word b s w n e)
word-by at b s (found k n) e f (item_later h) = word-later at b s (f n h)
word-by at b s (broken n) e f (item_later h) = elim h [ ]

pub items-word-at : (n at : ℕ) (s : List ℕ) {p : ℕ} {w : List ℕ} → ItemIn (token p (word w)) (items_from n at s) → WordAt at s p w
unfolding items_from
items-word-at n at [] h = elim h [ ]
items-word-at zero at (b ∷ s) h = word-by at b s (lexeme_at b s) refl (λ n. items-word-at n (at + 1) s) h
items-word-at (suc n) at (b ∷ s) h = word-later at b s (items-word-at n (at + 1) s h)
