-- The bytes before the first offending byte begin a text of the grammar (`offends-begins`).
use Rattle.std.proofs.Math.Path.{◌≡◌, refl, sym, ap, subst}
use Rattle.std.proofs.Common.{◌∙◌, arith, take-append-drop, take-add}
use mathlib.Core.List.{List, [], ◌∷◌, ◌++◌, append_assoc}
use Rattle.std.specs.Prelude.{Bool, get_or, eqb}
use Rattle.std.proofs.Math.Bool.{true, false}
use Prim.Native.Nat.{ℕ, zero, suc, ◌+◌, ◌≤◌}
use Rattle.std.proofs.Math.ListN.{length, take, drop, length-take, get_or-append}
use Rattle.std.proofs.Math.Seq.{take-nil, drop-nil, get_or-take}
use Rattle.std.proofs.lemmas.List.{drop-append-le}
use Rattle.basics.specs.Choice.{pick}
use Rattle.basics.specs.TestLaws.{eq_of, not-true}
use Rattle.type_text.specs.Spelling.{is_blank, in_word, Token, word, colon, opening, closing, dot, question, zero_to_one, one_to_one, spelling}
use Rattle.type_text.specs.Spelling.{ends_word, Spelled, nothing, blank, marked, spelt}
use Rattle.type_text.specs.Grammar.{Declaration, TypeText}
use Rattle.type_text.specs.Reader.{Lexeme, space, found, broken, word_bytes, bracket_end, bracket_at, mark_at, lexeme_at, Item, token, fault, items_by}
use Rattle.type_text.specs.Reader.{items_from, items_at, offends, next_place, read_text}
use Rattle.type_text.proofs.SpellingLaws.{pick-case, space-blank, lexeme-spelled, drop-is}
use Rattle.type_text.proofs.PlaceLaws.{ItemIn, item_first, item_later, span, mark-agrees, items-places, EndsIn, lexeme-ends}
use Rattle.type_text.proofs.ReaderLaws.{CarriesTo, carried_here, carried_more, proper-none}
use Rattle.type_text.proofs.ViableLaws.{Spellable, Bracketed, optional_bracket, mandatory_bracket, SomeDeclarations, Viable, goes_on, goes_on_inside}
use Rattle.type_text.proofs.ViableLaws.{declarations-viable}

-- ---- bytes for tokens

-- Each after a blank.
spell_out : List Token → List ℕ
spell_out [] = []
spell_out (k ∷ n) = 32 ∷ (spelling k ++ spell_out n)

out-ends : (n : List Token) → ends_word (spell_out n) ≡ true
unfolding spell_out
out-ends [] = refl
out-ends (k ∷ n) = refl

out-spelled : (n : List Token) → Spellable n → Spelled (spell_out n) n
unfolding spell_out spelling
out-spelled [] h = nothing
out-spelled (word w ∷ n) h = blank refl (spelt h.0 (out-ends n) (out-spelled n h.1))
out-spelled (colon ∷ n) h = blank refl (marked {k = colon} refl (out-spelled n h))
out-spelled (opening ∷ n) h = blank refl (marked {k = opening} refl (out-spelled n h))
out-spelled (closing ∷ n) h = blank refl (marked {k = closing} refl (out-spelled n h))
out-spelled (dot ∷ n) h = blank refl (marked {k = dot} refl (out-spelled n h))
out-spelled (question ∷ n) h = blank refl (marked {k = question} refl (out-spelled n h))
out-spelled (zero_to_one ∷ n) h = blank refl (marked {k = zero_to_one} refl (out-spelled n h))
out-spelled (one_to_one ∷ n) h = blank refl (marked {k = one_to_one} refl (out-spelled n h))

-- ---- a lexeme whose text is cut after it

ends-no-word : (z : List ℕ) → ends_word z ≡ true → word_bytes z ≡ []
unfolding word_bytes
ends-no-word [] e = refl
ends-no-word (b ∷ z) e = rw (not-true (in_word b) e) refl

cut_word : (d : ℕ) (s z : List ℕ) → length (word_bytes s) ≤ d → ends_word z ≡ true → word_bytes (take d s ++ z) ≡ word_bytes s
unfolding word_bytes
cut_word zero s z h e = ends-no-word z e ∙ empty (word_bytes s) h
  where
    empty : (w : List ℕ) → length w ≤ 0 → [] ≡ w
    empty [] h = refl
    empty (b ∷ w) h = absurd (omega arith)
cut_word (suc d) [] z h e = ends-no-word z e
cut_word (suc d) (b ∷ s) z h e = by (in_word b) (λ h. cut_word d s z h e) h
  where
    by : (t : Bool) → (length (word_bytes s) ≤ d → word_bytes (take d s ++ z) ≡ word_bytes s) → length (pick t (b ∷ word_bytes s) []) ≤ suc d
        → pick t (b ∷ word_bytes (take d s ++ z)) [] ≡ pick t (b ∷ word_bytes s) []
    by true f h = ap {B = List ℕ} (λ x. b ∷ x) (f (omega arith))
    by false f h = refl

module _ (b : ℕ) (s z : List ℕ) (d : ℕ) where
  cut-lexeme : {k : Token} {q : ℕ} → lexeme_at b s ≡ found k q → q ≤ d → q ≤ length s → ends_word z ≡ true → lexeme_at b (take d s ++ z) ≡ found k q
  unfolding lexeme_at
  cut-lexeme {k} {q} e h n w =
      pick-case (is_blank b) e
      (λ t f. rw t f)
      (λ t f. pick-case (in_word b) f
      (λ u g.
      let m : q ≡ length (word_bytes s) = cc in
      rw (t, u, cut_word d s z (omega arith) w) g)
      (λ u g.
      let m : span (mark_at b s) ≡ q = ap span g in
      let c = mark-agrees s (take d s ++ z) b (λ i j.
      let l = length-take d s in
      sym (get_or-append (take d s) z 0 i (omega arith) ∙ get_or-take d s i 0 (omega arith))) in
      rw (t, u, c) g))

  cut-spelled : {k : Token} {q : ℕ} {l : List Token} → lexeme_at b s ≡ found k q → q ≤ d → q ≤ length s → ends_word z ≡ true
      → Spelled (drop q (take d s) ++ z) l → Spelled (b ∷ (take d s ++ z)) (k ∷ l)
  cut-spelled {k} {q} {l} e h n w x =
      let t = length-take d s in
      let y : Spelled (drop q (take d s ++ z)) l = rw (drop-append-le q (take d s) z (omega arith)) x in
      lexeme-spelled b (take d s ++ z) y (cut-lexeme e h n w)

-- ---- the bytes before an item

carried-in-by : {i : Item} {o : List Item} {n : List Token} {l : List Item} {k : List Token} → CarriesTo (i ∷ o) n l k → ItemIn i l
carried-in-by carried_here = item_first
carried-in-by (carried_more c) = item_later (carried-in-by c)

carried-in : {i : Item} {o l : List Item} {n k : List Token} → CarriesTo (i ∷ o) n l k → ItemIn i l
carried-in c = carried-in-by c

module _ (size p : ℕ) (z : List ℕ) (w : ends_word z ≡ true) {n : List Token} (x : Spelled z n) where
  -- No item after those at a place is before it.
  next-after : (s : List ℕ) (m at : ℕ) (o : List Item) {k : List Token} → size ≡ at + length s → p ≡ next_place size o → m ≤ length s
      → CarriesTo o n (items_from m at s) k → at + m ≤ p
  next-after s m at [] e f h c = omega arith
  next-after s m at (token q j ∷ o) e f h c = omega (arith, (items-places m at s (carried-in c)).0)
  next-after s m at (fault q r ∷ o) e f h c = omega (arith, (items-places m at s (carried-in c)).0)

  -- The tokens of the bytes before p and of z.
  abbrev Before : List ℕ → Type 0
  Before s =
      (m at d : ℕ) (o : List Item) (k : List Token) → size ≡ at + length s → p ≡ at + d → p ≡ next_place size o → m ≤ d → CarriesTo o n (items_from m at s) k
      → Spelled (drop m (take d s) ++ z) k

  before-by : (b : ℕ) (s : List ℕ) → Before s → (y : Lexeme) → lexeme_at b s ≡ y → EndsIn (length s) y → (at d : ℕ) (o : List Item) (k : List Token)
      → size ≡ at + suc (length s) → p ≡ at + d → p ≡ next_place size o → CarriesTo o n (items_by at y (λ q. items_from q (at + 1) s)) k
      → Spelled (take d (b ∷ s) ++ z) k
  before-by b s f space e h at zero o k g i j c = let a = next-after s 0 (at + 1) o (omega arith) j (omega arith) c in absurd (omega arith)
  before-by b s f space e h at (suc d) o k g i j c = blank (space-blank b s e) (f 0 (at + 1) d o k (omega arith) (omega arith) j (omega arith) c)
  before-by b s f (found t q) e h at zero o k g i j carried_here = x
  before-by b s f (found t q) e h at zero o k g i j (carried_more c) =
      let a = next-after s q (at + 1) o (omega arith) j h c in absurd (omega arith)
  before-by b s f (found t q) e h at (suc d) o k g i j carried_here = absurd (omega arith)
  before-by b s f (found t q) e h at (suc d) o k g i j (carried_more {k = l} c) =
      let a = next-after s q (at + 1) o (omega arith) j h c in
      cut-spelled b s z d e (omega arith) h w (f q (at + 1) d o l (omega arith) (omega arith) j (omega arith) c)
  before-by b s f (broken q) e h at zero o k g i j carried_here = x
  before-by b s f (broken q) e h at (suc d) o k g i j carried_here = absurd (omega arith)

  before : (s : List ℕ) → Before s
  unfolding items_from
  before [] m at d o k g i j h c = rw (take-nil {A = ℕ} d, drop-nil {A = ℕ} m) (at-end c)
    where
      at-end : {o : List Item} {k : List Token} → CarriesTo o n [] k → Spelled z k
      at-end carried_here = x
  before (b ∷ s) zero at d o k g i j h c = before-by b s (before s) (lexeme_at b s) refl (lexeme-ends b s) at d o k g i j c
  before (b ∷ s) (suc m) at zero o k g i j h c = absurd (omega arith)
  before (b ∷ s) (suc m) at (suc d) o k g i j h c = before s m (at + 1) d o k (omega arith) (omega arith) j (omega arith) c

-- ---- the bytes of a broken cardinality

not-broken : {P : Type 0} {k : Token} {m n : ℕ} → found k m ≡ broken n → P
not-broken e = let z : ◌≡◌ {A = ℕ} 0 1 = cc in absurd (omega arith)

-- The first n bytes are those of a cardinality in brackets.
abbrev BracketBytes : ℕ → List ℕ → Type 0
BracketBytes n s = (x : Bool) × (k : Token) × Bracketed x k × (take n s ≡ take n (spelling k))

module _ (s : List ℕ) {n : ℕ} where
  end-bytes : (x : Bool) (k : Token) (d : ℕ) → Bracketed x k → spelling k ≡ 91 ∷ d ∷ 44 ∷ 49 ∷ 93 ∷ [] → (d ≡ 0 → ⊥) → eqb (get_or s 0 0) d ≡ true
      → bracket_end k s ≡ broken n → BracketBytes n (91 ∷ s)
  unfolding bracket_end
  end-bytes x k d h e z t0 f =
      let P : ℕ → Type 0 = λ m. take m (91 ∷ s) ≡ take m (spelling k) in
      let e0 = drop-is s 0 d (eq_of (get_or s 0 0) d t0) z in
      pick-case (eqb (get_or s 1 0) 44) f
      (λ t1 f.
      let e1 = drop-is s 1 44 (eq_of (get_or s 1 0) 44 t1) (omega arith) in
      pick-case (eqb (get_or s 2 0) 49) f
      (λ t2 f.
      let e2 = drop-is s 2 49 (eq_of (get_or s 2 0) 49 t2) (omega arith) in
      let es : s ≡ d ∷ 44 ∷ 49 ∷ drop 3 s = e0 ∙ rw (e1, e2) refl in
      pick-case (eqb (get_or s 3 0) 93) f (λ _ f. not-broken f)
      (λ _ f. let q : 4 ≡ n = cc in (x, k, h, subst P q (rw e (ap (λ (y : List ℕ). take 4 (91 ∷ y)) es)))))
      (λ _ f.
      let es : s ≡ d ∷ 44 ∷ drop 2 s = e0 ∙ rw e1 refl in
      let q : 3 ≡ n = cc in
      (x, k, h, subst P q (rw e (ap (λ (y : List ℕ). take 3 (91 ∷ y)) es)))))
      (λ _ f. let q : 2 ≡ n = cc in (x, k, h, subst P q (rw e (ap (λ (y : List ℕ). take 2 (91 ∷ y)) e0))))

  broken-bytes : (b : ℕ) → lexeme_at b s ≡ broken n → BracketBytes n (b ∷ s)
  unfolding lexeme_at mark_at bracket_at spelling
  broken-bytes b e =
      pick-case (is_blank b) e (λ _ f. let z : ◌≡◌ {A = ℕ} 0 1 = cc in absurd (omega arith))
      (λ _ e. pick-case (in_word b) e (λ _ f. not-broken f)
      (λ _ e. pick-case (eqb b 58) e (λ _ f. not-broken f)
      (λ _ e. pick-case (eqb b 123) e (λ _ f. not-broken f)
      (λ _ e. pick-case (eqb b 125) e (λ _ f. not-broken f)
      (λ _ e. pick-case (eqb b 46) e (λ _ f. not-broken f)
      (λ _ e. pick-case (eqb b 63) e (λ _ f. not-broken f)
      (λ _ e. pick-case (eqb b 91) e
      (λ t f.
      let q : b ≡ 91 = eq_of b 91 t in
      subst (λ (y : ℕ). BracketBytes n (y ∷ s)) (sym q)
      (pick-case (eqb (get_or s 0 0) 48) f (λ u g. end-bytes false zero_to_one 48 optional_bracket refl (omega arith) u g)
      (λ _ g. pick-case (eqb (get_or s 0 0) 49) g (λ u g. end-bytes true one_to_one 49 mandatory_bracket refl (omega arith) u g)
      (λ _ g. let m : 1 ≡ n = cc in (false, zero_to_one, optional_bracket, subst (λ (y : ℕ). take y (91 ∷ s) ≡ take y (spelling zero_to_one)) m refl)))))
      (λ _ f. let m : 0 ≡ n = cc in (false, zero_to_one, optional_bracket, subst (λ (y : ℕ). take y (b ∷ s) ≡ take y (spelling zero_to_one)) m refl)))))))))

-- Where a broken cardinality stands, and how many bytes of it.
abbrev FaultAt : ℕ → List ℕ → ℕ → ℕ → Type 0
FaultAt at s q p = (d : ℕ) × (e : ℕ) × (q ≡ at + d) × (p ≡ q + e) × BracketBytes e (drop d s)

fault-later : (at b : ℕ) (s : List ℕ) {q p : ℕ} → FaultAt (at + 1) s q p → FaultAt at (b ∷ s) q p
fault-later at b s a = let z = a.2 in (suc a.0, a.1, omega arith, a.3, a.4)

fault-by : (at b : ℕ) (s : List ℕ) (x : Lexeme) {q p : ℕ} → lexeme_at b s ≡ x → ((m : ℕ) → ItemIn (fault q p) (items_from m (at + 1) s) → FaultAt (at + 1) s q p)
    → ItemIn (fault q p) (items_by at x (λ m. items_from m (at + 1) s)) → FaultAt at (b ∷ s) q p
fault-by at b s space e f h = fault-later at b s (f 0 h)
fault-by at b s (found k n) e f (item_later h) = fault-later at b s (f n h)
fault-by at b s (broken n) e f item_first = (0, n, omega arith, refl, broken-bytes s b e)
fault-by at b s (broken n) e f (item_later h) = elim h [ ]

fault-at : (m at : ℕ) (s : List ℕ) {q p : ℕ} → ItemIn (fault q p) (items_from m at s) → FaultAt at s q p
unfolding items_from
fault-at m at [] h = elim h [ ]
fault-at zero at (b ∷ s) h = fault-by at b s (lexeme_at b s) refl (λ m. fault-at m (at + 1) s) h
fault-at (suc m) at (b ∷ s) h = fault-later at b s (fault-at m (at + 1) s h)

-- ---- the theorem

bracket-spelled : {x : Bool} {k : Token} {z : List ℕ} {n : List Token} → Bracketed x k → Spelled z n → Spelled (spelling k ++ z) (k ∷ n)
bracket-spelled optional_bracket s = marked refl s
bracket-spelled mandatory_bracket s = marked refl s

bracket-ends-word : {x : Bool} {k : Token} (z : List ℕ) → Bracketed x k → ends_word (spelling k ++ z) ≡ true
unfolding spelling
bracket-ends-word z optional_bracket = refl
bracket-ends-word z mandatory_bracket = refl

-- The rest of a cardinality in brackets.
rejoin : (s : List ℕ) (q e : ℕ) (u z : List ℕ) → take e (drop q s) ≡ take e u → take (q + e) s ++ (drop e u ++ z) ≡ take q s ++ (u ++ z)
rejoin s q e u z h =
    ap (λ (y : List ℕ). y ++ (drop e u ++ z)) (take-add q e s ∙ ap (λ (y : List ℕ). take q s ++ y) h)
    ∙ append_assoc (take q s) (take e u) (drop e u ++ z)
    ∙ ap (λ (y : List ℕ). take q s ++ y) (sym (append_assoc (take e u) (drop e u) z) ∙ ap (λ (y : List ℕ). y ++ z) (take-append-drop e u))

-- The bytes before the offending byte inside brackets, the rest of them and other tokens.
inside-spelled : (s : List ℕ) (p q d e : ℕ) (o : List Item) (k : Token) {x : Bool} (n j : List Token) → Bracketed x k → q ≡ 0 + d → p ≡ q + e
    → take e (drop d s) ≡ take e (spelling k) → Spellable n → CarriesTo (fault q p ∷ o) (k ∷ n) (items_from 0 0 s) j
    → Spelled (take p s ++ (drop e (spelling k) ++ spell_out n)) j
inside-spelled s p q d e o k n j b f g h v c =
    let z = spell_out n in
    let y : d ≡ q = omega arith in
    let t : take (q + e) s ++ (drop e (spelling k) ++ z) ≡ take q s ++ (spelling k ++ z) = rejoin s q e (spelling k) z (rw y at h) in
    let u = before (length s) q (spelling k ++ z) (bracket-ends-word z b) (bracket-spelled b (out-spelled n v)) s 0 0 q (fault q p ∷ o) j in
    subst (λ (i : ℕ). Spelled (take i s ++ (drop e (spelling k) ++ z)) j) (sym g)
    (subst (λ (i : List ℕ). Spelled i j) (sym t) (u (omega arith) (omega arith) refl (omega arith) c))

begins-by : (s : List ℕ) (p : ℕ) → Viable (length s) p (SomeDeclarations []) (items_from 0 0 s)
    → (r : List ℕ) × (ds : List Declaration) × TypeText (take p s ++ r) ds
begins-by s p (goes_on {o = o} {n = n} {k = k} j q c d) = (
  spell_out n,
  d.0,
  record {
    tokens = k;
    spelled = before (length s) p (spell_out n) (out-ends n) (out-spelled n q) s 0 0 p o k (omega arith) (omega arith) j (omega arith) c;
    derived = d.1;
  },
)
begins-by s p (goes_on_inside {q = q} {o = o} g) =
    let a = fault-at 0 0 s (carried-in (g false zero_to_one optional_bracket).3) in
    let k = a.4.1 in
    let y = g a.4.0 k a.4.2 in (
      drop a.1 (spelling k) ++ spell_out y.0,
      y.4.0,
      record {
        tokens = y.1;
        spelled = inside-spelled s p q a.0 a.1 o k y.0 y.1 a.4.2 a.2 a.3 a.4.3 y.2 y.3;
        derived = y.4.1;
      },
    )

-- 02, Wish 1: "text up to 8,192 bytes"; so the text has too few names to use them all up.
pub offends-begins : (s : List ℕ) (p : ℕ) → length s ≤ 8192 → read_text s ≡ offends p → (r : List ℕ) × (ds : List Declaration) × TypeText (take p s ++ r) ds
unfolding read_text items_at
offends-begins s p h e = begins-by s p (declarations-viable (length s) p (length s) [] proper-none (omega arith) (items_from 0 0 s) e)
