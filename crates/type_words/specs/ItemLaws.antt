-- Laws of the items of a text, for who reads it item by item.
use Rattle.std.specs.Prelude.{◌≡◌, Bool, take}
use Rattle.std.proofs.Math.Path.{refl, ap}
use Rattle.std.proofs.Common.{sym, ◌∙◌, add-one, drop_of_length-le, drop-drop}
use mathlib.Core.List.{List, [], ◌∷◌}
use Rattle.std.proofs.Math.Bool.{true, false}
use Prim.Native.Nat.{ℕ, zero, suc, ◌+◌, ◌-◌, ◌≤◌, ◌<◌}
use native.Mathlib.Omega.{arith}
use Rattle.std.proofs.Math.ListN.{length, get_or, drop}
use Rattle.std.proofs.Math.Seq.{drop-cons}
use Rattle.basics.specs.Choice.{pick}
use Rattle.basics.specs.TestLaws.{clash, true-false}
use Rattle.wire.specs.Wire.{part}
use Rattle.wire.specs.WireLaws.{length_part}
use Rattle.type_text.specs.Spelling.{is_blank, in_word, is_mark, Token, word, colon, opening, closing, dot, question, zero_to_one, one_to_one}
use Rattle.type_text.proofs.SpellingLaws.{items-skip}
use Rattle.type_text.specs.Reader.{Lexeme, space, found, broken, word_bytes, mark_at, lexeme_at, Item, token, items_by, items_from, items_at, token_kind}
use Rattle.type_words.specs.declared.Item.TheVariants.{Word}
use Rattle.type_words.specs.Told.{mark_token, run_of, ItemTold}
use Rattle.type_words.specs.LexemeLaws.{Marking, mark-marking}

-- ---- marks by their numbers

pub kind-of-mark : (k : ℕ) → 0 < k → k < 8 → token_kind (mark_token k) ≡ k
kind-of-mark zero h l = absurd (omega arith)
kind-of-mark (suc zero) h l = refl
kind-of-mark (suc (suc zero)) h l = refl
kind-of-mark (suc (suc (suc zero))) h l = refl
kind-of-mark (suc (suc (suc (suc zero)))) h l = refl
kind-of-mark (suc (suc (suc (suc (suc zero))))) h l = refl
kind-of-mark (suc (suc (suc (suc (suc (suc zero)))))) h l = refl
kind-of-mark (suc (suc (suc (suc (suc (suc (suc zero))))))) h l = refl
kind-of-mark (suc (suc (suc (suc (suc (suc (suc (suc k)))))))) h l = absurd (omega arith)

pub mark-of-kind : (k : Token) → is_mark k ≡ true → (0 < token_kind k) × (token_kind k < 8) × (mark_token (token_kind k) ≡ k)
mark-of-kind (word w) h = true-false (sym h)
mark-of-kind colon h = (omega arith, omega arith, refl)
mark-of-kind opening h = (omega arith, omega arith, refl)
mark-of-kind closing h = (omega arith, omega arith, refl)
mark-of-kind dot h = (omega arith, omega arith, refl)
mark-of-kind question h = (omega arith, omega arith, refl)
mark-of-kind zero_to_one h = (omega arith, omega arith, refl)
mark-of-kind one_to_one h = (omega arith, omega arith, refl)

-- ---- bytes at the beginning that pass a test

module _ (test : ℕ → Bool) where
  pub run-within : (s : List ℕ) → run_of test s ≤ length s
  unfolding run_of
  run-within [] = omega arith
  run-within (b ∷ s) = by (test b) (run-within s)
    where
      by : (t : Bool) → run_of test s ≤ length s → pick t (suc (run_of test s)) 0 ≤ suc (length s)
      by true h = omega arith
      by false h = omega arith

  -- What follows them does not pass it.
  pub run-next : (s : List ℕ) → run_of test s < length s → test (get_or s (run_of test s) 0) ≡ false
  unfolding run_of
  run-next [] h = absurd (omega arith)
  run-next (b ∷ s) h = by (test b) refl (run-next s) h
    where
      by : (t : Bool) → test b ≡ t → (run_of test s < length s → test (get_or s (run_of test s) 0) ≡ false)
          → pick t (suc (run_of test s)) 0 < suc (length s) → test (get_or (b ∷ s) (pick t (suc (run_of test s)) 0) 0) ≡ false
      by true e f l = f (omega arith)
      by false e f l = e

  module _ (s : List ℕ) (i : ℕ) where
    pub run_more : i < length s → test (get_or s i 0) ≡ true → i + run_of test (drop i s) ≡ i + 1 + run_of test (drop (i + 1) s)
    unfolding run_of
    run_more h e = rw (add-one i, drop-cons s i 0 h, e) (omega arith)

    pub run-stops : i < length s → test (get_or s i 0) ≡ false → i + run_of test (drop i s) ≡ i
    unfolding run_of
    run-stops h e = rw (drop-cons s i 0 h, e) (omega arith)

    pub run_ends : length s ≤ i → i + run_of test (drop i s) ≡ i
    unfolding run_of
    run_ends h = rw (drop_of_length-le s h) (omega arith)

-- The bytes of a word are those that pass its test.
pub word-run : (s : List ℕ) → length (word_bytes s) ≡ run_of in_word s
unfolding word_bytes run_of
word-run [] = refl
word-run (b ∷ s) = by (in_word b) (word-run s)
  where
    by : (t : Bool) → length (word_bytes s) ≡ run_of in_word s → length (pick t (b ∷ word_bytes s) []) ≡ pick t (suc (run_of in_word s)) 0
    by true e = ap suc e
    by false e = refl

pub word-taken : (s : List ℕ) → take (length (word_bytes s)) s ≡ word_bytes s
unfolding word_bytes
word-taken [] = refl
word-taken (b ∷ s) = by (in_word b) (word-taken s)
  where
    by : (t : Bool) → take (length (word_bytes s)) s ≡ word_bytes s → take (length (pick t (b ∷ word_bytes s) [])) (b ∷ s) ≡ pick t (b ∷ word_bytes s) []
    by true e = ap (λ (l : List ℕ). b ∷ l) e
    by false e = refl

-- ---- items from a place on

-- Blanks add nothing.
blanks-past : (s : List ℕ) (at : ℕ) → items_from 0 at s ≡ items_from 0 (at + run_of is_blank s) (drop (run_of is_blank s) s)
unfolding items_from run_of lexeme_at
blanks-past [] at = refl
blanks-past (b ∷ s) at = by (is_blank b) refl (blanks-past s (at + 1))
  where
    by : (t : Bool) → is_blank b ≡ t → items_from 0 (at + 1) s ≡ items_from 0 (at + 1 + run_of is_blank s) (drop (run_of is_blank s) s)
        → items_from 0 at (b ∷ s) ≡ items_from 0 (at + pick t (suc (run_of is_blank s)) 0) (drop (pick t (suc (run_of is_blank s)) 0) (b ∷ s))
    by true e f = let z : at + suc (run_of is_blank s) ≡ at + 1 + run_of is_blank s = omega arith in rw (e, z) f
    by false e f = let z : at + 0 ≡ at = omega arith in rw z refl

pub items-past-blanks : (s : List ℕ) (at : ℕ) → items_at s at ≡ items_at s (at + run_of is_blank (drop at s))
unfolding items_at
items-past-blanks s at =
    blanks-past (drop at s) at ∙ ap (items_from 0 (at + run_of is_blank (drop at s))) (drop-drop (run_of is_blank (drop at s)) at s)

module _ (s : List ℕ) (p : ℕ) where
  -- What follows when n more bytes are passed over.
  pub items-after : (n : ℕ) → items_from n (p + 1) (drop (p + 1) s) ≡ items_at s (p + 1 + n)
  unfolding items_at
  items-after n = items-skip n (p + 1) (drop (p + 1) s) ∙ ap (items_from 0 (p + 1 + n)) (drop-drop n (p + 1) s)

  pub items-here : p < length s →
      items_at s p ≡ items_by p (lexeme_at (get_or s p 0) (drop (p + 1) s)) (λ n. items_from n (p + 1) (drop (p + 1) s))
  unfolding items_at items_from
  items-here h = ap (items_from 0 p) (drop-cons s p 0 h ∙ ap (λ (k : ℕ). get_or s p 0 ∷ drop k s) (sym (add-one p)))

  pub items-none : length s ≤ p → items_at s p ≡ []
  unfolding items_at items_from
  items-none h = rw (drop_of_length-le s h) refl

-- ---- a word is taken whole

-- The first item is a word w at p.
record Whole (s : List ℕ) (at p : ℕ) (w : List ℕ) : Type 0 where
  passed : ℕ
  place : p ≡ at + passed
  bytes : w ≡ word_bytes (drop passed s)

no_item : {A : Type 0} {p : ℕ} {k : Token} {r : List Item} → [] ≡ token p k ∷ r → A
no_item e = absurd (let z : ◌≡◌ {A = ℕ} 0 1 = cc in omega arith)

-- A lexeme of a mark is no word.
mark-no-word : {A : Type 0} (m at p : ℕ) {w : List ℕ} {r : List Item} (x : Lexeme) (after : ℕ → List Item) → Marking m x
    → items_by at x after ≡ token p (word w) ∷ r → A
mark-no-word m at p space after h e = absurd h
mark-no-word m at p {w} (found k n) after h e = let z : k ≡ word w = cc in absurd (clash h.0 (ap is_mark z))
mark-no-word m at p (broken n) after h e = absurd (let z : ◌≡◌ {A = ℕ} 0 1 = cc in omega arith)

whole-later : {s : List ℕ} {at p : ℕ} {w : List ℕ} (b : ℕ) → Whole s (at + 1) p w → Whole (b ∷ s) at p w
whole-later b v = record { passed = suc v.passed; place = omega (arith, v.place); bytes = v.bytes }

word_first : (s : List ℕ) (at p : ℕ) (w : List ℕ) (r : List Item) → items_from 0 at s ≡ token p (word w) ∷ r → Whole s at p w
unfolding items_from lexeme_at word_bytes
word_first [] at p w r e = no_item e
word_first (b ∷ s) at p w r e = by (is_blank b) (in_word b) refl e (word_first s (at + 1) p w r)
  where
    by : (t u : Bool) → in_word b ≡ u
        → items_by at (pick t space (pick u (found (word (b ∷ word_bytes s)) (length (word_bytes s))) (mark_at b s))) (λ n. items_from n (at + 1) s) ≡ token p (word w) ∷ r
        → (items_from 0 (at + 1) s ≡ token p (word w) ∷ r → Whole s (at + 1) p w) → Whole (b ∷ s) at p w
    by true u q e f = whole-later b (f e)
    by false true q e f =
        let y : at ≡ p = cc in
        let z : b ∷ word_bytes s ≡ w = cc in
        record { passed = 0; place = omega arith; bytes = rw q (sym z) }
    by false false q e f = mark-no-word (length s) at p (mark_at b s) (λ n. items_from n (at + 1) s) (mark-marking s b) e

module _ (s : List ℕ) (at p q : ℕ) (t : ItemTold s at (Word p q)) where
  -- "of a word, taken whole".
  pub word-whole : part s p (q - p) ≡ word_bytes (drop p s)
  unfolding items_at
  word-whole =
      let v = word_first (drop at s) at p (part s p (q - p)) (items_at s q) t.3 in
      v.bytes ∙ ap word_bytes (drop-drop v.passed at s ∙ ap (λ (k : ℕ). drop k s) (sym v.place))

  -- `type_words::word_end` at a word's place answers the place past it.
  pub word-end-place : q ≡ p + length (word_bytes (drop p s))
  word-end-place =
      let a = length_part s p (q - p) (omega (arith, t.1, t.2)) in
      let b = ap length word-whole in
      omega (arith, t.1)
