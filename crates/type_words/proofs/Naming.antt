-- What a word says: whether it is a name, and which basic type it names.
use Prim.Native.Nat.{ℕ, suc, ◌+◌, ◌-◌, ◌≤◌, ◌<◌}
use native.Mathlib.Omega.{arith}
use mathlib.Core.Path.{◌≡◌, refl, sym, ap, ◌∙◌}
use mathlib.Core.Bool.{Bool, true, false, ◌&&◌}
use mathlib.Core.List.{List, [], ◌∷◌}
use lib.ListN.{length, get_or, take, drop, length-take, length-drop}
use lib.Seq.{drop-cons}
use lib.Dec.{eqb}
use borrow.Author.Tests.{le-leb, lt-leb}
use Rattle.basics.specs.TestLaws.{and-true, and-false, one_less}
use Rattle.wire.specs.Wire.{part}
use Rattle.scalar.specs.Value.{word_of}
use Rattle.scalar.specs.Operator.{equal_bytes}
use Rattle.network_syntax.specs.Syntax.{none, some}
use Rattle.type_text.specs.Spelling.{is_letter}
use Rattle.type_text.specs.Grammar.{same_word, is_name}
use Rattle.type_text.specs.Reader.{basic_below}

-- Two definitions of the same.
pub same-equal : (v w : List ℕ) → equal_bytes v w ≡ same_word v w
unfolding same_word
same-equal [] [] = refl
same-equal [] (b ∷ w) = refl
same-equal (a ∷ v) [] = refl
same-equal (a ∷ v) (b ∷ w) = ap (λ (x : Bool). eqb a b && x) (same-equal v w)

-- ---- a name

module _ (s : List ℕ) (p n : ℕ) where
  pub name-none : n ≡ 0 → false ≡ is_name (part s p n)
  name-none e = rw e refl

  module _ (h : 0 < n) (k : p + n ≤ length s) where
    first : part s p n ≡ get_or s p 0 ∷ take (n - 1) (drop (suc p) s)
    first =
        ap (take n) (drop-cons s p 0 (omega arith))
        ∙ ap (λ (k : ℕ). take k (get_or s p 0 ∷ drop (suc p) s)) (one_less n (λ e. omega arith))

    others : length (take (n - 1) (drop (suc p) s)) ≡ n - 1
    others = simp (length-take, length-drop) (omega arith)

    pub name-long : 16 < n → false ≡ is_name (part s p n)
    name-long l = rw (first, lt-leb (length (take (n - 1) (drop (suc p) s))) 15 (omega (arith, others))) (sym (and-false (is_letter (get_or s p 0))))

    pub name-letter : n ≤ 16 → is_letter (get_or s p 0) ≡ is_name (part s p n)
    name-letter l = rw (first, le-leb (length (take (n - 1) (drop (suc p) s))) 15 (omega (arith, others))) (sym (and-true (is_letter (get_or s p 0))))

-- ---- a basic type

module _ (w : List ℕ) (n : ℕ) (h : 0 < n) {t : Bool} (q : t ≡ same_word (word_of (n - 1)) w) where
  one : basic_below n w ≡ basic_below (suc (n - 1)) w
  one = ap (λ (k : ℕ). basic_below k w) (one_less n (λ e. omega arith))

  pub named_here : t ≡ true → basic_below n w ≡ some (n - 1)
  unfolding basic_below
  named_here e = one ∙ rw (sym q ∙ e) refl

  pub named-below : t ≡ false → basic_below n w ≡ basic_below (n - 1) w
  unfolding basic_below
  named-below e = one ∙ rw (sym q ∙ e) refl

pub named_none : (w : List ℕ) (n : ℕ) → n ≡ 0 → basic_below n w ≡ none
unfolding basic_below
named_none w n e = rw e refl
