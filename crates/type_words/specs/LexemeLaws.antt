-- Laws of lexemes: those of marks lie within the text.
use Rattle.std.specs.Prelude.{◌≡◌, Bool, List, ℕ, ◌+◌, ◌≤◌, ◌<◌, get_or, eqb, ltb}
use Rattle.std.proofs.Math.Path.{refl}
use Rattle.std.proofs.Math.Bool.{true, false}
use native.Mathlib.Omega.{arith}
use Rattle.std.proofs.Math.ListN.{length}
use Rattle.std.proofs.Common.{eqb-true, ltb-true, ltb-false}
use Rattle.basics.specs.Choice.{pick}
use Rattle.wire.specs.Wire.{byte_at}
use Rattle.wire.specs.WireLaws.{byte_past}
use Rattle.type_text.specs.Spelling.{Token, colon, opening, closing, dot, question, zero_to_one, one_to_one, is_mark}
use Rattle.type_text.specs.Reader.{Lexeme, space, found, broken, bracket_end, bracket_at, mark_at}

-- A byte that is not 0 stands within the text.
pub byte_inside : (s : List ℕ) (i k : ℕ) → 0 < k → byte_at s i ≡ k → i < length s
byte_inside s i k h e = by (ltb i (length s)) refl
  where
    by : (t : Bool) → ltb i (length s) ≡ t → i < length s
    by true q = ltb-true i (length s) q
    by false q = let z = byte_past s i (ltb-false i (length s) q) in absurd (omega arith)

-- A lexeme that is no blank and no word, and stands within m bytes after its first.
abbrev pub Marking : ℕ → Lexeme → Type 0
Marking m space = ⊥
Marking m (found k n) = (is_mark k ≡ true) × (n ≤ m)
Marking m (broken n) = n ≤ 1 + m

module _ (s : List ℕ) where
  lies : (i k : ℕ) → 0 < k → eqb (get_or s i 0) k ≡ true → i < length s
  lies i k h e = byte_inside s i k h (eqb-true (get_or s i 0) k e)

  end-marking : (k : Token) → is_mark k ≡ true → 0 < length s → Marking (length s) (bracket_end k s)
  unfolding bracket_end
  end-marking k h l =
      by (eqb (get_or s 1 0) 44) (eqb (get_or s 2 0) 49) (eqb (get_or s 3 0) 93) (lies 1 44 (omega arith)) (lies 2 49 (omega arith)) (lies 3 93 (omega arith))
    where
      by : (x y z : Bool) → (x ≡ true → 1 < length s) → (y ≡ true → 2 < length s) → (z ≡ true → 3 < length s)
          → Marking (length s) (pick x (pick y (pick z (found k 4) (broken 4)) (broken 3)) (broken 2))
      by false y z a b d = omega arith
      by true false z a b d = let u = a refl in omega arith
      by true true false a b d = let u = b refl in omega arith
      by true true true a b d = (h, d refl)

  bracket-marking : Marking (length s) (bracket_at s)
  unfolding bracket_at
  bracket-marking =
      by (eqb (get_or s 0 0) 48) (eqb (get_or s 0 0) 49) (λ e. end-marking zero_to_one refl (lies 0 48 (omega arith) e))
      (λ e. end-marking one_to_one refl (lies 0 49 (omega arith) e))
    where
      by : (x y : Bool) → (x ≡ true → Marking (length s) (bracket_end zero_to_one s)) → (y ≡ true → Marking (length s) (bracket_end one_to_one s))
          → Marking (length s) (pick x (bracket_end zero_to_one s) (pick y (bracket_end one_to_one s) (broken 1)))
      by true y a b = a refl
      by false true a b = b refl
      by false false a b = omega arith

  pub mark-marking : (b : ℕ) → Marking (length s) (mark_at b s)
  unfolding mark_at
  mark-marking b = by (eqb b 58) (eqb b 123) (eqb b 125) (eqb b 46) (eqb b 63) (eqb b 91)
    where
      by : (t u v x y z : Bool)
          → Marking (length s) (pick t (found colon 0) (pick u (found opening 0) (pick v (found closing 0) (pick x (found dot 0) (pick y (found question 0) (pick z (bracket_at s) (broken 0)))))))
      by true u v x y z = (refl, omega arith)
      by false true v x y z = (refl, omega arith)
      by false false true x y z = (refl, omega arith)
      by false false false true y z = (refl, omega arith)
      by false false false false true z = (refl, omega arith)
      by false false false false false true = bracket-marking
      by false false false false false false = omega arith
