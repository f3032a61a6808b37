-- Three-way comparison of numbers that computes on numerals and carries its proof.
use Rattle.std.specs.Prelude.{◌≡◌, refl, ℕ, suc, ◌≤◌, ◌<◌, Bool, true, false, not, ◌&&◌, T, ltb, eqb}
use Rattle.std.proofs.Common.{sym, subst, arith, ltb→lt, eqb→eq, nltb→le, T_not}
use Rattle.std.proofs.Math.Dec.{not_T}
use Rattle.basics.specs.TestLaws.{T_of, T-of-false}

pub data Compare (i j : ℕ) : Type 0 where
  lt : i < j → Compare i j
  eq : i ≡ j → Compare i j
  gt : j < i → Compare i j

abbrev pub compare_by : (i j : ℕ) (a b : Bool) → ltb i j ≡ a → ltb j i ≡ b → Compare i j
compare_by i j true b p q = lt (ltb→lt i j (T_of p))
compare_by i j false true p q = gt (ltb→lt j i (T_of q))
compare_by i j false false p q =
    let h : j ≤ i = nltb→le i j (T-of-false p) in let k : i ≤ j = nltb→le j i (T-of-false q) in eq (omega arith)

abbrev pub compare : (i j : ℕ) → Compare i j
compare i j = compare_by i j (ltb i j) (ltb j i) refl refl
