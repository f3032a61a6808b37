-- Bytes compared from the front, and the bytes of a node with its least value.
use mathlib.Core.Path.{◌≡◌, refl, ap}
use mathlib.Core.List.{List, [], ◌∷◌}
use mathlib.Core.Bool.{Bool, true, false, ◌&&◌, ◌||◌}
use Prim.Native.Nat.{ℕ, zero, suc, ◌+◌, ◌/◌, ◌%◌, ◌≤◌}
use native.Mathlib.Omega.{arith}
use lib.ListN.{take, drop, replicate}
use lib.Dec.{ltb, eqb}
use Rattle.std.specs.Prelude.{Some, cond}
use Rattle.std.specs.Cmp.Lexicographic.{slice_partial_cmp}
use Rattle.std.specs.Ordering.{nat_cmp, partial_lt, partial_ordering_then, is_some_and, is_lt}
use Rattle.std.specs.declared.cmp.Ordering.TheVariants.{Less, Equal, Greater}
use Rattle.tree_edit.specs.Wrote.{Wrote}
use Rattle.tree_edit.specs.WroteLaws.{wrote-more, wrote_as}
use Rattle.counterexample_rules.specs.Order.{is_lower_bytes}

-- ---- lower bytes

-- What the library says of `<` at bytes.
pub lower-than : (a b : List ℕ) → partial_lt (slice_partial_cmp (λ (x y : ℕ). Some (nat_cmp x y))) a b ≡ is_lower_bytes a b
unfolding is_lower_bytes
lower-than [] [] = refl
lower-than [] (y ∷ b) = refl
lower-than (x ∷ a) [] = refl
lower-than (x ∷ a) (y ∷ b) = by (ltb x y) (eqb x y) (lower-than a b)
  where
    by : (t u : Bool) → partial_lt (slice_partial_cmp (λ (x y : ℕ). Some (nat_cmp x y))) a b ≡ is_lower_bytes a b
        → is_some_and is_lt (partial_ordering_then (Some (cond t Less (cond u Equal Greater))) (slice_partial_cmp (λ (x y : ℕ). Some (nat_cmp x y)) a b)) ≡ (t || (u && is_lower_bytes a b))
    by true u e = refl
    by false true e = e
    by false false e = refl

-- ---- a node with its least value

abbrev zeros : ℕ → List ℕ
zeros n = replicate n 0

zeros-part : (n m : ℕ) → n ≤ m → take n (drop 0 (zeros m)) ≡ zeros n
zeros-part zero m h = refl
zeros-part (suc n) zero h = absurd (omega arith)
zeros-part (suc n) (suc m) h = ap (λ (l : List ℕ). 0 ∷ l) (zeros-part n m (omega arith))

pub least-wrote : {o o₁ o₂ o₃ o₄ o₅ : List ℕ} {w a b c d e x y z : ℕ} (i : ℕ) → z ≤ 8 → Wrote o o₁ w a 2 (i % 256 ∷ i / 256 ∷ []) → Wrote o₁ o₂ a b 1 (x ∷ [])
    → Wrote o₂ o₃ b c 1 (y ∷ []) → Wrote o₃ o₄ c d 1 (z ∷ []) → Wrote o₄ o₅ d e z (take z (drop 0 (zeros 8)))
    → Wrote o o₅ w e (5 + z) (i % 256 ∷ i / 256 ∷ x ∷ y ∷ z ∷ zeros z)
least-wrote {x = x} {y} {z} i h p q r s t =
    wrote_as (ap (λ (l : List ℕ). i % 256 ∷ i / 256 ∷ x ∷ y ∷ z ∷ l) (zeros-part z 8 h)) (omega arith)
    (wrote-more (wrote-more (wrote-more (wrote-more p q) r) s) t)
