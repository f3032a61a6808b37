-- A test of every number below a size, and of every pair of numbers below two sizes, that computes once and holds at each: so a table is
-- set beside its rule over all its entries at once.
use Rattle.std.specs.Prelude.{ℕ, zero, suc, ◌<◌, ◌≤◌, ◌≡◌, refl, Bool, true, false, ◌&&◌, T, ltb}
use Rattle.std.proofs.Common.{sym, subst, arith}
use Rattle.basics.specs.TestLaws.{and_l, and_r, lt_of, lt_not}

-- Does the test hold of every number below n?
abbrev pub below : ℕ → (ℕ → Bool) → Bool
below zero f = true
below (suc n) f = f n && below n f

pub at : (n : ℕ) (f : ℕ → Bool) → T (below n f) → (k : ℕ) → k < n → T (f k)
at zero f t k h = absurd (omega arith)
at (suc n) f t k h = go (ltb k n) refl (at n f (and_r (f n) (below n f) t) k)
  where
    last : n ≤ k → k ≡ n
    last l = omega arith

    go : (b : Bool) → ltb k n ≡ b → (k < n → T (f k)) → T (f k)
    go true e below-n = below-n (lt_of k n e)
    go false e below-n = subst (λ (i : ℕ). T (f i)) (sym (last (lt_not k n e))) (and_l (f n) (below n f) t)

pub at2 : (m n : ℕ) (f : ℕ → ℕ → Bool) → T (below m (λ i. below n (f i))) → (i j : ℕ) → i < m → j < n → T (f i j)
at2 m n f t i j h l = at n (f i) (at m (λ k. below n (f k)) t i h) j l
