-- What "lowest place first" means: nothing is broken exactly if every part has nothing broken; else the answer is the place of
-- a broken rule, and it is at or below the place of every broken rule.
use Rattle.std.specs.Prelude.{ℕ, zero, suc, ◌<◌, ◌≤◌, ◌≡◌, refl, Bool, true, false, ◌⊎◌, ltb}
use Rattle.std.proofs.Common.{◌∙◌, ap, inl, inr, ⊎_elim, not-suc-le-zero, le_of_suc-le-suc, eq-or-lt_of_le, arith, ltb→lt, nltb→le}
use Rattle.basics.specs.Choice.{pick}
use Rattle.basics.specs.TestLaws.{T_of, T-of-false}
use Rattle.network.specs.Least.{least, rule, least_over, sum_over}
use Rattle.std.specs.Prelude.{Option, Some, None}

-- The answer b is a place at or below p.
abbrev pub AtOrBelow : Option ℕ → ℕ → Type 0
AtOrBelow b p = (q : ℕ) × (b ≡ Some q) × (q ≤ p)

-- ---- nothing broken

pub least_kept : (a b : Option ℕ) → least a b ≡ None → (a ≡ None) × (b ≡ None)
unfolding least
least_kept None b e = (refl, e)
least_kept (Some p) None e = let z : ◌≡◌ {A = ℕ} 0 1 = cc in absurd (omega arith)
least_kept (Some p) (Some q) e = let z : ◌≡◌ {A = ℕ} 0 1 = cc in absurd (omega arith)

pub rule-kept : (t : Bool) (p : ℕ) (m : Option ℕ) → rule t p m ≡ None → (t ≡ true) × (m ≡ None)
unfolding rule
rule-kept true p m e = (refl, (least_kept None m e).1)
rule-kept false p m e = let h = (least_kept (Some p) m e).0 in let z : ◌≡◌ {A = ℕ} 0 1 = cc in absurd (omega arith)

pub over-kept : (f : ℕ → Option ℕ) (n i : ℕ) → least_over n f ≡ None → i < n → f i ≡ None
unfolding least_over
over-kept f zero i e h = absurd (not-suc-le-zero h)
over-kept f (suc n) i e h =
    let l = least_kept (least_over n f) (f n) e in
    ⊎_elim
    (λ q. ap f q ∙ l.1)
    (λ k. over-kept f n i l.0 k)
    (eq-or-lt_of_le (le_of_suc-le-suc h))

-- ---- the answer is the place of one of the parts

pub least-hit : (a b : Option ℕ) (p : ℕ) → least a b ≡ Some p → (a ≡ Some p) ⊎ (b ≡ Some p)
unfolding least
least-hit None b p e = inr e
least-hit (Some x) None p e = inl e
least-hit (Some x) (Some y) p e = go (ltb x y) e
  where
    go : (t : Bool) → Some (pick t x y) ≡ Some p → (Some x ≡ Some p) ⊎ (Some y ≡ Some p)
    go true h = inl h
    go false h = inr h

pub rule-hit : (t : Bool) (x : ℕ) (m : Option ℕ) (p : ℕ) → rule t x m ≡ Some p → ((t ≡ false) × (x ≡ p)) ⊎ (m ≡ Some p)
unfolding rule
rule-hit true x m p e = ⊎_elim (λ h. let z : ◌≡◌ {A = ℕ} 0 1 = cc in absurd (omega arith)) (λ h. inr h) (least-hit None m p e)
rule-hit false x m p e = ⊎_elim (λ h. inl (refl, cc)) (λ h. inr h) (least-hit (Some x) m p e)

pub over-hit : (f : ℕ → Option ℕ) (n p : ℕ) → least_over n f ≡ Some p → (i : ℕ) × (i < n) × (f i ≡ Some p)
unfolding least_over
over-hit f zero p e = let z : ◌≡◌ {A = ℕ} 0 1 = cc in absurd (omega arith)
over-hit f (suc n) p e =
    ⊎_elim
    (λ h. let w = over-hit f n p h in let l = w.1 in (w.0, omega arith, w.2))
    (λ h. (n, omega arith, h))
    (least-hit (least_over n f) (f n) p e)

-- ---- the answer is at or below the place of every part

pub least-below : (a b : Option ℕ) (p : ℕ) → (AtOrBelow a p ⊎ AtOrBelow b p) → AtOrBelow (least a b) p
unfolding least
least-below None b p h = ⊎_elim (λ w. let x = w.1 in let z : ◌≡◌ {A = ℕ} 0 1 = cc in absurd (omega arith)) (λ w. w) h
least-below (Some x) None p h = ⊎_elim (λ w. w) (λ w. let x = w.1 in let z : ◌≡◌ {A = ℕ} 0 1 = cc in absurd (omega arith)) h
least-below (Some x) (Some y) p h = go (ltb x y) refl
  where
    low : (x ≤ p) ⊎ (y ≤ p)
    low =
        ⊎_elim
        (λ w. let e : Some x ≡ Some w.0 = w.1 in let k : x ≡ w.0 = cc in let l = w.2 in inl (omega arith))
        (λ w. let e : Some y ≡ Some w.0 = w.1 in let k : y ≡ w.0 = cc in let l = w.2 in inr (omega arith))
        h

    go : (t : Bool) → ltb x y ≡ t → AtOrBelow (Some (pick t x y)) p
    go true e = let l : x < y = ltb→lt x y (T_of e) in (x, refl, ⊎_elim (λ k. k) (λ k. omega arith) low)
    go false e = let l : y ≤ x = nltb→le x y (T-of-false e) in (y, refl, ⊎_elim (λ k. omega arith) (λ k. k) low)

pub rule-below : (t : Bool) (x : ℕ) (m : Option ℕ) (p : ℕ) → (((t ≡ false) × (x ≤ p)) ⊎ AtOrBelow m p) → AtOrBelow (rule t x m) p
unfolding rule
rule-below true x m p h = ⊎_elim (λ w. let k = w.0 in let z : ◌≡◌ {A = ℕ} 0 1 = cc in absurd (omega arith)) (λ w. least-below None m p (inr w)) h
rule-below false x m p h = ⊎_elim (λ w. least-below (Some x) m p (inl (x, refl, w.1))) (λ w. least-below (Some x) m p (inr w)) h

pub over_below : (f : ℕ → Option ℕ) (n i p : ℕ) → i < n → AtOrBelow (f i) p → AtOrBelow (least_over n f) p
unfolding least_over
over_below f zero i p h w = absurd (not-suc-le-zero h)
over_below f (suc n) i p h w =
    ⊎_elim
    (λ q. least-below (least_over n f) (f n) p (inr (rw q at w)))
    (λ k. least-below (least_over n f) (f n) p (inl (over_below f n i p k w)))
    (eq-or-lt_of_le (le_of_suc-le-suc h))

-- ---- sums

pub sum-part : (f : ℕ → ℕ) (n i : ℕ) → i < n → f i ≤ sum_over n f
unfolding sum_over
sum-part f zero i h = absurd (not-suc-le-zero h)
sum-part f (suc n) i h =
    ⊎_elim
    (λ q. let e : f i ≡ f n = ap f q in omega arith)
    (λ k. let l = sum-part f n i k in omega arith)
    (eq-or-lt_of_le (le_of_suc-le-suc h))
