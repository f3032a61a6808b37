-- Facts of `least`, `rule` and `least_over` as code leaves them: one for each way out; parts that are not broken. Order and grouping: network/FoldLaws.
use Rattle.std.specs.Prelude.{ℕ, ◌+◌, ◌-◌, ◌<◌, ◌≤◌, ◌≡◌, refl, Bool, true, false, not, ◌||◌, ltb}
use Rattle.std.proofs.Common.{sym, ◌∙◌, ap, add-one, arith, lt-ltb, le-ltb}
use Rattle.basics.specs.Choice.{pick}
use Rattle.network.specs.Least.{least, rule, least_over}
use Rattle.network.proofs.FoldLaws.{least-same, over_first}
use Rattle.std.specs.Prelude.{Option, Some, None}

pub small-left : (p q : ℕ) → p < q → p ≡ pick (ltb p q) p q
small-left p q h = simp (lt-ltb p q h)

pub small-right : (p q : ℕ) → q ≤ p → q ≡ pick (ltb p q) p q
small-right p q h = simp (le-ltb p q h)

pub least-second : (a b : Option ℕ) → a ≡ None → b ≡ least a b
unfolding least
least-second a b e = rw e refl

pub least_first : (a b : Option ℕ) (p : ℕ) → a ≡ Some p → b ≡ None → Some p ≡ least a b
unfolding least
least_first a b p e f = rw (e, f) refl

pub least-two : (a b : Option ℕ) (p q r : ℕ) → a ≡ Some p → b ≡ Some q → r ≡ pick (ltb p q) p q → Some r ≡ least a b
unfolding least
least-two a b p q r e f g = rw (e, f) (ap Some g)

pub rule-holds : (t : Bool) (p : ℕ) (m r : Option ℕ) → t ≡ true → r ≡ least None m → r ≡ rule t p m
unfolding rule
rule-holds t p m r e q = rw e q

pub rule-broken : (t : Bool) (p : ℕ) (m r : Option ℕ) → t ≡ false → r ≡ least (Some p) m → r ≡ rule t p m
unfolding rule
rule-broken t p m r e q = rw e q

pub ruleset least-facts = (small-left, small-right, least-second, least_first, least-two, rule-holds, rule-broken)

-- ---- rules

pub rule-true : (t : Bool) (p : ℕ) → t ≡ true → rule t p None ≡ None
unfolding rule least
rule-true t p e = rw e refl

-- Two tests at one place are one rule.
pub rule-either : (a b : Bool) (p : ℕ) → rule (not (a || b)) p None ≡ least (rule (not a) p None) (rule (not b) p None)
unfolding rule least
rule-either true true p = sym (least-same (Some p))
rule-either true false p = refl
rule-either false true p = refl
rule-either false false p = refl

-- ---- `least_over`

pub over_zero : (f : ℕ → Option ℕ) → None ≡ least_over 0 f
unfolding least_over
over_zero f = refl

pub over-more : (f : ℕ → Option ℕ) (i : ℕ) (m x r : Option ℕ) → m ≡ least_over i f → x ≡ f i → r ≡ least m x → r ≡ least_over (i + 1) f
unfolding least_over
over-more f i m x r p q h = rw (add-one, sym p, sym q) h

pub over-upto : (f : ℕ → Option ℕ) (a b : ℕ) → a ≤ b → ((j : ℕ) → a ≤ j → j < b → f j ≡ None) → least_over b f ≡ least_over a f
over-upto f a b l h =
    let z : b ≡ a + (b - a) = omega arith in
    ap (λ (n : ℕ). least_over n f) z ∙ over_first f a (b - a) (λ j p q. h j p (omega arith))
