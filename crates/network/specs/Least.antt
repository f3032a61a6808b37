-- The lowest place of a broken rule. 01, refusal 4: "A field or link breaks its row's rule, lowest place first". A place is a
-- byte offset in the file; `None` says that no rule is broken. Every rule is judged by itself, whatever else is broken.
use Rattle.std.specs.Prelude.{ℕ, zero, suc, ◌+◌, Bool, ltb}
use Rattle.basics.specs.Choice.{pick}
use Rattle.std.specs.Prelude.{Option, Some, None}

-- The lower of two places.
unfoldable pub least : Option ℕ → Option ℕ → Option ℕ
least None b = b
least (Some p) None = Some p
least (Some p) (Some q) = Some (pick (ltb p q) p q)

-- A rule with its place: where it does not hold, its place is one of the broken ones.
unfoldable pub rule : Bool → ℕ → Option ℕ → Option ℕ
rule holds place others = least (pick holds None (Some place)) others

-- The lowest over the numbers below n.
unfoldable pub least_over : ℕ → (ℕ → Option ℕ) → Option ℕ
least_over zero f = None
least_over (suc n) f = least (least_over n f) (f n)

-- The sum over the numbers below n.
unfoldable pub sum_over : ℕ → (ℕ → ℕ) → ℕ
sum_over zero f = 0
sum_over (suc n) f = sum_over n f + f n
