use Rattle.std.proofs.Common.{◌≡◌, ◌<◌, ℕ, min}
use Rattle.std.specs.Prelude.{Option, None}
use Rattle.network.specs.Least.{least_over}
use Rattle.network_layout.proofs.lowest.Given as goal

abbrev pub invariant-loop-r : goal.invariant-loop-r
invariant-loop-r g l =
    (f : ℕ → Option ℕ) → ((i : ℕ) (x : Option ℕ) → i < l.fn.end → goal.F-post g l.rule i x → x ≡ f i)
    → ((i : ℕ) → i < l.fn.first → f i ≡ None) → l.m ≡ least_over (min l.r l.fn.end) f
