-- The lowest over the rows of a run, where the rest is not broken, is the lowest over all rows.
use Rattle.std.specs.Prelude.{ℕ, ◌+◌, ◌<◌, ◌≡◌, Option, None}
use Rattle.std.proofs.Common.{sym, le_refl}
use Rattle.network.specs.Least.{least_over}
use Rattle.network.proofs.LeastLaws.{over-kept}
use Rattle.network_layout.specs.Loops.{LowestBy, clip, OnlyRun, run_none, run-done}

pub lowest-run : (post : ℕ → Option ℕ → Type 0) (f : ℕ → Option ℕ) (first n size from to : ℕ) (m : Option ℕ) (k : ℕ)
    → LowestBy post from to m → ((i : ℕ) (x : Option ℕ) → i < to → post i x → x ≡ f i) → OnlyRun f first n
    → from ≡ clip (first + 0) size → to ≡ clip (first + n) size → size ≡ k → m ≡ least_over k f
lowest-run post f first n size from to m k h g only p q e =
    let none : least_over from f ≡ None = sym (run_none f first n size from to only p q).sofar in
    run-done f first n size to to m k only q
    (record { within = le_refl to; sofar = h f g (λ i l. over-kept f from i none l) }) (le_refl to) e
