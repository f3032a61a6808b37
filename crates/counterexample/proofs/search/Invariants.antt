use Rattle.counterexample.specs.Tells.{Searched}
use mathlib.Core.Path.{◌≡◌}
use lib.ListN.{length}
use Rattle.counterexample.proofs.search.Given as goal

abbrev pub invariant-loop-j : goal.invariant-loop-j
invariant-loop-j l = Searched l.file l.first l.second l.j l.best l.n × (length l.best ≡ length l.initial.best)
