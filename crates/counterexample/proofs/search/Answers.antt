use Rattle.counterexample.proofs.Searching.{search-begins, search-goes-on, search-ends}
use mathlib.Core.Path.{◌∙◌, refl}
use native.Mathlib.Omega.{arith}
use Rattle.counterexample.proofs.search.Goals as goal

pub loop-j-init : goal.loop-j-init
loop-j-init c = (search-begins _ _ _ _, refl)

pub consider-n-requires : goal.consider-n-requires
consider-n-requires c = (omega (arith, c.loop-j.invariant.1, c.requires), c.loop-j.invariant.0.inside)

pub loop-j-preserved : goal.loop-j-preserved
loop-j-preserved c = (search-goes-on _ _ _ _ _ _ _ _ c.loop-j.invariant.0 c.consider-n.ensures c.consider-n.auto.best, c.consider-n.auto.best ∙ c.loop-j.invariant.1)

pub returns : goal.returns
returns c = search-ends _ _ _ _ _ _ _ c.row_nodes-all.ensures c.loop-j.invariant.0 (omega arith) (omega arith)
