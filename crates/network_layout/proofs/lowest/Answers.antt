use Rattle.std.proofs.Common.{◌≡◌, ◌+◌, min, sym, ◌∙◌, ap, arith}
use Rattle.network.specs.Least.{least_over}
use Rattle.network.proofs.FoldLaws.{over_none}
use Rattle.network_layout.specs.LeastFacts.{over-more}
use Rattle.network_layout.proofs.lowest.Goals as goal

pub loop-r-init : goal.loop-r-init
loop-r-init g c = λ f p q. sym (over_none f (min c.args.first c.args.end) (λ j l. q j (omega arith)))

pub loop-r-preserved : goal.loop-r-preserved
loop-r-preserved g c = λ f p q.
    let here : min c.loop-r.r c.args.end ≡ c.loop-r.r = omega arith in
    let next : c.loop-r.r + 1 ≡ min (c.loop-r.r + 1) c.args.end = omega arith in
    over-more f c.loop-r.r _ _ _ (c.loop-r.invariant f p q ∙ ap (λ k. least_over k f) here) (p _ _ c.loop-r-test.true c.rule.ensures) c.least-m.ensures
    ∙ ap (λ k. least_over k f) next
