use Rattle.std.proofs.Common.{rules}
use Rattle.network.specs.Rows.{child_ids, child_rule}
use Rattle.network.proofs.FoldLaws.{child-outside}
use Rattle.network_layout.proofs.RunLaws.{lowest-run}
use Rattle.network_rules.proofs.child_ids.Goals as goal

pub returns : goal.returns
unfolding child_ids
returns c =
    lowest-run _ (child_rule c.args.s.now c.args.first c.args.n) _ _ _ _ _ _ _ c.lowest.ensures (λ i x l h. search rules)
    (child-outside c.args.s.now c.args.first c.args.n) c.clipped-from.ensures c.clipped-end.ensures c.type_count-size.ensures
