use Rattle.std.proofs.Common.{rules}
use Rattle.network.specs.Rows.{branch_row_rule, branch_rule}
use Rattle.network.proofs.FoldLaws.{branch-outside}
use Rattle.network_layout.proofs.RunLaws.{lowest-run}
use Rattle.network_fields.proofs.branch_rows.Goals as goal

pub returns : goal.returns
unfolding branch_row_rule
returns c =
    lowest-run _ (branch_rule c.args.s.now c.args.at) _ _ _ _ _ _ _ c.lowest.ensures (λ i x l h. search rules)
    (branch-outside c.args.s.now c.args.at)
    (rw c.u16_at-first.ensures at c.clipped-from.ensures) (rw (c.u16_at-first.ensures, c.u16_at-n.ensures) at c.clipped-end.ensures) c.behaviour_count-size.ensures
