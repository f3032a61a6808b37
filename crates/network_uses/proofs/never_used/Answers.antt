use Rattle.std.proofs.Common.{rules, refl, arith}
use Rattle.network.specs.Layout.{behaviour_at}
use Rattle.network_uses.specs.Marks.{never_used}
use Rattle.network_uses.proofs.MarkLaws.{is_never}
use Rattle.network_uses.proofs.never_used.Goals as goal

pub returns : goal.returns
returns c =
    let s = c.args.s.now in
    c.lowest.ensures (never_used s) (λ i x l h. is_never s _ i i (behaviour_at s i) x c.args.marks.now c.requires l refl refl (search rules))
    (λ i l. absurd (omega arith))
