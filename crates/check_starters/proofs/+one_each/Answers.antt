use Rattle.std.specs.Prelude.{not}
use Rattle.std.proofs.Common.{ap}
use Rattle.check_starters.proofs.StarterLaws.{one_none, one-refused, one-not, one_more}
use Rattle.check_starters.proofs.+one_each.Goals as goal

pub returns-then-n-eq0 : goal.returns-then-n-eq0
returns-then-n-eq0 t c = one_none _ _ _ _ _ c.if-n-eq0.true

pub returns-in_default-d : goal.returns-in_default-d
returns-in_default-d t c = one-refused _ _ _ _ _ c.if-n-eq0.false c.branch-d.ensures c.in_default-d.is

pub returns-then-not-against : goal.returns-then-not-against
returns-then-not-against t c =
    one-not _ _ _ _ _ c.if-n-eq0.false c.branch-d.ensures c.in_Ok-d.is c.against.ensures (ap not c.if-not-against.true)

pub returns : goal.returns
returns t c =
    one_more _ _ _ _ _ c.if-n-eq0.false c.branch-d.ensures c.in_Ok-d.is c.against.ensures (ap not c.if-not-against.false) c.one_each.ensures
