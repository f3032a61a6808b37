use Rattle.std.specs.Prelude.{not}
use Rattle.std.proofs.Common.{ap}
use Rattle.check_starters.proofs.StarterLaws.{gathers-none, gathers-refused, gathers-more}
use Rattle.check_starters.proofs.+gather.Goals as goal

pub returns-then-n-eq0 : goal.returns-then-n-eq0
returns-then-n-eq0 t c = gathers-none _ _ _ _ _ _ _ c.if-n-eq0.true

pub returns-in_Err-d : goal.returns-in_Err-d
returns-in_Err-d t c = gathers-refused _ _ _ _ _ _ _ c.if-n-eq0.false c.branch-d.ensures c.in_Err-d.is

pub returns : goal.returns
returns t c =
    gathers-more _ _ _ _ _ _ _ c.if-n-eq0.false c.branch-d.ensures c.in_Ok-d.is c.one_type.ensures (ap not c.if-not-one_type.false) c.unite.ensures c.in-Ok.is c.gather.ensures
