use Rattle.std.specs.Prelude.{not}
use Rattle.std.proofs.Common.{ap}
use Rattle.check_starters.proofs.StarterLaws.{against-none, against-refused, against-not, against-more}
use Rattle.check_starters.proofs.+against.Goals as goal

pub returns-then-n-eq0 : goal.returns-then-n-eq0
returns-then-n-eq0 t c = against-none _ _ _ _ _ _ c.if-n-eq0.true

pub returns-in_default-e : goal.returns-in_default-e
returns-in_default-e t c = against-refused _ _ _ _ _ c.if-n-eq0.false c.branch-e.ensures _ c.in_default-e.is

pub returns-then-not-one_type : goal.returns-then-not-one_type
returns-then-not-one_type t c =
    against-not _ _ _ _ _ c.if-n-eq0.false c.branch-e.ensures _ c.in_Ok-e.is c.one_type.ensures (ap not c.if-not-one_type.true)

pub returns : goal.returns
returns t c =
    against-more _ _ _ _ _ c.if-n-eq0.false c.branch-e.ensures _ c.in_Ok-e.is c.one_type.ensures (ap not c.if-not-one_type.false) c.against.ensures
