use Rattle.check_environments.proofs.Growing.{put-type-laws, put-type-fits}
use mathlib.Core.Path.{refl}
use Rattle.std.proofs.lemmas.Bool.{not_from_true}
use Rattle.check_environments.proofs.put_type.Goals as goal

pub returns-then-not-within : goal.returns-then-not-within
returns-then-not-within c = search put-type-laws depth 12

pub returns-then-len-gt341 : goal.returns-then-len-gt341
returns-then-len-gt341 c = search put-type-laws depth 12

pub returns : goal.returns
returns c = put-type-fits c.args.g.now c.args.ids c.args.m.now c.args.row _ _ _ _ c.put-len.ensures _ c.within.ensures (not_from_true _ c.if-not-within.false) _ _ c.append.ensures _ refl refl
