use mathlib.Core.Path.{refl}
use Rattle.tree_edit.proofs.Copying.{value-wrote}
use Rattle.tree_edit.proofs.replace_value.Goals as goal

pub returns : goal.returns
returns c = value-wrote c.args.s.now c.args.m.now c.args.p c.args.mid c.append-a.ensures c.push-b.ensures c.push-c.ensures c.append-d.ensures c.append.ensures refl refl
