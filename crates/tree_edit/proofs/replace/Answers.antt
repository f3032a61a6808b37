use mathlib.Core.Path.{refl}
use Prim.Native.Nat.{◌+◌}
use Rattle.tree_edit.proofs.Copying.{replace-wrote}
use Rattle.tree_edit.proofs.replace.Goals as goal

pub returns : goal.returns
returns c = replace-wrote c.args.s.now c.args.m.now (c.args.p + 2) c.args.q c.append-a.ensures c.append-b.ensures c.append.ensures refl refl
