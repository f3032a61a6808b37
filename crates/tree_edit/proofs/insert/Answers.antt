use native.Mathlib.Omega.{arith}
use mathlib.Core.Path.{refl}
use Prim.Native.Nat.{◌+◌}
use lib.ListN.{get_or}
use Rattle.tree_edit.proofs.Copying.{insert-wrote}
use Rattle.tree_edit.proofs.insert.Goals as goal

pub returns : goal.returns
returns c = insert-wrote c.args.s.now c.args.m.now c.args.p (c.args.up + 3) (get_or c.args.s.now (c.args.up + 3) 0 + 1) c.append-a.ensures (omega (arith, c.requires.0.step, c.requires.0.above, c.requires.0.inside, c.requires.1, c.requires.2, c.append-a.ensures.next, c.append-a.auto.out)) c.put_u8.ensures c.push_steps-b.ensures.1 c.append-c.ensures c.append.ensures refl refl
