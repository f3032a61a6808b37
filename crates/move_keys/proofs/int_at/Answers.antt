use native.Mathlib.Omega.{arith}
use Rattle.move_keys.proofs.KeyLaws.{int-fault, int-start, int-other, int-there}
use Rattle.move_keys.proofs.int_at.Goals as goal

pub returns-in_err-head_at : goal.returns-in_err-head_at
returns-in_err-head_at c = rw c.from_residual.ensures (int-fault _ _ c.head_at.ensures c.in_err-head_at.was)

pub returns-then-branch-ne-INT : goal.returns-then-branch-ne-INT
returns-then-branch-ne-INT c = int-other _ _ c.head_at.ensures c.in_ok-head_at.was c.if-branch-ne-INT.true

pub overflow_add-at : goal.overflow_add-at
overflow_add-at c = let z = int-start _ _ c.head_at.ensures c.in_ok-head_at.was in omega arith

pub returns : goal.returns
returns c = int-there _ _ c.head_at.ensures c.in_ok-head_at.was c.if-branch-ne-INT.false c.u32_at.ensures
