use Prim.Native.Nat.{◌+◌}
use native.Mathlib.Nat.{add-zero}
use native.Mathlib.Omega.{arith}
use Rattle.utf8.proofs.quad.Goals as goal

pub overflow_cast-result : goal.overflow_cast-result
overflow_cast-result c = omega (arith, (c.shared_slice_known-1.given c.args.at).fits)

pub overflow_cast-result-2 : goal.overflow_cast-result-2
overflow_cast-result-2 c = omega (arith, (c.shared_slice_known-2-1.given (c.args.at + 1)).fits)

pub overflow_mul-result : goal.overflow_mul-result
overflow_mul-result c = omega (arith, (c.shared_slice_known-2-1.given (c.args.at + 1)).fits)

pub overflow_add-result-2 : goal.overflow_add-result-2
overflow_add-result-2 c = omega (arith, (c.shared_slice_known-2-1.given c.args.at).fits, (c.shared_slice_known-2-1.given (c.args.at + 1)).fits)

pub overflow_cast-result-3 : goal.overflow_cast-result-3
overflow_cast-result-3 c = omega (arith, (c.shared_slice_known-3-1.given (c.args.at + 2)).fits)

pub overflow_mul-result-2 : goal.overflow_mul-result-2
overflow_mul-result-2 c = omega (arith, (c.shared_slice_known-3-1.given (c.args.at + 2)).fits)

pub overflow_add-result-4 : goal.overflow_add-result-4
overflow_add-result-4 c = omega (arith, (c.shared_slice_known-3-1.given c.args.at).fits, (c.shared_slice_known-3-1.given (c.args.at + 1)).fits, (c.shared_slice_known-3-1.given (c.args.at + 2)).fits)

pub overflow_cast-result-4 : goal.overflow_cast-result-4
overflow_cast-result-4 c = omega (arith, (c.shared_slice_known-4-1.given (c.args.at + 3)).fits)

pub overflow_mul-result-3 : goal.overflow_mul-result-3
overflow_mul-result-3 c = omega (arith, (c.shared_slice_known-4-1.given (c.args.at + 3)).fits)

pub overflow_add-result-6 : goal.overflow_add-result-6
overflow_add-result-6 c = omega (arith, (c.shared_slice_known-4-1.given c.args.at).fits, (c.shared_slice_known-4-1.given (c.args.at + 1)).fits, (c.shared_slice_known-4-1.given (c.args.at + 2)).fits, (c.shared_slice_known-4-1.given (c.args.at + 3)).fits)

pub returns : goal.returns
returns c = rw (add-zero c.args.at) (omega arith)
