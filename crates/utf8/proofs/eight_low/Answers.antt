use Prim.Native.Nat.{◌+◌}
use mathlib.Core.Path.{refl}
use native.Mathlib.Omega.{arith}
use Rattle.utf8.proofs.OctetLaws.{eight-tested}
use Rattle.utf8.proofs.eight_low.Goals as goal

pub overflow_cast-word : goal.overflow_cast-word
overflow_cast-word c = omega (arith, (c.shared_slice_known-1.given c.args.at).fits)

pub overflow_cast-word-2 : goal.overflow_cast-word-2
overflow_cast-word-2 c = omega (arith, (c.shared_slice_known-2-1.given (c.args.at + 1)).fits)

pub overflow_mul-word : goal.overflow_mul-word
overflow_mul-word c = omega (arith, (c.shared_slice_known-2-1.given (c.args.at + 1)).fits)

pub overflow_add-word-2 : goal.overflow_add-word-2
overflow_add-word-2 c = omega (arith, (c.shared_slice_known-2-1.given c.args.at).fits, (c.shared_slice_known-2-1.given (c.args.at + 1)).fits)

pub overflow_cast-word-3 : goal.overflow_cast-word-3
overflow_cast-word-3 c = omega (arith, (c.shared_slice_known-3-1.given (c.args.at + 2)).fits)

pub overflow_mul-word-2 : goal.overflow_mul-word-2
overflow_mul-word-2 c = omega (arith, (c.shared_slice_known-3-1.given (c.args.at + 2)).fits)

pub overflow_add-word-4 : goal.overflow_add-word-4
overflow_add-word-4 c = omega (arith, (c.shared_slice_known-3-1.given c.args.at).fits, (c.shared_slice_known-3-1.given (c.args.at + 1)).fits, (c.shared_slice_known-3-1.given (c.args.at + 2)).fits)

pub overflow_cast-word-4 : goal.overflow_cast-word-4
overflow_cast-word-4 c = omega (arith, (c.shared_slice_known-4-1.given (c.args.at + 3)).fits)

pub overflow_mul-word-3 : goal.overflow_mul-word-3
overflow_mul-word-3 c = omega (arith, (c.shared_slice_known-4-1.given (c.args.at + 3)).fits)

pub overflow_add-word-6 : goal.overflow_add-word-6
overflow_add-word-6 c = omega (arith, (c.shared_slice_known-4-1.given c.args.at).fits, (c.shared_slice_known-4-1.given (c.args.at + 1)).fits, (c.shared_slice_known-4-1.given (c.args.at + 2)).fits, (c.shared_slice_known-4-1.given (c.args.at + 3)).fits)

pub overflow_cast-word-5 : goal.overflow_cast-word-5
overflow_cast-word-5 c = omega (arith, (c.shared_slice_known-5-1.given (c.args.at + 4)).fits)

pub overflow_mul-word-4 : goal.overflow_mul-word-4
overflow_mul-word-4 c = omega (arith, (c.shared_slice_known-5-1.given (c.args.at + 4)).fits)

pub overflow_add-word-8 : goal.overflow_add-word-8
overflow_add-word-8 c = omega (arith, (c.shared_slice_known-5-1.given c.args.at).fits, (c.shared_slice_known-5-1.given (c.args.at + 1)).fits, (c.shared_slice_known-5-1.given (c.args.at + 2)).fits, (c.shared_slice_known-5-1.given (c.args.at + 3)).fits, (c.shared_slice_known-5-1.given (c.args.at + 4)).fits)

pub overflow_cast-word-6 : goal.overflow_cast-word-6
overflow_cast-word-6 c = omega (arith, (c.shared_slice_known-6-1.given (c.args.at + 5)).fits)

pub overflow_mul-word-5 : goal.overflow_mul-word-5
overflow_mul-word-5 c = omega (arith, (c.shared_slice_known-6-1.given (c.args.at + 5)).fits)

pub overflow_add-word-10 : goal.overflow_add-word-10
overflow_add-word-10 c = omega (arith, (c.shared_slice_known-6-1.given c.args.at).fits, (c.shared_slice_known-6-1.given (c.args.at + 1)).fits, (c.shared_slice_known-6-1.given (c.args.at + 2)).fits, (c.shared_slice_known-6-1.given (c.args.at + 3)).fits, (c.shared_slice_known-6-1.given (c.args.at + 4)).fits, (c.shared_slice_known-6-1.given (c.args.at + 5)).fits)

pub overflow_cast-word-7 : goal.overflow_cast-word-7
overflow_cast-word-7 c = omega (arith, (c.shared_slice_known-7-1.given (c.args.at + 6)).fits)

pub overflow_mul-word-6 : goal.overflow_mul-word-6
overflow_mul-word-6 c = omega (arith, (c.shared_slice_known-7-1.given (c.args.at + 6)).fits)

pub overflow_add-word-12 : goal.overflow_add-word-12
overflow_add-word-12 c = omega (arith, (c.shared_slice_known-7-1.given c.args.at).fits, (c.shared_slice_known-7-1.given (c.args.at + 1)).fits, (c.shared_slice_known-7-1.given (c.args.at + 2)).fits, (c.shared_slice_known-7-1.given (c.args.at + 3)).fits, (c.shared_slice_known-7-1.given (c.args.at + 4)).fits, (c.shared_slice_known-7-1.given (c.args.at + 5)).fits, (c.shared_slice_known-7-1.given (c.args.at + 6)).fits)

pub overflow_cast-word-8 : goal.overflow_cast-word-8
overflow_cast-word-8 c = omega (arith, (c.shared_slice_known-8-1.given (c.args.at + 7)).fits)

pub overflow_mul-word-7 : goal.overflow_mul-word-7
overflow_mul-word-7 c = omega (arith, (c.shared_slice_known-8-1.given (c.args.at + 7)).fits)

pub overflow_add-word-14 : goal.overflow_add-word-14
overflow_add-word-14 c = omega (arith, (c.shared_slice_known-8-1.given c.args.at).fits, (c.shared_slice_known-8-1.given (c.args.at + 1)).fits, (c.shared_slice_known-8-1.given (c.args.at + 2)).fits, (c.shared_slice_known-8-1.given (c.args.at + 3)).fits, (c.shared_slice_known-8-1.given (c.args.at + 4)).fits, (c.shared_slice_known-8-1.given (c.args.at + 5)).fits, (c.shared_slice_known-8-1.given (c.args.at + 6)).fits, (c.shared_slice_known-8-1.given (c.args.at + 7)).fits)

pub returns : goal.returns
returns c = eight-tested c.args.v.now c.args.at _ (λ k. (c.shared_slice_known-8-1.given k).fits) refl
