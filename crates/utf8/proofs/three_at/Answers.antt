use native.Mathlib.Omega.{arith}
use Rattle.utf8.proofs.OctetLaws.{cut_short, broken, whole, second-outside, third-outside, third_last}
use Rattle.std.proofs.lemmas.Bool.{not_from_true, not_from_false}
use Rattle.utf8.proofs.three_at.Goals as goal

pub returns-then-v-at-lt3 : goal.returns-then-v-at-lt3
returns-then-v-at-lt3 c =
    let small = (c.shared_slice_known-1.given c.args.at).fits in
    cut_short c.args.v.now c.args.at 2 (omega arith) small c.requires.1 (omega arith) c.if-v-at-lt3.true

pub returns-then-not-is_second : goal.returns-then-not-is_second
returns-then-not-is_second c =
    let small = (c.shared_slice_known-1.given c.args.at).fits in
    broken c.args.v.now c.args.at 2 (omega arith) small c.requires.1 (omega arith) (second-outside c.args.v.now c.args.at c.is_second.ensures 1 (omega arith) (not_from_false _ c.if-not-is_second.true))

pub returns-then-not-is_tail : goal.returns-then-not-is_tail
returns-then-not-is_tail c =
    let small = (c.shared_slice_known-1.given c.args.at).fits in
    broken c.args.v.now c.args.at 2 (omega arith) small c.requires.1 (omega arith) (third-outside c.args.v.now c.args.at c.is_second.ensures (not_from_true _ c.if-not-is_second.false) c.is_tail.ensures 0 (omega arith) (not_from_false _ c.if-not-is_tail.true))

pub returns : goal.returns
returns c =
    let small = (c.shared_slice_known-1.given c.args.at).fits in
    whole c.args.v.now c.args.at 2 (omega arith) small c.requires.1 (omega arith) (omega arith)
    (third_last c.args.v.now c.args.at c.is_second.ensures (not_from_true _ c.if-not-is_second.false) c.is_tail.ensures (omega arith) (not_from_true _ c.if-not-is_tail.false))
