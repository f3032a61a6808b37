use native.Mathlib.Omega.{arith}
use Rattle.utf8.proofs.OctetLaws.{cut_short, broken, whole, second-outside, second-last}
use Rattle.std.proofs.lemmas.Bool.{not_from_true, not_from_false}
use Rattle.utf8.proofs.two_at.Goals as goal

pub returns-then-v-at-lt2 : goal.returns-then-v-at-lt2
returns-then-v-at-lt2 c =
    let small = (c.shared_slice_known-1.given c.args.at).fits in
    cut_short c.args.v.now c.args.at 1 (omega arith) small c.requires.1 (omega arith) c.if-v-at-lt2.true

pub returns-then-not-is_second : goal.returns-then-not-is_second
returns-then-not-is_second c =
    let small = (c.shared_slice_known-1.given c.args.at).fits in
    broken c.args.v.now c.args.at 1 (omega arith) small c.requires.1 (omega arith) (second-outside c.args.v.now c.args.at c.is_second.ensures 0 (omega arith) (not_from_false _ c.if-not-is_second.true))

pub returns : goal.returns
returns c =
    let small = (c.shared_slice_known-1.given c.args.at).fits in
    whole c.args.v.now c.args.at 1 (omega arith) small c.requires.1 (omega arith) (omega arith) (second-last c.args.v.now c.args.at c.is_second.ensures (omega arith) (not_from_true _ c.if-not-is_second.false))
