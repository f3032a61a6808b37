use mathlib.Core.Path.{refl}
use native.Mathlib.Omega.{arith}
use Rattle.utf8.proofs.OctetLaws.{count_low, count-lone, count-two, count-three, count-four, count_past, no-character, whole}
use Rattle.utf8.proofs.character_at.Goals as goal

pub returns-then-first-lt128 : goal.returns-then-first-lt128
returns-then-first-lt128 c =
    let small = (c.shared_slice_known-1.given c.args.at).fits in
    whole c.args.v.now c.args.at 0 (omega arith) small (count_low c.if-first-lt128.true) (omega arith) (omega arith) refl

pub returns-then-first-lt194 : goal.returns-then-first-lt194
returns-then-first-lt194 c =
    let small = (c.shared_slice_known-1.given c.args.at).fits in
    no-character c.args.v.now c.args.at 4 (omega arith) small (count-lone c.if-first-lt128.false c.if-first-lt194.true) (omega arith)

pub two_at-requires : goal.two_at-requires
two_at-requires c = (c.requires, count-two c.if-first-lt194.false c.if-first-lt224.true)

pub three_at-requires : goal.three_at-requires
three_at-requires c = (c.requires, count-three c.if-first-lt224.false c.if-first-lt240.true)

pub four_at-requires : goal.four_at-requires
four_at-requires c = (c.requires, count-four c.if-first-lt240.false c.if-first-lt245.true)

pub returns : goal.returns
returns c =
    let small = (c.shared_slice_known-1.given c.args.at).fits in
    no-character c.args.v.now c.args.at 4 (omega arith) small (count_past c.if-first-lt245.false) (omega arith)
