use native.Mathlib.Omega.{arith}
use Rattle.move_send.proofs.MakingLaws.{sending-small, move-nothing, move-unreached, move-not-sending, move-sends}
use Rattle.move_frame.specs.MadeLaws.{slot-inside}
use borrow.Enum.Refused.{opened}
use Rattle.move_send.proofs.send_move.Goals as goal

pub returns-in_default : goal.returns-in_default
returns-in_default c = move-nothing c.args.file.now c.args.state.now c.args.out.now c.args.q c.args.n c.args.r c.args.to c.session_at.ensures c.in_default.is c.refused.ensures

pub reach-requires : goal.reach-requires
reach-requires c = let h = slot-inside c.session_at.ensures c.in-Some.is in omega (arith, h)

pub returns-in_default-reach : goal.returns-in_default-reach
returns-in_default-reach c = move-unreached c.args.file.now c.args.state.now c.args.out.now c.args.q c.args.n c.args.r c.args.to c.session_at.ensures c.in-Some.is c.reach.ensures (opened c.in_default-reach.in_default-reach-own.keys2) c.refused-in_default-reach.ensures

pub sending_at-requires : goal.sending_at-requires
sending_at-requires c = let h = slot-inside c.session_at.ensures c.in-Some.is in omega (arith, h)

pub returns-in_default-sending_at : goal.returns-in_default-sending_at
returns-in_default-sending_at c = move-not-sending c.args.file.now c.args.state.now c.args.out.now c.args.q c.args.n c.args.r c.args.to c.session_at.ensures c.in-Some.is c.reach.ensures c.in-Reached.is c.sending_at.ensures c.in_default-sending_at.is c.refused-in_default-sending_at.ensures

pub send_by-requires : goal.send_by-requires
send_by-requires c = (
  c.requires,
  slot-inside c.session_at.ensures c.in-Some.is,
  sending-small c.sending_at.ensures c.in-Some-sending_at.is,
)

pub returns : goal.returns
returns c = move-sends c.args.file.now c.args.state.now c.args.out.now c.args.q c.args.n c.args.r c.args.to c.session_at.ensures c.in-Some.is c.reach.ensures c.in-Reached.is c.sending_at.ensures c.in-Some-sending_at.is c.after_sending-after.ensures c.reply_back-back.ensures c.send_by.ensures
