use native.Mathlib.Omega.{arith}
use Rattle.move_frame.proofs.Sessions.{runs-nothing, slot-free, slot-live}
use Rattle.move_frame.proofs.session_at.Goals as goal

pub returns-in_err-b : goal.returns-in_err-b
returns-in_err-b c = rw c.from_residual.ensures (runs-nothing _ _ _ _ c.behaviour_in.ensures c.in_err-b.was)

pub returns-then-byte_at-eq0 : goal.returns-then-byte_at-eq0
returns-then-byte_at-eq0 c =
    slot-free c.args.file.now c.args.state.now c.args.q c.args.n c.behaviour_in.ensures c.in_ok-b.was (omega arith) (omega arith)
    c.slot_start-slot.ensures c.byte_at.ensures c.if-byte_at-eq0.true

pub returns : goal.returns
returns c =
    slot-live c.args.file.now c.args.state.now c.args.q c.args.n c.behaviour_in.ensures c.in_ok-b.was (omega arith) (omega arith)
    c.slot_start-slot.ensures c.byte_at.ensures c.if-byte_at-eq0.false
