use Rattle.move_receive.proofs.Receiving.{receive-nothing, receive-unreached, receive-reached, receive-offered}
use native.Mathlib.Omega.{arith}
use Rattle.move_receive.proofs.receive_move.Goals as goal

pub returns-in_default : goal.returns-in_default
returns-in_default c = receive-nothing c.args.file.now c.args.state.now c.args.q c.args.n c.args.r c.session_at.ensures c.in_default.is c.refused.ensures

pub reach-requires : goal.reach-requires
reach-requires c = omega (arith, c.session_at.ensures.inside _ _ c.in-Some.is)

pub receive_at-requires : goal.receive_at-requires
receive_at-requires c = (
  omega (
    arith,
    c.requires,
    c.session_at.ensures.inside _ _ c.in-Some.is,
  ),
  omega (
    arith,
    c.session_at.ensures.inside _ _ c.in-Some.is,
  ),
)

pub receive_at-requires-in-Offered : goal.receive_at-requires-in-Offered
receive_at-requires-in-Offered c = (
  omega (
    arith,
    c.requires,
    c.session_at.ensures.inside _ _ c.in-Some.is,
  ),
  omega (
    arith,
    c.session_at.ensures.inside _ _ c.in-Some.is,
  ),
)

pub returns-in-Unreached : goal.returns-in-Unreached
returns-in-Unreached c = receive-unreached c.args.file.now c.args.state.now c.args.q c.args.n c.args.r c.session_at.ensures _ _ c.in-Some.is c.reach.ensures c.in-Unreached.is c.refused-in-Unreached.ensures

pub returns-in-Reached : goal.returns-in-Reached
returns-in-Reached c =
    receive-reached c.args.file.now c.args.state.now c.args.q c.args.n c.args.r c.session_at.ensures
    _ _ c.in-Some.is c.reach.ensures _ c.in-Reached.is c.receive_at.ensures

pub returns-in-Offered : goal.returns-in-Offered
returns-in-Offered c =
    receive-offered c.args.file.now c.args.state.now c.args.q c.args.n c.args.r c.session_at.ensures
    _ _ c.in-Some.is c.reach.ensures _ _ _ c.in-Offered.is c.receive_at-in-Offered.ensures
