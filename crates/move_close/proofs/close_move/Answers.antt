use Rattle.move_close.proofs.Closing.{close-nothing, close-undone, close-done}
use native.Mathlib.Omega.{arith}
use Rattle.std.proofs.lemmas.Bool.{not_from_true, not_from_false}
use Rattle.move_close.proofs.close_move.Goals as goal

pub returns-in_default : goal.returns-in_default
returns-in_default c = close-nothing c.args.file.now c.args.state.now c.args.q c.args.n c.session_at.ensures c.in_default.is c.refused.ensures

pub is_done-requires : goal.is_done-requires
is_done-requires c = omega (arith, c.session_at.ensures.inside _ _ c.in-Some.is)

pub returns-then-not-is_done : goal.returns-then-not-is_done
returns-then-not-is_done c = close-undone c.args.file.now c.args.state.now c.args.q c.args.n c.session_at.ensures _ _ c.in-Some.is c.is_done.ensures (not_from_false _ c.if-not-is_done.true) c.refused-then-not-is_done.ensures

pub release-requires : goal.release-requires
release-requires c =
    omega (
      arith,
      c.requires,
      c.session_at.ensures.inside _ _ c.in-Some.is,
    )

pub returns : goal.returns
returns c = close-done c.args.file.now c.args.state.now c.args.q c.args.n c.session_at.ensures _ _ c.in-Some.is c.is_done.ensures (not_from_true _ c.if-not-is_done.false) c.release.ensures c.done.ensures
