use native.Mathlib.Omega.{arith}
use Rattle.state_reopening.proofs.ClearLaws.{reopened-none, reopened-next, reopened-same, reopened-all}
use Rattle.state_reopening.proofs.reopen.Goals.{then-marks-i-ne0, else-marks-i-ne0}
use Rattle.state_reopening.proofs.reopen.Goals as goal

pub loop-i-init : goal.loop-i-init
loop-i-init c = reopened-none _ _ _

pub loop-i-preserved : goal.loop-i-preserved
loop-i-preserved c =
    let marks = c.rows_of-marks.result in
    elim c.if-marks-i-ne0.branch [
      | then-marks-i-ne0 w ↦ rw w.state-is (reopened-next marks c.args.slot c.loop-i.i c.args.state.now c.loop-i.state c.loop-i.invariant
          c.loop-i-test.true (omega (arith, c.requires, c.loop-i.auto.state)) w.if-marks-i-ne0.true w.row_start.ensures w.put_progress.ensures)
      | else-marks-i-ne0 w ↦ rw w.state-is (reopened-same marks c.args.slot c.loop-i.i c.args.state.now c.loop-i.state c.loop-i.invariant w.if-marks-i-ne0.false)
    ]

pub returns : goal.returns
returns c = reopened-all _ _ _ _ _ _ _ c.rows_of-marks.ensures c.loop-i-test.false c.loop-i.auto.i-end c.loop-i.invariant
