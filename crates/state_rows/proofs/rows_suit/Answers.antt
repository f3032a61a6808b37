use Rattle.state_rows.proofs.SuitLaws.{rows-laws, rows-again-laws}
use Rattle.state_rows.proofs.rows_suit.Goals as goal

pub returns-then-not-row_suits : goal.returns-then-not-row_suits
returns-then-not-row_suits c = search rows-laws depth 12

pub loop-i-preserved : goal.loop-i-preserved
loop-i-preserved c = search rows-again-laws depth 12

pub returns : goal.returns
returns c = search rows-laws depth 12
