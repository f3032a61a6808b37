use native.Mathlib.Omega.{arith}
use Rattle.utf8.proofs.RunLaws.{past-whole}
use Rattle.utf8.proofs.past_even.Goals as goal

pub returns-then-four_threes : goal.returns-then-four_threes
returns-then-four_threes c =
    let w = c.four_threes.ensures c.if-four_threes.true in
    (record { upper_bound = w.inside; v_value = past-whole w (omega arith) })
