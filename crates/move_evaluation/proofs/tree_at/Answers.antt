use Rattle.move_evaluation.proofs.EvaluationLaws.{place-laws}
use native.Mathlib.Omega.{arith}
use Rattle.move_evaluation.proofs.EvaluationLaws.{head-start, head-next, head-end, head-value, tree-there}
use Rattle.move_evaluation.proofs.tree_at.Goals as goal

pub returns-in_default : goal.returns-in_default
returns-in_default c = search place-laws depth 12

pub overflow_add-at : goal.overflow_add-at
overflow_add-at c = let z = head-start _ _ c.head_at.ensures c.in-Some.is in omega arith

pub overflow_sub-mid : goal.overflow_sub-mid
overflow_sub-mid c = let z = head-next _ _ c.head_at.ensures c.in-Some.is in omega arith

pub overflow_sub-mid-2 : goal.overflow_sub-mid-2
overflow_sub-mid-2 c = let z = head-next _ _ c.head_at.ensures c.in-Some.is in omega arith

pub read-v-requires : goal.read-v-requires
read-v-requires c =
    let a = head-next _ _ c.head_at.ensures c.in-Some.is in
    let b = head-end _ _ c.head_at.ensures c.in-Some.is in
    (omega arith, head-value _ _ c.head_at.ensures c.in-Some.is)

pub returns : goal.returns
returns c = tree-there _ _ c.head_at.ensures c.in-Some.is c.read-v.result c.read-v.ensures
