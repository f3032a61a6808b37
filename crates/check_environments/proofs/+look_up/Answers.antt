use Rattle.check_environments.proofs.Looking.{look-laws, look-deep, look-loose}
use native.Mathlib.Omega.{arith}
use Rattle.tree.specs.IdsLaws.{steps_next}
use mathlib.Core.Path.{◌≡◌, sym, ◌∙◌}
use lib.ListN.{length}
use Rattle.check_environments.proofs.+look_up.Goals as goal

pub returns-then-n-eq0 : goal.returns-then-n-eq0
returns-then-n-eq0 t c = search look-laws depth 12

pub returns-in_default : goal.returns-in_default
returns-in_default t c = search look-laws depth 12

pub returns-then-ids-k : goal.returns-then-ids-k
returns-then-ids-k t c = search look-laws depth 12

pub returns-then-node-ids : goal.returns-then-node-ids
returns-then-node-ids t c = search look-laws depth 12

pub returns-then-is_last : goal.returns-then-is_last
returns-then-is_last t c = search look-laws depth 12

pub look_up-requires-then-node : goal.look_up-requires-then-node
look_up-requires-then-node t c =
    let l : length c.args.ids ≡ 4 = c.well_formed.1.0.1.0.1 in
    let p = steps_next c.args.ids c.args.k l (sym c.is_last.ensures ∙ c.if-is_last.false) in
    (omega (arith, p.0), p.0)

pub returns-then-node : goal.returns-then-node
returns-then-node t c = search (look-deep c.args.s.now c.args.ids c.well_formed.1.0.1.0.1) depth 12

pub returns : goal.returns
returns t c = search (look-loose c.args.s.now c.args.ids c.well_formed.1.0.1.0.1) depth 12
