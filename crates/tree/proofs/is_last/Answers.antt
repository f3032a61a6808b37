use native.Mathlib.Omega.{arith}
use mathlib.Core.Path.{◌≡◌}
use Prim.Native.Nat.{◌+◌}
use lib.ListN.{length}
use Rattle.tree.specs.IdsLaws.{last_end, last-by}
use borrow.Author.Rules.{rules}
use borrow.Author.Tests.{eq-eqb}
use Rattle.tree.proofs.is_last.Goals as goal

pub returns-then-k-eq3 : goal.returns-then-k-eq3
returns-then-k-eq3 c = rw (eq-eqb c.args.k 3 c.if-k-eq3.true) (last_end _ _ (search rules) c.if-k-eq3.true)

pub returns-else-k-eq3 : goal.returns-else-k-eq3
returns-else-k-eq3 c =
    let l : length c.args.ids ≡ 4 = search rules in
    last-by c.args.ids (c.args.k + 1) (omega arith)
