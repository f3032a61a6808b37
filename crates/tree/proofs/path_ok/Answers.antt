use mathlib.Core.Path.{◌≡◌, sym, ◌∙◌}
use mathlib.Core.Bool.{false}
use borrow.Author.Rules.{rules}
use borrow.Author.Tests.{eq-eqb, ne_eqb}
use lib.ListN.{length, get_or}
use lib.Dec.{eqb}
use Rattle.basics.specs.TestLaws.{apart}
use Rattle.std.proofs.lemmas.Bool.{not_from_true, not_from_false}
use Rattle.tree.proofs.Walking.{path_empty, path-one, path-gap, path-two, path-three}
use Rattle.tree.proofs.path_ok.Goals as goal
use Rattle.tree.proofs.path_ok.Goals.{then-ids-ne0+then-ids-ne0-2, then-ids-ne0+else-ids-ne0-2, else-ids-ne0}

pub returns-then-ids-ne0-3 : goal.returns-then-ids-ne0-3
returns-then-ids-ne0-3 c =
    let four : length c.args.ids ≡ 4 = search rules in
    let x : eqb (get_or c.args.ids 2 0) 0 ≡ false = ne_eqb _ _ c.if-ids-ne0-3.true in
    elim c.if-ids-ne0.branch [
      | then-ids-ne0+then-ids-ne0-2 w ↦ rw x (path-three _ four w.if-ids-ne0.true w.if-ids-ne0-2.true c.if-ids-ne0-3.true)
      | then-ids-ne0+else-ids-ne0-2 w ↦ apart (sym x ∙ sym w.value-is ∙ c.if-ids-eq0.true)
      | else-ids-ne0 w ↦ apart (sym (not_from_true _ (eq-eqb _ _ w.if-ids-ne0.false)) ∙ sym w.value-is ∙ c.if-ids-eq0.true)
    ]

pub returns-else-ids-ne0-3 : goal.returns-else-ids-ne0-3
returns-else-ids-ne0-3 c =
    let four : length c.args.ids ≡ 4 = search rules in
    elim c.if-ids-ne0.branch [
      | then-ids-ne0+then-ids-ne0-2 w ↦ path-two _ four w.if-ids-ne0.true w.if-ids-ne0-2.true c.if-ids-ne0-3.false
      | then-ids-ne0+else-ids-ne0-2 w ↦ path-one _ four w.if-ids-ne0.true w.if-ids-ne0-2.false c.if-ids-ne0-3.false
      | else-ids-ne0 w ↦ apart (sym (not_from_true _ (eq-eqb _ _ w.if-ids-ne0.false)) ∙ sym w.value-is ∙ c.if-ids-eq0.true)
    ]

pub returns-else-ids-eq0 : goal.returns-else-ids-eq0
returns-else-ids-eq0 c =
    let four : length c.args.ids ≡ 4 = search rules in
    let z = c.if-ids-eq0.false in
    z ∙ elim c.if-ids-ne0.branch [
      | then-ids-ne0+then-ids-ne0-2 w ↦ apart (sym z ∙ w.value-is ∙ not_from_false _ (ne_eqb _ _ w.if-ids-ne0-2.true))
      | then-ids-ne0+else-ids-ne0-2 w ↦
          path-gap _ four w.if-ids-ne0.true w.if-ids-ne0-2.false (λ x. apart (sym z ∙ w.value-is ∙ eq-eqb _ _ x))
      | else-ids-ne0 w ↦ path_empty _ four w.if-ids-ne0.false
    ]
