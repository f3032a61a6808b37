use Rattle.std.proofs.Common.{rules, ◌≡◌, ap, ◌∙◌}
use Rattle.std.specs.Prelude.{Ok}
use Rattle.move_evaluation.specs.declared.Place.{Place}
use Rattle.move_evaluation.proofs.WritingLaws.{source-at, source-alone}
use Rattle.move_evaluation.proofs.write_value.Goals as goal

pub returns-in-At : goal.returns-in-At
returns-in-At c = source-at c.args.s.now c.args.x c.requires.0 (c.in_ok-at.was ∙ ap Ok c.in-At.is) c.write_tree.ensures

pub returns-in-Alone : goal.returns-in-Alone
returns-in-Alone c = source-alone c.args.s.now c.args.x c.requires.0 (c.in_ok-at.was ∙ ap Ok c.in-Alone.is) c.write_leaf.ensures (search rules)
