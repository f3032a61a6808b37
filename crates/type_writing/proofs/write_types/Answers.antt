use mathlib.Core.Path.{sym, ◌∙◌, ap, subst}
use native.Mathlib.Omega.{arith}
use Rattle.refusal.specs.Refusal.{refused_by}
use Rattle.type_reading.specs.Readings.{RestTold}
use Rattle.type_reading.specs.TableLaws.{none-empty-yet}
use Rattle.type_writing.specs.TextPassLaws.{text-long, text-offends, text-answered}
use Rattle.type_writing.proofs.Writing.{as-answer}
use borrow.Author.Rules.{rules}
use Rattle.type_writing.proofs.write_types.Goals as goal

pub returns-then-text-gt8192 : goal.returns-then-text-gt8192
returns-then-text-gt8192 c = let both = as-answer (sym (text-long c.args.text.now c.args.out.now c.if-text-gt8192.true)) c.refused.ensures in record { value = both.0; out_after = both.1 }

pub read_rest-requires : goal.read_rest-requires
read_rest-requires c = ((search rules, search rules, search rules, search rules), none-empty-yet c.args.text.now _, search rules, search rules)

pub answer_rows-requires : goal.answer_rows-requires
answer_rows-requires c =
    let d = subst (RestTold c.args.text.now 0 _ _ 0) c.in-Ok.is c.read_rest.ensures in
    (search rules, (omega (arith, d.room, d.size, c.if-text-gt8192.false), d.named))

pub returns-in-Err : goal.returns-in-Err
returns-in-Err c =
    let both = as-answer (sym (text-offends c.args.text.now c.args.out.now (search rules) _ c.read_rest.new.table c.in-Err.p (subst (RestTold c.args.text.now 0 _ _ 0) c.in-Err.is c.read_rest.ensures)))
    (c.refused-in-Err.ensures ∙ ap refused_by c.offence.ensures) in record { value = both.0; out_after = both.1 }

pub returns-in-Ok : goal.returns-in-Ok
returns-in-Ok c =
    let both = text-answered c.args.text.now c.args.out.now (search rules) _ _ c.in-Ok.n _ c.answer_rows.result (subst (RestTold c.args.text.now 0 _ _ 0) c.in-Ok.is c.read_rest.ensures)
    c.answer_rows.ensures in record { value = both.0; out_after = both.1 }
