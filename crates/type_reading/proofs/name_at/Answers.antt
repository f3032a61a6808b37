use borrow.Author.Rules.{rules}
use Rattle.std.proofs.lemmas.Bool.{not_from_true, not_from_false}
use Rattle.std.proofs.lemmas.Result.{err_from_is_err_and}
use Rattle.basics.specs.TestLaws.{told, untold}
use Rattle.type_reading.specs.WordLaws.{word-up-to}
use Rattle.type_reading.proofs.Beginnings.{name-wordless, name-known, name-colonless, name-given}
use Rattle.type_reading.proofs.name_at.Goals as goal

pub returns-in_err-p : goal.returns-in_err-p
returns-in_err-p c =
    let r = err_from_is_err_and c.from_residual.result c.from_residual.ensures.1 in
    rw (r.1, r.2) (name-wordless c.args.text.now c.args.at c.args.table.now c.args.n c.in_err-p.field-0.0 c.in_err-p.ensures.0 c.in_err-p.ensures.1)

pub is_new_type-requires : goal.is_new_type-requires
is_new_type-requires c = (word-up-to c.args.text.now c.args.at c.in_ok-p.p c.in_ok-p.q c.in_ok-p.ensures, search rules)

pub returns-then-not-is_new_type : goal.returns-then-not-is_new_type
returns-then-not-is_new_type c =
    name-known c.args.text.now c.args.at c.args.table.now c.args.n c.in_ok-p.p c.in_ok-p.q c.in_ok-p.ensures
    (untold c.is_new_type.ensures (not_from_false _ c.if-not-is_new_type.true))

pub returns-in_err-a : goal.returns-in_err-a
returns-in_err-a c =
    let r = err_from_is_err_and c.from_residual-in_err-a.result c.from_residual-in_err-a.ensures.1 in
    rw (r.1, r.2) (name-colonless c.args.text.now c.args.at c.args.table.now c.args.n c.in_ok-p.p c.in_ok-p.q c.in_ok-p.ensures
    (told c.is_new_type.ensures (not_from_true _ c.if-not-is_new_type.false)) c.in_err-a.field-0.0 c.in_err-a.ensures.0 c.in_err-a.ensures.1)

pub returns : goal.returns
returns c =
    name-given c.args.text.now c.args.at c.args.table.now c.args.n c.in_ok-p.p c.in_ok-p.q c.in_ok-p.ensures
    (told c.is_new_type.ensures (not_from_true _ c.if-not-is_new_type.false)) c.in_ok-a.a c.in_ok-a.ensures
