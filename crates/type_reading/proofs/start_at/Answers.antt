use mathlib.Core.Path.{sym, ◌∙◌, ap}
use lib.ListN.{length}
use Rattle.std.proofs.lemmas.Bool.{not_from_true, not_from_false}
use Rattle.std.proofs.lemmas.Result.{err_from_is_err_and}
use Rattle.basics.specs.TestLaws.{told, untold}
use Rattle.type_text.specs.Grammar.{same_word, type_word}
use Rattle.type_text.specs.Reader.{next_place}
use Rattle.type_reading.specs.WordLaws.{word-part, word-up-to}
use Rattle.type_reading.proofs.Marks.{mark-no-word, fault-no-word}
use Rattle.type_reading.proofs.Beginnings.{start-wordless, start-other, start-bad, start-name}
use Rattle.type_reading.proofs.start_at.Goals as goal

pub returns-then-not-is_type_word : goal.returns-then-not-is_type_word
returns-then-not-is_type_word c =
    let t = c.in-Word.ensures in
    let w = word-part c.args.text.now c.in-Word.p c.in-Word.q (word-up-to c.args.text.now c.args.at c.in-Word.p c.in-Word.q t) in
    start-other c.args.text.now c.args.at c.args.table.now c.args.n c.in-Word.p c.in-Word.q t (ap (same_word type_word) (sym w) ∙ untold c.is_type_word.ensures (not_from_false _ c.if-not-is_type_word.true))

pub returns-in_err-name-in-Word : goal.returns-in_err-name-in-Word
returns-in_err-name-in-Word c =
    let t = c.in-Word.ensures in
    let w = word-part c.args.text.now c.in-Word.p c.in-Word.q (word-up-to c.args.text.now c.args.at c.in-Word.p c.in-Word.q t) in
    let r = err_from_is_err_and c.from_residual.result c.from_residual.ensures.1 in
    rw (r.1, r.2) (start-bad c.args.text.now c.args.at c.args.table.now c.args.n c.in-Word.p c.in-Word.q t
    (ap (same_word type_word) (sym w) ∙ told c.is_type_word.ensures (not_from_true _ c.if-not-is_type_word.false)) c.in_err-name-in-Word.field-0.0 c.in_err-name-in-Word.ensures)

pub returns-in_ok-name-in-Word : goal.returns-in_ok-name-in-Word
returns-in_ok-name-in-Word c =
    let t = c.in-Word.ensures in
    let w = word-part c.args.text.now c.in-Word.p c.in-Word.q (word-up-to c.args.text.now c.args.at c.in-Word.p c.in-Word.q t) in
    start-name c.args.text.now c.args.at c.args.table.now c.args.n c.in-Word.p c.in-Word.q t
    (ap (same_word type_word) (sym w) ∙ told c.is_type_word.ensures (not_from_true _ c.if-not-is_type_word.false)) c.in_ok-name-in-Word.name.0 c.in_ok-name-in-Word.name.1 c.in_ok-name-in-Word.ensures

pub returns-in-Mark : goal.returns-in-Mark
returns-in-Mark c =
    let t = c.in-Mark.ensures in
    start-wordless c.args.text.now c.args.at c.args.table.now c.args.n c.in-Mark.p t.5 (mark-no-word c.args.text.now c.args.at c.in-Mark.field-0 c.in-Mark.p c.in-Mark.field-2 t) (sym (ap (next_place (length c.args.text.now)) t.5))

pub returns-in-Fault : goal.returns-in-Fault
returns-in-Fault c =
    let t = c.in-Fault.ensures in
    start-wordless c.args.text.now c.args.at c.args.table.now c.args.n c.in-Fault.p t.3 (fault-no-word c.args.text.now c.args.at c.in-Fault.p c.in-Fault.field-1 t) (sym (ap (next_place (length c.args.text.now)) t.3))
