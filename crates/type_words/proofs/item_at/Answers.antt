use Rattle.type_words.proofs.Lexing.{told-end, told-word, told-mark}
use borrow.Author.Rules.{rules}
use Rattle.type_words.proofs.item_at.Goals as goal

pub returns-then-p-text : goal.returns-then-p-text
returns-then-p-text c = told-end c.args.text.now c.args.at c.skip_blanks-p.result c.skip_blanks-p.ensures.0 c.if-p-text.true

pub returns-then-in_word : goal.returns-then-in_word
returns-then-in_word c =
    told-word c.args.text.now c.args.at c.skip_blanks-p.result c.skip_blanks-p.ensures.0 (search rules) c.word_end.result
    c.in_word.ensures c.if-in_word.true c.word_end.ensures

pub returns : goal.returns
returns c =
    told-mark c.args.text.now c.args.at c.skip_blanks-p.result c.skip_blanks-p.ensures.0 (search rules)
    c.in_word.ensures c.if-in_word.false c.mark_at.ensures
