use Rattle.type_words.proofs.Lexing.{comma-missing, one-missing, close-missing, bracket-whole}
use borrow.Author.Rules.{rules}
use Rattle.type_words.proofs.bracket_end.Goals as goal

pub returns-then-byte_at-ne44 : goal.returns-then-byte_at-ne44
returns-then-byte_at-ne44 c = comma-missing c.args.text.now c.args.p c.args.kind c.byte_at.ensures c.if-byte_at-ne44.true

pub returns-then-byte_at-ne49 : goal.returns-then-byte_at-ne49
returns-then-byte_at-ne49 c = one-missing c.args.text.now c.args.p c.args.kind c.byte_at.ensures c.if-byte_at-ne44.false c.byte_at-2.ensures c.if-byte_at-ne49.true

pub returns-then-byte_at-ne93 : goal.returns-then-byte_at-ne93
returns-then-byte_at-ne93 c =
    close-missing c.args.text.now c.args.p c.args.kind c.byte_at.ensures c.if-byte_at-ne44.false c.byte_at-2.ensures c.if-byte_at-ne49.false
    c.byte_at-3.ensures c.if-byte_at-ne93.true

pub returns : goal.returns
returns c =
    bracket-whole c.args.text.now c.args.p c.args.kind c.byte_at.ensures c.if-byte_at-ne44.false c.byte_at-2.ensures c.if-byte_at-ne49.false
    c.byte_at-3.ensures c.if-byte_at-ne93.false (search rules) (search rules)
