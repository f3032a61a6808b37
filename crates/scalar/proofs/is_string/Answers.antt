use mathlib.Core.Path.{◌∙◌}
use borrow.Author.Tests.{lt-leb}
use Rattle.scalar.specs.ValueLaws.{string-long, string-short}
use Rattle.scalar.proofs.is_string.Goals as goal

pub returns-then-len-le16 : goal.returns-then-len-le16
returns-then-len-le16 c = string-short c.args.s.now c.args.at c.args.len c.requires c.if-len-le16.true c.is_utf8.ensures

pub returns-else-len-le16 : goal.returns-else-len-le16
returns-else-len-le16 c = lt-leb _ _ c.if-len-le16.false ∙ string-long c.args.s.now c.args.at c.args.len c.requires c.if-len-le16.false
