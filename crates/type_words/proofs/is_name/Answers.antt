use native.Mathlib.Omega.{arith}
use mathlib.Core.Path.{◌∙◌}
use Prim.Native.Nat.{◌-◌}
use Rattle.type_words.proofs.Naming.{name-none, name-long, name-letter}
use borrow.Author.Rules.{rules}
use Rattle.type_words.proofs.is_name.Goals as goal

pub returns-then-n-eq0 : goal.returns-then-n-eq0
returns-then-n-eq0 c = name-none c.args.text.now c.args.p (c.args.q - c.args.p) c.if-n-eq0.true

pub returns-then-n-gt16 : goal.returns-then-n-gt16
returns-then-n-gt16 c = name-long c.args.text.now c.args.p (c.args.q - c.args.p) (omega arith) (omega arith) c.if-n-gt16.true

pub returns : goal.returns
returns c = c.is_letter.ensures ∙ name-letter c.args.text.now c.args.p (c.args.q - c.args.p) (search rules) (omega arith) (search rules)
