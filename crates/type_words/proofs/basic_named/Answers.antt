use Prim.Native.Nat.{◌-◌}
use mathlib.Core.Path.{sym, ◌∙◌}
use native.Mathlib.Omega.{arith}
use borrow.Author.Rules.{rules}
use Rattle.wire.specs.Wire.{part}
use Rattle.type_words.proofs.Naming.{named_here, named-below, named_none}
use Rattle.type_words.proofs.basic_named.Goals as goal

pub returns-then-is_word_of : goal.returns-then-is_word_of
returns-then-is_word_of c =
    let w = part c.args.text.now c.args.p (c.args.q - c.args.p) in
    (sym c.loop-n.invariant ∙ named_here w c.loop-n.n (search rules) c.is_word_of.ensures c.if-is_word_of.true, omega arith)

pub loop-n-preserved : goal.loop-n-preserved
loop-n-preserved c =
    let w = part c.args.text.now c.args.p (c.args.q - c.args.p) in
    sym (named-below w c.loop-n.n (search rules) c.is_word_of.ensures c.if-is_word_of.false) ∙ c.loop-n.invariant

pub returns : goal.returns
returns c =
    let w = part c.args.text.now c.args.p (c.args.q - c.args.p) in
    sym c.loop-n.invariant ∙ named_none w c.loop-n.n (search rules)
