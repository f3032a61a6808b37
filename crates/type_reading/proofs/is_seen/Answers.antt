use Prim.Native.Nat.{ℕ, ◌*◌, ◌-◌}
use mathlib.Core.Path.{◌≡◌, refl, ap, ◌∙◌}
use Rattle.wire.specs.Wire.{u16_at}
use Rattle.type_text.specs.Grammar.{same_word}
use Rattle.type_reading.specs.Tables.{word_from}
use Rattle.type_reading.proofs.Words.{seen_all, seen_none, seen_here, seen-less}
use borrow.Author.Rules.{rules}
use Rattle.type_reading.proofs.is_seen.Goals as goal

pub loop-i-init : goal.loop-i-init
loop-i-init c = seen_all c.args.text.now c.args.stack.now c.args.base c.args.top (word_from c.args.text.now c.args.p) c.args.top refl (search rules)

pub returns-then-same_name : goal.returns-then-same_name
returns-then-same_name c =
    let w = word_from c.args.text.now c.args.p in
    let q : c.same_name.result ≡ same_word w (word_from c.args.text.now (u16_at c.args.stack.now (2 * (c.loop-i.i - 1)))) =
    c.same_name.ensures ∙ ap (λ (k : ℕ). same_word w (word_from c.args.text.now k)) (c.from.ensures ∙ c.u16_at.ensures) in
    seen_here c.args.text.now c.args.stack.now c.args.base c.args.top w c.loop-i.i c.loop-i.invariant (search rules) q c.if-same_name.true

pub loop-i-preserved : goal.loop-i-preserved
loop-i-preserved c =
    let w = word_from c.args.text.now c.args.p in
    let q : c.same_name.result ≡ same_word w (word_from c.args.text.now (u16_at c.args.stack.now (2 * (c.loop-i.i - 1)))) =
    c.same_name.ensures ∙ ap (λ (k : ℕ). same_word w (word_from c.args.text.now k)) (c.from.ensures ∙ c.u16_at.ensures) in
    seen-less c.args.text.now c.args.stack.now c.args.base c.args.top w c.loop-i.i c.loop-i.invariant (search rules) q c.if-same_name.false

pub returns : goal.returns
returns c = seen_none c.args.text.now c.args.stack.now c.args.base c.args.top (word_from c.args.text.now c.args.p) c.loop-i.i c.loop-i.invariant (search rules)
