use Prim.Native.Nat.{ℕ, ◌*◌, ◌-◌}
use mathlib.Core.Path.{◌≡◌, refl, ap, ◌∙◌}
use Rattle.wire.specs.Wire.{u16_at}
use Rattle.type_text.specs.Grammar.{same_word}
use Rattle.type_reading.specs.Tables.{word_from}
use Rattle.type_reading.proofs.Words.{sought-all, sought-none, sought-here, sought-less}
use borrow.Author.Rules.{rules}
use Rattle.type_reading.proofs.find_type.Goals as goal

pub loop-i-init : goal.loop-i-init
loop-i-init c = sought-all c.args.text.now c.args.table.now c.args.n (word_from c.args.text.now c.args.p) c.args.n refl

pub returns-then-same_name : goal.returns-then-same_name
returns-then-same_name c =
    let w = word_from c.args.text.now c.args.p in
    let q : c.same_name.result ≡ same_word w (word_from c.args.text.now (u16_at c.args.table.now (6 * (c.loop-i.i - 1)))) =
    c.same_name.ensures ∙ ap (λ (k : ℕ). same_word w (word_from c.args.text.now k)) (c.from.ensures ∙ c.u16_at.ensures) in
    sought-here c.args.text.now c.args.table.now c.args.n w c.loop-i.i c.loop-i.invariant (search rules) q c.if-same_name.true

pub loop-i-preserved : goal.loop-i-preserved
loop-i-preserved c =
    let w = word_from c.args.text.now c.args.p in
    let q : c.same_name.result ≡ same_word w (word_from c.args.text.now (u16_at c.args.table.now (6 * (c.loop-i.i - 1)))) =
    c.same_name.ensures ∙ ap (λ (k : ℕ). same_word w (word_from c.args.text.now k)) (c.from.ensures ∙ c.u16_at.ensures) in
    sought-less c.args.text.now c.args.table.now c.args.n w c.loop-i.i c.loop-i.invariant (search rules) q c.if-same_name.false

pub returns : goal.returns
returns c = sought-none c.args.text.now c.args.table.now c.args.n (word_from c.args.text.now c.args.p) c.loop-i.i c.loop-i.invariant (search rules)
