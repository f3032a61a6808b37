use Prim.Native.Nat.{ℕ, ◌-◌, ◌*◌}
use mathlib.Core.Path.{◌≡◌, sym, ◌∙◌, ap}
use native.Mathlib.Omega.{arith}
use Rattle.wire.specs.Wire.{u16_at}
use Rattle.type_text.specs.Grammar.{same_word}
use Rattle.type_reading.specs.Tables.{word_from}
use Rattle.type_trees.specs.NameLaws.{id-here, id-later, id-past}
use borrow.Author.Rules.{rules}
use Rattle.type_trees.proofs.id_of.Goals as goal

pub loop-i-init : goal.loop-i-init
loop-i-init c =
    let z : c.args.n - 0 ≡ c.args.n = omega arith in
    rw z (omega arith)

pub returns-then-same_name : goal.returns-then-same_name
returns-then-same_name c =
    let w = word_from c.args.text.now c.args.p in
    let p = c.from.ensures ∙ c.u16_at.ensures in
    let q : c.same_name.result ≡ same_word w (word_from c.args.text.now (u16_at c.args.names.now (2 * c.loop-i.i))) =
    c.same_name.ensures ∙ ap (λ (k : ℕ). same_word w (word_from c.args.text.now k)) p in
    sym (c.loop-i.invariant ∙ id-here c.args.text.now c.args.names.now w c.args.n c.loop-i.i (search rules) (sym q ∙ c.if-same_name.true))

pub loop-i-preserved : goal.loop-i-preserved
loop-i-preserved c =
    let w = word_from c.args.text.now c.args.p in
    let p = c.from.ensures ∙ c.u16_at.ensures in
    let q : c.same_name.result ≡ same_word w (word_from c.args.text.now (u16_at c.args.names.now (2 * c.loop-i.i))) =
    c.same_name.ensures ∙ ap (λ (k : ℕ). same_word w (word_from c.args.text.now k)) p in
    c.loop-i.invariant ∙ id-later c.args.text.now c.args.names.now w c.args.n c.loop-i.i (search rules) (sym q ∙ c.if-same_name.false)

pub returns : goal.returns
returns c =
    let z : c.loop-i.i ≡ c.args.n = search rules in
    sym (c.loop-i.invariant ∙ id-past c.args.text.now c.args.names.now (word_from c.args.text.now c.args.p) c.args.n c.loop-i.i z)
