use Prim.Native.Nat.{ℕ, ◌+◌, ◌-◌}
use mathlib.Core.Path.{◌≡◌, sym, ap, subst, ◌∙◌}
use native.Mathlib.Omega.{arith}
use lib.Dec.{eqb}
use Rattle.type_reading.proofs.Words.{Alike, alike-none, alike-not, alike-more, alike-whole}
use borrow.Author.Rules.{rules}
use Rattle.type_reading.proofs.same_name.Goals as goal

pub loop-i-init : goal.loop-i-init
loop-i-init c = alike-none c.args.text.now c.args.p c.args.q c.args.a 0 (search rules) c.requires.0

pub returns-then-byte_at-text : goal.returns-then-byte_at-text
returns-then-byte_at-text c = alike-not c.args.text.now c.args.p c.args.q c.args.a c.loop-i.i c.loop-i.invariant (omega arith) (λ e. c.if-byte_at-text.true (c.byte_at.ensures ∙ e))

pub loop-i-preserved : goal.loop-i-preserved
loop-i-preserved c = alike-more c.args.text.now c.args.p c.args.q c.args.a c.loop-i.i c.loop-i.invariant (omega arith) (sym c.byte_at.ensures ∙ c.if-byte_at-text.false)

pub word_end-requires : goal.word_end-requires
word_end-requires c =
    let z = c.loop-i.invariant.inside (omega (arith, c.requires.0)) in
    omega arith

pub returns : goal.returns
returns c =
    let n = c.args.q - c.args.p in
    let e : c.loop-i.i ≡ n = omega arith in
    ap (λ (k : ℕ). eqb k (c.args.a + n)) c.word_end.ensures.0
    ∙ alike-whole c.args.text.now c.args.p c.args.q c.args.a n (subst (Alike c.args.text.now c.args.p c.args.q c.args.a) e c.loop-i.invariant) (omega (arith, c.requires.0))
