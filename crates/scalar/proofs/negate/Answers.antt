use Rattle.integer.specs.Range.{int_sum, long_sum}
use Rattle.scalar.specs.Scalar.{int_answer, long_answer}
use lib.IntN.{neg_ℤ}
use Rattle.scalar.proofs.Operating.{int-answers, long-answers, value-is, negate-integer, negate-double, negate-other, no-number, not-int, not-long, not-double}
use mir.Syntax.{w32, w64}
use mir.Val.{SFits}
use mir.ValLaws.{to_z-of_z}
use mathlib.Core.Path.{◌≡◌, refl, ap, ◌∙◌}
use Rattle.scalar.specs.Basic.{int, long}
use lib.Dec.{T}
use lib.Ieee.{binary64, fits}
use borrow.Author.Rules.{rules}
use Rattle.scalar.proofs.negate.Goals as goal

pub returns-in-Int : goal.returns-in-Int
returns-in-Int c =
    let f : SFits w32 c.in-Int.p = search rules in
    let r : c.int_negate.result ≡ int_sum (neg_ℤ c.in-Int.p) = cc (c.int_negate.ensures, to_z-of_z w32 c.in-Int.p f) in
    c.int_computed.ensures ∙ ap int_answer r ∙ int-answers (neg_ℤ c.in-Int.p) ∙ negate-integer c.args.a int w32 refl (value-is c.args.a c.in-Int.is) f

pub returns-in-Long : goal.returns-in-Long
returns-in-Long c =
    let f : SFits w64 c.in-Long.p = search rules in
    let r : c.long_negate.result ≡ long_sum (neg_ℤ c.in-Long.p) = cc (c.long_negate.ensures, to_z-of_z w64 c.in-Long.p f) in
    c.long_computed.ensures ∙ ap long_answer r ∙ long-answers (neg_ℤ c.in-Long.p) ∙ negate-integer c.args.a long w64 refl (value-is c.args.a c.in-Long.is) f

pub returns-in-Double : goal.returns-in-Double
returns-in-Double c =
    let f : T (fits binary64 c.in-Double.p) = search rules in
    negate-double c.args.a c.in-Double.is f

pub returns-in_default : goal.returns-in_default
returns-in_default c =
    negate-other c.args.a
    (no-number c.args.a.scalar (not-int _ c.in_default.not-Int) (not-long _ c.in_default.not-Long) (not-double _ c.in_default.not-Double))
