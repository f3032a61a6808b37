use Rattle.integer.specs.Range.{int_sum, long_sum}
use Rattle.scalar.specs.Scalar.{int_answer, long_answer}
use lib.IntN.{◌+ℤ◌}
use Rattle.scalar.proofs.Operating.{answer, value-is, int-answers, long-answers, not-int, not-long, not-double, no-number, add-unlike, add-integers, add-doubles, add-other}
use mir.Syntax.{w32, w64}
use mir.Val.{SFits}
use mir.ValLaws.{to_z-of_z}
use mathlib.Core.Path.{◌≡◌, refl, ap, ◌∙◌}
use Rattle.scalar.specs.Basic.{int, long}
use lib.Dec.{T}
use lib.Ieee.{binary64, fits}
use borrow.Author.Rules.{rules}
use Rattle.scalar.proofs.add.Goals as goal

pub returns-in-Int-Int : goal.returns-in-Int-Int
returns-in-Int-Int c =
    let fp : SFits w32 c.in-Int-Int.p = search rules in
    let fq : SFits w32 c.in-Int-Int.q = search rules in
    let r : c.int_add.result ≡ int_sum (c.in-Int-Int.p +ℤ c.in-Int-Int.q) =
    cc (c.int_add.ensures, to_z-of_z w32 c.in-Int-Int.p fp, to_z-of_z w32 c.in-Int-Int.q fq) in
    c.int_computed.ensures ∙ ap int_answer r ∙ int-answers (c.in-Int-Int.p +ℤ c.in-Int-Int.q)
    ∙ add-integers c.args.a c.args.b int w32 refl (value-is c.args.a c.in-Int-Int.is-0, value-is c.args.b c.in-Int-Int.is-1) fp fq

pub returns-in-Long-Long : goal.returns-in-Long-Long
returns-in-Long-Long c =
    let fp : SFits w64 c.in-Long-Long.p = search rules in
    let fq : SFits w64 c.in-Long-Long.q = search rules in
    let r : c.long_add.result ≡ long_sum (c.in-Long-Long.p +ℤ c.in-Long-Long.q) =
    cc (c.long_add.ensures, to_z-of_z w64 c.in-Long-Long.p fp, to_z-of_z w64 c.in-Long-Long.q fq) in
    c.long_computed.ensures ∙ ap long_answer r ∙ long-answers (c.in-Long-Long.p +ℤ c.in-Long-Long.q)
    ∙ add-integers c.args.a c.args.b long w64 refl (value-is c.args.a c.in-Long-Long.is-0, value-is c.args.b c.in-Long-Long.is-1) fp fq

pub returns-in-Double-Double : goal.returns-in-Double-Double
returns-in-Double-Double c =
    let fp : T (fits binary64 c.in-Double-Double.p) = search rules in
    let fq : T (fits binary64 c.in-Double-Double.q) = search rules in
    answer _ ∙ add-doubles c.args.a c.args.b c.in-Double-Double.p c.in-Double-Double.q (value-is c.args.a c.in-Double-Double.is-0, value-is c.args.b c.in-Double-Double.is-1) fp fq

pub returns-in_default : goal.returns-in_default
returns-in_default c = add-unlike c.args.a c.args.b c.in_default.is-0 (not-int c.args.b.scalar c.in_default.not-Int-1)

pub returns-in_default-2 : goal.returns-in_default-2
returns-in_default-2 c = add-unlike c.args.a c.args.b c.in_default.is-0 (not-long c.args.b.scalar c.in_default.not-Long-1)

pub returns-in_default-3 : goal.returns-in_default-3
returns-in_default-3 c = add-unlike c.args.a c.args.b c.in_default.is-0 (not-double c.args.b.scalar c.in_default.not-Double-1)

pub returns-in_default-4 : goal.returns-in_default-4
returns-in_default-4 c =
    add-other c.args.a c.args.b
    (no-number c.args.a.scalar (not-int _ c.in_default.not-Int-0) (not-long _ c.in_default.not-Long-0) (not-double _ c.in_default.not-Double-0))
