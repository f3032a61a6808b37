use Rattle.scalar.proofs.Operating.{answer, value-is, equal-bools, equal-integers, equal-doubles, equal-strings, equal-raws, equal-unlike, equal-other, not-bool, not-int, not-long, not-double, not-string, not-raw}
use mir.Val.{SFits}
use lib.Ieee.{binary64, fits}
use lib.Dec.{T}
use mir.Syntax.{w32, w64}
use borrow.Author.Rules.{rules}
use Rattle.scalar.specs.Scalar.{kind_of}
use mathlib.Core.Path.{refl, ap, ◌∙◌}
use Rattle.scalar.specs.Basic.{int, long}
use Rattle.scalar.proofs.equal.Goals as goal

pub returns-in-Bool-Bool : goal.returns-in-Bool-Bool
returns-in-Bool-Bool c = equal-bools c.args.a c.args.b c.in-Bool-Bool.is-0 c.in-Bool-Bool.is-1

pub returns-in-Int-Int : goal.returns-in-Int-Int
returns-in-Int-Int c =
    let fp : SFits w32 c.in-Int-Int.p = search rules in
    let fq : SFits w32 c.in-Int-Int.q = search rules in
    answer _ ∙ equal-integers c.args.a c.args.b int w32 refl refl (value-is c.args.a c.in-Int-Int.is-0, value-is c.args.b c.in-Int-Int.is-1) fp fq

pub returns-in-Long-Long : goal.returns-in-Long-Long
returns-in-Long-Long c =
    let fp : SFits w64 c.in-Long-Long.p = search rules in
    let fq : SFits w64 c.in-Long-Long.q = search rules in
    answer _ ∙ equal-integers c.args.a c.args.b long w64 refl refl (value-is c.args.a c.in-Long-Long.is-0, value-is c.args.b c.in-Long-Long.is-1) fp fq

pub returns-in-Double-Double : goal.returns-in-Double-Double
returns-in-Double-Double c =
    let fp : T (fits binary64 c.in-Double-Double.p) = search rules in
    let fq : T (fits binary64 c.in-Double-Double.q) = search rules in
    equal-doubles c.args.a c.args.b c.in-Double-Double.is-0 c.in-Double-Double.is-1 fp fq c.double_equal.ensures

pub returns-in-String-String : goal.returns-in-String-String
returns-in-String-String c = equal-strings c.args.a c.args.b c.in-String-String.is-0 c.in-String-String.is-1 c.same_beside.ensures

pub returns-in-Raw-Raw : goal.returns-in-Raw-Raw
returns-in-Raw-Raw c = equal-raws c.args.a c.args.b c.in-Raw-Raw.is-0 c.in-Raw-Raw.is-1 c.same_beside-in-Raw-Raw.ensures

pub returns-in_default : goal.returns-in_default
returns-in_default c = equal-unlike c.args.a c.args.b c.in_default.is-0 (not-bool c.args.b.scalar c.in_default.not-Bool-1)

pub returns-in_default-2 : goal.returns-in_default-2
returns-in_default-2 c = equal-unlike c.args.a c.args.b c.in_default.is-0 (not-int c.args.b.scalar c.in_default.not-Int-1)

pub returns-in_default-3 : goal.returns-in_default-3
returns-in_default-3 c = equal-unlike c.args.a c.args.b c.in_default.is-0 (not-long c.args.b.scalar c.in_default.not-Long-1)

pub returns-in_default-4 : goal.returns-in_default-4
returns-in_default-4 c = equal-unlike c.args.a c.args.b c.in_default.is-0 (not-double c.args.b.scalar c.in_default.not-Double-1)

pub returns-in_default-5 : goal.returns-in_default-5
returns-in_default-5 c = equal-unlike c.args.a c.args.b c.in_default.is-0 (not-string c.args.b.scalar c.in_default.not-String-1)

pub returns-in_default-6 : goal.returns-in_default-6
returns-in_default-6 c = equal-unlike c.args.a c.args.b c.in_default.is-0 (not-raw c.args.b.scalar c.in_default.not-Raw-1)

pub returns-in_default-7 : goal.returns-in_default-7
returns-in_default-7 c = equal-other c.args.a c.args.b (ap kind_of c.in_default.is-0)
