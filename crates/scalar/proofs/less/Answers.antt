use Rattle.scalar.proofs.Operating.{answer, value-is, not-int, not-long, not-double, no-number, less-unlike, less-integers, less-doubles, less-other}
use lib.Signed.{lt_z}
use mathlib.Core.Path.{◌≡◌, refl, ◌∙◌}
use Rattle.scalar.specs.Basic.{int, long}
use mir.ValLaws.{to_z-of_z}
use mir.Val.{SFits, to_z, of_z}
use lib.Ieee.{binary64, fits}
use lib.Dec.{T}
use mir.Syntax.{w32, w64}
use borrow.Author.Rules.{rules}
use Rattle.scalar.proofs.less.Goals as goal

pub returns-in-Int-Int : goal.returns-in-Int-Int
returns-in-Int-Int c =
    let fp : SFits w32 c.in-Int-Int.p = search rules in
    let fq : SFits w32 c.in-Int-Int.q = search rules in
    let r : lt_z (to_z w32 (of_z w32 c.in-Int-Int.p)) (to_z w32 (of_z w32 c.in-Int-Int.q)) ≡ lt_z c.in-Int-Int.p c.in-Int-Int.q = rw (to_z-of_z w32 c.in-Int-Int.p fp, to_z-of_z w32 c.in-Int-Int.q fq) refl in
    answer _ ∙ less-integers c.args.a c.args.b int w32 refl (value-is c.args.a c.in-Int-Int.is-0, value-is c.args.b c.in-Int-Int.is-1) fp fq r

pub returns-in-Long-Long : goal.returns-in-Long-Long
returns-in-Long-Long c =
    let fp : SFits w64 c.in-Long-Long.p = search rules in
    let fq : SFits w64 c.in-Long-Long.q = search rules in
    let r : lt_z (to_z w64 (of_z w64 c.in-Long-Long.p)) (to_z w64 (of_z w64 c.in-Long-Long.q)) ≡ lt_z c.in-Long-Long.p c.in-Long-Long.q = rw (to_z-of_z w64 c.in-Long-Long.p fp, to_z-of_z w64 c.in-Long-Long.q fq) refl in
    answer _ ∙ less-integers c.args.a c.args.b long w64 refl (value-is c.args.a c.in-Long-Long.is-0, value-is c.args.b c.in-Long-Long.is-1) fp fq r

pub returns-in-Double-Double : goal.returns-in-Double-Double
returns-in-Double-Double c =
    let fp : T (fits binary64 c.in-Double-Double.p) = search rules in
    let fq : T (fits binary64 c.in-Double-Double.q) = search rules in
    answer _ ∙ less-doubles c.args.a c.args.b c.in-Double-Double.p c.in-Double-Double.q (value-is c.args.a c.in-Double-Double.is-0, value-is c.args.b c.in-Double-Double.is-1) fp fq c.double_less.ensures

pub returns-in_default : goal.returns-in_default
returns-in_default c = less-unlike c.args.a c.args.b c.in_default.is-0 (not-int c.args.b.scalar c.in_default.not-Int-1)

pub returns-in_default-2 : goal.returns-in_default-2
returns-in_default-2 c = less-unlike c.args.a c.args.b c.in_default.is-0 (not-long c.args.b.scalar c.in_default.not-Long-1)

pub returns-in_default-3 : goal.returns-in_default-3
returns-in_default-3 c = less-unlike c.args.a c.args.b c.in_default.is-0 (not-double c.args.b.scalar c.in_default.not-Double-1)

pub returns-in_default-4 : goal.returns-in_default-4
returns-in_default-4 c =
    less-other c.args.a c.args.b
    (no-number c.args.a.scalar (not-int _ c.in_default.not-Int-0) (not-long _ c.in_default.not-Long-0) (not-double _ c.in_default.not-Double-0))
