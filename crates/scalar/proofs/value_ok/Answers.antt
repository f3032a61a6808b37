use mathlib.Core.Path.{refl, ◌∙◌}
use borrow.Author.Tests.{ne_eqb, le-leb}
use mir.Syntax.{w32, w64}
use Rattle.scalar.specs.ValueLaws.{bool-value, bool-long, integer-value, double-plain, double-nan, double-long, raw-value, void-value, no_value, past-last}
use Rattle.scalar.proofs.value_ok.Goals as goal

pub returns-then-len-eq1 : goal.returns-then-len-eq1
returns-then-len-eq1 c = bool-value c.args.s.now c.args.at c.args.basic c.args.len c.requires _ c.in-0.is c.if-len-eq1.true c.byte_at.ensures

pub returns-then-n-le9218868437227405312 : goal.returns-then-n-le9218868437227405312
returns-then-n-le9218868437227405312 c = le-leb _ _ c.if-n-le9218868437227405312.true ∙ double-plain c.args.s.now c.args.at c.args.basic c.args.len c.requires _ c.in-2.is c.if-len-ne8.false c.u64_at-n.ensures c.if-n-le9218868437227405312.true

pub returns-else-n-le9218868437227405312 : goal.returns-else-n-le9218868437227405312
returns-else-n-le9218868437227405312 c = double-nan c.args.s.now c.args.at c.args.basic c.args.len c.requires _ c.in-2.is c.if-len-ne8.false c.u64_at-n.ensures c.if-n-le9218868437227405312.false

pub returns-else-len-eq1 : goal.returns-else-len-eq1
returns-else-len-eq1 c = ne_eqb _ _ c.if-len-eq1.false ∙ bool-long c.args.s.now c.args.at c.args.basic c.args.len c.requires c.in-0.is c.if-len-eq1.false

pub returns-in-1 : goal.returns-in-1
returns-in-1 c = integer-value c.args.s.now c.args.at c.args.basic c.args.len c.requires w32 (rw c.in-1.is refl)

pub returns-then-len-ne8 : goal.returns-then-len-ne8
returns-then-len-ne8 c = double-long c.args.s.now c.args.at c.args.basic c.args.len c.requires c.in-2.is c.if-len-ne8.true

pub returns-in-3 : goal.returns-in-3
returns-in-3 c = integer-value c.args.s.now c.args.at c.args.basic c.args.len c.requires w64 (rw c.in-3.is refl)

pub returns-in-5 : goal.returns-in-5
returns-in-5 c = raw-value c.args.s.now c.args.at c.args.basic c.args.len c.requires c.in-5.is

pub returns-in-6 : goal.returns-in-6
returns-in-6 c = void-value c.args.s.now c.args.at c.args.basic c.args.len c.requires c.in-6.is

pub returns-in_default : goal.returns-in_default
returns-in_default c =
    let past = past-last c.args.basic c.in_default.in_default-own.rest.0.0.0.0.0.0.1 c.in_default.in_default-own.rest.0.0.0.0.0.1 c.in_default.in_default-own.rest.0.0.0.0.1 c.in_default.in_default-own.rest.0.0.0.1 c.in_default.in_default-own.rest.0.0.1 c.in_default.in_default-own.rest.0.1 c.in_default.in_default-own.rest.1 in
    no_value c.args.s.now c.args.at c.args.basic c.args.len c.requires past
