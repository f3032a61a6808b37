use mathlib.Core.Path.{◌≡◌, sym, ◌∙◌, ap}
use Prim.Native.Nat.{◌+◌, ◌-◌}
use native.Mathlib.Omega.{arith}
use borrow.Author.Rules.{rules}
use Rattle.std.proofs.lemmas.Bool.{not_from_true, not_from_false}
use Rattle.std.proofs.lemmas.Result.{err_from_is_err_and}
use Rattle.basics.specs.TestLaws.{told, untold}
use Rattle.type_text.specs.Grammar.{is_name}
use Rattle.type_reading.specs.WordLaws.{word-part, word-up-to}
use Rattle.type_reading.proofs.Beginnings.{child-none, child-wordless, child-no-name, child-again, child-colonless, child-begun, stack-kept, stack-pushed}
use Rattle.type_reading.proofs.child_at.Goals as goal

pub returns-in_default : goal.returns-in_default
returns-in_default c =
    let k = c.args.top - c.args.base in
    record { told = child-none c.args.text.now c.args.at c.args.stack.now c.args.stack.now c.args.base k c.in_default.ensures; kept = stack-kept c.args.stack.now c.args.top }

pub returns-in_err-p : goal.returns-in_err-p
returns-in_err-p c =
    let k = c.args.top - c.args.base in
    let r = err_from_is_err_and c.from_residual.result c.from_residual.ensures.1 in
    let m = c.in-Some.ensures in
    record {
      told = rw (r.1, r.2) (child-wordless c.args.text.now c.args.at c.args.stack.now c.args.stack.now c.args.base k c.in-Some.a m c.in_err-p.field-0.0 c.in_err-p.ensures.0 c.in_err-p.ensures.1);
      kept = stack-kept c.args.stack.now c.args.top;
    }

pub returns-then-not-is_name : goal.returns-then-not-is_name
returns-then-not-is_name c =
    let k = c.args.top - c.args.base in
    let m = c.in-Some.ensures in
    let t = c.in_ok-p.ensures in
    let w = word-part c.args.text.now c.in_ok-p.p c.in_ok-p.q (word-up-to c.args.text.now c.in-Some.a c.in_ok-p.p c.in_ok-p.q t) in
    record {
      told = child-no-name c.args.text.now c.args.at c.args.stack.now c.args.stack.now c.args.base k c.in-Some.a m c.in_ok-p.p c.in_ok-p.q t
          (ap is_name (sym w) ∙ untold c.is_name.ensures (not_from_false _ c.if-not-is_name.true));
      kept = stack-kept c.args.stack.now c.args.top;
    }

pub is_seen-requires : goal.is_seen-requires
is_seen-requires c = (word-up-to c.args.text.now c.in-Some.a c.in_ok-p.p c.in_ok-p.q c.in_ok-p.ensures, search rules, search rules)

pub returns-then-is_seen : goal.returns-then-is_seen
returns-then-is_seen c =
    let k = c.args.top - c.args.base in
    record {
      told = child-again c.args.text.now c.args.at c.args.stack.now c.args.stack.now c.args.base k c.in-Some.a c.in-Some.ensures c.in_ok-p.p c.in_ok-p.q c.in_ok-p.ensures
          (sym c.is_seen.ensures ∙ c.if-is_seen.true);
      kept = stack-kept c.args.stack.now c.args.top;
    }

pub returns-in_err-b : goal.returns-in_err-b
returns-in_err-b c =
    let k = c.args.top - c.args.base in
    let t = c.in_ok-p.ensures in
    let w = word-part c.args.text.now c.in_ok-p.p c.in_ok-p.q (word-up-to c.args.text.now c.in-Some.a c.in_ok-p.p c.in_ok-p.q t) in
    let r = err_from_is_err_and c.from_residual-in_err-b.result c.from_residual-in_err-b.ensures.1 in
    record {
      told = rw (r.1, r.2) (child-colonless c.args.text.now c.args.at c.args.stack.now c.args.stack.now c.args.base k c.in-Some.a c.in-Some.ensures c.in_ok-p.p c.in_ok-p.q t
          (ap is_name (sym w) ∙ told c.is_name.ensures (not_from_true _ c.if-not-is_name.false)) (sym c.is_seen.ensures ∙ c.if-is_seen.false)
          c.in_err-b.field-0.0 c.in_err-b.ensures);
      kept = stack-kept c.args.stack.now c.args.top;
    }

pub overflow_mul-top : goal.overflow_mul-top
overflow_mul-top c = omega (arith, c.requires)

pub put_u16-requires : goal.put_u16-requires
put_u16-requires c =
    let m = c.in-Some.ensures in
    let t = c.in_ok-p.ensures in
    let b = c.in_ok-b.ensures in
    omega (arith, m.far, t.0, t.1, b.far, b.onward.inside, c.requires)

pub returns : goal.returns
returns c =
    let k = c.args.top - c.args.base in
    let m = c.in-Some.ensures in
    let t = c.in_ok-p.ensures in
    let b = c.in_ok-b.ensures in
    let w = word-part c.args.text.now c.in_ok-p.p c.in_ok-p.q (word-up-to c.args.text.now c.in-Some.a c.in_ok-p.p c.in_ok-p.q t) in
    let z : c.args.base + k ≡ c.args.top = omega (arith, c.requires) in
    record {
      told = child-begun c.args.text.now c.args.at c.args.stack.now _ c.args.base k c.in-Some.a m c.in_ok-p.p c.in_ok-p.q t
          (ap is_name (sym w) ∙ told c.is_name.ensures (not_from_true _ c.if-not-is_name.false)) (sym c.is_seen.ensures ∙ c.if-is_seen.false)
          c.in_ok-b.b c.in_ok-b.field-0-1 b (omega (arith, m.far, t.0, t.1, b.far, b.onward.inside, c.requires)) (rw z c.put_u16.ensures);
      kept = stack-pushed c.args.stack.now _ c.args.top c.in_ok-p.p c.put_u16.ensures;
    }
