use mathlib.Core.Path.{◌≡◌, refl, sym, ◌∙◌, ap, subst}
use mathlib.Core.List.{List}
use mathlib.Core.Logic.{inl, inr}
use Prim.Native.Nat.{ℕ}
use native.Mathlib.Omega.{arith}
use lib.ListN.{length}
use Rattle.std.specs.Prelude.{None, Some}
use Rattle.std.proofs.lemmas.Result.{err_from_is_err_and}
use Rattle.type_text.specs.Spelling.{opening, dot}
use Rattle.type_text.specs.Reader.{next_is, next_place, after_next}
use Rattle.type_words.specs.Told.{BasicTold}
use Rattle.type_reading.specs.WordLaws.{word-part}
use Rattle.type_reading.proofs.tree_at.Goals as goal

pub returns-in_err-b : goal.returns-in_err-b
returns-in_err-b c =
    let w = word-part c.args.text.now c.args.p c.args.q c.requires in
    let o : c.basic_named.result ≡ None = grind arith in
    let e : c.in_err-b.field-0.0 ≡ c.args.p = grind arith in
    let r = err_from_is_err_and c.from_residual.result c.from_residual.ensures.1 in
    rw (r.1, r.2) (inl (subst (λ (v : List ℕ). BasicTold v None) w (rw o at c.basic_named.ensures), e))

pub returns-in_default : goal.returns-in_default
returns-in_default c =
    let w = word-part c.args.text.now c.args.p c.args.q c.requires in
    let o : c.basic_named.result ≡ Some c.in_ok-b.b = grind arith in
    let b = subst (λ (v : List ℕ). BasicTold v (Some c.in_ok-b.b)) w (rw o at c.basic_named.ensures) in
    (refl, b.0, c.in_default.ensures)

pub returns-in_err-expected : goal.returns-in_err-expected
returns-in_err-expected c =
    let w = word-part c.args.text.now c.args.p c.args.q c.requires in
    let o : c.basic_named.result ≡ Some c.in_ok-b.b = grind arith in
    let b = subst (λ (v : List ℕ). BasicTold v (Some c.in_ok-b.b)) w (rw o at c.basic_named.ensures) in
    let m = c.in-Some.ensures in
    let d = c.in_err-expected.ensures in
    let r = err_from_is_err_and c.from_residual-in_err-expected.result c.from_residual-in_err-expected.ensures.1 in
    rw (r.1, r.2) (inr (
      c.in_ok-b.b,
      b.0,
      ap (next_is opening) m.is,
      ap (λ l. next_is dot (after_next l)) m.is ∙ d.0,
      d.1 ∙ sym (ap (λ l. next_place (length c.args.text.now) (after_next l)) m.is),
    ))

pub returns : goal.returns
returns c =
    let w = word-part c.args.text.now c.args.p c.args.q c.requires in
    let o : c.basic_named.result ≡ Some c.in_ok-b.b = grind arith in
    let b = subst (λ (v : List ℕ). BasicTold v (Some c.in_ok-b.b)) w (rw o at c.basic_named.ensures) in
    (b.0, c.in-Some.ensures, ap (next_is dot) c.in_ok-expected.ensures.is)
