use mathlib.Core.Logic.{inl, inr}
use Rattle.counterexample.proofs.Showing.{Shows, show-small, show-form, show-first, show-second, show-found}
use Rattle.counterexample.proofs.show.Goals as goal

pub returns-then-out-lt512 : goal.returns-then-out-lt512
returns-then-out-lt512 c =
    let both = show-small c.args.file.now c.args.first c.args.second c.args.out.now c.if-out-lt512.true c.refused.ensures in record { value = both.0; out_after = both.1 }

pub returns-in-Err : goal.returns-in-Err
returns-in-Err c =
    let both = show-form c.args.file.now c.args.first c.args.second c.args.out.now c.if-out-lt512.false c.form_of.ensures c.in-Err.is c.refused-in-Err.ensures in
    record { value = both.0; out_after = both.1 }

pub returns-then-rows-first : goal.returns-then-rows-first
returns-then-rows-first c =
    let n = c.type_count-rows.ensures in
    let o = c.refused-then-rows-first.ensures in
    let both = elim c.then-rows-first.either as (λ z. Shows c.args.file.now c.args.first c.args.second c.args.out.now c.refused-then-rows-first.result c.args.out.now) [
      | inl h ↦ show-first c.args.file.now c.args.first c.args.second c.args.out.now c.if-out-lt512.false c.form_of.ensures c.in_default.is n h o
      | inr h ↦ show-second c.args.file.now c.args.first c.args.second c.args.out.now c.if-out-lt512.false c.form_of.ensures c.in_default.is n h.1 o
    ] in
    record { value = both.0; out_after = both.1 }

pub returns : goal.returns
returns c =
    let both = show-found c.args.file.now c.args.first c.args.second c.args.out.now c.if-out-lt512.false c.form_of.ensures c.in_default.is _ _ c.type_count-rows.ensures
    c.if-rows-first.false c.if-rows-second.false c.search-n.ensures c.append.ensures c.done.ensures in
    record { value = both.0; out_after = both.1 }
