use mathlib.Core.Path.{sym, ◌∙◌, ap, subst}
use mathlib.Core.List.{List}
use mathlib.Core.Logic.{inr}
use mathlib.Core.Path.{refl}
use native.Mathlib.Omega.{arith}
use borrow.Author.Rules.{rules}
use Prim.Native.Nat.{ℕ, ◌+◌}
use lib.ListN.{length}
use Rattle.std.proofs.lemmas.Result.{err_from_is_err_and}
use Rattle.type_reading.specs.Tables.{NoneEmpty}
use Rattle.type_reading.specs.Readings.{RestTold}
use Rattle.type_reading.proofs.Rest.{noted-long, noted-named, rest-none, rest-bad, rest-tree-bad, rest_more}
use Rattle.type_reading.proofs.+read_rest.Goals as goal

pub start_at-requires : goal.start_at-requires
start_at-requires t c = (search rules, omega (arith, c.requires))

pub read_tree-requires : goal.read_tree-requires
read_tree-requires t c =
    let given = rw c.in-Some.is at c.in_ok-p.ensures in (
      (given.onward.inside, search rules, search rules, omega arith),
      (omega (arith, c.requires), c.requires.1),
      inr refl,
    )

pub note-requires : goal.note-requires
note-requires t c =
    let given = rw c.in-Some.is at c.in_ok-p.ensures in
    (omega (arith, c.requires, given.far, given.onward.inside), omega (arith, c.requires, given.low))

pub overflow_add-n : goal.overflow_add-n
overflow_add-n t c = omega (arith, c.requires)

pub read_rest-requires : goal.read_rest-requires
read_rest-requires t c =
    let given = rw c.in-Some.is at c.in_ok-p.ensures in
    let side = c.in_ok-b.ensures.told in
    let long = ap length c.note.ensures ∙ noted-long c.args.table.now c.args.n c.in-Some.p c.in_ok-b.nodes c.in_ok-b.levels in (
      omega (arith, c.requires, given.far, side.far, side.onward.inside),
      (
        (side.onward.inside, omega (arith, c.requires), omega (arith, c.requires, c.read_tree.ensures.kept.size), omega arith),
        subst (λ (x : List ℕ). NoneEmpty c.args.text.now x (c.args.n + 1)) (sym c.note.ensures)
            (noted-named c.args.text.now c.args.table.now c.args.n c.in-Some.p c.in_ok-b.nodes c.in_ok-b.levels (omega (arith, c.requires, given.far, given.onward.inside)) given.fresh c.requires.1),
        omega (arith, c.requires, long),
        omega (arith, c.requires, given.far, side.far),
      ),
    )

pub returns-in_default : goal.returns-in_default
returns-in_default t c = rest-none c.args.text.now c.args.at c.args.table.now c.args.table.now c.args.n (rw c.in_default.is at c.in_ok-p.ensures) c.requires.1 (search rules) (omega (arith, c.requires))

pub returns-in_err-p : goal.returns-in_err-p
returns-in_err-p t c =
    let r = err_from_is_err_and c.from_residual.result c.from_residual.ensures.1 in
    rw (r.1, r.2) (rest-bad c.args.text.now c.args.at c.args.table.now c.args.table.now c.args.n c.in_err-p.field-0.0 c.in_err-p.ensures)

pub returns-in_err-b : goal.returns-in_err-b
returns-in_err-b t c =
    let given = rw c.in-Some.is at c.in_ok-p.ensures in
    let r = err_from_is_err_and c.from_residual-in_err-b.result c.from_residual-in_err-b.ensures.1 in
    rw (r.1, r.2) (rest-tree-bad c.args.text.now c.args.at c.args.table.now c.args.table.now c.args.n c.in-Some.p c.in-Some.a given c.in_err-b.field-0.0 c.in_err-b.ensures.told)

pub returns : goal.returns
returns t c =
    let given = rw c.in-Some.is at c.in_ok-p.ensures in
    rest_more c.args.text.now c.args.at c.args.table.now c.read_rest.new.table c.args.n c.in-Some.p c.in-Some.a given c.in_ok-b.b c.in_ok-b.nodes c.in_ok-b.levels c.in_ok-b.ensures.told
    (omega (arith, c.requires, given.far, given.onward.inside)) c.read_rest.result
    (subst (λ (x : List ℕ). RestTold c.args.text.now c.in_ok-b.b x c.read_rest.new.table (c.args.n + 1) c.read_rest.result) c.note.ensures c.read_rest.ensures)
