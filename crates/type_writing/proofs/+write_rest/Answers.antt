use Rattle.std.specs.Prelude.{None, Ok}
use mathlib.Core.Path.{◌≡◌, ◌∙◌, ap, subst}
use mathlib.Core.List.{List}
use native.Mathlib.Omega.{arith}
use Prim.Native.Nat.{ℕ, ◌+◌, ◌*◌}
use lib.ListN.{length}
use Rattle.wire.specs.WireLaws.{length-16}
use Rattle.type_reading.specs.TableLaws.{none-empty-less}
use Rattle.type_writing.specs.Passes.{RestWritten}
use Rattle.type_writing.specs.PassLaws.{rest-none, rest_more, rest_over, rest-wrong}
use Rattle.type_writing.proofs.Writing.{below, empty-kept}
use Rattle.type_writing.proofs.+write_rest.Goals as goal

pub returns-then-n-total : goal.returns-then-n-total
returns-then-n-total t c =
    subst
    (λ (x : ℕ). RestWritten c.args.text.now c.args.at c.args.table.now c.args.n x c.args.names.now c.args.m c.args.images.now
    c.args.out.now c.args.out.now c.args.row) c.if-n-total.true
    (rest-none c.args.text.now c.args.at c.args.table.now c.args.n c.args.names.now c.args.m c.args.images.now
    c.args.out.now c.args.row)

pub returns-in_default : goal.returns-in_default
returns-in_default t c =
    let none : c.start_at.result ≡ Ok None = cc in
    rest_over c.args.text.now c.args.at c.args.table.now c.args.n c.args.total c.args.names.now c.args.m c.args.images.now
    c.args.out.now c.args.row (below _ _ c.requires.1 c.if-n-total.false) (rw none at c.start_at.ensures)

pub returns-in_default-2 : goal.returns-in_default-2
returns-in_default-2 t c =
    rest-wrong c.args.text.now c.args.at c.args.table.now c.args.n c.args.total c.args.names.now c.args.m c.args.images.now
    c.args.out.now c.args.row c.in_default.field-0 (rw c.in_default.is at c.start_at.ensures)

pub build_tree-made-requires : goal.build_tree-made-requires
build_tree-made-requires t c =
    let start = rw c.in-Ok-Some.field-0-is at c.in-Ok-Some.ensures in
    let h = below _ _ c.requires.1 c.if-n-total.false in (
      start.onward.inside,
      (omega (arith, c.requires.1, c.requires.2.0), none-empty-less c.args.text.now c.args.table.now c.args.n c.args.total c.requires.1 c.requires.2.1),
      c.requires.3,
    )

pub write_rest-requires : goal.write_rest-requires
write_rest-requires t c =
    let h = below _ _ c.requires.1 c.if-n-total.false in
    let long = ap length c.put_u16.ensures ∙ length-16 c.args.table.now (6 * c.args.n + 4) c.args.row in (
      omega (arith, h, c.requires),
      (
        c.build_tree-made.ensures.onward.inside,
        omega (arith, h),
        (
          omega (arith, long, c.requires.2.0),
          empty-kept c.args.text.now c.args.table.now _ c.args.n c.args.row c.args.total c.put_u16.ensures c.requires.2.1,
        ),
        c.requires.3,
      ),
    )

pub returns : goal.returns
returns t c =
    let start = rw c.in-Ok-Some.field-0-is at c.in-Ok-Some.ensures in
    let h = below _ _ c.requires.1 c.if-n-total.false in
    rest_more c.args.text.now c.args.at c.args.table.now c.args.n c.args.total c.args.names.now c.args.m c.args.images.now
    c.args.out.now c.args.row c.in-Ok-Some.field-0-0-0 c.in-Ok-Some.a start c.build_tree-made.result c.build_tree-made.ensures c.write_type-end.new.images c.write_type-end.new.out
    (c.write_rest.new.out) c.write_type-end.result c.write_type-end.ensures (omega (arith, h, c.requires.2.0))
    (subst
    (λ (x : List ℕ). RestWritten c.args.text.now c.build_tree-made.result.at x (c.args.n + 1) c.args.total c.args.names.now c.args.m c.write_type-end.new.images
    c.write_type-end.new.out (c.write_rest.new.out) c.write_type-end.result) c.put_u16.ensures (c.write_rest.ensures))
