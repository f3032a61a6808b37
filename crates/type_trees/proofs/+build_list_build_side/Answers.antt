use mathlib.Core.Path.{refl}
use mathlib.Core.Logic.{inl}
use native.Mathlib.Omega.{arith}
use Rattle.type_reading.specs.WordLaws.{word-up-to}
use Rattle.type_trees.proofs.Building.{wordless-item, list-ends, list-wordless, list-colonless, list-child}
use Rattle.type_trees.proofs.Building.{allowed-named, side-is-known, side-is-leaf, side-is-braces}
use Rattle.type_trees.proofs.+build_list_build_side.Goals as goal

pub build_list-returns-in_default : goal.build_list-returns-in_default
build_list-returns-in_default t c =
    list-ends c.args.text.now c.args.at c.args.table.now c.args.n c.args.names.now c.args.m c.args.images.now c.args.acc c.requires.0 c.in_default.ensures

pub build_list-returns-in_default-item_at : goal.build_list-returns-in_default-item_at
build_list-returns-in_default-item_at t c =
    let law = list-wordless c.args.text.now c.args.at c.args.table.now c.args.n c.args.names.now c.args.m c.args.images.now c.args.acc in
    law c.requires.0 c.in-Some.a c.in-Some.ensures (wordless-item c.args.text.now c.in-Some.a c.item_at.result c.item_at.ensures c.in_default-item_at.not-Word)

pub build_list-returns-in_default-colon_at : goal.build_list-returns-in_default-colon_at
build_list-returns-in_default-colon_at t c =
    let law = list-colonless c.args.text.now c.args.at c.args.table.now c.args.n c.args.names.now c.args.m c.args.images.now c.args.acc in
    law c.requires.0 c.in-Some.a c.in-Some.ensures c.in-Word.p c.in-Word.q c.in-Word.ensures c.in_default-colon_at.field-0 c.in_default-colon_at.ensures

pub build_list-id_of-id-requires : goal.build_list-id_of-id-requires
build_list-id_of-id-requires t c = (word-up-to c.args.text.now c.in-Some.a c.in-Word.p c.in-Word.q c.in-Word.ensures, c.requires.2)

pub build_list-build_side-side-requires : goal.build_list-build_side-side-requires
build_list-build_side-side-requires t c =
    let m = c.in-Some.ensures in
    let w = c.in-Word.ensures in
    let o = c.in-Ok.ensures in
    (omega (arith, c.requires, m.far, w.0, w.1, o.far, o.onward.inside), (o.onward.inside, c.requires.1, inl refl, c.requires.2))

pub build_list-build_list-requires : goal.build_list-build_list-requires
build_list-build_list-requires t c =
    let m = c.in-Some.ensures in
    let w = c.in-Word.ensures in
    let o = c.in-Ok.ensures in
    let b = c.build_side-side.ensures.onward in
    (omega (arith, c.requires, m.far, w.0, w.1, o.far, b.forward, b.inside), (b.inside, c.requires.1, c.requires.2))

pub build_list-returns : goal.build_list-returns
build_list-returns t c =
    let law = list-child c.args.text.now c.args.at c.args.table.now c.args.n c.args.names.now c.args.m c.args.images.now c.args.acc in
    let this = law c.requires.0 c.in-Some.a c.in-Some.ensures c.in-Word.p c.in-Word.q c.in-Word.ensures c.in-Ok.b c.in-Ok.mandatory c.in-Ok.ensures _ c.id_of-id.ensures in
    this _ c.build_side-side.ensures _ c.put_child-grown.ensures _ c.build_list.ensures

pub build_side-side_at-requires : goal.build_side-side_at-requires
build_side-side_at-requires t c =
    let x = allowed-named c.args.text.now c.args.table.now c.args.allowed c.args.n c.requires.1 c.requires.2 in
    (c.requires.0, x.0, x.1)

pub build_side-known_type-requires : goal.build_side-known_type-requires
build_side-known_type-requires t c =
    let k = rw c.in-Ok-Known.field-0-is at c.in-Ok-Known.ensures in
    let x = allowed-named c.args.text.now c.args.table.now c.args.allowed c.args.n c.requires.1 c.requires.2 in
    omega (arith, k.below, x.0)

pub build_side-build_list-made-requires : goal.build_side-build_list-made-requires
build_side-build_list-made-requires t c =
    let k = rw c.in-Ok-Braces.field-0-is at c.in-Ok-Braces.ensures in
    (omega (arith, c.requires, k.far, k.onward.inside), (k.onward.inside, c.requires.1, c.requires.3))

pub build_side-returns-in-Ok-Known : goal.build_side-returns-in-Ok-Known
build_side-returns-in-Ok-Known t c =
    let law = side-is-known c.args.text.now c.args.at c.args.table.now c.args.allowed c.args.n c.args.names.now c.args.m c.args.images.now c.args.mandatory in
    law c.in-Ok-Known.q c.in-Ok-Known.i c.requires.2 (rw c.in-Ok-Known.field-0-is at c.in-Ok-Known.ensures) _ c.known_type.ensures

pub build_side-returns-in-Ok-Leaf : goal.build_side-returns-in-Ok-Leaf
build_side-returns-in-Ok-Leaf t c =
    let law = side-is-leaf c.args.text.now c.args.at c.args.table.now c.args.allowed c.args.n c.args.names.now c.args.m c.args.images.now c.args.mandatory in
    law c.in-Ok-Leaf.q c.in-Ok-Leaf.b (rw c.in-Ok-Leaf.field-0-is at c.in-Ok-Leaf.ensures) _ c.leaf_type.ensures

pub build_side-returns-in-Ok-Braces : goal.build_side-returns-in-Ok-Braces
build_side-returns-in-Ok-Braces t c =
    let law = side-is-braces c.args.text.now c.args.at c.args.table.now c.args.allowed c.args.n c.args.names.now c.args.m c.args.images.now c.args.mandatory in
    law c.in-Ok-Braces.a c.in-Ok-Braces.b (rw c.in-Ok-Braces.field-0-is at c.in-Ok-Braces.ensures) _ c.leaf_type-root.ensures _ c.build_list-made.ensures _ c.closed.ensures
