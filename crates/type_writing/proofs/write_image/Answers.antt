use Prim.Native.Nat.{ℕ, ◌*◌}
use mathlib.Core.Path.{ap}
use Rattle.type_writing.proofs.Writing.{image-past, images-short, rows-past, image-wrote}
use borrow.Author.Rules.{rules}
use Rattle.type_writing.proofs.write_image.Goals as goal

pub returns-then-s-gt112 : goal.returns-then-s-gt112
returns-then-s-gt112 c = image-past c.args.s.now c.args.row c.args.images.now c.args.out.now (search rules)

pub returns-then-images-first : goal.returns-then-images-first
returns-then-images-first c = images-short c.args.s.now c.args.row c.args.images.now c.args.out.now (search rules)

pub returns-then-end-gt2048 : goal.returns-then-end-gt2048
returns-then-end-gt2048 c = rows-past c.args.s.now c.args.row c.args.images.now c.args.out.now _ _ c.emit_tree-end.ensures c.emit_tree-end.auto.out (search rules)

pub returns : goal.returns
returns c =
    image-wrote c.args.s.now c.args.row c.args.images.now c.args.out.now _ _ c.emit_tree-end.ensures c.emit_tree-end.auto.out _ _ _ _ c.append.ensures
    (ap (λ (x : ℕ). 7 * x) c.from-first.ensures) c.append.auto.out (search rules)
