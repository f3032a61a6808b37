use Rattle.move_evaluation.proofs.WritingLaws.{written-inside, written-length, leaf-written}
use native.Mathlib.Omega.{arith}
use mathlib.Core.Path.{◌≡◌, sym}
use lib.ListN.{length}
use Rattle.scalar.specs.ScalarLaws.{short-value}
use borrow.Author.Rules.{rules}
use Rattle.move_evaluation.proofs.write_leaf.Goals as goal

pub write-n-requires : goal.write-n-requires
write-n-requires c =
    let l : length c.args.v.bytes ≡ 16 = search rules in
    let z = short-value c.args.v l in
    omega arith

pub slice_bounds-bytes-end : goal.slice_bounds-bytes-end
slice_bounds-bytes-end c = written-inside c.args.v _ _ _ c.write-n.ensures.0 c.write-n.ensures.1

pub slice_bounds-octets-end : goal.slice_bounds-octets-end
slice_bounds-octets-end c = sym (written-length c.args.v _ _ _ c.write-n.ensures.0 c.write-n.ensures.1)

pub slice_bounds-bytes-end-2 : goal.slice_bounds-bytes-end-2
slice_bounds-bytes-end-2 c = written-inside c.args.v _ _ _ c.write-n.ensures.0 c.write-n.ensures.1

pub slice_bounds-leaf-end : goal.slice_bounds-leaf-end
slice_bounds-leaf-end c = sym (written-length c.args.v _ _ _ c.write-n.ensures.0 c.write-n.ensures.1)

pub leaf-requires : goal.leaf-requires
leaf-requires c =
    let l : length c.args.v.bytes ≡ 16 = search rules in
    let z = short-value c.args.v l in
    let m = written-length c.args.v _ _ _ c.write-n.ensures.0 c.write-n.ensures.1 in
    (omega arith, omega arith)

pub returns : goal.returns
returns c =
    leaf-written c.args.v _ _ _ c.write-n.ensures.0 c.write-n.ensures.1 c.basic_of-b.ensures
    c.octets.ensures c.leaf.ensures
