use borrow.Author.Rules.{rules}
use native.Mathlib.Omega.{arith}
use mathlib.Core.Path.{refl}
use Prim.Native.Nat.{◌+◌, ◌≤◌}
use lib.ListN.{length}
use Rattle.tree.specs.Encode.{Octets}
use Rattle.tree_edit.proofs.Changing.{subtree-none, subtree-sizes, subtree-found}
use Rattle.tree_edit.proofs.subtree.Goals as goal
use Rattle.tree_edit.proofs.subtree.Goals.{After-extent-end}

sizes : (c : After-extent-end) → (c.in-Some.at + 5 ≤ c.extent-end.result) × (c.extent-end.result ≤ length c.args.s.now)
sizes c =
    let o : Octets c.args.s.now = search rules in
    subtree-sizes _ _ o c.requires.0 c.requires.1 _ c.follow.ensures _ _ c.in-Some.is c.extent-end.ensures

pub returns-in_default : goal.returns-in_default
returns-in_default c =
    let o : Octets c.args.s.now = search rules in
    subtree-none _ _ o c.requires.0 c.requires.1 _ c.follow.ensures _ c.in_default.is

pub push_id-a-requires : goal.push_id-a-requires
push_id-a-requires c = let z = sizes (goal.at.push_id-a-requires c).After-extent-end in omega arith

pub overflow_add-at : goal.overflow_add-at
overflow_add-at c = let z = sizes (goal.at.overflow_add-at c).After-extent-end in omega arith

pub overflow_sub-end : goal.overflow_sub-end
overflow_sub-end c = let z = sizes (goal.at.overflow_sub-end c).After-extent-end in omega arith

pub overflow_sub-end-2 : goal.overflow_sub-end-2
overflow_sub-end-2 c = let z = sizes (goal.at.overflow_sub-end-2 c).After-extent-end in omega arith

pub append-requires : goal.append-requires
append-requires c = let z = sizes (goal.at.append-requires c).After-extent-end in (omega arith, omega (arith, c.push_id-a.auto.out, c.push_id-a.ensures.next))

pub returns : goal.returns
returns c =
    let o : Octets c.args.s.now = search rules in
    subtree-found _ _ o c.requires.0 c.requires.1 _ c.follow.ensures _ _ c.in-Some.is c.extent-end.ensures c.push_id-a.ensures c.append.ensures refl
