use borrow.Author.Rules.{rules}
use mathlib.Core.Path.{◌≡◌}
use lib.ListN.{length}
use Rattle.tree.specs.Encode.{Octets}
use Rattle.tree_part.proofs.Spanning.{span-laws}
use Rattle.tree_part.proofs.child_span.Goals as goal

pub returns-then-not-path_ok : goal.returns-then-not-path_ok
returns-then-not-path_ok c = search span-laws depth 12

pub returns-then-not-is_message : goal.returns-then-not-is_message
returns-then-not-is_message c = search span-laws depth 12

pub returns-in_err-root : goal.returns-in_err-root
returns-in_err-root c =
    let o : Octets c.args.message.now = search rules in
    rw c.from_residual.ensures (search (span-laws, c.in_err-root.was) depth 12)

pub returns-in_err-start : goal.returns-in_err-start
returns-in_err-start c =
    let o : Octets c.args.message.now = search rules in
    let four : length c.args.ids ≡ 4 = search c.well_formed in
    rw c.from_residual-in_err-start.ensures (search (span-laws, c.in_ok-root.was, c.in_err-start.was) depth 12)

pub overflow_sub-result : goal.overflow_sub-result
overflow_sub-result c =
    let o : Octets c.args.message.now = search rules in
    let four : length c.args.ids ≡ 4 = search c.well_formed in
    search (span-laws, c.in_ok-root.was, c.in_ok-start.was) depth 12

pub returns : goal.returns
returns c =
    let o : Octets c.args.message.now = search rules in
    let four : length c.args.ids ≡ 4 = search c.well_formed in
    search (span-laws, c.in_ok-root.was, c.in_ok-start.was) depth 12
