use Rattle.basics.specs.TestLaws.{told}
use Rattle.move_reply.proofs.MessageLaws.{read-laws, read-nothing, read-message}
use Rattle.std.proofs.Common.{◌≡◌}
use Rattle.std.specs.Prelude.{None}
use borrow.Author.Rules.{rules}
use Rattle.std.proofs.lemmas.Bool.{not_from_true}
use Rattle.move_reply.proofs.read_reply.Goals as goal

pub returns-then-s-gt1024 : goal.returns-then-s-gt1024
returns-then-s-gt1024 c = search (read-laws, rules) depth 12

pub returns-then-not-path_ok : goal.returns-then-not-path_ok
returns-then-not-path_ok c = search (read-laws, rules) depth 12

pub returns-then-not-is_tree : goal.returns-then-not-is_tree
returns-then-not-is_tree c = search (read-laws, rules) depth 12

pub returns-in_err-follow : goal.returns-in_err-follow
returns-in_err-follow c =
    let z : c.from_residual.result ≡ None = search rules in
    rw z (read-nothing c.args.file.now c.args.state.now c.args.slot c.args.c c.tree_of-s.ensures c.path_row-ids.ensures c.follow.ensures c.in_err-follow.was)

pub subtree-requires : goal.subtree-requires
subtree-requires c = (told c.is_tree.ensures (not_from_true _ c.if-not-is_tree.false), told c.path_ok.ensures (not_from_true _ c.if-not-path_ok.false), search rules)

pub returns : goal.returns
returns c = read-message c.args.file.now c.args.state.now c.args.slot c.args.c c.tree_of-s.ensures c.path_row-ids.ensures c.follow.ensures c.in_ok-follow.was c.subtree.ensures
