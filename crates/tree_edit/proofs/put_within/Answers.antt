use borrow.Author.Rules.{rules}
use Rattle.tree.specs.Encode.{Octets}
use Rattle.tree.specs.Ids.{Words}
use Rattle.tree_edit.proofs.Limiting.{put-limits}
use Rattle.tree_edit.proofs.put_within.Goals as goal

pub returns-then-within : goal.returns-then-within
returns-then-within c =
    let s : Octets c.args.s.now = search rules in
    let m : Octets c.args.m.now = search rules in
    let w : Words c.args.ids = search rules in
    search put-limits depth 12

pub returns-else-within : goal.returns-else-within
returns-else-within c =
    let s : Octets c.args.s.now = search rules in
    let m : Octets c.args.m.now = search rules in
    let w : Words c.args.ids = search rules in
    search put-limits depth 12
