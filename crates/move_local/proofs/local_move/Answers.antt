use Rattle.move_local.proofs.RowLaws.{slot-starts, slot-fits, local-nothing, local-unreached, offered-is, local-offered, local-far, local-made}
use borrow.Author.Rules.{rules}
use Rattle.move_local.proofs.local_move.Goals as goal

pub returns-in_default : goal.returns-in_default
returns-in_default c = local-nothing c.args.file.now c.args.state.now c.args.q c.args.n c.args.r c.session_at.ensures (search rules) c.not_allowed.ensures

pub reach-requires : goal.reach-requires
reach-requires c = search (slot-starts, rules) depth 12

pub returns-then-i-ge256 : goal.returns-then-i-ge256
returns-then-i-ge256 c =
    local-far c.args.file.now c.args.state.now c.args.q c.args.n c.args.r c.session_at.ensures c.in-Some.is c.reach.ensures
    c.in-Reached.is c.if-i-ge256.true

pub local_row-requires : goal.local_row-requires
local_row-requires c = search (slot-starts, slot-fits, rules) depth 12

pub returns-in-Unreached : goal.returns-in-Unreached
returns-in-Unreached c =
    local-unreached c.args.file.now c.args.state.now c.args.q c.args.n c.args.r c.session_at.ensures c.in-Some.is c.reach.ensures
    (search rules) c.not_allowed-in-Unreached.ensures

pub returns-else-i-ge256 : goal.returns-else-i-ge256
returns-else-i-ge256 c =
    local-made c.args.file.now c.args.state.now c.args.q c.args.n c.args.r c.session_at.ensures c.in-Some.is c.reach.ensures
    c.in-Reached.is c.local_row.ensures

pub returns-in-Offered : goal.returns-in-Offered
returns-in-Offered c =
    local-offered c.args.file.now c.args.state.now c.args.q c.args.n c.args.r c.session_at.ensures c.in-Some.is c.reach.ensures
    (search (offered-is, rules) depth 12) c.not_allowed-in-Offered.ensures
