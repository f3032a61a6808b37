use Rattle.std.proofs.Common.{inl, inr}
use borrow.Author.Tests.{eq-eqb}
use Rattle.move_keys.proofs.KeyLaws.{goes_none, goes-full, goes-client, goes-queued, goes-starts}
use Rattle.move_keys.proofs.goes_to.Goals as goal

pub returns-in-NoTarget : goal.returns-in-NoTarget
returns-in-NoTarget c = elim c.in-NoTarget.is [ inl e ↦ goes_none e | inr e ↦ goes-full e ]

pub returns-then-n-ne0 : goal.returns-then-n-ne0
returns-then-n-ne0 c = goes-queued c.in-Queued.is c.if-n-ne0.true c.holds_key.ensures

pub returns-else-n-ne0 : goal.returns-else-n-ne0
returns-else-n-ne0 c = rw (eq-eqb c.args.n 0 c.if-n-ne0.false) (goes-client c.in-Queued.is c.if-n-ne0.false)

pub returns-in-Starts : goal.returns-in-Starts
returns-in-Starts c = goes-starts c.in-Starts.is c.is_held.ensures
