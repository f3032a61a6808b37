use Rattle.move_keys.proofs.KeyLaws.{find-unkeyed, find_none, find-goes, find-another}
use Rattle.move_keys.proofs.find.Goals as goal

pub returns-then-id-eq0 : goal.returns-then-id-eq0
returns-then-id-eq0 c = find-unkeyed _ _ _ _ _ _ _ c.service_key-id.ensures c.if-id-eq0.true

pub returns-in_err-x : goal.returns-in_err-x
returns-in_err-x c = rw c.from_residual.ensures (find_none _ _ _ _ _ _ _ c.service_key-id.ensures c.if-id-eq0.false c.key_of.ensures c.in_err-x.was)

pub returns-then-goes_to : goal.returns-then-goes_to
returns-then-goes_to c =
    find-goes _ _ _ _ _ _ _ c.service_key-id.ensures c.if-id-eq0.false c.key_of.ensures c.in_ok-x.was c.goes_to.ensures c.if-goes_to.true

pub returns-else-goes_to : goal.returns-else-goes_to
returns-else-goes_to c =
    find-another _ _ _ _ _ _ _ c.service_key-id.ensures c.if-id-eq0.false c.key_of.ensures c.in_ok-x.was c.goes_to.ensures c.if-goes_to.false
