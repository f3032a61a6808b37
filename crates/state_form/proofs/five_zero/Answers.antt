use borrow.Author.Tests.{ne_eqb}
use Rattle.state_form.proofs.FormLaws.{five-not, five-last}
use Rattle.state_form.proofs.five_zero.Goals as goal

pub returns-then-four_bytes-eq0 : goal.returns-then-four_bytes-eq0
returns-then-four_bytes-eq0 c = five-last _ _ _ c.four_bytes.ensures c.if-four_bytes-eq0.true

pub returns-else-four_bytes-eq0 : goal.returns-else-four_bytes-eq0
returns-else-four_bytes-eq0 c = rw (ne_eqb c.four_bytes.result 0 c.if-four_bytes-eq0.false) (five-not _ _ _ c.four_bytes.ensures c.if-four_bytes-eq0.false)
