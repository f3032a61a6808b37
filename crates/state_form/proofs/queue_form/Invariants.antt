use Rattle.state_form.proofs.FormLaws.{EntriesLeft}
use Rattle.state_form.proofs.queue_form.Given as goal

abbrev pub invariant-loop-k : goal.invariant-loop-k
invariant-loop-k l = EntriesLeft l.s l.at l.n l.k
