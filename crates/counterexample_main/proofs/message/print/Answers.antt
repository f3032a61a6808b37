use Rattle.counterexample_main.proofs.Values.{value-within}
use Rattle.counterexample_main.proofs.message.print.Goals as goal

pub print_value-requires : goal.print_value-requires
print_value-requires g c = value-within _ _ _ _ _ _ _ c.head_at.ensures c.in-Some.is
