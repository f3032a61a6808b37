use Rattle.controller.proofs.CallLaws.{outside-fits, other_fits}
use borrow.Author.Rules.{rules}
use borrow.Enum.Refused.{opened}
use Rattle.controller.proofs.numbered.Goals as goal

pub returns-in-OuterMessage : goal.returns-in-OuterMessage
returns-in-OuterMessage c = outside-fits c.in-OuterMessage.is (search rules)

pub returns-in_default : goal.returns-in_default
returns-in_default c = other_fits _ (opened c.in_default.in_default-own.keys2)
