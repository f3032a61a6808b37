use Rattle.network_uses.proofs.MarkLaws.{field_laws}
use Rattle.network_uses.proofs.use_field.Goals as goal

pub returns-in-LaterRow : goal.returns-in-LaterRow
returns-in-LaterRow c = search field_laws depth 12

pub returns-in-BranchRun : goal.returns-in-BranchRun
returns-in-BranchRun c = search field_laws depth 12

pub returns-in_default : goal.returns-in_default
returns-in_default c = search field_laws depth 12
