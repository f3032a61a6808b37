use Rattle.state_progress.proofs.ProgressLaws.{parts_laws}
use Rattle.state_progress.proofs.put_parts.Goals as goal

pub returns : goal.returns
returns c = search parts_laws depth 12
