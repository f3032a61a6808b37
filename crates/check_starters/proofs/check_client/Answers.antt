use Rattle.check_starters.proofs.StarterLaws.{client-laws}
use Rattle.check_starters.proofs.check_client.Goals as goal

pub returns : goal.returns
returns c = search client-laws depth 12
