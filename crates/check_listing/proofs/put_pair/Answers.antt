use Rattle.check_listing.proofs.Answers.{pair-wrote}
use Rattle.check_listing.proofs.put_pair.Goals as goal

pub returns : goal.returns
returns c = search pair-wrote depth 12
