use Rattle.type_images.proofs.Making.{put-laws}
use Rattle.type_images.proofs.put_bytes.Goals as goal

pub returns-then-k-gt128 : goal.returns-then-k-gt128
returns-then-k-gt128 c = search put-laws depth 12

pub returns : goal.returns
returns c = search put-laws depth 12
