use Rattle.type_images.proofs.Making.{copy-laws}
use Rattle.type_images.proofs.copy_type.Goals as goal

pub returns-then-images-len : goal.returns-then-images-len
returns-then-images-len c = search copy-laws depth 12

pub returns-then-images-len-2 : goal.returns-then-images-len-2
returns-then-images-len-2 c = search copy-laws depth 12

pub returns : goal.returns
returns c = search copy-laws depth 12
