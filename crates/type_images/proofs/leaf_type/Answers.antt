use Rattle.type_images.proofs.Making.{leaf-made}
use Rattle.type_images.proofs.leaf_type.Goals as goal

pub returns : goal.returns
returns c = search leaf-made depth 12
