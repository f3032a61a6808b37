use mathlib.Core.Path.{refl, ◌∙◌}
use Rattle.wire.specs.Wire.{u16_bytes}
use Rattle.wire.specs.WireLaws.{put-16}
use Rattle.tree_edit.specs.WroteLaws.{wrote_of}
use Rattle.tree_edit.proofs.push_id.Goals as goal

pub returns : goal.returns
returns c = wrote_of c.args.w 2 (u16_bytes c.args.id) refl c.requires (c.put_u16.ensures ∙ put-16 c.args.out.now c.args.w c.args.id c.requires)
