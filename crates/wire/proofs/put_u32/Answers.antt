use Rattle.std.proofs.Common.{sym, ◌∙◌, refl, rules}
use Rattle.wire.specs.WireLaws.{put_32}
use Rattle.wire.proofs.Stores.{le-32, written}
use Rattle.wire.proofs.put_u32.Goals as goal

pub returns : goal.returns
returns c =
    written c.args.s.now c.copy_from_slice.new.self c.args.at 4 _ (c.copy_from_slice.ensures.after ∙ c.to_le_bytes.ensures ∙ le-32 c.args.v (search rules)) refl
    ∙ sym (put_32 c.args.s.now c.args.at c.args.v c.requires)
