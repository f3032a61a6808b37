use Rattle.std.proofs.Common.{sym, ap, arith, ◌∙◌, refl}
use Rattle.wire.specs.Wire.{u16_bytes}
use Rattle.wire.specs.WireLaws.{put-16}
use Rattle.wire.proofs.Stores.{le-16, written}
use Rattle.wire.proofs.put_u16.Goals as goal

pub returns : goal.returns
returns c =
    let same = c.to_le_bytes.ensures ∙ le-16 _ (omega arith) ∙ ap u16_bytes (omega arith) in
    written c.args.s.now c.copy_from_slice.new.self c.args.at 2 (u16_bytes c.args.v) (c.copy_from_slice.ensures.after ∙ same) refl
    ∙ sym (put-16 c.args.s.now c.args.at c.args.v c.requires)
