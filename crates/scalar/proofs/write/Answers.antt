use Rattle.scalar.specs.Basic.{int, long}
use Rattle.scalar.proofs.Reading.{room, bool-written, integer-written, double-written, string-written, raw-written, void-written, byte_bit, wrote-byte, wrote-32, wrote-64, wrote-all, wrote_none}
use Rattle.scalar.specs.NumberLaws.{length-little_endian}
use Rattle.scalar.specs.Scalar.{value_of}
use Rattle.scalar.specs.Value.{bytes_of}
use Prim.Native.Nat.{◌<◌}
use mir.ValLaws.{to_z-of_z}
use mir.Val.{SFits, of_z}
use mir.Syntax.{w32, w64}
use mathlib.Core.Path.{refl, ap, ◌∙◌}
use borrow.Author.Rules.{rules}
use Rattle.scalar.proofs.write.Goals as goal

pub put_u8-requires : goal.put_u8-requires
put_u8-requires c = room c.args.out.now c.args.at 1 (bool-written c.args.x c.in-Bool.is) refl c.requires

pub put_u32-requires : goal.put_u32-requires
put_u32-requires c = let f : SFits w32 c.in-Int.p = search rules in room c.args.out.now c.args.at 4 (integer-written c.args.x int w32 c.in-Int.p c.in-Int.is refl f) (length-little_endian 4 _) c.requires

pub put_u64-requires : goal.put_u64-requires
put_u64-requires c = room c.args.out.now c.args.at 8 (double-written c.args.x c.in-Double.is) (length-little_endian 8 _) c.requires

pub put_u64-requires-in-Long : goal.put_u64-requires-in-Long
put_u64-requires-in-Long c = let f : SFits w64 c.in-Long.p = search rules in room c.args.out.now c.args.at 8 (integer-written c.args.x long w64 c.in-Long.p c.in-Long.is refl f) (length-little_endian 8 _) c.requires

pub write_beside-requires : goal.write_beside-requires
write_beside-requires c = rw (string-written c.args.x c.in-String.is) at c.requires

pub write_beside-requires-in-Raw : goal.write_beside-requires-in-Raw
write_beside-requires-in-Raw c = rw (raw-written c.args.x c.in-Raw.is) at c.requires

pub returns-in-Bool : goal.returns-in-Bool
returns-in-Bool c = wrote-byte c.args.out.now _ c.args.at (bytes_of (value_of c.args.x)) (bool-written c.args.x c.in-Bool.is) (c.from.ensures ∙ byte_bit c.in-Bool.p) c.put_u8.ensures

pub returns-in-Int : goal.returns-in-Int
returns-in-Int c =
    let f : SFits w32 c.in-Int.p = search rules in
    let l : c.int_bits.result < 0x100000000 = search rules in
    wrote-32 c.args.out.now c.put_u32.new.s c.args.at (bytes_of (value_of c.args.x)) (integer-written c.args.x int w32 c.in-Int.p c.in-Int.is refl f) c.requires l (c.int_bits.ensures ∙ ap (of_z w32) (to_z-of_z w32 c.in-Int.p f)) c.put_u32.ensures

pub returns-in-Double : goal.returns-in-Double
returns-in-Double c =
    let l : c.double_bits.result < 0x10000000000000000 = search rules in
    wrote-64 c.args.out.now c.put_u64.new.s c.args.at (bytes_of (value_of c.args.x)) (double-written c.args.x c.in-Double.is) c.requires l c.double_bits.ensures c.put_u64.ensures

pub returns-in-Long : goal.returns-in-Long
returns-in-Long c =
    let f : SFits w64 c.in-Long.p = search rules in
    let l : c.long_bits.result < 0x10000000000000000 = search rules in
    wrote-64 c.args.out.now c.put_u64-in-Long.new.s c.args.at (bytes_of (value_of c.args.x)) (integer-written c.args.x long w64 c.in-Long.p c.in-Long.is refl f) c.requires l (c.long_bits.ensures ∙ ap (of_z w64) (to_z-of_z w64 c.in-Long.p f)) c.put_u64-in-Long.ensures

pub returns-in-String : goal.returns-in-String
returns-in-String c = wrote-all c.args.out.now c.write_beside.new.out c.args.at (bytes_of (value_of c.args.x)) c.write_beside.result (string-written c.args.x c.in-String.is) c.write_beside.ensures

pub returns-in-Raw : goal.returns-in-Raw
returns-in-Raw c = wrote-all c.args.out.now c.write_beside-in-Raw.new.out c.args.at (bytes_of (value_of c.args.x)) c.write_beside-in-Raw.result (raw-written c.args.x c.in-Raw.is) c.write_beside-in-Raw.ensures

pub returns-in-Void : goal.returns-in-Void
returns-in-Void c = wrote_none c.args.out.now c.args.at (bytes_of (value_of c.args.x)) (void-written c.args.x c.in-Void.is)
