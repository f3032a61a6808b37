-- A number's bytes as std gives them are those of the definition, and a slice written over is the slice with that part.
use Rattle.std.specs.Prelude.{ℕ, ◌+◌, ◌-◌, ◌*◌, ◌/◌, ◌%◌, ◌<◌, ◌≤◌, ◌≡◌, refl, List, [], ◌∷◌, ◌++◌, take, drop, length}
use Rattle.std.proofs.Common.{arith, sym, ap, ◌∙◌, drop-drop}
use Rattle.std.specs.Int.{w16, w32, w64, to_le_bytes}
use Rattle.std.specs.Int as Int
use borrow.Rule.Slice.PartMut.{put_mid}
use Rattle.wire.specs.Wire.{u16_bytes, u32_bytes, with_part}

pub le-16 : (v : ℕ) → v < 0x10000 → to_le_bytes w16 v ≡ u16_bytes v
le-16 v h =
    let b : v / 256 % 256 ≡ v / 256 = omega arith in
    rw b refl

pub le-32 : (v : ℕ) → v < 0x100000000 → to_le_bytes w32 v ≡ u32_bytes v
le-32 v h =
    let d : v / 16777216 % 256 ≡ v / 16777216 = omega arith in
    rw d refl

pub le-64 : (v : ℕ) → v < 0x10000000000000000 → to_le_bytes w64 v ≡ u32_bytes (v % 0x100000000) ++ u32_bytes (v / 0x100000000)
le-64 v h =
    let low = le-32 (v % 0x100000000) (omega arith) in
    let high = le-32 (v / 0x100000000) (omega arith) in
    let b : v % 0x100000000 / 256 % 256 ≡ v / 256 % 256 = omega arith in
    let c : v % 0x100000000 / 65536 % 256 ≡ v / 65536 % 256 = omega arith in
    let d : v % 0x100000000 / 16777216 ≡ v / 16777216 % 256 = omega arith in
    let a : v % 0x100000000 % 256 ≡ v % 256 = omega arith in
    let f : v / 0x10000000000 % 256 ≡ v / 0x100000000 / 256 % 256 = omega arith in
    let g : v / 0x1000000000000 % 256 ≡ v / 0x100000000 / 65536 % 256 = omega arith in
    let k : v / 0x100000000000000 % 256 ≡ v / 0x100000000 / 16777216 = omega arith in
    rw (a, b, c, d, f, g, k) refl

pub written : (s y : List ℕ) (at n : ℕ) (b : List ℕ) → y ≡ b → length b ≡ n → put_mid at (at + n - at) s y ≡ with_part s at b
written s y at n b e l =
    let k : at + n - at ≡ n = omega arith in
    rw (e, k, drop-drop n at s, l) refl
