-- Integers of a width in two's complement. 01: "int 4 bytes and long 8 (two's complement)". 02: "where the exact result is outside its
-- width, the move is refused". A width is `w32` or `w64`; `to_z w n` is the integer that the pattern n, a number below 2 ^ bits w, stands
-- for, and `of_z w z` the pattern of an integer of the width.
use Rattle.std.specs.Prelude.{◌^◌, Bool, ltb, ℤ}
use Rattle.std.specs.Int.Signed.{mag}
use Rattle.std.specs.Int.{Width, w32, w64}
use mir.Val.{hbits}
use Rattle.basics.specs.Choice.{pick}
use Rattle.std.specs.Prelude.{Option, Some, None}

-- Is the integer one of the width, from -2 ^ hbits w to 2 ^ hbits w - 1? `mag` is n both for n and for -1 - n.
unfoldable pub in_width : Width → ℤ → Bool
in_width w z = ltb (mag z) (2 ^ hbits w)

-- The exact result z of an operation on ints, and on longs, or that it is outside.
unfoldable pub int_sum : ℤ → Option ℤ
int_sum z = pick (in_width w32 z) (Some z) None

unfoldable pub long_sum : ℤ → Option ℤ
long_sum z = pick (in_width w64 z) (Some z) None
