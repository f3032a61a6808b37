-- Numbers in bytes. 01: "Numbers are little-endian; u8, u16 and u32 are unsigned." Every file, message and state is read and
-- written by these; their laws are in WireLaws.
use Rattle.std.specs.Prelude.{ℕ, zero, suc, ◌+◌, ◌*◌, ◌/◌, ◌%◌, List, [], ◌∷◌, ◌++◌, get_or, set, take, drop, length}

-- The byte at a place; 0 past the end.
abbrev pub byte_at : List ℕ → ℕ → ℕ
byte_at s at = get_or s at 0

-- The number whose first (lowest) byte stands at a place.
unfoldable pub u16_at : List ℕ → ℕ → ℕ
u16_at s at = byte_at s at + 256 * byte_at s (at + 1)

unfoldable pub u32_at : List ℕ → ℕ → ℕ
u32_at s at = u16_at s at + 0x10000 * u16_at s (at + 2)

unfoldable pub u64_at : List ℕ → ℕ → ℕ
u64_at s at = u32_at s at + 0x100000000 * u32_at s (at + 4)

-- The bytes with a number stored at a place.
unfoldable pub put_u16 : List ℕ → ℕ → ℕ → List ℕ
put_u16 s at v = set (set s at (v % 256)) (at + 1) (v / 256)

unfoldable pub put_u32 : List ℕ → ℕ → ℕ → List ℕ
put_u32 s at v = put_u16 (put_u16 s at (v % 0x10000)) (at + 2) (v / 0x10000)

unfoldable pub put_u64 : List ℕ → ℕ → ℕ → List ℕ
put_u64 s at v = put_u32 (put_u32 s at (v % 0x100000000)) (at + 4) (v / 0x100000000)

-- The n bytes from a place on: what a lent part of a slice holds.
abbrev pub part : List ℕ → ℕ → ℕ → List ℕ
part s at n = take n (drop at s)

-- The bytes with others in place of as many from a place on: what the whole slice holds once a lent part is back.
abbrev pub with_part : List ℕ → ℕ → List ℕ → List ℕ
with_part s at new = take at s ++ (new ++ drop (at + length new) s)

-- The number that bytes stand for: "Numbers are little-endian".
unfoldable pub unsigned_of : List ℕ → ℕ
unsigned_of [] = 0
unsigned_of (a ∷ l) = a + 256 * unsigned_of l

-- The n bytes of a number, lowest first ("Numbers are little-endian"); what passes n bytes is dropped.
unfoldable pub little_endian : ℕ → ℕ → List ℕ
little_endian zero x = []
little_endian (suc n) x = x % 256 ∷ little_endian n (x / 256)

-- Its bytes, for two and for four.
abbrev pub u16_bytes : ℕ → List ℕ
u16_bytes v = v % 256 ∷ v / 256 ∷ []

abbrev pub u32_bytes : ℕ → List ℕ
u32_bytes v = v % 256 ∷ v / 256 % 256 ∷ v / 65536 % 256 ∷ v / 16777216 ∷ []
