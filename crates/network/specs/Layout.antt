-- Sections and the trailer; refusals 2 and 3. 01: "Sections P, T, E, B, O, S, D, without gaps from byte 0, then a 28-byte
-- trailer: per section a start and a count (u16 each; rows, in D bytes). Rows count from 0." Numbers here do not wrap.
use Rattle.std.specs.Prelude.{ℕ, ◌+◌, ◌-◌, ◌*◌, List, Bool, ◌&&◌, length, eqb, leb}
use Rattle.wire.specs.Wire.{u16_at, part}

-- 01's letters for the sections, in the trailer's order.
abbrev pub P : ℕ
P = 0

abbrev pub T : ℕ
T = 1

abbrev pub E : ℕ
E = 2

abbrev pub B : ℕ
B = 3

abbrev pub O : ℕ
O = 4

abbrev pub S : ℕ
S = 5

abbrev pub D : ℕ
D = 6

-- Where the trailer begins: the last 28 bytes.
unfoldable pub trailer : List ℕ → ℕ
trailer s = length s - 28

-- "per section a start and a count".
unfoldable pub start : List ℕ → ℕ → ℕ
start s k = u16_at s (trailer s + 4 * k)

unfoldable pub count : List ℕ → ℕ → ℕ
count s k = u16_at s (trailer s + 4 * k + 2)

-- How many rows a section has, for D how many bytes.
abbrev pub path_count : List ℕ → ℕ
path_count s = count s P

abbrev pub type_count : List ℕ → ℕ
type_count s = count s T

abbrev pub expression_count : List ℕ → ℕ
expression_count s = count s E

abbrev pub behaviour_count : List ℕ → ℕ
behaviour_count s = count s B

abbrev pub operation_count : List ℕ → ℕ
operation_count s = count s O

abbrev pub service_count : List ℕ → ℕ
service_count s = count s S

abbrev pub data_size : List ℕ → ℕ
data_size s = count s D

-- The first byte of row r: "P, path, 8 bytes", "T, type node, 8", "E, expression, 8", "B, behaviour, 10", "O, operation, 12",
-- "S, service, 8". At r = the section's count it is the section's end.
unfoldable pub path_at : List ℕ → ℕ → ℕ
path_at s r = start s P + 8 * r

unfoldable pub type_at : List ℕ → ℕ → ℕ
type_at s r = start s T + 8 * r

unfoldable pub expression_at : List ℕ → ℕ → ℕ
expression_at s r = start s E + 8 * r

unfoldable pub behaviour_at : List ℕ → ℕ → ℕ
behaviour_at s r = start s B + 10 * r

unfoldable pub operation_at : List ℕ → ℕ → ℕ
operation_at s r = start s O + 12 * r

unfoldable pub service_at : List ℕ → ℕ → ℕ
service_at s r = start s S + 8 * r

-- The n bytes of D from v on.
unfoldable pub data_part : List ℕ → ℕ → ℕ → List ℕ
data_part s v n = part s (start s D + v) n

-- Refusal 2, "The length is not 28 to 32,768": the length is right.
unfoldable pub length_fits : List ℕ → Bool
length_fits s = leb 28 (length s) && leb (length s) 32768

-- Refusal 2, "or the trailer's pairs don't fit": every section starts where the one before it ends, an empty one too.
unfoldable pub sections_follow : List ℕ → Bool
sections_follow s =
    eqb (start s T) (path_at s (path_count s)) &&
    (eqb (start s E) (type_at s (type_count s)) &&
    (eqb (start s B) (expression_at s (expression_count s)) &&
    (eqb (start s O) (behaviour_at s (behaviour_count s)) &&
    (eqb (start s S) (operation_at s (operation_count s)) &&
    eqb (start s D) (service_at s (service_count s))))))

-- The first section starts at byte 0, and the last ends where the trailer begins.
unfoldable pub ends_fit : List ℕ → Bool
ends_fit s = eqb (start s P) 0 && eqb (trailer s) (start s D + data_size s)

-- A file that 2 does not refuse.
abbrev pub laid_out : List ℕ → Bool
laid_out s = length_fits s && (ends_fit s && sections_follow s)

-- A file that 3 does not refuse: "At most 256 rows in P, T, E, B; 64 in O; 1 to 4 in S." D has no limit of its own.
unfoldable pub counted : List ℕ → Bool
counted s =
    leb (path_count s) 256 && (leb (type_count s) 256 && (leb (expression_count s) 256 && (leb (behaviour_count s) 256 &&
    (leb (operation_count s) 64 && (leb 1 (service_count s) && leb (service_count s) 4)))))
