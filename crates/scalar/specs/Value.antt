-- Values: a basic type and the bytes of a value of it. 01: "Value: bool one byte 0 or 1, int 4 bytes and long 8 (two's
-- complement), double 8 (IEEE 754; the only NaN is 7FF8000000000000 hexadecimal), string and raw 0 to 16 bytes, void none." 02: "Strings
-- are now well-formed UTF-8 as in RFC 3629, still 0 to 16 bytes; raw stays free."
use Rattle.std.specs.Prelude.{◌≡◌, List, [], ◌∷◌, Bool, true, false, ◌&&◌, ◌||◌, ℕ, ◌%◌, length, get_or, eqb, leb}
use Rattle.wire.specs.Wire.{unsigned_of}
use Rattle.utf8.specs.Utf8.{is_utf8}
use Rattle.scalar.specs.Basic.{string, void}
use Rattle.std.specs.Int.{Width, w32, w64}

-- What a node of a message or of a session's tree carries: its basic type and the bytes of its value.
pub data Value : Type 0 where
  value : ℕ → List ℕ → Value

abbrev pub basic_of : Value → ℕ
basic_of (value b v) = b

abbrev pub bytes_of : Value → List ℕ
bytes_of (value b v) = v

-- The one NaN's bits.
abbrev pub the_nan : ℕ
the_nan = 0x7FF8000000000000

-- A double's bits: those of no NaN, or of the only one.
abbrev pub is_double : ℕ → Bool
is_double n = leb (n % 0x8000000000000000) 0x7FF0000000000000 || eqb n the_nan

-- What sums, differences, opposites and order a basic type has: those of integers of a width, those of doubles, or none.
pub data Arithmetic : Type 0 where
  integral : Width → Arithmetic
  floating : Arithmetic
  no_arithmetic : Arithmetic

-- A basic type: its word in the programs' text, its value rule, its least value (of the fewest bytes, and of these the lowest), and its
-- arithmetic.
pub record BasicType : Type 0 where
  pub word : List ℕ
  pub rule : List ℕ → Bool
  pub least : List ℕ
  pub arithmetic : Arithmetic

-- `bool`: "bool one byte 0 or 1"
abbrev pub bool_type : BasicType
bool_type = record {
  word = 98 ∷ 111 ∷ 111 ∷ 108 ∷ [];
  rule = λ v. eqb (length v) 1 && leb (unsigned_of v) 1;
  least = 0 ∷ [];
  arithmetic = no_arithmetic;
}

-- `int`: "int 4 bytes .. (two's complement)"
abbrev pub int_type : BasicType
int_type = record {
  word = 105 ∷ 110 ∷ 116 ∷ [];
  rule = λ v. eqb (length v) 4;
  least = 0 ∷ 0 ∷ 0 ∷ 0 ∷ [];
  arithmetic = integral w32;
}

-- `double`: "double 8 (IEEE 754; the only NaN is 7FF8000000000000 hexadecimal)"
abbrev pub double_type : BasicType
double_type = record {
  word = 100 ∷ 111 ∷ 117 ∷ 98 ∷ 108 ∷ 101 ∷ [];
  rule = λ v. eqb (length v) 8 && is_double (unsigned_of v);
  least = 0 ∷ 0 ∷ 0 ∷ 0 ∷ 0 ∷ 0 ∷ 0 ∷ 0 ∷ [];
  arithmetic = floating;
}

-- `long`: "long 8 (two's complement)"
abbrev pub long_type : BasicType
long_type = record {
  word = 108 ∷ 111 ∷ 110 ∷ 103 ∷ [];
  rule = λ v. eqb (length v) 8;
  least = 0 ∷ 0 ∷ 0 ∷ 0 ∷ 0 ∷ 0 ∷ 0 ∷ 0 ∷ [];
  arithmetic = integral w64;
}

-- `string`: "well-formed UTF-8 as in RFC 3629, still 0 to 16 bytes"
abbrev pub string_type : BasicType
string_type = record {
  word = 115 ∷ 116 ∷ 114 ∷ 105 ∷ 110 ∷ 103 ∷ [];
  rule = λ v. leb (length v) 16 && is_utf8 v;
  least = [];
  arithmetic = no_arithmetic;
}

-- `raw`: "0 to 16 bytes"
abbrev pub raw_type : BasicType
raw_type = record { word = 114 ∷ 97 ∷ 119 ∷ []; rule = λ v. leb (length v) 16; least = []; arithmetic = no_arithmetic }

-- `void`: "void none"
abbrev pub void_type : BasicType
void_type =
    record { word = 118 ∷ 111 ∷ 105 ∷ 100 ∷ []; rule = λ v. eqb (length v) 0; least = []; arithmetic = no_arithmetic }

-- The table of basic types, in the order of their numbers.
abbrev pub basic_types : List BasicType
basic_types = bool_type ∷ int_type ∷ double_type ∷ long_type ∷ string_type ∷ raw_type ∷ void_type ∷ []

-- A number past the table has no values.
abbrev pub no_type : BasicType
no_type = record { word = []; rule = λ v. false; least = []; arithmetic = no_arithmetic }

-- What the table says of a number.
abbrev pub basic_type : ℕ → BasicType
basic_type b = get_or basic_types b no_type

-- Are the bytes a value of the basic type?
unfoldable pub is_value : ℕ → List ℕ → Bool
is_value b v = (basic_type b).rule v

-- Its word.
unfoldable pub word_of : ℕ → List ℕ
word_of b = (basic_type b).word

-- The bytes of its least value.
unfoldable pub least_bytes : ℕ → List ℕ
least_bytes b = (basic_type b).least

-- A value of a basic type, by the value rule.
pub record SoundValue (b : ℕ) (x : Value) : Type 0 where
  pub basic : basic_of x ≡ b
  pub rule : is_value b (bytes_of x) ≡ true

-- A string is one by the value rule; of a value of another basic type nothing is asked.
pub record SoundText (x : Value) : Type 0 where
  pub rule : basic_of x ≡ string → is_value string (bytes_of x) ≡ true

-- "Writing makes missing steps void."
abbrev pub void_value : Value
void_value = value void []
