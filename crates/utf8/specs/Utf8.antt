-- UTF-8, after RFC 3629: which octets are UTF-8, by the grammar of its section 4, and the octets of a character, by the table of its
-- section 3. That the two agree is proved in utf8/Utf8Laws.
use Rattle.std.specs.Prelude.{◌≡◌, List, [], ◌∷◌, ◌++◌, Bool, true, false, ◌&&◌, ◌||◌, ℕ, ◌+◌, ◌/◌, ◌%◌, leb, ltb}
use Rattle.basics.specs.Choice.{pick}

-- ---- section 4: "An octet sequence is valid UTF-8 only if it matches the following syntax"

-- As "%xC2-DF": the octets from one to another, both with it.
pub data Range : Type 0 where
  range : ℕ → ℕ → Range

-- Does the octet lie in the range?
abbrev pub in_range : Range → ℕ → Bool
in_range (range low high) a = leb low a && leb a high

-- "UTF8-tail = %x80-BF"
abbrev pub tail : Range
tail = range 0x80 0xBF

-- An alternative of UTF8-char: the range of its first octet, and those of the others in their order.
pub record Form : Type 0 where
  pub first : Range
  pub others : List Range

-- "UTF8-char = UTF8-1 / UTF8-2 / UTF8-3 / UTF8-4"
-- "UTF8-1 = %x00-7F"
-- "UTF8-2 = %xC2-DF UTF8-tail"
-- "UTF8-3 = %xE0 %xA0-BF UTF8-tail / %xE1-EC 2( UTF8-tail ) / %xED %x80-9F UTF8-tail / %xEE-EF 2( UTF8-tail )"
-- "UTF8-4 = %xF0 %x90-BF 2( UTF8-tail ) / %xF1-F3 3( UTF8-tail ) / %xF4 %x80-8F 2( UTF8-tail )"
abbrev pub forms : List Form
forms =
    record { first = range 0x00 0x7F; others = [] }
    ∷ record { first = range 0xC2 0xDF; others = tail ∷ [] }
    ∷ record { first = range 0xE0 0xE0; others = range 0xA0 0xBF ∷ tail ∷ [] }
    ∷ record { first = range 0xE1 0xEC; others = tail ∷ tail ∷ [] }
    ∷ record { first = range 0xED 0xED; others = range 0x80 0x9F ∷ tail ∷ [] }
    ∷ record { first = range 0xEE 0xEF; others = tail ∷ tail ∷ [] }
    ∷ record { first = range 0xF0 0xF0; others = range 0x90 0xBF ∷ tail ∷ tail ∷ [] }
    ∷ record { first = range 0xF1 0xF3; others = tail ∷ tail ∷ tail ∷ [] }
    ∷ record { first = range 0xF4 0xF4; others = range 0x80 0x8F ∷ tail ∷ tail ∷ [] }
    ∷ []

-- Is the octet the first of some form?
abbrev pub begins : List Form → ℕ → Bool
begins [] a = false
begins (f ∷ fs) a = in_range f.first a || begins fs a

-- The ranges of the others in the form that the octet begins; no two of `forms` begin with the same octet.
abbrev pub others_after : List Form → ℕ → List Range
others_after [] a = []
others_after (f ∷ fs) a = pick (in_range f.first a) f.others (others_after fs a)

-- Are the octets the rest of a character, one in each of the ranges, and whole characters after it?
unfoldable pub goes_on : List Range → List ℕ → Bool
goes_on [] [] = true
goes_on [] (a ∷ v) = begins forms a && goes_on (others_after forms a) v
goes_on (r ∷ rs) [] = false
goes_on (r ∷ rs) (a ∷ v) = in_range r a && goes_on rs v

-- "UTF8-octets = *( UTF8-char )"
abbrev pub is_utf8 : List ℕ → Bool
is_utf8 v = goes_on [] v

-- ---- section 3: the octets of a character

-- A character number that has octets: "characters from the U+0000..U+10FFFF range"; "The definition of UTF-8 prohibits encoding character
-- numbers between U+D800 and U+DFFF".
abbrev pub is_scalar_value : ℕ → Bool
is_scalar_value u = ltb u 0xD800 || (ltb 0xDFFF u && leb u 0x10FFFF)

-- "0000 0000-0000 007F | 0xxxxxxx"
-- "0000 0080-0000 07FF | 110xxxxx 10xxxxxx"
-- "0000 0800-0000 FFFF | 1110xxxx 10xxxxxx 10xxxxxx"
-- "0001 0000-0010 FFFF | 11110xxx 10xxxxxx 10xxxxxx 10xxxxxx"
-- "Fill in the bits marked x from the bits of the character number", the lowest in the last octet.
abbrev pub octets : ℕ → List ℕ
octets u =
    pick (leb u 0x7F) (u ∷ [])
    (pick (leb u 0x7FF) ((0xC0 + u / 64) ∷ (0x80 + u % 64) ∷ [])
    (pick (leb u 0xFFFF) ((0xE0 + u / 4096) ∷ (0x80 + u / 64 % 64) ∷ (0x80 + u % 64) ∷ [])
    ((0xF0 + u / 262144) ∷ (0x80 + u / 4096 % 64) ∷ (0x80 + u / 64 % 64) ∷ (0x80 + u % 64) ∷ [])))

-- "A UTF-8 string is a sequence of octets representing a sequence of UCS characters": the octets of one after those of the other.
abbrev pub written : List ℕ → List ℕ
written [] = []
written (u ∷ us) = octets u ++ written us

-- Is each of them a scalar value?
abbrev pub are_scalar_values : List ℕ → Bool
are_scalar_values [] = true
are_scalar_values (u ∷ us) = is_scalar_value u && are_scalar_values us

-- Scalar values whose octets these are.
pub record Written (v : List ℕ) : Type 0 where
  pub values : List ℕ
  pub scalars : are_scalar_values values ≡ true
  pub is : written values ≡ v
