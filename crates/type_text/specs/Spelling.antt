-- Words and marks of a text of types. 02, Wish 1: "Spaces and line ends (byte 10) may stand anywhere outside words and marks, `[0,1]` being one
-- mark, and at least one must part two words."
use Rattle.std.specs.Prelude.{◌≡◌, List, [], ◌∷◌, ◌++◌, Bool, true, false, not, ◌&&◌, ◌||◌, ℕ, eqb, leb}

-- "Spaces and line ends (byte 10)".
abbrev pub is_blank : ℕ → Bool
is_blank b = eqb b 32 || eqb b 10

-- A to Z, a to z.
abbrev pub is_letter : ℕ → Bool
is_letter b = (leb 65 b && leb b 90) || (leb 97 b && leb b 122)

-- "letters, digits or underscores".
abbrev pub in_word : ℕ → Bool
in_word b = is_letter b || ((leb 48 b && leb b 57) || eqb b 95)

-- A word by its bytes, or a mark: `:`, `{`, `}`, `.`, `?`, `[0,1]`, `[1,1]`.
pub data Token : Type 0 where
  word : List ℕ → Token
  colon opening closing dot question zero_to_one one_to_one : Token

-- Its bytes.
unfoldable pub spelling : Token → List ℕ
spelling (word w) = w
spelling colon = 58 ∷ []
spelling opening = 123 ∷ []
spelling closing = 125 ∷ []
spelling dot = 46 ∷ []
spelling question = 63 ∷ []
spelling zero_to_one = 91 ∷ 48 ∷ 44 ∷ 49 ∷ 93 ∷ []
spelling one_to_one = 91 ∷ 49 ∷ 44 ∷ 49 ∷ 93 ∷ []

abbrev pub is_mark : Token → Bool
is_mark (word w) = false
is_mark colon = true
is_mark opening = true
is_mark closing = true
is_mark dot = true
is_mark question = true
is_mark zero_to_one = true
is_mark one_to_one = true

-- Is every byte one of a word?
unfoldable pub all_in_word : List ℕ → Bool
all_in_word [] = true
all_in_word (b ∷ s) = in_word b && all_in_word s

-- Is it a word: at least one byte, all of them a word's?
abbrev pub is_word : List ℕ → Bool
is_word [] = false
is_word (b ∷ s) = in_word b && all_in_word s

-- Does a word that stands before these bytes end there?
abbrev pub ends_word : List ℕ → Bool
ends_word [] = true
ends_word (b ∷ s) = not (in_word b)

-- The bytes are these words and marks: blanks anywhere between them, a word "taken whole".
pub data Spelled : List ℕ → List Token → Type 0 where
  nothing : Spelled [] []
  blank : {b : ℕ} {s : List ℕ} {l : List Token} → is_blank b ≡ true → Spelled s l → Spelled (b ∷ s) l
  marked : {k : Token} {s : List ℕ} {l : List Token} → is_mark k ≡ true → Spelled s l → Spelled (spelling k ++ s) (k ∷ l)
  spelt : {w s : List ℕ} {l : List Token} → is_word w ≡ true → ends_word s ≡ true → Spelled s l
      → Spelled (w ++ s) (word w ∷ l)
