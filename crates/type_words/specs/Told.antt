-- What the code that reads words and marks answers, by the items of `type_text/Reader`.
use Rattle.std.specs.Prelude.{◌≡◌, List, [], ◌∷◌, Bool, ℕ, suc, ◌+◌, ◌-◌, ◌≤◌, ◌<◌, length, get_or, Option, Some, None}
use Rattle.basics.specs.Choice.{pick}
use Rattle.wire.specs.Wire.{part}
use Rattle.scalar.specs.Basic.{last_basic}
use Rattle.network_syntax.specs.Syntax.{none, some}
use Rattle.type_text.specs.Spelling.{Token, word, colon, opening, closing, dot, question, zero_to_one, one_to_one}
use Rattle.type_text.specs.Reader.{Lexeme, space, found, broken, token, fault, items_at, token_kind, basic_named}
use Rattle.type_words.specs.declared.Item.{Item}
use Rattle.type_words.specs.declared.Item.TheVariants.{Word, Mark, Fault, End}

-- The mark of a number (`token_kind` has the numbers).
abbrev pub mark_token : ℕ → Token
mark_token k = get_or (word [] ∷ colon ∷ opening ∷ closing ∷ dot ∷ question ∷ zero_to_one ∷ one_to_one ∷ []) k (word [])

-- How many bytes at the beginning pass a test.
unfoldable pub run_of : (ℕ → Bool) → List ℕ → ℕ
run_of test [] = 0
run_of test (b ∷ s) = pick (test b) (suc (run_of test s)) 0

-- What the code answers to a lexeme at p that is no blank and no word.
abbrev pub mark_item : ℕ → Lexeme → Item
mark_item p space = End
mark_item p (found k n) = Mark (token_kind k) p (p + (1 + n))
mark_item p (broken n) = Fault p (p + n)

-- The items of the text s from `at` on begin with what r says.
abbrev pub ItemTold : List ℕ → ℕ → Item → Type 0
ItemTold s at (Word p q) = (at ≤ p) × (p < q) × (q ≤ length s) × (items_at s at ≡ token p (word (part s p (q - p))) ∷ items_at s q)
ItemTold s at (Mark k p q) = (at ≤ p) × (p < q) × (q ≤ length s) × (0 < k) × (k < 8) × (items_at s at ≡ token p (mark_token k) ∷ items_at s q)
ItemTold s at (Fault p q) = (at ≤ p) × (p ≤ q) × (q ≤ length s) × (items_at s at ≡ fault p q ∷ [])
ItemTold s at End = items_at s at ≡ []

-- r is the basic type that the word w names.
abbrev pub BasicTold : List ℕ → Option ℕ → Type 0
BasicTold w (Some b) = (basic_named w ≡ some b) × (b ≤ last_basic)
BasicTold w None = basic_named w ≡ none
