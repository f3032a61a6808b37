-- The child names of a text in the order of their ids, kept as places in the text.
use Rattle.std.specs.Prelude.{◌≡◌, List, [], ◌∷◌, ◌++◌, Bool, false, ℕ, zero, suc, ◌+◌, ◌*◌, ◌≤◌, length, eqb}
use Rattle.basics.specs.Choice.{pick}
use Rattle.wire.specs.Wire.{u16_at}
use Rattle.type_text.specs.Spelling.{Token}
use Rattle.type_text.specs.Grammar.{among}
use Rattle.type_text.specs.Reader.{Item, token, fault, token_kind, word_in}
use Rattle.type_reading.specs.Tables.{word_from}

-- The n names from the entry i on. An entry has 2 bytes: the place of the name.
unfoldable pub names_from : List ℕ → List ℕ → ℕ → ℕ → List (List ℕ)
names_from s names i zero = []
names_from s names i (suc n) = word_from s (u16_at names (2 * i)) ∷ names_from s names (suc i) n

-- The first n.
abbrev pub names_up_to : List ℕ → List ℕ → ℕ → List (List ℕ)
names_up_to s names n = names_from s names 0 n

-- The words and marks up to a fault.
unfoldable pub tokens_in : List Item → List Token
tokens_in [] = []
tokens_in (token p k ∷ l) = k ∷ tokens_in l
tokens_in (fault p q ∷ l) = []

-- The words that come right after a dot; `after` says whether one stands before these.
unfoldable pub dot_names : Bool → List Token → List (List ℕ)
dot_names after [] = []
dot_names after (k ∷ l) =
    pick (eqb (token_kind k) 0) (pick after (word_in k ∷ dot_names false l) (dot_names false l)) (dot_names (eqb (token_kind k) 4) l)

-- A list of names with one more at its end, if it is not there yet.
unfoldable pub with_name : List ℕ → List (List ℕ) → List (List ℕ)
with_name w l = pick (among w l) l (l ++ (w ∷ []))

-- The names with the word w among them, r in all, where n were before.
pub record NameAdded (s names names' : List ℕ) (n : ℕ) (w : List ℕ) (r : ℕ) : Type 0 where
  pub few : r ≤ n + 1
  pub size : length names' ≡ length names
  pub is : names_up_to s names' r ≡ with_name w (names_up_to s names n)
