-- The grammar of a text of types, as rules over its words and marks. 02, Wish 1: "Exactly the texts of this grammar are read, each in one way."
-- A relation `XFrom .. l r` says that an X stands at the beginning of l and that r is what follows it.
use Rattle.std.specs.Prelude.{◌≡◌, List, [], ◌∷◌, Bool, true, false, ◌&&◌, ◌||◌, ℕ, ◌≤◌, length, eqb, leb}
use Rattle.scalar.specs.Basic.{last_basic}
use Rattle.scalar.specs.Value.{word_of}
use Rattle.type_text.specs.Spelling.{is_letter, Token, word, colon, opening, closing, dot, question, zero_to_one, one_to_one, Spelled}

-- Are two words the same?
unfoldable pub same_word : List ℕ → List ℕ → Bool
same_word [] [] = true
same_word [] (b ∷ w) = false
same_word (a ∷ v) [] = false
same_word (a ∷ v) (b ∷ w) = eqb a b && same_word v w

-- Is a word among these?
unfoldable pub among : List ℕ → List (List ℕ) → Bool
among w [] = false
among w (v ∷ l) = same_word w v || among w l

-- "Names are 1 to 16 letters, digits or underscores, starting with a letter": of a word.
abbrev pub is_name : List ℕ → Bool
is_name [] = false
is_name (b ∷ w) = is_letter b && leb (length w) 15

-- The word of a basic type (`scalar/Value` has the table).
abbrev pub IsBasic : List ℕ → ℕ → Type 0
IsBasic w b = (b ≤ last_basic) × (word_of b ≡ w)

-- `type`.
abbrev pub type_word : List ℕ
type_word = 116 ∷ 121 ∷ 112 ∷ 101 ∷ []

-- The children in braces as they are written: each with its name, whether it is mandatory, and either a tree (basic type, children) or the name
-- of a type.
pub data Children : Type 0 where
  no_more : Children
  written : List ℕ → Bool → ℕ → Children → Children → Children
  named : List ℕ → Bool → List ℕ → Children → Children

abbrev pub is_empty_list : Children → Bool
is_empty_list no_more = true
is_empty_list (written n m b c r) = false
is_empty_list (named n m t r) = false

-- "A declaration is `type name : tree`".
pub data Declaration : Type 0 where
  declaration : List ℕ → ℕ → Children → Declaration

-- "`?`, `[0,1]`, `[1,1]` or nothing": is the child mandatory?
pub data CardinalityFrom : Bool → List Token → List Token → Type 0 where
  question_mark : {l : List Token} → CardinalityFrom false (question ∷ l) l
  optional_mark : {l : List Token} → CardinalityFrom false (zero_to_one ∷ l) l
  mandatory_mark : {l : List Token} → CardinalityFrom true (one_to_one ∷ l) l
  no_mark : {l : List Token} → CardinalityFrom true l l

mutual
  -- "A tree is a basic type with an optional, non-empty list of children in braces, and each child again has a tree." `types` are the names
  -- declared earlier.
  pub data TreeFrom : List (List ℕ) → ℕ → Children → List Token → List Token → Type 0 where
    leaf_tree : {types : List (List ℕ)} {w : List ℕ} {b : ℕ} {l : List Token} → IsBasic w b
        → TreeFrom types b no_more (word w ∷ l) l
    braced_tree : {types : List (List ℕ)} {w : List ℕ} {b : ℕ} {c : Children} {l r : List Token} → IsBasic w b
        → is_empty_list c ≡ false
        → ChildrenFrom types [] c l (closing ∷ r) → TreeFrom types b c (word w ∷ opening ∷ l) r

  -- "a child is `.name`, then `?`, `[0,1]`, `[1,1]` or nothing, then `:` and a tree or a name declared earlier"; "duplicate .. name": `seen` are
  -- the names before it in its list.
  pub data ChildrenFrom : List (List ℕ) → List (List ℕ) → Children → List Token → List Token → Type 0 where
    no_child : {types seen : List (List ℕ)} {l : List Token} → ChildrenFrom types seen no_more l l
    written_child : {types seen : List (List ℕ)} {n : List ℕ} {m : Bool} {b : ℕ} {c d : Children} {k l l' r : List Token}
        → is_name n ≡ true → among n seen ≡ false → CardinalityFrom m k (colon ∷ l) → TreeFrom types b c l l'
        → ChildrenFrom types (n ∷ seen) d l' r → ChildrenFrom types seen (written n m b c d) (dot ∷ word n ∷ k) r
    named_child : {types seen : List (List ℕ)} {n t : List ℕ} {m : Bool} {d : Children} {k l r : List Token}
        → is_name n ≡ true → among n seen ≡ false → CardinalityFrom m k (colon ∷ word t ∷ l) → among t types ≡ true
        → ChildrenFrom types (n ∷ seen) d l r → ChildrenFrom types seen (named n m t d) (dot ∷ word n ∷ k) r

-- "any number of declarations or none"; "no basic word names a type".
pub data DeclarationsFrom : List (List ℕ) → List Declaration → List Token → Type 0 where
  no_declaration : {types : List (List ℕ)} → DeclarationsFrom types [] []
  one_declaration : {types : List (List ℕ)} {n : List ℕ} {b : ℕ} {c : Children} {ds : List Declaration}
      {l r : List Token}
      → is_name n ≡ true → ((k : ℕ) → IsBasic n k → ⊥) → among n types ≡ false → TreeFrom types b c l r
      → DeclarationsFrom (n ∷ types) ds r
      → DeclarationsFrom types (declaration n b c ∷ ds) (word type_word ∷ word n ∷ colon ∷ l)

-- The bytes s are a text of the grammar, with these declarations.
pub record TypeText (s : List ℕ) (ds : List Declaration) : Type 0 where
  pub tokens : List Token
  pub spelled : Spelled s tokens
  pub derived : DeclarationsFrom [] ds tokens
