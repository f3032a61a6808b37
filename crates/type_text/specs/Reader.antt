-- Reading a text of types: its declarations, or its first offending byte. 02, Wish 1: "at the text's first offending byte (of a word, taken whole,
-- its first; the length if the text ends too soon)".
use Rattle.std.specs.Prelude.{List, [], ◌∷◌, Bool, true, false, not, ◌&&◌, ℕ, zero, suc, ◌+◌, length, get_or, drop, eqb}
use Rattle.basics.specs.Choice.{pick}
use Rattle.network_syntax.specs.Syntax.{Optional, none, some}
use Rattle.scalar.specs.Basic.{last_basic}
use Rattle.scalar.specs.Value.{word_of}
use Rattle.type_text.specs.Spelling.{is_blank, in_word, Token, word, colon, opening, closing, dot, question, zero_to_one, one_to_one}
use Rattle.type_text.specs.Grammar.{same_word, among, is_name, type_word, Children, no_more, written, named, Declaration, declaration}

-- What a byte and those after it begin with: a blank; a word or mark, with how many bytes it has after the first; or neither, with how many of
-- the bytes some mark begins with.
pub data Lexeme : Type 0 where
  space : Lexeme
  found : Token → ℕ → Lexeme
  broken : ℕ → Lexeme

-- The bytes at the beginning that are in a word.
unfoldable pub word_bytes : List ℕ → List ℕ
word_bytes [] = []
word_bytes (b ∷ s) = pick (in_word b) (b ∷ word_bytes s) []

-- After `[` and the first digit of the mark k: `,`, `1` and `]`.
unfoldable pub bracket_end : Token → List ℕ → Lexeme
bracket_end k s =
    pick (eqb (get_or s 1 0) 44)
    (pick (eqb (get_or s 2 0) 49)
    (pick (eqb (get_or s 3 0) 93) (found k 4) (broken 4))
    (broken 3))
    (broken 2)

-- After `[`.
unfoldable pub bracket_at : List ℕ → Lexeme
bracket_at s =
    pick (eqb (get_or s 0 0) 48) (bracket_end zero_to_one s)
    (pick (eqb (get_or s 0 0) 49) (bracket_end one_to_one s) (broken 1))

unfoldable pub mark_at : ℕ → List ℕ → Lexeme
mark_at b s =
    pick (eqb b 58) (found colon 0)
    (pick (eqb b 123) (found opening 0)
    (pick (eqb b 125) (found closing 0)
    (pick (eqb b 46) (found dot 0)
    (pick (eqb b 63) (found question 0)
    (pick (eqb b 91) (bracket_at s) (broken 0))))))

unfoldable pub lexeme_at : ℕ → List ℕ → Lexeme
lexeme_at b s =
    pick (is_blank b) space
    (pick (in_word b) (found (word (b ∷ word_bytes s)) (length (word_bytes s))) (mark_at b s))

-- A word or mark with the place of its first byte; or a byte that begins none, with the place of the first byte with which no mark goes on.
pub data Item : Type 0 where
  token : ℕ → Token → Item
  fault : ℕ → ℕ → Item

-- What a lexeme at a place adds to the items after it; `after n` are those that follow when n more bytes are passed over.
abbrev pub items_by : ℕ → Lexeme → (ℕ → List Item) → List Item
items_by at space after = after 0
items_by at (found k n) after = token at k ∷ after n
items_by at (broken n) after = fault at (at + n) ∷ []

-- The items of the bytes from a place on, once n bytes are passed over, up to the first fault.
unfoldable pub items_from : ℕ → ℕ → List ℕ → List Item
items_from n at [] = []
items_from (suc n) at (b ∷ s) = items_from n (at + 1) s
items_from zero at (b ∷ s) = items_by at (lexeme_at b s) (λ n. items_from n (at + 1) s)

-- The items of the text s from a place on.
unfoldable pub items_at : List ℕ → ℕ → List Item
items_at s at = items_from 0 at (drop at s)

-- What was read and the items that follow it; or the place of the first offending byte.
pub data Reading (A : Type 0) : Type 0 where
  parsed : A → List Item → Reading A
  offends : ℕ → Reading A

abbrev pub read_then : {A B : Type 0} → Reading A → (A → List Item → Reading B) → Reading B
read_then (parsed x l) k = k x l
read_then (offends p) k = offends p

-- The place of the next item; `size` is the text's length.
abbrev pub next_place : ℕ → List Item → ℕ
next_place size [] = size
next_place size (token p k ∷ l) = p
next_place size (fault p q ∷ l) = p

-- What is read if a test holds; else the next item offends.
abbrev pub expect : {A : Type 0} → Bool → ℕ → List Item → Reading A → Reading A
expect t size l y = pick t y (offends (next_place size l))

abbrev pub at_end : List Item → Bool
at_end [] = true
at_end (i ∷ l) = false

-- The items after the next one.
abbrev pub after_next : List Item → List Item
after_next [] = []
after_next (i ∷ l) = l

-- A number for each mark; 0 for a word.
abbrev pub token_kind : Token → ℕ
token_kind (word w) = 0
token_kind colon = 1
token_kind opening = 2
token_kind closing = 3
token_kind dot = 4
token_kind question = 5
token_kind zero_to_one = 6
token_kind one_to_one = 7

abbrev pub word_in : Token → List ℕ
word_in (word w) = w
word_in colon = []
word_in opening = []
word_in closing = []
word_in dot = []
word_in question = []
word_in zero_to_one = []
word_in one_to_one = []

-- Is the next item the mark k?
abbrev pub next_is : Token → List Item → Bool
next_is k [] = false
next_is k (token p j ∷ l) = eqb (token_kind j) (token_kind k)
next_is k (fault p q ∷ l) = false

-- The next item's word; no bytes if it is no word.
abbrev pub next_word : List Item → List ℕ
next_word [] = []
next_word (token p k ∷ l) = word_in k
next_word (fault p q ∷ l) = []

-- The basic type below n, the largest, whose word it is.
unfoldable pub basic_below : ℕ → List ℕ → Optional ℕ
basic_below zero w = none
basic_below (suc n) w = pick (same_word (word_of n) w) (some n) (basic_below n w)

-- The basic type whose word it is.
abbrev pub basic_named : List ℕ → Optional ℕ
basic_named w = basic_below (suc last_basic) w

abbrev pub is_basic_word : Optional ℕ → Bool
is_basic_word none = false
is_basic_word (some b) = true

-- "`?`, `[0,1]`, `[1,1]` or nothing", before the items l: is the child mandatory? Where a cardinality may stand, a broken one offends at the byte
-- that departs from it.
abbrev pub cardinality_by : ℕ → Token → List Item → Reading Bool
cardinality_by p (word w) l = parsed true (token p (word w) ∷ l)
cardinality_by p colon l = parsed true (token p colon ∷ l)
cardinality_by p opening l = parsed true (token p opening ∷ l)
cardinality_by p closing l = parsed true (token p closing ∷ l)
cardinality_by p dot l = parsed true (token p dot ∷ l)
cardinality_by p question l = parsed false l
cardinality_by p zero_to_one l = parsed false l
cardinality_by p one_to_one l = parsed true l

abbrev pub read_cardinality : List Item → Reading Bool
read_cardinality [] = parsed true []
read_cardinality (token p k ∷ l) = cardinality_by p k l
read_cardinality (fault p q ∷ l) = offends q

-- What stands after a child's `:`: a tree, or the name of a type.
pub data Side : Type 0 where
  inline : ℕ → Children → Side
  reference : List ℕ → Side

abbrev pub child_of : List ℕ → Bool → Side → Children → Children
child_of n m (inline b c) d = written n m b c d
child_of n m (reference t) d = named n m t d

abbrev pub declaration_of : List ℕ → Side → Declaration
declaration_of n (inline b c) = declaration n b c
declaration_of n (reference t) = declaration n 0 no_more

-- "no basic word names a type"; "duplicate": may a word name one more type?
unfoldable pub is_new_type : List (List ℕ) → List ℕ → Bool
is_new_type types n = is_name n && (not (is_basic_word (basic_named n)) && not (among n types))

module _ (size : ℕ) where
  -- A tree's children, if it has any, and its closing brace; `children` reads a list.
  unfoldable pub read_braces : (List Item → Reading Children) → ℕ → List Item → Reading Side
  read_braces children b l =
      pick (next_is opening l)
      (expect (next_is dot (after_next l)) size (after_next l)
      (read_then (children (after_next l)) (λ c r. expect (next_is closing r) size r (parsed (inline b c) (after_next r)))))
      (parsed (inline b no_more) l)

  abbrev pub read_type_tree_by : (List Item → Reading Children) → Optional ℕ → List Item → Reading Side
  read_type_tree_by children none l = offends (next_place size l)
  read_type_tree_by children (some b) l = read_braces children b (after_next l)

  -- "A tree is a basic type with an optional, non-empty list of children in braces".
  abbrev pub read_type_tree : (List Item → Reading Children) → List Item → Reading Side
  read_type_tree children l = read_type_tree_by children (basic_named (next_word l)) l

  -- "a tree or a name declared earlier".
  abbrev pub read_side : List (List ℕ) → (List Item → Reading Children) → List Item → Reading Side
  read_side types children l =
      pick (among (next_word l) types) (parsed (reference (next_word l)) (after_next l)) (read_type_tree children l)

  -- A child after its `.`, then the rest of its list; `nested` reads a list of its own, `more` goes on with this one.
  unfoldable pub read_child : List (List ℕ) → (List Item → Reading Children) → (List Item → Reading Children) → List ℕ
      → List Item → Reading Children
  read_child types nested more n l =
      read_then (read_cardinality l) (λ m k.
      expect (next_is colon k) size k
      (read_then (read_side types nested (after_next k)) (λ side r.
      read_then (more r) (λ d r'. parsed (child_of n m side d) r'))))

  -- A list of children, as long as a `.` follows. No list has more children than items, `f` at least.
  unfoldable pub read_children : List (List ℕ) → ℕ → List (List ℕ) → List Item → Reading Children
  read_children types zero seen l = parsed no_more l
  read_children types (suc f) seen l =
      pick (next_is dot l)
      (expect (is_name (next_word (after_next l)) && not (among (next_word (after_next l)) seen)) size (after_next l)
      (read_child types (read_children types f []) (read_children types f (next_word (after_next l) ∷ seen))
      (next_word (after_next l)) (after_next (after_next l))))
      (parsed no_more l)

  -- "A declaration is `type name : tree`", after its name; then the rest of the text.
  unfoldable pub read_declaration : (List Item → Reading Children) → (List Item → Reading (List Declaration)) → List ℕ
      → List Item
      → Reading (List Declaration)
  read_declaration children more n l =
      expect (next_is colon l) size l
      (read_then (read_type_tree children (after_next l)) (λ side r.
      read_then (more r) (λ ds r'. parsed (declaration_of n side ∷ ds) r')))

  -- The declarations up to the end. No text has more of them than items, `f` at least.
  unfoldable pub read_declarations : ℕ → List (List ℕ) → List Item → Reading (List Declaration)
  read_declarations zero types l = parsed [] l
  read_declarations (suc f) types l =
      pick (at_end l) (parsed [] [])
      (expect (same_word type_word (next_word l)) size l
      (expect (is_new_type types (next_word (after_next l))) size (after_next l)
      (read_declaration (read_children types f []) (read_declarations f (next_word (after_next l) ∷ types))
      (next_word (after_next l)) (after_next (after_next l)))))

-- A text's declarations, or its first offending byte's place.
unfoldable pub read_text : List ℕ → Reading (List Declaration)
read_text s = read_declarations (length s) (length s) [] (items_at s 0)
