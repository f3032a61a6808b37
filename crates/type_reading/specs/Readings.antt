-- What the reading functions tell, in terms of the reader's definition.
use Rattle.std.specs.Prelude.{◌≡◌, List, [], ◌∷◌, Bool, true, false, ℕ, suc, ◌+◌, ◌*◌, ◌≤◌, ◌<◌, length, take, ◌⊎◌}
use Rattle.network_syntax.specs.Syntax.{none, some}
use Rattle.type_words.specs.declared.Item.TheVariants.{Word}
use Rattle.type_words.specs.Told.{mark_token, ItemTold}
use Rattle.type_text.specs.Spelling.{colon, opening, closing, dot}
use Rattle.wire.specs.Wire.{u16_at}
use Rattle.type_text.specs.Grammar.{among, Children, no_more, Declaration}
use Rattle.type_text.specs.Sizes.{nodes_in, levels_in}
use Rattle.type_text.specs.Reader.{Item, token, items_at, next_place, next_word, basic_named, is_new_type, Reading, parsed}
use Rattle.type_text.specs.Reader.{offends, read_then, expect, next_is, after_next, Side, inline, reference, child_of, declaration_of}
use Rattle.type_text.specs.Reader.{read_cardinality, read_side, read_type_tree, read_children, read_declarations}
use Rattle.type_reading.specs.Tables.{word_from, held, declared_names, known_nodes, known_levels, seen_names, Noted, NoneEmpty}
use Rattle.type_reading.specs.declared.Beginning.{Beginning}
use Rattle.type_reading.specs.declared.Beginning.TheVariants.{Known, Leaf, Braces}
use Rattle.std.specs.Prelude.{Option, Some, None, Result, Ok, Err}

-- A later place of the text, with fewer items from there on.
pub record Onward (s : List ℕ) (at q : ℕ) : Type 0 where
  pub forward : at ≤ q
  pub inside : q ≤ length s
  pub fewer : length (items_at s q) ≤ length (items_at s at)

-- What is left to do once a child's `.name`, cardinality and `:` are read.
unfoldable pub after_colon : ℕ → List (List ℕ) → ℕ → List (List ℕ) → List ℕ → Bool → List Item → Reading Children
after_colon size types f seen n m l =
    read_then (read_side size types (read_children size types f []) l) (λ side r.
    read_then (read_children size types f (n ∷ seen) r) (λ d r'. parsed (child_of n m side d) r'))

-- A child's `.name`, cardinality and `:` at `at`, up to a, in a list whose names so far are the k entries of the stack from `base` on; its name
-- is put on the stack.
pub record ChildBegun (s : List ℕ) (at : ℕ) (stack stack' : List ℕ) (base k a : ℕ) : Type 0 where
  pub name : List ℕ
  pub mandatory : Bool
  pub far : at + 2 < a
  pub onward : Onward s at a
  pub fewer : length (items_at s a) < length (items_at s at)
  pub pushed : seen_names s stack' base (suc k) ≡ name ∷ seen_names s stack base k
  pub reads : (types : List (List ℕ)) (f : ℕ) → read_children (length s) types (suc f) (seen_names s stack base k) (items_at s at) ≡
      after_colon (length s) types f (seen_names s stack base k) name mandatory (items_at s a)

abbrev pub ChildTold : List ℕ → ℕ → List ℕ → List ℕ → ℕ → ℕ → Result (Option ℕ) ℕ → Type 0
ChildTold s at stack stack' base k (Ok None) =
    ((types : List (List ℕ)) (f : ℕ) → read_children (length s) types f (seen_names s stack base k) (items_at s at) ≡ parsed no_more (items_at s at))
ChildTold s at stack stack' base k (Err p) =
    (0 < length (items_at s at)) ×
    ((types : List (List ℕ)) (f : ℕ) → read_children (length s) types (suc f) (seen_names s stack base k) (items_at s at) ≡ offends p)
ChildTold s at stack stack' base k (Ok (Some a)) = ChildBegun s at stack stack' base k a

-- A type's name at `at`, up to q, in the entry i among the first n of the table.
pub record NameRead (s : List ℕ) (at : ℕ) (table : List ℕ) (n q i : ℕ) : Type 0 where
  pub type : List ℕ
  pub onward : Onward s at q
  pub below : i < n
  pub far : at < q
  pub declared : among type (declared_names s table n) ≡ true
  pub many : u16_at table (6 * i + 2) ≡ known_nodes s table n type
  pub deep : u16_at table (6 * i + 4) ≡ known_levels s table n type
  pub reads : (children : List Item → Reading Children)
      → read_side (length s) (declared_names s table n) children (items_at s at) ≡ parsed (reference type) (items_at s q)

-- A basic word at `at`, up to q, and no opening brace.
pub record LeafRead (s : List ℕ) (at : ℕ) (table : List ℕ) (n q basic : ℕ) : Type 0 where
  pub onward : Onward s at q
  pub far : at < q
  pub reads : (children : List Item → Reading Children)
      → read_side (length s) (declared_names s table n) children (items_at s at) ≡ parsed (inline basic no_more) (items_at s q)

-- What is left to do at the end of a list in braces.
abbrev pub closed : ℕ → ℕ → Children → List Item → Reading Side
closed size b c r = expect (next_is closing r) size r (parsed (inline b c) (after_next r))

-- A basic word and an opening brace at `at`, up to a, where a child begins.
pub record BracesRead (s : List ℕ) (at : ℕ) (table : List ℕ) (n a basic : ℕ) : Type 0 where
  pub onward : Onward s at a
  pub far : at < a
  pub fewer : length (items_at s a) < length (items_at s at)
  pub reads : (children : List Item → Reading Children)
      → read_side (length s) (declared_names s table n) children (items_at s at) ≡ read_then (children (items_at s a)) (closed (length s) basic)

-- What stands after a `:` at `at`, where the first n entries of the table are the names that may stand there.
abbrev pub SideTold : List ℕ → ℕ → List ℕ → ℕ → Result Beginning ℕ → Type 0
SideTold s at table n (Ok (Known q i)) = NameRead s at table n q i
SideTold s at table n (Ok (Leaf q b)) = LeafRead s at table n q b
SideTold s at table n (Ok (Braces a b)) = BracesRead s at table n a b
SideTold s at table n (Err p) =
    ((children : List Item → Reading Children) → read_side (length s) (declared_names s table n) children (items_at s at) ≡ offends p)

abbrev pub is_inline : Side → Bool
is_inline (inline b c) = true
is_inline (reference t) = false

-- The nodes and levels of a side below its root.
abbrev pub side_nodes : (List ℕ → ℕ) → Side → ℕ
side_nodes known (inline b c) = nodes_in known c
side_nodes known (reference t) = known t

abbrev pub side_levels : (List ℕ → ℕ) → Side → ℕ
side_levels known (inline b c) = levels_in known c
side_levels known (reference t) = known t

-- A list of children at `at`, up to q, where the table has n types and `seen` are the names before it in the list.
pub record ListRead (s : List ℕ) (at : ℕ) (table : List ℕ) (n : ℕ) (seen : List (List ℕ)) (q nodes levels : ℕ) : Type 0 where
  pub children : Children
  pub onward : Onward s at q
  pub many : nodes ≡ held 257 (nodes_in (known_nodes s table n) children)
  pub deep : levels ≡ held 5 (levels_in (known_levels s table n) children)
  pub reads : (f : ℕ) → length (items_at s at) ≤ f
      → read_children (length s) (declared_names s table n) f seen (items_at s at) ≡ parsed children (items_at s q)

abbrev pub ListTold : List ℕ → ℕ → List ℕ → ℕ → List (List ℕ) → Result (ℕ × ℕ × ℕ) ℕ → Type 0
ListTold s at table n seen (Ok (q, nodes, levels)) = ListRead s at table n seen q nodes levels
ListTold s at table n seen (Err p) =
    ((f : ℕ) → length (items_at s at) ≤ f → read_children (length s) (declared_names s table n) f seen (items_at s at) ≡ offends p)

-- A side at `at`, up to q, where the first `allowed` entries of the table are the names that may stand there; lists in it may name all n.
pub record SideRead (s : List ℕ) (at : ℕ) (table : List ℕ) (allowed n q nodes levels : ℕ) : Type 0 where
  pub side : Side
  pub inlined : allowed ≡ 0 → is_inline side ≡ true
  pub onward : Onward s at q
  pub far : at < q
  pub many : nodes ≡ held 257 (side_nodes (known_nodes s table n) side)
  pub deep : levels ≡ held 5 (side_levels (known_levels s table n) side)
  pub reads : (f : ℕ) → length (items_at s at) ≤ f
      → read_side (length s) (declared_names s table allowed) (read_children (length s) (declared_names s table n) f []) (items_at s at) ≡ parsed side (items_at s q)

abbrev pub TreeTold : List ℕ → ℕ → List ℕ → ℕ → ℕ → Result (ℕ × ℕ × ℕ) ℕ → Type 0
TreeTold s at table allowed n (Ok (q, nodes, levels)) = SideRead s at table allowed n q nodes levels
TreeTold s at table allowed n (Err p) =
    ((f : ℕ) → length (items_at s at) ≤ f →
    read_side (length s) (declared_names s table allowed) (read_children (length s) (declared_names s table n) f []) (items_at s at) ≡ offends p)

-- The first entries of a stack stay, and its size.
pub record StackKept (stack stack' : List ℕ) (top : ℕ) : Type 0 where
  pub below : take (2 * top) stack' ≡ take (2 * top) stack
  pub size : length stack' ≡ length stack

-- A cardinality and a `:`, then what k reads.
abbrev pub through_colon : ℕ → (Bool → List Item → Reading Children) → List Item → Reading Children
through_colon size k l = read_then (read_cardinality l) (λ m r. expect (next_is colon r) size r (k m (after_next r)))

-- A cardinality and a `:` at `at`, up to a.
pub record ColonRead (s : List ℕ) (at a : ℕ) (mandatory : Bool) : Type 0 where
  pub onward : Onward s at a
  pub far : at < a
  pub fewer : length (items_at s a) < length (items_at s at)
  pub reads : (k : Bool → List Item → Reading Children) → through_colon (length s) k (items_at s at) ≡ k mandatory (items_at s a)

abbrev pub ColonTold : List ℕ → ℕ → Result (ℕ × Bool) ℕ → Type 0
ColonTold s at (Ok (a, mandatory)) = ColonRead s at a mandatory
ColonTold s at (Err p) = (k : Bool → List Item → Reading Children) → through_colon (length s) k (items_at s at) ≡ offends p

-- The rest of a text after a declaration's `type name :`.
abbrev pub after_name : ℕ → List (List ℕ) → ℕ → List ℕ → List Item → Reading (List Declaration)
after_name size types f name l =
    read_then (read_type_tree size (read_children size types f []) l) (λ side r.
    read_then (read_declarations size f (name ∷ types) r) (λ ds r'. parsed (declaration_of name side ∷ ds) r'))

-- A declaration's `type name :` at `at`, up to a, its name at p.
pub record NameGiven (s : List ℕ) (at : ℕ) (table : List ℕ) (n p a : ℕ) : Type 0 where
  pub onward : Onward s at a
  pub far : at + 3 ≤ a
  pub low : p < length s
  pub fresh : is_new_type (declared_names s table n) (word_from s p) ≡ true
  pub fewer : length (items_at s a) < length (items_at s at)
  pub reads : (f : ℕ) → read_declarations (length s) (suc f) (declared_names s table n) (items_at s at) ≡
      after_name (length s) (declared_names s table n) f (word_from s p) (items_at s a)

abbrev pub StartTold : List ℕ → ℕ → List ℕ → ℕ → Result (Option (ℕ × ℕ)) ℕ → Type 0
StartTold s at table n (Ok None) = items_at s at ≡ []
StartTold s at table n (Err p) =
    (0 < length (items_at s at)) × ((f : ℕ) → read_declarations (length s) (suc f) (declared_names s table n) (items_at s at) ≡ offends p)
StartTold s at table n (Ok (Some (p, a))) = NameGiven s at table n p a

-- A declaration's name and `:` at `at`.
abbrev pub NameTold : List ℕ → ℕ → List ℕ → ℕ → Result (ℕ × ℕ) ℕ → Type 0
NameTold s at table n (Err p) =
    ((is_new_type (declared_names s table n) (next_word (items_at s at)) ≡ false) × (p ≡ next_place (length s) (items_at s at))) ⊎
    ((is_new_type (declared_names s table n) (next_word (items_at s at)) ≡ true) × (next_is colon (after_next (items_at s at)) ≡ false) ×
    (p ≡ next_place (length s) (after_next (items_at s at))))
NameTold s at table n (Ok (p, a)) =
    (is_new_type (declared_names s table n) (word_from s p) ≡ true) × (next_word (items_at s at) ≡ word_from s p) × (p < length s) × (at + 2 ≤ a) ×
    Onward s at a × (next_is colon (after_next (items_at s at)) ≡ true) × (after_next (after_next (items_at s at)) ≡ items_at s a)

-- The declarations from `at` on, where the table had n types; it has m now.
pub record RestRead (s : List ℕ) (at : ℕ) (table table' : List ℕ) (n m : ℕ) : Type 0 where
  pub declarations : List Declaration
  pub count : m ≡ n + length declarations
  pub room : 3 * m ≤ length s
  pub noted : Noted s table' n declarations
  pub named : NoneEmpty s table' m
  pub kept : take (6 * n) table' ≡ take (6 * n) table
  pub size : length table' ≡ length table
  pub reads : (f : ℕ) → length (items_at s at) ≤ f → read_declarations (length s) f (declared_names s table n) (items_at s at) ≡ parsed declarations []

abbrev pub RestTold : List ℕ → ℕ → List ℕ → List ℕ → ℕ → Result ℕ ℕ → Type 0
RestTold s at table table' n (Ok m) = RestRead s at table table' n m
RestTold s at table table' n (Err p) =
    (f : ℕ) → length (items_at s at) ≤ f → read_declarations (length s) f (declared_names s table n) (items_at s at) ≡ offends p

-- The mark of a kind next, up to a.
pub record MarkRead (s : List ℕ) (at kind a : ℕ) : Type 0 where
  pub place : ℕ
  pub onward : Onward s at a
  pub far : at < a
  pub is : items_at s at ≡ token place (mark_token kind) ∷ items_at s a

abbrev pub NextMark : List ℕ → ℕ → ℕ → Option ℕ → Type 0
NextMark s at kind (Some a) = MarkRead s at kind a
NextMark s at kind None = next_is (mark_token kind) (items_at s at) ≡ false

-- A name's entry among the first n of the table.
abbrev pub TypeFound : List ℕ → List ℕ → ℕ → List ℕ → Option ℕ → Type 0
TypeFound s table n w (Some i) =
    (i < n) × (among w (declared_names s table n) ≡ true) × (u16_at table (6 * i + 2) ≡ known_nodes s table n w) ×
    (u16_at table (6 * i + 4) ≡ known_levels s table n w)
TypeFound s table n w None = among w (declared_names s table n) ≡ false

-- A mark that has to be next.
abbrev pub MarkTold : List ℕ → ℕ → ℕ → Result ℕ ℕ → Type 0
MarkTold s at kind (Ok a) = MarkRead s at kind a
MarkTold s at kind (Err p) = (next_is (mark_token kind) (items_at s at) ≡ false) × (p ≡ next_place (length s) (items_at s at))

-- A word that has to be next.
abbrev pub WordTold : List ℕ → ℕ → Result (ℕ × ℕ) ℕ → Type 0
WordTold s at (Ok (p, q)) = ItemTold s at (Word p q)
WordTold s at (Err e) = (next_word (items_at s at) ≡ []) × (e ≡ next_place (length s) (items_at s at))

-- What follows the word from p to q where it is a basic type's.
abbrev pub TreeBegun : List ℕ → ℕ → ℕ → Result Beginning ℕ → Type 0
TreeBegun s p q (Ok (Known r i)) = ⊥
TreeBegun s p q (Ok (Leaf r b)) = (r ≡ q) × (basic_named (word_from s p) ≡ some b) × (next_is opening (items_at s q) ≡ false)
TreeBegun s p q (Ok (Braces a b)) =
    (basic_named (word_from s p) ≡ some b) × MarkRead s q 2 a × (next_is dot (items_at s a) ≡ true)
TreeBegun s p q (Err e) =
    ((basic_named (word_from s p) ≡ none) × (e ≡ p)) ⊎
    ((b : ℕ) × (basic_named (word_from s p) ≡ some b) × (next_is opening (items_at s q) ≡ true) ×
    (next_is dot (after_next (items_at s q)) ≡ false) × (e ≡ next_place (length s) (after_next (items_at s q))))
