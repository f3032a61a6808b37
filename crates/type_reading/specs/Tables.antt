-- The tables that reading a text of types keeps: the names of types declared so far with their sizes, and the names of children in the lists
-- that are open.
use Rattle.std.specs.Prelude.{◌≡◌, List, [], ◌∷◌, false, ℕ, zero, suc, ◌+◌, ◌*◌, min, ◌≤◌, ◌<◌, length, drop}
use Rattle.basics.specs.Choice.{pick}
use Rattle.wire.specs.Wire.{u16_at, put_u16}
use Rattle.type_text.specs.Grammar.{same_word, among, Declaration, declaration}
use Rattle.type_text.specs.Reader.{word_bytes}
use Rattle.type_text.specs.Sizes.{nodes_in, levels_in}

-- The word at a place.
abbrev pub word_from : List ℕ → ℕ → List ℕ
word_from s p = word_bytes (drop p s)

-- x, held at m.
abbrev pub held : ℕ → ℕ → ℕ
held m x = min m x

-- The names of the first n entries of a table, the last one first. An entry has 6 bytes: the place of the name, and the nodes and
-- levels below the type's root, held at 257 and 5.
unfoldable pub declared_names : List ℕ → List ℕ → ℕ → List (List ℕ)
declared_names s table zero = []
declared_names s table (suc n) = word_from s (u16_at table (6 * n)) ∷ declared_names s table n

-- What the table has at `at` in the entry of the name t, among the first n.
unfoldable pub known_at : ℕ → List ℕ → List ℕ → ℕ → List ℕ → ℕ
known_at at s table zero t = 0
known_at at s table (suc n) t = pick (same_word t (word_from s (u16_at table (6 * n)))) (u16_at table (6 * n + at)) (known_at at s table n t)

-- The nodes and the levels below the root of a type that the table knows.
abbrev pub known_nodes : List ℕ → List ℕ → ℕ → List ℕ → ℕ
known_nodes s table n t = known_at 2 s table n t

abbrev pub known_levels : List ℕ → List ℕ → ℕ → List ℕ → ℕ
known_levels s table n t = known_at 4 s table n t

-- The names of the k entries of a stack from the entry `base` on, the last one first. An entry has 2 bytes: the place of the name.
unfoldable pub seen_names : List ℕ → List ℕ → ℕ → ℕ → List (List ℕ)
seen_names s stack base zero = []
seen_names s stack base (suc k) = word_from s (u16_at stack (2 * (base + k))) ∷ seen_names s stack base k

-- The table's entries from n on are these declarations.
unfoldable pub Noted : List ℕ → List ℕ → ℕ → List Declaration → Type 0
Noted s table n [] = Unit {0}
Noted s table n (declaration name b c ∷ ds) =
    (word_from s (u16_at table (6 * n)) ≡ name) × (u16_at table (6 * n + 2) ≡ held 257 (nodes_in (known_nodes s table n) c)) ×
    (u16_at table (6 * n + 4) ≡ held 5 (levels_in (known_levels s table n) c)) × Noted s table (suc n) ds

-- From p to q stands a word.
abbrev pub WordUpTo : List ℕ → ℕ → ℕ → Type 0
WordUpTo s p q = (q ≡ p + length (word_from s p)) × (p < q) × (q ≤ length s)

-- No name of the table is empty.
abbrev pub NoneEmpty : List ℕ → List ℕ → ℕ → Type 0
NoneEmpty s table n = among [] (declared_names s table n) ≡ false

-- The table has n types.
abbrev pub Named : List ℕ → List ℕ → ℕ → Type 0
Named s table n = (6 * n ≤ length table) × NoneEmpty s table n

-- The text is no longer than a text may be, and the stack has room for a name in each two bytes after the first `at` of it.
abbrev pub Room : List ℕ → ℕ → List ℕ → ℕ → Type 0
Room s at stack top = (at ≤ length s) × (length s ≤ 8192) × (length s ≤ length stack) × (2 * top ≤ at)

-- The table with a type noted in its entry n.
abbrev pub noted : List ℕ → ℕ → ℕ → ℕ → ℕ → List ℕ
noted table n p nodes levels = put_u16 (put_u16 (put_u16 table (6 * n) p) (6 * n + 2) nodes) (6 * n + 4) levels
