-- Subtyping of message types, T1 ≤ T2, as a relation and as a test. 01, Typing: "T1 ≤ T2: equal basic type; every child id
-- of T1 is in T2; each child of T2 is in T1 with a subtype, mandatory if T2 has it mandatory, or absent from T1 and
-- optional in T2." The sentence speaks of the children's cardinalities only: what the two roots' own edges are is not compared.
use Rattle.std.specs.Prelude.{◌≡◌, ℕ, Bool, true, false, not, ◌&&◌, T, eqb}
use Rattle.tree_forest.specs.Compare.{Compare, lt, eq, gt, compare}
use Rattle.tree_forest.specs.Forest.{end, node, tree, Lookup, absent, present, find}
use Rattle.network_syntax.specs.Syntax.{Mark, mark, Types, MessageType}

-- The basic type of a type's root.
abbrev pub root_basic : MessageType → ℕ
root_basic (tree (mark m b) k) = b

-- The children of a type's root.
abbrev pub root_children : MessageType → Types
root_children (tree a k) = k

-- One child id in T1 (first) and in T2 (second): in neither; "absent from T1 and optional in T2"; or "in T1 with a subtype,
-- mandatory if T2 has it mandatory". An id that is in T1 and not in T2 has no case: "every child id of T1 is in T2".
pub data ChildSubtype : Lookup Mark → Lookup Mark → Type 0 where
  in_neither : ChildSubtype absent absent
  optional_absent : {b : ℕ} {k : Types} → ChildSubtype absent (present (tree (mark false b) k))
  in_both : {m n : Bool} {b : ℕ} {k l : Types} → (T n → T m) → ((i : ℕ) → ChildSubtype (find i k) (find i l))
      → ChildSubtype (present (tree (mark m b) k)) (present (tree (mark n b) l))

-- The children's part of the sentence, for every id; also "≤ Γ", where the empty roots are equal.
pub record Subtypes (F G : Types) : Type 0 where
  pub at : (i : ℕ) → ChildSubtype (find i F) (find i G)

-- T1 ≤ T2.
pub record Subtype (t u : MessageType) : Type 0 where
  pub basics : root_basic t ≡ root_basic u
  pub children : Subtypes (root_children t) (root_children u)

-- The test. It goes through both lists of children at once, in the order of their ids.
abbrev pub is_end : Types → Bool
is_end end = true
is_end (node i a k r) = false

abbrev pub implies : Bool → Bool → Bool
implies true m = m
implies false m = true

-- By how the first id of T1 compares with the first id of T2: only in T1; in both; only in T2.
abbrev pub are_subtypes_by : {j i : ℕ} → Compare j i → Bool → Bool → Bool
are_subtypes_by (lt h) both skip = false
are_subtypes_by (eq h) both skip = both
are_subtypes_by (gt h) both skip = skip

unfoldable pub are_subtypes : Types → Types → Bool
are_subtypes F end = is_end F
are_subtypes end (node i (mark n b) k r) = not n && are_subtypes end r
are_subtypes (node j (mark m c) l s) (node i (mark n b) k r) =
    are_subtypes_by (compare j i)
    (eqb c b && (implies n m && (are_subtypes l k && are_subtypes s r)))
    (not n && are_subtypes (node j (mark m c) l s) r)

-- Is T1 ≤ T2?
abbrev pub is_subtype : MessageType → MessageType → Bool
is_subtype (tree (mark m b) k) (tree (mark n c) l) = eqb b c && are_subtypes k l
