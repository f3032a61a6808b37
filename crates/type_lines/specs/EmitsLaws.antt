-- Laws of the rows of levels: one level after another; the levels of a type; what stands in a type's bytes.
use Rattle.std.specs.Prelude.{◌≡◌, refl, List, [], ◌∷◌, ◌++◌, ℕ, zero, suc, ◌+◌, ◌*◌, ◌≤◌, length, eqb}
use Rattle.std.proofs.Common.{ap, sym, ◌∙◌, append-nil, append_assoc, arith, add-zero}
use Rattle.basics.specs.Choice.{pick}
use Rattle.wire.specs.Wire.{u16_bytes}
use Rattle.scalar.specs.Basic.{last_basic}
use Rattle.tree_forest.specs.Limits.{message_levels_below, session_levels, session_nodes}
use Rattle.tree_forest.specs.Forest.{tree, Rising, nodes, levels, map_tree}
use Rattle.network_syntax.specs.Syntax.{Mark, mark, Types, MessageType}
use Rattle.tree.specs.Encode.{root_count, encode, rooted}
use Rattle.tree.specs.Standing.{Root}
use Rattle.tree.specs.StandingLaws.{encodes-root}
use Rattle.tree_edit.specs.Wrote.{Wrote}
use Rattle.check_subtyping.specs.Subtype.{root_basic, root_children}
use Rattle.check_types.specs.Image.{mark_value, InRange}
use Rattle.check_types.specs.ImageLaws.{image-well-formed}
use Rattle.type_text.specs.TypeRows.{TypeNode, type_node, level_of, levels_from, by_levels, row_bytes, rows_in}
use Rattle.type_rows.specs.LevelLaws.{children_in, level-past}
use Rattle.type_lines.specs.Emits.{TreeEmitted}

-- ---- the bytes of rows

pub rows_append : (next : ℕ) (l m : List TypeNode) → row_bytes next (l ++ m) ≡ row_bytes next l ++ row_bytes (next + children_in l) m
unfolding row_bytes children_in
rows_append next [] m = rw (add-zero next) refl
rows_append next (type_node i (mark c b) n ∷ l) m =
    let row : List ℕ = u16_bytes i ++ (pick c 1 0 ∷ b ∷ (u16_bytes (pick (eqb n 0) 0 next) ++ u16_bytes n)) in
    let e : next + n + children_in l ≡ next + (n + children_in l) = omega arith in
    ap (λ (z : List ℕ). row ++ z) (rows_append (next + n) l m ∙ rw e refl)
    ∙ sym (append_assoc row (row_bytes (next + n) l) (row_bytes (next + (n + children_in l)) m))

-- ---- the levels of a type

levels-past : (n d : ℕ) (f : Types) → levels f ≤ d → levels_from n d f ≡ []
unfolding levels_from
levels-past zero d f h = refl
levels-past (suc n) d f h = rw (level-past f d h, levels-past n (suc d) f (omega arith)) refl

levels-enough : (n m d : ℕ) (f : Types) → levels f ≤ d + n → n ≤ m → levels_from n d f ≡ levels_from m d f
unfolding levels_from
levels-enough zero m d f h l = sym (levels-past m d f (omega arith))
levels-enough (suc n) zero d f h l = absurd (omega arith)
levels-enough (suc n) (suc m) d f h l =
    ap (λ (z : List TypeNode). level_of d f ++ z) (levels-enough n m (suc d) f (omega arith) (omega arith))

-- A type of at most four levels: its root and three more.
pub by-levels : (a : Mark) (k : Types) → levels k ≤ message_levels_below →
    by_levels (tree a k) ≡ type_node 0 a (root_count k) ∷ (level_of 0 k ++ (level_of 1 k ++ level_of 2 k))
unfolding by_levels levels_from
by-levels a k h =
    ap (λ (z : List TypeNode). type_node 0 a (root_count k) ∷ z)
    (levels-enough (levels k) 3 0 k (omega arith) h
    ∙ ap (λ (z : List TypeNode). level_of 0 k ++ (level_of 1 k ++ z)) (append-nil (level_of 2 k)))

-- ---- a type in bytes

pub type-root : (s : List ℕ) (t : MessageType) → s ≡ encode (rooted (map_tree mark_value t)) → root_basic t ≤ last_basic → Rising (root_children t) →
    InRange (root_children t) → levels (root_children t) ≤ session_levels → nodes (root_children t) ≤ session_nodes → Root s 0 0 (map_tree mark_value t)
type-root s (tree (mark m b) k) e h q i d n =
    encodes-root session_levels session_nodes s (map_tree mark_value (tree (mark m b) k)) (omega arith) (omega arith)
    (record { bytes = e; good = image-well-formed session_levels session_nodes m b k h q i d n })

-- The rows of a type whose bytes s are.
pub tree-emitted : {s o o' : List ℕ} {r e : ℕ} → TreeEmitted s o o' r e → (t : MessageType) → s ≡ encode (rooted (map_tree mark_value t)) →
    root_basic t ≤ last_basic → Rising (root_children t) → InRange (root_children t) →
    levels (root_children t) ≤ message_levels_below → nodes (root_children t) ≤ session_nodes → 8 * (r + rows_in t) ≤ length o → r + rows_in t ≤ 256 →
    Wrote o o' (8 * r) e (8 * rows_in t) (row_bytes (r + 1) (by_levels t))
tree-emitted {s} h (tree (mark m b) k) e p q i d n f l =
    h.writes (tree (mark m b) k) (type-root s (tree (mark m b) k) e p q i (omega arith) n) d f l
