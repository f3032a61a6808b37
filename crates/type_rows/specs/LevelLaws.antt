-- The levels of a type: how many nodes they have, one and all together.
use Rattle.std.specs.Prelude.{ℕ, zero, suc, ◌+◌, ◌-◌, ◌≤◌, ◌<◌, ◌≡◌, refl, List, [], ◌∷◌, ◌++◌, Bool, true, false, length, ltb}
use Rattle.std.proofs.Common.{ap, arith, zero-add, length-append}
use Rattle.basics.specs.TestLaws.{lt_of, lt_not}
use Rattle.tree.specs.Encode.{root_count}
use Rattle.tree_forest.specs.Forest.{end, node, tree, measure, nodes, levels}
use Rattle.network_syntax.specs.Syntax.{Mark, Types, MessageType}
use Rattle.type_text.specs.TypeRows.{TypeNode, type_node, level_of, levels_from, by_levels, rows_in}

-- How many children the nodes have together.
unfoldable pub children_in : List TypeNode → ℕ
children_in [] = 0
children_in (type_node i a n ∷ l) = n + children_in l

-- How many nodes a level has.
abbrev pub width : ℕ → Types → ℕ
width d f = length (level_of d f)

pub children-append : (l m : List TypeNode) → children_in (l ++ m) ≡ children_in l + children_in m
unfolding children_in
children-append [] m = omega arith
children-append (type_node i a n ∷ l) m = let h = children-append l m in omega arith

pub first_width : (f : Types) → width 0 f ≡ root_count f
unfolding level_of root_count
first_width end = refl
first_width (node i a k r) = ap suc (first_width r)

pub width-below : (d i : ℕ) (a : Mark) (k r : Types) → width (suc d) (node i a k r) ≡ width d k + width (suc d) r
unfolding level_of
width-below d i a k r = length-append (level_of d k) (level_of (suc d) r)

-- The next level has the children of this one.
pub next-width : (d : ℕ) (f : Types) → children_in (level_of d f) ≡ width (suc d) f
unfolding level_of children_in
next-width d end = refl
next-width zero (node i a k r) = let h = next-width zero r in let w = width-below zero i a k r in let q = first_width k in omega arith
next-width (suc d) (node i a k r) =
    let h = next-width d k in let g = next-width (suc d) r in
    let w = width-below (suc d) i a k r in let q = children-append (level_of d k) (level_of (suc d) r) in omega arith

-- How many nodes the first n levels have.
abbrev pub widths : ℕ → ℕ → Types → ℕ
widths n d f = length (levels_from n d f)

pub widths-first : (n d : ℕ) (f : Types) → widths (suc n) d f ≡ width d f + widths n (suc d) f
unfolding levels_from
widths-first n d f = length-append (level_of d f) (levels_from n (suc d) f)

pub widths-none : (d : ℕ) (f : Types) → widths 0 d f ≡ 0
unfolding levels_from
widths-none d f = refl

widths-end : (n d : ℕ) → widths n d end ≡ 0
unfolding levels_from level_of
widths-end zero d = refl
widths-end (suc n) d = widths-end n (suc d)

widths-below : (n d i : ℕ) (a : Mark) (k r : Types) → widths n (suc d) (node i a k r) ≡ widths n d k + widths n (suc d) r
widths-below zero d i a k r = let x = widths-none (suc d) (node i a k r) in let y = widths-none d k in let z = widths-none (suc d) r in omega arith
widths-below (suc n) d i a k r =
    let h = widths-below n (suc d) i a k r in let w = width-below d i a k r in
    let x = widths-first n (suc d) (node i a k r) in let y = widths-first n d k in let z = widths-first n (suc d) r in omega arith

widths-node : (n i : ℕ) (a : Mark) (k r : Types) → widths (suc n) 0 (node i a k r) ≡ suc (widths n 0 k + widths (suc n) 0 r)
unfolding level_of
widths-node n i a k r =
    let h = widths-below n 0 i a k r in let x = widths-first n 0 (node i a k r) in let z = widths-first n 0 r in omega arith

widths-later : (n d : ℕ) (f : Types) → widths (suc n) d f ≡ widths n d f + width (d + n) f
widths-later zero d f =
    let x = widths-first 0 d f in let y = widths-none d f in let z = widths-none (suc d) f in
    let e : d + 0 ≡ d = omega arith in rw e (omega arith)
widths-later (suc n) d f =
    let h = widths-later n (suc d) f in let x = widths-first (suc n) d f in let y = widths-first n d f in
    let e : d + suc n ≡ suc d + n = omega arith in rw e (omega arith)

pub widths-next : (n : ℕ) (f : Types) → widths (suc n) 0 f ≡ widths n 0 f + width n f
widths-next n f = rw zero-add at (widths-later n 0 f)

-- Levels hold no more than all nodes, and all of them hold all.
pub widths-few : (f : Types) (n : ℕ) → widths n 0 f ≤ nodes f
unfolding measure
widths-few end n = let h = widths-end n 0 in omega arith
widths-few (node i a k r) zero = let h = widths-none 0 (node i a k r) in omega arith
widths-few (node i a k r) (suc n) =
    let h = widths-few k n in let g = widths-few r (suc n) in let e = widths-node n i a k r in omega arith

pub widths-all : (f : Types) (n : ℕ) → levels f ≤ n → widths n 0 f ≡ nodes f
unfolding measure
widths-all end n h = widths-end n 0
widths-all (node i a k r) zero h = absurd (omega arith)
widths-all (node i a k r) (suc n) h =
    let p = widths-all k n (omega arith) in let q = widths-all r (suc n) (omega arith) in let e = widths-node n i a k r in omega arith

-- A level past the last has no nodes.
pub level-past : (f : Types) (d : ℕ) → levels f ≤ d → level_of d f ≡ []
unfolding measure level_of
level-past end d h = refl
level-past (node i a k r) zero h = absurd (omega arith)
level-past (node i a k r) (suc d) h =
    rw (level-past k d (omega arith), level-past r (suc d) (omega arith)) refl

-- A type has as many rows as nodes.
pub type-length : (t : MessageType) → length (by_levels t) ≡ rows_in t
unfolding by_levels rows_in
type-length (tree a k) = ap suc (widths-all k (levels k) (omega arith))

-- Of the nodes of n levels, the m-th is the q-th of some level.
pub record LevelPlace (f : Types) (m : ℕ) : Type 0 where
  pub level : ℕ
  pub rank : ℕ
  pub among : m ≡ widths level 0 f + rank
  pub there : rank < width level f

pub level-place : (f : Types) (n m : ℕ) → m < widths n 0 f → LevelPlace f m
level-place f zero m h = absurd (let e = widths-none 0 f in omega arith)
level-place f (suc n) m h = go (ltb m (widths n 0 f)) refl (λ l. level-place f n m l)
  where
    go : (t : Bool) → ltb m (widths n 0 f) ≡ t → (m < widths n 0 f → LevelPlace f m) → LevelPlace f m
    go true e ih = ih (lt_of m (widths n 0 f) e)
    go false e ih =
        let l = lt_not m (widths n 0 f) e in let w = widths-next n f in
        record { level = n; rank = m - widths n 0 f; among = omega arith; there = omega arith }

-- All nodes but the root are children.
children-levels : (n d : ℕ) (f : Types) → children_in (levels_from n d f) ≡ widths n (suc d) f
unfolding levels_from children_in
children-levels zero d f = refl
children-levels (suc n) d f =
    let h = children-levels n (suc d) f in let a = children-append (level_of d f) (levels_from n (suc d) f) in
    let w = next-width d f in let x = length-append (level_of (suc d) f) (levels_from n (suc (suc d)) f) in omega arith

pub children-type : (t : MessageType) → suc (children_in (by_levels t)) ≡ rows_in t
unfolding by_levels rows_in children_in
children-type (tree a k) =
    let h = children-levels (levels k) 0 k in let x = widths-first (levels k) 0 k in let w = first_width k in
    let y = widths-all k (suc (levels k)) (omega arith) in omega arith
