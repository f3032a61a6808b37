-- Laws of own types: lookups, setting a tree, measures, order of ids.
use Rattle.std.specs.Prelude.{◌≡◌, ℕ, suc, ◌≤◌, ◌<◌, ◌+◌, Bool, true, false, T}
use Rattle.std.proofs.Math.Path.{refl}
use Rattle.std.proofs.Common.{sym, ap, subst, ◌∙◌}
use Rattle.tree_forest.specs.Forest.{Forest, end, node, Tree, tree, Lookup, absent, present, find, set, Above, Rising, RisingTree, measure, map_forest}
use Rattle.tree_forest.specs.ForestLaws.{find-map, map-set, Combining}
use Rattle.scalar.specs.Value.{Value}
use Rattle.network_syntax.specs.Syntax.{Mark, mark, Types, MessageType}
use Rattle.check_subtyping.specs.Subtype.{ChildSubtype, in_neither, Subtypes, Subtype}
use Rattle.check_subtyping.proofs.SubtypeLaws.{child-cast, child-basics, child-below, in-both, subtypes-set, subtypes-complete}
use Rattle.check_subtyping.proofs.SubtypeLaws.{subtype-sound, subtype-complete, measure-sub}
use Rattle.check_subtyping.specs.Own.{own_mark, own_types, own_type, own_lookup, Fits, fits}

-- An own type is mandatory, so its ≤ as a child is its ≤ as a type.
pub own-child : (x : Tree Value) (y : MessageType) → Subtype (own_type x) y → ChildSubtype (present (own_type x)) (present y)
own-child (tree v k) (tree (mark n c) l) h = in-both h.basics (λ t. tt) h.children.at

pub child-own : (x : Tree Value) (y : MessageType) → ChildSubtype (present (own_type x)) (present y) → Subtype (own_type x) y
child-own (tree v k) (tree (mark n c) l) h = record { basics = child-basics h; children = child-below h }

-- What stands at an id.
pub own_at : (F : Forest Value) {Γ : Types} → Subtypes (own_types F) Γ → (i : ℕ) → ChildSubtype (own_lookup (find i F)) (find i Γ)
own_at F h i = child-cast (find-map own_mark i F) refl (h.at i)

-- Both sides set at the same id.
pub own-set : (F : Forest Value) {Γ : Types} (j : ℕ) (x : Tree Value) {y : MessageType} → Subtypes (own_types F) Γ → Subtype (own_type x) y
    → Subtypes (own_types (set j x F)) (set j y Γ)
own-set F {Γ} j x {y} h s =
    subst (λ (z : Types). Subtypes z (set j y Γ)) (sym (map-set own_mark j x F)) (subtypes-set j h (own-child x y s))

pub own-end : Subtypes (own_types end) end
unfolding find map_forest
own-end = record { at = λ i. in_neither }

-- Ids of the own type rise where those of the tree do.
above-own : (i : ℕ) (F : Forest Value) → Above i F → Above i (own_types F)
unfolding map_forest
above-own i end h = tt
above-own i (node j a k r) h = h

pub own-rising : (F : Forest Value) → Rising F → Rising (own_types F)
unfolding map_forest Rising
own-rising end h = tt
own-rising (node i a k r) h = (above-own i r h.0, own-rising k h.1, own-rising r h.2)

module _ (g : ℕ → ℕ → ℕ) (G : Combining g) where
  pub measure-own : (F : Forest Value) → measure g (own_types F) ≡ measure g F
  unfolding measure map_forest
  measure-own end = refl
  measure-own (node i a k r) = rw (measure-own k, measure-own r)

  -- A tree whose own type is ≤ Γ has no more nodes and no more levels than Γ.
  pub tree-within : (F : Forest Value) (Γ : Types) → Rising F → Rising Γ → Subtypes (own_types F) Γ → measure g F ≤ measure g Γ
  tree-within F Γ wf wg h = rw measure-own at (measure-sub g G (own_types F) Γ (subtypes-complete (own_types F) Γ (own-rising F wf) wg h))

  -- A message that fits a type has, below its root, no more nodes and no more levels than the type.
  pub message-within : (v : Value) (k : Forest Value) (a : Mark) (l : Types) → Rising k → Rising l → Fits (tree v k) (tree a l)
      → measure g k ≤ measure g l
  message-within v k a l wk wl h = tree-within k l wk wl h.children

-- The test of fitting is the relation.
pub fits-sound : (m : Tree Value) (t : MessageType) → T (fits m t) → Fits m t
fits-sound m t h = subtype-sound (own_type m) t h

pub fits-complete : (m : Tree Value) (t : MessageType) → RisingTree m → RisingTree t → Fits m t → T (fits m t)
fits-complete (tree v k) t wm wt h = subtype-complete (own_type (tree v k)) t (own-rising k wm) wt h
