-- A message that fits one type fits another if the least messages of the one that it contains do: what is at fault in it is at fault in one of them.
use Rattle.std.specs.Prelude.{◌≡◌, refl, List, Bool, true, false, ℕ, zero, suc, ◌+◌, ◌<◌, ◌≤◌, T}
use Rattle.std.proofs.Common.{sym, ap, subst, ◌∙◌, arith}
use Rattle.tree_forest.specs.Compare.{Compare, lt, eq, gt, compare}
use Rattle.tree_forest.specs.Forest.{Forest, end, node, Tree, tree, Lookup, absent, present, find, find_by, Rising, RisingLookup, measure, nodes, map_lookup}
use Rattle.tree_forest.specs.ForestLaws.{find-map, rising-find}
use Rattle.scalar.specs.Value.{Value, value, basic_of}
use Rattle.tree.specs.Encode.{SoundValues, payload, children, Proper}
use Rattle.network_syntax.specs.Syntax.{Mark, mark, Types, MessageType}
use Rattle.check_subtyping.specs.Subtype.{ChildSubtype, Subtypes, Subtype, are_subtypes, root_basic, root_children}
use Rattle.check_subtyping.proofs.SubtypeLaws.{child-cast, child-basics, child-below, not-present-absent, subtypes-sound, subtypes-complete}
use Rattle.check_subtyping.specs.Own.{own_mark, own_types, own_type, own_lookup, Fits}
use Rattle.check_subtyping.proofs.OwnLaws.{own-child, own_at, own-rising}
use Rattle.counterexample_rules.specs.Contained.{Contained}
use Rattle.counterexample_rules.specs.ContainedLaws.{contained-absent}
use Rattle.counterexample_rules.specs.Breaking.{least_of, least_with}
use Rattle.counterexample_rules.specs.ChildLaws.{before, Numbered, numbered, least_holding, find-child, contained-least, contained-child}

pub none_found : {A X : Type 0} {t : Tree A} → absent ≡ present t → X
none_found e = let z : ◌≡◌ {A = ℕ} 0 1 = cc in absurd (omega arith)

-- What a child has that was found: fewer nodes, rising ids, sound values.
pub found-fewer : {A : Type 0} (x : ℕ) (K : Forest A) (a : A) (k : Forest A) → find x K ≡ present (tree a k) → nodes k < nodes K
unfolding find measure
found-fewer x end a k e = none_found e
found-fewer {A} x (node i b l r) a k e = go (compare x i) e (found-fewer x r a k)
  where
    same : {b : A} {l : Forest A} → present (tree b l) ≡ present (tree a k) → l ≡ k
    same e = cc

    go : (o : Compare x i) → find_by o (tree b l) (find x r) ≡ present (tree a k) → (find x r ≡ present (tree a k) → nodes k < nodes r)
        → nodes k < 1 + nodes l + nodes r
    go (lt h) e ih = none_found e
    go (eq h) e ih = subst (λ (z : Forest A). nodes z < 1 + nodes l + nodes r) (same e) (omega arith)
    go (gt h) e ih = omega (arith, ih e)

pub found-rising : {A : Type 0} (x : ℕ) (K : Forest A) (a : A) (k : Forest A) → Rising K → find x K ≡ present (tree a k) → Rising k
found-rising {A} x K a k w e = subst (λ (z : Lookup A). RisingLookup z) e (rising-find x K w)

found-sound : (x : ℕ) (F : Forest Value) (v : Value) (f : Forest Value) → SoundValues F → find x F ≡ present (tree v f) → SoundValues f
unfolding find SoundValues
found-sound x end v f w e = none_found e
found-sound x (node i b l r) v f w e = go (compare x i) e (found-sound x r v f w.4)
  where
    same : present (tree b l) ≡ present (tree v f) → l ≡ f
    same e = cc

    go : (o : Compare x i) → find_by o (tree b l) (find x r) ≡ present (tree v f) → (find x r ≡ present (tree v f) → SoundValues f) → SoundValues f
    go (lt h) e ih = none_found e
    go (eq h) e ih = subst SoundValues (same e) w.3
    go (gt h) e ih = ih e

-- The least siblings that F contains are ≤ L.
abbrev pub LeastFit : Types → Types → Forest Value → Type 0
LeastFit K L F = (j : ℕ) → j ≤ nodes K → Contained (least_with j K) F → Subtypes (own_types (least_with j K)) L

-- F is sound and fits K.
pub record FitsTypes (K : Types) (F : Forest Value) : Type 0 where
  pub rising : Rising F
  pub typed : Rising K
  pub sound : SoundValues F
  pub fitting : T (are_subtypes (own_types F) K)

module _ (K L : Types) (F : Forest Value) (w : FitsTypes K F) (h : LeastFit K L F)
    (below : (k l : Types) (f : Forest Value) → nodes k < nodes K → FitsTypes k f → LeastFit k l f → Subtypes (own_types f) l) (x : ℕ) where
  none : Contained (least_with 0 K) F
  none = contained-least F K w.sound w.fitting

  missing : find x F ≡ absent → ChildSubtype (find x (own_types F)) (find x L)
  missing e =
      let p : find x (own_types F) ≡ absent = find-map own_mark x F ∙ ap (map_lookup own_mark) e in
      let q : find x (own_types (least_with 0 K)) ≡ absent =
      find-map own_mark x (least_with 0 K) ∙ ap (map_lookup own_mark) (contained-absent x none w.rising e) in
      child-cast (q ∙ sym p) refl ((h 0 (omega arith) none).at x)

  module _ (v : Value) (f : Forest Value) (e : find x F ≡ present (tree v f))
      (m : Bool) (b : ℕ) (k : Types) (e_k : find x K ≡ present (tree (mark m b) k)) where
    child : ChildSubtype (present (own_type (tree v f))) (present (tree (mark m b) k))
    child = child-cast (ap own_lookup e) e_k (own_at F (subtypes-sound (own_types F) K w.fitting) x)

    suits : FitsTypes k f
    suits =
        let rf = found-rising x F v f w.rising e in
        let rk = found-rising x K (mark m b) k w.typed e_k in
        record {
          rising = rf;
          typed = rk;
          sound = found-sound x F v f w.sound e;
          fitting = subtypes-complete (own_types f) k (own-rising f rf) rk (child-below child);
        }

    -- with the child, and below it the node number j
    held : (j : ℕ) → j ≤ nodes k → Contained (least_with j k) f → ChildSubtype (present (tree (mark true b) (own_types (least_with j k)))) (find x L)
    held j l c =
        let y = numbered x j K m b k e_k l in
        let C = least_with (before x K + (1 + j)) K in
        let d : Contained C F =
        subst (λ (z : Forest Value). Contained z F) (sym y.is) (contained-child x (least_with j k) F K w.sound w.fitting v f e c) in
        let p : find x (own_types C) ≡ present (tree (mark true b) (own_types (least_with j k))) =
        find-map own_mark x C ∙ ap (map_lookup own_mark) (ap (find x) y.is ∙ find-child x (least_with j k) K m b k e_k) in
        child-cast p refl ((h (before x K + (1 + j)) y.inside d).at x)

    first : ChildSubtype (present (tree (mark true b) (own_types (least_with 0 k)))) (find x L)
    first = held 0 (omega arith) (contained-least f k suits.sound suits.fitting)

    shown : (y : Lookup Mark) → find x L ≡ y → ChildSubtype (present (own_type (tree v f))) y
    shown absent q = absurd (not-present-absent (child-cast refl q first))
    shown (present (tree (mark n c) l)) q =
        own-child (tree v f) (tree (mark n c) l)
        (record {
          basics = child-basics child ∙ child-basics (child-cast refl q first);
          children = below k l f (found-fewer x K (mark m b) k e_k) suits (λ j le d. child-below (child-cast refl q (held j le d)));
        })

  there : (v : Value) (f : Forest Value) → find x F ≡ present (tree v f) → (y : Lookup Mark) → find x K ≡ y
      → ChildSubtype (find x (own_types F)) (find x L)
  there v f e absent e_k = absurd (not-present-absent (child-cast (ap own_lookup e) e_k (own_at F (subtypes-sound (own_types F) K w.fitting) x)))
  there v f e (present (tree (mark m b) k)) e_k =
      child-cast (sym (find-map own_mark x F ∙ ap (map_lookup own_mark) e)) refl (shown v f e m b k e_k (find x L) refl)

  by-child : (y : Lookup Value) → find x F ≡ y → ChildSubtype (find x (own_types F)) (find x L)
  by-child absent e = missing e
  by-child (present (tree v f)) e = there v f e (find x K) refl

within : (n : ℕ) (K L : Types) (F : Forest Value) → nodes K ≤ n → FitsTypes K F → LeastFit K L F → Subtypes (own_types F) L
within zero K L F z w h =
    record { at = λ x. by-child K L F w h (λ k l f s v g. absurd (omega arith)) x (find x F) refl }
within (suc n) K L F z w h =
    record { at = λ x. by-child K L F w h (λ k l f s v g. within n k l f (omega arith) v g) x (find x F) refl }

pub least-decide : (K L : Types) (F : Forest Value) → FitsTypes K F → LeastFit K L F → Subtypes (own_types F) L
least-decide K L F w h = within (nodes K) K L F (omega arith) w h
