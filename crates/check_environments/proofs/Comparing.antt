-- Environments compared, whole and root by root, at each of the ways out of the code.
use mathlib.Core.Path.{◌≡◌, refl, ap, sym, subst, ◌∙◌}
use mathlib.Core.List.{List, [], ◌∷◌}
use mathlib.Core.Bool.{Bool, true, false, not, ◌&&◌}
use Prim.Native.Nat.{ℕ, ◌+◌, ◌-◌, ◌≤◌, ◌<◌}
use native.Mathlib.Omega.{arith}
use native.Mathlib.Numerals.{add-one}
use lib.ListN.{length, get_or, take, drop}
use lib.Pointwise.{pointwise, bytes_decides}
use lib.Seq.{get_or-take, get_or-drop, take-suc, take-take, take_all}
use lib.Dec.{T, eqb, eqb_refl}
use borrow.Author.Tests.{not-true, not-false, eqb-true, eqb-false}
use Rattle.basics.specs.TestLaws.{and_i, not-T-false, of_t}
use Rattle.tree_forest.specs.Forest.{end, node, Tree, tree, node_of, Lookup, absent, present, find, map_forest, map_tree, map_lookup}
use Rattle.tree_forest.specs.ForestLaws.{find-map}
use Rattle.scalar.specs.Value.{Value, value}
use Rattle.scalar.specs.Basic.{void}
use Rattle.network_syntax.specs.Syntax.{Mark, mark, Types, MessageType}
use Rattle.check_typing.specs.Rules.{same_bool}
use Rattle.check_typing.specs.Checker.{same_types}
use Rattle.check_typing.proofs.CheckerLaws.{same_bool-refl, same_types-eq, same_types-refl}
use Rattle.check_typing.specs.NetworkChecker.{same_tree, one_type_at, one_type}
use Rattle.tree.specs.Encode.{root_count, encode, rooted, WellFormedTree, children}
use Rattle.tree.specs.Decode.{head_at}
use Rattle.tree.specs.EncodeLaws.{of-good}
use Rattle.tree.specs.DecodeLaws.{encode_injective}
use Rattle.tree.specs.Standing.{Row, Root, Spot, Ended, Below}
use Rattle.tree.specs.StandingLaws.{row-root, row-rest, root-kids, root-inside, root-part, seen, unseen, root-seen, root-unseen, row_moved}
use Rattle.tree.specs.declared.Head.{Head}
use Rattle.check_types.specs.Image.{flag, mark_value, image, type_as}
use Rattle.check_types.specs.ImageLaws.{type-back}
use Rattle.check_environments.specs.declared.Environment.{Environment}
use Rattle.check_environments.specs.Environment.{tree_of, standing, EnvironmentFor}
use Rattle.check_environments.specs.EnvironmentLaws.{stands-root, root-once}
use Rattle.check_environments.specs.UnionLaws.{same-tree-eq}
use Rattle.check_environments.specs.Walk.{SameLists, SameParts, RootSame, OneFrom}
use Rattle.check_environments.specs.Tells.{SameEnvironments, OneTyped}
use Rattle.std.specs.Prelude.{Option, Some, None}
use Rattle.tree.specs.Decode.{header}

-- ---- one tree

same-tree-refl : (t : MessageType) → T (same_tree t t)
same-tree-refl (tree (mark m b) k) = and_i (same_bool m m) (eqb b b && same_types k k) (same_bool-refl m) (and_i (eqb b b) (same_types k k) (eqb_refl b) (same_types-refl k))

tells-by : (x y : Bool) → (x ≡ true → y ≡ true) → (x ≡ false → y ≡ false) → x ≡ y
tells-by true y f g = sym (f refl)
tells-by false y f g = sym (g refl)

same-tree-by : (t u : MessageType) (x : Bool) → (x ≡ true → t ≡ u) → (x ≡ false → t ≡ u → ⊥) → x ≡ same_tree t u
same-tree-by t u x f g =
    tells-by x (same_tree t u) (λ e. of_t (same_tree t u) (subst (λ (z : MessageType). T (same_tree t z)) (f e) (same-tree-refl t)))
    (λ e. not-T-false (same_tree t u) (λ h. g e (same-tree-eq t u h)))

same-types-by : (Γ Δ : Types) (x : Bool) → (x ≡ true → Γ ≡ Δ) → (x ≡ false → Γ ≡ Δ → ⊥) → x ≡ same_types Γ Δ
same-types-by Γ Δ x f g =
    tells-by x (same_types Γ Δ) (λ e. of_t (same_types Γ Δ) (subst (λ (z : Types). T (same_types Γ z)) (f e) (same_types-refl Γ)))
    (λ e. not-T-false (same_types Γ Δ) (λ h. g e (same_types-eq Γ Δ h)))

-- ---- whole environments

pub same-is : (e d : Environment) (x : Bool) → x ≡ pointwise eqb e.bytes d.bytes → SameEnvironments e d x
same-is e d x p = record { tells = go }
  where
    b : (pointwise eqb e.bytes d.bytes ≡ true → e.bytes ≡ d.bytes) × (e.bytes ≡ d.bytes → pointwise eqb e.bytes d.bytes ≡ true)
    b = bytes_decides e.bytes d.bytes

    go : (Γ Δ : Types) → EnvironmentFor e Γ → EnvironmentFor d Δ → x ≡ same_types Γ Δ
    go Γ Δ v w = same-types-by Γ Δ x yes no
      where
        yes : x ≡ true → Γ ≡ Δ
        yes q = root-once d.bytes Γ Δ (subst (λ (s : List ℕ). Root s 0 0 (tree_of Γ)) (b.0 (sym p ∙ q)) (stands-root e Γ v)) (stands-root d Δ w)

        no : x ≡ false → Γ ≡ Δ → ⊥
        no q r =
            let y = b.1 (ap (λ (z : Environment). z.bytes) (v.is ∙ ap standing r ∙ sym w.is)) in
            absurd (cc (y, p, q))

-- ---- one root

root-well-formed : (s : List ℕ) (at i : ℕ) (t : Tree Value) → Root s at i t → WellFormedTree 6 48 t
root-well-formed s at i t w =
    let f = of-good (children t) 6 0 w.good in
    record { root = w.proper; sound = f.sound; rising = f.rising; shallow = f.shallow; few = w.small }

node-same : (i : ℕ) (t u : Tree Value) → encode (node_of i t end) ≡ encode (node_of i u end) → encode (rooted t) ≡ encode (rooted u)
unfolding encode
node-same i (tree (value b v) ks) (tree (value c w) ls) e = cc

value_same : (t u : MessageType) → map_tree mark_value t ≡ map_tree mark_value u → t ≡ u
value_same t u e = sym (type-back t) ∙ ap (type_as false) e ∙ type-back u

found-value : (l : Lookup Mark) (t : Tree Value) → map_lookup mark_value l ≡ present t → (u : MessageType) × (l ≡ present u) × (t ≡ map_tree mark_value u)
found-value absent t e = absurd (let z : ◌≡◌ {A = ℕ} 0 1 = cc in omega arith)
found-value (present u) t e = (u, refl, cc)

found_none : (l : Lookup Mark) → map_lookup mark_value l ≡ absent → l ≡ absent
found_none absent e = refl
found_none (present u) e = cc

module _ (s : List ℕ) (at e i : ℕ) (d : List ℕ) (y : Option ℕ) (b : Below d 0 i y) where
  spot-as : (y' : Option ℕ) → y ≡ y' → (Δ : Types) → Root d 0 0 (tree_of Δ) → Spot d i y' (find i (image Δ))
  spot-as y' z Δ w = subst (λ (v : Option ℕ). Spot d i v (find i (image Δ))) z (b.tells 0 (tree_of Δ) w)

  pub root-free : y ≡ None → RootSame s at e i d true
  root-free z = record {
    tells = λ t Δ v le w. sym (ap (one_type_at t) (found_none (find i Δ) (sym (find-map mark_value i Δ) ∙ spot-as None z Δ w)));
  }

  pub root-bound : (p : ℕ) → y ≡ Some p → (q : ℕ) → Ended d p q → (x : Bool) → SameParts s at e d p q x → RootSame s at e i d x
  root-bound p z q en x h = record { tells = go }
    where
      go : (t : MessageType) (Δ : Types) → Root s at i (map_tree mark_value t) → e ≡ at + length (encode (node_of i (map_tree mark_value t) end)) → Root d 0 0 (tree_of Δ) →
          x ≡ one_type_at t (find i Δ)
      go t Δ v le w =
          let st = spot-as (Some p) z Δ w in
          let fu = found-value (find i Δ) st.there (sym (find-map mark_value i Δ) ∙ st.is) in
          let u = fu.0 in
          let ru : Root d p i (map_tree mark_value u) = subst (Root d p i) fu.2 st.root in
          let lq = en.ends i (map_tree mark_value u) ru in
          let it = root-inside s at i (map_tree mark_value t) v in
          let iu = root-inside d p i (map_tree mark_value u) ru in
          let sl = h.tells (omega arith) (omega arith) (omega arith) (omega arith) in
          let pt = root-part s at e i (map_tree mark_value t) v le in
          let pu = root-part d p q i (map_tree mark_value u) ru lq in
          same-tree-by t u x
          (λ k. value_same t u (encode_injective 6 48 6 48 (map_tree mark_value t) (map_tree mark_value u) (root-well-formed s at i (map_tree mark_value t) v)
          (root-well-formed d p i (map_tree mark_value u) ru) (node-same i (map_tree mark_value t) (map_tree mark_value u) (sym pt ∙ sl.yes k ∙ pu))))
          (λ k r. sl.no k (pt ∙ ap (λ (n : MessageType). encode (node_of i (map_tree mark_value n) end)) r ∙ sym pu))
          ∙ sym (ap (one_type_at t) fu.1)

pub ruleset root_laws = (root-free, root-bound)

-- ---- root by root

module _ (s : List ℕ) (at n : ℕ) (d : List ℕ) where
  pub one_none : n ≡ 0 → OneFrom s at n d true
  unfolding root_count map_forest one_type
  one_none z = record { tells = go }
    where
      go : (Γ Δ : Types) → Row s at (image Γ) → root_count (image Γ) ≡ n → Root d 0 0 (tree_of Δ) → true ≡ one_type Γ Δ
      go end Δ w e v = refl
      go (node i a k r) Δ w e v = absurd (omega arith)

  module _ (z : n ≡ 0 → ⊥) (h : Option Head) (p : h ≡ head_at s at) where
    pub one-fault : h ≡ None → OneFrom s at n d false
    unfolding root_count map_forest
    one-fault q = record { tells = go }
      where
        go : (Γ Δ : Types) → Row s at (image Γ) → root_count (image Γ) ≡ n → Root d 0 0 (tree_of Δ) → false ≡ one_type Γ Δ
        go end Δ w e v = absurd (z (sym e))
        go (node i (mark m b) k r) Δ w e v = unseen s at i 5 (flag m ∷ b ∷ []) (image k) (image r) w h p q

    module _ (top : Head) (q : h ≡ Some top) (e : ℕ) (en : Ended s at e) (x : Bool) (rs : RootSame s at e top.id d x) where
      first : (j : ℕ) (f : Bool) (g : ℕ) (k r Δ : Types) → Row s at (node j (value 5 (flag f ∷ g ∷ [])) (image k) (image r)) → Root d 0 0 (tree_of Δ) →
          x ≡ one_type_at (tree (mark f g) k) (find j Δ)
      first j f g k r Δ w v =
          let o = seen s at j 5 (flag f ∷ g ∷ []) (image k) (image r) w h top.id top.basic top.count top.start p q in
          let rt = row-root s at j 5 (flag f ∷ g ∷ []) (image k) (image r) w in
          let ri = subst (λ (y : ℕ). Root s at y (map_tree mark_value (tree (mark f g) k))) (sym o.id) rt in
          rs.tells (tree (mark f g) k) Δ ri (en.ends top.id (map_tree mark_value (tree (mark f g) k)) ri) v ∙ ap (λ (y : ℕ). one_type_at (tree (mark f g) k) (find y Δ)) o.id

      pub one-differs : x ≡ false → OneFrom s at n d false
      unfolding root_count map_forest one_type
      one-differs nx = record { tells = go }
        where
          go : (Γ Δ : Types) → Row s at (image Γ) → root_count (image Γ) ≡ n → Root d 0 0 (tree_of Δ) → false ≡ one_type Γ Δ
          go end Δ w ce v = absurd (z (sym ce))
          go (node j (mark f g) k r) Δ w ce v = sym (ap (λ (y : Bool). y && one_type r Δ) (sym (first j f g k r Δ w v) ∙ nx))

      pub one_on : x ≡ true → (y : Bool) → OneFrom s e (n - 1) d y → OneFrom s at n d y
      unfolding root_count map_forest one_type
      one_on nx y ih = record { tells = go }
        where
          go : (Γ Δ : Types) → Row s at (image Γ) → root_count (image Γ) ≡ n → Root d 0 0 (tree_of Δ) → y ≡ one_type Γ Δ
          go end Δ w ce v = absurd (z (sym ce))
          go (node j (mark f g) k r) Δ w ce v =
              let rt = row-root s at j 5 (flag f ∷ g ∷ []) (image k) (image r) w in
              let le = en.ends j (map_tree mark_value (tree (mark f g) k)) rt in
              ih.tells r Δ (row_moved s e _ (image r) le (row-rest s at j 5 (flag f ∷ g ∷ []) (image k) (image r) w)) (omega arith) v
              ∙ sym (ap (λ (b : Bool). b && one_type r Δ) (sym (first j f g k r Δ w v) ∙ nx))

pub ruleset one_laws = (one_none, one-fault, one-differs, one_on)

module _ (e d : Environment) (h : Option Head) (p : h ≡ head_at e.bytes 0) where
  pub typed-fault : h ≡ None → OneTyped e d false
  typed-fault q = record { tells = λ Γ Δ v w. root-unseen e.bytes 0 0 (tree_of Γ) (stands-root e Γ v) h p q }

  pub typed-on : (top : Head) → h ≡ Some top → (x : Bool) → OneFrom e.bytes top.start top.count d.bytes x → OneTyped e d x
  typed-on top q x o = record {
    tells = λ Γ Δ v w.
        let r = stands-root e Γ v in
        let u = root-seen e.bytes 0 0 void [] (image Γ) r h top.id top.basic top.count top.start p q in
        o.tells Γ Δ (row_moved e.bytes top.start _ (image Γ) u.next (root-kids e.bytes 0 0 void [] (image Γ) r)) (sym u.count) (stands-root d Δ w);
  }

pub ruleset typed-laws = (typed-fault, typed-on)
