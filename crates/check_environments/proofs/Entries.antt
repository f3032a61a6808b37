-- The nodes of an environment in preorder, at each of the ways out of the code.
use mathlib.Core.Path.{◌≡◌, refl, ap, sym, ◌∙◌}
use mathlib.Core.List.{List, [], ◌∷◌, ◌++◌}
use mathlib.Core.Bool.{Bool, true, false}
use Prim.Native.Nat.{ℕ, zero, suc, ◌+◌, ◌-◌, ◌*◌, ◌/◌, ◌≤◌, ◌<◌}
use native.Mathlib.Omega.{arith}
use lib.ListN.{length, set, replicate, length-append}
use Rattle.basics.specs.TestLaws.{one_less}
use Rattle.tree_forest.specs.Forest.{end, node, tree, measure, nodes, levels, map_forest}
use Rattle.scalar.specs.Basic.{void}
use Rattle.scalar.specs.Value.{value}
use Rattle.network_syntax.specs.Syntax.{mark, Types}
use Rattle.tree.specs.Encode.{root_count, encode}
use Rattle.tree.specs.EncodeLaws.{length-node}
use Rattle.tree.specs.Decode.{head_at}
use Rattle.tree.specs.Standing.{Row, Ended}
use Rattle.tree.specs.StandingLaws.{row-root, row-kids, row-rest, root-kids, root-seen, root-unseen, row_moved}
use Rattle.tree.specs.declared.Head.{Head}
use Rattle.check_types.specs.Image.{flag, image, type_head_at}
use Rattle.check_types.specs.ImageLaws.{type-seen, type-unseen, length-image, mark-back}
use Rattle.check_types.specs.declared.TypeHead.{TypeHead}
use Rattle.check_environments.specs.declared.Environment.{Environment}
use Rattle.check_environments.specs.declared.Entry.{Entry}
use Rattle.check_environments.specs.Environment.{tree_of}
use Rattle.check_environments.specs.EnvironmentLaws.{stands-root, length-preorder}
use Rattle.check_environments.specs.Listing.{entry_at, preorder, node_in, Lists, ListsFrom}
use Rattle.std.specs.Prelude.{Option, Some, None}
use Rattle.tree.specs.Decode.{header}
use Rattle.check_types.specs.Image.{type_header}

-- ---- lists

get_first : (l t : List Entry) (i : ℕ) → i < length l → node_in (l ++ t) i ≡ node_in l i
unfolding node_in
get_first [] t i h = absurd (omega arith)
get_first (x ∷ l) t zero h = refl
get_first (x ∷ l) t (suc i) h = get_first l t i (omega arith)

get-second : (l t : List Entry) (i j : ℕ) → i ≡ length l + j → node_in (l ++ t) i ≡ node_in t j
unfolding node_in
get-second [] t i j h = let e : i ≡ j = omega arith in ap (node_in t) e
get-second (x ∷ l) t zero j h = absurd (omega arith)
get-second (x ∷ l) t (suc i) j h = get-second l t i j (omega arith)

get-later : (x : Entry) (l : List Entry) (i j : ℕ) → i ≡ suc j → node_in (x ∷ l) i ≡ node_in l j
unfolding node_in
get-later x l i j e = rw e refl

-- the next id of a path
set_next : (above : List ℕ) (d n i : ℕ) → d ≡ length above → set (above ++ replicate (suc n) 0) d i ≡ (above ++ (i ∷ [])) ++ replicate n 0
set_next [] d n i e = rw e refl
set_next (a ∷ above) zero n i e = absurd (omega arith)
set_next (a ∷ above) (suc d) n i e = ap (λ (l : List ℕ). a ∷ l) (set_next above d n i (omega arith))

length-next : (above : List ℕ) (i : ℕ) → length (above ++ (i ∷ [])) ≡ length above + 1
length-next above i = length-append above (i ∷ [])

path-next : (above ids : List ℕ) (d i : ℕ) → ids ≡ above ++ replicate (6 - length above) 0 → d ≡ length above → d < 6 →
    set ids d i ≡ (above ++ (i ∷ [])) ++ replicate (6 - length (above ++ (i ∷ []))) 0
path-next above ids d i e q l =
    let p : 6 - length above ≡ suc (6 - (length above + 1)) = omega arith in
    ap (λ (z : List ℕ). set z d i) (e ∙ ap (λ (z : ℕ). above ++ replicate z 0) p) ∙ set_next above d (6 - (length above + 1)) i q
    ∙ ap (λ (z : ℕ). (above ++ (i ∷ [])) ++ replicate (6 - z) 0) (sym (length-next above i))

entry-is : (path ids : List ℕ) (d : ℕ) (m n : Bool) (b c : ℕ) → ids ≡ path ++ replicate (6 - length path) 0 → d ≡ length path → mark m b ≡ mark n c →
    record { ids = ids; depth = d; mandatory = m; basic = b } ≡ entry_at path n c
entry-is path ids d m n b c e q h = let x : m ≡ n = cc in let y : b ≡ c = cc in rw (e, q, x, y) refl

-- ---- the ways out of entry_from

module _ (s : List ℕ) (at n i : ℕ) (ids : List ℕ) (depth : ℕ) (x : Option Entry) where
  pub list-none : n ≡ 0 → x ≡ None → ListsFrom s at n i ids depth x
  unfolding root_count map_forest preorder node_in
  list-none z q = record { tells = go }
    where
      go : (Γ : Types) (above : List ℕ) → Row s at (image Γ) → root_count (image Γ) ≡ n → ids ≡ above ++ replicate (6 - length above) 0 → depth ≡ length above → depth + levels Γ ≤ 6 →
          x ≡ node_in (preorder above Γ) i
      go end above w e p d l = q
      go (node j a k r) above w e p d l = absurd (omega arith)

  module _ (z : n ≡ 0 → ⊥) (h : Option TypeHead) (hp : h ≡ type_head_at false s at) where
    pub list-fault : h ≡ None → ListsFrom s at n i ids depth x
    unfolding root_count map_forest
    list-fault q = record { tells = go }
      where
        go : (Γ : Types) (above : List ℕ) → Row s at (image Γ) → root_count (image Γ) ≡ n → ids ≡ above ++ replicate (6 - length above) 0 → depth ≡ length above → depth + levels Γ ≤ 6 →
            x ≡ node_in (preorder above Γ) i
        go end above w e p d l = absurd (z (sym e))
        go (node j (mark m b) k r) above w e p d l = type-unseen false s at j 5 (flag m ∷ b ∷ []) (image k) (image r) w h hp q

    pub list-deep : 5 < depth → ListsFrom s at n i ids depth x
    unfolding root_count map_forest measure
    list-deep o = record { tells = go }
      where
        go : (Γ : Types) (above : List ℕ) → Row s at (image Γ) → root_count (image Γ) ≡ n → ids ≡ above ++ replicate (6 - length above) 0 → depth ≡ length above → depth + levels Γ ≤ 6 →
            x ≡ node_in (preorder above Γ) i
        go end above w e p d l = absurd (z (sym e))
        go (node j a k r) above w e p d l = absurd (omega arith)

    module _ (head : TypeHead) (q : h ≡ Some head) (o : depth ≤ 5) (e : ℕ) (en : Ended s at e) where
      ends_at : (j : ℕ) (m : Bool) (g : ℕ) (k r : Types) → Row s at (node j (value 5 (flag m ∷ g ∷ [])) (image k) (image r)) → e ≡ at + 7 * (1 + nodes k)
      unfolding encode
      ends_at j m g k r w =
          en.ends j (tree (value 5 (flag m ∷ g ∷ [])) (image k)) (row-root s at j 5 (flag m ∷ g ∷ []) (image k) (image r) w)
          ∙ omega (arith, length-node j 5 (flag m ∷ g ∷ []) (image k) end, length-image k)

      pub list_back : e < at → ListsFrom s at n i ids depth x
      unfolding root_count map_forest
      list_back l' = record { tells = go }
        where
          go : (Γ : Types) (above : List ℕ) → Row s at (image Γ) → root_count (image Γ) ≡ n → ids ≡ above ++ replicate (6 - length above) 0 → depth ≡ length above → depth + levels Γ ≤ 6 →
              x ≡ node_in (preorder above Γ) i
          go end above w ce p d l = absurd (z (sym ce))
          go (node j (mark m g) k r) above w ce p d l = absurd (omega (arith, ends_at j m g k r w))

      head-is : (j : ℕ) (m : Bool) (g : ℕ) (k r : Types) → Row s at (node j (value 5 (flag m ∷ g ∷ [])) (image k) (image r)) → (head.id ≡ j) × (mark head.mandatory head.basic ≡ mark m g)
      head-is j m g k r w =
          let u = type-seen false s at j 5 (flag m ∷ g ∷ []) (image k) (image r) w h head.id head.mandatory head.basic head.count head.start hp q in
          (u.id, u.type ∙ mark-back (mark m g))

      path-is : (above : List ℕ) (j : ℕ) → head.id ≡ j → ids ≡ above ++ replicate (6 - length above) 0 → depth ≡ length above →
          set ids depth head.id ≡ (above ++ (j ∷ [])) ++ replicate (6 - length (above ++ (j ∷ []))) 0
      path-is above j e1 p d = ap (set ids depth) e1 ∙ path-next above ids depth j p d (omega arith)

      pub list-here : i ≡ 0 → x ≡ Some (record { ids = set ids depth head.id; depth = depth + 1; mandatory = head.mandatory; basic = head.basic }) → ListsFrom s at n i ids depth x
      unfolding root_count map_forest preorder node_in
      list-here i0 xe = record { tells = go }
        where
          go : (Γ : Types) (above : List ℕ) → Row s at (image Γ) → root_count (image Γ) ≡ n → ids ≡ above ++ replicate (6 - length above) 0 → depth ≡ length above → depth + levels Γ ≤ 6 →
              x ≡ node_in (preorder above Γ) i
          go end above w ce p d l = absurd (z (sym ce))
          go (node j (mark m g) k r) above w ce p d l =
              let hd = head-is j m g k r w in
              let dn : depth + 1 ≡ length (above ++ (j ∷ [])) = omega (arith, length-next above j) in
              xe ∙ ap (λ (y : Entry). Some y) (entry-is (above ++ (j ∷ [])) (set ids depth head.id) (depth + 1) head.mandatory m head.basic g (path-is above j hd.0 p d) dn hd.1)
              ∙ ap (node_in (preorder above (node j (mark m g) k r))) (sym i0)

      module _ (i0 : i ≡ 0 → ⊥) (l0 : at ≤ e) where
        pub list-below : i < (e - at) / 7 → ListsFrom s head.start head.count (i - 1) (set ids depth head.id) (depth + 1) x → ListsFrom s at n i ids depth x
        unfolding root_count map_forest preorder measure
        list-below lt ih = record { tells = go }
          where
            go : (Γ : Types) (above : List ℕ) → Row s at (image Γ) → root_count (image Γ) ≡ n → ids ≡ above ++ replicate (6 - length above) 0 → depth ≡ length above → depth + levels Γ ≤ 6 →
                x ≡ node_in (preorder above Γ) i
            go end above w ce p d l = absurd (z (sym ce))
            go (node j (mark m g) k r) above w ce p d l =
                let hd = head-is j m g k r w in
                let u = type-seen false s at j 5 (flag m ∷ g ∷ []) (image k) (image r) w h head.id head.mandatory head.basic head.count head.start hp q in
                let dn : depth + 1 ≡ length (above ++ (j ∷ [])) = omega (arith, length-next above j) in
                let ea = ends_at j m g k r w in
                let is = one_less i i0 in
                let less : i - 1 < length (preorder (above ++ (j ∷ [])) k) = omega (arith, length-preorder k (above ++ (j ∷ []))) in
                ih.tells k (above ++ (j ∷ [])) (row_moved s head.start _ (image k) u.next (row-kids s at j 5 (flag m ∷ g ∷ []) (image k) (image r) w)) (sym u.kids)
                (path-is above j hd.0 p d) dn (omega arith)
                ∙ sym (get_first (preorder (above ++ (j ∷ [])) k) (preorder above r) (i - 1) less)
                ∙ sym (get-later (entry_at (above ++ (j ∷ [])) m g) (preorder (above ++ (j ∷ [])) k ++ preorder above r) i (i - 1) is)

        pub list-past : (e - at) / 7 ≤ i → ListsFrom s e (n - 1) (i - (e - at) / 7) ids depth x → ListsFrom s at n i ids depth x
        unfolding root_count map_forest preorder measure
        list-past le ih = record { tells = go }
          where
            go : (Γ : Types) (above : List ℕ) → Row s at (image Γ) → root_count (image Γ) ≡ n → ids ≡ above ++ replicate (6 - length above) 0 → depth ≡ length above → depth + levels Γ ≤ 6 →
                x ≡ node_in (preorder above Γ) i
            go end above w ce p d l = absurd (z (sym ce))
            go (node j (mark m g) k r) above w ce p d l =
                let ea = ends_at j m g k r w in
                let en' = en.ends j (tree (value 5 (flag m ∷ g ∷ [])) (image k)) (row-root s at j 5 (flag m ∷ g ∷ []) (image k) (image r) w) in
                let size : (e - at) / 7 ≡ 1 + nodes k = omega arith in
                let is : i ≡ suc (i - 1) = omega arith in
                let js : i - 1 ≡ length (preorder (above ++ (j ∷ [])) k) + (i - (e - at) / 7) = omega (arith, length-preorder k (above ++ (j ∷ []))) in
                ih.tells r above (row_moved s e _ (image r) en' (row-rest s at j 5 (flag m ∷ g ∷ []) (image k) (image r) w)) (omega arith) p d (omega arith)
                ∙ sym (get-second (preorder (above ++ (j ∷ [])) k) (preorder above r) (i - 1) (i - (e - at) / 7) js)
                ∙ sym (get-later (entry_at (above ++ (j ∷ [])) m g) (preorder (above ++ (j ∷ [])) k ++ preorder above r) i (i - 1) is)

pub ruleset list-laws = (list-none, list-fault, list-deep, list_back, list-here, list-below, list-past)

-- ---- from the root

module _ (e : Environment) (i : ℕ) (x : Option Entry) (h : Option Head) (p : h ≡ head_at e.bytes 0) where
  pub listed-fault : h ≡ None → Lists e i x
  listed-fault q = record { tells = λ Γ v. root-unseen e.bytes 0 0 (tree_of Γ) (stands-root e Γ v) h p q }

  pub listed-on : (top : Head) → h ≡ Some top → ListsFrom e.bytes top.start top.count i (replicate 6 0) 0 x → Lists e i x
  listed-on top q l = record {
    tells = λ Γ v.
        let r = stands-root e Γ v in
        let u = root-seen e.bytes 0 0 void [] (image Γ) r h top.id top.basic top.count top.start p q in
        l.tells Γ [] (row_moved e.bytes top.start _ (image Γ) u.next (root-kids e.bytes 0 0 void [] (image Γ) r)) (sym u.count) refl refl (omega (arith, v.shape.shallow));
  }

pub ruleset listed-laws = (listed-fault, listed-on)
