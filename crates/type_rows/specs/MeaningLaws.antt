-- The types of a text of the grammar are well-ranged, and as large as its lists of children say.
use Prim.Native.Nat.{ℕ, suc, ◌+◌, ◌≤◌, ◌<◌, max}
use Rattle.std.specs.Prelude.{◌≡◌, Bool, true, false, ◌||◌, length, ltb}
use Rattle.std.proofs.Math.Path.{refl, ap}
use Rattle.std.proofs.Common.{sym, ◌∙◌, length-append}
use mathlib.Core.List.{List, [], ◌∷◌, ◌++◌}
use native.Mathlib.Omega.{arith}
use Rattle.basics.specs.Choice.{pick}
use Rattle.basics.specs.TestLaws.{clash}
use Rattle.scalar.specs.Basic.{last_basic}
use Rattle.tree_forest.specs.Compare.{Compare, lt, eq, gt, compare}
use Rattle.tree_forest.specs.Limits.{message_nodes_below, message_levels_below}
use Rattle.tree_forest.specs.Forest.{end, node, Tree, tree, absent, find_by, find, set_by, set, Rising, RisingTree, measure, nodes, levels}
use Rattle.tree_forest.specs.ForestLaws.{find-set-other, rising-set}
use Rattle.tree.specs.Encode.{root_count, children}
use Rattle.network_syntax.specs.Syntax.{Mark, mark, basic, Types, MessageType}
use Rattle.network.specs.Shapes.{NodesShape, TreeNodesShape}
use Rattle.type_text.specs.Spelling.{Token}
use Rattle.type_text.specs.Grammar.{same_word, among, Children, no_more, written, named, Declaration, declaration, TreeFrom, leaf_tree, braced_tree}
use Rattle.type_text.specs.Grammar.{ChildrenFrom, no_child, written_child, named_child, DeclarationsFrom, no_declaration, one_declaration}
use Rattle.type_text.proofs.ReaderLaws.{same-word-self}
use Rattle.type_text.specs.Meaning.{names_in, child_names, id_names, id_of, NamedType, named_type, type_named, as_child, forest_from, type_from, types_from, types_of}
use Rattle.type_text.specs.Sizes.{nodes_in, levels_in, roots_in}
use Rattle.type_text.specs.TypeRows.{rows_in, row_count, is_too_large}
use Rattle.type_rows.specs.Ranged.{WellRanged, IdsUpTo, EachType}
use Rattle.type_rows.specs.WordLaws.{neither, among_first, among_later, among-left, among-right, id-positive, id-bounded, id-once}
use Rattle.type_rows.specs.WordLaws.{in-first-uses, first-uses-few}

-- ---- what the rules say of a list of children

-- Each name has an id and none of `seen`, none is repeated in its list, and basic types are 0 to 6.
unfoldable pub ProperList : List (List ℕ) → List (List ℕ) → Children → Type 0
ProperList ids seen no_more = Unit {0}
ProperList ids seen (written n m b c d) =
    (among n ids ≡ true) × (among n seen ≡ false) × (b ≤ last_basic) × ProperList ids [] c × ProperList ids (n ∷ seen) d
ProperList ids seen (named n m t d) = (among n ids ≡ true) × (among n seen ≡ false) × ProperList ids (n ∷ seen) d

unfoldable pub ProperAll : List (List ℕ) → List Declaration → Type 0
ProperAll ids [] = Unit {0}
ProperAll ids (declaration n b c ∷ ds) = (b ≤ last_basic) × ProperList ids [] c × ProperAll ids ds

-- All words of a list are among those that have ids.
abbrev Named : List (List ℕ) → List (List ℕ) → Type 0
Named ids l = (w : List ℕ) → among w l ≡ true → among w ids ≡ true

mutual
  unfolding names_in ProperList

  pub proper-tree : {types : List (List ℕ)} {b : ℕ} {c : Children} {l r : List Token} → TreeFrom types b c l r → (ids : List (List ℕ)) → Named ids (names_in c)
      → (b ≤ last_basic) × ProperList ids [] c
  proper-tree (leaf_tree x) ids h = (x.0, tt)
  proper-tree (braced_tree x e q) ids h = (x.0, proper-children q ids h)

  pub proper-children : {types seen : List (List ℕ)} {c : Children} {l r : List Token} → ChildrenFrom types seen c l r → (ids : List (List ℕ))
      → Named ids (names_in c) → ProperList ids seen c
  proper-children no_child ids h = tt
  proper-children (written_child {n = n} {c = c} {d = d} x f k t q) ids h =
      let p = proper-tree t ids (λ w e. h w (among_later w n (names_in c ++ names_in d) (among-left w (names_in c) (names_in d) e))) in (
        h n (among_first n (names_in c ++ names_in d)),
        f,
        p.0,
        p.1,
        proper-children q ids (λ w e. h w (among_later w n (names_in c ++ names_in d) (among-right w (names_in c) (names_in d) e))),
      )
  proper-children (named_child {n = n} {d = d} x f k t q) ids h =
      (h n (among_first n (names_in d)), f, proper-children q ids (λ w e. h w (among_later w n (names_in d) e)))

pub proper-all : {types : List (List ℕ)} {ds : List Declaration} {l : List Token} → DeclarationsFrom types ds l → (ids : List (List ℕ))
    → Named ids (child_names ds) → ProperAll ids ds
unfolding child_names ProperAll
proper-all no_declaration ids h = tt
proper-all (one_declaration {c = c} {ds = ds} x y z t q) ids h =
    let p = proper-tree t ids (λ w e. h w (among-left w (names_in c) (child_names ds) e)) in
    (p.0, p.1, proper-all q ids (λ w e. h w (among-right w (names_in c) (child_names ds) e)))

pub proper-text : {types : List (List ℕ)} (ds : List Declaration) {l : List Token} → DeclarationsFrom types ds l → ProperAll (id_names ds) ds
unfolding among
proper-text ds q = proper-all q (id_names ds) (λ w e. in-first-uses [] (child_names ds) w e refl)

-- ---- one tree put in

shape-set : (i : ℕ) (n : Tree Mark) (f : Types) → 0 < i → TreeNodesShape n → NodesShape f → NodesShape (set i n f)
unfolding set NodesShape
shape-set i (tree a k) end p h g = (p, h.0, h.1, tt)
shape-set i (tree a k) (node j b k2 r) p h g = go (compare i j) (shape-set i (tree a k) r p h g.3)
  where
    go : (c : Compare i j) → NodesShape (set i (tree a k) r) → NodesShape (set_by c (tree a k) b k2 r (set i (tree a k) r))
    go (lt e) ih = (p, h.0, h.1, g)
    go (eq e) ih = (g.0, h.0, h.1, g.3)
    go (gt e) ih = (g.0, g.1, g.2, ih)

ids_set : (m i : ℕ) (n : Tree Mark) (f : Types) → i ≤ m → IdsUpTo m (children n) → IdsUpTo m f → IdsUpTo m (set i n f)
unfolding set IdsUpTo
ids_set m i (tree a k) end p h g = (p, h, tt)
ids_set m i (tree a k) (node j b k2 r) p h g = go (compare i j) (ids_set m i (tree a k) r p h g.2)
  where
    go : (c : Compare i j) → IdsUpTo m (set i (tree a k) r) → IdsUpTo m (set_by c (tree a k) b k2 r (set i (tree a k) r))
    go (lt e) ih = (p, h, g)
    go (eq e) ih = (g.0, h, g.2)
    go (gt e) ih = (g.0, g.1, ih)

-- Put in where there is none, it is added: to a measure whose parts may change places, and to the roots.
measure-set : (g : ℕ → ℕ → ℕ) → ((x y z : ℕ) → g x (g y z) ≡ g y (g x z)) → (i : ℕ) (n : Tree Mark) (f : Types) → find i f ≡ absent
    → measure g (set i n f) ≡ g (1 + measure g (children n)) (measure g f)
unfolding set find measure
measure-set g s i (tree a k) end e = refl
measure-set g s i (tree a k) (node j b k2 r) e = go (compare i j) e (λ h. measure-set g s i (tree a k) r h)
  where
    go : (c : Compare i j) → find_by c (tree b k2) (find i r) ≡ absent
        → (find i r ≡ absent → measure g (set i (tree a k) r) ≡ g (1 + measure g k) (measure g r))
        → measure g (set_by c (tree a k) b k2 r (set i (tree a k) r)) ≡ g (1 + measure g k) (g (1 + measure g k2) (measure g r))
    go (lt l) h ih = refl
    go (eq l) h ih = absurd (let z : ◌≡◌ {A = ℕ} 0 1 = cc in omega arith)
    go (gt l) h ih = ap (g (1 + measure g k2)) (ih h) ∙ s (1 + measure g k2) (1 + measure g k) (measure g r)

pub nodes-set : (i : ℕ) (n : Tree Mark) (f : Types) → find i f ≡ absent → nodes (set i n f) ≡ suc (nodes (children n)) + nodes f
nodes-set i n f e = let h = measure-set ◌+◌ (λ x y z. omega arith) i n f e in omega arith

pub levels-set : (i : ℕ) (n : Tree Mark) (f : Types) → find i f ≡ absent → levels (set i n f) ≡ max (suc (levels (children n))) (levels f)
levels-set i n f e = let h = measure-set max (λ x y z. omega arith) i n f e in omega arith

pub roots-set : (i : ℕ) (n : Tree Mark) (f : Types) → find i f ≡ absent → root_count (set i n f) ≡ suc (root_count f)
unfolding set find root_count
roots-set i (tree a k) end e = refl
roots-set i (tree a k) (node j b k2 r) e = go (compare i j) e (λ h. roots-set i (tree a k) r h)
  where
    go : (c : Compare i j) → find_by c (tree b k2) (find i r) ≡ absent → (find i r ≡ absent → root_count (set i (tree a k) r) ≡ suc (root_count r))
        → root_count (set_by c (tree a k) b k2 r (set i (tree a k) r)) ≡ suc (suc (root_count r))
    go (lt l) h ih = refl
    go (eq l) h ih = absurd (let z : ◌≡◌ {A = ℕ} 0 1 = cc in omega arith)
    go (gt l) h ih = ap suc (ih h)

-- ---- no other name of the list has the id

-- What a forest of the names in `seen` has no tree for.
unfoldable pub FreshFor : List (List ℕ) → List (List ℕ) → Types → Type 0
FreshFor ids seen f = (w : List ℕ) → among w ids ≡ true → among w seen ≡ false → find (id_of ids w) f ≡ absent

pub fresh-end : (ids : List (List ℕ)) → FreshFor ids [] end
unfolding FreshFor find
fresh-end ids w h e = refl

pub fresh_set : (ids seen : List (List ℕ)) (f : Types) (v : List ℕ) (n : Tree Mark) → FreshFor ids seen f → FreshFor ids (v ∷ seen) (set (id_of ids v) n f)
unfolding FreshFor among
fresh_set ids seen f v n h w e g =
    let p = neither {a = same_word w v} g in
    let z : id_of ids w ≡ id_of ids v → ⊥ =
    λ i. clash (ap (same_word w) (sym (id-once ids w v e i)) ∙ same-word-self w) p.0 in
    find-set-other (id_of ids w) (id_of ids v) n f z ∙ h w e p.1

-- ---- the forest of a list of children

-- A type that is well-ranged, its ids up to m.
abbrev Kept : ℕ → MessageType → Type 0
Kept m t = WellRanged t × IdsUpTo m (children t)

record ForestKept (m : ℕ) (f : Types) : Type 0 where
  rising : Rising f
  shape : NodesShape f
  up_to : IdsUpTo m f

end_kept : (m : ℕ) → ForestKept m end
unfolding Rising NodesShape IdsUpTo
end_kept m = record { rising = tt; shape = tt; up_to = tt }

kept_set : (m i : ℕ) (n : Tree Mark) (f : Types) → 0 < i → i ≤ m → RisingTree n → TreeNodesShape n → IdsUpTo m (children n) → ForestKept m f
    → ForestKept m (set i n f)
kept_set m i n f p q r s u h = record {
  rising = rising-set i n f r h.rising;
  shape = shape-set i n f p s h.shape;
  up_to = ids_set m i n f q u h.up_to;
}

module _ (ids : List (List ℕ)) (known : List NamedType) (Known-kept : (t : List ℕ) → Kept (length ids) (type_named known t)) where
  child-kept : (w : List ℕ) (m : Bool) (u : MessageType) (f : Types) → among w ids ≡ true → Kept (length ids) u → ForestKept (length ids) f
      → ForestKept (length ids) (set (id_of ids w) (as_child m u) f)
  child-kept w m (tree a k) f e h g =
      kept_set (length ids) (id_of ids w) (tree (mark m (basic a)) k) f (id-positive ids w) (id-bounded ids w e) h.0.rising
      (h.0.each_node.0, h.0.each_node.1) h.1 g

  forest-kept : (c : Children) (seen : List (List ℕ)) (f : Types) → ProperList ids seen c → ForestKept (length ids) f
      → ForestKept (length ids) (forest_from ids known f c)
  unfolding forest_from ProperList
  forest-kept no_more seen f p h = h
  forest-kept (written n m b c d) seen f p h =
      let k = forest-kept c [] end p.3 (end_kept (length ids)) in
      forest-kept d (n ∷ seen) (set (id_of ids n) (tree (mark m b) (forest_from ids known end c)) f) p.4
      (kept_set (length ids) (id_of ids n) (tree (mark m b) (forest_from ids known end c)) f (id-positive ids n) (id-bounded ids n p.0)
      k.rising (p.2, k.shape) k.up_to h)
  forest-kept (named n m t d) seen f p h =
      forest-kept d (n ∷ seen) (set (id_of ids n) (as_child m (type_named known t)) f) p.2
      (child-kept n m (type_named known t) f p.0 (Known-kept t) h)

  type-kept : (b : ℕ) (c : Children) → b ≤ last_basic → ProperList ids [] c → Kept (length ids) (type_from ids known b c)
  type-kept b c h p =
      let k = forest-kept c [] end p (end_kept (length ids)) in
      (record { rising = k.rising; each_node = (h, k.shape); mandatory_root = refl }, k.up_to)

-- ---- sizes

-- How large a named type is below its root.
abbrev pub nodes_named : List NamedType → List ℕ → ℕ
nodes_named known t = nodes (children (type_named known t))

abbrev pub levels_named : List NamedType → List ℕ → ℕ
levels_named known t = levels (children (type_named known t))

child-below : (m : Bool) (u : MessageType) → children (as_child m u) ≡ children u
child-below m (tree a k) = refl

-- A forest f with the children of c put in.
pub record Grown (known : List NamedType) (f : Types) (c : Children) (h : Types) : Type 0 where
  pub nodes_are : nodes h ≡ nodes f + nodes_in (nodes_named known) c
  pub levels_are : levels h ≡ max (levels f) (levels_in (levels_named known) c)
  pub roots_are : root_count h ≡ root_count f + roots_in c

module _ (ids : List (List ℕ)) (known : List NamedType) where
  pub forest-grown : (c : Children) (seen : List (List ℕ)) (f : Types) → ProperList ids seen c → FreshFor ids seen f
      → Grown known f c (forest_from ids known f c)
  unfolding forest_from ProperList FreshFor nodes_in levels_in roots_in measure
  forest-grown no_more seen f p h = record { nodes_are = omega arith; levels_are = omega arith; roots_are = omega arith }
  forest-grown (written n m b c d) seen f p h =
      let x : Tree Mark = tree (mark m b) (forest_from ids known end c) in
      let e = h n p.0 p.1 in
      let k = forest-grown c [] end p.3 (fresh-end ids) in
      let g = forest-grown d (n ∷ seen) (set (id_of ids n) x f) p.4 (fresh_set ids seen f n x h) in
      record {
        nodes_are = let q = k.nodes_are in let o = g.nodes_are in let s = nodes-set (id_of ids n) x f e in omega arith;
        levels_are = let q = k.levels_are in let o = g.levels_are in let s = levels-set (id_of ids n) x f e in omega arith;
        roots_are = let o = g.roots_are in let s = roots-set (id_of ids n) x f e in omega arith;
      }
  forest-grown (named n m t d) seen f p h =
      let x : Tree Mark = as_child m (type_named known t) in
      let e = h n p.0 p.1 in
      let b = child-below m (type_named known t) in
      let g = forest-grown d (n ∷ seen) (set (id_of ids n) x f) p.2 (fresh_set ids seen f n x h) in
      record {
        nodes_are = let q = ap nodes b in let o = g.nodes_are in let s = nodes-set (id_of ids n) x f e in omega arith;
        levels_are = let q = ap levels b in let o = g.levels_are in let s = levels-set (id_of ids n) x f e in omega arith;
        roots_are = let o = g.roots_are in let s = roots-set (id_of ids n) x f e in omega arith;
      }

  module _ (c : Children) (p : ProperList ids [] c) where
    pub nodes-forest : nodes (forest_from ids known end c) ≡ nodes_in (nodes_named known) c
    unfolding measure
    nodes-forest = let h = (forest-grown c [] end p (fresh-end ids)).nodes_are in omega arith

    pub levels-forest : levels (forest_from ids known end c) ≡ levels_in (levels_named known) c
    unfolding measure
    levels-forest = let h = (forest-grown c [] end p (fresh-end ids)).levels_are in omega arith

    pub roots-forest : root_count (forest_from ids known end c) ≡ roots_in c
    unfolding root_count
    roots-forest = let h = (forest-grown c [] end p (fresh-end ids)).roots_are in omega arith

    -- The rows of a declaration, and whether it is too large.
    pub rows-forest : (b : ℕ) → rows_in (type_from ids known b c) ≡ suc (nodes_in (nodes_named known) c)
    unfolding rows_in
    rows-forest b = ap suc nodes-forest

    pub large-forest : (b : ℕ) → is_too_large (type_from ids known b c)
        ≡ ltb message_nodes_below (nodes_in (nodes_named known) c) || ltb message_levels_below (levels_in (levels_named known) c)
    unfolding is_too_large
    large-forest b = rw (nodes-forest, levels-forest) refl

-- Of one more type, declared after those.
pub nodes-known : (known : List NamedType) (v : List ℕ) (u : MessageType) (t : List ℕ)
    → nodes_named (named_type v u ∷ known) t ≡ pick (same_word t v) (nodes (children u)) (nodes_named known t)
unfolding type_named
nodes-known known v u t = go (same_word t v)
  where
    go : (x : Bool) → nodes (children (pick x u (type_named known t))) ≡ pick x (nodes (children u)) (nodes_named known t)
    go true = refl
    go false = refl

pub levels-known : (known : List NamedType) (v : List ℕ) (u : MessageType) (t : List ℕ)
    → levels_named (named_type v u ∷ known) t ≡ pick (same_word t v) (levels (children u)) (levels_named known t)
unfolding type_named
levels-known known v u t = go (same_word t v)
  where
    go : (x : Bool) → levels (children (pick x u (type_named known t))) ≡ pick x (levels (children u)) (levels_named known t)
    go true = refl
    go false = refl

-- ---- the types of declarations

none_kept : (m : ℕ) (t : List ℕ) → Kept m (type_named [] t)
unfolding type_named Rising NodesShape IdsUpTo
none_kept m t = (record { rising = tt; each_node = (omega arith, tt); mandatory_root = refl }, tt)

one_kept : (m : ℕ) (known : List NamedType) (v : List ℕ) (u : MessageType) → ((t : List ℕ) → Kept m (type_named known t)) → Kept m u
    → (t : List ℕ) → Kept m (type_named (named_type v u ∷ known) t)
unfolding type_named
one_kept m known v u h k t = go (same_word t v)
  where
    go : (x : Bool) → Kept m (pick x u (type_named known t))
    go true = k
    go false = h t

types-kept : (ids : List (List ℕ)) (ds : List Declaration) (known : List NamedType) → ((t : List ℕ) → Kept (length ids) (type_named known t))
    → ProperAll ids ds → EachType (Kept (length ids)) (types_from ids known ds)
unfolding types_from ProperAll EachType
types-kept ids [] known h p = tt
types-kept ids (declaration n b c ∷ ds) known h p =
    let k = type-kept ids known h b c p.0 p.1 in
    (k, types-kept ids ds (named_type n (type_from ids known b c) ∷ known) (one_kept (length ids) known n (type_from ids known b c) h k) p.2)

pub each_of : (P Q : MessageType → Type 0) → ((t : MessageType) → P t → Q t) → (ts : List MessageType) → EachType P ts → EachType Q ts
unfolding EachType
each_of P Q f [] h = tt
each_of P Q f (t ∷ ts) h = (f t h.0, each_of P Q f ts h.1)

module _ {types : List (List ℕ)} (ds : List Declaration) {l : List Token} (q : DeclarationsFrom types ds l) where
  text-kept : EachType (Kept (length (id_names ds))) (types_of ds)
  text-kept = types-kept (id_names ds) ds [] (λ t. none_kept (length (id_names ds)) t) (proper-text ds q)

  -- The types of a text are well-ranged, their ids those of its names.
  pub types-ranged : EachType WellRanged (types_of ds)
  types-ranged = each_of (Kept (length (id_names ds))) WellRanged (λ t h. h.0) (types_of ds) text-kept

  pub types-ids : EachType (λ t. IdsUpTo (length (id_names ds)) (children t)) (types_of ds)
  types-ids = each_of (Kept (length (id_names ds))) (λ t. IdsUpTo (length (id_names ds)) (children t)) (λ t h. h.1) (types_of ds) text-kept

-- ---- there are no more names than rows

names-nodes : (below : List ℕ → ℕ) (c : Children) → length (names_in c) ≤ nodes_in below c
unfolding names_in nodes_in
names-nodes below no_more = omega arith
names-nodes below (written n m b c d) =
    let x = names-nodes below c in let y = names-nodes below d in let e = length-append (names_in c) (names_in d) in omega arith
names-nodes below (named n m t d) = let y = names-nodes below d in omega arith

names-rows : (ids : List (List ℕ)) (ds : List Declaration) (known : List NamedType) → ProperAll ids ds
    → length (child_names ds) ≤ row_count (types_from ids known ds)
unfolding child_names types_from ProperAll row_count
names-rows ids [] known p = omega arith
names-rows ids (declaration n b c ∷ ds) known p =
    let x = names-rows ids ds (named_type n (type_from ids known b c) ∷ known) p.2 in
    let y = names-nodes (nodes_named known) c in let z = rows-forest ids known c p.1 b in
    let e = length-append (names_in c) (child_names ds) in omega arith

pub names-few : {types : List (List ℕ)} (ds : List Declaration) {l : List Token} → DeclarationsFrom types ds l
    → length (id_names ds) ≤ row_count (types_of ds)
names-few ds q =
    let x = first-uses-few [] (child_names ds) in let y = names-rows (id_names ds) ds [] (proper-text ds q) in omega arith
