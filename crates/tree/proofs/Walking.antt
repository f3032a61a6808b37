-- What the functions that walk over a tree find, one law for each way out.
use mathlib.Core.Path.{◌≡◌, refl, ap, sym, subst, ◌∙◌}
use mathlib.Core.List.{List, [], ◌∷◌}
use mathlib.Core.Bool.{Bool, true, false, and-true}
use Prim.Native.Nat.{ℕ, ◌+◌, ◌-◌, ◌≤◌, ◌<◌}
use native.Mathlib.Omega.{arith}
use lib.ListN.{length, get_or, drop, drop_of_length-le}
use lib.Dec.{eqb}
use borrow.Author.Tests.{eq-eqb, ne_eqb}
use Rattle.tree_forest.specs.Compare.{compare}
use Rattle.tree_forest.specs.Forest.{Forest, end, node, Tree, tree, absent, present, find}
use Rattle.tree_forest.specs.ForestLaws.{find-eq, find-lt, find-gt}
use Rattle.tree_forest.specs.Path.{read, read_steps}
use Rattle.scalar.specs.Value.{Value, value}
use Rattle.basics.specs.Choice.{pick}
use Rattle.tree.specs.Encode.{root_count, children, encode}
use Rattle.tree.specs.Decode.{head_at}
use Rattle.tree.specs.Ids.{steps, path_from_ids, all_zeros, ends_in_zeros, is_path, last_of, last_id}
use Rattle.tree.specs.IdsLaws.{steps-stop, steps_on}
use Rattle.tree.specs.Standing.{Row, Root, Stood, Spot, Ended, Sought, Below, Followed}
use Rattle.tree.specs.StandingLaws.{row-root, row-rest, root-kids, seen, unseen, root-seen, root-unseen}
use Rattle.tree.specs.declared.Head.{Head}
use Rattle.std.specs.Prelude.{Option, Some, None}

-- the sibling with an id
pub seek-none : (s : List ℕ) (at n id : ℕ) → n ≡ 0 → Sought s at n id None
seek-none s at n id z = record { tells = go }
  where
    go : (f : Forest Value) → Row s at f → root_count f ≡ n → find id f ≡ absent
    go end w e = unfold find in refl
    go (node i a ks rest) w e = absurd (unfold root_count in omega arith)

module _ (s : List ℕ) (at n id : ℕ) (z : n ≡ 0 → ⊥) (h : Option Head) (p : h ≡ head_at s at) where
  none : {A : Type 0} → root_count {A = Value} end ≡ n → A
  none e = absurd (z (sym (unfold root_count in e)))

  pub seek-fault : h ≡ None → Sought s at n id None
  seek-fault q = record { tells = go }
    where
      go : (f : Forest Value) → Row s at f → root_count f ≡ n → find id f ≡ absent
      go end w e = none e
      go (node i (value b v) ks rest) w e = unseen s at i b v ks rest w h p q

  module _ (y : Head) (q : h ≡ Some y) where
    pub seek-gap : id < y.id → Sought s at n id None
    seek-gap l = record { tells = go }
      where
        go : (f : Forest Value) → Row s at f → root_count f ≡ n → find id f ≡ absent
        go end w e = none e
        go (node i (value d v) ks rest) w e =
            let u = seen s at i d v ks rest w h y.id y.basic y.count y.start p q in
            unfold find in find-lt (compare id i) (omega (arith, u.id)) (tree (value d v) ks) (find id rest)

    pub seek-here : y.id ≡ id → Sought s at n id (Some at)
    unfolding find
    seek-here l = record { tells = go }
      where
        go : (f : Forest Value) → Row s at f → root_count f ≡ n → Stood s at id (find id f)
        go end w e = none e
        go (node i (value d v) ks rest) w e =
            let u = seen s at i d v ks rest w h y.id y.basic y.count y.start p q in
            let o : i ≡ id = sym u.id ∙ l in
            record {
              there = tree (value d v) ks;
              is = find-eq (compare id i) (sym o) (tree (value d v) ks) (find id rest);
              root = subst (λ (x : ℕ). Root s at x (tree (value d v) ks)) o (row-root s at i d v ks rest w);
            }

    pub seek-next : (x : ℕ) (r : Option ℕ) → y.id ≤ id → (y.id ≡ id → ⊥) → Ended s at x → Sought s x (n - 1) id r → Sought s at n id r
    seek-next x r l o t k = record { tells = go }
      where
        go : (f : Forest Value) → Row s at f → root_count f ≡ n → Spot s id r (find id f)
        go end w e = none e
        go (node i (value d v) ks rest) w e =
            let u = seen s at i d v ks rest w h y.id y.basic y.count y.start p q in
            let g : i < id = omega (arith, u.id, o) in
            let f : find id (node i (value d v) ks rest) ≡ find id rest = unfold find in find-gt (compare id i) g (tree (value d v) ks) (find id rest) in
            let ex : x ≡ at + length (encode (node i (value d v) ks end)) = t.ends i (tree (value d v) ks) (row-root s at i d v ks rest w) in
            let less : root_count rest ≡ n - 1 = unfold root_count in omega arith in
            subst (Spot s id r) (sym f) (k.tells rest (subst (λ (q : ℕ). Row s q rest) (sym ex) (row-rest s at i d v ks rest w)) less)

pub ruleset seek-laws = (seek-none, seek-fault, seek-gap, seek-here, seek-next)

-- the child with an id
module _ (s : List ℕ) (at id : ℕ) (h : Option Head) (p : h ≡ head_at s at) where
  pub down-fault : h ≡ None → Below s at id None
  down-fault q = record { tells = λ i t w. root-unseen s at i t w h p q }

  pub down-next : (y : Head) (r : Option ℕ) → h ≡ Some y → Sought s y.start y.count id r → Below s at id r
  down-next y r q k = record { tells = go }
    where
      go : (i : ℕ) (t : Tree Value) → Root s at i t → Spot s id r (find id (children t))
      go i (tree (value d v) ks) w =
          let u = root-seen s at i d v ks w h y.id y.basic y.count y.start p q in
          k.tells ks (subst (λ (x : ℕ). Row s x ks) (sym u.next) (root-kids s at i d v ks w)) (sym u.count)

pub ruleset down-laws = (down-fault, down-next)

-- a path, step by step
pub read-absent : (p : List ℕ) → read_steps {A = Value} p absent ≡ absent
unfolding read_steps find
read-absent [] = refl
read-absent (j ∷ p) = read-absent p

-- after k steps of the path the tree at `at` is where the rest of the path starts
pub record Reach (s : List ℕ) (at : ℕ) (ids : List ℕ) (k i : ℕ) (t : Tree Value) : Type 0 where
  pub id : ℕ
  pub there : Tree Value
  pub root : Root s at id there
  pub rest : read_steps (steps ids) (present t) ≡ read_steps (steps (drop k ids)) (present there)
  pub name : last_of i (steps ids) ≡ last_of id (steps (drop k ids))

pub record Reached (s ids : List ℕ) (at k : ℕ) : Type 0 where
  pub tells : (i : ℕ) (t : Tree Value) → Root s 0 i t → Reach s at ids k i t

pub follow-start : (s ids : List ℕ) → Reached s ids 0 0
follow-start s ids = record { tells = λ i t w. record { id = i; there = t; root = w; rest = refl; name = refl } }

-- the steps of a path that is one
path-read : (ids : List ℕ) (t : Tree Value) → is_path ids ≡ true → read_steps (steps ids) (present t) ≡ read (path_from_ids ids) (children t)
unfolding steps path_from_ids is_path read_steps
path-read [] t e = cc
path-read (i ∷ is) (tree a ks) e = by (eqb i 0) e
  where
    by : (b : Bool) → pick b false (ends_in_zeros is) ≡ true → read_steps (pick b [] (i ∷ steps is)) (present (tree a ks)) ≡ read_steps (steps is) (find i ks)
    by true e = cc
    by false e = refl

path-last : (ids : List ℕ) (i : ℕ) → is_path ids ≡ true → last_of i (steps ids) ≡ last_id (path_from_ids ids)
unfolding steps path_from_ids is_path last_of
path-last [] i e = cc
path-last (j ∷ is) i e = by (eqb j 0) e
  where
    by : (b : Bool) → pick b false (ends_in_zeros is) ≡ true → last_of i (pick b [] (j ∷ steps is)) ≡ last_of j (steps is)
    by true e = cc
    by false e = refl

arrived : (s ids : List ℕ) (at k : ℕ) → Reached s ids at k → steps (drop k ids) ≡ [] → Followed s ids (Some at)
unfolding read_steps last_of
arrived s ids at k h e = record { tells = go }
  where
    go : (i : ℕ) (t : Tree Value) → Root s 0 i t → is_path ids ≡ true → Stood s at (last_id (path_from_ids ids)) (read (path_from_ids ids) (children t))
    go i t w ok =
        let q = h.tells i t w in
        let n : last_of q.id (steps (drop k ids)) ≡ q.id = rw e refl in
        let f : read_steps (steps (drop k ids)) (present q.there) ≡ present q.there = rw e refl in
        record {
          there = q.there;
          is = sym (path-read ids t ok) ∙ q.rest ∙ f;
          root = subst (λ (x : ℕ). Root s at x q.there) (sym (sym (path-last ids i ok) ∙ q.name ∙ n)) q.root;
        }

turn : (ids : List ℕ) (k : ℕ) (t : Tree Value) → steps (drop k ids) ≡ get_or ids k 0 ∷ steps (drop (k + 1) ids) →
    read_steps (steps (drop k ids)) (present t) ≡ read_steps (steps (drop (k + 1) ids)) (find (get_or ids k 0) (children t))
unfolding read_steps
turn ids k (tree a ks) e = rw e refl

turn_last : (ids : List ℕ) (k i : ℕ) → steps (drop k ids) ≡ get_or ids k 0 ∷ steps (drop (k + 1) ids) → last_of i (steps (drop k ids)) ≡ last_of (get_or ids k 0) (steps (drop (k + 1) ids))
unfolding last_of
turn_last ids k i e = rw e refl

pub follow-stop : (s ids : List ℕ) (at k : ℕ) → length ids ≡ 4 → k < 4 → Reached s ids at k → get_or ids k 0 ≡ 0 → Followed s ids (Some at)
follow-stop s ids at k four n h z = arrived s ids at k h (steps-stop ids k (omega arith) z)

pub follow-end : (s ids : List ℕ) (at k : ℕ) → length ids ≡ 4 → 4 ≤ k → Reached s ids at k → Followed s ids (Some at)
unfolding steps
follow-end s ids at k four e h = arrived s ids at k h (rw (drop_of_length-le ids {i = k} (omega arith)) refl)

below_as : (s : List ℕ) (at id : ℕ) (r r' : Option ℕ) → r ≡ r' → Below s at id r → Below s at id r'
below_as s at id r r' e b = subst (Below s at id) e b

pub follow-gone : (s ids : List ℕ) (at k : ℕ) (r : Option ℕ) → length ids ≡ 4 → k < 4 → Reached s ids at k → (get_or ids k 0 ≡ 0 → ⊥) → Below s at (get_or ids k 0) r → r ≡ None → Followed s ids None
follow-gone s ids at k r four n h z d v = record { tells = go }
  where
    go : (i : ℕ) (t : Tree Value) → Root s 0 i t → is_path ids ≡ true → read (path_from_ids ids) (children t) ≡ absent
    go i t w ok =
        let q = h.tells i t w in
        let e = steps_on ids k (omega arith) z in
        let gone : find (get_or ids k 0) (children q.there) ≡ absent = (below_as s at (get_or ids k 0) r None v d).tells q.id q.there q.root in
        sym (path-read ids t ok) ∙ q.rest ∙ turn ids k q.there e ∙ ap (read_steps (steps (drop (k + 1) ids))) gone ∙ read-absent (steps (drop (k + 1) ids))

pub follow-on : (s ids : List ℕ) (at k x : ℕ) (r : Option ℕ) → length ids ≡ 4 → k < 4 → Reached s ids at k → (get_or ids k 0 ≡ 0 → ⊥) → Below s at (get_or ids k 0) r → r ≡ Some x → Reached s ids x (k + 1)
follow-on s ids at k x r four n h z d v = record { tells = go }
  where
    go : (i : ℕ) (t : Tree Value) → Root s 0 i t → Reach s x ids (k + 1) i t
    go i t w =
        let q = h.tells i t w in
        let e = steps_on ids k (omega arith) z in
        let u : Stood s x (get_or ids k 0) (find (get_or ids k 0) (children q.there)) = (below_as s at (get_or ids k 0) r (Some x) v d).tells q.id q.there q.root in
        record {
          id = get_or ids k 0;
          there = u.there;
          root = u.root;
          rest = q.rest ∙ turn ids k q.there e ∙ ap (read_steps (steps (drop (k + 1) ids))) u.is;
          name = q.name ∙ turn_last ids k q.id e;
        }

-- the path's test, by its four ids
four : (l : List ℕ) → length l ≡ 4 → l ≡ get_or l 0 0 ∷ get_or l 1 0 ∷ get_or l 2 0 ∷ get_or l 3 0 ∷ []
four [] h = absurd (omega arith)
four (a ∷ []) h = absurd (omega arith)
four (a ∷ b ∷ []) h = absurd (omega arith)
four (a ∷ b ∷ c ∷ []) h = absurd (omega arith)
four (a ∷ b ∷ c ∷ d ∷ []) h = refl
four (a ∷ b ∷ c ∷ d ∷ e ∷ l) h = absurd (omega arith)

module _ (l : List ℕ) (h : length l ≡ 4) where
  by-ids : {t : Bool} → t ≡ is_path (get_or l 0 0 ∷ get_or l 1 0 ∷ get_or l 2 0 ∷ get_or l 3 0 ∷ []) → t ≡ is_path l
  by-ids e = e ∙ sym (ap is_path (four l h))

  pub path_empty : get_or l 0 0 ≡ 0 → false ≡ is_path l
  unfolding is_path
  path_empty a = by-ids (rw (eq-eqb (get_or l 0 0) 0 a) refl)

  module _ (a : get_or l 0 0 ≡ 0 → ⊥) where
    pub path-one : get_or l 1 0 ≡ 0 → get_or l 2 0 ≡ 0 → eqb (get_or l 3 0) 0 ≡ is_path l
    unfolding is_path ends_in_zeros all_zeros
    path-one b c = by-ids (rw (ne_eqb (get_or l 0 0) 0 a, eq-eqb (get_or l 1 0) 0 b, eq-eqb (get_or l 2 0) 0 c) (sym (and-true _)))

    pub path-gap : get_or l 1 0 ≡ 0 → (get_or l 2 0 ≡ 0 → ⊥) → false ≡ is_path l
    unfolding is_path ends_in_zeros all_zeros
    path-gap b c = by-ids (rw (ne_eqb (get_or l 0 0) 0 a, eq-eqb (get_or l 1 0) 0 b, ne_eqb (get_or l 2 0) 0 c) refl)

    pub path-two : (get_or l 1 0 ≡ 0 → ⊥) → get_or l 2 0 ≡ 0 → eqb (get_or l 3 0) 0 ≡ is_path l
    unfolding is_path ends_in_zeros all_zeros
    path-two b c = by-ids (rw (ne_eqb (get_or l 0 0) 0 a, ne_eqb (get_or l 1 0) 0 b, eq-eqb (get_or l 2 0) 0 c) (sym (and-true _)))

    pub path-three : (get_or l 1 0 ≡ 0 → ⊥) → (get_or l 2 0 ≡ 0 → ⊥) → true ≡ is_path l
    unfolding is_path ends_in_zeros all_zeros
    path-three b c = by-ids (rw (ne_eqb (get_or l 0 0) 0 a, ne_eqb (get_or l 1 0) 0 b, ne_eqb (get_or l 2 0) 0 c) (sym (same (eqb (get_or l 3 0) 0))))
      where
        same : (t : Bool) → pick t true true ≡ true
        same true = refl
        same false = refl
