-- Laws of the forest: what `find` gives after `set`, order kept by `set`, forests equal where lookups are, maps.
use Rattle.std.proofs.Math.Path.{◌≡◌, refl, sym, ap}
use Rattle.std.proofs.Common.{subst, ◌∙◌, arith}
use Rattle.std.specs.Prelude.{ℕ, suc, ◌≤◌, ◌<◌, ◌+◌}
use Rattle.tree_forest.specs.Compare.{Compare, lt, eq, gt, compare}
use Rattle.tree_forest.specs.Forest.{Forest, end, node, Tree, tree, Lookup, absent, present, find_by, find, node_of, set_by}
use Rattle.tree_forest.specs.Forest.{set, Above, Rising, RisingTree, RisingLookup, measure, map_forest, map_tree, map_lookup}

module _ {A : Type 0} where
  pub find-eq : {i j : ℕ} (c : Compare i j) → i ≡ j → (n : Tree A) (l : Lookup A) → find_by c n l ≡ present n
  find-eq (lt h) e n l = absurd (omega arith)
  find-eq (eq h) e n l = refl
  find-eq (gt h) e n l = absurd (omega arith)

  pub find-gt : {i j : ℕ} (c : Compare i j) → j < i → (n : Tree A) (l : Lookup A) → find_by c n l ≡ l
  find-gt (lt h) e n l = absurd (omega arith)
  find-gt (eq h) e n l = absurd (omega arith)
  find-gt (gt h) e n l = refl

  pub find-lt : {i j : ℕ} (c : Compare i j) → i < j → (n : Tree A) (l : Lookup A) → find_by c n l ≡ absent
  find-lt (lt h) e n l = refl
  find-lt (eq h) e n l = absurd (omega arith)
  find-lt (gt h) e n l = absurd (omega arith)

  pub find-set-same : (i : ℕ) (n : Tree A) (F : Forest A) → find i (set i n F) ≡ present n
  unfolding find set
  find-set-same i (tree a k) end = find-eq (compare i i) refl (tree a k) absent
  find-set-same i (tree a k) (node j b k2 r) = go (compare i j) (find-set-same i (tree a k) r)
    where
      go : (c : Compare i j) → find i (set i (tree a k) r) ≡ present (tree a k) → find i (set_by c (tree a k) b k2 r (set i (tree a k) r)) ≡ present (tree a k)
      go (lt h) ih = find-eq (compare i i) refl (tree a k) (find i (node j b k2 r))
      go (eq h) ih = find-eq (compare i j) h (tree a k) (find i r)
      go (gt h) ih = find-gt (compare i j) h (tree b k2) (find i (set i (tree a k) r)) ∙ ih

  pub find-set-other : (i j : ℕ) (n : Tree A) (F : Forest A) → (i ≡ j → ⊥) → find i (set j n F) ≡ find i F
  unfolding find set
  find-set-other i j (tree a k) end d = go (compare i j)
    where
      go : (c : Compare i j) → find_by c (tree a k) absent ≡ absent
      go (lt h) = refl
      go (eq h) = absurd (d h)
      go (gt h) = refl
  find-set-other i j (tree a k) (node l b k2 r) d = go (compare j l) (compare i j) (find-set-other i j (tree a k) r d)
    where
      go2 : (c : Compare i l) → j ≡ l → find_by c (tree a k) (find i r) ≡ find_by c (tree b k2) (find i r)
      go2 (lt h) e = refl
      go2 (eq h) e = absurd (d (h ∙ sym e))
      go2 (gt h) e = refl

      go : (c : Compare j l) (c2 : Compare i j) → find i (set j (tree a k) r) ≡ find i r
          → find i (set_by c (tree a k) b k2 r (set j (tree a k) r)) ≡ find i (node l b k2 r)
      go (lt h) (lt h2) ih = find-lt (compare i j) h2 (tree a k) (find i (node l b k2 r)) ∙ sym (find-lt (compare i l) (omega arith) (tree b k2) (find i r))
      go (lt h) (eq h2) ih = absurd (d h2)
      go (lt h) (gt h2) ih = find-gt (compare i j) h2 (tree a k) (find i (node l b k2 r))
      go (eq h) c2 ih = go2 (compare i l) h
      go (gt h) c2 ih = ap (find_by (compare i l) (tree b k2)) ih

  -- setting what is there changes nothing
  pub set_same : (i : ℕ) (n : Tree A) (F : Forest A) → find i F ≡ present n → set i n F ≡ F
  unfolding find set
  set_same i (tree a k) end e = absurd (let z : ◌≡◌ {A = ℕ} 0 1 = cc in omega arith)
  set_same i (tree a k) (node j b k2 r) e = go (compare i j) e (set_same i (tree a k) r)
    where
      go : (c : Compare i j) → find_by c (tree b k2) (find i r) ≡ present (tree a k) → (find i r ≡ present (tree a k) → set i (tree a k) r ≡ r)
          → set_by c (tree a k) b k2 r (set i (tree a k) r) ≡ node j b k2 r
      go (lt h) e ih = absurd (let z : ◌≡◌ {A = ℕ} 0 1 = cc in omega arith)
      go (eq h) e ih = cc
      go (gt h) e ih = ap (node j b k2) (ih e)

  find-above : (x i : ℕ) (r : Forest A) → Above i r → x ≤ i → find x r ≡ absent
  unfolding find
  find-above x i end h l = refl
  find-above x i (node j a k r) h l = find-lt (compare x j) (omega arith) (tree a k) (find x r)

  above-set : (i j : ℕ) (n : Tree A) (F : Forest A) → Above j F → j < i → Above j (set i n F)
  unfolding set
  above-set i j (tree a k) end h l = l
  above-set i j (tree a k) (node x b k2 r) h l = go (compare i x)
    where
      go : (c : Compare i x) → Above j (set_by c (tree a k) b k2 r (set i (tree a k) r))
      go (lt e) = l
      go (eq e) = h
      go (gt e) = h

  pub rising-set : (i : ℕ) (n : Tree A) (F : Forest A) → RisingTree n → Rising F → Rising (set i n F)
  unfolding set Rising
  rising-set i (tree a k) end hn h = (tt, hn, tt)
  rising-set i (tree a k) (node x b k2 r) hn h = go (compare i x) (rising-set i (tree a k) r hn h.2)
    where
      go : (c : Compare i x) → Rising (set i (tree a k) r) → Rising (set_by c (tree a k) b k2 r (set i (tree a k) r))
      go (lt e) ih = (e, hn, h)
      go (eq e) ih = (h.0, hn, h.2)
      go (gt e) ih = (above-set i x (tree a k) r h.0 e, h.1, ih)

  pub rising-find : (i : ℕ) (F : Forest A) → Rising F → RisingLookup (find i F)
  unfolding find Rising
  rising-find i end h = tt
  rising-find i (node j a k r) h = go (compare i j) (rising-find i r h.2)
    where
      go : (c : Compare i j) → RisingLookup (find i r) → RisingLookup (find_by c (tree a k) (find i r))
      go (lt e) ih = tt
      go (eq e) ih = h.1
      go (gt e) ih = ih

  pub forest-ext : (F G : Forest A) → Rising F → Rising G → ((i : ℕ) → find i F ≡ find i G) → F ≡ G
  unfolding find Rising
  forest-ext end end hf hg e = refl
  forest-ext end (node j b l s) hf hg e =
      let p = e j in let q = find-eq (compare j j) refl (tree b l) (find j s) in
      absurd (let z : ◌≡◌ {A = ℕ} 0 1 = cc in omega arith)
  forest-ext (node j b l s) end hf hg e =
      let p = e j in let q = find-eq (compare j j) refl (tree b l) (find j s) in
      absurd (let z : ◌≡◌ {A = ℕ} 0 1 = cc in omega arith)
  forest-ext (node i a k r) (node j b l s) hf hg e = go (compare i j) (forest-ext r s hf.2 hg.2)
    where
      go : Compare i j → (((x : ℕ) → find x r ≡ find x s) → r ≡ s) → node i a k r ≡ node j b l s
      go (lt h) ih =
          let p = e i in let q = find-eq (compare i i) refl (tree a k) (find i r) in let q2 = find-lt (compare i j) h (tree b l) (find i s) in
          absurd (let z : ◌≡◌ {A = ℕ} 0 1 = cc in omega arith)
      go (gt h) ih =
          let p = e j in let q = find-eq (compare j j) refl (tree b l) (find j s) in let q2 = find-lt (compare j i) h (tree a k) (find j r) in
          absurd (let z : ◌≡◌ {A = ℕ} 0 1 = cc in omega arith)
      go (eq h) ih =
          let p = e i in let q = find-eq (compare i i) refl (tree a k) (find i r) in let q2 = find-eq (compare i j) h (tree b l) (find i s) in
          let tl : r ≡ s = ih (λ x. tail x (compare x i)) in cc
        where
          tail : (x : ℕ) → Compare x i → find x r ≡ find x s
          tail x (lt h2) = find-above x i r hf.0 (omega arith) ∙ sym (find-above x j s hg.0 (omega arith))
          tail x (eq h2) = find-above x i r hf.0 (omega arith) ∙ sym (find-above x j s hg.0 (omega arith))
          tail x (gt h2) = sym (find-gt (compare x i) h2 (tree a k) (find x r)) ∙ (e x ∙ find-gt (compare x j) (omega arith) (tree b l) (find x s))

pub record Combining (g : ℕ → ℕ → ℕ) : Type 0 where
  pub monotone : (a b c d : ℕ) → a ≤ c → b ≤ d → g a b ≤ g c d
  pub inflating : (a b : ℕ) → b ≤ g a b

module _ {A B : Type 0} (f : A → B) where
  pub find-map : (i : ℕ) (F : Forest A) → find i (map_forest f F) ≡ map_lookup f (find i F)
  unfolding find map_forest
  find-map i end = refl
  find-map i (node j a k r) = go (compare i j) (find-map i r)
    where
      go : (c : Compare i j) → find i (map_forest f r) ≡ map_lookup f (find i r)
          → find_by c (tree (f a) (map_forest f k)) (find i (map_forest f r)) ≡ map_lookup f (find_by c (tree a k) (find i r))
      go (lt h) ih = refl
      go (eq h) ih = refl
      go (gt h) ih = ih

  pub map-set : (i : ℕ) (n : Tree A) (F : Forest A) → map_forest f (set i n F) ≡ set i (map_tree f n) (map_forest f F)
  unfolding set map_forest
  map-set i (tree a k) end = refl
  map-set i (tree a k) (node j b k2 r) = go (compare i j) (map-set i (tree a k) r)
    where
      go : (c : Compare i j) → map_forest f (set i (tree a k) r) ≡ set i (map_tree f (tree a k)) (map_forest f r)
          → map_forest f (set_by c (tree a k) b k2 r (set i (tree a k) r))
          ≡ set_by c (tree (f a) (map_forest f k)) (f b) (map_forest f k2) (map_forest f r) (set i (tree (f a) (map_forest f k)) (map_forest f r))
      go (lt h) ih = refl
      go (eq h) ih = refl
      go (gt h) ih = ap (node j (f b) (map_forest f k2)) ih
