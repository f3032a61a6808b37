-- What the node at a path carries changes no measure of the forest.
use Rattle.std.specs.Prelude.{◌≡◌, ℕ, ◌+◌}
use Rattle.std.proofs.Math.Path.{refl, ap}
use mathlib.Core.List.{List, [], ◌∷◌}
use Rattle.tree_forest.specs.Compare.{Compare, lt, eq, gt, compare}
use Rattle.tree_forest.specs.Forest.{Forest, end, node, Tree, tree, Lookup, find, set_by, set, children_of, payload_of, measure}
use Rattle.tree_forest.specs.Path.{Path, path, write_steps, set_payload_at}

module _ {A : Type 0} (g : ℕ → ℕ → ℕ) where
  abbrev measure_below : Tree A → ℕ
  measure_below (tree a k) = measure g k

  measure-alike : (i : ℕ) (n m : Tree A) (F : Forest A) → measure_below n ≡ measure_below m → measure g (set i n F) ≡ measure g (set i m F)
  unfolding set measure
  measure-alike i (tree a k) (tree b l) end e = ap (λ (x : ℕ). g (1 + x) 0) e
  measure-alike i (tree a k) (tree b l) (node j c k2 r) e = go (compare i j) (measure-alike i (tree a k) (tree b l) r e)
    where
      go : (c2 : Compare i j) → measure g (set i (tree a k) r) ≡ measure g (set i (tree b l) r)
          → measure g (set_by c2 (tree a k) c k2 r (set i (tree a k) r)) ≡ measure g (set_by c2 (tree b l) c k2 r (set i (tree b l) r))
      go (lt h) q = ap (λ (x : ℕ). g (1 + x) (g (1 + measure g k2) (measure g r))) e
      go (eq h) q = ap (λ (x : ℕ). g (1 + x) (measure g r)) e
      go (gt h) q = ap (λ (x : ℕ). g (1 + measure g k2) x) q

  steps_alike : (z a b : A) (p : List ℕ) (l : Lookup A)
      → measure_below (write_steps z p (λ l. tree a (children_of l)) l) ≡ measure_below (write_steps z p (λ l. tree b (children_of l)) l)
  unfolding write_steps
  steps_alike z a b [] l = refl
  steps_alike z a b (j ∷ p) l = measure-alike j _ _ (children_of l) (steps_alike z a b p (find j (children_of l)))

  pub payload-measure : (z : A) (x : Path) (a b : A) (F : Forest A) → measure g (set_payload_at z x a F) ≡ measure g (set_payload_at z x b F)
  payload-measure z (path i p) a b F = measure-alike i _ _ F (steps_alike z a b p (find i F))
