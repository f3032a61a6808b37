-- Laws of `read` and `write` at the first node of a forest, whose id is larger than the path's first, smaller, or the same.
use Rattle.std.specs.Prelude.{◌≡◌, ℕ, ◌<◌}
use Rattle.std.proofs.Math.Path.{refl, ap}
use Rattle.std.proofs.Common.{◌∙◌, arith}
use mathlib.Core.List.{List, [], ◌∷◌}
use Rattle.tree_forest.specs.Compare.{Compare, lt, eq, gt, compare}
use Rattle.tree_forest.specs.Forest.{Forest, end, node, Tree, tree, Lookup, absent, present, find, node_of, set_by, set}
use Rattle.tree_forest.specs.ForestLaws.{find-eq, find-lt, find-gt}
use Rattle.tree_forest.specs.Path.{path, read, read_steps, write, write_steps}

module _ {A : Type 0} where
  set-lt : {i j : ℕ} (c : Compare i j) → i < j → (n : Tree A) (a : A) (k r s : Forest A) → set_by c n a k r s ≡ node_of i n (node j a k r)
  set-lt (lt h) l n a k r s = refl
  set-lt (eq h) l n a k r s = absurd (omega arith)
  set-lt (gt h) l n a k r s = absurd (omega arith)

  set-gt : {i j : ℕ} (c : Compare i j) → j < i → (n : Tree A) (a : A) (k r s : Forest A) → set_by c n a k r s ≡ node j a k s
  set-gt (lt h) l n a k r s = absurd (omega arith)
  set-gt (eq h) l n a k r s = absurd (omega arith)
  set-gt (gt h) l n a k r s = refl

  set-eq : {i j : ℕ} (c : Compare i j) → i ≡ j → (n : Tree A) (a : A) (k r s : Forest A) → set_by c n a k r s ≡ node_of j n r
  set-eq (lt h) l n a k r s = absurd (omega arith)
  set-eq (eq h) l n a k r s = refl
  set-eq (gt h) l n a k r s = absurd (omega arith)

  pub read_none : (is : List ℕ) → read_steps {A = A} is absent ≡ absent
  unfolding read_steps find
  read_none [] = refl
  read_none (j ∷ p) = read_none p

  module _ (i : ℕ) (is : List ℕ) (j : ℕ) (a : A) (ls rest : Forest A) where
    pub read-gap : i < j → read (path i is) (node j a ls rest) ≡ absent
    unfolding find
    read-gap l = ap (read_steps is) (find-lt (compare i j) l (tree a ls) (find i rest)) ∙ read_none is

    pub read-on : j < i → read (path i is) (node j a ls rest) ≡ read (path i is) rest
    unfolding find
    read-on l = ap (read_steps is) (find-gt (compare i j) l (tree a ls) (find i rest))

  pub read-hit : (i : ℕ) (a : A) (ls rest : Forest A) → read (path i []) (node i a ls rest) ≡ present (tree a ls)
  unfolding find read_steps
  read-hit i a ls rest = find-eq (compare i i) refl (tree a ls) (find i rest)

  pub read-deep : (i x : ℕ) (xs : List ℕ) (a : A) (ls rest : Forest A) → read (path i (x ∷ xs)) (node i a ls rest) ≡ read (path x xs) ls
  unfolding find read_steps
  read-deep i x xs a ls rest = ap (read_steps (x ∷ xs)) (find-eq (compare i i) refl (tree a ls) (find i rest))

  module _ (missing : A) (g : Lookup A → Tree A) where
    -- new nodes for the steps i, is before `rest`: each missing step with one child, the last as g makes it of nothing
    abbrev pub fresh_steps : ℕ → List ℕ → Forest A → Forest A
    fresh_steps i is rest = node_of i (write_steps missing is g absent) rest

    pub fresh-more : (i j : ℕ) (js : List ℕ) (rest : Forest A) → fresh_steps i (j ∷ js) rest ≡ node i missing (fresh_steps j js end) rest
    unfolding write_steps find set
    fresh-more i j js rest = refl

    pub write-end : (i : ℕ) (is : List ℕ) → write missing (path i is) g end ≡ fresh_steps i is end
    unfolding find set
    write-end i is = refl

    module _ (i : ℕ) (is : List ℕ) (j : ℕ) (a : A) (ls rest : Forest A) where
      pub write-gap : i < j → write missing (path i is) g (node j a ls rest) ≡ fresh_steps i is (node j a ls rest)
      unfolding find set
      write-gap l =
          set-lt (compare i j) l (write_steps missing is g (find i (node j a ls rest))) a ls rest _
          ∙ ap (λ (z : Lookup A). node_of i (write_steps missing is g z) (node j a ls rest)) (find-lt (compare i j) l (tree a ls) (find i rest))

      pub write-on : j < i → write missing (path i is) g (node j a ls rest) ≡ node j a ls (write missing (path i is) g rest)
      unfolding find set
      write-on l =
          set-gt (compare i j) l (write_steps missing is g (find i (node j a ls rest))) a ls rest _
          ∙ ap (λ (z : Lookup A). node j a ls (set i (write_steps missing is g z) rest)) (find-gt (compare i j) l (tree a ls) (find i rest))

    pub write-hit : (i : ℕ) (a : A) (ls rest : Forest A) → write missing (path i []) g (node i a ls rest) ≡ node_of i (g (present (tree a ls))) rest
    unfolding find set write_steps
    write-hit i a ls rest =
        set-eq (compare i i) refl (g (find i (node i a ls rest))) a ls rest _
        ∙ ap (λ (z : Lookup A). node_of i (g z) rest) (find-eq (compare i i) refl (tree a ls) (find i rest))

    pub write-deep : (i x : ℕ) (xs : List ℕ) (a : A) (ls rest : Forest A) →
        write missing (path i (x ∷ xs)) g (node i a ls rest) ≡ node i a (write missing (path x xs) g ls) rest
    unfolding find set write_steps
    write-deep i x xs a ls rest =
        set-eq (compare i i) refl (write_steps missing (x ∷ xs) g (find i (node i a ls rest))) a ls rest _
        ∙ ap (λ (z : Lookup A). node_of i (write_steps missing (x ∷ xs) g z) rest) (find-eq (compare i i) refl (tree a ls) (find i rest))
