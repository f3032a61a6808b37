-- Laws of occurring roots: a test that holds of all roots holds of each that occurs, and back; the test of sharing is right.
use Rattle.std.specs.Prelude.{◌≡◌, refl, ℕ, Bool, true, false, not, ◌&&◌, ◌||◌, T, eqb}
use Rattle.std.proofs.Common.{sym, subst, eqb→eq}
use Rattle.std.proofs.Math.Dec.{eqb_refl}
use Rattle.basics.specs.TestLaws.{and_i, and_l, and_r, not-intro, not-not, or_l, or_r}
use Rattle.tree_forest.specs.Path.{Path, root_id}
use Rattle.network_syntax.specs.Syntax.{Expression, constant, value_at, presence, unary, binary, Behaviour, nil, one_way, request_response}
use Rattle.network_syntax.specs.Syntax.{notification, solicit_response, if_then_else, while_do, sequence, parallel, assign, choice}
use Rattle.network_syntax.specs.Syntax.{waiting, answering, Branches, last_branch, branch}
use Rattle.check_typing.specs.Occurs.{is_root, occurs_in, occurs, occurs_in_branches, NoSharedRoot, all_roots_in, all_roots, all_branch_roots, no_shared_root}

-- From a test of both and an occurrence in one.
or-and : (a b p q : Bool) {X : Type 0} → (T p → T a → X) → (T q → T b → X) → T (a && b) → T (p || q) → X
or-and a b true q f g t u = f tt (and_l a b t)
or-and a b false q f g t u = g u (and_r a b t)

at-root : (q : ℕ → Bool) (i : ℕ) (x : Path) → T (is_root i x) → T (q (root_id x)) → T (q i)
at-root q i x t h = subst (λ (z : ℕ). T (q z)) (sym (eqb→eq i (root_id x) t)) h

all-roots-in-at : (q : ℕ → Bool) (i : ℕ) (e : Expression) → T (occurs_in i e) → T (all_roots_in q e) → T (q i)
unfolding all_roots_in occurs_in
all-roots-in-at q i (constant v) o t = absurd o
all-roots-in-at q i (value_at x) o t = at-root q i x o t
all-roots-in-at q i (presence x) o t = at-root q i x o t
all-roots-in-at q i (unary f e) o t = all-roots-in-at q i e o t
all-roots-in-at q i (binary f a b) o t =
    or-and (all_roots_in q a) (all_roots_in q b) (occurs_in i a) (occurs_in i b) (λ x y. all-roots-in-at q i a x y) (λ x y. all-roots-in-at q i b x y) t o

mutual
  unfolding all_roots occurs

  pub all-roots-at : (q : ℕ → Bool) (i : ℕ) (B : Behaviour) → T (occurs i B) → T (all_roots q B) → T (q i)
  all-roots-at q i (nil r) o t = absurd o
  all-roots-at q i (one_way r p x) o t = at-root q i x o t
  all-roots-at q i (request_response r p x c d) o t =
      or-and (q (root_id x)) (q (root_id c) && all_roots q d) (is_root i x) (is_root i c || occurs i d) (at-root q i x)
      (λ u v. or-and (q (root_id c)) (all_roots q d) (is_root i c) (occurs i d) (at-root q i c) (λ y z. all-roots-at q i d y z) v u) t o
  all-roots-at q i (notification r p e) o t = all-roots-in-at q i e o t
  all-roots-at q i (solicit_response r p e x) o t =
      or-and (all_roots_in q e) (q (root_id x)) (occurs_in i e) (is_root i x) (all-roots-in-at q i e) (at-root q i x) t o
  all-roots-at q i (if_then_else r e a b) o t =
      or-and (all_roots_in q e) (all_roots q a && all_roots q b) (occurs_in i e) (occurs i a || occurs i b) (all-roots-in-at q i e)
      (λ u v. or-and (all_roots q a) (all_roots q b) (occurs i a) (occurs i b) (λ y z. all-roots-at q i a y z) (λ y z. all-roots-at q i b y z) v u) t o
  all-roots-at q i (while_do r e b) o t =
      or-and (all_roots_in q e) (all_roots q b) (occurs_in i e) (occurs i b) (all-roots-in-at q i e) (λ y z. all-roots-at q i b y z) t o
  all-roots-at q i (sequence r a b) o t =
      or-and (all_roots q a) (all_roots q b) (occurs i a) (occurs i b) (λ y z. all-roots-at q i a y z) (λ y z. all-roots-at q i b y z) t o
  all-roots-at q i (parallel r a b) o t =
      or-and (all_roots q a) (all_roots q b) (occurs i a) (occurs i b) (λ y z. all-roots-at q i a y z) (λ y z. all-roots-at q i b y z) t o
  all-roots-at q i (assign r x e) o t = or-and (all_roots_in q e) (q (root_id x)) (occurs_in i e) (is_root i x) (all-roots-in-at q i e) (at-root q i x) t o
  all-roots-at q i (choice r m) o t = all-branch-roots-at q i m o t
  all-roots-at q i (waiting r p x) o t = at-root q i x o t
  all-roots-at q i (answering r p c d) o t =
      or-and (q (root_id c)) (all_roots q d) (is_root i c) (occurs i d) (at-root q i c) (λ y z. all-roots-at q i d y z) t o

  all-branch-roots-at : (q : ℕ → Bool) (i : ℕ) (m : Branches) → T (occurs_in_branches i m) → T (all_branch_roots q m) → T (q i)
  all-branch-roots-at q i (last_branch r a b) o t =
      or-and (all_roots q a) (all_roots q b) (occurs i a) (occurs i b) (λ y z. all-roots-at q i a y z) (λ y z. all-roots-at q i b y z) t o
  all-branch-roots-at q i (branch r a b m) o t =
      or-and (all_roots q a && all_roots q b) (all_branch_roots q m) (occurs i a || occurs i b) (occurs_in_branches i m)
      (λ u v. or-and (all_roots q a) (all_roots q b) (occurs i a) (occurs i b) (λ y z. all-roots-at q i a y z) (λ y z. all-roots-at q i b y z) v u)
      (λ y z. all-branch-roots-at q i m y z) t o

all-roots-in : (q : ℕ → Bool) (e : Expression) → ((i : ℕ) → T (occurs_in i e) → T (q i)) → T (all_roots_in q e)
unfolding all_roots_in occurs_in
all-roots-in q (constant v) h = tt
all-roots-in q (value_at x) h = h (root_id x) (eqb_refl (root_id x))
all-roots-in q (presence x) h = h (root_id x) (eqb_refl (root_id x))
all-roots-in q (unary f e) h = all-roots-in q e h
all-roots-in q (binary f a b) h =
    and_i (all_roots_in q a) (all_roots_in q b) (all-roots-in q a (λ i t. h i (or_l (occurs_in i a) (occurs_in i b) t)))
    (all-roots-in q b (λ i t. h i (or_r (occurs_in i a) (occurs_in i b) t)))

mutual
  unfolding all_roots occurs

  pub all-roots : (q : ℕ → Bool) (B : Behaviour) → ((i : ℕ) → T (occurs i B) → T (q i)) → T (all_roots q B)
  all-roots q (nil r) h = tt
  all-roots q (one_way r p x) h = h (root_id x) (eqb_refl (root_id x))
  all-roots q (request_response r p x c d) h =
      and_i (q (root_id x)) (q (root_id c) && all_roots q d) (h (root_id x) (or_l (is_root (root_id x) x) _ (eqb_refl (root_id x))))
      (and_i (q (root_id c)) (all_roots q d) (h (root_id c) (or_r (is_root (root_id c) x) _ (or_l (is_root (root_id c) c) _ (eqb_refl (root_id c)))))
      (all-roots q d (λ i t. h i (or_r (is_root i x) (is_root i c || occurs i d) (or_r (is_root i c) (occurs i d) t)))))
  all-roots q (notification r p e) h = all-roots-in q e h
  all-roots q (solicit_response r p e x) h =
      and_i (all_roots_in q e) (q (root_id x)) (all-roots-in q e (λ i t. h i (or_l (occurs_in i e) (is_root i x) t)))
      (h (root_id x) (or_r (occurs_in (root_id x) e) _ (eqb_refl (root_id x))))
  all-roots q (if_then_else r e a b) h =
      and_i (all_roots_in q e) (all_roots q a && all_roots q b) (all-roots-in q e (λ i t. h i (or_l (occurs_in i e) (occurs i a || occurs i b) t)))
      (and_i (all_roots q a) (all_roots q b)
      (all-roots q a (λ i t. h i (or_r (occurs_in i e) (occurs i a || occurs i b) (or_l (occurs i a) (occurs i b) t))))
      (all-roots q b (λ i t. h i (or_r (occurs_in i e) (occurs i a || occurs i b) (or_r (occurs i a) (occurs i b) t)))))
  all-roots q (while_do r e b) h =
      and_i (all_roots_in q e) (all_roots q b) (all-roots-in q e (λ i t. h i (or_l (occurs_in i e) (occurs i b) t)))
      (all-roots q b (λ i t. h i (or_r (occurs_in i e) (occurs i b) t)))
  all-roots q (sequence r a b) h =
      and_i (all_roots q a) (all_roots q b) (all-roots q a (λ i t. h i (or_l (occurs i a) (occurs i b) t)))
      (all-roots q b (λ i t. h i (or_r (occurs i a) (occurs i b) t)))
  all-roots q (parallel r a b) h =
      and_i (all_roots q a) (all_roots q b) (all-roots q a (λ i t. h i (or_l (occurs i a) (occurs i b) t)))
      (all-roots q b (λ i t. h i (or_r (occurs i a) (occurs i b) t)))
  all-roots q (assign r x e) h =
      and_i (all_roots_in q e) (q (root_id x)) (all-roots-in q e (λ i t. h i (or_l (occurs_in i e) (is_root i x) t)))
      (h (root_id x) (or_r (occurs_in (root_id x) e) _ (eqb_refl (root_id x))))
  all-roots q (choice r m) h = all-branch-roots q m h
  all-roots q (waiting r p x) h = h (root_id x) (eqb_refl (root_id x))
  all-roots q (answering r p c d) h =
      and_i (q (root_id c)) (all_roots q d) (h (root_id c) (or_l (is_root (root_id c) c) _ (eqb_refl (root_id c))))
      (all-roots q d (λ i t. h i (or_r (is_root i c) (occurs i d) t)))

  all-branch-roots : (q : ℕ → Bool) (m : Branches) → ((i : ℕ) → T (occurs_in_branches i m) → T (q i)) → T (all_branch_roots q m)
  all-branch-roots q (last_branch r a b) h =
      and_i (all_roots q a) (all_roots q b) (all-roots q a (λ i t. h i (or_l (occurs i a) (occurs i b) t)))
      (all-roots q b (λ i t. h i (or_r (occurs i a) (occurs i b) t)))
  all-branch-roots q (branch r a b m) h =
      and_i (all_roots q a && all_roots q b) (all_branch_roots q m)
      (and_i (all_roots q a) (all_roots q b)
      (all-roots q a (λ i t. h i (or_l (occurs i a || occurs i b) (occurs_in_branches i m) (or_l (occurs i a) (occurs i b) t))))
      (all-roots q b (λ i t. h i (or_l (occurs i a || occurs i b) (occurs_in_branches i m) (or_r (occurs i a) (occurs i b) t)))))
      (all-branch-roots q m (λ i t. h i (or_r (occurs i a || occurs i b) (occurs_in_branches i m) t)))

-- The test is the relation.
pub no-shared-sound : (a b : Behaviour) → T (no_shared_root a b) → NoSharedRoot a b
no-shared-sound a b t i x y = not-not (occurs i b) (all-roots-at (λ i. not (occurs i b)) i a x t) y

pub no-shared-complete : (a b : Behaviour) → NoSharedRoot a b → T (no_shared_root a b)
no-shared-complete a b d = all-roots (λ i. not (occurs i b)) a (λ i t. not-intro (occurs i b) (d i t))
