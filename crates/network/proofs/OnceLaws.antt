-- Each row once: the rows of a behaviour go up, from user to user, to its top row, and a row has one user.
use Rattle.std.specs.Prelude.{ℕ, zero, suc, ◌<◌, ◌≤◌, ◌≡◌, List, Bool, ◌||◌, T, eqb}
use Rattle.std.proofs.Common.{sym, ◌∙◌, subst, arith, eqb→eq}
use Rattle.std.proofs.Math.Dec.{eqb_refl}
use Rattle.basics.specs.TestLaws.{or_case, or_l, or_r}
use Rattle.tree_forest.specs.Compare.{Compare, lt, eq, gt, compare}
use Rattle.network_syntax.specs.Syntax.{Behaviour, choice, Branches, last_branch, branch}
use Rattle.network.specs.declared.BehaviourKind.{BehaviourKind}
use Rattle.network.specs.Layout.{behaviour_count, service_count, behaviour_at}
use Rattle.network.specs.Rows.{field_a, field_b, field_c, field_d, kind_at}
use Rattle.network.specs.Uses.{service_uses}
use Rattle.network.specs.Form.{WellFormed}
use Rattle.network.specs.Decode.{branches_from, behaviour_from, behaviour_to, behaviour_of}
use Rattle.network_syntax.specs.Rows.{has_row, has_row_in}
use Rattle.network.specs.Shapes.{Outside, Apart, EachRowOnce, EachBranchRowOnce}
use Rattle.network.proofs.UseLaws.{Uses, one-user, no-user, Child, SubKept, BranchKept, RowKept, behaviour-kept}
use Rattle.network.proofs.UseLaws.{branch_kept}
use Rattle.network.proofs.BehaviourLaws.{BranchesKept, Later}

-- The user of row i, one of the rows that `has` tells.
record User (s : List ℕ) (has : ℕ → Bool) (i : ℕ) : Type 0 where
  user : ℕ
  inside : T (has user)
  uses : Uses s user i
  before : user < i

-- The rows of X go up to its top row a.
abbrev Up : List ℕ → ℕ → Behaviour → Type 0
Up s a X = (i : ℕ) → T (has_row i X) → (a ≤ i) × (i < behaviour_count s) × ((i ≡ a → ⊥) → User s (λ j. has_row j X) i)

-- The user of row i, the choice r or a row of its branches M.
record BranchUser (s : List ℕ) (r : ℕ) (M : Branches) (i : ℕ) : Type 0 where
  user : ℕ
  inside : T (eqb user r || has_row_in user M)
  uses : Uses s user i
  before : user < i

-- The rows of the branches M, from row a on, go up to the choice r.
abbrev UpToChoice : List ℕ → ℕ → ℕ → Branches → Type 0
UpToChoice s r a M = (i : ℕ) → T (has_row_in i M) → (a ≤ i) × (i < behaviour_count s) × BranchUser s r M i

-- ---- behaviours with different top rows are apart

-- Neither top row's users are inside the other behaviour.
abbrev UsersBefore : List ℕ → ℕ → ℕ → Type 0
UsersBefore s a b = (p : ℕ) → p < behaviour_count s → Uses s p a → p < b

apart-tops : (s : List ℕ) → WellFormed s → (a b : ℕ) (A B : Behaviour) → UsersBefore s a b → UsersBefore s b a → (a ≡ b → ⊥) → Up s a A → Up s b B
    → (n i : ℕ) → i ≤ n → T (has_row i A) → T (has_row i B) → ⊥
apart-tops s w a b A B ka kb ne ua ub zero i le ta tb = go (compare i a) (compare i b)
  where
    ia : a ≤ i
    ia = (ua i ta).0

    ib : b ≤ i
    ib = (ub i tb).0

    go : Compare i a → Compare i b → ⊥
    go (lt c) d = let x = ia in omega arith
    go (eq c) (lt d) = let x = ib in omega arith
    go (eq c) (eq d) = ne (sym c ∙ d)
    go (eq c) (gt d) = omega arith
    go (gt c) d = omega arith
apart-tops s w a b A B ka kb ne ua ub (suc n) i le ta tb = go (compare i a) (compare i b)
    (λ p z. apart-tops s w a b A B ka kb ne ua ub n p (omega arith))
  where
    ia : a ≤ i
    ia = (ua i ta).0

    ib : b ≤ i
    ib = (ub i tb).0

    li : i < behaviour_count s
    li = (ua i ta).1

    go : Compare i a → Compare i b → ((p : ℕ) → p < i → T (has_row p A) → T (has_row p B) → ⊥) → ⊥
    go (lt c) d ih = let x = ia in omega arith
    go (eq c) (lt d) ih = let x = ib in omega arith
    go (eq c) (eq d) ih = ne (sym c ∙ d)
    go (eq c) (gt d) ih =
        let v = (ub i tb).2 (λ e. omega arith) in
        let f = v.before in
        let l = li in
        let x = ka v.user (omega arith) (subst (λ (z : ℕ). Uses s v.user z) c v.uses) in
        let y = (ub v.user v.inside).0 in
        omega arith
    go (gt c) (lt d) ih = let x = ib in omega arith
    go (gt c) (eq d) ih =
        let v = (ua i ta).2 (λ e. omega arith) in
        let f = v.before in
        let l = li in
        let x = kb v.user (omega arith) (subst (λ (z : ℕ). Uses s v.user z) d v.uses) in
        let y = (ua v.user v.inside).0 in
        omega arith
    go (gt c) (gt d) ih =
        let v = (ua i ta).2 (λ e. omega arith) in
        let u = (ub i tb).2 (λ e. omega arith) in
        let f = v.before in
        let g = u.before in
        let l = li in
        let e = one-user s w i v.user u.user l (omega arith) (omega arith) v.uses u.uses in
        ih v.user f v.inside (subst (λ (z : ℕ). T (has_row z B)) (sym e) u.inside)

-- Two rows that row r uses.
apart-children : (s : List ℕ) → WellFormed s → (r a b : ℕ) (A B : Behaviour) → r < behaviour_count s → Child s r a → Child s r b → (a ≡ b → ⊥)
    → Up s a A → Up s b B → Apart A B
apart-children s w r a b A B l ka kb ne ua ub i ta tb =
    apart-tops s w a b A B
    (λ p x u. let e = one-user s w a p r ka.exists x l u ka.uses in let y = kb.later in omega arith)
    (λ p x u. let e = one-user s w b p r kb.exists x l u kb.uses in let y = ka.later in omega arith)
    ne ua ub i i (omega arith) ta tb

-- A part of the branch j and the branches after it, of the choice r.
apart-branches : (s : List ℕ) → WellFormed s → (r j x : ℕ) (A : Behaviour) (M : Branches) → r < j → j < behaviour_count s → Child s j x → Up s x A
    → UpToChoice s r (suc j) M
    → (n i : ℕ) → i ≤ n → T (has_row i A) → T (has_row_in i M) → ⊥
apart-branches s w r j x A M rj lj kx ua um zero i le ta tm = let z = (um i tm).0 in omega arith
apart-branches s w r j x A M rj lj kx ua um (suc n) i le ta tm = go (compare i x)
    (λ p z. apart-branches s w r j x A M rj lj kx ua um n p (omega arith))
  where
    xi : x ≤ i
    xi = (ua i ta).0

    li : i < behaviour_count s
    li = (ua i ta).1

    jx : j < x
    jx = kx.later

    m : BranchUser s r M i
    m = (um i tm).2

    go : Compare i x → ((p : ℕ) → p < i → T (has_row p A) → T (has_row_in p M) → ⊥) → ⊥
    go (lt c) ih = let y = xi in omega arith
    go (eq c) ih =
        let f = m.before in
        let l = li in
        let e = one-user s w x m.user j kx.exists (omega arith) lj (subst (λ (z : ℕ). Uses s m.user z) c m.uses) kx.uses in
        or_case (eqb m.user r) (has_row_in m.user M)
        (λ t. let z = eqb→eq m.user r t in omega arith)
        (λ t. let z = (um m.user t).0 in omega arith)
        m.inside
    go (gt c) ih =
        let v = (ua i ta).2 (λ e. omega arith) in
        let f = m.before in
        let g = v.before in
        let l = li in
        let e = one-user s w i v.user m.user l (omega arith) (omega arith) v.uses m.uses in
        let y = (ua v.user v.inside).0 in
        let k = jx in
        or_case (eqb m.user r) (has_row_in m.user M)
        (λ t. let z = eqb→eq m.user r t in omega arith)
        (λ t. ih v.user g v.inside (subst (λ (z : ℕ). T (has_row_in z M)) (sym e) t))
        m.inside

-- ---- the rows of a behaviour

top_up : (s : List ℕ) (r i : ℕ) (has : ℕ → Bool) → r < behaviour_count s → T (eqb i r) → (r ≤ i) × (i < behaviour_count s) × ((i ≡ r → ⊥) → User s has i)
top_up s r i has l t = let e = eqb→eq i r t in (omega arith, omega arith, λ f. absurd (f e))

-- A row of the sub-behaviour A of row r, as one of the rows that `has` tells.
sub-up : (s : List ℕ) (r a i : ℕ) (A : Behaviour) (has : ℕ → Bool) → Child s r a → Up s a A → ((j : ℕ) → T (has_row j A) → T (has j)) → T (has r)
    → T (has_row i A)
    → (r ≤ i) × (i < behaviour_count s) × ((i ≡ r → ⊥) → User s has i)
sub-up s r a i A has k u inc rx t = (let x = (u i t).0 in let y = k.later in omega arith, (u i t).1, λ f. go (compare i a))
  where
    go : Compare i a → User s has i
    go (lt c) = let x = (u i t).0 in absurd (omega arith)
    go (eq c) =
        let y = k.later in
        record { user = r; inside = rx; uses = subst (λ (z : ℕ). Uses s r z) (sym c) k.uses; before = omega arith }
    go (gt c) =
        let v = (u i t).2 (λ e. omega arith) in
        record { user = v.user; inside = inc v.user v.inside; uses = v.uses; before = v.before }

two_up : (s : List ℕ) (r x y i : ℕ) (A B : Behaviour) (has : ℕ → Bool) → r < behaviour_count s → Child s r x → Child s r y → Up s x A → Up s y B
    → ((j : ℕ) → T (has_row j A) → T (has j)) → ((j : ℕ) → T (has_row j B) → T (has j)) → T (has r)
    → T (eqb i r || (has_row i A || has_row i B)) → (r ≤ i) × (i < behaviour_count s) × ((i ≡ r → ⊥) → User s has i)
two_up s r x y i A B has l kx ky ua ub ia ib rx t =
    or_case (eqb i r) (has_row i A || has_row i B) (λ z. top_up s r i has l z)
    (λ z. or_case (has_row i A) (has_row i B) (λ v. sub-up s r x i A has kx ua ia rx v) (λ v. sub-up s r y i B has ky ub ib rx v) z) t

-- A row of the branch j, whose parts are A and B, as a row of the branches M.
branch_up : (s : List ℕ) (r j x y i : ℕ) (A B : Behaviour) (M : Branches) → Child s r j → Child s j x → Child s j y → Up s x A → Up s y B
    → ((l : ℕ) → T (has_row l A) → T (has_row_in l M)) → ((l : ℕ) → T (has_row l B) → T (has_row_in l M)) → T (has_row_in j M)
    → T (eqb i j || (has_row i A || has_row i B)) → (j ≤ i) × (i < behaviour_count s) × BranchUser s r M i
branch_up s r j x y i A B M kj kx ky ua ub ia ib jx t = go (compare i j)
  where
    h : (j ≤ i) × (i < behaviour_count s) × ((i ≡ j → ⊥) → User s (λ l. has_row_in l M) i)
    h = two_up s j x y i A B (λ l. has_row_in l M) kj.exists kx ky ua ub ia ib jx t

    go : Compare i j → (j ≤ i) × (i < behaviour_count s) × BranchUser s r M i
    go (lt c) = let l = h.0 in absurd (omega arith)
    go (eq c) =
        let l = kj.later in (
          h.0,
          h.1,
          record {
            user = r;
            inside = or_l (eqb r r) (has_row_in r M) (eqb_refl r);
            uses = subst (λ (z : ℕ). Uses s r z) (sym c)
                kj.uses;
            before = omega arith;
          },
        )
    go (gt c) =
        let v = h.2 (λ e. omega arith) in (
          h.0,
          h.1,
          record {
            user = v.user;
            inside = or_r (eqb v.user r) (has_row_in v.user M)
                v.inside;
            uses = v.uses;
            before = v.before;
          },
        )

branches-up : (s : List ℕ) → WellFormed s → (r : ℕ) (f : ℕ → Behaviour) → Later s r (λ j. Up s j (f j)) → (n a : ℕ) → 1 ≤ n → BranchesKept s r a n
    → UpToChoice s r a (branches_from s f a n)
unfolding branches_from has_row_in
branches-up s w r f u zero a o h i t = absurd (omega arith)
branches-up s w r f u (suc zero) a o h i t =
    let k = h a (omega arith) (omega arith) in
    let b = branch_kept s w r a k in
    let l = k.child.later in
    let x : ℕ = field_a s (behaviour_at s a) in
    let y : ℕ = field_b s (behaviour_at s a) in
    branch_up s r a x y i (f x) (f y) (last_branch a (f x) (f y)) k.child b.0.child b.1.child
    (u x (let z = b.0.child.later in omega arith) b.0.child.exists) (u y (let z = b.1.child.later in omega arith) b.1.child.exists)
    (λ l z. or_r (eqb l a) (has_row l (f x) || has_row l (f y)) (or_l (has_row l (f x)) (has_row l (f y)) z))
    (λ l z. or_r (eqb l a) (has_row l (f x) || has_row l (f y)) (or_r (has_row l (f x)) (has_row l (f y)) z))
    (or_l (eqb a a) (has_row a (f x) || has_row a (f y)) (eqb_refl a)) t
branches-up s w r f u (suc (suc n)) a o h i t =
    or_case (eqb i a) ((has_row i (f x) || has_row i (f y)) || has_row_in i M)
    (λ z. this (or_l (eqb i a) (has_row i (f x) || has_row i (f y)) z))
    (λ z. or_case (has_row i (f x) || has_row i (f y)) (has_row_in i M)
    (λ v. this (or_r (eqb i a) (has_row i (f x) || has_row i (f y)) v))
    (λ v. later (branches-up s w r f u (suc n) (suc a) (omega arith) (λ j p q. h j (omega arith) (omega arith)) i v)) z) t
  where
    x : ℕ
    x = field_a s (behaviour_at s a)

    y : ℕ
    y = field_b s (behaviour_at s a)

    M : Branches
    M = branches_from s f (suc a) (suc n)

    k : BranchKept s r a
    k = h a (omega arith) (omega arith)

    b : RowKept s a (behaviour_at s a) BehaviourKind.Branch
    b = branch_kept s w r a k

    this : T (eqb i a || (has_row i (f x) || has_row i (f y))) → (a ≤ i) × (i < behaviour_count s) × BranchUser s r (branch a (f x) (f y) M) i
    this v =
        let l = k.child.later in
        branch_up s r a x y i (f x) (f y) (branch a (f x) (f y) M) k.child b.0.child b.1.child
        (u x (let z = b.0.child.later in omega arith) b.0.child.exists)
        (u y (let z = b.1.child.later in omega arith) b.1.child.exists)
        (λ l z. or_r (eqb l a) ((has_row l (f x) || has_row l (f y)) || has_row_in l M)
        (or_l (has_row l (f x) || has_row l (f y)) (has_row_in l M) (or_l (has_row l (f x)) (has_row l (f y)) z)))
        (λ l z. or_r (eqb l a) ((has_row l (f x) || has_row l (f y)) || has_row_in l M)
        (or_l (has_row l (f x) || has_row l (f y)) (has_row_in l M) (or_r (has_row l (f x)) (has_row l (f y)) z)))
        (or_l (eqb a a) ((has_row a (f x) || has_row a (f y)) || has_row_in a M) (eqb_refl a)) v

    later : (suc a ≤ i) × (i < behaviour_count s) × BranchUser s r M i → (a ≤ i) × (i < behaviour_count s) × BranchUser s r (branch a (f x) (f y) M) i
    later v =
        let g = v.0 in
        let p = v.2.user in (
          omega arith,
          v.1,
          record {
            user = p;
            inside =
                or_case (eqb p r) (has_row_in p M) (λ q. or_l (eqb p r) (has_row_in p (branch a (f x) (f y) M)) q)
                (λ q. or_r (eqb p r) (has_row_in p (branch a (f x) (f y) M))
                (or_r (eqb p a) ((has_row p (f x) || has_row p (f y)) || has_row_in p M)
                (or_r (has_row p (f x) || has_row p (f y)) (has_row_in p M) q))) v.2.inside;
            uses = v.2.uses;
            before = v.2.before;
          },
        )

row_up : (s : List ℕ) → WellFormed s → (r at : ℕ) → r < behaviour_count s → (f : ℕ → Behaviour) → Later s r (λ j. Up s j (f j)) → (k : BehaviourKind)
    → RowKept s r at k → Up s r (behaviour_from s f r at k)
unfolding behaviour_from has_row
row_up s w r at l f u BehaviourKind.Nil h i t = top_up s r i _ l t
row_up s w r at l f u BehaviourKind.OneWay h i t = top_up s r i _ l t
row_up s w r at l f u BehaviourKind.RequestResponse h i t =
    or_case (eqb i r) (has_row i (f (field_d s at)))
    (λ z. top_up s r i _ l z)
    (λ z. sub-up s r (field_d s at) i (f (field_d s at)) _ h.3.child
    (u (field_d s at) h.3.child.later h.3.child.exists)
    (λ j v. or_r (eqb j r) (has_row j (f (field_d s at))) v) (or_l (eqb r r) (has_row r (f (field_d s at))) (eqb_refl r)) z) t
row_up s w r at l f u BehaviourKind.Notification h i t = top_up s r i _ l t
row_up s w r at l f u BehaviourKind.SolicitResponse h i t = top_up s r i _ l t
row_up s w r at l f u BehaviourKind.If h i t =
    two_up s r (field_b s at) (field_c s at) i (f (field_b s at)) (f (field_c s at)) _ l h.1.child h.2.child
    (u (field_b s at) h.1.child.later h.1.child.exists) (u (field_c s at) h.2.child.later h.2.child.exists)
    (λ j v. or_r (eqb j r) (has_row j (f (field_b s at)) || has_row j (f (field_c s at)))
    (or_l (has_row j (f (field_b s at))) (has_row j (f (field_c s at))) v))
    (λ j v. or_r (eqb j r) (has_row j (f (field_b s at)) || has_row j (f (field_c s at)))
    (or_r (has_row j (f (field_b s at))) (has_row j (f (field_c s at))) v))
    (or_l (eqb r r) (has_row r (f (field_b s at)) || has_row r (f (field_c s at))) (eqb_refl r)) t
row_up s w r at l f u BehaviourKind.While h i t =
    or_case (eqb i r) (has_row i (f (field_b s at))) (λ z. top_up s r i _ l z)
    (λ z. sub-up s r (field_b s at) i (f (field_b s at)) _ h.1.child
    (u (field_b s at) h.1.child.later h.1.child.exists)
    (λ j v. or_r (eqb j r) (has_row j (f (field_b s at))) v) (or_l (eqb r r) (has_row r (f (field_b s at))) (eqb_refl r)) z) t
row_up s w r at l f u BehaviourKind.Sequence h i t =
    two_up s r (field_a s at) (field_b s at) i (f (field_a s at)) (f (field_b s at)) _ l h.0.child
    h.1.child
    (u (field_a s at) h.0.child.later h.0.child.exists) (u (field_b s at) h.1.child.later h.1.child.exists)
    (λ j v. or_r (eqb j r) (has_row j (f (field_a s at)) || has_row j (f (field_b s at)))
    (or_l (has_row j (f (field_a s at))) (has_row j (f (field_b s at))) v))
    (λ j v. or_r (eqb j r) (has_row j (f (field_a s at)) || has_row j (f (field_b s at)))
    (or_r (has_row j (f (field_a s at))) (has_row j (f (field_b s at))) v))
    (or_l (eqb r r) (has_row r (f (field_a s at)) || has_row r (f (field_b s at))) (eqb_refl r)) t
row_up s w r at l f u BehaviourKind.Parallel h i t =
    two_up s r (field_a s at) (field_b s at) i (f (field_a s at)) (f (field_b s at)) _ l h.0.child
    h.1.child
    (u (field_a s at) h.0.child.later h.0.child.exists) (u (field_b s at) h.1.child.later h.1.child.exists)
    (λ j v. or_r (eqb j r) (has_row j (f (field_a s at)) || has_row j (f (field_b s at)))
    (or_l (has_row j (f (field_a s at))) (has_row j (f (field_b s at))) v))
    (λ j v. or_r (eqb j r) (has_row j (f (field_a s at)) || has_row j (f (field_b s at)))
    (or_r (has_row j (f (field_a s at))) (has_row j (f (field_b s at))) v))
    (or_l (eqb r r) (has_row r (f (field_a s at)) || has_row r (f (field_b s at))) (eqb_refl r)) t
row_up s w r at l f u BehaviourKind.Assign h i t = top_up s r i _ l t
row_up s w r at l f u BehaviourKind.Choice h i t =
    or_case (eqb i r) (has_row_in i M) (λ z. top_up s r i _ l z)
    (λ z. below (branches-up s w r f u (field_b s at) (field_a s at) h.0 h.2 i z)) t
  where
    M : Branches
    M = branches_from s f (field_a s at) (field_b s at)

    below : (field_a s at ≤ i) × (i < behaviour_count s) × BranchUser s r M i
        → (r ≤ i) × (i < behaviour_count s) × ((i ≡ r → ⊥) → User s (λ j. has_row j (choice r M)) i)
    below v =
        let g = v.0 in
        let o = h.0 in
        let e = (h.2 (field_a s at) (omega arith) (omega arith)).child.later in
        (omega arith, v.1, λ ne. record { user = v.2.user; inside = v.2.inside; uses = v.2.uses; before = v.2.before })
row_up s w r at l f u BehaviourKind.Branch h i t = top_up s r i _ l t
row_up s w r at l f u BehaviourKind.Unknown h i t = top_up s r i _ l t

up_to : (s : List ℕ) → WellFormed s → (d r : ℕ) → r < behaviour_count s → Up s r (behaviour_to s d r)
unfolding behaviour_to has_row
up_to s w zero r l i t = top_up s r i _ l t
up_to s w (suc d) r l i t = row_up s w r (behaviour_at s r) l (behaviour_to s d) (λ j x y q z. up_to s w d j y q z) (kind_at s r)
    (behaviour-kept s w r l) i t

-- ---- each row once

below_top : (s : List ℕ) (r a : ℕ) (A : Behaviour) → Child s r a → Up s a A → Outside r A
below_top s r a A k u t = let x = (u r t).0 in let y = k.later in omega arith

branches-once : (s : List ℕ) → WellFormed s → (r : ℕ) (f : ℕ → Behaviour) → Later s r (λ j. Up s j (f j)) → Later s r (λ j. EachRowOnce (f j))
    → (n a : ℕ) → 1 ≤ n → BranchesKept s r a n
    → EachBranchRowOnce (branches_from s f a n)
unfolding branches_from EachBranchRowOnce
branches-once s w r f u e zero a o h = absurd (omega arith)
branches-once s w r f u e (suc zero) a o h = (
  below_top s a x (f x) b.0.child ux,
  below_top s a y (f y) b.1.child uy,
  apart-children s w a x y (f x) (f y) k.child.exists b.0.child b.1.child b.2 ux uy,
  e x (let l = k.child.later in let z = b.0.child.later in omega arith) b.0.child.exists,
  e y (let l = k.child.later in let z = b.1.child.later in omega arith) b.1.child.exists,
)
  where
    x : ℕ
    x = field_a s (behaviour_at s a)

    y : ℕ
    y = field_b s (behaviour_at s a)

    k : BranchKept s r a
    k = h a (omega arith) (omega arith)

    b : RowKept s a (behaviour_at s a) BehaviourKind.Branch
    b = branch_kept s w r a k

    ux : Up s x (f x)
    ux = u x (let l = k.child.later in let z = b.0.child.later in omega arith) b.0.child.exists

    uy : Up s y (f y)
    uy = u y (let l = k.child.later in let z = b.1.child.later in omega arith) b.1.child.exists
branches-once s w r f u e (suc (suc n)) a o h = (
  below_top s a x (f x) b.0.child ux,
  below_top s a y (f y) b.1.child uy,
  apart-children s w a x y (f x) (f y) k.child.exists b.0.child b.1.child b.2 ux uy,
  e x (let l = k.child.later in let z = b.0.child.later in omega arith) b.0.child.exists,
  e y (let l = k.child.later in let z = b.1.child.later in omega arith) b.1.child.exists,
  (λ t. let z = (um a t).0 in omega arith),
  (λ i p q. apart-branches s w r a x (f x) M k.child.later k.child.exists b.0.child ux um i i (omega arith) p q),
  (λ i p q. apart-branches s w r a y (f y) M k.child.later k.child.exists b.1.child uy um i i (omega arith) p q),
  branches-once s w r f u e (suc n) (suc a) (omega arith) hs,
)
  where
    x : ℕ
    x = field_a s (behaviour_at s a)

    y : ℕ
    y = field_b s (behaviour_at s a)

    k : BranchKept s r a
    k = h a (omega arith) (omega arith)

    b : RowKept s a (behaviour_at s a) BehaviourKind.Branch
    b = branch_kept s w r a k

    ux : Up s x (f x)
    ux = u x (let l = k.child.later in let z = b.0.child.later in omega arith) b.0.child.exists

    uy : Up s y (f y)
    uy = u y (let l = k.child.later in let z = b.1.child.later in omega arith) b.1.child.exists

    hs : BranchesKept s r (suc a) (suc n)
    hs j p q = h j (omega arith) (omega arith)

    M : Branches
    M = branches_from s f (suc a) (suc n)

    um : UpToChoice s r (suc a) M
    um = branches-up s w r f u (suc n) (suc a) (omega arith) hs

two-once : (s : List ℕ) → WellFormed s → (r x y : ℕ) (f : ℕ → Behaviour) → r < behaviour_count s → Later s r (λ j. Up s j (f j))
    → Later s r (λ j. EachRowOnce (f j)) → SubKept s r x → SubKept s r y → (x ≡ y → ⊥)
    → Outside r (f x) × Outside r (f y) × Apart (f x) (f y) × EachRowOnce (f x) × EachRowOnce (f y)
two-once s w r x y f l u e kx ky ne =
    let ux : Up s x (f x) = u x kx.child.later kx.child.exists in
    let uy : Up s y (f y) = u y ky.child.later ky.child.exists in (
      below_top s r x (f x) kx.child ux,
      below_top s r y (f y) ky.child uy,
      apart-children s w r x y (f x) (f y) l kx.child ky.child ne ux uy,
      e x kx.child.later kx.child.exists,
      e y ky.child.later ky.child.exists,
    )

row-once : (s : List ℕ) → WellFormed s → (r at : ℕ) → r < behaviour_count s → (f : ℕ → Behaviour) → Later s r (λ j. Up s j (f j))
    → Later s r (λ j. EachRowOnce (f j)) → (k : BehaviourKind)
    → RowKept s r at k → EachRowOnce (behaviour_from s f r at k)
unfolding behaviour_from EachRowOnce
row-once s w r at l f u e BehaviourKind.Nil h = tt
row-once s w r at l f u e BehaviourKind.OneWay h = tt
row-once s w r at l f u e BehaviourKind.RequestResponse h = (
  below_top s r (field_d s at) (f (field_d s at)) h.3.child (u (field_d s at) h.3.child.later h.3.child.exists),
  e (field_d s at)
      h.3.child.later h.3.child.exists,
)
row-once s w r at l f u e BehaviourKind.Notification h = tt
row-once s w r at l f u e BehaviourKind.SolicitResponse h = tt
row-once s w r at l f u e BehaviourKind.If h = two-once s w r (field_b s at) (field_c s at) f l u e h.1 h.2 h.3
row-once s w r at l f u e BehaviourKind.While h = (
  below_top s r (field_b s at) (f (field_b s at)) h.1.child (u (field_b s at) h.1.child.later h.1.child.exists),
  e (field_b s at)
      h.1.child.later h.1.child.exists,
)
row-once s w r at l f u e BehaviourKind.Sequence h = two-once s w r (field_a s at) (field_b s at) f l u e h.0 h.1 h.2
row-once s w r at l f u e BehaviourKind.Parallel h = two-once s w r (field_a s at) (field_b s at) f l u e h.0 h.1 h.2
row-once s w r at l f u e BehaviourKind.Assign h = tt
row-once s w r at l f u e BehaviourKind.Choice h = (
  (λ t. let o = h.0 in let z = (branches-up s w r f u (field_b s at) (field_a s at) h.0 h.2 r t).0 in let y = (h.2 (field_a s at)
      (omega arith) (omega arith)).child.later in omega arith),
  branches-once s w r f u e (field_b s at) (field_a s at) h.0 h.2,
)
row-once s w r at l f u e BehaviourKind.Branch h = tt
row-once s w r at l f u e BehaviourKind.Unknown h = tt

once-to : (s : List ℕ) → WellFormed s → (d r : ℕ) → r < behaviour_count s → EachRowOnce (behaviour_to s d r)
unfolding behaviour_to EachRowOnce
once-to s w zero r l = tt
once-to s w (suc d) r l =
    row-once s w r (behaviour_at s r) l (behaviour_to s d) (λ j x y q z. up_to s w d j y q z) (λ j x y. once-to s w d j y) (kind_at s r)
    (behaviour-kept s w r l)

pub each-row-once : (s : List ℕ) → WellFormed s → (r : ℕ) → r < behaviour_count s → EachRowOnce (behaviour_of s r)
unfolding behaviour_of
each-row-once s w r l = once-to s w (behaviour_count s) r l

-- A behaviour's rows are rows of the file, none before its top row.
pub rows_of : (s : List ℕ) → WellFormed s → (r i : ℕ) → r < behaviour_count s → T (has_row i (behaviour_of s r)) → (r ≤ i) × (i < behaviour_count s)
unfolding behaviour_of
rows_of s w r i l t = let h = up_to s w (behaviour_count s) r l i t in (h.0, h.1)

-- "A B row belongs to the one service and role": two different rows that services use have no row in common below them.
pub tops-apart : (s : List ℕ) → WellFormed s → (a b p q : ℕ) → a < behaviour_count s → b < behaviour_count s → p < service_count s → q < service_count s
    → 1 ≤ service_uses s a p → 1 ≤ service_uses s b q
    → (a ≡ b → ⊥) → Apart (behaviour_of s a) (behaviour_of s b)
unfolding behaviour_of
tops-apart s w a b p q la lb lp lq ua ub ne i ta tb =
    apart-tops s w a b (behaviour_to s (behaviour_count s) a) (behaviour_to s (behaviour_count s) b)
    (λ z x u. absurd (no-user s w a p z la lp ua x u))
    (λ z x u. absurd (no-user s w b q z lb lq ub x u))
    ne (up_to s w (behaviour_count s) a la) (up_to s w (behaviour_count s) b lb) i i (omega arith) ta tb
