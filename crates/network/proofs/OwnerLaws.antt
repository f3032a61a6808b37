-- Whose row is it? Every B row of an unrefused file stands in the starter or the client of a service (and in one alone,
-- by OnceLaws): "Each row is used exactly once, by a row or a service".
use Rattle.std.specs.Prelude.{ℕ, zero, suc, ◌+◌, ◌<◌, ◌≤◌, ◌≡◌, refl, List, Bool, true, false, not, ◌||◌, ◌⊎◌, T, eqb, leb, ltb}
use Rattle.std.proofs.Common.{sym, ap, subst, inl, inr, ⊎_elim, arith, eqb→eq}
use Rattle.std.proofs.Math.Dec.{eqb_refl}
use Rattle.tree_forest.specs.Compare.{Compare, lt, eq, gt, compare}
use Rattle.basics.specs.TestLaws.{and-of, clash, eq_of, le_of, lt_of, ne_of, not-T-false, or_case, or_l, or_r}
use Rattle.network_syntax.specs.Syntax.{Behaviour, Branches, some}
use Rattle.network.specs.declared.BehaviourKind.{BehaviourKind}
use Rattle.network.specs.Least.{sum_over}
use Rattle.network.specs.Layout.{behaviour_count, service_count, behaviour_at}
use Rattle.network.specs.Kinds.{behaviour_fields}
use Rattle.network.specs.Rows.{in_run, field_a, field_b, field_c, field_d, kind_at, is_branch_kind, is_input_kind, starter_row, client_row, no_row}
use Rattle.network.specs.Uses.{field_uses, one, uses_by, row_uses, service_uses, used_by_rows, used, uses_row}
use Rattle.network.specs.Form.{WellFormed}
use Rattle.network.specs.Decode.{branches_from, behaviour_from, behaviour_to, behaviour_of, service_of}
use Rattle.network_syntax.specs.Rows.{has_row, has_row_in}
use Rattle.network_syntax.specs.ViewLaws.{own_row}
use Rattle.network.specs.Shapes.{Role, as_starter, as_client, behaviour_as}
use Rattle.network.proofs.LeastLaws.{rule-kept}
use Rattle.network.proofs.RowLaws.{unbroken, counts-kept}
use Rattle.network.proofs.UseLaws.{Uses, BranchKept, RowKept, behaviour-kept, branch_kept, branch-kind}
use Rattle.network.proofs.BehaviourLaws.{BranchesKept, Later, row-to}
use Rattle.network.proofs.NetworkLaws.{top_row, top_of}

-- ---- a sum that is not 0 has a part that is not

sum-hit : (f : ℕ → ℕ) (n : ℕ) → 1 ≤ sum_over n f → (i : ℕ) × (i < n) × (1 ≤ f i)
unfolding sum_over
sum-hit f zero h = absurd (omega arith)
sum-hit f (suc n) h = go (f n) refl (λ k. sum-hit f n k)
  where
    go : (m : ℕ) → f n ≡ m → (1 ≤ sum_over n f → (i : ℕ) × (i < n) × (1 ≤ f i)) → (i : ℕ) × (i < suc n) × (1 ≤ f i)
    go zero e ih = let w = ih (omega arith) in let l = w.1 in (w.0, omega arith, w.2)
    go (suc m) e ih = (n, omega arith, omega arith)

one_hit : (a : Bool) → 1 ≤ one a → a ≡ true
one_hit true h = refl
one_hit false h = absurd (omega arith)

two-hit : (a b : Bool) → 1 ≤ one a + one b → (a ≡ true) ⊎ (b ≡ true)
two-hit true b h = inl refl
two-hit false b h = inr (one_hit b (omega arith))

-- ---- what a row of each kind uses

abbrev UsedBy : List ℕ → ℕ → ℕ → BehaviourKind → Type 0
UsedBy s at t BehaviourKind.Nil = ⊥
UsedBy s at t BehaviourKind.OneWay = ⊥
UsedBy s at t BehaviourKind.RequestResponse = field_d s at ≡ t
UsedBy s at t BehaviourKind.Notification = ⊥
UsedBy s at t BehaviourKind.SolicitResponse = ⊥
UsedBy s at t BehaviourKind.If = (field_b s at ≡ t) ⊎ (field_c s at ≡ t)
UsedBy s at t BehaviourKind.While = field_b s at ≡ t
UsedBy s at t BehaviourKind.Sequence = (field_a s at ≡ t) ⊎ (field_b s at ≡ t)
UsedBy s at t BehaviourKind.Parallel = (field_a s at ≡ t) ⊎ (field_b s at ≡ t)
UsedBy s at t BehaviourKind.Assign = ⊥
UsedBy s at t BehaviourKind.Choice = (field_a s at ≤ t) × (t < field_a s at + field_b s at)
UsedBy s at t BehaviourKind.Branch = (field_a s at ≡ t) ⊎ (field_b s at ≡ t)
UsedBy s at t BehaviourKind.Unknown = ⊥

used-by : (s : List ℕ) (at t : ℕ) (k : BehaviourKind) → 1 ≤ uses_by s t at (behaviour_fields k) → UsedBy s at t k
unfolding behaviour_fields field_uses
used-by s at t BehaviourKind.Nil h = absurd (omega arith)
used-by s at t BehaviourKind.OneWay h = absurd (omega arith)
used-by s at t BehaviourKind.RequestResponse h = eq_of (field_d s at) t (one_hit (eqb (field_d s at) t) (omega arith))
used-by s at t BehaviourKind.Notification h = absurd (omega arith)
used-by s at t BehaviourKind.SolicitResponse h = absurd (omega arith)
used-by s at t BehaviourKind.If h =
    ⊎_elim (λ e. inl (eq_of (field_b s at) t e)) (λ e. inr (eq_of (field_c s at) t e))
    (two-hit (eqb (field_b s at) t) (eqb (field_c s at) t) (omega arith))
used-by s at t BehaviourKind.While h = eq_of (field_b s at) t (one_hit (eqb (field_b s at) t) (omega arith))
used-by s at t BehaviourKind.Sequence h =
    ⊎_elim (λ e. inl (eq_of (field_a s at) t e)) (λ e. inr (eq_of (field_b s at) t e))
    (two-hit (eqb (field_a s at) t) (eqb (field_b s at) t) (omega arith))
used-by s at t BehaviourKind.Parallel h =
    ⊎_elim (λ e. inl (eq_of (field_a s at) t e)) (λ e. inr (eq_of (field_b s at) t e))
    (two-hit (eqb (field_a s at) t) (eqb (field_b s at) t) (omega arith))
used-by s at t BehaviourKind.Assign h = absurd (omega arith)
used-by s at t BehaviourKind.Choice h =
    let e = one_hit (in_run (field_a s at) (field_b s at) t) (omega arith) in
    let a = and-of (leb (field_a s at) t) (ltb t (field_a s at + field_b s at)) e in
    (le_of (field_a s at) t a.0, lt_of t (field_a s at + field_b s at) a.1)
used-by s at t BehaviourKind.Branch h =
    ⊎_elim (λ e. inl (eq_of (field_a s at) t e)) (λ e. inr (eq_of (field_b s at) t e))
    (two-hit (eqb (field_a s at) t) (eqb (field_b s at) t) (omega arith))
used-by s at t BehaviourKind.Unknown h = absurd (omega arith)

row-used-by : (s : List ℕ) (r t : ℕ) → Uses s r t → UsedBy s (behaviour_at s r) t (kind_at s r)
unfolding row_uses
row-used-by s r t u = used-by s (behaviour_at s r) t (kind_at s r) u

branch-used-by : (s : List ℕ) (r a t : ℕ) → BranchKept s r a → Uses s a t → UsedBy s (behaviour_at s a) t BehaviourKind.Branch
branch-used-by s r a t k u = subst (λ (x : BehaviourKind). UsedBy s (behaviour_at s a) t x) k.kind (row-used-by s a t u)

-- A used row is a later one.
later-by : (s : List ℕ) (r at t : ℕ) (k : BehaviourKind) → RowKept s r at k → UsedBy s at t k → r < t
later-by s r at t BehaviourKind.Nil h e = absurd e
later-by s r at t BehaviourKind.OneWay h e = absurd e
later-by s r at t BehaviourKind.RequestResponse h e = let l = h.3.child.later in omega arith
later-by s r at t BehaviourKind.Notification h e = absurd e
later-by s r at t BehaviourKind.SolicitResponse h e = absurd e
later-by s r at t BehaviourKind.If h e =
    ⊎_elim (λ z. let l = h.1.child.later in omega arith) (λ z. let l = h.2.child.later in omega arith) e
later-by s r at t BehaviourKind.While h e = let l = h.1.child.later in omega arith
later-by s r at t BehaviourKind.Sequence h e =
    ⊎_elim (λ z. let l = h.0.child.later in omega arith) (λ z. let l = h.1.child.later in omega arith) e
later-by s r at t BehaviourKind.Parallel h e =
    ⊎_elim (λ z. let l = h.0.child.later in omega arith) (λ z. let l = h.1.child.later in omega arith) e
later-by s r at t BehaviourKind.Assign h e = absurd e
later-by s r at t BehaviourKind.Choice h e = (h.2 t e.0 e.1).child.later
later-by s r at t BehaviourKind.Branch h e =
    ⊎_elim (λ z. let l = h.0.child.later in omega arith) (λ z. let l = h.1.child.later in omega arith) e
later-by s r at t BehaviourKind.Unknown h e = absurd h

-- ---- a behaviour has the rows that its rows use

-- Row t stands in X if a row of X uses it.
abbrev Closed : List ℕ → ℕ → ℕ → Behaviour → Type 0
Closed s r t X = T (has_row r X) → T (has_row t X)

top_to : (s : List ℕ) (d r : ℕ) → T (has_row r (behaviour_to s d r))
top_to s d r = subst (λ (i : ℕ). T (has_row i (behaviour_to s d r))) (row-to s d r) (own_row (behaviour_to s d r))

-- Every row of a choice's run is a branch of it.
run_in : (s : List ℕ) (f : ℕ → Behaviour) (t n a : ℕ) → a ≤ t → t < a + n → T (has_row_in t (branches_from s f a n))
unfolding branches_from has_row_in
run_in s f t zero a x y = absurd (omega arith)
run_in s f t (suc zero) a x y = or_l (eqb t a) _ (subst (λ (z : ℕ). T (eqb t z)) (omega arith) (eqb_refl t))
run_in s f t (suc (suc n)) a x y = go (compare t a) (λ z. run_in s f t (suc n) (suc a) z (omega arith))
  where
    X : Behaviour
    X = f (field_a s (behaviour_at s a))

    Y : Behaviour
    Y = f (field_b s (behaviour_at s a))

    M : Branches
    M = branches_from s f (suc a) (suc n)

    go : Compare t a → (suc a ≤ t → T (has_row_in t M)) → T (eqb t a || ((has_row t X || has_row t Y) || has_row_in t M))
    go (lt h) ih = absurd (omega arith)
    go (eq h) ih = or_l (eqb t a) ((has_row t X || has_row t Y) || has_row_in t M) (subst (λ (z : ℕ). T (eqb t z)) h (eqb_refl t))
    go (gt h) ih = or_r (eqb t a) ((has_row t X || has_row t Y) || has_row_in t M)
        (or_r (has_row t X || has_row t Y) (has_row_in t M) (ih (omega arith)))

moved : (f : ℕ → Behaviour) (x t : ℕ) → x ≡ t → T (has_row x (f x)) → T (has_row t (f x))
moved f x t e h = subst (λ (z : ℕ). T (has_row z (f x))) e h

no-branch : (k : BehaviourKind) → is_input_kind k ≡ true → is_branch_kind k ≡ false
no-branch k e = go (is_branch_kind k) refl
  where
    go : (t : Bool) → is_branch_kind k ≡ t → t ≡ false
    go true f = absurd (clash e (ap is_input_kind (branch-kind k f)))
    go false f = refl

-- Two parts, from the rows x and y, which row a uses.
pair-closed : (s : List ℕ) (a r t x y : ℕ) (f : ℕ → Behaviour) → T (has_row x (f x)) → T (has_row y (f y)) → (r ≡ a → (x ≡ t) ⊎ (y ≡ t))
    → Closed s r t (f x) → Closed s r t (f y) → T (eqb r a || (has_row r (f x) || has_row r (f y))) → T (has_row t (f x) || has_row t (f y))
pair-closed s a r t x y f tx ty u cx cy h =
    or_case (eqb r a) (has_row r (f x) || has_row r (f y))
    (λ e. ⊎_elim
    (λ z. or_l (has_row t (f x)) (has_row t (f y)) (moved f x t z tx))
    (λ z. or_r (has_row t (f x)) (has_row t (f y)) (moved f y t z ty))
    (u (eqb→eq r a e)))
    (λ e. or_case (has_row r (f x)) (has_row r (f y))
    (λ z. or_l (has_row t (f x)) (has_row t (f y)) (cx z))
    (λ z. or_r (has_row t (f x)) (has_row t (f y)) (cy z)) e)
    h

branches-closed : (s : List ℕ) → WellFormed s → (p r t : ℕ) (f : ℕ → Behaviour) → Uses s r t → ((j : ℕ) → T (has_row j (f j)))
    → Later s p (λ j. is_branch_kind (kind_at s j) ≡ false → Closed s r t (f j)) → (n a : ℕ) → 1 ≤ n → BranchesKept s p a n
    → T (has_row_in r (branches_from s f a n)) → T (has_row_in t (branches_from s f a n))
unfolding branches_from has_row_in
branches-closed s w p r t f u tops ih zero a o h z = absurd (omega arith)
branches-closed s w p r t f u tops ih (suc zero) a o h z =
    let k = h a (omega arith) (omega arith) in
    let b = branch_kept s w p a k in
    let l = k.child.later in
    let x : ℕ = field_a s (behaviour_at s a) in
    let y : ℕ = field_b s (behaviour_at s a) in
    or_r (eqb t a) (has_row t (f x) || has_row t (f y))
    (pair-closed s a r t x y f (tops x) (tops y)
    (λ e. branch-used-by s p a t k (subst (λ (q : ℕ). Uses s q t) e u))
    (ih x (let m = b.0.child.later in omega arith) b.0.child.exists (no-branch (kind_at s x) b.0.kind))
    (ih y (let m = b.1.child.later in omega arith) b.1.child.exists b.1.kind) z)
branches-closed s w p r t f u tops ih (suc (suc n)) a o h z =
    or_r (eqb t a) ((has_row t (f x) || has_row t (f y)) || has_row_in t M)
    (or_case (eqb r a) ((has_row r (f x) || has_row r (f y)) || has_row_in r M)
    (λ e. this (or_l (eqb r a) (has_row r (f x) || has_row r (f y)) e))
    (λ e. or_case (has_row r (f x) || has_row r (f y)) (has_row_in r M)
    (λ v. this (or_r (eqb r a) (has_row r (f x) || has_row r (f y)) v))
    (λ v. or_r (has_row t (f x) || has_row t (f y)) (has_row_in t M)
    (branches-closed s w p r t f u tops ih (suc n) (suc a) (omega arith) (λ j c d. h j (omega arith) (omega arith)) v)) e)
    z)
  where
    x : ℕ
    x = field_a s (behaviour_at s a)

    y : ℕ
    y = field_b s (behaviour_at s a)

    M : Branches
    M = branches_from s f (suc a) (suc n)

    k : BranchKept s p a
    k = h a (omega arith) (omega arith)

    b : RowKept s a (behaviour_at s a) BehaviourKind.Branch
    b = branch_kept s w p a k

    this : T (eqb r a || (has_row r (f x) || has_row r (f y))) → T ((has_row t (f x) || has_row t (f y)) || has_row_in t M)
    this v =
        or_l (has_row t (f x) || has_row t (f y)) (has_row_in t M)
        (pair-closed s a r t x y f (tops x) (tops y)
        (λ e. branch-used-by s p a t k (subst (λ (q : ℕ). Uses s q t) e u))
        (ih x (let l = k.child.later in let m = b.0.child.later in omega arith) b.0.child.exists (no-branch (kind_at s x) b.0.kind))
        (ih y (let l = k.child.later in let m = b.1.child.later in omega arith) b.1.child.exists b.1.kind) v)

-- Row t, which row r uses; `own` is what is known of it where r is the row a itself.
row-closed : (s : List ℕ) → WellFormed s → (a at r t : ℕ) (f : ℕ → Behaviour) → Uses s r t → ((j : ℕ) → T (has_row j (f j)))
    → Later s a (λ j. is_branch_kind (kind_at s j) ≡ false → Closed s r t (f j)) → (k : BehaviourKind) → RowKept s a at k
    → is_branch_kind k ≡ false → (r ≡ a → UsedBy s at t k) → Closed s r t (behaviour_from s f a at k)
unfolding behaviour_from has_row
row-closed s w a at r t f u tops ih BehaviourKind.Nil h nb own z = absurd (own (eqb→eq r a z))
row-closed s w a at r t f u tops ih BehaviourKind.OneWay h nb own z = absurd (own (eqb→eq r a z))
row-closed s w a at r t f u tops ih BehaviourKind.RequestResponse h nb own z =
    or_r (eqb t a) (has_row t (f (field_d s at)))
    (or_case (eqb r a) (has_row r (f (field_d s at)))
    (λ e. moved f (field_d s at) t (own (eqb→eq r a e)) (tops (field_d s at)))
    (λ e. ih (field_d s at) h.3.child.later h.3.child.exists h.3.kind e) z)
row-closed s w a at r t f u tops ih BehaviourKind.Notification h nb own z = absurd (own (eqb→eq r a z))
row-closed s w a at r t f u tops ih BehaviourKind.SolicitResponse h nb own z = absurd (own (eqb→eq r a z))
row-closed s w a at r t f u tops ih BehaviourKind.If h nb own z =
    or_r (eqb t a) (has_row t (f (field_b s at)) || has_row t (f (field_c s at)))
    (pair-closed s a r t (field_b s at) (field_c s at) f (tops (field_b s at)) (tops (field_c s at)) own
    (ih (field_b s at) h.1.child.later h.1.child.exists h.1.kind)
    (ih (field_c s at) h.2.child.later h.2.child.exists h.2.kind) z)
row-closed s w a at r t f u tops ih BehaviourKind.While h nb own z =
    or_r (eqb t a) (has_row t (f (field_b s at)))
    (or_case (eqb r a) (has_row r (f (field_b s at)))
    (λ e. moved f (field_b s at) t (own (eqb→eq r a e)) (tops (field_b s at)))
    (λ e. ih (field_b s at) h.1.child.later h.1.child.exists h.1.kind e) z)
row-closed s w a at r t f u tops ih BehaviourKind.Sequence h nb own z =
    or_r (eqb t a) (has_row t (f (field_a s at)) || has_row t (f (field_b s at)))
    (pair-closed s a r t (field_a s at) (field_b s at) f (tops (field_a s at)) (tops (field_b s at)) own
    (ih (field_a s at) h.0.child.later h.0.child.exists h.0.kind)
    (ih (field_b s at) h.1.child.later h.1.child.exists h.1.kind) z)
row-closed s w a at r t f u tops ih BehaviourKind.Parallel h nb own z =
    or_r (eqb t a) (has_row t (f (field_a s at)) || has_row t (f (field_b s at)))
    (pair-closed s a r t (field_a s at) (field_b s at) f (tops (field_a s at)) (tops (field_b s at)) own
    (ih (field_a s at) h.0.child.later h.0.child.exists h.0.kind)
    (ih (field_b s at) h.1.child.later h.1.child.exists h.1.kind) z)
row-closed s w a at r t f u tops ih BehaviourKind.Assign h nb own z = absurd (own (eqb→eq r a z))
row-closed s w a at r t f u tops ih BehaviourKind.Choice h nb own z =
    or_r (eqb t a) (has_row_in t (branches_from s f (field_a s at) (field_b s at)))
    (or_case (eqb r a) (has_row_in r (branches_from s f (field_a s at) (field_b s at)))
    (λ e. let o = own (eqb→eq r a e) in run_in s f t (field_b s at) (field_a s at) o.0 o.1)
    (λ e. branches-closed s w a r t f u tops ih (field_b s at) (field_a s at) h.0 h.2 e) z)
row-closed s w a at r t f u tops ih BehaviourKind.Branch h nb own z = let q : ◌≡◌ {A = ℕ} 0 1 = cc in absurd (omega arith)
row-closed s w a at r t f u tops ih BehaviourKind.Unknown h nb own z = absurd h

closed-to : (s : List ℕ) → WellFormed s → (r t : ℕ) → Uses s r t → (d a : ℕ) → a < behaviour_count s → behaviour_count s ≤ a + d
    → is_branch_kind (kind_at s a) ≡ false → Closed s r t (behaviour_to s d a)
unfolding behaviour_to
closed-to s w r t u zero a l h nb = absurd (omega arith)
closed-to s w r t u (suc d) a l h nb =
    row-closed s w a (behaviour_at s a) r t (behaviour_to s d) u (top_to s d) (λ j x y z. closed-to s w r t u d j y (omega arith) z) (kind_at s a)
    (behaviour-kept s w a l) nb (λ e. row-used-by s a t (subst (λ (q : ℕ). Uses s q t) e u))

-- A behaviour has every row that one of its rows uses.
pub used-inside : (s : List ℕ) → WellFormed s → (a r t : ℕ) → a < behaviour_count s → is_branch_kind (kind_at s a) ≡ false → Uses s r t
    → T (has_row r (behaviour_of s a)) → T (has_row t (behaviour_of s a))
unfolding behaviour_of
used-inside s w a r t l nb u z = closed-to s w r t u (behaviour_count s) a l (omega arith) nb z

-- ---- whose row

-- B row t stands in the behaviour of service q in the role x.
pub record Owned (s : List ℕ) (t : ℕ) : Type 0 where
  pub service : ℕ
  pub role : Role
  pub behaviour : Behaviour
  pub exists : service < service_count s
  pub is_there : behaviour_as role (service_of s service) ≡ some behaviour
  pub inside : T (has_row t behaviour)

-- What uses row t: a B row or a service.
users : (s : List ℕ) → WellFormed s → (t : ℕ) → t < behaviour_count s
    → ((r : ℕ) × (r < behaviour_count s) × Uses s r t) ⊎ ((q : ℕ) × (q < service_count s) × (1 ≤ service_uses s t q))
unfolding uses_row used used_by_rows
users s w t l = go (sum_over (behaviour_count s) (row_uses s t)) refl
  where
    some-use : used s t (service_count s) ≡ 0 → ⊥
    some-use = ne_of (used s t (service_count s)) 0
        (rule-kept (not (eqb (used s t (service_count s)) 0)) (behaviour_at s t) _ ((unbroken s w).uses t l)).0

    go : (m : ℕ) → sum_over (behaviour_count s) (row_uses s t) ≡ m
        → ((r : ℕ) × (r < behaviour_count s) × Uses s r t) ⊎ ((q : ℕ) × (q < service_count s) × (1 ≤ service_uses s t q))
    go zero e = inr (sum-hit (service_uses s t) (service_count s) (positive-sum (sum_over (service_count s) (service_uses s t)) refl))
      where
        positive-sum : (m : ℕ) → sum_over (service_count s) (service_uses s t) ≡ m → 1 ≤ sum_over (service_count s) (service_uses s t)
        positive-sum zero f = absurd (some-use (omega arith))
        positive-sum (suc m) f = omega arith
    go (suc m) e = inl (sum-hit (row_uses s t) (behaviour_count s) (omega arith))

no-row : (s : List ℕ) → WellFormed s → (t : ℕ) → t < behaviour_count s → eqb t no_row ≡ false
no-row s w t l = not-T-false (eqb t no_row) (λ z. let e = eqb→eq t no_row z in let c = (counts-kept s w).behaviours in omega arith)

owned-top : (s : List ℕ) → WellFormed s → (t q : ℕ) → t < behaviour_count s → q < service_count s → 1 ≤ service_uses s t q → Owned s t
unfolding service_uses service_of behaviour_of
owned-top s w t q l lq u = ⊎_elim starting serving (two-hit (eqb (starter_row s q) t) (eqb (client_row s q) t) u)
  where
    starting : eqb (starter_row s q) t ≡ true → Owned s t
    starting e =
        let f : starter_row s q ≡ t = eq_of (starter_row s q) t e in
        record {
          service = q;
          role = as_starter;
          behaviour = behaviour_of s t;
          exists = lq;
          is_there = rw (f, no-row s w t l) refl;
          inside = top_to s (behaviour_count s) t;
        }

    serving : eqb (client_row s q) t ≡ true → Owned s t
    serving e =
        let f : client_row s q ≡ t = eq_of (client_row s q) t e in
        record {
          service = q;
          role = as_client;
          behaviour = behaviour_of s t;
          exists = lq;
          is_there = rw (f, no-row s w t l) refl;
          inside = top_to s (behaviour_count s) t;
        }

owned_below : (s : List ℕ) → WellFormed s → (n t : ℕ) → t ≤ n → t < behaviour_count s → Owned s t
owned_below s w zero t h l = ⊎_elim (λ v. absurd (early v)) (λ v. owned-top s w t v.0 l v.1 v.2) (users s w t l)
  where
    early : ((r : ℕ) × (r < behaviour_count s) × Uses s r t) → ⊥
    early v =
        let m = later-by s v.0 (behaviour_at s v.0) t (kind_at s v.0) (behaviour-kept s w v.0 v.1) (row-used-by s v.0 t v.2) in
        omega arith
owned_below s w (suc n) t h l = ⊎_elim (λ v. under-row v (λ m. owned_below s w n v.0 m v.1)) (λ v. owned-top s w t v.0 l v.1 v.2)
    (users s w t l)
  where
    under-row : (v : (r : ℕ) × (r < behaviour_count s) × Uses s r t) → (v.0 ≤ n → Owned s v.0) → Owned s t
    under-row v ih =
        let m = later-by s v.0 (behaviour_at s v.0) t (kind_at s v.0) (behaviour-kept s w v.0 v.1) (row-used-by s v.0 t v.2) in
        let o = ih (omega arith) in
        let k = top_of s w o.service o.exists o.role o.behaviour o.is_there in
        let a : ℕ = top_row s o.service o.role in
        let i : T (has_row v.0 (behaviour_of s a)) = subst (λ (b : Behaviour). T (has_row v.0 b)) k.is_top o.inside in
        let j : T (has_row t (behaviour_of s a)) = used-inside s w a v.0 t k.kept.exists k.kept.kind v.2 i in
        record {
          service = o.service;
          role = o.role;
          behaviour = o.behaviour;
          exists = o.exists;
          is_there = o.is_there;
          inside = subst (λ (b : Behaviour). T (has_row t b)) (sym k.is_top) j;
        }

-- Every B row stands in the starter or the client of a service.
pub row-owned : (s : List ℕ) → WellFormed s → (t : ℕ) → t < behaviour_count s → Owned s t
row-owned s w t l = owned_below s w t t (omega arith) l
