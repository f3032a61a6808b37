-- The behaviours of an unrefused file: row equations without a level bound, branches that begin with inputs, the
-- shapes of their parts, and every row's operation.
use Rattle.std.specs.Prelude.{ℕ, zero, suc, ◌+◌, ◌<◌, ◌≤◌, ◌≡◌, refl, List, true, false, T}
use Rattle.std.proofs.Common.{sym, ◌∙◌, ap, subst, arith}
use Rattle.basics.specs.TestLaws.{apart}
use Rattle.network_syntax.specs.Syntax.{Behaviour, choice}
use Rattle.network.specs.declared.BehaviourKind.{BehaviourKind}
use Rattle.network.specs.Layout.{behaviour_count, behaviour_at}
use Rattle.network.specs.Rows.{field_a, field_b, field_c, field_d, kind_at, is_branch_kind, is_choice_kind, is_input_kind}
use Rattle.network.specs.Form.{WellFormed}
use Rattle.network.specs.Decode.{branches_from, behaviour_from, behaviour_to, behaviour_of, row_operation}
use Rattle.network_syntax.specs.Rows.{row_of}
use Rattle.network.specs.Shapes.{BehaviourShape, BranchesShape}
use Rattle.network.specs.Shapes.{is_input_behaviour, is_choice_behaviour, AsInFile, BranchesInFile, OperationsBy, BranchOperationsBy}
use Rattle.network.proofs.DecodeLaws.{path-shape, expression-shape, operation-shape}
use Rattle.network.proofs.UseLaws.{BranchKept, RowKept, behaviour-kept, branch_kept, choice-kind}

-- The n branches from row a on, of the choice r.
abbrev pub BranchesKept : List ℕ → ℕ → ℕ → ℕ → Type 0
BranchesKept s r a n = (j : ℕ) → a ≤ j → j < a + n → BranchKept s r j

-- Later rows of r: where sub-behaviours are.
abbrev pub Later : List ℕ → ℕ → (ℕ → Type 0) → Type 0
Later s r P = (j : ℕ) → r < j → j < behaviour_count s → P j

-- ---- row equations

same-branches : (s : List ℕ) → WellFormed s → (r : ℕ) (f g : ℕ → Behaviour) → Later s r (λ j. f j ≡ g j) → (n a : ℕ) → BranchesKept s r a n
    → branches_from s f a n ≡ branches_from s g a n
unfolding branches_from
same-branches s w r f g e zero a h = refl
same-branches s w r f g e (suc zero) a h =
    let k = h a (omega arith) (omega arith) in
    let b = branch_kept s w r a k in
    let l = k.child.later in
    let x = e (field_a s (behaviour_at s a)) (let y = b.0.child.later in omega arith) b.0.child.exists in
    let z = e (field_b s (behaviour_at s a)) (let y = b.1.child.later in omega arith) b.1.child.exists in
    cc
same-branches s w r f g e (suc (suc n)) a h =
    let k = h a (omega arith) (omega arith) in
    let b = branch_kept s w r a k in
    let l = k.child.later in
    let x = e (field_a s (behaviour_at s a)) (let y = b.0.child.later in omega arith) b.0.child.exists in
    let z = e (field_b s (behaviour_at s a)) (let y = b.1.child.later in omega arith) b.1.child.exists in
    let m = same-branches s w r f g e (suc n) (suc a) (λ j p q. h j (omega arith) (omega arith)) in
    cc

same_row : (s : List ℕ) → WellFormed s → (r at : ℕ) (f g : ℕ → Behaviour) → Later s r (λ j. f j ≡ g j) → (k : BehaviourKind) → RowKept s r at k
    → behaviour_from s f r at k ≡ behaviour_from s g r at k
unfolding behaviour_from
same_row s w r at f g e BehaviourKind.Nil h = refl
same_row s w r at f g e BehaviourKind.OneWay h = refl
same_row s w r at f g e BehaviourKind.RequestResponse h = let x = e (field_d s at) h.3.child.later h.3.child.exists in cc
same_row s w r at f g e BehaviourKind.Notification h = refl
same_row s w r at f g e BehaviourKind.SolicitResponse h = refl
same_row s w r at f g e BehaviourKind.If h =
    let x = e (field_b s at) h.1.child.later h.1.child.exists in
    let y = e (field_c s at) h.2.child.later h.2.child.exists in
    cc
same_row s w r at f g e BehaviourKind.While h = let x = e (field_b s at) h.1.child.later h.1.child.exists in cc
same_row s w r at f g e BehaviourKind.Sequence h =
    let x = e (field_a s at) h.0.child.later h.0.child.exists in
    let y = e (field_b s at) h.1.child.later h.1.child.exists in
    cc
same_row s w r at f g e BehaviourKind.Parallel h =
    let x = e (field_a s at) h.0.child.later h.0.child.exists in
    let y = e (field_b s at) h.1.child.later h.1.child.exists in
    cc
same_row s w r at f g e BehaviourKind.Assign h = refl
same_row s w r at f g e BehaviourKind.Choice h = ap (choice r) (same-branches s w r f g e (field_b s at) (field_a s at) h.2)
same_row s w r at f g e BehaviourKind.Branch h = refl
same_row s w r at f g e BehaviourKind.Unknown h = refl

-- With as many levels as rows are left, more levels change nothing.
same-levels : (s : List ℕ) → WellFormed s → (d e r : ℕ) → r < behaviour_count s → behaviour_count s ≤ r + d → behaviour_count s ≤ r + e
    → behaviour_to s d r ≡ behaviour_to s e r
unfolding behaviour_to
same-levels s w zero e r l h k = absurd (omega arith)
same-levels s w (suc d) zero r l h k = absurd (omega arith)
same-levels s w (suc d) (suc e) r l h k =
    same_row s w r (behaviour_at s r) (behaviour_to s d) (behaviour_to s e) (λ j x y. same-levels s w d e j y (omega arith) (omega arith))
    (kind_at s r) (behaviour-kept s w r l)

-- B row r by its kind, over its sub-behaviours.
pub behaviour-row : (s : List ℕ) → WellFormed s → (r : ℕ) → r < behaviour_count s
    → behaviour_of s r ≡ behaviour_from s (behaviour_of s) r (behaviour_at s r) (kind_at s r)
unfolding behaviour_of behaviour_to
behaviour-row s w r l = same-levels s w (behaviour_count s) (suc (behaviour_count s)) r l (omega arith) (omega arith)

-- ---- the shapes of parts

branches-shape : (s : List ℕ) → WellFormed s → (r : ℕ) (f : ℕ → Behaviour) → Later s r (λ j. BehaviourShape (f j)) → (n a : ℕ) → BranchesKept s r a n
    → BranchesShape (branches_from s f a n)
unfolding branches_from BehaviourShape BranchesShape
branches-shape s w r f e zero a h = (tt, tt)
branches-shape s w r f e (suc zero) a h =
    let k = h a (omega arith) (omega arith) in
    let b = branch_kept s w r a k in
    let l = k.child.later in (
      e (field_a s (behaviour_at s a)) (let y = b.0.child.later in omega arith) b.0.child.exists,
      e (field_b s (behaviour_at s a)) (let y = b.1.child.later in omega arith) b.1.child.exists,
    )
branches-shape s w r f e (suc (suc n)) a h =
    let k = h a (omega arith) (omega arith) in
    let b = branch_kept s w r a k in
    let l = k.child.later in (
      e (field_a s (behaviour_at s a)) (let y = b.0.child.later in omega arith) b.0.child.exists,
      e (field_b s (behaviour_at s a)) (let y = b.1.child.later in omega arith) b.1.child.exists,
      branches-shape s w r f e (suc n) (suc a) (λ j p q. h j (omega arith) (omega arith)),
    )

row-shape : (s : List ℕ) → WellFormed s → (r at : ℕ) (f : ℕ → Behaviour) → Later s r (λ j. BehaviourShape (f j)) → (k : BehaviourKind)
    → RowKept s r at k → BehaviourShape (behaviour_from s f r at k)
unfolding behaviour_from BehaviourShape
row-shape s w r at f e BehaviourKind.Nil h = tt
row-shape s w r at f e BehaviourKind.OneWay h = (operation-shape s w (field_a s at) h.0, path-shape s w (field_b s at) h.1)
row-shape s w r at f e BehaviourKind.RequestResponse h = (
  operation-shape s w (field_a s at) h.0,
  path-shape s w (field_b s at) h.1,
  path-shape s w (field_c s at) h.2,
  e (field_d s at) h.3.child.later h.3.child.exists,
)
row-shape s w r at f e BehaviourKind.Notification h = (operation-shape s w (field_a s at) h.0, expression-shape s w (field_b s at) h.1)
row-shape s w r at f e BehaviourKind.SolicitResponse h =
    (operation-shape s w (field_a s at) h.0, expression-shape s w (field_b s at) h.1, path-shape s w (field_c s at) h.2)
row-shape s w r at f e BehaviourKind.If h = (
  expression-shape s w (field_a s at) h.0,
  e (field_b s at) h.1.child.later h.1.child.exists,
  e (field_c s at) h.2.child.later h.2.child.exists,
)
row-shape s w r at f e BehaviourKind.While h = (expression-shape s w (field_a s at) h.0, e (field_b s at) h.1.child.later h.1.child.exists)
row-shape s w r at f e BehaviourKind.Sequence h =
    (e (field_a s at) h.0.child.later h.0.child.exists, e (field_b s at) h.1.child.later h.1.child.exists)
row-shape s w r at f e BehaviourKind.Parallel h =
    (e (field_a s at) h.0.child.later h.0.child.exists, e (field_b s at) h.1.child.later h.1.child.exists)
row-shape s w r at f e BehaviourKind.Assign h = (path-shape s w (field_a s at) h.0, expression-shape s w (field_b s at) h.1)
row-shape s w r at f e BehaviourKind.Choice h = branches-shape s w r f e (field_b s at) (field_a s at) h.2
row-shape s w r at f e BehaviourKind.Branch h = tt
row-shape s w r at f e BehaviourKind.Unknown h = tt

shape-to : (s : List ℕ) → WellFormed s → (d r : ℕ) → r < behaviour_count s → BehaviourShape (behaviour_to s d r)
unfolding behaviour_to BehaviourShape
shape-to s w zero r l = tt
shape-to s w (suc d) r l = row-shape s w r (behaviour_at s r) (behaviour_to s d) (λ j x y. shape-to s w d j y) (kind_at s r) (behaviour-kept s w r l)

pub behaviour-shape : (s : List ℕ) → WellFormed s → (r : ℕ) → r < behaviour_count s → BehaviourShape (behaviour_of s r)
unfolding behaviour_of
behaviour-shape s w r l = shape-to s w (behaviour_count s) r l

-- ---- as in the file

-- What is said of B row r of kind k as a part of the file.
abbrev InFile : BehaviourKind → Behaviour → Type 0
InFile k b = (is_branch_kind k ≡ false → AsInFile b) × (is_input_kind k ≡ true → T (is_input_behaviour b) × AsInFile b)

branches-in : (s : List ℕ) → WellFormed s → (r : ℕ) (f : ℕ → Behaviour) → Later s r (λ j. InFile (kind_at s j) (f j))
    → (n a : ℕ) → 1 ≤ n → BranchesKept s r a n → BranchesInFile (branches_from s f a n)
unfolding branches_from BranchesInFile
branches-in s w r f e zero a o h = absurd (omega arith)
branches-in s w r f e (suc zero) a o h =
    let k = h a (omega arith) (omega arith) in
    let b = branch_kept s w r a k in
    let l = k.child.later in
    let x = (e (field_a s (behaviour_at s a)) (let y = b.0.child.later in omega arith) b.0.child.exists).1 b.0.kind in
    (x.0, x.1, (e (field_b s (behaviour_at s a)) (let y = b.1.child.later in omega arith) b.1.child.exists).0 b.1.kind)
branches-in s w r f e (suc (suc n)) a o h =
    let k = h a (omega arith) (omega arith) in
    let b = branch_kept s w r a k in
    let l = k.child.later in
    let x = (e (field_a s (behaviour_at s a)) (let y = b.0.child.later in omega arith) b.0.child.exists).1 b.0.kind in (
      x.0,
      x.1,
      (e (field_b s (behaviour_at s a)) (let y = b.1.child.later in omega arith) b.1.child.exists).0 b.1.kind,
      branches-in s w r f e (suc n) (suc a) (omega arith) (λ j p q. h j (omega arith) (omega arith)),
    )

row_in : (s : List ℕ) → WellFormed s → (r at : ℕ) (f : ℕ → Behaviour) → Later s r (λ j. InFile (kind_at s j) (f j)) → (k : BehaviourKind)
    → RowKept s r at k → InFile k (behaviour_from s f r at k)
unfolding behaviour_from AsInFile
row_in s w r at f e BehaviourKind.Nil h = (λ z. tt, λ z. apart z)
row_in s w r at f e BehaviourKind.OneWay h = (λ z. tt, λ z. (tt, tt))
row_in s w r at f e BehaviourKind.RequestResponse h = (
  λ z. (e (field_d s at) h.3.child.later h.3.child.exists).0 h.3.kind,
  λ z.
      (tt, (e (field_d s at) h.3.child.later h.3.child.exists).0 h.3.kind),
)
row_in s w r at f e BehaviourKind.Notification h = (λ z. tt, λ z. apart z)
row_in s w r at f e BehaviourKind.SolicitResponse h = (λ z. tt, λ z. apart z)
row_in s w r at f e BehaviourKind.If h = (
  λ z. (
    (e (field_b s at) h.1.child.later h.1.child.exists).0 h.1.kind,
    (e (field_c s at) h.2.child.later h.2.child.exists).0
        h.2.kind,
  ),
  λ z. apart z,
)
row_in s w r at f e BehaviourKind.While h = (λ z. (e (field_b s at) h.1.child.later h.1.child.exists).0 h.1.kind, λ z. apart z)
row_in s w r at f e BehaviourKind.Sequence h = (
  λ z. (
    (e (field_a s at) h.0.child.later h.0.child.exists).0 h.0.kind,
    (e (field_b s at) h.1.child.later
        h.1.child.exists).0 h.1.kind,
  ),
  λ z. apart z,
)
row_in s w r at f e BehaviourKind.Parallel h = (
  λ z. (
    (e (field_a s at) h.0.child.later h.0.child.exists).0 h.0.kind,
    (e (field_b s at) h.1.child.later
        h.1.child.exists).0 h.1.kind,
  ),
  λ z. apart z,
)
row_in s w r at f e BehaviourKind.Assign h = (λ z. tt, λ z. apart z)
row_in s w r at f e BehaviourKind.Choice h = (λ z. branches-in s w r f e (field_b s at) (field_a s at) h.0 h.2, λ z. apart z)
row_in s w r at f e BehaviourKind.Branch h = (λ z. tt, λ z. apart z)
row_in s w r at f e BehaviourKind.Unknown h = (λ z. tt, λ z. apart z)

in-to : (s : List ℕ) → WellFormed s → (d r : ℕ) → r < behaviour_count s → behaviour_count s ≤ r + d → InFile (kind_at s r) (behaviour_to s d r)
unfolding behaviour_to
in-to s w zero r l h = absurd (omega arith)
in-to s w (suc d) r l h = row_in s w r (behaviour_at s r) (behaviour_to s d) (λ j x y. in-to s w d j y (omega arith)) (kind_at s r)
    (behaviour-kept s w r l)

pub behaviour-in-file : (s : List ℕ) → WellFormed s → (r : ℕ) → r < behaviour_count s → is_branch_kind (kind_at s r) ≡ false
    → AsInFile (behaviour_of s r)
unfolding behaviour_of
behaviour-in-file s w r l e = (in-to s w (behaviour_count s) r l (omega arith)).0 e

-- A row of kind choice becomes a choice.
pub choice-row : (s : List ℕ) → WellFormed s → (r : ℕ) → r < behaviour_count s → is_choice_kind (kind_at s r) ≡ true → T (is_choice_behaviour (behaviour_of s r))
unfolding behaviour_from
choice-row s w r l e =
    let f : behaviour_of s r ≡ behaviour_from s (behaviour_of s) r (behaviour_at s r) BehaviourKind.Choice =
    behaviour-row s w r l ∙ ap (behaviour_from s (behaviour_of s) r (behaviour_at s r)) (choice-kind (kind_at s r) e) in
    subst (λ (b : Behaviour). T (is_choice_behaviour b)) (sym f) tt

-- ---- the operation of a node is the operation of its row

branches-operations : (s : List ℕ) (f : ℕ → Behaviour) → ((j : ℕ) → OperationsBy (row_operation s) (f j)) → (n a : ℕ)
    → BranchOperationsBy (row_operation s) (branches_from s f a n)
unfolding branches_from OperationsBy BranchOperationsBy
branches-operations s f e zero a = (tt, tt)
branches-operations s f e (suc zero) a = (e (field_a s (behaviour_at s a)), e (field_b s (behaviour_at s a)))
branches-operations s f e (suc (suc n)) a =
    (e (field_a s (behaviour_at s a)), e (field_b s (behaviour_at s a)), branches-operations s f e (suc n) (suc a))

row-operations : (s : List ℕ) (r : ℕ) (f : ℕ → Behaviour) → ((j : ℕ) → OperationsBy (row_operation s) (f j)) → (k : BehaviourKind)
    → OperationsBy (row_operation s) (behaviour_from s f r (behaviour_at s r) k)
unfolding behaviour_from OperationsBy
row-operations s r f e BehaviourKind.Nil = tt
row-operations s r f e BehaviourKind.OneWay = refl
row-operations s r f e BehaviourKind.RequestResponse = (refl, e (field_d s (behaviour_at s r)))
row-operations s r f e BehaviourKind.Notification = refl
row-operations s r f e BehaviourKind.SolicitResponse = refl
row-operations s r f e BehaviourKind.If = (e (field_b s (behaviour_at s r)), e (field_c s (behaviour_at s r)))
row-operations s r f e BehaviourKind.While = e (field_b s (behaviour_at s r))
row-operations s r f e BehaviourKind.Sequence = (e (field_a s (behaviour_at s r)), e (field_b s (behaviour_at s r)))
row-operations s r f e BehaviourKind.Parallel = (e (field_a s (behaviour_at s r)), e (field_b s (behaviour_at s r)))
row-operations s r f e BehaviourKind.Assign = tt
row-operations s r f e BehaviourKind.Choice = branches-operations s f e (field_b s (behaviour_at s r)) (field_a s (behaviour_at s r))
row-operations s r f e BehaviourKind.Branch = tt
row-operations s r f e BehaviourKind.Unknown = tt

operations-to : (s : List ℕ) (d r : ℕ) → OperationsBy (row_operation s) (behaviour_to s d r)
unfolding behaviour_to OperationsBy
operations-to s zero r = tt
operations-to s (suc d) r = row-operations s r (behaviour_to s d) (λ j. operations-to s d j) (kind_at s r)

pub behaviour-operations : (s : List ℕ) (r : ℕ) → OperationsBy (row_operation s) (behaviour_of s r)
unfolding behaviour_of
behaviour-operations s r = operations-to s (behaviour_count s) r

-- ---- the number of a decoded row

pub row-kind : (s : List ℕ) (f : ℕ → Behaviour) (r at : ℕ) (k : BehaviourKind) → row_of (behaviour_from s f r at k) ≡ r
unfolding row_of behaviour_from
row-kind s f r at BehaviourKind.Nil = refl
row-kind s f r at BehaviourKind.OneWay = refl
row-kind s f r at BehaviourKind.RequestResponse = refl
row-kind s f r at BehaviourKind.Notification = refl
row-kind s f r at BehaviourKind.SolicitResponse = refl
row-kind s f r at BehaviourKind.If = refl
row-kind s f r at BehaviourKind.While = refl
row-kind s f r at BehaviourKind.Sequence = refl
row-kind s f r at BehaviourKind.Parallel = refl
row-kind s f r at BehaviourKind.Assign = refl
row-kind s f r at BehaviourKind.Choice = refl
row-kind s f r at BehaviourKind.Branch = refl
row-kind s f r at BehaviourKind.Unknown = refl

pub row-to : (s : List ℕ) (d r : ℕ) → row_of (behaviour_to s d r) ≡ r
unfolding behaviour_to row_of
row-to s zero r = refl
row-to s (suc d) r = row-kind s (behaviour_to s d) r (behaviour_at s r) (kind_at s r)

pub row-of : (s : List ℕ) (r : ℕ) → row_of (behaviour_of s r) ≡ r
unfolding behaviour_of
row-of s r = row-to s (behaviour_count s) r
