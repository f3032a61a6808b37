-- What an unrefused file keeps of its B rows: each field leads where its kind says, and each row is used once.
use Rattle.std.specs.Prelude.{ℕ, zero, suc, ◌+◌, ◌<◌, ◌≤◌, ◌≡◌, refl, List, Bool, true, false, not, ◌&&◌, ◌||◌, eqb, leb, ltb}
use Rattle.std.proofs.Common.{sym, ap, subst, arith}
use Rattle.std.proofs.Math.Dec.{eqb-suc-zero}
use Rattle.tree_forest.specs.Compare.{Compare, lt, eq, gt, compare}
use Rattle.wire.specs.Wire.{byte_at}
use Rattle.basics.specs.Choice.{pick}
use Rattle.basics.specs.TestLaws.{and-of, clash, le_of, lt_not, lt_of, not-true, of_eq, true-false, under}
use Rattle.network.specs.declared.BehaviourKind.{BehaviourKind}
use Rattle.network.specs.Least.{least_over}
use Rattle.network.specs.Layout.{path_count, expression_count, behaviour_count, operation_count, service_count, behaviour_at, service_at}
use Rattle.network.specs.Kinds.{behaviour_kind, behaviour_fields}
use Rattle.network.specs.Rows.{in_run, later_run, field_a, field_b, field_c, field_d, kind_at, is_branch_kind, is_choice_kind, is_input_kind, sub_fits, input_fits}
use Rattle.network.specs.Rows.{field_fits, fields_rule, behaviour_head, branch_rule, branch_row_rule, choice_run, behaviour_row}
use Rattle.network.specs.Uses.{field_uses, one, uses_by, row_uses, service_uses, used_by_rows, used, second_use, row_use_rule, service_use_rule, uses_row}
use Rattle.network.specs.Form.{WellFormed}
use Rattle.network.proofs.LeastLaws.{least_kept, rule-kept, over-kept, sum-part}
use Rattle.network.proofs.RowLaws.{unbroken, in-run}
use Rattle.std.specs.Prelude.{None}

-- ---- uses

-- B row r uses row k.
abbrev pub Uses : List ℕ → ℕ → ℕ → Type 0
Uses s r k = 1 ≤ row_uses s k r

-- A use that is no second use is the first one, and a single one.
first-use : (before here : ℕ) → second_use before here ≡ false → 1 ≤ here → (before ≡ 0) × (here ≡ 1)
unfolding second_use
first-use before zero e h = absurd (omega arith)
first-use before (suc n) e h = go (ltb 1 (before + suc n)) refl
  where
    go : (t : Bool) → ltb 1 (before + suc n) ≡ t → (before ≡ 0) × (suc n ≡ 1)
    go true p = let ne = eqb-suc-zero n in absurd (clash (rw (ne, p) refl) e)
    go false p = let l : before + suc n ≤ 1 = lt_not 1 (before + suc n) p in (omega arith, omega arith)

pub record UsesKept (s : List ℕ) (t : ℕ) : Type 0 where
  pub by_row : (r : ℕ) → r < behaviour_count s → Uses s r t → (used_by_rows s t r ≡ 0) × (row_uses s t r ≡ 1)
  pub by_service : (q : ℕ) → q < service_count s → 1 ≤ service_uses s t q → (used s t q ≡ 0) × (service_uses s t q ≡ 1)

pub uses-kept : (s : List ℕ) → WellFormed s → (t : ℕ) → t < behaviour_count s → UsesKept s t
unfolding uses_row row_use_rule service_use_rule
uses-kept s w t l =
    let h = (unbroken s w).uses t l in
    let a = rule-kept (not (eqb (used s t (service_count s)) 0)) (behaviour_at s t) _ h in
    let b = least_kept (least_over (behaviour_count s) (row_use_rule s t)) (least_over (service_count s) (service_use_rule s t)) a.1 in
    record {
      by_row = λ r x u.
          first-use (used_by_rows s t r) (row_uses s t r)
          (not-true (second_use (used_by_rows s t r) (row_uses s t r))
          (rule-kept (not (second_use (used_by_rows s t r) (row_uses s t r))) (behaviour_at s r) None
          (over-kept (row_use_rule s t) (behaviour_count s) r b.0 x)).0) u;
      by_service = λ q x u.
          first-use (used s t q) (service_uses s t q)
          (not-true (second_use (used s t q) (service_uses s t q))
          (rule-kept (not (second_use (used s t q) (service_uses s t q))) (service_at s q) None
          (over-kept (service_use_rule s t) (service_count s) q b.1 x)).0) u;
    }

-- "used exactly once, by a row": two rows that use row k are one.
pub one-user : (s : List ℕ) → WellFormed s → (k p r : ℕ) → k < behaviour_count s → p < behaviour_count s → r < behaviour_count s → Uses s p k
    → Uses s r k → p ≡ r
unfolding used_by_rows
one-user s w k p r lk lp lr up ur = go (compare p r)
  where
    go : Compare p r → p ≡ r
    go (lt h) = let x = ((uses-kept s w k lk).by_row r lr ur).0 in let y = sum-part (row_uses s k) r p h in absurd (omega arith)
    go (eq h) = h
    go (gt h) = let x = ((uses-kept s w k lk).by_row p lp up).0 in let y = sum-part (row_uses s k) p r h in absurd (omega arith)

-- "by a row or a service": a row that a service uses is used by no B row.
pub no-user : (s : List ℕ) → WellFormed s → (k q r : ℕ) → k < behaviour_count s → q < service_count s → 1 ≤ service_uses s k q → r < behaviour_count s
    → Uses s r k → ⊥
unfolding used used_by_rows
no-user s w k q r lk lq u lr ur =
    let x = ((uses-kept s w k lk).by_service q lq u).0 in
    let y = sum-part (row_uses s k) (behaviour_count s) r lr in
    omega arith

-- Two services that use row k are one.
pub one-service : (s : List ℕ) → WellFormed s → (k p q : ℕ) → k < behaviour_count s → p < service_count s → q < service_count s → 1 ≤ service_uses s k p
    → 1 ≤ service_uses s k q → p ≡ q
unfolding used
one-service s w k p q lk lp lq up uq = go (compare p q)
  where
    go : Compare p q → p ≡ q
    go (lt h) = let x = ((uses-kept s w k lk).by_service q lq uq).0 in let y = sum-part (service_uses s k) q p h in absurd (omega arith)
    go (eq h) = h
    go (gt h) = let x = ((uses-kept s w k lk).by_service p lp up).0 in let y = sum-part (service_uses s k) p q h in absurd (omega arith)

-- ---- fields

-- Row k is a later row, which row r uses.
pub record Child (s : List ℕ) (r k : ℕ) : Type 0 where
  pub later : r < k
  pub exists : k < behaviour_count s
  pub uses : Uses s r k

-- A sub-behaviour is no branch, a branch's input is a one-way or a request-response.
pub record SubKept (s : List ℕ) (r k : ℕ) : Type 0 where
  pub child : Child s r k
  pub kind : is_branch_kind (kind_at s k) ≡ false

pub record InputKept (s : List ℕ) (r k : ℕ) : Type 0 where
  pub child : Child s r k
  pub kind : is_input_kind (kind_at s k) ≡ true

pub record BranchKept (s : List ℕ) (r k : ℕ) : Type 0 where
  pub child : Child s r k
  pub kind : kind_at s k ≡ BehaviourKind.Branch

-- What B row r, whose first byte is `at`, keeps if it is of the kind.
abbrev pub RowKept : List ℕ → ℕ → ℕ → BehaviourKind → Type 0
RowKept s r at BehaviourKind.Nil = Unit {0}
RowKept s r at BehaviourKind.OneWay = (field_a s at < operation_count s) × (field_b s at < path_count s)
RowKept s r at BehaviourKind.RequestResponse =
    (field_a s at < operation_count s) × (field_b s at < path_count s) × (field_c s at < path_count s) × SubKept s r (field_d s at)
RowKept s r at BehaviourKind.Notification = (field_a s at < operation_count s) × (field_b s at < expression_count s)
RowKept s r at BehaviourKind.SolicitResponse = (field_a s at < operation_count s) × (field_b s at < expression_count s) × (field_c s at < path_count s)
RowKept s r at BehaviourKind.If =
    (field_a s at < expression_count s) × SubKept s r (field_b s at) × SubKept s r (field_c s at) × (field_b s at ≡ field_c s at → ⊥)
RowKept s r at BehaviourKind.While = (field_a s at < expression_count s) × SubKept s r (field_b s at)
RowKept s r at BehaviourKind.Sequence = SubKept s r (field_a s at) × SubKept s r (field_b s at) × (field_a s at ≡ field_b s at → ⊥)
RowKept s r at BehaviourKind.Parallel = SubKept s r (field_a s at) × SubKept s r (field_b s at) × (field_a s at ≡ field_b s at → ⊥)
RowKept s r at BehaviourKind.Assign = (field_a s at < path_count s) × (field_b s at < expression_count s)
RowKept s r at BehaviourKind.Choice =
    (1 ≤ field_b s at) × (field_b s at ≤ 8) × ((j : ℕ) → field_a s at ≤ j → j < field_a s at + field_b s at → BranchKept s r j)
RowKept s r at BehaviourKind.Branch = InputKept s r (field_a s at) × SubKept s r (field_b s at) × (field_a s at ≡ field_b s at → ⊥)
RowKept s r at BehaviourKind.Unknown = ⊥

known-behaviour : (n : ℕ) → n ≤ 11 → behaviour_kind n ≡ BehaviourKind.Unknown → ⊥
unfolding behaviour_kind
known-behaviour zero l e = let z : ◌≡◌ {A = ℕ} 0 1 = cc in omega arith
known-behaviour (suc zero) l e = let z : ◌≡◌ {A = ℕ} 0 1 = cc in omega arith
known-behaviour (suc (suc zero)) l e = let z : ◌≡◌ {A = ℕ} 0 1 = cc in omega arith
known-behaviour (suc (suc (suc zero))) l e = let z : ◌≡◌ {A = ℕ} 0 1 = cc in omega arith
known-behaviour (suc (suc (suc (suc zero)))) l e = let z : ◌≡◌ {A = ℕ} 0 1 = cc in omega arith
known-behaviour (suc (suc (suc (suc (suc zero))))) l e = let z : ◌≡◌ {A = ℕ} 0 1 = cc in omega arith
known-behaviour (suc (suc (suc (suc (suc (suc zero)))))) l e = let z : ◌≡◌ {A = ℕ} 0 1 = cc in omega arith
known-behaviour (suc (suc (suc (suc (suc (suc (suc zero))))))) l e = let z : ◌≡◌ {A = ℕ} 0 1 = cc in omega arith
known-behaviour (suc (suc (suc (suc (suc (suc (suc (suc zero)))))))) l e = let z : ◌≡◌ {A = ℕ} 0 1 = cc in omega arith
known-behaviour (suc (suc (suc (suc (suc (suc (suc (suc (suc zero))))))))) l e = let z : ◌≡◌ {A = ℕ} 0 1 = cc in omega arith
known-behaviour (suc (suc (suc (suc (suc (suc (suc (suc (suc (suc zero)))))))))) l e = let z : ◌≡◌ {A = ℕ} 0 1 = cc in omega arith
known-behaviour (suc (suc (suc (suc (suc (suc (suc (suc (suc (suc (suc zero))))))))))) l e = let z : ◌≡◌ {A = ℕ} 0 1 = cc in omega arith
known-behaviour (suc (suc (suc (suc (suc (suc (suc (suc (suc (suc (suc (suc n)))))))))))) l e = omega arith

pub branch-kind : (k : BehaviourKind) → is_branch_kind k ≡ true → k ≡ BehaviourKind.Branch
branch-kind BehaviourKind.Nil e = let z : ◌≡◌ {A = ℕ} 0 1 = cc in absurd (omega arith)
branch-kind BehaviourKind.OneWay e = let z : ◌≡◌ {A = ℕ} 0 1 = cc in absurd (omega arith)
branch-kind BehaviourKind.RequestResponse e = let z : ◌≡◌ {A = ℕ} 0 1 = cc in absurd (omega arith)
branch-kind BehaviourKind.Notification e = let z : ◌≡◌ {A = ℕ} 0 1 = cc in absurd (omega arith)
branch-kind BehaviourKind.SolicitResponse e = let z : ◌≡◌ {A = ℕ} 0 1 = cc in absurd (omega arith)
branch-kind BehaviourKind.If e = let z : ◌≡◌ {A = ℕ} 0 1 = cc in absurd (omega arith)
branch-kind BehaviourKind.While e = let z : ◌≡◌ {A = ℕ} 0 1 = cc in absurd (omega arith)
branch-kind BehaviourKind.Sequence e = let z : ◌≡◌ {A = ℕ} 0 1 = cc in absurd (omega arith)
branch-kind BehaviourKind.Parallel e = let z : ◌≡◌ {A = ℕ} 0 1 = cc in absurd (omega arith)
branch-kind BehaviourKind.Assign e = let z : ◌≡◌ {A = ℕ} 0 1 = cc in absurd (omega arith)
branch-kind BehaviourKind.Choice e = let z : ◌≡◌ {A = ℕ} 0 1 = cc in absurd (omega arith)
branch-kind BehaviourKind.Branch e = refl
branch-kind BehaviourKind.Unknown e = let z : ◌≡◌ {A = ℕ} 0 1 = cc in absurd (omega arith)

pub choice-kind : (k : BehaviourKind) → is_choice_kind k ≡ true → k ≡ BehaviourKind.Choice
choice-kind BehaviourKind.Nil e = true-false (sym e)
choice-kind BehaviourKind.OneWay e = true-false (sym e)
choice-kind BehaviourKind.RequestResponse e = true-false (sym e)
choice-kind BehaviourKind.Notification e = true-false (sym e)
choice-kind BehaviourKind.SolicitResponse e = true-false (sym e)
choice-kind BehaviourKind.If e = true-false (sym e)
choice-kind BehaviourKind.While e = true-false (sym e)
choice-kind BehaviourKind.Sequence e = true-false (sym e)
choice-kind BehaviourKind.Parallel e = true-false (sym e)
choice-kind BehaviourKind.Assign e = true-false (sym e)
choice-kind BehaviourKind.Choice e = refl
choice-kind BehaviourKind.Branch e = true-false (sym e)
choice-kind BehaviourKind.Unknown e = true-false (sym e)

pub one_same : (m n : ℕ) → m ≡ n → one (eqb m n) ≡ 1
one_same m n e = ap one (of_eq m n e)

sub-test : (s : List ℕ) (r v : ℕ) → sub_fits s r v ≡ true → Uses s r v → SubKept s r v
unfolding sub_fits
sub-test s r v e u =
    let a = and-of (ltb r v && ltb v (behaviour_count s)) (not (is_branch_kind (kind_at s v))) e in
    let b = and-of (ltb r v) (ltb v (behaviour_count s)) a.0 in
    record {
      child = record { later = lt_of r v b.0; exists = lt_of v (behaviour_count s) b.1; uses = u };
      kind = not-true
          (is_branch_kind (kind_at s v)) a.1;
    }

input-test : (s : List ℕ) (r v : ℕ) → input_fits s r v ≡ true → Uses s r v → InputKept s r v
unfolding input_fits
input-test s r v e u =
    let a = and-of (ltb r v && ltb v (behaviour_count s)) (is_input_kind (kind_at s v)) e in
    let b = and-of (ltb r v) (ltb v (behaviour_count s)) a.0 in
    record { child = record { later = lt_of r v b.0; exists = lt_of v (behaviour_count s) b.1; uses = u }; kind = a.1 }

-- The fields of row r of kind k, as tested.
record Tested (s : List ℕ) (r at : ℕ) (k : BehaviourKind) : Type 0 where
  known : k ≡ BehaviourKind.Unknown → ⊥
  fits_a : field_fits s r 0 (behaviour_fields k).a (field_a s at) (field_b s at) ≡ true
  fits_b : field_fits s r 0 (behaviour_fields k).b (field_b s at) (field_c s at) ≡ true
  fits_c : field_fits s r 0 (behaviour_fields k).c (field_c s at) 0 ≡ true
  fits_d : field_fits s r 0 (behaviour_fields k).d (field_d s at) 0 ≡ true
  run : pick (is_choice_kind k) (branch_row_rule s at) None ≡ None
  users : (t : ℕ) → row_uses s t r ≡ uses_by s t at (behaviour_fields k)
  single : (t : ℕ) → t < behaviour_count s → Uses s r t → row_uses s t r ≡ 1

tested : (s : List ℕ) → WellFormed s → (r : ℕ) → r < behaviour_count s → Tested s r (behaviour_at s r) (kind_at s r)
unfolding behaviour_row behaviour_head fields_rule choice_run row_uses kind_at
tested s w r l =
    let at : ℕ = behaviour_at s r in
    let k : BehaviourKind = kind_at s r in
    let h = (unbroken s w).behaviours r l in
    let a = rule-kept (leb (byte_at s at) 11) at _ h in
    let b = rule-kept (eqb (byte_at s (at + 1)) 0) (at + 1) _ a.1 in
    let c = rule-kept (field_fits s r 0 (behaviour_fields k).a (field_a s at) (field_b s at)) (at + 2) _ b.1 in
    let d = rule-kept (field_fits s r 0 (behaviour_fields k).b (field_b s at) (field_c s at)) (at + 4) _ c.1 in
    let e = rule-kept (field_fits s r 0 (behaviour_fields k).c (field_c s at) 0) (at + 6) _ d.1 in
    let f = rule-kept (field_fits s r 0 (behaviour_fields k).d (field_d s at) 0) (at + 8) _ e.1 in
    record {
      known = λ z. known-behaviour (byte_at s at) (le_of (byte_at s at) 11 a.0) z;
      fits_a = c.0;
      fits_b = d.0;
      fits_c = e.0;
      fits_d = f.0;
      run = f.1;
      users = λ t. refl;
      single = λ t x u. ((uses-kept s w t x).by_row r l u).1;
    }

branch-rows : (s : List ℕ) (r at : ℕ) → later_run (behaviour_count s) r (field_a s at) (field_b s at) ≡ true → branch_row_rule s at ≡ None
    → ((t : ℕ) → row_uses s t r ≡ uses_by s t at (behaviour_fields BehaviourKind.Choice)) → (j : ℕ) → field_a s at ≤ j → j < field_a s at + field_b s at
    → BranchKept s r j
unfolding later_run branch_row_rule branch_rule behaviour_fields field_uses
branch-rows s r at e h u j x y =
    let a = and-of (ltb r (field_a s at)) (leb (field_a s at + field_b s at) (behaviour_count s)) e in
    let lo : r < field_a s at = lt_of r (field_a s at) a.0 in
    let hi : field_a s at + field_b s at ≤ behaviour_count s = le_of (field_a s at + field_b s at) (behaviour_count s) a.1 in
    let i : in_run (field_a s at) (field_b s at) j ≡ true = in-run (field_a s at) (field_b s at) j x y in
    let n : one (in_run (field_a s at) (field_b s at) j) ≡ 1 = ap one i in
    let z = u j in
    let k = (rule-kept (not (in_run (field_a s at) (field_b s at) j) || is_branch_kind (kind_at s j)) (at + 2) None
    (over-kept (branch_rule s at) (behaviour_count s) j h (omega arith))).0 in
    record {
      child = record { later = omega arith; exists = omega arith; uses = omega arith };
      kind = branch-kind (kind_at s j) (under (in_run (field_a s at) (field_b s at) j) (is_branch_kind (kind_at s j)) k i);
    }

kept_by : (s : List ℕ) (r at : ℕ) (k : BehaviourKind) → Tested s r at k → RowKept s r at k
unfolding behaviour_fields field_fits field_uses
kept_by s r at BehaviourKind.Nil h = tt
kept_by s r at BehaviourKind.OneWay h = (lt_of (field_a s at) (operation_count s) h.fits_a, lt_of (field_b s at) (path_count s) h.fits_b)
kept_by s r at BehaviourKind.RequestResponse h =
    let u = h.users (field_d s at) in
    let o = one_same (field_d s at) (field_d s at) refl in (
      lt_of (field_a s at) (operation_count s) h.fits_a,
      lt_of (field_b s at) (path_count s) h.fits_b,
      lt_of (field_c s at) (path_count s) h.fits_c,
      sub-test s r (field_d s at) h.fits_d (omega arith),
    )
kept_by s r at BehaviourKind.Notification h = (lt_of (field_a s at) (operation_count s) h.fits_a, lt_of (field_b s at) (expression_count s) h.fits_b)
kept_by s r at BehaviourKind.SolicitResponse h = (
  lt_of (field_a s at) (operation_count s) h.fits_a,
  lt_of (field_b s at) (expression_count s) h.fits_b,
  lt_of (field_c s at) (path_count s)
      h.fits_c,
)
kept_by s r at BehaviourKind.If h =
    let u = h.users (field_b s at) in
    let v = h.users (field_c s at) in
    let o = one_same (field_b s at) (field_b s at) refl in
    let p = one_same (field_c s at) (field_c s at) refl in
    let x : SubKept s r (field_b s at) = sub-test s r (field_b s at) h.fits_b (omega arith) in (
      lt_of (field_a s at) (expression_count s) h.fits_a,
      x,
      sub-test s r (field_c s at) h.fits_c (omega arith),
      λ e. let q = one_same (field_c s at) (field_b s at) (sym e) in let z = h.single (field_b s at) x.child.exists x.child.uses in omega arith,
    )
kept_by s r at BehaviourKind.While h =
    let u = h.users (field_b s at) in
    let o = one_same (field_b s at) (field_b s at) refl in
    (lt_of (field_a s at) (expression_count s) h.fits_a, sub-test s r (field_b s at) h.fits_b (omega arith))
kept_by s r at BehaviourKind.Sequence h =
    let u = h.users (field_a s at) in
    let v = h.users (field_b s at) in
    let o = one_same (field_a s at) (field_a s at) refl in
    let p = one_same (field_b s at) (field_b s at) refl in
    let x : SubKept s r (field_a s at) = sub-test s r (field_a s at) h.fits_a (omega arith) in (
      x,
      sub-test s r (field_b s at) h.fits_b (omega arith),
      λ e. let q = one_same (field_b s at) (field_a s at) (sym e) in let z = h.single (field_a s at) x.child.exists x.child.uses in omega arith,
    )
kept_by s r at BehaviourKind.Parallel h =
    let u = h.users (field_a s at) in
    let v = h.users (field_b s at) in
    let o = one_same (field_a s at) (field_a s at) refl in
    let p = one_same (field_b s at) (field_b s at) refl in
    let x : SubKept s r (field_a s at) = sub-test s r (field_a s at) h.fits_a (omega arith) in (
      x,
      sub-test s r (field_b s at) h.fits_b (omega arith),
      λ e. let q = one_same (field_b s at) (field_a s at) (sym e) in let z = h.single (field_a s at) x.child.exists x.child.uses in omega arith,
    )
kept_by s r at BehaviourKind.Assign h = (lt_of (field_a s at) (path_count s) h.fits_a, lt_of (field_b s at) (expression_count s) h.fits_b)
kept_by s r at BehaviourKind.Choice h =
    let a = and-of (leb 1 (field_b s at)) (leb (field_b s at) 8) h.fits_b in
    (le_of 1 (field_b s at) a.0, le_of (field_b s at) 8 a.1, branch-rows s r at h.fits_a h.run h.users)
kept_by s r at BehaviourKind.Branch h =
    let u = h.users (field_a s at) in
    let v = h.users (field_b s at) in
    let o = one_same (field_a s at) (field_a s at) refl in
    let p = one_same (field_b s at) (field_b s at) refl in
    let x : InputKept s r (field_a s at) = input-test s r (field_a s at) h.fits_a (omega arith) in (
      x,
      sub-test s r (field_b s at) h.fits_b (omega arith),
      λ e. let q = one_same (field_b s at) (field_a s at) (sym e) in let z = h.single (field_a s at) x.child.exists x.child.uses in omega arith,
    )
kept_by s r at BehaviourKind.Unknown h = h.known refl

pub behaviour-kept : (s : List ℕ) → WellFormed s → (r : ℕ) → r < behaviour_count s → RowKept s r (behaviour_at s r) (kind_at s r)
behaviour-kept s w r l = kept_by s r (behaviour_at s r) (kind_at s r) (tested s w r l)

-- The branch at row j of a choice.
pub branch_kept : (s : List ℕ) → WellFormed s → (r j : ℕ) → BranchKept s r j → RowKept s j (behaviour_at s j) BehaviourKind.Branch
branch_kept s w r j k = subst (λ (x : BehaviourKind). RowKept s j (behaviour_at s j) x) k.kind (behaviour-kept s w j k.child.exists)
