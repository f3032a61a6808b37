-- Laws of sessions as targets: one for each way out of the functions.
use Prim.Native.Nat.{ℕ, zero, suc, ◌+◌, ◌-◌, ◌<◌, ◌≤◌, ◌*◌}
use mathlib.Core.Path.{◌≡◌, refl, sym, ◌∙◌, ap, subst}
use mathlib.Core.List.{List, [], ◌∷◌}
use mathlib.Core.Bool.{Bool, true, false, not}
use native.Mathlib.Numerals.{add-one}
use native.Mathlib.Omega.{arith}
use lib.Dec.{eqb, leb, ltb}
use lib.ListN.{length}
use borrow.Author.Tests.{eq-eqb, ne_eqb, lt-ltb, le-ltb, le-leb, lt-leb}
use Rattle.wire.specs.Wire.{byte_at, u16_at}
use Rattle.basics.specs.Choice.{pick}
use Rattle.basics.specs.TestLaws.{not-false, not-true, one_less, true-false}
use Rattle.network_syntax.specs.Rows.{Input, input_of, choice_of}
use Rattle.network_syntax.specs.Syntax.{Behaviour, Optional, none, some, Service}
use Rattle.check_typing.specs.Rules.{permits}
use Rattle.network.specs.declared.BehaviourKind.{BehaviourKind}
use Rattle.network.specs.Form.{WellFormed}
use Rattle.network.specs.Layout.{behaviour_count, service_count, behaviour_at}
use Rattle.network.specs.Rows.{field_a, field_b, kind_at, is_choice_kind, no_row, starter_row, client_row, operation_service}
use Rattle.network.specs.Decode.{branches_from, behaviour_from, behaviour_to, behaviour_of, operation_of, service_of, network_of, optional_behaviour}
use Rattle.network.specs.Shapes.{as_starter, as_client}
use Rattle.network.proofs.RowLaws.{counts-kept, next-at}
use Rattle.network.proofs.UseLaws.{RowKept, behaviour-kept, branch_kept, choice-kind}
use Rattle.network.proofs.BehaviourLaws.{behaviour-row}
use Rattle.network.proofs.NetworkLaws.{top_of}
use Rattle.network_rows.specs.declared.InputRow.{InputRow}
use Rattle.network_rows.specs.declared.BranchRow.{BranchRow}
use Rattle.network_rows.specs.Readers.{input_row_of, BranchAt}
use Rattle.network_rows.specs.RowSyntax.{input_with}
use Rattle.network_rows.specs.RowSyntaxLaws.{input-row-is}
use Rattle.check_operations.specs.Directions.{direction_of}
use Rattle.state.specs.Places.{entry_size, queue_place, slot_start}
use Rattle.state.specs.Session.{free, live}
use Rattle.state.specs.Bytes.{read_entry, read_queue, read_session, read_slot, read_state}
use Rattle.state.specs.Shape.{client_of, starter_of, behaviour_in}
use Rattle.move_rules.specs.Targets as definition
use Rattle.move_targets.specs.SessionLaws.{service_in, service-none, service-some, nothing-runs, runs-where, slot_read}
use Rattle.move_targets.specs.declared.Target.{Target}
use Rattle.move_targets.specs.Answers.{behaviour_run, RowExists, runs_row, RunsIn, start_with, start_as, StartRowsExist, names_input, passes_input, NamesInput, PermitsInput, Run}
use Rattle.move_targets.specs.Answers.{StartsAmong, StartsFrom, target_as, StarterExists, live_target, FreeTarget, SlotTarget, Targets}
use Rattle.std.specs.Prelude.{Option, Some, None}

-- ---- what a session runs

pub runs_none : (v : ℕ) → v ≡ 65535 → None ≡ runs_row v
runs_none v e = sym (ap (λ (t : Bool). pick t None (Some v)) (eq-eqb v no_row e))

pub runs-some : (v : ℕ) → (v ≡ 65535 → ⊥) → Some v ≡ runs_row v
runs-some v e = sym (ap (λ (t : Bool). pick t None (Some v)) (ne_eqb v no_row e))

pub ruleset row_laws = (runs_none, runs-some)

run_of : (file : List ℕ) (v : ℕ) → behaviour_run file (runs_row v) ≡ optional_behaviour file v
unfolding behaviour_run
run_of file v = go (eqb v no_row)
  where
    go : (t : Bool) → behaviour_run file (pick t None (Some v)) ≡ pick t none (some (behaviour_of file v))
    go true = refl
    go false = refl

pub in-no-service : (file : List ℕ) (q n : ℕ) {m : ℕ} → m ≡ service_count file → m ≤ q → RunsIn file q n None
unfolding behaviour_run
in-no-service file q n c l = record {
  tells = sym (ap (λ (v : Optional Service). pick (eqb n 0) (client_of v) (pick (leb n 3) (starter_of v) none)) (service-none file q (omega (arith, c, l)))
      ∙ nothing-runs (eqb n 0) (leb n 3));
  exists = λ w. tt;
}

top-exists : (file : List ℕ) (v : ℕ) → (eqb v no_row ≡ false → v < behaviour_count file) → RowExists file (runs_row v)
top-exists file v h = go (eqb v no_row) refl
  where
    go : (t : Bool) → eqb v no_row ≡ t → RowExists file (pick t None (Some v))
    go true e = tt
    go false e = h e

module _ (file : List ℕ) (q n : ℕ) {m : ℕ} (c : m ≡ service_count file) (l : q < m) where
  there : q < service_count file
  there = omega (arith, c, l)

  pub in-client : {v : ℕ} {x : Option ℕ} → n ≡ 0 → v ≡ client_row file q → x ≡ runs_row v → RunsIn file q n x
  unfolding service_of
  in-client {v} {x} z e f = record {
    tells = ap (behaviour_run file) f ∙ (run_of file v ∙ (ap (optional_behaviour file) e ∙ sym (ap (λ (t : Bool). pick t (client_of (service_in file q))
        (pick (leb n 3) (starter_of (service_in file q)) none)) (eq-eqb n 0 z) ∙ ap client_of (service-some file q there))));
    exists = λ w. subst (RowExists file) (sym (f ∙ ap runs_row e)) (top-exists file (client_row file q)
        (λ i. (top_of file w q there as_client (behaviour_of file (client_row file q))
        (ap (λ (t : Bool). pick t none (some (behaviour_of file (client_row file q)))) i)).kept.exists));
  }

  not-client : (n ≡ 0 → ⊥) → behaviour_in (network_of file) q n ≡ pick (leb n 3) (starter_of (service_in file q)) none
  not-client z = ap (λ (t : Bool). pick t (client_of (service_in file q)) (pick (leb n 3) (starter_of (service_in file q)) none)) (ne_eqb n 0 z)

  pub in-no-session : (n ≡ 0 → ⊥) → 3 < n → RunsIn file q n None
  unfolding behaviour_run
  in-no-session z h = record {
    tells = sym (not-client z ∙ ap (λ (t : Bool). pick t (starter_of (service_in file q)) none) (lt-leb n 3 h));
    exists = λ w. tt;
  }

  pub in-starter : {v : ℕ} {x : Option ℕ} → (n ≡ 0 → ⊥) → n ≤ 3 → v ≡ starter_row file q → x ≡ runs_row v → RunsIn file q n x
  unfolding service_of
  in-starter {v} {x} z h e f = record {
    tells = ap (behaviour_run file) f ∙ (run_of file v ∙ (ap (optional_behaviour file) e
        ∙ sym (not-client z ∙ (ap (λ (t : Bool). pick t (starter_of (service_in file q)) none) (le-leb n 3 h) ∙ ap starter_of (service-some file q there)))));
    exists = λ w. subst (RowExists file) (sym (f ∙ ap runs_row e)) (top-exists file (starter_row file q)
        (λ i. (top_of file w q there as_starter (behaviour_of file (starter_row file q))
        (ap (λ (t : Bool). pick t none (some (behaviour_of file (starter_row file q)))) i)).kept.exists));
  }

pub ruleset in-laws = (in-no-service, in-client, in-no-session, in-starter)

-- ---- inputs

module _ (file : List ℕ) (w a : ℕ) {x : InputRow} (e : x ≡ input_row_of file a) where
  names-by : {y : InputRow} {t : Bool} → x ≡ y → t ≡ names_input w (input_with file (behaviour_to file (behaviour_count file - 1)) a y) → NamesInput file w a t
  names-by f g = record { tells = λ l. g ∙ sym (ap (names_input w) (input-row-is file a l e f)) }

  pub names-one-way : {o p : ℕ} {t : Bool} → x ≡ InputRow.OneWay o p → t ≡ eqb o w → NamesInput file w a t
  unfolding operation_of
  names-one-way f g = names-by f g

  pub names-request : {o p c d : ℕ} {t : Bool} → x ≡ InputRow.RequestResponse o p c d → t ≡ eqb o w → NamesInput file w a t
  unfolding operation_of
  names-request f g = names-by f g

  pub names-none : x ≡ InputRow.Nothing → NamesInput file w a false
  names-none f = names-by f refl

pub ruleset names-laws = (names-one-way, names-request, names-none)

-- ---- starters

run-next : (file : List ℕ) (at n j : ℕ) → (n ≡ 0 → ⊥) → Run file at n j → Run file (at + 10) (n - 1) (suc j)
run-next file at n j z h = record {
  there = ap (λ (y : ℕ). y + 10) h.there ∙ next-at file j;
  inputs = λ m u v. h.inputs m (omega arith) (omega (arith, one_less n z));
}

first-input : (file : List ℕ) (at n j : ℕ) → (n ≡ 0 → ⊥) → Run file at n j → field_a file (behaviour_at file j) < behaviour_count file
first-input file at n j z h = h.inputs j (omega arith) (omega (arith, one_less n z))

-- The input of the branch at row j.
abbrev input_at : List ℕ → ℕ → Optional Input
input_at file j = input_of (behaviour_of file (field_a file (behaviour_at file j)))

-- A branch that starts, and one that does not.
module _ (w c k : ℕ) (x : definition.Target) where
  starts-here : (i : Optional Input) → names_input w i ≡ true → definition.start_by w c k i x ≡ start_with c k i
  starts-here none e = true-false (sym e)
  starts-here (some i) e = rw e refl

  starts-later : (i : Optional Input) → names_input w i ≡ false → definition.start_by w c k i x ≡ x
  starts-later none e = refl
  starts-later (some i) e = rw e refl

branches-none : (file : List ℕ) (w c k j n : ℕ) → n ≡ 0 → definition.no_target ≡ definition.start_from w c k (branches_from file (behaviour_of file) j n)
unfolding branches_from definition.start_from
branches-none file w c k j n z = sym (ap (λ (m : ℕ). definition.start_from w c k (branches_from file (behaviour_of file) j m)) z)

branches-suc : (file : List ℕ) (w c k j n : ℕ) → definition.start_from w c k (branches_from file (behaviour_of file) j (suc n))
    ≡ definition.start_by w c k (input_at file j)
    (definition.start_from w c (suc k) (branches_from file (behaviour_of file) (suc j) n))
unfolding branches_from definition.start_from
branches-suc file w c k j zero = refl
branches-suc file w c k j (suc n) = refl

branches-more : (file : List ℕ) (w c k j n : ℕ) → (n ≡ 0 → ⊥) → definition.start_from w c k (branches_from file (behaviour_of file) j n)
    ≡ definition.start_by w c k (input_at file j)
    (definition.start_from w c (k + 1) (branches_from file (behaviour_of file) (suc j) (n - 1)))
branches-more file w c k j n z =
    ap (λ (m : ℕ). definition.start_from w c k (branches_from file (behaviour_of file) j m)) (one_less n z) ∙ (branches-suc file w c k j (n - 1)
    ∙ ap (λ (i : ℕ). definition.start_by w c k (input_at file j) (definition.start_from w c i (branches_from file (behaviour_of file) (suc j) (n - 1)))) (sym (add-one k)))

pub among_none : (file : List ℕ) (w c at k n : ℕ) → n ≡ 0 → StartsAmong file w c at k n None
unfolding start_as
among_none file w c at k n z = record { tells = λ j h. branches-none file w c k j n z; exists = λ j h l. tt }

module _ (file : List ℕ) (w c at k n : ℕ) {b : BranchRow} {t : Bool} (z : n ≡ 0 → ⊥) (e : BranchAt file at b) (i : NamesInput file w b.input t) where
  field_is : (j : ℕ) → Run file at n j → b.input ≡ field_a file (behaviour_at file j)
  field_is j h = e.input ∙ ap (field_a file) h.there

  named-is : (j : ℕ) → Run file at n j → t ≡ names_input w (input_at file j)
  named-is j h = (subst (λ (y : ℕ). NamesInput file w y t) (field_is j h) i).tells (first-input file at n j z h)

  abbrev later : ℕ → definition.Target
  later j = definition.start_from w c (k + 1) (branches_from file (behaviour_of file) (suc j) (n - 1))

  pub among-here : t ≡ true → StartsAmong file w c at k n (Some (c, k, b.input))
  unfolding start_as
  among-here f = record {
    tells = λ j h.
        ap (λ (y : ℕ). start_with c k (input_of (behaviour_of file y))) (field_is j h)
        ∙ sym (branches-more file w c k j n z ∙ starts-here w c k (later j) (input_at file j) (sym (named-is j h) ∙ f));
    exists = λ j h l. (l, subst (λ (y : ℕ). y < behaviour_count file) (sym (field_is j h)) (first-input file at n j z h));
  }

-- The input of none of the first k branches names O row w.
pub record Unstarted (file : List ℕ) (w c at n k : ℕ) : Type 0 where
  pub bound : k ≤ n
  pub tells : (j : ℕ) → Run file at n j → definition.start_from w c 0 (branches_from file (behaviour_of file) j n)
      ≡ definition.start_from w c k (branches_from file (behaviour_of file) (j + k) (n - k))

pub unstarted-none : (file : List ℕ) (w c at n : ℕ) → Unstarted file w c at n 0
unstarted-none file w c at n = record {
  bound = omega arith;
  tells = λ j h.
      let e : j ≡ j + 0 = omega arith in
      let d : n ≡ n - 0 = omega arith in
      ap (λ (m : ℕ). definition.start_from w c 0 (branches_from file (behaviour_of file) m n)) e
      ∙ ap (λ (m : ℕ). definition.start_from w c 0 (branches_from file (behaviour_of file) (j + 0) m)) d;
}

-- The branches from branch k on.
run-from : {file : List ℕ} {at n j : ℕ} (k : ℕ) → k ≤ n → Run file at n j → Run file (at + 10 * k) (n - k) (j + k)
unfolding behaviour_at
run-from k l h = record {
  there = omega (arith, h.there);
  inputs = λ m u v. h.inputs m (omega arith) (omega arith);
}

module _ (file : List ℕ) (w c at n k : ℕ) (d : Unstarted file w c at n k) where
  module _ {b : BranchRow} {t : Bool} {p : ℕ} (l : k < n) (e : BranchAt file p b) (g : p ≡ at + 10 * k) (i : NamesInput file w b.input t) where
    some-left : n - k ≡ 0 → ⊥
    some-left z = omega arith

    here-at : BranchAt file (at + 10 * k) b
    here-at = subst (λ (y : ℕ). BranchAt file y b) g e

    pub unstarted-here : t ≡ true → StartsAmong file w c at 0 n (Some (c, k, b.input))
    unstarted-here f =
        let a = among-here file w c (at + 10 * k) k (n - k) some-left here-at i f in
        record {
          tells = λ j h. a.tells (j + k) (run-from k d.bound h) ∙ sym (d.tells j h);
          exists = λ j h m. a.exists (j + k) (run-from k d.bound h) m;
        }

    pub unstarted-next : t ≡ false → Unstarted file w c at n (k + 1)
    unstarted-next f = record {
      bound = omega arith;
      tells = λ j h.
          let q : suc (j + k) ≡ j + (k + 1) = omega arith in
          let r : n - k - 1 ≡ n - (k + 1) = omega arith in
          let z = named-is file w c (at + 10 * k) k (n - k) some-left here-at i (j + k) (run-from k d.bound h) in
          d.tells j h ∙ (branches-more file w c k (j + k) (n - k) some-left
          ∙ (starts-later w c k (later file w c (at + 10 * k) k (n - k) some-left here-at i (j + k)) (input_at file (j + k)) (sym z ∙ f)
          ∙ (ap (λ (m : ℕ). definition.start_from w c (k + 1) (branches_from file (behaviour_of file) m (n - k - 1))) q
          ∙ ap (λ (m : ℕ). definition.start_from w c (k + 1) (branches_from file (behaviour_of file) (j + (k + 1)) m)) r)));
    }

  pub unstarted-all : n ≤ k → StartsAmong file w c at 0 n None
  unstarted-all l =
      let a = among_none file w c (at + 10 * k) k (n - k) (omega arith) in
      record { tells = λ j h. a.tells (j + k) (run-from k d.bound h) ∙ sym (d.tells j h); exists = λ j h m. tt }

no-choice : (file : List ℕ) (sub : ℕ → Behaviour) (r at : ℕ) (k : BehaviourKind) → is_choice_kind k ≡ false
    → none ≡ choice_of (behaviour_from file sub r at k)
unfolding behaviour_from
no-choice file sub r at BehaviourKind.Nil e = refl
no-choice file sub r at BehaviourKind.OneWay e = refl
no-choice file sub r at BehaviourKind.RequestResponse e = refl
no-choice file sub r at BehaviourKind.Notification e = refl
no-choice file sub r at BehaviourKind.SolicitResponse e = refl
no-choice file sub r at BehaviourKind.If e = refl
no-choice file sub r at BehaviourKind.While e = refl
no-choice file sub r at BehaviourKind.Sequence e = refl
no-choice file sub r at BehaviourKind.Parallel e = refl
no-choice file sub r at BehaviourKind.Assign e = refl
no-choice file sub r at BehaviourKind.Choice e = true-false e
no-choice file sub r at BehaviourKind.Branch e = refl
no-choice file sub r at BehaviourKind.Unknown e = refl

choice-from : (file : List ℕ) (sub : ℕ → Behaviour) (r at : ℕ)
    → choice_of (behaviour_from file sub r at BehaviourKind.Choice) ≡ some (record { row = r; branches = branches_from file sub (field_a file at) (field_b file at) })
unfolding behaviour_from
choice-from file sub r at = refl

module _ (file : List ℕ) (w r : ℕ) {row first n : ℕ} {k : BehaviourKind} {t : Bool} (a : row ≡ behaviour_at file r) (b : first ≡ u16_at file (row + 2))
    (c : n ≡ u16_at file (row + 4)) (d : k ≡ kind_at file r) (e : t ≡ is_choice_kind k) where
  pub from-other : not t ≡ true → StartsFrom file w r None
  unfolding start_as
  from-other f = record {
    tells = λ v l.
        ap (definition.start_of w) (no-choice file (behaviour_of file) r (behaviour_at file r) (kind_at file r) (sym (e ∙ ap is_choice_kind d) ∙ not-true t f)
        ∙ sym (ap choice_of (behaviour-row file v r l)));
    exists = λ v l. tt;
  }

  module _ (f : not t ≡ false) where
    kind-is : kind_at file r ≡ BehaviourKind.Choice
    kind-is = choice-kind (kind_at file r) (sym (e ∙ ap is_choice_kind d) ∙ not-false t f)

    first-is : first ≡ field_a file (behaviour_at file r)
    first-is = b ∙ ap (λ (y : ℕ). u16_at file (y + 2)) a

    count-is : n ≡ field_b file (behaviour_at file r)
    count-is = c ∙ ap (λ (y : ℕ). u16_at file (y + 4)) a

    kept : WellFormed file → r < behaviour_count file → RowKept file r (behaviour_at file r) BehaviourKind.Choice
    kept v l = subst (RowKept file r (behaviour_at file r)) kind-is (behaviour-kept file v r l)

    -- A choice has 1 to 8 branches.
    pub from-many : {x : Option (ℕ × ℕ × ℕ)} → 8 < n → StartsFrom file w r x
    from-many m = record {
      tells = λ v l. absurd (omega (arith, m, count-is, (kept v l).1));
      exists = λ v l. absurd (omega (arith, m, count-is, (kept v l).1));
    }

    run-of-choice : WellFormed file → r < behaviour_count file → {at : ℕ} → at ≡ behaviour_at file first → Run file at n first
    run-of-choice v l g = record {
      there = g;
      inputs = λ m x y. (branch_kept file v r m ((kept v l).2 m (omega (arith, first-is, x)) (omega (arith, first-is, count-is, y)))).0.child.exists;
    }

    starts_is : WellFormed file → r < behaviour_count file
        → definition.start_of w (choice_of (behaviour_of file r)) ≡ definition.start_from w r 0 (branches_from file (behaviour_of file) first n)
    starts_is v l =
        ap (λ (b : Behaviour). definition.start_of w (choice_of b)) (behaviour-row file v r l ∙ ap (behaviour_from file (behaviour_of file) r (behaviour_at file r)) kind-is)
        ∙ (ap (definition.start_of w) (choice-from file (behaviour_of file) r (behaviour_at file r)) ∙ sym (ap (λ (y : ℕ). definition.start_from w r 0 (branches_from file (behaviour_of file) y n)) first-is
        ∙ ap (λ (y : ℕ). definition.start_from w r 0 (branches_from file (behaviour_of file) (field_a file (behaviour_at file r)) y)) count-is))

    pub from-choice : {at : ℕ} {x : Option (ℕ × ℕ × ℕ)} → n ≤ 8 → at ≡ behaviour_at file first → StartsAmong file w r at 0 n x → StartsFrom file w r x
    from-choice m g h = record {
      tells = λ v l. h.tells first (run-of-choice v l g) ∙ sym (starts_is v l);
      exists = λ v l. h.exists first (run-of-choice v l g) l;
    }

pub ruleset from-laws = (from-other, from-many, from-choice)

-- ---- 6 at a starter's input

module _ (file : List ℕ) (q a : ℕ) {y : InputRow} (e : y ≡ input_row_of file a) where
  permits-by : {z : InputRow} {x : Bool} → y ≡ z → x ≡ passes_input q (input_with file (behaviour_to file (behaviour_count file - 1)) a z) → PermitsInput file q a x
  permits-by f g = record { tells = λ l. g ∙ sym (ap (passes_input q) (input-row-is file a l e f)) }

  pub permits-one-way : {o p : ℕ} {x : Bool} → y ≡ InputRow.OneWay o p → x ≡ permits q (direction_of true) false (operation_of file o) → PermitsInput file q a x
  permits-one-way f g = permits-by f g

  pub permits-request : {o p c d : ℕ} {x : Bool} → y ≡ InputRow.RequestResponse o p c d → x ≡ permits q (direction_of true) true (operation_of file o)
      → PermitsInput file q a x
  permits-request f g = permits-by f g

  pub permits-none : y ≡ InputRow.Nothing → PermitsInput file q a false
  permits-none f = permits-by f refl

pub ruleset permits-laws = (permits-one-way, permits-request, permits-none)

-- ---- the queue

-- The first k entries are used.
pub record Used (s : List ℕ) (at n k : ℕ) : Type 0 where
  pub bound : k ≤ n
  pub same : length (read_queue s n at) ≡ k + length (read_queue s (n - k) (at + entry_size * k))

pub used-none : (s : List ℕ) (at n : ℕ) → Used s at n 0
used-none s at n =
    let e : at ≡ at + entry_size * 0 = omega arith in
    let d : n ≡ n - 0 = omega arith in
    let f = ap (λ (k : ℕ). length (read_queue s k at)) d ∙ ap (λ (k : ℕ). length (read_queue s (n - 0) k)) e in
    record { bound = omega arith; same = omega (arith, f) }

module _ (s : List ℕ) (at n k : ℕ) (c : Used s at n k) where
  abbrev place : ℕ
  place = at + entry_size * k

  used-step : k < n → read_queue s (n - k) place
      ≡ pick (eqb (byte_at s place) 0) [] (read_entry s place ∷ read_queue s (n - (k + 1)) (at + entry_size * (k + 1)))
  unfolding read_queue
  used-step h =
      let d : n - k ≡ suc (n - (k + 1)) = omega arith in
      let e : place + entry_size ≡ at + entry_size * (k + 1) = omega arith in
      ap (λ (m : ℕ). read_queue s m place) d
      ∙ ap (λ (m : ℕ). pick (eqb (byte_at s place) 0) [] (read_entry s place ∷ read_queue s (n - (k + 1)) m)) e

  module _ {b p : ℕ} (h : k < n) (g : b ≡ byte_at s p) (e : p ≡ place) where
    f : b ≡ byte_at s place
    f = g ∙ ap (byte_at s) e

    pub used-next : (b ≡ 0 → ⊥) → Used s at n (k + 1)
    used-next z =
        let rest = read_queue s (n - (k + 1)) (at + entry_size * (k + 1)) in
        let l : read_queue s (n - k) place ≡ read_entry s place ∷ rest = used-step h ∙ rw (ne_eqb (byte_at s place) 0 (λ i. z (f ∙ i))) refl in
        record { bound = omega arith; same = omega (arith, c.same, ap length l) }

    pub used-free : b ≡ 0 → (k ≡ length (read_queue s n at)) × (k ≤ n)
    used-free z =
        let l : read_queue s (n - k) place ≡ [] = used-step h ∙ rw (eq-eqb (byte_at s place) 0 (sym f ∙ z)) refl in
        (omega (arith, c.same, ap length l), omega arith)

  pub used-all : n ≤ k → (n ≡ length (read_queue s n at)) × (n ≤ n)
  unfolding read_queue
  used-all h =
      let d : n - k ≡ 0 = omega arith in
      let l = ap (λ (m : ℕ). length (read_queue s m place)) d in
      (omega (arith, c.same, l, c.bound), omega arith)

pub live-room : (s : List ℕ) (at : ℕ) {n : ℕ} → (n ≡ length (read_queue s 4 (at + queue_place))) × (n ≤ 4) → n < 4 → Target.Queued ≡ live_target s at
live-room s at h l = sym (ap (λ (t : Bool). pick t Target.Queued Target.QueueFull) (lt-ltb (length (read_queue s 4 (at + queue_place))) 4 (omega (arith, h.0, l))))

pub live-full : (s : List ℕ) (at : ℕ) {n : ℕ} → (n ≡ length (read_queue s 4 (at + queue_place))) × (n ≤ 4) → 4 ≤ n → Target.QueueFull ≡ live_target s at
live-full s at h l = sym (ap (λ (t : Bool). pick t Target.Queued Target.QueueFull) (le-ltb (length (read_queue s 4 (at + queue_place))) 4 (omega (arith, h.0, l))))

pub ruleset live-laws = (live-room, live-full)

-- ---- a free session

pub free-client : (file : List ℕ) (w n r : ℕ) → n ≡ 0 → FreeTarget file w n r Target.NoTarget
unfolding target_as
free-client file w n r z = record {
  tells = λ v l. sym (ap (λ (t : Bool). pick t definition.no_target (definition.start_of w (choice_of (behaviour_of file r)))) (eq-eqb n 0 z));
  exists = λ v l. tt;
}

module _ (file : List ℕ) (w n r : ℕ) {s : Option (ℕ × ℕ × ℕ)} (z : n ≡ 0 → ⊥) (h : StartsFrom file w r s) where
  pub free-starts : {c k a : ℕ} → s ≡ Some (c, k, a) → FreeTarget file w n r (Target.Starts c k a)
  unfolding target_as start_as
  free-starts {c} {k} {a} e = record {
    tells = λ v l.
        sym (ap (start_as file) e) ∙ (h.tells v l
        ∙ sym (ap (λ (t : Bool). pick t definition.no_target (definition.start_of w (choice_of (behaviour_of file r)))) (ne_eqb n 0 z)));
    exists = λ v l. subst (StartRowsExist file) e (h.exists v l);
  }

  pub free-none : s ≡ None → FreeTarget file w n r Target.NoTarget
  unfolding target_as start_as
  free-none e = record {
    tells = λ v l.
        sym (ap (start_as file) e) ∙ (h.tells v l
        ∙ sym (ap (λ (t : Bool). pick t definition.no_target (definition.start_of w (choice_of (behaviour_of file r)))) (ne_eqb n 0 z)));
    exists = λ v l. tt;
  }

pub ruleset free-laws = (free-client, free-starts, free-none)

-- ---- a session's slot

module _ (file state : List ℕ) (w q n r : ℕ) {at b : ℕ} (place : at ≡ slot_start q n) (g : b ≡ byte_at state at) where
  mark : b ≡ byte_at state (slot_start q n)
  mark = g ∙ ap (byte_at state) place

  pub slot-free : {x : Target} → b ≡ 0 → FreeTarget file w n r x → SlotTarget file state w q n r x
  unfolding read_slot
  slot-free z h = record {
    tells = λ v l u t.
        h.tells v l
        ∙ sym (ap (definition.target_of w n (behaviour_of file r)) (slot_read state q n u t
        ∙ ap (λ (y : Bool). pick y free (live (read_session state (slot_start q n)))) (eq-eqb (byte_at state (slot_start q n)) 0 (sym mark ∙ z))));
    exists = λ v l. h.exists v l;
  }

  pub slot-live : {x : Target} → (b ≡ 0 → ⊥) → x ≡ live_target state at → SlotTarget file state w q n r x
  unfolding read_slot read_session target_as
  slot-live {x} z h = record {
    tells = λ v l u t.
        ap (target_as file) (h ∙ ap (live_target state) place) ∙ (queued-as (ltb (length (read_queue state 4 (slot_start q n + queue_place))) 4)
        ∙ sym (ap (definition.target_of w n (behaviour_of file r)) (slot_read state q n u t
        ∙ ap (λ (y : Bool). pick y free (live (read_session state (slot_start q n)))) (ne_eqb (byte_at state (slot_start q n)) 0 (λ k. z (mark ∙ k))))));
    exists = λ v l. subst (StarterExists file) (sym h) (nothing-starts (ltb (length (read_queue state 4 (at + queue_place))) 4));
  }
    where
      queued-as : (t : Bool) → target_as file (pick t Target.Queued Target.QueueFull) ≡ pick t definition.queued definition.queue_full
      queued-as true = refl
      queued-as false = refl

      nothing-starts : (t : Bool) → StarterExists file (pick t Target.Queued Target.QueueFull)
      nothing-starts true = tt
      nothing-starts false = tt

pub ruleset slot_laws = (slot-free, slot-live)

-- ---- the target

module _ (file state : List ℕ) (i n : ℕ) {v u : ℕ} {x : Option ℕ} (a : v ≡ operation_service file i) (b : u ≡ v) (h : RunsIn file u n x) where
  service-is : u ≡ operation_service file i
  service-is = b ∙ a

  pub target-slot : {r : ℕ} {y : Target} → x ≡ Some r → SlotTarget file state i u n r y → Targets file state i n y
  unfolding operation_of behaviour_run
  target-slot {r} {y} e k = record {
    tells = λ w.
        let p : some (behaviour_of file r) ≡ behaviour_in (network_of file) u n = sym (ap (behaviour_run file) e) ∙ h.tells in
        let l = subst (RowExists file) e (h.exists w) in
        let m = runs-where file u n (behaviour_of file r) (sym p) in
        k.tells w l (omega (arith, m.0, (counts-kept file w).services)) m.1
        ∙ (ap (λ (B : Optional Behaviour). definition.target_in B (λ C. definition.target_of i n C (read_state state u n))) p
        ∙ ap (λ (q : ℕ). definition.target_in (behaviour_in (network_of file) q n) (λ C. definition.target_of i n C (read_state state q n))) service-is);
    exists = λ w. k.exists w (subst (RowExists file) e (h.exists w));
  }

  pub target_none : x ≡ None → Targets file state i n Target.NoTarget
  unfolding operation_of behaviour_run target_as
  target_none e = record {
    tells = λ w.
        ap (λ (B : Optional Behaviour). definition.target_in B (λ C. definition.target_of i n C (read_state state u n)))
        (sym (ap (behaviour_run file) e) ∙ h.tells)
        ∙ ap (λ (q : ℕ). definition.target_in (behaviour_in (network_of file) q n) (λ C. definition.target_of i n C (read_state state q n))) service-is;
    exists = λ w. tt;
  }

pub ruleset target-laws = (target-slot, target_none)
