-- The network that an unrefused file is, whole; and the input that an output meets is the only one.
use Rattle.std.specs.Prelude.{ℕ, zero, suc, ◌+◌, ◌<◌, ◌≤◌, ◌≡◌, refl, List, Bool, true, false, not, ◌&&◌, T, eqb, ltb, length}
use Rattle.std.proofs.Common.{sym, ◌∙◌, ap, subst, ⊎_elim, arith}
use Rattle.tree_forest.specs.Compare.{Compare, lt, eq, gt, compare}
use Rattle.basics.specs.Choice.{pick}
use Rattle.basics.specs.TestLaws.{and-of, clash, eq_of, lt_of, not-true, of_eq, or-of, positive}
use Rattle.network_syntax.specs.Syntax.{input, output, Operation, Behaviour, Optional, none, some, Service}
use Rattle.network.specs.declared.BehaviourKind.{BehaviourKind}
use Rattle.network.specs.Layout.{behaviour_count, operation_count, service_count}
use Rattle.network.specs.Rows.{kind_at, is_branch_kind, is_choice_kind, operation_service, operation_direction, operation_id, operation_location, same_service}
use Rattle.network.specs.Rows.{same_name, service_location, starter_row, client_row, service_key, no_row, starter_fits, client_fits}
use Rattle.network.specs.Uses.{service_uses}
use Rattle.network.specs.Form.{WellFormed}
use Rattle.network.specs.Decode.{operation_of, behaviour_of, row_operation, optional_behaviour, service_of, rows_from, network_of}
use Rattle.network_syntax.specs.Rows.{entry}
use Rattle.network_syntax.specs.Keys.{key_id_of, key_id}
use Rattle.network.specs.Shapes.{OperationShape, Apart, is_choice_behaviour, FileBehaviour, IfAny, Role, as_starter, as_client, behaviour_as}
use Rattle.network.specs.Shapes.{NetworkShape}
use Rattle.network.proofs.RowLaws.{service-kept, operation-kept}
use Rattle.network.proofs.UseLaws.{uses-kept, one-service, choice-kind, one_same}
use Rattle.network.proofs.DecodeLaws.{operation-shape}
use Rattle.network.proofs.BehaviourLaws.{behaviour-shape, behaviour-in-file, choice-row, behaviour-operations}
use Rattle.network.proofs.OnceLaws.{each-row-once, tops-apart}

-- ---- entries of a list of rows

record Entered {A : Type 0} (f : ℕ → A) (first n i : ℕ) (a : A) : Type 0 where
  number : i < n
  is_row : a ≡ f (first + i)

entered : {A : Type 0} (f : ℕ → A) (n first i : ℕ) (a : A) → entry i (rows_from f first n) ≡ some a → Entered f first n i a
unfolding entry rows_from
entered f zero first i a e = let z : ◌≡◌ {A = ℕ} 0 1 = cc in absurd (omega arith)
entered f (suc n) first zero a e = let z : first ≡ first + 0 = omega arith in let h : a ≡ f first = cc in
    record { number = omega arith; is_row = h ∙ ap f z }
entered f (suc n) first (suc i) a e =
    let h = entered f n (suc first) i a e in
    let l = h.number in
    let z : suc first + i ≡ first + suc i = omega arith in
    record { number = omega arith; is_row = h.is_row ∙ ap f z }

pub entry_row : {A : Type 0} (f : ℕ → A) (n first i : ℕ) → i < n → entry i (rows_from f first n) ≡ some (f (first + i))
unfolding entry rows_from
entry_row f zero first i l = absurd (omega arith)
entry_row f (suc n) first zero l = let z : first ≡ first + 0 = omega arith in ap (λ j. some (f j)) z
entry_row f (suc n) first (suc i) l = let z : suc first + i ≡ first + suc i = omega arith in entry_row f n (suc first) i (omega arith) ∙ ap
    (λ j. some (f j)) z

length-rows : {A : Type 0} (f : ℕ → A) (n first : ℕ) → length (rows_from f first n) ≡ n
unfolding rows_from
length-rows f zero first = refl
length-rows f (suc n) first = ap suc (length-rows f n (suc first))

-- Entry i of the services is S row i, entry i of the operations is O row i.
pub service-entry : (s : List ℕ) (i : ℕ) → i < service_count s → entry i (network_of s).services ≡ some (service_of s i)
unfolding network_of
service-entry s i l = let z : 0 + i ≡ i = omega arith in entry_row (service_of s) (service_count s) 0 i l ∙ ap (λ j. some (service_of s j)) z

pub operation-entry : (s : List ℕ) (i : ℕ) → i < operation_count s → entry i (network_of s).operations ≡ some (operation_of s i)
unfolding network_of
operation-entry s i l = let z : 0 + i ≡ i = omega arith in entry_row (operation_of s) (operation_count s) 0 i l ∙ ap (λ j. some (operation_of s j)) z

-- The key id of the service q is that of S row q.
pub service-key : (s : List ℕ) (q : ℕ) → q < service_count s → key_id (network_of s) q ≡ service_key s q
unfolding service_of
service-key s q l = ap key_id_of (service-entry s q l)

pub service-of-entry : (s : List ℕ) (i : ℕ) (v : Service) → entry i (network_of s).services ≡ some v → (i < service_count s) × (v ≡ service_of s i)
unfolding network_of
service-of-entry s i v e =
    let h = entered (service_of s) (service_count s) 0 i v e in
    let z : 0 + i ≡ i = omega arith in
    (h.number, h.is_row ∙ ap (service_of s) z)

pub operation-of-entry : (s : List ℕ) (i : ℕ) (o : Operation) → entry i (network_of s).operations ≡ some o
    → (i < operation_count s) × (o ≡ operation_of s i)
unfolding network_of
operation-of-entry s i o e =
    let h = entered (operation_of s) (operation_count s) 0 i o e in
    let z : 0 + i ≡ i = omega arith in
    (h.number, h.is_row ∙ ap (operation_of s) z)

-- ---- top rows

-- The row of a service's starter or client.
abbrev pub top_row : List ℕ → ℕ → Role → ℕ
top_row s q as_starter = starter_row s q
top_row s q as_client = client_row s q

pub record TopKept (s : List ℕ) (q : ℕ) (x : Role) : Type 0 where
  pub exists : top_row s q x < behaviour_count s
  pub kind : is_branch_kind (kind_at s (top_row s q x)) ≡ false
  pub used : 1 ≤ service_uses s (top_row s q x) q

no-branch : (k : BehaviourKind) → is_choice_kind k ≡ true → is_branch_kind k ≡ false
no-branch k e = ap is_branch_kind (choice-kind k e)

starter-kept : (s : List ℕ) → WellFormed s → (q : ℕ) → q < service_count s → (eqb (starter_row s q) no_row ≡ false)
    → (starter_row s q < behaviour_count s) × (is_choice_kind (kind_at s (starter_row s q)) ≡ true)
unfolding starter_fits
starter-kept s w q l ne =
    ⊎_elim
    (λ e. absurd (clash e ne))
    (λ e. let a = and-of (ltb (starter_row s q) (behaviour_count s)) (is_choice_kind (kind_at s (starter_row s q))) e in
    (lt_of (starter_row s q) (behaviour_count s) a.0, a.1))
    (or-of (eqb (starter_row s q) no_row) (ltb (starter_row s q) (behaviour_count s) && is_choice_kind (kind_at s (starter_row s q)))
    (service-kept s w q l).starters)

client-kept : (s : List ℕ) → WellFormed s → (q : ℕ) → q < service_count s → (eqb (client_row s q) no_row ≡ false)
    → (client_row s q < behaviour_count s) × (is_branch_kind (kind_at s (client_row s q)) ≡ false)
unfolding client_fits
client-kept s w q l ne =
    ⊎_elim
    (λ e. absurd (clash e ne))
    (λ e.
    let a = and-of (ltb (client_row s q) (behaviour_count s)) (not (is_branch_kind (kind_at s (client_row s q)))) e in
    (lt_of (client_row s q) (behaviour_count s) a.0, not-true (is_branch_kind (kind_at s (client_row s q))) a.1))
    (or-of (eqb (client_row s q) no_row) (ltb (client_row s q) (behaviour_count s) && not (is_branch_kind (kind_at s (client_row s q))))
    (service-kept s w q l).clients)

top_kept : (s : List ℕ) → WellFormed s → (q : ℕ) → q < service_count s → (x : Role) → eqb (top_row s q x) no_row ≡ false → TopKept s q x
unfolding service_uses
top_kept s w q l as_starter ne =
    let h = starter-kept s w q l ne in
    let o = one_same (starter_row s q) (starter_row s q) refl in
    record { exists = h.0; kind = no-branch (kind_at s (starter_row s q)) h.1; used = omega arith }
top_kept s w q l as_client ne =
    let h = client-kept s w q l ne in
    let o = one_same (client_row s q) (client_row s q) refl in
    record { exists = h.0; kind = h.1; used = omega arith }

-- A top row is that of one service and role.
one-top : (s : List ℕ) → WellFormed s → (p q : ℕ) (x y : Role) → p < service_count s → q < service_count s → TopKept s p x → TopKept s q y
    → top_row s p x ≡ top_row s q y → (p ≡ q → x ≡ y → ⊥) → ⊥
unfolding service_uses
one-top s w p q x y lp lq kp kq e ne = go x y kp kq e (λ z. ne same z)
  where
    same : p ≡ q
    same = one-service s w (top_row s p x) p q kp.exists lp lq kp.used (subst (λ (r : ℕ). 1 ≤ service_uses s r q) (sym e) kq.used)

    two : starter_row s p ≡ client_row s q → starter_row s p < behaviour_count s → ⊥
    two e2 l =
        let e3 : client_row s p ≡ starter_row s p = ap (client_row s) same ∙ sym e2 in
        let a = one_same (starter_row s p) (starter_row s p) refl in
        let b = one_same (client_row s p) (starter_row s p) e3 in
        let u : 1 ≤ service_uses s (starter_row s p) p = omega arith in
        let z = ((uses-kept s w (starter_row s p) l).by_service p lp u).1 in
        omega arith

    go : (x y : Role) → TopKept s p x → TopKept s q y → top_row s p x ≡ top_row s q y → (x ≡ y → ⊥) → ⊥
    go as_starter as_starter k m f d = d refl
    go as_starter as_client k m f d = two f k.exists
    go as_client as_starter k m f d =
        let f2 : starter_row s p ≡ client_row s q = ap (starter_row s) same ∙ sym f ∙ ap (client_row s) same in
        two f2 (let l = m.exists in let g : starter_row s p ≡ starter_row s q = ap (starter_row s) same in omega arith)
    go as_client as_client k m f d = d refl

-- ---- services

in-service : (s : List ℕ) (q : ℕ) (x : Role) → behaviour_as x (service_of s q) ≡ optional_behaviour s (top_row s q x)
unfolding service_of
in-service s q as_starter = refl
in-service s q as_client = refl

file-behaviour : (s : List ℕ) → WellFormed s → (q : ℕ) (x : Role) → TopKept s q x → FileBehaviour (row_operation s) (behaviour_of s (top_row s q x))
file-behaviour s w q x k = record {
  once = each-row-once s w (top_row s q x) k.exists;
  in_file = behaviour-in-file s w (top_row s q x) k.exists k.kind;
  parts = behaviour-shape s w (top_row s q x) k.exists;
  operations = behaviour-operations s (top_row s q x);
}

service-behaviours : (s : List ℕ) → WellFormed s → (q : ℕ) → q < service_count s → (x : Role)
    → IfAny (behaviour_as x (service_of s q)) (FileBehaviour (row_operation s))
service-behaviours s w q l x =
    subst (λ (o : Optional Behaviour). IfAny o (FileBehaviour (row_operation s))) (sym (in-service s q x)) (go (eqb (top_row s q x) no_row) refl)
  where
    go : (t : Bool) → eqb (top_row s q x) no_row ≡ t → IfAny (pick t none (some (behaviour_of s (top_row s q x)))) (FileBehaviour (row_operation s))
    go true e = tt
    go false e = file-behaviour s w q x (top_kept s w q l x e)

service-starter : (s : List ℕ) → WellFormed s → (q : ℕ) → q < service_count s → IfAny (service_of s q).starter (λ b. T (is_choice_behaviour b))
unfolding service_of
service-starter s w q l = go (eqb (starter_row s q) no_row) refl
  where
    go : (t : Bool) → eqb (starter_row s q) no_row ≡ t → IfAny (pick t none (some (behaviour_of s (starter_row s q)))) (λ b. T (is_choice_behaviour b))
    go true e = tt
    go false e = let h = starter-kept s w q l e in choice-row s w (starter_row s q) h.0 h.1

-- The behaviour of a service and role, where there is one.
pub record Top (s : List ℕ) (q : ℕ) (x : Role) (b : Behaviour) : Type 0 where
  pub is_top : b ≡ behaviour_of s (top_row s q x)
  pub kept : TopKept s q x

pub top_of : (s : List ℕ) → WellFormed s → (q : ℕ) → q < service_count s → (x : Role) (b : Behaviour) → behaviour_as x (service_of s q) ≡ some b
    → Top s q x b
top_of s w q l x b e = go (eqb (top_row s q x) no_row) refl (sym (in-service s q x) ∙ e)
  where
    go : (t : Bool) → eqb (top_row s q x) no_row ≡ t → pick t none (some (behaviour_of s (top_row s q x))) ≡ some b → Top s q x b
    go true f g = let z : ◌≡◌ {A = ℕ} 0 1 = cc in absurd (omega arith)
    go false f g = record { is_top = cc; kept = top_kept s w q l x f }

services-apart : (s : List ℕ) → WellFormed s → (p q : ℕ) (x y : Role) (a b : Behaviour) → p < service_count s → q < service_count s
    → behaviour_as x (service_of s p) ≡ some a
    → behaviour_as y (service_of s q) ≡ some b → (p ≡ q → x ≡ y → ⊥) → Apart a b
services-apart s w p q x y a b lp lq ea eb ne =
    let g = top_of s w p lp x a ea in
    let h = top_of s w q lq y b eb in
    let r = tops-apart s w (top_row s p x) (top_row s q y) p q g.kept.exists h.kept.exists lp lq g.kept.used h.kept.used
    (λ e. one-top s w p q x y lp lq g.kept h.kept e ne) in
    rw (g.is_top, h.is_top) r

-- ---- operations

input-direction : (d : ℕ) → pick (eqb d 0) input output ≡ input → d ≡ 0
input-direction d e = go (eqb d 0) refl e
  where
    go : (t : Bool) → eqb d 0 ≡ t → pick t input output ≡ input → d ≡ 0
    go true f g = eq_of d 0 f
    go false f g = let z : ◌≡◌ {A = ℕ} 0 1 = cc in absurd (omega arith)

-- Two inputs of one service and id are one row.
inputs-once : (s : List ℕ) → WellFormed s → (i j : ℕ) → i < operation_count s → j < operation_count s → operation_direction s i ≡ 0
    → operation_direction s j ≡ 0
    → operation_service s i ≡ operation_service s j → operation_id s i ≡ operation_id s j → i ≡ j
unfolding same_service same_name
inputs-once s w i j li lj di dj es ei = go (compare i j)
  where
    clashes : (a b : ℕ) → operation_direction s a ≡ 0 → operation_direction s b ≡ 0 → operation_service s a ≡ operation_service s b
        → operation_id s a ≡ operation_id s b → same_service s a b && same_name s a b ≡ false → ⊥
    clashes a b da db ea eb f =
        clash
        (rw (
          of_eq (operation_service s a) (operation_service s b) ea,
          of_eq (operation_direction s a) (operation_direction s b) (da ∙ sym db),
          of_eq (operation_id s a) (operation_id s b) eb,
          of_eq (operation_direction s a) 0 da,
        ) refl) f

    go : Compare i j → i ≡ j
    go (lt h) = absurd (clashes j i dj di (sym es) (sym ei) ((operation-kept s w j lj).once i h))
    go (eq h) = h
    go (gt h) = absurd (clashes i j di dj es ei ((operation-kept s w i li).once j h))

output-direction : (d : ℕ) → d ≤ 1 → pick (eqb d 0) input output ≡ output → d ≡ 1
output-direction zero l e = let z : ◌≡◌ {A = ℕ} 0 1 = cc in absurd (omega arith)
output-direction (suc zero) l e = refl
output-direction (suc (suc d)) l e = absurd (omega arith)

-- Two outputs of one service, id and location are one row.
outputs-once : (s : List ℕ) → WellFormed s → (i j : ℕ) → i < operation_count s → j < operation_count s
    → operation_direction s i ≡ 1 → operation_direction s j ≡ 1 → operation_service s i ≡ operation_service s j
    → operation_id s i ≡ operation_id s j → operation_location s i ≡ operation_location s j → i ≡ j
unfolding same_service same_name
outputs-once s w i j li lj di dj es ei el = go (compare i j)
  where
    clashes : (a b : ℕ) → operation_direction s a ≡ 1 → operation_direction s b ≡ 1 → operation_service s a ≡ operation_service s b
        → operation_id s a ≡ operation_id s b → operation_location s a ≡ operation_location s b
        → same_service s a b && same_name s a b ≡ false → ⊥
    clashes a b da db ea eb ec f =
        clash
        (rw (
          of_eq (operation_service s a) (operation_service s b) ea,
          of_eq (operation_direction s a) (operation_direction s b) (da ∙ sym db),
          of_eq (operation_id s a) (operation_id s b) eb,
          da,
          of_eq (operation_location s a) (operation_location s b) ec,
        ) refl)
        f

    go : Compare i j → i ≡ j
    go (lt h) = absurd (clashes j i dj di (sym es) (sym ei) (sym el) ((operation-kept s w j lj).once i h))
    go (eq h) = h
    go (gt h) = absurd (clashes i j di dj es ei el ((operation-kept s w i li).once j h))

-- ---- the network

-- The lists have an entry for each row.
pub service-length : (s : List ℕ) → length (network_of s).services ≡ service_count s
unfolding network_of
service-length s = length-rows (service_of s) (service_count s) 0

pub operation-length : (s : List ℕ) → length (network_of s).operations ≡ operation_count s
unfolding network_of
operation-length s = length-rows (operation_of s) (operation_count s) 0

-- An entry of the operations, field by field.
pub record OperationEntry (s : List ℕ) (i : ℕ) (o : Operation) : Type 0 where
  pub exists : i < operation_count s
  pub is_row : o ≡ operation_of s i
  pub row : o.row ≡ i
  pub service : o.service ≡ operation_service s i
  pub direction : o.direction ≡ pick (eqb (operation_direction s i) 0) input output
  pub id : o.id ≡ operation_id s i
  pub location : o.location ≡ operation_location s i

pub operation-fields : (s : List ℕ) (i : ℕ) (o : Operation) → entry i (network_of s).operations ≡ some o → OperationEntry s i o
unfolding operation_of
operation-fields s i o e =
    let h = operation-of-entry s i o e in
    let k : o ≡ operation_of s i = h.1 in
    record {
      exists = h.0;
      is_row = k;
      row = ap (λ (z : Operation). z.row) k;
      service = ap (λ (z : Operation). z.service) k;
      direction = ap (λ (z : Operation). z.direction) k;
      id = ap (λ (z : Operation). z.id) k;
      location = ap (λ (z : Operation). z.location) k;
    }

service-location : (s : List ℕ) (q : ℕ) (v : Service) → v ≡ service_of s q → v.location ≡ service_location s q
unfolding service_of
service-location s q v e = ap (λ (z : Service). z.location) e

-- Two services at one location are one.
locations-once : (s : List ℕ) → WellFormed s → (p q : ℕ) → p < service_count s → q < service_count s
    → service_location s p ≡ service_location s q → p ≡ q
locations-once s w p q lp lq e = go (compare p q)
  where
    go : Compare p q → p ≡ q
    go (lt h) = absurd ((service-kept s w q lq).once p h e)
    go (eq h) = h
    go (gt h) = absurd ((service-kept s w p lp).once q h (sym e))

pub network-shape : (s : List ℕ) → WellFormed s → NetworkShape (row_operation s) (network_of s)
network-shape s w = record {
  behaviours = λ q v x e.
      let h = service-of-entry s q v e in
      subst (λ (u : Service). IfAny (behaviour_as x u) (FileBehaviour (row_operation s))) (sym h.1) (service-behaviours s w q h.0 x);
  starters = λ q v e.
      let h = service-of-entry s q v e in
      subst (λ (u : Service). IfAny u.starter (λ b. T (is_choice_behaviour b))) (sym h.1) (service-starter s w q h.0);
  apart = λ p q v u x y a b ev eu ea eb ne.
      let g = service-of-entry s p v ev in
      let h = service-of-entry s q u eu in
      services-apart s w p q x y a b g.0 h.0
      (subst (λ (z : Service). behaviour_as x z ≡ some a) g.1 ea) (subst (λ (z : Service). behaviour_as y z ≡ some b) h.1 eb) ne;
  located = λ q v e.
      let h = service-of-entry s q v e in
      let k = service-location s q v h.1 in
      let l = positive (service_location s q) (service-kept s w q h.0).located in
      omega arith;
  locations_once = λ p q v u ev eu e.
      let g = service-of-entry s p v ev in
      let h = service-of-entry s q u eu in
      locations-once s w p q g.0 h.0 (sym (service-location s p v g.1) ∙ (e ∙ service-location s q u h.1));
  operations = λ i o e.
      let h = operation-fields s i o e in
      subst (λ (z : Operation). OperationShape z) (sym h.is_row) (operation-shape s w i h.exists);
  numbered = λ i o e. (operation-fields s i o e).row;
  owned = λ i o e.
      let h = operation-fields s i o e in
      let k = h.service in
      let l = (operation-kept s w i h.exists).owner in
      (service_of s o.service, service-entry s o.service (omega arith));
  inputs_once = λ i j o p eo ep di dj es ei.
      let g = operation-fields s i o eo in
      let h = operation-fields s j p ep in
      inputs-once s w i j g.exists h.exists
      (input-direction (operation_direction s i) (sym g.direction ∙ di))
      (input-direction (operation_direction s j) (sym h.direction ∙ dj))
      (sym g.service ∙ (es ∙ h.service))
      (sym g.id ∙ (ei ∙ h.id));
  outputs_once = λ i j o p eo ep di dj es ei el.
      let g = operation-fields s i o eo in
      let h = operation-fields s j p ep in
      outputs-once s w i j g.exists h.exists
      (output-direction (operation_direction s i) (operation-kept s w i g.exists).directions (sym g.direction ∙ di))
      (output-direction (operation_direction s j) (operation-kept s w j h.exists).directions (sym h.direction ∙ dj))
      (sym g.service ∙ (es ∙ h.service))
      (sym g.id ∙ (ei ∙ h.id))
      (sym g.location ∙ (el ∙ h.location));
}
