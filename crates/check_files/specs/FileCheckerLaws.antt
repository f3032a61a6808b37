-- The checker accepts exactly what the rules derive, with the derived environments: for every file.
use Rattle.std.specs.Prelude.{◌≡◌, refl, List, [], ◌∷◌, ℕ, zero, suc, ◌+◌, ◌<◌}
use Rattle.std.proofs.Common.{sym, ap, ◌∙◌, arith}
use Rattle.network_syntax.specs.Syntax.{Operation, Behaviour, nil, one_way, request_response, notification, solicit_response, if_then_else, while_do}
use Rattle.network_syntax.specs.Syntax.{sequence, parallel, assign, choice, waiting, answering, Branches, last_branch, branch, Optional, none, some}
use Rattle.network_syntax.specs.Syntax.{Service, Network}
use Rattle.network.specs.Form.{form_of, WellFormed}
use Rattle.network.specs.Decode.{network_of}
use Rattle.network_syntax.specs.Rows.{entry}
use Rattle.network.specs.Shapes.{OperationShape, BehaviourShape, BranchesShape, FileBehaviour, IfAny, as_starter, as_client, NetworkShape}
use Rattle.network.proofs.NetworkLaws.{network-shape}
use Rattle.check_typing.specs.Rules.{RisingOperation, WellSorted, WellSortedBranches}
use Rattle.check_typing.specs.Result.{Checked, refused, passed}
use Rattle.check_typing.specs.NetworkRules.{Environments, DerivesNetwork, WellSortedIfThere, WellSortedServices, RisingOperations, WellSortedNetwork}
use Rattle.check_typing.specs.NetworkChecker.{check_network}
use Rattle.check_typing.proofs.NetworkLaws.{checked-derived, derived-checked}
use Rattle.check_files.specs.FileChecker.{after_form, check_file}
use Rattle.std.specs.Prelude.{Result, Ok, Err}
use Rattle.refusal.specs.declared.Refusal.{Refusal}

operation-rising : (o : Operation) → OperationShape o → RisingOperation o
operation-rising o h = (h.request.shape.rising, h.reply.shape.rising)

-- The types of a file's behaviour have rising ids.
mutual
  unfolding BehaviourShape WellSorted

  shape-sorted : (B : Behaviour) → BehaviourShape B → WellSorted B
  shape-sorted (nil r) h = tt
  shape-sorted (one_way r o x) h = operation-rising o h.0
  shape-sorted (request_response r o x c d) h = (operation-rising o h.0, shape-sorted d h.3)
  shape-sorted (notification r o e) h = operation-rising o h.0
  shape-sorted (solicit_response r o e x) h = operation-rising o h.0
  shape-sorted (if_then_else r e a b) h = (shape-sorted a h.1, shape-sorted b h.2)
  shape-sorted (while_do r e b) h = shape-sorted b h.1
  shape-sorted (sequence r a b) h = (shape-sorted a h.0, shape-sorted b h.1)
  shape-sorted (parallel r a b) h = (shape-sorted a h.0, shape-sorted b h.1)
  shape-sorted (assign r x e) h = tt
  shape-sorted (choice r m) h = shape-sorted-branches m h
  shape-sorted (waiting r o x) h = operation-rising o h.0
  shape-sorted (answering r o c d) h = (operation-rising o h.0, shape-sorted d h.2)

  shape-sorted-branches : (m : Branches) → BranchesShape m → WellSortedBranches m
  shape-sorted-branches (last_branch r a b) h = (shape-sorted a h.0, shape-sorted b h.1)
  shape-sorted-branches (branch r a b m) h = (shape-sorted a h.0, shape-sorted b h.1, shape-sorted-branches m h.2)

there-sorted : (f : ℕ → Operation) (B : Optional Behaviour) → IfAny B (FileBehaviour f) → WellSortedIfThere B
there-sorted f none h = tt
there-sorted f (some B) h = shape-sorted B h.parts

services-sorted : (f : ℕ → Operation) (l : List Service)
    → ((q : ℕ) (v : Service) → entry q l ≡ some v → IfAny v.starter (FileBehaviour f) × IfAny v.client (FileBehaviour f))
    → WellSortedServices l
unfolding WellSortedServices entry
services-sorted f [] h = tt
services-sorted f (v ∷ l) h =
    let here = h 0 v refl in
    (there-sorted f v.starter here.0, there-sorted f v.client here.1, services-sorted f l (λ q. h (suc q)))

operations-rising : (l : List Operation) → ((i : ℕ) (o : Operation) → entry i l ≡ some o → OperationShape o) → RisingOperations l
unfolding RisingOperations entry
operations-rising [] h = tt
operations-rising (o ∷ l) h = (operation-rising o (h 0 o refl), operations-rising l (λ i. h (suc i)))

-- Every type of the network of a file that none of 2 to 5 refuses has rising ids.
pub file-sorted : (s : List ℕ) → WellFormed s → WellSortedNetwork (network_of s)
file-sorted s w =
    let h = network-shape s w in
    record {
      in_services = services-sorted _ (network_of s).services (λ q v e. (h.behaviours q v as_starter e, h.behaviours q v as_client e));
      in_operations = operations-rising (network_of s).operations h.operations;
    }

form-passed : {A : Type 0} (v : Result (Unit {0}) Refusal) (c : Checked A) {a : A} → after_form v c ≡ passed a → (v ≡ (Ok tt)) × (c ≡ passed a)
form-passed (Ok tt) c e = (refl, e)
form-passed (Err why) c e = absurd (let z : ◌≡◌ {A = ℕ} 0 1 = cc in omega arith)

-- What the checker accepts is derived ..
pub accepted-derived : (s : List ℕ) (Es : List Environments) → check_file s ≡ passed Es → WellFormed s × DerivesNetwork (network_of s) Es
unfolding check_file
accepted-derived s Es e =
    let u = form-passed (form_of s) (check_network (network_of s)) e in
    (u.0, checked-derived (network_of s) Es (file-sorted s u.0) u.1)

-- .. and what is derived the checker accepts, with these environments.
pub derived-accepted : (s : List ℕ) (Es : List Environments) → WellFormed s → DerivesNetwork (network_of s) Es → check_file s ≡ passed Es
unfolding check_file
derived-accepted s Es w d = rw w (derived-checked (network_of s) Es (file-sorted s w) d)
