-- What the checker's acceptance of a file gives: all that property 3 asks of its network.
use Rattle.std.specs.Prelude.{◌≡◌, refl, ℕ, zero, suc, ◌+◌, Bool, true, false, List, [], ◌∷◌, T, eqb, leb}
use Rattle.std.proofs.Common.{sym, subst, arith, ne_eqb}
use Rattle.tree_forest.specs.Forest.{end, tree}
use Rattle.basics.specs.Choice.{pick}
use Rattle.network_syntax.specs.Syntax.{Types, MessageType, Optional, none, some, Service, Network, Operation, output, Behaviour}
use Rattle.network_syntax.specs.Syntax.{Branches, last_branch, branch}
use Rattle.network.specs.Layout.{behaviour_count}
use Rattle.network.specs.Form.{WellFormed}
use Rattle.network.specs.Decode.{network_of, row_operation}
use Rattle.network_syntax.specs.Meets.{in_file, met_input}
use Rattle.network_syntax.specs.Rows.{is_there, Choice, choice_of, entry}
use Rattle.network.specs.Shapes.{MessageTypeShape, FileBehaviour, IfAny, Role, as_starter, as_client, is_choice_behaviour}
use Rattle.network.specs.Shapes.{NetworkShape, behaviour_as as in_role}
use Rattle.network.proofs.RowLaws.{counts-kept}
use Rattle.network.proofs.NetworkLaws.{service-length, service-of-entry, top_row, top_of, network-shape}
use Rattle.check_typing.specs.Rules.{Derives}
use Rattle.check_typing.specs.NetworkRules.{sequences_of, of_choice, branches_of, DerivesEach, DerivesStarter, DerivesClient, IfThere, Environments}
use Rattle.check_typing.specs.NetworkRules.{DerivesServices, Agrees, AgreesWith, OutputsMeet, DerivesNetwork}
use Rattle.check_typing.specs.Result.{passed}
use Rattle.check_files.specs.FileChecker.{check_file}
use Rattle.check_files.specs.FileCheckerLaws.{accepted-derived}
use Rattle.tree.specs.Encode.{Octets}
use Rattle.state.specs.Shape.{behaviour_in, service_of_row, client_of, starter_of}
use Rattle.soundness.specs.Parts.{branch_at}
use Rattle.soundness.specs.Accepted.{MadeOf, SmallType, OperationFits, BehaviourFits, DerivedStarter, Accepted}
use Rattle.soundness.proofs.FilePartsLaws.{behaviour-made}
use Rattle.network_syntax.specs.ViewLaws.{some_inj, none-some, choice-is}

-- Operations ------------------------------------------------------------------------------------------------------------------------------

small-type : (t : MessageType) → MessageTypeShape t → SmallType t
small-type (tree m k) h = let x = h.shape.few_nodes in let y = h.shape.few_levels in (omega arith, omega arith)

operation-fits : (f : ℕ → Operation) (N : Network) → NetworkShape f N → (w : ℕ) (o : Operation) → entry w N.operations ≡ some o → OperationFits w o
operation-fits f N h w o e =
    let k = h.operations w o e in
    record {
      row = h.numbered w o e;
      rising = (k.request.shape.rising, k.reply.shape.rising);
      small_request = small-type o.request k.request;
      small_reply = small-type o.reply k.reply;
    }

-- Behaviours by session -------------------------------------------------------------------------------------------------------------------

-- The service q, whose behaviour in a role is B.
record Runs (N : Network) (q : ℕ) (x : Role) (B : Behaviour) : Type 0 where
  service : Service
  there : entry q N.services ≡ some service
  runs : in_role x service ≡ some B

client-runs : (N : Network) (q : ℕ) (B : Behaviour) (v : Optional Service) → service_of_row N.services q ≡ v → client_of v ≡ some B → Runs N q as_client B
client-runs N q B none e h = absurd (none-some h)
client-runs N q B (some v) e h = record { service = v; there = e; runs = h }

starter-runs : (N : Network) (q : ℕ) (B : Behaviour) (t : Bool) (v : Optional Service) → service_of_row N.services q ≡ v
    → pick t (starter_of v) none ≡ some B → Runs N q as_starter B
starter-runs N q B true none e h = absurd (none-some h)
starter-runs N q B true (some v) e h = record { service = v; there = e; runs = h }
starter-runs N q B false v e h = absurd (none-some h)

abbrev role_of : ℕ → Role
role_of zero = as_client
role_of (suc n) = as_starter

session-runs : (N : Network) (q n : ℕ) (B : Behaviour) → behaviour_in N q n ≡ some B → Runs N q (role_of n) B
session-runs N q zero B e = client-runs N q B (service_of_row N.services q) refl e
session-runs N q (suc n) B e =
    let f : eqb (suc n) 0 ≡ false = ne_eqb (suc n) 0 (λ z. omega arith) in
    starter-runs N q B (leb (suc n) 3) (service_of_row N.services q) refl (rw f at e)

if-any : {A : Type 0} (P : A → Type 0) (o : Optional A) (a : A) → o ≡ some a → IfAny o P → P a
if-any P o a e h = subst (λ (z : Optional _). IfAny z P) e h

behaviour-fits : (s : List ℕ) → Octets s → WellFormed s → (q : ℕ) (x : Role) (B : Behaviour) → Runs (network_of s) q x B
    → BehaviourFits (network_of s) (behaviour_count s) B
behaviour-fits s b w q x B r =
    let h = if-any (FileBehaviour (row_operation s)) (in_role x r.service) B r.runs ((network-shape s w).behaviours q r.service x r.there) in
    let u = service-of-entry s q r.service r.there in
    let t = top_of s w q u.0 x B (subst (λ (v : Service). in_role x v ≡ some B) u.1 r.runs) in
    record {
      each_once = h.once;
      standing = h.in_file;
      made = subst (MadeOf (network_of s) (behaviour_count s)) (sym t.is_top) (behaviour-made s b w (top_row s q x) t.kept.exists);
    }

-- Derivations -----------------------------------------------------------------------------------------------------------------------------

-- What is derived for the service q.
record DerivedService (q : ℕ) (v : Service) : Type 0 where
  environments : Environments
  starter : IfThere (DerivesStarter q) v.starter environments.starter
  client : IfThere (DerivesClient q) v.client environments.client

service-derived : (l : List Service) (p : ℕ) (Es : List Environments) → DerivesServices p l Es → (q : ℕ) (v : Service) → entry q l ≡ some v
    → DerivedService (p + q) v
unfolding DerivesServices entry
service-derived [] p Es d q v e = absurd (none-some e)
service-derived (u ∷ l) p Es d zero v e =
    let z : p ≡ p + 0 = omega arith in
    let a : u ≡ v = some_inj e in
    subst (DerivedService (p + 0)) a
    (subst (λ (j : ℕ). DerivedService j u) z (record { environments = d.0; starter = d.2; client = d.3 }))
service-derived (u ∷ l) p Es d (suc q) v e =
    let z : suc p + q ≡ p + suc q = omega arith in
    subst (λ (j : ℕ). DerivedService j v) z (service-derived l (suc p) d.1 d.4 q v e)

if-there : (D : Behaviour → Types → Type 0) (B : Optional Behaviour) (E : Optional Types) (C : Behaviour) → B ≡ some C → IfThere D B E → (Γ : Types) × D C Γ
if-there D none E C e h = absurd (none-some e)
if-there D (some B) E C e h = let a : B ≡ C = some_inj e in (h.0, subst (λ (z : Behaviour). D z h.0) a h.1)

derived-at : (N : Network) (Es : List Environments) → DerivesNetwork N Es → (q : ℕ) (v : Service) → entry q N.services ≡ some v → DerivedService q v
derived-at N Es d q v e =
    let z : 0 + q ≡ q = omega arith in
    subst (λ (j : ℕ). DerivedService j v) z (service-derived N.services 0 Es d.services q v e)

-- The branches of a starter.
branch-derived : (q : ℕ) (m : Branches) (Γs : List Types) → DerivesEach q (sequences_of m) Γs → (k : ℕ) → (Δ : Types) × Derives q (branch_at k m) end Δ
unfolding sequences_of DerivesEach branch_at
branch-derived q (last_branch r x y) Γs d k = (d.0, d.2)
branch-derived q (branch r x y m) Γs d zero = (d.0, d.2)
branch-derived q (branch r x y m) Γs d (suc k) = branch-derived q m d.1 d.3 k

starter-derived : (q : ℕ) (B : Behaviour) (Γ : Types) → T (is_choice_behaviour B) → DerivesStarter q B Γ → DerivedStarter q B
unfolding branches_of
starter-derived q B Γ t d = go (choice_of B) refl t d.1
  where
    go : (c : Optional Choice) → choice_of B ≡ c → T (is_there c) → DerivesEach q (of_choice c) d.0 → DerivedStarter q B
    go none e t g = absurd t
    go (some c) e t g =
        record { row = c.row; options = c.branches; is_choice = choice-is B c e; branches = branch-derived q c.branches d.0 g }

-- Outputs ---------------------------------------------------------------------------------------------------------------------------------

-- What the rule says of an output, given by its row.
output-meets : (N : Network) (l : List Operation) → OutputsMeet N l → (w : ℕ) (o : Operation) → entry w l ≡ some o → o.direction ≡ output
    → T (in_file N o.location) → AgreesWith o (met_input N o)
unfolding OutputsMeet entry
output-meets N [] m w o e d t = absurd (none-some e)
output-meets N (x ∷ l) m zero o e d t =
    subst (λ (z : Operation). z.direction ≡ output → T (in_file N z.location) → AgreesWith z (met_input N z)) (some_inj e) m.0 d t
output-meets N (x ∷ l) m (suc w) o e d t = output-meets N l m.1 w o e d t

outputs-agree : (N : Network) → OutputsMeet N N.operations → (w : ℕ) (o i : Operation) → entry w N.operations ≡ some o → o.direction ≡ output
    → T (in_file N o.location) → met_input N o ≡ some i → Agrees o i
outputs-agree N m w o i e d t g = subst (AgreesWith o) g (output-meets N N.operations m w o e d t)

-- Acceptance ------------------------------------------------------------------------------------------------------------------------------

-- Every file of bytes that the checker accepts is what property 3 asks for.
pub accepted : (s : List ℕ) (Es : List Environments) → Octets s → check_file s ≡ passed Es → Accepted (network_of s) (behaviour_count s)
accepted s Es b e = record {
  few_rows = (counts-kept s w).behaviours;
  few_services = let x = service-length s in let y = (counts-kept s w).services in omega arith;
  operations = λ r o g. operation-fits (row_operation s) (network_of s) h r o g;
  behaviours = λ q n B g. behaviour-fits s b w q (role_of n) B (session-runs (network_of s) q n B g);
  clients = λ q B g.
      let r = session-runs (network_of s) q 0 B g in
      if-there (DerivesClient q) r.service.client _ B r.runs (derived-at (network_of s) Es d q r.service r.there).client;
  starters = λ q n B g.
      let r = session-runs (network_of s) q (suc n) B g in
      let u = if-there (DerivesStarter q) r.service.starter _ B r.runs (derived-at (network_of s) Es d q r.service r.there).starter in
      starter-derived q B u.0
      (if-any (λ B. T (is_choice_behaviour B)) r.service.starter B r.runs (h.starters q r.service r.there))
      u.1;
  outputs = λ r o i g. outputs-agree (network_of s) d.outputs r o i g;
}
  where
    w : WellFormed s
    w = (accepted-derived s Es e).0

    d : DerivesNetwork (network_of s) Es
    d = (accepted-derived s Es e).1

    h : NetworkShape (row_operation s) (network_of s)
    h = network-shape s w
