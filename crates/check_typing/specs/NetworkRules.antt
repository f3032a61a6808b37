-- The rules of a network: starters, clients, services and outputs. 01, Typing: "Starter branches and clients start from empty
-- Γ; a root bound by two branches has one type, else 10; the starter's environment is their union. Γ, that union too, has at
-- most 48 nodes and 6 levels below its empty root. An output to a location in the file meets an input there of the same id
-- and kind, its request type ≤ the input's, and the input's reply type ≤ its own." 02: "In a keyed service the request type of each input has
-- that id as a mandatory int child of its root."
use Rattle.std.specs.Prelude.{◌≡◌, List, [], ◌∷◌, true, ℕ, suc, T}
use Rattle.tree_forest.specs.Forest.{end, node, tree, present, find, set}
use Rattle.network_syntax.specs.Syntax.{mark, Types, MessageType, input, output, Operation, Behaviour, sequence, Branches, last_branch, branch}
use Rattle.network_syntax.specs.Syntax.{Optional, none, some, Service, Network}
use Rattle.network_syntax.specs.Rows.{Choice, choice_of}
use Rattle.network_syntax.specs.Meets.{in_file, met_input}
use Rattle.network_syntax.specs.Keys.{key_id, is_keyed}
use Rattle.scalar.specs.Basic.{int}
use Rattle.check_subtyping.specs.Subtype.{Subtype}
use Rattle.check_typing.specs.Environment.{within}
use Rattle.check_typing.specs.Rules.{Derives, RisingOperation, WellSorted}

-- The branches of a choice, each as the sequence of its input and what follows.
unfoldable pub sequences_of : Branches → List Behaviour
sequences_of (last_branch r a b) = sequence r a b ∷ []
sequences_of (branch r a b m) = sequence r a b ∷ sequences_of m

-- The branches of a starter. It is a choice (01, S); other kinds have none.
abbrev pub of_choice : Optional Choice → List Behaviour
of_choice none = []
of_choice (some c) = sequences_of c.branches

unfoldable pub branches_of : Behaviour → List Behaviour
branches_of B = of_choice (choice_of B)

-- Each behaviour from the empty environment gives the environment in the same place of the list.
unfoldable pub DerivesEach : ℕ → List Behaviour → List Types → Type 0
DerivesEach q [] Γs = Γs ≡ []
DerivesEach q (B ∷ Bs) Γs = (Γ : Types) × (Δs : List Types) × Derives q B end Γ × DerivesEach q Bs Δs × (Γs ≡ Γ ∷ Δs)

-- "a root bound by two branches has one type": the whole trees under that root id are equal.
abbrev pub OneType : Types → Types → Type 0
OneType Γ Δ = (i : ℕ) (t u : MessageType) → find i Γ ≡ present t → find i Δ ≡ present u → t ≡ u

unfoldable pub OneTypeWith : Types → List Types → Type 0
OneTypeWith Γ [] = Unit {0}
OneTypeWith Γ (Δ ∷ Δs) = OneType Γ Δ × OneTypeWith Γ Δs

unfoldable pub OneTypeEach : List Types → Type 0
OneTypeEach [] = Unit {0}
OneTypeEach (Γ ∷ Γs) = OneTypeWith Γ Γs × OneTypeEach Γs

-- "their union": the roots of both.
unfoldable pub union : Types → Types → Types
union end Δ = Δ
union (node i a k r) Δ = set i (tree a k) (union r Δ)

unfoldable pub union_of : List Types → Types
union_of [] = end
union_of (Γ ∷ Γs) = union Γ (union_of Γs)

-- The starter of the service row q gives the environment Γ.
abbrev pub DerivesStarter : ℕ → Behaviour → Types → Type 0
DerivesStarter q B Γ =
    (Γs : List Types) × DerivesEach q (branches_of B) Γs × OneTypeEach Γs × (union_of Γs ≡ Γ) × T (within Γ)

-- The client of the service row q gives the environment Γ.
abbrev pub DerivesClient : ℕ → Behaviour → Types → Type 0
DerivesClient q B Γ = Derives q B end Γ

-- A starter or client that is there has an environment; one that is not there has none.
abbrev pub IfThere : (Behaviour → Types → Type 0) → Optional Behaviour → Optional Types → Type 0
IfThere D none E = none ≡ E
IfThere D (some B) E = (Γ : Types) × D B Γ × (some Γ ≡ E)

-- What a service's starter and client give.
pub record Environments : Type 0 where
  pub starter : Optional Types
  pub client : Optional Types

-- The services from row q on.
unfoldable pub DerivesServices : ℕ → List Service → List Environments → Type 0
DerivesServices q [] Es = Es ≡ []
DerivesServices q (s ∷ ss) Es =
    (E : Environments) × (Fs : List Environments) × IfThere (DerivesStarter q) s.starter E.starter
    × IfThere (DerivesClient q) s.client E.client × DerivesServices (suc q) ss Fs × (Es ≡ E ∷ Fs)

-- The output o agrees with the input i: "its request type ≤ the input's, and the input's reply type ≤ its own". A one-way operation has no
-- reply.
pub record Agrees (o i : Operation) : Type 0 where
  pub requests : Subtype o.request i.request
  pub replies : o.two_way ≡ true → Subtype i.reply o.reply

-- It meets an input, and agrees with it.
abbrev pub AgreesWith : Operation → Optional Operation → Type 0
AgreesWith o none = ⊥
AgreesWith o (some i) = Agrees o i

-- "An output to a location in the file meets an input there", for every output of the list l; a location outside the file asks for nothing.
unfoldable pub OutputsMeet : Network → List Operation → Type 0
OutputsMeet N [] = Unit {0}
OutputsMeet N (o ∷ l) =
    (o.direction ≡ output → T (in_file N o.location) → AgreesWith o (met_input N o)) × OutputsMeet N l

-- 02: "has that id as a mandatory int child of its root". The child's own children are free.
abbrev pub HasKey : ℕ → MessageType → Type 0
HasKey k (tree a l) = (c : Types) × (find k l ≡ present (tree (mark true int) c))

-- 02: "In a keyed service the request type of each input has that id", for every input of the list l.
unfoldable pub InputsKeyed : Network → List Operation → Type 0
InputsKeyed N [] = Unit {0}
InputsKeyed N (o ∷ l) =
    (o.direction ≡ input → T (is_keyed N o.service) → HasKey (key_id N o.service) o.request) × InputsKeyed N l

-- "an unfit input": one of a keyed service whose request type lacks the key.
pub record UnfitInput (N : Network) (o : Operation) : Type 0 where
  pub incoming : o.direction ≡ input
  pub keyed : T (is_keyed N o.service)
  pub lacks : HasKey (key_id N o.service) o.request → ⊥

-- The network is derived, with these environments, one for each service.
pub record DerivesNetwork (N : Network) (Es : List Environments) : Type 0 where
  pub services : DerivesServices 0 N.services Es
  pub outputs : OutputsMeet N N.operations
  pub keys : InputsKeyed N N.operations

-- The ids of all types of the network rise strictly (01, T).
abbrev pub WellSortedIfThere : Optional Behaviour → Type 0
WellSortedIfThere none = Unit {0}
WellSortedIfThere (some B) = WellSorted B

unfoldable pub WellSortedServices : List Service → Type 0
WellSortedServices [] = Unit {0}
WellSortedServices (s ∷ ss) = WellSortedIfThere s.starter × WellSortedIfThere s.client × WellSortedServices ss

unfoldable pub RisingOperations : List Operation → Type 0
RisingOperations [] = Unit {0}
RisingOperations (o ∷ l) = RisingOperation o × RisingOperations l

pub record WellSortedNetwork (N : Network) : Type 0 where
  pub in_services : WellSortedServices N.services
  pub in_operations : RisingOperations N.operations
