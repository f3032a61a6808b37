-- The typing rules of behaviours: `Derives q B Γ Δ` says that the behaviour B of the service row q, from the environment Γ,
-- gives Δ. One clause for each kind of row, its premises in 01's order, with 01's limits. 01, Typing, fourth paragraph.
use Rattle.std.specs.Prelude.{◌≡◌, Bool, true, false, not, ◌&&◌, ◌||◌, ℕ, T, eqb}
use Rattle.tree_forest.specs.Forest.{tree, Lookup, absent, present, RisingTree}
use Rattle.tree_forest.specs.Path.{Path, read, replace_at}
use Rattle.scalar.specs.Basic.{bool}
use Rattle.network_syntax.specs.Syntax.{Mark, mark, Types, MessageType, Expression, Direction, input, output, Operation, Behaviour, nil, one_way}
use Rattle.network_syntax.specs.Syntax.{request_response, notification, solicit_response, if_then_else, while_do, sequence, parallel, assign, choice}
use Rattle.network_syntax.specs.Syntax.{waiting, answering, Branches, last_branch, branch}
use Rattle.check_subtyping.specs.Subtype.{root_basic, Subtype}
use Rattle.check_typing.specs.Environment.{within, missing_step, as_mandatory, basic_leaf, no_mandatory}
use Rattle.check_typing.specs.ExpressionRules.{ids_of, Firm, above, longest_in, FirmAs, HasType}
use Rattle.check_typing.specs.Occurs.{NoSharedRoot}

abbrev pub same_bool : Bool → Bool → Bool
same_bool true n = n
same_bool false n = not n

abbrev pub same_direction : Direction → Direction → Bool
same_direction input input = true
same_direction input output = false
same_direction output input = false
same_direction output output = true

-- The operation is one of this service, of this direction and kind. 6: "The operation has another service, direction or kind".
unfoldable pub permits : ℕ → Direction → Bool → Operation → Bool
permits q d two o = eqb o.service q && (same_direction o.direction d && same_bool o.two_way two)

-- Placing T at x takes Γ to Δ: "if x is in Γ, the path above it stands firm, T ≤ the type there, Γ stays. Otherwise the
-- longest part of x in Γ stands firm, missing steps become mandatory void nodes, and T goes in as mandatory." Δ is within
-- the limits; where Γ stays that says nothing new.
abbrev pub PlacedAt : Path → MessageType → Types → Types → Lookup Mark → Type 0
PlacedAt x t Γ Δ (present u) = Firm (above (ids_of x)) Γ × Subtype t u × (Γ ≡ Δ)
PlacedAt x t Γ Δ absent = Firm (longest_in (ids_of x) Γ) Γ × (replace_at missing_step x (as_mandatory t) Γ ≡ Δ)

abbrev pub Placed : Path → MessageType → Types → Types → Type 0
Placed x t Γ Δ = PlacedAt x t Γ Δ (read x Γ) × T (within Δ)

-- "Assigning e places only e's basic type: for an x in Γ, the path above stands firm, the basic types are equal, and x is
-- mandatory or has no mandatory child".
abbrev pub AssignedAt : Path → ℕ → Types → Types → Lookup Mark → Type 0
AssignedAt x b Γ Δ (present (tree (mark m c) k)) = Firm (above (ids_of x)) Γ × (b ≡ c) × T (m || no_mandatory k) × (Γ ≡ Δ)
AssignedAt x b Γ Δ absent = Firm (longest_in (ids_of x) Γ) Γ × (replace_at missing_step x (basic_leaf b) Γ ≡ Δ)

abbrev pub Assigned : Path → ℕ → Types → Types → Type 0
Assigned x b Γ Δ = AssignedAt x b Γ Δ (read x Γ) × T (within Δ)

-- "expression ≤ request type"
abbrev pub Sends : Types → Expression → MessageType → Type 0
Sends Γ e t = (n : MessageType) × HasType Γ e n × Subtype n t

-- "the reply path stands firm and is ≤ the reply type"
abbrev pub Answers : Path → Types → MessageType → Type 0
Answers c Γ t = (n : MessageType) × FirmAs c Γ n × Subtype n t

-- "a bool"; a path's root value counts.
abbrev pub Condition : Types → Expression → Type 0
Condition Γ e = (n : MessageType) × HasType Γ e n × (root_basic n ≡ bool)

unfoldable mutual
  pub Derives : ℕ → Behaviour → Types → Types → Type 0
  -- nil changes nothing
  Derives q (nil r) Γ Δ = Γ ≡ Δ
  -- "One-way places the request type."
  Derives q (one_way r o x) Γ Δ = T (permits q input false o) × Placed x o.request Γ Δ
  -- "Request-response places it, types the body, then the reply path stands firm and is ≤ the reply type."
  Derives q (request_response r o x c d) Γ Δ =
      T (permits q input true o) × (Γ1 : Types) × Placed x o.request Γ Γ1 × Derives q d Γ1 Δ × Answers c Δ o.reply
  -- "Notification: expression ≤ request type."
  Derives q (notification r o e) Γ Δ = T (permits q output false o) × Sends Γ e o.request × (Γ ≡ Δ)
  -- "Solicit-response: the same, then places the reply type."
  Derives q (solicit_response r o e x) Γ Δ =
      T (permits q output true o) × Sends Γ e o.request × Placed x o.reply Γ Δ
  -- "If: a bool; both sides give equal Γ."
  Derives q (if_then_else r e a b) Γ Δ = Condition Γ e × Derives q a Γ Δ × Derives q b Γ Δ
  -- "While: a bool; the body gives back Γ."
  Derives q (while_do r e b) Γ Δ = Condition Γ e × Derives q b Γ Γ × (Γ ≡ Δ)
  -- "Sequence: a, then b."
  Derives q (sequence r a b) Γ Δ = (Γ1 : Types) × Derives q a Γ Γ1 × Derives q b Γ1 Δ
  -- "Parallel: no root id (a path's first id) occurs on both sides; left, then right."
  Derives q (parallel r a b) Γ Δ = NoSharedRoot a b × (Γ1 : Types) × Derives q a Γ Γ1 × Derives q b Γ1 Δ
  -- "Assigning e places only e's basic type"
  Derives q (assign r x e) Γ Δ = (n : MessageType) × HasType Γ e n × Assigned x (root_basic n) Γ Δ
  -- "Choice: all branches give equal Γ."
  Derives q (choice r m) Γ Δ = DerivesBranches q m Γ Δ
  -- In a rest: "a waiting one places its reply type"
  Derives q (waiting r o x) Γ Δ = T (permits q output true o) × Placed x o.reply Γ Δ
  -- In a rest: "a received one is its body's rest and reply"
  Derives q (answering r o c d) Γ Δ = T (permits q input true o) × Derives q d Γ Δ × Answers c Δ o.reply

  -- A branch is its input, then what follows, "as in a sequence"; each gives Δ.
  pub DerivesBranches : ℕ → Branches → Types → Types → Type 0
  DerivesBranches q (last_branch r a b) Γ Δ = (Γ1 : Types) × Derives q a Γ Γ1 × Derives q b Γ1 Δ
  DerivesBranches q (branch r a b m) Γ Δ = (Γ1 : Types) × Derives q a Γ Γ1 × Derives q b Γ1 Δ × DerivesBranches q m Γ Δ

-- The ids of an operation's types rise strictly (01, T); so do those of all operations of a behaviour.
abbrev pub RisingOperation : Operation → Type 0
RisingOperation o = RisingTree o.request × RisingTree o.reply

unfoldable mutual
  pub WellSorted : Behaviour → Type 0
  WellSorted (nil r) = Unit {0}
  WellSorted (one_way r o x) = RisingOperation o
  WellSorted (request_response r o x c d) = RisingOperation o × WellSorted d
  WellSorted (notification r o e) = RisingOperation o
  WellSorted (solicit_response r o e x) = RisingOperation o
  WellSorted (if_then_else r e a b) = WellSorted a × WellSorted b
  WellSorted (while_do r e b) = WellSorted b
  WellSorted (sequence r a b) = WellSorted a × WellSorted b
  WellSorted (parallel r a b) = WellSorted a × WellSorted b
  WellSorted (assign r x e) = Unit {0}
  WellSorted (choice r m) = WellSortedBranches m
  WellSorted (waiting r o x) = RisingOperation o
  WellSorted (answering r o c d) = RisingOperation o × WellSorted d

  pub WellSortedBranches : Branches → Type 0
  WellSortedBranches (last_branch r a b) = WellSorted a × WellSorted b
  WellSortedBranches (branch r a b m) = WellSorted a × WellSorted b × WellSortedBranches m
