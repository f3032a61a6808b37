-- The rules once more, with tests for relations and without the limits: the form that laws are proved about. DerivesLaws
-- ties it to the published rules: an environment only grows, so the limits hold throughout exactly where they hold of the last.
use Rattle.std.specs.Prelude.{◌≡◌, true, false, ℕ, T, eqb}
use Rattle.tree_forest.specs.Path.{Path}
use Rattle.scalar.specs.Basic.{bool}
use Rattle.network_syntax.specs.Syntax.{Types, MessageType, Expression, input, output, Operation, Behaviour, nil, one_way, request_response}
use Rattle.network_syntax.specs.Syntax.{notification, solicit_response, if_then_else, while_do, sequence, parallel, assign, choice}
use Rattle.network_syntax.specs.Syntax.{waiting, answering, Branches, last_branch, branch}
use Rattle.check_subtyping.specs.Subtype.{root_basic, is_subtype}
use Rattle.check_typing.specs.Result.{yields}
use Rattle.check_typing.specs.Environment.{read_firm, place, assign_to}
use Rattle.check_typing.specs.ExpressionTyping.{expression_type}
use Rattle.check_typing.specs.Occurs.{NoSharedRoot}
use Rattle.check_typing.specs.Rules.{permits}

abbrev pub TypedReply : Path → Types → MessageType → Type 0
TypedReply c Γ t = (n : MessageType) × (read_firm c Γ ≡ yields n) × T (is_subtype n t)

abbrev pub TypedSend : Types → Expression → MessageType → Type 0
TypedSend Γ e t = (n : MessageType) × (expression_type Γ e ≡ yields n) × T (is_subtype n t)

abbrev pub TypedCondition : Types → Expression → Type 0
TypedCondition Γ e = (n : MessageType) × (expression_type Γ e ≡ yields n) × T (eqb (root_basic n) bool)

unfoldable mutual
  pub Typed : ℕ → Behaviour → Types → Types → Type 0
  Typed q (nil r) Γ Δ = Γ ≡ Δ
  Typed q (one_way r o x) Γ Δ = T (permits q input false o) × (place x o.request Γ ≡ yields Δ)
  Typed q (request_response r o x c d) Γ Δ =
      T (permits q input true o) × (Γ1 : Types) × (place x o.request Γ ≡ yields Γ1) × Typed q d Γ1 Δ × TypedReply c Δ o.reply
  Typed q (notification r o e) Γ Δ = T (permits q output false o) × TypedSend Γ e o.request × (Γ ≡ Δ)
  Typed q (solicit_response r o e x) Γ Δ =
      T (permits q output true o) × TypedSend Γ e o.request × (place x o.reply Γ ≡ yields Δ)
  Typed q (if_then_else r e a b) Γ Δ = TypedCondition Γ e × Typed q a Γ Δ × Typed q b Γ Δ
  Typed q (while_do r e b) Γ Δ = TypedCondition Γ e × Typed q b Γ Γ × (Γ ≡ Δ)
  Typed q (sequence r a b) Γ Δ = (Γ1 : Types) × Typed q a Γ Γ1 × Typed q b Γ1 Δ
  Typed q (parallel r a b) Γ Δ = NoSharedRoot a b × (Γ1 : Types) × Typed q a Γ Γ1 × Typed q b Γ1 Δ
  Typed q (assign r x e) Γ Δ = (n : MessageType) × (expression_type Γ e ≡ yields n) × (assign_to x (root_basic n) Γ ≡ yields Δ)
  Typed q (choice r m) Γ Δ = TypedBranches q m Γ Δ
  Typed q (waiting r o x) Γ Δ = T (permits q output true o) × (place x o.reply Γ ≡ yields Δ)
  Typed q (answering r o c d) Γ Δ = T (permits q input true o) × Typed q d Γ Δ × TypedReply c Δ o.reply

  pub TypedBranches : ℕ → Branches → Types → Types → Type 0
  TypedBranches q (last_branch r a b) Γ Δ = (Γ1 : Types) × Typed q a Γ Γ1 × Typed q b Γ1 Δ
  TypedBranches q (branch r a b m) Γ Δ = (Γ1 : Types) × Typed q a Γ Γ1 × Typed q b Γ1 Δ × TypedBranches q m Γ Δ
