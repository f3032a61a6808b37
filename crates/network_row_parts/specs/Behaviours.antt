-- B rows as behaviours, by the row that a reader gives. 01, B. In a file that none of 2 to 5 refuses these are network's behaviours.
use Rattle.std.specs.Prelude.{ℕ, ◌+◌, ◌<◌, ◌≤◌, List}
use Rattle.network_syntax.specs.Syntax.{Behaviour}
use Rattle.network.specs.Layout.{path_count, expression_count, behaviour_count, operation_count, behaviour_at}
use Rattle.network.specs.Rows.{field_a, field_b}
use Rattle.network.specs.Decode.{behaviour_of}
use Rattle.network_rows.specs.declared.BehaviourRow.{BehaviourRow}
use Rattle.network_rows.specs.declared.InputRow.{InputRow}
use Rattle.network_rows.specs.declared.OutputRow.{OutputRow}
use Rattle.network_rows.specs.RowSyntax.{behaviour_with}

-- The behaviour of row r.
abbrev pub behaviour_by : List ℕ → ℕ → BehaviourRow → Behaviour
behaviour_by s r y = behaviour_with s (behaviour_of s) r y

-- Row k, with so many rows left, is a row of the file.
pub record Sub (s : List ℕ) (left k : ℕ) : Type 0 where
  pub exists : k < behaviour_count s
  pub enough : behaviour_count s ≤ k + left

-- The two parts of the branch at row j.
pub record BranchSubs (s : List ℕ) (left j : ℕ) : Type 0 where
  pub input : Sub s left (field_a s (behaviour_at s j))
  pub follow : Sub s left (field_b s (behaviour_at s j))

-- What the row's fields keep to, with so many rows left for its sub-behaviours: "A sub-behaviour is a later row."
abbrev pub KeptBy : List ℕ → ℕ → BehaviourRow → Type 0
KeptBy s left BehaviourRow.Nil = Unit {0}
KeptBy s left (BehaviourRow.OneWay o p) = (o < operation_count s) × (p < path_count s)
KeptBy s left (BehaviourRow.RequestResponse o p c d) = (o < operation_count s) × (p < path_count s) × (c < path_count s) × Sub s left d
KeptBy s left (BehaviourRow.Notification o x) = (o < operation_count s) × (x < expression_count s)
KeptBy s left (BehaviourRow.SolicitResponse o x p) = (o < operation_count s) × (x < expression_count s) × (p < path_count s)
KeptBy s left (BehaviourRow.If x a b) = (x < expression_count s) × Sub s left a × Sub s left b
KeptBy s left (BehaviourRow.While x b) = (x < expression_count s) × Sub s left b
KeptBy s left (BehaviourRow.Sequence a b) = Sub s left a × Sub s left b
KeptBy s left (BehaviourRow.Parallel a b) = Sub s left a × Sub s left b
KeptBy s left (BehaviourRow.Assign p x) = (p < path_count s) × (x < expression_count s)
KeptBy s left (BehaviourRow.Choice first n) = (1 ≤ n) × ((j : ℕ) → first ≤ j → j < first + n → BranchSubs s left j) × (n ≤ 8)
KeptBy s left (BehaviourRow.Branch a b) = Unit {0}
KeptBy s left BehaviourRow.Unknown = Unit {0}

-- The same of an input's row, and of an output's.
abbrev pub InputKeptBy : List ℕ → ℕ → InputRow → Type 0
InputKeptBy s left InputRow.Nothing = Unit {0}
InputKeptBy s left (InputRow.OneWay o p) = (o < operation_count s) × (p < path_count s)
InputKeptBy s left (InputRow.RequestResponse o p c d) = (o < operation_count s) × (p < path_count s) × (c < path_count s) × Sub s left d

abbrev pub OutputKeptBy : List ℕ → OutputRow → Type 0
OutputKeptBy s OutputRow.Nothing = Unit {0}
OutputKeptBy s (OutputRow.Notification o x) = (o < operation_count s) × (x < expression_count s)
OutputKeptBy s (OutputRow.SolicitResponse o x p) = (o < operation_count s) × (x < expression_count s) × (p < path_count s)
