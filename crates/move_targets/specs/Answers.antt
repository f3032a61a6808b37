-- What the answers about sessions stand for, and what the functions tell, for any state bytes. Where a statement asks for `WellFormed`, it
-- is for files that none of 2 to 5 refuses; on others the function ends and says nothing.
use Rattle.std.specs.Prelude.{◌≡◌, List, Bool, false, ℕ, ◌+◌, ◌<◌, ◌≤◌, eqb, ltb, length}
use Rattle.basics.specs.Choice.{pick}
use Rattle.network_syntax.specs.Syntax.{Optional, none, some, Behaviour}
use Rattle.network_syntax.specs.Rows.{Input, input_of, choice_of}
use Rattle.network.specs.Form.{WellFormed}
use Rattle.network.specs.Layout.{behaviour_count, behaviour_at}
use Rattle.network.specs.Rows.{field_a, no_row}
use Rattle.network.specs.Decode.{branches_from, behaviour_of, operation_of, network_of}
use Rattle.state.specs.Places.{queue_place}
use Rattle.state.specs.Bytes.{read_queue, read_state}
use Rattle.state.specs.Shape.{behaviour_in}
use Rattle.move_rules.specs.Targets as definition
use Rattle.move_rules.specs.Moves.{permits_input}
use Rattle.move_targets.specs.declared.Target.{Target}
use Rattle.std.specs.Prelude.{Option, Some, None}

-- What a session runs, by its B row.
unfoldable pub behaviour_run : List ℕ → Option ℕ → Optional Behaviour
behaviour_run file (Some r) = some (behaviour_of file r)
behaviour_run file None = none

abbrev pub RowExists : List ℕ → Option ℕ → Type 0
RowExists file (Some r) = r < behaviour_count file
RowExists file None = Unit {0}

-- S: "starter row (a choice), client row, 65535 for none".
abbrev pub runs_row : ℕ → Option ℕ
runs_row v = pick (eqb v no_row) None (Some v)

-- What session n of service q runs: "clients live in session 0", the starter in "a free 1 to 3". `tells` holds for any file.
pub record RunsIn (file : List ℕ) (q n : ℕ) (x : Option ℕ) : Type 0 where
  pub tells : behaviour_run file x ≡ behaviour_in (network_of file) q n
  pub exists : WellFormed file → RowExists file x

-- Started by the branch k of the choice c, with that input.
abbrev pub start_with : ℕ → ℕ → Optional Input → definition.Target
start_with c k none = definition.no_target
start_with c k (some i) = definition.starts c k i

-- How a session starts, by the choice, its branch and the input's B row.
unfoldable pub start_as : List ℕ → Option (ℕ × ℕ × ℕ) → definition.Target
start_as file (Some (c, k, a)) = start_with c k (input_of (behaviour_of file a))
start_as file None = definition.no_target

abbrev pub StartRowsExist : List ℕ → Option (ℕ × ℕ × ℕ) → Type 0
StartRowsExist file (Some (c, k, a)) = (c < behaviour_count file) × (a < behaviour_count file)
StartRowsExist file None = Unit {0}

-- An input that names O row w; one that 6 ("another service, direction or kind") passes in service q.
abbrev pub names_input : ℕ → Optional Input → Bool
names_input w none = false
names_input w (some i) = eqb i.operation.row w

abbrev pub passes_input : ℕ → Optional Input → Bool
passes_input q none = false
passes_input q (some i) = permits_input q i

-- B row a is such an input.
pub record NamesInput (file : List ℕ) (w a : ℕ) (x : Bool) : Type 0 where
  pub tells : a < behaviour_count file → x ≡ names_input w (input_of (behaviour_of file a))

pub record PermitsInput (file : List ℕ) (q a : ℕ) (x : Bool) : Type 0 where
  pub tells : a < behaviour_count file → x ≡ passes_input q (input_of (behaviour_of file a))

-- The inputs of the n branches from row j on, which stands at `at`, are rows of the file.
pub record Run (file : List ℕ) (at n j : ℕ) : Type 0 where
  pub there : at ≡ behaviour_at file j
  pub inputs : (m : ℕ) → j ≤ m → m < j + n → field_a file (behaviour_at file m) < behaviour_count file

-- The first of those branches, numbered from k on, whose input names O row w.
pub record StartsAmong (file : List ℕ) (w c at k n : ℕ) (x : Option (ℕ × ℕ × ℕ)) : Type 0 where
  pub tells : (j : ℕ) → Run file at n j → start_as file x ≡ definition.start_from w c k (branches_from file (behaviour_of file) j n)
  pub exists : (j : ℕ) → Run file at n j → c < behaviour_count file → StartRowsExist file x

-- The "first starter branch of that operation", of the starter of B row r.
pub record StartsFrom (file : List ℕ) (w r : ℕ) (x : Option (ℕ × ℕ × ℕ)) : Type 0 where
  pub tells : WellFormed file → r < behaviour_count file → start_as file x ≡ definition.start_of w (choice_of (behaviour_of file r))
  pub exists : WellFormed file → r < behaviour_count file → StartRowsExist file x

-- How a message gets to a session: "queued at a live one, or starting a free 1 to 3".
unfoldable pub target_as : List ℕ → Target → definition.Target
target_as file Target.NoTarget = definition.no_target
target_as file Target.QueueFull = definition.queue_full
target_as file Target.Queued = definition.queued
target_as file (Target.Starts c k a) = start_with c k (input_of (behaviour_of file a))

abbrev pub StarterExists : List ℕ → Target → Type 0
StarterExists file Target.NoTarget = Unit {0}
StarterExists file Target.QueueFull = Unit {0}
StarterExists file Target.Queued = Unit {0}
StarterExists file (Target.Starts c k a) = (c < behaviour_count file) × (a < behaviour_count file)

-- To a live session, whose slot starts at `at`: "a queue of up to four messages".
abbrev pub live_target : List ℕ → ℕ → Target
live_target state at = pick (ltb (length (read_queue state 4 (at + queue_place))) 4) Target.Queued Target.QueueFull

-- To a free session n, of which 0 is not started, that would run B row r.
pub record FreeTarget (file : List ℕ) (w n r : ℕ) (x : Target) : Type 0 where
  pub tells : WellFormed file → r < behaviour_count file
      → target_as file x ≡ pick (eqb n 0) definition.no_target (definition.start_of w (choice_of (behaviour_of file r)))
  pub exists : WellFormed file → r < behaviour_count file → StarterExists file x

-- To session n of service q, which runs B row r.
pub record SlotTarget (file state : List ℕ) (w q n r : ℕ) (x : Target) : Type 0 where
  pub tells : WellFormed file → r < behaviour_count file → q < 4 → n < 4
      → target_as file x ≡ definition.target_of w n (behaviour_of file r) (read_state state q n)
  pub exists : WellFormed file → r < behaviour_count file → StarterExists file x

-- Of the input of O row i, to session n of its service.
pub record Targets (file state : List ℕ) (i n : ℕ) (x : Target) : Type 0 where
  pub tells : WellFormed file → target_as file x ≡ definition.target (network_of file) (read_state state) (operation_of file i) n
  pub exists : WellFormed file → StarterExists file x
