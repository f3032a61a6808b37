-- What the code of a move promises: for a file that none of 2 to 5 refuses and bytes that stand for the state G, its outcome and the final
-- bytes of the lent buffers are those of the move's definition (`finish` of move_rules/Step). 01: "A move's result is a number and the bytes
-- written out. Out bytes past that count stay." On other files and bytes a move ends and this says nothing; `step` refuses them first.
use Rattle.std.specs.Prelude.{◌≡◌, List, ℕ, ◌+◌, ◌<◌, ◌≤◌, length}
use Rattle.refusal.specs.declared.Outcome.{Outcome}
use Rattle.network_syntax.specs.Syntax.{Network, Behaviour, some}
use Rattle.network.specs.Form.{WellFormed}
use Rattle.network.specs.Layout.{behaviour_count}
use Rattle.network.specs.Decode.{behaviour_of, network_of}
use Rattle.state.specs.Places.{slot_size, slot_start, state_size, out_room}
use Rattle.state.specs.Session.{Session, live, State}
use Rattle.state.specs.Bytes.{read_session}
use Rattle.state.specs.Shape.{behaviour_in, Stands}
use Rattle.move_rules.specs.Moves.{Result, not_allowed, in_session}
use Rattle.move_rules.specs.Step.{Step, finish}
use Rattle.state_slots.specs.Living.{Living}
use Rattle.std.specs.Prelude.{Option, Some, None}

-- The bytes s stand for the state G of the file's shape.
abbrev pub StateOf : List ℕ → List ℕ → State → Type 0
StateOf file s G = Stands (network_of file) (behaviour_count file) s G

-- A move f that writes nothing out.
pub record Made (file : List ℕ) (f : Network → State → Result) (s s' : List ℕ) (o : Outcome) : Type 0 where
  pub tells : WellFormed file → (G : State) → StateOf file s G → (out : List ℕ)
      → ◌≡◌ {A = Step} (record { outcome = o; state = s'; out = out }) (finish s out (f (network_of file) G))

-- A move f that may write out.
pub record MadeOut (file : List ℕ) (f : Network → State → Result) (s s' out out' : List ℕ) (o : Outcome) : Type 0 where
  pub tells : WellFormed file → (G : State) → StateOf file s G → out_room ≤ length out
      → ◌≡◌ {A = Step} (record { outcome = o; state = s'; out = out' }) (finish s out (f (network_of file) G))

-- Session n of service q is live, holds S and runs the behaviour of B row b; its slot starts at `at`.
pub record InSession (file s : List ℕ) (G : State) (q n at b : ℕ) : Type 0 where
  pub session : Session
  pub service : q < 4
  pub number : n < 4
  pub place : at ≡ slot_start q n
  pub is_live : G q n ≡ live session
  pub runs : behaviour_in (network_of file) q n ≡ some (behaviour_of file b)
  pub row : b < behaviour_count file
  pub living : Living s at session
  pub reads : read_session s at ≡ session

-- What is known of a session: its slot and what it runs; or that a move in it is not allowed.
abbrev pub Runs : List ℕ → List ℕ → State → ℕ → ℕ → Option (ℕ × ℕ) → Type 0
Runs file s G q n None = (f : Behaviour → Session → Result) → in_session (network_of file) G q n f ≡ not_allowed
Runs file s G q n (Some (at, b)) = InSession file s G q n at b

pub record RunsAt (file s : List ℕ) (q n : ℕ) (x : Option (ℕ × ℕ)) : Type 0 where
  pub tells : WellFormed file → (G : State) → StateOf file s G → Runs file s G q n x
  pub inside : (at b : ℕ) → x ≡ Some (at, b) → at + slot_size ≤ state_size
