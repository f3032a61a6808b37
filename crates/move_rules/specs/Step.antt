-- The stepper on bytes: a file, the state's bytes, the out buffer, a move and the bytes from outside give an outcome, the state's
-- bytes and the out buffer. 01, Refusals: "The checker tries 2 to 13, fresh 1 to 13, moves 1 to 5 and 14 to 19"; Moves: "A move's result
-- is a number and the bytes written out. Out bytes past that count stay." A refusal leaves both buffers as they were.
use Rattle.std.specs.Prelude.{Bool, true, false, ◌&&◌, List, [], ◌∷◌, ◌++◌, ℕ, eqb, leb, length, drop}
use Rattle.basics.specs.Choice.{pick}
use Rattle.refusal.specs.declared.Refusal.{Refusal}
use Rattle.refusal.specs.declared.Refusal.TheVariants.{BufferSize, NoState}
use Rattle.refusal.specs.declared.Outcome.{Outcome}
use Rattle.refusal.specs.Refusal.{done_with, refused_by}
use Rattle.network.specs.Form.{form_of}
use Rattle.network.specs.Layout.{behaviour_count}
use Rattle.network.specs.Decode.{network_of}
use Rattle.network_syntax.specs.Syntax.{Optional, none, some, Network}
use Rattle.state.specs.Places.{state_size, out_room}
use Rattle.state.specs.Session.{State}
use Rattle.state.specs.Bytes.{state_bytes}
use Rattle.state.specs.Shape.{decode_state}
use Rattle.move_rules.specs.Moves.{Result, refused, moved, Move, move}
use Rattle.std.specs.Prelude as std
use Rattle.std.specs.Prelude.{Ok, Err}

-- What a move on bytes leaves: its outcome, and both buffers.
pub record Step : Type 0 where
  pub outcome : Outcome
  pub state : List ℕ
  pub out : List ℕ

-- A refusal leaves both buffers as they were.
abbrev pub refuse : Refusal → List ℕ → List ℕ → Step
refuse why state out = record { outcome = refused_by why; state = state; out = out }

-- A move that was made: the new state's bytes, the bytes written at the start of the out buffer, the rest of which stays.
abbrev pub finish : List ℕ → List ℕ → Result → Step
finish state out (refused why) = refuse why state out
finish state out (moved G bytes) =
    record { outcome = done_with (length bytes); state = state_bytes G; out = bytes ++ drop (length bytes) out }

-- Refusals 2 to 5 come first.
abbrev pub on_form : std.Result (Unit {0}) Refusal → List ℕ → List ℕ → Step → Step
on_form (Ok tt) state out r = r
on_form (Err why) state out r = refuse why state out

abbrev pub on_state : Optional State → List ℕ → List ℕ → (State → Step) → Step
on_state none state out f = refuse NoState state out
on_state (some G) state out f = f G

-- 1: "The state buffer is not 65,536 bytes or the out buffer is below 512."
abbrev pub buffers_fit : List ℕ → List ℕ → Bool
buffers_fit state out = eqb (length state) state_size && leb out_room (length out)

unfoldable pub step : List ℕ → List ℕ → List ℕ → Move → List ℕ → Step
step file state out m outside =
    pick (buffers_fit state out)
    (on_form (form_of file) state out  -- 2 to 5
    (on_state (decode_state (network_of file) (behaviour_count file) state) state out  -- 14
    (λ G. finish state out (move (network_of file) G m outside))))  -- 15 to 19, 22
    (refuse BufferSize state out)  -- 1
