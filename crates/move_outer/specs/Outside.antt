-- A message from outside at its input. 01, Moves: "outer message (service, operation id, target session, u32 reply number, ignored if one-way,
-- bytes), sent likewise".
use Rattle.std.specs.Prelude.{◌≡◌, List, ℕ, ◌<◌}
use Rattle.basics.specs.Choice.{pick}
use Rattle.refusal.specs.declared.Outcome.{Outcome}
use Rattle.network_syntax.specs.Syntax.{none, some, Network, Operation}
use Rattle.network.specs.Form.{WellFormed}
use Rattle.network.specs.Layout.{operation_count}
use Rattle.network.specs.Decode.{operation_of, network_of}
use Rattle.tree.specs.Decode.{decode_message}
use Rattle.state.specs.Session.{outsider, State}
use Rattle.move_rules.specs.Moves.{Result, on_message, admit}
use Rattle.move_rules.specs.Step.{Step, finish}
use Rattle.move_frame.specs.Made.{StateOf}

-- What move_rules' `outer_message_move` does once the input i is found.
abbrev pub arriving : Network → State → ℕ → ℕ → List ℕ → Operation → Result
arriving N G n number bytes i = admit N G i n (on_message (decode_message bytes)) G (pick i.two_way (some (outsider number)) none)

pub record Arrives (file : List ℕ) (i n number : ℕ) (bytes s s' : List ℕ) (o : Outcome) : Type 0 where
  pub tells : WellFormed file → i < operation_count file → (G : State) → StateOf file s G → (out : List ℕ)
      → ◌≡◌ {A = Step} (record { outcome = o; state = s'; out = out }) (finish s out (arriving (network_of file) G n number bytes (operation_of file i)))
