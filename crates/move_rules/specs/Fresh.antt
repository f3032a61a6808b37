-- Fresh, on bytes: a file and a state buffer give an outcome and the buffer's bytes. 01, Moves: "Fresh state: written for accepted files;
-- clients live in session 0, all else free." Refusals: "fresh [tries] 1 to 13", 1 for its state buffer alone.
use Rattle.std.specs.Prelude.{List, ℕ, eqb, length}
use Rattle.basics.specs.Choice.{pick}
use Rattle.refusal.specs.declared.Refusal.{Refusal}
use Rattle.refusal.specs.declared.Refusal.TheVariants.{BufferSize}
use Rattle.refusal.specs.declared.Outcome.{Outcome}
use Rattle.refusal.specs.Refusal.{done_with, refused_by}
use Rattle.network.specs.Decode.{network_of}
use Rattle.check_typing.specs.Result.{Checked, refused, passed}
use Rattle.check_typing.specs.NetworkRules.{Environments}
use Rattle.check_files.specs.FileChecker.{check_file}
use Rattle.state.specs.Places.{state_size}
use Rattle.state.specs.Bytes.{state_bytes}
use Rattle.state.specs.Shape.{fresh_state}

-- What fresh leaves: its outcome and the state buffer.
pub record Freshened : Type 0 where
  pub outcome : Outcome
  pub state : List ℕ

-- The bytes of a file's fresh state.
abbrev pub fresh_bytes : List ℕ → List ℕ
fresh_bytes file = state_bytes (fresh_state (network_of file))

-- A refusal leaves the buffer as it was.
abbrev pub fresh_refused : Refusal → List ℕ → Freshened
fresh_refused why state = record { outcome = refused_by why; state = state }

-- Nothing is written out.
abbrev pub after_check : List ℕ → List ℕ → Checked (List Environments) → Freshened
after_check file state (refused why) = fresh_refused why state
after_check file state (passed Es) = record { outcome = done_with 0; state = fresh_bytes file }

-- 1: "The state buffer is not 65,536 bytes"; then 2 to 13 and 23.
unfoldable pub fresh : List ℕ → List ℕ → Freshened
fresh file state =
    pick (eqb (length state) state_size)
    (after_check file state (check_file file))  -- 2 to 13, 23
    (fresh_refused BufferSize state)  -- 1
