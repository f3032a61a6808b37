-- What a list of moves gives, one number for each, on states and on bytes.
use Rattle.std.specs.Prelude.{List, [], ◌∷◌, ℕ, T, leb, length}
use Rattle.network_syntax.specs.Syntax.{Network}
use Rattle.refusal.specs.Refusal.{number_of}
use Rattle.state.specs.Places.{out_room}
use Rattle.state.specs.Session.{State}
use Rattle.move_rules.specs.Moves.{Result, refused, moved, move}
use Rattle.move_rules.specs.Step.{step}
use Rattle.soundness.specs.Property3.{Turn, number_of_next}

-- What a move gives: its number, and the state after it.
abbrev pub given : Result → ℕ
given (refused why) = number_of why
given (moved G out) = 0

abbrev pub state_after : State → Result → State
state_after G (refused why) = G
state_after G (moved G2 out) = G2

-- The numbers that a list of moves gives, and the state after it.
unfoldable pub numbers : Network → State → List Turn → List ℕ
numbers N G [] = []
numbers N G (t ∷ l) = given (move N G t.move t.bytes) ∷ numbers N (state_after G (move N G t.move t.bytes)) l

unfoldable pub reached_by : Network → State → List Turn → State
reached_by N G [] = G
reached_by N G (t ∷ l) = reached_by N (state_after G (move N G t.move t.bytes)) l

-- The same on bytes: the numbers that a list of moves gives on the file, from the state's bytes s.
unfoldable pub numbers_on_bytes : List ℕ → List ℕ → List Turn → List ℕ
numbers_on_bytes file s [] = []
numbers_on_bytes file s (t ∷ l) = number_of_next file s t ∷ numbers_on_bytes file (step file s t.out t.move t.bytes).state l

-- Every out buffer has its room.
unfoldable pub AllRoomy : List Turn → Type 0
AllRoomy [] = Unit {0}
AllRoomy (t ∷ l) = T (leb out_room (length t.out)) × AllRoomy l
