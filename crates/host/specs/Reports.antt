-- What C is given of an outcome, of a text's rows, of a message that breaks it, and of a move on a file, a state, an out buffer and outside bytes. 01: "A move's result is a number and the
-- bytes written out." Of a move besides: property 3 at this call.
use Rattle.std.specs.Prelude.{◌≡◌, List, ℕ}
use Rattle.refusal.specs.declared.Outcome.{Outcome}
use Rattle.refusal.specs.Refusal.{outcome_number, outcome_place}
use Rattle.move_rules.specs.Moves.{Move}
use Rattle.move_rules.specs.Step.{Step, step}
use Rattle.soundness.specs.Calls.{SoundCall}
use Rattle.type_writing.specs.Answer.{TextAnswer}
use Rattle.counterexample.specs.Answer.{BreakingAnswer}

-- Number and place.
abbrev pub Says : Outcome → ℕ → ℕ → Type 0
Says o n at = (n ≡ outcome_number o) × (at ≡ outcome_place o)

-- The same of a move, with the count of the bytes written out and what it leaves in the state and the out buffer.
abbrev pub Leaves : Step → ℕ → ℕ → ℕ → List ℕ → List ℕ → Type 0
Leaves S n bytes at state out =
    Says S.outcome n at × (bytes ≡ S.outcome.bytes) × (state ≡ S.state) × (out ≡ S.out)

-- A move by the definition, and that it keeps what property 3 promises.
abbrev pub RunsCall : List ℕ → List ℕ → List ℕ → Move → List ℕ → ℕ → ℕ → ℕ → List ℕ → List ℕ → Type 0
RunsCall file s out m outside n bytes at s' out' =
    Leaves (step file s out m outside) n bytes at s' out'
    × SoundCall file s (record { move = m; bytes = outside; out = out }) n s'

-- The same of an answer without a state: number, place, the count of the bytes written out and what the out buffer holds.
abbrev pub WritesOut : Outcome → List ℕ → ℕ → ℕ → ℕ → List ℕ → Type 0
WritesOut o left n bytes at out = Says o n at × (bytes ≡ o.bytes) × (out ≡ left)

-- Of a text of type declarations.
abbrev pub TellsText : TextAnswer → ℕ → ℕ → ℕ → List ℕ → Type 0
TellsText A n bytes at out = WritesOut A.outcome A.out n bytes at out

-- Of the message that two types are shown by.
abbrev pub TellsBreaking : BreakingAnswer → ℕ → ℕ → ℕ → List ℕ → Type 0
TellsBreaking A n bytes at out = WritesOut A.outcome A.out n bytes at out
