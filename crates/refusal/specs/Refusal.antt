-- The number and the place that 01, "Refusals in order", gives for each kind of refusal, and for the outcome that holds one.
-- 01: "Each carries a place, 0 for 1 to 3 and from 14; number 0 is done." A later kind of refusal is one more case here.
use Rattle.std.specs.Prelude.{ℕ}
use Rattle.refusal.specs.declared.Refusal.{Refusal}
use Rattle.refusal.specs.declared.Refusal.TheVariants.{BufferSize, FileLayout, SectionCount, BrokenField, TooLarge}
use Rattle.refusal.specs.declared.Refusal.TheVariants.{WrongOperation, PathNotFirm, OperandType, TypeMisfit}
use Rattle.refusal.specs.declared.Refusal.TheVariants.{EnvironmentsDiffer, SharedRoot, EnvironmentTooLarge, OutputMismatch}
use Rattle.refusal.specs.declared.Refusal.TheVariants.{NoState, MoveNotAllowed, QueueFull, NoMessage, Stuck, MessageMisfit}
use Rattle.refusal.specs.declared.Refusal.TheVariants.{UnknownByte, BrokenText, OutOfRange, UnfitKey}
use Rattle.refusal.specs.declared.Outcome.{Outcome}
use Rattle.std.specs.Prelude.{Result, Ok, Err}

-- The number of a refusal.
abbrev pub number_of : Refusal → ℕ
number_of BufferSize = 1  -- "The state buffer is not 65,536 bytes or the out buffer is below 512."
number_of FileLayout = 2  -- "The length is not 28 to 32,768 or the trailer's pairs don't fit."
number_of SectionCount = 3  -- "A section's count is past its limit, or S is empty."
number_of (BrokenField at) = 4  -- "A field or link breaks its row's rule, lowest place first"
number_of (TooLarge at) = 5  -- "A type or expression is too large"
number_of (WrongOperation row) = 6  -- "The operation has another service, direction or kind"
number_of (PathNotFirm row) = 7  -- "A path is missing or doesn't stand firm where needed."
number_of (OperandType row) = 8  -- "An operand or condition has a wrong basic type."
number_of (TypeMisfit row) = 9  -- "A subtype or assigned basic type doesn't fit."
number_of (EnvironmentsDiffer row) = 10  -- "Environments that must agree differ."
number_of (SharedRoot row) = 11  -- "Parallel sides share a root; tried before either side."
number_of (EnvironmentTooLarge row) = 12  -- "Γ passes 48 nodes or 6 levels."
number_of (OutputMismatch row) = 13  -- "An output and its input disagree"
number_of NoState = 14  -- "The state bytes stand for no state of this file's shape."
number_of MoveNotAllowed = 15  -- "The move is not allowed by the list above, or .. has an operation that 6 refuses."
number_of QueueFull = 16  -- "The target's queue holds four."
number_of NoMessage = 17  -- "Outside bytes are no message."
number_of Stuck = 18  -- "A value read is missing, an operand or condition is of the wrong kind, or .."
number_of MessageMisfit = 19  -- "A message doesn't fit its input's request type, a reply its waiting row's .."
number_of (UnknownByte p) = 20  -- 02: "A byte that the grammar uses nowhere"
number_of (BrokenText p) = 21  -- 02: "a broken declaration, duplicate or unknown name"
number_of OutOfRange = 22  -- 02: "where the exact result is outside its width, the move is refused"
number_of (UnfitKey row) = 23  -- 02: "A keyed service with an unfit input"

-- The place of a refusal.
abbrev pub place_of : Refusal → ℕ
place_of BufferSize = 0  -- "0 for 1 to 3"
place_of FileLayout = 0
place_of SectionCount = 0
place_of (BrokenField at) = at  -- "(place: the field's first byte; ..)"
place_of (TooLarge at) = at  -- "(place: its row's first byte, lowest first)"
place_of (WrongOperation row) = row  -- "(places 6 to 12: number of the B row at fault)"
place_of (PathNotFirm row) = row
place_of (OperandType row) = row
place_of (TypeMisfit row) = row
place_of (EnvironmentsDiffer row) = row
place_of (SharedRoot row) = row
place_of (EnvironmentTooLarge row) = row
place_of (OutputMismatch row) = row  -- "(place: the output's O row)"
place_of NoState = 0  -- "and from 14"
place_of MoveNotAllowed = 0
place_of QueueFull = 0
place_of NoMessage = 0
place_of Stuck = 0
place_of MessageMisfit = 0
place_of (UnknownByte p) = p  -- 02: "both at the text's first offending byte"
place_of (BrokenText p) = p
place_of OutOfRange = 0  -- "and from 14"
place_of (UnfitKey row) = row  -- 02: "place the number of the lowest such input's O row"

-- 01: "number 0 is done".
abbrev pub number_in : Result (Unit {0}) Refusal → ℕ
number_in (Ok tt) = 0
number_in (Err why) = number_of why

abbrev pub place_in : Result (Unit {0}) Refusal → ℕ
place_in (Ok tt) = 0
place_in (Err why) = place_of why

-- 01: "A move's result is a number and the bytes written out."
abbrev pub outcome_number : Outcome → ℕ
outcome_number o = number_in o.verdict

abbrev pub outcome_place : Outcome → ℕ
outcome_place o = place_in o.verdict

-- Done, with so many bytes written out.
abbrev pub done_with : ℕ → Outcome
done_with n = record { bytes = n; verdict = (Ok tt) }

-- Refused: nothing is written out.
abbrev pub refused_by : Refusal → Outcome
refused_by why = record { bytes = 0; verdict = Err why }
