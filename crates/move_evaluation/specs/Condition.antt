-- How a move goes on with what evaluation answers. 01, Typing: "If: a bool", "While: a bool"; 18: "A value read is missing, an operand or
-- condition is of the wrong kind"; 22. ConditionLaws proves that `if_given` and `on_condition` go on as move_rules' `on_evaluation` and
-- `on_truth` do.
use Rattle.std.specs.Prelude.{Bool}
use Rattle.refusal.specs.declared.Refusal.{Refusal}
use Rattle.refusal.specs.declared.Refusal.TheVariants.{Stuck, OutOfRange}
use Rattle.scalar.specs.Scalar.{value_of, truth_of}
use Rattle.move_rules.specs.Moves.{Result, refused, out_of_range}
use Rattle.move_evaluation.specs.declared.Evaluated.{Evaluated}
use Rattle.move_evaluation.specs.declared.Place.{Place}
use Rattle.move_evaluation.specs.declared.Fault.{Fault}
use Rattle.std.specs.Prelude.{Option, Some, None, Ok, Err}
use Rattle.std.specs.Prelude as std

-- 18: "A value read is missing, an operand or condition is of the wrong kind"; 22.
abbrev pub refusal_of : Fault → Refusal
refusal_of Fault.Missing = Stuck
refusal_of Fault.Wrong = Stuck
refusal_of Fault.Outside = OutOfRange

-- What a move goes on with where a value is given; where it is outside its width, o; or 18.
abbrev pub if_given : std.Result Place Fault → Result → Result → Result
if_given (Ok p) o r = r
if_given (Err Fault.Missing) o r = refused Stuck
if_given (Err Fault.Wrong) o r = refused Stuck
if_given (Err Fault.Outside) o r = o

-- What the truth of a value decides.
abbrev pub decision_by : Option Bool → std.Result Bool Fault
decision_by (Some t) = Ok t
decision_by None = Err Fault.Wrong

-- The same of a value outside its width: 18 where it is no bool.
abbrev pub without_truth : Option Bool → std.Result Bool Fault
without_truth (Some t) = Err Fault.Outside
without_truth None = Err Fault.Wrong

-- What a value that is given says; where none is given, the answer stays.
abbrev pub decision_of : std.Result Place Fault → Option Bool → std.Result Bool Fault
decision_of (Ok p) t = decision_by t
decision_of (Err Fault.Missing) t = Err Fault.Missing
decision_of (Err Fault.Wrong) t = Err Fault.Wrong
decision_of (Err Fault.Outside) t = without_truth t

unfoldable pub condition_of : Evaluated → std.Result Bool Fault
condition_of x = decision_of x.source (truth_of (value_of x.root))

-- The same of a condition.
abbrev pub on_condition : std.Result Bool Fault → (Bool → Result) → Result
on_condition (Ok t) f = f t
on_condition (Err Fault.Missing) f = refused Stuck
on_condition (Err Fault.Wrong) f = refused Stuck
on_condition (Err Fault.Outside) f = out_of_range
