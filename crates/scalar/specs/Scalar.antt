-- The scalars of the code and the values that they stand for. 01, "Each place and its form": "The evaluator's scalar enum carries a
-- bool, int, long or an f64; string bytes stay beside it."
use Rattle.std.specs.Prelude.{List, [], ℕ, take, eqb}
use Rattle.scalar.specs.Basic.{bool, int, double, long, string, raw, void}
use Rattle.scalar.specs.Value.{Value, value}
use Rattle.wire.specs.Wire.{unsigned_of}
use Rattle.basics.specs.Choice.{pick}
use Rattle.scalar.specs.Operator.{Answer, wrong, outside, gives, of_bool, of_int, of_long, of_double}
use Rattle.scalar.specs.declared.Scalar.{Scalar}
use Rattle.scalar.specs.declared.Scalar.TheVariants.{Bool, Int, Double, Long, String, Raw, Void}
use Rattle.scalar.specs.declared.Operand.{Operand}
use Rattle.scalar.specs.declared.Failure.{Failure}
use Rattle.scalar.specs.declared.Failure.TheVariants.{Wrong, Outside}
use Rattle.std.specs.Prelude.{ℤ, Option, Some, None, Result, Ok, Err}
use Rattle.std.specs.Prelude as Std

-- The value of a scalar with the bytes beside it, which only a string and a raw use.
abbrev pub value_beside : Scalar → List ℕ → Value
value_beside (Bool b) t = of_bool b
value_beside (Int z) t = of_int z
value_beside (Double x) t = of_double x
value_beside (Long z) t = of_long z
value_beside String t = value string t
value_beside Raw t = value raw t
value_beside Void t = value void []

-- The bytes beside a scalar: as many of them as the operand says.
abbrev pub beside : Operand → List ℕ
beside o = take o.len o.bytes

-- The value of an operand.
unfoldable pub value_of : Operand → Value
value_of o = value_beside o.scalar (beside o)

-- The number of a scalar's basic type.
abbrev pub kind_of : Scalar → ℕ
kind_of (Bool b) = bool
kind_of (Int z) = int
kind_of (Double x) = double
kind_of (Long z) = long
kind_of String = string
kind_of Raw = raw
kind_of Void = void

-- What an operator's code gives. A result is never a string, a raw or void, so no bytes stand beside it; of one that is outside, the scalar's
-- kind alone counts.
unfoldable pub answer_of : Result Scalar Failure → Answer
answer_of (Ok s) = gives (value_beside s [])
answer_of (Err Wrong) = wrong
answer_of (Err (Outside s)) = outside (kind_of s)

-- What a sum of ints, and of longs, is as an answer.
abbrev pub int_answer : Option ℤ → Answer
int_answer (Some z) = gives (of_int z)
int_answer None = outside int

abbrev pub long_answer : Option ℤ → Answer
long_answer (Some z) = gives (of_long z)
long_answer None = outside long

-- What a value says as a condition: "bool one byte 0 or 1"; another value is none.
unfoldable pub truth_of : Value → Option Std.Bool
truth_of (value b v) = pick (eqb b bool) (Some (eqb (unsigned_of v) 1)) None
