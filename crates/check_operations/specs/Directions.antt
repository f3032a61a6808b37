-- The direction of an operation, as a test has it. 01, O: "direction u8 (0 in, 1 out)".
use Rattle.std.specs.Prelude.{Bool, true, false}
use Rattle.network_syntax.specs.Syntax.{Direction, input, output}

-- Of an input, or not.
abbrev pub direction_of : Bool → Direction
direction_of true = input
direction_of false = output
