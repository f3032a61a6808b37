-- The operation that an answer of this crate stands for.
use Rattle.std.specs.Prelude.{List, ℕ}
use Rattle.network_syntax.specs.Syntax.{Optional, none, some, Operation}
use Rattle.network.specs.Decode.{operation_of}
use Rattle.std.specs.Prelude.{Option, Some, None}

-- The input met is the operation of the O row that is given.
unfoldable pub operation_met : List ℕ → Option ℕ → Optional Operation
operation_met file (Some i) = some (operation_of file i)
operation_met file None = none
