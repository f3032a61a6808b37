-- What the code's enums stand for: 01, Moves, "where replies go".
use Rattle.network_syntax.specs.Syntax.{Optional, none, some}
use Rattle.state.specs.Session.{Destination, outsider, waiting_row}
use Rattle.state_destinations.specs.declared.Destination as coded
use Rattle.state_destinations.specs.declared.Destination.TheVariants.{Outsider, WaitingRow}
use Rattle.std.specs.Prelude.{Option, Some, None}

abbrev pub destination_of : coded.Destination → Destination
destination_of (Outsider k) = outsider k
destination_of (WaitingRow q n r) = waiting_row q n r

-- 01: "where replies go"; a one-way's message has no destination.
abbrev pub reply_of : Option coded.Destination → Optional Destination
reply_of None = none
reply_of (Some d) = some (destination_of d)
