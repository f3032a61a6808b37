-- The input that an outsider names is an operation of the file.
use Rattle.std.specs.Prelude.{ℕ, ◌<◌, ◌≡◌, List}
use Rattle.std.proofs.Common.{sym}
use Rattle.network_syntax.specs.Syntax.{some}
use Rattle.network.specs.Layout.{operation_count}
use Rattle.network.specs.Decode.{operation_of, network_of}
use Rattle.check_operations.specs.MeetingLaws.{first-exists}
use Rattle.move_rules.specs.Moves.{is_input_named, input_named}

pub named-exists : (file : List ℕ) (q id i : ℕ) → some (operation_of file i) ≡ input_named (network_of file) q id → i < operation_count file
named-exists file q id i e = first-exists file (is_input_named q id) i (sym e)
