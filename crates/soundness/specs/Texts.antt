-- Well-formed strings in trees, queues and bytes that go out. 02: "State trees and queues hold only well-formed strings from a fresh state on".
use Rattle.std.specs.Prelude.{◌≡◌, true, List, [], ◌∷◌, ◌++◌, ℕ}
use Rattle.tree_forest.specs.Forest.{Forest, end, node, Tree, tree}
use Rattle.utf8.specs.Utf8.{is_utf8}
use Rattle.wire.specs.Wire.{u32_bytes}
use Rattle.scalar.specs.Basic.{string}
use Rattle.scalar.specs.Value.{Value, basic_of, bytes_of}
use Rattle.tree.specs.Encode.{Message}
use Rattle.state.specs.Session.{Queued}

-- A string is well-formed UTF-8; of a value of another basic type nothing is asked.
abbrev pub IsText : Value → Type 0
IsText v = basic_of v ≡ string → is_utf8 (bytes_of v) ≡ true

-- So is every string of a session's tree, of a message, of a queue.
unfoldable pub AllText : Forest Value → Type 0
AllText end = Unit {0}
AllText (node i v ks rest) = IsText v × AllText ks × AllText rest

abbrev pub TextTree : Tree Value → Type 0
TextTree (tree v ks) = IsText v × AllText ks

unfoldable pub TextQueue : List Queued → Type 0
TextQueue [] = Unit {0}
TextQueue (m ∷ l) = TextTree m.message × TextQueue l

-- Bytes that go out: none; a message; or, 01, "for an outsider, the u32 reply number and then the message". Every string of the message is
-- well-formed UTF-8.
pub data TextOut : List ℕ → Type 0 where
  nothing_out : TextOut []
  message_out : {s : List ℕ} (m : Tree Value) → Message s m → TextTree m → TextOut s
  reply_out : {s : List ℕ} (number : ℕ) (m : Tree Value) → Message s m → TextTree m → TextOut (u32_bytes number ++ s)
