-- The queue of a session in the bytes of a state, for a slot that starts at a place: what is read of it, and the bytes once a message is
-- taken out or one more is queued. 01, Moves: "a queue of up to four messages"; receive "takes the oldest queued message of its operation";
-- send: "queued at a live one". All of it is total on any bytes.
use Rattle.std.specs.Prelude.{List, [], ◌∷◌, ◌++◌, ℕ, zero, suc, ◌+◌, ◌-◌, ◌*◌, eqb, ltb, length}
use Rattle.basics.specs.Choice.{pick}
use Rattle.wire.specs.Wire.{u16_at, part, with_part}
use Rattle.state.specs.Places.{message_room, entry_size, entry_start}
use Rattle.network_syntax.specs.Syntax.{Optional}
use Rattle.state.specs.Session.{Destination, Queued}
use Rattle.state.specs.Bytes.{zeros, padded, reply_kind, reply_bytes, read_session}
use Rattle.wire.specs.Wire.{u16_bytes}
use Rattle.state.specs.Queue.{QueueSplit, nothing, message, keeping}
use Rattle.state_queues.specs.declared.Span.{Span}
use Rattle.std.specs.Prelude.{Option, Some, None}

-- The place and the length of the message's bytes in the entry k.
unfoldable pub message_span : List ℕ → ℕ → ℕ → Span
message_span s slot k = record { start = entry_start slot k + 8; len = u16_at s (entry_start slot k + 2) }

-- "the oldest queued message of its operation": the index, counted from k, of the first message of the O row w.
unfoldable pub oldest_from : ℕ → ℕ → List Queued → Option ℕ
oldest_from k w [] = None
oldest_from k w (m ∷ l) = pick (eqb m.operation w) (Some k) (oldest_from (suc k) w l)

abbrev pub oldest_in : ℕ → List Queued → Option ℕ
oldest_in w l = oldest_from 0 w l

-- The message at an index and the others in their order; nothing where there is none.
unfoldable pub taken_at : ℕ → List Queued → QueueSplit
taken_at k [] = nothing
taken_at zero (m ∷ l) = message m l
taken_at (suc k) (m ∷ l) = keeping m (taken_at k l)

-- What a receive takes where the oldest is at that index (ReadLaws, `oldest-taken`).
abbrev pub taken_of : Option ℕ → List Queued → QueueSplit
taken_of None l = nothing
taken_of (Some k) l = taken_at k l

-- The queue without the message at an index; the others keep their order.
unfoldable pub without : ℕ → List Queued → List Queued
without k [] = []
without zero (m ∷ l) = l
without (suc k) (m ∷ l) = m ∷ without k l

-- The state's bytes without the entry k: those after it move up, and the last one is zeros.
unfoldable pub removed : List ℕ → ℕ → ℕ → List ℕ
removed s slot k = with_part s (entry_start slot k) (part s (entry_start slot k + entry_size) (entry_size * (3 - k)) ++ zeros entry_size)

-- An entry, as `entry_bytes`, from the bytes l of its message: the operation's O row plus 1, the reply's kind, the message's length and where
-- the reply goes; then the message and zeros.
unfoldable pub entry_head : ℕ → Optional Destination → ℕ → List ℕ
entry_head w to n = ((w + 1) ∷ reply_kind to ∷ u16_bytes n) ++ reply_bytes to

abbrev pub entry_of : ℕ → Optional Destination → List ℕ → List ℕ
entry_of w to l = entry_head w to (length l) ++ padded message_room l

-- The state's bytes with one more message at the first unused entry; the same where four are queued.
unfoldable pub pushed : List ℕ → ℕ → ℕ → Optional Destination → List ℕ → List ℕ
pushed s slot w to l =
    pick (ltb (length (read_session s slot).queue) 4) (with_part s (entry_start slot (length (read_session s slot).queue)) (entry_of w to l)) s
