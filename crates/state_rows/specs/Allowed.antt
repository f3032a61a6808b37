-- What progress a row can have, by its kind: docs/STATE.md, "B kinds that can have it". `ProgressLaws` ties it to state/Shape.
use Rattle.std.specs.Prelude.{Bool, true, false, ◌&&◌, List, ℕ, zero, suc, ◌+◌, ◌*◌, ltb}
use Rattle.basics.specs.Choice.{pick}
use Rattle.network_syntax.specs.Syntax.{Network}
use Rattle.network.specs.Layout.{behaviour_count}
use Rattle.network.specs.Decode.{network_of}
use Rattle.network_rows.specs.declared.BehaviourRow.{BehaviourRow}
use Rattle.network_rows.specs.Readers.{behaviour_row_of}
use Rattle.state.specs.Session.{Progress, undone, done, waits, received, taken}
use Rattle.state.specs.Bytes.{read_progress}
use Rattle.state.specs.Shape.{is_destination}
use Rattle.state.specs.Places.{row_size}
use Rattle.state_rows.specs.declared.Allowed.{Allowed}
use Rattle.state_rows.specs.Marks.{marked}

abbrev pub allowing : Bool → Bool → Bool → ℕ → Allowed
allowing d w r k = record { done = d; waits = w; received = r; parts = k }

-- Only undone.
abbrev pub nothing : Allowed
nothing = allowing false false false 0

-- "1 one-way, 2 request-response, 3 notification, 4 solicit-response, 6 while, 9 assign" can be done; a solicit-response can wait; a
-- request-response can be received; "5 if (0 then, 1 else), 6 while (0 its body), 10 choice (the branch, from 0)" can have a part taken.
abbrev pub allowed_by : BehaviourRow → Allowed
allowed_by BehaviourRow.Nil = nothing
allowed_by (BehaviourRow.OneWay a b) = allowing true false false 0
allowed_by (BehaviourRow.RequestResponse a b c d) = allowing true false true 0
allowed_by (BehaviourRow.Notification a b) = allowing true false false 0
allowed_by (BehaviourRow.SolicitResponse a b c) = allowing true true false 0
allowed_by (BehaviourRow.If a b c) = allowing false false false 2
allowed_by (BehaviourRow.While a b) = allowing true false false 1
allowed_by (BehaviourRow.Sequence a b) = nothing
allowed_by (BehaviourRow.Parallel a b) = nothing
allowed_by (BehaviourRow.Assign a b) = allowing true false false 0
allowed_by (BehaviourRow.Choice a b) = allowing false false false b
allowed_by (BehaviourRow.Branch a b) = nothing
allowed_by BehaviourRow.Unknown = nothing

-- Of the row i of a session that runs the marked rows.
unfoldable pub allowed_at : List ℕ → List ℕ → ℕ → Allowed
allowed_at file marks i = pick (marked marks i) (allowed_by (behaviour_row_of file i)) nothing

-- Is the progress one of those? A received row has a destination.
unfoldable pub allows : Network → ℕ → Allowed → Progress → Bool
allows N rows a undone = true
allows N rows a done = a.done
allows N rows a waits = a.waits
allows N rows a (received to) = a.received && is_destination N rows to
allows N rows a (taken k) = ltb k a.parts

-- The rows n - 1 down to 0, whose progress stands from `at` on.
unfoldable pub permitted : List ℕ → List ℕ → List ℕ → ℕ → ℕ → Bool
permitted file marks s at zero = true
permitted file marks s at (suc n) =
    allows (network_of file) (behaviour_count file) (allowed_at file marks n) (read_progress s (at + row_size * n)) && permitted file marks s at n
