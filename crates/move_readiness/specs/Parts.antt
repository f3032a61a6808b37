-- Of a B row and its progress: the rows that decide whether it is done, and the rows through which it is passed when reached. These are
-- `is_done` and `reach` of moves for one row, on rows; the laws in proofs/ tie them.
use Rattle.std.specs.Prelude.{true, false, List, ℕ, ◌+◌, ◌-◌, eqb, ltb}
use Rattle.basics.specs.Choice.{pick}
use Rattle.network.specs.Layout.{behaviour_at}
use Rattle.network.specs.Rows.{field_a, field_b}
use Rattle.network.specs.Decode.{behaviour_of}
use Rattle.network_rows.specs.declared.BehaviourRow.{BehaviourRow}
use Rattle.network_rows.specs.Readers.{behaviour_row_of}
use Rattle.state.specs.Session.{Progress, Progresses}
use Rattle.move_rules.specs.Readiness.{unless_done, unless_received, unless_taken, then_or_else, is_done}
use Rattle.move_readiness.specs.declared.Deciders.{Deciders}
use Rattle.move_readiness.specs.declared.Ways.{Ways}

-- The place of the branch k of the n from row `first` on; past the last one, the last.
unfoldable pub branch_row_at : List ℕ → ℕ → ℕ → ℕ → ℕ
branch_row_at s first n k = behaviour_at s (first + pick (ltb k n) k (n - 1))

-- Branch k: "(input row a, of kind 1 or 2, then b, as in a sequence)".
unfoldable pub branch_deciders : List ℕ → ℕ → ℕ → ℕ → Deciders
branch_deciders s first n k =
    pick (eqb n 0) (Deciders.Settled true) (Deciders.Both (field_a s (branch_row_at s first n k)) (field_b s (branch_row_at s first n k)))

-- "A nil is done, and so is a sequence, parallel, if or choice whose chosen parts are."
unfoldable pub deciders_in : List ℕ → Progress → BehaviourRow → Deciders
deciders_in s p BehaviourRow.Nil = Deciders.Settled true
deciders_in s p (BehaviourRow.OneWay o x) = Deciders.Settled (unless_done p false true)
deciders_in s p (BehaviourRow.RequestResponse o x c d) = Deciders.Settled (unless_done p false true)
deciders_in s p (BehaviourRow.Notification o e) = Deciders.Settled (unless_done p false true)
deciders_in s p (BehaviourRow.SolicitResponse o e x) = Deciders.Settled (unless_done p false true)
deciders_in s p (BehaviourRow.If e a b) = unless_taken p (Deciders.Settled false) (λ j. then_or_else j (Deciders.One a) (Deciders.One b))
deciders_in s p (BehaviourRow.While e b) = Deciders.Settled (unless_done p false true)
deciders_in s p (BehaviourRow.Sequence a b) = Deciders.Both a b
deciders_in s p (BehaviourRow.Parallel a b) = Deciders.Both a b
deciders_in s p (BehaviourRow.Assign x e) = Deciders.Settled (unless_done p false true)
deciders_in s p (BehaviourRow.Choice first n) = unless_taken p (Deciders.Settled false) (λ j. branch_deciders s first n j)
deciders_in s p (BehaviourRow.Branch a b) = Deciders.Settled true
deciders_in s p BehaviourRow.Unknown = Deciders.Settled true

unfoldable pub deciders_of : List ℕ → Progresses → ℕ → Deciders
deciders_of s p r = deciders_in s (p r) (behaviour_row_of s r)

-- "nothing before it in a sequence is undone": the second part counts once the first is done.
unfoldable pub in_order : List ℕ → Progresses → ℕ → ℕ → Ways
in_order s p a b = pick (is_done p (behaviour_of s a)) (Ways.Two a b) (Ways.One a)

unfoldable pub branch_ways : List ℕ → Progresses → ℕ → ℕ → ℕ → Ways
branch_ways s p first n k = pick (eqb n 0) Ways.Nowhere (in_order s p (field_a s (branch_row_at s first n k)) (field_b s (branch_row_at s first n k)))

-- "both sides of a ready parallel, each input of a ready choice, the taken side or body of an if or while, and the body of a received
-- request-response count likewise".
unfoldable pub ways_in : List ℕ → Progresses → ℕ → BehaviourRow → Ways
ways_in s p r BehaviourRow.Nil = Ways.Nowhere
ways_in s p r (BehaviourRow.OneWay o x) = Ways.Nowhere
ways_in s p r (BehaviourRow.RequestResponse o x c d) = unless_received (p r) Ways.Nowhere (Ways.One d)
ways_in s p r (BehaviourRow.Notification o e) = Ways.Nowhere
ways_in s p r (BehaviourRow.SolicitResponse o e x) = Ways.Nowhere
ways_in s p r (BehaviourRow.If e a b) = unless_taken (p r) Ways.Nowhere (λ j. then_or_else j (Ways.One a) (Ways.One b))
ways_in s p r (BehaviourRow.While e b) = unless_taken (p r) Ways.Nowhere (λ j. Ways.One b)
ways_in s p r (BehaviourRow.Sequence a b) = in_order s p a b
ways_in s p r (BehaviourRow.Parallel a b) = Ways.Two a b
ways_in s p r (BehaviourRow.Assign x e) = Ways.Nowhere
ways_in s p r (BehaviourRow.Choice first n) = unless_taken (p r) (Ways.Inputs first n) (λ j. branch_ways s p first n j)
ways_in s p r (BehaviourRow.Branch a b) = Ways.Nowhere
ways_in s p r BehaviourRow.Unknown = Ways.Nowhere

unfoldable pub ways_of : List ℕ → Progresses → ℕ → Ways
ways_of s p r = ways_in s p r (behaviour_row_of s r)
