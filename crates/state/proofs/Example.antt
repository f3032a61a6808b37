-- The example of docs/STATE.md: the slot of proved case d's client, fresh (FreshLaws, `new-bytes`) and after its assign of int 12 to 5.7.
use Rattle.std.specs.Prelude.{◌≡◌, refl, List, [], ◌∷◌, ◌++◌, ℕ}
use Rattle.std.proofs.Common.{ap, ◌∙◌, arith}
use Rattle.tree_forest.specs.Forest.{Forest, end, node}
use Rattle.scalar.specs.Basic.{int, void}
use Rattle.scalar.specs.Value.{Value, value}
use Rattle.wire.specs.Wire.{with_part}
use Rattle.tree.specs.Encode.{encode, root_count}
use Rattle.state.specs.Places.{queue_size, rows_size, kept_size}
use Rattle.state.specs.Session.{done, undone, advance, Session, live, with_tree, with_progress, new_session}
use Rattle.state.specs.Bytes.{zeros, progress_bytes, rows_bytes, tree_bytes, head_bytes, slot_bytes}
use Rattle.state.proofs.FreshLaws.{no-queue, no-progress}
use Rattle.state.proofs.ChangeLaws.{advance-bytes}

-- "5 void, 5.7 int", with the value 12.
abbrev pub assigned_tree : Forest Value
assigned_tree = node 5 (value void []) (node 7 (value int (12 ∷ 0 ∷ 0 ∷ 0 ∷ [])) end end) end

-- The client after the move: row 0 is done.
abbrev pub moved_session : Session
moved_session = with_progress (with_tree new_session assigned_tree) (advance (λ i. undone) 0 done)

-- The tree's bytes, 19 of them.
pub assigned-bytes : tree_bytes assigned_tree ≡ 0 ∷ 0 ∷ 6 ∷ 1 ∷ 0 ∷ 5 ∷ 0 ∷ 6 ∷ 1 ∷ 0 ∷ 7 ∷ 0 ∷ 1 ∷ 0 ∷ 4 ∷ 12 ∷ 0 ∷ 0 ∷ 0 ∷ []
unfolding encode root_count
assigned-bytes = refl

pub moved-bytes : slot_bytes (live moved_session)
    ≡ (1 ∷ 0 ∷ 19 ∷ 0 ∷ 0 ∷ 0 ∷ 0 ∷ 0 ∷ []) ++ (zeros 8 ++ ((tree_bytes assigned_tree ++ zeros 1005)
    ++ (zeros queue_size ++ (with_part (zeros rows_size) 0 (1 ∷ zeros 5) ++ zeros kept_size))))
unfolding slot_bytes head_bytes encode root_count progress_bytes
moved-bytes =
    let r : rows_bytes (advance (λ i. undone) 0 done) ≡ with_part (zeros rows_size) 0 (progress_bytes done) =
    advance-bytes (λ i. undone) 0 done (omega arith) ∙ ap (λ (x : List ℕ). with_part x 0 (progress_bytes done)) no-progress in
    rw (no-queue 4, r)
