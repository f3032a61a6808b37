-- What keeps a state's shape: progress of a row's own kind, rows made undone again, a message more or less, a slot of the shape.
use Rattle.std.specs.Prelude.{◌≡◌, refl, Bool, true, false, ◌&&◌, ◌||◌, ◌⊎◌, ℕ, zero, suc, ◌≤◌, ◌<◌, length}
use Rattle.std.proofs.Common.{◌∙◌, inl, inr, arith, eq-eqb, ne_eqb}
use mathlib.Core.List.{List, [], ◌∷◌, ◌++◌}
use Rattle.std.proofs.Math.Decide.{ℕ_discrete}
use Rattle.tree_forest.specs.Forest.{Forest, tree}
use Rattle.scalar.specs.Value.{Value}
use Rattle.basics.specs.Choice.{pick}
use Rattle.basics.specs.TestLaws.{and_left, and_right}
use Rattle.network_syntax.specs.Syntax.{Optional, none, some, Network, Behaviour}
use Rattle.network_syntax.specs.Rows.{row_of, has_row}
use Rattle.tree.specs.Encode.{WellFormedTree, empty}
use Rattle.tree_forest.specs.Limits.{message_levels_below, message_nodes_below, session_levels, session_nodes}
use Rattle.state.specs.Session.{Progress, undone, Progresses, advance, reopen, Queued, Session}
use Rattle.state.specs.Session.{with_tree, with_queue, with_progress, with_key, Slot, free, live, State, set_slot}
use Rattle.state.specs.Shape.{is_undone, suits, quiet_elsewhere, suits_operation, suits_queue, operation_of_row}
use Rattle.state.specs.Shape.{behaviour_in, suits_behaviour, suits_slot, AllMessages, WellMade, MadeSlot}
use Rattle.state.specs.RowShape.{suits_row, PartOf, BranchRowOf}
use Rattle.state.proofs.RowLaws.{undone-row, suits-row, rows-suit}
use Rattle.state.proofs.ChangeLaws.{slot_same, set_other, advance-other}

-- ---- progress that changes

module _ (N : Network) (rows : ℕ) (p : Progresses) (B : Behaviour) (h : suits N rows p B ≡ true) where
  -- The row r at a progress that suits every part with that row (in a file there is one), and undone if it is a branch's.
  pub advance-suits : (r : ℕ) (x : Progress) → ((b : Behaviour) → PartOf b B → row_of b ≡ r → suits_row N rows x b ≡ true)
      → ((b : Behaviour) → PartOf b B → BranchRowOf r b → is_undone x ≡ true) → suits N rows (advance p r x) B ≡ true
  advance-suits r x k u = rows-suit N rows (advance p r x) B (λ b i. record {
    own = by b i (ℕ_discrete (row_of b) r);
    branch_rows = λ j l. undone-at b i j l (ℕ_discrete j r);
  })
    where
      by : (b : Behaviour) → PartOf b B → Dec (row_of b ≡ r) → suits_row N rows (advance p r x (row_of b)) b ≡ true
      by b i (yes e) = rw (eq-eqb (row_of b) r e) (k b i e)
      by b i (no e) = rw (ne_eqb (row_of b) r e) (suits-row N rows p B b h i).own

      undone-at : (b : Behaviour) → PartOf b B → (j : ℕ) → BranchRowOf j b → Dec (j ≡ r) → is_undone (advance p r x j) ≡ true
      undone-at b i j l (yes e) = rw (eq-eqb j r e) (u b i (rw e at l))
      undone-at b i j l (no e) = rw (ne_eqb j r e) ((suits-row N rows p B b h i).branch_rows j l)

  pub reopen-suits : (C : Behaviour) → suits N rows (reopen p C) B ≡ true
  reopen-suits C = rows-suit N rows (reopen p C) B (λ b i. record {
    own = by b i (has_row (row_of b) C);
    branch_rows = λ j l. undone-at b i j l (has_row j C);
  })
    where
      by : (b : Behaviour) → PartOf b B → (t : Bool) → suits_row N rows (pick t undone (p (row_of b))) b ≡ true
      by b i true = undone-row N rows b
      by b i false = (suits-row N rows p B b h i).own

      undone-at : (b : Behaviour) → PartOf b B → (j : ℕ) → BranchRowOf j b → (t : Bool) → is_undone (pick t undone (p j)) ≡ true
      undone-at b i j l true = refl
      undone-at b i j l false = (suits-row N rows p B b h i).branch_rows j l

-- Rows that are none of the behaviour's stay undone.
pub advance-quiet : (n : ℕ) (p : Progresses) (B : Behaviour) (r : ℕ) (x : Progress) → has_row r B ≡ true
    → quiet_elsewhere n p B ≡ true → quiet_elsewhere n (advance p r x) B ≡ true
unfolding quiet_elsewhere
advance-quiet zero p B r x k h = refl
advance-quiet (suc n) p B r x k h =
    let a = and_left (has_row n B || is_undone (p n)) (quiet_elsewhere n p B) h in
    rw (by (ℕ_discrete n r) a, advance-quiet n p B r x k (and_right (has_row n B || is_undone (p n)) (quiet_elsewhere n p B) h))
  where
    by : Dec (n ≡ r) → (has_row n B || is_undone (p n)) ≡ true → (has_row n B || is_undone (advance p r x n)) ≡ true
    by (yes e) a = rw (e, k)
    by (no e) a = rw (ne_eqb n r e) a

pub reopen-quiet : (n : ℕ) (p : Progresses) (B C : Behaviour) → quiet_elsewhere n p B ≡ true → quiet_elsewhere n (reopen p C) B ≡ true
unfolding quiet_elsewhere
reopen-quiet zero p B C h = refl
reopen-quiet (suc n) p B C h =
    let a = and_left (has_row n B || is_undone (p n)) (quiet_elsewhere n p B) h in
    rw (by (has_row n C) (has_row n B) a, reopen-quiet n p B C (and_right (has_row n B || is_undone (p n)) (quiet_elsewhere n p B) h))
  where
    by : (t o : Bool) → (o || is_undone (p n)) ≡ true → (o || is_undone (pick t undone (p n))) ≡ true
    by t true a = refl
    by true false a = refl
    by false false a = a

pub advance-past : (p : Progresses) (r : ℕ) (x : Progress) → r < 256 → ((i : ℕ) → 256 ≤ i → p i ≡ undone) → (i : ℕ) → 256 ≤ i → advance p r x i ≡ undone
advance-past p r x l h i k = advance-other p r x i (λ e. omega arith) ∙ h i k

pub reopen-past : (p : Progresses) (C : Behaviour) → ((i : ℕ) → 256 ≤ i → p i ≡ undone) → (i : ℕ) → 256 ≤ i → reopen p C i ≡ undone
reopen-past p C h i k = by (has_row i C)
  where
    by : (t : Bool) → pick t undone (p i) ≡ undone
    by true = refl
    by false = h i k

-- ---- a message more or less

module _ (N : Network) (rows q : ℕ) (m : Queued) where
  abbrev fits : Queued → Bool
  fits m = suits_operation N rows q m.reply_to (operation_of_row N.operations m.operation)

  pub append-suits : (l : List Queued) → fits m ≡ true → suits_queue N rows q l ≡ true → suits_queue N rows q (l ++ (m ∷ [])) ≡ true
  unfolding suits_queue
  append-suits [] k h = rw k
  append-suits (a ∷ l) k h =
      rw (and_left (fits a) (suits_queue N rows q l) h, append-suits l k (and_right (fits a) (suits_queue N rows q l) h))

  pub remove-suits : (a b : List Queued) → suits_queue N rows q (a ++ (m ∷ b)) ≡ true → suits_queue N rows q (a ++ b) ≡ true
  unfolding suits_queue
  remove-suits [] b h = and_right (fits m) (suits_queue N rows q b) h
  remove-suits (c ∷ a) b h =
      let r = suits_queue N rows q (a ++ (m ∷ b)) in
      rw (and_left (fits c) r h, remove-suits a b (and_right (fits c) r h))

pub append-messages : (m : Queued) (l : List Queued) → WellFormedTree message_levels_below message_nodes_below m.message → AllMessages l
    → AllMessages (l ++ (m ∷ []))
unfolding AllMessages
append-messages m [] w h = (w, tt)
append-messages m (a ∷ l) w h = (h.0, append-messages m l w h.1)

pub remove-messages : (a : List Queued) (m : Queued) (b : List Queued) → AllMessages (a ++ (m ∷ b)) → AllMessages (a ++ b)
unfolding AllMessages
remove-messages [] m b h = h.1
remove-messages (c ∷ a) m b h = (h.0, remove-messages a m b h.1)

-- ---- a session with another part

module _ {S : Session} (w : WellMade S) where
  pub made-tree : (F : Forest Value) → WellFormedTree session_levels session_nodes (tree empty F) → WellMade (with_tree S F)
  made-tree F g = record { bounded = g; up_to_four = w.up_to_four; messages = w.messages; no_rows_past = w.no_rows_past; key_fits = w.key_fits }

  pub made-queue : (l : List Queued) → length l ≤ 4 → AllMessages l → WellMade (with_queue S l)
  made-queue l h m = record { bounded = w.bounded; up_to_four = h; messages = m; no_rows_past = w.no_rows_past; key_fits = w.key_fits }

  pub made-progress : (p : Progresses) → ((i : ℕ) → 256 ≤ i → p i ≡ undone) → WellMade (with_progress S p)
  made-progress p h = record { bounded = w.bounded; up_to_four = w.up_to_four; messages = w.messages; no_rows_past = h; key_fits = w.key_fits }

  pub made-key : (x : ℕ) → x < 0x100000000 → WellMade (with_key S x)
  made-key x h = record { bounded = w.bounded; up_to_four = w.up_to_four; messages = w.messages; no_rows_past = w.no_rows_past; key_fits = h }

  pub made_row : (r : ℕ) (x : Progress) → r < 256 → WellMade (with_progress S (advance S.progress r x))
  made_row r x l = made-progress (advance S.progress r x) (advance-past S.progress r x l w.no_rows_past)

-- ---- a live session

-- What suits the behaviour B that a session of the service q runs, by parts. The tree has no part in it.
pub record Suits (N : Network) (rows q : ℕ) (S : Session) (B : Behaviour) : Type 0 where
  pub queue : suits_queue N rows q S.queue ≡ true
  pub progress : suits N rows S.progress B ≡ true
  pub quiet : quiet_elsewhere 256 S.progress B ≡ true

-- A slot that is live runs something, and suits it.
pub live-suits : (N : Network) (rows q n : ℕ) (S : Session) → suits_slot N rows q n (live S) ≡ true
    → (B : Behaviour) × (behaviour_in N q n ≡ some B) × Suits N rows q S B
live-suits N rows q n S h = by (behaviour_in N q n) refl h
  where
    by : (x : Optional Behaviour) → behaviour_in N q n ≡ x → suits_behaviour N rows q S x ≡ true
        → (B : Behaviour) × (behaviour_in N q n ≡ some B) × Suits N rows q S B
    by none e h = absurd (let z : ◌≡◌ {A = ℕ} 0 1 = cc in omega arith)
    by (some B) e h =
        let a = suits_queue N rows q S.queue in
        let b = suits N rows S.progress B in
        let c = quiet_elsewhere 256 S.progress B in
        let h' = and_right a (b && c) h in
        (B, e, record { queue = and_left a (b && c) h; progress = and_left b c h'; quiet = and_right b c h' })

pub suits-live : (N : Network) (rows q n : ℕ) (S : Session) (B : Behaviour) → behaviour_in N q n ≡ some B → Suits N rows q S B
    → suits_slot N rows q n (live S) ≡ true
suits-live N rows q n S B e h = rw (e, h.queue, h.progress, h.quiet)

-- ---- a slot of the shape

pub set-made : (G : State) → ((k m : ℕ) → k < 4 → m < 4 → MadeSlot (G k m)) → (q n : ℕ) (x : Slot) → MadeSlot x → (k m : ℕ) → k < 4 → m < 4
    → MadeSlot (set_slot G q n x k m)
set-made G h q n x w k m a b = by (ℕ_discrete k q) (ℕ_discrete m n)
  where
    by : Dec (k ≡ q) → Dec (m ≡ n) → MadeSlot (set_slot G q n x k m)
    by (yes u) (yes v) = rw (u, v, slot_same G q n x) w
    by (yes u) (no v) = rw (set_other G q n x k m (λ _ y. v y)) (h k m a b)
    by (no u) v = rw (set_other G q n x k m (λ y _. u y)) (h k m a b)

pub set-elsewhere : (G : State) → ((k m : ℕ) → (4 ≤ k) ⊎ (4 ≤ m) → G k m ≡ free) → (q n : ℕ) (x : Slot) → q < 4 → n < 4
    → (k m : ℕ) → (4 ≤ k) ⊎ (4 ≤ m) → set_slot G q n x k m ≡ free
set-elsewhere G h q n x i j k m o = set_other G q n x k m (λ u v. apart o u v) ∙ h k m o
  where
    apart : (4 ≤ k) ⊎ (4 ≤ m) → k ≡ q → m ≡ n → ⊥
    apart (inl o) u v = omega arith
    apart (inr o) u v = omega arith
