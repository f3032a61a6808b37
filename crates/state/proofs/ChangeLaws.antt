-- A change of a state changes its part of the bytes and no other: one slot, and in a slot the tree, the queue, one row's progress.
use Rattle.std.specs.Prelude.{◌≡◌, take, drop}
use Rattle.std.proofs.Math.Path.{refl, sym, ap}
use Rattle.std.proofs.Common.{◌∙◌, zero-add, drop_at, eq-eqb, ne_eqb}
use mathlib.Core.List.{List, [], ◌∷◌, ◌++◌, append_assoc, append-nil}
use Prim.Native.Nat.{ℕ, zero, suc, ◌+◌, ◌*◌, ◌/◌, ◌%◌, ◌≤◌, ◌<◌}
use native.Mathlib.Omega.{arith}
use Rattle.std.proofs.Math.Decide.{ℕ_discrete}
use Rattle.std.proofs.Math.ListN.{length}
use Rattle.tree_forest.specs.Forest.{Forest}
use Rattle.scalar.specs.Value.{Value}
use Rattle.wire.specs.Wire.{part, with_part}
use Rattle.wire.specs.WireLaws.{length_part, length-with_part}
use Rattle.state.specs.Places.{slot_size, head_size, tree_room, message_room, entry_size, queue_size, row_size}
use Rattle.state.specs.Places.{length_place, key_place, tree_place, queue_place, rows_place, kept_size, slot_start, row_start}
use Rattle.state.specs.Session.{Progress, Progresses, advance, Queued, Session, with_tree, with_queue, with_progress, with_key, Slot, live, State, set_slot}
use Rattle.state.specs.Bytes.{zeros, padded, message_bytes, entry_bytes, queue_bytes, progress_bytes}
use Rattle.state.specs.Bytes.{rows_bytes, tree_bytes, head_bytes, slot_bytes, slot_at, state_bytes, read_slot}
use Rattle.wire.specs.Wire.{u16_bytes, u32_bytes}
use Rattle.state.specs.Shape.{AllMessages, MadeSlot}
use Rattle.state.proofs.PartLaws.{take_past, drop_past, length-zeros, length-padded, holds-part, replace-middle}
use Rattle.state.proofs.PartLaws.{replace-rest, replace-first, replace-within, replace-both, replace-joined}
use Rattle.state.proofs.SizeLaws.{message-size, entry-size, progress-size, rows-size, SessionFits, Sized, sized-length}
use Rattle.state.proofs.HeadLaws.{head-size, head-tree, head-queue, head-progress, head-with-key}
use Rattle.state.proofs.ReadLaws.{read-slot, state-slot}

-- ---- one slot of a state

pub slot_same : (G : State) (q n : ℕ) (x : Slot) → set_slot G q n x q n ≡ x
slot_same G q n x = rw (eq-eqb q q refl, eq-eqb n n refl)

pub set_other : (G : State) (q n : ℕ) (x : Slot) (i j : ℕ) → (i ≡ q → j ≡ n → ⊥) → set_slot G q n x i j ≡ G i j
set_other G q n x i j h = by (ℕ_discrete i q) (ℕ_discrete j n)
  where
    by : Dec (i ≡ q) → Dec (j ≡ n) → set_slot G q n x i j ≡ G i j
    by (yes e) (yes f) = absurd (h e f)
    by (yes e) (no f) = rw (eq-eqb i q e, ne_eqb j n f)
    by (no e) f = rw (ne_eqb i q e)

module _ {G : State} (z : Sized G) (q n : ℕ) (x : Slot) (size : length (slot_bytes x) ≡ slot_size) where
  pub set-sized : Sized (set_slot G q n x)
  set-sized = record { each = λ k. by k (ℕ_discrete (k / 4) q) (ℕ_discrete (k % 4) n) }
    where
      by : (k : ℕ) → Dec (k / 4 ≡ q) → Dec (k % 4 ≡ n) → length (slot_bytes (slot_at (set_slot G q n x) k)) ≡ slot_size
      by k (yes e) (yes f) = rw (e, f, slot_same G q n x) size
      by k (yes e) (no f) = rw (set_other G q n x (k / 4) (k % 4) (λ a b. f b)) (z.each k)
      by k (no e) f = rw (set_other G q n x (k / 4) (k % 4) (λ a b. e a)) (z.each k)

  -- Changing a slot changes its 4,096 bytes.
  pub set-bytes : q < 4 → n < 4 → state_bytes (set_slot G q n x) ≡ with_part (state_bytes G) (slot_start q n) (slot_bytes x)
  unfolding state_bytes
  set-bytes i j =
      let k = 4 * q + n in
      let f : ℕ → List ℕ = λ k. slot_bytes (slot_at G k) in
      let g : ℕ → List ℕ = λ k. slot_bytes (slot_at (set_slot G q n x) k) in
      let a : k / 4 ≡ q = omega arith in
      let b : k % 4 ≡ n = omega arith in
      let e : g (0 + k) ≡ slot_bytes x = rw (zero-add k, a, b, slot_same G q n x) refl in
      rw e at (replace-joined f slot_size z.each g 0 16 k (omega arith) (ap length e ∙ size)
      (λ m d. ap slot_bytes (set_other G q n x (m / 4) (m % 4) (λ u v. d (omega arith)))))

  -- Reading back: the slot that was written, and every other.
  pub read-set-same : q < 4 → n < 4 → MadeSlot x → read_slot (state_bytes (set_slot G q n x)) (slot_start q n) ≡ x
  read-set-same i j m = read-slot x m (rw (slot_same G q n x) at (state-slot set-sized q n i j))

  pub read-set-other : (i j : ℕ) → i < 4 → j < 4 → (i ≡ q → j ≡ n → ⊥) → MadeSlot (G i j)
      → read_slot (state_bytes (set_slot G q n x)) (slot_start i j) ≡ G i j
  read-set-other i j a b d m = read-slot (G i j) m (rw (set_other G q n x i j d) at (state-slot set-sized i j a b))

-- The slot's bytes are a part of the state's.
pub slot-part : {G : State} → Sized G → (q n : ℕ) → q < 4 → n < 4 → part (state_bytes G) (slot_start q n) slot_size ≡ slot_bytes (G q n)
slot-part {G} z q n i j =
    let k = 4 * q + n in
    let a : k / 4 ≡ q = omega arith in
    let b : k % 4 ≡ n = omega arith in
    holds-part (state-slot z q n i j) slot_size (rw (a, b) at (z.each k))

-- A change within a slot changes the same bytes of the state.
pub set-part : {G : State} → Sized G → (q n : ℕ) (x : Slot) (k : ℕ) (y : List ℕ) → q < 4 → n < 4 → k + length y ≤ slot_size
    → slot_bytes x ≡ with_part (slot_bytes (G q n)) k y → state_bytes (set_slot G q n x) ≡ with_part (state_bytes G) (slot_start q n + k) y
set-part {G} z q n x k y i j l e =
    let p = slot-part z q n i j in
    let s : length (slot_bytes (G q n)) ≡ slot_size = ap length (sym p) ∙ length_part (state_bytes G) (slot_start q n) slot_size (omega (arith, sized-length z)) in
    let c : length (slot_bytes x) ≡ slot_size = ap length e ∙ length-with_part (slot_bytes (G q n)) k y (omega arith) ∙ s in
    let w : with_part (slot_bytes (G q n)) k y ≡ with_part (part (state_bytes G) (slot_start q n) slot_size) k y =
    ap (λ (t : List ℕ). with_part t k y) (sym p) in
    set-bytes z q n x c i j
    ∙ ap (with_part (state_bytes G) (slot_start q n)) (e ∙ w)
    ∙ replace-within (state_bytes G) (slot_start q n) slot_size k y (omega (arith, sized-length z)) l

-- The same for two changes, as of a tree and its length.
pub set-parts : {G : State} → Sized G → (q n : ℕ) (x : Slot) (k l : ℕ) (a b : List ℕ) → q < 4 → n < 4 → k + length a ≤ slot_size → l + length b ≤ slot_size
    → slot_bytes x ≡ with_part (with_part (slot_bytes (G q n)) k a) l b
    → state_bytes (set_slot G q n x) ≡ with_part (with_part (state_bytes G) (slot_start q n + k) a) (slot_start q n + l) b
set-parts {G} z q n x k l a b i j u v e =
    let at = slot_start q n in
    let p = slot-part z q n i j in
    let y = slot_bytes (G q n) in
    let s : length y ≡ slot_size = ap length (sym p) ∙ length_part (state_bytes G) at slot_size (omega (arith, sized-length z)) in
    let s1 : length (with_part y k a) ≡ slot_size = length-with_part y k a (omega arith) ∙ s in
    let c : length (slot_bytes x) ≡ slot_size = ap length e ∙ length-with_part (with_part y k a) l b (omega arith) ∙ s1 in
    let w : with_part (with_part y k a) l b ≡ with_part (with_part (part (state_bytes G) at slot_size) k a) l b =
    ap (λ (t : List ℕ). with_part (with_part t k a) l b) (sym p) in
    set-bytes z q n x c i j
    ∙ ap (with_part (state_bytes G) at) (e ∙ w)
    ∙ replace-both (state_bytes G) at slot_size k l a b (omega (arith, sized-length z)) u v

-- ---- the progress of one row

pub advance-same : (p : Progresses) (r : ℕ) (x : Progress) → advance p r x r ≡ x
advance-same p r x = rw (eq-eqb r r refl)

pub advance-other : (p : Progresses) (r : ℕ) (x : Progress) (i : ℕ) → (i ≡ r → ⊥) → advance p r x i ≡ p i
advance-other p r x i h = rw (ne_eqb i r h)

pub advance-bytes : (p : Progresses) (r : ℕ) (x : Progress) → r < 256 → rows_bytes (advance p r x) ≡ with_part (rows_bytes p) (row_size * r) (progress_bytes x)
advance-bytes p r x l =
    let f : ℕ → List ℕ = λ i. progress_bytes (p i) in
    let g : ℕ → List ℕ = λ i. progress_bytes (advance p r x i) in
    let e : g (0 + r) ≡ progress_bytes x = rw (zero-add r, advance-same p r x) refl in
    rw e at (replace-joined f row_size (λ i. progress-size (p i)) g 0 256 r l (ap length e ∙ progress-size x)
    (λ i d. ap progress_bytes (advance-other p r x i (λ u. d (u ∙ sym (zero-add r))))))

-- ---- within a live slot

module _ (S : Session) (f : SessionFits S) where
  -- The tree: its length, at 2 and 3, and its bytes, at 16 to 1039.
  pub change-tree : (F : Forest Value) → length (tree_bytes F) ≤ tree_room
      → slot_bytes (live (with_tree S F))
      ≡ with_part (with_part (slot_bytes (live S)) length_place (u16_bytes (length (tree_bytes F)))) tree_place (padded tree_room (tree_bytes F))
  unfolding slot_bytes
  change-tree F l =
      let t = padded tree_room (tree_bytes S.tree) in
      let new = padded tree_room (tree_bytes F) in
      let size = u16_bytes (length (tree_bytes F)) in
      let rest = queue_bytes 4 S.queue ++ (rows_bytes S.progress ++ zeros kept_size) in
      let a = replace-first (head_bytes S) (t ++ rest) length_place size (omega (arith, head-size S)) in
      let b = ap (λ (x : List ℕ). x ++ (t ++ rest)) (sym (head-tree S F)) in
      let c = replace-middle (head_bytes (with_tree S F)) t rest new head_size (head-size (with_tree S F))
      (length-padded tree_room (tree_bytes F) l ∙ sym (length-padded tree_room (tree_bytes S.tree) f.tree_fits)) in
      sym (ap (λ (x : List ℕ). with_part x tree_place new) (a ∙ b) ∙ c)

  -- The key: 4 to 7.
  pub change-key : (x : ℕ) → slot_bytes (live (with_key S x)) ≡ with_part (slot_bytes (live S)) key_place (u32_bytes x)
  unfolding slot_bytes
  change-key x =
      let rest = padded tree_room (tree_bytes S.tree) ++ (queue_bytes 4 S.queue ++ (rows_bytes S.progress ++ zeros kept_size)) in
      ap (λ (y : List ℕ). y ++ rest) (head-with-key S x) ∙ sym (replace-first (head_bytes S) rest key_place (u32_bytes x) (omega (arith, head-size S)))

  -- What stands past the tree.
  past-tree : (b : List ℕ) (k : ℕ) (y : List ℕ)
      → head_bytes S ++ (padded tree_room (tree_bytes S.tree) ++ with_part b k y)
      ≡ with_part (head_bytes S ++ (padded tree_room (tree_bytes S.tree) ++ b)) (queue_place + k) y
  past-tree b k y =
      let t = padded tree_room (tree_bytes S.tree) in
      let e : queue_place + k ≡ head_size + (tree_room + k) = omega arith in
      rw e (sym (replace-rest (head_bytes S) (t ++ b) head_size (tree_room + k) y (head-size S)
      ∙ ap (λ (x : List ℕ). head_bytes S ++ x) (replace-rest t b tree_room k y (length-padded tree_room (tree_bytes S.tree) f.tree_fits))))

  -- The queue: 1040 to 2415.
  pub change-queue : (l : List Queued) → length (queue_bytes 4 l) ≡ queue_size
      → slot_bytes (live (with_queue S l)) ≡ with_part (slot_bytes (live S)) queue_place (queue_bytes 4 l)
  unfolding slot_bytes
  change-queue l e =
      let t = padded tree_room (tree_bytes S.tree) in
      let q = queue_bytes 4 S.queue in
      let rest = rows_bytes S.progress ++ zeros kept_size in
      let a = replace-middle [] q rest (queue_bytes 4 l) 0 refl (e ∙ sym f.queue_fits) in
      ap (λ (x : List ℕ). x ++ (t ++ (queue_bytes 4 l ++ rest))) (head-queue S l)
      ∙ ap (λ (x : List ℕ). head_bytes S ++ (t ++ x)) (sym a)
      ∙ past-tree (q ++ rest) 0 (queue_bytes 4 l)

  -- What stands past the queue.
  past-queue : (b : List ℕ) (k : ℕ) (y : List ℕ) → queue_bytes 4 S.queue ++ with_part b k y ≡ with_part (queue_bytes 4 S.queue ++ b) (queue_size + k) y
  past-queue b k y = sym (replace-rest (queue_bytes 4 S.queue) b queue_size k y f.queue_fits)

  -- The progress of all rows: 2416 to 3951.
  pub change-rows : (p : Progresses) → slot_bytes (live (with_progress S p)) ≡ with_part (slot_bytes (live S)) rows_place (rows_bytes p)
  unfolding slot_bytes
  change-rows p =
      let t = padded tree_room (tree_bytes S.tree) in
      let q = queue_bytes 4 S.queue in
      let r = rows_bytes S.progress in
      let a = replace-middle [] r (zeros kept_size) (rows_bytes p) 0 refl (rows-size p ∙ sym (rows-size S.progress)) in
      ap (λ (x : List ℕ). x ++ (t ++ (q ++ (rows_bytes p ++ zeros kept_size)))) (head-progress S p)
      ∙ ap (λ (x : List ℕ). head_bytes S ++ (t ++ x)) (ap (λ (x : List ℕ). q ++ x) (sym a) ∙ past-queue (r ++ zeros kept_size) 0 (rows_bytes p))
      ∙ past-tree (q ++ (r ++ zeros kept_size)) queue_size (rows_bytes p)

  -- The progress of the row r: six bytes at 2416 + 6 r.
  pub change-row : (r : ℕ) (x : Progress) → r < 256
      → slot_bytes (live (with_progress S (advance S.progress r x))) ≡ with_part (slot_bytes (live S)) (row_start 0 r) (progress_bytes x)
  unfolding slot_bytes
  change-row r x l =
      let t = padded tree_room (tree_bytes S.tree) in
      let q = queue_bytes 4 S.queue in
      let p = S.progress in
      let a = advance-bytes p r x l in
      let b = replace-first (rows_bytes p) (zeros kept_size) (row_size * r) (progress_bytes x) (omega (arith, rows-size p, progress-size x)) in
      let e : queue_place + (queue_size + row_size * r) ≡ row_start 0 r = omega arith in
      ap (λ (y : List ℕ). y ++ (t ++ (q ++ (rows_bytes (advance p r x) ++ zeros kept_size)))) (head-progress S (advance p r x))
      ∙ ap (λ (x : List ℕ). head_bytes S ++ (t ++ x))
      (ap (λ (x : List ℕ). q ++ x) (ap (λ (x : List ℕ). x ++ zeros kept_size) a ∙ sym b)
      ∙ past-queue (rows_bytes p ++ zeros kept_size) (row_size * r) (progress_bytes x))
      ∙ rw e at (past-tree (q ++ (rows_bytes p ++ zeros kept_size)) (queue_size + row_size * r) (progress_bytes x))

-- ---- the queue

module _ (m : Queued) (h : length (message_bytes m.message) ≤ message_room) where
  -- One more message takes the first unused entry.
  pub append-bytes : (n : ℕ) (l : List Queued) → length l < n → AllMessages l
      → queue_bytes n (l ++ (m ∷ [])) ≡ with_part (queue_bytes n l) (entry_size * length l) (entry_bytes m)
  unfolding queue_bytes AllMessages
  append-bytes zero l i w = absurd (omega arith)
  append-bytes (suc n) [] i w =
      sym (replace-middle [] (zeros entry_size) (queue_bytes n []) (entry_bytes m) 0 refl (entry-size m h ∙ sym (length-zeros entry_size)))
  append-bytes (suc n) (a ∷ l) i w =
      let s = entry-size a (message-size a.message w.0) in
      let e : entry_size * suc (length l) ≡ entry_size + entry_size * length l = omega arith in
      rw e (ap (λ (x : List ℕ). entry_bytes a ++ x) (append-bytes n l (omega arith) w.1)
      ∙ sym (replace-rest (entry_bytes a) (queue_bytes n l) entry_size (entry_size * length l) (entry_bytes m) s))

-- One more entry is unused.
queue-last : (n : ℕ) (l : List Queued) → length l ≤ n → queue_bytes (suc n) l ≡ queue_bytes n l ++ zeros entry_size
unfolding queue_bytes
queue-last zero [] i = append-nil (zeros entry_size)
queue-last zero (m ∷ l) i = absurd (omega arith)
queue-last (suc n) [] i =
    ap (λ (x : List ℕ). zeros entry_size ++ x) (queue-last n [] (omega arith)) ∙ sym (append_assoc (zeros entry_size) (queue_bytes n []) (zeros entry_size))
queue-last (suc n) (m ∷ l) i =
    ap (λ (x : List ℕ). entry_bytes m ++ x) (queue-last n l (omega arith)) ∙ sym (append_assoc (entry_bytes m) (queue_bytes n l) (zeros entry_size))

-- One message less: the entries after it move up, and the last one is unused.
pub remove-bytes : (n : ℕ) (a : List Queued) (m : Queued) (b : List Queued) → AllMessages (a ++ (m ∷ b)) → length (a ++ (m ∷ b)) ≤ n
    → queue_bytes n (a ++ b)
    ≡ take (entry_size * length a) (queue_bytes n (a ++ (m ∷ b))) ++ (drop (entry_size * length a + entry_size) (queue_bytes n (a ++ (m ∷ b))) ++ zeros entry_size)
unfolding queue_bytes AllMessages
remove-bytes zero [] m b w i = absurd (omega arith)
remove-bytes zero (c ∷ a) m b w i = absurd (omega arith)
remove-bytes (suc n) [] m b w i =
    queue-last n b (omega arith)
    ∙ ap (λ (x : List ℕ). x ++ zeros entry_size) (sym (drop_at (entry_bytes m) (queue_bytes n b) entry_size (entry-size m (message-size m.message w.0))))
remove-bytes (suc n) (c ∷ a) m b w i =
    let q = queue_bytes n (a ++ (m ∷ b)) in
    let k = entry_size * length a in
    let s = entry-size c (message-size c.message w.0) in
    let e : entry_size * suc (length a) ≡ entry_size + k = omega arith in
    let d : entry_size + k + entry_size ≡ entry_size + (k + entry_size) = omega arith in
    let t : take (entry_size + k) (entry_bytes c ++ q) ≡ entry_bytes c ++ take k q = take_past (entry_bytes c) q entry_size k s in
    let u : drop (entry_size + (k + entry_size)) (entry_bytes c ++ q) ≡ drop (k + entry_size) q = drop_past (entry_bytes c) q entry_size (k + entry_size) s in
    ap (λ (x : List ℕ). entry_bytes c ++ x) (remove-bytes n a m b w.1 (omega arith))
    ∙ rw (e, d, t, u) (sym (append_assoc (entry_bytes c) (take k q) (drop (k + entry_size) q ++ zeros entry_size)))
