-- What setting rows to undone is of a state: in a live session's slot it is Session's `reopen`, and nothing else changes.
use Rattle.std.specs.Prelude.{ℕ, zero, suc, ◌+◌, ◌-◌, ◌*◌, ◌/◌, ◌%◌, ◌<◌, ◌≤◌, ◌≡◌, List, [], ◌∷◌, Bool, true, false, leb, length}
use Rattle.std.proofs.Math.Path.{refl}
use Rattle.std.proofs.Common.{sym, ◌∙◌, ap, subst, inl, inr, zero-add, add-zero, arith, ext_get_or}
use Rattle.std.proofs.Math.Decide.{dec_lt}
use borrow.Author.Tests.{lt-ltb, le-ltb, le-leb, lt-leb}
use Rattle.wire.specs.Wire.{byte_at, with_part}
use Rattle.wire.specs.WireLaws.{with_part-inside, with_part-outside, length-with_part}
use Rattle.basics.specs.Choice.{pick}
use Rattle.basics.specs.TestLaws.{and-false}
use Rattle.network_syntax.specs.Syntax.{Behaviour}
use Rattle.network_syntax.specs.Rows.{has_row}
use Rattle.state.specs.Places.{slot_size, row_size, rows_size, rows_place, kept_place, slot_start}
use Rattle.state.specs.Session.{Progress, undone, Progresses, reopen, Session, with_progress, Slot, live, State, set_slot}
use Rattle.state.specs.Bytes.{progress_bytes, rows_bytes, slot_bytes, state_bytes}
use Rattle.state.proofs.PartLaws.{HoldsAt, holds-whole, holds-byte, byte-zeros}
use Rattle.state.proofs.SizeLaws.{progress-size, rows-size, SessionFits, Sized, sized-length}
use Rattle.state.proofs.ReadLaws.{holds_row, slot-parts, state-slot}
use Rattle.state.proofs.ChangeLaws.{set-part, change-rows}
use Rattle.state_reopening.specs.Reopening.{in_rows, undone_from, with_undone, Clears}

-- ---- byte for byte

pub undone-length : (f : ℕ → Bool) (slot k : ℕ) (s : List ℕ) → length (undone_from f slot k s) ≡ length s
unfolding undone_from
undone-length f slot k [] = refl
undone-length f slot k (b ∷ s) = ap suc (undone-length f slot (suc k) s)

pick-zero : (t : Bool) → ◌≡◌ {A = ℕ} 0 (pick t 0 0)
pick-zero true = refl
pick-zero false = refl

undone-byte : (f : ℕ → Bool) (slot k : ℕ) (s : List ℕ) (i : ℕ) → byte_at (undone_from f slot k s) i ≡ pick (in_rows f slot (k + i)) 0 (byte_at s i)
unfolding undone_from
undone-byte f slot k [] i = pick-zero (in_rows f slot (k + i))
undone-byte f slot k (b ∷ s) zero = let e : k + 0 ≡ k = omega arith in rw e refl
undone-byte f slot k (b ∷ s) (suc i) = let e : k + suc i ≡ suc k + i = omega arith in rw e (undone-byte f slot (suc k) s i)

-- Bytes that are cleared are these.
pub cleared-are : {f : ℕ → Bool} {slot : ℕ} {s t : List ℕ} → Clears f slot s t → t ≡ with_undone f slot s
cleared-are {f} {slot} {s} {t} c =
    ext_get_or 0 t (with_undone f slot s) (c.long ∙ sym (undone-length f slot 0 s)) (λ i l.
    c.bytes i ∙ ap (λ (k : ℕ). pick (in_rows f slot k) 0 (byte_at s i)) (sym (zero-add i)) ∙ sym (undone-byte f slot 0 s i))

-- ---- a slot's rows

module _ (f : ℕ → Bool) (slot : ℕ) where
  before-rows : (k : ℕ) → k < slot + rows_place → in_rows f slot k ≡ false
  unfolding in_rows
  before-rows k l = rw (lt-leb (slot + rows_place) k l) refl

  past-rows : (k : ℕ) → slot + kept_place ≤ k → in_rows f slot k ≡ false
  unfolding in_rows
  past-rows k l = rw (le-ltb k (slot + kept_place) l, and-false (leb (slot + rows_place) k)) refl

  inside-rows : (k i : ℕ) → slot + rows_place ≤ k → k < slot + kept_place → (k - (slot + rows_place)) / row_size ≡ i → in_rows f slot k ≡ f i
  unfolding in_rows
  inside-rows k i l m e = rw (le-leb (slot + rows_place) k l, lt-ltb k (slot + kept_place) m, e) refl

-- The same with every row of which f holds undone.
abbrev pub undone_where : (ℕ → Bool) → Progresses → Progresses
undone_where f p = λ i. pick (f i) undone (p i)

row-byte : {s : List ℕ} {at : ℕ} (p : Progresses) → HoldsAt s at (rows_bytes p) → (i m : ℕ) → i < 256 → m < row_size
    → byte_at s (at + row_size * i + m) ≡ byte_at (progress_bytes (p i)) m
row-byte p h i m l k = holds-byte (holds_row p h i l) m (omega (arith, progress-size (p i)))

cleared-byte : (t : Bool) (x : Progress) (m : ℕ) → byte_at (progress_bytes (pick t undone x)) m ≡ pick t 0 (byte_at (progress_bytes x) m)
unfolding progress_bytes
cleared-byte true x m = byte-zeros row_size m
cleared-byte false x m = refl

-- Rows that the bytes hold are written anew.
pub undone-rows : (f : ℕ → Bool) (slot : ℕ) (p : Progresses) (s : List ℕ) → slot + slot_size ≤ length s → HoldsAt s (slot + rows_place) (rows_bytes p)
    → with_undone f slot s ≡ with_part s (slot + rows_place) (rows_bytes (undone_where f p))
undone-rows f slot p s l h =
    ext_get_or 0 (with_undone f slot s) (with_part s base new) (undone-length f slot 0 s ∙ sym (length-with_part s base new fits)) (λ k j.
    undone-byte f slot 0 s k ∙ ap (λ (i : ℕ). pick (in_rows f slot i) 0 (byte_at s k)) (zero-add k) ∙ by k (dec_lt k base) (dec_lt k (slot + kept_place)))
  where
    base : ℕ
    base = slot + rows_place

    new : List ℕ
    new = rows_bytes (undone_where f p)

    size : length new ≡ rows_size
    size = rows-size (undone_where f p)

    fits : base + length new ≤ length s
    fits = omega (arith, size)

    inside : (k j i m : ℕ) → base + j ≡ k → row_size * i + m ≡ j → i < 256 → m < row_size → pick (in_rows f slot k) 0 (byte_at s k) ≡ byte_at (with_part s base new) k
    inside k j i m e d li lm =
        let a : base + row_size * i + m ≡ k = omega arith in
        let c : 0 + row_size * i + m ≡ j = omega arith in
        let n : base + j + 0 ≡ k = omega arith in
        let g = (with_part-inside s base new fits j 1 (omega (arith, size))).bytes 0 (omega arith) in
        let old : byte_at s k ≡ byte_at (progress_bytes (p i)) m = rw a at (row-byte p h i m li lm) in
        let now : byte_at new j ≡ byte_at (progress_bytes (undone_where f p i)) m = rw c at (row-byte (undone_where f p) (holds-whole new) i m li lm) in
        let put : byte_at (with_part s base new) k ≡ byte_at new j = rw (n, add-zero j) at g in
        let cleared : byte_at (progress_bytes (undone_where f p i)) m ≡ pick (f i) 0 (byte_at (progress_bytes (p i)) m) = cleared-byte (f i) (p i) m in
        let held : pick (f i) 0 (byte_at s k) ≡ pick (f i) 0 (byte_at (progress_bytes (p i)) m) = ap (pick (f i) 0) old in
        rw (inside-rows f slot k i (omega arith) (omega arith) (omega arith), put, now, cleared) held

    by : (k : ℕ) → Dec (k < base) → Dec (k < slot + kept_place) → pick (in_rows f slot k) 0 (byte_at s k) ≡ byte_at (with_part s base new) k
    by k (yes a) b =
        let g = (with_part-outside s base new fits k 1 (inl (omega arith))).bytes 0 (omega arith) in
        rw (before-rows f slot k a) (sym (rw (add-zero k) at g))
    by k (no a) (no b) =
        let g = (with_part-outside s base new fits k 1 (inr (omega (arith, size)))).bytes 0 (omega arith) in
        rw (past-rows f slot k (omega arith)) (sym (rw (add-zero k) at g))
    by k (no a) (yes b) = inside k (k - base) ((k - base) / row_size) ((k - base) % row_size) (omega arith) (omega arith) (omega arith) (omega arith)

-- ---- a live session

module _ {G : State} (z : Sized G) (q n : ℕ) (i : q < 4) (j : n < 4) (S : Session) (e : G q n ≡ live S) (w : SessionFits S) where
  -- Setting the rows of a behaviour to undone, in the slot of a live session, is `reopen`.
  pub reopen-bytes : (b : Behaviour) → with_undone (λ r. has_row r b) (slot_start q n) (state_bytes G)
      ≡ state_bytes (set_slot G q n (live (with_progress S (reopen S.progress b))))
  reopen-bytes b =
      let p = reopen S.progress b in
      let x = live (with_progress S p) in
      let h = slot-parts S w (subst (λ (y : Slot). HoldsAt (state_bytes G) (slot_start q n) (slot_bytes y)) e (state-slot z q n i j)) in
      undone-rows (λ r. has_row r b) (slot_start q n) S.progress (state_bytes G) (omega (arith, sized-length z)) h.rows
      ∙ sym (set-part z q n x rows_place (rows_bytes p) i j (omega (arith, rows-size p))
      (change-rows S w p ∙ ap (λ (y : Slot). with_part (slot_bytes y) rows_place (rows_bytes p)) (sym e)))
