-- Laws of rows set to undone: one for each way out of the functions.
use Prim.Native.Nat.{ℕ, ◌+◌, ◌-◌, ◌/◌, ◌<◌, ◌≤◌}
use mathlib.Core.Path.{◌≡◌, refl, sym, ◌∙◌, ap}
use mathlib.Core.List.{List}
use mathlib.Core.Bool.{Bool, true, false, not, ◌&&◌, ◌||◌}
use mathlib.Core.Logic.{inl, inr}
use native.Mathlib.Omega.{arith}
use native.Mathlib.Nat.{add-zero}
use native.Mathlib.Decide.{dec_lt}
use lib.Dec.{eqb, leb, ltb}
use lib.ListN.{length, get_or}
use borrow.Author.Tests.{eq-eqb, ne_eqb, lt-ltb, le-ltb, le-leb, lt-leb}
use Rattle.tree_forest.specs.Compare.{Compare, lt, eq, gt, compare}
use Rattle.wire.specs.Wire.{byte_at, with_part}
use Rattle.wire.specs.WireLaws.{with_part-inside, with_part-outside, length-with_part}
use Rattle.basics.specs.Choice.{pick}
use Rattle.basics.specs.TestLaws.{and-false, or-false}
use Rattle.network_syntax.specs.Rows.{has_row}
use Rattle.network.specs.Decode.{behaviour_of}
use Rattle.network_row_parts.specs.RowSets.{itself_row}
use Rattle.state.specs.Places.{slot_size, row_size, rows_place, kept_place, row_start}
use Rattle.state.specs.Bytes.{zeros, progress_bytes}
use Rattle.state.proofs.PartLaws.{length-zeros, byte-zeros}
use Rattle.state_progress.specs.declared.Progress.TheVariants.{Undone}
use Rattle.state_progress.specs.Meaning.{meaning}
use Rattle.state_rows.specs.Marks.{mark_for, RowsOf}
use Rattle.state_reopening.specs.Reopening.{in_rows, with_undone, rows_below, Clears}
use Rattle.state_reopening.specs.ReopeningLaws.{cleared-are}

-- ---- one after another

pick-or : (a b : Bool) (x : ℕ) → pick b 0 (pick a 0 x) ≡ pick (a || b) 0 x
pick-or true true x = refl
pick-or true false x = refl
pick-or false b x = refl

and-or : (a b x y : Bool) → (a && (b && x)) || (a && (b && y)) ≡ a && (b && (x || y))
and-or true true x y = refl
and-or true false x y = refl
and-or false b x y = refl

in_either : (f g h : ℕ → Bool) (slot k : ℕ) → ((i : ℕ) → h i ≡ f i || g i) → in_rows f slot k || in_rows g slot k ≡ in_rows h slot k
unfolding in_rows
in_either f g h slot k e =
    let i = (k - (slot + rows_place)) / row_size in
    and-or (leb (slot + rows_place) k) (ltb k (slot + kept_place)) (f i) (g i)
    ∙ ap (λ (x : Bool). leb (slot + rows_place) k && (ltb k (slot + kept_place) && x)) (sym (e i))

in-same : (f g : ℕ → Bool) (slot k : ℕ) → ((i : ℕ) → f i ≡ g i) → in_rows f slot k ≡ in_rows g slot k
unfolding in_rows
in-same f g slot k e = ap (λ (x : Bool). leb (slot + rows_place) k && (ltb k (slot + kept_place) && x)) (e ((k - (slot + rows_place)) / row_size))

clears-as : {slot : ℕ} {s t : List ℕ} (f g : ℕ → Bool) → ((i : ℕ) → f i ≡ g i) → Clears f slot s t → Clears g slot s t
clears-as {slot} {s} {t} f g e c = record {
  long = c.long;
  bytes = λ k. c.bytes k ∙ ap (λ (x : Bool). pick x 0 (byte_at s k)) (in-same f g slot k e);
}

clears-both : {slot : ℕ} {s t u : List ℕ} (f g h : ℕ → Bool) → Clears f slot s t → Clears g slot t u → ((i : ℕ) → h i ≡ f i || g i) → Clears h slot s u
clears-both {slot} {s} {t} {u} f g h c d e = record {
  long = d.long ∙ c.long;
  bytes = λ k.
      d.bytes k ∙ ap (pick (in_rows g slot k) 0) (c.bytes k) ∙ pick-or (in_rows f slot k) (in_rows g slot k) (byte_at s k)
      ∙ ap (λ (x : Bool). pick x 0 (byte_at s k)) (in_either f g h slot k e);
}

-- ---- one row

before-row : (r slot k : ℕ) → k < row_start slot r → in_rows (itself_row r) slot k ≡ false
unfolding in_rows itself_row
before-row r slot k l = by (dec_lt k (slot + rows_place))
  where
    by : Dec (k < slot + rows_place) → leb (slot + rows_place) k && (ltb k (slot + kept_place) && eqb ((k - (slot + rows_place)) / row_size) r) ≡ false
    by (yes m) = rw (lt-leb (slot + rows_place) k m) refl
    by (no m) =
        let e : (k - (slot + rows_place)) / row_size ≡ r → ⊥ = λ q. omega arith in
        rw (ne_eqb ((k - (slot + rows_place)) / row_size) r e, and-false (ltb k (slot + kept_place)), and-false (leb (slot + rows_place) k)) refl

after-row : (r slot k : ℕ) → row_start slot r + row_size ≤ k → in_rows (itself_row r) slot k ≡ false
unfolding in_rows itself_row
after-row r slot k l =
    let e : (k - (slot + rows_place)) / row_size ≡ r → ⊥ = λ q. omega arith in
    rw (ne_eqb ((k - (slot + rows_place)) / row_size) r e, and-false (ltb k (slot + kept_place)), and-false (leb (slot + rows_place) k)) refl

inside-row : (r slot k : ℕ) → r < 256 → row_start slot r ≤ k → k < row_start slot r + row_size → in_rows (itself_row r) slot k ≡ true
unfolding in_rows itself_row
inside-row r slot k h l m =
    let e : (k - (slot + rows_place)) / row_size ≡ r = omega arith in
    rw (le-leb (slot + rows_place) k (omega arith), lt-ltb k (slot + kept_place) (omega arith), eq-eqb ((k - (slot + rows_place)) / row_size) r e) refl

six-zeros : progress_bytes (meaning Undone) ≡ zeros row_size
unfolding progress_bytes
six-zeros = refl

pub clear-put : (slot r : ℕ) (s o : List ℕ) {i : ℕ} → r < 256 → slot + slot_size ≤ length s → i ≡ row_start slot r
    → o ≡ with_part s i (progress_bytes (meaning Undone)) → Clears (itself_row r) slot s o
clear-put slot r s o {i} h l f e =
    let at = row_start slot r in
    let z = ap (λ (j : ℕ). with_part s j (progress_bytes (meaning Undone))) f ∙ ap (with_part s at) six-zeros in
    let n = length-zeros row_size in
    let fits : at + length (zeros row_size) ≤ length s = omega arith in
    record {
      long = ap length (e ∙ z) ∙ length-with_part s at (zeros row_size) fits;
      bytes = λ k. ap (λ (x : List ℕ). byte_at x k) (e ∙ z) ∙ by k (dec_lt k at) (dec_lt k (at + row_size));
    }
  where
    by : (k : ℕ) → Dec (k < row_start slot r) → Dec (k < row_start slot r + row_size)
        → byte_at (with_part s (row_start slot r) (zeros row_size)) k ≡ pick (in_rows (itself_row r) slot k) 0 (byte_at s k)
    by k (yes a) b =
        let at = row_start slot r in
        let n = length-zeros row_size in
        let g = (with_part-outside s at (zeros row_size) (omega arith) k 1 (inl (omega arith))).bytes 0 (omega arith) in
        rw (before-row r slot k a) (rw (add-zero k) at g)
    by k (no a) (yes b) =
        let at = row_start slot r in
        let n = length-zeros row_size in
        let g = (with_part-inside s at (zeros row_size) (omega arith) (k - at) 1 (omega arith)).bytes 0 (omega arith) in
        let i : at + (k - at) + 0 ≡ k = omega arith in
        rw (inside-row r slot k h (omega arith) b) (rw i at g ∙ byte-zeros row_size (k - at + 0))
    by k (no a) (no b) =
        let at = row_start slot r in
        let n = length-zeros row_size in
        let g = (with_part-outside s at (zeros row_size) (omega arith) k 1 (inr (omega arith))).bytes 0 (omega arith) in
        rw (after-row r slot k (omega arith)) (rw (add-zero k) at g)

-- ---- the marked rows

-- The rows below k that are marked.
abbrev pub marked_below : List ℕ → ℕ → ℕ → Bool
marked_below marks k j = ltb j k && not (eqb (get_or marks j 0) 0)

marked-next : (marks : List ℕ) (k : ℕ) → (get_or marks k 0 ≡ 0 → ⊥) → (j : ℕ) → marked_below marks (k + 1) j ≡ marked_below marks k j || itself_row k j
unfolding itself_row
marked-next marks k h j = by (compare j k)
  where
    by : Compare j k → marked_below marks (k + 1) j ≡ marked_below marks k j || eqb j k
    by (lt l) = rw (lt-ltb j (k + 1) (omega arith), lt-ltb j k l, ne_eqb j k (λ e. omega arith)) (or-false (not (eqb (get_or marks j 0) 0)))
    by (eq e) =
        rw (lt-ltb j (k + 1) (omega arith), le-ltb j k (omega arith), eq-eqb j k e, ne_eqb (get_or marks j 0) 0 (λ z. h (ap (λ (i : ℕ). get_or marks i 0) (sym e) ∙ z))) refl
    by (gt l) = rw (le-ltb j (k + 1) (omega arith), le-ltb j k (omega arith), ne_eqb j k (λ e. omega arith)) refl

marked-same : (marks : List ℕ) (k : ℕ) → get_or marks k 0 ≡ 0 → (j : ℕ) → marked_below marks k j ≡ marked_below marks (k + 1) j
marked-same marks k h j = by (compare j k)
  where
    by : Compare j k → marked_below marks k j ≡ marked_below marks (k + 1) j
    by (lt l) = rw (lt-ltb j (k + 1) (omega arith), lt-ltb j k l) refl
    by (eq e) = rw (lt-ltb j (k + 1) (omega arith), le-ltb j k (omega arith), eq-eqb (get_or marks j 0) 0 (ap (λ (i : ℕ). get_or marks i 0) e ∙ h)) refl
    by (gt l) = rw (le-ltb j (k + 1) (omega arith), le-ltb j k (omega arith)) refl

-- The marked rows below k are undone, and nothing else is changed.
pub record Reopened (marks : List ℕ) (slot : ℕ) (s t : List ℕ) (k : ℕ) : Type 0 where
  pub clears : Clears (marked_below marks k) slot s t

pub reopened-none : (marks : List ℕ) (slot : ℕ) (s : List ℕ) → Reopened marks slot s s 0
unfolding in_rows
reopened-none marks slot s = record {
  clears = record {
    long = refl;
    bytes = λ k.
        let j = (k - (slot + rows_place)) / row_size in
        rw (le-ltb j 0 (omega arith), and-false (ltb k (slot + kept_place)), and-false (leb (slot + rows_place) k)) refl;
  };
}

module _ (marks : List ℕ) (slot k : ℕ) (s t : List ℕ) (c : Reopened marks slot s t k) where
  pub reopened-next : {o : List ℕ} {i : ℕ} → k < 256 → slot + slot_size ≤ length t → (get_or marks k 0 ≡ 0 → ⊥) → i ≡ row_start slot k
      → o ≡ with_part t i (progress_bytes (meaning Undone)) → Reopened marks slot s o (k + 1)
  reopened-next {o} l z h f e = record {
    clears = clears-both (marked_below marks k) (itself_row k) (marked_below marks (k + 1)) c.clears (clear-put slot k t o l z f e) (marked-next marks k h);
  }

  pub reopened-same : get_or marks k 0 ≡ 0 → Reopened marks slot s t (k + 1)
  reopened-same h = record { clears = clears-as (marked_below marks k) (marked_below marks (k + 1)) (marked-same marks k h) c.clears }

-- ---- the whole

-- Only what f says of the rows 0 to 255 counts.
in-below : (f g : ℕ → Bool) (slot k : ℕ) → ((i : ℕ) → i < 256 → f i ≡ g i) → in_rows f slot k ≡ in_rows g slot k
unfolding in_rows
in-below f g slot k e = by (dec_lt k (slot + rows_place)) (dec_lt k (slot + kept_place))
  where
    j : ℕ
    j = (k - (slot + rows_place)) / row_size

    by : Dec (k < slot + rows_place) → Dec (k < slot + kept_place)
        → leb (slot + rows_place) k && (ltb k (slot + kept_place) && f ((k - (slot + rows_place)) / row_size))
        ≡ leb (slot + rows_place) k && (ltb k (slot + kept_place) && g ((k - (slot + rows_place)) / row_size))
    by (yes l) m = rw (lt-leb (slot + rows_place) k l) refl
    by (no l) (yes m) =
        ap (λ (x : Bool). leb (slot + rows_place) k && (ltb k (slot + kept_place) && x)) (e ((k - (slot + rows_place)) / row_size) (omega arith))
    by (no l) (no m) = rw (le-ltb k (slot + kept_place) (omega arith)) refl

mark-back : (t : Bool) → not (eqb (mark_for t) 0) ≡ t
mark-back true = refl
mark-back false = refl

pub reopened-all : (file marks : List ℕ) (slot r k : ℕ) (s t : List ℕ) → RowsOf file r marks → 256 ≤ k → k ≤ 256 → Reopened marks slot s t k
    → t ≡ with_undone (rows_below file r) slot s
reopened-all file marks slot r k s t m l h c =
    let same : (i : ℕ) → i < 256 → marked_below marks k i ≡ rows_below file r i =
    λ i u. rw (lt-ltb i k (omega arith), m.rows i u) (mark-back (has_row i (behaviour_of file r))) in
    cleared-are (record {
      long = c.clears.long;
      bytes = λ p. c.clears.bytes p ∙ ap (λ (x : Bool). pick x 0 (byte_at s p)) (in-below (marked_below marks k) (rows_below file r) slot p same);
    })
