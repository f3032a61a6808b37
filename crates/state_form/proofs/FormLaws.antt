-- Laws of the form of a state's bytes: one for each way out of the functions.
use mathlib.Core.Path.{◌≡◌, refl, sym, ap, ◌∙◌}
use mathlib.Core.List.{List, [], ◌∷◌}
use mathlib.Core.Bool.{Bool, true, false, not, ◌&&◌}
use Prim.Native.Nat.{ℕ, zero, suc, ◌+◌, ◌-◌, ◌*◌, ◌≤◌, ◌<◌, min}
use native.Mathlib.Omega.{arith}
use native.Mathlib.Decide.{dec_lt}
use lib.ListN.{length, take, drop, length-drop}
use lib.Seq.{take_all}
use lib.Dec.{eqb}
use borrow.Author.Tests.{ne_eqb, eqb-true, not-true, not-false}
use Rattle.std.specs.Int.{from_le_bytes, w32}
use Rattle.basics.specs.Choice.{pick}
use Rattle.basics.specs.TestLaws.{and_assoc, and-true}
use Rattle.wire.specs.Wire.{byte_at, u16_at, u32_at, part}
use Rattle.wire.specs.WireLaws.{byte_past}
use Rattle.state.specs.Places.{entry_size, row_size}
use Rattle.state.specs.Form.{all_zero, progress_form, rows_form, entry_form, queue_form}

-- ---- zeros

-- z tells whether the bytes from `at` to i are 0.
pub record Clear (s : List ℕ) (at n i : ℕ) (z : Bool) : Type 0 where
  pub low : at ≤ i
  pub high : i ≤ at + n
  pub same : all_zero s at n ≡ (z && all_zero s i (at + n - i))

pub clear_none : (s : List ℕ) (at n : ℕ) → Clear s at n at true
clear_none s at n = let e : n ≡ at + n - at = omega arith in record { low = omega arith; high = omega arith; same = ap (all_zero s at) e }

zero-past : (s : List ℕ) (at n : ℕ) → length s ≤ at → all_zero s at n ≡ true
unfolding all_zero
zero-past s at zero h = refl
zero-past s at (suc n) h = rw (byte_past s at h, zero-past s (at + 1) n (omega arith))

module _ (s : List ℕ) (at n i e : ℕ) (z : Bool) (c : Clear s at n i z) (f : e ≡ min (at + n) (length s)) where
  pub clear_next : (y : Bool) → i < e → y ≡ (z && eqb (byte_at s i) 0) → Clear s at n (i + 1) y
  unfolding all_zero
  clear_next y h g = record {
    low = omega (arith, c.low);
    high = omega arith;
    same =
        let d : at + n - i ≡ suc (at + n - (i + 1)) = omega arith in
        let rest = all_zero s (i + 1) (at + n - (i + 1)) in
        c.same ∙ (ap (λ (m : ℕ). z && all_zero s i m) d ∙ (and_assoc z (eqb (byte_at s i) 0) rest ∙ ap (λ (t : Bool). t && rest) (sym g)));
  }

  pub clear-all : e ≤ i → z ≡ all_zero s at n
  unfolding all_zero
  clear-all h = sym (c.same ∙ (ap (λ (t : Bool). z && t) (by (at + n - i) refl) ∙ and-true z))
    where
      by : (m : ℕ) → at + n - i ≡ m → all_zero s i m ≡ true
      by zero g = refl
      by (suc m) g = zero-past s i (suc m) (omega (arith, c.high))

pub ruleset zero-laws = (clear-all)

pub ruleset zero-again-laws = (clear_next)

-- ---- a part

nothing-past : (s : List ℕ) (at : ℕ) → length s ≤ at → drop at s ≡ []
nothing-past s at h = empty (drop at s) (omega (arith, length-drop at s))
  where
    empty : (l : List ℕ) → length l ≡ 0 → l ≡ []
    empty [] e = refl
    empty (a ∷ l) e = absurd (omega arith)

pub no_part : (s : List ℕ) (at n : ℕ) → length s ≤ at → [] ≡ part s at n
no_part s at n h = sym (ap (take n) (nothing-past s at h) ∙ take_all n [] (omega arith))

pub cut-part : (s : List ℕ) (at n e : ℕ) → at < length s → e ≡ min (at + n) (length s) → take (e - at) (drop at s) ≡ part s at n
cut-part s at n e h f = by (dec_lt (at + n) (length s))
  where
    by : Dec (at + n < length s) → take (e - at) (drop at s) ≡ take n (drop at s)
    by (yes l) = let d : e - at ≡ n = omega arith in rw d
    by (no l) = take_all (e - at) (drop at s) (omega (arith, length-drop at s)) ∙ sym (take_all n (drop at s) (omega (arith, length-drop at s)))

pub ruleset part-laws = (no_part, cut-part)

-- ---- five bytes

module _ (s : List ℕ) (at : ℕ) where
  abbrev is0 : ℕ → Bool
  is0 i = eqb (byte_at s i) 0

  five : all_zero s at 5 ≡ (is0 at && (is0 (at + 1) && (is0 (at + 2) && (is0 (at + 3) && (is0 (at + 4) && true)))))
  unfolding all_zero
  five =
      let two : at + 1 + 1 ≡ at + 2 = omega arith in
      let three : at + 2 + 1 ≡ at + 3 = omega arith in
      let four : at + 3 + 1 ≡ at + 4 = omega arith in
      rw (two, three, four) refl

  four-sum : byte_at s at + 0x100 * byte_at s (at + 1) + 0x10000 * byte_at s (at + 2) + 0x1000000 * byte_at s (at + 3) ≡ u32_at s at
  unfolding u32_at u16_at
  four-sum = let three : at + 2 + 1 ≡ at + 3 = omega arith in rw three (omega arith)

  pub four : from_le_bytes w32 (byte_at s at ∷ byte_at s (at + 1) ∷ byte_at s (at + 2) ∷ byte_at s (at + 3) ∷ []) ≡ u32_at s at
  four = omega (arith, four-sum)

  pub five-not : (n : ℕ) → n ≡ u32_at s at → (n ≡ 0 → ⊥) → false ≡ all_zero s at 5
  five-not n e f = by (is0 at) (is0 (at + 1)) (is0 (at + 2)) (is0 (at + 3)) refl refl refl refl ∙ sym five
    where
      by : (w x y z : Bool) → is0 at ≡ w → is0 (at + 1) ≡ x → is0 (at + 2) ≡ y → is0 (at + 3) ≡ z →
          false ≡ (w && (x && (y && (z && (is0 (at + 4) && true)))))
      by false x y z g h i j = refl
      by true false y z g h i j = refl
      by true true false z g h i j = refl
      by true true true false g h i j = refl
      by true true true true g h i j =
          let k = eqb-true (byte_at s at) 0 g in
          let l = eqb-true (byte_at s (at + 1)) 0 h in
          let m = eqb-true (byte_at s (at + 2)) 0 i in
          absurd (f (omega (arith, e, four-sum, k, l, m, eqb-true (byte_at s (at + 3)) 0 j)))

  pub five-last : (n : ℕ) → n ≡ u32_at s at → n ≡ 0 → eqb (byte_at s (at + 4)) 0 ≡ all_zero s at 5
  five-last n e f =
      let g : byte_at s at ≡ 0 = omega (arith, e, four-sum) in
      let h : byte_at s (at + 1) ≡ 0 = omega (arith, e, four-sum) in
      let i : byte_at s (at + 2) ≡ 0 = omega (arith, e, four-sum) in
      let j : byte_at s (at + 3) ≡ 0 = omega (arith, e, four-sum) in
      sym (five ∙ rw (g, h, i, j) (and-true (eqb (byte_at s (at + 4)) 0)))

-- ---- rows

-- The first i rows have the form.
pub record RowsLeft (s : List ℕ) (at n i : ℕ) : Type 0 where
  pub bound : i ≤ n
  pub same : rows_form s at n ≡ rows_form s (at + row_size * i) (n - i)

pub rows-all : (s : List ℕ) (at n : ℕ) → RowsLeft s at n 0
rows-all s at n =
    let e : at + row_size * 0 ≡ at = omega arith in
    let d : n - 0 ≡ n = omega arith in
    record { bound = omega arith; same = sym (ap (λ (k : ℕ). rows_form s k (n - 0)) e ∙ ap (rows_form s at) d) }

one_less : (n i : ℕ) → i < n → n - i ≡ suc (n - (i + 1))
one_less n i h = omega arith

module _ (s : List ℕ) (at n i : ℕ) (c : RowsLeft s at n i) where
  row_more : i < n → rows_form s at n ≡ (progress_form s (at + row_size * i) && rows_form s (at + row_size * (i + 1)) (n - (i + 1)))
  unfolding rows_form
  row_more h =
      let e : at + row_size * i + row_size ≡ at + row_size * (i + 1) = omega arith in
      c.same ∙ (ap (rows_form s (at + row_size * i)) (one_less n i h)
      ∙ ap (λ (k : ℕ). progress_form s (at + row_size * i) && rows_form s k (n - (i + 1))) e)

  pub rows_next : (x : Bool) → i < n → x ≡ progress_form s (at + row_size * i) → not x ≡ false → RowsLeft s at n (i + 1)
  rows_next x h e f = record { bound = omega arith; same = row_more h ∙ rw (sym e ∙ not-false x f) }

  pub rows-not : (x : Bool) → i < n → x ≡ progress_form s (at + row_size * i) → not x ≡ true → false ≡ rows_form s at n
  rows-not x h e f = sym (row_more h ∙ rw (sym e ∙ not-true x f))

  pub rows-done : n ≤ i → true ≡ rows_form s at n
  unfolding rows_form
  rows-done h = let z : n - i ≡ 0 = omega arith in sym (c.same ∙ ap (rows_form s (at + row_size * i)) z)

pub ruleset rows-laws = (rows-not, rows-done)

pub ruleset rows-again-laws = (rows_next)

-- ---- the queue

-- The first k entries are used and have the form.
pub record EntriesLeft (s : List ℕ) (at n k : ℕ) : Type 0 where
  pub bound : k ≤ n
  pub same : queue_form s at n ≡ queue_form s (at + entry_size * k) (n - k)

pub entries-all : (s : List ℕ) (at n : ℕ) → EntriesLeft s at n 0
entries-all s at n =
    let e : at + entry_size * 0 ≡ at = omega arith in
    let d : n - 0 ≡ n = omega arith in
    record { bound = omega arith; same = sym (ap (λ (k : ℕ). queue_form s k (n - 0)) e ∙ ap (queue_form s at) d) }

module _ (s : List ℕ) (at n k : ℕ) (c : EntriesLeft s at n k) where
  abbrev place : ℕ
  place = at + entry_size * k

  entry_more : k < n → queue_form s at n
      ≡ pick (eqb (byte_at s place) 0) (all_zero s place (entry_size * (n - k)))
      (entry_form s place && queue_form s (at + entry_size * (k + 1)) (n - (k + 1)))
  unfolding queue_form
  entry_more h =
      let e : place + entry_size ≡ at + entry_size * (k + 1) = omega arith in
      let d = one_less n k h in
      c.same ∙ (ap (queue_form s place) d ∙ rw (sym d, e))

  module _ (b : ℕ) (h : k < n) (e : b ≡ byte_at s place) where
    pub queue-unused : (r : Bool) → b ≡ 0 → r ≡ all_zero s place (entry_size * (n - k)) → r ≡ queue_form s at n
    queue-unused r f g = g ∙ sym (entry_more h ∙ rw (sym e ∙ f))

    pub entries_next : (x : Bool) → (b ≡ 0 → ⊥) → x ≡ entry_form s place → not x ≡ false → EntriesLeft s at n (k + 1)
    entries_next x f g i = record {
      bound = omega arith;
      same = entry_more h ∙ rw (sym e, ne_eqb b 0 f, sym g ∙ not-false x i);
    }

    pub queue-not : (x : Bool) → (b ≡ 0 → ⊥) → x ≡ entry_form s place → not x ≡ true → false ≡ queue_form s at n
    queue-not x f g i = sym (entry_more h ∙ rw (sym e, ne_eqb b 0 f, sym g ∙ not-true x i))

  pub queue-full : n ≤ k → true ≡ queue_form s at n
  unfolding queue_form
  queue-full h = let z : n - k ≡ 0 = omega arith in sym (c.same ∙ ap (queue_form s place) z)

pub ruleset queue-laws = (queue-unused, queue-not, queue-full)

pub ruleset queue-again-laws = (entries_next)
