-- What is read of a queue, at each of the ways out of the code.
use mathlib.Core.Path.{◌≡◌, refl, sym, ap, ◌∙◌}
use mathlib.Core.List.{List, [], ◌∷◌}
use mathlib.Core.Bool.{Bool, true, false}
use Prim.Native.Nat.{ℕ, zero, suc, ◌+◌, ◌-◌, ◌≤◌, ◌<◌}
use native.Mathlib.Numerals.{add-one}
use native.Mathlib.Omega.{arith}
use lib.ListN.{length}
use lib.Dec.{eqb}
use Rattle.std.proofs.lemmas.Bool.{eqb-true, eqb-false}
use borrow.Author.Tests.{eq-eqb, ne_eqb}
use Rattle.basics.specs.Choice.{pick}
use Rattle.wire.specs.Wire.{byte_at}
use Rattle.state.specs.Places.{entry_size, queue_place, entry_start}
use Rattle.state.specs.Session.{Queued}
use Rattle.state.specs.Bytes.{read_entry, read_queue, read_session}
use Rattle.state_queues.specs.Queue.{oldest_from, oldest_in}
use Rattle.std.specs.Prelude.{Some, None}

-- ---- how many messages

module _ (s : List ℕ) (at : ℕ) where
  queue-end : (n : ℕ) → byte_at s at ≡ 0 → read_queue s n at ≡ []
  unfolding read_queue
  queue-end zero z = refl
  queue-end (suc n) z = rw (eq-eqb (byte_at s at) 0 z)

  queue-more : (n : ℕ) → (byte_at s at ≡ 0 → ⊥) → read_queue s (suc n) at ≡ read_entry s at ∷ read_queue s n (at + entry_size)
  unfolding read_queue
  queue-more n z = rw (ne_eqb (byte_at s at) 0 z)

-- What is left of a slot's queue from the entry k on.
abbrev pub rest : List ℕ → ℕ → ℕ → List Queued
rest s slot k = read_queue s (4 - k) (entry_start slot k)

module _ (s : List ℕ) (slot k : ℕ) where
  rest-end : byte_at s (entry_start slot k) ≡ 0 → rest s slot k ≡ []
  rest-end z = queue-end s (entry_start slot k) (4 - k) z

  rest-more : k < 4 → (byte_at s (entry_start slot k) ≡ 0 → ⊥) → rest s slot k ≡ read_entry s (entry_start slot k) ∷ rest s slot (k + 1)
  rest-more h z =
      let n : 4 - k ≡ suc (4 - (k + 1)) = omega arith in
      let e : entry_start slot k + entry_size ≡ entry_start slot (k + 1) = omega arith in
      rw (n, queue-more s (entry_start slot k) (4 - (k + 1)) z, e) refl

-- The entries before k are used.
pub record Passed (s : List ℕ) (slot k : ℕ) : Type 0 where
  pub count : length (read_session s slot).queue ≡ k + length (rest s slot k)

pub passed-none : (s : List ℕ) (slot : ℕ) → Passed s slot 0
unfolding read_session
passed-none s slot =
    let e : entry_start slot 0 ≡ slot + queue_place = omega arith in
    record { count = omega (arith, ap (λ (i : ℕ). length (read_queue s 4 i)) e) }

pub passed-all : (s : List ℕ) (slot k : ℕ) → 4 ≤ k → k ≤ 4 → Passed s slot k → 4 ≡ length (read_session s slot).queue
unfolding read_queue
passed-all s slot k h i w =
    let z : 4 - k ≡ 0 = omega arith in
    omega (arith, w.count, ap (λ (n : ℕ). length (read_queue s n (entry_start slot k))) z)

module _ (s : List ℕ) (slot k : ℕ) (w : Passed s slot k) {at b : ℕ} (e : at ≡ entry_start slot k) (f : b ≡ byte_at s at) where
  first : byte_at s (entry_start slot k) ≡ b
  first = ap (byte_at s) (sym e) ∙ sym f

  pub passed-here : b ≡ 0 → k ≡ length (read_session s slot).queue
  passed-here z = omega (arith, w.count, ap length (rest-end s slot k (first ∙ z)))

  pub passed-more : k < 4 → (b ≡ 0 → ⊥) → Passed s slot (k + 1)
  passed-more h z = record { count = omega (arith, w.count, ap length (rest-more s slot k h (λ y. z (sym first ∙ y)))) }

-- ---- the oldest message of an operation

-- None of the entries before k is of the operation w.
pub record Unfound (s : List ℕ) (slot w k : ℕ) : Type 0 where
  pub passed : Passed s slot k
  pub same : oldest_from k w (rest s slot k) ≡ oldest_in w (read_session s slot).queue

pub unfound-none : (s : List ℕ) (slot w : ℕ) → Unfound s slot w 0
unfolding read_session
unfound-none s slot w =
    let e : entry_start slot 0 ≡ slot + queue_place = omega arith in
    record { passed = passed-none s slot; same = ap (λ (i : ℕ). oldest_from 0 w (read_queue s 4 i)) e }

module _ (s : List ℕ) (slot w k : ℕ) {c : ℕ} (d : (c ≡ length (read_session s slot).queue) × (c ≤ 4)) (u : Unfound s slot w k) where
  pub unfound-all : c ≤ k → None ≡ oldest_in w (read_session s slot).queue
  unfolding oldest_from
  unfound-all h = sym (ap (oldest_from k w) (empty (rest s slot k) (omega (arith, d.0, u.passed.count)))) ∙ u.same
    where
      empty : (l : List Queued) → length l ≡ 0 → l ≡ []
      empty [] e = refl
      empty (m ∷ l) e = absurd (omega arith)

  module _ (h : k < c) {at o : ℕ} (e : at ≡ entry_start slot k) (f : o ≡ (read_entry s at).operation) where
    next : rest s slot k ≡ read_entry s (entry_start slot k) ∷ rest s slot (k + 1)
    next = by (eqb (byte_at s (entry_start slot k)) 0) refl
      where
        by : (t : Bool) → eqb (byte_at s (entry_start slot k)) 0 ≡ t → rest s slot k ≡ read_entry s (entry_start slot k) ∷ rest s slot (k + 1)
        by true q =
            absurd (omega (arith, d.0, h, u.passed.count, ap length (rest-end s slot k (eqb-true (byte_at s (entry_start slot k)) 0 q))))
        by false q = rest-more s slot k (omega (arith, d.1, h)) (eqb-false (byte_at s (entry_start slot k)) 0 q)

    is : (t : Bool) → eqb o w ≡ t → oldest_in w (read_session s slot).queue ≡ pick t (Some k) (oldest_from (suc k) w (rest s slot (k + 1)))
    unfolding oldest_from
    is t q =
        let g : (read_entry s (entry_start slot k)).operation ≡ o = ap (λ (i : ℕ). (read_entry s i).operation) (sym e) ∙ sym f in
        sym u.same ∙ (ap (oldest_from k w) next
        ∙ ap (λ (t : Bool). pick t (Some k) (oldest_from (suc k) w (rest s slot (k + 1)))) (ap (λ (i : ℕ). eqb i w) g ∙ q))

    pub unfound-here : o ≡ w → Some k ≡ oldest_in w (read_session s slot).queue
    unfound-here z = sym (is true (eq-eqb o w z))

    pub unfound-more : (o ≡ w → ⊥) → Unfound s slot w (k + 1)
    unfound-more z = record {
      passed = record { count = omega (arith, u.passed.count, ap length next) };
      same = ap (λ (j : ℕ). oldest_from j w (rest s slot (k + 1))) (add-one k) ∙ sym (is false (ne_eqb o w z));
    }
