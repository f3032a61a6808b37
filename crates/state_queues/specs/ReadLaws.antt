-- The oldest message of an operation: what is found in the bytes is what a receive takes. Each law has the premises that a caller's code leaves.
use Rattle.std.specs.Prelude.{◌≡◌, refl, List, [], ◌∷◌, Bool, true, false, ℕ, zero, suc, ◌+◌, ◌*◌, ◌≤◌, ◌<◌, eqb, length}
use Rattle.std.proofs.Math.Path.{sym}
use Rattle.std.proofs.Common.{ap, ◌∙◌, add-zero, arith}
use Rattle.basics.specs.Choice.{pick}
use Rattle.wire.specs.Wire.{byte_at, part}
use Rattle.tree.specs.Decode.{decode_message}
use Rattle.state.specs.Places.{entry_size, queue_place, entry_start}
use Rattle.state.specs.Session.{Queued}
use Rattle.state.specs.Bytes.{tree_or, read_entry, read_queue, read_session}
use Rattle.state.specs.Queue.{nothing, message, keeping, oldest}
use Rattle.state_queues.specs.Queue.{message_span, oldest_from, oldest_in, taken_at, taken_of, without}
use Rattle.std.specs.Prelude.{Option, Some, None}

-- ---- the oldest by its index is the oldest that is taken

-- An index counted from k.
further : ℕ → Option ℕ → Option ℕ
further k None = None
further k (Some i) = Some (k + i)

further-more : (k : ℕ) (r : Option ℕ) → further k (further 1 r) ≡ further (suc k) r
unfolding further
further-more k None = refl
further-more k (Some i) = let e : k + (1 + i) ≡ suc k + i = omega arith in ap Some e

from_zero : (k w : ℕ) (l : List Queued) → oldest_from k w l ≡ further k (oldest_from 0 w l)
unfolding oldest_from further
from_zero k w [] = refl
from_zero k w (m ∷ l) = by (eqb m.operation w) (from_zero (suc k) w l) (from_zero 1 w l)
  where
    by : (t : Bool) → oldest_from (suc k) w l ≡ further (suc k) (oldest_from 0 w l) → oldest_from 1 w l ≡ further 1 (oldest_from 0 w l)
        → pick t (Some k) (oldest_from (suc k) w l) ≡ further k (pick t (Some 0) (oldest_from 1 w l))
    by true a b = ap Some (sym (add-zero k))
    by false a b = a ∙ (sym (further-more k (oldest_from 0 w l)) ∙ ap (further k) (sym b))

taken-later : (m : Queued) (l : List Queued) (r : Option ℕ) → taken_of (further 1 r) (m ∷ l) ≡ keeping m (taken_of r l)
unfolding further taken_at
taken-later m l None = refl
taken-later m l (Some i) = let e : 1 + i ≡ suc i = omega arith in ap (λ (j : ℕ). taken_at j (m ∷ l)) e

pub oldest-taken : (w : ℕ) (l : List Queued) → taken_of (oldest_in w l) l ≡ oldest w l
unfolding oldest_from oldest taken_at
oldest-taken w [] = refl
oldest-taken w (m ∷ l) = by (eqb m.operation w) (oldest-taken w l)
  where
    by : (t : Bool) → taken_of (oldest_in w l) l ≡ oldest w l
        → taken_of (pick t (Some 0) (oldest_from 1 w l)) (m ∷ l) ≡ pick t (message m l) (keeping m (oldest w l))
    by true a = refl
    by false a = ap (λ (r : Option ℕ). taken_of r (m ∷ l)) (from_zero 1 w l) ∙ (taken-later m l (oldest_from 0 w l) ∙ ap (keeping m) a)

-- ---- its index is below the queue's length

oldest-within : (k w : ℕ) (l : List Queued) (i : ℕ) → oldest_from k w l ≡ Some i → i < k + length l
unfolding oldest_from
oldest-within k w [] i e = absurd (let z : ◌≡◌ {A = ℕ} 0 1 = cc in omega arith)
oldest-within k w (m ∷ l) i e = by (eqb m.operation w) (oldest-within (suc k) w l i) e
  where
    by : (t : Bool) → (oldest_from (suc k) w l ≡ Some i → i < suc k + length l) → pick t (Some k) (oldest_from (suc k) w l) ≡ Some i
        → i < k + suc (length l)
    by true a e = let z : k ≡ i = cc in omega arith
    by false a e = omega (arith, a e)

queue-bound : (s : List ℕ) (n at : ℕ) → length (read_queue s n at) ≤ n
unfolding read_queue
queue-bound s zero at = omega arith
queue-bound s (suc n) at = by (eqb (byte_at s at) 0) (queue-bound s n (at + entry_size))
  where
    by : (t : Bool) → length (read_queue s n (at + entry_size)) ≤ n → length (pick t [] (read_entry s at ∷ read_queue s n (at + entry_size))) ≤ suc n
    by true a = omega arith
    by false a = omega (arith, a)

-- "a queue of up to four messages": so much is read from any bytes.
pub queue-four : (s : List ℕ) (slot : ℕ) → length (read_session s slot).queue ≤ 4
unfolding read_session
queue-four s slot = queue-bound s 4 (slot + queue_place)

-- ---- the message at an index is what its entry is read as

taken-entry : (s : List ℕ) (n at k : ℕ) → k < length (read_queue s n at)
    → taken_at k (read_queue s n at) ≡ message (read_entry s (at + entry_size * k)) (without k (read_queue s n at))
unfolding read_queue taken_at without
taken-entry s zero at k h = absurd (omega arith)
taken-entry s (suc n) at k h = by (eqb (byte_at s at) 0) k (taken-entry s n (at + entry_size)) h
  where
    by : (t : Bool) (k : ℕ) → ((k : ℕ) → k < length (read_queue s n (at + entry_size))
        → taken_at k (read_queue s n (at + entry_size)) ≡ message (read_entry s (at + entry_size + entry_size * k)) (without k (read_queue s n (at + entry_size))))
        → k < length (pick t [] (read_entry s at ∷ read_queue s n (at + entry_size)))
        → taken_at k (pick t [] (read_entry s at ∷ read_queue s n (at + entry_size)))
        ≡ message (read_entry s (at + entry_size * k)) (without k (pick t [] (read_entry s at ∷ read_queue s n (at + entry_size))))
    by true k a h = absurd (omega arith)
    by false zero a h = ap (λ (i : ℕ). message (read_entry s i) (read_queue s n (at + entry_size))) (sym (add-zero at))
    by false (suc k) a h =
        let e : at + entry_size + entry_size * k ≡ at + entry_size * suc k = omega arith in
        ap (keeping (read_entry s at)) (a k (omega (arith, h)))
        ∙ ap (λ (i : ℕ). message (read_entry s i) (read_entry s at ∷ without k (read_queue s n (at + entry_size)))) e

module _ (s : List ℕ) (slot w : ℕ) {r : Option ℕ} (is : r ≡ oldest_in w (read_session s slot).queue) where
  -- No message of that operation is queued.
  pub oldest-nothing : r ≡ None → oldest w (read_session s slot).queue ≡ nothing
  oldest-nothing e = sym (oldest-taken w (read_session s slot).queue) ∙ ap (λ (x : Option ℕ). taken_of x (read_session s slot).queue) (sym is ∙ e)

  pub oldest-below : (k : ℕ) → r ≡ Some k → k < length (read_session s slot).queue
  oldest-below k e = omega (arith, oldest-within 0 w (read_session s slot).queue k (sym is ∙ e))

  pub oldest-entry : (k : ℕ) → r ≡ Some k → k < 4
  oldest-entry k e = omega (arith, oldest-below k e, queue-four s slot)

  -- The entry k is taken, and the others keep their order.
  pub oldest-message : (k : ℕ) → r ≡ Some k
      → oldest w (read_session s slot).queue ≡ message (read_entry s (entry_start slot k)) (without k (read_session s slot).queue)
  unfolding read_session
  oldest-message k e =
      sym (oldest-taken w (read_session s slot).queue) ∙ (ap (λ (x : Option ℕ). taken_of x (read_session s slot).queue) (sym is ∙ e)
      ∙ taken-entry s 4 (slot + queue_place) k (oldest-below k e))

-- The message of an entry is what stands at its place.
pub span-message : (s : List ℕ) (slot k : ℕ)
    → (read_entry s (entry_start slot k)).message ≡ tree_or (decode_message (part s (message_span s slot k).start (message_span s slot k).len))
unfolding read_entry message_span
span-message s slot k = refl
