-- Laws of queued messages that suit their service: one for each way out of the functions.
use mathlib.Core.Path.{◌≡◌, refl, sym, ap, ◌∙◌}
use mathlib.Core.List.{List, [], ◌∷◌}
use mathlib.Core.Bool.{Bool, true, false, not, ◌&&◌}
use Prim.Native.Nat.{ℕ, zero, suc, ◌+◌, ◌-◌, ◌*◌, ◌≤◌, ◌<◌}
use native.Mathlib.Nat.{add-zero, zero-add}
use native.Mathlib.Omega.{arith}
use lib.Dec.{eqb}
use borrow.Author.Tests.{ne_eqb, not-true, not-false}
use Rattle.basics.specs.Choice.{pick}
use Rattle.network_syntax.specs.Syntax.{none, some, input, output, Operation}
use Rattle.wire.specs.Wire.{byte_at}
use Rattle.network.specs.Layout.{behaviour_count, operation_count}
use Rattle.network.specs.Rows.{operation_service, operation_direction, operation_two_way}
use Rattle.network.specs.Decode.{operation_of, rows_from, network_of}
use Rattle.state.specs.Places.{entry_size}
use Rattle.state.specs.Bytes.{read_reply, read_entry, read_queue}
use Rattle.state.specs.Shape.{operation_of_row, suits_reply, suits_queue}
use Rattle.network_syntax.specs.Rows.{is_input_operation, entry}
use Rattle.state_shape.specs.Stands.{suits_entry}

-- ---- an entry

operation-row : (f : ℕ → Operation) (n first w : ℕ) → w < n → operation_of_row (rows_from f first n) w ≡ some (f (first + w))
unfolding entry rows_from
operation-row f zero first w h = absurd (omega arith)
operation-row f (suc n) first zero h = rw (add-zero first)
operation-row f (suc n) first (suc w) h = let e : suc first + w ≡ first + suc w = omega arith in operation-row f n (suc first) w (omega arith) ∙ rw e

no-operation : (f : ℕ → Operation) (n first w : ℕ) → n ≤ w → operation_of_row (rows_from f first n) w ≡ none
unfolding entry rows_from
no-operation f zero first w h = refl
no-operation f (suc n) first zero h = absurd (omega arith)
no-operation f (suc n) first (suc w) h = no-operation f n (suc first) w (omega arith)

module _ (file s : List ℕ) (q w at : ℕ) where
  pub entry-none : operation_count file ≤ w → suits_entry file s q w at ≡ false
  unfolding suits_entry network_of
  entry-none h = rw (no-operation (operation_of file) (operation_count file) 0 w (omega arith))

  pub entry-is : w < operation_count file → suits_entry file s q w at
      ≡ (eqb (operation_service file w) q && (eqb (operation_direction file w) 0
      && suits_reply (network_of file) (behaviour_count file) (eqb (operation_two_way file w) 1) (read_reply s (byte_at s (at + 1)) (at + 4))))
  unfolding suits_entry network_of operation_of
  entry-is h =
      rw (operation-row (operation_of file) (operation_count file) 0 w (omega arith), zero-add w) (by (eqb (operation_direction file w) 0))
    where
      by : (t : Bool) → (eqb (operation_service file w) q
          && (is_input_operation (pick t input output)
          && suits_reply (network_of file) (behaviour_count file) (eqb (operation_two_way file w) 1) (read_reply s (byte_at s (at + 1)) (at + 4))))
          ≡ (eqb (operation_service file w) q
          && (t && suits_reply (network_of file) (behaviour_count file) (eqb (operation_two_way file w) 1) (read_reply s (byte_at s (at + 1)) (at + 4))))
      by true = refl
      by false = refl

pub ruleset entry_laws = (entry-none, entry-is)

-- ---- the queue

-- The first k entries are used and suit the service.
pub record QueueLeft (file s : List ℕ) (q at n k : ℕ) : Type 0 where
  pub bound : k ≤ n
  pub same : suits_queue (network_of file) (behaviour_count file) q (read_queue s n at)
      ≡ suits_queue (network_of file) (behaviour_count file) q (read_queue s (n - k) (at + entry_size * k))

pub queue-all : (file s : List ℕ) (q at n : ℕ) → QueueLeft file s q at n 0
queue-all file s q at n =
    let e : at ≡ at + entry_size * 0 = omega arith in
    let d : n ≡ n - 0 = omega arith in
    record {
      bound = omega arith;
      same = ap (λ (k : ℕ). suits_queue (network_of file) (behaviour_count file) q (read_queue s k at)) d
          ∙ ap (λ (k : ℕ). suits_queue (network_of file) (behaviour_count file) q (read_queue s (n - 0) k)) e;
    }

module _ (file s : List ℕ) (q at n k : ℕ) (c : QueueLeft file s q at n k) where
  abbrev suited : ℕ → ℕ → Bool
  suited n at = suits_queue (network_of file) (behaviour_count file) q (read_queue s n at)

  abbrev place : ℕ
  place = at + entry_size * k

  queue-more : k < n → suited n at ≡ pick (eqb (byte_at s place) 0) true
      (suits_entry file s q (byte_at s place - 1) place && suited (n - (k + 1)) (at + entry_size * (k + 1)))
  unfolding read_queue read_entry suits_queue suits_entry
  queue-more h =
      let d : n - k ≡ suc (n - (k + 1)) = omega arith in
      let e : place + entry_size ≡ at + entry_size * (k + 1) = omega arith in
      c.same ∙ (ap (λ (m : ℕ). suited m place) d ∙ (by (eqb (byte_at s place) 0)
      ∙ ap (λ (m : ℕ). pick (eqb (byte_at s place) 0) true (suits_entry file s q (byte_at s place - 1) place && suited (n - (k + 1)) m)) e))
    where
      by : (t : Bool) → suits_queue (network_of file) (behaviour_count file) q (pick t [] (read_entry s place ∷ read_queue s (n - (k + 1)) (place + entry_size)))
          ≡ pick t true (suits_entry file s q (byte_at s place - 1) place && suited (n - (k + 1)) (place + entry_size))
      by true = refl
      by false = refl

  module _ (b : ℕ) (h : k < n) (e : b ≡ byte_at s place) where
    pub queue-unused : b ≡ 0 → true ≡ suits_queue (network_of file) (behaviour_count file) q (read_queue s n at)
    queue-unused f = sym (queue-more h ∙ rw (sym e ∙ f))

    module _ (f : b ≡ 0 → ⊥) (v : ℕ) (x : Bool) (g : v ≡ b) (i : x ≡ suits_entry file s q (v - 1) place) where
      queue-entry : suited n at ≡ (x && suited (n - (k + 1)) (at + entry_size * (k + 1)))
      queue-entry = queue-more h ∙ rw (sym e, ne_eqb b 0 f, sym g, sym i)

      pub queue-next : not x ≡ false → QueueLeft file s q at n (k + 1)
      queue-next j = record { bound = omega arith; same = queue-entry ∙ rw (not-false x j) }

      pub queue-not : not x ≡ true → false ≡ suits_queue (network_of file) (behaviour_count file) q (read_queue s n at)
      queue-not j = sym (queue-entry ∙ rw (not-true x j))

  pub queue-full : n ≤ k → true ≡ suits_queue (network_of file) (behaviour_count file) q (read_queue s n at)
  unfolding read_queue suits_queue
  queue-full h = let z : n - k ≡ 0 = omega arith in sym (c.same ∙ ap (λ (m : ℕ). suited m place) z)

pub ruleset queue-laws = (queue-unused, queue-not, queue-full)

pub ruleset queue-again-laws = (queue-next)
