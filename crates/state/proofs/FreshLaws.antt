-- The bytes of a new session, and so of fresh state: all zeros but three, the live flag, the length of its tree and the root's basic type.
use Rattle.std.specs.Prelude.{◌≡◌, refl, Bool, true, false, List, [], ◌∷◌, ◌++◌, ℕ, zero, suc, ◌+◌, ◌*◌, ◌/◌, ◌%◌, ◌≤◌, ◌<◌, length, set, take, drop, replicate, eqb, ltb}
use Rattle.std.proofs.Common.{sym, ap, ◌∙◌, zero-add, mul-zero, mul-suc, arith, length-set, take-append-drop, length-take-le, drop-drop, eq-eqb, ne_eqb, lt-ltb, le-ltb}
use Rattle.std.proofs.Math.Path.{fun_ext}
use Rattle.std.proofs.Math.Decide.{dec_lt, ℕ_discrete}
use Rattle.std.proofs.lemmas.List.{set-append_left}
use Rattle.basics.specs.Choice.{pick}
use Rattle.network_syntax.specs.Syntax.{Optional, none, some, Network, Behaviour}
use Rattle.wire.specs.Wire.{part, with_part}
use Rattle.wire.specs.WireLaws.{length_part}
use Rattle.tree.specs.Encode.{encode, root_count}
use Rattle.state.specs.Places.{slot_size, entry_size, queue_size, rows_size, kept_size, row_size}
use Rattle.state.specs.Session.{undone, free, live, set_slot, new_session}
use Rattle.state.proofs.SizeLaws.{Sized, slot-size}
use Rattle.state.proofs.ShapeLaws.{new-made, no-service}
use Rattle.state.proofs.ChangeLaws.{set_other}
use Rattle.state.proofs.HeadLaws.{head-new}
use Rattle.state.specs.Shape.{service_of_row, client_of, fresh_slot, fresh_state, fresh_up_to}
use Rattle.state.specs.Bytes.{zeros, joined, queue_bytes, progress_bytes, rows_bytes, slot_bytes, state_bytes}

pub replicate-zeros : (n : ℕ) → replicate n 0 ≡ zeros n
unfolding zeros
replicate-zeros zero = refl
replicate-zeros (suc n) = ap (λ (l : List ℕ). 0 ∷ l) (replicate-zeros n)

zeros-join : (n m : ℕ) → zeros n ++ zeros m ≡ zeros (n + m)
unfolding zeros
zeros-join zero m = rw (zero-add m)
zeros-join (suc n) m = let e : suc n + m ≡ suc (n + m) = omega arith in rw e (ap (λ (x : List ℕ). 0 ∷ x) (zeros-join n m))

joined-zeros : (f : ℕ → List ℕ) (w : ℕ) → ((i : ℕ) → f i ≡ zeros w) → (k n : ℕ) → joined f k n ≡ zeros (w * n)
unfolding joined zeros
joined-zeros f w h k zero = rw (mul-zero w)
joined-zeros f w h k (suc n) =
    let e : w * suc n ≡ w + w * n = omega (arith, mul-suc w n) in
    rw (e, h k, joined-zeros f w h (suc k) n) (zeros-join w (w * n))

-- An empty queue.
pub no-queue : (n : ℕ) → queue_bytes n [] ≡ zeros (entry_size * n)
unfolding queue_bytes zeros
no-queue zero = refl
no-queue (suc n) = let e : entry_size * suc n ≡ entry_size + entry_size * n = omega arith in rw (e, no-queue n) (zeros-join entry_size (entry_size * n))

-- No row begun.
pub no-progress : rows_bytes (λ i. undone) ≡ zeros rows_size
unfolding progress_bytes
no-progress = joined-zeros (λ i. progress_bytes undone) row_size (λ i. refl) 0 256

-- The slot of a new session.
pub new-bytes : slot_bytes (live new_session) ≡ 1 ∷ 0 ∷ 5 ∷ 0 ∷ (zeros 12 ++ (0 ∷ 0 ∷ 6 ∷ 0 ∷ 0 ∷ zeros 4075))
unfolding slot_bytes encode root_count
new-bytes = rw (head-new, no-queue 4, no-progress, zeros-join rows_size kept_size, zeros-join queue_size 1680, zeros-join 1019 3056) refl

-- ---- by stores

set_past : (a b : List ℕ) (n k v : ℕ) → length a ≡ n → set (a ++ b) (n + k) v ≡ a ++ set b k v
set_past a b n k v e = rw (← e) (by a)
  where
    by : (a : List ℕ) → set (a ++ b) (length a + k) v ≡ a ++ set b k v
    by [] = rw (zero-add k)
    by (x ∷ a) = let i : suc (length a) + k ≡ suc (length a + k) = omega arith in rw i (ap (λ (y : List ℕ). x ∷ y) (by a))

-- A store in a part is a store in the whole.
pub store-part : (s : List ℕ) (at : ℕ) (l : List ℕ) (k v : ℕ) → at ≤ length s → k < length l → with_part s at (set l k v) ≡ set (with_part s at l) (at + k) v
store-part s at l k v h i =
    let c = drop (at + length l) s in
    rw (length-set l k v) (sym (set_past (take at s) (l ++ c) at k v (length-take-le at s h) ∙ ap (λ (x : List ℕ). take at s ++ x) (set-append_left l c k v i)))

pub part-back : (s : List ℕ) (at n : ℕ) → at + n ≤ length s → with_part s at (part s at n) ≡ s
part-back s at n h =
    rw (length_part s at n h, ← drop-drop n at s, take-append-drop n (drop at s), take-append-drop at s)

twelve-zeros : zeros 12 ≡ 0 ∷ 0 ∷ 0 ∷ 0 ∷ 0 ∷ 0 ∷ 0 ∷ 0 ∷ 0 ∷ 0 ∷ 0 ∷ 0 ∷ []
unfolding zeros
twelve-zeros = refl

front-zeros : (n : ℕ) → zeros (4 + n) ≡ 0 ∷ 0 ∷ 0 ∷ 0 ∷ zeros n
unfolding zeros
front-zeros n = let e : 4 + n ≡ suc (suc (suc (suc n))) = omega arith in rw e refl

next-zeros : (n : ℕ) → zeros (5 + n) ≡ 0 ∷ 0 ∷ 0 ∷ 0 ∷ 0 ∷ zeros n
unfolding zeros
next-zeros n = let e : 5 + n ≡ suc (suc (suc (suc (suc n)))) = omega arith in rw e refl

slot-zeros : zeros slot_size ≡ 0 ∷ 0 ∷ 0 ∷ 0 ∷ (zeros 12 ++ (0 ∷ 0 ∷ 0 ∷ 0 ∷ 0 ∷ zeros 4075))
slot-zeros = front-zeros 4092 ∙ ap (λ (x : List ℕ). 0 ∷ 0 ∷ 0 ∷ 0 ∷ x) (sym (zeros-join 12 4080) ∙ ap (λ (x : List ℕ). zeros 12 ++ x) (next-zeros 4075))

-- Three stores in a free slot make a new session of it.
pub new-stores : slot_bytes (live new_session) ≡ set (set (set (slot_bytes free) 0 1) 2 5) 18 6
unfolding slot_bytes
new-stores = new-bytes ∙ rw (slot-zeros, twelve-zeros) refl

-- A state without a session is all zeros.
pub free_bytes : state_bytes (λ q n. free) ≡ zeros 65536
unfolding state_bytes slot_bytes
free_bytes = joined-zeros (λ k. slot_bytes free) slot_size (λ i. refl) 0 16

-- ---- fresh state, one service after another

pub fresh-none : (N : Network) → fresh_up_to N 0 ≡ (λ q n. free)
fresh-none N = fun_ext (λ q. fun_ext (λ n. rw (le-ltb q 0 (omega arith))))

pub fresh-all : (N : Network) (k : ℕ) → length N.services ≤ k → fresh_up_to N k ≡ fresh_state N
fresh-all N k h = fun_ext (λ q. fun_ext (λ n. by q n (dec_lt q k)))
  where
    none-there : (q n : ℕ) → k ≤ q → (t : Bool) → pick t (fresh_slot (client_of (service_of_row N.services q))) free ≡ free
    none-there q n l true = rw (no-service N.services q (omega arith))
    none-there q n l false = refl

    by : (q n : ℕ) → Dec (q < k) → fresh_up_to N k q n ≡ fresh_state N q n
    by q n (yes l) = rw (lt-ltb q k l)
    by q n (no l) = rw (le-ltb q k (omega arith)) (sym (none-there q n (omega arith) (eqb n 0)))

module _ (N : Network) (k : ℕ) where
  before-next : (q n : ℕ) → (q ≡ k → ⊥) → fresh_up_to N (suc k) q n ≡ fresh_up_to N k q n
  before-next q n d = by (dec_lt q k)
    where
      by : Dec (q < k) → fresh_up_to N (suc k) q n ≡ fresh_up_to N k q n
      by (yes l) = rw (lt-ltb q k l, lt-ltb q (suc k) (omega arith))
      by (no l) = rw (le-ltb q k (omega arith), le-ltb q (suc k) (omega arith))

  -- A service without a client changes nothing,
  pub fresh-idle : client_of (service_of_row N.services k) ≡ none → fresh_up_to N (suc k) ≡ fresh_up_to N k
  fresh-idle e = fun_ext (λ q. fun_ext (λ n. by q n (ℕ_discrete q k)))
    where
      at : (n : ℕ) (t : Bool) → pick t (fresh_slot (client_of (service_of_row N.services k))) free ≡ free
      at n true = rw e
      at n false = refl

      by : (q n : ℕ) → Dec (q ≡ k) → fresh_up_to N (suc k) q n ≡ fresh_up_to N k q n
      by q n (yes f) = rw (f, lt-ltb k (suc k) (omega arith), le-ltb k k (omega arith)) (at n (eqb n 0))
      by q n (no f) = before-next q n f

  -- one with a client starts session 0.
  pub fresh-client : (B : Behaviour) → client_of (service_of_row N.services k) ≡ some B → fresh_up_to N (suc k) ≡ set_slot (fresh_up_to N k) k 0 (live new_session)
  fresh-client B e = fun_ext (λ q. fun_ext (λ n. by q n (ℕ_discrete q k) (ℕ_discrete n 0)))
    where
      by : (q n : ℕ) → Dec (q ≡ k) → Dec (n ≡ 0) → fresh_up_to N (suc k) q n ≡ set_slot (fresh_up_to N k) k 0 (live new_session) q n
      by q n (yes f) (yes g) = rw (f, g, lt-ltb k (suc k) (omega arith), e, eq-eqb k k refl)
      by q n (yes f) (no g) = rw (f, ne_eqb n 0 g, lt-ltb k (suc k) (omega arith), eq-eqb k k refl, le-ltb k k (omega arith))
      by q n (no f) g = before-next q n f ∙ sym (set_other (fresh_up_to N k) k 0 (live new_session) q n (λ u v. f u))

-- Every such state takes 65,536 bytes.
pub fresh-sized : (N : Network) (k : ℕ) → Sized (fresh_up_to N k)
fresh-sized N k = record { each = λ j. by (ltb (j / 4) k) (eqb (j % 4) 0) (client_of (service_of_row N.services (j / 4))) }
  where
    by : (t u : Bool) (b : Optional Behaviour) → length (slot_bytes (pick t (pick u (fresh_slot b) free) free)) ≡ slot_size
    by true true none = slot-size free tt
    by true true (some B) = slot-size (live new_session) new-made
    by true false b = slot-size free tt
    by false u b = slot-size free tt
