-- Laws of sessions, slots and the whole state: one for each way out of the functions.
use mathlib.Core.Path.{◌≡◌, refl, sym, ap, ◌∙◌}
use mathlib.Core.List.{List}
use mathlib.Core.Bool.{Bool, true, false, not, ◌&&◌, ◌||◌}
use Prim.Native.Nat.{ℕ, zero, suc, ◌+◌, ◌-◌, ◌≤◌, ◌<◌}
use native.Mathlib.Nat.{add-zero, zero-add}
use native.Mathlib.Omega.{arith}
use lib.ListN.{length}
use lib.Dec.{eqb, leb, ltb}
use borrow.Author.Tests.{eq-eqb, ne_eqb, le-leb, lt-ltb, ltb-true, not-true, not-false}
use Rattle.basics.specs.Choice.{pick}
use Rattle.basics.specs.TestLaws.{and_left}
use Rattle.network_syntax.specs.Rows.{entry}
use Rattle.network_syntax.specs.Syntax.{Optional, none, some, Behaviour, Service}
use Rattle.tree.specs.Encode.{Octets}
use Rattle.network.specs.Layout.{behaviour_count, service_count}
use Rattle.network.specs.Rows.{kind_at, is_branch_kind, is_choice_kind, starter_row, client_row, no_row, starter_fits, client_fits}
use Rattle.network.specs.Form.{WellFormed}
use Rattle.network.specs.Decode.{service_of, rows_from, network_of, behaviour_of, optional_behaviour}
use Rattle.network.proofs.RowLaws.{service-kept}
use Rattle.state.specs.Places.{queue_place, rows_place}
use Rattle.state.specs.Bytes.{read_queue, read_session, read_state}
use Rattle.state.specs.Shape.{service_of_row, behaviour_in, suits, quiet_elsewhere, suits_queue, suits_behaviour, suits_all_keys, decode_state}
use Rattle.state.specs.Form.{slots_stand}
use Rattle.state.proofs.FormLaws.{decode-slots}
use Rattle.state_rows.specs.Marks.{RowsOf}
use Rattle.state_rows.specs.Allowed.{permitted}
use Rattle.state_rows.specs.ProgressLaws.{permitted-suits}
use Rattle.state_shape.specs.Stands.{is_some, stands_for, TopRow, SessionTells, SlotTells, Tells}

-- ---- what a session runs

service-row : (f : ℕ → Service) (n first q : ℕ) → q < n → service_of_row (rows_from f first n) q ≡ some (f (first + q))
unfolding entry rows_from
service-row f zero first q h = absurd (omega arith)
service-row f (suc n) first zero h = rw (add-zero first)
service-row f (suc n) first (suc q) h = let e : suc first + q ≡ first + suc q = omega arith in service-row f n (suc first) q (omega arith) ∙ rw e

pub no-service : (f : ℕ → Service) (n first q : ℕ) → n ≤ q → service_of_row (rows_from f first n) q ≡ none
unfolding entry rows_from
no-service f zero first q h = refl
no-service f (suc n) first zero h = absurd (omega arith)
no-service f (suc n) first (suc q) h = no-service f n (suc first) q (omega arith)

-- A row that fits is there, unless it is none.
there : (v n : ℕ) (t : Bool) → (eqb v no_row || (ltb v n && t)) ≡ true → (v ≡ no_row → ⊥) → v < n
there v n t h e =
    let f : (ltb v n && t) ≡ true = rw (ne_eqb v no_row e) at h in
    ltb-true v n (and_left (ltb v n) t f)

module _ (file : List ℕ) (q n m : ℕ) (e : m ≡ service_count file) where
  pub top-none : m ≤ q → TopRow file q n 65535
  unfolding network_of
  top-none h = record {
    runs = rw (no-service (service_of file) (service_count file) 0 q (omega arith)) (by (eqb n 0) (leb n 3));
    exists = λ w f. absurd (f refl);
  }
    where
      nothing : Optional Behaviour
      nothing = none

      by : (s t : Bool) → pick s nothing (pick t nothing nothing) ≡ nothing
      by true t = refl
      by false true = refl
      by false false = refl

  module _ (h : q < m) where
    client-is : n ≡ 0 → behaviour_in (network_of file) q n ≡ optional_behaviour file (client_row file q)
    unfolding network_of service_of
    client-is f = rw (f, service-row (service_of file) (service_count file) 0 q (omega arith), zero-add q)

    starter-is : (n ≡ 0 → ⊥) → n ≤ 3 → behaviour_in (network_of file) q n ≡ optional_behaviour file (starter_row file q)
    unfolding network_of service_of
    starter-is f g = rw (ne_eqb n 0 f, le-leb n 3 g, service-row (service_of file) (service_count file) 0 q (omega arith), zero-add q)

    pub top-client : (r : ℕ) → n ≡ 0 → r ≡ client_row file q → TopRow file q n r
    unfolding client_fits
    top-client r f g = record {
      runs = client-is f ∙ rw g;
      exists = λ w i. there r (behaviour_count file) (not (is_branch_kind (kind_at file r))) (rw g (service-kept file w q (omega arith)).clients) i;
    }

    pub top-starter : (r : ℕ) → (n ≡ 0 → ⊥) → n ≤ 3 → r ≡ starter_row file q → TopRow file q n r
    unfolding starter_fits
    top-starter r f i g = record {
      runs = starter-is f i ∙ rw g;
      exists = λ w j. there r (behaviour_count file) (is_choice_kind (kind_at file r)) (rw g (service-kept file w q (omega arith)).starters) j;
    }

pub ruleset top_laws = (top-none, top-client, top-starter)

-- ---- a session

module _ (file s : List ℕ) (q n at v r : ℕ) (t : TopRow file v n r) (e : v ≡ q) where
  runs : behaviour_in (network_of file) q n ≡ optional_behaviour file r
  runs = ap (λ (z : ℕ). behaviour_in (network_of file) z n) (sym e) ∙ t.runs

  pub session-none : r ≡ 65535 → SessionTells file s q n at false
  session-none f = record { tells = λ w. rw (runs, f) }

  module _ (f : r ≡ 65535 → ⊥) (y : Bool) (g : y ≡ suits_queue (network_of file) (behaviour_count file) q (read_queue s 4 (at + queue_place))) where
    session-is : suits_behaviour (network_of file) (behaviour_count file) q (read_session s at) (behaviour_in (network_of file) q n)
        ≡ (y && (suits (network_of file) (behaviour_count file) (read_session s at).progress (behaviour_of file r)
        && quiet_elsewhere 256 (read_session s at).progress (behaviour_of file r)))
    unfolding read_session
    session-is = rw (runs, ne_eqb r 65535 f, g)

    pub session-queue : not y ≡ true → SessionTells file s q n at false
    session-queue h = record { tells = λ w. sym (session-is ∙ rw (not-true y h)) }

    pub session-rows : (marks : List ℕ) (x : Bool) → not y ≡ false → RowsOf file r marks → x ≡ permitted file marks s (at + rows_place) 256
        → SessionTells file s q n at x
    unfolding read_session
    session-rows marks x h m i = record {
      tells = λ w. i
          ∙ (permitted-suits file marks s (at + rows_place) w r (t.exists w f) m (read_session s at).progress (λ j k. rw (lt-ltb j 256 k))
          ∙ sym (session-is ∙ rw (not-false y h)));
    }

pub ruleset session-laws = (session-none, session-queue, session-rows)

-- ---- the whole

-- The slots k and later stand.
pub record Upward (file s : List ℕ) (k : ℕ) : Type 0 where
  pub few : k ≤ 16
  pub same : WellFormed file → slots_stand (network_of file) (behaviour_count file) s 16 ≡ slots_stand (network_of file) (behaviour_count file) s k

pub upward-none : (file s : List ℕ) → Upward file s 16
upward-none file s = record { few = omega arith; same = λ w. refl }

module _ (file s : List ℕ) (k : ℕ) (c : Upward file s k) where
  slot-more : WellFormed file → (x : Bool) → 0 < k → SlotTells file s (k - 1) x
      → slots_stand (network_of file) (behaviour_count file) s 16 ≡ (x && slots_stand (network_of file) (behaviour_count file) s (k - 1))
  unfolding slots_stand
  slot-more w x h t =
      let d : k ≡ suc (k - 1) = omega arith in
      c.same w ∙ (ap (slots_stand (network_of file) (behaviour_count file) s) d ∙ rw (sym (t.tells w)))

  pub upward-next : (x : Bool) → 0 < k → SlotTells file s (k - 1) x → not x ≡ false → Upward file s (k - 1)
  upward-next x h t f = record { few = omega (arith, c.few); same = λ w. slot-more w x h t ∙ rw (not-false x f) }

module _ (file s : List ℕ) (o : Octets s) where
  told : (x : Bool)
      → (WellFormed file
      → ((eqb (length s) 65536 && slots_stand (network_of file) (behaviour_count file) s 16) && suits_all_keys (network_of file) (read_state s) 4) ≡ x)
      → Tells file s x
  unfolding stands_for
  told x e = record { tells = λ w. by x ∙ ap is_some (sym (decoded w)); decodes = decoded }
    where
      decoded : WellFormed file → decode_state (network_of file) (behaviour_count file) s ≡ pick x (some (read_state s)) none
      decoded w = decode-slots (network_of file) (behaviour_count file) s o ∙ rw (e w)

      by : (t : Bool) → t ≡ is_some (pick t (some (read_state s)) none)
      by true = refl
      by false = refl

  pub stands-length : (length s ≡ 65536 → ⊥) → Tells file s false
  stands-length h = told false (λ w. rw (ne_eqb (length s) 65536 h))

  module _ (k : ℕ) (h : length s ≡ 65536) (c : Upward file s k) where
    pub stands-not : (x : Bool) → 0 < k → SlotTells file s (k - 1) x → not x ≡ true → Tells file s false
    stands-not x i t f = told false (λ w. rw (eq-eqb (length s) 65536 h, slot-more file s k c w x i t, not-true x f))

    pub stands-keys : (x : Bool) → k ≤ 0 → x ≡ suits_all_keys (network_of file) (read_state s) 4 → Tells file s x
    unfolding slots_stand
    stands-keys x i e =
        let z : k ≡ 0 = omega arith in
        told x (λ w. rw (eq-eqb (length s) 65536 h, c.same w ∙ ap (slots_stand (network_of file) (behaviour_count file) s) z) (sym e))

pub ruleset stand-laws = (stands-length, stands-not, stands-keys)

pub ruleset stand-again-laws = (upward-next)
