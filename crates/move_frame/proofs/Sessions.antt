-- A session's slot and what it runs, at each of the ways out of the code.
use mathlib.Core.Path.{◌≡◌, refl, sym, ap, subst, ◌∙◌}
use mathlib.Core.Bool.{Bool}
use mathlib.Core.Logic.{inl, inr}
use mathlib.Core.List.{List}
use Prim.Native.Nat.{ℕ, ◌+◌, ◌≤◌, ◌<◌}
use native.Mathlib.Omega.{arith}
use lib.Dec.{eqb}
use borrow.Author.Tests.{eq-eqb, ne_eqb}
use Rattle.basics.specs.Choice.{pick}
use Rattle.wire.specs.Wire.{byte_at}
use Rattle.network_syntax.specs.Syntax.{Behaviour, Optional, none, some}
use Rattle.network.specs.Decode.{network_of}
use Rattle.state.specs.Places.{slot_size, slot_start}
use Rattle.state.specs.Session.{Session, Slot, free, live, State}
use Rattle.state.specs.Bytes.{read_session, read_slot}
use Rattle.state.specs.Shape.{behaviour_in}
use Rattle.state.proofs.ReadLaws.{stands_read}
use Rattle.move_rules.specs.Moves.{Result, not_allowed, on_live, on_behaviour, in_session}
use Rattle.move_targets.specs.Answers.{behaviour_run, RowExists, RunsIn}
use Rattle.state_slots.specs.SlotLaws.{stands-living}
use Rattle.move_frame.specs.Made.{StateOf, InSession, RunsAt}
use Rattle.std.specs.Prelude.{Option, Some, None}

-- A free session, and one that runs nothing, allow no move.
free-session : (file : List ℕ) (G : State) (q n : ℕ) → G q n ≡ free → (f : Behaviour → Session → Result) → in_session (network_of file) G q n f ≡ not_allowed
free-session file G q n e f =
    ap (λ (x : Slot). on_behaviour (behaviour_in (network_of file) q n) (λ B. on_live x (λ S. f B S))) e ∙ by (behaviour_in (network_of file) q n)
  where
    by : (x : Optional Behaviour) → on_behaviour x (λ B. not_allowed) ≡ not_allowed
    by none = refl
    by (some B) = refl

nowhere : {at b : ℕ} {A : Type 0} → ◌≡◌ {A = Option (ℕ × ℕ)} None (Some (at, b)) → A
nowhere e = absurd (let z : ◌≡◌ {A = ℕ} 0 1 = cc in omega arith)

module _ (file s : List ℕ) (q n : ℕ) where
  pub far-service : 3 < q → RunsAt file s q n None
  far-service l = record { tells = λ w G st. free-session file G q n (st.shape.elsewhere q n (inl l)); inside = λ at b e. nowhere e }

  pub far-session : 3 < n → RunsAt file s q n None
  far-session l = record { tells = λ w G st. free-session file G q n (st.shape.elsewhere q n (inr l)); inside = λ at b e. nowhere e }

  module _ {x : Option ℕ} (r : RunsIn file q n x) where
    pub runs-nothing : x ≡ None → RunsAt file s q n None
    unfolding behaviour_run
    runs-nothing e = record {
      tells = λ w G st f.
          let b : behaviour_in (network_of file) q n ≡ none = sym r.tells ∙ ap (behaviour_run file) e in
          ap (λ (y : Optional Behaviour). on_behaviour y (λ B. on_live (G q n) (λ S. f B S))) b;
      inside = λ at b e. nowhere e;
    }

    module _ {b : ℕ} (e : x ≡ Some b) {slot y : ℕ} (l : q ≤ 3) (m : n ≤ 3) (place : slot ≡ slot_start q n) (v : y ≡ byte_at s slot) where
      slot_is : (G : State) → StateOf file s G → G q n ≡ pick (eqb (byte_at s (slot_start q n)) 0) free (live (read_session s (slot_start q n)))
      unfolding read_slot
      slot_is G st = sym (stands_read st q n (omega (arith, l)) (omega (arith, m)))

      pub slot-free : y ≡ 0 → RunsAt file s q n None
      slot-free z = record {
        tells = λ w G st.
            free-session file G q n (slot_is G st ∙ ap (λ (t : Bool). pick t free (live (read_session s (slot_start q n))))
            (eq-eqb (byte_at s (slot_start q n)) 0 (ap (byte_at s) (sym place) ∙ (sym v ∙ z))));
        inside = λ at b e. nowhere e;
      }

      pub slot-live : (y ≡ 0 → ⊥) → RunsAt file s q n (Some (slot, b))
      unfolding behaviour_run
      slot-live z = record {
        tells = λ w G st.
            let at = slot_start q n in
            let g : G q n ≡ live (read_session s at) = slot_is G st ∙ ap (λ (t : Bool). pick t free (live (read_session s at)))
            (ne_eqb (byte_at s at) 0 (λ k. z (v ∙ (ap (byte_at s) place ∙ k)))) in
            subst (λ (p : ℕ). InSession file s G q n p b) (sym place) (record {
              session = read_session s at;
              service = omega (arith, l);
              number = omega (arith, m);
              place = refl;
              is_live = g;
              runs = sym r.tells ∙ ap (behaviour_run file) e;
              row = subst (RowExists file) e (r.exists w);
              living = stands-living st q n (read_session s at) (omega (arith, l)) (omega (arith, m)) g;
              reads = refl;
            });
        inside = λ at k h. by at k h;
      }
        where
          by : (at k : ℕ) → ◌≡◌ {A = Option (ℕ × ℕ)} (Some (slot, b)) (Some (at, k)) → at + slot_size ≤ 65536
          by at k h =
              let e : ◌≡◌ {A = ℕ × ℕ} (slot, b) (at, k) = cc in
              omega (arith, ap (λ (z : ℕ × ℕ). z.0) e, place, l, m)

pub ruleset session-laws = (far-service, far-session, runs-nothing, slot-free, slot-live)
