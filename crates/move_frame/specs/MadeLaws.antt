-- Laws of moves in code: refused, and made in one session; the session that runs, and the target of a message.
use Rattle.std.specs.Prelude.{◌≡◌, List, [], ℕ, ◌+◌, ◌<◌, ◌≤◌}
use Rattle.std.proofs.Common.{sym, ap, subst, ◌∙◌}
use Rattle.refusal.specs.declared.Refusal.{Refusal}
use Rattle.refusal.specs.declared.Outcome.{Outcome}
use Rattle.refusal.specs.Refusal.{done_with, refused_by}
use Rattle.wire.specs.Wire.{with_part}
use Rattle.network_syntax.specs.Syntax.{Network, Behaviour, Optional}
use Rattle.network.specs.Form.{WellFormed}
use Rattle.network.specs.Decode.{behaviour_of, network_of, operation_of}
use Rattle.state.specs.Places.{slot_size, slot_start}
use Rattle.state.specs.Session.{Session, Slot, State, set_slot}
use Rattle.state.specs.Bytes.{slot_bytes, state_bytes, read_state}
use Rattle.state.specs.Shape.{MadeSlot}
use Rattle.state.proofs.ReadLaws.{read-state}
use Rattle.move_rules.specs.Moves.{Result, refused, moved, on_live, on_behaviour, in_session}
use Rattle.move_rules.specs.Step.{Step, finish}
use Rattle.move_rules.specs.Targets as definition
use Rattle.state_slots.specs.SlotLaws.{stands_set}
use Rattle.move_targets.specs.declared.Target.{Target}
use Rattle.move_targets.specs.Answers.{target_as, Targets}
use Rattle.move_frame.specs.Made.{StateOf, Made, InSession, MadeOut, Runs, RunsAt}
use Rattle.std.specs.Prelude.{Option, Some}

-- A refused move leaves the bytes as they were.
pub made-refused : (file : List ℕ) (f : Network → State → Result) {s : List ℕ} {o : Outcome} {why : Refusal} → o ≡ refused_by why
    → (WellFormed file → (G : State) → StateOf file s G → f (network_of file) G ≡ refused why) → Made file f s s o
made-refused file f {s} {o} {why} e h = record {
  tells = λ w G st out. ap (λ (y : Outcome). record { outcome = y; state = s; out = out }) e ∙ ap (finish s out) (sym (h w G st));
}

-- A refusal, and a refused move that might have written out.
pub refused-step : {s out : List ℕ} {a : Outcome} {why : Refusal} {x : Result} → a ≡ refused_by why → x ≡ refused why
    → ◌≡◌ {A = Step} (record { outcome = a; state = s; out = out }) (finish s out x)
refused-step {s} {out} f e = ap (λ (y : Outcome). record { outcome = y; state = s; out = out }) f ∙ ap (finish s out) (sym e)

pub made-out-refused : (file : List ℕ) (f : Network → State → Result) {s out : List ℕ} {o : Outcome} {why : Refusal} → o ≡ refused_by why
    → (WellFormed file → (G : State) → StateOf file s G → f (network_of file) G ≡ refused why) → MadeOut file f s s out out o
made-out-refused file f e h = record { tells = λ w G st l. refused-step e (h w G st) }

-- A move within one slot.
pub made-slot : (file : List ℕ) (f : Network → State → Result) {s s' : List ℕ} {o : Outcome} (q n at : ℕ) (x : Slot) → o ≡ done_with 0
    → s' ≡ with_part s at (slot_bytes x)
    → (WellFormed file → (G : State) → StateOf file s G
    → (q < 4) × (n < 4) × (at ≡ slot_start q n) × MadeSlot x × (f (network_of file) G ≡ moved (set_slot G q n x) []))
    → Made file f s s' o
made-slot file f {s} {s'} {o} q n at x e b h = record {
  tells = λ w G st out.
      let k = h w G st in
      let t : s' ≡ state_bytes (set_slot G q n x) = b ∙ (ap (λ (j : ℕ). with_part s j (slot_bytes x)) k.2 ∙ stands_set st q n x k.0 k.1 k.3) in
      ap (λ (y : Outcome). record { outcome = y; state = s'; out = out }) e
      ∙ (ap (λ (y : List ℕ). record { outcome = done_with 0; state = y; out = out }) t ∙ ap (finish s out) (sym k.4));
}

-- What a move does in a session that is live.
pub in-session : {file s : List ℕ} {G : State} {q n at b : ℕ} (h : InSession file s G q n at b) (f : Behaviour → Session → Result)
    → in_session (network_of file) G q n f ≡ f (behaviour_of file b) h.session
in-session {file} {s} {G} {q} {n} {at} {b} h f =
    ap (λ (x : Optional Behaviour). on_behaviour x (λ B. on_live (G q n) (λ S. f B S))) h.runs
    ∙ ap (λ (x : Slot). on_live x (λ S. f (behaviour_of file b) S)) h.is_live

-- A session that runs, and its slot.
pub running : {file s : List ℕ} {q n slot b : ℕ} {x : Option (ℕ × ℕ)} → RunsAt file s q n x → x ≡ Some (slot, b) → WellFormed file → (G : State)
    → StateOf file s G → InSession file s G q n slot b
running {file} {s} {q} {n} h e w G st = subst (Runs file s G q n) e (h.tells w G st)

pub slot-inside : {file s : List ℕ} {q n slot b : ℕ} {x : Option (ℕ × ℕ)} → RunsAt file s q n x → x ≡ Some (slot, b) → slot + slot_size ≤ 65536
slot-inside {slot = slot} {b = b} h e = h.inside slot b e

-- The target in the state that the bytes stand for.
pub target_is : {file s : List ℕ} {i n : ℕ} {t : Target} {G : State} → Targets file s i n t → WellFormed file → StateOf file s G
    → target_as file t ≡ definition.target (network_of file) G (operation_of file i) n
target_is {file} {s} {i} {n} {t} {G} h w st =
    h.tells w ∙ ap (λ (X : State). definition.target (network_of file) X (operation_of file i) n) (ap read_state st.bytes ∙ read-state st.shape)
