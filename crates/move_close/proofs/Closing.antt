-- Closing a session, at each of the ways out of the code.
use mathlib.Core.Path.{◌≡◌, sym, ap, subst, ◌∙◌}
use mathlib.Core.Bool.{Bool, true, false, not}
use mathlib.Core.List.{List, []}
use Prim.Native.Nat.{ℕ}
use Rattle.basics.specs.TestLaws.{not-false, not-true}
use Rattle.refusal.specs.declared.Outcome.{Outcome}
use Rattle.refusal.specs.declared.Refusal.TheVariants.{MoveNotAllowed}
use Rattle.refusal.specs.Refusal.{done_with, refused_by}
use Rattle.network.specs.Form.{WellFormed}
use Rattle.network.specs.Decode.{behaviour_of, network_of}
use Rattle.state.specs.Session.{Session, free, State, set_slot}
use Rattle.state.specs.Bytes.{read_session}
use Rattle.move_rules.specs.Readiness.{is_done}
use Rattle.move_rules.specs.Moves.{Result, moved, require, close_move}
use Rattle.move_frame.specs.Made.{StateOf, Made, InSession, Runs, RunsAt}
use Rattle.move_frame.specs.MadeLaws.{made-refused, made-slot, in-session}
use Rattle.state_slots.specs.Slots.{freed}
use Rattle.state_slots.specs.SlotLaws.{free-set}
use Rattle.std.specs.Prelude.{Option, Some, None}

-- What closing does, once it is known whether the session is done.
abbrev closes : State → ℕ → ℕ → Bool → Result
closes G q n t = require t MoveNotAllowed (moved (set_slot G q n free) [])

module _ (file s : List ℕ) (q n : ℕ) {x : Option (ℕ × ℕ)} (runs : RunsAt file s q n x) where
  pub close-nothing : {o : Outcome} → x ≡ None → o ≡ refused_by MoveNotAllowed → Made file (λ N G. close_move N G q n) s s o
  close-nothing e f =
      made-refused file (λ N G. close_move N G q n) f
      (λ w G st. subst (Runs file s G q n) e (runs.tells w G st) (λ B S. closes G q n (is_done S.progress B)))

  module _ (at b : ℕ) (e : x ≡ Some (at, b)) {d : Bool} (is : d ≡ is_done (read_session s at).progress (behaviour_of file b)) where
    closing : (w : WellFormed file) (G : State) (st : StateOf file s G) → close_move (network_of file) G q n ≡ closes G q n d
    closing w G st =
        let h : InSession file s G q n at b = subst (Runs file s G q n) e (runs.tells w G st) in
        in-session h (λ B S. closes G q n (is_done S.progress B))
        ∙ (ap (λ (S : Session). closes G q n (is_done S.progress (behaviour_of file b))) (sym h.reads) ∙ ap (closes G q n) (sym is))

    pub close-undone : {o : Outcome} → not d ≡ true → o ≡ refused_by MoveNotAllowed → Made file (λ N G. close_move N G q n) s s o
    close-undone z f = made-refused file (λ N G. close_move N G q n) f (λ w G st. closing w G st ∙ ap (closes G q n) (not-true d z))

    pub close-done : {s' : List ℕ} {o : Outcome} → not d ≡ false → s' ≡ freed s at → o ≡ done_with 0
        → Made file (λ N G. close_move N G q n) s s' o
    close-done z t f =
        made-slot file (λ N G. close_move N G q n) q n at free f (t ∙ free-set s at)
        (λ w G st.
        let h : InSession file s G q n at b = subst (Runs file s G q n) e (runs.tells w G st) in
        (h.service, h.number, h.place, tt, closing w G st ∙ ap (closes G q n) (not-false d z)))
