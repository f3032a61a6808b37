-- Laws of the stepper, one for each way out: refused by 1, 2 to 5 or 14, or as the move's code says.
use Rattle.std.specs.Prelude.{◌≡◌, Bool, true, false, ◌&&◌, List, ℕ, ◌≤◌, ◌<◌, length, leb}
use Rattle.std.proofs.Common.{sym, ◌∙◌, eq-eqb, ne_eqb, le-leb}
use Rattle.std.proofs.Math.Path.{ap}
use Rattle.std.proofs.lemmas.Bool.{lt-leb}
use Rattle.refusal.specs.declared.Refusal.{Refusal}
use Rattle.refusal.specs.declared.Refusal.TheVariants.{BufferSize, NoState}
use Rattle.refusal.specs.declared.Outcome.{Outcome}
use Rattle.refusal.specs.Refusal.{refused_by}
use Rattle.basics.specs.Choice.{pick}
use Rattle.network_syntax.specs.Syntax.{Optional, none, some}
use Rattle.tree.specs.Encode.{Octets}
use Rattle.network.specs.Form.{form_of, WellFormed}
use Rattle.network.specs.Layout.{behaviour_count}
use Rattle.network.specs.Decode.{network_of}
use Rattle.state.specs.Places.{state_size, out_room}
use Rattle.state.specs.Session.{State}
use Rattle.state.specs.Bytes.{read_state}
use Rattle.state.specs.Shape.{decode_state}
use Rattle.state.proofs.ShapeLaws.{decode-state-sound}
use Rattle.move_rules.specs.Moves.{Move, move}
use Rattle.move_rules.specs.Step.{Step, refuse, finish, on_form, on_state, buffers_fit, step}
use Rattle.move_frame.specs.Made.{StateOf, Made, MadeOut}
use Rattle.move_frame.specs.Stepped.{Stepped}
use Rattle.std.specs.Prelude.{Result, Err}

module _ (file s out : List ℕ) (m : Move) (outside : List ℕ) where
  stepped : {o : Outcome} {s' out' : List ℕ} → step file s out m outside ≡ record { outcome = o; state = s'; out = out' }
      → Stepped file s out m outside o s' out'
  stepped e = (sym (ap (λ (x : Step). x.outcome) e), sym (ap (λ (x : Step). x.state) e), sym (ap (λ (x : Step). x.out) e))

  inner : Step
  inner =
      on_form (form_of file) s out
      (on_state (decode_state (network_of file) (behaviour_count file) s) s out (λ G. finish s out (move (network_of file) G m outside)))

  unfit : (b : Bool) → buffers_fit s out ≡ b → step file s out m outside ≡ pick b inner (refuse BufferSize s out)
  unfolding step inner
  unfit b e = ap (λ (x : Bool). pick x inner (refuse BufferSize s out)) e

  refused_as : {o : Outcome} {why : Refusal} → o ≡ refused_by why → refuse why s out ≡ record { outcome = o; state = s; out = out }
  refused_as e = ap (λ (x : Outcome). record { outcome = x; state = s; out = out }) (sym e)

  -- 1
  pub step-state-size : {o : Outcome} → (length s ≡ state_size → ⊥) → o ≡ refused_by BufferSize → Stepped file s out m outside o s out
  step-state-size d e = stepped (unfit false (ap (λ (x : Bool). x && leb out_room (length out)) (ne_eqb (length s) state_size d)) ∙ refused_as e)

  module _ (l : length s ≡ state_size) where
    pub step-out-size : {o : Outcome} → length out < out_room → o ≡ refused_by BufferSize → Stepped file s out m outside o s out
    step-out-size k e =
        stepped (unfit false (ap (λ (x : Bool). x && leb out_room (length out)) (eq-eqb (length s) state_size l) ∙ lt-leb out_room (length out) k) ∙ refused_as e)

    module _ (k : out_room ≤ length out) where
      fitting : step file s out m outside ≡ inner
      fitting = unfit true (ap (λ (x : Bool). x && leb out_room (length out)) (eq-eqb (length s) state_size l) ∙ le-leb out_room (length out) k)

      -- 2 to 5
      pub step-form : {o : Outcome} {v : Result (Unit {0}) Refusal} {why : Refusal} → v ≡ form_of file → v ≡ Err why → o ≡ record { bytes = 0; verdict = v }
          → Stepped file s out m outside o s out
      unfolding inner
      step-form {o} {v} {why} f r e =
          stepped (fitting
          ∙ (ap (λ (x : Result (Unit {0}) Refusal). on_form x s out (on_state (decode_state (network_of file) (behaviour_count file) s) s out
          (λ G. finish s out (move (network_of file) G m outside)))) (sym f ∙ r)
          ∙ refused_as (e ∙ ap (λ (x : Result (Unit {0}) Refusal). record { bytes = 0; verdict = x }) r)))

      module _ (w : WellFormed file) where
        decoded : (x : Optional State) → decode_state (network_of file) (behaviour_count file) s ≡ x
            → step file s out m outside ≡ on_state x s out (λ G. finish s out (move (network_of file) G m outside))
        unfolding inner
        decoded x e =
            fitting
            ∙ (ap (λ (v : Result (Unit {0}) Refusal). on_form v s out (on_state (decode_state (network_of file) (behaviour_count file) s) s out
            (λ G. finish s out (move (network_of file) G m outside)))) w
            ∙ ap (λ (y : Optional State). on_state y s out (λ G. finish s out (move (network_of file) G m outside))) e)

        -- 14
        pub step-no-state : {o : Outcome} → decode_state (network_of file) (behaviour_count file) s ≡ none → o ≡ refused_by NoState
            → Stepped file s out m outside o s out
        step-no-state e h = stepped (decoded none e ∙ refused_as h)

        module _ (b : Octets s) (e : decode_state (network_of file) (behaviour_count file) s ≡ some (read_state s)) where
          stands : StateOf file s (read_state s)
          stands = decode-state-sound b e

          pub step-made : {o : Outcome} {s' : List ℕ} → Made file (λ N G. move N G m outside) s s' o → Stepped file s out m outside o s' out
          step-made h = stepped (decoded (some (read_state s)) e ∙ sym (h.tells w (read_state s) stands out))

          pub step-made-out : {o : Outcome} {s' out' : List ℕ} → MadeOut file (λ N G. move N G m outside) s s' out out' o
              → Stepped file s out m outside o s' out'
          step-made-out h = stepped (decoded (some (read_state s)) e ∙ sym (h.tells w (read_state s) stands k))
