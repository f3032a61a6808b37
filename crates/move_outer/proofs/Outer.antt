-- A message from outside, at each of the ways out of the code.
use mathlib.Core.Path.{◌≡◌, sym, ap, subst, ◌∙◌}
use mathlib.Core.Bool.{Bool}
use mathlib.Core.List.{List}
use Prim.Native.Nat.{ℕ, ◌<◌}
use borrow.Author.Tests.{eq-eqb, ne_eqb}
use Rattle.basics.specs.Choice.{pick}
use Rattle.refusal.specs.declared.Refusal.{Refusal}
use Rattle.refusal.specs.declared.Refusal.TheVariants.{MoveNotAllowed, NoMessage}
use Rattle.refusal.specs.declared.Outcome.{Outcome}
use Rattle.refusal.specs.Refusal.{done_with, refused_by}
use Rattle.network_syntax.specs.Syntax.{Operation, Optional, none, some}
use Rattle.network.specs.Form.{WellFormed}
use Rattle.network.specs.Layout.{operation_count}
use Rattle.network.specs.Rows.{operation_two_way}
use Rattle.network.specs.Decode.{operation_of, network_of}
use Rattle.tree.specs.Decode.{decode_message}
use Rattle.state.specs.Session.{Destination, outsider, State}
use Rattle.move_rules.specs.Targets as definition
use Rattle.move_rules.specs.Moves.{on_operation, must_fit, on_message, admit, outer_message_move, input_named}
use Rattle.move_rules.specs.Step.{finish}
use Rattle.state_destinations.specs.declared.Destination as coded
use Rattle.state_destinations.specs.Meaning.{reply_of}
use Rattle.check_operations.specs.Meeting.{operation_met}
use Rattle.move_targets.specs.NamedLaws.{named-exists}
use Rattle.move_fitting.specs.FittingLaws.{bytes-come}
use Rattle.move_frame.specs.Made.{StateOf, Made}
use Rattle.move_frame.specs.MadeLaws.{refused-step, made-refused}
use Rattle.move_delivery.specs.declared.Arrival.{Arrival}
use Rattle.move_delivery.specs.Delivery.{AdmittedAs, Admits, Stores}
use Rattle.move_delivery.specs.DeliveryLaws.{target-known}
use Rattle.move_frame.specs.HoldingLaws.{stands-holding}
use Rattle.move_outer.specs.Outside.{arriving, Arrives}
use Rattle.std.specs.Prelude.{Option, Some, None}
use Rattle.std.specs.Prelude.{Result, Ok, Err}

-- ---- where the reply goes

module _ (file : List ℕ) (i number : ℕ) {w : ℕ} (e : w ≡ operation_two_way file i) where
  pub reply-outside : w ≡ 1 → reply_of (Some (coded.Destination.Outsider number)) ≡ pick (operation_of file i).two_way (some (outsider number)) none
  unfolding operation_of
  reply-outside f = sym (ap (λ (t : Bool). pick t (some (outsider number)) none) (eq-eqb (operation_two_way file i) 1 (sym e ∙ f)))

  pub reply-nobody : (w ≡ 1 → ⊥) → reply_of None ≡ pick (operation_of file i).two_way (some (outsider number)) none
  unfolding operation_of
  reply-nobody f = sym (ap (λ (t : Bool). pick t (some (outsider number)) none) (ne_eqb (operation_two_way file i) 1 (λ g. f (e ∙ g))))

pub ruleset reply-laws = (reply-outside, reply-nobody)

-- ---- at the input

admitted : {file l s o : List ℕ} {i n : ℕ} {x : Result Arrival Refusal} → Admits file s i n l (Ok tt) NoMessage o x → WellFormed file → i < operation_count file → (G : State)
    → StateOf file s G → AdmittedAs file G i n l o (λ k. on_message (decode_message l) (λ m. must_fit m (operation_of file i).request (k m))) x
admitted {file} {l} {i = i} h w li G st = h.tells w li G st _ (bytes-come l (operation_of file i).request)

module _ {file l s o : List ℕ} {i n number : ℕ} {x : Result Arrival Refusal} (h : Admits file s i n l (Ok tt) NoMessage o x) where
  pub arrive-not : {why : Refusal} {a : Outcome} → x ≡ Err why → a ≡ refused_by why → Arrives file i n number l s s a
  arrive-not {why} e f = record {
    tells = λ w li G st out.
        refused-step f (subst (AdmittedAs file G i n l o (λ k. on_message (decode_message l) (λ m. must_fit m (operation_of file i).request (k m)))) e
        (admitted h w li G st) G (pick (operation_of file i).two_way (some (outsider number)) none));
  }

  pub arrive-stored : {y : Arrival} {to : Optional Destination} {s' : List ℕ} {a : Outcome} → x ≡ Ok y
      → to ≡ pick (operation_of file i).two_way (some (outsider number)) none → Stores i to l o y s s' → a ≡ done_with 0 → Arrives file i n number l s s' a
  arrive-stored {y} {to} {s'} e j d f = record {
    tells = λ w li G st out.
        let op = operation_of file i in
        let T = definition.target (network_of file) G op n in
        let z = subst (AdmittedAs file G i n l o (λ k. on_message (decode_message l) (λ m. must_fit m op.request (k m)))) e (admitted h w li G st) in
        ap (λ (u : Outcome). record { outcome = u; state = s'; out = out }) f
        ∙ (d.tells file w li G (stands-holding st) n T (target-known (network_of file) G op n) z.0 z.1 z.2 s out
        ∙ (ap (finish s out) (sym (z.3 G to)) ∙ ap (λ (b : Optional Destination). finish s out (admit (network_of file) G op n (on_message (decode_message l)) G b)) j));
  }

pub ruleset arrive-laws = (arrive-not, arrive-stored)

-- ---- the input that is named

module _ (file l : List ℕ) {s : List ℕ} (q id n number : ℕ) {x : Option ℕ} (e : operation_met file x ≡ input_named (network_of file) q id) where
  pub outer-none : {o : Outcome} → x ≡ None → o ≡ refused_by MoveNotAllowed → Made file (λ N G. outer_message_move N G q id n number l) s s o
  unfolding operation_met
  outer-none {o} f g =
      made-refused file (λ N G. outer_message_move N G q id n number l) g
      (λ w G st. ap (λ (y : Optional Operation). on_operation y (arriving (network_of file) G n number l)) (sym e ∙ ap (operation_met file) f))

  pub outer-input : {i : ℕ} {s' : List ℕ} {o : Outcome} → x ≡ Some i → Arrives file i n number l s s' o
      → Made file (λ N G. outer_message_move N G q id n number l) s s' o
  unfolding operation_met
  outer-input {i} {s'} {o} f h = record {
    tells = λ w G st out.
        let z : some (operation_of file i) ≡ input_named (network_of file) q id = ap (operation_met file) (sym f) ∙ e in
        h.tells w (named-exists file q id i z) G st out
        ∙ ap (λ (y : Optional Operation). finish s out (on_operation y (arriving (network_of file) G n number l))) z;
  }
