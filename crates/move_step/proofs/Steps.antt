-- Each move of the stepper, by its code's promise; then the stepper's ways out.
use mathlib.Core.Path.{◌≡◌, refl, sym, ap, subst, ◌∙◌}
use mathlib.Core.Bool.{Bool, true, false, not}
use mathlib.Core.List.{List}
use Prim.Native.Nat.{ℕ}
use native.Mathlib.Omega.{arith}
use Rattle.refusal.specs.declared.Outcome.{Outcome}
use Rattle.basics.specs.Choice.{pick}
use Rattle.refusal.specs.declared.Refusal.{Refusal}
use Rattle.refusal.specs.Refusal.{refused_by}
use Rattle.network_syntax.specs.Syntax.{none, some}
use Rattle.network.specs.Form.{form_of, WellFormed}
use Rattle.network.specs.Layout.{behaviour_count}
use Rattle.network.specs.Decode.{network_of}
use Rattle.state.specs.Bytes.{read_state}
use Rattle.state.specs.Shape.{decode_state}
use Rattle.state_shape.specs.Stands.{Tells}
use Rattle.move_rules.specs.Moves.{move, local_move, receive_move, send_move, reply_move, outer_message_move, outer_reply_move, close_move}
use Rattle.move_frame.specs.Made.{Made, MadeOut}
use Rattle.move_step.specs.declared.Move as coded
use Rattle.move_step.specs.Moves.{move_of}
use Rattle.std.specs.Prelude.{Result, Ok, Err}

pub as-refused : {o : Outcome} {v : Result (Unit {0}) Refusal} {why : Refusal} → v ≡ Err why → o ≡ refused_by why → o ≡ record { bytes = 0; verdict = v }
as-refused e h = h ∙ ap (λ (u : Result (Unit {0}) Refusal). record { bytes = 0; verdict = u }) (sym e)

module _ (file : List ℕ) (m : coded.Move) (outside : List ℕ) {s s' : List ℕ} {o : Outcome} where
  pub is-local : {out : List ℕ} (q n r : ℕ) → m ≡ coded.Move.Local q n r → Made file (λ N G. local_move N G q n r) s s' o
      → MadeOut file (λ N G. move N G (move_of m) outside) s s' out out o
  unfolding move move_of
  is-local {out} q n r e h = subst (λ (x : coded.Move). MadeOut file (λ N G. move N G (move_of x) outside) s s' out out o) (sym e) (record { tells = λ w G st k. h.tells w G st out })

  pub is-receive : {out : List ℕ} (q n r : ℕ) → m ≡ coded.Move.Receive q n r → Made file (λ N G. receive_move N G q n r) s s' o
      → MadeOut file (λ N G. move N G (move_of m) outside) s s' out out o
  unfolding move move_of
  is-receive {out} q n r e h = subst (λ (x : coded.Move). MadeOut file (λ N G. move N G (move_of x) outside) s s' out out o) (sym e) (record { tells = λ w G st k. h.tells w G st out })

  pub is-send : {out out' : List ℕ} (q n r to : ℕ) → m ≡ coded.Move.Send q n r to → MadeOut file (λ N G. send_move N G q n r to) s s' out out' o
      → MadeOut file (λ N G. move N G (move_of m) outside) s s' out out' o
  unfolding move move_of
  is-send {out} {out'} q n r to e h = subst (λ (x : coded.Move). MadeOut file (λ N G. move N G (move_of x) outside) s s' out out' o) (sym e) (record { tells = λ w G st k. h.tells w G st k })

  pub is-reply : {out out' : List ℕ} (q n r : ℕ) → m ≡ coded.Move.Reply q n r → MadeOut file (λ N G. reply_move N G q n r) s s' out out' o
      → MadeOut file (λ N G. move N G (move_of m) outside) s s' out out' o
  unfolding move move_of
  is-reply {out} {out'} q n r e h = subst (λ (x : coded.Move). MadeOut file (λ N G. move N G (move_of x) outside) s s' out out' o) (sym e) (record { tells = λ w G st k. h.tells w G st k })

  pub is-outside : {out : List ℕ} (q id n number : ℕ) → m ≡ coded.Move.OuterMessage q id n number → Made file (λ N G. outer_message_move N G q id n number outside) s s' o
      → MadeOut file (λ N G. move N G (move_of m) outside) s s' out out o
  unfolding move move_of
  is-outside {out} q id n number e h = subst (λ (x : coded.Move). MadeOut file (λ N G. move N G (move_of x) outside) s s' out out o) (sym e) (record { tells = λ w G st k. h.tells w G st out })

  pub is-outside-reply : {out : List ℕ} (q n r : ℕ) → m ≡ coded.Move.OuterReply q n r → Made file (λ N G. outer_reply_move N G q n r outside) s s' o
      → MadeOut file (λ N G. move N G (move_of m) outside) s s' out out o
  unfolding move move_of
  is-outside-reply {out} q n r e h = subst (λ (x : coded.Move). MadeOut file (λ N G. move N G (move_of x) outside) s s' out out o) (sym e) (record { tells = λ w G st k. h.tells w G st out })

  pub is-close : {out : List ℕ} (q n : ℕ) → m ≡ coded.Move.Close q n → Made file (λ N G. close_move N G q n) s s' o
      → MadeOut file (λ N G. move N G (move_of m) outside) s s' out out o
  unfolding move move_of
  is-close {out} q n e h = subst (λ (x : coded.Move). MadeOut file (λ N G. move N G (move_of x) outside) s s' out out o) (sym e) (record { tells = λ w G st k. h.tells w G st out })

pub ruleset move-laws = (is-local, is-receive, is-send, is-reply, is-outside, is-outside-reply, is-close)

-- ---- 2 to 5, and 14

pub well-formed : (file : List ℕ) {v : Result (Unit {0}) Refusal} → v ≡ form_of file → v ≡ (Ok tt) → WellFormed file
well-formed file f g = sym f ∙ g

pub no-state : (file s : List ℕ) (x : Bool) → WellFormed file → Tells file s x → not x ≡ true → decode_state (network_of file) (behaviour_count file) s ≡ none
no-state file s x w h e = h.decodes w ∙ by x e
  where
    by : (x : Bool) → not x ≡ true → pick x (some (read_state s)) none ≡ none
    by true e = absurd (let z : ◌≡◌ {A = ℕ} 0 1 = cc in omega arith)
    by false e = refl

pub a-state : (file s : List ℕ) (x : Bool) → WellFormed file → Tells file s x → not x ≡ false → decode_state (network_of file) (behaviour_count file) s ≡ some (read_state s)
a-state file s x w h e = h.decodes w ∙ by x e
  where
    by : (x : Bool) → not x ≡ false → pick x (some (read_state s)) none ≡ some (read_state s)
    by true e = refl
    by false e = absurd (let z : ◌≡◌ {A = ℕ} 0 1 = cc in omega arith)
