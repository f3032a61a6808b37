-- An outer reply, at each of the ways out of the code.
use mathlib.Core.Path.{◌≡◌, refl, sym, ap, subst, ◌∙◌}
use mathlib.Core.Bool.{Bool, true, false}
use mathlib.Core.List.{List}
use Prim.Native.Nat.{ℕ, ◌<◌}
use Rattle.tree_forest.specs.Forest.{Tree}
use Rattle.tree_forest.specs.Path.{Path}
use Rattle.scalar.specs.Value.{Value}
use Rattle.basics.specs.Choice.{pick}
use Rattle.tree.specs.Decode.{decode_message}
use Rattle.refusal.specs.declared.Refusal.{Refusal}
use Rattle.refusal.specs.declared.Refusal.TheVariants.{MoveNotAllowed, NoMessage}
use Rattle.refusal.specs.declared.Outcome.{Outcome}
use Rattle.refusal.specs.Refusal.{refused_by}
use Rattle.network_syntax.specs.Syntax.{Network, Operation}
use Rattle.network_syntax.specs.Rows.{at_row}
use Rattle.network.specs.Form.{WellFormed}
use Rattle.network.specs.Rows.{operation_location, reply_type}
use Rattle.network.specs.Decode.{path_of, operation_of, network_of}
use Rattle.network_syntax.specs.Meets.{in_file}
use Rattle.state.specs.Session.{State}
use Rattle.move_rules.specs.Moves.{Result, not_allowed, must_fit, on_waiting_row, take_reply, on_message, outer_reply_move}
use Rattle.move_rules.specs.Step.{finish}
use Rattle.move_frame.specs.Made.{StateOf, Made, Runs, RunsAt}
use Rattle.move_frame.specs.MadeLaws.{made-refused, in-session, running}
use Rattle.move_fitting.specs.Fitting.{Passed, Passes}
use Rattle.move_fitting.specs.FittingLaws.{bytes-come}
use Rattle.move_waiting.specs.declared.Sender.{Sender}
use Rattle.move_waiting.specs.Waiting.{waiting_as, WaitingRowsExist, WaitsAt, TakesReply}
use Rattle.move_waiting.specs.WaitingLaws.{waits_in, reply-passes}
use Rattle.std.specs.Prelude.{Option, Some, None}
use Rattle.std.specs.Prelude as std
use Rattle.std.specs.Prelude.{Ok, Err}

module _ (file s : List ℕ) (q n r : ℕ) (bytes : List ℕ) where
  abbrev outer : Network → State → Result
  outer N G = outer_reply_move N G q n r bytes

  -- What goes on with a row that waits.
  abbrev fitted : State → Operation → Path → Tree Value → Result
  fitted G o x m = must_fit m o.reply (take_reply G q n r x m)

  abbrev replies : State → Operation → Path → Result
  replies G o x = pick (in_file (network_of file) o.location) not_allowed (on_message (decode_message bytes) (fitted G o x))

  module _ {x : Option (ℕ × ℕ)} (h : RunsAt file s q n x) where
    pub outer-nothing : {a : Outcome} → x ≡ None → a ≡ refused_by MoveNotAllowed → Made file outer s s a
    outer-nothing e f = made-refused file outer f (λ w G st. subst (Runs file s G q n) e (h.tells w G st) _)

    module _ {slot b : ℕ} (e : x ≡ Some (slot, b)) {y : Option (ℕ × ℕ)} (k : WaitsAt file s slot b q r y) where
      outer-is : WellFormed file → (G : State) → StateOf file s G → outer (network_of file) G ≡ waiting_as file y (replies G)
      outer-is w G st =
          let i = running h e w G st in
          in-session i (λ B S. on_waiting_row q S (at_row r B) (replies G)) ∙ waits_in i k w (replies G)

      pub outer-not-waiting : {a : Outcome} → y ≡ None → a ≡ refused_by MoveNotAllowed → Made file outer s s a
      outer-not-waiting g f = made-refused file outer f (λ w G st. outer-is w G st ∙ ap (λ (z : Option (ℕ × ℕ)). waiting_as file z (replies G)) g)

      module _ {o p : ℕ} (g : y ≡ Some (o, p)) {v : ℕ} {t : Bool} (a : v ≡ operation_location file o) (c : t ≡ in_file (network_of file) v) where
        abbrev message : State → Result
        message G = on_message (decode_message bytes) (fitted G (operation_of file o) (path_of file p))

        located : (f : Bool) → t ≡ f → in_file (network_of file) (operation_of file o).location ≡ f
        unfolding operation_of
        located f j = sym (c ∙ ap (in_file (network_of file)) a) ∙ j

        outer-row : (f : Bool) → t ≡ f → WellFormed file → (G : State) → StateOf file s G → outer (network_of file) G ≡ pick f not_allowed (message G)
        outer-row f j w G st =
            outer-is w G st ∙ (ap (λ (z : Option (ℕ × ℕ)). waiting_as file z (replies G)) g ∙ ap (λ (z : Bool). pick z not_allowed (message G)) (located f j))

        pub outer-inside : {z : Outcome} → t ≡ true → z ≡ refused_by MoveNotAllowed → Made file outer s s z
        outer-inside j f = made-refused file outer f (outer-row true j)

        module _ (j : t ≡ false) {ty : ℕ} {d : std.Result (Unit {0}) Refusal} (i : ty ≡ reply_type file o) (l : Passes bytes file ty NoMessage d) where
          rows-exist : WellFormed file → (G : State) → StateOf file s G → WaitingRowsExist file (Some (o, p))
          rows-exist w G st = subst (WaitingRowsExist file) g (k.exists w (running h e w G st).row)

          passed : {u : std.Result (Unit {0}) Refusal} → d ≡ u → WellFormed file → (G : State) → StateOf file s G
              → Passed u bytes (λ k. on_message (decode_message bytes) (λ m. must_fit m (operation_of file o).reply (k m)))
          passed f w G st =
              let ex = rows-exist w G st in
              subst (λ (u : std.Result (Unit {0}) Refusal). Passed u bytes (λ k. on_message (decode_message bytes) (λ m. must_fit m (operation_of file o).reply (k m)))) f
              (reply-passes o l i w ex.0 ex.2 _ (bytes-come bytes (operation_of file o).reply))

          pub outer-not : {why : Refusal} {z : Outcome} → d ≡ Err why → z ≡ refused_by why → Made file outer s s z
          outer-not f c =
              made-refused file outer c
              (λ w G st. outer-row false j w G st ∙ passed f w G st (take_reply G q n r (path_of file p)))

          pub outer-taken : {s' : List ℕ} {z : Outcome} → d ≡ (Ok tt) → TakesReply file s Sender.Outsider slot r p bytes s' z → Made file outer s s' z
          outer-taken f c = record {
            tells = λ w G st out.
                let m = passed f w G st in
                c.tells w (rows-exist w G st).1 G st G refl q n b (running h e w G st) m.0 m.1 out
                ∙ ap (finish s out) (sym (outer-row false j w G st ∙ m.2 (take_reply G q n r (path_of file p))));
          }

-- ---- what the calls ask for

pub row_small : {file s : List ℕ} {slot b q r o p : ℕ} {y : Option (ℕ × ℕ)} → WaitsAt file s slot b q r y → y ≡ Some (o, p) → r < 256
row_small {o = o} {p = p} h e = h.small o p e
