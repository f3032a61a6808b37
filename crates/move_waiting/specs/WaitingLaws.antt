-- What a caller makes of a waiting row: the definition in a live session, and whether a message passes at the reply type.
use Rattle.std.specs.Prelude.{◌≡◌, true, List, ℕ, ◌<◌}
use Rattle.std.proofs.Common.{sym, ap, subst, ◌∙◌}
use Rattle.tree_forest.specs.Forest.{Tree}
use Rattle.tree_forest.specs.Path.{Path}
use Rattle.scalar.specs.Value.{Value}
use Rattle.refusal.specs.declared.Refusal.{Refusal}
use Rattle.network_syntax.specs.Syntax.{MessageType, Operation}
use Rattle.network_syntax.specs.Rows.{at_row}
use Rattle.network.specs.Form.{WellFormed}
use Rattle.network.specs.Layout.{type_count, operation_count}
use Rattle.network.specs.Rows.{reply_type}
use Rattle.network.specs.Decode.{type_of, operation_of, behaviour_of}
use Rattle.network.proofs.DecodeLaws.{reply-row}
use Rattle.state.specs.Session.{Session, State}
use Rattle.move_rules.specs.Moves.{Result, on_waiting_row}
use Rattle.move_fitting.specs.Fitting.{Comes, Passed, Passes}
use Rattle.move_frame.specs.Made.{InSession}
use Rattle.move_waiting.specs.Waiting.{waiting_as, WaitsAt}
use Rattle.std.specs.Prelude.{Option, Some, None}
use Rattle.std.specs.Prelude as std
use Rattle.std.specs.Prelude.{Ok, Err}

pub waits_in : {file s : List ℕ} {G : State} {q n slot b r : ℕ} {x : Option (ℕ × ℕ)} (h : InSession file s G q n slot b) → WaitsAt file s slot b q r x
    → WellFormed file → (f : Operation → Path → Result) → on_waiting_row q h.session (at_row r (behaviour_of file b)) f ≡ waiting_as file x f
waits_in {file} {s} {G} {q} {n} {slot} {b} {r} h k w f =
    ap (λ (S : Session). on_waiting_row q S (at_row r (behaviour_of file b)) f) (sym h.reads) ∙ sym (k.tells w h.row f)

-- 17 and 19 at the reply type of O row o.
pub reply-passes : {m file : List ℕ} {y : ℕ} {other : Refusal} {v : std.Result (Unit {0}) Refusal} (o : ℕ) → Passes m file y other v → y ≡ reply_type file o → WellFormed file
    → o < operation_count file → (operation_of file o).two_way ≡ true → (f : (Tree Value → Result) → Result) → Comes m other (operation_of file o).reply f
    → Passed v m f
reply-passes {m} {file} {y} {other} o p e w l two f c =
    let r = reply-row file w o l two in
    p.tells w (subst (λ (z : ℕ). z < type_count file) (sym e) r.1) f
    (subst (λ (t : MessageType). Comes m other t f) (r.0 ∙ ap (type_of file) (sym e)) c)
