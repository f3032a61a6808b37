-- A message sent, at each of the ways out of the code.
use mathlib.Core.Path.{◌≡◌, refl, sym, ap, subst, ◌∙◌}
use mathlib.Core.Bool.{Bool, true, false, not}
use mathlib.Core.List.{List, [], ◌∷◌, ◌++◌}
use Prim.Native.Nat.{ℕ, ◌+◌, ◌%◌, ◌≤◌, ◌<◌}
use native.Mathlib.Omega.{arith}
use native.Mathlib.Decide.{ℕ_discrete}
use types.Run.{OneOf, miss}
use denote.Enum.Declared.{tag_of}
use lib.ListN.{length, take, drop}
use lib.Seq.{take_all}
use borrow.Author.Tests.{eq-eqb, ne_eqb}
use Rattle.tree_forest.specs.Forest.{Tree, tree}
use Rattle.scalar.specs.Value.{Value}
use Rattle.basics.specs.Choice.{pick}
use Rattle.basics.specs.ListLaws.{prefix-length}
use Rattle.basics.specs.TestLaws.{not-false, not-true}
use Rattle.tree.specs.Encode.{empty, Encodes}
use Rattle.tree_forest.specs.Limits.{session_levels, session_nodes}
use Rattle.tree_edit.specs.Wrote.{Wrote}
use Rattle.tree_edit.specs.WroteLaws.{wrote-all, wrote-all-of}
use Rattle.refusal.specs.declared.Refusal.{Refusal}
use Rattle.refusal.specs.declared.Refusal.TheVariants.{MoveNotAllowed, Stuck, MessageMisfit, OutOfRange}
use Rattle.refusal.specs.declared.Outcome.{Outcome}
use Rattle.refusal.specs.Refusal.{done_with, refused_by}
use Rattle.network_syntax.specs.Syntax.{MessageType, Network, Operation, Optional}
use Rattle.network.specs.Form.{WellFormed}
use Rattle.network.specs.Layout.{type_count, expression_count, behaviour_count, operation_count}
use Rattle.network.specs.Rows.{operation_location, request_type}
use Rattle.network.proofs.RowLaws.{operation-kept}
use Rattle.network.specs.Decode.{type_of, expression_of, operation_of, behaviour_of, network_of}
use Rattle.network_syntax.specs.Meets.{in_file, met_input}
use Rattle.state.specs.Places.{slot_size}
use Rattle.state.specs.Session.{Destination, Progress, advance, Session, with_progress, Slot, live, State, set_slot}
use Rattle.state.specs.Bytes.{message_bytes, state_bytes, read_session}
use Rattle.state.specs.Shape.{behaviour_in}
use Rattle.state.proofs.SizeLaws.{message-size}
use Rattle.state.proofs.ChangeLaws.{slot_same, set_other}
use Rattle.move_rules.specs.Evaluation.{Evaluation, evaluate}
use Rattle.move_rules.specs.Targets as definition
use Rattle.move_rules.specs.Readiness.{reach}
use Rattle.move_rules.specs.Moves.{Result, refused, moved, not_allowed, require, on_tree, on_operation}
use Rattle.move_rules.specs.Moves.{must_fit, gone_on, send_inside, send_outside, send_by, send_at, send_reached, send_move}
use Rattle.move_rules.specs.Step.{finish}
use Rattle.state_slots.specs.Slots.{tree_in}
use Rattle.state_slots.specs.SlotLaws.{living-tree}
use Rattle.state_slots.specs.Living.{Living}
use Rattle.move_evaluation.specs.declared.Evaluated.{Evaluated}
use Rattle.move_evaluation.specs.declared.Fault.{Fault}
use Rattle.move_evaluation.specs.Condition.{refusal_of}
use Rattle.move_evaluation.specs.Evaluated.{Evaluates}
use Rattle.move_evaluation.specs.Writing.{bytes_written, WrittenAs, Writes}
use Rattle.move_readiness.specs.declared.Reached as rows
use Rattle.move_readiness.specs.contracts.Reached as reached
use Rattle.move_readiness.specs.Reaching.{reached_as, ReachTells}
use Rattle.move_readiness.specs.ReachedLaws.{reached-row}
use Rattle.check_operations.specs.Meeting.{operation_met}
use Rattle.check_operations.specs.MeetingLaws.{met-exists}
use Rattle.move_frame.specs.Made.{StateOf, MadeOut, Runs, RunsAt}
use Rattle.move_frame.specs.MadeLaws.{in-session, running, refused-step, made-out-refused}
use Rattle.move_fitting.specs.Fitting.{Comes, fitting_tree, Passed, Passes}
use Rattle.move_fitting.specs.FittingLaws.{value-comes}
use Rattle.move_delivery.specs.declared.Arrival.{Arrival}
use Rattle.move_delivery.specs.Delivery.{MessageOffered, Known, AdmittedAs, Admits, Stores}
use Rattle.move_delivery.specs.DeliveryLaws.{target-known}
use Rattle.move_frame.specs.HoldingLaws.{gone-holding}
use Rattle.move_send.specs.Sending.{after_sending, reply_back, sending_as, SendRowsExist, SendingAt, WritesMessage, written_verdict, SendsOutside}
use Rattle.move_send.specs.Sending.{SendsInside, SendsBy}
use Rattle.state_progress.specs.Stored.{row_stored}
use Rattle.state_progress.specs.StateLaws.{row-stored-length}
use Rattle.std.specs.Prelude.{Option, Some, None}
use Rattle.std.specs.Prelude as std
use Rattle.std.specs.Prelude.{Ok, Err}

-- ---- `write_message`

pub message-written : (file s : List ℕ) (slot e : ℕ) {t : List ℕ} {x : Evaluated} {o o' : List ℕ} {y : std.Result ℕ Fault} → t ≡ tree_in s slot → Evaluates file t e x
    → Writes t x o o' y → length o' ≡ length o → WritesMessage file s slot e o' y
message-written file s slot e {t} {x} {o} {o'} {y} q v h k = record {
  tells = λ w l S i.
      let m : Encodes session_levels session_nodes t (tree empty S.tree) = record { bytes = q ∙ living-tree i; good = i.made.bounded } in
      h.tells S.tree (evaluate S.tree (expression_of file e)) m (v.tells S.tree m w l);
  inside = omega (arith, h.inside, k);
}

pub message-inside : {file s : List ℕ} {slot e : ℕ} {o : List ℕ} {x : std.Result ℕ Fault} {n : ℕ} → WritesMessage file s slot e o x → x ≡ Ok n → n ≤ length o
message-inside h e = rw e at h.inside

-- ---- what is offered

written-offers : (buf : List ℕ) (w : std.Result ℕ Fault) (t : MessageType) (y : Evaluation (Tree Value)) → WrittenAs buf w y
    → MessageOffered (written_verdict w) (take (bytes_written w) buf) MessageMisfit t (fitting_tree y t)
written-offers buf (Ok n) t y h = value-comes h.0 t y h.2 h.1
written-offers buf (Err Fault.Missing) t y h = λ k. ap (λ (z : Evaluation (Tree Value)). fitting_tree z t k) h
written-offers buf (Err Fault.Wrong) t y h = λ k. ap (λ (z : Evaluation (Tree Value)). fitting_tree z t k) h
written-offers buf (Err Fault.Outside) t y h = λ k. ap (λ (z : Evaluation (Tree Value)). fitting_tree z t k) h.1

request-is : (file : List ℕ) (o : ℕ) {r : ℕ} → r ≡ request_type file o → type_of file r ≡ (operation_of file o).request
unfolding operation_of
request-is file o e = ap (type_of file) e

-- ---- the state in which the sender has gone on

-- Whom a message meets stays: the sender is live with the same queue.
gone-target : (N : Network) (G : State) (q n : ℕ) (S : Session) (to r : ℕ) (after : Progress) (o : Operation) → G q n ≡ live S
    → definition.target N (gone_on G q n S r after) o to ≡ definition.target N G o to
gone-target N G q n S to r after o e = go (ℕ_discrete o.service q) (ℕ_discrete to n)
  where
    other : ((o.service ≡ q) → (to ≡ n) → ⊥) → definition.target N (gone_on G q n S r after) o to ≡ definition.target N G o to
    other f = ap (λ (x : Slot). definition.target_in (behaviour_in N o.service to) (λ B. definition.target_of o.row to B x))
        (set_other G q n (live (with_progress S (advance S.progress r after))) o.service to f)

    go : Dec (o.service ≡ q) → Dec (to ≡ n) → definition.target N (gone_on G q n S r after) o to ≡ definition.target N G o to
    go (yes u) (yes v) =
        let x = live (with_progress S (advance S.progress r after)) in
        let z : set_slot G q n x o.service to ≡ x = ap (λ (k : ℕ). set_slot G q n x k to) u ∙ (ap (λ (k : ℕ). set_slot G q n x q k) v ∙ slot_same G q n x) in
        let y : G o.service to ≡ live S = ap (λ (k : ℕ). G k to) u ∙ (ap (λ (k : ℕ). G q k) v ∙ e) in
        ap (λ (x : Slot). definition.target_in (behaviour_in N o.service to) (λ B. definition.target_of o.row to B x)) z
        ∙ sym (ap (λ (x : Slot). definition.target_in (behaviour_in N o.service to) (λ B. definition.target_of o.row to B x)) y)
    go (yes u) (no v) = other (λ _ y. v y)
    go (no u) d = other (λ y _. u y)

-- ---- `send_outside`

module _ (file s : List ℕ) (slot i o e to : ℕ) (after : Progress) (out : List ℕ) where
  pub outside-short : {a : Outcome} → length out < 512 → SendsOutside file s slot i o e to after s out out a
  outside-short l = record { tells = λ w lo le G st q n b h k. absurd (omega (arith, l, k)) }

  abbrev sends : State → ℕ → ℕ → Session → Tree Value → Result
  sends G q n S m = must_fit m (operation_of file o).request (moved (gone_on G q n S i after) (message_bytes m))

  pub outside-target : {a : Outcome} → (to ≡ 0 → ⊥) → a ≡ refused_by MoveNotAllowed → SendsOutside file s slot i o e to after s out out a
  outside-target f g = record {
    tells = λ w lo le G st q n b h k.
        refused-step g (ap (λ (x : Bool). require x MoveNotAllowed (on_tree (evaluate h.session.tree (expression_of file e)) (sends G q n h.session)))
        (ne_eqb to 0 f));
  }

  module _ (zero : to ≡ 0) {buf : List ℕ} {x : std.Result ℕ Fault} (k : WritesMessage file s slot e buf x) where
    evaluated : (G : State) (q n : ℕ) (S : Session) (y : Evaluation (Tree Value)) → evaluate S.tree (expression_of file e) ≡ y
        → send_outside (network_of file) G q n S to i (operation_of file o) (expression_of file e) after ≡ on_tree y (sends G q n S)
    evaluated G q n S y f =
        ap (λ (x : Bool). require x MoveNotAllowed (on_tree (evaluate S.tree (expression_of file e)) (sends G q n S))) (eq-eqb to 0 zero)
        ∙ ap (λ (l : Evaluation (Tree Value)). on_tree l (sends G q n S)) f

    pub outside-unwritten : {d : Fault} {a : Outcome} → x ≡ Err d → a ≡ refused_by (refusal_of d) → SendsOutside file s slot i o e to after s out out a
    outside-unwritten {d} f g = record {
      tells = λ w lo le G st q n b h j.
          let y = evaluate h.session.tree (expression_of file e) in
          let z = subst (λ (x : std.Result ℕ Fault). WrittenAs buf x y) f (k.tells w le h.session h.living) in
          refused-step g (evaluated G q n h.session y refl ∙ none d G q n h.session y z);
    }
      where
        none : (d : Fault) (G : State) (q n : ℕ) (S : Session) (y : Evaluation (Tree Value)) → WrittenAs buf (Err d) y
            → on_tree y (sends G q n S) ≡ refused (refusal_of d)
        none Fault.Missing G q j S y h = ap (λ (z : Evaluation (Tree Value)). on_tree z (sends G q j S)) h
        none Fault.Wrong G q j S y h = ap (λ (z : Evaluation (Tree Value)). on_tree z (sends G q j S)) h
        none Fault.Outside G q j S y h = ap (λ (z : Evaluation (Tree Value)). on_tree z (sends G q j S)) h.1

    module _ {n : ℕ} (f : x ≡ Ok n) (m : List ℕ) (t : m ≡ take n buf) {y : ℕ} (r : y ≡ request_type file o)
        {v : std.Result (Unit {0}) Refusal} (p : Passes m file y MessageMisfit v) where
      abbrev gone : State → ℕ → ℕ → Session → Tree Value → Result
      gone G q j S m = moved (gone_on G q j S i after) (message_bytes m)

      passed : (u : std.Result (Unit {0}) Refusal) → v ≡ u → WellFormed file → o < operation_count file → e < expression_count file → (S : Session) → Living s slot S
          → Passed u m (fitting_tree (evaluate S.tree (expression_of file e)) (operation_of file o).request)
      passed u g w lo le S h =
          let y = evaluate S.tree (expression_of file e) in
          let z = subst (λ (d : std.Result ℕ Fault). WrittenAs buf d y) f (k.tells w le S h) in
          let enc : Encodes session_levels session_nodes m z.0 = subst (λ (d : List ℕ). Encodes session_levels session_nodes d z.0) (sym t) z.2 in
          subst (λ (d : std.Result (Unit {0}) Refusal). Passed d m (fitting_tree y (operation_of file o).request)) g
          (p.tells w (subst (λ (d : ℕ). d < type_count file) (sym r) (operation-kept file w o lo).request.exists) (fitting_tree y (operation_of file o).request)
          (subst (λ (d : MessageType). Comes m MessageMisfit d (fitting_tree y (operation_of file o).request)) (sym (request-is file o r))
          (value-comes z.0 (operation_of file o).request y enc z.1)))

      pub outside-not : {why : Refusal} {a : Outcome} → v ≡ Err why → a ≡ refused_by why
          → SendsOutside file s slot i o e to after s out out a
      outside-not {why} g c = record {
        tells = λ w lo le G st q j b h l.
            refused-step c
            (evaluated G q j h.session (evaluate h.session.tree (expression_of file e)) refl
            ∙ passed (Err why) g w lo le h.session h.living (gone G q j h.session));
      }

      module _ (g : v ≡ (Ok tt)) where
        pub outside-long : {a : Outcome} → n ≡ length m → 512 < n → SendsOutside file s slot i o e to after s out out a
        outside-long u c = record {
          tells = λ w lo le G st q j b h l.
              let d = passed (Ok tt) g w lo le h.session h.living in
              absurd (omega (arith, c, u, ap length d.1.bytes, message-size d.0 d.1.good));
        }

        pub outside-done : {s₁ out' : List ℕ} {v : ℕ} {a : Outcome} → n ≡ length m → i < 256
            → s₁ ≡ row_stored s slot i after → Wrote out out' 0 v n (take n (drop 0 m)) → a ≡ done_with v
            → SendsOutside file s slot i o e to after s₁ out out' a
        outside-done {s₁} {out'} {v} {a} ln l c wr₀ d = record {
          tells = λ w lo le G st q j b h len.
              let k2 = passed (Ok tt) g w lo le h.session h.living in
              let wr : Wrote out out' 0 v v m = wrote-all-of (take_all n m (omega (arith, ln))) wr₀ in
              let bytes = message_bytes k2.0 in
              let eb : m ≡ bytes = k2.1.bytes in
              let ev : v ≡ length bytes = sym wr.size ∙ ap length eb in
              let eo : out' ≡ bytes ++ drop (length bytes) out =
              wrote-all wr ∙ (ap (λ (y : List ℕ). y ++ drop v out) eb ∙ ap (λ (y : ℕ). bytes ++ drop y out) ev) in
              let es = (gone-holding h i after st l c).bytes in
              ap (λ (y : Outcome). record { outcome = y; state = s₁; out = out' }) (d ∙ ap done_with ev)
              ∙ (ap (λ (y : List ℕ). record { outcome = done_with (length bytes); state = y; out = out' }) es
              ∙ (ap (λ (y : List ℕ). record {
                outcome = done_with (length bytes);
                state = state_bytes (gone_on G q j h.session i after);
                out = y;
              }) eo
              ∙ ap (finish s out) (sym (evaluated G q j h.session (evaluate h.session.tree (expression_of file e)) refl
              ∙ k2.2 (gone G q j h.session)))));
        }

-- ---- `send_inside`

-- The state with the sender gone on is as long as before.
pub put-length : (s : List ℕ) (slot i : ℕ) (after : Progress) {s₁ : List ℕ} → length s ≡ 65536 → slot + slot_size ≤ 65536 → i < 256
    → s₁ ≡ row_stored s slot i after → length s₁ ≡ 65536
put-length s slot i after l k j e =
    ap length e ∙ (row-stored-length s slot i after (omega (arith, l, k)) j ∙ l)

module _ (file s : List ℕ) (slot i k e to : ℕ) (after : Progress) (back : Optional Destination) {buf m o : List ℕ} {w : std.Result ℕ Fault} {n : ℕ} {own : std.Result (Unit {0}) Refusal} {x : std.Result Arrival Refusal}
    (wm : WritesMessage file s slot e buf w) (ln : n ≡ bytes_written w) (ow : own ≡ written_verdict w) (lm : m ≡ take n buf)
    (ad : Admits file s k to m own MessageMisfit o x) where
  abbrev value : Session → Evaluation (Tree Value)
  value S = evaluate S.tree (expression_of file e)

  offered : WellFormed file → e < expression_count file → (S : Session) → Living s slot S
      → MessageOffered own m MessageMisfit (operation_of file k).request (fitting_tree (value S) (operation_of file k).request)
  offered wf le S h =
      subst (λ (v : std.Result (Unit {0}) Refusal). MessageOffered v m MessageMisfit (operation_of file k).request (fitting_tree (value S) (operation_of file k).request)) (sym ow)
      (subst (λ (l : List ℕ). MessageOffered (written_verdict w) l MessageMisfit (operation_of file k).request (fitting_tree (value S) (operation_of file k).request))
      (sym (lm ∙ ap (λ (j : ℕ). take j buf) ln)) (written-offers buf w (operation_of file k).request (value S) (wm.tells wf le S h)))

  admitted : {y : std.Result Arrival Refusal} → x ≡ y → WellFormed file → k < operation_count file → e < expression_count file → (G : State) → StateOf file s G → (S : Session)
      → Living s slot S → AdmittedAs file G k to m o (fitting_tree (value S) (operation_of file k).request) y
  admitted f wf lo le G st S h =
      subst (AdmittedAs file G k to m o (fitting_tree (value S) (operation_of file k).request)) f
      (ad.tells wf lo G st (fitting_tree (value S) (operation_of file k).request) (offered wf le S h))

  pub inside-not : {why : Refusal} {a : Outcome} → x ≡ Err why → a ≡ refused_by why → SendsInside file s slot i k e to after back s a
  inside-not f g = record {
    tells = λ wf lo le G st q j b h out.
        refused-step g (admitted f wf lo le G st h.session h.living (gone_on G q j h.session i after) back);
  }

  pub inside-sent : {y : Arrival} {s₁ s' : List ℕ} {a : Outcome} → x ≡ Ok y → i < 256 → s₁ ≡ row_stored s slot i after
      → Stores k back m o y s₁ s' → a ≡ done_with 0 → SendsInside file s slot i k e to after back s' a
  inside-sent {y} {s₁} {s'} f l eb d g = record {
    tells = λ wf lo le G st q j b h out.
        let N = network_of file in
        let op = operation_of file k in
        let G₁ = gone_on G q j h.session i after in
        let T = definition.target N G op to in
        let z = admitted f wf lo le G st h.session h.living in
        let kn : Known G₁ op to T = subst (Known G₁ op to) (gone-target N G q j h.session to i after op h.is_live) (target-known N G₁ op to) in
        ap (λ (u : Outcome). record { outcome = u; state = s'; out = out }) g
        ∙ (d.tells file wf lo G₁ (gone-holding h i after st l eb) to T kn z.0 z.1 z.2 s out ∙ ap (finish s out) (sym (z.3 G₁ back)));
  }

pub ruleset inside-laws = (inside-not, inside-sent)

-- ---- `send-by`

location-is : (file : List ℕ) (o : ℕ) → operation_location file o ≡ (operation_of file o).location
unfolding operation_of
location-is file o = refl

module _ (file s : List ℕ) (slot i o e to : ℕ) (after : Progress) (back : Optional Destination) (out : List ℕ) {j : ℕ} {x : Bool} (lc : j ≡ operation_location file o)
    (is : x ≡ in_file (network_of file) j) where
  by_place : (G : State) (q n : ℕ) (S : Session) (c : Bool) → x ≡ c → send_by (network_of file) G q n S to i (operation_of file o) (expression_of file e) after back
      ≡ pick c (on_operation (met_input (network_of file) (operation_of file o)) (send_inside (network_of file) G q n S to i (expression_of file e) after back))
      (send_outside (network_of file) G q n S to i (operation_of file o) (expression_of file e) after)
  by_place G q n S c f =
      ap (λ (y : Bool). pick y (on_operation (met_input (network_of file) (operation_of file o))
      (send_inside (network_of file) G q n S to i (expression_of file e) after back))
      (send_outside (network_of file) G q n S to i (operation_of file o) (expression_of file e) after))
      (sym (ap (in_file (network_of file)) (lc ∙ location-is file o)) ∙ (sym is ∙ f))

  pub by-outside : {s' out' : List ℕ} {a : Outcome} → not x ≡ true → SendsOutside file s slot i o e to after s' out out' a
      → SendsBy file s slot i o e to after back s' out out' a
  by-outside f g = record {
    tells = λ w lo le G st q n b h l. g.tells w lo le G st q n b h l ∙ ap (finish s out) (sym (by_place G q n h.session false (not-true x f)));
  }

  module _ (f : not x ≡ false) (y : Option ℕ) (met : operation_met file y ≡ met_input (network_of file) (operation_of file o)) where
    by-met : (G : State) (q n : ℕ) (S : Session) → send_by (network_of file) G q n S to i (operation_of file o) (expression_of file e) after back
        ≡ on_operation (operation_met file y) (send_inside (network_of file) G q n S to i (expression_of file e) after back)
    by-met G q n S =
        by_place G q n S true (not-false x f)
        ∙ ap (λ (z : Optional Operation). on_operation z (send_inside (network_of file) G q n S to i (expression_of file e) after back)) (sym met)

    pub by-nothing : {a : Outcome} → y ≡ None → a ≡ refused_by MoveNotAllowed → SendsBy file s slot i o e to after back s out out a
    unfolding operation_met
    by-nothing g c = record {
      tells = λ w lo le G st q n b h l.
          refused-step c (by-met G q n h.session
          ∙ ap (λ (z : Option ℕ). on_operation (operation_met file z) (send_inside (network_of file) G q n h.session to i (expression_of file e) after back)) g);
    }

    pub by-inside : {k : ℕ} {s' : List ℕ} {a : Outcome} → y ≡ Some k → SendsInside file s slot i k e to after back s' a
        → SendsBy file s slot i o e to after back s' out out a
    unfolding operation_met
    by-inside {k} g c = record {
      tells = λ w lo le G st q n b h l.
          c.tells w (met-exists file o k (ap (operation_met file) (sym g) ∙ met)) le G st q n b h out
          ∙ ap (finish s out) (sym (by-met G q n h.session
          ∙ ap (λ (z : Option ℕ). on_operation (operation_met file z) (send_inside (network_of file) G q n h.session to i (expression_of file e) after back)) g));
    }

-- ---- `send_move`

pub sending-small : {file s : List ℕ} {slot q i o e : ℕ} {two : Bool} {y : Option (ℕ × ℕ × Bool)} → SendingAt file s slot q i y → y ≡ Some (o, e, two) → i < 256
sending-small {o = o} {e = e} {two = two} h f = h.small o e two f

module _ (file s out : List ℕ) (q n r to : ℕ) where
  abbrev makes : Network → State → Result
  makes N G = send_move N G q n r to

  module _ {x : Option (ℕ × ℕ)} (h : RunsAt file s q n x) where
    pub move-nothing : {a : Outcome} → x ≡ None → a ≡ refused_by MoveNotAllowed → MadeOut file makes s s out out a
    move-nothing e f = made-out-refused file makes f (λ w G st. subst (Runs file s G q n) e (h.tells w G st) _)

    module _ {slot b : ℕ} (e : x ≡ Some (slot, b)) {y : rows.Reached} (k : ReachTells file (read_session s slot).progress r b y) where
      reaching : (w : WellFormed file) (G : State) (st : StateOf file s G) → reached_as file y
          ≡ reach (running h e w G st).session.progress r (behaviour_of file b)
      reaching w G st =
          let i = running h e w G st in
          k.tells w i.row ∙ ap (λ (S : Session). reach S.progress r (behaviour_of file b)) i.reads

      move-is : (w : WellFormed file) (G : State) (st : StateOf file s G)
          → makes (network_of file) G ≡ send_reached (network_of file) G q n (running h e w G st).session to (reached_as file y)
      move-is w G st =
          let i = running h e w G st in
          in-session i (λ B S. send_reached (network_of file) G q n S to (reach S.progress r B))
          ∙ ap (send_reached (network_of file) G q n i.session to) (sym (reaching w G st))

      pub move-unreached : {a : Outcome} → OneOf (0 ∷ 2 ∷ []) (tag_of reached.the_type y) → a ≡ refused_by MoveNotAllowed → MadeOut file makes s s out out a
      move-unreached g f = made-out-refused file makes f (λ w G st. move-is w G st ∙ other G (running h e w G st).session y g)
        where
          other : (G : State) (S : Session) (y : rows.Reached) → OneOf (0 ∷ 2 ∷ []) (tag_of reached.the_type y)
              → send_reached (network_of file) G q n S to (reached_as file y) ≡ not_allowed
          other G S rows.Reached.Unreached k = refl
          other G S (rows.Reached.Reached i) k = absurd (miss (0 ∷ 2 ∷ []) 1 tt k)
          other G S (rows.Reached.Offered c j i) k = refl

      module _ {i : ℕ} (g : y ≡ rows.Reached.Reached i) {z : Option (ℕ × ℕ × Bool)} (m : SendingAt file s slot q i z) where
        here : WellFormed file → (G : State) → StateOf file s G → i < behaviour_count file
        here w G st =
            reached-row file w (running h e w G st).session.progress b r i (running h e w G st).row (ap (reached_as file) (sym g) ∙ reaching w G st)

        move_row : (w : WellFormed file) (G : State) (st : StateOf file s G)
            → makes (network_of file) G ≡ sending_as file (network_of file) G q n (running h e w G st).session to i z
        move_row w G st =
            let j = running h e w G st in
            move-is w G st ∙ (ap (λ (t : rows.Reached). send_reached (network_of file) G q n j.session to (reached_as file t)) g
            ∙ subst (λ (S : Session). send_at (network_of file) G q n S to (behaviour_of file i) ≡ sending_as file (network_of file) G q n S to i z) j.reads
            (m.tells w (here w G st) (network_of file) G n to))

        pub move-not-sending : {a : Outcome} → z ≡ None → a ≡ refused_by MoveNotAllowed → MadeOut file makes s s out out a
        move-not-sending c f =
            made-out-refused file makes f (λ w G st. move_row w G st
            ∙ ap (λ (t : Option (ℕ × ℕ × Bool)). sending_as file (network_of file) G q n (running h e w G st).session to i t) c)

        pub move-sends : {o c : ℕ} {two : Bool} {after : Progress} {back : Optional Destination} {s' out' : List ℕ} {a : Outcome} → z ≡ Some (o, c, two)
            → after ≡ after_sending two → back ≡ reply_back two (q % 256) (n % 256) i → SendsBy file s slot i o c to after back s' out out' a
            → MadeOut file makes s s' out out' a
        move-sends {o} {c} {two} {after} {back} f ea eb d = record {
          tells = λ w G st l.
              let j = running h e w G st in
              let N = network_of file in
              let rows_in : SendRowsExist file (Some (o, c, two)) = subst (SendRowsExist file) f (m.exists w (here w G st)) in
              let eq : q % 256 ≡ q = omega (arith, j.service) in
              let en : n % 256 ≡ n = omega (arith, j.number) in
              let send : Progress → Optional Destination → Result = λ x y. send_by N G q n j.session to i (operation_of file o) (expression_of file c) x y in
              let eback : back ≡ reply_back two q n i =
              eb ∙ (ap (λ (t : ℕ). reply_back two t (n % 256) i) eq ∙ ap (λ (t : ℕ). reply_back two q t i) en) in
              d.tells w rows_in.0 rows_in.1 G st q n b j l
              ∙ (ap (λ (t : Progress). finish s out (send t back)) ea ∙ (ap (λ (t : Optional Destination). finish s out (send (after_sending two) t)) eback
              ∙ ap (finish s out) (sym (move_row w G st ∙ ap (λ (t : Option (ℕ × ℕ × Bool)). sending_as file N G q n j.session to i t) f))));
        }

pub ruleset message-laws = (message-inside, prefix-length)

pub ruleset outside-laws = (outside-short, outside-target, outside-unwritten, outside-not, outside-long, outside-done)
