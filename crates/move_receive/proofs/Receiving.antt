-- A receive, at each of the ways out of the code.
use mathlib.Core.Path.{◌≡◌, refl, sym, ap, subst, ◌∙◌}
use mathlib.Core.Bool.{Bool, true, false, not}
use mathlib.Core.List.{List, []}
use Prim.Native.Nat.{ℕ, ◌<◌}
use native.Mathlib.Omega.{arith}
use Rattle.basics.specs.TestLaws.{not-false, not-true}
use Rattle.tree_forest.specs.Path.{replace_at}
use Rattle.refusal.specs.declared.Refusal.{Refusal}
use Rattle.refusal.specs.declared.Refusal.TheVariants.{MoveNotAllowed, Stuck}
use Rattle.refusal.specs.declared.Outcome.{Outcome}
use Rattle.refusal.specs.Refusal.{done_with, refused_by}
use Rattle.wire.specs.Wire.{with_part}
use Rattle.network_syntax.specs.Syntax.{input}
use Rattle.check_typing.specs.Rules.{permits}
use Rattle.network.specs.Form.{WellFormed}
use Rattle.network.specs.Layout.{path_count, behaviour_count}
use Rattle.network.proofs.RowLaws.{counts-kept}
use Rattle.network.specs.Decode.{path_of, operation_of, behaviour_of, network_of}
use Rattle.network_syntax.specs.Rows.{input_of}
use Rattle.network_rows.specs.declared.InputRow.{InputRow}
use Rattle.network_rows.specs.Readers.{input_row_of}
use Rattle.network_rows.specs.RowSyntax.{input_with}
use Rattle.network_row_parts.specs.Behaviours.{InputKeptBy}
use Rattle.network_row_parts.specs.KindLaws.{row-input-is}
use Rattle.state.specs.Places.{slot_start, entry_start}
use Rattle.state.specs.Session.{Progress, Session, live, State, set_slot}
use Rattle.state.specs.Bytes.{read_entry, read_session, slot_bytes}
use Rattle.state.specs.Shape.{is_undone, WellMade}
use Rattle.move_frame.specs.UndoneLaws.{if-undone}
use Rattle.move_rules.specs.Readiness.{reach}
use Rattle.move_rules.specs.Moves.{Result, refused, moved, not_allowed, require, if_undone, receive_message}
use Rattle.state.specs.Queue.{QueueSplit, message, oldest}
use Rattle.scalar.specs.Value.{void_value}
use Rattle.move_rules.specs.Moves.{receive_by, receive_at, receive_reached, receive_move}
use Rattle.state.specs.Session.{received_by}
use Rattle.move_rules.specs.Step.{finish}
use Rattle.check_operations.specs.Directions.{direction_of}
use Rattle.state_queues.specs.Queue.{without}
use Rattle.move_readiness.specs.declared.Reached.{Reached}
use Rattle.move_readiness.specs.Reaching.{reached_as, ReachTells}
use Rattle.move_readiness.specs.ReachedLaws.{reaches-row, offered-row}
use Rattle.move_frame.specs.Made.{StateOf, Made, InSession, Runs, RunsAt}
use Rattle.move_frame.specs.MadeLaws.{made-refused, made-slot, in-session}
use Rattle.move_receive.specs.Receiving.{settled_by, SettlesRow, stored_bytes, TakenAs, Takes, LeavesAs}
use Rattle.move_receive.specs.Receiving.{input_receives, ReceivesInput, ReceivesAt}
use Rattle.move_receive.proofs.Storing.{received_in, Small, stored-made, stored-live}
use Rattle.std.specs.Prelude as std
use Rattle.std.specs.Prelude.{Option, Some, None, Ok, Err}

-- ---- what is left

pub leaves-refused : {s : List ℕ} {o : Outcome} {r : Result} (why : Refusal) → o ≡ refused_by why → r ≡ refused why → LeavesAs s s o r
leaves-refused {s} why e h = record { tells = λ out. ap (λ (y : Outcome). record { outcome = y; state = s; out = out }) e ∙ ap (finish s out) (sym h) }

-- A move within one slot leaves what its definition says.
leaves-slot : (file : List ℕ) {s s' : List ℕ} {o : Outcome} {r : Result} (q n at : ℕ) (S : Session) → WellFormed file → (G : State)
    → StateOf file s G → q < 4 → n < 4 → at ≡ slot_start q n → WellMade S → o ≡ done_with 0 → s' ≡ with_part s at (slot_bytes (live S))
    → r ≡ moved (set_slot G q n (live S)) [] → LeavesAs s s' o r
leaves-slot file {s} {s'} {o} {r} q n at S w G st i j p m e b h = record {
  tells = λ out.
      (made-slot file (λ N K. moved (set_slot K q n (live S)) []) {s = s} {s' = s'} {o = o} q n at (live S) e b (λ w G st. (i, j, p, m, refl))).tells w G st out
      ∙ ap (finish s out) (sym h);
}

-- ---- an input

undone-runs : (p : Progress) (r : Result) → is_undone p ≡ true → if_undone p r ≡ r
undone-runs p r e = if-undone p r ∙ ap (λ (t : Bool). require t MoveNotAllowed r) e

undone-not : (p : Progress) (r : Result) → is_undone p ≡ false → if_undone p r ≡ not_allowed
undone-not p r e = if-undone p r ∙ ap (λ (t : Bool). require t MoveNotAllowed r) e

operation-row : (file : List ℕ) (o : ℕ) → (operation_of file o).row ≡ o
unfolding operation_of
operation-row file o = refl

settles-small : (file : List ℕ) → WellFormed file → (x : Option (ℕ × ℕ)) → SettlesRow file x → Small x
settles-small file w None l = tt
settles-small file w (Some (c, k)) l = omega (arith, l, (counts-kept file w).behaviours)

module _ (file s : List ℕ) (q slot i : ℕ) (x : Option (ℕ × ℕ)) (o p : ℕ) (two : Bool) {u : Bool} (is_u : u ≡ is_undone ((read_session s slot).progress i)) where
  undone-here : (S : Session) → read_session s slot ≡ S → (t : Bool) → u ≡ t → is_undone (S.progress i) ≡ t
  undone-here S e t h = ap (λ (T : Session). is_undone (T.progress i)) (sym e) ∙ (sym is_u ∙ h)

  pub input-done : {r : Outcome} → not u ≡ true → r ≡ refused_by MoveNotAllowed → ReceivesInput file q slot i x o p two s s r
  input-done h e = record {
    tells = λ w G st n b f l j.
        leaves-refused MoveNotAllowed e (undone-not (f.session.progress i) _ (undone-here f.session f.reads false (not-true u h)));
  }

  module _ (h : not u ≡ false) {a : Bool} (perm : a ≡ permits q (direction_of true) two (operation_of file o)) where
    allowed-is : (G : State) (n : ℕ) (S : Session) → read_session s slot ≡ S
        → input_receives G q n S (settled_by x S.progress) i (operation_of file o) (path_of file p) two
        ≡ require a MoveNotAllowed (receive_message G q n S (path_of file p) (settled_by x S.progress) i (oldest o S.queue))
    allowed-is G n S e =
        let R : ℕ → Result = λ j. receive_message G q n S (path_of file p) (settled_by x S.progress) i (oldest j S.queue) in
        undone-runs (S.progress i) _ (undone-here S e true (not-false u h))
        ∙ (ap (λ (j : ℕ). require (permits q input two (operation_of file o)) MoveNotAllowed (R j)) (operation-row file o)
        ∙ ap (λ (t : Bool). require t MoveNotAllowed (R o)) (sym perm))

    pub input-other : {r : Outcome} → not a ≡ true → r ≡ refused_by MoveNotAllowed → ReceivesInput file q slot i x o p two s s r
    input-other g e = record {
      tells = λ w G st n b f l j.
          leaves-refused MoveNotAllowed e
          (allowed-is G n f.session f.reads
          ∙ ap (λ (t : Bool). require t MoveNotAllowed
          (receive_message G q n f.session (path_of file p) (settled_by x f.session.progress) i (oldest o f.session.queue))) (not-true a g));
    }

    module _ (g : not a ≡ false) {scratch : List ℕ} {v : std.Result (ℕ × ℕ) Refusal} (took : Takes file s slot o p scratch v) where
      taking : (G : State) (n : ℕ) (S : Session) → read_session s slot ≡ S → (y : QueueSplit) → oldest o S.queue ≡ y
          → input_receives G q n S (settled_by x S.progress) i (operation_of file o) (path_of file p) two
          ≡ receive_message G q n S (path_of file p) (settled_by x S.progress) i y
      taking G n S e y z =
          allowed-is G n S e
          ∙ (ap (λ (t : Bool). require t MoveNotAllowed (receive_message G q n S (path_of file p) (settled_by x S.progress) i (oldest o S.queue)))
          (not-false a g)
          ∙ ap (receive_message G q n S (path_of file p) (settled_by x S.progress) i) z)

      took-as : {t : std.Result (ℕ × ℕ) Refusal} → v ≡ t → WellFormed file → p < path_count file → {G : State} {n b : ℕ} (f : InSession file s G q n slot b)
          → TakenAs file s slot o p scratch f.session t
      took-as {t} e w l f = subst (TakenAs file s slot o p scratch f.session) e (took.tells w l f.session f.living f.reads)

      pub input-refused : {why : Refusal} {r : Outcome} → v ≡ Err why → r ≡ refused_by why → ReceivesInput file q slot i x o p two s s r
      input-refused {why} z e = record {
        tells = λ w G st n b f l j.
            leaves-refused why e
            (taking G n f.session f.reads (oldest o f.session.queue) refl
            ∙ took-as z w l f G q n i (settled_by x f.session.progress));
      }

      pub input-taken : {k m : ℕ} {y : Progress} {s' : List ℕ} {r : Outcome} → v ≡ Ok (k, m) → i < 256
          → y ≡ received_by (read_entry s (entry_start slot k)).reply_to → s' ≡ stored_bytes s slot scratch m k x i y → r ≡ done_with 0
          → ReceivesInput file q slot i x o p two s s' r
      input-taken {k} {m} {y} {s'} {r} z low a' b' e = record {
        tells = λ w G st n b f l j.
            let t = took-as z w l f in
            let S = f.session in
            let E = read_entry s (entry_start slot k) in
            let F = replace_at void_value (path_of file p) E.message S.tree in
            let c = settles-small file w x j in
            let S' = received_in S F k x i y in
            let made : WellMade S' = stored-made f.living scratch m k x i y F t.2 t.1 c low in
            leaves-slot file q n slot S' w G st f.service f.number f.place made e
            (b' ∙ stored-live f.living scratch m k x i y F t.2 t.1 c low)
            (taking G n S f.reads (message E (without k S.queue)) t.0
            ∙ (ap (λ (u : Bool). require u Stuck (moved (set_slot G q n (live (received_in S F k x i (received_by E.reply_to)))) [])) t.2.fits
            ∙ ap (λ (u : Progress). moved (set_slot G q n (live (received_in S F k x i u))) []) (sym a')));
      }

-- ---- a row

module _ (file s : List ℕ) (q slot i : ℕ) (x : Option (ℕ × ℕ)) where
  pub row-past : {r : Outcome} → 255 < i → r ≡ refused_by MoveNotAllowed → ReceivesAt file q slot i x s s r
  row-past h e = record { tells = λ w G st n b f l j. absurd (omega (arith, h, l, (counts-kept file w).behaviours)) }

  module _ {v : InputRow} (is : v ≡ input_row_of file i) where
    input-view : {y : InputRow} → v ≡ y → WellFormed file → i < behaviour_count file
        → (input_of (behaviour_of file i) ≡ input_with file (behaviour_of file) i y) × InputKeptBy file (behaviour_count file) y
    input-view z w l = row-input-is file w i (behaviour_count file) (record { exists = l; enough = omega arith }) is z

    pub row_other : {r : Outcome} → v ≡ InputRow.Nothing → r ≡ refused_by MoveNotAllowed → ReceivesAt file q slot i x s s r
    unfolding receive_at
    row_other z e = record {
      tells = λ w G st n b f l j.
          leaves-refused MoveNotAllowed e (ap (receive_by G q n f.session (settled_by x f.session.progress)) (input-view z w l).0);
    }

    pub row-one-way : {o p : ℕ} {s' : List ℕ} {r : Outcome} → v ≡ InputRow.OneWay o p → ReceivesInput file q slot i x o p false s s' r
        → ReceivesAt file q slot i x s s' r
    unfolding receive_at
    row-one-way {s'} {r} z h = record {
      tells = λ w G st n b f l j.
          let k = input-view z w l in
          subst (LeavesAs s s' r) (ap (receive_by G q n f.session (settled_by x f.session.progress)) (sym k.0)) (h.tells w G st n b f k.1.1 j);
    }

    pub row-request : {o p c d : ℕ} {s' : List ℕ} {r : Outcome} → v ≡ InputRow.RequestResponse o p c d → ReceivesInput file q slot i x o p true s s' r
        → ReceivesAt file q slot i x s s' r
    unfolding receive_at
    row-request {s'} {r} z h = record {
      tells = λ w G st n b f l j.
          let k = input-view z w l in
          subst (LeavesAs s s' r) (ap (receive_by G q n f.session (settled_by x f.session.progress)) (sym k.0)) (h.tells w G st n b f k.1.1 j);
    }

pub ruleset row_laws = (row-past, row_other, row-one-way, row-request)

-- ---- the move

module _ (file s : List ℕ) (q n r : ℕ) {x : Option (ℕ × ℕ)} (runs : RunsAt file s q n x) where
  pub receive-nothing : {o : Outcome} → x ≡ None → o ≡ refused_by MoveNotAllowed → Made file (λ N G. receive_move N G q n r) s s o
  receive-nothing e f =
      made-refused file (λ N G. receive_move N G q n r) f
      (λ w G st. subst (Runs file s G q n) e (runs.tells w G st) (λ B S. receive_reached G q n S (reach S.progress r B)))

  module _ (at b : ℕ) (e : x ≡ Some (at, b)) {y : Reached} (reaches : ReachTells file (read_session s at).progress r b y) where
    inside : WellFormed file → (G : State) → StateOf file s G → InSession file s G q n at b
    inside w G st = subst (Runs file s G q n) e (runs.tells w G st)

    receiving : (w : WellFormed file) (G : State) (st : StateOf file s G) (z : Reached) → y ≡ z
        → receive_move (network_of file) G q n r ≡ receive_reached G q n (inside w G st).session (reached_as file z)
    receiving w G st z i =
        let h = inside w G st in
        in-session h (λ B S. receive_reached G q n S (reach S.progress r B))
        ∙ (ap (λ (S : Session). receive_reached G q n h.session (reach S.progress r (behaviour_of file b))) (sym h.reads)
        ∙ (ap (receive_reached G q n h.session) (sym (reaches.tells w h.row))
        ∙ ap (λ (t : Reached). receive_reached G q n h.session (reached_as file t)) i))

    pub receive-unreached : {o : Outcome} → y ≡ Reached.Unreached → o ≡ refused_by MoveNotAllowed → Made file (λ N G. receive_move N G q n r) s s o
    receive-unreached i f = made-refused file (λ N G. receive_move N G q n r) f (λ w G st. receiving w G st Reached.Unreached i)

    pub receive-reached : (j : ℕ) {s' : List ℕ} {o : Outcome} → y ≡ Reached.Reached j → ReceivesAt file q at j None s s' o
        → Made file (λ N G. receive_move N G q n r) s s' o
    receive-reached j i h = record {
      tells = λ w G st out.
          let f = inside w G st in
          (h.tells w G st n b f (reaches-row file w (read_session s at).progress r b f.row reaches j i) tt).tells out
          ∙ ap (finish s out) (sym (receiving w G st (Reached.Reached j) i));
    }

    pub receive-offered : (c k j : ℕ) {s' : List ℕ} {o : Outcome} → y ≡ Reached.Offered c k j → ReceivesAt file q at j (Some (c, k)) s s' o
        → Made file (λ N G. receive_move N G q n r) s s' o
    receive-offered c k j i h = record {
      tells = λ w G st out.
          let f = inside w G st in
          let l = offered-row file w (read_session s at).progress r b f.row reaches c k j i in
          (h.tells w G st n b f l.1 l.0).tells out ∙ ap (finish s out) (sym (receiving w G st (Reached.Offered c k j) i));
    }
