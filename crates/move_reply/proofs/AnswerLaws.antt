-- A reply made, at each of the ways out of the code.
use mathlib.Core.Path.{◌≡◌, refl, sym, ap, subst, ◌∙◌}
use mathlib.Core.Bool.{true}
use mathlib.Core.List.{List, [], ◌∷◌, ◌++◌}
use Prim.Native.Nat.{ℕ, ◌≤◌, ◌<◌}
use native.Mathlib.Omega.{arith}
use types.Run.{OneOf, miss}
use denote.Enum.Declared.{tag_of}
use lib.ListN.{length, take, drop}
use Rattle.tree_forest.specs.Forest.{Tree, Lookup}
use Rattle.tree_forest.specs.Path.{Path, read}
use Rattle.scalar.specs.Value.{Value}
use Rattle.tree.specs.Encode.{Encodes}
use Rattle.tree_forest.specs.Limits.{session_levels, session_nodes}
use Rattle.tree_edit.specs.Wrote.{Wrote}
use Rattle.tree_edit.specs.WroteLaws.{wrote-all}
use Rattle.refusal.specs.declared.Refusal.{Refusal}
use Rattle.refusal.specs.declared.Refusal.TheVariants.{MoveNotAllowed, Stuck, MessageMisfit}
use Rattle.refusal.specs.declared.Outcome.{Outcome}
use Rattle.refusal.specs.Refusal.{done_with, refused_by}
use Rattle.network_syntax.specs.Syntax.{Network, Operation}
use Rattle.network_syntax.specs.Rows.{at_row}
use Rattle.network.specs.Form.{WellFormed}
use Rattle.network.specs.Layout.{path_count, operation_count}
use Rattle.network.specs.Rows.{reply_type}
use Rattle.network.specs.Decode.{path_of, operation_of, behaviour_of, network_of}
use Rattle.state.specs.Session.{Destination, waiting_row, Progress, done, Session, State}
use Rattle.state.specs.Bytes.{message_bytes, state_bytes, read_session}
use Rattle.wire.specs.Wire.{u32_bytes}
use Rattle.state.proofs.SizeLaws.{message-size}
use Rattle.state_destinations.specs.declared.Destination as destination
use Rattle.state_destinations.specs.Meaning.{destination_of}
use Rattle.state_progress.specs.declared.Progress as coded
use Rattle.state_progress.specs.Meaning.{meaning}
use Rattle.state_progress.specs.contracts.Progress as progress
use Rattle.state_progress.specs.Stored.{row_stored}
use Rattle.move_rules.specs.Evaluation.{Evaluation, found}
use Rattle.move_rules.specs.Moves.{Result, moved, not_allowed, on_tree, on_received, must_fit, on_waiting_row, take_reply, gone_on, reply_to, reply_at, reply_move}
use Rattle.move_rules.specs.Step.{finish}
use Rattle.state_slots.specs.Living.{Living}
use Rattle.move_frame.specs.Made.{StateOf, MadeOut, InSession, Runs, RunsAt}
use Rattle.move_frame.specs.MadeLaws.{in-session, running, refused-step, made-out-refused}
use Rattle.move_waiting.specs.Waiting as waiting
use Rattle.move_waiting.specs.declared.Sender.{Sender}
use Rattle.move_waiting.specs.Waiting.{waiting_as, WaitsAt, TakesReply}
use Rattle.move_waiting.specs.WaitingLaws.{waits_in, reply-passes}
use Rattle.move_fitting.specs.Fitting.{fitting_tree, Passed, Passes}
use Rattle.move_fitting.specs.FittingLaws.{value-comes}
use Rattle.move_frame.specs.HoldingLaws.{gone-holding}
use Rattle.move_reply.specs.Replying.{replying_as, ReplyRowsExist, ReplyingAt, ReadAs, ReadsReply, RepliesOutside, RepliesInside}
use Rattle.std.specs.Prelude.{Option, Some, None}
use Rattle.std.specs.Prelude as std
use Rattle.std.specs.Prelude.{Ok, Err}

pub reply-inside : {file s : List ℕ} {slot c : ℕ} {o : List ℕ} {x : Option ℕ} {n : ℕ} → ReadsReply file s slot c o x → x ≡ Some n → n ≤ length o
reply-inside {n = n} h e = h.inside n e

pub waiting-small : {file s : List ℕ} {slot b q r o p : ℕ} {y : Option (ℕ × ℕ)} → WaitsAt file s slot b q r y → y ≡ Some (o, p) → r < 256
waiting-small {o = o} {p = p} h e = h.small o p e

pub replying-small : {file s : List ℕ} {slot b q r o c : ℕ} {y : Option (ℕ × ℕ)} → ReplyingAt file s slot b q r y → y ≡ Some (o, c) → r < 256
replying-small {o = o} {c = c} h e = h.small o c e

-- ---- what comes as a reply

abbrev read_value : List ℕ → ℕ → Session → Evaluation (Tree Value)
read_value file c S = found (read (path_of file c) S.tree)

module _ {file s buf : List ℕ} {slot c : ℕ} {x : Option ℕ} (k : ReadsReply file s slot c buf x) {n : ℕ} (e : x ≡ Some n) (m : List ℕ) (t : m ≡ take n buf)
    (o : ℕ) {y : ℕ} (r : y ≡ reply_type file o) {v : std.Result (Unit {0}) Refusal} (p : Passes m file y MessageMisfit v) where
  reply-passed : {u : std.Result (Unit {0}) Refusal} → v ≡ u → WellFormed file → c < path_count file → o < operation_count file → (operation_of file o).two_way ≡ true → (S : Session)
      → Living s slot S → Passed u m (fitting_tree (read_value file c S) (operation_of file o).reply)
  reply-passed g w l lo two S h =
      let y = read_value file c S in
      let z = subst (λ (d : Option ℕ). ReadAs buf d (read (path_of file c) S.tree)) e (k.tells w l S h) in
      let enc : Encodes session_levels session_nodes m z.0 = subst (λ (d : List ℕ). Encodes session_levels session_nodes d z.0) (sym t) z.2 in
      subst (λ (d : std.Result (Unit {0}) Refusal). Passed d m (fitting_tree y (operation_of file o).reply)) g
      (reply-passes o p r w lo two (fitting_tree y (operation_of file o).reply) (value-comes z.0 (operation_of file o).reply y enc (ap found z.1)))

-- ---- `reply_outside`

module _ (file s : List ℕ) (slot r o c number : ℕ) (out : List ℕ) where
  pub outside-short : {a : Outcome} → length out < 512 → RepliesOutside file s slot r o c number s out out a
  outside-short l = record { tells = λ w i G st q n b h k. absurd (omega (arith, l, k)) }

  abbrev sends : State → ℕ → ℕ → Session → Tree Value → Result
  sends G q n S m = must_fit m (operation_of file o).reply (moved (gone_on G q n S r done) (u32_bytes number ++ message_bytes m))

  module _ {buf : List ℕ} {x : Option ℕ} (k : ReadsReply file s slot c buf x) where
    pub outside-missing : {a : Outcome} → x ≡ None → a ≡ refused_by Stuck → RepliesOutside file s slot r o c number s out out a
    outside-missing e f = record {
      tells = λ w i G st q n b h j.
          refused-step f (ap (λ (l : Lookup Value). on_tree (found l) (sends G q n h.session))
          (subst (λ (y : Option ℕ). ReadAs buf y (read (path_of file c) h.session.tree)) e (k.tells w i.1 h.session h.living)));
    }

    module _ {n : ℕ} (e : x ≡ Some n) (m : List ℕ) (t : m ≡ take n buf) {y : ℕ} (i : y ≡ reply_type file o) {v : std.Result (Unit {0}) Refusal}
        (p : Passes m file y MessageMisfit v) where
      abbrev written : State → ℕ → ℕ → Session → Tree Value → Result
      written G q j S m = moved (gone_on G q j S r done) (u32_bytes number ++ message_bytes m)

      passed : {u : std.Result (Unit {0}) Refusal} → v ≡ u → WellFormed file → ReplyRowsExist file (Some (o, c)) → (S : Session) → Living s slot S
          → Passed u m (fitting_tree (read_value file c S) (operation_of file o).reply)
      passed g w j S h = reply-passed k e m t o i p g w j.1 j.0 j.2 S h

      pub outside-not : {why : Refusal} {a : Outcome} → v ≡ Err why → a ≡ refused_by why
          → RepliesOutside file s slot r o c number s out out a
      outside-not g d = record {
        tells = λ w i G st q j b h l.
            refused-step d (passed g w i h.session h.living (written G q j h.session));
      }

      module _ (g : v ≡ (Ok tt)) where
        pub outside-long : {a : Outcome} → length m ≡ n → 508 < n → RepliesOutside file s slot r o c number s out out a
        outside-long u f = record {
          tells = λ w i G st q j b h l.
              let ms = passed g w i h.session h.living in
              absurd (omega (arith, f, u, ap length ms.1.bytes, message-size ms.0 ms.1.good));
        }

        pub outside-done : {s₁ out' : List ℕ} {v : ℕ} {a : Outcome} → r < 256 → s₁ ≡ row_stored s slot r done
            → Wrote out out' 0 v v (u32_bytes number ++ m) → a ≡ done_with v → RepliesOutside file s slot r o c number s₁ out out' a
        outside-done {s₁} {out'} {v} {a} l f wr d = record {
          tells = λ w i G st q j b h len.
              let k2 = passed g w i h.session h.living in
              let bytes = u32_bytes number ++ message_bytes k2.0 in
              let eb : u32_bytes number ++ m ≡ bytes = ap (λ (y : List ℕ). u32_bytes number ++ y) k2.1.bytes in
              let ev : v ≡ length bytes = sym wr.size ∙ ap length eb in
              let eo : out' ≡ bytes ++ drop (length bytes) out =
              wrote-all wr ∙ (ap (λ (y : List ℕ). y ++ drop v out) eb ∙ ap (λ (y : ℕ). bytes ++ drop y out) ev) in
              let es = (gone-holding h r done st l f).bytes in
              ap (λ (y : Outcome). record { outcome = y; state = s₁; out = out' }) (d ∙ ap done_with ev)
              ∙ (ap (λ (y : List ℕ). record { outcome = done_with (length bytes); state = y; out = out' }) es
              ∙ (ap (λ (y : List ℕ). record {
                outcome = done_with (length bytes);
                state = state_bytes (gone_on G q j h.session r done);
                out = y;
              }) eo
              ∙ ap (finish s out) (sym (k2.2 (written G q j h.session)))));
        }

-- ---- `reply_inside`

module _ (file s : List ℕ) (slot r c q2 n2 r2 : ℕ) {x : Option (ℕ × ℕ)} (h2 : RunsAt file s q2 n2 x) where
  abbrev fitted : State → ℕ → ℕ → Session → Operation → Path → Tree Value → Result
  fitted G q n S o p m = must_fit m o.reply (take_reply (gone_on G q n S r done) q2 n2 r2 p m)

  abbrev replies : State → ℕ → ℕ → Session → Operation → Path → Result
  replies G q n S o p = on_tree (read_value file c S) (fitted G q n S o p)

  pub inside-nothing : {a : Outcome} → x ≡ None → a ≡ refused_by MoveNotAllowed → RepliesInside file s slot r c q2 n2 r2 s a
  inside-nothing e f = record {
    tells = λ w l G st q n b h o out. refused-step f (subst (Runs file s G q2 n2) e (h2.tells w G st) _);
  }

  module _ {to b2 : ℕ} (e : x ≡ Some (to, b2)) {y : Option (ℕ × ℕ)} (k : WaitsAt file s to b2 q2 r2 y) where
    waiting-session : WellFormed file → (G : State) → StateOf file s G → InSession file s G q2 n2 to b2
    waiting-session w G st = subst (Runs file s G q2 n2) e (h2.tells w G st)

    inside_is : WellFormed file → (G : State) → StateOf file s G → (q n : ℕ) (S : Session) (o : Operation)
        → reply_to (network_of file) G q n S r o (path_of file c) (waiting_row q2 n2 r2) ≡ waiting_as file y (replies G q n S)
    inside_is w G st q n S o =
        let i = waiting-session w G st in
        in-session i (λ B S2. on_waiting_row q2 S2 (at_row r2 B) (replies G q n S)) ∙ waits_in i k w (replies G q n S)

    pub inside-not-waiting : {a : Outcome} → y ≡ None → a ≡ refused_by MoveNotAllowed → RepliesInside file s slot r c q2 n2 r2 s a
    inside-not-waiting g f = record {
      tells = λ w l G st q n b h o out.
          refused-step f (inside_is w G st q n h.session o ∙ ap (λ (z : Option (ℕ × ℕ)). waiting_as file z (replies G q n h.session)) g);
    }

    module _ {o2 p : ℕ} (g : y ≡ Some (o2, p)) {buf : List ℕ} {z : Option ℕ} (v : ReadsReply file s slot c buf z) where
      inside-row : WellFormed file → (G : State) → StateOf file s G → (q n : ℕ) (S : Session) (o : Operation)
          → reply_to (network_of file) G q n S r o (path_of file c) (waiting_row q2 n2 r2) ≡ replies G q n S (operation_of file o2) (path_of file p)
      inside-row w G st q n S o = inside_is w G st q n S o ∙ ap (λ (i : Option (ℕ × ℕ)). waiting_as file i (replies G q n S)) g

      pub inside-missing : {a : Outcome} → z ≡ None → a ≡ refused_by Stuck → RepliesInside file s slot r c q2 n2 r2 s a
      inside-missing d f = record {
        tells = λ w l G st q n b h o out.
            refused-step f (inside-row w G st q n h.session o
            ∙ ap (λ (i : Lookup Value). on_tree (found i) (fitted G q n h.session (operation_of file o2) (path_of file p)))
            (subst (λ (i : Option ℕ). ReadAs buf i (read (path_of file c) h.session.tree)) d (v.tells w l h.session h.living)));
      }

      module _ {j : ℕ} (d : z ≡ Some j) (m : List ℕ) (t : m ≡ take j buf) {u : ℕ} (ty : u ≡ reply_type file o2) {vd : std.Result (Unit {0}) Refusal}
          (ps : Passes m file u MessageMisfit vd) where
        rows-exist : WellFormed file → (G : State) → StateOf file s G → waiting.WaitingRowsExist file (Some (o2, p))
        rows-exist w G st = subst (waiting.WaitingRowsExist file) g (k.exists w (waiting-session w G st).row)

        abbrev takes : State → ℕ → ℕ → Session → Tree Value → Result
        takes G q n S = take_reply (gone_on G q n S r done) q2 n2 r2 (path_of file p)

        passed-in : {a : std.Result (Unit {0}) Refusal} → vd ≡ a → WellFormed file → c < path_count file → (G : State) → StateOf file s G → (S : Session) → Living s slot S
            → Passed a m (fitting_tree (read_value file c S) (operation_of file o2).reply)
        passed-in i w l G st S h =
            let ex = rows-exist w G st in
            reply-passed v d m t o2 ty ps i w l ex.0 ex.2 S h

        pub inside-not : {why : Refusal} {a : Outcome} → vd ≡ Err why → a ≡ refused_by why
            → RepliesInside file s slot r c q2 n2 r2 s a
        inside-not i f = record {
          tells = λ w l G st q n b h o out.
              refused-step f (inside-row w G st q n h.session o ∙ passed-in i w l G st h.session h.living (takes G q n h.session));
        }

        pub inside-taken : {s' : List ℕ} {a : Outcome} → vd ≡ (Ok tt) → TakesReply file s (Sender.Row slot r) to r2 p m s' a
            → RepliesInside file s slot r c q2 n2 r2 s' a
        inside-taken i f = record {
          tells = λ w l G st q n b h o out.
              let a = passed-in i w l G st h.session h.living in
              f.tells w (rows-exist w G st).1 G st (gone_on G q n h.session r done) (q, n, b, (h, refl)) q2 n2 b2 (waiting-session w G st) a.0 a.1 out
              ∙ ap (finish s out) (sym (inside-row w G st q n h.session o ∙ a.2 (takes G q n h.session)));
        }

-- ---- `reply_move`

module _ (file s out : List ℕ) (q n r : ℕ) where
  abbrev moves : Network → State → Result
  moves N G = reply_move N G q n r

  module _ {x : Option (ℕ × ℕ)} (h : RunsAt file s q n x) where
    pub move-nothing : {a : Outcome} → x ≡ None → a ≡ refused_by MoveNotAllowed → MadeOut file moves s s out out a
    move-nothing e f = made-out-refused file moves f (λ w G st. subst (Runs file s G q n) e (h.tells w G st) _)

    module _ {slot b : ℕ} (e : x ≡ Some (slot, b)) {y : Option (ℕ × ℕ)} (k : ReplyingAt file s slot b q r y) where
      move-is : (w : WellFormed file) (G : State) (st : StateOf file s G)
          → moves (network_of file) G ≡ replying_as file (network_of file) G q n (running h e w G st).session r y
      move-is w G st =
          let i = running h e w G st in
          in-session i (λ B S. reply_at (network_of file) G q n S (at_row r B))
          ∙ subst (λ (S : Session). reply_at (network_of file) G q n S (at_row r (behaviour_of file b)) ≡ replying_as file (network_of file) G q n S r y) i.reads
          (k.tells w i.row (network_of file) G n)

      pub move-not-allowed : {a : Outcome} → y ≡ None → a ≡ refused_by MoveNotAllowed → MadeOut file moves s s out out a
      move-not-allowed g f =
          made-out-refused file moves f (λ w G st. move-is w G st
          ∙ ap (λ (z : Option (ℕ × ℕ)). replying_as file (network_of file) G q n (running h e w G st).session r z) g)

      module _ {o c : ℕ} (g : y ≡ Some (o, c)) (p : coded.Progress) (m : meaning p ≡ (read_session s slot).progress r) where
        abbrev next : State → Session → Destination → Result
        next G S to = reply_to (network_of file) G q n S r (operation_of file o) (path_of file c) to

        move_row : (w : WellFormed file) (G : State) (st : StateOf file s G)
            → moves (network_of file) G ≡ on_received (meaning p) (next G (running h e w G st).session)
        move_row w G st =
            let i = running h e w G st in
            move-is w G st ∙ (ap (λ (z : Option (ℕ × ℕ)). replying_as file (network_of file) G q n i.session r z) g
            ∙ ap (λ (z : Progress). on_received z (next G i.session)) (ap (λ (S : Session). S.progress r) (sym i.reads) ∙ sym m))

        exists : (w : WellFormed file) (G : State) → StateOf file s G → ReplyRowsExist file (Some (o, c))
        exists w G st = subst (ReplyRowsExist file) g (k.exists w (running h e w G st).row)

        pub move-outside : {d : destination.Destination} {v : ℕ} {s' out' : List ℕ} {a : Outcome} → p ≡ coded.Progress.Received d → d ≡ destination.Destination.Outsider v
            → RepliesOutside file s slot r o c v s' out out' a
            → MadeOut file moves s s' out out' a
        move-outside j d f = record {
          tells = λ w G st l.
              let i = running h e w G st in
              f.tells w (exists w G st) G st q n b i l
              ∙ ap (finish s out) (sym (move_row w G st ∙ (ap (λ (z : coded.Progress). on_received (meaning z) (next G i.session)) j
              ∙ ap (λ (z : destination.Destination). next G i.session (destination_of z)) d)));
        }

        pub move-inside : {d : destination.Destination} {a2 c2 q2 n2 r2 : ℕ} {s' : List ℕ} {a : Outcome} → p ≡ coded.Progress.Received d
            → d ≡ destination.Destination.WaitingRow a2 c2 r2 → q2 ≡ a2 → n2 ≡ c2
            → RepliesInside file s slot r c q2 n2 r2 s' a → MadeOut file moves s s' out out a
        move-inside {a2 = a2} {c2 = c2} {q2 = q2} {n2 = n2} {r2 = r2} j d u v f = record {
          tells = λ w G st l.
              let i = running h e w G st in
              f.tells w (exists w G st).1 G st q n b i (operation_of file o) out
              ∙ ap (finish s out) (sym (move_row w G st ∙ (ap (λ (z : coded.Progress). on_received (meaning z) (next G i.session)) j
              ∙ (ap (λ (z : destination.Destination). next G i.session (destination_of z)) d
              ∙ (ap (λ (z : ℕ). next G i.session (waiting_row z c2 r2)) (sym u) ∙ ap (λ (z : ℕ). next G i.session (waiting_row q2 z r2)) (sym v))))));
        }

        pub move-not-received : {a : Outcome} → OneOf (0 ∷ 1 ∷ 2 ∷ 3 ∷ []) (tag_of progress.the_type p) → a ≡ refused_by MoveNotAllowed
            → MadeOut file moves s s out out a
        move-not-received j f = made-out-refused file moves f (λ w G st. move_row w G st ∙ none-received p G (running h e w G st).session j)
          where
            none-received : (p : coded.Progress) (G : State) (S : Session) → OneOf (0 ∷ 1 ∷ 2 ∷ 3 ∷ []) (tag_of progress.the_type p)
                → on_received (meaning p) (next G S) ≡ not_allowed
            none-received coded.Progress.Undone G S k = refl
            none-received coded.Progress.Done G S k = refl
            none-received coded.Progress.Waits G S k = refl
            none-received (coded.Progress.Taken i) G S k = refl
            none-received (coded.Progress.Received d) G S k = absurd (miss (0 ∷ 1 ∷ 2 ∷ 3 ∷ []) 4 tt k)
