-- Sends and outside messages keep the invariant; no send gives 18 or 19, and one that gives 22 has its cause.
use Rattle.std.specs.Prelude.{◌≡◌, ℕ, ◌<◌, Bool, ◌&&◌, List, eqb, leb, length}
use Rattle.std.proofs.Math.Path.{refl, subst}
use Rattle.std.proofs.Common.{sym, ap, ◌∙◌, le→leb, lt→ltb}
use Rattle.std.proofs.Math.Bool.{true, false}
use Rattle.std.proofs.Math.Dec.{T, ltb, eqb_refl}
use Rattle.tree_forest.specs.Forest.{Tree, tree, present}
use Rattle.tree_forest.specs.Path.{Path}
use Rattle.scalar.specs.Value.{Value}
use Rattle.basics.specs.Choice.{pick}
use Rattle.basics.specs.TestLaws.{and_i, and_l, and_r}
use Rattle.network_syntax.specs.Syntax.{Optional, none, some, Network, Direction, Operation, output, Expression, Behaviour, solicit_response}
use Rattle.network_syntax.specs.Rows.{row_of, at_row, Output, output_of, from_output, is_input_operation}
use Rattle.network_syntax.specs.Meets.{in_file, met_input}
use Rattle.network.proofs.MeetsLaws.{met-input, met-entry}
use Rattle.refusal.specs.declared.Refusal.TheVariants.{MoveNotAllowed}
use Rattle.check_subtyping.specs.Subtype.{Subtype}
use Rattle.check_subtyping.proofs.SubtypeLaws.{subtype-sound, subtype-trans}
use Rattle.check_subtyping.specs.Own.{own_type, Fits}
use Rattle.check_typing.specs.Rules.{permits}
use Rattle.check_typing.specs.NetworkRules.{Agrees}
use Rattle.tree.specs.Encode.{Octets}
use Rattle.tree_forest.specs.Limits.{message_levels_below, message_nodes_below}
use Rattle.tree.specs.Decode.{decode_message}
use Rattle.tree.specs.DecodeLaws.{decode-sound}
use Rattle.state.specs.Session.{Destination, outsider, waiting_row, Progress, Progresses, done, waits, advance, Session, with_progress, live, State}
use Rattle.state.specs.Session.{set_slot}
use Rattle.state.specs.Bytes.{message_bytes}
use Rattle.state.specs.Shape.{operation_of_row, suits_reply, suits_operation}
use Rattle.move_rules.specs.Readiness.{Reached, unreached, reached, offered, reach}
use Rattle.move_rules.specs.Evaluation.{Evaluation, beyond, evaluate}
use Rattle.move_rules.specs.Targets.{Target, no_target, queue_full, queued, starts, target}
use Rattle.move_rules.specs.Moves.{Result, moved, require, on_tree, on_operation, on_message, must_fit, must_find, deliver, gone_on, admit, send_inside}
use Rattle.move_rules.specs.Moves.{send_outside, send_by, send_output, send_at, send_reached, send_move, is_input_named, input_named, outer_message_move}
use Rattle.move_rules.specs.Moves.{send}
use Rattle.soundness.specs.GoodTrees.{GoodTree}
use Rattle.soundness.proofs.LeafLaws.{GivesMessage}
use Rattle.soundness.specs.Parts.{Reaches}
use Rattle.soundness.proofs.ReachLaws.{Found, reach-found}
use Rattle.soundness.specs.Accepted.{OfFile, MadeOf, Accepted}
use Rattle.soundness.proofs.MadeLaws.{made_at, plain-solicit, reaches-at_row}
use Rattle.network_syntax.specs.ViewLaws.{some_inj, output-is}
use Rattle.soundness.specs.Invariant.{RepliesFit, SessionSound, Sound}
use Rattle.soundness.proofs.SessionLaws.{once-of, made_of, notification-sound, solicit-sound}
use Rattle.soundness.proofs.ResultLaws.{Claims, claims_of, Keeps, keeps-15, by-require, by-undone, by-session, by-operation, by-message}
use Rattle.soundness.proofs.ResultLaws.{live-inj, set-elim, by-pick, keeps-tree, keeps-fit, outside-fit, same_key, sound-set}
use Rattle.soundness.proofs.KeyedLaws.{KeyInfo, key-info}
use Rattle.state.proofs.KeyLaws.{key_in}
use Rattle.move_rules.specs.Keys.{finds_session}
use Rattle.soundness.proofs.TextLaws.{message-out}
use Rattle.soundness.specs.Property3.{output_expression, is_beyond, LeavesRange}
use Rattle.soundness.proofs.LocalLaws.{permits-one, permits-two, permits-output, message-good, leaves-range}
use Rattle.soundness.proofs.DeliverLaws.{TargetInfo, target-info, allowed-keeps, deliver-keeps, first-there, behaviour-place}

solicit-same : {r r2 : ℕ} {o o2 : Operation} {e e2 : Expression} {x x2 : Path} → solicit_response r o e x ≡ solicit_response r2 o2 e2 x2 → o ≡ o2
solicit-same h = cc

module _ (N : Network) (rows : ℕ) (acc : Accepted N rows) where
  -- An operation found among the file's.
  pub of-file : (w : ℕ) (i : Operation) → operation_of_row N.operations w ≡ some i → OfFile N i
  of-file w i e = ap (operation_of_row N.operations) (acc.operations w i e).row ∙ e

  -- The input that an output meets.
  pub record MetInput (o i : Operation) : Type 0 where
    pub of_file : OfFile N i
    pub is_in : T (is_input_operation i.direction)
    pub alike : i.two_way ≡ o.two_way

  met : (o i : Operation) → met_input N o ≡ some i → MetInput o i
  met o i e =
      let u = met-entry N o i e in
      let m = met-input N o i e in
      record {
        of_file = of-file u.0 i u.1;
        is_in = subst (λ (d : Direction). T (is_input_operation d)) (sym m.incoming) tt;
        alike = m.same_way;
      }

  pub suit-of : (i : Operation) (back : Optional Destination) → T (is_input_operation i.direction) → T (suits_reply N rows i.two_way back)
      → T (suits_operation N rows i.service back (some i))
  suit-of i back t u =
      and_i (eqb i.service i.service) (is_input_operation i.direction && suits_reply N rows i.two_way back) (eqb_refl i.service)
      (and_i (is_input_operation i.direction) (suits_reply N rows i.two_way back) t u)

  -- The target as the state is after the sender has gone on.
  gone-info : (G : State) (q n : ℕ) (S : Session) (p2 : Progresses) → G q n ≡ live S → (i : Operation) (k : ℕ) (t : Target) → TargetInfo N G i k t
      → TargetInfo N (set_slot G q n (live (with_progress S p2))) i k t
  gone-info G q n S p2 e i k no_target f = tt
  gone-info G q n S p2 e i k queue_full f = tt
  gone-info G q n S p2 e i k queued f = λ S2 e2.
      set-elim G q n (live (with_progress S p2)) i.service k (live S2)
      (λ a b c. subst (λ (z : Session). length z.queue < 4) (live-inj c)
      (f S (subst (λ (z : ℕ). G z k ≡ live S) (sym a) (subst (λ (z : ℕ). G q z ≡ live S) (sym b) e))))
      (λ g. f S2 g) e2
  gone-info G q n S p2 e i k (starts c j a) f = f

  -- The message's key by the target, then.
  gone-key : (G : State) (q n : ℕ) (S : Session) (p2 : Progresses) → G q n ≡ live S → (i : Operation) (k : ℕ) (x : Tree Value) (t : Target)
      → KeyInfo N i k x G t → KeyInfo N i k x (set_slot G q n (live (with_progress S p2))) t
  gone-key G q n S p2 e i k x no_target f = tt
  gone-key G q n S p2 e i k x queue_full f = tt
  gone-key G q n S p2 e i k x queued f = λ w. (
    (f w).0,
    (λ S2 e2.
        set-elim G q n (live (with_progress S p2)) i.service k (live S2)
        (λ a b c. (f w).1 S (subst (λ (z : ℕ). G z k ≡ live S) (sym a) (subst (λ (z : ℕ). G q z ≡ live S) (sym b) e)) ∙ ap some (ap key_in c))
        (λ g. (f w).1 S2 g) e2),
  )
  gone-key G q n S p2 e i k x (starts c j a) f = λ w. (
    (f w).0,
    (f w).1,
    (λ l S2 lo hi e2 y.
        set-elim G q n (live (with_progress S p2)) i.service l (live S2)
        (λ a b c. (f w).2 l S lo hi (subst (λ (z : ℕ). G z l ≡ live S) (sym a) (subst (λ (z : ℕ). G q z ≡ live S) (sym b) e)) (ap key_in c ∙ y))
        (λ g. (f w).2 l S2 lo hi g y) e2),
  )

  module _ (G : State) (h_g : Sound N rows G) (q n : ℕ) (S : Session) (e_s : G q n ≡ live S) (h : SessionSound N rows q n S) (to : ℕ) where
    abbrev p : Progresses
    p = S.progress

    send-by : (claims : Claims) (r : ℕ) (o : Operation) (e : Expression) (after : Progress) (back : Optional Destination) → OfFile N o → o.direction ≡ output
        → GivesMessage (evaluate S.tree e) o.request → (T (is_beyond (evaluate S.tree e)) → claims.cause)
        → SessionSound N rows q n (with_progress S (advance p r after))
        → ((i : Operation) → MetInput o i → Agrees o i → RepliesFit N i back × T (suits_reply N rows i.two_way back))
        → Keeps N rows claims (send_by N G q n S to r o e after back)
    send-by claims r o e after back fo dir g c hs dest =
        let G2 = gone_on G q n S r after in
        let h2 = sound-set N rows G q n (live (with_progress S (advance p r after))) h_g hs (same_key N rows h_g e_s refl refl) in
        let fo2 = acc.operations o.row o fo in
        by-pick N rows claims (in_file N o.location) (on_operation (met_input N o) (send_inside N G q n S to r e after back))
        (send_outside N G q n S to r o e after)
        (λ inside. by-operation N rows claims (met_input N o) (send_inside N G q n S to r e after back)
        (λ i ei.
        let m = met o i ei in
        let ag = acc.outputs o.row o i fo dir inside ei in
        let fi = acc.operations i.row i m.of_file in
        let d = dest i m ag in
        let t = target N G i to in
        let D : Tree Value → Result = λ x. deliver N G2 i to t back x in
        let K : Tree Value → Result = λ x. must_fit x i.request (must_find N G i to x (D x)) in
        allowed-keeps N rows acc claims i.service t (on_tree (evaluate S.tree e) K)
        (λ ad. keeps-tree N rows claims (evaluate S.tree e) K g cause
        (λ y k.
        let fit2 : Fits y i.request = subtype-trans k.0 ag.requests in
        keeps-fit N rows claims y i.request (must_find N G i to y (D y)) k.1 fi.rising.0 fi.small_request fit2
        (λ w. by-require N rows claims (finds_session N G i to y) (D y)
        (λ kf. deliver-keeps N rows acc claims G2 h2 i to y back
        (record { of_file = m.of_file; suit = suit-of i back m.is_in d.1; good = k.1; fit = fit2; destination = d.0 })
        t (gone-info G q n S (advance p r after) e_s i to t (target-info N rows acc G i to)) ad
        (gone-key G q n S (advance p r after) e_s i to y t (key-info N i to y G kf))))))))
        (λ outside.
        let K : Tree Value → Result = λ x. must_fit x o.request (moved G2 (message_bytes x)) in
        by-require N rows claims (eqb to 0) (on_tree (evaluate S.tree e) K)
        (λ t. keeps-tree N rows claims (evaluate S.tree e) K g cause
        (λ y k. keeps-fit N rows claims y o.request (moved G2 (message_bytes y)) k.1 fo2.rising.0 fo2.small_request k.0
        (λ w. (h2, message-out y w)))))
      where
        cause : (b : ℕ) → evaluate S.tree e ≡ beyond b → Unit {0} → claims.cause
        cause b eb u = c (subst (λ (z : Evaluation (Tree Value)). T (is_beyond z)) (sym eb) tt)

    send-by-output : (claims : Claims) (r : ℕ) (o : Operation) (e : Expression) (x : Optional Path)
        → Reaches p (from_output (record { row = r; operation = o; message = e; into = x })) h.what
        → (T (is_beyond (evaluate S.tree e)) → claims.cause)
        → Keeps N rows claims (send_output N G q n S to (some (record { row = r; operation = o; message = e; into = x })))
    unfolding MadeOf row_of
    send-by-output claims r o e none a c =
        let made = made_at N rows a (made_of N rows acc q n h.what h.runs) in
        by-undone N rows claims (p r) (require (permits q output false o) MoveNotAllowed (send_by N G q n S to r o e done none))
        (λ t. by-require N rows claims (permits q output false o) (send_by N G q n S to r o e done none)
        (λ k. let u = notification-sound N rows acc q n S h r o e a t in
        send-by claims r o e done none made.1 (permits-output q false o k) u.0 c u.1
        (λ i m ag. (tt, subst (λ (b : Bool). T (suits_reply N rows b none)) (sym (m.alike ∙ permits-one q output o k)) tt))))
    send-by-output claims r o e (some x) a c =
        let X = solicit_response r o e x in
        let m_b = made_of N rows acc q n h.what h.runs in
        let made = made_at N rows a m_b in
        let on = once-of N rows acc q n h.what h.runs in
        let at = reaches-at_row p X h.what (plain-solicit r o e x) on a in
        let place = behaviour-place N q n h.what h.runs in
        let R = send_by N G q n S to r o e waits (some (waiting_row q n r)) in
        by-undone N rows claims (p r) (require (permits q output true o) MoveNotAllowed R)
        (λ t. by-require N rows claims (permits q output true o) R
        (λ k. let u = solicit-sound N rows acc q n S h r o e x a t in
        send-by claims r o e waits (some (waiting_row q n r)) made.1 (permits-output q true o k) u.0 c u.1
        (λ i m ag. (
          (λ B e_b r2 o2 e2 x2 e3.
              let same_b : h.what ≡ B = some_inj (sym h.runs ∙ e_b) in
              let same : X ≡ solicit_response r2 o2 e2 x2 = some_inj (sym at ∙ (ap (at_row r) same_b ∙ e3)) in
              subst (λ (z : Operation). Subtype i.reply z.reply) (solicit-same same) (ag.replies (permits-two q output o k))),
          subst (λ (b : Bool). T (suits_reply N rows b (some (waiting_row q n r)))) (sym (m.alike ∙ permits-two q output o k))
              (and_i (ltb q (length N.services)) (leb n 3 && ltb r rows) (lt→ltb q (length N.services) place.0)
              (and_i (leb n 3) (ltb r rows) (le→leb n 3 place.1) (lt→ltb r rows made.0))),
        ))))

    send-at : (claims : Claims) (X : Behaviour) → Reaches p X h.what
        → ((e : Expression) → output_expression (output_of X) ≡ some e → T (is_beyond (evaluate S.tree e)) → claims.cause)
        → Keeps N rows claims (send_at N G q n S to X)
    unfolding send_at
    send-at claims X a f = seen (output_of X) refl
      where
        seen : (u : Optional Output) → output_of X ≡ u → Keeps N rows claims (send_output N G q n S to u)
        seen none e = keeps-15 N rows claims
        seen (some u) e =
            send-by-output claims u.row u.operation u.message u.into (subst (λ (z : Behaviour). Reaches p z h.what) (output-is X u e) a)
            (f u.message (ap output_expression e))

    send-reached : (claims : Claims) (i : ℕ) → (LeavesRange N G q n i (λ b. output_expression (output_of b)) → claims.cause)
        → (l : Reached) → Found p i h.what l → Keeps N rows claims (send_reached N G q n S to l)
    send-reached claims i c unreached f = keeps-15 N rows claims
    send-reached claims i c (reached X) f =
        send-at claims X f.0 (λ e its t. c (leaves-range N rows acc G h_g q n S h e_s i (λ b. output_expression (output_of b)) X f e its t))
    send-reached claims i c (offered d k b) f = keeps-15 N rows claims

  pub send-move : (G : State) → Sound N rows G → (q n r to : ℕ) → Keeps N rows (claims_of N G (send q n r to)) (send_move N G q n r to)
  send-move G h_g q n r to =
      let claims = claims_of N G (send q n r to) in
      by-session N rows claims G q n (λ B S. send_reached N G q n S to (reach S.progress r B))
      (λ B S e e_s.
      let h = h_g.sessions q n S e_s in
      let on = once-of N rows acc q n h.what h.runs in
      subst (λ (z : Behaviour). Keeps N rows claims (send_reached N G q n S to (reach S.progress r z))) (some_inj (sym h.runs ∙ e))
      (send-reached G h_g q n S e_s h to claims r (λ c. c) (reach S.progress r h.what) (reach-found S.progress r h.what on h.clean)))

  -- A message from outside, of bytes, with a u32 reply number.
  pub decoded-good : (bytes : List ℕ) (m : Tree Value) → Octets bytes → decode_message bytes ≡ present m → GoodTree m
  decoded-good bytes m oct e = message-good m (decode-sound message_levels_below message_nodes_below bytes m oct e).good

  outside-pick : (b : Bool) (k : ℕ) → k < 0x100000000 → T (suits_reply N rows b (pick b (some (outsider k)) none))
  outside-pick true k small = lt→ltb k 0x100000000 small
  outside-pick false k small = tt

  outside-destination : (i : Operation) (b : Bool) (k : ℕ) → RepliesFit N i (pick b (some (outsider k)) none)
  outside-destination i true k = tt
  outside-destination i false k = tt

  pub outside-move : (claims : Claims) → (T claims.strict → ⊥) → (G : State) → Sound N rows G → (q id n number : ℕ) (bytes : List ℕ)
      → number < 0x100000000 → Octets bytes → Keeps N rows claims (outer_message_move N G q id n number bytes)
  outside-move claims lax G h_g q id n number bytes small oct =
      let K : Operation → Result = λ i. admit N G i n (on_message (decode_message bytes)) G (pick i.two_way (some (outsider number)) none) in
      by-operation N rows claims (input_named N q id) K
      (λ i ei.
      let u = first-there (is_input_named q id) N.operations i ei in
      let is_in =
      and_l (is_input_operation i.direction) (eqb i.id id) (and_r (eqb i.service q) (is_input_operation i.direction && eqb i.id id) u.2) in
      let t = target N G i n in
      let back = pick i.two_way (some (outsider number)) none in
      let D : Tree Value → Result = λ m. must_fit m i.request (must_find N G i n m (deliver N G i n t back m)) in
      allowed-keeps N rows acc claims i.service t (on_message (decode_message bytes) D)
      (λ ad. by-message N rows claims (decode_message bytes) D
      (λ m em. outside-fit N rows claims lax m i.request (must_find N G i n m (deliver N G i n t back m))
      (λ f. by-require N rows claims (finds_session N G i n m) (deliver N G i n t back m)
      (λ kf. deliver-keeps N rows acc claims G h_g i n m back
      (record {
        of_file = of-file u.0 i u.1;
        suit = suit-of i back is_in (outside-pick i.two_way number small);
        good = decoded-good bytes m oct em;
        fit = subtype-sound (own_type m) i.request f;
        destination = outside-destination i i.two_way number;
      })
      t (target-info N rows acc G i n) ad (key-info N i n m G kf))))))
