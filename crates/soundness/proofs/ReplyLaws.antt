-- Replies, also from outside, keep the invariant; no reply gives 18, 19 or 22.
use Rattle.std.specs.Prelude.{◌≡◌, ℕ, false, List, [], ◌++◌, eqb}
use Rattle.std.proofs.Math.Path.{refl, ap}
use Rattle.std.proofs.Common.{sym, subst, ◌∙◌, eqb→eq}
use Rattle.std.proofs.Math.Bool.{true}
use Rattle.std.proofs.Math.Dec.{T}
use Rattle.tree_forest.specs.Forest.{Tree}
use Rattle.tree_forest.specs.Path.{Path, read, replace_at}
use Rattle.scalar.specs.Value.{Value}
use Rattle.basics.specs.Choice.{pick}
use Rattle.network_syntax.specs.Syntax.{Optional, none, some, Network, Operation, input, output, Expression, Behaviour, request_response}
use Rattle.network_syntax.specs.Syntax.{solicit_response}
use Rattle.network_syntax.specs.Rows.{row_of, at_row, Response, Input, input_of, from_input, Output, output_of, from_output}
use Rattle.network_syntax.specs.Meets.{in_file}
use Rattle.refusal.specs.declared.Refusal.TheVariants.{MoveNotAllowed}
use Rattle.check_subtyping.proofs.SubtypeLaws.{subtype-sound, subtype-trans}
use Rattle.check_subtyping.specs.Own.{own_type, Fits}
use Rattle.check_typing.specs.Rules.{permits}
use Rattle.tree.specs.Encode.{Octets}
use Rattle.tree.specs.Decode.{decode_message}
use Rattle.state.specs.Session.{Destination, outsider, waiting_row, Progress, Progresses, done, waits}
use Rattle.state.specs.Session.{received, advance, Session, with_tree, with_progress, live, State}
use Rattle.state.specs.Bytes.{message_bytes}
use Rattle.wire.specs.Wire.{u32_bytes}
use Rattle.state.specs.Shape.{behaviour_in}
use Rattle.move_rules.specs.Readiness.{is_done}
use Rattle.move_rules.specs.Evaluation.{found}
use Rattle.move_rules.specs.Moves.{Result, moved, not_allowed, require, on_tree, on_message, save_within, must_fit}
use Rattle.scalar.specs.Value.{void_value}
use Rattle.move_rules.specs.Moves.{on_waiting_output, on_waiting_row, take_reply, gone_on, reply_to, reply_by, reply_at, reply_move, outer_reply_move}
use Rattle.soundness.specs.GoodTrees.{GoodTree}
use Rattle.soundness.proofs.LeafLaws.{GivesReply}
use Rattle.soundness.specs.Parts.{Reaches}
use Rattle.soundness.specs.Parts.{is_open, Opens, asking, serving}
use Rattle.soundness.specs.Accepted.{OfFile, MadeOf, Accepted}
use Rattle.soundness.proofs.MadeLaws.{made_at, Plain, plain-request, plain-solicit, reaches-at_row, at_row-row}
use Rattle.network_syntax.specs.ViewLaws.{some_inj, input-is, output-is}
use Rattle.soundness.specs.Invariant.{SessionSound, Sound}
use Rattle.soundness.proofs.SessionLaws.{once-of, made_of, advance-apart, answer-sound, waiting-sound, waits-received}
use Rattle.soundness.proofs.ResultLaws.{Claims, Keeps, goes-keeps, keeps-15, by-require, by-received, by-waiting, by-session}
use Rattle.soundness.proofs.ResultLaws.{by-live, by-message, live-inj, set-elim, by-pick, keeps-tree, keeps-fit, outside-fit, same_key, sound-set}
use Rattle.soundness.proofs.TextLaws.{reply-out}
use Rattle.soundness.proofs.LocalLaws.{save-goes}
use Rattle.soundness.proofs.SendLaws.{decoded-good}

opens_row : {i : ℕ} {W : Behaviour} → Opens i W → row_of W ≡ i
unfolding row_of
opens_row asking = refl
opens_row serving = refl

opens_plain : {i : ℕ} {W : Behaviour} → Opens i W → Plain W
opens_plain {i} (asking {o} {e} {x}) = plain-solicit i o e x
opens_plain {i} (serving {o} {x} {c} {d}) = plain-request i o x c d

module _ (N : Network) (rows : ℕ) (acc : Accepted N rows) where
  -- An open row that is found wherever it stands is reached.
  open-reached : (q n : ℕ) (S : Session) (h : SessionSound N rows q n S) (r : ℕ) (X : Behaviour) → at_row r h.what ≡ some X → T (is_open (S.progress r))
      → Reaches S.progress X h.what
  open-reached q n S h r X e t =
      let k = h.opened r (at_row-row r h.what X e).1 t in
      let on = once-of N rows acc q n h.what h.runs in
      let at : at_row r h.what ≡ some k.what =
      subst (λ (z : ℕ). at_row z h.what ≡ some k.what) (opens_row k.kind)
      (reaches-at_row S.progress k.what h.what (opens_plain k.kind) on k.way) in
      subst (λ (z : Behaviour). Reaches S.progress z h.what) (some_inj (sym at ∙ e)) k.way

  -- A waiting row takes its reply.
  take-keeps : (claims : Claims) (G : State) → Sound N rows G → (q n r : ℕ) (B : Behaviour) → behaviour_in N q n ≡ some B
      → (o : Operation) (e : Expression) (x : Path)
      → at_row r B ≡ some (solicit_response r o e x) → (m : Tree Value) → GoodTree m → Fits m o.reply
      → ((S : Session) → G q n ≡ live S → S.progress r ≡ waits)
      → Keeps N rows claims (take_reply G q n r x m)
  take-keeps claims G h_g q n r B e_b o e x at m gm f w =
      by-live N rows claims (G q n) (λ S. save_within G q n (with_progress (with_tree S (replace_at void_value x m S.tree)) (advance S.progress r done)) [])
      (λ S e_s.
      let h = h_g.sessions q n S e_s in
      let at2 : at_row r h.what ≡ some (solicit_response r o e x) = ap (at_row r) (some_inj (sym h.runs ∙ e_b)) ∙ at in
      let ew = w S e_s in
      let way = open-reached q n S h r (solicit_response r o e x) at2 (subst (λ (s : Progress). T (is_open s)) (sym ew) tt) in
      goes-keeps N rows claims false (save_within G q n (with_progress (with_tree S (replace_at void_value x m S.tree)) (advance S.progress r done)) [])
      (λ t. absurd t) (save-goes N rows acc G q n (with_progress (with_tree S (replace_at void_value x m S.tree)) (advance S.progress r done)) h_g
      (waiting-sound N rows acc q n S h r o e x m way ew gm f) (same_key N rows h_g e_s refl refl)))

  -- The row that waits, found wherever it stands.
  by-waiting-row : (claims : Claims) (q : ℕ) (S : Session) (r : ℕ) (B : Behaviour) (k : Operation → Path → Result)
      → ((o : Operation) (e : Expression) (x : Path) → at_row r B ≡ some (solicit_response r o e x) → S.progress r ≡ waits
      → T (permits q output true o) → Keeps N rows claims (k o x))
      → Keeps N rows claims (on_waiting_row q S (at_row r B) k)
  unfolding row_of
  by-waiting-row claims q S r B k f = go (at_row r B) refl
    where
      waits-at : (r2 : ℕ) (o : Operation) (g : Expression) (x : Optional Path)
          → at_row r B ≡ some (from_output (record { row = r2; operation = o; message = g; into = x }))
          → Keeps N rows claims (on_waiting_output q S (some (record { row = r2; operation = o; message = g; into = x })) k)
      waits-at r2 o g none e = keeps-15 N rows claims
      waits-at r2 o g (some x) e =
          let er : r2 ≡ r = (at_row-row r B (solicit_response r2 o g x) e).0 in
          by-waiting N rows claims (S.progress r2) (require (permits q output true o) MoveNotAllowed (k o x))
          (λ t. by-require N rows claims (permits q output true o) (k o x)
          (λ pm. f o g x (subst (λ (z : ℕ). at_row r B ≡ some (solicit_response z o g x)) er e) (subst (λ (z : ℕ). S.progress z ≡ waits) er t) pm))

      seen : (b : Behaviour) → at_row r B ≡ some b → (u : Optional Output) → output_of b ≡ u → Keeps N rows claims (on_waiting_output q S u k)
      seen b e none h = keeps-15 N rows claims
      seen b e (some u) h =
          waits-at u.row u.operation u.message u.into (subst (λ (z : Behaviour). at_row r B ≡ some z) (output-is b u h) e)

      go : (l : Optional Behaviour) → at_row r B ≡ l → Keeps N rows claims (on_waiting_row q S l k)
      go none e = keeps-15 N rows claims
      go (some b) e = seen b e (output_of b) refl

  module _ (G : State) (h_g : Sound N rows G) (q n : ℕ) (S : Session) (e_s : G q n ≡ live S) (h : SessionSound N rows q n S) where
    abbrev p : Progresses
    p = S.progress

    answer : (claims : Claims) (r : ℕ) (o : Operation) (x c : Path) (d : Behaviour) (to : Destination)
        → at_row r h.what ≡ some (request_response r o x c d) → p r ≡ received to → T (is_done p d) → Keeps N rows claims (reply_to N G q n S r o c to)
    unfolding MadeOf
    answer claims r o x c d to at t dn =
        let way = open-reached q n S h r (request_response r o x c d) at (subst (λ (s : Progress). T (is_open s)) (sym t) tt) in
        go to t (answer-sound N rows acc q n S h r o x c d to way t dn) (made_at N rows way (made_of N rows acc q n h.what h.runs)).1
      where
        G2 : State
        G2 = gone_on G q n S r done

        go : (to : Destination) → p r ≡ received to
            → GivesReply (read c S.tree) o.reply × SessionSound N rows q n (with_progress S (advance p r done))
            → OfFile N o → Keeps N rows claims (reply_to N G q n S r o c to)
        go (outsider k) t u fo =
            let K : Tree Value → Result = λ m. must_fit m o.reply (moved G2 (u32_bytes k ++ message_bytes m)) in
            let f = acc.operations o.row o fo in
            keeps-tree N rows claims (found (read c S.tree)) K u.0 (λ b eb z. absurd z)
            (λ y v. keeps-fit N rows claims y o.reply (moved G2 (u32_bytes k ++ message_bytes y)) v.1 f.rising.1 f.small_reply v.0
            (λ w. (sound-set N rows G q n (live (with_progress S (advance p r done))) h_g u.1 (same_key N rows h_g e_s refl refl), reply-out k y w)))
        go (waiting_row q2 n2 r2) t u fo =
            let h2 = sound-set N rows G q n (live (with_progress S (advance p r done))) h_g u.1 (same_key N rows h_g e_s refl refl) in
            let K : Behaviour → Session → Result = λ B2 S2. on_waiting_row q2 S2 (at_row r2 B2)
            (λ o2 x2. on_tree (found (read c S.tree)) (λ m. must_fit m o2.reply (take_reply G2 q2 n2 r2 x2 m))) in
            by-session N rows claims G q2 n2 K
            (λ B2 S2 e_b e_s2. by-waiting-row claims q2 S2 r2 B2
            (λ o2 x2. on_tree (found (read c S.tree)) (λ m. must_fit m o2.reply (take_reply G2 q2 n2 r2 x2 m)))
            (λ o2 e2 x2 at2 ew pm.
            let h3 = h_g.sessions q2 n2 S2 e_s2 in
            let at3 : at_row r2 h3.what ≡ some (solicit_response r2 o2 e2 x2) = ap (at_row r2) (some_inj (sym h3.runs ∙ e_b)) ∙ at2 in
            let way2 = open-reached q2 n2 S2 h3 r2 (solicit_response r2 o2 e2 x2) at3 (subst (λ (s : Progress). T (is_open s)) (sym ew) tt) in
            let f2 = acc.operations o2.row o2 (made_at N rows way2 (made_of N rows acc q2 n2 h3.what h3.runs)).1 in
            keeps-tree N rows claims (found (read c S.tree)) (λ m. must_fit m o2.reply (take_reply G2 q2 n2 r2 x2 m)) u.0 (λ b eb z. absurd z)
            (λ y v.
            let fit2 : Fits y o2.reply = subtype-trans v.0 (h.replies r (waiting_row q2 n2 r2) t r o x c d at B2 e_b r2 o2 e2 x2 at2) in
            keeps-fit N rows claims y o2.reply (take_reply G2 q2 n2 r2 x2 y) v.1 f2.rising.1 f2.small_reply fit2
            (λ w. take-keeps claims G2 h2 q2 n2 r2 B2 e_b o2 e2 x2 at2 y v.1 fit2
            (λ S3 e3. set-elim G q n (live (with_progress S (advance p r done))) q2 n2 (live S3)
            (λ a b c3.
            let same_s : S2 ≡ S = live-inj (sym e_s2 ∙ (subst (λ (z : ℕ). G z n2 ≡ live S) (sym a) (subst (λ (z : ℕ). G q z ≡ live S) (sym b) e_s))) in
            let ew2 : p r2 ≡ waits = subst (λ (z : Session). z.progress r2 ≡ waits) same_s ew in
            let other : T (eqb r2 r) → ⊥ = λ z. waits-received (sym ew2 ∙ (ap p (eqb→eq r2 r z) ∙ t)) in
            subst (λ (z : Session). z.progress r2 ≡ waits) (live-inj c3) (sym (advance-apart p r done r2 other) ∙ ew2))
            (λ g. subst (λ (z : Session). z.progress r2 ≡ waits) (live-inj (sym e_s2 ∙ g)) ew) e3)))))

    reply-by : (claims : Claims) (r r2 : ℕ) (o : Operation) (x : Path) (a : Optional Response)
        → at_row r h.what ≡ some (from_input (record { row = r2; operation = o; into = x; response = a }))
        → Keeps N rows claims (reply_by N G q n S (some (record { row = r2; operation = o; into = x; response = a })))
    unfolding row_of
    reply-by claims r r2 o x none e = keeps-15 N rows claims
    reply-by claims r r2 o x (some a) e =
        let c = a.path in
        let d = a.body in
        let er : r2 ≡ r = (at_row-row r h.what (request_response r2 o x c d) e).0 in
        let at : at_row r2 h.what ≡ some (request_response r2 o x c d) = ap (λ (z : ℕ). at_row z h.what) er ∙ e in
        by-received N rows claims (p r2) (λ to. require (is_done p d) MoveNotAllowed
        (require (permits q input true o) MoveNotAllowed (reply_to N G q n S r2 o c to)))
        (λ to t. by-require N rows claims (is_done p d) (require (permits q input true o) MoveNotAllowed (reply_to N G q n S r2 o c to))
        (λ dn. by-require N rows claims (permits q input true o) (reply_to N G q n S r2 o c to) (λ pm. answer claims r2 o x c d to at t dn)))

    reply-at : (claims : Claims) (r : ℕ) (l : Optional Behaviour) → at_row r h.what ≡ l → Keeps N rows claims (reply_at N G q n S l)
    reply-at claims r none e = keeps-15 N rows claims
    reply-at claims r (some b) e = seen (input_of b) refl
      where
        seen : (i : Optional Input) → input_of b ≡ i → Keeps N rows claims (reply_by N G q n S i)
        seen none g = keeps-15 N rows claims
        seen (some i) g =
            reply-by claims r i.row i.operation i.into i.response (subst (λ (z : Behaviour). at_row r h.what ≡ some z) (input-is b i g) e)

  pub reply-move : (claims : Claims) (G : State) → Sound N rows G → (q n r : ℕ) → Keeps N rows claims (reply_move N G q n r)
  reply-move claims G h_g q n r =
      by-session N rows claims G q n (λ B S. reply_at N G q n S (at_row r B))
      (λ B S e e_s.
      let h = h_g.sessions q n S e_s in
      subst (λ (z : Behaviour). Keeps N rows claims (reply_at N G q n S (at_row r z))) (some_inj (sym h.runs ∙ e))
      (reply-at G h_g q n S e_s h claims r (at_row r h.what) refl))

  -- A reply from outside, of bytes.
  pub outside-reply-move : (claims : Claims) → (T claims.strict → ⊥) → (G : State) → Sound N rows G → (q n r : ℕ) (bytes : List ℕ) → Octets bytes
      → Keeps N rows claims (outer_reply_move N G q n r bytes)
  outside-reply-move claims lax G h_g q n r bytes oct =
      let K : Operation → Path → Result = λ o x. pick (in_file N o.location) not_allowed
      (on_message (decode_message bytes) (λ m. must_fit m o.reply (take_reply G q n r x m))) in
      by-session N rows claims G q n (λ B S. on_waiting_row q S (at_row r B) K)
      (λ B S e_b e_s. by-waiting-row claims q S r B K
      (λ o e x at ew pm.
      let D : Tree Value → Result = λ m. must_fit m o.reply (take_reply G q n r x m) in
      by-pick N rows claims (in_file N o.location) not_allowed (on_message (decode_message bytes) D) (λ t. keeps-15 N rows claims)
      (λ t. by-message N rows claims (decode_message bytes) D
      (λ m em. outside-fit N rows claims lax m o.reply (take_reply G q n r x m)
      (λ f. take-keeps claims G h_g q n r B e_b o e x at m (decoded-good N rows acc bytes m oct em) (subtype-sound (own_type m) o.reply f)
      (λ S2 e2. subst (λ (z : Session). z.progress r ≡ waits) (live-inj (sym e_s ∙ e2)) ew))))))
