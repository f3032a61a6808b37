-- Local moves, receives and closing keep the invariant; a ready assign, if or while moves, or is refused with 22 by its expression's result.
use Rattle.std.specs.Prelude.{◌≡◌, ℕ, ◌≤◌, ◌<◌, Bool, true, ◌&&◌, List, [], ◌∷◌, eqb, length}
use Rattle.std.proofs.Math.Path.{refl, ap, subst}
use Rattle.std.proofs.Common.{sym, ◌∙◌, arith, eqb→eq}
use Rattle.std.proofs.Math.Bool.{false}
use Rattle.std.proofs.Math.Dec.{T}
use Rattle.tree_forest.specs.Forest.{Tree, tree}
use Rattle.tree_forest.specs.Path.{Path, replace_at, set_payload_at}
use Rattle.scalar.specs.Value.{Value}
use Rattle.basics.specs.Choice.{pick}
use Rattle.basics.specs.TestLaws.{and_l, and_r}
use Rattle.network_syntax.specs.Syntax.{Optional, none, some, Network, Operation, Direction, input, output, Expression, Behaviour, one_way, request_response}
use Rattle.network_syntax.specs.Syntax.{if_then_else, while_do, sequence, assign, choice, Branches}
use Rattle.network_syntax.specs.Rows.{row_of, has_row, has_row_in, Response, Input, input_of, from_input, Local, assigns, decides, repeats, local_of, from_local}
use Rattle.network_syntax.specs.Rows.{is_input_operation}
use Rattle.network.specs.Shapes.{EachRowOnce}
use Rattle.refusal.specs.declared.Refusal.TheVariants.{Stuck, MoveNotAllowed}
use Rattle.check_subtyping.specs.Own.{Fits}
use Rattle.check_typing.specs.Environment.{within}
use Rattle.check_typing.specs.Rules.{permits, same_bool, same_direction}
use Rattle.tree.specs.Encode.{WellFormedTree}
use Rattle.tree_forest.specs.Limits.{message_levels_below, message_nodes_below}
use Rattle.state.specs.Session.{Destination, Progress, Progresses, undone, done, waits, received, taken}
use Rattle.state.specs.Session.{advance, reopen, Queued, Session, with_tree, with_queue, with_progress, free, live}
use Rattle.state.specs.Session.{State, set_slot}
use Rattle.state.specs.Shape.{operation_of_row, is_destination, suits_reply, suits_operation, undone_or_taken, branches, suits, suits_branches}
use Rattle.move_rules.specs.Readiness.{is_done, Reached, unreached, reached, offered, reach}
use Rattle.move_rules.specs.Evaluation.{evaluate}
use Rattle.move_rules.specs.Moves.{Result, moved, require, out_of_range, on_evaluation, on_truth, if_ready_while}
use Rattle.scalar.specs.Value.{void_value}
use Rattle.move_rules.specs.Moves.{save_within, assigned, unassigned, decided, repeated, local_by, local_at, local_reached, local_move, local}
use Rattle.state.specs.Queue.{QueueSplit, nothing, message, keeping, oldest}
use Rattle.move_rules.specs.Moves.{receive_message, receive_by, receive_at, receive_reached, receive_move, close_move}
use Rattle.state.specs.Session.{received_by}
use Rattle.soundness.specs.GoodTrees.{GoodTree}
use Rattle.soundness.specs.Parts.{branch_at, not_taken, Reaches, at_self, at_first, at_branch}
use Rattle.soundness.proofs.RowLaws.{in-own, in-first, branch-rows}
use Rattle.soundness.proofs.CleanLaws.{once-at, suits-at, of_two}
use Rattle.soundness.proofs.ReachLaws.{Offered, Found, reach-found, reaches-stay, reaches-trans}
use Rattle.soundness.specs.Accepted.{OfFile, MadeOf, Accepted}
use Rattle.soundness.proofs.MadeLaws.{made_at, plain-request, reaches-at_row}
use Rattle.network_syntax.specs.ViewLaws.{own_row, some_inj, input-is, local-is}
use Rattle.soundness.specs.KeyedQueues.{AllOfKey}
use Rattle.soundness.specs.Invariant.{ReplyFits, RepliesFit, AnswersAt, QueuedSound, AllQueued, SessionSound, KeySound, Sound}
use Rattle.soundness.proofs.SessionLaws.{advance-here, advance-below-branches, advance-apart, once-of, made_of, tree-limit, assign-sound, one_way-sound}
use Rattle.soundness.proofs.SessionLaws.{request-sound, if-sound, while-sound, again-sound, select-sound}
use Rattle.soundness.proofs.ResultLaws.{Claims, claims_of, Keeps, Goes, goes-keeps, keeps-15, by-require, by-undone, by-session, at-evaluation}
use Rattle.soundness.proofs.ResultLaws.{at-require, at-truth, SlotKey, free-slot, key-stays, same_key, sound-set}
use Rattle.soundness.specs.Texts.{nothing_out}
use Rattle.soundness.specs.Property3.{local_expression, is_beyond, LeavesRange}

-- A message taken from a queue.
pub record TakenSound (N : Network) (rows q w : ℕ) (m : Queued) (l before : List Queued) : Type 0 where
  pub named : m.operation ≡ w
  pub sound : QueuedSound N rows q m
  pub others : AllQueued N rows q l
  pub fewer : length l ≤ length before
  pub filled : 0 < length before
  pub of_key : (k x : ℕ) → AllOfKey k x before → AllOfKey k x l

abbrev pub AnyTaken : Network → ℕ → ℕ → ℕ → List Queued → QueueSplit → Type 0
AnyTaken N rows q w before nothing = Unit {0}
AnyTaken N rows q w before (message m l) = TakenSound N rows q w m l before

pub oldest-sound : (N : Network) (rows q w : ℕ) (l : List Queued) → AllQueued N rows q l → AnyTaken N rows q w l (oldest w l)
unfolding oldest AllQueued AllOfKey
oldest-sound N rows q w [] a = tt
oldest-sound N rows q w (m ∷ l) a = go (eqb m.operation w) (λ t. eqb→eq m.operation w t) (oldest w l) (oldest-sound N rows q w l a.1)
  where
    kept : (x : QueueSplit) → AnyTaken N rows q w l x → AnyTaken N rows q w (m ∷ l) (keeping m x)
    kept nothing g = tt
    kept (message y t) g = record {
      named = g.named;
      sound = g.sound;
      others = (a.0, g.others);
      fewer = let z = g.fewer in omega arith;
      filled = omega arith;
      of_key = λ k x b. (b.0, g.of_key k x b.1);
    }

    go : (b : Bool) → (T b → m.operation ≡ w) → (x : QueueSplit) → AnyTaken N rows q w l x → AnyTaken N rows q w (m ∷ l) (pick b (message m l) (keeping m x))
    go true f x g = record { named = f tt; sound = a.0; others = a.1; fewer = omega arith; filled = omega arith; of_key = λ k x b. b.1 }
    go false f x g = kept x g

-- What is left has the key that all had.
taken-key : {N : Network} {rows q w n x : ℕ} {m : Queued} {l before : List Queued} → TakenSound N rows q w m l before → KeySound N q n x before
    → KeySound N q n x l
taken-key {n = n} {x} {before = before} f k = record {
  fits = k.fits;
  none = k.none;
  queue = record {
    of_key = λ h. f.of_key _ x (k.queue.of_key h);
    first = λ h e. absurd (let z = ap length (k.queue.first h e) in let y = f.filled in omega arith);
  };
}

pub message-good : (m : Tree Value) → WellFormedTree message_levels_below message_nodes_below m → GoodTree m
message-good (tree v k) w = (w.root, (w.rising, w.sound))

-- What 6 lets pass.
pub permits-service : (q : ℕ) (d : Direction) (two : Bool) (o : Operation) → T (permits q d two o) → o.service ≡ q
unfolding permits
permits-service q d two o t = eqb→eq o.service q (and_l (eqb o.service q) (same_direction o.direction d && same_bool o.two_way two) t)

same_true : (b : Bool) → T (same_bool b true) → b ≡ true
same_true true t = refl
same_true false t = absurd t

same_false : (b : Bool) → T (same_bool b false) → b ≡ false
same_false true t = absurd t
same_false false t = refl

same-output : (d : Direction) → T (same_direction d output) → d ≡ output
same-output input t = absurd t
same-output output t = refl

pub permits-two : (q : ℕ) (d : Direction) (o : Operation) → T (permits q d true o) → o.two_way ≡ true
unfolding permits
permits-two q d o t =
    same_true o.two_way (and_r (same_direction o.direction d) (same_bool o.two_way true)
    (and_r (eqb o.service q) (same_direction o.direction d && same_bool o.two_way true) t))

pub permits-one : (q : ℕ) (d : Direction) (o : Operation) → T (permits q d false o) → o.two_way ≡ false
unfolding permits
permits-one q d o t =
    same_false o.two_way (and_r (same_direction o.direction d) (same_bool o.two_way false)
    (and_r (eqb o.service q) (same_direction o.direction d && same_bool o.two_way false) t))

pub permits-output : (q : ℕ) (two : Bool) (o : Operation) → T (permits q output two o) → o.direction ≡ output
unfolding permits
permits-output q two o t =
    same-output o.direction (and_l (same_direction o.direction output) (same_bool o.two_way two)
    (and_r (eqb o.service q) (same_direction o.direction output && same_bool o.two_way two) t))

-- A message has a destination exactly if its operation is two-way.
suits-reply : (N : Network) (rows q : ℕ) (to : Optional Destination) (o : Operation) → T (suits_operation N rows q to (some o)) → (b : Bool) → o.two_way ≡ b
    → T (suits_reply N rows b to)
suits-reply N rows q to o t b e =
    let u = and_r (is_input_operation o.direction) (suits_reply N rows o.two_way to)
    (and_r (eqb o.service q) (is_input_operation o.direction && suits_reply N rows o.two_way to) t) in
    subst (λ (b : Bool). T (suits_reply N rows b to)) e u

pub suits-destination : (N : Network) (rows q : ℕ) (to : Optional Destination) (o : Operation) → T (suits_operation N rows q to (some o)) → o.two_way ≡ true
    → (d : Destination) × (to ≡ some d) × T (is_destination N rows d)
suits-destination N rows q to o t e = go to (suits-reply N rows q to o t true e)
  where
    go : (to : Optional Destination) → T (suits_reply N rows true to) → (d : Destination) × (to ≡ some d) × T (is_destination N rows d)
    go none u = absurd u
    go (some d) u = (d, refl, u)

pub suits-none : (N : Network) (rows q : ℕ) (to : Optional Destination) (o : Operation) → T (suits_operation N rows q to (some o)) → o.two_way ≡ false
    → to ≡ none
suits-none N rows q to o t e = go to (suits-reply N rows q to o t false e)
  where
    go : (to : Optional Destination) → T (suits_reply N rows false to) → to ≡ none
    go none u = refl
    go (some d) u = absurd u

module _ (N : Network) (rows : ℕ) (acc : Accepted N rows) where
  -- A session changed and kept within the limits.
  pub save-goes : (G : State) (q n : ℕ) (S : Session) → Sound N rows G → SessionSound N rows q n S → SlotKey N rows G q n (live S)
      → Goes N rows false (save_within G q n S [])
  save-goes G q n S h s k =
      at-require N rows false (within S.tree) Stuck (moved (set_slot G q n (live S)) []) (tree-limit N rows acc q n S s)
      (sound-set N rows G q n (live S) h s k, nothing_out)

  module _ (G : State) (h_g : Sound N rows G) (q n : ℕ) (S : Session) (h : SessionSound N rows q n S) (e_s : G q n ≡ live S) where
    abbrev p : Progresses
    p = S.progress

    -- Ready rows move, or are refused with 22 if their expression's result is beyond.
    pub assign-goes : (r : ℕ) (x : Path) (e : Expression) → Reaches p (assign r x e) h.what → p r ≡ undone
        → Goes N rows (is_beyond (evaluate S.tree e)) (on_evaluation (evaluate S.tree e) (λ b. unassigned G q n S x) (assigned G q n S r x))
    assign-goes r x e a t =
        at-evaluation N rows (evaluate S.tree e) (λ b. unassigned G q n S x) (assigned G q n S r x) (assign-sound N rows acc q n S h r x e a t)
        (λ b u. at-require N rows true (within (set_payload_at void_value x void_value S.tree)) Stuck out_of_range u refl)
        (λ y u. save-goes G q n _ h_g u (same_key N rows h_g e_s refl refl))

    pub if-goes : (r : ℕ) (e : Expression) (x y : Behaviour) → Reaches p (if_then_else r e x y) h.what → p r ≡ undone
        → Goes N rows (is_beyond (evaluate S.tree e)) (on_truth (evaluate S.tree e) (decided G q n S r))
    if-goes r e x y a t =
        let u = if-sound N rows acc q n S h r e x y a t in
        at-truth N rows (evaluate S.tree e) (decided G q n S r) u.0 (λ c. go c u.1 u.2)
      where
        go : (c : Bool) → SessionSound N rows q n (with_progress S (advance p r (taken 0))) → SessionSound N rows q n (with_progress S (advance p r (taken 1)))
            → Goes N rows false (decided G q n S r c)
        go true x y = (sound-set N rows G q n (live (with_progress S (advance p r (taken 0)))) h_g x (same_key N rows h_g e_s refl refl), nothing_out)
        go false x y = (sound-set N rows G q n (live (with_progress S (advance p r (taken 1)))) h_g y (same_key N rows h_g e_s refl refl), nothing_out)

    repeated-goes : (r : ℕ) (b : Behaviour) (c : Bool) → SessionSound N rows q n (with_progress S (advance (reopen p b) r (taken 0)))
        → SessionSound N rows q n (with_progress S (advance p r done)) → Goes N rows false (repeated G q n S r b c)
    repeated-goes r b true x y = (sound-set N rows G q n (live (with_progress S (advance (reopen p b) r (taken 0)))) h_g x (same_key N rows h_g e_s refl refl), nothing_out)
    repeated-goes r b false x y = (sound-set N rows G q n (live (with_progress S (advance p r done))) h_g y (same_key N rows h_g e_s refl refl), nothing_out)

    pub while-goes : (r : ℕ) (e : Expression) (b : Behaviour) → Reaches p (while_do r e b) h.what → p r ≡ undone
        → Goes N rows (is_beyond (evaluate S.tree e)) (on_truth (evaluate S.tree e) (repeated G q n S r b))
    while-goes r e b a t =
        let u = while-sound N rows acc q n S h r e b a t in
        at-truth N rows (evaluate S.tree e) (repeated G q n S r b) u.0 (λ c. repeated-goes r b c u.1 u.2)

    pub again-goes : (r : ℕ) (e : Expression) (b : Behaviour) (j : ℕ) → Reaches p (while_do r e b) h.what → p r ≡ taken j → T (is_done p b)
        → Goes N rows (is_beyond (evaluate S.tree e)) (on_truth (evaluate S.tree e) (repeated G q n S r b))
    again-goes r e b j a t d =
        let u = again-sound N rows acc q n S h r e b j a t d in
        at-truth N rows (evaluate S.tree e) (repeated G q n S r b) u.0 (λ c. repeated-goes r b c u.1 u.2)

    local-by : (claims : Claims) (l : Local) → Reaches p (from_local l) h.what
        → ((e : Expression) → local_expression (some l) ≡ some e → T (is_beyond (evaluate S.tree e)) → claims.cause)
        → Keeps N rows claims (local_by G q n S (some l))
    local-by claims (assigns r x e) a f =
        let R = on_evaluation (evaluate S.tree e) (λ b. unassigned G q n S x) (assigned G q n S r x) in
        by-undone N rows claims (p r) R (λ t. goes-keeps N rows claims (is_beyond (evaluate S.tree e)) R (f e refl) (assign-goes r x e a t))
    local-by claims (decides r e x y) a f =
        let R = on_truth (evaluate S.tree e) (decided G q n S r) in
        by-undone N rows claims (p r) R (λ t. goes-keeps N rows claims (is_beyond (evaluate S.tree e)) R (f e refl) (if-goes r e x y a t))
    local-by claims (repeats r e b) a f = go (p r) refl
      where
        past : Bool
        past = is_beyond (evaluate S.tree e)

        R : Result
        R = on_truth (evaluate S.tree e) (repeated G q n S r b)

        again : (c : Bool) → (T c → Goes N rows past R) → Keeps N rows claims (require c MoveNotAllowed R)
        again c g = by-require N rows claims c R (λ t. goes-keeps N rows claims past R (f e refl) (g t))

        go : (s : Progress) → p r ≡ s → Keeps N rows claims (if_ready_while s (is_done p b) R)
        go undone t = goes-keeps N rows claims past R (f e refl) (while-goes r e b a t)
        go done t = keeps-15 N rows claims
        go waits t = keeps-15 N rows claims
        go (received to) t = keeps-15 N rows claims
        go (taken j) t = again (is_done p b) (λ d. again-goes r e b j a t d)

    local-at : (claims : Claims) (X : Behaviour) → Reaches p X h.what
        → ((e : Expression) → local_expression (local_of X) ≡ some e → T (is_beyond (evaluate S.tree e)) → claims.cause)
        → Keeps N rows claims (local_at G q n S X)
    unfolding local_at
    local-at claims X a f = seen (local_of X) refl
      where
        seen : (l : Optional Local) → local_of X ≡ l → Keeps N rows claims (local_by G q n S l)
        seen none e = keeps-15 N rows claims
        seen (some l) e =
            local-by claims l (subst (λ (z : Behaviour). Reaches p z h.what) (local-is X l e) a) (λ w i. f w (ap local_expression e ∙ i))

    -- A reached row whose expression has a result that is beyond.
    pub leaves-range : (i : ℕ) (expression : Behaviour → Optional Expression) (X : Behaviour) → Found p i h.what (reached X)
        → (e : Expression) → expression X ≡ some e → T (is_beyond (evaluate S.tree e)) → LeavesRange N G q n i expression
    leaves-range i expression X f e its t =
        record {
          session = S;
          at = record { alive = e_s; what = h.what; runs = h.runs; row = X; number = f.1; way = f.0 };
          expression = e;
          works = its;
          leaves = t;
        }

    local-reached : (claims : Claims) (i : ℕ) → (LeavesRange N G q n i (λ b. local_expression (local_of b)) → claims.cause)
        → (l : Reached) → Found p i h.what l → Keeps N rows claims (local_reached G q n S l)
    local-reached claims i c unreached f = keeps-15 N rows claims
    local-reached claims i c (reached X) f = local-at claims X f.0 (λ e its t. c (leaves-range i (λ b. local_expression (local_of b)) X f e its t))
    local-reached claims i c (offered d k b) f = keeps-15 N rows claims

    pub local-keeps : (claims : Claims) (r : ℕ) → (LeavesRange N G q n r (λ b. local_expression (local_of b)) → claims.cause)
        → Keeps N rows claims (local_reached G q n S (reach p r h.what))
    local-keeps claims r c =
        local-reached claims r c (reach p r h.what) (reach-found p r h.what (once-of N rows acc q n h.what h.runs) h.clean)

    -- Receive, in the session with `settled` for its progress.
    module _ (settled : Progresses) (hs : SessionSound N rows q n (with_progress S settled)) where
      same_operation : (m : Queued) (o : Operation) (k : QueuedSound N rows q m) → m.operation ≡ o.row → OfFile N o → k.operation ≡ o
      same_operation m o k e f = some_inj (sym k.there ∙ (ap (operation_of_row N.operations) e ∙ f))

      -- The session once the message is taken.
      abbrev after : Path → ℕ → Queued → List Queued → Optional Destination → Session
      after x r m l to = with_queue (with_progress (with_tree S (replace_at void_value x m.message S.tree)) (advance settled r (received_by to))) l

      one-takes : (r : ℕ) (o : Operation) (x : Path) → Reaches settled (one_way r o x) hs.what → settled r ≡ undone → o.two_way ≡ false
          → (claims : Claims) (t : QueueSplit) → AnyTaken N rows q o.row S.queue t → Keeps N rows claims (receive_message G q n S x settled r t)
      unfolding MadeOf
      one-takes r o x a u tw claims nothing f = keeps-15 N rows claims
      one-takes r o x a u tw claims (message m l) f =
          let k = f.sound in
          let made = made_at N rows a (made_of N rows acc q n hs.what hs.runs) in
          let eo = same_operation m o k f.named made.1 in
          let no = suits-none N rows q m.reply_to k.operation k.suit (ap (λ (z : Operation). z.two_way) eo ∙ tw) in
          goes-keeps N rows claims false (receive_message G q n S x settled r (message m l)) (λ t. absurd t)
          (subst (λ (z : Optional Destination). Goes N rows false (save_within G q n (after x r m l z) [])) (sym no) (save-goes G q n (after x r m l none) h_g
          (one_way-sound N rows acc q n (with_progress S settled) hs r o x m.message a u (message-good m.message k.good)
          (subst (λ (z : Operation). Fits m.message z.request) eo k.fit) l (let z = f.fewer in let w = h.few in omega arith) f.others)
          (key-stays N rows h_g e_s refl (taken-key f (h_g.keys q n S e_s)))))

      two-takes : (r : ℕ) (o : Operation) (x c : Path) (d : Behaviour) → Reaches settled (request_response r o x c d) hs.what → settled r ≡ undone
          → o.two_way ≡ true
          → (claims : Claims) (t : QueueSplit) → AnyTaken N rows q o.row S.queue t → Keeps N rows claims (receive_message G q n S x settled r t)
      unfolding MadeOf row_of
      two-takes r o x c d a u tw claims nothing f = keeps-15 N rows claims
      two-takes r o x c d a u tw claims (message m l) f =
          let k = f.sound in
          let on = once-of N rows acc q n hs.what hs.runs in
          let made = made_at N rows a (made_of N rows acc q n hs.what hs.runs) in
          let eo = same_operation m o k f.named made.1 in
          let to = suits-destination N rows q m.reply_to k.operation k.suit (ap (λ (z : Operation). z.two_way) eo ∙ tw) in
          let ans : AnswersAt N hs.what r to.0 = λ r2 o2 x2 c2 d2 e.
          let same = some_inj (sym (reaches-at_row settled (request_response r o x c d) hs.what (plain-request r o x c d) on a) ∙ e) in
          subst (λ (z : Operation). ReplyFits N z to.0) (eo ∙ request-operation same) (subst (RepliesFit N k.operation) to.1 k.destination) in
          goes-keeps N rows claims false (receive_message G q n S x settled r (message m l)) (λ t. absurd t)
          (subst (λ (z : Optional Destination). Goes N rows false (save_within G q n (after x r m l z) [])) (sym to.1)
          (save-goes G q n (after x r m l (some to.0)) h_g
          (request-sound N rows acc q n (with_progress S settled) hs r o x c d m.message to.0 a u (message-good m.message k.good)
          (subst (λ (z : Operation). Fits m.message z.request) eo k.fit) to.2 ans l
          (let z = f.fewer in let w = h.few in omega arith) f.others)
          (key-stays N rows h_g e_s refl (taken-key f (h_g.keys q n S e_s)))))
        where
          request-operation : {r r2 : ℕ} {o o2 : Operation} {x x2 c c2 : Path} {d d2 : Behaviour}
              → request_response r o x c d ≡ request_response r2 o2 x2 c2 d2 → o ≡ o2
          request-operation e = cc

      receive-by : (claims : Claims) (r : ℕ) (o : Operation) (x : Path) (k : Optional Response)
          → Reaches settled (from_input (record { row = r; operation = o; into = x; response = k })) hs.what → p r ≡ settled r
          → Keeps N rows claims (receive_by G q n S settled (some (record { row = r; operation = o; into = x; response = k })))
      receive-by claims r o x none a e =
          let R = receive_message G q n S x settled r (oldest o.row S.queue) in
          by-undone N rows claims (p r) (require (permits q input false o) MoveNotAllowed R)
          (λ t. by-require N rows claims (permits q input false o) R
          (λ w. one-takes r o x a (sym e ∙ t) (permits-one q input o w) claims (oldest o.row S.queue)
          (oldest-sound N rows q o.row S.queue h.queued)))
      receive-by claims r o x (some k) a e =
          let R = receive_message G q n S x settled r (oldest o.row S.queue) in
          by-undone N rows claims (p r) (require (permits q input true o) MoveNotAllowed R)
          (λ t. by-require N rows claims (permits q input true o) R
          (λ w. two-takes r o x k.path k.body a (sym e ∙ t) (permits-two q input o w) claims (oldest o.row S.queue)
          (oldest-sound N rows q o.row S.queue h.queued)))

      input-row : (r : ℕ) (o : Operation) (x : Path) (k : Optional Response)
          → row_of (from_input (record { row = r; operation = o; into = x; response = k })) ≡ r
      unfolding row_of
      input-row r o x none = refl
      input-row r o x (some k) = refl

      receive-at : (claims : Claims) (X : Behaviour) → Reaches settled X hs.what → p (row_of X) ≡ settled (row_of X)
          → Keeps N rows claims (receive_at G q n S settled X)
      unfolding receive_at
      receive-at claims X a e = seen (input_of X) refl
        where
          seen : (i : Optional Input) → input_of X ≡ i → Keeps N rows claims (receive_by G q n S settled i)
          seen none f = keeps-15 N rows claims
          seen (some i) f =
              let g = input-is X i f in
              let er : row_of X ≡ i.row = ap row_of g ∙ input-row i.row i.operation i.into i.response in
              receive-by claims i.row i.operation i.into i.response (subst (λ (z : Behaviour). Reaches settled z hs.what) g a)
              (subst (λ (z : ℕ). p z ≡ settled z) er e)

    untaken-undone : (s : Progress) (k : ℕ) → T (undone_or_taken k s) → T (not_taken s) → s ≡ undone
    untaken-undone undone k t u = refl
    untaken-undone done k t u = absurd t
    untaken-undone waits k t u = absurd t
    untaken-undone (received to) k t u = absurd t
    untaken-undone (taken j) k t u = absurd u

    branch-input : (m : Branches) (k l : ℕ) (a b : Behaviour) → branch_at k m ≡ sequence l a b → T (has_row_in (row_of a) m)
    unfolding has_row
    branch-input m k l a b e = branch-rows m k (row_of a) (subst (λ (z : Behaviour). T (has_row (row_of a) z)) (sym e) (in-first (row_of a) l a b (own_row a)))

    receive-offered : (claims : Claims) (i c k : ℕ) (a : Behaviour) → Offered p c k a i h.what
        → Keeps N rows claims (receive_at G q n S (advance p c (taken k)) a)
    unfolding suits EachRowOnce has_row
    receive-offered claims i c k a f =
        let B = h.what in
        let m = f.options in
        let X = choice c m in
        let settled = advance p c (taken k) in
        let on = once-of N rows acc q n B h.runs in
        let ox = once-at f.way on in
        let sx = of_two N rows (undone_or_taken (branches m) (p c)) (suits_branches N rows p m) (suits-at N rows f.way on h.suit) in
        let hs = select-sound N rows acc q n S h c k m f.way (untaken-undone (p c) (branches m) sx.0 f.untaken) f.inside in
        let inner : Reaches settled a X =
        at_branch k (advance-here p c (taken k)) (subst (λ (z : Behaviour). Reaches settled a z) (sym f.is_branch) (at_first at_self)) in
        let way : Reaches settled a B =
        reaches-trans inner (reaches-stay p settled X B (λ j g. advance-apart p c (taken k) j (λ t. g (in-own j c (has_row_in j m) t))) on f.way) in
        receive-at settled hs claims a (subst (λ (z : Behaviour). Reaches settled a z) (some_inj (sym h.runs ∙ hs.runs)) way)
        (advance-below-branches p c (taken k) m ox.0 (row_of a) (branch-input m k f.label a f.after f.is_branch))

    receive-reached : (claims : Claims) (i : ℕ) (l : Reached) → Found p i h.what l → Keeps N rows claims (receive_reached G q n S l)
    receive-reached claims i unreached f = keeps-15 N rows claims
    receive-reached claims i (reached X) f = receive-at p h claims X f.0 refl
    receive-reached claims i (offered c k a) f = receive-offered claims i c k a f

    pub receive-keeps : (claims : Claims) (r : ℕ) → Keeps N rows claims (receive_reached G q n S (reach p r h.what))
    receive-keeps claims r = receive-reached claims r (reach p r h.what) (reach-found p r h.what (once-of N rows acc q n h.what h.runs) h.clean)

  -- The moves.
  pub local-move : (G : State) → Sound N rows G → (q n r : ℕ) → Keeps N rows (claims_of N G (local q n r)) (local_move N G q n r)
  local-move G h_g q n r =
      let claims = claims_of N G (local q n r) in
      by-session N rows claims G q n (λ B S. local_reached G q n S (reach S.progress r B))
      (λ B S e e_s. let h = h_g.sessions q n S e_s in
      subst (λ (z : Behaviour). Keeps N rows claims (local_reached G q n S (reach S.progress r z))) (some_inj (sym h.runs ∙ e))
      (local-keeps G h_g q n S h e_s claims r (λ c. c)))

  pub receive-move : (claims : Claims) (G : State) → Sound N rows G → (q n r : ℕ) → Keeps N rows claims (receive_move N G q n r)
  receive-move claims G h_g q n r =
      by-session N rows claims G q n (λ B S. receive_reached G q n S (reach S.progress r B))
      (λ B S e e_s. let h = h_g.sessions q n S e_s in
      subst (λ (z : Behaviour). Keeps N rows claims (receive_reached G q n S (reach S.progress r z))) (some_inj (sym h.runs ∙ e))
      (receive-keeps G h_g q n S h e_s claims r))

  pub close-move : (claims : Claims) (G : State) → Sound N rows G → (q n : ℕ) → Keeps N rows claims (close_move N G q n)
  close-move claims G h_g q n =
      by-session N rows claims G q n (λ B S. require (is_done S.progress B) MoveNotAllowed (moved (set_slot G q n free) []))
      (λ B S e e_s. by-require N rows claims (is_done S.progress B) (moved (set_slot G q n free) []) (λ t. (sound-set N rows G q n free h_g tt (free-slot N rows), nothing_out)))
