-- Delivering a message that fits keeps the invariant: queued at a live session, or starting a free one.
use Rattle.std.specs.Prelude.{◌≡◌, Bool, true, false, eqb, ltb, leb, length}
use Rattle.std.proofs.Math.Path.{refl, sym, subst}
use Rattle.std.proofs.Common.{ap, ◌∙◌, arith, eqb→eq, ltb→lt, leb→le}
use Prim.Native.Nat.{ℕ, zero, suc, ◌≤◌, ◌<◌, ◌+◌}
use mathlib.Core.List.{List, [], ◌∷◌, ◌++◌}
use Rattle.std.proofs.Math.Dec.{T}
use Rattle.tree_forest.specs.Forest.{Tree, end}
use Rattle.tree_forest.specs.Path.{Path}
use Rattle.scalar.specs.Value.{Value}
use Rattle.basics.specs.Choice.{pick}
use Rattle.network_syntax.specs.Syntax.{Types, Optional, none, some, Service, Network, Operation, input, Behaviour, one_way, request_response}
use Rattle.network_syntax.specs.Syntax.{sequence, choice, Branches}
use Rattle.network_syntax.specs.Rows.{row_of, has_row, Response, Input, from_input, choice_of, entry}
use Rattle.network.specs.Shapes.{EachRowOnce}
use Rattle.network_syntax.specs.Meets.{first_of}
use Rattle.check_subtyping.specs.Own.{Fits}
use Rattle.check_typing.specs.Rules.{Derives}
use Rattle.state.specs.Session.{Destination, Progresses, undone, taken, advance, Queued, Session}
use Rattle.state.specs.Session.{with_queue, with_progress, new_session, Slot, free, live, State, set_slot}
use Rattle.state.specs.Shape.{service_of_row, client_of, starter_of, behaviour_in, operation_of_row, suits_operation, branches}
use Rattle.move_rules.specs.Targets.{Target, no_target, queue_full, queued, starts, start_from, start_of, target_of, target_in, target}
use Rattle.move_rules.specs.Moves.{Result, moved, save_within, permits_input, allowed, started_by, started, deliver}
use Rattle.state.specs.Session.{received_by}
use Rattle.soundness.specs.GoodTrees.{GoodTree}
use Rattle.soundness.specs.Parts.{branch_at, Reaches, at_self, at_first, at_branch}
use Rattle.soundness.proofs.RowLaws.{in-first, branch-rows}
use Rattle.soundness.specs.Accepted.{OfFile, MadeOf, Accepted, DerivedStarter}
use Rattle.soundness.proofs.MadeLaws.{made_at, plain-request, reaches-at_row}
use Rattle.network_syntax.specs.ViewLaws.{own_row, some_inj}
use Rattle.soundness.specs.Invariant.{ReplyFits, RepliesFit, AnswersAt, QueuedSound, AllQueued, SessionSound, KeySound, Sound}
use Rattle.soundness.proofs.KeyedLaws.{of-key-more, KeyInfo, start-key, start-suits}
use Rattle.move_rules.specs.Keys.{key_to_keep}
use Rattle.network_syntax.specs.Keys.{key_id}
use Rattle.state.proofs.KeyLaws.{held-keyed}
use Rattle.basics.specs.TestLaws.{T_of}
use Rattle.soundness.proofs.SessionLaws.{advance-here, advance-below-branches, once-of, made_of, one_way-sound, request-sound, queue-sound, with-key-sound}
use Rattle.soundness.proofs.StartLaws.{StartedBy, FoundStart, start_from-found, start-sound}
use Rattle.soundness.specs.Texts.{nothing_out}
use Rattle.soundness.proofs.ResultLaws.{Claims, Keeps, goes-keeps, keeps-15, allowed-16, by-require, by-live, SlotKey, key-stays, sound-set, live-inj, message-formed}
use Rattle.soundness.proofs.LocalLaws.{permits-one, permits-two, save-goes, suits-destination, suits-none}

-- The operation found is one of the list, and passes the test.
pub first-there : (test : Operation → Bool) (l : List Operation) (i : Operation) → first_of test l ≡ some i
    → (w : ℕ) × (operation_of_row l w ≡ some i) × T (test i)
unfolding first_of entry
first-there test [] i e = absurd (none-some e)
  where
    none-some : {i : Operation} → none ≡ some i → ⊥
    none-some h = let z : ◌≡◌ {A = ℕ} 0 1 = cc in omega arith
first-there test (o ∷ l) i e = go (test o) refl e (first-there test l i)
  where
    go : (b : Bool) → test o ≡ b → pick b (some o) (first_of test l) ≡ some i → (first_of test l ≡ some i → (w : ℕ) × (operation_of_row l w ≡ some i) × T (test i))
        → (w : ℕ) × (operation_of_row (o ∷ l) w ≡ some i) × T (test i)
    go true t h ih = (0, h, subst (λ (z : Operation). T (test z)) (some_inj h) (subst T (sym t) tt))
    go false t h ih = let u = ih h in (suc u.0, u.1, u.2)

-- A service of the file and a session 0 to 3.
service-below : (l : List Service) (q : ℕ) (s : Service) → service_of_row l q ≡ some s → q < length l
unfolding entry
service-below [] q s e = absurd (none-some e)
  where
    none-some : {s : Service} → none ≡ some s → ⊥
    none-some h = let z : ◌≡◌ {A = ℕ} 0 1 = cc in omega arith
service-below (x ∷ l) zero s e = omega arith
service-below (x ∷ l) (suc q) s e = let z = service-below l q s e in omega arith

no-behaviour : {B : Behaviour} → none ≡ some B → ⊥
no-behaviour h = let z : ◌≡◌ {A = ℕ} 0 1 = cc in omega arith

pub behaviour-place : (N : Network) (q n : ℕ) (B : Behaviour) → behaviour_in N q n ≡ some B → (q < length N.services) × (n ≤ 3)
behaviour-place N q n B e = go (eqb n 0) refl (leb n 3) refl (service_of_row N.services q) refl e
  where
    go : (a : Bool) → eqb n 0 ≡ a → (b : Bool) → leb n 3 ≡ b → (s : Optional Service) → service_of_row N.services q ≡ s
        → pick a (client_of s) (pick b (starter_of s) none) ≡ some B → (q < length N.services) × (n ≤ 3)
    go true ea b eb none es h = absurd (no-behaviour h)
    go true ea b eb (some s) es h =
        let z = eqb→eq n 0 (subst T (sym ea) tt) in (service-below N.services q s es, omega arith)
    go false ea true eb none es h = absurd (no-behaviour h)
    go false ea true eb (some s) es h = (service-below N.services q s es, leb→le n 3 (subst T (sym eb) tt))
    go false ea false eb s es h = absurd (no-behaviour h)

-- What a target says.
pub record Starting (N : Network) (q n w c k : ℕ) (a : Input) : Type 0 where
  pub before : ℕ
  pub number : n ≡ suc before
  pub options : Branches
  pub runs : behaviour_in N q n ≡ some (choice c options)
  pub found : StartedBy w c k a 0 options
  pub derived : DerivedStarter q (choice c options)

abbrev pub TargetInfo : Network → State → Operation → ℕ → Target → Type 0
TargetInfo N G i n no_target = Unit {0}
TargetInfo N G i n queue_full = Unit {0}
TargetInfo N G i n queued = (S : Session) → G i.service n ≡ live S → length S.queue < 4
TargetInfo N G i n (starts c k a) = Starting N i.service n i.row c k a

module _ (N : Network) (rows : ℕ) (acc : Accepted N rows) where
  queue-target : (P : Target → Type 0) (b : Bool) → (T b → P queued) → P queue_full → P (pick b queued queue_full)
  queue-target P true f g = f tt
  queue-target P false f g = g

  start-target : (P : Target → Type 0) (b : Bool) (t : Target) → P no_target → P t → P (pick b no_target t)
  start-target P true t f g = f
  start-target P false t f g = g

  pub target-info : (G : State) (i : Operation) (n : ℕ) → TargetInfo N G i n (target N G i n)
  unfolding start_from EachRowOnce
  target-info G i n = go n refl (behaviour_in N i.service n) refl (G i.service n) refl
    where
      w : ℕ
      w = i.row

      start : (n2 : ℕ) (B : Behaviour) → n ≡ suc n2 → behaviour_in N i.service n ≡ some B → DerivedStarter i.service B
          → TargetInfo N G i n (start_of w (choice_of B))
      start n2 B en eb d =
          let c = d.row in
          let m = d.options in
          let eb2 : behaviour_in N i.service n ≡ some (choice c m) = eb ∙ ap some d.is_choice in
          subst (λ (z : Behaviour). TargetInfo N G i n (start_of w (choice_of z))) (sym d.is_choice)
          (go2 (start_from w c 0 m) (start_from-found w c m 0) eb2 (subst (DerivedStarter i.service) d.is_choice d))
        where
          go2 : {c : ℕ} {m : Branches} (t : Target) → FoundStart w c 0 m t → behaviour_in N i.service n ≡ some (choice c m)
              → DerivedStarter i.service (choice c m) → TargetInfo N G i n t
          go2 no_target f e d = tt
          go2 queue_full f e d = absurd f
          go2 queued f e d = absurd f
          go2 {c} {m} (starts c2 k a) f e d =
              subst (λ (z : ℕ). Starting N i.service n w z k a) f.0
              (record { before = n2; number = en; options = m; runs = e; found = f.1; derived = d })

      go : (n1 : ℕ) → n ≡ n1 → (b : Optional Behaviour) → behaviour_in N i.service n ≡ b → (x : Slot) → G i.service n ≡ x
          → TargetInfo N G i n (target_in b (λ B. target_of w n B x))
      go n1 en none eb x ex = tt
      go n1 en (some B) eb (live S) ex =
          queue-target (TargetInfo N G i n) (ltb (length S.queue) 4)
          (λ t S2 e2. subst (λ (z : Session). length z.queue < 4) (live-inj (sym ex ∙ e2)) (ltb→lt (length S.queue) 4 t)) tt
      go zero en (some B) eb free ex = subst (λ (z : ℕ). TargetInfo N G i n (pick (eqb z 0) no_target (start_of w (choice_of B)))) (sym en) tt
      go (suc n2) en (some B) eb free ex =
          start-target (TargetInfo N G i n) (eqb n 0) (start_of w (choice_of B)) tt
          (start n2 B en eb (acc.starters i.service n2 B (ap (behaviour_in N i.service) (sym en) ∙ eb)))

  -- A message of the input i that may arrive, with where its reply goes.
  pub record Arriving (i : Operation) (m : Tree Value) (back : Optional Destination) : Type 0 where
    pub of_file : OfFile N i
    pub suit : T (suits_operation N rows i.service back (some i))
    pub good : GoodTree m
    pub fit : Fits m i.request
    pub destination : RepliesFit N i back

  queued-sound : (i : Operation) (m : Tree Value) (back : Optional Destination) → Arriving i m back
      → QueuedSound N rows i.service (record { operation = i.row; message = m; reply_to = back })
  queued-sound i m back a =
      let f = acc.operations i.row i a.of_file in
      record {
        operation = i;
        there = a.of_file;
        suit = a.suit;
        good = message-formed m i.request a.good f.rising.0 f.small_request a.fit;
        fit = a.fit;
        destination = a.destination;
      }

  -- A session that a message starts, with its branch taken and its input not yet received.
  abbrev begun : ℕ → ℕ → Progresses
  begun c k = advance (λ i. undone) c (taken k)

  choice-same : {c c2 : ℕ} {m m2 : Branches} → choice c m ≡ choice c2 m2 → m ≡ m2
  choice-same e = cc

  begins : (q n c k : ℕ) (m : Branches) → behaviour_in N q (suc n) ≡ some (choice c m) → T (ltb k (branches m)) → DerivedStarter q (choice c m)
      → SessionSound N rows q (suc n) (with_progress new_session (begun c k))
  begins q n c k m e small d =
      start-sound N rows acc q n c k m e small
      (λ j. subst (λ (z : Branches). (Δ : Types) × Derives q (branch_at j z) end Δ) (sym (choice-same d.is_choice)) (d.branches j))

  input-way : (c k l : ℕ) (m : Branches) (a b : Behaviour) → branch_at k m ≡ sequence l a b → Reaches (begun c k) a (choice c m)
  input-way c k l m a b e = at_branch k (advance-here (λ i. undone) c (taken k)) (subst (λ (z : Behaviour). Reaches (begun c k) a z) (sym e) (at_first at_self))

  input-undone : (c k l : ℕ) (m : Branches) (a b : Behaviour) → EachRowOnce (choice c m) → branch_at k m ≡ sequence l a b → begun c k (row_of a) ≡ undone
  unfolding has_row EachRowOnce
  input-undone c k l m a b on e =
      sym (advance-below-branches (λ i. undone) c (taken k) m on.0 (row_of a)
      (branch-rows m k (row_of a) (subst (λ (z : Behaviour). T (has_row (row_of a) z)) (sym e) (in-first (row_of a) l a b (own_row a)))))

  module _ (q n c k : ℕ) (m : Branches) (runs : behaviour_in N q (suc n) ≡ some (choice c m))
      (hs : SessionSound N rows q (suc n) (with_progress new_session (begun c k)))
      (l : ℕ) (b : Behaviour) (i : Operation) (x : Tree Value) (back : Optional Destination) (arr : Arriving i x back) where
    here-what : choice c m ≡ hs.what
    here-what = some_inj (sym runs ∙ hs.runs)

    same_operation : (o : Operation) → OfFile N o → T (eqb o.row i.row) → i ≡ o
    same_operation o f t = some_inj (sym arr.of_file ∙ (ap (operation_of_row N.operations) (sym (eqb→eq o.row i.row t)) ∙ f))

    start-one : (r : ℕ) (o : Operation) (y : Path) → branch_at k m ≡ sequence l (one_way r o y) b → T (eqb o.row i.row)
        → o.two_way ≡ false → SessionSound N rows q (suc n) (started_by c k r y (received_by back) x 0)
    unfolding MadeOf row_of AllQueued
    start-one r o y e t tw =
        let on = once-of N rows acc q (suc n) (choice c m) runs in
        let way = input-way c k l m (one_way r o y) b e in
        let made = made_at N rows way (made_of N rows acc q (suc n) (choice c m) runs) in
        let eo = same_operation o made.1 t in
        let no = suits-none N rows i.service back i arr.suit (ap (λ (w : Operation). w.two_way) eo ∙ tw) in
        subst (λ (z : Optional Destination). SessionSound N rows q (suc n) (started_by c k r y (received_by z) x 0)) (sym no)
        (one_way-sound N rows acc q (suc n) (with_progress new_session (begun c k)) hs r o y x
        (subst (λ (z : Behaviour). Reaches (begun c k) (one_way r o y) z) here-what way) (input-undone c k l m (one_way r o y) b on e) arr.good
        (subst (λ (z : Operation). Fits x z.request) eo arr.fit) [] (omega arith) tt)

    request-same : {r r2 : ℕ} {o o2 : Operation} {x x2 c c2 : Path} {d d2 : Behaviour} → request_response r o x c d ≡ request_response r2 o2 x2 c2 d2 → o ≡ o2
    request-same e = cc

    start-two : (r : ℕ) (o : Operation) (y z : Path) (d : Behaviour) → branch_at k m ≡ sequence l (request_response r o y z d) b → T (eqb o.row i.row)
        → o.two_way ≡ true → SessionSound N rows q (suc n) (started_by c k r y (received_by back) x 0)
    unfolding MadeOf row_of AllQueued
    start-two r o y z d e t tw =
        let X = request_response r o y z d in
        let on = once-of N rows acc q (suc n) (choice c m) runs in
        let way = input-way c k l m X b e in
        let way2 = subst (λ (w : Behaviour). Reaches (begun c k) X w) here-what way in
        let made = made_at N rows way (made_of N rows acc q (suc n) (choice c m) runs) in
        let eo = same_operation o made.1 t in
        let to = suits-destination N rows i.service back i arr.suit (ap (λ (w : Operation). w.two_way) eo ∙ tw) in
        let ans : AnswersAt N hs.what r to.0 = λ r2 o2 x2 c2 d2 h.
        let same = some_inj (sym (reaches-at_row (begun c k) X hs.what (plain-request r o y z d) (subst EachRowOnce here-what on) way2) ∙ h) in
        subst (λ (w : Operation). ReplyFits N w to.0) (eo ∙ request-same same) (subst (RepliesFit N i) to.1 arr.destination) in
        subst (λ (w : Optional Destination). SessionSound N rows q (suc n) (started_by c k r y (received_by w) x 0)) (sym to.1)
        (request-sound N rows acc q (suc n) (with_progress new_session (begun c k)) hs r o y z d x to.0 way2
        (input-undone c k l m X b on e) arr.good (subst (λ (w : Operation). Fits x w.request) eo arr.fit) to.2 ans [] (omega arith) tt)

    start-input : (r : ℕ) (o : Operation) (y : Path) (k2 : Optional Response)
        → branch_at k m ≡ sequence l (from_input (record { row = r; operation = o; into = y; response = k2 })) b → T (eqb o.row i.row)
        → T (permits_input q (record { row = r; operation = o; into = y; response = k2 }))
        → SessionSound N rows q (suc n) (started c k (record { row = r; operation = o; into = y; response = k2 }) back x 0)
    start-input r o y none e t u = start-one r o y e t (permits-one q input o u)
    start-input r o y (some a) e t u = start-two r o y a.path a.body e t (permits-two q input o u)

  -- Which targets let a message pass.
  abbrev pub LetsPass : ℕ → Target → Type 0
  LetsPass q no_target = ⊥
  LetsPass q queue_full = ⊥
  LetsPass q queued = Unit {0}
  LetsPass q (starts c k a) = T (permits_input q a)

  pub allowed-keeps : (claims : Claims) (q : ℕ) (t : Target) (R : Result) → (LetsPass q t → Keeps N rows claims R) → Keeps N rows claims (allowed q t R)
  allowed-keeps claims q no_target R f = keeps-15 N rows claims
  allowed-keeps claims q queue_full R f = allowed-16 claims
  allowed-keeps claims q queued R f = f tt
  allowed-keeps claims q (starts c k a) R f = by-require N rows claims (permits_input q a) R f

  started-sound : (i : Operation) (n : ℕ) (c k : ℕ) (a : Input) (x : Tree Value) (back : Optional Destination) → Arriving i x back
      → Starting N i.service n i.row c k a
      → T (permits_input i.service a) → (key : ℕ) → SessionSound N rows i.service n (started c k a back x key)
  started-sound i n c k a x back arr s u key =
      let q = i.service in
      let m = s.options in
      let f = s.found in
      let ahead : f.ahead ≡ k = sym-zero f.ahead f.number in
      let small : T (ltb k (branches m)) = subst (λ (z : ℕ). T (ltb z (branches m))) ahead f.inside in
      let br : branch_at k m ≡ sequence f.label (from_input a) f.after =
      subst (λ (z : ℕ). branch_at z m ≡ sequence f.label (from_input a) f.after) ahead f.is_branch in
      let runs : behaviour_in N q (suc s.before) ≡ some (choice c m) = subst (λ (z : ℕ). behaviour_in N q z ≡ some (choice c m)) s.number s.runs in
      subst (λ (z : ℕ). SessionSound N rows q z (started c k a back x key)) (sym s.number)
      (with-key-sound N rows q (suc s.before) (started c k a back x 0) key
      (start-input q s.before c k m runs (begins q s.before c k m runs small s.derived) f.label f.after i x back arr
      a.row a.operation a.into a.response br f.named u))
    where
      sym-zero : (j : ℕ) → k ≡ 0 + j → j ≡ k
      sym-zero j e = omega arith

  -- A session that is started is one of 1 to 3.
  started-place : (q n w c k : ℕ) (a : Input) → Starting N q n w c k a → (1 ≤ n) × (n ≤ 3)
  started-place q n w c k a s = let e = s.number in (omega arith, (behaviour-place N q n (choice c s.options) s.runs).1)

  pub deliver-keeps : (claims : Claims) (G : State) → Sound N rows G → (i : Operation) (n : ℕ) (x : Tree Value) (back : Optional Destination)
      → Arriving i x back → (t : Target) → TargetInfo N G i n t → LetsPass i.service t → KeyInfo N i n x G t
      → Keeps N rows claims (deliver N G i n t back x)
  deliver-keeps claims G h_g i n x back arr no_target f a key = absurd a
  deliver-keeps claims G h_g i n x back arr queue_full f a key = absurd a
  deliver-keeps claims G h_g i n x back arr queued f a key =
      let q = i.service in
      let msg : Queued = record { operation = i.row; message = x; reply_to = back } in
      by-live N rows claims (G q n) (λ S. moved (set_slot G q n (live (with_queue S (S.queue ++ (msg ∷ []))))) [])
      (λ S e.
      let made = queue-sound N rows acc q n S (h_g.sessions q n S e) msg (queued-sound i x back arr) (f S e) in
      let k = h_g.keys q n S e in
      let more : KeySound N q n S.key (S.queue ++ (msg ∷ [])) = record {
        fits = k.fits;
        none = k.none;
        queue = record {
          of_key = λ h. of-key-more (key_id N q) S.key S.queue msg (k.queue.of_key h) ((key (T_of (held-keyed N q n h))).1 S e);
          first = λ h z. absurd ((key h).0 z);
        };
      } in
      (sound-set N rows G q n (live (with_queue S (S.queue ++ (msg ∷ [])))) h_g made (key-stays N rows h_g e refl more), nothing_out))
  deliver-keeps claims G h_g i n x back arr (starts c k a) f ad key =
      let q = i.service in
      let y = key_to_keep N i x in
      let S = started c k a back x y in
      let place = started-place q n i.row c k a f in
      let own : SlotKey N rows G q n (live S) = record {
        own = λ R e. subst (λ (z : Session). KeySound N q n z.key z.queue) (live-inj e) (start-key N i x arr.good n place.0 place.1);
        suits = start-suits N i x G n c k refl place.0 place.1 key;
      } in
      goes-keeps N rows claims false (save_within G q n S []) (λ t. absurd t)
      (save-goes N rows acc G q n S h_g (started-sound i n c k a x back arr f ad y) own)
