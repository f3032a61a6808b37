-- Property 3 holds: fresh state has the invariant, every move keeps it, and each claim of property 3 follows from it by its own law.
use Rattle.std.specs.Prelude.{◌≡◌, ℕ, Bool, ◌&&◌, ◌||◌, eqb, leb, length, drop}
use Rattle.std.proofs.Math.Path.{refl, ap}
use Rattle.std.proofs.Common.{sym, subst, ◌∙◌, arith}
use Rattle.std.proofs.Math.Bool.{true, false}
use mathlib.Core.List.{List, [], ◌∷◌}
use Rattle.std.proofs.Math.Dec.{T}
use Rattle.std.proofs.Math.Seq.{take-append_seam}
use Rattle.basics.specs.Choice.{pick}
use Rattle.basics.specs.TestLaws.{of_t}
use Rattle.network_syntax.specs.Syntax.{Optional, none, some, Network, Expression, Behaviour}
use Rattle.network_syntax.specs.Rows.{Local, assigns, decides, repeats, local_of, from_local}
use Rattle.refusal.specs.declared.Refusal.TheVariants.{BufferSize, MoveNotAllowed}
use Rattle.refusal.specs.Refusal.{number_of, outcome_number, done_with}
use Rattle.check_typing.proofs.TypedLaws.{within-before}
use Rattle.check_typing.proofs.DerivesLaws.{typed-derives}
use Rattle.tree.specs.Encode.{Octets}
use Rattle.network.specs.Form.{form_of}
use Rattle.network.specs.Layout.{behaviour_count}
use Rattle.network.specs.Decode.{network_of}
use Rattle.state.specs.Places.{out_room}
use Rattle.state.specs.Session.{Progress, Progresses, undone, done, waits, received, taken, Queued, Session, Slot, live, State}
use Rattle.state.specs.Bytes.{state_bytes}
use Rattle.state.specs.Shape.{is_undone, KeysApart, Stands, fresh_state}
use Rattle.state.proofs.ShapeLaws.{decode-state-complete, stands-length, stands-unique}
use Rattle.move_rules.specs.Readiness.{is_done, Reached, reached, reach, rest}
use Rattle.move_rules.specs.Evaluation.{evaluate}
use Rattle.move_rules.specs.Moves.{Result, refused, moved, require, on_evaluation, on_truth, if_undone, if_ready_while, assigned, unassigned, decided, repeated}
use Rattle.move_rules.specs.Moves.{local_by, local_at, local_reached, on_behaviour, on_live, local_move}
use Rattle.move_rules.specs.Moves.{Move, local, receive, send, reply, outer_message, outer_reply, close}
use Rattle.move_rules.specs.Moves.{move}
use Rattle.move_rules.specs.Step.{Step, refuse, finish, buffers_fit, step}
use Rattle.soundness.specs.Parts.{Reaches}
use Rattle.soundness.proofs.ReadyLaws.{Findable, local-findable, reach-complete}
use Rattle.soundness.specs.Accepted.{Accepted}
use Rattle.soundness.proofs.MadeLaws.{made-sorted, rest_sorted}
use Rattle.network_syntax.specs.ViewLaws.{some_inj, local-is}
use Rattle.soundness.specs.Invariant.{AllQueued, SessionSound, Sound}
use Rattle.soundness.proofs.SessionLaws.{once-of, made_of}
use Rattle.soundness.proofs.ResultLaws.{claims_of, Keeps, Goes}
use Rattle.soundness.proofs.LocalLaws.{local-move, receive-move, close-move, assign-goes, if-goes, while-goes, again-goes}
use Rattle.soundness.proofs.SendLaws.{send-move, outside-move}
use Rattle.soundness.proofs.ReplyLaws.{reply-move, outside-reply-move}
use Rattle.check_files.specs.FileCheckerLaws.{accepted-derived}
use Rattle.soundness.proofs.AcceptedLaws.{accepted}
use Rattle.soundness.proofs.FreshLaws.{fresh-sound}
use Rattle.soundness.proofs.ShapeLaws.{sound-shape}
use Rattle.soundness.specs.Property3.{QueueFits, LiveWellTyped, is_taken, can_move, is_ready_local, local_expression, is_beyond, Ready, Causes22}
use Rattle.soundness.specs.Texts.{TextOut, nothing_out}
use Rattle.soundness.specs.Property3.{Turn, NumberFits, Given, AllGiven, after, outgoing}
use Rattle.soundness.proofs.TextLaws.{shape-texts}
use Rattle.move_rules.specs.Fresh.{fresh_bytes, fresh}
use Rattle.soundness.specs.Property3.{AllWellTyped, Never18, Never19, ReadyMoves, Only22, AllTexts, WritesText, KeyedQueues, Holds, AcceptedFile, Property3}
use Rattle.std.specs.Prelude.{Ok, Err}

is-undone : (s : Progress) → T (is_undone s) → s ≡ undone
is-undone undone t = refl
is-undone done t = absurd t
is-undone waits t = absurd t
is-undone (received to) t = absurd t
is-undone (taken k) t = absurd t

queue-fits : (N : Network) (rows q : ℕ) (l : List Queued) → AllQueued N rows q l → QueueFits N l
unfolding AllQueued QueueFits
queue-fits N rows q [] a = tt
queue-fits N rows q (m ∷ l) a = (record { operation = a.0.operation; there = a.0.there; fit = a.0.fit }, queue-fits N rows q l a.1)

module _ (N : Network) (rows : ℕ) (acc : Accepted N rows) where
  -- Every move keeps the invariant, gives no 18, no 19 if it sends or replies, and 22 only by its cause.
  pub move-keeps : (G : State) → Sound N rows G → (m : Move) (bytes : List ℕ) → NumberFits m → Octets bytes
      → Keeps N rows (claims_of N G m) (move N G m bytes)
  unfolding move
  move-keeps G h (local q n r) bytes k oct = local-move N rows acc G h q n r
  move-keeps G h (receive q n r) bytes k oct = receive-move N rows acc (claims_of N G (receive q n r)) G h q n r
  move-keeps G h (send q n r to) bytes k oct = send-move N rows acc G h q n r to
  move-keeps G h (reply q n r) bytes k oct = reply-move N rows acc (claims_of N G (reply q n r)) G h q n r
  move-keeps G h (outer_message q id n number) bytes k oct =
      outside-move N rows acc (claims_of N G (outer_message q id n number)) (λ z. z) G h q id n number bytes k oct
  move-keeps G h (outer_reply q n r) bytes k oct = outside-reply-move N rows acc (claims_of N G (outer_reply q n r)) (λ z. z) G h q n r bytes oct
  move-keeps G h (close q n) bytes k oct = close-move N rows acc (claims_of N G (close q n)) G h q n

  -- A sound session is well typed.
  session-typed : (q n : ℕ) (S : Session) → SessionSound N rows q n S → LiveWellTyped N q n S
  session-typed q n S h =
      let R = rest S.progress h.what in
      let ws = rest_sorted h.what S.progress (made-sorted N rows acc h.what (made_of N rows acc q n h.what h.runs)) in
      record {
        what = h.what;
        runs = h.runs;
        well_typed = record {
          env = h.well.env;
          rising = h.well.rising;
          limit = within-before q R h.well.env h.last ws h.well.typed h.limit;
          fit = h.well.fit;
          last = h.last;
          derived = typed-derives q R h.well.env h.last ws h.well.typed h.limit;
          queue = queue-fits N rows q S.queue h.queued;
        };
      }

  -- A ready assign, if or while moves, or is refused with 22 by its expression's result.
  ready_by : (G : State) → Sound N rows G → (q n : ℕ) (S : Session) (h : SessionSound N rows q n S) → G q n ≡ live S → (l : Local)
      → Reaches S.progress (from_local l) h.what
      → T (can_move S.progress (some l)) → (e : Expression) → local_expression (some l) ≡ some e
      → Goes N rows (is_beyond (evaluate S.tree e)) (local_by G q n S (some l))
  ready_by G h_g q n S h e_s (assigns r x e) a t w its =
      let u = is-undone (S.progress r) t in
      let R = on_evaluation (evaluate S.tree e) (λ b. unassigned G q n S x) (assigned G q n S r x) in
      subst (λ (z : Expression). Goes N rows (is_beyond (evaluate S.tree z)) (if_undone (S.progress r) R)) (some_inj its)
      (subst (λ (s : Progress). Goes N rows (is_beyond (evaluate S.tree e)) (if_undone s R)) (sym u) (assign-goes N rows acc G h_g q n S h e_s r x e a u))
  ready_by G h_g q n S h e_s (decides r e x y) a t w its =
      let u = is-undone (S.progress r) t in
      let R = on_truth (evaluate S.tree e) (decided G q n S r) in
      subst (λ (z : Expression). Goes N rows (is_beyond (evaluate S.tree z)) (if_undone (S.progress r) R)) (some_inj its)
      (subst (λ (s : Progress). Goes N rows (is_beyond (evaluate S.tree e)) (if_undone s R)) (sym u) (if-goes N rows acc G h_g q n S h e_s r e x y a u))
  ready_by G h_g q n S h e_s (repeats r e b) a t w its =
      subst (λ (z : Expression). Goes N rows (is_beyond (evaluate S.tree z)) (if_ready_while (S.progress r) (is_done S.progress b) R)) (some_inj its)
      (go (S.progress r) refl t)
    where
      past : Bool
      past = is_beyond (evaluate S.tree e)

      R : Result
      R = on_truth (evaluate S.tree e) (repeated G q n S r b)

      when : (c : Bool) → T c → (T c → Goes N rows past R) → Goes N rows past (require c MoveNotAllowed R)
      when true t f = f tt
      when false t f = absurd t

      go : (s : Progress) → S.progress r ≡ s → T (is_undone s || (is_taken s && is_done S.progress b))
          → Goes N rows past (if_ready_while s (is_done S.progress b) R)
      go undone u t = while-goes N rows acc G h_g q n S h e_s r e b a u
      go done u t = absurd t
      go waits u t = absurd t
      go (received to) u t = absurd t
      go (taken k) u t = when (is_done S.progress b) t (λ d. again-goes N rows acc G h_g q n S h e_s r e b k a u d)

  ready_at : (G : State) → Sound N rows G → (q n : ℕ) (S : Session) (h : SessionSound N rows q n S) → G q n ≡ live S → (X : Behaviour)
      → Reaches S.progress X h.what → T (is_ready_local S.progress X) → (e : Expression) → local_expression (local_of X) ≡ some e
      → Goes N rows (is_beyond (evaluate S.tree e)) (local_at G q n S X)
  unfolding local_at
  ready_at G h_g q n S h e_s X a t w its = seen (local_of X) refl t its
    where
      seen : (l : Optional Local) → local_of X ≡ l → T (can_move S.progress l) → local_expression l ≡ some w
          → Goes N rows (is_beyond (evaluate S.tree w)) (local_by G q n S l)
      seen none e t i = absurd t
      seen (some l) e t i = ready_by G h_g q n S h e_s l (subst (λ (z : Behaviour). Reaches S.progress z h.what) (local-is X l e) a) t w i

  -- A row that can move is found.
  ready-found : (p : Progresses) (X : Behaviour) → T (is_ready_local p X) → Findable p X
  ready-found p X t = seen (local_of X) refl t
    where
      seen : (l : Optional Local) → local_of X ≡ l → T (can_move p l) → Findable p X
      seen none e t = absurd t
      seen (some l) e t = subst (Findable p) (sym (local-is X l e)) (local-findable p l)

  pub ready-goes : (G : State) → Sound N rows G → (q n r : ℕ) (S : Session) (e : Expression) → Ready N G q n r S e
      → Goes N rows (is_beyond (evaluate S.tree e)) (local_move N G q n r)
  ready-goes G h_g q n r S e k =
      let a = k.at in
      let past = is_beyond (evaluate S.tree e) in
      let h = h_g.sessions q n S a.alive in
      let same_b : h.what ≡ a.what = some_inj (sym h.runs ∙ a.runs) in
      let way : Reaches S.progress a.row h.what = subst (Reaches S.progress a.row) (sym same_b) a.way in
      let found : reach S.progress r h.what ≡ reached a.row =
      subst (λ (z : ℕ). reach S.progress z h.what ≡ reached a.row) a.number
      (reach-complete S.progress a.row h.what (ready-found S.progress a.row k.ready) (once-of N rows acc q n h.what h.runs)
      h.clean way) in
      let there : reach S.progress r a.what ≡ reached a.row = ap (reach S.progress r) (sym same_b) ∙ found in
      let g = ready_at G h_g q n S h a.alive a.row way k.ready e k.works in
      let f : Behaviour → Slot → Result = λ B x. on_live x (λ S2. local_reached G q n S2 (reach S2.progress r B)) in
      subst (λ (b : Optional Behaviour). Goes N rows past (on_behaviour b (λ B. f B (G q n)))) (sym a.runs)
      (subst (λ (x : Slot). Goes N rows past (f a.what x)) (sym a.alive)
      (subst (λ (l : Reached). Goes N rows past (local_reached G q n S l)) (sym there) g))

-- On bytes ----------------------------------------------------------------------------------------------------------------------------

module _ (file : List ℕ) (acc : AcceptedFile file) where
  abbrev N : Network
  N = network_of file

  abbrev rows : ℕ
  rows = behaviour_count file

  pub network : Accepted (network_of file) (behaviour_count file)
  network = accepted file acc.environments acc.octets acc.passes

  -- None of 2 to 5 refuses it.
  whole : form_of file ≡ (Ok tt)
  whole = (accepted-derived file acc.environments acc.passes).0

  -- What holds of a sound state, each claim by its own law.
  module _ (G : State) (h : Sound N rows G) where
    pub sound-stands : Stands N rows (state_bytes G) G
    sound-stands = record { shape = sound-shape N rows network G h; bytes = refl }

    buffers : (out : List ℕ) → buffers_fit (state_bytes G) out ≡ leb out_room (length out)
    buffers out = ap (λ (b : Bool). b && leb out_room (length out))
        (of_t (eqb (length (state_bytes G)) 65536) (subst (λ (k : ℕ). T (eqb k 65536)) (sym (stands-length sound-stands)) tt))

    -- A move on bytes is a move on the state, if the out buffer fits.
    pub step_is : (t : Turn)
        → step file (state_bytes G) t.out t.move t.bytes
        ≡ pick (leb out_room (length t.out)) (finish (state_bytes G) t.out (move N G t.move t.bytes)) (refuse BufferSize (state_bytes G) t.out)
    unfolding step
    step_is t = rw (buffers t.out, whole, decode-state-complete sound-stands)

    -- What holds of a step by its result.
    step_by : (P : Step → Type 0) (t : Turn) → P (refuse BufferSize (state_bytes G) t.out)
        → ((R : Result) → Keeps N rows (claims_of N G t.move) R → P (finish (state_bytes G) t.out R)) → Given t
        → P (step file (state_bytes G) t.out t.move t.bytes)
    step_by P t f k g = subst P (sym (step_is t)) (go (leb out_room (length t.out)))
      where
        R : Result
        R = move N G t.move t.bytes

        go : (b : Bool) → P (pick b (finish (state_bytes G) t.out R) (refuse BufferSize (state_bytes G) t.out))
        go true = k R (move-keeps N rows network G h t.move t.bytes g.reply_number g.octets)
        go false = f

    pub sound-typed : AllWellTyped file G
    sound-typed q n S e = session-typed N rows network q n S (h.sessions q n S e)

    pub sound-never-18 : Never18 file G
    sound-never-18 t = step_by (λ x. outcome_number x.outcome ≡ 18 → ⊥) t (λ e. omega arith) go
      where
        go : (R : Result) → Keeps N rows (claims_of N G t.move) R → outcome_number (finish (state_bytes G) t.out R).outcome ≡ 18 → ⊥
        go (refused why) k e = k.not18 e
        go (moved G2 out) k e = omega arith

    pub sound-never-19 : Never19 file G
    sound-never-19 t g b = step_by (λ x. outcome_number x.outcome ≡ 19 → ⊥) t (λ e. omega arith) go g
      where
        go : (R : Result) → Keeps N rows (claims_of N G t.move) R → outcome_number (finish (state_bytes G) t.out R).outcome ≡ 19 → ⊥
        go (refused why) k e = k.not19 b e
        go (moved G2 out) k e = omega arith

    pub sound-ready : ReadyMoves file G
    unfolding move
    sound-ready q n r S e bytes out k =
        ap (λ (x : Step). outcome_number x.outcome) (step_is (record { move = local q n r; bytes = bytes; out = out }))
        ∙ go (leb out_room (length out)) (is_beyond (evaluate S.tree e)) (move N G (local q n r) bytes) (ready-goes N rows network G h q n r S e k)
      where
        go : (b past : Bool) (R : Result) → Goes N rows past R
            → outcome_number (pick b (finish (state_bytes G) out R) (refuse BufferSize (state_bytes G) out)).outcome ≡ pick b (pick past 22 0) 1
        go true true (refused why) g = ap number_of g
        go true true (moved G2 o) g = absurd g
        go true false (refused why) g = absurd g
        go true false (moved G2 o) g = refl
        go false past R g = refl

    pub sound-only-22 : Only22 file G
    sound-only-22 t = step_by (λ x. outcome_number x.outcome ≡ 22 → Causes22 N G t.move) t (λ e. absurd (omega arith)) go
      where
        go : (R : Result) → Keeps N rows (claims_of N G t.move) R → outcome_number (finish (state_bytes G) t.out R).outcome ≡ 22
            → Causes22 N G t.move
        go (refused why) k e = k.only22 e
        go (moved G2 out) k e = absurd (omega arith)

    pub sound-texts : AllTexts G
    sound-texts = shape-texts N rows G sound-stands.shape

    pub sound-writes : WritesText file G
    sound-writes t = step_by (λ x. TextOut (outgoing x)) t nothing_out go
      where
        go : (R : Result) → Keeps N rows (claims_of N G t.move) R → TextOut (outgoing (finish (state_bytes G) t.out R))
        go (refused why) k = nothing_out
        go (moved G2 out) k = subst TextOut (sym (take-append_seam out (drop (length out) t.out))) k.1

    pub sound-holds : Holds file G
    sound-holds =
        record {
          well_typed = sound-typed;
          never18 = sound-never-18;
          never19 = sound-never-19;
          ready_moves = sound-ready;
          only22 = sound-only-22;
          texts = sound-texts;
          writes_text = sound-writes;
          one_key = h.keys_apart;
          keyed_queues = λ q n S e. (h.keys q n S e).queue;
        }

  -- The bytes are those of a sound state.
  pub record SoundBytes (s : List ℕ) : Type 0 where
    pub state : State
    pub sound : Sound N rows state
    pub bytes : s ≡ state_bytes state

  step-sound : (G : State) → Sound N rows G → (t : Turn) → Given t → SoundBytes (step file (state_bytes G) t.out t.move t.bytes).state
  step-sound G h t = step_by G h (λ x. SoundBytes x.state) t same go
    where
      same : SoundBytes (state_bytes G)
      same = record { state = G; sound = h; bytes = refl }

      go : (R : Result) → Keeps N rows (claims_of N G t.move) R → SoundBytes (finish (state_bytes G) t.out R).state
      go (refused why) k = same
      go (moved G2 out) k = record { state = G2; sound = k.0; bytes = refl }

  after-sound : (l : List Turn) → AllGiven l → (s : List ℕ) → SoundBytes s → SoundBytes (after file s l)
  unfolding after AllGiven
  after-sound [] g s h = h
  after-sound (t ∷ l) g s h =
      after-sound l g.1 (step file s t.out t.move t.bytes).state
      (subst (λ (b : List ℕ). SoundBytes (step file b t.out t.move t.bytes).state) (sym h.bytes) (step-sound h.state h.sound t g.0))

  -- A state from fresh is sound.
  pub from-fresh : (l : List Turn) → AllGiven l → SoundBytes (after file (fresh_bytes file) l)
  from-fresh l g = after-sound l g (fresh_bytes file) (record { state = fresh_state N; sound = fresh-sound N rows network; bytes = refl })

  -- Property 3.
  pub property3 : (l : List Turn) → AllGiven l → Property3 file l
  property3 l g =
      let h = from-fresh l g in
      record {
        state = h.state;
        stands = record { shape = (sound-stands h.state h.sound).shape; bytes = h.bytes };
        holds = sound-holds h.state h.sound;
      }

  -- "State trees and queues hold only well-formed strings from a fresh state on", whichever state the bytes stand for; nor does a next move write
  -- another.
  pub texts-from-fresh : (l : List Turn) → AllGiven l → (G : State) → Stands (network_of file) (behaviour_count file) (after file (fresh_bytes file) l) G
      → AllTexts G × WritesText file G
  texts-from-fresh l g G s =
      let P = property3 l g in
      subst (λ (H : State). AllTexts H × WritesText file H) (stands-unique P.stands s) (P.holds.texts, P.holds.writes_text)

  -- "From fresh, no two live sessions of a service hold one key", whichever state the bytes stand for; messages are queued by it.
  pub keys-from-fresh : (l : List Turn) → AllGiven l → (G : State) → Stands (network_of file) (behaviour_count file) (after file (fresh_bytes file) l) G
      → KeysApart (network_of file) G × KeyedQueues file G
  keys-from-fresh l g G s =
      let P = property3 l g in
      subst (λ (H : State). KeysApart (network_of file) H × KeyedQueues file H) (stands-unique P.stands s) (P.holds.one_key, P.holds.keyed_queues)

-- Of an accepted file, fresh writes the state that the list of moves starts from.
pub fresh-writes : (file state : List ℕ) → AcceptedFile file → length state ≡ 65536
    → fresh file state ≡ record { outcome = done_with 0; state = fresh_bytes file }
unfolding fresh
fresh-writes file state acc e = rw (e, acc.passes)
