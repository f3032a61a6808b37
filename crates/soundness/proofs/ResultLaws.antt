-- Results of moves: those that keep the invariant, by the way a result is made.
use Rattle.std.specs.Prelude.{◌≡◌, refl, ℕ, ◌+◌, max, Bool, true, false, ◌&&◌, T, eqb, leb}
use Rattle.std.proofs.Common.{sym, ap, subst, ◌∙◌, arith, eqb→eq, le→leb}
use Rattle.tree_forest.specs.Forest.{Tree, tree, Lookup, absent, present, RisingTree, nodes, levels}
use Rattle.scalar.specs.Basic.{bool}
use Rattle.scalar.specs.Value.{Value, value, basic_of}
use Rattle.wire.specs.Wire.{unsigned_of}
use Rattle.basics.specs.Choice.{pick}
use Rattle.basics.specs.TestLaws.{and_i, and_r, not-T-false, of_t}
use Rattle.network_syntax.specs.Syntax.{MessageType, Optional, none, some, Network, Operation, Behaviour}
use Rattle.refusal.specs.declared.Refusal.{Refusal}
use Rattle.refusal.specs.declared.Refusal.TheVariants.{MoveNotAllowed, QueueFull, NoMessage, Stuck, MessageMisfit, OutOfRange}
use Rattle.refusal.specs.Refusal.{number_of}
use Rattle.check_subtyping.proofs.SubtypeLaws.{subtype-complete}
use Rattle.check_subtyping.specs.Own.{own_type, Fits, fits}
use Rattle.check_subtyping.proofs.OwnLaws.{tree-within, own-rising}
use Rattle.check_typing.proofs.EnvironmentLaws.{sums, maxima}
use Rattle.check_typing.proofs.TypedLaws.{by_bool}
use Rattle.tree_forest.specs.Limits.{message_levels_below, message_nodes_below}
use Rattle.state.specs.Session.{Destination, Progress, undone, done, waits, received, taken, Session, Slot, free, live, State, set_slot}
use Rattle.state.specs.Shape.{behaviour_in}
use Rattle.state.proofs.KeyLaws.{not_live, KeySuits, free-key, kept-key, set_apart}
use Rattle.move_rules.specs.Evaluation.{Evaluation, missing, wrong_kind, beyond, given}
use Rattle.move_rules.specs.Moves.{Result, refused, moved, not_allowed, require, out_of_range, on_evaluation, on_tree, root_value, on_bool, on_truth, on_live}
use Rattle.move_rules.specs.Moves.{on_behaviour, on_operation, in_session, if_undone, if_waiting, on_received, on_message, is_message_tree, must_fit, Move}
use Rattle.soundness.proofs.EvaluationLaws.{GivesBy}
use Rattle.soundness.proofs.LeafLaws.{GivesBool}
use Rattle.tree.specs.Encode.{WellFormedTree}
use Rattle.soundness.specs.Texts.{TextOut}
use Rattle.soundness.specs.Property3.{is_beyond, Causes22, sends_or_replies}
use Rattle.soundness.specs.GoodTrees.{GoodTree}
use Rattle.soundness.specs.Accepted.{SmallType}
use Rattle.soundness.specs.Invariant.{SessionSound, KeySound, Sound}

-- What is claimed of a move's refusals beside that none is 18: of a send or reply (`strict`) none is 19, and 22 has its cause.
pub record Claims : Type 1 where
  pub strict : Bool
  pub cause : Type 0

-- What property 3 claims of a move.
abbrev pub claims_of : Network → State → Move → Claims
claims_of N G m = record { strict = sends_or_replies m; cause = Causes22 N G m }

-- A refusal that may come from fresh.
pub record Tolerated (claims : Claims) (why : Refusal) : Type 0 where
  pub not18 : number_of why ≡ 18 → ⊥
  pub not19 : T claims.strict → number_of why ≡ 19 → ⊥
  pub only22 : number_of why ≡ 22 → claims.cause

allowed-15 : (claims : Claims) → Tolerated claims MoveNotAllowed
allowed-15 claims = record { not18 = λ e. omega arith; not19 = λ t e. omega arith; only22 = λ e. absurd (omega arith) }

pub allowed-16 : (claims : Claims) → Tolerated claims QueueFull
allowed-16 claims = record { not18 = λ e. omega arith; not19 = λ t e. omega arith; only22 = λ e. absurd (omega arith) }

allowed-17 : (claims : Claims) → Tolerated claims NoMessage
allowed-17 claims = record { not18 = λ e. omega arith; not19 = λ t e. omega arith; only22 = λ e. absurd (omega arith) }

allowed-19 : (claims : Claims) → (T claims.strict → ⊥) → Tolerated claims MessageMisfit
allowed-19 claims f = record { not18 = λ e. omega arith; not19 = λ t e. f t; only22 = λ e. absurd (omega arith) }

allowed-22 : (claims : Claims) → claims.cause → Tolerated claims OutOfRange
allowed-22 claims c = record { not18 = λ e. omega arith; not19 = λ t e. omega arith; only22 = λ e. c }

pub live-inj : {a b : Session} → live a ≡ live b → a ≡ b
live-inj h = cc

-- A slot of a state with one slot changed.
pub set-elim : {X : Type 0} (G : State) (q n : ℕ) (x : Slot) (i j : ℕ) (y : Slot) → (i ≡ q → j ≡ n → x ≡ y → X) → (G i j ≡ y → X)
    → set_slot G q n x i j ≡ y → X
set-elim G q n x i j y f g e =
    by_bool (eqb i q)
    (λ t. let e1 : pick (eqb j n) x (G i j) ≡ y = sym (ap (λ (b : Bool). pick b (pick (eqb j n) x (G i j)) (G i j)) (of_t (eqb i q) t)) ∙ e in
    by_bool (eqb j n)
    (λ u. f (eqb→eq i q t) (eqb→eq j n u) (sym (ap (λ (b : Bool). pick b x (G i j)) (of_t (eqb j n) u)) ∙ e1))
    (λ u. g (sym (ap (λ (b : Bool). pick b x (G i j)) (not-T-false (eqb j n) u)) ∙ e1)))
    (λ t. g (sym (ap (λ (b : Bool). pick b (pick (eqb j n) x (G i j)) (G i j)) (not-T-false (eqb i q) t)) ∙ e))

-- What fits a type of the file is a message.
pub message-formed : (m : Tree Value) (t : MessageType) → GoodTree m → RisingTree t → SmallType t → Fits m t
    → WellFormedTree message_levels_below message_nodes_below m
message-formed (tree v k) (tree a l) g rt st f =
    let few = tree-within (◌+◌) sums k l g.1.0 rt f.children in
    let low = tree-within max maxima k l g.1.0 rt f.children in
    record { root = g.0; sound = g.1.1; rising = g.1.0; shallow = let z = st.0 in omega arith; few = let z = st.1 in omega arith }

module _ (N : Network) (rows : ℕ) where
  -- It is refused as claimed, or made: the state after it is sound, and what it writes out is well formed.
  abbrev pub Keeps : Claims → Result → Type 0
  Keeps claims (refused why) = Tolerated claims why
  Keeps claims (moved G out) = Sound N rows G × TextOut out

  -- It is made, the state after it is sound and what it writes out well formed; with a result that is beyond (`past`) it is refused with 22
  -- instead.
  abbrev pub Goes : Bool → Result → Type 0
  Goes true (refused why) = why ≡ OutOfRange
  Goes true (moved G out) = ⊥
  Goes false (refused why) = ⊥
  Goes false (moved G out) = Sound N rows G × TextOut out

  pub goes-keeps : (claims : Claims) (past : Bool) (r : Result) → (T past → claims.cause) → Goes past r → Keeps claims r
  goes-keeps claims true (refused why) f g = subst (Tolerated claims) (sym g) (allowed-22 claims (f tt))
  goes-keeps claims true (moved G out) f g = absurd g
  goes-keeps claims false (refused why) f g = absurd g
  goes-keeps claims false (moved G out) f g = g

  pub keeps-15 : (claims : Claims) → Keeps claims not_allowed
  keeps-15 claims = allowed-15 claims

  -- What holds of every way a result can come about.
  pub by-require : (claims : Claims) (b : Bool) (r : Result) → (T b → Keeps claims r) → Keeps claims (require b MoveNotAllowed r)
  by-require claims true r f = f tt
  by-require claims false r f = allowed-15 claims

  pub by-undone : (claims : Claims) (s : Progress) (r : Result) → (s ≡ undone → Keeps claims r) → Keeps claims (if_undone s r)
  by-undone claims undone r f = f refl
  by-undone claims done r f = allowed-15 claims
  by-undone claims waits r f = allowed-15 claims
  by-undone claims (received to) r f = allowed-15 claims
  by-undone claims (taken k) r f = allowed-15 claims

  pub by-waiting : (claims : Claims) (s : Progress) (r : Result) → (s ≡ waits → Keeps claims r) → Keeps claims (if_waiting s r)
  by-waiting claims undone r f = allowed-15 claims
  by-waiting claims done r f = allowed-15 claims
  by-waiting claims waits r f = f refl
  by-waiting claims (received to) r f = allowed-15 claims
  by-waiting claims (taken k) r f = allowed-15 claims

  pub by-received : (claims : Claims) (s : Progress) (k : Destination → Result) → ((to : Destination) → s ≡ received to → Keeps claims (k to))
      → Keeps claims (on_received s k)
  by-received claims undone k f = allowed-15 claims
  by-received claims done k f = allowed-15 claims
  by-received claims waits k f = allowed-15 claims
  by-received claims (received to) k f = f to refl
  by-received claims (taken j) k f = allowed-15 claims

  pub by-live : (claims : Claims) (x : Slot) (k : Session → Result) → ((S : Session) → x ≡ live S → Keeps claims (k S)) → Keeps claims (on_live x k)
  by-live claims free k f = allowed-15 claims
  by-live claims (live S) k f = f S refl

  pub by-operation : (claims : Claims) (o : Optional Operation) (k : Operation → Result) → ((i : Operation) → o ≡ some i → Keeps claims (k i))
      → Keeps claims (on_operation o k)
  by-operation claims none k f = allowed-15 claims
  by-operation claims (some i) k f = f i refl

  pub by-message : (claims : Claims) (l : Lookup Value) (k : Tree Value → Result) → ((m : Tree Value) → l ≡ present m → Keeps claims (k m))
      → Keeps claims (on_message l k)
  by-message claims absent k f = allowed-17 claims
  by-message claims (present m) k f = f m refl

  pub by-pick : (claims : Claims) (b : Bool) (x y : Result) → (T b → Keeps claims x) → ((T b → ⊥) → Keeps claims y) → Keeps claims (pick b x y)
  by-pick claims true x y f g = f tt
  by-pick claims false x y f g = g (λ t. t)

  pub by-session : (claims : Claims) (G : State) (q n : ℕ) (k : Behaviour → Session → Result)
      → ((B : Behaviour) (S : Session) → behaviour_in N q n ≡ some B → G q n ≡ live S → Keeps claims (k B S)) → Keeps claims (in_session N G q n k)
  by-session claims G q n k f = go (behaviour_in N q n) refl
    where
      go : (b : Optional Behaviour) → behaviour_in N q n ≡ b → Keeps claims (on_behaviour b (λ B. on_live (G q n) (λ S. k B S)))
      go none e = allowed-15 claims
      go (some B) e = by-live claims (G q n) (λ S. k B S) (λ S e_s. f B S e e_s)

  -- What comes of an evaluation.
  pub at-evaluation : {B : ℕ → Type 0} {P : Tree Value → Type 0} (r : Evaluation (Tree Value)) (g : ℕ → Result) (f : Tree Value → Result)
      → GivesBy r B P
      → ((b : ℕ) → B b → Goes true (g b)) → ((y : Tree Value) → P y → Goes false (f y)) → Goes (is_beyond r) (on_evaluation r g f)
  at-evaluation missing g f c k l = absurd c
  at-evaluation wrong_kind g f c k l = absurd c
  at-evaluation (beyond b) g f c k l = k b c
  at-evaluation (given y) g f c k l = l y c

  pub at-require : (past b : Bool) (why : Refusal) (r : Result) → T b → Goes past r → Goes past (require b why r)
  at-require past b why r t g = subst (λ (z : Bool). Goes past (require z why r)) (sym (of_t b t)) g

  at-bool : (v : Value) (k : Bool → Result) → basic_of v ≡ bool → ((c : Bool) → Goes false (k c)) → Goes false (on_bool v k)
  at-bool (value b w) k e f =
      at-require false (eqb b bool) Stuck (k (eqb (unsigned_of w) 1)) (subst (λ (z : ℕ). T (eqb z bool)) (sym e) tt) (f (eqb (unsigned_of w) 1))

  pub at-truth : (r : Evaluation (Tree Value)) (k : Bool → Result) → GivesBool r → ((c : Bool) → Goes false (k c)) → Goes (is_beyond r) (on_truth r k)
  at-truth r k c f =
      at-evaluation r (λ b. require (eqb b bool) Stuck out_of_range) (λ t. on_bool (root_value t) k) c
      (λ b e. at-require true (eqb b bool) Stuck out_of_range (subst (λ (z : ℕ). T (eqb z bool)) (sym e) tt) refl)
      (λ y e. at-bool (root_value y) k e f)

  -- The same where the target may refuse.
  pub keeps-tree : {B : ℕ → Type 0} {P : Tree Value → Type 0} (claims : Claims) (r : Evaluation (Tree Value)) (k : Tree Value → Result)
      → GivesBy r B P
      → ((b : ℕ) → r ≡ beyond b → B b → claims.cause) → ((y : Tree Value) → P y → Keeps claims (k y)) → Keeps claims (on_tree r k)
  keeps-tree claims missing k c f g = absurd c
  keeps-tree claims wrong_kind k c f g = absurd c
  keeps-tree claims (beyond b) k c f g = allowed-22 claims (f b refl c)
  keeps-tree claims (given y) k c f g = g y c

  -- A tree that fits a type of the file is a message, and passes the test.
  fit-test : (m : Tree Value) (t : MessageType) → GoodTree m → RisingTree t → SmallType t → Fits m t → T (is_message_tree m && fits m t)
  fit-test (tree v k) (tree a l) g rt st f =
      let w = message-formed (tree v k) (tree a l) g rt st f in
      and_i (is_message_tree (tree v k)) (fits (tree v k) (tree a l))
      (and_i (leb (levels k) message_levels_below) (leb (nodes k) message_nodes_below) (le→leb (levels k) message_levels_below w.shallow)
      (le→leb (nodes k) message_nodes_below w.few))
      (subtype-complete (own_type (tree v k)) (tree a l) (own-rising k g.1.0) rt f)

  pub keeps-fit : (claims : Claims) (m : Tree Value) (t : MessageType) (r : Result) → GoodTree m → RisingTree t → SmallType t → Fits m t
      → (WellFormedTree message_levels_below message_nodes_below m → Keeps claims r) → Keeps claims (must_fit m t r)
  keeps-fit claims m t r g rt st f h =
      subst (λ (z : Bool). Keeps claims (require z MessageMisfit r)) (sym (of_t (is_message_tree m && fits m t) (fit-test m t g rt st f)))
      (h (message-formed m t g rt st f))

  -- An outsider's message may be refused with 19.
  pub outside-fit : (claims : Claims) → (T claims.strict → ⊥) → (m : Tree Value) (t : MessageType) (r : Result) → (T (fits m t) → Keeps claims r)
      → Keeps claims (must_fit m t r)
  outside-fit claims n m t r f = go (is_message_tree m && fits m t) (λ z. and_r (is_message_tree m) (fits m t) z)
    where
      go : (b : Bool) → (T b → T (fits m t)) → Keeps claims (require b MessageMisfit r)
      go true g = f (g tt)
      go false g = allowed-19 claims n

  -- A slot changed.
  abbrev pub SlotSound : ℕ → ℕ → Slot → Type 0
  SlotSound q n free = Unit {0}
  SlotSound q n (live S) = SessionSound N rows q n S

  -- Its key: that of its session, and no other live session of the service holds it.
  pub record SlotKey (G : State) (q n : ℕ) (x : Slot) : Type 0 where
    pub own : (S : Session) → x ≡ live S → KeySound N q n S.key S.queue
    pub suits : KeySuits N G q n x

  pub free-slot : {G : State} {q n : ℕ} → SlotKey G q n free
  free-slot = record { own = λ S e. absurd (not_live e); suits = free-key }

  module _ {G : State} (h : Sound N rows G) {q n : ℕ} {S : Session} (e : G q n ≡ live S) where
    -- The session R in the place of S, with the same key and another queue; with the same queue.
    pub key-stays : {R : Session} → R.key ≡ S.key → KeySound N q n R.key R.queue → SlotKey G q n (live R)
    key-stays {R} k s = record {
      own = λ T f. subst (λ (z : Session). KeySound N q n z.key z.queue) (live-inj f) s;
      suits = kept-key (λ i j T w g. (h.keys i j T g).none w) h.keys_apart e k;
    }

    pub same_key : {R : Session} → R.key ≡ S.key → R.queue ≡ S.queue → SlotKey G q n (live R)
    same_key {R} k l =
        key-stays k (subst (λ (x : ℕ). KeySound N q n x R.queue) (sym k) (subst (KeySound N q n S.key) (sym l) (h.keys q n S e)))

  pub sound-set : (G : State) (q n : ℕ) (x : Slot) → Sound N rows G → SlotSound q n x → SlotKey G q n x → Sound N rows (set_slot G q n x)
  sound-set G q n x h k s = record {
    sessions = λ i j S. set-elim G q n x i j (live S) (go x k i j S) (h.sessions i j S);
    keys = λ i j S. set-elim G q n x i j (live S) (key i j S) (h.keys i j S);
    keys_apart = set_apart q n x s.suits h.keys_apart;
  }
    where
      key : (i j : ℕ) (S : Session) → i ≡ q → j ≡ n → x ≡ live S → KeySound N i j S.key S.queue
      key i j S a b e =
          subst (λ (z : ℕ). KeySound N z j S.key S.queue) (sym a) (subst (λ (z : ℕ). KeySound N q z S.key S.queue) (sym b) (s.own S e))

      go : (x : Slot) → SlotSound q n x → (i j : ℕ) (S : Session) → i ≡ q → j ≡ n → x ≡ live S → SessionSound N rows i j S
      go free k i j S a b e = absurd (not_live e)
      go (live S2) k i j S a b e =
          subst (λ (z : ℕ). SessionSound N rows z j S) (sym a)
          (subst (λ (z : ℕ). SessionSound N rows q z S) (sym b) (subst (SessionSound N rows q n) (live-inj e) k))
