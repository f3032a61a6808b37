-- What the functions say of a message that is delivered. 01, Moves: "queued at a live one, or starting a free 1 to 3, whose first starter
-- branch of that operation receives it"; 18: "a message that passes 19 would take a tree past 48 nodes or 6 levels".
use Rattle.std.specs.Prelude.{◌≡◌, false, List, ◌⊎◌, ℕ, ◌+◌, ◌<◌, ◌≤◌, length, take}
use Rattle.tree_forest.specs.Forest.{Forest, end, Tree, tree}
use Rattle.tree_forest.specs.Path.{replace_at}
use Rattle.scalar.specs.Value.{Value}
use Rattle.wire.specs.Wire.{part, with_part}
use Rattle.refusal.specs.declared.Refusal.{Refusal}
use Rattle.refusal.specs.declared.Refusal.TheVariants.{MoveNotAllowed, Stuck}
use Rattle.refusal.specs.Refusal.{done_with}
use Rattle.network_syntax.specs.Syntax.{MessageType, Operation, Optional, none, some}
use Rattle.network_syntax.specs.Rows.{Input, input_of}
use Rattle.tree.specs.Encode as trees
use Rattle.tree_forest.specs.Limits.{session_levels, session_nodes}
use Rattle.check_typing.specs.Environment.{within}
use Rattle.network.specs.Form.{WellFormed}
use Rattle.network.specs.Layout.{path_count, type_count, behaviour_count, operation_count}
use Rattle.network.specs.Decode.{path_of, type_of, behaviour_of, operation_of, network_of}
use Rattle.state.specs.Places.{slot_size, tree_room, message_room, slot_start, state_size}
use Rattle.state.specs.Session.{Destination, Progress, taken, advance, Session, with_tree, with_progress, with_key, free, live, State, new_session}
use Rattle.state.specs.Bytes.{tree_bytes, slot_bytes}
use Rattle.move_rules.specs.Targets as definition
use Rattle.move_rules.specs.Keys.{key_to_keep}
use Rattle.move_rules.specs.Moves.{Result, refused, require, allowed, must_find, deliver}
use Rattle.scalar.specs.Value.{void_value}
use Rattle.move_rules.specs.Step.{Step, finish}
use Rattle.state_trees.specs.Changing.{KeptTree, ChangedTo, kept_bytes}
use Rattle.move_targets.specs.declared.Target.{Target}
use Rattle.move_targets.specs.Answers.{passes_input, target_as, StarterExists}
use Rattle.move_fitting.specs.Fitting.{Comes, Passed}
use Rattle.move_frame.specs.Made.{StateOf}
use Rattle.move_frame.specs.Holding.{Holding}
use Rattle.move_delivery.specs.declared.Arrival.{Arrival}
use Rattle.std.specs.Prelude.{Option, Some, None}
use Rattle.std.specs.Prelude as std
use Rattle.std.specs.Prelude.{Ok, Err}

-- A verdict before the rest of a move.
abbrev pub on_verdict : std.Result (Unit {0}) Refusal → Result → Result
on_verdict (Ok tt) r = r
on_verdict (Err why) r = refused why

-- 15: ".. has an operation that 6 refuses", at the input of B row a.
pub record Permitted (file : List ℕ) (q a : ℕ) (v : std.Result (Unit {0}) Refusal) : Type 0 where
  pub tells : a < behaviour_count file → (r : Result) → on_verdict v r ≡ require (passes_input q (input_of (behaviour_of file a))) MoveNotAllowed r

-- 15 and 16, as move_rules' `allowed` has them.
pub record Allowed (file : List ℕ) (q : ℕ) (t : Target) (v : std.Result (Unit {0}) Refusal) : Type 0 where
  pub tells : StarterExists file t → (r : Result) → on_verdict v r ≡ allowed q (target_as file t) r

-- What the message itself answers, before its type is tried: a refusal, or bytes that come to the type t.
abbrev pub MessageOffered : std.Result (Unit {0}) Refusal → List ℕ → Refusal → MessageType → ((Tree Value → Result) → Result) → Type 0
MessageOffered (Ok tt) l other t f = Comes l other t f
MessageOffered (Err why) l other t f = (k : Tree Value → Result) → f k ≡ refused why

-- 15, 16, the message's own answer, 17 and 19, in this order.
pub record LetsIn (file : List ℕ) (q : ℕ) (t : Target) (l : List ℕ) (r : ℕ) (own : std.Result (Unit {0}) Refusal) (other : Refusal) (v : std.Result (Unit {0}) Refusal) : Type 0 where
  pub tells : WellFormed file → r < type_count file → StarterExists file t → (f : (Tree Value → Result) → Result) → MessageOffered own l other (type_of file r) f
      → Passed v l (λ k. allowed q (target_as file t) (f k))

-- The tree of a session that starts with a message into the path of P row p.
pub record StartTree (file : List ℕ) (p : ℕ) (l o : List ℕ) (x : Option ℕ) : Type 0 where
  pub tells : WellFormed file → p < path_count file → (m : Tree Value) → trees.Message l m → ChangedTo o x (replace_at void_value (path_of file p) m end)
  pub small : kept_bytes x ≤ tree_room

-- Where the message m goes from its target, in session n of the service of o: the slot, and of a session that starts its tree, in o', and its key.
abbrev pub AtSlot : Operation → ℕ → ℕ → Type 0
AtSlot o n slot = (slot ≡ slot_start o.service n) × (o.service < 4) × (n < 4)

abbrev pub ArrivesAs : List ℕ → Operation → ℕ → definition.Target → Tree Value → List ℕ → Arrival → Type 0
ArrivesAs file o n t m o' (Arrival.Queued slot) = AtSlot o n slot × (t ≡ definition.queued)
ArrivesAs file o n t m o' (Arrival.Starts slot c k a len x) =
    AtSlot o n slot × ((i : Input) × (t ≡ definition.starts c k i) × (input_of (behaviour_of file a) ≡ some i) × (i.row ≡ a)
    × (a < behaviour_count file) × KeptTree o' len (replace_at void_value i.into m end)) × (x ≡ key_to_keep (network_of file) o m)

-- There is room for it: in the queue's entry of O row i, in the slot's tree, rows and key.
abbrev pub Storable : ℕ → List ℕ → Arrival → Type 0
Storable i l (Arrival.Queued slot) = (slot + slot_size ≤ state_size) × (i < 255) × (length l ≤ message_room)
Storable i l (Arrival.Starts slot c k a len x) =
    (slot + slot_size ≤ state_size) × (c < 256) × (a < 256) × (len ≤ tree_room) × (x < 0x100000000)

abbrev pub StorableIf : ℕ → List ℕ → std.Result Arrival Refusal → Type 0
StorableIf i l (Err why) = Unit {0}
StorableIf i l (Ok y) = Storable i l y

-- A message is queued at a live session with room, and starts a free one.
abbrev pub Known : State → Operation → ℕ → definition.Target → Type 0
Known G o n definition.no_target = Unit {0}
Known G o n definition.queue_full = Unit {0}
Known G o n definition.queued = (S : Session) × (G o.service n ≡ live S) × (length S.queue < 4)
Known G o n (definition.starts c k i) = G o.service n ≡ free

-- A session that starts with the tree F, which stands in o, and the key x; or 18 past its limits.
abbrev pub StartsOr18 : Forest Value → ℕ → ℕ → ℕ → ℕ → ℕ → List ℕ → std.Result Arrival Refusal → Type 0
StartsOr18 F slot c k a x o y =
    ((y ≡ Err Stuck) × (within F ≡ false)) ⊎ ((len : ℕ) × (y ≡ Ok (Arrival.Starts slot c k a len x)) × KeptTree o len F)

-- By its input's path; by its input, 15 without one.
pub record StartsBy (file : List ℕ) (slot c k a p : ℕ) (l : List ℕ) (x : ℕ) (o : List ℕ) (y : std.Result Arrival Refusal) : Type 0 where
  pub tells : WellFormed file → c < behaviour_count file → a < behaviour_count file → p < path_count file → (m : Tree Value) → trees.Message l m
      → StartsOr18 (replace_at void_value (path_of file p) m end) slot c k a x o y
  pub storable : slot + slot_size ≤ state_size → (i : ℕ) → StorableIf i l y

abbrev pub StartedAs : Optional Input → ℕ → ℕ → ℕ → ℕ → Tree Value → ℕ → List ℕ → std.Result Arrival Refusal → Type 0
StartedAs none slot c k a m x o y = y ≡ Err MoveNotAllowed
StartedAs (some i) slot c k a m x o y = (i.row ≡ a) × StartsOr18 (replace_at void_value i.into m end) slot c k a x o y

pub record StartsSession (file : List ℕ) (slot c k a : ℕ) (l : List ℕ) (x : ℕ) (o : List ℕ) (y : std.Result Arrival Refusal) : Type 0 where
  pub tells : WellFormed file → c < behaviour_count file → a < behaviour_count file → (m : Tree Value) → trees.Message l m
      → StartedAs (input_of (behaviour_of file a)) slot c k a m x o y
  pub storable : slot + slot_size ≤ state_size → (i : ℕ) → StorableIf i l y

-- One more message of O row i in the queue of the slot's session.
pub record Queues (slot i : ℕ) (l : List ℕ) (x : std.Result Arrival Refusal) : Type 0 where
  pub tells : i < 255 → (m : Tree Value) → trees.Message l m → x ≡ Ok (Arrival.Queued slot)
  pub storable : slot + slot_size ≤ state_size → StorableIf i l x

-- A message of the input of O row i that was let in, by its target t at session n: where it goes, or what move_rules' `deliver` refuses in any state.
abbrev pub PlacedAs : List ℕ → Operation → ℕ → definition.Target → Tree Value → List ℕ → std.Result Arrival Refusal → Type 0
PlacedAs file o n t m o' (Err why) = (gone : State) (to : Optional Destination) → deliver (network_of file) gone o n t to m ≡ refused why
PlacedAs file o n t m o' (Ok y) = ArrivesAs file o n t m o' y

pub record PlacesMessage (file : List ℕ) (i n : ℕ) (t : Target) (l : List ℕ) (x : ℕ) (o : List ℕ) (y : std.Result Arrival Refusal) : Type 0 where
  pub tells : WellFormed file → i < operation_count file → StarterExists file t → (G : State)
      → target_as file t ≡ definition.target (network_of file) G (operation_of file i) n → (m : Tree Value) → trees.Message l m
      → x ≡ key_to_keep (network_of file) (operation_of file i) m → PlacedAs file (operation_of file i) n (target_as file t) m o y
  pub storable : StorableIf i l y

-- move_rules' `admit`, where f is what the message answers and then its test by 19.
abbrev pub admitting : List ℕ → State → ℕ → ℕ → ((Tree Value → Result) → Result) → State → Optional Destination → Result
admitting file G i n f gone to =
    let o = operation_of file i in
    let t = definition.target (network_of file) G o n in
    allowed o.service t (f (λ m. must_find (network_of file) G o n m (deliver (network_of file) gone o n t to m)))

-- It is refused in any state in which the sender has gone on; or it delivers the message m of l in any.
abbrev pub AdmittedAs : List ℕ → State → ℕ → ℕ → List ℕ → List ℕ → ((Tree Value → Result) → Result) → std.Result Arrival Refusal → Type 0
AdmittedAs file G i n l o f (Err why) = (gone : State) (to : Optional Destination) → admitting file G i n f gone to ≡ refused why
AdmittedAs file G i n l o f (Ok y) =
    (m : Tree Value) × trees.Message l m
    × ArrivesAs file (operation_of file i) n (definition.target (network_of file) G (operation_of file i) n) m o y
    × ((gone : State) (to : Optional Destination) → admitting file G i n f gone to
    ≡ deliver (network_of file) gone (operation_of file i) n (definition.target (network_of file) G (operation_of file i) n) to m)

pub record Admits (file s : List ℕ) (i n : ℕ) (l : List ℕ) (own : std.Result (Unit {0}) Refusal) (other : Refusal) (o : List ℕ) (x : std.Result Arrival Refusal) : Type 0 where
  pub tells : WellFormed file → i < operation_count file → (G : State) → StateOf file s G → (f : (Tree Value → Result) → Result)
      → MessageOffered own l other (operation_of file i).request f → AdmittedAs file G i n l o f x
  pub storable : StorableIf i l x

-- The session with the tree F, the branch k of the choice c taken, the row a at `after` and the key x.
abbrev pub started_with : Forest Value → ℕ → ℕ → ℕ → Progress → ℕ → Session
started_with F c k a after x =
    with_key (with_progress (with_tree new_session F) (advance (advance new_session.progress c (taken k)) a after)) x

pub record StoresStart (s : List ℕ) (slot : ℕ) (o : List ℕ) (n c k a : ℕ) (after : Progress) (x : ℕ) (s' : List ℕ) : Type 0 where
  pub tells : (F : Forest Value) → take n o ≡ tree_bytes F → n ≡ length (tree_bytes F) → trees.WellFormedTree session_levels session_nodes (tree trees.empty F)
      → part s slot slot_size ≡ slot_bytes free → s' ≡ with_part s slot (slot_bytes (live (started_with F c k a after x)))

-- What move_rules' `deliver` does in the state that the bytes hold, with a message of O row i that arrives at its target t.
pub record Stores (i : ℕ) (to : Optional Destination) (l o : List ℕ) (y : Arrival) (s s' : List ℕ) : Type 0 where
  pub tells : (file : List ℕ) → WellFormed file → i < operation_count file → (gone : State) → Holding s gone → (n : ℕ) (t : definition.Target)
      → Known gone (operation_of file i) n t → (m : Tree Value) → trees.Message l m → ArrivesAs file (operation_of file i) n t m o y → (s₀ out : List ℕ)
      → ◌≡◌ {A = Step} (record { outcome = done_with 0; state = s'; out = out }) (finish s₀ out (deliver (network_of file) gone (operation_of file i) n t to m))
