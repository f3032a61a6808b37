-- Property 3 at a call of the stepper. 01, Moves: "after it live sessions are well typed, no next move, on the same file and the state so
-- left, gives 18, no send or reply gives 19, one to an outsider included, and a ready assign, if or while gives 0, or 1 for its out buffer."
-- 02: it "moves, has such a result or gives 1 for its out buffer"; "State trees and queues hold only well-formed strings from a fresh state
-- on"; "From fresh, no two live sessions of a service hold one key".
use Rattle.std.specs.Prelude.{◌≡◌, List, [], ◌∷◌, ◌++◌, ℕ, T}
use Rattle.network_syntax.specs.Syntax.{Expression}
use Rattle.network.specs.Layout.{behaviour_count}
use Rattle.network.specs.Decode.{network_of}
use Rattle.state.specs.Session.{Session, State}
use Rattle.state.specs.Shape.{KeysApart, Stands}
use Rattle.move_rules.specs.Moves.{local}
use Rattle.move_rules.specs.Fresh.{fresh_bytes}
use Rattle.soundness.specs.Property3.{Ready, Causes22, ready_number, Turn, AllGiven, after, sends_or_replies, AllWellTyped, AcceptedFile}
use Rattle.soundness.specs.Texts.{TextOut}
use Rattle.soundness.specs.Property3.{outgoing_of_next, AllTexts, KeyedQueues}

-- The file is accepted, and the bytes s are those after the list l of moves from its fresh state.
pub record FromFresh (file s : List ℕ) (l : List Turn) : Type 0 where
  pub accepted : AcceptedFile file
  pub given : AllGiven l
  pub bytes : s ≡ after file (fresh_bytes file) l

-- What is promised of a move t on such bytes s, whose number is n and which leaves the bytes `left`: those after l and t, of one state, in which
-- live sessions are well typed and strings well formed, as in what it writes out, and keys are held once.
pub record KeepsPromise (file s : List ℕ) (l : List Turn) (t : Turn) (n : ℕ) (left : List ℕ) : Type 0 where
  pub never18 : n ≡ 18 → ⊥
  pub never19 : T (sends_or_replies t.move) → n ≡ 19 → ⊥
  pub ready_moves : (G : State) → Stands (network_of file) (behaviour_count file) s G → (service session row : ℕ)
      → t.move ≡ local service session row → (S : Session) (e : Expression)
      → Ready (network_of file) G service session row S e → n ≡ ready_number t.out S e
  pub only22 : (G : State) → Stands (network_of file) (behaviour_count file) s G → n ≡ 22
      → Causes22 (network_of file) G t.move
  pub writes_text : TextOut (outgoing_of_next file s t)
  pub leaves : left ≡ after file (fresh_bytes file) (l ++ (t ∷ []))
  pub state : State
  pub stands : Stands (network_of file) (behaviour_count file) left state
  pub well_typed : AllWellTyped file state
  pub texts : AllTexts state
  pub one_key : KeysApart (network_of file) state
  pub keyed_queues : KeyedQueues file state

-- Property 3 at a call: for every list of moves from fresh.
abbrev pub SoundCall : List ℕ → List ℕ → Turn → ℕ → List ℕ → Type 0
SoundCall file s t n left = (l : List Turn) → FromFresh file s l → KeepsPromise file s l t n left
