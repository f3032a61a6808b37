-- What is told of a message before it is sent, delivered or taken as a reply. A move f goes on with the message, or refuses it.
use Rattle.std.specs.Prelude.{◌≡◌, false, List, ℕ, ◌<◌}
use Rattle.tree_forest.specs.Forest.{Tree}
use Rattle.scalar.specs.Value.{Value}
use Rattle.refusal.specs.declared.Refusal.{Refusal}
use Rattle.refusal.specs.declared.Refusal.TheVariants.{MessageMisfit}
use Rattle.network_syntax.specs.Syntax.{MessageType}
use Rattle.check_subtyping.specs.Own.{fits}
use Rattle.network.specs.Form.{WellFormed}
use Rattle.network.specs.Layout.{type_count}
use Rattle.network.specs.Decode.{type_of}
use Rattle.tree.specs.Encode.{Message}
use Rattle.tree.specs.Decode.{is_message}
use Rattle.move_rules.specs.Evaluation.{Evaluation}
use Rattle.move_rules.specs.Moves.{Result, refused, require, on_tree, must_fit}
use Rattle.std.specs.Prelude as std
use Rattle.std.specs.Prelude.{Ok, Err}

-- The bytes l come to the type t: f refuses them as `other` where they are no message, and by 19 where the message doesn't fit.
pub record Comes (l : List ℕ) (other : Refusal) (t : MessageType) (f : (Tree Value → Result) → Result) : Type 0 where
  pub no_message : is_message l ≡ false → (k : Tree Value → Result) → f k ≡ refused other
  pub message : (m : Tree Value) → Message l m → (k : Tree Value → Result) → f k ≡ require (fits m t) MessageMisfit (k m)

-- So f goes on with the message m of l, or refuses.
abbrev pub Passed : std.Result (Unit {0}) Refusal → List ℕ → ((Tree Value → Result) → Result) → Type 0
Passed (Ok tt) l f = (m : Tree Value) × Message l m × ((k : Tree Value → Result) → f k ≡ k m)
Passed (Err why) l f = (k : Tree Value → Result) → f k ≡ refused why

pub record Passes (l file : List ℕ) (r : ℕ) (other : Refusal) (v : std.Result (Unit {0}) Refusal) : Type 0 where
  pub tells : WellFormed file → r < type_count file → (f : (Tree Value → Result) → Result) → Comes l other (type_of file r) f → Passed v l f

-- The move that goes on with a value once it is given, 18, and fits the type t, 19.
abbrev pub fitting_tree : Evaluation (Tree Value) → MessageType → (Tree Value → Result) → Result
fitting_tree y t k = on_tree y (λ m. must_fit m t (k m))
