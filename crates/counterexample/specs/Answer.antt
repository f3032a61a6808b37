-- The message that breaks it, from a file's bytes and two row numbers to the out buffer. 02, Wish 6: "Each row is taken as a root; a number
-- that is no type row is 15, tried after 5. It goes to the out buffer as in a move. None (0 and no bytes) is reported exactly when the first
-- is a subtype of the second."
use Rattle.std.specs.Prelude.{List, [], ◌++◌, Bool, ◌&&◌, ℕ, length, drop, ltb}
use Rattle.basics.specs.Choice.{pick}
use Rattle.refusal.specs.declared.Refusal.{Refusal}
use Rattle.refusal.specs.declared.Refusal.TheVariants.{BufferSize, MoveNotAllowed}
use Rattle.refusal.specs.declared.Outcome.{Outcome}
use Rattle.refusal.specs.Refusal.{done_with, refused_by}
use Rattle.tree_forest.specs.Forest.{Tree}
use Rattle.scalar.specs.Value.{Value}
use Rattle.tree.specs.Encode.{encode, rooted}
use Rattle.network_syntax.specs.Syntax.{Optional, none, some}
use Rattle.network.specs.Layout.{type_count}
use Rattle.network.specs.Form.{form_of}
use Rattle.network.specs.Decode.{type_of}
use Rattle.state.specs.Places.{out_room}
use Rattle.counterexample_rules.specs.Breaking.{breaking}
use Rattle.std.specs.Prelude.{Result, Ok, Err}

-- The outcome, and what the out buffer holds then.
pub record BreakingAnswer : Type 0 where
  pub outcome : Outcome
  pub out : List ℕ

-- A refusal changes no buffer.
abbrev pub breaking_refused : Refusal → List ℕ → BreakingAnswer
breaking_refused why out = record { outcome = refused_by why; out = out }

-- The bytes that are shown: those of the message; "None (0 and no bytes)".
abbrev pub shown_bytes : Optional (Tree Value) → List ℕ
shown_bytes none = []
shown_bytes (some m) = encode (rooted m)

-- They go to the start of the out buffer; "Out bytes past that count stay."
abbrev pub breaking_shown : List ℕ → List ℕ → BreakingAnswer
breaking_shown bytes out = record { outcome = done_with (length bytes); out = bytes ++ drop (length bytes) out }

-- Refusals 2 to 5 come first.
abbrev pub once_formed : Result (Unit {0}) Refusal → List ℕ → BreakingAnswer → BreakingAnswer
once_formed (Ok tt) out r = r
once_formed (Err why) out r = breaking_refused why out

-- "a number that is no type row".
abbrev pub are_type_rows : List ℕ → ℕ → ℕ → Bool
are_type_rows file first second = ltb first (type_count file) && ltb second (type_count file)

unfoldable pub counterexample : List ℕ → ℕ → ℕ → List ℕ → BreakingAnswer
counterexample file first second out =
    pick (ltb (length out) out_room) (breaking_refused BufferSize out)  -- 1
    (once_formed (form_of file) out  -- 2 to 5
    (pick (are_type_rows file first second)
    (breaking_shown (shown_bytes (breaking (type_of file first) (type_of file second))) out)
    (breaking_refused MoveNotAllowed out)))  -- 15
