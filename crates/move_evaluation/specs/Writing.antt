-- What writing a value out leaves in the buffer: the value's tree as a tree alone, its root with the id 0. 01, Message: "node = id u16
-- (root 0), ..".
use Rattle.std.specs.Prelude.{◌≡◌, List, ℕ, ◌≤◌, length, take, drop}
use Rattle.tree_forest.specs.Forest.{Forest, Tree, tree}
use Rattle.scalar.specs.Value.{Value}
use Rattle.scalar.specs.Scalar.{value_of}
use Rattle.scalar.specs.declared.Operand.{Operand}
use Rattle.tree.specs.Encode.{encode, rooted, empty, Proper, Encodes}
use Rattle.tree_forest.specs.Limits.{session_levels, session_nodes}
use Rattle.tree.specs.Standing.{Root}
use Rattle.tree_edit.specs.Wrote.{Wrote}
use Rattle.move_rules.specs.Evaluation.{Evaluation, missing, wrong_kind, beyond, given, leaf}
use Rattle.move_evaluation.specs.declared.Evaluated.{Evaluated}
use Rattle.move_evaluation.specs.declared.Fault.{Fault}
use Rattle.std.specs.Prelude.{Result, Ok, Err}
use Rattle.move_evaluation.specs.Evaluated.{StandsFor}

-- The first r bytes of o' are those of the value alone; the others are as in o.
pub record WritesLeaf (v : Operand) (o o' : List ℕ) (r : ℕ) : Type 0 where
  pub wrote : Wrote o o' 0 r r (encode (rooted (leaf (value_of v))))
  pub proper : Proper (value_of v)

-- The first r bytes of o' are those of the tree that stands at `at`, if one does; the others are as in o.
pub record WritesTree (s : List ℕ) (at : ℕ) (o o' : List ℕ) (r : ℕ) : Type 0 where
  pub inside : r ≤ length o
  pub rest : drop r o' ≡ drop r o
  pub tells : (i : ℕ) (t : Tree Value) → Root s at i t → length s ≤ length o → Wrote o o' 0 r r (encode (rooted t))

-- What evaluation gives, in the first bytes of o: its tree alone; where nothing is given, the answer stays.
abbrev pub WrittenAs : List ℕ → Result ℕ Fault → Evaluation (Tree Value) → Type 0
WrittenAs o (Ok n) f = (t : Tree Value) × (f ≡ given t) × Encodes session_levels session_nodes (take n o) t
WrittenAs o (Err Fault.Missing) f = f ≡ missing
WrittenAs o (Err Fault.Wrong) f = f ≡ wrong_kind
WrittenAs o (Err Fault.Outside) f = (b : ℕ) × (f ≡ beyond b)

abbrev pub bytes_written : Result ℕ Fault → ℕ
bytes_written (Ok n) = n
bytes_written (Err e) = 0

-- What x stands for in the session's tree F is written to the start of o'; the other bytes are as in o.
pub record Writes (s : List ℕ) (x : Evaluated) (o o' : List ℕ) (w : Result ℕ Fault) : Type 0 where
  pub inside : bytes_written w ≤ length o
  pub rest : drop (bytes_written w) o' ≡ drop (bytes_written w) o
  pub tells : (F : Forest Value) (f : Evaluation (Tree Value)) → Encodes session_levels session_nodes s (tree empty F) → StandsFor s x f → WrittenAs o' w f
