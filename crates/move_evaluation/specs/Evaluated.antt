-- What evaluating an expression answers, and how it stands to `evaluate` of move_rules. 01, Typing and Moves: "A path expression has the tree
-- there ..; as an operand its root value counts"; "both operands are worked out". Or "A value read is missing, an operand .. is of the wrong
-- kind"; or, by 02, "the exact result is outside its width".
use Rattle.std.specs.Prelude.{◌≡◌, Bool, true, false, List, ℕ, ◌<◌}
use Rattle.tree_forest.specs.Forest.{Forest, Tree, tree}
use Rattle.tree_forest.specs.Path.{read}
use Rattle.scalar.specs.Value.{Value, value, basic_of, is_value, SoundText}
use Rattle.basics.specs.Choice.{pick}
use Rattle.scalar.specs.Operator.{of_bool}
use Rattle.scalar.specs.Scalar.{value_of}
use Rattle.scalar.specs.declared.Operand.{Operand}
use Rattle.tree.specs.Encode.{Encodes, empty, payload}
use Rattle.tree_forest.specs.Limits.{session_levels, session_nodes}
use Rattle.tree.specs.Standing.{Root}
use Rattle.network.specs.Form.{WellFormed}
use Rattle.network.specs.Layout.{path_count, expression_count}
use Rattle.network.specs.Decode.{path_of, expression_of}
use Rattle.network_row_parts.specs.Parts.{unary_of, binary_of}
use Rattle.network_row_parts.specs.declared.UnaryOperator.{UnaryOperator}
use Rattle.network_row_parts.specs.declared.BinaryOperator.{BinaryOperator}
use Rattle.move_rules.specs.Evaluation.{Evaluation, missing, wrong_kind, beyond, given, leaf, found, apply_unary, apply_binary, evaluate}
use Rattle.move_rules.specs.OperatorLaws.{without_value}
use Rattle.tree_forest.specs.Forest.{is_present}
use Rattle.move_evaluation.specs.declared.Place.{Place}
use Rattle.move_evaluation.specs.declared.Fault.{Fault}
use Rattle.move_evaluation.specs.declared.Evaluated.{Evaluated}
use Rattle.std.specs.Prelude.{Ok, Err}
use Rattle.std.specs.Prelude as std

-- Is the value given? Is it given, or is its kind known at least?
abbrev pub is_given : std.Result Place Fault → Bool
is_given (Ok (Place.At at)) = true
is_given (Ok Place.Alone) = true
is_given (Err Fault.Missing) = false
is_given (Err Fault.Wrong) = false
is_given (Err Fault.Outside) = false

abbrev pub has_kind : std.Result Place Fault → Bool
has_kind (Ok (Place.At at)) = true
has_kind (Ok Place.Alone) = true
has_kind (Err Fault.Missing) = false
has_kind (Err Fault.Wrong) = false
has_kind (Err Fault.Outside) = true

-- What follows of the value; where none is given, the answer stays; of one outside its width, the kind alone counts.
abbrev pub on_source : std.Result Place Fault → Evaluation Value → Evaluation Value
on_source (Ok (Place.At at)) w = w
on_source (Ok Place.Alone) w = w
on_source (Err Fault.Missing) w = missing
on_source (Err Fault.Wrong) w = wrong_kind
on_source (Err Fault.Outside) w = without_value w

-- A constant's value; none where the bytes are no value, as in no file that 2 to 5 let pass.
unfoldable pub literal : ℕ → List ℕ → Evaluation Value
literal b v = pick (is_value b v) (given (value b v)) wrong_kind

-- An operator on root values: "both operands are worked out".
unfoldable pub unary_on : UnaryOperator → Evaluated → Evaluation Value
unary_on o x = on_source x.source (apply_unary (unary_of o) (value_of x.root))

unfoldable pub binary_on : BinaryOperator → Evaluated → Evaluated → Evaluation Value
binary_on o x y = on_source x.source (on_source y.source (apply_binary (binary_of o) (value_of x.root) (value_of y.root)))

-- The value is alone, or none is given, or it is outside the width of the root's kind.
abbrev pub AloneAs : std.Result Place Fault → Operand → Evaluation Value → Type 0
AloneAs (Ok (Place.At at)) v w = ⊥
AloneAs (Ok Place.Alone) v w = w ≡ given (value_of v)
AloneAs (Err Fault.Missing) v w = w ≡ missing
AloneAs (Err Fault.Wrong) v w = w ≡ wrong_kind
AloneAs (Err Fault.Outside) v w = w ≡ beyond (basic_of (value_of v))

-- The root is always sound as text.
pub record Computes (x : Evaluated) (w : Evaluation Value) : Type 0 where
  pub gives : AloneAs x.source x.root w
  pub text : SoundText (value_of x.root)

-- The tree that was found stands at `at` in the session's tree s, and v is its root value.
pub record FoundAt (s : List ℕ) (at : ℕ) (v : Operand) (f : Evaluation (Tree Value)) : Type 0 where
  pub id : ℕ
  pub there : Tree Value
  pub is : f ≡ given there
  pub root : Root s at id there
  pub value : value_of v ≡ payload there

-- The answer stands for what evaluation gives: a tree at a place of the session's tree s, a value alone, none, or one outside its width.
abbrev pub SourceOf : List ℕ → std.Result Place Fault → Operand → Evaluation (Tree Value) → Type 0
SourceOf s (Ok (Place.At at)) v f = FoundAt s at v f
SourceOf s (Ok Place.Alone) v f = f ≡ given (leaf (value_of v))
SourceOf s (Err Fault.Missing) v f = f ≡ missing
SourceOf s (Err Fault.Wrong) v f = f ≡ wrong_kind
SourceOf s (Err Fault.Outside) v f = f ≡ beyond (basic_of (value_of v))

abbrev pub StandsFor : List ℕ → Evaluated → Evaluation (Tree Value) → Type 0
StandsFor s x f = SourceOf s x.source x.root f

-- Of a place where a tree stands; of a path and of its presence, by P row; of an expression, by E row. F is the session's tree.
pub record StandsAt (s : List ℕ) (at : ℕ) (x : Evaluated) : Type 0 where
  pub tells : (i : ℕ) (t : Tree Value) → Root s at i t → StandsFor s x (given t)
  pub text : SoundText (value_of x.root)

pub record Reads (file s : List ℕ) (p : ℕ) (x : Evaluated) : Type 0 where
  pub tells : (F : Forest Value) → Encodes session_levels session_nodes s (tree empty F) → WellFormed file → p < path_count file
      → StandsFor s x (found (read (path_of file p) F))
  pub text : SoundText (value_of x.root)

pub record Presents (file s : List ℕ) (p : ℕ) (x : Evaluated) : Type 0 where
  pub tells : (F : Forest Value) → Encodes session_levels session_nodes s (tree empty F) → WellFormed file → p < path_count file
      → StandsFor s x (given (leaf (of_bool (is_present (read (path_of file p) F)))))
  pub text : SoundText (value_of x.root)

pub record Evaluates (file s : List ℕ) (r : ℕ) (x : Evaluated) : Type 0 where
  pub tells : (F : Forest Value) → Encodes session_levels session_nodes s (tree empty F) → WellFormed file → r < expression_count file
      → StandsFor s x (evaluate F (expression_of file r))
  pub text : SoundText (value_of x.root)
