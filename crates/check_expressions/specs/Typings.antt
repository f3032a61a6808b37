-- What typing an expression answers, and how it stands to check_typing's `expression_type`. 01, Typing: "A path expression has the tree there and must
-- stand firm; as an operand its root value counts. .. Not, and: bool; both operands are worked out. Negate, add, subtract, less: int, long
-- or double, both alike. Equal: alike, not void".
use Rattle.std.specs.Prelude.{◌≡◌, List, ℕ, ◌<◌, eqb}
use Rattle.refusal.specs.declared.Refusal.TheVariants.{PathNotFirm, OperandType}
use Rattle.scalar.specs.Basic.{bool}
use Rattle.basics.specs.Choice.{pick}
use Rattle.network_syntax.specs.Syntax.{Types, MessageType}
use Rattle.check_typing.specs.Result.{Attempt, yields, demand, refused, with_row}
use Rattle.check_typing.specs.Environment.{is_in, read_firm, basic_leaf}
use Rattle.check_typing.specs.ExpressionTyping.{expression_type}
use Rattle.network.specs.Form.{WellFormed}
use Rattle.network.specs.Layout.{path_count, expression_count}
use Rattle.network.specs.Decode.{path_of, expression_of}
use Rattle.check_environments.specs.declared.Environment.{Environment}
use Rattle.check_environments.specs.Environment.{EnvironmentFor}
use Rattle.check_environments.specs.Tells.{ReadAt}
use Rattle.check_expressions.specs.declared.Typed.{Typed}
use Rattle.check_expressions.specs.Table.{none, table_at, column_of}
use Rattle.std.specs.Prelude.{Result, Ok, Err}
use Rattle.refusal.specs.declared.Refusal.{Refusal}

-- What an entry of the table answers.
abbrev pub entry_typing : ℕ → ℕ → Result Typed Refusal
entry_typing row n = pick (eqb n none) (Err (OperandType row)) (Ok (Typed.Leaf n))

-- What the table's row o answers for operands of two basic types: its entry, where they are "both alike". The one operand of a unary
-- operator is both.
abbrev pub table_typing : ℕ → ℕ → ℕ → ℕ → Result Typed Refusal
table_typing row o b c = pick (eqb b c) (entry_typing row (table_at o (column_of b))) (Err (OperandType row))

-- "as an operand its root value counts".
abbrev pub root_typed : Typed → ℕ
root_typed (Typed.At at b) = b
root_typed (Typed.Leaf b) = b

-- An operand's basic type goes on; a refusal stays. Below: two operands by the table ("both operands are worked out").
abbrev pub with_basic : (ℕ → Result Typed Refusal) → Result Typed Refusal → Result Typed Refusal
with_basic f (Ok x) = f (root_typed x)
with_basic f (Err why) = Err why

abbrev pub operator_typed : ℕ → ℕ → Result Typed Refusal → Result Typed Refusal → Result Typed Refusal
operator_typed row o x y = with_basic (λ b. with_basic (table_typing row o b) y) x

-- x is what typing found for a B row: the tree at a place of e, a basic type alone, or the refusal placed at the row.
abbrev pub TypedAs : Environment → ℕ → Result Typed Refusal → Attempt MessageType → Type 0
TypedAs e row (Ok (Typed.At at b)) found = ReadAt e at b found
TypedAs e row (Ok (Typed.Leaf b)) found = found ≡ yields (basic_leaf b)
TypedAs e row (Err why) found = with_row row found ≡ refused why

-- Of a path, of its presence, and of an E row.
pub record ValueTyped (file : List ℕ) (e : Environment) (p row : ℕ) (x : Result Typed Refusal) : Type 0 where
  pub tells : (Γ : Types) → EnvironmentFor e Γ → WellFormed file → p < path_count file → TypedAs e row x (read_firm (path_of file p) Γ)

pub record PresenceTyped (file : List ℕ) (e : Environment) (p row : ℕ) (x : Result Typed Refusal) : Type 0 where
  pub tells : (Γ : Types) → EnvironmentFor e Γ → WellFormed file → p < path_count file
      → TypedAs e row x (demand (is_in (path_of file p) Γ) PathNotFirm (yields (basic_leaf bool)))

pub record TypingTells (file : List ℕ) (e : Environment) (r row : ℕ) (x : Result Typed Refusal) : Type 0 where
  pub tells : (Γ : Types) → EnvironmentFor e Γ → WellFormed file → r < expression_count file → TypedAs e row x (expression_type Γ (expression_of file r))
