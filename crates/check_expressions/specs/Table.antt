-- Operator typing as a table. 02: "Put it in a table of tables, one row per operator and one entry per basic type, proved equal to the rule
-- over all entries." The rule is `unary_type` and `binary_type` of check_typing/ExpressionTyping.
use Rattle.std.specs.Prelude.{List, [], ◌∷◌, ℕ, ltb, get_or}
use Rattle.basics.specs.Choice.{pick}
use Rattle.refusal.specs.declared.Refusal.TheVariants.{OperandType}
use Rattle.scalar.specs.Basic.{bool, int, double, long, raw, last_basic}
use Rattle.network_syntax.specs.Syntax.{MessageType, logical_not, negate, add, subtract, less, equal, logical_and}
use Rattle.check_subtyping.specs.Subtype.{root_basic}
use Rattle.check_typing.specs.Result.{Attempt, fails, yields}
use Rattle.check_typing.specs.ExpressionTyping.{unary_type, binary_type}
use Rattle.network_row_parts.specs.declared.UnaryOperator.{UnaryOperator}
use Rattle.network_row_parts.specs.declared.BinaryOperator.{BinaryOperator}

-- The entry where the rule refuses with 8; it is no basic type.
abbrev pub none : ℕ
none = 255

-- A row for each operator, in the order of E's kinds; an entry for each basic type in T's order (bool, int, double, long, string, raw,
-- void): the basic type of the result where the operands have that one.
abbrev pub operator_table : List (List ℕ)
operator_table =
    (bool ∷ none ∷ none ∷ none ∷ none ∷ none ∷ none ∷ [])  -- not
    ∷ (none ∷ int ∷ double ∷ long ∷ none ∷ none ∷ none ∷ [])  -- negate
    ∷ (none ∷ int ∷ double ∷ long ∷ none ∷ none ∷ none ∷ [])  -- add
    ∷ (none ∷ int ∷ double ∷ long ∷ none ∷ none ∷ none ∷ [])  -- subtract
    ∷ (none ∷ bool ∷ bool ∷ bool ∷ none ∷ none ∷ none ∷ [])  -- less
    ∷ (bool ∷ bool ∷ bool ∷ bool ∷ bool ∷ bool ∷ none ∷ [])  -- equal
    ∷ (bool ∷ none ∷ none ∷ none ∷ none ∷ none ∷ none ∷ [])  -- and
    ∷ []

abbrev pub table_at : ℕ → ℕ → ℕ
table_at o b = get_or (get_or operator_table o []) b 0

-- The operators' rules in the same order, over one basic type: both operands have it.
abbrev pub operator_rules : List (ℕ → Attempt MessageType)
operator_rules =
    unary_type logical_not
    ∷ unary_type negate
    ∷ (λ b. binary_type add b b)
    ∷ (λ b. binary_type subtract b b)
    ∷ (λ b. binary_type less b b)
    ∷ (λ b. binary_type equal b b)
    ∷ (λ b. binary_type logical_and b b)
    ∷ []

-- What a rule gives, as an entry.
abbrev pub table_entry : Attempt MessageType → ℕ
table_entry (fails why) = none
table_entry (yields t) = root_basic t

abbrev pub rule_of : ℕ → ℕ → Attempt MessageType
rule_of o b = get_or operator_rules o (λ c. fails OperandType) b

abbrev pub rule_at : ℕ → ℕ → ℕ
rule_at o b = table_entry (rule_of o b)

-- An operator's row.
abbrev pub unary_row : UnaryOperator → ℕ
unary_row UnaryOperator.Not = 0
unary_row UnaryOperator.Negate = 1

abbrev pub binary_row : BinaryOperator → ℕ
binary_row BinaryOperator.Add = 2
binary_row BinaryOperator.Subtract = 3
binary_row BinaryOperator.Less = 4
binary_row BinaryOperator.Equal = 5
binary_row BinaryOperator.And = 6

-- A basic type's column. A number past the last, which only a broken file has, is looked up as raw, as the rule has it (`unary-at-column`,
-- `binary-at-column`).
abbrev pub column_of : ℕ → ℕ
column_of b = pick (ltb last_basic b) raw b
