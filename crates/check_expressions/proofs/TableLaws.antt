-- The table is the rule, at every operator and every basic type; and a binary operator's rule refuses operands that are not alike, so the
-- table and the test for alike are the whole rule.
use Rattle.std.specs.Prelude.{ℕ, suc, ◌<◌, ◌≤◌, ◌≡◌, refl, Bool, true, false, not, ◌&&◌, T, eqb, ltb, length}
use Rattle.std.proofs.Common.{sym, ◌∙◌, ap, arith, eqb→eq, ne_eqb}
use Rattle.std.proofs.Math.ListN.{get_or-eq_default}
use Rattle.basics.specs.Choice.{pick}
use Rattle.basics.specs.TestLaws.{and-false, clash, eq_of, of_eq, lt_of, lt_not}
use Rattle.basics.specs.TableLaws.{below, at2}
use Rattle.refusal.specs.declared.Refusal.TheVariants.{OperandType}
use Rattle.scalar.specs.Basic.{bool, void, raw, last_basic}
use Rattle.scalar.specs.Value.{BasicType, basic_types, no_type}
use Rattle.scalar.specs.Operator.{is_numeric, is_number}
use Rattle.network_syntax.specs.Syntax.{MessageType, Unary, logical_not, negate, Binary, add, subtract, less, equal, logical_and}
use Rattle.check_typing.specs.Result.{Attempt, fails, yields, demand}
use Rattle.check_typing.specs.Environment.{basic_leaf}
use Rattle.check_typing.specs.ExpressionTyping.{unary_type, binary_type}
use Rattle.network_row_parts.specs.declared.UnaryOperator.{UnaryOperator}
use Rattle.network_row_parts.specs.declared.BinaryOperator.{BinaryOperator}
use Rattle.network_row_parts.specs.Parts.{unary_of, binary_of}
use Rattle.check_expressions.specs.Table.{none, table_at, operator_rules, table_entry, rule_of, rule_at, unary_row, binary_row, column_of}

-- ---- the computed test

right : ℕ → ℕ → Bool
right o b = eqb (table_at o b) (rule_at o b)

all_right : T (below (length operator_rules) (λ o. below (suc last_basic) (right o)))
unfolding right
all_right = tt

-- The entry equals the rule, at every operator and every basic type.
pub entry-is-rule : (o b : ℕ) → o < length operator_rules → b ≤ last_basic → table_at o b ≡ rule_at o b
unfolding right
entry-is-rule o b h l = eqb→eq (table_at o b) (rule_at o b) (at2 (length operator_rules) (suc last_basic) right all_right o b h (omega arith))

-- ---- operators by their rows

-- An operator's row is one of the table and has its rule.
pub unary-row : (o : UnaryOperator) → (unary_row o < length operator_rules) × ((b : ℕ) → rule_of (unary_row o) b ≡ unary_type (unary_of o) b)
unary-row UnaryOperator.Not = (omega arith, λ b. refl)
unary-row UnaryOperator.Negate = (omega arith, λ b. refl)

pub binary-row : (o : BinaryOperator) → (binary_row o < length operator_rules) × ((b : ℕ) → rule_of (binary_row o) b ≡ binary_type (binary_of o) b b)
binary-row BinaryOperator.Add = (omega arith, λ b. refl)
binary-row BinaryOperator.Subtract = (omega arith, λ b. refl)
binary-row BinaryOperator.Less = (omega arith, λ b. refl)
binary-row BinaryOperator.Equal = (omega arith, λ b. refl)
binary-row BinaryOperator.And = (omega arith, λ b. refl)

-- ---- operands that are not alike

-- Each binary operator's rule refuses them.
pub unlike-refused : (o : Binary) (b c : ℕ) → eqb b c ≡ false → binary_type o b c ≡ fails OperandType
unlike-refused add b c e = rw (e, and-false (is_number b)) refl
unlike-refused subtract b c e = rw (e, and-false (is_number b)) refl
unlike-refused less b c e = rw (e, and-false (is_number b)) refl
unlike-refused equal b c e = rw (e, and-false (not (eqb b void))) refl
unlike-refused logical_and b c e = go (eqb b bool) (eqb c bool) refl refl
  where
    go : (s t : Bool) → eqb b bool ≡ s → eqb c bool ≡ t → demand (s && t) OperandType (yields (basic_leaf bool)) ≡ fails OperandType
    go true true f g = absurd (clash (of_eq b c (eq_of b bool f ∙ sym (eq_of c bool g))) e)
    go true false f g = refl
    go false t f g = refl

-- ---- numbers past the last basic type

not-number : (b : ℕ) → last_basic < b → is_number b ≡ false
not-number b h = ap (λ (t : BasicType). is_numeric t.arithmetic) (get_or-eq_default basic_types no_type {n = b} (omega arith))

unary-past : (o : Unary) (b : ℕ) → last_basic < b → unary_type o b ≡ unary_type o raw
unary-past logical_not b h = rw (ne_eqb b bool (λ e. omega arith)) refl
unary-past negate b h = rw (not-number b h) refl

binary-past : (o : Binary) (b : ℕ) → last_basic < b → binary_type o b b ≡ binary_type o raw raw
binary-past add b h = rw (not-number b h) refl
binary-past subtract b h = rw (not-number b h) refl
binary-past less b h = rw (not-number b h) refl
binary-past equal b h = rw (ne_eqb b void (λ e. omega arith), of_eq b b refl) refl
binary-past logical_and b h = rw (ne_eqb b bool (λ e. omega arith)) refl

-- So a rule says of every number what it says of its column.
at-column : (f : ℕ → Attempt MessageType) → ((b : ℕ) → last_basic < b → f b ≡ f raw) → (b : ℕ) → f b ≡ f (column_of b)
at-column f h b = go (ltb last_basic b) refl
  where
    go : (t : Bool) → ltb last_basic b ≡ t → f b ≡ f (pick t raw b)
    go true e = h b (lt_of last_basic b e)
    go false e = refl

pub column-small : (b : ℕ) → column_of b ≤ last_basic
column-small b = go (ltb last_basic b) refl
  where
    go : (t : Bool) → ltb last_basic b ≡ t → pick t raw b ≤ last_basic
    go true e = omega arith
    go false e = lt_not last_basic b e

pub unary-at-column : (o : Unary) (b : ℕ) → unary_type o b ≡ unary_type o (column_of b)
unary-at-column o b = at-column (unary_type o) (unary-past o) b

pub binary-at-column : (o : Binary) (b : ℕ) → binary_type o b b ≡ binary_type o (column_of b) (column_of b)
binary-at-column o b = at-column (λ c. binary_type o c c) (binary-past o) b

-- ---- the whole rule

pub unary-table : (o : UnaryOperator) (b : ℕ) → table_at (unary_row o) (column_of b) ≡ table_entry (unary_type (unary_of o) b)
unary-table o b =
    entry-is-rule (unary_row o) (column_of b) (unary-row o).0 (column-small b)
    ∙ ap table_entry ((unary-row o).1 (column_of b) ∙ sym (unary-at-column (unary_of o) b))

pub binary-alike-table : (o : BinaryOperator) (b : ℕ) → table_at (binary_row o) (column_of b) ≡ table_entry (binary_type (binary_of o) b b)
binary-alike-table o b =
    entry-is-rule (binary_row o) (column_of b) (binary-row o).0 (column-small b)
    ∙ ap table_entry ((binary-row o).1 (column_of b) ∙ sym (binary-at-column (binary_of o) b))

pub binary-table : (o : BinaryOperator) (b c : ℕ) → pick (eqb b c) (table_at (binary_row o) (column_of b)) none ≡ table_entry (binary_type (binary_of o) b c)
binary-table o b c = go (eqb b c) refl
  where
    go : (t : Bool) → eqb b c ≡ t → pick t (table_at (binary_row o) (column_of b)) none ≡ table_entry (binary_type (binary_of o) b c)
    go true e = binary-alike-table o b ∙ ap (λ (d : ℕ). table_entry (binary_type (binary_of o) b d)) (eq_of b c e)
    go false e = sym (ap table_entry (unlike-refused (binary_of o) b c e))
