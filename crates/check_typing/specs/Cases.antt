-- 01, "Proved cases": the lettered rows a to i as one table, and one proof that every row holds. ("Lettered rows are one table
-- and one proof over the definitions.")
use Rattle.std.specs.Prelude.{◌≡◌, refl, List, [], ◌∷◌, Bool, true, false, ℕ, pos, negsuc}
use Rattle.std.specs.Float.Ieee.{add, of_bits, to_bits, of_fields, sum, round, size, units, odd, span, climb}
use Rattle.std.specs.Int.Count.{count_trailing_zeros}
use Rattle.tree_forest.specs.Forest.{end, node, tree, find, set, measure}
use Rattle.tree_forest.specs.Path.{Path, path, read_steps, write_steps}
use Rattle.integer.specs.Range.{in_width}
use Rattle.scalar.specs.Basic.{bool, int, double, long, string, void}
use Rattle.scalar.specs.Value.{value}
use Rattle.wire.specs.Wire.{unsigned_of}
use Rattle.scalar.specs.Operator.{Answer, of_bool, of_int, add_of, negate_of}
use Rattle.wire.specs.Wire.{little_endian}
use Rattle.scalar.specs.Operator as Operator
use Rattle.network_syntax.specs.Syntax.{mark, Types, MessageType, Expression, constant, value_at, Behaviour, while_do, sequence, assign}
use Rattle.check_subtyping.specs.Subtype.{are_subtypes, is_subtype}
use Rattle.check_typing.specs.Result.{Checked, passed, with_row, next, refusal_number}
use Rattle.check_typing.specs.Environment.{firm_steps, firm_above_steps}
use Rattle.check_typing.specs.ExpressionTyping.{expression_type}
use Rattle.check_typing.specs.Checker.{same_types, check}

pub data Letter : Type 0 where
  row_a row_b row_c row_d row_e row_f row_g row_h row_i : Letter

-- A row: its letter, what the definitions give, and what 01 says. A row with two statements stands twice.
pub data Table : Type 1 where
  last_row : Table
  row : Letter → (A : Type 0) → A → A → Table → Table

-- Every row holds.
unfoldable pub TableHolds : Table → Type 0
TableHolds last_row = Unit {0}
TableHolds (row l A given said more) = (given ≡ said) × TableHolds more

-- `int{.x:string .y:bool}`, `int{.x?:string .y:bool}` and `int{.y:bool}`, with x = 1 and y = 2.
abbrev with_both : MessageType
with_both = tree (mark true int) (node 1 (mark true string) end (node 2 (mark true bool) end end))

abbrev with_optional : MessageType
with_optional = tree (mark true int) (node 1 (mark false string) end (node 2 (mark true bool) end end))

abbrev without_x : MessageType
without_x = tree (mark true int) (node 2 (mark true bool) end end)

abbrev alone : ℕ → MessageType
alone b = tree (mark true b) end

-- The path 5.7; 12 and true as constants; Γ with 5 void and 5.7 int, 5.7 mandatory or optional.
abbrev five_seven : Path
five_seven = path 5 (7 ∷ [])

abbrev twelve : Expression
twelve = constant (of_int (pos 12))

abbrev yes-constant : Expression
yes-constant = constant (of_bool true)

abbrev five_void : Bool → Types
five_void m = node 5 (mark true void) (node 7 (mark m int) end end) end

-- The double whose bits are n.
abbrev double_bits : ℕ → Operator.Answer
double_bits n = Operator.gives (value double (little_endian 8 n))

abbrev sum_of_doubles : ℕ → ℕ → Operator.Answer
sum_of_doubles m n = add_of (value double (little_endian 8 m)) (value double (little_endian 8 n))

unfoldable pub table : Table
table =
    -- a: ≤ : yes
    row row_a Bool (is_subtype with_both with_optional) true
    -- b: ≤ the same: yes; reversed: no
    (row row_b Bool (is_subtype without_x with_optional) true
    (row row_b Bool (is_subtype with_optional without_x) false
    -- c: int ≤ long: no
    (row row_c Bool (is_subtype (alone int) (alone long)) false
    -- d: empty Γ, assign 5.7 = int 12: 5 void, 5.7 int
    (row row_d (Checked Types) (check 0 (assign 0 five_seven twelve) end) (passed (five_void true))
    -- e: then 5.7 = true: 9
    (row row_e ℕ
    (refusal_number (check 0 (sequence 0 (assign 1 five_seven twelve) (assign 2 five_seven yes-constant)) end)) 9
    -- f: while that adds a path: 10
    (row row_f ℕ (refusal_number (check 0 (while_do 0 yes-constant (assign 1 five_seven twelve)) end)) 10
    -- g: 5.7 optional, read: 7
    (row row_g ℕ (refusal_number (with_row 0 (expression_type (five_void false) (value_at five_seven)))) 7
    -- h, by 02 "two refusals": int 2147483647 + 1, and -2147483648 negated, are outside int
    (row row_h Operator.Answer (add_of (of_int (pos 2147483647)) (of_int (pos 1))) (Operator.outside int)
    (row row_h Operator.Answer (negate_of (of_int (negsuc 2147483647))) (Operator.outside int)
    -- i: 0.1 + 0.2 has bits 3FD3333333333334
    (row row_i Operator.Answer (sum_of_doubles 0x3FB999999999999A 0x3FC999999999999A) (double_bits 0x3FD3333333333334)
    last_row))))))))))

-- Every row of the table holds.
pub all-rows-hold : TableHolds table
unfolding TableHolds table are_subtypes check expression_type same_types next firm_steps firm_above_steps find set measure read_steps write_steps
    add_of negate_of little_endian unsigned_of in_width add of_bits to_bits of_fields sum round size units odd span climb count_trailing_zeros
all-rows-hold = (refl, (refl, (refl, (refl, (refl, (refl, (refl, (refl, (refl, (refl, (refl, tt)))))))))))
