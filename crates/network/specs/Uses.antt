-- The use of B rows, the last rule of refusal 4. 01, B: "Each row is used exactly once, by a row or a service"; places: "for a
-- B row never used, a second use .., the first byte of that row, of the using row". Uses are taken in file order, B rows and
-- then S rows; every use after the first is a defect of the using row. A sub-behaviour field, a run and a service field use
-- every existing B row that they name, also an earlier one or one of the wrong kind.
use Rattle.std.specs.Prelude.{ℕ, ◌+◌, List, Bool, true, false, not, ◌&&◌, eqb, ltb}
use Rattle.network.specs.declared.FieldSort.{FieldSort}
use Rattle.network.specs.declared.FieldSort.TheVariants.{Unruled, Unused, PathRow, EarlierRow, ExpressionRow, OperationRow, LaterRow, InputRow}
use Rattle.network.specs.declared.FieldSort.TheVariants.{BranchRun, BranchCount, ConstantPart}
use Rattle.network.specs.declared.Fields.{Fields}
use Rattle.network.specs.Least.{least, rule, least_over, sum_over}
use Rattle.network.specs.Layout.{behaviour_count, service_count, behaviour_at, service_at}
use Rattle.network.specs.Kinds.{behaviour_fields}
use Rattle.network.specs.Rows.{in_run, field_a, field_b, field_c, field_d, kind_at, starter_row, client_row, path_rows, type_rows, expression_rows}
use Rattle.network.specs.Rows.{behaviour_rows, operation_rows, service_rows}
use Rattle.std.specs.Prelude.{Option, None}

-- Does a field v, of the given sort and with the field w after it, use row t?
unfoldable pub field_uses : FieldSort → ℕ → ℕ → ℕ → Bool
field_uses Unruled v w t = false
field_uses Unused v w t = false
field_uses PathRow v w t = false
field_uses EarlierRow v w t = false
field_uses ExpressionRow v w t = false
field_uses OperationRow v w t = false
field_uses LaterRow v w t = eqb v t
field_uses InputRow v w t = eqb v t
field_uses BranchRun v w t = in_run v w t
field_uses BranchCount v w t = false
field_uses ConstantPart v w t = false

-- A test as a number of uses.
abbrev pub one : Bool → ℕ
one true = 1
one false = 0

-- How often the B row whose first byte is `at` uses row t.
abbrev pub uses_by : List ℕ → ℕ → ℕ → Fields → ℕ
uses_by s t at q =
    one (field_uses q.a (field_a s at) (field_b s at) t) +
    (one (field_uses q.b (field_b s at) (field_c s at) t) +
    (one (field_uses q.c (field_c s at) 0 t) + one (field_uses q.d (field_d s at) 0 t)))

unfoldable pub row_uses : List ℕ → ℕ → ℕ → ℕ
row_uses s t r = uses_by s t (behaviour_at s r) (behaviour_fields (kind_at s r))

-- How often S row q uses row t, as its starter or its client.
unfoldable pub service_uses : List ℕ → ℕ → ℕ → ℕ
service_uses s t q = one (eqb (starter_row s q) t) + one (eqb (client_row s q) t)

-- Uses of row t in file order: by the first n B rows; by all B rows and the first n services.
unfoldable pub used_by_rows : List ℕ → ℕ → ℕ → ℕ
used_by_rows s t n = sum_over n (row_uses s t)

unfoldable pub used : List ℕ → ℕ → ℕ → ℕ
used s t n = used_by_rows s t (behaviour_count s) + sum_over n (service_uses s t)

-- A row that uses t after another use, or more than once, makes a second use.
unfoldable pub second_use : ℕ → ℕ → Bool
second_use before here = not (eqb here 0) && ltb 1 (before + here)

unfoldable pub row_use_rule : List ℕ → ℕ → ℕ → Option ℕ
row_use_rule s t r = rule (not (second_use (used_by_rows s t r) (row_uses s t r))) (behaviour_at s r) None

unfoldable pub service_use_rule : List ℕ → ℕ → ℕ → Option ℕ
service_use_rule s t q = rule (not (second_use (used s t q) (service_uses s t q))) (service_at s q) None

-- Row t is used, and by no row or service a second time.
unfoldable pub uses_row : List ℕ → ℕ → Option ℕ
uses_row s t =
    rule (not (eqb (used s t (service_count s)) 0)) (behaviour_at s t)
    (least (least_over (behaviour_count s) (row_use_rule s t)) (least_over (service_count s) (service_use_rule s t)))

unfoldable pub uses_rows : List ℕ → Option ℕ
uses_rows s = least_over (behaviour_count s) (uses_row s)

-- Refusal 4: the lowest place of a broken rule over the whole file.
unfoldable pub broken : List ℕ → Option ℕ
broken s =
    least (path_rows s)
    (least (type_rows s)
    (least (expression_rows s)
    (least (behaviour_rows s) (least (uses_rows s) (least (operation_rows s) (service_rows s))))))
