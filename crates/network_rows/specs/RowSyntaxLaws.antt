-- A row read by value becomes the syntax that network's Decode gives it.
use Rattle.std.specs.Prelude.{ℕ, suc, ◌+◌, ◌-◌, ◌<◌, ◌≡◌, refl, List}
use Rattle.std.proofs.Common.{sym, ◌∙◌, ap, arith}
use Rattle.network_syntax.specs.Syntax.{Expression, Behaviour}
use Rattle.network_syntax.specs.Rows.{input_of, output_of}
use Rattle.wire.specs.Wire.{byte_at}
use Rattle.network.specs.declared.ExpressionKind.{ExpressionKind}
use Rattle.network.specs.declared.BehaviourKind.{BehaviourKind}
use Rattle.network.specs.Layout.{behaviour_count, expression_at, behaviour_at}
use Rattle.network.specs.Rows.{field_a, field_b, field_c, field_d, expression_kind_at, kind_at}
use Rattle.network.specs.Decode.{path_of, expression_from, expression_to, behaviour_from, behaviour_to, behaviour_of}
use Rattle.network_rows.specs.declared.BehaviourRow.{BehaviourRow}
use Rattle.network_rows.specs.declared.InputRow.{InputRow}
use Rattle.network_rows.specs.declared.OutputRow.{OutputRow}
use Rattle.network_rows.specs.Readers.{path_ids, expression_row_as, expression_row_of, behaviour_row_as, behaviour_row_of}
use Rattle.network_rows.specs.Readers.{view_in, input_row_in, output_row_in, input_row_of, output_row_of}
use Rattle.network_rows.specs.RowSyntax.{expression_with, behaviour_with, input_with, output_with, path_with}

pub path-row-is : (s : List ℕ) (r : ℕ) → path_of s r ≡ path_with (path_ids s r)
unfolding path_of path_with path_ids
path-row-is s r = refl

expression-kind-is : (s : List ℕ) (operand : ℕ → Expression) (at : ℕ) (k : ExpressionKind) →
    expression_from s operand at k ≡ expression_with s operand (expression_row_as k (byte_at s (at + 1)) (field_a s at) (field_b s at))
unfolding expression_from expression_with expression_row_as
expression-kind-is s operand at ExpressionKind.Constant = refl
expression-kind-is s operand at ExpressionKind.ValueAt = refl
expression-kind-is s operand at ExpressionKind.Presence = refl
expression-kind-is s operand at ExpressionKind.Not = refl
expression-kind-is s operand at ExpressionKind.Negate = refl
expression-kind-is s operand at ExpressionKind.Add = refl
expression-kind-is s operand at ExpressionKind.Subtract = refl
expression-kind-is s operand at ExpressionKind.Less = refl
expression-kind-is s operand at ExpressionKind.Equal = refl
expression-kind-is s operand at ExpressionKind.And = refl
expression-kind-is s operand at ExpressionKind.Unknown = refl

pub expression-row-is : (s : List ℕ) (d r : ℕ) → expression_to s (suc d) r ≡ expression_with s (expression_to s d) (expression_row_of s r)
unfolding expression_to expression_row_of
expression-row-is s d r = expression-kind-is s (expression_to s d) (expression_at s r) (expression_kind_at s r)

pub behaviour-kind-is : (s : List ℕ) (sub : ℕ → Behaviour) (r at : ℕ) (k : BehaviourKind) →
    behaviour_from s sub r at k ≡ behaviour_with s sub r (behaviour_row_as k (field_a s at) (field_b s at) (field_c s at) (field_d s at))
unfolding behaviour_from behaviour_row_as
behaviour-kind-is s sub r at BehaviourKind.Nil = refl
behaviour-kind-is s sub r at BehaviourKind.OneWay = refl
behaviour-kind-is s sub r at BehaviourKind.RequestResponse = refl
behaviour-kind-is s sub r at BehaviourKind.Notification = refl
behaviour-kind-is s sub r at BehaviourKind.SolicitResponse = refl
behaviour-kind-is s sub r at BehaviourKind.If = refl
behaviour-kind-is s sub r at BehaviourKind.While = refl
behaviour-kind-is s sub r at BehaviourKind.Sequence = refl
behaviour-kind-is s sub r at BehaviourKind.Parallel = refl
behaviour-kind-is s sub r at BehaviourKind.Assign = refl
behaviour-kind-is s sub r at BehaviourKind.Choice = refl
behaviour-kind-is s sub r at BehaviourKind.Branch = refl
behaviour-kind-is s sub r at BehaviourKind.Unknown = refl

pub behaviour-row-is : (s : List ℕ) (d r : ℕ) → behaviour_to s (suc d) r ≡ behaviour_with s (behaviour_to s d) r (behaviour_row_of s r)
unfolding behaviour_to behaviour_row_of
behaviour-row-is s d r = behaviour-kind-is s (behaviour_to s d) r (behaviour_at s r) (kind_at s r)

pub views-with-are : (s : List ℕ) (sub : ℕ → Behaviour) (r : ℕ) (y : BehaviourRow)
    → (input_of (behaviour_with s sub r y) ≡ input_with s sub r (input_row_in (view_in y)))
    × (output_of (behaviour_with s sub r y) ≡ output_with s r (output_row_in (view_in y)))
unfolding view_in
views-with-are s sub r BehaviourRow.Nil = (refl, refl)
views-with-are s sub r (BehaviourRow.OneWay o p) = (refl, refl)
views-with-are s sub r (BehaviourRow.RequestResponse o p c d) = (refl, refl)
views-with-are s sub r (BehaviourRow.Notification o x) = (refl, refl)
views-with-are s sub r (BehaviourRow.SolicitResponse o x p) = (refl, refl)
views-with-are s sub r (BehaviourRow.If x a b) = (refl, refl)
views-with-are s sub r (BehaviourRow.While x b) = (refl, refl)
views-with-are s sub r (BehaviourRow.Sequence a b) = (refl, refl)
views-with-are s sub r (BehaviourRow.Parallel a b) = (refl, refl)
views-with-are s sub r (BehaviourRow.Assign p x) = (refl, refl)
views-with-are s sub r (BehaviourRow.Choice first n) = (refl, refl)
views-with-are s sub r (BehaviourRow.Branch a b) = (refl, refl)
views-with-are s sub r BehaviourRow.Unknown = (refl, refl)

-- The behaviour of a row of any file.
pub top-row-is : (s : List ℕ) (r : ℕ) → r < behaviour_count s
    → behaviour_of s r ≡ behaviour_with s (behaviour_to s (behaviour_count s - 1)) r (behaviour_row_of s r)
unfolding behaviour_of
top-row-is s r l =
    let z : behaviour_count s ≡ suc (behaviour_count s - 1) = omega (arith, l) in
    ap (λ (d : ℕ). behaviour_to s d r) z ∙ behaviour-row-is s (behaviour_count s - 1) r

-- Rows that `input_of` and `output_of` read, as the views of their behaviours.
pub input-row-is : (s : List ℕ) (r : ℕ) → r < behaviour_count s → {x y : InputRow} → x ≡ input_row_of s r → x ≡ y
    → input_of (behaviour_of s r) ≡ input_with s (behaviour_to s (behaviour_count s - 1)) r y
unfolding input_row_of
input-row-is s r l e f =
    ap input_of (top-row-is s r l) ∙ ((views-with-are s (behaviour_to s (behaviour_count s - 1)) r (behaviour_row_of s r)).0
    ∙ ap (input_with s (behaviour_to s (behaviour_count s - 1)) r) (sym e ∙ f))

pub output-row-is : (s : List ℕ) (r : ℕ) → r < behaviour_count s → {x y : OutputRow} → x ≡ output_row_of s r → x ≡ y
    → output_of (behaviour_of s r) ≡ output_with s r y
unfolding output_row_of
output-row-is s r l e f =
    ap output_of (top-row-is s r l) ∙ ((views-with-are s (behaviour_to s (behaviour_count s - 1)) r (behaviour_row_of s r)).1 ∙ ap (output_with s r) (sym e ∙ f))
