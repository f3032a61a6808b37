-- Laws of E rows by their parts: what a row's parts say of its expression in a file that none of 2 to 5 refuses.
use Rattle.std.specs.Prelude.{ℕ, ◌+◌, ◌<◌, ◌≤◌, ◌≡◌, refl, List, Bool, true, false, ◌&&◌, ltb}
use Rattle.std.proofs.Common.{sym, ◌∙◌, ap, subst, ltb-true, leb-true, lt-ltb, le-ltb}
use Rattle.scalar.specs.Basic.{last_basic}
use Rattle.scalar.specs.Value.{value}
use Rattle.basics.specs.Choice.{pick}
use Rattle.basics.specs.TestLaws.{and-of, both_true}
use Rattle.network_syntax.specs.Syntax.{Expression, constant, value_at, presence, unary, binary}
use Rattle.wire.specs.Wire.{byte_at}
use Rattle.network.specs.declared.ExpressionKind.{ExpressionKind}
use Rattle.network.specs.Kinds.{expression_fields}
use Rattle.network.specs.Layout.{path_count, expression_count, expression_at, data_part}
use Rattle.network.specs.Rows.{field_a, field_b, field_c, expression_kind_at, field_fits, basic_fits, constant_fits}
use Rattle.network.specs.Form.{WellFormed}
use Rattle.network.specs.Decode.{path_of, expression_from, expression_of}
use Rattle.network.proofs.DecodeLaws.{expression-kept, expression-row, known-expression}
use Rattle.network_rows.specs.declared.ExpressionRow.{ExpressionRow}
use Rattle.network_rows.specs.Readers.{expression_row_as, expression_row_of, behaviour_row_of}
use Rattle.network_rows.specs.declared.BehaviourRow.{BehaviourRow}
use Rattle.network_row_parts.specs.declared.UnaryOperator.{UnaryOperator}
use Rattle.network_row_parts.specs.declared.BinaryOperator.{BinaryOperator}
use Rattle.network_row_parts.specs.declared.Part.{Part}
use Rattle.network_row_parts.specs.declared.Subs.{Subs}
use Rattle.network_row_parts.specs.Parts.{unary_of, binary_of, unary_part, binary_part, part_as, expression_part, subs_in, subs_of}

pub part-are : (s : List ℕ) (r : ℕ) {x : ExpressionRow} {y : Part} → x ≡ expression_row_of s r → y ≡ part_as r x → y ≡ expression_part s r
unfolding expression_part
part-are s r e f = f ∙ ap (part_as r) e

pub part_by : (r : ℕ) {x y : ExpressionRow} {z : Part} → x ≡ y → z ≡ part_as r y → z ≡ part_as r x
part_by r e f = f ∙ sym (ap (part_as r) e)

pub unary-earlier : (o : UnaryOperator) (a r : ℕ) → a < r → Part.Unary o a ≡ unary_part o a r
unfolding unary_part
unary-earlier o a r h = rw (lt-ltb a r h) refl

pub unary-later : (o : UnaryOperator) (a r : ℕ) → r ≤ a → Part.Broken ≡ unary_part o a r
unfolding unary_part
unary-later o a r h = rw (le-ltb a r h) refl

pub binary-earlier : (o : BinaryOperator) (a b r : ℕ) (t : Bool) → t ≡ (ltb a r && ltb b r) → t ≡ true → Part.Binary o a b ≡ binary_part o a b r
unfolding binary_part
binary-earlier o a b r t e f = rw (sym e ∙ f) refl

pub binary-later : (o : BinaryOperator) (a b r : ℕ) (t : Bool) → t ≡ (ltb a r && ltb b r) → t ≡ false → Part.Broken ≡ binary_part o a b r
unfolding binary_part
binary-later o a b r t e f = rw (sym e ∙ f) refl

pub subs-of-row : (s : List ℕ) (r : ℕ) {x : BehaviourRow} {y : Subs} → x ≡ behaviour_row_of s r → y ≡ subs_in x → y ≡ subs_of s r
unfolding subs_of
subs-of-row s r e f = f ∙ ap subs_in e

pub subs-by : {x y : BehaviourRow} {z : Subs} → x ≡ y → z ≡ subs_in y → z ≡ subs_in x
subs-by e f = f ∙ sym (ap subs_in e)

pub ruleset part-laws = (part-are, part_by, unary-earlier, unary-later, binary-earlier, binary-later)

pub ruleset sub-laws = (subs-of-row, subs-by)

-- ---- operands are earlier rows

abbrev Falls : ℕ → Part → Type 0
Falls r (Part.Constant b v n) = Unit {0}
Falls r (Part.ValueAt p) = Unit {0}
Falls r (Part.Presence p) = Unit {0}
Falls r (Part.Unary o a) = a < r
Falls r (Part.Binary o a b) = (a < r) × (b < r)
Falls r Part.Broken = Unit {0}

falls-unary : (o : UnaryOperator) (a r : ℕ) → Falls r (unary_part o a r)
unfolding unary_part
falls-unary o a r = go (ltb a r) refl
  where
    go : (t : Bool) → ltb a r ≡ t → Falls r (pick t (Part.Unary o a) Part.Broken)
    go true e = ltb-true a r e
    go false e = tt

falls-binary : (o : BinaryOperator) (a b r : ℕ) → Falls r (binary_part o a b r)
unfolding binary_part
falls-binary o a b r = go (ltb a r && ltb b r) refl
  where
    go : (t : Bool) → ltb a r && ltb b r ≡ t → Falls r (pick t (Part.Binary o a b) Part.Broken)
    go true e = let u = and-of (ltb a r) (ltb b r) e in (ltb-true a r u.0, ltb-true b r u.1)
    go false e = tt

falls-as : (r : ℕ) (x : ExpressionRow) → Falls r (part_as r x)
falls-as r (ExpressionRow.Constant basic a b) = tt
falls-as r (ExpressionRow.ValueAt a) = tt
falls-as r (ExpressionRow.Presence a) = tt
falls-as r (ExpressionRow.Not a) = falls-unary UnaryOperator.Not a r
falls-as r (ExpressionRow.Negate a) = falls-unary UnaryOperator.Negate a r
falls-as r (ExpressionRow.Add a b) = falls-binary BinaryOperator.Add a b r
falls-as r (ExpressionRow.Subtract a b) = falls-binary BinaryOperator.Subtract a b r
falls-as r (ExpressionRow.Less a b) = falls-binary BinaryOperator.Less a b r
falls-as r (ExpressionRow.Equal a b) = falls-binary BinaryOperator.Equal a b r
falls-as r (ExpressionRow.And a b) = falls-binary BinaryOperator.And a b r
falls-as r ExpressionRow.Unknown = tt

pub unary-falls : (s : List ℕ) (r : ℕ) {x : Part} {o : UnaryOperator} {a : ℕ} → x ≡ expression_part s r → x ≡ Part.Unary o a → a < r
unfolding expression_part
unary-falls s r e f = subst (Falls r) (sym e ∙ f) (falls-as r (expression_row_of s r))

pub binary-falls : (s : List ℕ) (r : ℕ) {x : Part} {o : BinaryOperator} {a b : ℕ} → x ≡ expression_part s r → x ≡ Part.Binary o a b → (a < r) × (b < r)
unfolding expression_part
binary-falls s r e f = subst (Falls r) (sym e ∙ f) (falls-as r (expression_row_of s r))

-- ---- the expression of a row by its parts

-- What the parts say of the row's expression.
abbrev pub PartIs : List ℕ → ℕ → Expression → Part → Type 0
PartIs s r e (Part.Constant b v n) = (e ≡ constant (value b (data_part s v n))) × (constant_fits s b v n ≡ true) × (b ≤ last_basic)
PartIs s r e (Part.ValueAt p) = (e ≡ value_at (path_of s p)) × (p < path_count s)
PartIs s r e (Part.Presence p) = (e ≡ presence (path_of s p)) × (p < path_count s)
PartIs s r e (Part.Unary o a) = (e ≡ unary (unary_of o) (expression_of s a)) × (a < r)
PartIs s r e (Part.Binary o a b) = (e ≡ binary (binary_of o) (expression_of s a) (expression_of s b)) × (a < r) × (b < r)
PartIs s r e Part.Broken = ⊥

unary-is : (s : List ℕ) (r a : ℕ) (e : Expression) (o : UnaryOperator) → e ≡ unary (unary_of o) (expression_of s a) → ltb a r ≡ true
    → PartIs s r e (unary_part o a r)
unfolding unary_part
unary-is s r a e o p h = subst (λ (t : Bool). PartIs s r e (pick t (Part.Unary o a) Part.Broken)) (sym h) (p, ltb-true a r h)

binary-is : (s : List ℕ) (r a b : ℕ) (e : Expression) (o : BinaryOperator) → e ≡ binary (binary_of o) (expression_of s a) (expression_of s b)
    → ltb a r ≡ true → ltb b r ≡ true → PartIs s r e (binary_part o a b r)
unfolding binary_part
binary-is s r a b e o p h k =
    subst (λ (t : Bool). PartIs s r e (pick t (Part.Binary o a b) Part.Broken)) (sym (both_true h k)) (p, ltb-true a r h, ltb-true b r k)

kind-is : (s : List ℕ) (r at : ℕ) (e : Expression) (k : ExpressionKind) → (k ≡ ExpressionKind.Unknown → ⊥) → e ≡ expression_from s (expression_of s) at k
    → basic_fits k (byte_at s (at + 1)) ≡ true → field_fits s r (byte_at s (at + 1)) (expression_fields k).a (field_a s at) (field_b s at) ≡ true
    → field_fits s r (byte_at s (at + 1)) (expression_fields k).b (field_b s at) (field_c s at) ≡ true
    → PartIs s r e (part_as r (expression_row_as k (byte_at s (at + 1)) (field_a s at) (field_b s at)))
unfolding expression_from basic_fits field_fits expression_fields expression_row_as
kind-is s r at e ExpressionKind.Constant u p b x y = (p, x, leb-true (byte_at s (at + 1)) last_basic b)
kind-is s r at e ExpressionKind.ValueAt u p b x y = (p, ltb-true (field_a s at) (path_count s) x)
kind-is s r at e ExpressionKind.Presence u p b x y = (p, ltb-true (field_a s at) (path_count s) x)
kind-is s r at e ExpressionKind.Not u p b x y = unary-is s r (field_a s at) e UnaryOperator.Not p x
kind-is s r at e ExpressionKind.Negate u p b x y = unary-is s r (field_a s at) e UnaryOperator.Negate p x
kind-is s r at e ExpressionKind.Add u p b x y = binary-is s r (field_a s at) (field_b s at) e BinaryOperator.Add p x y
kind-is s r at e ExpressionKind.Subtract u p b x y = binary-is s r (field_a s at) (field_b s at) e BinaryOperator.Subtract p x y
kind-is s r at e ExpressionKind.Less u p b x y = binary-is s r (field_a s at) (field_b s at) e BinaryOperator.Less p x y
kind-is s r at e ExpressionKind.Equal u p b x y = binary-is s r (field_a s at) (field_b s at) e BinaryOperator.Equal p x y
kind-is s r at e ExpressionKind.And u p b x y = binary-is s r (field_a s at) (field_b s at) e BinaryOperator.And p x y
kind-is s r at e ExpressionKind.Unknown u p b x y = u refl

pub part-is : (s : List ℕ) → WellFormed s → (r : ℕ) → r < expression_count s → {x y : Part} → x ≡ expression_part s r → x ≡ y → PartIs s r (expression_of s r) y
unfolding expression_part expression_row_of expression_kind_at
part-is s w r l e f =
    let k = expression-kept s w r l in
    subst (PartIs s r (expression_of s r)) (sym e ∙ f)
    (kind-is s r (expression_at s r) (expression_of s r) (expression_kind_at s r) (λ g. known-expression (byte_at s (expression_at s r)) k.kind g)
    (expression-row s w r l) k.basic_type k.fits_a k.fits_b)
