-- Laws of typing expressions: one for each way out of the functions.
use Prim.Native.Nat.{ℕ, ◌<◌, ◌≤◌}
use mathlib.Core.Path.{◌≡◌, refl, sym, ◌∙◌, ap, subst}
use mathlib.Core.List.{List}
use lib.Dec.{eqb}
use mathlib.Core.Bool.{Bool, true, false}
use native.Mathlib.Omega.{arith}
use borrow.Author.Tests.{ne_eqb}
use Rattle.refusal.specs.declared.Refusal.{Refusal}
use Rattle.refusal.specs.declared.Refusal.TheVariants.{OperandType}
use Rattle.scalar.specs.Basic.{last_basic}
use Rattle.scalar.specs.Value.{value}
use Rattle.basics.specs.Choice.{pick}
use Rattle.basics.specs.TestLaws.{of_eq, eq_of}
use Rattle.network_syntax.specs.Syntax.{Types, MessageType}
use Rattle.network_syntax.specs.Syntax.{Expression, constant, value_at, presence, unary, binary}
use Rattle.check_subtyping.specs.Subtype.{root_basic}
use Rattle.check_typing.specs.Result.{Attempt, fails, yields, and_then, refused}
use Rattle.check_expressions.proofs.TypingsLaws.{refused-first}
use Rattle.check_typing.specs.ExpressionTyping.{unary_type, binary_type, expression_type}
use Rattle.network.specs.Form.{WellFormed}
use Rattle.network.specs.Layout.{expression_count, data_part}
use Rattle.network.specs.Decode.{path_of, expression_of}
use Rattle.check_environments.specs.declared.Environment.{Environment}
use Rattle.check_environments.specs.Environment.{EnvironmentFor}
use Rattle.network_row_parts.specs.declared.UnaryOperator.{UnaryOperator}
use Rattle.network_row_parts.specs.declared.BinaryOperator.{BinaryOperator}
use Rattle.network_row_parts.specs.declared.Part.{Part}
use Rattle.check_expressions.specs.declared.Typed.{Typed}
use Rattle.network_row_parts.specs.Parts.{unary_of, binary_of, expression_part}
use Rattle.check_expressions.specs.Typings.{entry_typing, table_typing, root_typed, with_basic}
use Rattle.check_expressions.specs.Typings.{operator_typed, TypedAs, ValueTyped, PresenceTyped, TypingTells}
use Rattle.network_row_parts.specs.PartLaws.{part-is}
use Rattle.check_expressions.proofs.SmallLaws.{Alone, unary-alone, binary-alone}
use Rattle.check_expressions.specs.Table.{none, table_at, table_entry, unary_row, binary_row, column_of}
use Rattle.check_expressions.proofs.TableLaws.{unlike-refused, column-small, unary-at-column, binary-at-column}
use Rattle.check_expressions.proofs.TableLaws.{unary-table, binary-alike-table}
use Rattle.std.specs.Prelude.{Result, Ok, Err, is_err}

-- ---- operators

-- What an operator's rule answers: the basic type of the result alone, or a refusal, placed at the B row.
abbrev typing_of : ℕ → Attempt MessageType → Result Typed Refusal
typing_of row (fails why) = Err (why row)
typing_of row (yields t) = Ok (Typed.Leaf (root_basic t))

unfoldable unary_typing : ℕ → UnaryOperator → ℕ → Result Typed Refusal
unary_typing row o b = typing_of row (unary_type (unary_of o) b)

unfoldable binary_typing : ℕ → BinaryOperator → ℕ → ℕ → Result Typed Refusal
binary_typing row o b c = typing_of row (binary_type (binary_of o) b c)

rule-right : (e : Environment) (row b : ℕ) (r : Attempt MessageType) → Alone b r → TypedAs e row (typing_of row r) r
rule-right e row b (fails why) h = refl
rule-right e row b (yields t) h = ap yields h.0

unary-right : (e : Environment) (row : ℕ) (o : UnaryOperator) (b : ℕ) → TypedAs e row (unary_typing row o b) (unary_type (unary_of o) b)
unfolding unary_typing
unary-right e row o b = rule-right e row b (unary_type (unary_of o) b) (unary-alone (unary_of o) b)

binary-right : (e : Environment) (row : ℕ) (o : BinaryOperator) (b c : ℕ) → TypedAs e row (binary_typing row o b c) (binary_type (binary_of o) b c)
unfolding binary_typing
binary-right e row o b c = rule-right e row b (binary_type (binary_of o) b c) (binary-alone (binary_of o) b c)

-- ---- the table

as-entry : (row b : ℕ) (r : Attempt MessageType) → b ≤ last_basic → Alone b r → entry_typing row (table_entry r) ≡ typing_of row r
as-entry row b (fails why) l h = sym (ap (λ (w : ℕ → Refusal). Err (w row)) h)
as-entry row b (yields t) l h = let m = h.1 l in rw (ne_eqb (root_basic t) none (λ e. omega arith)) refl

unary-looked : (row b : ℕ) (o : UnaryOperator) → table_typing row (unary_row o) b b ≡ unary_typing row o b
unfolding unary_typing
unary-looked row b o =
    rw (of_eq b b refl) (ap (entry_typing row) (unary-table o b)
    ∙ as-entry row (column_of b) (unary_type (unary_of o) b) (column-small b)
    (subst (Alone (column_of b)) (sym (unary-at-column (unary_of o) b)) (unary-alone (unary_of o) (column_of b))))

binary-looked : (row b c : ℕ) (o : BinaryOperator) → table_typing row (binary_row o) b c ≡ binary_typing row o b c
unfolding binary_typing
binary-looked row b c o = go (eqb b c) refl
  where
    go : (t : Bool) → eqb b c ≡ t
        → pick t (entry_typing row (table_at (binary_row o) (column_of b))) (Err (OperandType row)) ≡ typing_of row (binary_type (binary_of o) b c)
    go true e =
        ap (entry_typing row) (binary-alike-table o b)
        ∙ as-entry row (column_of b) (binary_type (binary_of o) b b) (column-small b)
        (subst (Alone (column_of b)) (sym (binary-at-column (binary_of o) b)) (binary-alone (binary_of o) (column_of b) (column_of b)))
        ∙ ap (λ (d : ℕ). typing_of row (binary_type (binary_of o) b d)) (eq_of b c e)
    go false e = sym (ap (typing_of row) (unlike-refused (binary_of o) b c e))

unary-by-table : (row : ℕ) (o : UnaryOperator) (x : Result Typed Refusal) → operator_typed row (unary_row o) x x ≡ with_basic (unary_typing row o) x
unary-by-table row o (Ok x) = unary-looked row (root_typed x) o
unary-by-table row o (Err why) = refl

binary-by-table : (row : ℕ) (o : BinaryOperator) (x y : Result Typed Refusal) → operator_typed row (binary_row o) x y ≡ with_basic (λ b. with_basic (binary_typing row o b) y) x
binary-by-table row o (Ok x) (Ok y) = binary-looked row (root_typed x) (root_typed y) o
binary-by-table row o (Ok x) (Err why) = refl
binary-by-table row o (Err why) y = refl

-- ---- two operands by the table

given : (x : Result Typed Refusal) → ((why : Refusal) → x ≡ Err why → ⊥) → is_err x ≡ false
given (Ok x) k = refl
given (Err why) k = absurd (k why refl)

pub right-refused : (row o : ℕ) (x : Result Typed Refusal) {y : Result Typed Refusal} {why : Refusal} → ((why : Refusal) → x ≡ Err why → ⊥) → y ≡ Err why
    → y ≡ operator_typed row o x y
right-refused row o (Ok x) k e = rw e refl
right-refused row o (Err why) k e = absurd (k why refl)

pub alone : (row o : ℕ) (x : Typed) {i b : ℕ} {z : Result Typed Refusal} → i ≡ o → b ≡ root_typed x → z ≡ entry_typing row (table_at i (column_of b))
    → z ≡ operator_typed row o (Ok x) (Ok x)
alone row o x {i} {b} f g h = rw (sym g, of_eq b b refl, sym f) h

module _ (row o : ℕ) (x y : Typed) where
  pub unlike : {b c : ℕ} → b ≡ root_typed x → c ≡ root_typed y → (b ≡ c → ⊥) → Err (OperandType row) ≡ operator_typed row o (Ok x) (Ok y)
  unlike {b} {c} g h n = rw (sym g, sym h, ne_eqb b c n) refl

  pub alike : {i b c : ℕ} {z : Result Typed Refusal} → b ≡ root_typed x → c ≡ root_typed y → b ≡ c → i ≡ o → z ≡ entry_typing row (table_at i (column_of b))
      → z ≡ operator_typed row o (Ok x) (Ok y)
  alike {i} {b} {c} g h e f d = rw (sym g, sym h, of_eq b c e, sym f) d

-- An operand, then what follows from its basic type.
after-operand : (e : Environment) (row : ℕ) (x : Result Typed Refusal) (found : Attempt MessageType) (f : ℕ → Result Typed Refusal) (g : ℕ → Attempt MessageType) → TypedAs e row x found
    → ((b : ℕ) → TypedAs e row (f b) (g b)) → TypedAs e row (with_basic f x) (and_then found (λ t. g (root_basic t)))
after-operand e row (Ok (Typed.At at b)) found f g h k =
    subst (λ (r : Attempt MessageType). TypedAs e row (f b) (and_then r (λ t. g (root_basic t)))) (sym h.is)
    (subst (λ (n : ℕ). TypedAs e row (f b) (g n)) h.basic (k b))
after-operand e row (Ok (Typed.Leaf b)) found f g h k = subst (λ (r : Attempt MessageType). TypedAs e row (f b) (and_then r (λ t. g (root_basic t)))) (sym h) (k b)
after-operand e row (Err why) found f g h k = refused-first row found (λ t. g (root_basic t)) h

-- ---- rows

typed-as : (s : List ℕ) (e : Environment) (r row : ℕ) {x : Result Typed Refusal} → ((Γ : Types) → EnvironmentFor e Γ → WellFormed s → r < expression_count s →
    (f : Expression) × (expression_of s r ≡ f) × TypedAs e row x (expression_type Γ f)) → TypingTells s e r row x
typed-as s e r row {x} h = record { tells = λ Γ g w l. let u = h Γ g w l in subst (λ (f : Expression). TypedAs e row x (expression_type Γ f)) (sym u.1) u.2 }

pub constant-typed : (s : List ℕ) (e : Environment) (r row : ℕ) {x : Part} {b v n : ℕ} → x ≡ expression_part s r → x ≡ Part.Constant b v n → TypingTells s e r row (Ok (Typed.Leaf b))
unfolding expression_type
constant-typed s e r row {x} {b} {v} {n} p q = typed-as s e r row (λ Γ g w l. let u = part-is s w r l p q in (constant (value b (data_part s v n)), u.0, refl))

pub value-typed : (s : List ℕ) (e : Environment) (r row : ℕ) {x : Part} {p : ℕ} {y : Result Typed Refusal} → x ≡ expression_part s r → x ≡ Part.ValueAt p → ValueTyped s e p row y → TypingTells s e r row y
unfolding expression_type
value-typed s e r row {x} {p} m n v = typed-as s e r row (λ Γ g w l. let u = part-is s w r l m n in (value_at (path_of s p), u.0, v.tells Γ g w u.1))

pub presence-typed : (s : List ℕ) (e : Environment) (r row : ℕ) {x : Part} {p : ℕ} {y : Result Typed Refusal} → x ≡ expression_part s r → x ≡ Part.Presence p → PresenceTyped s e p row y → TypingTells s e r row y
unfolding expression_type
presence-typed s e r row {x} {p} m n v = typed-as s e r row (λ Γ g w l. let u = part-is s w r l m n in (presence (path_of s p), u.0, v.tells Γ g w u.1))

pub unary-typed : (s : List ℕ) (e : Environment) (r row : ℕ) {x : Part} {o : UnaryOperator} {a : ℕ} {y z : Result Typed Refusal} → x ≡ expression_part s r → x ≡ Part.Unary o a
    → TypingTells s e a row y → z ≡ operator_typed row (unary_row o) y y → TypingTells s e r row z
unfolding expression_type
unary-typed s e r row {x} {o} {a} {y} {z} m n v k = subst (λ (t : Result Typed Refusal). TypingTells s e r row t)
    (sym (k ∙ unary-by-table row o y)) (typed-as s e r row (λ Γ g w l.
    let u = part-is s w r l m n in
    let i = u.1 in (
      unary (unary_of o) (expression_of s a),
      u.0,
      after-operand e row y (expression_type Γ (expression_of s a)) (unary_typing row o) (unary_type (unary_of o)) (v.tells Γ g w (omega arith)) (unary-right e row o),
    )))

pub binary-typed : (s : List ℕ) (e : Environment) (r row : ℕ) {x : Part} {o : BinaryOperator} {a b : ℕ} {y t z : Result Typed Refusal} → x ≡ expression_part s r → x ≡ Part.Binary o a b
    → TypingTells s e a row y → TypingTells s e b row t → z ≡ operator_typed row (binary_row o) y t → TypingTells s e r row z
unfolding expression_type
binary-typed s e r row {x} {o} {a} {b} {y} {t} {z} m n v v₂ k = subst (λ (c : Result Typed Refusal). TypingTells s e r row c)
    (sym (k ∙ binary-by-table row o y t)) (typed-as s e r row (λ Γ g w l.
    let u = part-is s w r l m n in
    let i = u.1 in
    let j = u.2 in (
      binary (binary_of o) (expression_of s a) (expression_of s b),
      u.0,
      after-operand e row y (expression_type Γ (expression_of s a)) (λ c. with_basic (binary_typing row o c) t)
          (λ c. and_then (expression_type Γ (expression_of s b)) (λ d. binary_type (binary_of o) c (root_basic d))) (v.tells Γ g w (omega arith))
          (λ c. after-operand e row t (expression_type Γ (expression_of s b)) (binary_typing row o c) (binary_type (binary_of o) c) (v₂.tells Γ g w (omega arith)) (binary-right e row o c)),
    )))

-- An operand that stands on both sides is typed once.
pub twice-typed : (s : List ℕ) (e : Environment) (r row : ℕ) {x : Part} {o : BinaryOperator} {a b : ℕ} {y z : Result Typed Refusal} → x ≡ expression_part s r → x ≡ Part.Binary o a b
    → TypingTells s e a row y → a ≡ b → z ≡ operator_typed row (binary_row o) y y → TypingTells s e r row z
twice-typed s e r row {x} {o} {a} {b} {y} m n v i k = binary-typed s e r row m n v (subst (λ (d : ℕ). TypingTells s e d row y) i v) k

-- A left operand is refused, whatever the right one is.
pub left-refused : (s : List ℕ) (e : Environment) (r row : ℕ) {x : Part} {o : BinaryOperator} {a b : ℕ} {why : Refusal} → x ≡ expression_part s r → x ≡ Part.Binary o a b
    → TypingTells s e a row (Err why) → TypingTells s e r row (Err why)
unfolding expression_type
left-refused s e r row {x} {o} {a} {b} {why} m n v = typed-as s e r row (λ Γ g w l.
    let u = part-is s w r l m n in
    let i = u.1 in (
      binary (binary_of o) (expression_of s a) (expression_of s b),
      u.0,
      refused-first row (expression_type Γ (expression_of s a))
          (λ t. and_then (expression_type Γ (expression_of s b)) (λ d. binary_type (binary_of o) (root_basic t) (root_basic d))) (v.tells Γ g w (omega arith)),
    ))

pub broken-typed : (s : List ℕ) (e : Environment) (r row : ℕ) {x : Part} (y : Result Typed Refusal) → x ≡ expression_part s r → x ≡ Part.Broken → TypingTells s e r row y
broken-typed s e r row y p q = record { tells = λ Γ g w l. absurd (part-is s w r l p q) }
