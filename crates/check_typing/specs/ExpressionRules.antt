-- Rules for paths and expressions. `Firm` and `HasType` say what 01's sentences say; ExpressionRulesLaws ties them to the functions that
-- the checker follows (`stands_firm`, `firm_above`, `expression_type`).
use Rattle.std.specs.Prelude.{◌≡◌, List, [], ◌∷◌, true, ℕ, T}
use Rattle.tree_forest.specs.Forest.{tree, Lookup, absent, present, find}
use Rattle.tree_forest.specs.Path.{Path, path, read}
use Rattle.scalar.specs.Basic.{bool, void}
use Rattle.scalar.specs.Value.{Value, basic_of}
use Rattle.network_syntax.specs.Syntax.{Mark, mark, Types, MessageType, logical_not, negate, add, subtract, less, equal, logical_and, Expression}
use Rattle.network_syntax.specs.Syntax.{constant, value_at, presence, unary, binary}
use Rattle.check_subtyping.specs.Subtype.{root_basic}
use Rattle.check_typing.specs.Environment.{basic_leaf}
use Rattle.scalar.specs.Operator.{is_number}

-- The ids of a path.
abbrev pub ids_of : Path → List ℕ
ids_of (path i p) = i ∷ p

-- 01's own term: "A path *stands firm* if it is in Γ and all its edges are mandatory." Here for a part of a path; an empty one does.
unfoldable pub Firm : List ℕ → Types → Type 0
Firm [] Γ = Unit {0}
Firm (i ∷ p) Γ = (b : ℕ) × (k : Types) × (find i Γ ≡ present (tree (mark true b) k)) × Firm p k

-- "the path above it": all ids but the last.
unfoldable pub above : List ℕ → List ℕ
above [] = []
above (i ∷ []) = []
above (i ∷ j ∷ p) = i ∷ above (j ∷ p)

-- "the longest part of x in Γ"
abbrev pub if_found : Lookup Mark → (Types → List ℕ) → List ℕ
if_found absent f = []
if_found (present (tree a k)) f = f k

unfoldable pub longest_in : List ℕ → Types → List ℕ
longest_in [] Γ = []
longest_in (i ∷ p) Γ = if_found (find i Γ) (λ k. i ∷ longest_in p k)

-- The path is in Γ, stands firm, and t is the tree there.
abbrev pub FirmAs : Path → Types → MessageType → Type 0
FirmAs x Γ t = (read x Γ ≡ present t) × Firm (ids_of x) Γ

-- The expression e has the type t in Γ.
pub data HasType (Γ : Types) : Expression → MessageType → Type 0 where
  -- a constant has its basic type
  of_constant : (v : Value) → HasType Γ (constant v) (basic_leaf (basic_of v))
  -- "A path expression has the tree there and must stand firm"
  of_path : (x : Path) (t : MessageType) → FirmAs x Γ t → HasType Γ (value_at x) t
  -- "Presence needs a path in Γ and gives bool."
  of_presence : (x : Path) (t : MessageType) → read x Γ ≡ present t → HasType Γ (presence x) (basic_leaf bool)
  -- "Not, and: bool", "as an operand its root value counts"
  of_not : {e : Expression} {t : MessageType} → HasType Γ e t → root_basic t ≡ bool
      → HasType Γ (unary logical_not e) (basic_leaf bool)
  of_and : {a b : Expression} {t u : MessageType} → HasType Γ a t → HasType Γ b u → root_basic t ≡ bool
      → root_basic u ≡ bool
      → HasType Γ (binary logical_and a b) (basic_leaf bool)
  -- "Negate, add, subtract, less: int, long or double, both alike."
  of_negate : {e : Expression} {t : MessageType} → HasType Γ e t → T (is_number (root_basic t))
      → HasType Γ (unary negate e) (basic_leaf (root_basic t))
  of_add : {a b : Expression} {t u : MessageType} → HasType Γ a t → HasType Γ b u → T (is_number (root_basic t))
      → root_basic t ≡ root_basic u
      → HasType Γ (binary add a b) (basic_leaf (root_basic t))
  of_subtract : {a b : Expression} {t u : MessageType} → HasType Γ a t → HasType Γ b u → T (is_number (root_basic t))
      → root_basic t ≡ root_basic u
      → HasType Γ (binary subtract a b) (basic_leaf (root_basic t))
  of_less : {a b : Expression} {t u : MessageType} → HasType Γ a t → HasType Γ b u → T (is_number (root_basic t))
      → root_basic t ≡ root_basic u
      → HasType Γ (binary less a b) (basic_leaf bool)
  -- "Equal: alike, not void"
  of_equal : {a b : Expression} {t u : MessageType} → HasType Γ a t → HasType Γ b u → (root_basic t ≡ void → ⊥)
      → root_basic t ≡ root_basic u
      → HasType Γ (binary equal a b) (basic_leaf bool)
