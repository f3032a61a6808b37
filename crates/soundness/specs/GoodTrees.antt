-- Trees that a state may hold: ids in order, "u16 .. not 0", every value one of its basic type; paths and expressions that keep to that.
use Rattle.std.specs.Prelude.{ℕ, ◌<◌, List, [], ◌∷◌}
use Rattle.tree_forest.specs.Forest.{Forest, Tree, tree, Lookup, absent, present, Rising}
use Rattle.tree_forest.specs.Path.{Path, path}
use Rattle.scalar.specs.Value.{Value}
use Rattle.network_syntax.specs.Syntax.{Expression, constant, value_at, presence, unary, binary}
use Rattle.tree.specs.Encode.{Proper, SoundValues}

abbrev pub GoodForest : Forest Value → Type 0
GoodForest F = Rising F × SoundValues F

abbrev pub GoodTree : Tree Value → Type 0
GoodTree (tree v k) = Proper v × GoodForest k

abbrev pub GoodLookup : Lookup Value → Type 0
GoodLookup absent = Unit {0}
GoodLookup (present t) = GoodTree t

-- 01, P: ids are u16 and not 0.
abbrev pub IsId : ℕ → Type 0
IsId i = (0 < i) × (i < 65536)

unfoldable pub AllIds : List ℕ → Type 0
AllIds [] = Unit {0}
AllIds (i ∷ l) = IsId i × AllIds l

abbrev pub GoodPath : Path → Type 0
GoodPath (path i l) = IsId i × AllIds l

-- Every constant of the expression is a value of its basic type.
unfoldable pub GoodExpression : Expression → Type 0
GoodExpression (constant v) = Proper v
GoodExpression (value_at x) = Unit {0}
GoodExpression (presence x) = Unit {0}
GoodExpression (unary o e) = GoodExpression e
GoodExpression (binary o a b) = GoodExpression a × GoodExpression b
