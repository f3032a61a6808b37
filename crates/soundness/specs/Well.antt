-- A tree and what is left of a behaviour, typed: what the invariant of property 3 asks of a session in terms of the rules.
use Rattle.std.specs.Prelude.{ℕ}
use Rattle.tree_forest.specs.Forest.{Forest, Rising}
use Rattle.scalar.specs.Value.{Value}
use Rattle.network_syntax.specs.Syntax.{Types, Behaviour}
use Rattle.check_subtyping.specs.Subtype.{Subtypes}
use Rattle.check_subtyping.specs.Own.{own_types}
use Rattle.check_typing.specs.Typed.{Typed}

-- In a session of the service q the tree's own type is ≤ an environment from which what is left leads to the last one.
pub record Well (q : ℕ) (F : Forest Value) (R : Behaviour) (last : Types) : Type 0 where
  pub env : Types
  pub rising : Rising env
  pub fit : Subtypes (own_types F) env
  pub typed : Typed q R env last
