-- What the functions that write the records say, for every environment that stands in the bytes.
use Rattle.std.specs.Prelude.{◌≡◌, List, [], ℕ, ◌+◌, ◌-◌, ◌*◌, ◌/◌, ◌≤◌, drop, ltb}
use Rattle.tree_forest.specs.Forest.{nodes}
use Rattle.basics.specs.Choice.{pick}
use Rattle.network_syntax.specs.Syntax.{Types}
use Rattle.tree_edit.specs.Wrote.{Wrote}
use Rattle.check_typing.specs.NetworkRules.{Environments}
use Rattle.check_environments.specs.declared.Environment.{Environment}
use Rattle.check_environments.specs.Environment.{EnvironmentFor}
use Rattle.check_environments.specs.Listing.{preorder}
use Rattle.check_network.specs.declared.Pair.{Pair}
use Rattle.check_network.specs.declared.Answer.{Answer}
use Rattle.check_network.specs.Answer.{pair_of, ShapedPair}
use Rattle.check_listing.specs.Listed.{nodes_bytes, pair_bytes}

-- The nodes that an environment's length tells: a node has 7 bytes, the root 5.
abbrev pub nodes_by : Environment → ℕ
nodes_by e = pick (ltb 512 e.len) 0 ((e.len - 5) / 7)

abbrev pub pair_nodes_by : Pair → ℕ
pair_nodes_by p = nodes_by p.starter + nodes_by p.client

abbrev pub answer_nodes_by : Answer → ℕ
answer_nodes_by x = pair_nodes_by x.first + (pair_nodes_by x.second + (pair_nodes_by x.third + pair_nodes_by x.fourth))

-- The n nodes of e from the i-th on are written from w to r.
pub record NodesWritten (e : Environment) (q role i n : ℕ) (o o' : List ℕ) (w r : ℕ) : Type 0 where
  pub near : r ≤ w + 18 * n
  pub tells : (Γ : Types) → EnvironmentFor e Γ → i + n ≡ nodes Γ → Wrote o o' w r (18 * n) (nodes_bytes q role (drop i (preorder [] Γ)))

pub record EnvironmentWritten (e : Environment) (q role : ℕ) (o o' : List ℕ) (w r : ℕ) : Type 0 where
  pub near : r ≤ w + 18 * nodes_by e
  pub tells : (Γ : Types) → EnvironmentFor e Γ → Wrote o o' w r (18 * nodes_by e) (nodes_bytes q role (preorder [] Γ))

pub record PairWritten (p : Pair) (q : ℕ) (o o' : List ℕ) (w r : ℕ) : Type 0 where
  pub near : r ≤ w + 18 * pair_nodes_by p
  pub tells : (E : Environments) → p ≡ pair_of E → ShapedPair E → Wrote o o' w r (18 * pair_nodes_by p) (pair_bytes q E)
