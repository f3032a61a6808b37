-- The nodes of an environment in preorder, as the program `check` prints them. 01, Proved cases: "per node in preorder, ..: service row, S
-- or C(lient), path, `!` (mandatory) or `?`, basic type".
use Rattle.std.specs.Prelude.{◌≡◌, List, [], ◌∷◌, ◌++◌, Bool, ℕ, zero, suc, ◌+◌, ◌-◌, ◌≤◌, length, replicate, Option, Some, None}
use Rattle.tree_forest.specs.Forest.{end, node, levels}
use Rattle.network_syntax.specs.Syntax.{mark, Types}
use Rattle.tree.specs.Encode.{root_count}
use Rattle.tree.specs.Standing.{Row}
use Rattle.check_types.specs.Image.{image}
use Rattle.check_environments.specs.declared.Environment.{Environment}
use Rattle.check_environments.specs.declared.Entry.{Entry}
use Rattle.check_environments.specs.Environment.{EnvironmentFor}

-- A node: the ids of its path (at most 6, zeros after them), whether it is mandatory, its basic type.
abbrev pub entry_at : List ℕ → Bool → ℕ → Entry
entry_at path m b =
    record { ids = path ++ replicate (6 - length path) 0; depth = length path; mandatory = m; basic = b }

-- "per node in preorder": a node, its children, its later siblings; `above` is the path of their parent.
unfoldable pub preorder : List ℕ → Types → List Entry
preorder above end = []
preorder above (node i (mark m b) k r) =
    entry_at (above ++ (i ∷ [])) m b ∷ (preorder (above ++ (i ∷ [])) k ++ preorder above r)

-- The node number i of a list, from 0 on, or none past the last.
unfoldable pub node_in : List Entry → ℕ → Option Entry
node_in [] i = None
node_in (x ∷ l) zero = Some x
node_in (x ∷ l) (suc i) = node_in l i

-- x is the i-th node of Γ in preorder, from 0 on.
pub record Lists (e : Environment) (i : ℕ) (x : Option Entry) : Type 0 where
  pub tells : (Γ : Types) → EnvironmentFor e Γ → x ≡ node_in (preorder [] Γ) i

-- x is the i-th node of the n siblings at `at`, whose parent's path the first `depth` ids are.
pub record ListsFrom (s : List ℕ) (at n i : ℕ) (ids : List ℕ) (depth : ℕ) (x : Option Entry) : Type 0 where
  pub tells : (Γ : Types) (above : List ℕ) → Row s at (image Γ) → root_count (image Γ) ≡ n → ids ≡ above ++ replicate (6 - length above) 0
      → depth ≡ length above → depth + levels Γ ≤ 6 → x ≡ node_in (preorder above Γ) i
