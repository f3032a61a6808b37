-- What the functions below the surface tell: where a path leads in the bytes of an environment, and a type put at a path.
use Rattle.std.specs.Prelude.{◌≡◌, List, [], ◌∷◌, Bool, true, false, ℕ, ◌+◌, ◌-◌, ◌<◌, ◌≤◌, length, get_or, take, drop}
use Rattle.tree_forest.specs.Forest.{Forest, end, Tree, node_of, RisingTree, absent, present, find, set, nodes, levels, map_tree}
use Rattle.tree_forest.specs.Path.{Path, path, read, replace_at}
use Rattle.scalar.specs.Basic.{last_basic}
use Rattle.scalar.specs.Value.{Value}
use Rattle.network_syntax.specs.Syntax.{Types, MessageType}
use Rattle.check_subtyping.specs.Subtype.{root_basic, root_children}
use Rattle.check_typing.specs.Result.{yields, with_row}
use Rattle.check_typing.specs.Environment.{firm_above, missing_step, as_mandatory, basic_leaf, no_mandatory, assign_at}
use Rattle.check_typing.specs.Checker.{limited}
use Rattle.check_typing.specs.NetworkRules.{union}
use Rattle.check_typing.specs.NetworkChecker.{one_type_at, one_type}
use Rattle.network.specs.Form.{WellFormed}
use Rattle.network.specs.Layout.{path_count, type_count}
use Rattle.network.specs.Decode as network
use Rattle.tree.specs.Encode.{root_count, encode, rooted}
use Rattle.tree.specs.Ids.{path_from_ids, Words}
use Rattle.tree.specs.Standing.{Row, Root}
use Rattle.check_types.specs.Image.{mark_value, image, InRange, types_as, type_as}
use Rattle.check_environments.specs.declared.Environment.{Environment}
use Rattle.check_environments.specs.declared.Reach.{Reach}
use Rattle.check_environments.specs.declared.Reach.TheVariants.{Here, Gap, Loose}
use Rattle.check_environments.specs.Environment.{tree_of, bytes_for, Shape, EnvironmentFor, StepAnswers}
use Rattle.std.specs.Prelude.{Result, Ok, Err}
use Rattle.refusal.specs.declared.Refusal.{Refusal}

-- What stands at the path x in Γ stands at p, and the path above it stands firm.
pub record SeenAt (s : List ℕ) (p : ℕ) (x : Path) (Γ : Types) : Type 0 where
  pub id : ℕ
  pub held : Tree Value
  pub root : Root s p id held
  pub there : read x Γ ≡ present (type_as false held)
  pub firm : firm_above x Γ ≡ true

-- Nothing stands at the path, and the longest part of it stands firm.
pub record Missing (x : Path) (Γ : Types) : Type 0 where
  pub none : read x Γ ≡ absent
  pub firm : firm_above x Γ ≡ true

abbrev pub Sees : List ℕ → Reach → Path → Types → Type 0
Sees s (Here p) x Γ = SeenAt s p x Γ
Sees s Gap x Γ = Missing x Γ
Sees s Loose x Γ = firm_above x Γ ≡ false

-- r says where the path i, is leads from the n siblings at `at` on.
pub record Looked (s : List ℕ) (i : ℕ) (is : List ℕ) (at n : ℕ) (r : Reach) : Type 0 where
  pub looks : (v : Forest Value) → Row s at v → root_count v ≡ n → Sees s r (path i is) (types_as false v)

-- r says where the path of P row p leads in the environment at the start of s.
pub record WalkReached (file s : List ℕ) (p : ℕ) (r : Reach) : Type 0 where
  pub tells : (Γ : Types) → Root s 0 0 (tree_of Γ) → Sees s r (network.path_of file p) Γ

-- x tells whether none of the n types at `at` is mandatory.
pub record NoneMandatory (s : List ℕ) (at n : ℕ) (x : Bool) : Type 0 where
  pub tells : (v : Forest Value) → Row s at v → root_count v ≡ n → x ≡ no_mandatory (types_as false v)

-- s is what assigning the basic type b answers where a type stands at `at`.
pub record AssignsAt (e : Environment) (at b row : ℕ) (s : Result Environment Refusal) : Type 0 where
  pub tells : (Γ : Types) (x : Path) (i : ℕ) (held : Tree Value) → EnvironmentFor e Γ → Root e.bytes at i held →
      StepAnswers s (with_row row (limited (assign_at x b Γ (present (type_as false held)))))

-- A type that may be put in an environment.
pub record Placeable (t : MessageType) : Type 0 where
  pub basic : root_basic t ≤ last_basic
  pub rising : RisingTree t
  pub ranged : InRange (root_children t)
  pub shallow : levels (root_children t) ≤ 6
  pub few : nodes (root_children t) ≤ 47

-- s is what putting the type whose bytes m are at a path of Γ, whose bytes g are, answers: 12 or the environment.
pub record PutsType (g ids m : List ℕ) (row : ℕ) (s : Result Environment Refusal) : Type 0 where
  pub tells : (Γ : Types) (t : MessageType) → g ≡ bytes_for Γ → Shape Γ → Words ids → 0 < get_or ids 0 0 →
      m ≡ encode (rooted (map_tree mark_value t)) → Placeable t →
      StepAnswers s (with_row row (limited (yields (replace_at missing_step (path_from_ids ids) t Γ))))

-- The same with the environment by value.
pub record Grows (e : Environment) (ids m : List ℕ) (row : ℕ) (s : Result Environment Refusal) : Type 0 where
  pub tells : (Γ : Types) (t : MessageType) → EnvironmentFor e Γ → 0 < get_or ids 0 0 → m ≡ encode (rooted (map_tree mark_value t)) → Placeable t →
      StepAnswers s (with_row row (limited (yields (replace_at missing_step (path_from_ids ids) t Γ))))

-- s is what putting the type of T row r, or the basic type b alone, at the path of P row p answers.
pub record GrowsRow (file : List ℕ) (e : Environment) (p r row : ℕ) (s : Result Environment Refusal) : Type 0 where
  pub tells : (Γ : Types) → EnvironmentFor e Γ → WellFormed file → p < path_count file → r < type_count file →
      StepAnswers s (with_row row (limited (yields (replace_at missing_step (network.path_of file p) (as_mandatory (network.type_of file r)) Γ))))

pub record GrowsLeaf (file : List ℕ) (e : Environment) (p b row : ℕ) (s : Result Environment Refusal) : Type 0 where
  pub tells : (Γ : Types) → EnvironmentFor e Γ → WellFormed file → p < path_count file → b ≤ last_basic →
      StepAnswers s (with_row row (limited (yields (replace_at missing_step (network.path_of file p) (basic_leaf b) Γ))))

-- x tells whether two lists are equal.
pub record SameLists (a b : List ℕ) (x : Bool) : Type 0 where
  pub yes : x ≡ true → a ≡ b
  pub no : x ≡ false → a ≡ b → ⊥

-- x tells whether the bytes from `at` to e and from p to q are equal.
pub record SameParts (s : List ℕ) (at e : ℕ) (d : List ℕ) (p q : ℕ) (x : Bool) : Type 0 where
  pub tells : at ≤ e → e ≤ length s → p ≤ q → q ≤ length d → SameLists (take (e - at) (drop at s)) (take (q - p) (drop p d)) x

-- x tells whether the root i, whose type stands from `at` to e, has one type with what Δ binds there.
pub record RootSame (s : List ℕ) (at e i : ℕ) (d : List ℕ) (x : Bool) : Type 0 where
  pub tells : (t : MessageType) (Δ : Types) → Root s at i (map_tree mark_value t) → e ≡ at + length (encode (node_of i (map_tree mark_value t) end)) →
      Root d 0 0 (tree_of Δ) → x ≡ one_type_at t (find i Δ)

-- x tells whether the n roots at `at` have one type each with what Δ binds there.
pub record OneFrom (s : List ℕ) (at n : ℕ) (d : List ℕ) (x : Bool) : Type 0 where
  pub tells : (Γ Δ : Types) → Row s at (image Γ) → root_count (image Γ) ≡ n → Root d 0 0 (tree_of Δ) → x ≡ one_type Γ Δ

-- s is the environment with the type that stands from `at` to e put at the root i, or 12.
pub record PutsRoot (b : List ℕ) (at e i : ℕ) (f : Environment) (row : ℕ) (s : Result Environment Refusal) : Type 0 where
  pub tells : (Δ : Types) (t : MessageType) → EnvironmentFor f Δ → Root b at i (map_tree mark_value t) →
      e ≡ at + length (encode (node_of i (map_tree mark_value t) end)) → 0 < i → Placeable t → StepAnswers s (with_row row (limited (yields (set i t Δ))))

-- s is the union of the n roots at `at` with Δ, or 12.
pub record UnitesFrom (b : List ℕ) (at n : ℕ) (d : Environment) (row : ℕ) (s : Result Environment Refusal) : Type 0 where
  pub tells : (Γ Δ : Types) → Row b at (image Γ) → root_count (image Γ) ≡ n → Shape Γ → EnvironmentFor d Δ → one_type Γ Δ ≡ true →
      StepAnswers s (with_row row (limited (yields (union Γ Δ))))
