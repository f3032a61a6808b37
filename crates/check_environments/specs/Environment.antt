-- Environments in bytes, by value, and what a step of the checker answers. 01, Typing: "An environment Γ is a tree under an empty root";
-- "Γ, that union too, has at most 48 nodes and 6 levels below its empty root."
use Rattle.std.specs.Prelude.{◌≡◌, List, ◌++◌, ℕ, ◌-◌, ◌≤◌, length, replicate}
use Rattle.tree_forest.specs.Forest.{end, Tree, tree, Rising, nodes, levels}
use Rattle.scalar.specs.Value.{Value}
use Rattle.network_syntax.specs.Syntax.{Types}
use Rattle.check_typing.specs.Result.{Checked, refused, passed}
use Rattle.tree.specs.Encode.{encode, rooted, empty}
use Rattle.check_types.specs.Image.{image, InRange}
use Rattle.check_environments.specs.declared.Environment.{Environment}
use Rattle.std.specs.Prelude.{Result, Ok, Err}
use Rattle.refusal.specs.declared.Refusal.{Refusal}

-- Γ as a tree of values under an empty root.
abbrev pub tree_of : Types → Tree Value
tree_of Γ = tree empty (image Γ)

-- The bytes of Γ.
unfoldable pub bytes_for : Types → List ℕ
bytes_for Γ = encode (rooted (tree_of Γ))

-- The value that stands for Γ: its bytes, and zeros after them. (At most 5 + 48 * 7 = 341 of the 512 bytes are used.)
unfoldable pub standing : Types → Environment
standing Γ = record { bytes = bytes_for Γ ++ replicate (512 - length (bytes_for Γ)) 0; len = length (bytes_for Γ) }

-- What every environment of the checker keeps to.
pub record Shape (Γ : Types) : Type 0 where
  pub few : nodes Γ ≤ 48
  pub shallow : levels Γ ≤ 6
  pub rising : Rising Γ
  pub ranged : InRange Γ

-- The value e stands for Γ.
pub record EnvironmentFor (e : Environment) (Γ : Types) : Type 0 where
  pub is : e ≡ standing Γ
  pub shape : Shape Γ

-- What a step answers: the environment and that it is done, or the refusal (with the empty environment).
unfoldable pub step_of : Checked Types → Result Environment Refusal
step_of (passed Γ) = Ok (standing Γ)
step_of (refused why) = Err why

abbrev pub ShapeIn : Checked Types → Type 0
ShapeIn (passed Γ) = Shape Γ
ShapeIn (refused why) = Unit {0}

-- s is what the checker's step c answers.
pub record StepAnswers (s : Result Environment Refusal) (c : Checked Types) : Type 0 where
  pub is : s ≡ step_of c
  pub shape : ShapeIn c
