-- Environments: which paths are there and which stand firm, placing and assigning. 01, Typing, second and third paragraph.
-- "An environment Γ is a tree under an empty root": Γ is the list of trees under that root, which is not written.
use Rattle.std.specs.Prelude.{List, [], ◌∷◌, Bool, true, false, not, ◌&&◌, ◌||◌, ℕ, eqb, leb}
use Rattle.tree_forest.specs.Limits.{session_nodes, session_levels}
use Rattle.tree_forest.specs.Forest.{is_present}
use Rattle.tree_forest.specs.Forest.{Forest, end, node, tree, Lookup, absent, present, find, nodes, levels}
use Rattle.tree_forest.specs.Path.{Path, path, read_steps, read, replace_at}
use Rattle.refusal.specs.declared.Refusal.TheVariants.{PathNotFirm, TypeMisfit}
use Rattle.scalar.specs.Basic.{void}
use Rattle.network_syntax.specs.Syntax.{Mark, mark, Types, MessageType}
use Rattle.check_subtyping.specs.Subtype.{is_subtype}
use Rattle.check_typing.specs.Result.{Attempt, fails, yields, demand}

-- "Γ, that union too, has at most 48 nodes and 6 levels below its empty root."
abbrev pub within : {A : Type 0} → Forest A → Bool
within Γ = leb (nodes Γ) session_nodes && leb (levels Γ) session_levels

-- Is the path in Γ?
abbrev pub is_in : Path → Types → Bool
is_in x Γ = is_present (read x Γ)

-- 01's own term: "A path *stands firm* if it is in Γ and all its edges are mandatory." Here for the steps below what was
-- found at the path's first id.
unfoldable pub firm_steps : List ℕ → Lookup Mark → Bool
firm_steps [] absent = false
firm_steps [] (present (tree (mark m b) k)) = m
firm_steps (j ∷ p) absent = false
firm_steps (j ∷ p) (present (tree (mark m b) k)) = m && firm_steps p (find j k)

abbrev pub stands_firm : Path → Types → Bool
stands_firm (path i p) Γ = firm_steps p (find i Γ)

-- The type found, or 7.
abbrev pub the_type : Lookup Mark → Attempt MessageType
the_type absent = fails PathNotFirm
the_type (present t) = yields t

-- "A path expression has the tree there and must stand firm"; 7: "A path is missing or doesn't stand firm where needed."
abbrev pub read_firm : Path → Types → Attempt MessageType
read_firm x Γ = demand (stands_firm x Γ) PathNotFirm (the_type (read x Γ))

-- Every edge above the path's end is mandatory, as far as the path is in Γ. For a path in Γ: "the path above it stands firm".
-- For another: "the longest part of x in Γ stands firm"; an empty part does.
unfoldable pub firm_above_steps : List ℕ → Lookup Mark → Bool
firm_above_steps [] l = true
firm_above_steps (j ∷ p) absent = true
firm_above_steps (j ∷ p) (present (tree (mark m b) k)) = m && firm_above_steps p (find j k)

abbrev pub firm_above : Path → Types → Bool
firm_above (path i p) Γ = firm_above_steps p (find i Γ)

-- "missing steps become mandatory void nodes"
abbrev pub missing_step : Mark
missing_step = mark true void

-- "T goes in as mandatory"
abbrev pub as_mandatory : MessageType → MessageType
as_mandatory (tree (mark m b) k) = tree (mark true b) k

-- A basic type alone, mandatory.
abbrev pub basic_leaf : ℕ → MessageType
basic_leaf b = tree (mark true b) end

-- "has no mandatory child"
unfoldable pub no_mandatory : Types → Bool
no_mandatory end = true
no_mandatory (node i (mark m b) k r) = not m && no_mandatory r

-- Placing T at x, by what stands at x: "if x is in Γ .. T ≤ the type there, Γ stays. Otherwise .. missing steps become
-- mandatory void nodes, and T goes in as mandatory."
abbrev pub place_at : Path → MessageType → Types → Lookup Mark → Attempt Types
place_at x t Γ (present u) = demand (is_subtype t u) TypeMisfit (yields Γ)
place_at x t Γ absent = yields (replace_at missing_step x (as_mandatory t) Γ)

abbrev pub place : Path → MessageType → Types → Attempt Types
place x t Γ = demand (firm_above x Γ) PathNotFirm (place_at x t Γ (read x Γ))

-- "Assigning e places only e's basic type: for an x in Γ, the path above stands firm, the basic types are equal, and x is
-- mandatory or has no mandatory child (else 7)."
abbrev pub assign_at : Path → ℕ → Types → Lookup Mark → Attempt Types
assign_at x b Γ (present (tree (mark m c) k)) =
    demand (eqb b c) TypeMisfit (demand (m || no_mandatory k) PathNotFirm (yields Γ))
assign_at x b Γ absent = yields (replace_at missing_step x (basic_leaf b) Γ)

abbrev pub assign_to : Path → ℕ → Types → Attempt Types
assign_to x b Γ = demand (firm_above x Γ) PathNotFirm (assign_at x b Γ (read x Γ))
