-- What a text of types means: the ids of its child names, and the type of each declaration.
use Rattle.std.specs.Prelude.{List, [], ◌∷◌, ◌++◌, Bool, true, false, ℕ, ◌+◌}
use Rattle.basics.specs.Choice.{pick}
use Rattle.scalar.specs.Basic.{void}
use Rattle.tree_forest.specs.Forest.{end, Tree, tree, set}
use Rattle.network_syntax.specs.Syntax.{Mark, mark, basic, Types, MessageType}
use Rattle.type_text.specs.Grammar.{same_word, among, Children, no_more, written, named, Declaration, declaration}

-- The child names in the order of the text.
unfoldable pub names_in : Children → List (List ℕ)
names_in no_more = []
names_in (written n m b c d) = n ∷ (names_in c ++ names_in d)
names_in (named n m t d) = n ∷ names_in d

unfoldable pub child_names : List Declaration → List (List ℕ)
child_names [] = []
child_names (declaration n b c ∷ ds) = names_in c ++ child_names ds

-- Those names that are not among `seen`, each where it is used first.
unfoldable pub first_uses : List (List ℕ) → List (List ℕ) → List (List ℕ)
first_uses seen [] = []
first_uses seen (n ∷ l) = pick (among n seen) (first_uses seen l) (n ∷ first_uses (n ∷ seen) l)

-- The names in the order of their ids: "in order of first use".
abbrev pub id_names : List Declaration → List (List ℕ)
id_names ds = first_uses [] (child_names ds)

-- "child names get ids from 1": of a name, by its place among those.
unfoldable pub id_of : List (List ℕ) → List ℕ → ℕ
id_of [] n = 1
id_of (v ∷ l) n = pick (same_word n v) 1 (1 + id_of l n)

-- A type under its name.
pub data NamedType : Type 0 where
  named_type : List ℕ → MessageType → NamedType

-- The type of a name among those declared earlier.
unfoldable pub type_named : List NamedType → List ℕ → MessageType
type_named [] t = tree (mark true void) end
type_named (named_type v u ∷ l) t = pick (same_word t v) u (type_named l t)

-- A type as a child, mandatory or not.
abbrev pub as_child : Bool → MessageType → Tree Mark
as_child m (tree a k) = tree (mark m (basic a)) k

module _ (ids : List (List ℕ)) (known : List NamedType) where
  -- The children put in one after the other; they are "written by rising id", "a named tree copied".
  unfoldable pub forest_from : Types → Children → Types
  forest_from f no_more = f
  forest_from f (written n m b c d) = forest_from (set (id_of ids n) (tree (mark m b) (forest_from end c)) f) d
  forest_from f (named n m t d) = forest_from (set (id_of ids n) (as_child m (type_named known t)) f) d

  -- The type that a declaration's tree is.
  abbrev pub type_from : ℕ → Children → MessageType
  type_from b c = tree (mark true b) (forest_from end c)

-- The types of declarations one after another, those of `known` being declared before them.
unfoldable pub types_from : List (List ℕ) → List NamedType → List Declaration → List MessageType
types_from ids known [] = []
types_from ids known (declaration n b c ∷ ds) =
    type_from ids known b c ∷ types_from ids (named_type n (type_from ids known b c) ∷ known) ds

-- The types that a text declares.
abbrev pub types_of : List Declaration → List MessageType
types_of ds = types_from (id_names ds) [] ds
