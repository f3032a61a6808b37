-- How large the tree is that a list of children stands for, by the list alone. `below` says it of a type's name: of what is below its root.
use Rattle.std.specs.Prelude.{List, ℕ, suc, ◌+◌, max}
use Rattle.type_text.specs.Grammar.{Children, no_more, written, named}

-- How many nodes there are in all.
unfoldable pub nodes_in : (List ℕ → ℕ) → Children → ℕ
nodes_in below no_more = 0
nodes_in below (written n m b c d) = suc (nodes_in below c) + nodes_in below d
nodes_in below (named n m t d) = suc (below t) + nodes_in below d

-- How many levels.
unfoldable pub levels_in : (List ℕ → ℕ) → Children → ℕ
levels_in below no_more = 0
levels_in below (written n m b c d) = max (suc (levels_in below c)) (levels_in below d)
levels_in below (named n m t d) = max (suc (below t)) (levels_in below d)

-- How many children the list itself has.
unfoldable pub roots_in : Children → ℕ
roots_in no_more = 0
roots_in (written n m b c d) = suc (roots_in d)
roots_in (named n m t d) = suc (roots_in d)
