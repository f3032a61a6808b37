-- The environments of an accepted file as bytes, for callers in other languages: one record of 18 bytes per node. 01, Proved cases: "per
-- node in preorder, by service, S(tarter) first: service row, S or C(lient), path, `!` (mandatory) or `?`, basic type".
use Rattle.std.specs.Prelude.{List, [], ◌∷◌, ◌++◌, Bool, ℕ, suc, ◌+◌, ◌*◌, ◌/◌, ◌%◌, length, get_or, drop, leb}
use Rattle.tree_forest.specs.Forest.{nodes}
use Rattle.refusal.specs.declared.Refusal.TheVariants.{BufferSize}
use Rattle.refusal.specs.Refusal.{number_of}
use Rattle.basics.specs.Choice.{pick}
use Rattle.network_syntax.specs.Syntax.{Types, Optional, none, some}
use Rattle.check_typing.specs.Result.{Checked, refused, passed}
use Rattle.check_typing.specs.NetworkRules.{Environments}
use Rattle.check_environments.specs.declared.Entry.{Entry}
use Rattle.check_environments.specs.Listing.{preorder}

-- 0 for S, 1 for C.
abbrev pub starter_role : ℕ
starter_role = 0

abbrev pub client_role : ℕ
client_role = 1

-- Six ids, little-endian; 0 after those of the path.
abbrev pub id_bytes : List ℕ → List ℕ
id_bytes ids =
    get_or ids 0 0 % 256 ∷ get_or ids 0 0 / 256 ∷ get_or ids 1 0 % 256 ∷ get_or ids 1 0 / 256
    ∷ get_or ids 2 0 % 256 ∷ get_or ids 2 0 / 256 ∷ get_or ids 3 0 % 256 ∷ get_or ids 3 0 / 256
    ∷ get_or ids 4 0 % 256 ∷ get_or ids 4 0 / 256 ∷ get_or ids 5 0 % 256 ∷ get_or ids 5 0 / 256 ∷ []

-- A node: service row, S or C, 1 for `!` or 0 for `?`, basic type, how many ids its path has, 0, the ids.
abbrev pub node_bytes : ℕ → ℕ → Entry → List ℕ
node_bytes q role x = q ∷ role ∷ pick x.mandatory 1 0 ∷ x.basic ∷ x.depth ∷ 0 ∷ id_bytes x.ids

unfoldable pub nodes_bytes : ℕ → ℕ → List Entry → List ℕ
nodes_bytes q role [] = []
nodes_bytes q role (x ∷ xs) = node_bytes q role x ++ nodes_bytes q role xs

-- An environment, "per node in preorder"; one that may not be there.
abbrev pub types_bytes : ℕ → ℕ → Types → List ℕ
types_bytes q role Γ = nodes_bytes q role (preorder [] Γ)

abbrev pub if_there_bytes : ℕ → ℕ → Optional Types → List ℕ
if_there_bytes q role none = []
if_there_bytes q role (some Γ) = types_bytes q role Γ

-- "by service, S(tarter) first": the services from row q on.
abbrev pub pair_bytes : ℕ → Environments → List ℕ
pair_bytes q E = if_there_bytes q starter_role E.starter ++ if_there_bytes q client_role E.client

unfoldable pub environments_bytes : ℕ → List Environments → List ℕ
environments_bytes q [] = []
environments_bytes q (E ∷ Es) = pair_bytes q E ++ environments_bytes (suc q) Es

-- How many nodes they have in all.
abbrev pub if_there_nodes : Optional Types → ℕ
if_there_nodes none = 0
if_there_nodes (some Γ) = nodes Γ

unfoldable pub environments_nodes : List Environments → ℕ
environments_nodes [] = 0
environments_nodes (E ∷ Es) = if_there_nodes E.starter + if_there_nodes E.client + environments_nodes Es

-- A lent buffer has room for every record.
abbrev pub has_room : List Environments → List ℕ → Bool
has_room Es out = leb (18 * environments_nodes Es) (length out)

-- What is told of a checked file and a lent buffer: the number of the refusal; that of too small a buffer where there is no room; 0.
abbrev pub listed_number : Checked (List Environments) → List ℕ → ℕ
listed_number (refused why) out = number_of why
listed_number (passed Es) out = pick (has_room Es out) 0 (number_of BufferSize)

-- How many nodes there are, also where there is no room for them; a refused file has none.
abbrev pub listed_count : Checked (List Environments) → ℕ
listed_count (refused why) = 0
listed_count (passed Es) = environments_nodes Es

-- What the buffer holds then: with room the records, and its other bytes as they were; otherwise all as they were.
abbrev pub listed_bytes : Checked (List Environments) → List ℕ → List ℕ
listed_bytes (refused why) out = out
listed_bytes (passed Es) out = pick (has_room Es out) (environments_bytes 0 Es ++ drop (18 * environments_nodes Es) out) out
