-- Which input an output meets. 01, Typing: "An output to a location in the file meets an input there of the same id and kind".
use Rattle.std.specs.Prelude.{ℕ, List, [], ◌∷◌, Bool, true, false, ◌&&◌, ◌||◌, eqb}
use Rattle.basics.specs.Choice.{pick}
use Rattle.network_syntax.specs.Rows.{entry, is_input_operation}
use Rattle.network_syntax.specs.Syntax.{Operation, Optional, none, some, Service, Network}

-- The location of a service; 0, which is no service's location, where there is none.
abbrev pub location_of : Optional Service → ℕ
location_of none = 0
location_of (some v) = v.location

-- Is one of the services at the location? "a location in the file".
unfoldable pub some_at : List Service → ℕ → Bool
some_at [] l = false
some_at (v ∷ vs) l = eqb v.location l || some_at vs l

abbrev pub in_file : Network → ℕ → Bool
in_file n l = some_at n.services l

-- The kind is one-way or two-way.
abbrev pub same_kind : Bool → Bool → Bool
same_kind true true = true
same_kind true false = false
same_kind false true = false
same_kind false false = true

-- Is i, for the output o, "an input there of the same id and kind"?
unfoldable pub meets : Network → Operation → Operation → Bool
meets n o i =
    (is_input_operation i.direction && eqb (location_of (entry i.service n.services)) o.location) &&
    (eqb i.id o.id && same_kind i.two_way o.two_way)

-- The first operation that passes the test.
unfoldable pub first_of : (Operation → Bool) → List Operation → Optional Operation
first_of test [] = none
first_of test (i ∷ is) = pick (test i) (some i) (first_of test is)

-- The input that the output o meets, if there is one.
unfoldable pub met_input : Network → Operation → Optional Operation
met_input n o = first_of (meets n o) n.operations
