-- The checker of a network: 01's refusals 6 to 13, and 23. "Services go by row, starter first, outputs last." Numbers 6 to 12 are
-- placed at a B row, 13 at the output's O row, 23 at the input's. The environments of each service, or number and place of the first refusal.
use Rattle.std.specs.Prelude.{List, [], ◌∷◌, Bool, true, false, ◌&&◌, ℕ, suc, eqb}
use Rattle.tree_forest.specs.Forest.{end, node, tree, Lookup, absent, present, find}
use Rattle.refusal.specs.declared.Refusal.TheVariants.{EnvironmentsDiffer, OutputMismatch, UnfitKey}
use Rattle.network_syntax.specs.Syntax.{Mark, mark, Types, MessageType, input, output, Operation, Behaviour, Optional, none, some, Service, Network}
use Rattle.network_syntax.specs.Rows.{row_of}
use Rattle.network_syntax.specs.Meets.{in_file, met_input}
use Rattle.network_syntax.specs.Keys.{key_id, is_keyed}
use Rattle.scalar.specs.Basic.{int}
use Rattle.check_subtyping.specs.Subtype.{implies, is_subtype}
use Rattle.check_typing.specs.Result.{Attempt, yields, demand, Checked, passed, with_row, next}
use Rattle.check_typing.specs.Environment.{within}
use Rattle.check_typing.specs.Rules.{same_bool, same_direction}
use Rattle.check_typing.specs.Checker.{same_types, limited, check}
use Rattle.check_typing.specs.NetworkRules.{branches_of, union_of, Environments}

-- Each behaviour from the empty environment, one after the other.
unfoldable pub check_each : ℕ → List Behaviour → Checked (List Types)
check_each q [] = passed []
check_each q (B ∷ Bs) = next (check q B end) (λ Γ. next (check_each q Bs) (λ Γs. passed (Γ ∷ Γs)))

-- A root t, where the other environment binds it: the same tree.
abbrev pub same_tree : MessageType → MessageType → Bool
same_tree (tree (mark m b) k) (tree (mark n c) l) = same_bool m n && (eqb b c && same_types k l)

abbrev pub one_type_at : MessageType → Lookup Mark → Bool
one_type_at t absent = true
one_type_at t (present u) = same_tree t u

-- "a root bound by two branches has one type"
unfoldable pub one_type : Types → Types → Bool
one_type end Δ = true
one_type (node i a k r) Δ = one_type_at (tree a k) (find i Δ) && one_type r Δ

unfoldable pub one_type_with : Types → List Types → Bool
one_type_with Γ [] = true
one_type_with Γ (Δ ∷ Δs) = one_type Γ Δ && one_type_with Γ Δs

unfoldable pub one_type_each : List Types → Bool
one_type_each [] = true
one_type_each (Γ ∷ Γs) = one_type_with Γ Γs && one_type_each Γs

-- A starter: its branches, then 10 and then 12 at the starter's own row, a choice's.
abbrev pub check_starter : ℕ → Behaviour → Checked Types
check_starter q B =
    next (check_each q (branches_of B))
    (λ Γs. with_row (row_of B) (demand (one_type_each Γs) EnvironmentsDiffer (limited (yields (union_of Γs)))))

-- A client. (A client's choice is an ordinary one.)
abbrev pub check_client : ℕ → Behaviour → Checked Types
check_client q B = check q B end

abbrev pub if_there : (Behaviour → Checked Types) → Optional Behaviour → Checked (Optional Types)
if_there f none = passed none
if_there f (some B) = next (f B) (λ Γ. passed (some Γ))

-- "Services go by row, starter first"
unfoldable pub check_services : ℕ → List Service → Checked (List Environments)
check_services q [] = passed []
check_services q (s ∷ ss) =
    next (if_there (check_starter q) s.starter)
    (λ Γ. next (if_there (check_client q) s.client)
    (λ Δ. next (check_services (suc q) ss) (λ Es. passed (record { starter = Γ; client = Δ } ∷ Es))))

-- Does the output o agree with the input i?
abbrev pub agrees : Operation → Operation → Bool
agrees o i = is_subtype o.request i.request && implies o.two_way (is_subtype i.reply o.reply)

abbrev pub agrees_with : Operation → Optional Operation → Bool
agrees_with o none = false
agrees_with o (some i) = agrees o i

-- Does the operation, if it is an output to a location in the file, meet an input there and agree with it?
abbrev pub output_meets : Network → Operation → Bool
output_meets N o =
    implies (same_direction o.direction output) (implies (in_file N o.location) (agrees_with o (met_input N o)))

-- The outputs of l in order. 13: "An output and its input disagree (place: the output's O row)."
unfoldable pub check_outputs : Network → List Operation → Checked (Unit {0})
check_outputs N [] = passed (tt {0})
check_outputs N (o ∷ l) =
    next (with_row o.row (demand (output_meets N o) OutputMismatch (yields (tt {0})))) (λ u. check_outputs N l)

-- Is the child a mandatory int?
abbrev pub is_mandatory_int : Lookup Mark → Bool
is_mandatory_int absent = false
is_mandatory_int (present (tree (mark m b) k)) = m && eqb b int

abbrev pub has_key : ℕ → MessageType → Bool
has_key k (tree a l) = is_mandatory_int (find k l)

-- Does the operation, if it is an input of a keyed service, have the key in its request type?
abbrev pub input_keyed : Network → Operation → Bool
input_keyed N o =
    implies (same_direction o.direction input)
    (implies (is_keyed N o.service) (has_key (key_id N o.service) o.request))

-- The inputs of l in order. 23: "A keyed service with an unfit input is 23, place the number of the lowest such input's O row".
unfoldable pub check_keys : Network → List Operation → Checked (Unit {0})
check_keys N [] = passed (tt {0})
check_keys N (o ∷ l) =
    next (with_row o.row (demand (input_keyed N o) UnfitKey (yields (tt {0})))) (λ u. check_keys N l)

-- The whole checker after refusals 2 to 5.
unfoldable pub check_network : Network → Checked (List Environments)
check_network N =
    next (check_services 0 N.services)  -- 6 to 12
    (λ Es. next (check_outputs N N.operations)  -- 13
    (λ u. next (check_keys N N.operations)  -- 23: "tried after 13"
    (λ v. passed Es)))
