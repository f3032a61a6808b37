-- Branches one after another, in the order in which a loop meets them: what is known after some branches of a choice or of a
-- starter. BranchesLaws ties these to the checker.
use Rattle.std.specs.Prelude.{List, [], ◌∷◌, Bool, ◌&&◌, ℕ}
use Rattle.refusal.specs.declared.Refusal.TheVariants.{EnvironmentsDiffer}
use Rattle.network_syntax.specs.Syntax.{Types}
use Rattle.check_typing.specs.Result.{yields, demand, Checked, refused, passed, with_row}
use Rattle.check_typing.specs.Checker.{same_types}
use Rattle.check_typing.specs.NetworkRules.{union}
use Rattle.check_typing.specs.NetworkChecker.{one_type}

-- In the choice of row c: the first branch gave Γ, all so far gave the same or not; what the other branches give concludes it.
abbrev pub conclude_choice : ℕ → Types → Bool → Checked Types → Checked Types
conclude_choice c Γ same (refused why) = refused why
conclude_choice c Γ same (passed Δ) = with_row c (demand (same && same_types Δ Γ) EnvironmentsDiffer (yields Γ))

-- In a starter: the union so far is Γ; the environments of the other branches join it one after another.
unfoldable pub union_from : Types → List Types → Types
union_from Γ [] = Γ
union_from Γ (Δ ∷ Δs) = union_from (union Δ Γ) Δs

-- Whether each root has had one type so far.
unfoldable pub one_type_from : Bool → Types → List Types → Bool
one_type_from one Γ [] = one
one_type_from one Γ (Δ ∷ Δs) = one_type_from (one && one_type Δ Γ) (union Δ Γ) Δs
