-- The place of a 23. 02: "A keyed service with an unfit input is 23, place the number of the lowest such input's O row, tried after 13".
use Rattle.std.specs.Prelude.{◌≡◌, List, ℕ, ◌<◌}
use Rattle.std.proofs.Common.{subst}
use Rattle.refusal.specs.declared.Refusal.TheVariants.{UnfitKey}
use Rattle.network_syntax.specs.Syntax.{Operation, some}
use Rattle.network_syntax.specs.Rows.{entry}
use Rattle.network.specs.Form.{WellFormed}
use Rattle.network.specs.Decode.{network_of}
use Rattle.network.proofs.NetworkLaws.{operation-fields}
use Rattle.check_typing.specs.Result.{refused}
use Rattle.check_typing.specs.NetworkRules.{Environments, DerivesServices, OutputsMeet, UnfitInput}
use Rattle.check_typing.specs.NetworkChecker.{check_network}
use Rattle.check_typing.proofs.NetworkLaws.{unfit-refused}
use Rattle.check_files.specs.FileChecker.{check_file}
use Rattle.check_files.specs.FileCheckerLaws.{file-sorted}

-- Where none of 2 to 13 refuses, the lowest O row with an unfit input is the place.
pub lowest-unfit : (s : List ℕ) (Es : List Environments) → WellFormed s → DerivesServices 0 (network_of s).services Es
    → OutputsMeet (network_of s) (network_of s).operations → (r : ℕ) (o : Operation) → entry r (network_of s).operations ≡ some o
    → UnfitInput (network_of s) o → ((q : ℕ) (i : Operation) → q < r → entry q (network_of s).operations ≡ some i → UnfitInput (network_of s) i → ⊥)
    → check_file s ≡ refused (UnfitKey r)
unfolding check_file
lowest-unfit s Es w ds os r o e u first =
    rw w (subst (λ (q : ℕ). check_network (network_of s) ≡ refused (UnfitKey q)) (operation-fields s r o e).row
    (unfit-refused (network_of s) Es (file-sorted s w) ds os r o e u first))
