-- A refusal that typing an expression found for a B row is the row's, whatever would follow.
use Rattle.std.specs.Prelude.{◌≡◌, ℕ}
use Rattle.std.proofs.Common.{sym}
use Rattle.refusal.specs.declared.Refusal.{Refusal}
use Rattle.check_typing.specs.Result.{Attempt, fails, yields, refused, and_then, with_row}
use Rattle.check_typing.proofs.ResultLaws.{not-passed}

pub refused-first : {A B : Type 0} (row : ℕ) (r : Attempt A) (f : A → Attempt B) {why : Refusal} → with_row row r ≡ refused why
    → with_row row (and_then r f) ≡ refused why
refused-first row (fails kind) f h = cc
refused-first row (yields a) f h = absurd (not-passed (sym h))
