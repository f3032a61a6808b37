-- What the stepper's code promises, as its laws have it.
use Rattle.std.specs.Prelude.{◌≡◌, List, ℕ}
use Rattle.refusal.specs.declared.Outcome.{Outcome}
use Rattle.move_rules.specs.Moves.{Move}
use Rattle.move_rules.specs.Step.{step}

-- An outcome and the final bytes of state and out buffer are those of the definition.
abbrev pub Stepped : List ℕ → List ℕ → List ℕ → Move → List ℕ → Outcome → List ℕ → List ℕ → Type 0
Stepped file s out m outside o s' out' =
    (o ≡ (step file s out m outside).outcome) × (s' ≡ (step file s out m outside).state) × (out' ≡ (step file s out m outside).out)
