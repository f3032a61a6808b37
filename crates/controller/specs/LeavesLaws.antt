-- What fresh and a move leave in the buffers that they are lent.
use Rattle.std.specs.Prelude.{◌≡◌, Bool, List, ℕ, eqb, length, drop}
use Rattle.std.proofs.Math.Path.{refl}
use Rattle.std.proofs.Math.Bool.{true, false}
use Rattle.std.proofs.Math.Seq.{drop-append_seam}
use Rattle.basics.specs.Choice.{pick}
use Rattle.refusal.specs.declared.Refusal.{Refusal}
use Rattle.refusal.specs.declared.Refusal.TheVariants.{BufferSize, NoState}
use Rattle.refusal.specs.Refusal.{outcome_number}
use Rattle.network_syntax.specs.Syntax.{Optional, none, some}
use Rattle.network.specs.Form.{form_of}
use Rattle.network.specs.Layout.{behaviour_count}
use Rattle.network.specs.Decode.{network_of}
use Rattle.check_typing.specs.Result as result
use Rattle.check_typing.specs.Result.{Checked, passed}
use Rattle.check_typing.specs.NetworkRules.{Environments}
use Rattle.check_files.specs.FileChecker.{check_file}
use Rattle.state.specs.Session.{State}
use Rattle.state.specs.Shape.{decode_state}
use Rattle.move_rules.specs.Moves.{Result, refused, moved, Move, move}
use Rattle.move_rules.specs.Step.{Step, refuse, finish, on_form, on_state, buffers_fit, step}
use Rattle.move_rules.specs.Fresh.{fresh_refused, after_check, fresh}
use Rattle.std.specs.Prelude as std
use Rattle.std.specs.Prelude.{Ok, Err}

module _ (file s : List ℕ) where
  -- A refused fresh leaves the state as it was.
  pub fresh-leaves : (outcome_number (fresh file s).outcome ≡ 0 → ⊥) → (fresh file s).state ≡ s
  unfolding fresh
  fresh-leaves = by (eqb (length s) 65536) (check_file file)
    where
      by : (b : Bool) (c : Checked (List Environments)) → (outcome_number (pick b (after_check file s c) (fresh_refused BufferSize s)).outcome ≡ 0 → ⊥)
          → (pick b (after_check file s c) (fresh_refused BufferSize s)).state ≡ s
      by true (result.refused why) n = refl
      by true (passed Es) n = absurd (n refl)
      by false c n = refl

  module _ (out : List ℕ) (m : Move) (outside : List ℕ) where
    after : Bool → std.Result (Unit {0}) Refusal → Optional State → Step
    after b v y = pick b (on_form v s out (on_state y s out (λ G. finish s out (move (network_of file) G m outside)))) (refuse BufferSize s out)

    -- What holds of every result of a move holds of the step.
    step_by : (P : Step → Type 0) → ((R : Result) → P (finish s out R)) → P (step file s out m outside)
    unfolding step after
    step_by P f = by (buffers_fit s out) (form_of file) (decode_state (network_of file) (behaviour_count file) s)
      where
        by : (b : Bool) (v : std.Result (Unit {0}) Refusal) (y : Optional State) → P (after b v y)
        by true (Ok tt) (some G) = f (move (network_of file) G m outside)
        by true (Ok tt) none = f (refused NoState)
        by true (Err why) y = f (refused why)
        by false v y = f (refused BufferSize)

    -- A refused move leaves state and out buffer as they were.
    pub step-leaves : (outcome_number (step file s out m outside).outcome ≡ 0 → ⊥)
        → ((step file s out m outside).state ≡ s) × ((step file s out m outside).out ≡ out)
    step-leaves = step_by (λ S. (outcome_number S.outcome ≡ 0 → ⊥) → (S.state ≡ s) × (S.out ≡ out)) by
      where
        by : (R : Result) → (outcome_number (finish s out R).outcome ≡ 0 → ⊥) → ((finish s out R).state ≡ s) × ((finish s out R).out ≡ out)
        by (refused why) n = (refl, refl)
        by (moved G bytes) n = absurd (n refl)

    -- "Out bytes past that count stay."
    pub step_stays : drop (step file s out m outside).outcome.bytes (step file s out m outside).out ≡ drop (step file s out m outside).outcome.bytes out
    step_stays = step_by (λ S. drop S.outcome.bytes S.out ≡ drop S.outcome.bytes out) by
      where
        by : (R : Result) → drop (finish s out R).outcome.bytes (finish s out R).out ≡ drop (finish s out R).outcome.bytes out
        by (refused why) = refl
        by (moved G bytes) = drop-append_seam bytes (drop (length bytes) out)
