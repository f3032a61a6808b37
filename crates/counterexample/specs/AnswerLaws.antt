-- What a refusal leaves, and what stays past the message.
use Rattle.std.specs.Prelude.{◌≡◌, refl, List, Bool, true, false, ℕ, length, drop, ltb}
use Rattle.std.proofs.Math.Seq.{drop-append_seam}
use Rattle.basics.specs.Choice.{pick}
use Rattle.refusal.specs.declared.Refusal.{Refusal}
use Rattle.refusal.specs.declared.Refusal.TheVariants.{BufferSize, MoveNotAllowed}
use Rattle.refusal.specs.Refusal.{outcome_number}
use Rattle.network.specs.Form.{form_of}
use Rattle.network.specs.Decode.{type_of}
use Rattle.state.specs.Places.{out_room}
use Rattle.counterexample_rules.specs.Breaking.{breaking}
use Rattle.counterexample.specs.Answer.{BreakingAnswer, breaking_refused, shown_bytes, breaking_shown, once_formed, are_type_rows, counterexample}
use Rattle.std.specs.Prelude.{Result, Ok, Err}

-- A refusal leaves the buffer, and what is past the count stays.
record Leaves (out : List ℕ) (A : BreakingAnswer) : Type 0 where
  leaves : (outcome_number A.outcome ≡ 0 → ⊥) → A.out ≡ out
  stays : drop A.outcome.bytes A.out ≡ drop A.outcome.bytes out

either-leaves : (out : List ℕ) (t : Bool) (x y : BreakingAnswer) → Leaves out x → Leaves out y → Leaves out (pick t x y)
either-leaves out true x y a b = a
either-leaves out false x y a b = b

form-leaves : (out : List ℕ) (v : Result (Unit {0}) Refusal) (x : BreakingAnswer) → Leaves out x → Leaves out (once_formed v out x)
form-leaves out (Ok tt) x a = a
form-leaves out (Err why) x a = record { leaves = λ h. refl; stays = refl }

answer-leaves : (file : List ℕ) (first second : ℕ) (out : List ℕ) → Leaves out (counterexample file first second out)
unfolding counterexample
answer-leaves file first second out =
    let bytes = shown_bytes (breaking (type_of file first) (type_of file second)) in
    let rows = pick (are_type_rows file first second) (breaking_shown bytes out) (breaking_refused MoveNotAllowed out) in
    either-leaves out (ltb (length out) out_room) (breaking_refused BufferSize out) (once_formed (form_of file) out rows)
    (record { leaves = λ h. refl; stays = refl })
    (form-leaves out (form_of file) rows
    (either-leaves out (are_type_rows file first second) (breaking_shown bytes out) (breaking_refused MoveNotAllowed out)
    (record { leaves = λ h. absurd (h refl); stays = drop-append_seam bytes (drop (length bytes) out) })
    (record { leaves = λ h. refl; stays = refl })))

pub breaking-leaves : (file : List ℕ) (first second : ℕ) (out : List ℕ) → (outcome_number (counterexample file first second out).outcome ≡ 0 → ⊥)
    → (counterexample file first second out).out ≡ out
breaking-leaves file first second out = (answer-leaves file first second out).leaves

pub breaking-stays : (file : List ℕ) (first second : ℕ) (out : List ℕ)
    → drop (counterexample file first second out).outcome.bytes (counterexample file first second out).out
    ≡ drop (counterexample file first second out).outcome.bytes out
breaking-stays file first second out = (answer-leaves file first second out).stays
