-- A call of the stepper: its reply number is a u32, and what it keeps of property 3.
use mathlib.Core.Path.{◌≡◌, sym, subst}
use mathlib.Core.List.{List, [], ◌∷◌}
use Prim.Native.Nat.{ℕ, ◌<◌}
use types.Run.{OneOf, miss}
use denote.Enum.Declared.{tag_of}
use Rattle.refusal.specs.declared.Outcome.{Outcome}
use Rattle.refusal.specs.Refusal.{outcome_number}
use Rattle.tree.specs.Encode.{Octets}
use Rattle.move_rules.specs.Step.{Step, step}
use Rattle.move_step.specs.contracts.Move as moves
use Rattle.move_step.specs.declared.Move.{Move}
use Rattle.move_step.specs.Moves.{move_of}
use Rattle.soundness.specs.Property3.{NumberFits, Turn}
use Rattle.soundness.specs.Calls.{SoundCall}
use Rattle.soundness.proofs.CallsLaws.{call-sound}

-- Moves without a reply number.
abbrev others : List ℕ
others = 0 ∷ 1 ∷ 2 ∷ 3 ∷ 5 ∷ 6 ∷ []

pub outside-fits : {m : Move} {q id n k : ℕ} → m ≡ Move.OuterMessage q id n k → k < 0x100000000 → NumberFits (move_of m)
unfolding move_of
outside-fits e l = rw e l

pub other_fits : (m : Move) → OneOf others (tag_of moves.the_type m) → NumberFits (move_of m)
unfolding move_of
other_fits (Move.Local q n r) k = tt
other_fits (Move.Receive q n r) k = tt
other_fits (Move.Send q n r to) k = tt
other_fits (Move.Reply q n r) k = tt
other_fits (Move.OuterMessage q id n number) k = absurd (miss others 4 tt k)
other_fits (Move.OuterReply q n r) k = tt
other_fits (Move.Close q n) k = tt

-- The definition's outcome and bytes are what the call gives and leaves, so the promise is about them.
pub step-sound : (file s out : List ℕ) (m : Move) (outside : List ℕ) → NumberFits (move_of m) → Octets outside → {o : Outcome} {s' out' : List ℕ}
    → (o ≡ (step file s out (move_of m) outside).outcome) × ((s' ≡ (step file s out (move_of m) outside).state)
    × (out' ≡ (step file s out (move_of m) outside).out))
    → (o ≡ (step file s out (move_of m) outside).outcome) × ((s' ≡ (step file s out (move_of m) outside).state)
    × ((out' ≡ (step file s out (move_of m) outside).out) × SoundCall file s (record { move = move_of m; bytes = outside; out = out }) (outcome_number o) s'))
step-sound file s out m outside n b {o} {s'} e = (e.0, (e.1.0, (e.1.1, promise)))
  where
    t : Turn
    t = record { move = move_of m; bytes = outside; out = out }

    S : Step
    S = step file s out (move_of m) outside

    promise : SoundCall file s t (outcome_number o) s'
    promise =
        subst (λ (x : List ℕ). SoundCall file s t (outcome_number o) x) (sym e.1.0)
        (subst (λ (x : Outcome). SoundCall file s t (outcome_number x) S.state) (sym e.0) (call-sound file s t (record { octets = b; reply_number = n })))
