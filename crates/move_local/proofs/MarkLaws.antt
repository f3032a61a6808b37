-- Ready rows: a row's progress, at each of the ways out of the code.
use mathlib.Core.Path.{◌≡◌, refl, sym, ap, ◌∙◌}
use mathlib.Core.Bool.{Bool, true, false}
use Prim.Native.Nat.{ℕ}
use Rattle.refusal.specs.declared.Refusal.TheVariants.{MoveNotAllowed}
use Rattle.state.specs.Session.{Progress, undone, done, waits, received, taken}
use Rattle.state_destinations.specs.declared.Destination.{Destination}
use Rattle.state_progress.specs.declared.Progress as coded
use Rattle.state_progress.specs.declared.Progress.TheVariants.{Undone, Done, Waits, Taken, Received}
use Rattle.state_progress.specs.Meaning.{meaning}
use Rattle.move_rules.specs.Moves.{Result, require, if_ready_while}
use Rattle.move_local.specs.Local.{ready_while}

module _ (y : coded.Progress) (q : Progress) (e : meaning y ≡ q) (d : Bool) where
  pub ready-undone : y ≡ Undone → true ≡ ready_while q d
  ready-undone h = rw (sym e ∙ ap meaning h) refl

  pub ready-done : y ≡ Done → false ≡ ready_while q d
  ready-done h = rw (sym e ∙ ap meaning h) refl

  pub ready-waits : y ≡ Waits → false ≡ ready_while q d
  ready-waits h = rw (sym e ∙ ap meaning h) refl

  pub ready-taken : {k : ℕ} {x : Bool} → y ≡ Taken k → x ≡ d → x ≡ ready_while q d
  ready-taken h g = rw (sym e ∙ ap meaning h) g

  pub ready-received : {to : Destination} → y ≡ Received to → false ≡ ready_while q d
  ready-received h = rw (sym e ∙ ap meaning h) refl

pub ruleset ready-laws = (ready-undone, ready-done, ready-waits, ready-taken, ready-received)

-- The definition's test, as a test.
pub if-ready-while : (p : Progress) (d : Bool) (x : Result) → if_ready_while p d x ≡ require (ready_while p d) MoveNotAllowed x
if-ready-while undone d x = refl
if-ready-while done d x = refl
if-ready-while waits d x = refl
if-ready-while (received to) d x = refl
if-ready-while (taken k) d x = refl
