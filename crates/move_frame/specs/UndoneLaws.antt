-- move_rules' test for an undone row, as a test: what `is_undone` tells.
use Rattle.std.specs.Prelude.{◌≡◌, refl}
use Rattle.refusal.specs.declared.Refusal.TheVariants.{MoveNotAllowed}
use Rattle.state.specs.Session.{Progress, undone, done, waits, received, taken}
use Rattle.state.specs.Shape.{is_undone}
use Rattle.move_rules.specs.Moves.{Result, require, if_undone}

pub if-undone : (p : Progress) (x : Result) → if_undone p x ≡ require (is_undone p) MoveNotAllowed x
if-undone undone x = refl
if-undone done x = refl
if-undone waits x = refl
if-undone (received d) x = refl
if-undone (taken k) x = refl
