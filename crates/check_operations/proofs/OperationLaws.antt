-- Laws of refusal 6.
use Prim.Native.Nat.{ℕ}
use mathlib.Core.Path.{◌≡◌, refl}
use mathlib.Core.List.{List}
use mathlib.Core.Bool.{Bool, true, false, beq, ◌&&◌}
use lib.Dec.{eqb}
use Rattle.basics.specs.Choice.{pick}
use Rattle.network_syntax.specs.Syntax.{input, output}
use Rattle.network.specs.Rows.{operation_service, operation_direction, operation_two_way}
use Rattle.network.specs.Decode.{operation_of}
use Rattle.check_typing.specs.Rules.{same_bool, same_direction, permits}
use Rattle.check_operations.specs.Directions.{direction_of}

same-kind : (a b : Bool) → beq a b ≡ same_bool a b
same-kind true true = refl
same-kind true false = refl
same-kind false true = refl
same-kind false false = refl

same-way : (a b : Bool) → beq a b ≡ same_direction (pick a input output) (direction_of b)
same-way true true = refl
same-way true false = refl
same-way false true = refl
same-way false false = refl

pub permits-are : (s : List ℕ) (q o v u d t : ℕ) (i two a x : Bool) → v ≡ operation_service s o → u ≡ v → d ≡ operation_direction s o → t ≡ operation_two_way s o
    → a ≡ (beq (eqb d 0) i && beq (eqb t 1) two) → x ≡ (eqb u q && a) → x ≡ permits q (direction_of i) two (operation_of s o)
unfolding permits operation_of
permits-are s q o v u d t i two a x e f g k m n =
    let p = same-way (eqb (operation_direction s o) 0) i in
    let r = same-kind (eqb (operation_two_way s o) 1) two in
    cc

pub ruleset permits-laws = (permits-are)
