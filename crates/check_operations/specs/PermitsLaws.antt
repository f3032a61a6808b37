-- Laws of refusal 6: what an operation that is permitted is.
use Rattle.std.specs.Prelude.{◌≡◌, refl, Bool, true, false, ◌&&◌, ℕ, eqb}
use Rattle.basics.specs.TestLaws.{and-of}
use Rattle.network_syntax.specs.Syntax.{Direction, Operation}
use Rattle.check_typing.specs.Rules.{same_bool, same_direction, permits}

same_true : (b : Bool) → same_bool b true ≡ true → b ≡ true
same_true true e = refl
same_true false e = e

-- One that is permitted as two-way is two-way.
pub two-way : (q : ℕ) (d : Direction) (o : Operation) → permits q d true o ≡ true → o.two_way ≡ true
unfolding permits
two-way q d o e =
    let a = (and-of (eqb o.service q) (same_direction o.direction d && same_bool o.two_way true) e).1 in
    same_true o.two_way (and-of (same_direction o.direction d) (same_bool o.two_way true) a).1
