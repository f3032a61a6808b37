use mathlib.Core.Path.{refl, ◌∙◌}
use native.Mathlib.Omega.{arith}
use borrow.Author.Rules.{rules}
use Rattle.basics.specs.TestLaws.{not-false}
use Rattle.utf8.proofs.RunLaws.{past-whole}
use Rattle.std.proofs.lemmas.Bool.{not_from_true}
use Rattle.utf8.proofs.past_twos.Goals as goal

pub loop-i-init : goal.loop-i-init
loop-i-init c = (search rules, refl)

pub returns-then-not-two_twos : goal.returns-then-not-two_twos
returns-then-not-two_twos c = let both = c.loop-i.invariant in record { upper_bound = both.0; v_value = both.1 }

pub loop-i-preserved : goal.loop-i-preserved
loop-i-preserved c = (omega arith, past-whole (c.two_twos.ensures (not-false c.two_twos.result (not_from_true _ c.if-not-two_twos.false))) (omega arith) ∙ c.loop-i.invariant.1)

pub returns : goal.returns
returns c = let both = c.loop-i.invariant in record { upper_bound = both.0; v_value = both.1 }
