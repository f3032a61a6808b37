use mathlib.Core.Path.{refl, ◌∙◌}
use native.Mathlib.Omega.{arith}
use borrow.Author.Rules.{rules}
use Rattle.utf8.proofs.OctetLaws.{eight-read}
use Rattle.std.proofs.lemmas.Bool.{not_from_true}
use Rattle.utf8.proofs.low_start.Goals as goal

pub loop-i-init : goal.loop-i-init
loop-i-init c = (search rules, refl)

pub returns-then-not-eight_low : goal.returns-then-not-eight_low
returns-then-not-eight_low c = let both = c.loop-i.invariant in record { upper_bound = both.0; v_value = both.1 }

pub loop-i-preserved : goal.loop-i-preserved
loop-i-preserved c = (omega arith, eight-read c.args.v.now c.loop-i.i (omega arith) c.eight_low.ensures (not_from_true _ c.if-not-eight_low.false) ∙ c.loop-i.invariant.1)

pub returns : goal.returns
returns c = let both = c.loop-i.invariant in record { upper_bound = both.0; v_value = both.1 }
