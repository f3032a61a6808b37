use mathlib.Core.Path.{sym, ◌∙◌}
use native.Mathlib.Omega.{arith}
use Rattle.utf8.proofs.OctetLaws.{all_read}
use Rattle.utf8.proofs.is_utf8.Goals as goal

pub loop-i-init : goal.loop-i-init
loop-i-init c = (c.past_even-i.ensures.upper_bound, c.past_even-i.ensures.v_value ∙ c.low_start-low.ensures.v_value)

pub returns-then-n-eq0 : goal.returns-then-n-eq0
returns-then-n-eq0 c = sym (c.character_at-n.ensures.none c.if-n-eq0.true) ∙ c.loop-i.invariant.1

pub loop-i-preserved : goal.loop-i-preserved
loop-i-preserved c = (c.character_at-n.ensures.inside, sym (c.character_at-n.ensures.some c.if-n-eq0.false) ∙ c.loop-i.invariant.1)

pub returns : goal.returns
returns c = sym (all_read c.args.v.now c.loop-i.i (omega arith)) ∙ c.loop-i.invariant.1
