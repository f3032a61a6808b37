use Rattle.counterexample.proofs.Searching.{considered-fits, considered-kept, considered-new}
use Rattle.std.proofs.lemmas.Bool.{not_from_true, not_from_false}
use Rattle.counterexample.proofs.consider.Goals as goal

pub returns-then-fits : goal.returns-then-fits
returns-then-fits c = considered-fits _ _ _ _ _ _ c.octets.ensures c.requires.1 _ _ _ c.write_message-k.ensures _ c.fits.ensures c.if-fits.true

pub returns-then-not-better : goal.returns-then-not-better
returns-then-not-better c = considered-kept _ _ _ _ _ _ c.octets.ensures c.requires.1 _ _ _ c.write_message-k.ensures _ c.fits.ensures c.if-fits.false _ c.better.ensures (not_from_false _ c.if-not-better.true)

pub returns : goal.returns
returns c = considered-new _ _ _ _ _ _ c.octets.ensures c.requires.1 _ _ _ c.write_message-k.ensures _ c.fits.ensures c.if-fits.false _ c.better.ensures (not_from_true _ c.if-not-better.false) _ _ c.append.ensures c.append.auto.out
