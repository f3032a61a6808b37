use Rattle.utf8.proofs.RunLaws.{fits-E0, fits-ED, fits-any}
use Rattle.utf8.proofs.fits.Goals as goal

pub returns-then-first-eq224 : goal.returns-then-first-eq224
returns-then-first-eq224 c = fits-E0 _ _ c.if-first-eq224.true

pub returns-then-first-eq237 : goal.returns-then-first-eq237
returns-then-first-eq237 c = fits-ED _ _ c.if-first-eq237.true

pub returns : goal.returns
returns c = fits-any _ _ c.if-first-eq224.false c.if-first-eq237.false
