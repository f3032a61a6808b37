use Rattle.basics.specs.TestLaws.{apart}
use Rattle.utf8.proofs.RunLaws.{threes-whole}
use Rattle.std.proofs.lemmas.Bool.{not_from_true}
use Rattle.utf8.proofs.four_threes.Goals as goal

pub returns-then-quad : goal.returns-then-quad
returns-then-quad c = λ z. apart z

pub returns-then-quad-2 : goal.returns-then-quad-2
returns-then-quad-2 c = λ z. apart z

pub returns-then-quad-3 : goal.returns-then-quad-3
returns-then-quad-3 c = λ z. apart z

pub returns-then-not-fits : goal.returns-then-not-fits
returns-then-not-fits c = λ z. apart z

pub returns-then-not-fits-2 : goal.returns-then-not-fits-2
returns-then-not-fits-2 c = λ z. apart z

pub returns-then-not-fits-3 : goal.returns-then-not-fits-3
returns-then-not-fits-3 c = λ z. apart z

pub returns : goal.returns
returns c =
    λ z. threes-whole c.args.v.now (λ k. (c.shared_slice_known-9-1.given k).fits) c.args.at c.requires c.quad.ensures
    c.if-quad.false c.quad-2.ensures c.if-quad-2.false c.quad-3.ensures c.if-quad-3.false c.fits.ensures
    (not_from_true _ c.if-not-fits.false) c.fits-2.ensures (not_from_true _ c.if-not-fits-2.false) c.fits-3.ensures (not_from_true _ c.if-not-fits-3.false) c.fits-4.ensures z
