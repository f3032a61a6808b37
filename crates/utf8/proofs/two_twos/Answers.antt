use borrow.Author.Tests.{leb-true}
use Rattle.basics.specs.TestLaws.{apart}
use Rattle.utf8.proofs.RunLaws.{twos-whole}
use Rattle.utf8.proofs.two_twos.Goals as goal

pub returns-then-quad : goal.returns-then-quad
returns-then-quad c = λ z. apart z

pub returns-then-v-at-lt194 : goal.returns-then-v-at-lt194
returns-then-v-at-lt194 c = λ z. apart z

pub returns : goal.returns
returns c =
    λ z. twos-whole c.args.v.now (λ k. (c.shared_slice_known-3-1.given k).fits) c.args.at c.requires c.quad.ensures c.if-quad.false
    c.if-v-at-lt194.false (leb-true 0xC2 _ z)
