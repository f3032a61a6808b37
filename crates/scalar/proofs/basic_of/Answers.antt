use Rattle.scalar.proofs.ByScalar.{kind-laws}
use Rattle.scalar.proofs.ByScalar.{kind-double, kind-raw}
use mathlib.Core.Path.{◌≡◌}
use lib.Dec.{T}
use lib.ListN.{length}
use lib.Ieee.{binary64, fits}
use borrow.Author.Rules.{rules}
use Rattle.scalar.proofs.basic_of.Goals as goal

pub returns-in-Bool : goal.returns-in-Bool
returns-in-Bool c = search kind-laws depth 12

pub returns-in-Int : goal.returns-in-Int
returns-in-Int c = search kind-laws depth 12

pub returns-in-Double : goal.returns-in-Double
returns-in-Double c =
    let f : T (fits binary64 c.in-Double._x) = search rules in
    kind-double c.args.v c.in-Double.is f

pub returns-in-Long : goal.returns-in-Long
returns-in-Long c = search kind-laws depth 12

pub returns-in-String : goal.returns-in-String
returns-in-String c = search kind-laws depth 12

pub returns-in-Raw : goal.returns-in-Raw
returns-in-Raw c =
    let l : length c.args.v.bytes ≡ 16 = search rules in
    kind-raw c.args.v l c.in-Raw.is

pub returns-in-Void : goal.returns-in-Void
returns-in-Void c = search kind-laws depth 12
