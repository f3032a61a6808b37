use Rattle.std.proofs.Common.{rules, arith, length, ◌≡◌}
use Rattle.scalar.specs.ScalarLaws.{short-value}
use Rattle.scalar_main.proofs.show.Goals as goal

pub write-n-requires : goal.write-n-requires
write-n-requires g c =
    let x = c.args.x in
    let l : length x.bytes ≡ 16 = search rules in
    omega (arith, short-value x l)
