use Rattle.check_roots.proofs.RootLaws.{own-laws}
use Rattle.check_roots.proofs.own_set.Goals as goal

pub returns-in-Nothing : goal.returns-in-Nothing
returns-in-Nothing c = search own-laws depth 12

pub returns-in-Path : goal.returns-in-Path
returns-in-Path c = search own-laws depth 12

pub returns-in-Paths : goal.returns-in-Paths
returns-in-Paths c = search own-laws depth 12

pub returns-in-Expression : goal.returns-in-Expression
returns-in-Expression c = search own-laws depth 12

pub returns-in-Both : goal.returns-in-Both
returns-in-Both c = search own-laws depth 12
