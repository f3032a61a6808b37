use Rattle.type_lines.proofs.Emitting.{level-laws, level-below, level-row}
use Rattle.type_lines.proofs.+emit_level.Goals as goal

pub returns-then-n-eq0 : goal.returns-then-n-eq0
returns-then-n-eq0 t c = search level-laws depth 12

pub returns-in_default : goal.returns-in_default
returns-in_default t c = search level-laws depth 12

pub returns-then-d-ne0 : goal.returns-then-d-ne0
returns-then-d-ne0 t c = search level-below depth 14

pub returns-then-out-w-lt8 : goal.returns-then-out-w-lt8
returns-then-out-w-lt8 t c = search level-laws depth 12

pub returns-then-next-c : goal.returns-then-next-c
returns-then-next-c t c = search level-laws depth 12

pub returns : goal.returns
returns t c = search level-row depth 14
