use Rattle.check_environments.proofs.Uniting.{put-laws}
use Rattle.check_environments.proofs.put_root.Goals.{then-s-end-via-then-s-end, then-s-end-via-else-s-end+then-end-lt5, then-s-end-via-else-s-end+else-end-lt5+then-end-at, then-s-end-via-else-s-end+else-end-lt5+else-end-at+then-end-at-gt341}
use Rattle.check_environments.proofs.put_root.Goals as goal

pub returns-then-s-end : goal.returns-then-s-end
returns-then-s-end c =
    elim c.then-s-end.branch [
      | then-s-end-via-then-s-end w ↦ search put-laws depth 12
      | then-s-end-via-else-s-end+then-end-lt5 w ↦ search put-laws depth 12
      | then-s-end-via-else-s-end+else-end-lt5+then-end-at w ↦ search put-laws depth 12
      | then-s-end-via-else-s-end+else-end-lt5+else-end-at+then-end-at-gt341 w ↦ search put-laws depth 12
    ]

pub returns : goal.returns
returns c = search put-laws depth 12
