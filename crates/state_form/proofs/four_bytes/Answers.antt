use Rattle.std.proofs.Common.{◌∙◌}
use Rattle.state_form.proofs.FormLaws.{four}
use Rattle.state_form.proofs.four_bytes.Goals as goal

pub returns : goal.returns
returns c = c.from_le_bytes.ensures ∙ four _ _
