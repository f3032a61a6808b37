use Rattle.std.proofs.Common.{◌∙◌}
use Rattle.network_form.proofs.FormLaws.{fits}
use Rattle.network_form.proofs.type_within.Goals as goal

pub returns : goal.returns
returns c = c.is_some.ensures ∙ fits _ _ _ _ c.from.ensures c.walk.ensures
