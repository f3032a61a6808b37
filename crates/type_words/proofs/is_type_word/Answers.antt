use mathlib.Core.Path.{◌∙◌}
use Rattle.type_words.proofs.Naming.{same-equal}
use Rattle.type_words.proofs.is_type_word.Goals as goal

pub returns : goal.returns
returns c = c.same_bytes.ensures ∙ same-equal _ _
