use Rattle.std.proofs.Common.{rules}
use Rattle.type_reading.specs.TableLaws.{none-empty-yet}
use Rattle.types_main.proofs.refused.declared_at.Goals as goal

pub read_rest-requires : goal.read_rest-requires
read_rest-requires c = (search rules, none-empty-yet _ _, search rules, search rules)
