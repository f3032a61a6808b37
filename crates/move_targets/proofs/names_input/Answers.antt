use Rattle.std.proofs.Common.{inl, inr, refl}
use Rattle.move_targets.proofs.TargetLaws.{names-one-way, names-request, names-none}
use Rattle.move_targets.proofs.names_input.Goals as goal

pub returns-in-OneWay : goal.returns-in-OneWay
returns-in-OneWay c = elim c.in-OneWay.is [
  | inl h ↦ names-one-way c.args.file.now c.args.w c.args.a c.input_of.ensures h.1 refl
  | inr h ↦ names-request c.args.file.now c.args.w c.args.a c.input_of.ensures h.3 refl
]

pub returns-in-Nothing : goal.returns-in-Nothing
returns-in-Nothing c = search names-none depth 12
