use Rattle.state_progress.specs.Meaning.{meaning}
use Rattle.state_destinations.specs.Meaning.{reply_of}
use Rattle.move_send.proofs.MakingLaws.{by-outside, by-nothing, by-inside}
use Rattle.std.proofs.lemmas.Bool.{not_from_true, not_from_false}
use Rattle.move_send.proofs.send_by.Goals as goal

pub returns-then-not-in_file : goal.returns-then-not-in_file
returns-then-not-in_file c = by-outside c.args.file.now c.args.state.now c.args.slot c.args.i c.args.o c.args.e c.args.to (meaning c.args.after) (reply_of c.args.back) c.args.out.now c.operation_location.ensures c.in_file.ensures (not_from_false _ c.if-not-in_file.true) c.send_outside.ensures

pub returns-in_default : goal.returns-in_default
returns-in_default c = by-nothing c.args.file.now c.args.state.now c.args.slot c.args.i c.args.o c.args.e c.args.to (meaning c.args.after) (reply_of c.args.back) c.args.out.now c.operation_location.ensures c.in_file.ensures (not_from_true _ c.if-not-in_file.false) c.met_input.result c.met_input.ensures c.in_default.is c.refused.ensures

pub returns : goal.returns
returns c = by-inside c.args.file.now c.args.state.now c.args.slot c.args.i c.args.o c.args.e c.args.to (meaning c.args.after) (reply_of c.args.back) c.args.out.now c.operation_location.ensures c.in_file.ensures (not_from_true _ c.if-not-in_file.false) c.met_input.result c.met_input.ensures c.in-Some.is c.send_inside.ensures
