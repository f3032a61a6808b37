use Prim.Native.Nat.{◌+◌}
use lib.ListN.{get_or, drop}
use Rattle.type_words.proofs.Lexing.{mark-colon, mark-opening, mark-closing, mark-dot, mark-question, mark-bracket, mark-none}
use Rattle.type_words.proofs.mark_at.Goals as goal

pub returns-in-58 : goal.returns-in-58
returns-in-58 c = mark-colon (get_or c.args.text.now c.args.p 0) c.args.p (drop (c.args.p + 1) c.args.text.now) c.in-58.is

pub returns-in-123 : goal.returns-in-123
returns-in-123 c = mark-opening (get_or c.args.text.now c.args.p 0) c.args.p (drop (c.args.p + 1) c.args.text.now) c.in-123.is

pub returns-in-125 : goal.returns-in-125
returns-in-125 c = mark-closing (get_or c.args.text.now c.args.p 0) c.args.p (drop (c.args.p + 1) c.args.text.now) c.in-125.is

pub returns-in-46 : goal.returns-in-46
returns-in-46 c = mark-dot (get_or c.args.text.now c.args.p 0) c.args.p (drop (c.args.p + 1) c.args.text.now) c.in-46.is

pub returns-in-63 : goal.returns-in-63
returns-in-63 c = mark-question (get_or c.args.text.now c.args.p 0) c.args.p (drop (c.args.p + 1) c.args.text.now) c.in-63.is

pub returns-in-91 : goal.returns-in-91
returns-in-91 c = mark-bracket (get_or c.args.text.now c.args.p 0) c.args.p (drop (c.args.p + 1) c.args.text.now) c.in-91.is c.bracket.ensures

pub returns-in_default : goal.returns-in_default
returns-in_default c =
    mark-none (get_or c.args.text.now c.args.p 0) c.args.p (drop (c.args.p + 1) c.args.text.now)
    c.in_default.in_default-own.rest.0.0.0.0.0.1 c.in_default.in_default-own.rest.0.0.0.0.1 c.in_default.in_default-own.rest.0.0.0.1 c.in_default.in_default-own.rest.0.0.1 c.in_default.in_default-own.rest.0.1 c.in_default.in_default-own.rest.1
