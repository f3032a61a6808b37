use Prim.Native.Nat.{◌+◌}
use native.Mathlib.Omega.{arith}
use mathlib.Core.Path.{sym, ◌∙◌}
use Rattle.type_words.specs.LexemeLaws.{byte_inside}
use Rattle.type_words.proofs.Lexing.{zero-digit, one-digit, digit-missing}
use Rattle.type_words.proofs.bracket.Goals as goal

pub bracket_end-requires : goal.bracket_end-requires
bracket_end-requires c = (byte_inside c.args.text.now (c.args.p + 1) 48 (omega arith) (sym c.byte_at.ensures ∙ c.in-48.is), omega arith, omega arith)

pub returns-in-48 : goal.returns-in-48
returns-in-48 c = zero-digit c.args.text.now c.args.p c.byte_at.ensures c.in-48.is c.bracket_end.ensures

pub returns-in-49 : goal.returns-in-49
returns-in-49 c = one-digit c.args.text.now c.args.p c.byte_at.ensures c.in-49.is c.bracket_end-in-49.ensures

pub returns-in_default : goal.returns-in_default
returns-in_default c = digit-missing c.args.text.now c.args.p c.byte_at.ensures (λ e. omega arith) (λ e. omega arith)
