use native.Mathlib.Omega.{arith}
use mathlib.Core.Path.{sym, ◌∙◌}
use borrow.Author.Tests.{eqb-true, eqb-false}
use Rattle.counterexample.proofs.Bytes.{lower-than}
use Rattle.counterexample.proofs.Searching.{better-first, better-unlike, better-bytes}
use Rattle.counterexample.proofs.better.Goals as goal

pub returns-then-is_empty : goal.returns-then-is_empty
returns-then-is_empty c = better-first (eqb-true _ _ (sym c.is_empty.ensures ∙ c.if-is_empty.true))

pub returns-then-m-n : goal.returns-then-m-n
returns-then-m-n c = better-unlike (eqb-false _ _ (sym c.is_empty.ensures ∙ c.if-is_empty.false)) c.node_count-m.ensures c.node_count-n.ensures c.if-m-n.true

pub returns : goal.returns
returns c = better-bytes (eqb-false _ _ (sym c.is_empty.ensures ∙ c.if-is_empty.false)) c.node_count-m.ensures c.node_count-n.ensures _ (omega arith) (omega arith) (c.lt.ensures ∙ lower-than c.args.a.now c.args.b.now)
