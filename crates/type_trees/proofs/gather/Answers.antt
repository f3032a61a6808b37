use mathlib.Core.Path.{subst}
use mathlib.Core.Logic.{inl, inr}
use native.Mathlib.Omega.{arith}
use borrow.Author.Rules.{rules}
use Rattle.type_words.specs.Told.{ItemTold}
use Rattle.type_reading.specs.WordLaws.{word-up-to}
use Rattle.type_trees.proofs.Naming.{Gathering, gather-start, gather-word, gather-name, gather-mark, gather-end, gather-fault}
use Rattle.type_trees.proofs.gather.Goals as goal

pub loop-p-init : goal.loop-p-init
loop-p-init c = gather-start c.args.text.now c.args.names.now

pub add_name-n-requires : goal.add_name-n-requires
add_name-n-requires c =
    let t = c.in-Word.ensures in
    let i = subst (Gathering c.args.text.now _ _ c.loop-p.at c.loop-p.n) c.if-dot.true c.loop-p.invariant in
    (word-up-to c.args.text.now c.loop-p.at c.in-Word.p c.in-Word.q t, search rules, omega (arith, i.room, i.long, t.0, t.1, t.2), omega (arith, i.room, i.inside))

pub loop-p-preserved-then-dot : goal.loop-p-preserved-then-dot
loop-p-preserved-then-dot c =
    let i = subst (Gathering c.args.text.now _ _ c.loop-p.at c.loop-p.n) c.if-dot.true c.loop-p.invariant in
    gather-name c.args.text.now _ _ c.loop-p.at c.loop-p.n c.in-Word.p c.in-Word.q c.in-Word.ensures i _ _ c.add_name-n.ensures

pub loop-p-preserved-else-dot : goal.loop-p-preserved-else-dot
loop-p-preserved-else-dot c =
    let i = subst (Gathering c.args.text.now _ _ c.loop-p.at c.loop-p.n) c.if-dot.false c.loop-p.invariant in
    gather-word c.args.text.now _ _ c.loop-p.at c.loop-p.n c.in-Word.p c.in-Word.q c.in-Word.ensures i

pub loop-p-preserved : goal.loop-p-preserved
loop-p-preserved c = gather-mark c.args.text.now _ _ c.loop-p.at c.loop-p.n c.loop-p.dot c.loop-p.invariant c.in-Mark.k c.in-Mark.field-1 c.in-Mark.q c.in-Mark.ensures

pub returns-in-Fault : goal.returns-in-Fault
returns-in-Fault c =
    let over : ItemTold c.args.text.now c.loop-p.at c.item_at.result = c.item_at.ensures in
    elim c.in-Fault.is [
      | inl x ↦ gather-fault c.args.text.now _ _ c.loop-p.at c.loop-p.n c.loop-p.dot c.loop-p.invariant x.0 x.1 (rw x.2 at over)
      | inr e ↦ gather-end c.args.text.now _ _ c.loop-p.at c.loop-p.n c.loop-p.dot c.loop-p.invariant (rw e at over)
    ]
