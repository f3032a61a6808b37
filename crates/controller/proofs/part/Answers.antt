use mathlib.Core.Path.{refl}
use native.Mathlib.Omega.{arith}
use Rattle.controller.proofs.PartLaws.{inside, part_lies}
use borrow.Author.Rules.{rules}
use mathlib.Core.Path.{◌≡◌}
use mathlib.Core.List.{List}
use Prim.Native.Nat.{ℕ, ◌+◌, ◌-◌}
use Rattle.std.proofs.Common.{take, drop}
use denote.Bor.{Bor}
use Rattle.tree.specs.Encode.{Octets}
use Rattle.tree_part.specs.Part.{part_of}
use Rattle.tree_part.specs.Span.{span_of}
use Rattle.tree_part.specs.declared.Span.{Span}
use Rattle.controller.specs.Parts.{PartAt}
use Rattle.controller.proofs.part.Goals as goal

-- The two halves of `part_lies`, as the two clauses ask for them.
reads : (s : Bor (List ℕ)) (ids : List ℕ) {x : Span} → Octets s.now → x ≡ span_of s.now ids
    → take (x.start + x.len - x.start) (drop x.start s.now) ≡ part_of s.now ids
reads s ids {x} b e =
    (part_lies s
    (record { ref_ptr = (s.ref_ptr.0, s.ref_ptr.1 + x.start); now = take (x.start + x.len - x.start) (drop x.start s.now) })
    ids b e refl refl refl).0

lies : (s r : Bor (List ℕ)) (ids : List ℕ) {x : Span} → Octets s.now → x ≡ span_of s.now ids → r.ref_ptr.0 ≡ s.ref_ptr.0
    → r.ref_ptr.1 ≡ s.ref_ptr.1 + x.start → r.now ≡ take (x.start + x.len - x.start) (drop x.start s.now) → PartAt s r (span_of s.now ids)
lies s r ids b e block start bytes = (part_lies s r ids b e block start bytes).1

pub overflow_add-result : goal.overflow_add-result
overflow_add-result c = omega (arith, inside c.args.message.now c.args.ids c.octets.ensures c.part_span-span.ensures)

pub slice_bounds-result-end : goal.slice_bounds-result-end
slice_bounds-result-end c = omega (arith, inside c.args.message.now c.args.ids c.octets.ensures c.part_span-span.ensures)

pub returns-clause-result_value : goal.returns-clause-result_value
returns-clause-result_value c = reads c.args.message c.args.ids c.octets.ensures c.part_span-span.ensures

pub returns-clause-part_at : goal.returns-clause-part_at
returns-clause-part_at c = lies c.args.message _ c.args.ids c.octets.ensures c.part_span-span.ensures refl (search rules) refl
