-- The reader's part lies within the message, and is the part of the message at its span.
use mathlib.Core.Path.{◌≡◌, ap, ◌∙◌}
use mathlib.Core.List.{List}
use Prim.Native.Nat.{ℕ, ◌+◌, ◌-◌, ◌≤◌}
use native.Mathlib.Omega.{arith}
use lib.ListN.{length, take, drop}
use denote.Ref.{Bor}
use Rattle.tree.specs.Encode.{Octets}
use Rattle.tree_part.specs.Part.{part_of}
use Rattle.tree_part.specs.declared.Span.{Span}
use Rattle.tree_part.specs.Span.{span_of}
use Rattle.tree_part.specs.SpanLaws.{span-inside, span-part}
use Rattle.controller.specs.Parts.{PartAt}

pub inside : (s ids : List ℕ) {x : Span} → Octets s → x ≡ span_of s ids → x.start + x.len ≤ length s
inside s ids b e = rw e (span-inside s ids b)

pub part_lies : (s r : Bor (List ℕ)) (ids : List ℕ) {x : Span} → Octets s.now → x ≡ span_of s.now ids → r.ref_ptr.0 ≡ s.ref_ptr.0
    → r.ref_ptr.1 ≡ s.ref_ptr.1 + x.start → r.now ≡ take (x.start + x.len - x.start) (drop x.start s.now)
    → (r.now ≡ part_of s.now ids) × PartAt s r (span_of s.now ids)
unfolding span_of
part_lies s r ids {x} b e block start bytes =
    let y = span_of s.now ids in
    let z : x.start + x.len - x.start ≡ x.len = omega arith in
    let n : r.now ≡ take y.len (drop y.start s.now) =
    bytes ∙ (ap (λ (k : ℕ). take k (drop x.start s.now)) z ∙ ap (λ (w : Span). take w.len (drop w.start s.now)) e) in
    let p = n ∙ span-part s.now ids b in
    (p, record { block = block; start = start ∙ ap (λ (w : Span). s.ref_ptr.1 + w.start) e; len = ap length p; bytes = n })
