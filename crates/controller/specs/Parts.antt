-- A part of a slice, by its place in memory. 01: the reader gives the child's whole encoding "as that part of the message". The same bytes
-- may stand in a message twice; a part is the one that lies at its start.
use Rattle.std.specs.Prelude.{◌≡◌, List, ℕ, ◌+◌, length, take, drop}
use Rattle.std.specs.Borrow.{Bor}
use Rattle.tree_part.specs.declared.Span.{Span}

-- The slice r is that part of the slice s which starts at its byte `x.start` and has `x.len` bytes. A slice points to a block of memory and
-- an offset there, a byte taking one.
pub record PartAt (s r : Bor (List ℕ)) (x : Span) : Type 0 where
  pub block : r.ref_ptr.0 ≡ s.ref_ptr.0
  pub start : r.ref_ptr.1 ≡ s.ref_ptr.1 + x.start
  pub len : length r.now ≡ x.len
  pub bytes : r.now ≡ take x.len (drop x.start s.now)
