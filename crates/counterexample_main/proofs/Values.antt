-- A node's value lies within the bytes, between its header and its children.
use Rattle.std.proofs.Common.{arith, ℕ, List, length, ◌+◌, ◌≤◌, ◌≡◌}
use Rattle.tree.specs.Decode.{head_at}
use Rattle.tree.specs.EncodeLaws.{got, sized}
use Rattle.tree.specs.declared.Head.{Head}
use Rattle.std.specs.Prelude.{Option, Some, None}
use Rattle.tree.specs.Decode.{header}

pub value-within : (s : List ℕ) (at i b c m : ℕ) (h : Option Head) → h ≡ head_at s at → h ≡ Some (header i b c m) → (at + 5 ≤ m) × (m ≤ length s)
value-within s at i b c m h p q =
    let g = got p q in
    let n = sized s at g.ok in
    (omega arith, omega arith)
