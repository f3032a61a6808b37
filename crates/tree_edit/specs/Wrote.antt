-- What a function that writes to a lent buffer says: what stood before is kept, then come the bytes written, and the rest is kept.
-- With `wrote-all` (WroteLaws) these fields name every byte of the buffer afterwards.
use Rattle.std.specs.Prelude.{◌≡◌, List, ◌++◌, ℕ, ◌+◌, ◌-◌, ◌≤◌, length, take, drop, replicate}

-- o' is o with the n bytes l written from w on, up to r.
pub record Wrote (o o' : List ℕ) (w r n : ℕ) (l : List ℕ) : Type 0 where
  pub next : r ≡ w + n
  pub size : length l ≡ n
  pub fits : r ≤ length o'
  pub holds : take r o' ≡ take w o ++ l
  pub keeps : drop r o' ≡ drop r o

-- The first n bytes of s, then zeros up to `size` in all.
abbrev pub padded_with : ℕ → List ℕ → ℕ → List ℕ
padded_with size s n = take n s ++ replicate (size - n) 0

-- The bytes s with the region of `size` bytes at `base` holding the first n bytes of src and then zeros.
abbrev pub stored : List ℕ → ℕ → ℕ → List ℕ → ℕ → List ℕ
stored s base size src n = take base s ++ (padded_with size src n ++ drop (base + size) s)
