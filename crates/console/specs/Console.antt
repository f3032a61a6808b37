-- What the contracts of input, output and status cite. Assumes nothing.
use Rattle.std.specs.Prelude.{ℕ, ◌≤◌, ◌≡◌, List, length, take}
use Rattle.console.specs.declared.Status.{Status}
use Rattle.console.specs.declared.Status.TheVariants.{Done, Refused, Failed}

-- The first n elements of xs are there, so that `&buf[..n]` has n bytes.
abbrev pub IsFront : ℕ → List ℕ → Type 0
IsFront n xs = (n ≤ length xs) × (n ≡ length (take n xs))

-- The number that the process ends with.
abbrev pub status_number : Status → ℕ
status_number Done = 0
status_number Refused = 1
status_number Failed = 2
