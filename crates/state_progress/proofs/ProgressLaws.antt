-- What three stores one after another make of a state.
use Prim.Native.Nat.{ℕ, ◌+◌, ◌≤◌}
use mathlib.Core.Path.{◌≡◌, refl}
use mathlib.Core.List.{List, [], ◌∷◌}
use native.Mathlib.Omega.{arith}
use lib.ListN.{length}
use Rattle.wire.specs.Wire.{with_part}
use Rattle.wire.specs.WireLaws.{parts_next}

pub parts : (s t u o : List ℕ) (at a b : ℕ) (l : List ℕ) → at + 6 ≤ length s → t ≡ with_part s at (a ∷ []) → u ≡ with_part t (at + 1) (b ∷ [])
    → o ≡ with_part u (at + 2) l → o ≡ with_part s at (a ∷ b ∷ l)
parts s t u o at a b l h e f g =
    let i : at ≤ length s = omega arith in
    parts_next s at (a ∷ b ∷ []) l 2 (at + 2) i refl refl (parts_next s at (a ∷ []) (b ∷ []) 1 (at + 1) i refl refl e f) g

pub ruleset parts_laws = (parts)
