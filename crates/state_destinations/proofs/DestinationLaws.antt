-- Laws of where a reply goes: one for each way out of `write`.
use Prim.Native.Nat.{ℕ, ◌+◌, ◌≤◌}
use mathlib.Core.Path.{◌≡◌, refl, ap, ◌∙◌}
use mathlib.Core.List.{List, [], ◌∷◌}
use native.Mathlib.Omega.{arith}
use lib.ListN.{length}
use Rattle.wire.specs.Wire.{put_u16, put_u32, with_part, u16_bytes}
use Rattle.wire.specs.WireLaws.{length-with_part, parts_next, put-16, put_32}
use Rattle.state.specs.Bytes.{destination_bytes}
use Rattle.state_destinations.specs.declared.Destination.{Destination}
use Rattle.state_destinations.specs.declared.Destination.TheVariants.{Outsider, WaitingRow}
use Rattle.state_destinations.specs.Meaning.{destination_of}

module _ (s o : List ℕ) (at : ℕ) (fits : at + 4 ≤ length s) where
  module _ (d : Destination) where
    pub write-outsider : {v : ℕ} → d ≡ Outsider v → o ≡ put_u32 s at v → o ≡ with_part s at (destination_bytes (destination_of d))
    write-outsider {v} e h = rw e (h ∙ put_32 s at v fits)

    pub write-waiting : {q n r : ℕ} {s₁ s₂ : List ℕ} → d ≡ WaitingRow q n r → s₁ ≡ with_part s at (q ∷ []) → s₂ ≡ with_part s₁ (at + 1) (n ∷ [])
        → o ≡ put_u16 s₂ (at + 2) r → o ≡ with_part s at (destination_bytes (destination_of d))
    write-waiting {q} {n} {r} {s₁} {s₂} e a b c =
        let two : s₂ ≡ with_part s at (q ∷ n ∷ []) = parts_next s at (q ∷ []) (n ∷ []) 1 (at + 1) (omega arith) refl refl a b in
        let l : length s₂ ≡ length s = ap length two ∙ length-with_part s at (q ∷ n ∷ []) (omega arith) in
        rw e (parts_next s at (q ∷ n ∷ []) (u16_bytes r) 2 (at + 2) (omega arith) refl refl two (c ∙ put-16 s₂ (at + 2) r (omega (arith, l))))

pub ruleset write-laws = (write-outsider, write-waiting)
