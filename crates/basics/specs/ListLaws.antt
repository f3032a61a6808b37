-- Parts of lists.
use Rattle.std.specs.Prelude.{ℕ, zero, suc, ◌≤◌, ◌≡◌, refl, List, [], ◌∷◌, length, take, drop}
use Rattle.std.proofs.Common.{arith, length-take}

pub prefix-length : (l : List ℕ) (n : ℕ) → n ≤ length l → n ≡ length (take n l)
prefix-length l n h = simp length-take (omega arith)

-- What follows the first two, taken before or after they are dropped.
pub take-later : (n : ℕ) (l : List ℕ) → take n (drop 2 l) ≡ drop 2 (take (suc (suc n)) l)
take-later zero [] = refl
take-later zero (a ∷ []) = refl
take-later zero (a ∷ b ∷ l) = refl
take-later (suc n) [] = refl
take-later (suc n) (a ∷ []) = refl
take-later (suc n) (a ∷ b ∷ l) = refl
