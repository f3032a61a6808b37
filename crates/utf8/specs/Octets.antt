-- What the code looks at: how many octets follow the first one of a character, in which range the second lies, and whether octets lie in
-- their ranges.
use Rattle.std.specs.Prelude.{◌≡◌, List, [], ◌∷◌, Bool, true, false, ◌&&◌, ℕ, zero, suc, ◌+◌, ◌*◌, ◌/◌, ◌≤◌, ltb, eqb, length, drop, get_or, replicate}
use Rattle.basics.specs.Choice.{pick}
use Rattle.utf8.specs.Utf8.{Range, range, in_range, tail, is_utf8}

-- How many octets follow a first one; 4 where the octet begins no character.
abbrev pub count_after : ℕ → ℕ
count_after a =
    pick (ltb a 0x80) 0
    (pick (ltb a 0xC2) 4 (pick (ltb a 0xE0) 1 (pick (ltb a 0xF0) 2 (pick (ltb a 0xF5) 3 4))))

-- The least second octet after a first one.
abbrev pub least_after : ℕ → ℕ
least_after a = pick (eqb a 0xE0) 0xA0 (pick (eqb a 0xF0) 0x90 0x80)

-- The greatest second octet after a first one.
abbrev pub most_after : ℕ → ℕ
most_after a = pick (eqb a 0xED) 0x9F (pick (eqb a 0xF4) 0x8F 0xBF)

-- The ranges of n octets after a first one.
abbrev pub ranges_after : ℕ → ℕ → List Range
ranges_after zero a = []
ranges_after (suc n) a = range (least_after a) (most_after a) ∷ replicate n tail

-- Do the octets begin with one in each of the ranges?
abbrev pub follows : List Range → List ℕ → Bool
follows [] v = true
follows (r ∷ rs) [] = false
follows (r ∷ rs) (a ∷ v) = in_range r a && follows rs v

-- The highest bits of the n octets from at + j on, each in its place: 80 for an octet of 80 or more.
abbrev pub high_bits : List ℕ → ℕ → ℕ → ℕ → ℕ
high_bits v at j zero = 0
high_bits v at j (suc n) = high_bits v at (suc j) n * 0x100 + get_or v (at + j) 0 / 0x80 * 0x80

-- The n octets from at + j on as one number, the first one lowest.
abbrev pub word : List ℕ → ℕ → ℕ → ℕ → ℕ
word v at j zero = 0
word v at j (suc n) = word v at (suc j) n * 0x100 + get_or v (at + j) 0

-- Of a character of three octets `t` says whether the second is in its range, where both are known by their highest bits.
abbrev pub Fitting : Bool → ℕ → ℕ → Type 0
Fitting t a b = 0xE0 ≤ a → a ≤ 0xEF → in_range tail b ≡ true → t ≡ in_range (range (least_after a) (most_after a)) b

-- The n octets from `at` on are whole characters; where n is 0, no character is there.
pub record Whole (v : List ℕ) (at n : ℕ) : Type 0 where
  pub inside : at + n ≤ length v
  pub none : n ≡ 0 → is_utf8 (drop at v) ≡ false
  pub some : (n ≡ 0 → ⊥) → is_utf8 (drop at v) ≡ is_utf8 (drop (at + n) v)
