-- Laws of binary digits: of a union, of what two numbers have in common, of a power of two.
use Prim.Native.Nat.{ℕ, zero, suc, ◌*◌, ◌/◌, ◌%◌, ◌^◌, ◌<◌, min, max}
use mathlib.Core.Path.{◌≡◌, refl, sym, ◌∙◌, ap}
use mathlib.Core.Bool.{true, false, ◌&&◌, ◌||◌}
use native.Mathlib.Nat.{mod-lt, pow-suc, add-zero}
use native.Mathlib.Omega.{arith}
use lib.Dec.{eqb}
use lib.Arith.{digits_div, digits_mod}
use lib.Bits.{bit_and, bit_or, and_step, or_step, and_le_l, and_le_r, or_add_and}
use borrow.Author.Tests.{eq-eqb, ne_eqb}
use Rattle.tree_forest.specs.Compare.{Compare, lt, eq, gt, compare}
use Rattle.check_roots.specs.Sets.{digit}

-- ---- one digit

max-digit : (x y : ℕ) → x < 2 → y < 2 → (max x y < 2) × (eqb (max x y) 1 ≡ (eqb x 1 || eqb y 1))
max-digit zero zero p q = (omega arith, refl)
max-digit zero (suc zero) p q = (omega arith, refl)
max-digit (suc zero) zero p q = (omega arith, refl)
max-digit (suc zero) (suc zero) p q = (omega arith, refl)
max-digit (suc (suc x)) y p q = absurd (omega arith)
max-digit zero (suc (suc y)) p q = absurd (omega arith)
max-digit (suc zero) (suc (suc y)) p q = absurd (omega arith)

min-digit : (x y : ℕ) → x < 2 → y < 2 → (min x y < 2) × (eqb (min x y) 1 ≡ (eqb x 1 && eqb y 1))
min-digit zero zero p q = (omega arith, refl)
min-digit zero (suc zero) p q = (omega arith, refl)
min-digit (suc zero) zero p q = (omega arith, refl)
min-digit (suc zero) (suc zero) p q = (omega arith, refl)
min-digit (suc (suc x)) y p q = absurd (omega arith)
min-digit zero (suc (suc y)) p q = absurd (omega arith)
min-digit (suc zero) (suc (suc y)) p q = absurd (omega arith)

two : 0 < 2
two = omega arith

-- ---- unions, common digits

pub digit_or : (k a b : ℕ) → digit (bit_or a b) k ≡ (digit a k || digit b k)
unfolding digit
digit_or zero a b =
    let m = max-digit (a % 2) (b % 2) (mod-lt a two) (mod-lt b two) in
    ap (λ (x : ℕ). eqb (x % 2) 1) (or_step a b) ∙ (ap (λ (x : ℕ). eqb x 1) (digits_mod (bit_or (a / 2) (b / 2)) m.0) ∙ m.1)
digit_or (suc k) a b =
    let m = max-digit (a % 2) (b % 2) (mod-lt a two) (mod-lt b two) in
    ap (λ (x : ℕ). digit (x / 2) k) (or_step a b)
    ∙ (ap (λ (x : ℕ). digit x k) (digits_div (bit_or (a / 2) (b / 2)) m.0) ∙ digit_or k (a / 2) (b / 2))

pub digit_and : (k a b : ℕ) → digit (bit_and a b) k ≡ (digit a k && digit b k)
unfolding digit
digit_and zero a b =
    let m = min-digit (a % 2) (b % 2) (mod-lt a two) (mod-lt b two) in
    ap (λ (x : ℕ). eqb (x % 2) 1) (and_step a b) ∙ (ap (λ (x : ℕ). eqb x 1) (digits_mod (bit_and (a / 2) (b / 2)) m.0) ∙ m.1)
digit_and (suc k) a b =
    let m = min-digit (a % 2) (b % 2) (mod-lt a two) (mod-lt b two) in
    ap (λ (x : ℕ). digit (x / 2) k) (and_step a b)
    ∙ (ap (λ (x : ℕ). digit x k) (digits_div (bit_and (a / 2) (b / 2)) m.0) ∙ digit_and k (a / 2) (b / 2))

-- ---- none, and one

pub digit-zero : (k : ℕ) → digit 0 k ≡ false
unfolding digit
digit-zero zero = refl
digit-zero (suc k) = digit-zero k

eqb-suc : (j k : ℕ) → eqb j k ≡ eqb (suc j) (suc k)
eqb-suc j k = by (compare j k)
  where
    by : Compare j k → eqb j k ≡ eqb (suc j) (suc k)
    by (lt h) = ne_eqb j k (λ e. omega arith) ∙ sym (ne_eqb (suc j) (suc k) (λ e. omega arith))
    by (gt h) = ne_eqb j k (λ e. omega arith) ∙ sym (ne_eqb (suc j) (suc k) (λ e. omega arith))
    by (eq h) = eq-eqb j k h ∙ sym (eq-eqb (suc j) (suc k) (ap suc h))

pub digit-power : (k j : ℕ) → digit (2 ^ k) j ≡ eqb j k
unfolding digit
digit-power zero zero = refl
digit-power zero (suc j) = digit-zero j ∙ sym (ne_eqb (suc j) 0 (λ e. omega arith))
digit-power (suc k) zero = ap (λ (x : ℕ). eqb (x % 2) 1) (pow-suc 2 k ∙ sym (add-zero (2 ^ k * 2))) ∙ (ap (λ (x : ℕ). eqb x 1) (digits_mod (2 ^ k) two) ∙ sym (ne_eqb 0 (suc k) (λ e. omega arith)))
digit-power (suc k) (suc j) =
    ap (λ (x : ℕ). digit (x / 2) j) (pow-suc 2 k ∙ sym (add-zero (2 ^ k * 2)))
    ∙ (ap (λ (x : ℕ). digit x j) (digits_div (2 ^ k) two) ∙ (digit-power k j ∙ eqb-suc j k))

-- A number that is not 0 has a digit.
pub some-digit : (w n : ℕ) → n < 2 ^ w → (n ≡ 0 → ⊥) → (k : ℕ) × (k < w) × (digit n k ≡ true)
unfolding digit
some-digit zero n h z = absurd (z (omega arith))
some-digit (suc w) n h z = by (some-digit w (n / 2)) (n % 2) refl (mod-lt n two)
  where
    by : (n / 2 < 2 ^ w → (n / 2 ≡ 0 → ⊥) → (k : ℕ) × (k < w) × (digit (n / 2) k ≡ true)) → (b : ℕ) → n % 2 ≡ b → b < 2
        → (k : ℕ) × (k < suc w) × (digit n k ≡ true)
    by ih (suc zero) e l = (0, omega arith, ap (λ (x : ℕ). eqb x 1) e)
    by ih zero e l =
        let p = pow-suc 2 w in
        let r = ih (omega arith) (λ q. z (omega arith)) in
        (suc r.0, (let q = r.1 in omega arith), r.2)
    by ih (suc (suc b)) e l = absurd (omega arith)

-- ---- when a union is 0

pub or-zero-both : (a b : ℕ) → bit_or a b ≡ 0 → (a ≡ 0) × (b ≡ 0)
or-zero-both a b e =
    let s = or_add_and a b in
    let l = and_le_l a b in
    let r = and_le_r a b in
    (omega arith, omega arith)

-- ---- a power of two in a byte

pub power-is : (k : ℕ) → k < 8 → 1 * 2 ^ k % 256 ≡ 2 ^ k
power-is zero h = refl
power-is (suc zero) h = refl
power-is (suc (suc zero)) h = refl
power-is (suc (suc (suc zero))) h = refl
power-is (suc (suc (suc (suc zero)))) h = refl
power-is (suc (suc (suc (suc (suc zero))))) h = refl
power-is (suc (suc (suc (suc (suc (suc zero)))))) h = refl
power-is (suc (suc (suc (suc (suc (suc (suc zero))))))) h = refl
power-is (suc (suc (suc (suc (suc (suc (suc (suc k)))))))) h = absurd (omega arith)
