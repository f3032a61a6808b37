-- One law for each way out of the functions; that the tests of the code agree with the forms is computed for all 256 octets.
use Prim.Native.Nat.{ℕ, zero, suc, ◌+◌, ◌-◌, ◌*◌, ◌/◌, ◌%◌, ◌<◌, ◌≤◌}
use mathlib.Core.Path.{◌≡◌, refl, sym, ◌∙◌, ap}
use mathlib.Core.List.{List, [], ◌∷◌}
use mathlib.Core.Bool.{Bool, true, false, not, ◌&&◌}
use native.Mathlib.Omega.{arith}
use native.Mathlib.Nat.{add-zero}
use native.Mathlib.Numerals.{add-one}
use lib.Bits.{bit_and, and_block, and_high}
use lib.Dec.{T, leb, ltb, eqb}
use lib.ListN.{length, drop, get_or, replicate, length-drop, length-replicate, drop_of_length-le}
use lib.Seq.{drop-cons, drop-drop}
use borrow.Author.Tests.{lt-ltb, le-ltb, le-leb, lt-leb, eqb-true}
use Rattle.basics.specs.Choice.{pick}
use Rattle.basics.specs.TestLaws.{of_t, apart, and-of, and_assoc, not-true, not-false, and-false}
use Rattle.basics.specs.TableLaws.{below, at}
use Rattle.utf8.specs.Utf8.{Range, range, in_range, tail, forms, begins, others_after, goes_on, is_utf8}
use Rattle.utf8.specs.Octets.{count_after, least_after, most_after, ranges_after, follows, high_bits, word, Whole}

-- ---- how many octets follow

pub count_low : {a : ℕ} → a < 0x80 → 0 ≡ count_after a
count_low {a} h = rw (lt-ltb a 0x80 h) refl

pub count-lone : {a : ℕ} → 0x80 ≤ a → a < 0xC2 → 4 ≡ count_after a
count-lone {a} g h = rw (le-ltb a 0x80 g, lt-ltb a 0xC2 h) refl

pub count-two : {a : ℕ} → 0xC2 ≤ a → a < 0xE0 → 1 ≡ count_after a
count-two {a} g h = rw (le-ltb a 0x80 (omega arith), le-ltb a 0xC2 g, lt-ltb a 0xE0 h) refl

pub count-three : {a : ℕ} → 0xE0 ≤ a → a < 0xF0 → 2 ≡ count_after a
count-three {a} g h = rw (le-ltb a 0x80 (omega arith), le-ltb a 0xC2 (omega arith), le-ltb a 0xE0 g, lt-ltb a 0xF0 h) refl

pub count-four : {a : ℕ} → 0xF0 ≤ a → a < 0xF5 → 3 ≡ count_after a
count-four {a} g h =
    rw (le-ltb a 0x80 (omega arith), le-ltb a 0xC2 (omega arith), le-ltb a 0xE0 (omega arith), le-ltb a 0xF0 g, lt-ltb a 0xF5 h) refl

pub count_past : {a : ℕ} → 0xF5 ≤ a → 4 ≡ count_after a
count_past {a} g =
    rw
    (le-ltb a 0x80 (omega arith), le-ltb a 0xC2 (omega arith), le-ltb a 0xE0 (omega arith), le-ltb a 0xF0 (omega arith), le-ltb a 0xF5 g)
    refl

-- ---- the range of the second

module _ (low high a : ℕ) where
  pub within-below : a < low → false ≡ in_range (range low high) a
  within-below h = rw (lt-leb low a h) refl

  pub within-above : low ≤ a → leb a high ≡ in_range (range low high) a
  within-above h = rw (le-leb low a h) refl

pub ruleset within-laws = (within-below, within-above)

-- ---- the octets that follow

module _ (v : List ℕ) (r : Range) (rs : List Range) (at : ℕ) {t : Bool} (e : t ≡ in_range r (get_or v at 0)) (h : at < length v) where
  next : t && follows rs (drop (at + 1) v) ≡ follows (r ∷ rs) (drop at v)
  next = rw (drop-cons v at 0 h, add-one, e) refl

  stops : not t ≡ true → false ≡ follows (r ∷ rs) (drop at v)
  stops f = ap (◌&& follows rs (drop (at + 1) v)) (sym (not-true t f)) ∙ next

  passes : not t ≡ false → follows rs (drop (at + 1) v) ≡ follows (r ∷ rs) (drop at v)
  passes f = ap (◌&& follows rs (drop (at + 1) v)) (sym (not-false t f)) ∙ next

-- The range of the octet after the one at `at`.
abbrev second_of : List ℕ → ℕ → Range
second_of v at = range (least_after (get_or v at 0)) (most_after (get_or v at 0))

-- The second octet is outside, or inside and the last; likewise the third and the fourth. `m` more may follow.
module _ (v : List ℕ) (at : ℕ) {t : Bool} (e : t ≡ in_range (second_of v at) (get_or v (at + 1) 0)) where
  abbrev Follow : Bool → ℕ → Type 0
  Follow x n = x ≡ follows (ranges_after n (get_or v at 0)) (drop (at + 1) v)

  abbrev own : Range
  own = second_of v at

  pub second-outside : (m : ℕ) → at + 1 < length v → not t ≡ true → Follow false (suc m)
  second-outside m h f = stops v own (replicate m tail) (at + 1) e h f

  pub second-last : at + 1 < length v → not t ≡ false → Follow true 1
  second-last h f = passes v own [] (at + 1) e h f

  module _ (f : not t ≡ false) {t₁ : Bool} (e₁ : t₁ ≡ in_range tail (get_or v (at + 2) 0)) where
    third : t₁ ≡ in_range tail (get_or v (at + 1 + 1) 0)
    third = let two : at + 2 ≡ at + 1 + 1 = omega arith in rw two at e₁

    pub third-outside : (m : ℕ) → at + 2 < length v → not t₁ ≡ true → Follow false (suc (suc m))
    third-outside m h g =
        stops v tail (replicate m tail) (at + 1 + 1) third (omega arith) g ∙ passes v own (tail ∷ replicate m tail) (at + 1) e (omega arith) f

    pub third_last : at + 2 < length v → not t₁ ≡ false → Follow true 2
    third_last h g = passes v tail [] (at + 1 + 1) third (omega arith) g ∙ passes v own (tail ∷ []) (at + 1) e (omega arith) f

    module _ (g : not t₁ ≡ false) {t₂ : Bool} (e₂ : t₂ ≡ in_range tail (get_or v (at + 3) 0)) (h : at + 3 < length v) where
      fourth : t₂ ≡ in_range tail (get_or v (at + 1 + 1 + 1) 0)
      fourth = let three : at + 3 ≡ at + 1 + 1 + 1 = omega arith in rw three at e₂

      pub fourth-outside : not t₂ ≡ true → Follow false 3
      fourth-outside k =
          stops v tail [] (at + 1 + 1 + 1) fourth (omega arith) k
          ∙ passes v tail (tail ∷ []) (at + 1 + 1) third (omega arith) g
          ∙ passes v own (tail ∷ tail ∷ []) (at + 1) e (omega arith) f

      pub fourth-last : not t₂ ≡ false → Follow true 3
      fourth-last k =
          passes v tail [] (at + 1 + 1 + 1) fourth (omega arith) k
          ∙ passes v tail (tail ∷ []) (at + 1 + 1) third (omega arith) g
          ∙ passes v own (tail ∷ tail ∷ []) (at + 1) e (omega arith) f

-- ---- the octets of a form

abbrev same_range : Range → Range → Bool
same_range (range l h) (range m k) = eqb l m && eqb h k

abbrev same_ranges : List Range → List Range → Bool
same_ranges [] [] = true
same_ranges [] (s ∷ ss) = false
same_ranges (r ∷ rs) [] = false
same_ranges (r ∷ rs) (s ∷ ss) = same_range r s && same_ranges rs ss

same-range : (r s : Range) → same_range r s ≡ true → r ≡ s
same-range (range l h) (range m k) e =
    let f = and-of (eqb l m) (eqb h k) e in
    let p : l ≡ m = eqb-true l m f.0 in
    let q : h ≡ k = eqb-true h k f.1 in
    cc

same-ranges : (rs ss : List Range) → same_ranges rs ss ≡ true → rs ≡ ss
same-ranges [] [] e = refl
same-ranges [] (s ∷ ss) e = apart e
same-ranges (r ∷ rs) [] e = apart e
same-ranges (r ∷ rs) (s ∷ ss) e =
    let f = and-of (same_range r s) (same_ranges rs ss) e in
    let p : r ≡ s = same-range r s f.0 in
    let q : rs ≡ ss = same-ranges rs ss f.1 in
    cc

-- Does the octet begin a form exactly where the code has a count of those that follow, and are their ranges the same?
abbrev right : ℕ → Bool
right a =
    pick (ltb 3 (count_after a)) (not (begins forms a))
    (begins forms a && same_ranges (others_after forms a) (ranges_after (count_after a) a))

all_right : T (below 256 right)
all_right = tt

module _ (a : ℕ) (small : a < 256) where
  so : right a ≡ true
  so = of_t (right a) (at 256 right all_right a small)

  none-begins : 3 < count_after a → begins forms a ≡ false
  none-begins h = by (ltb 3 (count_after a)) (begins forms a) _ (lt-ltb 3 (count_after a) h) so
    where
      by : (t b x : Bool) → t ≡ true → pick t (not b) x ≡ true → b ≡ false
      by t b x e f = not-true b (rw e at f)

  begins-so : count_after a ≤ 3 → (begins forms a ≡ true) × (others_after forms a ≡ ranges_after (count_after a) a)
  begins-so h =
      let k = by (ltb 3 (count_after a)) (begins forms a) (same_ranges (others_after forms a) (ranges_after (count_after a) a)) (le-ltb 3 _ h) so in
      (k.0, same-ranges (others_after forms a) (ranges_after (count_after a) a) k.1)
    where
      by : (t b x : Bool) → t ≡ false → pick t (not b) (b && x) ≡ true → (b ≡ true) × (x ≡ true)
      by t b x e f = and-of b x (rw e at f)

-- ---- along the sequence

none-whole : (v : List ℕ) (at : ℕ) → at ≤ length v → is_utf8 (drop at v) ≡ false → Whole v at 0
none-whole v at h e = record { inside = omega arith; none = λ z. e; some = λ z. absurd (z refl) }

goes : (rs : List Range) (w : List ℕ) → goes_on rs w ≡ follows rs w && goes_on [] (drop (length rs) w)
unfolding goes_on
goes [] w = refl
goes (r ∷ rs) [] = refl
goes (r ∷ rs) (a ∷ w) = rw (goes rs w) (and_assoc (in_range r a) (follows rs w) (goes_on [] (drop (length rs) w)))

few : (rs : List Range) (w : List ℕ) → length w < length rs → follows rs w ≡ false
few [] w h = absurd (omega arith)
few (r ∷ rs) [] h = refl
few (r ∷ rs) (a ∷ w) h = rw (few rs w (omega arith)) (and-false (in_range r a))

as-many : (n a : ℕ) → length (ranges_after n a) ≡ n
as-many zero a = refl
as-many (suc n) a = ap suc (length-replicate n tail)

module _ (v : List ℕ) (i n : ℕ) (h : i < length v) (small : get_or v i 0 < 256) (e : n ≡ count_after (get_or v i 0)) where
  head : is_utf8 (drop i v) ≡ begins forms (get_or v i 0) && goes_on (others_after forms (get_or v i 0)) (drop (i + 1) v)
  unfolding goes_on
  head = rw (drop-cons v i 0 h, add-one) refl

  pub no-character : 3 < n → Whole v i 0
  no-character k =
      let m = none-begins (get_or v i 0) small (omega (arith, e)) in
      none-whole v i (omega arith) (head ∙ ap (◌&& goes_on (others_after forms (get_or v i 0)) (drop (i + 1) v)) m)

  module _ (k : n ≤ 3) where
    character : is_utf8 (drop i v) ≡ follows (ranges_after n (get_or v i 0)) (drop (i + 1) v) && is_utf8 (drop (i + 1 + n) v)
    character =
        head
        ∙ by (begins forms (get_or v i 0)) (others_after forms (get_or v i 0)) b.0 (b.1 ∙ ap (λ (m : ℕ). ranges_after m (get_or v i 0)) (sym e))
        ∙ goes (ranges_after n (get_or v i 0)) (drop (i + 1) v)
        ∙ rw (as-many n (get_or v i 0), drop-drop n (i + 1) v) refl
      where
        b : (begins forms (get_or v i 0) ≡ true) × (others_after forms (get_or v i 0) ≡ ranges_after (count_after (get_or v i 0)) (get_or v i 0))
        b = begins-so (get_or v i 0) small (omega (arith, e))

        by : (b : Bool) (rs : List Range) → b ≡ true → rs ≡ ranges_after n (get_or v i 0) →
            b && goes_on rs (drop (i + 1) v) ≡ goes_on (ranges_after n (get_or v i 0)) (drop (i + 1) v)
        by b rs p q = rw (p, q) refl

    pub cut_short : length v - i < suc n → Whole v i 0
    cut_short l =
        let m = few (ranges_after n (get_or v i 0)) (drop (i + 1) v) (omega (arith, length-drop (i + 1) v, as-many n (get_or v i 0))) in
        none-whole v i (omega arith) (character ∙ ap (◌&& is_utf8 (drop (i + 1 + n) v)) m)

    pub broken : false ≡ follows (ranges_after n (get_or v i 0)) (drop (i + 1) v) → Whole v i 0
    broken f = none-whole v i (omega arith) (character ∙ ap (◌&& is_utf8 (drop (i + 1 + n) v)) (sym f))

    pub whole : i + n < length v → true ≡ follows (ranges_after n (get_or v i 0)) (drop (i + 1) v) → Whole v i (suc n)
    whole l f =
        let q : i + 1 + n ≡ i + suc n = omega arith in
        let one = character ∙ ap (◌&& is_utf8 (drop (i + 1 + n) v)) (sym f) in
        record { inside = omega arith; none = λ z. absurd (omega (arith, z)); some = λ z. rw q at one }

pub all_read : (v : List ℕ) (i : ℕ) → length v ≤ i → is_utf8 (drop i v) ≡ true
unfolding goes_on
all_read v i h = rw (drop_of_length-le v h) refl

-- ---- characters of one octet, eight at a time

-- The highest bits of n octets.
abbrev highest : ℕ → ℕ
highest zero = 0
highest (suc n) = highest n * 0x100 + 0x80

high-bits : (v : List ℕ) (at j n : ℕ) → ((k : ℕ) → get_or v k 0 < 256) → bit_and (word v at j n) (highest n) ≡ high_bits v at j n
high-bits v at j zero small = refl
high-bits v at j (suc n) small =
    let b = small (at + j) in
    let one : bit_and (get_or v (at + j) 0) 0x80 ≡ get_or v (at + j) 0 / 0x80 % 2 * 0x80 = and_high (get_or v (at + j) 0) 1 7 in
    let two : get_or v (at + j) 0 / 0x80 % 2 ≡ get_or v (at + j) 0 / 0x80 = omega (arith, b) in
    and_block 8 (word v at (suc j) n) (highest n) (get_or v (at + j) 0) 0x80 b (omega arith)
    ∙ rw (high-bits v at (suc j) n small, one, two) refl

-- The word as `eight_low` adds it up.
abbrev eight : List ℕ → ℕ → ℕ
eight v at =
    get_or v at 0 + 0x100 * get_or v (at + 1) 0 + 0x10000 * get_or v (at + 2) 0 + 0x1000000 * get_or v (at + 3) 0
    + 0x100000000 * get_or v (at + 4) 0 + 0x10000000000 * get_or v (at + 5) 0
    + 0x1000000000000 * get_or v (at + 6) 0 + 0x100000000000000 * get_or v (at + 7) 0

pub eight-tested : (v : List ℕ) (at x : ℕ) → ((k : ℕ) → get_or v k 0 < 256) → x ≡ eight v at
    → eqb (bit_and x 0x8080808080808080) 0 ≡ eqb (high_bits v at 0 8) 0
eight-tested v at x small e =
    let q : x ≡ word v at 0 8 = rw (add-zero at) (omega (arith, e)) in
    ap (λ (k : ℕ). eqb k 0) (ap (λ (k : ℕ). bit_and k 0x8080808080808080) q ∙ high-bits v at 0 8 small)

low_run : (v : List ℕ) (at j n : ℕ) → at + j + n ≤ length v → high_bits v at j n ≡ 0 → is_utf8 (drop (at + j) v) ≡ is_utf8 (drop (at + j + n) v)
low_run v at j zero h e = rw (add-zero (at + j)) refl
low_run v at j (suc n) h e =
    let low : get_or v (at + j) 0 < 0x80 = omega (arith, e) in
    let p : at + j + 1 ≡ at + suc j = omega arith in
    let q : at + suc j + n ≡ at + j + suc n = omega arith in
    let one = whole v (at + j) 0 (omega arith) (omega (arith, low)) (count_low low) (omega arith) (omega arith) refl in
    rw p at (one.some (λ z. omega (arith, z))) ∙ rw q at (low_run v at (suc j) n (omega arith) (omega (arith, e)))

-- Eight octets below 80 are eight characters.
pub eight-read : (v : List ℕ) (at : ℕ) {t : Bool} → at + 8 ≤ length v → t ≡ eqb (high_bits v at 0 8) 0 → not t ≡ false
    → is_utf8 (drop (at + 8) v) ≡ is_utf8 (drop at v)
eight-read v at {t} h e f =
    sym (rw (add-zero at) at (low_run v at 0 8 (omega arith) (eqb-true (high_bits v at 0 8) 0 (sym e ∙ not-false t f))))
