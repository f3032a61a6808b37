-- Characters of one length side by side, whose highest bits are tested four octets at a time.
use Prim.Native.Nat.{ℕ, ◌+◌, ◌*◌, ◌/◌, ◌%◌, ◌<◌, ◌≤◌}
use mathlib.Core.Path.{◌≡◌, refl, sym, ◌∙◌}
use mathlib.Core.List.{List}
use mathlib.Core.Bool.{Bool, true, false, not}
use native.Mathlib.Omega.{arith}
use native.Mathlib.Nat.{add-zero}
use lib.Bits.{bit_and, and_block, and_high, and_le_r}
use lib.Dec.{leb}
use lib.ListN.{length, drop, get_or}
use borrow.Author.Tests.{le-leb}
use Rattle.basics.specs.TestLaws.{both_true, not-false}
use Rattle.utf8.specs.Utf8.{in_range, tail, is_utf8}
use Rattle.utf8.specs.Octets.{word, Fitting, Whole}
use Rattle.utf8.proofs.OctetLaws.{count-two, count-three, second-last, third_last, whole}
use Rattle.utf8.proofs.SecondLaws.{second-E0, second-ED, second-any}

-- ---- bits of four octets

abbrev joined : ℕ → ℕ → ℕ → ℕ → ℕ
joined a b c d = ((d * 0x100 + c) * 0x100 + b) * 0x100 + a

quad-and : (a b c d m n o p : ℕ) → a < 256 → b < 256 → c < 256 → d < 256 → m < 256 → n < 256 → o < 256 → p < 256 →
    bit_and (joined a b c d) (joined m n o p) ≡ joined (bit_and a m) (bit_and b n) (bit_and c o) (bit_and d p)
quad-and a b c d m n o p s t u w x y z k =
    and_block 8 ((d * 0x100 + c) * 0x100 + b) ((p * 0x100 + o) * 0x100 + n) a m s x
    ∙ rw (and_block 8 (d * 0x100 + c) (p * 0x100 + o) b n t y, and_block 8 d p c o u z) refl

record Bits (v : List ℕ) (at m n o p x y z w : ℕ) : Type 0 where
  first : bit_and (get_or v at 0) m ≡ x
  second : bit_and (get_or v (at + 1) 0) n ≡ y
  third : bit_and (get_or v (at + 2) 0) o ≡ z
  fourth : bit_and (get_or v (at + 3) 0) p ≡ w

module _ (v : List ℕ) (small : (k : ℕ) → get_or v k 0 < 256) where
  bits_of : (at q m n o p x y z w : ℕ) → m < 256 → n < 256 → o < 256 → p < 256 → x < 256 → y < 256 → z < 256 → w < 256 →
      q ≡ word v at 0 4 → bit_and q (joined m n o p) ≡ joined x y z w → Bits v at m n o p x y z w
  bits_of at q m n o p x y z w lm ln lo lp lx ly lz lw e f =
      let a = get_or v at 0 in
      let b = get_or v (at + 1) 0 in
      let c = get_or v (at + 2) 0 in
      let d = get_or v (at + 3) 0 in
      let g : q ≡ joined a b c d = omega (arith, rw (add-zero at) at e) in
      let h = quad-and a b c d m n o p (small at) (small (at + 1)) (small (at + 2)) (small (at + 3)) lm ln lo lp in
      let k : joined (bit_and a m) (bit_and b n) (bit_and c o) (bit_and d p) ≡ joined x y z w = sym h ∙ (rw g at f) in
      record {
        first = omega (arith, k, and_le_r a m, and_le_r b n, and_le_r c o, and_le_r d p);
        second = omega (arith, k, and_le_r a m, and_le_r b n, and_le_r c o, and_le_r d p);
        third = omega (arith, k, and_le_r a m, and_le_r b n, and_le_r c o, and_le_r d p);
        fourth = omega (arith, k, and_le_r a m, and_le_r b n, and_le_r c o, and_le_r d p);
      }

-- ---- what the highest bits say of an octet

tail-bits : (a : ℕ) → a < 256 → bit_and a 0xC0 ≡ 0x80 → in_range tail a ≡ true
tail-bits a s e =
    let h : bit_and a 0xC0 ≡ a / 0x40 % 4 * 0x40 = and_high a 2 6 in
    let r : a / 0x40 % 4 ≡ a / 0x40 = omega arith in
    both_true (le-leb 0x80 a (omega (arith, h, e))) (le-leb a 0xBF (omega (arith, h, e)))

two-bits : (a : ℕ) → a < 256 → bit_and a 0xE0 ≡ 0xC0 → a < 0xE0
two-bits a s e =
    let h : bit_and a 0xE0 ≡ a / 0x20 % 8 * 0x20 = and_high a 3 5 in
    let r : a / 0x20 % 8 ≡ a / 0x20 = omega arith in
    omega (arith, h, e)

three-bits : (a : ℕ) → a < 256 → bit_and a 0xF0 ≡ 0xE0 → (0xE0 ≤ a) × (a < 0xF0)
three-bits a s e =
    let h : bit_and a 0xF0 ≡ a / 0x10 % 16 * 0x10 = and_high a 4 4 in
    let r : a / 0x10 % 16 ≡ a / 0x10 = omega arith in
    (omega (arith, h, e), omega (arith, h, e))

-- ---- `fits`, one law for each way out

module _ (a b : ℕ) where
  pub fits-E0 : a ≡ 0xE0 → Fitting (leb 0xA0 b) a b
  fits-E0 e g h i = second-E0 a b (sym i) refl e

  pub fits-ED : a ≡ 0xED → Fitting (leb b 0x9F) a b
  fits-ED e g h i = second-ED a b (sym i) refl e

  pub fits-any : (a ≡ 0xE0 → ⊥) → (a ≡ 0xED → ⊥) → Fitting true a b
  fits-any e f g h i = second-any a b (sym i) refl e f (λ z. omega (arith, z)) (λ z. omega (arith, z))

-- ---- characters side by side

join : {v : List ℕ} {at n m k : ℕ} → Whole v at n → Whole v (at + n) m → 0 < n → 0 < m → n + m ≡ k → Whole v at k
join {v} {at} {n} {m} {k} a b p q e =
    let f : at + n + m ≡ at + k = omega arith in
    record {
      inside = omega (arith, b.inside, f);
      none = λ z. absurd (omega (arith, z));
      some = λ z. a.some (λ y. omega (arith, y)) ∙ rw f at (b.some (λ y. omega (arith, y)));
    }

module _ (v : List ℕ) (small : (k : ℕ) → get_or v k 0 < 256) where
  two-whole : (i j : ℕ) → j ≡ i + 1 → j < length v → bit_and (get_or v i 0) 0xE0 ≡ 0xC0 → bit_and (get_or v j 0) 0xC0 ≡ 0x80 →
      0xC2 ≤ get_or v i 0 → Whole v i 2
  two-whole i j p h a b g =
      let c = get_or v i 0 in
      let y : c < 0xE0 = two-bits c (small i) a in
      let t = rw p at (tail-bits (get_or v j 0) (small j) b) in
      let e = second-any c (get_or v (i + 1) 0) (sym t) refl (λ z. omega (arith, z)) (λ z. omega (arith, z)) (λ z. omega (arith, z))
      (λ z. omega (arith, z)) in
      whole v i 1 (omega arith) (small i) (count-two g y) (omega arith) (omega arith) (second-last v i e (omega arith) refl)

  three-whole : (i j k : ℕ) → j ≡ i + 1 → k ≡ i + 2 → k < length v → bit_and (get_or v i 0) 0xF0 ≡ 0xE0 → bit_and (get_or v j 0) 0xC0 ≡ 0x80 →
      bit_and (get_or v k 0) 0xC0 ≡ 0x80 → {t : Bool} → Fitting t (get_or v i 0) (get_or v j 0) → t ≡ true → Whole v i 3
  three-whole i j k p q h a b c g f =
      let y = three-bits (get_or v i 0) (small i) a in
      let e = rw p at (sym f ∙ g y.0 (omega (arith, y.1)) (tail-bits (get_or v j 0) (small j) b)) in
      let e₁ = rw q at (sym (tail-bits (get_or v k 0) (small k) c)) in
      whole v i 2 (omega arith) (small i) (count-three y.0 y.1) (omega arith) (omega arith) (third_last v i e refl e₁ (omega arith) refl)

  pub twos-whole : (at : ℕ) {q : ℕ} → at + 4 ≤ length v → q ≡ word v at 0 4 → bit_and q 0xC0E0C0E0 ≡ 0x80C080C0 → 0xC2 ≤ get_or v at 0 →
      0xC2 ≤ get_or v (at + 2) 0 → Whole v at 4
  twos-whole at {q} h e f x y =
      let b = bits_of v small at q 0xE0 0xC0 0xE0 0xC0 0xC0 0x80 0xC0 0x80 (omega arith) (omega arith) (omega arith) (omega arith)
      (omega arith) (omega arith) (omega arith) (omega arith) e f in
      join (two-whole at (at + 1) refl (omega arith) b.first b.second x)
      (two-whole (at + 2) (at + 3) (omega arith) (omega arith) b.third b.fourth y) (omega arith) (omega arith) refl

  module _ (at : ℕ) {q r s : ℕ} (h : at + 12 ≤ length v) (e : q ≡ word v at 0 4) (f : bit_and q 0xF0C0C0F0 ≡ 0xE08080E0)
      (g : r ≡ word v (at + 4) 0 4) (i : bit_and r 0xC0F0C0C0 ≡ 0x80E08080) (k : s ≡ word v (at + 8) 0 4)
      (l : bit_and s 0xC0C0F0C0 ≡ 0x8080E080) where
    pub threes-whole : {t u w x : Bool} → Fitting t (get_or v at 0) (get_or v (at + 1) 0) → not t ≡ false →
        Fitting u (get_or v (at + 3) 0) (get_or v (at + 4) 0) → not u ≡ false → Fitting w (get_or v (at + 6) 0) (get_or v (at + 7) 0) → not w ≡ false →
        Fitting x (get_or v (at + 9) 0) (get_or v (at + 10) 0) → x ≡ true → Whole v at 12
    threes-whole {t} {u} {w} {x} ft nt fu nu fw nw fx yx =
        let a = bits_of v small at q 0xF0 0xC0 0xC0 0xF0 0xE0 0x80 0x80 0xE0 (omega arith) (omega arith) (omega arith) (omega arith)
        (omega arith) (omega arith) (omega arith) (omega arith) e f in
        let b = bits_of v small (at + 4) r 0xC0 0xC0 0xF0 0xC0 0x80 0x80 0xE0 0x80 (omega arith) (omega arith) (omega arith) (omega arith)
        (omega arith) (omega arith) (omega arith) (omega arith) g i in
        let c = bits_of v small (at + 8) s 0xC0 0xF0 0xC0 0xC0 0x80 0xE0 0x80 0x80 (omega arith) (omega arith) (omega arith) (omega arith)
        (omega arith) (omega arith) (omega arith) (omega arith) k l in
        let p5 : at + 4 + 1 ≡ at + 5 = omega arith in
        let p6 : at + 4 + 2 ≡ at + 6 = omega arith in
        let p7 : at + 4 + 3 ≡ at + 7 = omega arith in
        let p9 : at + 8 + 1 ≡ at + 9 = omega arith in
        let p10 : at + 8 + 2 ≡ at + 10 = omega arith in
        let p11 : at + 8 + 3 ≡ at + 11 = omega arith in
        let one = three-whole at (at + 1) (at + 2) refl refl (omega arith) a.first a.second a.third ft (not-false t nt) in
        let two = three-whole (at + 3) (at + 4) (at + 5) (omega arith) (omega arith) (omega arith) a.fourth b.first (rw p5 at b.second)
        fu (not-false u nu) in
        let three = three-whole (at + 6) (at + 7) (at + 8) (omega arith) (omega arith) (omega arith) (rw p6 at b.third)
        (rw p7 at b.fourth) c.first fw (not-false w nw) in
        let four = three-whole (at + 9) (at + 10) (at + 11) (omega arith) (omega arith) (omega arith) (rw p9 at c.second)
        (rw p10 at c.third) (rw p11 at c.fourth) fx yx in
        let six = join one two (omega arith) (omega arith) refl in
        let nine = join six three (omega arith) (omega arith) refl in
        join nine four (omega arith) (omega arith) refl

-- Past whole characters the rest is as well formed as before.
pub past-whole : {v : List ℕ} {at n : ℕ} → Whole v at n → 0 < n → is_utf8 (drop (at + n) v) ≡ is_utf8 (drop at v)
past-whole a h = sym (a.some (λ z. omega (arith, z)))
