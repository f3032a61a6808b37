-- Bytes that stand somewhere in others: one after another, zeros, numbers.
use Rattle.std.specs.Prelude.{◌≡◌, List, [], ◌∷◌, ◌++◌, true, ℕ, zero, suc, ◌+◌, ◌*◌, ◌/◌, ◌%◌, ◌≤◌, ◌<◌, length, drop, eqb}
use Rattle.std.proofs.Math.Path.{refl}
use Rattle.std.proofs.Common.{sym, ap, ◌∙◌, append_assoc, add-zero, add-one, arith, drop-cons, drop-drop, drop_at, eqb-true}
use Rattle.basics.specs.TestLaws.{and_left, and_right}
use Rattle.wire.specs.Wire.{byte_at, u16_at, u32_at}
use Rattle.tree.specs.Encode.{Octets}
use Rattle.state.specs.Bytes.{zeros}
use Rattle.wire.specs.Wire.{u16_bytes, u32_bytes}
use Rattle.state.specs.Form.{all_zero}
use Rattle.state.proofs.PartLaws.{length-zeros, byte-zeros, HoldsAt, holds-rest, holds-byte}

-- ---- one by one

module _ {s : List ℕ} {at : ℕ} where
  pub holds-head : {a : ℕ} {l : List ℕ} → HoldsAt s at (a ∷ l) → byte_at s at ≡ a
  holds-head h = rw (add-zero at) at (holds-byte h 0 (omega arith))

  pub holds-tail : {a : ℕ} {l : List ℕ} → HoldsAt s at (a ∷ l) → HoldsAt s (at + 1) l
  holds-tail {a} {l} h = holds-rest (a ∷ []) l 1 refl h

  pub holds-zeros : {n : ℕ} → 0 < n → HoldsAt s at (zeros n) → byte_at s at ≡ 0
  holds-zeros {n} l h = rw (add-zero at) at (holds-byte h 0 (omega (arith, length-zeros n))) ∙ byte-zeros n 0

pub holds-nil : (s : List ℕ) (at : ℕ) → HoldsAt s at []
holds-nil s at = record { after = drop at s; bytes = refl }

pub holds-cons : {s : List ℕ} {at : ℕ} {a : ℕ} {l : List ℕ} → at < length s → byte_at s at ≡ a → HoldsAt s (at + 1) l → HoldsAt s at (a ∷ l)
holds-cons {s} {at} {a} {l} i e h = record {
  after = h.after;
  bytes = drop-cons s at 0 i ∙ rw (e, ← add-one at, h.bytes);
}

pub holds-join : {s : List ℕ} {at : ℕ} (a b : List ℕ) (n : ℕ) → length a ≡ n → HoldsAt s at a → HoldsAt s (at + n) b → HoldsAt s at (a ++ b)
holds-join {s} {at} a b n e h k = record {
  after = k.after;
  bytes =
      let r : h.after ≡ b ++ k.after =
      sym (drop_at a h.after n e) ∙ ap (drop n) (sym h.bytes) ∙ drop-drop n at s ∙ k.bytes in
      h.bytes ∙ rw r (sym (append_assoc a b k.after));
}

-- ---- zeros

pub zero-holds : (s : List ℕ) (at n : ℕ) → at + n ≤ length s → all_zero s at n ≡ true → HoldsAt s at (zeros n)
unfolding all_zero zeros
zero-holds s at zero i h = holds-nil s at
zero-holds s at (suc n) i h =
    let r = all_zero s (at + 1) n in
    holds-cons (omega arith) (eqb-true (byte_at s at) 0 (and_left (eqb (byte_at s at) 0) r h))
    (zero-holds s (at + 1) n (omega arith) (and_right (eqb (byte_at s at) 0) r h))

pub holds-zero : {s : List ℕ} {at : ℕ} (n : ℕ) → HoldsAt s at (zeros n) → all_zero s at n ≡ true
unfolding all_zero zeros
holds-zero zero h = refl
holds-zero {s} {at} (suc n) h = rw (holds-head h, holds-zero {s = s} {at = at + 1} n (holds-tail h))

-- ---- numbers

pub holds-u16 : {s : List ℕ} {at : ℕ} (v : ℕ) {l : List ℕ} → HoldsAt s at (v % 256 ∷ v / 256 ∷ l) → u16_at s at ≡ v
unfolding u16_at
holds-u16 v h = omega (arith, holds-head h, holds-head (holds-tail h))

pub holds-u32 : {s : List ℕ} {at : ℕ} (v : ℕ) → HoldsAt s at (u32_bytes v) → u32_at s at ≡ v
unfolding u16_at u32_at
holds-u32 {s} {at} v h =
    let a = holds-byte h 1 (omega arith) in
    let b = holds-byte h 2 (omega arith) in
    let c = holds-byte h 3 (omega arith) in
    let e : at + 2 + 1 ≡ at + 3 = omega arith in
    rw e (omega (arith, holds-head h, a, b, c))

-- The bytes of a number.
record Bytes4 (a b c d : ℕ) : Type 0 where
  first : a ≡ (a + 256 * b + 65536 * (c + 256 * d)) % 256
  second : b ≡ (a + 256 * b + 65536 * (c + 256 * d)) / 256 % 256
  third : c ≡ (a + 256 * b + 65536 * (c + 256 * d)) / 65536 % 256
  fourth : d ≡ (a + 256 * b + 65536 * (c + 256 * d)) / 16777216

bytes_4 : (a b c d : ℕ) → a < 256 → b < 256 → c < 256 → Bytes4 a b c d
bytes_4 a b c d i j k =
    let v = a + 256 * b + 65536 * (c + 256 * d) in
    let e : v / 256 ≡ b + 256 * (c + 256 * d) = omega arith in
    let f : v / 65536 ≡ c + 256 * d = omega arith in
    record {
      first = omega arith;
      second = rw e (omega arith);
      third = rw f (omega arith);
      fourth = omega arith;
    }

module _ (s : List ℕ) (o : Octets s) where
  pub two-holds : (at : ℕ) {a b : ℕ} → at + 2 ≤ length s → byte_at s at ≡ a → byte_at s (at + 1) ≡ b → HoldsAt s at (a ∷ b ∷ [])
  two-holds at i e f = holds-cons (omega arith) e (holds-cons (omega arith) f (holds-nil s (at + 1 + 1)))

  pub u16-holds : (at : ℕ) → at + 2 ≤ length s → HoldsAt s at (u16_bytes (u16_at s at))
  unfolding u16_at
  u16-holds at i = let a = o.small at in two-holds at i (omega arith) (omega arith)

  pub u32-holds : (at : ℕ) → at + 4 ≤ length s → HoldsAt s at (u32_bytes (u32_at s at))
  unfolding u32_at u16_at
  u32-holds at i =
      let w = bytes_4 (byte_at s at) (byte_at s (at + 1)) (byte_at s (at + 2)) (byte_at s (at + 2 + 1)) (o.small at) (o.small (at + 1)) (o.small (at + 2)) in
      let v = u32_at s at in
      holds-join (v % 256 ∷ v / 256 % 256 ∷ []) (v / 65536 % 256 ∷ v / 16777216 ∷ []) 2 refl
      (two-holds at (omega arith) w.first w.second) (two-holds (at + 2) (omega arith) w.third w.fourth)
