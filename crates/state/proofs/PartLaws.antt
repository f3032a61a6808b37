-- Laws of bytes that stand in others: what stands in a slice is read there, and a part that is replaced. The state's byte form is made of
-- parts of fixed sizes, so every law about it is one of these.
use Rattle.std.specs.Prelude.{◌≡◌, get_or, take, drop}
use Rattle.std.proofs.Math.Path.{refl, sym, ap}
use Rattle.std.proofs.Common.{subst, ◌∙◌, mul-zero, take-append-drop, get_or-drop, drop-drop, take_at, drop_at, length-take-le}
use mathlib.Core.List.{List, [], ◌++◌, append_assoc, append-nil}
use Prim.Native.Nat.{ℕ, zero, suc, ◌+◌, ◌-◌, ◌*◌, ◌≤◌, ◌<◌}
use Rattle.std.proofs.Math.Nat.{add-zero, mul-suc}
use native.Mathlib.Omega.{arith}
use Rattle.std.proofs.Math.ListN.{length, length-append, get_or-append}
use Rattle.std.proofs.Math.Seq.{take-append-add, drop-append-add}
use Rattle.std.proofs.lemmas.List.{take-append-le, drop-append-le}
use Rattle.wire.specs.Wire.{byte_at, part, with_part}
use Rattle.wire.specs.WireLaws.{length_part, length-with_part}
use Rattle.state.specs.Bytes.{zeros, joined, padded}

-- ---- past the first of two

pub take_past : (a b : List ℕ) (n k : ℕ) → length a ≡ n → take (n + k) (a ++ b) ≡ a ++ take k b
take_past a b n k e = rw (← e) (take-append-add a b k)

pub drop_past : (a b : List ℕ) (n k : ℕ) → length a ≡ n → drop (n + k) (a ++ b) ≡ drop k b
drop_past a b n k e = rw (← e) (drop-append-add a b k)

-- ---- zeros

pub length-zeros : (n : ℕ) → length (zeros n) ≡ n
unfolding zeros
length-zeros zero = refl
length-zeros (suc n) = ap suc (length-zeros n)

pub byte-zeros : (n k : ℕ) → byte_at (zeros n) k ≡ 0
unfolding zeros
byte-zeros zero k = refl
byte-zeros (suc n) zero = refl
byte-zeros (suc n) (suc k) = byte-zeros n k

pub length-padded : (n : ℕ) (l : List ℕ) → length l ≤ n → length (padded n l) ≡ n
length-padded n l h = length-append l (zeros (n - length l)) ∙ omega (arith, length-zeros (n - length l))

-- ---- bytes that stand in others

-- l stands in s from `at` on.
pub record HoldsAt (s : List ℕ) (at : ℕ) (l : List ℕ) : Type 0 where
  pub after : List ℕ
  pub bytes : drop at s ≡ l ++ after

pub holds-whole : (l : List ℕ) → HoldsAt l 0 l
holds-whole l = record { after = []; bytes = sym (append-nil l) }

module _ {s : List ℕ} {at : ℕ} where
  -- The first part of what stands there.
  pub holds-first : (a b : List ℕ) → HoldsAt s at (a ++ b) → HoldsAt s at a
  holds-first a b h = record { after = b ++ h.after; bytes = h.bytes ∙ append_assoc a b h.after }

  -- The rest, past the n bytes of the first part.
  pub holds-rest : (a b : List ℕ) (n : ℕ) → length a ≡ n → HoldsAt s at (a ++ b) → HoldsAt s (at + n) b
  holds-rest a b n e h = record {
    after = h.after;
    bytes = sym (drop-drop n at s) ∙ ap (drop n) (h.bytes ∙ append_assoc a b h.after) ∙ drop_at a (b ++ h.after) n e;
  }

  pub holds-byte : {l : List ℕ} → HoldsAt s at l → (k : ℕ) → k < length l → byte_at s (at + k) ≡ byte_at l k
  holds-byte {l} h k i = sym (get_or-drop at s k 0) ∙ ap (λ (x : List ℕ). get_or x k 0) h.bytes ∙ get_or-append l h.after 0 k i

  pub holds-part : {l : List ℕ} → HoldsAt s at l → (n : ℕ) → length l ≡ n → part s at n ≡ l
  holds-part {l} h n e = ap (take n) h.bytes ∙ take_at l h.after n e

-- ---- a part that is replaced

-- The part y where the part x of the same length stood.
pub replace-middle : (a x b y : List ℕ) (n : ℕ) → length a ≡ n → length y ≡ length x → with_part (a ++ (x ++ b)) n y ≡ a ++ (y ++ b)
replace-middle a x b y n e f =
    let d : drop (n + length y) (a ++ (x ++ b)) ≡ b =
    sym (drop-drop (length y) n (a ++ (x ++ b))) ∙ ap (drop (length y)) (drop_at a (x ++ b) n e) ∙ drop_at x b (length y) (sym f) in
    rw (take_at a (x ++ b) n e, d)

-- In the second of two.
pub replace-rest : (a b : List ℕ) (n at : ℕ) (y : List ℕ) → length a ≡ n → with_part (a ++ b) (n + at) y ≡ a ++ with_part b at y
replace-rest a b n at y e =
    let i : n + at + length y ≡ n + (at + length y) = omega arith in
    rw (i, take_past a b n at e, drop_past a b n (at + length y) e, append_assoc)

-- In the first of two.
pub replace-first : (a b : List ℕ) (at : ℕ) (y : List ℕ) → at + length y ≤ length a → with_part (a ++ b) at y ≡ with_part a at y ++ b
replace-first a b at y h =
    rw (take-append-le at a b (omega arith), drop-append-le (at + length y) a b h) (simp append_assoc)

-- A part of a part.
within : (a m c : List ℕ) (n k : ℕ) (y : List ℕ) → length a ≡ n → k + length y ≤ length m
    → with_part (a ++ (m ++ c)) n (with_part m k y) ≡ with_part (a ++ (m ++ c)) (n + k) y
within a m c n k y e i =
    replace-middle a m c (with_part m k y) n e (length-with_part m k y i)
    ∙ ap (λ (x : List ℕ). a ++ x) (sym (replace-first m c k y i))
    ∙ sym (replace-rest a (m ++ c) n k y e)

pub replace-within : (s : List ℕ) (at n k : ℕ) (y : List ℕ) → at + n ≤ length s → k + length y ≤ n
    → with_part s at (with_part (part s at n) k y) ≡ with_part s (at + k) y
replace-within s at n k y h i =
    let m = part s at n in
    let split : take at s ++ (m ++ drop n (drop at s)) ≡ s =
    ap (λ (x : List ℕ). take at s ++ x) (take-append-drop n (drop at s)) ∙ take-append-drop at s in
    subst (λ (x : List ℕ). with_part x at (with_part m k y) ≡ with_part x (at + k) y) split
    (within (take at s) m (drop n (drop at s)) at k y (length-take-le at s (omega arith)) (omega (arith, length_part s at n h)))

-- What was put there is there, and is replaced by the next.
pub part-replaced : (s : List ℕ) (at : ℕ) (y : List ℕ) → at ≤ length s → part (with_part s at y) at (length y) ≡ y
part-replaced s at y h =
    ap (take (length y)) (drop_at (take at s) (y ++ drop (at + length y) s) at (length-take-le at s h)) ∙ take_at y (drop (at + length y) s) (length y) refl

pub replace-again : (s : List ℕ) (at : ℕ) (y z : List ℕ) → at ≤ length s → length z ≡ length y → with_part (with_part s at y) at z ≡ with_part s at z
replace-again s at y z h e =
    replace-middle (take at s) y (drop (at + length y) s) z at (length-take-le at s h) e
    ∙ ap (λ (i : ℕ). take at s ++ (z ++ drop (at + i) s)) (sym e)

-- Two parts of a part.
pub replace-both : (s : List ℕ) (at n k l : ℕ) (a b : List ℕ) → at + n ≤ length s → k + length a ≤ n → l + length b ≤ n
    → with_part s at (with_part (with_part (part s at n) k a) l b) ≡ with_part (with_part s (at + k) a) (at + l) b
replace-both s at n k l a b h i j =
    let m = part s at n in
    let y = with_part m k a in
    let lm : length m ≡ n = length_part s at n h in
    let ly : length y ≡ n = length-with_part m k a (omega arith) ∙ lm in
    let lz : length (with_part y l b) ≡ n = length-with_part y l b (omega arith) ∙ ly in
    let s1 = with_part s at y in
    let l1 : length s1 ≡ length s = length-with_part s at y (omega arith) in
    let p : part s1 at n ≡ y = ap (part s1 at) (sym ly) ∙ part-replaced s at y (omega arith) in
    sym (replace-again s at y (with_part y l b) (omega arith) (omega arith))
    ∙ ap (λ (x : List ℕ). with_part s1 at (with_part x l b)) (sym p)
    ∙ replace-within s1 at n l b (omega arith) j
    ∙ ap (λ (x : List ℕ). with_part x (at + l) b) (replace-within s at n k a h i)

-- ---- parts of one size, one after another

pub joined_same : (f g : ℕ → List ℕ) (k n : ℕ) → ((i : ℕ) → k ≤ i → f i ≡ g i) → joined f k n ≡ joined g k n
unfolding joined
joined_same f g k zero h = refl
joined_same f g k (suc n) h = rw (h k (omega arith), joined_same f g (suc k) n (λ i l. h i (omega arith)))

module _ (f : ℕ → List ℕ) (w : ℕ) (sized : (i : ℕ) → length (f i) ≡ w) where
  pub length-joined : (k n : ℕ) → length (joined f k n) ≡ w * n
  unfolding joined
  length-joined k zero = sym (mul-zero w)
  length-joined k (suc n) =
      length-append (f k) (joined f (suc k) n) ∙ omega (arith, sized k, length-joined (suc k) n, mul-suc w n)

  -- The i-th of them stands w * i bytes further on.
  pub holds-joined : {s : List ℕ} {at : ℕ} (k n i : ℕ) → i < n → HoldsAt s at (joined f k n) → HoldsAt s (at + w * i) (f (k + i))
  unfolding joined
  holds-joined k zero i l h = absurd (omega arith)
  holds-joined {s} {at} k (suc n) zero l h = rw (mul-zero, add-zero at, add-zero k) (holds-first (f k) (joined f (suc k) n) h)
  holds-joined {s} {at} k (suc n) (suc i) l h =
      let e : at + w * suc i ≡ at + w + w * i = omega (arith, mul-suc w i) in
      let d : k + suc i ≡ suc k + i = omega arith in
      rw (e, d) (holds-joined {s = s} {at = at + w} (suc k) n i (omega arith) (holds-rest (f k) (joined f (suc k) n) w (sized k) h))

  -- Another one in place of the i-th.
  pub replace-joined : (g : ℕ → List ℕ) (k n i : ℕ) → i < n → length (g (k + i)) ≡ w → ((j : ℕ) → (j ≡ k + i → ⊥) → g j ≡ f j)
      → joined g k n ≡ with_part (joined f k n) (w * i) (g (k + i))
  unfolding joined
  replace-joined g k zero i l e h = absurd (omega arith)
  replace-joined g k (suc n) zero l e h =
      let e' : length (g k) ≡ w = rw (add-zero k) at e in
      rw (mul-zero, add-zero) (ap (λ (x : List ℕ). g k ++ x) (joined_same g f (suc k) n (λ j m. h j (λ q. omega arith)))
      ∙ sym (replace-middle [] (f k) (joined f (suc k) n) (g k) 0 refl (omega (arith, sized k))))
  replace-joined g k (suc n) (suc i) l e h =
      let a : w * suc i ≡ w + w * i = omega (arith, mul-suc w i) in
      let d : k + suc i ≡ suc k + i = omega arith in
      rw (a, d) (ap (λ (x : List ℕ). x ++ joined g (suc k) n) (h k (λ q. omega arith))
      ∙ ap (λ (x : List ℕ). f k ++ x) (replace-joined g (suc k) n i (omega arith) (rw d at e) (λ j q. h j (λ r. q (omega arith))))
      ∙ sym (replace-rest (f k) (joined f (suc k) n) w (w * i) (g (suc k + i)) (sized k)))
