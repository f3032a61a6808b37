-- Laws of numbers in bytes, so that callers need not look at bytes: what is stored is read back (`same-16` ..), what lies apart is
-- kept (`other-16` ..), a store keeps the length, a lent part agrees with the whole, and a store puts bytes in the place of others (`put-16` ..).
use Rattle.std.specs.Prelude.{ℕ, ◌+◌, ◌-◌, ◌/◌, ◌%◌, ◌≤◌, ◌<◌, ◌⊎◌, ◌≡◌, refl, List, [], ◌∷◌, ◌++◌, set, length, take, drop}
use Rattle.std.proofs.Common.{arith, add-zero, add-one, inl, inr, ⊎_elim, sym, ◌∙◌, ap, append_assoc, length-set, length-append, length-take, length-drop, take-append-drop, get_or-set_same, get_or-set_other, get_or-take, get_or-drop, get_or-append-add, drop-set-lt, drop-drop, length-take-le, take_at, drop_at}
use Rattle.std.proofs.Math.ListN.{get_or-eq_default, get_or-append}
use Rattle.std.proofs.lemmas.List.{drop-set-add, take-set-le, set_split}
use Rattle.std.proofs.Math.Seq.{take-set-lt}
use Rattle.wire.specs.Wire.{byte_at, u16_at, u32_at, u64_at, put_u16, put_u32, put_u64, part, with_part, u16_bytes, u32_bytes}

-- The n bytes at k and the m bytes at `at` have none in common.
abbrev pub SpansApart : ℕ → ℕ → ℕ → ℕ → Type 0
SpansApart k n at m = (k + n ≤ at) ⊎ (at + m ≤ k)

-- ---- two slices that agree on a run of bytes

-- The n bytes of s at i are those of t at j.
pub record Agree (s : List ℕ) (i : ℕ) (t : List ℕ) (j n : ℕ) : Type 0 where
  pub bytes : (k : ℕ) → k < n → byte_at s (i + k) ≡ byte_at t (j + k)

-- A later and shorter run of the same.
pub agree-later : {s t : List ℕ} {i j n : ℕ} (k m : ℕ) → k + m ≤ n → Agree s i t j n → Agree s (i + k) t (j + k) m
agree-later {s} {t} {i} {j} k m h a = record {
  bytes = λ q l.
      let e : i + k + q ≡ i + (k + q) = omega arith in
      let f : j + k + q ≡ j + (k + q) = omega arith in
      rw (e, f) (a.bytes (k + q) (omega arith));
}

pub agree-first : {s t : List ℕ} {i j n : ℕ} (m : ℕ) → m ≤ n → Agree s i t j n → Agree s i t j m
agree-first m h a = record { bytes = λ q l. a.bytes q (omega arith) }

pub agree-byte : {s t : List ℕ} {i j : ℕ} → Agree s i t j 1 → byte_at s i ≡ byte_at t j
agree-byte {s} {t} {i} {j} a = rw (add-zero i, add-zero j) at (a.bytes 0 (omega arith))

pub agree-16 : {s t : List ℕ} {i j : ℕ} → Agree s i t j 2 → u16_at s i ≡ u16_at t j
unfolding u16_at
agree-16 {s} {t} {i} {j} a = omega (arith, agree-byte (agree-first 1 (omega arith) a), a.bytes 1 (omega arith))

pub agree-32 : {s t : List ℕ} {i j : ℕ} → Agree s i t j 4 → u32_at s i ≡ u32_at t j
unfolding u32_at
agree-32 a = omega (arith, agree-16 (agree-first 2 (omega arith) a), agree-16 (agree-later 2 2 (omega arith) a))

pub agree-64 : {s t : List ℕ} {i j : ℕ} → Agree s i t j 8 → u64_at s i ≡ u64_at t j
unfolding u64_at
agree-64 a = omega (arith, agree-32 (agree-first 4 (omega arith) a), agree-32 (agree-later 4 4 (omega arith) a))

pub agree-both : {s t u : List ℕ} {i j k n : ℕ} → Agree s i t j n → Agree t j u k n → Agree s i u k n
agree-both a b = record { bytes = λ q l. a.bytes q l ∙ b.bytes q l }

-- ---- past the end

pub byte_past : (s : List ℕ) (at : ℕ) → length s ≤ at → byte_at s at ≡ 0
byte_past s at h = get_or-eq_default s 0 h

pub u16-past : (s : List ℕ) (at : ℕ) → length s ≤ at → u16_at s at ≡ 0
unfolding u16_at
u16-past s at h = omega (arith, byte_past s at h, byte_past s (at + 1) (omega arith))

pub u32-past : (s : List ℕ) (at : ℕ) → length s ≤ at → u32_at s at ≡ 0
unfolding u32_at
u32-past s at h = omega (arith, u16-past s at h, u16-past s (at + 2) (omega arith))

-- A number of whose bytes only the first half stands in the slice.
pub u32-short : (s : List ℕ) (at : ℕ) → length s ≤ at + 2 → u32_at s at ≡ u16_at s at
unfolding u32_at
u32-short s at h = omega (arith, u16-past s (at + 2) h)

pub u64-short : (s : List ℕ) (at : ℕ) → length s ≤ at + 4 → u64_at s at ≡ u32_at s at
unfolding u64_at
u64-short s at h = omega (arith, u32-past s (at + 4) h)

-- ---- a number of bytes is below its width's power

pub u16-below : (s : List ℕ) (at : ℕ) → ((k : ℕ) → byte_at s k < 256) → u16_at s at < 0x10000
unfolding u16_at
u16-below s at bytes = omega (arith, bytes at, bytes (at + 1))

pub u32-below : (s : List ℕ) (at : ℕ) → ((k : ℕ) → byte_at s k < 256) → u32_at s at < 0x100000000
unfolding u32_at
u32-below s at bytes = omega (arith, u16-below s at bytes, u16-below s (at + 2) bytes)

pub u64-below : (s : List ℕ) (at : ℕ) → ((k : ℕ) → byte_at s k < 256) → u64_at s at < 0x10000000000000000
unfolding u64_at
u64-below s at bytes = omega (arith, u32-below s at bytes, u32-below s (at + 4) bytes)

-- ---- the length is kept

pub length-16 : (s : List ℕ) (at v : ℕ) → length (put_u16 s at v) ≡ length s
unfolding put_u16
length-16 s at v = simp length-set

pub length-32 : (s : List ℕ) (at v : ℕ) → length (put_u32 s at v) ≡ length s
unfolding put_u32
length-32 s at v = simp length-16

pub length-64 : (s : List ℕ) (at v : ℕ) → length (put_u64 s at v) ≡ length s
unfolding put_u64
length-64 s at v = simp length-32

-- ---- what lies apart is kept: `agree-byte`, `agree-16`, .. of these

byte-16 : (s : List ℕ) (at v k : ℕ) → SpansApart k 1 at 2 → byte_at (put_u16 s at v) k ≡ byte_at s k
unfolding put_u16
byte-16 s at v k h =
    get_or-set_other (set s at (v % 256)) (at + 1) k (v / 256) 0 (λ e. ⊎_elim (λ l. omega arith) (λ l. omega arith) h)
    ∙ get_or-set_other s at k (v % 256) 0 (λ e. ⊎_elim (λ l. omega arith) (λ l. omega arith) h)

byte-32 : (s : List ℕ) (at v k : ℕ) → SpansApart k 1 at 4 → byte_at (put_u32 s at v) k ≡ byte_at s k
unfolding put_u32
byte-32 s at v k h =
    byte-16 (put_u16 s at (v % 0x10000)) (at + 2) (v / 0x10000) k (⊎_elim (λ l. inl (omega arith)) (λ l. inr (omega arith)) h)
    ∙ byte-16 s at (v % 0x10000) k (⊎_elim (λ l. inl (omega arith)) (λ l. inr (omega arith)) h)

byte-64 : (s : List ℕ) (at v k : ℕ) → SpansApart k 1 at 8 → byte_at (put_u64 s at v) k ≡ byte_at s k
unfolding put_u64
byte-64 s at v k h =
    byte-32 (put_u32 s at (v % 0x100000000)) (at + 4) (v / 0x100000000) k (⊎_elim (λ l. inl (omega arith)) (λ l. inr (omega arith)) h)
    ∙ byte-32 s at (v % 0x100000000) k (⊎_elim (λ l. inl (omega arith)) (λ l. inr (omega arith)) h)

apart-byte : (k n at m : ℕ) → SpansApart k n at m → (q : ℕ) → q < n → SpansApart (k + q) 1 at m
apart-byte k n at m (inl h) q l = inl (omega arith)
apart-byte k n at m (inr h) q l = inr (omega arith)

pub other-16 : (s : List ℕ) (at v k n : ℕ) → SpansApart k n at 2 → Agree (put_u16 s at v) k s k n
other-16 s at v k n h = record { bytes = λ q l. byte-16 s at v (k + q) (apart-byte k n at 2 h q l) }

pub other-32 : (s : List ℕ) (at v k n : ℕ) → SpansApart k n at 4 → Agree (put_u32 s at v) k s k n
other-32 s at v k n h = record { bytes = λ q l. byte-32 s at v (k + q) (apart-byte k n at 4 h q l) }

pub other-64 : (s : List ℕ) (at v k n : ℕ) → SpansApart k n at 8 → Agree (put_u64 s at v) k s k n
other-64 s at v k n h = record { bytes = λ q l. byte-64 s at v (k + q) (apart-byte k n at 8 h q l) }

-- ---- what is stored is read back

pub same-16 : (s : List ℕ) (at v : ℕ) → at + 2 ≤ length s → u16_at (put_u16 s at v) at ≡ v
unfolding u16_at put_u16
same-16 s at v h =
    let a : at ≡ at + 1 → ⊥ = λ e. omega arith in
    simp (
      get_or-set_other (set s at (v % 256)) (at + 1) at (v / 256) 0 a,
      get_or-set_same s at (v % 256) 0 (omega arith),
      get_or-set_same (set s at (v % 256)) (at + 1) (v / 256) 0 (simp length-set (omega arith)),
    )
    (omega arith)

pub same-32 : (s : List ℕ) (at v : ℕ) → at + 4 ≤ length s → u32_at (put_u32 s at v) at ≡ v
unfolding u32_at put_u32
same-32 s at v h =
    let low = put_u16 s at (v % 0x10000) in
    let a = agree-16 (other-16 low (at + 2) (v / 0x10000) at 2 (inl (omega arith))) in
    let l = length-16 s at (v % 0x10000) in
    omega (arith, a, same-16 s at (v % 0x10000) (omega arith), same-16 low (at + 2) (v / 0x10000) (omega arith))

pub same-64 : (s : List ℕ) (at v : ℕ) → at + 8 ≤ length s → u64_at (put_u64 s at v) at ≡ v
unfolding u64_at put_u64
same-64 s at v h =
    let low = put_u32 s at (v % 0x100000000) in
    let a = agree-32 (other-32 low (at + 4) (v / 0x100000000) at 4 (inl (omega arith))) in
    let l = length-32 s at (v % 0x100000000) in
    omega (arith, a, same-32 s at (v % 0x100000000) (omega arith), same-32 low (at + 4) (v / 0x100000000) (omega arith))

-- ---- a lent part and the whole

pub length_part : (s : List ℕ) (at n : ℕ) → at + n ≤ length s → length (part s at n) ≡ n
length_part s at n h = simp (length-take, length-drop) (omega arith)

-- A read in a part is the read in the whole, the part's start further on.
pub part-agrees : (s : List ℕ) (at n k m : ℕ) → k + m ≤ n → Agree (part s at n) k s (at + k) m
part-agrees s at n k m h = record {
  bytes = λ q l.
      let e : at + k + q ≡ at + (k + q) = omega arith in
      rw e (get_or-take n (drop at s) (k + q) 0 (omega arith) ∙ get_or-drop at s (k + q) 0);
}

pub length-with_part : (s : List ℕ) (at : ℕ) (new : List ℕ) → at + length new ≤ length s → length (with_part s at new) ≡ length s
length-with_part s at new h = simp (length-append, length-take, length-drop) (omega arith)

module _ (s : List ℕ) (at : ℕ) (new : List ℕ) (fits : at + length new ≤ length s) where
  head-length : length (take at s) ≡ at
  head-length = length-take-le at s (omega arith)

  inside : (k : ℕ) → k < length new → byte_at (with_part s at new) (at + k) ≡ byte_at new k
  inside k h =
      let e : at + k ≡ length (take at s) + k = omega (arith, head-length) in
      ap (byte_at (with_part s at new)) e ∙ get_or-append-add (take at s) (new ++ drop (at + length new) s) k 0
      ∙ get_or-append new (drop (at + length new) s) 0 k h

  before : (k : ℕ) → k < at → byte_at (with_part s at new) k ≡ byte_at s k
  before k h = get_or-append (take at s) (new ++ drop (at + length new) s) 0 k (omega (arith, head-length)) ∙ get_or-take at s k 0 h

  after : (k : ℕ) → byte_at (with_part s at new) (at + (length new + k)) ≡ byte_at s (at + (length new + k))
  after k =
      let e : at + (length new + k) ≡ length (take at s) + (length new + k) = omega (arith, head-length) in
      let f : at + (length new + k) ≡ at + length new + k = omega arith in
      ap (byte_at (with_part s at new)) e ∙ get_or-append-add (take at s) (new ++ drop (at + length new) s) (length new + k) 0
      ∙ get_or-append-add new (drop (at + length new) s) k 0 ∙ get_or-drop (at + length new) s k 0 ∙ ap (byte_at s) (sym f)

  -- A read in what was put in its place.
  pub with_part-inside : (k n : ℕ) → k + n ≤ length new → Agree (with_part s at new) (at + k) new k n
  with_part-inside k n h = record
      { bytes = λ q l. let e : at + k + q ≡ at + (k + q) = omega arith in rw e (inside (k + q) (omega arith)) }

  -- A read elsewhere.
  pub with_part-outside : (k n : ℕ) → SpansApart k n at (length new) → Agree (with_part s at new) k s k n
  with_part-outside k n (inl h) = record { bytes = λ q l. before (k + q) (omega arith) }
  with_part-outside k n (inr h) = record {
    bytes = λ q l.
        let e : at + (length new + (k + q - (at + length new))) ≡ k + q = omega arith in
        rw e at (after (k + q - (at + length new)));
  }

-- ---- bytes in the place of others

-- Some, and the next right after them.
pub parts_join : (s : List ℕ) (at : ℕ) (x y : List ℕ) (n : ℕ) → at ≤ length s → length x ≡ n → with_part (with_part s at x) (at + n) y ≡ with_part s at (x ++ y)
parts_join s at x y n h e =
    let front = take at s ++ x in
    let rest = drop (at + length x) s in
    let tail = drop (at + length (x ++ y)) s in
    let l : length front ≡ at + n = length-append (take at s) x ∙ omega (arith, length-take-le at s h, e) in
    let j : at + length x + length y ≡ at + length (x ++ y) = omega (arith, length-append x y) in
    let d : drop (at + n + length y) (front ++ rest) ≡ tail =
    sym (drop-drop (length y) (at + n) (front ++ rest)) ∙ (ap (drop (length y)) (drop_at front rest (at + n) l)
    ∙ (drop-drop (length y) (at + length x) s ∙ ap (λ (i : ℕ). drop i s) j)) in
    ap (λ (z : List ℕ). with_part z (at + n) y) (sym (append_assoc (take at s) x rest))
    ∙ (ap (λ (z : List ℕ). z ++ (y ++ drop (at + n + length y) (front ++ rest))) (take_at front rest (at + n) l)
    ∙ (ap (λ (z : List ℕ). front ++ (y ++ z)) d
    ∙ (append_assoc (take at s) x (y ++ tail) ∙ ap (λ (z : List ℕ). take at s ++ z) (sym (append_assoc x y tail)))))

-- The same of a store s₁ and the next store s₂, at a.
pub parts_next : (s : List ℕ) (at : ℕ) {s₁ s₂ : List ℕ} (x y : List ℕ) (n a : ℕ) → at ≤ length s → length x ≡ n → a ≡ at + n → s₁ ≡ with_part s at x
    → s₂ ≡ with_part s₁ a y → s₂ ≡ with_part s at (x ++ y)
parts_next s at x y n a h e i p q =
    q ∙ (ap (λ (z : List ℕ). with_part z a y) p ∙ (ap (λ (j : ℕ). with_part (with_part s at x) j y) i ∙ parts_join s at x y n h e))

-- ---- a store puts a number's bytes in the place of others

pub put-8 : (s : List ℕ) (at v : ℕ) → at + 1 ≤ length s → set s at v ≡ with_part s at (v ∷ [])
put-8 s at v h = set_split s at v (omega arith) ∙ ap (λ (i : ℕ). take at s ++ (v ∷ drop i s)) (sym (add-one at))

pub put-16 : (s : List ℕ) (at v : ℕ) → at + 2 ≤ length s → put_u16 s at v ≡ with_part s at (u16_bytes v)
unfolding put_u16
put-16 s at v h =
    let low = set s at (v % 256) in
    let l = length-set s at (v % 256) in
    parts_next s at (v % 256 ∷ []) (v / 256 ∷ []) 1 (at + 1) (omega arith) refl refl
    (put-8 s at (v % 256) (omega arith)) (put-8 low (at + 1) (v / 256) (omega (arith, l)))

pub put_32 : (s : List ℕ) (at v : ℕ) → at + 4 ≤ length s → put_u32 s at v ≡ with_part s at (u32_bytes v)
unfolding put_u32
put_32 s at v h =
    let low = put_u16 s at (v % 0x10000) in
    let l = length-16 s at (v % 0x10000) in
    let a : v % 0x10000 % 256 ≡ v % 256 = omega arith in
    let d : v / 256 / 256 ≡ v / 0x10000 = omega arith in
    let b : v % 0x10000 / 256 ≡ v / 256 % 256 = omega (arith, d) in
    let c : v / 0x10000 / 256 ≡ v / 16777216 = omega arith in
    rw (← a, ← b, ← c) (parts_next s at (u16_bytes (v % 0x10000)) (u16_bytes (v / 0x10000)) 2 (at + 2) (omega arith) refl refl
    (put-16 s at (v % 0x10000) (omega arith)) (put-16 low (at + 2) (v / 0x10000) (omega (arith, l))))

pub put-64 : (s : List ℕ) (at v : ℕ) → at + 8 ≤ length s → put_u64 s at v ≡ with_part s at (u32_bytes (v % 0x100000000) ++ u32_bytes (v / 0x100000000))
unfolding put_u64
put-64 s at v h =
    let low = put_u32 s at (v % 0x100000000) in
    let l = length-32 s at (v % 0x100000000) in
    parts_next s at (u32_bytes (v % 0x100000000)) (u32_bytes (v / 0x100000000)) 4 (at + 4) (omega arith) refl refl
    (put_32 s at (v % 0x100000000) (omega arith)) (put_32 low (at + 4) (v / 0x100000000) (omega (arith, l)))

-- ---- stores in a lent part are stores in the whole, the part's start further on

-- After stores, p is what the part of n bytes at `at` holds, and s' what the whole holds that was s.
pub record Through (s : List ℕ) (at n : ℕ) (p s' : List ℕ) : Type 0 where
  pub held : p ≡ part s' at n
  pub front : take at s' ≡ take at s
  pub back : drop (at + n) s' ≡ drop (at + n) s
  pub long : length s' ≡ length s

pub through-start : (s : List ℕ) (at n : ℕ) → Through s at n (part s at n) s
through-start s at n = record { held = refl; front = refl; back = refl; long = refl }

module _ {s : List ℕ} {at n : ℕ} {p s' : List ℕ} (t : Through s at n p s') where
  pub through-set : (k v : ℕ) → k < n → Through s at n (set p k v) (set s' (at + k) v)
  through-set k v h = record {
    held = ap (λ (x : List ℕ). set x k v) t.held ∙ sym (ap (take n) (drop-set-add at s' k v) ∙ take-set-lt n (drop at s') k v h);
    front = take-set-le at s' (at + k) v (omega arith) ∙ t.front;
    back = drop-set-lt (at + n) s' (at + k) v (omega arith) ∙ t.back;
    long = length-set s' (at + k) v ∙ t.long;
  }

  -- The whole once the part is back.
  pub through-whole : at + n ≤ length s → with_part s at p ≡ s'
  through-whole h =
      let e : length p ≡ n = ap length t.held ∙ length_part s' at n (omega (arith, t.long)) in
      let b : drop (at + n) s ≡ drop n (drop at s') = sym t.back ∙ sym (drop-drop n at s') in
      ap (λ (i : ℕ). take at s ++ (p ++ drop (at + i) s)) e
      ∙ ap (λ (x : List ℕ). take at s ++ (p ++ x)) b
      ∙ ap (λ (x : List ℕ). take at s ++ (x ++ drop n (drop at s'))) t.held
      ∙ ap (λ (x : List ℕ). take at s ++ x) (take-append-drop n (drop at s'))
      ∙ ap (λ (x : List ℕ). x ++ drop at s') (sym t.front)
      ∙ take-append-drop at s'

pub through-16 : {s : List ℕ} {at n : ℕ} {p s' : List ℕ} → Through s at n p s' → (k v : ℕ) → k + 2 ≤ n
    → Through s at n (put_u16 p k v) (put_u16 s' (at + k) v)
unfolding put_u16
through-16 {at = at} t k v h =
    let e : at + k + 1 ≡ at + (k + 1) = omega arith in
    rw e (through-set (through-set t k (v % 256) (omega arith)) (k + 1) (v / 256) (omega arith))

pub through-32 : {s : List ℕ} {at n : ℕ} {p s' : List ℕ} → Through s at n p s' → (k v : ℕ) → k + 4 ≤ n
    → Through s at n (put_u32 p k v) (put_u32 s' (at + k) v)
unfolding put_u32
through-32 {at = at} t k v h =
    let e : at + k + 2 ≡ at + (k + 2) = omega arith in
    rw e (through-16 (through-16 t k (v % 0x10000) (omega arith)) (k + 2) (v / 0x10000) (omega arith))

pub through-64 : {s : List ℕ} {at n : ℕ} {p s' : List ℕ} → Through s at n p s' → (k v : ℕ) → k + 8 ≤ n
    → Through s at n (put_u64 p k v) (put_u64 s' (at + k) v)
unfolding put_u64
through-64 {at = at} t k v h =
    let e : at + k + 4 ≡ at + (k + 4) = omega arith in
    rw e (through-32 (through-32 t k (v % 0x100000000) (omega arith)) (k + 4) (v / 0x100000000) (omega arith))
