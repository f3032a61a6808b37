-- Laws of sets of root ids: one for each way out of the functions that make, join, store and compare them.
use Prim.Native.Nat.{ℕ, zero, suc, ◌+◌, ◌-◌, ◌*◌, ◌/◌, ◌%◌, ◌^◌, ◌<◌, ◌≤◌}
use mathlib.Core.Path.{◌≡◌, refl, sym, ◌∙◌, ap, subst}
use mathlib.Core.List.{List, ◌++◌}
use mathlib.Core.Bool.{Bool, true, false, ◌&&◌, ◌||◌}
use mathlib.Core.Logic.{◌⊎◌, inl, inr, ⊎_elim}
use native.Mathlib.Nat.{mod-lt, mod-eq_of_lt}
use native.Mathlib.Omega.{arith}
use lib.ListN.{get_or, set, take, drop, length, length-set, replicate, get_or-append}
use borrow.Rule.Slice.PartMut.{put_mid, post_of, mid_len, same_len_mid}
use lib.Seq.{get_or-set_same, get_or-set_other, get_or-append_right, get_or-take, get_or-drop, length-take-le}
use lib.Dec.{eqb, ltb}
use lib.Bits.{bit_and, bit_or}
use borrow.Author.Tests.{eq-eqb, ne_eqb, eqb-true, ltb-true}
use Rattle.tree_forest.specs.Compare.{Compare, lt, eq, gt, compare}
use Rattle.basics.specs.Choice.{pick}
use Rattle.basics.specs.TestLaws.{and-of, both_true, clash, or-false, or_left, or-of, or_right}
use Rattle.wire.specs.Wire.{u16_at}
use Rattle.network.specs.Layout.{path_count, path_at}
use Rattle.network.specs.Decode.{path_of}
use Rattle.check_roots.specs.Sets.{digit, in_set, root_at, path_root, row_for, Represented, Represents, SetOf, SetsOf, WithPath, Joined, Stored, SetsApart}
use Rattle.check_roots.proofs.BitLaws.{digit_or, digit_and, digit-zero, digit-power, some-digit, or-zero-both}

-- ---- bytes

below : (n : ℕ) → n % 256 < 256
below n = mod-lt n (omega arith)

-- ---- the table of P rows

-- The table does for the P rows from p up to n.
pub record Doing (file before table : List ℕ) (p n : ℕ) : Type 0 where
  pub size : length before ≡ 65536 → length table ≡ 65536
  pub within : n ≤ 256
  pub so_far : p ≤ n
  pub same : length before ≡ 65536 → (q : ℕ) → p ≤ q → q < n → root_at file (row_for table (root_at file q)) ≡ root_at file q

pub doing-none : (file table : List ℕ) (c n : ℕ) → n ≡ pick (ltb c 256) c 256 → Doing file table table n n
doing-none file table c n e = record { size = λ s. s; within = go (ltb c 256) refl; so_far = omega arith; same = λ s q p l. absurd (omega arith) }
  where
    go : (t : Bool) → ltb c 256 ≡ t → n ≤ 256
    go true f = let g : n ≡ c = e ∙ ap (λ (t : Bool). pick t c 256) f in let h = ltb-true c 256 f in omega arith
    go false f = let g : n ≡ 256 = e ∙ ap (λ (t : Bool). pick t c 256) f in omega arith

same_or : (i j : ℕ) → (j ≡ i → ⊥) ⊎ (j ≡ i)
same_or i j = by (compare i j)
  where
    by : Compare i j → (j ≡ i → ⊥) ⊎ (j ≡ i)
    by (lt k) = inl (λ e. omega arith)
    by (gt k) = inl (λ e. omega arith)
    by (eq k) = inr (sym k)

pub doing-more : (file before table : List ℕ) (p q n from at id v : ℕ) → Doing file before table p n → 0 < p → q ≡ p - 1 → from ≡ path_at file 0
    → at ≡ u16_at file (from + 8 * q) → id ≡ at → id < 65536 → v ≡ q % 256 → Doing file before (set table id v) q n
unfolding path_at
doing-more file before table p q n from at id v d z e f g h l u = record {
  size = λ s. length-set table id v ∙ d.size s;
  within = d.within;
  so_far = (let a = d.so_far in omega arith);
  same = λ s j a b. by s j a b (same_or id (root_at file j)) (compare q j);
}
  where
    here : root_at file q ≡ id
    here = ap (u16_at file) (omega arith) ∙ (sym g ∙ sym h)

    by : length before ≡ 65536 → (j : ℕ) → q ≤ j → j < n → (root_at file j ≡ id → ⊥) ⊎ (root_at file j ≡ id) → Compare q j
        → root_at file (row_for (set table id v) (root_at file j)) ≡ root_at file j
    by s j a b (inr w) c =
        let y = d.within in
        let len = d.size s in
        ap (λ (x : ℕ). root_at file (get_or (set table id v) x 0 % 256)) w
        ∙ (ap (λ (x : ℕ). root_at file (x % 256)) (get_or-set_same table id v 0 (omega arith) ∙ (u ∙ mod-eq_of_lt (omega arith)))
        ∙ (ap (root_at file) (mod-eq_of_lt (omega arith)) ∙ (here ∙ sym w)))
    by s j a b (inl w) (lt c) = ap (λ (x : ℕ). root_at file (x % 256)) (get_or-set_other table id (root_at file j) v 0 w) ∙ d.same s j (omega arith) b
    by s j a b (inl w) (gt c) = absurd (omega arith)
    by s j a b (inl w) (eq c) = absurd (w (ap (root_at file) (sym c) ∙ here))

pub doing-all : (file before table : List ℕ) (c p n : ℕ) → c ≡ path_count file → n ≡ pick (ltb c 256) c 256 → Doing file before table p n → p ≤ 0
    → Represents file before table
doing-all file before table c p n e f d z = record { tells = λ s. record { same = λ q a b. d.same s q (omega arith) (go q a b (ltb c 256) refl) } }
  where
    go : (q : ℕ) → q < path_count file → q < 256 → (t : Bool) → ltb c 256 ≡ t → q < n
    go q a b true g = let h : n ≡ c = f ∙ ap (λ (t : Bool). pick t c 256) g in omega arith
    go q a b false g = let h : n ≡ 256 = f ∙ ap (λ (t : Bool). pick t c 256) g in omega arith

-- ---- bits of sets

-- The P row k in a set at its own bytes.
in-byte : (s : List ℕ) (at j d : ℕ) → d < 8 → in_set s at (8 * j + d) ≡ digit (get_or s (at + j) 0) d
unfolding in_set
in-byte s at j d h =
    let x : (8 * j + d) / 8 ≡ j = omega arith in
    let y : (8 * j + d) % 8 ≡ d = omega arith in
    ap (λ (z : ℕ). digit (get_or s (at + z) 0) ((8 * j + d) % 8)) x ∙ ap (λ (z : ℕ). digit (get_or s (at + j) 0) z) y

-- A set with the same bytes.
pub set-as : (file table s t : List ℕ) (at bt : ℕ) (f : ℕ → Bool) → ((k : ℕ) → k < 32 → get_or t (bt + k) 0 ≡ get_or s (at + k) 0) → SetOf file table s at f
    → SetOf file table t bt f
unfolding in_set
set-as file table s t at bt f e h = record {
  has = λ i p. (let l = below (get_or table i 0) in ap (λ (x : ℕ). digit x (row_for table i % 8)) (e (row_for table i / 8) (omega arith))) ∙ h.has i p;
  only = λ k l p. h.only k l (sym (ap (λ (x : ℕ). digit x (k % 8)) (e (k / 8) (omega arith))) ∙ p);
}

-- The same root ids.
pub set-of : (file table s : List ℕ) (at : ℕ) (f g : ℕ → Bool) → ((i : ℕ) → f i ≡ g i) → SetOf file table s at f → SetOf file table s at g
set-of file table s at f g e h = record { has = λ i p. h.has i (e i ∙ p); only = λ k l p. sym (e (root_at file k)) ∙ h.only k l p }

zero-at : (n i : ℕ) → ◌≡◌ {A = ℕ} (get_or (replicate n 0) i 0) 0
zero-at zero i = refl
zero-at (suc n) zero = refl
zero-at (suc n) (suc i) = zero-at n i

-- No root id.
pub set-none : (file table : List ℕ) (n : ℕ) → SetOf file table (replicate n 0) 0 (λ i. false)
unfolding in_set
set-none file table n = record {
  has = λ i p. absurd (clash p refl);
  only = λ k l p. absurd (clash p (ap (λ (x : ℕ). digit x (k % 8)) (zero-at n (0 + k / 8)) ∙ digit-zero (k % 8)));
}

-- ---- a path more

set-bit : (s : List ℕ) (k j : ℕ) → length s ≡ 32 → k < 256 → in_set (set s (k / 8) (bit_or (get_or s (k / 8) 0) (2 ^ (k % 8)))) 0 j ≡ (in_set s 0 j || eqb j k)
unfolding in_set
set-bit s k j n h = by (same_or (k / 8) (0 + j / 8))
  where
    v : ℕ
    v = bit_or (get_or s (k / 8) 0) (2 ^ (k % 8))

    tail : 0 + j / 8 ≡ k / 8 → eqb (j % 8) (k % 8) ≡ eqb j k
    tail e = go (compare j k)
      where
        go : Compare j k → eqb (j % 8) (k % 8) ≡ eqb j k
        go (lt c) = ne_eqb (j % 8) (k % 8) (λ x. omega arith) ∙ sym (ne_eqb j k (λ x. omega arith))
        go (gt c) = ne_eqb (j % 8) (k % 8) (λ x. omega arith) ∙ sym (ne_eqb j k (λ x. omega arith))
        go (eq c) = eq-eqb (j % 8) (k % 8) (ap (λ (x : ℕ). x % 8) c) ∙ sym (eq-eqb j k c)

    by : (0 + j / 8 ≡ k / 8 → ⊥) ⊎ (0 + j / 8 ≡ k / 8) → digit (get_or (set s (k / 8) v) (0 + j / 8) 0) (j % 8) ≡ (digit (get_or s (0 + j / 8) 0) (j % 8) || eqb j k)
    by (inl w) =
        ap (λ (x : ℕ). digit x (j % 8)) (get_or-set_other s (k / 8) (0 + j / 8) v 0 w)
        ∙ (or-false (digit (get_or s (0 + j / 8) 0) (j % 8))
        ∙ ap (λ (x : Bool). digit (get_or s (0 + j / 8) 0) (j % 8) || x) (sym (ne_eqb j k (λ x. w (omega arith)))))
    by (inr w) =
        ap (λ (x : ℕ). digit (get_or (set s (k / 8) v) x 0) (j % 8)) w
        ∙ (ap (λ (x : ℕ). digit x (j % 8)) (get_or-set_same s (k / 8) v 0 (omega arith))
        ∙ (digit_or (j % 8) (get_or s (k / 8) 0) (2 ^ (k % 8))
        ∙ (ap (λ (x : ℕ). digit (get_or s x 0) (j % 8) || digit (2 ^ (k % 8)) (j % 8)) (sym w)
        ∙ ap (λ (x : Bool). digit (get_or s (0 + j / 8) 0) (j % 8) || x) (digit-power (k % 8) (j % 8) ∙ tail w))))

pub path-set : (file table s : List ℕ) (p at a id k j v w : ℕ) → length s ≡ 32 → at ≡ path_at file p → a ≡ u16_at file at → id ≡ a → k ≡ get_or table id 0 → k < 256
    → j ≡ k / 8 → v ≡ 2 ^ (k % 8) → w ≡ bit_or (get_or s j 0) v → WithPath file table s p (set s j w)
unfolding path_root path_of
path-set file table s p at a id k j v w n e f g h l c d u = record { tells = λ t r q z m. record { has = has t r q z m; only = only t r q z m } }
  where
    there : id ≡ root_at file p
    there = g ∙ (f ∙ ap (u16_at file) e)

    row : row_for table (root_at file p) ≡ k
    row = ap (row_for table) (sym there) ∙ (ap (λ (x : ℕ). x % 256) (sym h) ∙ mod-eq_of_lt l)

    bit : (i : ℕ) → in_set (set s j w) 0 i ≡ (in_set s 0 i || eqb i k)
    bit i =
        ap (λ (x : ℕ). in_set (set s j x) 0 i) (u ∙ ap (bit_or (get_or s j 0)) d)
        ∙ (ap (λ (x : ℕ). in_set (set s x (bit_or (get_or s x 0) (2 ^ (k % 8)))) 0 i) c ∙ set-bit s k i n l)

    has : (t : ℕ → Bool) → Represented file table → p < path_count file → p < 256 → SetOf file table s 0 t → (i : ℕ) → (t i || eqb i (root_at file p)) ≡ true
        → in_set (set s j w) 0 (row_for table i) ≡ true
    has t r q z m i y =
        bit (row_for table i)
        ∙ ⊎_elim (λ x. or_left (eqb (row_for table i) k) (m.has i x))
        (λ x. or_right (in_set s 0 (row_for table i)) (eq-eqb (row_for table i) k (ap (row_for table) (eqb-true i (root_at file p) x) ∙ row)))
        (or-of (t i) (eqb i (root_at file p)) y)

    only : (t : ℕ → Bool) → Represented file table → p < path_count file → p < 256 → SetOf file table s 0 t → (i : ℕ) → i < 256 → in_set (set s j w) 0 i ≡ true
        → (t (root_at file i) || eqb (root_at file i) (root_at file p)) ≡ true
    only t r q z m i b y =
        ⊎_elim (λ x. or_left (eqb (root_at file i) (root_at file p)) (m.only i b x))
        (λ x. or_right (t (root_at file i)) (eq-eqb (root_at file i) (root_at file p)
        (ap (root_at file) (eqb-true i k x ∙ sym row) ∙ r.same p q z)))
        (or-of (in_set s 0 i) (eqb i k) (sym (bit i) ∙ y))

-- ---- a row's set more

-- The first i bytes of x are joined, the others are as in s.
pub record Joining (s sets : List ℕ) (from i : ℕ) (x : List ℕ) : Type 0 where
  pub size : length x ≡ 32
  pub within : i ≤ 32
  pub done : (k : ℕ) → k < i → get_or x k 0 ≡ bit_or (get_or s k 0) (get_or sets (from + k) 0)
  pub left : (k : ℕ) → i ≤ k → get_or x k 0 ≡ get_or s k 0

pub joining-none : (s sets : List ℕ) (from : ℕ) → length s ≡ 32 → Joining s sets from 0 s
joining-none s sets from n = record { size = n; within = omega arith; done = λ k l. absurd (omega arith); left = λ k l. refl }

pub joining-more : (s sets x : List ℕ) (from i v : ℕ) → Joining s sets from i x → i < 32 → v ≡ bit_or (get_or x i 0) (get_or sets (from + i) 0)
    → Joining s sets from (i + 1) (set x i v)
joining-more s sets x from i v h l e = record {
  size = length-set x i v ∙ h.size;
  within = omega arith;
  done = λ k m. by k (same_or i k) m;
  left = λ k m. get_or-set_other x i k v 0 (λ z. omega arith) ∙ h.left k (omega arith);
}
  where
    by : (k : ℕ) → (k ≡ i → ⊥) ⊎ (k ≡ i) → k < i + 1 → get_or (set x i v) k 0 ≡ bit_or (get_or s k 0) (get_or sets (from + k) 0)
    by k (inl w) m = get_or-set_other x i k v 0 w ∙ h.done k (by-lt (compare k i))
      where
        by-lt : Compare k i → k < i
        by-lt (lt c) = c
        by-lt (gt c) = absurd (omega arith)
        by-lt (eq c) = absurd (w c)
    by k (inr w) m =
        subst (λ (z : ℕ). get_or (set x i v) z 0 ≡ bit_or (get_or s z 0) (get_or sets (from + z) 0)) (sym w)
        (get_or-set_same x i v 0 (let n = h.size in omega arith) ∙ (e ∙ ap (λ (z : ℕ). bit_or z (get_or sets (from + i) 0)) (h.left i (omega arith))))

pub joining-all : (s sets x : List ℕ) (from i r a : ℕ) → Joining s sets from i x → 32 ≤ i → a ≡ r → from ≡ 32 * a → Joined s sets r x
joining-all s sets x from i r a h l e f = record {
  each = λ k b c. h.done k (omega arith) ∙ ap (λ (z : ℕ). bit_or (get_or s k 0) (get_or sets (z + k) 0)) (f ∙ ap (λ (z : ℕ). 32 * z) e);
}

pub joined-past : (s sets : List ℕ) (r : ℕ) → 255 < r → Joined s sets r s
joined-past s sets r h = record { each = λ k l m. absurd (omega arith) }

pub join-set : (file table s sets x : List ℕ) (r : ℕ) (f g : ℕ → Bool) → Joined s sets r x → r < 256 → SetOf file table s 0 f → SetOf file table sets (32 * r) g
    → SetOf file table x 0 (λ i. f i || g i)
unfolding in_set
join-set file table s sets x r f g j l h m = record {
  has = λ i p. bit (row_for table i) (below (get_or table i 0))
      ∙ ⊎_elim (λ q. or_left (in_set sets (32 * r) (row_for table i)) (h.has i q)) (λ q. or_right (in_set s 0 (row_for table i)) (m.has i q)) (or-of (f i) (g i) p);
  only = λ k b p. ⊎_elim (λ q. or_left (g (root_at file k)) (h.only k b q)) (λ q. or_right (f (root_at file k)) (m.only k b q))
      (or-of (in_set s 0 k) (in_set sets (32 * r) k) (sym (bit k b) ∙ p));
}
  where
    bit : (k : ℕ) → k < 256 → digit (get_or x (0 + k / 8) 0) (k % 8) ≡ (digit (get_or s (0 + k / 8) 0) (k % 8) || digit (get_or sets (32 * r + k / 8) 0) (k % 8))
    bit k b =
        let z : 0 + k / 8 ≡ k / 8 = omega arith in
        ap (λ (y : ℕ). digit y (k % 8)) (ap (λ (y : ℕ). get_or x y 0) z ∙ (j.each (k / 8) l (omega arith) ∙ ap (λ (y : ℕ). bit_or (get_or s y 0) (get_or sets (32 * r + k / 8) 0)) (sym z)))
        ∙ digit_or (k % 8) (get_or s (0 + k / 8) 0) (get_or sets (32 * r + k / 8) 0)

-- ---- a set stored

-- The part of the rows' sets at row r is replaced.
pub stored-part : (before s l : List ℕ) (r a : ℕ) → length before ≡ 8192 → length s ≡ 32 → a ≡ r → r ≤ 255 → l ≡ s
    → Stored before r s (put_mid (32 * a) (32 * a + 32 - 32 * a) before l)
stored-part before s l r a n m e b q = record {
  size = λ z. same_len_mid (32 * a) (32 * a + 32 - 32 * a) before l (omega (arith, long, mid_len (32 * a) (32 * a + 32) before (omega arith))) ∙ n;
  new = λ z k h c. get_or-append_right front (l ++ post) (32 * r + k) 0 (omega (arith, pre))
      ∙ ap (λ (y : ℕ). get_or (l ++ post) y 0) (omega (arith, pre)) ∙ get_or-append l post 0 k (omega (arith, long)) ∙ ap (λ (y : List ℕ). get_or y k 0) q;
  others = λ j k d c. by j k d c (compare j r);
}
  where
    front : List ℕ
    front = take (32 * a) before

    post : List ℕ
    post = post_of (32 * a) (32 * a + 32 - 32 * a) before

    long : length l ≡ 32
    long = ap (λ (y : List ℕ). length y) q ∙ m

    pre : length (take (32 * a) before) ≡ 32 * a
    pre = length-take-le (32 * a) before (omega arith)

    by : (j k : ℕ) → (j ≡ r → ⊥) → k < 32 → Compare j r → get_or (front ++ (l ++ post)) (32 * j + k) 0 ≡ get_or before (32 * j + k) 0
    by j k d c (lt h) = get_or-append front (l ++ post) 0 (32 * j + k) (omega (arith, pre)) ∙ get_or-take (32 * a) before (32 * j + k) 0 (omega arith)
    by j k d c (eq h) = absurd (d h)
    by j k d c (gt h) =
        get_or-append_right front (l ++ post) (32 * j + k) 0 (omega (arith, pre))
        ∙ get_or-append_right l post (32 * j + k - length front) 0 (omega (arith, pre, long))
        ∙ get_or-drop (32 * a + 32 - 32 * a) (drop (32 * a) before) (32 * j + k - length front - length l) 0
        ∙ get_or-drop (32 * a) before (32 * a + 32 - 32 * a + (32 * j + k - length front - length l)) 0
        ∙ ap (λ (y : ℕ). get_or before y 0) (omega (arith, pre, long))

pub stored_past : (before s : List ℕ) (r : ℕ) → 255 < r → Stored before r s before
stored_past before s r h = record { size = λ n. n; new = λ n k l m. absurd (omega arith); others = λ j k n c. refl }

-- The rows' sets with that of row r stored.
pub store-row : (file table before after s : List ℕ) (r : ℕ) (f : ℕ → ℕ → Bool) (first end : ℕ) → Stored before r s after → length before ≡ 8192 → r < 256 → SetOf file table s 0 (f r)
    → ((j : ℕ) → (j ≡ r → ⊥) → first ≤ j → j < end → SetOf file table before (32 * j) (f j)) → SetsOf file table after f first end
store-row file table before after s r f first end h n l m o = λ j a b. by j a b (same_or r j)
  where
    by : (j : ℕ) → first ≤ j → j < end → (j ≡ r → ⊥) ⊎ (j ≡ r) → SetOf file table after (32 * j) (f j)
    by j a b (inl w) = set-as file table before after (32 * j) (32 * j) (f j) (λ k c. h.others j k w c) (o j w a b)
    by j a b (inr w) = subst (λ (z : ℕ). SetOf file table after (32 * z) (f z)) (sym w) (set-as file table s after 0 (32 * r) (f r) (λ k c. let e : k ≡ 0 + k = omega arith in h.new n k l c ∙ ap (λ (z : ℕ). get_or s z 0) e) m)

-- ---- what two sets have in common

-- The first i bytes have something in common exactly if x is not 0.
pub record Common (sets : List ℕ) (p q i x : ℕ) : Type 0 where
  pub within : i ≤ 32
  pub some : (x ≡ 0 → ⊥) → (k : ℕ) × (k < 8 * i) × (in_set sets p k ≡ true) × (in_set sets q k ≡ true)
  pub none : x ≡ 0 → (k : ℕ) → k < 8 * i → in_set sets p k ≡ true → in_set sets q k ≡ true → ⊥

pub common-none : (sets : List ℕ) (p q : ℕ) → Common sets p q 0 0
common-none sets p q = record { within = omega arith; some = λ z. absurd (z refl); none = λ e k l. absurd (omega arith) }

pub common-more : (sets : List ℕ) (p q i x y z a b : ℕ) → Common sets p q i x → i < 32 → a ≡ get_or sets (p + i) 0 → b ≡ get_or sets (q + i) 0 → y ≡ bit_and a b → y < 256
    → z ≡ bit_or x y → Common sets p q (i + 1) z
common-more sets p q i x y z a b h l e f g m u = record { within = omega arith; some = some; none = none }
  where
    part : (d : ℕ) → d < 8 → digit y d ≡ (in_set sets p (8 * i + d) && in_set sets q (8 * i + d))
    part d c =
        ap (λ (w : ℕ). digit w d) g
        ∙ (digit_and d a b
        ∙ (ap (λ (w : ℕ). digit w d && digit b d) e ∙ (ap (λ (w : ℕ). digit (get_or sets (p + i) 0) d && digit w d) f
        ∙ (ap (λ (w : Bool). w && digit (get_or sets (q + i) 0) d) (sym (in-byte sets p i d c))
        ∙ ap (λ (w : Bool). in_set sets p (8 * i + d) && w) (sym (in-byte sets q i d c))))))

    some : (z ≡ 0 → ⊥) → (k : ℕ) × (k < 8 * (i + 1)) × (in_set sets p k ≡ true) × (in_set sets q k ≡ true)
    some n = by (same_or 0 x)
      where
        by : (x ≡ 0 → ⊥) ⊎ (x ≡ 0) → (k : ℕ) × (k < 8 * (i + 1)) × (in_set sets p k ≡ true) × (in_set sets q k ≡ true)
        by (inl w) = let r = h.some w in (r.0, (let c = r.1 in omega arith), r.2, r.3)
        by (inr w) =
            let s : z ≡ y = u ∙ ap (λ (c : ℕ). bit_or c y) w in
            let r = some-digit 8 y (omega arith) (λ c. n (s ∙ c)) in
            let c = r.1 in
            let o = and-of (in_set sets p (8 * i + r.0)) (in_set sets q (8 * i + r.0)) (sym (part r.0 r.1) ∙ r.2) in
            (8 * i + r.0, omega arith, o.0, o.1)

    none : z ≡ 0 → (k : ℕ) → k < 8 * (i + 1) → in_set sets p k ≡ true → in_set sets q k ≡ true → ⊥
    none n k c v w = by (compare k (8 * i))
      where
        zero-both : (x ≡ 0) × (y ≡ 0)
        zero-both = or-zero-both x y (sym u ∙ n)

        last : (d : ℕ) → k ≡ 8 * i + d → d < 8 → ⊥
        last d t o =
            clash (part d o ∙ both_true (subst (λ (c : ℕ). in_set sets p c ≡ true) t v) (subst (λ (c : ℕ). in_set sets q c ≡ true) t w))
            (ap (λ (c : ℕ). digit c d) zero-both.1 ∙ digit-zero d)

        by : Compare k (8 * i) → ⊥
        by (lt t) = h.none zero-both.0 k t v w
        by (eq t) = last 0 (omega arith) (omega arith)
        by (gt t) = last (k - 8 * i) (omega arith) (omega arith)

pub common-all : (sets : List ℕ) (p q i x a b c d : ℕ) → Common sets p q i x → 32 ≤ i → a ≡ c → p ≡ 32 * a → b ≡ d → q ≡ 32 * b → SetsApart sets c d (eqb x 0)
common-all sets p q i x a b c d h l e f g m = record {
  common = λ n s t u.
      let r = h.some (λ z. clash (eq-eqb x 0 z) u) in
      let w = h.within in
      (r.0, (let v = r.1 in omega arith), at c p r.0 (f ∙ ap (λ (z : ℕ). 32 * z) e) r.2, at d q r.0 (m ∙ ap (λ (z : ℕ). 32 * z) g) r.3);
  none = λ n s t u k v y z. h.none (eqb-true x 0 u) k (omega arith) (back c p k (f ∙ ap (λ (z : ℕ). 32 * z) e) y) (back d q k (m ∙ ap (λ (z : ℕ). 32 * z) g) z);
}
  where
    at : (c p k : ℕ) → p ≡ 32 * c → in_set sets p k ≡ true → in_set sets (32 * c) k ≡ true
    at c p k y v = ap (λ (z : ℕ). in_set sets z k) (sym y) ∙ v

    back : (c p k : ℕ) → p ≡ 32 * c → in_set sets (32 * c) k ≡ true → in_set sets p k ≡ true
    back c p k y v = ap (λ (z : ℕ). in_set sets z k) y ∙ v

pub apart-left : (sets : List ℕ) (a b : ℕ) (x : Bool) → 255 < a → SetsApart sets a b x
apart-left sets a b x h = record { common = λ n l. absurd (omega arith); none = λ n l. absurd (omega arith) }

pub apart-right : (sets : List ℕ) (a b : ℕ) (x : Bool) → 255 < b → SetsApart sets a b x
apart-right sets a b x h = record { common = λ n k l. absurd (omega arith); none = λ n k l. absurd (omega arith) }

pub apart-short : (sets : List ℕ) (a b : ℕ) (x : Bool) → length sets < 8192 → SetsApart sets a b x
apart-short sets a b x h = record { common = λ n. absurd (omega arith); none = λ n. absurd (omega arith) }
