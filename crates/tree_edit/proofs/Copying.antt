-- What the functions that write leave in the buffer.
use mathlib.Core.Path.{◌≡◌, refl, ap, sym, ◌∙◌}
use mathlib.Core.List.{List, [], ◌∷◌, ◌++◌, append_assoc, append-nil}
use mathlib.Core.Bool.{Bool, true, false}
use Prim.Native.Nat.{ℕ, ◌+◌, ◌-◌, ◌*◌, ◌/◌, ◌%◌, ◌≤◌, ◌<◌}
use native.Mathlib.Omega.{arith}
use borrow.Rule.Slice.PartMut.{put_mid}
use lib.ListN.{length, get_or, take, drop, set, replicate, length-take, length-drop, length-replicate}
use lib.Seq.{take_all, drop-drop, length-take-le}
use Rattle.tree_forest.specs.Forest.{end, tree}
use Rattle.scalar.specs.Value.{Value, value, basic_of, bytes_of}
use Rattle.tree.specs.Encode.{encode, rooted, root_count}
use Rattle.tree.specs.EncodeLaws.{part_length}
use Rattle.tree.specs.Ids.{is_none}
use Rattle.tree.specs.IdsLaws.{none_is}
use Rattle.wire.specs.Wire.{with_part}
use Rattle.tree_edit.specs.Wrote.{Wrote, stored}
use Rattle.tree_edit.specs.WroteLaws.{wrote-more, wrote_as, wrote-all, wrote-all-of, wrote-over, wrote_of}
use Rattle.tree_edit.specs.Change.{missing_value}
use Rattle.tree_edit.specs.Plan.{prefix}

-- a part of the buffer that was lent comes back
put-wrote : (o l : List ℕ) (w e : ℕ) → w ≤ e → e ≤ length o → length l ≡ e - w → Wrote o (put_mid w (e - w) o l) w e (e - w) l
put-wrote o l w e h g f =
    let z : w + (e - w) ≡ e = omega arith in
    rw z at (wrote_of {o = o} {o' = put_mid w (e - w) o l} w (e - w) l f (omega arith) (rw (drop-drop (e - w) w o) refl))

-- the write of `append`
pub append-wrote : (o s l : List ℕ) (w a n : ℕ) → a + n ≤ length s → w + n ≤ length o → l ≡ take (a + n - a) (drop a s) →
    Wrote o (put_mid w (w + n - w) o l) w (w + n) n (take n (drop a s))
append-wrote o s l w a n h g e =
    let x : a + n - a ≡ n = omega arith in
    let y : w + n - w ≡ n = omega arith in
    let f : l ≡ take n (drop a s) = rw x at e in
    let len : length l ≡ w + n - w = ap length f ∙ part_length s a n h ∙ sym y in
    wrote_as f y (put-wrote o l w (w + n) (omega arith) g len)

-- the whole of what is left
rest_all : (s : List ℕ) (a n : ℕ) → n ≡ length s - a → take n (drop a s) ≡ drop a s
rest_all s a n e = take_all n (drop a s) (rw (length-drop a s) (omega arith))

-- the writes of `replace`
pub replace-wrote : {o₀ o₁ o₂ o₃ : List ℕ} {a b r n₁ n₂ n₃ : ℕ} (s m : List ℕ) (p q : ℕ) → Wrote o₀ o₁ 0 a n₁ (take p (drop 0 s)) → Wrote o₁ o₂ a b n₂ (take n₂ (drop 2 m)) → Wrote o₂ o₃ b r n₃ (take n₃ (drop q s)) →
    n₂ ≡ length m - 2 → n₃ ≡ length s - q → Wrote o₀ o₃ 0 r r (take p s ++ (drop 2 m ++ drop q s))
replace-wrote {n₂ = n₂} {n₃ = n₃} s m p q x y z h₂ h₃ =
    wrote-all-of (rw (rest_all m 2 n₂ h₂, rest_all s q n₃ h₃) (append_assoc (take p s) (drop 2 m) (drop q s))) (wrote-more (wrote-more x y) z)

-- the writes of `replace_value`
pub value-wrote : {o₀ o₁ o₂ o₃ o₄ o₅ : List ℕ} {a b c d r n₁ n₄ n₅ : ℕ} (s m : List ℕ) (p mid : ℕ) → Wrote o₀ o₁ 0 a n₁ (take (p + 2) (drop 0 s)) → Wrote o₁ o₂ a b 1 (get_or m 2 0 ∷ []) →
    Wrote o₂ o₃ b c 1 (get_or s (p + 3) 0 ∷ []) → Wrote o₃ o₄ c d n₄ (take n₄ (drop 4 m)) → Wrote o₄ o₅ d r n₅ (take n₅ (drop mid s)) → n₄ ≡ length m - 4 → n₅ ≡ length s - mid →
    Wrote o₀ o₅ 0 r r (take (p + 2) s ++ (get_or m 2 0 ∷ get_or s (p + 3) 0 ∷ (drop 4 m ++ drop mid s)))
value-wrote {n₄ = n₄} {n₅ = n₅} s m p mid x y z u v h₄ h₅ =
    wrote-all-of
    (rw (rest_all m 4 n₄ h₄, rest_all s mid n₅ h₅) (simp append_assoc))
    (wrote-more (wrote-more (wrote-more (wrote-more x y) z) u) v)

-- the writes of `insert`
pub insert-wrote : {o₀ o₁ o₂ o₃ o₄ o₅ : List ℕ} {a b c r n₁ n₂ n₃ n₄ : ℕ} {l : List ℕ} (s m : List ℕ) (p i x : ℕ) → Wrote o₀ o₁ 0 a n₁ (take p (drop 0 s)) → i < a →
    o₂ ≡ with_part o₁ i (x ∷ []) → Wrote o₂ o₃ a b n₂ l → Wrote o₃ o₄ b c n₃ (take n₃ (drop 2 m)) → Wrote o₄ o₅ c r n₄ (take n₄ (drop p s)) → n₃ ≡ length m - 2 →
    n₄ ≡ length s - p → Wrote o₀ o₅ 0 r r (set (take p s) i x ++ (l ++ (drop 2 m ++ drop p s)))
insert-wrote {n₃ = n₃} {n₄ = n₄} {l = l} s m p i x w h v y z u h₃ h₄ =
    wrote-all-of (rw (rest_all m 2 n₃ h₃, rest_all s p n₄ h₄) (simp append_assoc)) (wrote-more (wrote-more (wrote-more (wrote-over w i x h v) y) z) u)

pub missing-short : (ty : Bool) → length (bytes_of (missing_value ty)) ≤ 2
missing-short true = omega arith
missing-short false = omega arith

prefix-last : (a : Value) (i : ℕ) → i % 256 ∷ i / 256 ∷ [] ≡ prefix a i []
unfolding prefix
prefix-last (value b v) i = refl

prefix-more : (a : Value) (i j : ℕ) (js : List ℕ) → i % 256 ∷ i / 256 ∷ basic_of a ∷ 1 ∷ length (bytes_of a) ∷ (bytes_of a ++ prefix a j js) ≡ prefix a i (j ∷ js)
unfolding prefix
prefix-more (value b v) i j js = refl

-- the writes of `push_steps`
module _ {o o₁ : List ℕ} {w a : ℕ} (ty : Bool) (i : ℕ) (is : List ℕ) (k : ℕ) (h : k < 4) (x : Wrote o o₁ w a 2 (i % 256 ∷ i / 256 ∷ [])) where
  pub push-last : is_none is ≡ true → (a ≤ w + 7 * (4 - k)) × Wrote o o₁ w a (a - w) (prefix (missing_value ty) i is)
  push-last e = (omega (arith, x.next), rw (none_is is e) (wrote_as (prefix-last (missing_value ty) i) (omega (arith, x.next)) x))

  pub push-next : {o₂ o₃ : List ℕ} {b r : ℕ} (y : ℕ) (ys : List ℕ) →
      Wrote o₁ o₂ a b (3 + length (bytes_of (missing_value ty))) (basic_of (missing_value ty) ∷ 1 ∷ length (bytes_of (missing_value ty)) ∷ bytes_of (missing_value ty)) →
      (r ≤ b + 7 * (4 - (k + 1))) × Wrote o₂ o₃ b r (r - b) (prefix (missing_value ty) y ys) → k + 1 < 4 → is ≡ y ∷ ys → (r ≤ w + 7 * (4 - k)) × Wrote o o₃ w r (r - w) (prefix (missing_value ty) i is)
  push-next y ys p z l e = (
    omega (arith, x.next, p.next, z.0, missing-short ty),
    rw e (wrote_as
        (append_assoc (i % 256 ∷ i / 256 ∷ []) (basic_of (missing_value ty) ∷ 1 ∷ length (bytes_of (missing_value ty)) ∷ bytes_of (missing_value ty)) (prefix (missing_value ty) y ys)
        ∙ prefix-more (missing_value ty) i y ys)
        (omega (arith, x.next, p.next, z.1.next)) (wrote-more (wrote-more x p) z.1)),
  )

-- the writes of `leaf`
pub leaf-wrote : {o o₁ o₂ : List ℕ} {w a r n : ℕ} (basic : ℕ) (v : List ℕ) → Wrote o o₁ w a 5 (0 ∷ 0 ∷ basic ∷ 0 ∷ length v ∷ []) → Wrote o₁ o₂ a r n (take n (drop 0 v)) →
    n ≡ length v → Wrote o o₂ w r (5 + length v) (encode (rooted (tree (value basic v) end)))
unfolding encode root_count
leaf-wrote {n = n} basic v x t h = wrote_as (rw (rest_all v 0 n (omega arith)) (simp append-nil)) (omega arith) (wrote-more x t)

-- the writes of `store`
pub store-wrote : (o s l z : List ℕ) (b k n : ℕ) → b + k ≤ length o → n ≤ k → n ≤ length s → l ≡ take n s →
    z ≡ replicate (length (take (b + k - (b + n)) (drop (b + n) (put_mid b (b + n - b) o l)))) 0 →
    put_mid (b + n) (b + k - (b + n)) (put_mid b (b + n - b) o l) z ≡ stored o b k s n
store-wrote o s l z b k n h g f e q =
    let p = put_mid b (b + n - b) o l in
    let x : b + n - b ≡ n = omega arith in
    let y : b + k - (b + n) ≡ k - n = omega arith in
    let first : Wrote o p b (b + n) n (take n s) = wrote_as e x (put-wrote o l b (b + n) (omega arith) (omega arith) (ap length e ∙ length-take-le n s f ∙ sym x)) in
    let size : length p - (b + n) ≡ length o - (b + n) = sym (length-drop (b + n) p) ∙ ap length first.keeps ∙ length-drop (b + n) o in
    let fits = first.fits in
    let left : length (take (b + k - (b + n)) (drop (b + n) p)) ≡ k - n = simp (length-take, length-drop) (omega arith) in
    let zeros : z ≡ replicate (k - n) 0 = q ∙ ap (λ (x : ℕ). replicate x 0) left in
    let second : Wrote p (put_mid (b + n) (b + k - (b + n)) p z) (b + n) (b + k) (k - n) (replicate (k - n) 0) = wrote_as zeros y (put-wrote p z (b + n) (b + k) (omega arith) (omega arith) (ap length zeros ∙ length-replicate (k - n) 0 ∙ sym y)) in
    wrote-all (wrote-more first second)
