-- Laws of writing: one write after another, a write said otherwise, every byte of the buffer.
use Rattle.std.specs.Prelude.{◌≡◌, refl, List, [], ◌∷◌, ◌++◌, ℕ, ◌+◌, ◌≤◌, ◌<◌, length, take, drop, set}
use Rattle.std.proofs.Common.{ap, sym, subst₂, ◌∙◌, append_assoc, append-nil, add-zero, arith, length-set, length-append, take-append-drop, drop-set-lt, drop-drop, take_at, drop_at, length-take-le}
use Rattle.std.proofs.Math.Seq.{take-set-lt}
use Rattle.wire.specs.Wire.{with_part}
use Rattle.wire.specs.WireLaws.{put-8}
use Rattle.tree_edit.specs.Wrote.{Wrote}

-- nothing written
pub wrote_none : (o : List ℕ) (w : ℕ) → w ≤ length o → Wrote o o w w 0 []
wrote_none o w h = record { next = sym (add-zero w); size = refl; fits = h; holds = sym (append-nil (take w o)); keeps = refl }

drop_more : (o o' : List ℕ) (a b n : ℕ) → b ≡ a + n → drop a o' ≡ drop a o → drop b o' ≡ drop b o
drop_more o o' a b n e h = rw (e, ← drop-drop n a o', ← drop-drop n a o, h) refl

-- one write after another
pub wrote-more : {o₀ o₁ o₂ : List ℕ} {w a b m n : ℕ} {l k : List ℕ} → Wrote o₀ o₁ w a m l → Wrote o₁ o₂ a b n k → Wrote o₀ o₂ w b (m + n) (l ++ k)
wrote-more {o₀ = o₀} {o₁ = o₁} {w = w} {a = a} {b = b} {n = n} {l = l} {k = k} x y = record {
  next = omega (arith, x.next, y.next);
  size = length-append l k ∙ omega (arith, x.size, y.size);
  fits = y.fits;
  holds = y.holds ∙ rw x.holds (append_assoc (take w o₀) l k);
  keeps = y.keeps ∙ drop_more o₀ o₁ a b n y.next x.keeps;
}

-- the same write, said otherwise
pub wrote_as : {o₀ o₁ : List ℕ} {w a m n : ℕ} {l k : List ℕ} → l ≡ k → m ≡ n → Wrote o₀ o₁ w a m l → Wrote o₀ o₁ w a n k
wrote_as {o₀ = o₀} {o₁ = o₁} {w = w} {a = a} e f x = subst₂ (Wrote o₀ o₁ w a) f e x

-- a write from the start, its length said by its end
pub wrote-all-of : {o₀ o₁ : List ℕ} {r n : ℕ} {l k : List ℕ} → l ≡ k → Wrote o₀ o₁ 0 r n l → Wrote o₀ o₁ 0 r r k
wrote-all-of {r = r} {n = n} e x = let z : n ≡ r = omega (arith, x.next) in wrote_as e z x

-- a byte that was written is written again
pub wrote-over : {o₀ o₁ o₂ : List ℕ} {a n : ℕ} {l : List ℕ} → Wrote o₀ o₁ 0 a n l → (i x : ℕ) → i < a → o₂ ≡ with_part o₁ i (x ∷ [])
    → Wrote o₀ o₂ 0 a n (set l i x)
wrote-over {o₀} {o₁} {o₂} {a} {n} {l} w i x h b =
    let e : o₂ ≡ set o₁ i x = b ∙ sym (put-8 o₁ i x (omega (arith, h, w.fits))) in
    rw e (record {
      next = w.next;
      size = length-set l i x ∙ w.size;
      fits = rw (length-set o₁ i x) w.fits;
      holds = take-set-lt a o₁ i x h ∙ ap (λ (z : List ℕ). set z i x) w.holds;
      keeps = drop-set-lt a o₁ i x h ∙ w.keeps;
    })

-- every byte of the buffer afterwards
pub wrote-all : {o o' : List ℕ} {w r n : ℕ} {l : List ℕ} → Wrote o o' w r n l → o' ≡ take w o ++ (l ++ drop r o)
wrote-all {o} {o'} {w} {r} {n} {l} x = sym (take-append-drop r o') ∙ rw (x.holds, x.keeps) (append_assoc (take w o) l (drop r o))

-- a buffer of which every byte is known
pub wrote_of : {o o' : List ℕ} (w n : ℕ) (l : List ℕ) → length l ≡ n → w + n ≤ length o → o' ≡ take w o ++ (l ++ drop (w + n) o) → Wrote o o' w (w + n) n l
wrote_of {o} w n l f h b =
    let front = take w o ++ l in
    let rest = drop (w + n) o in
    let k : length front ≡ w + n = length-append (take w o) l ∙ omega (arith, length-take-le w o (omega (arith, h)), f) in
    let c = b ∙ sym (append_assoc (take w o) l rest) in
    record {
      next = refl;
      size = f;
      fits = omega (arith, ap length c, length-append front rest, k);
      holds = ap (take (w + n)) c ∙ take_at front rest (w + n) k;
      keeps = ap (drop (w + n)) c ∙ drop_at front rest (w + n) k;
    }

-- what was written from the start is a part of the buffer
pub wrote-part : {o o' : List ℕ} {r n : ℕ} {l : List ℕ} → Wrote o o' 0 r n l → take r o' ≡ l
wrote-part x = x.holds
