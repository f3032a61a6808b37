-- Laws of the order of messages: it is strict and total, and the tests are the relations.
use Rattle.std.specs.Prelude.{◌≡◌, refl, List, [], ◌∷◌, ◌++◌, Bool, true, false, ◌&&◌, ◌||◌, ◌⊎◌, ℕ, zero, suc, ◌+◌, ◌<◌, ◌≤◌, length, replicate, T, eqb, ltb}
use Rattle.std.proofs.Common.{sym, ap, subst, ◌∙◌, inl, inr, arith, eqb→eq, ltb→lt, lt→ltb}
use Rattle.std.proofs.Math.Dec.{eqb_refl}
use Rattle.basics.specs.TestLaws.{and_i, and_l, and_r, or_l, or_r, or_case}
use Rattle.tree_forest.specs.Compare.{Compare, lt, eq, gt, compare}
use Rattle.tree_forest.specs.Forest.{Tree, nodes}
use Rattle.scalar.specs.Value.{Value}
use Rattle.tree.specs.Encode.{encode, rooted}
use Rattle.counterexample_rules.specs.Order.{LowerBytes, ends, differs, goes_on, Lower, fewer, as_many, is_lower_bytes, is_lower}

-- Bytes of which the first are lower are not the same.
bytes-differ : {s t : List ℕ} → LowerBytes s t → s ≡ t → ⊥
bytes-differ ends e = cc
bytes-differ (differs {x = x} {y = y} h) e = let z : x ≡ y = cc in omega arith
bytes-differ (goes_on {s = s} {t = t} l) e = let z : s ≡ t = cc in bytes-differ l z

pub bytes-irreflexive : {s : List ℕ} → LowerBytes s s → ⊥
bytes-irreflexive l = bytes-differ l refl

pub bytes-trans : {s t u : List ℕ} → LowerBytes s t → LowerBytes t u → LowerBytes s u
bytes-trans ends (differs h) = ends
bytes-trans ends (goes_on l) = ends
bytes-trans (differs {x} h) (differs {y = z} k) = let l : x < z = omega arith in differs l
bytes-trans (differs h) (goes_on l) = differs h
bytes-trans (goes_on l) (differs h) = differs h
bytes-trans (goes_on l) (goes_on k) = goes_on (bytes-trans l k)

-- Bytes of which neither are lower are the same.
pub bytes_same : (s t : List ℕ) → (LowerBytes s t → ⊥) → (LowerBytes t s → ⊥) → s ≡ t
bytes_same [] [] f g = refl
bytes_same [] (y ∷ t) f g = absurd (f ends)
bytes_same (x ∷ s) [] f g = absurd (g ends)
bytes_same (x ∷ s) (y ∷ t) f g = go (compare x y) (bytes_same s t)
  where
    go : Compare x y → ((LowerBytes s t → ⊥) → (LowerBytes t s → ⊥) → s ≡ t) → x ∷ s ≡ y ∷ t
    go (lt h) rest = absurd (f (differs h))
    go (gt h) rest = absurd (g (differs h))
    go (eq h) rest =
        let f' : LowerBytes s t → ⊥ = λ l. f (subst (λ (z : ℕ). LowerBytes (x ∷ s) (z ∷ t)) h (goes_on l)) in
        let g' : LowerBytes t s → ⊥ = λ l. g (subst (λ (z : ℕ). LowerBytes (z ∷ t) (x ∷ s)) h (goes_on l)) in
        let e = rest f' g' in cc

-- The test of bytes is the relation.
pub bytes-sound : (s t : List ℕ) → T (is_lower_bytes s t) → LowerBytes s t
unfolding is_lower_bytes
bytes-sound [] [] h = absurd h
bytes-sound (x ∷ s) [] h = absurd h
bytes-sound [] (y ∷ t) h = ends
bytes-sound (x ∷ s) (y ∷ t) h =
    or_case (ltb x y) (eqb x y && is_lower_bytes s t) (λ l. differs (ltb→lt x y l))
    (λ w.
    subst (λ (z : ℕ). LowerBytes (x ∷ s) (z ∷ t)) (eqb→eq x y (and_l (eqb x y) (is_lower_bytes s t) w))
    (goes_on (bytes-sound s t (and_r (eqb x y) (is_lower_bytes s t) w)))) h

pub bytes-complete : {s t : List ℕ} → LowerBytes s t → T (is_lower_bytes s t)
unfolding is_lower_bytes
bytes-complete ends = tt
bytes-complete (differs {x} {y} {s} {t} h) = or_l (ltb x y) (eqb x y && is_lower_bytes s t) (lt→ltb x y h)
bytes-complete (goes_on {x} {s} {t} l) =
    or_r (ltb x x) (eqb x x && is_lower_bytes s t) (and_i (eqb x x) (is_lower_bytes s t) (eqb_refl x) (bytes-complete l))

-- ---- messages

pub irreflexive : (m : Tree Value) → Lower m m → ⊥
irreflexive m (fewer h) = omega arith
irreflexive m (as_many e l) = bytes-irreflexive l

pub lower-trans : {m n o : Tree Value} → Lower m n → Lower n o → Lower m o
lower-trans (fewer h) (fewer k) = fewer (omega arith)
lower-trans (fewer h) (as_many e l) = fewer (omega arith)
lower-trans (as_many e l) (fewer k) = fewer (omega arith)
lower-trans (as_many e l) (as_many f k) = as_many (e ∙ f) (bytes-trans l k)

-- Messages of which neither is lower have the same bytes.
pub neither-lower : (m n : Tree Value) → (Lower m n → ⊥) → (Lower n m → ⊥) → encode (rooted m) ≡ encode (rooted n)
neither-lower m n f g = go (compare (nodes (rooted m)) (nodes (rooted n)))
  where
    go : Compare (nodes (rooted m)) (nodes (rooted n)) → encode (rooted m) ≡ encode (rooted n)
    go (lt h) = absurd (f (fewer h))
    go (gt h) = absurd (g (fewer h))
    go (eq h) = bytes_same (encode (rooted m)) (encode (rooted n)) (λ l. f (as_many h l)) (λ l. g (as_many (sym h) l))

-- The test is the relation.
pub lower-sound : (m n : Tree Value) → T (is_lower m n) → Lower m n
unfolding is_lower
lower-sound m n h =
    let x = nodes (rooted m) in
    let y = nodes (rooted n) in
    let b = is_lower_bytes (encode (rooted m)) (encode (rooted n)) in
    or_case (ltb x y) (eqb x y && b) (λ l. fewer (ltb→lt x y l))
    (λ w. as_many (eqb→eq x y (and_l (eqb x y) b w)) (bytes-sound (encode (rooted m)) (encode (rooted n)) (and_r (eqb x y) b w))) h

pub lower-complete : (m n : Tree Value) → Lower m n → T (is_lower m n)
unfolding is_lower
lower-complete m n (fewer h) =
    or_l (ltb (nodes (rooted m)) (nodes (rooted n)))
    (eqb (nodes (rooted m)) (nodes (rooted n)) && is_lower_bytes (encode (rooted m)) (encode (rooted n))) (lt→ltb _ _ h)
lower-complete m n (as_many e l) =
    or_r (ltb (nodes (rooted m)) (nodes (rooted n)))
    (eqb (nodes (rooted m)) (nodes (rooted n)) && is_lower_bytes (encode (rooted m)) (encode (rooted n)))
    (and_i (eqb (nodes (rooted m)) (nodes (rooted n))) (is_lower_bytes (encode (rooted m)) (encode (rooted n)))
    (subst (λ (z : ℕ). T (eqb (nodes (rooted m)) z)) e (eqb_refl (nodes (rooted m)))) (bytes-complete l))

-- ---- bytes that are at most others

-- The same, or lower at a byte that differs; so whatever follows them, the one is not higher.
pub data AtMost : List ℕ → List ℕ → Type 0 where
  same : {s : List ℕ} → AtMost s s
  less : {x y : ℕ} {s t : List ℕ} → x < y → AtMost (x ∷ s) (y ∷ t)
  next : {x : ℕ} {s t : List ℕ} → AtMost s t → AtMost (x ∷ s) (x ∷ t)

most-prefix : (s : List ℕ) {a b : List ℕ} → AtMost a b → AtMost (s ++ a) (s ++ b)
most-prefix [] p = p
most-prefix (x ∷ s) p = next (most-prefix s p)

pub most-append : {s t a b : List ℕ} → AtMost s t → AtMost a b → AtMost (s ++ a) (t ++ b)
most-append (same {s}) q = most-prefix s q
most-append (less h) q = less h
most-append (next p) q = next (most-append p q)

pub most-lower : {s t u : List ℕ} → AtMost s t → LowerBytes t u → LowerBytes s u
most-lower same l = l
most-lower (less {x} h) (differs {y = z} k) = let l : x < z = omega arith in differs l
most-lower (less h) (goes_on l) = differs h
most-lower (next p) (differs k) = differs k
most-lower (next p) (goes_on l) = goes_on (most-lower p l)

-- Zeros are at most any other bytes, as many.
pub zeros-most : (n : ℕ) (w : List ℕ) → n ≡ length w → AtMost (replicate n 0) w
zeros-most zero [] e = same
zeros-most zero (y ∷ w) e = absurd (omega arith)
zeros-most (suc n) [] e = absurd (omega arith)
zeros-most (suc n) (zero ∷ w) e = next (zeros-most n w (omega arith))
zeros-most (suc n) (suc y ∷ w) e = let l : 0 < suc y = omega arith in less l
