-- The least messages of a type: which children they hold, that they are messages and fit the type.
use Rattle.std.specs.Prelude.{◌≡◌, refl, List, Bool, true, false, not, ◌&&◌, ◌||◌, ◌⊎◌, ℕ, zero, suc, ◌+◌, ◌-◌, ◌<◌, ◌≤◌, length, get_or, replicate, T, eqb, leb, ltb}
use Rattle.std.proofs.Common.{sym, ap, subst, ◌∙◌, inl, inr, arith, lt-ltb, le-leb}
use Rattle.std.proofs.Math.Dec.{eqb_refl}
use Rattle.std.proofs.lemmas.Bool.{lt-leb}
use Rattle.basics.specs.Choice.{pick}
use Rattle.basics.specs.TestLaws.{and_i, and-false, of_lt, of_le, both_true}
use Rattle.tree_forest.specs.Compare.{Compare, lt, eq, gt, compare}
use Rattle.tree_forest.specs.Forest.{Forest, end, node, Tree, tree, Above, Rising, measure, nodes, map_forest}
use Rattle.scalar.specs.Basic.{last_basic}
use Rattle.scalar.specs.Value.{Value, value, basic_of, least_bytes, is_value}
use Rattle.scalar.specs.ValueLaws.{least-value, least-zeros, least-short}
use Rattle.tree.specs.Encode.{Octets, Proper, SoundValues}
use Rattle.network_syntax.specs.Syntax.{Mark, mark, Types, MessageType}
use Rattle.network.specs.Shapes.{NodesShape}
use Rattle.check_subtyping.specs.Subtype.{are_subtypes_by, are_subtypes, implies}
use Rattle.check_subtyping.proofs.SubtypeLaws.{implies-intro}
use Rattle.check_subtyping.specs.Own.{own_types}
use Rattle.counterexample_rules.specs.OrderLaws.{AtMost, zeros-most}
use Rattle.counterexample_rules.specs.Contained.{ValueAtMost}
use Rattle.counterexample_rules.specs.Smallest.{IdsBelow}
use Rattle.counterexample_rules.specs.Breaking.{least_of, holds_child, least_with}

-- ---- which children are held

pub past-held : (m : Bool) (j s : ℕ) → s < j → holds_child m j s ≡ m
past-held true j s h = refl
past-held false j s h = ap (λ (z : Bool). ltb 0 j && z) (lt-leb j s h) ∙ and-false (ltb 0 j)

pub none-held : (m : Bool) (s : ℕ) → holds_child m 0 s ≡ m
none-held true s = refl
none-held false s = refl

pub inside-held : (m : Bool) (j s : ℕ) → 0 < j → j ≤ s → holds_child m j s ≡ true
inside-held true j s h l = refl
inside-held false j s h l = both_true (of_lt 0 j h) (of_le j s l)

optional-left : (m : Bool) (j s : ℕ) → holds_child m j s ≡ false → m ≡ false
optional-left true j s e = e
optional-left false j s e = refl

-- What holds of either choice.
pub pick-by : {A : Type 0} (P : A → Type 0) (t : Bool) {x y : A} → (t ≡ true → P x) → (t ≡ false → P y) → P (pick t x y)
pick-by P true f g = f refl
pick-by P false f g = g refl

-- The siblings, by whether the first is held.
abbrev pub least_by : Bool → ℕ → ℕ → Types → Types → ℕ → Forest Value
least_by t i b k r j = pick t (node i (least_of b) (least_with (j - 1) k) (least_with (j - (1 + nodes k)) r)) (least_with (j - (1 + nodes k)) r)

pub least-by : (j i : ℕ) (m : Bool) (b : ℕ) (k r : Types) (t : Bool) → holds_child m j (1 + nodes k) ≡ t
    → least_with j (node i (mark m b) k r) ≡ least_by t i b k r j
unfolding least_with
least-by j i m b k r t e = ap (λ (z : Bool). least_by z i b k r j) e

-- Without a number the mandatory ones.
pub least_zero : (i : ℕ) (m : Bool) (b : ℕ) (k r : Types)
    → least_with 0 (node i (mark m b) k r) ≡ pick m (node i (least_of b) (least_with 0 k) (least_with 0 r)) (least_with 0 r)
least_zero i m b k r =
    let e : 0 - (1 + nodes k) ≡ 0 = omega arith in
    least-by 0 i m b k r m (none-held m (1 + nodes k)) ∙ rw e refl

-- A number past the last is that of no node.
past_end : (j : ℕ) → least_with j end ≡ least_with 0 end
unfolding least_with
past_end j = refl

pub past-none : (j : ℕ) (K : Types) → nodes K < j → least_with j K ≡ least_with 0 K
unfolding measure
past-none j end h = past_end j
past-none j (node i (mark m b) k r) h =
    let ek = past-none (j - 1) k (omega arith) in
    let er = past-none (j - (1 + nodes k)) r (omega arith) in
    least-by j i m b k r m (past-held m j (1 + nodes k) (omega arith)) ∙ rw (ek, er) (sym (least_zero i m b k r))

-- ---- they are messages

least-octets : (b : ℕ) → Octets (least_bytes b)
least-octets b = subst Octets (sym (least-zeros b)) (record { small = λ k. zeros (length (least_bytes b)) k })
  where
    zeros : (n k : ℕ) → get_or (replicate n 0) k 0 < 256
    zeros zero k = omega arith
    zeros (suc n) zero = omega arith
    zeros (suc n) (suc k) = zeros n k

pub least-proper : (b : ℕ) → b ≤ last_basic → Proper (least_of b)
least-proper b h = record { valid = least-value b h; bytes = least-octets b }

-- The least value is at most any other of its basic type.
pub least-most : (b : ℕ) (w : List ℕ) → is_value b w ≡ true → ValueAtMost (least_bytes b) w
least-most b w h = go (compare (length (least_bytes b)) (length w))
  where
    go : Compare (length (least_bytes b)) (length w) → ValueAtMost (least_bytes b) w
    go (lt l) = inl l
    go (eq e) = inr (e, subst (λ (z : List ℕ). AtMost z w) (sym (least-zeros b)) (zeros-most (length (least_bytes b)) w e))
    go (gt l) = absurd (omega (arith, least-short b w h))

pub least-sound : (j : ℕ) (K : Types) → NodesShape K → IdsBelow K → SoundValues (least_with j K)
unfolding NodesShape IdsBelow least_with SoundValues
least-sound j end p q = tt
least-sound j (node i (mark m b) k r) p q =
    let hk = least-sound (j - 1) k p.2 q.1 in
    let hr = least-sound (j - (1 + nodes k)) r p.3 q.2 in
    pick-by SoundValues (holds_child m j (1 + nodes k)) (λ e. (p.0, q.0, least-proper b p.1, hk, hr)) (λ e. hr)

pub least-few : (j : ℕ) (K : Types) → nodes (least_with j K) ≤ nodes K
unfolding measure least_with
least-few j end = omega arith
least-few j (node i (mark m b) k r) =
    pick-by (λ (F : Forest Value). nodes F ≤ 1 + nodes k + nodes r) (holds_child m j (1 + nodes k))
    (λ e. omega (arith, least-few (j - 1) k, least-few (j - (1 + nodes k)) r)) (λ e. omega (arith, least-few (j - (1 + nodes k)) r))

above_from : (i x : ℕ) (F : Forest Value) → i < x → Above x F → Above i F
above_from i x end h l = tt
above_from i x (node j a k r) h l = omega arith

pub least_above : (i j : ℕ) (K : Types) → Above i K → Rising K → Above i (least_with j K)
unfolding Rising least_with
least_above i j end h w = tt
least_above i j (node x (mark m b) k r) h w =
    pick-by (Above i) (holds_child m j (1 + nodes k)) (λ e. h)
    (λ e. above_from i x (least_with (j - (1 + nodes k)) r) h (least_above x (j - (1 + nodes k)) r w.0 w.2))

pub least-rising : (j : ℕ) (K : Types) → Rising K → Rising (least_with j K)
unfolding Rising least_with
least-rising j end w = tt
least-rising j (node i (mark m b) k r) w =
    let hk = least-rising (j - 1) k w.1 in
    let hr = least-rising (j - (1 + nodes k)) r w.2 in
    pick-by Rising (holds_child m j (1 + nodes k)) (λ e. (least_above i (j - (1 + nodes k)) r w.0 w.2, hk, hr)) (λ e. hr)

-- ---- they fit the type

same-id : {i : ℕ} (d : Compare i i) (x y : Bool) → T x → T (are_subtypes_by d x y)
same-id (lt h) x y t = absurd (omega arith)
same-id (eq h) x y t = t
same-id (gt h) x y t = absurd (omega arith)

later-id : {j i : ℕ} (d : Compare j i) (x y : Bool) → i < j → T y → T (are_subtypes_by d x y)
later-id (lt h) x y l t = absurd (omega arith)
later-id (eq h) x y l t = absurd (omega arith)
later-id (gt h) x y l t = t

-- An optional child may be left out.
left_out : (F : Forest Value) (i b : ℕ) (k r : Types) → Above i F → T (are_subtypes (own_types F) r)
    → T (are_subtypes (own_types F) (node i (mark false b) k r))
unfolding are_subtypes map_forest
left_out end i b k r h t = t
left_out (node j v l s) i b k r h t =
    later-id (compare j i) (eqb (basic_of v) b && (are_subtypes (own_types l) k && are_subtypes (own_types s) r)) (are_subtypes (own_types (node j v l s)) r) h t

pub least_fits : (j : ℕ) (K : Types) → Rising K → T (are_subtypes (own_types (least_with j K)) K)
unfolding Rising least_with are_subtypes map_forest
least_fits j end w = tt
least_fits j (node i (mark m b) k r) w =
    let hk = least_fits (j - 1) k w.1 in
    let hr = least_fits (j - (1 + nodes k)) r w.2 in
    let K = own_types (least_with (j - 1) k) in
    let R = own_types (least_with (j - (1 + nodes k)) r) in
    pick-by (λ (F : Forest Value). T (are_subtypes (own_types F) (node i (mark m b) k r))) (holds_child m j (1 + nodes k))
    (λ e.
    same-id (compare i i) (eqb b b && (implies m true && (are_subtypes K k && are_subtypes R r))) (not m && are_subtypes (node i (mark true b) K R) r)
    (and_i (eqb b b) (implies m true && (are_subtypes K k && are_subtypes R r)) (eqb_refl b)
    (and_i (implies m true) (are_subtypes K k && are_subtypes R r) (implies-intro m true (λ t. tt)) (and_i (are_subtypes K k) (are_subtypes R r) hk hr))))
    (λ e.
    subst (λ (z : Bool). T (are_subtypes R (node i (mark z b) k r))) (sym (optional-left m j (1 + nodes k) e))
    (left_out (least_with (j - (1 + nodes k)) r) i b k r (least_above i (j - (1 + nodes k)) r w.0 w.2) hr))
