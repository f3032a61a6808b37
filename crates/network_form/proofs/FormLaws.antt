-- The walk over written-out types, with what is left of the allowed nodes; the levels of expressions in one pass; and one law for each
-- way out of `form_of`.
use Prim.Native.Nat.{ℕ, zero, suc, ◌+◌, ◌-◌, ◌<◌, ◌≤◌}
use mathlib.Core.Path.{◌≡◌, refl, sym, ◌∙◌, ap}
use mathlib.Core.List.{List}
use mathlib.Core.Bool.{Bool, true, false, not, ◌&&◌}
use mathlib.Core.Logic.{⊎_elim}
use native.Mathlib.Nat.{eq-or-lt_of_le}
use lib.Dec.{leb, ltb}
use lib.ListN.{get_or, set, length, length-set}
use lib.Seq.{get_or-set_same, get_or-set_other}
use native.Mathlib.Omega.{arith}
use borrow.Author.Tests.{lt-ltb, le-leb, lt-leb, leb-true, leb-false, ltb-true, ltb-false, not-true, not-false}
use Rattle.basics.specs.Choice.{pick}
use Rattle.basics.specs.TestLaws.{and-false, and-of, and-true}
use Rattle.wire.specs.Wire.{byte_at}
use Rattle.network.specs.declared.ExpressionKind.{ExpressionKind}
use Rattle.refusal.specs.declared.Refusal.TheVariants.{FileLayout, SectionCount, BrokenField, TooLarge}
use Rattle.network.specs.Least.{least, rule}
use Rattle.network.proofs.LeastLaws.{least_kept, rule-kept, over-kept}
use Rattle.network.specs.Layout.{expression_count, expression_at, path_count, type_count, behaviour_count, operation_count, service_count, laid_out, counted}
use Rattle.network.specs.Kinds.{expression_fields}
use Rattle.network.specs.Rows.{first_child, child_count, field_a, field_b, field_c, expression_kind_at, expression_row, expression_rows, fields_rule, field_fits, basic_fits, path_rows, type_rows, behaviour_rows, operation_rows, service_rows}
use Rattle.network.specs.Uses.{uses_rows, broken}
use Rattle.network.specs.Sizes.{rows_sum, rows_all, levels_within, nodes_to, type_within, depth_within, operands_within, expression_large, expression_sizes, large}
use Rattle.network.specs.Form.{form_of}
use Rattle.network_layout.specs.Loops.{Swept, swept_none, swept-more, swept-done}
use Rattle.network_form.specs.Walk.{spent_by, spent, is_left, larger, level_above, level_at, level_by, row_level, Operands}
use Rattle.std.specs.Prelude.{Option, Some, None, is_some}
use Rattle.std.specs.Prelude.{Ok, Err}

over : (b : Bool) (m n l : ℕ) → l < m → None ≡ spent_by (true && b) (suc m + n) (suc l)
over false m n l h = refl
over true m n l h = simp (lt-leb (suc m + n) (suc l) (omega arith))

first-large-by : (t b : Bool) (m n l : ℕ) → leb m l ≡ t → pick t (Some (l - m)) None ≡ None → None ≡ spent_by (true && b) (suc m + n) (suc l)
first-large-by true b m n l p e = let z : ◌≡◌ {A = ℕ} 0 1 = cc in absurd (omega arith)
first-large-by false b m n l p e = over b m n l (leb-false m l p)

-- a row whose children spend too much
first-large : (a b : Bool) (m n l : ℕ) → spent_by a m l ≡ None → None ≡ spent_by (a && b) (suc m + n) (suc l)
first-large false b m n l e = refl
first-large true b m n l e = first-large-by (leb m l) b m n l refl e

rest-by : (t b : Bool) (m n l k : ℕ) → m ≤ l → k ≡ l - m → leb n k ≡ t → pick (b && t) (Some (k - n)) None ≡ spent_by (true && b) (suc m + n) (suc l)
rest-by t false m n l k h e p = refl
rest-by true true m n l k h e p =
    let f : n ≤ k = leb-true n k p in
    let z : suc l - (suc m + n) ≡ k - n = omega arith in
    simp (le-leb (suc m + n) (suc l) (omega arith), z)
rest-by false true m n l k h e p =
    let f : k < n = leb-false n k p in
    simp (lt-leb (suc m + n) (suc l) (omega arith))

first-left-by : (t b : Bool) (m n l k : ℕ) → leb m l ≡ t → pick t (Some (l - m)) None ≡ Some k → spent_by b n k ≡ spent_by (true && b) (suc m + n) (suc l)
first-left-by true b m n l k p e =
    let f : m ≤ l = leb-true m l p in
    let z : k ≡ l - m = cc in
    rest-by (leb n k) b m n l k f z refl
first-left-by false b m n l k p e = let z : ◌≡◌ {A = ℕ} 0 1 = cc in absurd (omega arith)

-- a row whose children leave k, and then the rest
first-left : (a b : Bool) (m n l k : ℕ) → spent_by a m l ≡ Some k → spent_by b n k ≡ spent_by (a && b) (suc m + n) (suc l)
first-left false b m n l k e = let z : ◌≡◌ {A = ℕ} 0 1 = cc in absurd (omega arith)
first-left true b m n l k e = first-left-by (leb m l) b m n l k refl e

done-by : (l : ℕ) → Some l ≡ spent_by true 0 l
done-by l = let z : l - 0 ≡ l = omega arith in simp (le-leb 0 l (omega arith), z)

-- one law per way out of `walk`
pub walk-done : (s : List ℕ) (d first n left : ℕ) → n ≡ 0 → Some left ≡ spent s d first n left
unfolding spent rows_all rows_sum
walk-done s d first n left e = rw e (done-by left)

pub walk-flat : (s : List ℕ) (d first n left : ℕ) → (n ≡ 0 → ⊥) → d ≡ 0 → None ≡ spent s d first n left
unfolding spent rows_all rows_sum levels_within
walk-flat s d first n left a e = let z : n ≡ suc (n - 1) = omega arith in rw (e, z) refl

full_by : (b : Bool) (m l : ℕ) → l ≡ 0 → 1 ≤ m → None ≡ spent_by b m l
full_by true m l e h = simp (lt-leb m l (omega arith))
full_by false m l e h = refl

some-node : (s : List ℕ) (d first n : ℕ) → 1 ≤ rows_sum (nodes_to s (suc d)) first (suc n)
unfolding rows_sum nodes_to
some-node s d first n = omega arith

pub walk-full : (s : List ℕ) (d first n left : ℕ) → (n ≡ 0 → ⊥) → (d ≡ 0 → ⊥) → left ≡ 0 → None ≡ spent s d first n left
unfolding spent
walk-full s d first n left a b e =
    let y : d ≡ suc (d - 1) = omega arith in
    let z : n ≡ suc (n - 1) = omega arith in
    let h : 1 ≤ rows_sum (nodes_to s d) first n = rw (y, z) (some-node s (d - 1) first (n - 1)) in
    full_by (rows_all (levels_within s d) first n) (rows_sum (nodes_to s d) first n) left e h

unroll : (s : List ℕ) (d first n left : ℕ) → spent s (suc d) first (suc n) (suc left) ≡
    spent_by (rows_all (levels_within s d) (first_child s first) (child_count s first) && rows_all (levels_within s (suc d)) (first + 1) n)
    (suc (rows_sum (nodes_to s d) (first_child s first) (child_count s first)) + rows_sum (nodes_to s (suc d)) (first + 1) n) (suc left)
unfolding spent rows_all rows_sum levels_within nodes_to
unroll s d first n left = refl

suc-large : (s : List ℕ) (d first n left : ℕ) → spent s d (first_child s first) (child_count s first) left ≡ None → None ≡ spent s (suc d) first (suc n) (suc left)
unfolding spent
suc-large s d first n left e =
    first-large (rows_all (levels_within s d) (first_child s first) (child_count s first)) (rows_all (levels_within s (suc d)) (first + 1) n)
    (rows_sum (nodes_to s d) (first_child s first) (child_count s first)) (rows_sum (nodes_to s (suc d)) (first + 1) n) left e ∙ sym (unroll s d first n left)

suc-rest : (s : List ℕ) (d first n left k : ℕ) → spent s d (first_child s first) (child_count s first) left ≡ Some k →
    spent s (suc d) (first + 1) n k ≡ spent s (suc d) first (suc n) (suc left)
unfolding spent
suc-rest s d first n left k e =
    first-left (rows_all (levels_within s d) (first_child s first) (child_count s first)) (rows_all (levels_within s (suc d)) (first + 1) n)
    (rows_sum (nodes_to s d) (first_child s first) (child_count s first)) (rows_sum (nodes_to s (suc d)) (first + 1) n) left k e ∙ sym (unroll s d first n left)

-- With a level and a node taken for the first row.
pub walk-large : (s : List ℕ) (d first n left below rest f m : ℕ) (r : Option ℕ) → (n ≡ 0 → ⊥) → below + 1 ≡ d → rest + 1 ≡ left → f ≡ first_child s first → m ≡ child_count s first →
    r ≡ spent s below f m rest → r ≡ None → None ≡ spent s d first n left
walk-large s d first n left below rest f m r a b g p q h e =
    let y : d ≡ suc below = omega arith in
    let z : n ≡ suc (n - 1) = omega arith in
    let w : left ≡ suc rest = omega arith in
    let v : spent s below (first_child s first) (child_count s first) rest ≡ None = cc in
    suc-large s below first (n - 1) rest v ∙ cc

pub walk-rest : (s : List ℕ) (d first n left below rest f m k : ℕ) (r x : Option ℕ) → (n ≡ 0 → ⊥) → below + 1 ≡ d → rest + 1 ≡ left → f ≡ first_child s first → m ≡ child_count s first →
    r ≡ spent s below f m rest → r ≡ Some k → x ≡ spent s d (first + 1) (n - 1) k → x ≡ spent s d first n left
walk-rest s d first n left below rest f m k r x a b g p q h e o =
    let y : d ≡ suc below = omega arith in
    let z : n ≡ suc (n - 1) = omega arith in
    let w : left ≡ suc rest = omega arith in
    let v : spent s below (first_child s first) (child_count s first) rest ≡ Some k = cc in
    let u : spent s (suc below) (first + 1) (n - 1) k ≡ spent s (suc below) first (suc (n - 1)) (suc rest) = suc-rest s below first (n - 1) rest k v in
    cc

-- A row without children.
pub walk-leaf : (s : List ℕ) (d first n left below rest m : ℕ) (x : Option ℕ) → (n ≡ 0 → ⊥) → below + 1 ≡ d → rest + 1 ≡ left → m ≡ child_count s first → m ≡ 0 →
    x ≡ spent s d (first + 1) (n - 1) rest → x ≡ spent s d first n left
walk-leaf s d first n left below rest m x a b g q z o =
    walk-rest s d first n left below rest (first_child s first) m rest (Some rest) x a b g refl q (walk-done s below (first_child s first) m rest z) refl o

left_is : (b : Bool) (m l : ℕ) → is_left (spent_by b m l) ≡ (b && leb m l)
left_is b m l = left_by (b && leb m l) (Some (l - m)) refl where
  left_by : (t : Bool) (x : Option ℕ) → is_left x ≡ true → is_left (pick t x None) ≡ t
  left_by true x e = e
  left_by false x e = refl

-- A row alone: within the walk as within levels and nodes.
within-is : (s : List ℕ) (r : ℕ) → is_left (spent s 4 r 1 16) ≡ type_within s r
unfolding spent rows_all rows_sum type_within
within-is s r = left_is (levels_within s 4 r && true) (nodes_to s 4 r + 0) 16 ∙ cc (and-true (levels_within s 4 r), zero-plus (nodes_to s 4 r))
  where
    zero-plus : (n : ℕ) → n + 0 ≡ n
    zero-plus n = omega arith

pub fits : (s : List ℕ) (r i : ℕ) (w : Option ℕ) → i ≡ r → w ≡ spent s 4 i 1 16 → is_some w ≡ type_within s r
fits s r i w p h = rw (h, p) (left-some (spent s 4 r 1 16) ∙ within-is s r)
  where
    left-some : (x : Option ℕ) → is_some x ≡ is_left x
    left-some (Some n) = refl
    left-some None = refl

-- ---- levels of expressions

pub level_in : (l : List ℕ) (a i : ℕ) → a < 256 → i ≡ a → get_or l i 0 ≡ level_at l a
unfolding level_at
level_in l a i h e = rw (lt-ltb a 256 h) (ap (λ (x : ℕ). get_or l x 0) e)

-- A list's number says how many levels a row has, as far as 8.
abbrev Says : List ℕ → ℕ → ℕ → Type 0
Says s r level = (d : ℕ) → d ≤ 8 → depth_within s d r ≡ leb level d

one-level : (d : ℕ) → true ≡ leb 1 (suc d)
one-level d = sym (le-leb 1 (suc d) (omega arith))

no-level : (n : ℕ) → false ≡ leb (suc n) 0
no-level n = sym (lt-leb (suc n) 0 (omega arith))

level-more : (m d : ℕ) (u : Bool) → leb m d ≡ u → u ≡ leb (m + 1) (suc d)
level-more m d true k = let l : m ≤ d = leb-true m d k in sym (le-leb (m + 1) (suc d) (omega arith))
level-more m d false k = let l : d < m = leb-false m d k in sym (lt-leb (m + 1) (suc d) (omega arith))

level-most : (m d : ℕ) → d < 8 → (t : Bool) → ltb m 8 ≡ t → leb m d ≡ leb (pick t (m + 1) 9) (suc d)
level-most m d h true e = level-more m d (leb m d) refl
level-most m d h false e =
    let l : 8 ≤ m = ltb-false m 8 e in
    lt-leb m d (omega arith) ∙ sym (lt-leb 9 (suc d) (omega arith))

both-second : (a b d : ℕ) → a < b → (t : Bool) → leb b d ≡ t → (leb a d && t) ≡ t
both-second a b d l true e = let k : b ≤ d = leb-true b d e in rw (le-leb a d (omega arith)) refl
both-second a b d l false e = and-false (leb a d)

both_first : (a b d : ℕ) → b ≤ a → (t : Bool) → leb a d ≡ t → (t && leb b d) ≡ t
both_first a b d l true e = let k : a ≤ d = leb-true a d e in le-leb b d (omega arith)
both_first a b d l false e = refl

-- One level more than the larger is within one more exactly if both are within.
above-is : (a b d : ℕ) → d < 8 → (leb a d && leb b d) ≡ leb (level_above a b) (suc d)
unfolding level_above larger
above-is a b d h = go (ltb a b) refl
  where
    go : (t : Bool) → ltb a b ≡ t → (leb a d && leb b d) ≡ leb (pick (ltb (pick t b a) 8) (pick t b a + 1) 9) (suc d)
    go true e = both-second a b d (ltb-true a b e) (leb b d) refl ∙ level-most b d h (ltb b 8) refl
    go false e = both_first a b d (ltb-false a b e) (leb a d) refl ∙ level-most a d h (ltb a 8) refl

and_self : (a : Bool) → a ≡ (a && a)
and_self true = refl
and_self false = refl

alone : (x : Bool) (a d : ℕ) → x ≡ leb a d → d < 8 → x ≡ leb (level_above a a) (suc d)
alone x a d p h = p ∙ and_self (leb a d) ∙ above-is a a d h

pair : (x y : Bool) (a b d : ℕ) → x ≡ leb a d → y ≡ leb b d → d < 8 → (x && y) ≡ leb (level_above a b) (suc d)
pair x y a b d p q h = rw (p, q) (above-is a b d h)

-- Which operands a kind has: what is asked of them.
abbrev Needs : ExpressionKind → Type 0 → Type 0 → Type 0
Needs ExpressionKind.Constant A B = Unit {0}
Needs ExpressionKind.ValueAt A B = Unit {0}
Needs ExpressionKind.Presence A B = Unit {0}
Needs ExpressionKind.Not A B = A
Needs ExpressionKind.Negate A B = A
Needs ExpressionKind.Add A B = A × B
Needs ExpressionKind.Subtract A B = A × B
Needs ExpressionKind.Less A B = A × B
Needs ExpressionKind.Equal A B = A × B
Needs ExpressionKind.And A B = A × B
Needs ExpressionKind.Unknown A B = Unit {0}

kind-level : (k : ExpressionKind) (x y : Bool) (a b d : ℕ) → d < 8 → Needs k (x ≡ leb a d) (y ≡ leb b d) → operands_within k x y ≡ leb (level_by k a b) (suc d)
unfolding level_by
kind-level ExpressionKind.Constant x y a b d h n = one-level d
kind-level ExpressionKind.ValueAt x y a b d h n = one-level d
kind-level ExpressionKind.Presence x y a b d h n = one-level d
kind-level ExpressionKind.Not x y a b d h n = alone x a d n h
kind-level ExpressionKind.Negate x y a b d h n = alone x a d n h
kind-level ExpressionKind.Add x y a b d h n = pair x y a b d n.0 n.1 h
kind-level ExpressionKind.Subtract x y a b d h n = pair x y a b d n.0 n.1 h
kind-level ExpressionKind.Less x y a b d h n = pair x y a b d n.0 n.1 h
kind-level ExpressionKind.Equal x y a b d h n = pair x y a b d n.0 n.1 h
kind-level ExpressionKind.And x y a b d h n = pair x y a b d n.0 n.1 h
kind-level ExpressionKind.Unknown x y a b d h n = one-level d

above-some : (a b : ℕ) → false ≡ leb (level_above a b) 0
unfolding level_above
above-some a b = go (ltb (larger a b) 8)
  where
    go : (t : Bool) → false ≡ leb (pick t (larger a b + 1) 9) 0
    go true = sym (lt-leb (larger a b + 1) 0 (omega arith))
    go false = no-level 8

some_level : (k : ExpressionKind) (a b : ℕ) → false ≡ leb (level_by k a b) 0
unfolding level_by
some_level ExpressionKind.Constant a b = no-level 0
some_level ExpressionKind.ValueAt a b = no-level 0
some_level ExpressionKind.Presence a b = no-level 0
some_level ExpressionKind.Not a b = above-some a a
some_level ExpressionKind.Negate a b = above-some a a
some_level ExpressionKind.Add a b = above-some a b
some_level ExpressionKind.Subtract a b = above-some a b
some_level ExpressionKind.Less a b = above-some a b
some_level ExpressionKind.Equal a b = above-some a b
some_level ExpressionKind.And a b = above-some a b
some_level ExpressionKind.Unknown a b = no-level 0

needs-map : (k : ExpressionKind) {A B C D : Type 0} → (A → C) → (B → D) → Needs k A B → Needs k C D
needs-map ExpressionKind.Constant f g n = tt
needs-map ExpressionKind.ValueAt f g n = tt
needs-map ExpressionKind.Presence f g n = tt
needs-map ExpressionKind.Not f g n = f n
needs-map ExpressionKind.Negate f g n = f n
needs-map ExpressionKind.Add f g n = (f n.0, g n.1)
needs-map ExpressionKind.Subtract f g n = (f n.0, g n.1)
needs-map ExpressionKind.Less f g n = (f n.0, g n.1)
needs-map ExpressionKind.Equal f g n = (f n.0, g n.1)
needs-map ExpressionKind.And f g n = (f n.0, g n.1)
needs-map ExpressionKind.Unknown f g n = tt

-- Refusal 4 leaves only operands that are earlier rows.
earlier-by : (s : List ℕ) (r basic v w x : ℕ) (k : ExpressionKind) → field_fits s r basic (expression_fields k).a v w ≡ true →
    field_fits s r basic (expression_fields k).b w x ≡ true → Needs k (v < r) (w < r)
unfolding field_fits expression_fields
earlier-by s r basic v w x ExpressionKind.Constant p q = tt
earlier-by s r basic v w x ExpressionKind.ValueAt p q = tt
earlier-by s r basic v w x ExpressionKind.Presence p q = tt
earlier-by s r basic v w x ExpressionKind.Not p q = ltb-true v r p
earlier-by s r basic v w x ExpressionKind.Negate p q = ltb-true v r p
earlier-by s r basic v w x ExpressionKind.Add p q = (ltb-true v r p, ltb-true w r q)
earlier-by s r basic v w x ExpressionKind.Subtract p q = (ltb-true v r p, ltb-true w r q)
earlier-by s r basic v w x ExpressionKind.Less p q = (ltb-true v r p, ltb-true w r q)
earlier-by s r basic v w x ExpressionKind.Equal p q = (ltb-true v r p, ltb-true w r q)
earlier-by s r basic v w x ExpressionKind.And p q = (ltb-true v r p, ltb-true w r q)
earlier-by s r basic v w x ExpressionKind.Unknown p q = tt

-- The rules of an E row's fields a and b.
fields-kept : (s : List ℕ) (r : ℕ) → expression_row s r ≡ None → fields_rule s r (byte_at s (expression_at s r + 1)) (expression_fields (expression_kind_at s r)) (expression_at s r) None ≡ None
unfolding expression_row
fields-kept s r e =
    let at = expression_at s r in
    let k = expression_kind_at s r in
    let h = rule-kept (leb (byte_at s at) 9) at (rule (basic_fits k (byte_at s (at + 1))) (at + 1) (fields_rule s r (byte_at s (at + 1)) (expression_fields k) at None)) e in
    (rule-kept (basic_fits k (byte_at s (at + 1))) (at + 1) (fields_rule s r (byte_at s (at + 1)) (expression_fields k) at None) h.1).1

earlier : (s : List ℕ) (r : ℕ) → expression_row s r ≡ None → Needs (expression_kind_at s r) (field_a s (expression_at s r) < r) (field_b s (expression_at s r) < r)
unfolding fields_rule
earlier s r e =
    let at = expression_at s r in
    let k = expression_kind_at s r in
    let basic = byte_at s (at + 1) in
    let x = field_fits s r basic (expression_fields k).a (field_a s at) (field_b s at) in
    let y = field_fits s r basic (expression_fields k).b (field_b s at) (field_c s at) in
    let z = rule (field_fits s r basic (expression_fields k).c (field_c s at) 0) (at + 6) None in
    let f = rule-kept x (at + 2) (rule y (at + 4) z) (fields-kept s r e) in
    let g = rule-kept y (at + 4) z f.1 in
    earlier-by s r basic (field_a s at) (field_b s at) (field_c s at) k f.0 g.0

-- The list has the levels of the first i rows.
pub record Levels (s : List ℕ) (i : ℕ) (l : List ℕ) : Type 0 where
  pub room : 256 ≤ length l
  pub says : (j : ℕ) → j < i → Says s j (get_or l j 0)

-- An earlier row's levels are in the list.
operand-says : (s l : List ℕ) (r a d : ℕ) → Levels s r l → r < 256 → d ≤ 8 → a < r → depth_within s d a ≡ leb (level_at l a) d
operand-says s l r a d v g h k = v.says a k d h ∙ ap (λ (x : ℕ). leb x d) (level_in l a a (omega arith) refl)

row-says : (s l : List ℕ) (r : ℕ) → expression_row s r ≡ None → r < 256 → Levels s r l → Says s r (row_level s l r)
unfolding row_level depth_within
row-says s l r e g v zero h = some_level (expression_kind_at s r) (level_at l (field_a s (expression_at s r))) (level_at l (field_b s (expression_at s r)))
row-says s l r e g v (suc d) h =
    let a = field_a s (expression_at s r) in
    let b = field_b s (expression_at s r) in
    kind-level (expression_kind_at s r) (depth_within s d a) (depth_within s d b) (level_at l a) (level_at l b) d (omega arith)
    (needs-map (expression_kind_at s r) (λ k. operand-says s l r a d v g (omega arith) k) (λ k. operand-says s l r b d v g (omega arith) k) (earlier s r e))

pub record Leveling (s : List ℕ) (n i : ℕ) (m : Option ℕ) (l : List ℕ) : Type 0 where
  pub swept : Swept (expression_large s) n i m
  pub levels : Levels s i l

pub levels-begin : (s : List ℕ) (n : ℕ) (l : List ℕ) → length l ≡ 256 → Leveling s n 0 None l
levels-begin s n l e = record {
  swept = swept_none (expression_large s) n;
  levels = record { room = omega arith; says = λ j k. absurd (omega arith) };
}

large_is : (s : List ℕ) (i v at : ℕ) (x : Option ℕ) → Says s i v → at ≡ expression_at s i → x ≡ rule (leb v 8) at None → x ≡ expression_large s i
unfolding expression_large
large_is s i v at x f e p = p ∙ rw (e, sym (f 8 (omega arith))) refl

set_says : (s : List ℕ) (i v : ℕ) (l : List ℕ) → Levels s i l → i < 256 → Says s i v → Levels s (i + 1) (set l i v)
set_says s i v l w h f = record {
  room = rw (length-set l i v) w.room;
  says = λ j k. ⊎_elim (λ q. same j q) (λ q. other j q) (eq-or-lt_of_le (below j k));
}
  where
    below : (j : ℕ) → j < i + 1 → j ≤ i
    below j k = omega arith

    same : (j : ℕ) → j ≡ i → Says s j (get_or (set l i v) j 0)
    same j q = rw (q, get_or-set_same l i v 0 (omega (arith, w.room))) f

    other : (j : ℕ) → j < i → Says s j (get_or (set l i v) j 0)
    other j q = rw (get_or-set_other l i j v 0 (λ e. omega arith)) (w.says j q)

pub levels-more : (s : List ℕ) (n i v a at : ℕ) (m x r : Option ℕ) (l : List ℕ) → Operands s → n ≡ expression_count s → Leveling s n i m l → i < n →
    v ≡ row_level s l i → a ≡ i → at ≡ expression_at s i → x ≡ rule (leb v 8) at None → r ≡ least m x → Leveling s n (i + 1) r (set l a v)
unfolding expression_rows
levels-more s n i v a at m x r l o c w h e d g p q =
    let k : expression_row s i ≡ None = over-kept (expression_row s) (expression_count s) i o.kept (omega arith) in
    let f : Says s i v = rw e (row-says s l i k (omega (arith, o.few)) w.levels) in
    record {
      swept = swept-more (expression_large s) n i m x r w.swept h (large_is s i v at x f g p) q;
      levels = rw d (set_says s i v l w.levels (omega (arith, o.few)) f);
    }

pub levels-done : (s : List ℕ) (n i : ℕ) (m : Option ℕ) (l : List ℕ) → n ≡ expression_count s → Leveling s n i m l → n ≤ i → m ≡ expression_sizes s
unfolding expression_sizes
levels-done s n i m l e w h = swept-done (expression_large s) n i m (expression_count s) w.swept h e

pub ruleset levels-laws = (levels-begin, levels-more, levels-done)

-- ---- the whole

-- Refusal 3 leaves at most 256 rows.
counts-few : (s : List ℕ) → counted s ≡ true → (expression_count s ≤ 256) × (behaviour_count s ≤ 256)
unfolding counted
counts-few s e =
    let services = leb 1 (service_count s) && leb (service_count s) 4 in
    let operations = leb (operation_count s) 64 && services in
    let behaviours = leb (behaviour_count s) 256 && operations in
    let expressions = leb (expression_count s) 256 && behaviours in
    let types = leb (type_count s) 256 && expressions in
    let a = and-of (leb (path_count s) 256) types e in
    let b = and-of (leb (type_count s) 256) expressions a.1 in
    let c = and-of (leb (expression_count s) 256) behaviours b.1 in
    let d = and-of (leb (behaviour_count s) 256) operations c.1 in
    (leb-true (expression_count s) 256 c.0, leb-true (behaviour_count s) 256 d.0)

broken-kept : (s : List ℕ) → broken s ≡ None → expression_rows s ≡ None
unfolding broken
broken-kept s e =
    let rest = least (behaviour_rows s) (least (uses_rows s) (least (operation_rows s) (service_rows s))) in
    let a = least_kept (path_rows s) (least (type_rows s) (least (expression_rows s) rest)) e in
    let b = least_kept (type_rows s) (least (expression_rows s) rest) a.1 in
    (least_kept (expression_rows s) rest b.1).0

pub few-behaviours : (s : List ℕ) (b : Bool) → b ≡ counted s → not b ≡ false → behaviour_count s ≤ 256
few-behaviours s b q f = (counts-few s (sym q ∙ not-false b f)).1

pub operands-left : (s : List ℕ) (b : Bool) (m : Option ℕ) → b ≡ counted s → not b ≡ false → m ≡ broken s → m ≡ None → Operands s
operands-left s b m q f g h = record { few = (counts-few s (sym q ∙ not-false b f)).0; kept = broken-kept s (sym g ∙ h) }

pub form-layout : (s : List ℕ) (a : Bool) → a ≡ laid_out s → not a ≡ true → Err FileLayout ≡ form_of s
unfolding form_of
form-layout s a p e = let z : laid_out s ≡ false = sym p ∙ not-true a e in rw z refl

module _ (s : List ℕ) (a b : Bool) (p : a ≡ laid_out s) (e : not a ≡ false) (q : b ≡ counted s) where
  laid : laid_out s ≡ true
  laid = sym p ∙ not-false a e

  pub form-counts : not b ≡ true → Err SectionCount ≡ form_of s
  unfolding form_of
  form-counts f = let z : counted s ≡ false = sym q ∙ not-true b f in rw (laid, z) refl

  module _ (f : not b ≡ false) (m : Option ℕ) (g : m ≡ broken s) where
    rows : counted s ≡ true
    rows = sym q ∙ not-false b f

    pub form-field : (p : ℕ) → m ≡ Some p → Err (BrokenField p) ≡ form_of s
    unfolding form_of
    form-field p h = let z : broken s ≡ Some p = sym g ∙ h in rw (laid, rows, z) refl

    module _ (h : m ≡ None) (l : Option ℕ) (i : l ≡ large s) where
      fields : broken s ≡ None
      fields = sym g ∙ h

      pub form-large : (p : ℕ) → l ≡ Some p → Err (TooLarge p) ≡ form_of s
      unfolding form_of
      form-large p k = let z : large s ≡ Some p = sym i ∙ k in rw (laid, rows, fields, z) refl

      pub form-whole : l ≡ None → (Ok tt) ≡ form_of s
      unfolding form_of
      form-whole k = let z : large s ≡ None = sym i ∙ k in rw (laid, rows, fields, z) refl

pub ruleset form-laws = (few-behaviours, operands-left, form-layout, form-counts, form-field, form-large, form-whole)
