-- Laws of marks: uses one after another, one law for each way out of the functions, and the pass over all rows and services.
use Prim.Native.Nat.{ℕ, zero, suc, ◌+◌, ◌<◌, ◌≤◌}
use mathlib.Core.Path.{◌≡◌, refl, sym, ◌∙◌, ap}
use mathlib.Core.List.{List, [], ◌∷◌}
use mathlib.Core.Bool.{Bool, true, false, not, ◌&&◌, ◌||◌}
use mathlib.Core.Logic.{◌⊎◌, ⊎_elim}
use native.Mathlib.Nat.{not-suc-le-zero, le_of_suc-le-suc, eq-or-lt_of_le}
use native.Mathlib.Numerals.{add-one}
use native.Mathlib.Omega.{arith}
use lib.ListN.{get_or, set, length, length-set}
use lib.Seq.{get_or-set_same, get_or-set_other}
use lib.Dec.{eqb, leb, ltb}
use borrow.Author.Tests.{eq-eqb, ne_eqb, eqb-true, eqb-false, lt-ltb, le-ltb, le-leb, ltb-true, ltb-false, leb-true}
use Rattle.basics.specs.Choice.{pick}
use Rattle.network.specs.declared.FieldSort.{FieldSort}
use Rattle.network.specs.declared.FieldSort.TheVariants.{Unruled, Unused, PathRow, EarlierRow, ExpressionRow, OperationRow, LaterRow, InputRow, BranchRun, BranchCount, ConstantPart}
use Rattle.network.specs.Least.{least, rule, least_over, sum_over}
use Rattle.network.specs.Layout.{behaviour_count, service_count, behaviour_at, service_at}
use Rattle.network.specs.declared.BehaviourKind.{BehaviourKind}
use Rattle.wire.specs.Wire.{u16_at}
use Rattle.network.specs.Kinds.{behaviour_fields}
use Rattle.network.specs.declared.Fields.{Fields}
use Rattle.network.specs.Rows.{kind_at, starter_row, client_row}
use Rattle.network.specs.Uses.{one, field_uses, uses_by, row_uses, service_uses, used_by_rows, used, second_use, row_use_rule, service_use_rule, uses_rows}
use Rattle.network.proofs.FoldLaws.{used_rule, uses-by-user}
use Rattle.network_layout.specs.Loops.{clip, clip-below, run_none, Swept, swept_none, swept-more, swept-done}
use Rattle.network_layout.specs.LeastFacts.{rule-true, rule-either}
use Rattle.network_uses.specs.Marks.{some_below, plus, second_of, Marked, MarkStep, use_of, run_to, field_use, sorts_use, row_use, service_use, no_use, uses_to, uses_beside, row_second, service_second, never_used, Unmarked, ByRows, Beside, ByServices, AllUsed}
use Rattle.std.specs.Prelude.{Option, None}

-- ---- tests below a number

some_alike : (f g : ℕ → Bool) (n : ℕ) → ((t : ℕ) → t < n → f t ≡ g t) → some_below n f ≡ some_below n g
unfolding some_below
some_alike f g zero h = refl
some_alike f g (suc n) h =
    let a : some_below n f ≡ some_below n g = some_alike f g n (λ t l. h t (omega arith)) in
    let b : f n ≡ g n = h n (omega arith) in
    cc

or-none : (a b : Bool) → a ≡ false → b ≡ false → a || b ≡ false
or-none a b e f = rw (e, f) refl

or_left : (a b : Bool) → b ≡ false → a || b ≡ a
or_left true b e = refl
or_left false b e = e

or_right : (a b : Bool) → a ≡ false → a || b ≡ b
or_right a b e = rw e refl

some-none : (f : ℕ → Bool) (n : ℕ) → ((t : ℕ) → t < n → f t ≡ false) → some_below n f ≡ false
unfolding some_below
some-none f zero h = refl
some-none f (suc n) h = or-none (some_below n f) (f n) (some-none f n (λ t l. h t (omega arith))) (h n (omega arith))

-- Only one number can hold.
some_one : (f : ℕ → Bool) (n v : ℕ) → v < n → ((t : ℕ) → t < n → (v ≡ t → ⊥) → f t ≡ false) → some_below n f ≡ f v
unfolding some_below
some_one f zero v l h = absurd (not-suc-le-zero l)
some_one f (suc n) v l h =
    ⊎_elim
    (λ q. or_right (some_below n f) (f n) (some-none f n (λ t k. h t (omega arith) (λ e. omega arith))) ∙ sym (ap f q))
    (λ k. or_left (some_below n f) (f n) (h n (omega arith) (λ e. omega arith)) ∙ some_one f n v k (λ t m d. h t (omega arith) d))
    (eq-or-lt_of_le (le_of_suc-le-suc l))

or-cross : (a b c d : Bool) → (a || b) || (c || d) ≡ (a || c) || (b || d)
or-cross true b c d = refl
or-cross false true true d = refl
or-cross false true false d = refl
or-cross false false c d = refl

some-either : (f g : ℕ → Bool) (n : ℕ) → some_below n (λ t. f t || g t) ≡ some_below n f || some_below n g
unfolding some_below
some-either f g zero = refl
some-either f g (suc n) =
    ap (λ (x : Bool). x || (f n || g n)) (some-either f g n) ∙ or-cross (some_below n f) (some_below n g) (f n) (g n)

-- A rule at one place for each of the numbers is one rule.
some-rule : (f : ℕ → Bool) (n p : ℕ) → rule (not (some_below n f)) p None ≡ least_over n (λ t. rule (not (f t)) p None)
unfolding some_below least_over
some-rule f zero p = rule-true true p refl
some-rule f (suc n) p =
    rule-either (some_below n f) (f n) p ∙ ap (λ (x : Option ℕ). least x (rule (not (f n)) p None)) (some-rule f n p)

-- ---- second uses

zero-second : (u h : ℕ) → h ≡ 0 → second_use u h ≡ false
unfolding second_use
zero-second u h e = rw e refl

second-join-by : (u h k : ℕ) (a b : Bool) → eqb h 0 ≡ a → eqb k 0 ≡ b → second_use u (h + k) ≡ second_use u h || second_use (u + h) k
unfolding second_use
second-join-by u h k true b p q =
    let e : h ≡ 0 = eqb-true h 0 p in
    let f : 0 + k ≡ k = omega arith in
    let g : u + 0 ≡ u = omega arith in
    rw (e, f, g) refl
second-join-by u h k false true p q =
    let e : k ≡ 0 = eqb-true k 0 q in
    let f : h + 0 ≡ h = omega arith in
    rw (e, f) (sym (or_left (not (eqb h 0) && ltb 1 (u + h)) false refl))
second-join-by u h k false false p q =
    let a : h ≡ 0 → ⊥ = eqb-false h 0 p in
    let b : k ≡ 0 → ⊥ = eqb-false k 0 q in
    let x : ltb 1 (u + (h + k)) ≡ true = lt-ltb 1 (u + (h + k)) (omega arith) in
    let y : ltb 1 (u + h + k) ≡ true = lt-ltb 1 (u + h + k) (omega arith) in
    let z : eqb (h + k) 0 ≡ false = ne_eqb (h + k) 0 (λ e. omega arith) in
    rw (x, y, z, q, p) (sym (or-any (ltb 1 (u + h))))
  where
    or-any : (a : Bool) → a || true ≡ true
    or-any true = refl
    or-any false = refl

second-join : (u h k : ℕ) → second_use u (h + k) ≡ second_use u h || second_use (u + h) k
second-join u h k = second-join-by u h k (eqb h 0) (eqb k 0) refl refl

-- ---- steps

marked-alike : {n : ℕ} {u v : ℕ → ℕ} {l : List ℕ} → ((t : ℕ) → t < n → u t ≡ v t) → Marked n u l → Marked n v l
marked-alike h m = record { room = m.room; marked = λ t l. m.marked t l ∙ ap (λ (x : ℕ). eqb x 0) (h t l) }

pub step-alike : {n : ℕ} {h k : ℕ → ℕ} {l m : List ℕ} {x : Bool} → ((t : ℕ) → t < n → h t ≡ k t) → MarkStep n h l m x → MarkStep n k l m x
unfolding plus second_of
step-alike {n} {h} {k} e w = record {
  adds = λ u a. marked-alike (λ t l. ap (λ (y : ℕ). u t + y) (e t l)) (w.adds u a);
  seen = λ u a. w.seen u a ∙ some_alike (second_of u h) (second_of u k) n (λ t l. ap (second_use (u t)) (e t l));
}

pub step-nothing : (n : ℕ) (h : ℕ → ℕ) (l : List ℕ) → ((t : ℕ) → t < n → h t ≡ 0) → MarkStep n h l l false
unfolding plus second_of
step-nothing n h l e = record {
  adds = λ u a. marked-alike (λ t k. let z = e t k in omega arith) a;
  seen = λ u a. sym (some-none (second_of u h) n (λ t k. zero-second (u t) (h t) (e t k)));
}

pub step-join : {n : ℕ} {h k : ℕ → ℕ} {l m o : List ℕ} {x y : Bool} → MarkStep n h l m x → MarkStep n k m o y → MarkStep n (plus h k) l o (x || y)
unfolding plus second_of
step-join {n} {h} {k} {l} {m} {o} {x} {y} v w = record {
  adds = λ u a. marked-alike (λ t j. omega arith) (w.adds (plus u h) (v.adds u a));
  seen = λ u a.
      let p : x ≡ some_below n (second_of u h) = v.seen u a in
      let q : y ≡ some_below n (second_of (plus u h) k) = w.seen (plus u h) (v.adds u a) in
      ap (λ (z : Bool). z || y) p ∙ ap (λ (z : Bool). some_below n (second_of u h) || z) q
      ∙ sym (some-either (second_of u h) (second_of (plus u h) k) n)
      ∙ some_alike (λ t. second_of u h t || second_of (plus u h) k t) (second_of u (plus h k)) n (λ t j. sym (second-join (u t) (h t) (k t)));
}

-- ---- one row

pub use-past : (n v : ℕ) (l : List ℕ) → n ≤ v → MarkStep n (use_of v) l l false
unfolding use_of
use-past n v l h = step-nothing n (use_of v) l (λ t k. ap one (ne_eqb v t (λ e. omega arith)))

first-use : (u : ℕ) → second_use u 1 ≡ not (eqb u 0)
unfolding second_use
first-use u = go (eqb u 0) refl
  where
    go : (b : Bool) → eqb u 0 ≡ b → ltb 1 (u + 1) ≡ not b
    go true e = let z : u ≡ 0 = eqb-true u 0 e in le-ltb 1 (u + 1) (omega arith)
    go false e = let z : u ≡ 0 → ⊥ = eqb-false u 0 e in lt-ltb 1 (u + 1) (omega arith)

use-here : (n v : ℕ) (l : List ℕ) → v < n → MarkStep n (use_of v) l (set l v 1) (not (eqb (get_or l v 0) 0))
unfolding use_of plus second_of
use-here n v l h = record {
  adds = λ u a. record {
    room = rw (length-set l v 1) a.room;
    marked = λ t j. go u t a.room (eqb v t) refl (a.marked t j);
  };
  seen = λ u a.
      ap not (a.marked v h) ∙ sym (first-use (u v)) ∙ ap (λ (b : Bool). second_use (u v) (one b)) (sym (eq-eqb v v refl))
      ∙ sym (some_one (second_of u (use_of v)) n v h (λ t j d. zero-second (u t) (one (eqb v t)) (ap one (ne_eqb v t d))));
}
  where
    go : (u : ℕ → ℕ) (t : ℕ) → n ≤ length l → (b : Bool) → eqb v t ≡ b → eqb (get_or l t 0) 0 ≡ eqb (u t) 0 → eqb (get_or (set l v 1) t 0) 0 ≡ eqb (u t + one (eqb v t)) 0
    go u t k true e m =
        let q : v ≡ t = eqb-true v t e in
        let g : get_or (set l v 1) t 0 ≡ 1 = ap (λ (j : ℕ). get_or (set l v 1) j 0) (sym q) ∙ get_or-set_same l v 1 0 (omega arith) in
        let z : eqb (u t + 1) 0 ≡ false = ne_eqb (u t + 1) 0 (λ x. omega arith) in
        rw (g, e, z) refl
    go u t k false e m =
        let q : v ≡ t → ⊥ = eqb-false v t e in
        let g : get_or (set l v 1) t 0 ≡ get_or l t 0 = get_or-set_other l v t 1 0 (λ x. q (sym x)) in
        let z : u t + 0 ≡ u t = omega arith in
        rw (g, e, z) m

-- What `use_row` leaves: the mark was read before it was set.
pub use-row : (n v i : ℕ) (l : List ℕ) → v < n → i ≡ v → MarkStep n (use_of v) l (set l i 1) (not (eqb (get_or l i 0) 0))
use-row n v i l h e = rw e (use-here n v l h)

pub ruleset use-laws = (use-past, use-row)

-- ---- a run

outside : (first t from : ℕ) → from ≤ first → leb first t && ltb t from ≡ false
outside first t from h = go (leb first t) refl
  where
    go : (b : Bool) → leb first t ≡ b → b && ltb t from ≡ false
    go false e = refl
    go true e = let l : first ≤ t = leb-true first t e in le-ltb t from (omega arith)

pub record Running (first w n i end : ℕ) (l m : List ℕ) (x : Bool) : Type 0 where
  pub low : clip (first + 0) n ≤ i
  pub within : i ≤ end
  pub step : MarkStep n (run_to first i) l m x

pub run-begin : (first w n from end : ℕ) (l : List ℕ) → from ≡ clip (first + 0) n → end ≡ clip (first + w) n → Running first w n from end l l false
unfolding run_to
run-begin first w n from end l p q = record {
  low = omega arith;
  within = (run_none (λ j. None) first w n from end (λ j e. refl) p q).within;
  step = step-nothing n (run_to first from) l (λ t k. ap one (outside first t from (omega (arith, (clip-below (first + 0) n).0))));
}

one_more : (first i t : ℕ) → first ≤ i → one (leb first t && ltb t i) + one (eqb i t) ≡ one (leb first t && ltb t (i + 1))
one_more first i t h = go (ltb t i) refl (eqb i t) refl
  where
    go : (b : Bool) → ltb t i ≡ b → (d : Bool) → eqb i t ≡ d → one (leb first t && b) + one d ≡ one (leb first t && ltb t (i + 1))
    go true e true g = let l : t < i = ltb-true t i e in let z : i ≡ t = eqb-true i t g in absurd (omega arith)
    go true e false g =
        let l : t < i = ltb-true t i e in
        let y : ltb t (i + 1) ≡ true = lt-ltb t (i + 1) (omega arith) in
        let z : one (leb first t && true) + 0 ≡ one (leb first t && true) = omega arith in
        rw y z
    go false e true g =
        let z : i ≡ t = eqb-true i t g in
        let x : leb first t ≡ true = le-leb first t (omega arith) in
        let y : ltb t (i + 1) ≡ true = lt-ltb t (i + 1) (omega arith) in
        rw (x, y) refl
    go false e false g =
        let l : i ≤ t = ltb-false t i e in
        let k : i ≡ t → ⊥ = eqb-false i t g in
        let y : ltb t (i + 1) ≡ false = le-ltb t (i + 1) (omega arith) in
        let z : one (leb first t && false) + 0 ≡ one (leb first t && false) = omega arith in
        rw y z

reached : (first n i : ℕ) → clip (first + 0) n ≤ i → i < n → first ≤ i
reached first n i h l = go (ltb (first + 0) n) refl h
  where
    go : (b : Bool) → ltb (first + 0) n ≡ b → pick b (first + 0) n ≤ i → first ≤ i
    go true e k = omega arith
    go false e k = absurd (omega arith)

pub run_more : (first w n i end : ℕ) (l m o : List ℕ) (x y r : Bool) → end ≡ clip (first + w) n → Running first w n i end l m x → i < end →
    MarkStep n (use_of i) m o y → r ≡ (x || y) → Running first w n (i + 1) end l o r
unfolding run_to use_of plus
run_more first w n i end l m o x y r q v h u e = record {
  low = omega (arith, v.low);
  within = omega arith;
  step = rw e (step-alike (λ t k. one_more first i t (reached first n i v.low (omega (arith, (clip-below (first + w) n).1)))) (step-join v.step u));
}

ends : (first w n t : ℕ) → t < n → ltb t (clip (first + w) n) ≡ ltb t (first + w)
ends first w n t h = go (ltb (first + w) n) refl
  where
    go : (b : Bool) → ltb (first + w) n ≡ b → ltb t (pick b (first + w) n) ≡ ltb t (first + w)
    go true e = refl
    go false e = let l : n ≤ first + w = ltb-false (first + w) n e in lt-ltb t n h ∙ sym (lt-ltb t (first + w) (omega arith))

pub run_end : (first w n i end : ℕ) (l m : List ℕ) (x : Bool) → end ≡ clip (first + w) n → Running first w n i end l m x → end ≤ i →
    MarkStep n (field_use BranchRun first w) l m x
unfolding run_to field_use field_uses
run_end first w n i end l m x q v h =
    let z : i ≡ clip (first + w) n = omega (arith, v.within) in
    step-alike (λ t k. ap (λ (b : Bool). one (leb first t && b)) (ap (ltb t) z ∙ ends first w n t k)) v.step

pub ruleset run-laws = (run-begin, run_more, run_end)

-- ---- a field

unused : (n v w : ℕ) (q : FieldSort) (l : List ℕ) → ((t : ℕ) → field_uses q v w t ≡ false) → MarkStep n (field_use q v w) l l false
unfolding field_use
unused n v w q l h = step-nothing n (field_use q v w) l (λ t k. ap one (h t))

-- Only three sorts of fields use a row.
no-use : (q : FieldSort) (v w t : ℕ) → (q ≡ LaterRow → ⊥) → (q ≡ InputRow → ⊥) → (q ≡ BranchRun → ⊥) → field_uses q v w t ≡ false
unfolding field_uses
no-use Unruled v w t a b c = refl
no-use Unused v w t a b c = refl
no-use PathRow v w t a b c = refl
no-use EarlierRow v w t a b c = refl
no-use ExpressionRow v w t a b c = refl
no-use OperationRow v w t a b c = refl
no-use LaterRow v w t a b c = absurd (a refl)
no-use InputRow v w t a b c = absurd (b refl)
no-use BranchRun v w t a b c = absurd (c refl)
no-use BranchCount v w t a b c = refl
no-use ConstantPart v w t a b c = refl

pub field-rest : (n v w : ℕ) (q : FieldSort) (l : List ℕ) → (q ≡ LaterRow → ⊥) → (q ≡ InputRow → ⊥) → (q ≡ BranchRun → ⊥) → MarkStep n (field_use q v w) l l false
field-rest n v w q l a b c = unused n v w q l (λ t. no-use q v w t a b c)

pub field-row : (n v w : ℕ) (q : FieldSort) (l m : List ℕ) (x : Bool) → (q ≡ LaterRow) ⊎ (q ≡ InputRow) → MarkStep n (use_of v) l m x → MarkStep n (field_use q v w) l m x
unfolding field_use field_uses use_of
field-row n v w q l m x e h = ⊎_elim (λ a. rw a (step-alike (λ t k. refl) h)) (λ a. rw a (step-alike (λ t k. refl) h)) e

pub field-BranchRun : (n v w : ℕ) (q : FieldSort) (l m : List ℕ) (x : Bool) → q ≡ BranchRun → MarkStep n (field_use BranchRun v w) l m x → MarkStep n (field_use q v w) l m x
field-BranchRun n v w q l m x e h = rw e h

pub ruleset field_laws = (field-rest, field-row, field-BranchRun)

-- ---- a row: four fields

pub sorts-step : (n : ℕ) (qa qb qc qd : FieldSort) (a b c d : ℕ) (l₀ l₁ l₂ l₃ l₄ : List ℕ) (x y z w : Bool) → MarkStep n (field_use qa a b) l₀ l₁ x → MarkStep n (field_use qb b c) l₁ l₂ y →
    MarkStep n (field_use qc c 0) l₂ l₃ z → MarkStep n (field_use qd d 0) l₃ l₄ w → MarkStep n (sorts_use qa qb qc qd a b c d) l₀ l₄ (x || y || z || w)
unfolding sorts_use plus field_use
sorts-step n qa qb qc qd a b c d l₀ l₁ l₂ l₃ l₄ x y z w f g h k =
    step-alike (λ t o. omega arith) (step-join (step-join (step-join f g) h) k)

pub ruleset sorts-laws = (sorts-step)

pub row_step : (s : List ℕ) (n r at : ℕ) (k : BehaviourKind) (q : Fields) (a b c d : ℕ) (l m : List ℕ) (x : Bool) → at ≡ behaviour_at s r → k ≡ kind_at s r →
    q ≡ behaviour_fields k → a ≡ u16_at s (at + 2) → b ≡ u16_at s (at + 4) → c ≡ u16_at s (at + 6) → d ≡ u16_at s (at + 8) →
    MarkStep n (sorts_use q.a q.b q.c q.d a b c d) l m x → MarkStep n (row_use s r) l m x
unfolding row_use row_uses sorts_use
row_step s n r at k q a b c d l m x p e f ga gb gc gd h =
    let z : q ≡ behaviour_fields (kind_at s r) = f ∙ ap behaviour_fields e in
    step-alike (λ t o. rw (ga, gb, gc, gd, p) refl ∙ ap (uses_by s t (behaviour_at s r)) z) h

pub ruleset row_laws = (row_step)

pub service-step : (s : List ℕ) (n r a b : ℕ) (l m o : List ℕ) (x y z : Bool) → a ≡ starter_row s r → b ≡ client_row s r → MarkStep n (use_of a) l m x → MarkStep n (use_of b) m o y →
    z ≡ (x || y) → MarkStep n (service_use s r) l o z
unfolding service_use service_uses use_of plus
service-step s n r a b l m o x y z p q f g e =
    rw e (step-alike (λ t k. rw (p, q) refl) (step-join f g))

pub ruleset service-laws = (service-step)

-- ---- the pass over all B rows

-- All are 0.
abbrev pub blank : List ℕ → Bool
blank [] = true
blank (x ∷ l) = eqb x 0 && blank l

blank-at : (l : List ℕ) (t : ℕ) → blank l ≡ true → get_or l t 0 ≡ 0
blank-at [] t e = refl
blank-at (x ∷ l) zero e = go (eqb x 0) refl e
  where
    go : (b : Bool) → eqb x 0 ≡ b → b && blank l ≡ true → x ≡ 0
    go true p q = eqb-true x 0 p
    go false p q = let z : ◌≡◌ {A = ℕ} 0 1 = cc in absurd (omega arith)
blank-at (x ∷ l) (suc t) e = blank-at l t (go (eqb x 0) e)
  where
    go : (b : Bool) → b && blank l ≡ true → blank l ≡ true
    go true q = q
    go false q = let z : ◌≡◌ {A = ℕ} 0 1 = cc in absurd (omega arith)

pub fresh-marks : (s : List ℕ) (n : ℕ) (l : List ℕ) → blank l ≡ true → length l ≡ 256 → n ≡ behaviour_count s → behaviour_count s ≤ 256 → Unmarked s n l
unfolding no_use
fresh-marks s n l b c e h = record {
  few = omega arith;
  all = e;
  none = record { room = omega arith; marked = λ t k. ap (λ (x : ℕ). eqb x 0) (blank-at l t b) };
}

sum_more : (f : ℕ → ℕ) (i : ℕ) → sum_over (i + 1) f ≡ sum_over i f + f i
unfolding sum_over
sum_more f i = rw add-one

pub record Using (s : List ℕ) (n i : ℕ) (m : Option ℕ) (l : List ℕ) : Type 0 where
  pub swept : Swept (row_second s) n i m
  pub after : Marked n (uses_to s i) l

pub rows-begin : (s : List ℕ) (n : ℕ) (l : List ℕ) → Unmarked s n l → Using s n 0 None l
unfolding uses_to no_use used_by_rows sum_over
rows-begin s n l h = record { swept = swept_none (row_second s) n; after = marked-alike (λ t k. refl) h.none }

-- A second use by one row, as a rule at its first byte.
row-second : (s : List ℕ) (n i at : ℕ) (x : Option ℕ) (l o : List ℕ) (again : Bool) → n ≡ behaviour_count s → Marked n (uses_to s i) l → MarkStep n (row_use s i) l o again →
    at ≡ behaviour_at s i → x ≡ rule (not again) at None → x ≡ row_second s i
unfolding row_second row_use_rule uses_to used_by_rows row_use second_of
row-second s n i at x l o again c v w e p =
    let z : again ≡ some_below (behaviour_count s) (second_of (uses_to s i) (row_use s i)) =
    w.seen (uses_to s i) v ∙ ap (λ (k : ℕ). some_below k (second_of (uses_to s i) (row_use s i))) c in
    p ∙ ap (λ (b : Bool). rule (not b) at None) z ∙ ap (λ (k : ℕ). rule (not (some_below (behaviour_count s) (second_of (uses_to s i) (row_use s i)))) k None) e
    ∙ some-rule (second_of (uses_to s i) (row_use s i)) (behaviour_count s) (behaviour_at s i)

pub rows_more : (s : List ℕ) (n i at : ℕ) (m x r : Option ℕ) (l₀ l o : List ℕ) (again : Bool) → Unmarked s n l₀ → Using s n i m l → i < n → MarkStep n (row_use s i) l o again →
    at ≡ behaviour_at s i → x ≡ rule (not again) at None → r ≡ least m x → Using s n (i + 1) r o
unfolding uses_to used_by_rows row_use plus
rows_more s n i at m x r l₀ l o again f v h w e p q = record {
  swept = swept-more (row_second s) n i m x r v.swept h (row-second s n i at x l o again f.all v.after w e p) q;
  after = marked-alike (λ t k. sym (sum_more (row_uses s t) i)) (w.adds (uses_to s i) v.after);
}

pub rows-done : (s : List ℕ) (n i : ℕ) (m : Option ℕ) (l : List ℕ) → Using s n i m l → n ≤ i → ByRows s n m l
rows-done s n i m l v h =
    let z : i ≡ n = omega (arith, v.swept.within) in
    record {
      lowest = swept-done (row_second s) n i m n v.swept h refl;
      after = marked-alike (λ t k. ap (λ (j : ℕ). uses_to s j t) z) v.after;
    }

pub ruleset rows-laws = (rows-begin, rows_more, rows-done)

-- ---- the pass over all services

pub record Serving (s : List ℕ) (n all i : ℕ) (m : Option ℕ) (l : List ℕ) : Type 0 where
  pub swept : Swept (service_second s) all i m
  pub after : Marked n (uses_beside s i) l

pub services-begin : (s : List ℕ) (n all : ℕ) (l : List ℕ) → Beside s n l → Serving s n all 0 None l
unfolding uses_to uses_beside used sum_over
services-begin s n all l h = record {
  swept = swept_none (service_second s) all;
  after = marked-alike (λ t k. let e : used_by_rows s t n ≡ used_by_rows s t (behaviour_count s) = ap (used_by_rows s t) h.all in omega arith) h.by_rows;
}

service-second : (s : List ℕ) (n i at : ℕ) (x : Option ℕ) (l o : List ℕ) (again : Bool) → n ≡ behaviour_count s → Marked n (uses_beside s i) l → MarkStep n (service_use s i) l o again →
    at ≡ service_at s i → x ≡ rule (not again) at None → x ≡ service_second s i
unfolding service_second service_use_rule uses_beside service_use second_of
service-second s n i at x l o again c v w e p =
    let z : again ≡ some_below (behaviour_count s) (second_of (uses_beside s i) (service_use s i)) =
    w.seen (uses_beside s i) v ∙ ap (λ (k : ℕ). some_below k (second_of (uses_beside s i) (service_use s i))) c in
    p ∙ ap (λ (b : Bool). rule (not b) at None) z ∙ ap (λ (k : ℕ). rule (not (some_below (behaviour_count s) (second_of (uses_beside s i) (service_use s i)))) k None) e
    ∙ some-rule (second_of (uses_beside s i) (service_use s i)) (behaviour_count s) (service_at s i)

pub services-more : (s : List ℕ) (n all i at : ℕ) (m x r : Option ℕ) (l₀ l o : List ℕ) (again : Bool) → Beside s n l₀ → Serving s n all i m l → i < all →
    MarkStep n (service_use s i) l o again → at ≡ service_at s i → x ≡ rule (not again) at None → r ≡ least m x → Serving s n all (i + 1) r o
unfolding uses_beside used service_use plus
services-more s n all i at m x r l₀ l o again f v h w e p q = record {
  swept = swept-more (service_second s) all i m x r v.swept h (service-second s n i at x l o again f.all v.after w e p) q;
  after = marked-alike (λ t k. let z : sum_over (i + 1) (service_uses s t) ≡ sum_over i (service_uses s t) + service_uses s t i = sum_more (service_uses s t) i in omega arith) (w.adds (uses_beside s i) v.after);
}

pub services-done : (s : List ℕ) (n all i : ℕ) (m : Option ℕ) (l : List ℕ) → all ≡ service_count s → Serving s n all i m l → all ≤ i → ByServices s n m l
services-done s n all i m l e v h =
    let z : i ≡ service_count s = omega (arith, v.swept.within) in
    record {
      lowest = swept-done (service_second s) all i m (service_count s) v.swept h e;
      after = marked-alike (λ t k. ap (λ (j : ℕ). uses_beside s j t) z) v.after;
    }

pub ruleset services-laws = (services-begin, services-more, services-done)

-- ---- rows without a mark

pub is_never : (s : List ℕ) (n i a at : ℕ) (x : Option ℕ) (l : List ℕ) → AllUsed s n l → i < n → a ≡ i → at ≡ behaviour_at s i →
    x ≡ rule (not (eqb (get_or l a 0) 0)) at None → x ≡ never_used s i
unfolding never_used uses_beside
is_never s n i a at x l f h d e p =
    let z : eqb (get_or l i 0) 0 ≡ eqb (used s i (service_count s)) 0 = f.after.marked i h in
    p ∙ rw (d, e, z) refl

-- ---- the whole pass

pub uses-are : (s : List ℕ) (n : ℕ) (x y z p m : Option ℕ) (l o : List ℕ) → n ≡ behaviour_count s → ByRows s n x l → ByServices s n y o → z ≡ least_over n (never_used s) →
    p ≡ least x y → m ≡ least z p → m ≡ uses_rows s
unfolding never_used row_second service_second
uses-are s n x y z p m l o c v w q e f =
    let B = behaviour_count s in
    let S = service_count s in
    let i : x ≡ least_over B (λ r. least_over B (λ t. row_use_rule s t r)) = v.lowest ∙ ap (λ (k : ℕ). least_over k (row_second s)) c in
    let j : y ≡ least_over S (λ r. least_over B (λ t. service_use_rule s t r)) = w.lowest in
    let k : z ≡ least_over B (used_rule s) = q ∙ ap (λ (k : ℕ). least_over k (never_used s)) c in
    f ∙ ap (least z) e ∙ ap (λ (u : Option ℕ). least u (least x y)) k
    ∙ ap (least (least_over B (used_rule s))) (ap (λ (u : Option ℕ). least u y) i ∙ ap (least (least_over B (λ r. least_over B (λ t. row_use_rule s t r)))) j)
    ∙ sym (uses-by-user s)

pub ruleset uses-laws = (fresh-marks, uses-are)
