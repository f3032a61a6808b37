-- Laws of done rows: `is_done` of a row by the rows that decide it, and one law for each way out of the functions.
use Prim.Native.Nat.{ℕ, zero, suc, ◌+◌, ◌-◌, ◌<◌, ◌≤◌}
use mathlib.Core.Path.{◌≡◌, refl, sym, ◌∙◌, ap}
use mathlib.Core.List.{List}
use mathlib.Core.Bool.{Bool, true, false, ◌&&◌}
use native.Mathlib.Omega.{arith}
use lib.Dec.{ltb}
use borrow.Author.Tests.{ne_eqb, lt-ltb, le-ltb}
use Rattle.tree_forest.specs.Compare.{Compare, lt, eq, gt, compare}
use Rattle.basics.specs.Choice.{pick}
use Rattle.basics.specs.TestLaws.{one_less}
use Rattle.network_syntax.specs.Syntax.{Behaviour}
use Rattle.network.specs.declared.BehaviourKind.{BehaviourKind}
use Rattle.network.specs.Layout.{behaviour_at}
use Rattle.network.specs.Rows.{field_a, field_b, field_c, field_d, kind_at}
use Rattle.network.specs.Decode.{branches_from, behaviour_from, behaviour_to}
use Rattle.network_rows.specs.Readers.{behaviour_row_as, behaviour_row_of}
use Rattle.state.specs.Session.{Progress, undone, done, waits, received, taken, Progresses}
use Rattle.move_rules.specs.Readiness.{unless_taken, then_or_else, is_done, branch_done}
use Rattle.move_readiness.specs.declared.Deciders.{Deciders}
use Rattle.move_readiness.specs.Parts.{branch_row_at, branch_deciders, deciders_in, deciders_of}

-- What the deciders say, where f says which rows are done.
abbrev pub decided : (ℕ → Bool) → Deciders → Bool
decided f (Deciders.Settled x) = x
decided f (Deciders.One a) = f a
decided f (Deciders.Both a b) = f a && f b

-- ---- the branch that is taken

-- Its number among n.
abbrev pub clipped : ℕ → ℕ → ℕ
clipped n k = pick (ltb k n) k (n - 1)

clipped-below : (n k : ℕ) → k < n → clipped n k ≡ k
clipped-below n k l = rw (lt-ltb k n l) refl

clipped-past : (n k : ℕ) → n ≤ k → clipped n k ≡ n - 1
clipped-past n k l = rw (le-ltb k n l) refl

clipped-one : (k : ℕ) → clipped 1 k ≡ 0
clipped-one zero = refl
clipped-one (suc k) = clipped-past 1 (suc k) (omega arith)

clipped-next : (n k : ℕ) → clipped (suc (suc n)) (suc k) ≡ suc (clipped (suc n) k)
clipped-next n k = by (compare k (suc n))
  where
    past : suc n ≤ k → clipped (suc (suc n)) (suc k) ≡ suc (clipped (suc n) k)
    past l =
        let a = clipped-past (suc (suc n)) (suc k) (omega arith) in
        let b = clipped-past (suc n) k l in
        omega (arith, a, b)

    by : Compare k (suc n) → clipped (suc (suc n)) (suc k) ≡ suc (clipped (suc n) k)
    by (lt l) = clipped-below (suc (suc n)) (suc k) (omega arith) ∙ ap suc (sym (clipped-below (suc n) k l))
    by (eq e) = past (omega arith)
    by (gt l) = past (omega arith)

pub clipped-inside : (n k : ℕ) → 1 ≤ n → clipped n k < n
clipped-inside n k h = by (compare k n)
  where
    by : Compare k n → clipped n k < n
    by (lt l) = rw (clipped-below n k l) l
    by (eq e) = rw (clipped-past n k (omega arith)) (omega arith)
    by (gt l) = rw (clipped-past n k (omega arith)) (omega arith)

-- The row of the taken branch: the first one's, or that of one of the others.
pub row_first : (first n k : ℕ) → clipped n k ≡ 0 → first + clipped n k ≡ first
row_first first n k e = omega (arith, e)

pub first-of-one : (first k : ℕ) → first + clipped 1 k ≡ first
first-of-one first k = row_first first 1 k (clipped-one k)

pub first-of-many : (first n : ℕ) → first + clipped (suc (suc n)) 0 ≡ first
first-of-many first n = row_first first (suc (suc n)) 0 (clipped-below (suc (suc n)) 0 (omega arith))

pub next-of-many : (first n k : ℕ) → first + clipped (suc (suc n)) (suc k) ≡ suc first + clipped (suc n) k
next-of-many first n k = omega (arith, clipped-next n k)

the-deciders : (s : List ℕ) (first n k r : ℕ) → (n ≡ 0 → ⊥) → first + clipped n k ≡ r
    → branch_deciders s first n k ≡ Deciders.Both (field_a s (behaviour_at s r)) (field_b s (behaviour_at s r))
unfolding branch_deciders branch_row_at
the-deciders s first n k r h e = rw (ne_eqb n 0 h, e) refl

no-deciders : (s : List ℕ) (first k : ℕ) → Deciders.Settled true ≡ branch_deciders s first 0 k
unfolding branch_deciders
no-deciders s first k = refl

branch-decides : (s : List ℕ) (p : Progresses) (f : ℕ → Behaviour) (first n k : ℕ)
    → branch_done p k (branches_from s f first n) ≡ decided (λ a. is_done p (f a)) (branch_deciders s first n k)
unfolding branches_from is_done branch_done
branch-decides s p f first zero k = ap (decided (λ a. is_done p (f a))) (no-deciders s first k)
branch-decides s p f first (suc zero) k =
    sym (ap (decided (λ a. is_done p (f a))) (the-deciders s first 1 k first (λ e. omega arith) (first-of-one first k)))
branch-decides s p f first (suc (suc n)) zero =
    sym (ap (decided (λ a. is_done p (f a))) (the-deciders s first (suc (suc n)) 0 first (λ e. omega arith) (first-of-many first n)))
branch-decides s p f first (suc (suc n)) (suc k) =
    let r = suc first + clipped (suc n) k in
    branch-decides s p f (suc first) (suc n) k
    ∙ ap (decided (λ a. is_done p (f a))) (the-deciders s (suc first) (suc n) k r (λ e. omega arith) refl
    ∙ sym (the-deciders s first (suc (suc n)) (suc k) r (λ e. omega arith) (next-of-many first n k)))

-- ---- a row

taken-decides : (f : ℕ → Bool) (q : Progress) (g : ℕ → Bool) (h : ℕ → Deciders) → ((j : ℕ) → g j ≡ decided f (h j))
    → unless_taken q false g ≡ decided f (unless_taken q (Deciders.Settled false) h)
taken-decides f undone g h e = refl
taken-decides f done g h e = refl
taken-decides f waits g h e = refl
taken-decides f (received to) g h e = refl
taken-decides f (taken j) g h e = e j

part-decides : (f : ℕ → Bool) (a b j : ℕ) → then_or_else j (f a) (f b) ≡ decided f (then_or_else j (Deciders.One a) (Deciders.One b))
part-decides f a b zero = refl
part-decides f a b (suc j) = refl

kind-decides : (s : List ℕ) (p : Progresses) (d r at : ℕ) (k : BehaviourKind) → is_done p (behaviour_from s (behaviour_to s d) r at k)
    ≡ decided (λ a. is_done p (behaviour_to s d a)) (deciders_in s (p r) (behaviour_row_as k (field_a s at) (field_b s at) (field_c s at) (field_d s at)))
unfolding behaviour_from behaviour_row_as is_done deciders_in
kind-decides s p d r at BehaviourKind.Nil = refl
kind-decides s p d r at BehaviourKind.OneWay = refl
kind-decides s p d r at BehaviourKind.RequestResponse = refl
kind-decides s p d r at BehaviourKind.Notification = refl
kind-decides s p d r at BehaviourKind.SolicitResponse = refl
kind-decides s p d r at BehaviourKind.If =
    taken-decides (λ a. is_done p (behaviour_to s d a)) (p r)
    (λ j. then_or_else j (is_done p (behaviour_to s d (field_b s at))) (is_done p (behaviour_to s d (field_c s at))))
    (λ j. then_or_else j (Deciders.One (field_b s at)) (Deciders.One (field_c s at)))
    (part-decides (λ a. is_done p (behaviour_to s d a)) (field_b s at) (field_c s at))
kind-decides s p d r at BehaviourKind.While = refl
kind-decides s p d r at BehaviourKind.Sequence = refl
kind-decides s p d r at BehaviourKind.Parallel = refl
kind-decides s p d r at BehaviourKind.Assign = refl
kind-decides s p d r at BehaviourKind.Choice =
    taken-decides (λ a. is_done p (behaviour_to s d a)) (p r) (λ j. branch_done p j (branches_from s (behaviour_to s d) (field_a s at) (field_b s at)))
    (λ j. branch_deciders s (field_a s at) (field_b s at) j) (branch-decides s p (behaviour_to s d) (field_a s at) (field_b s at))
kind-decides s p d r at BehaviourKind.Branch = refl
kind-decides s p d r at BehaviourKind.Unknown = refl

row-decides : (s : List ℕ) (p : Progresses) (d r : ℕ)
    → is_done p (behaviour_to s (suc d) r) ≡ decided (λ a. is_done p (behaviour_to s d a)) (deciders_of s p r)
unfolding behaviour_to deciders_of behaviour_row_of
row-decides s p d r = kind-decides s p d r (behaviour_at s r) (kind_at s r)

pub done_none : (s : List ℕ) (p : Progresses) (left r : ℕ) → left ≡ 0 → true ≡ is_done p (behaviour_to s left r)
unfolding behaviour_to is_done
done_none s p left r e = rw e refl

module _ (s : List ℕ) (p : Progresses) (left r : ℕ) (h : left ≡ 0 → ⊥) {d : Deciders} (e : d ≡ deciders_of s p r) where
  by-deciders : {y : Deciders} → d ≡ y → is_done p (behaviour_to s left r) ≡ decided (λ a. is_done p (behaviour_to s (left - 1) a)) y
  by-deciders f =
      ap (λ (l : ℕ). is_done p (behaviour_to s l r)) (one_less left h)
      ∙ (row-decides s p (left - 1) r ∙ ap (decided (λ a. is_done p (behaviour_to s (left - 1) a))) (sym e ∙ f))

  pub done-settled : {x : Bool} → d ≡ Deciders.Settled x → x ≡ is_done p (behaviour_to s left r)
  done-settled f = sym (by-deciders f)

  pub done-one : {a : ℕ} {x : Bool} → d ≡ Deciders.One a → x ≡ is_done p (behaviour_to s (left - 1) a) → x ≡ is_done p (behaviour_to s left r)
  done-one f g = g ∙ sym (by-deciders f)

  pub done-both : {a b : ℕ} {x y : Bool} → d ≡ Deciders.Both a b → x ≡ is_done p (behaviour_to s (left - 1) a) → x ≡ true
      → y ≡ is_done p (behaviour_to s (left - 1) b) → y ≡ is_done p (behaviour_to s left r)
  done-both {a} {b} f g t i =
      i ∙ sym (by-deciders f ∙ ap (λ (z : Bool). z && is_done p (behaviour_to s (left - 1) b)) (sym g ∙ t))

  pub done-not : {a b : ℕ} {x : Bool} → d ≡ Deciders.Both a b → x ≡ is_done p (behaviour_to s (left - 1) a) → x ≡ false
      → x ≡ is_done p (behaviour_to s left r)
  done-not {a} {b} f g t = t ∙ sym (by-deciders f ∙ ap (λ (z : Bool). z && is_done p (behaviour_to s (left - 1) b)) (sym g ∙ t))

pub ruleset done-row-laws = (done_none, done-settled, done-one, done-both, done-not)
