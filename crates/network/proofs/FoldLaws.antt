-- The order in which rules are judged does not matter: laws that let code go over the same rules in another order, or over the
-- rows of a run alone, or over users instead of used rows.
use Rattle.std.specs.Prelude.{ℕ, zero, suc, ◌+◌, ◌<◌, ◌≤◌, min, ◌≡◌, refl, List, Bool, true, false, not, ◌||◌, eqb, ltb}
use Rattle.std.proofs.Common.{sym, ◌∙◌, ap, arith}
use Rattle.std.proofs.Math.Nat.{min_comm, min-eq_left, min-eq_right}
use Rattle.basics.specs.Choice.{pick}
use Rattle.basics.specs.TestLaws.{lt_not, lt_of}
use Rattle.network.specs.Least.{least, rule, least_over}
use Rattle.network.specs.Layout.{behaviour_count, service_count, type_at, behaviour_at}
use Rattle.network.specs.Rows.{in_run, id_before, type_id, child_rule, field_a, field_b, kind_at, is_branch_kind, branch_rule}
use Rattle.network.specs.Uses.{used, row_use_rule, service_use_rule, uses_row, uses_rows}
use Rattle.std.specs.Prelude.{Option, Some, None}

-- ---- the lower of two places

lower : (p q : ℕ) → pick (ltb p q) p q ≡ min p q
lower p q = go (ltb p q) refl
  where
    go : (t : Bool) → ltb p q ≡ t → pick t p q ≡ min p q
    go true e = let l : p < q = lt_of p q e in sym (min-eq_left (omega arith))
    go false e = sym (min-eq_right (lt_not p q e))

pub least-none : (a : Option ℕ) → least a None ≡ a
unfolding least
least-none None = refl
least-none (Some p) = refl

pub least-same : (a : Option ℕ) → least a a ≡ a
unfolding least
least-same None = refl
least-same (Some p) = ap Some (lower p p ∙ omega arith)

pub least-comm : (a b : Option ℕ) → least a b ≡ least b a
unfolding least
least-comm None None = refl
least-comm None (Some q) = refl
least-comm (Some p) None = refl
least-comm (Some p) (Some q) = ap Some (lower p q ∙ (min_comm p q ∙ sym (lower q p)))

pub least-assoc : (a b c : Option ℕ) → least (least a b) c ≡ least a (least b c)
unfolding least
least-assoc None b c = refl
least-assoc (Some p) None c = refl
least-assoc (Some p) (Some q) None = refl
least-assoc (Some p) (Some q) (Some r) = ap Some (rw (lower p q, lower q r) (lower (min p q) r ∙ (omega arith ∙ sym (lower p (min q r)))))

-- Four parts regrouped.
least-four : (a b c d : Option ℕ) → least (least a b) (least c d) ≡ least (least a c) (least b d)
least-four a b c d =
    least-assoc a b (least c d)
    ∙ (ap (least a) (sym (least-assoc b c d) ∙ (ap (λ x. least x d) (least-comm b c) ∙ least-assoc c b d)) ∙ sym (least-assoc a c (least b d)))

-- ---- over many

pub over_none : (f : ℕ → Option ℕ) (n : ℕ) → ((j : ℕ) → j < n → f j ≡ None) → least_over n f ≡ None
unfolding least_over least
over_none f zero h = refl
over_none f (suc n) h = rw (over_none f n (λ j l. h j (omega arith)), h n (omega arith)) refl

-- Nothing broken from m on: the first m are enough.
pub over_first : (f : ℕ → Option ℕ) (m d : ℕ) → ((j : ℕ) → m ≤ j → j < m + d → f j ≡ None) → least_over (m + d) f ≡ least_over m f
unfolding least_over
over_first f m zero h = let z : m + 0 ≡ m = omega arith in ap (λ k. least_over k f) z
over_first f m (suc d) h =
    let z : m + suc d ≡ suc (m + d) = omega arith in
    ap (λ k. least_over k f) z
    ∙ (ap (least (least_over (m + d) f)) (h (m + d) (omega arith) (omega arith))
    ∙ (least-none (least_over (m + d) f) ∙ over_first f m d (λ j x y. h j x (omega arith))))

pub over-least : (f g : ℕ → Option ℕ) (n : ℕ) → least_over n (λ j. least (f j) (g j)) ≡ least (least_over n f) (least_over n g)
unfolding least_over least
over-least f g zero = refl
over-least f g (suc n) = ap (λ x. least x (least (f n) (g n))) (over-least f g n) ∙ least-four (least_over n f) (least_over n g) (f n) (g n)

pub over-same : (f g : ℕ → Option ℕ) (n : ℕ) → ((j : ℕ) → j < n → f j ≡ g j) → least_over n f ≡ least_over n g
unfolding least_over
over-same f g zero h = refl
over-same f g (suc n) h = rw (over-same f g n (λ j l. h j (omega arith)), h n (omega arith)) refl

-- Rows and columns of a table may be gone through either way.
pub over-swap : (f : ℕ → ℕ → Option ℕ) (n m : ℕ) → least_over n (λ i. least_over m (λ j. f i j)) ≡ least_over m (λ j. least_over n (λ i. f i j))
unfolding least_over
over-swap f zero m = sym (over_none (λ j. None) m (λ j l. refl))
over-swap f (suc n) m =
    ap (λ x. least x (least_over m (λ j. f n j))) (over-swap f n m)
    ∙ sym (over-least (λ j. least_over n (λ i. f i j)) (λ j. f n j) m)

-- ---- rules of a run

-- A row outside a run breaks no rule of it.
pub child-outside : (s : List ℕ) (first n j : ℕ) → in_run first n j ≡ false → child_rule s first n j ≡ None
unfolding child_rule rule least
child-outside s first n j e = go (in_run first n j) e
  where
    go : (t : Bool) → t ≡ false → rule (not t || ltb (id_before s first j) (type_id s j)) (type_at s j) None ≡ None
    go true h = let z : ◌≡◌ {A = ℕ} 0 1 = cc in absurd (omega arith)
    go false h = refl

pub branch-outside : (s : List ℕ) (at j : ℕ) → in_run (field_a s at) (field_b s at) j ≡ false → branch_rule s at j ≡ None
unfolding branch_rule rule least
branch-outside s at j e = go (in_run (field_a s at) (field_b s at) j) e
  where
    go : (t : Bool) → t ≡ false → rule (not t || is_branch_kind (kind_at s j)) (at + 2) None ≡ None
    go true h = let z : ◌≡◌ {A = ℕ} 0 1 = cc in absurd (omega arith)
    go false h = refl

-- ---- uses by user

-- Row t is used.
abbrev pub used_rule : List ℕ → ℕ → Option ℕ
used_rule s t = rule (not (eqb (used s t (service_count s)) 0)) (behaviour_at s t) None

rule-apart : (t : Bool) (p : ℕ) (m : Option ℕ) → rule t p m ≡ least (rule t p None) m
unfolding rule
rule-apart t p m = sym (ap (λ x. least x m) (least-none (pick t None (Some p))))

-- The use of B rows, told by the users in file order: never used; second uses by B rows; second uses by services.
pub uses-by-user : (s : List ℕ) → uses_rows s ≡
    least (least_over (behaviour_count s) (used_rule s))
    (least (least_over (behaviour_count s) (λ r. least_over (behaviour_count s) (λ t. row_use_rule s t r)))
    (least_over (service_count s) (λ q. least_over (behaviour_count s) (λ t. service_use_rule s t q))))
unfolding uses_rows uses_row
uses-by-user s =
    over-same (uses_row s) (λ t. least (used_rule s t) (least (rows t) (services t))) n
    (λ t l. rule-apart (not (eqb (used s t (service_count s)) 0)) (behaviour_at s t) (least (rows t) (services t)))
    ∙ (over-least (used_rule s) (λ t. least (rows t) (services t)) n
    ∙ ap (least (least_over n (used_rule s)))
    (over-least rows services n ∙ (ap (λ x. least x (least_over n services)) (over-swap (row_use_rule s) n n)
    ∙ ap (least (least_over n (λ r. least_over n (λ t. row_use_rule s t r)))) (over-swap (service_use_rule s) n (service_count s)))))
  where
    n : ℕ
    n = behaviour_count s

    rows : ℕ → Option ℕ
    rows t = least_over (behaviour_count s) (row_use_rule s t)

    services : ℕ → Option ℕ
    services t = least_over (service_count s) (service_use_rule s t)
