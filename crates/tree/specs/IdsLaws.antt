-- Laws of paths as ids: where the steps end, and what the next step is.
use Rattle.std.specs.Prelude.{◌≡◌, refl, List, [], ◌∷◌, Bool, true, false, ℕ, zero, suc, ◌+◌, ◌≤◌, ◌<◌, length, get_or, drop, eqb}
use Rattle.std.proofs.Common.{ap, ◌∙◌, add-one, arith, drop_of_length-le, drop-cons, get_or-drop, eq-eqb, ne_eqb}
use Rattle.std.proofs.Math.Decide.{dec_lt}
use Rattle.std.proofs.Math.ListN.{get_or-eq_default}
use Rattle.std.proofs.lemmas.Bool.{eqb-false}
use Rattle.tree_forest.specs.Path.{path}
use Rattle.basics.specs.Choice.{pick}
use Rattle.tree.specs.Ids.{steps, path_from_ids, is_path, ends_in_zeros, is_none, Words}

pub path-at : (ids : List ℕ) → length ids ≡ 4 → path_from_ids ids ≡ path (get_or ids 0 0) (steps (drop 1 ids))
unfolding path_from_ids
path-at [] h = absurd (omega arith)
path-at (i ∷ is) h = refl

pub none_is : (is : List ℕ) → is_none is ≡ true → is ≡ []
none_is [] e = refl
none_is (x ∷ xs) e = cc

pub last_end : (ids : List ℕ) (k : ℕ) → length ids ≡ 4 → k ≡ 3 → true ≡ is_none (steps (drop (k + 1) ids))
unfolding steps
last_end ids k h e = rw (drop_of_length-le ids {i = k + 1} (omega arith)) refl

pub last-by : (ids : List ℕ) (k : ℕ) → k < length ids → eqb (get_or ids k 0) 0 ≡ is_none (steps (drop k ids))
unfolding steps
last-by ids k h = rw (drop-cons ids k 0 h) (by (eqb (get_or ids k 0) 0))
  where
    by : (t : Bool) → t ≡ is_none (pick t [] (get_or ids k 0 ∷ steps (drop (suc k) ids)))
    by true = refl
    by false = refl

pub steps-stop : (ids : List ℕ) (k : ℕ) → k < length ids → get_or ids k 0 ≡ 0 → steps (drop k ids) ≡ []
unfolding steps
steps-stop ids k n z = rw (drop-cons ids k 0 n, eq-eqb (get_or ids k 0) 0 z) refl

pub steps_on : (ids : List ℕ) (k : ℕ) → k < length ids → (get_or ids k 0 ≡ 0 → ⊥) → steps (drop k ids) ≡ get_or ids k 0 ∷ steps (drop (k + 1) ids)
unfolding steps
steps_on ids k n z = rw (add-one, drop-cons ids k 0 n, ne_eqb (get_or ids k 0) 0 z) refl

-- where steps are left, the next one is the next id
pub steps_next : (ids : List ℕ) (k : ℕ) → length ids ≡ 4 → is_none (steps (drop (k + 1) ids)) ≡ false →
    (k + 1 < 4) × (steps (drop (k + 1) ids) ≡ get_or ids (k + 1) 0 ∷ steps (drop (k + 1 + 1) ids))
unfolding steps
steps_next ids k h e = by (dec_lt (k + 1) 4)
  where
    one : (t : Bool) (x : ℕ) (l : List ℕ) → is_none (pick t [] (x ∷ l)) ≡ false → pick t [] (x ∷ l) ≡ x ∷ l
    one true x l q = cc
    one false x l q = refl

    by : Dec (k + 1 < 4) → (k + 1 < 4) × (steps (drop (k + 1) ids) ≡ get_or ids (k + 1) 0 ∷ steps (drop (k + 1 + 1) ids))
    by (yes p) =
        let c : drop (k + 1) ids ≡ get_or ids (k + 1) 0 ∷ drop (k + 1 + 1) ids = rw (add-one (k + 1)) (drop-cons ids (k + 1) 0 (omega arith)) in
        let e' : is_none (steps (get_or ids (k + 1) 0 ∷ drop (k + 1 + 1) ids)) ≡ false = rw c at e in
        (p, ap steps c ∙ one (eqb (get_or ids (k + 1) 0) 0) (get_or ids (k + 1) 0) (steps (drop (k + 1 + 1) ids)) e')
    by (no p) =
        let q : length ids ≤ k + 1 = omega arith in
        let e' : is_none (steps []) ≡ false = rw (drop_of_length-le ids q) at e in
        let z : ◌≡◌ {A = ℕ} 0 1 = cc in absurd (omega arith)

pub steps-length : (l : List ℕ) → length (steps l) ≤ length l
unfolding steps
steps-length [] = omega arith
steps-length (i ∷ is) = by (eqb i 0) (steps-length is)
  where
    by : (t : Bool) → length (steps is) ≤ length is → length (pick t [] (i ∷ steps is)) ≤ suc (length is)
    by true h = omega arith
    by false h = omega arith

-- every id of a path is not 0 and fits u16
unfoldable pub Ids : List ℕ → Type 0
Ids [] = Unit {0}
Ids (i ∷ is) = (0 < i) × (i < 65536) × Ids is

pub steps-ids : (l : List ℕ) → Words l → Ids (steps l)
unfolding steps Ids
steps-ids [] w = tt
steps-ids (i ∷ is) w = by (eqb i 0) refl (steps-ids is (record { small = λ k. w.small (suc k) }))
  where
    by : (t : Bool) → eqb i 0 ≡ t → Ids (steps is) → Ids (pick t [] (i ∷ steps is))
    by true e h = tt
    by false e h = (omega (arith, eqb-false i 0 e), w.small 0, h)

-- the first id of a path is not 0
pub path-first : (ids : List ℕ) → is_path ids ≡ true → 0 < get_or ids 0 0
unfolding is_path
path-first [] e = absurd (let z : ◌≡◌ {A = ℕ} 0 1 = cc in omega arith)
path-first (i ∷ is) e = by (eqb i 0) refl e
  where
    by : (t : Bool) → eqb i 0 ≡ t → pick t false (ends_in_zeros is) ≡ true → 0 < i
    by true q e = absurd (let z : ◌≡◌ {A = ℕ} 0 1 = cc in omega arith)
    by false q e = omega (arith, eqb-false i 0 q)

pub words-drop : (ids : List ℕ) (n : ℕ) → Words ids → Words (drop n ids)
words-drop ids n w = record { small = λ k. rw (get_or-drop n ids k 0) (w.small (n + k)) }

-- four ids that fit
pub words_of : (ids : List ℕ) (a b c d : ℕ) → length ids ≡ 4 → (a ≡ get_or ids 0 0) × (a < 65536) → (b ≡ get_or ids 1 0) × (b < 65536) →
    (c ≡ get_or ids 2 0) × (c < 65536) → (d ≡ get_or ids 3 0) × (d < 65536) → Words ids
words_of ids a b c d h p q r s = record { small = by }
  where
    by : (k : ℕ) → get_or ids k 0 < 65536
    by zero = omega (arith, p.0, p.1)
    by (suc zero) = omega (arith, q.0, q.1)
    by (suc (suc zero)) = omega (arith, r.0, r.1)
    by (suc (suc (suc zero))) = omega (arith, s.0, s.1)
    by (suc (suc (suc (suc k)))) = rw (get_or-eq_default ids 0 {n = suc (suc (suc (suc k)))} (omega arith)) (omega arith)
