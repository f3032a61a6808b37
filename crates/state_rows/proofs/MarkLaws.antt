-- Laws of marks on rows: one for each way out of the functions.
use Prim.Native.Nat.{ℕ, suc, ◌+◌, ◌-◌, ◌*◌, ◌<◌, ◌≤◌}
use mathlib.Core.Path.{◌≡◌, refl, sym, ◌∙◌, ap, subst}
use mathlib.Core.List.{List}
use mathlib.Core.Bool.{Bool, true, false, ◌||◌}
use native.Mathlib.Omega.{arith}
use native.Mathlib.Numerals.{add-one}
use lib.ListN.{get_or, set, length, length-set, replicate, length-replicate, get_or-replicate}
use lib.Seq.{get_or-set_same, get_or-set_other}
use lib.Dec.{eqb}
use borrow.Author.Tests.{eq-eqb, ne_eqb}
use Rattle.tree_forest.specs.Compare.{Compare, lt, eq, gt, compare}
use Rattle.network.specs.Layout.{start, B, behaviour_count, behaviour_at}
use Rattle.network.specs.Rows.{field_a, field_b}
use Rattle.network.specs.Decode.{behaviour_to, behaviour_of}
use Rattle.network_rows.specs.declared.BranchRow.{BranchRow}
use Rattle.network_rows.specs.Readers.{BranchAt}
use Rattle.network_row_parts.specs.declared.Subs.{Subs}
use Rattle.network_row_parts.specs.Parts.{subs_of}
use Rattle.network_row_parts.specs.RowSets.{itself_row, rows_to, branch_rows, one_branch_rows, sub_rows}
use Rattle.network_row_parts.specs.RowSetLaws.{rows-by, row-sets-none, branches-none, branches-one, branches-more}
use Rattle.network_syntax.specs.Rows.{has_row}
use Rattle.basics.specs.Choice.{pick}
use Rattle.basics.specs.TestLaws.{or-false}
use Rattle.state_rows.specs.Marks.{mark_for, Adds, AddsBranches, RowsOf}

-- ---- tests

pick-or : (a b : Bool) (v : ℕ) → pick b 1 (pick a 1 v) ≡ pick (a || b) 1 v
pick-or true true v = refl
pick-or true false v = refl
pick-or false b v = refl

-- ---- marks one after another

adds-as : {l o : List ℕ} (f g : ℕ → Bool) → ((i : ℕ) → f i ≡ g i) → Adds f l o → Adds g l o
adds-as {l} {o} f g e h = record { keeps = h.keeps; adds = λ n i k. h.adds n i k ∙ ap (λ (x : Bool). pick x 1 (get_or l i 0)) (e i) }

adds-both : {l m o : List ℕ} (f g h : ℕ → Bool) → Adds f l m → Adds g m o → ((i : ℕ) → h i ≡ f i || g i) → Adds h l o
adds-both {l} {m} {o} f g h x y e = record {
  keeps = λ n. y.keeps (x.keeps n);
  adds = λ n i k.
      y.adds (x.keeps n) i k
      ∙ (ap (λ (v : ℕ). pick (g i) 1 v) (x.adds n i k) ∙ (pick-or (f i) (g i) (get_or l i 0) ∙ ap (λ (z : Bool). pick z 1 (get_or l i 0)) (sym (e i))));
}

-- ---- one row

set-marks : (l : List ℕ) (p i : ℕ) → p < length l → get_or (set l p 1) i 0 ≡ pick (eqb i p) 1 (get_or l i 0)
set-marks l p i h = go (compare p i)
  where
    go : Compare p i → get_or (set l p 1) i 0 ≡ pick (eqb i p) 1 (get_or l i 0)
    go (lt k) = rw (ne_eqb i p (λ e. omega arith)) (get_or-set_other l p i 1 0 (λ e. omega arith))
    go (gt k) = rw (ne_eqb i p (λ e. omega arith)) (get_or-set_other l p i 1 0 (λ e. omega arith))
    go (eq k) =
        subst (λ (z : ℕ). get_or (set l p 1) z 0 ≡ pick (eqb z p) 1 (get_or l z 0)) k (rw (eq-eqb p p refl) (get_or-set_same l p 1 0 h))

pub row-marked : (l : List ℕ) (r : ℕ) → r < 256 → Adds (itself_row r) l (set l r 1)
unfolding itself_row
row-marked l r h = record { keeps = λ n. length-set l r 1 ∙ n; adds = λ n i k. set-marks l r i (omega arith) }

pub row-past : (l : List ℕ) (r : ℕ) → 256 ≤ r → Adds (itself_row r) l l
unfolding itself_row
row-past l r h = record { keeps = λ n. n; adds = λ n i k. rw (ne_eqb i r (λ e. omega arith)) }

pub ruleset mark-laws = (row-marked, row-past)

-- ---- behaviours

module _ (s l m : List ℕ) (d r v : ℕ) (t : v ≡ r) (y : Adds (itself_row v) l m) where
  own : Adds (itself_row r) l m
  own = subst (λ (z : ℕ). Adds (itself_row z) l m) t y

  pub no_rows : d ≡ 0 → Adds (rows_to s d r) l m
  no_rows e = subst (λ (z : ℕ). Adds (rows_to s z r) l m) (sym e) (adds-as (itself_row r) (rows_to s 0 r) (row-sets-none s r) own)

  pub no-subs : {x : Subs} → (d ≡ 0 → ⊥) → x ≡ subs_of s r → x ≡ Subs.Nothing → Adds (rows_to s d r) l m
  unfolding sub_rows
  no-subs h e f = adds-as (itself_row r) (rows_to s d r) (λ i. or-false (itself_row r i) ∙ sym (rows-by s d r h e f i)) own

  pub one-sub : (o : List ℕ) {x : Subs} {a : ℕ} → (d ≡ 0 → ⊥) → x ≡ subs_of s r → x ≡ Subs.One a → Adds (rows_to s (d - 1) a) m o → Adds (rows_to s d r) l o
  unfolding sub_rows
  one-sub o {x} {a} h e f z = adds-both (itself_row r) (rows_to s (d - 1) a) (rows_to s d r) own z (rows-by s d r h e f)

  pub two-subs : (n o : List ℕ) {x : Subs} {a b : ℕ} → (d ≡ 0 → ⊥) → x ≡ subs_of s r → x ≡ Subs.Two a b → Adds (rows_to s (d - 1) a) m n
      → Adds (rows_to s (d - 1) b) n o → Adds (rows_to s d r) l o
  unfolding sub_rows
  two-subs n o {x} {a} {b} h e f z w =
      adds-both (itself_row r) (λ i. rows_to s (d - 1) a i || rows_to s (d - 1) b i) (rows_to s d r) own
      (adds-both (rows_to s (d - 1) a) (rows_to s (d - 1) b) (λ i. rows_to s (d - 1) a i || rows_to s (d - 1) b i) z w (λ i. refl)) (rows-by s d r h e f)

  pub run-subs : (o : List ℕ) (u : ℕ) {x : Subs} {a n : ℕ} → (d ≡ 0 → ⊥) → x ≡ subs_of s r → x ≡ Subs.Run a n → u ≡ a → AddsBranches s u n (d - 1) m o
      → Adds (rows_to s d r) l o
  unfolding sub_rows
  run-subs o u {x} {a} {n} h e f g z =
      adds-both (itself_row r) (branch_rows s (d - 1) a n) (rows_to s d r) own
      (subst (λ (q : ℕ). Adds (branch_rows s (d - 1) q n) m o) g z.adds) (rows-by s d r h e f)

pub ruleset row_laws = (no_rows, no-subs, one-sub, two-subs, run-subs)

-- ---- branches

module _ (s l m : List ℕ) (r n d : ℕ) (y : Adds (itself_row r) l m) where
  pub no-branches : n ≡ 0 → AddsBranches s r n d l m
  no-branches e = record { adds = subst (λ (z : ℕ). Adds (branch_rows s d r z) l m) (sym e) (adds-as (itself_row r) (branch_rows s d r 0) (branches-none s d r) y) }

  module _ (h : n ≡ 0 → ⊥) (v : ℕ) (p : v ≡ start s B) (b : BranchRow) (o q : List ℕ) (e : BranchAt s (v + 10 * r) b)
      (x : Adds (rows_to s d b.input) m o) (z : Adds (rows_to s d b.follow) o q) where
    abbrev both : ℕ → Bool
    both i = rows_to s d (field_a s (behaviour_at s r)) i || rows_to s d (field_b s (behaviour_at s r)) i

    place : v + 10 * r ≡ behaviour_at s r
    unfolding behaviour_at
    place = ap (λ (w : ℕ). w + 10 * r) p

    first-adds : Adds (one_branch_rows s d r) l q
    first-adds =
        let u = subst (λ (w : ℕ). Adds (rows_to s d w) m o) (e.input ∙ ap (field_a s) place) x in
        let w = subst (λ (w : ℕ). Adds (rows_to s d w) o q) (e.follow ∙ ap (field_b s) place) z in
        adds-both (itself_row r) both (one_branch_rows s d r) y
        (adds-both (rows_to s d (field_a s (behaviour_at s r))) (rows_to s d (field_b s (behaviour_at s r))) both u w (λ i. refl)) (λ i. refl)

    pub last-branch : n ≡ 1 → AddsBranches s r n d l q
    last-branch g = record {
      adds = subst (λ (w : ℕ). Adds (branch_rows s d r w) l q) (sym g) (adds-as (one_branch_rows s d r) (branch_rows s d r 1) (branches-one s d r) first-adds);
    }

    pub more-branches : (t : List ℕ) → (n ≡ 1 → ⊥) → AddsBranches s (r + 1) (n - 1) d q t → AddsBranches s r n d l t
    more-branches t j k = record {
      adds = adds-both (one_branch_rows s d r) (branch_rows s d (suc r) (n - 1)) (branch_rows s d r n) first-adds
          (subst (λ (w : ℕ). Adds (branch_rows s d w (n - 1)) q t) (add-one r) k.adds) (λ i. branches-more s d r n i h j);
    }

pub ruleset branch-laws = (no-branches, last-branch, more-branches)

-- ---- the whole

pub all-marked : (s o : List ℕ) (n r : ℕ) → n ≡ behaviour_count s → Adds (rows_to s n r) (replicate 256 0) o → RowsOf s r o
unfolding behaviour_of rows_to
all-marked s o n r e h = record {
  all = h.keeps (length-replicate {A = ℕ} 256 0);
  rows = λ i k.
      h.adds (length-replicate {A = ℕ} 256 0) i k
      ∙ (ap (λ (z : ℕ). pick (has_row i (behaviour_to s n r)) 1 z) (get_or-replicate 256 i 0 0 k)
      ∙ (by (has_row i (behaviour_to s n r)) ∙ ap (λ (d : ℕ). mark_for (has_row i (behaviour_to s d r))) e));
}
  where
    by : (t : Bool) → pick t 1 0 ≡ mark_for t
    by true = refl
    by false = refl

pub ruleset whole-laws = (all-marked)
