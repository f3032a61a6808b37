-- Laws of the rows that a behaviour has: its own and those of its sub-behaviours; branch by branch.
use Rattle.std.specs.Prelude.{◌≡◌, refl, Bool, true, false, ◌||◌, List, ℕ, zero, suc, ◌-◌, eqb}
use Rattle.std.proofs.Common.{sym, ◌∙◌, ap, arith}
use Rattle.basics.specs.TestLaws.{one_less, or_assoc, or-false}
use Rattle.network_syntax.specs.Rows.{has_row, has_row_in}
use Rattle.network.specs.declared.BehaviourKind.{BehaviourKind}
use Rattle.network.specs.Layout.{behaviour_at}
use Rattle.network.specs.Rows.{field_a, field_b, field_c, field_d, kind_at}
use Rattle.network.specs.Decode.{branches_from, behaviour_from, behaviour_to}
use Rattle.network_rows.specs.Readers.{behaviour_row_as, behaviour_row_of}
use Rattle.network_row_parts.specs.declared.Subs.{Subs}
use Rattle.network_row_parts.specs.Parts.{subs_in, subs_of}
use Rattle.network_row_parts.specs.RowSets.{itself_row, rows_to, branch_rows, one_branch_rows, sub_rows}

-- ---- a row

kind-rows : (s : List ℕ) (d r i : ℕ) (k : BehaviourKind) → has_row i (behaviour_from s (behaviour_to s d) r (behaviour_at s r) k)
    ≡ itself_row r i
    || sub_rows s d
    (subs_in (behaviour_row_as k (field_a s (behaviour_at s r)) (field_b s (behaviour_at s r)) (field_c s (behaviour_at s r)) (field_d s (behaviour_at s r)))) i
unfolding behaviour_from has_row itself_row sub_rows behaviour_row_as rows_to branch_rows
kind-rows s d r i BehaviourKind.Nil = or-false (eqb i r)
kind-rows s d r i BehaviourKind.OneWay = or-false (eqb i r)
kind-rows s d r i BehaviourKind.RequestResponse = refl
kind-rows s d r i BehaviourKind.Notification = or-false (eqb i r)
kind-rows s d r i BehaviourKind.SolicitResponse = or-false (eqb i r)
kind-rows s d r i BehaviourKind.If = refl
kind-rows s d r i BehaviourKind.While = refl
kind-rows s d r i BehaviourKind.Sequence = refl
kind-rows s d r i BehaviourKind.Parallel = refl
kind-rows s d r i BehaviourKind.Assign = or-false (eqb i r)
kind-rows s d r i BehaviourKind.Choice = refl
kind-rows s d r i BehaviourKind.Branch = or-false (eqb i r)
kind-rows s d r i BehaviourKind.Unknown = or-false (eqb i r)

row-subs : (s : List ℕ) (d r i : ℕ) → rows_to s (suc d) r i ≡ itself_row r i || sub_rows s d (subs_of s r) i
unfolding rows_to behaviour_to subs_of behaviour_row_of
row-subs s d r i = kind-rows s d r i (kind_at s r)

-- With rows left, its own row and those of its sub-behaviours; with none, its own.
pub rows-by : (s : List ℕ) (d r : ℕ) {x y : Subs} → (d ≡ 0 → ⊥) → x ≡ subs_of s r → x ≡ y → (i : ℕ) → rows_to s d r i ≡ itself_row r i || sub_rows s (d - 1) y i
rows-by s d r h e f i =
    ap (λ (z : ℕ). rows_to s z r i) (one_less d h)
    ∙ (row-subs s (d - 1) r i ∙ ap (λ (z : Subs). itself_row r i || sub_rows s (d - 1) z i) (sym e ∙ f))

pub row-sets-none : (s : List ℕ) (r i : ℕ) → itself_row r i ≡ rows_to s 0 r i
unfolding rows_to behaviour_to itself_row has_row
row-sets-none s r i = refl

-- ---- branches

or_same : (a : Bool) → a ≡ a || (a || a)
or_same true = refl
or_same false = refl

pub branches-none : (s : List ℕ) (d r i : ℕ) → itself_row r i ≡ branch_rows s d r 0 i
unfolding branch_rows branches_from has_row_in itself_row
branches-none s d r i = or_same (eqb i r)

pub branches-one : (s : List ℕ) (d r i : ℕ) → one_branch_rows s d r i ≡ branch_rows s d r 1 i
unfolding branch_rows branches_from has_row_in itself_row rows_to
branches-one s d r i = refl

branches-two : (s : List ℕ) (d r n i : ℕ) → branch_rows s d r (suc (suc n)) i ≡ one_branch_rows s d r i || branch_rows s d (suc r) (suc n) i
unfolding branch_rows branches_from has_row_in itself_row rows_to
branches-two s d r n i =
    sym (or_assoc (eqb i r) (rows_to s d (field_a s (behaviour_at s r)) i || rows_to s d (field_b s (behaviour_at s r)) i) (branch_rows s d (suc r) (suc n) i))

pub branches-more : (s : List ℕ) (d r n i : ℕ) → (n ≡ 0 → ⊥) → (n ≡ 1 → ⊥) → branch_rows s d r n i ≡ one_branch_rows s d r i || branch_rows s d (suc r) (n - 1) i
branches-more s d r zero i h j = absurd (h refl)
branches-more s d r (suc zero) i h j = absurd (j refl)
branches-more s d r (suc (suc n)) i h j = let e : suc (suc n) - 1 ≡ suc n = omega arith in branches-two s d r n i ∙ rw e
