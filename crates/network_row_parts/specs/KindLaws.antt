-- Laws of B rows by the row that a reader gives: network's behaviour, and what its fields keep to.
use Rattle.std.specs.Prelude.{ℕ, suc, ◌+◌, ◌<◌, ◌≤◌, ◌≡◌, refl, List}
use Rattle.std.proofs.Common.{sym, ◌∙◌, ap, subst, arith}
use Rattle.network_syntax.specs.Rows.{input_of, output_of}
use Rattle.network.specs.declared.BehaviourKind.{BehaviourKind}
use Rattle.network.specs.Layout.{behaviour_count, behaviour_at}
use Rattle.network.specs.Rows.{field_a, field_b, field_c, field_d, kind_at}
use Rattle.network.specs.Form.{WellFormed}
use Rattle.network.specs.Decode.{behaviour_of}
use Rattle.network.proofs.UseLaws.{Child, BranchKept, RowKept, behaviour-kept, branch_kept}
use Rattle.network.proofs.BehaviourLaws.{behaviour-row}
use Rattle.network_rows.specs.declared.BehaviourRow.{BehaviourRow}
use Rattle.network_rows.specs.declared.InputRow.{InputRow}
use Rattle.network_rows.specs.declared.OutputRow.{OutputRow}
use Rattle.network_rows.specs.Readers.{behaviour_row_as, behaviour_row_of, view_in, input_row_in, output_row_in, input_row_of, output_row_of}
use Rattle.network_rows.specs.RowSyntax.{input_with, output_with}
use Rattle.network_rows.specs.RowSyntaxLaws.{behaviour-kind-is, views-with-are}
use Rattle.network_row_parts.specs.Behaviours.{behaviour_by, Sub, BranchSubs, KeptBy, InputKeptBy, OutputKeptBy}

later-sub : (s : List ℕ) (left r i k : ℕ) → behaviour_count s ≤ r + suc left → r ≤ i → Child s i k → Sub s left k
later-sub s left r i k h g c = let l = c.later in record { exists = c.exists; enough = omega arith }

branch-subs : (s : List ℕ) → WellFormed s → (left r j : ℕ) → behaviour_count s ≤ r + suc left → BranchKept s r j → BranchSubs s left j
branch-subs s w left r j h k =
    let b = branch_kept s w r j k in
    let l = k.child.later in
    record {
      input = later-sub s left r j (field_a s (behaviour_at s j)) h (omega arith) b.0.child;
      follow = later-sub s left r j (field_b s (behaviour_at s j)) h (omega arith) b.1.child;
    }

kept-kind : (s : List ℕ) → WellFormed s → (left r at : ℕ) → behaviour_count s ≤ r + suc left → (k : BehaviourKind) → RowKept s r at k
    → KeptBy s left (behaviour_row_as k (field_a s at) (field_b s at) (field_c s at) (field_d s at))
unfolding behaviour_row_as
kept-kind s w left r at h BehaviourKind.Nil k = tt
kept-kind s w left r at h BehaviourKind.OneWay k = k
kept-kind s w left r at h BehaviourKind.RequestResponse k = (k.0, k.1, k.2, later-sub s left r r (field_d s at) h (omega arith) k.3.child)
kept-kind s w left r at h BehaviourKind.Notification k = k
kept-kind s w left r at h BehaviourKind.SolicitResponse k = k
kept-kind s w left r at h BehaviourKind.If k =
    (k.0, later-sub s left r r (field_b s at) h (omega arith) k.1.child, later-sub s left r r (field_c s at) h (omega arith) k.2.child)
kept-kind s w left r at h BehaviourKind.While k = (k.0, later-sub s left r r (field_b s at) h (omega arith) k.1.child)
kept-kind s w left r at h BehaviourKind.Sequence k =
    (later-sub s left r r (field_a s at) h (omega arith) k.0.child, later-sub s left r r (field_b s at) h (omega arith) k.1.child)
kept-kind s w left r at h BehaviourKind.Parallel k =
    (later-sub s left r r (field_a s at) h (omega arith) k.0.child, later-sub s left r r (field_b s at) h (omega arith) k.1.child)
kept-kind s w left r at h BehaviourKind.Assign k = k
kept-kind s w left r at h BehaviourKind.Choice k = (k.0, λ j a b. branch-subs s w left r j h (k.2 j a b), k.1)
kept-kind s w left r at h BehaviourKind.Branch k = tt
kept-kind s w left r at h BehaviourKind.Unknown k = tt

-- The behaviour of row r and what its fields keep to.
pub row_is : (s : List ℕ) → WellFormed s → (r left : ℕ) → Sub s (suc left) r → {x y : BehaviourRow} → x ≡ behaviour_row_of s r → x ≡ y
    → (behaviour_of s r ≡ behaviour_by s r y) × KeptBy s left y
unfolding behaviour_row_of
row_is s w r left h e f =
    let g = sym e ∙ f in (
      behaviour-row s w r h.exists ∙ (behaviour-kind-is s (behaviour_of s) r (behaviour_at s r) (kind_at s r) ∙ ap (behaviour_by s r) g),
      subst (KeptBy s left) g (kept-kind s w left r (behaviour_at s r) h.enough (kind_at s r) (behaviour-kept s w r h.exists)),
    )

views-kept : (s : List ℕ) (left : ℕ) (y : BehaviourRow) → KeptBy s left y → InputKeptBy s left (input_row_in (view_in y)) × OutputKeptBy s (output_row_in (view_in y))
unfolding view_in
views-kept s left BehaviourRow.Nil k = (tt, tt)
views-kept s left (BehaviourRow.OneWay o p) k = (k, tt)
views-kept s left (BehaviourRow.RequestResponse o p c d) k = (k, tt)
views-kept s left (BehaviourRow.Notification o x) k = (tt, k)
views-kept s left (BehaviourRow.SolicitResponse o x p) k = (tt, k)
views-kept s left (BehaviourRow.If x a b) k = (tt, tt)
views-kept s left (BehaviourRow.While x b) k = (tt, tt)
views-kept s left (BehaviourRow.Sequence a b) k = (tt, tt)
views-kept s left (BehaviourRow.Parallel a b) k = (tt, tt)
views-kept s left (BehaviourRow.Assign p x) k = (tt, tt)
views-kept s left (BehaviourRow.Choice first n) k = (tt, tt)
views-kept s left (BehaviourRow.Branch a b) k = (tt, tt)
views-kept s left BehaviourRow.Unknown k = (tt, tt)

-- The same of rows that `input_of` and `output_of` read, by the views of their behaviours.
pub row-input-is : (s : List ℕ) → WellFormed s → (r left : ℕ) → Sub s (suc left) r → {x y : InputRow} → x ≡ input_row_of s r → x ≡ y
    → (input_of (behaviour_of s r) ≡ input_with s (behaviour_of s) r y) × InputKeptBy s left y
unfolding input_row_of
row-input-is s w r left h e f =
    let k = row_is s w r left h refl refl in (
      ap input_of k.0 ∙ ((views-with-are s (behaviour_of s) r (behaviour_row_of s r)).0 ∙ ap (input_with s (behaviour_of s) r) (sym e ∙ f)),
      subst (InputKeptBy s left) (sym e ∙ f) (views-kept s left (behaviour_row_of s r) k.1).0,
    )

pub row-output-is : (s : List ℕ) → WellFormed s → (r : ℕ) → r < behaviour_count s → {x y : OutputRow} → x ≡ output_row_of s r → x ≡ y
    → (output_of (behaviour_of s r) ≡ output_with s r y) × OutputKeptBy s y
unfolding output_row_of
row-output-is s w r l e f =
    let k = row_is s w r (behaviour_count s) (record { exists = l; enough = omega arith }) refl refl in (
      ap output_of k.0 ∙ ((views-with-are s (behaviour_of s) r (behaviour_row_of s r)).1 ∙ ap (output_with s r) (sym e ∙ f)),
      subst (OutputKeptBy s) (sym e ∙ f) (views-kept s (behaviour_count s) (behaviour_row_of s r) k.1).1,
    )
