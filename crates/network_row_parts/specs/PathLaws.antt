-- The ids of a P row are a path: that of the row.
use Rattle.std.specs.Prelude.{◌≡◌, refl, Bool, true, false, not, ◌&&◌, ◌||◌, List, [], ◌∷◌, ℕ, ◌+◌, ◌<◌, eqb}
use Rattle.std.proofs.Common.{sym, ap}
use Rattle.tree_forest.specs.Path.{path}
use Rattle.basics.specs.Choice.{pick}
use Rattle.basics.specs.TestLaws.{true-false}
use Rattle.wire.specs.Wire.{u16_at}
use Rattle.tree.specs.Ids.{steps, all_zeros, ends_in_zeros, is_path, path_from_ids}
use Rattle.network.specs.Form.{WellFormed}
use Rattle.network.specs.Layout.{path_count, path_at}
use Rattle.network.specs.Rows.{path_row}
use Rattle.network.specs.Decode as network
use Rattle.network.proofs.LeastLaws.{rule-kept}
use Rattle.network.proofs.RowLaws.{unbroken}
use Rattle.network_rows.specs.Readers.{path_ids}

steps-until : (l : List ℕ) → steps l ≡ network.until_zero l
unfolding steps network.until_zero
steps-until [] = refl
steps-until (i ∷ is) = ap (λ (z : List ℕ). pick (eqb i 0) [] (i ∷ z)) (steps-until is)

pub path-is : (file : List ℕ) (p : ℕ) → path_from_ids (path_ids file p) ≡ network.path_of file p
unfolding path_from_ids path_ids network.path_of
path-is file p =
    ap (path (u16_at file (path_at file p))) (steps-until (u16_at file (path_at file p + 2) ∷ u16_at file (path_at file p + 4) ∷ u16_at file (path_at file p + 6) ∷ []))

zeros_by : (a b c d : Bool) → not a ≡ true → (not a || b) ≡ true → (not b || c) ≡ true → (not c || d) ≡ true →
    pick a false (pick b (c && (d && true)) (pick c (d && true) (pick d true true))) ≡ true
zeros_by true b c d p q r s = true-false (sym p)
zeros_by false true true true p q r s = refl
zeros_by false true true false p q r s = true-false (sym s)
zeros_by false true false d p q r s = true-false (sym r)
zeros_by false false true true p q r s = refl
zeros_by false false true false p q r s = true-false (sym s)
zeros_by false false false true p q r s = refl
zeros_by false false false false p q r s = refl

pub ids-path : (file : List ℕ) → WellFormed file → (p : ℕ) → p < path_count file → is_path (path_ids file p) ≡ true
unfolding path_row path_ids is_path ends_in_zeros all_zeros
ids-path file wf p le =
    let h = (unbroken file wf).paths p le in
    let a = rule-kept _ _ _ h in
    let b = rule-kept _ _ _ a.1 in
    let c = rule-kept _ _ _ b.1 in
    let d = rule-kept _ _ _ c.1 in
    zeros_by (eqb (u16_at file (path_at file p)) 0) (eqb (u16_at file (path_at file p + 2)) 0) (eqb (u16_at file (path_at file p + 4)) 0)
    (eqb (u16_at file (path_at file p + 6)) 0) a.0 b.0 c.0 d.0
