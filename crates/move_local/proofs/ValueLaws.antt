-- One value set at a path, in a scratch buffer.
use mathlib.Core.Path.{◌≡◌, sym, ap, subst, ◌∙◌}
use mathlib.Core.List.{List}
use Prim.Native.Nat.{ℕ, ◌≤◌}
use lib.ListN.{length, take}
use lib.Seq.{length-take-le}
use Rattle.tree_forest.specs.Path.{Path, set_payload_at}
use Rattle.scalar.specs.Scalar.{value_of}
use Rattle.scalar.specs.declared.Operand.{Operand}
use Rattle.tree.specs.Ids.{is_path, path_from_ids}
use Rattle.network_rows.specs.Readers.{path_ids}
use Rattle.scalar.specs.Value.{void_value}
use Rattle.move_evaluation.specs.Writing.{WritesLeaf}
use Rattle.move_evaluation.specs.WritingLaws.{leaf-good}
use Rattle.state_trees.specs.Changing.{ChangedTo, SetsLeaf}
use Rattle.network_row_parts.specs.PathLaws.{path-is, ids-path}
use Rattle.move_local.specs.Local.{SetsRoot}
use Rattle.std.specs.Prelude.{Option, Some, None}

pub leaf_room : {v : Operand} {o o' : List ℕ} {n : ℕ} → WritesLeaf v o o' n → n ≤ length o'
leaf_room w = w.wrote.fits

pub leaf-length : {v : Operand} {o o' : List ℕ} {n : ℕ} → WritesLeaf v o o' n → n ≡ length (take n o')
leaf-length {v} {o} {o'} {n} w = sym (length-take-le n o' w.wrote.fits)

pub root-set : (file s : List ℕ) (slot p : ℕ) (v : Operand) {o o' m out ids : List ℕ} {n : ℕ} {x : Option ℕ} → WritesLeaf v o o' n → m ≡ take n o'
    → ids ≡ path_ids file p → SetsLeaf s slot ids m out x → SetsRoot file s slot p v out x
root-set file s slot p v {o} {o'} {m} {out} {ids} {n} {x} l e d a = record {
  tells = λ w S h k.
      subst (λ (z : Path). ChangedTo out x (set_payload_at void_value z (value_of v) S.tree)) (ap path_from_ids d ∙ path-is file p)
      (a.tells S (value_of v) h (ap is_path d ∙ ids-path file w p k) (record { bytes = e ∙ l.wrote.holds; good = leaf-good 0 0 (value_of v) l.proper }));
}
