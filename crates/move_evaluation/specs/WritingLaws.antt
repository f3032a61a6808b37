-- What was written reads back as the tree that was meant.
use Rattle.std.specs.Prelude.{◌≡◌, List, ℕ, take}
use Rattle.std.proofs.Common.{arith}
use Rattle.tree_forest.specs.Forest.{Rising, present, measure}
use Rattle.scalar.specs.Value.{Value}
use Rattle.scalar.specs.Scalar.{value_of}
use Rattle.scalar.specs.declared.Operand.{Operand}
use Rattle.tree.specs.Encode.{Proper, SoundValues, WellFormedTree}
use Rattle.tree.specs.Decode.{decode}
use Rattle.tree.specs.DecodeLaws.{decode-complete}
use Rattle.move_rules.specs.Evaluation.{leaf}
use Rattle.move_evaluation.specs.Writing.{WritesLeaf}

-- A value alone keeps to any limits.
pub leaf-good : (deep many : ℕ) (v : Value) → Proper v → WellFormedTree deep many (leaf v)
unfolding SoundValues Rising measure
leaf-good deep many v p = record { root = p; sound = tt; rising = tt; shallow = omega arith; few = omega arith }

pub leaf-decoded : {v : Operand} {o o' : List ℕ} {r : ℕ} → WritesLeaf v o o' r → decode 0 0 (take r o') ≡ present (leaf (value_of v))
leaf-decoded {v} w = decode-complete 0 0 _ (leaf (value_of v)) (record { bytes = w.wrote.holds; good = leaf-good 0 0 (value_of v) w.proper })
