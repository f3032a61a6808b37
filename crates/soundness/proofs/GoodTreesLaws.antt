-- Reading and writing keep trees good.
use Rattle.std.specs.Prelude.{ℕ, List, [], ◌∷◌}
use Rattle.tree_forest.specs.Compare.{Compare, lt, eq, gt, compare}
use Rattle.tree_forest.specs.Forest.{Forest, end, node, Tree, tree, Lookup, absent, present, find_by, find, set_by, set, children_of, payload_of, Rising}
use Rattle.tree_forest.specs.Forest.{RisingTree, RisingLookup}
use Rattle.tree_forest.specs.ForestLaws.{rising-set}
use Rattle.tree_forest.specs.Path.{Path, path, read_steps, read, write_steps, write, replace_at, set_payload_at}
use Rattle.scalar.specs.Basic.{void}
use Rattle.scalar.specs.Value.{Value, value}
use Rattle.scalar.specs.ValueLaws.{empty-void}
use Rattle.tree.specs.Encode.{Proper, SoundValues}
use Rattle.tree.specs.EncodeLaws.{octets-nil}
use Rattle.soundness.specs.GoodTrees.{GoodForest, GoodTree, GoodLookup, IsId, AllIds, GoodPath}

pub rising-of : (t : Tree Value) → GoodTree t → RisingTree t
rising-of (tree v k) g = g.1.0

rising-lookup : (l : Lookup Value) → GoodLookup l → RisingLookup l
rising-lookup absent g = tt
rising-lookup (present t) g = rising-of t g

sound-set : (i : ℕ) (t : Tree Value) (F : Forest Value) → IsId i → GoodTree t → SoundValues F → SoundValues (set i t F)
unfolding set SoundValues
sound-set i (tree v k) end h g s = (h.0, h.1, g.0, g.1.1, tt)
sound-set i (tree v k) (node j b l r) h g s = go (compare i j) (sound-set i (tree v k) r h g s.4)
  where
    go : (c : Compare i j) → SoundValues (set i (tree v k) r) → SoundValues (set_by c (tree v k) b l r (set i (tree v k) r))
    go (lt e) ih = (h.0, h.1, g.0, g.1.1, s)
    go (eq e) ih = (s.0, s.1, g.0, g.1.1, s.4)
    go (gt e) ih = (s.0, s.1, s.2, s.3, ih)

pub good-set : (i : ℕ) (t : Tree Value) (F : Forest Value) → IsId i → GoodTree t → GoodForest F → GoodForest (set i t F)
good-set i t F h g f = (rising-set i t F (rising-of t g) f.0, sound-set i t F h g f.1)

pub good-find : (i : ℕ) (F : Forest Value) → GoodForest F → GoodLookup (find i F)
unfolding find SoundValues Rising
good-find i end f = tt
good-find i (node j v k r) f = go (compare i j) (good-find i r (f.0.2, f.1.4))
  where
    go : (c : Compare i j) → GoodLookup (find i r) → GoodLookup (find_by c (tree v k) (find i r))
    go (lt e) ih = tt
    go (eq e) ih = (f.1.2, (f.0.1, f.1.3))
    go (gt e) ih = ih

pub good-end : GoodForest end
unfolding SoundValues Rising
good-end = (tt, tt)

pub good-children : (l : Lookup Value) → GoodLookup l → GoodForest (children_of l)
good-children absent g = good-end
good-children (present (tree v k)) g = g.1

-- The void value that a missing step carries.
pub proper-void : Proper (value void [])
proper-void = record { valid = empty-void; bytes = octets-nil }

payload-good : (l : Lookup Value) → GoodLookup l → Proper (payload_of (value void []) l)
payload-good absent g = proper-void
payload-good (present (tree v k)) g = g.0

write-steps-good : (p : List ℕ) (f : Lookup Value → Tree Value) → ((l : Lookup Value) → GoodLookup l → GoodTree (f l)) → (l : Lookup Value) → AllIds p
    → GoodLookup l
    → GoodTree (write_steps (value void []) p f l)
unfolding write_steps AllIds
write-steps-good [] f h l a g = h l g
write-steps-good (j ∷ p) f h l a g = (
  payload-good l g,
  good-set j (write_steps (value void []) p f (find j (children_of l))) (children_of l) a.0
      (write-steps-good p f h (find j (children_of l)) a.1 (good-find j (children_of l) (good-children l g))) (good-children l g),
)

pub write-good : (x : Path) (f : Lookup Value → Tree Value) → ((l : Lookup Value) → GoodLookup l → GoodTree (f l)) → (F : Forest Value) → GoodPath x
    → GoodForest F
    → GoodForest (write (value void []) x f F)
write-good (path i p) f h F a g =
    good-set i (write_steps (value void []) p f (find i F)) F a.0 (write-steps-good p f h (find i F) a.1 (good-find i F g)) g

-- Receiving keeps a tree good, and so does assigning.
pub replace-good : (x : Path) (m : Tree Value) (F : Forest Value) → GoodPath x → GoodTree m → GoodForest F → GoodForest (replace_at (value void []) x m F)
replace-good x m F a g h = write-good x (λ l. m) (λ l w. g) F a h

pub payload-set-good : (x : Path) (v : Value) (F : Forest Value) → GoodPath x → Proper v → GoodForest F → GoodForest (set_payload_at (value void []) x v F)
payload-set-good x v F a g h = write-good x (λ l. tree v (children_of l)) (λ l w. (g, good-children l w)) F a h

pub read-steps-good : (p : List ℕ) (l : Lookup Value) → GoodLookup l → GoodLookup (read_steps p l)
unfolding read_steps
read-steps-good [] l g = g
read-steps-good (j ∷ p) l g = read-steps-good p (find j (children_of l)) (good-find j (children_of l) (good-children l g))

pub read-good : (x : Path) (F : Forest Value) → GoodForest F → GoodLookup (read x F)
read-good (path i p) F g = read-steps-good p (find i F) (good-find i F g)
