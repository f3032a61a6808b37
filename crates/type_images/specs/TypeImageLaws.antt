-- Laws of types as encoded trees: their length, their limits, a child put in.
use Rattle.std.specs.Prelude.{◌≡◌, refl, List, [], ◌∷◌, Bool, true, ℕ, ◌≤◌, ◌<◌, length}
use Rattle.std.proofs.Common.{sym, ap, arith}
use Rattle.scalar.specs.Basic.{last_basic}
use Rattle.scalar.specs.Value.{Value}
use Rattle.tree_forest.specs.Compare.{Compare, lt, eq, gt, compare}
use Rattle.tree_forest.specs.Forest.{Forest, end, node, Tree, tree, set_by, set, node_of, Rising, measure, nodes, levels, map_tree}
use Rattle.tree_forest.specs.ForestLaws.{map-set, rising-set}
use Rattle.tree_forest.specs.Path.{write_steps}
use Rattle.tree.specs.Encode.{encode, rooted, Encodes}
use Rattle.tree.specs.Decode.{decode}
use Rattle.tree.specs.DecodeLaws.{decode-complete}
use Rattle.tree.specs.EncodeLaws.{length-node}
use Rattle.tree.specs.Ids.{steps, path_from_ids}
use Rattle.tree_edit.specs.Change.{replaced}
use Rattle.network_syntax.specs.Syntax.{Mark, mark, Types}
use Rattle.check_types.specs.Image.{flag, mark_value, image, InRange}
use Rattle.check_types.specs.ImageLaws.{length-image, image-well-formed}
use Rattle.check_types.specs.TypeRowsLaws.{TypeKeeps}
use Rattle.type_text.specs.Meaning.{as_child}
use Rattle.type_images.specs.TypeImages.{image_of, image_size}

pub image-length : (t : Tree Mark) → length (image_of t) ≡ image_size t
unfolding encode
image-length (tree (mark m b) k) = let l = length-node 0 5 (flag m ∷ b ∷ []) (image k) end in omega (arith, l, length-image k)

-- ---- what keeps to the limits

pub leaf-keeps : (m : Bool) (b : ℕ) → b ≤ last_basic → TypeKeeps (tree (mark m b) end)
unfolding Rising InRange measure
leaf-keeps m b h = record { basic = h; rising = tt; ranged = tt; shallow = omega arith; few = omega arith }

pub child-keeps : (m : Bool) (t : Tree Mark) → TypeKeeps t → TypeKeeps (as_child m t)
child-keeps m (tree (mark n b) k) h = record { basic = h.basic; rising = h.rising; ranged = h.ranged; shallow = h.shallow; few = h.few }

pub child-size : (m : Bool) (t : Tree Mark) → image_size (as_child m t) ≡ image_size t
child-size m (tree (mark n b) k) = refl

pub keeps-encodes : (s : List ℕ) (t : Tree Mark) → s ≡ image_of t → TypeKeeps t → Encodes 6 48 s (map_tree mark_value t)
keeps-encodes s (tree (mark m b) k) e h = record
    { bytes = e; good = image-well-formed 6 48 m b k h.basic h.rising h.ranged (omega (arith, h.shallow)) (omega (arith, h.few)) }

ranged-node : (i : ℕ) (t : Tree Mark) (r : Types) → 0 < i → i < 65536 → TypeKeeps t → InRange r → InRange (node_of i t r)
unfolding InRange
ranged-node i (tree (mark m b) k) r p q t h = (p, q, t.basic, t.ranged, h)

ranged-set : (i : ℕ) (t : Tree Mark) (f : Types) → 0 < i → i < 65536 → TypeKeeps t → InRange f → InRange (set i t f)
unfolding set InRange
ranged-set i t end p q h w = ranged-node i t end p q h tt
ranged-set i t (node j (mark m b) k r) p q h w = go (compare i j) (ranged-set i t r p q h w.4)
  where
    go : (c : Compare i j) → InRange (set i t r) → InRange (set_by c t (mark m b) k r (set i t r))
    go (lt e) ih = ranged-node i t (node j (mark m b) k r) p q h w
    go (eq e) ih = ranged-node j t r w.0 w.1 h w.4
    go (gt e) ih = (w.0, w.1, w.2, w.3, ih)

rises : (t : Tree Mark) (i : ℕ) (f : Types) → TypeKeeps t → Rising f → Rising (set i t f)
rises (tree a k) i f h r = rising-set i (tree a k) f h.rising r

pub set_keeps : (a : Mark) (k : Types) (i : ℕ) (t : Tree Mark) → TypeKeeps (tree a k) → TypeKeeps t → 0 < i → i < 65536
    → nodes (set i t k) ≤ 15 → levels (set i t k) ≤ 3 → TypeKeeps (tree a (set i t k))
set_keeps (mark m b) k i t h g p q n l =
    record { basic = h.basic; rising = rises t i k g h.rising; ranged = ranged-set i t k p q g h.ranged; shallow = l; few = n }

-- ---- the bytes with a child put in

pub put-image : (g m : List ℕ) (a : Mark) (k : Types) (i : ℕ) (t : Tree Mark) → g ≡ image_of (tree a k) → TypeKeeps (tree a k) → m ≡ image_of t
    → TypeKeeps t → replaced true (path_from_ids (i ∷ 0 ∷ 0 ∷ 0 ∷ [])) (decode 6 48 m) (decode 6 48 g) ≡ image_of (tree a (set i t k))
unfolding path_from_ids steps write_steps
put-image g m a k i t eg hg em hm =
    let dg = decode-complete 6 48 g (map_tree mark_value (tree a k)) (keeps-encodes g (tree a k) eg hg) in
    let dm = decode-complete 6 48 m (map_tree mark_value t) (keeps-encodes m t em hm) in
    rw (dg, dm) (ap (λ (f : Forest Value). encode (rooted (tree (mark_value a) f))) (sym (map-set mark_value i t k)))
