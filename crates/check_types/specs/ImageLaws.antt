-- Laws of types as trees of values: an image is read back as the types, is as large, and has seven bytes a node; what the head of a node that
-- stands at a position says of its type.
use Rattle.std.specs.Prelude.{◌≡◌, List, [], ◌∷◌, ◌++◌, Bool, true, false, length, get_or, eqb}
use Rattle.std.proofs.Math.Path.{refl, ap}
use Rattle.std.proofs.Common.{sym, ◌∙◌, arith}
use Prim.Native.Nat.{ℕ, zero, suc, max, ◌+◌, ◌*◌, ◌/◌, ◌%◌, ◌≤◌, ◌<◌}
use Rattle.tree_forest.specs.Forest.{Forest, end, node, tree, Above, Rising, measure, nodes, levels, map_forest, map_tree}
use Rattle.scalar.specs.Basic.{last_basic}
use Rattle.scalar.specs.Value.{Value, value, bytes_of}
use Rattle.scalar.specs.ValueLaws.{raw-short}
use Rattle.network_syntax.specs.Syntax.{Mark, mark, Types, MessageType}
use Rattle.tree.specs.Encode.{root_count, encode, Proper, SoundValues, WellFormedTree}
use Rattle.tree.specs.Standing.{Row, Root}
use Rattle.tree.specs.EncodeLaws.{Fields, length-node}
use Rattle.tree.specs.StandingLaws.{row-fields, root-fields}
use Rattle.check_types.specs.Image.{flag, mark_value, image, InRange, mark_in, mark_as, types_as, type_as, type_head_at}
use Rattle.check_types.specs.declared.TypeHead.{TypeHead}
use Rattle.std.specs.Prelude.{Option, Some, None}
use Rattle.check_types.specs.Image.{type_header}

-- ---- an image is read back

pub mark-back : (a : Mark) → mark_in (mark_value a) ≡ a
mark-back (mark true b) = refl
mark-back (mark false b) = refl

pub image-back : (f : Types) → types_as false (image f) ≡ f
unfolding map_forest
image-back end = refl
image-back (node i a k r) = rw (mark-back a, image-back k, image-back r) refl

pub type-back : (t : MessageType) → type_as false (map_tree mark_value t) ≡ t
type-back (tree a k) = rw (mark-back a, image-back k) refl

-- ---- sizes

module _ {A B : Type 0} (h : A → B) where
  pub measure-map : (g : ℕ → ℕ → ℕ) (f : Forest A) → measure g (map_forest h f) ≡ measure g f
  unfolding measure map_forest
  measure-map g end = refl
  measure-map g (node i a k r) = rw (measure-map g k, measure-map g r) refl

  pub count_map : (f : Forest A) → root_count (map_forest h f) ≡ root_count f
  unfolding root_count map_forest
  count_map end = refl
  count_map (node i a k r) = ap suc (count_map r)

pub length-image : (f : Types) → length (encode (image f)) ≡ 7 * nodes f
unfolding measure map_forest encode
length-image end = refl
length-image (node i (mark m b) k r) =
    length-node i 5 (flag m ∷ b ∷ []) (image k) (image r) ∙ omega (arith, length-image k, length-image r)

-- the bytes of a node's image
pub image-bytes : (i : ℕ) (m : Bool) (b : ℕ) (k r : Types) →
    encode (image (node i (mark m b) k r)) ≡ (i % 256 ∷ i / 256 ∷ 5 ∷ root_count (image k) ∷ 2 ∷ flag m ∷ b ∷ []) ++ (encode (image k) ++ encode (image r))
unfolding map_forest encode
image-bytes i m b k r = refl

-- ---- an image is well formed

pub mark-proper : (m : Bool) (b : ℕ) → b ≤ last_basic → Proper (mark_value (mark m b))
mark-proper m b h = record { valid = raw-short (flag m ∷ b ∷ []) (omega arith); bytes = record { small = by m } }
  where
    by : (m : Bool) (k : ℕ) → get_or (flag m ∷ b ∷ []) k 0 < 256
    by true zero = omega arith
    by false zero = omega arith
    by m (suc zero) = omega arith
    by m (suc (suc k)) = omega arith

pub image-sound : (f : Types) → InRange f → SoundValues (image f)
unfolding InRange SoundValues map_forest
image-sound end h = tt
image-sound (node i (mark m b) k r) h = (h.0, h.1, mark-proper m b h.2, image-sound k h.3, image-sound r h.4)

module _ {A B : Type 0} (h : A → B) where
  above_map : (i : ℕ) (f : Forest A) → Above i f → Above i (map_forest h f)
  unfolding map_forest
  above_map i end q = tt
  above_map i (node j a k r) q = q

  pub rising-map : (f : Forest A) → Rising f → Rising (map_forest h f)
  unfolding map_forest Rising
  rising-map end q = tt
  rising-map (node i a k r) q = (above_map i r q.0, rising-map k q.1, rising-map r q.2)

-- a type as a tree of values keeps to the limits that the type keeps to
pub image-well-formed : (deep many : ℕ) (m : Bool) (b : ℕ) (f : Types) → b ≤ last_basic → Rising f → InRange f → levels f ≤ deep → nodes f ≤ many →
    WellFormedTree deep many (tree (mark_value (mark m b)) (image f))
image-well-formed deep many m b f h r s d n = record {
  root = mark-proper m b h;
  sound = image-sound f s;
  rising = rising-map mark_value f r;
  shallow = rw (measure-map mark_value max f) d;
  few = rw (measure-map mark_value ◌+◌ f) n;
}

-- ---- the head of a node that stands at a position

-- what a head that was read says of the node that stands there
pub record TypeSeen (own : Bool) (at x : ℕ) (a : Value) (ks rest : Forest Value) (i : ℕ) (n : Bool) (b k mid : ℕ) : Type 0 where
  pub id : i ≡ x
  pub type : mark n b ≡ mark_as own a
  pub kids : k ≡ root_count ks
  pub next : mid ≡ at + 5 + length (bytes_of a)
  pub whole : types_as own (node x a ks rest) ≡ node i (mark n b) (types_as own ks) (types_as own rest)

head-by : (own : Bool) (s : List ℕ) (at x d c : ℕ) (v t : List ℕ) → Fields s at x d c v t → (n : Bool) (b : ℕ) → mark n b ≡ mark_as own (value d v) →
    type_head_at own s at ≡ Some (type_header x n b c (at + 5 + length v))
unfolding type_head_at
head-by true s at x d c v t f n b e =
    let p : n ≡ true = cc in
    let q : b ≡ d = cc in
    rw (f.ok, f.id, f.basic, f.count, f.next, p, q) refl
head-by false s at x d c v t f n b e =
    let p : eqb (get_or v 0 0) 1 ≡ n = cc in
    let q : get_or v 1 0 ≡ b = cc in
    rw (f.ok, f.id, f.value, f.count, f.next, p, q) refl

abbrev basic-as : Bool → Value → ℕ
basic-as true (value d v) = d
basic-as false (value d v) = get_or v 1 0

abbrev flag-as : Bool → Value → Bool
flag-as true (value d v) = true
flag-as false (value d v) = eqb (get_or v 0 0) 1

mark-is : (own : Bool) (a : Value) → mark (flag-as own a) (basic-as own a) ≡ mark_as own a
mark-is true (value d v) = refl
mark-is false (value d v) = refl

whole_by : (own : Bool) (x i : ℕ) (a : Value) (n : Bool) (b : ℕ) (ks rest : Forest Value) → i ≡ x → mark n b ≡ mark_as own a →
    types_as own (node x a ks rest) ≡ node i (mark n b) (types_as own ks) (types_as own rest)
unfolding map_forest
whole_by own x i a n b ks rest e q = rw (e, q) refl

seen_by : (own : Bool) (s : List ℕ) (at x d : ℕ) (v t : List ℕ) (ks rest : Forest Value) → Fields s at x d (root_count ks) v t →
    (h : Option TypeHead) (i : ℕ) (n : Bool) (b k mid : ℕ) → h ≡ type_head_at own s at → h ≡ Some (type_header i n b k mid) → TypeSeen own at x (value d v) ks rest i n b k mid
seen_by own s at x d v t ks rest f h i n b k mid p q =
    let m = mark-is own (value d v) in
    let y = head-by own s at x d (root_count ks) v t f (flag-as own (value d v)) (basic-as own (value d v)) m in
    let e : Some (type_header i n b k mid) ≡ Some (type_header x (flag-as own (value d v)) (basic-as own (value d v)) (root_count ks) (at + 5 + length v)) = sym q ∙ p ∙ y in
    let h' : type_header i n b k mid ≡ type_header x (flag-as own (value d v)) (basic-as own (value d v)) (root_count ks) (at + 5 + length v) = cc in
    let e1 : i ≡ x = ap (λ (z : TypeHead). z.id) h' in
    let f1 : n ≡ flag-as own (value d v) = ap (λ (z : TypeHead). z.mandatory) h' in
    let f2 : b ≡ basic-as own (value d v) = ap (λ (z : TypeHead). z.basic) h' in
    let e2 : mark n b ≡ mark_as own (value d v) = cc in
    record {
      id = e1;
      type = e2;
      kids = ap (λ (z : TypeHead). z.count) h';
      next = ap (λ (z : TypeHead). z.start) h';
      whole = whole_by own x i (value d v) n b ks rest e1 e2;
    }

unseen-by : {A : Type 0} (own : Bool) (s : List ℕ) (at x d c : ℕ) (v t : List ℕ) → Fields s at x d c v t →
    (h : Option TypeHead) → h ≡ type_head_at own s at → h ≡ None → A
unseen-by own s at x d c v t f h p q =
    let y = head-by own s at x d c v t f (flag-as own (value d v)) (basic-as own (value d v)) (mark-is own (value d v)) in
    let z : ◌≡◌ {A = ℕ} 0 1 = cc in absurd (omega arith)

-- the first of siblings
pub type-seen : (own : Bool) (s : List ℕ) (at x d : ℕ) (v : List ℕ) (ks rest : Forest Value) → Row s at (node x (value d v) ks rest) →
    (h : Option TypeHead) (i : ℕ) (n : Bool) (b k mid : ℕ) → h ≡ type_head_at own s at → h ≡ Some (type_header i n b k mid) → TypeSeen own at x (value d v) ks rest i n b k mid
type-seen own s at x d v ks rest w h i n b k mid p q = seen_by own s at x d v _ ks rest (row-fields s at x d v ks rest w) h i n b k mid p q

pub type-unseen : {A : Type 0} (own : Bool) (s : List ℕ) (at x d : ℕ) (v : List ℕ) (ks rest : Forest Value) → Row s at (node x (value d v) ks rest) →
    (h : Option TypeHead) → h ≡ type_head_at own s at → h ≡ None → A
type-unseen own s at x d v ks rest w h p q = unseen-by own s at x d (root_count ks) v _ (row-fields s at x d v ks rest w) h p q

-- the root of a tree
pub root-type-seen : (own : Bool) (s : List ℕ) (at x d : ℕ) (v : List ℕ) (ks : Forest Value) → Root s at x (tree (value d v) ks) →
    (h : Option TypeHead) (i : ℕ) (n : Bool) (b k mid : ℕ) → h ≡ type_head_at own s at → h ≡ Some (type_header i n b k mid) → TypeSeen own at x (value d v) ks end i n b k mid
root-type-seen own s at x d v ks w h i n b k mid p q = seen_by own s at x d v _ ks end (root-fields s at x d v ks w) h i n b k mid p q

pub root-type-unseen : {A : Type 0} (own : Bool) (s : List ℕ) (at x d : ℕ) (v : List ℕ) (ks : Forest Value) → Root s at x (tree (value d v) ks) →
    (h : Option TypeHead) → h ≡ type_head_at own s at → h ≡ None → A
root-type-unseen own s at x d v ks w h p q = unseen-by own s at x d (root_count ks) v _ (root-fields s at x d v ks w) h p q
