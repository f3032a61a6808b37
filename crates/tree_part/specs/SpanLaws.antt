-- The span is the reader's part: it lies within the message (`span-inside`), its bytes there are the part (`span-part`), and an empty one starts
-- at 0 (`span-empty`).
use Rattle.std.specs.Prelude.{◌≡◌, refl, List, [], ◌∷◌, Bool, true, false, ℕ, ◌+◌, ◌≤◌, ◌<◌, length, take, drop}
use Rattle.std.proofs.Common.{sym, subst, ◌∙◌, zero-add, arith, lt-ltb, le-ltb}
use Rattle.std.proofs.Math.Seq.{take-append_seam}
use Rattle.tree_forest.specs.Compare.{Compare, lt, eq, gt, compare}
use Rattle.tree_forest.specs.Forest.{Forest, end, node, Tree, tree, node_of, Lookup, absent, present, find_by, find}
use Rattle.tree_forest.specs.Path.{Path, path, read_steps}
use Rattle.scalar.specs.Value.{Value, value, is_value}
use Rattle.wire.specs.Wire.{u16_at, unsigned_of}
use Rattle.basics.specs.Choice.{pick}
use Rattle.tree.specs.Encode.{root_count, encode, Octets}
use Rattle.tree.specs.Decode.{head_ok, parse_siblings, parse, decode, decode_message}
use Rattle.tree.specs.DecodeLaws.{decode-sound}
use Rattle.tree.specs.Ids.{steps, all_zeros, ends_in_zeros, is_path, path_from_ids, last_of}
use Rattle.tree.specs.Standing.{Row, Root}
use Rattle.tree.specs.StandingLaws.{row-root, row-rest, root-kids, root-inside, encodes-root}
use Rattle.tree_part.specs.Part.{encode_found, child_bytes, part_of}
use Rattle.tree_part.specs.Span.{earlier, offset, start_found, child_start, span_of}

-- steps below nothing lead to nothing
pub steps-absent : (is : List ℕ) → read_steps {A = Value} is absent ≡ absent
unfolding read_steps find
steps-absent [] = refl
steps-absent (i ∷ is) = steps-absent is

-- no bytes before a sibling whose id is not below
pub earlier-none : (i j : ℕ) (a : Value) (ks rest : Forest Value) → i ≤ j → earlier i (node j a ks rest) ≡ 0
unfolding earlier
earlier-none i j a ks rest l = rw (le-ltb j i l) refl

pub earlier-next : (i j : ℕ) (a : Value) (ks rest : Forest Value) → j < i → earlier i (node j a ks rest) ≡ length (encode (node j a ks end)) + earlier i rest
unfolding earlier
earlier-next i j a ks rest l = rw (lt-ltb j i l) refl

no-tree : {A B : Type 0} {t : Tree B} → absent ≡ present t → A
no-tree e = absurd (let z : ◌≡◌ {A = ℕ} 0 1 = cc in omega arith)

-- a sibling stands past the earlier ones
find-root : (f : Forest Value) (s : List ℕ) (at i : ℕ) (t : Tree Value) → Row s at f → find i f ≡ present t → Root s (at + earlier i f) i t
unfolding find
find-root end s at i t w e = no-tree e
find-root (node j (value b v) ks rest) s at i t w e =
    by (compare i j) e (find-root rest s (at + length (encode (node j (value b v) ks end))) i t (row-rest s at j b v ks rest w))
  where
    by : (c : Compare i j) → find_by c (tree (value b v) ks) (find i rest) ≡ present t →
        (find i rest ≡ present t → Root s (at + length (encode (node j (value b v) ks end)) + earlier i rest) i t) →
        Root s (at + earlier i (node j (value b v) ks rest)) i t
    by (lt h) e ih = no-tree e
    by (eq h) e ih =
        let same : tree (value b v) ks ≡ t = cc in
        let p : at ≡ at + earlier i (node j (value b v) ks rest) = omega (arith, earlier-none i j (value b v) ks rest (omega arith)) in
        subst (λ (x : Tree Value). Root s (at + earlier i (node j (value b v) ks rest)) i x) same
        (subst (λ (x : ℕ). Root s x i (tree (value b v) ks)) p (subst (λ (x : ℕ). Root s at x (tree (value b v) ks)) (sym h) (row-root s at j b v ks rest w)))
    by (gt h) e ih =
        let p : at + length (encode (node j (value b v) ks end)) + earlier i rest ≡ at + earlier i (node j (value b v) ks rest) =
        omega (arith, earlier-next i j (value b v) ks rest h) in
        subst (λ (x : ℕ). Root s x i t) p (ih e)

-- what the steps below a node lead to stands at its offset from there
pub offset-root : (is : List ℕ) (s : List ℕ) (p i : ℕ) (u t : Tree Value) → Root s p i u → read_steps is (present u) ≡ present t →
    Root s (p + offset is (present u)) (last_of i is) t
unfolding read_steps offset last_of
offset-root [] s p i u t w e =
    let same : u ≡ t = cc in
    let z : p ≡ p + 0 = omega arith in
    subst (λ (x : Tree Value). Root s (p + 0) i x) same (subst (λ (x : ℕ). Root s x i u) z w)
offset-root (j ∷ js) s p i (tree (value b v) ks) t w e = by (find j ks) refl e (λ q u. offset-root js s q j u t)
  where
    by : (l : Lookup Value) → find j ks ≡ l → read_steps js l ≡ present t →
        ((q : ℕ) (u : Tree Value) → Root s q j u → read_steps js (present u) ≡ present t → Root s (q + offset js (present u)) (last_of j js) t) →
        Root s (p + (5 + length v + (earlier j ks + offset js l))) (last_of j js) t
    by absent q e ih = no-tree (sym (steps-absent js) ∙ e)
    by (present u) q e ih =
        let r = find-root ks s (p + 5 + length v) j u (root-kids s p i b v ks w) q in
        let z : p + 5 + length v + earlier j ks + offset js (present u) ≡ p + (5 + length v + (earlier j ks + offset js (present u))) = omega arith in
        subst (λ (x : ℕ). Root s x (last_of j js) t) z (ih (p + 5 + length v + earlier j ks) u r e)

pub child-root : (i : ℕ) (is s : List ℕ) (a : Value) (ks : Forest Value) (u : Tree Value) → Root s 0 0 (tree a ks) → read_steps is (find i ks) ≡ present u →
    Root s (offset (i ∷ is) (present (tree a ks))) (last_of i is) u
unfolding read_steps last_of
child-root i is s a ks u w q = rw zero-add at (offset-root (i ∷ is) s 0 0 (tree a ks) u w q)

-- the bytes l stand at p in s
record Holds (s : List ℕ) (p : ℕ) (l : List ℕ) : Type 0 where
  inside : p + length l ≤ length s
  bytes : take (length l) (drop p s) ≡ l

holds-none : (s : List ℕ) → Holds s 0 []
holds-none s = record { inside = omega arith; bytes = refl }

holds-root : (s : List ℕ) (p i : ℕ) (t : Tree Value) → Root s p i t → Holds s p (encode (node_of i t end))
holds-root s p i t w = record { inside = root-inside s p i t w; bytes = rw w.bytes (take-append_seam (encode (node_of i t end)) w.after) }

holds-child : (x : Path) (s : List ℕ) (t : Tree Value) → Root s 0 0 t → Holds s (child_start x (present t)) (child_bytes x (present t))
holds-child (path i is) s (tree a ks) w = by (read_steps is (find i ks)) refl
  where
    by : (l : Lookup Value) → read_steps is (find i ks) ≡ l →
        Holds s (start_found (offset (i ∷ is) (present (tree a ks))) l) (encode_found (last_of i is) l)
    by absent q = holds-none s
    by (present u) q =
        holds-root s (offset (i ∷ is) (present (tree a ks))) (last_of i is) u (child-root i is s a ks u w q)

-- the reader's part stands where the span starts
holds-part : (s ids : List ℕ) → Octets s → Holds s (span_of s ids).start (part_of s ids)
unfolding span_of part_of
holds-part s ids bs = by (is_path ids) (decode_message s) refl
  where
    by : (x : Bool) (l : Lookup Value) → decode_message s ≡ l → Holds s (pick x (child_start (path_from_ids ids) l) 0) (pick x (child_bytes (path_from_ids ids) l) [])
    by true absent e = holds-none s
    by true (present t) e = holds-child (path_from_ids ids) s t (encodes-root 3 15 s t (omega arith) (omega arith) (decode-sound 3 15 s t bs e))
    by false l e = holds-none s

-- the span lies within the message
pub span-inside : (s ids : List ℕ) → Octets s → (span_of s ids).start + (span_of s ids).len ≤ length s
unfolding span_of
span-inside s ids bs = (holds-part s ids bs).inside

-- its bytes are the reader's part
pub span-part : (s ids : List ℕ) → Octets s → take (span_of s ids).len (drop (span_of s ids).start s) ≡ part_of s ids
unfolding span_of
span-part s ids bs = (holds-part s ids bs).bytes

-- an empty part starts at 0
found-empty : (p i : ℕ) (l : Lookup Value) → length (encode_found i l) ≡ 0 → start_found p l ≡ 0
unfolding encode
found-empty p i absent e = refl
found-empty p i (present (tree (value b v) ks)) e = absurd (omega (arith, e))

child-empty : (x : Path) (l : Lookup Value) → length (child_bytes x l) ≡ 0 → child_start x l ≡ 0
child-empty x absent e = refl
child-empty (path i is) (present (tree a ks)) e = found-empty (offset (i ∷ is) (present (tree a ks))) (last_of i is) (read_steps is (find i ks)) e

pub span-empty : (s ids : List ℕ) → (span_of s ids).len ≡ 0 → (span_of s ids).start ≡ 0
unfolding span_of part_of
span-empty s ids e = by (is_path ids) e
  where
    by : (x : Bool) → length (pick x (child_bytes (path_from_ids ids) (decode_message s)) []) ≡ 0 → pick x (child_start (path_from_ids ids) (decode_message s)) 0 ≡ 0
    by true e = child-empty (path_from_ids ids) (decode_message s) e
    by false e = refl

-- the same bytes twice: under `1`, a bool, and under `2`, a void, stands a void `5`; each has its own place
abbrev pub twice : List ℕ
twice = 0 ∷ 0 ∷ 6 ∷ 2 ∷ 0 ∷ 1 ∷ 0 ∷ 0 ∷ 1 ∷ 1 ∷ 1 ∷ 5 ∷ 0 ∷ 6 ∷ 0 ∷ 0 ∷ 2 ∷ 0 ∷ 6 ∷ 1 ∷ 0 ∷ 5 ∷ 0 ∷ 6 ∷ 0 ∷ 0 ∷ []

pub span-twice : (span_of twice (1 ∷ 5 ∷ 0 ∷ 0 ∷ []) ≡ record { start = 11; len = 5 }) × (span_of twice (2 ∷ 5 ∷ 0 ∷ 0 ∷ []) ≡ record { start = 21; len = 5 })
unfolding span_of part_of is_path ends_in_zeros all_zeros path_from_ids steps decode head_ok parse parse_siblings unsigned_of
    is_value earlier offset encode root_count find read_steps last_of u16_at
span-twice = (refl, refl)
