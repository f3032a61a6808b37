-- Decoding gives the tree of every byte form (`decode-complete`) and of nothing else (`decode-sound`); so the byte form is injective on
-- well-formed trees (`encode_injective`). A larger limit changes nothing for what passes the smaller one (`decode-up`).
use Rattle.std.specs.Prelude.{◌≡◌, refl, List, [], ◌∷◌, ◌++◌, Bool, true, false, ℕ, suc, max, ◌+◌, ◌-◌, ◌≤◌, length, drop, eqb}
use Rattle.std.proofs.Common.{ap, sym, subst, ◌∙◌, append-nil, arith, eq-eqb, eqb-true}
use Rattle.std.proofs.Math.Seq.{drop-length}
use Rattle.tree_forest.specs.Forest.{Forest, end, node, Tree, tree, Lookup, absent, present, measure, nodes, levels}
use Rattle.scalar.specs.Value.{Value, value, is_value}
use Rattle.basics.specs.Choice.{pick}
use Rattle.scalar.specs.Basic.{void}
use Rattle.scalar.specs.ValueLaws.{void-empty}
use Rattle.tree.specs.Encode.{empty, Message, root_count, children, encode, rooted, Octets, Encodes, WellFormedTree}
use Rattle.tree_forest.specs.Limits.{message_levels_below, message_nodes_below}
use Rattle.tree_forest.specs.Limits.{session_levels, session_nodes}
use Rattle.tree.specs.Decode.{id_at, basic_at, count_at, value_at, next_at, head_ok, Parse, bad, past, test, parse, whole_of, decode}
use Rattle.tree_forest.specs.Forest.{is_present}
use Rattle.tree.specs.Decode.{is_message, empty_root, is_session_tree}
use Rattle.tree.specs.Standing.{Root}
use Rattle.tree.specs.EncodeLaws.{sized, node-fields, encode-node, length-node, node-bytes, proper-at, parse-complete, parse-sound}
use Rattle.tree.specs.EncodeLaws.{test-past, good_of, of-good, sound-above}
use Rattle.tree.specs.StandingLaws.{encodes-root}

-- what was found
pub present-is : {A : Type 0} (l : Lookup A) → is_present l ≡ true → (t : Tree A) × (l ≡ present t)
present-is absent e = absurd (let z : ◌≡◌ {A = ℕ} 0 1 = cc in omega arith)
present-is (present t) e = (t, refl)

pub absent-is : {A : Type 0} (l : Lookup A) → is_present l ≡ false → l ≡ absent
absent-is absent e = refl
absent-is (present t) e = cc

-- the byte form of a tree decodes to that tree
pub decode-complete : (deep many : ℕ) (s : List ℕ) (t : Tree Value) → Encodes deep many s t → decode deep many s ≡ present t
unfolding decode encode
decode-complete deep many s (tree (value b v) ks) m =
    let g = m.good in
    let e' : drop 0 s ≡ 0 ∷ 0 ∷ b ∷ root_count ks ∷ length v ∷ (v ++ (encode ks ++ [])) = m.bytes ∙ sym (append-nil _) ∙ encode-node 0 b v ks end [] in
    let w = node-fields s 0 0 b (root_count ks) v (encode ks ++ []) e' g.root.valid in
    let ok = good_of ks deep 0 (sound-above ks g.sound) g.rising g.sound g.shallow in
    let p = parse-complete ks s deep 0 many (5 + length v) [] w.after ok g.few in
    let p' : parse s deep (count_at s 0) 0 many (next_at s 0) ≡ past ks (5 + length v + length (encode ks)) (many - nodes ks) = rw (w.count, w.next) p in
    let ln = length-node 0 b v ks end in
    let le : length s ≡ length (encode (node 0 (value b v) ks end)) = ap length m.bytes in
    let f : 5 + length v + length (encode ks) ≡ length s = omega (arith, ln, le) in
    rw (w.ok, eq-eqb (id_at s 0) 0 w.id, p', eq-eqb (5 + length v + length (encode ks)) (length s) f, w.basic, w.value) refl

whole-tree : (s : List ℕ) (p : Parse) (t : Tree Value) → whole_of s p ≡ present t →
    (ks : Forest Value) × (e : ℕ) × (l : ℕ) × (p ≡ past ks e l) × (e ≡ length s) × (t ≡ tree (value (basic_at s 0) (value_at s 0)) ks)
whole-tree s bad t h = (end, 0, 0, cc, cc, cc)
whole-tree s (past ks e l) t h = by (eqb e (length s)) refl h
  where
    by : (x : Bool) → eqb e (length s) ≡ x → pick x (present (tree (value (basic_at s 0) (value_at s 0)) ks)) absent ≡ present t →
        (ks' : Forest Value) × (e' : ℕ) × (l' : ℕ) × (past ks e l ≡ past ks' e' l') × (e' ≡ length s) × (t ≡ tree (value (basic_at s 0) (value_at s 0)) ks')
    by true q h = (ks, e, l, refl, eqb-true e (length s) q, cc)
    by false q h = (end, 0, 0, cc, cc, cc)

root-bytes : (s : List ℕ) (e b : ℕ) (v : List ℕ) (ks : Forest Value) → drop e s ≡ [] → id_at s 0 ≡ 0 →
    drop 0 s ≡ encode (node (id_at s 0) (value b v) ks end) ++ drop e s →
    s ≡ encode (node 0 (value b v) ks end)
root-bytes s e b v ks d z h = rw (d, append-nil, z) at h

encodes-of : (deep many : ℕ) (s : List ℕ) → Octets s → (ks : Forest Value) (e l : ℕ) → head_ok s 0 ≡ true → id_at s 0 ≡ 0 →
    parse s deep (count_at s 0) 0 many (next_at s 0) ≡ past ks e l → e ≡ length s → Encodes deep many s (tree (value (basic_at s 0) (value_at s 0)) ks)
unfolding encode
encodes-of deep many s bs ks e l h z p q =
    let st = parse-sound s bs deep (count_at s 0) 0 many (next_at s 0) ks e l p in
    let hd = sized s 0 h in
    let d : drop e s ≡ [] = rw q (drop-length s) in
    let nb = node-bytes s 0 e e ks end bs hd st.many st.bytes refl in
    let og = of-good ks deep 0 st.good in
    record {
      bytes = root-bytes s e (basic_at s 0) (value_at s 0) ks d z nb;
      good = record {
        root = proper-at s 0 bs hd;
        sound = og.sound;
        rising = og.rising;
        shallow = og.shallow;
        few = omega (arith, st.used);
      };
    }

-- bytes that decode to a tree are the byte form of that tree
pub decode-sound : (deep many : ℕ) (s : List ℕ) (t : Tree Value) → Octets s → decode deep many s ≡ present t → Encodes deep many s t
unfolding decode
decode-sound deep many s t bs h =
    let w = whole-tree s (test (head_ok s 0) (test (eqb (id_at s 0) 0) (parse s deep (count_at s 0) 0 many (next_at s 0)))) t h in
    let a = test-past (head_ok s 0) _ w.0 w.1 w.2 w.3 in
    let b = test-past (eqb (id_at s 0) 0) _ w.0 w.1 w.2 a.1 in
    subst (Encodes deep many s) (sym w.5) (encodes-of deep many s bs w.0 w.1 w.2 a.0 (eqb-true (id_at s 0) 0 b.0) b.1 w.4)

-- larger limits
pub well-formed-up : (deep many deep' many' : ℕ) (t : Tree Value) → deep ≤ deep' → many ≤ many' → WellFormedTree deep many t → WellFormedTree deep' many' t
well-formed-up deep many deep' many' t p q w = record {
  root = w.root;
  sound = w.sound;
  rising = w.rising;
  shallow = omega (arith, w.shallow);
  few = omega (arith, w.few);
}

pub encodes-up : (deep many deep' many' : ℕ) (s : List ℕ) (t : Tree Value) → deep ≤ deep' → many ≤ many' → Encodes deep many s t → Encodes deep' many' s t
encodes-up deep many deep' many' s t p q w = record { bytes = w.bytes; good = well-formed-up deep many deep' many' t p q w.good }

pub decode-up : (deep many deep' many' : ℕ) (s : List ℕ) (t : Tree Value) → Octets s → deep ≤ deep' → many ≤ many' → decode deep many s ≡ present t →
    decode deep' many' s ≡ present t
decode-up deep many deep' many' s t bs p q e = decode-complete deep' many' s t (encodes-up deep many deep' many' s t p q (decode-sound deep many s t bs e))

-- the byte form is injective on well-formed trees, whatever their limits
pub encode_injective : (deep many deep' many' : ℕ) (t u : Tree Value) → WellFormedTree deep many t → WellFormedTree deep' many' u →
    encode (rooted t) ≡ encode (rooted u) → t ≡ u
encode_injective deep many deep' many' t u x y e =
    let d = max deep deep' in
    let n = max many many' in
    let p = decode-complete d n (encode (rooted t)) t (record { bytes = refl; good = well-formed-up deep many d n t (omega arith) (omega arith) x }) in
    let q = decode-complete d n (encode (rooted t)) u (record { bytes = e; good = well-formed-up deep' many' d n u (omega arith) (omega arith) y }) in
    cc

-- what decodes stands at the start
pub decoded-root : (s : List ℕ) (t : Tree Value) → Octets s → decode session_levels session_nodes s ≡ present t → Root s 0 0 t
decoded-root s t bs e = encodes-root session_levels session_nodes s t (omega arith) (omega arith) (decode-sound session_levels session_nodes s t bs e)

-- bytes are a message exactly if the test says so
pub message-sound : (s : List ℕ) → Octets s → is_message s ≡ true → (t : Tree Value) × Message s t
message-sound s bs e =
    let w = present-is (decode message_levels_below message_nodes_below s) e in (w.0, decode-sound message_levels_below message_nodes_below s w.0 bs w.1)

pub message-complete : (s : List ℕ) (t : Tree Value) → Message s t → is_message s ≡ true
message-complete s t m = ap is_present (decode-complete message_levels_below message_nodes_below s t m)

-- the tree of a session: below an empty root
session-by : (s : List ℕ) (l : Lookup Value) → Octets s → decode session_levels session_nodes s ≡ l → empty_root l ≡ true →
    (f : Forest Value) × Encodes session_levels session_nodes s (tree empty f)
session-by s absent bs d e = absurd (let z : ◌≡◌ {A = ℕ} 0 1 = cc in omega arith)
session-by s (present (tree (value b v) ks)) bs d e =
    let w = decode-sound session_levels session_nodes s (tree (value b v) ks) bs d in
    let z = eqb-true b void e in
    let n : v ≡ [] = void-empty v (ap (λ (x : ℕ). is_value x v) (sym z) ∙ w.good.root.valid) in
    (ks, subst (λ (x : Value). Encodes session_levels session_nodes s (tree x ks)) (rw (z, n) refl) w)

pub session-sound : (s : List ℕ) → Octets s → is_session_tree s ≡ true → (f : Forest Value) × Encodes session_levels session_nodes s (tree empty f)
unfolding is_session_tree
session-sound s bs e = session-by s (decode session_levels session_nodes s) bs refl e

pub session-complete : (s : List ℕ) (f : Forest Value) → Encodes session_levels session_nodes s (tree empty f) → is_session_tree s ≡ true
unfolding is_session_tree
session-complete s f w = ap empty_root (decode-complete session_levels session_nodes s (tree empty f) w)

-- 01's limits count the root: "at most 16 nodes, 4 levels" is at most 15 nodes and 3 levels below it
pub with_root : (t : Tree Value) → (nodes (rooted t) ≡ suc (nodes (children t))) × (levels (rooted t) ≡ suc (levels (children t)))
unfolding measure
with_root (tree a ks) = (omega arith, omega arith)

pub message-limits : (s : List ℕ) (t : Tree Value) → Message s t → (nodes (rooted t) ≤ 16) × (levels (rooted t) ≤ 4)
message-limits s t m = let w = with_root t in (omega (arith, w.0, m.good.few), omega (arith, w.1, m.good.shallow))
