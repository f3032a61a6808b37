-- Laws of the byte form: the fields that are read where a node's bytes stand, parsing what stands there (`parse-complete`) and standing of
-- what is parsed (`parse-sound`), and well-formedness by parts.
use Rattle.std.specs.Prelude.{◌≡◌, refl, List, [], ◌∷◌, ◌++◌, Bool, true, false, ℕ, zero, suc, max, ◌+◌, ◌-◌, ◌/◌, ◌%◌, ◌≤◌, ◌<◌, length, get_or, take, drop, leb}
use Rattle.std.proofs.Common.{ap, sym, ◌∙◌, append_assoc, add-zero, add-suc, arith, length-take, length-drop, length-append, take-append-drop, drop-cons, get_or-drop, get_or-take, drop-drop, le-leb, lt-ltb, ltb-true, leb-true}
use Rattle.std.proofs.Math.Nat.{sub-zero}
use Rattle.std.proofs.Math.Decide.{dec_lt}
use Rattle.std.proofs.Math.ListN.{get_or-eq_default}
use Rattle.std.proofs.Math.Seq.{take-append_seam, drop-append_seam}
use Rattle.wire.specs.Wire.{u16_at}
use Rattle.tree_forest.specs.Forest.{Forest, end, node, Above, Rising, measure, nodes, levels}
use Rattle.scalar.specs.Value.{Value, value, is_value}
use Rattle.basics.specs.Choice.{pick}
use Rattle.basics.specs.TestLaws.{and_left, and_right}
use Rattle.scalar.specs.ValueLaws.{value-basic, value-size, empty-void}
use Rattle.tree.specs.Encode.{root_count, encode, Octets, Proper, SoundValues, empty}
use Rattle.tree.specs.Decode.{id_at, basic_at, count_at, len_at, value_at, next_at, head_ok, head_at, Parse, bad, past, test, then_parse, join, parse_siblings}
use Rattle.tree.specs.Decode.{parse, erase, scan}
use Rattle.tree.specs.Standing.{Good}
use Rattle.tree.specs.declared.Head.{Head}
use Rattle.std.specs.Prelude.{Option, Some, None}
use Rattle.tree.specs.Decode.{header}

pub part_length : (s : List ℕ) (at n : ℕ) → at + n ≤ length s → length (take n (drop at s)) ≡ n
part_length s at n h = simp (length-take, length-drop) (omega arith)

-- a part of bytes is bytes
pub octets-part : (s : List ℕ) (at n : ℕ) → Octets s → Octets (take n (drop at s))
octets-part s at n o = record { small = λ k. by k (dec_lt k n) }
  where
    by : (k : ℕ) → Dec (k < n) → get_or (take n (drop at s)) k 0 < 256
    by k (yes l) = rw (get_or-take n (drop at s) k 0 l, get_or-drop at s k 0) (o.small (at + k))
    by k (no l) =
        let h : length (take n (drop at s)) ≤ k = omega (arith, length-take n (drop at s)) in
        rw (get_or-eq_default (take n (drop at s)) 0 h) (omega arith)

-- a header that is right lies within the bytes
pub record NodeSized (s : List ℕ) (at : ℕ) : Type 0 where
  pub header : at + 5 ≤ length s
  pub value : next_at s at ≤ length s
  pub valid : is_value (basic_at s at) (value_at s at) ≡ true

pub sized : (s : List ℕ) (at : ℕ) → head_ok s at ≡ true → NodeSized s at
unfolding head_ok
sized s at e =
    let r = and_right (leb (at + 5) (length s)) _ e in
    record {
      header = leb-true _ _ (and_left (leb (at + 5) (length s)) _ e);
      value = leb-true _ _ (and_left (leb (next_at s at) (length s)) _ r);
      valid = and_right (leb (next_at s at) (length s)) _ r;
    }

-- what a header that was read says
pub record Got (s : List ℕ) (at i b c m : ℕ) : Type 0 where
  pub ok : head_ok s at ≡ true
  pub id : i ≡ id_at s at
  pub basic : b ≡ basic_at s at
  pub count : c ≡ count_at s at
  pub next : m ≡ next_at s at

got-by : (s : List ℕ) (at i b c m : ℕ) (t : Bool) → head_ok s at ≡ t →
    pick t (Some (header (id_at s at) (basic_at s at) (count_at s at) (next_at s at))) None ≡ Some (header i b c m) → Got s at i b c m
got-by s at i b c m true h e =
    let q : header i b c m ≡ header (id_at s at) (basic_at s at) (count_at s at) (next_at s at) = cc in
    record { ok = h; id = ap (λ (x : Head). x.id) q; basic = ap (λ (x : Head). x.basic) q; count = ap (λ (x : Head). x.count) q; next = ap (λ (x : Head). x.start) q }
got-by s at i b c m false h e = absurd cc

pub got : {s : List ℕ} {at i b c m : ℕ} {h : Option Head} → h ≡ head_at s at → h ≡ Some (header i b c m) → Got s at i b c m
unfolding head_at
got {s} {at} {i} {b} {c} {m} {h} p q = got-by s at i b c m (head_ok s at) refl (sym p ∙ q)

fault-by : (t : Bool) (i b c m : ℕ) → pick t (Some (header i b c m)) None ≡ None → t ≡ false
fault-by true i b c m e = cc
fault-by false i b c m e = refl

pub fault : (s : List ℕ) (at : ℕ) {h : Option Head} → h ≡ head_at s at → h ≡ None → head_ok s at ≡ false
unfolding head_at
fault s at p q = fault-by (head_ok s at) _ _ _ _ (sym p ∙ q)

byte_at : (s l : List ℕ) (at k : ℕ) → drop at s ≡ l → get_or s (at + k) 0 ≡ get_or l k 0
byte_at s l at k e = sym (get_or-drop at s k 0) ∙ ap (λ (x : List ℕ). get_or x k 0) e

pub later : (s l : List ℕ) (at k : ℕ) → drop at s ≡ l → drop (at + k) s ≡ drop k l
later s l at k e = sym (drop-drop k at s) ∙ ap (λ (x : List ℕ). drop k x) e

-- the fields that are read where a node's bytes stand
pub record Fields (s : List ℕ) (at i b c : ℕ) (v t : List ℕ) : Type 0 where
  pub ok : head_ok s at ≡ true
  pub id : id_at s at ≡ i
  pub basic : basic_at s at ≡ b
  pub count : count_at s at ≡ c
  pub value : value_at s at ≡ v
  pub next : next_at s at ≡ at + 5 + length v
  pub after : drop (at + 5 + length v) s ≡ t
  pub size : at + 5 + length v ≤ length s

pub node-fields : (s : List ℕ) (at i b c : ℕ) (v t : List ℕ) → drop at s ≡ i % 256 ∷ i / 256 ∷ b ∷ c ∷ length v ∷ (v ++ t) → is_value b v ≡ true →
    Fields s at i b c v t
unfolding head_ok u16_at
node-fields s at i b c v t e ok =
    let l : List ℕ = i % 256 ∷ i / 256 ∷ b ∷ c ∷ length v ∷ (v ++ t) in
    let b0 : get_or s (at + 0) 0 ≡ i % 256 = byte_at s l at 0 e in
    let b0' : get_or s at 0 ≡ i % 256 = rw (add-zero at) at b0 in
    let b1 : get_or s (at + 1) 0 ≡ i / 256 = byte_at s l at 1 e in
    let b2 : get_or s (at + 2) 0 ≡ b = byte_at s l at 2 e in
    let b3 : get_or s (at + 3) 0 ≡ c = byte_at s l at 3 e in
    let b4 : get_or s (at + 4) 0 ≡ length v = byte_at s l at 4 e in
    let b5 : drop (at + 5) s ≡ v ++ t = later s l at 5 e in
    let va : take (length v) (drop (at + 5) s) ≡ v = rw b5 (take-append_seam v t) in
    let af : drop (at + 5 + length v) s ≡ t = later s (v ++ t) (at + 5) (length v) b5 ∙ drop-append_seam v t in
    let len : length s - at ≡ suc (suc (suc (suc (suc (length (v ++ t)))))) = sym (length-drop at s) ∙ ap length e in
    let len2 : length (v ++ t) ≡ length v + length t = length-append v t in
    record {
      ok = rw (b4, le-leb (at + 5) (length s) (omega arith), le-leb (at + 5 + length v) (length s) (omega arith), b2, va) ok;
      id = omega arith;
      basic = b2;
      count = b3;
      value = rw b4 va;
      next = rw b4 refl;
      after = af;
      size = omega arith;
    }

-- one more sibling
parse-node : (s : List ℕ) (d n last left at : ℕ) (ks : Forest Value) (m l : ℕ) → 0 < left → head_ok s at ≡ true → last < id_at s at →
    parse s d (count_at s at) 0 (left - 1) (next_at s at) ≡ past ks m l →
    parse s (suc d) (suc n) last left at ≡ join (id_at s at) (value (basic_at s at) (value_at s at)) ks (parse s (suc d) n (id_at s at) l m)
unfolding parse parse_siblings
parse-node s d n last left at ks m l p h k e = rw (lt-ltb 0 left p, h, lt-ltb last (id_at s at) k, e) refl

pub encode-node : (i b : ℕ) (v : List ℕ) (ks rest : Forest Value) (r : List ℕ) →
    encode (node i (value b v) ks rest) ++ r ≡ i % 256 ∷ i / 256 ∷ b ∷ root_count ks ∷ length v ∷ (v ++ (encode ks ++ (encode rest ++ r)))
unfolding encode
encode-node i b v ks rest r = simp append_assoc

pub length-node : (i b : ℕ) (v : List ℕ) (ks rest : Forest Value) →
    length (encode (node i (value b v) ks rest)) ≡ 5 + length v + length (encode ks) + length (encode rest)
unfolding encode
length-node i b v ks rest = simp length-append (omega arith)

-- a row's first tree, then the others
pub split-node : (j b : ℕ) (v : List ℕ) (ks rest : Forest Value) (r : List ℕ) →
    encode (node j (value b v) ks rest) ++ r ≡ encode (node j (value b v) ks end) ++ (encode rest ++ r)
unfolding encode
split-node j b v ks rest r = simp append_assoc

pub count-nodes : (f : Forest Value) → root_count f ≤ nodes f
unfolding root_count measure
count-nodes end = omega arith
count-nodes (node i a ks rest) = omega (arith, count-nodes rest)

-- the forest f, which stands at `at` and keeps to the limits, is parsed there
abbrev pub Parsed : List ℕ → ℕ → Forest Value → Type 0
Parsed s d f = (last left at : ℕ) (r : List ℕ) → drop at s ≡ encode f ++ r → Good d last f → nodes f ≤ left →
    parse s d (root_count f) last left at ≡ past f (at + length (encode f)) (left - nodes f)

same-past : {f g : Forest Value} {e e' l l' : ℕ} → f ≡ g → e ≡ e' → l ≡ l' → past f e l ≡ past g e' l'
same-past p q r = cc

complete-node : (s : List ℕ) (d i b : ℕ) (v : List ℕ) (ks rest : Forest Value) → Parsed s d ks → Parsed s (suc d) rest →
    Parsed s (suc d) (node i (value b v) ks rest)
unfolding root_count measure Good
complete-node s d i b v ks rest hk hr last left at r e g z =
    let w = node-fields s at i b (root_count ks) v (encode ks ++ (encode rest ++ r)) (e ∙ encode-node i b v ks rest r) g.2.valid in
    let k1 : parse s d (root_count ks) 0 (left - 1) (at + 5 + length v) ≡ past ks (at + 5 + length v + length (encode ks)) (left - 1 - nodes ks) =
    hk 0 (left - 1) (at + 5 + length v) (encode rest ++ r) w.after g.3 (omega arith) in
    let k1' : parse s d (count_at s at) 0 (left - 1) (next_at s at) ≡ past ks (at + 5 + length v + length (encode ks)) (left - 1 - nodes ks) =
    rw (w.count, w.next) k1 in
    let af : drop (at + 5 + length v + length (encode ks)) s ≡ encode rest ++ r =
    later s (encode ks ++ (encode rest ++ r)) (at + 5 + length v) (length (encode ks)) w.after ∙ drop-append_seam (encode ks) (encode rest ++ r) in
    let k2 = hr i (left - 1 - nodes ks) (at + 5 + length v + length (encode ks)) r af g.4 (omega arith) in
    let ln = length-node i b v ks rest in
    parse-node s d (root_count rest) last left at ks (at + 5 + length v + length (encode ks)) (left - 1 - nodes ks) (omega arith) w.ok (rw w.id g.0) k1'
    ∙ rw (w.id, w.basic, w.value, k2) (same-past refl (omega arith) (omega arith))

-- what stands there is parsed
pub parse-complete : (f : Forest Value) (s : List ℕ) (d : ℕ) → Parsed s d f
unfolding parse parse_siblings root_count measure encode Good
parse-complete end s zero last left at r e g z = rw (add-zero at, sub-zero left) refl
parse-complete end s (suc d) last left at r e g z = rw (add-zero at, sub-zero left) refl
parse-complete (node i (value b v) ks rest) s zero last left at r e g z = absurd g
parse-complete (node i (value b v) ks rest) s (suc d) last left at r e g z =
    complete-node s d i b v ks rest (parse-complete ks s d) (parse-complete rest s (suc d)) last left at r e g z

-- the forest f stands at `at`, ends at e, and leaves l of `left` nodes
pub record ForestStands (s : List ℕ) (d n last left at : ℕ) (f : Forest Value) (e l : ℕ) : Type 0 where
  pub many : root_count f ≡ n
  pub good : Good d last f
  pub bytes : drop at s ≡ encode f ++ drop e s
  pub ends : e ≡ at + length (encode f)
  pub used : nodes f + l ≡ left

next-byte : (s : List ℕ) (at k : ℕ) → at + k < length s → drop (at + k) s ≡ get_or s (at + k) 0 ∷ drop (at + suc k) s
next-byte s at k h = rw add-suc (drop-cons s (at + k) 0 h)

first-five : (s : List ℕ) (at : ℕ) → at + 5 ≤ length s →
    drop at s ≡ get_or s at 0 ∷ get_or s (at + 1) 0 ∷ get_or s (at + 2) 0 ∷ get_or s (at + 3) 0 ∷ get_or s (at + 4) 0 ∷ drop (at + 5) s
first-five s at h =
    let e0 : drop at s ≡ get_or s at 0 ∷ drop (at + 1) s = rw add-zero at (next-byte s at 0 (omega arith)) in
    e0 ∙ rw (next-byte s at 1 (omega arith), next-byte s at 2 (omega arith), next-byte s at 3 (omega arith), next-byte s at 4 (omega arith)) refl

-- the bytes of a node whose children and later siblings stand where they should
pub node-bytes : (s : List ℕ) (at m e : ℕ) (ks rest : Forest Value) → Octets s → NodeSized s at → root_count ks ≡ count_at s at →
    drop (next_at s at) s ≡ encode ks ++ drop m s → drop m s ≡ encode rest ++ drop e s →
    drop at s ≡ encode (node (id_at s at) (value (basic_at s at) (value_at s at)) ks rest) ++ drop e s
unfolding u16_at
node-bytes s at m e ks rest bs h c p q =
    let len = part_length s (at + 5) (len_at s at) h.value in
    let lo = bs.small at in
    let e1 : id_at s at % 256 ≡ get_or s at 0 = omega arith in
    let e2 : id_at s at / 256 ≡ get_or s (at + 1) 0 = omega arith in
    let e3 : drop (at + 5) s ≡ value_at s at ++ (encode ks ++ (encode rest ++ drop e s)) =
    sym (take-append-drop (len_at s at) (drop (at + 5) s)) ∙ rw (drop-drop (len_at s at) (at + 5) s, p, q) refl in
    first-five s at h.header ∙ sym (encode-node (id_at s at) (basic_at s at) (value_at s at) ks rest (drop e s) ∙ rw (e1, e2, len, c, ← e3) refl)

pub proper-at : (s : List ℕ) (at : ℕ) → Octets s → NodeSized s at → Proper (value (basic_at s at) (value_at s at))
proper-at s at bs h = record { valid = h.valid; bytes = octets-part s (at + 5) (len_at s at) bs }

-- how a parse of one more sibling came about
record Came (s : List ℕ) (d n last left at : ℕ) (f : Forest Value) (e l : ℕ) : Type 0 where
  some_left : 0 < left
  ok : head_ok s at ≡ true
  above : last < id_at s at
  ks : Forest Value
  mid : ℕ
  left' : ℕ
  below : parse s d (count_at s at) 0 (left - 1) (next_at s at) ≡ past ks mid left'
  rest : Forest Value
  others : parse s (suc d) n (id_at s at) left' mid ≡ past rest e l
  whole : f ≡ node (id_at s at) (value (basic_at s at) (value_at s at)) ks rest

pub test-past : (t : Bool) (p : Parse) (f : Forest Value) (e l : ℕ) → test t p ≡ past f e l → (t ≡ true) × (p ≡ past f e l)
test-past true p f e l h = (refl, h)
test-past false p f e l h = (cc, cc)

then-past : (p : Parse) (k : Forest Value → ℕ → ℕ → Parse) (f : Forest Value) (e l : ℕ) → then_parse p k ≡ past f e l →
    (g : Forest Value) × (m : ℕ) × (l' : ℕ) × (p ≡ past g m l') × (k g m l' ≡ past f e l)
then-past bad k f e l h = (end, 0, 0, cc, cc)
then-past (past g m l') k f e l h = (g, m, l', refl, h)

join-past : (i : ℕ) (a : Value) (ks : Forest Value) (p : Parse) (f : Forest Value) (e l : ℕ) → join i a ks p ≡ past f e l →
    (rest : Forest Value) × (p ≡ past rest e l) × (f ≡ node i a ks rest)
join-past i a ks bad f e l h = (end, cc, cc)
join-past i a ks (past rest e' l') f e l h = (rest, cc, cc)

came : (s : List ℕ) (d n last left at : ℕ) (f : Forest Value) (e l : ℕ) → parse s (suc d) (suc n) last left at ≡ past f e l → Came s d n last left at f e l
unfolding parse parse_siblings
came s d n last left at f e l h =
    let a = test-past _ _ f e l h in
    let b = test-past _ _ f e l a.1 in
    let c = test-past _ _ f e l b.1 in
    let w = then-past _ _ f e l c.1 in
    let j = join-past _ _ _ _ f e l w.4 in
    record {
      some_left = ltb-true _ _ a.0;
      ok = b.0;
      above = ltb-true _ _ c.0;
      ks = w.0;
      mid = w.1;
      left' = w.2;
      below = w.3;
      rest = j.0;
      others = j.1;
      whole = j.2;
    }

abbrev Truthful : List ℕ → ℕ → ℕ → Type 0
Truthful s d n = (last left at : ℕ) (f : Forest Value) (e l : ℕ) → parse s d n last left at ≡ past f e l → ForestStands s d n last left at f e l

none-stands : (s : List ℕ) (d last left at : ℕ) (f : Forest Value) (e l : ℕ) → past end at left ≡ past f e l → ForestStands s d 0 last left at f e l
unfolding root_count measure encode Good
none-stands s d last left at f e l h =
    let p : end ≡ f = cc in
    let q : at ≡ e = cc in
    let r : left ≡ l = cc in
    rw (← p, ← q, ← r) (record { many = refl; good = tt; bytes = refl; ends = sym (add-zero at); used = omega arith })

node-stands : (s : List ℕ) → Octets s → (d n : ℕ) → ((m : ℕ) → Truthful s d m) → Truthful s (suc d) n → Truthful s (suc d) (suc n)
unfolding root_count measure Good u16_at
node-stands s bs d n hk hr last left at f e l h =
    let w = came s d n last left at f e l h in
    let k = hk (count_at s at) 0 (left - 1) (next_at s at) w.ks w.mid w.left' w.below in
    let r = hr (id_at s at) w.left' w.mid w.rest e l w.others in
    let hd = sized s at w.ok in
    let len = part_length s (at + 5) (len_at s at) hd.value in
    let ln = length-node (id_at s at) (basic_at s at) (value_at s at) w.ks w.rest in
    rw w.whole (record {
      many = ap suc r.many;
      good = (w.above, omega (arith, bs.small at, bs.small (at + 1)), proper-at s at bs hd, k.good, r.good);
      bytes = node-bytes s at w.mid e w.ks w.rest bs hd k.many k.bytes r.bytes;
      ends = omega (arith, k.ends, r.ends, ln, len);
      used = omega (arith, k.used, r.used, w.some_left);
    })

siblings-stand : (s : List ℕ) → Octets s → (d : ℕ) → ((m : ℕ) → Truthful s d m) → (n : ℕ) → Truthful s (suc d) n
unfolding parse parse_siblings
siblings-stand s bs d hk zero last left at f e l h = none-stands s (suc d) last left at f e l h
siblings-stand s bs d hk (suc n) last left at f e l h = node-stands s bs d n hk (siblings-stand s bs d hk n) last left at f e l h

childless-stand : (s : List ℕ) (n : ℕ) → Truthful s 0 n
unfolding parse
childless-stand s zero last left at f e l h = none-stands s 0 last left at f e l h
childless-stand s (suc n) last left at f e l h = let z : ◌≡◌ {A = ℕ} 0 1 = cc in absurd (omega arith)

-- what is parsed stands there
pub parse-sound : (s : List ℕ) → Octets s → (d n : ℕ) → Truthful s d n
parse-sound s bs zero n = childless-stand s n
parse-sound s bs (suc d) n = siblings-stand s bs d (parse-sound s bs d) n

-- a scan that ends found a forest
past_by : (p : Parse) (e l : ℕ) → erase p ≡ Some (e, l) → (ks : Forest Value) × (p ≡ past ks e l)
past_by bad e l h = (end, cc)
past_by (past ks e' l') e l h =
    let q : ◌≡◌ {A = ℕ × ℕ} (e', l') (e, l) = cc in
    let a : e' ≡ e = ap (λ (x : ℕ × ℕ). x.0) q in
    let b : l' ≡ l = ap (λ (x : ℕ × ℕ). x.1) q in
    (ks, cc)

pub scanned : (s : List ℕ) (d n last left at e l : ℕ) → scan s d n last left at ≡ Some (e, l) → (ks : Forest Value) × (parse s d n last left at ≡ past ks e l)
unfolding scan
scanned s d n last left at e l h = past_by (parse s d n last left at) e l h

bad-by : (p : Parse) → erase p ≡ None → p ≡ bad
bad-by bad h = refl
bad-by (past ks e l) h = cc

pub unscanned : (s : List ℕ) (d n last left at : ℕ) → scan s d n last left at ≡ None → parse s d n last left at ≡ bad
unfolding scan
unscanned s d n last left at h = bad-by (parse s d n last left at) h

-- well-formedness by parts
pub sound-above : (f : Forest Value) → SoundValues f → Above 0 f
unfolding SoundValues
sound-above end h = tt
sound-above (node i a ks rest) h = h.0

pub good-above : (f : Forest Value) (d last : ℕ) → Good d last f → Above last f
unfolding Good
good-above end d last g = tt
good-above (node i a ks rest) zero last g = absurd g
good-above (node i a ks rest) (suc d) last g = g.0

pub good_of : (f : Forest Value) (d last : ℕ) → Above last f → Rising f → SoundValues f → levels f ≤ d → Good d last f
unfolding Rising SoundValues measure Good
good_of end d last a r o l = tt
good_of (node i a ks rest) zero last ab r o l = absurd (omega arith)
good_of (node i a ks rest) (suc d) last ab r o l =
    (ab, o.1, o.2, good_of ks d 0 (sound-above ks o.3) r.1 o.3 (omega arith), good_of rest (suc d) i r.0 r.2 o.4 (omega arith))

-- what a good forest is
pub record Fine (d : ℕ) (f : Forest Value) : Type 0 where
  pub rising : Rising f
  pub sound : SoundValues f
  pub shallow : levels f ≤ d

pub of-good : (f : Forest Value) (d last : ℕ) → Good d last f → Fine d f
unfolding Rising SoundValues measure Good
of-good end d last g = record { rising = tt; sound = tt; shallow = omega arith }
of-good (node i a ks rest) zero last g = absurd g
of-good (node i a ks rest) (suc d) last g =
    let p = of-good ks d 0 g.3 in
    let q = of-good rest (suc d) i g.4 in
    record {
      rising = (good-above rest (suc d) i g.4, p.rising, q.rising);
      sound = (omega (arith, g.0), g.1, g.2, p.sound, q.sound);
      shallow = omega (arith, p.shallow, q.shallow);
    }

pub good-up : (f : Forest Value) (d e last : ℕ) → d ≤ e → Good d last f → Good e last f
good-up f d e last l g = let w = of-good f d last g in good_of f e last (good-above f d last g) w.rising w.sound (omega (arith, w.shallow))

-- two forests of as many siblings that stand at the same place are equal: the byte form is injective
pub unique : (s : List ℕ) (at d e a b : ℕ) (f g : Forest Value) (r r' : List ℕ) → drop at s ≡ encode f ++ r → drop at s ≡ encode g ++ r' →
    Good d a f → Good e b g → root_count f ≡ root_count g → f ≡ g
unique s at d e a b f g r r' p q x y c =
    let h = max d e in
    let z = max (nodes f) (nodes g) in
    let x' = of-good f d a x in
    let y' = of-good g e b y in
    let u = parse-complete f s h 0 z at r p (good_of f h 0 (sound-above f x'.sound) x'.rising x'.sound (omega (arith, x'.shallow))) (omega arith) in
    let v = parse-complete g s h 0 z at r' q (good_of g h 0 (sound-above g y'.sound) y'.rising y'.sound (omega (arith, y'.shallow))) (omega arith) in
    let v' : parse s h (root_count f) 0 z at ≡ past g (at + length (encode g)) (z - nodes g) = rw c v in
    cc

-- the byte form is bytes
pub octets-nil : Octets []
octets-nil = record { small = λ k. omega arith }

octets-cons : (a : ℕ) (l : List ℕ) → a < 256 → Octets l → Octets (a ∷ l)
octets-cons a l h o = record { small = by }
  where
    by : (k : ℕ) → get_or (a ∷ l) k 0 < 256
    by zero = h
    by (suc k) = o.small k

octets-append : (l r : List ℕ) → Octets l → Octets r → Octets (l ++ r)
octets-append [] r p q = q
octets-append (a ∷ l) r p q = octets-cons a (l ++ r) (p.small 0) (octets-append l r (record { small = λ k. p.small (suc k) }) q)

-- a value's bytes are few and its basic type is small
value-small : (b : ℕ) (v : List ℕ) → is_value b v ≡ true → (b < 256) × (length v < 256)
value-small b v e = (omega (arith, value-basic b v e), omega (arith, value-size b v e))

pub encode-octets : (f : Forest Value) → SoundValues f → nodes f < 256 → Octets (encode f)
unfolding encode SoundValues measure
encode-octets end h n = octets-nil
encode-octets (node i (value b v) ks rest) h n =
    let k = encode-octets ks h.3 (omega arith) in
    let r = encode-octets rest h.4 (omega arith) in
    let s = value-small b v h.2.valid in
    let c : root_count ks < 256 = omega (arith, count-nodes ks) in
    octets-cons _ _ (omega arith) (octets-cons _ _ (omega (arith, h.1)) (octets-cons _ _ s.0 (octets-cons _ _ c (octets-cons _ _ s.1
    (octets-append v (encode ks ++ encode rest) h.2.bytes (octets-append (encode ks) (encode rest) k r))))))

-- A root alone.
pub empty-proper : Proper empty
empty-proper = record { valid = empty-void; bytes = record { small = λ k. omega arith } }
