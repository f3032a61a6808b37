-- What `span_of` gives, one law for each way out.
use mathlib.Core.Path.{◌≡◌, refl, ap, sym, subst, ◌∙◌}
use mathlib.Core.List.{List, ◌∷◌}
use mathlib.Core.Bool.{Bool, true, false, not}
use Prim.Native.Nat.{ℕ, ◌+◌, ◌-◌, ◌≤◌}
use native.Mathlib.Omega.{arith}
use lib.ListN.{length, get_or, drop}
use borrow.Author.Tests.{not-true, not-false}
use Rattle.tree_forest.specs.Forest.{Forest, end, Tree, tree, node_of, Lookup, absent, present, find}
use Rattle.tree_forest.specs.Path.{read_steps}
use Rattle.scalar.specs.Value.{Value, value}
use Rattle.tree.specs.Encode.{encode, Octets}
use Rattle.tree.specs.Decode.{head_at, decode, is_message}
use Rattle.tree.specs.DecodeLaws.{present-is, absent-is, decode-sound}
use Rattle.tree.specs.Ids.{steps, is_path, last_of}
use Rattle.tree.specs.IdsLaws.{path-at}
use Rattle.tree.specs.Standing.{Row, Root, Ended}
use Rattle.tree.specs.StandingLaws.{root-kids, root-seen, root-unseen, encodes-root}
use Rattle.tree.specs.declared.Head.{Head}
use Rattle.tree_part.specs.Part.{encode_found, part_of}
use Rattle.tree_part.specs.Span.{earlier, offset, start_found, span_of}
use Rattle.tree_part.specs.SpanLaws.{child-root}
use Rattle.tree_part.specs.Located.{found_at, child_place, Located}
use Rattle.tree_part.specs.declared.Span.{Span}
use Rattle.std.specs.Prelude.{Option, Some, None}

abbrev nowhere : Span
nowhere = record { start = 0; len = 0 }

same_span : (a b c d : ℕ) → a ≡ b → c ≡ d → ◌≡◌ {A = Span} (record { start = a; len = c }) (record { start = b; len = d })
same_span a b c d p q = rw (p, q) refl

no_place : {A : Type 0} {p : ℕ} → Some p ≡ None → A
no_place e = absurd (let z : ◌≡◌ {A = ℕ} 0 1 = cc in omega arith)

-- the span of what was found, its place, and that it stands there
record Told (s ids : List ℕ) (r : Option ℕ) : Type 0 where
  found : Lookup Value
  place : ℕ
  id : ℕ
  span : span_of s ids ≡ record { start = start_found place found; len = length (encode_found id found) }
  answer : r ≡ found_at place found
  root : (t : Tree Value) → found ≡ present t → Root s place id t

-- in the message of a tree
span-in : (s ids : List ℕ) (a : Value) (ks : Forest Value) → length ids ≡ 4 → is_path ids ≡ true → decode 3 15 s ≡ present (tree a ks) →
    span_of s ids ≡
    record {
      start = start_found (offset (get_or ids 0 0 ∷ steps (drop 1 ids)) (present (tree a ks))) (read_steps (steps (drop 1 ids)) (find (get_or ids 0 0) ks));
      len = length (encode_found (last_of (get_or ids 0 0) (steps (drop 1 ids))) (read_steps (steps (drop 1 ids)) (find (get_or ids 0 0) ks)));
    }
unfolding span_of part_of
span-in s ids a ks four ok e = rw (ok, e, path-at ids four) refl

told : (s ids : List ℕ) (t : Tree Value) (h : Option Head) (y : Head) (r : Option ℕ) → length ids ≡ 4 → is_path ids ≡ true → Octets s → decode 3 15 s ≡ present t →
    h ≡ head_at s 0 → h ≡ Some y → Located s (get_or ids 0 0) (steps (drop 1 ids)) y.start y.count r → Told s ids r
unfolding child_place offset
told s ids (tree (value d w) ks) h y r four ok bs e p q f =
    let root = encodes-root 3 15 s (tree (value d w) ks) (omega arith) (omega arith) (decode-sound 3 15 s (tree (value d w) ks) bs e) in
    let u = root-seen s 0 0 d w ks root h y.id y.basic y.count y.start p q in
    let row = subst (λ (x : ℕ). Row s x ks) (sym u.next) (root-kids s 0 0 d w ks root) in
    let first = get_or ids 0 0 in
    let is = steps (drop 1 ids) in
    let z : y.start + (earlier first ks + offset is (find first ks)) ≡ 5 + length w + (earlier first ks + offset is (find first ks)) = omega (arith, u.next) in
    record {
      found = read_steps is (find first ks);
      place = offset (first ∷ is) (present (tree (value d w) ks));
      id = last_of first is;
      span = span-in s ids (value d w) ks four ok e;
      answer = f.tells ks row (sym u.count) ∙ ap (λ (x : ℕ). found_at x (read_steps is (find first ks))) z;
      root = λ t o. child-root first is s (value d w) ks t root o;
    }

missing : (s ids : List ℕ) → Told s ids None → nowhere ≡ span_of s ids
missing s ids w = by w.found w.answer w.span
  where
    by : (l : Lookup Value) → None ≡ found_at w.place l → span_of s ids ≡ record { start = start_found w.place l; len = length (encode_found w.id l) } →
        nowhere ≡ span_of s ids
    by absent e o = sym o
    by (present t) e o = no_place (sym e)

module _ (s ids : List ℕ) (at e : ℕ) (n : Ended s at e) (w : Told s ids (Some at)) where
  ends : (t : Tree Value) → Some at ≡ Some w.place → w.found ≡ present t → (at ≡ w.place) × (e ≡ at + length (encode (node_of w.id t end)))
  ends t q o =
      let same : at ≡ w.place = cc in
      (same, n.ends w.id t (subst (λ (x : ℕ). Root s x w.id t) (sym same) (w.root t o)))

  here : (at ≤ e) × (◌≡◌ {A = Span} (record { start = at; len = e - at }) (span_of s ids))
  here = by w.found refl w.answer w.span
    where
      by : (l : Lookup Value) → w.found ≡ l → Some at ≡ found_at w.place l →
          span_of s ids ≡ record { start = start_found w.place l; len = length (encode_found w.id l) } →
          (at ≤ e) × (◌≡◌ {A = Span} (record { start = at; len = e - at }) (span_of s ids))
      by absent z q o = no_place q
      by (present t) z q o =
          let k = ends t q z in
          (omega (arith, k.1), same_span at w.place (e - at) (length (encode (node_of w.id t end))) k.0 (omega (arith, k.1)) ∙ sym o)

module _ (s ids : List ℕ) (x : Bool) (p : x ≡ is_path ids) where
  pub span-no-path : not x ≡ true → nowhere ≡ span_of s ids
  unfolding span_of part_of
  span-no-path h = rw (sym p ∙ not-true x h) refl

  module _ (h : not x ≡ false) (y : Bool) (q : y ≡ is_message s) where
    pub span-no-message : not y ≡ true → nowhere ≡ span_of s ids
    unfolding span_of part_of
    span-no-message k = rw (sym p ∙ not-false x h, absent-is (decode 3 15 s) (sym q ∙ not-true y k)) refl

    module _ (k : not y ≡ false) (bs : Octets s) (d : Option Head) (u : d ≡ head_at s 0) where
      pub span-no-head : d ≡ None → nowhere ≡ span_of s ids
      span-no-head v =
          let w = present-is (decode 3 15 s) (sym q ∙ not-false y k) in
          root-unseen s 0 0 w.0 (encodes-root 3 15 s w.0 (omega arith) (omega arith) (decode-sound 3 15 s w.0 bs w.1)) d u v

      module _ (n : Head) (v : d ≡ Some n) (r : Option ℕ) (f : Located s (get_or ids 0 0) (steps (drop 1 ids)) n.start n.count r) (four : length ids ≡ 4) where
        led : (r' : Option ℕ) → r ≡ r' → Told s ids r'
        led r' e =
            let w = present-is (decode 3 15 s) (sym q ∙ not-false y k) in
            subst (Told s ids) e (told s ids w.0 d n r four (sym p ∙ not-false x h) bs w.1 u v f)

        pub span-missing : r ≡ None → nowhere ≡ span_of s ids
        span-missing e = missing s ids (led None e)

        pub span-before : (at e : ℕ) → r ≡ Some at → Ended s at e → at ≤ e
        span-before at e o n = (here s ids at e n (led (Some at) o)).0

        pub span-found : (at e : ℕ) → r ≡ Some at → Ended s at e → ◌≡◌ {A = Span} (record { start = at; len = e - at }) (span_of s ids)
        span-found at e o n = (here s ids at e n (led (Some at) o)).1

pub ruleset span-laws = (span-no-path, span-no-message, span-no-head, span-missing, span-before, span-found)
