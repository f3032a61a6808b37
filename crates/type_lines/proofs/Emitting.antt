-- Rows of types, at each of the ways out of the code.
use mathlib.Core.Path.{◌≡◌, refl, ap, sym, subst, ◌∙◌}
use mathlib.Core.List.{List, [], ◌∷◌, ◌++◌}
use mathlib.Core.Bool.{Bool, false}
use Prim.Native.Nat.{ℕ, zero, suc, ◌+◌, ◌-◌, ◌*◌, ◌/◌, ◌%◌, ◌≤◌, ◌<◌}
use native.Mathlib.Omega.{arith}
use lib.ListN.{length, length-append}
use lib.Dec.{eqb}
use Rattle.basics.specs.Choice.{pick}
use Rattle.scalar.specs.Basic.{raw}
use Rattle.scalar.specs.Value.{value}
use Rattle.tree_forest.specs.Forest.{end, node, tree, map_forest, map_tree, levels}
use Rattle.tree_forest.specs.Limits.{message_levels_below}
use Rattle.network_syntax.specs.Syntax.{Mark, mark, Types, MessageType}
use Rattle.tree.specs.Encode.{root_count}
use Rattle.tree.specs.Standing.{Row, Root, Ended}
use Rattle.tree.specs.StandingLaws.{row-root, row-kids, row-rest, root-kids, row_moved}
use Rattle.tree_edit.specs.Wrote.{Wrote}
use Rattle.tree_edit.specs.WroteLaws.{wrote_none, wrote-more, wrote_as}
use Rattle.check_subtyping.specs.Subtype.{root_children}
use Rattle.check_types.specs.Image.{flag, mark_value, image, type_head_at}
use Rattle.check_types.specs.ImageLaws.{mark-back, count_map, type-seen, type-unseen, root-type-seen, root-type-unseen}
use Rattle.check_types.specs.declared.TypeHead.{TypeHead}
use Rattle.type_text.specs.TypeRows.{TypeNode, type_node, level_of, by_levels, row_bytes, rows_in}
use Rattle.type_rows.specs.LevelLaws.{children_in, width, children-append, type-length, children-type}
use Rattle.type_lines.specs.Emits.{LevelEmitted, TreeEmitted}
use Rattle.type_lines.specs.EmitsLaws.{rows_append, by-levels}
use Rattle.type_lines.specs.declared.Emitted.{Emitted}
use Rattle.std.specs.Prelude.{Option, Some, None}
use Rattle.check_types.specs.Image.{type_header}

-- ---- one row

pub row_wrote : {o o₁ o₂ o₃ o₄ o₅ : List ℕ} {w a c d e f x b y : ℕ} (i : ℕ) (m : Bool) (next n : ℕ) → Wrote o o₁ w a 2 (i % 256 ∷ i / 256 ∷ []) →
    x ≡ pick m 1 0 → Wrote o₁ o₂ a c 1 (x ∷ []) → Wrote o₂ o₃ c d 1 (b ∷ []) → y ≡ pick (eqb n 0) 0 next → Wrote o₃ o₄ d e 2 (y % 256 ∷ y / 256 ∷ []) →
    Wrote o₄ o₅ e f 2 (n % 256 ∷ n / 256 ∷ []) → Wrote o o₅ w f 8 (row_bytes next (type_node i (mark m b) n ∷ []))
unfolding row_bytes
row_wrote i m next n p u q r v s t = rw (← u, ← v) (wrote-more (wrote-more (wrote-more (wrote-more p q) r) s) t)

one_more : (next i n : ℕ) (a : Mark) → next + n ≡ next + children_in (type_node i a n ∷ [])
unfolding children_in
one_more next i n a = omega arith

-- Rows after rows.
joined : {o o₁ o₂ : List ℕ} {w a e : ℕ} (next u : ℕ) (l l₁ l₂ : List TypeNode) → l ≡ l₁ ++ l₂ → Wrote o o₁ w a (8 * length l₁) (row_bytes next l₁) →
    u ≡ next + children_in l₁ → Wrote o₁ o₂ a e (8 * length l₂) (row_bytes u l₂) → Wrote o o₂ w e (8 * length l) (row_bytes next l)
joined next u l l₁ l₂ q p v r =
    let n : length l ≡ length l₁ + length l₂ = ap length q ∙ length-append l₁ l₂ in
    let y : row_bytes next l ≡ row_bytes next l₁ ++ row_bytes u l₂ = ap (row_bytes next) q ∙ rows_append next l₁ l₂ ∙ rw (← v) refl in
    wrote_as (sym y) (omega arith) (wrote-more p r)

-- ---- siblings

-- The first of n types at `at`, as it was read: its children stand at `mid`.
record TypeFirst (s : List ℕ) (at n : ℕ) (f : Types) (i : ℕ) (m : Bool) (b c mid : ℕ) : Type 0 where
  kids : Types
  rest : Types
  whole : f ≡ node i (mark m b) kids rest
  many : root_count kids ≡ c
  fewer : root_count rest ≡ n - 1
  below : Row s mid (image kids)
  after : (e : ℕ) → Ended s at e → Row s e (image rest)

same-node : {i j : ℕ} {a b : Mark} (k r : Types) → i ≡ j → a ≡ b → node j b k r ≡ node i a k r
same-node k r p q = rw (p, q) refl

type-first : (s : List ℕ) (at n : ℕ) (f : Types) → Row s at (image f) → root_count f ≡ n → (n ≡ 0 → ⊥) →
    (h : Option TypeHead) (i : ℕ) (m : Bool) (b c mid : ℕ) → h ≡ type_head_at false s at → h ≡ Some (type_header i m b c mid) → TypeFirst s at n f i m b c mid
unfolding root_count map_forest
type-first s at n end w e z h i m b c mid p q = absurd (z (sym e))
type-first s at n (node x (mark g a) k r) w e z h i m b c mid p q =
    let v : List ℕ = flag g ∷ a ∷ [] in
    let o = type-seen false s at x raw v (image k) (image r) w h i m b c mid p q in
    record {
      kids = k;
      rest = r;
      whole = same-node k r o.id (o.type ∙ mark-back (mark g a));
      many = sym (o.kids ∙ count_map mark_value k);
      fewer = omega arith;
      below = row_moved s mid _ (image k) o.next (row-kids s at x raw v (image k) (image r) w);
      after = λ e en. row_moved s e _ (image r) (en.ends x (tree (value raw v) (image k)) (row-root s at x raw v (image k) (image r) w))
          (row-rest s at x raw v (image k) (image r) w);
    }

no-type : {A : Type 0} (s : List ℕ) (at n : ℕ) (f : Types) → Row s at (image f) → root_count f ≡ n → (n ≡ 0 → ⊥) →
    (h : Option TypeHead) → h ≡ type_head_at false s at → h ≡ None → A
unfolding root_count map_forest
no-type s at n end w e z h p q = absurd (z (sym e))
no-type s at n (node x (mark g a) k r) w e z h p q = type-unseen false s at x raw (flag g ∷ a ∷ []) (image k) (image r) w h p q

-- The first level of siblings, and a later one.
level-zero : (d i c : ℕ) (a : Mark) (f k r : Types) → d ≡ 0 → f ≡ node i a k r → root_count k ≡ c → level_of d f ≡ (type_node i a c ∷ []) ++ level_of d r
unfolding level_of
level-zero d i c a f k r z e n = rw (z, e, n) refl

level-next : (d i : ℕ) (a : Mark) (f k r : Types) → (d ≡ 0 → ⊥) → f ≡ node i a k r → level_of d f ≡ level_of (d - 1) k ++ level_of d r
unfolding level_of
level-next zero i a f k r z e = absurd (z refl)
level-next (suc d) i a f k r z e = let y : suc d - 1 ≡ d = omega arith in rw (e, y) refl

module _ (s : List ℕ) (at n d : ℕ) (o : List ℕ) (w next : ℕ) (fit : w ≤ length o) where
  pub level-none : n ≡ 0 → LevelEmitted s at n d o o w next (record { at = w; next = next })
  unfolding level_of row_bytes children_in root_count
  level-none z = record { inside = fit; writes = go }
    where
      go : (f : Types) → Row s at (image f) → root_count f ≡ n → w + 8 * width d f ≤ length o → next + children_in (level_of d f) < 65536 →
          Wrote o o w w (8 * width d f) (row_bytes next (level_of d f)) × (next ≡ next + children_in (level_of d f))
      go end v e l h = (wrote_none o w fit, omega arith)
      go (node i a k r) v e l h = absurd (omega arith)

  module _ (z : n ≡ 0 → ⊥) (h : Option TypeHead) (p : h ≡ type_head_at false s at) where
    pub level-fault : h ≡ None → LevelEmitted s at n d o o w next (record { at = w; next = next })
    level-fault q = record { inside = fit; writes = λ f v e l y. no-type s at n f v e z h p q }

    module _ (head : TypeHead) (q : h ≡ Some head) where
      opens : (f : Types) → Row s at (image f) → root_count f ≡ n → TypeFirst s at n f head.id head.mandatory head.basic head.count head.start
      opens f v e = type-first s at n f v e z h head.id head.mandatory head.basic head.count head.start p q

      -- a later level: of the children, then of the other siblings
      pub level-below : (d ≡ 0 → ⊥) → (e : ℕ) → Ended s at e → (o₁ o₂ : List ℕ) (x y : Emitted) → length o₁ ≡ length o →
          LevelEmitted s head.start head.count (d - 1) o o₁ w next x → LevelEmitted s e (n - 1) d o₁ o₂ x.at x.next y → LevelEmitted s at n d o o₂ w next y
      level-below dz e en o₁ o₂ x y l₁ u v = record { inside = omega (arith, v.inside); writes = go }
        where
          go : (f : Types) → Row s at (image f) → root_count f ≡ n → w + 8 * width d f ≤ length o → next + children_in (level_of d f) < 65536 →
              Wrote o o₂ w y.at (8 * width d f) (row_bytes next (level_of d f)) × (y.next ≡ next + children_in (level_of d f))
          go f t c room small =
              let g = opens f t c in
              let lv = level-next d head.id (mark head.mandatory head.basic) f g.kids g.rest dz g.whole in
              let below : List TypeNode = level_of (d - 1) g.kids in
              let later : List TypeNode = level_of d g.rest in
              let wd = ap length lv ∙ length-append below later in
              let ch = ap children_in lv ∙ children-append below later in
              let u' = u.writes g.kids g.below g.many (omega arith) (omega arith) in
              let v' = v.writes g.rest (g.after e en) g.fewer (omega (arith, u'.0.next)) (omega (arith, u'.1)) in
              (joined next x.next (level_of d f) below later lv u'.0 u'.1 v'.0, omega (arith, u'.1, v'.1))

      -- the first level: the sibling's own row
      module _ (dz : d ≡ 0) where
        sized : (f : Types) (t : Row s at (image f)) (c : root_count f ≡ n) → width d f ≡ suc (width d (opens f t c).rest)
        sized f t c = let g = opens f t c in ap length (level-zero d head.id head.count (mark head.mandatory head.basic) f g.kids g.rest dz g.whole g.many)

        counted : (f : Types) (t : Row s at (image f)) (c : root_count f ≡ n) → children_in (level_of d f) ≡ head.count + children_in (level_of d (opens f t c).rest)
        unfolding children_in
        counted f t c = let g = opens f t c in ap children_in (level-zero d head.id head.count (mark head.mandatory head.basic) f g.kids g.rest dz g.whole g.many)

        pub level-full : length o - w < 8 → LevelEmitted s at n d o o w next (record { at = w; next = next })
        level-full y = record { inside = fit; writes = λ f t c room small. absurd (omega (arith, sized f t c)) }

        module _ (c : ℕ) (ck : c ≡ head.count) where
          pub level-over : 65535 - next < c → LevelEmitted s at n d o o w next (record { at = w; next = next })
          level-over y = record { inside = fit; writes = λ f t r room small. absurd (omega (arith, counted f t r)) }

          pub level-row : (e : ℕ) → Ended s at e → (o₁ o₂ : List ℕ) (a : ℕ) (y : Emitted) → length o₁ ≡ length o →
              Wrote o o₁ w a 8 (row_bytes next (type_node head.id (mark head.mandatory head.basic) c ∷ [])) → LevelEmitted s e (n - 1) d o₁ o₂ a (next + c) y →
              LevelEmitted s at n d o o₂ w next y
          level-row e en o₁ o₂ a y l₁ u v = record { inside = omega (arith, v.inside); writes = go }
            where
              go : (f : Types) → Row s at (image f) → root_count f ≡ n → w + 8 * width d f ≤ length o → next + children_in (level_of d f) < 65536 →
                  Wrote o o₂ w y.at (8 * width d f) (row_bytes next (level_of d f)) × (y.next ≡ next + children_in (level_of d f))
              go f t r room small =
                  let g = opens f t r in
                  let lv = level-zero d head.id c (mark head.mandatory head.basic) f g.kids g.rest dz g.whole (g.many ∙ sym ck) in
                  let wd = sized f t r in
                  let ch = counted f t r in
                  let v' = v.writes g.rest (g.after e en) g.fewer (omega (arith, u.next)) (omega arith) in
                  let one = one_more next head.id c (mark head.mandatory head.basic) in
                  (joined next (next + c) (level_of d f) (type_node head.id (mark head.mandatory head.basic) c ∷ []) (level_of d g.rest) lv u one v'.0, omega (arith, v'.1))

pub ruleset level-laws = (level-none, level-fault, level-full, level-over)

-- ---- a type alone

root-first : (a b : Mark) (c : ℕ) (k : Types) → a ≡ b → root_count k ≡ c → levels k ≤ message_levels_below →
    by_levels (tree b k) ≡ (type_node 0 a c ∷ []) ++ (level_of 0 k ++ (level_of 1 k ++ level_of 2 k))
root-first a b c k e n d = by-levels b k d ∙ rw (e, n) refl

module _ (s o : List ℕ) (r x : ℕ) (fit : 8 * r ≤ length o) (start : x ≡ r) (h : Option TypeHead) (p : h ≡ type_head_at false s 0) where
  pub tree-fault : h ≡ None → TreeEmitted s o o r (8 * x)
  tree-fault q = record { inside = omega arith; writes = go }
    where
      go : (t : MessageType) → Root s 0 0 (map_tree mark_value t) → levels (root_children t) ≤ message_levels_below → 8 * (r + rows_in t) ≤ length o →
          r + rows_in t ≤ 256 → Wrote o o (8 * r) (8 * x) (8 * rows_in t) (row_bytes (r + 1) (by_levels t))
      go (tree (mark g a) ks) v d l n = root-type-unseen false s 0 0 raw (flag g ∷ a ∷ []) (image ks) v h p q

  positive : (t : MessageType) → 0 < rows_in t
  unfolding rows_in
  positive (tree a k) = omega arith

  pub tree-past : 255 < r → TreeEmitted s o o r (8 * x)
  tree-past y = record { inside = omega arith; writes = λ t v d l n. absurd (omega (arith, positive t)) }

  pub tree-full : length o - 8 * x < 8 → TreeEmitted s o o r (8 * x)
  tree-full y = record { inside = omega arith; writes = λ t v d l n. absurd (omega (arith, positive t)) }

  module _ (head : TypeHead) (q : h ≡ Some head) (c : ℕ) (ck : c ≡ head.count) where
    pub tree-more : (o₁ o₂ o₃ o₄ : List ℕ) (a : ℕ) (y₀ y₁ y₂ : Emitted) → length o₁ ≡ length o → length o₂ ≡ length o₁ → length o₃ ≡ length o₂ →
        Wrote o o₁ (8 * x) a 8 (row_bytes (r + 1) (type_node 0 (mark head.mandatory head.basic) c ∷ [])) → LevelEmitted s head.start head.count 0 o₁ o₂ a (r + 1 + c) y₀ →
        LevelEmitted s head.start head.count 1 o₂ o₃ y₀.at y₀.next y₁ → LevelEmitted s head.start head.count 2 o₃ o₄ y₁.at y₁.next y₂ → TreeEmitted s o o₄ r y₂.at
    tree-more o₁ o₂ o₃ o₄ a y₀ y₁ y₂ l₁ l₂ l₃ u u₀ u₁ u₂ = record { inside = omega (arith, u₂.inside); writes = go }
      where
        go : (t : MessageType) → Root s 0 0 (map_tree mark_value t) → levels (root_children t) ≤ message_levels_below → 8 * (r + rows_in t) ≤ length o →
            r + rows_in t ≤ 256 → Wrote o o₄ (8 * r) y₂.at (8 * rows_in t) (row_bytes (r + 1) (by_levels t))
        go (tree (mark g e) ks) v d l n =
            let t : MessageType = tree (mark g e) ks in
            let f : List ℕ = flag g ∷ e ∷ [] in
            let q' = root-type-seen false s 0 0 raw f (image ks) v h head.id head.mandatory head.basic head.count head.start p q in
            let many : root_count ks ≡ head.count = sym (q'.kids ∙ count_map mark_value ks) in
            let below : Row s head.start (image ks) = row_moved s head.start _ (image ks) q'.next (root-kids s 0 0 raw f (image ks) v) in
            let root : List TypeNode = type_node 0 (mark head.mandatory head.basic) c ∷ [] in
            let one = one_more (r + 1) 0 c (mark head.mandatory head.basic) in
            let lv = root-first (mark head.mandatory head.basic) (mark g e) c ks (q'.type ∙ mark-back (mark g e)) (many ∙ sym ck) d in
            let j₁ : List TypeNode = level_of 1 ks ++ level_of 2 ks in
            let j₀ : List TypeNode = level_of 0 ks ++ j₁ in
            let s₁ = length-append (level_of 1 ks) (level_of 2 ks) in
            let s₀ = length-append (level_of 0 ks) j₁ in
            let sz : rows_in t ≡ suc (length j₀) = sym (type-length t) ∙ ap length lv in
            let c₁ = children-append (level_of 1 ks) (level_of 2 ks) in
            let c₀ = children-append (level_of 0 ks) j₁ in
            let cr = children-append root j₀ in
            let cs : suc (children_in (root ++ j₀)) ≡ rows_in t = ap (λ (k : List TypeNode). suc (children_in k)) (sym lv) ∙ children-type t in
            let e₀ = u₀.writes ks below many (omega (arith, u.next)) (omega (arith, one)) in
            let e₁ = u₁.writes ks below many (omega (arith, u.next, e₀.0.next)) (omega (arith, one, e₀.1)) in
            let e₂ = u₂.writes ks below many (omega (arith, u.next, e₀.0.next, e₁.0.next)) (omega (arith, one, e₀.1, e₁.1)) in
            let r₁ = joined y₀.next y₁.next j₁ (level_of 1 ks) (level_of 2 ks) refl e₁.0 e₁.1 e₂.0 in
            let r₀ = joined (r + 1 + c) y₀.next j₀ (level_of 0 ks) j₁ refl e₀.0 e₀.1 r₁ in
            let first : Wrote o o₁ (8 * r) a 8 (row_bytes (r + 1) root) = subst (λ (y : ℕ). Wrote o o₁ (8 * y) a 8 (row_bytes (r + 1) root)) start u in
            let all = joined (r + 1) (r + 1 + c) (by_levels t) root j₀ lv first one r₀ in
            wrote_as refl (ap (λ (y : ℕ). 8 * y) (type-length t)) all

pub ruleset tree_laws = (tree-fault, tree-past, tree-full)
