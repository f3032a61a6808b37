-- Rows mean the types whose rows they are: each row of a type is read back, keeps the rules of 4 on T, and is within 5's limits.
use Prim.Native.Nat.{ℕ, zero, suc, ◌+◌, ◌-◌, ◌*◌, ◌≤◌, ◌<◌}
use Rattle.std.specs.Prelude.{◌≡◌, List, [], ◌∷◌, ◌++◌, Bool, not, ◌||◌, length, leb, ltb}
use Rattle.std.proofs.Math.Path.{refl, ap}
use Rattle.std.proofs.Common.{sym, ◌∙◌, length-append, get_or-append-add}
use Rattle.std.proofs.Math.Bool.{true, false}
use native.Mathlib.Omega.{arith}
use Rattle.std.proofs.Math.ListN.{get_or-append}
use Rattle.std.proofs.Math.Dec.{eqb, eqb-suc-zero}
use Rattle.basics.specs.Choice.{pick}
use Rattle.basics.specs.TestLaws.{both_true, and-of, clash, eq_of, of_eq, le_of, of_le, lt_of, of_lt, lt_not}
use Rattle.wire.specs.Wire.{byte_at, u16_at, u16_bytes}
use Rattle.wire.specs.WireLaws.{Agree, agree-later, agree-first, agree-byte, agree-16}
use Rattle.tree.specs.Encode.{root_count}
use Rattle.scalar.specs.Basic.{last_basic}
use Rattle.tree_forest.specs.Limits.{message_nodes_below, message_levels_below}
use Rattle.tree_forest.specs.Forest.{end, node, tree, Rising, measure, nodes, levels}
use Rattle.network_syntax.specs.Syntax.{Mark, mark, mandatory, basic, Types, MessageType}
use Rattle.network.specs.Layout.{type_count, type_at}
use Rattle.network.specs.Rows.{type_id, cardinality, type_basic, first_child, child_count, in_run, later_run, children_fit, id_before, root_fits}
use Rattle.network.specs.Breaks.{TypeBreaks, type_cardinality, type_basic_type, type_children, child_id}
use Rattle.network.specs.Shapes.{NodesShape}
use Rattle.network.specs.Decode.{mark_of, siblings, written_out, type_of}
use Rattle.network.specs.Sizes.{rows_sum, rows_all, levels_within, nodes_to, type_within}
use Rattle.type_text.specs.TypeRows.{TypeNode, type_node, level_of, levels_from, by_levels, row_bytes, rows_in, row_count, type_rows_from, is_too_large}
use Rattle.type_rows.specs.Ranged.{WellRanged, Small, EachType, TypeRowsOf}
use Rattle.type_rows.specs.WordLaws.{neither}
use Rattle.type_rows.specs.LevelLaws.{children_in, width, widths, first_width, width-below, next-width, widths-first, widths-none}
use Rattle.type_rows.specs.LevelLaws.{widths-next, widths-few, widths-all, level-past, type-length, level-place}

-- ---- the bytes of rows

agree-front : {s : List ℕ} {i : ℕ} (l m : List ℕ) (n : ℕ) → Agree s i (l ++ m) 0 (length l + n) → Agree s i l 0 (length l)
agree-front l m n a = record {
  bytes = λ k h. let e : 0 + k ≡ k = omega arith in
      a.bytes k (omega arith) ∙ ap (byte_at (l ++ m)) e ∙ get_or-append l m 0 k h ∙ ap (byte_at l) (sym e);
}

agree-back : {s : List ℕ} {i : ℕ} (l m : List ℕ) (n : ℕ) → Agree s i (l ++ m) 0 (length l + n) → Agree s (i + length l) m 0 n
agree-back {s} {i} l m n a = record {
  bytes = λ k h. let e : 0 + (length l + k) ≡ length l + k = omega arith in let f : i + length l + k ≡ i + (length l + k) = omega arith in
      let g : 0 + k ≡ k = omega arith in
      ap (byte_at s) f ∙ a.bytes (length l + k) (omega arith) ∙ ap (byte_at (l ++ m)) e ∙ get_or-append-add l m k 0 ∙ ap (byte_at m) (sym g);
}

-- Row r of the file s is a node with these: its id, its mark, its first child's row and how many children it has.
record RowIs (s : List ℕ) (r i : ℕ) (a : Mark) (first n : ℕ) : Type 0 where
  id : type_id s r ≡ i
  card : cardinality s r ≡ pick (mandatory a) 1 0
  basic_type : type_basic s r ≡ basic a
  first_row : first_child s r ≡ first
  counted : child_count s r ≡ n

-- The rows from `at` on are these nodes; `next` is the row of the next child.
RowsAt : List ℕ → ℕ → ℕ → List TypeNode → Type 0
RowsAt s at next [] = Unit {0}
RowsAt s at next (type_node i a n ∷ l) = RowIs s at i a (pick (eqb n 0) 0 next) n × RowsAt s (at + 1) (next + n) l

row-bytes : (s : List ℕ) (r i : ℕ) (m : Bool) (b first n : ℕ)
    → Agree s (type_at s r) (u16_bytes i ++ (pick m 1 0 ∷ b ∷ (u16_bytes first ++ u16_bytes n))) 0 8 → RowIs s r i (mark m b) first n
unfolding type_id cardinality type_basic first_child child_count u16_at
row-bytes s r i m b first n a = record {
  id = let e = agree-16 (agree-first 2 (omega arith) a) in omega arith;
  card = agree-byte (agree-later 2 1 (omega arith) a);
  basic_type = agree-byte (agree-later 3 1 (omega arith) a);
  first_row = let e = agree-16 (agree-later 4 2 (omega arith) a) in omega arith;
  counted = let e = agree-16 (agree-later 6 2 (omega arith) a) in omega arith;
}

row-after : (s : List ℕ) (r n : ℕ) → type_at s r + 8 * n ≡ type_at s (r + n)
unfolding type_at
row-after s r n = omega arith

rows-bytes : (s : List ℕ) (l : List TypeNode) (r next : ℕ) → Agree s (type_at s r) (row_bytes next l) 0 (8 * length l) → RowsAt s r next l
unfolding row_bytes RowsAt
rows-bytes s [] r next a = tt
rows-bytes s (type_node i (mark m b) n ∷ l) r next a =
    let row : List ℕ = u16_bytes i ++ (pick m 1 0 ∷ b ∷ (u16_bytes (pick (eqb n 0) 0 next) ++ u16_bytes n)) in
    let e : 8 * suc (length l) ≡ 8 + 8 * length l = omega arith in
    let c : Agree s (type_at s r) (row ++ row_bytes (next + n) l) 0 (8 + 8 * length l) = rw e at a in (
      row-bytes s r i m b (pick (eqb n 0) 0 next) n (agree-front row (row_bytes (next + n) l) (8 * length l) c),
      rows-bytes s l (r + 1) (next + n) (rw (row-after s r 1) at (agree-back row (row_bytes (next + n) l) (8 * length l) c)),
    )

-- ---- what stands one after another

rows_split : (s : List ℕ) (l m : List TypeNode) (at next : ℕ) → RowsAt s at next (l ++ m)
    → RowsAt s at next l × RowsAt s (at + length l) (next + children_in l) m
unfolding RowsAt children_in
rows_split s [] m at next h =
    let e : at + 0 ≡ at = omega arith in let f : next + 0 ≡ next = omega arith in
    (tt, rw (e, f) h)
rows_split s (type_node i a n ∷ l) m at next h =
    let p = rows_split s l m (at + 1) (next + n) h.1 in
    let e : at + suc (length l) ≡ at + 1 + length l = omega arith in
    let f : next + (n + children_in l) ≡ next + n + children_in l = omega arith in
    ((h.0, p.0), rw (e, f) p.1)

-- The n levels from the d-th on: each lies after those before it, and its children lie after it.
rows-levels : (s : List ℕ) (f : Types) (n d at : ℕ) → RowsAt s at (at + width d f) (levels_from n d f) → (j : ℕ) → j < n
    → RowsAt s (at + widths j d f) (at + widths (suc j) d f) (level_of (d + j) f)
unfolding levels_from
rows-levels s f zero d at h j l = absurd (omega arith)
rows-levels s f (suc n) d at h zero l =
    let p = rows_split s (level_of d f) (levels_from n (suc d) f) at (at + width d f) h in
    let x = widths-first 0 d f in let y = widths-none (suc d) f in
    let e : at + widths 0 d f ≡ at = omega (arith, widths-none d f) in
    let g : at + widths 1 d f ≡ at + width d f = omega arith in
    let q : d + 0 ≡ d = omega arith in
    rw (e, g, q) p.0
rows-levels s f (suc n) d at h (suc j) l =
    let p = rows_split s (level_of d f) (levels_from n (suc d) f) at (at + width d f) h in
    let w = next-width d f in
    let b : RowsAt s (at + width d f) (at + width d f + width (suc d) f) (levels_from n (suc d) f) = rw w at p.1 in
    let c = rows-levels s f n (suc d) (at + width d f) b j (omega arith) in
    let x = widths-first j d f in let y = widths-first (suc j) d f in
    let e : at + widths (suc j) d f ≡ at + width d f + widths j (suc d) f = omega arith in
    let g : at + widths (suc (suc j)) d f ≡ at + width d f + widths (suc j) (suc d) f = omega arith in
    let q : d + suc j ≡ suc d + j = omega arith in
    rw (e, g, q) c

-- ---- a forest in the rows

-- The d-th level of the forest stands from row ps d on, its children from the next level's row on, and all are before `limit`.
record Lies (s : List ℕ) (limit : ℕ) (ps : ℕ → ℕ) (f : Types) : Type 0 where
  rows : (d : ℕ) → RowsAt s (ps d) (ps (suc d)) (level_of d f)
  later : (d : ℕ) → ps d + width d f ≤ ps (suc d)
  inside : (d : ℕ) → ps d + width d f ≤ limit

-- Where the first tree's children stand, and where the trees after it do.
abbrev below : (ℕ → ℕ) → ℕ → ℕ
below ps d = ps (suc d)

after : (ℕ → ℕ) → Types → ℕ → ℕ
after ps k zero = ps 0 + 1
after ps k (suc d) = ps (suc d) + width d k

module _ {s : List ℕ} {limit : ℕ} {ps : ℕ → ℕ} {i : ℕ} {a : Mark} {k r : Types} (l : Lies s limit ps (node i a k r)) where
  lies-row : RowIs s (ps 0) i a (pick (eqb (root_count k) 0) 0 (ps 1)) (root_count k)
  unfolding level_of RowsAt
  lies-row = (l.rows 0).0

  lies-before : ps 0 < ps 1
  unfolding level_of
  lies-before = let h = l.later 0 in omega arith

  lies-below : Lies s limit (below ps) k
  unfolding level_of
  lies-below = record {
    rows = λ d. (rows_split s (level_of d k) (level_of (suc d) r) (ps (suc d)) (ps (suc (suc d))) (l.rows (suc d))).0;
    later = λ d. let h = l.later (suc d) in let w = width-below d i a k r in omega arith;
    inside = λ d. let h = l.inside (suc d) in let w = width-below d i a k r in omega arith;
  }

  lies-after : Lies s limit (after ps k) r
  unfolding level_of RowsAt after
  lies-after = record {
    rows = λ d. go-rows d;
    later = λ d. go-later d;
    inside = λ d. go-inside d;
  }
    where
      go-rows : (d : ℕ) → RowsAt s (after ps k d) (after ps k (suc d)) (level_of d r)
      go-rows zero = rw (first_width k) (l.rows 0).1
      go-rows (suc d) =
          rw (sym (next-width d k)) (rows_split s (level_of d k) (level_of (suc d) r) (ps (suc d)) (ps (suc (suc d))) (l.rows (suc d))).1

      go-later : (d : ℕ) → after ps k d + width d r ≤ after ps k (suc d)
      go-later zero = let h = l.later 0 in omega arith
      go-later (suc d) = let h = l.later (suc d) in let w = width-below d i a k r in omega arith

      go-inside : (d : ℕ) → after ps k d + width d r ≤ limit
      go-inside zero = let h = l.inside 0 in omega arith
      go-inside (suc d) = let h = l.inside (suc d) in let w = width-below d i a k r in omega arith

-- ---- what a row's children give

-- What a run of children gives that starts at `next`, and gives anywhere where it is empty.
same-run : {s : List ℕ} {q i : ℕ} {a : Mark} {A : Type 0} (F : ℕ → ℕ → A) (next n : ℕ) → ((x y : ℕ) → F x 0 ≡ F y 0)
    → RowIs s q i a (pick (eqb n 0) 0 next) n → F (first_child s q) (child_count s q) ≡ F next n
same-run F next zero e h = rw (h.first_row, h.counted) (e 0 next)
same-run F next (suc n) e h = rw (h.first_row, h.counted, eqb-suc-zero n) refl

no-levels : (k : Types) → levels k ≤ 0 → k ≡ end
unfolding measure
no-levels end h = refl
no-levels (node i a k r) h = absurd (omega arith)

mark-of : (s : List ℕ) (q i : ℕ) (a : Mark) (first n : ℕ) → RowIs s q i a first n → mark_of s q ≡ a
unfolding mark_of
mark-of s q i (mark true b) first n h = rw (h.card, h.basic_type) refl
mark-of s q i (mark false b) first n h = rw (h.card, h.basic_type) refl

-- Siblings in the rows are read back.
siblings-mean : (s : List ℕ) (limit : ℕ) (f : Types) (ps : ℕ → ℕ) (d : ℕ) → Lies s limit ps f → levels f ≤ suc d
    → siblings s (written_out s d) (ps 0) (root_count f) ≡ f
unfolding siblings written_out root_count measure after
siblings-mean s limit end ps d l h = refl
siblings-mean s limit (node i a k r) ps zero l h =
    rw (
      (lies-row l).id,
      mark-of s (ps 0) i a _ _ (lies-row l),
      siblings-mean s limit r (after ps k) zero (lies-after l) (omega arith),
      no-levels k (omega arith),
    ) refl
siblings-mean s limit (node i a k r) ps (suc d) l h =
    let e = same-run (siblings s (written_out s d)) (ps 1) (root_count k) (λ x y. refl) (lies-row l) in
    rw (
      (lies-row l).id,
      mark-of s (ps 0) i a _ _ (lies-row l),
      e,
      siblings-mean s limit k (below ps) d (lies-below l) (omega arith),
      siblings-mean s limit r (after ps k) (suc d) (lies-after l) (omega arith),
    ) refl

-- Their levels and nodes are those of the forest.
levels-mean : (s : List ℕ) (limit : ℕ) (f : Types) (ps : ℕ → ℕ) (d : ℕ) → Lies s limit ps f → levels f ≤ d
    → rows_all (levels_within s d) (ps 0) (root_count f) ≡ true
unfolding rows_all levels_within root_count measure after
levels-mean s limit end ps d l h = refl
levels-mean s limit (node i a k r) ps zero l h = absurd (omega arith)
levels-mean s limit (node i a k r) ps (suc d) l h =
    let e = same-run (rows_all (levels_within s d)) (ps 1) (root_count k) (λ x y. refl) (lies-row l) in
    both_true (e ∙ levels-mean s limit k (below ps) d (lies-below l) (omega arith))
    (levels-mean s limit r (after ps k) (suc d) (lies-after l) (omega arith))

nodes-mean : (s : List ℕ) (limit : ℕ) (f : Types) (ps : ℕ → ℕ) (d : ℕ) → Lies s limit ps f → levels f ≤ d
    → rows_sum (nodes_to s d) (ps 0) (root_count f) ≡ nodes f
unfolding rows_sum nodes_to root_count measure after
nodes-mean s limit end ps d l h = refl
nodes-mean s limit (node i a k r) ps zero l h = absurd (omega arith)
nodes-mean s limit (node i a k r) ps (suc d) l h =
    let e = same-run (rows_sum (nodes_to s d)) (ps 1) (root_count k) (λ x y. refl) (lies-row l) in
    let p = nodes-mean s limit k (below ps) d (lies-below l) (omega arith) in
    let q = nodes-mean s limit r (after ps k) (suc d) (lies-after l) (omega arith) in
    omega arith

-- ---- ids

-- "not 0".
positive-ids : (s : List ℕ) (limit : ℕ) (f : Types) (ps : ℕ → ℕ) → Lies s limit ps f → NodesShape f → (q : ℕ) → q < root_count f
    → 0 < type_id s (ps 0 + q)
unfolding root_count NodesShape after
positive-ids s limit end ps l h q z = absurd (omega arith)
positive-ids s limit (node i a k r) ps l h zero z =
    let e : ps 0 + 0 ≡ ps 0 = omega arith in rw (e, (lies-row l).id) h.0
positive-ids s limit (node i a k r) ps l h (suc q) z =
    let e : ps 0 + suc q ≡ ps 0 + 1 + q = omega arith in
    rw e (positive-ids s limit r (after ps k) (lies-after l) h.3 q (omega arith))

-- "ids rising strictly".
rising-ids : (s : List ℕ) (limit : ℕ) (f : Types) (ps : ℕ → ℕ) → Lies s limit ps f → Rising f → (q : ℕ) → suc q < root_count f
    → type_id s (ps 0 + q) < type_id s (ps 0 + suc q)
unfolding root_count Rising after
rising-ids s limit end ps l h q z = absurd (omega arith)
rising-ids s limit (node i a k end) ps l h zero z = absurd (omega arith)
rising-ids s limit (node i a k (node j b k2 r)) ps l h zero z =
    let e : ps 0 + 0 ≡ ps 0 = omega arith in
    rw (e, (lies-row l).id, (lies-row (lies-after l)).id) h.0
rising-ids s limit (node i a k r) ps l h (suc q) z =
    let e : ps 0 + suc q ≡ ps 0 + 1 + q = omega arith in
    let g : ps 0 + suc (suc q) ≡ ps 0 + 1 + suc q = omega arith in
    rw (e, g) (rising-ids s limit r (after ps k) (lies-after l) h.2 q (omega arith))

-- ---- the rules of a row, and its size

-- A forest in the rows that keeps what a type's children keep.
record Held (s : List ℕ) (limit : ℕ) (ps : ℕ → ℕ) (f : Types) : Type 0 where
  lies : Lies s limit ps f
  rising : Rising f
  shape : NodesShape f
  few_levels : levels f ≤ message_levels_below
  few_nodes : nodes f ≤ message_nodes_below

-- A row of T that breaks no rule of 4 and is within 5's limits.
record Sound (s : List ℕ) (q : ℕ) : Type 0 where
  unbroken : (p : ℕ) → TypeBreaks s q p → ⊥
  small : type_within s q ≡ true

module _ {s : List ℕ} {limit : ℕ} {ps : ℕ → ℕ} {k : Types} (h : Held s limit ps k) where
  id-rises : (j : ℕ) → ps 0 ≤ j → j < ps 0 + root_count k → id_before s (ps 0) j < type_id s j
  unfolding id_before
  id-rises j l u = go (eqb j (ps 0)) refl
    where
      go : (t : Bool) → eqb j (ps 0) ≡ t → pick t 0 (type_id s (j - 1)) < type_id s j
      go true e =
          let x = eq_of j (ps 0) e in let z : ps 0 + 0 ≡ j = omega arith in
          rw z at (positive-ids s limit k ps h.lies h.shape 0 (omega arith))
      go false e =
          let x : j ≡ ps 0 → ⊥ = λ g. clash (of_eq j (ps 0) g) e in
          let y : ps 0 + (j - 1 - ps 0) ≡ j - 1 = omega arith in
          let z : ps 0 + suc (j - 1 - ps 0) ≡ j = omega arith in
          rw (y, z) at (rising-ids s limit k ps h.lies h.rising (j - 1 - ps 0) (omega arith))

  child-rule : (j n : ℕ) → n ≡ root_count k
      → not (in_run (pick (eqb n 0) 0 (ps 0)) n j) || ltb (id_before s (pick (eqb n 0) 0 (ps 0)) j) (type_id s j) ≡ true
  child-rule j zero e = go (in_run 0 0 j) refl
    where
      go : (t : Bool) → in_run 0 0 j ≡ t → not t || ltb (id_before s 0 j) (type_id s j) ≡ true
      go true g = let x = and-of (leb 0 j) (ltb j (0 + 0)) g in let y = lt_of j (0 + 0) x.1 in absurd (omega arith)
      go false g = refl
  child-rule j (suc n) e = rw (eqb-suc-zero n) (go (in_run (ps 0) (suc n) j) refl)
    where
      go : (t : Bool) → in_run (ps 0) (suc n) j ≡ t → not t || ltb (id_before s (ps 0) j) (type_id s j) ≡ true
      go true g =
          let x = and-of (leb (ps 0) j) (ltb j (ps 0 + suc n)) g in
          let y = le_of (ps 0) j x.0 in let z = lt_of j (ps 0 + suc n) x.1 in
          of_lt (id_before s (ps 0) j) (type_id s j) (id-rises j y (omega arith))
      go false g = refl

fit-run : (s : List ℕ) (q next n : ℕ) → q < next → next + n ≤ type_count s → children_fit s q (pick (eqb n 0) 0 next) n ≡ true
unfolding children_fit later_run
fit-run s q next zero l u = refl
fit-run s q next (suc n) l u = rw (eqb-suc-zero n) (both_true (of_lt q next l) (of_le (next + suc n) (type_count s) u))

card-small : (m : Bool) → pick m 1 0 ≤ 1
card-small true = omega arith
card-small false = omega arith

sound-row : (s : List ℕ) (limit : ℕ) → limit ≤ type_count s → (q i : ℕ) (a : Mark) (k : Types) (ps : ℕ → ℕ)
    → RowIs s q i a (pick (eqb (root_count k) 0) 0 (ps 0)) (root_count k) → q < ps 0 → basic a ≤ last_basic → Held s limit ps k → Sound s q
unfolding type_within levels_within nodes_to rows_all rows_sum
sound-row s limit b q i a k ps row l ba h = record {
  unbroken = λ p x. go p x;
  small =
      both_true
      (same-run (rows_all (levels_within s 3)) (ps 0) (root_count k) (λ x y. refl) row ∙ levels-mean s limit k ps 3 h.lies h.few_levels)
      (let e = same-run (rows_sum (nodes_to s 3)) (ps 0) (root_count k) (λ x y. refl) row in
      let f = nodes-mean s limit k ps 3 h.lies h.few_levels in let g = h.few_nodes in
      of_le (suc (rows_sum (nodes_to s 3) (first_child s q) (child_count s q))) 16 (omega arith));
}
  where
    go : (p : ℕ) → TypeBreaks s q p → ⊥
    go p (type_cardinality e) = clash (of_le (cardinality s q) 1 (rw row.card (card-small (mandatory a)))) e
    go p (type_basic_type e) = clash (of_le (type_basic s q) last_basic (rw row.basic_type ba)) e
    go p (type_children e) =
        let w = first_width k in let v = h.lies.inside 0 in
        clash (rw (row.first_row, row.counted) (fit-run s q (ps 0) (root_count k) l (omega arith))) e
    go p (child_id j u e) = clash (rw (row.first_row, row.counted) (child-rule h j (root_count k) refl)) e

module _ {s : List ℕ} {limit : ℕ} {ps : ℕ → ℕ} {i : ℕ} {a : Mark} {k r : Types} (h : Held s limit ps (node i a k r)) where
  held_below : Held s limit (below ps) k
  unfolding Rising NodesShape measure
  held_below = record {
    lies = lies-below h.lies;
    rising = h.rising.1;
    shape = h.shape.2;
    few_levels = let e = h.few_levels in omega arith;
    few_nodes = let e = h.few_nodes in omega arith;
  }

  held_after : Held s limit (after ps k) r
  unfolding Rising NodesShape measure
  held_after = record {
    lies = lies-after h.lies;
    rising = h.rising.2;
    shape = h.shape.3;
    few_levels = let e = h.few_levels in omega arith;
    few_nodes = let e = h.few_nodes in omega arith;
  }

-- Every row of a forest.
each_row : (s : List ℕ) (limit : ℕ) → limit ≤ type_count s → (f : Types) (ps : ℕ → ℕ) → Held s limit ps f → (d q : ℕ) → q < width d f
    → Sound s (ps d + q)
unfolding level_of after NodesShape
each_row s limit b end ps h d q l = absurd (omega arith)
each_row s limit b (node i a k r) ps h zero zero l =
    let e : ps 0 + 0 ≡ ps 0 = omega arith in
    rw e (sound-row s limit b (ps 0) i a k (below ps) (lies-row h.lies) (lies-before h.lies) h.shape.1 (held_below h))
each_row s limit b (node i a k r) ps h zero (suc q) l =
    let e : ps 0 + suc q ≡ ps 0 + 1 + q = omega arith in
    rw e (each_row s limit b r (after ps k) (held_after h) 0 q (omega arith))
each_row s limit b (node i a k r) ps h (suc d) q l =
    go (ltb q (width d k)) refl (λ u. each_row s limit b k (below ps) (held_below h) d q u)
    (λ v u. each_row s limit b r (after ps k) (held_after h) (suc d) v u)
  where
    go : (t : Bool) → ltb q (width d k) ≡ t → (q < width d k → Sound s (ps (suc d) + q))
        → ((v : ℕ) → v < width (suc d) r → Sound s (ps (suc d) + width d k + v)) → Sound s (ps (suc d) + q)
    go true e f g = f (lt_of q (width d k) e)
    go false e f g =
        let u = lt_not q (width d k) e in let w = width-below d i a k r in
        let z : ps (suc d) + width d k + (q - width d k) ≡ ps (suc d) + q = omega arith in
        rw z at (g (q - width d k) (omega arith))

-- ---- a type in the rows

-- Where the levels of a forest stand whose first row is `at`.
starts : ℕ → Types → ℕ → ℕ
starts at k zero = at
starts at k (suc d) = starts at k d + width d k

starts-are : (at : ℕ) (k : Types) (d : ℕ) → starts at k d ≡ at + widths d 0 k
unfolding starts
starts-are at k zero = let e = widths-none 0 k in omega arith
starts-are at k (suc d) = let h = starts-are at k d in let e = widths-next d k in omega arith

type-lies : (s : List ℕ) (limit at : ℕ) (k : Types) → RowsAt s at (at + root_count k) (levels_from (levels k) 0 k) → at + nodes k ≤ limit
    → Lies s limit (starts at k) k
unfolding starts RowsAt
type-lies s limit at k h u = record {
  rows = λ d. go d (ltb d (levels k)) refl;
  later = λ d. omega arith;
  inside = λ d. let e = starts-are at k (suc d) in let f = widths-few k (suc d) in omega arith;
}
  where
    go : (d : ℕ) (t : Bool) → ltb d (levels k) ≡ t → RowsAt s (starts at k d) (starts at k (suc d)) (level_of d k)
    go d true e =
        let w : root_count k ≡ width 0 k = sym (first_width k) in
        let z : 0 + d ≡ d = omega arith in
        let y : at + widths d 0 k + width d k ≡ at + widths (suc d) 0 k = omega (arith, widths-next d k) in
        let x = rows-levels s k (levels k) 0 at (rw w at h) d (lt_of d (levels k) e) in
        rw (starts-are at k d, y) (rw z at x)
    go d false e = rw (level-past k d (lt_not d (levels k) e)) tt

-- Eight bytes a row.
bytes-length : (l : List TypeNode) (next : ℕ) → length (row_bytes next l) ≡ 8 * length l
unfolding row_bytes
bytes-length [] next = refl
bytes-length (type_node i (mark m b) n ∷ l) next = let h = bytes-length l (next + n) in omega arith

pub rows-length : (r : ℕ) (ts : List MessageType) → length (type_rows_from r ts) ≡ 8 * row_count ts
unfolding type_rows_from row_count
rows-length r [] = refl
rows-length r (t ∷ l) =
    let a = bytes-length (by_levels t) (r + 1) in let b = type-length t in let c = rows-length (r + rows_in t) l in
    let e = length-append (row_bytes (r + 1) (by_levels t)) (type_rows_from (r + rows_in t) l) in omega arith

-- The rows of one of the types from row r on.
rows-type : (s : List ℕ) (before : List MessageType) (t : MessageType) (later : List MessageType) (r : ℕ)
    → Agree s (type_at s r) (type_rows_from r (before ++ (t ∷ later))) 0 (8 * row_count (before ++ (t ∷ later)))
    → RowsAt s (r + row_count before) (r + row_count before + 1) (by_levels t)
unfolding type_rows_from row_count
rows-type s [] t later r a =
    let row : List ℕ = row_bytes (r + 1) (by_levels t) in
    let n = bytes-length (by_levels t) (r + 1) in let m = type-length t in
    let e : 8 * (rows_in t + row_count later) ≡ length row + 8 * row_count later = omega arith in
    let z : r + 0 ≡ r = omega arith in
    let c = agree-front row (type_rows_from (r + rows_in t) later) (8 * row_count later) (rw e at a) in
    rw z (rows-bytes s (by_levels t) r (r + 1) (rw n at c))
rows-type s (u ∷ before) t later r a =
    let row : List ℕ = row_bytes (r + 1) (by_levels u) in
    let n = bytes-length (by_levels u) (r + 1) in let m = type-length u in
    let v : ℕ = row_count (before ++ (t ∷ later)) in
    let e : 8 * (rows_in u + v) ≡ length row + 8 * v = omega arith in
    let c = agree-back row (type_rows_from (r + rows_in u) (before ++ (t ∷ later))) (8 * v) (rw e at a) in
    let z : type_at s r + length row ≡ type_at s (r + rows_in u) = rw (n, m) (row-after s r (rows_in u)) in
    let q : r + (rows_in u + row_count before) ≡ r + rows_in u + row_count before = omega arith in
    rw q (rows-type s before t later (r + rows_in u) (rw z at c))

-- ---- the rows of a file

small-type : (a : Mark) (k : Types) → Small (tree a k) → (nodes k ≤ message_nodes_below) × (levels k ≤ message_levels_below)
unfolding is_too_large
small-type a k h =
    let p = neither {a = ltb message_nodes_below (nodes k)} h in
    (lt_not message_nodes_below (nodes k) p.0, lt_not message_levels_below (levels k) p.1)

count-split : (before : List MessageType) (t : MessageType) (later : List MessageType)
    → row_count (before ++ (t ∷ later)) ≡ row_count before + (rows_in t + row_count later)
unfolding row_count
count-split [] t later = omega arith
count-split (u ∷ before) t later = let h = count-split before t later in omega arith

pub each-split : (P : MessageType → Type 0) (before : List MessageType) (t : MessageType) (later : List MessageType)
    → EachType P (before ++ (t ∷ later)) → P t
unfolding EachType
each-split P [] t later h = h.0
each-split P (u ∷ before) t later h = each-split P before t later h.1

module _ (s : List ℕ) (ts : List MessageType) (w : TypeRowsOf s ts) where
  section-bytes : Agree s (type_at s 0) (type_rows_from 0 ts) 0 (8 * row_count ts)
  section-bytes = record { bytes = λ k h. let e : 0 + k ≡ k = omega arith in w.bytes k h ∙ ap (byte_at (type_rows_from 0 ts)) (sym e) }

  section-type : (before : List MessageType) (t : MessageType) (later : List MessageType) → ts ≡ before ++ (t ∷ later)
      → RowsAt s (row_count before) (row_count before + 1) (by_levels t)
  section-type before t later e =
      let z : 0 + row_count before ≡ row_count before = omega arith in
      rw z at (rows-type s before t later 0 (rw e at section-bytes))

  section-end : (before : List MessageType) (t : MessageType) (later : List MessageType) → ts ≡ before ++ (t ∷ later)
      → row_count before + rows_in t ≤ type_count s
  section-end before t later e =
      let c = count-split before t later in let f : row_count ts ≡ row_count (before ++ (t ∷ later)) = ap row_count e in
      let g = w.rows in omega arith

  root-row : (before : List MessageType) (a : Mark) (k : Types) (later : List MessageType) → ts ≡ before ++ (tree a k ∷ later)
      → RowIs s (row_count before) 0 a (pick (eqb (root_count k) 0) 0 (row_count before + 1)) (root_count k)
  unfolding by_levels RowsAt
  root-row before a k later e = (section-type before (tree a k) later e).0

  root-lies : (before : List MessageType) (a : Mark) (k : Types) (later : List MessageType) → ts ≡ before ++ (tree a k ∷ later)
      → Lies s (type_count s) (starts (row_count before + 1) k) k
  unfolding by_levels RowsAt rows_in
  root-lies before a k later e =
      let h = section-end before (tree a k) later e in
      type-lies s (type_count s) (row_count before + 1) k (section-type before (tree a k) later e).1 (omega arith)

  -- The row of each type, read back, is the type.
  pub rows-mean : (before : List MessageType) (t : MessageType) (later : List MessageType) → ts ≡ before ++ (t ∷ later) → Small t
      → type_of s (row_count before) ≡ t
  unfolding written_out siblings starts
  rows-mean before (tree a k) later e h =
      let row = root-row before a k later e in
      let x = same-run (siblings s (written_out s 3)) (row_count before + 1) (root_count k) (λ x y. refl) row in
      let y = siblings-mean s (type_count s) k (starts (row_count before + 1) k) 3 (root-lies before a k later e)
      (let z = (small-type a k h).1 in omega arith) in
      rw (mark-of s (row_count before) 0 a _ _ row, x, y) refl

  -- The row of each type is a message type's root.
  pub rows-root : (before : List MessageType) (t : MessageType) (later : List MessageType) → ts ≡ before ++ (t ∷ later) → WellRanged t
      → root_fits s (row_count before) ≡ true
  unfolding root_fits rows_in
  rows-root before (tree a k) later e h =
      let row = root-row before a k later e in let u = section-end before (tree a k) later e in
      both_true (of_lt (row_count before) (type_count s) (omega arith))
      (both_true (of_eq (type_id s (row_count before)) 0 row.id)
      (of_eq (cardinality s (row_count before)) 1 (row.card ∙ ap (λ (m : Bool). pick m 1 0) h.mandatory_root)))

-- The type whose rows a row is among.
record Owner (ts : List MessageType) (r : ℕ) : Type 0 where
  before : List MessageType
  type : MessageType
  later : List MessageType
  split : ts ≡ before ++ (type ∷ later)
  from : row_count before ≤ r
  to : r < row_count before + rows_in type

owner : (ts : List MessageType) (r : ℕ) → r < row_count ts → Owner ts r
unfolding row_count
owner [] r h = absurd (omega arith)
owner (t ∷ l) r h = go (ltb r (rows_in t)) refl (λ u. owner l (r - rows_in t) u)
  where
    go : (b : Bool) → ltb r (rows_in t) ≡ b → (r - rows_in t < row_count l → Owner l (r - rows_in t)) → Owner (t ∷ l) r
    go true e ih =
        let x = lt_of r (rows_in t) e in record { before = []; type = t; later = l; split = refl; from = omega arith; to = omega arith }
    go false e ih =
        let x = lt_not r (rows_in t) e in let o = ih (omega arith) in let f = o.from in let g = o.to in
        record {
          before = t ∷ o.before;
          type = o.type;
          later = o.later;
          split = ap (λ (m : List MessageType). t ∷ m) o.split;
          from = omega arith;
          to = omega arith;
        }

module _ (s : List ℕ) (ts : List MessageType) (w : TypeRowsOf s ts) (ranged : EachType WellRanged ts) (small : EachType Small ts) where
  type-sound : (before : List MessageType) (t : MessageType) (later : List MessageType) → ts ≡ before ++ (t ∷ later)
      → (r : ℕ) → row_count before ≤ r → r < row_count before + rows_in t → Sound s r
  unfolding rows_in starts
  type-sound before (tree a k) later e r l u = go (eqb r (row_count before)) refl
    where
      at : ℕ
      at = row_count before + 1

      ok : WellRanged (tree a k)
      ok = each-split WellRanged before (tree a k) later (rw e at ranged)

      few : (nodes k ≤ message_nodes_below) × (levels k ≤ message_levels_below)
      few = small-type a k (each-split Small before (tree a k) later (rw e at small))

      held : Held s (type_count s) (starts at k) k
      held = record {
        lies = root-lies s ts w before a k later e;
        rising = ok.rising;
        shape = ok.each_node.1;
        few_levels = few.1;
        few_nodes = few.0;
      }

      go : (t : Bool) → eqb r (row_count before) ≡ t → Sound s r
      go true f =
          rw (eq_of r (row_count before) f)
          (sound-row s (type_count s) (omega arith) (row_count before) 0 a k (starts at k) (root-row s ts w before a k later e) (omega arith)
          ok.each_node.0 held)
      go false f =
          let x : r ≡ row_count before → ⊥ = λ g. clash (of_eq r (row_count before) g) f in
          let p = level-place k (levels k) (r - at) (let v = widths-all k (levels k) (omega arith) in omega arith) in
          let y = starts-are at k p.level in let v = p.among in
          let z : starts at k p.level + p.rank ≡ r = omega arith in
          rw z at (each_row s (type_count s) (omega arith) k (starts at k) held p.level p.rank p.there)

  row-sound : (r : ℕ) → r < type_count s → Sound s r
  row-sound r h =
      let g = w.rows in let o = owner ts r (omega arith) in
      type-sound o.before o.type o.later o.split r o.from o.to

  -- No rule of 4 on T is broken.
  pub rows-keep-rules : (r p : ℕ) → r < type_count s → TypeBreaks s r p → ⊥
  rows-keep-rules r p h b = (row-sound r h).unbroken p b

  -- Nor is a row too large.
  pub rows-small : (r : ℕ) → r < type_count s → type_within s r ≡ true
  rows-small r h = (row-sound r h).small
