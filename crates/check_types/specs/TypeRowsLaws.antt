-- Laws of T rows as types: in a file that none of 2 to 5 refuses a run of rows is its first row's type before the others.
use Rattle.std.specs.Prelude.{◌≡◌, refl, List, Bool, true, false, ℕ, zero, suc, ◌+◌, ◌-◌, ◌≤◌, ◌<◌, eqb, ltb}
use Rattle.std.proofs.Common.{ap, sym, ◌∙◌, arith, lt-ltb, ltb-true, eqb-true}
use Rattle.std.proofs.lemmas.Bool.{eqb-false}
use Rattle.tree_forest.specs.Forest.{end, node, Tree, tree, node_of, RisingTree, nodes, levels}
use Rattle.basics.specs.Choice.{pick}
use Rattle.network_syntax.specs.Syntax.{Mark, mark, Types}
use Rattle.network.specs.Form as form
use Rattle.network.specs.Layout.{type_at, type_count}
use Rattle.network.specs.Rows.{type_id, cardinality, type_basic, first_child, child_count}
use Rattle.network.proofs.RowLaws.{type-kept}
use Rattle.network.specs.Decode.{mark_of, siblings, written_out, type_of}
use Rattle.network.specs.Shapes.{NodesShape, TypeShape}
use Rattle.network.proofs.DecodeLaws.{type-row, type-shape}
use Rattle.wire.specs.Wire.{u16_at}
use Rattle.tree.specs.Encode.{Octets, WellFormedTree}
use Rattle.check_subtyping.specs.Subtype.{root_basic, root_children}
use Rattle.scalar.specs.Basic.{last_basic}
use Rattle.check_types.specs.Image.{InRange, type_tree}
use Rattle.check_types.specs.ImageLaws.{image-well-formed}
use Rattle.check_types.specs.TypeRows.{row_types, line_with, line_of}
use Rattle.check_types.specs.declared.Line.{Line}
use Rattle.std.specs.Prelude.{Option, Some, None}
use Rattle.check_types.specs.TypeRows.{row_line}

-- ---- a row that is read goes to later rows

same-line : {x y : Line} → Some x ≡ Some y → x ≡ y
same-line e = cc

pub record Ahead (file : List ℕ) (r first next : ℕ) : Type 0 where
  pub inside : r < type_count file
  pub later : r < first
  pub after : next ≡ r + 1

ahead-by : (file : List ℕ) (r i : ℕ) (m : Bool) (b first c next : ℕ) (x y z : Bool) → ltb r (type_count file) ≡ x → ltb r (first_child file r) ≡ z →
    pick x (pick y (line_with file r (r + 1) 0) (pick z (line_with file r (first_child file r) (child_count file r)) None)) None ≡ Some (row_line i m b first c next) →
    Ahead file r first next
ahead-by file r i m b first c next false y z p w e = let o : ◌≡◌ {A = ℕ} 0 1 = cc in absurd (omega arith)
ahead-by file r i m b first c next true true z p w e =
    let h = same-line e in
    let o : r + 1 ≡ first = ap (λ (z : Line). z.first) h in
    let q : r + 1 ≡ next = ap (λ (z : Line). z.next) h in
    record { inside = ltb-true r (type_count file) p; later = omega arith; after = sym q }
ahead-by file r i m b first c next true false true p w e =
    let h = same-line e in
    let o : first_child file r ≡ first = ap (λ (z : Line). z.first) h in
    let q : r + 1 ≡ next = ap (λ (z : Line). z.next) h in
    let l = ltb-true r (first_child file r) w in
    record { inside = ltb-true r (type_count file) p; later = omega arith; after = sym q }
ahead-by file r i m b first c next true false false p w e = let o : ◌≡◌ {A = ℕ} 0 1 = cc in absurd (omega arith)

pub ahead : (file : List ℕ) (r i : ℕ) (m : Bool) (b first c next : ℕ) (l : Option Line) → l ≡ line_of file r → l ≡ Some (row_line i m b first c next) → Ahead file r first next
unfolding line_of
ahead file r i m b first c next l p q =
    ahead-by file r i m b first c next (ltb r (type_count file)) (eqb (child_count file r) 0) (ltb r (first_child file r)) refl refl (sym p ∙ q)

-- ---- a row of a file that none of 2 to 5 refuses

pub record LineKept (file : List ℕ) (r : ℕ) : Type 0 where
  pub first : ℕ
  pub many : ℕ
  pub is : line_of file r ≡ line_with file r first many
  pub same : row_types file (first_child file r) (child_count file r) ≡ row_types file first many
  pub inside : first + many ≤ type_count file

pub line_kept : (file : List ℕ) → form.WellFormed file → (r : ℕ) → r < type_count file → LineKept file r
unfolding line_of siblings
line_kept file w r l = by (eqb (child_count file r) 0) refl
  where
    by : (t : Bool) → eqb (child_count file r) 0 ≡ t → LineKept file r
    by true e =
        let z = eqb-true (child_count file r) 0 e in
        record {
          first = r + 1;
          many = 0;
          is = rw (lt-ltb r (type_count file) l, e) refl;
          same = rw z refl;
          inside = omega arith;
        }
    by false e =
        let k = type-kept file w r l in
        let ne = eqb-false (child_count file r) 0 e in
        record {
          first = first_child file r;
          many = child_count file r;
          is = rw (lt-ltb r (type_count file) l, e, lt-ltb r (first_child file r) (k.later ne)) refl;
          same = refl;
          inside = k.fit ne;
        }

-- ---- what the types of rows begin with

pub record RowMet (file : List ℕ) (r n j : ℕ) (g : Bool) (c first l next : ℕ) : Type 0 where
  pub whole : row_types file r n ≡ node j (mark g c) (row_types file first l) (row_types file next (n - 1))
  pub below : first + l ≤ type_count file
  pub others : next + (n - 1) ≤ type_count file

node-as : (i : ℕ) (t : Tree Mark) (a : Mark) (k r : Types) → t ≡ tree a k → node_of i t r ≡ node i a k r
node-as i t a k r e = rw e refl

run-as : (file : List ℕ) → form.WellFormed file → (r k : ℕ) → r < type_count file →
    row_types file r (suc k)
    ≡ node (type_id file r) (mark (eqb (cardinality file r) 1) (type_basic file r)) (row_types file (first_child file r) (child_count file r))
    (row_types file (r + 1) k)
unfolding siblings mark_of
run-as file w r k l =
    node-as (type_id file r) (type_of file r) (mark_of file r) (row_types file (first_child file r) (child_count file r)) (row_types file (r + 1) k)
    (type-row file w r l)

same-node : {i j : ℕ} {a b : Mark} {k l r s : Types} → i ≡ j → a ≡ b → k ≡ l → r ≡ s → node i a k r ≡ node j b l s
same-node p q u v = cc

pub met : (file : List ℕ) (r n : ℕ) → form.WellFormed file → r + n ≤ type_count file → (n ≡ 0 → ⊥) → (h : Option Line) (j : ℕ) (g : Bool) (c first l next : ℕ) →
    h ≡ line_of file r → h ≡ Some (row_line j g c first l next) → RowMet file r n j g c first l next
met file r n w le z h j g c first l next p q = by n refl
  where
    by : (k : ℕ) → n ≡ k → RowMet file r n j g c first l next
    by zero e = absurd (z e)
    by (suc k) e =
        let y = line_kept file w r (omega arith) in
        let v : line_with file r y.first y.many ≡ Some (row_line j g c first l next) = sym y.is ∙ sym p ∙ q in
        let h' = same-line v in
        let v1 : type_id file r ≡ j = ap (λ (z : Line). z.id) h' in
        let v2 : mark (eqb (cardinality file r) 1) (type_basic file r) ≡ mark g c = ap (λ (z : Line). mark z.mandatory z.basic) h' in
        let v3 : y.first ≡ first = ap (λ (z : Line). z.first) h' in
        let v4 : y.many ≡ l = ap (λ (z : Line). z.count) h' in
        let v5 : r + 1 ≡ next = ap (λ (z : Line). z.next) h' in
        let v6 : k ≡ n - 1 = omega arith in
        let v7 : row_types file y.first y.many ≡ row_types file first l = cc in
        let v8 : row_types file (r + 1) k ≡ row_types file next (n - 1) = cc in
        record {
          whole = ap (row_types file r) e ∙ run-as file w r k (omega arith) ∙ same-node v1 v2 (y.same ∙ v7) v8;
          below = let u = y.inside in omega arith;
          others = omega arith;
        }

pub unmet : {A : Type 0} (file : List ℕ) (r n : ℕ) → form.WellFormed file → r + n ≤ type_count file → (n ≡ 0 → ⊥) →
    (h : Option Line) → h ≡ line_of file r → h ≡ None → A
unmet file r n w le z h p q =
    let pos : 0 < n = positive n z in
    let y = line_kept file w r (omega arith) in
    let v : None ≡ line_with file r y.first y.many = sym q ∙ p ∙ y.is in
    let o : ◌≡◌ {A = ℕ} 0 1 = cc in absurd (omega arith)
  where
    positive : (k : ℕ) → (k ≡ 0 → ⊥) → 0 < k
    positive zero f = absurd (f refl)
    positive (suc k) f = omega arith

-- one row
pub record One (file : List ℕ) (r c first l : ℕ) : Type 0 where
  pub cardinal : Bool
  pub type : type_of file r ≡ tree (mark cardinal c) (row_types file first l)
  pub below : first + l ≤ type_count file

pub one-row : (file : List ℕ) (r : ℕ) → form.WellFormed file → r < type_count file → (h : Option Line) (j : ℕ) (g : Bool) (c first l next : ℕ) →
    h ≡ line_of file r → h ≡ Some (row_line j g c first l next) → One file r c first l
unfolding mark_of
one-row file r w le h j g c first l next p q =
    let y = line_kept file w r le in
    let v : line_with file r y.first y.many ≡ Some (row_line j g c first l next) = sym y.is ∙ sym p ∙ q in
    let h' = same-line v in
    let v2 : mark (eqb (cardinality file r) 1) (type_basic file r) ≡ mark g c = ap (λ (z : Line). mark z.mandatory z.basic) h' in
    let v3 : y.first ≡ first = ap (λ (z : Line). z.first) h' in
    let v4 : y.many ≡ l = ap (λ (z : Line). z.count) h' in
    let v7 : row_types file y.first y.many ≡ row_types file first l = cc in
    record { cardinal = g; type = type-row file w r le ∙ same-tree v2 (y.same ∙ v7); below = let u = y.inside in omega arith }
  where
    same-tree : {a b : Mark} {k l : Types} → a ≡ b → k ≡ l → tree a k ≡ tree b l
    same-tree p q = cc

pub no-row : {A : Type 0} (file : List ℕ) (r : ℕ) → form.WellFormed file → r < type_count file → (h : Option Line) → h ≡ line_of file r → h ≡ None → A
no-row file r w le h p q = unmet file r 1 w (omega arith) (λ z. omega arith) h p q

-- ---- types of rows in range

unfoldable Small : Types → Type 0
Small end = Unit {0}
Small (node i a k r) = (i < 65536) × Small k × Small r

abbrev SmallTree : Tree Mark → Type 0
SmallTree (tree a k) = Small k

small-node : (i : ℕ) (t : Tree Mark) (r : Types) → i < 65536 → SmallTree t → Small r → Small (node_of i t r)
unfolding Small
small-node i (tree a k) r p q w = (p, q, w)

small-run : (file : List ℕ) → Octets file → (f : ℕ → Tree Mark) → ((j : ℕ) → SmallTree (f j)) → (n first : ℕ) → Small (siblings file f first n)
unfolding Small siblings type_id u16_at
small-run file o f h zero first = tt
small-run file o f h (suc n) first =
    small-node (type_id file first) (f first) (siblings file f (first + 1) n) (omega (arith, o.small (type_at file first), o.small (type_at file first + 1)))
    (h first) (small-run file o f h n (first + 1))

small-written : (file : List ℕ) → Octets file → (d r : ℕ) → SmallTree (written_out file d r)
unfolding written_out Small
small-written file o zero r = tt
small-written file o (suc d) r = small-run file o (written_out file d) (small-written file o d) (child_count file r) (first_child file r)

range-of : (f : Types) → NodesShape f → Small f → InRange f
unfolding NodesShape Small InRange
range-of end p q = tt
range-of (node i (mark m b) k r) p q = (p.0, q.0, p.1, range-of k p.2 q.1, range-of r p.3 q.2)

-- what a T row of a file that none of 2 to 5 refuses keeps to
pub record TypeKeeps (t : Tree Mark) : Type 0 where
  pub basic : root_basic t ≤ last_basic
  pub rising : RisingTree t
  pub ranged : InRange (root_children t)
  pub shallow : levels (root_children t) ≤ 3
  pub few : nodes (root_children t) ≤ 15

keeps-of : (t : Tree Mark) → TypeShape t → SmallTree t → TypeKeeps t
keeps-of (tree (mark m b) k) w s = record {
  basic = w.each_node.0;
  rising = w.rising;
  ranged = range-of k w.each_node.1 s;
  shallow = let f = w.few_levels in omega arith;
  few = let f = w.few_nodes in omega arith;
}

pub type-keeps : (file : List ℕ) → Octets file → form.WellFormed file → (r : ℕ) → r < type_count file → TypeKeeps (type_of file r)
type-keeps file o w r l = keeps-of (type_of file r) (type-shape file w r l) (small-written file o 4 r)

tree-well-formed : (t : Tree Mark) → TypeKeeps t → WellFormedTree 3 15 (type_tree t)
tree-well-formed (tree (mark m b) k) h = image-well-formed 3 15 true b k h.basic h.rising h.ranged h.shallow h.few

pub type-well-formed : (file : List ℕ) → Octets file → form.WellFormed file → (r : ℕ) → r < type_count file → WellFormedTree 3 15 (type_tree (type_of file r))
type-well-formed file o w r l = tree-well-formed (type_of file r) (type-keeps file o w r l)
