-- Laws of making a declaration's type: a known type's image, a child's part in a list, and what a reading that went well was made of.
use Rattle.std.specs.Prelude.{◌≡◌, refl, Bool, not, ◌&&◌, ◌||◌}
use Rattle.std.proofs.Common.{sym, ◌∙◌, ap, arith}
use mathlib.Core.List.{List, [], ◌∷◌}
use Rattle.std.proofs.Math.Bool.{true, false}
use Prim.Native.Nat.{ℕ, zero, suc, ◌+◌, ◌*◌}
use Rattle.basics.specs.Choice.{pick}
use Rattle.basics.specs.TestLaws.{apart, true-false, and-of, not-true}
use Rattle.wire.specs.Wire.{u16_at}
use Rattle.tree_forest.specs.Forest.{Tree, tree, set, nodes, levels}
use Rattle.tree.specs.Encode.{children}
use Rattle.network_syntax.specs.Syntax.{Mark, Types}
use Rattle.check_subtyping.specs.Subtype.{root_children}
use Rattle.type_text.specs.Spelling.{word, dot, closing}
use Rattle.type_text.specs.Grammar.{same_word, among, is_name, Children}
use Rattle.type_text.specs.Meaning.{id_of, NamedType, named_type, type_named, forest_from}
use Rattle.type_text.specs.Reader.{Item, token, Reading, parsed, offends, read_then, next_is, after_next, next_place, Side, inline, reference, child_of}
use Rattle.type_text.specs.Reader.{read_side, read_children}
use Rattle.type_reading.specs.Tables.{word_from, declared_names, known_at}
use Rattle.type_reading.specs.Readings.{through_colon, after_colon, closed}
use Rattle.type_reading.specs.PieceLaws.{children-unnamed, children-named}
use Rattle.type_rows.specs.MeaningLaws.{ProperList, FreshFor, fresh_set, nodes-set, levels-set, forest-grown}
use Rattle.type_trees.specs.Builds.{ImageAt, KnownImages, side_type, ProperSide, LimitsKept}

-- ---- known types

module _ (s table images w : List ℕ) where
  pub known-image : (n : ℕ) (known : List NamedType) → KnownImages s table images n known → among w (declared_names s table n) ≡ true
      → ImageAt images (known_at 4 s table n w) (known_at 2 s table n w) (type_named known w)
  unfolding KnownImages declared_names known_at type_named among
  known-image zero [] h e = apart e
  known-image zero (x ∷ known) h e = absurd h
  known-image (suc n) [] h e = absurd h
  known-image (suc n) (named_type v t ∷ known) h e =
      go (same_word w (word_from s (u16_at table (6 * n)))) (same_word w v) (ap (same_word w) h.0) e (known-image n known h.2)
    where
      go : (a b : Bool) → a ≡ b → a || among w (declared_names s table n) ≡ true
          → (among w (declared_names s table n) ≡ true → ImageAt images (known_at 4 s table n w) (known_at 2 s table n w) (type_named known w))
          → ImageAt images (pick a (u16_at table (6 * n + 4)) (known_at 4 s table n w)) (pick a (u16_at table (6 * n + 2)) (known_at 2 s table n w))
          (pick b t (type_named known w))
      go true true p q ih = h.1
      go true false p q ih = true-false p
      go false true p q ih = apart p
      go false false p q ih = ih q

-- ---- a child of a list

pub forest-child : (ids : List (List ℕ)) (known : List NamedType) (k : Types) (w : List ℕ) (m : Bool) (side : Side) (d : Children)
    → forest_from ids known k (child_of w m side d) ≡ forest_from ids known (set (id_of ids w) (side_type ids known m side) k) d
unfolding forest_from
forest-child ids known k w m (inline b c) d = refl
forest-child ids known k w m (reference t) d = refl

pub record ProperChild (ids seen : List (List ℕ)) (w : List ℕ) (side : Side) (d : Children) : Type 0 where
  pub named : among w ids ≡ true
  pub new : among w seen ≡ false
  pub own : ProperSide ids side
  pub others : ProperList ids (w ∷ seen) d

pub proper-child : (ids seen : List (List ℕ)) (w : List ℕ) (m : Bool) (side : Side) (d : Children) → ProperList ids seen (child_of w m side d)
    → ProperChild ids seen w side d
unfolding ProperList
proper-child ids seen w m (inline b c) d h = record { named = h.0; new = h.1; own = (h.2, h.3); others = h.4 }
proper-child ids seen w m (reference t) d h = record { named = h.0; new = h.1; own = tt; others = h.2 }

kids : (t : Tree Mark) → children t ≡ root_children t
kids (tree a k) = refl

-- What a list within the limits says of one child: the child, and the list up to it, are within them.
pub record ChildWithin (u : Tree Mark) (f : Types) : Type 0 where
  pub own : LimitsKept (root_children u)
  pub sofar : LimitsKept f

pub child-within : (ids : List (List ℕ)) (known : List NamedType) (seen : List (List ℕ)) (k : Types) (w : List ℕ) (side : Side) (d : Children) (u : Tree Mark)
    → ProperChild ids seen w side d → FreshFor ids seen k → LimitsKept (forest_from ids known (set (id_of ids w) u k) d)
    → ChildWithin u (set (id_of ids w) u k)
unfolding FreshFor
child-within ids known seen k w side d u p fr l =
    let g = forest-grown ids known d (w ∷ seen) (set (id_of ids w) u k) p.others (fresh_set ids seen k w u fr) in
    let e = fr w p.named p.new in
    let c = kids u in
    let x = nodes-set (id_of ids w) u k e in
    let y = levels-set (id_of ids w) u k e in
    let v = ap nodes c in
    let z = ap levels c in
    record {
      own = (omega (arith, l.0, g.nodes_are, x, v), omega (arith, l.1, g.levels_are, y, z));
      sofar = (omega (arith, l.0, g.nodes_are), omega (arith, l.1, g.levels_are));
    }

-- ---- readings that went well

pub no-parse : {A : Type 0} {B : Type 0} {p : ℕ} {x : A} {r : List Item} → offends p ≡ parsed x r → B
no-parse e = absurd (let z : ◌≡◌ {A = ℕ} 0 1 = cc in omega arith)

pub parsed-what : {A : Type 0} {x y : A} {l r : List Item} → parsed x l ≡ parsed y r → (x ≡ y) × (l ≡ r)
parsed-what e = (cc, cc)

pub then-parsed : {A B : Type 0} (x : Reading A) (k : A → List Item → Reading B) (y : B) (r : List Item) → read_then x k ≡ parsed y r
    → (a : A) × (l : List Item) × (x ≡ parsed a l) × (k a l ≡ parsed y r)
then-parsed (parsed a l) k y r e = (a, l, refl, e)
then-parsed (offends p) k y r e = no-parse e

-- What a child, and the list after it, are read as.
pub record ChildRead (size : ℕ) (types : List (List ℕ)) (f : ℕ) (seen : List (List ℕ)) (w : List ℕ) (m : Bool) (l : List Item) (c : Children) (rest : List Item)
    : Type 0 where
  pub side : Side
  pub between : List Item
  pub others : Children
  pub side_reads : read_side size types (read_children size types f []) l ≡ parsed side between
  pub others_read : read_children size types f (w ∷ seen) between ≡ parsed others rest
  pub is : c ≡ child_of w m side others

pub child-read : (size : ℕ) (types : List (List ℕ)) (f : ℕ) (seen : List (List ℕ)) (w : List ℕ) (m : Bool) (l : List Item) (c : Children) (rest : List Item)
    → after_colon size types f seen w m l ≡ parsed c rest → ChildRead size types f seen w m l c rest
unfolding after_colon
child-read size types f seen w m l c rest e =
    let x = then-parsed (read_side size types (read_children size types f []) l) _ c rest e in
    let y = then-parsed (read_children size types f (w ∷ seen) x.1) _ c rest x.3 in
    let z = parsed-what y.3 in
    record { side = x.0; between = x.1; others = y.0; side_reads = x.2; others_read = y.2 ∙ ap (parsed y.0) z.1; is = sym z.0 }

-- A list that begins with a dot and a word.
pub named-read : (size : ℕ) (types : List (List ℕ)) (f : ℕ) (seen : List (List ℕ)) (p p' : ℕ) (w : List ℕ) (l : List Item) (c : Children) (rest : List Item)
    → read_children size types (suc f) seen (token p dot ∷ token p' (word w) ∷ l) ≡ parsed c rest
    → through_colon size (after_colon size types f seen w) l ≡ parsed c rest
named-read size types f seen p p' w l c rest e = go (is_name w && not (among w seen)) refl
  where
    go : (t : Bool) → is_name w && not (among w seen) ≡ t → through_colon size (after_colon size types f seen w) l ≡ parsed c rest
    go true h =
        let q = and-of (is_name w) (not (among w seen)) h in
        sym (children-named size types seen p p' w l q.0 (not-true (among w seen) q.1) f) ∙ e
    go false h = no-parse (sym (children-unnamed size types seen p (token p' (word w) ∷ l) h f) ∙ e)

-- A closing brace after a list.
pub closed-read : (size b : ℕ) (c : Children) (l : List Item) (side : Side) (rest : List Item) → closed size b c l ≡ parsed side rest
    → (next_is closing l ≡ true) × (side ≡ inline b c) × (rest ≡ after_next l)
closed-read size b c l side rest e = go (next_is closing l) refl e
  where
    go : (t : Bool) → next_is closing l ≡ t → pick t (parsed (inline b c) (after_next l)) (offends (next_place size l)) ≡ parsed side rest
        → (next_is closing l ≡ true) × (side ≡ inline b c) × (rest ≡ after_next l)
    go true h q = let z = parsed-what q in (h, sym z.0, sym z.1)
    go false h q = no-parse q
