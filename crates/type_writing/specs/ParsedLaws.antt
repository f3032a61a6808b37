-- What was read of the parts, where the whole was read.
use Rattle.std.specs.Prelude.{◌≡◌, refl, List, [], ◌∷◌, Bool, true, false, ℕ}
use Rattle.std.proofs.Math.Path.{sym}
use Rattle.std.proofs.Common.{◌∙◌, ap}
use Rattle.basics.specs.Choice.{pick}
use Rattle.network_syntax.specs.Syntax.{Optional, none, some}
use Rattle.type_text.specs.Spelling.{opening, closing, dot}
use Rattle.type_text.specs.Grammar.{Children, no_more, Declaration}
use Rattle.type_text.specs.Reader.{Item, Reading, parsed, offends, read_then, expect, next_is, next_word, after_next, Side, inline, declaration_of}
use Rattle.type_text.specs.Reader.{basic_named, read_braces, read_type_tree_by, read_type_tree, read_children, read_declarations}
use Rattle.type_reading.specs.Readings.{after_name}
use Rattle.type_trees.specs.BuildLaws.{no-parse}

-- The parts of what was read one after the other.
pub record ThenRead {A B : Type 0} (x : Reading A) (k : A → List Item → Reading B) (y : B) (r : List Item) : Type 0 where
  pub first : A
  pub left : List Item
  pub reads : x ≡ parsed first left
  pub goes : k first left ≡ parsed y r

pub then-read : {A B : Type 0} (x : Reading A) (k : A → List Item → Reading B) (y : B) (r : List Item) → read_then x k ≡ parsed y r → ThenRead x k y r
then-read (parsed a l) k y r e = record { first = a; left = l; reads = refl; goes = e }
then-read (offends p) k y r e = no-parse e

-- A test that was passed.
pub expect-read : {A : Type 0} (t : Bool) (size : ℕ) (l : List Item) (y : Reading A) (a : A) (r : List Item) → expect t size l y ≡ parsed a r → y ≡ parsed a r
expect-read true size l y a r e = e
expect-read false size l y a r e = no-parse e

-- A tree that was read is one, and no name.
pub record InlineRead (x : Side) : Type 0 where
  pub basic : ℕ
  pub children : Children
  pub is : x ≡ inline basic children

module _ (size : ℕ) (children : List Item → Reading Children) where
  braces-inline : (b : ℕ) (l : List Item) (x : Side) (r : List Item) → read_braces size children b l ≡ parsed x r → InlineRead x
  unfolding read_braces
  braces-inline b l x r e = by (next_is opening l) e
    where
      inside : ThenRead (children (after_next l)) (λ c r'. expect (next_is closing r') size r' (parsed (inline b c) (after_next r'))) x r → InlineRead x
      inside t = record { basic = b; children = t.first; is = sym (ap side (expect-read (next_is closing t.left) size t.left _ x r t.goes)) }
        where
          side : Reading Side → Side
          side (parsed y l') = y
          side (offends p) = inline 0 no_more

      leaf : parsed (inline b no_more) l ≡ parsed x r → InlineRead x
      leaf q = record { basic = b; children = no_more; is = sym (ap side q) }
        where
          side : Reading Side → Side
          side (parsed y l') = y
          side (offends p) = inline 0 no_more

      by : (o : Bool)
          → pick o (expect (next_is dot (after_next l)) size (after_next l)
          (read_then (children (after_next l)) (λ c r'. expect (next_is closing r') size r' (parsed (inline b c) (after_next r')))))
          (parsed (inline b no_more) l) ≡ parsed x r → InlineRead x
      by true q = inside (then-read _ _ x r (expect-read (next_is dot (after_next l)) size (after_next l) _ x r q))
      by false q = leaf q

  tree-inline : (l : List Item) (x : Side) (r : List Item) → read_type_tree size children l ≡ parsed x r → InlineRead x
  tree-inline l x r e = by (basic_named (next_word l)) e
    where
      by : (o : Optional ℕ) → read_type_tree_by size children o l ≡ parsed x r → InlineRead x
      by none q = no-parse q
      by (some b) q = braces-inline b (after_next l) x r q

-- A declaration's tree, and the declarations after it.
pub record NextDeclared (size : ℕ) (types : List (List ℕ)) (f : ℕ) (name : List ℕ) (l : List Item) (ds : List Declaration) (r : List Item) : Type 0 where
  pub basic : ℕ
  pub children : Children
  pub more : List Declaration
  pub left : List Item
  pub reads : read_type_tree size (read_children size types f []) l ≡ parsed (inline basic children) left
  pub goes : read_declarations size f (name ∷ types) left ≡ parsed more r
  pub are : ds ≡ declaration_of name (inline basic children) ∷ more

pub next-declared : (size : ℕ) (types : List (List ℕ)) (f : ℕ) (name : List ℕ) (l : List Item) (ds : List Declaration) (r : List Item)
    → after_name size types f name l ≡ parsed ds r → NextDeclared size types f name l ds r
next-declared size types f name l ds r e =
    let t = then-read (read_type_tree size (read_children size types f []) l) _ ds r e in
    let m = then-read (read_declarations size f (name ∷ types) t.left) _ ds r t.goes in
    let i = tree-inline size (read_children size types f []) l t.first t.left t.reads in
    record {
      basic = i.basic;
      children = i.children;
      more = m.first;
      left = t.left;
      reads = t.reads ∙ ap (λ (x : Side). parsed x t.left) i.is;
      goes = m.reads ∙ ap (parsed m.first) (ap rest m.goes);
      are = sym (ap list m.goes) ∙ ap (λ (x : Side). declaration_of name x ∷ m.first) i.is;
    }
  where
    list : Reading (List Declaration) → List Declaration
    list (parsed ds l') = ds
    list (offends p) = []

    rest : Reading (List Declaration) → List Item
    rest (parsed ds l') = l'
    rest (offends p) = []
