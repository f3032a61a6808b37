-- The beginnings of children, sides and declarations, at each of the ways out of the code.
use mathlib.Core.Path.{◌≡◌, refl, sym, ◌∙◌, ap, subst}
use mathlib.Core.List.{List, [], ◌∷◌}
use mathlib.Core.Bool.{Bool, true, false, not, ◌&&◌}
use mathlib.Core.Logic.{inl, inr}
use Prim.Native.Nat.{ℕ, suc, ◌+◌, ◌*◌, ◌≤◌}
use native.Mathlib.Omega.{arith}
use lib.ListN.{length}
use Rattle.network_syntax.specs.Syntax.{none}
use Rattle.wire.specs.Wire.{put_u16}
use Rattle.wire.specs.WireLaws.{length-16}
use Rattle.basics.specs.TestLaws.{and-false}
use Rattle.type_text.specs.Spelling.{word, colon, opening, dot}
use Rattle.type_text.specs.Grammar.{same_word, among, is_name, type_word, Children}
use Rattle.type_text.specs.Reader.{Item as ReadItem, token, items_at, Reading, offends, next_place, next_is, next_word, after_next, at_end, basic_named, is_new_type, read_side, read_children}
use Rattle.type_words.specs.declared.Item.TheVariants.{Word}
use Rattle.type_words.specs.Told.{ItemTold, BasicTold}
use Rattle.type_reading.specs.declared.Beginning.{Beginning}
use Rattle.type_reading.specs.declared.Beginning.TheVariants.{Known, Leaf, Braces}
use Rattle.type_reading.specs.Tables.{word_from, declared_names, seen_names}
use Rattle.type_reading.specs.Readings.{MarkRead, ColonRead, ColonTold, ChildTold, StackKept, TypeFound, TreeBegun, SideTold, LeafRead, NameTold, StartTold, after_colon}
use Rattle.type_reading.specs.ReadingLaws.{onward-more}
use Rattle.type_reading.specs.TableLaws.{first-kept, push-name}
use Rattle.type_reading.specs.PieceLaws.{children-none, children-unnamed, children-named, side-none, side-name, side-unknown, side-plain, side-empty, side-braces, start-unknown, start-unnamed, start-colonless, start-named}
use Rattle.type_reading.specs.WordLaws.{one_fewer, word-items, word-onward}
use Rattle.std.specs.Prelude.{Option, Some, None, is_some, Result, Ok, Err}

-- ---- what stands after a `:`

module _ (s : List ℕ) (at : ℕ) (table : List ℕ) (n : ℕ) where
  pub side-wordless : (e : ℕ) → among [] (declared_names s table n) ≡ false → next_word (items_at s at) ≡ []
      → e ≡ next_place (length s) (items_at s at) → SideTold s at table n (Err e)
  side-wordless e h w q = λ children.
      side-none (length s) (declared_names s table n) children (items_at s at) h w ∙ ap (λ (x : ℕ). offends x) (sym q)

  module _ (p q : ℕ) (t : ItemTold s at (Word p q)) where
    to-side : (l : List ReadItem) → items_at s q ≡ l → (children : List ReadItem → Reading Children)
        → read_side (length s) (declared_names s table n) children (items_at s at) ≡
        read_side (length s) (declared_names s table n) children (token p (word (word_from s p)) ∷ l)
    to-side l e children =
        ap (read_side (length s) (declared_names s table n) children)
        (word-items s at p q t ∙ ap (λ (x : List ReadItem). token p (word (word_from s p)) ∷ x) e)

    pub side-entry : (i : ℕ) → TypeFound s table n (word_from s p) (Some i) → SideTold s at table n (Ok (Known q i))
    side-entry i f = record {
      type = word_from s p;
      onward = word-onward s at p q t;
      below = f.0;
      far = omega (arith, t.0, t.1);
      declared = f.1;
      many = f.2;
      deep = f.3;
      reads = λ children.
          to-side (items_at s q) refl children
          ∙ side-name (length s) (declared_names s table n) children p (word_from s p) (items_at s q) f.1;
    }

    pub side-tree : among (word_from s p) (declared_names s table n) ≡ false → (r : Result Beginning ℕ) → TreeBegun s p q r → SideTold s at table n r
    side-tree u (Ok (Known r i)) b = absurd b
    side-tree u (Ok (Leaf r b)) (e, o, h) = subst (λ (x : ℕ). LeafRead s at table n x b) (sym e) record {
      onward = word-onward s at p q t;
      far = omega (arith, t.0, t.1);
      reads = λ children.
          to-side (items_at s q) refl children
          ∙ side-plain (length s) (declared_names s table n) children p (word_from s p) (items_at s q) u b o h;
    }
    side-tree u (Ok (Braces a b)) (o, m, d) = record {
      onward = onward-more (word-onward s at p q t) m.onward;
      far = omega (arith, t.0, t.1, m.far);
      fewer = let x = one_fewer t.3 in let y = one_fewer m.is in omega arith;
      reads = λ children.
          to-side (token m.place opening ∷ items_at s a) m.is children
          ∙ side-braces (length s) (declared_names s table n) children p (word_from s p) (token m.place opening ∷ items_at s a) u b o refl d;
    }
    side-tree u (Err e) (inl (o, z)) = λ children.
        to-side (items_at s q) refl children
        ∙ side-unknown (length s) (declared_names s table n) children p (word_from s p) (items_at s q) u o
        ∙ ap (λ (x : ℕ). offends x) (sym z)
    side-tree u (Err e) (inr (b, o, h, d, z)) = λ children.
        to-side (items_at s q) refl children
        ∙ side-empty (length s) (declared_names s table n) children p (word_from s p) (items_at s q) u b o h d
        ∙ ap (λ (x : ℕ). offends x) (sym z)

-- ---- a child

module _ (s : List ℕ) (at : ℕ) (stack stack' : List ℕ) (base k : ℕ) where
  pub child-none : next_is dot (items_at s at) ≡ false → ChildTold s at stack stack' base k (Ok None)
  child-none e = λ types f. children-none (length s) types (seen_names s stack base k) (items_at s at) e f

  module _ (a : ℕ) (m : MarkRead s at 4 a) where
    pub child-unnamed : (x : ℕ)
        → is_name (next_word (items_at s a)) && not (among (next_word (items_at s a)) (seen_names s stack base k)) ≡ false
        → x ≡ next_place (length s) (items_at s a) → ChildTold s at stack stack' base k (Err x)
    child-unnamed x e q = (
      (let z = one_fewer m.is in omega arith),
      λ types f.
          ap (read_children (length s) types (suc f) (seen_names s stack base k)) m.is
          ∙ children-unnamed (length s) types (seen_names s stack base k) m.place (items_at s a) e f
          ∙ ap (λ (x : ℕ). offends x) (sym q),
    )

    pub child-wordless : (x : ℕ) → next_word (items_at s a) ≡ [] → x ≡ next_place (length s) (items_at s a)
        → ChildTold s at stack stack' base k (Err x)
    child-wordless x e q = child-unnamed x (rw e refl) q

    module _ (p q : ℕ) (t : ItemTold s a (Word p q)) where
      at-word : next_word (items_at s a) ≡ word_from s p
      at-word = ap next_word (word-items s a p q t)

      at_place : p ≡ next_place (length s) (items_at s a)
      at_place = sym (ap (next_place (length s)) t.3)

      pub child-no-name : is_name (word_from s p) ≡ false → ChildTold s at stack stack' base k (Err p)
      child-no-name e = child-unnamed p (rw (at-word, e) refl) at_place

      pub child-again : among (word_from s p) (seen_names s stack base k) ≡ true → ChildTold s at stack stack' base k (Err p)
      child-again e = child-unnamed p (rw (at-word, e) (and-false (is_name (word_from s p)))) at_place

      module _ (e : is_name (word_from s p) ≡ true) (u : among (word_from s p) (seen_names s stack base k) ≡ false) where
        to-colon : (types : List (List ℕ)) (f : ℕ) →
            read_children (length s) types (suc f) (seen_names s stack base k) (items_at s at) ≡
            read_children (length s) types (suc f) (seen_names s stack base k) (token m.place dot ∷ token p (word (word_from s p)) ∷ items_at s q)
        to-colon types f =
            ap (read_children (length s) types (suc f) (seen_names s stack base k))
            (m.is ∙ ap (λ (l : List ReadItem). token m.place dot ∷ l) (word-items s a p q t))

        pub child-colonless : (x : ℕ) → ColonTold s q (Err x) → ChildTold s at stack stack' base k (Err x)
        child-colonless x c = (
          (let z = one_fewer m.is in omega arith),
          λ types f.
              to-colon types f
              ∙ children-named (length s) types (seen_names s stack base k) m.place p (word_from s p) (items_at s q) e u f
              ∙ c (after_colon (length s) types f (seen_names s stack base k) (word_from s p)),
        )

        pub child-begun : (b : ℕ) (mandatory : Bool) → ColonRead s q b mandatory → 2 * (base + k) + 2 ≤ length stack
            → stack' ≡ put_u16 stack (2 * (base + k)) p → ChildTold s at stack stack' base k (Ok (Some b))
        child-begun b mandatory c h r = record {
          name = word_from s p;
          mandatory = mandatory;
          far = omega (arith, m.far, t.0, t.1, c.far);
          onward = onward-more m.onward (onward-more (word-onward s a p q t) c.onward);
          fewer = let x = one_fewer m.is in let y = one_fewer t.3 in omega (arith, c.fewer);
          pushed = rw r (push-name s stack base k p h);
          reads = λ types f.
              to-colon types f
              ∙ children-named (length s) types (seen_names s stack base k) m.place p (word_from s p) (items_at s q) e u f
              ∙ c.reads (after_colon (length s) types f (seen_names s stack base k) (word_from s p));
        }

pub stack-kept : (stack : List ℕ) (top : ℕ) → StackKept stack stack top
stack-kept stack top = record { below = refl; size = refl }

pub stack-pushed : (stack stack' : List ℕ) (top p : ℕ) → stack' ≡ put_u16 stack (2 * top) p → StackKept stack stack' top
stack-pushed stack stack' top p e = record {
  below = rw e (first-kept stack (2 * top) (2 * top) p (omega arith));
  size = rw e (length-16 stack (2 * top) p);
}

-- ---- a declaration

module _ (types : List (List ℕ)) (w : List ℕ) where
  pub new-unnamed : is_name w ≡ false → false ≡ is_new_type types w
  unfolding is_new_type
  new-unnamed e = rw e refl

  module _ (e : is_name w ≡ true) {t : Bool} (r : Option ℕ) (i : is_some r ≡ not t) where
    pub new-basic : BasicTold w r → t ≡ false → false ≡ is_new_type types w
    unfolding is_new_type
    new-basic b h = by r b (i ∙ ap not h)
      where
        by : (r : Option ℕ) → BasicTold w r → is_some r ≡ true → false ≡ is_new_type types w
        by (Some x) b q = rw (e, b.0) refl
        by None b q = cc

    pub not-basic : BasicTold w r → t ≡ true → basic_named w ≡ none
    not-basic b h = by r b (i ∙ ap not h)
      where
        by : (r : Option ℕ) → BasicTold w r → is_some r ≡ false → basic_named w ≡ none
        by (Some x) b q = cc
        by None b q = b

    pub new-type : basic_named w ≡ none → among w types ≡ is_some r → t ≡ is_new_type types w
    unfolding is_new_type
    new-type o u = rw (e, o, u, i) (twice t)
      where
        twice : (x : Bool) → x ≡ not (not x)
        twice true = refl
        twice false = refl

pub found-among : (s table : List ℕ) (n : ℕ) (w : List ℕ) (r : Option ℕ) → TypeFound s table n w r → among w (declared_names s table n) ≡ is_some r
found-among s table n w (Some i) f = f.1
found-among s table n w None f = f

module _ (s : List ℕ) (at : ℕ) (table : List ℕ) (n : ℕ) where
  pub name-wordless : (x : ℕ) → next_word (items_at s at) ≡ [] → x ≡ next_place (length s) (items_at s at) → NameTold s at table n (Err x)
  unfolding is_new_type
  name-wordless x e q = inl (rw e refl, q)

  module _ (p q : ℕ) (t : ItemTold s at (Word p q)) where
    its-word : next_word (items_at s at) ≡ word_from s p
    its-word = ap next_word (word-items s at p q t)

    past_word : after_next (items_at s at) ≡ items_at s q
    past_word = ap after_next t.3

    pub name-known : is_new_type (declared_names s table n) (word_from s p) ≡ false → NameTold s at table n (Err p)
    name-known e = inl (ap (is_new_type (declared_names s table n)) its-word ∙ e, sym (ap (next_place (length s)) t.3))

    module _ (e : is_new_type (declared_names s table n) (word_from s p) ≡ true) where
      pub name-colonless : (x : ℕ) → next_is colon (items_at s q) ≡ false → x ≡ next_place (length s) (items_at s q) → NameTold s at table n (Err x)
      name-colonless x c z =
          inr (
            ap (is_new_type (declared_names s table n)) its-word ∙ e,
            ap (next_is colon) past_word ∙ c,
            z ∙ sym (ap (next_place (length s)) past_word),
          )

      pub name-given : (a : ℕ) → MarkRead s q 1 a → NameTold s at table n (Ok (p, a))
      name-given a m = (
        e,
        its-word,
        omega (arith, t.1, t.2),
        omega (arith, t.0, t.1, m.far),
        onward-more (word-onward s at p q t) m.onward,
        ap (next_is colon) (past_word ∙ m.is),
        ap after_next (past_word ∙ m.is),
      )

  pub start-wordless : (x : ℕ) {i : ReadItem} {l : List ReadItem} → items_at s at ≡ i ∷ l → next_word (items_at s at) ≡ []
      → x ≡ next_place (length s) (items_at s at) → StartTold s at table n (Err x)
  unfolding same_word
  start-wordless x e w q = (
    (let z = one_fewer e in omega arith),
    λ f. start-unknown (length s) (declared_names s table n) f (items_at s at) (ap at_end e) (rw w refl) ∙ ap (λ (x : ℕ). offends x) (sym q),
  )

  module _ (p q : ℕ) (t : ItemTold s at (Word p q)) where
    pub start-other : same_word type_word (word_from s p) ≡ false → StartTold s at table n (Err p)
    start-other e = (
      (let z = one_fewer t.3 in omega arith),
      λ f.
          start-unknown (length s) (declared_names s table n) f (items_at s at) (ap at_end t.3) (ap (same_word type_word) (its-word p q t) ∙ e)
          ∙ ap (λ (x : ℕ). offends x) (ap (next_place (length s)) t.3),
    )

    module _ (e : same_word type_word (word_from s p) ≡ true) where
      says-type : same_word type_word (next_word (items_at s at)) ≡ true
      says-type = ap (same_word type_word) (its-word p q t) ∙ e

      pub start-bad : (x : ℕ) → NameTold s q table n (Err x) → StartTold s at table n (Err x)
      start-bad x (inl (h, z)) = (
        (let z = one_fewer t.3 in omega arith),
        λ f.
            start-unnamed (length s) (declared_names s table n) f (items_at s at) (ap at_end t.3) says-type
            (ap (λ (l : List ReadItem). is_new_type (declared_names s table n) (next_word l)) (past_word p q t) ∙ h)
            ∙ ap (λ (x : ℕ). offends x) (ap (next_place (length s)) (past_word p q t) ∙ sym z),
      )
      start-bad x (inr (h, c, z)) = (
        (let z = one_fewer t.3 in omega arith),
        λ f.
            start-colonless (length s) (declared_names s table n) f (items_at s at) (ap at_end t.3) says-type
            (ap (λ (l : List ReadItem). is_new_type (declared_names s table n) (next_word l)) (past_word p q t) ∙ h)
            (ap (λ (l : List ReadItem). next_is colon (after_next l)) (past_word p q t) ∙ c)
            ∙ ap (λ (x : ℕ). offends x) (ap (λ (l : List ReadItem). next_place (length s) (after_next l)) (past_word p q t) ∙ sym z),
      )

      pub start-name : (y a : ℕ) → NameTold s q table n (Ok (y, a)) → StartTold s at table n (Ok (Some (y, a)))
      start-name y a (h, w, low, far, o, c, z) = record {
        onward = onward-more (word-onward s at p q t) o;
        far = omega (arith, t.0, t.1, far);
        low = low;
        fresh = h;
        fewer = let x = one_fewer t.3 in omega (arith, o.fewer);
        reads = λ f.
            start-named (length s) (declared_names s table n) f (items_at s at) (ap at_end t.3) says-type
            (ap (λ (l : List ReadItem). is_new_type (declared_names s table n) (next_word l)) (past_word p q t)
            ∙ ap (is_new_type (declared_names s table n)) w ∙ h)
            (ap (λ (l : List ReadItem). next_is colon (after_next l)) (past_word p q t) ∙ c)
            ∙ rw (past_word p q t, w, z) refl;
      }
