-- The reader's definition at the items that the code finds.
use Rattle.std.specs.Prelude.{◌≡◌, List, [], ◌∷◌, Bool, true, false, not, ◌&&◌, eqb}
use Rattle.std.proofs.Math.Path.{refl}
use Rattle.std.proofs.Common.{arith}
use Prim.Native.Nat.{ℕ, zero, suc, ◌≤◌, ◌<◌}
use Rattle.network_syntax.specs.Syntax.{none, some}
use Rattle.scalar.specs.Value.{word_of}
use Rattle.type_text.specs.Spelling.{Token, word, colon, opening, closing, dot, question, zero_to_one, one_to_one}
use Rattle.type_text.specs.Grammar.{same_word, among, is_name, type_word, Children, no_more}
use Rattle.type_text.specs.Reader.{Item, token, fault, Reading, parsed, offends, read_then}
use Rattle.type_text.specs.Reader.{expect, next_is, next_word, next_place, after_next, at_end, token_kind, inline}
use Rattle.type_text.specs.Reader.{reference, basic_named, basic_below, is_new_type, read_braces, read_side, read_child, read_children}
use Rattle.type_text.specs.Reader.{read_declaration, read_declarations}
use Rattle.type_reading.specs.Readings.{after_colon, through_colon, closed, after_name}

module _ (size : ℕ) where
  pub children-none : (types seen : List (List ℕ)) (l : List Item) → next_is dot l ≡ false → (f : ℕ)
      → read_children size types f seen l ≡ parsed no_more l
  unfolding read_children
  children-none types seen l e zero = refl
  children-none types seen l e (suc f) = rw e refl

  pub children-unnamed : (types seen : List (List ℕ)) (p : ℕ) (l : List Item)
      → is_name (next_word l) && not (among (next_word l) seen) ≡ false → (f : ℕ)
      → read_children size types (suc f) seen (token p dot ∷ l) ≡ offends (next_place size l)
  unfolding read_children
  children-unnamed types seen p l e f = rw e refl

  pub children-named : (types seen : List (List ℕ)) (p p' : ℕ) (w : List ℕ) (l : List Item)
      → is_name w ≡ true → among w seen ≡ false → (f : ℕ)
      → read_children size types (suc f) seen (token p dot ∷ token p' (word w) ∷ l) ≡ through_colon size (after_colon size types f seen w) l
  unfolding read_children read_child after_colon
  children-named types seen p p' w l e n f = rw (e, n) refl

  module _ (k : Bool → List Item → Reading Children) where
    pub through-colon : (p : ℕ) (l : List Item) → through_colon size k (token p colon ∷ l) ≡ k true l
    through-colon p l = refl

    pub through-mark : (p : ℕ) (j : Token) (l : List Item) → 5 ≤ token_kind j
        → through_colon size k (token p j ∷ l) ≡ expect (next_is colon l) size l (k (eqb (token_kind j) 7) (after_next l))
    through-mark p (word w) l h = absurd (omega (arith, h))
    through-mark p colon l h = absurd (omega (arith, h))
    through-mark p opening l h = absurd (omega (arith, h))
    through-mark p closing l h = absurd (omega (arith, h))
    through-mark p dot l h = absurd (omega (arith, h))
    through-mark p question l h = refl
    through-mark p zero_to_one l h = refl
    through-mark p one_to_one l h = refl

    pub through-other : (p : ℕ) (j : Token) (l : List Item) → token_kind j < 5 → (token_kind j ≡ 1 → ⊥)
        → through_colon size k (token p j ∷ l) ≡ offends p
    through-other p (word w) l h n = refl
    through-other p colon l h n = absurd (n refl)
    through-other p opening l h n = refl
    through-other p closing l h n = refl
    through-other p dot l h n = refl
    through-other p question l h n = absurd (omega (arith, h))
    through-other p zero_to_one l h n = absurd (omega (arith, h))
    through-other p one_to_one l h n = absurd (omega (arith, h))

    pub through_fault : (p q : ℕ) (l : List Item) → through_colon size k (fault p q ∷ l) ≡ offends q
    through_fault p q l = refl

    pub through-end : through_colon size k [] ≡ offends size
    through-end = refl

  module _ (types : List (List ℕ)) (children : List Item → Reading Children) where
    pub side-none : (l : List Item) → among [] types ≡ false → next_word l ≡ [] → read_side size types children l ≡ offends (next_place size l)
    unfolding basic_below same_word word_of
    side-none l n e = rw (e, n) refl

    module _ (p : ℕ) (w : List ℕ) (l : List Item) where
      pub side-name : among w types ≡ true → read_side size types children (token p (word w) ∷ l) ≡ parsed (reference w) l
      side-name e = rw e refl

      module _ (u : among w types ≡ false) where
        pub side-unknown : basic_named w ≡ none → read_side size types children (token p (word w) ∷ l) ≡ offends p
        side-unknown e = rw (u, e) refl

        module _ (b : ℕ) (e : basic_named w ≡ some b) where
          pub side-plain : next_is opening l ≡ false → read_side size types children (token p (word w) ∷ l) ≡ parsed (inline b no_more) l
          unfolding read_braces
          side-plain o = rw (u, e, o) refl

          pub side-empty : next_is opening l ≡ true → next_is dot (after_next l) ≡ false
              → read_side size types children (token p (word w) ∷ l) ≡ offends (next_place size (after_next l))
          unfolding read_braces
          side-empty o d = rw (u, e, o, d) refl

          pub side-braces : next_is opening l ≡ true → next_is dot (after_next l) ≡ true
              → read_side size types children (token p (word w) ∷ l) ≡ read_then (children (after_next l)) (closed size b)
          unfolding read_braces
          side-braces o d = rw (u, e, o, d) refl

  module _ (types : List (List ℕ)) (f : ℕ) where
    pub start-unknown : (l : List Item) → at_end l ≡ false → same_word type_word (next_word l) ≡ false
        → read_declarations size (suc f) types l ≡ offends (next_place size l)
    unfolding read_declarations
    start-unknown l e t = rw (e, t) refl

    module _ (l : List Item) (e : at_end l ≡ false) (t : same_word type_word (next_word l) ≡ true) where
      pub start-unnamed : is_new_type types (next_word (after_next l)) ≡ false
          → read_declarations size (suc f) types l ≡ offends (next_place size (after_next l))
      unfolding read_declarations
      start-unnamed n = rw (e, t, n) refl

      pub start-colonless : is_new_type types (next_word (after_next l)) ≡ true → next_is colon (after_next (after_next l)) ≡ false
          → read_declarations size (suc f) types l ≡ offends (next_place size (after_next (after_next l)))
      unfolding read_declarations read_declaration
      start-colonless n c = rw (e, t, n, c) refl

      pub start-named : is_new_type types (next_word (after_next l)) ≡ true → next_is colon (after_next (after_next l)) ≡ true
          → read_declarations size (suc f) types l ≡ after_name size types f (next_word (after_next l)) (after_next (after_next (after_next l)))
      unfolding read_declarations read_declaration
      start-named n c = rw (e, t, n, c) refl
