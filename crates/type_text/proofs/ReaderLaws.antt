-- The reader against the grammar, on items: enough fuel is as good as any, what is read has a derivation, and every derivation is read.
use Rattle.std.proofs.Math.Path.{◌≡◌, refl, ap, subst}
use Rattle.std.proofs.Common.{sym, ◌∙◌, inl, inr, arith}
use mathlib.Core.List.{List, [], ◌∷◌}
use Rattle.std.specs.Prelude.{Bool, true, false, ◌&&◌, eqb}
use Rattle.std.proofs.Math.Bool.{not}
use Prim.Native.Nat.{ℕ, zero, suc, ◌≤◌, ◌<◌}
use Rattle.std.proofs.Math.ListN.{length}
use Rattle.basics.specs.TestLaws.{apart, true-false, clash, and-of, both_true, or-of, eq_of, of_eq, not-true}
use Rattle.network_syntax.specs.Syntax.{Optional, none, some}
use Rattle.scalar.specs.Basic.{last_basic}
use Rattle.scalar.specs.Value.{word_of}
use Rattle.type_text.specs.Spelling.{Token, word, colon, opening, closing, dot, question, zero_to_one, one_to_one}
use Rattle.type_text.specs.Grammar.{same_word, among, is_name, IsBasic, type_word, Children, no_more, is_empty_list}
use Rattle.type_text.specs.Grammar.{Declaration, declaration, CardinalityFrom, question_mark, optional_mark, mandatory_mark, no_mark}
use Rattle.type_text.specs.Grammar.{TreeFrom, leaf_tree, braced_tree, ChildrenFrom, no_child, written_child, named_child}
use Rattle.type_text.specs.Grammar.{DeclarationsFrom, no_declaration, one_declaration}
use Rattle.type_text.specs.Reader.{Item, token, fault, Reading, parsed, offends, read_then, expect, after_next, token_kind}
use Rattle.type_text.specs.Reader.{next_is, next_word, basic_below, basic_named, is_basic_word, read_cardinality, Side, inline, reference, child_of}
use Rattle.type_text.specs.Reader.{declaration_of, is_new_type, read_braces, read_type_tree_by, read_type_tree, read_side, read_child, read_children}
use Rattle.type_text.specs.Reader.{read_declaration, read_declarations}
use Rattle.type_text.proofs.SpellingLaws.{Carries, carries_none, carries_more, pick-case}
use Rattle.type_text.proofs.LookaheadLaws.{OneAhead, ahead-cardinality, ahead-tree, ahead-side, ahead-children, ahead-shorter}

after-shorter : (l : List Item) → length (after_next l) ≤ length l
after-shorter [] = omega arith
after-shorter (i ∷ l) = omega arith

-- ---- fuel

then_same : {A B : Type 0} (v : Reading A) {S U : A → List Item → Reading B} → ((x : A) (r : List Item) → v ≡ parsed x r → S x r ≡ U x r)
    → read_then v S ≡ read_then v U
then_same (parsed x r) h = h x r refl
then_same (offends p) h = refl

-- Two readers of lists that do the same on as many items.
abbrev SameUpto : {A : Type 0} → ℕ → (List Item → Reading A) → (List Item → Reading A) → Type 0
SameUpto n R S = (l : List Item) → length l ≤ n → R l ≡ S l

module _ (size : ℕ) where
  module _ {R S : List Item → Reading Children} (n : ℕ) (h : SameUpto n R S) where
    braces-same : (b : ℕ) → SameUpto n (read_braces size R b) (read_braces size S b)
    unfolding read_braces
    braces-same b l m = let e : R (after_next l) ≡ S (after_next l) = h (after_next l) (omega (arith, after-shorter l)) in rw e refl

    tree-same-by : (b : Optional ℕ) → SameUpto n (read_type_tree_by size R b) (read_type_tree_by size S b)
    tree-same-by none l m = refl
    tree-same-by (some b) l m = braces-same b (after_next l) (omega (arith, after-shorter l))

    tree-same : SameUpto n (read_type_tree size R) (read_type_tree size S)
    tree-same l m = tree-same-by (basic_named (next_word l)) l m

    side_same : (types : List (List ℕ)) → SameUpto n (read_side size types R) (read_side size types S)
    side_same types l m = rw (tree-same l m) refl

  child-same : (types : List (List ℕ)) (w : List ℕ) (n : ℕ) {R S : List Item → Reading Children} {M N : List Item → Reading Children} → OneAhead size R
      → SameUpto n R S → SameUpto n M N → SameUpto n (read_child size types R M w) (read_child size types S N w)
  unfolding read_child
  child-same types w n {R} {S} {M} {N} c h k l m =
      then_same (read_cardinality l) (λ x r e. ap (expect (next_is colon r) size r)
      (let a : length r ≤ length l = ahead-shorter l (ahead-cardinality size) e in
      let b : length (after_next r) ≤ n = omega (arith, after-shorter r) in
      rw (sym (side_same n h types (after_next r) b))
      (then_same (read_side size types R (after_next r)) (λ y q f.
      let d : length q ≤ length (after_next r) = ahead-shorter (after_next r) (ahead-side size c types) f in
      rw (k q (omega arith)) refl))))

  pub children-any-fuel : (types : List (List ℕ)) (f g : ℕ) (seen : List (List ℕ)) (l : List Item) → length l ≤ f → length l ≤ g
      → read_children size types f seen l ≡ read_children size types g seen l
  unfolding read_children
  children-any-fuel types zero zero seen l a b = refl
  children-any-fuel types zero (suc g) seen [] a b = refl
  children-any-fuel types zero (suc g) seen (i ∷ l) a b = absurd (omega arith)
  children-any-fuel types (suc f) zero seen [] a b = refl
  children-any-fuel types (suc f) zero seen (i ∷ l) a b = absurd (omega arith)
  children-any-fuel types (suc f) (suc g) seen [] a b = refl
  children-any-fuel types (suc f) (suc g) seen (i ∷ l) a b =
      let w = next_word l in
      let n : (s : List (List ℕ)) → SameUpto (length (after_next l)) (read_children size types f s) (read_children size types g s) =
      λ s m h. children-any-fuel types f g s m (omega (arith, after-shorter l)) (omega (arith, after-shorter l)) in
      rw (child-same types w (length (after_next l)) (ahead-children size types f []) (n []) (n (w ∷ seen)) (after_next l) (omega arith)) refl

  declaration-same : (w : List ℕ) (n : ℕ) {R S : List Item → Reading Children} {M N : List Item → Reading (List Declaration)} → OneAhead size R
      → SameUpto n R S → SameUpto n M N → SameUpto n (read_declaration size R M w) (read_declaration size S N w)
  unfolding read_declaration
  declaration-same w n {R} {S} {M} {N} c h k l m =
      ap (expect (next_is colon l) size l)
      (let b : length (after_next l) ≤ n = omega (arith, after-shorter l) in
      rw (sym (tree-same n h (after_next l) b))
      (then_same (read_type_tree size R (after_next l)) (λ y q f.
      let d : length q ≤ length (after_next l) = ahead-shorter (after_next l) (ahead-tree size c) f in
      rw (k q (omega arith)) refl)))

  pub declarations-any-fuel : (f g : ℕ) (types : List (List ℕ)) (l : List Item) → length l ≤ f → length l ≤ g
      → read_declarations size f types l ≡ read_declarations size g types l
  unfolding read_declarations
  declarations-any-fuel zero zero types l a b = refl
  declarations-any-fuel zero (suc g) types [] a b = refl
  declarations-any-fuel zero (suc g) types (i ∷ l) a b = absurd (omega arith)
  declarations-any-fuel (suc f) zero types [] a b = refl
  declarations-any-fuel (suc f) zero types (i ∷ l) a b = absurd (omega arith)
  declarations-any-fuel (suc f) (suc g) types [] a b = refl
  declarations-any-fuel (suc f) (suc g) types (i ∷ l) a b =
      let w = next_word l in
      let c : SameUpto (length (after_next l)) (read_children size types f []) (read_children size types g []) =
      λ m h. children-any-fuel types f g [] m (omega (arith, after-shorter l)) (omega (arith, after-shorter l)) in
      let d : SameUpto (length (after_next l)) (read_declarations size f (w ∷ types)) (read_declarations size g (w ∷ types)) =
      λ m h. declarations-any-fuel f g (w ∷ types) m (omega (arith, after-shorter l)) (omega (arith, after-shorter l)) in
      rw (declaration-same w (length (after_next l)) (ahead-children size types f []) c d (after_next l) (omega arith)) refl

-- ---- words

pub same-word-is : (v w : List ℕ) → same_word v w ≡ true → v ≡ w
unfolding same_word
same-word-is [] [] e = refl
same-word-is [] (b ∷ w) e = apart e
same-word-is (a ∷ v) [] e = apart e
same-word-is (a ∷ v) (b ∷ w) e =
    let t = and-of (eqb a b) (same_word v w) e in
    let p = eq_of a b t.0 in
    let q = same-word-is v w t.1 in
    cc

pub same-word-self : (w : List ℕ) → same_word w w ≡ true
unfolding same_word
same-word-self [] = refl
same-word-self (b ∷ w) = both_true (of_eq b b refl) (same-word-self w)

basic-below : (n : ℕ) (w : List ℕ) (b : ℕ) → basic_below n w ≡ some b → (b < n) × (word_of b ≡ w)
unfolding basic_below
basic-below zero w b e = let z : ◌≡◌ {A = ℕ} 0 1 = cc in absurd (omega arith)
basic-below (suc n) w b e =
    pick-case (same_word (word_of n) w) e
    (λ t f. let q : n ≡ b = cc in (omega arith, rw (sym q) (same-word-is (word_of n) w t)))
    (λ _ f. let r = basic-below n w b f in (omega (arith, r.0), r.1))

pub named-basic : (w : List ℕ) (b : ℕ) → basic_named w ≡ some b → IsBasic w b
named-basic w b e = let r = basic-below (suc last_basic) w b e in (omega (arith, r.0), r.1)

word-named : (b : ℕ) → b ≤ last_basic → basic_named (word_of b) ≡ some b
unfolding basic_below same_word word_of
word-named zero h = refl
word-named (suc zero) h = refl
word-named (suc (suc zero)) h = refl
word-named (suc (suc (suc zero))) h = refl
word-named (suc (suc (suc (suc zero)))) h = refl
word-named (suc (suc (suc (suc (suc zero))))) h = refl
word-named (suc (suc (suc (suc (suc (suc zero)))))) h = refl
word-named (suc (suc (suc (suc (suc (suc (suc b))))))) h = absurd (omega arith)

pub basic-named : (w : List ℕ) (b : ℕ) → IsBasic w b → basic_named w ≡ some b
basic-named w b h = rw (sym h.1) (word-named b h.0)

-- No bytes are no basic word.
pub no-bytes-basic : basic_named [] ≡ none
unfolding basic_below same_word word_of
no-bytes-basic = refl

not-basic : (w : List ℕ) → ((k : ℕ) → IsBasic w k → ⊥) → basic_named w ≡ none
not-basic w h = by (basic_named w) refl
  where
    by : (o : Optional ℕ) → basic_named w ≡ o → o ≡ none
    by none e = refl
    by (some b) e = absurd (h b (named-basic w b e))

-- The names of the types declared so far are names, and none is a basic word.
abbrev pub ProperTypes : List (List ℕ) → Type 0
ProperTypes types = (w : List ℕ) → among w types ≡ true → (is_name w ≡ true) × (basic_named w ≡ none)

pub proper-none : ProperTypes []
unfolding among
proper-none w e = apart e

pub proper-more : (types : List (List ℕ)) (n : List ℕ) → ProperTypes types → is_name n ≡ true → basic_named n ≡ none → ProperTypes (n ∷ types)
unfolding among
proper-more types n h i b w e = elim (or-of (same_word w n) (among w types) e) [
  | inl t ↦ let q : w ≡ n = same-word-is w n t in rw q (i, b)
  | inr t ↦ h w t
]

-- What "may a word name one more type" says.
pub new-type : (types : List (List ℕ)) (n : List ℕ) → is_new_type types n ≡ true → (is_name n ≡ true) × (basic_named n ≡ none) × (among n types ≡ false)
unfolding is_new_type
new-type types n e =
    let a = and-of (is_name n) (not (is_basic_word (basic_named n)) && not (among n types)) e in
    let b = and-of (not (is_basic_word (basic_named n))) (not (among n types)) a.1 in
    (a.0, none_of (basic_named n) b.0, not-true (among n types) b.1)
  where
    none_of : (o : Optional ℕ) → not (is_basic_word o) ≡ true → o ≡ none
    none_of none e = refl
    none_of (some b) e = apart e

pub new-type-of : (types : List (List ℕ)) (n : List ℕ) → is_name n ≡ true → basic_named n ≡ none → among n types ≡ false → is_new_type types n ≡ true
unfolding is_new_type
new-type-of types n i b a = rw (i, b, a) refl

-- ---- the next item

-- The mark of a number.
abbrev mark_of : ℕ → Token
mark_of zero = word []
mark_of (suc zero) = colon
mark_of (suc (suc zero)) = opening
mark_of (suc (suc (suc zero))) = closing
mark_of (suc (suc (suc (suc zero)))) = dot
mark_of (suc (suc (suc (suc (suc zero))))) = question
mark_of (suc (suc (suc (suc (suc (suc zero)))))) = zero_to_one
mark_of (suc (suc (suc (suc (suc (suc (suc n))))))) = one_to_one

mark-of : (k : Token) → (token_kind k ≡ 0 → ⊥) → mark_of (token_kind k) ≡ k
mark-of (word w) h = absurd (h refl)
mark-of colon h = refl
mark-of opening h = refl
mark-of closing h = refl
mark-of dot h = refl
mark-of question h = refl
mark-of zero_to_one h = refl
mark-of one_to_one h = refl

pub kind-is : (j k : Token) → (token_kind k ≡ 0 → ⊥) → eqb (token_kind j) (token_kind k) ≡ true → j ≡ k
kind-is j k h e =
    let q : token_kind j ≡ token_kind k = eq_of (token_kind j) (token_kind k) e in
    let a : mark_of (token_kind j) ≡ j = mark-of j (λ z. h (sym q ∙ z)) in
    sym a ∙ ap mark_of q ∙ mark-of k h

pub next-mark : (k : Token) (l : List Item) → (token_kind k ≡ 0 → ⊥) → next_is k l ≡ true → (p : ℕ) × (l ≡ token p k ∷ after_next l)
next-mark k [] h e = apart e
next-mark k (token p j ∷ l) h e = (p, ap {B = List Item} (λ x. token p x ∷ l) (kind-is j k h e))
next-mark k (fault p q ∷ l) h e = apart e

pub next-word : (l : List Item) → (next_word l ≡ [] → ⊥) → (p : ℕ) × (l ≡ token p (word (next_word l)) ∷ after_next l)
next-word [] h = absurd (h refl)
next-word (token p (word w) ∷ l) h = (p, refl)
next-word (token p colon ∷ l) h = absurd (h refl)
next-word (token p opening ∷ l) h = absurd (h refl)
next-word (token p closing ∷ l) h = absurd (h refl)
next-word (token p dot ∷ l) h = absurd (h refl)
next-word (token p question ∷ l) h = absurd (h refl)
next-word (token p zero_to_one ∷ l) h = absurd (h refl)
next-word (token p one_to_one ∷ l) h = absurd (h refl)
next-word (fault p q ∷ l) h = absurd (h refl)

-- The items l up to r are the tokens k up to m.
pub data CarriesTo (r : List Item) (m : List Token) : List Item → List Token → Type 0 where
  carried_here : CarriesTo r m r m
  carried_more : {p : ℕ} {j : Token} {l : List Item} {k : List Token} → CarriesTo r m l k → CarriesTo r m (token p j ∷ l) (j ∷ k)

carried-on-by : {r q : List Item} {m n : List Token} {l : List Item} {k : List Token} → CarriesTo q n l k → CarriesTo r m q n → CarriesTo r m l k
carried-on-by carried_here d = d
carried-on-by (carried_more c) d = carried_more (carried-on-by c d)

pub carried_on : {r q l : List Item} {m n k : List Token} → CarriesTo q n l k → CarriesTo r m q n → CarriesTo r m l k
carried_on c d = carried-on-by c d

carries-from-by : {r : List Item} {m : List Token} {l : List Item} {k : List Token} → CarriesTo r m l k → Carries r m → Carries l k
carries-from-by carried_here d = d
carries-from-by (carried_more c) d = carries_more (carries-from-by c d)

pub carries-from : {r l : List Item} {m k : List Token} → CarriesTo r m l k → Carries r m → Carries l k
carries-from c d = carries-from-by c d

carried-rest-by : {r : List Item} {m : List Token} {l : List Item} {n k : List Token} → CarriesTo r m l n → Carries l k → (j : List Token) × Carries r j
carried-rest-by {k = k} carried_here a = (k, a)
carried-rest-by (carried_more c) (carries_more a) = carried-rest-by c a

-- What follows carries what is left.
pub carried-rest : {r l : List Item} {m n k : List Token} → CarriesTo r m l n → Carries l k → (j : List Token) × Carries r j
carried-rest c a = carried-rest-by c a

pub carries-unique : {l : List Item} {k m : List Token} → Carries l k → Carries l m → k ≡ m
carries-unique carries_none carries_none = refl
carries-unique (carries_more {k = j} a) (carries_more b) = ap {B = List Token} (λ x. j ∷ x) (carries-unique a b)

carried_same : {l r : List Item} (m : List Token) → l ≡ r → CarriesTo r m l m
carried_same m e = rw e carried_here

module _ {r : List Item} {m : List Token} where
  pub carry-mark : (k : Token) (l : List Item) {n : List Token} → (token_kind k ≡ 0 → ⊥) → next_is k l ≡ true → CarriesTo r m (after_next l) n
      → CarriesTo r m l (k ∷ n)
  carry-mark k l h e c = let p = next-mark k l h e in rw p.1 (carried_more c)

  pub carry-word : (l : List Item) {n : List Token} → (next_word l ≡ [] → ⊥) → CarriesTo r m (after_next l) n → CarriesTo r m l (word (next_word l) ∷ n)
  carry-word l h c = let p = next-word l h in rw p.1 (carried_more c)

-- ---- what is read has a derivation

expect-parsed : {A : Type 0} (t : Bool) (size : ℕ) (l : List Item) {y : Reading A} {x : A} {r : List Item} → expect t size l y ≡ parsed x r
    → (t ≡ true) × (y ≡ parsed x r)
expect-parsed true size l e = (refl, e)
expect-parsed false size l e = let z : ◌≡◌ {A = ℕ} 0 1 = cc in absurd (omega arith)

then-parsed : {A B : Type 0} (v : Reading A) {S : A → List Item → Reading B} {y : B} {r : List Item} → read_then v S ≡ parsed y r
    → (x : A) × (q : List Item) × (v ≡ parsed x q) × (S x q ≡ parsed y r)
then-parsed (parsed x q) e = (x, q, refl, e)
then-parsed (offends p) e = let z : ◌≡◌ {A = ℕ} 0 1 = cc in absurd (omega arith)

-- What R reads is what D derives, whatever tokens m follow it.
abbrev pub SoundReader : {A : Type 0} → (List Item → Reading A) → (A → List Token → List Token → Type 0) → Type 0
SoundReader {A} R D =
    (l : List Item) (x : A) (r : List Item) (m : List Token) → R l ≡ parsed x r → (k : List Token) × CarriesTo r m l k × D x k m

abbrev pub SideFrom : List (List ℕ) → Side → List Token → List Token → Type 0
SideFrom types (inline b c) k m = TreeFrom types b c k m
SideFrom types (reference t) k m = (k ≡ word t ∷ m) × (among t types ≡ true)

read_none : {l r : List Item} (m : List Token) {x : Bool} → parsed true l ≡ parsed x r → (k : List Token) × CarriesTo r m l k × CardinalityFrom x k m
read_none {l} {r} m {x} e =
    let p : l ≡ r = cc in
    let q : true ≡ x = cc in
    (m, carried_same m p, subst (λ (y : Bool). CardinalityFrom y m m) q no_mark)

read-mark : (x : Bool) (k : Token) (p : ℕ) {l r : List Item} (m : List Token) {y : Bool} → ((m : List Token) → CardinalityFrom x (k ∷ m) m)
    → parsed x l ≡ parsed y r → (j : List Token) × CarriesTo r m (token p k ∷ l) j × CardinalityFrom y j m
read-mark x k p {l} {r} m {y} h e =
    let a : l ≡ r = cc in
    let q : x ≡ y = cc in
    (k ∷ m, carried_more (carried_same m a), subst (λ (z : Bool). CardinalityFrom z (k ∷ m) m) q (h m))

pub cardinality-sound : SoundReader read_cardinality CardinalityFrom
cardinality-sound [] x r m e = read_none m e
cardinality-sound (token p (word w) ∷ l) x r m e = read_none m e
cardinality-sound (token p colon ∷ l) x r m e = read_none m e
cardinality-sound (token p opening ∷ l) x r m e = read_none m e
cardinality-sound (token p closing ∷ l) x r m e = read_none m e
cardinality-sound (token p dot ∷ l) x r m e = read_none m e
cardinality-sound (token p question ∷ l) x r m e = read-mark false question p m (λ m. question_mark) e
cardinality-sound (token p zero_to_one ∷ l) x r m e = read-mark false zero_to_one p m (λ m. optional_mark) e
cardinality-sound (token p one_to_one ∷ l) x r m e = read-mark true one_to_one p m (λ m. mandatory_mark) e
cardinality-sound (fault p q ∷ l) x r m e = let z : ◌≡◌ {A = ℕ} 0 1 = cc in absurd (omega arith)

-- A list from a `.` to a `}` has a child.
pub some-child : {types seen : List (List ℕ)} {c : Children} {k m : List Token} → ChildrenFrom types seen c (dot ∷ k) (closing ∷ m)
    → is_empty_list c ≡ false
some-child (written_child i a q t d) = refl
some-child (named_child i a q t d) = refl

some-child-in : {types seen : List (List ℕ)} {c : Children} {r l : List Item} {k m : List Token} → next_is dot l ≡ true → next_is closing r ≡ true
    → CarriesTo r (closing ∷ m) l k → ChildrenFrom types seen c k (closing ∷ m) → is_empty_list c ≡ false
some-child-in {r} e f carried_here d =
    let p = next-mark dot r (omega arith) e in
    let q = next-mark closing r (omega arith) f in
    let z : token p.0 dot ∷ after_next r ≡ token q.0 closing ∷ after_next r = sym p.1 ∙ q.1 in
    cc
some-child-in e f (carried_more {j = j} x) d = let z : j ≡ dot = kind-is j dot (omega arith) e in some-child (rw z at d)

module _ (size : ℕ) (types : List (List ℕ)) (proper : ProperTypes types) where
  module _ {R : List Item → Reading Children} (s : SoundReader R (ChildrenFrom types [])) where
    -- After a basic word w.
    braces-sound : (b : ℕ) (w : List ℕ) → IsBasic w b → (l : List Item) (x : Side) (r : List Item) (m : List Token)
        → read_braces size R b l ≡ parsed x r → (k : List Token) × CarriesTo r m l k × SideFrom types x (word w ∷ k) m
    unfolding read_braces
    braces-sound b w h l x r m e =
        pick-case (next_is opening l) e
        (λ o f.
        let a = expect-parsed (next_is dot (after_next l)) size (after_next l) f in
        let t = then-parsed (R (after_next l)) a.1 in
        let u = expect-parsed (next_is closing t.1) size t.1 t.3 in
        let q : inline b t.0 ≡ x = cc u.1 in
        let v : after_next t.1 ≡ r = cc u.1 in
        let c : CarriesTo r m t.1 (closing ∷ m) = carry-mark closing t.1 (omega arith) u.0 (carried_same m v) in
        let d = s (after_next l) t.0 t.1 (closing ∷ m) t.2 in (
          opening ∷ d.0,
          carry-mark opening l (omega arith) o (carried_on d.1 c),
          subst (λ (y : Side). SideFrom types y (word w ∷ opening ∷ d.0) m) q
              (braced_tree h (some-child-in a.0 u.0 d.1 d.2) d.2),
        ))
        (λ o f.
        let q : inline b no_more ≡ x = cc in
        let v : l ≡ r = cc in
        (m, carried_same m v, subst (λ (y : Side). SideFrom types y (word w ∷ m) m) q (leaf_tree h)))

    tree-sound-by : (l : List Item) (o : Optional ℕ) → basic_named (next_word l) ≡ o → (x : Side) (r : List Item) (m : List Token)
        → read_type_tree_by size R o l ≡ parsed x r → (k : List Token) × CarriesTo r m l k × SideFrom types x k m
    tree-sound-by l none n x r m e = let z : ◌≡◌ {A = ℕ} 0 1 = cc in absurd (omega arith)
    tree-sound-by l (some b) n x r m e =
        let d = braces-sound b (next_word l) (named-basic (next_word l) b n) (after_next l) x r m e in
        let full : next_word l ≡ [] → ⊥ = λ q. (let z : ◌≡◌ {A = ℕ} 0 1 = cc (no-bytes-basic) in omega arith) in
        (word (next_word l) ∷ d.0, carry-word l full d.1, d.2)

    pub tree-sound : SoundReader (read_type_tree size R) (SideFrom types)
    tree-sound l x r m e = tree-sound-by l (basic_named (next_word l)) refl x r m e

    pub side-sound : SoundReader (read_side size types R) (SideFrom types)
    side-sound l x r m e =
        pick-case (among (next_word l) types) e
        (λ a f.
        let q : reference (next_word l) ≡ x = cc in
        let v : after_next l ≡ r = cc in
        let i = (proper (next_word l) a).0 in
        let full : next_word l ≡ [] → ⊥ = λ z. clash i (ap is_name z) in (
          word (next_word l) ∷ m,
          carry-word l full (carried_same m v),
          subst (λ (y : Side). SideFrom types y (word (next_word l) ∷ m) m) q (refl, a),
        ))
        (λ a f. tree-sound l x r m f)

  pub side-child : (seen : List (List ℕ)) (n : List ℕ) (y : Bool) (x : Side) (d : Children) {k l l' r : List Token} → is_name n ≡ true → among n seen ≡ false
      → CardinalityFrom y k (colon ∷ l) → SideFrom types x l l' → ChildrenFrom types (n ∷ seen) d l' r
      → ChildrenFrom types seen (child_of n y x d) (dot ∷ word n ∷ k) r
  side-child seen n y (inline b c) d i a q t h = written_child i a q t h
  side-child seen n y (reference t) d {k} i a q s h = named_child i a (subst (λ (z : List Token). CardinalityFrom y k (colon ∷ z)) s.0 q) s.1 h

  -- After the child's name n.
  child-sound : (seen : List (List ℕ)) (n : List ℕ) {R M : List Item → Reading Children} → is_name n ≡ true → among n seen ≡ false
      → SoundReader R (ChildrenFrom types []) → SoundReader M (ChildrenFrom types (n ∷ seen))
      → SoundReader (read_child size types R M n) (λ c k m. ChildrenFrom types seen c (dot ∷ word n ∷ k) m)
  unfolding read_child
  child-sound seen n {R} {M} i a s u l x r m e =
      let t = then-parsed (read_cardinality l) e in
      let v = expect-parsed (next_is colon t.1) size t.1 t.3 in
      let w = then-parsed (read_side size types R (after_next t.1)) v.1 in
      let z = then-parsed (M w.1) w.3 in
      let q : child_of n t.0 w.0 z.0 ≡ x = cc z.3 in
      let b : z.1 ≡ r = cc z.3 in
      let d₁ = u w.1 z.0 z.1 m z.2 in
      let d₂ = side-sound s (after_next t.1) w.0 w.1 d₁.0 w.2 in
      let d₃ = cardinality-sound l t.0 t.1 (colon ∷ d₂.0) t.2 in
      let c : CarriesTo r m w.1 d₁.0 = subst (λ (y : List Item). CarriesTo y m w.1 d₁.0) b d₁.1 in (
        d₃.0,
        carried_on d₃.1 (carry-mark colon t.1 {n = d₂.0} (omega arith) v.0 (carried_on d₂.1 c)),
        subst (λ (y : Children). ChildrenFrom types seen y (dot ∷ word n ∷ d₃.0) m) q
            (side-child seen n t.0 w.0 z.0 {k = d₃.0} {l = d₂.0} {l' = d₁.0} i a d₃.2 d₂.2 d₁.2),
      )

  no-child-sound : (seen : List (List ℕ)) → SoundReader (λ l. parsed no_more l) (ChildrenFrom types seen)
  no-child-sound seen l x r m e =
      let q : no_more ≡ x = cc in
      let v : l ≡ r = cc in
      (m, carried_same m v, subst (λ (y : Children). ChildrenFrom types seen y m m) q no_child)

  pub children-sound : (f : ℕ) (seen : List (List ℕ)) → SoundReader (read_children size types f seen) (ChildrenFrom types seen)
  unfolding read_children
  children-sound zero seen l x r m e = no-child-sound seen l x r m e
  children-sound (suc f) seen l x r m e =
      pick-case (next_is dot l) e
      (λ o g.
      let n = next_word (after_next l) in
      let a = expect-parsed (is_name n && not (among n seen)) size (after_next l) g in
      let b = and-of (is_name n) (not (among n seen)) a.0 in
      let full : n ≡ [] → ⊥ = λ z. clash b.0 (ap is_name z) in
      let d = child-sound seen n b.0 (not-true (among n seen) b.1) (children-sound f []) (children-sound f (n ∷ seen))
      (after_next (after_next l)) x r m a.1 in
      (dot ∷ word n ∷ d.0, carry-mark dot l (omega arith) o (carry-word (after_next l) full d.1), d.2))
      (λ o g. no-child-sound seen l x r m g)

  -- Of items that carry k, what is left carries what follows in k.
  pub children-sound-carried : (f : ℕ) (seen : List (List ℕ)) (l : List Item) {c : Children} {r : List Item} {k : List Token}
      → read_children size types f seen l ≡ parsed c r → Carries l k → (m : List Token) × Carries r m × ChildrenFrom types seen c k m
  children-sound-carried f seen l {c} {r} {k} e a =
      let d = carried-rest (children-sound f seen l c r [] e).1 a in
      let x = children-sound f seen l c r d.0 e in
      let q : x.0 ≡ k = carries-unique (carries-from x.1 d.1) a in
      (d.0, d.1, subst (λ (n : List Token). ChildrenFrom types seen c n d.0) q x.2)

  -- The right side of a declaration is a tree.
  module _ (R : List Item → Reading Children) {x : Side} {r : List Item} where
    braces-inline : (b : ℕ) (l : List Item) → read_braces size R b l ≡ parsed x r → (b : ℕ) × (c : Children) × (x ≡ inline b c)
    unfolding read_braces
    braces-inline b l e =
        pick-case (next_is opening l) e
        (λ o f.
        let a = expect-parsed (next_is dot (after_next l)) size (after_next l) f in
        let t = then-parsed (R (after_next l)) a.1 in
        let u = expect-parsed (next_is closing t.1) size t.1 t.3 in
        (b, t.0, cc u.1))
        (λ o f. (b, no_more, cc))

    pub tree-inline : (o : Optional ℕ) (l : List Item) → read_type_tree_by size R o l ≡ parsed x r → (b : ℕ) × (c : Children) × (x ≡ inline b c)
    tree-inline none l e = let z : ◌≡◌ {A = ℕ} 0 1 = cc in absurd (omega arith)
    tree-inline (some b) l e = braces-inline b (after_next l) e

  declaration-sound : (n : List ℕ) {R : List Item → Reading Children} {M : List Item → Reading (List Declaration)} (b : ℕ)
      → is_name n ≡ true → basic_named n ≡ none → among n types ≡ false → SoundReader R (ChildrenFrom types [])
      → ((l : List Item) (ds : List Declaration) (r : List Item) → length l ≤ b → M l ≡ parsed ds r
      → (k : List Token) × Carries l k × DeclarationsFrom (n ∷ types) ds k × (r ≡ []))
      → OneAhead size R
      → (l : List Item) (ds : List Declaration) (r : List Item) → length l ≤ b → read_declaration size R M n l ≡ parsed ds r
      → (k : List Token) × Carries l k × DeclarationsFrom types ds (word type_word ∷ word n ∷ k) × (r ≡ [])
  unfolding read_declaration
  declaration-sound n {R} {M} b i nb a s u lr l x r h e =
      let v = expect-parsed (next_is colon l) size l e in
      let w = then-parsed (read_type_tree size R (after_next l)) v.1 in
      let z = then-parsed (M w.1) w.3 in
      let y = tree-inline R (basic_named (next_word (after_next l))) (after_next l) w.2 in
      let sh = ahead-shorter (after_next l) (ahead-tree size lr) w.2 in
      let q : declaration n y.0 y.1 ∷ z.0 ≡ x = ap {B = List Declaration} (λ o. declaration_of n o ∷ z.0) (sym y.2) ∙ cc z.3 in
      let d₁ = u w.1 z.0 z.1 (omega (arith, after-shorter l)) z.2 in
      let d₂ = tree-sound s (after_next l) w.0 w.1 d₁.0 w.2 in
      let t : TreeFrom types y.0 y.1 d₂.0 d₁.0 = subst (λ (o : Side). SideFrom types o d₂.0 d₁.0) y.2 d₂.2 in
      let no : (k : ℕ) → IsBasic n k → ⊥ = λ k g. (let z : ◌≡◌ {A = ℕ} 0 1 = cc (basic-named n k g) in omega arith) in (
        colon ∷ d₂.0,
        carries-from (carry-mark colon l {n = d₂.0} (omega arith) v.0 d₂.1) d₁.1,
        subst (λ (o : List Declaration). DeclarationsFrom types o (word type_word ∷ word n ∷ colon ∷ d₂.0)) q (one_declaration i no a t d₁.2),
        cc z.3,
      )

pub no-type-word : type_word ≡ [] → ⊥
no-type-word e = let z : ◌≡◌ {A = ℕ} 0 1 = cc in omega arith

-- Declarations that are read have a derivation, and nothing follows them.
pub declarations-sound : (size f : ℕ) (types : List (List ℕ)) → ProperTypes types → (l : List Item) (ds : List Declaration) (r : List Item) → length l ≤ f
    → read_declarations size f types l ≡ parsed ds r → (k : List Token) × Carries l k × DeclarationsFrom types ds k × (r ≡ [])
unfolding read_declarations
declarations-sound size zero types p [] ds r h e = ([], carries_none, subst (λ (o : List Declaration). DeclarationsFrom types o []) (cc) no_declaration, cc)
declarations-sound size zero types p (i ∷ l) ds r h e = absurd (omega arith)
declarations-sound size (suc f) types p [] ds r h e = ([], carries_none, subst (λ (o : List Declaration). DeclarationsFrom types o []) (cc) no_declaration, cc)
declarations-sound size (suc f) types p (j ∷ l) ds r h e =
    let w = next_word (j ∷ l) in
    let n = next_word l in
    let a = expect-parsed (same_word type_word w) size (j ∷ l) e in
    let b = expect-parsed (is_new_type types n) size l a.1 in
    let c = new-type types n b.0 in
    let full : n ≡ [] → ⊥ = λ z. clash c.0 (ap is_name z) in
    let tw : type_word ≡ w = same-word-is type_word w a.0 in
    let d = declaration-sound size types p n f c.0 c.1 c.2 (children-sound size types p f [])
    (λ m xs q g. declarations-sound size f (n ∷ types) (proper-more types n p c.0 c.1) m xs q g) (ahead-children size types f [])
    (after_next l) ds r (omega (arith, after-shorter l)) b.1 in (
      word w ∷ word n ∷ d.0,
      carries-from (carry-word (j ∷ l) {n = word n ∷ d.0} (λ z. no-type-word (tw ∙ z)) (carry-word l full carried_here)) d.1,
      subst (λ (v : List ℕ). DeclarationsFrom types ds (word v ∷ word n ∷ d.0)) tw d.2,
      d.3,
    )

-- ---- every derivation is read

-- Is the next one the mark k?
abbrev pub begins_with : Token → List Token → Bool
begins_with k [] = false
begins_with k (j ∷ m) = eqb (token_kind j) (token_kind k)

next-carried : (k : Token) {l : List Item} {m : List Token} → Carries l m → next_is k l ≡ begins_with k m
next-carried k carries_none = refl
next-carried k (carries_more c) = refl

-- A list with a child begins with a `.`.
child-dot : {types seen : List (List ℕ)} {c : Children} {k m : List Token} → ChildrenFrom types seen c k m → is_empty_list c ≡ false → begins_with dot k ≡ true
child-dot no_child e = true-false e
child-dot (written_child i a q t d) e = refl
child-dot (named_child i a q t d) e = refl

-- No list of children begins with a brace, where none follows it.
child-no-brace : {types seen : List (List ℕ)} {c : Children} {k m : List Token} → ChildrenFrom types seen c k m → begins_with opening m ≡ false
    → begins_with opening k ≡ false
child-no-brace no_child e = e
child-no-brace (written_child i a q t d) e = refl
child-no-brace (named_child i a q t d) e = refl

cardinality-complete : {x : Bool} {k m : List Token} → CardinalityFrom x k (colon ∷ m) → {l : List Item} → Carries l k
    → (p : ℕ) × (r : List Item) × Carries r m × (read_cardinality l ≡ parsed x (token p colon ∷ r))
cardinality-complete question_mark (carries_more (carries_more {p} {l = r} c)) = (p, r, c, refl)
cardinality-complete optional_mark (carries_more (carries_more {p} {l = r} c)) = (p, r, c, refl)
cardinality-complete mandatory_mark (carries_more (carries_more {p} {l = r} c)) = (p, r, c, refl)
cardinality-complete no_mark (carries_more {p} {l = r} c) = (p, r, c, refl)

-- Of the items l the reader R reads x, and those that are left carry m.
pub record ReadsTo {A : Type 0} (R : List Item → Reading A) (l : List Item) (x : A) (m : List Token) : Type 0 where
  pub left : List Item
  pub carried : Carries left m
  pub read : R l ≡ parsed x left

module _ (size : ℕ) (types : List (List ℕ)) (proper : ProperTypes types) where
  braced : (R : List Item → Reading Children) (b p : ℕ) {c : Children} {l r : List Item} {m : List Token} → next_is dot l ≡ true → R l ≡ parsed c r
      → Carries r (closing ∷ m) → ReadsTo (read_braces size R b) (token p opening ∷ l) (inline b c) m
  unfolding read_braces
  braced R b p e f (carries_more {l = r} c) = record { left = r; carried = c; read = rw (e, f) refl }

  unbraced : (R : List Item → Reading Children) (b : ℕ) {l : List Item} {m : List Token} → begins_with opening m ≡ false → Carries l m
      → ReadsTo (read_braces size R b) l (inline b no_more) m
  unfolding read_braces
  unbraced R b {l} {m} e c = record { left = l; carried = c; read = rw (next-carried opening c ∙ e) refl }

  tree-read : (R : List Item → Reading Children) (w : List ℕ) (b p : ℕ) {c : Children} {l : List Item} {m : List Token} → IsBasic w b
      → ReadsTo (read_braces size R b) l (inline b c) m → ReadsTo (read_type_tree size R) (token p (word w) ∷ l) (inline b c) m
  tree-read R w b p h a = record { left = a.left; carried = a.carried; read = rw (basic-named w b h) a.read }

  tree-basic : {b : ℕ} {c : Children} {k m : List Token} → TreeFrom types b c k m → {l : List Item} → Carries l k → basic_named (next_word l) ≡ some b
  tree-basic (leaf_tree {w = w} {b = b} h) (carries_more c) = basic-named w b h
  tree-basic (braced_tree {w = w} {b = b} h e d) (carries_more c) = basic-named w b h

  -- A basic word names no type.
  basic-apart : (w : List ℕ) {b : ℕ} → basic_named w ≡ some b → among w types ≡ false
  basic-apart w e = by (among w types) refl
    where
      by : (t : Bool) → among w types ≡ t → t ≡ false
      by false f = refl
      by true f = let n = (proper w f).1 in (let z : ◌≡◌ {A = ℕ} 0 1 = cc in absurd (omega arith))

  side-tree : (R : List Item → Reading Children) {b : ℕ} {c : Children} {k m : List Token} → TreeFrom types b c k m → {l : List Item} → Carries l k
      → ReadsTo (read_type_tree size R) l (inline b c) m → ReadsTo (read_side size types R) l (inline b c) m
  side-tree R t {l} c a = record { left = a.left; carried = a.carried; read = rw (basic-apart (next_word l) (tree-basic t c)) a.read }

  side-named : (R : List Item → Reading Children) (t : List ℕ) {m : List Token} → among t types ≡ true → {l : List Item} → Carries l (word t ∷ m)
      → ReadsTo (read_side size types R) l (reference t) m
  side-named R t e (carries_more {l = r} c) = record { left = r; carried = c; read = rw e refl }

  child-complete : (n : List ℕ) {x : Bool} {R M : List Item → Reading Children} {l : List Item} {k k₁ k₂ m : List Token} (s : Side) (d : Children)
      → OneAhead size R → CardinalityFrom x k (colon ∷ k₁) → Carries l k
      → ((l₁ : List Item) → length l₁ ≤ length l → Carries l₁ k₁ → ReadsTo (read_side size types R) l₁ s k₂)
      → ((l₂ : List Item) → length l₂ ≤ length l → Carries l₂ k₂ → ReadsTo M l₂ d m)
      → ReadsTo (read_child size types R M n) l (child_of n x s d) m
  unfolding read_child
  child-complete n {x} {R} {M} {l} s d lr q c f g =
      let a = cardinality-complete q c in
      let h = ahead-shorter l (ahead-cardinality size) a.3 in
      let b = f a.1 (omega arith) a.2 in
      let j = ahead-shorter a.1 (ahead-side size lr types) b.read in
      let e = g b.left (omega arith) b.carried in
      record { left = e.left; carried = e.carried; read = rw (a.3, b.read, e.read) refl }

  -- A child whose name is new in its list.
  list-complete : (f : ℕ) (seen : List (List ℕ)) (n : List ℕ) (p q : ℕ) {c : Children} {l : List Item} {m : List Token} → is_name n ≡ true
      → among n seen ≡ false → ReadsTo (read_child size types (read_children size types f []) (read_children size types f (n ∷ seen)) n) l c m
      → ReadsTo (read_children size types (suc f) seen) (token p dot ∷ token q (word n) ∷ l) c m
  unfolding read_children
  list-complete f seen n p q i a r = record { left = r.left; carried = r.carried; read = rw (i, a) r.read }

  no-child-complete : (f : ℕ) (seen : List (List ℕ)) {l : List Item} {m : List Token} → begins_with dot m ≡ false → Carries l m
      → ReadsTo (read_children size types f seen) l no_more m
  unfolding read_children
  no-child-complete zero seen {l} e c = record { left = l; carried = c; read = refl }
  no-child-complete (suc f) seen {l} e c = record { left = l; carried = c; read = rw (next-carried dot c ∙ e) refl }

mutual
  pub tree-complete : {types : List (List ℕ)} {b : ℕ} {c : Children} {k m : List Token} → TreeFrom types b c k m → (size : ℕ) → ProperTypes types → (f : ℕ)
      {l : List Item} → length l ≤ f → Carries l k → begins_with opening m ≡ false
      → ReadsTo (read_type_tree size (read_children size types f [])) l (inline b c) m
  tree-complete (leaf_tree {types = types} {w = w} {b = b} h) size z f n (carries_more {p} c) o =
      let R = read_children size types f [] in
      tree-read size types z R w b p h (unbraced size types z R b o c)
  tree-complete (braced_tree {types = types} {w = w} {b = b} h e d) size z f n (carries_more {p} (carries_more {p = q} c)) o =
      let R = read_children size types f [] in
      let a = children-complete d size z f (omega arith) c refl refl in
      tree-read size types z R w b p h (braced size types z R b q (next-carried dot c ∙ child-dot d e) a.read a.carried)

  pub children-complete : {types seen : List (List ℕ)} {c : Children} {k m : List Token} → ChildrenFrom types seen c k m → (size : ℕ) → ProperTypes types
      → (f : ℕ) {l : List Item} → length l ≤ f → Carries l k → begins_with dot m ≡ false → begins_with opening m ≡ false
      → ReadsTo (read_children size types f seen) l c m
  children-complete (no_child {types = types} {seen = seen}) size z f n c e o = no-child-complete size types z f seen e c
  children-complete (written_child {types = types} {seen = seen} {n = w} {b = b} {c = cs} {d = ds} i a q t d) size z zero n (carries_more (carries_more c)) e o =
      absurd (omega arith)
  children-complete (written_child {types = types} {seen = seen} {n = w} {b = b} {c = cs} {d = ds} i a q t d) size z (suc f) n
      (carries_more {p} (carries_more {p = p'} c)) e o =
      list-complete size types z f seen w p p' i a (child-complete size types z w (inline b cs) ds (ahead-children size types f []) q c
      (λ l₁ h c₁. side-tree size types z (read_children size types f []) t c₁ (tree-complete t size z f (omega arith) c₁ (child-no-brace d o)))
      (λ l₂ h c₂. children-complete d size z f (omega arith) c₂ e o))
  children-complete (named_child {types = types} {seen = seen} {n = w} {t = t} {d = ds} i a q g d) size z zero n (carries_more (carries_more c)) e o =
      absurd (omega arith)
  children-complete (named_child {types = types} {seen = seen} {n = w} {t = t} {d = ds} i a q g d) size z (suc f) n
      (carries_more {p} (carries_more {p = p'} c)) e o =
      list-complete size types z f seen w p p' i a (child-complete size types z w (reference t) ds (ahead-children size types f []) q c
      (λ l₁ h c₁. side-named size types z (read_children size types f []) t g c₁)
      (λ l₂ h c₂. children-complete d size z f (omega arith) c₂ e o))

declarations-no-brace : {types : List (List ℕ)} {ds : List Declaration} {k : List Token} → DeclarationsFrom types ds k → begins_with opening k ≡ false
declarations-no-brace no_declaration = refl
declarations-no-brace (one_declaration i h a t d) = refl

-- A declaration with a new name, and those after it.
declaration-complete : (size f : ℕ) (types : List (List ℕ)) (n : List ℕ) (b p q z : ℕ) (c : Children) (ds : List Declaration) (l : List Item) {r : List Item}
    → is_new_type types n ≡ true → read_type_tree size (read_children size types f []) l ≡ parsed (inline b c) r
    → read_declarations size f (n ∷ types) r ≡ parsed ds []
    → read_declarations size (suc f) types (token p (word type_word) ∷ token q (word n) ∷ token z colon ∷ l) ≡ parsed (declaration n b c ∷ ds) []
unfolding read_declarations read_declaration
declaration-complete size f types n b p q z c ds l i t d = rw (same-word-self type_word, i, t, d) refl

pub declarations-complete : {types : List (List ℕ)} {ds : List Declaration} {k : List Token} → DeclarationsFrom types ds k → (size : ℕ) → ProperTypes types
    → (f : ℕ) {l : List Item} → length l ≤ f → Carries l k → read_declarations size f types l ≡ parsed ds []
unfolding read_declarations
declarations-complete no_declaration size z zero n carries_none = refl
declarations-complete no_declaration size z (suc f) n carries_none = refl
declarations-complete (one_declaration i h a t d) size z zero n (carries_more c) = absurd (omega arith)
declarations-complete (one_declaration {types = types} {n = w} {b = b} {c = cs} {ds = ds} i h a t d) size z (suc f) n
    (carries_more {p} (carries_more {p = p'} (carries_more {p = p''} {l = l} c))) =
    let e = not-basic w h in
    let r = tree-complete t size z f (omega arith) c (declarations-no-brace d) in
    let s = ahead-shorter l (ahead-tree size (ahead-children size types f [])) r.read in
    declaration-complete size f types w b p p' p'' cs ds l (new-type-of types w i e a) r.read
    (declarations-complete d size (proper-more types w z i e) f (omega arith) r.carried)
