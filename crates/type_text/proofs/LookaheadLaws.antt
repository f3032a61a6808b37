-- The reader looks one item ahead: what it reads is settled by the items that it takes and the next one, an offence by its own item and those before it.
use Rattle.std.specs.Prelude.{◌≡◌, Bool, true, false, ◌&&◌, length, eqb}
use Rattle.std.proofs.Math.Path.{refl}
use Rattle.std.proofs.Common.{sym, ap, ◌∙◌, arith, length-append}
use mathlib.Core.List.{List, [], ◌∷◌, ◌++◌, append_assoc}
use Rattle.std.proofs.Math.Bool.{not}
use Prim.Native.Nat.{ℕ, zero, suc, ◌≤◌, ◌<◌}
use Rattle.basics.specs.Choice.{pick}
use Rattle.network_syntax.specs.Syntax.{Optional, none, some}
use Rattle.type_text.specs.Spelling.{Token, word, colon, opening, closing, dot, question, zero_to_one, one_to_one}
use Rattle.type_text.specs.Grammar.{same_word, among, is_name, type_word, Children, no_more, Declaration}
use Rattle.type_text.specs.Reader.{Item, token, fault, Reading, parsed, offends, read_then, next_place, expect, at_end, after_next, token_kind, next_is}
use Rattle.type_text.specs.Reader.{next_word, basic_named, read_cardinality, inline, reference, child_of, declaration_of, is_new_type, read_braces}
use Rattle.type_text.specs.Reader.{read_type_tree_by, read_type_tree, read_side, read_child, read_children, read_declaration, read_declarations}

-- A cardinality in brackets at p, whole or broken off.
pub data Bracket (p : ℕ) : Item → Type 0 where
  bracket_zero : Bracket p (token p zero_to_one)
  bracket_one : Bracket p (token p one_to_one)
  bracket_part : {q : ℕ} → p < q → Bracket p (fault p q)

-- Both begin with the same item, or each with brackets at p.
pub data Alike (p : ℕ) : List Item → List Item → Type 0 where
  alike_end : Alike p [] []
  alike_same : {i : Item} {l m : List Item} → Alike p (i ∷ l) (i ∷ m)
  alike_bracket : {i j : Item} {l m : List Item} → Bracket p i → Bracket p j → Alike p (i ∷ l) (j ∷ m)

-- The offending byte is the first of the items, or the one inside a broken cardinality.
pub data Offence (size p : ℕ) : List Item → Type 0 where
  offence_next : {o : List Item} → p ≡ next_place size o → Offence size p o
  offence_inside : {q : ℕ} {l : List Item} → Offence size p (fault q p ∷ l)

-- What a reader R gives for the items l is settled by those that it takes, t, and the next one.
abbrev pub OneAheadAt : {A : Type 0} → ℕ → (List Item → Reading A) → List Item → Reading A → Type 0
OneAheadAt size R l (parsed x r) = (t : List Item) × (l ≡ t ++ r) × ((p : ℕ) (r' : List Item) → Alike p r r' → R (t ++ r') ≡ parsed x r')
OneAheadAt size R l (offends p) =
    (t : List Item) × (o : List Item) × (l ≡ t ++ o) × Offence size p o × ((o' : List Item) → Alike p o o' → R (t ++ o') ≡ offends p)

pub record OneAhead {A : Type 0} (size : ℕ) (R : List Item → Reading A) : Type 0 where
  pub settled : (l : List Item) → OneAheadAt size R l (R l)

-- ---- what begins alike

pub alike_self : (p : ℕ) (l : List Item) → Alike p l l
alike_self p [] = alike_end
alike_self p (i ∷ l) = alike_same

pub alike-append : (p : ℕ) (t : List Item) {l m : List Item} → Alike p l m → Alike p (t ++ l) (t ++ m)
alike-append p [] a = a
alike-append p (i ∷ t) a = alike_same

-- A value that goes by the next item only.
abbrev pub Heads : {B : Type 0} → (List Item → B) → Type 0
Heads g = (p : ℕ) (l m : List Item) → Alike p l m → g l ≡ g m

bracket-word : {p : ℕ} {i : Item} (l : List Item) → Bracket p i → next_word (i ∷ l) ≡ []
bracket-word l bracket_zero = refl
bracket-word l bracket_one = refl
bracket-word l (bracket_part h) = refl

same-word-of : (i : Item) (l m : List Item) → next_word (i ∷ l) ≡ next_word (i ∷ m)
same-word-of (token p k) l m = refl
same-word-of (fault p q) l m = refl

pub heads-word : Heads next_word
heads-word p l m alike_end = refl
heads-word p l m (alike_same {i = i} {l = l'} {m = m'}) = same-word-of i l' m'
heads-word p l m (alike_bracket {l = l'} {m = m'} b c) = bracket-word l' b ∙ sym (bracket-word m' c)

bracket-place : {p : ℕ} {i : Item} (size : ℕ) (l : List Item) → Bracket p i → next_place size (i ∷ l) ≡ p
bracket-place size l bracket_zero = refl
bracket-place size l bracket_one = refl
bracket-place size l (bracket_part h) = refl

same-place-of : (size : ℕ) (i : Item) (l m : List Item) → next_place size (i ∷ l) ≡ next_place size (i ∷ m)
same-place-of size (token p k) l m = refl
same-place-of size (fault p q) l m = refl

pub heads-place : (size : ℕ) → Heads (next_place size)
heads-place size p l m alike_end = refl
heads-place size p l m (alike_same {i = i} {l = l'} {m = m'}) = same-place-of size i l' m'
heads-place size p l m (alike_bracket {l = l'} {m = m'} b c) = bracket-place size l' b ∙ sym (bracket-place size m' c)

pub heads-end : Heads at_end
heads-end p l m alike_end = refl
heads-end p l m alike_same = refl
heads-end p l m (alike_bracket b c) = refl

module _ (k : Token) (e : eqb 6 (token_kind k) ≡ false) (f : eqb 7 (token_kind k) ≡ false) where
  bracket-is : {p : ℕ} {i : Item} (l : List Item) → Bracket p i → next_is k (i ∷ l) ≡ false
  bracket-is l bracket_zero = e
  bracket-is l bracket_one = f
  bracket-is l (bracket_part h) = refl

  same-is-of : (i : Item) (l m : List Item) → next_is k (i ∷ l) ≡ next_is k (i ∷ m)
  same-is-of (token p j) l m = refl
  same-is-of (fault p q) l m = refl

  -- Is the next item a mark that is no cardinality in brackets?
  pub heads-is : Heads (next_is k)
  heads-is p l m alike_end = refl
  heads-is p l m (alike_same {i = i} {l = l'} {m = m'}) = same-is-of i l' m'
  heads-is p l m (alike_bracket {l = l'} {m = m'} b c) = bracket-is l' b ∙ sym (bracket-is m' c)

-- ---- a cardinality

-- Brackets are an item of one of the last kinds.
abbrev kind-of : Item → ℕ
kind-of (token p k) = token_kind k
kind-of (fault p q) = 6

bracket-kind : {p : ℕ} {i : Item} → Bracket p i → 6 ≤ kind-of i
bracket-kind bracket_zero = omega arith
bracket-kind bracket_one = omega arith
bracket-kind (bracket_part h) = omega arith

bracket-part : {p a b : ℕ} → Bracket p (fault a b) → p < b
bracket-part (bracket_part h) = h

inside-same : {p q : ℕ} {l m : List Item} → Alike q (fault p q ∷ l) m → read_cardinality m ≡ offends q
inside-same alike_same = refl
inside-same (alike_bracket b c) = let h = bracket-part b in absurd (omega arith)

-- ---- readers made of others

no_items : {i : Item} {l : List Item} {P : Type 0} → [] ≡ i ∷ l → P
no_items e = let z : ◌≡◌ {A = ℕ} 0 1 = cc in absurd (omega arith)

after-end : {A : Type 0} (S : List Item → Reading A) (W : List Item → Reading A) (p : ℕ) (t r : List Item) → [] ≡ t ++ r
    → ((r' : List Item) → Alike p r r' → S (t ++ r') ≡ W r') → (r' : List Item) → Alike p r r' → S (after_next (t ++ r')) ≡ W r'
after-end S W p [] [] e h r' alike_end = h [] alike_end
after-end S W p [] (i ∷ r) e h r' a = no_items e
after-end S W p (i ∷ t) r e h r' a = no_items e

module _ (size : ℕ) where
  ahead-parsed : {A : Type 0} (x : A) → OneAhead size (λ l. parsed x l)
  ahead-parsed x = record { settled = λ l. ([], refl, λ p r' a. refl) }

  ahead-offends : {A : Type 0} → OneAhead {A = A} size (λ l. offends (next_place size l))
  ahead-offends = record { settled = λ l. ([], l, refl, offence_next refl, λ o' a. ap offends (sym (heads-place size _ l o' a))) }

  module _ {A B : Type 0} (R : List Item → Reading A) (S : A → List Item → Reading B) (l : List Item) where
    then_by : (x : A) (r : List Item) → OneAheadAt size R l (parsed x r) → (v : Reading B) → OneAheadAt size (S x) r v
        → OneAheadAt size (λ l. read_then (R l) S) l v
    then_by x r a (parsed y r₂) b = (
      a.0 ++ b.0,
      a.1 ∙ rw b.1 (sym (append_assoc a.0 b.0 r₂)),
      λ p r' h.
          let q : R (a.0 ++ (b.0 ++ r')) ≡ parsed x (b.0 ++ r') = a.2 p (b.0 ++ r') (rw b.1 (alike-append p b.0 h)) in
          rw (append_assoc, q) (b.2 p r' h),
    )
    then_by x r a (offends p) b = (
      a.0 ++ b.0,
      b.1,
      a.1 ∙ rw b.2 (sym (append_assoc a.0 b.0 b.1)),
      b.3,
      λ o' h.
          let q : R (a.0 ++ (b.0 ++ o')) ≡ parsed x (b.0 ++ o') = a.2 p (b.0 ++ o') (rw b.2 (alike-append p b.0 h)) in
          rw (append_assoc, q) (b.4 o' h),
    )

    then_at : (v : Reading A) → OneAheadAt size R l v → ((x : A) → OneAhead size (S x)) → OneAheadAt size (λ l. read_then (R l) S) l (read_then v S)
    then_at (parsed x r) a s = then_by x r a (S x r) ((s x).settled r)
    then_at (offends p) a s = (a.0, a.1, a.2, a.3, λ o' h. rw (a.4 o' h) refl)

  ahead-then : {A B : Type 0} {R : List Item → Reading A} {S : A → List Item → Reading B}
      → OneAhead size R → ((x : A) → OneAhead size (S x)) → OneAhead size (λ l. read_then (R l) S)
  ahead-then {R} {S} a s = record { settled = λ l. then_at R S l (R l) (a.settled l) s }

  module _ {A B : Type 0} (g : List Item → B) (h : Heads g) (S : B → List Item → Reading A) (l : List Item) where
    on-by : (v : Reading A) → OneAheadAt size (S (g l)) l v → OneAheadAt size (λ l. S (g l) l) l v
    on-by (parsed x r) a = (
      a.0,
      a.1,
      λ p r' e. let q : g (a.0 ++ r') ≡ g l = sym (ap g a.1 ∙ h p _ _ (alike-append p a.0 e)) in rw q (a.2 p r' e),
    )
    on-by (offends p) a = (
      a.0,
      a.1,
      a.2,
      a.3,
      λ o' e. let q : g (a.0 ++ o') ≡ g l = sym (ap g a.2 ∙ h p _ _ (alike-append p a.0 e)) in rw q (a.4 o' e),
    )

  -- By a value that the next item tells.
  ahead-on : {A B : Type 0} {g : List Item → B} (S : B → List Item → Reading A) → Heads g → ((b : B) → OneAhead size (S b))
      → OneAhead size (λ l. S (g l) l)
  ahead-on {g} S h s = record { settled = λ l. on-by g h S l (S (g l) l) ((s (g l)).settled l) }

  ahead-when : {A : Type 0} (b : Bool) {S U : List Item → Reading A} → OneAhead size S → OneAhead size U → OneAhead size (λ l. pick b (S l) (U l))
  ahead-when true s u = s
  ahead-when false s u = u

  -- By a test of the next item.
  ahead-pick : {A : Type 0} {g : List Item → Bool} {S U : List Item → Reading A} → Heads g → OneAhead size S → OneAhead size U
      → OneAhead size (λ l. pick (g l) (S l) (U l))
  ahead-pick {A} {g} {S} {U} h s u = ahead-on (λ (b : Bool) (l : List Item). pick b (S l) (U l)) h (λ b. ahead-when b s u)

  ahead-expect : {A : Type 0} {g : List Item → Bool} {S : List Item → Reading A} → Heads g → OneAhead size S → OneAhead size (λ l. expect (g l) size l (S l))
  ahead-expect h s = ahead-pick h s ahead-offends

  module _ {A : Type 0} (S : List Item → Reading A) where
    after-by : (l : List Item) (v : Reading A) → OneAheadAt size S (after_next l) v → OneAheadAt size (λ l. S (after_next l)) l v
    after-by [] (parsed x r) a = (a.0, a.1, λ p. after-end S (parsed x) p a.0 r a.1 (a.2 p))
    after-by [] (offends p) a = (a.0, a.1, a.2, a.3, after-end S (λ r. offends p) p a.0 a.1 a.2 a.4)
    after-by (i ∷ l) (parsed x r) a = (i ∷ a.0, ap {B = List Item} (λ z. i ∷ z) a.1, a.2)
    after-by (i ∷ l) (offends p) a = (i ∷ a.0, a.1, ap {B = List Item} (λ z. i ∷ z) a.2, a.3, a.4)

  ahead_after : {A : Type 0} {S : List Item → Reading A} → OneAhead size S → OneAhead size (λ l. S (after_next l))
  ahead_after {S} s = record { settled = λ l. after-by S l (S (after_next l)) (s.settled (after_next l)) }

  unmarked : (i : Item) (l : List Item) → ((p : ℕ) → Bracket p i → ⊥) → ((m : List Item) → read_cardinality (i ∷ m) ≡ parsed true (i ∷ m))
      → OneAheadAt size read_cardinality (i ∷ l) (parsed true (i ∷ l))
  unmarked i l n h = ([], refl, λ p r' a. by p r' a)
    where
      by : (p : ℕ) (r' : List Item) → Alike p (i ∷ l) r' → read_cardinality r' ≡ parsed true r'
      by p r' (alike_same {m = m}) = h m
      by p r' (alike_bracket b c) = absurd (n p b)

  cardinality-at : (l : List Item) → OneAheadAt size read_cardinality l (read_cardinality l)
  cardinality-at [] = ([], refl, λ p r' a. at-end p r' a)
    where
      at-end : (p : ℕ) (r' : List Item) → Alike p [] r' → read_cardinality r' ≡ parsed true r'
      at-end p r' alike_end = refl
  cardinality-at (token p (word w) ∷ l) = unmarked (token p (word w)) l (λ q b. let h = bracket-kind b in absurd (omega arith)) (λ m. refl)
  cardinality-at (token p colon ∷ l) = unmarked (token p colon) l (λ q b. let h = bracket-kind b in absurd (omega arith)) (λ m. refl)
  cardinality-at (token p opening ∷ l) = unmarked (token p opening) l (λ q b. let h = bracket-kind b in absurd (omega arith)) (λ m. refl)
  cardinality-at (token p closing ∷ l) = unmarked (token p closing) l (λ q b. let h = bracket-kind b in absurd (omega arith)) (λ m. refl)
  cardinality-at (token p dot ∷ l) = unmarked (token p dot) l (λ q b. let h = bracket-kind b in absurd (omega arith)) (λ m. refl)
  cardinality-at (token p question ∷ l) = (token p question ∷ [], refl, λ q r' a. refl)
  cardinality-at (token p zero_to_one ∷ l) = (token p zero_to_one ∷ [], refl, λ q r' a. refl)
  cardinality-at (token p one_to_one ∷ l) = (token p one_to_one ∷ [], refl, λ q r' a. refl)
  cardinality-at (fault p q ∷ l) = ([], fault p q ∷ l, refl, offence_inside, λ o' a. inside-same a)

  pub ahead-cardinality : OneAhead size read_cardinality
  ahead-cardinality = record { settled = cardinality-at }

  -- ---- the reader

  module _ {children : List Item → Reading Children} (c : OneAhead size children) where
    pub ahead-braces : (b : ℕ) → OneAhead size (read_braces size children b)
    unfolding read_braces
    ahead-braces b =
        ahead-pick (heads-is opening refl refl)
        (ahead_after (ahead-expect (heads-is dot refl refl)
        (ahead-then c (λ c. ahead-expect (heads-is closing refl refl) (ahead_after (ahead-parsed (inline b c)))))))
        (ahead-parsed (inline b no_more))

    tree-by : (b : Optional ℕ) → OneAhead size (read_type_tree_by size children b)
    tree-by none = ahead-offends
    tree-by (some b) = ahead_after (ahead-braces b)

    pub ahead-tree : OneAhead size (read_type_tree size children)
    ahead-tree = ahead-on (λ (w : List ℕ). read_type_tree_by size children (basic_named w)) heads-word (λ w. tree-by (basic_named w))

    pub ahead-side : (types : List (List ℕ)) → OneAhead size (read_side size types children)
    ahead-side types =
        ahead-on (λ (w : List ℕ) (l : List Item). pick (among w types) (parsed (reference w) (after_next l)) (read_type_tree size children l)) heads-word
        (λ w. ahead-when (among w types) (ahead_after (ahead-parsed (reference w))) ahead-tree)

  pub ahead-child : (types : List (List ℕ)) {nested more : List Item → Reading Children} (n : List ℕ) → OneAhead size nested → OneAhead size more
      → OneAhead size (read_child size types nested more n)
  unfolding read_child
  ahead-child types n c d =
      ahead-then ahead-cardinality (λ m. ahead-expect (heads-is colon refl refl)
      (ahead_after (ahead-then (ahead-side c types) (λ side. ahead-then d (λ r. ahead-parsed (child_of n m side r))))))

  pub ahead-children : (types : List (List ℕ)) (f : ℕ) (seen : List (List ℕ)) → OneAhead size (read_children size types f seen)
  unfolding read_children
  ahead-children types zero seen = ahead-parsed no_more
  ahead-children types (suc f) seen =
      ahead-pick (heads-is dot refl refl)
      (ahead_after (ahead-on
      (λ (w : List ℕ) (l : List Item). expect (is_name w && not (among w seen)) size l
      (read_child size types (read_children size types f []) (read_children size types f (w ∷ seen)) w (after_next l)))
      heads-word
      (λ w. ahead-when (is_name w && not (among w seen))
      (ahead_after (ahead-child types w (ahead-children types f []) (ahead-children types f (w ∷ seen)))) ahead-offends)))
      (ahead-parsed no_more)

  pub ahead-declaration : {children : List Item → Reading Children} {more : List Item → Reading (List Declaration)} (n : List ℕ) → OneAhead size children
      → OneAhead size more → OneAhead size (read_declaration size children more n)
  unfolding read_declaration
  ahead-declaration n c d =
      ahead-expect (heads-is colon refl refl)
      (ahead_after (ahead-then (ahead-tree c) (λ side. ahead-then d (λ r. ahead-parsed (declaration_of n side ∷ r)))))

  at-end : (S : List Item → Reading (List Declaration)) → OneAhead size S → (l : List Item)
      → OneAheadAt size (λ l. pick (at_end l) (parsed [] []) (S l)) l (pick (at_end l) (parsed [] []) (S l))
  at-end S s [] = ([], refl, λ p r' a. by p r' a)
    where
      by : (p : ℕ) (r' : List Item) → Alike p [] r' → pick (at_end r') (parsed [] []) (S r') ≡ parsed [] r'
      by p r' alike_end = refl
  at-end S s (i ∷ l) =
      on-by at_end heads-end (λ (b : Bool) (l : List Item). pick b (parsed [] []) (S l)) (i ∷ l) (S (i ∷ l)) (s.settled (i ∷ l))

  module _ (types : List (List ℕ)) (f : ℕ) where
    -- What stands after `type`.
    after_type : List Item → Reading (List Declaration)
    after_type l =
        expect (is_new_type types (next_word l)) size l
        (read_declaration size (read_children size types f []) (read_declarations size f (next_word l ∷ types)) (next_word l) (after_next l))

    ahead-after-type : ((w : List ℕ) → OneAhead size (read_declarations size f (w ∷ types))) → OneAhead size after_type
    unfolding after_type
    ahead-after-type more =
        ahead-on
        (λ (w : List ℕ) (l : List Item). expect (is_new_type types w) size l
        (read_declaration size (read_children size types f []) (read_declarations size f (w ∷ types)) w (after_next l)))
        heads-word
        (λ w. ahead-when (is_new_type types w) (ahead_after (ahead-declaration w (ahead-children types f []) (more w))) ahead-offends)

  pub ahead-declarations : (f : ℕ) (types : List (List ℕ)) → OneAhead size (read_declarations size f types)
  unfolding read_declarations after_type
  ahead-declarations zero types = ahead-parsed []
  ahead-declarations (suc f) types = record {
    settled = at-end _
        (ahead-on (λ (w : List ℕ) (l : List Item). expect (same_word type_word w) size l (after_type types f (after_next l))) heads-word
        (λ w. ahead-when (same_word type_word w) (ahead_after (ahead-after-type types f (λ w. ahead-declarations f (w ∷ types)))) ahead-offends));
  }

-- ---- what is left

append-shorter : (t r : List Item) → length r ≤ length (t ++ r)
append-shorter t r = rw (length-append t r) (omega arith)

-- What is left is no longer.
pub ahead-shorter : {A : Type 0} {size : ℕ} {R : List Item → Reading A} (l : List Item) {x : A} {r : List Item} → OneAhead size R → R l ≡ parsed x r
    → length r ≤ length l
ahead-shorter {size} {R} l {x} {r} a e =
    let b : OneAheadAt size R l (parsed x r) = rw e at (a.settled l) in
    rw b.1 (append-shorter b.0 r)

pub children-shorter : (size : ℕ) (types : List (List ℕ)) (f : ℕ) (seen : List (List ℕ)) (l : List Item) {c : Children} {r : List Item}
    → read_children size types f seen l ≡ parsed c r → length r ≤ length l
children-shorter size types f seen l e = ahead-shorter l (ahead-children size types f seen) e
