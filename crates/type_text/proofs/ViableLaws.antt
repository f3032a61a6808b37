-- The bytes before the first offending byte begin a text of the grammar: the reader has the viable-prefix property.
use Rattle.std.proofs.Math.Path.{◌≡◌, refl, subst}
use Rattle.std.proofs.Common.{sym, ap, ◌∙◌, arith}
use mathlib.Core.List.{List, [], ◌∷◌}
use Rattle.std.specs.Prelude.{Bool, false, ◌&&◌, ◌||◌, length, eqb, ltb}
use Rattle.std.proofs.Math.Bool.{true, not}
use Prim.Native.Nat.{ℕ, zero, suc, ◌+◌, ◌*◌, ◌≤◌, ◌<◌}
use Rattle.basics.specs.Choice.{pick}
use Rattle.basics.specs.TestLaws.{clash, and-of, eq_of, not-true, lt_of, lt_not}
use Rattle.network_syntax.specs.Syntax.{Optional, none, some}
use Rattle.scalar.specs.Value.{word_of}
use Rattle.type_text.specs.Spelling.{Token, word, colon, opening, closing, dot, question, zero_to_one, one_to_one, all_in_word, is_word}
use Rattle.type_text.specs.Grammar.{same_word, among, is_name, IsBasic, type_word, Children, no_more, written, is_empty_list, Declaration, declaration}
use Rattle.type_text.specs.Grammar.{CardinalityFrom, optional_mark, mandatory_mark, no_mark, TreeFrom, leaf_tree, braced_tree}
use Rattle.type_text.specs.Grammar.{ChildrenFrom, no_child, written_child, DeclarationsFrom, no_declaration, one_declaration}
use Rattle.type_text.specs.Reader.{Item, token, fault, Reading, parsed, offends, read_then, next_place, expect, after_next, next_is, next_word}
use Rattle.type_text.specs.Reader.{basic_below, basic_named, read_cardinality, Side, inline, reference, child_of, is_new_type, read_braces}
use Rattle.type_text.specs.Reader.{read_type_tree_by, read_type_tree, read_side, read_child, read_children, read_declaration, read_declarations}
use Rattle.type_text.proofs.SpellingLaws.{pick-case}
use Rattle.type_text.proofs.ReaderLaws.{same-word-is, named-basic, basic-named, no-bytes-basic, ProperTypes, proper-more, new-type, CarriesTo}
use Rattle.type_text.proofs.ReaderLaws.{carried_here, carried_more, carried_on, carry-mark, carry-word, SoundReader, SideFrom, cardinality-sound}
use Rattle.type_text.proofs.ReaderLaws.{some-child, tree-sound, side-sound, side-child, children-sound, tree-inline, no-type-word, kind-is}

-- ---- a new name

-- What follows the byte c in the words that begin with it.
tails_of : ℕ → List (List ℕ) → List (List ℕ)
tails_of c [] = []
tails_of c ([] ∷ l) = tails_of c l
tails_of c ((b ∷ v) ∷ l) = pick (eqb c b) (v ∷ tails_of c l) (tails_of c l)

among-tails : (c : ℕ) (w : List ℕ) (l : List (List ℕ)) → among (c ∷ w) l ≡ among w (tails_of c l)
unfolding among same_word tails_of
among-tails c w [] = refl
among-tails c w ([] ∷ l) = among-tails c w l
among-tails c w ((b ∷ v) ∷ l) = by (eqb c b) (among-tails c w l)
  where
    by : (t : Bool) → among (c ∷ w) l ≡ among w (tails_of c l)
        → (t && same_word w v) || among (c ∷ w) l ≡ among w (pick t (v ∷ tails_of c l) (tails_of c l))
    by true h = rw h refl
    by false h = h

tails-fewer : (l : List (List ℕ)) → length (tails_of 97 l) + length (tails_of 98 l) ≤ length l
unfolding tails_of
tails-fewer [] = omega arith
tails-fewer ([] ∷ l) = let h = tails-fewer l in omega arith
tails-fewer ((b ∷ v) ∷ l) = by (eqb 97 b) (eqb 98 b) refl refl (tails-fewer l)
  where
    by : (t u : Bool) → eqb 97 b ≡ t → eqb 98 b ≡ u → length (tails_of 97 l) + length (tails_of 98 l) ≤ length l
        → length (pick t (v ∷ tails_of 97 l) (tails_of 97 l)) + length (pick u (v ∷ tails_of 98 l) (tails_of 98 l)) ≤ suc (length l)
    by true true e f h = let a = eq_of 97 b e in let c = eq_of 98 b f in absurd (omega arith)
    by true false e f h = omega arith
    by false true e f h = omega arith
    by false false e f h = omega arith

abbrev two_to : ℕ → ℕ
two_to zero = 1
two_to (suc k) = 2 * two_to k

-- A word of k letters that is not among fewer than 2^k.
new_word : (k : ℕ) (l : List (List ℕ)) → length l < two_to k → (w : List ℕ) × (length w ≡ k) × (all_in_word w ≡ true) × (among w l ≡ false)
unfolding among all_in_word
new_word zero [] h = ([], refl, refl, refl)
new_word zero (v ∷ l) h = absurd (omega arith)
new_word (suc k) l h = by (ltb (length (tails_of 97 l)) (two_to k)) refl (new_word k)
  where
    by : (t : Bool) → ltb (length (tails_of 97 l)) (two_to k) ≡ t
        → ((l : List (List ℕ)) → length l < two_to k → (w : List ℕ) × (length w ≡ k) × (all_in_word w ≡ true) × (among w l ≡ false))
        → (w : List ℕ) × (length w ≡ suc k) × (all_in_word w ≡ true) × (among w l ≡ false)
    by true e f =
        let a = f (tails_of 97 l) (lt_of (length (tails_of 97 l)) (two_to k) e) in
        (97 ∷ a.0, ap suc a.1, a.2, among-tails 97 a.0 l ∙ a.3)
    by false e f =
        let n = lt_not (length (tails_of 97 l)) (two_to k) e in
        let a = f (tails_of 98 l) (omega (arith, tails-fewer l)) in
        (98 ∷ a.0, ap suc a.1, a.2, among-tails 98 a.0 l ∙ a.3)

-- A name that is not among these, and no basic word.
pub record NewName (l : List (List ℕ)) : Type 0 where
  pub name : List ℕ
  pub proper : is_name name ≡ true
  pub spellable : is_word name ≡ true
  pub fresh : among name l ≡ false
  pub no_basic : basic_named name ≡ none

a-no-basic : (w : List ℕ) → basic_named (97 ∷ w) ≡ none
unfolding basic_below same_word word_of
a-no-basic w = refl

pub new-name : (l : List (List ℕ)) → length l ≤ 8192 → NewName l
new-name l h =
    let a = new_word 14 (tails_of 97 l) (omega (arith, tails-fewer l)) in
    record {
      name = 97 ∷ a.0;
      proper = rw a.1 refl;
      spellable = a.2;
      fresh = among-tails 97 a.0 l ∙ a.3;
      no_basic = a-no-basic a.0;
    }

-- ---- tokens that go on

-- Every word among them can be spelled.
abbrev pub Spellable : List Token → Type 0
Spellable [] = Unit {0}
Spellable (word w ∷ k) = (is_word w ≡ true) × Spellable k
Spellable (colon ∷ k) = Spellable k
Spellable (opening ∷ k) = Spellable k
Spellable (closing ∷ k) = Spellable k
Spellable (dot ∷ k) = Spellable k
Spellable (question ∷ k) = Spellable k
Spellable (zero_to_one ∷ k) = Spellable k
Spellable (one_to_one ∷ k) = Spellable k

-- A cardinality in brackets.
pub data Bracketed : Bool → Token → Type 0 where
  optional_bracket : Bracketed false zero_to_one
  mandatory_bracket : Bracketed true one_to_one

bracket-cardinality : {x : Bool} {k : Token} {m : List Token} → Bracketed x k → CardinalityFrom x (k ∷ m) m
bracket-cardinality optional_bracket = optional_mark
bracket-cardinality mandatory_bracket = mandatory_mark

-- The items of l before the offence p, with tokens n after them, are the beginning of something that D derives; where p is inside brackets, with any
-- whole ones and then n.
pub data Viable (size p : ℕ) (D : List Token → Type 0) (l : List Item) : Type 0 where
  goes_on : {o : List Item} {n k : List Token} → p ≡ next_place size o → Spellable n → CarriesTo o n l k → D k → Viable size p D l
  goes_on_inside : {q : ℕ} {o : List Item}
      → ((x : Bool) (b : Token) → Bracketed x b → (n : List Token) × (k : List Token) × Spellable n × CarriesTo (fault q p ∷ o) (b ∷ n) l k × D k)
      → Viable size p D l

viable-after : {size p : ℕ} {D E : List Token → Type 0} {l r : List Item} → Viable size p D r
    → ((n : List Token) → D n → (k : List Token) × CarriesTo r n l k × E k) → Viable size p E l
viable-after (goes_on {k = k} e w c d) f = let a = f k d in goes_on e w (carried_on a.1 c) a.2
viable-after (goes_on_inside g) f =
    goes_on_inside (λ x b h. let y = g x b h in let a = f y.1 y.4 in (y.0, a.0, y.2, carried_on a.1 y.3, a.2))

expect-case : {A P : Type 0} (t : Bool) (size : ℕ) (l : List Item) {y : Reading A} {p : ℕ} → expect t size l y ≡ offends p
    → (t ≡ false → p ≡ next_place size l → P) → (t ≡ true → y ≡ offends p → P) → P
expect-case true size l e f g = g refl e
expect-case false size l e f g = f refl (cc)

then-case : {A B P : Type 0} (v : Reading A) {S : A → List Item → Reading B} {p : ℕ} → read_then v S ≡ offends p → (v ≡ offends p → P)
    → ((x : A) (r : List Item) → v ≡ parsed x r → S x r ≡ offends p → P) → P
then-case (parsed x r) e f g = g x r refl e
then-case (offends q) {p = p} e f g = f (let z : q ≡ p = cc in ap offends z)

not-offends : {A P : Type 0} {x : A} {r : List Item} {p : ℕ} → parsed x r ≡ offends p → P
not-offends e = let z : ◌≡◌ {A = ℕ} 0 1 = cc in absurd (omega arith)

cardinality-offends : (l : List Item) {p : ℕ} → read_cardinality l ≡ offends p → (q : ℕ) × (o : List Item) × (l ≡ fault q p ∷ o)
cardinality-offends [] e = not-offends e
cardinality-offends (token p (word w) ∷ l) e = not-offends e
cardinality-offends (token p colon ∷ l) e = not-offends e
cardinality-offends (token p opening ∷ l) e = not-offends e
cardinality-offends (token p closing ∷ l) e = not-offends e
cardinality-offends (token p dot ∷ l) e = not-offends e
cardinality-offends (token p question ∷ l) e = not-offends e
cardinality-offends (token p zero_to_one ∷ l) e = not-offends e
cardinality-offends (token p one_to_one ∷ l) e = not-offends e
cardinality-offends (fault q r ∷ l) e = (q, l, cc)

-- `int`, and a name.
abbrev int_word : List ℕ
int_word = 105 ∷ 110 ∷ 116 ∷ []

abbrev a_word : List ℕ
a_word = 97 ∷ []

int-basic : IsBasic int_word 1
unfolding word_of
int-basic = (omega arith, refl)

int-spellable : is_word int_word ≡ true
unfolding all_in_word
int-spellable = refl

a-spellable : is_word a_word ≡ true
unfolding all_in_word
a-spellable = refl

abbrev SomeTree : List (List ℕ) → List Token → List Token → Type 0
SomeTree types m k = (b : ℕ) × (c : Children) × TreeFrom types b c k m

abbrev SomeSide : List (List ℕ) → List Token → List Token → Type 0
SomeSide types m k = (x : Side) × SideFrom types x k m

-- With a child.
abbrev SomeChildren : List (List ℕ) → List (List ℕ) → List Token → List Token → Type 0
SomeChildren types seen m k = (c : Children) × (is_empty_list c ≡ false) × ChildrenFrom types seen c k m

abbrev pub SomeDeclarations : List (List ℕ) → List Token → Type 0
SomeDeclarations types k = (ds : List Declaration) × DeclarationsFrom types ds k

child-full : (n : List ℕ) (x : Bool) (side : Side) (d : Children) → is_empty_list (child_of n x side d) ≡ false
child-full n x (inline b c) d = refl
child-full n x (reference t) d = refl

module _ (size p : ℕ) (types : List (List ℕ)) (proper : ProperTypes types) where
  -- How a reader of children goes on.
  abbrev ViableChildren : (List Item → Reading Children) → List (List ℕ) → Type 0
  ViableChildren R seen = (l : List Item) → R l ≡ offends p → (m : List Token) → Spellable m → Viable size p (SomeChildren types seen m) l

  module _ (R : List Item → Reading Children) (s : SoundReader R (ChildrenFrom types [])) (v : ViableChildren R []) where
    -- After `{`, where no child was read: one child and the brace.
    first-child : (b : ℕ) (w : List ℕ) → IsBasic w b → (l : List Item) (m : List Token) → next_is opening l ≡ true → p ≡ next_place size (after_next l)
        → Spellable m → Viable size p (λ k. SomeTree types m (word w ∷ k)) l
    unfolding among
    first-child b w h l m o e q =
        goes_on {n = dot ∷ word a_word ∷ colon ∷ word int_word ∷ closing ∷ m} e (a-spellable, (int-spellable, q))
        (carry-mark opening l (omega arith) o carried_here)
        (b, written a_word true 1 no_more no_more, braced_tree h refl (written_child refl refl no_mark (leaf_tree int-basic) no_child))

    -- Where the brace is missing.
    last-brace : (b : ℕ) (w : List ℕ) → IsBasic w b → (l l₁ : List Item) → after_next l ≡ l₁ → (m : List Token) {c : Children} {r : List Item} {k : List Token}
        → next_is dot l₁ ≡ true → next_is opening l ≡ true → p ≡ next_place size r → CarriesTo r (closing ∷ m) l₁ k → ChildrenFrom types [] c k (closing ∷ m)
        → Spellable m → Viable size p (λ k. SomeTree types m (word w ∷ k)) l
    last-brace b w h l l₁ e m d o j carried_here y q = first-child b w h l m o (rw e j) q
    last-brace b w h l l₁ e m {c} {r} d o j (carried_more {p = z} {j = t} {l = l₂} {k = k} x) y q =
        let f : t ≡ dot = kind-is t dot (omega arith) d in
        let g : CarriesTo r (closing ∷ m) (after_next l) (t ∷ k) = rw e (carried_more x) in
        goes_on j q (carry-mark opening l (omega arith) o g) (b, c, braced_tree h (some-child (rw f at y)) y)

    braces-viable : (b : ℕ) (w : List ℕ) → IsBasic w b → (l : List Item) → read_braces size R b l ≡ offends p → (m : List Token) → Spellable m
        → Viable size p (λ k. SomeTree types m (word w ∷ k)) l
    unfolding read_braces
    braces-viable b w h l e m q =
        pick-case (next_is opening l) e
        (λ o f. expect-case (next_is dot (after_next l)) size (after_next l) f
        (λ _ g. first-child b w h l m o g q)
        (λ d g. then-case (R (after_next l)) g
        (λ g. viable-after (v (after_next l) g (closing ∷ m) q)
        (λ n c. (opening ∷ n, carry-mark opening l (omega arith) o carried_here, (b, c.0, braced_tree h c.1 c.2))))
        (λ c r g i. expect-case (next_is closing r) size r i
        (λ _ j. let a = s (after_next l) c r (closing ∷ m) g in last-brace b w h l (after_next l) refl m d o j a.1 a.2 q)
        (λ _ j. not-offends j))))
        (λ _ f. not-offends f)

    tree-viable-by : (l : List Item) (o : Optional ℕ) → basic_named (next_word l) ≡ o → read_type_tree_by size R o l ≡ offends p → (m : List Token) → Spellable m
        → Viable size p (SomeTree types m) l
    tree-viable-by l none n e m q =
        let z : p ≡ next_place size l = cc in
        goes_on {n = word int_word ∷ m} z (int-spellable, q) carried_here (1, no_more, leaf_tree int-basic)
    tree-viable-by l (some b) n e m q =
        let full : next_word l ≡ [] → ⊥ = λ q. (let z : ◌≡◌ {A = ℕ} 0 1 = cc (no-bytes-basic) in omega arith) in
        viable-after (braces-viable b (next_word l) (named-basic (next_word l) b n) (after_next l) e m q)
        (λ k t. (word (next_word l) ∷ k, carry-word l full carried_here, t))

    tree-viable : (l : List Item) → read_type_tree size R l ≡ offends p → (m : List Token) → Spellable m → Viable size p (SomeTree types m) l
    tree-viable l e m q = tree-viable-by l (basic_named (next_word l)) refl e m q

    side-viable : (l : List Item) → read_side size types R l ≡ offends p → (m : List Token) → Spellable m → Viable size p (SomeSide types m) l
    side-viable l e m q =
        pick-case (among (next_word l) types) e (λ _ f. not-offends f)
        (λ _ f. viable-after (tree-viable l f m q) (λ k t. (k, carried_here, (inline t.0 t.1, t.2))))

    child-viable : (seen : List (List ℕ)) (n : List ℕ) (M : List Item → Reading Children) → is_name n ≡ true → among n seen ≡ false
        → ViableChildren M (n ∷ seen) → (l : List Item) → read_child size types R M n l ≡ offends p → (m : List Token) → Spellable m
        → Viable size p (λ k. SomeChildren types seen m (dot ∷ word n ∷ k)) l
    unfolding read_child
    child-viable seen n M i a u l e m q =
        then-case (read_cardinality l) e
        (λ f.
        let c = cardinality-offends l f in
        goes_on_inside (λ x b h. (
          colon ∷ word int_word ∷ m,
          b ∷ colon ∷ word int_word ∷ m,
          (int-spellable, q),
          subst (λ (y : List Item). CarriesTo (fault c.0 p ∷ c.1) (b ∷ colon ∷ word int_word ∷ m) y (b ∷ colon ∷ word int_word ∷ m)) (sym c.2) carried_here,
          (written n x 1 no_more no_more, refl, written_child i a (bracket-cardinality h) (leaf_tree int-basic) no_child),
        )))
        (λ x r f g. expect-case (next_is colon r) size r g
        (λ _ j.
        let d = cardinality-sound l x r (colon ∷ word int_word ∷ m) f in
        goes_on {n = colon ∷ word int_word ∷ m} j (int-spellable, q) d.1
        (written n x 1 no_more no_more, refl, written_child i a d.2 (leaf_tree int-basic) no_child))
        (λ o j. then-case (read_side size types R (after_next r)) j
        (λ j. viable-after (side-viable (after_next r) j m q) (λ k t.
        let d = cardinality-sound l x r (colon ∷ k) f in (
          d.0,
          carried_on d.1 (carry-mark colon r (omega arith) o carried_here),
          (child_of n x t.0 no_more, child-full n x t.0 no_more, side-child size types proper seen n x t.0 no_more i a d.2 t.1 no_child),
        )))
        (λ side r' j b. then-case (M r') b
        (λ b. viable-after (u r' b m q) (λ k t.
        let y = side-sound size types proper s (after_next r) side r' k j in
        let d = cardinality-sound l x r (colon ∷ y.0) f in (
          d.0,
          carried_on d.1 (carry-mark colon r (omega arith) o y.1),
          (child_of n x side t.0, child-full n x side t.0, side-child size types proper seen n x side t.0 i a d.2 y.2 t.2),
        )))
        (λ _ _ _ b. not-offends b))))

  children-viable : (f : ℕ) (seen : List (List ℕ)) → length seen + f ≤ 8192 → ViableChildren (read_children size types f seen) seen
  unfolding read_children
  children-viable zero seen h l e m q = not-offends e
  children-viable (suc f) seen h l e m q =
      pick-case (next_is dot l) e
      (λ o g.
      let n = next_word (after_next l) in
      expect-case (is_name n && not (among n seen)) size (after_next l) g
      (λ _ j.
      let w = new-name seen (omega arith) in
      goes_on {n = word w.name ∷ colon ∷ word int_word ∷ m} j (w.spellable, (int-spellable, q)) (carry-mark dot l (omega arith) o carried_here)
      (written w.name true 1 no_more no_more, refl, written_child w.proper w.fresh no_mark (leaf_tree int-basic) no_child))
      (λ b j.
      let c = and-of (is_name n) (not (among n seen)) b in
      let full : n ≡ [] → ⊥ = λ z. clash c.0 (ap is_name z) in
      viable-after
      (child-viable (read_children size types f []) (children-sound size types proper f []) (children-viable f [] (omega arith)) seen n
      (read_children size types f (n ∷ seen)) c.0 (not-true (among n seen) c.1) (children-viable f (n ∷ seen) (omega arith))
      (after_next (after_next l)) j m q)
      (λ k t. (dot ∷ word n ∷ k, carry-mark dot l (omega arith) o (carry-word (after_next l) full carried_here), t))))
      (λ _ g. not-offends g)

  -- After `type` and the name n.
  declaration-viable : (f : ℕ) (n : List ℕ) (M : List Item → Reading (List Declaration)) → f ≤ 8192 → is_name n ≡ true → basic_named n ≡ none
      → among n types ≡ false → ((l : List Item) → M l ≡ offends p → Viable size p (SomeDeclarations (n ∷ types)) l)
      → (l : List Item) → read_declaration size (read_children size types f []) M n l ≡ offends p
      → Viable size p (λ k. SomeDeclarations types (word type_word ∷ word n ∷ k)) l
  unfolding read_declaration
  declaration-viable f n M h i nb a u l e =
      let R = read_children size types f [] in
      let s = children-sound size types proper f [] in
      let no : (k : ℕ) → IsBasic n k → ⊥ = λ k g. (let z : ◌≡◌ {A = ℕ} 0 1 = cc (basic-named n k g) in omega arith) in
      expect-case (next_is colon l) size l e
      (λ _ g.
      goes_on {n = colon ∷ word int_word ∷ []} g (int-spellable, tt) carried_here
      (declaration n 1 no_more ∷ [], one_declaration i no a (leaf_tree int-basic) no_declaration))
      (λ o g. then-case (read_type_tree size R (after_next l)) g
      (λ g. viable-after (tree-viable R s (children-viable f [] (omega arith)) (after_next l) g [] tt)
      (λ k t. (colon ∷ k, carry-mark colon l (omega arith) o carried_here, (declaration n t.0 t.1 ∷ [], one_declaration i no a t.2 no_declaration))))
      (λ side r g j. then-case (M r) j
      (λ j. viable-after (u r j) (λ k t.
      let y = tree-inline size types proper R (basic_named (next_word (after_next l))) (after_next l) g in
      let d = tree-sound size types proper s (after_next l) side r k g in
      let x : TreeFrom types y.0 y.1 d.0 k = subst (λ (z : Side). SideFrom types z d.0 k) y.2 d.2 in
      (colon ∷ d.0, carry-mark colon l (omega arith) o d.1, (declaration n y.0 y.1 ∷ t.0, one_declaration i no a x t.1))))
      (λ _ _ _ j. not-offends j)))

pub declarations-viable : (size p f : ℕ) (types : List (List ℕ)) → ProperTypes types → length types + f ≤ 8192 → (l : List Item)
    → read_declarations size f types l ≡ offends p → Viable size p (SomeDeclarations types) l
unfolding read_declarations
declarations-viable size p zero types z h l e = not-offends e
declarations-viable size p (suc f) types z h [] e = not-offends e
declarations-viable size p (suc f) types z h (j ∷ l) e =
    let w = next_word (j ∷ l) in
    let n = next_word l in
    expect-case (same_word type_word w) size (j ∷ l) e
    (λ _ g. goes_on {n = []} g tt carried_here ([], no_declaration))
    (λ t g.
    let tw : type_word ≡ w = same-word-is type_word w t in
    let cw : (k : List Token) → CarriesTo l k (j ∷ l) (word type_word ∷ k) =
    λ k. subst (λ (x : List ℕ). CarriesTo l k (j ∷ l) (word x ∷ k)) (sym tw) (carry-word (j ∷ l) (λ q. no-type-word (tw ∙ q)) carried_here) in
    expect-case (is_new_type types n) size l g
    (λ _ g.
    let y = new-name types (omega arith) in
    let no : (k : ℕ) → IsBasic y.name k → ⊥ = λ k b. (let q : ◌≡◌ {A = ℕ} 0 1 = cc (basic-named y.name k b, y.no_basic) in omega arith) in
    goes_on {n = word y.name ∷ colon ∷ word int_word ∷ []} g (y.spellable, (int-spellable, tt)) (cw (word y.name ∷ colon ∷ word int_word ∷ []))
    (declaration y.name 1 no_more ∷ [], one_declaration y.proper no y.fresh (leaf_tree int-basic) no_declaration))
    (λ b g.
    let c = new-type types n b in
    let full : n ≡ [] → ⊥ = λ q. clash c.0 (ap is_name q) in
    viable-after
    (declaration-viable size p types z f n (read_declarations size f (n ∷ types)) (omega arith) c.0 c.1 c.2
    (declarations-viable size p f (n ∷ types) (proper-more types n z c.0 c.1) (omega arith)) (after_next l) g)
    (λ k t. (word type_word ∷ word n ∷ k, carried_on (cw (word n ∷ k)) (carry-word l full carried_here), t))))
