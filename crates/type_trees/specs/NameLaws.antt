-- Laws of the names: their ids, one more at the end, and that the words after dots are the child names of the declarations.
use Rattle.std.specs.Prelude.{◌≡◌, List, [], ◌∷◌, ◌++◌, Bool, true, false, ◌||◌, length, take, eqb}
use Rattle.std.proofs.Math.Path.{refl}
use Rattle.std.proofs.Common.{sym, ◌∙◌, ap, append_assoc, ne_eqb}
use native.Mathlib.Omega.{arith}
use Prim.Native.Nat.{ℕ, zero, suc, ◌+◌, ◌-◌, ◌*◌, ◌≤◌, ◌<◌}
use Rattle.basics.specs.Choice.{pick}
use Rattle.basics.specs.TestLaws.{apart}
use Rattle.wire.specs.Wire.{u16_at, put_u16}
use Rattle.wire.specs.WireLaws.{same-16}
use Rattle.type_text.specs.Spelling.{Token, colon}
use Rattle.type_text.specs.Grammar.{same_word, among, Children, Declaration, CardinalityFrom, question_mark, optional_mark, mandatory_mark, no_mark}
use Rattle.type_text.specs.Grammar.{TreeFrom, leaf_tree, braced_tree, ChildrenFrom, no_child, written_child, named_child}
use Rattle.type_text.specs.Grammar.{DeclarationsFrom, no_declaration, one_declaration}
use Rattle.type_text.specs.Meaning.{names_in, child_names, first_uses, id_names, id_of}
use Rattle.type_words.specs.Told.{mark_token}
use Rattle.type_words.specs.ItemLaws.{kind-of-mark}
use Rattle.type_reading.specs.Tables.{word_from}
use Rattle.type_reading.specs.TableLaws.{u16-kept, first-kept}
use Rattle.type_rows.specs.WordLaws.{id-bounded}
use Rattle.type_trees.specs.Names.{names_from, names_up_to, dot_names, with_name}

-- ---- the names kept

pub length-names : (s names : List ℕ) (i n : ℕ) → length (names_from s names i n) ≡ n
unfolding names_from
length-names s names i zero = refl
length-names s names i (suc n) = ap suc (length-names s names (suc i) n)

pub names-from-kept : (s names names' : List ℕ) (i n m : ℕ) → i + n ≤ m → take (2 * m) names' ≡ take (2 * m) names
    → names_from s names' i n ≡ names_from s names i n
unfolding names_from
names-from-kept s names names' i zero m h e = refl
names-from-kept s names names' i (suc n) m h e =
    let x = u16-kept names names' (2 * m) e (2 * i) (omega (arith, h)) in
    let y = names-from-kept s names names' (suc i) n m (omega (arith, h)) e in rw (x, y) refl

names-last : (s names : List ℕ) (i n : ℕ) → names_from s names i (suc n) ≡ names_from s names i n ++ (word_from s (u16_at names (2 * (i + n))) ∷ [])
unfolding names_from
names-last s names i zero = let z : i + 0 ≡ i = omega arith in rw z refl
names-last s names i (suc n) =
    let z : suc i + n ≡ i + suc n = omega arith in
    ap (λ (l : List (List ℕ)). word_from s (u16_at names (2 * i)) ∷ l) (rw z at (names-last s names (suc i) n))

-- One more.
pub name-more : (s names : List ℕ) (n p : ℕ) → 2 * n + 2 ≤ length names
    → names_up_to s (put_u16 names (2 * n) p) (n + 1) ≡ names_up_to s names n ++ (word_from s p ∷ [])
name-more s names n p h =
    let z : n + 1 ≡ suc n = omega arith in
    let y : 0 + n ≡ n = omega arith in
    let l = rw y at (names-last s (put_u16 names (2 * n) p) 0 n) in
    let k = names-from-kept s names (put_u16 names (2 * n) p) 0 n n (omega arith) (first-kept names (2 * n) (2 * n) p (omega arith)) in
    rw z (l ∙ rw (same-16 names (2 * n) p h, k) refl)

-- ---- ids

module _ (s names w : List ℕ) (n i : ℕ) where
  pub id-here : i < n → same_word w (word_from s (u16_at names (2 * i))) ≡ true → i + id_of (names_from s names i (n - i)) w ≡ i + 1
  unfolding names_from id_of
  id-here h e = let z : n - i ≡ suc (n - (i + 1)) = omega arith in rw (z, e) refl

  pub id-later : i < n → same_word w (word_from s (u16_at names (2 * i))) ≡ false
      → i + id_of (names_from s names i (n - i)) w ≡ i + 1 + id_of (names_from s names (i + 1) (n - (i + 1))) w
  unfolding names_from id_of
  id-later h e =
      let z : n - i ≡ suc (n - (i + 1)) = omega arith in
      let y : i + 1 ≡ suc i = omega arith in
      rw (z, e, y) (omega arith)

  pub id-past : i ≡ n → i + id_of (names_from s names i (n - i)) w ≡ n + 1
  unfolding names_from id_of
  id-past e = let z : n - i ≡ 0 = omega (arith, e) in rw z (omega (arith, e))

pub id-missing : (l : List (List ℕ)) (w : List ℕ) → among w l ≡ false → id_of l w ≡ suc (length l)
unfolding id_of among
id-missing [] w e = refl
id-missing (v ∷ l) w e = go (same_word w v) e (id-missing l w)
  where
    go : (t : Bool) → t || among w l ≡ false → (among w l ≡ false → id_of l w ≡ suc (length l)) → pick t 1 (1 + id_of l w) ≡ suc (suc (length l))
    go true h ih = apart (sym h)
    go false h ih = let x = ih h in omega (arith, x)

-- A word is among the names if its id is one of theirs.
pub among-by-id : (l : List (List ℕ)) (w : List ℕ) → id_of l w ≤ length l → among w l ≡ true
among-by-id l w h = go (among w l) refl
  where
    go : (t : Bool) → among w l ≡ t → t ≡ true
    go true e = refl
    go false e = let x = id-missing l w e in absurd (omega (arith, x, h))

pub none-by-id : (l : List (List ℕ)) (w : List ℕ) → length l < id_of l w → among w l ≡ false
none-by-id l w h = go (among w l) refl
  where
    go : (t : Bool) → among w l ≡ t → t ≡ false
    go true e = let x = id-bounded l w e in absurd (omega (arith, x, h))
    go false e = refl

-- ---- first uses

among-last : (x w : List ℕ) (l : List (List ℕ)) → among x (l ++ (w ∷ [])) ≡ among x (w ∷ l)
unfolding among
among-last x w [] = refl
among-last x w (v ∷ l) = go (same_word x v) (same_word x w) (among-last x w l)
  where
    go : (a b : Bool) → among x (l ++ (w ∷ [])) ≡ b || among x l → a || among x (l ++ (w ∷ [])) ≡ b || (a || among x l)
    go true true e = refl
    go true false e = refl
    go false true e = e
    go false false e = e

first-uses-same : (u v l : List (List ℕ)) → ((x : List ℕ) → among x u ≡ among x v) → first_uses u l ≡ first_uses v l
unfolding first_uses among
first-uses-same u v [] h = refl
first-uses-same u v (w ∷ l) h =
    let x = first-uses-same u v l h in
    let y = first-uses-same (w ∷ u) (w ∷ v) l (λ z. ap (λ (t : Bool). same_word z w || t) (h z)) in
    rw (h w, x, y) refl

-- A name that comes next.
pub first-uses-next : (u l : List (List ℕ)) (w : List ℕ) → u ++ first_uses u (w ∷ l) ≡ with_name w u ++ first_uses (with_name w u) l
unfolding first_uses with_name
first-uses-next u l w = go (among w u)
  where
    go : (t : Bool) → u ++ pick t (first_uses u l) (w ∷ first_uses (w ∷ u) l) ≡ pick t u (u ++ (w ∷ [])) ++ first_uses (pick t u (u ++ (w ∷ []))) l
    go true = refl
    go false =
        ap (λ (k : List (List ℕ)). u ++ (w ∷ k)) (first-uses-same (w ∷ u) (u ++ (w ∷ [])) l (λ x. sym (among-last x w u)))
        ∙ sym (append_assoc u (w ∷ []) (first_uses (u ++ (w ∷ [])) l))

-- ---- words after dots

pub dot-mark : (k : ℕ) (after : Bool) (l : List Token) → 0 < k → k < 8 → dot_names after (mark_token k ∷ l) ≡ dot_names (eqb k 4) l
unfolding dot_names
dot-mark k after l p q = rw (kind-of-mark k p q, ne_eqb k 0 (λ e. omega (arith, e, p))) refl

dot-cardinality : {m : Bool} {k l : List Token} → CardinalityFrom m k (colon ∷ l) → dot_names false k ≡ dot_names false l
unfolding dot_names
dot-cardinality question_mark = refl
dot-cardinality optional_mark = refl
dot-cardinality mandatory_mark = refl
dot-cardinality no_mark = refl

mutual
  unfolding dot_names names_in

  dot-tree : {types : List (List ℕ)} {b : ℕ} {c : Children} {l r : List Token} → TreeFrom types b c l r
      → dot_names false l ≡ names_in c ++ dot_names false r
  dot-tree (leaf_tree x) = refl
  dot-tree (braced_tree x e q) = dot-children q

  dot-children : {types seen : List (List ℕ)} {c : Children} {l r : List Token} → ChildrenFrom types seen c l r
      → dot_names false l ≡ names_in c ++ dot_names false r
  dot-children no_child = refl
  dot-children (written_child {n = n} {c = c} {d = d} {r = r} x f k t q) =
      ap (λ (z : List (List ℕ)). n ∷ z)
      (dot-cardinality k ∙ dot-tree t ∙ ap (λ (z : List (List ℕ)). names_in c ++ z) (dot-children q)
      ∙ sym (append_assoc (names_in c) (names_in d) (dot_names false r)))
  dot-children (named_child {n = n} x f k t q) = ap (λ (z : List (List ℕ)). n ∷ z) (dot-cardinality k ∙ dot-children q)

-- The words after dots are the child names.
pub dot-declarations : {types : List (List ℕ)} {ds : List Declaration} {l : List Token} → DeclarationsFrom types ds l → dot_names false l ≡ child_names ds
unfolding dot_names child_names
dot-declarations no_declaration = refl
dot-declarations (one_declaration {c = c} x y z t q) = dot-tree t ∙ ap (λ (z : List (List ℕ)). names_in c ++ z) (dot-declarations q)

pub dot-ids : (ds : List Declaration) {types : List (List ℕ)} {l : List Token} → DeclarationsFrom types ds l → first_uses [] (dot_names false l) ≡ id_names ds
dot-ids ds q = ap (first_uses []) (dot-declarations q)
