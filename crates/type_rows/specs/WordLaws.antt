-- Words, lists of words, and the ids that they give.
use Rattle.std.specs.Prelude.{ℕ, suc, ◌+◌, ◌≤◌, ◌<◌, ◌≡◌, refl, List, [], ◌∷◌, ◌++◌, Bool, true, false, ◌||◌, length}
use Rattle.std.proofs.Common.{sym, ◌∙◌, ap, arith}
use Rattle.basics.specs.Choice.{pick}
use Rattle.basics.specs.TestLaws.{apart, true-false, clash, or_left, or_right}
use Rattle.type_text.specs.Grammar.{same_word, among}
use Rattle.type_text.proofs.ReaderLaws.{same-word-is, same-word-self}
use Rattle.type_text.specs.Meaning.{first_uses, id_of}

-- ---- a word among words

pub neither : {a b : Bool} → a || b ≡ false → (a ≡ false) × (b ≡ false)
neither {a = true} e = true-false e
neither {a = false} e = (refl, e)

pub among_first : (w : List ℕ) (l : List (List ℕ)) → among w (w ∷ l) ≡ true
unfolding among
among_first w l = or_left (among w l) (same-word-self w)

pub among_later : (w v : List ℕ) (l : List (List ℕ)) → among w l ≡ true → among w (v ∷ l) ≡ true
unfolding among
among_later w v l e = or_right (same_word w v) e

pub among-left : (w : List ℕ) (l m : List (List ℕ)) → among w l ≡ true → among w (l ++ m) ≡ true
unfolding among
among-left w [] m e = apart e
among-left w (v ∷ l) m e = go (same_word w v) (λ h. among-left w l m h) e
  where
    go : (t : Bool) → (among w l ≡ true → among w (l ++ m) ≡ true) → t || among w l ≡ true → t || among w (l ++ m) ≡ true
    go true ih h = refl
    go false ih h = ih h

pub among-right : (w : List ℕ) (l m : List (List ℕ)) → among w m ≡ true → among w (l ++ m) ≡ true
among-right w [] m e = e
among-right w (v ∷ l) m e = among_later w v (l ++ m) (among-right w l m e)

-- ---- ids

pub id-positive : (l : List (List ℕ)) (w : List ℕ) → 0 < id_of l w
unfolding id_of
id-positive [] w = omega arith
id-positive (v ∷ l) w = go (same_word w v)
  where
    go : (t : Bool) → 0 < pick t 1 (1 + id_of l w)
    go true = omega arith
    go false = omega arith

pub id-bounded : (l : List (List ℕ)) (w : List ℕ) → among w l ≡ true → id_of l w ≤ length l
unfolding id_of among
id-bounded [] w e = apart e
id-bounded (v ∷ l) w e = go (same_word w v) (λ h. id-bounded l w h) e
  where
    go : (t : Bool) → (among w l ≡ true → id_of l w ≤ length l) → t || among w l ≡ true → pick t 1 (1 + id_of l w) ≤ suc (length l)
    go true ih h = omega arith
    go false ih h = let x = ih h in omega arith

-- Two words of one id are one, if the list has one of them.
pub id-once : (l : List (List ℕ)) (v w : List ℕ) → among v l ≡ true → id_of l v ≡ id_of l w → v ≡ w
unfolding id_of among
id-once [] v w e i = apart e
id-once (u ∷ l) v w e i = go (same_word v u) (same_word w u) refl refl (λ h g. id-once l v w h g) e i
  where
    go : (a b : Bool) → same_word v u ≡ a → same_word w u ≡ b → (among v l ≡ true → id_of l v ≡ id_of l w → v ≡ w)
        → a || among v l ≡ true → pick a 1 (1 + id_of l v) ≡ pick b 1 (1 + id_of l w) → v ≡ w
    go true true p q ih h g = same-word-is v u p ∙ sym (same-word-is w u q)
    go true false p q ih h g = let x = id-positive l w in absurd (omega arith)
    go false true p q ih h g = let x = id-positive l v in absurd (omega arith)
    go false false p q ih h g = ih h (omega arith)

-- ---- first uses

pub in-first-uses : (seen l : List (List ℕ)) (w : List ℕ) → among w l ≡ true → among w seen ≡ false → among w (first_uses seen l) ≡ true
unfolding first_uses among
in-first-uses seen [] w e f = apart e
in-first-uses seen (v ∷ l) w e f =
    go (among v seen) (same_word w v) refl refl e (λ h. in-first-uses seen l w h f) (λ h g. in-first-uses (v ∷ seen) l w h g)
  where
    go : (a b : Bool) → among v seen ≡ a → same_word w v ≡ b → b || among w l ≡ true → (among w l ≡ true → among w (first_uses seen l) ≡ true)
        → (among w l ≡ true → b || among w seen ≡ false → among w (first_uses (v ∷ seen) l) ≡ true)
        → among w (pick a (first_uses seen l) (v ∷ first_uses (v ∷ seen) l)) ≡ true
    go true true p q h x y = absurd (clash (ap (λ (u : List ℕ). among u seen) (same-word-is w v q) ∙ p) f)
    go true false p q h x y = x h
    go false true p q h x y = or_left (among w (first_uses (v ∷ seen) l)) q
    go false false p q h x y = or_right (same_word w v) (y h f)

pub first-uses-few : (seen l : List (List ℕ)) → length (first_uses seen l) ≤ length l
unfolding first_uses
first-uses-few seen [] = omega arith
first-uses-few seen (v ∷ l) = go (among v seen) (first-uses-few seen l) (first-uses-few (v ∷ seen) l)
  where
    go : (t : Bool) → length (first_uses seen l) ≤ length l → length (first_uses (v ∷ seen) l) ≤ length l
        → length (pick t (first_uses seen l) (v ∷ first_uses (v ∷ seen) l)) ≤ suc (length l)
    go true x y = omega arith
    go false x y = omega arith
