-- Words and marks: the items of a text are all words and marks exactly where it is spelled by them (`spelled-items`, `items-spelled`).
use Rattle.std.proofs.Math.Path.{◌≡◌, refl, sym, subst}
use Rattle.std.proofs.Common.{ap, ◌∙◌, inl, inr, add-zero, arith}
use mathlib.Core.List.{List, [], ◌∷◌, ◌++◌}
use Rattle.std.specs.Prelude.{Bool, true, false, ℕ, zero, suc, ◌+◌, ◌≤◌, get_or, eqb}
use Rattle.std.proofs.Math.ListN.{length, drop}
use Rattle.std.proofs.Math.Seq.{drop-append_seam, drop-nil}
use Rattle.basics.specs.Choice.{pick}
use Rattle.basics.specs.TestLaws.{apart, clash, and_left, and_right, or-of, eq_of, not-true}
use Rattle.type_text.specs.Spelling.{is_blank, in_word, Token, word, colon, opening, closing, dot, question, zero_to_one, one_to_one, spelling, is_mark}
use Rattle.type_text.specs.Spelling.{all_in_word, is_word, ends_word, Spelled, nothing, blank, marked, spelt}
use Rattle.type_text.specs.Reader.{Lexeme, space, found, broken, word_bytes, bracket_end, bracket_at, mark_at, lexeme_at, Item, token, fault}
use Rattle.type_text.specs.Reader.{items_by, items_from}

-- The items are these words and marks in order, whatever their places.
pub data Carries : List Item → List Token → Type 0 where
  carries_none : Carries [] []
  carries_more : {p : ℕ} {k : Token} {l : List Item} {m : List Token} → Carries l m → Carries (token p k ∷ l) (k ∷ m)

pub fault-carries : {p q : ℕ} {l : List Item} {m : List Token} → Carries (fault p q ∷ l) m → ⊥
fault-carries c = elim c [ ]

-- What a choice is, by its test.
pub pick-case : {A P : Type 0} (t : Bool) {x y z : A} → pick t x y ≡ z → (t ≡ true → x ≡ z → P) → (t ≡ false → y ≡ z → P) → P
pick-case true e f g = f refl e
pick-case false e f g = g refl e

pub pick-either : {A : Type 0} (P : A → Type 0) (t : Bool) {x y : A} → P x → P y → P (pick t x y)
pick-either P true p q = p
pick-either P false p q = q

-- ---- passing over bytes

pub items-skip : (n at : ℕ) (s : List ℕ) → items_from n at s ≡ items_from 0 (at + n) (drop n s)
unfolding items_from
items-skip zero at [] = refl
items-skip (suc n) at [] = refl
items-skip zero at (b ∷ s) = ap (λ (x : ℕ). items_from 0 x (b ∷ s)) (sym (add-zero at))
items-skip (suc n) at (b ∷ s) =
    items-skip n (at + 1) s ∙ ap (λ (x : ℕ). items_from 0 x (drop n s)) (let z : at + 1 + n ≡ at + suc n = omega arith in z)

shorter-by : (at : ℕ) (x : Lexeme) (s : List ℕ) → ((n : ℕ) → length (items_from n (at + 1) s) ≤ length s)
    → length (items_by at x (λ n. items_from n (at + 1) s)) ≤ suc (length s)
shorter-by at space s h = omega (arith, h 0)
shorter-by at (found k n) s h = omega (arith, h n)
shorter-by at (broken n) s h = omega arith

pub items-shorter : (n at : ℕ) (s : List ℕ) → length (items_from n at s) ≤ length s
unfolding items_from
items-shorter zero at [] = omega arith
items-shorter (suc n) at [] = omega arith
items-shorter zero at (b ∷ s) = shorter-by at (lexeme_at b s) s (λ n. items-shorter n (at + 1) s)
items-shorter (suc n) at (b ∷ s) = omega (arith, items-shorter n (at + 1) s)

-- ---- words

-- A byte of a word is no blank.
pub word-no-blank : (b : ℕ) → in_word b ≡ true → is_blank b ≡ false
word-no-blank b h = by (is_blank b) refl
  where
    by : (t : Bool) → is_blank b ≡ t → t ≡ false
    by false e = refl
    by true e = elim (or-of (eqb b 32) (eqb b 10) e) [
      | inl q ↦ absurd (clash h (ap in_word (eq_of b 32 q)))
      | inr q ↦ absurd (clash h (ap in_word (eq_of b 10 q)))
    ]

-- The bytes of a word that ends before s.
pub word-bytes : (w s : List ℕ) → all_in_word w ≡ true → ends_word s ≡ true → word_bytes (w ++ s) ≡ w
unfolding word_bytes all_in_word
word-bytes [] [] a e = refl
word-bytes [] (b ∷ s) a e = rw (not-true (in_word b) e) refl
word-bytes (b ∷ w) s a e =
    rw (and_left (in_word b) (all_in_word w) a) (ap {B = List ℕ} (λ x. b ∷ x) (word-bytes w s (and_right (in_word b) (all_in_word w) a) e))

-- They are all in a word.
pub word-bytes-in : (s : List ℕ) → all_in_word (word_bytes s) ≡ true
unfolding word_bytes all_in_word
word-bytes-in [] = refl
word-bytes-in (b ∷ s) = by (in_word b) refl (word-bytes-in s)
  where
    by : (t : Bool) → in_word b ≡ t → all_in_word (word_bytes s) ≡ true → all_in_word (pick t (b ∷ word_bytes s) []) ≡ true
    by true e h = rw e h
    by false e h = refl

-- The word ends after them.
pub word-bytes-end : (s : List ℕ) → ends_word (drop (length (word_bytes s)) s) ≡ true
unfolding word_bytes
word-bytes-end [] = refl
word-bytes-end (b ∷ s) = by (in_word b) refl (word-bytes-end s)
  where
    by : (t : Bool) → in_word b ≡ t → ends_word (drop (length (word_bytes s)) s) ≡ true
        → ends_word (drop (length (pick t (b ∷ word_bytes s) [])) (b ∷ s)) ≡ true
    by true e h = h
    by false e h = rw e refl

pub word-bytes-split : (s : List ℕ) → word_bytes s ++ drop (length (word_bytes s)) s ≡ s
unfolding word_bytes
word-bytes-split [] = refl
word-bytes-split (b ∷ s) = by (in_word b) (word-bytes-split s)
  where
    by : (t : Bool) → word_bytes s ++ drop (length (word_bytes s)) s ≡ s
        → pick t (b ∷ word_bytes s) [] ++ drop (length (pick t (b ∷ word_bytes s) [])) (b ∷ s) ≡ b ∷ s
    by true h = ap {B = List ℕ} (λ x. b ∷ x) h
    by false h = refl

-- ---- from the spelling to the items

-- A word that ends before s, and the items of s.
pub items-word : (at : ℕ) (w s : List ℕ) → is_word w ≡ true → ends_word s ≡ true → items_from 0 at (w ++ s) ≡ token at (word w) ∷ items_from 0 (at + length w) s
unfolding items_from lexeme_at
items-word at [] s a e = apart a
items-word at (b ∷ w) s a e =
    let i = and_left (in_word b) (all_in_word w) a in
    let n = word-bytes w s (and_right (in_word b) (all_in_word w) a) e in
    let x : at + 1 + length w ≡ at + suc (length w) = omega arith in
    let k : items_from (length w) (at + 1) (w ++ s) ≡ items_from 0 (at + suc (length w)) s =
    items-skip (length w) (at + 1) (w ++ s) ∙ rw (x, drop-append_seam w s) refl in
    rw (word-no-blank b i, i, n, k) refl

-- A mark and the items after it.
pub items-mark : (at : ℕ) (k : Token) (s : List ℕ) → is_mark k ≡ true
    → items_from 0 at (spelling k ++ s) ≡ token at k ∷ items_from 0 (at + length (spelling k)) s
unfolding items_from lexeme_at mark_at bracket_at bracket_end spelling
items-mark at (word w) s m = apart m
items-mark at colon s m = refl
items-mark at opening s m = refl
items-mark at closing s m = refl
items-mark at dot s m = refl
items-mark at question s m = refl
items-mark at zero_to_one s m = let x : at + 1 + 1 + 1 + 1 + 1 ≡ at + 5 = omega arith in rw x refl
items-mark at one_to_one s m = let x : at + 1 + 1 + 1 + 1 + 1 ≡ at + 5 = omega arith in rw x refl

pub items-blank : (at b : ℕ) (s : List ℕ) → is_blank b ≡ true → items_from 0 at (b ∷ s) ≡ items_from 0 (at + 1) s
unfolding items_from lexeme_at
items-blank at b s e = rw e refl

pub spelled-items : {s : List ℕ} {l : List Token} (at : ℕ) → Spelled s l → Carries (items_from 0 at s) l
unfolding items_from
spelled-items at nothing = carries_none
spelled-items at (blank {b} {s} {l} e h) = rw (items-blank at b s e) (spelled-items (at + 1) h)
spelled-items at (marked {k} {s} {l} m h) = rw (items-mark at k s m) (carries_more (spelled-items (at + length (spelling k)) h))
spelled-items at (spelt {w} {s} {l} i e h) = rw (items-word at w s i e) (carries_more (spelled-items (at + length w) h))

-- ---- from the items to the spelling

pub drop-is : (s : List ℕ) (i a : ℕ) → get_or s i 0 ≡ a → (a ≡ 0 → ⊥) → drop i s ≡ a ∷ drop (suc i) s
drop-is [] zero a e h = absurd (h (sym e))
drop-is [] (suc i) a e h = absurd (h (sym e))
drop-is (b ∷ s) zero a e h = ap {B = List ℕ} (λ x. x ∷ s) e
drop-is (b ∷ s) (suc i) a e h = drop-is s i a e h

module _ (b : ℕ) (s : List ℕ) {k : Token} {n : ℕ} {l : List Token} (h : Spelled (drop n s) l) where
  one_byte : (j : Token) (a : ℕ) → is_mark j ≡ true → spelling j ≡ a ∷ [] → b ≡ a → found j 0 ≡ found k n → Spelled (b ∷ s) (k ∷ l)
  one_byte j a m e q f =
      let ek : j ≡ k = cc in
      let en : n ≡ 0 = cc in
      let h' : Spelled (drop 0 s) l = rw en at h in
      let r : Spelled (spelling j ++ s) (j ∷ l) = marked m h' in
      rw (q, sym ek) (rw e at r)

  -- The bytes after `[`.
  in-brackets : (j : Token) (d : ℕ) → is_mark j ≡ true → spelling j ≡ 91 ∷ d ∷ 44 ∷ 49 ∷ 93 ∷ [] → (d ≡ 0 → ⊥) → b ≡ 91 → eqb (get_or s 0 0) d ≡ true
      → bracket_end j s ≡ found k n → Spelled (b ∷ s) (k ∷ l)
  unfolding bracket_end
  in-brackets j d m e z q t0 f =
      pick-case (eqb (get_or s 1 0) 44) f
      (λ t1 f1. pick-case (eqb (get_or s 2 0) 49) f1
      (λ t2 f2. pick-case (eqb (get_or s 3 0) 93) f2
      (λ t3 f3.
      let ek : j ≡ k = cc in
      let en : n ≡ 4 = cc in
      let h' : Spelled (drop 4 s) l = rw en at h in
      let r : Spelled (spelling j ++ drop 4 s) (j ∷ l) = marked m h' in
      let e0 = drop-is s 0 d (eq_of (get_or s 0 0) d t0) z in
      let e1 = drop-is s 1 44 (eq_of (get_or s 1 0) 44 t1) (omega arith) in
      let e2 = drop-is s 2 49 (eq_of (get_or s 2 0) 49 t2) (omega arith) in
      let e3 = drop-is s 3 93 (eq_of (get_or s 3 0) 93 t3) (omega arith) in
      let es : s ≡ d ∷ 44 ∷ 49 ∷ 93 ∷ drop 4 s = e0 ∙ rw (e1, e2, e3) refl in
      subst (λ (x : List ℕ). Spelled (b ∷ x) (k ∷ l)) (sym es) (rw (q, sym ek) (rw e at r)))
      (λ t3 f3. never f3)) (λ t2 f2. never f2)) (λ t1 f1. never f1)
    where
      never : {m n : ℕ} {P : Type 0} → broken m ≡ found k n → P
      never e = let z : ◌≡◌ {A = ℕ} 0 1 = cc in absurd (omega arith)

  mark-spelled : mark_at b s ≡ found k n → Spelled (b ∷ s) (k ∷ l)
  unfolding mark_at bracket_at spelling
  mark-spelled e =
      pick-case (eqb b 58) e (λ t f. one_byte colon 58 refl refl (eq_of b 58 t) f)
      (λ _ e. pick-case (eqb b 123) e (λ t f. one_byte opening 123 refl refl (eq_of b 123 t) f)
      (λ _ e. pick-case (eqb b 125) e (λ t f. one_byte closing 125 refl refl (eq_of b 125 t) f)
      (λ _ e. pick-case (eqb b 46) e (λ t f. one_byte dot 46 refl refl (eq_of b 46 t) f)
      (λ _ e. pick-case (eqb b 63) e (λ t f. one_byte question 63 refl refl (eq_of b 63 t) f)
      (λ _ e. pick-case (eqb b 91) e
      (λ t f. pick-case (eqb (get_or s 0 0) 48) f (λ d g. in-brackets zero_to_one 48 refl refl (omega arith) (eq_of b 91 t) d g)
      (λ _ g. pick-case (eqb (get_or s 0 0) 49) g (λ d g. in-brackets one_to_one 49 refl refl (omega arith) (eq_of b 91 t) d g) (λ _ g. never g)))
      (λ _ f. never f))))))
    where
      never : {m n : ℕ} {P : Type 0} → broken m ≡ found k n → P
      never e = let z : ◌≡◌ {A = ℕ} 0 1 = cc in absurd (omega arith)

  -- The bytes that a word or mark was found in are its own.
  pub lexeme-spelled : lexeme_at b s ≡ found k n → Spelled (b ∷ s) (k ∷ l)
  unfolding lexeme_at
  lexeme-spelled e =
      pick-case (is_blank b) e (λ _ f. let z : ◌≡◌ {A = ℕ} 0 1 = cc in absurd (omega arith))
      (λ _ e. pick-case (in_word b) e
      (λ i f.
      let ek : word (b ∷ word_bytes s) ≡ k = cc in
      let en : n ≡ length (word_bytes s) = cc in
      let h' : Spelled (drop (length (word_bytes s)) s) l = rw en at h in
      let r : Spelled (b ∷ (word_bytes s ++ drop (length (word_bytes s)) s)) (word (b ∷ word_bytes s) ∷ l) =
      spelt (rw i (word-bytes-in s)) (word-bytes-end s) h' in
      rw (sym ek) (rw (word-bytes-split s) at r))
      (λ _ f. mark-spelled f))

abbrev pub is_space : Lexeme → Bool
is_space space = true
is_space (found k n) = false
is_space (broken n) = false

mark-no-space : (b : ℕ) (s : List ℕ) → is_space (mark_at b s) ≡ false
unfolding mark_at bracket_at bracket_end
mark-no-space b s =
    let P : Lexeme → Type 0 = λ x. is_space x ≡ false in
    let end : (k : Token) → P (bracket_end k s) =
    λ k. pick-either P (eqb (get_or s 1 0) 44) (pick-either P (eqb (get_or s 2 0) 49) (pick-either P (eqb (get_or s 3 0) 93) refl refl) refl) refl in
    pick-either P (eqb b 58) refl (pick-either P (eqb b 123) refl (pick-either P (eqb b 125) refl (pick-either P (eqb b 46) refl
    (pick-either P (eqb b 63) refl (pick-either P (eqb b 91)
    (pick-either P (eqb (get_or s 0 0) 48) (end zero_to_one) (pick-either P (eqb (get_or s 0 0) 49) (end one_to_one) refl)) refl)))))

pub space-blank : (b : ℕ) (s : List ℕ) → lexeme_at b s ≡ space → is_blank b ≡ true
unfolding lexeme_at
space-blank b s e =
    pick-case (is_blank b) e (λ t _. t)
    (λ _ e. pick-case (in_word b) e (λ _ f. apart (ap is_space f)) (λ _ f. apart (sym (mark-no-space b s) ∙ ap is_space f)))

spelled_by : (at b : ℕ) (s : List ℕ) (l : List Token) (x : Lexeme) → lexeme_at b s ≡ x
    → ((n : ℕ) (m : List Token) → Carries (items_from n (at + 1) s) m → Spelled (drop n s) m)
    → Carries (items_by at x (λ n. items_from n (at + 1) s)) l → Spelled (b ∷ s) l
spelled_by at b s l space e f c = blank (space-blank b s e) (f 0 l c)
spelled_by at b s l (found k n) e f (carries_more {m = m} c) = lexeme-spelled b s (f n m c) e
spelled_by at b s l (broken n) e f c = absurd (fault-carries c)

carries-nothing : {l : List Token} → Carries [] l → Spelled [] l
carries-nothing carries_none = nothing

items-spelled-past : (n at : ℕ) (s : List ℕ) (l : List Token) → Carries (items_from n at s) l → Spelled (drop n s) l
unfolding items_from
items-spelled-past n at [] l c = rw (drop-nil {A = ℕ} n) (carries-nothing c)
items-spelled-past zero at (b ∷ s) l c = spelled_by at b s l (lexeme_at b s) refl (λ n m. items-spelled-past n (at + 1) s m) c
items-spelled-past (suc n) at (b ∷ s) l c = items-spelled-past n (at + 1) s l c

pub items-spelled : {s : List ℕ} {l : List Token} (at : ℕ) → Carries (items_from 0 at s) l → Spelled s l
items-spelled {s} {l} at c = items-spelled-past 0 at s l c
