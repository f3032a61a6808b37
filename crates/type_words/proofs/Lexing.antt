-- The marks of a text along the code's tests, and what the items from a place on begin with.
use Prim.Native.Nat.{ℕ, suc, ◌+◌, ◌-◌, ◌≤◌, ◌<◌}
use native.Mathlib.Omega.{arith}
use native.Mathlib.Numerals.{add-one}
use mathlib.Core.Path.{◌≡◌, refl, sym, ap, subst, ◌∙◌}
use mathlib.Core.Bool.{Bool, true, false}
use mathlib.Core.List.{List, ◌∷◌}
use lib.ListN.{length, get_or, take, drop, length-drop}
use lib.Seq.{drop-cons, get_or-drop}
use lib.Dec.{eqb}
use borrow.Author.Tests.{eq-eqb, ne_eqb}
use Rattle.wire.specs.Wire.{byte_at, part}
use Rattle.type_text.specs.Spelling.{is_blank, in_word, word}
use Rattle.type_text.specs.Reader.{Lexeme, space, found, broken, word_bytes, bracket_end, bracket_at, mark_at, lexeme_at, token, items_by, items_from, items_at}
use Rattle.type_words.specs.declared.Item.{Item}
use Rattle.type_words.specs.declared.Item.TheVariants.{Word, Mark, Fault, End}
use Rattle.type_words.specs.Told.{mark_token, run_of, mark_item, ItemTold}
use Rattle.type_words.specs.LexemeLaws.{Marking, mark-marking}
use Rattle.type_words.specs.ItemLaws.{kind-of-mark, mark-of-kind, word-taken, items-after, items-here, items-none, items-past-blanks, run-next}

-- ---- the code's tests

module _ (s : List ℕ) (p : ℕ) where
  later : (i j : ℕ) → p + 1 + i ≡ j → get_or s j 0 ≡ get_or (drop (p + 1) s) i 0
  later i j e = ap (byte_at s) (sym e) ∙ sym (get_or-drop (p + 1) s i 0)

  module _ (k : ℕ) {a : ℕ} (ea : a ≡ byte_at s (p + 2)) where
    pub comma-missing : (a ≡ 44 → ⊥) → Fault p (p + 2) ≡ mark_item p (bracket_end (mark_token k) (drop (p + 1) s))
    unfolding bracket_end
    comma-missing h = rw (ne_eqb (get_or (drop (p + 1) s) 1 0) 44 (λ e. h (ea ∙ later 1 (p + 2) (omega arith) ∙ e))) refl

    module _ (ha : a ≡ 44) {b : ℕ} (eb : b ≡ byte_at s (p + 3)) where
      comma : eqb (get_or (drop (p + 1) s) 1 0) 44 ≡ true
      comma = eq-eqb (get_or (drop (p + 1) s) 1 0) 44 (sym (later 1 (p + 2) (omega arith)) ∙ sym ea ∙ ha)

      pub one-missing : (b ≡ 49 → ⊥) → Fault p (p + 3) ≡ mark_item p (bracket_end (mark_token k) (drop (p + 1) s))
      unfolding bracket_end
      one-missing h = rw (comma, ne_eqb (get_or (drop (p + 1) s) 2 0) 49 (λ e. h (eb ∙ later 2 (p + 3) (omega arith) ∙ e))) refl

      module _ (hb : b ≡ 49) {d : ℕ} (ed : d ≡ byte_at s (p + 4)) where
        one : eqb (get_or (drop (p + 1) s) 2 0) 49 ≡ true
        one = eq-eqb (get_or (drop (p + 1) s) 2 0) 49 (sym (later 2 (p + 3) (omega arith)) ∙ sym eb ∙ hb)

        pub close-missing : (d ≡ 93 → ⊥) → Fault p (p + 4) ≡ mark_item p (bracket_end (mark_token k) (drop (p + 1) s))
        unfolding bracket_end
        close-missing h = rw (comma, one, ne_eqb (get_or (drop (p + 1) s) 3 0) 93 (λ e. h (ed ∙ later 3 (p + 4) (omega arith) ∙ e))) refl

        pub bracket-whole : d ≡ 93 → 0 < k → k < 8 → Mark k p (p + 5) ≡ mark_item p (bracket_end (mark_token k) (drop (p + 1) s))
        unfolding bracket_end
        bracket-whole hd h l =
            rw (comma, one, eq-eqb (get_or (drop (p + 1) s) 3 0) 93 (sym (later 3 (p + 4) (omega arith)) ∙ sym ed ∙ hd))
            (ap (λ (x : ℕ). Mark x p (p + 5)) (sym (kind-of-mark k h l)))

  module _ {d : ℕ} (ed : d ≡ byte_at s (p + 1)) where
    digit : d ≡ get_or (drop (p + 1) s) 0 0
    digit = ed ∙ later 0 (p + 1) (omega arith)

    pub zero-digit : {r : Item} → d ≡ 48 → r ≡ mark_item p (bracket_end (mark_token 6) (drop (p + 1) s)) → r ≡ mark_item p (bracket_at (drop (p + 1) s))
    unfolding bracket_at
    zero-digit h e = rw (eq-eqb (get_or (drop (p + 1) s) 0 0) 48 (sym digit ∙ h)) e

    pub one-digit : {r : Item} → d ≡ 49 → r ≡ mark_item p (bracket_end (mark_token 7) (drop (p + 1) s)) → r ≡ mark_item p (bracket_at (drop (p + 1) s))
    unfolding bracket_at
    one-digit h e =
        rw (ne_eqb (get_or (drop (p + 1) s) 0 0) 48 (λ q. omega (arith, digit)), eq-eqb (get_or (drop (p + 1) s) 0 0) 49 (sym digit ∙ h)) e

    pub digit-missing : (d ≡ 48 → ⊥) → (d ≡ 49 → ⊥) → Fault p (p + 1) ≡ mark_item p (bracket_at (drop (p + 1) s))
    unfolding bracket_at
    digit-missing h k =
        rw (ne_eqb (get_or (drop (p + 1) s) 0 0) 48 (λ q. h (digit ∙ q)), ne_eqb (get_or (drop (p + 1) s) 0 0) 49 (λ q. k (digit ∙ q))) refl

module _ (b p : ℕ) (l : List ℕ) where
  pub mark-colon : b ≡ 58 → Mark 1 p (p + 1) ≡ mark_item p (mark_at b l)
  unfolding mark_at
  mark-colon e = rw e refl

  pub mark-opening : b ≡ 123 → Mark 2 p (p + 1) ≡ mark_item p (mark_at b l)
  unfolding mark_at
  mark-opening e = rw e refl

  pub mark-closing : b ≡ 125 → Mark 3 p (p + 1) ≡ mark_item p (mark_at b l)
  unfolding mark_at
  mark-closing e = rw e refl

  pub mark-dot : b ≡ 46 → Mark 4 p (p + 1) ≡ mark_item p (mark_at b l)
  unfolding mark_at
  mark-dot e = rw e refl

  pub mark-question : b ≡ 63 → Mark 5 p (p + 1) ≡ mark_item p (mark_at b l)
  unfolding mark_at
  mark-question e = rw e refl

  pub mark-bracket : {r : Item} → b ≡ 91 → r ≡ mark_item p (bracket_at l) → r ≡ mark_item p (mark_at b l)
  unfolding mark_at
  mark-bracket e q = rw e q

  pub mark-none : (b ≡ 58 → ⊥) → (b ≡ 123 → ⊥) → (b ≡ 125 → ⊥) → (b ≡ 46 → ⊥) → (b ≡ 63 → ⊥) → (b ≡ 91 → ⊥)
      → Fault p p ≡ mark_item p (mark_at b l)
  unfolding mark_at
  mark-none h1 h2 h3 h4 h5 h6 =
      let z : p ≡ p + 0 = omega arith in
      rw (ne_eqb b 58 h1, ne_eqb b 123 h2, ne_eqb b 125 h3, ne_eqb b 46 h4, ne_eqb b 63 h5, ne_eqb b 91 h6) (ap (Fault p) z)

-- ---- the item at a place

module _ (s : List ℕ) (at p : ℕ) (from : at ≤ p) (inside : p < length s) (same : items_at s at ≡ items_at s p) where
  lexeme-told : (x : Lexeme) → Marking (length (drop (p + 1) s)) x
      → items_at s p ≡ items_by p x (λ n. items_from n (p + 1) (drop (p + 1) s)) → ItemTold s at (mark_item p x)
  lexeme-told space m e = absurd m
  lexeme-told (found k n) m e =
      let l = length-drop (p + 1) s in
      let u = mark-of-kind k m.0 in
      let z : p + 1 + n ≡ p + (1 + n) = omega arith in
      (from, omega arith, omega (arith, m.1), u.0, u.1, same ∙ e ∙ rw (items-after s p n, z, u.2) refl)
  lexeme-told (broken n) m e = let l = length-drop (p + 1) s in (from, omega arith, omega (arith, m), same ∙ e)

  module _ (plain : is_blank (get_or s p 0) ≡ false) where
    mark-here : in_word (get_or s p 0) ≡ false → ItemTold s at (mark_item p (mark_at (get_or s p 0) (drop (p + 1) s)))
    unfolding lexeme_at
    mark-here h =
        lexeme-told (mark_at (get_or s p 0) (drop (p + 1) s)) (mark-marking (drop (p + 1) s) (get_or s p 0))
        (items-here s p inside ∙ rw (plain, h) refl)

    word-here : (q : ℕ) → q ≡ p + 1 + length (word_bytes (drop (p + 1) s)) → q ≤ length s → in_word (get_or s p 0) ≡ true → ItemTold s at (Word p q)
    unfolding lexeme_at
    word-here q e l h =
        let n = length (word_bytes (drop (p + 1) s)) in
        let z : q - p ≡ suc n = omega arith in
        let w : part s p (q - p) ≡ get_or s p 0 ∷ word_bytes (drop (p + 1) s) =
        ap (λ (k : ℕ). take k (drop p s)) z
        ∙ ap (take (suc n)) (drop-cons s p 0 inside ∙ ap (λ (k : ℕ). get_or s p 0 ∷ drop k s) (sym (add-one p)))
        ∙ ap (λ (x : List ℕ). get_or s p 0 ∷ x) (word-taken (drop (p + 1) s)) in
        let i : items_at s p ≡ token p (word (get_or s p 0 ∷ word_bytes (drop (p + 1) s))) ∷ items_from n (p + 1) (drop (p + 1) s) =
        items-here s p inside ∙ rw (plain, h) refl in
        (from, omega arith, l, same ∙ i ∙ rw (items-after s p n, ← e, ← w) refl)

-- p is the place after the blanks.
module _ (s : List ℕ) (at p : ℕ) (e : p ≡ at + run_of is_blank (drop at s)) where
  same-items : items_at s at ≡ items_at s p
  same-items = items-past-blanks s at ∙ ap (items_at s) (sym e)

  pub told-end : p ≡ length s → ItemTold s at End
  told-end h = same-items ∙ items-none s p (omega arith)

  module _ (inside : p < length s) where
    not-blank : is_blank (get_or s p 0) ≡ false
    not-blank =
        let l = length-drop at s in
        ap (λ (k : ℕ). is_blank (get_or s k 0)) e ∙ ap is_blank (sym (get_or-drop at s (run_of is_blank (drop at s)) 0))
        ∙ run-next is_blank (drop at s) (omega arith)

    pub told-word : {t : Bool} (q : ℕ) → t ≡ in_word (get_or s p 0) → t ≡ true
        → (q ≡ p + 1 + length (word_bytes (drop (p + 1) s))) × (q ≤ length s) → ItemTold s at (Word p q)
    told-word q a h f = word-here s at p (omega arith) inside same-items not-blank q f.0 f.1 (sym a ∙ h)

    pub told-mark : {t : Bool} {r : Item} → t ≡ in_word (get_or s p 0) → t ≡ false → r ≡ mark_item p (mark_at (get_or s p 0) (drop (p + 1) s))
        → ItemTold s at r
    told-mark a h f = subst (ItemTold s at) (sym f) (mark-here s at p (omega arith) inside same-items not-blank (sym a ∙ h))
