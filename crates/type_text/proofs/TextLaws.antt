-- The reader of texts of types reads exactly the texts of the grammar (`read-sound`, `read-complete`), each in one way (`text-unique`); of any
-- other text it finds the first offending byte (`offends-first`, `offends-within`).
use Rattle.std.specs.Prelude.{◌≡◌, refl, ℕ, suc, ◌+◌, ◌≤◌, length, take, drop}
use Rattle.std.proofs.Common.{sym, ap, ◌∙◌, arith}
use mathlib.Core.List.{List, [], ◌∷◌, ◌++◌}
use Rattle.type_text.specs.Spelling.{word}
use Rattle.type_text.specs.Grammar.{Declaration, TypeText}
use Rattle.type_text.specs.Reader.{word_bytes, Item, token, fault, items_from, items_at, parsed, offends, read_declarations, read_text}
use Rattle.type_text.proofs.SpellingLaws.{spelled-items, items-spelled, items-shorter}
use Rattle.type_text.proofs.LookaheadLaws.{OneAheadAt, ahead-declarations, Alike, alike_end, Offence, offence_next, offence_inside}
use Rattle.type_text.proofs.PlaceLaws.{ItemIn, item-in-append, items-agree, PlacesIn, items-within, items-word-at}
use Rattle.type_text.proofs.ReaderLaws.{proper-none, declarations-any-fuel, declarations-sound, declarations-complete}

pub read-sound : (s : List ℕ) (ds : List Declaration) (r : List Item) → read_text s ≡ parsed ds r → TypeText s ds
unfolding read_text items_at
read-sound s ds r e =
    let d = declarations-sound (length s) (length s) [] proper-none (items_from 0 0 s) ds r (items-shorter 0 0 s) e in
    record { tokens = d.0; spelled = items-spelled 0 d.1; derived = d.2 }

-- Whatever the text's length is taken for.
read-any : (size f : ℕ) (s : List ℕ) (ds : List Declaration) → length s ≤ f → TypeText s ds → read_declarations size f [] (items_from 0 0 s) ≡ parsed ds []
read-any size f s ds h t =
    let n = items-shorter 0 0 s in
    declarations-complete t.derived size proper-none f (omega arith) (spelled-items 0 t.spelled)

pub read-complete : (s : List ℕ) (ds : List Declaration) → TypeText s ds → read_text s ≡ parsed ds []
unfolding read_text items_at
read-complete s ds t = read-any (length s) (length s) s ds (omega arith) t

-- Where a text is read, nothing of it is left.
pub read_whole : (s : List ℕ) (ds : List Declaration) (r : List Item) → read_text s ≡ parsed ds r → r ≡ []
read_whole s ds r e = cc (read-complete s ds (read-sound s ds r e))

pub text-unique : (s : List ℕ) (ds ds' : List Declaration) → TypeText s ds → TypeText s ds' → ds ≡ ds'
text-unique s ds ds' t u = cc (read-complete s ds t, read-complete s ds' u)

-- ---- the first offending byte

-- s' has what s offends with at p: the bytes before it, the byte itself (or the end there: "the length if the text ends too soon") and, where a word
-- of s begins at p, that word whole: "of a word, taken whole, its first".
pub record SameThrough (s s' : List ℕ) (p : ℕ) : Type 0 where
  pub bytes : take (suc p) s ≡ take (suc p) s'
  pub words : (w : List ℕ) → ItemIn (token p (word w)) (items_at s 0) → word_bytes (drop p s') ≡ w

-- Every text has this of itself.
pub same-through-self : (s : List ℕ) (p : ℕ) → SameThrough s s p
unfolding items_at
same-through-self s p = record {
  bytes = refl;
  words = λ w h.
      let a = items-word-at 0 0 s h in
      let z : p ≡ a.0 = omega (arith, a.1) in
      ap (λ (d : ℕ). word_bytes (drop d s)) z ∙ a.2;
}

-- Where s ends too soon, such a text is s itself.
pub same-at-end : (s s' : List ℕ) → take (suc (length s)) s ≡ take (suc (length s)) s' → s ≡ s'
same-at-end [] [] e = refl
same-at-end [] (b ∷ s') e = cc
same-at-end (a ∷ s) [] e = cc
same-at-end (a ∷ s) (b ∷ s') e =
    let h : take (suc (length s)) s ≡ take (suc (length s)) s' = cc in
    let q = same-at-end s s' h in
    cc

-- Such a text has the same items before the one that offends, and a like one there.
like-items : (s s' : List ℕ) (p : ℕ) (t o : List Item) → items_from 0 0 s ≡ t ++ o → Offence (length s) p o → SameThrough s s' p
    → (l : List Item) × (items_from 0 0 s' ≡ t ++ l) × Alike p o l
unfolding items_at
like-items s s' p t [] q (offence_next h) a =
    let b : take (suc (length s)) s ≡ take (suc (length s)) s' = rw h at a.bytes in
    ([], ap (items_from 0 0) (sym (same-at-end s s' b)) ∙ q, alike_end)
like-items s s' p t (i ∷ o) q g a = items-agree (length s) p s s' 0 0 p t i o (omega arith) a.bytes a.words q g

module _ (s : List ℕ) (p f : ℕ) (h : length s ≤ f) (e : read_text s ≡ offends p) where
  -- The offence among the items, whatever the fuel.
  offence-at : OneAheadAt (length s) (read_declarations (length s) f []) (items_from 0 0 s) (offends p)
  unfolding read_text items_at
  offence-at =
      let n = items-shorter 0 0 s in
      let q : read_declarations (length s) f [] (items_from 0 0 s) ≡ offends p =
      declarations-any-fuel (length s) f (length s) [] (items_from 0 0 s) (omega arith) n ∙ e in
      rw q at ((ahead-declarations (length s) f []).settled (items_from 0 0 s))

-- No text with what s offends with is one of the grammar.
pub offends-first : (s s' : List ℕ) (p : ℕ) (ds : List Declaration) → read_text s ≡ offends p → SameThrough s s' p → TypeText s' ds → ⊥
offends-first s s' p ds e a t =
    let f = length s + length s' in
    let o = offence-at s p f (omega arith) e in
    let l = like-items s s' p o.0 o.1 o.2 o.3 a in
    let q : read_declarations (length s) f [] (items_from 0 0 s') ≡ offends p = ap (read_declarations (length s) f []) l.1 ∙ o.4 l.0 l.2 in
    let r = read-any (length s) f s' ds (omega arith) t in
    let z : ◌≡◌ {A = ℕ} 0 1 = cc in
    omega arith

pub offends-within : (s : List ℕ) (p : ℕ) → read_text s ≡ offends p → p ≤ length s
offends-within s p e =
    let o = offence-at s p (length s) (omega arith) e in
    by o.0 o.1 o.2 o.3
  where
    inside : (i : Item) {o : List Item} → PlacesIn (0 + length s) i → Offence (length s) p (i ∷ o) → p ≤ length s
    inside (token q k) w (offence_next h) = omega arith
    inside (fault q r) w (offence_next h) = omega arith
    inside (fault q r) w offence_inside = omega arith

    by : (t o : List Item) → items_from 0 0 s ≡ t ++ o → Offence (length s) p o → p ≤ length s
    by t [] q (offence_next h) = omega arith
    by t (i ∷ o) q g = inside i (items-within 0 0 s {i = i} (rw q (item-in-append i t o))) g
