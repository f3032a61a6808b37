-- Laws of a word that `type_words::item_at` tells, for who looks it up by its place.
use Rattle.std.specs.Prelude.{◌≡◌, List, ◌∷◌, ℕ, ◌-◌, ◌<◌, length, take, drop}
use Rattle.std.proofs.Common.{◌∙◌, ap, arith}
use Rattle.wire.specs.Wire.{part}
use Rattle.type_text.specs.Spelling.{word}
use Rattle.type_text.specs.Reader.{Item, token, items_at}
use Rattle.type_words.specs.declared.Item.TheVariants.{Word}
use Rattle.type_words.specs.Told.{ItemTold}
use Rattle.type_words.specs.ItemLaws.{word-taken, word-whole, word-end-place}
use Rattle.type_reading.specs.Tables.{word_from, WordUpTo}
use Rattle.type_reading.specs.Readings.{Onward}

-- One item fewer.
pub one_fewer : {i : Item} {l m : List Item} → l ≡ i ∷ m → length m < length l
one_fewer e = let z = ap length e in omega arith

-- The bytes of a word are the word at its place.
pub word-part : (s : List ℕ) (p q : ℕ) → WordUpTo s p q → part s p (q - p) ≡ word_from s p
word-part s p q w =
    let z : q - p ≡ length (word_from s p) = omega (arith, w.0) in
    ap (λ (n : ℕ). take n (drop p s)) z ∙ word-taken (drop p s)

module _ (s : List ℕ) (at p q : ℕ) (t : ItemTold s at (Word p q)) where
  pub word-items : items_at s at ≡ token p (word (word_from s p)) ∷ items_at s q
  word-items = t.3 ∙ ap (λ (w : List ℕ). token p (word w) ∷ items_at s q) (word-whole s at p q t)

  pub word-up-to : WordUpTo s p q
  word-up-to = (word-end-place s at p q t, t.1, t.2)

  pub word-onward : Onward s at q
  word-onward = record { forward = omega (arith, t.0, t.1); inside = t.2; fewer = let z = one_fewer t.3 in omega arith }
