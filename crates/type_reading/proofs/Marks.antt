-- What is next where it is no word: a mark or a fault.
use mathlib.Core.Path.{◌≡◌, refl, ◌∙◌, ap}
use mathlib.Core.List.{List, [], ◌∷◌}
use Prim.Native.Nat.{ℕ, zero, suc, ◌<◌}
use native.Mathlib.Omega.{arith}
use Rattle.type_text.specs.Reader.{token, items_at, next_word}
use Rattle.type_words.specs.declared.Item.TheVariants.{Mark, Fault}
use Rattle.type_words.specs.Told.{mark_token, ItemTold}

module _ (s : List ℕ) (at : ℕ) where
  no-mark-word : (k : ℕ) → 0 < k → k < 8 → next_word (token at (mark_token k) ∷ []) ≡ []
  no-mark-word zero h l = absurd (omega arith)
  no-mark-word (suc zero) h l = refl
  no-mark-word (suc (suc zero)) h l = refl
  no-mark-word (suc (suc (suc zero))) h l = refl
  no-mark-word (suc (suc (suc (suc zero)))) h l = refl
  no-mark-word (suc (suc (suc (suc (suc zero))))) h l = refl
  no-mark-word (suc (suc (suc (suc (suc (suc zero)))))) h l = refl
  no-mark-word (suc (suc (suc (suc (suc (suc (suc zero))))))) h l = refl
  no-mark-word (suc (suc (suc (suc (suc (suc (suc (suc k)))))))) h l = absurd (omega arith)

  pub mark-no-word : (k p q : ℕ) → ItemTold s at (Mark k p q) → next_word (items_at s at) ≡ []
  mark-no-word k p q t = ap next_word t.5 ∙ no-mark-word k t.3 t.4

  pub fault-no-word : (p q : ℕ) → ItemTold s at (Fault p q) → next_word (items_at s at) ≡ []
  fault-no-word p q t = ap next_word t.3
