-- Laws of answers: what a step that gives something says of its premises, and back.
use Rattle.std.specs.Prelude.{◌≡◌, Bool, true, false, ℕ, T}
use Rattle.std.proofs.Math.Path.{refl, ap}
use Rattle.std.proofs.Common.{sym, subst, ◌∙◌, arith}
use Rattle.refusal.specs.declared.Refusal.{Refusal}
use Rattle.check_typing.specs.Result.{Attempt, fails, yields, Checked, refused, passed, demand, and_then, with_row, next}

pub not-yields : {A : Type 0} {e : ℕ → Refusal} {a : A} → fails e ≡ yields a → ⊥
not-yields h = let z : ◌≡◌ {A = ℕ} 0 1 = cc in omega arith

pub yields-inj : {A : Type 0} {a b : A} → yields a ≡ yields b → a ≡ b
yields-inj h = cc

pub not-passed : {A : Type 0} {e : Refusal} {a : A} → refused e ≡ passed a → ⊥
not-passed h = let z : ◌≡◌ {A = ℕ} 0 1 = cc in omega arith

pub passed-inj : {A : Type 0} {a b : A} → passed a ≡ passed b → a ≡ b
passed-inj h = cc

module _ {A : Type 0} where
  pub require-yields : (b : Bool) (e : ℕ → Refusal) (r : Attempt A) {a : A} → demand b e r ≡ yields a → T b × (r ≡ yields a)
  require-yields true e r h = (tt, h)
  require-yields false e r h = absurd (not-yields h)

  pub require-holds : (b : Bool) (e : ℕ → Refusal) (r : Attempt A) → T b → demand b e r ≡ r
  require-holds true e r t = refl
  require-holds false e r t = absurd t

  pub at_row-passed : (r : ℕ) (x : Attempt A) (a : A) → with_row r x ≡ passed a → x ≡ yields a
  at_row-passed r (fails e) a h = absurd (not-passed h)
  at_row-passed r (yields b) a h = cc

module _ {A B : Type 0} where
  pub and_then-yields : (r : Attempt A) (f : A → Attempt B) {b : B} → and_then r f ≡ yields b → (a : A) × (r ≡ yields a) × (f a ≡ yields b)
  and_then-yields (fails e) f h = absurd (not-yields h)
  and_then-yields (yields a) f h = (a, refl, h)

  pub and_then-holds : (r : Attempt A) (f : A → Attempt B) (a : A) → r ≡ yields a → and_then r f ≡ f a
  and_then-holds r f a h = ap (λ (x : Attempt A). and_then x f) h

  pub next-passed : (x : Checked A) (f : A → Checked B) (b : B) → next x f ≡ passed b → (a : A) × (x ≡ passed a) × (f a ≡ passed b)
  unfolding next
  next-passed (refused e) f b h = absurd (not-passed h)
  next-passed (passed a) f b h = (a, refl, h)

  pub next-holds : (x : Checked A) (f : A → Checked B) (a : A) → x ≡ passed a → next x f ≡ f a
  unfolding next
  next-holds x f a h = ap (λ (y : Checked A). next y f) h
