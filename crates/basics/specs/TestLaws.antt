-- Truth values, and tests of numbers that hold or fail, as facts.
use Rattle.std.specs.Prelude.{ℕ, zero, suc, ◌-◌, ◌<◌, ◌≤◌, ◌≡◌, refl, Bool, true, false, not, ◌&&◌, ◌||◌, ◌⊎◌, T, ltb, leb, eqb}
use Rattle.std.proofs.Common.{sym, ◌∙◌, subst, inl, inr, arith, ltb→lt, leb→le, eqb→eq, lt→ltb, le→leb, nltb→le}
use Rattle.std.proofs.Math.Dec.{eqb_refl}

-- ---- a test as a type

pub T_of : {b : Bool} → b ≡ true → T b
T_of e = subst T (sym e) tt

pub T-of-false : {b : Bool} → b ≡ false → T (not b)
T-of-false e = subst (λ (x : Bool). T (not x)) (sym e) tt

pub of_t : (b : Bool) → T b → b ≡ true
of_t true t = refl
of_t false t = elim t [ ]

pub not-T-false : (b : Bool) → (T b → ⊥) → b ≡ false
not-T-false true t = absurd (t tt)
not-T-false false t = refl

pub not-not : (n : Bool) → T (not n) → T n → ⊥
not-not true a b = a
not-not false a b = b

pub not-intro : (n : Bool) → (T n → ⊥) → T (not n)
not-intro true f = f tt
not-intro false f = tt

pub and_l : (a b : Bool) → T (a && b) → T a
and_l true b t = tt
and_l false b t = t

pub and_r : (a b : Bool) → T (a && b) → T b
and_r true b t = t
and_r false b t = elim t [ ]

pub and_i : (a b : Bool) → T a → T b → T (a && b)
and_i true b s t = t
and_i false b s t = s

pub or_l : (a b : Bool) → T a → T (a || b)
or_l true b t = tt
or_l false b t = elim t [ ]

pub or_r : (a b : Bool) → T b → T (a || b)
or_r true b t = tt
or_r false b t = t

pub or_case : (a b : Bool) {X : Type 0} → (T a → X) → (T b → X) → T (a || b) → X
or_case true b f g t = f tt
or_case false b f g t = g t

-- ---- a test that is true or false

pub apart : {A : Type 0} → false ≡ true → A
apart e = absurd (let z : ◌≡◌ {A = ℕ} 0 1 = cc in omega arith)

pub true-false : {B : Type 0} → true ≡ false → B
true-false e = apart (sym e)

-- A test and its negation cannot both hold.
pub clash : {a : Bool} → a ≡ true → a ≡ false → ⊥
clash e f = let z : ◌≡◌ {A = ℕ} 0 1 = cc in omega arith

pub unequal : {b : Bool} {A : Type 0} → b ≡ true → not b ≡ true → A
unequal e f = absurd (let z : ◌≡◌ {A = ℕ} 0 1 = cc in omega arith)

-- A test that holds exactly where another does.
pub agree : (a b : Bool) → (a ≡ true → b ≡ true) → (b ≡ true → a ≡ true) → a ≡ b
agree true b f g = sym (f refl)
agree false true f g = g refl
agree false false f g = refl

-- A test by its negation.
pub not-true : (t : Bool) → not t ≡ true → t ≡ false
not-true true e = sym e
not-true false e = refl

pub not-false : (t : Bool) → not t ≡ false → t ≡ true
not-false true e = refl
not-false false e = sym e

-- What a test tells, by the negation of the code's answer.
pub told : {b c : Bool} → b ≡ c → not b ≡ false → c ≡ true
told {b} e f = sym e ∙ not-false b f

pub untold : {b c : Bool} → b ≡ c → not b ≡ true → c ≡ false
untold {b} e f = sym e ∙ not-true b f

-- ---- both, either

pub and-of : (a b : Bool) → a && b ≡ true → (a ≡ true) × (b ≡ true)
and-of true b e = (refl, e)
and-of false b e = let z : ◌≡◌ {A = ℕ} 0 1 = cc in absurd (omega arith)

pub and_left : (a b : Bool) → a && b ≡ true → a ≡ true
and_left a b e = (and-of a b e).0

pub and_right : (a b : Bool) → a && b ≡ true → b ≡ true
and_right a b e = (and-of a b e).1

pub both_true : {a b : Bool} → a ≡ true → b ≡ true → a && b ≡ true
both_true e f = rw (e, f) refl

pub and-true : (a : Bool) → a && true ≡ a
and-true true = refl
and-true false = refl

pub and-false : (a : Bool) → a && false ≡ false
and-false true = refl
and-false false = refl

pub and_assoc : (a b c : Bool) → a && (b && c) ≡ (a && b) && c
and_assoc true b c = refl
and_assoc false b c = refl

pub or-of : (a b : Bool) → a || b ≡ true → (a ≡ true) ⊎ (b ≡ true)
or-of true b e = inl refl
or-of false b e = inr e

pub or_left : {a : Bool} (b : Bool) → a ≡ true → a || b ≡ true
or_left b e = rw e refl

pub or_right : (a : Bool) {b : Bool} → b ≡ true → a || b ≡ true
or_right true e = refl
or_right false e = e

pub or-false : (a : Bool) → a ≡ a || false
or-false true = refl
or-false false = refl

pub or_assoc : (a b c : Bool) → (a || b) || c ≡ a || (b || c)
or_assoc true b c = refl
or_assoc false b c = refl

-- Where a condition is met, what is asked under it holds.
pub under : (a b : Bool) → not a || b ≡ true → a ≡ true → b ≡ true
under true b e h = e
under false b e h = let z : ◌≡◌ {A = ℕ} 0 1 = cc in absurd (omega arith)

-- ---- tests of numbers

pub lt_of : (m n : ℕ) → ltb m n ≡ true → m < n
lt_of m n e = ltb→lt m n (T_of e)

pub le_of : (m n : ℕ) → leb m n ≡ true → m ≤ n
le_of m n e = leb→le m n (T_of e)

pub eq_of : (m n : ℕ) → eqb m n ≡ true → m ≡ n
eq_of m n e = eqb→eq m n (T_of e)

pub of_eq : (m n : ℕ) → m ≡ n → eqb m n ≡ true
of_eq m n e = of_t (eqb m n) (subst (λ (x : ℕ). T (eqb m x)) e (eqb_refl m))

pub of_le : (m n : ℕ) → m ≤ n → leb m n ≡ true
of_le m n h = of_t (leb m n) (le→leb m n h)

pub of_lt : (m n : ℕ) → m < n → ltb m n ≡ true
of_lt m n h = of_t (ltb m n) (lt→ltb m n h)

pub ne_of : (m n : ℕ) → not (eqb m n) ≡ true → m ≡ n → ⊥
ne_of m n h e = clash (of_eq m n e) (not-true (eqb m n) h)

pub lt_not : (m n : ℕ) → ltb m n ≡ false → n ≤ m
lt_not m n e = nltb→le m n (T-of-false e)

-- A number that is not 0 is above 0, and the one after another.
pub positive : (n : ℕ) → (n ≡ 0 → ⊥) → 0 < n
positive zero h = absurd (h refl)
positive (suc n) h = omega arith

pub one_less : (n : ℕ) → (n ≡ 0 → ⊥) → n ≡ suc (n - 1)
one_less zero h = absurd (h refl)
one_less (suc n) h = omega arith
