-- Lists and sides read one in another: the stack that they share, and the table that they ask.
use mathlib.Core.Path.{◌≡◌, refl, sym, ◌∙◌, ap, subst}
use mathlib.Core.List.{List, []}
use mathlib.Core.Logic.{◌⊎◌, inl, inr}
use Prim.Native.Nat.{ℕ, suc, ◌+◌, ◌-◌, ◌*◌, ◌≤◌}
use native.Mathlib.Omega.{arith}
use lib.ListN.{take}
use lib.Seq.{take-take}
use Rattle.type_text.specs.Grammar.{among}
use Rattle.type_reading.specs.Tables.{declared_names, seen_names, Named}
use Rattle.type_reading.specs.Readings.{StackKept}
use Rattle.type_reading.specs.TableLaws.{seen-kept}

-- ---- the stack

pub take_less : (m n : ℕ) (l l' : List ℕ) → m ≤ n → take n l' ≡ take n l → take m l' ≡ take m l
take_less m n l l' h e = sym (take-take m n l' h) ∙ (ap (take m) e ∙ take-take m n l h)

pub kept-both : {a b c : List ℕ} {top : ℕ} → StackKept a b top → StackKept b c top → StackKept a c top
kept-both x y = record { below = y.below ∙ x.below; size = y.size ∙ x.size }

pub kept_under : {a b : List ℕ} (top : ℕ) → StackKept a b (top + 1) → StackKept a b top
kept_under {a} {b} top x = record { below = take_less (2 * top) (2 * (top + 1)) a b (omega arith) x.below; size = x.size }

pub none_seen : (s stack : List ℕ) (top : ℕ) → seen_names s stack top (top - top) ≡ []
unfolding seen_names
none_seen s stack top = let z : top - top ≡ 0 = omega arith in rw z refl

-- The names before the next child of a list.
pub next-seen : (s stack stack' : List ℕ) (base top : ℕ) → base ≤ top → StackKept stack stack' (top + 1)
    → seen_names s stack' base (top + 1 - base) ≡ seen_names s stack base (suc (top - base))
next-seen s stack stack' base top h k =
    let z : top + 1 - base ≡ suc (top - base) = omega arith in
    ap (seen_names s stack' base) z ∙ seen-kept s stack stack' base (suc (top - base)) (top + 1) (omega arith) k.below

-- ---- the names that may stand at a side

pub allowed-named : (s table : List ℕ) (allowed n : ℕ) → (allowed ≡ n) ⊎ (allowed ≡ 0) → Named s table n → Named s table allowed
unfolding declared_names among
allowed-named s table allowed n (inl e) h = subst (Named s table) (sym e) h
allowed-named s table allowed n (inr e) h = rw e (omega arith, refl)
