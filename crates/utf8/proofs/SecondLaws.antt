-- The range of the second octet: one law for each way out of `is_second`.
use Prim.Native.Nat.{ℕ, ◌≤◌}
use mathlib.Core.Path.{◌≡◌, refl, sym, ◌∙◌}
use mathlib.Core.Bool.{Bool, true, false, not, ◌&&◌}
use native.Mathlib.Omega.{arith}
use lib.Dec.{leb, eqb}
use borrow.Author.Tests.{le-leb, ne_eqb, leb-true}
use Rattle.basics.specs.Choice.{pick}
use Rattle.basics.specs.TestLaws.{and-of, not-true, not-false, and-true}
use Rattle.utf8.specs.Utf8.{range, in_range, tail}
use Rattle.utf8.specs.Octets.{least_after, most_after}

-- Whatever the first octet is, the second lies in UTF8-tail.
of_three : (P : ℕ → Type 0) (s t : Bool) {x y z : ℕ} → P x → P y → P z → P (pick s x (pick t y z))
of_three P true t p q r = p
of_three P false true p q r = q
of_three P false false p q r = r

least-tail : (a : ℕ) → 0x80 ≤ least_after a
least-tail a = of_three (λ (n : ℕ). 0x80 ≤ n) (eqb a 0xE0) (eqb a 0xF0) (omega arith) (omega arith) (omega arith)

most-tail : (a : ℕ) → most_after a ≤ 0xBF
most-tail a = of_three (λ (n : ℕ). n ≤ 0xBF) (eqb a 0xED) (eqb a 0xF4) (omega arith) (omega arith) (omega arith)

-- One law for each way out of `is_second`.
module _ (a b : ℕ) {t : Bool} (e : t ≡ in_range tail b) where
  abbrev Says : Bool → Type 0
  Says x = x ≡ in_range (range (least_after a) (most_after a)) b

  pub second-no-tail : not t ≡ true → Says false
  second-no-tail f = by (leb (least_after a) b) (leb b (most_after a)) refl refl
    where
      by : (x y : Bool) → leb (least_after a) b ≡ x → leb b (most_after a) ≡ y → false ≡ x && y
      by false y p q = refl
      by true false p q = refl
      by true true p q =
          let low : 0x80 ≤ b = omega (arith, least-tail a, leb-true (least_after a) b p) in
          let high : b ≤ 0xBF = omega (arith, most-tail a, leb-true b (most_after a) q) in
          sym (not-true t f) ∙ e ∙ rw (le-leb 0x80 b low, le-leb b 0xBF high) refl

  module _ (f : not t ≡ false) where
    in_tail : (leb 0x80 b ≡ true) × (leb b 0xBF ≡ true)
    in_tail = and-of (leb 0x80 b) (leb b 0xBF) (sym e ∙ not-false t f)

    pub second-E0 : a ≡ 0xE0 → Says (leb 0xA0 b)
    second-E0 p = rw (p, in_tail.1) (sym (and-true (leb 0xA0 b)))

    pub second-ED : a ≡ 0xED → Says (leb b 0x9F)
    second-ED p = rw (p, in_tail.0) refl

    pub second-F0 : a ≡ 0xF0 → Says (leb 0x90 b)
    second-F0 p = rw (p, in_tail.1) (sym (and-true (leb 0x90 b)))

    pub second-F4 : a ≡ 0xF4 → Says (leb b 0x8F)
    second-F4 p = rw (p, in_tail.0) refl

    pub second-any : (a ≡ 0xE0 → ⊥) → (a ≡ 0xED → ⊥) → (a ≡ 0xF0 → ⊥) → (a ≡ 0xF4 → ⊥) → Says true
    second-any p q r s =
        rw (ne_eqb a 0xE0 p, ne_eqb a 0xED q, ne_eqb a 0xF0 r, ne_eqb a 0xF4 s) (rw (in_tail.0, in_tail.1) refl)

pub ruleset second-laws = (second-no-tail, second-E0, second-ED, second-F0, second-F4, second-any)
