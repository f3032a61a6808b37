-- The tables while entries are added: what stands before stays.
use Rattle.std.specs.Prelude.{◌≡◌, Bool, true, false, ◌||◌, List, [], ◌∷◌, ℕ, zero, suc, ◌+◌, ◌*◌, ◌/◌, ◌%◌, ◌≤◌, ◌<◌, length, take, get_or, set}
use Rattle.std.proofs.Math.Path.{refl}
use Rattle.std.proofs.Common.{sym, ◌∙◌, ap, subst, ⊎_elim, eq-or-lt_of_le, arith}
use Rattle.std.proofs.lemmas.List.{take-set-le}
use Rattle.wire.specs.WireLaws.{same-16}
use Rattle.wire.specs.Wire.{byte_at, u16_at, put_u16}
use Rattle.basics.specs.TestLaws.{true-false}
use Rattle.type_text.specs.Grammar.{same_word, among}
use Rattle.type_reading.specs.Tables.{word_from, declared_names, known_at, seen_names, NoneEmpty}

-- Two lists that agree in their first m bytes.
byte-first : (l : List ℕ) (m k : ℕ) → k < m → get_or (take m l) k 0 ≡ get_or l k 0
byte-first [] zero k h = refl
byte-first [] (suc m) k h = refl
byte-first (a ∷ l) zero k h = absurd (omega (arith, h))
byte-first (a ∷ l) (suc m) zero h = refl
byte-first (a ∷ l) (suc m) (suc k) h = byte-first l m k (omega (arith, h))

module _ (l l' : List ℕ) (m : ℕ) (e : take m l' ≡ take m l) where
  pub byte-kept : (k : ℕ) → k < m → byte_at l' k ≡ byte_at l k
  byte-kept k h = sym (byte-first l' m k h) ∙ (ap (λ x. get_or x k 0) e ∙ byte-first l m k h)

  pub u16-kept : (k : ℕ) → k + 2 ≤ m → u16_at l' k ≡ u16_at l k
  unfolding u16_at
  u16-kept k h = rw (byte-kept k (omega (arith, h)), byte-kept (k + 1) (omega (arith, h))) refl

pub names-kept : (s table table' : List ℕ) (n m : ℕ) → n ≤ m → take (6 * m) table' ≡ take (6 * m) table → declared_names s table' n ≡ declared_names s table n
unfolding declared_names
names-kept s table table' zero m h e = refl
names-kept s table table' (suc n) m h e =
    rw (u16-kept table table' (6 * m) e (6 * n) (omega (arith, h)), names-kept s table table' n m (omega (arith, h)) e) refl

pub known_kept : (at : ℕ) (s table table' : List ℕ) (n m : ℕ) → at ≤ 4 → n ≤ m → take (6 * m) table' ≡ take (6 * m) table → (t : List ℕ)
    → known_at at s table' n t ≡ known_at at s table n t
unfolding known_at
known_kept at s table table' zero m a h e t = refl
known_kept at s table table' (suc n) m a h e t =
    rw (
      u16-kept table table' (6 * m) e (6 * n) (omega (arith, h)),
      u16-kept table table' (6 * m) e (6 * n + at) (omega (arith, h, a)),
      known_kept at s table table' n m a (omega (arith, h)) e t,
    ) refl

pub seen-kept : (s stack stack' : List ℕ) (base k top : ℕ) → base + k ≤ top → take (2 * top) stack' ≡ take (2 * top) stack
    → seen_names s stack' base k ≡ seen_names s stack base k
unfolding seen_names
seen-kept s stack stack' base zero top h e = refl
seen-kept s stack stack' base (suc k) top h e =
    rw (u16-kept stack stack' (2 * top) e (2 * (base + k)) (omega (arith, h)), seen-kept s stack stack' base k top (omega (arith, h)) e) refl

-- No name is empty in a table that has none, nor in the first part of one where none is.
pub none-empty-yet : (s table : List ℕ) → NoneEmpty s table 0
unfolding declared_names among
none-empty-yet s table = refl

pub none-empty-less : (s table : List ℕ) (n m : ℕ) → n ≤ m → NoneEmpty s table m → NoneEmpty s table n
unfolding declared_names among
none-empty-less s table zero m h e = refl
none-empty-less s table (suc n) zero h e = absurd (omega arith)
none-empty-less s table (suc n) (suc m) h e =
    ⊎_elim
    (λ q. subst (NoneEmpty s table) (sym q) e)
    (λ l. none-empty-less s table (suc n) m (omega arith) (right (same_word [] (word_from s (u16_at table (6 * m)))) e))
    (eq-or-lt_of_le h)
  where
    right : (a : Bool) {b : Bool} → a || b ≡ false → b ≡ false
    right true e = true-false e
    right false e = e

-- A number put past the first m bytes leaves them.
pub first-kept : (l : List ℕ) (m at v : ℕ) → m ≤ at → take m (put_u16 l at v) ≡ take m l
unfolding put_u16
first-kept l m at v h = take-set-le m (set l at (v % 256)) (at + 1) (v / 256) (omega (arith, h)) ∙ take-set-le m l at (v % 256) h

-- A name put on the stack.
pub push-name : (s stack : List ℕ) (base k p : ℕ) → 2 * (base + k) + 2 ≤ length stack
    → seen_names s (put_u16 stack (2 * (base + k)) p) base (suc k) ≡ word_from s p ∷ seen_names s stack base k
unfolding seen_names
push-name s stack base k p h =
    rw (
      same-16 stack (2 * (base + k)) p h,
      seen-kept s stack (put_u16 stack (2 * (base + k)) p) base k (base + k) (omega arith) (first-kept stack (2 * (base + k)) (2 * (base + k)) p (omega arith)),
    ) refl
