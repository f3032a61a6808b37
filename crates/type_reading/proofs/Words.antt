-- Words of a text byte by byte, and the names of a table and of a stack entry by entry.
use mathlib.Core.Path.{◌≡◌, refl, sym, ◌∙◌, ap}
use mathlib.Core.List.{List, [], ◌∷◌}
use mathlib.Core.Bool.{Bool, true, false}
use Prim.Native.Nat.{ℕ, suc, ◌+◌, ◌-◌, ◌*◌, ◌≤◌, ◌<◌}
use native.Mathlib.Omega.{arith}
use native.Mathlib.Numerals.{add-one}
use lib.Dec.{eqb, ltb}
use lib.ListN.{length, drop_of_length-le}
use lib.Seq.{drop-cons}
use borrow.Author.Tests.{ltb-true, ltb-false, eq-eqb, ne_eqb}
use Rattle.basics.specs.TestLaws.{clash, one_less}
use Rattle.wire.specs.Wire.{byte_at, u16_at}
use Rattle.wire.specs.WireLaws.{byte_past}
use Rattle.type_text.specs.Spelling.{in_word}
use Rattle.type_text.specs.Grammar.{same_word, among}
use Rattle.type_text.specs.Reader.{word_bytes}
use Rattle.type_reading.specs.Tables.{word_from, declared_names, known_at, seen_names, WordUpTo}

-- ---- a word's first byte

module _ (s : List ℕ) (k : ℕ) where
  word_out : length s ≤ k → word_from s k ≡ []
  unfolding word_bytes
  word_out h = rw (drop_of_length-le s h) refl

  word_on : k < length s → in_word (byte_at s k) ≡ true → word_from s k ≡ byte_at s k ∷ word_from s (k + 1)
  unfolding word_bytes
  word_on h e = rw (add-one k, drop-cons s k 0 h, e) refl

  word-off : in_word (byte_at s k) ≡ false → word_from s k ≡ []
  unfolding word_bytes
  word-off e = by (ltb k (length s)) refl
    where
      by : (t : Bool) → ltb k (length s) ≡ t → word_from s k ≡ []
      by true q = rw (drop-cons s k 0 (ltb-true k (length s) q), e) refl
      by false q = word_out (ltb-false k (length s) q)

  -- No byte of a word stands past the end.
  word-inside : in_word (byte_at s k) ≡ true → k < length s
  word-inside e = by (ltb k (length s)) refl
    where
      by : (t : Bool) → ltb k (length s) ≡ t → k < length s
      by true q = ltb-true k (length s) q
      by false q = absurd (clash (sym (ap in_word (byte_past s k (ltb-false k (length s) q))) ∙ e) refl)

  word_byte : 0 < length (word_from s k) → in_word (byte_at s k) ≡ true
  word_byte h = by (in_word (byte_at s k)) refl
    where
      by : (t : Bool) → in_word (byte_at s k) ≡ t → in_word (byte_at s k) ≡ true
      by true q = q
      by false q = let z = ap length (word-off q) in absurd (omega arith)

pub none-long : (w : List ℕ) → length w ≡ 0 → w ≡ []
none-long [] e = refl
none-long (b ∷ w) e = absurd (omega arith)

-- ---- two words byte by byte

-- The words at p and at a agree in their first i bytes, and the one at p goes on up to q.
pub record Alike (s : List ℕ) (p q a i : ℕ) : Type 0 where
  pub inside : 0 < i → a + i ≤ length s
  pub rest : same_word (word_from s p) (word_from s a) ≡ same_word (word_from s (p + i)) (word_from s (a + i))
  pub end : q ≡ p + i + length (word_from s (p + i))

pub alike-none : (s : List ℕ) (p q a i : ℕ) → i ≡ 0 → WordUpTo s p q → Alike s p q a i
alike-none s p q a i e w =
    let x : p + i ≡ p = omega arith in
    let y : a + i ≡ a = omega arith in
    record { inside = λ h. absurd (omega arith); rest = rw (x, y) refl; end = rw x w.0 }

same_none : (k : ℕ) (w : List ℕ) → eqb (k + length w) k ≡ same_word [] w
unfolding same_word
same_none k [] = eq-eqb (k + 0) k (omega arith)
same_none k (b ∷ w) = ne_eqb (k + suc (length w)) k (λ e. omega arith)

module _ (s : List ℕ) (p q a i : ℕ) (l : Alike s p q a i) where
  module _ (h : p + i < q) where
    here : in_word (byte_at s (p + i)) ≡ true
    here = word_byte s (p + i) (omega (arith, l.end))

    goes : word_from s (p + i) ≡ byte_at s (p + i) ∷ word_from s (p + i + 1)
    goes = word_on s (p + i) (word-inside s (p + i) here) here

    pub alike-not : (byte_at s (a + i) ≡ byte_at s (p + i) → ⊥) → false ≡ same_word (word_from s p) (word_from s a)
    unfolding same_word
    alike-not n = sym (l.rest ∙ by (in_word (byte_at s (a + i))) refl)
      where
        by : (t : Bool) → in_word (byte_at s (a + i)) ≡ t → same_word (word_from s (p + i)) (word_from s (a + i)) ≡ false
        by true e =
            rw (
              goes,
              word_on s (a + i) (word-inside s (a + i) e) e,
              ne_eqb (byte_at s (p + i)) (byte_at s (a + i)) (λ z. n (sym z)),
            ) refl
        by false e = rw (goes, word-off s (a + i) e) refl

    pub alike-more : byte_at s (a + i) ≡ byte_at s (p + i) → Alike s p q a (i + 1)
    unfolding same_word
    alike-more e =
        let b : in_word (byte_at s (a + i)) ≡ true = ap in_word e ∙ here in
        let r = word-inside s (a + i) b in
        let x : p + (i + 1) ≡ p + i + 1 = omega arith in
        let y : a + (i + 1) ≡ a + i + 1 = omega arith in
        let m = ap length goes in
        record {
          inside = λ z. omega arith;
          rest = l.rest ∙ rw (goes, word_on s (a + i) r b, e, eq-eqb (byte_at s (p + i)) (byte_at s (p + i)) refl, x, y) refl;
          end = rw x (omega (arith, l.end));
        }

  pub alike-whole : p + i ≡ q → eqb (a + i + length (word_from s (a + i))) (a + i) ≡ same_word (word_from s p) (word_from s a)
  alike-whole e =
      let z = none-long (word_from s (p + i)) (omega (arith, l.end)) in
      same_none (a + i) (word_from s (a + i)) ∙ sym (l.rest ∙ ap (λ (w : List ℕ). same_word w (word_from s (a + i))) z)

-- ---- a table's entries, the last one first

-- The name w stands among the first n entries just where it stands among the first i.
pub record Sought (s table : List ℕ) (n : ℕ) (w : List ℕ) (i : ℕ) : Type 0 where
  pub inside : i ≤ n
  pub names : among w (declared_names s table n) ≡ among w (declared_names s table i)
  pub nodes : known_at 2 s table n w ≡ known_at 2 s table i w
  pub levels : known_at 4 s table n w ≡ known_at 4 s table i w

pub sought-all : (s table : List ℕ) (n : ℕ) (w : List ℕ) (i : ℕ) → i ≡ n → Sought s table n w i
sought-all s table n w i e = record { inside = omega arith; names = rw e refl; nodes = rw e refl; levels = rw e refl }

module _ (s table : List ℕ) (n : ℕ) (w : List ℕ) (i : ℕ) (f : Sought s table n w i) where
  pub sought-none : i ≡ 0 → among w (declared_names s table n) ≡ false
  unfolding declared_names among
  sought-none e = f.names ∙ rw e refl

  module _ (h : 0 < i) {t : Bool} (q : t ≡ same_word w (word_from s (u16_at table (6 * (i - 1))))) where
    prior : i ≡ suc (i - 1)
    prior = one_less i (λ e. omega arith)

    pub sought-here : t ≡ true →
        (i - 1 < n) × (among w (declared_names s table n) ≡ true) × (u16_at table (6 * (i - 1) + 2) ≡ known_at 2 s table n w) ×
        (u16_at table (6 * (i - 1) + 4) ≡ known_at 4 s table n w)
    unfolding declared_names among known_at
    sought-here e = (
      omega (arith, f.inside),
      f.names ∙ ap (λ (k : ℕ). among w (declared_names s table k)) prior ∙ rw (sym q ∙ e) refl,
      sym (f.nodes ∙ ap (λ (k : ℕ). known_at 2 s table k w) prior ∙ rw (sym q ∙ e) refl),
      sym (f.levels ∙ ap (λ (k : ℕ). known_at 4 s table k w) prior ∙ rw (sym q ∙ e) refl),
    )

    pub sought-less : t ≡ false → Sought s table n w (i - 1)
    unfolding declared_names among known_at
    sought-less e = record {
      inside = omega (arith, f.inside);
      names = f.names ∙ ap (λ (k : ℕ). among w (declared_names s table k)) prior ∙ rw (sym q ∙ e) refl;
      nodes = f.nodes ∙ ap (λ (k : ℕ). known_at 2 s table k w) prior ∙ rw (sym q ∙ e) refl;
      levels = f.levels ∙ ap (λ (k : ℕ). known_at 4 s table k w) prior ∙ rw (sym q ∙ e) refl;
    }

-- ---- a stack's entries, the last one first

pub record Seen (s stack : List ℕ) (base top : ℕ) (w : List ℕ) (i : ℕ) : Type 0 where
  pub low : base ≤ i
  pub high : i ≤ top
  pub names : among w (seen_names s stack base (top - base)) ≡ among w (seen_names s stack base (i - base))

pub seen_all : (s stack : List ℕ) (base top : ℕ) (w : List ℕ) (i : ℕ) → i ≡ top → base ≤ top → Seen s stack base top w i
seen_all s stack base top w i e h = record { low = omega arith; high = omega arith; names = rw e refl }

module _ (s stack : List ℕ) (base top : ℕ) (w : List ℕ) (i : ℕ) (f : Seen s stack base top w i) where
  pub seen_none : i ≤ base → false ≡ among w (seen_names s stack base (top - base))
  unfolding seen_names among
  seen_none h = let z : i - base ≡ 0 = omega (arith, f.low) in sym (f.names ∙ rw z refl)

  module _ (h : base < i) {t : Bool} (q : t ≡ same_word w (word_from s (u16_at stack (2 * (i - 1))))) where
    before-top : i - base ≡ suc (i - 1 - base)
    before-top = omega arith

    place : base + (i - 1 - base) ≡ i - 1
    place = omega arith

    pub seen_here : t ≡ true → true ≡ among w (seen_names s stack base (top - base))
    unfolding seen_names among
    seen_here e = sym (f.names ∙ ap (λ (k : ℕ). among w (seen_names s stack base k)) before-top ∙ rw (place, sym q ∙ e) refl)

    pub seen-less : t ≡ false → Seen s stack base top w (i - 1)
    unfolding seen_names among
    seen-less e = record {
      low = omega arith;
      high = omega (arith, f.high);
      names = f.names ∙ ap (λ (k : ℕ). among w (seen_names s stack base k)) before-top ∙ rw (place, sym q ∙ e) refl;
    }
