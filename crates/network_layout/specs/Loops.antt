-- The one loop: the lowest over the numbers below n, taken one by one; and the same over a run only, where the rest is not broken.
use Rattle.std.specs.Prelude.{ℕ, ◌+◌, ◌<◌, ◌≤◌, ◌≡◌, refl, Bool, true, false, ltb, List, length, take, drop}
use Rattle.std.proofs.Common.{sym, ◌∙◌, ap, arith, lt-ltb, le-ltb, le-leb, ltb-true, ltb-false, drop_of_length-le, take_all}
use Rattle.std.proofs.lemmas.Bool.{lt-leb}
use Rattle.std.proofs.Math.Seq.{take-length, drop-length}
use Rattle.basics.specs.Choice.{pick}
use Rattle.network.specs.Least.{least, least_over}
use Rattle.network.specs.Rows.{in_run}
use Rattle.network.proofs.FoldLaws.{over_none as over_nothing}
use Rattle.network_layout.specs.LeastFacts.{over_zero, over-more, over-upto}
use Rattle.std.specs.Prelude.{Option, None}

-- m is the lowest over the numbers below `end` of any f that `post` gives from `first` on, and that has nothing below `first`.
abbrev pub LowestBy : (ℕ → Option ℕ → Type 0) → ℕ → ℕ → Option ℕ → Type 0
LowestBy post first end m =
    (f : ℕ → Option ℕ) → ((i : ℕ) (x : Option ℕ) → i < end → post i x → x ≡ f i) → ((i : ℕ) → i < first → f i ≡ None)
    → m ≡ least_over end f

-- m is the lowest over the numbers below i, and i has not passed n.
pub record Swept (f : ℕ → Option ℕ) (n i : ℕ) (m : Option ℕ) : Type 0 where
  pub within : i ≤ n
  pub sofar : m ≡ least_over i f

pub swept_none : (f : ℕ → Option ℕ) (n : ℕ) → Swept f n 0 None
swept_none f n = record { within = omega arith; sofar = over_zero f }

pub swept-more : (f : ℕ → Option ℕ) (n i : ℕ) (m x r : Option ℕ) → Swept f n i m → i < n → x ≡ f i → r ≡ least m x → Swept f n (i + 1) r
swept-more f n i m x r w h q e = record { within = omega arith; sofar = over-more f i m x r w.sofar q e }

pub swept-done : (f : ℕ → Option ℕ) (n i : ℕ) (m : Option ℕ) (k : ℕ) → Swept f n i m → n ≤ i → n ≡ k → m ≡ least_over k f
swept-done f n i m k w h e =
    let z : i ≡ k = omega (arith, w.within) in
    w.sofar ∙ ap (λ (j : ℕ). least_over j f) z

pub ruleset loop-laws = (swept_none, swept-more, swept-done)

-- A run's rows that are among the first `size` go from `clip first size` to `clip (first + n) size`.
abbrev pub clip : ℕ → ℕ → ℕ
clip p q = pick (ltb p q) p q

-- Rows outside the run are not broken.
abbrev pub OnlyRun : (ℕ → Option ℕ) → ℕ → ℕ → Type 0
OnlyRun f first n = (j : ℕ) → in_run first n j ≡ false → f j ≡ None

before-run : (first n j : ℕ) → j < first → in_run first n j ≡ false
before-run first n j h = simp (lt-leb first j h)

after_run : (first n j : ℕ) → first + n ≤ j → in_run first n j ≡ false
after_run first n j h = simp (le-leb first j (omega arith), le-ltb j (first + n) h)

pub clip-below : (p q : ℕ) → (clip p q ≤ p) × (clip p q ≤ q)
clip-below p q = go (ltb p q) refl
  where
    go : (t : Bool) → ltb p q ≡ t → (pick t p q ≤ p) × (pick t p q ≤ q)
    go true e = let l : p < q = ltb-true p q e in (omega arith, omega arith)
    go false e = let l : q ≤ p = ltb-false p q e in (omega arith, omega arith)

clip-rises : (p n q : ℕ) → clip p q ≤ clip (p + n) q
clip-rises p n q = go (ltb p q) refl (ltb (p + n) q) refl
  where
    go : (t : Bool) → ltb p q ≡ t → (u : Bool) → ltb (p + n) q ≡ u → pick t p q ≤ pick u (p + n) q
    go true e true g = omega arith
    go true e false g = let l : p < q = ltb-true p q e in omega arith
    go false e true g = let l : q ≤ p = ltb-false p q e in let k : p + n < q = ltb-true (p + n) q g in omega arith
    go false e false g = omega arith

pub run_none : (f : ℕ → Option ℕ) (first n size from to : ℕ) → OnlyRun f first n → from ≡ clip (first + 0) size → to ≡ clip (first + n) size →
    Swept f to from None
run_none f first n size from to only p q =
    let z : first + 0 ≡ first = omega arith in
    let e : from ≡ clip first size = p ∙ ap (λ (x : ℕ). clip x size) z in
    let k : clip first size ≤ clip (first + n) size = clip-rises first n size in
    let b : clip first size ≤ first = (clip-below first size).0 in
    record {
      within = omega arith;
      sofar = sym (over_nothing f from (λ j l. only j (before-run first n j (omega arith))));
    }

past-run : (first n size j : ℕ) → clip (first + n) size ≤ j → j < size → in_run first n j ≡ false
past-run first n size j h l = after_run first n j (go (ltb (first + n) size) refl h)
  where
    go : (t : Bool) → ltb (first + n) size ≡ t → pick t (first + n) size ≤ j → first + n ≤ j
    go true e k = k
    go false e k = omega arith

pub run-done : (f : ℕ → Option ℕ) (first n size to i : ℕ) (m : Option ℕ) (k : ℕ) → OnlyRun f first n → to ≡ clip (first + n) size →
    Swept f to i m → to ≤ i → size ≡ k → m ≡ least_over k f
run-done f first n size to i m k only q w h e =
    let b : clip (first + n) size ≤ size = (clip-below (first + n) size).1 in
    let z : i ≡ to = omega (arith, w.within) in
    let o : least_over size f ≡ least_over to f = over-upto f to size (omega arith) (λ j l d. only j (past-run first n size j (omega arith) d)) in
    w.sofar ∙ ap (λ (j : ℕ). least_over j f) z ∙ sym o ∙ ap (λ (j : ℕ). least_over j f) e

-- One law for each way out of `clipped`.
pub clip-within : (first n size a b c end : ℕ) → a ≡ first → b ≡ n → end ≡ a + b → c ≡ size → end < c → first + n ≡ clip (first + n) size
clip-within first n size a b c end p q r e h = simp (lt-ltb (first + n) size (omega arith))

pub clip-past : (first n size a b c end : ℕ) → a ≡ first → b ≡ n → end ≡ a + b → c ≡ size → c ≤ end → size ≡ clip (first + n) size
clip-past first n size a b c end p q r e h = simp (le-ltb (first + n) size (omega arith))

pub ruleset clip-laws = (clip-within, clip-past)

-- As many numbers of a list as there are.
pub drop-clip : (s : List ℕ) (at : ℕ) → drop (clip at (length s)) s ≡ drop at s
drop-clip s at = go (ltb at (length s)) refl
  where
    go : (t : Bool) → ltb at (length s) ≡ t → drop (pick t at (length s)) s ≡ drop at s
    go true e = refl
    go false e = drop-length s ∙ sym (drop_of_length-le s (ltb-false at (length s) e))

pub take-clip : (l : List ℕ) (n : ℕ) → take (clip n (length l)) l ≡ take n l
take-clip l n = go (ltb n (length l)) refl
  where
    go : (t : Bool) → ltb n (length l) ≡ t → take (pick t n (length l)) l ≡ take n l
    go true e = refl
    go false e = take-length l ∙ sym (take_all n l (ltb-false n (length l) e))
