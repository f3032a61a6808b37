-- The answer, at each of the ways out of the code.
use mathlib.Core.Path.{◌≡◌, refl, ap, sym, ◌∙◌}
use mathlib.Core.List.{List, ◌++◌}
use mathlib.Core.Bool.{Bool, true, false, ◌&&◌}
use Prim.Native.Nat.{ℕ, ◌≤◌, ◌<◌}
use native.Mathlib.Omega.{arith}
use lib.ListN.{length, take, drop}
use lib.Seq.{length-take-le}
use lib.Dec.{ltb}
use borrow.Author.Tests.{lt-ltb, le-ltb}
use Rattle.basics.specs.Choice.{pick}
use Rattle.basics.specs.TestLaws.{and-false}
use Rattle.refusal.specs.declared.Refusal.{Refusal}
use Rattle.refusal.specs.declared.Refusal.TheVariants.{BufferSize, MoveNotAllowed}
use Rattle.refusal.specs.declared.Outcome.{Outcome}
use Rattle.refusal.specs.Refusal.{done_with, refused_by}
use Rattle.tree_edit.specs.Wrote.{Wrote}
use Rattle.tree_edit.specs.WroteLaws.{wrote-all}
use Rattle.network.specs.Layout.{type_count}
use Rattle.network.specs.Form.{form_of, WellFormed}
use Rattle.network.specs.Decode.{type_of}
use Rattle.network.specs.Shapes.{tree_nodes}
use Rattle.counterexample_rules.specs.Breaking.{breaking}
use Rattle.counterexample.specs.Answer.{BreakingAnswer, breaking_refused, shown_bytes, breaking_shown, once_formed, are_type_rows, counterexample}
use Rattle.counterexample.specs.Tells.{Searched}
use Rattle.std.specs.Prelude.{Result, Ok, Err}

module _ (file : List ℕ) (first second : ℕ) (out : List ℕ) where
  -- The outcome and the buffer left are the answer's.
  abbrev pub Shows : Outcome → List ℕ → Type 0
  Shows o out' = (o ≡ (counterexample file first second out).outcome) × (out' ≡ (counterexample file first second out).out)

  shows : {o : Outcome} {out' : List ℕ} → counterexample file first second out ≡ record { outcome = o; out = out' } → Shows o out'
  shows e = (ap (λ (x : BreakingAnswer). x.outcome) (sym e), ap (λ (x : BreakingAnswer). x.out) (sym e))

  abbrev rows : BreakingAnswer
  rows = pick (are_type_rows file first second) (breaking_shown (shown_bytes (breaking (type_of file first) (type_of file second))) out) (breaking_refused MoveNotAllowed out)

  pub show-small : {o : Outcome} → length out < 512 → o ≡ refused_by BufferSize → Shows o out
  unfolding counterexample
  show-small {o} l e = shows (ap (λ (t : Bool). pick t (breaking_refused BufferSize out) (once_formed (form_of file) out rows)) (lt-ltb (length out) 512 l) ∙ ap (λ (x : Outcome). record { outcome = x; out = out }) (sym e))

  module _ (l : 512 ≤ length out) where
    roomy : counterexample file first second out ≡ once_formed (form_of file) out rows
    unfolding counterexample
    roomy = ap (λ (t : Bool). pick t (breaking_refused BufferSize out) (once_formed (form_of file) out rows)) (le-ltb (length out) 512 l)

    pub show-form : {o : Outcome} {v : Result (Unit {0}) Refusal} {why : Refusal} → v ≡ form_of file → v ≡ Err why → o ≡ refused_by why → Shows o out
    show-form {o} {v} {why} f r e =
        shows (roomy ∙ ap (λ (x : Result (Unit {0}) Refusal). once_formed x out rows) (sym f ∙ r) ∙ ap (λ (x : Outcome). record { outcome = x; out = out }) (sym e))

    module _ {v : Result (Unit {0}) Refusal} (f : v ≡ form_of file) (d : v ≡ (Ok tt)) where
      formed : counterexample file first second out ≡ rows
      formed = roomy ∙ ap (λ (x : Result (Unit {0}) Refusal). once_formed x out rows) (sym f ∙ d)

      tested : (t : Bool) → are_type_rows file first second ≡ t
          → counterexample file first second out
          ≡ pick t (breaking_shown (shown_bytes (breaking (type_of file first) (type_of file second))) out) (breaking_refused MoveNotAllowed out)
      tested t e = formed ∙ ap (λ (x : Bool). pick x (breaking_shown (shown_bytes (breaking (type_of file first) (type_of file second))) out) (breaking_refused MoveNotAllowed out)) e

      no-row : are_type_rows file first second ≡ false → {o : Outcome} → o ≡ refused_by MoveNotAllowed → Shows o out
      no-row t e = shows (tested false t ∙ ap (λ (x : Outcome). record { outcome = x; out = out }) (sym e))

      pub show-first : {o : Outcome} {n : ℕ} → n ≡ type_count file → n ≤ first → o ≡ refused_by MoveNotAllowed → Shows o out
      show-first c k e = no-row (ap (λ (x : Bool). x && ltb second (type_count file)) (le-ltb first (type_count file) (omega arith))) e

      pub show-second : {o : Outcome} {n : ℕ} → n ≡ type_count file → n ≤ second → o ≡ refused_by MoveNotAllowed → Shows o out
      show-second c k e = no-row (ap (λ (x : Bool). ltb first (type_count file) && x) (le-ltb second (type_count file) (omega arith)) ∙ and-false (ltb first (type_count file))) e

      pub show-found : {o : Outcome} {n k r : ℕ} (best out' : List ℕ) → n ≡ type_count file → first < n → second < n
          → Searched file first second (tree_nodes (type_of file first)) best k → Wrote out out' 0 r k (take k (drop 0 best)) → o ≡ done_with k → Shows o out'
      show-found {o} {n} {k} {r} best out' c p q s w e =
          let wf : WellFormed file = sym f ∙ d in
          let lf : first < type_count file = omega arith in
          let ls : second < type_count file = omega arith in
          let h = s.tells wf lf ls in
          let t : are_type_rows file first second ≡ true = rw (lt-ltb first (type_count file) lf, lt-ltb second (type_count file) ls) refl in
          let bytes = shown_bytes (breaking (type_of file first) (type_of file second)) in
          let len : length bytes ≡ k = ap length (sym h.0) ∙ length-take-le k best s.inside in
          let end : r ≡ k = w.next ∙ omega arith in
          let eo : out' ≡ bytes ++ drop (length bytes) out = wrote-all w ∙ rw (h.0, end, len) refl in
          shows (tested true t ∙ same (ap done_with len ∙ sym e) (sym eo))
        where
          same : {o o₂ : Outcome} {l l₂ : List ℕ} → o ≡ o₂ → l ≡ l₂ → ◌≡◌ {A = BreakingAnswer} (record { outcome = o; out = l }) (record { outcome = o₂; out = l₂ })
          same p q = cc
