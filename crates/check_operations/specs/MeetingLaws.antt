-- The first operation of the file that passes a test, in code; and that an input met is an operation of the file.
use Rattle.std.specs.Prelude.{ℕ, zero, suc, ◌+◌, ◌-◌, ◌<◌, ◌≡◌, List, Bool, true, false}
use Rattle.std.proofs.Math.Path.{sym, ap}
use Rattle.std.proofs.Common.{◌∙◌, arith}
use Rattle.basics.specs.Choice.{pick}
use Rattle.network_syntax.specs.Syntax.{Operation, none, some}
use Rattle.network.specs.Layout.{operation_count}
use Rattle.network.specs.Decode.{operation_of, rows_from, network_of}
use Rattle.network.proofs.DecodeLaws.{rows_more, rows_none}
use Rattle.network_syntax.specs.Meets.{meets, first_of, met_input}
use Rattle.check_operations.specs.Meeting.{operation_met}
use Rattle.std.specs.Prelude.{Option, Some, None}

module _ (file : List ℕ) (test : Operation → Bool) (i n : ℕ) where
  pub first-none : n ≡ 0 → operation_met file None ≡ first_of test (rows_from (operation_of file) i n)
  unfolding first_of operation_met
  first-none z = sym (ap (first_of test) (rows_none (operation_of file) i n z))

  first_step : (n ≡ 0 → ⊥)
      → first_of test (rows_from (operation_of file) i n)
      ≡ pick (test (operation_of file i)) (some (operation_of file i)) (first_of test (rows_from (operation_of file) (i + 1) (n - 1)))
  unfolding first_of
  first_step z = ap (first_of test) (rows_more (operation_of file) i n z)

  pub first-here : {t : Bool} → (n ≡ 0 → ⊥) → t ≡ test (operation_of file i) → t ≡ true
      → operation_met file (Some i) ≡ first_of test (rows_from (operation_of file) i n)
  unfolding operation_met
  first-here z e f =
      sym (first_step z ∙ ap (λ (u : Bool). pick u (some (operation_of file i)) (first_of test (rows_from (operation_of file) (i + 1) (n - 1)))) (sym e ∙ f))

  pub first-later : {t : Bool} (x : Option ℕ) → (n ≡ 0 → ⊥) → t ≡ test (operation_of file i) → t ≡ false
      → operation_met file x ≡ first_of test (rows_from (operation_of file) (i + 1) (n - 1)) → operation_met file x ≡ first_of test (rows_from (operation_of file) i n)
  first-later x z e f h =
      h ∙ sym (first_step z ∙ ap (λ (u : Bool). pick u (some (operation_of file i)) (first_of test (rows_from (operation_of file) (i + 1) (n - 1)))) (sym e ∙ f))

  pub first-all : {m : ℕ} (x : Option ℕ) → m ≡ operation_count file → operation_met file x ≡ first_of test (rows_from (operation_of file) 0 m)
      → operation_met file x ≡ first_of test (network_of file).operations
  unfolding network_of
  first-all x c h = h ∙ ap (λ (m : ℕ). first_of test (rows_from (operation_of file) 0 m)) c

no_such : {A : Type 0} {o : Operation} → none ≡ some o → A
no_such e = absurd (let z : ◌≡◌ {A = ℕ} 0 1 = cc in omega arith)

-- The first that passes is one of the rows.
first-row : (f : ℕ → Operation) (test : Operation → Bool) (n first : ℕ) (o : Operation) → first_of test (rows_from f first n) ≡ some o
    → (k : ℕ) × (k < first + n) × (f k ≡ o)
unfolding first_of rows_from
first-row f test zero first o e = no_such e
first-row f test (suc n) first o e = go (test (f first)) e (λ h. first-row f test n (suc first) o h)
  where
    go : (t : Bool) → pick t (some (f first)) (first_of test (rows_from f (suc first) n)) ≡ some o
        → (first_of test (rows_from f (suc first) n) ≡ some o → (k : ℕ) × (k < suc first + n) × (f k ≡ o)) → (k : ℕ) × (k < first + suc n) × (f k ≡ o)
    go true e r = (first, omega arith, cc)
    go false e r = let h = r e in (h.0, omega (arith, h.1), h.2)

pub first-exists : (file : List ℕ) (test : Operation → Bool) (i : ℕ) → first_of test (network_of file).operations ≡ some (operation_of file i)
    → i < operation_count file
unfolding network_of operation_of
first-exists file test i e =
    let h = first-row (operation_of file) test (operation_count file) 0 (operation_of file i) e in
    let z : h.0 ≡ i = ap (λ (o : Operation). o.row) h.2 in
    omega (arith, h.1, z)

pub met-exists : (file : List ℕ) (o i : ℕ) → some (operation_of file i) ≡ met_input (network_of file) (operation_of file o) → i < operation_count file
unfolding met_input
met-exists file o i e = first-exists file (meets (network_of file) (operation_of file o)) i (sym e)
