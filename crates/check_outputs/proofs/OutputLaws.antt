-- Laws of refusal 13: one for each way out of the functions.
use Prim.Native.Nat.{ℕ, ◌+◌, ◌-◌, ◌<◌, ◌≤◌}
use mathlib.Core.Path.{◌≡◌, refl, sym, ◌∙◌, ap, subst}
use mathlib.Core.List.{List}
use mathlib.Core.Bool.{Bool, true, false, not, ◌&&◌}
use native.Mathlib.Omega.{arith}
use lib.Dec.{eqb}
use borrow.Author.Tests.{eq-eqb, ne_eqb}
use Rattle.refusal.specs.declared.Refusal.TheVariants.{OutputMismatch}
use Rattle.basics.specs.Choice.{pick}
use Rattle.basics.specs.TestLaws.{not-false, not-true, one_less}
use Rattle.network_syntax.specs.Syntax.{MessageType, input, output, Operation, some}
use Rattle.network_syntax.specs.Meets.{in_file, met_input}
use Rattle.check_subtyping.specs.Subtype.{implies, is_subtype}
use Rattle.check_typing.specs.Result.{yields, demand, with_row, next, verdict_of}
use Rattle.check_typing.specs.Rules.{same_direction}
use Rattle.check_typing.specs.NetworkChecker.{agrees, agrees_with, output_meets, check_outputs}
use Rattle.network.specs.Form.{WellFormed}
use Rattle.network.specs.Layout.{operation_count}
use Rattle.network.specs.Rows.{operation_direction, operation_two_way, operation_location, request_type, reply_type}
use Rattle.network.proofs.RowLaws.{operation-kept}
use Rattle.network.specs.Decode.{type_of, operation_of, rows_from, network_of}
use Rattle.network.proofs.DecodeLaws.{reply-row, rows_more, rows_none}
use Rattle.network.proofs.MeetsLaws.{met-input}
use Rattle.check_types.specs.Tells.{RowsOrder}
use Rattle.check_operations.specs.Meeting.{operation_met}
use Rattle.check_operations.specs.MeetingLaws.{met-exists}
use Rattle.check_outputs.specs.Outputs.{OutputAgrees, OutputTells, OutputsFrom, Outputs}
use Rattle.std.specs.Prelude.{Option, Some, None}
use Rattle.std.specs.Prelude.{Result, Ok, Err}
use Rattle.refusal.specs.declared.Refusal.{Refusal}

-- ---- an input that is met

module _ (file : List ℕ) (o i : ℕ) {t u : ℕ} {v : Bool} (e : t ≡ request_type file o) (f : u ≡ request_type file i) (r : RowsOrder file t u v) where
  request-order : WellFormed file → o < operation_count file → i < operation_count file → v ≡ is_subtype (type_of file (request_type file o)) (type_of file (request_type file i))
  request-order w l m =
      (subst (λ (k : ℕ). RowsOrder file (request_type file o) k v) f (subst (λ (k : ℕ). RowsOrder file k u v) e r)
      ).tells w (operation-kept file w o l).request.exists (operation-kept file w i m).request.exists

  -- What is left once the request is compared.
  agrees-as : {x : Bool} → WellFormed file → o < operation_count file → i < operation_count file → v ≡ x
      → agrees (operation_of file o) (operation_of file i)
      ≡ x && implies (operation_of file o).two_way (is_subtype (operation_of file i).reply (operation_of file o).reply)
  unfolding operation_of
  agrees-as w l m g =
      ap (λ (y : Bool). y && implies (operation_of file o).two_way (is_subtype (operation_of file i).reply (operation_of file o).reply)) (sym (request-order w l m) ∙ g)

  pub agrees-request : not v ≡ true → OutputAgrees file o i false
  agrees-request k = record { tells = λ w l m s. sym (agrees-as w l m (not-true v k)) }

  module _ (k : not v ≡ false) {tw : ℕ} (a : tw ≡ operation_two_way file o) where
    replies-as : {x : Bool} → WellFormed file → o < operation_count file → i < operation_count file → eqb tw 1 ≡ x
        → agrees (operation_of file o) (operation_of file i) ≡ implies x (is_subtype (operation_of file i).reply (operation_of file o).reply)
    unfolding operation_of
    replies-as w l m g =
        agrees-as w l m (not-false v k)
        ∙ ap (λ (y : Bool). implies y (is_subtype (operation_of file i).reply (operation_of file o).reply)) (sym (ap (λ (y : ℕ). eqb y 1) a) ∙ g)

    pub agrees-one-way : (tw ≡ 1 → ⊥) → OutputAgrees file o i true
    agrees-one-way g = record { tells = λ w l m s. sym (replies-as w l m (ne_eqb tw 1 g)) }

    pub agrees-two-way : tw ≡ 1 → {g₂ h₂ : ℕ} {x₂ : Bool} → g₂ ≡ reply_type file i → h₂ ≡ reply_type file o → RowsOrder file g₂ h₂ x₂ → OutputAgrees file o i x₂
    unfolding operation_of
    agrees-two-way g {g₂} {h₂} {x₂} s₁ s₂ s₃ = record {
      tells = λ w l m s.
          let yes : eqb (operation_two_way file o) 1 ≡ true = eq-eqb (operation_two_way file o) 1 (sym a ∙ g) in
          let ro = reply-row file w o l yes in
          let ri = reply-row file w i m (s ∙ yes) in
          let order : x₂ ≡ is_subtype (type_of file (reply_type file i)) (type_of file (reply_type file o)) =
          (subst (λ (n : ℕ). RowsOrder file (reply_type file i) n x₂) s₂ (subst (λ (n : ℕ). RowsOrder file n h₂ x₂) s₁ s₃)).tells w ri.1 ro.1 in
          order ∙ (types (operation_of file i).reply (operation_of file o).reply ri.0 ro.0 ∙ sym (replies-as w l m (eq-eqb tw 1 g)));
    }
      where
        types : (x y : MessageType) → x ≡ type_of file (reply_type file i) → y ≡ type_of file (reply_type file o)
            → is_subtype (type_of file (reply_type file i)) (type_of file (reply_type file o)) ≡ is_subtype x y
        types x y p q = rw (p, q) refl

pub ruleset agree-laws = (agrees-request, agrees-one-way, agrees-two-way)

-- ---- outputs

direction-is : (t : Bool) → same_direction (pick t input output) output ≡ not t
direction-is true = refl
direction-is false = refl

module _ (file : List ℕ) (o : ℕ) {x : ℕ} (a : x ≡ operation_direction file o) where
  -- The test, by whether it is an output.
  output-as : (z : Bool) → eqb x 0 ≡ z → output_meets (network_of file) (operation_of file o)
      ≡ implies (not z) (implies (in_file (network_of file) (operation_location file o)) (agrees_with (operation_of file o) (met_input (network_of file) (operation_of file o))))
  unfolding operation_of
  output-as z e =
      ap (λ (y : Bool). implies y (implies (in_file (network_of file) (operation_location file o)) (agrees_with (operation_of file o) (met_input (network_of file) (operation_of file o)))))
      (direction-is (eqb (operation_direction file o) 0) ∙ ap not (sym (ap (λ (y : ℕ). eqb y 0) a) ∙ e))

  pub output-input : x ≡ 0 → OutputTells file o true
  output-input z = record { tells = λ w l. sym (output-as true (eq-eqb x 0 z)) }

  module _ (z : x ≡ 0 → ⊥) {p : ℕ} {t : Bool} (b : p ≡ operation_location file o) (c : t ≡ in_file (network_of file) p) where
    located-as : {u : Bool} → t ≡ u → output_meets (network_of file) (operation_of file o)
        ≡ implies u (agrees_with (operation_of file o) (met_input (network_of file) (operation_of file o)))
    located-as e =
        output-as false (ne_eqb x 0 z)
        ∙ ap (λ (y : Bool). implies y (agrees_with (operation_of file o) (met_input (network_of file) (operation_of file o))))
        (sym (ap (in_file (network_of file)) b) ∙ (sym c ∙ e))

    pub output-outside : not t ≡ true → OutputTells file o true
    output-outside e = record { tells = λ w l. sym (located-as (not-true t e)) }

    module _ (e : not t ≡ false) {y : Option ℕ} (d : operation_met file y ≡ met_input (network_of file) (operation_of file o)) where
      met-as : {v : Option ℕ} → y ≡ v → output_meets (network_of file) (operation_of file o) ≡ agrees_with (operation_of file o) (operation_met file v)
      met-as f = located-as (not-false t e) ∙ ap (agrees_with (operation_of file o)) (sym d ∙ ap (operation_met file) f)

      pub output-unmet : y ≡ None → OutputTells file o false
      unfolding operation_met
      output-unmet f = record { tells = λ w l. sym (met-as f) }

      pub output-met : {i : ℕ} {v : Bool} → y ≡ Some i → OutputAgrees file o i v → OutputTells file o v
      unfolding operation_met
      output-met {i} {v} f k = record {
        tells = λ w l.
            let is : some (operation_of file i) ≡ met_input (network_of file) (operation_of file o) = ap (operation_met file) (sym f) ∙ d in
            k.tells w l (met-exists file o i is) (met-input (network_of file) (operation_of file o) (operation_of file i) (sym is)).same_way ∙ sym (met-as f);
      }

pub ruleset output-laws = (output-input, output-outside, output-unmet, output-met)

pub outputs-none : (file : List ℕ) (o n : ℕ) → n ≡ 0 → OutputsFrom file o n (Ok tt)
unfolding check_outputs
outputs-none file o n z = record {
  tells = λ w l.
      sym (ap (λ (y : List Operation). verdict_of (check_outputs (network_of file) y)) (rows_none (operation_of file) o n z));
}

outputs-step : (file : List ℕ) (o n : ℕ) (t : Bool) → (n ≡ 0 → ⊥)
    → t ≡ output_meets (network_of file) (operation_of file o)
    → check_outputs (network_of file) (rows_from (operation_of file) o n)
    ≡ next (with_row o (demand t OutputMismatch (yields (tt {0})))) (λ u. check_outputs (network_of file) (rows_from (operation_of file) (o + 1) (n - 1)))
unfolding check_outputs operation_of
outputs-step file o n t z e =
    ap (check_outputs (network_of file)) (rows_more (operation_of file) o n z)
    ∙ ap (λ (y : Bool). next (with_row o (demand y OutputMismatch (yields (tt {0}))))
    (λ u. check_outputs (network_of file) (rows_from (operation_of file) (o + 1) (n - 1)))) (sym e)

pub outputs-first : (file : List ℕ) (o n : ℕ) {x : Bool} → (n ≡ 0 → ⊥) → OutputTells file o x → not x ≡ true → OutputsFrom file o n (Err (OutputMismatch o))
unfolding next
outputs-first file o n {x} z k e = record {
  tells = λ w l.
      sym (ap (verdict_of {A = Unit {0}}) (outputs-step file o n false z (sym (not-true x e) ∙ k.tells w (omega (arith, one_less n z)))));
}

pub outputs-later : (file : List ℕ) (o n : ℕ) {x : Bool} {v : Result (Unit {0}) Refusal} → (n ≡ 0 → ⊥) → OutputTells file o x → not x ≡ false → OutputsFrom file (o + 1) (n - 1) v
    → OutputsFrom file o n v
unfolding next
outputs-later file o n {x} z k e h = record {
  tells = λ w l.
      h.tells w (omega (arith, one_less n z))
      ∙ sym (ap (verdict_of {A = Unit {0}}) (outputs-step file o n true z (sym (not-false x e) ∙ k.tells w (omega (arith, one_less n z)))));
}

pub outputs-all : (file : List ℕ) {n : ℕ} {v : Result (Unit {0}) Refusal} → n ≡ operation_count file → OutputsFrom file 0 n v → Outputs file v
unfolding network_of
outputs-all file {n} {v} e k = record { tells = λ w. (subst (λ (m : ℕ). OutputsFrom file 0 m v) e k).tells w (omega arith) }

-- A loop over the operations is at row o, of n: what those from o on answer is the answer.
pub record OutputsAt (file : List ℕ) (o n : ℕ) : Type 0 where
  pub rest : (v : Result (Unit {0}) Refusal) → OutputsFrom file o (n - o) v → Outputs file v

pub outputs-start : (file : List ℕ) {n : ℕ} → n ≡ operation_count file → OutputsAt file 0 n
outputs-start file e = record { rest = λ v k. outputs-all file (omega (arith, e)) k }

pub outputs-next : (file : List ℕ) (o n : ℕ) {x : Bool} → o < n → OutputTells file o x → not x ≡ false → OutputsAt file o n → OutputsAt file (o + 1) n
outputs-next file o n l k e h = record {
  rest = λ v m.
      h.rest v (outputs-later file o (n - o) (λ z. omega (arith, z, l)) k e
      (subst (λ (y : ℕ). OutputsFrom file (o + 1) y v) (omega (arith, l)) m));
}

pub outputs-unfit : (file : List ℕ) (o n : ℕ) {x : Bool} → o < n → OutputTells file o x → not x ≡ true → OutputsAt file o n
    → Outputs file (Err (OutputMismatch o))
outputs-unfit file o n l k e h = h.rest (Err (OutputMismatch o)) (outputs-first file o (n - o) (λ z. omega (arith, z, l)) k e)

pub outputs-end : (file : List ℕ) (o n : ℕ) → n ≤ o → OutputsAt file o n → Outputs file (Ok tt)
outputs-end file o n l h = h.rest (Ok tt) (outputs-none file o (n - o) (omega (arith, l)))

pub ruleset outputs-laws = (outputs-start, outputs-next, outputs-unfit, outputs-end)
