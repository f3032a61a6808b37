-- Clearing a buffer and starting clients in it, at each of the ways out of the code.
use mathlib.Core.Path.{◌≡◌, refl, sym, ap, ◌∙◌}
use mathlib.Core.List.{List}
use mathlib.Core.Bool.{Bool, false}
use Prim.Native.Nat.{ℕ, zero, suc, ◌+◌, ◌-◌, ◌≤◌, ◌<◌}
use native.Mathlib.Numerals.{add-one}
use native.Mathlib.Omega.{arith}
use lib.ListN.{length, replicate}
use lib.Dec.{ltb}
use borrow.Author.Tests.{eq-eqb, ne_eqb, le-ltb}
use Rattle.refusal.specs.declared.Refusal.{Refusal}
use Rattle.refusal.specs.declared.Refusal.TheVariants.{BufferSize}
use Rattle.refusal.specs.declared.Outcome.{Outcome}
use Rattle.refusal.specs.Refusal.{done_with, refused_by}
use Rattle.basics.specs.Choice.{pick}
use Rattle.network_syntax.specs.Rows.{entry}
use Rattle.network_syntax.specs.Syntax.{none, some, Service}
use Rattle.network.specs.Form.{form_of, WellFormed}
use Rattle.network.specs.Layout.{service_count}
use Rattle.network.specs.Rows.{client_row, no_row}
use Rattle.network.proofs.RowLaws.{counts-kept}
use Rattle.network.specs.Decode.{behaviour_of, service_of, network_of, rows_from}
use Rattle.network.proofs.NetworkLaws.{service-length}
use Rattle.check_typing.specs.Result.{Checked, refused, passed}
use Rattle.check_typing.specs.NetworkRules.{Environments}
use Rattle.check_typing.specs.NetworkChecker.{check_network}
use Rattle.check_files.specs.FileChecker.{after_form, check_file}
use Rattle.check_network.specs.declared.Answer.{Answer}
use Rattle.check_network.specs.Answer.{check_answer, IfPassed, ShapedAll}
use Rattle.state.specs.Places.{slot_start}
use Rattle.state.specs.Session.{free}
use Rattle.state.specs.Bytes.{zeros, state_bytes}
use Rattle.state.specs.Shape.{service_of_row, client_of, fresh_state, fresh_up_to}
use Rattle.state.proofs.FreshLaws.{replicate-zeros, free_bytes, fresh-none, fresh-all, fresh-idle, fresh-client, fresh-sized}
use Rattle.move_rules.specs.Fresh.{Freshened, fresh_refused, after_check, fresh}
use Rattle.move_fresh.specs.Starting.{StartsClient, StartsClientsFrom}
use Rattle.state_slots.specs.Slots.{begun}
use Rattle.state_slots.specs.SlotLaws.{begun-state}
use Rattle.std.specs.Prelude.{Result, Ok, Err}

-- ---- one client

service-at : (f : ℕ → Service) (q first n : ℕ) → q < n → service_of_row (rows_from f first n) q ≡ some (f (first + q))
unfolding entry rows_from
service-at f q first zero l = absurd (omega (arith, l))
service-at f zero first (suc n) l = let z : first ≡ first + 0 = omega arith in ap (λ (j : ℕ). some (f j)) z
service-at f (suc q) first (suc n) l =
    let z : suc first + q ≡ first + suc q = omega arith in
    service-at f q (suc first) n (omega (arith, l)) ∙ ap (λ (j : ℕ). some (f j)) z

client-is : (file : List ℕ) (q : ℕ) → q < service_count file → client_of (service_of_row (network_of file).services q) ≡ (service_of file q).client
unfolding network_of
client-is file q l =
    ap client_of (service-at (service_of file) q 0 (service_count file) l) ∙ (let z : 0 + q ≡ q = omega arith in ap (λ (j : ℕ). (service_of file j).client) z)

pub client-none : (file : List ℕ) (q r : ℕ) {s : List ℕ} → r ≡ client_row file q → r ≡ 65535 → StartsClient file q s s
unfolding service_of
client-none file q r k e = record {
  tells = λ w l h.
      h ∙ sym (ap state_bytes (fresh-idle (network_of file) q (client-is file q l
      ∙ ap (λ (t : Bool). pick t none (some (behaviour_of file (client_row file q)))) (eq-eqb (client_row file q) no_row (sym k ∙ e)))));
}

pub client-new : (file : List ℕ) (q r at : ℕ) {s s₁ : List ℕ} → r ≡ client_row file q → (r ≡ 65535 → ⊥) → q < 4 → at ≡ slot_start q 0
    → s₁ ≡ begun s at → StartsClient file q s s₁
unfolding service_of
client-new file q r at {s} {s₁} k e m d t = record {
  tells = λ w l h.
      let N = network_of file in
      let c = client-is file q l
      ∙ ap (λ (u : Bool). pick u none (some (behaviour_of file (client_row file q)))) (ne_eqb (client_row file q) no_row (λ i. e (k ∙ i))) in
      let g : fresh_up_to N q q 0 ≡ free = ap (λ (u : Bool). pick u (fresh_state N q 0) free) (below q) in
      let b = begun-state (fresh-sized N q) q 0 m (omega arith) g in
      let v : begun s at ≡ begun (state_bytes (fresh_up_to N q)) (slot_start q 0) =
      ap (λ (x : List ℕ). begun x at) h ∙ ap (begun (state_bytes (fresh_up_to N q))) d in
      t ∙ (v ∙ (b ∙ sym (ap state_bytes (fresh-client N q (behaviour_of file (client_row file q)) c))));
}
  where
    below : (q : ℕ) → ltb q q ≡ false
    below q = le-ltb q q (omega arith)

-- ---- all clients

pub clients-none : (file s : List ℕ) → StartsClientsFrom file 0 0 s s
clients-none file s = record { tells = λ w l h. h }

pub clients-next : (file : List ℕ) (q : ℕ) {s s₁ s₂ : List ℕ} → StartsClientsFrom file 0 q s s₁ → StartsClient file q s₁ s₂ → StartsClientsFrom file 0 (q + 1) s s₂
clients-next file q a b = record {
  tells = λ w l h.
      let x : 0 + q ≡ q = omega arith in
      let y : suc q ≡ 0 + (q + 1) = omega arith in
      b.tells w (omega (arith, l)) (a.tells w (omega (arith, l)) h ∙ ap (λ (j : ℕ). state_bytes (fresh_up_to (network_of file) j)) x)
      ∙ ap (λ (j : ℕ). state_bytes (fresh_up_to (network_of file) j)) y;
}

-- ---- fresh

module _ (file state : List ℕ) where
  fitting : length state ≡ 65536 → fresh file state ≡ after_check file state (check_file file)
  unfolding fresh
  fitting l = ap (λ (t : Bool). pick t (after_check file state (check_file file)) (fresh_refused BufferSize state)) (eq-eqb (length state) 65536 l)

  pub fresh-size : {o : Outcome} → (length state ≡ 65536 → ⊥) → o ≡ refused_by BufferSize → (o ≡ (fresh file state).outcome) × (state ≡ (fresh file state).state)
  unfolding fresh
  fresh-size {o} d e =
      let f : fresh file state ≡ record { outcome = refused_by BufferSize; state = state } =
      ap (λ (t : Bool). pick t (after_check file state (check_file file)) (record { outcome = refused_by BufferSize; state = state })) (ne_eqb (length state) 65536 d) in
      (e ∙ sym (ap (λ (z : Freshened). z.outcome) f), sym (ap (λ (z : Freshened). z.state) f))

  module _ {x : Answer} (l : length state ≡ 65536) (k : (x ≡ check_answer (check_file file)) × IfPassed ShapedAll (check_file file)) where
    pub fresh-refused : {why : Refusal} {o : Outcome} → x.verdict ≡ Err why → o ≡ refused_by why
        → (o ≡ (fresh file state).outcome) × (state ≡ (fresh file state).state)
    unfolding check_answer
    fresh-refused {why} {o} v e =
        let f = fitting l ∙ ap (after_check file state) (by (check_file file) k.0) in
        (e ∙ sym (ap (λ (z : Freshened). z.outcome) f), sym (ap (λ (z : Freshened). z.state) f))
      where
        by : (c : Checked (List Environments)) → x ≡ check_answer c → c ≡ refused why
        by (refused w) e = let z = ap (λ (t : Answer). t.verdict) e in cc
        by (passed Es) e = let z = ap (λ (t : Answer). t.verdict) e in absurd (let y : ◌≡◌ {A = ℕ} 0 1 = cc in omega arith)

    accepted : x.verdict ≡ (Ok tt) → (Es : List Environments) × (check_file file ≡ passed Es)
    unfolding check_answer
    accepted v = by (check_file file) k.0
      where
        by : (c : Checked (List Environments)) → x ≡ check_answer c → (Es : List Environments) × (c ≡ passed Es)
        by (refused w) e = let z = ap (λ (t : Answer). t.verdict) e in absurd (let y : ◌≡◌ {A = ℕ} 0 1 = cc in omega arith)
        by (passed Es) e = (Es, refl)

    well_formed : x.verdict ≡ (Ok tt) → WellFormed file
    unfolding check_file
    well_formed v = by (form_of file) refl (accepted v).1
      where
        by : (f : Result (Unit {0}) Refusal) → form_of file ≡ f → after_form f (check_network (network_of file)) ≡ passed (accepted v).0 → form_of file ≡ (Ok tt)
        by (Ok tt) e h = e
        by (Err why) e h = absurd (let y : ◌≡◌ {A = ℕ} 0 1 = cc in omega arith)

    -- 3 has refused more than four services.
    pub fresh-many : {n : ℕ} {A : Type 0} → x.verdict ≡ (Ok tt) → n ≡ service_count file → 4 < n → A
    fresh-many v c m = absurd (omega (arith, c, m, (counts-kept file (well_formed v)).services))

    pub fresh-done : {n q : ℕ} {z s : List ℕ} {o : Outcome} → x.verdict ≡ (Ok tt) → n ≡ service_count file → z ≡ replicate (length state) 0 → n ≤ q → q ≤ n
        → StartsClientsFrom file 0 q z s → o ≡ done_with 0 → (o ≡ (fresh file state).outcome) × (s ≡ (fresh file state).state)
    fresh-done {n} {q} {z} {s} {o} v c k i j t e =
        let N = network_of file in
        let m : q ≡ service_count file = omega (arith, c, i, j) in
        let f = fitting l ∙ ap (after_check file state) (accepted v).1 in
        let a : z ≡ state_bytes (fresh_up_to N 0) = k ∙ (replicate-zeros (length state) ∙ ap zeros l) ∙ (sym free_bytes ∙ ap state_bytes (sym (fresh-none N))) in
        let b = t.tells (well_formed v) (omega (arith, m)) a in
        let g : fresh_up_to N (0 + q) ≡ fresh_state N = fresh-all N (0 + q) (omega (arith, m, service-length file)) in
        (e ∙ sym (ap (λ (y : Freshened). y.outcome) f), b ∙ (ap state_bytes g ∙ sym (ap (λ (y : Freshened). y.state) f)))
