-- Laws of the checker's answer: one for each way out of the functions.
use Prim.Native.Nat.{ℕ, suc, ◌+◌, ◌-◌, ◌<◌, ◌≤◌}
use mathlib.Core.Path.{◌≡◌, refl, sym, ◌∙◌, ap, subst}
use mathlib.Core.List.{List, [], ◌∷◌}
use mathlib.Core.Bool.{Bool, true, false, not, ◌&&◌, ◌||◌}
use native.Mathlib.Numerals.{add-one}
use native.Mathlib.Omega.{arith}
use lib.Dec.{eqb, ltb}
use borrow.Author.Tests.{eq-eqb, ne_eqb, ltb-true}
use Rattle.tree_forest.specs.Forest.{end}
use Rattle.refusal.specs.declared.Refusal.{Refusal}
use Rattle.basics.specs.Choice.{pick}
use Rattle.basics.specs.TestLaws.{one_less, true-false}
use Rattle.network_syntax.specs.Syntax.{Types, Behaviour, Optional, none, some, Network}
use Rattle.check_typing.specs.Result.{Checked, refused, passed, next, verdict_of}
use Rattle.check_typing.specs.NetworkRules.{Environments}
use Rattle.check_typing.specs.NetworkChecker.{check_starter, check_client, if_there, check_services, check_outputs, check_keys, check_network}
use Rattle.network.specs.declared.BehaviourKind.{BehaviourKind}
use Rattle.network.specs.Form.{form_of, WellFormed}
use Rattle.network.specs.Layout.{behaviour_count, service_count}
use Rattle.network.specs.Rows.{kind_at, is_choice_kind, is_branch_kind, starter_row, client_row, no_row, starter_fits, client_fits}
use Rattle.network.proofs.RowLaws.{service-kept}
use Rattle.network.specs.Decode.{behaviour_of, service_of, rows_from, network_of}
use Rattle.network.proofs.UseLaws.{choice-kind}
use Rattle.check_environments.specs.declared.Environment.{Environment}
use Rattle.check_environments.specs.Environment.{standing, step_of, ShapeIn}
use Rattle.check_starters.specs.Starters.{StarterChecks, Clients}
use Rattle.check_outputs.specs.Outputs.{Outputs}
use Rattle.check_keys.specs.Keys.{Keys}
use Rattle.check_network.specs.declared.Pair.{Pair}
use Rattle.check_network.specs.declared.Answer.{Answer}
use Rattle.check_files.specs.FileChecker.{after_form, check_file}
use Rattle.check_network.specs.Answer.{environment_of, pair_of, empty_pair, pair_at, refused_with, check_answer, with_first, part_step, one_of, check_service}
use Rattle.check_network.specs.Answer.{ShapedIfThere, ShapedPair, ShapedAll, IfPassed, StarterGives, ClientGives, ServiceGives, ServicesGive}
use Rattle.check_network.specs.Answer.{check_operations, OperationsGive}
use Rattle.std.specs.Prelude.{Result, Ok, Err}

-- ---- a starter or client

-- One that is there answers as its behaviour does.
there : (x : Checked Types) → part_step (next x (λ Γ. passed (some Γ))) ≡ step_of x
unfolding part_step step_of next
there (refused why) = refl
there (passed Γ) = refl

there-shaped : (x : Checked Types) → ShapeIn x → IfPassed ShapedIfThere (next x (λ Γ. passed (some Γ)))
unfolding next
there-shaped (refused why) h = tt
there-shaped (passed Γ) h = h

none_is : part_step (passed none) ≡ Ok (standing end)
unfolding part_step
none_is = refl

-- A test that holds, whose first part does not.
other-part : (a b c : Bool) → a ≡ false → a || (b && c) ≡ true → (b ≡ true) × (c ≡ true)
other-part true b c e f = true-false e
other-part false true c e f = (refl, f)
other-part false false c e f = true-false (sym f)

module _ (file : List ℕ) (q : ℕ) where
  starter-there : WellFormed file → q < service_count file → (starter_row file q ≡ no_row → ⊥) → (starter_row file q < behaviour_count file) × (kind_at file (starter_row file q) ≡ BehaviourKind.Choice)
  unfolding starter_fits
  starter-there w l z =
      let h = other-part (eqb (starter_row file q) no_row) (ltb (starter_row file q) (behaviour_count file)) (is_choice_kind (kind_at file (starter_row file q)))
      (ne_eqb (starter_row file q) no_row z) (service-kept file w q l).starters in
      (ltb-true (starter_row file q) (behaviour_count file) h.0, choice-kind (kind_at file (starter_row file q)) h.1)

  client-there : WellFormed file → q < service_count file → (client_row file q ≡ no_row → ⊥) → client_row file q < behaviour_count file
  unfolding client_fits
  client-there w l z =
      let h = other-part (eqb (client_row file q) no_row) (ltb (client_row file q) (behaviour_count file)) (not (is_branch_kind (kind_at file (client_row file q))))
      (ne_eqb (client_row file q) no_row z) (service-kept file w q l).clients in
      ltb-true (client_row file q) (behaviour_count file) h.0

  starter-none : starter_row file q ≡ no_row → (service_of file q).starter ≡ none
  unfolding service_of
  starter-none z = ap (λ (t : Bool). pick t none (some (behaviour_of file (starter_row file q)))) (eq-eqb (starter_row file q) no_row z)

  starter-some : (starter_row file q ≡ no_row → ⊥) → (service_of file q).starter ≡ some (behaviour_of file (starter_row file q))
  unfolding service_of
  starter-some z = ap (λ (t : Bool). pick t none (some (behaviour_of file (starter_row file q)))) (ne_eqb (starter_row file q) no_row z)

  client-none : client_row file q ≡ no_row → (service_of file q).client ≡ none
  unfolding service_of
  client-none z = ap (λ (t : Bool). pick t none (some (behaviour_of file (client_row file q)))) (eq-eqb (client_row file q) no_row z)

  client-some : (client_row file q ≡ no_row → ⊥) → (service_of file q).client ≡ some (behaviour_of file (client_row file q))
  unfolding service_of
  client-some z = ap (λ (t : Bool). pick t none (some (behaviour_of file (client_row file q)))) (ne_eqb (client_row file q) no_row z)

  pub starter-absent : {r : ℕ} {e : Environment} {s : Result Environment Refusal} → r ≡ starter_row file q → r ≡ 65535 → e ≡ standing end → s ≡ Ok e
      → StarterGives file q s
  starter-absent {r} {e} {s} a b p k = record {
    tells = λ w l.
        k ∙ (ap (λ (y : Environment). Ok y) p ∙ (sym none_is ∙ ap (λ (y : Optional Behaviour). part_step (if_there (check_starter q) y)) (sym (starter-none (sym a ∙ b)))));
    shapes = λ w l. subst (λ (y : Optional Behaviour). IfPassed ShapedIfThere (if_there (check_starter q) y)) (sym (starter-none (sym a ∙ b))) tt;
  }

  pub starter-given : {r : ℕ} {s : Result Environment Refusal} → r ≡ starter_row file q → (r ≡ 65535 → ⊥) → StarterChecks file q r s → StarterGives file q s
  starter-given {r} {s} a b k = record {
    tells = λ w l.
        let z : starter_row file q ≡ no_row → ⊥ = λ e. b (a ∙ e) in
        let h = starter-there w l z in
        ((subst (λ (y : ℕ). StarterChecks file q y s) a k).tells w h.0 h.1).is
        ∙ (sym (there (check_starter q (behaviour_of file (starter_row file q)))) ∙ ap (λ (y : Optional Behaviour). part_step (if_there (check_starter q) y)) (sym (starter-some z)));
    shapes = λ w l.
        let z : starter_row file q ≡ no_row → ⊥ = λ e. b (a ∙ e) in
        let h = starter-there w l z in
        subst (λ (y : Optional Behaviour). IfPassed ShapedIfThere (if_there (check_starter q) y)) (sym (starter-some z))
        (there-shaped (check_starter q (behaviour_of file (starter_row file q))) ((subst (λ (y : ℕ). StarterChecks file q y s) a k).tells w h.0 h.1).shape);
  }

  pub client-absent : {r : ℕ} {e : Environment} {s : Result Environment Refusal} → r ≡ client_row file q → r ≡ 65535 → e ≡ standing end → s ≡ Ok e
      → ClientGives file q s
  client-absent {r} {e} {s} a b p k = record {
    tells = λ w l.
        k ∙ (ap (λ (y : Environment). Ok y) p ∙ (sym none_is ∙ ap (λ (y : Optional Behaviour). part_step (if_there (check_client q) y)) (sym (client-none (sym a ∙ b)))));
    shapes = λ w l. subst (λ (y : Optional Behaviour). IfPassed ShapedIfThere (if_there (check_client q) y)) (sym (client-none (sym a ∙ b))) tt;
  }

  pub client-given : {r : ℕ} {s : Result Environment Refusal} → r ≡ client_row file q → (r ≡ 65535 → ⊥) → Clients file q r s → ClientGives file q s
  client-given {r} {s} a b k = record {
    tells = λ w l.
        let z : client_row file q ≡ no_row → ⊥ = λ e. b (a ∙ e) in
        ((subst (λ (y : ℕ). Clients file q y s) a k).tells w (client-there w l z)).is
        ∙ (sym (there (check_client q (behaviour_of file (client_row file q)))) ∙ ap (λ (y : Optional Behaviour). part_step (if_there (check_client q) y)) (sym (client-some z)));
    shapes = λ w l.
        let z : client_row file q ≡ no_row → ⊥ = λ e. b (a ∙ e) in
        subst (λ (y : Optional Behaviour). IfPassed ShapedIfThere (if_there (check_client q) y)) (sym (client-some z))
        (there-shaped (check_client q (behaviour_of file (client_row file q))) ((subst (λ (y : ℕ). Clients file q y s) a k).tells w (client-there w l z)).shape);
  }

pub ruleset role-laws = (starter-absent, starter-given, client-absent, client-given)

-- ---- a service

part-refused : (x : Checked (Optional Types)) {s : Result Environment Refusal} {why : Refusal} → s ≡ part_step x → s ≡ Err why → x ≡ refused why
unfolding part_step
part-refused (refused w) {why = why} e f = let z : w ≡ why = cc (e, f) in ap refused z
part-refused (passed E) e f = absurd (cc (e, f))

part-done : (x : Checked (Optional Types)) {s : Result Environment Refusal} {d : Environment} → s ≡ part_step x → s ≡ Ok d
    → (E : Optional Types) × (x ≡ passed E) × (d ≡ environment_of E)
unfolding part_step
part-done (refused w) e f = absurd (cc (e, f))
part-done (passed E) {d = d} e f = let z : d ≡ environment_of E = cc (e, f) in (E, refl, z)

service-shaped : (x y : Checked (Optional Types)) → IfPassed ShapedIfThere x → IfPassed ShapedIfThere y
    → IfPassed ShapedPair (next x (λ Γ. next y (λ Δ. passed (record { starter = Γ; client = Δ }))))
unfolding next
service-shaped (refused w) y g h = tt
service-shaped (passed Γ) (refused w) g h = tt
service-shaped (passed Γ) (passed Δ) g h = (g, h)

pub service-starter : (file : List ℕ) (q : ℕ) {s : Result Environment Refusal} {why : Refusal} → StarterGives file q s → s ≡ Err why → ServiceGives file q (Err why)
unfolding check_service next one_of
service-starter file q {s} {why} k v = record {
  tells = λ w l.
      let x = part-refused (if_there (check_starter q) (service_of file q).starter) (k.tells w l) v in
      sym (ap (λ (y : Checked (Optional Types)). one_of (next y (λ Γ. next (if_there (check_client q) (service_of file q).client) (λ Δ. passed (record { starter = Γ; client = Δ }))))) x);
  shapes = λ w l.
      let x = part-refused (if_there (check_starter q) (service_of file q).starter) (k.tells w l) v in
      subst (λ (y : Checked (Optional Types)). IfPassed ShapedPair (next y (λ Γ. next (if_there (check_client q) (service_of file q).client) (λ Δ. passed (record { starter = Γ; client = Δ }))))) (sym x) tt;
}

pub service-client : (file : List ℕ) (q : ℕ) {s t : Result Environment Refusal} {d : Environment} {why : Refusal} → StarterGives file q s → s ≡ Ok d → ClientGives file q t → t ≡ Err why
    → ServiceGives file q (Err why)
unfolding check_service next one_of
service-client file q {s} {t} k u m v = record {
  tells = λ w l.
      let x = part-done (if_there (check_starter q) (service_of file q).starter) (k.tells w l) u in
      let y = part-refused (if_there (check_client q) (service_of file q).client) (m.tells w l) v in
      sym (ap (λ (z : Checked (Optional Types)). one_of (next z (λ Γ. next (if_there (check_client q) (service_of file q).client) (λ Δ. passed (record { starter = Γ; client = Δ }))))) x.1
      ∙ ap (λ (z : Checked (Optional Types)). one_of (next z (λ Δ. passed (record { starter = x.0; client = Δ })))) y);
  shapes = λ w l.
      service-shaped (if_there (check_starter q) (service_of file q).starter) (if_there (check_client q) (service_of file q).client) (k.shapes w l) (m.shapes w l);
}

pub service-done : (file : List ℕ) (q : ℕ) {s t : Result Environment Refusal} {d f : Environment} → StarterGives file q s → s ≡ Ok d → ClientGives file q t → t ≡ Ok f
    → ServiceGives file q (Ok (record { starter = d; client = f }))
unfolding check_service next one_of
service-done file q {s} {t} {d} {f} k u m v = record {
  tells = λ w l.
      let x = part-done (if_there (check_starter q) (service_of file q).starter) (k.tells w l) u in
      let y = part-done (if_there (check_client q) (service_of file q).client) (m.tells w l) v in
      ap (λ (z : Environment). Ok (record { starter = z; client = f })) x.2
      ∙ (ap (λ (z : Environment). Ok (record { starter = environment_of x.0; client = z })) y.2
      ∙ sym (ap (λ (z : Checked (Optional Types)). one_of (next z (λ Γ. next (if_there (check_client q) (service_of file q).client) (λ Δ. passed (record { starter = Γ; client = Δ }))))) x.1
      ∙ ap (λ (z : Checked (Optional Types)). one_of (next z (λ Δ. passed (record { starter = x.0; client = Δ })))) y.1));
  shapes = λ w l.
      service-shaped (if_there (check_starter q) (service_of file q).starter) (if_there (check_client q) (service_of file q).client) (k.shapes w l) (m.shapes w l);
}

pub ruleset service-laws = (service-starter, service-client, service-done)

-- ---- all services

services-step : (file : List ℕ) (q n : ℕ) → (n ≡ 0 → ⊥) → check_services q (rows_from (service_of file) q n)
    ≡ next (check_service q (service_of file q)) (λ E. next (check_services (q + 1) (rows_from (service_of file) (q + 1) (n - 1))) (λ Es. passed (E ∷ Es)))
unfolding check_services rows_from check_service next
services-step file q n z =
    ap (λ (m : ℕ). check_services q (rows_from (service_of file) q m)) (one_less n z)
    ∙ (go (if_there (check_starter q) (service_of file q).starter) (if_there (check_client q) (service_of file q).client)
    (check_services (suc q) (rows_from (service_of file) (suc q) (n - 1)))
    ∙ ap (λ (m : ℕ). next (next (if_there (check_starter q) (service_of file q).starter) (λ Γ. next (if_there (check_client q) (service_of file q).client) (λ Δ. passed (record { starter = Γ; client = Δ }))))
    (λ E. next (check_services m (rows_from (service_of file) m (n - 1))) (λ Es. passed (E ∷ Es)))) (sym (add-one q)))
  where
    go : (x y : Checked (Optional Types)) (z : Checked (List Environments))
        → next x (λ Γ. next y (λ Δ. next z (λ Es. passed (record { starter = Γ; client = Δ } ∷ Es))))
        ≡ next (next x (λ Γ. next y (λ Δ. passed (record { starter = Γ; client = Δ })))) (λ E. next z (λ Es. passed (E ∷ Es)))
    go (refused w) y z = refl
    go (passed Γ) (refused w) z = refl
    go (passed Γ) (passed Δ) z = refl

one-refused : (x : Checked Environments) {o : Result Pair Refusal} {why : Refusal} → o ≡ one_of x → o ≡ Err why → x ≡ refused why
unfolding one_of
one-refused (refused w) {why = why} e f = let z : w ≡ why = cc (e, f) in ap refused z
one-refused (passed E) e f = absurd (cc (e, f))

one-done : (x : Checked Environments) {o : Result Pair Refusal} {p : Pair} → o ≡ one_of x → o ≡ Ok p → (E : Environments) × (x ≡ passed E) × (p ≡ pair_of E)
unfolding one_of
one-done (refused w) e f = absurd (cc (e, f))
one-done (passed E) {p = p} e f = let z : p ≡ pair_of E = cc (e, f) in (E, refl, z)

all-refused : (x : Checked (List Environments)) {o : Answer} {why : Refusal} → o ≡ check_answer x → o.verdict ≡ Err why → x ≡ refused why
unfolding check_answer
all-refused (refused w) e f = let z = ap (λ (t : Answer). t.verdict) e in cc
all-refused (passed E) e f = let z = ap (λ (t : Answer). t.verdict) e in absurd (let y : ◌≡◌ {A = ℕ} 0 1 = cc in omega arith)

all_done : (x : Checked (List Environments)) {o : Answer} → o ≡ check_answer x → o.verdict ≡ (Ok tt) → (Es : List Environments) × (x ≡ passed Es) × (o ≡ check_answer (passed Es))
unfolding check_answer
all_done (refused w) e f = let z = ap (λ (t : Answer). t.verdict) e in absurd (let y : ◌≡◌ {A = ℕ} 0 1 = cc in omega arith)
all_done (passed Es) e f = (Es, refl, e)

refused-answer : (x : Answer) (v : Result (Unit {0}) Refusal) (why : Refusal) → x ≡ refused_with v → v ≡ Err why → x ≡ check_answer (refused why)
unfolding check_answer
refused-answer x v why e f = e ∙ ap refused_with f

empty-answer : check_answer (passed []) ≡ refused_with (Ok tt)
unfolding check_answer pair_at
empty-answer = refl

first-answer : (E : Environments) (Es : List Environments) → with_first (pair_of E) (check_answer (passed Es)) ≡ check_answer (passed (E ∷ Es))
unfolding check_answer pair_at
first-answer E [] = refl
first-answer E (F ∷ Es) = refl

services-shaped : (x : Checked Environments) (z : Checked (List Environments)) → IfPassed ShapedPair x → IfPassed ShapedAll z
    → IfPassed ShapedAll (next x (λ E. next z (λ Es. passed (E ∷ Es))))
unfolding next ShapedAll
services-shaped (refused w) z g h = tt
services-shaped (passed E) (refused w) g h = tt
services-shaped (passed E) (passed Es) g h = (g, h)

pub services-none : (file : List ℕ) (q n : ℕ) {x : Answer} → n ≡ 0 → x ≡ refused_with (Ok tt) → ServicesGive file q n x
unfolding check_services rows_from ShapedAll
services-none file q n z e = record {
  tells = λ w l. e ∙ (sym empty-answer ∙ ap (λ (m : ℕ). check_answer (check_services q (rows_from (service_of file) q m))) (sym z));
  shapes = λ w l. subst (λ (m : ℕ). IfPassed ShapedAll (check_services q (rows_from (service_of file) q m))) (sym z) tt;
}

pub services-first : (file : List ℕ) (q n : ℕ) {o : Result Pair Refusal} {x : Answer} {why : Refusal} → (n ≡ 0 → ⊥) → ServiceGives file q o → o ≡ Err why → x ≡ refused_with (Err why)
    → ServicesGive file q n x
unfolding next
services-first file q n {o} {x} {why} z k v e = record {
  tells = λ w l.
      refused-answer x (Err why) why e refl ∙ sym (ap check_answer (services-step file q n z
      ∙ ap (λ (y : Checked Environments). next y (λ E. next (check_services (q + 1) (rows_from (service_of file) (q + 1) (n - 1))) (λ Es. passed (E ∷ Es))))
      (one-refused (check_service q (service_of file q)) (k.tells w (omega (arith, one_less n z))) v)));
  shapes = λ w l.
      subst (IfPassed ShapedAll) (sym (services-step file q n z)) (subst (λ (y : Checked Environments). IfPassed ShapedAll (next y (λ E. next (check_services (q + 1) (rows_from (service_of file) (q + 1) (n - 1))) (λ Es. passed (E ∷ Es)))))
      (sym (one-refused (check_service q (service_of file q)) (k.tells w (omega (arith, one_less n z))) v)) tt);
}

module _ (file : List ℕ) (q n : ℕ) {o : Result Pair Refusal} {p : Pair} {a : Answer} (z : n ≡ 0 → ⊥) (k : ServiceGives file q o) (u : o ≡ Ok p) (m : ServicesGive file (q + 1) (n - 1) a) where
  after-first : WellFormed file → q + n ≤ service_count file → (E : Environments) × (p ≡ pair_of E)
      × (check_services q (rows_from (service_of file) q n) ≡ next (check_services (q + 1) (rows_from (service_of file) (q + 1) (n - 1))) (λ Es. passed (E ∷ Es)))
  unfolding next
  after-first w l =
      let y = one-done (check_service q (service_of file q)) (k.tells w (omega (arith, one_less n z))) u in (
        y.0,
        y.2,
        services-step file q n z
            ∙ ap (λ (y : Checked Environments). next y (λ E. next (check_services (q + 1) (rows_from (service_of file) (q + 1) (n - 1))) (λ Es. passed (E ∷ Es)))) y.1,
      )

  shaped-after : WellFormed file → q + n ≤ service_count file → IfPassed ShapedAll (check_services q (rows_from (service_of file) q n))
  shaped-after w l =
      subst (IfPassed ShapedAll) (sym (services-step file q n z))
      (services-shaped (check_service q (service_of file q)) (check_services (q + 1) (rows_from (service_of file) (q + 1) (n - 1)))
      (k.shapes w (omega (arith, one_less n z))) (m.shapes w (omega (arith, one_less n z))))

  pub services-later : {x : Answer} {why : Refusal} → a.verdict ≡ Err why → x ≡ refused_with (Err why) → ServicesGive file q n x
  unfolding next
  services-later {x} {why} v e = record {
    tells = λ w l.
        let y = after-first w l in
        refused-answer x (Err why) why e refl ∙ sym (ap check_answer (y.2
        ∙ ap (λ (c : Checked (List Environments)). next c (λ Es. passed (y.0 ∷ Es)))
        (all-refused (check_services (q + 1) (rows_from (service_of file) (q + 1) (n - 1))) (m.tells w (omega (arith, one_less n z))) v)));
    shapes = shaped-after;
  }

  pub services-done : {x : Answer} → a.verdict ≡ (Ok tt) → x ≡ with_first p a → ServicesGive file q n x
  unfolding next
  services-done {x} v e = record {
    tells = λ w l.
        let y = after-first w l in
        let d = all_done (check_services (q + 1) (rows_from (service_of file) (q + 1) (n - 1))) (m.tells w (omega (arith, one_less n z))) v in
        e ∙ (ap (λ (z : Pair). with_first z a) y.1 ∙ (ap (with_first (pair_of y.0)) d.2 ∙ (first-answer y.0 d.0
        ∙ sym (ap check_answer (y.2 ∙ ap (λ (c : Checked (List Environments)). next c (λ Es. passed (y.0 ∷ Es))) d.1)))));
    shapes = shaped-after;
  }

pub ruleset services-laws = (services-none, services-first, services-later, services-done)

-- ---- the file

pub file-form : (file : List ℕ) {v : Result (Unit {0}) Refusal} {x : Answer} {why : Refusal} → v ≡ form_of file → v ≡ Err why → x ≡ refused_with (Err why) → x ≡ check_answer (check_file file)
unfolding check_file
file-form file {v} {x} {why} a b e =
    refused-answer x (Err why) why e refl ∙ sym (ap (λ (y : Result (Unit {0}) Refusal). check_answer (after_form y (check_network (network_of file)))) (sym a ∙ b))

pub form-shaped : (file : List ℕ) {v : Result (Unit {0}) Refusal} {why : Refusal} → v ≡ form_of file → v ≡ Err why → IfPassed ShapedAll (check_file file)
unfolding check_file
form-shaped file a b = subst (λ (y : Result (Unit {0}) Refusal). IfPassed ShapedAll (after_form y (check_network (network_of file)))) (sym (sym a ∙ b)) tt

well : (file : List ℕ) → WellFormed file → check_file file ≡ check_network (network_of file)
unfolding check_file
well file w = ap (λ (y : Result (Unit {0}) Refusal). after_form y (check_network (network_of file))) w

-- ---- operations

unmet : (y : Checked (Unit {0})) {why : Refusal} → verdict_of y ≡ Err why → y ≡ refused why
unmet (refused w) g = cc
unmet (passed u) g = absurd (let z : ◌≡◌ {A = ℕ} 0 1 = cc in omega arith)

met : {A : Type 0} (y : Checked (Unit {0})) (c : Checked A) → verdict_of y ≡ (Ok tt) → next y (λ u. c) ≡ c
unfolding next
met (refused w) c g = absurd (let z : ◌≡◌ {A = ℕ} 0 1 = cc in omega arith)
met (passed u) c g = refl

pub operations-unmet : (file : List ℕ) {v : Result (Unit {0}) Refusal} {why : Refusal} → Outputs file v → v ≡ Err why → OperationsGive file (Err why)
unfolding next
operations-unmet file {v} {why} o e = record {
  tells = λ w.
      sym (ap (λ (y : Checked (Unit {0})). verdict_of (next y (λ u. check_keys (network_of file) (network_of file).operations)))
      (unmet (check_outputs (network_of file) (network_of file).operations) (sym (o.tells w) ∙ e)));
}

pub operations-met : (file : List ℕ) {v x : Result (Unit {0}) Refusal} → Outputs file v → v ≡ (Ok tt) → Keys file x → OperationsGive file x
operations-met file o e k = record {
  tells = λ w.
      k.tells w ∙ sym (ap (verdict_of {A = Unit {0}}) (met (check_outputs (network_of file) (network_of file).operations)
      (check_keys (network_of file) (network_of file).operations) (sym (o.tells w) ∙ e)));
}

pub ruleset operations-laws = (operations-unmet, operations-met)

-- ---- the file, after its form

-- The services, then the operations.
network-as : (N : Network) → check_network N ≡ next (check_services 0 N.services) (λ Es. next (check_operations N) (λ u. passed Es))
unfolding check_network next
network-as N = by (check_services 0 N.services) (check_outputs N N.operations) (check_keys N N.operations)
  where
    by : (x : Checked (List Environments)) (y z : Checked (Unit {0}))
        → next x (λ Es. next y (λ u. next z (λ v. passed Es))) ≡ next x (λ Es. next (next y (λ u. z)) (λ u. passed Es))
    by (refused w) y z = refl
    by (passed Es) (refused w) z = refl
    by (passed Es) (passed u) z = refl

module _ (file : List ℕ) {v : Result (Unit {0}) Refusal} {n : ℕ} {a : Answer} (f : v ≡ form_of file) (g : v ≡ (Ok tt)) (c : n ≡ service_count file) (k : ServicesGive file 0 n a) where
  well_formed : WellFormed file
  well_formed = sym f ∙ g

  file-as : check_file file ≡ next (check_services 0 (network_of file).services) (λ Es. next (check_operations (network_of file)) (λ u. passed Es))
  file-as = well file well_formed ∙ network-as (network_of file)

  given : a ≡ check_answer (check_services 0 (network_of file).services)
  unfolding network_of
  given = (subst (λ (m : ℕ). ServicesGive file 0 m a) c k).tells well_formed (omega arith)

  pub file-shaped : IfPassed ShapedAll (check_file file)
  unfolding network_of next
  file-shaped =
      subst (IfPassed ShapedAll) (sym file-as) (by (check_services 0 (network_of file).services) (check_operations (network_of file))
      ((subst (λ (m : ℕ). ServicesGive file 0 m a) c k).shapes well_formed (omega arith)))
    where
      by : (x : Checked (List Environments)) (y : Checked (Unit {0})) → IfPassed ShapedAll x → IfPassed ShapedAll (next x (λ Es. next y (λ u. passed Es)))
      by (refused w) y h = tt
      by (passed Es) (refused w) h = tt
      by (passed Es) (passed u) h = h

  pub file-services : {x : Answer} {why : Refusal} → a.verdict ≡ Err why → x ≡ refused_with (Err why) → x ≡ check_answer (check_file file)
  unfolding next
  file-services {x} {why} u e =
      refused-answer x (Err why) why e refl ∙ sym (ap check_answer (file-as
      ∙ ap (λ (y : Checked (List Environments)). next y (λ Es. next (check_operations (network_of file)) (λ u. passed Es)))
      (all-refused (check_services 0 (network_of file).services) given u)))

  after-services : a.verdict ≡ (Ok tt) → (Es : List Environments) × (a ≡ check_answer (passed Es))
      × (check_file file ≡ next (check_operations (network_of file)) (λ u. passed Es))
  unfolding next
  after-services u =
      let d = all_done (check_services 0 (network_of file).services) given u in (
        d.0,
        d.2,
        file-as ∙ ap (λ (y : Checked (List Environments)). next y (λ Es. next (check_operations (network_of file)) (λ u. passed Es))) d.1,
      )

  pub file-operations : {w : Result (Unit {0}) Refusal} {x : Answer} {why : Refusal} → a.verdict ≡ (Ok tt) → OperationsGive file w → w ≡ Err why → x ≡ refused_with (Err why)
      → x ≡ check_answer (check_file file)
  unfolding next
  file-operations {w} {x} {why} u o b e =
      let p = after-services u in
      refused-answer x (Err why) why e refl ∙ sym (ap check_answer (p.2 ∙ ap (λ (y : Checked (Unit {0})). next y (λ u. passed p.0))
      (unmet (check_operations (network_of file)) (sym (o.tells well_formed) ∙ b))))

  pub file-accepted : {w : Result (Unit {0}) Refusal} → a.verdict ≡ (Ok tt) → OperationsGive file w → w ≡ (Ok tt) → a ≡ check_answer (check_file file)
  file-accepted {w} u o b =
      let p = after-services u in
      p.1 ∙ sym (ap check_answer (p.2 ∙ met (check_operations (network_of file)) (passed p.0) (sym (o.tells well_formed) ∙ b)))

pub ruleset file-laws = (file-form, file-services, file-operations, file-accepted)

pub ruleset shape-laws = (form-shaped, file-shaped)

-- ---- empty environments

pub pair-empty : {a b : Environment} → a ≡ standing end → b ≡ standing end → ◌≡◌ {A = Pair} (record { starter = a; client = b }) empty_pair
pair-empty {a} {b} e f = ap (λ (y : Environment). record { starter = y; client = b }) e ∙ ap (λ (y : Environment). record { starter = standing end; client = y }) f

pub answer-empty : (v : Result (Unit {0}) Refusal) {a b c d : Pair} → a ≡ empty_pair → b ≡ empty_pair → c ≡ empty_pair → d ≡ empty_pair
    → ◌≡◌ {A = Answer} (record { verdict = v; first = a; second = b; third = c; fourth = d }) (refused_with v)
answer-empty v {a} {b} {c} {d} e f g h =
    ap (λ (y : Pair). record { verdict = v; first = y; second = b; third = c; fourth = d }) e
    ∙ (ap (λ (y : Pair). record { verdict = v; first = empty_pair; second = y; third = c; fourth = d }) f
    ∙ (ap (λ (y : Pair). record { verdict = v; first = empty_pair; second = empty_pair; third = y; fourth = d }) g
    ∙ ap (λ (y : Pair). record { verdict = v; first = empty_pair; second = empty_pair; third = empty_pair; fourth = y }) h))

pub ruleset empty-laws = (pair-empty, answer-empty)
