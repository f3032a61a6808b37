-- The records of a service and of a whole answer, at each of the ways out of the code.
use mathlib.Core.Path.{◌≡◌, refl, sym, ap, ◌∙◌}
use mathlib.Core.List.{List, [], ◌∷◌, ◌++◌, append-nil}
use mathlib.Core.Bool.{Bool, true, false}
use Prim.Native.Nat.{ℕ, zero, suc, ◌+◌, ◌*◌, ◌≤◌, ◌<◌}
use native.Mathlib.Omega.{arith}
use lib.ListN.{length, drop}
use borrow.Author.Tests.{le-leb, lt-leb}
use Rattle.tree_forest.specs.Forest.{end, measure}
use Rattle.refusal.specs.declared.Refusal.{Refusal}
use Rattle.refusal.specs.Refusal.{number_of}
use Rattle.basics.specs.Choice.{pick}
use Rattle.network_syntax.specs.Syntax.{Types, Optional, none, some, Service}
use Rattle.network.specs.Form.{form_of}
use Rattle.network.specs.Decode.{network_of}
use Rattle.network.proofs.RowLaws.{counts-kept}
use Rattle.network.proofs.NetworkLaws.{service-length}
use Rattle.tree_edit.specs.Wrote.{Wrote}
use Rattle.tree_edit.specs.WroteLaws.{wrote-more, wrote_as, wrote-all}
use Rattle.check_typing.specs.Result.{Checked, refused, passed, next}
use Rattle.check_typing.specs.NetworkRules.{Environments}
use Rattle.check_typing.specs.NetworkChecker.{check_starter, check_client, if_there, check_services, check_outputs, check_keys, check_network}
use Rattle.check_files.specs.FileChecker.{after_form, check_file}
use Rattle.check_environments.specs.declared.Environment.{Environment}
use Rattle.check_environments.specs.EnvironmentLaws.{empty-shape}
use Rattle.check_environments.specs.Listing.{preorder}
use Rattle.check_network.specs.declared.Pair.{Pair}
use Rattle.check_network.specs.declared.Answer.{Answer}
use Rattle.check_network.specs.Answer.{environment_of, pair_of, pair_at, check_answer, ShapedIfThere, ShapedPair, ShapedAll, IfPassed}
use Rattle.check_listing.specs.Listed.{nodes_bytes, if_there_bytes, pair_bytes, environments_bytes, if_there_nodes, environments_nodes, has_room, listed_number, listed_count, listed_bytes}
use Rattle.check_listing.specs.Writing.{nodes_by, pair_nodes_by, answer_nodes_by, EnvironmentWritten, PairWritten}
use Rattle.check_listing.proofs.Records.{nodes-told}
use Rattle.std.specs.Prelude.{Result, Ok, Err}

-- ---- an environment that may not be there

there-wrote : {q role w r : ℕ} {o o₁ : List ℕ} (e : Environment) (E : Optional Types) → e ≡ environment_of E → ShapedIfThere E
    → EnvironmentWritten e q role o o₁ w r → Wrote o o₁ w r (18 * nodes_by e) (if_there_bytes q role E)
unfolding preorder nodes_bytes
there-wrote e none k h t = t.tells end (record { is = k; shape = empty-shape })
there-wrote e (some Γ) k h t = t.tells Γ (record { is = k; shape = h })

there-nodes : (e : Environment) (E : Optional Types) → e ≡ environment_of E → ShapedIfThere E → nodes_by e ≡ if_there_nodes E
unfolding measure
there-nodes e none k h = nodes-told e end (record { is = k; shape = empty-shape })
there-nodes e (some Γ) k h = nodes-told e Γ (record { is = k; shape = h })

-- ---- `put_pair`

pub pair-wrote : {p : Pair} {q w a r : ℕ} {o o₁ o₂ : List ℕ} → EnvironmentWritten p.starter q 0 o o₁ w a → EnvironmentWritten p.client q 1 o₁ o₂ a r
    → PairWritten p q o o₂ w r
pair-wrote {p} s t = record {
  near = omega (arith, s.near, t.near);
  tells = λ E k h.
      let x = there-wrote p.starter E.starter (ap (λ (z : Pair). z.starter) k) h.0 s in
      let y = there-wrote p.client E.client (ap (λ (z : Pair). z.client) k) h.1 t in
      wrote_as refl (omega arith) (wrote-more x y);
}

pair-nodes : (p : Pair) (E : Environments) → p ≡ pair_of E → ShapedPair E → pair_nodes_by p ≡ if_there_nodes E.starter + if_there_nodes E.client
pair-nodes p E k h =
    omega (
      arith,
      there-nodes p.starter E.starter (ap (λ (z : Pair). z.starter) k) h.0,
      there-nodes p.client E.client (ap (λ (z : Pair). z.client) k) h.1,
    )

-- ---- at most four services

-- The environments of what was checked: a refused file has none.
abbrev environments_of : Checked (List Environments) → List Environments
environments_of (refused why) = []
environments_of (passed Es) = Es

services-few : (q : ℕ) (ss : List Service) → length (environments_of (check_services q ss)) ≤ length ss
unfolding check_services next
services-few q [] = omega arith
services-few q (s ∷ ss) = by (if_there (check_starter q) s.starter) (if_there (check_client q) s.client) (check_services (suc q) ss) (services-few (suc q) ss)
  where
    by : (x y : Checked (Optional Types)) (z : Checked (List Environments)) → length (environments_of z) ≤ length ss
        → length (environments_of (next x (λ Γ. next y (λ Δ. next z (λ Es. passed (record { starter = Γ; client = Δ } ∷ Es)))))) ≤ suc (length ss)
    by (refused w) y z h = omega arith
    by (passed Γ) (refused w) z h = omega arith
    by (passed Γ) (passed Δ) (refused w) h = omega arith
    by (passed Γ) (passed Δ) (passed Es) h = omega (arith, h)

pub few : (file : List ℕ) → length (environments_of (check_file file)) ≤ 4
unfolding check_file check_network next
few file = by (form_of file) refl
  where
    after : (x : Checked (List Environments)) (y z : Checked (Unit {0})) → length (environments_of x) ≤ 4
        → length (environments_of (next x (λ Es. next y (λ u. next z (λ v. passed Es))))) ≤ 4
    after (refused w) y z h = omega arith
    after (passed Es) (refused w) z h = omega arith
    after (passed Es) (passed u) (refused w) h = omega arith
    after (passed Es) (passed u) (passed v) h = h

    by : (v : Result (Unit {0}) Refusal) → form_of file ≡ v → length (environments_of (after_form v (check_network (network_of file)))) ≤ 4
    by (Err why) e = omega arith
    by (Ok tt) e =
        after (check_services 0 (network_of file).services) (check_outputs (network_of file) (network_of file).operations)
        (check_keys (network_of file) (network_of file).operations)
        (omega (arith, services-few 0 (network_of file).services, service-length file, (counts-kept file e).services))

-- ---- the whole answer

-- The environments of the k-th service, none where it is not there.
unfoldable at : ℕ → List Environments → Environments
at k [] = record { starter = none; client = none }
at zero (E ∷ Es) = E
at (suc k) (E ∷ Es) = at k Es

at_pair : (k : ℕ) (Es : List Environments) → pair_at k Es ≡ pair_of (at k Es)
unfolding pair_at at
at_pair k [] = refl
at_pair zero (E ∷ Es) = refl
at_pair (suc k) (E ∷ Es) = at_pair k Es

at-shaped : (k : ℕ) (Es : List Environments) → ShapedAll Es → ShapedPair (at k Es)
unfolding at ShapedAll
at-shaped k [] h = (tt, tt)
at-shaped zero (E ∷ Es) h = h.0
at-shaped (suc k) (E ∷ Es) h = at-shaped k Es h.1

abbrev size_at : ℕ → List Environments → ℕ
size_at k Es = if_there_nodes (at k Es).starter + if_there_nodes (at k Es).client

four_bytes : (Es : List Environments) → length Es ≤ 4
    → environments_bytes 0 Es ≡ pair_bytes 0 (at 0 Es) ++ (pair_bytes 1 (at 1 Es) ++ (pair_bytes 2 (at 2 Es) ++ (pair_bytes 3 (at 3 Es) ++ [])))
unfolding environments_bytes at
four_bytes [] h = refl
four_bytes (A ∷ []) h = refl
four_bytes (A ∷ B ∷ []) h = refl
four_bytes (A ∷ B ∷ C ∷ []) h = refl
four_bytes (A ∷ B ∷ C ∷ D ∷ []) h = refl
four_bytes (A ∷ B ∷ C ∷ D ∷ E ∷ Es) h = absurd (omega (arith, h))

four-nodes : (Es : List Environments) → length Es ≤ 4 → environments_nodes Es ≡ size_at 0 Es + (size_at 1 Es + (size_at 2 Es + size_at 3 Es))
unfolding environments_nodes at
four-nodes [] h = refl
four-nodes (A ∷ []) h = omega arith
four-nodes (A ∷ B ∷ []) h = omega arith
four-nodes (A ∷ B ∷ C ∷ []) h = omega arith
four-nodes (A ∷ B ∷ C ∷ D ∷ []) h = omega arith
four-nodes (A ∷ B ∷ C ∷ D ∷ E ∷ Es) h = absurd (omega (arith, h))

-- What is told of a checked file, the buffer being o before and o' then.
abbrev Told : Checked (List Environments) → List ℕ → List ℕ → ℕ → ℕ → Type 0
Told c o o' number count = (number ≡ listed_number c o) × ((count ≡ listed_count c) × (o' ≡ listed_bytes c o))

module _ (Es : List Environments) (f : length Es ≤ 4) {x : Answer} {n : ℕ} (k : x ≡ check_answer (passed Es)) (h : ShapedAll Es) (m : (n ≡ answer_nodes_by x) × (n ≤ 576)) where
  first : x.first ≡ pair_of (at 0 Es)
  unfolding check_answer
  first = ap (λ (z : Answer). z.first) k ∙ at_pair 0 Es

  second : x.second ≡ pair_of (at 1 Es)
  unfolding check_answer
  second = ap (λ (z : Answer). z.second) k ∙ at_pair 1 Es

  third : x.third ≡ pair_of (at 2 Es)
  unfolding check_answer
  third = ap (λ (z : Answer). z.third) k ∙ at_pair 2 Es

  fourth : x.fourth ≡ pair_of (at 3 Es)
  unfolding check_answer
  fourth = ap (λ (z : Answer). z.fourth) k ∙ at_pair 3 Es

  count-is : n ≡ environments_nodes Es
  count-is =
      omega (
        arith,
        m.0,
        four-nodes Es f,
        pair-nodes x.first (at 0 Es) first (at-shaped 0 Es h),
        pair-nodes x.second (at 1 Es) second (at-shaped 1 Es h),
        pair-nodes x.third (at 2 Es) third (at-shaped 2 Es h),
        pair-nodes x.fourth (at 3 Es) fourth (at-shaped 3 Es h),
      )

  told-small : {o : List ℕ} → length o < 18 * n → Told (passed Es) o o 1 n
  told-small {o} l =
      let b : has_room Es o ≡ false = lt-leb (18 * environments_nodes Es) (length o) (omega (arith, l, count-is)) in (
        sym (ap (λ (z : Bool). pick z 0 1) b),
        (count-is, sym (ap (λ (z : Bool). pick z (environments_bytes 0 Es ++ drop (18 * environments_nodes Es) o) o) b)),
      )

  told-all : {o o₁ o₂ o₃ o₄ : List ℕ} {a b c r : ℕ} → 18 * n ≤ length o → PairWritten x.first 0 o o₁ 0 a → PairWritten x.second 1 o₁ o₂ a b
      → PairWritten x.third 2 o₂ o₃ b c → PairWritten x.fourth 3 o₃ o₄ c r → Told (passed Es) o o₄ 0 n
  told-all {o} {o₁} {o₂} {o₃} {o₄} {a} {b} {c} {r} l p q s t =
      let y : has_room Es o ≡ true = le-leb (18 * environments_nodes Es) (length o) (omega (arith, l, count-is)) in
      let w = wrote-more (p.tells (at 0 Es) first (at-shaped 0 Es h)) (wrote-more (q.tells (at 1 Es) second (at-shaped 1 Es h))
      (wrote-more (s.tells (at 2 Es) third (at-shaped 2 Es h)) (t.tells (at 3 Es) fourth (at-shaped 3 Es h)))) in
      let e : r ≡ 18 * environments_nodes Es = omega (arith, w.next, m.0, count-is) in (
        sym (ap (λ (z : Bool). pick z 0 1) y),
        (
          count-is,
          wrote-all w ∙ (ap (λ (j : ℕ). (pair_bytes 0 (at 0 Es) ++ (pair_bytes 1 (at 1 Es) ++ (pair_bytes 2 (at 2 Es) ++ pair_bytes 3 (at 3 Es)))) ++ drop j o) e
              ∙ (ap (λ (z : List ℕ). z ++ drop (18 * environments_nodes Es) o) (sym (four_bytes Es f ∙ last))
              ∙ sym (ap (λ (z : Bool). pick z (environments_bytes 0 Es ++ drop (18 * environments_nodes Es) o) o) y))),
        ),
      )
    where
      last : pair_bytes 0 (at 0 Es) ++ (pair_bytes 1 (at 1 Es) ++ (pair_bytes 2 (at 2 Es) ++ (pair_bytes 3 (at 3 Es) ++ [])))
          ≡ pair_bytes 0 (at 0 Es) ++ (pair_bytes 1 (at 1 Es) ++ (pair_bytes 2 (at 2 Es) ++ pair_bytes 3 (at 3 Es)))
      last = ap (λ (z : List ℕ). pair_bytes 0 (at 0 Es) ++ (pair_bytes 1 (at 1 Es) ++ (pair_bytes 2 (at 2 Es) ++ z))) (append-nil (pair_bytes 3 (at 3 Es)))

-- ---- `list`

pub list-refused : (c : Checked (List Environments)) {x : Answer} {why : Refusal} {number : ℕ} {o : List ℕ} → (x ≡ check_answer c) × IfPassed ShapedAll c
    → x.verdict ≡ Err why → number ≡ number_of why → Told c o o number 0
unfolding check_answer
list-refused (refused w) {x} {why} k v e = let z : why ≡ w = cc in (e ∙ ap number_of z, (refl, refl))
list-refused (passed Es) k v e = absurd (let z : ◌≡◌ {A = ℕ} 0 1 = cc in omega arith)

pub list-small : (c : Checked (List Environments)) {x : Answer} {n : ℕ} {o : List ℕ} → length (environments_of c) ≤ 4 → (x ≡ check_answer c) × IfPassed ShapedAll c
    → x.verdict ≡ (Ok tt) → (n ≡ answer_nodes_by x) × (n ≤ 576) → length o < 18 * n → Told c o o 1 n
unfolding check_answer
list-small (refused w) f k v m l = absurd (let z : ◌≡◌ {A = ℕ} 0 1 = cc in omega arith)
list-small (passed Es) f k v m l = told-small Es f k.0 k.1 m l

pub list_all : (c : Checked (List Environments)) {x : Answer} {n : ℕ} {o o₁ o₂ o₃ o₄ : List ℕ} {a b d r : ℕ} → length (environments_of c) ≤ 4
    → (x ≡ check_answer c) × IfPassed ShapedAll c → x.verdict ≡ (Ok tt) → (n ≡ answer_nodes_by x) × (n ≤ 576) → 18 * n ≤ length o
    → PairWritten x.first 0 o o₁ 0 a → PairWritten x.second 1 o₁ o₂ a b → PairWritten x.third 2 o₂ o₃ b d
    → PairWritten x.fourth 3 o₃ o₄ d r → Told c o o₄ 0 n
unfolding check_answer
list_all (refused w) f k v m l p q s t = absurd (let z : ◌≡◌ {A = ℕ} 0 1 = cc in omega arith)
list_all (passed Es) f k v m l p q s t = told-all Es f k.0 k.1 m l p q s t
