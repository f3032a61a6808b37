-- Which sessions run something, and where their slots are read.
use Rattle.std.specs.Prelude.{ℕ, zero, suc, ◌+◌, ◌<◌, ◌≤◌, ◌≡◌, refl, List, Bool, true, false, ◌⊎◌, eqb, leb, ltb}
use Rattle.std.proofs.Common.{sym, ◌∙◌, ap, inl, inr, arith, lt-ltb}
use Rattle.basics.specs.Choice.{pick}
use Rattle.basics.specs.TestLaws.{eq_of, le_of, lt_not, lt_of}
use Rattle.network_syntax.specs.Rows.{entry}
use Rattle.network_syntax.specs.Syntax.{Behaviour, Operation, Optional, none, some, Service}
use Rattle.network.specs.Form.{WellFormed}
use Rattle.network.specs.Layout.{service_count}
use Rattle.network.specs.Decode.{service_of, rows_from, network_of}
use Rattle.network.proofs.RowLaws.{counts-kept}
use Rattle.state.specs.Places.{slot_start}
use Rattle.state.specs.Session.{State}
use Rattle.state.specs.Bytes.{read_slot, read_state}
use Rattle.state.specs.Shape.{service_of_row, client_of, starter_of, behaviour_in}
use Rattle.move_rules.specs.Targets.{target_of, target_in, target, no_target}

past_end : (f : ℕ → Service) (n first q : ℕ) → n ≤ q → service_of_row (rows_from f first n) q ≡ none
unfolding entry rows_from
past_end f zero first q l = refl
past_end f (suc n) first zero l = absurd (omega (arith, l))
past_end f (suc n) first (suc q) l = past_end f n (suc first) q (omega (arith, l))

at-row : (f : ℕ → Service) (n first q : ℕ) → q < n → service_of_row (rows_from f first n) q ≡ some (f (first + q))
unfolding entry rows_from
at-row f zero first q l = absurd (omega (arith, l))
at-row f (suc n) first zero l = let z : first ≡ first + 0 = omega arith in ap (λ (j : ℕ). some (f j)) z
at-row f (suc n) first (suc q) l =
    let z : suc first + q ≡ first + suc q = omega arith in
    at-row f n (suc first) q (omega (arith, l)) ∙ ap (λ (j : ℕ). some (f j)) z

-- The service of row q.
abbrev pub service_in : List ℕ → ℕ → Optional Service
service_in file q = service_of_row (network_of file).services q

pub service-none : (file : List ℕ) (q : ℕ) → service_count file ≤ q → service_in file q ≡ none
unfolding network_of
service-none file q l = past_end (service_of file) (service_count file) 0 q l

pub service-some : (file : List ℕ) (q : ℕ) → q < service_count file → service_in file q ≡ some (service_of file q)
unfolding network_of
service-some file q l = let z : 0 + q ≡ q = omega arith in at-row (service_of file) (service_count file) 0 q l ∙ ap (λ (j : ℕ). some (service_of file j)) z

-- Nothing, where there is no such service, or no such session.
pub nothing-runs : (a b : Bool) → ◌≡◌ {A = Optional Behaviour} (pick a none (pick b none none)) none
nothing-runs true b = refl
nothing-runs false true = refl
nothing-runs false false = refl

-- Only a service of the file runs something, and only in sessions 0 to 3.
pub runs-where : (file : List ℕ) (q n : ℕ) (B : Behaviour) → behaviour_in (network_of file) q n ≡ some B → (q < service_count file) × (n < 4)
runs-where file q n B e = (service (ltb q (service_count file)) refl, session (eqb n 0) (leb n 3) refl refl e)
  where
    nothing : none ≡ some B → ⊥
    nothing f = let z : ◌≡◌ {A = ℕ} 0 1 = cc in omega arith

    service : (t : Bool) → ltb q (service_count file) ≡ t → q < service_count file
    service true f = lt_of q (service_count file) f
    service false f =
        absurd (nothing (sym (ap (λ (v : Optional Service). pick (eqb n 0) (client_of v) (pick (leb n 3) (starter_of v) none))
        (service-none file q (lt_not q (service_count file) f)) ∙ nothing-runs (eqb n 0) (leb n 3)) ∙ e))

    session : (a b : Bool) → eqb n 0 ≡ a → leb n 3 ≡ b
        → pick a (client_of (service_in file q)) (pick b (starter_of (service_in file q)) none) ≡ some B → n < 4
    session true b f g h = omega (arith, eq_of n 0 f)
    session false true f g h = omega (arith, le_of n 3 g)
    session false false f g h = absurd (nothing h)

-- The slot of service q and session n.
pub slot_read : (s : List ℕ) (q n : ℕ) → q < 4 → n < 4 → read_state s q n ≡ read_slot s (slot_start q n)
unfolding read_state
slot_read s q n a b = rw (lt-ltb q 4 a, lt-ltb n 4 b) refl

-- A message gets nowhere where there is no such service or session.
pub target-far : (file : List ℕ) (G : State) (o : Operation) (n : ℕ) → WellFormed file → (4 ≤ o.service) ⊎ (4 ≤ n) → target (network_of file) G o n ≡ no_target
target-far file G o n w h = go (behaviour_in (network_of file) o.service n) refl h
  where
    go : (b : Optional Behaviour) → behaviour_in (network_of file) o.service n ≡ b → (4 ≤ o.service) ⊎ (4 ≤ n)
        → target_in b (λ B. target_of o.row n B (G o.service n)) ≡ no_target
    go none e h = refl
    go (some B) e (inl l) = absurd (let r = runs-where file o.service n B e in omega (arith, r.0, l, (counts-kept file w).services))
    go (some B) e (inr l) = absurd (let r = runs-where file o.service n B e in omega (arith, r.1, l))
