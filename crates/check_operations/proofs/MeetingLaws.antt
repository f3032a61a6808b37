-- Laws of the input that an output meets: one for each way out of the functions.
use Prim.Native.Nat.{ℕ, zero, suc, ◌+◌, ◌-◌, ◌<◌, ◌≤◌}
use mathlib.Core.Path.{◌≡◌, refl, sym, ◌∙◌, ap}
use mathlib.Core.List.{List}
use mathlib.Core.Bool.{Bool, true, false, beq, ◌&&◌, ◌||◌}
use native.Mathlib.Omega.{arith}
use lib.Dec.{eqb}
use borrow.Author.Tests.{eq-eqb, ne_eqb}
use Rattle.basics.specs.Choice.{pick}
use Rattle.network_syntax.specs.Syntax.{input, output, none, Service, Operation, Optional}
use Rattle.network.specs.Layout.{operation_count, service_count}
use Rattle.network.specs.Rows.{operation_service, operation_direction, operation_two_way, operation_id, operation_location, service_location}
use Rattle.network.specs.Decode.{operation_of, service_of, rows_from, network_of}
use Rattle.network_syntax.specs.Meets.{location_of, some_at, in_file, same_kind, meets, first_of, met_input}
use Rattle.network_syntax.specs.Rows.{entry, is_input_operation}
use Rattle.network.proofs.NetworkLaws.{service-entry}
use Rattle.network.proofs.DecodeLaws.{rows_more, rows_none}
use Rattle.check_operations.specs.Meeting.{operation_met}
use Rattle.check_operations.specs.MeetingLaws.{first-none, first-here, first-later, first-all}
use Rattle.std.specs.Prelude.{Option, Some, None}

-- ---- locations in the file

located-none : (file : List ℕ) (l q n : ℕ) → n ≡ 0 → false ≡ some_at (rows_from (service_of file) q n) l
unfolding some_at
located-none file l q n z = sym (ap (λ (vs : List Service). some_at vs l) (rows_none (service_of file) q n z))

located-step : (file : List ℕ) (l q n : ℕ) → (n ≡ 0 → ⊥)
    → some_at (rows_from (service_of file) q n) l ≡ eqb (service_location file q) l || some_at (rows_from (service_of file) (q + 1) (n - 1)) l
unfolding some_at service_of
located-step file l q n z = ap (λ (vs : List Service). some_at vs l) (rows_more (service_of file) q n z)

located_here : (file : List ℕ) (l q n : ℕ) {x : ℕ} → (n ≡ 0 → ⊥) → x ≡ service_location file q → x ≡ l → true ≡ some_at (rows_from (service_of file) q n) l
located_here file l q n z a e =
    sym (located-step file l q n z
    ∙ ap (λ (t : Bool). t || some_at (rows_from (service_of file) (q + 1) (n - 1)) l) (eq-eqb (service_location file q) l (sym a ∙ e)))

located-later : (file : List ℕ) (l q n : ℕ) {x : ℕ} {y : Bool} → (n ≡ 0 → ⊥) → x ≡ service_location file q → (x ≡ l → ⊥)
    → y ≡ some_at (rows_from (service_of file) (q + 1) (n - 1)) l → y ≡ some_at (rows_from (service_of file) q n) l
located-later file l q n z a e h =
    h ∙ sym (located-step file l q n z
    ∙ ap (λ (t : Bool). t || some_at (rows_from (service_of file) (q + 1) (n - 1)) l) (ne_eqb (service_location file q) l (λ i. e (a ∙ i))))

located-all : (file : List ℕ) (l : ℕ) {n : ℕ} {y : Bool} → n ≡ service_count file
    → y ≡ some_at (rows_from (service_of file) 0 n) l → y ≡ in_file (network_of file) l
unfolding network_of
located-all file l c h = h ∙ ap (λ (m : ℕ). some_at (rows_from (service_of file) 0 m) l) c

-- none of the services before row q is at the location: what the rest of them says, the file says
pub record LocatedAt (file : List ℕ) (l n q : ℕ) : Type 0 where
  pub rest : in_file (network_of file) l ≡ some_at (rows_from (service_of file) q (n - q)) l

pub located-start : (file : List ℕ) (l : ℕ) {n : ℕ} → n ≡ service_count file → LocatedAt file l n 0
located-start file l {n} e = record { rest = sym (located-all file l (omega (arith, e)) refl) }

pub located-hit : (file : List ℕ) (l n q : ℕ) {x : ℕ} → q < n → x ≡ service_location file q → x ≡ l → LocatedAt file l n q → true ≡ in_file (network_of file) l
located-hit file l n q k a e h = located_here file l q (n - q) (λ z. omega (arith, z, k)) a e ∙ sym h.rest

pub located-next : (file : List ℕ) (l n q : ℕ) {x : ℕ} → q < n → x ≡ service_location file q → (x ≡ l → ⊥) → LocatedAt file l n q → LocatedAt file l n (q + 1)
located-next file l n q k a e h = record {
  rest = h.rest ∙ sym (located-later file l q (n - q) (λ z. omega (arith, z, k)) a e (ap (λ (m : ℕ). some_at (rows_from (service_of file) (q + 1) m) l) (omega (arith, k))));
}

pub located-end : (file : List ℕ) (l n q : ℕ) → n ≤ q → LocatedAt file l n q → false ≡ in_file (network_of file) l
located-end file l n q k h = located-none file l q (n - q) (omega (arith, k)) ∙ sym h.rest

pub ruleset located-laws = (located-start, located-hit, located-next, located-end)

-- ---- the location of a service

past_end : (f : ℕ → Service) (n first q : ℕ) → n ≤ q → entry q (rows_from f first n) ≡ none
unfolding entry rows_from
past_end f zero first q l = refl
past_end f (suc n) first zero l = absurd (omega (arith, l))
past_end f (suc n) first (suc q) l = past_end f n (suc first) q (omega (arith, l))

pub location-none : (file : List ℕ) (q : ℕ) {n : ℕ} → n ≡ service_count file → n ≤ q → 0 ≡ location_of (entry q (network_of file).services)
unfolding network_of
location-none file q c l = sym (ap location_of (past_end (service_of file) (service_count file) 0 q (omega (arith, c, l))))

pub location-is : (file : List ℕ) (q : ℕ) {n x : ℕ} → n ≡ service_count file → q < n → x ≡ service_location file q
    → x ≡ location_of (entry q (network_of file).services)
unfolding service_of
location-is file q c l e = e ∙ sym (ap location_of (service-entry file q (omega (arith, c, l))))

pub ruleset location-laws = (location-none, location-is)

-- ---- one operation

kind-is : (a b : Bool) → beq a b ≡ same_kind a b
kind-is true true = refl
kind-is true false = refl
kind-is false true = refl
kind-is false false = refl

input-is : (t : Bool) → is_input_operation (pick t input output) ≡ t
input-is true = refl
input-is false = refl

other-id : (a e b : Bool) → e ≡ false → false ≡ (a && (e && b))
other-id true e b h = sym (ap (λ (x : Bool). x && b) h)
other-id false e b h = refl

pub meets-other : (file : List ℕ) (o i : ℕ) {x y : ℕ} → x ≡ operation_id file i → y ≡ operation_id file o → (x ≡ y → ⊥)
    → false ≡ meets (network_of file) (operation_of file o) (operation_of file i)
unfolding meets operation_of
meets-other file o i e₁ e₂ n =
    other-id
    (is_input_operation (operation_of file i).direction
    && eqb (location_of (entry (operation_of file i).service (network_of file).services)) (operation_of file o).location)
    (eqb (operation_id file i) (operation_id file o))
    (same_kind (operation_of file i).two_way (operation_of file o).two_way)
    (ne_eqb (operation_id file i) (operation_id file o) (λ e. n (e₁ ∙ (e ∙ sym e₂))))

pub meets-are : (file : List ℕ) (o i : ℕ) {v u p d l x y t s : ℕ} {a r : Bool} → x ≡ operation_id file i → y ≡ operation_id file o → x ≡ y
    → v ≡ operation_service file i → u ≡ v → p ≡ location_of (entry u (network_of file).services)
    → d ≡ operation_direction file i → l ≡ operation_location file o → a ≡ (eqb d 0 && eqb p l)
    → t ≡ operation_two_way file i → s ≡ operation_two_way file o → r ≡ (a && beq (eqb t 1) (eqb s 1))
    → r ≡ meets (network_of file) (operation_of file o) (operation_of file i)
unfolding meets operation_of
meets-are file o i e₁ e₂ e e₃ e₄ e₅ e₆ e₇ e₈ e₉ e₁₀ e₁₁ =
    let z = input-is (eqb (operation_direction file i) 0) in
    let w = kind-is (eqb (operation_two_way file i) 1) (eqb (operation_two_way file o) 1) in
    let same : eqb (operation_id file i) (operation_id file o) ≡ true = eq-eqb (operation_id file i) (operation_id file o) (sym e₁ ∙ (e ∙ e₂)) in
    cc

pub ruleset meets-laws = (meets-other, meets-are)

-- ---- the first that is met

met_all : (file : List ℕ) (o : ℕ) {m : ℕ} (x : Option ℕ) → m ≡ operation_count file
    → operation_met file x ≡ first_of (meets (network_of file) (operation_of file o)) (rows_from (operation_of file) 0 m)
    → operation_met file x ≡ met_input (network_of file) (operation_of file o)
unfolding met_input
met_all file o x c h = first-all file (meets (network_of file) (operation_of file o)) 0 0 x c h

-- no operation before row i is met: the first of the rest is the file's
abbrev met_among : List ℕ → ℕ → ℕ → ℕ → Optional Operation
met_among file o i n = first_of (meets (network_of file) (operation_of file o)) (rows_from (operation_of file) i n)

pub record MetAt (file : List ℕ) (o n i : ℕ) : Type 0 where
  pub rest : (x : Option ℕ) → operation_met file x ≡ met_among file o i (n - i) → operation_met file x ≡ met_input (network_of file) (operation_of file o)

pub met-start : (file : List ℕ) (o : ℕ) {n : ℕ} → n ≡ operation_count file → MetAt file o n 0
met-start file o {n} e = record { rest = λ x h. met_all file o x (omega (arith, e)) h }

pub met-hit : (file : List ℕ) (o n i : ℕ) {t : Bool} → i < n → t ≡ meets (network_of file) (operation_of file o) (operation_of file i) → t ≡ true → MetAt file o n i
    → operation_met file (Some i) ≡ met_input (network_of file) (operation_of file o)
met-hit file o n i k e f h = h.rest (Some i) (first-here file (meets (network_of file) (operation_of file o)) i (n - i) (λ z. omega (arith, z, k)) e f)

pub met-next : (file : List ℕ) (o n i : ℕ) {t : Bool} → i < n → t ≡ meets (network_of file) (operation_of file o) (operation_of file i) → t ≡ false → MetAt file o n i
    → MetAt file o n (i + 1)
met-next file o n i k e f h = record {
  rest = λ x g. h.rest x (first-later file (meets (network_of file) (operation_of file o)) i (n - i) x (λ z. omega (arith, z, k)) e f
      (g ∙ ap (met_among file o (i + 1)) (omega (arith, k))));
}

pub met-end : (file : List ℕ) (o n i : ℕ) → n ≤ i → MetAt file o n i → operation_met file None ≡ met_input (network_of file) (operation_of file o)
met-end file o n i k h = h.rest None (first-none file (meets (network_of file) (operation_of file o)) i (n - i) (omega (arith, k)))

pub ruleset met-laws = (met-start, met-hit, met-next, met-end)
