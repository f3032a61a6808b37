-- Laws of refusal 23: one for each way out of the functions.
use Prim.Native.Nat.{ℕ, zero, suc, ◌+◌, ◌-◌, ◌<◌, ◌≤◌}
use mathlib.Core.Path.{◌≡◌, refl, sym, ◌∙◌, ap, subst}
use mathlib.Core.List.{List, [], ◌∷◌}
use mathlib.Core.Bool.{Bool, true, false, not, ◌&&◌, ◌||◌}
use native.Mathlib.Omega.{arith}
use lib.Dec.{eqb}
use borrow.Author.Tests.{eq-eqb, ne_eqb, eqb-true}
use Rattle.refusal.specs.declared.Refusal.TheVariants.{UnfitKey}
use Rattle.basics.specs.Choice.{pick}
use Rattle.basics.specs.TestLaws.{not-false, not-true, one_less}
use Rattle.scalar.specs.Basic.{int}
use Rattle.tree_forest.specs.Compare.{compare}
use Rattle.tree_forest.specs.Forest.{present, find, find_by}
use Rattle.tree_forest.specs.ForestLaws.{find-eq, find-gt, find-lt}
use Rattle.network_syntax.specs.Syntax.{MessageType, input, output, Operation, Service, Network}
use Rattle.network_syntax.specs.Rows.{entry}
use Rattle.network_syntax.specs.Keys.{key_id_of, key_id, is_keyed}
use Rattle.check_subtyping.specs.Subtype.{implies}
use Rattle.check_typing.specs.Result.{yields, demand, passed, with_row, next, verdict_of}
use Rattle.check_typing.specs.Rules.{same_direction}
use Rattle.check_typing.specs.NetworkChecker.{is_mandatory_int, has_key, input_keyed, check_keys}
use Rattle.network.specs.Form.{WellFormed}
use Rattle.network.specs.Layout.{type_count, operation_count, service_count}
use Rattle.network.specs.Rows.{type_id, cardinality, type_basic, first_child, child_count, operation_service, operation_direction, request_type, service_key}
use Rattle.network.proofs.RowLaws.{type-kept, operation-kept, counts-kept}
use Rattle.network.specs.Decode.{mark_of, siblings, written_out, type_of, operation_of, service_of, rows_from, network_of}
use Rattle.network.proofs.DecodeLaws.{type-row, rows_more, rows_none}
use Rattle.network.proofs.NetworkLaws.{service-key}
use Rattle.check_keys.specs.Keys.{some_keyed, TypeTells, InputTells, KeysFrom, Keys}
use Rattle.std.specs.Prelude.{Result, Ok, Err}
use Rattle.refusal.specs.declared.Refusal.{Refusal}

-- ---- the children of a type

pub int-row : (file : List ℕ) (r : ℕ) {c b : ℕ} {x : Bool} → c ≡ cardinality file r → b ≡ type_basic file r → x ≡ eqb c 1 && eqb b int
    → x ≡ is_mandatory_int (present (type_of file r))
unfolding written_out mark_of
int-row file r {c} {b} e f g = g ∙ (ap (λ (y : ℕ). eqb y 1 && eqb b int) e ∙ ap (λ (y : ℕ). eqb (cardinality file r) 1 && eqb y int) f)

module _ (file : List ℕ) (k r n : ℕ) where
  pub among_none : n ≡ 0 → false ≡ is_mandatory_int (find k (siblings file (type_of file) r n))
  unfolding siblings find
  among_none z = sym (ap (λ (m : ℕ). is_mandatory_int (find k (siblings file (type_of file) r m))) z)

  module _ (z : n ≡ 0 → ⊥) {i : ℕ} (a : i ≡ type_id file r) where
    -- The search, by how k compares with the first id.
    among-step : find k (siblings file (type_of file) r n)
        ≡ find_by (compare k (type_id file r)) (type_of file r) (find k (siblings file (type_of file) (r + 1) (n - 1)))
    unfolding siblings find written_out
    among-step = ap (λ (m : ℕ). find k (siblings file (type_of file) r m)) (one_less n z)

    pub among-past : k < i → false ≡ is_mandatory_int (find k (siblings file (type_of file) r n))
    among-past l =
        sym (ap is_mandatory_int (among-step ∙ find-lt (compare k (type_id file r)) (omega (arith, a, l)) (type_of file r) _))

    pub among-here : {x : Bool} → i ≡ k → x ≡ is_mandatory_int (present (type_of file r)) → x ≡ is_mandatory_int (find k (siblings file (type_of file) r n))
    among-here e h = h ∙ sym (ap is_mandatory_int (among-step ∙ find-eq (compare k (type_id file r)) (sym e ∙ a) (type_of file r) _))

    pub among_later : {x : Bool} → i ≤ k → (i ≡ k → ⊥) → x ≡ is_mandatory_int (find k (siblings file (type_of file) (r + 1) (n - 1)))
        → x ≡ is_mandatory_int (find k (siblings file (type_of file) r n))
    among_later l e h =
        h ∙ sym (ap is_mandatory_int (among-step ∙ find-gt (compare k (type_id file r)) (less i k l e a) (type_of file r) _))
      where
        less : (i k : ℕ) → i ≤ k → (i ≡ k → ⊥) → i ≡ type_id file r → type_id file r < k
        less i k l e a = omega (arith, l, e, a)

-- A loop over the n rows from r on is at row t.
pub record AmongAt (file : List ℕ) (k r n t : ℕ) : Type 0 where
  pub is : is_mandatory_int (find k (siblings file (type_of file) t (r + n - t))) ≡ is_mandatory_int (find k (siblings file (type_of file) r n))

pub at-first : (file : List ℕ) (k r n : ℕ) → AmongAt file k r n r
at-first file k r n = record { is = ap (λ (m : ℕ). is_mandatory_int (find k (siblings file (type_of file) r m))) (omega arith) }

pub at-next : (file : List ℕ) (k r n t : ℕ) {i : ℕ} → t < r + n → i ≡ type_id file t → i ≤ k → (i ≡ k → ⊥) → AmongAt file k r n t → AmongAt file k r n (t + 1)
at-next file k r n t l a u e h = record {
  is =
      ap (λ (m : ℕ). is_mandatory_int (find k (siblings file (type_of file) (t + 1) m))) (omega (arith, l))
      ∙ (among_later file k t (r + n - t) (λ z. omega (arith, z, l)) a u e refl ∙ h.is);
}

pub at-past : (file : List ℕ) (k r n t : ℕ) {i : ℕ} → t < r + n → i ≡ type_id file t → k < i → AmongAt file k r n t
    → false ≡ is_mandatory_int (find k (siblings file (type_of file) r n))
at-past file k r n t l a u h = among-past file k t (r + n - t) (λ z. omega (arith, z, l)) a u ∙ h.is

pub at-here : (file : List ℕ) (k r n t : ℕ) {i : ℕ} {x : Bool} → t < r + n → i ≡ type_id file t → i ≡ k → x ≡ is_mandatory_int (present (type_of file t))
    → AmongAt file k r n t → x ≡ is_mandatory_int (find k (siblings file (type_of file) r n))
at-here file k r n t l a e m h = among-here file k t (r + n - t) (λ z. omega (arith, z, l)) a e m ∙ h.is

pub at-end : (file : List ℕ) (k r n t : ℕ) → r + n ≤ t → AmongAt file k r n t → false ≡ is_mandatory_int (find k (siblings file (type_of file) r n))
at-end file k r n t l h = among_none file k t (r + n - t) (omega (arith, l)) ∙ h.is

pub ruleset among-laws = (int-row, at-first, at-next, at-past, at-here, at-end)

-- ---- the request type

module _ (file : List ℕ) (k t : ℕ) {f n : ℕ} (a : f ≡ first_child file t) (b : n ≡ child_count file t) where
  -- The run is within the T rows.
  run_fits : WellFormed file → t < type_count file → n ≤ 65535 - f
  run_fits w l = by (eqb n 0) refl
    where
      by : (y : Bool) → eqb n 0 ≡ y → n ≤ 65535 - f
      by true e = let z = eqb-true n 0 e in omega arith
      by false e =
          let u = (counts-kept file w).types in
          let v = (type-kept file w t l).fit (λ z. absurd (true-is (sym (eq-eqb n 0 (b ∙ z)) ∙ e))) in
          omega (arith, a, b, u, v)
        where
          true-is : true ≡ false → ⊥
          true-is p = let z : ◌≡◌ {A = ℕ} 0 1 = cc in omega arith

  pub type-outside : 65535 - f < n → TypeTells file k t false
  type-outside h = record { tells = λ w l. absurd (let m = run_fits w l in omega arith) }

  pub type-inside : {x : Bool} → x ≡ is_mandatory_int (find k (siblings file (type_of file) f n)) → TypeTells file k t x
  type-inside {x} h = record {
    tells = λ w l.
        h ∙ (ap (λ (i : ℕ). is_mandatory_int (find k (siblings file (type_of file) i n))) a
        ∙ (ap (λ (m : ℕ). is_mandatory_int (find k (siblings file (type_of file) (first_child file t) m))) b
        ∙ sym (ap (has_key k) (type-row file w t l))));
  }

pub ruleset type-laws = (type-outside, type-inside)

-- ---- inputs

direction-is : (t : Bool) → same_direction (pick t input output) input ≡ t
direction-is true = refl
direction-is false = refl

-- What an input of the service q with the request type t needs.
needs-key : Network → ℕ → MessageType → Bool
needs-key N q t = implies (is_keyed N q) (has_key (key_id N q) t)

module _ (file : List ℕ) (o : ℕ) {d : ℕ} (a : d ≡ operation_direction file o) where
  -- The test, by whether it is an input.
  input-as : (y : Bool) → eqb d 0 ≡ y → input_keyed (network_of file) (operation_of file o)
      ≡ implies y (needs-key (network_of file) (operation_service file o) (type_of file (request_type file o)))
  unfolding operation_of needs-key
  input-as y e =
      ap (λ (u : Bool). implies u (needs-key (network_of file) (operation_service file o) (type_of file (request_type file o))))
      (direction-is (eqb (operation_direction file o) 0) ∙ (sym (ap (λ (u : ℕ). eqb u 0) a) ∙ e))

  pub input-output : (d ≡ 0 → ⊥) → InputTells file o true
  input-output z = record { tells = λ w l. sym (input-as false (ne_eqb d 0 z)) }

  module _ (z : d ≡ 0) {b q k : ℕ} (f : b ≡ operation_service file o) (g : q ≡ b) (h : k ≡ service_key file q) where
    key-is : WellFormed file → o < operation_count file → key_id (network_of file) (operation_service file o) ≡ k
    key-is w l =
        service-key file (operation_service file o) (operation-kept file w o l).owner
        ∙ sym (h ∙ ap (service_key file) (g ∙ f))

    keyed-as : WellFormed file → o < operation_count file → (y : Bool) → eqb k 0 ≡ y → input_keyed (network_of file) (operation_of file o)
        ≡ implies (not y) (has_key k (type_of file (request_type file o)))
    unfolding needs-key
    keyed-as w l y e =
        input-as true (eq-eqb d 0 z)
        ∙ (ap (λ (i : ℕ). implies (not (eqb i 0)) (has_key i (type_of file (request_type file o)))) (key-is w l)
        ∙ ap (λ (u : Bool). implies (not u) (has_key k (type_of file (request_type file o)))) e)

    pub input-unkeyed : k ≡ 0 → InputTells file o true
    input-unkeyed e = record { tells = λ w l. sym (keyed-as w l true (eq-eqb k 0 e)) }

    pub input-typed : {t : ℕ} {x : Bool} → (k ≡ 0 → ⊥) → t ≡ request_type file o → TypeTells file k t x → InputTells file o x
    input-typed {t} {x} e c m = record {
      tells = λ w l.
          (subst (λ (i : ℕ). TypeTells file k i x) c m).tells w (operation-kept file w o l).request.exists
          ∙ sym (keyed-as w l false (ne_eqb k 0 e));
    }

pub ruleset input-laws = (input-output, input-unkeyed, input-typed)

-- ---- operations

pub keys_none : (file : List ℕ) (o n : ℕ) → n ≡ 0 → KeysFrom file o n (Ok tt)
unfolding check_keys
keys_none file o n z = record {
  tells = λ w l.
      sym (ap (λ (y : List Operation). verdict_of (check_keys (network_of file) y)) (rows_none (operation_of file) o n z));
}

keys_step : (file : List ℕ) (o n : ℕ) (t : Bool) → (n ≡ 0 → ⊥)
    → t ≡ input_keyed (network_of file) (operation_of file o)
    → check_keys (network_of file) (rows_from (operation_of file) o n)
    ≡ next (with_row o (demand t UnfitKey (yields (tt {0})))) (λ u. check_keys (network_of file) (rows_from (operation_of file) (o + 1) (n - 1)))
unfolding check_keys operation_of
keys_step file o n t z e =
    ap (check_keys (network_of file)) (rows_more (operation_of file) o n z)
    ∙ ap (λ (y : Bool). next (with_row o (demand y UnfitKey (yields (tt {0}))))
    (λ u. check_keys (network_of file) (rows_from (operation_of file) (o + 1) (n - 1)))) (sym e)

pub keys-first : (file : List ℕ) (o n : ℕ) {x : Bool} → (n ≡ 0 → ⊥) → InputTells file o x → not x ≡ true → KeysFrom file o n (Err (UnfitKey o))
unfolding next
keys-first file o n {x} z k e = record {
  tells = λ w l.
      sym (ap (verdict_of {A = Unit {0}}) (keys_step file o n false z (sym (not-true x e) ∙ k.tells w (omega (arith, one_less n z)))));
}

pub keys-later : (file : List ℕ) (o n : ℕ) {x : Bool} {v : Result (Unit {0}) Refusal} → (n ≡ 0 → ⊥) → InputTells file o x → not x ≡ false → KeysFrom file (o + 1) (n - 1) v
    → KeysFrom file o n v
unfolding next
keys-later file o n {x} z k e h = record {
  tells = λ w l.
      h.tells w (omega (arith, one_less n z))
      ∙ sym (ap (verdict_of {A = Unit {0}}) (keys_step file o n true z (sym (not-false x e) ∙ k.tells w (omega (arith, one_less n z)))));
}

-- ---- services

pub keyed-none : (file : List ℕ) (q n : ℕ) → n ≡ 0 → false ≡ some_keyed (rows_from (service_of file) q n)
unfolding some_keyed
keyed-none file q n z = sym (ap some_keyed (rows_none (service_of file) q n z))

keyed-step : (file : List ℕ) (q n : ℕ) → (n ≡ 0 → ⊥)
    → some_keyed (rows_from (service_of file) q n) ≡ not (eqb (service_key file q) 0) || some_keyed (rows_from (service_of file) (q + 1) (n - 1))
unfolding some_keyed service_of
keyed-step file q n z = ap some_keyed (rows_more (service_of file) q n z)

pub keyed-here : (file : List ℕ) (q n : ℕ) {k : ℕ} → (n ≡ 0 → ⊥) → k ≡ service_key file q → (k ≡ 0 → ⊥) → true ≡ some_keyed (rows_from (service_of file) q n)
keyed-here file q n z a e =
    sym (keyed-step file q n z
    ∙ ap (λ (t : Bool). not t || some_keyed (rows_from (service_of file) (q + 1) (n - 1))) (ne_eqb (service_key file q) 0 (λ i. e (a ∙ i))))

pub keyed-later : (file : List ℕ) (q n : ℕ) {k : ℕ} {x : Bool} → (n ≡ 0 → ⊥) → k ≡ service_key file q → k ≡ 0
    → x ≡ some_keyed (rows_from (service_of file) (q + 1) (n - 1)) → x ≡ some_keyed (rows_from (service_of file) q n)
keyed-later file q n z a e h =
    h ∙ sym (keyed-step file q n z
    ∙ ap (λ (t : Bool). not t || some_keyed (rows_from (service_of file) (q + 1) (n - 1))) (eq-eqb (service_key file q) 0 (sym a ∙ e)))

-- A loop over the services is at row q, of n.
pub record KeyedAt (file : List ℕ) (q n : ℕ) : Type 0 where
  pub is : some_keyed (rows_from (service_of file) q (n - q)) ≡ some_keyed (rows_from (service_of file) 0 (service_count file))

pub keyed-start : (file : List ℕ) {n : ℕ} → n ≡ service_count file → KeyedAt file 0 n
keyed-start file {n} e = record { is = ap (λ (m : ℕ). some_keyed (rows_from (service_of file) 0 m)) (omega (arith, e)) }

pub keyed-next : (file : List ℕ) (q n : ℕ) {k : ℕ} → q < n → k ≡ service_key file q → k ≡ 0 → KeyedAt file q n → KeyedAt file (q + 1) n
keyed-next file q n l a e h = record {
  is =
      ap (λ (m : ℕ). some_keyed (rows_from (service_of file) (q + 1) m)) (omega (arith, l))
      ∙ (keyed-later file q (n - q) (λ z. omega (arith, z, l)) a e refl ∙ h.is);
}

pub keyed-found : (file : List ℕ) (q n : ℕ) {k : ℕ} → q < n → k ≡ service_key file q → (k ≡ 0 → ⊥) → KeyedAt file q n
    → true ≡ some_keyed (rows_from (service_of file) 0 (service_count file))
keyed-found file q n l a e h = keyed-here file q (n - q) (λ z. omega (arith, z, l)) a e ∙ h.is

pub keyed-end : (file : List ℕ) (q n : ℕ) → n ≤ q → KeyedAt file q n → false ≡ some_keyed (rows_from (service_of file) 0 (service_count file))
keyed-end file q n l h = keyed-none file q (n - q) (omega (arith, l)) ∙ h.is

pub ruleset keyed-laws = (keyed-start, keyed-next, keyed-found, keyed-end)

-- ---- the file

-- Where no service is keyed no input is unfit.
no_key : (l : List Service) (q : ℕ) → some_keyed l ≡ false → not (eqb (key_id_of (entry q l)) 0) ≡ false
unfolding some_keyed entry
no_key [] q e = refl
no_key (v ∷ l) zero e = first (not (eqb v.key 0)) e
  where
    first : (t : Bool) → t || some_keyed l ≡ false → t ≡ false
    first true e = e
    first false e = refl
no_key (v ∷ l) (suc q) e = no_key l q (others (not (eqb v.key 0)) e)
  where
    others : (t : Bool) → t || some_keyed l ≡ false → some_keyed l ≡ false
    others true e = absurd (let z : ◌≡◌ {A = ℕ} 0 1 = cc in omega arith)
    others false e = e

unkeyed-passes : (N : Network) (l : List Operation) → some_keyed N.services ≡ false → check_keys N l ≡ passed (tt {0})
unfolding check_keys next
unkeyed-passes N [] e = refl
unkeyed-passes N (o ∷ l) e =
    ap (λ (t : Bool). next (with_row o.row (demand t UnfitKey (yields (tt {0})))) (λ u. check_keys N l))
    (free (same_direction o.direction input) (is_keyed N o.service) (has_key (key_id N o.service) o.request) (no_key N.services o.service e))
    ∙ unkeyed-passes N l e
  where
    free : (d k h : Bool) → k ≡ false → implies d (implies k h) ≡ true
    free true k h e = ap (λ (t : Bool). implies t h) e
    free false k h e = refl

pub keys-unkeyed : (file : List ℕ) {x : Bool} → x ≡ some_keyed (rows_from (service_of file) 0 (service_count file)) → not x ≡ true → Keys file (Ok tt)
unfolding network_of
keys-unkeyed file {x} b e = record {
  tells = λ w.
      sym (ap (verdict_of {A = Unit {0}}) (unkeyed-passes (network_of file) (network_of file).operations (sym b ∙ not-true x e)));
}

pub keys-all : (file : List ℕ) {n : ℕ} {v : Result (Unit {0}) Refusal} → n ≡ operation_count file → KeysFrom file 0 n v → Keys file v
unfolding network_of
keys-all file {n} {v} e k = record { tells = λ w. (subst (λ (m : ℕ). KeysFrom file 0 m v) e k).tells w (omega arith) }

-- A loop over the operations is at row o, of n: what those from o on answer is the answer.
pub record KeysAt (file : List ℕ) (o n : ℕ) : Type 0 where
  pub rest : (v : Result (Unit {0}) Refusal) → KeysFrom file o (n - o) v → Keys file v

pub keys-start : (file : List ℕ) {n : ℕ} → n ≡ operation_count file → KeysAt file 0 n
keys-start file {n} e = record { rest = λ v k. keys-all file (omega (arith, e)) k }

pub keys-next : (file : List ℕ) (o n : ℕ) {x : Bool} → o < n → InputTells file o x → not x ≡ false → KeysAt file o n → KeysAt file (o + 1) n
keys-next file o n l k e h = record {
  rest = λ v m.
      h.rest v (keys-later file o (n - o) (λ z. omega (arith, z, l)) k e (subst (λ (y : ℕ). KeysFrom file (o + 1) y v) (omega (arith, l)) m));
}

pub keys-unfit : (file : List ℕ) (o n : ℕ) {x : Bool} → o < n → InputTells file o x → not x ≡ true → KeysAt file o n → Keys file (Err (UnfitKey o))
keys-unfit file o n l k e h = h.rest (Err (UnfitKey o)) (keys-first file o (n - o) (λ z. omega (arith, z, l)) k e)

pub keys-end : (file : List ℕ) (o n : ℕ) → n ≤ o → KeysAt file o n → Keys file (Ok tt)
keys-end file o n l h = h.rest (Ok tt) (keys_none file o (n - o) (omega (arith, l)))

pub ruleset keys-laws = (keys-unkeyed, keys-start, keys-next, keys-unfit, keys-end)
