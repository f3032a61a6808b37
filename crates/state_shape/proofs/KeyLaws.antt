-- Laws of keys: one for each way out of the functions.
use mathlib.Core.Path.{◌≡◌, refl, sym, ap, ◌∙◌}
use mathlib.Core.List.{List}
use mathlib.Core.Bool.{Bool, true, false, not, ◌&&◌}
use Prim.Native.Nat.{ℕ, suc, ◌-◌, ◌≤◌, ◌<◌}
use native.Mathlib.Omega.{arith}
use lib.Dec.{eqb}
use borrow.Author.Tests.{not-true, not-false}
use Rattle.network_syntax.specs.Syntax.{Optional, Service}
use Rattle.network_syntax.specs.Keys.{key_id_of, is_keyed}
use Rattle.network.specs.Layout.{service_count}
use Rattle.network.specs.Rows.{service_key}
use Rattle.network.specs.Decode.{service_of, network_of}
use Rattle.network.proofs.NetworkLaws.{service-key}
use Rattle.state.specs.Bytes.{read_state}
use Rattle.state.specs.Shape.{suits_keys, suits_all_keys}
use Rattle.state_shape.proofs.StandLaws.{no-service}

-- ---- a service

module _ (file : List ℕ) (q m : ℕ) (e : m ≡ service_count file) where
  pub unkeyed-past : m ≤ q → false ≡ is_keyed (network_of file) q
  unfolding network_of
  unkeyed-past h = sym (ap (λ (v : Optional Service). not (eqb (key_id_of v) 0)) (no-service (service_of file) (service_count file) 0 q (omega arith)))

  pub keyed-by : (k : ℕ) → q < m → k ≡ service_key file q → not (eqb k 0) ≡ is_keyed (network_of file) q
  keyed-by k h f = ap (λ (j : ℕ). not (eqb j 0)) (f ∙ sym (service-key file q (omega arith)))

pub ruleset keyed_laws = (unkeyed-past, keyed-by)

-- ---- all services

-- The keys of the services q and later suit.
pub record KeysUpward (file s : List ℕ) (q : ℕ) : Type 0 where
  pub few : q ≤ 4
  pub same : suits_all_keys (network_of file) (read_state s) 4 ≡ suits_all_keys (network_of file) (read_state s) q

pub keys-start : (file s : List ℕ) → KeysUpward file s 4
keys-start file s = record { few = omega arith; same = refl }

module _ (file s : List ℕ) (q : ℕ) (c : KeysUpward file s q) where
  keys-more : (x : Bool) → 0 < q → x ≡ suits_keys (is_keyed (network_of file) (q - 1)) (read_state s (q - 1))
      → suits_all_keys (network_of file) (read_state s) 4 ≡ (x && suits_all_keys (network_of file) (read_state s) (q - 1))
  unfolding suits_all_keys
  keys-more x h e =
      let d : q ≡ suc (q - 1) = omega arith in
      c.same ∙ (ap (suits_all_keys (network_of file) (read_state s)) d ∙ rw (sym e))

  pub keys-next : (x : Bool) → 0 < q → x ≡ suits_keys (is_keyed (network_of file) (q - 1)) (read_state s (q - 1)) → not x ≡ false → KeysUpward file s (q - 1)
  keys-next x h e f = record { few = omega (arith, c.few); same = keys-more x h e ∙ rw (not-false x f) }

  pub keys-not : (x : Bool) → 0 < q → x ≡ suits_keys (is_keyed (network_of file) (q - 1)) (read_state s (q - 1)) → not x ≡ true
      → false ≡ suits_all_keys (network_of file) (read_state s) 4
  keys-not x h e f = sym (keys-more x h e ∙ rw (not-true x f))

  pub keys-all : q ≤ 0 → true ≡ suits_all_keys (network_of file) (read_state s) 4
  unfolding suits_all_keys
  keys-all h = let z : q ≡ 0 = omega arith in sym (c.same ∙ ap (suits_all_keys (network_of file) (read_state s)) z)

pub ruleset all-keys-laws = (keys-not, keys-all)

pub ruleset all-keys-again-laws = (keys-next)
