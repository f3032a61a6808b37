-- Laws of the progress that rows are allowed: one for each way out of the functions.
use mathlib.Core.Path.{◌≡◌, refl, sym, ap, ◌∙◌}
use mathlib.Core.List.{List}
use mathlib.Core.Bool.{Bool, true, false, not, ◌&&◌}
use Prim.Native.Nat.{ℕ, suc, ◌+◌, ◌-◌, ◌*◌, ◌≤◌, ◌<◌}
use native.Mathlib.Omega.{arith}
use borrow.Author.Tests.{not-true, not-false}
use Rattle.network.specs.Layout.{behaviour_count}
use Rattle.network.specs.Decode.{network_of}
use Rattle.network.proofs.NetworkLaws.{service-length}
use Rattle.state.specs.Bytes.{read_progress}
use Rattle.state.specs.Places.{row_size}
use Rattle.state_rows.specs.Allowed.{allowed_at, allows, permitted}

-- How many services there are, for the destinations of replies.
pub ruleset service_lengths = (service-length)

-- ---- the rows

-- The rows i and later have a progress that they are allowed.
pub record Upward (file marks s : List ℕ) (at i : ℕ) : Type 0 where
  pub few : i ≤ 256
  pub same : permitted file marks s at 256 ≡ permitted file marks s at i

pub upward-none : (file marks s : List ℕ) (at : ℕ) → Upward file marks s at 256
upward-none file marks s at = record { few = omega arith; same = refl }

module _ (file marks s : List ℕ) (at i : ℕ) (c : Upward file marks s at i) where
  abbrev one : ℕ → Bool
  one j = allows (network_of file) (behaviour_count file) (allowed_at file marks j) (read_progress s (at + row_size * j))

  row_more : 0 < i → permitted file marks s at 256 ≡ (one (i - 1) && permitted file marks s at (i - 1))
  unfolding permitted
  row_more h = let d : i ≡ suc (i - 1) = omega arith in c.same ∙ ap (permitted file marks s at) d

  pub upward-next : (x : Bool) → 0 < i → x ≡ one (i - 1) → not x ≡ false → Upward file marks s at (i - 1)
  upward-next x h e f = record { few = omega (arith, c.few); same = row_more h ∙ rw (sym e ∙ not-false x f) }

  pub upward-not : (x : Bool) → 0 < i → x ≡ one (i - 1) → not x ≡ true → false ≡ permitted file marks s at 256
  upward-not x h e f = sym (row_more h ∙ rw (sym e ∙ not-true x f))

  pub upward-all : i ≤ 0 → true ≡ permitted file marks s at 256
  unfolding permitted
  upward-all h = let z : i ≡ 0 = omega arith in sym (c.same ∙ ap (permitted file marks s at) z)

pub ruleset rows-laws = (upward-not, upward-all)

pub ruleset rows-again-laws = (upward-next)
