-- Laws of the input that an outsider names.
use Prim.Native.Nat.{ℕ, ◌+◌, ◌-◌, ◌<◌, ◌≤◌}
use mathlib.Core.Path.{◌≡◌, refl, ◌∙◌, ap}
use mathlib.Core.List.{List}
use mathlib.Core.Bool.{Bool, true, false}
use native.Mathlib.Omega.{arith}
use Rattle.network_syntax.specs.Meets.{first_of}
use Rattle.network.specs.Layout.{operation_count}
use Rattle.network.specs.Decode.{operation_of, rows_from, network_of}
use Rattle.check_operations.specs.Meeting.{operation_met}
use Rattle.check_operations.specs.MeetingLaws.{first-none, first-here, first-later, first-all}
use Rattle.move_rules.specs.Moves.{is_input_named, input_named}
use Rattle.std.specs.Prelude.{Option, Some, None}

-- None of the operations before row i is named: the first that is, is the first from there on.
pub record Unnamed (file : List ℕ) (q id i : ℕ) : Type 0 where
  pub same : (x : Option ℕ) → operation_met file x ≡ first_of (is_input_named q id) (rows_from (operation_of file) i (operation_count file - i))
      → operation_met file x ≡ first_of (is_input_named q id) (rows_from (operation_of file) 0 (operation_count file))

pub unnamed-none : (file : List ℕ) (q id : ℕ) → Unnamed file q id 0
unnamed-none file q id = record {
  same = λ x e.
      let d : operation_count file - 0 ≡ operation_count file = omega arith in
      e ∙ ap (λ (m : ℕ). first_of (is_input_named q id) (rows_from (operation_of file) 0 m)) d;
}

module _ (file : List ℕ) (q id i : ℕ) (c : Unnamed file q id i) where
  abbrev left : ℕ
  left = operation_count file - i

  module _ {t : Bool} (h : i < operation_count file) (e : t ≡ is_input_named q id (operation_of file i)) where
    some-left : left ≡ 0 → ⊥
    some-left z = omega arith

    pub unnamed-next : t ≡ false → Unnamed file q id (i + 1)
    unnamed-next f = record {
      same = λ x g.
          let d : operation_count file - (i + 1) ≡ left - 1 = omega arith in
          c.same x (first-later file (is_input_named q id) i left x some-left e f
          (g ∙ ap (λ (m : ℕ). first_of (is_input_named q id) (rows_from (operation_of file) (i + 1) m)) d));
    }

    pub unnamed-here : t ≡ true → operation_met file (Some i) ≡ input_named (network_of file) q id
    unnamed-here f =
        first-all file (is_input_named q id) i left (Some i) refl (c.same (Some i) (first-here file (is_input_named q id) i left some-left e f))

  pub unnamed-all : operation_count file ≤ i → operation_met file None ≡ input_named (network_of file) q id
  unnamed-all h =
      first-all file (is_input_named q id) i left None refl (c.same None (first-none file (is_input_named q id) i left (omega arith)))
