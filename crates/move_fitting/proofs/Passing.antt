-- A message that passes, at each of the ways out of the code.
use mathlib.Core.Path.{◌≡◌, sym, ap, ◌∙◌}
use mathlib.Core.Bool.{Bool, true, false, not}
use mathlib.Core.List.{List}
use Prim.Native.Nat.{ℕ}
use Rattle.basics.specs.TestLaws.{not-false, not-true, told}
use Rattle.refusal.specs.declared.Refusal.{Refusal}
use Rattle.refusal.specs.declared.Refusal.TheVariants.{MessageMisfit}
use Rattle.tree.specs.Encode.{Octets}
use Rattle.tree.specs.Decode.{is_message}
use Rattle.tree.specs.DecodeLaws.{message-sound}
use Rattle.check_types.specs.Tells.{FitsRow}
use Rattle.check_types.specs.TellsLaws.{fits-message}
use Rattle.move_rules.specs.Moves.{require}
use Rattle.move_fitting.specs.Fitting.{Passes}
use Rattle.std.specs.Prelude.{Result, Ok, Err}

module _ {l file : List ℕ} {r : ℕ} {other : Refusal} {b : Bool} (e : b ≡ is_message l) where
  pub pass-none : not b ≡ true → Passes l file r other (Err other)
  pass-none n = record { tells = λ w i f c. c.no_message (sym e ∙ not-true b n) }

  module _ {x : Bool} (o : Octets l) (n : not b ≡ false) (h : FitsRow l file r x) where
    pub pass-misfit : not x ≡ true → Passes l file r other (Err MessageMisfit)
    pass-misfit g = record {
      tells = λ w i f c k.
          let m = message-sound l o (told e n) in
          c.message m.0 m.1 k
          ∙ ap (λ (y : Bool). require y MessageMisfit (k m.0)) (sym (fits-message h m.0 m.1 w i) ∙ not-true x g);
    }

    pub pass-done : not x ≡ false → Passes l file r other (Ok tt)
    pass-done g = record {
      tells = λ w i f c.
          let m = message-sound l o (told e n) in (
            m.0,
            m.1,
            λ k.
                c.message m.0 m.1 k
                ∙ ap (λ (y : Bool). require y MessageMisfit (k m.0)) (sym (fits-message h m.0 m.1 w i) ∙ not-false x g),
          );
    }

pub ruleset pass-laws = (pass-none, pass-misfit, pass-done)
