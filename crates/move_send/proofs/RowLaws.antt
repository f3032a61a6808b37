-- Rows that send, at each of the ways out of the code.
use mathlib.Core.Path.{◌≡◌, refl, sym, ap, subst, ◌∙◌}
use mathlib.Core.Bool.{Bool, true, false, not}
use mathlib.Core.List.{List, [], ◌∷◌}
use Prim.Native.Nat.{ℕ, ◌<◌}
use native.Mathlib.Omega.{arith}
use types.Run.{OneOf, miss}
use denote.Enum.Declared.{tag_of}
use Rattle.basics.specs.TestLaws.{not-false, not-true}
use Rattle.refusal.specs.declared.Refusal.TheVariants.{MoveNotAllowed}
use Rattle.network_syntax.specs.Syntax.{Network, output}
use Rattle.network_syntax.specs.Rows.{output_of}
use Rattle.check_typing.specs.Rules.{permits}
use Rattle.network.specs.Form.{WellFormed}
use Rattle.network.specs.Layout.{behaviour_count}
use Rattle.network.proofs.RowLaws.{counts-kept}
use Rattle.network.specs.Decode.{operation_of, behaviour_of}
use Rattle.network_rows.specs.declared.OutputRow.{OutputRow}
use Rattle.network_rows.specs.Readers.{output_row_of}
use Rattle.network_rows.specs.RowSyntax.{output_with}
use Rattle.check_operations.specs.Directions.{direction_of}
use Rattle.network_row_parts.specs.Behaviours.{OutputKeptBy}
use Rattle.network_row_parts.specs.KindLaws.{row-output-is}
use Rattle.state.specs.Session.{Progress, Session, State}
use Rattle.state.specs.Bytes.{read_session}
use Rattle.state_progress.specs.declared.Progress as coded
use Rattle.state_progress.specs.Meaning.{meaning}
use Rattle.state_progress.specs.contracts.Progress as progress
use Rattle.state_destinations.specs.declared.Destination as destination
use Rattle.state_destinations.specs.Meaning.{reply_of}
use Rattle.move_rules.specs.Moves.{Result, not_allowed, require, if_undone, send_output, send_at}
use Rattle.move_send.specs.Sending.{reply_back, sending_as, SendRowsExist, ready_as, OutputAt, SendingAt}
use Rattle.std.specs.Prelude.{Option, Some, None}

-- ---- `output_at`

module _ (file : List ℕ) (i : ℕ) {x : OutputRow} (e : x ≡ output_row_of file i) where
  output-view : {y : OutputRow} → x ≡ y → WellFormed file → i < behaviour_count file → (output_of (behaviour_of file i) ≡ output_with file i y) × OutputKeptBy file y
  output-view f w l = row-output-is file w i l e f

  pub output-notification : {o c : ℕ} → x ≡ OutputRow.Notification o c → OutputAt file i (Some (o, c, false))
  unfolding send_at
  output-notification f = record {
    tells = λ w l N G q n S to. ap (send_output N G q n S to) (output-view f w l).0;
    exists = λ w l. (output-view f w l).1;
  }

  pub output-solicit : {o c p : ℕ} → x ≡ OutputRow.SolicitResponse o c p → OutputAt file i (Some (o, c, true))
  unfolding send_at
  output-solicit f = record {
    tells = λ w l N G q n S to. ap (send_output N G q n S to) (output-view f w l).0;
    exists = λ w l. let k = (output-view f w l).1 in (k.0, k.1);
  }

  pub output-other : x ≡ OutputRow.Nothing → OutputAt file i None
  unfolding send_at
  output-other f = record {
    tells = λ w l N G q n S to. ap (send_output N G q n S to) (output-view f w l).0;
    exists = λ w l. tt;
  }

pub ruleset output-laws = (output-notification, output-solicit, output-other)

-- ---- `reply_back`

pub back-row : (t : Bool) (a b q n i : ℕ) → t ≡ true → a ≡ q → b ≡ n → reply_of (Some (destination.Destination.WaitingRow a b i)) ≡ reply_back t q n i
back-row t a b q n i e f g =
    ap (λ (x : ℕ). reply_of (Some (destination.Destination.WaitingRow x b i))) f
    ∙ (ap (λ (x : ℕ). reply_of (Some (destination.Destination.WaitingRow q x i))) g ∙ ap (λ (x : Bool). reply_back x q n i) (sym e))

-- ---- `sending_at`

nowhere : {p : ℕ × ℕ × Bool} {A : Type 0} → None ≡ Some p → A
nowhere e = absurd (let z : ◌≡◌ {A = ℕ} 0 1 = cc in omega arith)

module _ (file s : List ℕ) (slot q i : ℕ) where
  abbrev S : Session
  S = read_session s slot

  pub row-past : 255 < i → SendingAt file s slot q i None
  row-past h = record {
    tells = λ w l N G n to. absurd (omega (arith, h, l, (counts-kept file w).behaviours));
    exists = λ w l. tt;
    small = λ o e two f. nowhere f;
  }

  module _ {v : Option (ℕ × ℕ × Bool)} (is : OutputAt file i v) where
    refuses : ((N : Network) (G : State) (n to : ℕ) → ready_as file N G q n S to i v ≡ not_allowed) → SendingAt file s slot q i None
    refuses g = record { tells = λ w l N G n to. is.tells w l N G q n S to ∙ g N G n to; exists = λ w l. tt; small = λ o e two f. nowhere f }

    pub row_other : v ≡ None → SendingAt file s slot q i None
    row_other g = refuses (λ N G n to. ap (ready_as file N G q n S to i) g)

    module _ {o e : ℕ} {two : Bool} (g : v ≡ Some (o, e, two)) (p : coded.Progress) (m : meaning p ≡ S.progress i) where
      row_next : (N : Network) (G : State) (n to : ℕ) → ready_as file N G q n S to i v
          ≡ if_undone (meaning p) (require (permits q output two (operation_of file o)) MoveNotAllowed (sending_as file N G q n S to i (Some (o, e, two))))
      row_next N G n to =
          ap (ready_as file N G q n S to i) g
          ∙ ap (λ (x : Progress). if_undone x (require (permits q output two (operation_of file o)) MoveNotAllowed
          (sending_as file N G q n S to i (Some (o, e, two))))) (sym m)

      pub row-not-undone : OneOf (1 ∷ 2 ∷ 3 ∷ 4 ∷ []) (tag_of progress.the_type p) → SendingAt file s slot q i None
      row-not-undone k = refuses (λ N G n to. row_next N G n to ∙ other p _ k)
        where
          other : (p : coded.Progress) (r : Result) → OneOf (1 ∷ 2 ∷ 3 ∷ 4 ∷ []) (tag_of progress.the_type p) → if_undone (meaning p) r ≡ not_allowed
          other coded.Progress.Undone r k = absurd (miss (1 ∷ 2 ∷ 3 ∷ 4 ∷ []) 0 tt k)
          other coded.Progress.Done r k = refl
          other coded.Progress.Waits r k = refl
          other (coded.Progress.Taken i) r k = refl
          other (coded.Progress.Received d) r k = refl

      module _ (k : p ≡ coded.Progress.Undone) {b : Bool} (z : b ≡ permits q (direction_of false) two (operation_of file o)) where
        row-undone : (N : Network) (G : State) (n to : ℕ) (x : Bool) → b ≡ x → ready_as file N G q n S to i v
            ≡ require x MoveNotAllowed (sending_as file N G q n S to i (Some (o, e, two)))
        row-undone N G n to x y =
            let rest = sending_as file N G q n S to i (Some (o, e, two)) in
            row_next N G n to
            ∙ (ap (λ (u : coded.Progress). if_undone (meaning u) (require (permits q output two (operation_of file o)) MoveNotAllowed rest)) k
            ∙ ap (λ (u : Bool). require u MoveNotAllowed rest) (sym z ∙ y))

        pub row-not-permitted : not b ≡ true → SendingAt file s slot q i None
        row-not-permitted y = refuses (λ N G n to. row-undone N G n to false (not-true b y))

        pub row-sends : not b ≡ false → i < 256 → SendingAt file s slot q i (Some (o, e, two))
        row-sends y small = record {
          tells = λ w l N G n to. is.tells w l N G q n S to ∙ row-undone N G n to true (not-false b y);
          exists = λ w l. subst (SendRowsExist file) g (is.exists w l);
          small = λ a c d f. small;
        }
