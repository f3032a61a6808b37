-- Rows that wait, at each of the ways out of the code.
use mathlib.Core.Path.{◌≡◌, refl, sym, ap, ◌∙◌}
use mathlib.Core.Bool.{Bool, true, false, not}
use mathlib.Core.List.{List, [], ◌∷◌}
use Prim.Native.Nat.{ℕ, ◌<◌, ◌≤◌}
use native.Mathlib.Omega.{arith}
use types.Run.{OneOf, miss}
use denote.Enum.Declared.{tag_of}
use lib.Dec.{eqb}
use lib.ListN.{get_or}
use Rattle.basics.specs.TestLaws.{T_of, apart, not-false, not-true}
use Rattle.tree_forest.specs.Path.{Path}
use Rattle.refusal.specs.declared.Refusal.TheVariants.{MoveNotAllowed}
use Rattle.network_syntax.specs.Syntax.{Operation, output, Optional, Behaviour}
use Rattle.network_syntax.specs.Rows.{Output, has_row, at_row}
use Rattle.check_typing.specs.Rules.{permits}
use Rattle.network.specs.Form.{WellFormed}
use Rattle.network.specs.Layout.{behaviour_count}
use Rattle.network.proofs.RowLaws.{counts-kept}
use Rattle.network.proofs.OnceLaws.{rows_of}
use Rattle.network.specs.Decode.{path_of, operation_of, behaviour_of}
use Rattle.network_rows.specs.declared.OutputRow.{OutputRow}
use Rattle.network_rows.specs.contracts.OutputRow as rows
use Rattle.network_rows.specs.Readers.{output_row_of}
use Rattle.network_rows.specs.RowSyntax.{output_with}
use Rattle.check_operations.specs.Directions.{direction_of}
use Rattle.check_operations.specs.PermitsLaws.{two-way}
use Rattle.network_row_parts.specs.KindLaws.{row-output-is}
use Rattle.state_rows.specs.Marks.{mark_for, RowsOf}
use Rattle.state_rows.specs.PartLaws.{row-stands}
use Rattle.state.specs.Session.{Progress, Session}
use Rattle.state.specs.Bytes.{read_session}
use Rattle.state.proofs.RowLaws.{row-absent}
use Rattle.state_progress.specs.declared.Progress as coded
use Rattle.state_progress.specs.Meaning.{meaning}
use Rattle.move_rules.specs.Moves.{Result, not_allowed, require, if_waiting, on_waiting_output, on_waiting_row}
use Rattle.move_waiting.specs.Waiting.{HasRow, WaitsAt}
use Rattle.std.specs.Prelude.{Option, Some, None}

-- ---- `has_row`

module _ (file : List ℕ) (b r : ℕ) where
  pub far-row : 255 < r → HasRow file b r false
  far-row l = record { tells = λ w k. by (has_row r (behaviour_of file b)) refl w k; small = λ e. apart e }
    where
      by : (t : Bool) → has_row r (behaviour_of file b) ≡ t → WellFormed file → b < behaviour_count file → false ≡ t
      by true e w k = absurd (omega (arith, l, (rows_of file w b r k (T_of e)).1, (counts-kept file w).behaviours))
      by false e w k = refl

  pub near-row : (marks : List ℕ) (i : ℕ) → r ≤ 255 → RowsOf file b marks → i ≡ r → HasRow file b r (not (eqb (get_or marks i 0) 0))
  near-row marks i l m e = record {
    tells = λ w k.
        ap (λ (j : ℕ). not (eqb (get_or marks j 0) 0)) e
        ∙ (ap (λ (y : ℕ). not (eqb y 0)) (m.rows r (omega (arith, l))) ∙ by (has_row r (behaviour_of file b)));
    small = λ _. omega (arith, l);
  }
    where
      by : (t : Bool) → not (eqb (mark_for t) 0) ≡ t
      by true = refl
      by false = refl

pub ruleset row_laws = (far-row, near-row)

-- ---- what a row asks

-- `on_waiting_row` of row r, by the output's row that a reader gives.
abbrev asks : List ℕ → ℕ → Session → ℕ → OutputRow → (Operation → Path → Result) → Result
asks file q S r x f = on_waiting_output q S (output_with file r x) f

row-asks : (file : List ℕ) (q : ℕ) (S : Session) (f : Operation → Path → Result) → WellFormed file → (b r : ℕ) → b < behaviour_count file
    → has_row r (behaviour_of file b) ≡ true → on_waiting_row q S (at_row r (behaviour_of file b)) f ≡ asks file q S r (output_row_of file r) f
row-asks file q S f w b r l h =
    row-stands file w b r l h (λ x. on_waiting_row q S x f) refl
    ∙ ap (λ (u : Optional Output). on_waiting_output q S u f) (row-output-is file w r (rows_of file w b r l (T_of h)).1 {x = output_row_of file r} refl refl).0

-- ---- `waiting_at`

nowhere : {o p : ℕ} {A : Type 0} → ◌≡◌ {A = Option (ℕ × ℕ)} None (Some (o, p)) → A
nowhere e = absurd (let z : ◌≡◌ {A = ℕ} 0 1 = cc in omega arith)

module _ (file s : List ℕ) (slot b q r : ℕ) {t : Bool} (h : HasRow file b r t) where
  abbrev S : Session
  S = read_session s slot

  pub no-row : not t ≡ true → WaitsAt file s slot b q r None
  no-row y = record {
    tells = λ w l f.
        sym (ap (λ (x : Optional Behaviour). on_waiting_row q S x f) (row-absent r (behaviour_of file b) (sym (h.tells w l) ∙ not-true t y)));
    exists = λ w l. tt;
    small = λ o p e. nowhere e;
  }

  module _ (y : not t ≡ false) {row : OutputRow} (e : row ≡ output_row_of file r) where
    runs : WellFormed file → b < behaviour_count file → has_row r (behaviour_of file b) ≡ true
    runs w l = sym (h.tells w l) ∙ not-false t y

    not-allowed : ((f : Operation → Path → Result) → asks file q S r row f ≡ not_allowed) → WaitsAt file s slot b q r None
    not-allowed g = record {
      tells = λ w l f. sym (row-asks file q S f w b r l (runs w l) ∙ (ap (λ (x : OutputRow). asks file q S r x f) (sym e) ∙ g f));
      exists = λ w l. tt;
      small = λ o p e. nowhere e;
    }

    pub no-solicit : OneOf (0 ∷ 1 ∷ []) (tag_of rows.the_type row) → WaitsAt file s slot b q r None
    no-solicit k = not-allowed (λ f. other row f k)
      where
        other : (x : OutputRow) (f : Operation → Path → Result) → OneOf (0 ∷ 1 ∷ []) (tag_of rows.the_type x) → asks file q S r x f ≡ not_allowed
        other OutputRow.Nothing f k = refl
        other (OutputRow.Notification o e) f k = refl
        other (OutputRow.SolicitResponse o e x) f k = absurd (miss (0 ∷ 1 ∷ []) 2 tt k)

    module _ {o d x : ℕ} (g : row ≡ OutputRow.SolicitResponse o d x) (p : coded.Progress) (m : meaning p ≡ S.progress r) where
      abbrev Next : (Operation → Path → Result) → Result
      Next f = require (permits q output true (operation_of file o)) MoveNotAllowed (f (operation_of file o) (path_of file x))

      solicits : (f : Operation → Path → Result) → asks file q S r row f ≡ if_waiting (meaning p) (Next f)
      solicits f = ap (λ (z : OutputRow). asks file q S r z f) g ∙ ap (λ (z : Progress). if_waiting z (Next f)) (sym m)

      pub no-waits : (p ≡ coded.Progress.Waits → ⊥) → WaitsAt file s slot b q r None
      no-waits k = not-allowed (λ f. solicits f ∙ other p (Next f) k)
        where
          other : (p : coded.Progress) (z : Result) → (p ≡ coded.Progress.Waits → ⊥) → if_waiting (meaning p) z ≡ not_allowed
          other coded.Progress.Undone z k = refl
          other coded.Progress.Done z k = refl
          other coded.Progress.Waits z k = absurd (k refl)
          other (coded.Progress.Taken n) z k = refl
          other (coded.Progress.Received d) z k = refl

      module _ (k : p ≡ coded.Progress.Waits) {v : Bool} (z : v ≡ permits q (direction_of false) true (operation_of file o)) where
        waiting : (f : Operation → Path → Result) → asks file q S r row f ≡ require v MoveNotAllowed (f (operation_of file o) (path_of file x))
        waiting f =
            solicits f ∙ (ap (λ (c : coded.Progress). if_waiting (meaning c) (Next f)) k
            ∙ ap (λ (c : Bool). require c MoveNotAllowed (f (operation_of file o) (path_of file x))) (sym z))

        pub not-permitted : not v ≡ true → WaitsAt file s slot b q r None
        not-permitted n =
            not-allowed (λ f. waiting f ∙ ap (λ (c : Bool). require c MoveNotAllowed (f (operation_of file o) (path_of file x))) (not-true v n))

        pub row-waits : not v ≡ false → WaitsAt file s slot b q r (Some (o, x))
        row-waits n = record {
          tells = λ w l f.
              sym (row-asks file q S f w b r l (runs w l) ∙ (ap (λ (c : OutputRow). asks file q S r c f) (sym e)
              ∙ (waiting f ∙ ap (λ (c : Bool). require c MoveNotAllowed (f (operation_of file o) (path_of file x))) (not-false v n))));
          exists = λ w l.
              let i = (rows_of file w b r l (T_of (runs w l))).1 in
              let kept = (row-output-is file w r i e g).1 in
              (kept.0, kept.2, two-way q output (operation_of file o) (sym z ∙ not-false v n));
          small = λ a c u. h.small (not-false t y);
        }

pub ruleset wait-laws = (no-row, no-solicit, no-waits, not-permitted, row-waits)
