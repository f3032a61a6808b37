-- Rows that reply, at each of the ways out of the code.
use mathlib.Core.Path.{◌≡◌, refl, sym, ap, ◌∙◌}
use mathlib.Core.Bool.{Bool, true, false, not}
use mathlib.Core.List.{List, [], ◌∷◌}
use Prim.Native.Nat.{ℕ, ◌<◌}
use native.Mathlib.Omega.{arith}
use types.Run.{OneOf, miss}
use denote.Enum.Declared.{tag_of}
use Rattle.basics.specs.TestLaws.{T_of, not-false, not-true}
use Rattle.refusal.specs.declared.Refusal.TheVariants.{MoveNotAllowed}
use Rattle.network_syntax.specs.Syntax.{Network, input, Optional, Behaviour}
use Rattle.network_syntax.specs.Rows.{has_row, at_row}
use Rattle.check_typing.specs.Rules.{permits}
use Rattle.network.specs.Form.{WellFormed}
use Rattle.network.specs.Layout.{behaviour_count}
use Rattle.network.proofs.OnceLaws.{rows_of}
use Rattle.network.specs.Decode.{path_of, operation_of, behaviour_of}
use Rattle.network_rows.specs.declared.InputRow.{InputRow}
use Rattle.network_rows.specs.contracts.InputRow as rows
use Rattle.network_rows.specs.Readers.{input_row_of}
use Rattle.network_rows.specs.RowSyntax.{input_with}
use Rattle.check_operations.specs.Directions.{direction_of}
use Rattle.check_operations.specs.PermitsLaws.{two-way}
use Rattle.network_row_parts.specs.KindLaws.{row-input-is}
use Rattle.state.specs.Session.{Destination, Progress, undone, done, waits, received, taken, Session, State}
use Rattle.state.specs.Bytes.{read_session}
use Rattle.state.proofs.RowLaws.{row-absent}
use Rattle.state_rows.specs.PartLaws.{row-stands}
use Rattle.move_rules.specs.Readiness.{is_done}
use Rattle.move_rules.specs.Moves.{Result, not_allowed, require, on_received, reply_to, reply_by, reply_at}
use Rattle.move_waiting.specs.Waiting.{HasRow}
use Rattle.move_reply.specs.Replying.{ReplyingAt}
use Rattle.std.specs.Prelude.{Option, Some, None}

-- ---- what a row answers

-- What is done with the destination of the reply.
abbrev next : List ℕ → Network → State → ℕ → ℕ → Session → ℕ → ℕ → ℕ → Bool → Bool → Destination → Result
next file N G q n S r o c x y to = require x MoveNotAllowed (require y MoveNotAllowed (reply_to N G q n S r (operation_of file o) (path_of file c) to))

-- `reply_at` of row r, by the input's row that a reader gives.
abbrev answers : List ℕ → Network → State → ℕ → ℕ → Session → ℕ → InputRow → Result
answers file N G q n S r x = reply_by N G q n S (input_with file (behaviour_of file) r x)

row-answers : (file : List ℕ) (N : Network) (G : State) (q n : ℕ) (S : Session) → WellFormed file → (b r : ℕ) → b < behaviour_count file
    → has_row r (behaviour_of file b) ≡ true → reply_at N G q n S (at_row r (behaviour_of file b)) ≡ answers file N G q n S r (input_row_of file r)
row-answers file N G q n S w b r l h =
    let i = (rows_of file w b r l (T_of h)).1 in
    row-stands file w b r l h (λ x. reply_at N G q n S x) refl
    ∙ ap (reply_by N G q n S) (row-input-is file w r (behaviour_count file) (record { exists = i; enough = omega arith }) {x = input_row_of file r} refl refl).0

-- ---- `replying_at`

nowhere : {p : ℕ × ℕ} {A : Type 0} → None ≡ Some p → A
nowhere e = absurd (let z : ◌≡◌ {A = ℕ} 0 1 = cc in omega arith)

-- Whatever the destination, 15.
refuses : (p : Progress) → on_received p (λ to. not_allowed) ≡ not_allowed
refuses undone = refl
refuses done = refl
refuses waits = refl
refuses (received to) = refl
refuses (taken k) = refl

either-refuses : (file : List ℕ) (N : Network) (G : State) (q n : ℕ) (S : Session) (r o c : ℕ) (x : Bool)
    → on_received (S.progress r) (next file N G q n S r o c x false) ≡ not_allowed
either-refuses file N G q n S r o c true = refuses (S.progress r)
either-refuses file N G q n S r o c false = refuses (S.progress r)

module _ (file s : List ℕ) (slot b q r : ℕ) {t : Bool} (h : HasRow file b r t) where
  abbrev S : Session
  S = read_session s slot

  pub no-row : not t ≡ true → ReplyingAt file s slot b q r None
  no-row y = record {
    tells = λ w l N G n. ap (λ (x : Optional Behaviour). reply_at N G q n S x) (row-absent r (behaviour_of file b) (sym (h.tells w l) ∙ not-true t y));
    exists = λ w l. tt;
    small = λ o c e. nowhere e;
  }

  module _ (y : not t ≡ false) {row : InputRow} (e : row ≡ input_row_of file r) where
    runs : WellFormed file → b < behaviour_count file → has_row r (behaviour_of file b) ≡ true
    runs w l = sym (h.tells w l) ∙ not-false t y

    not-allowed : ((N : Network) (G : State) (n : ℕ) → answers file N G q n S r row ≡ not_allowed) → ReplyingAt file s slot b q r None
    not-allowed g = record {
      tells = λ w l N G n. row-answers file N G q n S w b r l (runs w l) ∙ (ap (answers file N G q n S r) (sym e) ∙ g N G n);
      exists = λ w l. tt;
      small = λ o c e. nowhere e;
    }

    pub no-request : OneOf (0 ∷ 1 ∷ []) (tag_of rows.the_type row) → ReplyingAt file s slot b q r None
    no-request k = not-allowed (λ N G n. other N G n row k)
      where
        other : (N : Network) (G : State) (n : ℕ) (x : InputRow) → OneOf (0 ∷ 1 ∷ []) (tag_of rows.the_type x) → answers file N G q n S r x ≡ not_allowed
        other N G n InputRow.Nothing k = refl
        other N G n (InputRow.OneWay o x) k = refl
        other N G n (InputRow.RequestResponse o x c d) k = absurd (miss (0 ∷ 1 ∷ []) 2 tt k)

    module _ {o x c d : ℕ} (g : row ≡ InputRow.RequestResponse o x c d) {u : Bool} (m : u ≡ is_done S.progress (behaviour_of file d)) where
      requests : (N : Network) (G : State) (n : ℕ) → answers file N G q n S r row
          ≡ on_received (S.progress r) (next file N G q n S r o c u (permits q input true (operation_of file o)))
      requests N G n =
          ap (answers file N G q n S r) g
          ∙ ap (λ (z : Bool). on_received (S.progress r) (next file N G q n S r o c z (permits q input true (operation_of file o)))) (sym m)

      pub not_done : not u ≡ true → ReplyingAt file s slot b q r None
      not_done k =
          not-allowed (λ N G n. requests N G n
          ∙ (ap (λ (z : Bool). on_received (S.progress r) (next file N G q n S r o c z (permits q input true (operation_of file o)))) (not-true u k)
          ∙ refuses (S.progress r)))

      module _ (k : not u ≡ false) {v : Bool} (z : v ≡ permits q (direction_of true) true (operation_of file o)) where
        pub not-permitted : not v ≡ true → ReplyingAt file s slot b q r None
        not-permitted j =
            not-allowed (λ N G n. requests N G n
            ∙ (ap (λ (y : Bool). on_received (S.progress r) (next file N G q n S r o c u y)) (sym z ∙ not-true v j)
            ∙ either-refuses file N G q n S r o c u))

        pub row-replies : not v ≡ false → ReplyingAt file s slot b q r (Some (o, c))
        row-replies j = record {
          tells = λ w l N G n.
              row-answers file N G q n S w b r l (runs w l) ∙ (ap (answers file N G q n S r) (sym e) ∙ (requests N G n
              ∙ (ap (λ (y : Bool). on_received (S.progress r) (next file N G q n S r o c u y)) (sym z ∙ not-false v j)
              ∙ ap (λ (y : Bool). on_received (S.progress r) (next file N G q n S r o c y true)) (not-false u k))));
          exists = λ w l.
              let i = (rows_of file w b r l (T_of (runs w l))).1 in
              let kept = (row-input-is file w r (behaviour_count file) (record { exists = i; enough = omega arith }) e g).1 in
              (kept.0, kept.2, two-way q input (operation_of file o) (sym z ∙ not-false v j));
          small = λ a c f. h.small (not-false t y);
        }

pub ruleset replying-laws = (no-row, no-request, not_done, not-permitted, row-replies)
