-- Local moves of a reached row, at each of the ways out of the code.
use mathlib.Core.Path.{◌≡◌, refl, sym, ap, subst, ◌∙◌}
use mathlib.Core.Bool.{Bool, true, false, not}
use mathlib.Core.List.{List, [], ◌∷◌}
use Prim.Native.Nat.{ℕ, ◌+◌, ◌≤◌, ◌<◌}
use native.Mathlib.Omega.{arith}
use lib.ListN.{length}
use types.Run.{OneOf, miss}
use denote.Enum.Declared.{tag_of}
use Rattle.tree_forest.specs.Forest.{Forest, tree}
use Rattle.tree_forest.specs.Path.{set_payload_at}
use Rattle.wire.specs.Wire.{with_part}
use Rattle.scalar.specs.Value.{Value}
use Rattle.scalar.specs.Scalar.{value_of}
use Rattle.scalar.specs.declared.Operand.{Operand}
use Rattle.network_syntax.specs.Syntax.{Behaviour}
use Rattle.refusal.specs.declared.Refusal.{Refusal}
use Rattle.refusal.specs.declared.Refusal.TheVariants.{MoveNotAllowed, Stuck, OutOfRange}
use Rattle.refusal.specs.declared.Outcome.{Outcome}
use Rattle.refusal.specs.Refusal.{done_with, refused_by}
use Rattle.check_typing.specs.Environment.{within}
use Rattle.tree.specs.Encode.{empty}
use Rattle.tree_forest.specs.Limits.{session_levels, session_nodes}
use Rattle.tree.specs.Encode as encoding
use Rattle.network.specs.Form.{WellFormed}
use Rattle.network.specs.Layout.{path_count, behaviour_count}
use Rattle.network.proofs.RowLaws.{counts-kept}
use Rattle.network.specs.Decode.{path_of, expression_of, behaviour_of, network_of}
use Rattle.basics.specs.TestLaws.{told as held, untold as failed}
use Rattle.network_rows.specs.declared.BehaviourRow.{BehaviourRow}
use Rattle.network_rows.specs.contracts.BehaviourRow as rows
use Rattle.network_rows.specs.Readers.{behaviour_row_of}
use Rattle.network_row_parts.specs.Behaviours.{behaviour_by, KeptBy}
use Rattle.network_row_parts.specs.KindLaws.{row_is}
use Rattle.state.specs.Places.{slot_size, rows_place}
use Rattle.state.specs.Session.{Progress, done, taken, advance, reopen, Session, with_tree, with_progress, live, State, set_slot}
use Rattle.state.specs.Bytes.{rows_bytes, slot_bytes, state_bytes, read_session}
use Rattle.state.specs.Shape.{is_undone, WellMade}
use Rattle.state.proofs.SizeLaws.{made-fits, rows-size}
use Rattle.state.proofs.PartLaws.{replace-within}
use Rattle.state.proofs.ReadLaws.{slot-parts}
use Rattle.state.proofs.ChangeLaws.{change-rows}
use Rattle.state.proofs.KeepLaws.{reopen-past, made-tree, made_row, made-progress}
use Rattle.move_rules.specs.Readiness.{is_done, reach}
use Rattle.move_rules.specs.Evaluation.{leaf, evaluate}
use Rattle.move_rules.specs.Moves.{Result, refused, moved, not_allowed, out_of_range, require, on_evaluation, on_truth, assigned, unassigned, decided, repeated}
use Rattle.move_rules.specs.AssignLaws.{within-payload}
use Rattle.scalar.specs.Value.{void_value}
use Rattle.move_rules.specs.Moves.{local_at, local_reached, local_move}
use Rattle.move_rules.specs.Step.{Step, finish}
use Rattle.state_slots.specs.Slots.{tree_in, tree_stored}
use Rattle.state_slots.specs.SlotLaws.{row-set, tree_set, living-set, set-again, stands_set, living-holds, living-tree}
use Rattle.state_slots.specs.Living.{Living}
use Rattle.move_evaluation.specs.declared.Place.{Place}
use Rattle.move_evaluation.specs.declared.Fault.{Fault}
use Rattle.move_evaluation.specs.declared.Evaluated.{Evaluated}
use Rattle.move_evaluation.specs.Condition.{refusal_of, if_given, condition_of, on_condition}
use Rattle.move_evaluation.specs.ConditionLaws.{on_value, on-condition}
use Rattle.move_evaluation.specs.Evaluated.{Evaluates}
use Rattle.state_reopening.specs.Reopening.{rows_below, with_undone}
use Rattle.state_reopening.specs.ReopeningLaws.{undone-rows}
use Rattle.move_readiness.specs.declared.Reached as coded
use Rattle.move_readiness.specs.Reaching.{reached_as, ReachTells}
use Rattle.move_readiness.specs.ReachedLaws.{reached-row}
use Rattle.state_trees.specs.Changing.{KeptTree, ChangedTo}
use Rattle.move_frame.specs.Made.{StateOf, Made, InSession, Runs, RunsAt}
use Rattle.move_frame.specs.MadeLaws.{in-session, refused-step}
use Rattle.move_local.specs.Local.{ready_while, Decides, SetsRoot, AssignsValue, RefusesValue, MadeBy, RowMade}
use Rattle.move_frame.specs.UndoneLaws.{if-undone}
use Rattle.move_local.proofs.MarkLaws.{if-ready-while}
use Rattle.state_progress.specs.Stored.{row_stored}
use Rattle.std.specs.Prelude.{Option, Some, None, Ok, Err}
use Rattle.std.specs.Prelude as std

-- ---- a condition

pub condition-decides : (file s : List ℕ) (slot e : ℕ) {t : List ℕ} {x : Evaluated} {d : std.Result Bool Fault} → t ≡ tree_in s slot → Evaluates file t e x
    → d ≡ condition_of x → Decides file s slot e d
condition-decides file s slot e {t} {x} {d} q v c = record {
  tells = λ w S h l f.
      on-condition f t x (evaluate S.tree (expression_of file e)) (v.tells S.tree (record { bytes = q ∙ living-tree h; good = h.made.bounded }) w l)
      ∙ ap (λ (z : std.Result Bool Fault). on_condition z f) (sym c);
}

on-fault : (k : Fault) (f : Bool → Result) → on_condition (Err k) f ≡ refused (refusal_of k)
on-fault Fault.Missing f = refl
on-fault Fault.Wrong f = refl
on-fault Fault.Outside f = refl

-- ---- one store after another

pub then-row : (slot r : ℕ) (x : Progress) {s₁ s₂ a : List ℕ} {o : Outcome} → s₁ ≡ a
    → (s₂ ≡ row_stored s₁ slot r x) × (o ≡ done_with 0)
    → (s₂ ≡ row_stored a slot r x) × (o ≡ done_with 0)
then-row slot r x e h = (h.0 ∙ ap (λ (y : List ℕ). row_stored y slot r x) e, h.1)

-- ---- sessions that are changed

advanced : Session → ℕ → Progress → Session
advanced S r x = with_progress S (advance S.progress r x)

advanced-made : (S : Session) (r : ℕ) (x : Progress) → r < 256 → WellMade S → WellMade (advanced S r x)
unfolding advanced
advanced-made S r x l w = made_row w r x l

reopened : Session → Behaviour → Session
reopened S b = with_progress S (reopen S.progress b)

reopened-made : (S : Session) (b : Behaviour) → WellMade S → WellMade (reopened S b)
unfolding reopened
reopened-made S b w = made-progress w (reopen S.progress b) (reopen-past S.progress b w.no_rows_past)

-- The rows of a behaviour, undone again in a live session's slot.
reopen-set : {s : List ℕ} {at : ℕ} {S : Session} → Living s at S → (file : List ℕ) (b : ℕ)
    → with_undone (rows_below file b) at s ≡ with_part s at (slot_bytes (live (reopened S (behaviour_of file b))))
unfolding reopened
reopen-set {s} {at} {S} h file b =
    let p = reopen S.progress (behaviour_of file b) in
    undone-rows (rows_below file b) at S.progress s h.inside (slot-parts S (made-fits h.made) (living-holds h)).rows
    ∙ (sym (replace-within s at slot_size rows_place (rows_bytes p) h.inside (omega (arith, rows-size p)))
    ∙ ap (with_part s at) (ap (λ (t : List ℕ). with_part t rows_place (rows_bytes p)) h.bytes ∙ sym (change-rows S (made-fits h.made) p)))

planted : Session → Forest Value → Session
planted S F = with_tree S F

planted-made : (S : Session) (F : Forest Value) → encoding.WellFormedTree session_levels session_nodes (tree empty F) → WellMade S → WellMade (planted S F)
unfolding planted
planted-made S F g w = made-tree w F g

tree-planted : {s : List ℕ} {at : ℕ} {S : Session} → Living s at S → (F : Forest Value) (o : List ℕ) (n : ℕ) → KeptTree o n F
    → tree_stored s at o n ≡ with_part s at (slot_bytes (live (planted S F)))
unfolding planted
tree-planted h F o n k = tree_set h F o n k.bytes k.size (omega (arith, k.size, k.small))

planted-done : Session → Forest Value → ℕ → Session
planted-done S F r = with_progress (with_tree S F) (advance S.progress r done)

planted-done-made : (S : Session) (F : Forest Value) (r : ℕ) → r < 256 → WellMade (planted S F) → WellMade (planted-done S F r)
unfolding planted planted-done advanced
planted-done-made S F r l w = advanced-made (planted S F) r done l w

planted-again : {s : List ℕ} {at : ℕ} {S : Session} → Living s at S → (F : Forest Value) (r : ℕ) → WellMade (planted S F) → WellMade (planted-done S F r)
    → with_part (with_part s at (slot_bytes (live (planted S F)))) at
    (slot_bytes (live (with_progress (planted S F) (advance (planted S F).progress r done))))
    ≡ with_part s at (slot_bytes (live (planted-done S F r)))
unfolding planted planted-done
planted-again {s} {at} {S} h F r w v = set-again h (planted S F) (live (planted-done S F r)) w v

-- A tree within its limits is saved.
saved : (G : State) (q n : ℕ) (S : Session) (r : ℕ) (F : Forest Value) → within F ≡ true
    → require (within F) Stuck (moved (set_slot G q n (live (with_progress (with_tree S F) (advance S.progress r done)))) [])
    ≡ moved (set_slot G q n (live (planted-done S F r))) []
unfolding planted-done
saved G q n S r F e = ap (λ (b : Bool). require b Stuck (moved (set_slot G q n (live (with_progress (with_tree S F) (advance S.progress r done)))) [])) e

-- A session's tree with the value v set at P row p.
abbrev root_set : List ℕ → ℕ → Operand → Session → Forest Value
root_set file p v S = set_payload_at void_value (path_of file p) (value_of v) S.tree

-- ---- a value outside its width: whether the tree would keep to its limits does not depend on the value

module _ (file s : List ℕ) (slot p : ℕ) (v : Operand) {c : Option ℕ} {o' : List ℕ} (a : SetsRoot file s slot p v o' c) where
  would-be : {y : Option ℕ} → c ≡ y → WellFormed file → {G : State} {q n b : ℕ} (h : InSession file s G q n slot b) → p < path_count file
      → ChangedTo o' y (root_set file p v h.session)
  would-be g w h l = subst (λ (z : Option ℕ). ChangedTo o' z (root_set file p v h.session)) g (a.tells w h.session h.living l)

  unassigned-is : {G : State} {q n b : ℕ} (h : InSession file s G q n slot b) {t : Bool} → within (root_set file p v h.session) ≡ t
      → unassigned G q n h.session (path_of file p) ≡ require t Stuck out_of_range
  unassigned-is h e =
      ap (λ (z : Bool). require z Stuck out_of_range) (within-payload void_value (path_of file p) void_value (value_of v) h.session.tree ∙ e)

  pub outside_kept : {o : Outcome} {m : ℕ} → c ≡ Some m → o ≡ refused_by OutOfRange → RefusesValue file s slot p o
  outside_kept g k = record { tells = λ w G q n b h l out. refused-step k (unassigned-is h (would-be g w h l).fits) }

  pub outside-large : {o : Outcome} → c ≡ None → o ≡ refused_by Stuck → RefusesValue file s slot p o
  outside-large g k = record { tells = λ w G q n b h l out. refused-step k (unassigned-is h (would-be g w h l)) }

pub ruleset outside-laws = (outside_kept, outside-large)

-- ---- a row's move

module _ (file s : List ℕ) (slot r : ℕ) where
  by-refused : (y : BehaviourRow) {o : Outcome} {why : Refusal} → o ≡ refused_by why
      → (WellFormed file → (G : State) (q n b left : ℕ) (h : InSession file s G q n slot b) → KeptBy file left y
      → local_at G q n h.session (behaviour_by file r y) ≡ refused why)
      → MadeBy y file s s slot r o
  by-refused y e k = record { tells = λ w G st q n b left h p out. refused-step e (k w G q n b left h p) }

  -- The state's bytes with another session in the slot.
  step-moved : {s' : List ℕ} {o : Outcome} {G : State} {q n b : ℕ} → StateOf file s G → InSession file s G q n slot b → (S' : Session) (R : Result)
      → o ≡ done_with 0 → s' ≡ with_part s slot (slot_bytes (live S')) → WellMade S' → R ≡ moved (set_slot G q n (live S')) [] → (out : List ℕ)
      → ◌≡◌ {A = Step} (record { outcome = o; state = s'; out = out }) (finish s out R)
  step-moved {s'} {o} {G} {q} {n} st h S' R e k m g out =
      let x = live S' in
      let t : s' ≡ state_bytes (set_slot G q n x) =
      k ∙ (ap (λ (j : ℕ). with_part s j (slot_bytes x)) h.place ∙ stands_set st q n x h.service h.number m) in
      ap (λ (z : Outcome). record { outcome = z; state = s'; out = out }) e
      ∙ (ap (λ (z : List ℕ). record { outcome = done_with 0; state = z; out = out }) t ∙ ap (finish s out) (sym g))

  by-moved : (y : BehaviourRow) {s' : List ℕ} {o : Outcome} → o ≡ done_with 0
      → (WellFormed file → (G : State) (q n b left : ℕ) (h : InSession file s G q n slot b) → KeptBy file left y
      → (S' : Session) × (s' ≡ with_part s slot (slot_bytes (live S'))) × WellMade S'
      × (local_at G q n h.session (behaviour_by file r y) ≡ moved (set_slot G q n (live S')) []))
      → MadeBy y file s s' slot r o
  by-moved y e f = record {
    tells = λ w G st q n b left h p out. let k = f w G q n b left h p in step-moved st h k.0 _ e k.1 k.2 k.3 out;
  }

  -- ---- a value that is assigned

  module _ (p : ℕ) (v : Operand) {c : Option ℕ} {o' : List ℕ} (a : SetsRoot file s slot p v o' c) where
    pub value-large : {o : Outcome} → c ≡ None → o ≡ refused_by Stuck → AssignsValue file s s slot r p v o
    value-large g k = record {
      tells = λ w G st q n b h l out.
          let S = h.session in
          refused-step k (ap (λ (z : Bool). require z Stuck (moved (set_slot G q n (live (with_progress (with_tree S (root_set file p v S)) (advance S.progress r done)))) [])) (would-be file s slot p v a g w h l));
    }

    -- A tree that keeps to its limits has 1,013 bytes at most.
    pub value-long : {o : Outcome} {s' : List ℕ} {m : ℕ} → c ≡ Some m → 1024 < m → AssignsValue file s s' slot r p v o
    value-long g l = record { tells = λ w G st q n b h j out. absurd (omega (arith, l, (would-be file s slot p v a g w h j).small)) }

    pub value-kept : {o : Outcome} {s' : List ℕ} {m : ℕ} → c ≡ Some m → r < 256
        → (s' ≡ row_stored (tree_stored s slot o' m) slot r done) × (o ≡ done_with 0)
        → AssignsValue file s s' slot r p v o
    value-kept {o} {s'} {m} g l k = record {
      tells = λ w G st q n b h j out.
          let S = h.session in
          let F = root_set file p v S in
          let K : KeptTree o' m F = would-be file s slot p v a g w h j in
          let S₁ = planted S F in
          let w₁ = planted-made S F K.made h.living.made in
          step-moved st h (planted-done S F r) _ k.1
          (k.0 ∙ (ap (λ (y : List ℕ). row_stored y slot r done) (tree-planted h.living F o' m K)
          ∙ (row-set (living-set h.living S₁ w₁) r done l ∙ planted-again h.living F r w₁ (planted-done-made S F r l w₁))))
          (planted-done-made S F r l w₁) (saved G q n S r F K.fits) out;
    }

  module _ {x : Bool} (u : x ≡ is_undone ((read_session s slot).progress r)) where
    undone-is : {G : State} {q n b : ℕ} (h : InSession file s G q n slot b) {t : Bool} → is_undone ((read_session s slot).progress r) ≡ t
        → is_undone (h.session.progress r) ≡ t
    undone-is h e = ap (λ (z : Session). is_undone (z.progress r)) (sym h.reads) ∙ e

    -- ---- if

    module _ (e a b : ℕ) where
      pub if-not-ready : {o : Outcome} → not x ≡ true → o ≡ refused_by MoveNotAllowed → MadeBy (BehaviourRow.If e a b) file s s slot r o
      unfolding local_at
      if-not-ready f k = by-refused (BehaviourRow.If e a b) k (λ w G q n _ left h p.
          let S = h.session in
          let next = on_truth (evaluate S.tree (expression_of file e)) (decided G q n S r) in
          if-undone (S.progress r) next ∙ ap (λ (z : Bool). require z MoveNotAllowed next) (undone-is h (failed u f)))

      module _ {d : std.Result Bool Fault} (f : not x ≡ false) (v : Decides file s slot e d) where
        if-decides : WellFormed file → (G : State) (q n c left : ℕ) (h : InSession file s G q n slot c) → KeptBy file left (BehaviourRow.If e a b)
            → local_at G q n h.session (behaviour_by file r (BehaviourRow.If e a b)) ≡ on_condition d (decided G q n h.session r)
        unfolding local_at
        if-decides w G q n c left h p =
            let S = h.session in
            let next = on_truth (evaluate S.tree (expression_of file e)) (decided G q n S r) in
            if-undone (S.progress r) next ∙ (ap (λ (z : Bool). require z MoveNotAllowed next) (undone-is h (held u f))
            ∙ v.tells w S h.living p.0 (decided G q n S r))

        pub if-fault : {o : Outcome} {k : Fault} {v : Refusal} → d ≡ Err k → v ≡ refusal_of k → o ≡ refused_by v → MadeBy (BehaviourRow.If e a b) file s s slot r o
        if-fault {k = k} g u i = by-refused (BehaviourRow.If e a b) (i ∙ ap refused_by u) (λ w G q n c left h p.
            if-decides w G q n c left h p ∙ (ap (λ (z : std.Result Bool Fault). on_condition z (decided G q n h.session r)) g ∙ on-fault k (decided G q n h.session r)))

        pub if-true : {o : Outcome} {s' : List ℕ} → d ≡ Ok true → r < 256
            → (s' ≡ row_stored s slot r (taken 0)) × (o ≡ done_with 0) → MadeBy (BehaviourRow.If e a b) file s s' slot r o
        unfolding advanced
        if-true g l k = by-moved (BehaviourRow.If e a b) k.1 (λ w G q n c left h p.
            let S = h.session in (
              advanced S r (taken 0),
              k.0 ∙ row-set h.living r (taken 0) l,
              advanced-made S r (taken 0) l h.living.made,
              if-decides w G q n c left h p ∙ ap (λ (z : std.Result Bool Fault). on_condition z (decided G q n S r)) g,
            ))

        pub if-false : {o : Outcome} {s' : List ℕ} → d ≡ Ok false → r < 256
            → (s' ≡ row_stored s slot r (taken 1)) × (o ≡ done_with 0) → MadeBy (BehaviourRow.If e a b) file s s' slot r o
        unfolding advanced
        if-false g l k = by-moved (BehaviourRow.If e a b) k.1 (λ w G q n c left h p.
            let S = h.session in (
              advanced S r (taken 1),
              k.0 ∙ row-set h.living r (taken 1) l,
              advanced-made S r (taken 1) l h.living.made,
              if-decides w G q n c left h p ∙ ap (λ (z : std.Result Bool Fault). on_condition z (decided G q n S r)) g,
            ))

    -- ---- assign

    module _ (p e : ℕ) where
      pub assign-not-ready : {o : Outcome} → not x ≡ true → o ≡ refused_by MoveNotAllowed → MadeBy (BehaviourRow.Assign p e) file s s slot r o
      unfolding local_at
      assign-not-ready f k = by-refused (BehaviourRow.Assign p e) k (λ w G q n b left h g.
          let S = h.session in
          let x = path_of file p in
          let next = on_evaluation (evaluate S.tree (expression_of file e)) (λ b. unassigned G q n S x) (assigned G q n S r x) in
          if-undone (S.progress r) next ∙ ap (λ (z : Bool). require z MoveNotAllowed next) (undone-is h (failed u f)))

      module _ {t : List ℕ} {y : Evaluated} (f : not x ≡ false) (g : t ≡ tree_in s slot) (v : Evaluates file t e y) where
        assign-is : WellFormed file → (G : State) (q n b left : ℕ) (h : InSession file s G q n slot b) → KeptBy file left (BehaviourRow.Assign p e)
            → {k : std.Result Place Fault} → y.source ≡ k → local_at G q n h.session (behaviour_by file r (BehaviourRow.Assign p e))
            ≡ if_given k (unassigned G q n h.session (path_of file p)) (assigned G q n h.session r (path_of file p) (leaf (value_of y.root)))
        unfolding local_at
        assign-is w G q n b left h j i =
            let S = h.session in
            let none : Result = unassigned G q n S (path_of file p) in
            let next = on_evaluation (evaluate S.tree (expression_of file e)) (λ b. none) (assigned G q n S r (path_of file p)) in
            let set : Value → Result = λ z. assigned G q n S r (path_of file p) (leaf z) in
            if-undone (S.progress r) next ∙ (ap (λ (z : Bool). require z MoveNotAllowed next) (undone-is h (held u f))
            ∙ (on_value t y (evaluate S.tree (expression_of file e)) (λ b. none) set
            (v.tells S.tree (record { bytes = g ∙ living-tree h.living; good = h.living.made.bounded }) w j.1)
            ∙ ap (λ (z : std.Result Place Fault). if_given z none (set (value_of y.root))) i))

        assign-by : {k : std.Result Place Fault} {s' : List ℕ} {o : Outcome} → y.source ≡ k → ((x z : Result) → if_given k x z ≡ z)
            → AssignsValue file s s' slot r p y.root o → MadeBy (BehaviourRow.Assign p e) file s s' slot r o
        assign-by i j a = record {
          tells = λ w G st q n b left h d out.
              a.tells w G st q n b h d.0 out ∙ ap (finish s out) (sym (assign-is w G q n b left h d i ∙ j _ _));
        }

        pub assign-given : {k : Place} {s' : List ℕ} {o : Outcome} → y.source ≡ Ok k → AssignsValue file s s' slot r p y.root o
            → MadeBy (BehaviourRow.Assign p e) file s s' slot r o
        assign-given i a = assign-by i (λ x z. refl) a

        pub assign-missing : {o : Outcome} → y.source ≡ Err Fault.Missing → o ≡ refused_by Stuck → MadeBy (BehaviourRow.Assign p e) file s s slot r o
        assign-missing i k = by-refused (BehaviourRow.Assign p e) k (λ w G q n b left h j. assign-is w G q n b left h j i)

        pub assign-wrong : {o : Outcome} → y.source ≡ Err Fault.Wrong → o ≡ refused_by Stuck → MadeBy (BehaviourRow.Assign p e) file s s slot r o
        assign-wrong i k = by-refused (BehaviourRow.Assign p e) k (λ w G q n b left h j. assign-is w G q n b left h j i)

        pub assign-outside : {o : Outcome} → y.source ≡ Err Fault.Outside → RefusesValue file s slot p o → MadeBy (BehaviourRow.Assign p e) file s s slot r o
        assign-outside i a = record {
          tells = λ w G st q n b left h d out. a.tells w G q n b h d.0 out ∙ ap (finish s out) (sym (assign-is w G q n b left h d i));
        }

  -- ---- while

  module _ {x : Bool} (e b : ℕ) (u : x ≡ ready_while ((read_session s slot).progress r) (is_done (read_session s slot).progress (behaviour_of file b))) where
    ready-is : {G : State} {q n c : ℕ} (h : InSession file s G q n slot c) {t : Bool}
        → ready_while ((read_session s slot).progress r) (is_done (read_session s slot).progress (behaviour_of file b)) ≡ t
        → ready_while (h.session.progress r) (is_done h.session.progress (behaviour_of file b)) ≡ t
    ready-is h g = ap (λ (z : Session). ready_while (z.progress r) (is_done z.progress (behaviour_of file b))) (sym h.reads) ∙ g

    pub while-not-ready : {o : Outcome} → not x ≡ true → o ≡ refused_by MoveNotAllowed → MadeBy (BehaviourRow.While e b) file s s slot r o
    unfolding local_at
    while-not-ready f k = by-refused (BehaviourRow.While e b) k (λ w G q n _ left h p.
        let S = h.session in
        let next = on_truth (evaluate S.tree (expression_of file e)) (repeated G q n S r (behaviour_of file b)) in
        if-ready-while (S.progress r) (is_done S.progress (behaviour_of file b)) next
        ∙ ap (λ (z : Bool). require z MoveNotAllowed next) (ready-is h (failed u f)))

    module _ {d : std.Result Bool Fault} (f : not x ≡ false) (v : Decides file s slot e d) where
      while-decides : WellFormed file → (G : State) (q n c left : ℕ) (h : InSession file s G q n slot c) → KeptBy file left (BehaviourRow.While e b)
          → local_at G q n h.session (behaviour_by file r (BehaviourRow.While e b)) ≡ on_condition d (repeated G q n h.session r (behaviour_of file b))
      unfolding local_at
      while-decides w G q n c left h p =
          let S = h.session in
          let next = on_truth (evaluate S.tree (expression_of file e)) (repeated G q n S r (behaviour_of file b)) in
          if-ready-while (S.progress r) (is_done S.progress (behaviour_of file b)) next
          ∙ (ap (λ (z : Bool). require z MoveNotAllowed next) (ready-is h (held u f))
          ∙ v.tells w S h.living p.0 (repeated G q n S r (behaviour_of file b)))

      pub while-fault : {o : Outcome} {k : Fault} {v : Refusal} → d ≡ Err k → v ≡ refusal_of k → o ≡ refused_by v → MadeBy (BehaviourRow.While e b) file s s slot r o
      while-fault {k = k} g u i = by-refused (BehaviourRow.While e b) (i ∙ ap refused_by u) (λ w G q n c left h p.
          while-decides w G q n c left h p ∙ (ap (λ (z : std.Result Bool Fault). on_condition z (repeated G q n h.session r (behaviour_of file b))) g ∙ on-fault k (repeated G q n h.session r (behaviour_of file b))))

      pub while-false : {o : Outcome} {s' : List ℕ} → d ≡ Ok false → r < 256
          → (s' ≡ row_stored s slot r done) × (o ≡ done_with 0) → MadeBy (BehaviourRow.While e b) file s s' slot r o
      unfolding advanced
      while-false g l k = by-moved (BehaviourRow.While e b) k.1 (λ w G q n c left h p.
          let S = h.session in (
            advanced S r done,
            k.0 ∙ row-set h.living r done l,
            advanced-made S r done l h.living.made,
            while-decides w G q n c left h p ∙ ap (λ (z : std.Result Bool Fault). on_condition z (repeated G q n S r (behaviour_of file b))) g,
          ))

      pub while-true : {o : Outcome} {s' : List ℕ} → d ≡ Ok true → r < 256
          → (s' ≡ row_stored (with_undone (rows_below file b) slot s) slot r (taken 0)) × (o ≡ done_with 0)
          → MadeBy (BehaviourRow.While e b) file s s' slot r o
      unfolding advanced reopened
      while-true g l k = by-moved (BehaviourRow.While e b) k.1 (λ w G q n c left h p.
          let S = h.session in
          let B = behaviour_of file b in
          let S₁ = reopened S B in
          let w₁ = reopened-made S B h.living.made in
          let w₂ = advanced-made S₁ r (taken 0) l w₁ in (
            advanced S₁ r (taken 0),
            k.0 ∙ (ap (λ (y : List ℕ). row_stored y slot r (taken 0)) (reopen-set h.living file b)
                ∙ (row-set (living-set h.living S₁ w₁) r (taken 0) l ∙ set-again h.living S₁ (live (advanced S₁ r (taken 0))) w₁ w₂)),
            w₂,
            while-decides w G q n c left h p ∙ ap (λ (z : std.Result Bool Fault). on_condition z (repeated G q n S r B)) g,
          ))

pub ruleset if-laws = (if-not-ready, if-fault, if-true, if-false)

pub ruleset assign-laws = (assign-not-ready, assign-given, assign-missing, assign-wrong, assign-outside)

pub ruleset value-laws = (value-large, value-long, value-kept)

pub ruleset while-laws = (while-not-ready, while-fault, while-false, while-true)

-- ---- any row

-- The kinds that are no assign, if or while.
abbrev others : List ℕ
others = 0 ∷ 1 ∷ 2 ∷ 3 ∷ 4 ∷ 7 ∷ 8 ∷ 10 ∷ 11 ∷ 12 ∷ []

other_row : (file : List ℕ) (G : State) (q n : ℕ) (S : Session) (r : ℕ) (y : BehaviourRow) → OneOf others (tag_of rows.the_type y)
    → local_at G q n S (behaviour_by file r y) ≡ not_allowed
unfolding local_at
other_row file G q n S r BehaviourRow.Nil e = refl
other_row file G q n S r (BehaviourRow.OneWay o p) e = refl
other_row file G q n S r (BehaviourRow.RequestResponse o p c d) e = refl
other_row file G q n S r (BehaviourRow.Notification o x) e = refl
other_row file G q n S r (BehaviourRow.SolicitResponse o x p) e = refl
other_row file G q n S r (BehaviourRow.If x a b) e = absurd (miss others 5 tt e)
other_row file G q n S r (BehaviourRow.While x b) e = absurd (miss others 6 tt e)
other_row file G q n S r (BehaviourRow.Sequence a b) e = refl
other_row file G q n S r (BehaviourRow.Parallel a b) e = refl
other_row file G q n S r (BehaviourRow.Assign p x) e = absurd (miss others 9 tt e)
other_row file G q n S r (BehaviourRow.Choice first m) e = refl
other_row file G q n S r (BehaviourRow.Branch a b) e = refl
other_row file G q n S r BehaviourRow.Unknown e = refl

module _ (file s : List ℕ) (slot r : ℕ) {x : BehaviourRow} (e : x ≡ behaviour_row_of file r) where
  pub row_made : (y : BehaviourRow) {s' : List ℕ} {o : Outcome} → x ≡ y → MadeBy y file s s' slot r o → RowMade file s s' slot r o
  row_made y {s'} {o} f m = record {
    tells = λ w G st q n b h l out.
        let k = row_is file w r (behaviour_count file) (record { exists = l; enough = omega (arith, l) }) e f in
        m.tells w G st q n b (behaviour_count file) h k.1 out ∙ ap (λ (B : Behaviour). finish s out (local_at G q n h.session B)) (sym k.0);
  }

  pub row_other : {o : Outcome} → OneOf others (tag_of rows.the_type x) → o ≡ refused_by MoveNotAllowed → RowMade file s s slot r o
  row_other g k = row_made x refl (by-refused file s slot r x k (λ w G q n b left h p. other_row file G q n h.session r x g))

-- ---- the move

-- A row reached as an input of a choice.
abbrev is_offered : coded.Reached → Bool
is_offered coded.Reached.Unreached = false
is_offered (coded.Reached.Reached i) = false
is_offered (coded.Reached.Offered c k i) = true

pub offered-is : {y : coded.Reached} {c k i : ℕ} → y ≡ coded.Reached.Offered c k i → is_offered y ≡ true
offered-is e = ap is_offered e

module _ {file s : List ℕ} {q n : ℕ} {x : Option (ℕ × ℕ)} (a : RunsAt file s q n x) {slot b : ℕ} (e : x ≡ Some (slot, b)) where
  pub slot-starts : slot < 65536
  slot-starts = let l = a.inside slot b e in omega arith

  pub slot-fits : length s ≡ 65536 → slot + slot_size ≤ length s
  slot-fits g = let l = a.inside slot b e in omega arith

module _ (file s : List ℕ) (q n r : ℕ) {x : Option (ℕ × ℕ)} (a : RunsAt file s q n x) where
  pub local-nothing : {o : Outcome} → x ≡ None → o ≡ refused_by MoveNotAllowed → Made file (λ N G. local_move N G q n r) s s o
  local-nothing e k = record {
    tells = λ w G st out.
        let h : Runs file s G q n None = subst (Runs file s G q n) e (a.tells w G st) in
        ap (λ (z : Outcome). record { outcome = z; state = s; out = out }) k
        ∙ ap (finish s out) (sym (h (λ B S. local_reached G q n S (reach S.progress r B))));
  }

  module _ {slot b : ℕ} {y : coded.Reached} (e : x ≡ Some (slot, b)) (c : ReachTells file (read_session s slot).progress r b y) where
    session : WellFormed file → (G : State) → StateOf file s G → InSession file s G q n slot b
    session w G st = subst (Runs file s G q n) e (a.tells w G st)

    reaches : (w : WellFormed file) (G : State) (st : StateOf file s G) {z : coded.Reached} → y ≡ z
        → reached_as file z ≡ reach (session w G st).session.progress r (behaviour_of file b)
    reaches w G st f =
        let h = session w G st in
        ap (reached_as file) (sym f) ∙ (c.tells w h.row ∙ ap (λ (S : Session). reach S.progress r (behaviour_of file b)) h.reads)

    moves-as : (w : WellFormed file) (G : State) (st : StateOf file s G) {z : coded.Reached} → y ≡ z
        → local_move (network_of file) G q n r ≡ local_reached G q n (session w G st).session (reached_as file z)
    moves-as w G st f =
        let h = session w G st in
        in-session h (λ B S. local_reached G q n S (reach S.progress r B)) ∙ ap (local_reached G q n h.session) (sym (reaches w G st f))

    refuses : (z : coded.Reached) {o : Outcome} → y ≡ z → o ≡ refused_by MoveNotAllowed
        → ((G : State) (S : Session) → local_reached G q n S (reached_as file z) ≡ not_allowed) → Made file (λ N G. local_move N G q n r) s s o
    refuses z f k g = record {
      tells = λ w G st out.
          ap (λ (j : Outcome). record { outcome = j; state = s; out = out }) k ∙ ap (finish s out) (sym (moves-as w G st f ∙ g G (session w G st).session));
    }

    pub local-unreached : {o : Outcome} → y ≡ coded.Reached.Unreached → o ≡ refused_by MoveNotAllowed → Made file (λ N G. local_move N G q n r) s s o
    local-unreached f k = refuses coded.Reached.Unreached f k (λ G S. refl)

    pub local-offered : {o : Outcome} → is_offered y ≡ true → o ≡ refused_by MoveNotAllowed → Made file (λ N G. local_move N G q n r) s s o
    local-offered f m = refuses y refl m (λ G S. by G S y f)
      where
        by : (G : State) (S : Session) (z : coded.Reached) → is_offered z ≡ true → local_reached G q n S (reached_as file z) ≡ not_allowed
        by G S coded.Reached.Unreached g = refl
        by G S (coded.Reached.Reached i) g = absurd (let z : ◌≡◌ {A = ℕ} 0 1 = cc in omega arith)
        by G S (coded.Reached.Offered c k i) g = refl

    exists : (w : WellFormed file) (G : State) (st : StateOf file s G) {i : ℕ} → y ≡ coded.Reached.Reached i → i < behaviour_count file
    exists w G st {i} f = reached-row file w (session w G st).session.progress b r i (session w G st).row (reaches w G st f)

    pub local-far : {s' : List ℕ} {o : Outcome} {i : ℕ} → y ≡ coded.Reached.Reached i → 256 ≤ i → Made file (λ N G. local_move N G q n r) s s' o
    local-far f l = record { tells = λ w G st out. absurd (omega (arith, l, exists w G st f, (counts-kept file w).behaviours)) }

    pub local-made : {s' : List ℕ} {o : Outcome} {i : ℕ} → y ≡ coded.Reached.Reached i → RowMade file s s' slot i o
        → Made file (λ N G. local_move N G q n r) s s' o
    local-made f m = record {
      tells = λ w G st out. m.tells w G st q n b (session w G st) (exists w G st f) out ∙ ap (finish s out) (sym (moves-as w G st f));
    }
