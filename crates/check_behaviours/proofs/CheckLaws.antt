-- Laws of the checker on rows: one for each way out of the functions.
use Prim.Native.Nat.{ℕ, zero, suc, ◌+◌, ◌-◌, ◌<◌, ◌≤◌}
use mathlib.Core.Path.{◌≡◌, refl, sym, ◌∙◌, ap, subst}
use mathlib.Core.List.{List}
use mathlib.Core.Bool.{Bool, true, false, not, ◌&&◌}
use native.Mathlib.Omega.{arith}
use lib.Dec.{eqb}
use borrow.Author.Tests.{eq-eqb, ne_eqb}
use Rattle.refusal.specs.declared.Refusal.{Refusal}
use Rattle.refusal.specs.declared.Refusal.TheVariants.{WrongOperation, OperandType, TypeMisfit, EnvironmentsDiffer, SharedRoot}
use Rattle.scalar.specs.Basic.{bool, last_basic}
use Rattle.basics.specs.Choice.{pick}
use Rattle.basics.specs.TestLaws.{not-false, not-true, one_less}
use Rattle.network_syntax.specs.Syntax.{Types, MessageType, input, output, Behaviour, nil, sequence, parallel, choice}
use Rattle.check_expressions.proofs.TypingsLaws.{refused-first}
use Rattle.check_subtyping.specs.Subtype.{root_basic, is_subtype}
use Rattle.check_typing.specs.Result.{Attempt, yields, demand, and_then, Checked, refused, passed, with_row, next}
use Rattle.check_typing.specs.Environment.{basic_leaf, place, assign_to}
use Rattle.check_typing.specs.ExpressionTyping as typed
use Rattle.check_typing.specs.Occurs.{no_shared_root}
use Rattle.check_typing.specs.Rules.{permits}
use Rattle.check_typing.specs.Checker.{same_types, limited, sends, answers, condition, check}
use Rattle.check_typing.proofs.BranchesLaws.{first-branch, next-branch, last-branch}
use Rattle.network.specs.Form.{WellFormed}
use Rattle.network.specs.Layout.{path_count, type_count, expression_count, behaviour_count, operation_count, behaviour_at}
use Rattle.network.specs.Rows.{field_a, field_b, request_type, reply_type}
use Rattle.network.proofs.RowLaws.{operation-kept, next-at}
use Rattle.network.specs.Decode.{path_of, type_of, expression_of, operation_of, branches_from, behaviour_of}
use Rattle.network.proofs.DecodeLaws.{reply-row}
use Rattle.network_rows.specs.declared.BehaviourRow.{BehaviourRow}
use Rattle.network_rows.specs.declared.BranchRow.{BranchRow}
use Rattle.network_rows.specs.Readers.{behaviour_row_of, BranchAt}
use Rattle.check_types.specs.Tells.{BasicUnder}
use Rattle.check_environments.specs.declared.Environment.{Environment}
use Rattle.check_environments.specs.Environment.{EnvironmentFor, step_of, StepAnswers}
use Rattle.check_environments.specs.EnvironmentLaws.{answers-as, answers-done, answers-refused, answers-refuse, answers-pass}
use Rattle.check_environments.specs.Tells.{Places, Assigns, Asks, ReadAt, TypeUnder, SameEnvironments}
use Rattle.check_expressions.specs.declared.Typed.{Typed}
use Rattle.check_expressions.specs.Typings.{TypedAs, TypingTells}
use Rattle.check_expressions.proofs.SmallLaws.{small-typing}
use Rattle.check_roots.specs.Sets.{SetsApart, Separates}
use Rattle.check_operations.specs.Directions.{direction_of}
use Rattle.check_operations.specs.PermitsLaws.{two-way}
use Rattle.network_row_parts.specs.Behaviours.{behaviour_by, Sub, BranchSubs}
use Rattle.check_behaviours.specs.Checks.{SendsType, SendChecks, Receives, condition_step, Conditions, BranchesAgree, LeafChecks, RowChecks, ParallelChecks, Checks, Sequences, Settles, go_on, ChecksBranches}
use Rattle.network_row_parts.specs.KindLaws.{row_is}
use Rattle.std.specs.Prelude.{Result, Ok, Err}

-- ---- steps one after another

next-refused : {s : Result Environment Refusal} {x : Checked Types} {why : Refusal} (f : Types → Checked Types) → StepAnswers s x → s ≡ Err why → StepAnswers (Err why) (next x f)
unfolding next
next-refused {s} {x} {why} f a v =
    let r = answers-refused a why v in
    answers-as (ap (λ (y : Checked Types). next y f) (sym r.0)) (answers-refuse why (sym v ∙ r.1))

next-done : {s t : Result Environment Refusal} {x : Checked Types} {ds : Environment} (f : Types → Checked Types) → StepAnswers s x → s ≡ Ok ds
    → ((Γ : Types) → EnvironmentFor ds Γ → x ≡ passed Γ → StepAnswers t (f Γ)) → StepAnswers t (next x f)
unfolding next
next-done f a v k =
    let r = answers-done a v in
    answers-as (ap (λ (y : Checked Types). next y f) (sym r.1)) (k r.0 r.2 r.1)

refuses : (why : Refusal) → StepAnswers (Err why) (refused why)
unfolding step_of
refuses why = answers-refuse why refl

-- ---- refusal 6

required : (r : ℕ) (t : Bool) (why : ℕ → Refusal) (x : Attempt Types) (Γ : Types) → with_row r (demand t why x) ≡ passed Γ → t ≡ true
required r true why x Γ e = refl
required r false why x Γ e = absurd (let z : ◌≡◌ {A = ℕ} 0 1 = cc in omega arith)

request-row : (s : List ℕ) → WellFormed s → (o : ℕ) → o < operation_count s
    → ((operation_of s o).request ≡ type_of s (request_type s o)) × (request_type s o < type_count s)
unfolding operation_of
request-row s w o l = (refl, (operation-kept s w o l).request.exists)

-- ---- an expression sent

module _ (file : List ℕ) (r x t : ℕ) (e : Environment) {ty : Result Typed Refusal} (h : TypingTells file e x r ty) where
  sent : {s : Result Environment Refusal} → ((Γ : Types) → EnvironmentFor e Γ → WellFormed file → t < type_count file → TypedAs e r ty (typed.expression_type Γ (expression_of file x))
      → StepAnswers s (with_row r (sends Γ (expression_of file x) (type_of file t)))) → SendsType file r x t e s
  sent k = record { tells = λ Γ g w l m. k Γ g w m (h.tells Γ g w l) }

  at-sends : (Γ : Types) {at b : ℕ} {u : Bool} → TypeUnder file e at t u → WellFormed file → t < type_count file
      → ReadAt e at b (typed.expression_type Γ (expression_of file x)) → sends Γ (expression_of file x) (type_of file t) ≡ demand u TypeMisfit (yields Γ)
  at-sends Γ {at} {b} {u} k w m a =
      ap (λ (y : Attempt MessageType). and_then y (λ n. demand (is_subtype n (type_of file t)) TypeMisfit (yields Γ))) a.is
      ∙ ap (λ (y : Bool). demand y TypeMisfit (yields Γ)) (sym (k.tells a.there a.spot w m))

  pub sent-at : {at b : ℕ} {u : Bool} → ty ≡ Ok (Typed.At at b) → TypeUnder file e at t u → u ≡ true → SendsType file r x t e (Ok e)
  sent-at {at} {b} {u} p k q = sent (λ Γ g w m a.
      answers-as (sym (ap (with_row r) (at-sends Γ k w m (subst (λ (y : Result Typed Refusal). TypedAs e r y (typed.expression_type Γ (expression_of file x))) p a)
      ∙ ap (λ (y : Bool). demand y TypeMisfit (yields Γ)) q))) (answers-pass g))

  pub sent-at-not : {at b : ℕ} {u : Bool} → ty ≡ Ok (Typed.At at b) → TypeUnder file e at t u → u ≡ false → SendsType file r x t e (Err (TypeMisfit r))
  sent-at-not {at} {b} {u} p k q = sent (λ Γ g w m a.
      answers-as (sym (ap (with_row r) (at-sends Γ k w m (subst (λ (y : Result Typed Refusal). TypedAs e r y (typed.expression_type Γ (expression_of file x))) p a)
      ∙ ap (λ (y : Bool). demand y TypeMisfit (yields Γ)) q))) (refuses (TypeMisfit r)))

  leaf-sends : (Γ : Types) {b : ℕ} {u : Bool} → BasicUnder file b t u → WellFormed file → t < type_count file
      → typed.expression_type Γ (expression_of file x) ≡ yields (basic_leaf b) → sends Γ (expression_of file x) (type_of file t) ≡ demand u TypeMisfit (yields Γ)
  leaf-sends Γ {b} {u} k w m a =
      ap (λ (y : Attempt MessageType). and_then y (λ n. demand (is_subtype n (type_of file t)) TypeMisfit (yields Γ))) a
      ∙ ap (λ (y : Bool). demand y TypeMisfit (yields Γ)) (sym (k.tells w m))

  pub sent-leaf : {b : ℕ} {u : Bool} → ty ≡ Ok (Typed.Leaf b) → BasicUnder file b t u → u ≡ true → SendsType file r x t e (Ok e)
  sent-leaf {b} {u} p k q = sent (λ Γ g w m a.
      answers-as (sym (ap (with_row r) (leaf-sends Γ k w m (subst (λ (y : Result Typed Refusal). TypedAs e r y (typed.expression_type Γ (expression_of file x))) p a)
      ∙ ap (λ (y : Bool). demand y TypeMisfit (yields Γ)) q))) (answers-pass g))

  pub sent-leaf-not : {b : ℕ} {u : Bool} → ty ≡ Ok (Typed.Leaf b) → BasicUnder file b t u → u ≡ false → SendsType file r x t e (Err (TypeMisfit r))
  sent-leaf-not {b} {u} p k q = sent (λ Γ g w m a.
      answers-as (sym (ap (with_row r) (leaf-sends Γ k w m (subst (λ (y : Result Typed Refusal). TypedAs e r y (typed.expression_type Γ (expression_of file x))) p a)
      ∙ ap (λ (y : Bool). demand y TypeMisfit (yields Γ)) q))) (refuses (TypeMisfit r)))

  pub sent-refused : {why : Refusal} → ty ≡ Err why → SendsType file r x t e (Err why)
  sent-refused {why} p = sent (λ Γ g w m a. answers-as (sym (refused-first r (typed.expression_type Γ (expression_of file x)) (λ n. demand (is_subtype n (type_of file t)) TypeMisfit (yields Γ))
      (subst (λ (y : Result Typed Refusal). TypedAs e r y (typed.expression_type Γ (expression_of file x))) p a))) (refuses why))

  -- ---- a condition

  condition-basic : (Γ : Types) (n : MessageType) {b : ℕ} {s : Result Environment Refusal} → EnvironmentFor e Γ → typed.expression_type Γ (expression_of file x) ≡ yields n → b ≡ root_basic n
      → s ≡ condition_step r b e → StepAnswers s (with_row r (condition Γ (expression_of file x)))
  condition-basic Γ n {b} {s} g a p z =
      answers-as (sym (ap (λ (y : Attempt MessageType). with_row r (and_then y (λ m. demand (eqb (root_basic m) bool) OperandType (yields Γ)))) a))
      (subst (λ (y : Result Environment Refusal). StepAnswers y (with_row r (demand (eqb (root_basic n) bool) OperandType (yields Γ)))) (sym (z ∙ ap (λ (y : ℕ). condition_step r y e) p))
      (go (eqb (root_basic n) bool)))
    where
      go : (y : Bool) → StepAnswers (pick y (Ok e) (Err (OperandType r))) (with_row r (demand y OperandType (yields Γ)))
      go true = answers-pass g
      go false = refuses (OperandType r)

  pub condition-at : {at b : ℕ} {s : Result Environment Refusal} → ty ≡ Ok (Typed.At at b) → s ≡ condition_step r b e → Conditions file r x e s
  condition-at p z = record {
    tells = λ Γ g w l.
        let a = subst (λ (y : Result Typed Refusal). TypedAs e r y (typed.expression_type Γ (expression_of file x))) p (h.tells Γ g w l) in
        condition-basic Γ a.there g a.is a.basic z;
  }

  pub condition-leaf : {b : ℕ} {s : Result Environment Refusal} → ty ≡ Ok (Typed.Leaf b) → s ≡ condition_step r b e → Conditions file r x e s
  condition-leaf {b} p z = record {
    tells = λ Γ g w l.
        condition-basic Γ (basic_leaf b) g (subst (λ (y : Result Typed Refusal). TypedAs e r y (typed.expression_type Γ (expression_of file x))) p (h.tells Γ g w l)) refl z;
  }

  pub condition-refused : {why : Refusal} → ty ≡ Err why → Conditions file r x e (Err why)
  condition-refused {why} p = record {
    tells = λ Γ g w l. answers-as (sym (refused-first r (typed.expression_type Γ (expression_of file x)) (λ m. demand (eqb (root_basic m) bool) OperandType (yields Γ))
        (subst (λ (y : Result Typed Refusal). TypedAs e r y (typed.expression_type Γ (expression_of file x))) p (h.tells Γ g w l)))) (refuses why);
  }

pub ruleset send-type-laws = (sent-at, sent-at-not, sent-leaf, sent-leaf-not, sent-refused)

pub ruleset condition-laws = (condition-at, condition-leaf, condition-refused)

pub bool_is : (r b : ℕ) (e : Environment) → b ≡ bool → Ok e ≡ condition_step r b e
bool_is r b e p = rw (eq-eqb b bool p) refl

pub bool-not : (r b : ℕ) (e : Environment) → (b ≡ bool → ⊥) → Err (OperandType r) ≡ condition_step r b e
bool-not r b e p = rw (ne_eqb b bool p) refl

pub ruleset bool-laws = (bool_is, bool-not)

-- ---- assigning

module _ (file : List ℕ) (q r p x : ℕ) (e : Environment) {ty : Result Typed Refusal} (h : TypingTells file e x r ty) where
  assigned-basic : (Γ : Types) (n : MessageType) {b : ℕ} {s : Result Environment Refusal} → EnvironmentFor e Γ → WellFormed file → p < path_count file → x < expression_count file
      → typed.expression_type Γ (expression_of file x) ≡ yields n → b ≡ root_basic n → Assigns file e p b r s → StepAnswers s (check q (behaviour_by file r (BehaviourRow.Assign p x)) Γ)
  unfolding check
  assigned-basic Γ n {b} {s} g w l m a z k =
      let y : b ≤ last_basic = subst (λ (i : ℕ). i ≤ last_basic) (sym z) (small-typing file w Γ g.shape.ranged x m n a) in
      answers-as (ap (λ (i : ℕ). with_row r (limited (assign_to (path_of file p) i Γ))) z
      ∙ sym (ap (λ (f : Attempt MessageType). with_row r (and_then f (λ i. limited (assign_to (path_of file p) (root_basic i) Γ)))) a)) (k.tells Γ g w l y)

  pub assigned-at : {at b : ℕ} {s : Result Environment Refusal} → ty ≡ Ok (Typed.At at b) → Assigns file e p b r s → LeafChecks file q r (BehaviourRow.Assign p x) e s
  assigned-at z k = record {
    tells = λ left Γ g w l.
        let a = subst (λ (y : Result Typed Refusal). TypedAs e r y (typed.expression_type Γ (expression_of file x))) z (h.tells Γ g w l.1) in
        assigned-basic Γ a.there g w l.0 l.1 a.is a.basic k;
  }

  pub assigned-leaf : {b : ℕ} {s : Result Environment Refusal} → ty ≡ Ok (Typed.Leaf b) → Assigns file e p b r s → LeafChecks file q r (BehaviourRow.Assign p x) e s
  assigned-leaf {b} z k = record {
    tells = λ left Γ g w l.
        assigned-basic Γ (basic_leaf b) g w l.0 l.1 (subst (λ (y : Result Typed Refusal). TypedAs e r y (typed.expression_type Γ (expression_of file x))) z (h.tells Γ g w l.1)) refl k;
  }

  pub assigned-refused : {why : Refusal} → ty ≡ Err why → LeafChecks file q r (BehaviourRow.Assign p x) e (Err why)
  unfolding check
  assigned-refused {why} z = record {
    tells = λ left Γ g w l. answers-as (sym (refused-first r (typed.expression_type Γ (expression_of file x)) (λ i. limited (assign_to (path_of file p) (root_basic i) Γ))
        (subst (λ (y : Result Typed Refusal). TypedAs e r y (typed.expression_type Γ (expression_of file x))) z (h.tells Γ g w l.1)))) (refuses why);
  }

pub ruleset assign-laws = (assigned-at, assigned-leaf, assigned-refused)

-- ---- sending and receiving

require-not : {A : Type 0} (t : Bool) (why : ℕ → Refusal) (x : Attempt A) (r : ℕ) → t ≡ false → refused (why r) ≡ with_row r (demand t why x)
require-not t why x r e = sym (ap (λ (y : Bool). with_row r (demand y why x)) e)

require-met : {A : Type 0} (t : Bool) (why : ℕ → Refusal) (x : Attempt A) (r : ℕ) → t ≡ true → with_row r x ≡ with_row r (demand t why x)
require-met t why x r e = sym (ap (λ (y : Bool). with_row r (demand y why x)) e)

pub sends-not : (file : List ℕ) (q r o x : ℕ) (two : Bool) (e : Environment) {t : Bool} → t ≡ permits q (direction_of false) two (operation_of file o) → not t ≡ true → SendChecks file q r o x two e (Err (WrongOperation r))
sends-not file q r o x two e {t} p n = record {
  tells = λ Γ g w l m.
      answers-as (require-not (permits q output two (operation_of file o)) WrongOperation (sends Γ (expression_of file x) (operation_of file o).request) r (sym p ∙ not-true t n)) (refuses (WrongOperation r));
}

pub sends-then : (file : List ℕ) (q r o x : ℕ) (two : Bool) (e : Environment) {t : Bool} {u : ℕ} {s : Result Environment Refusal} → t ≡ permits q (direction_of false) two (operation_of file o)
    → not t ≡ false → u ≡ request_type file o → SendsType file r x u e s → SendChecks file q r o x two e s
sends-then file q r o x two e {t} {u} {s} p n v k = record {
  tells = λ Γ g w l m.
      let d = request-row file w o l in
      answers-as (ap (λ (y : MessageType). with_row r (sends Γ (expression_of file x) y)) (sym d.0) ∙ require-met (permits q output two (operation_of file o)) WrongOperation (sends Γ (expression_of file x) (operation_of file o).request) r (sym p ∙ not-false t n))
      ((subst (λ (y : ℕ). SendsType file r x y e s) v k).tells Γ g w m d.1);
}

pub receives-not : (file : List ℕ) (q r o x : ℕ) (two : Bool) (e : Environment) {t : Bool} → t ≡ permits q (direction_of true) two (operation_of file o) → not t ≡ true → Receives file q r o x two e (Err (WrongOperation r))
receives-not file q r o x two e {t} p n = record {
  tells = λ Γ g w l m.
      answers-as (require-not (permits q input two (operation_of file o)) WrongOperation (limited (place (path_of file x) (operation_of file o).request Γ)) r (sym p ∙ not-true t n)) (refuses (WrongOperation r));
}

pub receives-then : (file : List ℕ) (q r o p : ℕ) (two : Bool) (e : Environment) {t : Bool} {u : ℕ} {s : Result Environment Refusal} → t ≡ permits q (direction_of true) two (operation_of file o)
    → not t ≡ false → u ≡ request_type file o → Places file e p u r s → Receives file q r o p two e s
receives-then file q r o p two e {t} {u} {s} h n v k = record {
  tells = λ Γ g w l m.
      let d = request-row file w o l in
      answers-as (ap (λ (y : MessageType). with_row r (limited (place (path_of file p) y Γ))) (sym d.0) ∙ require-met (permits q input two (operation_of file o)) WrongOperation (limited (place (path_of file p) (operation_of file o).request Γ)) r (sym h ∙ not-false t n))
      ((subst (λ (y : ℕ). Places file e p y r s) v k).tells Γ g w m d.1);
}

pub ruleset operation-laws = (sends-not, sends-then, receives-not, receives-then)

pub one-way-checks : (file : List ℕ) (q r o p : ℕ) (e : Environment) {s : Result Environment Refusal} → Receives file q r o p false e s → LeafChecks file q r (BehaviourRow.OneWay o p) e s
unfolding check
one-way-checks file q r o p e k = record { tells = λ left Γ g w l. k.tells Γ g w l.0 l.1 }

pub notification-checks : (file : List ℕ) (q r o x : ℕ) (e : Environment) {s : Result Environment Refusal} → SendChecks file q r o x false e s → LeafChecks file q r (BehaviourRow.Notification o x) e s
unfolding check
notification-checks file q r o x e k = record { tells = λ left Γ g w l. k.tells Γ g w l.0 l.1 }

pub solicit-refused : (file : List ℕ) (q r o x p : ℕ) (e : Environment) {s : Result Environment Refusal} {why : Refusal} → SendChecks file q r o x true e s → s ≡ Err why
    → LeafChecks file q r (BehaviourRow.SolicitResponse o x p) e (Err why)
unfolding check
solicit-refused file q r o x p e k v = record { tells = λ left Γ g w l. next-refused _ (k.tells Γ g w l.0 l.1) v }

pub solicit-done : (file : List ℕ) (q r o x p : ℕ) (e : Environment) {s t : Result Environment Refusal} {u : ℕ} {ds : Environment} → SendChecks file q r o x true e s → s ≡ Ok ds → u ≡ reply_type file o
    → Places file e p u r t → LeafChecks file q r (BehaviourRow.SolicitResponse o x p) e t
unfolding check
solicit-done file q r o x p e {s} {t} {u} k v z m = record {
  tells = λ left Γ g w l.
      next-done _ (k.tells Γ g w l.0 l.1) v (λ Δ d i.
      let y = reply-row file w o l.0 (two-way q output (operation_of file o)
      (required r (permits q output true (operation_of file o)) WrongOperation (sends Γ (expression_of file x) (operation_of file o).request) Δ i)) in
      answers-as (ap (λ (n : MessageType). with_row r (limited (place (path_of file p) n Γ))) (sym y.0))
      ((subst (λ (n : ℕ). Places file e p n r t) z m).tells Γ g w l.2 y.1));
}

pub ruleset leaf-laws = (one-way-checks, notification-checks, solicit-refused, solicit-done)

-- ---- agreeing

pub agrees-same : (r : ℕ) (x d : Environment) {t : Bool} → SameEnvironments x d t → t ≡ true → BranchesAgree r x d (Ok d)
agrees-same r x d k e = record { tells = λ Θ Δ g h. answers-as (require-met (same_types Θ Δ) EnvironmentsDiffer (yields Δ) r (sym (k.tells Θ Δ g h) ∙ e)) (answers-pass h) }

pub agrees-not : (r : ℕ) (x d : Environment) {t : Bool} → SameEnvironments x d t → t ≡ false → BranchesAgree r x d (Err (EnvironmentsDiffer r))
agrees-not r x d k e = record { tells = λ Θ Δ g h. answers-as (require-not (same_types Θ Δ) EnvironmentsDiffer (yields Δ) r (sym (k.tells Θ Δ g h) ∙ e)) (refuses (EnvironmentsDiffer r)) }

pub ruleset agree-laws = (agrees-same, agrees-not)

pub settles-same : (c : ℕ) (d : Environment) {t : Bool} → t ≡ true → Settles c d t (Ok d)
settles-same c d {t} e = record { tells = λ Δ h. answers-as (require-met t EnvironmentsDiffer (yields Δ) c e) (answers-pass h) }

pub settles-not : (c : ℕ) (d : Environment) {t : Bool} → t ≡ false → Settles c d t (Err (EnvironmentsDiffer c))
settles-not c d {t} e = record { tells = λ Δ h. answers-as (require-not t EnvironmentsDiffer (yields Δ) c e) (refuses (EnvironmentsDiffer c)) }

pub ruleset settle-laws = (settles-same, settles-not)

-- ---- sub-behaviours

pub sequence-refused : (file : List ℕ) (q a b left : ℕ) (e : Environment) {s : Result Environment Refusal} {why : Refusal} → Checks file q a left e s → s ≡ Err why
    → Sequences file q a b left e (Err why)
unfolding check
sequence-refused file q a b left e k v = record { tells = λ i Γ g w l m. next-refused _ (k.tells Γ g w l) v }

pub sequence-done : (file : List ℕ) (q a b left : ℕ) (e : Environment) {s t : Result Environment Refusal} {ds : Environment} → Checks file q a left e s → s ≡ Ok ds
    → Checks file q b left ds t → Sequences file q a b left e t
unfolding check
sequence-done file q a b left e k v n = record { tells = λ i Γ g w l m. next-done _ (k.tells Γ g w l) v (λ Δ d y. n.tells Δ d w m) }

module _ (file sets : List ℕ) (q r a b left : ℕ) (e : Environment) {t : Bool} (h : Separates file sets) (k : SetsApart sets a b t) where
  told-apart : WellFormed file → r < behaviour_count file → behaviour_row_of file r ≡ BehaviourRow.Parallel a b → t ≡ no_shared_root (behaviour_of file a) (behaviour_of file b)
  told-apart w l p = h.tells w r a b t l p k

  after_test : (Γ : Types) {x : Bool} → x ≡ no_shared_root (behaviour_of file a) (behaviour_of file b)
      → next (with_row r (demand x SharedRoot (yields Γ))) (λ Γ0. next (check q (behaviour_of file a) Γ) (λ Γ1. check q (behaviour_of file b) Γ1))
      ≡ check q (parallel r (behaviour_of file a) (behaviour_of file b)) Γ
  unfolding check
  after_test Γ p =
      ap (λ (y : Bool). next (with_row r (demand y SharedRoot (yields Γ))) (λ Γ0. next (check q (behaviour_of file a) Γ) (λ Γ1. check q (behaviour_of file b) Γ1))) p

  pub parallel-not : not t ≡ true → ParallelChecks file q r a b left e (Err (SharedRoot r))
  unfolding next
  parallel-not n = record {
    tells = λ Γ g w l p m o. answers-as (after_test Γ (sym (not-true t n) ∙ told-apart w l p)) (refuses (SharedRoot r));
  }

  pub parallel-done : {s : Result Environment Refusal} → not t ≡ false → Sequences file q a b left e s → ParallelChecks file q r a b left e s
  unfolding next check
  parallel-done n k = record {
    tells = λ Γ g w l p m o. answers-as (after_test Γ (sym (not-false t n) ∙ told-apart w l p)) (k.tells r Γ g w m o);
  }

pub response-refused : (file : List ℕ) (q r o p i d left : ℕ) (e : Environment) {s : Result Environment Refusal} {why : Refusal} → Receives file q r o p true e s → s ≡ Err why
    → RowChecks file q r (BehaviourRow.RequestResponse o p i d) left e (Err why)
unfolding check
response-refused file q r o p i d left e k v = record { tells = λ Γ g w l. next-refused _ (k.tells Γ g w l.0 l.1) v }

pub response-body : (file : List ℕ) (q r o p i d left : ℕ) (e : Environment) {s t : Result Environment Refusal} {why : Refusal} {ds : Environment} → Receives file q r o p true e s → s ≡ Ok ds
    → Checks file q d left ds t → t ≡ Err why → RowChecks file q r (BehaviourRow.RequestResponse o p i d) left e (Err why)
unfolding check
response-body file q r o p i d left e k v n u = record {
  tells = λ Γ g w l.
      next-done _ (k.tells Γ g w l.0 l.1) v (λ Δ y z. next-refused _ (n.tells Δ y w l.3) u);
}

pub response-done : (file : List ℕ) (q r o p i d left : ℕ) (e : Environment) {s t f : Result Environment Refusal} {u : ℕ} {ds dt : Environment} → Receives file q r o p true e s → s ≡ Ok ds
    → Checks file q d left ds t → t ≡ Ok dt → u ≡ reply_type file o → Asks file dt i u r f
    → RowChecks file q r (BehaviourRow.RequestResponse o p i d) left e f
unfolding check
response-done file q r o p i d left e {s} {t} {f} {u} {ds} {dt} k v n x m a = record {
  tells = λ Γ g w l.
      next-done _ (k.tells Γ g w l.0 l.1) v (λ Δ y z. next-done _ (n.tells Δ y w l.3) x (λ Θ b j.
      let h = reply-row file w o l.0 (two-way q input (operation_of file o)
      (required r (permits q input true (operation_of file o)) WrongOperation (limited (place (path_of file p) (operation_of file o).request Γ)) Δ z)) in
      answers-as (ap (λ (n : MessageType). with_row r (answers (path_of file i) Θ n)) (sym h.0))
      ((subst (λ (n : ℕ). Asks file dt i n r f) m a).tells Θ b w l.2 h.1)));
}

pub if-refused : (file : List ℕ) (q r x a b left : ℕ) (e : Environment) {s : Result Environment Refusal} {why : Refusal} → Conditions file r x e s → s ≡ Err why
    → RowChecks file q r (BehaviourRow.If x a b) left e (Err why)
unfolding check
if-refused file q r x a b left e k v = record { tells = λ Γ g w l. next-refused _ (k.tells Γ g w l.0) v }

pub if-then : (file : List ℕ) (q r x a b left : ℕ) (e : Environment) {s t : Result Environment Refusal} {why : Refusal} {ds : Environment} → Conditions file r x e s → s ≡ Ok ds
    → Checks file q a left e t → t ≡ Err why → RowChecks file q r (BehaviourRow.If x a b) left e (Err why)
unfolding check
if-then file q r x a b left e k v n u = record {
  tells = λ Γ g w l.
      next-done _ (k.tells Γ g w l.0) v (λ Δ y z. next-refused _ (n.tells Γ g w l.1) u);
}

pub if-else : (file : List ℕ) (q r x a b left : ℕ) (e : Environment) {s t f : Result Environment Refusal} {why : Refusal} {ds dt : Environment} → Conditions file r x e s → s ≡ Ok ds
    → Checks file q a left e t → t ≡ Ok dt → Checks file q b left e f → f ≡ Err why → RowChecks file q r (BehaviourRow.If x a b) left e (Err why)
unfolding check
if-else file q r x a b left e k v n u m o = record {
  tells = λ Γ g w l.
      next-done _ (k.tells Γ g w l.0) v (λ Δ y z. next-done _ (n.tells Γ g w l.1) u (λ Θ i j. next-refused _ (m.tells Γ g w l.2) o));
}

pub if-done : (file : List ℕ) (q r x a b left : ℕ) (e : Environment) {s t f h : Result Environment Refusal} {ds dt df : Environment} → Conditions file r x e s → s ≡ Ok ds
    → Checks file q a left e t → t ≡ Ok dt → Checks file q b left e f → f ≡ Ok df → BranchesAgree r df dt h
    → RowChecks file q r (BehaviourRow.If x a b) left e h
unfolding check
if-done file q r x a b left e k v n u m o d = record {
  tells = λ Γ g w l.
      next-done _ (k.tells Γ g w l.0) v (λ Δ y z. next-done _ (n.tells Γ g w l.1) u (λ Θ i j.
      next-done _ (m.tells Γ g w l.2) o (λ Ψ p z. d.tells Ψ Θ p i)));
}

pub while-refused : (file : List ℕ) (q r x b left : ℕ) (e : Environment) {s : Result Environment Refusal} {why : Refusal} → Conditions file r x e s → s ≡ Err why
    → RowChecks file q r (BehaviourRow.While x b) left e (Err why)
unfolding check
while-refused file q r x b left e k v = record { tells = λ Γ g w l. next-refused _ (k.tells Γ g w l.0) v }

pub while-body : (file : List ℕ) (q r x b left : ℕ) (e : Environment) {s t : Result Environment Refusal} {why : Refusal} {ds : Environment} → Conditions file r x e s → s ≡ Ok ds
    → Checks file q b left e t → t ≡ Err why → RowChecks file q r (BehaviourRow.While x b) left e (Err why)
unfolding check
while-body file q r x b left e k v n u = record {
  tells = λ Γ g w l.
      next-done _ (k.tells Γ g w l.0) v (λ Δ y z. next-refused _ (n.tells Γ g w l.1) u);
}

pub while-done : (file : List ℕ) (q r x b left : ℕ) (e : Environment) {s t h : Result Environment Refusal} {ds dt : Environment} → Conditions file r x e s → s ≡ Ok ds
    → Checks file q b left e t → t ≡ Ok dt → BranchesAgree r dt e h → RowChecks file q r (BehaviourRow.While x b) left e h
unfolding check
while-done file q r x b left e k v n u d = record {
  tells = λ Γ g w l.
      next-done _ (k.tells Γ g w l.0) v (λ Δ y z. next-done _ (n.tells Γ g w l.1) u (λ Θ i j. d.tells Θ Γ i g));
}

-- ---- branches

go-on : (q c : ℕ) (file : List ℕ) (Γ Δ : Types) (same : Bool) (j n : ℕ) → go_on q c file Γ Δ same j (suc n)
    ≡ next (check q (sequence j (behaviour_of file (field_a file (behaviour_at file j))) (behaviour_of file (field_b file (behaviour_at file j)))) Γ)
    (λ Θ. go_on q c file Γ Δ (same && same_types Θ Δ) (suc j) n)
unfolding go_on branches_from
go-on q c file Γ Δ same j zero = last-branch q c Δ same j (behaviour_of file (field_a file (behaviour_at file j))) (behaviour_of file (field_b file (behaviour_at file j))) Γ
go-on q c file Γ Δ same j (suc n) =
    next-branch q c Δ same j (behaviour_of file (field_a file (behaviour_at file j))) (behaviour_of file (field_b file (behaviour_at file j)))
    (branches_from file (behaviour_of file) (suc j) (suc n)) Γ

next-passed : (x : Checked Types) → x ≡ next x passed
unfolding next
next-passed (refused why) = refl
next-passed (passed Γ) = refl

choice-starts : (q r : ℕ) (file : List ℕ) (Γ : Types) (j n : ℕ) → check q (choice r (branches_from file (behaviour_of file) j (suc n))) Γ
    ≡ next (check q (sequence j (behaviour_of file (field_a file (behaviour_at file j))) (behaviour_of file (field_b file (behaviour_at file j)))) Γ)
    (λ Δ. go_on q r file Γ Δ true (suc j) n)
unfolding go_on branches_from check
choice-starts q r file Γ j zero = next-passed _
choice-starts q r file Γ j (suc n) =
    first-branch q r j (behaviour_of file (field_a file (behaviour_at file j))) (behaviour_of file (field_b file (behaviour_at file j)))
    (branches_from file (behaviour_of file) (suc j) (suc n)) Γ

pub branches-end : (file : List ℕ) (q c at n left : ℕ) (e d : Environment) (same : Bool) {s : Result Environment Refusal} → n ≡ 0 → Settles c d same s → ChecksBranches file q c at n left e d same s
unfolding go_on
branches-end file q c at n left e d same {s} z k = record {
  tells = λ Γ Δ j g h w i l.
      subst (λ (y : ℕ). StepAnswers s (go_on q c file Γ Δ same j y)) (sym z) (k.tells Δ h);
}

module _ (file : List ℕ) (q c at n left : ℕ) (e : Environment) {row : BranchRow} {s : Result Environment Refusal} (z : n ≡ 0 → ⊥) (p : BranchAt file at row)
    (k : Sequences file q row.input row.follow left e s) where
  -- The branch at row j.
  branch-first : (j : ℕ) (Γ : Types) → EnvironmentFor e Γ → WellFormed file → at ≡ behaviour_at file j → BranchSubs file left j
      → StepAnswers s (check q (sequence j (behaviour_of file (field_a file (behaviour_at file j))) (behaviour_of file (field_b file (behaviour_at file j)))) Γ)
  branch-first j Γ g w h l =
      let x = p.input ∙ ap (field_a file) h in
      let y = p.follow ∙ ap (field_b file) h in
      (subst (λ (f : ℕ). Sequences file q f (field_b file (behaviour_at file j)) left e s) x (subst (λ (f : ℕ). Sequences file q row.input f left e s) y k)
      ).tells j Γ g w l.input l.follow

  pub branches-refused : (d : Environment) (same : Bool) {why : Refusal} → s ≡ Err why → ChecksBranches file q c at n left e d same (Err why)
  branches-refused d same v = record {
    tells = λ Γ Δ j g h w i l.
        answers-as (sym (ap (go_on q c file Γ Δ same j) (one_less n z) ∙ go-on q c file Γ Δ same j (n - 1)))
        (next-refused _ (branch-first j Γ g w i (l j (omega arith) (omega (arith, one_less n z)))) v);
  }

  pub branches-more : (d : Environment) (same : Bool) {t u : Bool} {f : Result Environment Refusal} {ds : Environment} → s ≡ Ok ds → SameEnvironments ds d t → u ≡ (same && t)
      → ChecksBranches file q c (at + 10) (n - 1) left e d u f → ChecksBranches file q c at n left e d same f
  branches-more d same {t} {u} {f} v x y m = record {
    tells = λ Γ Δ j g h w i l.
        answers-as (sym (ap (go_on q c file Γ Δ same j) (one_less n z) ∙ go-on q c file Γ Δ same j (n - 1)))
        (next-done _ (branch-first j Γ g w i (l j (omega arith) (omega (arith, one_less n z)))) v (λ Θ b r.
        subst (λ (y : Bool). StepAnswers f (go_on q c file Γ Δ y (suc j) (n - 1))) (y ∙ ap (λ (y : Bool). same && y) (x.tells Θ Δ b h))
        (m.tells Γ Δ (suc j) g h w (ap (λ (y : ℕ). y + 10) i ∙ next-at file j) (λ k u v. l k (omega arith) (omega (arith, one_less n z))))));
  }

pub choice-none : (file : List ℕ) (q r first n left : ℕ) (e : Environment) (s : Result Environment Refusal) → n ≡ 0 → RowChecks file q r (BehaviourRow.Choice first n) left e s
choice-none file q r first n left e s z = record { tells = λ Γ g w l. let k = l.0 in absurd (omega arith) }

pub choice-refused : (file : List ℕ) (q r first n left at : ℕ) (e : Environment) {row : BranchRow} {s : Result Environment Refusal} {why : Refusal} → (n ≡ 0 → ⊥) → at ≡ behaviour_at file first
    → BranchAt file at row → Sequences file q row.input row.follow left e s → s ≡ Err why → RowChecks file q r (BehaviourRow.Choice first n) left e (Err why)
choice-refused file q r first n left at e z i p k v = record {
  tells = λ Γ g w l.
      answers-as (sym (ap (λ (y : ℕ). check q (choice r (branches_from file (behaviour_of file) first y)) Γ) (one_less n z) ∙ choice-starts q r file Γ first (n - 1)))
      (next-refused _ (branch-first file q r at n left e z p k first Γ g w i (l.1 first (omega arith) (omega (arith, one_less n z)))) v);
}

pub choice-done : (file : List ℕ) (q r first n left at : ℕ) (e : Environment) {row : BranchRow} {s f : Result Environment Refusal} {ds : Environment} → (n ≡ 0 → ⊥) → at ≡ behaviour_at file first
    → BranchAt file at row → Sequences file q row.input row.follow left e s → s ≡ Ok ds
    → ChecksBranches file q r (at + 10) (n - 1) left e ds true f → RowChecks file q r (BehaviourRow.Choice first n) left e f
choice-done file q r first n left at e z i p k v m = record {
  tells = λ Γ g w l.
      answers-as (sym (ap (λ (y : ℕ). check q (choice r (branches_from file (behaviour_of file) first y)) Γ) (one_less n z) ∙ choice-starts q r file Γ first (n - 1)))
      (next-done _ (branch-first file q r at n left e z p k first Γ g w i (l.1 first (omega arith) (omega (arith, one_less n z)))) v (λ Δ b y.
      m.tells Γ Δ (suc first) g b w (ap (λ (y : ℕ). y + 10) i ∙ next-at file first) (λ k u v. l.1 k (omega arith) (omega (arith, one_less n z)))));
}

-- ---- rows

pub no_rows : (file : List ℕ) (q r left : ℕ) (e : Environment) (s : Result Environment Refusal) → left ≡ 0 → Checks file q r left e s
no_rows file q r left e s z = record { tells = λ Γ g w l. let a = l.exists in let b = l.enough in absurd (omega arith) }

sub-less : (file : List ℕ) (left r : ℕ) → (left ≡ 0 → ⊥) → Sub file left r → Sub file (suc (left - 1)) r
sub-less file left r z l = subst (λ (y : ℕ). Sub file y r) (one_less left z) l

pub leaf-row : (file : List ℕ) (q r left : ℕ) (e : Environment) {x y : BehaviourRow} {s : Result Environment Refusal} → (left ≡ 0 → ⊥) → x ≡ behaviour_row_of file r → x ≡ y
    → LeafChecks file q r y e s → Checks file q r left e s
leaf-row file q r left e {x} {y} {s} z p o k = record {
  tells = λ Γ g w l.
      let d = row_is file w r (left - 1) (sub-less file left r z l) p o in
      answers-as (ap (λ (b : Behaviour). check q b Γ) (sym d.0)) (k.tells (left - 1) Γ g w d.1);
}

pub deep-row : (file : List ℕ) (q r left : ℕ) (e : Environment) {x y : BehaviourRow} {s : Result Environment Refusal} → (left ≡ 0 → ⊥) → x ≡ behaviour_row_of file r → x ≡ y
    → RowChecks file q r y (left - 1) e s → Checks file q r left e s
deep-row file q r left e {x} {y} {s} z p o k = record {
  tells = λ Γ g w l.
      let d = row_is file w r (left - 1) (sub-less file left r z l) p o in
      answers-as (ap (λ (b : Behaviour). check q b Γ) (sym d.0)) (k.tells Γ g w d.1);
}

pub parallel-row : (file : List ℕ) (q r left : ℕ) (e : Environment) {x : BehaviourRow} {a b : ℕ} {s : Result Environment Refusal} → (left ≡ 0 → ⊥) → x ≡ behaviour_row_of file r
    → x ≡ BehaviourRow.Parallel a b → ParallelChecks file q r a b (left - 1) e s → Checks file q r left e s
parallel-row file q r left e {x} {a} {b} {s} z p o k = record {
  tells = λ Γ g w l.
      let d = row_is file w r (left - 1) (sub-less file left r z l) p o in
      answers-as (ap (λ (b : Behaviour). check q b Γ) (sym d.0)) (k.tells Γ g w l.exists (sym p ∙ o) d.1.0 d.1.1);
}

pub sequence-row : (file : List ℕ) (q r left : ℕ) (e : Environment) {x : BehaviourRow} {a b : ℕ} {s : Result Environment Refusal} → (left ≡ 0 → ⊥) → x ≡ behaviour_row_of file r
    → x ≡ BehaviourRow.Sequence a b → Sequences file q a b (left - 1) e s → Checks file q r left e s
sequence-row file q r left e z p o k = deep-row file q r left e z p o (record { tells = λ Γ g w l. k.tells r Γ g w l.0 l.1 })

nil-checks : (file : List ℕ) (q r : ℕ) (row : BehaviourRow) (e : Environment) → behaviour_by file r row ≡ nil r → LeafChecks file q r row e (Ok e)
unfolding check
nil-checks file q r row e p = record { tells = λ left Γ g w l. answers-as (ap (λ (b : Behaviour). check q b Γ) (sym p)) (answers-pass g) }

pub nil-row : (file : List ℕ) (q r left : ℕ) (e : Environment) {x : BehaviourRow} → (left ≡ 0 → ⊥) → x ≡ behaviour_row_of file r
    → x ≡ BehaviourRow.Nil → Checks file q r left e (Ok e)
nil-row file q r left e z p o = leaf-row file q r left e z p o (nil-checks file q r BehaviourRow.Nil e refl)

pub branch_row : (file : List ℕ) (q r left : ℕ) (e : Environment) {x : BehaviourRow} {a b : ℕ} → (left ≡ 0 → ⊥) → x ≡ behaviour_row_of file r
    → x ≡ BehaviourRow.Branch a b → Checks file q r left e (Ok e)
branch_row file q r left e {x} {a} {b} z p o = leaf-row file q r left e z p o (nil-checks file q r (BehaviourRow.Branch a b) e refl)

pub unknown-row : (file : List ℕ) (q r left : ℕ) (e : Environment) {x : BehaviourRow} → (left ≡ 0 → ⊥) → x ≡ behaviour_row_of file r
    → x ≡ BehaviourRow.Unknown → Checks file q r left e (Ok e)
unknown-row file q r left e z p o = leaf-row file q r left e z p o (nil-checks file q r BehaviourRow.Unknown e refl)

pub ruleset sequence-laws = (sequence-refused, sequence-done)

pub ruleset parallel-laws = (parallel-not, parallel-done)

pub ruleset response-laws = (response-refused, response-body, response-done)

pub ruleset if-laws = (if-refused, if-then, if-else, if-done)

pub ruleset while-laws = (while-refused, while-body, while-done)

pub ruleset branches-laws = (branches-end, branches-refused, branches-more)

pub ruleset choice-laws = (choice-none, choice-refused, choice-done)

pub ruleset row_laws = (no_rows, nil-row, branch_row, unknown-row, leaf-row, deep-row, parallel-row, sequence-row)
