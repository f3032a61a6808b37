-- Laws of starters and clients: one for each way out of the functions.
use Prim.Native.Nat.{ℕ, zero, suc, ◌+◌, ◌-◌, ◌<◌}
use mathlib.Core.Path.{◌≡◌, refl, sym, ◌∙◌, ap, subst}
use mathlib.Core.List.{List, [], ◌∷◌}
use mathlib.Core.Bool.{Bool, true, false, not, ◌&&◌}
use native.Mathlib.Omega.{arith}
use borrow.Author.Tests.{le-leb}
use Rattle.basics.specs.TestLaws.{T_of, both_true, not-false, not-true, one_less, positive}
use Rattle.tree_forest.specs.Forest.{end, Rising}
use Rattle.refusal.specs.declared.Refusal.{Refusal}
use Rattle.refusal.specs.declared.Refusal.TheVariants.{EnvironmentsDiffer, EnvironmentTooLarge}
use Rattle.network_syntax.specs.Syntax.{Types, Behaviour, choice}
use Rattle.network_syntax.specs.Rows.{row_of}
use Rattle.check_typing.specs.Result.{yields, demand, Checked, refused, passed, with_row, next, verdict_of}
use Rattle.check_typing.specs.Environment.{within}
use Rattle.check_typing.specs.Checker.{limited, check}
use Rattle.check_typing.specs.NetworkRules.{sequences_of, branches_of, union, union_of}
use Rattle.check_typing.proofs.NetworkLaws.{AllRising, each-one-sound}
use Rattle.check_typing.specs.Branches.{union_from, one_type_from}
use Rattle.check_typing.proofs.BranchesLaws.{one_type-in-order, union-in-order}
use Rattle.check_typing.specs.NetworkChecker.{check_each, one_type, one_type_with, one_type_each, check_starter}
use Rattle.network.specs.declared.BehaviourKind.{BehaviourKind}
use Rattle.network.specs.Form.{WellFormed}
use Rattle.network.specs.Layout.{behaviour_count, behaviour_at}
use Rattle.network.specs.Rows.{field_a, field_b, field_c, field_d, kind_at}
use Rattle.network.specs.Decode.{branches_from, behaviour_of}
use Rattle.network.proofs.RowLaws.{next-at}
use Rattle.network_rows.specs.declared.BehaviourRow.{BehaviourRow}
use Rattle.network_rows.specs.declared.BranchRow.{BranchRow}
use Rattle.network_rows.specs.Readers.{behaviour_row_as, behaviour_row_of, BranchAt}
use Rattle.check_environments.specs.declared.Environment.{Environment}
use Rattle.check_environments.specs.Environment.{standing, Shape, EnvironmentFor, step_of, StepAnswers}
use Rattle.check_environments.specs.EnvironmentLaws.{answers-as, answers-done, answers-refused, answers-refuse, answers-pass, stands-empty}
use Rattle.check_environments.specs.UnionLaws.{union_from-within, from_start}
use Rattle.check_environments.specs.Tells.{OneTyped, Unites}
use Rattle.check_behaviours.specs.Checks.{Checks, Sequences}
use Rattle.network_row_parts.specs.KindLaws.{row_is}
use Rattle.check_starters.specs.Starters.{branch_of_row, branch_list, BranchRun, BranchGives, Each, Against, OneEach, UnitesAll, Joins, Gathers, StarterChecks, Clients}
use Rattle.std.specs.Prelude.{Option, Some, None, Result, Ok, Err}

-- ---- runs of branches

run-next : (file : List ℕ) (at n left j : ℕ) → (n ≡ 0 → ⊥) → BranchRun file at n left j → BranchRun file (at + 10) (n - 1) left (suc j)
run-next file at n left j z h = record {
  form = h.form;
  there = ap (λ (y : ℕ). y + 10) h.there ∙ next-at file j;
  subs = λ k u v. h.subs k (omega arith) (omega (arith, one_less n z));
}

list-none : (file : List ℕ) (j n : ℕ) → n ≡ 0 → branch_list file j n ≡ []
unfolding branch_list
list-none file j n z = ap (branch_list file j) z

list-more : (file : List ℕ) (j n : ℕ) → (n ≡ 0 → ⊥) → branch_list file j n ≡ branch_of_row file j ∷ branch_list file (suc j) (n - 1)
unfolding branch_list
list-more file j n z = ap (branch_list file j) (one_less n z)

-- ---- one branch

pub gives-branch : (file : List ℕ) (q at left : ℕ) {row : BranchRow} {e : Environment} {s : Result Environment Refusal} → BranchAt file at row → e ≡ standing end
    → Sequences file q row.input row.follow left e s → BranchGives file q at left s
gives-branch file q at left {row} {e} {s} p z k = record {
  tells = λ n j h l.
      let x = p.input ∙ ap (field_a file) h.there in
      let y = p.follow ∙ ap (field_b file) h.there in
      let d = h.subs j (omega arith) (omega arith) in
      (subst (λ (f : ℕ). Sequences file q f (field_b file (behaviour_at file j)) left e s) x (subst (λ (f : ℕ). Sequences file q row.input f left e s) y k)
      ).tells j end (subst (λ (f : Environment). EnvironmentFor f end) (sym z) stands-empty) h.form d.input d.follow;
}

pub ruleset branch-laws = (gives-branch)

-- ---- each of several

each_more : (q : ℕ) (B : Behaviour) (Bs : List Behaviour) → verdict_of (check_each q (B ∷ Bs)) ≡ verdict_of (next (check q B end) (λ Γ. check_each q Bs))
unfolding check_each next
each_more q B Bs = go (check q B end) (check_each q Bs)
  where
    go : (x : Checked Types) (y : Checked (List Types)) → verdict_of (next x (λ Γ. next y (λ Γs. passed (Γ ∷ Γs)))) ≡ verdict_of (next x (λ Γ. y))
    go (refused w) y = refl
    go (passed Γ) (refused w) = refl
    go (passed Γ) (passed Γs) = refl

none-given : (q : ℕ) (file : List ℕ) (j n : ℕ) (Γs : List Types) → n ≡ 0 → check_each q (branch_list file j n) ≡ passed Γs → Γs ≡ []
unfolding check_each
none-given q file j n Γs z e = same-list (sym e ∙ ap (check_each q) (list-none file j n z))
  where
    same-list : passed Γs ≡ passed [] → Γs ≡ []
    same-list f = cc

none-rising : AllRising []
unfolding AllRising
none-rising = tt

some-rising : (Γ : Types) (Γs : List Types) → Rising Γ → AllRising Γs → AllRising (Γ ∷ Γs)
unfolding AllRising
some-rising Γ Γs a b = (a, b)

rising-tail : (Γ : Types) (Γs : List Types) → AllRising (Γ ∷ Γs) → AllRising Γs
unfolding AllRising
rising-tail Γ Γs h = h.1

same_lists : {Γs : List Types} {Γ : Types} {Δs : List Types} → passed (Γ ∷ Δs) ≡ passed Γs → Γs ≡ Γ ∷ Δs
same_lists e = cc

not-refused : {A : Type 0} {a : A} {why : Refusal} → refused why ≡ passed a → ⊥
not-refused e = let z : ◌≡◌ {A = ℕ} 0 1 = cc in omega arith

pub each_none : (file : List ℕ) (q at n left : ℕ) → n ≡ 0 → Each file q at n left (Ok tt)
unfolding check_each
each_none file q at n left z = record {
  tells = λ j h. sym (ap (λ (y : List Behaviour). verdict_of (check_each q y)) (list-none file j n z));
  rises = λ j Γs h e. subst AllRising (sym (none-given q file j n Γs z e)) none-rising;
}

module _ (file : List ℕ) (q at n left : ℕ) {s : Result Environment Refusal} (z : n ≡ 0 → ⊥) (k : BranchGives file q at left s) where
  answered : (j : ℕ) → BranchRun file at n left j → StepAnswers s (check q (branch_of_row file j) end)
  answered j h = k.tells n j h (positive n z)

  -- Where all pass: the first environment and the others.
  split : (j : ℕ) (Γs : List Types) → BranchRun file at n left j → check_each q (branch_list file j n) ≡ passed Γs
      → (Γ : Types) × (Δs : List Types) × (Γs ≡ Γ ∷ Δs) × ((d : Environment) → s ≡ Ok d → EnvironmentFor d Γ) × (check_each q (branch_list file (suc j) (n - 1)) ≡ passed Δs) × (check q (branch_of_row file j) end ≡ passed Γ)
  unfolding check_each next step_of
  split j Γs h e =
      go (check q (branch_of_row file j) end) (check_each q (branch_list file (suc j) (n - 1))) refl refl (answered j h)
      (sym (ap (check_each q) (list-more file j n z)) ∙ e)
    where
      go : (x : Checked Types) (y : Checked (List Types)) → check q (branch_of_row file j) end ≡ x → check_each q (branch_list file (suc j) (n - 1)) ≡ y → StepAnswers s x → next x (λ Γ. next y (λ Δs. passed (Γ ∷ Δs))) ≡ passed Γs
          → (Γ : Types) × (Δs : List Types) × (Γs ≡ Γ ∷ Δs) × ((d : Environment) → s ≡ Ok d → EnvironmentFor d Γ) × (check_each q (branch_list file (suc j) (n - 1)) ≡ passed Δs) × (check q (branch_of_row file j) end ≡ passed Γ)
      go (refused w) y o i a f = absurd (not-refused f)
      go (passed Γ) (refused w) o i a f = absurd (not-refused f)
      go (passed Γ) (passed Δs) o i a f =
          (Γ, Δs, same_lists f, λ d e. let v : d ≡ standing Γ = cc (a.is, e) in record { is = v; shape = a.shape }, i, o)

  -- Where all pass, so does the first.
  no-refusal : {A : Type 0} {why : Refusal} (j : ℕ) (Γs : List Types) → BranchRun file at n left j → check_each q (branch_list file j n) ≡ passed Γs → s ≡ Err why → A
  no-refusal {why = why} j Γs h e v = absurd (not-refused (sym (answers-refused (answered j h) why v).0 ∙ (split j Γs h e).5))

  pub each-refused : {why : Refusal} → s ≡ Err why → Each file q at n left (Err why)
  unfolding next
  each-refused {why} v = record {
    tells = λ j h.
        sym (ap (λ (y : List Behaviour). verdict_of (check_each q y)) (list-more file j n z) ∙ (each_more q (branch_of_row file j) (branch_list file (suc j) (n - 1))
        ∙ ap (λ (y : Checked Types). verdict_of (next y (λ Γ. check_each q (branch_list file (suc j) (n - 1))))) (answers-refused (answered j h) why v).0));
    rises = λ j Γs h e. no-refusal j Γs h e v;
  }

  pub each-done : {v : Result (Unit {0}) Refusal} {f : Environment} → s ≡ Ok f → Each file q (at + 10) (n - 1) left v → Each file q at n left v
  unfolding next
  each-done v d = record {
    tells = λ j h.
        d.tells (suc j) (run-next file at n left j z h) ∙ sym (ap (λ (y : List Behaviour). verdict_of (check_each q y)) (list-more file j n z)
        ∙ (each_more q (branch_of_row file j) (branch_list file (suc j) (n - 1))
        ∙ ap (λ (y : Checked Types). verdict_of (next y (λ Γ. check_each q (branch_list file (suc j) (n - 1))))) (answers-done (answered j h) v).1));
    rises = λ j Γs h e. let p = split j Γs h e in subst AllRising (sym p.2) (some-rising p.0 p.1 (p.3 _ v).shape.rising (d.rises (suc j) p.1 (run-next file at n left j z h) p.4));
  }

pub ruleset each-laws = (each_none, each-refused, each-done)

-- ---- one type in all branches

with_none : (Γ : Types) → true ≡ one_type_with Γ []
unfolding one_type_with
with_none Γ = refl

with-more : (Γ Δ : Types) (Δs : List Types) {t : Bool} → t ≡ one_type Γ Δ → one_type_with Γ (Δ ∷ Δs) ≡ t && one_type_with Γ Δs
unfolding one_type_with
with-more Γ Δ Δs e = ap (λ (y : Bool). y && one_type_with Γ Δs) (sym e)

each-none-one : true ≡ one_type_each []
unfolding one_type_each
each-none-one = refl

each-more-one : (Γ : Types) (Γs : List Types) {t : Bool} → t ≡ one_type_with Γ Γs → one_type_each (Γ ∷ Γs) ≡ t && one_type_each Γs
unfolding one_type_each
each-more-one Γ Γs e = ap (λ (y : Bool). y && one_type_each Γs) (sym e)

pub against-none : (file : List ℕ) (q : ℕ) (d : Environment) (at n left : ℕ) → n ≡ 0 → Against file q d at n left true
against-none file q d at n left z = record { tells = λ j Γ Γs g h e. with_none Γ ∙ ap (one_type_with Γ) (sym (none-given q file j n Γs z e)) }

pub one_none : (file : List ℕ) (q at n left : ℕ) → n ≡ 0 → OneEach file q at n left true
one_none file q at n left z = record { tells = λ j Γs h e. each-none-one ∙ ap one_type_each (sym (none-given q file j n Γs z e)) }

module _ (file : List ℕ) (q at n left : ℕ) {s : Result Environment Refusal} (z : n ≡ 0 → ⊥) (k : BranchGives file q at left s) where
  pub against-refused : (d : Environment) {why : Refusal} → s ≡ Err why → Against file q d at n left true
  against-refused d v = record { tells = λ j Γ Γs g h e. no-refusal file q at n left z k j Γs h e v }

  pub against-not : (d : Environment) {f : Environment} {t : Bool} → s ≡ Ok f → OneTyped d f t → not t ≡ true → Against file q d at n left false
  against-not d {f} {t} v o i = record {
    tells = λ j Γ Γs g h e.
        let p = split file q at n left z k j Γs h e in
        ap (λ (y : Bool). y && one_type_with Γ p.1) (sym (not-true t i)) ∙ (sym (with-more Γ p.0 p.1 (o.tells Γ p.0 g (p.3 _ v))) ∙ ap (one_type_with Γ) (sym p.2));
  }

  pub against-more : (d : Environment) {f : Environment} {t x : Bool} → s ≡ Ok f → OneTyped d f t → not t ≡ false → Against file q d (at + 10) (n - 1) left x → Against file q d at n left x
  against-more d {f} {t} {x} v o i m = record {
    tells = λ j Γ Γs g h e.
        let p = split file q at n left z k j Γs h e in
        m.tells (suc j) Γ p.1 g (run-next file at n left j z h) p.4
        ∙ (ap (λ (y : Bool). y && one_type_with Γ p.1) (sym (not-false t i)) ∙ (sym (with-more Γ p.0 p.1 (o.tells Γ p.0 g (p.3 _ v))) ∙ ap (one_type_with Γ) (sym p.2)));
  }

  pub one-refused : {why : Refusal} → s ≡ Err why → OneEach file q at n left true
  one-refused v = record { tells = λ j Γs h e. no-refusal file q at n left z k j Γs h e v }

  pub one-not : {f : Environment} {t : Bool} → s ≡ Ok f → Against file q f (at + 10) (n - 1) left t → not t ≡ true → OneEach file q at n left false
  one-not {f} {t} v o i = record {
    tells = λ j Γs h e.
        let p = split file q at n left z k j Γs h e in
        ap (λ (y : Bool). y && one_type_each p.1) (sym (not-true t i))
        ∙ (sym (each-more-one p.0 p.1 (o.tells (suc j) p.0 p.1 (p.3 _ v) (run-next file at n left j z h) p.4)) ∙ ap one_type_each (sym p.2));
  }

  pub one_more : {f : Environment} {t x : Bool} → s ≡ Ok f → Against file q f (at + 10) (n - 1) left t → not t ≡ false → OneEach file q (at + 10) (n - 1) left x → OneEach file q at n left x
  one_more {f} {t} {x} v o i m = record {
    tells = λ j Γs h e.
        let p = split file q at n left z k j Γs h e in
        m.tells (suc j) p.1 (run-next file at n left j z h) p.4 ∙ (ap (λ (y : Bool). y && one_type_each p.1) (sym (not-false t i))
        ∙ (sym (each-more-one p.0 p.1 (o.tells (suc j) p.0 p.1 (p.3 _ v) (run-next file at n left j z h) p.4)) ∙ ap one_type_each (sym p.2)));
  }

pub ruleset against-laws = (against-none, against-refused, against-not, against-more)

pub ruleset one_laws = (one_none, one-refused, one-not, one_more)

-- ---- the union

shape-within : (Γ : Types) → Shape Γ → within Γ ≡ true
shape-within Γ h = both_true (le-leb _ _ h.few) (le-leb _ _ h.shallow)

limited-within : (r : ℕ) (Γ : Types) → within Γ ≡ true → passed Γ ≡ with_row r (limited (yields Γ))
limited-within r Γ e = sym (ap (λ (y : Bool). with_row r (demand y EnvironmentTooLarge (yields Γ))) e)

limited-past : (r : ℕ) (Γ : Types) → within Γ ≡ false → refused (EnvironmentTooLarge r) ≡ with_row r (limited (yields Γ))
limited-past r Γ e = sym (ap (λ (y : Bool). with_row r (demand y EnvironmentTooLarge (yields Γ))) e)

limited-given : (r : ℕ) (Γ Δ : Types) → with_row r (limited (yields Γ)) ≡ passed Δ → Γ ≡ Δ
limited-given r Γ Δ e = go (within Γ) e
  where
    go : (t : Bool) → with_row r (demand t EnvironmentTooLarge (yields Γ)) ≡ passed Δ → Γ ≡ Δ
    go true f = cc
    go false f = absurd (not-refused f)

same-refusal : {v w : Refusal} → ◌≡◌ {A = Checked Types} (refused v) (refused w) → v ≡ w
same-refusal f = cc

limited-refused : (r : ℕ) (Γ : Types) (why : Refusal) → with_row r (limited (yields Γ)) ≡ refused why → (within Γ ≡ false) × (EnvironmentTooLarge r ≡ why)
limited-refused r Γ why e = go (within Γ) refl e
  where
    go : (t : Bool) → within Γ ≡ t → with_row r (demand t EnvironmentTooLarge (yields Γ)) ≡ refused why → (within Γ ≡ false) × (EnvironmentTooLarge r ≡ why)
    go true o f = absurd (not-refused (sym f))
    go false o f = (o, same-refusal f)

-- The next environment has one type with the union so far; the others follow.
from_next : (Γ Δ : Types) (Δs : List Types) → one_type_from true Γ (Δ ∷ Δs) ≡ true → (one_type Δ Γ ≡ true) × (one_type_from true (union Δ Γ) Δs ≡ true)
unfolding one_type_from
from_next Γ Δ Δs e =
    let o = from_start (one_type Δ Γ) (union Δ Γ) Δs e in
    (o, sym (ap (λ (y : Bool). one_type_from y (union Δ Γ) Δs) o) ∙ e)

union-step : (Γ Δ : Types) (Δs : List Types) → union_from Γ (Δ ∷ Δs) ≡ union_from (union Δ Γ) Δs
unfolding union_from
union-step Γ Δ Δs = refl

union-end : (Γ : Types) → union_from Γ [] ≡ Γ
unfolding union_from
union-end Γ = refl

not_within : (Γ : Types) (Δs : List Types) → AllRising Δs → one_type_from true Γ Δs ≡ true → within Γ ≡ false → within (union_from Γ Δs) ≡ false
not_within Γ Δs a o e = go (within (union_from Γ Δs)) refl
  where
    go : (t : Bool) → within (union_from Γ Δs) ≡ t → t ≡ false
    go true f = sym (union_from-within true Γ Δs a o f) ∙ e
    go false f = refl

pub unite-none : (file : List ℕ) (q row at n left : ℕ) (u : Environment) → n ≡ 0 → UnitesAll file q row at n left u (Ok u)
unite-none file q row at n left u z = record {
  tells = λ j Γ Γs g h e a o.
      answers-as (limited-within row Γ (shape-within Γ g.shape)
      ∙ ap (λ (y : Types). with_row row (limited (yields y))) (sym (ap (union_from Γ) (none-given q file j n Γs z e) ∙ union-end Γ)))
      (answers-pass g);
}

-- A branch that is refused is none of those that pass.
pub unite-first : (file : List ℕ) (q row at n left : ℕ) (u : Environment) {s : Result Environment Refusal} {why : Refusal} → (n ≡ 0 → ⊥) → BranchGives file q at left s
    → s ≡ Err why → UnitesAll file q row at n left u (Err why)
unite-first file q row at n left u z k v = record { tells = λ j Γ Γs g h e a o. no-refusal file q at n left z k j Γs h e v }

module _ (file : List ℕ) (q row at n left : ℕ) (u : Environment) {s t : Result Environment Refusal} {d : Environment} (z : n ≡ 0 → ⊥) (k : BranchGives file q at left s)
    (b : s ≡ Ok d) (m : Unites d u row t) where
  pub unite-refused : {why : Refusal} → t ≡ Err why → UnitesAll file q row at n left u (Err why)
  unite-refused {why} v = record {
    tells = λ j Γ Γs g h e a o.
        let p = split file q at n left z k j Γs h e in
        let f = from_next Γ p.0 p.1 (sym (ap (one_type_from true Γ) p.2) ∙ o) in
        let y = answers-refused (m.tells p.0 Γ (p.3 _ b) g f.0) why v in
        let w = limited-refused row (union p.0 Γ) why y.0 in
        let r = rising-tail p.0 p.1 (subst AllRising p.2 a) in
        answers-as (ap refused (sym w.1) ∙ (limited-past row (union_from (union p.0 Γ) p.1) (not_within (union p.0 Γ) p.1 r f.1 w.0)
        ∙ ap (λ (y : Types). with_row row (limited (yields y))) (sym (ap (union_from Γ) p.2 ∙ union-step Γ p.0 p.1)))) (answers-refuse why (sym v ∙ y.1));
  }

  pub unite-more : {i : Result Environment Refusal} {f : Environment} → t ≡ Ok f → UnitesAll file q row (at + 10) (n - 1) left f i → UnitesAll file q row at n left u i
  unite-more {i} {f = more} v c = record {
    tells = λ j Γ Γs g h e a o.
        let p = split file q at n left z k j Γs h e in
        let f = from_next Γ p.0 p.1 (sym (ap (one_type_from true Γ) p.2) ∙ o) in
        let y = answers-done (m.tells p.0 Γ (p.3 _ b) g f.0) v in
        let w = limited-given row (union p.0 Γ) y.0 y.1 in
        let r = rising-tail p.0 p.1 (subst AllRising p.2 a) in
        answers-as (ap (λ (y : Types). with_row row (limited (yields y))) (sym (ap (union_from Γ) p.2 ∙ union-step Γ p.0 p.1)))
        (c.tells (suc j) (union p.0 Γ) p.1 (subst (λ (x : Types). EnvironmentFor more x) (sym w) y.2) (run-next file at n left j z h) p.4 r f.1);
  }

pub ruleset unite-laws = (unite-none, unite-first, unite-refused, unite-more)

pub joins-not : (file : List ℕ) (q row at n left : ℕ) {x : Bool} → OneEach file q at n left x → not x ≡ true → Joins file q row at n left (Err (EnvironmentsDiffer row))
unfolding step_of
joins-not file q row at n left {x} o i = record {
  tells = λ j Γs h e a.
      answers-as (sym (ap (λ (y : Bool). with_row row (demand y EnvironmentsDiffer (limited (yields (union_of Γs))))) (sym (o.tells j Γs h e) ∙ not-true x i)))
      (answers-refuse (EnvironmentsDiffer row) refl);
}

pub joins-union : (file : List ℕ) (q row at n left : ℕ) {x : Bool} {u : Environment} {s : Result Environment Refusal} → OneEach file q at n left x → not x ≡ false → u ≡ standing end
    → UnitesAll file q row at n left u s → Joins file q row at n left s
joins-union file q row at n left {x} {u} {s} o i p m = record {
  tells = λ j Γs h e a.
      let t = sym (o.tells j Γs h e) ∙ not-false x i in
      answers-as (ap (λ (y : Types). with_row row (limited (yields y))) (union-in-order Γs a (each-one-sound Γs (T_of t)))
      ∙ sym (ap (λ (y : Bool). with_row row (demand y EnvironmentsDiffer (limited (yields (union_of Γs))))) t))
      (m.tells j end Γs (subst (λ (f : Environment). EnvironmentFor f end) (sym p) stands-empty) h e a (one_type-in-order Γs a ∙ t));
}

pub ruleset join-laws = (joins-not, joins-union)

-- ---- each branch once

abbrev concluded : ℕ → Types → List Types → Checked Types
concluded row Γ Γs = with_row row (demand (one_type_from true Γ Γs) EnvironmentsDiffer (limited (yields (union_from Γ Γs))))

-- Nothing is told of what is not sure.
not-sure : {A B : Type 0} {s : A} → ◌≡◌ {A = Option A} None (Some s) → B
not-sure f = absurd (let z : ◌≡◌ {A = ℕ} 0 1 = cc in omega arith)

sure-of : {A : Type 0} {s y : A} → Some s ≡ Some y → s ≡ y
sure-of f = cc

pub gathers-unsure : (file : List ℕ) (q row at n left : ℕ) (u : Environment) → Gathers file q row at n left u None
gathers-unsure file q row at n left u = record { tells = λ s f. not-sure f; rises = λ s f. not-sure f }

conclude-none : (row : ℕ) (Γ : Types) → within Γ ≡ true → passed Γ ≡ concluded row Γ []
unfolding one_type_from union_from
conclude-none row Γ e = limited-within row Γ e

pub gathers-none : (file : List ℕ) (q row at n left : ℕ) (u : Environment) → n ≡ 0 → Gathers file q row at n left u (Some (Ok u))
unfolding check_each next
gathers-none file q row at n left u z = record {
  tells = λ s f j Γ g h.
      answers-as (conclude-none row Γ (shape-within Γ g.shape)
      ∙ ap (λ (y : List Behaviour). next (check_each q y) (concluded row Γ)) (sym (list-none file j n z)))
      (subst (λ (y : Result Environment Refusal). StepAnswers y (passed Γ)) (sure-of f) (answers-pass g));
  rises = λ s f j Γs h e. subst AllRising (sym (none-given q file j n Γs z e)) none-rising;
}

next_more : (row : ℕ) (Γ Δ : Types) (x : Checked (List Types)) → one_type Δ Γ ≡ true → next x (concluded row (union Δ Γ)) ≡ next (next x (λ Δs. passed (Δ ∷ Δs))) (concluded row Γ)
unfolding next one_type_from union_from
next_more row Γ Δ (refused w) o = refl
next_more row Γ Δ (passed Δs) o = ap (λ (t : Bool). with_row row (demand (one_type_from t (union Δ Γ) Δs) EnvironmentsDiffer (limited (yields (union_from (union Δ Γ) Δs))))) (sym o)

module _ (file : List ℕ) (q row at n left : ℕ) (u : Environment) {s : Result Environment Refusal} (z : n ≡ 0 → ⊥) (k : BranchGives file q at left s) where
  pub gathers-refused : {why : Refusal} → s ≡ Err why → Gathers file q row at n left u (Some (Err why))
  unfolding check_each next
  gathers-refused {why} v = record {
    tells = λ x f j Γ g h.
        let y = answers-refused (answered file q at n left z k j h) why v in
        answers-as (sym (ap (λ (b : List Behaviour). next (check_each q b) (concluded row Γ)) (list-more file j n z)
        ∙ ap (λ (c : Checked Types). next (next c (λ Δ. next (check_each q (branch_list file (suc j) (n - 1))) (λ Δs. passed (Δ ∷ Δs)))) (concluded row Γ)) y.0))
        (answers-refuse why (sym (sure-of f) ∙ (sym v ∙ y.1)));
    rises = λ x f j Γs h e. no-refusal file q at n left z k j Γs h e v;
  }

  pub gathers-more : {t : Result Environment Refusal} {x : Option (Result Environment Refusal)} {o : Bool} {d more : Environment} → s ≡ Ok d → OneTyped d u o → not o ≡ false
      → Unites d u row t → t ≡ Ok more → Gathers file q row (at + 10) (n - 1) left more x → Gathers file q row at n left u x
  unfolding check_each next
  gathers-more {t} {x} {o} {d} {more} v ot i m w r = record {
    tells = λ y f j Γ g h.
        let p = answers-done (answered file q at n left z k j h) v in
        let same = sym (ot.tells p.0 Γ p.2 g) ∙ not-false o i in
        let y = answers-done (m.tells p.0 Γ p.2 g same) w in
        let e = limited-given row (union p.0 Γ) y.0 y.1 in
        answers-as (next_more row Γ p.0 (check_each q (branch_list file (suc j) (n - 1))) same
        ∙ sym (ap (λ (b : List Behaviour). next (check_each q b) (concluded row Γ)) (list-more file j n z)
        ∙ ap (λ (c : Checked Types). next (next c (λ Δ. next (check_each q (branch_list file (suc j) (n - 1))) (λ Δs. passed (Δ ∷ Δs)))) (concluded row Γ)) p.1))
        (r.tells _ f (suc j) (union p.0 Γ) (subst (λ (x : Types). EnvironmentFor more x) (sym e) y.2) (run-next file at n left j z h));
    rises = λ y f j Γs h e.
        let p = split file q at n left z k j Γs h e in
        subst AllRising (sym p.2) (some-rising p.0 p.1 (p.3 _ v).shape.rising (r.rises y f (suc j) p.1 (run-next file at n left j z h) p.4));
  }

pub ruleset gather-laws = (gathers-none, gathers-refused, gathers-more, gathers-unsure)

-- ---- starters and clients

-- A row whose kind is a choice is read as one.
choice-row : (file : List ℕ) (r : ℕ) → kind_at file r ≡ BehaviourKind.Choice
    → behaviour_row_of file r ≡ BehaviourRow.Choice (field_a file (behaviour_at file r)) (field_b file (behaviour_at file r))
unfolding behaviour_row_of behaviour_row_as
choice-row file r e =
    ap (λ (y : BehaviourKind). behaviour_row_as y (field_a file (behaviour_at file r)) (field_b file (behaviour_at file r)) (field_c file (behaviour_at file r)) (field_d file (behaviour_at file r))) e

sequences-listed : (file : List ℕ) (n j : ℕ) → sequences_of (branches_from file (behaviour_of file) j (suc n)) ≡ branch_list file j (suc n)
unfolding sequences_of branches_from branch_list
sequences-listed file zero j = refl
sequences-listed file (suc n) j = ap (λ (l : List Behaviour). branch_of_row file j ∷ l) (sequences-listed file n (suc j))

branches-listed : (q r first n : ℕ) (file : List ℕ) → check_starter q (choice r (branches_from file (behaviour_of file) first (suc n)))
    ≡ next (check_each q (branch_list file first (suc n))) (λ Γs. with_row r (demand (one_type_each Γs) EnvironmentsDiffer (limited (yields (union_of Γs)))))
unfolding branches_of row_of
branches-listed q r first n file =
    ap (λ (l : List Behaviour). next (check_each q l) (λ Γs. with_row r (demand (one_type_each Γs) EnvironmentsDiffer (limited (yields (union_of Γs))))))
    (sequences-listed file n first)

-- The row is no choice.
pub starts_other : (file : List ℕ) (q r : ℕ) {x : BehaviourRow} {s : Result Environment Refusal} → x ≡ behaviour_row_of file r → ((first n : ℕ) → x ≡ BehaviourRow.Choice first n → ⊥) → StarterChecks file q r s
starts_other file q r {x} e h = record { tells = λ w l i. absurd (h _ _ (e ∙ choice-row file r i)) }

module _ (file : List ℕ) (q r : ℕ) {left at first n : ℕ} {x : BehaviourRow} (a : left ≡ behaviour_count file) (b : x ≡ behaviour_row_of file r)
    (c : x ≡ BehaviourRow.Choice first n) (e : at ≡ behaviour_at file first) where
  kept : WellFormed file → r < behaviour_count file
      → (check_starter q (behaviour_of file r) ≡ next (check_each q (branch_list file first n)) (λ Γs. with_row r (demand (one_type_each Γs) EnvironmentsDiffer (limited (yields (union_of Γs))))))
      × BranchRun file at n left first
  kept w l =
      let h = row_is file w r left (record { exists = l; enough = omega arith }) b c in
      let z : n ≡ suc (n - 1) = omega (arith, h.1.0) in
      (ap (check_starter q) h.0 ∙ listed (n - 1) z, record { form = w; there = e; subs = h.1.1 })
    where
      listed : (m : ℕ) → n ≡ suc m → check_starter q (choice r (branches_from file (behaviour_of file) first n))
          ≡ next (check_each q (branch_list file first n)) (λ Γs. with_row r (demand (one_type_each Γs) EnvironmentsDiffer (limited (yields (union_of Γs)))))
      listed m z = rw z (branches-listed q r first m file)

  in-order : (Γs : List Types) → AllRising Γs → concluded r end Γs ≡ with_row r (demand (one_type_each Γs) EnvironmentsDiffer (limited (yields (union_of Γs))))
  in-order Γs w = go (one_type_each Γs) refl
    where
      go : (t : Bool) → one_type_each Γs ≡ t → concluded r end Γs ≡ with_row r (demand (one_type_each Γs) EnvironmentsDiffer (limited (yields (union_of Γs))))
      go true f =
          ap (λ (t : Bool). with_row r (demand t EnvironmentsDiffer (limited (yields (union_from end Γs))))) (one_type-in-order Γs w)
          ∙ ap (λ (y : Types). with_row r (demand (one_type_each Γs) EnvironmentsDiffer (limited (yields y)))) (union-in-order Γs w (each-one-sound Γs (T_of f)))
      go false f =
          ap (λ (t : Bool). with_row r (demand t EnvironmentsDiffer (limited (yields (union_from end Γs))))) (one_type-in-order Γs w ∙ f)
          ∙ sym (ap (λ (t : Bool). with_row r (demand t EnvironmentsDiffer (limited (yields (union_of Γs))))) f)

  pub starts-gathered : {u : Environment} {x : Option (Result Environment Refusal)} {s : Result Environment Refusal} → u ≡ standing end → Gathers file q r at n left u x → x ≡ Some s
      → StarterChecks file q r s
  unfolding next
  starts-gathered {u} {x} {s} p m i = record {
    tells = λ w l o.
        let h = kept w l in
        answers-as (go (check_each q (branch_list file first n)) (λ Γs y. m.rises s i first Γs h.1 y) ∙ sym h.0)
        (m.tells s i first end (subst (λ (f : Environment). EnvironmentFor f end) (sym p) stands-empty) h.1);
  }
    where
      go : (y : Checked (List Types)) → ((Γs : List Types) → y ≡ passed Γs → AllRising Γs)
          → next y (concluded r end) ≡ next y (λ Γs. with_row r (demand (one_type_each Γs) EnvironmentsDiffer (limited (yields (union_of Γs)))))
      go (refused w) f = refl
      go (passed Γs) f = in-order Γs (f Γs refl)

  module _ {v : Result (Unit {0}) Refusal} (k : Each file q at n left v) where
    pub starts-refused : {why : Refusal} → v ≡ Err why → StarterChecks file q r (Err why)
    unfolding next step_of
    starts-refused {why} f = record {
      tells = λ w l i.
          let h = kept w l in
          answers-as (sym (h.0 ∙ ap (λ (y : Checked (List Types)). next y (λ Γs. with_row r (demand (one_type_each Γs) EnvironmentsDiffer (limited (yields (union_of Γs))))))
          (all-refused (check_each q (branch_list file first n)) (sym (k.tells first h.1) ∙ f)))) (answers-refuse why refl);
    }
      where
        all-refused : (x : Checked (List Types)) → verdict_of x ≡ Err why → x ≡ refused why
        all-refused (refused w) g = cc
        all-refused (passed Γs) g = absurd (let z : ◌≡◌ {A = ℕ} 0 1 = cc in omega arith)

    pub starts-joined : {s : Result Environment Refusal} → v ≡ (Ok tt) → Joins file q r at n left s → StarterChecks file q r s
    unfolding next
    starts-joined {s} f m = record {
      tells = λ w l i.
          let h = kept w l in
          let g = all-passed (check_each q (branch_list file first n)) (sym (k.tells first h.1) ∙ f) in
          answers-as (sym (h.0 ∙ ap (λ (y : Checked (List Types)). next y (λ Γs. with_row r (demand (one_type_each Γs) EnvironmentsDiffer (limited (yields (union_of Γs)))))) g.1))
          (m.tells first g.0 h.1 g.1 (k.rises first g.0 h.1 g.1));
    }
      where
        all-passed : (x : Checked (List Types)) → verdict_of x ≡ (Ok tt) → (Γs : List Types) × (x ≡ passed Γs)
        all-passed (refused w) g = absurd (let z : ◌≡◌ {A = ℕ} 0 1 = cc in omega arith)
        all-passed (passed Γs) g = (Γs, refl)

pub ruleset start-laws = (starts_other, starts-gathered, starts-refused, starts-joined)

pub client-checks : (file : List ℕ) (q r : ℕ) {left : ℕ} {e : Environment} {s : Result Environment Refusal} → left ≡ behaviour_count file → e ≡ standing end → Checks file q r left e s → Clients file q r s
client-checks file q r {left} {e} a p k = record {
  tells = λ w l.
      k.tells end (subst (λ (f : Environment). EnvironmentFor f end) (sym p) stands-empty) w (record { exists = l; enough = omega arith });
}

pub ruleset client-laws = (client-checks)
