-- Placing and assigning, at each of the ways out of the code.
use mathlib.Core.Path.{◌≡◌, ap, sym, subst, ◌∙◌}
use mathlib.Core.List.{List}
use mathlib.Core.Bool.{Bool, true, false}
use Prim.Native.Nat.{ℕ, ◌<◌}
use Rattle.tree_forest.specs.Forest.{Lookup, absent, present}
use Rattle.tree_forest.specs.Path.{Path, path, read}
use Rattle.refusal.specs.declared.Refusal.TheVariants.{PathNotFirm, TypeMisfit}
use Rattle.network_syntax.specs.Syntax.{Mark, Types, MessageType}
use Rattle.check_typing.specs.Result.{Attempt, yields, demand, Checked, refused, with_row}
use Rattle.check_typing.specs.Environment.{firm_above, place_at, place, assign_at, assign_to}
use Rattle.check_typing.specs.Checker.{limited}
use Rattle.network.specs.Form.{WellFormed}
use Rattle.network.specs.Layout.{type_count}
use Rattle.network.specs.Decode as network
use Rattle.check_types.specs.Image.{type_as}
use Rattle.check_types.specs.Tells.{RowUnder}
use Rattle.check_environments.specs.declared.Environment.{Environment}
use Rattle.check_environments.specs.declared.Reach.{Reach}
use Rattle.check_environments.specs.declared.Reach.TheVariants.{Here, Gap, Loose}
use Rattle.check_environments.specs.Environment.{EnvironmentFor}
use Rattle.check_environments.specs.EnvironmentLaws.{answers-as, stands-root}
use Rattle.check_environments.specs.Walk.{Sees, WalkReached, AssignsAt, GrowsRow, GrowsLeaf}
use Rattle.check_environments.specs.Tells.{Places, Assigns}
use Rattle.check_environments.proofs.Assigning.{pass-answers, err-answers}
use Rattle.std.specs.Prelude.{Result, Ok, Err}
use Rattle.refusal.specs.declared.Refusal.{Refusal}

-- what follows a path that stands firm above its end, and one that does not
place-by : (x : Path) (t : MessageType) (Γ : Types) (l : Lookup Mark) → firm_above x Γ ≡ true → read x Γ ≡ l → place x t Γ ≡ place_at x t Γ l
place-by (path i p) t Γ l f r = ap (λ (z : Bool). demand z PathNotFirm (place_at (path i p) t Γ (read (path i p) Γ))) f ∙ ap (place_at (path i p) t Γ) r

place-not : (x : Path) (t : MessageType) (Γ : Types) (row : ℕ) → firm_above x Γ ≡ false → with_row row (limited (place x t Γ)) ≡ refused (PathNotFirm row)
place-not (path i p) t Γ row f = ap (λ (z : Bool). with_row row (limited (demand z PathNotFirm (place_at (path i p) t Γ (read (path i p) Γ))))) f

assign-by : (x : Path) (b : ℕ) (Γ : Types) (l : Lookup Mark) → firm_above x Γ ≡ true → read x Γ ≡ l → assign_to x b Γ ≡ assign_at x b Γ l
assign-by (path i p) b Γ l f r = ap (λ (z : Bool). demand z PathNotFirm (assign_at (path i p) b Γ (read (path i p) Γ))) f ∙ ap (assign_at (path i p) b Γ) r

assign-not : (x : Path) (b : ℕ) (Γ : Types) (row : ℕ) → firm_above x Γ ≡ false → with_row row (limited (assign_to x b Γ)) ≡ refused (PathNotFirm row)
assign-not (path i p) b Γ row f = ap (λ (z : Bool). with_row row (limited (demand z PathNotFirm (assign_at (path i p) b Γ (read (path i p) Γ))))) f

abbrev limited_at : ℕ → Attempt Types → Checked Types
limited_at row a = with_row row (limited a)

module _ (file : List ℕ) (e : Environment) (p : ℕ) (y : Reach) (l : WalkReached file e.bytes p y) where
  seen_as : (y' : Reach) → y ≡ y' → (Γ : Types) → EnvironmentFor e Γ → Sees e.bytes y' (network.path_of file p) Γ
  seen_as y' z Γ h = subst (λ (w : Reach). Sees e.bytes w (network.path_of file p) Γ) z (l.tells Γ (stands-root e Γ h))

  module _ (r row : ℕ) (s : Result Environment Refusal) where
    pub place-loose : y ≡ Loose → s ≡ Err (PathNotFirm row) → Places file e p r row s
    place-loose z q = record {
      tells = λ Γ h wf lp lr.
          answers-as (sym (place-not (network.path_of file p) (network.type_of file r) Γ row (seen_as Loose z Γ h))) (err-answers s (PathNotFirm row) q);
    }

    pub place-gap : y ≡ Gap → GrowsRow file e p r row s → Places file e p r row s
    place-gap z g = record {
      tells = λ Γ h wf lp lr.
          let u = seen_as Gap z Γ h in
          answers-as (sym (ap (limited_at row) (place-by (network.path_of file p) (network.type_of file r) Γ absent u.firm u.none))) (g.tells Γ h wf lp lr);
    }

    module _ (at : ℕ) (z : y ≡ Here at) (x : Bool) (u : RowUnder file r e.bytes at x) where
      placed : (Γ : Types) → EnvironmentFor e Γ → WellFormed file → r < type_count file →
          with_row row (limited (place (network.path_of file p) (network.type_of file r) Γ)) ≡ limited_at row (demand x TypeMisfit (yields Γ))
      placed Γ h wf lr =
          let v = seen_as (Here at) z Γ h in
          ap (limited_at row) (place-by (network.path_of file p) (network.type_of file r) Γ (present (type_as false v.held)) v.firm v.there
          ∙ ap (λ (t : Bool). demand t TypeMisfit (yields Γ)) (sym (u.tells v.id v.held wf lr v.root)))

      pub place-stays : x ≡ true → s ≡ Ok e → Places file e p r row s
      place-stays o q = record {
        tells = λ Γ h wf lp lr.
            answers-as (sym (placed Γ h wf lr ∙ ap (λ (t : Bool). limited_at row (demand t TypeMisfit (yields Γ))) o)) (pass-answers s e Γ row q h);
      }

      pub place-clash : x ≡ false → s ≡ Err (TypeMisfit row) → Places file e p r row s
      place-clash o q = record {
        tells = λ Γ h wf lp lr.
            answers-as (sym (placed Γ h wf lr ∙ ap (λ (t : Bool). limited_at row (demand t TypeMisfit (yields Γ))) o)) (err-answers s (TypeMisfit row) q);
      }

  module _ (b row : ℕ) (s : Result Environment Refusal) where
    pub assign-loose : y ≡ Loose → s ≡ Err (PathNotFirm row) → Assigns file e p b row s
    assign-loose z q = record {
      tells = λ Γ h wf lp lb. answers-as (sym (assign-not (network.path_of file p) b Γ row (seen_as Loose z Γ h))) (err-answers s (PathNotFirm row) q);
    }

    pub assign-gap : y ≡ Gap → GrowsLeaf file e p b row s → Assigns file e p b row s
    assign-gap z g = record {
      tells = λ Γ h wf lp lb.
          let u = seen_as Gap z Γ h in
          answers-as (sym (ap (limited_at row) (assign-by (network.path_of file p) b Γ absent u.firm u.none))) (g.tells Γ h wf lp lb);
    }

    pub assign-here : (at : ℕ) → y ≡ Here at → AssignsAt e at b row s → Assigns file e p b row s
    assign-here at z a = record {
      tells = λ Γ h wf lp lb.
          let v = seen_as (Here at) z Γ h in
          answers-as (sym (ap (limited_at row) (assign-by (network.path_of file p) b Γ (present (type_as false v.held)) v.firm v.there)))
          (a.tells Γ (network.path_of file p) v.id v.held h v.root);
    }

pub ruleset place-laws = (place-loose, place-gap, place-stays, place-clash)

pub ruleset assign-laws = (assign-loose, assign-gap, assign-here)
