-- Laws of the rules without limits: a behaviour touches and depends on only the roots that occur in it, so the sides of a
-- parallel may swap; environments only grow, and their ids stay in order.
use Rattle.std.specs.Prelude.{◌≡◌, refl, ℕ, suc, ◌≤◌, ◌<◌, ◌+◌, max, Bool, true, false, not, ◌&&◌, ◌||◌, List, [], ◌∷◌, T, eqb}
use Rattle.std.proofs.Common.{sym, ap, subst, ◌∙◌, arith, eqb→eq}
use Rattle.std.proofs.Math.Dec.{eqb_refl}
use Rattle.basics.specs.TestLaws.{or_l, or_r}
use Rattle.tree_forest.specs.Compare.{Compare, lt, eq, gt, compare}
use Rattle.tree_forest.specs.Forest.{Forest, end, node, Tree, tree, Lookup, absent, present, find, set, Rising, RisingTree, measure}
use Rattle.tree_forest.specs.ForestLaws.{Combining, find-set-same, find-set-other, rising-set, rising-find, forest-ext}
use Rattle.tree_forest.specs.Path.{Path, path, root_id, read_steps}
use Rattle.refusal.specs.declared.Refusal.TheVariants.{PathNotFirm}
use Rattle.scalar.specs.Basic.{bool}
use Rattle.network_syntax.specs.Syntax.{Mark, mark, Types, MessageType, Expression, constant, value_at, presence, unary, binary, Operation}
use Rattle.network_syntax.specs.Syntax.{Behaviour, nil, one_way, request_response, notification, solicit_response, if_then_else, while_do, sequence}
use Rattle.network_syntax.specs.Syntax.{parallel, assign, choice, waiting, answering, Branches, last_branch, branch}
use Rattle.check_subtyping.specs.Subtype.{root_basic}
use Rattle.check_typing.specs.Result.{Attempt, yields, demand}
use Rattle.check_typing.specs.Environment.{within, firm_steps, the_type, read_firm, basic_leaf, place, assign_to}
use Rattle.tree_forest.specs.Forest.{is_present}
use Rattle.check_typing.proofs.EnvironmentLaws.{along, place_end, assign_end, place-root, assign-root, place-make, assign-make, placed-rising}
use Rattle.check_typing.proofs.EnvironmentLaws.{assigned-rising, place-rising, assign-rising, place-grows, assign-grows, sums, maxima}
use Rattle.check_typing.proofs.EnvironmentLaws.{within-smaller}
use Rattle.check_typing.specs.ExpressionTyping.{expression_type}
use Rattle.check_typing.specs.Occurs.{is_root, occurs_in, occurs, occurs_in_branches, NoSharedRoot}
use Rattle.check_typing.specs.Rules.{WellSorted, WellSortedBranches}
use Rattle.check_typing.specs.Typed.{Typed, TypedBranches}

-- Placing and assigning change one root only.
is_root-same : (i : ℕ) (x : Path) → (T (is_root i x) → ⊥) → i ≡ root_id x → ⊥
is_root-same i x f e = f (subst (λ (z : ℕ). T (eqb i z)) e (eqb_refl i))

pub place-local : (x : Path) (t : MessageType) (Γ Δ : Types) → place x t Γ ≡ yields Δ → (i : ℕ) → (T (is_root i x) → ⊥) → find i Δ ≡ find i Γ
place-local (path j p) t Γ Δ e i f = let u = place-root j p t Γ Δ e in rw u.2 (find-set-other i j u.0 Γ (is_root-same i (path j p) f))

pub assign_local : (x : Path) (b : ℕ) (Γ Δ : Types) → assign_to x b Γ ≡ yields Δ → (i : ℕ) → (T (is_root i x) → ⊥) → find i Δ ≡ find i Γ
assign_local (path j p) b Γ Δ e i f = let u = assign-root j p b Γ Δ e in rw u.2 (find-set-other i j u.0 Γ (is_root-same i (path j p) f))

-- Γ and Δ agree at the roots of P.
pub record AgreeOn (P : ℕ → Bool) (Γ Δ : Types) : Type 0 where
  pub eqs : (i : ℕ) → T (P i) → find i Γ ≡ find i Δ

pub agree-set : {P : ℕ → Bool} {Γ Δ : Types} (i : ℕ) (n : MessageType) → AgreeOn P Γ Δ → AgreeOn P (set i n Γ) (set i n Δ)
agree-set {P} {Γ} {Δ} i n h = record { eqs = λ j t. go j t (compare j i) }
  where
    go : (j : ℕ) → T (P j) → Compare j i → find j (set i n Γ) ≡ find j (set i n Δ)
    go j t (lt c) = find-set-other j i n Γ (λ e. omega arith) ∙ (h.eqs j t ∙ sym (find-set-other j i n Δ (λ e. omega arith)))
    go j t (gt c) = find-set-other j i n Γ (λ e. omega arith) ∙ (h.eqs j t ∙ sym (find-set-other j i n Δ (λ e. omega arith)))
    go j t (eq c) = rw c (find-set-same i n Γ ∙ sym (find-set-same i n Δ))

pub agree_trans : {P : ℕ → Bool} {Γ Δ Θ : Types} → AgreeOn P Γ Δ → Γ ≡ Θ → AgreeOn P Θ Δ
agree_trans {P} {Γ} {Δ} h e = subst (λ (z : Types). AgreeOn P z Δ) e h

-- A step that is possible from Γ is possible from any Δ that agrees with Γ at P, and what it gives agrees at P again.
pub record StepFramed (P : ℕ → Bool) (f : Types → Attempt Types) (Γ2 Δ : Types) : Type 0 where
  pub out_step : Types
  pub typed_step : f Δ ≡ yields out_step
  pub rising_step : Rising out_step
  pub agree_step : AgreeOn P Γ2 out_step

pub place-frame : (P : ℕ → Bool) (x : Path) (t : MessageType) (Γ Γ2 Δ : Types) → T (P (root_id x)) → RisingTree t → Rising Δ → place x t Γ ≡ yields Γ2
    → AgreeOn P Γ Δ
    → StepFramed P (place x t) Γ2 Δ
place-frame P (path i p) t Γ Γ2 Δ hp wt wd e h =
    let u = place-root i p t Γ Γ2 e in
    let k : find i Δ ≡ find i Γ = sym (h.eqs i hp) in
    let v : along p (place_end t) (find i Δ) ≡ yields u.0 = rw k u.1 in
    record {
      out_step = set i u.0 Δ;
      typed_step = place-make i p t Δ u.0 v;
      rising_step = rising-set i u.0 Δ (placed-rising t wt p (find i Δ) u.0 (rising-find i Δ wd) v) wd;
      agree_step = agree_trans (agree-set i u.0 h) (sym u.2);
    }

pub assign-frame : (P : ℕ → Bool) (x : Path) (b : ℕ) (Γ Γ2 Δ : Types) → T (P (root_id x)) → Rising Δ → assign_to x b Γ ≡ yields Γ2 → AgreeOn P Γ Δ
    → StepFramed P (assign_to x b) Γ2 Δ
assign-frame P (path i p) b Γ Γ2 Δ hp wd e h =
    let u = assign-root i p b Γ Γ2 e in
    let k : find i Δ ≡ find i Γ = sym (h.eqs i hp) in
    let v : along p (assign_end b) (find i Δ) ≡ yields u.0 = rw k u.1 in
    record {
      out_step = set i u.0 Δ;
      typed_step = assign-make i p b Δ u.0 v;
      rising_step = rising-set i u.0 Δ (assigned-rising b p (find i Δ) u.0 (rising-find i Δ wd) v) wd;
      agree_step = agree_trans (agree-set i u.0 h) (sym u.2);
    }

-- Reading a path and typing an expression look only at the roots that occur.
pub firm-frame : (P : ℕ → Bool) (x : Path) (Γ Δ : Types) → T (P (root_id x)) → AgreeOn P Γ Δ → read_firm x Δ ≡ read_firm x Γ
firm-frame P (path i p) Γ Δ hp h = ap (λ (l : Lookup Mark). demand (firm_steps p l) PathNotFirm (the_type (read_steps p l))) (sym (h.eqs i hp))

pub type_of-frame : (P : ℕ → Bool) (e : Expression) (Γ Δ : Types) → ((i : ℕ) → T (occurs_in i e) → T (P i)) → AgreeOn P Γ Δ
    → expression_type Δ e ≡ expression_type Γ e
unfolding expression_type occurs_in
type_of-frame P (constant v) Γ Δ w h = refl
type_of-frame P (value_at x) Γ Δ w h = firm-frame P x Γ Δ (w (root_id x) (eqb_refl (root_id x))) h
type_of-frame P (presence (path i p)) Γ Δ w h =
    ap (λ (l : Lookup Mark). demand (is_present (read_steps p l)) PathNotFirm (yields (basic_leaf bool))) (sym (h.eqs i (w i (eqb_refl i))))
type_of-frame P (unary o e) Γ Δ w h = rw (type_of-frame P e Γ Δ w h)
type_of-frame P (binary o a b) Γ Δ w h =
    rw (
      type_of-frame P a Γ Δ (λ i t. w i (or_l (occurs_in i a) (occurs_in i b) t)) h,
      type_of-frame P b Γ Δ
          (λ i t. w i (or_r (occurs_in i a) (occurs_in i b) t)) h,
    )

pub by_bool : (b : Bool) {X : Type 0} → (T b → X) → ((T b → ⊥) → X) → X
by_bool true f g = f tt
by_bool false f g = g (λ t. t)

pub agree-eq : (P : ℕ → Bool) (Γ Δ Δa Δb : Types) → AgreeOn P Γ Δa → AgreeOn P Γ Δb → ((i : ℕ) → (T (P i) → ⊥) → find i Δa ≡ find i Δ)
    → ((i : ℕ) → (T (P i) → ⊥) → find i Δb ≡ find i Δ)
    → Rising Δa → Rising Δb → Δa ≡ Δb
agree-eq P Γ Δ Δa Δb ha hb oa ob wa wb =
    forest-ext Δa Δb wa wb (λ i. by_bool (P i) (λ t. sym (ha.eqs i t) ∙ hb.eqs i t) (λ f. oa i f ∙ sym (ob i f)))

-- Every root that occurs in B is in P.
abbrev pub RowsWithin : (P : ℕ → Bool) → Behaviour → Type 0
RowsWithin P B = (i : ℕ) → T (occurs i B) → T (P i)

-- A relation that holds where nothing changes, joins, and holds over each placing and each assigning.
pub record Kept (R : Types → Types → Type 0) : Type 1 where
  pub stays : (Γ Δ : Types) → Γ ≡ Δ → R Γ Δ
  pub joins : (Γ Δ Θ : Types) → R Γ Δ → R Δ Θ → R Γ Θ
  pub places : (x : Path) (t : MessageType) (Γ Δ : Types) → RisingTree t → place x t Γ ≡ yields Δ → R Γ Δ
  pub assigns : (x : Path) (b : ℕ) (Γ Δ : Types) → assign_to x b Γ ≡ yields Δ → R Γ Δ

module _ (q : ℕ) where
  -- A behaviour changes only the roots that occur in it.
  mutual
    unfolding Typed occurs

    pub local : (B : Behaviour) (Γ Δ : Types) → Typed q B Γ Δ → (i : ℕ) → (T (occurs i B) → ⊥) → find i Δ ≡ find i Γ
    local (nil r) Γ Δ h i f = ap (find i) (sym h)
    local (one_way r o x) Γ Δ h i f = place-local x o.request Γ Δ h.1 i f
    local (request_response r o x c d) Γ Δ h i f =
        local d h.1 Δ h.3 i (λ t. f (or_r (is_root i x) (is_root i c || occurs i d) (or_r (is_root i c) (occurs i d) t)))
        ∙ place-local x o.request Γ h.1 h.2 i (λ t. f (or_l (is_root i x) (is_root i c || occurs i d) t))
    local (notification r o e) Γ Δ h i f = ap (find i) (sym h.2)
    local (solicit_response r o e x) Γ Δ h i f = place-local x o.reply Γ Δ h.2 i (λ t. f (or_r (occurs_in i e) (is_root i x) t))
    local (if_then_else r e a b) Γ Δ h i f =
        local a Γ Δ h.1 i (λ t. f (or_r (occurs_in i e) (occurs i a || occurs i b) (or_l (occurs i a) (occurs i b) t)))
    local (while_do r e b) Γ Δ h i f = ap (find i) (sym h.2)
    local (sequence r a b) Γ Δ h i f = local b h.0 Δ h.2 i (λ t. f (or_r (occurs i a) (occurs i b) t))
        ∙ local a Γ h.0 h.1 i (λ t. f (or_l (occurs i a) (occurs i b) t))
    local (parallel r a b) Γ Δ h i f = local b h.1 Δ h.3 i (λ t. f (or_r (occurs i a) (occurs i b) t))
        ∙ local a Γ h.1 h.2 i (λ t. f (or_l (occurs i a) (occurs i b) t))
    local (assign r x e) Γ Δ h i f = assign_local x (root_basic h.0) Γ Δ h.2 i (λ t. f (or_r (occurs_in i e) (is_root i x) t))
    local (choice r m) Γ Δ h i f = local-branches m Γ Δ h i f
    local (waiting r o x) Γ Δ h i f = place-local x o.reply Γ Δ h.1 i f
    local (answering r o c d) Γ Δ h i f = local d Γ Δ h.1 i (λ t. f (or_r (is_root i c) (occurs i d) t))

    pub local-branches : (m : Branches) (Γ Δ : Types) → TypedBranches q m Γ Δ → (i : ℕ) → (T (occurs_in_branches i m) → ⊥) → find i Δ ≡ find i Γ
    local-branches (last_branch r a b) Γ Δ h i f = local b h.0 Δ h.2 i (λ t. f (or_r (occurs i a) (occurs i b) t))
        ∙ local a Γ h.0 h.1 i (λ t. f (or_l (occurs i a) (occurs i b) t))
    local-branches (branch r a b m) Γ Δ h i f = local-branches m Γ Δ h.3 i (λ t. f (or_r (occurs i a || occurs i b) (occurs_in_branches i m) t))

  -- So is a behaviour: from Δ it gives `out`, which agrees at P with what it gives from Γ.
  pub record Framed (P : ℕ → Bool) (B : Behaviour) (Γ2 Δ : Types) : Type 0 where
    pub out : Types
    pub typed : Typed q B Δ out
    pub rising : Rising out
    pub agree : AgreeOn P Γ2 out

  pub record FramedBranches (P : ℕ → Bool) (m : Branches) (Γ2 Δ : Types) : Type 0 where
    pub out : Types
    pub typed : TypedBranches q m Δ out
    pub rising : Rising out
    pub agree : AgreeOn P Γ2 out

  -- A behaviour depends only on the roots that occur in it.
  mutual
    unfolding Typed occurs WellSorted

    pub frame : (P : ℕ → Bool) (B : Behaviour) (Γ Γ2 Δ : Types) → WellSorted B → RowsWithin P B → Rising Δ → Typed q B Γ Γ2 → AgreeOn P Γ Δ → Framed P B Γ2 Δ
    frame P (nil r) Γ Γ2 Δ ws w wd h a = record { out = Δ; typed = refl; rising = wd; agree = agree_trans a h }
    frame P (one_way r o x) Γ Γ2 Δ ws w wd h a =
        let u = place-frame P x o.request Γ Γ2 Δ (w (root_id x) (eqb_refl (root_id x))) ws.0 wd h.1 a in
        record { out = u.out_step; typed = (h.0, u.typed_step); rising = u.rising_step; agree = u.agree_step }
    frame P (request_response r o x c d) Γ Γ2 Δ ws w wd h a =
        let u = place-frame P x o.request Γ h.1 Δ (w (root_id x) (or_l (is_root (root_id x) x) _ (eqb_refl (root_id x)))) ws.0.0 wd h.2 a in
        let v = frame P d h.1 Γ2 u.out_step ws.1 (λ i t. w i (or_r (is_root i x) (is_root i c || occurs i d) (or_r (is_root i c) (occurs i d) t)))
        u.rising_step h.3 u.agree_step in
        let same =
        firm-frame P c Γ2 v.out (w (root_id c) (or_r (is_root (root_id c) x) _ (or_l (is_root (root_id c) c) _ (eqb_refl (root_id c))))) v.agree in
        record {
          out = v.out;
          typed = (h.0, u.out_step, u.typed_step, v.typed, (h.4.0, same ∙ h.4.1, h.4.2));
          rising = v.rising;
          agree =
              v.agree;
        }
    frame P (notification r o e) Γ Γ2 Δ ws w wd h a =
        record { out = Δ; typed = (h.0, (h.1.0, type_of-frame P e Γ Δ w a ∙ h.1.1, h.1.2), refl); rising = wd; agree = agree_trans a h.2 }
    frame P (solicit_response r o e x) Γ Γ2 Δ ws w wd h a =
        let u = place-frame P x o.reply Γ Γ2 Δ (w (root_id x) (or_r (occurs_in (root_id x) e) _ (eqb_refl (root_id x)))) ws.1 wd h.2 a in
        record {
          out = u.out_step;
          typed =
              (h.0, (h.1.0, type_of-frame P e Γ Δ (λ i t. w i (or_l (occurs_in i e) (is_root i x) t)) a ∙ h.1.1, h.1.2), u.typed_step);
          rising =
              u.rising_step;
          agree = u.agree_step;
        }
    frame P (if_then_else r e x y) Γ Γ2 Δ ws w wd h a =
        let wx : RowsWithin P x = λ i t. w i (or_r (occurs_in i e) (occurs i x || occurs i y) (or_l (occurs i x) (occurs i y) t)) in
        let wy : RowsWithin P y = λ i t. w i (or_r (occurs_in i e) (occurs i x || occurs i y) (or_r (occurs i x) (occurs i y) t)) in
        let u = frame P x Γ Γ2 Δ ws.0 wx wd h.1 a in
        let v = frame P y Γ Γ2 Δ ws.1 wy wd h.2 a in
        let same =
        agree-eq P Γ2 Δ v.out u.out v.agree u.agree (λ i f. local y Δ v.out v.typed i (λ t. f (wy i t)))
        (λ i f. local x Δ u.out u.typed i (λ t. f (wx i t))) v.rising u.rising in
        record {
          out = u.out;
          typed = (
            (h.0.0, type_of-frame P e Γ Δ (λ i t. w i (or_l (occurs_in i e) (occurs i x || occurs i y) t)) a ∙ h.0.1, h.0.2),
            u.typed,
            subst
                (Typed q y Δ) same v.typed,
          );
          rising = u.rising;
          agree = u.agree;
        }
    frame P (while_do r e b) Γ Γ2 Δ ws w wd h a =
        let wb : RowsWithin P b = λ i t. w i (or_r (occurs_in i e) (occurs i b) t) in
        let u = frame P b Γ Γ Δ ws wb wd h.1 a in
        let same = agree-eq P Γ Δ u.out Δ u.agree a (λ i f. local b Δ u.out u.typed i (λ t. f (wb i t))) (λ i f. refl) u.rising wd in
        record {
          out = Δ;
          typed = (
            (h.0.0, type_of-frame P e Γ Δ (λ i t. w i (or_l (occurs_in i e) (occurs i b) t)) a ∙ h.0.1, h.0.2),
            subst (Typed q b Δ) same
                u.typed,
            refl,
          );
          rising = wd;
          agree = agree_trans a h.2;
        }
    frame P (sequence r x y) Γ Γ2 Δ ws w wd h a =
        let u = frame P x Γ h.0 Δ ws.0 (λ i t. w i (or_l (occurs i x) (occurs i y) t)) wd h.1 a in
        let v = frame P y h.0 Γ2 u.out ws.1 (λ i t. w i (or_r (occurs i x) (occurs i y) t)) u.rising h.2 u.agree in
        record { out = v.out; typed = (u.out, u.typed, v.typed); rising = v.rising; agree = v.agree }
    frame P (parallel r x y) Γ Γ2 Δ ws w wd h a =
        let u = frame P x Γ h.1 Δ ws.0 (λ i t. w i (or_l (occurs i x) (occurs i y) t)) wd h.2 a in
        let v = frame P y h.1 Γ2 u.out ws.1 (λ i t. w i (or_r (occurs i x) (occurs i y) t)) u.rising h.3 u.agree in
        record { out = v.out; typed = (h.0, u.out, u.typed, v.typed); rising = v.rising; agree = v.agree }
    frame P (assign r x e) Γ Γ2 Δ ws w wd h a =
        let u = assign-frame P x (root_basic h.0) Γ Γ2 Δ (w (root_id x) (or_r (occurs_in (root_id x) e) _ (eqb_refl (root_id x)))) wd h.2 a in
        record {
          out = u.out_step;
          typed = (h.0, type_of-frame P e Γ Δ (λ i t. w i (or_l (occurs_in i e) (is_root i x) t)) a ∙ h.1, u.typed_step);
          rising =
              u.rising_step;
          agree = u.agree_step;
        }
    frame P (choice r m) Γ Γ2 Δ ws w wd h a =
        let u = frame-branches P m Γ Γ2 Δ ws w wd h a in record { out = u.out; typed = u.typed; rising = u.rising; agree = u.agree }
    frame P (waiting r o x) Γ Γ2 Δ ws w wd h a =
        let u = place-frame P x o.reply Γ Γ2 Δ (w (root_id x) (eqb_refl (root_id x))) ws.1 wd h.1 a in
        record { out = u.out_step; typed = (h.0, u.typed_step); rising = u.rising_step; agree = u.agree_step }
    frame P (answering r o c d) Γ Γ2 Δ ws w wd h a =
        let v = frame P d Γ Γ2 Δ ws.1 (λ i t. w i (or_r (is_root i c) (occurs i d) t)) wd h.1 a in
        let same = firm-frame P c Γ2 v.out (w (root_id c) (or_l (is_root (root_id c) c) _ (eqb_refl (root_id c)))) v.agree in
        record { out = v.out; typed = (h.0, v.typed, (h.2.0, same ∙ h.2.1, h.2.2)); rising = v.rising; agree = v.agree }

    frame-branches : (P : ℕ → Bool) (m : Branches) (Γ Γ2 Δ : Types) → WellSortedBranches m → ((i : ℕ) → T (occurs_in_branches i m) → T (P i)) → Rising Δ
        → TypedBranches q m Γ Γ2 → AgreeOn P Γ Δ → FramedBranches P m Γ2 Δ
    frame-branches P (last_branch r x y) Γ Γ2 Δ ws w wd h a =
        let u = frame P x Γ h.0 Δ ws.0 (λ i t. w i (or_l (occurs i x) (occurs i y) t)) wd h.1 a in
        let v = frame P y h.0 Γ2 u.out ws.1 (λ i t. w i (or_r (occurs i x) (occurs i y) t)) u.rising h.2 u.agree in
        record { out = v.out; typed = (u.out, u.typed, v.typed); rising = v.rising; agree = v.agree }
    frame-branches P (branch r x y m) Γ Γ2 Δ ws w wd h a =
        let wx : RowsWithin P x = λ i t. w i (or_l (occurs i x || occurs i y) (occurs_in_branches i m) (or_l (occurs i x) (occurs i y) t)) in
        let wy : RowsWithin P y = λ i t. w i (or_l (occurs i x || occurs i y) (occurs_in_branches i m) (or_r (occurs i x) (occurs i y) t)) in
        let wm : ((i : ℕ) → T (occurs_in_branches i m) → T (P i)) = λ i t. w i (or_r (occurs i x || occurs i y) (occurs_in_branches i m) t) in
        let u = frame P x Γ h.0 Δ ws.0 wx wd h.1 a in
        let v = frame P y h.0 Γ2 u.out ws.1 wy u.rising h.2 u.agree in
        let z = frame-branches P m Γ Γ2 Δ ws.2 wm wd h.3 a in
        let same = agree-eq P Γ2 Δ z.out v.out z.agree v.agree (λ i f. local-branches m Δ z.out z.typed i (λ t. f (wm i t)))
        (λ i f. local y u.out v.out v.typed i (λ t. f (wy i t)) ∙ local x Δ u.out u.typed i (λ t. f (wx i t))) z.rising
        v.rising in
        record { out = v.out; typed = (u.out, u.typed, v.typed, subst (TypedBranches q m Δ) same z.typed); rising = v.rising; agree = v.agree }

  -- Two behaviours with no root in common may swap: b first, then a.
  pub record Swapped (a b : Behaviour) (Γ Γ2 : Types) : Type 0 where
    pub mid : Types
    pub rising_mid : Rising mid
    pub one : Typed q b Γ mid
    pub two : Typed q a mid Γ2

  -- Such a relation holds over a typed behaviour.
  mutual
    unfolding Typed WellSorted

    pub kept : (R : Types → Types → Type 0) → Kept R → (B : Behaviour) (Γ Δ : Types) → WellSorted B → Typed q B Γ Δ → R Γ Δ
    kept R k (nil r) Γ Δ ws h = k.stays Γ Δ h
    kept R k (one_way r o x) Γ Δ ws h = k.places x o.request Γ Δ ws.0 h.1
    kept R k (request_response r o x c d) Γ Δ ws h =
        k.joins Γ h.1 Δ (k.places x o.request Γ h.1 ws.0.0 h.2) (kept R k d h.1 Δ ws.1 h.3)
    kept R k (notification r o e) Γ Δ ws h = k.stays Γ Δ h.2
    kept R k (solicit_response r o e x) Γ Δ ws h = k.places x o.reply Γ Δ ws.1 h.2
    kept R k (if_then_else r e a b) Γ Δ ws h = kept R k a Γ Δ ws.0 h.1
    kept R k (while_do r e b) Γ Δ ws h = k.stays Γ Δ h.2
    kept R k (sequence r a b) Γ Δ ws h = k.joins Γ h.0 Δ (kept R k a Γ h.0 ws.0 h.1) (kept R k b h.0 Δ ws.1 h.2)
    kept R k (parallel r a b) Γ Δ ws h = k.joins Γ h.1 Δ (kept R k a Γ h.1 ws.0 h.2) (kept R k b h.1 Δ ws.1 h.3)
    kept R k (assign r x e) Γ Δ ws h = k.assigns x (root_basic h.0) Γ Δ h.2
    kept R k (choice r m) Γ Δ ws h = kept-branches R k m Γ Δ ws h
    kept R k (waiting r o x) Γ Δ ws h = k.places x o.reply Γ Δ ws.1 h.1
    kept R k (answering r o c d) Γ Δ ws h = kept R k d Γ Δ ws.1 h.1

    kept-branches : (R : Types → Types → Type 0) → Kept R → (m : Branches) (Γ Δ : Types) → WellSortedBranches m → TypedBranches q m Γ Δ → R Γ Δ
    kept-branches R k (last_branch r a b) Γ Δ ws h = k.joins Γ h.0 Δ (kept R k a Γ h.0 ws.0 h.1) (kept R k b h.0 Δ ws.1 h.2)
    kept-branches R k (branch r a b m) Γ Δ ws h = kept-branches R k m Γ Δ ws.2 h.3

  -- Ids stay in order.
  pub typed-rising : (B : Behaviour) (Γ Γ2 : Types) → WellSorted B → Rising Γ → Typed q B Γ Γ2 → Rising Γ2
  typed-rising B Γ Γ2 ws w h =
      kept (λ Γ Δ. Rising Γ → Rising Δ)
      (record {
        stays = λ Γ Δ e. subst Rising e;
        joins = λ Γ Δ Θ f g x. g (f x);
        places = λ x t Γ Δ wt e w. place-rising x t Γ Δ wt w e;
        assigns = λ x b Γ Δ e w. assign-rising x b Γ Δ w e;
      }) B Γ Γ2 ws h w

  -- An environment only grows, in nodes and in levels.
  pub grows : (g : ℕ → ℕ → ℕ) → Combining g → (B : Behaviour) (Γ Γ2 : Types) → WellSorted B → Typed q B Γ Γ2 → measure g Γ ≤ measure g Γ2
  grows g G B Γ Γ2 ws h =
      kept (λ Γ Δ. measure g Γ ≤ measure g Δ)
      (record {
        stays = λ Γ Δ e. rw e (omega arith);
        joins = λ Γ Δ Θ f h. omega arith;
        places = λ x t Γ Δ wt e. place-grows g G x t Γ Δ e;
        assigns = λ x b Γ Δ e. assign-grows g G x b Γ Δ e;
      }) B Γ Γ2 ws h

  -- So where the last environment is within the limits, the first is.
  pub within-before : (B : Behaviour) (Γ Γ2 : Types) → WellSorted B → Typed q B Γ Γ2 → T (within Γ2) → T (within Γ)
  within-before B Γ Γ2 ws h t = within-smaller Γ Γ2 (grows (◌+◌) sums B Γ Γ2 ws h) (grows max maxima B Γ Γ2 ws h) t

  pub swap : (a b : Behaviour) (Γ Γ1 Γ2 : Types) → WellSorted a → WellSorted b → Rising Γ → Rising Γ2 → NoSharedRoot a b → Typed q a Γ Γ1
      → Typed q b Γ1 Γ2
      → Swapped a b Γ Γ2
  swap a b Γ Γ1 Γ2 sa sb wg w2 d ha hb =
      let u = frame (λ i. occurs i b) b Γ1 Γ2 Γ sb (λ i t. t) wg hb (record { eqs = λ i t. local a Γ Γ1 ha i (λ s. d i s t) }) in
      let v = frame (λ i. occurs i a) a Γ Γ1 u.out sa (λ i t. t) u.rising ha
      (record { eqs = λ i t. sym (local b Γ u.out u.typed i (λ s. d i t s)) }) in
      let e : v.out ≡ Γ2 = forest-ext v.out Γ2 v.rising w2 (λ i. by_bool (occurs i a)
      (λ t. sym (v.agree.eqs i t) ∙ sym (local b Γ1 Γ2 hb i (λ s. d i t s)))
      (λ f. local a u.out v.out v.typed i f ∙ by_bool (occurs i b) (λ s. sym (u.agree.eqs i s))
      (λ g. local b Γ u.out u.typed i g ∙ (sym (local a Γ Γ1 ha i f) ∙ sym (local b Γ1 Γ2 hb i g))))) in
      record { mid = u.out; rising_mid = u.rising; one = u.typed; two = subst (Typed q a u.out) e v.typed }
