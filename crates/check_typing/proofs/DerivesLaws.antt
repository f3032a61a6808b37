-- The published rules: they are the rules without limits whose last environment is within the limits, and the checker of
-- behaviours passes exactly what they derive, with that environment.
use Rattle.std.specs.Prelude.{◌≡◌, refl, ℕ, ◌≤◌, ◌+◌, max, Bool, true, false, not, ◌&&◌, ◌||◌, T, eqb}
use Rattle.std.proofs.Common.{sym, ap, subst, ◌∙◌, eqb→eq}
use Rattle.std.proofs.Math.Dec.{eqb_refl}
use Rattle.tree_forest.specs.Forest.{Forest, end, Tree, tree, Lookup, absent, present, find, nodes, levels, Rising, RisingTree, RisingLookup}
use Rattle.tree_forest.specs.Path.{Path, read, replace_at}
use Rattle.refusal.specs.declared.Refusal.TheVariants.{PathNotFirm, OperandType, TypeMisfit}
use Rattle.scalar.specs.Basic.{bool, void}
use Rattle.scalar.specs.Value.{Value, basic_of}
use Rattle.scalar.specs.Operator.{is_number}
use Rattle.network_syntax.specs.Syntax.{Mark, mark, Types, MessageType, Unary, logical_not, negate, Binary, add, subtract, less, equal, logical_and}
use Rattle.network_syntax.specs.Syntax.{Expression, constant, value_at, presence, unary, binary, input, output, Operation, Behaviour, nil, one_way}
use Rattle.network_syntax.specs.Syntax.{request_response, notification, solicit_response, if_then_else, while_do, sequence, parallel, assign, choice}
use Rattle.network_syntax.specs.Syntax.{waiting, answering, Branches, last_branch, branch}
use Rattle.check_subtyping.specs.Subtype.{root_basic, Subtypes, Subtype, is_subtype}
use Rattle.check_subtyping.proofs.SubtypeLaws.{subtype-trans, subtype-sound, subtype-complete}
use Rattle.check_subtyping.specs.Own.{own_types, Fits}
use Rattle.check_typing.specs.Result.{Attempt, yields, demand, and_then, passed}
use Rattle.check_typing.proofs.ResultLaws.{yields-inj, passed-inj, require-yields, require-holds, and_then-yields}
use Rattle.check_typing.specs.Environment.{within, is_in, read_firm, firm_above, missing_step, as_mandatory, basic_leaf, no_mandatory, place_at, place}
use Rattle.check_typing.specs.Environment.{assign_at, assign_to}
use Rattle.check_typing.proofs.EnvironmentLaws.{read_firm-yields, read_ok, read-rising, place-rising, sums, maxima}
use Rattle.check_typing.specs.ExpressionTyping.{unary_type, binary_type, expression_type}
use Rattle.check_typing.proofs.ExpressionRulesLaws.{firm-as, as-firm, firm-above-in, in-firm-above, firm-longest, longest-firm, type-sound, type-complete}
use Rattle.check_typing.specs.Rules.{permits, PlacedAt, Placed, AssignedAt, Assigned, Sends, Answers}
use Rattle.check_typing.specs.Rules.{Condition, Derives, DerivesBranches, WellSorted, WellSortedBranches}
use Rattle.check_typing.specs.Checker.{check}
use Rattle.check_typing.proofs.CheckerLaws.{check-typed, typed-check, check-within}
use Rattle.check_typing.specs.Typed.{TypedReply, TypedSend, TypedCondition, Typed, TypedBranches}
use Rattle.check_typing.proofs.TypedLaws.{local, typed-rising, grows, within-before, swap}
use Rattle.check_typing.specs.Occurs.{occurs}

-- The rule of placing and the function that places.
pub place-placed : (x : Path) (t : MessageType) (Γ Δ : Types) → place x t Γ ≡ yields Δ → T (within Δ) → Placed x t Γ Δ
place-placed x t Γ Δ h w =
    let u = require-yields (firm_above x Γ) PathNotFirm (place_at x t Γ (read x Γ)) h in
    (go (read x Γ) refl u.0 u.1, w)
  where
    go : (l : Lookup Mark) → read x Γ ≡ l → T (firm_above x Γ) → place_at x t Γ l ≡ yields Δ → PlacedAt x t Γ Δ l
    go absent r f e = (firm-longest x Γ r f, yields-inj e)
    go (present u) r f e =
        let v = require-yields (is_subtype t u) TypeMisfit (yields Γ) e in (firm-above-in x Γ u r f, subtype-sound t u v.0, yields-inj v.1)

pub placed-place : (x : Path) (t : MessageType) (Γ Δ : Types) → RisingTree t → Rising Γ → Placed x t Γ Δ → place x t Γ ≡ yields Δ
placed-place x t Γ Δ wt wg h = go (read x Γ) refl (read-rising x Γ wg) h.0
  where
    go : (l : Lookup Mark) → read x Γ ≡ l → RisingLookup l → PlacedAt x t Γ Δ l → demand (firm_above x Γ) PathNotFirm (place_at x t Γ l) ≡ yields Δ
    go absent r w e = require-holds (firm_above x Γ) PathNotFirm (place_at x t Γ absent) (longest-firm x Γ r e.0) ∙ ap yields e.1
    go (present u) r w e =
        require-holds (firm_above x Γ) PathNotFirm (place_at x t Γ (present u)) (in-firm-above x Γ e.0)
        ∙ (require-holds (is_subtype t u) TypeMisfit (yields Γ) (subtype-complete t u wt w e.1) ∙ ap yields e.2)

-- Likewise assigning.
pub assign-assigned : (x : Path) (b : ℕ) (Γ Δ : Types) → assign_to x b Γ ≡ yields Δ → T (within Δ) → Assigned x b Γ Δ
assign-assigned x b Γ Δ h w =
    let u = require-yields (firm_above x Γ) PathNotFirm (assign_at x b Γ (read x Γ)) h in
    (go (read x Γ) refl u.0 u.1, w)
  where
    go : (l : Lookup Mark) → read x Γ ≡ l → T (firm_above x Γ) → assign_at x b Γ l ≡ yields Δ → AssignedAt x b Γ Δ l
    go absent r f e = (firm-longest x Γ r f, yields-inj e)
    go (present (tree (mark m c) k)) r f e =
        let v = require-yields (eqb b c) TypeMisfit (demand (m || no_mandatory k) PathNotFirm (yields Γ)) e in
        let s = require-yields (m || no_mandatory k) PathNotFirm (yields Γ) v.1 in
        (firm-above-in x Γ (tree (mark m c) k) r f, eqb→eq b c v.0, s.0, yields-inj s.1)

pub assigned-assign : (x : Path) (b : ℕ) (Γ Δ : Types) → Assigned x b Γ Δ → assign_to x b Γ ≡ yields Δ
assigned-assign x b Γ Δ h = go (read x Γ) refl h.0
  where
    go : (l : Lookup Mark) → read x Γ ≡ l → AssignedAt x b Γ Δ l → demand (firm_above x Γ) PathNotFirm (assign_at x b Γ l) ≡ yields Δ
    go absent r e = require-holds (firm_above x Γ) PathNotFirm (assign_at x b Γ absent) (longest-firm x Γ r e.0) ∙ ap yields e.1
    go (present (tree (mark m c) k)) r e =
        require-holds (firm_above x Γ) PathNotFirm (assign_at x b Γ (present (tree (mark m c) k))) (in-firm-above x Γ e.0)
        ∙ (require-holds (eqb b c) TypeMisfit (demand (m || no_mandatory k) PathNotFirm (yields Γ)) (subst (λ (z : ℕ). T (eqb b z)) e.1 (eqb_refl b))
        ∙ (require-holds (m || no_mandatory k) PathNotFirm (yields Γ) e.2 ∙ ap yields e.3))

-- The type of an expression has its ids in order.
leaf-rising : (t : Bool) (b : ℕ) (n : MessageType) → demand t OperandType (yields (basic_leaf b)) ≡ yields n → RisingTree n
unfolding Rising
leaf-rising t b n h = subst RisingTree (yields-inj (require-yields t OperandType (yields (basic_leaf b)) h).1) tt

unary-rising : (o : Unary) (b : ℕ) (n : MessageType) → unary_type o b ≡ yields n → RisingTree n
unary-rising logical_not b n h = leaf-rising (eqb b bool) bool n h
unary-rising negate b n h = leaf-rising (is_number b) b n h

binary-rising : (o : Binary) (b c : ℕ) (n : MessageType) → binary_type o b c ≡ yields n → RisingTree n
binary-rising add b c n h = leaf-rising (is_number b && eqb b c) b n h
binary-rising subtract b c n h = leaf-rising (is_number b && eqb b c) b n h
binary-rising less b c n h = leaf-rising (is_number b && eqb b c) bool n h
binary-rising equal b c n h = leaf-rising (not (eqb b void) && eqb b c) bool n h
binary-rising logical_and b c n h = leaf-rising (eqb b bool && eqb c bool) bool n h

pub read_firm-rising : (x : Path) (Γ : Types) (n : MessageType) → Rising Γ → read_firm x Γ ≡ yields n → RisingTree n
read_firm-rising x Γ n w h = subst RisingLookup (read_firm-yields x Γ n h).1 (read-rising x Γ w)

pub type_of-rising : (Γ : Types) (e : Expression) (n : MessageType) → Rising Γ → expression_type Γ e ≡ yields n → RisingTree n
unfolding expression_type Rising
type_of-rising Γ (constant v) n w h = subst RisingTree (yields-inj h) tt
type_of-rising Γ (value_at x) n w h = read_firm-rising x Γ n w h
type_of-rising Γ (presence x) n w h = subst RisingTree (yields-inj (require-yields (is_in x Γ) PathNotFirm (yields (basic_leaf bool)) h).1) tt
type_of-rising Γ (unary o e) n w h =
    let u = and_then-yields (expression_type Γ e) (λ t. unary_type o (root_basic t)) h in unary-rising o (root_basic u.0) n u.2
type_of-rising Γ (binary o a b) n w h =
    let u = and_then-yields (expression_type Γ a) (λ t. and_then (expression_type Γ b) (λ s. binary_type o (root_basic t) (root_basic s))) h in
    let v = and_then-yields (expression_type Γ b) (λ s. binary_type o (root_basic u.0) (root_basic s)) u.2 in
    binary-rising o (root_basic u.0) (root_basic v.0) n v.2

-- The premises with relations and with tests.
to-sends : (Γ : Types) (e : Expression) (t : MessageType) → TypedSend Γ e t → Sends Γ e t
to-sends Γ e t h = (h.0, type-sound Γ e h.0 h.1, subtype-sound h.0 t h.2)

from-sends : (Γ : Types) (e : Expression) (t : MessageType) → RisingTree t → Rising Γ → Sends Γ e t → TypedSend Γ e t
from-sends Γ e t wt w h =
    let g = type-complete Γ h.1 in (h.0, g, subtype-complete h.0 t (type_of-rising Γ e h.0 w g) wt h.2)

to-answers : (c : Path) (Γ : Types) (t : MessageType) → TypedReply c Γ t → Answers c Γ t
to-answers c Γ t h = (h.0, firm-as c Γ h.0 h.1, subtype-sound h.0 t h.2)

from-answers : (c : Path) (Γ : Types) (t : MessageType) → RisingTree t → Rising Γ → Answers c Γ t → TypedReply c Γ t
from-answers c Γ t wt w h =
    let g = as-firm c Γ h.0 h.1 in (h.0, g, subtype-complete h.0 t (read_firm-rising c Γ h.0 w g) wt h.2)

to-condition : (Γ : Types) (e : Expression) → TypedCondition Γ e → Condition Γ e
to-condition Γ e h = (h.0, type-sound Γ e h.0 h.1, eqb→eq (root_basic h.0) bool h.2)

from-condition : (Γ : Types) (e : Expression) → Condition Γ e → TypedCondition Γ e
from-condition Γ e h = (h.0, type-complete Γ h.1, subst (λ (z : ℕ). T (eqb (root_basic h.0) z)) h.2 (eqb_refl (root_basic h.0)))

module _ (q : ℕ) where
  -- Typed without limits, to an environment within them: derived.
  mutual
    unfolding Typed Derives WellSorted

    pub typed-derives : (B : Behaviour) (Γ Δ : Types) → WellSorted B → Typed q B Γ Δ → T (within Δ) → Derives q B Γ Δ
    typed-derives (nil r) Γ Δ ws h t = h
    typed-derives (one_way r o x) Γ Δ ws h t = (h.0, place-placed x o.request Γ Δ h.1 t)
    typed-derives (request_response r o x c d) Γ Δ ws h t = (
      h.0,
      h.1,
      place-placed x o.request Γ h.1 h.2 (within-before q d h.1 Δ ws.1 h.3 t),
      typed-derives d h.1 Δ ws.1 h.3 t,
      to-answers c Δ o.reply h.4,
    )
    typed-derives (notification r o e) Γ Δ ws h t = (h.0, to-sends Γ e o.request h.1, h.2)
    typed-derives (solicit_response r o e x) Γ Δ ws h t = (h.0, to-sends Γ e o.request h.1, place-placed x o.reply Γ Δ h.2 t)
    typed-derives (if_then_else r e a b) Γ Δ ws h t =
        (to-condition Γ e h.0, typed-derives a Γ Δ ws.0 h.1 t, typed-derives b Γ Δ ws.1 h.2 t)
    typed-derives (while_do r e b) Γ Δ ws h t =
        (to-condition Γ e h.0, typed-derives b Γ Γ ws h.1 (subst (λ (z : Types). T (within z)) (sym h.2) t), h.2)
    typed-derives (sequence r a b) Γ Δ ws h t =
        (h.0, typed-derives a Γ h.0 ws.0 h.1 (within-before q b h.0 Δ ws.1 h.2 t), typed-derives b h.0 Δ ws.1 h.2 t)
    typed-derives (parallel r a b) Γ Δ ws h t =
        (h.0, h.1, typed-derives a Γ h.1 ws.0 h.2 (within-before q b h.1 Δ ws.1 h.3 t), typed-derives b h.1 Δ ws.1 h.3 t)
    typed-derives (assign r x e) Γ Δ ws h t = (h.0, type-sound Γ e h.0 h.1, assign-assigned x (root_basic h.0) Γ Δ h.2 t)
    typed-derives (choice r m) Γ Δ ws h t = typed-derives-branches m Γ Δ ws h t
    typed-derives (waiting r o x) Γ Δ ws h t = (h.0, place-placed x o.reply Γ Δ h.1 t)
    typed-derives (answering r o c d) Γ Δ ws h t = (h.0, typed-derives d Γ Δ ws.1 h.1 t, to-answers c Δ o.reply h.2)

    typed-derives-branches : (m : Branches) (Γ Δ : Types) → WellSortedBranches m → TypedBranches q m Γ Δ → T (within Δ) → DerivesBranches q m Γ Δ
    typed-derives-branches (last_branch r a b) Γ Δ ws h t =
        (h.0, typed-derives a Γ h.0 ws.0 h.1 (within-before q b h.0 Δ ws.1 h.2 t), typed-derives b h.0 Δ ws.1 h.2 t)
    typed-derives-branches (branch r a b m) Γ Δ ws h t = (
      h.0,
      typed-derives a Γ h.0 ws.0 h.1 (within-before q b h.0 Δ ws.1 h.2 t),
      typed-derives b h.0 Δ ws.1 h.2 t,
      typed-derives-branches m Γ Δ ws.2 h.3 t,
    )

  -- Derived: typed without limits.
  mutual
    unfolding Typed Derives WellSorted

    pub derives-typed : (B : Behaviour) (Γ Δ : Types) → WellSorted B → Rising Γ → Derives q B Γ Δ → Typed q B Γ Δ
    derives-typed (nil r) Γ Δ ws w h = h
    derives-typed (one_way r o x) Γ Δ ws w h = (h.0, placed-place x o.request Γ Δ ws.0 w h.1)
    derives-typed (request_response r o x c d) Γ Δ ws w h =
        let p = placed-place x o.request Γ h.1 ws.0.0 w h.2 in
        let w1 = place-rising x o.request Γ h.1 ws.0.0 w p in
        let u = derives-typed d h.1 Δ ws.1 w1 h.3 in
        (h.0, h.1, p, u, from-answers c Δ o.reply ws.0.1 (typed-rising q d h.1 Δ ws.1 w1 u) h.4)
    derives-typed (notification r o e) Γ Δ ws w h = (h.0, from-sends Γ e o.request ws.0 w h.1, h.2)
    derives-typed (solicit_response r o e x) Γ Δ ws w h =
        (h.0, from-sends Γ e o.request ws.0 w h.1, placed-place x o.reply Γ Δ ws.1 w h.2)
    derives-typed (if_then_else r e a b) Γ Δ ws w h =
        (from-condition Γ e h.0, derives-typed a Γ Δ ws.0 w h.1, derives-typed b Γ Δ ws.1 w h.2)
    derives-typed (while_do r e b) Γ Δ ws w h = (from-condition Γ e h.0, derives-typed b Γ Γ ws w h.1, h.2)
    derives-typed (sequence r a b) Γ Δ ws w h =
        let u = derives-typed a Γ h.0 ws.0 w h.1 in
        (h.0, u, derives-typed b h.0 Δ ws.1 (typed-rising q a Γ h.0 ws.0 w u) h.2)
    derives-typed (parallel r a b) Γ Δ ws w h =
        let u = derives-typed a Γ h.1 ws.0 w h.2 in
        (h.0, h.1, u, derives-typed b h.1 Δ ws.1 (typed-rising q a Γ h.1 ws.0 w u) h.3)
    derives-typed (assign r x e) Γ Δ ws w h = (h.0, type-complete Γ h.1, assigned-assign x (root_basic h.0) Γ Δ h.2)
    derives-typed (choice r m) Γ Δ ws w h = derives-typed-branches m Γ Δ ws w h
    derives-typed (waiting r o x) Γ Δ ws w h = (h.0, placed-place x o.reply Γ Δ ws.1 w h.1)
    derives-typed (answering r o c d) Γ Δ ws w h =
        let u = derives-typed d Γ Δ ws.1 w h.1 in
        (h.0, u, from-answers c Δ o.reply ws.0.1 (typed-rising q d Γ Δ ws.1 w u) h.2)

    derives-typed-branches : (m : Branches) (Γ Δ : Types) → WellSortedBranches m → Rising Γ → DerivesBranches q m Γ Δ → TypedBranches q m Γ Δ
    derives-typed-branches (last_branch r a b) Γ Δ ws w h =
        let u = derives-typed a Γ h.0 ws.0 w h.1 in
        (h.0, u, derives-typed b h.0 Δ ws.1 (typed-rising q a Γ h.0 ws.0 w u) h.2)
    derives-typed-branches (branch r a b m) Γ Δ ws w h =
        let u = derives-typed a Γ h.0 ws.0 w h.1 in
        (h.0, u, derives-typed b h.0 Δ ws.1 (typed-rising q a Γ h.0 ws.0 w u) h.2, derives-typed-branches m Γ Δ ws.2 w h.3)

  -- Derived from an environment within the limits: the last is within them.
  mutual
    unfolding Derives

    pub derives-within : (B : Behaviour) (Γ Δ : Types) → T (within Γ) → Derives q B Γ Δ → T (within Δ)
    derives-within (nil r) Γ Δ t h = subst (λ (z : Types). T (within z)) h t
    derives-within (one_way r o x) Γ Δ t h = h.1.1
    derives-within (request_response r o x c d) Γ Δ t h = derives-within d h.1 Δ h.2.1 h.3
    derives-within (notification r o e) Γ Δ t h = subst (λ (z : Types). T (within z)) h.2 t
    derives-within (solicit_response r o e x) Γ Δ t h = h.2.1
    derives-within (if_then_else r e a b) Γ Δ t h = derives-within a Γ Δ t h.1
    derives-within (while_do r e b) Γ Δ t h = subst (λ (z : Types). T (within z)) h.2 t
    derives-within (sequence r a b) Γ Δ t h = derives-within b h.0 Δ (derives-within a Γ h.0 t h.1) h.2
    derives-within (parallel r a b) Γ Δ t h = derives-within b h.1 Δ (derives-within a Γ h.1 t h.2) h.3
    derives-within (assign r x e) Γ Δ t h = h.2.1
    derives-within (choice r m) Γ Δ t h = derives-within-branches m Γ Δ t h
    derives-within (waiting r o x) Γ Δ t h = h.1.1
    derives-within (answering r o c d) Γ Δ t h = derives-within d Γ Δ t h.1

    derives-within-branches : (m : Branches) (Γ Δ : Types) → T (within Γ) → DerivesBranches q m Γ Δ → T (within Δ)
    derives-within-branches (last_branch r a b) Γ Δ t h = derives-within b h.0 Δ (derives-within a Γ h.0 t h.1) h.2
    derives-within-branches (branch r a b m) Γ Δ t h = derives-within-branches m Γ Δ t h.3

  pub derives-rising : (B : Behaviour) (Γ Δ : Types) → WellSorted B → Rising Γ → Derives q B Γ Δ → Rising Δ
  derives-rising B Γ Δ ws w h = typed-rising q B Γ Δ ws w (derives-typed B Γ Δ ws w h)

  -- The checker passes exactly what the rules derive, with that environment.
  pub check-derives : (B : Behaviour) (Γ Δ : Types) → WellSorted B → T (within Γ) → check q B Γ ≡ passed Δ → Derives q B Γ Δ
  check-derives B Γ Δ ws t h = typed-derives B Γ Δ ws (check-typed q B Γ Δ h) (check-within q B Γ Δ t h)

  pub derives-check : (B : Behaviour) (Γ Δ : Types) → WellSorted B → Rising Γ → T (within Γ) → Derives q B Γ Δ → check q B Γ ≡ passed Δ
  derives-check B Γ Δ ws w t h = typed-check q B Γ Δ ws (derives-typed B Γ Δ ws w h) (derives-within B Γ Δ t h)

  -- A behaviour gives one environment.
  pub derives-one : (B : Behaviour) (Γ Δ Θ : Types) → WellSorted B → Rising Γ → T (within Γ) → Derives q B Γ Δ → Derives q B Γ Θ → Δ ≡ Θ
  derives-one B Γ Δ Θ ws w t h k = passed-inj (sym (derives-check B Γ Δ ws w t h) ∙ derives-check B Γ Θ ws w t k)

  -- What the checker passes has its ids in order.
  pub check-rising : (B : Behaviour) (Γ Δ : Types) → WellSorted B → Rising Γ → check q B Γ ≡ passed Δ → Rising Δ
  check-rising B Γ Δ ws w h = typed-rising q B Γ Δ ws w (check-typed q B Γ Δ h)

  -- An environment only grows, in nodes and in levels.
  pub derives-grows : (B : Behaviour) (Γ Δ : Types) → WellSorted B → Rising Γ → Derives q B Γ Δ → (nodes Γ ≤ nodes Δ) × (levels Γ ≤ levels Δ)
  derives-grows B Γ Δ ws w h =
      let u = derives-typed B Γ Δ ws w h in (grows q (◌+◌) sums B Γ Δ ws u, grows q max maxima B Γ Δ ws u)

  -- A behaviour changes only the roots that occur in it.
  pub derives-local : (B : Behaviour) (Γ Δ : Types) → WellSorted B → Rising Γ → Derives q B Γ Δ → (i : ℕ) → (T (occurs i B) → ⊥)
      → find i Δ ≡ find i Γ
  derives-local B Γ Δ ws w h = local q B Γ Δ (derives-typed B Γ Δ ws w h)

  -- The sides of a parallel may swap.
  pub derives-swap : (r : ℕ) (a b : Behaviour) (Γ Δ : Types) → WellSorted a → WellSorted b → Rising Γ → T (within Γ)
      → Derives q (parallel r a b) Γ Δ → Derives q (parallel r b a) Γ Δ
  unfolding Derives
  derives-swap r a b Γ Δ wa wb w t h =
      let u = derives-typed a Γ h.1 wa w h.2 in
      let w1 = typed-rising q a Γ h.1 wa w u in
      let v = derives-typed b h.1 Δ wb w1 h.3 in
      let td = derives-within b h.1 Δ (derives-within a Γ h.1 t h.2) h.3 in
      let s = swap q a b Γ h.1 Δ wa wb w (typed-rising q b h.1 Δ wb w1 v) h.0 u v in (
        (λ i x y. h.0 i y x),
        s.mid,
        typed-derives b Γ s.mid wb s.one (within-before q a s.mid Δ wa s.two td),
        typed-derives a s.mid Δ wa s.two td,
      )

-- What a reply reads is there and fits the reply type.
pub answers-ok : (c : Path) (F : Forest Value) (Γ : Types) (t : MessageType) → Subtypes (own_types F) Γ → Answers c Γ t
    → (y : Tree Value) × (read c F ≡ present y) × Fits y t
answers-ok c F Γ t h a = let u = read_ok c F Γ a.0 h (as-firm c Γ a.0 a.1) in (u.0, u.1, subtype-trans u.2 a.2)
