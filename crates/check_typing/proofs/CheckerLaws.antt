-- The checker and the rules without limits: each passes what the other does. (DerivesLaws has the published rules.)
use Rattle.std.specs.Prelude.{◌≡◌, refl, ℕ, Bool, true, false, ◌&&◌, ◌||◌, T, eqb}
use Rattle.std.proofs.Common.{sym, ap, subst, ◌∙◌, eqb→eq}
use Rattle.std.proofs.Math.Dec.{eqb_refl}
use Rattle.basics.specs.TestLaws.{and_i, and_l, and_r}
use Rattle.tree_forest.specs.Forest.{end, node, Rising}
use Rattle.tree_forest.specs.Path.{Path}
use Rattle.refusal.specs.declared.Refusal.TheVariants.{WrongOperation, OperandType, TypeMisfit, EnvironmentsDiffer, SharedRoot, EnvironmentTooLarge}
use Rattle.scalar.specs.Basic.{bool}
use Rattle.network_syntax.specs.Syntax.{mark, Types, MessageType, Expression, input, output, Operation, Behaviour, nil, one_way, request_response}
use Rattle.network_syntax.specs.Syntax.{notification, solicit_response, if_then_else, while_do, sequence, parallel, assign, choice}
use Rattle.network_syntax.specs.Syntax.{waiting, answering, Branches, last_branch, branch}
use Rattle.check_subtyping.specs.Subtype.{root_basic, is_subtype}
use Rattle.check_typing.specs.Result.{Attempt, yields, demand, and_then, passed, with_row, next}
use Rattle.check_typing.proofs.ResultLaws.{yields-inj, passed-inj, require-yields, require-holds, at_row-passed, and_then-yields}
use Rattle.check_typing.proofs.ResultLaws.{and_then-holds, next-passed, next-holds}
use Rattle.check_typing.specs.Environment.{within, read_firm, place, assign_to}
use Rattle.check_typing.specs.ExpressionTyping.{expression_type}
use Rattle.check_typing.specs.Occurs.{no_shared_root}
use Rattle.check_typing.proofs.OccursLaws.{no-shared-sound, no-shared-complete}
use Rattle.check_typing.specs.Rules.{same_bool, permits, WellSorted, WellSortedBranches}
use Rattle.check_typing.specs.Checker.{same_types, limited, sends, answers, condition, agreeing, check, check_branches}
use Rattle.check_typing.specs.Typed.{TypedReply, TypedSend, TypedCondition, Typed, TypedBranches}
use Rattle.check_typing.proofs.TypedLaws.{within-before}

pub same_bool-eq : (m n : Bool) → T (same_bool m n) → m ≡ n
same_bool-eq true true t = refl
same_bool-eq true false t = absurd t
same_bool-eq false true t = absurd t
same_bool-eq false false t = refl

pub same_bool-refl : (m : Bool) → T (same_bool m m)
same_bool-refl true = tt
same_bool-refl false = tt

pub same_types-eq : (F G : Types) → T (same_types F G) → F ≡ G
unfolding same_types
same_types-eq end end t = refl
same_types-eq end (node j b l s) t = absurd t
same_types-eq (node i a k r) end t = absurd t
same_types-eq (node i (mark m a) k r) (node j (mark n b) l s) t =
    let t1 = and_r (eqb i j) (same_bool m n && (eqb a b && (same_types k l && same_types r s))) t in
    let t2 = and_r (same_bool m n) (eqb a b && (same_types k l && same_types r s)) t1 in
    let t3 = and_r (eqb a b) (same_types k l && same_types r s) t2 in
    let e1 = eqb→eq i j (and_l (eqb i j) (same_bool m n && (eqb a b && (same_types k l && same_types r s))) t) in
    let e2 = same_bool-eq m n (and_l (same_bool m n) (eqb a b && (same_types k l && same_types r s)) t1) in
    let e3 = eqb→eq a b (and_l (eqb a b) (same_types k l && same_types r s) t2) in
    let e4 = same_types-eq k l (and_l (same_types k l) (same_types r s) t3) in
    let e5 = same_types-eq r s (and_r (same_types k l) (same_types r s) t3) in
    cc

pub same_types-refl : (F : Types) → T (same_types F F)
unfolding same_types
same_types-refl end = tt
same_types-refl (node i (mark m a) k r) =
    and_i (eqb i i) (same_bool m m && (eqb a a && (same_types k k && same_types r r))) (eqb_refl i)
    (and_i (same_bool m m) (eqb a a && (same_types k k && same_types r r)) (same_bool-refl m)
    (and_i (eqb a a) (same_types k k && same_types r r) (eqb_refl a) (and_i (same_types k k) (same_types r r) (same_types-refl k) (same_types-refl r))))

limited-yields : (r : Attempt Types) (Δ : Types) → limited r ≡ yields Δ → (r ≡ yields Δ) × T (within Δ)
limited-yields r Δ h =
    let u = and_then-yields r (λ Γ. demand (within Γ) EnvironmentTooLarge (yields Γ)) h in
    let v = require-yields (within u.0) EnvironmentTooLarge (yields u.0) u.2 in
    (u.1 ∙ v.1, subst (λ (z : Types). T (within z)) (yields-inj v.1) v.0)

placed-yields : (r : ℕ) (g : Bool) (x : Attempt Types) (Δ : Types) → with_row r (demand g WrongOperation (limited x)) ≡ passed Δ
    → T g × (x ≡ yields Δ) × T (within Δ)
placed-yields r g x Δ h =
    let u = require-yields g WrongOperation (limited x) (at_row-passed r _ Δ h) in
    let v = limited-yields x Δ u.1 in (u.0, v.0, v.1)

sends-yields : (Γ Δ : Types) (e : Expression) (t : MessageType) → sends Γ e t ≡ yields Δ → TypedSend Γ e t × (Γ ≡ Δ)
sends-yields Γ Δ e t h =
    let u = and_then-yields (expression_type Γ e) (λ n. demand (is_subtype n t) TypeMisfit (yields Γ)) h in
    let v = require-yields (is_subtype u.0 t) TypeMisfit (yields Γ) u.2 in ((u.0, u.1, v.0), yields-inj v.1)

answers-yields : (c : Path) (Γ Δ : Types) (t : MessageType) → answers c Γ t ≡ yields Δ → TypedReply c Γ t × (Γ ≡ Δ)
answers-yields c Γ Δ t h =
    let u = and_then-yields (read_firm c Γ) (λ n. demand (is_subtype n t) TypeMisfit (yields Γ)) h in
    let v = require-yields (is_subtype u.0 t) TypeMisfit (yields Γ) u.2 in ((u.0, u.1, v.0), yields-inj v.1)

condition-yields : (Γ Δ : Types) (e : Expression) → condition Γ e ≡ yields Δ → TypedCondition Γ e × (Γ ≡ Δ)
condition-yields Γ Δ e h =
    let u = and_then-yields (expression_type Γ e) (λ n. demand (eqb (root_basic n) bool) OperandType (yields Γ)) h in
    let v = require-yields (eqb (root_basic u.0) bool) OperandType (yields Γ) u.2 in ((u.0, u.1, v.0), yields-inj v.1)

agreeing-yields : (r : ℕ) (Θ Δ Γ : Types) → with_row r (agreeing Θ Δ) ≡ passed Γ → (Θ ≡ Γ) × (Δ ≡ Γ)
agreeing-yields r Θ Δ Γ h =
    let u = require-yields (same_types Θ Δ) EnvironmentsDiffer (yields Δ) (at_row-passed r _ Γ h) in
    let e = same_types-eq Θ Δ u.0 in (e ∙ yields-inj u.1, yields-inj u.1)

limited-holds : (x : Attempt Types) (Δ : Types) → x ≡ yields Δ → T (within Δ) → limited x ≡ yields Δ
limited-holds x Δ h t = and_then-holds x (λ Γ. demand (within Γ) EnvironmentTooLarge (yields Γ)) Δ h
    ∙ require-holds (within Δ) EnvironmentTooLarge (yields Δ) t

placed-passes : (r : ℕ) (g : Bool) (x : Attempt Types) (Δ : Types) → T g → x ≡ yields Δ → T (within Δ)
    → with_row r (demand g WrongOperation (limited x)) ≡ passed Δ
placed-passes r g x Δ p h t = ap (with_row r) (require-holds g WrongOperation (limited x) p ∙ limited-holds x Δ h t)

sends-passes : (r : ℕ) (g : Bool) (Γ : Types) (e : Expression) (t : MessageType) → T g → TypedSend Γ e t
    → with_row r (demand g WrongOperation (sends Γ e t)) ≡ passed Γ
sends-passes r g Γ e t p h =
    ap (with_row r)
    (require-holds g WrongOperation (sends Γ e t) p
    ∙ (and_then-holds (expression_type Γ e) (λ n. demand (is_subtype n t) TypeMisfit (yields Γ)) h.0 h.1
    ∙ require-holds (is_subtype h.0 t) TypeMisfit (yields Γ) h.2))

answers-passes : (r : ℕ) (c : Path) (Γ : Types) (t : MessageType) → TypedReply c Γ t → with_row r (answers c Γ t) ≡ passed Γ
answers-passes r c Γ t h =
    ap (with_row r) (and_then-holds (read_firm c Γ) (λ n. demand (is_subtype n t) TypeMisfit (yields Γ)) h.0 h.1
    ∙ require-holds (is_subtype h.0 t) TypeMisfit (yields Γ) h.2)

condition-passes : (r : ℕ) (Γ : Types) (e : Expression) → TypedCondition Γ e → with_row r (condition Γ e) ≡ passed Γ
condition-passes r Γ e h =
    ap (with_row r) (and_then-holds (expression_type Γ e) (λ n. demand (eqb (root_basic n) bool) OperandType (yields Γ)) h.0 h.1
    ∙ require-holds (eqb (root_basic h.0) bool) OperandType (yields Γ) h.2)

agreeing-passes : (r : ℕ) (Γ : Types) → with_row r (agreeing Γ Γ) ≡ passed Γ
agreeing-passes r Γ = ap (with_row r) (require-holds (same_types Γ Γ) EnvironmentsDiffer (yields Γ) (same_types-refl Γ))

module _ (q : ℕ) where
  -- What the checker passes, the rules type.
  mutual
    unfolding check Typed

    pub check-typed : (B : Behaviour) (Γ Δ : Types) → check q B Γ ≡ passed Δ → Typed q B Γ Δ
    check-typed (nil r) Γ Δ h = cc
    check-typed (one_way r o x) Γ Δ h = let u = placed-yields r (permits q input false o) (place x o.request Γ) Δ h in (u.0, u.1)
    check-typed (request_response r o x y d) Γ Δ h =
        let u = next-passed _ _ Δ h in
        let v = next-passed _ _ Δ u.2 in
        let p = placed-yields r (permits q input true o) (place x o.request Γ) u.0 u.1 in
        let s = answers-yields y v.0 Δ o.reply (at_row-passed r _ Δ v.2) in (
          p.0,
          u.0,
          p.1,
          subst (Typed q d u.0) s.1 (check-typed d u.0 v.0 v.1),
          subst (λ (z : Types). TypedReply y z o.reply) s.1
              s.0,
        )
    check-typed (notification r o e) Γ Δ h =
        let u = require-yields (permits q output false o) WrongOperation (sends Γ e o.request) (at_row-passed r _ Δ h) in
        let v = sends-yields Γ Δ e o.request u.1 in (u.0, v.0, v.1)
    check-typed (solicit_response r o e x) Γ Δ h =
        let u = next-passed _ _ Δ h in
        let v = require-yields (permits q output true o) WrongOperation (sends Γ e o.request) (at_row-passed r _ u.0 u.1) in
        let w = sends-yields Γ u.0 e o.request v.1 in
        (v.0, w.0, (limited-yields (place x o.reply Γ) Δ (at_row-passed r _ Δ u.2)).0)
    check-typed (if_then_else r e a b) Γ Δ h =
        let u = next-passed _ _ Δ h in
        let k = condition-yields Γ u.0 e (at_row-passed r _ u.0 u.1) in
        let v = next-passed _ _ Δ u.2 in
        let w = next-passed _ _ Δ v.2 in
        let s = agreeing-yields r w.0 v.0 Δ w.2 in
        (k.0, subst (Typed q a Γ) s.1 (check-typed a Γ v.0 v.1), subst (Typed q b Γ) s.0 (check-typed b Γ w.0 w.1))
    check-typed (while_do r e b) Γ Δ h =
        let u = next-passed _ _ Δ h in
        let k = condition-yields Γ u.0 e (at_row-passed r _ u.0 u.1) in
        let v = next-passed _ _ Δ u.2 in
        let s = agreeing-yields r v.0 Γ Δ v.2 in
        (k.0, subst (Typed q b Γ) (s.0 ∙ sym s.1) (check-typed b Γ v.0 v.1), s.1)
    check-typed (sequence r a b) Γ Δ h = let u = next-passed _ _ Δ h in (u.0, check-typed a Γ u.0 u.1, check-typed b u.0 Δ u.2)
    check-typed (parallel r a b) Γ Δ h =
        let z = next-passed _ _ Δ h in
        let d = require-yields (no_shared_root a b) SharedRoot (yields Γ) (at_row-passed r _ z.0 z.1) in
        let u = next-passed _ _ Δ z.2 in
        (no-shared-sound a b d.0, u.0, check-typed a Γ u.0 u.1, check-typed b u.0 Δ u.2)
    check-typed (assign r x e) Γ Δ h =
        let u = and_then-yields (expression_type Γ e) (λ n. limited (assign_to x (root_basic n) Γ)) (at_row-passed r _ Δ h) in
        (u.0, u.1, (limited-yields (assign_to x (root_basic u.0) Γ) Δ u.2).0)
    check-typed (choice r m) Γ Δ h = check-typed-branches r m Γ Δ h
    check-typed (waiting r o x) Γ Δ h = let u = placed-yields r (permits q output true o) (place x o.reply Γ) Δ h in (u.0, u.1)
    check-typed (answering r o y d) Γ Δ h =
        let u = next-passed _ _ Δ h in
        let g = require-yields (permits q input true o) WrongOperation (yields Γ) (at_row-passed r _ u.0 u.1) in
        let v = next-passed _ _ Δ u.2 in
        let s = answers-yields y v.0 Δ o.reply (at_row-passed r _ Δ v.2) in
        (g.0, subst (Typed q d Γ) s.1 (check-typed d Γ v.0 v.1), subst (λ (z : Types). TypedReply y z o.reply) s.1 s.0)

    check-typed-branches : (c : ℕ) (m : Branches) (Γ Δ : Types) → check_branches q c m Γ ≡ passed Δ → TypedBranches q m Γ Δ
    check-typed-branches c (last_branch r a b) Γ Δ h =
        let u = next-passed _ _ Δ h in (u.0, check-typed a Γ u.0 u.1, check-typed b u.0 Δ u.2)
    check-typed-branches c (branch r a b m) Γ Δ h =
        let u = next-passed _ _ Δ h in
        let x = next-passed _ _ u.0 u.1 in
        let w = next-passed _ _ Δ u.2 in
        let s = agreeing-yields c w.0 u.0 Δ w.2 in (
          x.0,
          check-typed a Γ x.0 x.1,
          subst (Typed q b x.0) s.1 (check-typed b x.0 u.0 x.2),
          subst (TypedBranches q m Γ) s.0 (check-typed-branches c m Γ w.0 w.1),
        )

  -- What the rules type, with the last environment within the limits, the checker passes.
  mutual
    unfolding check Typed WellSorted

    pub typed-check : (B : Behaviour) (Γ Δ : Types) → WellSorted B → Typed q B Γ Δ → T (within Δ) → check q B Γ ≡ passed Δ
    typed-check (nil r) Γ Δ ws h t = ap passed h
    typed-check (one_way r o x) Γ Δ ws h t = placed-passes r (permits q input false o) (place x o.request Γ) Δ h.0 h.1 t
    typed-check (request_response r o x y d) Γ Δ ws h t =
        next-holds _ _ h.1
        (placed-passes r (permits q input true o) (place x o.request Γ) h.1 h.0 h.2 (within-before q d h.1 Δ ws.1 h.3 t))
        ∙ (next-holds _ _ Δ (typed-check d h.1 Δ ws.1 h.3 t) ∙ answers-passes r y Δ o.reply h.4)
    typed-check (notification r o e) Γ Δ ws h t = sends-passes r (permits q output false o) Γ e o.request h.0 h.1 ∙ ap passed h.2
    typed-check (solicit_response r o e x) Γ Δ ws h t =
        next-holds _ _ Γ (sends-passes r (permits q output true o) Γ e o.request h.0 h.1)
        ∙ ap (with_row r) (limited-holds (place x o.reply Γ) Δ h.2 t)
    typed-check (if_then_else r e a b) Γ Δ ws h t =
        next-holds _ _ Γ (condition-passes r Γ e h.0)
        ∙ (next-holds _ _ Δ (typed-check a Γ Δ ws.0 h.1 t) ∙ (next-holds _ _ Δ (typed-check b Γ Δ ws.1 h.2 t) ∙ agreeing-passes r Δ))
    typed-check (while_do r e b) Γ Δ ws h t =
        let t2 : T (within Γ) = subst (λ (z : Types). T (within z)) (sym h.2) t in
        next-holds _ _ Γ (condition-passes r Γ e h.0)
        ∙ (next-holds _ _ Γ (typed-check b Γ Γ ws h.1 t2) ∙ (agreeing-passes r Γ ∙ ap passed h.2))
    typed-check (sequence r a b) Γ Δ ws h t =
        next-holds _ _ h.0 (typed-check a Γ h.0 ws.0 h.1 (within-before q b h.0 Δ ws.1 h.2 t))
        ∙ typed-check b h.0 Δ ws.1 h.2 t
    typed-check (parallel r a b) Γ Δ ws h t =
        next-holds _ _ Γ (ap (with_row r) (require-holds (no_shared_root a b) SharedRoot (yields Γ) (no-shared-complete a b h.0)))
        ∙ (next-holds _ _ h.1 (typed-check a Γ h.1 ws.0 h.2 (within-before q b h.1 Δ ws.1 h.3 t))
        ∙ typed-check b h.1 Δ ws.1 h.3 t)
    typed-check (assign r x e) Γ Δ ws h t =
        ap (with_row r) (and_then-holds (expression_type Γ e) (λ n. limited (assign_to x (root_basic n) Γ)) h.0 h.1
        ∙ limited-holds (assign_to x (root_basic h.0) Γ) Δ h.2 t)
    typed-check (choice r m) Γ Δ ws h t = typed-check-branches r m Γ Δ ws h t
    typed-check (waiting r o x) Γ Δ ws h t = placed-passes r (permits q output true o) (place x o.reply Γ) Δ h.0 h.1 t
    typed-check (answering r o y d) Γ Δ ws h t =
        next-holds _ _ Γ (ap (with_row r) (require-holds (permits q input true o) WrongOperation (yields Γ) h.0))
        ∙ (next-holds _ _ Δ (typed-check d Γ Δ ws.1 h.1 t) ∙ answers-passes r y Δ o.reply h.2)

    typed-check-branches : (c : ℕ) (m : Branches) (Γ Δ : Types) → WellSortedBranches m → TypedBranches q m Γ Δ → T (within Δ)
        → check_branches q c m Γ ≡ passed Δ
    typed-check-branches c (last_branch r a b) Γ Δ ws h t =
        next-holds _ _ h.0 (typed-check a Γ h.0 ws.0 h.1 (within-before q b h.0 Δ ws.1 h.2 t))
        ∙ typed-check b h.0 Δ ws.1 h.2 t
    typed-check-branches c (branch r a b m) Γ Δ ws h t =
        next-holds _ _ Δ (next-holds _ _ h.0 (typed-check a Γ h.0 ws.0 h.1 (within-before q b h.0 Δ ws.1 h.2 t))
        ∙ typed-check b h.0 Δ ws.1 h.2 t)
        ∙ (next-holds _ _ Δ (typed-check-branches c m Γ Δ ws.2 h.3 t) ∙ agreeing-passes c Δ)

  -- What the checker passes stays within the limits.
  mutual
    unfolding check

    pub check-within : (B : Behaviour) (Γ Δ : Types) → T (within Γ) → check q B Γ ≡ passed Δ → T (within Δ)
    check-within (nil r) Γ Δ t h = subst (λ (z : Types). T (within z)) (passed-inj h) t
    check-within (one_way r o x) Γ Δ t h = (placed-yields r (permits q input false o) (place x o.request Γ) Δ h).2
    check-within (request_response r o x y d) Γ Δ t h =
        let u = next-passed _ _ Δ h in
        let v = next-passed _ _ Δ u.2 in
        let p = placed-yields r (permits q input true o) (place x o.request Γ) u.0 u.1 in
        let s = answers-yields y v.0 Δ o.reply (at_row-passed r _ Δ v.2) in
        subst (λ (z : Types). T (within z)) s.1 (check-within d u.0 v.0 p.2 v.1)
    check-within (notification r o e) Γ Δ t h =
        let u = require-yields (permits q output false o) WrongOperation (sends Γ e o.request) (at_row-passed r _ Δ h) in
        subst (λ (z : Types). T (within z)) (sends-yields Γ Δ e o.request u.1).1 t
    check-within (solicit_response r o e x) Γ Δ t h = let u =
        next-passed _ _ Δ h in (limited-yields (place x o.reply Γ) Δ (at_row-passed r _ Δ u.2)).1
    check-within (if_then_else r e a b) Γ Δ t h =
        let u = next-passed _ _ Δ h in
        let v = next-passed _ _ Δ u.2 in
        let w = next-passed _ _ Δ v.2 in
        subst (λ (z : Types). T (within z)) (agreeing-yields r w.0 v.0 Δ w.2).1 (check-within a Γ v.0 t v.1)
    check-within (while_do r e b) Γ Δ t h =
        let u = next-passed _ _ Δ h in
        let v = next-passed _ _ Δ u.2 in
        subst (λ (z : Types). T (within z)) (agreeing-yields r v.0 Γ Δ v.2).1 t
    check-within (sequence r a b) Γ Δ t h = let u = next-passed _ _ Δ h in check-within b u.0 Δ (check-within a Γ u.0 t u.1) u.2
    check-within (parallel r a b) Γ Δ t h =
        let z = next-passed _ _ Δ h in let u = next-passed _ _ Δ z.2 in check-within b u.0 Δ (check-within a Γ u.0 t u.1) u.2
    check-within (assign r x e) Γ Δ t h =
        let u = and_then-yields (expression_type Γ e) (λ n. limited (assign_to x (root_basic n) Γ)) (at_row-passed r _ Δ h) in (limited-yields
        (assign_to x (root_basic u.0) Γ) Δ u.2).1
    check-within (choice r m) Γ Δ t h = check-within-branches r m Γ Δ t h
    check-within (waiting r o x) Γ Δ t h = (placed-yields r (permits q output true o) (place x o.reply Γ) Δ h).2
    check-within (answering r o y d) Γ Δ t h =
        let u = next-passed _ _ Δ h in
        let v = next-passed _ _ Δ u.2 in
        let s = answers-yields y v.0 Δ o.reply (at_row-passed r _ Δ v.2) in
        subst (λ (z : Types). T (within z)) s.1 (check-within d Γ v.0 t v.1)

    check-within-branches : (c : ℕ) (m : Branches) (Γ Δ : Types) → T (within Γ) → check_branches q c m Γ ≡ passed Δ → T (within Δ)
    check-within-branches c (last_branch r a b) Γ Δ t h =
        let u = next-passed _ _ Δ h in check-within b u.0 Δ (check-within a Γ u.0 t u.1) u.2
    check-within-branches c (branch r a b m) Γ Δ t h =
        let u = next-passed _ _ Δ h in
        let w = next-passed _ _ Δ u.2 in
        let s = agreeing-yields c w.0 u.0 Δ w.2 in
        subst (λ (z : Types). T (within z)) s.0 (check-within-branches c m Γ w.0 t w.1)
