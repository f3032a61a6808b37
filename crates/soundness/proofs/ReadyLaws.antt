-- Reached rows are what the stepper finds: `reach` finds a reached row by its number, and what it finds is reached (ReachLaws).
use Rattle.std.specs.Prelude.{◌≡◌, refl, ℕ, zero, suc, Bool, true, false, T, eqb}
use Rattle.std.proofs.Common.{sym, ap, subst, ◌∙◌, arith, eqb→eq}
use Rattle.std.proofs.Math.Dec.{eqb_refl}
use Rattle.basics.specs.TestLaws.{not-T-false, of_t}
use Rattle.network_syntax.specs.Syntax.{Behaviour, request_response, if_then_else, while_do, sequence, parallel, choice, Branches, last_branch, branch}
use Rattle.network_syntax.specs.Rows.{row_of, has_row, has_row_in, Local, assigns, decides, repeats, from_local}
use Rattle.network_syntax.specs.ViewLaws.{own_row}
use Rattle.network.specs.Shapes.{Outside, EachRowOnce}
use Rattle.state.specs.Session.{Progress, Progresses}
use Rattle.move_rules.specs.Readiness.{unless_received, unless_taken, then_or_else, is_done, Reached}
use Rattle.move_rules.specs.Readiness.{unreached, reached, offered, here, or_else, only_if, offer, reach}
use Rattle.move_rules.specs.Readiness.{reach_branch, served}
use Rattle.soundness.specs.Parts.{branch_at, Clean, Reaches, at_self, at_first, at_second, at_left, at_right, at_then, at_else, at_loop}
use Rattle.soundness.specs.Parts.{at_served, at_branch}
use Rattle.soundness.proofs.RowLaws.{in-first, in-branches, taken-at, branch-rows, branch-once, branch-clean, reaches-rows}
use Rattle.soundness.proofs.ReachLaws.{Found, Offered, reach-found}

-- A row that is found where it stands, and is no sequence, which a branch can be taken for.
pub record Findable (p : Progresses) (X : Behaviour) : Type 0 where
  pub no_sequence : (r : ℕ) (a b : Behaviour) → X ≡ sequence r a b → ⊥
  pub at_itself : reach p (row_of X) X ≡ reached X

-- An assign, an if and a while are.
pub local-findable : (p : Progresses) (l : Local) → Findable p (from_local l)
unfolding reach row_of
local-findable p (assigns r x e) =
    record { no_sequence = λ s a b h. let z : ◌≡◌ {A = ℕ} 0 1 = cc in omega arith; at_itself = rw (of_t (eqb r r) (eqb_refl r)) refl }
local-findable p (decides r e a b) =
    record { no_sequence = λ s c d h. let z : ◌≡◌ {A = ℕ} 0 1 = cc in omega arith; at_itself = rw (of_t (eqb r r) (eqb_refl r)) refl }
local-findable p (repeats r e b) =
    record { no_sequence = λ s a c h. let z : ◌≡◌ {A = ℕ} 0 1 = cc in omega arith; at_itself = rw (of_t (eqb r r) (eqb_refl r)) refl }

-- A row that is none of a behaviour's is not found in it.
offered-row : (p : Progresses) (c k : ℕ) (a : Behaviour) (i : ℕ) (B : Behaviour) → Offered p c k a i B → T (has_row i B)
unfolding has_row
offered-row p c k a i B f =
    subst (λ (z : ℕ). T (has_row z B)) f.row
    (reaches-rows f.way (row_of a) (in-branches (row_of a) c f.options
    (branch-rows f.options k (row_of a)
    (subst (λ (z : Behaviour). T (has_row (row_of a) z)) (sym f.is_branch) (in-first (row_of a) f.label a f.after (own_row a))))))

pub reach-outside : (p : Progresses) (i : ℕ) (B : Behaviour) → EachRowOnce B → Clean p B → Outside i B → reach p i B ≡ unreached
reach-outside p i B o c n = go (reach p i B) (reach-found p i B o c)
  where
    go : (l : Reached) → Found p i B l → l ≡ unreached
    go unreached f = refl
    go (reached X) f = absurd (n (subst (λ (z : ℕ). T (has_row z B)) f.1 (reaches-rows f.0 (row_of X) (own_row X))))
    go (offered d k a) f = absurd (n (offered-row p d k a i B f))

here-other : (i r : ℕ) (B : Behaviour) (l : Reached) → (T (eqb i r) → ⊥) → here (eqb i r) B l ≡ l
here-other i r B l f = ap (λ (c : Bool). here c B l) (not-T-false (eqb i r) f)

or-first : (x y : Reached) (X : Behaviour) → x ≡ reached X → or_else x y ≡ reached X
or-first x y X e = ap (λ (z : Reached). or_else z y) e

or-next : (x y : Reached) (X : Behaviour) → x ≡ unreached → y ≡ reached X → or_else x y ≡ reached X
or-next x y X e f = ap (λ (z : Reached). or_else z y) e ∙ f

after-done : (b : Bool) (x : Reached) (X : Behaviour) → T b → x ≡ reached X → only_if b x ≡ reached X
after-done true x X t e = e
after-done false x X t e = absurd t

row_other : (i r : ℕ) (b : Behaviour) → Outside r b → T (has_row i b) → T (eqb i r) → ⊥
row_other i r b n t e = n (subst (λ (z : ℕ). T (has_row z b)) (eqb→eq i r e) t)

row-other-in : (i r : ℕ) (m : Branches) → (T (has_row_in r m) → ⊥) → T (has_row_in i m) → T (eqb i r) → ⊥
row-other-in i r m n t e = n (subst (λ (z : ℕ). T (has_row_in z m)) (eqb→eq i r e) t)

reached-inj : {Y Z : Behaviour} → reached Y ≡ reached Z → Y ≡ Z
reached-inj e = cc

-- In a taken branch as in the sequence of its input and what follows.
branch-reach : (p : Progresses) (X : Behaviour) (m : Branches) (k i : ℕ) → ((r : ℕ) (a b : Behaviour) → X ≡ sequence r a b → ⊥)
    → reach p i (branch_at k m) ≡ reached X → reach_branch p k i m ≡ reached X
unfolding reach branch_at
branch-reach p X (last_branch r a b) k i n h = go (eqb i r) h
  where
    go : (c : Bool) → here c (sequence r a b) (or_else (reach p i a) (only_if (is_done p a) (reach p i b))) ≡ reached X
        → or_else (reach p i a) (only_if (is_done p a) (reach p i b)) ≡ reached X
    go true h = absurd (n r a b (sym (reached-inj h)))
    go false h = h
branch-reach p X (branch r a b m) zero i n h = go (eqb i r) h
  where
    go : (c : Bool) → here c (sequence r a b) (or_else (reach p i a) (only_if (is_done p a) (reach p i b))) ≡ reached X
        → or_else (reach p i a) (only_if (is_done p a) (reach p i b)) ≡ reached X
    go true h = absurd (n r a b (sym (reached-inj h)))
    go false h = h
branch-reach p X (branch r a b m) (suc k) i n h = branch-reach p X m k i n h

-- A reached row is found by its number.
pub reach-complete : (p : Progresses) (X B : Behaviour) → Findable p X → EachRowOnce B → Clean p B → Reaches p X B → reach p (row_of X) B ≡ reached X
unfolding reach EachRowOnce Clean
reach-complete p X B f s c at_self = f.at_itself
reach-complete p X B f s c (at_first {r} {a} {b} h) =
    let i = row_of X in
    let ia = reaches-rows h i (own_row X) in
    here-other i r (sequence r a b) (or_else (reach p i a) (only_if (is_done p a) (reach p i b))) (row_other i r a s.0 ia)
    ∙ or-first (reach p i a) (only_if (is_done p a) (reach p i b)) X (reach-complete p X a f s.3 c.0 h)
reach-complete p X B f s c (at_second {r} {a} {b} d h) =
    let i = row_of X in
    let ib = reaches-rows h i (own_row X) in
    here-other i r (sequence r a b) (or_else (reach p i a) (only_if (is_done p a) (reach p i b))) (row_other i r b s.1 ib)
    ∙ or-next (reach p i a) (only_if (is_done p a) (reach p i b)) X (reach-outside p i a s.3 c.0 (λ t. s.2 i t ib))
    (after-done (is_done p a) (reach p i b) X d (reach-complete p X b f s.4 c.1 h))
reach-complete p X B f s c (at_left {r} {a} {b} h) =
    let i = row_of X in
    let ia = reaches-rows h i (own_row X) in
    here-other i r (parallel r a b) (or_else (reach p i a) (reach p i b)) (row_other i r a s.0 ia)
    ∙ or-first (reach p i a) (reach p i b) X (reach-complete p X a f s.3 c.0 h)
reach-complete p X B f s c (at_right {r} {a} {b} h) =
    let i = row_of X in
    let ib = reaches-rows h i (own_row X) in
    here-other i r (parallel r a b) (or_else (reach p i a) (reach p i b)) (row_other i r b s.1 ib)
    ∙ or-next (reach p i a) (reach p i b) X (reach-outside p i a s.3 c.0 (λ t. s.2 i t ib)) (reach-complete p X b f s.4 c.1 h)
reach-complete p X B f s c (at_then {r} {e} {a} {b} g h) =
    let i = row_of X in
    here-other i r (if_then_else r e a b) (unless_taken (p r) unreached (λ k. then_or_else k (reach p i a) (reach p i b)))
    (row_other i r a s.0 (reaches-rows h i (own_row X)))
    ∙ (taken-at (p r) zero g unreached (λ k. then_or_else k (reach p i a) (reach p i b)) ∙ reach-complete p X a f s.3 c.2 h)
reach-complete p X B f s c (at_else {r} {e} {a} {b} k g h) =
    let i = row_of X in
    here-other i r (if_then_else r e a b) (unless_taken (p r) unreached (λ k. then_or_else k (reach p i a) (reach p i b)))
    (row_other i r b s.1 (reaches-rows h i (own_row X)))
    ∙ (taken-at (p r) (suc k) g unreached (λ k. then_or_else k (reach p i a) (reach p i b)) ∙ reach-complete p X b f s.4 c.3 h)
reach-complete p X B f s c (at_loop {r} {e} {b} k g h) =
    let i = row_of X in
    here-other i r (while_do r e b) (unless_taken (p r) unreached (λ k. reach p i b)) (row_other i r b s.0 (reaches-rows h i (own_row X)))
    ∙ (taken-at (p r) k g unreached (λ k. reach p i b) ∙ reach-complete p X b f s.1 c h)
reach-complete p X B f s w (at_served {r} {o} {x} {c} {d} to g h) =
    let i = row_of X in
    here-other i r (request_response r o x c d) (unless_received (p r) unreached (reach p i d)) (row_other i r d s.0 (reaches-rows h i (own_row X)))
    ∙ (ap (λ (z : Progress). unless_received z unreached (reach p i d)) g ∙ reach-complete p X d f s.1 w.1 h)
reach-complete p X B f s c (at_branch {r} {m} k g h) =
    let i = row_of X in
    here-other i r (choice r m) (unless_taken (p r) (or_else (offer r 0 i m) (served p i m)) (λ k. reach_branch p k i m))
    (row-other-in i r m s.0 (branch-rows m k i (reaches-rows h i (own_row X))))
    ∙ (taken-at (p r) k g (or_else (offer r 0 i m) (served p i m)) (λ k. reach_branch p k i m)
    ∙ branch-reach p X m k i f.no_sequence
    (reach-complete p X (branch_at k m) f (branch-once m k s.1) (branch-clean m k p c.1) h))
