-- Laws of behaviours of an accepted file: parts are made of the file's parts, rests are well sorted, rows are found once.
use Rattle.std.specs.Prelude.{◌≡◌, refl, Bool, true, false, ◌||◌, T, eqb}
use Rattle.std.proofs.Common.{sym, ap, subst, ◌∙◌, arith, eqb→eq}
use Prim.Native.Nat.{ℕ, zero, suc, ◌<◌}
use Rattle.std.proofs.Math.Dec.{eqb_refl}
use Rattle.basics.specs.TestLaws.{not-T-false, of_t, or_case, or_l, or_r}
use Rattle.tree_forest.specs.Path.{Path}
use Rattle.network_syntax.specs.Syntax.{Types, Optional, none, some, Network, Expression, Operation, Behaviour, nil, one_way, request_response, notification}
use Rattle.network_syntax.specs.Syntax.{solicit_response, if_then_else, while_do, sequence, parallel, assign, choice, waiting, answering, Branches}
use Rattle.network_syntax.specs.Syntax.{last_branch, branch}
use Rattle.network_syntax.specs.Rows.{row_of, has_row, has_row_in, at_row, at_row_in, or_else_some, itself}
use Rattle.network_syntax.specs.ViewLaws.{own_row, some_inj}
use Rattle.network.specs.Shapes.{Outside, EachRowOnce, EachBranchRowOnce}
use Rattle.check_typing.specs.Occurs.{occurs, occurs_in_branches}
use Rattle.check_typing.specs.Rules.{RisingOperation, WellSorted, WellSortedBranches}
use Rattle.check_typing.specs.Typed.{Typed, TypedBranches}
use Rattle.state.specs.Session.{Progress, Progresses, undone, done, waits, received, taken}
use Rattle.move_rules.specs.Readiness.{unless_done, unless_waits, unless_received, unless_taken, then_or_else, rest, branch_rest}
use Rattle.soundness.specs.Parts.{branch_at, Reaches, at_self, at_first, at_second, at_left, at_right, at_then, at_else}
use Rattle.soundness.specs.Parts.{at_loop, at_served, at_branch}
use Rattle.soundness.proofs.RowLaws.{in-first, in-second, in-only, in-branches, in-input}
use Rattle.soundness.proofs.RowLaws.{in_then, in-others, branch-rows, branch-once, reaches-rows}
use Rattle.soundness.specs.Accepted.{OfFile, MadeOf, MadeOfBranches, Accepted}

-- A row found wherever it stands -------------------------------------------------------------------------------------------------------

abbrev pub RowStandsAt : ℕ → Behaviour → Optional Behaviour → Type 0
RowStandsAt i B none = Unit {0}
RowStandsAt i B (some X) = (row_of X ≡ i) × T (has_row i B)

itself-stands : (i : ℕ) (B : Behaviour) (c : Bool) (l : Optional Behaviour) → (T c → T (eqb i (row_of B))) → RowStandsAt i B l → RowStandsAt i B (itself c B l)
itself-stands i B true l f g = (sym (eqb→eq i (row_of B) (f tt)), subst (λ (z : ℕ). T (has_row z B)) (sym (eqb→eq i (row_of B) (f tt))) (own_row B))
itself-stands i B false l f g = g

or-stands : (i : ℕ) (B : Behaviour) (x y : Optional Behaviour) → RowStandsAt i B x → RowStandsAt i B y → RowStandsAt i B (or_else_some x y)
or-stands i B none y f g = g
or-stands i B (some X) y f g = f

abbrev StandsIn : ℕ → Branches → Optional Behaviour → Type 0
StandsIn i m none = Unit {0}
StandsIn i m (some X) = (row_of X ≡ i) × T (has_row_in i m)

or-stands-in : (i : ℕ) (m : Branches) (x y : Optional Behaviour) → StandsIn i m x → StandsIn i m y → StandsIn i m (or_else_some x y)
or-stands-in i m none y f g = g
or-stands-in i m (some X) y f g = f

-- What stands in a branch, or in the branches, of whatever has their rows.
stands-in : (i : ℕ) (A : Behaviour) (m : Branches) → (T (has_row i A) → T (has_row_in i m)) → (l : Optional Behaviour) → RowStandsAt i A l → StandsIn i m l
stands-in i A m f none g = tt
stands-in i A m f (some X) g = (g.0, f g.1)

further-in : (i : ℕ) (n m : Branches) → (T (has_row_in i n) → T (has_row_in i m)) → (l : Optional Behaviour) → StandsIn i n l → StandsIn i m l
further-in i n m f none g = tt
further-in i n m f (some X) g = (g.0, f g.1)

in-stands : (i : ℕ) (m : Branches) (B : Behaviour) → (T (has_row_in i m) → T (has_row i B)) → (l : Optional Behaviour) → StandsIn i m l → RowStandsAt i B l
in-stands i m B f none g = tt
in-stands i m B f (some X) g = (g.0, f g.1)

lift-stands : (i : ℕ) (A B : Behaviour) → (T (has_row i A) → T (has_row i B)) → (l : Optional Behaviour) → RowStandsAt i A l → RowStandsAt i B l
lift-stands i A B f none g = tt
lift-stands i A B f (some X) g = (g.0, f g.1)

mutual
  unfolding at_row row_of has_row

  pub at_row-stands : (i : ℕ) (B : Behaviour) → RowStandsAt i B (at_row i B)
  at_row-stands i (nil r) = itself-stands i (nil r) (eqb i r) none (λ t. t) tt
  at_row-stands i (one_way r o x) = itself-stands i (one_way r o x) (eqb i r) none (λ t. t) tt
  at_row-stands i (request_response r o x c d) =
      itself-stands i (request_response r o x c d) (eqb i r) (at_row i d) (λ t. t)
      (lift-stands i d (request_response r o x c d) (in-only i r d) (at_row i d) (at_row-stands i d))
  at_row-stands i (notification r o e) = itself-stands i (notification r o e) (eqb i r) none (λ t. t) tt
  at_row-stands i (solicit_response r o e x) = itself-stands i (solicit_response r o e x) (eqb i r) none (λ t. t) tt
  at_row-stands i (if_then_else r e a b) =
      let B = if_then_else r e a b in
      itself-stands i B (eqb i r) (or_else_some (at_row i a) (at_row i b)) (λ t. t)
      (or-stands i B (at_row i a) (at_row i b) (lift-stands i a B (in-first i r a b) (at_row i a) (at_row-stands i a))
      (lift-stands i b B (in-second i r a b) (at_row i b) (at_row-stands i b)))
  at_row-stands i (while_do r e b) =
      itself-stands i (while_do r e b) (eqb i r) (at_row i b) (λ t. t) (lift-stands i b (while_do r e b) (in-only i r b) (at_row i b) (at_row-stands i b))
  at_row-stands i (sequence r a b) =
      let B = sequence r a b in
      itself-stands i B (eqb i r) (or_else_some (at_row i a) (at_row i b)) (λ t. t)
      (or-stands i B (at_row i a) (at_row i b) (lift-stands i a B (in-first i r a b) (at_row i a) (at_row-stands i a))
      (lift-stands i b B (in-second i r a b) (at_row i b) (at_row-stands i b)))
  at_row-stands i (parallel r a b) =
      let B = parallel r a b in
      itself-stands i B (eqb i r) (or_else_some (at_row i a) (at_row i b)) (λ t. t)
      (or-stands i B (at_row i a) (at_row i b) (lift-stands i a B (in-first i r a b) (at_row i a) (at_row-stands i a))
      (lift-stands i b B (in-second i r a b) (at_row i b) (at_row-stands i b)))
  at_row-stands i (assign r x e) = itself-stands i (assign r x e) (eqb i r) none (λ t. t) tt
  at_row-stands i (choice r m) =
      itself-stands i (choice r m) (eqb i r) (at_row_in i m) (λ t. t) (in-stands i m (choice r m) (in-branches i r m) (at_row_in i m) (branch-stands i m))
  at_row-stands i (waiting r o x) = itself-stands i (waiting r o x) (eqb i r) none (λ t. t) tt
  at_row-stands i (answering r o c d) =
      itself-stands i (answering r o c d) (eqb i r) (at_row i d) (λ t. t) (lift-stands i d (answering r o c d) (in-only i r d) (at_row i d) (at_row-stands i d))

  branch-stands : (i : ℕ) (m : Branches) → StandsIn i m (at_row_in i m)
  branch-stands i (last_branch r a b) =
      let m = last_branch r a b in
      or-stands-in i m (at_row i a) (at_row i b) (stands-in i a m (in-first i r a b) (at_row i a) (at_row-stands i a))
      (stands-in i b m (in-second i r a b) (at_row i b) (at_row-stands i b))
  branch-stands i (branch r a b m) =
      let n = branch r a b m in
      or-stands-in i n (or_else_some (at_row i a) (at_row i b)) (at_row_in i m)
      (or-stands-in i n (at_row i a) (at_row i b) (stands-in i a n (in-input i r a b m) (at_row i a) (at_row-stands i a))
      (stands-in i b n (in_then i r a b m) (at_row i b) (at_row-stands i b)))
      (further-in i m n (in-others i r a b m) (at_row_in i m) (branch-stands i m))

-- The row and its place, of what was found.
pub at_row-row : (i : ℕ) (B X : Behaviour) → at_row i B ≡ some X → (row_of X ≡ i) × T (has_row i B)
at_row-row i B X e = subst (RowStandsAt i B) e (at_row-stands i B)

-- A row that is none of the behaviour's is not found.
pub at_row-none : (i : ℕ) (B : Behaviour) → Outside i B → at_row i B ≡ none
at_row-none i B n = go (at_row i B) (at_row-stands i B)
  where
    go : (l : Optional Behaviour) → RowStandsAt i B l → l ≡ none
    go none g = refl
    go (some X) g = absurd (n g.1)

-- No sequence, which a branch can be taken for; found by its own number.
pub record Plain (X : Behaviour) : Type 0 where
  pub no_sequence : (r : ℕ) (a b : Behaviour) → X ≡ sequence r a b → ⊥
  pub at_self : at_row (row_of X) X ≡ some X

pub plain-request : (r : ℕ) (o : Operation) (x c : Path) (d : Behaviour) → Plain (request_response r o x c d)
unfolding at_row row_of
plain-request r o x c d = record { no_sequence = λ s a b e. other e; at_self = rw (of_t (eqb r r) (eqb_refl r)) }
  where
    other : {s : ℕ} {a b : Behaviour} → request_response r o x c d ≡ sequence s a b → ⊥
    other e = let z : ◌≡◌ {A = ℕ} 0 1 = cc in omega arith

pub plain-solicit : (r : ℕ) (o : Operation) (e : Expression) (x : Path) → Plain (solicit_response r o e x)
unfolding at_row row_of
plain-solicit r o e x = record { no_sequence = λ s a b h. other h; at_self = rw (of_t (eqb r r) (eqb_refl r)) }
  where
    other : {s : ℕ} {a b : Behaviour} → solicit_response r o e x ≡ sequence s a b → ⊥
    other h = let z : ◌≡◌ {A = ℕ} 0 1 = cc in omega arith

itself-other : (i r : ℕ) (B : Behaviour) (l : Optional Behaviour) → (T (eqb i r) → ⊥) → itself (eqb i r) B l ≡ l
itself-other i r B l f = ap (λ (c : Bool). itself c B l) (not-T-false (eqb i r) f)

or-first : (x y : Optional Behaviour) (X : Behaviour) → x ≡ some X → or_else_some x y ≡ some X
or-first x y X e = ap (λ (z : Optional Behaviour). or_else_some z y) e

or-next : (x y : Optional Behaviour) (X : Behaviour) → x ≡ none → y ≡ some X → or_else_some x y ≡ some X
or-next x y X e f = ap (λ (z : Optional Behaviour). or_else_some z y) e ∙ f

at-eq-in : (i r : ℕ) (m : Branches) → (T (has_row_in r m) → ⊥) → T (has_row_in i m) → T (eqb i r) → ⊥
at-eq-in i r m n t e = n (subst (λ (z : ℕ). T (has_row_in z m)) (eqb→eq i r e) t)

at-eq : (i r : ℕ) (b : Behaviour) → Outside r b → T (has_row i b) → T (eqb i r) → ⊥
at-eq i r b n t e = n (subst (λ (z : ℕ). T (has_row z b)) (eqb→eq i r e) t)

branch-at_row : (m : Branches) (k i : ℕ) (X : Behaviour) → EachBranchRowOnce m → Plain X → at_row i (branch_at k m) ≡ some X
    → at_row_in i m ≡ some X
unfolding at_row branch_at EachRowOnce has_row
branch-at_row (last_branch r a b) k i X o n e = go (eqb i r) e
  where
    go : (c : Bool) → itself c (sequence r a b) (or_else_some (at_row i a) (at_row i b)) ≡ some X → or_else_some (at_row i a) (at_row i b) ≡ some X
    go true h = absurd (n.no_sequence r a b (sym (some_inj h)))
    go false h = h
branch-at_row (branch r a b m) zero i X o n e = go (eqb i r) e
  where
    go : (c : Bool) → itself c (sequence r a b) (or_else_some (at_row i a) (at_row i b)) ≡ some X
        → or_else_some (or_else_some (at_row i a) (at_row i b)) (at_row_in i m) ≡ some X
    go true h = absurd (n.no_sequence r a b (sym (some_inj h)))
    go false h = or-first (or_else_some (at_row i a) (at_row i b)) (at_row_in i m) X h
branch-at_row (branch r a b m) (suc k) i X o n e =
    let im : T (has_row_in i m) = branch-rows m k i (at_row-row i (branch_at k m) X e).1 in
    or-next (or_else_some (at_row i a) (at_row i b)) (at_row_in i m) X
    (ap (λ (z : Optional Behaviour). or_else_some z (at_row i b)) (at_row-none i a (λ t. o.6 i t im)) ∙ at_row-none i b (λ t. o.7 i t im))
    (branch-at_row m k i X o.8 n e)

-- A reached row is found by its number.
pub reaches-at_row : (p : Progresses) (X B : Behaviour) → Plain X → EachRowOnce B → Reaches p X B → at_row (row_of X) B ≡ some X
unfolding at_row EachRowOnce
reaches-at_row p X B n s at_self = n.at_self
reaches-at_row p X B n s (at_first {r} {a} {b} h) =
    let ia = reaches-rows h (row_of X) (own_row X) in
    itself-other (row_of X) r (sequence r a b) (or_else_some (at_row (row_of X) a) (at_row (row_of X) b)) (at-eq (row_of X) r a s.0 ia)
    ∙ or-first (at_row (row_of X) a) (at_row (row_of X) b) X (reaches-at_row p X a n s.3 h)
reaches-at_row p X B n s (at_second {r} {a} {b} d h) =
    let ib = reaches-rows h (row_of X) (own_row X) in
    itself-other (row_of X) r (sequence r a b) (or_else_some (at_row (row_of X) a) (at_row (row_of X) b)) (at-eq (row_of X) r b s.1 ib)
    ∙ or-next (at_row (row_of X) a) (at_row (row_of X) b) X (at_row-none (row_of X) a (λ t. s.2 (row_of X) t ib)) (reaches-at_row p X b n s.4 h)
reaches-at_row p X B n s (at_left {r} {a} {b} h) =
    let ia = reaches-rows h (row_of X) (own_row X) in
    itself-other (row_of X) r (parallel r a b) (or_else_some (at_row (row_of X) a) (at_row (row_of X) b)) (at-eq (row_of X) r a s.0 ia)
    ∙ or-first (at_row (row_of X) a) (at_row (row_of X) b) X (reaches-at_row p X a n s.3 h)
reaches-at_row p X B n s (at_right {r} {a} {b} h) =
    let ib = reaches-rows h (row_of X) (own_row X) in
    itself-other (row_of X) r (parallel r a b) (or_else_some (at_row (row_of X) a) (at_row (row_of X) b)) (at-eq (row_of X) r b s.1 ib)
    ∙ or-next (at_row (row_of X) a) (at_row (row_of X) b) X (at_row-none (row_of X) a (λ t. s.2 (row_of X) t ib)) (reaches-at_row p X b n s.4 h)
reaches-at_row p X B n s (at_then {r} {e} {a} {b} g h) =
    let ia = reaches-rows h (row_of X) (own_row X) in
    itself-other (row_of X) r (if_then_else r e a b) (or_else_some (at_row (row_of X) a) (at_row (row_of X) b)) (at-eq (row_of X) r a s.0 ia)
    ∙ or-first (at_row (row_of X) a) (at_row (row_of X) b) X (reaches-at_row p X a n s.3 h)
reaches-at_row p X B n s (at_else {r} {e} {a} {b} k g h) =
    let ib = reaches-rows h (row_of X) (own_row X) in
    itself-other (row_of X) r (if_then_else r e a b) (or_else_some (at_row (row_of X) a) (at_row (row_of X) b)) (at-eq (row_of X) r b s.1 ib)
    ∙ or-next (at_row (row_of X) a) (at_row (row_of X) b) X (at_row-none (row_of X) a (λ t. s.2 (row_of X) t ib)) (reaches-at_row p X b n s.4 h)
reaches-at_row p X B n s (at_loop {r} {e} {b} k g h) =
    itself-other (row_of X) r (while_do r e b) (at_row (row_of X) b) (at-eq (row_of X) r b s.0 (reaches-rows h (row_of X) (own_row X)))
    ∙ reaches-at_row p X b n s.1 h
reaches-at_row p X B n s (at_served {r} {o} {x} {c} {d} to g h) =
    itself-other (row_of X) r (request_response r o x c d) (at_row (row_of X) d) (at-eq (row_of X) r d s.0 (reaches-rows h (row_of X) (own_row X)))
    ∙ reaches-at_row p X d n s.1 h
reaches-at_row p X B n s (at_branch {r} {m} k g h) =
    itself-other (row_of X) r (choice r m) (at_row_in (row_of X) m)
    (at-eq-in (row_of X) r m s.0 (branch-rows m k (row_of X) (reaches-rows h (row_of X) (own_row X))))
    ∙ branch-at_row m k (row_of X) X s.1 n (reaches-at_row p X (branch_at k m) n (branch-once m k s.1) h)

-- Made of the file's parts ---------------------------------------------------------------------------------------------------------------

module _ (N : Network) (rows : ℕ) where
  pub branch-made : (m : Branches) (k : ℕ) → MadeOfBranches N rows m → MadeOf N rows (branch_at k m)
  unfolding MadeOf branch_at
  branch-made (last_branch r a b) k h = h
  branch-made (branch r a b m) zero h = (h.0, h.1, h.2)
  branch-made (branch r a b m) (suc k) h = branch-made m k h.3

  pub made_at : {p : Progresses} {X B : Behaviour} → Reaches p X B → MadeOf N rows B → MadeOf N rows X
  unfolding MadeOf
  made_at at_self h = h
  made_at (at_first k) h = made_at k h.1
  made_at (at_second d k) h = made_at k h.2
  made_at (at_left k) h = made_at k h.1
  made_at (at_right k) h = made_at k h.2
  made_at (at_then g k) h = made_at k h.2
  made_at (at_else j g k) h = made_at k h.3
  made_at (at_loop j g k) h = made_at k h.2
  made_at (at_served to g k) h = made_at k h.3
  made_at (at_branch {r} {m} j g k) h = made_at k (branch-made m j h.1)

  eqb-below : (i r : ℕ) → r < rows → T (eqb i r) → i < rows
  eqb-below i r h t = let e = eqb→eq i r t in omega arith

  mutual
    unfolding MadeOf has_row

    pub row_below : (B : Behaviour) (i : ℕ) → MadeOf N rows B → T (has_row i B) → i < rows
    row_below (nil r) i h t = eqb-below i r h t
    row_below (one_way r o x) i h t = eqb-below i r h.0 t
    row_below (request_response r o x c d) i h t = or_case (eqb i r) (has_row i d) (eqb-below i r h.0) (row_below d i h.3) t
    row_below (notification r o e) i h t = eqb-below i r h.0 t
    row_below (solicit_response r o e x) i h t = eqb-below i r h.0 t
    row_below (if_then_else r e a b) i h t =
        or_case (eqb i r) (has_row i a || has_row i b) (eqb-below i r h.0) (or_case (has_row i a) (has_row i b) (row_below a i h.2) (row_below b i h.3)) t
    row_below (while_do r e b) i h t = or_case (eqb i r) (has_row i b) (eqb-below i r h.0) (row_below b i h.2) t
    row_below (sequence r a b) i h t =
        or_case (eqb i r) (has_row i a || has_row i b) (eqb-below i r h.0) (or_case (has_row i a) (has_row i b) (row_below a i h.1) (row_below b i h.2)) t
    row_below (parallel r a b) i h t =
        or_case (eqb i r) (has_row i a || has_row i b) (eqb-below i r h.0) (or_case (has_row i a) (has_row i b) (row_below a i h.1) (row_below b i h.2)) t
    row_below (assign r x e) i h t = eqb-below i r h.0 t
    row_below (choice r m) i h t = or_case (eqb i r) (has_row_in i m) (eqb-below i r h.0) (λ u. branch-row-below m i h.1 u) t
    row_below (waiting r o x) i h t = eqb-below i r h.0 t
    row_below (answering r o c d) i h t = or_case (eqb i r) (has_row i d) (eqb-below i r h.0) (row_below d i h.2) t

    branch-row-below : (m : Branches) (i : ℕ) → MadeOfBranches N rows m → T (has_row_in i m) → i < rows
    branch-row-below (last_branch r a b) i h t =
        or_case (eqb i r) (has_row i a || has_row i b) (eqb-below i r h.0)
        (or_case (has_row i a) (has_row i b) (λ u. row_below a i h.1 u) (λ u. row_below b i h.2 u)) t
    branch-row-below (branch r a b m) i h t =
        or_case (eqb i r) ((has_row i a || has_row i b) || has_row_in i m) (eqb-below i r h.0)
        (or_case (has_row i a || has_row i b) (has_row_in i m) (or_case (has_row i a) (has_row i b) (λ u. row_below a i h.1 u) (λ u. row_below b i h.2 u))
        (λ u. branch-row-below m i h.3 u)) t

  module _ (acc : Accepted N rows) where
    pub op-rising : (o : Operation) → OfFile N o → RisingOperation o
    op-rising o h = (acc.operations o.row o h).rising

    mutual
      unfolding MadeOf WellSorted

      pub made-sorted : (B : Behaviour) → MadeOf N rows B → WellSorted B
      made-sorted (nil r) h = tt
      made-sorted (one_way r o x) h = op-rising o h.1
      made-sorted (request_response r o x c d) h = (op-rising o h.1, made-sorted d h.3)
      made-sorted (notification r o e) h = op-rising o h.1
      made-sorted (solicit_response r o e x) h = op-rising o h.1
      made-sorted (if_then_else r e a b) h = (made-sorted a h.2, made-sorted b h.3)
      made-sorted (while_do r e b) h = made-sorted b h.2
      made-sorted (sequence r a b) h = (made-sorted a h.1, made-sorted b h.2)
      made-sorted (parallel r a b) h = (made-sorted a h.1, made-sorted b h.2)
      made-sorted (assign r x e) h = tt
      made-sorted (choice r m) h = made-sorted-branches m h.1
      made-sorted (waiting r o x) h = op-rising o h.1
      made-sorted (answering r o c d) h = (op-rising o h.1, made-sorted d h.2)

      made-sorted-branches : (m : Branches) → MadeOfBranches N rows m → WellSortedBranches m
      made-sorted-branches (last_branch r a b) h = (made-sorted a h.1, made-sorted b h.2)
      made-sorted-branches (branch r a b m) h = (made-sorted a h.1, made-sorted b h.2, made-sorted-branches m h.3)

-- Rests are well sorted ---------------------------------------------------------------------------------------------------------------

sorted-leaf : (s : Progress) (r : ℕ) (b : Behaviour) → WellSorted b → WellSorted (unless_done s b (nil r))
unfolding WellSorted
sorted-leaf undone r b w = w
sorted-leaf done r b w = tt
sorted-leaf waits r b w = w
sorted-leaf (received to) r b w = w
sorted-leaf (taken k) r b w = w

sorted-taken : (s : Progress) (b : Behaviour) (f : ℕ → Behaviour) → WellSorted b → ((j : ℕ) → WellSorted (f j)) → WellSorted (unless_taken s b f)
sorted-taken undone b f w h = w
sorted-taken done b f w h = w
sorted-taken waits b f w h = w
sorted-taken (received to) b f w h = w
sorted-taken (taken k) b f w h = h k

sorted-received : (s : Progress) (b c : Behaviour) → WellSorted b → WellSorted c → WellSorted (unless_received s b c)
sorted-received undone b c w h = w
sorted-received done b c w h = w
sorted-received waits b c w h = w
sorted-received (received to) b c w h = h
sorted-received (taken k) b c w h = w

sorted-waits : (s : Progress) (b c : Behaviour) → WellSorted b → WellSorted c → WellSorted (unless_waits s b c)
sorted-waits undone b c w h = w
sorted-waits done b c w h = w
sorted-waits waits b c w h = h
sorted-waits (received to) b c w h = w
sorted-waits (taken k) b c w h = w

sorted-either : (j : ℕ) (a b : Behaviour) → WellSorted a → WellSorted b → WellSorted (then_or_else j a b)
sorted-either zero a b w h = w
sorted-either (suc j) a b w h = h

mutual
  unfolding rest WellSorted

  pub rest_sorted : (B : Behaviour) (p : Progresses) → WellSorted B → WellSorted (rest p B)
  rest_sorted (nil r) p w = tt
  rest_sorted (one_way r o x) p w = sorted-leaf (p r) r (one_way r o x) w
  rest_sorted (request_response r o x c d) p w =
      sorted-leaf (p r) r (unless_received (p r) (request_response r o x c d) (answering r o c (rest p d)))
      (sorted-received (p r) (request_response r o x c d) (answering r o c (rest p d)) w (w.0, rest_sorted d p w.1))
  rest_sorted (notification r o e) p w = sorted-leaf (p r) r (notification r o e) w
  rest_sorted (solicit_response r o e x) p w =
      sorted-leaf (p r) r (unless_waits (p r) (solicit_response r o e x) (waiting r o x)) (sorted-waits (p r) (solicit_response r o e x) (waiting r o x) w w)
  rest_sorted (if_then_else r e a b) p w =
      sorted-taken (p r) (if_then_else r e a b) (λ j. then_or_else j (rest p a) (rest p b)) w
      (λ j. sorted-either j (rest p a) (rest p b) (rest_sorted a p w.0) (rest_sorted b p w.1))
  rest_sorted (while_do r e b) p w =
      sorted-leaf (p r) r (unless_taken (p r) (while_do r e b) (λ j. sequence r (rest p b) (while_do r e b)))
      (sorted-taken (p r) (while_do r e b) (λ j. sequence r (rest p b) (while_do r e b)) w (λ j. (rest_sorted b p w, w)))
  rest_sorted (sequence r a b) p w = (rest_sorted a p w.0, rest_sorted b p w.1)
  rest_sorted (parallel r a b) p w = (rest_sorted a p w.0, rest_sorted b p w.1)
  rest_sorted (assign r x e) p w = sorted-leaf (p r) r (assign r x e) w
  rest_sorted (choice r m) p w = sorted-taken (p r) (choice r m) (λ j. branch_rest p j m) w (λ j. branch-rest-sorted m j p w)
  rest_sorted (waiting r o x) p w = w
  rest_sorted (answering r o c d) p w = w

  branch-rest-sorted : (m : Branches) (k : ℕ) (p : Progresses) → WellSortedBranches m → WellSorted (branch_rest p k m)
  branch-rest-sorted (last_branch r a b) k p w = (rest_sorted a p w.0, rest_sorted b p w.1)
  branch-rest-sorted (branch r a b m) zero p w = (rest_sorted a p w.0, rest_sorted b p w.1)
  branch-rest-sorted (branch r a b m) (suc k) p w = branch-rest-sorted m k p w.2

-- A branch of a choice is typed as the choice is, and has no root that the choice has not.
pub branch-typed : (q : ℕ) (m : Branches) (k : ℕ) (Γ Δ : Types) → TypedBranches q m Γ Δ → Typed q (branch_at k m) Γ Δ
unfolding Typed branch_at
branch-typed q (last_branch r a b) k Γ Δ h = h
branch-typed q (branch r a b m) zero Γ Δ h = (h.0, h.1, h.2)
branch-typed q (branch r a b m) (suc k) Γ Δ h = branch-typed q m k Γ Δ h.3

pub branch-occurs : (m : Branches) (k i : ℕ) → T (occurs i (branch_at k m)) → T (occurs_in_branches i m)
unfolding occurs branch_at
branch-occurs (last_branch r a b) k i t = t
branch-occurs (branch r a b m) zero i t = or_l (occurs i a || occurs i b) (occurs_in_branches i m) t
branch-occurs (branch r a b m) (suc k) i t = or_r (occurs i a || occurs i b) (occurs_in_branches i m) (branch-occurs m k i t)

pub branch-sorted : (m : Branches) (k : ℕ) → WellSortedBranches m → WellSorted (branch_at k m)
unfolding WellSorted branch_at
branch-sorted (last_branch r a b) k h = h
branch-sorted (branch r a b m) zero h = (h.0, h.1)
branch-sorted (branch r a b m) (suc k) h = branch-sorted m k h.2
