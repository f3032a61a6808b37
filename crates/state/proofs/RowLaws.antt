-- Laws of progress row by row: it suits a behaviour exactly if it suits the rows of each part, and so, where rows are apart, if it suits each
-- row of the file (`rows-decide`).
use Rattle.std.specs.Prelude.{◌≡◌, Bool, true, false, ◌&&◌, ◌||◌, ◌⊎◌, eqb}
use Rattle.std.proofs.Math.Path.{refl}
use Rattle.std.proofs.Common.{sym, ap, ◌∙◌, inl, inr, arith, eq-eqb, eqb-true}
use Prim.Native.Nat.{ℕ, zero, suc, ◌<◌}
use Rattle.basics.specs.TestLaws.{agree, and_left, and_right, or_left, or_right}
use Rattle.network_syntax.specs.Syntax.{Optional, none, some, Network, Behaviour, nil, one_way, request_response}
use Rattle.network_syntax.specs.Syntax.{notification, solicit_response, if_then_else, while_do, sequence, parallel}
use Rattle.network_syntax.specs.Syntax.{assign, choice, waiting, answering, Branches, last_branch, branch}
use Rattle.network_syntax.specs.Rows.{row_of, has_row, has_row_in, at_row, at_row_in, itself, or_else_some, choice_of}
use Rattle.state.specs.Session.{undone, Progresses}
use Rattle.state.specs.Shape.{is_undone, undone_done_or_received, undone_or_taken, undone_done_or_body, branches, suits, suits_branches, quiet_elsewhere}
use Rattle.state.proofs.ShapeLaws.{below_next}
use Rattle.state.specs.RowShape.{suits_row, PartOf, PartOfBranches, BranchRow, BranchRowOf, InBranch, PartSuits, RowsApart, suits_at, suits_rows}

-- ---- each part's row

pub undone-row : (N : Network) (rows : ℕ) (b : Behaviour) → suits_row N rows undone b ≡ true
unfolding suits_row
undone-row N rows (nil r) = refl
undone-row N rows (one_way r o y) = refl
undone-row N rows (request_response r o y c d) = refl
undone-row N rows (notification r o e) = refl
undone-row N rows (solicit_response r o e y) = refl
undone-row N rows (if_then_else r e a b) = refl
undone-row N rows (while_do r e b) = refl
undone-row N rows (sequence r a b) = refl
undone-row N rows (parallel r a b) = refl
undone-row N rows (assign r y e) = refl
undone-row N rows (choice r m) = refl
undone-row N rows (waiting r o y) = refl
undone-row N rows (answering r o c d) = refl

-- One of the tests that hold together.
first : (o x y : Bool) → (o && (x && y)) ≡ true → x ≡ true
first o x y h = and_left x y (and_right o (x && y) h)

second : (o x y : Bool) → (o && (x && y)) ≡ true → y ≡ true
second o x y h = and_right x y (and_right o (x && y) h)

module _ (N : Network) (rows : ℕ) (p : Progresses) where
  abbrev s : Behaviour → Bool
  s B = suits N rows p B

  branch-undone : (m : Branches) → suits_branches N rows p m ≡ true → (i : ℕ) → BranchRow i m → is_undone (p i) ≡ true
  unfolding suits BranchRow
  branch-undone (last_branch r a z) h i e = rw e (and_left (is_undone (p r)) (s a && s z) h)
  branch-undone (branch r a z m) h i (inl e) = rw e (and_left (is_undone (p r)) ((s a && s z) && suits_branches N rows p m) h)
  branch-undone (branch r a z m) h i (inr e) = branch-undone m (second (is_undone (p r)) (s a && s z) (suits_branches N rows p m) h) i e

  -- A part that is no choice.
  no-branches : (b : Behaviour) → choice_of b ≡ none → suits_row N rows (p (row_of b)) b ≡ true → PartSuits N rows p b
  no-branches b e h = record { own = h; branch_rows = λ i k. absurd (rw e at k) }

  mutual
    unfolding suits suits_row PartOf row_of

    -- Where the progress suits, it suits the rows of each part.
    pub suits-row : (B b : Behaviour) → suits N rows p B ≡ true → PartOf b B → PartSuits N rows p b
    suits-row (nil r) b h i = rw i (no-branches (nil r) refl h)
    suits-row (one_way r o y) b h i = rw i (no-branches (one_way r o y) refl h)
    suits-row (request_response r o y c d) b h (inl i) =
        rw i (no-branches (request_response r o y c d) refl (and_left (undone_done_or_received N rows (p r)) (s d) h))
    suits-row (request_response r o y c d) b h (inr i) = suits-row d b (and_right (undone_done_or_received N rows (p r)) (s d) h) i
    suits-row (notification r o e) b h i = rw i (no-branches (notification r o e) refl h)
    suits-row (solicit_response r o e y) b h i = rw i (no-branches (solicit_response r o e y) refl h)
    suits-row (if_then_else r e a z) b h (inl i) = rw i (no-branches (if_then_else r e a z) refl (and_left (undone_or_taken 2 (p r)) (s a && s z) h))
    suits-row (if_then_else r e a z) b h (inr (inl i)) = suits-row a b (first (undone_or_taken 2 (p r)) (s a) (s z) h) i
    suits-row (if_then_else r e a z) b h (inr (inr i)) = suits-row z b (second (undone_or_taken 2 (p r)) (s a) (s z) h) i
    suits-row (while_do r e z) b h (inl i) = rw i (no-branches (while_do r e z) refl (and_left (undone_done_or_body (p r)) (s z) h))
    suits-row (while_do r e z) b h (inr i) = suits-row z b (and_right (undone_done_or_body (p r)) (s z) h) i
    suits-row (sequence r a z) b h (inl i) = rw i (no-branches (sequence r a z) refl (and_left (is_undone (p r)) (s a && s z) h))
    suits-row (sequence r a z) b h (inr (inl i)) = suits-row a b (first (is_undone (p r)) (s a) (s z) h) i
    suits-row (sequence r a z) b h (inr (inr i)) = suits-row z b (second (is_undone (p r)) (s a) (s z) h) i
    suits-row (parallel r a z) b h (inl i) = rw i (no-branches (parallel r a z) refl (and_left (is_undone (p r)) (s a && s z) h))
    suits-row (parallel r a z) b h (inr (inl i)) = suits-row a b (first (is_undone (p r)) (s a) (s z) h) i
    suits-row (parallel r a z) b h (inr (inr i)) = suits-row z b (second (is_undone (p r)) (s a) (s z) h) i
    suits-row (assign r y e) b h i = rw i (no-branches (assign r y e) refl h)
    suits-row (choice r m) b h (inl i) = rw i (record {
      own = and_left (undone_or_taken (branches m) (p r)) (suits_branches N rows p m) h;
      branch_rows = branch-undone m (and_right (undone_or_taken (branches m) (p r)) (suits_branches N rows p m) h);
    })
    suits-row (choice r m) b h (inr i) = suits-branch m b (and_right (undone_or_taken (branches m) (p r)) (suits_branches N rows p m) h) i
    suits-row (waiting r o y) b h i = rw i (no-branches (waiting r o y) refl h)
    suits-row (answering r o c d) b h (inl i) = rw i (no-branches (answering r o c d) refl (and_left (is_undone (p r)) (s d) h))
    suits-row (answering r o c d) b h (inr i) = suits-row d b (and_right (is_undone (p r)) (s d) h) i

    suits-branch : (m : Branches) (b : Behaviour) → suits_branches N rows p m ≡ true → PartOfBranches b m → PartSuits N rows p b
    suits-branch (last_branch r a z) b h (inl i) = suits-row a b (first (is_undone (p r)) (s a) (s z) h) i
    suits-branch (last_branch r a z) b h (inr i) = suits-row z b (second (is_undone (p r)) (s a) (s z) h) i
    suits-branch (branch r a z m) b h (inl i) =
        suits-row a b (and_left (s a) (s z) (first (is_undone (p r)) (s a && s z) (suits_branches N rows p m) h)) i
    suits-branch (branch r a z m) b h (inr (inl i)) =
        suits-row z b (and_right (s a) (s z) (first (is_undone (p r)) (s a && s z) (suits_branches N rows p m) h)) i
    suits-branch (branch r a z m) b h (inr (inr i)) = suits-branch m b (second (is_undone (p r)) (s a && s z) (suits_branches N rows p m) h) i

  mutual
    unfolding suits suits_row PartOf row_of BranchRow

    -- And where it suits the rows of each part, it suits.
    pub rows-suit : (B : Behaviour) → ((b : Behaviour) → PartOf b B → PartSuits N rows p b) → suits N rows p B ≡ true
    rows-suit (nil r) h = (h (nil r) refl).own
    rows-suit (one_way r o y) h = (h (one_way r o y) refl).own
    rows-suit (request_response r o y c d) h =
        rw ((h (request_response r o y c d) (inl refl)).own, rows-suit d (λ b i. h b (inr i)))
    rows-suit (notification r o e) h = (h (notification r o e) refl).own
    rows-suit (solicit_response r o e y) h = (h (solicit_response r o e y) refl).own
    rows-suit (if_then_else r e a z) h =
        rw ((h (if_then_else r e a z) (inl refl)).own, rows-suit a (λ b i. h b (inr (inl i))), rows-suit z (λ b i. h b (inr (inr i))))
    rows-suit (while_do r e z) h =
        rw ((h (while_do r e z) (inl refl)).own, rows-suit z (λ b i. h b (inr i)))
    rows-suit (sequence r a z) h =
        rw ((h (sequence r a z) (inl refl)).own, rows-suit a (λ b i. h b (inr (inl i))), rows-suit z (λ b i. h b (inr (inr i))))
    rows-suit (parallel r a z) h =
        rw ((h (parallel r a z) (inl refl)).own, rows-suit a (λ b i. h b (inr (inl i))), rows-suit z (λ b i. h b (inr (inr i))))
    rows-suit (assign r y e) h = (h (assign r y e) refl).own
    rows-suit (choice r m) h =
        rw ((h (choice r m) (inl refl)).own, branches-suit m (h (choice r m) (inl refl)).branch_rows (λ b i. h b (inr i)))
    rows-suit (waiting r o y) h = (h (waiting r o y) refl).own
    rows-suit (answering r o c d) h =
        rw ((h (answering r o c d) (inl refl)).own, rows-suit d (λ b i. h b (inr i)))

    branches-suit : (m : Branches) → ((i : ℕ) → BranchRow i m → is_undone (p i) ≡ true) → ((b : Behaviour) → PartOfBranches b m → PartSuits N rows p b)
        → suits_branches N rows p m ≡ true
    branches-suit (last_branch r a z) u h = rw (u r refl, rows-suit a (λ b i. h b (inl i)), rows-suit z (λ b i. h b (inr i)))
    branches-suit (branch r a z m) u h =
        rw (
          u r (inl refl),
          rows-suit a (λ b i. h b (inl i)),
          rows-suit z (λ b i. h b (inr (inl i))),
          branches-suit m (λ i k. u i (inr k)) (λ b i. h b (inr (inr i))),
        )

-- ---- the behaviour of a row

module _ (i : ℕ) (b : Behaviour) (P : Type 0) where
  from_itself : (r : ℕ) (c : Behaviour) (o : Optional Behaviour) → row_of c ≡ r → itself (eqb i r) c o ≡ some b → (b ≡ c → row_of b ≡ i → P)
      → (o ≡ some b → P) → P
  from_itself r c o e = by (eqb i r) refl
    where
      by : (t : Bool) → eqb i r ≡ t → itself t c o ≡ some b → (b ≡ c → row_of b ≡ i → P) → (o ≡ some b → P) → P
      by true f h k l = let g : b ≡ c = cc in k g (ap row_of g ∙ e ∙ sym (eqb-true i r f))
      by false f h k l = l h

  from_either : (x y : Optional Behaviour) → or_else_some x y ≡ some b → (x ≡ some b → P) → (y ≡ some b → P) → P
  from_either none y h k l = l h
  from_either (some c) y h k l = k h

  from-none : none ≡ some b → P
  from-none h = absurd (let z : ◌≡◌ {A = ℕ} 0 1 = cc in omega arith)

mutual
  unfolding at_row row_of PartOf

  -- What stands at a row is a part with that row.
  pub at-row : (B : Behaviour) (i : ℕ) (b : Behaviour) → at_row i B ≡ some b → PartOf b B × (row_of b ≡ i)
  at-row (nil r) i b h = from_itself i b _ r (nil r) none refl h (λ e f. (e, f)) (from-none i b _)
  at-row (one_way r o y) i b h = from_itself i b _ r (one_way r o y) none refl h (λ e f. (e, f)) (from-none i b _)
  at-row (request_response r o y c d) i b h =
      from_itself i b _ r (request_response r o y c d) _ refl h (λ e f. (inl e, f)) (λ h. let w = at-row d i b h in (inr w.0, w.1))
  at-row (notification r o e) i b h = from_itself i b _ r (notification r o e) none refl h (λ e f. (e, f)) (from-none i b _)
  at-row (solicit_response r o e y) i b h = from_itself i b _ r (solicit_response r o e y) none refl h (λ e f. (e, f)) (from-none i b _)
  at-row (if_then_else r e a z) i b h =
      from_itself i b _ r (if_then_else r e a z) _ refl h (λ e f. (inl e, f)) (λ h. from_either i b _ (at_row i a) (at_row i z) h
      (λ h. let w = at-row a i b h in (inr (inl w.0), w.1)) (λ h. let w = at-row z i b h in (inr (inr w.0), w.1)))
  at-row (while_do r e z) i b h =
      from_itself i b _ r (while_do r e z) _ refl h (λ e f. (inl e, f)) (λ h. let w = at-row z i b h in (inr w.0, w.1))
  at-row (sequence r a z) i b h =
      from_itself i b _ r (sequence r a z) _ refl h (λ e f. (inl e, f)) (λ h. from_either i b _ (at_row i a) (at_row i z) h
      (λ h. let w = at-row a i b h in (inr (inl w.0), w.1)) (λ h. let w = at-row z i b h in (inr (inr w.0), w.1)))
  at-row (parallel r a z) i b h =
      from_itself i b _ r (parallel r a z) _ refl h (λ e f. (inl e, f)) (λ h. from_either i b _ (at_row i a) (at_row i z) h
      (λ h. let w = at-row a i b h in (inr (inl w.0), w.1)) (λ h. let w = at-row z i b h in (inr (inr w.0), w.1)))
  at-row (assign r y e) i b h = from_itself i b _ r (assign r y e) none refl h (λ e f. (e, f)) (from-none i b _)
  at-row (choice r m) i b h =
      from_itself i b _ r (choice r m) _ refl h (λ e f. (inl e, f)) (λ h. let w = at-branch m i b h in (inr w.0, w.1))
  at-row (waiting r o y) i b h = from_itself i b _ r (waiting r o y) none refl h (λ e f. (e, f)) (from-none i b _)
  at-row (answering r o c d) i b h =
      from_itself i b _ r (answering r o c d) _ refl h (λ e f. (inl e, f)) (λ h. let w = at-row d i b h in (inr w.0, w.1))

  at-branch : (m : Branches) (i : ℕ) (b : Behaviour) → at_row_in i m ≡ some b → PartOfBranches b m × (row_of b ≡ i)
  at-branch (last_branch r a z) i b h =
      from_either i b _ (at_row i a) (at_row i z) h (λ h. let w = at-row a i b h in (inl w.0, w.1)) (λ h. let w = at-row z i b h in (inr w.0, w.1))
  at-branch (branch r a z m) i b h =
      from_either i b _ (or_else_some (at_row i a) (at_row i z)) (at_row_in i m) h (λ h. from_either i b _ (at_row i a) (at_row i z) h
      (λ h. let w = at-row a i b h in (inl w.0, w.1)) (λ h. let w = at-row z i b h in (inr (inl w.0), w.1)))
      (λ h. let w = at-branch m i b h in (inr (inr w.0), w.1))

-- A behaviour stands at the row, or Q.
abbrev Found : Optional Behaviour → Type 0 → Type 0
Found o Q = ((b : Behaviour) × (o ≡ some b)) ⊎ Q

found-leaf : (t : Bool) (c : Behaviour) (Q : Type 0) → t ≡ true → Found (itself t c none) Q
found-leaf t c Q h = rw h (inl (c, refl))

found-itself : (t x : Bool) (c : Behaviour) (o : Optional Behaviour) (P Q : Type 0) → (t || x) ≡ true → (P → Q) → (x ≡ true → Found o P)
    → Found (itself t c o) Q
found-itself true x c o P Q h f k = inl (c, refl)
found-itself false x c o P Q h f k = by (k h)
  where
    by : Found o P → Found o Q
    by (inl w) = inl w
    by (inr q) = inr (f q)

found-either : (x y : Bool) (u v : Optional Behaviour) (P Q R : Type 0) → (x || y) ≡ true → (P → R) → (Q → R) → (x ≡ true → Found u P)
    → (y ≡ true → Found v Q) → Found (or_else_some u v) R
found-either true y u v P Q R h f g k l = by (k refl)
  where
    by : Found u P → Found (or_else_some u v) R
    by (inl w) = inl (w.0, rw w.1 refl)
    by (inr q) = inr (f q)
found-either false y u v P Q R h f g k l = by u (l h)
  where
    by : (u : Optional Behaviour) → Found v Q → Found (or_else_some u v) R
    by (some c) w = inl (c, refl)
    by none (inl w) = inl w
    by none (inr q) = inr (g q)

found-own : (t x : Bool) (o : Optional Behaviour) (Q : Type 0) → (t || x) ≡ true → (t ≡ true → Q) → (x ≡ true → Found o Q) → Found o Q
found-own true x o Q h f k = inr (f refl)
found-own false x o Q h f k = k h

abbrev InBranches : ℕ → Branches → Type 0
InBranches i m = (b : Behaviour) × PartOfBranches b m × BranchRowOf i b

mutual
  unfolding has_row at_row PartOf BranchRow

  -- At each row of the behaviour something stands, or it is the own row of a branch of a part.
  pub row-found : (i : ℕ) (B : Behaviour) → has_row i B ≡ true → ((b : Behaviour) × (at_row i B ≡ some b)) ⊎ InBranch i B
  row-found i (nil r) h = found-leaf (eqb i r) (nil r) _ h
  row-found i (one_way r o y) h = found-leaf (eqb i r) (one_way r o y) _ h
  row-found i (request_response r o y c d) h =
      found-itself (eqb i r) (has_row i d) (request_response r o y c d) (at_row i d) (InBranch i d) _ h (λ w. (w.0, inr w.1, w.2)) (λ h. row-found i d h)
  row-found i (notification r o e) h = found-leaf (eqb i r) (notification r o e) _ h
  row-found i (solicit_response r o e y) h = found-leaf (eqb i r) (solicit_response r o e y) _ h
  row-found i (if_then_else r e a z) h =
      found-itself (eqb i r) (has_row i a || has_row i z) (if_then_else r e a z) _ (InBranch i (if_then_else r e a z)) _ h (λ w. w)
      (λ h. found-either (has_row i a) (has_row i z) (at_row i a) (at_row i z) (InBranch i a) (InBranch i z) _ h
      (λ w. (w.0, inr (inl w.1), w.2)) (λ w. (w.0, inr (inr w.1), w.2)) (λ h. row-found i a h) (λ h. row-found i z h))
  row-found i (while_do r e z) h =
      found-itself (eqb i r) (has_row i z) (while_do r e z) (at_row i z) (InBranch i z) _ h (λ w. (w.0, inr w.1, w.2)) (λ h. row-found i z h)
  row-found i (sequence r a z) h =
      found-itself (eqb i r) (has_row i a || has_row i z) (sequence r a z) _ (InBranch i (sequence r a z)) _ h (λ w. w)
      (λ h. found-either (has_row i a) (has_row i z) (at_row i a) (at_row i z) (InBranch i a) (InBranch i z) _ h
      (λ w. (w.0, inr (inl w.1), w.2)) (λ w. (w.0, inr (inr w.1), w.2)) (λ h. row-found i a h) (λ h. row-found i z h))
  row-found i (parallel r a z) h =
      found-itself (eqb i r) (has_row i a || has_row i z) (parallel r a z) _ (InBranch i (parallel r a z)) _ h (λ w. w)
      (λ h. found-either (has_row i a) (has_row i z) (at_row i a) (at_row i z) (InBranch i a) (InBranch i z) _ h
      (λ w. (w.0, inr (inl w.1), w.2)) (λ w. (w.0, inr (inr w.1), w.2)) (λ h. row-found i a h) (λ h. row-found i z h))
  row-found i (assign r y e) h = found-leaf (eqb i r) (assign r y e) _ h
  row-found i (choice r m) h =
      found-itself (eqb i r) (has_row_in i m) (choice r m) (at_row_in i m) (BranchRow i m ⊎ InBranches i m) _ h by (λ h. branch-found i m h)
    where
      by : BranchRow i m ⊎ InBranches i m → InBranch i (choice r m)
      by (inl k) = (choice r m, inl refl, k)
      by (inr w) = (w.0, inr w.1, w.2)
  row-found i (waiting r o y) h = found-leaf (eqb i r) (waiting r o y) _ h
  row-found i (answering r o c d) h =
      found-itself (eqb i r) (has_row i d) (answering r o c d) (at_row i d) (InBranch i d) _ h (λ w. (w.0, inr w.1, w.2)) (λ h. row-found i d h)

  branch-found : (i : ℕ) (m : Branches) → has_row_in i m ≡ true → Found (at_row_in i m) (BranchRow i m ⊎ InBranches i m)
  branch-found i (last_branch r a z) h =
      found-own (eqb i r) (has_row i a || has_row i z) _ _ h (λ e. inl (eqb-true i r e))
      (λ h. found-either (has_row i a) (has_row i z) (at_row i a) (at_row i z) (InBranch i a) (InBranch i z) _ h
      (λ w. inr (w.0, inl w.1, w.2)) (λ w. inr (w.0, inr w.1, w.2)) (λ h. row-found i a h) (λ h. row-found i z h))
  branch-found i (branch r a z m) h =
      found-own (eqb i r) ((has_row i a || has_row i z) || has_row_in i m) _ _ h (λ e. inl (inl (eqb-true i r e)))
      (λ h. found-either (has_row i a || has_row i z) (has_row_in i m) (or_else_some (at_row i a) (at_row i z)) (at_row_in i m)
      (InBranches i (branch r a z m)) (BranchRow i m ⊎ InBranches i m) _ h (λ w. inr w) by
      (λ h. found-either (has_row i a) (has_row i z) (at_row i a) (at_row i z) (InBranch i a) (InBranch i z) _ h
      (λ w. (w.0, inl w.1, w.2)) (λ w. (w.0, inr (inl w.1), w.2)) (λ h. row-found i a h) (λ h. row-found i z h))
      (λ h. branch-found i m h))
    where
      by : BranchRow i m ⊎ InBranches i m → BranchRow i (branch r a z m) ⊎ InBranches i (branch r a z m)
      by (inl k) = inl (inr k)
      by (inr w) = inr (w.0, inr (inr w.1), w.2)

mutual
  unfolding has_row row_of PartOf

  -- A part's row is one of the behaviour's.
  pub part-row : (B b : Behaviour) → PartOf b B → has_row (row_of b) B ≡ true
  part-row (nil r) b h = rw (h, eq-eqb r r refl)
  part-row (one_way r o y) b h = rw (h, eq-eqb r r refl)
  part-row (request_response r o y c d) b (inl h) = rw (h, eq-eqb r r refl)
  part-row (request_response r o y c d) b (inr h) = or_right (eqb (row_of b) r) (part-row d b h)
  part-row (notification r o e) b h = rw (h, eq-eqb r r refl)
  part-row (solicit_response r o e y) b h = rw (h, eq-eqb r r refl)
  part-row (if_then_else r e a z) b (inl h) = rw (h, eq-eqb r r refl)
  part-row (if_then_else r e a z) b (inr (inl h)) = or_right (eqb (row_of b) r) (or_left (has_row (row_of b) z) (part-row a b h))
  part-row (if_then_else r e a z) b (inr (inr h)) = or_right (eqb (row_of b) r) (or_right (has_row (row_of b) a) (part-row z b h))
  part-row (while_do r e z) b (inl h) = rw (h, eq-eqb r r refl)
  part-row (while_do r e z) b (inr h) = or_right (eqb (row_of b) r) (part-row z b h)
  part-row (sequence r a z) b (inl h) = rw (h, eq-eqb r r refl)
  part-row (sequence r a z) b (inr (inl h)) = or_right (eqb (row_of b) r) (or_left (has_row (row_of b) z) (part-row a b h))
  part-row (sequence r a z) b (inr (inr h)) = or_right (eqb (row_of b) r) (or_right (has_row (row_of b) a) (part-row z b h))
  part-row (parallel r a z) b (inl h) = rw (h, eq-eqb r r refl)
  part-row (parallel r a z) b (inr (inl h)) = or_right (eqb (row_of b) r) (or_left (has_row (row_of b) z) (part-row a b h))
  part-row (parallel r a z) b (inr (inr h)) = or_right (eqb (row_of b) r) (or_right (has_row (row_of b) a) (part-row z b h))
  part-row (assign r y e) b h = rw (h, eq-eqb r r refl)
  part-row (choice r m) b (inl h) = rw (h, eq-eqb r r refl)
  part-row (choice r m) b (inr h) = or_right (eqb (row_of b) r) (branch-part m b h)
  part-row (waiting r o y) b h = rw (h, eq-eqb r r refl)
  part-row (answering r o c d) b (inl h) = rw (h, eq-eqb r r refl)
  part-row (answering r o c d) b (inr h) = or_right (eqb (row_of b) r) (part-row d b h)

  branch-part : (m : Branches) (b : Behaviour) → PartOfBranches b m → has_row_in (row_of b) m ≡ true
  branch-part (last_branch r a z) b (inl h) = or_right (eqb (row_of b) r) (or_left (has_row (row_of b) z) (part-row a b h))
  branch-part (last_branch r a z) b (inr h) = or_right (eqb (row_of b) r) (or_right (has_row (row_of b) a) (part-row z b h))
  branch-part (branch r a z m) b (inl h) =
      or_right (eqb (row_of b) r) (or_left (has_row_in (row_of b) m) (or_left (has_row (row_of b) z) (part-row a b h)))
  branch-part (branch r a z m) b (inr (inl h)) =
      or_right (eqb (row_of b) r) (or_left (has_row_in (row_of b) m) (or_right (has_row (row_of b) a) (part-row z b h)))
  branch-part (branch r a z m) b (inr (inr h)) =
      or_right (eqb (row_of b) r) (or_right (has_row (row_of b) a || has_row (row_of b) z) (branch-part m b h))

-- Nothing stands at a row that is none of the behaviour's.
pub row-absent : (i : ℕ) (B : Behaviour) → has_row i B ≡ false → at_row i B ≡ none
row-absent i B h = by (at_row i B) refl
  where
    by : (x : Optional Behaviour) → at_row i B ≡ x → x ≡ none
    by none e = refl
    by (some b) e =
        let w = at-row B i b e in
        let f : has_row i B ≡ true = rw w.1 at (part-row B b w.0) in
        cc

-- ---- over the rows of the file

module _ (p : Progresses) (B : Behaviour) where
  pub quiet_each : (n : ℕ) → quiet_elsewhere n p B ≡ true → (i : ℕ) → i < n → (has_row i B || is_undone (p i)) ≡ true
  unfolding quiet_elsewhere
  quiet_each zero h i l = absurd (omega arith)
  quiet_each (suc n) h i l =
      let a = has_row n B || is_undone (p n) in
      below_next (λ i. (has_row i B || is_undone (p i)) ≡ true) n i l (and_left a (quiet_elsewhere n p B) h)
      (quiet_each n (and_right a (quiet_elsewhere n p B) h) i)

  each-quiet : (n : ℕ) → ((i : ℕ) → i < n → (has_row i B || is_undone (p i)) ≡ true) → quiet_elsewhere n p B ≡ true
  unfolding quiet_elsewhere
  each-quiet zero h = refl
  each-quiet (suc n) h = rw (h n (omega arith), each-quiet n (λ i l. h i (omega arith)))

module _ (N : Network) (rows : ℕ) (p : Progresses) (B : Behaviour) where
  rows-each : (n : ℕ) → suits_rows N rows p B n ≡ true → (i : ℕ) → i < n → suits_at N rows (p i) (at_row i B) ≡ true
  unfolding suits_rows
  rows-each zero h i l = absurd (omega arith)
  rows-each (suc n) h i l =
      let a = suits_at N rows (p n) (at_row n B) in
      let b = suits_rows N rows p B n in
      below_next (λ i. suits_at N rows (p i) (at_row i B) ≡ true) n i l (and_left a b h) (rows-each n (and_right a b h) i)

  each_rows : (n : ℕ) → ((i : ℕ) → i < n → suits_at N rows (p i) (at_row i B) ≡ true) → suits_rows N rows p B n ≡ true
  unfolding suits_rows
  each_rows zero h = refl
  each_rows (suc n) h = rw (h n (omega arith), each_rows n (λ i l. h i (omega arith)))

  suits-at : suits N rows p B ≡ true → (i : ℕ) → (has_row i B || is_undone (p i)) ≡ true → suits_at N rows (p i) (at_row i B) ≡ true
  suits-at h i k = by (at_row i B) refl
    where
      by : (x : Optional Behaviour) → at_row i B ≡ x → suits_at N rows (p i) x ≡ true
      by none e = own (has_row i B) refl k
        where
          found : ((b : Behaviour) × (at_row i B ≡ some b)) ⊎ InBranch i B → is_undone (p i) ≡ true
          found (inl w) = let f : none ≡ some w.0 = sym e ∙ w.1 in cc
          found (inr w) = (suits-row N rows p B w.0 h w.1).branch_rows i w.2

          own : (t : Bool) → has_row i B ≡ t → (t || is_undone (p i)) ≡ true → is_undone (p i) ≡ true
          own true f k = found (row-found i B f)
          own false f k = k
      by (some b) e = let w = at-row B i b e in rw w.1 at (suits-row N rows p B b h w.0).own

  part-suits : RowsApart B → ((i : ℕ) → i < 256 → suits_at N rows (p i) (at_row i B) ≡ true) → (b : Behaviour) → PartOf b B → PartSuits N rows p b
  part-suits a h b i = record {
    own = by (at_row (row_of b) B) refl (h (row_of b) (a.small b i));
    branch_rows = λ j k. undone j k (at_row j B) refl (h j (a.branches_small b i j k));
  }
    where
      found : at_row (row_of b) B ≡ none → ((c : Behaviour) × (at_row (row_of b) B ≡ some c)) ⊎ InBranch (row_of b) B → ⊥
      found e (inl w) = let f : none ≡ some w.0 = sym e ∙ w.1 in let z : ◌≡◌ {A = ℕ} 0 1 = cc in omega arith
      found e (inr w) = a.branches_apart b w.0 i w.1 w.2

      by : (x : Optional Behaviour) → at_row (row_of b) B ≡ x → suits_at N rows (p (row_of b)) x ≡ true → suits_row N rows (p (row_of b)) b ≡ true
      by none e g = absurd (found e (row-found (row_of b) B (part-row B b i)))
      by (some c) e g = let w = at-row B (row_of b) c e in rw (a.apart c b w.0 i w.1) at g

      undone : (j : ℕ) → BranchRowOf j b → (x : Optional Behaviour) → at_row j B ≡ x → suits_at N rows (p j) x ≡ true → is_undone (p j) ≡ true
      undone j k none e g = g
      undone j k (some c) e g = let w = at-row B j c e in absurd (a.branches_apart c b w.0 i (rw w.1 k))

  at-quiet : ((i : ℕ) → i < 256 → suits_at N rows (p i) (at_row i B) ≡ true) → (i : ℕ) → i < 256 → (has_row i B || is_undone (p i)) ≡ true
  at-quiet h i l = by (at_row i B) refl (h i l)
    where
      by : (x : Optional Behaviour) → at_row i B ≡ x → suits_at N rows (p i) x ≡ true → (has_row i B || is_undone (p i)) ≡ true
      by none e g = or_right (has_row i B) g
      by (some b) e g = let w = at-row B i b e in or_left (is_undone (p i)) (rw w.1 at (part-row B b w.0))

  -- The progress of a session's rows suits its behaviour exactly if that of each row of the file does.
  pub rows-decide : RowsApart B → (suits N rows p B && quiet_elsewhere 256 p B) ≡ suits_rows N rows p B 256
  rows-decide a = agree _ _ to from
    where
      to : (suits N rows p B && quiet_elsewhere 256 p B) ≡ true → suits_rows N rows p B 256 ≡ true
      to h =
          let s = suits N rows p B in
          let q = quiet_elsewhere 256 p B in
          each_rows 256 (λ i l. suits-at (and_left s q h) i (quiet_each p B 256 (and_right s q h) i l))

      from : suits_rows N rows p B 256 ≡ true → (suits N rows p B && quiet_elsewhere 256 p B) ≡ true
      from h =
          let k = rows-each 256 h in
          rw (rows-suit N rows p B (part-suits a k), each-quiet p B 256 (at-quiet k))
