-- What is reached in a behaviour of a file, or offered there, are rows of the file.
use Rattle.std.specs.Prelude.{◌≡◌, Bool, true, false, ◌||◌, List, ℕ, zero, suc, ◌<◌, T, eqb}
use Rattle.std.proofs.Common.{sym, subst, arith}
use Rattle.std.proofs.Math.Dec.{eqb_refl}
use Rattle.basics.specs.TestLaws.{or_case, or_l, or_r}
use Rattle.network_syntax.specs.Syntax.{Behaviour, nil, one_way, request_response, notification, solicit_response, if_then_else, while_do}
use Rattle.network_syntax.specs.Syntax.{sequence, parallel, assign, choice, waiting, answering, Branches, last_branch, branch}
use Rattle.network_syntax.specs.Rows.{row_of, has_row, has_row_in}
use Rattle.network_syntax.specs.ViewLaws.{own_row}
use Rattle.network.specs.Form.{WellFormed}
use Rattle.network.specs.Layout.{behaviour_count}
use Rattle.network.specs.Decode.{behaviour_of}
use Rattle.network.proofs.OnceLaws.{rows_of}
use Rattle.network.proofs.BehaviourLaws.{row-of}
use Rattle.state.specs.Session.{Progress, undone, done, waits, received, taken, Progresses}
use Rattle.move_rules.specs.Readiness.{Reached, unreached, reached, offered, here, or_else, only_if}
use Rattle.move_rules.specs.Readiness.{offered_if, first_or, unless_received, unless_taken, then_or_else, is_done, offer, reach, reach_branch, served}
use Rattle.move_readiness.specs.declared.Reached as rows
use Rattle.move_readiness.specs.Reaching.{reached_as, ReachTells}

-- ---- what is reached in a behaviour has rows of the behaviour

-- The rows of what is reached are among those of which P holds.
abbrev RowsIn : (ℕ → Type 0) → Reached → Type 0
RowsIn P unreached = Unit {0}
RowsIn P (reached b) = P (row_of b)
RowsIn P (offered c k b) = P c × P (row_of b)

abbrev Each : (ℕ → Type 0) → Behaviour → Type 0
Each P B = (j : ℕ) → T (has_row j B) → P j

abbrev EachIn : (ℕ → Type 0) → Branches → Type 0
EachIn P m = (j : ℕ) → T (has_row_in j m) → P j

module _ (P : ℕ → Type 0) where
  only : (r : ℕ) (d : Behaviour) → ((j : ℕ) → T (eqb j r || has_row j d) → P j) → Each P d
  only r d h j t = h j (or_r (eqb j r) (has_row j d) t)

  first : (r : ℕ) (a b : Behaviour) → ((j : ℕ) → T (eqb j r || (has_row j a || has_row j b)) → P j) → Each P a
  first r a b h j t = h j (or_r (eqb j r) (has_row j a || has_row j b) (or_l (has_row j a) (has_row j b) t))

  second : (r : ℕ) (a b : Behaviour) → ((j : ℕ) → T (eqb j r || (has_row j a || has_row j b)) → P j) → Each P b
  second r a b h j t = h j (or_r (eqb j r) (has_row j a || has_row j b) (or_r (has_row j a) (has_row j b) t))

  in-choice : (r : ℕ) (m : Branches) → ((j : ℕ) → T (eqb j r || has_row_in j m) → P j) → EachIn P m
  in-choice r m h j t = h j (or_r (eqb j r) (has_row_in j m) t)

  branch-of : (r : ℕ) (a b : Behaviour) (m : Branches) → ((j : ℕ) → T (eqb j r || ((has_row j a || has_row j b) || has_row_in j m)) → P j)
      → (j : ℕ) → T (eqb j r || (has_row j a || has_row j b)) → P j
  branch-of r a b m h j t =
      h j (or_case (eqb j r) (has_row j a || has_row j b) (λ z. or_l (eqb j r) ((has_row j a || has_row j b) || has_row_in j m) z)
      (λ z. or_r (eqb j r) ((has_row j a || has_row j b) || has_row_in j m) (or_l (has_row j a || has_row j b) (has_row_in j m) z)) t)

  others-of : (r : ℕ) (a b : Behaviour) (m : Branches) → ((j : ℕ) → T (eqb j r || ((has_row j a || has_row j b) || has_row_in j m)) → P j) → EachIn P m
  others-of r a b m h j t =
      h j (or_r (eqb j r) ((has_row j a || has_row j b) || has_row_in j m) (or_r (has_row j a || has_row j b) (has_row_in j m) t))

  here-rows : (t : Bool) (b : Behaviour) (x : Reached) → Each P b → RowsIn P x → RowsIn P (here t b x)
  here-rows true b x h k = h (row_of b) (own_row b)
  here-rows false b x h k = k

  either-rows : (x y : Reached) → RowsIn P x → RowsIn P y → RowsIn P (or_else x y)
  either-rows unreached y h k = k
  either-rows (reached b) y h k = h
  either-rows (offered c i b) y h k = h

  only-rows : (t : Bool) (x : Reached) → RowsIn P x → RowsIn P (only_if t x)
  only-rows true x h = h
  only-rows false x h = tt

  offered-rows : (t : Bool) (c k : ℕ) (b : Behaviour) (x : Reached) → P c → Each P b → RowsIn P x → RowsIn P (offered_if t c k b x)
  offered-rows true c k b x h i j = (h, i (row_of b) (own_row b))
  offered-rows false c k b x h i j = j

  received-rows : (q : Progress) (x y : Reached) → RowsIn P x → RowsIn P y → RowsIn P (unless_received q x y)
  received-rows undone x y h k = h
  received-rows done x y h k = h
  received-rows waits x y h k = h
  received-rows (received to) x y h k = k
  received-rows (taken i) x y h k = h

  taken-rows : (q : Progress) (x : Reached) (f : ℕ → Reached) → RowsIn P x → ((j : ℕ) → RowsIn P (f j)) → RowsIn P (unless_taken q x f)
  taken-rows undone x f h k = h
  taken-rows done x f h k = h
  taken-rows waits x f h k = h
  taken-rows (received to) x f h k = h
  taken-rows (taken i) x f h k = k i

  part-rows : (j : ℕ) (x y : Reached) → RowsIn P x → RowsIn P y → RowsIn P (then_or_else j x y)
  part-rows zero x y h k = h
  part-rows (suc j) x y h k = k

  branch-rows : (k : ℕ) (x : Reached) (f : ℕ → Reached) → RowsIn P x → ((j : ℕ) → RowsIn P (f j)) → RowsIn P (first_or k x f)
  branch-rows zero x f h i = h
  branch-rows (suc k) x f h i = i k

  offer-rows : (c k i : ℕ) (m : Branches) → P c → EachIn P m → RowsIn P (offer c k i m)
  unfolding offer has_row_in
  offer-rows c k i (last_branch r a b) h e = offered-rows (eqb i (row_of a)) c k a unreached h (first r a b e) tt
  offer-rows c k i (branch r a b m) h e =
      offered-rows (eqb i (row_of a)) c k a _ h (first r a b (branch-of r a b m e)) (offer-rows c (suc k) i m h (others-of r a b m e))

  sequence-rows : (p : Progresses) (i r : ℕ) (a b : Behaviour) → RowsIn P (reach p i a) → RowsIn P (reach p i b)
      → RowsIn P (or_else (reach p i a) (only_if (is_done p a) (reach p i b)))
  sequence-rows p i r a b h k = either-rows (reach p i a) _ h (only-rows (is_done p a) (reach p i b) k)

  mutual
    unfolding reach served has_row

    reach-rows : (p : Progresses) (i : ℕ) (B : Behaviour) → Each P B → RowsIn P (reach p i B)
    reach-rows p i (nil r) h = here-rows (eqb i r) (nil r) unreached h tt
    reach-rows p i (one_way r o x) h = here-rows (eqb i r) (one_way r o x) unreached h tt
    reach-rows p i (request_response r o x c d) h =
        here-rows (eqb i r) (request_response r o x c d) _ h (received-rows (p r) unreached (reach p i d) tt (reach-rows p i d (only r d h)))
    reach-rows p i (notification r o e) h = here-rows (eqb i r) (notification r o e) unreached h tt
    reach-rows p i (solicit_response r o e x) h = here-rows (eqb i r) (solicit_response r o e x) unreached h tt
    reach-rows p i (if_then_else r e a b) h =
        here-rows (eqb i r) (if_then_else r e a b) _ h
        (taken-rows (p r) unreached (λ j. then_or_else j (reach p i a) (reach p i b)) tt
        (λ j. part-rows j (reach p i a) (reach p i b) (reach-rows p i a (first r a b h)) (reach-rows p i b (second r a b h))))
    reach-rows p i (while_do r e b) h =
        here-rows (eqb i r) (while_do r e b) _ h (taken-rows (p r) unreached (λ j. reach p i b) tt (λ j. reach-rows p i b (only r b h)))
    reach-rows p i (sequence r a b) h =
        here-rows (eqb i r) (sequence r a b) _ h
        (sequence-rows p i r a b (reach-rows p i a (first r a b h)) (reach-rows p i b (second r a b h)))
    reach-rows p i (parallel r a b) h =
        here-rows (eqb i r) (parallel r a b) _ h
        (either-rows (reach p i a) (reach p i b) (reach-rows p i a (first r a b h)) (reach-rows p i b (second r a b h)))
    reach-rows p i (assign r x e) h = here-rows (eqb i r) (assign r x e) unreached h tt
    reach-rows p i (choice r m) h =
        here-rows (eqb i r) (choice r m) _ h
        (taken-rows (p r) (or_else (offer r 0 i m) (served p i m)) (λ j. reach_branch p j i m)
        (either-rows (offer r 0 i m) (served p i m) (offer-rows r 0 i m (h r (or_l (eqb r r) (has_row_in r m) (eqb_refl r))) (in-choice r m h))
        (served-rows p i m (in-choice r m h)))
        (λ j. branch-reach p j i m (in-choice r m h)))
    reach-rows p i (waiting r o x) h = tt
    reach-rows p i (answering r o c d) h = tt

    branch-reach : (p : Progresses) (k i : ℕ) (m : Branches) → EachIn P m → RowsIn P (reach_branch p k i m)
    branch-reach p k i (last_branch r a b) h =
        sequence-rows p i r a b (reach-rows p i a (first r a b h)) (reach-rows p i b (second r a b h))
    branch-reach p k i (branch r a b m) h =
        branch-rows k (or_else (reach p i a) (only_if (is_done p a) (reach p i b))) (λ j. reach_branch p j i m)
        (sequence-rows p i r a b (reach-rows p i a (first r a b (branch-of r a b m h))) (reach-rows p i b (second r a b (branch-of r a b m h))))
        (λ j. branch-reach p j i m (others-of r a b m h))

    served-rows : (p : Progresses) (i : ℕ) (m : Branches) → EachIn P m → RowsIn P (served p i m)
    served-rows p i (last_branch r a b) h = received-rows (p (row_of a)) unreached (reach p i a) tt (reach-rows p i a (first r a b h))
    served-rows p i (branch r a b m) h =
        either-rows (unless_received (p (row_of a)) unreached (reach p i a)) (served p i m)
        (received-rows (p (row_of a)) unreached (reach p i a) tt (reach-rows p i a (first r a b (branch-of r a b m h))))
        (served-rows p i m (others-of r a b m h))

-- ---- in a file

-- The rows of the file.
abbrev InFile : List ℕ → ℕ → Type 0
InFile file j = j < behaviour_count file

module _ (file : List ℕ) (w : WellFormed file) (p : Progresses) where
  reach-in : (b r : ℕ) → b < behaviour_count file → RowsIn (InFile file) (reach p r (behaviour_of file b))
  reach-in b r l = reach-rows (InFile file) p r (behaviour_of file b) (λ j t. (rows_of file w b j l t).1)

  -- By the definition,
  pub reached-row : (b r i : ℕ) → b < behaviour_count file → reached (behaviour_of file i) ≡ reach p r (behaviour_of file b) → i < behaviour_count file
  reached-row b r i l e =
      let k : row_of (behaviour_of file i) < behaviour_count file = subst (RowsIn (InFile file)) (sym e) (reach-in b r l) in
      omega (arith, k, row-of file i)

-- and by the code.
module _ (file : List ℕ) (w : WellFormed file) (p : Progresses) (i r : ℕ) (l : r < behaviour_count file) {x : rows.Reached} (h : ReachTells file p i r x) where
  rows-reached : RowsIn (InFile file) (reached_as file x)
  rows-reached =
      subst (RowsIn (InFile file)) (sym (h.tells w l)) (reach-in file w p r i l)

  pub reaches-row : (j : ℕ) → x ≡ rows.Reached.Reached j → j < behaviour_count file
  reaches-row j e =
      let k : row_of (behaviour_of file j) < behaviour_count file = subst (λ (y : rows.Reached). RowsIn (InFile file) (reached_as file y)) e rows-reached in
      omega (arith, k, row-of file j)

  pub offered-row : (c k j : ℕ) → x ≡ rows.Reached.Offered c k j → (c < behaviour_count file) × (j < behaviour_count file)
  offered-row c k j e =
      let z : (c < behaviour_count file) × (row_of (behaviour_of file j) < behaviour_count file) =
      subst (λ (y : rows.Reached). RowsIn (InFile file) (reached_as file y)) e rows-reached in
      (z.0, omega (arith, z.1, row-of file j))
