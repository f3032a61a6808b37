-- Laws of rests by rows: a change of one part's rows changes the rest at that part only.
use Rattle.std.specs.Prelude.{◌≡◌, refl, ℕ, zero, suc, Bool, true, false, ◌&&◌, ◌||◌, T, eqb}
use Rattle.std.proofs.Common.{sym, ap, subst, ◌∙◌}
use Rattle.std.proofs.Math.Dec.{eqb_refl}
use Rattle.basics.specs.TestLaws.{and-false, or_l, or_r}
use Rattle.tree_forest.specs.Path.{Path}
use Rattle.network_syntax.specs.Syntax.{Expression, Operation, Behaviour, nil, one_way, request_response, notification, solicit_response, if_then_else, while_do}
use Rattle.network_syntax.specs.Syntax.{sequence, parallel, assign, choice, waiting, answering, Branches, last_branch, branch}
use Rattle.network_syntax.specs.Rows.{has_row, has_row_in}
use Rattle.network.specs.Shapes.{EachRowOnce, EachBranchRowOnce}
use Rattle.state.specs.Session.{Progress, Progresses, Destination, undone, done, waits, received, taken}
use Rattle.move_rules.specs.Readiness.{unless_done, unless_waits, unless_received, unless_taken, then_or_else, first_or, is_done, branch_done, rest, branch_rest}
use Rattle.soundness.specs.Parts.{branch_at, Fresh, Clean, CleanBranches, Reaches, at_self, at_first, at_second, at_left, at_right, at_then, at_else, at_loop}
use Rattle.soundness.specs.Parts.{at_served, at_branch}
use Rattle.soundness.proofs.ContextLaws.{finished, Active, itself, in_first, in_second, on_left, on_right, in_body}

-- Rows of the parts are rows of the whole.
pub in-own : (i r : ℕ) (c : Bool) → T (eqb i r) → T (eqb i r || c)
in-own i r c t = or_l (eqb i r) c t

pub in-first : (i r : ℕ) (a b : Behaviour) → T (has_row i a) → T (eqb i r || (has_row i a || has_row i b))
in-first i r a b t = or_r (eqb i r) (has_row i a || has_row i b) (or_l (has_row i a) (has_row i b) t)

pub in-second : (i r : ℕ) (a b : Behaviour) → T (has_row i b) → T (eqb i r || (has_row i a || has_row i b))
in-second i r a b t = or_r (eqb i r) (has_row i a || has_row i b) (or_r (has_row i a) (has_row i b) t)

pub in-only : (i r : ℕ) (a : Behaviour) → T (has_row i a) → T (eqb i r || has_row i a)
in-only i r a t = or_r (eqb i r) (has_row i a) t

pub in-branches : (i r : ℕ) (m : Branches) → T (has_row_in i m) → T (eqb i r || has_row_in i m)
in-branches i r m t = or_r (eqb i r) (has_row_in i m) t

pub in-input : (i r : ℕ) (a b : Behaviour) (m : Branches) → T (has_row i a) → T (eqb i r || ((has_row i a || has_row i b) || has_row_in i m))
in-input i r a b m t = or_r (eqb i r) _ (or_l (has_row i a || has_row i b) (has_row_in i m) (or_l (has_row i a) (has_row i b) t))

pub in_then : (i r : ℕ) (a b : Behaviour) (m : Branches) → T (has_row i b) → T (eqb i r || ((has_row i a || has_row i b) || has_row_in i m))
in_then i r a b m t = or_r (eqb i r) _ (or_l (has_row i a || has_row i b) (has_row_in i m) (or_r (has_row i a) (has_row i b) t))

pub in-others : (i r : ℕ) (a b : Behaviour) (m : Branches) → T (has_row_in i m) → T (eqb i r || ((has_row i a || has_row i b) || has_row_in i m))
in-others i r a b m t = or_r (eqb i r) _ (or_r (has_row i a || has_row i b) (has_row_in i m) t)

-- Case pickers at a known progress.
pub taken-at : {A : Type 0} (s : Progress) (k : ℕ) → s ≡ taken k → (x : A) (f : ℕ → A) → unless_taken s x f ≡ f k
taken-at s k e x f = ap (λ (z : Progress). unless_taken z x f) e

pub taken-same : {A : Type 0} (s : Progress) (x y : A) (f g : ℕ → A) → x ≡ y → ((j : ℕ) → f j ≡ g j) → unless_taken s x f ≡ unless_taken s y g
taken-same undone x y f g e h = e
taken-same done x y f g e h = e
taken-same waits x y f g e h = e
taken-same (received to) x y f g e h = e
taken-same (taken k) x y f g e h = h k

pub first-same : {A : Type 0} (k : ℕ) (x y : A) (f g : ℕ → A) → x ≡ y → ((j : ℕ) → f j ≡ g j) → first_or k x f ≡ first_or k y g
first-same zero x y f g e h = e
first-same (suc k) x y f g e h = h k

-- The branch taken -----------------------------------------------------------------------------------------------------------------

pub branch-rest : (m : Branches) (k : ℕ) (p : Progresses) → branch_rest p k m ≡ rest p (branch_at k m)
unfolding rest branch_at
branch-rest (last_branch r a b) k p = refl
branch-rest (branch r a b m) zero p = refl
branch-rest (branch r a b m) (suc k) p = branch-rest m k p

pub branch-done : (m : Branches) (k : ℕ) (p : Progresses) → branch_done p k m ≡ is_done p (branch_at k m)
unfolding is_done branch_at
branch-done (last_branch r a b) k p = refl
branch-done (branch r a b m) zero p = refl
branch-done (branch r a b m) (suc k) p = branch-done m k p

pub branch-rows : (m : Branches) (k i : ℕ) → T (has_row i (branch_at k m)) → T (has_row_in i m)
unfolding has_row branch_at
branch-rows (last_branch r a b) k i t = t
branch-rows (branch r a b m) zero i t = go (eqb i r) (has_row i a || has_row i b) (has_row_in i m) t
  where
    go : (x y z : Bool) → T (x || y) → T (x || (y || z))
    go true y z t = tt
    go false y z t = or_l y z t
branch-rows (branch r a b m) (suc k) i t = in-others i r a b m (branch-rows m k i t)

pub branch-once : (m : Branches) (k : ℕ) → EachBranchRowOnce m → EachRowOnce (branch_at k m)
unfolding EachRowOnce branch_at
branch-once (last_branch r a b) k o = o
branch-once (branch r a b m) zero o = (o.0, o.1, o.2, o.3, o.4)
branch-once (branch r a b m) (suc k) o = branch-once m k o.8

pub branch-clean : (m : Branches) (k : ℕ) (p : Progresses) → CleanBranches p m → Clean p (branch_at k m)
unfolding Clean branch_at
branch-clean (last_branch r a b) k p c = c
branch-clean (branch r a b m) zero p c = (c.0, c.1)
branch-clean (branch r a b m) (suc k) p c = branch-clean m k p c.2

-- Done is what the rest says -------------------------------------------------------------------------------------------------------

done-leaf : (s : Progress) (r : ℕ) (b : Behaviour) → finished b ≡ false → unless_done s false true ≡ finished (unless_done s b (nil r))
unfolding finished
done-leaf undone r b e = sym e
done-leaf done r b e = refl
done-leaf waits r b e = sym e
done-leaf (received to) r b e = sym e
done-leaf (taken k) r b e = sym e

done-taken : (s : Progress) (b : Behaviour) (f : ℕ → Bool) (g : ℕ → Behaviour) → finished b ≡ false → ((j : ℕ) → f j ≡ finished (g j))
    → unless_taken s false f ≡ finished (unless_taken s b g)
done-taken undone b f g e h = sym e
done-taken done b f g e h = sym e
done-taken waits b f g e h = sym e
done-taken (received to) b f g e h = sym e
done-taken (taken k) b f g e h = h k

both : (a b c d : Bool) → a ≡ c → b ≡ d → (a && b) ≡ (c && d)
both a b c d e f = rw (e, f)

mutual
  unfolding is_done rest finished

  pub done-rest : (B : Behaviour) (p : Progresses) → is_done p B ≡ finished (rest p B)
  done-rest (nil r) p = refl
  done-rest (one_way r o x) p = done-leaf (p r) r (one_way r o x) refl
  done-rest (request_response r o x c d) p = go (p r)
    where
      go : (s : Progress)
          → unless_done s false true ≡ finished (unless_done s (unless_received s (request_response r o x c d) (answering r o c (rest p d))) (nil r))
      go undone = refl
      go done = refl
      go waits = refl
      go (received to) = refl
      go (taken j) = refl
  done-rest (notification r o e) p = done-leaf (p r) r (notification r o e) refl
  done-rest (solicit_response r o e x) p = go (p r)
    where
      go : (s : Progress) → unless_done s false true ≡ finished (unless_done s (unless_waits s (solicit_response r o e x) (waiting r o x)) (nil r))
      go undone = refl
      go done = refl
      go waits = refl
      go (received to) = refl
      go (taken j) = refl
  done-rest (if_then_else r e a b) p =
      done-taken (p r) (if_then_else r e a b) (λ j. then_or_else j (is_done p a) (is_done p b)) (λ j. then_or_else j (rest p a) (rest p b)) refl
      (λ j. go j (done-rest a p) (done-rest b p))
    where
      go : (j : ℕ) → is_done p a ≡ finished (rest p a) → is_done p b ≡ finished (rest p b)
          → then_or_else j (is_done p a) (is_done p b) ≡ finished (then_or_else j (rest p a) (rest p b))
      go zero x y = x
      go (suc j) x y = y
  done-rest (while_do r e b) p = go (p r)
    where
      go : (s : Progress)
          → unless_done s false true ≡ finished (unless_done s (unless_taken s (while_do r e b) (λ j. sequence r (rest p b) (while_do r e b))) (nil r))
      go undone = refl
      go done = refl
      go waits = refl
      go (received to) = refl
      go (taken j) = sym (and-false (finished (rest p b)))
  done-rest (sequence r a b) p =
      both (is_done p a) (is_done p b) (finished (rest p a)) (finished (rest p b)) (done-rest a p) (done-rest b p)
  done-rest (parallel r a b) p =
      both (is_done p a) (is_done p b) (finished (rest p a)) (finished (rest p b)) (done-rest a p) (done-rest b p)
  done-rest (assign r x e) p = done-leaf (p r) r (assign r x e) refl
  done-rest (choice r m) p = done-taken (p r) (choice r m) (λ j. branch_done p j m) (λ j. branch_rest p j m) refl (λ j. branch-done-rest m j p)
  done-rest (waiting r o x) p = refl
  done-rest (answering r o c d) p = refl

  branch-done-rest : (m : Branches) (k : ℕ) (p : Progresses) → branch_done p k m ≡ finished (branch_rest p k m)
  branch-done-rest (last_branch r a b) k p =
      both (is_done p a) (is_done p b) (finished (rest p a)) (finished (rest p b)) (done-rest a p) (done-rest b p)
  branch-done-rest (branch r a b m) zero p =
      both (is_done p a) (is_done p b) (finished (rest p a)) (finished (rest p b)) (done-rest a p) (done-rest b p)
  branch-done-rest (branch r a b m) (suc k) p = branch-done-rest m k p

-- The rest depends on the progress of its own rows only ----------------------------------------------------------------------------

mutual
  unfolding rest has_row

  pub rest-same : (B : Behaviour) (p q : Progresses) → ((i : ℕ) → T (has_row i B) → p i ≡ q i) → rest p B ≡ rest q B
  rest-same (nil r) p q h = refl
  rest-same (one_way r o x) p q h = rw (h r (eqb_refl r))
  rest-same (request_response r o x c d) p q h =
      rw (h r (in-own r r (has_row r d) (eqb_refl r)), rest-same d p q (λ i t. h i (in-only i r d t)))
  rest-same (notification r o e) p q h = rw (h r (eqb_refl r))
  rest-same (solicit_response r o e x) p q h = rw (h r (eqb_refl r))
  rest-same (if_then_else r e a b) p q h =
      rw (h r (in-own r r _ (eqb_refl r)), rest-same a p q (λ i t. h i (in-first i r a b t)), rest-same b p q (λ i t. h i (in-second i r a b t)))
  rest-same (while_do r e b) p q h = rw (h r (in-own r r (has_row r b) (eqb_refl r)), rest-same b p q (λ i t. h i (in-only i r b t)))
  rest-same (sequence r a b) p q h =
      rw (rest-same a p q (λ i t. h i (in-first i r a b t)), rest-same b p q (λ i t. h i (in-second i r a b t)))
  rest-same (parallel r a b) p q h =
      rw (rest-same a p q (λ i t. h i (in-first i r a b t)), rest-same b p q (λ i t. h i (in-second i r a b t)))
  rest-same (assign r x e) p q h = rw (h r (eqb_refl r))
  rest-same (choice r m) p q h =
      ap (λ (s : Progress). unless_taken s (choice r m) (λ j. branch_rest p j m)) (h r (in-own r r (has_row_in r m) (eqb_refl r)))
      ∙ taken-same (q r) (choice r m) (choice r m) (λ j. branch_rest p j m) (λ j. branch_rest q j m) refl
      (λ j. branch-rest-same m j p q (λ i t. h i (in-branches i r m t)))
  rest-same (waiting r o x) p q h = refl
  rest-same (answering r o c d) p q h = refl

  branch-rest-same : (m : Branches) (k : ℕ) (p q : Progresses) → ((i : ℕ) → T (has_row_in i m) → p i ≡ q i) → branch_rest p k m ≡ branch_rest q k m
  branch-rest-same (last_branch r a b) k p q h =
      rw (rest-same a p q (λ i t. h i (in-first i r a b t)), rest-same b p q (λ i t. h i (in-second i r a b t)))
  branch-rest-same (branch r a b m) zero p q h =
      rw (rest-same a p q (λ i t. h i (in-input i r a b m t)), rest-same b p q (λ i t. h i (in_then i r a b m t)))
  branch-rest-same (branch r a b m) (suc k) p q h = branch-rest-same m k p q (λ i t. h i (in-others i r a b m t))

pub done-same : (B : Behaviour) (p q : Progresses) → ((i : ℕ) → T (has_row i B) → p i ≡ q i) → T (is_done p B) → T (is_done q B)
done-same B p q h t = subst T (done-rest B p ∙ (ap finished (rest-same B p q h) ∙ sym (done-rest B q))) t

pub done-finished : (B : Behaviour) (p : Progresses) → T (is_done p B) → T (finished (rest p B))
done-finished B p t = subst T (done-rest B p) t

-- Nothing begun: the rest is the behaviour itself.
pub rest-fresh : (B : Behaviour) (p : Progresses) → Fresh p B → rest p B ≡ B
unfolding rest has_row
rest-fresh (nil r) p h = refl
rest-fresh (one_way r o x) p h = rw (h r (eqb_refl r))
rest-fresh (request_response r o x c d) p h = rw (h r (in-own r r (has_row r d) (eqb_refl r)))
rest-fresh (notification r o e) p h = rw (h r (eqb_refl r))
rest-fresh (solicit_response r o e x) p h = rw (h r (eqb_refl r))
rest-fresh (if_then_else r e a b) p h = rw (h r (in-own r r _ (eqb_refl r)))
rest-fresh (while_do r e b) p h = rw (h r (in-own r r (has_row r b) (eqb_refl r)))
rest-fresh (sequence r a b) p h =
    rw (rest-fresh a p (λ i t. h i (in-first i r a b t)), rest-fresh b p (λ i t. h i (in-second i r a b t)))
rest-fresh (parallel r a b) p h =
    rw (rest-fresh a p (λ i t. h i (in-first i r a b t)), rest-fresh b p (λ i t. h i (in-second i r a b t)))
rest-fresh (assign r x e) p h = rw (h r (eqb_refl r))
rest-fresh (choice r m) p h = ap (λ (z : Progress). unless_taken z (choice r m) (λ j. branch_rest p j m)) (h r (in-own r r (has_row_in r m) (eqb_refl r)))
rest-fresh (waiting r o x) p h = refl
rest-fresh (answering r o c d) p h = refl

-- A change at a reached part ---------------------------------------------------------------------------------------------------------

pub reaches-rows : {p : Progresses} {X B : Behaviour} → Reaches p X B → (i : ℕ) → T (has_row i X) → T (has_row i B)
unfolding has_row
reaches-rows at_self i t = t
reaches-rows (at_first {r} {a} {b} h) i t = in-first i r a b (reaches-rows h i t)
reaches-rows (at_second {r} {a} {b} d h) i t = in-second i r a b (reaches-rows h i t)
reaches-rows (at_left {r} {a} {b} h) i t = in-first i r a b (reaches-rows h i t)
reaches-rows (at_right {r} {a} {b} h) i t = in-second i r a b (reaches-rows h i t)
reaches-rows (at_then {r} {a} {b} e h) i t = in-first i r a b (reaches-rows h i t)
reaches-rows (at_else {r} {a} {b} k e h) i t = in-second i r a b (reaches-rows h i t)
reaches-rows (at_loop {r} {b} k e h) i t = in-only i r b (reaches-rows h i t)
reaches-rows (at_served {r} {d} to e h) i t = in-only i r d (reaches-rows h i t)
reaches-rows (at_branch {r} {m} k e h) i t = in-branches i r m (branch-rows m k i (reaches-rows h i t))

cast : {L L2 R R2 S S2 : Behaviour} → R ≡ S → R2 ≡ S2 → Active L L2 R R2 → Active L L2 S S2
cast {L} {L2} {R} {R2} {S} {S2} p q h = subst (λ (z : Behaviour). Active L L2 S z) q (subst (λ (z : Behaviour). Active L L2 z R2) p h)

-- What the rest of an if, while, request-response and choice is, once begun.
pub rest_then : (p : Progresses) (r : ℕ) (e : Expression) (a b : Behaviour) → p r ≡ taken zero → rest p (if_then_else r e a b) ≡ rest p a
unfolding rest
rest_then p r e a b g = taken-at (p r) zero g (if_then_else r e a b) (λ j. then_or_else j (rest p a) (rest p b))

pub rest-else : (p : Progresses) (r : ℕ) (e : Expression) (a b : Behaviour) (k : ℕ) → p r ≡ taken (suc k) → rest p (if_then_else r e a b) ≡ rest p b
unfolding rest
rest-else p r e a b k g = taken-at (p r) (suc k) g (if_then_else r e a b) (λ j. then_or_else j (rest p a) (rest p b))

pub rest-loop : (p : Progresses) (r : ℕ) (e : Expression) (b : Behaviour) (k : ℕ) → p r ≡ taken k
    → rest p (while_do r e b) ≡ sequence r (rest p b) (while_do r e b)
unfolding rest
rest-loop p r e b k g =
    ap (λ (s : Progress). unless_done s (unless_taken s (while_do r e b) (λ j. sequence r (rest p b) (while_do r e b))) (nil r)) g

pub rest-served : (p : Progresses) (r : ℕ) (o : Operation) (x c : Path) (d : Behaviour) (to : Destination) → p r ≡ received to
    → rest p (request_response r o x c d) ≡ answering r o c (rest p d)
unfolding rest
rest-served p r o x c d to g =
    ap (λ (s : Progress). unless_done s (unless_received s (request_response r o x c d) (answering r o c (rest p d))) (nil r)) g

pub rest-branch : (p : Progresses) (r : ℕ) (m : Branches) (k : ℕ) → p r ≡ taken k → rest p (choice r m) ≡ rest p (branch_at k m)
unfolding rest
rest-branch p r m k g = taken-at (p r) k g (choice r m) (λ j. branch_rest p j m) ∙ branch-rest m k p

-- q differs from p only in rows of X.
abbrev pub Off : Progresses → Progresses → Behaviour → Type 0
Off p q X = (i : ℕ) → (T (has_row i X) → ⊥) → p i ≡ q i

pub row-active : (p q : Progresses) (X B : Behaviour) → Reaches p X B → EachRowOnce B → Off p q X
    → Active (rest p X) (rest q X) (rest p B) (rest q B)
unfolding rest EachRowOnce
row-active p q X B at_self s f = itself
row-active p q X B (at_first {r} {a} {b} h) s f =
    let e = rest-same b p q (λ i t. f i (λ u. s.2 i (reaches-rows h i u) t)) in
    cast refl (ap (sequence r (rest q a)) e) (in_first (row-active p q X a h s.3 f))
row-active p q X B (at_second {r} {a} {b} d h) s f =
    let e = rest-same a p q (λ i t. f i (λ u. s.2 i t (reaches-rows h i u))) in
    cast refl (ap (λ (z : Behaviour). sequence r z (rest q b)) e) (in_second (done-finished a p d) (row-active p q X b h s.4 f))
row-active p q X B (at_left {r} {a} {b} h) s f =
    let e = rest-same b p q (λ i t. f i (λ u. s.2 i (reaches-rows h i u) t)) in
    cast refl (ap (parallel r (rest q a)) e) (on_left (row-active p q X a h s.3 f))
row-active p q X B (at_right {r} {a} {b} h) s f =
    let e = rest-same a p q (λ i t. f i (λ u. s.2 i t (reaches-rows h i u))) in
    cast refl (ap (λ (z : Behaviour). parallel r z (rest q b)) e) (on_right (row-active p q X b h s.4 f))
row-active p q X B (at_then {r} {e} {a} {b} g h) s f =
    let g2 : q r ≡ taken zero = sym (f r (λ u. s.0 (reaches-rows h r u))) ∙ g in
    cast (sym (rest_then p r e a b g)) (sym (rest_then q r e a b g2)) (row-active p q X a h s.3 f)
row-active p q X B (at_else {r} {e} {a} {b} k g h) s f =
    let g2 : q r ≡ taken (suc k) = sym (f r (λ u. s.1 (reaches-rows h r u))) ∙ g in
    cast (sym (rest-else p r e a b k g)) (sym (rest-else q r e a b k g2)) (row-active p q X b h s.4 f)
row-active p q X B (at_loop {r} {e} {b} k g h) s f =
    let g2 : q r ≡ taken k = sym (f r (λ u. s.0 (reaches-rows h r u))) ∙ g in
    cast (sym (rest-loop p r e b k g)) (sym (rest-loop q r e b k g2)) (in_first (row-active p q X b h s.1 f))
row-active p q X B (at_served {r} {o} {x} {c} {d} to g h) s f =
    let g2 : q r ≡ received to = sym (f r (λ u. s.0 (reaches-rows h r u))) ∙ g in
    cast (sym (rest-served p r o x c d to g)) (sym (rest-served q r o x c d to g2)) (in_body (row-active p q X d h s.1 f))
row-active p q X B (at_branch {r} {m} k g h) s f =
    let g2 : q r ≡ taken k = sym (f r (λ u. s.0 (branch-rows m k r (reaches-rows h r u)))) ∙ g in
    cast (sym (rest-branch p r m k g)) (sym (rest-branch q r m k g2)) (row-active p q X (branch_at k m) h (branch-once m k s.1) f)
