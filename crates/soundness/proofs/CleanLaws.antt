-- Parts that are not taken stay unbegun while a reached part moves; each row stays of its kind.
use Rattle.std.specs.Prelude.{◌≡◌, Bool, ◌&&◌, ◌||◌, eqb}
use Rattle.std.proofs.Common.{sym, ap, subst, ◌∙◌, arith, eqb→eq}
use Prim.Native.Nat.{ℕ, zero, suc}
use Rattle.std.proofs.Math.Dec.{T, eqb_refl}
use Rattle.basics.specs.TestLaws.{and_i, and_l, and_r, or_case}
use Rattle.network_syntax.specs.Syntax.{Network, Behaviour, nil, one_way, request_response, notification, solicit_response, if_then_else, while_do, sequence}
use Rattle.network_syntax.specs.Syntax.{parallel, assign, choice, waiting, answering, Branches, last_branch, branch}
use Rattle.network_syntax.specs.Rows.{has_row, has_row_in}
use Rattle.network.specs.Shapes.{Outside, EachRowOnce, EachBranchRowOnce}
use Rattle.state.specs.Session.{Progress, Progresses, Destination, undone, received, taken}
use Rattle.state.specs.Shape.{is_undone, undone_or_done, undone_done_or_waits, undone_done_or_received, undone_or_taken, undone_done_or_body, branches, suits, suits_branches}
use Rattle.soundness.specs.Parts.{branch_at, Fresh, FreshBranches, not_taken, Clean, CleanBranches}
use Rattle.soundness.specs.Parts.{Reaches, at_self, at_first, at_second, at_left, at_right, at_then, at_else}
use Rattle.soundness.specs.Parts.{at_loop, at_served, at_branch}
use Rattle.soundness.proofs.RowLaws.{in-own, in-first, in-second, in-only, in-branches, in-input}
use Rattle.soundness.proofs.RowLaws.{in_then, in-others, branch-rows, branch-once, branch-clean}
use Rattle.soundness.proofs.RowLaws.{reaches-rows, Off}

mutual
  unfolding Clean has_row

  pub clean-same : (B : Behaviour) (p q : Progresses) → ((i : ℕ) → T (has_row i B) → p i ≡ q i) → Clean p B → Clean q B
  clean-same (nil r) p q h c = tt
  clean-same (one_way r o x) p q h c = tt
  clean-same (request_response r o x y d) p q h c = (
    (λ e i t. sym (h i (in-only i r d t)) ∙ c.0 (h r (in-own r r (has_row r d) (eqb_refl r)) ∙ e) i t),
    clean-same d p q (λ i t. h i (in-only i r d t)) c.1,
  )
  clean-same (notification r o e) p q h c = tt
  clean-same (solicit_response r o e x) p q h c = tt
  clean-same (if_then_else r g a b) p q h c =
      let hr = h r (in-own r r (has_row r a || has_row r b) (eqb_refl r)) in (
        (λ e i t. sym (h i (in-first i r a b t)) ∙ c.0 (hr ∙ e) i t),
        (λ e i t. sym (h i (in-second i r a b t)) ∙ c.1 (hr ∙ e) i t),
        clean-same a p q (λ i t. h i (in-first i r a b t)) c.2,
        clean-same b p q (λ i t. h i (in-second i r a b t)) c.3,
      )
  clean-same (while_do r e b) p q h c = clean-same b p q (λ i t. h i (in-only i r b t)) c
  clean-same (sequence r a b) p q h c = (clean-same a p q (λ i t. h i (in-first i r a b t)) c.0, clean-same b p q (λ i t. h i (in-second i r a b t)) c.1)
  clean-same (parallel r a b) p q h c = (clean-same a p q (λ i t. h i (in-first i r a b t)) c.0, clean-same b p q (λ i t. h i (in-second i r a b t)) c.1)
  clean-same (assign r x e) p q h c = tt
  clean-same (choice r m) p q h c = (
    (λ e i t. sym (h i (in-branches i r m t))
        ∙ c.0 (subst (λ (s : Progress). T (not_taken s)) (sym (h r (in-own r r (has_row_in r m) (eqb_refl r)))) e) i t),
    clean-same-branches m p q (λ i t. h i (in-branches i r m t)) c.1,
  )
  clean-same (waiting r o x) p q h c = tt
  clean-same (answering r o y d) p q h c = tt

  clean-same-branches : (m : Branches) (p q : Progresses) → ((i : ℕ) → T (has_row_in i m) → p i ≡ q i) → CleanBranches p m → CleanBranches q m
  clean-same-branches (last_branch r a b) p q h c = (
    clean-same a p q (λ i t. h i (in-first i r a b t)) c.0,
    clean-same b p q (λ i t. h i (in-second i r a b t)) c.1,
  )
  clean-same-branches (branch r a b m) p q h c = (
    clean-same a p q (λ i t. h i (in-input i r a b m t)) c.0,
    clean-same b p q (λ i t. h i (in_then i r a b m t)) c.1,
    clean-same-branches m p q (λ i t. h i (in-others i r a b m t)) c.2,
  )

mutual
  unfolding Clean has_row

  pub clean-fresh : (B : Behaviour) (p : Progresses) → Fresh p B → Clean p B
  clean-fresh (nil r) p h = tt
  clean-fresh (one_way r o x) p h = tt
  clean-fresh (request_response r o x y d) p h = ((λ e i t. h i (in-only i r d t)), clean-fresh d p (λ i t. h i (in-only i r d t)))
  clean-fresh (notification r o e) p h = tt
  clean-fresh (solicit_response r o e x) p h = tt
  clean-fresh (if_then_else r g a b) p h = (
    (λ e i t. h i (in-first i r a b t)),
    (λ e i t. h i (in-second i r a b t)),
    clean-fresh a p (λ i t. h i (in-first i r a b t)),
    clean-fresh b p (λ i t. h i (in-second i r a b t)),
  )
  clean-fresh (while_do r e b) p h = clean-fresh b p (λ i t. h i (in-only i r b t))
  clean-fresh (sequence r a b) p h = (clean-fresh a p (λ i t. h i (in-first i r a b t)), clean-fresh b p (λ i t. h i (in-second i r a b t)))
  clean-fresh (parallel r a b) p h = (clean-fresh a p (λ i t. h i (in-first i r a b t)), clean-fresh b p (λ i t. h i (in-second i r a b t)))
  clean-fresh (assign r x e) p h = tt
  clean-fresh (choice r m) p h = ((λ e i t. h i (in-branches i r m t)), clean-fresh-branches m p (λ i t. h i (in-branches i r m t)))
  clean-fresh (waiting r o x) p h = tt
  clean-fresh (answering r o y d) p h = tt

  pub clean-fresh-branches : (m : Branches) (p : Progresses) → FreshBranches p m → CleanBranches p m
  clean-fresh-branches (last_branch r a b) p h = (clean-fresh a p (λ i t. h i (in-first i r a b t)), clean-fresh b p (λ i t. h i (in-second i r a b t)))
  clean-fresh-branches (branch r a b m) p h = (
    clean-fresh a p (λ i t. h i (in-input i r a b m t)),
    clean-fresh b p (λ i t. h i (in_then i r a b m t)),
    clean-fresh-branches m p (λ i t. h i (in-others i r a b m t)),
  )

pub clean_at : {p : Progresses} {X B : Behaviour} → Reaches p X B → Clean p B → Clean p X
unfolding Clean
clean_at at_self c = c
clean_at (at_first h) c = clean_at h c.0
clean_at (at_second d h) c = clean_at h c.1
clean_at (at_left h) c = clean_at h c.0
clean_at (at_right h) c = clean_at h c.1
clean_at (at_then e h) c = clean_at h c.2
clean_at (at_else k e h) c = clean_at h c.3
clean_at (at_loop k e h) c = clean_at h c
clean_at (at_served to e h) c = clean_at h c.1
clean_at {p} (at_branch {r} {m} k e h) c = clean_at h (branch-clean m k p c.1)

pub once-at : {p : Progresses} {X B : Behaviour} → Reaches p X B → EachRowOnce B → EachRowOnce X
unfolding EachRowOnce
once-at at_self s = s
once-at (at_first h) s = once-at h s.3
once-at (at_second d h) s = once-at h s.4
once-at (at_left h) s = once-at h s.3
once-at (at_right h) s = once-at h s.4
once-at (at_then e h) s = once-at h s.3
once-at (at_else k e h) s = once-at h s.4
once-at (at_loop k e h) s = once-at h s.1
once-at (at_served to e h) s = once-at h s.1
once-at (at_branch {r} {m} k e h) s = once-at h (branch-once m k s.1)

pub undone-taken : (s : Progress) {k : ℕ} {X : Type 0} → s ≡ taken k → s ≡ undone → X
undone-taken s e f = absurd (let z : ◌≡◌ {A = ℕ} 0 1 = cc in omega arith)

pub undone-untaken : (s : Progress) → s ≡ undone → T (not_taken s)
undone-untaken s e = subst (λ (z : Progress). T (not_taken z)) (sym e) tt

pub untaken-taken : (s : Progress) {k : ℕ} {X : Type 0} → s ≡ taken k → T (not_taken s) → X
untaken-taken s e t = absurd (subst (λ (z : Progress). T (not_taken z)) e t)

pub undone-received : (s : Progress) {to : Destination} {X : Type 0} → s ≡ received to → s ≡ undone → X
undone-received s e f = absurd (let z : ◌≡◌ {A = ℕ} 0 1 = cc in omega arith)

-- The other branches of a choice do not change with the taken one.
eqb-row : (i r : ℕ) (m : Branches) → T (eqb i r) → T (has_row_in i m) → T (has_row_in r m)
eqb-row i r m t u = subst (λ (z : ℕ). T (has_row_in z m)) (eqb→eq i r t) u

pub branch-clean-back : (m : Branches) (k : ℕ) (p q : Progresses) → EachBranchRowOnce m → Off p q (branch_at k m) → CleanBranches p m
    → Clean q (branch_at k m) → CleanBranches q m
unfolding Clean EachRowOnce branch_at has_row
branch-clean-back (last_branch r a b) k p q o f c d = d
branch-clean-back (branch r a b m) zero p q o f c d = (
  d.0,
  d.1,
  clean-same-branches m p q (λ i t. f i (or_case (eqb i r) (has_row i a || has_row i b) (λ u. o.5 (eqb-row i r m u t))
      (or_case (has_row i a) (has_row i b) (λ u. o.6 i u t) (λ u. o.7 i u t)))) c.2,
)
branch-clean-back (branch r a b m) (suc k) p q o f c d = (
  clean-same a p q (λ i t. f i (λ u. o.6 i t (branch-rows m k i u))) c.0,
  clean-same b p q (λ i t. f i (λ u. o.7 i t (branch-rows m k i u))) c.1,
  branch-clean-back m k p q o.8 f c.2 d,
)

pub clean-move : (p q : Progresses) (X B : Behaviour) → Reaches p X B → EachRowOnce B → Clean p B → Off p q X → Clean q X → Clean q B
unfolding Clean EachRowOnce
clean-move p q X B at_self s c f x = x
clean-move p q X B (at_first {a} {b} h) s c f x =
    (clean-move p q X a h s.3 c.0 f x, clean-same b p q (λ i t. f i (λ u. s.2 i (reaches-rows h i u) t)) c.1)
clean-move p q X B (at_second {a} {b} d h) s c f x =
    (clean-same a p q (λ i t. f i (λ u. s.2 i t (reaches-rows h i u))) c.0, clean-move p q X b h s.4 c.1 f x)
clean-move p q X B (at_left {a} {b} h) s c f x =
    (clean-move p q X a h s.3 c.0 f x, clean-same b p q (λ i t. f i (λ u. s.2 i (reaches-rows h i u) t)) c.1)
clean-move p q X B (at_right {a} {b} h) s c f x =
    (clean-same a p q (λ i t. f i (λ u. s.2 i t (reaches-rows h i u))) c.0, clean-move p q X b h s.4 c.1 f x)
clean-move p q X B (at_then {r} {a} {b} e h) s c f x =
    let g : q r ≡ taken zero = sym (f r (λ u. s.0 (reaches-rows h r u))) ∙ e in (
      (λ z. undone-taken (q r) g z),
      (λ z. undone-taken (q r) g z),
      clean-move p q X a h s.3 c.2 f x,
      clean-same b p q (λ i t. f i (λ u. s.2 i (reaches-rows h i u) t)) c.3,
    )
clean-move p q X B (at_else {r} {a} {b} k e h) s c f x =
    let g : q r ≡ taken (suc k) = sym (f r (λ u. s.1 (reaches-rows h r u))) ∙ e in (
      (λ z. undone-taken (q r) g z),
      (λ z. undone-taken (q r) g z),
      clean-same a p q (λ i t. f i (λ u. s.2 i t (reaches-rows h i u))) c.2,
      clean-move p q X b h s.4 c.3 f x,
    )
clean-move p q X B (at_loop {b} k e h) s c f x = clean-move p q X b h s.1 c f x
clean-move p q X B (at_served {r} {d} to e h) s c f x =
    let g : q r ≡ received to = sym (f r (λ u. s.0 (reaches-rows h r u))) ∙ e in
    ((λ z. undone-received (q r) g z), clean-move p q X d h s.1 c.1 f x)
clean-move p q X B (at_branch {r} {m} k e h) s c f x =
    let g : q r ≡ taken k = sym (f r (λ u. s.0 (branch-rows m k r (reaches-rows h r u)))) ∙ e in (
      (λ z. untaken-taken (q r) g z),
      branch-clean-back m k p q s.1 (λ i t. f i (λ u. t (reaches-rows h i u))) c.1
          (clean-move p q X (branch_at k m) h (branch-once m k s.1) (branch-clean m k p c.1) f x),
    )

-- Each row of its kind ---------------------------------------------------------------------------------------------------------------

module _ (N : Network) (rows : ℕ) where
  mutual
    unfolding suits has_row

    pub suits-same : (B : Behaviour) (p q : Progresses) → ((i : ℕ) → T (has_row i B) → p i ≡ q i) → suits N rows p B ≡ suits N rows q B
    suits-same (nil r) p q h = ap is_undone (h r (eqb_refl r))
    suits-same (one_way r o x) p q h = ap undone_or_done (h r (eqb_refl r))
    suits-same (request_response r o x y d) p q h = rw (h r (in-own r r (has_row r d) (eqb_refl r)), suits-same d p q (λ i t. h i (in-only i r d t)))
    suits-same (notification r o e) p q h = ap undone_or_done (h r (eqb_refl r))
    suits-same (solicit_response r o e x) p q h = ap undone_done_or_waits (h r (eqb_refl r))
    suits-same (if_then_else r e a b) p q h =
        rw (
          h r (in-own r r (has_row r a || has_row r b) (eqb_refl r)),
          suits-same a p q (λ i t. h i (in-first i r a b t)),
          suits-same b p q (λ i t. h i (in-second i r a b t)),
        )
    suits-same (while_do r e b) p q h = rw (h r (in-own r r (has_row r b) (eqb_refl r)), suits-same b p q (λ i t. h i (in-only i r b t)))
    suits-same (sequence r a b) p q h =
        rw (
          h r (in-own r r (has_row r a || has_row r b) (eqb_refl r)),
          suits-same a p q (λ i t. h i (in-first i r a b t)),
          suits-same b p q (λ i t. h i (in-second i r a b t)),
        )
    suits-same (parallel r a b) p q h =
        rw (
          h r (in-own r r (has_row r a || has_row r b) (eqb_refl r)),
          suits-same a p q (λ i t. h i (in-first i r a b t)),
          suits-same b p q (λ i t. h i (in-second i r a b t)),
        )
    suits-same (assign r x e) p q h = ap undone_or_done (h r (eqb_refl r))
    suits-same (choice r m) p q h = rw (h r (in-own r r (has_row_in r m) (eqb_refl r)), suits-same-branches m p q (λ i t. h i (in-branches i r m t)))
    suits-same (waiting r o x) p q h = ap is_undone (h r (eqb_refl r))
    suits-same (answering r o y d) p q h = rw (h r (in-own r r (has_row r d) (eqb_refl r)), suits-same d p q (λ i t. h i (in-only i r d t)))

    suits-same-branches : (m : Branches) (p q : Progresses) → ((i : ℕ) → T (has_row_in i m) → p i ≡ q i) → suits_branches N rows p m ≡ suits_branches N rows q m
    suits-same-branches (last_branch r a b) p q h =
        rw (
          h r (in-own r r (has_row r a || has_row r b) (eqb_refl r)),
          suits-same a p q (λ i t. h i (in-first i r a b t)),
          suits-same b p q (λ i t. h i (in-second i r a b t)),
        )
    suits-same-branches (branch r a b m) p q h =
        rw (
          h r (in-own r r ((has_row r a || has_row r b) || has_row_in r m) (eqb_refl r)),
          suits-same a p q (λ i t. h i (in-input i r a b m t)),
          suits-same b p q (λ i t. h i (in_then i r a b m t)),
          suits-same-branches m p q (λ i t. h i (in-others i r a b m t)),
        )

  suits-keep : (B : Behaviour) (p q : Progresses) → ((i : ℕ) → T (has_row i B) → p i ≡ q i) → T (suits N rows p B) → T (suits N rows q B)
  suits-keep B p q h t = subst T (suits-same B p q h) t

  suits-keep-branches : (m : Branches) (p q : Progresses) → ((i : ℕ) → T (has_row_in i m) → p i ≡ q i) → T (suits_branches N rows p m)
      → T (suits_branches N rows q m)
  suits-keep-branches m p q h t = subst T (suits-same-branches m p q h) t

  -- One of two or three tests, and all of them.
  pub of_two : (a b : Bool) → T (a && b) → T a × T b
  of_two a b t = (and_l a b t, and_r a b t)

  pub of_three : (a b c : Bool) → T (a && (b && c)) → T a × T b × T c
  of_three a b c t = let u = and_r a (b && c) t in (and_l a (b && c) t, and_l b c u, and_r b c u)

  pub two : (a b : Bool) → T a → T b → T (a && b)
  two a b x y = and_i a b x y

  pub three : (a b c : Bool) → T a → T b → T c → T (a && (b && c))
  three a b c x y z = and_i a (b && c) x (and_i b c y z)

  of_four : (a b c d : Bool) → T (a && ((b && c) && d)) → T a × T b × T c × T d
  of_four a b c d t =
      let u = and_r a ((b && c) && d) t in let v = and_l (b && c) d u in (and_l a ((b && c) && d) t, and_l b c v, and_r b c v, and_r (b && c) d u)

  four : (a b c d : Bool) → T a → T b → T c → T d → T (a && ((b && c) && d))
  four a b c d x y z w = and_i a ((b && c) && d) x (and_i (b && c) d (and_i b c y z) w)

  -- Nothing begun suits every kind.
  mutual
    unfolding suits has_row

    pub suits-fresh : (B : Behaviour) (p : Progresses) → Fresh p B → T (suits N rows p B)
    suits-fresh (nil r) p h = rw (h r (eqb_refl r)) tt
    suits-fresh (one_way r w x) p h = rw (h r (eqb_refl r)) tt
    suits-fresh (request_response r w x y d) p h =
        two (undone_done_or_received N rows (p r)) (suits N rows p d) (rw (h r (in-own r r (has_row r d) (eqb_refl r))) tt)
        (suits-fresh d p (λ i t. h i (in-only i r d t)))
    suits-fresh (notification r w e) p h = rw (h r (eqb_refl r)) tt
    suits-fresh (solicit_response r w e x) p h = rw (h r (eqb_refl r)) tt
    suits-fresh (if_then_else r e a b) p h =
        three (undone_or_taken 2 (p r)) (suits N rows p a) (suits N rows p b) (rw (h r (in-own r r (has_row r a || has_row r b) (eqb_refl r))) tt)
        (suits-fresh a p (λ i t. h i (in-first i r a b t))) (suits-fresh b p (λ i t. h i (in-second i r a b t)))
    suits-fresh (while_do r e b) p h =
        two (undone_done_or_body (p r)) (suits N rows p b) (rw (h r (in-own r r (has_row r b) (eqb_refl r))) tt)
        (suits-fresh b p (λ i t. h i (in-only i r b t)))
    suits-fresh (sequence r a b) p h =
        three (is_undone (p r)) (suits N rows p a) (suits N rows p b) (rw (h r (in-own r r (has_row r a || has_row r b) (eqb_refl r))) tt)
        (suits-fresh a p (λ i t. h i (in-first i r a b t))) (suits-fresh b p (λ i t. h i (in-second i r a b t)))
    suits-fresh (parallel r a b) p h =
        three (is_undone (p r)) (suits N rows p a) (suits N rows p b) (rw (h r (in-own r r (has_row r a || has_row r b) (eqb_refl r))) tt)
        (suits-fresh a p (λ i t. h i (in-first i r a b t))) (suits-fresh b p (λ i t. h i (in-second i r a b t)))
    suits-fresh (assign r x e) p h = rw (h r (eqb_refl r)) tt
    suits-fresh (choice r m) p h =
        two (undone_or_taken (branches m) (p r)) (suits_branches N rows p m) (rw (h r (in-own r r (has_row_in r m) (eqb_refl r))) tt)
        (suits-fresh-branches m p (λ i t. h i (in-branches i r m t)))
    suits-fresh (waiting r w x) p h = rw (h r (eqb_refl r)) tt
    suits-fresh (answering r w y d) p h =
        two (is_undone (p r)) (suits N rows p d) (rw (h r (in-own r r (has_row r d) (eqb_refl r))) tt) (suits-fresh d p (λ i t. h i (in-only i r d t)))

    pub suits-fresh-branches : (m : Branches) (p : Progresses) → FreshBranches p m → T (suits_branches N rows p m)
    suits-fresh-branches (last_branch r a b) p h =
        three (is_undone (p r)) (suits N rows p a) (suits N rows p b) (rw (h r (in-own r r (has_row r a || has_row r b) (eqb_refl r))) tt)
        (suits-fresh a p (λ i t. h i (in-first i r a b t))) (suits-fresh b p (λ i t. h i (in-second i r a b t)))
    suits-fresh-branches (branch r a b m) p h =
        four (is_undone (p r)) (suits N rows p a) (suits N rows p b) (suits_branches N rows p m)
        (rw (h r (in-own r r ((has_row r a || has_row r b) || has_row_in r m) (eqb_refl r))) tt)
        (suits-fresh a p (λ i t. h i (in-input i r a b m t))) (suits-fresh b p (λ i t. h i (in_then i r a b m t)))
        (suits-fresh-branches m p (λ i t. h i (in-others i r a b m t)))

  pub branch-suits : (m : Branches) (k : ℕ) (p : Progresses) → T (suits_branches N rows p m) → T (suits N rows p (branch_at k m))
  unfolding suits branch_at
  branch-suits (last_branch r a b) k p t = t
  branch-suits (branch r a b m) zero p t =
      let u = of_four (is_undone (p r)) (suits N rows p a) (suits N rows p b) (suits_branches N rows p m) t in
      three (is_undone (p r)) (suits N rows p a) (suits N rows p b) u.0 u.1 u.2
  branch-suits (branch r a b m) (suc k) p t =
      branch-suits m k p (of_four (is_undone (p r)) (suits N rows p a) (suits N rows p b) (suits_branches N rows p m) t).3

  pub branch-suits-back : (m : Branches) (k : ℕ) (p q : Progresses) → EachBranchRowOnce m → Off p q (branch_at k m) → T (suits_branches N rows p m)
      → T (suits N rows q (branch_at k m)) → T (suits_branches N rows q m)
  unfolding suits EachRowOnce branch_at has_row
  branch-suits-back (last_branch r a b) k p q o f c d = d
  branch-suits-back (branch r a b m) zero p q o f c d =
      let u = of_three (is_undone (q r)) (suits N rows q a) (suits N rows q b) d in
      let v = of_four (is_undone (p r)) (suits N rows p a) (suits N rows p b) (suits_branches N rows p m) c in
      four (is_undone (q r)) (suits N rows q a) (suits N rows q b) (suits_branches N rows q m) u.0 u.1 u.2
      (suits-keep-branches m p q (λ i t. f i (or_case (eqb i r) (has_row i a || has_row i b) (λ w. o.5 (eqb-row i r m w t))
      (or_case (has_row i a) (has_row i b) (λ w. o.6 i w t) (λ w. o.7 i w t)))) v.3)
  branch-suits-back (branch r a b m) (suc k) p q o f c d =
      let v = of_four (is_undone (p r)) (suits N rows p a) (suits N rows p b) (suits_branches N rows p m) c in
      four (is_undone (q r)) (suits N rows q a) (suits N rows q b) (suits_branches N rows q m)
      (subst (λ (s : Progress). T (is_undone s)) (f r (λ u. o.5 (branch-rows m k r u))) v.0)
      (suits-keep a p q (λ i t. f i (λ u. o.6 i t (branch-rows m k i u))) v.1)
      (suits-keep b p q (λ i t. f i (λ u. o.7 i t (branch-rows m k i u))) v.2)
      (branch-suits-back m k p q o.8 f v.3 d)

  pub suits-at : {p : Progresses} {X B : Behaviour} → Reaches p X B → EachRowOnce B → T (suits N rows p B) → T (suits N rows p X)
  unfolding suits EachRowOnce
  suits-at at_self s t = t
  suits-at {p} (at_first {r} {a} {b} h) s t = suits-at h s.3 (of_three (is_undone (p r)) (suits N rows p a) (suits N rows p b) t).1
  suits-at {p} (at_second {r} {a} {b} d h) s t = suits-at h s.4 (of_three (is_undone (p r)) (suits N rows p a) (suits N rows p b) t).2
  suits-at {p} (at_left {r} {a} {b} h) s t = suits-at h s.3 (of_three (is_undone (p r)) (suits N rows p a) (suits N rows p b) t).1
  suits-at {p} (at_right {r} {a} {b} h) s t = suits-at h s.4 (of_three (is_undone (p r)) (suits N rows p a) (suits N rows p b) t).2
  suits-at {p} (at_then {r} {a} {b} e h) s t = suits-at h s.3 (of_three (undone_or_taken 2 (p r)) (suits N rows p a) (suits N rows p b) t).1
  suits-at {p} (at_else {r} {a} {b} k e h) s t = suits-at h s.4 (of_three (undone_or_taken 2 (p r)) (suits N rows p a) (suits N rows p b) t).2
  suits-at {p} (at_loop {r} {b} k e h) s t = suits-at h s.1 (of_two (undone_done_or_body (p r)) (suits N rows p b) t).1
  suits-at {p} (at_served {r} {d} to e h) s t = suits-at h s.1 (of_two (undone_done_or_received N rows (p r)) (suits N rows p d) t).1
  suits-at {p} (at_branch {r} {m} k e h) s t =
      suits-at h (branch-once m k s.1) (branch-suits m k p (of_two (undone_or_taken (branches m) (p r)) (suits_branches N rows p m) t).1)

  head-keep : (P : Progress → Bool) (p q : Progresses) (r : ℕ) (X : Behaviour) → Off p q X → Outside r X → T (P (p r)) → T (P (q r))
  head-keep P p q r X f n t = subst (λ (s : Progress). T (P s)) (f r n) t

  pub suits-move : (p q : Progresses) (X B : Behaviour) → Reaches p X B → EachRowOnce B → T (suits N rows p B) → Off p q X → T (suits N rows q X)
      → T (suits N rows q B)
  unfolding suits EachRowOnce
  suits-move p q X B at_self s c f x = x
  suits-move p q X B (at_first {r} {a} {b} h) s c f x =
      let u = of_three (is_undone (p r)) (suits N rows p a) (suits N rows p b) c in
      three (is_undone (q r)) (suits N rows q a) (suits N rows q b) (head-keep is_undone p q r X f (λ t. s.0 (reaches-rows h r t)) u.0)
      (suits-move p q X a h s.3 u.1 f x) (suits-keep b p q (λ i t. f i (λ w. s.2 i (reaches-rows h i w) t)) u.2)
  suits-move p q X B (at_second {r} {a} {b} d h) s c f x =
      let u = of_three (is_undone (p r)) (suits N rows p a) (suits N rows p b) c in
      three (is_undone (q r)) (suits N rows q a) (suits N rows q b) (head-keep is_undone p q r X f (λ t. s.1 (reaches-rows h r t)) u.0)
      (suits-keep a p q (λ i t. f i (λ w. s.2 i t (reaches-rows h i w))) u.1) (suits-move p q X b h s.4 u.2 f x)
  suits-move p q X B (at_left {r} {a} {b} h) s c f x =
      let u = of_three (is_undone (p r)) (suits N rows p a) (suits N rows p b) c in
      three (is_undone (q r)) (suits N rows q a) (suits N rows q b) (head-keep is_undone p q r X f (λ t. s.0 (reaches-rows h r t)) u.0)
      (suits-move p q X a h s.3 u.1 f x) (suits-keep b p q (λ i t. f i (λ w. s.2 i (reaches-rows h i w) t)) u.2)
  suits-move p q X B (at_right {r} {a} {b} h) s c f x =
      let u = of_three (is_undone (p r)) (suits N rows p a) (suits N rows p b) c in
      three (is_undone (q r)) (suits N rows q a) (suits N rows q b) (head-keep is_undone p q r X f (λ t. s.1 (reaches-rows h r t)) u.0)
      (suits-keep a p q (λ i t. f i (λ w. s.2 i t (reaches-rows h i w))) u.1) (suits-move p q X b h s.4 u.2 f x)
  suits-move p q X B (at_then {r} {a} {b} e h) s c f x =
      let u = of_three (undone_or_taken 2 (p r)) (suits N rows p a) (suits N rows p b) c in
      three (undone_or_taken 2 (q r)) (suits N rows q a) (suits N rows q b) (head-keep (undone_or_taken 2) p q r X f (λ t. s.0 (reaches-rows h r t)) u.0)
      (suits-move p q X a h s.3 u.1 f x) (suits-keep b p q (λ i t. f i (λ w. s.2 i (reaches-rows h i w) t)) u.2)
  suits-move p q X B (at_else {r} {a} {b} k e h) s c f x =
      let u = of_three (undone_or_taken 2 (p r)) (suits N rows p a) (suits N rows p b) c in
      three (undone_or_taken 2 (q r)) (suits N rows q a) (suits N rows q b) (head-keep (undone_or_taken 2) p q r X f (λ t. s.1 (reaches-rows h r t)) u.0)
      (suits-keep a p q (λ i t. f i (λ w. s.2 i t (reaches-rows h i w))) u.1) (suits-move p q X b h s.4 u.2 f x)
  suits-move p q X B (at_loop {r} {b} k e h) s c f x =
      let u = of_two (undone_done_or_body (p r)) (suits N rows p b) c in
      two (undone_done_or_body (q r)) (suits N rows q b) (head-keep undone_done_or_body p q r X f (λ t. s.0 (reaches-rows h r t)) u.0)
      (suits-move p q X b h s.1 u.1 f x)
  suits-move p q X B (at_served {r} {d} to e h) s c f x =
      let u = of_two (undone_done_or_received N rows (p r)) (suits N rows p d) c in
      two (undone_done_or_received N rows (q r)) (suits N rows q d) (head-keep (undone_done_or_received N rows) p q r X f (λ t. s.0 (reaches-rows h r t)) u.0)
      (suits-move p q X d h s.1 u.1 f x)
  suits-move p q X B (at_branch {r} {m} k e h) s c f x =
      let u = of_two (undone_or_taken (branches m) (p r)) (suits_branches N rows p m) c in
      two (undone_or_taken (branches m) (q r)) (suits_branches N rows q m)
      (head-keep (undone_or_taken (branches m)) p q r X f (λ t. s.0 (branch-rows m k r (reaches-rows h r t))) u.0)
      (branch-suits-back m k p q s.1 (λ i t. f i (λ w. t (reaches-rows h i w))) u.1
      (suits-move p q X (branch_at k m) h (branch-once m k s.1) (branch-suits m k p u.1) f x))
