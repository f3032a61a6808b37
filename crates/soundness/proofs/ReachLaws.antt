-- Reached rows: what `reach` finds is reached; a row that waits or was received stays reached while other rows move.
use Rattle.std.specs.Prelude.{◌≡◌, refl, ℕ, zero, suc, ◌+◌, Bool, true, false, ◌||◌, T, eqb, ltb}
use Rattle.std.proofs.Common.{sym, subst, ◌∙◌, arith, eqb→eq, ltb→lt, lt→ltb}
use Rattle.std.proofs.Math.Dec.{eqb_refl}
use Rattle.basics.specs.TestLaws.{and_l, and_r}
use Rattle.network_syntax.specs.Syntax.{Behaviour, nil, one_way, request_response, notification, solicit_response, if_then_else, while_do}
use Rattle.network_syntax.specs.Syntax.{sequence, parallel, assign, choice, waiting, answering, Branches, last_branch, branch}
use Rattle.network_syntax.specs.Rows.{row_of, has_row, has_row_in}
use Rattle.network_syntax.specs.ViewLaws.{own_row}
use Rattle.network.specs.Shapes.{EachRowOnce, EachBranchRowOnce}
use Rattle.check_typing.proofs.TypedLaws.{by_bool}
use Rattle.state.specs.Session.{Progress, Progresses, Destination, undone, done, waits, received, taken}
use Rattle.state.specs.Shape.{branches}
use Rattle.move_rules.specs.Readiness.{unless_done, unless_received, unless_taken, then_or_else, is_done}
use Rattle.move_rules.specs.Readiness.{branch_done, Reached, unreached, reached, offered, here, or_else, only_if}
use Rattle.move_rules.specs.Readiness.{offered_if, offer, reach, reach_branch, served}
use Rattle.soundness.specs.Parts.{branch_at, FreshBranches, not_taken, Clean, CleanBranches, Reaches, at_self}
use Rattle.soundness.specs.Parts.{at_first, at_second, at_left, at_right, at_then, at_else, at_loop, at_served}
use Rattle.soundness.specs.Parts.{at_branch, is_open, Opens, asking, serving, AllOpen}
use Rattle.soundness.proofs.RowLaws.{in-own, in-first, in-second, in-only, in-branches, in-input, in-others, taken-at, branch-done, branch-rows}
use Rattle.soundness.proofs.RowLaws.{branch-once, reaches-rows, done-same, Off}
use Rattle.soundness.proofs.CleanLaws.{once-at}

-- Done and reached -------------------------------------------------------------------------------------------------------------------

done-then : (s : Progress) (k : ℕ) → s ≡ taken k → (f : ℕ → Bool) → T (unless_taken s false f) → T (f k)
done-then s k e f t = subst T (taken-at s k e false f) t

not_done : (s : Progress) (k : ℕ) → s ≡ taken k → T (unless_done s false true) → ⊥
not_done s k e t = subst (λ (z : Progress). T (unless_done z false true)) e t

not-done-received : (s : Progress) (to : Destination) → s ≡ received to → T (unless_done s false true) → ⊥
not-done-received s to e t = subst (λ (z : Progress). T (unless_done z false true)) e t

pub reaches-done : (p : Progresses) {X B : Behaviour} → Reaches p X B → T (is_done p B) → T (is_done p X)
unfolding is_done
reaches-done p at_self t = t
reaches-done p (at_first {a} {b} h) t = reaches-done p h (and_l (is_done p a) (is_done p b) t)
reaches-done p (at_second {a} {b} d h) t = reaches-done p h (and_r (is_done p a) (is_done p b) t)
reaches-done p (at_left {a} {b} h) t = reaches-done p h (and_l (is_done p a) (is_done p b) t)
reaches-done p (at_right {a} {b} h) t = reaches-done p h (and_r (is_done p a) (is_done p b) t)
reaches-done p (at_then {r} {a} {b} g h) t = reaches-done p h (done-then (p r) zero g (λ j. then_or_else j (is_done p a) (is_done p b)) t)
reaches-done p (at_else {r} {a} {b} k g h) t = reaches-done p h (done-then (p r) (suc k) g (λ j. then_or_else j (is_done p a) (is_done p b)) t)
reaches-done p (at_loop {r} k g h) t = absurd (not_done (p r) k g t)
reaches-done p (at_served {r} to g h) t = absurd (not-done-received (p r) to g t)
reaches-done p (at_branch {r} {m} k g h) t = reaches-done p h (subst T (branch-done m k p) (done-then (p r) k g (λ j. branch_done p j m) t))

-- The way to a row depends on the behaviour's rows only.
pub reaches_same : (p q : Progresses) {X B : Behaviour} → Reaches p X B → ((i : ℕ) → T (has_row i B) → p i ≡ q i) → Reaches q X B
unfolding has_row
reaches_same p q at_self f = at_self
reaches_same p q (at_first {r} {a} {b} h) f = at_first (reaches_same p q h (λ i t. f i (in-first i r a b t)))
reaches_same p q (at_second {r} {a} {b} d h) f =
    at_second (done-same a p q (λ i t. f i (in-first i r a b t)) d) (reaches_same p q h (λ i t. f i (in-second i r a b t)))
reaches_same p q (at_left {r} {a} {b} h) f = at_left (reaches_same p q h (λ i t. f i (in-first i r a b t)))
reaches_same p q (at_right {r} {a} {b} h) f = at_right (reaches_same p q h (λ i t. f i (in-second i r a b t)))
reaches_same p q (at_then {r} {e} {a} {b} g h) f =
    at_then (sym (f r (in-own r r (has_row r a || has_row r b) (eqb_refl r))) ∙ g) (reaches_same p q h (λ i t. f i (in-first i r a b t)))
reaches_same p q (at_else {r} {e} {a} {b} k g h) f =
    at_else k (sym (f r (in-own r r (has_row r a || has_row r b) (eqb_refl r))) ∙ g) (reaches_same p q h (λ i t. f i (in-second i r a b t)))
reaches_same p q (at_loop {r} {e} {b} k g h) f = at_loop k (sym (f r (in-own r r (has_row r b) (eqb_refl r))) ∙ g)
    (reaches_same p q h (λ i t. f i (in-only i r b t)))
reaches_same p q (at_served {r} {o} {x} {c} {d} to g h) f =
    at_served to (sym (f r (in-own r r (has_row r d) (eqb_refl r))) ∙ g) (reaches_same p q h (λ i t. f i (in-only i r d t)))
reaches_same p q (at_branch {r} {m} k g h) f =
    at_branch k (sym (f r (in-own r r (has_row_in r m) (eqb_refl r))) ∙ g) (reaches_same p q h (λ i t. f i (in-branches i r m (branch-rows m k i t))))

pub reaches-trans : {p : Progresses} {X Y B : Behaviour} → Reaches p X Y → Reaches p Y B → Reaches p X B
reaches-trans h at_self = h
reaches-trans h (at_first k) = at_first (reaches-trans h k)
reaches-trans h (at_second d k) = at_second d (reaches-trans h k)
reaches-trans h (at_left k) = at_left (reaches-trans h k)
reaches-trans h (at_right k) = at_right (reaches-trans h k)
reaches-trans h (at_then g k) = at_then g (reaches-trans h k)
reaches-trans h (at_else j g k) = at_else j g (reaches-trans h k)
reaches-trans h (at_loop j g k) = at_loop j g (reaches-trans h k)
reaches-trans h (at_served to g k) = at_served to g (reaches-trans h k)
reaches-trans h (at_branch j g k) = at_branch j g (reaches-trans h k)

taken-inj : {j k : ℕ} → taken j ≡ taken k → j ≡ k
taken-inj h = cc

taken-two : (s : Progress) {k : ℕ} {X : Type 0} → s ≡ taken zero → s ≡ taken (suc k) → X
taken-two s e f = absurd (zero-suc (taken-inj (sym e ∙ f)))
  where
    zero-suc : {k : ℕ} → zero ≡ suc k → ⊥
    zero-suc h = omega arith

-- The moving part itself stays reached.
pub reaches-stay : (p q : Progresses) (X B : Behaviour) → Off p q X → EachRowOnce B → Reaches p X B → Reaches q X B
unfolding EachRowOnce
reaches-stay p q X B f s at_self = at_self
reaches-stay p q X B f s (at_first {a} x) = at_first (reaches-stay p q X a f s.3 x)
reaches-stay p q X B f s (at_second {a} {b} d x) =
    at_second (done-same a p q (λ i t. f i (λ u. s.2 i t (reaches-rows x i u))) d) (reaches-stay p q X b f s.4 x)
reaches-stay p q X B f s (at_left {a} x) = at_left (reaches-stay p q X a f s.3 x)
reaches-stay p q X B f s (at_right {b} x) = at_right (reaches-stay p q X b f s.4 x)
reaches-stay p q X B f s (at_then {r} {a} g x) = at_then (sym (f r (λ u. s.0 (reaches-rows x r u))) ∙ g) (reaches-stay p q X a f s.3 x)
reaches-stay p q X B f s (at_else {r} {b} k g x) = at_else k (sym (f r (λ u. s.1 (reaches-rows x r u))) ∙ g) (reaches-stay p q X b f s.4 x)
reaches-stay p q X B f s (at_loop {r} {b} k g x) = at_loop k (sym (f r (λ u. s.0 (reaches-rows x r u))) ∙ g) (reaches-stay p q X b f s.1 x)
reaches-stay p q X B f s (at_served {r} {d} to g x) = at_served to (sym (f r (λ u. s.0 (reaches-rows x r u))) ∙ g) (reaches-stay p q X d f s.1 x)
reaches-stay p q X B f s (at_branch {r} {m} k g x) =
    at_branch k (sym (f r (λ u. s.0 (branch-rows m k r (reaches-rows x r u)))) ∙ g) (reaches-stay p q X (branch_at k m) f (branch-once m k s.1) x)

-- Another reached row W, not below X, that is not done, stays reached.
pub record BesideWay (p q : Progresses) (X W : Behaviour) : Type 0 where
  pub undone_w : T (is_done p W) → ⊥
  pub undone_x : T (is_done p X) → ⊥
  pub not_below : Reaches p W X → ⊥
  pub off : Off p q X

pub reaches-keep : (p q : Progresses) (X W : Behaviour) → BesideWay p q X W → (B : Behaviour) → EachRowOnce B → Reaches p W B → Reaches p X B → Reaches q W B
unfolding EachRowOnce
reaches-keep p q X W h B s at_self x = at_self
reaches-keep p q X W h B s (at_first w) at_self = absurd (h.not_below (at_first w))
reaches-keep p q X W h B s (at_first w) (at_first {a} x) = at_first (reaches-keep p q X W h a s.3 w x)
reaches-keep p q X W h B s (at_first w) (at_second d x) = absurd (h.undone_w (reaches-done p w d))
reaches-keep p q X W h B s (at_second d w) at_self = absurd (h.not_below (at_second d w))
reaches-keep p q X W h B s (at_second d w) (at_first x) = absurd (h.undone_x (reaches-done p x d))
reaches-keep p q X W h B s (at_second d w) (at_second {a} {b} d2 x) =
    at_second (done-same a p q (λ i t. h.off i (λ u. s.2 i t (reaches-rows x i u))) d) (reaches-keep p q X W h b s.4 w x)
reaches-keep p q X W h B s (at_left w) at_self = absurd (h.not_below (at_left w))
reaches-keep p q X W h B s (at_left w) (at_left {a} x) = at_left (reaches-keep p q X W h a s.3 w x)
reaches-keep p q X W h B s (at_left w) (at_right x) = at_left (reaches_same p q w (λ i t. h.off i (λ u. s.2 i t (reaches-rows x i u))))
reaches-keep p q X W h B s (at_right w) at_self = absurd (h.not_below (at_right w))
reaches-keep p q X W h B s (at_right w) (at_left x) = at_right (reaches_same p q w (λ i t. h.off i (λ u. s.2 i (reaches-rows x i u) t)))
reaches-keep p q X W h B s (at_right w) (at_right {b} x) = at_right (reaches-keep p q X W h b s.4 w x)
reaches-keep p q X W h B s (at_then g w) at_self = absurd (h.not_below (at_then g w))
reaches-keep p q X W h B s (at_then g w) (at_then {r} {a} g2 x) =
    at_then (sym (h.off r (λ u. s.0 (reaches-rows x r u))) ∙ g) (reaches-keep p q X W h a s.3 w x)
reaches-keep p q X W h B s (at_then g w) (at_else {r} k g2 x) = taken-two (p r) g g2
reaches-keep p q X W h B s (at_else k g w) at_self = absurd (h.not_below (at_else k g w))
reaches-keep p q X W h B s (at_else k g w) (at_then {r} g2 x) = taken-two (p r) g2 g
reaches-keep p q X W h B s (at_else k g w) (at_else {r} {b} k2 g2 x) =
    at_else k (sym (h.off r (λ u. s.1 (reaches-rows x r u))) ∙ g) (reaches-keep p q X W h b s.4 w x)
reaches-keep p q X W h B s (at_loop k g w) at_self = absurd (h.not_below (at_loop k g w))
reaches-keep p q X W h B s (at_loop k g w) (at_loop {r} {b} k2 g2 x) =
    at_loop k (sym (h.off r (λ u. s.0 (reaches-rows x r u))) ∙ g) (reaches-keep p q X W h b s.1 w x)
reaches-keep p q X W h B s (at_served to g w) at_self = absurd (h.not_below (at_served to g w))
reaches-keep p q X W h B s (at_served to g w) (at_served {r} {d} to2 g2 x) =
    at_served to (sym (h.off r (λ u. s.0 (reaches-rows x r u))) ∙ g) (reaches-keep p q X W h d s.1 w x)
reaches-keep p q X W h B s (at_branch k g w) at_self = absurd (h.not_below (at_branch k g w))
reaches-keep p q X W h B s (at_branch k g w) (at_branch {r} {m} k2 g2 x) =
    let x2 : Reaches p X (branch_at k m) = subst (λ (j : ℕ). Reaches p X (branch_at j m)) (taken-inj (sym g2 ∙ g)) x in
    at_branch k (sym (h.off r (λ u. s.0 (branch-rows m k r (reaches-rows x2 r u)))) ∙ g)
    (reaches-keep p q X W h (branch_at k m) (branch-once m k s.1) w x2)

-- Two reached rows that share a row: one is below the other.
pub data Nested (p : Progresses) (X W : Behaviour) : Type 0 where
  below : Reaches p W X → Nested p X W
  above : Reaches p X W → Nested p X W

pub reaches-nested : (p : Progresses) (X W : Behaviour) (i : ℕ) → T (has_row i W) → T (has_row i X) → (B : Behaviour) → EachRowOnce B → Reaches p W B
    → Reaches p X B → Nested p X W
unfolding EachRowOnce
reaches-nested p X W i tw tx B s at_self x = above x
reaches-nested p X W i tw tx B s (at_first w) at_self = below (at_first w)
reaches-nested p X W i tw tx B s (at_first w) (at_first {a} x) = reaches-nested p X W i tw tx a s.3 w x
reaches-nested p X W i tw tx B s (at_first w) (at_second d x) = absurd (s.2 i (reaches-rows w i tw) (reaches-rows x i tx))
reaches-nested p X W i tw tx B s (at_second d w) at_self = below (at_second d w)
reaches-nested p X W i tw tx B s (at_second d w) (at_first x) = absurd (s.2 i (reaches-rows x i tx) (reaches-rows w i tw))
reaches-nested p X W i tw tx B s (at_second d w) (at_second {b} d2 x) = reaches-nested p X W i tw tx b s.4 w x
reaches-nested p X W i tw tx B s (at_left w) at_self = below (at_left w)
reaches-nested p X W i tw tx B s (at_left w) (at_left {a} x) = reaches-nested p X W i tw tx a s.3 w x
reaches-nested p X W i tw tx B s (at_left w) (at_right x) = absurd (s.2 i (reaches-rows w i tw) (reaches-rows x i tx))
reaches-nested p X W i tw tx B s (at_right w) at_self = below (at_right w)
reaches-nested p X W i tw tx B s (at_right w) (at_left x) = absurd (s.2 i (reaches-rows x i tx) (reaches-rows w i tw))
reaches-nested p X W i tw tx B s (at_right w) (at_right {b} x) = reaches-nested p X W i tw tx b s.4 w x
reaches-nested p X W i tw tx B s (at_then g w) at_self = below (at_then g w)
reaches-nested p X W i tw tx B s (at_then g w) (at_then {a} g2 x) = reaches-nested p X W i tw tx a s.3 w x
reaches-nested p X W i tw tx B s (at_then g w) (at_else k g2 x) = absurd (s.2 i (reaches-rows w i tw) (reaches-rows x i tx))
reaches-nested p X W i tw tx B s (at_else k g w) at_self = below (at_else k g w)
reaches-nested p X W i tw tx B s (at_else k g w) (at_then g2 x) = absurd (s.2 i (reaches-rows x i tx) (reaches-rows w i tw))
reaches-nested p X W i tw tx B s (at_else k g w) (at_else {b} k2 g2 x) = reaches-nested p X W i tw tx b s.4 w x
reaches-nested p X W i tw tx B s (at_loop k g w) at_self = below (at_loop k g w)
reaches-nested p X W i tw tx B s (at_loop k g w) (at_loop {b} k2 g2 x) = reaches-nested p X W i tw tx b s.1 w x
reaches-nested p X W i tw tx B s (at_served to g w) at_self = below (at_served to g w)
reaches-nested p X W i tw tx B s (at_served to g w) (at_served {d} to2 g2 x) = reaches-nested p X W i tw tx d s.1 w x
reaches-nested p X W i tw tx B s (at_branch k g w) at_self = below (at_branch k g w)
reaches-nested p X W i tw tx B s (at_branch k g w) (at_branch {r} {m} k2 g2 x) =
    reaches-nested p X W i tw tx (branch_at k m) (branch-once m k s.1) w (subst (λ (j : ℕ). Reaches p X (branch_at j m)) (taken-inj (sym g2 ∙ g)) x)

-- Open rows: those that wait or were received ---------------------------------------------------------------------------------------

open_row : {i : ℕ} {W : Behaviour} → Opens i W → T (has_row i W)
unfolding has_row
open_row {i} asking = eqb_refl i
open_row {i} (serving {d}) = in-own i i (has_row i d) (eqb_refl i)

open-not-done : (s : Progress) → T (is_open s) → T (unless_done s false true) → ⊥
open-not-done undone t d = t
open-not-done done t d = t
open-not-done waits t d = d
open-not-done (received to) t d = d
open-not-done (taken k) t d = t

pub open-undone : (p : Progresses) {i : ℕ} {W : Behaviour} → Opens i W → T (is_open (p i)) → T (is_done p W) → ⊥
unfolding is_done
open-undone p {i} asking t d = open-not-done (p i) t d
open-undone p {i} serving t d = open-not-done (p i) t d

only_self : {p : Progresses} {X W : Behaviour} {i : ℕ} → Opens i W → EachRowOnce W → T (has_row i X) → Reaches p X W → Reaches p W X
unfolding EachRowOnce
only_self asking s t at_self = at_self
only_self serving s t at_self = at_self
only_self {p} {X} {W} {i} serving s t (at_served to g h) = absurd (s.0 (reaches-rows h i t))

-- An open row among the rows of a reached X is below X.
pub open-below : (p : Progresses) (X B : Behaviour) (i : ℕ) → EachRowOnce B → Reaches p X B → AllOpen p B → T (has_row i X) → T (is_open (p i))
    → (W : Behaviour) × Opens i W × Reaches p W X
open-below p X B i s a w t g =
    let k = w i (reaches-rows a i t) g in
    (k.what, k.kind, go (reaches-nested p X k.what i (open_row k.kind) t B s k.way a) k.kind (once-at k.way s))
  where
    go : {W : Behaviour} → Nested p X W → Opens i W → EachRowOnce W → Reaches p W X
    go (below z) k o = z
    go (above z) k o = only_self k o t z

-- The open rows stay reached while X moves, if those of X's own are reached below X.
pub open-change : (p q : Progresses) (X B : Behaviour) → EachRowOnce B → Reaches p X B → (T (is_done p X) → ⊥) → Off p q X
    → ((i : ℕ) → T (has_row i X) → T (is_open (q i)) → (W : Behaviour) × Opens i W × Reaches q W X) → AllOpen p B → AllOpen q B
open-change p q X B s a nx off new w i t g =
    by_bool (has_row i X)
    (λ u. let z = new i u g in record { what = z.0; kind = z.1; way = reaches-trans z.2 (reaches-stay p q X B off s a) })
    (λ u. let g2 : T (is_open (p i)) = subst (λ (x : Progress). T (is_open x)) (sym (off i u)) g in
    let k = w i t g2 in
    record {
      what = k.what;
      kind = k.kind;
      way = reaches-keep p q X k.what
          (record { undone_w = open-undone p k.kind g2; undone_x = nx; not_below = λ z. u (reaches-rows z i (open_row k.kind)); off = off })
          B s k.way a;
    })

-- What `reach` finds ------------------------------------------------------------------------------------------------------------------

-- The input a, of the row i, is offered by the choice c as its branch k.
pub record Offered (p : Progresses) (c k : ℕ) (a : Behaviour) (i : ℕ) (B : Behaviour) : Type 0 where
  pub options : Branches
  pub label : ℕ
  pub after : Behaviour
  pub way : Reaches p (choice c options) B
  pub is_branch : branch_at k options ≡ sequence label a after
  pub inside : T (ltb k (branches options))
  pub row : row_of a ≡ i
  pub untaken : T (not_taken (p c))

abbrev pub Found : Progresses → ℕ → Behaviour → Reached → Type 0
Found p i B unreached = Unit {0}
Found p i B (reached X) = Reaches p X B × (row_of X ≡ i)
Found p i B (offered c k a) = Offered p c k a i B

here_found : (P : Reached → Type 0) (b : Bool) (Y : Behaviour) (l : Reached) → (T b → P (reached Y)) → P l → P (here b Y l)
here_found P true Y l f g = f tt
here_found P false Y l f g = g

or-found : (P : Reached → Type 0) (x y : Reached) → P x → P y → P (or_else x y)
or-found P unreached y f g = g
or-found P (reached b) y f g = f
or-found P (offered c k b) y f g = f

only-found : (P : Reached → Type 0) (b : Bool) (x : Reached) → P unreached → (T b → P x) → P (only_if b x)
only-found P true x f g = g tt
only-found P false x f g = f

taken-found : (P : Reached → Type 0) (s : Progress) (x : Reached) (f : ℕ → Reached) → (T (not_taken s) → P x) → ((k : ℕ) → s ≡ taken k → P (f k))
    → P (unless_taken s x f)
taken-found P undone x f a b = a tt
taken-found P done x f a b = a tt
taken-found P waits x f a b = a tt
taken-found P (received to) x f a b = a tt
taken-found P (taken k) x f a b = b k refl

received-found : (P : Reached → Type 0) (s : Progress) (x y : Reached) → P x → ((to : Destination) → s ≡ received to → P y) → P (unless_received s x y)
received-found P undone x y a b = a
received-found P done x y a b = a
received-found P waits x y a b = a
received-found P (received to) x y a b = b to refl
received-found P (taken k) x y a b = a

lift : (p : Progresses) (i : ℕ) (A B : Behaviour) → ((X : Behaviour) → Reaches p X A → Reaches p X B) → (l : Reached) → Found p i A l → Found p i B l
lift p i A B f unreached g = tt
lift p i A B f (reached X) g = (f X g.0, g.1)
lift p i A B f (offered c k a) g =
    record {
      options = g.options;
      label = g.label;
      after = g.after;
      way = f (choice c g.options) g.way;
      is_branch = g.is_branch;
      inside = g.inside;
      row = g.row;
      untaken = g.untaken;
    }

self-found : (p : Progresses) (i : ℕ) (B : Behaviour) → T (eqb i (row_of B)) → Found p i B (reached B)
self-found p i B t = (at_self, sym (eqb→eq i (row_of B) t))

-- The offers of a choice c: those of its branches from k on.
pub record OfferedBy (c k : ℕ) (a : Behaviour) (i n : ℕ) (m : Branches) : Type 0 where
  pub ahead : ℕ
  pub inside : T (ltb ahead (branches m))
  pub number : k ≡ n + ahead
  pub label : ℕ
  pub after : Behaviour
  pub is_branch : branch_at ahead m ≡ sequence label a after
  pub row : row_of a ≡ i

abbrev pub FoundOffer : ℕ → ℕ → ℕ → Branches → Reached → Type 0
FoundOffer c i n m unreached = Unit {0}
FoundOffer c i n m (reached X) = ⊥
FoundOffer c i n m (offered d k a) = (c ≡ d) × OfferedBy c k a i n m

offered-found : (P : Reached → Type 0) (b : Bool) (c k : ℕ) (a : Behaviour) (l : Reached) → (T b → P (offered c k a)) → P l → P (offered_if b c k a l)
offered-found P true c k a l f g = f tt
offered-found P false c k a l f g = g

pub lt-suc : (j n : ℕ) → T (ltb j n) → T (ltb (suc j) (suc n))
lt-suc j n t = lt→ltb (suc j) (suc n) (let h = ltb→lt j n t in omega arith)

further : (c i n r : ℕ) (a b : Behaviour) (m : Branches) (l : Reached) → FoundOffer c i (suc n) m l → FoundOffer c i n (branch r a b m) l
unfolding branch_at branches
further c i n r a b m unreached g = tt
further c i n r a b m (reached X) g = absurd g
further c i n r a b m (offered d k w) g = (
  g.0,
  record {
    ahead = suc g.1.ahead;
    inside = lt-suc g.1.ahead (branches m) g.1.inside;
    number = next g.1.ahead g.1.number;
    label = g.1.label;
    after = g.1.after;
    is_branch = g.1.is_branch;
    row = g.1.row;
  },
)
  where
    next : (j : ℕ) → k ≡ suc n + j → k ≡ n + suc j
    next j e = omega arith

offer-found : (c i : ℕ) (m : Branches) (n : ℕ) → FoundOffer c i n m (offer c n i m)
unfolding offer branch_at branches
offer-found c i (branch r a b m) n =
    offered-found (FoundOffer c i n (branch r a b m)) (eqb i (row_of a)) c n a (offer c (suc n) i m)
    (λ t. (
      refl,
      record {
        ahead = 0;
        inside = lt→ltb 0 (suc (branches m)) (omega arith);
        number = omega arith;
        label = r;
        after = b;
        is_branch = refl;
        row = sym (eqb→eq i (row_of a) t);
      },
    ))
    (further c i n r a b m (offer c (suc n) i m) (offer-found c i m (suc n)))
offer-found c i (last_branch r a b) n =
    offered-found (FoundOffer c i n (last_branch r a b)) (eqb i (row_of a)) c n a unreached
    (λ t. (refl, record { ahead = 0; inside = tt; number = omega arith; label = r; after = b; is_branch = refl; row = sym (eqb→eq i (row_of a) t) })) tt

offers : (p : Progresses) (c i : ℕ) (m : Branches) → T (not_taken (p c)) → (l : Reached) → FoundOffer c i 0 m l → Found p i (choice c m) l
offers p c i m t unreached g = tt
offers p c i m t (reached X) g = absurd g
offers p c i m t (offered d k a) g =
    record {
      options = m;
      label = g.1.label;
      after = g.1.after;
      way = subst (λ (z : ℕ). Reaches p (choice z m) (choice c m)) g.0 at_self;
      is_branch = subst (λ (z : ℕ). branch_at z m ≡ sequence g.1.label a g.1.after) (same g.1.ahead g.1.number) g.1.is_branch;
      inside = subst (λ (z : ℕ). T (ltb z (branches m))) (same g.1.ahead g.1.number) g.1.inside;
      row = g.1.row;
      untaken = subst (λ (z : ℕ). T (not_taken (p z))) g.0 t;
    }
  where
    same : (j : ℕ) → k ≡ 0 + j → j ≡ k
    same j e = omega arith

-- No input of a choice in which nothing is begun is received.
served-none : (p : Progresses) (i : ℕ) (m : Branches) → FreshBranches p m → served p i m ≡ unreached
unfolding served has_row
served-none p i (last_branch r a b) f = rw (f (row_of a) (in-first (row_of a) r a b (own_row a))) refl
served-none p i (branch r a b m) f =
    rw (f (row_of a) (in-input (row_of a) r a b m (own_row a))) (served-none p i m (λ j t. f j (in-others j r a b m t)))

mutual
  unfolding reach branch_at EachRowOnce row_of Clean

  pub reach-found : (p : Progresses) (i : ℕ) (B : Behaviour) → EachRowOnce B → Clean p B → Found p i B (reach p i B)
  reach-found p i (nil r) o h = here_found (Found p i (nil r)) (eqb i r) (nil r) unreached (self-found p i (nil r)) tt
  reach-found p i (one_way r w x) o h = here_found (Found p i (one_way r w x)) (eqb i r) (one_way r w x) unreached (self-found p i (one_way r w x)) tt
  reach-found p i (request_response r w x c d) o h =
      let ih = reach-found p i d o.1 h.1 in
      let B = request_response r w x c d in
      here_found (Found p i B) (eqb i r) B (unless_received (p r) unreached (reach p i d)) (self-found p i B)
      (received-found (Found p i B) (p r) unreached (reach p i d) tt (λ to e. lift p i d B (λ X y. at_served to e y) (reach p i d) ih))
  reach-found p i (notification r w e) o h =
      here_found (Found p i (notification r w e)) (eqb i r) (notification r w e) unreached (self-found p i (notification r w e)) tt
  reach-found p i (solicit_response r w e x) o h =
      here_found (Found p i (solicit_response r w e x)) (eqb i r) (solicit_response r w e x) unreached (self-found p i (solicit_response r w e x)) tt
  reach-found p i (if_then_else r e a b) o h =
      let iha = reach-found p i a o.3 h.2 in
      let ihb = reach-found p i b o.4 h.3 in
      let B = if_then_else r e a b in
      here_found (Found p i B) (eqb i r) B (unless_taken (p r) unreached (λ j. then_or_else j (reach p i a) (reach p i b))) (self-found p i B)
      (taken-found (Found p i B) (p r) unreached (λ j. then_or_else j (reach p i a) (reach p i b)) (λ t. tt) (λ j g. go j g iha ihb))
    where
      go : (j : ℕ) → p r ≡ taken j → Found p i a (reach p i a) → Found p i b (reach p i b)
          → Found p i (if_then_else r e a b) (then_or_else j (reach p i a) (reach p i b))
      go zero g x y = lift p i a (if_then_else r e a b) (λ X y. at_then g y) (reach p i a) x
      go (suc j) g x y = lift p i b (if_then_else r e a b) (λ X y. at_else j g y) (reach p i b) y
  reach-found p i (while_do r e b) o h =
      let ih = reach-found p i b o.1 h in
      let B = while_do r e b in
      here_found (Found p i B) (eqb i r) B (unless_taken (p r) unreached (λ j. reach p i b)) (self-found p i B)
      (taken-found (Found p i B) (p r) unreached (λ j. reach p i b) (λ t. tt) (λ j g. lift p i b B (λ X y. at_loop j g y) (reach p i b) ih))
  reach-found p i (sequence r a b) o h =
      let iha = reach-found p i a o.3 h.0 in
      let ihb = reach-found p i b o.4 h.1 in
      let B = sequence r a b in
      here_found (Found p i B) (eqb i r) B (or_else (reach p i a) (only_if (is_done p a) (reach p i b))) (self-found p i B)
      (or-found (Found p i B) (reach p i a) (only_if (is_done p a) (reach p i b)) (lift p i a B (λ X y. at_first y) (reach p i a) iha)
      (only-found (Found p i B) (is_done p a) (reach p i b) tt (λ t. lift p i b B (λ X y. at_second t y) (reach p i b) ihb)))
  reach-found p i (parallel r a b) o h =
      let iha = reach-found p i a o.3 h.0 in
      let ihb = reach-found p i b o.4 h.1 in
      let B = parallel r a b in
      here_found (Found p i B) (eqb i r) B (or_else (reach p i a) (reach p i b)) (self-found p i B)
      (or-found (Found p i B) (reach p i a) (reach p i b) (lift p i a B (λ X y. at_left y) (reach p i a) iha)
      (lift p i b B (λ X y. at_right y) (reach p i b) ihb))
  reach-found p i (assign r x e) o h = here_found (Found p i (assign r x e)) (eqb i r) (assign r x e) unreached (self-found p i (assign r x e)) tt
  reach-found p i (choice r m) o h =
      let B = choice r m in
      here_found (Found p i B) (eqb i r) B (unless_taken (p r) (or_else (offer r 0 i m) (served p i m)) (λ j. reach_branch p j i m)) (self-found p i B)
      (taken-found (Found p i B) (p r) (or_else (offer r 0 i m) (served p i m)) (λ j. reach_branch p j i m)
      (λ t. or-found (Found p i B) (offer r 0 i m) (served p i m) (offers p r i m t (offer r 0 i m) (offer-found r i m 0))
      (subst (Found p i B) (sym (served-none p i m (h.0 t))) tt))
      (λ j g. lift p i (branch_at j m) B (λ X y. at_branch j g y) (reach_branch p j i m) (branch-found p i m j o.1 h.1)))
  reach-found p i (waiting r w x) o h = tt
  reach-found p i (answering r w c d) o h = tt

  branch-found : (p : Progresses) (i : ℕ) (m : Branches) (k : ℕ) → EachBranchRowOnce m → CleanBranches p m → Found p i (branch_at k m) (reach_branch p k i m)
  branch-found p i (last_branch r a b) k o h =
      let B = sequence r a b in
      or-found (Found p i B) (reach p i a) (only_if (is_done p a) (reach p i b))
      (lift p i a B (λ X y. at_first y) (reach p i a) (reach-found p i a o.3 h.0))
      (only-found (Found p i B) (is_done p a) (reach p i b) tt
      (λ t. lift p i b B (λ X y. at_second t y) (reach p i b) (reach-found p i b o.4 h.1)))
  branch-found p i (branch r a b m) zero o h =
      let B = sequence r a b in
      or-found (Found p i B) (reach p i a) (only_if (is_done p a) (reach p i b))
      (lift p i a B (λ X y. at_first y) (reach p i a) (reach-found p i a o.3 h.0))
      (only-found (Found p i B) (is_done p a) (reach p i b) tt
      (λ t. lift p i b B (λ X y. at_second t y) (reach p i b) (reach-found p i b o.4 h.1)))
  branch-found p i (branch r a b m) (suc k) o h = branch-found p i m k o.8 h.2
