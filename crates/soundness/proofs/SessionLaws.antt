-- Each kind of move on one session keeps it sound; what a ready row reads, sends or answers is there and fits.
use Rattle.std.specs.Prelude.{◌≡◌, refl, ℕ, suc, ◌≤◌, ◌<◌, ◌+◌, max, Bool, true, ◌||◌, eqb, ltb, length}
use Rattle.std.proofs.Math.Path.{sym, ap, subst}
use Rattle.std.proofs.Common.{◌∙◌, arith, eqb→eq, length-append}
use Rattle.std.proofs.Math.Bool.{false}
use mathlib.Core.List.{List, [], ◌∷◌, ◌++◌}
use Rattle.std.proofs.Math.Dec.{T, eqb_refl}
use Rattle.tree_forest.specs.Forest.{Forest, Tree, Rising}
use Rattle.tree_forest.specs.Path.{Path, read, replace_at, set_payload_at}
use Rattle.scalar.specs.Value.{Value, value}
use Rattle.basics.specs.Choice.{pick}
use Rattle.basics.specs.TestLaws.{and_i, not-T-false, of_t, or_case, or_l, or_r}
use Rattle.network_syntax.specs.Syntax.{Types, Expression, some, Network, Operation, Behaviour, nil, one_way, request_response, notification, solicit_response}
use Rattle.network_syntax.specs.Syntax.{if_then_else, while_do, sequence, assign, choice, waiting, answering, Branches}
use Rattle.network_syntax.specs.Rows.{has_row, has_row_in}
use Rattle.network.specs.Shapes.{Outside, OutsideBranches, EachRowOnce}
use Rattle.check_subtyping.specs.Subtype.{Subtypes}
use Rattle.check_subtyping.specs.Own.{own_types, Fits}
use Rattle.check_subtyping.proofs.OwnLaws.{tree-within}
use Rattle.check_typing.specs.Environment.{within}
use Rattle.check_typing.proofs.EnvironmentLaws.{sums, maxima, within-smaller, payload-rising}
use Rattle.check_typing.specs.Rules.{WellSorted}
use Rattle.check_typing.specs.Typed.{Typed}
use Rattle.check_typing.proofs.TypedLaws.{by_bool, within-before}
use Rattle.state.specs.Session.{Destination, Progress, Progresses, undone, done, waits, received, taken}
use Rattle.state.specs.Session.{advance, reopen, Queued, Session, with_tree, with_queue, with_progress, with_key}
use Rattle.state.specs.Shape.{behaviour_in, is_destination, undone_or_done, undone_done_or_waits, undone_done_or_received, undone_or_taken, undone_done_or_body}
use Rattle.state.specs.Shape.{branches, suits, suits_branches}
use Rattle.move_rules.specs.Readiness.{unless_done, unless_waits, unless_received, unless_taken, then_or_else, is_done, branch_done, rest, branch_rest}
use Rattle.move_rules.specs.Evaluation.{evaluate}
use Rattle.move_rules.specs.AssignLaws.{within-payload}
use Rattle.move_rules.specs.Moves.{root_value}
use Rattle.scalar.specs.Value.{void_value}
use Rattle.soundness.specs.GoodTrees.{GoodForest, GoodTree}
use Rattle.soundness.proofs.GoodTreesLaws.{replace-good, payload-set-good}
use Rattle.soundness.proofs.EvaluationLaws.{GivesBy, gives-map, progress, beyond-basic, given-basic, root-proper}
use Rattle.soundness.specs.Parts.{branch_at, Fresh, FreshBranches, Clean, Reaches, at_self, at_served, at_loop}
use Rattle.soundness.proofs.ContextLaws.{finished-same, Active, hole}
use Rattle.soundness.proofs.RowLaws.{in-own, branch-rows, rest-fresh, rest_then, rest-else, rest-loop, rest-served, rest-branch}
use Rattle.soundness.proofs.RowLaws.{done-finished, reaches-rows, row-active, Off}
use Rattle.soundness.proofs.CleanLaws.{clean-same, clean-fresh, clean_at, clean-move, once-at, clean-fresh-branches}
use Rattle.soundness.proofs.CleanLaws.{undone-taken, undone-untaken, suits-same, suits-fresh, suits-fresh-branches, suits-at}
use Rattle.soundness.proofs.CleanLaws.{suits-move, of_two, three}
use Rattle.soundness.proofs.ReachLaws.{open-below, open-change, open-undone, reaches-done}
use Rattle.soundness.specs.Parts.{is_open, Opens, asking, serving}
use Rattle.soundness.specs.Accepted.{MadeOf, Accepted}
use Rattle.soundness.proofs.MadeLaws.{made_at, made-sorted, rest_sorted}
use Rattle.soundness.proofs.LeafLaws.{Leaf, assigns, takes_then, takes_else, enters, leaves, reenters, ends, receives_one, receives_two, gets_reply}
use Rattle.soundness.proofs.LeafLaws.{notifies, asks, answers, selects, GivesBool, GivesMessage, GivesReply}
use Rattle.soundness.proofs.LeafLaws.{reduction, condition-gives, send-gives, reply-gives}
use Rattle.soundness.specs.Well.{Well}
use Rattle.soundness.specs.Invariant.{AnswersAt, QueuedSound, AllQueued, SessionSound}

-- One row advanced ------------------------------------------------------------------------------------------------------------------------

pub advance-here : (p : Progresses) (r : ℕ) (s : Progress) → advance p r s r ≡ s
advance-here p r s = ap (λ (b : Bool). pick b s (p r)) (of_t (eqb r r) (eqb_refl r))

pub advance-at : (p : Progresses) (r : ℕ) (s : Progress) (i : ℕ) → T (eqb i r) → advance p r s i ≡ s
advance-at p r s i t = ap (λ (b : Bool). pick b s (p i)) (of_t (eqb i r) t)

pub advance-apart : (p : Progresses) (r : ℕ) (s : Progress) (i : ℕ) → (T (eqb i r) → ⊥) → p i ≡ advance p r s i
advance-apart p r s i f = sym (ap (λ (b : Bool). pick b s (p i)) (not-T-false (eqb i r) f))

-- Rows of a part without r.
pub advance-below : (p : Progresses) (r : ℕ) (s : Progress) (d : Behaviour) → Outside r d → (i : ℕ) → T (has_row i d) → p i ≡ advance p r s i
advance-below p r s d n i t = advance-apart p r s i (λ e. n (subst (λ (z : ℕ). T (has_row z d)) (eqb→eq i r e) t))

pub advance-below-branches : (p : Progresses) (r : ℕ) (s : Progress) (m : Branches) → OutsideBranches r m → (i : ℕ) → T (has_row_in i m)
    → p i ≡ advance p r s i
advance-below-branches p r s m n i t = advance-apart p r s i (λ e. n (subst (λ (z : ℕ). T (has_row_in z m)) (eqb→eq i r e) t))

advance-off : (p : Progresses) (r : ℕ) (s : Progress) (X : Behaviour) → ((i : ℕ) → T (eqb i r) → T (has_row i X)) → Off p (advance p r s) X
advance-off p r s X h i f = advance-apart p r s i (λ t. f (h i t))

-- A progress that is not the new one was there before.
advance-before : (p : Progresses) (r : ℕ) (s t : Progress) → (s ≡ t → ⊥) → (i : ℕ) → advance p r s i ≡ t → p i ≡ t
advance-before p r s t n i e =
    by_bool (eqb i r) (λ u. absurd (n (sym (advance-at p r s i u) ∙ e))) (λ u. advance-apart p r s i u ∙ e)

advance-opens : (p : Progresses) (X : Behaviour) (r : ℕ) (s : Progress) → ((i : ℕ) → T (has_row i X) → T (is_open (p i)) → T (eqb i r))
    → (T (is_open s) → Opens r X) → (i : ℕ) → T (has_row i X) → T (is_open (advance p r s i)) → (W : Behaviour) × Opens i W × Reaches (advance p r s) W X
advance-opens p X r s only new i t g =
    by_bool (eqb i r)
    (λ u. (X, subst (λ (z : ℕ). Opens z X) (sym (eqb→eq i r u)) (new (subst (λ (z : Progress). T (is_open z)) (advance-at p r s i u) g)), at_self))
    (λ u. absurd (u (only i t (subst (λ (z : Progress). T (is_open z)) (sym (advance-apart p r s i u)) g))))

done-received : {to : Destination} → done ≡ received to → ⊥
done-received e = let z : ◌≡◌ {A = ℕ} 0 1 = cc in omega arith

pub waits-received : {to : Destination} → waits ≡ received to → ⊥
waits-received e = let z : ◌≡◌ {A = ℕ} 0 1 = cc in omega arith

taken-received : {k : ℕ} {to : Destination} → taken k ≡ received to → ⊥
taken-received e = let z : ◌≡◌ {A = ℕ} 0 1 = cc in omega arith

undone-is-received : {to : Destination} → undone ≡ received to → ⊥
undone-is-received e = let z : ◌≡◌ {A = ℕ} 0 1 = cc in omega arith

undone-done : (s : Progress) {X : Type 0} → s ≡ done → s ≡ undone → X
undone-done s e f = absurd (let z : ◌≡◌ {A = ℕ} 0 1 = cc in omega arith)

received-inj : {a b : Destination} → received a ≡ received b → a ≡ b
received-inj h = cc

undone-open : (s : Progress) → s ≡ undone → T (is_open s) → ⊥
undone-open s e t = subst (λ (z : Progress). T (is_open z)) e t

undone-not-done : (s : Progress) → s ≡ undone → T (unless_done s false true) → ⊥
undone-not-done s e t = subst (λ (z : Progress). T (unless_done z false true)) e t

-- The body's rows begun anew ---------------------------------------------------------------------------------------------------------------

again : Progresses → ℕ → Behaviour → Progresses
again p r b = advance (reopen p b) r (taken 0)

reopen-at : (p : Progresses) (b : Behaviour) (i : ℕ) → T (has_row i b) → reopen p b i ≡ undone
reopen-at p b i t = ap (λ (c : Bool). pick c undone (p i)) (of_t (has_row i b) t)

reopen-other : (p : Progresses) (b : Behaviour) (i : ℕ) → (T (has_row i b) → ⊥) → p i ≡ reopen p b i
reopen-other p b i f = sym (ap (λ (c : Bool). pick c undone (p i)) (not-T-false (has_row i b) f))

again-fresh : (p : Progresses) (r : ℕ) (b : Behaviour) → Outside r b → Fresh (advance (reopen p b) r (taken 0)) b
again-fresh p r b n i t = sym (advance-below (reopen p b) r (taken 0) b n i t) ∙ reopen-at p b i t

again-off : (p : Progresses) (r : ℕ) (e : Expression) (b : Behaviour) → Off p (advance (reopen p b) r (taken 0)) (while_do r e b)
unfolding has_row
again-off p r e b i f =
    reopen-other p b i (λ t. f (or_r (eqb i r) (has_row i b) t)) ∙ advance-apart (reopen p b) r (taken 0) i (λ t. f (or_l (eqb i r) (has_row i b) t))

-- An if, a while and a choice that are not begun are not done.
if-undone : (p : Progresses) (r : ℕ) (e : Expression) (x y : Behaviour) → p r ≡ undone → T (is_done p (if_then_else r e x y)) → ⊥
unfolding is_done
if-undone p r e x y t z = subst (λ (s : Progress). T (unless_taken s false (λ j. then_or_else j (is_done p x) (is_done p y)))) t z

choice-undone : (p : Progresses) (r : ℕ) (m : Branches) → p r ≡ undone → T (is_done p (choice r m)) → ⊥
unfolding is_done
choice-undone p r m t z = subst (λ (s : Progress). T (unless_taken s false (λ j. branch_done p j m))) t z

-- Nothing is open below a while that is at its test, or below a request-response whose body is done, but that row itself.
quiet-while : (p : Progresses) {i r : ℕ} {W b : Behaviour} {e : Expression} → Opens i W → T (is_open (p i)) → T (is_done p b)
    → Reaches p W (while_do r e b) → ⊥
quiet-while p asking g d (at_loop k z h) = open-undone p asking g (reaches-done p h d)
quiet-while p serving g d (at_loop k z h) = open-undone p serving g (reaches-done p h d)

quiet-first : (p : Progresses) {i r : ℕ} {W b : Behaviour} {e : Expression} → Opens i W → p r ≡ undone → Reaches p W (while_do r e b) → ⊥
quiet-first p {i} {r} asking t (at_loop k z h) = undone-taken (p r) z t
quiet-first p {i} {r} serving t (at_loop k z h) = undone-taken (p r) z t

quiet-served : (p : Progresses) {i r : ℕ} {W d : Behaviour} {o : Operation} {x c : Path} → Opens i W → T (is_open (p i)) → T (is_done p d)
    → Reaches p W (request_response r o x c d) → T (eqb i r)
quiet-served p asking g d (at_served to z h) = absurd (open-undone p asking g (reaches-done p h d))
quiet-served p {i} serving g d at_self = eqb_refl i
quiet-served p serving g d (at_served to z h) = absurd (open-undone p serving g (reaches-done p h d))

-- A message more in a queue.
pub queue-longer : (l : List Queued) (m : Queued) (k : ℕ) → length l ≤ k → length (l ++ (m ∷ [])) ≤ suc k
queue-longer l m k e = rw (length-append l (m ∷ [])) (omega arith)

pub queue-added : (N : Network) (rows q : ℕ) (l : List Queued) (m : Queued) → AllQueued N rows q l → QueuedSound N rows q m
    → AllQueued N rows q (l ++ (m ∷ []))
unfolding AllQueued
queue-added N rows q [] m a s = (s, tt)
queue-added N rows q (x ∷ l) m a s = (a.0, queue-added N rows q l m a.1 s)

-- One step, whatever its kind ------------------------------------------------------------------------------------------------------------

module _ (N : Network) (rows : ℕ) (acc : Accepted N rows) where
  pub record Change (B : Behaviour) (F : Forest Value) (p : Progresses) (X : Behaviour) (F2 : Forest Value) (p2 : Progresses) : Type 0 where
    pub undone_before : T (is_done p X) → ⊥
    pub off : Off p p2 X
    pub clean : Clean p2 X
    pub suit : T (suits N rows p2 X)
    pub opens : (i : ℕ) → T (has_row i X) → T (is_open (p2 i)) → (W : Behaviour) × Opens i W × Reaches p2 W X
    pub replies : (i : ℕ) (to : Destination) → p2 i ≡ received to → AnswersAt N B i to
    pub good : GoodForest F2
    pub before : Behaviour
    pub after : Behaviour
    pub is_before : rest p X ≡ before
    pub is_after : rest p2 X ≡ after
    pub leaf : Leaf F before F2 after

  pub once-of : (q n : ℕ) (B : Behaviour) → behaviour_in N q n ≡ some B → EachRowOnce B
  once-of q n B e = (acc.behaviours q n B e).each_once

  pub made_of : (q n : ℕ) (B : Behaviour) → behaviour_in N q n ≡ some B → MadeOf N rows B
  made_of q n B e = (acc.behaviours q n B e).made

  module _ (q n : ℕ) (S : Session) (h : SessionSound N rows q n S) where
    abbrev p : Progresses
    p = S.progress

    abbrev B : Behaviour
    B = h.what

    once_b : EachRowOnce B
    once_b = once-of q n B h.runs

    made_b : MadeOf N rows B
    made_b = made_of q n B h.runs

    sorted_b : WellSorted B
    sorted_b = made-sorted N rows acc B made_b

    sorted-at : (X : Behaviour) → Reaches p X B → WellSorted (rest p X)
    sorted-at X a = rest_sorted X p (made-sorted N rows acc X (made_at N rows a made_b))

    -- What is left after a step is typed from the tree after it.
    changed-well : (X : Behaviour) → Reaches p X B → (F2 : Forest Value) (p2 : Progresses) → Off p p2 X → (L L2 : Behaviour) → rest p X ≡ L
        → rest p2 X ≡ L2 → Leaf S.tree L F2 L2 → Well q F2 (rest p2 B) h.last
    changed-well X a F2 p2 off L L2 e1 e2 lf =
        let act = row-active p p2 X B a once_b off in
        let act2 = subst (λ (z : Behaviour). Active z (rest p2 X) (rest p B) (rest p2 B)) e1 act in
        reduction q lf (subst (λ (z : Behaviour). Active L z (rest p B) (rest p2 B)) e2 act2) (subst WellSorted e1 (sorted-at X a))
        (rest_sorted B p sorted_b) h.well

    pub changed-sound : (X : Behaviour) → Reaches p X B → (F2 : Forest Value) (p2 : Progresses) → Change B S.tree p X F2 p2 → (l : List Queued)
        → length l ≤ 4
        → AllQueued N rows q l → SessionSound N rows q n (with_queue (with_progress (with_tree S F2) p2) l)
    changed-sound X a F2 p2 c l few ql =
        record {
          what = B;
          runs = h.runs;
          last = h.last;
          limit = h.limit;
          clean = clean-move p p2 X B a once_b h.clean c.off c.clean;
          suit = suits-move N rows p p2 X B a once_b h.suit c.off c.suit;
          quiet = λ r f. sym (c.off r (λ t. f (reaches-rows a r t))) ∙ h.quiet r f;
          opened = open-change p p2 X B once_b a c.undone_before c.off c.opens h.opened;
          replies = c.replies;
          good = c.good;
          well = changed-well X a F2 p2 c.off c.before c.after c.is_before c.is_after c.leaf;
          few = few;
          queued = ql;
        }

    -- A reached row's rest is typed in the session's own environment.
    row_typed : (X : Behaviour) → Reaches p X B → (Δ : Types) × Typed q (rest p X) h.well.env Δ
    row_typed X a =
        let u = hole q (λ i t. t) (sorted-at X a) (row-active p p X B a once_b (λ i f. refl)) (rest_sorted B p sorted_b) h.well.env h.last
        h.well.rising h.well.typed in
        (u.mid, u.part)

    -- A tree from which what is left is typed is within the limits.
    well-limit : (F : Forest Value) (p2 : Progresses) → Rising F → Well q F (rest p2 B) h.last → T (within F)
    well-limit F p2 w k =
        let Γ = k.env in
        let t = within-before q (rest p2 B) Γ h.last (rest_sorted B p2 sorted_b) k.typed h.limit in
        within-smaller F Γ (tree-within (◌+◌) sums F Γ w k.rising k.fit) (tree-within max maxima F Γ w k.rising k.fit) t

    pub tree-limit : T (within S.tree)
    tree-limit = well-limit S.tree p h.good.0 h.well

    -- A step that advances the row r of X to s.
    advanced : (X : Behaviour) (r : ℕ) (s : Progress) (F2 : Forest Value) → ((i : ℕ) → T (eqb i r) → T (has_row i X)) → (T (is_done p X) → ⊥)
        → ((i : ℕ) → T (has_row i X) → T (is_open (p i)) → T (eqb i r)) → (T (is_open s) → Opens r X) → ((to : Destination) → s ≡ received to → AnswersAt N B r to)
        → Clean (advance p r s) X → T (suits N rows (advance p r s) X) → GoodForest F2 → (L L2 : Behaviour) → rest p X ≡ L → rest (advance p r s) X ≡ L2
        → Leaf S.tree L F2 L2 → Change B S.tree p X F2 (advance p r s)
    advanced X r s F2 own nd only new ans cl su gd L L2 e1 e2 lf =
        record {
          undone_before = nd;
          off = advance-off p r s X own;
          clean = cl;
          suit = su;
          opens = advance-opens p X r s only new;
          replies = λ i to e. by_bool (eqb i r)
              (λ u. subst (λ (z : ℕ). AnswersAt N B z to) (sym (eqb→eq i r u)) (ans to (sym (advance-at p r s i u) ∙ e)))
              (λ u. h.replies i to (advance-apart p r s i u ∙ e));
          good = gd;
          before = L;
          after = L2;
          is_before = e1;
          is_after = e2;
          leaf = lf;
        }

    -- Local: assign. Of a value that is beyond, the tree with one of its basic type is within the limits, and so with any.
    pub assign-sound : (r : ℕ) (x : Path) (e : Expression) → Reaches p (assign r x e) B → p r ≡ undone
        → GivesBy (evaluate S.tree e) (λ b. T (within (set_payload_at void_value x void_value S.tree)))
        (λ y. SessionSound N rows q n (with_progress (with_tree S (set_payload_at void_value x (root_value y) S.tree)) (advance p r done)))
    unfolding Typed MadeOf is_done has_row rest Clean suits
    assign-sound r x e a t =
        let X = assign r x e in
        let F = S.tree in
        let p2 = advance p r done in
        let m = made_at N rows a made_b in
        let u = row_typed X a in
        let e1 = ap (λ (s : Progress). unless_done s X (nil r)) t in
        let e2 = ap (λ (s : Progress). unless_done s X (nil r)) (advance-here p r done) in
        let k : Typed q X h.well.env u.0 = subst (λ (z : Behaviour). Typed q z h.well.env u.0) e1 u.1 in
        gives-map (evaluate F e) (progress F h.well.env h.good h.well.fit e m.2 k.0 k.1)
        (λ b eb w.
        let v = value b [] in
        let F2 = set_payload_at void_value x v F in
        subst T (within-payload void_value x v void_value F)
        (well-limit F2 p2 (payload-rising void_value x v F h.good.0)
        (changed-well X a F2 p2 (advance-off p r done X (λ i z. z)) X (nil r) e1 e2 (assigns v (beyond-basic F h.good e m.2 b eb)))))
        (λ y ey w.
        let F2 = set_payload_at void_value x (root_value y) F in
        changed-sound X a F2 p2
        (advanced X r done F2 (λ i z. z) (λ d. undone-not-done (p r) t d) (λ i z w. z) (λ z. absurd z) (λ to z. absurd (done-received z)) tt
        (subst (λ (s : Progress). T (undone_or_done s)) (sym (advance-here p r done)) tt)
        (payload-set-good x (root_value y) F m.1 (root-proper y w.1) h.good) X (nil r) e1 e2
        (assigns (root_value y) (given-basic F h.good e m.2 y ey)))
        S.queue h.few h.queued)

    -- Receive: one-way.
    pub one_way-sound : (r : ℕ) (o : Operation) (x : Path) (m : Tree Value) → Reaches p (one_way r o x) B → p r ≡ undone → GoodTree m → Fits m o.request
        → (l : List Queued) → length l ≤ 4 → AllQueued N rows q l
        → SessionSound N rows q n (with_queue (with_progress (with_tree S (replace_at void_value x m S.tree)) (advance p r done)) l)
    unfolding MadeOf is_done has_row rest Clean suits
    one_way-sound r o x m a t gm f l few ql =
        let X = one_way r o x in
        let F2 = replace_at void_value x m S.tree in
        changed-sound X a F2 (advance p r done)
        (advanced X r done F2 (λ i z. z) (λ d. undone-not-done (p r) t d) (λ i z w. z) (λ z. absurd z) (λ to z. absurd (done-received z)) tt
        (subst (λ (s : Progress). T (undone_or_done s)) (sym (advance-here p r done)) tt)
        (replace-good x m S.tree (made_at N rows a made_b).2 gm h.good) X (nil r)
        (ap (λ (s : Progress). unless_done s X (nil r)) t) (ap (λ (s : Progress). unless_done s X (nil r)) (advance-here p r done)) (receives_one m f))
        l few ql

    -- Send: notification. What is sent is there and fits, or is beyond.
    pub notification-sound : (r : ℕ) (o : Operation) (e : Expression) → Reaches p (notification r o e) B → p r ≡ undone
        → GivesMessage (evaluate S.tree e) o.request × SessionSound N rows q n (with_progress S (advance p r done))
    unfolding Typed MadeOf is_done has_row rest Clean suits
    notification-sound r o e a t =
        let X = notification r o e in
        let u = row_typed X a in
        let k : Typed q X h.well.env u.0 = subst (λ (z : Behaviour). Typed q z h.well.env u.0)
        (ap (λ (s : Progress). unless_done s X (nil r)) t) u.1 in (
          send-gives q S.tree h.well.env e o.request h.good (made_at N rows a made_b).2 h.well.fit k.1,
          changed-sound X a S.tree (advance p r done)
              (advanced X r done S.tree (λ i z. z) (λ d. undone-not-done (p r) t d) (λ i z w. z) (λ z. absurd z) (λ to z. absurd (done-received z)) tt
              (subst (λ (s : Progress). T (undone_or_done s)) (sym (advance-here p r done)) tt) h.good X (nil r)
              (ap (λ (s : Progress). unless_done s X (nil r)) t) (ap (λ (s : Progress). unless_done s X (nil r)) (advance-here p r done)) notifies)
              S.queue h.few h.queued,
        )

    -- Send: solicit-response, which then waits.
    pub solicit-sound : (r : ℕ) (o : Operation) (e : Expression) (x : Path) → Reaches p (solicit_response r o e x) B → p r ≡ undone
        → GivesMessage (evaluate S.tree e) o.request × SessionSound N rows q n (with_progress S (advance p r waits))
    unfolding Typed MadeOf is_done has_row rest Clean suits
    solicit-sound r o e x a t =
        let X = solicit_response r o e x in
        let u = row_typed X a in
        let e1 = ap (λ (s : Progress). unless_done s (unless_waits s X (waiting r o x)) (nil r)) t in
        let k : Typed q X h.well.env u.0 = subst (λ (z : Behaviour). Typed q z h.well.env u.0) e1 u.1 in (
          send-gives q S.tree h.well.env e o.request h.good (made_at N rows a made_b).2 h.well.fit k.1,
          changed-sound X a S.tree (advance p r waits)
              (advanced X r waits S.tree (λ i z. z) (λ d. undone-not-done (p r) t d) (λ i z w. z) (λ z. asking) (λ to z. absurd (waits-received z)) tt
              (subst (λ (s : Progress). T (undone_done_or_waits s)) (sym (advance-here p r waits)) tt) h.good X (waiting r o x) e1
              (ap (λ (s : Progress). unless_done s (unless_waits s X (waiting r o x)) (nil r)) (advance-here p r waits)) asks)
              S.queue h.few h.queued,
        )

    -- A waiting row takes its reply.
    pub waiting-sound : (r : ℕ) (o : Operation) (e : Expression) (x : Path) (m : Tree Value) → Reaches p (solicit_response r o e x) B → p r ≡ waits
        → GoodTree m
        → Fits m o.reply → SessionSound N rows q n (with_progress (with_tree S (replace_at void_value x m S.tree)) (advance p r done))
    unfolding MadeOf is_done has_row rest Clean suits
    waiting-sound r o e x m a t gm f =
        let X = solicit_response r o e x in
        let F2 = replace_at void_value x m S.tree in
        changed-sound X a F2 (advance p r done)
        (advanced X r done F2 (λ i z. z) (λ d. subst (λ (s : Progress). T (unless_done s false true)) t d) (λ i z w. z) (λ z. absurd z)
        (λ to z. absurd (done-received z)) tt
        (subst (λ (s : Progress). T (undone_done_or_waits s)) (sym (advance-here p r done)) tt)
        (replace-good x m S.tree (made_at N rows a made_b).3 gm h.good) (waiting r o x) (nil r)
        (ap (λ (s : Progress). unless_done s (unless_waits s X (waiting r o x)) (nil r)) t)
        (ap (λ (s : Progress). unless_done s (unless_waits s X (waiting r o x)) (nil r)) (advance-here p r done)) (gets_reply m f))
        S.queue h.few h.queued

    -- Receive: request-response, which keeps where its reply goes.
    pub request-sound : (r : ℕ) (o : Operation) (x c : Path) (d : Behaviour) (m : Tree Value) (to : Destination) → Reaches p (request_response r o x c d) B
        → p r ≡ undone
        → GoodTree m → Fits m o.request → T (is_destination N rows to) → AnswersAt N B r to → (l : List Queued) → length l ≤ 4 → AllQueued N rows q l
        → SessionSound N rows q n (with_queue (with_progress (with_tree S (replace_at void_value x m S.tree)) (advance p r (received to))) l)
    unfolding MadeOf is_done has_row rest Clean suits EachRowOnce
    request-sound r o x c d m to a t gm f dest ans l few ql =
        let X = request_response r o x c d in
        let p2 = advance p r (received to) in
        let F2 = replace_at void_value x m S.tree in
        let od = once-at a once_b in
        let cx = clean_at a h.clean in
        let same = advance-below p r (received to) d od.0 in
        let fr : Fresh p2 d = λ i u. sym (same i u) ∙ cx.0 t i u in
        let sd : T (suits N rows p2 d) = suits-fresh N rows d p2 fr in
        changed-sound X a F2 p2
        (advanced X r (received to) F2 (λ i z. in-own i r (has_row i d) z) (λ z. undone-not-done (p r) t z)
        (λ i z w. or_case (eqb i r) (has_row i d) (λ v. v) (λ v. absurd (undone-open (p i) (cx.0 t i v) w)) z) (λ z. serving)
        (λ to2 z. subst (λ (y : Destination). AnswersAt N B r y) (received-inj z) ans)
        ((λ z i u. fr i u), clean-fresh d p2 fr)
        (and_i (undone_done_or_received N rows (p2 r)) (suits N rows p2 d)
        (subst (λ (s : Progress). T (undone_done_or_received N rows s)) (sym (advance-here p r (received to))) dest) sd)
        (replace-good x m S.tree (made_at N rows a made_b).2 gm h.good) X (answering r o c d)
        (ap (λ (s : Progress). unless_done s (unless_received s X (answering r o c (rest p d))) (nil r)) t)
        (rest-served p2 r o x c d to (advance-here p r (received to)) ∙ ap (answering r o c) (rest-fresh d p2 fr)) (receives_two m f))
        l few ql

    -- Reply: what is answered is there, and fits.
    pub answer-sound : (r : ℕ) (o : Operation) (x c : Path) (d : Behaviour) (to : Destination) → Reaches p (request_response r o x c d) B → p r ≡ received to
        → T (is_done p d)
        → GivesReply (read c S.tree) o.reply × SessionSound N rows q n (with_progress S (advance p r done))
    unfolding Typed MadeOf is_done has_row rest Clean suits EachRowOnce
    answer-sound r o x c d to a t dn =
        let X = request_response r o x c d in
        let p2 = advance p r done in
        let u = row_typed X a in
        let e1 = rest-served p r o x c d to t in
        let fd = done-finished d p dn in
        let k : Typed q (answering r o c (rest p d)) h.well.env u.0 = subst (λ (z : Behaviour). Typed q z h.well.env u.0) e1 u.1 in
        let ed = finished-same q (rest p d) h.well.env u.0 fd k.1 in
        let g = reply-gives q S.tree u.0 c o.reply h.good (subst (λ (z : Types). Subtypes (own_types S.tree) z) ed h.well.fit) k.2 in
        let od = once-at a once_b in
        let cx = clean_at a h.clean in
        let same = advance-below p r done d od.0 in
        let sx = of_two N rows (undone_done_or_received N rows (p r)) (suits N rows p d) (suits-at N rows a once_b h.suit) in (
          g,
          changed-sound X a S.tree p2
              (advanced X r done S.tree (λ i z. in-own i r (has_row i d) z) (λ z. subst (λ (s : Progress). T (unless_done s false true)) t z)
              (λ i z w. let v = open-below p X B i once_b a h.opened z w in quiet-served p v.1 w dn v.2) (λ z. absurd z)
              (λ to2 z. absurd (done-received z))
              ((λ z. undone-done (p2 r) (advance-here p r done) z), clean-same d p p2 same cx.1)
              (and_i (undone_done_or_received N rows (p2 r)) (suits N rows p2 d)
              (subst (λ (s : Progress). T (undone_done_or_received N rows s)) (sym (advance-here p r done)) tt)
              (subst T (suits-same N rows d p p2 same) sx.1))
              h.good (answering r o c (rest p d)) (nil r) e1
              (ap (λ (s : Progress). unless_done s (unless_received s X (answering r o c (rest p2 d))) (nil r)) (advance-here p r done)) (answers fd))
              S.queue h.few h.queued,
        )

    -- Local: if. Its condition is a bool, and either side may be taken.
    if-taken : (r : ℕ) (e : Expression) (x y : Behaviour) → Reaches p (if_then_else r e x y) B → p r ≡ undone → (k : ℕ) (L2 : Behaviour) → T (ltb k 2)
        → ((p2 : Progresses) → p2 r ≡ taken k → Fresh p2 x → Fresh p2 y → rest p2 (if_then_else r e x y) ≡ L2)
        → Leaf S.tree (if_then_else r e x y) S.tree L2
        → SessionSound N rows q n (with_progress S (advance p r (taken k)))
    unfolding is_done has_row rest Clean suits EachRowOnce
    if-taken r e x y a t k L2 small e2 lf =
        let X = if_then_else r e x y in
        let p2 = advance p r (taken k) in
        let od = once-at a once_b in
        let cx = clean_at a h.clean in
        let sx = advance-below p r (taken k) x od.0 in
        let sy = advance-below p r (taken k) y od.1 in
        let fx : Fresh p2 x = λ i u. sym (sx i u) ∙ cx.0 t i u in
        let fy : Fresh p2 y = λ i u. sym (sy i u) ∙ cx.1 t i u in
        changed-sound X a S.tree p2
        (advanced X r (taken k) S.tree (λ i z. in-own i r (has_row i x || has_row i y) z) (λ z. if-undone p r e x y t z)
        (λ i z w. or_case (eqb i r) (has_row i x || has_row i y) (λ v. v)
        (or_case (has_row i x) (has_row i y) (λ v. absurd (undone-open (p i) (cx.0 t i v) w)) (λ v. absurd (undone-open (p i) (cx.1 t i v) w))) z)
        (λ z. absurd z) (λ to z. absurd (taken-received z))
        ((λ z. fx), (λ z. fy), clean-fresh x p2 fx, clean-fresh y p2 fy)
        (three N rows (undone_or_taken 2 (p2 r)) (suits N rows p2 x) (suits N rows p2 y)
        (subst (λ (s : Progress). T (undone_or_taken 2 s)) (sym (advance-here p r (taken k))) small)
        (suits-fresh N rows x p2 fx) (suits-fresh N rows y p2 fy))
        h.good X L2 (ap (λ (s : Progress). unless_taken s X (λ j. then_or_else j (rest p x) (rest p y))) t) (e2 p2 (advance-here p r (taken k)) fx fy) lf)
        S.queue h.few h.queued

    pub if-sound : (r : ℕ) (e : Expression) (x y : Behaviour) → Reaches p (if_then_else r e x y) B → p r ≡ undone
        → GivesBool (evaluate S.tree e)
        × SessionSound N rows q n (with_progress S (advance p r (taken 0))) × SessionSound N rows q n (with_progress S (advance p r (taken 1)))
    unfolding Typed MadeOf rest EachRowOnce
    if-sound r e x y a t =
        let X = if_then_else r e x y in
        let u = row_typed X a in
        let e1 = ap (λ (s : Progress). unless_taken s X (λ j. then_or_else j (rest p x) (rest p y))) t in
        let k : Typed q X h.well.env u.0 = subst (λ (z : Behaviour). Typed q z h.well.env u.0) e1 u.1 in
        let g = condition-gives q S.tree h.well.env e h.good (made_at N rows a made_b).1 h.well.fit k.0 in
        let od = once-at a once_b in (
          g,
          if-taken r e x y a t 0 x tt (λ p2 s fx fy. rest_then p2 r e x y s ∙ rest-fresh x p2 fx) takes_then,
          if-taken r e x y a t 1 y tt (λ p2 s fx fy. rest-else p2 r e x y 0 s ∙ rest-fresh y p2 fy) takes_else,
        )

    -- Local: while, for the first time or again: `before` is what its rest is.
    while-both : (r : ℕ) (e : Expression) (b : Behaviour) → Reaches p (while_do r e b) B → (T (is_done p (while_do r e b)) → ⊥)
        → ((i : ℕ) → T (has_row i (while_do r e b)) → T (is_open (p i)) → T (eqb i r)) → (L : Behaviour) → rest p (while_do r e b) ≡ L
        → Leaf S.tree L S.tree (sequence r b (while_do r e b)) → Leaf S.tree L S.tree (nil r)
        → SessionSound N rows q n (with_progress S (advance (reopen p b) r (taken 0))) × SessionSound N rows q n (with_progress S (advance p r done))
    unfolding is_done has_row rest Clean suits EachRowOnce
    while-both r e b a nd only L e1 enter leave =
        let X = while_do r e b in
        let p2 = advance (reopen p b) r (taken 0) in
        let p3 = advance p r done in
        let od = once-at a once_b in
        let cx = clean_at a h.clean in
        let fr = again-fresh p r b od.0 in
        let same = advance-below p r done b od.0 in
        let sx = of_two N rows (undone_done_or_body (p r)) (suits N rows p b) (suits-at N rows a once_b h.suit) in
        let none_open : (i : ℕ) → T (has_row i X) → T (is_open (p2 i)) → ⊥ = λ i z w.
        or_case (eqb i r) (has_row i b) (λ v. subst (λ (s : Progress). T (is_open s)) (advance-at (reopen p b) r (taken 0) i v) w)
        (λ v. undone-open (p2 i) (fr i v) w) z in
        let back : (i : ℕ) (to : Destination) → p2 i ≡ received to → AnswersAt N B i to = λ i to g.
        by_bool (has_row i X) (λ z. absurd (none_open i z (subst (λ (s : Progress). T (is_open s)) (sym g) tt)))
        (λ z. h.replies i to (again-off p r e b i z ∙ g)) in (
          changed-sound X a S.tree p2
              (record {
                undone_before = nd;
                off = again-off p r e b;
                clean = clean-fresh b p2 fr;
                suit = and_i (undone_done_or_body (p2 r)) (suits N rows p2 b)
                    (subst (λ (s : Progress). T (undone_done_or_body s)) (sym (advance-here (reopen p b) r (taken 0))) tt)
                    (suits-fresh N rows b p2 fr);
                opens = λ i z w. absurd (none_open i z w);
                replies = back;
                good = h.good;
                before = L;
                after = sequence r b X;
                is_before = e1;
                is_after = rest-loop p2 r e b 0 (advance-here (reopen p b) r (taken 0)) ∙ ap (λ (z : Behaviour). sequence r z X) (rest-fresh b p2 fr);
                leaf = enter;
              })
              S.queue h.few h.queued,
          changed-sound X a S.tree p3
              (advanced X r done S.tree (λ i z. in-own i r (has_row i b) z) nd only (λ z. absurd z) (λ to z. absurd (done-received z))
              (clean-same b p p3 same cx)
              (and_i (undone_done_or_body (p3 r)) (suits N rows p3 b) (subst (λ (s : Progress). T (undone_done_or_body s)) (sym (advance-here p r done)) tt)
              (subst T (suits-same N rows b p p3 same) sx.1))
              h.good L (nil r) e1
              (ap (λ (s : Progress). unless_done s (unless_taken s X (λ j. sequence r (rest p3 b) X)) (nil r)) (advance-here p r done)) leave)
              S.queue h.few h.queued,
        )

    pub while-sound : (r : ℕ) (e : Expression) (b : Behaviour) → Reaches p (while_do r e b) B → p r ≡ undone
        → GivesBool (evaluate S.tree e)
        × SessionSound N rows q n (with_progress S (advance (reopen p b) r (taken 0))) × SessionSound N rows q n (with_progress S (advance p r done))
    unfolding Typed MadeOf rest is_done
    while-sound r e b a t =
        let X = while_do r e b in
        let u = row_typed X a in
        let e1 = ap (λ (s : Progress). unless_done s (unless_taken s X (λ j. sequence r (rest p b) X)) (nil r)) t in
        let k : Typed q X h.well.env u.0 = subst (λ (z : Behaviour). Typed q z h.well.env u.0) e1 u.1 in
        let g = condition-gives q S.tree h.well.env e h.good (made_at N rows a made_b).1 h.well.fit k.0 in
        let w = while-both r e b a (λ z. undone-not-done (p r) t z)
        (λ i z o. let v = open-below p X B i once_b a h.opened z o in absurd (quiet-first p v.1 t v.2)) X e1 enters leaves in
        (g, w.0, w.1)

    pub again-sound : (r : ℕ) (e : Expression) (b : Behaviour) (j : ℕ) → Reaches p (while_do r e b) B → p r ≡ taken j → T (is_done p b)
        → GivesBool (evaluate S.tree e)
        × SessionSound N rows q n (with_progress S (advance (reopen p b) r (taken 0))) × SessionSound N rows q n (with_progress S (advance p r done))
    unfolding Typed MadeOf is_done
    again-sound r e b j a t dn =
        let X = while_do r e b in
        let u = row_typed X a in
        let e1 = rest-loop p r e b j t in
        let fd = done-finished b p dn in
        let k : Typed q (sequence r (rest p b) X) h.well.env u.0 = subst (λ (z : Behaviour). Typed q z h.well.env u.0) e1 u.1 in
        let ed = finished-same q (rest p b) h.well.env k.0 fd k.1 in
        let g = condition-gives q S.tree k.0 e h.good (made_at N rows a made_b).1
        (subst (λ (z : Types). Subtypes (own_types S.tree) z) ed h.well.fit) k.2.0 in
        let w = while-both r e b a (λ z. subst (λ (s : Progress). T (unless_done s false true)) t z)
        (λ i z o. let v = open-below p X B i once_b a h.opened z o in absurd (quiet-while p v.1 o dn v.2)) (sequence r (rest p b) X) e1
        (reenters fd) (ends fd) in
        (g, w.0, w.1)

    -- A choice settled for its branch k, whose input then receives.
    pub select-sound : (c k : ℕ) (m : Branches) → Reaches p (choice c m) B → p c ≡ undone → T (ltb k (branches m))
        → SessionSound N rows q n (with_progress S (advance p c (taken k)))
    unfolding is_done has_row rest Clean suits EachRowOnce
    select-sound c k m a t small =
        let X = choice c m in
        let p2 = advance p c (taken k) in
        let od = once-at a once_b in
        let cx = clean_at a h.clean in
        let none = cx.0 (undone-untaken (p c) t) in
        let fr : FreshBranches p2 m = λ i u. sym (advance-below-branches p c (taken k) m od.0 i u) ∙ none i u in
        changed-sound X a S.tree p2
        (advanced X c (taken k) S.tree (λ i z. in-own i c (has_row_in i m) z) (choice-undone p c m t)
        (λ i z w. or_case (eqb i c) (has_row_in i m) (λ v. v) (λ v. absurd (undone-open (p i) (none i v) w)) z) (λ z. absurd z)
        (λ to z. absurd (taken-received z))
        ((λ z. fr), clean-fresh-branches m p2 fr)
        (and_i (undone_or_taken (branches m) (p2 c)) (suits_branches N rows p2 m)
        (subst (λ (s : Progress). T (undone_or_taken (branches m) s)) (sym (advance-here p c (taken k))) small)
        (suits-fresh-branches N rows m p2 fr))
        h.good X (branch_at k m) (ap (λ (s : Progress). unless_taken s X (λ j. branch_rest p j m)) t)
        (rest-branch p2 c m k (advance-here p c (taken k)) ∙ rest-fresh (branch_at k m) p2
        (λ i u. fr i (branch-rows m k i u))) (selects k))
        S.queue h.few h.queued

    -- A message more in the queue.
    pub queue-sound : (m : Queued) → QueuedSound N rows q m → length S.queue < 4 → SessionSound N rows q n (with_queue S (S.queue ++ (m ∷ [])))
    queue-sound m k few =
        record {
          what = h.what;
          runs = h.runs;
          last = h.last;
          limit = h.limit;
          clean = h.clean;
          suit = h.suit;
          quiet = h.quiet;
          opened = h.opened;
          replies = h.replies;
          good = h.good;
          well = h.well;
          few = queue-longer S.queue m 3 (omega arith);
          queued = queue-added N rows q S.queue m h.queued k;
        }

-- The key has no part in it.
pub with-key-sound : (N : Network) (rows q n : ℕ) (S : Session) (x : ℕ) → SessionSound N rows q n S → SessionSound N rows q n (with_key S x)
with-key-sound N rows q n S x h = record {
  what = h.what;
  runs = h.runs;
  last = h.last;
  limit = h.limit;
  clean = h.clean;
  suit = h.suit;
  quiet = h.quiet;
  opened = h.opened;
  replies = h.replies;
  good = h.good;
  well = h.well;
  few = h.few;
  queued = h.queued;
}
