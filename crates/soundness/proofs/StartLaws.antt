-- A session begins sound: a client with nothing done, or a starter with one branch taken, before its input receives.
use Rattle.std.specs.Prelude.{◌≡◌, refl, ℕ, suc, ◌+◌, Bool, [], eqb, ltb}
use Rattle.std.proofs.Math.Path.{sym, subst}
use Rattle.std.proofs.Common.{ap, ◌∙◌, arith, lt→ltb}
use Rattle.std.proofs.Math.Bool.{true, false}
use Rattle.std.proofs.Math.Dec.{T}
use Rattle.tree_forest.specs.Forest.{end, measure}
use Rattle.basics.specs.Choice.{pick}
use Rattle.basics.specs.TestLaws.{and_i}
use Rattle.network_syntax.specs.Syntax.{Mark, Types, Optional, none, some, Network, Behaviour, sequence, choice, Branches, last_branch, branch}
use Rattle.network_syntax.specs.Rows.{has_row, has_row_in, Input, input_of, from_input}
use Rattle.network_syntax.specs.ViewLaws.{input-is}
use Rattle.network.specs.Shapes.{EachRowOnce}
use Rattle.check_subtyping.proofs.OwnLaws.{own-end}
use Rattle.check_typing.specs.Environment.{within}
use Rattle.check_typing.specs.Rules.{Derives, WellSorted}
use Rattle.check_typing.specs.Typed.{Typed}
use Rattle.check_typing.proofs.DerivesLaws.{derives-typed, derives-within}
use Rattle.check_typing.proofs.NetworkLaws.{end-rising}
use Rattle.state.specs.Session.{Destination, Progress, Progresses, undone, received, taken, advance, new_session, with_progress}
use Rattle.state.specs.Shape.{behaviour_in, undone_or_taken, branches, suits, suits_branches}
use Rattle.move_rules.specs.Readiness.{rest}
use Rattle.move_rules.specs.Targets.{Target, no_target, queue_full, queued, starts, start_by, start_from}
use Rattle.soundness.proofs.GoodTreesLaws.{good-end}
use Rattle.soundness.specs.Parts.{branch_at, FreshBranches, Clean}
use Rattle.soundness.proofs.RowLaws.{in-own, branch-rows, rest-fresh, rest-branch}
use Rattle.soundness.proofs.CleanLaws.{clean-fresh, clean-fresh-branches, untaken-taken, suits-fresh, suits-fresh-branches}
use Rattle.soundness.proofs.ReachLaws.{lt-suc}
use Rattle.soundness.specs.Parts.{is_open}
use Rattle.soundness.specs.Accepted.{Accepted}
use Rattle.soundness.proofs.MadeLaws.{made-sorted, branch-sorted}
use Rattle.soundness.specs.Invariant.{AllQueued, SessionSound}
use Rattle.soundness.proofs.SessionLaws.{advance-here, advance-apart, advance-below-branches, once-of, made_of}

-- The empty environment.
within_end : T (within {A = Mark} end)
unfolding measure
within_end = tt

none-received : {to : Destination} {X : Type 0} → undone ≡ received to → X
none-received e = absurd (let z : ◌≡◌ {A = ℕ} 0 1 = cc in omega arith)

taken-is-received : {k : ℕ} {to : Destination} {X : Type 0} → taken k ≡ received to → X
taken-is-received e = absurd (let z : ◌≡◌ {A = ℕ} 0 1 = cc in omega arith)

-- Which branch a message starts.
pub record StartedBy (w c k : ℕ) (i : Input) (n : ℕ) (m : Branches) : Type 0 where
  pub ahead : ℕ
  pub number : k ≡ n + ahead
  pub inside : T (ltb ahead (branches m))
  pub label : ℕ
  pub after : Behaviour
  pub is_branch : branch_at ahead m ≡ sequence label (from_input i) after
  pub named : T (eqb i.operation.row w)

abbrev pub FoundStart : ℕ → ℕ → ℕ → Branches → Target → Type 0
FoundStart w c n m no_target = Unit {0}
FoundStart w c n m queue_full = ⊥
FoundStart w c n m queued = ⊥
FoundStart w c n m (starts d k i) = (c ≡ d) × StartedBy w c k i n m

start-found : (P : Target → Type 0) (w c k : ℕ) (a : Behaviour) (l : Target)
    → ((i : Input) → a ≡ from_input i → T (eqb i.operation.row w) → P (starts c k i)) → P l → P (start_by w c k (input_of a) l)
start-found P w c k a l f g = seen (input_of a) refl
  where
    chosen : (i : Input) → a ≡ from_input i → (b : Bool) → eqb i.operation.row w ≡ b → P (pick b (starts c k i) l)
    chosen i e true t = f i e (subst T (sym t) tt)
    chosen i e false t = g

    seen : (i : Optional Input) → input_of a ≡ i → P (start_by w c k i l)
    seen none e = g
    seen (some i) e = chosen i (input-is a i e) (eqb i.operation.row w) refl

further : (w c n r : ℕ) (a b : Behaviour) (m : Branches) (l : Target) → FoundStart w c (suc n) m l → FoundStart w c n (branch r a b m) l
unfolding branch_at branches
further w c n r a b m no_target g = tt
further w c n r a b m queue_full g = absurd g
further w c n r a b m queued g = absurd g
further w c n r a b m (starts d k x) g = (
  g.0,
  record {
    ahead = suc g.1.ahead;
    number = next g.1.ahead g.1.number;
    inside = lt-suc g.1.ahead (branches m) g.1.inside;
    label = g.1.label;
    after = g.1.after;
    is_branch = g.1.is_branch;
    named = g.1.named;
  },
)
  where
    next : (j : ℕ) → k ≡ suc n + j → k ≡ n + suc j
    next j e = omega arith

pub start_from-found : (w c : ℕ) (m : Branches) (n : ℕ) → FoundStart w c n m (start_from w c n m)
unfolding start_from branch_at branches
start_from-found w c (last_branch r a b) n =
    start-found (FoundStart w c n (last_branch r a b)) w c n a no_target
    (λ i e t. (
      refl,
      record { ahead = 0; number = omega arith; inside = tt; label = r; after = b; is_branch = ap (λ (z : Behaviour). sequence r z b) e; named = t },
    )) tt
start_from-found w c (branch r a b m) n =
    start-found (FoundStart w c n (branch r a b m)) w c n a (start_from w c (suc n) m)
    (λ i e t. (
      refl,
      record {
        ahead = 0;
        number = omega arith;
        inside = lt→ltb 0 (suc (branches m)) (omega arith);
        label = r;
        after = b;
        is_branch = ap (λ (z : Behaviour). sequence r z b) e;
        named = t;
      },
    ))
    (further w c n r a b m (start_from w c (suc n) m) (start_from-found w c m (suc n)))

module _ (N : Network) (rows : ℕ) (acc : Accepted N rows) where
  typed-from-end : (q : ℕ) (B : Behaviour) (Δ : Types) → WellSorted B → Derives q B end Δ → Typed q B end Δ
  typed-from-end q B Δ w d = derives-typed q B end Δ w end-rising d

  pub client-sound : (q : ℕ) (B : Behaviour) → behaviour_in N q 0 ≡ some B → SessionSound N rows q 0 new_session
  unfolding AllQueued
  client-sound q B e =
      let c = acc.clients q B e in
      let ws = made-sorted N rows acc B (made_of N rows acc q 0 B e) in
      let u : Progresses = λ i. undone in
      record {
        what = B;
        runs = e;
        last = c.0;
        limit = derives-within q B end c.0 within_end c.1;
        clean = clean-fresh B u (λ i t. refl);
        suit = suits-fresh N rows B u (λ i t. refl);
        quiet = λ r f. refl;
        opened = λ i t g. absurd g;
        replies = λ i to g. none-received g;
        good = good-end;
        well = record {
          env = end;
          rising = end-rising;
          fit = own-end;
          typed = subst (λ (z : Behaviour). Typed q z end c.0) (sym (rest-fresh B u (λ i t. refl))) (typed-from-end q B c.0 ws c.1);
        };
        few = omega arith;
        queued = tt;
      }

  -- A starter with the branch k taken.
  pub start-sound : (q n c k : ℕ) (m : Branches) → behaviour_in N q (suc n) ≡ some (choice c m) → T (ltb k (branches m))
      → ((k2 : ℕ) → (Δ : Types) × Derives q (branch_at k2 m) end Δ)
      → SessionSound N rows q (suc n) (with_progress new_session (advance (λ i. undone) c (taken k)))
  unfolding AllQueued Clean suits EachRowOnce has_row WellSorted
  start-sound q n c k m e small d =
      let X = choice c m in
      let u : Progresses = λ i. undone in
      let p : Progresses = advance (λ i. undone) c (taken k) in
      let on = once-of N rows acc q (suc n) X e in
      let ws = made-sorted N rows acc X (made_of N rows acc q (suc n) X e) in
      let fr : FreshBranches p m = λ i t. sym (advance-below-branches u c (taken k) m on.0 i t) in
      let er : rest p X ≡ branch_at k m =
      rest-branch p c m k (advance-here u c (taken k)) ∙ rest-fresh (branch_at k m) p (λ i t. fr i (branch-rows m k i t)) in
      record {
        what = X;
        runs = e;
        last = (d k).0;
        limit = derives-within q (branch_at k m) end (d k).0 within_end (d k).1;
        clean = ((λ z. untaken-taken (p c) (advance-here u c (taken k)) z), clean-fresh-branches m p fr);
        suit = and_i (undone_or_taken (branches m) (p c)) (suits_branches N rows p m)
            (subst (λ (s : Progress). T (undone_or_taken (branches m) s)) (sym (advance-here u c (taken k))) small)
            (suits-fresh-branches N rows m p fr);
        quiet = λ r f. sym (advance-apart u c (taken k) r (λ t. f (in-own r c (has_row_in r m) t)));
        opened = λ i t g. absurd (none_open i g);
        replies = λ i to g. absurd (none_open i (subst (λ (s : Progress). T (is_open s)) (sym g) tt));
        good = good-end;
        well = record {
          env = end;
          rising = end-rising;
          fit = own-end;
          typed = subst (λ (z : Behaviour). Typed q z end (d k).0) (sym er) (typed-from-end q (branch_at k m) (d k).0 (branch-sorted m k ws) (d k).1);
        };
        few = omega arith;
        queued = tt;
      }
    where
      pick-open : (b : Bool) → T (is_open (pick b (taken k) undone)) → ⊥
      pick-open true t = t
      pick-open false t = t

      none_open : (i : ℕ) → T (is_open (advance (λ j. undone) c (taken k) i)) → ⊥
      none_open i t = pick-open (eqb i c) t
