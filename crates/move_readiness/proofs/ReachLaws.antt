-- Laws of reached rows: `reach` of a row by the rows through which it is passed, and one law for each way out of the functions.
use Prim.Native.Nat.{ℕ, zero, suc, ◌+◌, ◌-◌, ◌<◌, ◌≤◌, ◌*◌}
use mathlib.Core.Path.{◌≡◌, refl, sym, ◌∙◌, ap, subst}
use mathlib.Core.List.{List}
use mathlib.Core.Bool.{Bool, true, false}
use native.Mathlib.Omega.{arith}
use lib.Dec.{eqb}
use borrow.Author.Tests.{eq-eqb, ne_eqb}
use Rattle.basics.specs.Choice.{pick}
use Rattle.basics.specs.TestLaws.{one_less}
use Rattle.network_syntax.specs.Syntax.{Behaviour}
use Rattle.network.specs.Form.{WellFormed}
use Rattle.network.specs.Layout.{behaviour_at}
use Rattle.network.specs.Rows.{field_a, field_b}
use Rattle.network.specs.Decode.{branches_from, behaviour_of}
use Rattle.network.proofs.RowLaws.{next-at}
use Rattle.network.proofs.BehaviourLaws.{row-of}
use Rattle.network_rows.specs.declared.BehaviourRow.{BehaviourRow}
use Rattle.network_rows.specs.declared.BranchRow.{BranchRow}
use Rattle.network_rows.specs.Readers.{behaviour_row_of, BranchAt}
use Rattle.state.specs.Session.{Progress, undone, done, waits, received, taken, Progresses}
use Rattle.move_rules.specs.Readiness.{unless_received, unless_taken, then_or_else, is_done, unreached, reached, offered, here, or_else, only_if, offered_if, offer, reach, reach_branch, served}
use Rattle.move_rules.specs.Readiness as moves
use Rattle.network_row_parts.specs.Behaviours.{behaviour_by, Sub, BranchSubs, KeptBy}
use Rattle.network_row_parts.specs.KindLaws.{row_is}
use Rattle.move_readiness.specs.declared.Ways.{Ways}
use Rattle.move_readiness.specs.declared.Reached.{Reached}
use Rattle.move_readiness.specs.Parts.{branch_row_at, in_order, branch_ways, ways_in, ways_of}
use Rattle.move_readiness.specs.Reaching.{reached_as, in_branches, Offers, ReachesReceived, ReachesServed, ReachesInputs, ReachesRow}
use Rattle.move_readiness.proofs.DoneLaws.{clipped, clipped-inside, first-of-one, first-of-many, next-of-many}

-- ---- inputs of a choice

offer-branch : (s : List ℕ) (c k i j n : ℕ) → offer c k i (branches_from s (behaviour_of s) j (suc n))
    ≡ offered_if (eqb i (field_a s (behaviour_at s j))) c k (behaviour_of s (field_a s (behaviour_at s j)))
    (in_branches n (offer c (suc k) i (branches_from s (behaviour_of s) (suc j) n)))
unfolding offer branches_from
offer-branch s c k i j zero = rw (row-of s (field_a s (behaviour_at s j))) refl
offer-branch s c k i j (suc n) = rw (row-of s (field_a s (behaviour_at s j))) refl

module _ (s : List ℕ) (c k i at n : ℕ) (h : n ≡ 0 → ⊥) {b : BranchRow} (e : BranchAt s at b) where
  branch-input : (j : ℕ) → at ≡ behaviour_at s j → field_a s (behaviour_at s j) ≡ b.input
  branch-input j g = sym (e.input ∙ ap (field_a s) g)

  abbrev later : ℕ → moves.Reached
  later j = in_branches (n - 1) (offer c (suc k) i (branches_from s (behaviour_of s) (suc j) (n - 1)))

  offer-more : (j : ℕ) → at ≡ behaviour_at s j → in_branches n (offer c k i (branches_from s (behaviour_of s) j n))
      ≡ offered_if (eqb i b.input) c k (behaviour_of s b.input) (later j)
  offer-more j g =
      ap (λ (m : ℕ). in_branches m (offer c k i (branches_from s (behaviour_of s) j m))) (one_less n h) ∙ offer-branch s c k i j (n - 1)
      ∙ ap (λ (m : ℕ). offered_if (eqb i m) c k (behaviour_of s m) (later j)) (branch-input j g)

  pub offer-here : i ≡ b.input → Offers s c k i at n (Reached.Offered c k b.input)
  offer-here f = record { tells = λ j g. sym (offer-more j g ∙ rw (eq-eqb i b.input f) refl) }

-- None of the inputs of the first k branches is i.
pub record Unoffered (s : List ℕ) (c i at n k : ℕ) : Type 0 where
  pub bound : k ≤ n
  pub tells : (j : ℕ) → at ≡ behaviour_at s j → in_branches n (offer c 0 i (branches_from s (behaviour_of s) j n))
      ≡ in_branches (n - k) (offer c k i (branches_from s (behaviour_of s) (j + k) (n - k)))

pub unoffered-none : (s : List ℕ) (c i at n : ℕ) → Unoffered s c i at n 0
unoffered-none s c i at n = record {
  bound = omega arith;
  tells = λ j g.
      let e : j ≡ j + 0 = omega arith in
      let d : n ≡ n - 0 = omega arith in
      ap (λ (m : ℕ). in_branches n (offer c 0 i (branches_from s (behaviour_of s) m n))) e
      ∙ ap (λ (m : ℕ). in_branches m (offer c 0 i (branches_from s (behaviour_of s) (j + 0) m))) d;
}

at-branch : (s : List ℕ) {at p : ℕ} (j k : ℕ) → p ≡ at + 10 * k → at ≡ behaviour_at s j → p ≡ behaviour_at s (j + k)
unfolding behaviour_at
at-branch s j k e g = omega (arith, e, g)

module _ (s : List ℕ) (c i at n k : ℕ) (d : Unoffered s c i at n k) where
  module _ {b : BranchRow} {p : ℕ} (l : k < n) (e : BranchAt s p b) (f : p ≡ at + 10 * k) where
    some-left : n - k ≡ 0 → ⊥
    some-left z = omega arith

    pub unoffered-here : i ≡ b.input → Offers s c 0 i at n (Reached.Offered c k b.input)
    unoffered-here h = record {
      tells = λ j g. (offer-here s c k i p (n - k) some-left e h).tells (j + k) (at-branch s j k f g) ∙ sym (d.tells j g);
    }

    pub unoffered-next : (i ≡ b.input → ⊥) → Unoffered s c i at n (k + 1)
    unoffered-next h = record {
      bound = omega arith;
      tells = λ j g.
          let q : suc (j + k) ≡ j + (k + 1) = omega arith in
          let r : n - k - 1 ≡ n - (k + 1) = omega arith in
          let u : suc k ≡ k + 1 = omega arith in
          let next = later s c k i p (n - k) some-left e (j + k) in
          let o = behaviour_of s b.input in
          d.tells j g ∙ (offer-more s c k i p (n - k) some-left e (j + k) (at-branch s j k f g)
          ∙ (ap (λ (t : Bool). offered_if t c k o next) (ne_eqb i b.input h)
          ∙ (ap (λ (m : ℕ). in_branches (n - k - 1) (offer c m i (branches_from s (behaviour_of s) (suc (j + k)) (n - k - 1)))) u
          ∙ (ap (λ (m : ℕ). in_branches (n - k - 1) (offer c (k + 1) i (branches_from s (behaviour_of s) m (n - k - 1)))) q
          ∙ ap (λ (m : ℕ). in_branches m (offer c (k + 1) i (branches_from s (behaviour_of s) (j + (k + 1)) m))) r))));
    }

  pub unoffered-all : n ≤ k → Offers s c 0 i at n Reached.Unreached
  unoffered-all l = record {
    tells = λ j g.
        let z : n - k ≡ 0 = omega arith in
        sym (d.tells j g ∙ ap (λ (m : ℕ). in_branches m (offer c k i (branches_from s (behaviour_of s) (j + k) (n - k)))) z);
  }

-- ---- a row

-- What is reached through the ways of row r.
module _ (s : List ℕ) (p : Progresses) (i : ℕ) where
  abbrev through : ℕ → moves.Reached
  through a = reach p i (behaviour_of s a)

  abbrev passing : ℕ → Ways → moves.Reached
  passing r Ways.Nowhere = unreached
  passing r (Ways.One a) = through a
  passing r (Ways.Two a b) = or_else (through a) (through b)
  passing r (Ways.Inputs first n) = or_else (offer r 0 i (branches_from s (behaviour_of s) first n)) (served p i (branches_from s (behaviour_of s) first n))

  or-none : (x : moves.Reached) → or_else x unreached ≡ x
  or-none unreached = refl
  or-none (reached b) = refl
  or-none (offered c k b) = refl

  order-by : (r a b : ℕ) (t : Bool) → or_else (through a) (only_if t (through b)) ≡ passing r (pick t (Ways.Two a b) (Ways.One a))
  order-by r a b true = refl
  order-by r a b false = or-none (through a)

  order-passes : (r a b : ℕ) → or_else (through a) (only_if (is_done p (behaviour_of s a)) (through b)) ≡ passing r (in_order s p a b)
  unfolding in_order
  order-passes r a b = order-by r a b (is_done p (behaviour_of s a))

  the_ways : (first n k j : ℕ) → (n ≡ 0 → ⊥) → first + clipped n k ≡ j
      → branch_ways s p first n k ≡ in_order s p (field_a s (behaviour_at s j)) (field_b s (behaviour_at s j))
  unfolding branch_ways branch_row_at
  the_ways first n k j h e = rw (ne_eqb n 0 h, e) refl

  branch-passes : (r first n k : ℕ) → (n ≡ 0 → ⊥) → reach_branch p k i (branches_from s (behaviour_of s) first n) ≡ passing r (branch_ways s p first n k)
  unfolding branches_from reach_branch
  branch-passes r first zero k h = absurd (h refl)
  branch-passes r first (suc zero) k h =
      order-passes r (field_a s (behaviour_at s first)) (field_b s (behaviour_at s first))
      ∙ ap (passing r) (sym (the_ways first 1 k first h (first-of-one first k)))
  branch-passes r first (suc (suc n)) zero h =
      order-passes r (field_a s (behaviour_at s first)) (field_b s (behaviour_at s first))
      ∙ ap (passing r) (sym (the_ways first (suc (suc n)) 0 first h (first-of-many first n)))
  branch-passes r first (suc (suc n)) (suc k) h =
      let j = suc first + clipped (suc n) k in
      branch-passes r (suc first) (suc n) k (λ e. omega arith)
      ∙ ap (passing r) (the_ways (suc first) (suc n) k j (λ e. omega arith) refl ∙ sym (the_ways first (suc (suc n)) (suc k) j h (next-of-many first n k)))

  taken-passes : (r : ℕ) (q : Progress) (x : moves.Reached) (w : Ways) (f : ℕ → moves.Reached) (g : ℕ → Ways) → x ≡ passing r w
      → ((j : ℕ) → f j ≡ passing r (g j))
      → unless_taken q x f ≡ passing r (unless_taken q w g)
  taken-passes r undone x w f g e h = e
  taken-passes r done x w f g e h = e
  taken-passes r waits x w f g e h = e
  taken-passes r (received to) x w f g e h = e
  taken-passes r (taken j) x w f g e h = h j

  part-passes : (r a b j : ℕ) → then_or_else j (through a) (through b) ≡ passing r (then_or_else j (Ways.One a) (Ways.One b))
  part-passes r a b zero = refl
  part-passes r a b (suc j) = refl

  received-passes : (r d : ℕ) (q : Progress) → unless_received q unreached (through d) ≡ passing r (unless_received q Ways.Nowhere (Ways.One d))
  received-passes r d undone = refl
  received-passes r d done = refl
  received-passes r d waits = refl
  received-passes r d (received to) = refl
  received-passes r d (taken k) = refl

  row-passes : (left r : ℕ) (y : BehaviourRow) → KeptBy s left y
      → reach p i (behaviour_by s r y) ≡ here (eqb i r) (behaviour_by s r y) (passing r (ways_in s p r y))
  unfolding reach ways_in
  row-passes left r BehaviourRow.Nil k = refl
  row-passes left r (BehaviourRow.OneWay o x) k = refl
  row-passes left r (BehaviourRow.RequestResponse o x c d) k =
      ap (here (eqb i r) (behaviour_by s r (BehaviourRow.RequestResponse o x c d))) (received-passes r d (p r))
  row-passes left r (BehaviourRow.Notification o e) k = refl
  row-passes left r (BehaviourRow.SolicitResponse o e x) k = refl
  row-passes left r (BehaviourRow.If e a b) k =
      ap (here (eqb i r) (behaviour_by s r (BehaviourRow.If e a b)))
      (taken-passes r (p r) unreached Ways.Nowhere (λ j. then_or_else j (through a) (through b)) (λ j. then_or_else j (Ways.One a) (Ways.One b)) refl
      (part-passes r a b))
  row-passes left r (BehaviourRow.While e b) k =
      ap (here (eqb i r) (behaviour_by s r (BehaviourRow.While e b)))
      (taken-passes r (p r) unreached Ways.Nowhere (λ j. through b) (λ j. Ways.One b) refl (λ j. refl))
  row-passes left r (BehaviourRow.Sequence a b) k = ap (here (eqb i r) (behaviour_by s r (BehaviourRow.Sequence a b))) (order-passes r a b)
  row-passes left r (BehaviourRow.Parallel a b) k = refl
  row-passes left r (BehaviourRow.Assign x e) k = refl
  row-passes left r (BehaviourRow.Choice first n) k =
      let m = k.0 in
      ap (here (eqb i r) (behaviour_by s r (BehaviourRow.Choice first n)))
      (taken-passes r (p r) (passing r (Ways.Inputs first n)) (Ways.Inputs first n)
      (λ j. reach_branch p j i (branches_from s (behaviour_of s) first n)) (λ j. branch_ways s p first n j) refl (λ j. branch-passes r first n j (λ e. omega arith)))
  row-passes left r (BehaviourRow.Branch a b) k = refl
  row-passes left r BehaviourRow.Unknown k = refl

-- ---- what the ways keep to

abbrev KeptWays : List ℕ → ℕ → Ways → Type 0
KeptWays s left Ways.Nowhere = Unit {0}
KeptWays s left (Ways.One a) = Sub s left a
KeptWays s left (Ways.Two a b) = Sub s left a × Sub s left b
KeptWays s left (Ways.Inputs first n) = (1 ≤ n) × (n ≤ 8) × ((j : ℕ) → first ≤ j → j < first + n → BranchSubs s left j)

taken-kept : (P : Ways → Type 0) (q : Progress) (w : Ways) (g : ℕ → Ways) → P w → ((j : ℕ) → P (g j)) → P (unless_taken q w g)
taken-kept P undone w g a b = a
taken-kept P done w g a b = a
taken-kept P waits w g a b = a
taken-kept P (received to) w g a b = a
taken-kept P (taken j) w g a b = b j

received-kept : (P : Ways → Type 0) (q : Progress) (w v : Ways) → P w → P v → P (unless_received q w v)
received-kept P undone w v a b = a
received-kept P done w v a b = a
received-kept P waits w v a b = a
received-kept P (received to) w v a b = b
received-kept P (taken j) w v a b = a

part-kept : (P : Ways → Type 0) (w v : Ways) → P w → P v → (j : ℕ) → P (then_or_else j w v)
part-kept P w v a b zero = a
part-kept P w v a b (suc j) = b

pick-kept : (P : Ways → Type 0) (t : Bool) (w v : Ways) → P w → P v → P (pick t w v)
pick-kept P true w v a b = a
pick-kept P false w v a b = b

module _ (s : List ℕ) (p : Progresses) (left r : ℕ) where
  order-kept : (a b : ℕ) → Sub s left a → Sub s left b → KeptWays s left (in_order s p a b)
  unfolding in_order
  order-kept a b x y = pick-kept (KeptWays s left) (is_done p (behaviour_of s a)) (Ways.Two a b) (Ways.One a) (x, y) x

  branch_kept : (first n k : ℕ) → 1 ≤ n → ((j : ℕ) → first ≤ j → j < first + n → BranchSubs s left j) → KeptWays s left (branch_ways s p first n k)
  unfolding branch_ways branch_row_at
  branch_kept first n k h b =
      let c = clipped-inside n k h in
      let x = b (first + clipped n k) (omega arith) (omega arith) in
      pick-kept (KeptWays s left) (eqb n 0) Ways.Nowhere
      (in_order s p (field_a s (behaviour_at s (first + clipped n k))) (field_b s (behaviour_at s (first + clipped n k)))) tt
      (order-kept (field_a s (behaviour_at s (first + clipped n k))) (field_b s (behaviour_at s (first + clipped n k))) x.input x.follow)

  ways-kept : (y : BehaviourRow) → KeptBy s left y → KeptWays s left (ways_in s p r y)
  unfolding ways_in
  ways-kept BehaviourRow.Nil k = tt
  ways-kept (BehaviourRow.OneWay o x) k = tt
  ways-kept (BehaviourRow.RequestResponse o x c d) k = received-kept (KeptWays s left) (p r) Ways.Nowhere (Ways.One d) tt k.3
  ways-kept (BehaviourRow.Notification o e) k = tt
  ways-kept (BehaviourRow.SolicitResponse o e x) k = tt
  ways-kept (BehaviourRow.If e a b) k =
      taken-kept (KeptWays s left) (p r) Ways.Nowhere (λ j. then_or_else j (Ways.One a) (Ways.One b)) tt
      (part-kept (KeptWays s left) (Ways.One a) (Ways.One b) k.1 k.2)
  ways-kept (BehaviourRow.While e b) k = taken-kept (KeptWays s left) (p r) Ways.Nowhere (λ j. Ways.One b) tt (λ j. k.1)
  ways-kept (BehaviourRow.Sequence a b) k = order-kept a b k.0 k.1
  ways-kept (BehaviourRow.Parallel a b) k = k
  ways-kept (BehaviourRow.Assign x e) k = tt
  ways-kept (BehaviourRow.Choice first n) k =
      taken-kept (KeptWays s left) (p r) (Ways.Inputs first n) (λ j. branch_ways s p first n j) (k.0, k.2, k.1) (λ j. branch_kept first n j k.0 k.1)
  ways-kept (BehaviourRow.Branch a b) k = tt
  ways-kept BehaviourRow.Unknown k = tt

-- ---- the ways out

-- What is reached goes before anything else.
found-first : (s : List ℕ) (x : Reached) (y : moves.Reached) → (x ≡ Reached.Unreached → ⊥) → or_else (reached_as s x) y ≡ reached_as s x
found-first s Reached.Unreached y h = absurd (h refl)
found-first s (Reached.Reached r) y h = refl
found-first s (Reached.Offered c k r) y h = refl

module _ (s : List ℕ) (p : Progresses) (i r left : ℕ) (h : left ≡ 0 → ⊥) where
  row-reached : WellFormed s → Sub s left r → (reach p i (behaviour_of s r) ≡ here (eqb i r) (behaviour_of s r) (passing s p i r (ways_of s p r)))
      × KeptWays s (left - 1) (ways_of s p r)
  unfolding ways_of
  row-reached w l =
      let y = behaviour_row_of s r in
      let d = row_is s w r (left - 1) (subst (λ (n : ℕ). Sub s n r) (one_less left h) l) {x = y} {y = y} refl refl in (
        ap (reach p i) d.0 ∙ row-passes s p i (left - 1) r y d.1
            ∙ ap (λ (b : Behaviour). here (eqb i r) b (passing s p i r (ways_in s p r y))) (sym d.0),
        ways-kept s p (left - 1) r y d.1,
      )

  pub reach_here : i ≡ r → ReachesRow s p i r left (Reached.Reached r)
  reach_here e = record { tells = λ w l. sym ((row-reached w l).0 ∙ rw (eq-eqb i r e) refl) }

  module _ (e : i ≡ r → ⊥) {v : Ways} (f : v ≡ ways_of s p r) where
    by-ways : {y : Ways} → v ≡ y → WellFormed s → Sub s left r → (reach p i (behaviour_of s r) ≡ passing s p i r y) × KeptWays s (left - 1) y
    by-ways {y} g w l =
        let d = row-reached w l in
        let z = sym f ∙ g in (
          d.0 ∙ rw (ne_eqb i r e) (ap (passing s p i r) z),
          subst (KeptWays s (left - 1)) z d.1,
        )

    pub reach-nowhere : v ≡ Ways.Nowhere → ReachesRow s p i r left Reached.Unreached
    reach-nowhere g = record { tells = λ w l. sym (by-ways g w l).0 }

    pub reach-one : {a : ℕ} {x : Reached} → v ≡ Ways.One a → ReachesRow s p i a (left - 1) x → ReachesRow s p i r left x
    reach-one g o = record { tells = λ w l. let d = by-ways g w l in o.tells w d.1 ∙ sym d.0 }

    -- The first side of two, where it is reached.
    first-side : {a b : ℕ} {x : Reached} (y : moves.Reached) → v ≡ Ways.Two a b → ReachesRow s p i a (left - 1) x → reached_as s x ≡ y
        → WellFormed s → Sub s left r → reach p i (behaviour_of s r) ≡ or_else y (reach p i (behaviour_of s b))
    first-side {a} {b} y g o q w l =
        let d = by-ways g w l in
        d.0 ∙ ap (λ (z : moves.Reached). or_else z (reach p i (behaviour_of s b))) (sym (o.tells w d.1.0) ∙ q)

    pub reach-found : {a b : ℕ} {x : Reached} → v ≡ Ways.Two a b → ReachesRow s p i a (left - 1) x → (x ≡ Reached.Unreached → ⊥)
        → ReachesRow s p i r left x
    reach-found {a} {b} {x} g o q = record {
      tells = λ w l. sym (first-side (reached_as s x) g o refl w l ∙ found-first s x (reach p i (behaviour_of s b)) q);
    }

    pub reach-second : {a b : ℕ} {x y : Reached} → v ≡ Ways.Two a b → ReachesRow s p i a (left - 1) x → x ≡ Reached.Unreached
        → ReachesRow s p i b (left - 1) y → ReachesRow s p i r left y
    reach-second g o q n = record { tells = λ w l. n.tells w (by-ways g w l).1.1 ∙ sym (first-side unreached g o (ap (reached_as s) q) w l) }

    pub reach-inputs : {first n : ℕ} {x : Reached} → v ≡ Ways.Inputs first n → ReachesInputs s p i r first n (left - 1) x → ReachesRow s p i r left x
    reach-inputs g o = record { tells = λ w l. let d = by-ways g w l in o.tells w d.1.0 d.1.1 d.1.2 ∙ sym d.0 }

pub ruleset reach-row-laws = (reach_here, reach-nowhere, reach-one, reach-found, reach-second, reach-inputs)

-- ---- from received inputs down

abbrev received-way : List ℕ → Progresses → ℕ → ℕ → moves.Reached
received-way s p i a = unless_received (p a) unreached (reach p i (behaviour_of s a))

served-branch : (s : List ℕ) (p : Progresses) (i j n : ℕ) → served p i (branches_from s (behaviour_of s) j (suc n))
    ≡ or_else (received-way s p i (field_a s (behaviour_at s j))) (in_branches n (served p i (branches_from s (behaviour_of s) (suc j) n)))
unfolding served branches_from
served-branch s p i j zero = rw (row-of s (field_a s (behaviour_at s j))) (sym (or-none s p i (received-way s p i (field_a s (behaviour_at s j)))))
served-branch s p i j (suc n) = rw (row-of s (field_a s (behaviour_at s j))) refl

module _ (s : List ℕ) (p : Progresses) (i at n left : ℕ) (h : n ≡ 0 → ⊥) {b : BranchRow} (e : BranchAt s at b) {x : Reached}
    (o : ReachesReceived s p i b.input left x) where
  input-is : (j : ℕ) → at ≡ behaviour_at s j → field_a s (behaviour_at s j) ≡ b.input
  input-is j g = sym (e.input ∙ ap (field_a s) g)

  abbrev others : ℕ → moves.Reached
  others j = in_branches (n - 1) (served p i (branches_from s (behaviour_of s) (suc j) (n - 1)))

  first-served : (y : moves.Reached) → reached_as s x ≡ y → WellFormed s → (j : ℕ) → at ≡ behaviour_at s j
      → ((m : ℕ) → j ≤ m → m < j + n → BranchSubs s left m)
      → in_branches n (served p i (branches_from s (behaviour_of s) j n)) ≡ or_else y (others j)
  first-served y q w j g k =
      let l = one_less n h in
      let f : Sub s left b.input = subst (λ (z : ℕ). Sub s left z) (input-is j g) (k j (omega arith) (omega (arith, l))).input in
      ap (λ (m : ℕ). in_branches m (served p i (branches_from s (behaviour_of s) j m))) l ∙ served-branch s p i j (n - 1)
      ∙ ap (λ (m : ℕ). or_else (received-way s p i m) (others j)) (input-is j g)
      ∙ ap (λ (z : moves.Reached). or_else z (others j)) (sym (o.tells w f) ∙ q)

  pub served-found : (x ≡ Reached.Unreached → ⊥) → ReachesServed s p i at n left x
  served-found q = record { tells = λ w j g k. sym (first-served (reached_as s x) refl w j g k ∙ found-first s x (others j) q) }

  pub served-next : {y : Reached} → x ≡ Reached.Unreached → ReachesServed s p i (at + 10) (n - 1) left y → ReachesServed s p i at n left y
  served-next q r = record {
    tells = λ w j g k.
        let l = one_less n h in
        r.tells w (suc j) (ap (λ (y : ℕ). y + 10) g ∙ next-at s j) (λ m u v. k m (omega arith) (omega (arith, l)))
        ∙ sym (first-served unreached (ap (reached_as s) q) w j g k);
  }

pub ruleset reach-served-laws = (served-found, served-next)
