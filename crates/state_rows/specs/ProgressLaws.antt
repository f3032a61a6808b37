-- The progress of a session's rows suits what it runs exactly if each row has a progress that it is allowed (`permitted-suits`).
use Rattle.std.specs.Prelude.{◌≡◌, List, Bool, ◌&&◌, ◌||◌, ◌⊎◌, eqb, ltb}
use Rattle.std.proofs.Math.Path.{refl, sym, ap}
use Rattle.std.proofs.Common.{◌∙◌, inl, inr, arith}
use Rattle.std.proofs.Math.Bool.{true, false, not}
use Prim.Native.Nat.{ℕ, zero, suc, ◌+◌, ◌*◌, ◌≤◌, ◌<◌}
use borrow.Author.Tests.{le-ltb, ne_eqb}
use Rattle.basics.specs.TestLaws.{agree, and_left, and_right}
use Rattle.network_syntax.specs.Syntax.{Network, Behaviour, some}
use Rattle.network_syntax.specs.Rows.{row_of, has_row, at_row}
use Rattle.network.specs.declared.BehaviourKind.{BehaviourKind}
use Rattle.network.specs.Layout.{behaviour_count, behaviour_at}
use Rattle.network.specs.Rows.{field_a, field_b, field_c, field_d, kind_at}
use Rattle.network.specs.Form.{WellFormed}
use Rattle.network.specs.Decode.{branches_from, behaviour_from, behaviour_of, network_of}
use Rattle.network.proofs.RowLaws.{counts-kept}
use Rattle.network.proofs.UseLaws.{RowKept, behaviour-kept}
use Rattle.network.proofs.BehaviourLaws.{behaviour-row}
use Rattle.network_rows.specs.Readers.{behaviour_row_as, behaviour_row_of}
use Rattle.state.specs.Session.{Progress, undone, done, waits, received, taken, Progresses}
use Rattle.state.specs.Bytes.{read_progress}
use Rattle.state.specs.Shape.{is_undone, undone_or_done, undone_done_or_waits, undone_done_or_received, undone_or_taken, undone_done_or_body, branches, suits, quiet_elsewhere}
use Rattle.state.proofs.ShapeLaws.{below_next}
use Rattle.state.specs.RowShape.{suits_row, PartOf, InBranch, PartSuits}
use Rattle.state.proofs.RowLaws.{suits-row, rows-suit, at-row, row-found, part-row, quiet_each}
use Rattle.state.specs.Places.{row_size}
use Rattle.state_rows.specs.Marks.{marked, mark_for, RowsOf}
use Rattle.state_rows.specs.Parts.{IsBranchRow}
use Rattle.state_rows.specs.PartLaws.{each_part}
use Rattle.state_rows.specs.Allowed.{allowing, nothing, allowed_by, allowed_at, allows, permitted}

-- ---- what is permitted of each kind

module _ (N : Network) (rows : ℕ) where
  no_part : (k : ℕ) → ltb k 0 ≡ false
  no_part k = le-ltb k 0 (omega arith)

  permits-undone : (x : Progress) → allows N rows nothing x ≡ is_undone x
  unfolding allows
  permits-undone undone = refl
  permits-undone done = refl
  permits-undone waits = refl
  permits-undone (received to) = refl
  permits-undone (taken k) = no_part k

  permits-done : (x : Progress) → allows N rows (allowing true false false 0) x ≡ undone_or_done x
  unfolding allows
  permits-done undone = refl
  permits-done done = refl
  permits-done waits = refl
  permits-done (received to) = refl
  permits-done (taken k) = no_part k

  permits-waits : (x : Progress) → allows N rows (allowing true true false 0) x ≡ undone_done_or_waits x
  unfolding allows
  permits-waits undone = refl
  permits-waits done = refl
  permits-waits waits = refl
  permits-waits (received to) = refl
  permits-waits (taken k) = no_part k

  permits-received : (x : Progress) → allows N rows (allowing true false true 0) x ≡ undone_done_or_received N rows x
  unfolding allows
  permits-received undone = refl
  permits-received done = refl
  permits-received waits = refl
  permits-received (received to) = refl
  permits-received (taken k) = no_part k

  permits-taken : (n : ℕ) (x : Progress) → allows N rows (allowing false false false n) x ≡ undone_or_taken n x
  unfolding allows
  permits-taken n undone = refl
  permits-taken n done = refl
  permits-taken n waits = refl
  permits-taken n (received to) = refl
  permits-taken n (taken k) = refl

  permits-body : (x : Progress) → allows N rows (allowing true false false 1) x ≡ undone_done_or_body x
  unfolding allows
  permits-body undone = refl
  permits-body done = refl
  permits-body waits = refl
  permits-body (received to) = refl
  permits-body (taken zero) = refl
  permits-body (taken (suc k)) = le-ltb (suc k) 1 (omega arith) ∙ sym (ne_eqb (suc k) 0 (λ e. omega arith))

-- ---- the rows of a file's behaviours

branch-count : (s : List ℕ) (f : ℕ → Behaviour) (n a : ℕ) → 1 ≤ n → branches (branches_from s f a n) ≡ n
unfolding branches_from branches
branch-count s f zero a h = absurd (omega arith)
branch-count s f (suc zero) a h = refl
branch-count s f (suc (suc n)) a h = ap suc (branch-count s f (suc n) (suc a) (omega arith))

module _ (s : List ℕ) (N : Network) (rows : ℕ) where
  -- A progress suits a row exactly if its kind permits it.
  by_kind : (f : ℕ → Behaviour) (r at : ℕ) (x : Progress) (k : BehaviourKind) → RowKept s r at k
      → suits_row N rows x (behaviour_from s f r at k) ≡ allows N rows (allowed_by (behaviour_row_as k (field_a s at) (field_b s at) (field_c s at) (field_d s at))) x
  unfolding behaviour_from suits_row behaviour_row_as
  by_kind f r at x BehaviourKind.Nil h = sym (permits-undone N rows x)
  by_kind f r at x BehaviourKind.OneWay h = sym (permits-done N rows x)
  by_kind f r at x BehaviourKind.RequestResponse h = sym (permits-received N rows x)
  by_kind f r at x BehaviourKind.Notification h = sym (permits-done N rows x)
  by_kind f r at x BehaviourKind.SolicitResponse h = sym (permits-waits N rows x)
  by_kind f r at x BehaviourKind.If h = sym (permits-taken N rows 2 x)
  by_kind f r at x BehaviourKind.While h = sym (permits-body N rows x)
  by_kind f r at x BehaviourKind.Sequence h = sym (permits-undone N rows x)
  by_kind f r at x BehaviourKind.Parallel h = sym (permits-undone N rows x)
  by_kind f r at x BehaviourKind.Assign h = sym (permits-done N rows x)
  by_kind f r at x BehaviourKind.Choice h = rw (branch-count s f (field_b s at) (field_a s at) h.0) (sym (permits-taken N rows (field_b s at) x))
  by_kind f r at x BehaviourKind.Branch h = sym (permits-undone N rows x)
  by_kind f r at x BehaviourKind.Unknown h = sym (permits-undone N rows x)

  row_fits : WellFormed s → (r : ℕ) → r < behaviour_count s → (x : Progress)
      → suits_row N rows x (behaviour_of s r) ≡ allows N rows (allowed_by (behaviour_row_of s r)) x
  unfolding behaviour_row_of
  row_fits w r l x =
      ap (suits_row N rows x) (behaviour-row s w r l) ∙ by_kind (behaviour_of s) r (behaviour_at s r) x (kind_at s r) (behaviour-kept s w r l)

  -- A part's row has the progress that its kind permits.
  behaviour-fits : (w : WellFormed s) (r : ℕ) → r < behaviour_count s → (b : Behaviour) → PartOf b (behaviour_of s r)
      → (x : Progress) → suits_row N rows x b ≡ allows N rows (allowed_by (behaviour_row_of s (row_of b))) x
  behaviour-fits w r l b i x = let p = each_part s w r l b i in ap (suits_row N rows x) p.is ∙ row_fits w (row_of b) p.exists x

  -- A branch has none.
  branch_fits : (i : ℕ) → IsBranchRow s i → (x : Progress) → is_undone x ≡ allows N rows (allowed_by (behaviour_row_of s i)) x
  unfolding behaviour_row_of behaviour_row_as
  branch_fits i h x = rw h.1 (sym (permits-undone N rows x))

-- ---- row by row

quiet_all : (p : Progresses) (B : Behaviour) (n : ℕ) → ((i : ℕ) → i < n → (has_row i B || is_undone (p i)) ≡ true) → quiet_elsewhere n p B ≡ true
unfolding quiet_elsewhere
quiet_all p B zero h = refl
quiet_all p B (suc n) h = rw (h n (omega arith), quiet_all p B n (λ i l. h i (omega arith)))

module _ (s : List ℕ) (w : WellFormed s) (N : Network) (rows : ℕ) (p : Progresses) (r : ℕ) (l : r < behaviour_count s) (marks : List ℕ)
    (m : RowsOf s r marks) where
  abbrev B : Behaviour
  B = behaviour_of s r

  abbrev one : ℕ → Bool
  one i = allows N rows (allowed_at s marks i) (p i)

  marked-is : (i : ℕ) → i < 256 → marked marks i ≡ has_row i B
  unfolding marked
  marked-is i k = rw (m.rows i k) (by (has_row i B))
    where
      by : (t : Bool) → not (eqb (mark_for t) 0) ≡ t
      by true = refl
      by false = refl

  -- Of a row of the behaviour, and of any other.
  inside : (i : ℕ) → i < 256 → has_row i B ≡ true → one i ≡ allows N rows (allowed_by (behaviour_row_of s i)) (p i)
  unfolding allowed_at
  inside i k e = rw (marked-is i k ∙ e)

  outside : (i : ℕ) → i < 256 → has_row i B ≡ false → one i ≡ is_undone (p i)
  unfolding allowed_at
  outside i k e = rw (marked-is i k ∙ e) (permits-undone N rows (p i))

  to-each : (suits N rows p B && quiet_elsewhere 256 p B) ≡ true → (i : ℕ) → i < 256 → one i ≡ true
  to-each h i k = by (has_row i B) refl
    where
      su : suits N rows p B ≡ true
      su = and_left (suits N rows p B) (quiet_elsewhere 256 p B) h

      by : (t : Bool) → has_row i B ≡ t → one i ≡ true
      by true e = inside i k e ∙ found (row-found i B e)
        where
          found : ((b : Behaviour) × (at_row i B ≡ some b)) ⊎ InBranch i B → allows N rows (allowed_by (behaviour_row_of s i)) (p i) ≡ true
          found (inl v) =
              let q = at-row B i v.0 v.1 in
              rw q.1 at (sym (behaviour-fits s N rows w r l v.0 q.0 (p (row_of v.0))) ∙ (suits-row N rows p B v.0 su q.0).own)
          found (inr v) =
              sym (branch_fits s N rows i ((each_part s w r l v.0 v.1).branch_rows i v.2) (p i))
              ∙ (suits-row N rows p B v.0 su v.1).branch_rows i v.2
      by false e =
          let f : (has_row i B || is_undone (p i)) ≡ true = quiet_each p B 256 (and_right (suits N rows p B) (quiet_elsewhere 256 p B) h) i k in
          outside i k e ∙ (rw e at f)

  from_each : ((i : ℕ) → i < 256 → one i ≡ true) → (suits N rows p B && quiet_elsewhere 256 p B) ≡ true
  from_each h = rw (rows-suit N rows p B part, quiet_all p B 256 quiet)
    where
      branch_row : (i : ℕ) → IsBranchRow s i → (t : Bool) → has_row i B ≡ t → is_undone (p i) ≡ true
      branch_row i g true e =
          let k : i < 256 = omega (arith, g.0, (counts-kept s w).behaviours) in branch_fits s N rows i g (p i) ∙ (sym (inside i k e) ∙ h i k)
      branch_row i g false e = let k : i < 256 = omega (arith, g.0, (counts-kept s w).behaviours) in sym (outside i k e) ∙ h i k

      part : (b : Behaviour) → PartOf b B → PartSuits N rows p b
      part b i =
          let o = each_part s w r l b i in
          let k : row_of b < 256 = omega (arith, o.exists, (counts-kept s w).behaviours) in
          record {
            own = behaviour-fits s N rows w r l b i (p (row_of b)) ∙ (sym (inside (row_of b) k (part-row B b i)) ∙ h (row_of b) k);
            branch_rows = λ j g. branch_row j (o.branch_rows j g) (has_row j B) refl;
          }

      quiet : (i : ℕ) → i < 256 → (has_row i B || is_undone (p i)) ≡ true
      quiet i k = by (has_row i B) refl
        where
          by : (t : Bool) → has_row i B ≡ t → (t || is_undone (p i)) ≡ true
          by true e = refl
          by false e = sym (outside i k e) ∙ h i k

module _ (file marks s : List ℕ) (at : ℕ) where
  abbrev test : ℕ → Bool
  test i = allows (network_of file) (behaviour_count file) (allowed_at file marks i) (read_progress s (at + row_size * i))

  each-permitted : (n : ℕ) → permitted file marks s at n ≡ true → (i : ℕ) → i < n → test i ≡ true
  unfolding permitted
  each-permitted zero h i l = absurd (omega arith)
  each-permitted (suc n) h i l =
      let b = permitted file marks s at n in
      below_next (λ i. test i ≡ true) n i l (and_left (test n) b h) (each-permitted n (and_right (test n) b h) i)

  all-permitted : (n : ℕ) → ((i : ℕ) → i < n → test i ≡ true) → permitted file marks s at n ≡ true
  unfolding permitted
  all-permitted zero h = refl
  all-permitted (suc n) h = rw (h n (omega arith), all-permitted n (λ i l. h i (omega arith)))

  -- The progress of a session's rows, row by row.
  pub permitted-suits : WellFormed file → (r : ℕ) → r < behaviour_count file → RowsOf file r marks → (p : Progresses)
      → ((i : ℕ) → i < 256 → p i ≡ read_progress s (at + row_size * i))
      → permitted file marks s at 256 ≡ (suits (network_of file) (behaviour_count file) p (behaviour_of file r) && quiet_elsewhere 256 p (behaviour_of file r))
  permitted-suits w r l m p e = agree _ _ to from
    where
      suited : Bool
      suited = suits (network_of file) (behaviour_count file) p (behaviour_of file r) && quiet_elsewhere 256 p (behaviour_of file r)

      to : permitted file marks s at 256 ≡ true → suited ≡ true
      to h = from_each file w (network_of file) (behaviour_count file) p r l marks m (λ i k. rw (e i k) (each-permitted 256 h i k))

      from : suited ≡ true → permitted file marks s at 256 ≡ true
      from h = all-permitted 256 (λ i k. rw (e i k) at (to-each file w (network_of file) (behaviour_count file) p r l marks m h i k))
