-- Each part of a file's behaviour is the behaviour of its row, and the branches' own rows are branches (`each_part`); hence what stands at a
-- row of it (`row-stands`).
use Rattle.std.specs.Prelude.{◌≡◌, refl, true, List, ◌⊎◌}
use Rattle.std.proofs.Common.{sym, ◌∙◌, subst, inl, inr, arith}
use Rattle.std.proofs.Math.Path.{ap}
use Prim.Native.Nat.{ℕ, zero, suc, ◌+◌, ◌<◌, ◌≤◌}
use Rattle.network_syntax.specs.Syntax.{Optional, none, some, Behaviour, nil}
use Rattle.network_syntax.specs.Rows.{row_of, has_row, at_row, choice_of}
use Rattle.network_syntax.specs.ViewLaws.{none-some}
use Rattle.network.specs.declared.BehaviourKind.{BehaviourKind}
use Rattle.network.specs.Form.{WellFormed}
use Rattle.network.specs.Layout.{behaviour_count, behaviour_at}
use Rattle.network.specs.Rows.{field_a, field_b, kind_at}
use Rattle.network.specs.Decode.{branches_from, behaviour_from, behaviour_of}
use Rattle.network.proofs.UseLaws.{Child, BranchKept, RowKept, behaviour-kept, branch_kept}
use Rattle.network.proofs.BehaviourLaws.{BranchesKept, Later, behaviour-row, row-kind}
use Rattle.state.specs.RowShape.{PartOf, PartOfBranches, BranchRow, BranchRowIn, BranchRowOf, InBranch}
use Rattle.state.proofs.RowLaws.{at-row, row-found}
use Rattle.state_rows.specs.Parts.{IsBranchRow, OfItsRow}

module _ (s : List ℕ) (w : WellFormed s) where
  abbrev Each : Behaviour → Type 0
  Each B = (b : Behaviour) → PartOf b B → OfItsRow s b

  -- The part that is the behaviour of row r itself.
  itself : (r : ℕ) → r < behaviour_count s → (k : BehaviourKind) → kind_at s r ≡ k
      → ((i : ℕ) → BranchRowIn i (choice_of (behaviour_from s (behaviour_of s) r (behaviour_at s r) k)) → IsBranchRow s i)
      → (b : Behaviour) → b ≡ behaviour_from s (behaviour_of s) r (behaviour_at s r) k → OfItsRow s b
  itself r l k e g b i =
      let o : row_of b ≡ r = ap row_of i ∙ row-kind s (behaviour_of s) r (behaviour_at s r) k in
      let j : b ≡ behaviour_of s r = i ∙ (ap (behaviour_from s (behaviour_of s) r (behaviour_at s r)) (sym e) ∙ sym (behaviour-row s w r l)) in
      record {
        exists = rw o l;
        is = subst (λ (n : ℕ). b ≡ behaviour_of s n) (sym o) j;
        branch_rows = λ m h. g m (subst (λ (c : Behaviour). BranchRowOf m c) i h);
      }

  branch-rows : (r n a : ℕ) → 1 ≤ n → BranchesKept s r a n → (f : ℕ → Behaviour) (i : ℕ) → BranchRow i (branches_from s f a n) → IsBranchRow s i
  unfolding branches_from BranchRow
  branch-rows r zero a o h f i k = absurd (omega arith)
  branch-rows r (suc zero) a o h f i k = rw k (let b = h a (omega arith) (omega arith) in (b.child.exists, b.kind))
  branch-rows r (suc (suc n)) a o h f i (inl k) = rw k (let b = h a (omega arith) (omega arith) in (b.child.exists, b.kind))
  branch-rows r (suc (suc n)) a o h f i (inr k) = branch-rows r (suc n) (suc a) (omega arith) (λ j p q. h j (omega arith) (omega arith)) f i k

  -- The input of the branch a, and what follows.
  module _ (r : ℕ) (g : Later s r (λ j. Each (behaviour_of s j))) where
    input-each : (a : ℕ) → BranchKept s r a → Each (behaviour_of s (field_a s (behaviour_at s a)))
    input-each a k = let c = (branch_kept s w r a k).0.child in g _ (omega (arith, c.later, k.child.later)) c.exists

    follow-each : (a : ℕ) → BranchKept s r a → Each (behaviour_of s (field_b s (behaviour_at s a)))
    follow-each a k = let c = (branch_kept s w r a k).1.child in g _ (omega (arith, c.later, k.child.later)) c.exists

    branches-each : (n a : ℕ) → 1 ≤ n → BranchesKept s r a n → (b : Behaviour) → PartOfBranches b (branches_from s (behaviour_of s) a n) → OfItsRow s b
    unfolding branches_from PartOf
    branches-each zero a o h b i = absurd (omega arith)
    branches-each (suc zero) a o h b (inl i) = input-each a (h a (omega arith) (omega arith)) b i
    branches-each (suc zero) a o h b (inr i) = follow-each a (h a (omega arith) (omega arith)) b i
    branches-each (suc (suc n)) a o h b (inl i) = input-each a (h a (omega arith) (omega arith)) b i
    branches-each (suc (suc n)) a o h b (inr (inl i)) = follow-each a (h a (omega arith) (omega arith)) b i
    branches-each (suc (suc n)) a o h b (inr (inr i)) = branches-each (suc n) (suc a) (omega arith) (λ j p q. h j (omega arith) (omega arith)) b i

    child-each : (a : ℕ) → Child s r a → Each (behaviour_of s a)
    child-each a c = g a c.later c.exists

  row-each : (r : ℕ) → r < behaviour_count s → Later s r (λ j. Each (behaviour_of s j)) → (k : BehaviourKind) → kind_at s r ≡ k → RowKept s r (behaviour_at s r) k
      → Each (behaviour_from s (behaviour_of s) r (behaviour_at s r) k)
  unfolding behaviour_from PartOf
  row-each r l g BehaviourKind.Nil e h b i = itself r l BehaviourKind.Nil e (λ j x. absurd x) b i
  row-each r l g BehaviourKind.OneWay e h b i = itself r l BehaviourKind.OneWay e (λ j x. absurd x) b i
  row-each r l g BehaviourKind.RequestResponse e h b (inl i) = itself r l BehaviourKind.RequestResponse e (λ j x. absurd x) b i
  row-each r l g BehaviourKind.RequestResponse e h b (inr i) = child-each r g _ h.3.child b i
  row-each r l g BehaviourKind.Notification e h b i = itself r l BehaviourKind.Notification e (λ j x. absurd x) b i
  row-each r l g BehaviourKind.SolicitResponse e h b i = itself r l BehaviourKind.SolicitResponse e (λ j x. absurd x) b i
  row-each r l g BehaviourKind.If e h b (inl i) = itself r l BehaviourKind.If e (λ j x. absurd x) b i
  row-each r l g BehaviourKind.If e h b (inr (inl i)) = child-each r g _ h.1.child b i
  row-each r l g BehaviourKind.If e h b (inr (inr i)) = child-each r g _ h.2.child b i
  row-each r l g BehaviourKind.While e h b (inl i) = itself r l BehaviourKind.While e (λ j x. absurd x) b i
  row-each r l g BehaviourKind.While e h b (inr i) = child-each r g _ h.1.child b i
  row-each r l g BehaviourKind.Sequence e h b (inl i) = itself r l BehaviourKind.Sequence e (λ j x. absurd x) b i
  row-each r l g BehaviourKind.Sequence e h b (inr (inl i)) = child-each r g _ h.0.child b i
  row-each r l g BehaviourKind.Sequence e h b (inr (inr i)) = child-each r g _ h.1.child b i
  row-each r l g BehaviourKind.Parallel e h b (inl i) = itself r l BehaviourKind.Parallel e (λ j x. absurd x) b i
  row-each r l g BehaviourKind.Parallel e h b (inr (inl i)) = child-each r g _ h.0.child b i
  row-each r l g BehaviourKind.Parallel e h b (inr (inr i)) = child-each r g _ h.1.child b i
  row-each r l g BehaviourKind.Assign e h b i = itself r l BehaviourKind.Assign e (λ j x. absurd x) b i
  row-each r l g BehaviourKind.Choice e h b (inl i) = itself r l BehaviourKind.Choice e (branch-rows r _ _ h.0 h.2 (behaviour_of s)) b i
  row-each r l g BehaviourKind.Choice e h b (inr i) = branches-each r g _ _ h.0 h.2 b i
  row-each r l g BehaviourKind.Branch e h b i = itself r l BehaviourKind.Branch e (λ j x. absurd x) b i
  row-each r l g BehaviourKind.Unknown e h b i = itself r l BehaviourKind.Unknown e (λ j x. absurd x) b i

  each_to : (d r : ℕ) → r < behaviour_count s → behaviour_count s ≤ r + d → Each (behaviour_of s r)
  each_to zero r l h = absurd (omega arith)
  each_to (suc d) r l h =
      subst Each (sym (behaviour-row s w r l)) (row-each r l (λ j x y. each_to d j y (omega arith)) (kind_at s r) refl (behaviour-kept s w r l))

  pub each_part : (r : ℕ) → r < behaviour_count s → (b : Behaviour) → PartOf b (behaviour_of s r) → OfItsRow s b
  each_part r l = each_to (behaviour_count s) r l (omega arith)

  branch-nil : (r : ℕ) → IsBranchRow s r → behaviour_of s r ≡ nil r
  unfolding behaviour_from
  branch-nil r h = behaviour-row s w r h.0 ∙ ap (behaviour_from s (behaviour_of s) r (behaviour_at s r)) h.1

  -- What a function tells of a row that the behaviour has, it tells of the row's own behaviour, if it takes a branch's row for a nil.
  pub row-stands : (b r : ℕ) → b < behaviour_count s → has_row r (behaviour_of s b) ≡ true → {A : Type 0} (g : Optional Behaviour → A) → g none ≡ g (some (nil r))
      → g (at_row r (behaviour_of s b)) ≡ g (some (behaviour_of s r))
  row-stands b r l h g n = by (at_row r (behaviour_of s b)) refl
    where
      found : at_row r (behaviour_of s b) ≡ none → ((c : Behaviour) × (at_row r (behaviour_of s b) ≡ some c)) ⊎ InBranch r (behaviour_of s b)
          → g none ≡ g (some (behaviour_of s r))
      found e (inl v) = absurd (none-some (sym e ∙ v.1))
      found e (inr v) = n ∙ ap (λ (c : Behaviour). g (some c)) (sym (branch-nil r ((each_part b l v.0 v.1).branch_rows r v.2)))

      by : (x : Optional Behaviour) → at_row r (behaviour_of s b) ≡ x → g x ≡ g (some (behaviour_of s r))
      by none e = found e (row-found r (behaviour_of s b) h)
      by (some c) e =
          let p = at-row (behaviour_of s b) r c e in
          ap (λ (y : Behaviour). g (some y)) ((each_part b l c p.0).is ∙ ap (behaviour_of s) p.1)
