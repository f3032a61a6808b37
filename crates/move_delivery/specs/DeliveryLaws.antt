-- Laws of targets, and of admitted messages.
use Rattle.std.specs.Prelude.{◌≡◌, refl, Bool, true, false, List, ℕ, suc, eqb, ltb, length}
use Rattle.std.proofs.Common.{subst}
use Rattle.basics.specs.Choice.{pick}
use Rattle.basics.specs.TestLaws.{lt_of}
use Rattle.refusal.specs.declared.Refusal.{Refusal}
use Rattle.network_syntax.specs.Syntax.{Network, Operation, Optional, none, some, Behaviour, Branches, last_branch, branch}
use Rattle.network_syntax.specs.Rows.{Input, input_of, Choice, choice_of}
use Rattle.state.specs.Session.{Session, Slot, free, live, State}
use Rattle.state.specs.Shape.{behaviour_in}
use Rattle.move_rules.specs.Targets.{Target, no_target, queue_full, queued, starts, start_by, start_from, start_of, target_of, target_in, target}
use Rattle.move_delivery.specs.declared.Arrival.{Arrival}
use Rattle.move_delivery.specs.Delivery.{Storable, StorableIf, Known}
use Rattle.std.specs.Prelude.{Result, Ok, Err}

-- ---- an admitted message

-- There is room for it where it arrives.
pub admitted-storable : (i : ℕ) (l : List ℕ) {x : Result Arrival Refusal} {y : Arrival} → StorableIf i l x → x ≡ Ok y → Storable i l y
admitted-storable i l u e = subst (StorableIf i l) e u

-- ---- targets

-- A starter's branch starts a session, or none does.
abbrev Found : Target → Type 0
Found no_target = Unit {0}
Found queue_full = ⊥
Found queued = ⊥
Found (starts c k i) = Unit {0}

found-by : (w c k : ℕ) (i : Optional Input) (t : Target) → Found t → Found (start_by w c k i t)
found-by w c k none t h = h
found-by w c k (some i) t h = by (eqb i.operation.row w)
  where
    by : (b : Bool) → Found (pick b (starts c k i) t)
    by true = tt
    by false = h

start-found : (w c k : ℕ) (m : Branches) → Found (start_from w c k m)
unfolding start_from
start-found w c k (last_branch r a b) = found-by w c k (input_of a) no_target tt
start-found w c k (branch r a b m) = found-by w c k (input_of a) (start_from w c (suc k) m) (start-found w c (suc k) m)

starter-found : (w : ℕ) (c : Optional Choice) → Found (start_of w c)
starter-found w none = tt
starter-found w (some c) = start-found w c.row 0 c.branches

pub target-known : (N : Network) (G : State) (o : Operation) (n : ℕ) → Known G o n (target N G o n)
target-known N G o n = go (behaviour_in N o.service n) (G o.service n) refl
  where
    from : (t : Target) → G o.service n ≡ free → Found t → Known G o n t
    from no_target e h = tt
    from queue_full e h = absurd h
    from queued e h = absurd h
    from (starts c k i) e h = e

    free_one : (B : Behaviour) → G o.service n ≡ free → (b : Bool) → Known G o n (pick b no_target (start_of o.row (choice_of B)))
    free_one B e true = tt
    free_one B e false = from (start_of o.row (choice_of B)) e (starter-found o.row (choice_of B))

    live-one : (S : Session) → G o.service n ≡ live S → (b : Bool) → ltb (length S.queue) 4 ≡ b → Known G o n (pick b queued queue_full)
    live-one S e true f = (S, e, lt_of (length S.queue) 4 f)
    live-one S e false f = tt

    go : (b : Optional Behaviour) (x : Slot) → G o.service n ≡ x → Known G o n (target_in b (λ B. target_of o.row n B x))
    go none x e = tt
    go (some B) free e = free_one B e (eqb n 0)
    go (some B) (live S) e = live-one S e (ltb (length S.queue) 4) refl
