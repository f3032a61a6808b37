-- The stores of a receive, at each of the ways out of the code, and the session that the slot holds after them.
use mathlib.Core.Path.{◌≡◌, sym, ap, subst, ◌∙◌}
use mathlib.Core.Bool.{Bool}
use mathlib.Core.List.{List}
use Prim.Native.Nat.{ℕ, ◌<◌, ◌≤◌}
use native.Mathlib.Omega.{arith}
use lib.ListN.{length}
use borrow.Author.Tests.{lt-ltb, le-ltb}
use Rattle.tree_forest.specs.Forest.{Forest}
use Rattle.scalar.specs.Value.{Value}
use Rattle.basics.specs.Choice.{pick}
use Rattle.network_syntax.specs.Syntax.{Optional}
use Rattle.wire.specs.Wire.{with_part}
use Rattle.state.specs.Places.{slot_size}
use Rattle.state.specs.Session.{Destination, Progress, taken, advance, Session, with_tree, with_queue, with_progress, live}
use Rattle.state.specs.Bytes.{slot_bytes}
use Rattle.state.specs.Shape.{WellMade}
use Rattle.state.proofs.FreshLaws.{part-back}
use Rattle.state.proofs.KeepLaws.{made-tree, made_row}
use Rattle.state.specs.Session.{received_by}
use Rattle.state_progress.specs.declared.Progress.TheVariants.{Taken}
use Rattle.state_progress.specs.Meaning.{meaning}
use Rattle.state_progress.specs.Stored.{row_stored}
use Rattle.state_queues.specs.Queue.{without, removed}
use Rattle.state_queues.specs.ChangeLaws.{remove-made, remove-live}
use Rattle.state_slots.specs.SlotLaws.{row-set, tree_set, living-set, set-again, living-holds}
use Rattle.state_slots.specs.Living.{Living}
use Rattle.state_slots.specs.Slots.{tree_stored}
use Rattle.state_trees.specs.Changing.{KeptTree}
use Rattle.move_receive.specs.Receiving.{settled_by, settled_bytes, stored_bytes}
use Rattle.std.specs.Prelude.{Option, Some, None}

-- ---- the input's progress once received

pub after-message : {x : Progress} {r to : Optional Destination} → r ≡ to → x ≡ received_by r → x ≡ received_by to
after-message e h = h ∙ ap received_by e

pub ruleset after-laws = (after-message)

-- ---- the branch

module _ (s : List ℕ) (slot : ℕ) {x : Option (ℕ × ℕ)} {c k : ℕ} (e : x ≡ Some (c, k)) where
  pub settle-branch : {s' : List ℕ} → c < 256 → s' ≡ row_stored s slot c (meaning (Taken k)) → s' ≡ settled_bytes s slot x
  settle-branch l f =
      f ∙ (sym (ap (λ (t : Bool). pick t (row_stored s slot c (taken k)) s) (lt-ltb c 256 l)) ∙ sym (ap (settled_bytes s slot) e))

  pub settle-past : 256 ≤ c → s ≡ settled_bytes s slot x
  settle-past l =
      sym (ap (settled_bytes s slot) e ∙ ap (λ (t : Bool). pick t (row_stored s slot c (taken k)) s) (le-ltb c 256 l))

-- ---- all stores

pub stores : (s : List ℕ) (slot : ℕ) (tree : List ℕ) (n k : ℕ) (x : Option (ℕ × ℕ)) (i : ℕ) (y : Progress) {a b c d : List ℕ} → a ≡ tree_stored s slot tree n
    → b ≡ removed a slot k → c ≡ settled_bytes b slot x → d ≡ row_stored c slot i y → d ≡ stored_bytes s slot tree n k x i y
stores s slot tree n k x i y e f g h =
    h ∙ ap (λ (t : List ℕ). row_stored t slot i y)
    (g ∙ ap (λ (t : List ℕ). settled_bytes t slot x) (f ∙ ap (λ (t : List ℕ). removed t slot k) e))

-- The session after a receive.
abbrev pub received_in : Session → Forest Value → ℕ → Option (ℕ × ℕ) → ℕ → Progress → Session
received_in S F k x i y = with_progress (with_queue (with_tree S F) (without k S.queue)) (advance (settled_by x S.progress) i y)

-- The choice of a settled branch has a place among the rows.
abbrev pub Small : Option (ℕ × ℕ) → Type 0
Small None = Unit {0}
Small (Some (c, k)) = c < 256

-- One change more.
step-on : {s t u : List ℕ} {at : ℕ} {S : Session} → Living s at S → (S₁ S₂ : Session) → WellMade S₁ → WellMade S₂ → t ≡ with_part s at (slot_bytes (live S₁))
    → (Living t at S₁ → u ≡ with_part t at (slot_bytes (live S₂))) → u ≡ with_part s at (slot_bytes (live S₂))
step-on {s} {t} {u} {at} h S₁ S₂ v w e f =
    let l : Living t at S₁ = subst (λ (z : List ℕ). Living z at S₁) (sym e) (living-set h S₁ v) in
    f l ∙ (ap (λ (z : List ℕ). with_part z at (slot_bytes (live S₂))) e ∙ set-again h S₁ (live S₂) v w)

settled-made : {S : Session} → WellMade S → (x : Option (ℕ × ℕ)) → Small x → WellMade (with_progress S (settled_by x S.progress))
settled-made w None l = w
settled-made {S} w (Some (c, k)) l =
    made_row w c (taken k) l

settled-set : {s : List ℕ} {at : ℕ} {S : Session} → Living s at S → (x : Option (ℕ × ℕ)) → Small x
    → settled_bytes s at x ≡ with_part s at (slot_bytes (live (with_progress S (settled_by x S.progress))))
settled-set {s} {at} {S} h None l = sym (row_same h)
  where
    row_same : Living s at S → with_part s at (slot_bytes (live S)) ≡ s
    row_same h = ap (with_part s at) (sym h.bytes) ∙ part-back s at slot_size h.inside
settled-set {s} {at} {S} h (Some (c, k)) l =
    ap (λ (t : Bool). pick t (row_stored s at c (taken k)) s) (lt-ltb c 256 l) ∙ row-set h c (taken k) l

module _ {s : List ℕ} {at : ℕ} {S : Session} (h : Living s at S) (o : List ℕ) (n k : ℕ) (x : Option (ℕ × ℕ)) (i : ℕ) (y : Progress) (F : Forest Value)
    (kept : KeptTree o n F) (few : k < length S.queue) (small : Small x) (l : i < 256) where
  abbrev S₁ : Session
  S₁ = with_tree S F

  abbrev S₂ : Session
  S₂ = with_queue S₁ (without k S.queue)

  abbrev S₃ : Session
  S₃ = with_progress S₂ (settled_by x S.progress)

  made₁ : WellMade S₁
  made₁ = made-tree h.made F kept.made

  made₂ : WellMade S₂
  made₂ = remove-made made₁ k few

  made₃ : WellMade S₃
  made₃ = settled-made made₂ x small

  pub stored-made : WellMade (received_in S F k x i y)
  stored-made = made_row made₃ i y l

  tree-stored : tree_stored s at o n ≡ with_part s at (slot_bytes (live S₁))
  tree-stored = tree_set h F o n kept.bytes kept.size (omega (arith, kept.size, kept.small))

  queue-stored : removed (tree_stored s at o n) at k ≡ with_part s at (slot_bytes (live S₂))
  queue-stored = step-on h S₁ S₂ made₁ made₂ tree-stored (λ g. remove-live made₁ (living-holds g) k few)

  branch-stored : settled_bytes (removed (tree_stored s at o n) at k) at x ≡ with_part s at (slot_bytes (live S₃))
  branch-stored = step-on h S₂ S₃ made₂ made₃ queue-stored (λ g. settled-set g x small)

  pub stored-live : stored_bytes s at o n k x i y ≡ with_part s at (slot_bytes (live (received_in S F k x i y)))
  stored-live = step-on h S₃ (received_in S F k x i y) made₃ stored-made branch-stored (λ g. row-set g i y l)
