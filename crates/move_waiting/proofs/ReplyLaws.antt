-- A reply taken, at each of the ways out of the code.
use mathlib.Core.Path.{◌≡◌, refl, sym, ap, subst, ◌∙◌}
use mathlib.Core.Bool.{Bool, true}
use mathlib.Core.List.{List, []}
use Prim.Native.Nat.{ℕ, ◌<◌}
use lib.ListN.{length}
use native.Mathlib.Omega.{arith}
use Rattle.tree_forest.specs.Forest.{Forest, Tree}
use Rattle.tree_forest.specs.Path.{replace_at}
use Rattle.scalar.specs.Value.{Value}
use Rattle.tree.specs.Encode.{Message}
use Rattle.refusal.specs.declared.Refusal.TheVariants.{Stuck}
use Rattle.refusal.specs.declared.Outcome.{Outcome}
use Rattle.refusal.specs.Refusal.{done_with}
use Rattle.wire.specs.Wire.{with_part}
use Rattle.network.specs.Form.{WellFormed}
use Rattle.network.specs.Layout.{path_count}
use Rattle.network.specs.Decode.{path_of}
use Rattle.check_typing.specs.Environment.{within}
use Rattle.state.specs.Session.{done, Session, with_tree, Slot, live, State, set_slot}
use Rattle.state.specs.Bytes.{slot_bytes, state_bytes}
use Rattle.state.specs.Shape.{WellMade}
use Rattle.state.proofs.KeepLaws.{made-tree, made_row}
use Rattle.move_rules.specs.Moves.{moved, require, on_live, save_within, take_reply}
use Rattle.scalar.specs.Value.{void_value}
use Rattle.move_rules.specs.Step.{finish}
use Rattle.state_slots.specs.SlotLaws.{row-set, tree_set, living-set, set-again}
use Rattle.state_slots.specs.Living.{Living}
use Rattle.state_slots.specs.Slots.{tree_stored}
use Rattle.state_trees.specs.Changing.{ChangedTo, ReplacesAt}
use Rattle.move_frame.specs.Made.{StateOf}
use Rattle.move_frame.specs.Holding.{Holding}
use Rattle.move_frame.specs.HoldingLaws.{stands-holding, holding-bytes, holding-living, gone-holding, gone-live}
use Rattle.move_waiting.specs.declared.Sender.{Sender}
use Rattle.move_waiting.specs.Waiting.{replied, PutsReply, SenderInside, settled, Settled, TakesReply}
use Rattle.state_progress.specs.Stored.{row_stored}
use Rattle.std.specs.Prelude.{Option, Some}

-- ---- `put_reply`

pub reply-put : (s t : List ℕ) (slot r n : ℕ) {s₁ s₂ : List ℕ} → r < 256
    → s₁ ≡ tree_stored s slot t n → s₂ ≡ row_stored s₁ slot r done → PutsReply s slot r t n s₂
reply-put s t slot r n {s₁} {s₂} l a b = record {
  tells = λ S F h k.
      let T : Session = with_tree S F in
      let R : Session = replied S r F in
      let w : WellMade T = made-tree h.made F k.made in
      let v : WellMade R = made_row w r done l in
      let c : s₁ ≡ with_part s slot (slot_bytes (live T)) = a ∙ tree_set h F t n k.bytes k.size (omega (arith, k.size, k.small)) in
      let d : s₂ ≡ with_part (with_part s slot (slot_bytes (live T))) slot (slot_bytes (live R)) =
      b ∙ (ap (λ (y : List ℕ). row_stored y slot r done) c ∙ row-set (living-set h T w) r done l) in
      (d ∙ set-again h T (live R) w v, v);
}

pub ruleset put-laws = (reply-put)

-- The state that those bytes hold; the waiting session is live in it, with the same tree.
settled-holds : (file s : List ℕ) (G gone : State) (x : Sender) → SenderInside (length s) x → StateOf file s G → Settled file s G x gone → Holding (settled s x) gone
settled-holds file s G gone Sender.Outsider u st e = subst (Holding s) (sym e) (stands-holding st)
settled-holds file s G gone (Sender.Row slot r) u st (q, n, b, (h, e)) = subst (Holding (row_stored s slot r done)) (sym e) (gone-holding h r done st u.1 refl)

settled-live : (file s : List ℕ) (G gone : State) (x : Sender) → Settled file s G x gone → (q n : ℕ) (S : Session) → G q n ≡ live S
    → (T : Session) × (gone q n ≡ live T) × (T.tree ≡ S.tree)
settled-live file s G gone Sender.Outsider e q n S l = (S, ap (λ (X : State). X q n) e ∙ l, refl)
settled-live file s G gone (Sender.Row slot r) (q2, n2, b, (h, e)) q n S l =
    let z = gone-live h r done q n S l in
    (z.0, ap (λ (X : State). X q n) e ∙ z.1, z.2)

-- ---- `take_reply`

module _ (file s : List ℕ) (x : Sender) (slot r p : ℕ) (m : List ℕ) {o : List ℕ} {y : Option ℕ} (c : ReplacesAt file p s slot m o y) where
  abbrev changed_tree : Session → Tree Value → Forest Value
  changed_tree S t = replace_at void_value (path_of file p) t S.tree

  changed : {z : Option ℕ} → y ≡ z → WellFormed file → p < path_count file → (S T : Session) → Living s slot S → T.tree ≡ S.tree → (t : Tree Value)
      → Message m t → ChangedTo o z (changed_tree T t)
  changed {z} e w l S T h u t g =
      subst (λ (F : Forest Value). ChangedTo o z (replace_at void_value (path_of file p) t F)) (sym u)
      (subst (λ (z : Option ℕ). ChangedTo o z (changed_tree S t)) e (c.tells w l S t h g))

  -- The definition, in a live session.
  taking : (gone : State) (q n : ℕ) (T : Session) → gone q n ≡ live T → (t : Tree Value) (f : Bool) → within (changed_tree T t) ≡ f
      → take_reply gone q n r (path_of file p) t ≡ require f Stuck (moved (set_slot gone q n (live (replied T r (changed_tree T t)))) [])
  taking gone q n T e t f g =
      ap (λ (y : Slot). on_live y (λ S. save_within gone q n (replied S r (changed_tree S t)) [])) e
      ∙ ap (λ (y : Bool). require y Stuck (moved (set_slot gone q n (live (replied T r (changed_tree T t)))) [])) g

  pub reply-taken : {n : ℕ} {s₁ s₂ : List ℕ} {a : Outcome} → y ≡ Some n → SenderInside (length s) x → s₁ ≡ settled s x → PutsReply s₁ slot r o n s₂
      → a ≡ done_with 0 → TakesReply file s x slot r p m s₂ a
  reply-taken {n} {s₁} {s₂} {a} e i k v f = record {
    tells = λ w l G st gone d q j b h t g out.
        let T = settled-live file s G gone x d q j h.session h.is_live in
        let F = changed_tree T.0 t in
        let z = changed e w l h.session T.0 h.living T.2 t g in
        let held : Holding s₁ gone = subst (λ (u : List ℕ). Holding u gone) (sym k) (settled-holds file s G gone x i st d) in
        let put = v.tells T.0 F (holding-living held q j slot h.service h.number h.place T.1) z in
        let R = live (replied T.0 r F) in
        let bytes : s₂ ≡ state_bytes (set_slot gone q j R) =
        put.0 ∙ (ap (λ (u : ℕ). with_part s₁ u (slot_bytes R)) h.place ∙ holding-bytes held q j R h.service h.number put.1) in
        ap (λ (u : Outcome). record { outcome = u; state = s₂; out = out }) f
        ∙ (ap (λ (u : List ℕ). record { outcome = done_with 0; state = u; out = out }) bytes
        ∙ ap (finish s out) (sym (taking gone q j T.0 T.1 t true z.fits)));
  }
