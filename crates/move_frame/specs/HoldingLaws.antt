-- Laws of the states that bytes hold: as a slot changes, and where a session has gone on.
use Rattle.std.specs.Prelude.{◌≡◌, refl, List, ℕ, ◌/◌, ◌%◌, ◌<◌, length}
use Rattle.std.proofs.Common.{sym, ap, subst, ◌∙◌, inl, arith}
use Rattle.std.proofs.Math.Decide.{dec_lt, ℕ_discrete}
use Rattle.wire.specs.Wire.{part, with_part}
use Rattle.network_syntax.specs.Syntax.{Network}
use Rattle.state.specs.Places.{slot_size, slot_start}
use Rattle.state.specs.Session.{Progress, advance, Session, with_progress, Slot, free, live, State, set_slot}
use Rattle.state.specs.Bytes.{slot_bytes, slot_at, state_bytes}
use Rattle.state.specs.Shape.{WellMade, MadeSlot, Stands}
use Rattle.state.proofs.SizeLaws.{Sized, slot-size, sized-length}
use Rattle.state.proofs.ChangeLaws.{set-bytes, slot-part, slot_same, set_other}
use Rattle.state.proofs.KeepLaws.{set-made, set-elsewhere, made_row}
use Rattle.move_rules.specs.Moves.{gone_on}
use Rattle.state_slots.specs.SlotLaws.{row-set}
use Rattle.state_slots.specs.Living.{Living}
use Rattle.state_progress.specs.Stored.{row_stored}
use Rattle.move_frame.specs.Made.{StateOf, InSession}
use Rattle.move_frame.specs.Holding.{Holding}

-- Bytes that stand for a state hold it.
pub stands-holding : {N : Network} {rows : ℕ} {s : List ℕ} {G : State} → Stands N rows s G → Holding s G
stands-holding h = record { bytes = h.bytes; made = h.shape.made; elsewhere = h.shape.elsewhere }

pub holding-sized : {s : List ℕ} {G : State} → Holding s G → Sized G
holding-sized {s} {G} h = record { each = λ k. by k (dec_lt k 16) }
  where
    by : (k : ℕ) → Dec (k < 16) → length (slot_bytes (slot_at G k)) ≡ slot_size
    by k (yes l) = slot-size (slot_at G k) (h.made (k / 4) (k % 4) (omega arith) (omega arith))
    by k (no l) = rw (h.elsewhere (k / 4) (k % 4) (inl (omega arith))) (slot-size free tt)

-- The bytes with one slot changed hold the state with that slot changed.
pub holding-bytes : {s : List ℕ} {G : State} → Holding s G → (q n : ℕ) (x : Slot) → q < 4 → n < 4 → MadeSlot x
    → with_part s (slot_start q n) (slot_bytes x) ≡ state_bytes (set_slot G q n x)
holding-bytes h q n x i j m =
    ap (λ (t : List ℕ). with_part t (slot_start q n) (slot_bytes x)) h.bytes ∙ sym (set-bytes (holding-sized h) q n x (slot-size x m) i j)

pub holding-part : {s : List ℕ} {G : State} → Holding s G → (q n : ℕ) → q < 4 → n < 4 → part s (slot_start q n) slot_size ≡ slot_bytes (G q n)
holding-part h q n i j = ap (λ (t : List ℕ). part t (slot_start q n) slot_size) h.bytes ∙ slot-part (holding-sized h) q n i j

pub holding-set : {s : List ℕ} {G : State} → Holding s G → (q n : ℕ) (x : Slot) → q < 4 → n < 4 → MadeSlot x
    → Holding (with_part s (slot_start q n) (slot_bytes x)) (set_slot G q n x)
holding-set {s} {G} h q n x i j w = record {
  bytes = holding-bytes h q n x i j w;
  made = set-made G h.made q n x w;
  elsewhere = set-elsewhere G h.elsewhere q n x i j;
}

-- A live session of that state, in the bytes.
pub holding-living : {s : List ℕ} {G : State} {S : Session} → Holding s G → (q n at : ℕ) → q < 4 → n < 4 → at ≡ slot_start q n → G q n ≡ live S → Living s at S
holding-living {s} {G} {S} h q n at i j e l = record {
  inside = omega (arith, ap length h.bytes, sized-length (holding-sized h), e, i, j);
  bytes = ap (λ (k : ℕ). part s k slot_size) e ∙ (holding-part h q n i j ∙ ap slot_bytes l);
  made = subst (λ (x : Slot). MadeSlot x) l (h.made q n i j);
}

-- ---- the state in which a session has gone on

module _ {file s : List ℕ} {G : State} {q n slot b : ℕ} (h : InSession file s G q n slot b) (r : ℕ) (after : Progress) where
  abbrev gone : Session
  gone = with_progress h.session (advance h.session.progress r after)

  gone-made : r < 256 → WellMade gone
  gone-made l = made_row h.living.made r after l

  pub gone-holding : StateOf file s G → r < 256 → {s₁ : List ℕ} → s₁ ≡ row_stored s slot r after → Holding s₁ (gone_on G q n h.session r after)
  gone-holding st l {s₁} e =
      let z : s₁ ≡ with_part s (slot_start q n) (slot_bytes (live gone)) =
      e ∙ (row-set h.living r after l ∙ ap (λ (j : ℕ). with_part s j (slot_bytes (live gone))) h.place) in
      subst (λ (y : List ℕ). Holding y (set_slot G q n (live gone))) (sym z)
      (holding-set (stands-holding st) q n (live gone) h.service h.number (gone-made l))

  -- A session that was live is live in it, with the same tree.
  pub gone-live : (q2 n2 : ℕ) (S2 : Session) → G q2 n2 ≡ live S2
      → (T : Session) × (gone_on G q n h.session r after q2 n2 ≡ live T) × (T.tree ≡ S2.tree)
  gone-live q2 n2 S2 e = by (ℕ_discrete q2 q) (ℕ_discrete n2 n)
    where
      elsewhere : (q2 ≡ q → n2 ≡ n → ⊥) → (T : Session) × (gone_on G q n h.session r after q2 n2 ≡ live T) × (T.tree ≡ S2.tree)
      elsewhere d = (S2, set_other G q n (live gone) q2 n2 d ∙ e, refl)

      same_live : {S T : Session} → live S ≡ live T → S ≡ T
      same_live e = cc

      by : Dec (q2 ≡ q) → Dec (n2 ≡ n) → (T : Session) × (gone_on G q n h.session r after q2 n2 ≡ live T) × (T.tree ≡ S2.tree)
      by (yes u) (yes v) = (
        gone,
        ap (λ (i : ℕ). set_slot G q n (live gone) i n2) u ∙ (ap (λ (i : ℕ). set_slot G q n (live gone) q i) v ∙ slot_same G q n (live gone)),
        ap (λ (S : Session). S.tree) (same_live (sym h.is_live ∙ (ap (λ (i : ℕ). G i n) (sym u) ∙ (ap (G q2) (sym v) ∙ e)))),
      )
      by (yes u) (no v) = elsewhere (λ _ y. v y)
      by (no u) v = elsewhere (λ y _. u y)
