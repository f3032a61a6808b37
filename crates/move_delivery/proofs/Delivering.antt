-- Delivering a message, at each of the ways out of the code.
use mathlib.Core.Path.{◌≡◌, refl, sym, ap, subst, ◌∙◌}
use mathlib.Core.Bool.{Bool, true, false}
use mathlib.Core.List.{List, [], ◌∷◌, ◌++◌}
use mathlib.Core.Logic.{◌⊎◌, inl, inr}
use Prim.Native.Nat.{ℕ, ◌+◌, ◌≤◌, ◌<◌}
use native.Mathlib.Omega.{arith}
use lib.ListN.{length, replicate}
use lib.Seq.{take_all}
use Rattle.tree_forest.specs.Forest.{Forest, end, Tree, tree}
use Rattle.tree_forest.specs.Path.{replace_at}
use Rattle.scalar.specs.Value.{Value}
use Rattle.wire.specs.Wire.{part, with_part}
use Rattle.wire.specs.WireLaws.{length-with_part}
use Rattle.refusal.specs.declared.Refusal.{Refusal}
use Rattle.refusal.specs.declared.Refusal.TheVariants.{MoveNotAllowed, QueueFull, Stuck}
use Rattle.refusal.specs.Refusal.{done_with}
use Rattle.network_syntax.specs.Syntax.{MessageType, Optional, none, some}
use Rattle.network_syntax.specs.Rows.{Input, input_of}
use Rattle.tree.specs.Encode as trees
use Rattle.tree_forest.specs.Limits.{session_levels, session_nodes}
use Rattle.network.specs.Form.{WellFormed}
use Rattle.network.specs.Layout.{path_count, type_count, behaviour_count, operation_count, service_count}
use Rattle.network.specs.Rows.{operation_service, request_type}
use Rattle.network.specs.Decode.{type_of, behaviour_of, operation_of, network_of}
use Rattle.network.specs.Decode as network
use Rattle.network.proofs.RowLaws.{counts-kept, operation-kept}
use Rattle.network_rows.specs.declared.InputRow.{InputRow}
use Rattle.network_rows.specs.Readers.{input_row_of}
use Rattle.network_rows.specs.RowSyntax.{input_with}
use Rattle.network_row_parts.specs.Behaviours.{InputKeptBy}
use Rattle.network_row_parts.specs.KindLaws.{row-input-is}
use Rattle.state.specs.Places.{slot_size, tree_room, slot_start}
use Rattle.state.specs.Session.{Destination, Progress, taken, advance, Queued, Session, with_tree, with_queue, with_progress, Slot, free, live, State}
use Rattle.state.specs.Session.{set_slot, new_session}
use Rattle.state.specs.Bytes.{zeros, slot_bytes, state_bytes, read_state}
use Rattle.state.specs.Shape.{WellMade, MadeSlot}
use Rattle.state.proofs.ShapeLaws.{new-made}
use Rattle.state.proofs.PartLaws.{length-zeros, part-replaced, replace-again}
use Rattle.state.proofs.SizeLaws.{message-size, slot-size}
use Rattle.state.proofs.FreshLaws.{replicate-zeros}
use Rattle.state.proofs.KeepLaws.{made-tree, made_row, made-key}
use Rattle.state.proofs.ReadLaws.{read-state}
use Rattle.move_rules.specs.Targets as definition
use Rattle.move_rules.specs.Keys.{key_to_keep}
use Rattle.move_rules.specs.Moves.{Result, refused, moved, require, allowed, on_live, started, must_find, deliver}
use Rattle.state.specs.Session.{received_by}
use Rattle.scalar.specs.Value.{void_value}
use Rattle.move_rules.specs.Step.{finish}
use Rattle.state_progress.specs.Stored.{row_stored}
use Rattle.state_slots.specs.SlotLaws.{row-set, tree_set, key_set, begin-set, living-set, set-again}
use Rattle.state_slots.specs.Living.{Living}
use Rattle.state_slots.specs.Slots.{begun, tree_stored, key_stored}
use Rattle.state_trees.specs.Changing.{ChangedTo, kept_bytes, ReplacesAt}
use Rattle.move_targets.specs.declared.Target.{Target}
use Rattle.move_targets.specs.Answers.{start_with, passes_input, PermitsInput, target_as, StarterExists, Targets}
use Rattle.move_fitting.specs.Fitting.{Passed, Passes}
use Rattle.move_keys.specs.Finding.{IsTarget, FoundAs, Finds}
use Rattle.move_frame.specs.Made.{StateOf}
use Rattle.move_frame.specs.MadeLaws.{target_is}
use Rattle.state_queues.specs.Queue.{pushed}
use Rattle.state_queues.specs.ChangeLaws.{push-state}
use Rattle.move_delivery.specs.declared.Arrival.{Arrival}
use Rattle.move_delivery.specs.Delivery.{on_verdict, Permitted, Allowed, MessageOffered, LetsIn, StartTree, AtSlot, ArrivesAs, Storable, StorableIf, Known}
use Rattle.move_delivery.specs.Delivery.{StartsBy, StartedAs, StartsSession, Queues, PlacedAs, PlacesMessage, admitting, AdmittedAs, Admits}
use Rattle.move_delivery.specs.Delivery.{started_with, StoresStart, Stores}
use Rattle.move_targets.specs.SessionLaws.{target-far}
use Rattle.move_frame.specs.HoldingLaws.{holding-sized, holding-bytes, holding-part}
use Rattle.std.specs.Prelude.{Option, Some, None}
use Rattle.std.specs.Prelude as std
use Rattle.std.specs.Prelude.{Ok, Err}

-- ---- 15 and 16

module _ {file : List ℕ} {q a : ℕ} {x : Bool} (h : PermitsInput file q a x) where
  pub is-permitted : x ≡ true → Permitted file q a (Ok tt)
  is-permitted e = record { tells = λ l r. ap (λ (y : Bool). require y MoveNotAllowed r) (sym e ∙ h.tells l) }

  pub not-permitted : x ≡ false → Permitted file q a (Err MoveNotAllowed)
  not-permitted e = record { tells = λ l r. ap (λ (y : Bool). require y MoveNotAllowed r) (sym e ∙ h.tells l) }

pub ruleset permitted-laws = (is-permitted, not-permitted)

module _ {file : List ℕ} {q : ℕ} {t : Target} where
  pub allowed-none : t ≡ Target.NoTarget → Allowed file q t (Err MoveNotAllowed)
  unfolding target_as
  allowed-none e = record { tells = λ x r. ap (λ (y : Target). allowed q (target_as file y) r) (sym e) }

  pub allowed-full : t ≡ Target.QueueFull → Allowed file q t (Err QueueFull)
  unfolding target_as
  allowed-full e = record { tells = λ x r. ap (λ (y : Target). allowed q (target_as file y) r) (sym e) }

  pub allowed-queued : t ≡ Target.Queued → Allowed file q t (Ok tt)
  unfolding target_as
  allowed-queued e = record { tells = λ x r. ap (λ (y : Target). allowed q (target_as file y) r) (sym e) }

  pub allowed-starts : {c k a : ℕ} {v : std.Result (Unit {0}) Refusal} → t ≡ Target.Starts c k a → Permitted file q a v → Allowed file q t v
  unfolding target_as
  allowed-starts {c} {k} {a} e h = record {
    tells = λ x r.
        h.tells (subst (StarterExists file) e x).1 r
        ∙ (passes (input_of (behaviour_of file a)) r ∙ ap (λ (y : Target). allowed q (target_as file y) r) (sym e));
  }
    where
      passes : (i : Optional Input) (r : Result) → require (passes_input q i) MoveNotAllowed r ≡ allowed q (start_with c k i) r
      passes none r = refl
      passes (some i) r = refl

pub ruleset allowed-laws = (allowed-none, allowed-full, allowed-queued, allowed-starts)

passing : {file : List ℕ} {q : ℕ} {t : Target} {v : std.Result (Unit {0}) Refusal} → Allowed file q t v → v ≡ (Ok tt) → StarterExists file t → (x : Result)
    → allowed q (target_as file t) x ≡ x
passing a d h x = sym (a.tells h x) ∙ ap (λ (u : std.Result (Unit {0}) Refusal). on_verdict u x) d

module _ {file : List ℕ} {q : ℕ} {t : Target} {l : List ℕ} {r : ℕ} {own : std.Result (Unit {0}) Refusal} {other : Refusal} {v : std.Result (Unit {0}) Refusal} (a : Allowed file q t v) where
  pub let-not : {why : Refusal} → v ≡ Err why → LetsIn file q t l r own other (Err why)
  let-not e = record { tells = λ w i h f c k. sym (a.tells h (f k)) ∙ ap (λ (u : std.Result (Unit {0}) Refusal). on_verdict u (f k)) e }

  module _ (d : v ≡ (Ok tt)) where
    pub let-own : {why : Refusal} → own ≡ Err why → LetsIn file q t l r own other (Err why)
    let-own e = record {
      tells = λ w i h f c k.
          passing a d h (f k) ∙ subst (λ (u : std.Result (Unit {0}) Refusal). MessageOffered u l other (type_of file r) f) e c k;
    }

    pub let-come : {u : std.Result (Unit {0}) Refusal} → own ≡ (Ok tt) → Passes l file r other u → LetsIn file q t l r own other u
    let-come {u} e p = record {
      tells = λ w i h f c. by u h f (p.tells w i f (subst (λ (z : std.Result (Unit {0}) Refusal). MessageOffered z l other (type_of file r) f) e c));
    }
      where
        by : (u : std.Result (Unit {0}) Refusal) → StarterExists file t → (f : (Tree Value → Result) → Result) → Passed u l f → Passed u l (λ k. allowed q (target_as file t) (f k))
        by (Ok tt) h f c = (c.0, c.1, λ k. passing a d h (f k) ∙ c.2 k)
        by (Err why) h f c = λ k. passing a d h (f k) ∙ c k

pub ruleset let-laws = (let-not, let-own, let-come)

-- ---- a slot that becomes a new session

new-living : (s : List ℕ) {s₁ : List ℕ} (slot : ℕ) → slot + slot_size ≤ length s → s₁ ≡ with_part s slot (slot_bytes (live new_session)) → Living s₁ slot new_session
new-living s {s₁} slot h e =
    let y = slot_bytes (live new_session) in
    let z : length y ≡ slot_size = slot-size (live new_session) new-made in
    subst (λ (t : List ℕ). Living t slot new_session) (sym e) (record {
      inside = omega (arith, h, z, length-with_part s slot y (omega (arith, h, z)));
      bytes = subst (λ (n : ℕ). part (with_part s slot y) slot n ≡ y) z (part-replaced s slot y (omega (arith, h)));
      made = new-made;
    })

-- The scratch slot, of zeros, holds a new session.
scratch-living : {n : ℕ} {s s₁ : List ℕ} → n ≡ slot_size → s ≡ replicate n 0 → s₁ ≡ begun s 0 → Living s₁ 0 new_session
unfolding slot_bytes
scratch-living {n} {s} {s₁} k e f =
    let z : s ≡ zeros slot_size = e ∙ (replicate-zeros n ∙ ap zeros k) in
    let l : length s ≡ slot_size = ap length z ∙ length-zeros slot_size in
    let p : part s 0 slot_size ≡ slot_bytes free = take_all slot_size s (omega (arith, l)) ∙ z in
    new-living s 0 (omega (arith, l)) (f ∙ begin-set s 0 (omega (arith, l)) p)

pub start-tree-is : {file : List ℕ} {p n : ℕ} {s s₁ l o : List ℕ} {x : Option ℕ} → n ≡ slot_size → s ≡ replicate n 0 → s₁ ≡ begun s 0
    → ReplacesAt file p s₁ 0 l o x → StartTree file p l o x
start-tree-is k e f h = record { tells = λ w q m g. h.tells w q new_session m (scratch-living k e f) g; small = h.small }

made-with : (F : Forest Value) → trees.WellFormedTree session_levels session_nodes (tree trees.empty F)
    → WellMade (with_tree new_session F)
made-with F w = made-tree new-made F w

started-made : (F : Forest Value) (c k a : ℕ) (after : Progress) (x : ℕ) → trees.WellFormedTree session_levels session_nodes (tree trees.empty F) → c < 256
    → a < 256 → x < 0x100000000 → WellMade (started_with F c k a after x)
started-made F c k a after x w l m i = made-key (made_row (made_row (made-with F w) c (taken k) l) a after m) x i

pub store-start : {s s₁ s₂ s₃ s₄ s₅ o : List ℕ} {slot n c k a x : ℕ} {after : Progress} → slot + slot_size ≤ length s → n ≤ 1024 → c < 256 → a < 256
    → x < 0x100000000 → s₁ ≡ begun s slot → s₂ ≡ tree_stored s₁ slot o n → s₃ ≡ row_stored s₂ slot c (taken k) → s₄ ≡ row_stored s₃ slot a after
    → s₅ ≡ key_stored s₄ slot x → StoresStart s slot o n c k a after x s₅
store-start {s} {s₁} {s₂} {s₃} {s₄} {s₅} {o} {slot} {n} {c} {k} {a} {x} {after} h u lc la lx e₁ e₂ e₃ e₄ e₅ = record {
  tells = λ F t size w free-slot.
      let S₁ : Session = with_tree new_session F in
      let S₂ : Session = with_progress S₁ (advance new_session.progress c (taken k)) in
      let S₃ : Session = with_progress S₁ (advance (advance new_session.progress c (taken k)) a after) in
      let S₄ : Session = started_with F c k a after x in
      let m₁ : WellMade S₁ = made-with F w in
      let m₂ : WellMade S₂ = made_row m₁ c (taken k) lc in
      let m₃ : WellMade S₃ = made_row m₂ a after la in
      let m₄ : WellMade S₄ = made-key m₃ x lx in
      let b₁ : s₁ ≡ with_part s slot (slot_bytes (live new_session)) = e₁ ∙ begin-set s slot h free-slot in
      let v₁ : Living s₁ slot new_session = new-living s slot h b₁ in
      let b₂ : s₂ ≡ with_part s₁ slot (slot_bytes (live S₁)) = e₂ ∙ tree_set v₁ F o n t size u in
      let v₂ : Living s₂ slot S₁ = subst (λ (y : List ℕ). Living y slot S₁) (sym b₂) (living-set v₁ S₁ m₁) in
      let b₃ : s₃ ≡ with_part s₂ slot (slot_bytes (live S₂)) = e₃ ∙ row-set v₂ c (taken k) lc in
      let v₃ : Living s₃ slot S₂ = subst (λ (y : List ℕ). Living y slot S₂) (sym b₃) (living-set v₂ S₂ m₂) in
      let b₄ : s₄ ≡ with_part s₃ slot (slot_bytes (live S₃)) = e₄ ∙ row-set v₃ a after la in
      let v₄ : Living s₄ slot S₃ = subst (λ (y : List ℕ). Living y slot S₃) (sym b₄) (living-set v₃ S₃ m₃) in
      let b₅ : s₅ ≡ with_part s₄ slot (slot_bytes (live S₄)) = e₅ ∙ key_set v₄ x in
      let z = slot_bytes (live S₄) in
      b₅ ∙ (ap (λ (y : List ℕ). with_part y slot z) b₄ ∙ (set-again v₃ S₃ (live S₄) m₃ m₄
      ∙ (ap (λ (y : List ℕ). with_part y slot z) b₃ ∙ (set-again v₂ S₂ (live S₄) m₂ m₄
      ∙ (ap (λ (y : List ℕ). with_part y slot z) b₂ ∙ (set-again v₁ S₁ (live S₄) m₁ m₄
      ∙ (ap (λ (y : List ℕ). with_part y slot z) b₁
      ∙ replace-again s slot (slot_bytes (live new_session)) z (omega (arith, h)) (slot-size (live S₄) m₄ ∙ sym (slot-size (live new_session) new-made)))))))));
}

-- ---- a session that starts, by its input's path

tree-changed : {file l o : List ℕ} {p : ℕ} {x y : Option ℕ} → StartTree file p l o x → x ≡ y → WellFormed file → p < path_count file → (m : Tree Value)
    → trees.Message l m → ChangedTo o y (replace_at void_value (network.path_of file p) m end)
tree-changed {file} {l} {o} {p} h e w lp m g = subst (λ (y : Option ℕ). ChangedTo o y (replace_at void_value (network.path_of file p) m end)) e (h.tells w lp m g)

module _ {file l o : List ℕ} {slot c k a p v : ℕ} {x : Option ℕ} (h : StartTree file p l o x) where
  pub by-large : x ≡ None → StartsBy file slot c k a p l v o (Err Stuck)
  by-large e = record { tells = λ w lc la lp m g. inl (refl, tree-changed h e w lp m g); storable = λ _ _. tt }

  module _ {n : ℕ} (e : x ≡ Some n) where
    pub by-far-choice : {y : Refusal} → 255 < c → StartsBy file slot c k a p l v o (Err y)
    by-far-choice u = record { tells = λ w lc la lp m g. absurd (omega (arith, u, lc, (counts-kept file w).behaviours)); storable = λ _ _. tt }

    pub by-far-input : {y : Refusal} → 255 < a → StartsBy file slot c k a p l v o (Err y)
    by-far-input u = record { tells = λ w lc la lp m g. absurd (omega (arith, u, la, (counts-kept file w).behaviours)); storable = λ _ _. tt }

    pub by-kept : c ≤ 255 → a ≤ 255 → v < 0x100000000 → StartsBy file slot c k a p l v o (Ok (Arrival.Starts slot c k a n v))
    by-kept lc la lv = record {
      tells = λ w _ _ lp m g. inr (n, refl, tree-changed h e w lp m g);
      storable = λ u i. (u, omega (arith, lc), omega (arith, la), subst (λ (y : Option ℕ). kept_bytes y ≤ tree_room) e h.small, lv);
    }

pub ruleset by-laws = (by-large, by-far-choice, by-far-input, by-kept)

-- ---- by its input

module _ (file l o : List ℕ) (slot c k a v : ℕ) {x : InputRow} {y : std.Result Arrival Refusal} (h : x ≡ input_row_of file a) where
  started-as : (z : InputRow) → x ≡ z → (slot + slot_size ≤ 65536 → (i : ℕ) → StorableIf i l y)
      → (WellFormed file → c < behaviour_count file → a < behaviour_count file → InputKeptBy file (behaviour_count file) z → (m : Tree Value) → trees.Message l m
      → StartedAs (input_with file (behaviour_of file) a z) slot c k a m v o y) → StartsSession file slot c k a l v o y
  started-as z e u f = record {
    tells = λ w lc la m g.
        let i = row-input-is file w a (behaviour_count file) (record { exists = la; enough = omega arith }) h e in
        subst (λ (z : Optional Input). StartedAs z slot c k a m v o y) (sym i.0) (f w lc la i.1 m g);
    storable = u;
  }

  pub start-one-way : {p q : ℕ} → x ≡ InputRow.OneWay p q → StartsBy file slot c k a q l v o y → StartsSession file slot c k a l v o y
  start-one-way {p} {q} e d = started-as (InputRow.OneWay p q) e d.storable (λ w lc la i m g. (refl, d.tells w lc la i.1 m g))

  pub start-request : {p q u w : ℕ} → x ≡ InputRow.RequestResponse p q u w → StartsBy file slot c k a q l v o y → StartsSession file slot c k a l v o y
  start-request {p} {q} {u} {w} e d =
      started-as (InputRow.RequestResponse p q u w) e d.storable (λ w lc la i m g. (refl, d.tells w lc la i.1 m g))

pub start_none : {file l o : List ℕ} {slot c k a v : ℕ} {x : InputRow} → x ≡ input_row_of file a → x ≡ InputRow.Nothing
    → StartsSession file slot c k a l v o (Err MoveNotAllowed)
start_none {file} {l} {o} {slot} {c} {k} {a} {v} h e = started-as file l o slot c k a v h InputRow.Nothing e (λ _ _. tt) (λ w lc la i m g. refl)

pub ruleset start-laws = (start-one-way, start-request, start_none)

-- ---- a queue

module _ {l : List ℕ} {slot i : ℕ} where
  pub queue-far : {y : Refusal} → 254 < i → Queues slot i l (Err y)
  queue-far u = record { tells = λ h m g. absurd (omega (arith, u, h)); storable = λ _. tt }

  pub queue_long : {y : Refusal} → 336 < length l → Queues slot i l (Err y)
  queue_long u = record { tells = λ h m g. absurd (omega (arith, u, ap length g.bytes, message-size m g.good)); storable = λ _. tt }

  pub queue-room : i ≤ 254 → length l ≤ 336 → Queues slot i l (Ok (Arrival.Queued slot))
  queue-room u v = record { tells = λ h m g. refl; storable = λ w. (w, omega (arith, u), v) }

pub ruleset queue-laws = (queue-far, queue_long, queue-room)

-- ---- placing

is-service : (file : List ℕ) (i : ℕ) {q : ℕ} → q ≡ operation_service file i → (operation_of file i).service ≡ q
unfolding operation_of
is-service file i x = sym x

at_slot : (file : List ℕ) (i n q slot : ℕ) → q ≡ operation_service file i → q ≤ 3 → n ≤ 3 → slot ≡ slot_start q n → AtSlot (operation_of file i) n slot
at_slot file i n q slot x lq ln c =
    (c ∙ ap (λ (j : ℕ). slot_start j n) (sym (is-service file i x)), omega (arith, lq, is-service file i x), omega (arith, ln))

inside : (q n slot : ℕ) → q ≤ 3 → n ≤ 3 → slot ≡ slot_start q n → slot + slot_size ≤ 65536
inside q n slot lq ln c = omega (arith, c, lq, ln)

module _ {file l o : List ℕ} {i n q v : ℕ} {t : Target} (x : q ≡ operation_service file i) where
  nowhere : (4 ≤ (operation_of file i).service) ⊎ (4 ≤ n) → PlacesMessage file i n t l v o (Err MoveNotAllowed)
  nowhere h = record {
    tells = λ w li se G te m g f gone to.
        ap (λ (u : definition.Target). deliver (network_of file) gone (operation_of file i) n u to m) (te ∙ target-far file G (operation_of file i) n w h);
    storable = tt;
  }

  pub far-service : 3 < q → PlacesMessage file i n t l v o (Err MoveNotAllowed)
  far-service u = nowhere (inl (omega (arith, u, is-service file i x)))

  pub far-session : 3 < n → PlacesMessage file i n t l v o (Err MoveNotAllowed)
  far-session u = nowhere (inr (omega (arith, u)))

  pub to_none : t ≡ Target.NoTarget → PlacesMessage file i n t l v o (Err MoveNotAllowed)
  unfolding target_as
  to_none f = record {
    tells = λ w li se G te m g d gone to. ap (λ (u : Target). deliver (network_of file) gone (operation_of file i) n (target_as file u) to m) f;
    storable = tt;
  }

  pub to-full : t ≡ Target.QueueFull → PlacesMessage file i n t l v o (Err QueueFull)
  unfolding target_as
  to-full f = record {
    tells = λ w li se G te m g d gone to. ap (λ (u : Target). deliver (network_of file) gone (operation_of file i) n (target_as file u) to m) f;
    storable = tt;
  }

  module _ {slot : ℕ} (lq : q ≤ 3) (ln : n ≤ 3) (c : slot ≡ slot_start q n) where
    pub to-queue : {y : std.Result Arrival Refusal} → t ≡ Target.Queued → Queues slot i l y → PlacesMessage file i n t l v o y
    unfolding target_as
    to-queue {y} f h = record {
      tells = λ w li se G te m g d.
          subst (PlacedAs file (operation_of file i) n (target_as file t) m o) (sym (h.tells (omega (arith, li, (counts-kept file w).operations)) m g))
          (at_slot file i n q slot x lq ln c, ap (target_as file) f);
      storable = h.storable (inside q n slot lq ln c);
    }

    pub to_start : {e k a : ℕ} {y : std.Result Arrival Refusal} → t ≡ Target.Starts e k a → StartsSession file slot e k a l v o y → PlacesMessage file i n t l v o y
    unfolding target_as
    to_start {e} {k} {a} {y} f h = record {
      tells = λ w li se G te m g d.
          let rows = subst (StarterExists file) f se in
          subst (λ (z : Target). PlacedAs file (operation_of file i) n (target_as file z) m o y) (sym f)
          (by w rows.1 m (input_of (behaviour_of file a)) refl d (h.tells w rows.0 rows.1 m g));
      storable = h.storable (inside q n slot lq ln c) i;
    }
      where
        by : WellFormed file → a < behaviour_count file → (m : Tree Value) (z : Optional Input) → input_of (behaviour_of file a) ≡ z
            → v ≡ key_to_keep (network_of file) (operation_of file i) m → StartedAs z slot e k a m v o y
            → PlacedAs file (operation_of file i) n (start_with e k z) m o y
        by w la m none j d r = subst (PlacedAs file (operation_of file i) n definition.no_target m o) (sym r) (λ gone to. refl)
        by w la m (some z) j d (ir, inl (r, u)) =
            subst (PlacedAs file (operation_of file i) n (definition.starts e k z) m o) (sym r) (λ gone to.
            ap (λ (b : Bool). require b Stuck (moved (set_slot gone (operation_of file i).service n
            (live (started e k z to m (key_to_keep (network_of file) (operation_of file i) m)))) [])) u)
        by w la m (some z) j d (ir, inr (len, r, u)) =
            subst (PlacedAs file (operation_of file i) n (definition.starts e k z) m o) (sym r) (at_slot file i n q slot x lq ln c, (z, refl, j, ir, la, u), d)

pub ruleset place-laws = (far-service, far-session, to_none, to-full, to-queue, to_start)

-- ---- admitting

request-below : (file : List ℕ) (i : ℕ) {r : ℕ} → r ≡ request_type file i → WellFormed file → i < operation_count file → r < type_count file
request-below file i e w l = subst (λ (j : ℕ). j < type_count file) (sym e) (operation-kept file w i l).request.exists

request-is : (file : List ℕ) (i : ℕ) {r : ℕ} → r ≡ request_type file i → type_of file r ≡ (operation_of file i).request
unfolding operation_of
request-is file i e = ap (type_of file) e

service-below : (file : List ℕ) (i : ℕ) {q : ℕ} → q ≡ operation_service file i → WellFormed file → i < operation_count file → q < service_count file
service-below file i e w l = subst (λ (j : ℕ). j < service_count file) (sym e) (operation-kept file w i l).owner

-- A message that was let in has a target.
is-target : (q : ℕ) (T : definition.Target) (f : (Tree Value → Result) → Result) (m : Tree Value)
    → ((k : Tree Value → Result) → allowed q T (f k) ≡ k m) → IsTarget T
is-target q T f m d e =
    let no : Tree Value → Result = λ _. refused QueueFull in
    let a : refused MoveNotAllowed ≡ refused QueueFull = ap (λ (U : definition.Target). allowed q U (f no)) (sym e) ∙ d no in
    let z : ◌≡◌ {A = ℕ} 0 1 = cc in omega arith

module _ {file s l : List ℕ} {i n : ℕ} {own : std.Result (Unit {0}) Refusal} {other : Refusal} {t : Target} {q b r : ℕ} {v : std.Result (Unit {0}) Refusal} (tg : Targets file s i n t)
    (sb : b ≡ operation_service file i) (sq : q ≡ b) (rt : r ≡ request_type file i) (lt : LetsIn file q t l r own other v) where
  let-in : WellFormed file → i < operation_count file → (G : State) → StateOf file s G → (f : (Tree Value → Result) → Result)
      → MessageOffered own l other (operation_of file i).request f
      → Passed v l (λ k. allowed (operation_of file i).service (definition.target (network_of file) G (operation_of file i) n) (f k))
  let-in w li G st f c =
      let o = operation_of file i in
      subst (λ (z : definition.Target). Passed v l (λ k. allowed o.service z (f k))) (target_is tg w st)
      (subst (λ (z : ℕ). Passed v l (λ k. allowed z (target_as file t) (f k))) (sym (is-service file i (sq ∙ sb)))
      (lt.tells w (request-below file i rt w li) (tg.exists w) f (subst (λ (z : MessageType). MessageOffered own l other z f) (sym (request-is file i rt)) c)))

  pub admit-not : {why : Refusal} {o : List ℕ} → v ≡ Err why → Admits file s i n l own other o (Err why)
  admit-not {why} e = record {
    tells = λ w li G st f c gone to.
        let op = operation_of file i in
        let T = definition.target (network_of file) G op n in
        subst (λ (u : std.Result (Unit {0}) Refusal). Passed u l (λ k. allowed op.service T (f k))) e (let-in w li G st f c)
        (λ m. must_find (network_of file) G op n m (deliver (network_of file) gone op n T to m));
    storable = tt;
  }

  module _ {y : Option ℕ} (e : v ≡ (Ok tt)) (d : Finds file s q n t l y) where
    -- The message that was let in, and its key.
    come : WellFormed file → i < operation_count file → (G : State) → StateOf file s G → (f : (Tree Value → Result) → Result)
        → MessageOffered own l other (operation_of file i).request f
        → (m : Tree Value) × trees.Message l m
        × ((k : Tree Value → Result) → allowed (operation_of file i).service (definition.target (network_of file) G (operation_of file i) n) (f k) ≡ k m)
        × FoundAs (network_of file) G (operation_of file i) n m y
    come w li G st f c =
        let op = operation_of file i in
        let T = definition.target (network_of file) G op n in
        let p = subst (λ (u : std.Result (Unit {0}) Refusal). Passed u l (λ k. allowed op.service T (f k))) e (let-in w li G st f c) in
        let found = d.tells w (service-below file i (sq ∙ sb) w li) op (is-service file i (sq ∙ sb)) (tg.tells w)
        (λ h. is-target op.service T f p.0 p.2 (sym (target_is tg w st) ∙ h)) p.0 p.1 in
        (p.0, p.1, p.2, subst (λ (H : State). FoundAs (network_of file) H op n p.0 y) (ap read_state st.bytes ∙ read-state st.shape) found)

    pub admit-another : {o : List ℕ} → y ≡ None → Admits file s i n l own other o (Err MoveNotAllowed)
    admit-another z = record {
      tells = λ w li G st f c gone to.
          let op = operation_of file i in
          let T = definition.target (network_of file) G op n in
          let p = come w li G st f c in
          p.2 (λ m. must_find (network_of file) G op n m (deliver (network_of file) gone op n T to m))
          ∙ ap (λ (b : Bool). require b MoveNotAllowed (deliver (network_of file) gone op n T to p.0))
          (subst (FoundAs (network_of file) G op n p.0) z p.3);
      storable = tt;
    }

    pub admit-in : {o : List ℕ} {r : ℕ} {x : std.Result Arrival Refusal} → y ≡ Some r → PlacesMessage file i n t l r o x → Admits file s i n l own other o x
    admit-in {o} {r} {x} z h = record {
      tells = λ w li G st f c.
          let op = operation_of file i in
          let T = definition.target (network_of file) G op n in
          let p = come w li G st f c in
          let k = subst (FoundAs (network_of file) G op n p.0) z p.3 in
          by G f p.0 p.1 (λ gone to.
          p.2 (λ m. must_find (network_of file) G op n m (deliver (network_of file) gone op n T to m))
          ∙ ap (λ (b : Bool). require b MoveNotAllowed (deliver (network_of file) gone op n T to p.0)) k.0) x
          (subst (λ (u : definition.Target). PlacedAs file op n u p.0 o x) (target_is tg w st)
          (h.tells w li (tg.exists w) G (target_is tg w st) p.0 p.1 k.1));
      storable = h.storable;
    }
      where
        by : (G : State) (f : (Tree Value → Result) → Result) (m : Tree Value) → trees.Message l m
            → ((gone : State) (to : Optional Destination) → admitting file G i n f gone to
            ≡ deliver (network_of file) gone (operation_of file i) n (definition.target (network_of file) G (operation_of file i) n) to m)
            → (x : std.Result Arrival Refusal) → PlacedAs file (operation_of file i) n (definition.target (network_of file) G (operation_of file i) n) m o x
            → AdmittedAs file G i n l o f x
        by G f m g d (Err why) p = λ gone to. d gone to ∙ p gone to
        by G f m g d (Ok y) p = (m, g, p, d)

pub ruleset admit-laws = (admit-not, admit-another, admit-in)

-- ---- storing

module _ {l o s : List ℕ} {i : ℕ} {to : Optional Destination} {y : Arrival} where
  pub store-queued : {s' : List ℕ} {slot : ℕ} → y ≡ Arrival.Queued slot → s' ≡ pushed s slot i to (part l 0 (length l)) → Stores i to l o y s s'
  unfolding operation_of
  store-queued {s'} {slot} e p = record {
    tells = λ file w li G g n t kn m k ar s₀ out.
        let op = operation_of file i in
        let at = subst (ArrivesAs file op n t m o) e ar in
        let z = subst (Known G op n) at.1 kn in
        let S = z.0 in
        let made : WellMade S = subst (λ (u : Slot). MadeSlot u) z.1 (g.made op.service n at.0.1 at.0.2) in
        let new : Queued = record { operation = i; message = m; reply_to = to } in
        let bytes : s' ≡ state_bytes (set_slot G op.service n (live (with_queue S (S.queue ++ (new ∷ []))))) =
        p ∙ (ap (pushed s slot i to) (take_all (length l) l (omega arith)) ∙ (ap (λ (j : ℕ). pushed s j i to l) at.0.0
        ∙ (ap (λ (u : List ℕ). pushed u (slot_start op.service n) i to l) g.bytes
        ∙ push-state (holding-sized g) op.service n at.0.1 at.0.2 z.1 made i to m l z.2 k.bytes k.good))) in
        ap (λ (u : List ℕ). record { outcome = done_with 0; state = u; out = out }) bytes
        ∙ (ap (λ (u : Slot). finish s₀ out (on_live u (λ S. moved (set_slot G op.service n (live (with_queue S (S.queue ++ (new ∷ []))))) []))) (sym z.1)
        ∙ ap (λ (u : definition.Target). finish s₀ out (deliver (network_of file) G op n u to m)) (sym at.1));
  }

  pub store-starts : {s' : List ℕ} {slot c k a len v : ℕ} {after : Progress} → y ≡ Arrival.Starts slot c k a len v → Storable i l y → after ≡ received_by to
      → StoresStart s slot o len c k a after v s' → Stores i to l o y s s'
  store-starts {s'} {slot} {c} {k} {a} {len} {v} {after} e u f d = record {
    tells = λ file w li G g n t kn m _ ar s₀ out.
        let op = operation_of file i in
        let at = subst (ArrivesAs file op n t m o) e ar in
        let room = subst (Storable i l) e u in
        let z = at.1.0 in
        let F = replace_at void_value z.into m end in
        let tree-kept = at.1.5 in
        let is_free : G op.service n ≡ free = subst (Known G op n) at.1.1 kn in
        let empty : part s slot slot_size ≡ slot_bytes free =
        ap (λ (j : ℕ). part s j slot_size) at.0.0 ∙ (holding-part g op.service n at.0.1 at.0.2 ∙ ap slot_bytes is_free) in
        let S = started c k z to m (key_to_keep (network_of file) op m) in
        let same : started_with F c k a after v ≡ S =
        ap (λ (p : Progress). started_with F c k a p v) f
        ∙ (ap (λ (r : ℕ). started_with F c k r (received_by to) v) (sym at.1.3) ∙ ap (started_with F c k z.row (received_by to)) at.2) in
        let made : WellMade S = subst WellMade same (started-made F c k a after v tree-kept.made room.1 room.2 room.4) in
        let bytes : s' ≡ state_bytes (set_slot G op.service n (live S)) =
        d.tells F tree-kept.bytes tree-kept.size tree-kept.made empty
        ∙ (ap (λ (x : Session). with_part s slot (slot_bytes (live x))) same ∙ (ap (λ (j : ℕ). with_part s j (slot_bytes (live S))) at.0.0
        ∙ holding-bytes g op.service n (live S) at.0.1 at.0.2 made)) in
        ap (λ (x : List ℕ). record { outcome = done_with 0; state = x; out = out }) bytes
        ∙ (ap (λ (b : Bool). finish s₀ out (require b Stuck (moved (set_slot G op.service n (live S)) []))) (sym tree-kept.fits)
        ∙ ap (λ (x : definition.Target). finish s₀ out (deliver (network_of file) G op n x to m)) (sym at.1.1));
  }

-- What the stores ask for.
pub room : (i : ℕ) (l : List ℕ) {y z : Arrival} → Storable i l y → y ≡ z → Storable i l z
room i l u e = subst (Storable i l) e u

pub ruleset store-laws = (store-queued, store-starts)
