-- The message that a receive takes, at each of the ways out of the code.
use mathlib.Core.Path.{◌≡◌, ap, subst, ◌∙◌}
use mathlib.Core.Bool.{Bool}
use mathlib.Core.List.{List, []}
use Prim.Native.Nat.{ℕ, ◌+◌, ◌-◌, ◌<◌, ◌≤◌}
use native.Mathlib.Omega.{arith}
use lib.ListN.{take, drop}
use Rattle.tree_forest.specs.Path.{Path, replace_at}
use Rattle.wire.specs.Wire.{part}
use Rattle.tree.specs.Encode.{Encodes}
use Rattle.tree_forest.specs.Limits.{message_levels_below, message_nodes_below}
use Rattle.tree.specs.Ids.{is_path, path_from_ids}
use Rattle.network.specs.Form.{WellFormed}
use Rattle.network.specs.Layout.{path_count}
use Rattle.network.specs.Decode as network
use Rattle.network_rows.specs.Readers.{path_ids}
use Rattle.state.specs.Places.{entry_start}
use Rattle.refusal.specs.declared.Refusal.{Refusal}
use Rattle.refusal.specs.declared.Refusal.TheVariants.{MoveNotAllowed, Stuck}
use Rattle.state.specs.Session.{Progresses, advance, received_by, Session, with_tree, with_queue, with_progress, live, State, set_slot}
use Rattle.move_rules.specs.Moves.{Result, moved, require, receive_message}
use Rattle.state.specs.Bytes.{read_entry, read_session}
use Rattle.scalar.specs.Value.{void_value}
use Rattle.state_queues.specs.declared.Span.{Span}
use Rattle.state_queues.specs.Queue.{message_span, oldest_in, without}
use Rattle.state_queues.specs.ReadLaws.{oldest-entry}
use Rattle.state_queues.specs.ChangeLaws.{EntryStands, live-entry, live-nothing, live_below, live-oldest}
use Rattle.state_slots.specs.SlotLaws.{living-holds}
use Rattle.state_slots.specs.Living.{Living}
use Rattle.state_trees.specs.Changing.{KeptTree, ChangedTo, Replaces}
use Rattle.network_row_parts.specs.PathLaws.{path-is, ids-path}
use Rattle.move_receive.specs.Receiving.{Takes}
use Rattle.std.specs.Prelude as std
use Rattle.std.specs.Prelude.{Option, Some, None, Ok, Err}

-- ---- the oldest message

module _ (file s : List ℕ) (slot o p : ℕ) {r : Option ℕ} (is : r ≡ oldest_in o (read_session s slot).queue) where
  pub take-nothing : {out : List ℕ} → r ≡ None → Takes file s slot o p out (Err MoveNotAllowed)
  take-nothing e = record {
    tells = λ w l S h i G q n j y. ap (receive_message G q n S (network.path_of file p) y j) (live-nothing h.made (living-holds h) o is e);
    bounds = λ k n z. absurd (let y : ◌≡◌ {A = ℕ} 0 1 = cc in omega arith);
  }

  module _ (k : ℕ) (e : r ≡ Some k) where
    pub take_below : k < 4
    take_below = oldest-entry s slot o is k e

    stands : {S : Session} → Living s slot S → EntryStands s slot k
    stands h = live-entry h.made (living-holds h) k (live_below h.made (living-holds h) o is k e)

    module _ {m : Span} (d : m ≡ message_span s slot k) where
      pub take-start : m.start ≡ entry_start slot k + 8
      unfolding message_span
      take-start = let z = ap (λ (t : Span). t.start) d in omega (arith, z)

      short : {S : Session} → Living s slot S → m.len ≤ 336
      short h = omega (arith, ap (λ (t : Span). t.len) d, (stands h).small)

      pub take_long : {out : List ℕ} → 336 < m.len → Takes file s slot o p out (Err Stuck)
      take_long l = record {
        tells = λ w g S h i. absurd (omega (arith, l, short h));
        bounds = λ j n z. absurd (let y : ◌≡◌ {A = ℕ} 0 1 = cc in omega arith);
      }

      module _ {ids : List ℕ} (f : ids ≡ path_ids file p) {out : List ℕ} {c : Option ℕ}
          (rep : Replaces s slot ids (take (m.start + m.len - m.start) (drop m.start s)) out c) where
        lent : {S : Session} → Living s slot S
            → Encodes message_levels_below message_nodes_below (take (m.start + m.len - m.start) (drop m.start s)) (read_entry s (entry_start slot k)).message
        lent h =
            let z : m.start + m.len - m.start ≡ m.len = omega arith in
            record {
              bytes = ap (λ (n : ℕ). take n (drop m.start s)) z ∙ (ap (λ (t : Span). part s t.start t.len) d ∙ (stands h).bytes);
              good = (stands h).good;
            }

        changed : WellFormed file → p < path_count file → (S : Session) → Living s slot S
            → ChangedTo out c (replace_at void_value (network.path_of file p) (read_entry s (entry_start slot k)).message S.tree)
        changed w l S h =
            subst (λ (x : Path). ChangedTo out c (replace_at void_value x (read_entry s (entry_start slot k)).message S.tree)) (ap path_from_ids f ∙ path-is file p)
            (rep.tells S (read_entry s (entry_start slot k)).message h (ap is_path f ∙ ids-path file w p l) (lent h))

        pub take-large : c ≡ None → Takes file s slot o p out (Err Stuck)
        take-large i = record {
          tells = λ w l S h j G q n b y.
              let E = read_entry s (entry_start slot k) in
              let F = replace_at void_value (network.path_of file p) E.message S.tree in
              let after = with_queue (with_progress (with_tree S F) (advance y b (received_by E.reply_to))) (without k S.queue) in
              ap (receive_message G q n S (network.path_of file p) y b) (live-oldest h.made (living-holds h) o is k e)
              ∙ ap (λ (t : Bool). require t Stuck (moved (set_slot G q n (live after)) []))
              (subst (λ (z : Option ℕ). ChangedTo out z F) i (changed w l S h));
          bounds = λ j n z. absurd (let y : ◌≡◌ {A = ℕ} 0 1 = cc in omega arith);
        }

        module _ (n : ℕ) (i : c ≡ Some n) where
          kept : WellFormed file → p < path_count file → (S : Session) → Living s slot S
              → KeptTree out n (replace_at void_value (network.path_of file p) (read_entry s (entry_start slot k)).message S.tree)
          kept w l S h =
              subst (λ (y : Option ℕ). ChangedTo out y (replace_at void_value (network.path_of file p) (read_entry s (entry_start slot k)).message S.tree)) i
              (changed w l S h)

          pub take_past : 1024 < n → Takes file s slot o p out (Err Stuck)
          take_past g = record {
            tells = λ w l S h j. absurd (omega (arith, g, (kept w l S h).small));
            bounds = λ j n z. absurd (let y : ◌≡◌ {A = ℕ} 0 1 = cc in omega arith);
          }

          pub take-message : n ≤ 1024 → Takes file s slot o p out (Ok (k, n))
          take-message g = record {
            tells = λ w l S h j. (
              live-oldest h.made (living-holds h) o is k e,
              live_below h.made (living-holds h) o is k e,
              kept w l S h,
            );
            bounds = λ j t z. by j t z;
          }
            where
              by : (j t : ℕ) → ◌≡◌ {A = std.Result (ℕ × ℕ) Refusal} (Ok (k, n)) (Ok (j, t)) → (j < 4) × (t ≤ 1024)
              by j t z =
                  let x : ◌≡◌ {A = ℕ × ℕ} (k, n) (j, t) = cc in
                  (omega (arith, ap (λ (u : ℕ × ℕ). u.0) x, take_below), omega (arith, ap (λ (u : ℕ × ℕ). u.1) x, g))
