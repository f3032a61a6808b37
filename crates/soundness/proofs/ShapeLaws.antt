-- A sound state has the file's shape, so it has a byte form and is read back from it.
use Rattle.std.specs.Prelude.{◌≡◌, refl, ℕ, zero, suc, ◌≤◌, ◌<◌, true, ◌&&◌, ◌||◌, List, [], ◌∷◌, ◌⊎◌, T, leb, length}
use Rattle.std.proofs.Common.{sym, subst, inl, inr, arith, leb→le}
use Rattle.basics.specs.TestLaws.{and_i, and_l, and_r, of_t, or_l, or_r}
use Rattle.tree_forest.specs.Forest.{tree, nodes, levels}
use Rattle.network_syntax.specs.Syntax.{Optional, some, Network, Operation, Behaviour}
use Rattle.network_syntax.specs.Rows.{has_row}
use Rattle.check_typing.proofs.TypedLaws.{by_bool}
use Rattle.state.specs.Session.{Progress, Progresses, undone, Queued, Session, Slot, free, live, State}
use Rattle.state.specs.Shape.{operation_of_row, suits_operation, suits_queue, is_undone, suits, quiet_elsewhere, suits_behaviour, suits_slot, AllMessages}
use Rattle.state.specs.Shape.{WellMade, MadeSlot, HasShape}
use Rattle.soundness.proofs.GoodTreesLaws.{proper-void}
use Rattle.network.specs.Shapes.{Outside}
use Rattle.soundness.specs.Accepted.{Accepted}
use Rattle.soundness.proofs.MadeLaws.{row_below}
use Rattle.soundness.specs.Invariant.{AllQueued, SessionSound, KeySound, Sound}
use Rattle.soundness.proofs.SessionLaws.{made_of, tree-limit}
use Rattle.soundness.proofs.DeliverLaws.{behaviour-place}

all-messages : (N : Network) (rows q : ℕ) (l : List Queued) → AllQueued N rows q l → AllMessages l
unfolding AllQueued AllMessages
all-messages N rows q [] a = tt
all-messages N rows q (m ∷ l) a = (a.0.good, all-messages N rows q l a.1)

queue-suits : (N : Network) (rows q : ℕ) (l : List Queued) → AllQueued N rows q l → T (suits_queue N rows q l)
unfolding AllQueued suits_queue
queue-suits N rows q [] a = tt
queue-suits N rows q (m ∷ l) a =
    and_i (suits_operation N rows q m.reply_to (operation_of_row N.operations m.operation)) (suits_queue N rows q l)
    (subst (λ (o : Optional Operation). T (suits_operation N rows q m.reply_to o)) (sym a.0.there) a.0.suit) (queue-suits N rows q l a.1)

quiet-suits : (n : ℕ) (p : Progresses) (B : Behaviour) → ((r : ℕ) → Outside r B → p r ≡ undone) → T (quiet_elsewhere n p B)
unfolding quiet_elsewhere
quiet-suits zero p B h = tt
quiet-suits (suc n) p B h =
    and_i (has_row n B || is_undone (p n)) (quiet_elsewhere n p B)
    (by_bool (has_row n B) (λ t. or_l (has_row n B) (is_undone (p n)) t)
    (λ t. or_r (has_row n B) (is_undone (p n)) (subst (λ (s : Progress). T (is_undone s)) (sym (h n t)) tt)))
    (quiet-suits n p B h)

module _ (N : Network) (rows : ℕ) (acc : Accepted N rows) where
  session-made : (q n : ℕ) (S : Session) → SessionSound N rows q n S → KeySound N q n S.key S.queue → WellMade S
  session-made q n S h k =
      let w = tree-limit N rows acc q n S h in
      let F = S.tree in
      record {
        bounded = record {
          root = proper-void;
          sound = h.good.1;
          rising = h.good.0;
          shallow = leb→le (levels F) 6 (and_r (leb (nodes F) 48) (leb (levels F) 6) w);
          few = leb→le (nodes F) 48 (and_l (leb (nodes F) 48) (leb (levels F) 6) w);
        };
        up_to_four = h.few;
        messages = all-messages N rows q S.queue h.queued;
        no_rows_past = λ r past. h.quiet r (λ t. absurd (let z = row_below N rows h.what r (made_of N rows acc q n h.what h.runs) t in
            let y = acc.few_rows in omega arith));
        key_fits = k.fits;
      }

  session-suits : (q n : ℕ) (S : Session) → SessionSound N rows q n S → suits_slot N rows q n (live S) ≡ true
  session-suits q n S h =
      subst (λ (b : Optional Behaviour). suits_behaviour N rows q S b ≡ true) (sym h.runs)
      (of_t (suits_behaviour N rows q S (some h.what))
      (and_i (suits_queue N rows q S.queue) (suits N rows S.progress h.what && quiet_elsewhere 256 S.progress h.what)
      (queue-suits N rows q S.queue h.queued)
      (and_i (suits N rows S.progress h.what) (quiet_elsewhere 256 S.progress h.what) h.suit
      (quiet-suits 256 S.progress h.what h.quiet))))

  pub sound-shape : (G : State) → Sound N rows G → HasShape N rows G
  sound-shape G h =
      record {
        made = λ q n a b. made q n (G q n) refl;
        suited = λ q n a b. suited q n (G q n) refl;
        elsewhere = λ q n far. free-there q n far (G q n) refl;
        keyless = λ q n S w e. (h.keys q n S e).none w;
        keys_apart = h.keys_apart;
      }
    where
      made : (q n : ℕ) (x : Slot) → G q n ≡ x → MadeSlot x
      made q n free e = tt
      made q n (live S) e = session-made q n S (h.sessions q n S e) (h.keys q n S e)

      suited : (q n : ℕ) (x : Slot) → G q n ≡ x → suits_slot N rows q n x ≡ true
      suited q n free e = refl
      suited q n (live S) e = session-suits q n S (h.sessions q n S e)

      near : (q n : ℕ) → (4 ≤ q) ⊎ (4 ≤ n) → q < length N.services → n ≤ 3 → ⊥
      near q n (inl a) b c = let y = acc.few_services in omega arith
      near q n (inr a) b c = omega arith

      free-there : (q n : ℕ) → (4 ≤ q) ⊎ (4 ≤ n) → (x : Slot) → G q n ≡ x → G q n ≡ free
      free-there q n far free e = e
      free-there q n far (live S) e =
          let k = h.sessions q n S e in
          let place = behaviour-place N q n k.what k.runs in
          absurd (near q n far place.0 place.1)
