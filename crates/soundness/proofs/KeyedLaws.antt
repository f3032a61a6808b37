-- Keys of messages and of sessions: what the test of a message's key tells of its target, and what keeps queues to their keys.
use Rattle.std.specs.Prelude.{◌≡◌, Bool, true, false, not, ◌&&◌, ◌||◌, List, [], ◌∷◌, ◌++◌, ℕ, ◌^◌, ◌≤◌, ◌<◌, T, eqb, leb, length}
use Rattle.std.proofs.Math.Path.{refl}
use Rattle.std.proofs.Common.{sym, ap, subst, ◌∙◌, arith, eqb-true, eq-eqb}
use Rattle.std.proofs.Math.Decide.{ℕ_discrete}
use Rattle.basics.specs.Choice.{pick}
use Rattle.basics.specs.TestLaws.{T_of, of_t, and_l, and_r, or_l, or_r, not-not, eq_of, ne_of, le_of, of_le, clash, true-false}
use Rattle.tree_forest.specs.Forest.{Forest, Tree, tree, Lookup, absent, present, find}
use Rattle.scalar.specs.Basic.{int}
use Rattle.scalar.specs.Value.{Value, value, is_value}
use Rattle.scalar.specs.NumberLaws.{number-below, bytes-all}
use Rattle.wire.specs.Wire.{unsigned_of}
use Rattle.network_syntax.specs.Syntax.{Optional, none, some, Network, Operation}
use Rattle.network_syntax.specs.Keys.{key_id, is_keyed, holds_key}
use Rattle.network_syntax.specs.ViewLaws.{some_inj}
use Rattle.state.specs.Session.{Queued, Session, with_progress, Progresses, Slot, free, live, State, set_slot}
use Rattle.state.proofs.KeyLaws.{key_in, not_live, held-keyed, held_first, held-last, held_of, KeySuits}
use Rattle.move_rules.specs.Targets.{Target, no_target, queue_full, queued, starts, target}
use Rattle.move_rules.specs.Keys.{int_of, key_of, key_or_zero, key_to_keep, live_with, finds_by_key, finds_by, finds_session}
use Rattle.soundness.specs.GoodTrees.{GoodTree, GoodLookup}
use Rattle.soundness.proofs.GoodTreesLaws.{good-find}
use Rattle.soundness.specs.KeyedQueues.{AllOfKey, KeyedQueue}
use Rattle.soundness.specs.Invariant.{KeySound}

-- ---- a queue by its key

pub of-key-more : (k x : ℕ) (l : List Queued) (m : Queued) → AllOfKey k x l → key_of k m.message ≡ some x → AllOfKey k x (l ++ (m ∷ []))
unfolding AllOfKey
of-key-more k x [] m a e = (e, tt)
of-key-more k x (b ∷ l) m a e = (a.0, of-key-more k x l m a.1 e)

-- ---- the key of a message

-- An int is four bytes.
int-below : (l : Lookup Value) → GoodLookup l → (x : ℕ) → int_of l ≡ some x → x < 0x100000000
unfolding is_value
int-below absent g x e = absurd (let z : ◌≡◌ {A = ℕ} 0 1 = cc in omega arith)
int-below (present (tree (value b v) k)) g x e = by (eqb b int) refl e
  where
    four : is_value int v ≡ true → length v ≡ 4
    four h = eqb-true (length v) 4 h

    by : (t : Bool) → eqb b int ≡ t → pick t (some (unsigned_of v)) none ≡ some x → x < 0x100000000
    by true f h =
        let z : length v ≡ 4 = four (subst (λ (c : ℕ). is_value c v ≡ true) (eq_of b int f) g.0.valid) in
        let y : unsigned_of v < 256 ^ length v = number-below (bytes-all v g.0.bytes.small) in
        let w : unsigned_of v < 0x100000000 = rw z at y in
        subst (λ (c : ℕ). c < 0x100000000) (some_inj h) w
    by false f h = absurd (let z : ◌≡◌ {A = ℕ} 0 1 = cc in omega arith)

pub key_below : (k : ℕ) (m : Tree Value) → GoodTree m → (x : ℕ) → key_of k m ≡ some x → x < 0x100000000
key_below k (tree v l) g x e = int-below (find k l) (good-find k l g.1) x e

-- ---- what the test of its key tells of a message's target

module _ (N : Network) (o : Operation) (n : ℕ) (m : Tree Value) where
  abbrev key : Optional ℕ
  key = key_of (key_id N o.service) m

  -- A live target has the message's key; of a free one no live session 1 to 3 has it.
  abbrev pub KeyInfo : State → Target → Type 0
  KeyInfo G no_target = Unit {0}
  KeyInfo G queue_full = Unit {0}
  KeyInfo G queued = T (is_keyed N o.service) → (n ≡ 0 → ⊥) × ((S : Session) → G o.service n ≡ live S → key ≡ some S.key)
  KeyInfo G (starts c k i) =
      T (is_keyed N o.service) → (x : ℕ) × (key ≡ some x)
      × ((j : ℕ) (S : Session) → 1 ≤ j → j ≤ 3 → G o.service j ≡ live S → S.key ≡ x → ⊥)

  live-key : (x : ℕ) (s : Slot) (S : Session) → T (live_with x s) → s ≡ live S → x ≡ S.key
  live-key x free S t e = absurd t
  live-key x (live R) S t e = sym (eq_of R.key x (of_t (eqb R.key x) t)) ∙ ap key_in e

  key_live : (x : ℕ) (s : Slot) (S : Session) → s ≡ live S → S.key ≡ x → T (live_with x s)
  key_live x s S e f = subst (λ (z : Slot). T (live_with x z)) (sym e) (T_of (eq-eqb S.key x f))

  module _ (g : ℕ → Slot) (x : ℕ) (h : T (not (live_with x (g 1) || (live_with x (g 2) || live_with x (g 3))))) where
    none-live : (j : ℕ) (S : Session) → 1 ≤ j → j ≤ 3 → g j ≡ live S → S.key ≡ x → ⊥
    none-live j S i l e f = not-not (a || (b || c)) h (by (ℕ_discrete j 1) (ℕ_discrete j 2))
      where
        a : Bool
        a = live_with x (g 1)

        b : Bool
        b = live_with x (g 2)

        c : Bool
        c = live_with x (g 3)

        t : T (live_with x (g j))
        t = key_live x (g j) S e f

        by : Dec (j ≡ 1) → Dec (j ≡ 2) → T (a || (b || c))
        by (yes z) w = or_l a (b || c) (rw z at t)
        by (no z) (yes w) = or_r a (b || c) (or_l b c (rw w at t))
        by (no z) (no w) = let u : j ≡ 3 = omega arith in or_r a (b || c) (or_r b c (rw u at t))

  info-by : (G : State) (t : Target) (y : Optional ℕ) → key ≡ y → T (finds_by (G o.service) n t y) → KeyInfo G t
  info-by G t none e h = absurd h
  info-by G no_target (some x) e h = tt
  info-by G queue_full (some x) e h = tt
  info-by G queued (some x) e h = λ w. (
    (λ z. ne_of n 0 (of_t (not (eqb n 0)) (and_l (not (eqb n 0)) (live_with x (G o.service n)) h)) z),
    (λ S f. e ∙ ap some (live-key x (G o.service n) S (and_r (not (eqb n 0)) (live_with x (G o.service n)) h) f)),
  )
  info-by G (starts c k i) (some x) e h = λ w. (x, e, none-live (G o.service) x h)

  pub key-info : (G : State) → T (finds_session N G o n m) → KeyInfo G (target N G o n)
  key-info G h = by (is_keyed N o.service) refl h
    where
      unkeyed : (t : Target) → is_keyed N o.service ≡ false → KeyInfo G t
      unkeyed no_target e = tt
      unkeyed queue_full e = tt
      unkeyed queued e = λ w. absurd (clash (of_t (is_keyed N o.service) w) e)
      unkeyed (starts c k i) e = λ w. absurd (clash (of_t (is_keyed N o.service) w) e)

      by : (b : Bool) → is_keyed N o.service ≡ b → T (pick b (finds_by (G o.service) n (target N G o n) key) true) → KeyInfo G (target N G o n)
      by true e t = info-by G (target N G o n) key refl t
      by false e t = unkeyed (target N G o n) e

-- ---- the key of a session that a message starts

module _ (N : Network) (o : Operation) (m : Tree Value) where
  kept-below : (b : Bool) (y : Optional ℕ) → ((x : ℕ) → y ≡ some x → x < 0x100000000) → pick b (key_or_zero y) 0 < 0x100000000
  kept-below true none f = omega arith
  kept-below true (some x) f = f x refl
  kept-below false y f = omega arith

  kept-none : (n : ℕ) → 1 ≤ n → n ≤ 3 → holds_key N o.service n ≡ false → key_to_keep N o m ≡ 0
  kept-none n i j h = by (is_keyed N o.service) refl
    where
      by : (b : Bool) → is_keyed N o.service ≡ b → pick b (key_or_zero (key_of (key_id N o.service) m)) 0 ≡ 0
      by true e = absurd (clash (of_t (holds_key N o.service n) (held_of N o.service n e i j)) h)
      by false e = refl

  pub start-key : GoodTree m → (n : ℕ) → 1 ≤ n → n ≤ 3 → KeySound N o.service n (key_to_keep N o m) []
  unfolding AllOfKey
  start-key g n i j = record {
    fits = kept-below (is_keyed N o.service) (key_of (key_id N o.service) m) (key_below (key_id N o.service) m g);
    none = kept-none n i j;
    queue = record { of_key = λ h. tt; first = λ h e. refl };
  }

  pub start-suits : (G : State) (n c k : ℕ) {S : Session} → S.key ≡ key_to_keep N o m → 1 ≤ n → n ≤ 3
      → (T (is_keyed N o.service) → (x : ℕ) × (key_of (key_id N o.service) m ≡ some x)
      × ((j : ℕ) (R : Session) → 1 ≤ j → j ≤ 3 → G o.service j ≡ live R → R.key ≡ x → ⊥))
      → KeySuits N G o.service n (live S)
  start-suits G n c k {S} e i j info = record {
    none = λ U f h. sym (ap key_in f) ∙ e ∙ kept-none n i j h;
    new = λ U f l R a b g w.
        let q = o.service in
        let keyed = held-keyed N q n a in
        let y = info (T_of keyed) in
        let u : key_to_keep N o m ≡ y.0 =
        ap (λ (t : Bool). pick t (key_or_zero (key_of (key_id N q) m)) 0) keyed ∙ ap key_or_zero y.1 in
        absurd (y.2 l R (held_first N q l b) (held-last N q l b) g (sym w ∙ sym (ap key_in f) ∙ e ∙ u));
  }
