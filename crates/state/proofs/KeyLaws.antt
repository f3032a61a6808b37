-- The keys of a state: the tests of `suits_all_keys` and the rules `NoKeyElsewhere` and `KeysApart` say the same, and what keeps the rules
-- when a slot is changed.
use Rattle.std.specs.Prelude.{◌≡◌, Bool, false, not, ◌&&◌, ◌⊎◌, T, leb}
use Rattle.std.proofs.Math.Path.{refl}
use Rattle.std.proofs.Common.{sym, ap, ◌∙◌, inl, inr, arith, eqb-true, eq-eqb, ne_eqb}
use Rattle.std.proofs.Math.Bool.{true}
use Prim.Native.Nat.{ℕ, zero, suc, ◌≤◌, ◌<◌}
use Rattle.std.proofs.Math.Decide.{dec_lt, ℕ_discrete}
use Rattle.basics.specs.TestLaws.{T_of, of_t, and_l, and_r, and_left, and_right, le_of, of_le, ne_of, clash}
use Rattle.network_syntax.specs.Syntax.{Network}
use Rattle.network_syntax.specs.Keys.{is_keyed, holds_key}
use Rattle.state.specs.Session.{Session, Slot, free, live, State, set_slot}
use Rattle.state.specs.Shape.{KeysApart, NoKeyElsewhere, has_no_key, keys_differ, suits_keys, suits_all_keys}
use Rattle.state.proofs.ChangeLaws.{slot_same, set_other}

-- The key of a slot; 0 of a free one.
abbrev pub key_in : Slot → ℕ
key_in free = 0
key_in (live S) = S.key

pub not_live : {S : Session} → free ≡ live S → ⊥
not_live e = let z : ◌≡◌ {A = ℕ} 0 1 = cc in omega arith

-- ---- which sessions hold keys

module _ (N : Network) (q n : ℕ) where
  pub held-keyed : T (holds_key N q n) → is_keyed N q ≡ true
  held-keyed h = of_t (is_keyed N q) (and_l (is_keyed N q) (leb 1 n && leb n 3) h)

  pub held_first : T (holds_key N q n) → 1 ≤ n
  held_first h = le_of 1 n (of_t (leb 1 n) (and_l (leb 1 n) (leb n 3) (and_r (is_keyed N q) (leb 1 n && leb n 3) h)))

  pub held-last : T (holds_key N q n) → n ≤ 3
  held-last h = le_of n 3 (of_t (leb n 3) (and_r (leb 1 n) (leb n 3) (and_r (is_keyed N q) (leb 1 n && leb n 3) h)))

  pub held_of : is_keyed N q ≡ true → 1 ≤ n → n ≤ 3 → T (holds_key N q n)
  held_of k i j = T_of {b = holds_key N q n} (rw (k, of_le 1 n i, of_le n 3 j))

pub none_first : (N : Network) (q : ℕ) → holds_key N q 0 ≡ false
none_first N q = by (is_keyed N q)
  where
    by : (b : Bool) → (b && (leb 1 0 && leb 0 3)) ≡ false
    by true = refl
    by false = refl

pub none-unkeyed : (N : Network) (q n : ℕ) → is_keyed N q ≡ false → holds_key N q n ≡ false
none-unkeyed N q n e = rw e

-- ---- from the rules to the tests

module _ (N : Network) (G : State) (none : NoKeyElsewhere N G) (apart : KeysApart N G) where
  has-none : (q n : ℕ) → holds_key N q n ≡ false → has_no_key (G q n) ≡ true
  has-none q n e = by (G q n) refl
    where
      by : (x : Slot) → G q n ≡ x → has_no_key x ≡ true
      by free g = refl
      by (live S) g = eq-eqb S.key 0 (none q n S e g)

  differ : (q n m : ℕ) → is_keyed N q ≡ true → 1 ≤ n → n < m → m ≤ 3 → keys_differ (G q n) (G q m) ≡ true
  differ q n m k i j l = by (G q n) (G q m) refl refl
    where
      by : (x y : Slot) → G q n ≡ x → G q m ≡ y → keys_differ x y ≡ true
      by free y e f = refl
      by (live S) free e f = refl
      by (live S) (live R) e f =
          ap not (ne_eqb S.key R.key
          (λ g. absurd (let z = apart q n m S R (held_of N q n k i (omega arith)) (held_of N q m k (omega arith) l) e f g in omega arith)))

  keys-at : (q : ℕ) (b : Bool) → is_keyed N q ≡ b → suits_keys b (G q) ≡ true
  keys-at q true e =
      rw (
        has-none q 0 (none_first N q),
        differ q 1 2 e (omega arith) (omega arith) (omega arith),
        differ q 1 3 e (omega arith) (omega arith) (omega arith),
        differ q 2 3 e (omega arith) (omega arith) (omega arith),
      )
  keys-at q false e =
      rw (
        has-none q 0 (none-unkeyed N q 0 e),
        has-none q 1 (none-unkeyed N q 1 e),
        has-none q 2 (none-unkeyed N q 2 e),
        has-none q 3 (none-unkeyed N q 3 e),
      )

  pub suit-keys : (n : ℕ) → suits_all_keys N G n ≡ true
  unfolding suits_all_keys
  suit-keys zero = refl
  suit-keys (suc q) = rw (keys-at q (is_keyed N q) refl, suit-keys q)

-- ---- from the tests to the rules

module _ (N : Network) (G : State) where
  keys-each : (n : ℕ) → suits_all_keys N G n ≡ true → (q : ℕ) → q < n → suits_keys (is_keyed N q) (G q) ≡ true
  unfolding suits_all_keys
  keys-each zero h q i = absurd (omega arith)
  keys-each (suc n) h q i =
      let a = suits_keys (is_keyed N n) (G n) in
      by (ℕ_discrete q n) (and_left a (suits_all_keys N G n) h) (keys-each n (and_right a (suits_all_keys N G n) h) q)
    where
      by : Dec (q ≡ n) → suits_keys (is_keyed N n) (G n) ≡ true → (q < n → suits_keys (is_keyed N q) (G q) ≡ true) → suits_keys (is_keyed N q) (G q) ≡ true
      by (yes e) x y = rw e x
      by (no e) x y = y (omega arith)

module _ (g : ℕ → Slot) where
  -- The sessions of a service by number.
  none-at : has_no_key (g 0) ≡ true → (has_no_key (g 1) && (has_no_key (g 2) && has_no_key (g 3))) ≡ true → (n : ℕ) → n < 4 → has_no_key (g n) ≡ true
  none-at h k zero i = h
  none-at h k (suc zero) i = and_left (has_no_key (g 1)) (has_no_key (g 2) && has_no_key (g 3)) k
  none-at h k (suc (suc zero)) i = and_left (has_no_key (g 2)) (has_no_key (g 3)) (and_right (has_no_key (g 1)) (has_no_key (g 2) && has_no_key (g 3)) k)
  none-at h k (suc (suc (suc zero))) i =
      and_right (has_no_key (g 2)) (has_no_key (g 3)) (and_right (has_no_key (g 1)) (has_no_key (g 2) && has_no_key (g 3)) k)
  none-at h k (suc (suc (suc (suc n)))) i = absurd (omega arith)

  differ-at : suits_keys true g ≡ true → (n m : ℕ) → 1 ≤ n → n < m → m ≤ 3 → keys_differ (g n) (g m) ≡ true
  differ-at h n m i j l = by (ℕ_discrete n 1) (ℕ_discrete m 2)
    where
      a : Bool
      a = keys_differ (g 1) (g 2)

      b : Bool
      b = keys_differ (g 1) (g 3)

      c : Bool
      c = keys_differ (g 2) (g 3)

      all : (a && (b && c)) ≡ true
      all = and_right (has_no_key (g 0)) (a && (b && c)) h

      by : Dec (n ≡ 1) → Dec (m ≡ 2) → keys_differ (g n) (g m) ≡ true
      by (yes e) (yes f) = rw (e, f) (and_left a (b && c) all)
      by (yes e) (no f) = let m3 : m ≡ 3 = omega arith in rw (e, m3) (and_left b c (and_right a (b && c) all))
      by (no e) f =
          let n2 : n ≡ 2 = omega arith in
          let m3 : m ≡ 3 = omega arith in
          rw (n2, m3) (and_right b c (and_right a (b && c) all))

no-key-of : (x : Slot) (S : Session) → has_no_key x ≡ true → x ≡ live S → S.key ≡ 0
no-key-of x S h e = eqb-true S.key 0 (rw e at h)

differ_of : (x y : Slot) (S R : Session) → keys_differ x y ≡ true → x ≡ live S → y ≡ live R → S.key ≡ R.key → ⊥
differ_of x y S R h e f = ne_of S.key R.key (rw (e, f) at h)

module _ (N : Network) (G : State) (elsewhere : (q n : ℕ) → (4 ≤ q) ⊎ (4 ≤ n) → G q n ≡ free) (h : suits_all_keys N G 4 ≡ true) where
  -- A live session is one of the services and sessions 0 to 3.
  within-services : (q n : ℕ) (S : Session) → G q n ≡ live S → (q < 4) × (n < 4)
  within-services q n S e = by (dec_lt q 4) (dec_lt n 4)
    where
      by : Dec (q < 4) → Dec (n < 4) → (q < 4) × (n < 4)
      by (yes i) (yes j) = (i, j)
      by (yes i) (no j) = absurd (not_live (sym (elsewhere q n (inr (omega arith))) ∙ e))
      by (no i) j = absurd (not_live (sym (elsewhere q n (inl (omega arith))) ∙ e))

  pub keys_none : NoKeyElsewhere N G
  keys_none q n S k e =
      let w = within-services q n S e in
      no-key-of (G q n) S (by (is_keyed N q) refl (ℕ_discrete n 0) (keys-each N G 4 h q w.0)) e
    where
      rest : (b : Bool) → suits_keys b (G q) ≡ true → has_no_key (G q 0) ≡ true
      rest true s = and_left (has_no_key (G q 0)) _ s
      rest false s = and_left (has_no_key (G q 0)) _ s

      by : (b : Bool) → is_keyed N q ≡ b → Dec (n ≡ 0) → suits_keys (is_keyed N q) (G q) ≡ true → has_no_key (G q n) ≡ true
      by b f (yes z) s = rw z (rest (is_keyed N q) s)
      by true f (no z) s = absurd (clash (of_t (holds_key N q n) (held_of N q n f (omega arith) (omega (arith, (within-services q n S e).1)))) k)
      by false f (no z) s =
          let u : suits_keys false (G q) ≡ true = rw f at s in
          none-at (G q) (rest false u) (and_right (has_no_key (G q 0)) _ u) n (within-services q n S e).1

  pub keys-apart : KeysApart N G
  keys-apart q n m S R a b e f k = by (ℕ_discrete n m) (dec_lt n m)
    where
      u : suits_keys true (G q) ≡ true
      u = rw (held-keyed N q n a) at (keys-each N G 4 h q (within-services q n S e).0)

      by : Dec (n ≡ m) → Dec (n < m) → n ≡ m
      by (yes z) l = z
      by (no z) (yes l) =
          absurd (differ_of (G q n) (G q m) S R (differ-at (G q) u n m (held_first N q n a) l (held-last N q m b)) e f k)
      by (no z) (no l) =
          absurd (differ_of (G q m) (G q n) R S (differ-at (G q) u m n (held_first N q m b) (omega arith) (held-last N q n a)) f e (sym k))

-- ---- a slot that is changed

-- What keeps the rules when the slot x takes the place of that of the service q and the session n: a live session holds a key only where keys
-- are held, and none that another live session of the service holds.
pub record KeySuits (N : Network) (G : State) (q n : ℕ) (x : Slot) : Type 0 where
  pub none : (S : Session) → x ≡ live S → holds_key N q n ≡ false → S.key ≡ 0
  pub new : (S : Session) → x ≡ live S → (m : ℕ) (R : Session) → T (holds_key N q n) → T (holds_key N q m) → G q m ≡ live R → S.key ≡ R.key → n ≡ m

module _ {N : Network} {G : State} where
  -- A slot that becomes free; a session that keeps its key.
  pub free-key : {q n : ℕ} → KeySuits N G q n free
  free-key = record { none = λ S e. absurd (not_live e); new = λ S e. absurd (not_live e) }

  pub kept-key : NoKeyElsewhere N G → KeysApart N G → {q n : ℕ} {S R : Session} → G q n ≡ live S → R.key ≡ S.key → KeySuits N G q n (live R)
  kept-key none apart {q} {n} {S} {R} e k = record {
    none = λ U f h. sym (ap key_in f) ∙ k ∙ none q n S h e;
    new = λ U f m W a b g w. apart q n m S W a b e g (sym k ∙ ap key_in f ∙ w);
  }

  module _ (q n : ℕ) (x : Slot) (s : KeySuits N G q n x) where
    -- A slot after the change is the new one, or as it was.
    changed : (i j : ℕ) (S : Session) → set_slot G q n x i j ≡ live S → ((i ≡ q) × (j ≡ n) × (x ≡ live S)) ⊎ (((i ≡ q → j ≡ n → ⊥)) × (G i j ≡ live S))
    changed i j S e = by (ℕ_discrete i q) (ℕ_discrete j n)
      where
        other : (i ≡ q → j ≡ n → ⊥) → ((i ≡ q) × (j ≡ n) × (x ≡ live S)) ⊎ (((i ≡ q → j ≡ n → ⊥)) × (G i j ≡ live S))
        other d = inr (d, sym (set_other G q n x i j d) ∙ e)

        by : Dec (i ≡ q) → Dec (j ≡ n) → ((i ≡ q) × (j ≡ n) × (x ≡ live S)) ⊎ (((i ≡ q → j ≡ n → ⊥)) × (G i j ≡ live S))
        by (yes u) (yes v) = inl (u, v, sym (slot_same G q n x) ∙ (rw (u, v) at e))
        by (yes u) (no v) = other (λ _ y. v y)
        by (no u) v = other (λ y _. u y)

    pub set-keyless : NoKeyElsewhere N G → NoKeyElsewhere N (set_slot G q n x)
    set-keyless none i j S h e = by (changed i j S e)
      where
        by : ((i ≡ q) × (j ≡ n) × (x ≡ live S)) ⊎ (((i ≡ q → j ≡ n → ⊥)) × (G i j ≡ live S)) → S.key ≡ 0
        by (inl c) = s.none S c.2 (rw (c.0, c.1) at h)
        by (inr c) = none i j S h c.1

    pub set_apart : KeysApart N G → KeysApart N (set_slot G q n x)
    set_apart apart i j m S R a b e f k = by (changed i j S e) (changed i m R f)
      where
        by : ((i ≡ q) × (j ≡ n) × (x ≡ live S)) ⊎ (((i ≡ q → j ≡ n → ⊥)) × (G i j ≡ live S))
            → ((i ≡ q) × (m ≡ n) × (x ≡ live R)) ⊎ (((i ≡ q → m ≡ n → ⊥)) × (G i m ≡ live R)) → j ≡ m
        by (inl c) (inl d) = c.1 ∙ sym d.1
        by (inl c) (inr d) = c.1 ∙ s.new S c.2 m R (rw (c.0, c.1) at a) (rw c.0 at b) (rw c.0 at d.1) k
        by (inr c) (inl d) = sym (d.1 ∙ s.new R d.2 j S (rw (d.0, d.1) at b) (rw d.0 at a) (rw d.0 at c.1) (sym k))
        by (inr c) (inr d) = apart i j m S R a b c.1 d.1 k
