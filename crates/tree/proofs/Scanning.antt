-- What `kids` finds, one law for each way out.
use mathlib.Core.Path.{◌≡◌, refl, ap, sym, ◌∙◌}
use mathlib.Core.List.{List}
use mathlib.Core.Bool.{false}
use Prim.Native.Nat.{ℕ, zero, suc, ◌-◌, ◌≤◌, ◌<◌}
use native.Mathlib.Omega.{arith}
use lib.Dec.{ltb}
use borrow.Author.Tests.{lt-ltb, le-ltb}
use Rattle.tree_forest.specs.Forest.{Forest, end}
use Rattle.scalar.specs.Value.{Value, value}
use Rattle.tree.specs.Decode.{id_at, basic_at, count_at, value_at, next_at, head_ok, head_at, Parse, bad, past, test, then_parse, join, parse_siblings, parse, erase, scan}
use Rattle.tree.specs.EncodeLaws.{Got, got, fault}
use Rattle.tree.specs.declared.Head.{Head}
use Rattle.std.specs.Prelude.{Option, Some, None}
use Rattle.tree.specs.Decode.{header}

erase-join : (i : ℕ) (a : Value) (ks : Forest Value) (p : Parse) → erase (join i a ks p) ≡ erase p
erase-join i a ks bad = refl
erase-join i a ks (past f e l) = refl

step_past : (p : Parse) (q : ℕ → ℕ → Parse) (i : ℕ) (a : Value) (m l : ℕ) → erase p ≡ Some (m, l) →
    erase (then_parse p (λ ks mid left. join i a ks (q left mid))) ≡ erase (q l m)
step_past bad q i a m l e = cc
step_past (past ks m' l') q i a m l e =
    let k : ◌≡◌ {A = ℕ × ℕ} (m', l') (m, l) = cc in
    let e1 : m' ≡ m = ap (λ (x : ℕ × ℕ). x.0) k in
    let e2 : l' ≡ l = ap (λ (x : ℕ × ℕ). x.1) k in
    erase-join i a ks (q l' m') ∙ rw (e1, e2) refl

step-bad : (p : Parse) (q : Forest Value → ℕ → ℕ → Parse) → erase p ≡ None → erase (then_parse p q) ≡ None
step-bad bad q e = refl
step-bad (past ks m l) q e = cc

-- the laws of `scan` at numbers that are known to be above 0
done : (s : List ℕ) (d last left at : ℕ) → Some (at, left) ≡ scan s d 0 last left at
unfolding scan parse parse_siblings
done s zero last left at = refl
done s (suc d) last left at = refl

flat : (s : List ℕ) (n last left at : ℕ) → (n ≡ 0 → ⊥) → None ≡ scan s 0 n last left at
unfolding scan parse
flat s zero last left at f = absurd (f refl)
flat s (suc n) last left at f = refl

step : (s : List ℕ) (d n last left at : ℕ) → scan s (suc d) (suc n) last left at ≡
    erase (test (ltb 0 left)
    (test (head_ok s at)
    (test (ltb last (id_at s at))
    (then_parse (parse s d (count_at s at) 0 (left - 1) (next_at s at))
    (λ ks mid left'. join (id_at s at) (value (basic_at s at) (value_at s at)) ks (parse s (suc d) n (id_at s at) left' mid))))))
unfolding scan parse parse_siblings
step s d n last left at = refl

module _ (s : List ℕ) (d n last left at : ℕ) where
  abbrev Gives : Option (ℕ × ℕ) → Type 0
  Gives r = r ≡ scan s d n last left at

  pub scan-done : n ≡ 0 → Gives (Some (at, left))
  scan-done e = rw e (done s d last left at)

  pub scan-flat : (n ≡ 0 → ⊥) → d ≡ 0 → Gives None
  scan-flat f e = rw e (flat s n last left at f)

-- from here on levels and siblings are left
abbrev At : (List ℕ → ℕ → ℕ → ℕ → ℕ → ℕ → Type 0) → Type 0
At P = (s : List ℕ) (d n last left at : ℕ) → (d ≡ 0 → ⊥) → (n ≡ 0 → ⊥) → P s d n last left at

at-step : (P : List ℕ → ℕ → ℕ → ℕ → ℕ → ℕ → Type 0) → ((s : List ℕ) (d n last left at : ℕ) → P s (suc d) (suc n) last left at) → At P
at-step P h s zero n last left at f g = absurd (f refl)
at-step P h s (suc d) zero last left at f g = absurd (g refl)
at-step P h s (suc d) (suc n) last left at f g = h s d n last left at

pub scan-full : At (λ s d n last left at. left ≡ 0 → None ≡ scan s d n last left at)
scan-full = at-step _ (λ s d n last left at e. rw (step s d n last left at, e) refl)

scan-head : At (λ s d n last left at. 0 < left → head_ok s at ≡ false → None ≡ scan s d n last left at)
scan-head = at-step _ (λ s d n last left at p e. rw (step s d n last left at, lt-ltb 0 left p, e) refl)

scan-id : At (λ s d n last left at. (i b c m : ℕ) → 0 < left → Got s at i b c m → i ≤ last → None ≡ scan s d n last left at)
scan-id = at-step _ (λ s d n last left at i b c m p g k. rw (step s d n last left at, lt-ltb 0 left p, g.ok, le-ltb last (id_at s at) (omega (arith, g.id))) refl)

kids-bad : (s : List ℕ) (d n last left at i b c m : ℕ) → 0 < left → Got s at i b c m → last < i →
    scan s (suc d - 1) c 0 (left - 1) m ≡ None → None ≡ scan s (suc d) (suc n) last left at
unfolding scan
kids-bad s d n last left at i b c m p g k q =
    let z : suc d - 1 ≡ d = omega arith in
    let q' = rw (z, g.count, g.next) at q in
    sym (step s d n last left at ∙ rw (lt-ltb 0 left p, g.ok, lt-ltb last (id_at s at) (omega (arith, g.id)))
    (step-bad (parse s d (count_at s at) 0 (left - 1) (next_at s at))
    (λ ks mid left'. join (id_at s at) (value (basic_at s at) (value_at s at)) ks (parse s (suc d) n (id_at s at) left' mid)) q'))

scan-kids : At (λ s d n last left at. (i b c m : ℕ) → 0 < left → Got s at i b c m → last < i →
    scan s (d - 1) c 0 (left - 1) m ≡ None → None ≡ scan s d n last left at)
scan-kids = at-step _ kids-bad

kids-past : (s : List ℕ) (d n last left at i b c m e l : ℕ) (r : Option (ℕ × ℕ)) → 0 < left → Got s at i b c m → last < i →
    scan s (suc d - 1) c 0 (left - 1) m ≡ Some (e, l) → r ≡ scan s (suc d) (suc n - 1) i l e → r ≡ scan s (suc d) (suc n) last left at
unfolding scan
kids-past s d n last left at i b c m e l r p g k q w =
    let z : suc d - 1 ≡ d = omega arith in
    let y : suc n - 1 ≡ n = omega arith in
    let q' = rw (z, g.count, g.next) at q in
    let w' = rw (y, g.id) at w in
    w' ∙ sym (step s d n last left at ∙ rw (lt-ltb 0 left p, g.ok, lt-ltb last (id_at s at) (omega (arith, g.id)))
    (step_past (parse s d (count_at s at) 0 (left - 1) (next_at s at)) (λ left' mid. parse s (suc d) n (id_at s at) left' mid)
    (id_at s at) (value (basic_at s at) (value_at s at)) e l q'))

scan_step : At (λ s d n last left at. (i b c m e l : ℕ) (r : Option (ℕ × ℕ)) → 0 < left → Got s at i b c m → last < i →
    scan s (d - 1) c 0 (left - 1) m ≡ Some (e, l) → r ≡ scan s d (n - 1) i l e → r ≡ scan s d n last left at)
scan_step = at-step _ kids-past

-- the same laws with the facts as the code has them
pub find-id : (s : List ℕ) (d n last left at i b c m : ℕ) (h : Option Head) → (d ≡ 0 → ⊥) → (n ≡ 0 → ⊥) → (left ≡ 0 → ⊥) → h ≡ head_at s at → h ≡ Some (header i b c m) → i ≤ last → None ≡ scan s d n last left at
find-id s d n last left at i b c m h e f g p q k = scan-id s d n last left at e f i b c m (omega (arith, g)) (got p q) k

pub find-step : (s : List ℕ) (d n last left at i b c m e l : ℕ) (h : Option Head) (r r' : Option (ℕ × ℕ)) → (d ≡ 0 → ⊥) → (n ≡ 0 → ⊥) → (left ≡ 0 → ⊥) → h ≡ head_at s at → h ≡ Some (header i b c m) → last < i →
    r' ≡ scan s (d - 1) c 0 (left - 1) m → r' ≡ Some (e, l) → r ≡ scan s d (n - 1) i l e → r ≡ scan s d n last left at
find-step s d n last left at i b c m e l h r r' x y g p q k u v z = scan_step s d n last left at x y i b c m e l r (omega (arith, g)) (got p q) k (sym u ∙ v) z

-- a node without children
pub find-leaf : (s : List ℕ) (d n last left at i b c m : ℕ) (h : Option Head) (r : Option (ℕ × ℕ)) → (d ≡ 0 → ⊥) → (n ≡ 0 → ⊥) → (left ≡ 0 → ⊥) → h ≡ head_at s at → h ≡ Some (header i b c m) → last < i →
    c ≡ 0 → r ≡ scan s d (n - 1) i (left - 1) m → r ≡ scan s d n last left at
find-leaf s d n last left at i b c m h r x y g p q k z w =
    find-step s d n last left at i b c m m (left - 1) h r (Some (m, (left - 1))) x y g p q k (rw z (done s (d - 1) 0 (left - 1) m)) refl w

pub find_head : (s : List ℕ) (d n last left at : ℕ) (h : Option Head) → (d ≡ 0 → ⊥) → (n ≡ 0 → ⊥) → (left ≡ 0 → ⊥) → h ≡ head_at s at → h ≡ None → None ≡ scan s d n last left at
find_head s d n last left at h e f g p q = scan-head s d n last left at e f (omega (arith, g)) (fault s at p q)

pub find-kids : (s : List ℕ) (d n last left at i b c m : ℕ) (h : Option Head) (r : Option (ℕ × ℕ)) → (d ≡ 0 → ⊥) → (n ≡ 0 → ⊥) → (left ≡ 0 → ⊥) → h ≡ head_at s at → h ≡ Some (header i b c m) → last < i →
    r ≡ scan s (d - 1) c 0 (left - 1) m → r ≡ None → None ≡ scan s d n last left at
find-kids s d n last left at i b c m h r x y g p q k u v = scan-kids s d n last left at x y i b c m (omega (arith, g)) (got p q) k (sym u ∙ v)

-- the children of a last sibling are all that is left to read
step-last : (p : Parse) (i : ℕ) (a : Value) → erase p ≡ erase (then_parse p (λ ks mid left. join i a ks (past end mid left)))
step-last bad i a = refl
step-last (past ks m l) i a = refl

kids-last : (s : List ℕ) (d n last left at i b c m : ℕ) → 0 < left → Got s at i b c m → last < i → suc n ≡ 1 →
    scan s (suc d - 1) c 0 (left - 1) m ≡ scan s (suc d) (suc n) last left at
unfolding scan parse parse_siblings
kids-last s d n last left at i b c m p g k e =
    let z : suc d - 1 ≡ d = omega arith in
    let y : n ≡ 0 = omega (arith, e) in
    rw (y, z, g.count, g.next, lt-ltb 0 left p, g.ok, lt-ltb last (id_at s at) (omega (arith, g.id)))
    (step-last (parse s d (count_at s at) 0 (left - 1) (next_at s at)) (id_at s at) (value (basic_at s at) (value_at s at)))

scan-last : At (λ s d n last left at. (i b c m : ℕ) → 0 < left → Got s at i b c m → last < i → n ≡ 1 →
    scan s (d - 1) c 0 (left - 1) m ≡ scan s d n last left at)
scan-last = at-step _ kids-last

-- The loop of `kids`: what is left to read gives what is asked for.
pub record Going (s : List ℕ) (levels n last left at p more before deep room : ℕ) : Type 0 where
  pub deeper : deep ≤ levels
  pub same : scan s deep more before room p ≡ scan s levels n last left at

module _ {s : List ℕ} {levels n last left at p more before deep room : ℕ} (w : Going s levels n last left at p more before deep room) where
  abbrev Whole : Option (ℕ × ℕ) → Type 0
  Whole r = r ≡ scan s levels n last left at

  pub going_end : more ≤ 0 → Whole (Some (p, room))
  going_end h = scan-done s deep more before room p (omega arith) ∙ w.same

  module _ (some : 0 < more) where
    pub going-flat : deep ≡ 0 → Whole None
    going-flat z = scan-flat s deep more before room p (λ y. omega (arith, y)) z ∙ w.same

    pub going-full : (deep ≡ 0 → ⊥) → room ≡ 0 → Whole None
    going-full d z = scan-full s deep more before room p d (λ y. omega (arith, y)) z ∙ w.same

    module _ (d : deep ≡ 0 → ⊥) (f : room ≡ 0 → ⊥) {h : Option Head} (a : h ≡ head_at s p) where
      pub going-head : h ≡ None → Whole None
      going-head q =
          find_head s deep more before room p h d (λ z. omega (arith, z)) f a q ∙ w.same

      module _ {x : Head} (q : h ≡ Some x) where
        pub going-id : x.id ≤ before → Whole None
        going-id k =
            find-id s deep more before room p x.id x.basic x.count x.start h d (λ z. omega (arith, z)) f a q k
            ∙ w.same

        module _ (k : before < x.id) where
          pub going-leaf : x.count ≤ 0 → Going s levels n last left at x.start (more - 1) x.id deep (room - 1)
          going-leaf z =
              let r = find-leaf s deep more before room p x.id x.basic x.count x.start h (scan s deep (more - 1) x.id (room - 1) x.start)
              d (λ z. omega (arith, z)) f a q k (omega arith) refl in
              record { deeper = w.deeper; same = r ∙ w.same }

          pub going-last : more - 1 ≡ 0 → Going s levels n last left at x.start x.count 0 (deep - 1) (room - 1)
          going-last z =
              let r = scan-last s deep more before room p d (λ z. omega (arith, z)) x.id x.basic x.count x.start (omega (arith, f)) (got a q) k (omega arith) in
              record { deeper = omega (arith, w.deeper); same = r ∙ w.same }

          module _ {r : Option (ℕ × ℕ)} (u : r ≡ scan s (deep - 1) x.count 0 (room - 1) x.start) where
            pub going-kids : r ≡ None → Whole None
            going-kids v =
                find-kids s deep more before room p x.id x.basic x.count x.start h r d (λ z. omega (arith, z)) f a q k u v
                ∙ w.same

            pub going_next : {e l : ℕ} → r ≡ Some (e, l) → Going s levels n last left at e (more - 1) x.id deep l
            going_next {e} {l} v =
                let y = find-step s deep more before room p x.id x.basic x.count x.start e l h (scan s deep (more - 1) x.id l e) r
                d (λ z. omega (arith, z)) f a q k u v refl in
                record { deeper = w.deeper; same = y ∙ w.same }

pub ruleset kids-laws = (going_end, going-flat, going-full, going-head, going-id, going-leaf, going-last, going-kids, going_next)
