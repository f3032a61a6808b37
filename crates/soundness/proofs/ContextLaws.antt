-- What is left of a session, with one active part: the active part is typed in the session's own environment, and whatever leads to
-- the same environment may stand in its place. Parallel sides swap, because they share no root.
use Rattle.std.specs.Prelude.{◌≡◌, refl, ℕ, Bool, true, false, ◌&&◌, ◌||◌, T}
use Rattle.std.proofs.Common.{sym, subst, ◌∙◌}
use Rattle.basics.specs.TestLaws.{and_l, and_r, or_l, or_r}
use Rattle.tree_forest.specs.Forest.{Rising}
use Rattle.tree_forest.specs.Path.{Path}
use Rattle.network_syntax.specs.Syntax.{Types, Operation, Behaviour, nil, one_way, request_response, notification, solicit_response, if_then_else, while_do}
use Rattle.network_syntax.specs.Syntax.{sequence, parallel, assign, choice, waiting, answering}
use Rattle.check_typing.specs.Occurs.{is_root, occurs}
use Rattle.check_typing.specs.Rules.{WellSorted}
use Rattle.check_typing.specs.Typed.{Typed}
use Rattle.check_typing.proofs.TypedLaws.{swap, typed-rising}

-- Nothing is left to do in the rest.
unfoldable pub finished : Behaviour → Bool
finished (nil r) = true
finished (one_way r o x) = false
finished (request_response r o x c d) = false
finished (notification r o e) = false
finished (solicit_response r o e x) = false
finished (if_then_else r e a b) = false
finished (while_do r e b) = false
finished (sequence r a b) = finished a && finished b
finished (parallel r a b) = finished a && finished b
finished (assign r x e) = false
finished (choice r m) = false
finished (waiting r o x) = false
finished (answering r o c d) = false

-- R has the active part L, and R2 is R with L2 in its place.
pub data Active (L L2 : Behaviour) : Behaviour → Behaviour → Type 0 where
  itself : Active L L2 L L2
  in_first : {r : ℕ} {a a2 b : Behaviour} → Active L L2 a a2 → Active L L2 (sequence r a b) (sequence r a2 b)
  in_second : {r : ℕ} {a b b2 : Behaviour} → T (finished a) → Active L L2 b b2 → Active L L2 (sequence r a b) (sequence r a b2)
  on_left : {r : ℕ} {a a2 b : Behaviour} → Active L L2 a a2 → Active L L2 (parallel r a b) (parallel r a2 b)
  on_right : {r : ℕ} {a b b2 : Behaviour} → Active L L2 b b2 → Active L L2 (parallel r a b) (parallel r a b2)
  in_body : {r : ℕ} {o : Operation} {c : Path} {d d2 : Behaviour} → Active L L2 d d2 → Active L L2 (answering r o c d) (answering r o c d2)

-- No root occurs in L2 that does not occur in L.
abbrev pub Fewer : Behaviour → Behaviour → Type 0
Fewer L2 L = (i : ℕ) → T (occurs i L2) → T (occurs i L)

pub or_map : (a b c d : Bool) → (T a → T c) → (T b → T d) → T (a || b) → T (c || d)
or_map true b c d f g t = or_l c d (f tt)
or_map false b c d f g t = or_r c d (g t)

pub active-occurs : {L L2 R R2 : Behaviour} → Fewer L2 L → Active L L2 R R2 → Fewer R2 R
unfolding occurs
active-occurs f itself i t = f i t
active-occurs f (in_first {a} {a2} {b} p) i t = or_map (occurs i a2) (occurs i b) (occurs i a) (occurs i b) (active-occurs f p i) (λ s. s) t
active-occurs f (in_second {a} {b} {b2} d p) i t = or_map (occurs i a) (occurs i b2) (occurs i a) (occurs i b) (λ s. s) (active-occurs f p i) t
active-occurs f (on_left {a} {a2} {b} p) i t = or_map (occurs i a2) (occurs i b) (occurs i a) (occurs i b) (active-occurs f p i) (λ s. s) t
active-occurs f (on_right {a} {b} {b2} p) i t = or_map (occurs i a) (occurs i b2) (occurs i a) (occurs i b) (λ s. s) (active-occurs f p i) t
active-occurs f (in_body {c} {d} {d2} p) i t = or_map (is_root i c) (occurs i d2) (is_root i c) (occurs i d) (λ s. s) (active-occurs f p i) t

pub active-sorted : {L L2 R R2 : Behaviour} → Active L L2 R R2 → WellSorted L2 → WellSorted R → WellSorted R2
unfolding WellSorted
active-sorted itself w s = w
active-sorted (in_first p) w s = (active-sorted p w s.0, s.1)
active-sorted (in_second d p) w s = (s.0, active-sorted p w s.1)
active-sorted (on_left p) w s = (active-sorted p w s.0, s.1)
active-sorted (on_right p) w s = (s.0, active-sorted p w s.1)
active-sorted (in_body p) w s = (s.0, active-sorted p w s.1)

module _ (q : ℕ) where
  -- What is finished changes nothing, and can stand in any environment.
  finished-typed : (B : Behaviour) (Γ Δ : Types) → T (finished B) → Typed q B Γ Δ → (Γ ≡ Δ) × ((Θ : Types) → Typed q B Θ Θ)
  unfolding finished Typed
  finished-typed (nil r) Γ Δ t h = (h, λ Θ. refl)
  finished-typed (one_way r o x) Γ Δ t h = absurd t
  finished-typed (request_response r o x c d) Γ Δ t h = absurd t
  finished-typed (notification r o e) Γ Δ t h = absurd t
  finished-typed (solicit_response r o e x) Γ Δ t h = absurd t
  finished-typed (if_then_else r e a b) Γ Δ t h = absurd t
  finished-typed (while_do r e b) Γ Δ t h = absurd t
  finished-typed (sequence r a b) Γ Δ t h =
      let u = finished-typed a Γ h.0 (and_l (finished a) (finished b) t) h.1 in
      let v = finished-typed b h.0 Δ (and_r (finished a) (finished b) t) h.2 in
      (u.0 ∙ v.0, λ Θ. (Θ, u.1 Θ, v.1 Θ))
  finished-typed (parallel r a b) Γ Δ t h =
      let u = finished-typed a Γ h.1 (and_l (finished a) (finished b) t) h.2 in
      let v = finished-typed b h.1 Δ (and_r (finished a) (finished b) t) h.3 in
      (u.0 ∙ v.0, λ Θ. (h.0, Θ, u.1 Θ, v.1 Θ))
  finished-typed (assign r x e) Γ Δ t h = absurd t
  finished-typed (choice r m) Γ Δ t h = absurd t
  finished-typed (waiting r o x) Γ Δ t h = absurd t
  finished-typed (answering r o c d) Γ Δ t h = absurd t

  pub finished-same : (B : Behaviour) (Γ Δ : Types) → T (finished B) → Typed q B Γ Δ → Γ ≡ Δ
  finished-same B Γ Δ t h = (finished-typed B Γ Δ t h).0

  pub finished-anywhere : (B : Behaviour) (Γ Δ : Types) → T (finished B) → Typed q B Γ Δ → (Θ : Types) → Typed q B Θ Θ
  finished-anywhere B Γ Δ t h = (finished-typed B Γ Δ t h).1

  -- The active part is typed in Γ itself, and whatever leads to the same environment may stand there.
  pub record Hole (L L2 R2 : Behaviour) (Γ Γ2 : Types) : Type 0 where
    pub mid : Types
    pub part : Typed q L Γ mid
    pub again : (Γs : Types) → Rising Γs → Typed q L2 Γs mid → Typed q R2 Γs Γ2

  pub hole : {L L2 R R2 : Behaviour} → Fewer L2 L → WellSorted L2 → Active L L2 R R2 → WellSorted R → (Γ Γ2 : Types) → Rising Γ → Typed q R Γ Γ2
      → Hole L L2 R2 Γ Γ2
  unfolding Typed WellSorted
  hole f v itself ws Γ Γ2 w h = record { mid = Γ2; part = h; again = λ Γs s k. k }
  hole f v (in_first p) ws Γ Γ2 w h =
      let u = hole f v p ws.0 Γ h.0 w h.1 in
      record { mid = u.mid; part = u.part; again = λ Γs s k. (h.0, u.again Γs s k, h.2) }
  hole f v (in_second {a} {b} {b2} d p) ws Γ Γ2 w h =
      let e = finished-same a Γ h.0 d h.1 in
      let u = hole f v p ws.1 Γ Γ2 w (subst (λ (z : Types). Typed q b z Γ2) (sym e) h.2) in
      record { mid = u.mid; part = u.part; again = λ Γs s k. (Γs, finished-anywhere a Γ h.0 d h.1 Γs, u.again Γs s k) }
  hole f v (on_left {a} {a2} {b} p) ws Γ Γ2 w h =
      let u = hole f v p ws.0 Γ h.1 w h.2 in
      record { mid = u.mid; part = u.part; again = λ Γs s k. ((λ i x y. h.0 i (active-occurs f p i x) y), h.1, u.again Γs s k, h.3) }
  hole f v (on_right {a} {b} {b2} p) ws Γ Γ2 w h =
      let w2 = typed-rising q b h.1 Γ2 ws.1 (typed-rising q a Γ h.1 ws.0 w h.2) h.3 in
      let s = swap q a b Γ h.1 Γ2 ws.0 ws.1 w w2 h.0 h.2 h.3 in
      let u = hole f v p ws.1 Γ s.mid w s.one in
      record {
        mid = u.mid;
        part = u.part;
        again = λ Γs ss k.
            let z = swap q b2 a Γs s.mid Γ2 (active-sorted p v ws.1) ws.0 ss w2 (λ i x y. h.0 i y (active-occurs f p i x))
            (u.again Γs ss k) s.two in
            ((λ i x y. h.0 i x (active-occurs f p i y)), z.mid, z.one, z.two);
      }
  hole f v (in_body p) ws Γ Γ2 w h =
      let u = hole f v p ws.1 Γ Γ2 w h.1 in
      record { mid = u.mid; part = u.part; again = λ Γs s k. (h.0, u.again Γs s k, h.2) }
