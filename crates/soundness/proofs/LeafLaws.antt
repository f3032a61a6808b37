-- What a move does at its row, and that it keeps a session well typed: its tree's own type ≤ some environment, from which what is left
-- is derived.
use Rattle.std.specs.Prelude.{◌≡◌, ℕ, ◌||◌, T}
use Rattle.std.proofs.Math.Path.{refl, subst}
use Rattle.std.proofs.Common.{sym, ◌∙◌, eqb→eq}
use Rattle.basics.specs.TestLaws.{or_case, or_l, or_r}
use Rattle.tree_forest.specs.Forest.{Forest, Tree, Lookup, Rising}
use Rattle.tree_forest.specs.Path.{Path, read, replace_at, set_payload_at}
use Rattle.scalar.specs.Basic.{bool}
use Rattle.scalar.specs.Value.{Value, basic_of}
use Rattle.network_syntax.specs.Syntax.{Types, MessageType, Expression, Operation, Behaviour, nil, one_way, request_response, notification}
use Rattle.network_syntax.specs.Syntax.{solicit_response, if_then_else, while_do, sequence, assign, choice, waiting, answering, Branches}
use Rattle.check_subtyping.specs.Subtype.{root_basic, Subtypes}
use Rattle.check_subtyping.proofs.SubtypeLaws.{subtype-sound, subtype-trans}
use Rattle.check_subtyping.specs.Own.{own_types, Fits}
use Rattle.check_typing.specs.Result.{yields}
use Rattle.check_typing.specs.Environment.{assign_to}
use Rattle.check_typing.proofs.EnvironmentLaws.{receive_ok, assign-ok, read_ok, place-rising}
use Rattle.check_typing.specs.Occurs.{is_root, occurs_in, occurs}
use Rattle.check_typing.specs.Rules.{WellSorted}
use Rattle.check_typing.specs.Typed.{Typed, TypedCondition, TypedSend, TypedReply}
use Rattle.check_typing.proofs.TypedLaws.{typed-rising}
use Rattle.move_rules.specs.Evaluation.{Evaluation, found, evaluate}
use Rattle.move_rules.specs.Moves.{root_value}
use Rattle.scalar.specs.Value.{void_value}
use Rattle.soundness.specs.GoodTrees.{GoodForest, GoodTree, GoodExpression}
use Rattle.soundness.proofs.GoodTreesLaws.{read-good}
use Rattle.soundness.proofs.EvaluationLaws.{GivesBy, gives-map, progress, OfExpression, basic-of, present-good}
use Rattle.soundness.specs.Parts.{branch_at}
use Rattle.soundness.proofs.MadeLaws.{branch-typed, branch-occurs, branch-sorted}
use Rattle.soundness.specs.Well.{Well}
use Rattle.soundness.proofs.ContextLaws.{finished, finished-same, Active, Fewer, hole}

-- What a condition gives: a tree whose root is a bool, or a result beyond bool.
abbrev pub GivesBool : Evaluation (Tree Value) → Type 0
GivesBool r = GivesBy r (λ b. b ≡ bool) (λ y. basic_of (root_value y) ≡ bool)

-- What is sent as a message of the type t: a tree that fits it, or a result that is beyond.
abbrev pub GivesMessage : Evaluation (Tree Value) → MessageType → Type 0
GivesMessage r t = GivesBy r (λ b. Unit {0}) (λ y. Fits y t × GoodTree y)

-- What is read as a reply of the type t: a tree that fits it.
abbrev pub GivesReply : Lookup Value → MessageType → Type 0
GivesReply l t = GivesBy (found l) (λ b. ⊥) (λ y. Fits y t × GoodTree y)

-- The tree before, the row, the tree after, what is left of the row. An assign sets any value of its expression's basic type.
pub data Leaf (F : Forest Value) : Behaviour → Forest Value → Behaviour → Type 0 where
  assigns : {r : ℕ} {x : Path} {e : Expression} (v : Value) → OfExpression F e (basic_of v) → Leaf F (assign r x e) (set_payload_at void_value x v F) (nil r)
  takes_then : {r : ℕ} {e : Expression} {a b : Behaviour} → Leaf F (if_then_else r e a b) F a
  takes_else : {r : ℕ} {e : Expression} {a b : Behaviour} → Leaf F (if_then_else r e a b) F b
  enters : {r : ℕ} {e : Expression} {b : Behaviour} → Leaf F (while_do r e b) F (sequence r b (while_do r e b))
  leaves : {r : ℕ} {e : Expression} {b : Behaviour} → Leaf F (while_do r e b) F (nil r)
  reenters : {r : ℕ} {e : Expression} {b d : Behaviour} → T (finished d) → Leaf F (sequence r d (while_do r e b)) F (sequence r b (while_do r e b))
  ends : {r : ℕ} {e : Expression} {b d : Behaviour} → T (finished d) → Leaf F (sequence r d (while_do r e b)) F (nil r)
  receives_one : {r : ℕ} {o : Operation} {x : Path} (m : Tree Value) → Fits m o.request → Leaf F (one_way r o x) (replace_at void_value x m F) (nil r)
  receives_two : {r : ℕ} {o : Operation} {x c : Path} {d : Behaviour} (m : Tree Value) → Fits m o.request
      → Leaf F (request_response r o x c d) (replace_at void_value x m F) (answering r o c d)
  gets_reply : {r : ℕ} {o : Operation} {x : Path} (m : Tree Value) → Fits m o.reply → Leaf F (waiting r o x) (replace_at void_value x m F) (nil r)
  notifies : {r : ℕ} {o : Operation} {e : Expression} → Leaf F (notification r o e) F (nil r)
  asks : {r : ℕ} {o : Operation} {e : Expression} {x : Path} → Leaf F (solicit_response r o e x) F (waiting r o x)
  answers : {r : ℕ} {o : Operation} {c : Path} {d : Behaviour} → T (finished d) → Leaf F (answering r o c d) F (nil r)
  selects : {r : ℕ} {m : Branches} (k : ℕ) → Leaf F (choice r m) F (branch_at k m)

pub leaf-occurs : {F F2 : Forest Value} {L L2 : Behaviour} → Leaf F L F2 L2 → Fewer L2 L
unfolding occurs
leaf-occurs (assigns v b) i t = absurd t
leaf-occurs (takes_then {e} {a} {b}) i t = or_r (occurs_in i e) (occurs i a || occurs i b) (or_l (occurs i a) (occurs i b) t)
leaf-occurs (takes_else {e} {a} {b}) i t = or_r (occurs_in i e) (occurs i a || occurs i b) (or_r (occurs i a) (occurs i b) t)
leaf-occurs (enters {e} {b}) i t = or_case (occurs i b) (occurs_in i e || occurs i b) (or_r (occurs_in i e) (occurs i b)) (λ s. s) t
leaf-occurs leaves i t = absurd t
leaf-occurs (reenters {e} {b} {d} q) i t =
    or_r (occurs i d) (occurs_in i e || occurs i b) (or_case (occurs i b) (occurs_in i e || occurs i b) (or_r (occurs_in i e) (occurs i b)) (λ s. s) t)
leaf-occurs (ends q) i t = absurd t
leaf-occurs (receives_one m h) i t = absurd t
leaf-occurs (receives_two {x} {c} {d} m h) i t = or_r (is_root i x) (is_root i c || occurs i d) t
leaf-occurs (gets_reply m h) i t = absurd t
leaf-occurs notifies i t = absurd t
leaf-occurs (asks {e} {x}) i t = or_r (occurs_in i e) (is_root i x) t
leaf-occurs (answers h) i t = absurd t
leaf-occurs (selects {m} k) i t = branch-occurs m k i t

pub leaf-sorted : {F F2 : Forest Value} {L L2 : Behaviour} → Leaf F L F2 L2 → WellSorted L → WellSorted L2
unfolding WellSorted
leaf-sorted (assigns v b) w = tt
leaf-sorted takes_then w = w.0
leaf-sorted takes_else w = w.1
leaf-sorted enters w = (w, w)
leaf-sorted leaves w = tt
leaf-sorted (reenters q) w = (w.1, w.1)
leaf-sorted (ends q) w = tt
leaf-sorted (receives_one m h) w = tt
leaf-sorted (receives_two m h) w = w
leaf-sorted (gets_reply m h) w = tt
leaf-sorted notifies w = tt
leaf-sorted asks w = w
leaf-sorted (answers h) w = tt
leaf-sorted (selects {m} k) w = branch-sorted m k w

module _ (q : ℕ) where
  pub leaf-well : {F F2 : Forest Value} {L L2 : Behaviour} → Leaf F L F2 L2 → WellSorted L → (Γ Δ : Types) → Rising Γ
      → Subtypes (own_types F) Γ → Typed q L Γ Δ → Well q F2 L2 Δ
  unfolding Typed WellSorted
  leaf-well {F} (assigns {r} {x} {e} v b) ws Γ Δ w s h =
      let pl : assign_to x (basic_of v) Γ ≡ yields Δ = subst (λ (z : ℕ). assign_to x z Γ ≡ yields Δ) (sym (b Γ h.0 s h.1)) h.2 in
      record { env = Δ; rising = typed-rising q (assign r x e) Γ Δ tt w h; fit = assign-ok void_value refl x v F Γ Δ s pl; typed = refl }
  leaf-well takes_then ws Γ Δ w s h = record { env = Γ; rising = w; fit = s; typed = h.1 }
  leaf-well takes_else ws Γ Δ w s h = record { env = Γ; rising = w; fit = s; typed = h.2 }
  leaf-well enters ws Γ Δ w s h = record { env = Γ; rising = w; fit = s; typed = (Γ, h.1, h) }
  leaf-well leaves ws Γ Δ w s h = record { env = Γ; rising = w; fit = s; typed = h.2 }
  leaf-well (reenters {r} {e} {b} {d} f) ws Γ Δ w s h =
      let same = finished-same q d Γ h.0 f h.1 in
      let k : Typed q (while_do r e b) Γ Δ = subst (λ (z : Types). Typed q (while_do r e b) z Δ) (sym same) h.2 in
      record { env = Γ; rising = w; fit = s; typed = (Γ, k.1, k) }
  leaf-well (ends {b} {d} f) ws Γ Δ w s h = record { env = Γ; rising = w; fit = s; typed = finished-same q d Γ h.0 f h.1 ∙ h.2.2 }
  leaf-well {F} (receives_one {r} {o} {x} m f) ws Γ Δ w s h =
      record { env = Δ; rising = typed-rising q (one_way r o x) Γ Δ ws w h; fit = receive_ok void_value refl x m o.request F Γ Δ f s h.1; typed = refl }
  leaf-well {F} (receives_two {r} {o} {x} {c} {d} m f) ws Γ Δ w s h =
      record {
        env = h.1;
        rising = place-rising x o.request Γ h.1 ws.0.0 w h.2;
        fit = receive_ok void_value refl x m o.request F Γ h.1 f s h.2;
        typed = (h.0, h.3, h.4);
      }
  leaf-well {F} (gets_reply {r} {o} {x} m f) ws Γ Δ w s h =
      record { env = Δ; rising = typed-rising q (waiting r o x) Γ Δ ws w h; fit = receive_ok void_value refl x m o.reply F Γ Δ f s h.1; typed = refl }
  leaf-well notifies ws Γ Δ w s h = record { env = Γ; rising = w; fit = s; typed = h.2 }
  leaf-well asks ws Γ Δ w s h = record { env = Γ; rising = w; fit = s; typed = (h.0, h.2) }
  leaf-well (answers {d} f) ws Γ Δ w s h = record { env = Γ; rising = w; fit = s; typed = finished-same q d Γ Δ f h.1 }
  leaf-well (selects {m} k) ws Γ Δ w s h = record { env = Γ; rising = w; fit = s; typed = branch-typed q m k Γ Δ h }

  -- One step of a session, parallel and while included.
  pub reduction : {F F2 : Forest Value} {L L2 R R2 : Behaviour} {last : Types} → Leaf F L F2 L2 → Active L L2 R R2 → WellSorted L → WellSorted R
      → Well q F R last → Well q F2 R2 last
  reduction {last} p a wl wr h =
      let u = hole q (leaf-occurs p) (leaf-sorted p wl) a wr h.env last h.rising h.typed in
      let v = leaf-well p wl h.env u.mid h.rising h.fit u.part in
      record { env = v.env; rising = v.rising; fit = v.fit; typed = u.again v.env v.rising v.typed }

  -- A condition gives a bool, or is beyond bool.
  pub condition-gives : (F : Forest Value) (Γ : Types) (e : Expression) → GoodForest F → GoodExpression e → Subtypes (own_types F) Γ → TypedCondition Γ e
      → GivesBool (evaluate F e)
  condition-gives F Γ e g ge s c =
      let is = eqb→eq (root_basic c.0) bool c.2 in
      gives-map (evaluate F e) (progress F Γ g s e ge c.0 c.1) (λ b eb k. k ∙ is) (λ y ey k. basic-of y c.0 k.0 ∙ is)

  -- What is sent is there, and fits, or is beyond.
  pub send-gives : (F : Forest Value) (Γ : Types) (e : Expression) (t : MessageType) → GoodForest F → GoodExpression e → Subtypes (own_types F) Γ
      → TypedSend Γ e t → GivesMessage (evaluate F e) t
  send-gives F Γ e t g ge s c =
      gives-map (evaluate F e) (progress F Γ g s e ge c.0 c.1) (λ b eb k. tt)
      (λ y ey k. (subtype-trans k.0 (subtype-sound c.0 t c.2), k.1))

  -- What is answered is there, and fits.
  pub reply-gives : (F : Forest Value) (Γ : Types) (c : Path) (t : MessageType) → GoodForest F → Subtypes (own_types F) Γ → TypedReply c Γ t
      → GivesReply (read c F) t
  reply-gives F Γ c t g s r =
      let u = read_ok c F Γ r.0 s r.1 in
      subst (λ (l : Lookup Value). GivesReply l t) (sym u.1)
      (subtype-trans u.2 (subtype-sound r.0 t r.2), present-good (read c F) u.0 (read-good c F g) u.1)
