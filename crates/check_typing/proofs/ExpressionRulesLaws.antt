-- The rules for paths and expressions are what the checker's functions test and give.
use Rattle.std.specs.Prelude.{◌≡◌, List, [], ◌∷◌, Bool, true, false, not, ◌&&◌, ℕ}
use Rattle.std.proofs.Math.Path.{refl, subst}
use Rattle.std.proofs.Common.{sym, ap, ◌∙◌, arith, eqb→eq}
use Rattle.std.proofs.Math.Dec.{T, eqb, eqb_refl}
use Rattle.basics.specs.TestLaws.{and_i, and_l, and_r, not-intro, not-not}
use Rattle.tree_forest.specs.Forest.{tree, Lookup, absent, present, find, children_of}
use Rattle.tree_forest.specs.Path.{Path, path, read_steps, read}
use Rattle.refusal.specs.declared.Refusal.TheVariants.{PathNotFirm, OperandType}
use Rattle.scalar.specs.Operator.{is_number}
use Rattle.scalar.specs.Basic.{bool, void}
use Rattle.scalar.specs.Value.{basic_of}
use Rattle.network_syntax.specs.Syntax.{Mark, mark, Types, MessageType, Unary, logical_not, negate, Binary, add, subtract, less, equal, logical_and, Expression}
use Rattle.network_syntax.specs.Syntax.{constant, value_at, presence, unary, binary}
use Rattle.check_subtyping.specs.Subtype.{root_basic}
use Rattle.check_typing.specs.Result.{Attempt, yields, demand, and_then}
use Rattle.check_typing.proofs.ResultLaws.{yields-inj, require-yields, require-holds, and_then-yields, and_then-holds}
use Rattle.check_typing.specs.Environment.{is_in, firm_steps, stands_firm, the_type, read_firm, firm_above_steps, firm_above, basic_leaf}
use Rattle.tree_forest.specs.Forest.{is_present}
use Rattle.check_typing.specs.ExpressionTyping.{unary_type, binary_type, expression_type}
use Rattle.check_typing.specs.ExpressionRules.{ids_of, Firm, above, if_found, longest_in, FirmAs, HasType, of_constant, of_path, of_presence, of_not, of_and}
use Rattle.check_typing.specs.ExpressionRules.{of_negate, of_add, of_subtract, of_less, of_equal}

not-here : {X : Type 0} {t : MessageType} → absent ≡ present t → X
not-here e = absurd (let z : ◌≡◌ {A = ℕ} 0 1 = cc in omega arith)

present-inj : {t u : MessageType} → present t ≡ present u → t ≡ u
present-inj e = cc

mark-is : {m n : Bool} {a b : ℕ} {k l : Types} → tree (mark m a) k ≡ tree (mark n b) l → m ≡ n
mark-is e = cc

children-are : {m n : Bool} {a b : ℕ} {k l : Types} → tree (mark m a) k ≡ tree (mark n b) l → k ≡ l
children-are e = cc

-- ---- standing firm

firm-sound : (p : List ℕ) (i : ℕ) (Γ : Types) → T (firm_steps p (find i Γ)) → Firm (i ∷ p) Γ
unfolding firm_steps Firm
firm-sound [] i Γ t = go (find i Γ) refl t
  where
    go : (l : Lookup Mark) → find i Γ ≡ l → T (firm_steps [] l) → Firm (i ∷ []) Γ
    go absent e t = absurd t
    go (present (tree (mark true b) k)) e t = (b, k, e, tt)
    go (present (tree (mark false b) k)) e t = absurd t
firm-sound (j ∷ p) i Γ t = go (find i Γ) refl (λ k u. firm-sound p j k u) t
  where
    go : (l : Lookup Mark) → find i Γ ≡ l → ((k : Types) → T (firm_steps p (find j k)) → Firm (j ∷ p) k) → T (firm_steps (j ∷ p) l) → Firm (i ∷ j ∷ p) Γ
    go absent e f t = absurd t
    go (present (tree (mark true b) k)) e f t = (b, k, e, f k t)
    go (present (tree (mark false b) k)) e f t = absurd t

firm-complete : (p : List ℕ) (i : ℕ) (Γ : Types) → Firm (i ∷ p) Γ → T (firm_steps p (find i Γ))
unfolding firm_steps Firm
firm-complete [] i Γ h = rw h.2 tt
firm-complete (j ∷ p) i Γ h = rw h.2 (firm-complete p j h.1 h.3)

pub firm-as : (x : Path) (Γ : Types) (t : MessageType) → read_firm x Γ ≡ yields t → FirmAs x Γ t
firm-as (path i p) Γ t h =
    let u = require-yields (firm_steps p (find i Γ)) PathNotFirm (the_type (read_steps p (find i Γ))) h in
    (found (read_steps p (find i Γ)) u.1, firm-sound p i Γ u.0)
  where
    found : (l : Lookup Mark) → the_type l ≡ yields t → l ≡ present t
    found absent e = absurd (let z : ◌≡◌ {A = ℕ} 0 1 = cc in omega arith)
    found (present u) e = ap present (yields-inj e)

pub as-firm : (x : Path) (Γ : Types) (t : MessageType) → FirmAs x Γ t → read_firm x Γ ≡ yields t
as-firm (path i p) Γ t h =
    require-holds (firm_steps p (find i Γ)) PathNotFirm (the_type (read_steps p (find i Γ))) (firm-complete p i Γ h.1) ∙ ap the_type h.0

-- ---- "the path above it", "the longest part of x in Γ"

nothing-below : (p : List ℕ) {t : MessageType} → read_steps p absent ≡ present t → ⊥
unfolding read_steps find
nothing-below [] e = not-here e
nothing-below (j ∷ p) e = nothing-below p e

above-sound : (p : List ℕ) (i : ℕ) (Γ : Types) (u : MessageType) → read_steps p (find i Γ) ≡ present u → T (firm_above_steps p (find i Γ))
    → Firm (above (i ∷ p)) Γ
unfolding firm_above_steps Firm above read_steps
above-sound [] i Γ u r t = tt
above-sound (j ∷ p) i Γ u r t = go (find i Γ) refl (λ k s v. above-sound p j k u s v) r t
  where
    go : (l : Lookup Mark) → find i Γ ≡ l
        → ((k : Types) → read_steps p (find j k) ≡ present u → T (firm_above_steps p (find j k)) → Firm (above (j ∷ p)) k)
        → read_steps (j ∷ p) l ≡ present u → T (firm_above_steps (j ∷ p) l) → Firm (above (i ∷ j ∷ p)) Γ
    go absent e f r t = absurd (nothing-below (j ∷ p) r)
    go (present (tree (mark true b) k)) e f r t = (b, k, e, f k r t)
    go (present (tree (mark false b) k)) e f r t = absurd t

above-complete : (p : List ℕ) (i : ℕ) (Γ : Types) → Firm (above (i ∷ p)) Γ → T (firm_above_steps p (find i Γ))
unfolding firm_above_steps Firm above
above-complete [] i Γ h = tt
above-complete (j ∷ p) i Γ h = rw h.2 (above-complete p j h.1 h.3)

longest-sound : (p : List ℕ) (i : ℕ) (Γ : Types) → read_steps p (find i Γ) ≡ absent → T (firm_above_steps p (find i Γ)) → Firm (longest_in (i ∷ p) Γ) Γ
unfolding firm_above_steps Firm longest_in read_steps
longest-sound [] i Γ r t = go (find i Γ) refl r
  where
    go : (l : Lookup Mark) → find i Γ ≡ l → l ≡ absent → Firm (if_found l (λ k. i ∷ [])) Γ
    go absent e r = tt
    go (present (tree a k)) e r = not-here (sym r)
longest-sound (j ∷ p) i Γ r t = go (find i Γ) refl (λ k s v. longest-sound p j k s v) r t
  where
    go : (l : Lookup Mark) → find i Γ ≡ l
        → ((k : Types) → read_steps p (find j k) ≡ absent → T (firm_above_steps p (find j k)) → Firm (longest_in (j ∷ p) k) k)
        → read_steps (j ∷ p) l ≡ absent → T (firm_above_steps (j ∷ p) l) → Firm (if_found l (λ k. i ∷ longest_in (j ∷ p) k)) Γ
    go absent e f r t = tt
    go (present (tree (mark true b) k)) e f r t = (b, k, e, f k r t)
    go (present (tree (mark false b) k)) e f r t = absurd t

longest-complete : (p : List ℕ) (i : ℕ) (Γ : Types) → read_steps p (find i Γ) ≡ absent → Firm (longest_in (i ∷ p) Γ) Γ → T (firm_above_steps p (find i Γ))
unfolding firm_above_steps Firm longest_in read_steps
longest-complete [] i Γ r h = tt
longest-complete (j ∷ p) i Γ r h = go (find i Γ) refl (λ k s v. longest-complete p j k s v) r h
  where
    go : (l : Lookup Mark) → find i Γ ≡ l
        → ((k : Types) → read_steps p (find j k) ≡ absent → Firm (longest_in (j ∷ p) k) k → T (firm_above_steps p (find j k)))
        → read_steps (j ∷ p) l ≡ absent → Firm (if_found l (λ k. i ∷ longest_in (j ∷ p) k)) Γ → T (firm_above_steps (j ∷ p) l)
    go absent e f r h = tt
    go (present (tree (mark m b) k)) e f r h =
        let g = present-inj (sym e ∙ h.2) in
        let em : m ≡ true = mark-is g in
        let ek : k ≡ h.1 = children-are g in
        and_i m (firm_above_steps p (find j k)) (subst T (sym em) tt)
        (f k r (subst (λ (z : Types). Firm (longest_in (j ∷ p) k) z) (sym ek) h.3))

-- For a path in Γ and for another, what the checker tests is what 01 says.
pub firm-above-in : (x : Path) (Γ : Types) (u : MessageType) → read x Γ ≡ present u → T (firm_above x Γ) → Firm (above (ids_of x)) Γ
firm-above-in (path i p) Γ u r t = above-sound p i Γ u r t

pub in-firm-above : (x : Path) (Γ : Types) → Firm (above (ids_of x)) Γ → T (firm_above x Γ)
in-firm-above (path i p) Γ h = above-complete p i Γ h

pub firm-longest : (x : Path) (Γ : Types) → read x Γ ≡ absent → T (firm_above x Γ) → Firm (longest_in (ids_of x) Γ) Γ
firm-longest (path i p) Γ r t = longest-sound p i Γ r t

pub longest-firm : (x : Path) (Γ : Types) → read x Γ ≡ absent → Firm (longest_in (ids_of x) Γ) Γ → T (firm_above x Γ)
longest-firm (path i p) Γ r h = longest-complete p i Γ r h

-- ---- expressions

same-basic : (b c : ℕ) → T (eqb b c) → b ≡ c
same-basic b c t = eqb→eq b c t

basic-same : (b c : ℕ) → b ≡ c → T (eqb b c)
basic-same b c e = subst (λ (z : ℕ). T (eqb b z)) e (eqb_refl b)

is-there : (l : Lookup Mark) → T (is_present l) → (t : MessageType) × (l ≡ present t)
is-there absent h = absurd h
is-there (present t) h = (t, refl)

gives : (c : Bool) (b : ℕ) (n : MessageType) → demand c OperandType (yields (basic_leaf b)) ≡ yields n → T c × (basic_leaf b ≡ n)
gives c b n h = let u = require-yields c OperandType (yields (basic_leaf b)) h in (u.0, yields-inj u.1)

module _ (Γ : Types) where
  unary-has : (o : Unary) (e : Expression) (t n : MessageType) → HasType Γ e t → unary_type o (root_basic t) ≡ yields n → HasType Γ (unary o e) n
  unary-has logical_not e t n d h =
      let u = gives (eqb (root_basic t) bool) bool n h in subst (HasType Γ (unary logical_not e)) u.1 (of_not d (same-basic (root_basic t) bool u.0))
  unary-has negate e t n d h = let u = gives (is_number (root_basic t)) (root_basic t) n h in subst (HasType Γ (unary negate e)) u.1 (of_negate d u.0)

  binary-has : (o : Binary) (a b : Expression) (t s n : MessageType) → HasType Γ a t → HasType Γ b s → binary_type o (root_basic t) (root_basic s) ≡ yields n
      → HasType Γ (binary o a b) n
  binary-has add a b t s n d f h =
      let N = is_number (root_basic t) in
      let E = eqb (root_basic t) (root_basic s) in
      let u = gives (N && E) (root_basic t) n h in
      subst (HasType Γ (binary add a b)) u.1 (of_add d f (and_l N E u.0) (same-basic (root_basic t) (root_basic s) (and_r N E u.0)))
  binary-has subtract a b t s n d f h =
      let N = is_number (root_basic t) in
      let E = eqb (root_basic t) (root_basic s) in
      let u = gives (N && E) (root_basic t) n h in
      subst (HasType Γ (binary subtract a b)) u.1 (of_subtract d f (and_l N E u.0) (same-basic (root_basic t) (root_basic s) (and_r N E u.0)))
  binary-has less a b t s n d f h =
      let N = is_number (root_basic t) in
      let E = eqb (root_basic t) (root_basic s) in
      let u = gives (N && E) bool n h in
      subst (HasType Γ (binary less a b)) u.1 (of_less d f (and_l N E u.0) (same-basic (root_basic t) (root_basic s) (and_r N E u.0)))
  binary-has equal a b t s n d f h =
      let W = eqb (root_basic t) void in
      let E = eqb (root_basic t) (root_basic s) in
      let u = gives (not W && E) bool n h in
      subst (HasType Γ (binary equal a b)) u.1
      (of_equal d f (λ z. not-not W (and_l (not W) E u.0) (basic-same (root_basic t) void z))
      (same-basic (root_basic t) (root_basic s) (and_r (not W) E u.0)))
  binary-has logical_and a b t s n d f h =
      let B = eqb (root_basic t) bool in
      let C = eqb (root_basic s) bool in
      let u = gives (B && C) bool n h in
      subst (HasType Γ (binary logical_and a b)) u.1
      (of_and d f (same-basic (root_basic t) bool (and_l B C u.0)) (same-basic (root_basic s) bool (and_r B C u.0)))

  -- What the function gives, the rules derive ..
  pub type-sound : (e : Expression) (n : MessageType) → expression_type Γ e ≡ yields n → HasType Γ e n
  unfolding expression_type
  type-sound (constant v) n h = subst (HasType Γ (constant v)) (yields-inj h) (of_constant v)
  type-sound (value_at x) n h = of_path x n (firm-as x Γ n h)
  type-sound (presence x) n h =
      let u = require-yields (is_in x Γ) PathNotFirm (yields (basic_leaf bool)) h in
      let f = is-there (read x Γ) u.0 in
      subst (HasType Γ (presence x)) (yields-inj u.1) (of_presence x f.0 f.1)
  type-sound (unary o e) n h =
      let u = and_then-yields (expression_type Γ e) (λ t. unary_type o (root_basic t)) h in unary-has o e u.0 n (type-sound e u.0 u.1) u.2
  type-sound (binary o a b) n h =
      let u = and_then-yields (expression_type Γ a) (λ t. and_then (expression_type Γ b) (λ s. binary_type o (root_basic t) (root_basic s))) h in
      let v = and_then-yields (expression_type Γ b) (λ s. binary_type o (root_basic u.0) (root_basic s)) u.2 in
      binary-has o a b u.0 v.0 n (type-sound a u.0 u.1) (type-sound b v.0 v.1) v.2

  both-given : (o : Binary) (a b : Expression) (t s n : MessageType) → expression_type Γ a ≡ yields t → expression_type Γ b ≡ yields s
      → binary_type o (root_basic t) (root_basic s) ≡ yields n → expression_type Γ (binary o a b) ≡ yields n
  unfolding expression_type
  both-given o a b t s n d f h =
      and_then-holds (expression_type Γ a) (λ t. and_then (expression_type Γ b) (λ s. binary_type o (root_basic t) (root_basic s))) t d
      ∙ (and_then-holds (expression_type Γ b) (λ s. binary_type o (root_basic t) (root_basic s)) s f ∙ h)

  -- .. and what the rules derive, the function gives.
  pub type-complete : {e : Expression} {n : MessageType} → HasType Γ e n → expression_type Γ e ≡ yields n
  unfolding expression_type
  type-complete (of_constant v) = refl
  type-complete (of_path x t f) = as-firm x Γ t f
  type-complete (of_presence x t f) = require-holds (is_in x Γ) PathNotFirm (yields (basic_leaf bool)) (subst (λ (l : Lookup Mark). T (is_present l)) (sym f) tt)
  type-complete (of_not {e} {t} d h) =
      and_then-holds (expression_type Γ e) (λ t. unary_type logical_not (root_basic t)) t (type-complete d)
      ∙ require-holds (eqb (root_basic t) bool) OperandType (yields (basic_leaf bool)) (basic-same (root_basic t) bool h)
  type-complete (of_and {a} {b} {t} {u} d f h k) =
      both-given logical_and a b t u (basic_leaf bool) (type-complete d) (type-complete f)
      (require-holds (eqb (root_basic t) bool && eqb (root_basic u) bool) OperandType (yields (basic_leaf bool))
      (and_i (eqb (root_basic t) bool) (eqb (root_basic u) bool) (basic-same (root_basic t) bool h) (basic-same (root_basic u) bool k)))
  type-complete (of_negate {e} {t} d h) =
      and_then-holds (expression_type Γ e) (λ t. unary_type negate (root_basic t)) t (type-complete d)
      ∙ require-holds (is_number (root_basic t)) OperandType (yields (basic_leaf (root_basic t))) h
  type-complete (of_add {a} {b} {t} {u} d f h k) =
      both-given add a b t u (basic_leaf (root_basic t)) (type-complete d) (type-complete f)
      (require-holds (is_number (root_basic t) && eqb (root_basic t) (root_basic u)) OperandType (yields (basic_leaf (root_basic t)))
      (and_i (is_number (root_basic t)) (eqb (root_basic t) (root_basic u)) h (basic-same (root_basic t) (root_basic u) k)))
  type-complete (of_subtract {a} {b} {t} {u} d f h k) =
      both-given subtract a b t u (basic_leaf (root_basic t)) (type-complete d) (type-complete f)
      (require-holds (is_number (root_basic t) && eqb (root_basic t) (root_basic u)) OperandType (yields (basic_leaf (root_basic t)))
      (and_i (is_number (root_basic t)) (eqb (root_basic t) (root_basic u)) h (basic-same (root_basic t) (root_basic u) k)))
  type-complete (of_less {a} {b} {t} {u} d f h k) =
      both-given less a b t u (basic_leaf bool) (type-complete d) (type-complete f)
      (require-holds (is_number (root_basic t) && eqb (root_basic t) (root_basic u)) OperandType (yields (basic_leaf bool))
      (and_i (is_number (root_basic t)) (eqb (root_basic t) (root_basic u)) h (basic-same (root_basic t) (root_basic u) k)))
  type-complete (of_equal {a} {b} {t} {u} d f h k) =
      both-given equal a b t u (basic_leaf bool) (type-complete d) (type-complete f)
      (require-holds (not (eqb (root_basic t) void) && eqb (root_basic t) (root_basic u)) OperandType (yields (basic_leaf bool))
      (and_i (not (eqb (root_basic t) void)) (eqb (root_basic t) (root_basic u)) (not-intro (eqb (root_basic t) void) (λ z. h (same-basic (root_basic t) void z)))
      (basic-same (root_basic t) (root_basic u) k)))
