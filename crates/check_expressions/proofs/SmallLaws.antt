-- An expression's basic type is one of 0 to 6.
use Rattle.std.specs.Prelude.{ℕ, ◌<◌, ◌≤◌, ◌≡◌, refl, List, [], ◌∷◌, Bool, true, false, not, ◌&&◌, eqb}
use Rattle.std.proofs.Common.{subst, arith}
use Rattle.tree_forest.specs.Compare.{Compare, lt, eq, gt, compare}
use Rattle.tree_forest.specs.Forest.{end, node, tree, Lookup, absent, present, find_by, find}
use Rattle.tree_forest.specs.Path.{Path, path, read_steps, read}
use Rattle.refusal.specs.declared.Refusal.{Refusal}
use Rattle.refusal.specs.declared.Refusal.TheVariants.{PathNotFirm, OperandType}
use Rattle.scalar.specs.Basic.{bool, void, last_basic}
use Rattle.scalar.specs.Value.{value}
use Rattle.scalar.specs.ValueLaws.{value-basic}
use Rattle.scalar.specs.Operator.{is_number}
use Rattle.network_syntax.specs.Syntax.{Mark, mark, Types, MessageType, Unary, logical_not, negate, Binary, add, subtract}
use Rattle.network_syntax.specs.Syntax.{less, equal, logical_and, Expression, constant, value_at, presence, unary, binary}
use Rattle.check_subtyping.specs.Subtype.{root_basic}
use Rattle.check_typing.specs.Result.{Attempt, fails, yields, demand, and_then}
use Rattle.check_typing.specs.Environment.{is_in, stands_firm, the_type, read_firm, basic_leaf}
use Rattle.check_typing.specs.ExpressionTyping.{unary_type, binary_type, expression_type}
use Rattle.network.specs.Form.{WellFormed}
use Rattle.network.specs.Layout.{expression_count}
use Rattle.network.specs.Decode.{expression_of}
use Rattle.network.specs.Shapes.{PartsShape}
use Rattle.network.proofs.DecodeLaws.{expression-shape}
use Rattle.check_types.specs.Image.{InRange}

-- What stands in an environment.
abbrev FoundSmall : Lookup Mark → Type 0
FoundSmall absent = Unit {0}
FoundSmall (present (tree (mark m b) k)) = (b ≤ last_basic) × InRange k

find-small : (i : ℕ) (Γ : Types) → InRange Γ → FoundSmall (find i Γ)
unfolding InRange find
find-small i end h = tt
find-small i (node j (mark m b) k r) h = go (compare i j) (find-small i r h.4)
  where
    go : (c : Compare i j) → FoundSmall (find i r) → FoundSmall (find_by c (tree (mark m b) k) (find i r))
    go (lt l) z = tt
    go (eq l) z = (h.2, h.3)
    go (gt l) z = z

end-range : InRange end
unfolding InRange
end-range = tt

read_small : (p : List ℕ) (l : Lookup Mark) → FoundSmall l → FoundSmall (read_steps p l)
unfolding read_steps
read_small [] l h = h
read_small (j ∷ p) absent h = read_small p (find j end) (find-small j end end-range)
read_small (j ∷ p) (present (tree (mark m b) k)) h = read_small p (find j k) (find-small j k h.1)

yields-same : {A : Type 0} {a b : A} → yields a ≡ yields b → a ≡ b
yields-same e = cc

not-yields : {A : Type 0} {a : A} {why : ℕ → Refusal} → fails why ≡ yields a → ⊥
not-yields e = let z : ◌≡◌ {A = ℕ} 0 1 = cc in omega arith

firm-small : (x : Path) (Γ : Types) → InRange Γ → (n : MessageType) → read_firm x Γ ≡ yields n → root_basic n ≤ last_basic
firm-small (path i p) Γ h n e = go (stands_firm (path i p) Γ) (read (path i p) Γ) (read_small p (find i Γ) (find-small i Γ h)) e
  where
    go : (t : Bool) (l : Lookup Mark) → FoundSmall l → demand t PathNotFirm (the_type l) ≡ yields n → root_basic n ≤ last_basic
    go true absent s e = absurd (not-yields e)
    go true (present (tree (mark m b) k)) s e = subst (λ (y : MessageType). root_basic y ≤ last_basic) (yields-same e) s.0
    go false l s e = absurd (not-yields e)

leaf-small : (t : Bool) (b : ℕ) (n : MessageType) (why : ℕ → Refusal) → b ≤ last_basic → demand t why (yields (basic_leaf b)) ≡ yields n → root_basic n ≤ last_basic
leaf-small true b n why h e = subst (λ (y : MessageType). root_basic y ≤ last_basic) (yields-same e) h
leaf-small false b n why h e = absurd (not-yields e)

-- An operator's rule gives a basic type alone, bool or that of an operand, or refuses with 8.
abbrev pub Alone : ℕ → Attempt MessageType → Type 0
Alone b (fails why) = why ≡ OperandType
Alone b (yields t) = (t ≡ basic_leaf (root_basic t)) × (b ≤ last_basic → root_basic t ≤ last_basic)

alone : (t : Bool) (b c : ℕ) → (b ≤ last_basic → c ≤ last_basic) → Alone b (demand t OperandType (yields (basic_leaf c)))
alone true b c h = (refl, h)
alone false b c h = refl

pub unary-alone : (o : Unary) (b : ℕ) → Alone b (unary_type o b)
unary-alone logical_not b = alone (eqb b bool) b bool (λ h. omega arith)
unary-alone negate b = alone (is_number b) b b (λ h. h)

pub binary-alone : (o : Binary) (b c : ℕ) → Alone b (binary_type o b c)
binary-alone add b c = alone (is_number b && eqb b c) b b (λ h. h)
binary-alone subtract b c = alone (is_number b && eqb b c) b b (λ h. h)
binary-alone less b c = alone (is_number b && eqb b c) b bool (λ h. omega arith)
binary-alone equal b c = alone (not (eqb b void) && eqb b c) b bool (λ h. omega arith)
binary-alone logical_and b c = alone (eqb b bool && eqb c bool) b bool (λ h. omega arith)

unary-small : (o : Unary) (b : ℕ) (n : MessageType) → b ≤ last_basic → unary_type o b ≡ yields n → root_basic n ≤ last_basic
unary-small o b n h e = (subst (Alone b) e (unary-alone o b)).1 h

binary-small : (o : Binary) (b c : ℕ) (n : MessageType) → b ≤ last_basic → binary_type o b c ≡ yields n → root_basic n ≤ last_basic
binary-small o b c n h e = (subst (Alone b) e (binary-alone o b c)).1 h

small : (Γ : Types) → InRange Γ → (e : Expression) → PartsShape e → (n : MessageType) → expression_type Γ e ≡ yields n → root_basic n ≤ last_basic
unfolding expression_type PartsShape
small Γ h (constant (value b v)) s n e = subst (λ (y : MessageType). root_basic y ≤ last_basic) (yields-same e) (value-basic b v s)
small Γ h (value_at x) s n e = firm-small x Γ h n e
small Γ h (presence x) s n e = leaf-small (is_in x Γ) bool n PathNotFirm (omega arith) e
small Γ h (unary o a) s n e = go (expression_type Γ a) (small Γ h a s) e
  where
    go : (r : Attempt MessageType) → ((m : MessageType) → r ≡ yields m → root_basic m ≤ last_basic) → and_then r (λ t. unary_type o (root_basic t)) ≡ yields n
        → root_basic n ≤ last_basic
    go (fails why) k e = absurd (not-yields e)
    go (yields m) k e = unary-small o (root_basic m) n (k m refl) e
small Γ h (binary o a b) s n e = go (expression_type Γ a) (expression_type Γ b) (small Γ h a s.0) e
  where
    go : (r q : Attempt MessageType) → ((m : MessageType) → r ≡ yields m → root_basic m ≤ last_basic)
        → and_then r (λ t. and_then q (λ u. binary_type o (root_basic t) (root_basic u))) ≡ yields n → root_basic n ≤ last_basic
    go (fails why) q k e = absurd (not-yields e)
    go (yields m) (fails why) k e = absurd (not-yields e)
    go (yields m) (yields u) k e = binary-small o (root_basic m) (root_basic u) n (k m refl) e

pub small-typing : (s : List ℕ) → WellFormed s → (Γ : Types) → InRange Γ → (r : ℕ) → r < expression_count s
    → (n : MessageType) → expression_type Γ (expression_of s r) ≡ yields n → root_basic n ≤ last_basic
small-typing s w Γ h r l n e = small Γ h (expression_of s r) (expression-shape s w r l).parts n e
