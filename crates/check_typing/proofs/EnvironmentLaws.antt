-- Laws of environments. Placing and assigning are one walk down the path with an end of their own (`along`); what the walk
-- keeps is proved once: a tree whose own type is ≤ Γ stays so, Γ only grows, ids stay in order.
use Rattle.std.specs.Prelude.{◌≡◌, refl, ℕ, suc, ◌≤◌, ◌<◌, ◌+◌, max, Bool, not, ◌&&◌, ◌||◌, T, eqb, leb}
use Rattle.std.proofs.Common.{sym, ap, ◌∙◌, eqb→eq, leb→le, le→leb}
use Rattle.std.proofs.Math.Path.{subst}
use Rattle.std.proofs.Math.Bool.{true, false}
use mathlib.Core.List.{List, [], ◌∷◌, ◌++◌}
use native.Mathlib.Omega.{arith}
use Rattle.std.proofs.Math.Dec.{eqb_refl}
use Rattle.basics.specs.TestLaws.{and_i, and_l, and_r}
use Rattle.tree_forest.specs.Compare.{Compare, lt, eq, gt, compare}
use Rattle.tree_forest.specs.Forest.{Forest, end, node, Tree, tree, Lookup, absent, present, find, find_by, set, set_by, children_of, payload_of}
use Rattle.tree_forest.specs.Forest.{Rising, RisingTree, RisingLookup, measure, nodes, levels, map_forest}
use Rattle.tree_forest.specs.ForestLaws.{Combining, set_same, rising-set, rising-find}
use Rattle.tree_forest.specs.Path.{Path, path, read_steps, read, write_steps, write, replace_at, set_payload_at}
use Rattle.refusal.specs.declared.Refusal.{Refusal}
use Rattle.refusal.specs.declared.Refusal.TheVariants.{PathNotFirm, TypeMisfit}
use Rattle.scalar.specs.Basic.{void}
use Rattle.scalar.specs.Value.{Value, basic_of}
use Rattle.network_syntax.specs.Syntax.{Mark, mark, Types, MessageType}
use Rattle.check_subtyping.specs.Subtype.{root_basic, root_children, ChildSubtype, in_neither, optional_absent, Subtypes, Subtype, is_subtype}
use Rattle.check_subtyping.proofs.SubtypeLaws.{absent-not-mandatory, optional-absent, child-basics, child-below, not-present-absent, subtype-trans}
use Rattle.check_subtyping.proofs.SubtypeLaws.{subtype-sound}
use Rattle.check_subtyping.specs.Own.{own_mark, own_types, own_type, own_lookup}
use Rattle.check_subtyping.proofs.OwnLaws.{tree-within, own-child, child-own, own_at, own-set, own-end}
use Rattle.check_typing.specs.Result.{Attempt, fails, yields, demand, and_then}
use Rattle.check_typing.proofs.ResultLaws.{not-yields, yields-inj, require-yields, require-holds, and_then-yields}
use Rattle.check_typing.specs.Environment.{within, is_in, firm_steps, stands_firm, the_type, read_firm, firm_above_steps, firm_above, missing_step}
use Rattle.tree_forest.specs.Forest.{is_present}
use Rattle.check_typing.specs.Environment.{as_mandatory, basic_leaf, no_mandatory, place_at, place, assign_at, assign_to}

-- A type is put back at the id j among the children k, below the mark a; at the root i of Γ.
abbrev pub put_child : ℕ → Mark → Types → Attempt MessageType → Attempt MessageType
put_child j a k (fails e) = fails e
put_child j a k (yields n) = yields (tree a (set j n k))

abbrev pub put_root : ℕ → Types → Attempt MessageType → Attempt Types
put_root i Γ (fails e) = fails e
put_root i Γ (yields n) = yields (set i n Γ)

-- The walk down the steps: E says what happens at the end of the path.
unfoldable pub along : List ℕ → (Lookup Mark → Attempt MessageType) → Lookup Mark → Attempt MessageType
along [] E l = E l
along (j ∷ p) E absent = put_child j missing_step end (along p E absent)
along (j ∷ p) E (present (tree (mark false b) k)) = fails PathNotFirm
along (j ∷ p) E (present (tree (mark true b) k)) = put_child j (mark true b) k (along p E (find j k))

-- The two ends.
abbrev pub place_end : MessageType → Lookup Mark → Attempt MessageType
place_end t absent = yields (as_mandatory t)
place_end t (present u) = demand (is_subtype t u) TypeMisfit (yields u)

abbrev pub assign_end : ℕ → Lookup Mark → Attempt MessageType
assign_end b absent = yields (basic_leaf b)
assign_end b (present (tree (mark m c) k)) = demand (eqb b c) TypeMisfit (demand (m || no_mandatory k) PathNotFirm (yields (tree (mark m c) k)))

-- What stands at the end stays, if the end passes.
pub Stays : (Lookup Mark → Attempt MessageType) → Type 0
Stays E = (u n : MessageType) → E (present u) ≡ yields n → n ≡ u

pub place-stays : (t : MessageType) → Stays (place_end t)
unfolding Stays
place-stays t u n h = sym (yields-inj (require-yields (is_subtype t u) TypeMisfit (yields u) h).1)

pub assign-stays : (b : ℕ) → Stays (assign_end b)
unfolding Stays
assign-stays b (tree (mark m c) k) n h =
    let u = require-yields (eqb b c) TypeMisfit (demand (m || no_mandatory k) PathNotFirm (yields (tree (mark m c) k))) h in
    sym (yields-inj (require-yields (m || no_mandatory k) PathNotFirm (yields (tree (mark m c) k)) u.1).1)

-- Nothing is below what is absent.
pub read-absent : (p : List ℕ) → read_steps {A = Mark} p absent ≡ absent
unfolding read_steps find
read-absent [] = refl
read-absent (j ∷ p) = read-absent p

firm-absent : (p : List ℕ) → firm_above_steps p absent ≡ true
unfolding firm_above_steps
firm-absent [] = refl
firm-absent (j ∷ p) = refl

-- The walk as 01 says it: first whether the path above stands firm, then what stands at the end decides.
abbrev ends : List ℕ → (Lookup Mark → Attempt MessageType) → Lookup Mark → Lookup Mark → Attempt MessageType
ends p E l absent = and_then (E absent) (λ t. yields (write_steps missing_step p (λ x. t) l))
ends p E l (present u) = and_then (E (present u)) (λ n. the_type l)

along-ends : (E : Lookup Mark → Attempt MessageType) → Stays E → (p : List ℕ) (l : Lookup Mark)
    → along p E l ≡ demand (firm_above_steps p l) PathNotFirm (ends p E l (read_steps p l))
unfolding Stays along firm_above_steps read_steps write_steps find
along-ends E s [] absent = go (E absent)
  where
    go : (r : Attempt MessageType) → r ≡ and_then r (λ t. yields t)
    go (fails e) = refl
    go (yields t) = refl
along-ends E s [] (present u) = go (E (present u)) refl
  where
    go : (r : Attempt MessageType) → E (present u) ≡ r → r ≡ and_then r (λ n. yields u)
    go (fails e) h = refl
    go (yields n) h = ap yields (s u n h)
along-ends E s (j ∷ p) absent = rw (along-ends E s p absent, firm-absent p, read-absent p) (go (E absent))
  where
    go : (r : Attempt MessageType) → put_child j missing_step end (and_then r (λ t. yields (write_steps missing_step p (λ x. t) absent)))
        ≡ and_then r (λ t. yields (tree missing_step (set j (write_steps missing_step p (λ x. t) absent) end)))
    go (fails e) = refl
    go (yields t) = refl
along-ends E s (j ∷ p) (present (tree (mark false b) k)) = refl
along-ends E s (j ∷ p) (present (tree (mark true b) k)) =
    rw (along-ends E s p (find j k)) (go (firm_above_steps p (find j k)) (read_steps p (find j k)) refl)
  where
    old : (l r : Lookup Mark) (u : MessageType) → find j k ≡ l → read_steps p l ≡ present u
        → put_child j (mark true b) k (the_type l) ≡ yields (tree (mark true b) k)
    old absent r u h e = absurd (let q = read-absent p in let z : ◌≡◌ {A = ℕ} 0 1 = cc in omega arith)
    old (present n) r u h e = ap (λ (z : Types). yields (tree (mark true b) z)) (set_same j n k h)

    new : (r : Attempt MessageType) → put_child j (mark true b) k (and_then r (λ t. yields (write_steps missing_step p (λ x. t) (find j k))))
        ≡ and_then r (λ t. yields (tree (mark true b) (set j (write_steps missing_step p (λ x. t) (find j k)) k)))
    new (fails e) = refl
    new (yields t) = refl

    there : (u : MessageType) (r : Attempt MessageType) → read_steps p (find j k) ≡ present u
        → put_child j (mark true b) k (and_then r (λ n. the_type (find j k))) ≡ and_then r (λ n. yields (tree (mark true b) k))
    there u (fails e) h = refl
    there u (yields n) h = old (find j k) absent u refl h

    go : (f : Bool) (r : Lookup Mark) → read_steps p (find j k) ≡ r → put_child j (mark true b) k (demand f PathNotFirm (ends p E (find j k) r))
        ≡ demand f PathNotFirm (ends (j ∷ p) E (present (tree (mark true b) k)) r)
    go false r h = refl
    go true absent h = new (E absent)
    go true (present u) h = there u (E (present u)) h

-- Placing and assigning are the walk, put back at the path's first id.
whole : (E : Lookup Mark → Attempt MessageType) → Stays E → (i : ℕ) (p : List ℕ) (Γ : Types) (f : Bool) (r : Lookup Mark) → read_steps p (find i Γ) ≡ r
    → (A : Lookup Mark → Attempt Types) → A absent ≡ and_then (E absent) (λ t. yields (replace_at missing_step (path i p) t Γ))
    → ((u : MessageType) → A (present u) ≡ and_then (E (present u)) (λ n. yields Γ))
    → demand f PathNotFirm (A r) ≡ put_root i Γ (demand f PathNotFirm (ends p E (find i Γ) r))
whole E s i p Γ false r h A a0 a1 = refl
whole E s i p Γ true absent h A a0 a1 = a0 ∙ go (E absent)
  where
    go : (r : Attempt MessageType) → and_then r (λ t. yields (set i (write_steps missing_step p (λ x. t) (find i Γ)) Γ))
        ≡ put_root i Γ (and_then r (λ t. yields (write_steps missing_step p (λ x. t) (find i Γ))))
    go (fails e) = refl
    go (yields t) = refl
whole E s i p Γ true (present u) h A a0 a1 = a1 u ∙ go (E (present u))
  where
    old : (l : Lookup Mark) → find i Γ ≡ l → read_steps p l ≡ present u → yields Γ ≡ put_root i Γ (the_type l)
    old absent q e = absurd (let w = read-absent p in let z : ◌≡◌ {A = ℕ} 0 1 = cc in omega arith)
    old (present n) q e = ap yields (sym (set_same i n Γ q))

    go : (r : Attempt MessageType) → and_then r (λ n. yields Γ) ≡ put_root i Γ (and_then r (λ n. the_type (find i Γ)))
    go (fails e) = refl
    go (yields n) = old (find i Γ) refl h

require-then : {A B : Type 0} (b : Bool) (e : ℕ → Refusal) (a : A) (c : Attempt B) → demand b e c ≡ and_then (demand b e (yields a)) (λ n. c)
require-then true e a c = refl
require-then false e a c = refl

pub place-along : (i : ℕ) (p : List ℕ) (t : MessageType) (Γ : Types) → place (path i p) t Γ ≡ put_root i Γ (along p (place_end t) (find i Γ))
place-along i p t Γ =
    whole (place_end t) (place-stays t) i p Γ (firm_above_steps p (find i Γ)) (read_steps p (find i Γ)) refl (place_at (path i p) t Γ) refl
    (λ u. require-then (is_subtype t u) TypeMisfit u (yields Γ))
    ∙ ap (put_root i Γ) (sym (along-ends (place_end t) (place-stays t) p (find i Γ)))

pub assign-along : (i : ℕ) (p : List ℕ) (b : ℕ) (Γ : Types) → assign_to (path i p) b Γ ≡ put_root i Γ (along p (assign_end b) (find i Γ))
assign-along i p b Γ =
    whole (assign_end b) (assign-stays b) i p Γ (firm_above_steps p (find i Γ)) (read_steps p (find i Γ)) refl (assign_at (path i p) b Γ) refl there
    ∙ ap (put_root i Γ) (sym (along-ends (assign_end b) (assign-stays b) p (find i Γ)))
  where
    two : (f g : Bool) (u : MessageType)
        → demand f TypeMisfit (demand g PathNotFirm (yields Γ)) ≡ and_then (demand f TypeMisfit (demand g PathNotFirm (yields u))) (λ n. yields Γ)
    two true true u = refl
    two true false u = refl
    two false g u = refl

    there : (u : MessageType) → assign_at (path i p) b Γ (present u) ≡ and_then (assign_end b (present u)) (λ n. yields Γ)
    there (tree (mark m c) k) = two (eqb b c) (m || no_mandatory k) (tree (mark m c) k)

pub put_child-yields : (j : ℕ) (a : Mark) (k : Types) (r : Attempt MessageType) (n : MessageType) → put_child j a k r ≡ yields n
    → (x : MessageType) × (r ≡ yields x) × (n ≡ tree a (set j x k))
put_child-yields j a k (fails e) n h = absurd (not-yields h)
put_child-yields j a k (yields x) n h = (x, refl, cc)

pub put_root-yields : (i : ℕ) (Γ : Types) (r : Attempt MessageType) (Δ : Types) → put_root i Γ r ≡ yields Δ
    → (x : MessageType) × (r ≡ yields x) × (Δ ≡ set i x Γ)
put_root-yields i Γ (fails e) Δ h = absurd (not-yields h)
put_root-yields i Γ (yields x) Δ h = (x, refl, cc)

-- What was put at the path's first id; and back.
pub place-root : (i : ℕ) (p : List ℕ) (t : MessageType) (Γ Δ : Types) → place (path i p) t Γ ≡ yields Δ
    → (x : MessageType) × (along p (place_end t) (find i Γ) ≡ yields x) × (Δ ≡ set i x Γ)
place-root i p t Γ Δ h = put_root-yields i Γ (along p (place_end t) (find i Γ)) Δ (sym (place-along i p t Γ) ∙ h)

pub assign-root : (i : ℕ) (p : List ℕ) (b : ℕ) (Γ Δ : Types) → assign_to (path i p) b Γ ≡ yields Δ
    → (x : MessageType) × (along p (assign_end b) (find i Γ) ≡ yields x) × (Δ ≡ set i x Γ)
assign-root i p b Γ Δ h = put_root-yields i Γ (along p (assign_end b) (find i Γ)) Δ (sym (assign-along i p b Γ) ∙ h)

pub place-make : (i : ℕ) (p : List ℕ) (t : MessageType) (Γ : Types) (x : MessageType) → along p (place_end t) (find i Γ) ≡ yields x
    → place (path i p) t Γ ≡ yields (set i x Γ)
place-make i p t Γ x h = place-along i p t Γ ∙ ap (put_root i Γ) h

pub assign-make : (i : ℕ) (p : List ℕ) (b : ℕ) (Γ : Types) (x : MessageType) → along p (assign_end b) (find i Γ) ≡ yields x
    → assign_to (path i p) b Γ ≡ yields (set i x Γ)
assign-make i p b Γ x h = assign-along i p b Γ ∙ ap (put_root i Γ) h

-- The two sentences that `firm_above` renders --------------------------------------------------------------------

and-true : (m b : Bool) → b ≡ true → (m && b) ≡ m
and-true true b e = e
and-true false b e = refl

no_value : (p : List ℕ) → T (is_present (read_steps {A = Mark} p absent)) → ⊥
no_value p t = subst (λ (l : Lookup Mark). T (is_present l)) (read-absent p) t

-- For a path in Γ: firm above is that "the path above it stands firm".
above_in : (p : List ℕ) (j : ℕ) (l : Lookup Mark) → T (is_present (read_steps (p ++ j ∷ []) l)) → firm_above_steps (p ++ j ∷ []) l ≡ firm_steps p l
unfolding firm_above_steps firm_steps read_steps find
above_in [] j absent t = absurd t
above_in [] j (present (tree (mark m b) k)) t = and-true m true refl
above_in (i ∷ p) j absent t = absurd (no_value (p ++ j ∷ []) t)
above_in (i ∷ p) j (present (tree (mark m b) k)) t = ap (λ (x : Bool). m && x) (above_in p j (find i k) t)

pub firm_above-in : (i : ℕ) (p : List ℕ) (j : ℕ) (Γ : Types) → T (is_in (path i (p ++ j ∷ [])) Γ)
    → firm_above (path i (p ++ j ∷ [])) Γ ≡ stands_firm (path i p) Γ
firm_above-in i p j Γ t = above_in p j (find i Γ) t

-- For a path whose longest part in Γ is a: firm above is that "the longest part of x in Γ stands firm".
above_new : (a : List ℕ) (j : ℕ) (c : List ℕ) (l : Lookup Mark) → T (is_present (read_steps a l)) → read_steps (a ++ j ∷ []) l ≡ absent
    → firm_above_steps (a ++ j ∷ c) l ≡ firm_steps a l
unfolding firm_above_steps firm_steps read_steps find
above_new [] j c absent t e = absurd t
above_new [] j c (present (tree (mark m b) k)) t e = and-true m _ (ap (firm_above_steps c) e ∙ firm-absent c)
above_new (i ∷ a) j c absent t e = absurd (no_value a t)
above_new (i ∷ a) j c (present (tree (mark m b) k)) t e = ap (λ (x : Bool). m && x) (above_new a j c (find i k) t e)

pub firm_above-new : (i : ℕ) (a : List ℕ) (j : ℕ) (c : List ℕ) (Γ : Types) → T (is_in (path i a) Γ) → read (path i (a ++ j ∷ [])) Γ ≡ absent
    → firm_above (path i (a ++ j ∷ c)) Γ ≡ stands_firm (path i a) Γ
firm_above-new i a j c Γ t e = above_new a j c (find i Γ) t e

-- For a path whose first id is not in Γ: the empty part stands firm.
pub firm_above-none : (i : ℕ) (p : List ℕ) (Γ : Types) → find i Γ ≡ absent → firm_above (path i p) Γ ≡ true
firm_above-none i p Γ e = ap (firm_above_steps p) e ∙ firm-absent p

-- A tree and its environment ---------------------------------------------------------------------------------------

-- Children that are all optional may be absent.
pub none-mandatory : (k : Types) → T (no_mandatory k) → (i : ℕ) → ChildSubtype absent (find i k)
unfolding no_mandatory find
none-mandatory end t i = in_neither
none-mandatory (node j (mark m b) k r) t i = go (compare i j) (none-mandatory r (and_r (not m) (no_mandatory r) t) i)
  where
    nn : (m : Bool) → T (not m && no_mandatory r) → T m → ⊥
    nn true t u = t
    nn false t u = u

    go : (c : Compare i j) → ChildSubtype absent (find i r) → ChildSubtype absent (find_by c (tree (mark m b) k) (find i r))
    go (lt c) ih = in_neither
    go (eq c) ih = optional-absent (nn m t)
    go (gt c) ih = ih

retype : {s t u : MessageType} → t ≡ u → Subtype s t → Subtype s u
retype {s} e h = subst (Subtype s) e h

-- f, at the end of the path in the tree, does what E does there in Γ.
pub Follows : (Lookup Value → Tree Value) → (Lookup Mark → Attempt MessageType) → Type 0
Follows f E = (l : Lookup Value) (g : Lookup Mark) (n : MessageType) → ChildSubtype (own_lookup l) g → E g ≡ yields n → Subtype (own_type (f l)) n

-- z is what a missing step carries in a tree: void.
module _ (z : Value) (zv : basic_of z ≡ void) where
  step-old : (j : ℕ) (l : Lookup Value) (n : MessageType) (r : Lookup Mark → Attempt MessageType) (w : Lookup Value → Tree Value)
      → (b : ℕ) (k : Types) → ChildSubtype (own_lookup l) (present (tree (mark true b) k)) → put_child j (mark true b) k (r (find j k)) ≡ yields n
      → ((l2 : Lookup Value) (x : MessageType) → ChildSubtype (own_lookup l2) (find j k) → r (find j k) ≡ yields x → Subtype (own_type (w l2)) x)
      → Subtype (own_type (tree (payload_of z l) (set j (w (find j (children_of l))) (children_of l)))) n
  step-old j absent n r w b k h e ih = absurd (absent-not-mandatory h tt)
  step-old j (present (tree a l)) n r w b k h e ih =
      let u = put_child-yields j (mark true b) k (r (find j k)) n e in
      retype (sym u.2)
      (record {
        basics = child-basics h;
        children =
            own-set l j (w (find j l)) (child-below h) (ih (find j l) u.0 (own_at l (child-below h) j) u.1);
      })

  step-new : (j : ℕ) (l : Lookup Value) (n : MessageType) (r : Lookup Mark → Attempt MessageType) (w : Lookup Value → Tree Value)
      → ChildSubtype (own_lookup l) absent → put_child j missing_step end (r absent) ≡ yields n
      → ((l2 : Lookup Value) (x : MessageType) → ChildSubtype (own_lookup l2) absent → r absent ≡ yields x → Subtype (own_type (w l2)) x)
      → Subtype (own_type (tree (payload_of z l) (set j (w (find j (children_of l))) (children_of l)))) n
  unfolding find
  step-new j absent n r w h e ih =
      let u = put_child-yields j missing_step end (r absent) n e in
      retype (sym u.2)
      (record { basics = zv; children = own-set end j (w absent) own-end (ih absent u.0 in_neither u.1) })
  step-new j (present (tree a l)) n r w h e ih = absurd (not-present-absent h)

  pub along-keeps : (f : Lookup Value → Tree Value) (E : Lookup Mark → Attempt MessageType) → Follows f E
      → (p : List ℕ) (g : Lookup Mark) (l : Lookup Value)
      (n : MessageType) → ChildSubtype (own_lookup l) g → along p E g ≡ yields n → Subtype (own_type (write_steps z p f l)) n
  unfolding along write_steps Follows
  along-keeps f E F [] g l n h e = F l g n h e
  along-keeps f E F (j ∷ p) absent l n h e = step-new j l n (along p E) (write_steps z p f) h e (λ l2 x. along-keeps f E F p absent l2 x)
  along-keeps f E F (j ∷ p) (present (tree (mark true b) k)) l n h e =
      step-old j l n (along p E) (write_steps z p f) b k h e (λ l2 x. along-keeps f E F p (find j k) l2 x)
  along-keeps f E F (j ∷ p) (present (tree (mark false b) k)) l n h e = absurd (not-yields e)

  place-follows : (msg : Tree Value) (t : MessageType) → Subtype (own_type msg) t → Follows (λ l. msg) (place_end t)
  unfolding Follows
  place-follows msg (tree (mark m b) k) s l absent n h e =
      subst (Subtype (own_type msg)) (yields-inj e) (record { basics = s.basics; children = s.children })
  place-follows msg t s l (present g) n h e =
      let u = require-yields (is_subtype t g) TypeMisfit (yields g) e in
      subst (Subtype (own_type msg)) (yields-inj u.1) (subtype-trans s (subtype-sound t g u.0))

  or-second : (m c : Bool) → T (m || c) → (T m → ⊥) → T c
  or-second true c t f = absurd (f tt)
  or-second false c t f = t

  assign-there : (v : Value) (l : Lookup Value) (m : Bool) (c : ℕ) (k : Types) → basic_of v ≡ c → T (m || no_mandatory k)
      → ChildSubtype (own_lookup l) (present (tree (mark m c) k)) → Subtype (own_type (tree v (children_of l))) (tree (mark m c) k)
  unfolding map_forest find
  assign-there v absent m c k e t h =
      record { basics = e; children = record { at = none-mandatory k (or-second m (no_mandatory k) t (absent-not-mandatory h)) } }
  assign-there v (present (tree a l)) m c k e t h = record { basics = e; children = child-below h }

  assign-follows : (v : Value) → Follows (λ l. tree v (children_of l)) (assign_end (basic_of v))
  unfolding Follows
  assign-follows v absent absent n h e = retype (yields-inj e) (record { basics = refl; children = own-end })
  assign-follows v (present x) absent n h e = absurd (not-present-absent h)
  assign-follows v l (present (tree (mark m c) k)) n h e =
      let u = require-yields (eqb (basic_of v) c) TypeMisfit (demand (m || no_mandatory k) PathNotFirm (yields (tree (mark m c) k))) e in
      let w = require-yields (m || no_mandatory k) PathNotFirm (yields (tree (mark m c) k)) u.1 in
      retype (yields-inj w.1) (assign-there v l m c k (eqb→eq (basic_of v) c u.0) w.0 h)

  -- Receiving a message that fits T at x, where T can be placed at x: the tree's own type is ≤ the new Γ. Also for a reply.
  pub receive_ok : (x : Path) (msg : Tree Value) (t : MessageType) (F : Forest Value) (Γ Δ : Types) → Subtype (own_type msg) t
      → Subtypes (own_types F) Γ → place x t Γ ≡ yields Δ → Subtypes (own_types (replace_at z x msg F)) Δ
  receive_ok (path i p) msg t F Γ Δ s h e =
      let u = place-root i p t Γ Δ e in
      subst (Subtypes _) (sym u.2)
      (own-set F i (write_steps z p (λ l. msg) (find i F)) h
      (along-keeps (λ l. msg) (place_end t) (place-follows msg t s) p (find i Γ) (find i F) u.0 (own_at F h i) u.1))

  -- Assigning a value at x, where its basic type can be assigned: likewise.
  pub assign-ok : (x : Path) (v : Value) (F : Forest Value) (Γ Δ : Types) → Subtypes (own_types F) Γ → assign_to x (basic_of v) Γ ≡ yields Δ
      → Subtypes (own_types (set_payload_at z x v F)) Δ
  assign-ok (path i p) v F Γ Δ h e =
      let u = assign-root i p (basic_of v) Γ Δ e in
      subst (Subtypes _) (sym u.2)
      (own-set F i (write_steps z p (λ l. tree v (children_of l)) (find i F)) h
      (along-keeps (λ l. tree v (children_of l)) (assign_end (basic_of v)) (assign-follows v) p (find i Γ) (find i F) u.0 (own_at F h i) u.1))

pub present-inj : {t u : MessageType} → present t ≡ present u → t ≡ u
present-inj h = cc

-- A path that stands firm is in the tree, and what is there is of the type.
firm-reads : (p : List ℕ) (g : Lookup Mark) (l : Lookup Value) (n : MessageType) → ChildSubtype (own_lookup l) g → T (firm_steps p g)
    → read_steps p g ≡ present n
    → (y : Tree Value) × (read_steps p l ≡ present y) × Subtype (own_type y) n
unfolding firm_steps read_steps
firm-reads [] absent l n h t e = absurd t
firm-reads [] (present (tree (mark true b) k)) absent n h t e = absurd (absent-not-mandatory h tt)
firm-reads [] (present (tree (mark false b) k)) l n h t e = absurd t
firm-reads [] (present (tree (mark true b) k)) (present x) n h t e =
    (x, refl, retype (present-inj e) (child-own x (tree (mark true b) k) h))
firm-reads (j ∷ p) absent l n h t e = absurd t
firm-reads (j ∷ p) (present (tree (mark false b) k)) l n h t e = absurd t
firm-reads (j ∷ p) (present (tree (mark true b) k)) absent n h t e = absurd (absent-not-mandatory h tt)
firm-reads (j ∷ p) (present (tree (mark true b) k)) (present (tree a l)) n h t e =
    firm-reads p (find j k) (find j l) n (own_at l (child-below h) j) t e

the-type : (l : Lookup Mark) (n : MessageType) → the_type l ≡ yields n → l ≡ present n
the-type absent n h = absurd (not-yields h)
the-type (present t) n h = ap present (yields-inj h)

pub read_firm-yields : (x : Path) (Γ : Types) (n : MessageType) → read_firm x Γ ≡ yields n → T (stands_firm x Γ) × (read x Γ ≡ present n)
read_firm-yields x Γ n h = let u = require-yields (stands_firm x Γ) PathNotFirm (the_type (read x Γ)) h in (u.0, the-type (read x Γ) n u.1)

pub read_ok : (x : Path) (F : Forest Value) (Γ : Types) (n : MessageType) → Subtypes (own_types F) Γ → read_firm x Γ ≡ yields n
    → (y : Tree Value) × (read x F ≡ present y) × Subtype (own_type y) n
read_ok (path i p) F Γ n h e =
    let u = read_firm-yields (path i p) Γ n e in firm-reads p (find i Γ) (find i F) n (own_at F h i) u.0 u.1

-- Γ only grows -----------------------------------------------------------------------------------------------------

abbrev pub measure_lookup : {A : Type 0} → (ℕ → ℕ → ℕ) → Lookup A → ℕ
measure_lookup g absent = 0
measure_lookup g (present (tree a k)) = 1 + measure g k

module _ (g : ℕ → ℕ → ℕ) (G : Combining g) where
  pub measure-set : {A : Type 0} (i : ℕ) (n : Tree A) (F : Forest A) → measure_lookup g (find i F) ≤ measure_lookup g (present n)
      → measure g F ≤ measure g (set i n F)
  unfolding find set measure
  measure-set i (tree a k) end h = omega arith
  measure-set i (tree a k) (node j b k2 r) h = go (compare i j) h (measure-set i (tree a k) r)
    where
      go : (c : Compare i j) → measure_lookup g (find_by c (tree b k2) (find i r)) ≤ measure_lookup g (present (tree a k))
          → (measure_lookup g (find i r) ≤ measure_lookup g (present (tree a k)) → measure g r ≤ measure g (set i (tree a k) r))
          → g (1 + measure g k2) (measure g r) ≤ measure g (set_by c (tree a k) b k2 r (set i (tree a k) r))
      go (lt c) h ih = G.inflating (1 + measure g k) (g (1 + measure g k2) (measure g r))
      go (eq c) h ih = G.monotone (1 + measure g k2) (measure g r) (1 + measure g k) (measure g r) h (omega arith)
      go (gt c) h ih = G.monotone (1 + measure g k2) (measure g r) (1 + measure g k2) (measure g (set i (tree a k) r)) (omega arith) (ih h)

  put_child-size : (j : ℕ) (a : Mark) (k : Types) (r : Attempt MessageType) (n : MessageType) → put_child j a k r ≡ yields n
      → ((x : MessageType) → r ≡ yields x → measure_lookup g (find j k) ≤ measure_lookup g (present x)) → 1 + measure g k ≤ measure_lookup g (present n)
  put_child-size j a k r n e ih =
      let u = put_child-yields j a k r n e in
      subst (λ (z : MessageType). 1 + measure g k ≤ measure_lookup g (present z)) (sym u.2) (go (measure-set j u.0 k (ih u.0 u.1)))
    where
      go : {s t : ℕ} → s ≤ t → 1 + s ≤ 1 + t
      go h = omega arith

  along-grows : (E : Lookup Mark → Attempt MessageType) → Stays E → (p : List ℕ) (l : Lookup Mark) (n : MessageType) → along p E l ≡ yields n
      → measure_lookup g l ≤ measure_lookup g (present n)
  unfolding along find Stays
  along-grows E s [] absent n e = omega arith
  along-grows E s [] (present u) n e =
      subst (λ (z : MessageType). measure_lookup g (present u) ≤ measure_lookup g (present z)) (sym (s u n e)) (omega arith)
  along-grows E s (j ∷ p) absent n e = omega arith
  along-grows E s (j ∷ p) (present (tree (mark false b) k)) n e = absurd (not-yields e)
  along-grows E s (j ∷ p) (present (tree (mark true b) k)) n e =
      put_child-size j (mark true b) k (along p E (find j k)) n e (along-grows E s p (find j k))

  pub place-grows : (x : Path) (t : MessageType) (Γ Δ : Types) → place x t Γ ≡ yields Δ → measure g Γ ≤ measure g Δ
  place-grows (path i p) t Γ Δ e =
      let u = place-root i p t Γ Δ e in rw u.2 (measure-set i u.0 Γ (along-grows (place_end t) (place-stays t) p (find i Γ) u.0 u.1))

  pub assign-grows : (x : Path) (b : ℕ) (Γ Δ : Types) → assign_to x b Γ ≡ yields Δ → measure g Γ ≤ measure g Δ
  assign-grows (path i p) b Γ Δ e =
      let u = assign-root i p b Γ Δ e in rw u.2 (measure-set i u.0 Γ (along-grows (assign_end b) (assign-stays b) p (find i Γ) u.0 u.1))

-- Nodes and levels are such measures.
pub sums : Combining (◌+◌)
sums = record { monotone = λ a b c d p q. omega arith; inflating = λ a b. omega arith }

pub maxima : Combining max
maxima = record { monotone = λ a b c d p q. omega arith; inflating = λ a b. omega arith }

-- What is no larger in nodes and levels is within the limits too.
pub within-smaller : {A B : Type 0} (F : Forest A) (G : Forest B) → nodes F ≤ nodes G → levels F ≤ levels G → T (within G) → T (within F)
within-smaller F G a b t =
    let c = leb→le (nodes G) 48 (and_l (leb (nodes G) 48) (leb (levels G) 6) t) in
    let d = leb→le (levels G) 6 (and_r (leb (nodes G) 48) (leb (levels G) 6) t) in
    and_i (leb (nodes F) 48) (leb (levels F) 6) (le→leb (nodes F) 48 (omega arith)) (le→leb (levels F) 6 (omega arith))

-- Ids stay in order ------------------------------------------------------------------------------------------------

put_child-rising : (j : ℕ) (a : Mark) (k : Types) (r : Attempt MessageType) (n : MessageType) → Rising k → put_child j a k r ≡ yields n
    → ((x : MessageType) → r ≡ yields x → RisingTree x) → RisingTree n
put_child-rising j a k r n w e ih =
    let u = put_child-yields j a k r n e in subst RisingTree (sym u.2) (rising-set j u.0 k (ih u.0 u.1) w)

along-rising : (E : Lookup Mark → Attempt MessageType) → Stays E → ((n : MessageType) → E absent ≡ yields n → RisingTree n)
    → (p : List ℕ) (g : Lookup Mark) (n : MessageType) → RisingLookup g → along p E g ≡ yields n → RisingTree n
unfolding along Rising Stays
along-rising E s a [] absent n w e = a n e
along-rising E s a [] (present u) n w e = subst RisingTree (sym (s u n e)) w
along-rising E s a (j ∷ p) absent n w e = put_child-rising j missing_step end (along p E absent) n tt e (λ x. along-rising E s a p absent x tt)
along-rising E s a (j ∷ p) (present (tree (mark false b) k)) n w e = absurd (not-yields e)
along-rising E s a (j ∷ p) (present (tree (mark true b) k)) n w e =
    put_child-rising j (mark true b) k (along p E (find j k)) n w e (λ x. along-rising E s a p (find j k) x (rising-find j k w))

pub placed-rising : (t : MessageType) → RisingTree t → (p : List ℕ) (g : Lookup Mark) (n : MessageType) → RisingLookup g
    → along p (place_end t) g ≡ yields n → RisingTree n
placed-rising (tree (mark m b) k) wt p g n =
    along-rising (place_end (tree (mark m b) k)) (place-stays (tree (mark m b) k)) (λ n e. subst RisingTree (yields-inj e) wt) p g n

pub assigned-rising : (b : ℕ) (p : List ℕ) (g : Lookup Mark) (n : MessageType) → RisingLookup g → along p (assign_end b) g ≡ yields n → RisingTree n
unfolding Rising
assigned-rising b p g n = along-rising (assign_end b) (assign-stays b) (λ n e. subst RisingTree (yields-inj e) tt) p g n

pub place-rising : (x : Path) (t : MessageType) (Γ Δ : Types) → RisingTree t → Rising Γ → place x t Γ ≡ yields Δ → Rising Δ
place-rising (path i p) t Γ Δ wt w e =
    let u = place-root i p t Γ Δ e in
    subst Rising (sym u.2) (rising-set i u.0 Γ (placed-rising t wt p (find i Γ) u.0 (rising-find i Γ w) u.1) w)

pub assign-rising : (x : Path) (b : ℕ) (Γ Δ : Types) → Rising Γ → assign_to x b Γ ≡ yields Δ → Rising Δ
assign-rising (path i p) b Γ Δ w e =
    let u = assign-root i p b Γ Δ e in
    subst Rising (sym u.2) (rising-set i u.0 Γ (assigned-rising b p (find i Γ) u.0 (rising-find i Γ w) u.1) w)

module _ {A : Type 0} where
  children-rising : (l : Lookup A) → RisingLookup l → Rising (children_of l)
  unfolding Rising
  children-rising absent h = tt
  children-rising (present (tree a k)) h = h

  steps-rising : (p : List ℕ) (l : Lookup A) → RisingLookup l → RisingLookup (read_steps p l)
  unfolding read_steps
  steps-rising [] l w = w
  steps-rising (j ∷ p) l w = steps-rising p (find j (children_of l)) (rising-find j (children_of l) (children-rising l w))

  -- What is read from a forest in order is in order; also for trees of values.
  pub read-rising : (x : Path) (F : Forest A) → Rising F → RisingLookup (read x F)
  read-rising (path i p) F w = steps-rising p (find i F) (rising-find i F w)

  write-steps-rising : (z : A) (f : Lookup A → Tree A) → ((l : Lookup A) → RisingLookup l → RisingTree (f l)) → (p : List ℕ) (l : Lookup A)
      → RisingLookup l → RisingTree (write_steps z p f l)
  unfolding write_steps
  write-steps-rising z f h [] l w = h l w
  write-steps-rising z f h (j ∷ p) l w =
      let k = children-rising l w in
      rising-set j (write_steps z p f (find j (children_of l))) (children_of l)
      (write-steps-rising z f h p (find j (children_of l)) (rising-find j (children_of l) k)) k

  -- Writing keeps a forest in order: replacing a subtree by one in order, and setting what a node carries.
  pub write-rising : (z : A) (x : Path) (f : Lookup A → Tree A) (F : Forest A) → ((l : Lookup A) → RisingLookup l → RisingTree (f l))
      → Rising F → Rising (write z x f F)
  write-rising z (path i p) f F h w = rising-set i (write_steps z p f (find i F)) F (write-steps-rising z f h p (find i F) (rising-find i F w)) w

  pub replace-rising : (z : A) (x : Path) (t : Tree A) (F : Forest A) → RisingTree t → Rising F → Rising (replace_at z x t F)
  replace-rising z x t F wt w = write-rising z x (λ l. t) F (λ l u. wt) w

  pub payload-rising : (z : A) (x : Path) (a : A) (F : Forest A) → Rising F → Rising (set_payload_at z x a F)
  payload-rising z x a F w = write-rising z x (λ l. tree a (children_of l)) F (λ l u. children-rising l u) w

-- A tree whose own type is ≤ a Γ within the limits is within them.
pub tree-limits : (F : Forest Value) (Γ : Types) → Rising F → Rising Γ → Subtypes (own_types F) Γ → T (within Γ) → T (within F)
tree-limits F Γ wf wg h t = within-smaller F Γ (tree-within (◌+◌) sums F Γ wf wg h) (tree-within max maxima F Γ wf wg h) t
