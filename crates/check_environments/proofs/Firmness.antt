-- Where a path stands firm, asking for a subtype there, and presence, at each of the ways out of the code.
use mathlib.Core.Path.{◌≡◌, refl, ap, sym, subst, ◌∙◌}
use mathlib.Core.List.{List, [], ◌∷◌}
use mathlib.Core.Bool.{Bool, true, false, ◌&&◌, not}
use Prim.Native.Nat.{ℕ, ◌<◌}
use native.Mathlib.Omega.{arith}
use Rattle.basics.specs.TestLaws.{and-of, true-false}
use borrow.Author.Tests.{not-true, not-false}
use Rattle.tree_forest.specs.Forest.{Forest, Tree, tree, Lookup, absent, present, find, children_of, map_forest, map_lookup}
use Rattle.tree_forest.specs.ForestLaws.{find-map}
use Rattle.tree_forest.specs.Path.{Path, path, read_steps, read}
use Rattle.refusal.specs.declared.Refusal.TheVariants.{PathNotFirm, TypeMisfit}
use Rattle.scalar.specs.Value.{Value, value}
use Rattle.network_syntax.specs.Syntax.{Mark, mark, Types, MessageType}
use Rattle.check_subtyping.specs.Subtype.{root_basic, is_subtype}
use Rattle.check_typing.specs.Result.{Attempt, fails, yields, demand, and_then, Checked, refused, passed, with_row}
use Rattle.check_typing.specs.Environment.{is_in, firm_steps, stands_firm, the_type, read_firm, firm_above_steps, firm_above}
use Rattle.tree_forest.specs.Forest.{is_present}
use Rattle.network.specs.Form.{WellFormed}
use Rattle.network.specs.Layout.{path_count, type_count}
use Rattle.network.specs.Decode as network
use Rattle.tree.specs.Ids.{is_path, path_from_ids, last_id}
use Rattle.tree.specs.Standing.{Root, Spot, Followed}
use Rattle.tree_edit.specs.ForestWrite.{read_none}
use Rattle.check_types.specs.Image.{mark_value, image, types_as, type_as, type_head_at}
use Rattle.check_types.specs.ImageLaws.{root-type-seen, root-type-unseen}
use Rattle.check_types.specs.Tells.{TreeUnder}
use Rattle.check_types.specs.declared.TypeHead.{TypeHead}
use Rattle.network_row_parts.specs.PathLaws as paths
use Rattle.network_rows.specs.Readers.{path_ids}
use Rattle.check_environments.specs.declared.Environment.{Environment}
use Rattle.check_environments.specs.declared.Reach.{Reach}
use Rattle.check_environments.specs.declared.Reach.TheVariants.{Here, Gap, Loose}
use Rattle.check_environments.specs.Environment.{tree_of, EnvironmentFor, StepAnswers}
use Rattle.check_environments.specs.EnvironmentLaws.{answers-as, answers-pass, stands-root}
use Rattle.check_environments.proofs.Assigning.{err-answers}
use Rattle.check_environments.specs.Walk.{Sees, WalkReached}
use Rattle.check_environments.specs.Tells.{ReadAt, ReadsAs, ReadsFirm, TypeUnder, Asks, IsIn}
use Rattle.check_environments.proofs.Looking.{path-is}
use Rattle.std.specs.Prelude.{Option, Some, None}
use Rattle.std.specs.Option.{is_some}
use Rattle.std.specs.Prelude.{Result, Ok, Err}
use Rattle.check_types.specs.Image.{type_header}
use Rattle.refusal.specs.declared.Refusal.{Refusal}

-- ---- all edges, and the edges above the end

no-present : {A B : Type 0} {t : Tree A} → absent ≡ present t → B
no-present e = absurd (let z : ◌≡◌ {A = ℕ} 0 1 = cc in omega arith)

firm-end : (p : List ℕ) (l : Lookup Mark) (m : Bool) (b : ℕ) (k : Types) → firm_above_steps p l ≡ true → read_steps p l ≡ present (tree (mark m b) k) → firm_steps p l ≡ m
unfolding firm_above_steps read_steps firm_steps find
firm-end [] absent m b k f r = no-present r
firm-end [] (present (tree (mark n c) l)) m b k f r = cc
firm-end (j ∷ p) absent m b k f r = no-present (sym (read_none p) ∙ r)
firm-end (j ∷ p) (present (tree (mark n c) l)) m b k f r =
    let h = and-of n (firm_above_steps p (find j l)) f in
    ap (λ (t : Bool). t && firm_steps p (find j l)) h.0 ∙ firm-end p (find j l) m b k h.1 r

and-false : (a x y : Bool) → (a && x) ≡ false → (x ≡ false → y ≡ false) → (a && y) ≡ false
and-false true x y e f = f e
and-false false x y e f = refl

firm-loose : (p : List ℕ) (l : Lookup Mark) → firm_above_steps p l ≡ false → firm_steps p l ≡ false
unfolding firm_above_steps firm_steps
firm-loose [] l f = true-false f
firm-loose (j ∷ p) absent f = refl
firm-loose (j ∷ p) (present (tree (mark n c) l)) f = and-false n (firm_above_steps p (find j l)) (firm_steps p (find j l)) f (firm-loose p (find j l))

and_no : (a x : Bool) → x ≡ false → (a && x) ≡ false
and_no true x e = e
and_no false x e = refl

firm-none : (p : List ℕ) (l : Lookup Mark) → read_steps p l ≡ absent → firm_steps p l ≡ false
unfolding read_steps firm_steps
firm-none [] absent r = refl
firm-none [] (present t) r = no-present (sym r)
firm-none (j ∷ p) absent r = refl
firm-none (j ∷ p) (present (tree (mark n c) l)) r = and_no n (firm_steps p (find j l)) (firm-none p (find j l) r)

not-firm : (x : Path) (Γ : Types) → stands_firm x Γ ≡ false → read_firm x Γ ≡ fails PathNotFirm
not-firm (path i p) Γ e = ap (λ (t : Bool). demand t PathNotFirm (the_type (read_steps p (find i Γ)))) e

firm-there : (x : Path) (Γ : Types) (m : Bool) (b : ℕ) (k : Types) → firm_above x Γ ≡ true → read x Γ ≡ present (tree (mark m b) k) → stands_firm x Γ ≡ m
firm-there (path i p) Γ m b k f r = firm-end p (find i Γ) m b k f r

loose-there : (x : Path) (Γ : Types) → firm_above x Γ ≡ false → stands_firm x Γ ≡ false
loose-there (path i p) Γ f = firm-loose p (find i Γ) f

none-there : (x : Path) (Γ : Types) → read x Γ ≡ absent → stands_firm x Γ ≡ false
none-there (path i p) Γ r = firm-none p (find i Γ) r

is-firm : (x : Path) (Γ : Types) (t : MessageType) → stands_firm x Γ ≡ true → read x Γ ≡ present t → read_firm x Γ ≡ yields t
is-firm (path i p) Γ t e r =
    ap (λ (z : Bool). demand z PathNotFirm (the_type (read_steps p (find i Γ)))) e ∙ ap the_type r

-- ---- the ways out of read_firm

module _ (file : List ℕ) (e : Environment) (p : ℕ) (y : Reach) (l : WalkReached file e.bytes p y) where
  seen_as : (y' : Reach) → y ≡ y' → (Γ : Types) → EnvironmentFor e Γ → Sees e.bytes y' (network.path_of file p) Γ
  seen_as y' z Γ h = subst (λ (w : Reach). Sees e.bytes w (network.path_of file p) Γ) z (l.tells Γ (stands-root e Γ h))

  read-gap : y ≡ Gap → ReadsFirm file e p None
  read-gap z = record { tells = λ Γ h wf le. not-firm (network.path_of file p) Γ (none-there (network.path_of file p) Γ (seen_as Gap z Γ h).none) }

  read-loose : y ≡ Loose → ReadsFirm file e p None
  read-loose z = record { tells = λ Γ h wf le. not-firm (network.path_of file p) Γ (loose-there (network.path_of file p) Γ (seen_as Loose z Γ h)) }

  pub read-not : ((at : ℕ) → y ≡ Here at → ⊥) → ReadsFirm file e p None
  read-not f = by y refl
    where
      by : (y' : Reach) → y ≡ y' → ReadsFirm file e p None
      by (Here at) z = absurd (f at z)
      by Gap z = read-gap z
      by Loose z = read-loose z

  module _ (at : ℕ) (z : y ≡ Here at) (k : Option TypeHead) (kp : k ≡ type_head_at false e.bytes at) where
    unseen-there : (i : ℕ) (t : Tree Value) → Root e.bytes at i t → k ≡ None → ⊥
    unseen-there i (tree (value d v) ks) w q = root-type-unseen false e.bytes at i d v ks w k kp q

    pub read-fault : k ≡ None → ReadsFirm file e p None
    read-fault q = record { tells = λ Γ h wf le. let u = seen_as (Here at) z Γ h in absurd (unseen-there u.id u.held u.root q) }

    module _ (head : TypeHead) (q : k ≡ Some head) where
      held-as : (i : ℕ) (t : Tree Value) → Root e.bytes at i t → (r : Types) × (type_as false t ≡ tree (mark head.mandatory head.basic) r)
      held-as i (tree (value d v) ks) w =
          let u = root-type-seen false e.bytes at i d v ks w k head.id head.mandatory head.basic head.count head.start kp q in
          (types_as false ks, ap (λ (a : Mark). tree a (types_as false ks)) (sym u.type))

      firm-is : (Γ : Types) → EnvironmentFor e Γ → stands_firm (network.path_of file p) Γ ≡ head.mandatory
      firm-is Γ h =
          let u = seen_as (Here at) z Γ h in
          let t = held-as u.id u.held u.root in
          firm-there (network.path_of file p) Γ head.mandatory head.basic t.0 u.firm (u.there ∙ ap (λ (w : MessageType). present w) t.1)

      pub read_here : not head.mandatory ≡ false → ReadsFirm file e p (Some (at, head.basic))
      read_here o = record { tells = go }
        where
          go : (Γ : Types) → EnvironmentFor e Γ → WellFormed file → p < path_count file → ReadAt e at head.basic (read_firm (network.path_of file p) Γ)
          go Γ h wf le =
              let u = seen_as (Here at) z Γ h in
              let t = held-as u.id u.held u.root in
              record {
                there = type_as false u.held;
                is = is-firm (network.path_of file p) Γ (type_as false u.held) (firm-is Γ h ∙ not-false head.mandatory o) u.there;
                basic = sym (ap root_basic t.1);
                spot = record { id = u.id; held = u.held; root = u.root; type = refl };
              }

      pub read-may : not head.mandatory ≡ true → ReadsFirm file e p None
      read-may o = record { tells = λ Γ h wf le. not-firm (network.path_of file p) Γ (firm-is Γ h ∙ not-true head.mandatory o) }

pub ruleset read-laws = (read-not, read-fault, read_here, read-may)

-- ---- a subtype there

pub under-type : (file : List ℕ) (e : Environment) (at r : ℕ) (x : Bool) → TreeUnder false e.bytes at file r x → TypeUnder file e at r x
under-type file e at r x h = record {
  tells = λ t w wf le. h.tells w.id w.held wf le w.root ∙ ap (λ (z : MessageType). is_subtype z (network.type_of file r)) (sym w.type);
}

module _ (file : List ℕ) (e : Environment) (p r row : ℕ) (y : Option (ℕ × ℕ)) (l : ReadsFirm file e p y) (s : Result Environment Refusal) where
  reads_as : (y' : Option (ℕ × ℕ)) → y ≡ y' → (Γ : Types) → EnvironmentFor e Γ → WellFormed file → p < path_count file → ReadsAs e y' (read_firm (network.path_of file p) Γ)
  reads_as y' z Γ h wf le = subst (λ (w : Option (ℕ × ℕ)). ReadsAs e w (read_firm (network.path_of file p) Γ)) z (l.tells Γ h wf le)

  abbrev asked : Types → Attempt MessageType → Checked Types
  asked Γ f = with_row row (and_then f (λ n. demand (is_subtype n (network.type_of file r)) TypeMisfit (yields Γ)))

  pub ask-loose : y ≡ None → s ≡ Err (PathNotFirm row) → Asks file e p r row s
  ask-loose z e' = record { tells = λ Γ h wf lp lr. answers-as (sym (ap (asked Γ) (reads_as None z Γ h wf lp))) (err-answers s (PathNotFirm row) e') }

  module _ (at b : ℕ) (z : y ≡ Some (at, b)) (x : Bool) (u : TypeUnder file e at r x) where
    told : (Γ : Types) → EnvironmentFor e Γ → WellFormed file → p < path_count file → r < type_count file →
        asked Γ (read_firm (network.path_of file p) Γ) ≡ with_row row (demand x TypeMisfit (yields Γ))
    told Γ h wf lp lr =
        let v = reads_as (Some (at, b)) z Γ h wf lp in
        ap (asked Γ) v.is ∙ ap (λ (t : Bool). with_row row (demand t TypeMisfit (yields Γ))) (sym (u.tells v.there v.spot wf lr))

    pub ask-under : x ≡ true → s ≡ Ok e → Asks file e p r row s
    ask-under o e' = record {
      tells = λ Γ h wf lp lr.
          answers-as (sym (told Γ h wf lp lr ∙ ap (λ (t : Bool). with_row row (demand t TypeMisfit (yields Γ))) o))
          (subst (λ (w : Result Environment Refusal). StepAnswers w (passed Γ)) (sym e') (answers-pass h));
    }

    pub ask-over : x ≡ false → s ≡ Err (TypeMisfit row) → Asks file e p r row s
    ask-over o e' = record {
      tells = λ Γ h wf lp lr.
          answers-as (sym (told Γ h wf lp lr ∙ ap (λ (t : Bool). with_row row (demand t TypeMisfit (yields Γ))) o)) (err-answers s (TypeMisfit row) e');
    }

pub ruleset ask-laws = (ask-loose, ask-under, ask-over)

-- ---- presence

pub ids-path : (file : List ℕ) → WellFormed file → (p : ℕ) → p < path_count file → is_path (path_ids file p) ≡ true
unfolding path_ids
ids-path file wf p le = paths.ids-path file wf p le

module _ {A B : Type 0} (f : A → B) where
  children-map : (l : Lookup A) → children_of (map_lookup f l) ≡ map_forest f (children_of l)
  unfolding map_forest
  children-map absent = refl
  children-map (present (tree a k)) = refl

  steps_map : (p : List ℕ) (l : Lookup A) → read_steps p (map_lookup f l) ≡ map_lookup f (read_steps p l)
  unfolding read_steps
  steps_map [] l = refl
  steps_map (j ∷ p) l =
      ap (λ (z : Forest B). read_steps p (find j z)) (children-map l) ∙ ap (read_steps p) (find-map f j (children_of l)) ∙ steps_map p (find j (children_of l))

  pub read-map : (x : Path) (F : Forest A) → read x (map_forest f F) ≡ map_lookup f (read x F)
  read-map (path i p) F = ap (read_steps p) (find-map f i F) ∙ steps_map p (find i F)

present-map : (l : Lookup Mark) → is_present (map_lookup mark_value l) ≡ is_present l
present-map absent = refl
present-map (present (tree a k)) = refl

module _ (file : List ℕ) (e : Environment) (p : ℕ) (ids : List ℕ) (d : ids ≡ path_ids file p) (y : Option ℕ) (l : Followed e.bytes ids y) where
  spot-as : (y' : Option ℕ) → y ≡ y' → (Γ : Types) → EnvironmentFor e Γ → WellFormed file → p < path_count file →
      Spot e.bytes (last_id (path_from_ids ids)) y' (read (path_from_ids ids) (image Γ))
  spot-as y' z Γ h wf le =
      subst (λ (w : Option ℕ). Spot e.bytes (last_id (path_from_ids ids)) w (read (path_from_ids ids) (image Γ))) z
      (l.tells 0 (tree_of Γ) (stands-root e Γ h) (ap is_path d ∙ ids-path file wf p le))

  in-as : (Γ : Types) → is_in (network.path_of file p) Γ ≡ is_present (read (path_from_ids ids) (image Γ))
  in-as Γ =
      sym (present-map (read (network.path_of file p) Γ)) ∙ ap (λ (w : Lookup Value). is_present w) (sym (read-map mark_value (network.path_of file p) Γ))
      ∙ ap (λ (x : Path). is_present (read x (image Γ))) (sym (ap path_from_ids d ∙ path-is file p))

  in-there : (at : ℕ) → y ≡ Some at → IsIn file e p true
  in-there at z = record { tells = λ Γ h wf le. sym (in-as Γ ∙ ap (λ (w : Lookup Value). is_present w) (spot-as (Some at) z Γ h wf le).is) }

  in-none : y ≡ None → IsIn file e p false
  in-none z = record { tells = λ Γ h wf le. sym (in-as Γ ∙ ap (λ (w : Lookup Value). is_present w) (spot-as None z Γ h wf le)) }

  pub in-by : IsIn file e p (is_some y)
  in-by = by y refl
    where
      by : (z : Option ℕ) → y ≡ z → IsIn file e p (is_some z)
      by None q = in-none q
      by (Some at) q = in-there at q
