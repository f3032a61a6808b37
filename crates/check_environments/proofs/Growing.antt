-- Putting a type where nothing stands: the bytes, the order of ids and the limits of the environment after, at each of the ways out of the code.
use mathlib.Core.Path.{◌≡◌, refl, ap, sym, subst, ◌∙◌}
use mathlib.Core.List.{List, [], ◌∷◌, ◌++◌}
use mathlib.Core.Bool.{Bool, true, false, not, ◌&&◌}
use Prim.Native.Nat.{ℕ, zero, suc, max, ◌+◌, ◌-◌, ◌/◌, ◌%◌, ◌≤◌, ◌<◌}
use native.Mathlib.Omega.{arith}
use lib.ListN.{length, get_or, take, drop, replicate, take-append-drop, length-take}
use lib.Dec.{leb}
use borrow.Author.Tests.{not-true, not-false, leb-true}
use Rattle.tree_forest.specs.Compare.{Compare, lt, eq, gt, compare}
use Rattle.tree_forest.specs.Forest.{Forest, end, node, Tree, tree, Lookup, absent, present, find, find_by, set_by, set, node_of, children_of, Rising, measure, nodes, levels, map_forest, map_tree, map_lookup}
use Rattle.tree_forest.specs.ForestLaws.{find-map, map-set}
use Rattle.tree_forest.specs.Path.{Path, path, write_steps, replace_at}
use Rattle.refusal.specs.declared.Refusal.TheVariants.{EnvironmentTooLarge}
use Rattle.scalar.specs.Basic.{last_basic}
use Rattle.scalar.specs.Value.{Value}
use Rattle.network_syntax.specs.Syntax.{Mark, mark, Types, MessageType}
use Rattle.check_typing.specs.Result.{yields, demand, refused, with_row}
use Rattle.check_typing.specs.Environment.{within, missing_step, as_mandatory, basic_leaf}
use Rattle.check_typing.proofs.EnvironmentLaws.{replace-rising}
use Rattle.check_typing.specs.Checker.{limited}
use Rattle.network.specs.Form as form
use Rattle.network.specs.Layout.{path_count, path_at}
use Rattle.network.proofs.RowLaws.{path-kept}
use Rattle.network.specs.Decode as network
use Rattle.wire.specs.Wire.{u16_at}
use Rattle.tree.specs.Encode.{root_count, encode, rooted, empty, Octets, WellFormedTree, Encodes}
use Rattle.tree.specs.Decode.{decode, is_tree}
use Rattle.tree_forest.specs.Forest.{is_present}
use Rattle.tree.specs.DecodeLaws.{decode-complete}
use Rattle.tree.specs.EncodeLaws.{length-node, empty-proper}
use Rattle.tree.specs.Ids.{steps, path_from_ids, Words}
use Rattle.tree.specs.IdsLaws.{Ids, steps-ids}
use Rattle.tree.specs.Standing.{Within}
use Rattle.tree_edit.specs.Wrote.{Wrote}
use Rattle.tree_edit.specs.Change.{replaced}
use Rattle.check_types.specs.Image.{flag, mark_value, image, type_tree, InRange}
use Rattle.check_types.specs.ImageLaws.{measure-map, length-image, image-sound, rising-map, image-well-formed}
use Rattle.check_types.specs.Tells.{TypeWritten}
use Rattle.check_types.specs.TypeRowsLaws.{TypeKeeps, type-keeps}
use Rattle.check_environments.specs.declared.Environment.{Environment}
use Rattle.check_environments.specs.Environment.{tree_of, bytes_for, standing, Shape}
use Rattle.check_environments.specs.EnvironmentLaws.{answers-as, bytes-encode, bytes-length, stands-bytes, stands-len}
use Rattle.network_rows.specs.Readers.{path_ids}
use Rattle.check_environments.specs.Walk.{Placeable, PutsType, Grows, GrowsRow, GrowsLeaf}
use Rattle.check_environments.proofs.Looking.{path-is}
use Rattle.check_environments.proofs.Assigning.{pass-answers, err-answers}
use Rattle.std.specs.Prelude.{Result, Ok, Err}
use Rattle.refusal.specs.declared.Refusal.{Refusal}

-- ---- a change carried over by a map

module _ {A B : Type 0} (f : A → B) where
  steps_map : (m : A) (p : List ℕ) (g : Lookup A → Tree A) (h : Lookup B → Tree B) → ((l : Lookup A) → map_tree f (g l) ≡ h (map_lookup f l)) →
      (l : Lookup A) → map_tree f (write_steps m p g l) ≡ write_steps (f m) p h (map_lookup f l)
  unfolding write_steps find map_forest
  steps_map m [] g h e l = e l
  steps_map m (j ∷ p) g h e absent =
      ap (tree (f m)) (map-set f j (write_steps m p g absent) end ∙ ap (λ (t : Tree B). set j t end) (steps_map m p g h e absent))
  steps_map m (j ∷ p) g h e (present (tree a k)) =
      ap (tree (f a)) (map-set f j (write_steps m p g (find j k)) k
      ∙ ap (λ (t : Tree B). set j t (map_forest f k)) (steps_map m p g h e (find j k) ∙ ap (write_steps (f m) p h) (sym (find-map f j k))))

  pub replace-map : (m : A) (x : Path) (t : Tree A) (F : Forest A) → map_forest f (replace_at m x t F) ≡ replace_at (f m) x (map_tree f t) (map_forest f F)
  replace-map m (path i p) t F =
      map-set f i (write_steps m p (λ l. t) (find i F)) F
      ∙ ap (λ (u : Tree B). set i u (map_forest f F))
      (steps_map m p (λ l. t) (λ l. map_tree f t) (λ l. refl) (find i F) ∙ ap (write_steps (f m) p (λ l. map_tree f t)) (sym (find-map f i F)))

-- ---- ids and basic types after a change

abbrev Ranged : MessageType → Type 0
Ranged (tree (mark m b) k) = (b ≤ last_basic) × InRange k

abbrev RangedFound : Lookup Mark → Type 0
RangedFound absent = Unit {0}
RangedFound (present t) = Ranged t

range-node : (i : ℕ) (t : MessageType) (r : Types) → 0 < i → i < 65536 → Ranged t → InRange r → InRange (node_of i t r)
unfolding InRange
range-node i (tree (mark m b) k) r p q t h = (p, q, t.0, t.1, h)

pub range-set : (i : ℕ) (t : MessageType) (F : Types) → 0 < i → i < 65536 → Ranged t → InRange F → InRange (set i t F)
unfolding set InRange
range-set i t end p q h w = range-node i t end p q h tt
range-set i t (node j (mark m b) k r) p q h w = go (compare i j) (range-set i t r p q h w.4)
  where
    go : (c : Compare i j) → InRange (set i t r) → InRange (set_by c t (mark m b) k r (set i t r))
    go (lt e) ih = range-node i t (node j (mark m b) k r) p q h w
    go (eq e) ih = range-node j t r w.0 w.1 h w.4
    go (gt e) ih = (w.0, w.1, w.2, w.3, ih)

range-find : (i : ℕ) (F : Types) → InRange F → RangedFound (find i F)
unfolding find InRange
range-find i end w = tt
range-find i (node j (mark m b) k r) w = go (compare i j) (range-find i r w.4)
  where
    go : (c : Compare i j) → RangedFound (find i r) → RangedFound (find_by c (tree (mark m b) k) (find i r))
    go (lt e) ih = tt
    go (eq e) ih = (w.2, w.3)
    go (gt e) ih = ih

range-children : (l : Lookup Mark) → RangedFound l → InRange (children_of l)
unfolding InRange
range-children absent h = tt
range-children (present (tree (mark m b) k)) h = h.1

range-tree : (a : Mark) (k : Types) → a ≡ missing_step → InRange k → Ranged (tree a k)
range-tree a k e h = rw e (omega arith, h)

range_steps : (p : List ℕ) (t : MessageType) (l : Lookup Mark) → Ids p → Ranged t → RangedFound l → Ranged (write_steps missing_step p (λ x. t) l)
unfolding write_steps Ids InRange
range_steps [] t l i h w = h
range_steps (j ∷ p) t absent i h w =
    (omega arith, range-set j (write_steps missing_step p (λ x. t) (find j end)) end i.0 i.1 (range_steps p t (find j end) i.2 h (range-find j end tt)) tt)
range_steps (j ∷ p) t (present (tree (mark m b) k)) i h w =
    (w.0, range-set j (write_steps missing_step p (λ x. t) (find j k)) k i.0 i.1 (range_steps p t (find j k) i.2 h (range-find j k w.1)) w.1)

range-replace : (ids : List ℕ) (t : MessageType) (Γ : Types) → Words ids → 0 < get_or ids 0 0 → Ranged t → InRange Γ → InRange (replace_at missing_step (path_from_ids ids) t Γ)
unfolding path_from_ids
range-replace [] t Γ w p h g = absurd (omega arith)
range-replace (i ∷ is) t Γ w p h g =
    range-set i (write_steps missing_step (steps is) (λ x. t) (find i Γ)) Γ p (w.small 0)
    (range_steps (steps is) t (find i Γ) (steps-ids is (record { small = λ k. w.small (suc k) })) h (range-find i Γ g)) g

-- ---- a type that may be put in

ranged-of : (t : MessageType) → Placeable t → Ranged t
ranged-of (tree (mark m b) k) h = (h.basic, h.ranged)

placeable-well-formed : (t : MessageType) → Placeable t → WellFormedTree 6 48 (map_tree mark_value t)
placeable-well-formed (tree (mark m b) k) h = image-well-formed 6 48 m b k h.basic h.rising h.ranged h.shallow (omega (arith, h.few))

placeable-encodes : (m : List ℕ) (t : MessageType) → m ≡ encode (rooted (map_tree mark_value t)) → Placeable t → Encodes 6 48 m (map_tree mark_value t)
placeable-encodes m t e h = record { bytes = e; good = placeable-well-formed t h }

placeable-length : (t : MessageType) → Placeable t → length (encode (rooted (map_tree mark_value t))) ≤ 341
unfolding encode
placeable-length (tree (mark m b) k) h = let l = length-node 0 5 (flag m ∷ b ∷ []) (image k) end in omega (arith, l, length-image k, h.few)

-- ---- the environment after

and-swap : (a b : Bool) → (a && b) ≡ (b && a)
and-swap true true = refl
and-swap true false = refl
and-swap false true = refl
and-swap false false = refl

within-image : (Δ : Types) (x : Bool) → x ≡ (leb (levels (image Δ)) 6 && leb (nodes (image Δ)) 48) → x ≡ within Δ
within-image Δ x e =
    e ∙ ap (λ (n : ℕ). leb n 6 && leb (nodes (image Δ)) 48) (measure-map mark_value max Δ) ∙ ap (λ (n : ℕ). leb (levels Δ) 6 && leb n 48) (measure-map mark_value ◌+◌ Δ)
    ∙ and-swap (leb (levels Δ) 6) (leb (nodes Δ) 48)

within-few : (Δ : Types) → within Δ ≡ true → (nodes Δ ≤ 48) × (levels Δ ≤ 6)
within-few Δ e = by (leb (nodes Δ) 48) (leb (levels Δ) 6) refl refl e
  where
    by : (a b : Bool) → leb (nodes Δ) 48 ≡ a → leb (levels Δ) 6 ≡ b → (a && b) ≡ true → (nodes Δ ≤ 48) × (levels Δ ≤ 6)
    by true true p q h = (leb-true (nodes Δ) 48 p, leb-true (levels Δ) 6 q)
    by true false p q h = absurd (let z : ◌≡◌ {A = ℕ} 0 1 = cc in omega arith)
    by false b p q h = absurd (let z : ◌≡◌ {A = ℕ} 0 1 = cc in omega arith)

zeros-left : (n r : ℕ) → drop r (replicate {A = ℕ} n 0) ≡ replicate (n - r) 0
zeros-left n zero = let e : n ≡ n - 0 = omega arith in ap (λ (k : ℕ). replicate k 0) e
zeros-left zero (suc r) = let e : 0 ≡ 0 - suc r = omega arith in ap (λ (k : ℕ). replicate k 0) e
zeros-left (suc n) (suc r) = let e : n - r ≡ suc n - suc r = omega arith in zeros-left n r ∙ ap (λ (k : ℕ). replicate k 0) e

copied_is : (b' o : List ℕ) (k r : ℕ) (l : List ℕ) → Wrote (replicate 512 0) b' 0 r k (take k (drop 0 o)) → take k o ≡ l → k ≡ length l →
    b' ≡ l ++ replicate (512 - length l) 0
copied_is b' o k r l w e n =
    let size : r ≡ length l = omega (arith, w.next) in
    sym (take-append-drop r b') ∙ ap (λ (z : List ℕ). z ++ drop r b') (w.holds ∙ e)
    ∙ ap (λ (z : List ℕ). l ++ z) (w.keeps ∙ zeros-left 512 r ∙ ap (λ (z : ℕ). replicate (512 - z) 0) size)

environment-is : (e : Environment) (bs : List ℕ) (k : ℕ) (Δ : Types) → e ≡ record { bytes = bs; len = k } → bs ≡ bytes_for Δ ++ replicate (512 - length (bytes_for Δ)) 0 → k ≡ length (bytes_for Δ) →
    e ≡ standing Δ
unfolding standing
environment-is e bs k Δ q p n = q ∙ rw (p, n) refl

-- ---- the ways out of put-type

module _ (g ids m : List ℕ) (row : ℕ) (s : Result Environment Refusal) (o o' : List ℕ) (k : ℕ) (w : Wrote o o' 0 k k (replaced true (path_from_ids ids) (decode 6 48 m) (decode 6 48 g)))
    (x : Bool) (v : Within 6 48 o' x) where
  abbrev new : Types → MessageType → Types
  new Γ t = replace_at missing_step (path_from_ids ids) t Γ

  new-bytes : (Γ : Types) (t : MessageType) → g ≡ bytes_for Γ → Shape Γ → m ≡ encode (rooted (map_tree mark_value t)) → Placeable t →
      replaced true (path_from_ids ids) (decode 6 48 m) (decode 6 48 g) ≡ bytes_for (new Γ t)
  unfolding bytes_for
  new-bytes Γ t e h q p =
      let dg = decode-complete 6 48 g (tree_of Γ) (bytes-encode g Γ e h) in
      let dm = decode-complete 6 48 m (map_tree mark_value t) (placeable-encodes m t q p) in
      ap (λ (z : Lookup Value). replaced true (path_from_ids ids) z (decode 6 48 g)) dm ∙ ap (replaced true (path_from_ids ids) (present (map_tree mark_value t))) dg
      ∙ ap (λ (F : Forest Value). encode (rooted (tree empty F))) (sym (replace-map mark_value missing_step (path_from_ids ids) t Γ))

  new-shape : (Γ : Types) (t : MessageType) → Shape Γ → Words ids → 0 < get_or ids 0 0 → Placeable t → within (new Γ t) ≡ true → Shape (new Γ t)
  new-shape Γ t h wo f p e =
      let n = within-few (new Γ t) e in
      record {
        few = n.0;
        shallow = n.1;
        rising = replace-rising missing_step (path_from_ids ids) t Γ p.rising h.rising;
        ranged = range-replace ids t Γ wo f (ranged-of t p) h.ranged;
      }

  told : (Γ : Types) (t : MessageType) → g ≡ bytes_for Γ → Shape Γ → Words ids → 0 < get_or ids 0 0 → m ≡ encode (rooted (map_tree mark_value t)) → Placeable t → x ≡ within (new Γ t)
  unfolding bytes_for
  told Γ t e h wo f q p =
      within-image (new Γ t) x (v.tells (tree_of (new Γ t)) (drop k o')
      (sym (take-append-drop k o') ∙ ap (λ (l : List ℕ). l ++ drop k o') (w.holds ∙ new-bytes Γ t e h q p)) empty-proper
      (image-sound (new Γ t) (range-replace ids t Γ wo f (ranged-of t p) h.ranged))
      (rising-map mark_value (new Γ t) (replace-rising missing_step (path_from_ids ids) t Γ p.rising h.rising)))

  pub put-type-large : not x ≡ true → s ≡ Err (EnvironmentTooLarge row) → PutsType g ids m row s
  put-type-large n z = record {
    tells = λ Γ t e h wo f q p.
        answers-as (sym (ap (λ (b : Bool). with_row row (demand b EnvironmentTooLarge (yields (new Γ t)))) (sym (told Γ t e h wo f q p) ∙ not-true x n)))
        (err-answers s (EnvironmentTooLarge row) z);
  }

  long : (Γ : Types) (t : MessageType) → g ≡ bytes_for Γ → Shape Γ → m ≡ encode (rooted (map_tree mark_value t)) → Placeable t → k ≡ length (bytes_for (new Γ t))
  long Γ t e h q p = sym w.size ∙ ap length (new-bytes Γ t e h q p)

  module _ (n : not x ≡ false) where
    fits : (Γ : Types) (t : MessageType) → g ≡ bytes_for Γ → Shape Γ → Words ids → 0 < get_or ids 0 0 → m ≡ encode (rooted (map_tree mark_value t)) → Placeable t → Shape (new Γ t)
    fits Γ t e h wo f q p = new-shape Γ t h wo f p (sym (told Γ t e h wo f q p) ∙ not-false x n)

    pub put-type-long : 341 < k → PutsType g ids m row s
    put-type-long l = record {
      tells = λ Γ t e h wo f q p. absurd (omega (arith, long Γ t e h q p, bytes-length (new Γ t), (fits Γ t e h wo f q p).few));
    }

    pub put-type-fits : (b' : List ℕ) (r : ℕ) → Wrote (replicate 512 0) b' 0 r k (take k (drop 0 o')) → (d : Environment) → d ≡ record { bytes = b'; len = k } →
        s ≡ Ok d → PutsType g ids m row s
    put-type-fits b' r wb d de se = record {
      tells = λ Γ t e h wo f q p.
          let u = long Γ t e h q p in
          pass-answers s d (new Γ t) row se (record {
            is = environment-is d b' k (new Γ t) de (copied_is b' o' k r (bytes_for (new Γ t)) wb (w.holds ∙ new-bytes Γ t e h q p) u) u;
            shape = fits Γ t e h wo f q p;
          });
    }

pub ruleset put-type-laws = (put-type-large, put-type-long, put-type-fits)

-- ---- the ways out of grow

no-tree : (deep many : ℕ) (s : List ℕ) (t : Tree Value) (x : Bool) → Encodes deep many s t → x ≡ is_tree deep many s → not x ≡ true → ⊥
no-tree deep many s t x e q n =
    let h : is_tree deep many s ≡ true = ap (λ (l : Lookup Value). is_present l) (decode-complete deep many s t e) in
    let k = not-true x n in
    let z : ◌≡◌ {A = ℕ} 0 1 = cc in omega arith

module _ (e : Environment) (ids m : List ℕ) (row : ℕ) (s : Result Environment Refusal) where
  pub grow-long : 341 < e.len → Grows e ids m row s
  grow-long l = record { tells = λ Γ t h f q p. absurd (omega (arith, stands-len e Γ h)) }

  pub grow-wide : 341 < length m → Grows e ids m row s
  grow-wide l = record { tells = λ Γ t h f q p. absurd (omega (arith, ap length q, placeable-length t p)) }

  pub grow-no-tree : (x : Bool) → x ≡ is_tree 6 48 (take e.len e.bytes) → not x ≡ true → Grows e ids m row s
  grow-no-tree x q n = record {
    tells = λ Γ t h f q' p. absurd (no-tree 6 48 (take e.len e.bytes) (tree_of Γ) x (bytes-encode (take e.len e.bytes) Γ (stands-bytes e Γ h) h.shape) q n);
  }

  pub grow-no-type : (x : Bool) → x ≡ is_tree 6 48 m → not x ≡ true → Grows e ids m row s
  grow-no-type x q n = record { tells = λ Γ t h f q' p. absurd (no-tree 6 48 m (map_tree mark_value t) x (placeable-encodes m t q' p) q n) }

  pub grow-on : Words ids → PutsType (take e.len e.bytes) ids m row s → Grows e ids m row s
  grow-on w h = record { tells = λ Γ t st f q p. h.tells Γ t (stands-bytes e Γ st) st.shape w f q p }

pub ruleset grow-laws = (grow-long, grow-wide, grow-no-tree, grow-no-type, grow-on)

-- ---- a T row, a basic type

first-id : (file : List ℕ) (p : ℕ) → form.WellFormed file → p < path_count file → 0 < get_or (path_ids file p) 0 0
unfolding path_ids
first-id file p wf le = positive (u16_at file (path_at file p)) (path-kept file wf p le).first
  where
    positive : (n : ℕ) → (n ≡ 0 → ⊥) → 0 < n
    positive zero f = absurd (f refl)
    positive (suc n) f = omega arith

mandatory-tree : (t : MessageType) → type_tree t ≡ map_tree mark_value (as_mandatory t)
mandatory-tree (tree (mark m b) k) = refl

mandatory-placeable : (t : MessageType) → TypeKeeps t → Placeable (as_mandatory t)
mandatory-placeable (tree (mark m b) k) h = record { basic = h.basic; rising = h.rising; ranged = h.ranged; shallow = omega (arith, h.shallow); few = omega (arith, h.few) }

pub row-grown : (file : List ℕ) (e : Environment) (p r row : ℕ) (s : Result Environment Refusal) (ids o o' : List ℕ) (n : ℕ) → Octets file → ids ≡ path_ids file p → TypeWritten file r o o' n →
    Grows e ids (take n o') row s → GrowsRow file e p r row s
row-grown file e p r row s ids o o' n oct d w h = record {
  tells = λ Γ st wf lp lr.
      answers-as (ap (λ (x : Path). with_row row (limited (yields (replace_at missing_step x (as_mandatory (network.type_of file r)) Γ)))) (ap path_from_ids d ∙ path-is file p))
      (h.tells Γ (as_mandatory (network.type_of file r)) st (subst (λ (l : List ℕ). 0 < get_or l 0 0) (sym d) (first-id file p wf lp))
      ((w.writes wf lr).holds ∙ ap (λ (t : Tree Value). encode (rooted t)) (mandatory-tree (network.type_of file r)))
      (mandatory-placeable (network.type_of file r) (type-keeps file oct wf r lr)));
}

leaf-bytes : (b : ℕ) → 0 % 256 ∷ 0 / 256 ∷ 5 ∷ 0 ∷ 2 ∷ flag true ∷ b ∷ [] ≡ encode (rooted (map_tree mark_value (basic_leaf b)))
unfolding encode root_count map_forest
leaf-bytes b = refl

leaf-placeable : (b : ℕ) → b ≤ last_basic → Placeable (basic_leaf b)
unfolding Rising InRange measure
leaf-placeable b h = record { basic = h; rising = tt; ranged = tt; shallow = omega arith; few = omega arith }

pub leaf-grown : (file : List ℕ) (e : Environment) (p b row : ℕ) (s : Result Environment Refusal) (ids o o' : List ℕ) (n : ℕ) → ids ≡ path_ids file p →
    Wrote o o' 0 n 7 (0 % 256 ∷ 0 / 256 ∷ 5 ∷ 0 ∷ 2 ∷ flag true ∷ b ∷ []) → Grows e ids (take n o') row s → GrowsLeaf file e p b row s
leaf-grown file e p b row s ids o o' n d w h = record {
  tells = λ Γ st wf lp lb.
      answers-as (ap (λ (x : Path). with_row row (limited (yields (replace_at missing_step x (basic_leaf b) Γ)))) (ap path_from_ids d ∙ path-is file p))
      (h.tells Γ (basic_leaf b) st (subst (λ (l : List ℕ). 0 < get_or l 0 0) (sym d) (first-id file p wf lp)) (w.holds ∙ leaf-bytes b) (leaf-placeable b lb));
}

-- a part of a buffer
pub part-len : (m : List ℕ) (n k : ℕ) → n ≤ k → length m ≡ k → n ≡ length (take n m)
part-len m n k h e = simp length-take (omega arith)
