-- Laws of changes: a change keeps ids rising and every id and value right; so after a change a tree can only fail by its limits, which
-- `within` tests, and what keeps to them is the byte form of the changed tree.
use Rattle.std.specs.Prelude.{◌≡◌, refl, Bool, true, false, ◌&&◌, ℕ, zero, suc, ◌<◌, length, get_or, take, drop, leb}
use Rattle.std.proofs.Common.{ap, sym, subst, ◌∙◌, arith, take-append-drop, leb-true}
use mathlib.Core.List.{List, [], ◌∷◌, ◌++◌}
use Rattle.basics.specs.TestLaws.{and_left, and_right}
use Rattle.tree_forest.specs.Compare.{Compare, lt, eq, gt, compare}
use Rattle.tree_forest.specs.Forest.{Forest, end, node, Tree, tree, Lookup, absent, present, find_by, find, set_by, set, children_of, payload_of}
use Rattle.tree_forest.specs.Forest.{Rising, RisingTree, RisingLookup, measure, nodes, levels}
use Rattle.tree_forest.specs.ForestLaws.{rising-set, rising-find}
use Rattle.tree_forest.specs.Path.{Path, path, write, write_steps, replace_at, set_payload_at}
use Rattle.scalar.specs.Value.{Value, value}
use Rattle.scalar.specs.Basic.{void}
use Rattle.scalar.specs.ValueLaws.{empty-void, raw-short}
use Rattle.tree.specs.Encode.{children, encode, rooted, Proper, SoundValues, WellFormedTree, Encodes}
use Rattle.tree.specs.Decode.{decode, is_tree}
use Rattle.tree_forest.specs.Forest.{is_present}
use Rattle.tree.specs.DecodeLaws.{decode-complete}
use Rattle.tree.specs.Ids.{is_path, path_from_ids, steps, Words}
use Rattle.tree.specs.IdsLaws.{Ids, steps-ids, path-first, path-at, words-drop}
use Rattle.tree.specs.Standing.{Within}
use Rattle.tree_edit.specs.Wrote.{Wrote}
use Rattle.tree_edit.specs.Change.{missing_value}

-- ids rising, through a lookup and a change
pub rising-children : {A : Type 0} (l : Lookup A) → RisingLookup l → Rising (children_of l)
unfolding Rising
rising-children absent h = tt
rising-children (present (tree a ks)) h = h

module _ {A : Type 0} (missing : A) (g : Lookup A → Tree A) (hg : (l : Lookup A) → RisingLookup l → RisingTree (g l)) where
  rising-steps : (is : List ℕ) (l : Lookup A) → RisingLookup l → RisingTree (write_steps missing is g l)
  unfolding write_steps
  rising-steps [] l h = hg l h
  rising-steps (j ∷ js) l h =
      let c = rising-children l h in
      rising-set j (write_steps missing js g (find j (children_of l))) (children_of l) (rising-steps js (find j (children_of l)) (rising-find j (children_of l) c)) c

  pub write-rises : (x : Path) (f : Forest A) → Rising f → Rising (write missing x g f)
  write-rises (path i is) f h = rising-set i (write_steps missing is g (find i f)) f (rising-steps is (find i f) (rising-find i f h)) h

-- every id and value right, through a lookup and a change
abbrev pub SoundTree : Tree Value → Type 0
SoundTree (tree a ks) = Proper a × SoundValues ks

abbrev pub SoundLookup : Lookup Value → Type 0
SoundLookup absent = Unit {0}
SoundLookup (present t) = SoundTree t

sound-find : (i : ℕ) (f : Forest Value) → SoundValues f → SoundLookup (find i f)
unfolding find SoundValues
sound-find i end h = tt
sound-find i (node j a k r) h = go (compare i j) (sound-find i r h.4)
  where
    go : (c : Compare i j) → SoundLookup (find i r) → SoundLookup (find_by c (tree a k) (find i r))
    go (lt e) ih = tt
    go (eq e) ih = (h.2, h.3)
    go (gt e) ih = ih

sound-set : (i : ℕ) (t : Tree Value) (f : Forest Value) → 0 < i → i < 65536 → SoundTree t → SoundValues f → SoundValues (set i t f)
unfolding set SoundValues
sound-set i (tree a k) end p q ht h = (p, q, ht.0, ht.1, tt)
sound-set i (tree a k) (node j b k2 r) p q ht h = go (compare i j) (sound-set i (tree a k) r p q ht h.4)
  where
    go : (c : Compare i j) → SoundValues (set i (tree a k) r) → SoundValues (set_by c (tree a k) b k2 r (set i (tree a k) r))
    go (lt e) ih = (p, q, ht.0, ht.1, h)
    go (eq e) ih = (h.0, h.1, ht.0, ht.1, h.4)
    go (gt e) ih = (h.0, h.1, h.2, h.3, ih)

sound-children : (l : Lookup Value) → SoundLookup l → SoundValues (children_of l)
unfolding SoundValues
sound-children absent h = tt
sound-children (present (tree a ks)) h = h.1

sound-payload : (missing : Value) (l : Lookup Value) → Proper missing → SoundLookup l → Proper (payload_of missing l)
sound-payload missing absent m h = m
sound-payload missing (present (tree a ks)) m h = h.0

module _ (missing : Value) (g : Lookup Value → Tree Value) (m : Proper missing) (hg : (l : Lookup Value) → SoundLookup l → SoundTree (g l)) where
  sound-steps : (is : List ℕ) (l : Lookup Value) → Ids is → SoundLookup l → SoundTree (write_steps missing is g l)
  unfolding write_steps Ids
  sound-steps [] l w h = hg l h
  sound-steps (j ∷ js) l w h =
      let c = sound-children l h in
      let d = sound-steps js (find j (children_of l)) w.2 (sound-find j (children_of l) c) in
      (sound-payload missing l m h, sound-set j (write_steps missing js g (find j (children_of l))) (children_of l) w.0 w.1 d c)

  pub write-sound : (i : ℕ) (is : List ℕ) (f : Forest Value) → 0 < i → i < 65536 → Ids is → SoundValues f → SoundValues (write missing (path i is) g f)
  write-sound i is f p q w h = sound-set i (write_steps missing is g (find i f)) f p q (sound-steps is (find i f) w (sound-find i f h)) h

-- what a missing step carries is a value
pub missing-proper : (typed : Bool) → Proper (missing_value typed)
missing-proper true = record { valid = raw-short (1 ∷ void ∷ []) (omega arith); bytes = record { small = two } }
  where
    two : (k : ℕ) → get_or (1 ∷ void ∷ []) k 0 < 256
    two zero = omega arith
    two (suc zero) = omega arith
    two (suc (suc k)) = omega arith
missing-proper false = record { valid = empty-void; bytes = record { small = λ k. omega arith } }

-- a forest whose ids rise and whose ids and values are right
pub record Right (f : Forest Value) : Type 0 where
  pub rising : Rising f
  pub sound : SoundValues f

module _ (ids : List ℕ) (four : length ids ≡ 4) (words : Words ids) (ok : is_path ids ≡ true) where
  write-right : (missing : Value) (g : Lookup Value → Tree Value) → Proper missing → ((l : Lookup Value) → RisingLookup l → RisingTree (g l)) →
      ((l : Lookup Value) → SoundLookup l → SoundTree (g l)) →
      (f : Forest Value) → Rising f → SoundValues f → Right (write missing (path_from_ids ids) g f)
  write-right missing g m hr hs f r s = record {
    rising = write-rises missing g hr (path_from_ids ids) f r;
    sound = subst (λ (x : Path). SoundValues (write missing x g f)) (sym (path-at ids four))
        (write-sound missing g m hs (get_or ids 0 0) (steps (drop 1 ids)) f
        (path-first ids ok) (words.small 0) (steps-ids (drop 1 ids) (words-drop ids 1 words)) s);
  }

  -- replacing a subtree by a well-formed tree
  pub replace-right : (typed : Bool) (deep many deep' many' : ℕ) (t u : Tree Value) → WellFormedTree deep many t → WellFormedTree deep' many' u →
      Right (replace_at (missing_value typed) (path_from_ids ids) t (children u))
  replace-right typed deep many deep' many' (tree a ks) u x y =
      write-right (missing_value typed) (λ l. tree a ks) (missing-proper typed)
      (λ l h. x.rising) (λ l h. (x.root, x.sound)) (children u) y.rising y.sound

  -- setting a value
  pub set-right : (a : Value) (deep many : ℕ) (u : Tree Value) → Proper a → WellFormedTree deep many u →
      Right (set_payload_at (missing_value false) (path_from_ids ids) a (children u))
  set-right a deep many u p y =
      write-right (missing_value false) (λ l. tree a (children_of l)) (missing-proper false)
      (λ l h. rising-children l h) (λ l h. (p, sound-children l h)) (children u) y.rising y.sound

-- a changed tree that keeps to the limits is what its bytes decode to; one that does not has too many nodes or levels
module _ {o o' : List ℕ} {r n : ℕ} (deep many : ℕ) (a : Value) (f : Forest Value) (b : Bool)
    (w : Wrote o o' 0 r n (encode (rooted (tree a f)))) (p : Proper a) (h : Right f) (t : Within deep many o' b) where
  pub within-is : b ≡ (leb (levels f) deep && leb (nodes f) many)
  within-is = t.tells (tree a f) (drop r o') (sym (take-append-drop r o') ∙ ap (λ (l : List ℕ). l ++ drop r o') w.holds) p h.sound h.rising

  pub within-encodes : b ≡ true → Encodes deep many (take r o') (tree a f)
  within-encodes e =
      let q = sym within-is ∙ e in
      record {
        bytes = w.holds;
        good = record {
          root = p;
          sound = h.sound;
          rising = h.rising;
          shallow = leb-true _ _ (and_left (leb (levels f) deep) (leb (nodes f) many) q);
          few = leb-true _ _ (and_right (leb (levels f) deep) (leb (nodes f) many) q);
        };
      }

  pub within-decodes : b ≡ true → decode deep many (take r o') ≡ present (tree a f)
  within-decodes e = decode-complete deep many (take r o') (tree a f) (within-encodes e)

-- the bytes of a value's leaf are a tree
pub leaf-encodes : (basic : ℕ) (v : List ℕ) → Proper (value basic v) → Encodes 0 0 (encode (rooted (tree (value basic v) end))) (tree (value basic v) end)
unfolding SoundValues Rising measure
leaf-encodes basic v p = record { bytes = refl; good = record { root = p; sound = tt; rising = tt; shallow = omega arith; few = omega arith } }

pub leaf-is-tree : (basic : ℕ) (v : List ℕ) → Proper (value basic v) → is_tree 0 0 (encode (rooted (tree (value basic v) end))) ≡ true
leaf-is-tree basic v p = ap is_present (decode-complete 0 0 (encode (rooted (tree (value basic v) end))) (tree (value basic v) end) (leaf-encodes basic v p))
