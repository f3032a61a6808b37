-- Types as encoded trees, at each of the ways out of the code.
use mathlib.Core.Path.{◌≡◌, refl, sym, ◌∙◌, ap}
use mathlib.Core.List.{List, [], ◌∷◌}
use mathlib.Core.Bool.{Bool, true, not}
use Prim.Native.Nat.{ℕ, zero, suc, ◌+◌, ◌-◌, ◌/◌, ◌%◌, ◌≤◌, ◌<◌}
use native.Mathlib.Omega.{arith}
use lib.ListN.{length, get_or, take, drop, length-take, length-drop}
use lib.Seq.{drop-drop}
use Rattle.basics.specs.TestLaws.{unequal}
use Rattle.wire.specs.Wire.{byte_at, part}
use Rattle.wire.specs.WireLaws.{agree-byte, part-agrees}
use Rattle.scalar.specs.Value.{Value}
use Rattle.tree_forest.specs.Forest.{end, Tree, tree, Lookup, is_present, set, measure, map_forest, map_tree}
use Rattle.tree.specs.Encode.{root_count, encode}
use Rattle.tree.specs.Decode.{decode, is_tree}
use Rattle.tree.specs.DecodeLaws.{decode-complete}
use Rattle.tree.specs.Ids.{path_from_ids, Words}
use Rattle.tree_edit.specs.Wrote.{Wrote}
use Rattle.tree_edit.specs.WroteLaws.{wrote-more}
use Rattle.tree_edit.specs.Change.{replaced}
use Rattle.network_syntax.specs.Syntax.{Mark, mark, Types}
use Rattle.check_types.specs.Image.{flag, mark_value}
use Rattle.check_types.specs.TypeRowsLaws.{TypeKeeps}
use Rattle.type_text.specs.Meaning.{as_child}
use Rattle.type_images.specs.declared.TypeImage.{TypeImage}
use Rattle.type_images.specs.TypeImages.{image_of, image_size, LeafMade, TypeCopied, BytesPut, ChildPut}
use Rattle.type_images.specs.TypeImageLaws.{image-length, leaf-keeps, child-keeps, child-size, keeps-encodes, set_keeps, put-image}

-- ---- a basic type alone

leaf-image : (m : Bool) (b : ℕ) → 0 % 256 ∷ 0 / 256 ∷ 5 ∷ 0 ∷ 2 ∷ flag m ∷ b ∷ [] ≡ image_of (tree (mark m b) end)
unfolding encode root_count map_forest
leaf-image m b = refl

pub leaf-made : (m : Bool) (b : ℕ) (o o' : List ℕ) (n : ℕ) → Wrote o o' 0 n 7 (0 % 256 ∷ 0 / 256 ∷ 5 ∷ 0 ∷ 2 ∷ flag m ∷ b ∷ [])
    → LeafMade m b (record { bytes = o'; len = n })
unfolding measure
leaf-made m b o o' n w = record {
  tells = λ h. record { image = w.holds ∙ leaf-image m b; size = omega (arith, w.next); keeps = leaf-keeps m b h };
}

-- ---- a copy

drop-taken : (k n m : ℕ) (l : List ℕ) → m ≡ k + n → drop k (take m l) ≡ take n (drop k l)
drop-taken zero n m l e = let z : m ≡ n = omega (arith, e) in rw z refl
drop-taken (suc k) n zero l e = absurd (omega (arith, e))
drop-taken (suc k) zero (suc m) [] e = refl
drop-taken (suc k) (suc n) (suc m) [] e = refl
drop-taken (suc k) n (suc m) (x ∷ l) e = drop-taken k n m l (omega (arith, e))

part-inside : (s : List ℕ) (at n : ℕ) → length (part s at n) ≡ n → 0 < n → at + n ≤ length s
part-inside s at n e h = omega (arith, length-take n (drop at s), length-drop at s, e)

module _ (images : List ℕ) (start len : ℕ) (m : Bool) where
  inside : (t : Tree Mark) → len ≡ image_size t → part images start len ≡ image_of t → start + len ≤ length images
  inside t e p = part-inside images start len (ap length p ∙ image-length t ∙ sym e) (omega (arith, e))

  pub copied-past : (r : TypeImage) → length images < len → TypeCopied images start len m r
  copied-past r l = record { tells = λ t k e p. absurd (omega (arith, inside t e p)) }

  pub copied-outside : (r : TypeImage) → length images - len < start → TypeCopied images start len m r
  copied-outside r l = record { tells = λ t k e p. absurd (omega (arith, inside t e p)) }

  rest-is : 7 ≤ len → take (len - 7) (drop (start + 7) images) ≡ drop 7 (part images start len)
  rest-is h = ap (take (len - 7)) (sym (drop-drop 7 start images)) ∙ sym (drop-taken 7 (len - 7) len (drop start images) (omega arith))

  byte-is : (k : ℕ) (l : List ℕ) → part images start len ≡ l → k < len → byte_at images (start + k) ≡ byte_at l k
  byte-is k l p h = sym (agree-byte (part-agrees images start len k 1 (omega arith))) ∙ ap (λ (z : List ℕ). byte_at z k) p

  copy_is : (t : Tree Mark) → len ≡ image_size t → part images start len ≡ image_of t
      → 0 % 256 ∷ 0 / 256 ∷ 5 ∷ get_or images (start + 3) 0 ∷ 2 ∷ flag m ∷ get_or images (start + 6) 0 ∷ take (len - 7) (drop (start + 7) images)
      ≡ image_of (as_child m t)
  unfolding encode
  copy_is (tree (mark n b) k) e p =
      let c = byte-is 3 _ p (omega (arith, e)) in
      let d = byte-is 6 _ p (omega (arith, e)) in
      let r = rest-is (omega (arith, e)) ∙ ap (drop 7) p in
      rw (c, d, r) refl

  pub copied : (o o₁ o₂ : List ℕ) (h e : ℕ)
      → Wrote o o₁ 0 h 7 (0 % 256 ∷ 0 / 256 ∷ 5 ∷ get_or images (start + 3) 0 ∷ 2 ∷ flag m ∷ get_or images (start + 6) 0 ∷ [])
      → Wrote o₁ o₂ h e (len - 7) (take (len - 7) (drop (start + 7) images)) → TypeCopied images start len m (record { bytes = o₂; len = e })
  copied o o₁ o₂ h e x y = record {
    tells = λ t k q p. record {
      image = (wrote-more x y).holds ∙ copy_is t q p;
      size = omega (arith, x.next, y.next, q, child-size m t);
      keeps = child-keeps m t k;
    };
  }

pub ruleset copy-laws = (copied-past, copied-outside, copied)

-- ---- a child put in

module _ (g : List ℕ) (id : ℕ) (m : List ℕ) (o o' : List ℕ) (k : ℕ)
    (w : Wrote o o' 0 k k (replaced true (path_from_ids (id ∷ 0 ∷ 0 ∷ 0 ∷ [])) (decode 6 48 m) (decode 6 48 g)))
    (wo : Words (id ∷ 0 ∷ 0 ∷ 0 ∷ [])) where
  long : (a : Mark) (f : Types) (u : Tree Mark) → g ≡ image_of (tree a f) → TypeKeeps (tree a f) → m ≡ image_of u → TypeKeeps u
      → k ≡ image_size (tree a (set id u f))
  long a f u eg hg em hm = sym w.size ∙ ap length (put-image g m a f id u eg hg em hm) ∙ image-length (tree a (set id u f))

  pub put-long : (r : TypeImage) → 128 < k → BytesPut g id m r
  put-long r l = record { tells = λ a f u eg hg em hm p n v. absurd (omega (arith, long a f u eg hg em hm, n)) }

  pub put-fits : (b b' : List ℕ) (e : ℕ) → Wrote b b' 0 e k (take k (drop 0 o')) → BytesPut g id m (record { bytes = b'; len = e })
  put-fits b b' e wb = record {
    tells = λ a f u eg hg em hm p n v. record {
      image = wb.holds ∙ w.holds ∙ put-image g m a f id u eg hg em hm;
      size = omega (arith, wb.next, long a f u eg hg em hm);
      keeps = set_keeps a f id u hg hm p (wo.small 0) n v;
    };
  }

pub ruleset put-laws = (put-long, put-fits)

no-image : (s : List ℕ) (t : Tree Mark) (x : Bool) → s ≡ image_of t → TypeKeeps t → x ≡ is_tree 6 48 s → not x ≡ true → ⊥
no-image s t x e k q n =
    unequal (q ∙ ap (λ (l : Lookup Value). is_present l) (decode-complete 6 48 s (map_tree mark_value t) (keeps-encodes s t e k))) n

module _ (e : TypeImage) (id : ℕ) (d r : TypeImage) where
  pub child-no-tree : (x : Bool) → x ≡ is_tree 6 48 (take e.len e.bytes) → not x ≡ true → ChildPut e id d r
  child-no-tree x q n = record { tells = λ a k u h g p i v. absurd (no-image (take e.len e.bytes) (tree a k) x h.image h.keeps q n) }

  pub child-no-type : (x : Bool) → x ≡ is_tree 6 48 (take d.len d.bytes) → not x ≡ true → ChildPut e id d r
  child-no-type x q n = record { tells = λ a k u h g p i v. absurd (no-image (take d.len d.bytes) u x g.image g.keeps q n) }

  pub child-on : BytesPut (take e.len e.bytes) id (take d.len d.bytes) r → ChildPut e id d r
  child-on b = record { tells = λ a k u h g p n v. b.tells a k u h.image h.keeps g.image g.keeps p n v }

pub ruleset child-laws = (child-no-tree, child-no-type, child-on)
