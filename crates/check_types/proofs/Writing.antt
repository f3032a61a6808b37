-- T rows written out, at each of the ways out of the code.
use mathlib.Core.Path.{◌≡◌, refl, ap, sym, subst, ◌∙◌}
use mathlib.Core.List.{List, [], ◌∷◌, ◌++◌, append-nil, append_assoc}
use mathlib.Core.Bool.{Bool, true, false}
use Prim.Native.Nat.{ℕ, zero, suc, ◌+◌, ◌-◌, ◌*◌, ◌/◌, ◌%◌, ◌≤◌, ◌<◌}
use native.Mathlib.Omega.{arith}
use mir.Val.{bool_byte}
use lib.ListN.{length, take, drop, take-append-drop}
use Rattle.basics.specs.TestLaws.{of_t}
use Rattle.tree_forest.specs.Forest.{end, node, Tree, tree, node_of, measure, nodes, map_forest}
use Rattle.network_syntax.specs.Syntax.{Mark, mark, Types}
use Rattle.network.specs.Form as form
use Rattle.network.specs.Layout.{type_count}
use Rattle.network.specs.Decode.{siblings, type_of}
use Rattle.network.specs.Shapes.{TypeShape}
use Rattle.network.proofs.DecodeLaws.{type-shape}
use Rattle.tree.specs.Encode.{root_count, encode, rooted, Octets, WellFormedTree, children}
use Rattle.tree.specs.Standing.{Root}
use Rattle.tree.specs.EncodeLaws.{good_of, sound-above}
use Rattle.scalar.specs.Value.{Value}
use Rattle.network_syntax.specs.Syntax.{MessageType}
use Rattle.check_subtyping.specs.Subtype.{is_subtype}
use Rattle.check_subtyping.proofs.SubtypeLaws.{subtype-refl, subtype-complete}
use Rattle.tree_edit.specs.Wrote.{Wrote}
use Rattle.tree_edit.specs.WroteLaws.{wrote_none, wrote-more, wrote_as, wrote-all-of}
use Rattle.check_types.specs.Image.{flag, mark_value, image, type_tree, type_as}
use Rattle.check_types.specs.ImageLaws.{count_map, image-bytes, type-back}
use Rattle.check_types.specs.TypeRows.{row_types, line_of}
use Rattle.check_types.specs.TypeRowsLaws.{type-well-formed, RowMet, met, unmet, One, one-row, no-row}
use Rattle.check_types.specs.Tells.{RowsWritten, TypeWritten, TreeUnder, RowsOrder}
use Rattle.check_types.specs.declared.Line.{Line}
use Rattle.std.specs.Prelude.{Option, Some, None}
use Rattle.check_types.specs.TypeRows.{row_line}

-- a truth value as a byte
pub byte-flag : (m : Bool) → bool_byte m ≡ flag m
byte-flag true = refl
byte-flag false = refl

pub node-wrote : {o o₁ o₂ o₃ o₄ o₅ o₆ : List ℕ} {w a b c d e f k x y : ℕ} (i : ℕ) (m : Bool) → Wrote o o₁ w a 2 (i % 256 ∷ i / 256 ∷ []) → Wrote o₁ o₂ a b 1 (5 ∷ []) →
    Wrote o₂ o₃ b c 1 (k ∷ []) → Wrote o₃ o₄ c d 1 (2 ∷ []) → x ≡ flag m → Wrote o₄ o₅ d e 1 (x ∷ []) → Wrote o₅ o₆ e f 1 (y ∷ []) →
    Wrote o o₆ w f 7 (i % 256 ∷ i / 256 ∷ 5 ∷ k ∷ 2 ∷ flag m ∷ y ∷ [])
node-wrote i m p q r s z t u = rw (← z) (wrote-more (wrote-more (wrote-more (wrote-more (wrote-more p q) r) s) t) u)

count-node : (i : ℕ) (t : Tree Mark) (r : Types) → root_count (node_of i t r) ≡ suc (root_count r)
unfolding root_count
count-node i (tree a k) r = refl

count-rows : (file : List ℕ) (f : ℕ → Tree Mark) (r n : ℕ) → root_count (siblings file f r n) ≡ n
unfolding siblings root_count
count-rows file f r zero = refl
count-rows file f r (suc n) = count-node _ (f r) _ ∙ ap suc (count-rows file f (r + 1) n)

count_small : (f : Types) → root_count f ≤ nodes f
unfolding root_count measure
count_small end = omega arith
count_small (node i a k r) = omega (arith, count_small r)

image-count : (file : List ℕ) (r n : ℕ) → root_count (image (row_types file r n)) ≡ n
image-count file r n = count_map mark_value (row_types file r n) ∙ count-rows file (type_of file) r n

none_written : (file : List ℕ) (r n : ℕ) (o : List ℕ) (w : ℕ) → w ≤ length o → n ≡ 0 → Wrote o o w w (7 * nodes (row_types file r n)) (encode (image (row_types file r n)))
unfolding siblings measure map_forest encode
none_written file r n o w fit z = rw z (wrote_none o w fit)

nodes-as : (F : Types) (j : ℕ) (a : Mark) (k r : Types) → F ≡ node j a k r → nodes F ≡ suc (nodes k + nodes r)
unfolding measure
nodes-as F j a k r e = rw e (omega arith)

bytes-as : (F : Types) (j : ℕ) (m : Bool) (b c : ℕ) (k r : Types) → F ≡ node j (mark m b) k r → root_count (image k) ≡ c →
    encode (image F) ≡ (j % 256 ∷ j / 256 ∷ 5 ∷ c ∷ 2 ∷ flag m ∷ b ∷ []) ++ (encode (image k) ++ encode (image r))
bytes-as F j m b c k r e q = rw e (image-bytes j m b k r ∙ rw q refl)

module _ (file : List ℕ) (r n : ℕ) (o : List ℕ) (w : ℕ) (fit : w ≤ length o) where
  pub write-none : n ≡ 0 → RowsWritten file r n o o w w
  write-none z = record { inside = fit; writes = λ wf le s l. none_written file r n o w fit z }

  module _ (z : n ≡ 0 → ⊥) (g : Option Line) (lp : g ≡ line_of file r) where
    pub write-broken : g ≡ None → RowsWritten file r n o o w w
    write-broken lq = record { inside = fit; writes = λ wf le s l. unmet file r n wf le z g lp lq }

    module _ (line : Line) (lq : g ≡ Some line) where
      opens : form.WellFormed file → r + n ≤ type_count file → RowMet file r n line.id line.mandatory line.basic line.first line.count line.next
      opens wf le = met file r n wf le z g line.id line.mandatory line.basic line.first line.count line.next lp lq

      sized : (wf : form.WellFormed file) (le : r + n ≤ type_count file) → nodes (row_types file r n) ≡ suc (nodes (row_types file line.first line.count) + nodes (row_types file line.next (n - 1)))
      sized wf le = nodes-as (row_types file r n) line.id (mark line.mandatory line.basic) (row_types file line.first line.count) (row_types file line.next (n - 1)) (opens wf le).whole

      pub write-many : (line.count < 256 → ⊥) → RowsWritten file r n o o w w
      write-many h = record {
        inside = fit;
        writes = λ wf le s l. absurd (omega (arith, sized wf le, count-rows file (type_of file) line.first line.count, count_small (row_types file line.first line.count)));
      }

      pub write-full : length o - w < 7 → RowsWritten file r n o o w w
      write-full h = record { inside = fit; writes = λ wf le s l. absurd (omega (arith, sized wf le)) }

      pub write-more : (o₁ o₂ o₃ : List ℕ) (a e x k : ℕ) → k ≡ line.count → length o₁ ≡ length o → length o₂ ≡ length o₁ → Wrote o o₁ w a 7 (line.id % 256 ∷ line.id / 256 ∷ 5 ∷ k ∷ 2 ∷ flag line.mandatory ∷ line.basic ∷ []) →
          RowsWritten file line.first line.count o₁ o₂ a e → RowsWritten file line.next (n - 1) o₂ o₃ e x → RowsWritten file r n o o₃ w x
      write-more o₁ o₂ o₃ a e x k kc l₁ l₂ p₀ q s = record { inside = omega (arith, s.inside); writes = go }
        where
          p : Wrote o o₁ w a 7 (line.id % 256 ∷ line.id / 256 ∷ 5 ∷ line.count ∷ 2 ∷ flag line.mandatory ∷ line.basic ∷ [])
          p = rw (← kc) p₀

          go : form.WellFormed file → r + n ≤ type_count file → nodes (row_types file r n) ≤ 48 → w + 7 * nodes (row_types file r n) ≤ length o →
              Wrote o o₃ w x (7 * nodes (row_types file r n)) (encode (image (row_types file r n)))
          go wf le few l =
              let y = opens wf le in
              let sz = sized wf le in
              let q' = q.writes wf y.below (omega arith) (omega (arith, p.next)) in
              let s' = s.writes wf y.others (omega arith) (omega (arith, p.next, q'.next)) in
              let by = bytes-as (row_types file r n) line.id line.mandatory line.basic line.count (row_types file line.first line.count) (row_types file line.next (n - 1)) y.whole (image-count file line.first line.count) in
              wrote_as (append_assoc (line.id % 256 ∷ line.id / 256 ∷ 5 ∷ line.count ∷ 2 ∷ flag line.mandatory ∷ line.basic ∷ []) (encode (image (row_types file line.first line.count))) (encode (image (row_types file line.next (n - 1)))) ∙ sym by)
              (omega arith) (wrote-more (wrote-more p q') s')

pub ruleset write-laws = (write-none, write-broken, write-many, write-full)

-- a type alone
tree-bytes : (t : Tree Mark) (m : Bool) (b c : ℕ) (k : Types) → t ≡ tree (mark m b) k → root_count (image k) ≡ c →
    encode (rooted (type_tree t)) ≡ (0 ∷ 0 ∷ 5 ∷ c ∷ 2 ∷ 1 ∷ b ∷ []) ++ encode (image k)
unfolding encode
tree-bytes t m b c k e q = rw (e, q, append-nil (encode (image k))) refl

below-small : (t : Tree Mark) (m : Bool) (b : ℕ) (k : Types) → t ≡ tree (mark m b) k → TypeShape t → nodes k ≤ 15
below-small (tree a k') m b k e w = let f = w.few_nodes in let q : k' ≡ k = cc in subst (λ (z : Types). nodes z ≤ 15) q (omega arith)

module _ (file : List ℕ) (r : ℕ) (o : List ℕ) (fit : 112 ≤ length o) (g : Option Line) (lp : g ≡ line_of file r) where
  pub type-outside : g ≡ None → TypeWritten file r o o 0
  type-outside lq = record { inside = omega arith; writes = λ wf le. no-row file r wf le g lp lq }

  module _ (line : Line) (lq : g ≡ Some line) where
    starts : form.WellFormed file → r < type_count file → One file r line.basic line.first line.count
    starts wf le = one-row file r wf le g line.id line.mandatory line.basic line.first line.count line.next lp lq

    few : (wf : form.WellFormed file) (le : r < type_count file) → nodes (row_types file line.first line.count) ≤ 15
    few wf le = below-small (type_of file r) (starts wf le).cardinal line.basic (row_types file line.first line.count) (starts wf le).type (type-shape file wf r le)

    pub type-many : (line.count < 256 → ⊥) → TypeWritten file r o o 0
    type-many h = record {
      inside = omega arith;
      writes = λ wf le. absurd (omega (arith, few wf le, count-rows file (type_of file) line.first line.count, count_small (row_types file line.first line.count)));
    }

    pub type-more : (o₁ o₂ : List ℕ) (a e k : ℕ) → k ≡ line.count → length o₁ ≡ length o → Wrote o o₁ 0 a 7 (0 % 256 ∷ 0 / 256 ∷ 5 ∷ k ∷ 2 ∷ flag true ∷ line.basic ∷ []) → RowsWritten file line.first line.count o₁ o₂ a e →
        TypeWritten file r o o₂ e
    type-more o₁ o₂ a e k kc l p₀ q = record { inside = omega (arith, q.inside); writes = go }
      where
        p : Wrote o o₁ 0 a 7 (0 % 256 ∷ 0 / 256 ∷ 5 ∷ line.count ∷ 2 ∷ flag true ∷ line.basic ∷ [])
        p = rw (← kc) p₀

        go : form.WellFormed file → r < type_count file → Wrote o o₂ 0 e e (encode (rooted (type_tree (type_of file r))))
        go wf le =
            let y = starts wf le in
            let f = few wf le in
            let q' = q.writes wf y.below (omega arith) (omega (arith, p.next)) in
            wrote-all-of (sym (tree-bytes (type_of file r) y.cardinal line.basic line.count (row_types file line.first line.count) y.type (image-count file line.first line.count))) (wrote-more p q')

pub ruleset type-laws = (type-outside, type-many, type-more)

-- ---- one row's type under another's

written-root : (o : List ℕ) (e : ℕ) (t : Tree Value) → take e o ≡ encode (rooted t) → WellFormedTree 3 15 t → Root o 0 0 t
written-root o e t h w = record {
  after = drop e o;
  bytes = sym (take-append-drop e o) ∙ ap (λ (l : List ℕ). l ++ drop e o) h;
  proper = w.root;
  good = good_of (children t) 6 0 (sound-above (children t) w.sound) w.rising w.sound (omega (arith, w.shallow));
  small = omega (arith, w.few);
}

as_written : (t u : MessageType) → is_subtype (type_as false (type_tree t)) u ≡ is_subtype t u
as_written (tree (mark m b) k) (tree (mark n c) l) = ap (λ (z : MessageType). is_subtype z (tree (mark n c) l)) (type-back (tree (mark true b) k))

-- A type is ≤ itself.
pub order_same : (file : List ℕ) (r t : ℕ) → r ≡ t → RowsOrder file r t true
order_same file r t e = record {
  tells = λ wf lr lt.
      let rises = (type-shape file wf r lr).rising in
      let itself = of_t (is_subtype (type_of file r) (type_of file r)) (subtype-complete (type_of file r) (type_of file r) rises rises (subtype-refl (type_of file r))) in
      sym (subst (λ (u : ℕ). is_subtype (type_of file r) (type_of file u) ≡ true) e itself);
}

pub order-rows : (file : List ℕ) (r t : ℕ) (o o' : List ℕ) (e : ℕ) (x : Bool) → Octets file → TypeWritten file r o o' e → TreeUnder false o' 0 file t x → RowsOrder file r t x
order-rows file r t o o' e x oct h k = record {
  tells = λ wf lr lt.
      k.tells 0 (type_tree (type_of file r)) wf lt (written-root o' e (type_tree (type_of file r)) (h.writes wf lr).holds (type-well-formed file oct wf r lr))
      ∙ as_written (type_of file r) (type_of file t);
}
