-- The least messages of a T row written, at each of the ways out of the code.
use mathlib.Core.Path.{◌≡◌, refl, ap, sym, subst, ◌∙◌}
use mathlib.Core.List.{List, ◌∷◌, ◌++◌, append-nil, append_assoc}
use mathlib.Core.Bool.{Bool, true, false, not}
use Prim.Native.Nat.{ℕ, ◌+◌, ◌-◌, ◌/◌, ◌%◌, ◌≤◌, ◌<◌}
use native.Mathlib.Omega.{arith}
use lib.ListN.{length, replicate, length-replicate}
use Rattle.basics.specs.Choice.{pick}
use Rattle.basics.specs.TestLaws.{not-true, not-false}
use Rattle.tree_forest.specs.Forest.{Forest, end, node, Tree, tree, nodes}
use Rattle.scalar.specs.Value.{Value, least_bytes}
use Rattle.tree.specs.Encode.{root_count, encode, rooted, Octets}
use Rattle.tree.specs.EncodeLaws.{length-node, count-nodes}
use Rattle.tree_edit.specs.Wrote.{Wrote}
use Rattle.tree_edit.specs.WroteLaws.{wrote_none, wrote-more, wrote_as, wrote-all-of}
use Rattle.network_syntax.specs.Syntax.{Mark, mark, Types, MessageType}
use Rattle.network.specs.Form.{WellFormed}
use Rattle.network.specs.Layout.{type_count}
use Rattle.network.specs.Decode.{type_of}
use Rattle.network.proofs.DecodeLaws.{type-shape}
use Rattle.network.specs.Shapes.{TypeShape}
use Rattle.check_types.specs.TypeRows.{row_types, line_of}
use Rattle.check_types.specs.TypeRowsLaws.{RowMet, unmet, one-row, no-row}
use Rattle.check_types.specs.declared.Line.{Line}
use Rattle.state.proofs.SizeLaws.{message-size}
use Rattle.counterexample_rules.specs.Breaking.{least_of, holds_child, least_with, least_message}
use Rattle.counterexample_rules.specs.LeastLaws.{least-few}
use Rattle.counterexample_rules.specs.BreakingLaws.{least-well-formed}
use Rattle.counterexample.specs.RowLaws.{row_within}
use Rattle.counterexample.specs.Tells.{Spans, Held, LeastWritten, MessageWritten}
use Rattle.counterexample.proofs.Rows.{no_rows, opens, sized, first_by}
use Rattle.std.specs.Prelude.{Option, Some, None}
use Rattle.check_types.specs.TypeRows.{row_line}

-- ---- the bytes of a node

-- Its length and its bytes, with the least value as zeros and its children counted.
head-length : (i b q : ℕ) (K R : Forest Value) → least_bytes b ≡ replicate q 0 → length (encode (node i (least_of b) K R)) ≡ 5 + q + length (encode K) + length (encode R)
head-length i b q K R e = length-node i b (least_bytes b) K R ∙ rw (e, length-replicate {A = ℕ} q 0) refl

head-bytes : (i b q k : ℕ) (K R : Forest Value) → least_bytes b ≡ replicate q 0 → k ≡ root_count K
    → encode (node i (least_of b) K R) ≡ (i % 256 ∷ i / 256 ∷ b ∷ k ∷ q ∷ replicate q 0) ++ (encode K ++ encode R)
unfolding encode
head-bytes i b q k K R e c = rw (e, c, length-replicate {A = ℕ} q 0) refl

-- The count that is written.
counted : (file : List ℕ) (r n j k : ℕ) → Held file r n j k → WellFormed file → r + n ≤ type_count file → nodes (row_types file r n) < 256
    → k % 256 ≡ root_count (least_with j (row_types file r n))
counted file r n j k h wf le s =
    omega (arith, h.tells wf le s, count-nodes (least_with j (row_types file r n)), least-few j (row_types file r n))

none_written : (j : ℕ) (F : Types) (o : List ℕ) (w : ℕ) → w ≤ length o → F ≡ end → Wrote o o w w (length (encode (least_with j F))) (encode (least_with j F))
unfolding least_with encode
none_written j F o w fit e = rw e (wrote_none o w fit)

module _ (file : List ℕ) (r n j : ℕ) (o : List ℕ) (w : ℕ) (fit : w ≤ length o) where
  pub least-none : n ≡ 0 → LeastWritten file r n j o o w w
  least-none z = record { inside = fit; writes = λ wf le s l. none_written j (row_types file r n) o w fit (no_rows file r n z) }

  module _ (z : n ≡ 0 → ⊥) (g : Option Line) (lp : g ≡ line_of file r) where
    pub least-outside : g ≡ None → LeastWritten file r n j o o w w
    least-outside lq = record { inside = fit; writes = λ wf le s l. unmet file r n wf le z g lp lq }

    module _ (i : ℕ) (m : Bool) (b first c next : ℕ) (lq : g ≡ Some (row_line i m b first c next)) (x l : ℕ) (t : Bool) (p : Spans file first c j x) (lx : l ≡ j - x)
        (e : t ≡ holds_child m j x) where
      K : Types
      K = row_types file first c

      R : Types
      R = row_types file next (n - 1)

      split : WellFormed file → r + n ≤ type_count file → nodes (row_types file r n) < 256
          → least_with j (row_types file r n) ≡ pick t (node i (least_of b) (least_with (j - 1) (row_types file first c)) (least_with l (row_types file next (n - 1)))) (least_with l (row_types file next (n - 1)))
      split wf le s = first_by file r n z g lp i m b first c next lq j x t p e wf le s ∙ rw lx refl

      few : WellFormed file → r + n ≤ type_count file → nodes (row_types file r n) < 256 → (nodes (row_types file first c) < 256) × (nodes (row_types file next (n - 1)) < 256)
      few wf le s = let y = sized file r n z g lp i m b first c next lq wf le in (omega arith, omega arith)

      met-row : WellFormed file → r + n ≤ type_count file → RowMet file r n i m b first c next
      met-row wf le = opens file r n z g lp i m b first c next lq wf le

      pub least_skip : not t ≡ true → (o' : List ℕ) (y : ℕ) → LeastWritten file next (n - 1) l o o' w y → LeastWritten file r n j o o' w y
      least_skip u o' y h = record { inside = h.inside; writes = go }
        where
          go : WellFormed file → r + n ≤ type_count file → nodes (row_types file r n) < 256 → w + length (encode (least_with j (row_types file r n))) ≤ length o
              → Wrote o o' w y (length (encode (least_with j (row_types file r n)))) (encode (least_with j (row_types file r n)))
          go wf le s room =
              let same : least_with j (row_types file r n) ≡ least_with l (row_types file next (n - 1)) = split wf le s ∙ rw (not-true t u) refl in
              let room' = subst (λ (F : Forest Value). w + length (encode F) ≤ length o) same room in
              subst (λ (F : Forest Value). Wrote o o' w y (length (encode F)) (encode F)) (sym same) (h.writes wf (met-row wf le).others (few wf le s).1 room')

      module _ (u : not t ≡ false) (q : ℕ) (lb : least_bytes b ≡ replicate q 0) where
        held-node : WellFormed file → r + n ≤ type_count file → nodes (row_types file r n) < 256
            → least_with j (row_types file r n) ≡ node i (least_of b) (least_with (j - 1) (row_types file first c)) (least_with l (row_types file next (n - 1)))
        held-node wf le s = split wf le s ∙ rw (not-false t u) refl

        long : (wf : WellFormed file) (le : r + n ≤ type_count file) (s : nodes (row_types file r n) < 256)
            → length (encode (least_with j (row_types file r n)))
            ≡ 5 + q + length (encode (least_with (j - 1) (row_types file first c))) + length (encode (least_with l (row_types file next (n - 1))))
        long wf le s = ap (λ (F : Forest Value). length (encode F)) (held-node wf le s) ∙ head-length i b q _ _ lb

        pub least-full : length o - w < 5 + q → LeastWritten file r n j o o w w
        least-full h = record { inside = fit; writes = λ wf le s room. absurd (omega (arith, long wf le s)) }

        pub least_more : (v k a y f : ℕ) (o₁ o₂ o₃ : List ℕ) → v ≡ j - 1 → Held file first c v k → length o₁ ≡ length o → length o₂ ≡ length o₁
            → Wrote o o₁ w a (5 + q) (i % 256 ∷ i / 256 ∷ b ∷ k % 256 ∷ q ∷ replicate q 0)
            → LeastWritten file first c v o₁ o₂ a f → LeastWritten file next (n - 1) l o₂ o₃ f y → LeastWritten file r n j o o₃ w y
        least_more v k a y f o₁ o₂ o₃ vj hk l₁ l₂ p₁ h₁ h₂ = record { inside = omega (arith, h₂.inside); writes = go }
          where
            go : WellFormed file → r + n ≤ type_count file → nodes (row_types file r n) < 256 → w + length (encode (least_with j (row_types file r n))) ≤ length o
                → Wrote o o₃ w y (length (encode (least_with j (row_types file r n)))) (encode (least_with j (row_types file r n)))
            go wf le s room =
                let below = (met-row wf le).below in
                let fw = few wf le s in
                let kv : least_with v (row_types file first c) ≡ least_with (j - 1) (row_types file first c) = ap (λ (d : ℕ). least_with d (row_types file first c)) vj in
                let kl = ap (λ (F : Forest Value). length (encode F)) kv in
                let lg = long wf le s in
                let w₁ = h₁.writes wf below fw.0 (omega (arith, p₁.next)) in
                let w₂ = h₂.writes wf (met-row wf le).others fw.1 (omega (arith, p₁.next, w₁.next)) in
                let cnt : k % 256 ≡ root_count (least_with v (row_types file first c)) = counted file first c v k hk wf below fw.0 in
                let by = head-bytes i b q (k % 256) (least_with v (row_types file first c)) (least_with l (row_types file next (n - 1))) lb cnt in
                let all : encode (least_with j (row_types file r n)) ≡ (i % 256 ∷ i / 256 ∷ b ∷ k % 256 ∷ q ∷ replicate q 0) ++ (encode (least_with v (row_types file first c)) ++ encode (least_with l (row_types file next (n - 1)))) =
                ap encode (held-node wf le s ∙ ap (λ (F : Forest Value). node i (least_of b) F (least_with l (row_types file next (n - 1)))) (sym kv)) ∙ by in
                wrote_as (append_assoc (i % 256 ∷ i / 256 ∷ b ∷ k % 256 ∷ q ∷ replicate q 0) (encode (least_with v (row_types file first c))) (encode (least_with l (row_types file next (n - 1)))) ∙ sym all)
                (omega arith) (wrote-more (wrote-more p₁ w₁) w₂)

pub ruleset least_laws = (least-none, least-outside)

-- ---- a message

as-message : (t : MessageType) (m : Bool) (b : ℕ) (K : Types) (j : ℕ) → t ≡ tree (mark m b) K → rooted (least_message t j) ≡ node 0 (least_of b) (least_with j K) end
as-message t m b K j e = rw e refl

type-nodes : (t : Tree Mark) (m : Bool) (b : ℕ) (K : Types) → t ≡ tree (mark m b) K → TypeShape t → nodes K ≤ 15
type-nodes (tree a k) m b K e w = let f = w.few_nodes in let q : k ≡ K = cc in subst (λ (F : Types). nodes F ≤ 15) q (omega arith)

module _ (file : List ℕ) (r j : ℕ) (o : List ℕ) (fit : 336 ≤ length o) (oct : Octets file) (g : Option Line) (lp : g ≡ line_of file r) where
  pub message-outside : g ≡ None → MessageWritten file r j o o 0
  message-outside lq = record { inside = omega arith; writes = λ wf le. no-row file r wf le g lp lq }

  pub message-more : (i : ℕ) (m : Bool) (b first c next k q a e : ℕ) (o₁ o₂ : List ℕ) → g ≡ Some (row_line i m b first c next) → Held file first c j k → least_bytes b ≡ replicate q 0
      → length o₁ ≡ length o → Wrote o o₁ 0 a (5 + q) (0 % 256 ∷ 0 / 256 ∷ b ∷ k % 256 ∷ q ∷ replicate q 0) → LeastWritten file first c j o₁ o₂ a e
      → MessageWritten file r j o o₂ e
  unfolding encode
  message-more i m b first c next k q a e o₁ o₂ lq hk lb l₁ p h = record { inside = omega (arith, h.inside); writes = go }
    where
      go : WellFormed file → r < type_count file → Wrote o o₂ 0 e e (encode (rooted (least_message (type_of file r) j)))
      go wf le =
          let y = one-row file r wf le g i m b first c next lp lq in
          let K = least_with j (row_types file first c) in
          let few = type-nodes (type_of file r) y.cardinal b (row_types file first c) y.type (type-shape file wf r le) in
          let is = as-message (type_of file r) y.cardinal b (row_types file first c) j y.type in
          let size = message-size (least_message (type_of file r) j) (least-well-formed (type_of file r) (row_within file oct wf r le) j) in
          let len = ap (λ (F : Forest Value). length (encode F)) is ∙ head-length 0 b q K end lb in
          let w₁ = h.writes wf y.below (omega arith) (omega (arith, p.next)) in
          let cnt = counted file first c j k hk wf y.below (omega arith) in
          let all : encode (rooted (least_message (type_of file r) j)) ≡ (0 ∷ 0 ∷ b ∷ k % 256 ∷ q ∷ replicate q 0) ++ encode K =
          ap encode is ∙ head-bytes 0 b q (k % 256) K end lb cnt ∙ ap (λ (l : List ℕ). (0 ∷ 0 ∷ b ∷ k % 256 ∷ q ∷ replicate q 0) ++ l) (append-nil (encode K)) in
          wrote-all-of (sym all) (wrote-more p w₁)
