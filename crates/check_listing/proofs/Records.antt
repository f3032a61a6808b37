-- Records of nodes: one after another, and those of an environment, at each of the ways out of the code.
use mathlib.Core.Path.{◌≡◌, refl, sym, ap, subst, ◌∙◌}
use mathlib.Core.List.{List, [], ◌∷◌, ◌++◌}
use mathlib.Core.Bool.{Bool, true, false}
use Prim.Native.Nat.{ℕ, zero, suc, ◌+◌, ◌-◌, ◌*◌, ◌/◌, ◌%◌, ◌≤◌, ◌<◌}
use native.Mathlib.Numerals.{add-one}
use native.Mathlib.Omega.{arith}
use lib.ListN.{length, get_or, take, drop, length-append}
use lib.Seq.{drop-length}
use borrow.Author.Tests.{lt-ltb, le-ltb}
use mir.Val.{bool_byte}
use Rattle.tree_forest.specs.Forest.{end, node, measure, nodes, levels}
use Rattle.basics.specs.Choice.{pick}
use Rattle.basics.specs.TestLaws.{one_less}
use Rattle.network_syntax.specs.Syntax.{mark, Types}
use Rattle.tree_edit.specs.Wrote.{Wrote}
use Rattle.tree_edit.specs.WroteLaws.{wrote_none, wrote-more, wrote_as}
use Rattle.check_environments.specs.declared.Environment.{Environment}
use Rattle.check_environments.specs.declared.Entry.{Entry}
use Rattle.check_environments.specs.Environment.{standing, EnvironmentFor}
use Rattle.check_environments.specs.EnvironmentLaws.{bytes-length, length-preorder}
use Rattle.std.specs.Prelude.{Option, Some, None}
use Rattle.check_environments.specs.Listing.{preorder, node_in, Lists}
use Rattle.check_listing.specs.Listed.{id_bytes, node_bytes, nodes_bytes}
use Rattle.check_listing.specs.Writing.{nodes_by, NodesWritten, EnvironmentWritten}

-- ---- the bytes of a record

-- The k-th id after those before it.
ids-step : (ids : List ℕ) (k : ℕ) → k < 6
    → take (2 * k) (id_bytes ids) ++ (get_or ids k 0 % 256 ∷ get_or ids k 0 / 256 ∷ []) ≡ take (2 * (k + 1)) (id_bytes ids)
ids-step ids zero h = refl
ids-step ids (suc zero) h = refl
ids-step ids (suc (suc zero)) h = refl
ids-step ids (suc (suc (suc zero))) h = refl
ids-step ids (suc (suc (suc (suc zero)))) h = refl
ids-step ids (suc (suc (suc (suc (suc zero))))) h = refl
ids-step ids (suc (suc (suc (suc (suc (suc k)))))) h = absurd (omega (arith, h))

pub ids-none : (o ids : List ℕ) (w : ℕ) → w ≤ length o → Wrote o o w w (2 * 0) (take (2 * 0) (id_bytes ids))
ids-none o ids w h = wrote_none o w h

pub ids-next : {o o₁ o₂ : List ℕ} {w a r x : ℕ} (ids : List ℕ) (k : ℕ) → k < 6 → x ≡ get_or ids k 0 → Wrote o o₁ w a (2 * k) (take (2 * k) (id_bytes ids))
    → Wrote o₁ o₂ a r 2 (x % 256 ∷ x / 256 ∷ []) → Wrote o o₂ w r (2 * (k + 1)) (take (2 * (k + 1)) (id_bytes ids))
ids-next ids k h e p q =
    wrote_as (ap (λ (y : ℕ). take (2 * k) (id_bytes ids) ++ (y % 256 ∷ y / 256 ∷ [])) e ∙ ids-step ids k h) (omega arith) (wrote-more p q)

pub ids-end : {o o₁ : List ℕ} {w r : ℕ} (ids : List ℕ) (k : ℕ) → k ≡ 6 → Wrote o o₁ w r (2 * k) (take (2 * k) (id_bytes ids)) → Wrote o o₁ w r 12 (id_bytes ids)
ids-end {o} {o₁} {w} {r} ids k e p = subst (λ (y : ℕ). Wrote o o₁ w r (2 * y) (take (2 * y) (id_bytes ids))) e p

byte-flag : (b : Bool) → bool_byte b ≡ pick b 1 0
byte-flag true = refl
byte-flag false = refl

pub node-wrote : {o o₁ o₂ o₃ o₄ o₅ o₆ o₇ : List ℕ} {w a b c d e f r : ℕ} (q role m : ℕ) (x : Entry) → Wrote o o₁ w a 1 (q ∷ []) → Wrote o₁ o₂ a b 1 (role ∷ [])
    → m ≡ bool_byte x.mandatory → Wrote o₂ o₃ b c 1 (m ∷ []) → Wrote o₃ o₄ c d 1 (x.basic ∷ []) → Wrote o₄ o₅ d e 1 (x.depth ∷ [])
    → Wrote o₅ o₆ e f 1 (0 ∷ []) → Wrote o₆ o₇ f r 12 (id_bytes x.ids) → Wrote o o₇ w r 18 (node_bytes q role x)
node-wrote q role m x g h e i j k l t =
    wrote_as (ap (λ (y : ℕ). q ∷ role ∷ y ∷ x.basic ∷ x.depth ∷ 0 ∷ id_bytes x.ids) (e ∙ byte-flag x.mandatory)) refl
    (wrote-more (wrote-more (wrote-more (wrote-more (wrote-more (wrote-more g h) i) j) k) l) t)

-- ---- the nodes of an environment

-- No path is longer than d.
unfoldable Shallow : ℕ → List Entry → Type 0
Shallow d [] = Unit {0}
Shallow d (x ∷ xs) = (x.depth ≤ d) × Shallow d xs

shallow-both : (d : ℕ) (xs ys : List Entry) → Shallow d xs → Shallow d ys → Shallow d (xs ++ ys)
unfolding Shallow
shallow-both d [] ys h k = k
shallow-both d (x ∷ xs) ys h k = (h.0, shallow-both d xs ys h.1 k)

some-once : {x y : Entry} → Some x ≡ Some y → x ≡ y
some-once e = cc

shallow-at : (d i : ℕ) (xs : List Entry) (y : Entry) → Shallow d xs → node_in xs i ≡ Some y → y.depth ≤ d
unfolding Shallow node_in
shallow-at d i [] y h e = absurd cc
shallow-at d zero (x ∷ xs) y h e = subst (λ (z : Entry). z.depth ≤ d) (some-once e) h.0
shallow-at d (suc i) (x ∷ xs) y h e = shallow-at d i xs y h.1 e

-- a node that is listed is the first of those from its number on; each number below the length has one
drop-node : (xs : List Entry) (i : ℕ) (y : Entry) → node_in xs i ≡ Some y → drop i xs ≡ y ∷ drop (suc i) xs
unfolding node_in
drop-node [] i y e = absurd cc
drop-node (x ∷ xs) zero y e = ap (λ (z : Entry). z ∷ xs) (some-once e)
drop-node (x ∷ xs) (suc i) y e = drop-node xs i y e

node-there : (xs : List Entry) (i : ℕ) → i < length xs → node_in xs i ≡ None → ⊥
unfolding node_in
node-there [] i l e = omega (arith, l)
node-there (x ∷ xs) zero l e = absurd cc
node-there (x ∷ xs) (suc i) l e = node-there xs i (omega (arith, l)) e

shallow-preorder : (d : ℕ) (Γ : Types) (above : List ℕ) → length above + levels Γ ≤ d → Shallow d (preorder above Γ)
unfolding preorder measure Shallow
shallow-preorder d end above h = tt
shallow-preorder d (node i (mark m b) k r) above h = (
  omega (arith, h, length-append above (i ∷ [])),
  shallow-both d (preorder (above ++ (i ∷ [])) k) (preorder above r) (shallow-preorder d k (above ++ (i ∷ [])) (omega (arith, h, length-append above (i ∷ []))))
      (shallow-preorder d r above (omega (arith, h))),
)

-- the length of an environment's bytes tells how many nodes it has
pub nodes-told : (e : Environment) (Γ : Types) → EnvironmentFor e Γ → nodes_by e ≡ nodes Γ
unfolding standing
nodes-told e Γ h =
    let l : e.len ≡ 5 + 7 * nodes Γ = ap (λ (z : Environment). z.len) h.is ∙ bytes-length Γ in
    ap (λ (b : Bool). pick b 0 ((e.len - 5) / 7)) (le-ltb 512 e.len (omega (arith, l, h.shape.few))) ∙ omega (arith, l)

pub count_long : (e : Environment) → 512 < e.len → (0 ≡ nodes_by e) × (0 ≤ 72)
count_long e h = (sym (ap (λ (b : Bool). pick b 0 ((e.len - 5) / 7)) (lt-ltb 512 e.len h)), omega arith)

pub count-short : (e : Environment) → e.len < 5 → (0 ≡ nodes_by e) × (0 ≤ 72)
count-short e l = (sym (ap (λ (b : Bool). pick b 0 ((e.len - 5) / 7)) (le-ltb 512 e.len (omega (arith, l))) ∙ omega arith), omega arith)

pub count-told : (e : Environment) → e.len ≤ 512 → ((e.len - 5) / 7 ≡ nodes_by e) × ((e.len - 5) / 7 ≤ 72)
count-told e h = (sym (ap (λ (b : Bool). pick b 0 ((e.len - 5) / 7)) (le-ltb 512 e.len h)), omega arith)

-- ---- the nodes from the i-th on

module _ (e : Environment) (q role i n : ℕ) {o : List ℕ} {w : ℕ} where
  pub nodes-none : n ≡ 0 → w + 18 * n ≤ length o → NodesWritten e q role i n o o w w
  unfolding nodes_bytes
  nodes-none z l = record {
    near = omega arith;
    tells = λ Γ st k.
        let j : i ≡ length (preorder [] Γ) = omega (arith, k, z, length-preorder Γ []) in
        let d : drop i (preorder [] Γ) ≡ [] = ap (λ (y : ℕ). drop y (preorder [] Γ)) j ∙ drop-length (preorder [] Γ) in
        wrote_as (sym (ap (nodes_bytes q role) d)) (omega (arith, z)) (wrote_none o w (omega (arith, l)));
  }

  pub nodes-past : (y : Option Entry) → (n ≡ 0 → ⊥) → Lists e i y → y ≡ None → NodesWritten e q role i n o o w w
  nodes-past y z h p = record {
    near = omega arith;
    tells = λ Γ st k. absurd (node-there (preorder [] Γ) i (omega (arith, one_less n z, k, length-preorder Γ [])) (sym (h.tells Γ st) ∙ p));
  }

  pub nodes-deep : (y : Option Entry) (x : Entry) → Lists e i y → y ≡ Some x → 6 < x.depth → NodesWritten e q role i n o o w w
  nodes-deep y x h p l = record {
    near = omega arith;
    tells = λ Γ st k.
        let s = shallow-at 6 i (preorder [] Γ) x (shallow-preorder 6 Γ [] (omega (arith, st.shape.shallow))) (sym (h.tells Γ st) ∙ p) in
        absurd (omega (arith, l, s));
  }

  pub nodes-next : {o₁ o₂ : List ℕ} {a r : ℕ} (y : Option Entry) (x : Entry) → (n ≡ 0 → ⊥) → Lists e i y → y ≡ Some x → Wrote o o₁ w a 18 (node_bytes q role x)
      → NodesWritten e q role (i + 1) (n - 1) o₁ o₂ a r → NodesWritten e q role i n o o₂ w r
  unfolding nodes_bytes
  nodes-next {o₁} {o₂} {a} {r} y x z h p v t = record {
    near = omega (arith, one_less n z, v.next, t.near);
    tells = λ Γ st k.
        let P = preorder [] Γ in
        let d = drop-node P i x (sym (h.tells Γ st) ∙ p) in
        let b : node_bytes q role x ++ nodes_bytes q role (drop (i + 1) P) ≡ nodes_bytes q role (drop i P) =
        ap (λ (j : ℕ). node_bytes q role x ++ nodes_bytes q role (drop j P)) (add-one i) ∙ sym (ap (nodes_bytes q role) d) in
        wrote_as b (omega (arith, one_less n z)) (wrote-more v (t.tells Γ st (omega (arith, one_less n z, k))));
  }

-- ---- `put_environment`

pub environment-wrote : {e : Environment} {q role n w r : ℕ} {o o₁ : List ℕ} → n ≡ nodes_by e → NodesWritten e q role 0 n o o₁ w r → EnvironmentWritten e q role o o₁ w r
environment-wrote {e} {q} {role} {n} {w} {r} {o} {o₁} k t = record {
  near = subst (λ (m : ℕ). r ≤ w + 18 * m) k t.near;
  tells = λ Γ st. subst (λ (m : ℕ). Wrote o o₁ w r (18 * m) (nodes_bytes q role (preorder [] Γ))) k (t.tells Γ st (omega (arith, k, nodes-told e Γ st)));
}

-- A loop over the n nodes is at the i-th: it has written up to `at`, and what is written from there on is written from w on.
pub record NodesAt (e : Environment) (q role i n : ℕ) (o o₁ : List ℕ) (w at : ℕ) : Type 0 where
  pub near : at ≤ w + 18 * i
  pub rest : (o₂ : List ℕ) (r : ℕ) → NodesWritten e q role i (n - i) o₁ o₂ at r → NodesWritten e q role 0 n o o₂ w r

pub at-start : (e : Environment) (q role n : ℕ) (o : List ℕ) (w : ℕ) → NodesAt e q role 0 n o o w w
at-start e q role n o w = record {
  near = omega arith;
  rest = λ o₂ r t. let z : n - 0 ≡ n = omega arith in subst (λ (m : ℕ). NodesWritten e q role 0 m o o₂ w r) z t;
}

module _ {e : Environment} {q role i n : ℕ} {o o₁ : List ℕ} {w at : ℕ} (h : NodesAt e q role i n o o₁ w at) where
  pub at-end : n ≤ i → w + 18 * n ≤ length o₁ → i ≤ n → NodesWritten e q role 0 n o o₁ w at
  at-end l k m = h.rest o₁ at (nodes-none e q role i (n - i) (omega (arith, l)) (omega (arith, h.near, l, k, m)))

  pub at-past : (y : Option Entry) → i < n → Lists e i y → y ≡ None → NodesWritten e q role 0 n o o₁ w at
  at-past y l k p = h.rest o₁ at (nodes-past e q role i (n - i) y (λ z. omega (arith, z, l)) k p)

  pub at-deep : (y : Option Entry) (x : Entry) → Lists e i y → y ≡ Some x → 6 < x.depth → NodesWritten e q role 0 n o o₁ w at
  at-deep y x k p d = h.rest o₁ at (nodes-deep e q role i (n - i) y x k p d)

  pub at-next : {o₂ : List ℕ} {b : ℕ} (y : Option Entry) (x : Entry) → i < n → Lists e i y → y ≡ Some x → Wrote o₁ o₂ at b 18 (node_bytes q role x)
      → NodesAt e q role (i + 1) n o o₂ w b
  at-next {o₂} {b} y x l k p v = record {
    near = omega (arith, h.near, v.next);
    rest = λ o₃ r t.
        let z : n - (i + 1) ≡ n - i - 1 = omega (arith, l) in
        h.rest o₃ r (nodes-next e q role i (n - i) y x (λ z. omega (arith, z, l)) k p v (subst (λ (m : ℕ). NodesWritten e q role (i + 1) m o₂ o₃ b r) z t));
  }

pub ruleset count-laws = (count_long, count-short, count-told)
