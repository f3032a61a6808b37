-- Reading a node as a type and a T row, at each of the ways out of the code.
use mathlib.Core.Path.{◌≡◌, refl, sym, subst, ◌∙◌}
use mathlib.Core.List.{List}
use mathlib.Core.Bool.{Bool, true, false}
use Prim.Native.Nat.{ℕ, ◌+◌, ◌≤◌, ◌<◌}
use lib.ListN.{get_or}
use lib.Dec.{eqb, ltb}
use borrow.Author.Tests.{eq-eqb, ne_eqb, lt-ltb, le-ltb}
use Rattle.tree.specs.Decode.{value_at, head_at}
use Rattle.tree.specs.EncodeLaws.{got, fault}
use Rattle.tree.specs.declared.Head.{Head}
use Rattle.network.specs.Layout.{type_count}
use Rattle.network.specs.Rows.{type_id, cardinality, type_basic, first_child, child_count}
use Rattle.check_types.specs.Image.{type_head_at}
use Rattle.check_types.specs.TypeRows.{line_of}
use Rattle.check_types.specs.Tells.{accepts}
use Rattle.check_types.specs.declared.TypeHead.{TypeHead}
use Rattle.std.specs.Prelude.{Option, Some, None}
use Rattle.tree.specs.Decode.{header}
use Rattle.check_types.specs.Image.{type_header}
use Rattle.check_types.specs.TypeRows.{row_line}

module _ (own : Bool) (s : List ℕ) (at : ℕ) (h : Option Head) (p : h ≡ head_at s at) where
  pub head-fault : h ≡ None → None ≡ type_head_at own s at
  unfolding type_head_at
  head-fault q = rw (fault s at p q) refl

  module _ (top : Head) (q : h ≡ Some top) where
    pub head-own : own ≡ true → Some (type_header top.id true top.basic top.count top.start) ≡ type_head_at own s at
    unfolding type_head_at
    head-own o = let g = got p q in rw (g.ok, o, g.id, g.basic, g.count, g.next) refl

    pub head-mark : own ≡ false → (x y : ℕ) → x ≡ get_or (value_at s at) 0 0 → y ≡ get_or (value_at s at) 1 0 → Some (type_header top.id (eqb x 1) y top.count top.start) ≡ type_head_at own s at
    unfolding type_head_at
    head-mark o x y e f = let g = got p q in rw (g.ok, o, g.id, g.count, g.next, e, f) refl

pub ruleset head-laws = (head-fault, head-own, head-mark)

module _ (file : List ℕ) (r many : ℕ) (t : many ≡ type_count file) where
  pub line-past : many ≤ r → None ≡ line_of file r
  unfolding line_of
  line-past l = rw (le-ltb r (type_count file) (subst (λ (z : ℕ). z ≤ r) t l)) refl

  module _ (l : r < many) (i k b f n : ℕ) (a1 : i ≡ type_id file r) (a2 : k ≡ cardinality file r) (a3 : b ≡ type_basic file r)
      (a4 : f ≡ first_child file r) (a5 : n ≡ child_count file r) where
    there : ltb r (type_count file) ≡ true
    there = lt-ltb r (type_count file) (subst (λ (z : ℕ). r < z) t l)

    pub line-leaf : n ≡ 0 → Some (row_line i (eqb k 1) b (r + 1) n (r + 1)) ≡ line_of file r
    unfolding line_of
    line-leaf z = rw (there, eq-eqb (child_count file r) 0 (sym a5 ∙ z), z, a1, a2, a3) refl

    pub line-back : (n ≡ 0 → ⊥) → f ≤ r → None ≡ line_of file r
    unfolding line_of
    line-back z o = rw (there, ne_eqb (child_count file r) 0 (λ q. z (a5 ∙ q)), le-ltb r (first_child file r) (subst (λ (x : ℕ). x ≤ r) a4 o)) refl

    pub line_on : (n ≡ 0 → ⊥) → r < f → Some (row_line i (eqb k 1) b f n (r + 1)) ≡ line_of file r
    unfolding line_of
    line_on z o =
        rw (there, ne_eqb (child_count file r) 0 (λ q. z (a5 ∙ q)), lt-ltb r (first_child file r) (subst (λ (x : ℕ). r < x) a4 o), a1, a2, a3, a4, a5) refl

pub ruleset line-laws = (line-past, line-leaf, line-back, line_on)
