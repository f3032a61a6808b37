-- Subtyping of rows and trees, at each of the ways out of the code.
use mathlib.Core.Path.{◌≡◌, refl, ap, sym, ◌∙◌}
use mathlib.Core.List.{List}
use mathlib.Core.Bool.{Bool, true, false, not, ◌&&◌}
use Prim.Native.Nat.{ℕ, zero, suc, ◌+◌, ◌-◌, ◌≤◌, ◌<◌}
use native.Mathlib.Omega.{arith}
use lib.Dec.{eqb}
use borrow.Author.Tests.{eq-eqb, ne_eqb}
use Rattle.basics.specs.TestLaws.{and_assoc}
use Rattle.tree_forest.specs.Compare.{Compare, lt, eq, gt, compare}
use Rattle.tree_forest.specs.Forest.{Forest, end, node, Tree, tree, node_of, Above, map_forest, measure}
use Rattle.scalar.specs.Value.{Value, value}
use Rattle.network_syntax.specs.Syntax.{Mark, mark, Types, MessageType}
use Rattle.check_subtyping.specs.Subtype.{is_end, implies, are_subtypes_by, are_subtypes, is_subtype}
use Rattle.network.specs.Form.{WellFormed}
use Rattle.network.specs.Layout.{type_count}
use Rattle.network.specs.Decode.{siblings, type_of}
use Rattle.tree.specs.Encode.{root_count, encode}
use Rattle.tree.specs.Standing.{Good, Row, Root, Ended}
use Rattle.tree.specs.StandingLaws.{row-root, row-kids, row-rest, root-kids, row_moved}
use Rattle.check_types.specs.Image.{types_as, type_as, type_head_at}
use Rattle.check_types.specs.ImageLaws.{TypeSeen, type-seen, type-unseen, root-type-seen, root-type-unseen}
use Rattle.check_types.specs.TypeRows.{row_types, line_of}
use Rattle.check_types.specs.TypeRowsLaws.{RowMet, met, unmet, one-row, no-row}
use Rattle.check_types.specs.Tells.{accepts, RowsUnder, TreesUnder, RowUnder, TreeUnder, FitsRow, BasicUnder}
use Rattle.check_types.specs.declared.TypeHead.{TypeHead}
use Rattle.check_types.specs.declared.Line.{Line}
use Rattle.std.specs.Prelude.{Option, Some, None}
use Rattle.check_types.specs.Image.{type_header}
use Rattle.check_types.specs.TypeRows.{row_line}

-- ---- the test at the first ids of both sides

by_less : {j i : ℕ} (d : Compare j i) → j < i → (x y : Bool) → are_subtypes_by d x y ≡ false
by_less (lt h) l x y = refl
by_less (eq h) l x y = absurd (omega arith)
by_less (gt h) l x y = absurd (omega arith)

by-more : {j i : ℕ} (d : Compare j i) → i < j → (x y : Bool) → are_subtypes_by d x y ≡ y
by-more (lt h) l x y = absurd (omega arith)
by-more (eq h) l x y = absurd (omega arith)
by-more (gt h) l x y = refl

by-same : {j i : ℕ} (d : Compare j i) → i ≤ j → j ≤ i → (x y : Bool) → are_subtypes_by d x y ≡ x
by-same (lt h) l o x y = absurd (omega arith)
by-same (eq h) l o x y = refl
by-same (gt h) l o x y = absurd (omega arith)

skip : (F : Types) (i : ℕ) (n : Bool) (b : ℕ) (k r : Types) → Above i F → are_subtypes F (node i (mark n b) k r) ≡ (not n && are_subtypes F r)
unfolding are_subtypes
skip end i n b k r h = refl
skip (node j (mark m c) l s) i n b k r h =
    by-more (compare j i) h (eqb c b && (implies n m && (are_subtypes l k && are_subtypes s r))) (not n && are_subtypes (node j (mark m c) l s) r)

extra : (i j : ℕ) (m n : Bool) (c b : ℕ) (l s k r : Types) → j < i → are_subtypes (node j (mark m c) l s) (node i (mark n b) k r) ≡ false
unfolding are_subtypes
extra i j m n c b l s k r h =
    by_less (compare j i) h (eqb c b && (implies n m && (are_subtypes l k && are_subtypes s r))) (not n && are_subtypes (node j (mark m c) l s) r)

both : (i j : ℕ) (m n : Bool) (c b : ℕ) (l s k r : Types) → i ≤ j → j ≤ i →
    are_subtypes (node j (mark m c) l s) (node i (mark n b) k r) ≡ (accepts n b m c && (are_subtypes l k && are_subtypes s r))
unfolding are_subtypes
both i j m n c b l s k r h o =
    by-same (compare j i) h o (eqb c b && (implies n m && (are_subtypes l k && are_subtypes s r))) (not n && are_subtypes (node j (mark m c) l s) r)
    ∙ and_assoc (eqb c b) (implies n m) (are_subtypes l k && are_subtypes s r)

-- a test has one result
pub both_ways : {A : Type 0} (v : Bool) → v ≡ false → v ≡ true → A
both_ways true p q = absurd cc
both_ways false p q = absurd cc

and_no : (a x : Bool) → a ≡ false → (a && x) ≡ false
and_no a x e = rw e refl

and_yes : (a x : Bool) → a ≡ true → (a && x) ≡ x
and_yes a x e = rw e refl

end-node : (i : ℕ) (t : Tree Mark) (r : Types) → is_end (node_of i t r) ≡ false
end-node i (tree a k) r = refl

end-rows : (file : List ℕ) (f : ℕ → Tree Mark) (r n : ℕ) → is_end (siblings file f r n) ≡ eqb n 0
unfolding siblings
end-rows file f r zero = refl
end-rows file f r (suc n) = end-node _ (f r) _ ∙ sym (ne_eqb (suc n) 0 (λ e. omega arith))

end_is : (F : Types) → are_subtypes F end ≡ is_end F
unfolding are_subtypes
end_is end = refl
end_is (node i a k r) = refl

-- ---- rows under trees

no_rows : (file : List ℕ) (r n : ℕ) → n ≡ 0 → row_types file r n ≡ end
unfolding siblings
no_rows file r n e = rw e refl

above-none : (i : ℕ) (F : Types) → F ≡ end → Above i F
above-none i F e = rw e tt

above-first : (i j : ℕ) (F : Types) (a : Mark) (k r : Types) → F ≡ node j a k r → i < j → Above i F
above-first i j F a k r e l = rw e l

module _ (file : List ℕ) (r n : ℕ) (s : List ℕ) (at m : ℕ) where
  pub under-end : m ≡ 0 → RowsUnder file r n s at m (eqb n 0)
  unfolding root_count map_forest
  under-end z = record { tells = go }
    where
      go : (v : Forest Value) → WellFormed file → r + n ≤ type_count file → Row s at v → root_count v ≡ m → eqb n 0 ≡ are_subtypes (row_types file r n) (types_as false v)
      go end wf le w e = sym (end_is (row_types file r n) ∙ end-rows file (type_of file) r n)
      go (node i a ks rest) wf le w e = absurd (omega arith)

  module _ (z : m ≡ 0 → ⊥) (h : Option TypeHead) (p : h ≡ type_head_at false s at) where
    pub under-fault : h ≡ None → RowsUnder file r n s at m false
    unfolding root_count
    under-fault q = record { tells = go }
      where
        go : (v : Forest Value) → WellFormed file → r + n ≤ type_count file → Row s at v → root_count v ≡ m → false ≡ are_subtypes (row_types file r n) (types_as false v)
        go end wf le w e = absurd (z (sym e))
        go (node i (value b v) ks rest) wf le w e = type-unseen false s at i b v ks rest w h p q

    module _ (head : TypeHead) (q : h ≡ Some head) where
      -- the child is absent on the left
      missing : not head.mandatory ≡ false → (WellFormed file → r + n ≤ type_count file → Above head.id (row_types file r n)) → RowsUnder file r n s at m false
      unfolding root_count
      missing u a = record { tells = go }
        where
          go : (v : Forest Value) → WellFormed file → r + n ≤ type_count file → Row s at v → root_count v ≡ m → false ≡ are_subtypes (row_types file r n) (types_as false v)
          go end wf le w e = absurd (z (sym e))
          go (node x (value d v) ks rest) wf le w e =
              let o = type-seen false s at x d v ks rest w h head.id head.mandatory head.basic head.count head.start p q in
              sym (ap (are_subtypes (row_types file r n)) o.whole ∙ skip (row_types file r n) head.id head.mandatory head.basic (types_as false ks) (types_as false rest) (a wf le) ∙ and_no (not head.mandatory) _ u)

      optional : not head.mandatory ≡ true → (WellFormed file → r + n ≤ type_count file → Above head.id (row_types file r n)) → (e : ℕ) (x : Bool) → Ended s at e → RowsUnder file r n s e (m - 1) x →
          RowsUnder file r n s at m x
      unfolding root_count
      optional u a e x en ih = record { tells = go }
        where
          go : (v : Forest Value) → WellFormed file → r + n ≤ type_count file → Row s at v → root_count v ≡ m → x ≡ are_subtypes (row_types file r n) (types_as false v)
          go end wf le w c = absurd (z (sym c))
          go (node j (value d v) ks rest) wf le w c =
              let o = type-seen false s at j d v ks rest w h head.id head.mandatory head.basic head.count head.start p q in
              let l = en.ends j (tree (value d v) ks) (row-root s at j d v ks rest w) in
              ih.tells rest wf le (row_moved s e _ rest l (row-rest s at j d v ks rest w)) (omega arith)
              ∙ sym (ap (are_subtypes (row_types file r n)) o.whole ∙ skip (row_types file r n) head.id head.mandatory head.basic (types_as false ks) (types_as false rest) (a wf le) ∙ and_yes (not head.mandatory) _ u)

      pub under-gone-must : n ≡ 0 → not head.mandatory ≡ false → RowsUnder file r n s at m false
      under-gone-must y u = missing u (λ wf le. above-none head.id (row_types file r n) (no_rows file r n y))

      pub under-gone : n ≡ 0 → not head.mandatory ≡ true → (e : ℕ) (x : Bool) → Ended s at e → RowsUnder file r n s e (m - 1) x → RowsUnder file r n s at m x
      under-gone y u = optional u (λ wf le. above-none head.id (row_types file r n) (no_rows file r n y))

      module _ (y : n ≡ 0 → ⊥) (g : Option Line) (lp : g ≡ line_of file r) where
        pub under-broken : g ≡ None → RowsUnder file r n s at m false
        under-broken lq = record { tells = λ v wf le w e. unmet file r n wf le y g lp lq }

        module _ (line : Line) (lq : g ≡ Some line) where
          begins : WellFormed file → r + n ≤ type_count file → RowMet file r n line.id line.mandatory line.basic line.first line.count line.next
          begins wf le = met file r n wf le y g line.id line.mandatory line.basic line.first line.count line.next lp lq

          pub under-skip-must : head.id < line.id → not head.mandatory ≡ false → RowsUnder file r n s at m false
          under-skip-must o u = missing u (λ wf le. above-first head.id line.id (row_types file r n) _ _ _ (begins wf le).whole o)

          pub under-skip : head.id < line.id → not head.mandatory ≡ true → (e : ℕ) (x : Bool) → Ended s at e → RowsUnder file r n s e (m - 1) x → RowsUnder file r n s at m x
          under-skip o u = optional u (λ wf le. above-first head.id line.id (row_types file r n) _ _ _ (begins wf le).whole o)

          -- both sides begin with a node
          faced : (wf : WellFormed file) (le : r + n ≤ type_count file) (x d : ℕ) (v : List ℕ) (ks rest : Forest Value) → Row s at (node x (value d v) ks rest) →
              are_subtypes (row_types file r n) (types_as false (node x (value d v) ks rest))
              ≡ are_subtypes (node line.id (mark line.mandatory line.basic) (row_types file line.first line.count) (row_types file line.next (n - 1))) (node head.id (mark head.mandatory head.basic) (types_as false ks) (types_as false rest))
          faced wf le x d v ks rest w =
              let o = type-seen false s at x d v ks rest w h head.id head.mandatory head.basic head.count head.start p q in
              ap (λ (f : Types). are_subtypes f (types_as false (node x (value d v) ks rest))) (begins wf le).whole
              ∙ ap (are_subtypes (node line.id (mark line.mandatory line.basic) (row_types file line.first line.count) (row_types file line.next (n - 1)))) o.whole

          pub under-extra : line.id ≤ head.id → (head.id ≡ line.id → ⊥) → RowsUnder file r n s at m false
          unfolding root_count
          under-extra l f = record { tells = go }
            where
              go : (v : Forest Value) → WellFormed file → r + n ≤ type_count file → Row s at v → root_count v ≡ m → false ≡ are_subtypes (row_types file r n) (types_as false v)
              go end wf le w e = absurd (z (sym e))
              go (node x (value d v) ks rest) wf le w e =
                  sym (faced wf le x d v ks rest w ∙ extra head.id line.id line.mandatory head.mandatory line.basic head.basic (row_types file line.first line.count) (row_types file line.next (n - 1)) (types_as false ks) (types_as false rest) (omega arith))

          -- the same id on both sides
          same : head.id ≡ line.id → (wf : WellFormed file) (le : r + n ≤ type_count file) (x d : ℕ) (v : List ℕ) (ks rest : Forest Value) → Row s at (node x (value d v) ks rest) →
              are_subtypes (row_types file r n) (types_as false (node x (value d v) ks rest))
              ≡ (accepts head.mandatory head.basic line.mandatory line.basic && (are_subtypes (row_types file line.first line.count) (types_as false ks) && are_subtypes (row_types file line.next (n - 1)) (types_as false rest)))
          same o wf le x d v ks rest w =
              faced wf le x d v ks rest w ∙ both head.id line.id line.mandatory head.mandatory line.basic head.basic (row_types file line.first line.count) (row_types file line.next (n - 1)) (types_as false ks) (types_as false rest) (omega arith) (omega arith)

          pub under-clash : head.id ≡ line.id → (a : Bool) → a ≡ accepts head.mandatory head.basic line.mandatory line.basic → a ≡ false → RowsUnder file r n s at m false
          unfolding root_count
          under-clash o a ag na = record { tells = go }
            where
              go : (v : Forest Value) → WellFormed file → r + n ≤ type_count file → Row s at v → root_count v ≡ m → false ≡ are_subtypes (row_types file r n) (types_as false v)
              go end wf le w e = absurd (z (sym e))
              go (node x (value d v) ks rest) wf le w e = sym (same o wf le x d v ks rest w ∙ and_no (accepts head.mandatory head.basic line.mandatory line.basic) _ (sym ag ∙ na))

          module _ (o : head.id ≡ line.id) (a : Bool) (ag : a ≡ accepts head.mandatory head.basic line.mandatory line.basic) (na : a ≡ true) (x : Bool) (below : RowsUnder file line.first line.count s head.start head.count x) where
            kids-told : (wf : WellFormed file) (le : r + n ≤ type_count file) (x' d : ℕ) (v : List ℕ) (ks rest : Forest Value) → Row s at (node x' (value d v) ks rest) →
                x ≡ are_subtypes (row_types file line.first line.count) (types_as false ks)
            kids-told wf le x' d v ks rest w =
                let u = type-seen false s at x' d v ks rest w h head.id head.mandatory head.basic head.count head.start p q in
                below.tells ks wf (begins wf le).below (row_moved s head.start _ ks u.next (row-kids s at x' d v ks rest w)) (sym u.kids)

            accepted : accepts head.mandatory head.basic line.mandatory line.basic ≡ true
            accepted = sym ag ∙ na

            pub under-below : x ≡ false → RowsUnder file r n s at m false
            unfolding root_count
            under-below nx = record { tells = go }
              where
                go : (v : Forest Value) → WellFormed file → r + n ≤ type_count file → Row s at v → root_count v ≡ m → false ≡ are_subtypes (row_types file r n) (types_as false v)
                go end wf le w e = absurd (z (sym e))
                go (node x' (value d v) ks rest) wf le w e =
                    sym (same o wf le x' d v ks rest w ∙ and_yes (accepts head.mandatory head.basic line.mandatory line.basic) _ accepted
                    ∙ and_no (are_subtypes (row_types file line.first line.count) (types_as false ks)) _ (sym (kids-told wf le x' d v ks rest w) ∙ nx))

            pub under_rest : x ≡ true → (e : ℕ) (y' : Bool) → Ended s at e → RowsUnder file line.next (n - 1) s e (m - 1) y' → RowsUnder file r n s at m y'
            unfolding root_count
            under_rest nx e y' en ih = record { tells = go }
              where
                go : (v : Forest Value) → WellFormed file → r + n ≤ type_count file → Row s at v → root_count v ≡ m → y' ≡ are_subtypes (row_types file r n) (types_as false v)
                go end wf le w ce = absurd (z (sym ce))
                go (node x' (value d v) ks rest) wf le w ce =
                    let en' = en.ends x' (tree (value d v) ks) (row-root s at x' d v ks rest w) in
                    ih.tells rest wf (begins wf le).others (row_moved s e _ rest en' (row-rest s at x' d v ks rest w)) (omega arith)
                    ∙ sym (same o wf le x' d v ks rest w ∙ and_yes (accepts head.mandatory head.basic line.mandatory line.basic) _ accepted
                    ∙ and_yes (are_subtypes (row_types file line.first line.count) (types_as false ks)) _ (sym (kids-told wf le x' d v ks rest w) ∙ nx))

pub ruleset under-laws = (under-end, under-fault, under-gone-must, under-gone, under-broken, under-skip-must, under-skip, under-extra, under-clash, under-below, under_rest)

-- ---- trees under rows

none-as : (own : Bool) (v : Forest Value) (m : ℕ) → root_count v ≡ m → is_end (types_as own v) ≡ eqb m 0
unfolding root_count map_forest
none-as own end m e = sym (eq-eqb m 0 (sym e))
none-as own (node i a ks rest) m e = sym (ne_eqb m 0 (λ q. omega arith))

module _ (own : Bool) (s : List ℕ) (at m : ℕ) (file : List ℕ) (r n : ℕ) where
  pub over-end : n ≡ 0 → TreesUnder own s at m file r n (eqb m 0)
  over-end z = record {
    tells = λ v wf le w e. sym (ap (are_subtypes (types_as own v)) (no_rows file r n z) ∙ end_is (types_as own v) ∙ none-as own v m e);
  }

  module _ (z : n ≡ 0 → ⊥) (g : Option Line) (lp : g ≡ line_of file r) where
    pub over-broken : g ≡ None → TreesUnder own s at m file r n false
    over-broken lq = record { tells = λ v wf le w e. unmet file r n wf le z g lp lq }

    module _ (line : Line) (lq : g ≡ Some line) where
      starts : WellFormed file → r + n ≤ type_count file → RowMet file r n line.id line.mandatory line.basic line.first line.count line.next
      starts wf le = met file r n wf le z g line.id line.mandatory line.basic line.first line.count line.next lp lq

      lacks : not line.mandatory ≡ false → ((v : Forest Value) → Row s at v → root_count v ≡ m → Above line.id (types_as own v)) → TreesUnder own s at m file r n false
      lacks u a = record {
        tells = λ v wf le w e.
            sym (ap (are_subtypes (types_as own v)) (starts wf le).whole ∙ skip (types_as own v) line.id line.mandatory line.basic (row_types file line.first line.count) (row_types file line.next (n - 1)) (a v w e) ∙ and_no (not line.mandatory) _ u);
      }

      passes : not line.mandatory ≡ true → ((v : Forest Value) → Row s at v → root_count v ≡ m → Above line.id (types_as own v)) → (x : Bool) → TreesUnder own s at m file line.next (n - 1) x →
          TreesUnder own s at m file r n x
      passes u a x ih = record {
        tells = λ v wf le w e.
            ih.tells v wf (starts wf le).others w e
            ∙ sym (ap (are_subtypes (types_as own v)) (starts wf le).whole ∙ skip (types_as own v) line.id line.mandatory line.basic (row_types file line.first line.count) (row_types file line.next (n - 1)) (a v w e) ∙ and_yes (not line.mandatory) _ u);
      }

      gone : m ≡ 0 → (v : Forest Value) → Row s at v → root_count v ≡ m → Above line.id (types_as own v)
      unfolding root_count map_forest
      gone y end w e = tt
      gone y (node x a ks rest) w e = absurd (omega arith)

      pub over-gone-must : m ≡ 0 → not line.mandatory ≡ false → TreesUnder own s at m file r n false
      over-gone-must y u = lacks u (gone y)

      pub over-gone : m ≡ 0 → not line.mandatory ≡ true → (x : Bool) → TreesUnder own s at m file line.next (n - 1) x → TreesUnder own s at m file r n x
      over-gone y u = passes u (gone y)

      module _ (y : m ≡ 0 → ⊥) (h : Option TypeHead) (p : h ≡ type_head_at own s at) where
        pub over-fault : h ≡ None → TreesUnder own s at m file r n false
        unfolding root_count
        over-fault q = record { tells = go }
          where
            go : (v : Forest Value) → WellFormed file → r + n ≤ type_count file → Row s at v → root_count v ≡ m → false ≡ are_subtypes (types_as own v) (row_types file r n)
            go end wf le w e = absurd (y (sym e))
            go (node x (value d v) ks rest) wf le w e = type-unseen own s at x d v ks rest w h p q

        module _ (head : TypeHead) (q : h ≡ Some head) where
          ahead_of : line.id < head.id → (v : Forest Value) → Row s at v → root_count v ≡ m → Above line.id (types_as own v)
          unfolding root_count
          ahead_of o end w e = absurd (y (sym e))
          ahead_of o (node x (value d v) ks rest) w e =
              above-first line.id head.id (types_as own (node x (value d v) ks rest)) _ _ _ (type-seen own s at x d v ks rest w h head.id head.mandatory head.basic head.count head.start p q).whole o

          pub over-skip-must : line.id < head.id → not line.mandatory ≡ false → TreesUnder own s at m file r n false
          over-skip-must o u = lacks u (ahead_of o)

          pub over_skip : line.id < head.id → not line.mandatory ≡ true → (x : Bool) → TreesUnder own s at m file line.next (n - 1) x → TreesUnder own s at m file r n x
          over_skip o u = passes u (ahead_of o)

          -- both sides begin with a node
          opposed : (wf : WellFormed file) (le : r + n ≤ type_count file) (x d : ℕ) (v : List ℕ) (ks rest : Forest Value) → Row s at (node x (value d v) ks rest) →
              are_subtypes (types_as own (node x (value d v) ks rest)) (row_types file r n)
              ≡ are_subtypes (node head.id (mark head.mandatory head.basic) (types_as own ks) (types_as own rest)) (node line.id (mark line.mandatory line.basic) (row_types file line.first line.count) (row_types file line.next (n - 1)))
          opposed wf le x d v ks rest w =
              let o = type-seen own s at x d v ks rest w h head.id head.mandatory head.basic head.count head.start p q in
              ap (are_subtypes (types_as own (node x (value d v) ks rest))) (starts wf le).whole
              ∙ ap (λ (f : Types). are_subtypes f (node line.id (mark line.mandatory line.basic) (row_types file line.first line.count) (row_types file line.next (n - 1)))) o.whole

          pub over-extra : head.id ≤ line.id → (line.id ≡ head.id → ⊥) → TreesUnder own s at m file r n false
          unfolding root_count
          over-extra l f = record { tells = go }
            where
              go : (v : Forest Value) → WellFormed file → r + n ≤ type_count file → Row s at v → root_count v ≡ m → false ≡ are_subtypes (types_as own v) (row_types file r n)
              go end wf le w e = absurd (y (sym e))
              go (node x (value d v) ks rest) wf le w e =
                  sym (opposed wf le x d v ks rest w ∙ extra line.id head.id head.mandatory line.mandatory head.basic line.basic (types_as own ks) (types_as own rest) (row_types file line.first line.count) (row_types file line.next (n - 1)) (omega arith))

          -- the same id on both sides
          alike : line.id ≡ head.id → (wf : WellFormed file) (le : r + n ≤ type_count file) (x d : ℕ) (v : List ℕ) (ks rest : Forest Value) → Row s at (node x (value d v) ks rest) →
              are_subtypes (types_as own (node x (value d v) ks rest)) (row_types file r n)
              ≡ (accepts line.mandatory line.basic head.mandatory head.basic && (are_subtypes (types_as own ks) (row_types file line.first line.count) && are_subtypes (types_as own rest) (row_types file line.next (n - 1))))
          alike o wf le x d v ks rest w =
              opposed wf le x d v ks rest w ∙ both line.id head.id head.mandatory line.mandatory head.basic line.basic (types_as own ks) (types_as own rest) (row_types file line.first line.count) (row_types file line.next (n - 1)) (omega arith) (omega arith)

          pub over-clash : line.id ≡ head.id → (a : Bool) → a ≡ accepts line.mandatory line.basic head.mandatory head.basic → a ≡ false → TreesUnder own s at m file r n false
          unfolding root_count
          over-clash o a ag na = record { tells = go }
            where
              go : (v : Forest Value) → WellFormed file → r + n ≤ type_count file → Row s at v → root_count v ≡ m → false ≡ are_subtypes (types_as own v) (row_types file r n)
              go end wf le w e = absurd (y (sym e))
              go (node x (value d v) ks rest) wf le w e = sym (alike o wf le x d v ks rest w ∙ and_no (accepts line.mandatory line.basic head.mandatory head.basic) _ (sym ag ∙ na))

          module _ (o : line.id ≡ head.id) (a : Bool) (ag : a ≡ accepts line.mandatory line.basic head.mandatory head.basic) (na : a ≡ true) (x : Bool) (below : TreesUnder own s head.start head.count file line.first line.count x) where
            below-told : (wf : WellFormed file) (le : r + n ≤ type_count file) (x' d : ℕ) (v : List ℕ) (ks rest : Forest Value) → Row s at (node x' (value d v) ks rest) →
                x ≡ are_subtypes (types_as own ks) (row_types file line.first line.count)
            below-told wf le x' d v ks rest w =
                let u = type-seen own s at x' d v ks rest w h head.id head.mandatory head.basic head.count head.start p q in
                below.tells ks wf (starts wf le).below (row_moved s head.start _ ks u.next (row-kids s at x' d v ks rest w)) (sym u.kids)

            agreed : accepts line.mandatory line.basic head.mandatory head.basic ≡ true
            agreed = sym ag ∙ na

            pub over_below : x ≡ false → TreesUnder own s at m file r n false
            unfolding root_count
            over_below nx = record { tells = go }
              where
                go : (v : Forest Value) → WellFormed file → r + n ≤ type_count file → Row s at v → root_count v ≡ m → false ≡ are_subtypes (types_as own v) (row_types file r n)
                go end wf le w e = absurd (y (sym e))
                go (node x' (value d v) ks rest) wf le w e =
                    sym (alike o wf le x' d v ks rest w ∙ and_yes (accepts line.mandatory line.basic head.mandatory head.basic) _ agreed
                    ∙ and_no (are_subtypes (types_as own ks) (row_types file line.first line.count)) _ (sym (below-told wf le x' d v ks rest w) ∙ nx))

            pub over-rest : x ≡ true → (e : ℕ) (y' : Bool) → Ended s at e → TreesUnder own s e (m - 1) file line.next (n - 1) y' → TreesUnder own s at m file r n y'
            unfolding root_count
            over-rest nx e y' en ih = record { tells = go }
              where
                go : (v : Forest Value) → WellFormed file → r + n ≤ type_count file → Row s at v → root_count v ≡ m → y' ≡ are_subtypes (types_as own v) (row_types file r n)
                go end wf le w ce = absurd (y (sym ce))
                go (node x' (value d v) ks rest) wf le w ce =
                    let en' = en.ends x' (tree (value d v) ks) (row-root s at x' d v ks rest w) in
                    ih.tells rest wf (starts wf le).others (row_moved s e _ rest en' (row-rest s at x' d v ks rest w)) (omega arith)
                    ∙ sym (alike o wf le x' d v ks rest w ∙ and_yes (accepts line.mandatory line.basic head.mandatory head.basic) _ agreed
                    ∙ and_yes (are_subtypes (types_as own ks) (row_types file line.first line.count)) _ (sym (below-told wf le x' d v ks rest w) ∙ nx))

pub ruleset over-laws = (over-end, over-broken, over-gone-must, over-gone, over-fault, over-skip-must, over_skip, over-extra, over-clash, over_below, over-rest)

-- ---- one type under another

subtype-as : (t u : MessageType) (m n : Bool) (b c : ℕ) (k l : Types) → t ≡ tree (mark m b) k → u ≡ tree (mark n c) l → is_subtype t u ≡ (eqb b c && are_subtypes k l)
subtype-as t u m n b c k l p q = rw (p, q) refl

type-as : (own : Bool) (x i : ℕ) (a : Value) (n : Bool) (b k mid at : ℕ) (ks rest : Forest Value) → TypeSeen own at x a ks rest i n b k mid → type_as own (tree a ks) ≡ tree (mark n b) (types_as own ks)
type-as own x i a n b k mid at ks rest w = ap (λ (z : Mark). tree z (types_as own ks)) (sym w.type)

module _ (file : List ℕ) (r : ℕ) (s : List ℕ) (at : ℕ) (g : Option Line) (lp : g ≡ line_of file r) where
  pub row-outside : g ≡ None → RowUnder file r s at false
  row-outside lq = record { tells = λ i t wf le w. no-row file r wf le g lp lq }

  module _ (line : Line) (lq : g ≡ Some line) (h : Option TypeHead) (p : h ≡ type_head_at false s at) where
    pub row-fault : h ≡ None → RowUnder file r s at false
    row-fault q = record { tells = go }
      where
        go : (x : ℕ) (t : Tree Value) → WellFormed file → r < type_count file → Root s at x t → false ≡ is_subtype (type_of file r) (type_as false t)
        go i (tree (value d v) ks) wf le w = root-type-unseen false s at i d v ks w h p q

    module _ (head : TypeHead) (q : h ≡ Some head) where
      row_as : (x d : ℕ) (v : List ℕ) (ks : Forest Value) → WellFormed file → r < type_count file → Root s at x (tree (value d v) ks) →
          is_subtype (type_of file r) (type_as false (tree (value d v) ks)) ≡ (eqb line.basic head.basic && are_subtypes (row_types file line.first line.count) (types_as false ks))
      row_as x d v ks wf le w =
          let o = one-row file r wf le g line.id line.mandatory line.basic line.first line.count line.next lp lq in
          let u = root-type-seen false s at x d v ks w h head.id head.mandatory head.basic head.count head.start p q in
          subtype-as (type_of file r) (type_as false (tree (value d v) ks)) o.cardinal head.mandatory line.basic head.basic (row_types file line.first line.count) (types_as false ks) o.type
          (type-as false x head.id (value d v) head.mandatory head.basic head.count head.start at ks end u)

      pub row-clash : (line.basic ≡ head.basic → ⊥) → RowUnder file r s at false
      row-clash o = record { tells = go }
        where
          go : (x : ℕ) (t : Tree Value) → WellFormed file → r < type_count file → Root s at x t → false ≡ is_subtype (type_of file r) (type_as false t)
          go x (tree (value d v) ks) wf le w = sym (row_as x d v ks wf le w ∙ and_no (eqb line.basic head.basic) _ (ne_eqb line.basic head.basic o))

      pub row_below : line.basic ≡ head.basic → (x : Bool) → RowsUnder file line.first line.count s head.start head.count x → RowUnder file r s at x
      row_below o x ih = record { tells = go }
        where
          go : (i : ℕ) (t : Tree Value) → WellFormed file → r < type_count file → Root s at i t → x ≡ is_subtype (type_of file r) (type_as false t)
          go y (tree (value d v) ks) wf le w =
              let u = root-type-seen false s at y d v ks w h head.id head.mandatory head.basic head.count head.start p q in
              let a = one-row file r wf le g line.id line.mandatory line.basic line.first line.count line.next lp lq in
              ih.tells ks wf a.below (row_moved s head.start _ ks u.next (root-kids s at y d v ks w)) (sym u.kids)
              ∙ sym (row_as y d v ks wf le w ∙ and_yes (eqb line.basic head.basic) _ (eq-eqb line.basic head.basic o))

pub ruleset row_laws = (row-outside, row-fault, row-clash, row_below)

module _ (own : Bool) (s : List ℕ) (at : ℕ) (file : List ℕ) (r : ℕ) (g : Option Line) (lp : g ≡ line_of file r) where
  pub tree-outside : g ≡ None → TreeUnder own s at file r false
  tree-outside lq = record { tells = λ i t wf le w. no-row file r wf le g lp lq }

  module _ (line : Line) (lq : g ≡ Some line) (h : Option TypeHead) (p : h ≡ type_head_at own s at) where
    pub tree-fault : h ≡ None → TreeUnder own s at file r false
    tree-fault q = record { tells = go }
      where
        go : (x : ℕ) (t : Tree Value) → WellFormed file → r < type_count file → Root s at x t → false ≡ is_subtype (type_as own t) (type_of file r)
        go i (tree (value d v) ks) wf le w = root-type-unseen own s at i d v ks w h p q

    module _ (head : TypeHead) (q : h ≡ Some head) where
      tree-as : (x d : ℕ) (v : List ℕ) (ks : Forest Value) → WellFormed file → r < type_count file → Root s at x (tree (value d v) ks) →
          is_subtype (type_as own (tree (value d v) ks)) (type_of file r) ≡ (eqb head.basic line.basic && are_subtypes (types_as own ks) (row_types file line.first line.count))
      tree-as x d v ks wf le w =
          let o = one-row file r wf le g line.id line.mandatory line.basic line.first line.count line.next lp lq in
          let u = root-type-seen own s at x d v ks w h head.id head.mandatory head.basic head.count head.start p q in
          subtype-as (type_as own (tree (value d v) ks)) (type_of file r) head.mandatory o.cardinal head.basic line.basic (types_as own ks) (row_types file line.first line.count)
          (type-as own x head.id (value d v) head.mandatory head.basic head.count head.start at ks end u) o.type

      pub tree-clash : (head.basic ≡ line.basic → ⊥) → TreeUnder own s at file r false
      tree-clash o = record { tells = go }
        where
          go : (x : ℕ) (t : Tree Value) → WellFormed file → r < type_count file → Root s at x t → false ≡ is_subtype (type_as own t) (type_of file r)
          go x (tree (value d v) ks) wf le w = sym (tree-as x d v ks wf le w ∙ and_no (eqb head.basic line.basic) _ (ne_eqb head.basic line.basic o))

      pub tree-below : head.basic ≡ line.basic → (x : Bool) → TreesUnder own s head.start head.count file line.first line.count x → TreeUnder own s at file r x
      tree-below o x ih = record { tells = go }
        where
          go : (i : ℕ) (t : Tree Value) → WellFormed file → r < type_count file → Root s at i t → x ≡ is_subtype (type_as own t) (type_of file r)
          go y (tree (value d v) ks) wf le w =
              let u = root-type-seen own s at y d v ks w h head.id head.mandatory head.basic head.count head.start p q in
              let a = one-row file r wf le g line.id line.mandatory line.basic line.first line.count line.next lp lq in
              ih.tells ks wf a.below (row_moved s head.start _ ks u.next (root-kids s at y d v ks w)) (sym u.kids)
              ∙ sym (tree-as y d v ks wf le w ∙ and_yes (eqb head.basic line.basic) _ (eq-eqb head.basic line.basic o))

pub ruleset tree_laws = (tree-outside, tree-fault, tree-clash, tree-below)

pub fits-row : (s file : List ℕ) (r : ℕ) (x : Bool) → TreeUnder true s 0 file r x → FitsRow s file r x
fits-row s file r x h = record { tells = λ i t wf le w. h.tells i t wf le w }

-- ---- a basic type alone

end_row : (s : List ℕ) (at : ℕ) → Row s at end
unfolding Good measure encode
end_row s at = record { after = _; last = 0; bytes = refl; good = tt; small = omega arith }

module _ (file : List ℕ) (b r : ℕ) (g : Option Line) (lp : g ≡ line_of file r) where
  pub basic-outside : g ≡ None → BasicUnder file b r false
  basic-outside lq = record { tells = λ wf le. no-row file r wf le g lp lq }

  module _ (line : Line) (lq : g ≡ Some line) where
    basic-as : (wf : WellFormed file) (le : r < type_count file) → is_subtype (tree (mark true b) end) (type_of file r) ≡ (eqb b line.basic && are_subtypes end (row_types file line.first line.count))
    basic-as wf le =
        let o = one-row file r wf le g line.id line.mandatory line.basic line.first line.count line.next lp lq in
        subtype-as (tree (mark true b) end) (type_of file r) true o.cardinal b line.basic end (row_types file line.first line.count) refl o.type

    pub basic-clash : (b ≡ line.basic → ⊥) → BasicUnder file b r false
    basic-clash o = record { tells = λ wf le. sym (basic-as wf le ∙ and_no (eqb b line.basic) _ (ne_eqb b line.basic o)) }

    pub basic-below : b ≡ line.basic → (s : List ℕ) (at : ℕ) (x : Bool) → TreesUnder true s at 0 file line.first line.count x → BasicUnder file b r x
    unfolding root_count map_forest
    basic-below o s at x ih = record {
      tells = λ wf le.
          ih.tells end wf (one-row file r wf le g line.id line.mandatory line.basic line.first line.count line.next lp lq).below (end_row s at) refl ∙ sym (basic-as wf le ∙ and_yes (eqb b line.basic) _ (eq-eqb b line.basic o));
    }

pub ruleset basic-laws = (basic-outside, basic-clash, basic-below)
