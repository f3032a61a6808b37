-- How what the parts of a list or of a tree tell makes up what is told of the whole.
use Rattle.std.specs.Prelude.{◌≡◌, List, [], Bool, true, false, length, ◌⊎◌}
use Rattle.std.proofs.Math.Path.{refl, sym, ap}
use Rattle.std.proofs.Common.{◌∙◌, arith, inl, inr}
use Prim.Native.Nat.{ℕ, zero, suc, ◌+◌, ◌*◌, ◌≤◌, max}
use Rattle.type_text.specs.Spelling.{closing}
use Rattle.basics.specs.TestLaws.{apart}
use Rattle.wire.specs.Wire.{u16_at}
use Rattle.type_text.specs.Grammar.{among, Children, no_more}
use Rattle.type_text.specs.Sizes.{nodes_in, levels_in}
use Rattle.type_text.specs.Reader.{items_at, parsed, next_is, after_next, next_place, Side, inline, reference, child_of}
use Rattle.type_text.specs.Reader.{read_side, read_children}
use Rattle.type_reading.specs.Tables.{held, declared_names, known_nodes, known_levels, seen_names}
use Rattle.type_reading.specs.Readings.{Onward, after_colon, ChildTold, SideTold, side_nodes, side_levels, ListTold}
use Rattle.type_reading.specs.Readings.{TreeTold, ListRead, SideRead, ChildBegun, BracesRead, LeafRead, NameRead, closed}
use Rattle.std.specs.Prelude.{None, Ok, Err}

pub onward-here : (s : List ℕ) (at : ℕ) → at ≤ length s → Onward s at at
onward-here s at h = record { forward = omega arith; inside = h; fewer = omega arith }

pub onward-more : {s : List ℕ} {at a b : ℕ} → Onward s at a → Onward s a b → Onward s at b
onward-more x y = record { forward = omega (arith, x.forward, y.forward); inside = y.inside; fewer = omega (arith, x.fewer, y.fewer) }

pub nodes-child : (known : List ℕ → ℕ) (n : List ℕ) (m : Bool) (x : Side) (d : Children)
    → nodes_in known (child_of n m x d) ≡ suc (side_nodes known x) + nodes_in known d
unfolding nodes_in
nodes-child known n m (inline b c) d = refl
nodes-child known n m (reference t) d = refl

pub levels-child : (known : List ℕ → ℕ) (n : List ℕ) (m : Bool) (x : Side) (d : Children)
    → levels_in known (child_of n m x d) ≡ max (suc (side_levels known x)) (levels_in known d)
unfolding levels_in
levels-child known n m (inline b c) d = refl
levels-child known n m (reference t) d = refl

held-sum : (m a b : ℕ) → held m (suc (held m a) + held m b) ≡ held m (suc a + b)
held-sum m a b = omega arith

held-max : (m a b : ℕ) → held m (max (suc (held m a)) (held m b)) ≡ held m (max (suc a) b)
held-max m a b = omega arith

module _ (s : List ℕ) (at : ℕ) (stack stack' : List ℕ) (base k : ℕ) (table : List ℕ) (n : ℕ) where
  pub list-none : at ≤ length s → ChildTold s at stack stack' base k (Ok None) → ListTold s at table n (seen_names s stack base k) (Ok (at, 0, 0))
  unfolding nodes_in levels_in
  list-none h e =
      record { children = no_more; onward = onward-here s at h; many = refl; deep = refl; reads = λ f i. e (declared_names s table n) f }

  pub list-bad : (p : ℕ) → ChildTold s at stack stack' base k (Err p) → ListTold s at table n (seen_names s stack base k) (Err p)
  list-bad p e zero i = absurd (omega (arith, e.0, i))
  list-bad p e (suc f) i = e.1 (declared_names s table n) f

  module _ (a : ℕ) (c : ChildBegun s at stack stack' base k a) where
    pub list-side-bad : (p : ℕ) → TreeTold s a table n n (Err p) → ListTold s at table n (seen_names s stack base k) (Err p)
    unfolding after_colon
    list-side-bad p t zero i = absurd (omega (arith, c.fewer, i))
    list-side-bad p t (suc f) i = c.reads (declared_names s table n) f ∙ rw (t f (omega (arith, c.fewer, i))) refl

    module _ (b nodes levels : ℕ) (t : SideRead s a table n n b nodes levels) where
      pub list-rest-bad : (p : ℕ) → ListTold s b table n (seen_names s stack' base (suc k)) (Err p)
          → ListTold s at table n (seen_names s stack base k) (Err p)
      unfolding after_colon
      list-rest-bad p l zero i = absurd (omega (arith, c.fewer, i))
      list-rest-bad p l (suc f) i =
          c.reads (declared_names s table n) f ∙
          rw (
            t.reads f (omega (arith, c.fewer, i)),
            sym c.pushed,
            l f (omega (arith, c.fewer, t.onward.fewer, i)),
          ) refl

      module _ (q more deeper : ℕ) (l : ListRead s b table n (seen_names s stack' base (suc k)) q more deeper) where
        abbrev whole : Children
        whole = child_of c.name c.mandatory t.side l.children

        many : held 257 (suc nodes + more) ≡ held 257 (nodes_in (known_nodes s table n) whole)
        many =
            rw (
              nodes-child (known_nodes s table n) c.name c.mandatory t.side l.children,
              t.many,
              l.many,
            ) (held-sum 257 (side_nodes (known_nodes s table n) t.side) (nodes_in (known_nodes s table n) l.children))

        deep : held 5 (max (suc levels) deeper) ≡ held 5 (levels_in (known_levels s table n) whole)
        deep =
            rw (
              levels-child (known_levels s table n) c.name c.mandatory t.side l.children,
              t.deep,
              l.deep,
            ) (held-max 5 (side_levels (known_levels s table n) t.side) (levels_in (known_levels s table n) l.children))

        whole-reads : (f : ℕ) → length (items_at s at) ≤ f →
            read_children (length s) (declared_names s table n) f (seen_names s stack base k) (items_at s at) ≡ parsed whole (items_at s q)
        unfolding after_colon
        whole-reads zero i = absurd (omega (arith, c.fewer, i))
        whole-reads (suc f) i =
            c.reads (declared_names s table n) f ∙
            rw (
              t.reads f (omega (arith, c.fewer, i)),
              sym c.pushed,
              l.reads f (omega (arith, c.fewer, t.onward.fewer, i)),
            ) refl

        pub list-next : (x y : ℕ) → x ≡ held 257 (suc nodes + more) → y ≡ held 5 (max (suc levels) deeper)
            → ListTold s at table n (seen_names s stack base k) (Ok (q, x, y))
        list-next x y ex ey = record {
          children = whole;
          onward = onward-more c.onward (onward-more t.onward l.onward);
          many = ex ∙ many;
          deep = ey ∙ deep;
          reads = whole-reads;
        }

module _ (s : List ℕ) (at : ℕ) (table : List ℕ) (allowed n : ℕ) where
  none-declared : (t : List ℕ) → allowed ≡ 0 → among t (declared_names s table allowed) ≡ true → ⊥
  unfolding declared_names among
  none-declared t z d = apart (rw z at d)

  pub side-bad : (p : ℕ) → SideTold s at table allowed (Err p) → TreeTold s at table allowed n (Err p)
  side-bad p e f i = e (read_children (length s) (declared_names s table n) f [])

  pub side-leaf : (q b : ℕ) → LeafRead s at table allowed q b → TreeTold s at table allowed n (Ok (q, 0, 0))
  unfolding nodes_in levels_in
  side-leaf q b l = record {
    side = inline b no_more;
    inlined = λ z. refl;
    onward = l.onward;
    far = l.far;
    many = refl;
    deep = refl;
    reads = λ f i. l.reads (read_children (length s) (declared_names s table n) f []);
  }

  pub side-known : (q i x y : ℕ) → (allowed ≡ n) ⊎ (allowed ≡ 0) → NameRead s at table allowed q i
      → x ≡ held 257 (u16_at table (6 * i + 2)) → y ≡ held 5 (u16_at table (6 * i + 4)) → TreeTold s at table allowed n (Ok (q, x, y))
  unfolding declared_names among
  side-known q i x y (inl e) k ex ey = record {
    side = reference k.type;
    inlined = λ z. absurd (none-declared k.type z k.declared);
    onward = k.onward;
    far = k.far;
    many = ex ∙ ap (held 257) (k.many ∙ rw e refl);
    deep = ey ∙ ap (held 5) (k.deep ∙ rw e refl);
    reads = λ f j. k.reads (read_children (length s) (declared_names s table n) f []);
  }
  side-known q i x y (inr e) k ex ey = absurd (none-declared k.type e k.declared)

  module _ (a basic : ℕ) (b : BracesRead s at table allowed a basic) where
    pub side-list-bad : (p : ℕ) → ListTold s a table n [] (Err p) → TreeTold s at table allowed n (Err p)
    side-list-bad p l f i =
        b.reads (read_children (length s) (declared_names s table n) f []) ∙ rw (l f (omega (arith, b.fewer, i))) refl

    module _ (c nodes levels : ℕ) (l : ListRead s a table n [] c nodes levels) where
      to-closing : (f : ℕ) → length (items_at s at) ≤ f →
          read_side (length s) (declared_names s table allowed) (read_children (length s) (declared_names s table n) f []) (items_at s at) ≡
          closed (length s) basic l.children (items_at s c)
      to-closing f i = b.reads (read_children (length s) (declared_names s table n) f []) ∙ rw (l.reads f (omega (arith, b.fewer, i))) refl

      pub side-open : next_is closing (items_at s c) ≡ false → TreeTold s at table allowed n (Err (next_place (length s) (items_at s c)))
      side-open e f i = to-closing f i ∙ rw e refl

      pub side-closed : (q : ℕ) → Onward s c q → next_is closing (items_at s c) ≡ true → after_next (items_at s c) ≡ items_at s q
          → TreeTold s at table allowed n (Ok (q, nodes, levels))
      side-closed q o e t = record {
        side = inline basic l.children;
        inlined = λ z. refl;
        onward = onward-more b.onward (onward-more l.onward o);
        far = omega (arith, b.far, l.onward.forward, o.forward);
        many = l.many;
        deep = l.deep;
        reads = λ f i. to-closing f i ∙ rw (e, t) refl;
      }
