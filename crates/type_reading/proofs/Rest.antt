-- Declarations one after another: a type noted in the table, and the rest of the text.
use mathlib.Core.Path.{◌≡◌, refl, sym, ◌∙◌, ap, subst}
use mathlib.Core.List.{List, [], ◌∷◌}
use mathlib.Core.Bool.{true, false}
use Prim.Native.Nat.{ℕ, zero, suc, ◌+◌, ◌*◌, ◌≤◌}
use native.Mathlib.Omega.{arith}
use native.Mathlib.Numerals.{add-one}
use lib.ListN.{length, take}
use mathlib.Core.Logic.{inl}
use Rattle.basics.specs.TestLaws.{apart}
use Rattle.wire.specs.Wire.{u16_at, put_u16}
use Rattle.wire.specs.WireLaws.{same-16, other-16, agree-16, length-16}
use Rattle.type_text.specs.Grammar.{same_word, among, Children, no_more, written, named}
use Rattle.type_text.specs.Sizes.{nodes_in, levels_in}
use Rattle.type_text.specs.Reader.{items_at, parsed, offends, read_declarations, read_type_tree, read_children, is_new_type, Side, inline, reference, declaration_of}
use Rattle.type_reading.specs.Tables.{word_from, held, declared_names, known_nodes, known_levels, Noted, NoneEmpty, noted}
use Rattle.type_reading.specs.Readings.{is_inline, side_nodes, side_levels, StartTold, NameGiven, TreeTold, SideRead, RestRead, RestTold}
use Rattle.type_reading.specs.TableLaws.{u16-kept, names-kept, known_kept, first-kept}
use Rattle.type_reading.proofs.Lists.{take_less}
use Rattle.std.specs.Prelude.{Result, Ok, Err}

-- ---- an entry of the table

module _ (table : List ℕ) (n p nodes levels : ℕ) where
  pub noted-long : length (noted table n p nodes levels) ≡ length table
  noted-long = length-16 _ (6 * n + 4) levels ∙ (length-16 _ (6 * n + 2) nodes ∙ length-16 table (6 * n) p)

  pub noted-first : take (6 * n) (noted table n p nodes levels) ≡ take (6 * n) table
  noted-first =
      first-kept _ (6 * n) (6 * n + 4) levels (omega arith)
      ∙ (first-kept _ (6 * n) (6 * n + 2) nodes (omega arith) ∙ first-kept table (6 * n) (6 * n) p (omega arith))

  module _ (h : 6 * n + 6 ≤ length table) where
    pub noted-place : u16_at (noted table n p nodes levels) (6 * n) ≡ p
    noted-place =
        agree-16 (other-16 (put_u16 (put_u16 table (6 * n) p) (6 * n + 2) nodes) (6 * n + 4) levels (6 * n) 2 (inl (omega arith)))
        ∙ (agree-16 (other-16 (put_u16 table (6 * n) p) (6 * n + 2) nodes (6 * n) 2 (inl (omega arith)))
        ∙ same-16 table (6 * n) p (omega arith))

    pub noted-nodes : u16_at (noted table n p nodes levels) (6 * n + 2) ≡ nodes
    noted-nodes =
        let l = length-16 table (6 * n) p in
        agree-16 (other-16 (put_u16 (put_u16 table (6 * n) p) (6 * n + 2) nodes) (6 * n + 4) levels (6 * n + 2) 2 (inl (omega arith)))
        ∙ same-16 (put_u16 table (6 * n) p) (6 * n + 2) nodes (omega arith)

    pub noted-levels : u16_at (noted table n p nodes levels) (6 * n + 4) ≡ levels
    noted-levels =
        let l = length-16 (put_u16 table (6 * n) p) (6 * n + 2) nodes ∙ length-16 table (6 * n) p in
        same-16 (put_u16 (put_u16 table (6 * n) p) (6 * n + 2) nodes) (6 * n + 4) levels (omega arith)

    pub noted-names : (s : List ℕ) → declared_names s (noted table n p nodes levels) (n + 1) ≡ word_from s p ∷ declared_names s table n
    unfolding declared_names
    noted-names s = rw (add-one n, noted-place, names-kept s table (noted table n p nodes levels) n n (omega arith) noted-first) refl

-- A new type's name is not empty.
new-named : (types : List (List ℕ)) (w : List ℕ) → is_new_type types w ≡ true → same_word [] w ≡ false
unfolding is_new_type same_word
new-named types [] e = apart e
new-named types (b ∷ w) e = refl

pub noted-named : (s table : List ℕ) (n p nodes levels : ℕ) → 6 * n + 6 ≤ length table
    → is_new_type (declared_names s table n) (word_from s p) ≡ true → NoneEmpty s table n → NoneEmpty s (noted table n p nodes levels) (n + 1)
unfolding among
noted-named s table n p nodes levels h e z =
    rw (noted-names table n p nodes levels h s, new-named (declared_names s table n) (word_from s p) e, z) refl

-- ---- sizes by what is known of types

module _ (k k' : List ℕ → ℕ) (e : (t : List ℕ) → k' t ≡ k t) where
  nodes-same : (c : Children) → nodes_in k' c ≡ nodes_in k c
  unfolding nodes_in
  nodes-same no_more = refl
  nodes-same (written n m b c d) = rw (nodes-same c, nodes-same d) refl
  nodes-same (named n m t d) = rw (e t, nodes-same d) refl

  levels-same : (c : Children) → levels_in k' c ≡ levels_in k c
  unfolding levels_in
  levels-same no_more = refl
  levels-same (written n m b c d) = rw (levels-same c, levels-same d) refl
  levels-same (named n m t d) = rw (e t, levels-same d) refl

-- ---- the rest of a text

module _ (s : List ℕ) (at : ℕ) (table table' : List ℕ) (n : ℕ) where
  pub rest-none : items_at s at ≡ [] → NoneEmpty s table n → at ≤ length s → 3 * n ≤ at → RestTold s at table table n (Ok n)
  unfolding Noted read_declarations
  rest-none e z h l = record {
    declarations = [];
    count = omega arith;
    room = omega arith;
    noted = tt;
    named = z;
    kept = refl;
    size = refl;
    reads = go;
  }
    where
      go : (f : ℕ) → length (items_at s at) ≤ f → read_declarations (length s) f (declared_names s table n) (items_at s at) ≡ parsed [] []
      go zero i = rw e refl
      go (suc f) i = rw e refl

  pub rest-bad : (x : ℕ) → StartTold s at table n (Err x) → RestTold s at table table' n (Err x)
  rest-bad x e = go
    where
      go : (f : ℕ) → length (items_at s at) ≤ f → read_declarations (length s) f (declared_names s table n) (items_at s at) ≡ offends x
      go zero i = absurd (omega (arith, e.0, i))
      go (suc f) i = e.1 f

  module _ (p a : ℕ) (g : NameGiven s at table n p a) where
    pub rest-tree-bad : (x : ℕ) → TreeTold s a table 0 n (Err x) → RestTold s at table table' n (Err x)
    unfolding declared_names among
    rest-tree-bad x t = go
      where
        tree : (f : ℕ) → length (items_at s a) ≤ f →
            read_type_tree (length s) (read_children (length s) (declared_names s table n) f []) (items_at s a) ≡ offends x
        tree f i = t f i

        go : (f : ℕ) → length (items_at s at) ≤ f → read_declarations (length s) f (declared_names s table n) (items_at s at) ≡ offends x
        go zero i = absurd (omega (arith, g.fewer, i))
        go (suc f) i = g.reads f ∙ rw (tree f (omega (arith, g.fewer, i))) refl

    module _ (b nodes levels : ℕ) (t : SideRead s a table 0 n b nodes levels) (h : 6 * n + 6 ≤ length table) where
      abbrev grown : List ℕ
      grown = noted table n p nodes levels

      tree-reads : (f : ℕ) → length (items_at s a) ≤ f →
          read_type_tree (length s) (read_children (length s) (declared_names s table n) f []) (items_at s a) ≡ parsed t.side (items_at s b)
      unfolding declared_names among
      tree-reads f i = t.reads f i

      pub rest-more-bad : (x : ℕ) → RestTold s b grown table' (n + 1) (Err x) → RestTold s at table table' n (Err x)
      rest-more-bad x r = go
        where
          go : (f : ℕ) → length (items_at s at) ≤ f → read_declarations (length s) f (declared_names s table n) (items_at s at) ≡ offends x
          go zero i = absurd (omega (arith, g.fewer, i))
          go (suc f) i =
              g.reads f ∙
              rw (
                tree-reads f (omega (arith, g.fewer, i)),
                sym (noted-names table n p nodes levels h s),
                r f (omega (arith, g.fewer, t.onward.fewer, i)),
              ) refl

      module _ (m : ℕ) (r : RestRead s b grown table' (n + 1) m) where
        more-reads : (f : ℕ) → length (items_at s at) ≤ f → read_declarations (length s) f (declared_names s table n) (items_at s at) ≡
            parsed (declaration_of (word_from s p) t.side ∷ r.declarations) []
        more-reads zero i = absurd (omega (arith, g.fewer, i))
        more-reads (suc f) i =
            g.reads f ∙
            rw (
              tree-reads f (omega (arith, g.fewer, i)),
              sym (noted-names table n p nodes levels h s),
              r.reads f (omega (arith, g.fewer, t.onward.fewer, i)),
            ) refl

        first-stays : take (6 * n) table' ≡ take (6 * n) table
        first-stays = take_less (6 * n) (6 * (n + 1)) grown table' (omega arith) r.kept ∙ noted-first table n p nodes levels

        entry-stays : (k : ℕ) → k ≤ 4 → u16_at table' (6 * n + k) ≡ u16_at grown (6 * n + k)
        entry-stays k l = u16-kept grown table' (6 * (n + 1)) r.kept (6 * n + k) (omega arith)

        more-noted : (x : Side) → is_inline x ≡ true → nodes ≡ held 257 (side_nodes (known_nodes s table n) x)
            → levels ≡ held 5 (side_levels (known_levels s table n) x) → Noted s table' n (declaration_of (word_from s p) x ∷ r.declarations)
        unfolding Noted
        more-noted (inline k c) i x y =
            let z : 6 * n + 0 ≡ 6 * n = omega arith in
            let place : u16_at table' (6 * n) ≡ u16_at grown (6 * n) = rw z at (entry-stays 0 (omega arith)) in
            let same2 = nodes-same (known_nodes s table n) (known_nodes s table' n)
            (known_kept 2 s table table' n n (omega arith) (omega arith) first-stays) c in
            let same4 = levels-same (known_levels s table n) (known_levels s table' n)
            (known_kept 4 s table table' n n (omega arith) (omega arith) first-stays) c in (
              ap (word_from s) (place ∙ noted-place table n p nodes levels h),
              entry-stays 2 (omega arith) ∙ (noted-nodes table n p nodes levels h ∙ (x ∙ ap (held 257) (sym same2))),
              entry-stays 4 (omega arith) ∙ (noted-levels table n p nodes levels h ∙ (y ∙ ap (held 5) (sym same4))),
              subst (λ (k : ℕ). Noted s table' k r.declarations) (add-one n) r.noted,
            )
        more-noted (reference w) i x y = apart i

        pub rest-more-read : RestTold s at table table' n (Ok m)
        rest-more-read = record {
          declarations = declaration_of (word_from s p) t.side ∷ r.declarations;
          count = omega (arith, r.count);
          room = r.room;
          noted = more-noted t.side (t.inlined refl) t.many t.deep;
          named = r.named;
          kept = first-stays;
          size = r.size ∙ noted-long table n p nodes levels;
          reads = more-reads;
        }

      pub rest_more : (r : Result ℕ ℕ) → RestTold s b grown table' (n + 1) r → RestTold s at table table' n r
      rest_more (Ok m) x = rest-more-read m x
      rest_more (Err e) x = rest-more-bad e x
