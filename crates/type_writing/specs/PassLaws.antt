-- The second pass, declaration by declaration.
use Rattle.std.specs.Prelude.{◌≡◌, Bool, true, false, ◌||◌, ◌⊎◌, take, drop, ltb}
use Rattle.std.proofs.Math.Path.{refl, sym, ap}
use Rattle.std.proofs.Common.{◌∙◌, inl, inr, ⊎_elim, drop_at, take_at, length-take-le}
use native.Mathlib.Omega.{arith}
use mathlib.Core.List.{List, [], ◌∷◌, ◌++◌}
use Prim.Native.Nat.{ℕ, zero, suc, ◌+◌, ◌*◌, ◌≤◌, ◌<◌}
use Rattle.std.proofs.Math.ListN.{length}
use Rattle.basics.specs.TestLaws.{lt_not, true-false}
use Rattle.wire.specs.Wire.{u16_at, put_u16, part}
use Rattle.wire.specs.WireLaws.{same-16, other-16, agree-16}
use Rattle.tree_forest.specs.Forest.{tree, nodes, levels}
use Rattle.tree_forest.specs.Limits.{message_nodes_below, message_levels_below}
use Rattle.tree.specs.Encode.{children}
use Rattle.tree_edit.specs.Wrote.{Wrote}
use Rattle.tree_edit.specs.WroteLaws.{wrote_none, wrote-more, wrote-all}
use Rattle.network_syntax.specs.Syntax.{MessageType}
use Rattle.type_text.specs.Grammar.{Children, Declaration, declaration}
use Rattle.type_text.specs.Reader.{Item, items_at, Reading, parsed, offends, inline, read_children, read_type_tree, read_declarations}
use Rattle.type_text.specs.Meaning.{NamedType, named_type, type_from, types_from}
use Rattle.type_text.specs.TypeRows.{by_levels, row_bytes, rows_in, row_count, type_rows_from, is_too_large}
use Rattle.type_reading.specs.Tables.{word_from, declared_names}
use Rattle.type_reading.specs.TableLaws.{names-kept, first-kept}
use Rattle.type_reading.specs.Readings.{NameGiven, StartTold}
use Rattle.std.specs.Prelude.{None, Ok, Err}
use Rattle.type_rows.specs.Ranged.{Small, EachType}
use Rattle.type_rows.specs.MeaningLaws.{ProperAll}
use Rattle.type_images.specs.TypeImages.{image_of, image_size, HoldsType}
use Rattle.type_trees.specs.Names.{names_up_to}
use Rattle.type_trees.specs.BuildLaws.{no-parse}
use Rattle.type_trees.specs.Builds.{KnownImages, LimitsKept, TreeBuilt}
use Rattle.type_trees.specs.declared.Built.{Built}
use Rattle.type_writing.specs.Sums.{rows-children}
use Rattle.type_writing.specs.Passes.{ImagesBelow, EntriesAre, TypeWrote, RestGiven, RestWritten}
use Rattle.type_writing.specs.ParsedLaws.{NextDeclared, next-declared}

-- ---- what a store of a first row leaves

module _ (table : List ℕ) (n row : ℕ) where
  abbrev stored : List ℕ
  stored = put_u16 table (6 * n + 4) row

  entry_other : (k : ℕ) → (k + 2 ≤ 6 * n + 4) → u16_at stored k ≡ u16_at table k
  entry_other k h = agree-16 (other-16 table (6 * n + 4) row k 2 (inl h))

  entry-later : (k : ℕ) → (6 * n + 6 ≤ k) → u16_at stored k ≡ u16_at table k
  entry-later k h = agree-16 (other-16 table (6 * n + 4) row k 2 (inr (omega (arith, h))))

  names-stored : (s : List ℕ) (m : ℕ) → m ≤ n → declared_names s stored m ≡ declared_names s table m
  names-stored s m h = names-kept s table stored m n h (first-kept table (6 * n) (6 * n + 4) row (omega arith))

  place-stored : (k : ℕ) → u16_at stored (6 * k) ≡ u16_at table (6 * k)
  place-stored k = ⊎_elim (λ h. entry_other (6 * k) (omega (arith, h))) (λ h. entry-later (6 * k) (omega (arith, h))) (split k n)
    where
      split : (k n : ℕ) → (k ≤ n) ⊎ (n < k)
      split zero n = inl (omega arith)
      split (suc k) zero = inr (omega arith)
      split (suc k) (suc n) = ⊎_elim (λ h. inl (omega (arith, h))) (λ h. inr (omega (arith, h))) (split k n)

  -- A first row is no name.
  pub names_same : (s : List ℕ) (m : ℕ) → declared_names s stored m ≡ declared_names s table m
  unfolding declared_names
  names_same s zero = refl
  names_same s (suc m) = rw (place-stored m, names_same s m) refl

  below-stored : (m r r' : ℕ) → m ≤ n → r ≤ r' → ImagesBelow table m r → ImagesBelow stored m r'
  unfolding ImagesBelow
  below-stored zero r r' h l b = tt
  below-stored (suc m) r r' h l b = (
    rw (entry_other (6 * m + 4) (omega (arith, h)), entry_other (6 * m + 2) (omega (arith, h))) (omega (arith, b.0, l)),
    below-stored m r r' (omega (arith, h)) l b.1,
  )

  entries-stored : (s : List ℕ) (m : ℕ) (ds : List Declaration) (ts : List MessageType) → n < m → EntriesAre s table m ds ts → EntriesAre s stored m ds ts
  unfolding EntriesAre
  entries-stored s m [] ts h e = tt
  entries-stored s m (d ∷ ds) [] h e = e
  entries-stored s m (declaration v b c ∷ ds) (t ∷ ts) h e = (
    ap (word_from s) (entry-later (6 * m) (omega (arith, h))) ∙ e.0,
    entry-later (6 * m + 2) (omega (arith, h)) ∙ e.1,
    entries-stored s (suc m) ds ts (omega (arith, h)) e.2,
  )

-- ---- what an image beside the others leaves

part-first : (o o' : List ℕ) (w at n : ℕ) → take w o' ≡ take w o → at + n ≤ w → part o' at n ≡ part o at n
part-first o o' w at n e h = part-take o' w at n h ∙ (ap (λ (x : List ℕ). part x at n) e ∙ sym (part-take o w at n h))
  where
    take_less : (l : List ℕ) (w n : ℕ) → n ≤ w → take n l ≡ take n (take w l)
    take_less [] zero n h = refl
    take_less [] (suc w) n h = refl
    take_less (a ∷ l) w zero h = refl
    take_less (a ∷ l) zero (suc n) h = absurd (omega (arith, h))
    take_less (a ∷ l) (suc w) (suc n) h = ap (λ (x : List ℕ). a ∷ x) (take_less l w n (omega (arith, h)))

    part-take : (l : List ℕ) (w at n : ℕ) → at + n ≤ w → part l at n ≡ part (take w l) at n
    part-take l w zero n h = take_less l w n (omega (arith, h))
    part-take [] zero (suc at) n h = refl
    part-take [] (suc w) (suc at) n h = refl
    part-take (a ∷ l) zero (suc at) n h = absurd (omega (arith, h))
    part-take (a ∷ l) (suc w) (suc at) n h = part-take l w at n (omega (arith, h))

-- What was written before the place of a write stays, and what was written stands there.
module _ {o o' : List ℕ} {w r n : ℕ} {l : List ℕ} (x : Wrote o o' w r n l) (inside : w ≤ length o) where
  before-wrote : take w o' ≡ take w o
  before-wrote = ap (take w) (wrote-all x) ∙ take_at (take w o) (l ++ drop r o) w (length-take-le w o inside)

  there-wrote : part o' w n ≡ l
  there-wrote =
      ap (λ (z : List ℕ). take n (drop w z)) (wrote-all x) ∙
      (ap (take n) (drop_at (take w o) (l ++ drop r o) w (length-take-le w o inside)) ∙ take_at l (drop r o) n x.size)

-- Images before a row stay where one more is put from the row on, and the first rows stay.
images-kept : (s table images images' : List ℕ) (n row : ℕ) (k : ℕ) (known : List NamedType) → take (7 * row) images' ≡ take (7 * row) images → k ≤ n
    → ImagesBelow table k row → KnownImages s table images k known → KnownImages s (put_u16 table (6 * n + 4) row) images' k known
unfolding KnownImages ImagesBelow
images-kept s table images images' n row zero [] e h b i = tt
images-kept s table images images' n row zero (x ∷ known) e h b i = i
images-kept s table images images' n row (suc k) [] e h b i = i
images-kept s table images images' n row (suc k) (named_type v t ∷ known) e h b i =
    rw (
      entry_other table n row (6 * k) (omega (arith, h)),
      entry_other table n row (6 * k + 4) (omega (arith, h)),
      entry_other table n row (6 * k + 2) (omega (arith, h)),
    ) (
      i.0,
      record {
        keeps = i.1.keeps;
        count = i.1.count;
        image =
            part-first images images' (7 * row) (7 * u16_at table (6 * k + 4)) (7 * suc (u16_at table (6 * k + 2))) e (omega (arith, b.0)) ∙ i.1.image;
      },
      images-kept s table images images' n row k known e (omega (arith, h)) b.1 i.2,
    )

-- ---- a type within the limits

small-limits : (t : MessageType) → Small t → LimitsKept (children t)
unfolding is_too_large
small-limits (tree a k) e = (lt_not message_nodes_below (nodes k) p.0, lt_not message_levels_below (levels k) p.1)
  where
    neither-of : (a b : Bool) → a || b ≡ false → (a ≡ false) × (b ≡ false)
    neither-of false b e = (refl, e)
    neither-of true b e = absurd (true-false e)

    p : (ltb message_nodes_below (nodes k) ≡ false) × (ltb message_levels_below (levels k) ≡ false)
    p = neither-of (ltb message_nodes_below (nodes k)) (ltb message_levels_below (levels k)) e

pub rows-image : (t : MessageType) → image_size t ≡ 7 * rows_in t
unfolding rows_in
rows-image (tree a k) = refl

proper-rest : (ids : List (List ℕ)) (v : List ℕ) (b : ℕ) (c : Children) (ds : List Declaration) → ProperAll ids (declaration v b c ∷ ds) → ProperAll ids ds
unfolding ProperAll
proper-rest ids v b c ds h = h.2

-- ---- the end of the declarations

pub rest-none : (s : List ℕ) (at : ℕ) (table : List ℕ) (n : ℕ) (names : List ℕ) (m : ℕ) (images out : List ℕ) (row : ℕ)
    → RestWritten s at table n n names m images out out row
unfolding types_from row_count type_rows_from
rest-none s at table n names m images out row = record { tells = none_left }
  where
    none_left : (known : List NamedType) (ds : List Declaration) → RestGiven s at table n n (names_up_to s names m) images out row known ds
        → Wrote out out (8 * row) (8 * (row + row_count (types_from (names_up_to s names m) known ds)))
        (8 * row_count (types_from (names_up_to s names m) known ds)) (type_rows_from row (types_from (names_up_to s names m) known ds))
    none_left known [] g =
        let e : 8 * (row + 0) ≡ 8 * row = omega arith in
        rw e (wrote_none out (8 * row) (omega (arith, g.few, g.row_room)))
    none_left known (d ∷ ds) g = absurd (omega (arith, g.count))

-- ---- one declaration, and the rest

module _ (s : List ℕ) (at : ℕ) (table : List ℕ) (n total : ℕ) (names : List ℕ) (m : ℕ) (images out : List ℕ) (row : ℕ) (known : List NamedType) where
  abbrev ids : List (List ℕ)
  ids = names_up_to s names m

  -- Where more is left, something is read from here on.
  pub rest-starts : (ds : List Declaration) → n < total → RestGiven s at table n total ids images out row known ds → StartTold s at table n (Ok None) → ⊥
  unfolding read_declarations
  rest-starts ds h g e = by g.fuel g.reads
    where
      none_read : parsed [] [] ≡ parsed ds [] → ⊥
      none_read q = let z : length ds ≡ 0 = sym (ap count q) in omega (arith, g.count, h, z)
        where
          count : Reading (List Declaration) → ℕ
          count (parsed l r) = length l
          count (offends p) = 0

      by : (f : ℕ) → read_declarations (length s) f (declared_names s table n) (items_at s at) ≡ parsed ds [] → ⊥
      by zero q = none_read (ap (λ (l : List Item). parsed [] l) (sym e) ∙ q)
      by (suc f) q = none_read (rw e at q)

  pub rest-right : (ds : List Declaration) (p : ℕ) → RestGiven s at table n total ids images out row known ds → StartTold s at table n (Err p) → ⊥
  rest-right ds p g e = by g.fuel g.enough g.reads
    where
      by : (f : ℕ) → length (items_at s at) ≤ f → read_declarations (length s) f (declared_names s table n) (items_at s at) ≡ parsed ds [] → ⊥
      by zero l q = omega (arith, e.0, l)
      by (suc f) l q = no-parse (sym (e.1 f) ∙ q)

  module _ (p a : ℕ) (start : NameGiven s at table n p a) (made : Built) (built : TreeBuilt s a table n names m images made) (images' out₁ : List ℕ) (r : ℕ)
      (w : TypeWrote made.image row images images' out out₁ r) where
    abbrev next : List ℕ
    next = put_u16 table (6 * n + 4) row

    -- The next declaration is read, and those after it.
    declared : (ds : List Declaration) → RestGiven s at table n total ids images out row known ds
        → (f : ℕ) × (length (items_at s a) ≤ f) × NextDeclared (length s) (declared_names s table n) f (word_from s p) (items_at s a) ds []
    declared ds g = by g.fuel g.enough g.reads
      where
        by : (f : ℕ) → length (items_at s at) ≤ f → read_declarations (length s) f (declared_names s table n) (items_at s at) ≡ parsed ds []
            → (f : ℕ) × (length (items_at s a) ≤ f) × NextDeclared (length s) (declared_names s table n) f (word_from s p) (items_at s a) ds []
        by zero l q = absurd (omega (arith, start.fewer, l))
        by (suc f) l q = (
          f,
          omega (arith, start.fewer, l),
          next-declared (length s) (declared_names s table n) f (word_from s p) (items_at s a) ds [] (sym (start.reads f) ∙ q),
        )

    module _ (b : ℕ) (c : Children) (more : List Declaration) (left : List Item) (f : ℕ) (few-left : length (items_at s a) ≤ f)
        (reads : read_type_tree (length s) (read_children (length s) (declared_names s table n) f []) (items_at s a) ≡ parsed (inline b c) left)
        (goes : read_declarations (length s) f (word_from s p ∷ declared_names s table n) left ≡ parsed more [])
        (g : RestGiven s at table n total ids images out row known (declaration (word_from s p) b c ∷ more)) where
      abbrev type : MessageType
      type = type_from ids known b c

      abbrev others : List MessageType
      others = types_from ids (named_type (word_from s p) type ∷ known) more

      is-proper : ProperAll ids (declaration (word_from s p) b c ∷ more)
      is-proper = g.proper

      is-small : Small type × EachType Small others
      unfolding types_from EachType
      is-small = g.small

      is-few : row + (rows_in type + row_count others) ≤ 256
      unfolding types_from row_count
      is-few = g.few

      is-entry : (word_from s (u16_at table (6 * n)) ≡ word_from s p) × (u16_at table (6 * n + 2) ≡ nodes (children type)) × EntriesAre s table (suc n) more others
      unfolding types_from EntriesAre
      is-entry = g.entries

      made-is : (left ≡ items_at s made.at) × HoldsType made.image type
      unfolding ProperAll
      made-is = built.tells known f b c left g.shown few-left reads is-proper.0 is-proper.1 (small-limits type is-small.0)

      wrote-is : (r ≡ row + rows_in type) × Wrote out out₁ (8 * row) (8 * r) (8 * rows_in type) (row_bytes (row + 1) (by_levels type))
          × Wrote images images' (7 * row) (7 * row + image_size type) (image_size type) (image_of type)
      wrote-is =
          w.tells type made-is.1 (omega (arith, is-few, g.row_room)) (omega (arith, is-few)) (omega (arith, is-few, g.image_room))

      images-inside : 7 * row ≤ length images
      images-inside = omega (arith, is-few, g.image_room)

      entry_place : u16_at next (6 * n) ≡ u16_at table (6 * n)
      entry_place = entry_other table n row (6 * n) (omega arith)

      entry-nodes : u16_at next (6 * n + 2) ≡ nodes (children type)
      entry-nodes = entry_other table n row (6 * n + 2) (omega arith) ∙ is-entry.1

      module _ (room : 6 * n + 6 ≤ length table) where
        entry_row : u16_at next (6 * n + 4) ≡ row
        entry_row = same-16 table (6 * n + 4) row (omega (arith, room))

        names-next : declared_names s next (suc n) ≡ word_from s p ∷ declared_names s table n
        unfolding declared_names
        names-next = rw (entry_place, is-entry.0, names-stored table n row s n (omega arith)) refl

        images-next : KnownImages s next images' (suc n) (named_type (word_from s p) type ∷ known)
        unfolding KnownImages
        images-next =
            rw (entry_place, entry_row, entry-nodes) (
              is-entry.0,
              record { keeps = made-is.1.keeps; count = refl; image = there-wrote wrote-is.2 images-inside },
              images-kept s table images images' n row n known (before-wrote wrote-is.2 images-inside) (omega arith) g.below g.shown,
            )

        below_next : ImagesBelow next (suc n) r
        unfolding ImagesBelow
        below_next =
            let e = wrote-is.0 in
            let z = rows-children type in (
              rw (entry_row, entry-nodes) (omega (arith, e, z)),
              below-stored table n row n row r (omega arith) (omega (arith, e)) g.below,
            )

        given-next : RestGiven s made.at next (suc n) total ids images' out₁ r (named_type (word_from s p) type ∷ known) more
        given-next = record {
          fuel = f;
          enough = omega (arith, built.onward.fewer, few-left);
          reads = rw (names-next, sym made-is.0) goes;
          count = omega (arith, g.count);
          shown = images-next;
          below = below_next;
          entries = entries-stored table n row s (suc n) more others (omega arith) is-entry.2;
          proper = rest-proper;
          small = is-small.1;
          few = let e = wrote-is.0 in omega (arith, e, is-few);
          row_room = omega (arith, w.out_size, g.row_room);
          image_room = omega (arith, w.images_size, g.image_room);
        }
          where
            rest-proper : ProperAll ids more
            rest-proper = proper-rest ids (word_from s p) b c more is-proper

        whole : (out' : List ℕ) → RestWritten s made.at next (suc n) total names m images' out₁ out' r
            → Wrote out out' (8 * row) (8 * (row + row_count (type ∷ others))) (8 * row_count (type ∷ others)) (type_rows_from row (type ∷ others))
        unfolding row_count type_rows_from
        whole out' rest =
            let e = wrote-is.0 in
            let x = wrote-more wrote-is.1 (rest.tells (named_type (word_from s p) type ∷ known) more given-next) in
            let y : 8 * rows_in type + 8 * row_count others ≡ 8 * (rows_in type + row_count others) = omega arith in
            let z : 8 * (r + row_count others) ≡ 8 * (row + (rows_in type + row_count others)) = omega (arith, e) in
            let v : type_rows_from r others ≡ type_rows_from (row + rows_in type) others = ap (λ (q : ℕ). type_rows_from q others) e in
            rw (sym z, sym y, sym v) x

module _ (s : List ℕ) (at : ℕ) (table : List ℕ) (n total : ℕ) (names : List ℕ) (m : ℕ) (images out : List ℕ) (row : ℕ) where
  -- A declaration is written, and then the rest.
  pub rest_more : (p a : ℕ) → NameGiven s at table n p a → (made : Built) → TreeBuilt s a table n names m images made → (images' out₁ out' : List ℕ) (r : ℕ)
      → TypeWrote made.image row images images' out out₁ r → 6 * n + 6 ≤ length table
      → RestWritten s made.at (put_u16 table (6 * n + 4) row) (n + 1) total names m images' out₁ out' r
      → RestWritten s at table n total names m images out out' row
  unfolding types_from
  rest_more p a start made built images' out₁ out' r w room rest = record { tells = told }
    where
      told : (known : List NamedType) (ds : List Declaration) → RestGiven s at table n total (names_up_to s names m) images out row known ds
          → Wrote out out' (8 * row) (8 * (row + row_count (types_from (names_up_to s names m) known ds)))
          (8 * row_count (types_from (names_up_to s names m) known ds)) (type_rows_from row (types_from (names_up_to s names m) known ds))
      told known ds g = by ds g d.2.are
        where
          d : (f : ℕ) × (length (items_at s a) ≤ f) × NextDeclared (length s) (declared_names s table n) f (word_from s p) (items_at s a) ds []
          d = declared s at table n total names m images out row known p a start made built images' out₁ r w ds g

          suc-n : n + 1 ≡ suc n
          suc-n = omega arith

          by : (ds : List Declaration) → RestGiven s at table n total (names_up_to s names m) images out row known ds
              → ds ≡ declaration (word_from s p) d.2.basic d.2.children ∷ d.2.more
              → Wrote out out' (8 * row) (8 * (row + row_count (types_from (names_up_to s names m) known ds)))
              (8 * row_count (types_from (names_up_to s names m) known ds)) (type_rows_from row (types_from (names_up_to s names m) known ds))
          by ds g e =
              rw e
              (whole s at table n total names m images out row known p a start made built images' out₁ r w d.2.basic d.2.children d.2.more d.2.left
              d.0 d.1 d.2.reads d.2.goes (rw e at g) room out' (rw suc-n at rest))

  -- Where nothing of the kind begins here, nothing was given.
  pub rest_over : n < total → StartTold s at table n (Ok None) → RestWritten s at table n total names m images out out row
  rest_over h e = record { tells = λ known ds g. absurd (rest-starts s at table n total names m images out row known ds h g e) }

  pub rest-wrong : (p : ℕ) → StartTold s at table n (Err p) → RestWritten s at table n total names m images out out row
  rest-wrong p e = record { tells = λ known ds g. absurd (rest-right s at table n total names m images out row known ds p g e) }
