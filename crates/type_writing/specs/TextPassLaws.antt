-- The second pass over a whole text, and the answer by what the passes tell.
use Rattle.std.specs.Prelude.{◌≡◌, Bool, true, false, ℕ, suc, ◌+◌, ◌*◌, ◌≤◌, ◌<◌, drop}
use Rattle.std.proofs.Math.Path.{refl}
use Rattle.std.proofs.Common.{sym, ◌∙◌, ap, arith}
use mathlib.Core.List.{List, [], ◌∷◌, ◌++◌}
use Rattle.std.proofs.Math.ListN.{length}
use borrow.Author.Tests.{lt-ltb, le-ltb}
use Rattle.basics.specs.Choice.{pick}
use Rattle.wire.specs.Wire.{u16_at, with_part}
use Rattle.refusal.specs.declared.Outcome.{Outcome}
use Rattle.refusal.specs.declared.Refusal.TheVariants.{BufferSize, FileLayout, SectionCount, TooLarge}
use Rattle.refusal.specs.Refusal.{done_with, refused_by}
use Rattle.tree_forest.specs.Forest.{nodes}
use Rattle.tree.specs.Encode.{children}
use Rattle.tree_edit.specs.Wrote.{Wrote}
use Rattle.tree_edit.specs.WroteLaws.{wrote-all}
use Rattle.network_syntax.specs.ViewLaws.{none-some}
use Rattle.network_syntax.specs.Syntax.{MessageType, none, some}
use Rattle.type_text.specs.Spelling.{Token}
use Rattle.type_text.specs.Grammar.{Declaration, declaration, TypeText}
use Rattle.type_text.specs.Reader.{Item, items_at, Reading, parsed, offends, read_text}
use Rattle.type_text.proofs.SpellingLaws.{Carries, carries_none, carries_more, spelled-items, items-shorter}
use Rattle.type_text.proofs.TextLaws.{read-sound, read-complete}
use Rattle.type_text.specs.Meaning.{NamedType, named_type, id_names, first_uses, type_from, types_from, types_of}
use Rattle.type_text.specs.TypeRows.{rows_in, row_count, type_rows_from, is_too_large}
use Rattle.type_reading.specs.Tables.{held, declared_names, Noted}
use Rattle.type_rows.specs.Ranged.{Small, EachType}
use Rattle.type_rows.specs.MeaningLaws.{ProperAll, proper-text, names-few}
use Rattle.type_trees.specs.Names.{names_up_to, tokens_in, dot_names}
use Rattle.type_trees.specs.NameLaws.{dot-ids, length-names}
use Rattle.type_trees.specs.Builds.{KnownImages}
use Rattle.type_reading.specs.Readings.{RestTold, RestRead}
use Rattle.type_writing.specs.Answer.{text_refused, text_offence, large_from, rows_answer, types_answer, reading_answer, write_types}
use Rattle.type_writing.specs.SizeLaws.{SizesNoted, agrees-none, sizes-noted}
use Rattle.type_writing.specs.Sums.{rows-children, table_rows, table_large, rows-counted, large-found}
use Rattle.type_writing.specs.Passes.{ImagesBelow, EntriesAre, RestGiven, RestWritten, TextRead, TextWritten, RowsTold}
use Rattle.std.specs.Prelude.{Err}

-- ---- ids

tokens-carried : {i : List Item} {l : List Token} → Carries i l → tokens_in i ≡ l
unfolding tokens_in
tokens-carried carries_none = refl
tokens-carried (carries_more {k = k} c) = ap (λ (x : List Token). k ∷ x) (tokens-carried c)

pub text-names : (s : List ℕ) (ds : List Declaration) → TypeText s ds → first_uses [] (dot_names false (tokens_in (items_at s 0))) ≡ id_names ds
unfolding items_at
text-names s ds h = rw (tokens-carried (spelled-items 0 h.spelled)) (dot-ids ds h.derived)

-- ---- what was noted

types-length : (ids : List (List ℕ)) (ds : List Declaration) (known : List NamedType) → length (types_from ids known ds) ≡ length ds
unfolding types_from
types-length ids [] known = refl
types-length ids (declaration v b c ∷ ds) known = ap suc (types-length ids ds (named_type v (type_from ids known b c) ∷ known))

items-within : (s : List ℕ) → length (items_at s 0) ≤ length s
unfolding items_at
items-within s = items-shorter 0 0 s

entries-are : (s table : List ℕ) (ids : List (List ℕ)) (ds : List Declaration) (n : ℕ) (known : List NamedType) → Noted s table n ds
    → SizesNoted table n (types_from ids known ds) → row_count (types_from ids known ds) ≤ 256 → EntriesAre s table n ds (types_from ids known ds)
unfolding EntriesAre types_from Noted SizesNoted row_count
entries-are s table ids [] n known h z w = tt
entries-are s table ids (declaration v b c ∷ ds) n known h z w =
    let t : MessageType = type_from ids known b c in
    let r = rows-children t in
    let e : u16_at table (6 * n + 2) ≡ nodes (children t) = omega (arith, z.0, w, r) in
    (h.0, e, entries-are s table ids ds (suc n) (named_type v t ∷ known) h.3 z.2 (omega (arith, w)))

module _ (s table : List ℕ) (n : ℕ) (ds : List Declaration) (h : TextRead s table n ds) where
  is-proper : ProperAll (id_names ds) ds
  is-proper = proper-text ds h.text.derived

  is-sized : SizesNoted table 0 (types_of ds)
  is-sized = sizes-noted s table (id_names ds) ds 0 [] (agrees-none s table) is-proper h.noted

  count-types : length (types_of ds) ≡ n
  count-types = types-length (id_names ds) ds [] ∙ sym h.count

  -- The first pass has the rows of the text's types, held at 257, and the first that is too large.
  pub rows_told : held 257 (table_rows table 0 n) ≡ held 257 (row_count (types_of ds))
  rows_told = ap (λ (x : ℕ). held 257 (table_rows table 0 x)) (sym count-types) ∙ rows-counted table (types_of ds) 0 is-sized

  pub large-told : row_count (types_of ds) ≤ 256 → table_large table 0 n 0 ≡ large_from 0 (types_of ds)
  large-told w = ap (λ (x : ℕ). table_large table 0 x 0) (sym count-types) ∙ large-found table (types_of ds) 0 0 is-sized w

  module _ (images out : List ℕ) (small : EachType Small (types_of ds)) (few : row_count (types_of ds) ≤ 256) (room : 2048 ≤ length out)
      (images-room : 1792 ≤ length images) where
    given : RestGiven s 0 table 0 n (id_names ds) images out 0 [] ds
    unfolding KnownImages ImagesBelow declared_names read_text
    given = record {
      fuel = length s;
      enough = shorter;
      reads = read-complete s ds h.text;
      count = omega (arith, h.count);
      shown = tt;
      below = tt;
      entries = entries-are s table (id_names ds) ds 0 [] h.noted is-sized few;
      proper = is-proper;
      small = small;
      few = omega (arith, few);
      row_room = room;
      image_room = images-room;
    }
      where
        shorter : length (items_at s 0) ≤ length s
        shorter = items-within s

  pub text-wrote : (names : List ℕ) (m : ℕ) (images out out' : List ℕ) → names_up_to s names m ≡ first_uses [] (dot_names false (tokens_in (items_at s 0)))
      → 1792 ≤ length images → RestWritten s 0 table 0 n names m images out out' 0 → EachType Small (types_of ds) → row_count (types_of ds) ≤ 256
      → 2048 ≤ length out → Wrote out out' 0 (8 * row_count (types_of ds)) (8 * row_count (types_of ds)) (type_rows_from 0 (types_of ds))
  text-wrote names m images out out' e i w small few room =
      let q : names_up_to s names m ≡ id_names ds = e ∙ text-names s ds h.text in
      let z : 8 * (0 + row_count (types_of ds)) ≡ 8 * row_count (types_of ds) = omega arith in
      rw z at (rw q at (w.tells [] ds (rw q (given images out small few room i))))

  -- There are no more names than rows.
  pub names-bounded : (names : List ℕ) (m : ℕ) → names_up_to s names m ≡ first_uses [] (dot_names false (tokens_in (items_at s 0)))
      → row_count (types_of ds) ≤ 256 → m ≤ 256
  names-bounded names m e few =
      let q : names_up_to s names m ≡ id_names ds = e ∙ text-names s ds h.text in
      let l : m ≡ length (id_names ds) = sym (length-names s names 0 m) ∙ ap length q in
      let f = names-few ds h.text.derived in
      omega (arith, l, f, few)

-- ---- the answer

none-large : (ts : List MessageType) (r : ℕ) → large_from r ts ≡ none → EachType Small ts
unfolding large_from EachType
none-large [] r e = tt
none-large (t ∷ ts) r e = by (is_too_large t) refl e (λ z. none-large ts (r + rows_in t) z)
  where
    by : (b : Bool) → is_too_large t ≡ b → pick b (some r) (large_from (r + rows_in t) ts) ≡ none → (large_from (r + rows_in t) ts ≡ none → EachType Small ts)
        → Small t × EachType Small ts
    by true q z more = absurd (none-some (sym z))
    by false q z more = (q, more z)

-- A list written at the start of a buffer.
put_first : {o o' l : List ℕ} {r n : ℕ} → Wrote o o' 0 r n l → o' ≡ with_part o 0 l
put_first {o} {o'} {l} {r} {n} x =
    let e : r ≡ 0 + length l = omega (arith, x.next, x.size) in
    wrote-all x ∙ ap (λ (k : ℕ). l ++ drop k o) e

module _ (s table : List ℕ) (n : ℕ) (out : List ℕ) where
  pub told-roomless : length out < 2048 → RowsTold s table n out out (refused_by BufferSize)
  unfolding types_answer
  told-roomless h = record { tells = λ ds g. rw (lt-ltb (length out) 2048 h) (refl, refl) }

  module _ (room : 2048 ≤ length out) (rows : ℕ) (e : rows ≡ held 257 (table_rows table 0 n)) where
    pub told-many : 256 < rows → RowsTold s table n out out (refused_by SectionCount)
    unfolding types_answer
    told-many h = record {
      tells = λ ds g.
          let z = rows_told s table n ds g in
          rw (le-ltb (length out) 2048 room, lt-ltb 256 (row_count (types_of ds)) (omega (arith, e, h, z))) (refl, refl);
    }

    module _ (few : rows ≤ 256) where
      exact : (ds : List Declaration) → TextRead s table n ds → rows ≡ row_count (types_of ds)
      exact ds g = let z = rows_told s table n ds g in omega (arith, e, few, z)

      passes : (ds : List Declaration) → TextRead s table n ds → types_answer (types_of ds) out ≡ rows_answer (types_of ds) out (large_from 0 (types_of ds))
      unfolding types_answer
      passes ds g =
          let z = exact ds g in
          rw (le-ltb (length out) 2048 room, le-ltb 256 (row_count (types_of ds)) (omega (arith, z, few))) refl

      pub told-large : (r : ℕ) → table_large table 0 n 0 ≡ some r → RowsTold s table n out out (refused_by (TooLarge (8 * r)))
      told-large r q = record {
        tells = λ ds g.
            let z = exact ds g in
            let l = sym (large-told s table n ds g (omega (arith, z, few))) ∙ q in
            rw (passes ds g, l) (refl, refl);
      }

      pub told-done : (out' : List ℕ) → table_large table 0 n 0 ≡ none → TextWritten s table n out out' → RowsTold s table n out out' (done_with (8 * rows))
      told-done out' q w = record {
        tells = λ ds g.
            let z = exact ds g in
            let f : row_count (types_of ds) ≤ 256 = omega (arith, z, few) in
            let l = sym (large-told s table n ds g f) ∙ q in
            let x = w.tells ds g (none-large (types_of ds) 0 l) f room in
            rw (passes ds g, l) (ap (λ (k : ℕ). done_with (8 * k)) z, put_first x);
      }

module _ (s table : List ℕ) (n : ℕ) (names : List ℕ) (m : ℕ) (out : List ℕ) where
  pub rows_written : (images out' : List ℕ) → RestWritten s 0 table 0 n names m images out out' 0
      → names_up_to s names m ≡ first_uses [] (dot_names false (tokens_in (items_at s 0))) → 1792 ≤ length images → TextWritten s table n out out'
  rows_written images out' w e i =
      record { tells = λ ds g small few room. text-wrote s table n ds g names m images out out' e i w small few room }

  pub rows-unwritten : names_up_to s names m ≡ first_uses [] (dot_names false (tokens_in (items_at s 0))) → 65534 < m → TextWritten s table n out out
  rows-unwritten e h = record { tells = λ ds g small few room. let b = names-bounded s table n ds g names m e few in absurd (omega (arith, b, h)) }

-- ---- the whole

pub text-long : (s out : List ℕ) → 8192 < length s → write_types s out ≡ text_refused FileLayout out
unfolding write_types
text-long s out h = rw (lt-ltb 8192 (length s) h) refl

module _ (s out : List ℕ) (short : length s ≤ 8192) where
  by-reading : (r : Reading (List Declaration)) → read_text s ≡ r → write_types s out ≡ reading_answer s out r
  unfolding write_types
  by-reading r e = rw (le-ltb 8192 (length s) short, e) refl

  pub text-offends : (table table' : List ℕ) (p : ℕ) → RestTold s 0 table table' 0 (Err p) → write_types s out ≡ text_refused (text_offence s p) out
  unfolding read_text declared_names
  text-offends table table' p h = by-reading (offends p) (h (length s) (items-within s))

  pub text-answered : (table table' : List ℕ) (n : ℕ) (out' : List ℕ) (r : Outcome) → RestRead s 0 table table' 0 n → RowsTold s table' n out out' r
      → (r ≡ (write_types s out).outcome) × (out' ≡ (write_types s out).out)
  unfolding read_text declared_names
  text-answered table table' n out' r h w =
      let e : read_text s ≡ parsed h.declarations [] = h.reads (length s) (items-within s) in
      let g : TextRead s table' n h.declarations =
      record { text = read-sound s h.declarations [] e; count = omega (arith, h.count); noted = h.noted } in
      rw (by-reading (parsed h.declarations []) e) (w.tells h.declarations g)
