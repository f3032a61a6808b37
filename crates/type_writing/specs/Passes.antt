-- What the second pass over a text tells: one type written, then the declarations from a place on, then the rows of a text.
use Rattle.std.specs.Prelude.{◌≡◌, List, [], ◌∷◌, ℕ, zero, suc, ◌+◌, ◌*◌, ◌≤◌, length}
use Rattle.wire.specs.Wire.{u16_at}
use Rattle.refusal.specs.declared.Outcome.{Outcome}
use Rattle.tree_forest.specs.Forest.{nodes}
use Rattle.tree.specs.Encode.{children}
use Rattle.tree_edit.specs.Wrote.{Wrote}
use Rattle.network_syntax.specs.Syntax.{MessageType}
use Rattle.type_text.specs.Grammar.{Declaration, declaration, TypeText}
use Rattle.type_text.specs.Reader.{items_at, parsed, read_declarations}
use Rattle.type_text.specs.Meaning.{NamedType, types_from, types_of}
use Rattle.type_text.specs.TypeRows.{by_levels, row_bytes, rows_in, row_count, type_rows_from}
use Rattle.type_reading.specs.Tables.{word_from, declared_names, Noted}
use Rattle.type_rows.specs.Ranged.{Small, EachType}
use Rattle.type_rows.specs.MeaningLaws.{ProperAll}
use Rattle.check_types.specs.TypeRowsLaws.{TypeKeeps}
use Rattle.type_images.specs.TypeImages.{image_of, image_size, HoldsType}
use Rattle.type_images.specs.declared.TypeImage.{TypeImage}
use Rattle.type_trees.specs.Names.{names_up_to}
use Rattle.type_trees.specs.Builds.{KnownImages}
use Rattle.type_writing.specs.Answer.{types_answer}

-- The images of the first n entries end below a row.
unfoldable pub ImagesBelow : List ℕ → ℕ → ℕ → Type 0
ImagesBelow table zero row = Unit {0}
ImagesBelow table (suc n) row = (u16_at table (6 * n + 4) + suc (u16_at table (6 * n + 2)) ≤ row) × ImagesBelow table n row

-- The entries from n on have the names of these declarations and the nodes of these types.
unfoldable pub EntriesAre : List ℕ → List ℕ → ℕ → List Declaration → List MessageType → Type 0
EntriesAre s table n [] ts = Unit {0}
EntriesAre s table n (d ∷ ds) [] = ⊥
EntriesAre s table n (declaration v b c ∷ ds) (t ∷ ts) =
    (word_from s (u16_at table (6 * n)) ≡ v) × (u16_at table (6 * n + 2) ≡ nodes (children t)) × EntriesAre s table (suc n) ds ts

-- The type whose image s is, is written: its rows from `row` on, its image beside those of the types before; r is the row past them.
pub record ImageWrote (s : List ℕ) (row : ℕ) (images images' out out' : List ℕ) (r : ℕ) : Type 0 where
  pub out_size : length out' ≡ length out
  pub images_size : length images' ≡ length images
  pub tells : (t : MessageType) → s ≡ image_of t → TypeKeeps t → 8 * (row + rows_in t) ≤ length out → row + rows_in t ≤ 256
      → 7 * (row + rows_in t) ≤ length images
      → (r ≡ row + rows_in t) × Wrote out out' (8 * row) (8 * r) (8 * rows_in t) (row_bytes (row + 1) (by_levels t))
      × Wrote images images' (7 * row) (7 * row + image_size t) (image_size t) (image_of t)

-- The same of the type that e holds.
pub record TypeWrote (e : TypeImage) (row : ℕ) (images images' out out' : List ℕ) (r : ℕ) : Type 0 where
  pub out_size : length out' ≡ length out
  pub images_size : length images' ≡ length images
  pub tells : (t : MessageType) → HoldsType e t → 8 * (row + rows_in t) ≤ length out → row + rows_in t ≤ 256 → 7 * (row + rows_in t) ≤ length images
      → (r ≡ row + rows_in t) × Wrote out out' (8 * row) (8 * r) (8 * rows_in t) (row_bytes (row + 1) (by_levels t))
      × Wrote images images' (7 * row) (7 * row + image_size t) (image_size t) (image_of t)

-- What is given where the declarations from `at` on are to be written from a row on.
pub record RestGiven (s : List ℕ) (at : ℕ) (table : List ℕ) (n total : ℕ) (ids : List (List ℕ)) (images out : List ℕ) (row : ℕ)
    (known : List NamedType) (ds : List Declaration) : Type 0 where
  pub fuel : ℕ
  pub enough : length (items_at s at) ≤ fuel
  pub reads : read_declarations (length s) fuel (declared_names s table n) (items_at s at) ≡ parsed ds []
  pub count : total ≡ n + length ds
  pub shown : KnownImages s table images n known
  pub below : ImagesBelow table n row
  pub entries : EntriesAre s table n ds (types_from ids known ds)
  pub proper : ProperAll ids ds
  pub small : EachType Small (types_from ids known ds)
  pub few : row + row_count (types_from ids known ds) ≤ 256
  pub row_room : 2048 ≤ length out
  pub image_room : 1792 ≤ length images

-- The declarations from `at` on are written.
pub record RestWritten (s : List ℕ) (at : ℕ) (table : List ℕ) (n total : ℕ) (names : List ℕ) (m : ℕ) (images out out' : List ℕ) (row : ℕ) : Type 0 where
  pub tells : (known : List NamedType) (ds : List Declaration) → RestGiven s at table n total (names_up_to s names m) images out row known ds
      → Wrote out out' (8 * row) (8 * (row + row_count (types_from (names_up_to s names m) known ds)))
      (8 * row_count (types_from (names_up_to s names m) known ds)) (type_rows_from row (types_from (names_up_to s names m) known ds))

-- The table has the n declarations of the text s.
pub record TextRead (s table : List ℕ) (n : ℕ) (ds : List Declaration) : Type 0 where
  pub text : TypeText s ds
  pub count : n ≡ length ds
  pub noted : Noted s table 0 ds

-- The rows of a text whose types keep to the limits are written.
pub record TextWritten (s table : List ℕ) (n : ℕ) (out out' : List ℕ) : Type 0 where
  pub tells : (ds : List Declaration) → TextRead s table n ds → EachType Small (types_of ds) → row_count (types_of ds) ≤ 256 → 2048 ≤ length out
      → Wrote out out' 0 (8 * row_count (types_of ds)) (8 * row_count (types_of ds)) (type_rows_from 0 (types_of ds))

-- The answer to a text that was read.
pub record RowsTold (s table : List ℕ) (n : ℕ) (out out' : List ℕ) (r : Outcome) : Type 0 where
  pub tells : (ds : List Declaration) → TextRead s table n ds → (r ≡ (types_answer (types_of ds) out).outcome) × (out' ≡ (types_answer (types_of ds) out).out)
