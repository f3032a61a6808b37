-- One type written, at each of the ways out of the code.
use mathlib.Core.Path.{◌≡◌, refl, sym, ◌∙◌, ap}
use mathlib.Core.List.{List}
use Prim.Native.Nat.{ℕ, ◌+◌, ◌*◌, ◌/◌, ◌≤◌, ◌<◌}
use native.Mathlib.Omega.{arith}
use lib.ListN.{length, take, drop}
use Rattle.tree_forest.specs.Forest.{tree, Rising, RisingTree}
use Rattle.tree_edit.specs.Wrote.{Wrote}
use Rattle.tree_edit.specs.WroteLaws.{wrote_as}
use Rattle.check_subtyping.specs.Subtype.{root_children}
use Rattle.network_syntax.specs.Syntax.{MessageType}
use Rattle.type_text.specs.TypeRows.{by_levels, row_bytes, rows_in}
use Rattle.type_images.specs.TypeImages.{image_of, image_size}
use Rattle.type_lines.specs.Emits.{TreeEmitted}
use Rattle.type_lines.specs.EmitsLaws.{tree-emitted}
use Rattle.type_writing.specs.Passes.{ImageWrote}
use Rattle.type_writing.specs.PassLaws.{rows-image, names_same}
use Rattle.wire.specs.Wire.{put_u16}
use Rattle.type_reading.specs.Tables.{NoneEmpty}
use Rattle.refusal.specs.declared.Refusal.{Refusal}
use Rattle.refusal.specs.declared.Outcome.{Outcome}
use Rattle.refusal.specs.Refusal.{refused_by}
use Rattle.type_writing.specs.Answer.{TextAnswer, text_refused}
use Rattle.type_images.specs.TypeImageLaws.{image-length}
use Rattle.check_types.specs.TypeRowsLaws.{TypeKeeps}
use lib.Seq.{take-length}

rises : (t : MessageType) → RisingTree t → Rising (root_children t)
rises (tree a k) h = h

image-long : (s : List ℕ) (t : MessageType) → s ≡ image_of t → length s ≡ image_size t
image-long s t e = ap length e ∙ image-length t

module _ (s : List ℕ) (row : ℕ) (images out : List ℕ) where
  -- No type's image is so long.
  pub image-past : 112 < length s → ImageWrote s row images images out out row
  image-past h = record {
    out_size = refl;
    images_size = refl;
    tells = λ t x k f l i. let z = image-long s t x in absurd (omega (arith, h, z, k.few));
  }

  pub out-short : length out < 8 * row → ImageWrote s row images images out out row
  out-short h = record { out_size = refl; images_size = refl; tells = λ t x k f l i. absurd (omega (arith, h, f)) }

  pub images-short : length images < 7 * row + length s → ImageWrote s row images images out out row
  images-short h = record {
    out_size = refl;
    images_size = refl;
    tells = λ t x k f l i. let y = image-long s t x in let z = rows-image t in absurd (omega (arith, h, i, y, z));
  }

  module _ (out' : List ℕ) (end : ℕ) (emitted : TreeEmitted s out out' row end) (same : length out' ≡ length out) where
    rows-wrote : (t : MessageType) → s ≡ image_of t → TypeKeeps t → 8 * (row + rows_in t) ≤ length out → row + rows_in t ≤ 256
        → Wrote out out' (8 * row) end (8 * rows_in t) (row_bytes (row + 1) (by_levels t))
    rows-wrote t x k f l =
        tree-emitted emitted t x k.basic (rises t k.rising) k.ranged k.shallow (omega (arith, k.few)) f l

    pub rows-past : 2048 < end → ImageWrote s row images images out out' row
    rows-past h = record {
      out_size = same;
      images_size = refl;
      tells = λ t x k f l i. let w = rows-wrote t x k f l in absurd (omega (arith, h, w.next, l));
    }

    pub image-wrote : (images' : List ℕ) (v q r : ℕ) → Wrote images images' v q (length s) (take (length s) (drop 0 s)) → v ≡ 7 * row
        → length images' ≡ length images → r ≡ end / 8 → ImageWrote s row images images' out out' r
    image-wrote images' v q r y z size er = record { out_size = same; images_size = size; tells = told }
      where
        w : Wrote images images' (7 * row) q (length s) (take (length s) (drop 0 s))
        w = rw z at y

        told : (t : MessageType) → s ≡ image_of t → TypeKeeps t → 8 * (row + rows_in t) ≤ length out → row + rows_in t ≤ 256
            → 7 * (row + rows_in t) ≤ length images
            → (r ≡ row + rows_in t) × Wrote out out' (8 * row) (8 * r) (8 * rows_in t) (row_bytes (row + 1) (by_levels t))
            × Wrote images images' (7 * row) (7 * row + image_size t) (image_size t) (image_of t)
        told t x k g l i =
            let v = rows-wrote t x k g l in
            let n = v.next in
            let d : r ≡ row + rows_in t = omega (arith, er, n) in
            let c : end ≡ 8 * r = omega (arith, d, n) in
            let y : length s ≡ image_size t = image-long s t x in
            let p : q ≡ 7 * row + image_size t = w.next ∙ ap (λ (z : ℕ). 7 * row + z) y in
            (d, rw (sym c) v, rw (sym p) (wrote_as (take-length s ∙ x) y w))

pub below : (n m : ℕ) → n ≤ m → (n ≡ m → ⊥) → n < m
below n m h e = omega (arith, h, e)

-- A first row put into the table is no name.
pub empty-kept : (s table table' : List ℕ) (n row total : ℕ) → table' ≡ put_u16 table (6 * n + 4) row → NoneEmpty s table total → NoneEmpty s table' total
empty-kept s table table' n row total e h = rw (e, names_same table n row s total) h

-- A refusal that is the answer.
pub as-answer : {out : List ℕ} {why : Refusal} {A : TextAnswer} {o : Outcome} → text_refused why out ≡ A → o ≡ refused_by why → (o ≡ A.outcome) × (out ≡ A.out)
as-answer e h = (h ∙ ap (λ (x : TextAnswer). x.outcome) e, ap (λ (x : TextAnswer). x.out) e)
