-- What a refused text leaves, and what stays past the rows.
use Rattle.std.specs.Prelude.{◌≡◌, refl, List, Bool, true, false, ℕ, ◌+◌, ◌*◌, length, drop, ltb}
use Rattle.std.proofs.Common.{◌∙◌, ap, arith, drop_at}
use Rattle.basics.specs.Choice.{pick}
use Rattle.refusal.specs.Refusal.{outcome_number}
use Rattle.network_syntax.specs.Syntax.{MessageType, Optional, none, some}
use Rattle.type_text.specs.Grammar.{Declaration}
use Rattle.type_text.specs.Reader.{Reading, parsed, offends, read_text}
use Rattle.type_text.specs.Meaning.{types_of}
use Rattle.type_text.specs.TypeRows.{row_count, type_rows_from}
use Rattle.type_rows.specs.RowLaws.{rows-length}
use Rattle.type_writing.specs.Answer.{TextAnswer, text_refused, text_room, rows_room, row_limit}
use Rattle.type_writing.specs.Answer.{large_from, rows_answer, types_answer, reading_answer, write_types}
use Rattle.refusal.specs.declared.Refusal.TheVariants.{BufferSize, FileLayout, SectionCount}

-- What holds of the answer: a refusal leaves the buffer, and what is past the count stays.
record Leaves (out : List ℕ) (A : TextAnswer) : Type 0 where
  leaves : (outcome_number A.outcome ≡ 0 → ⊥) → A.out ≡ out
  stays : drop A.outcome.bytes A.out ≡ drop A.outcome.bytes out

refusal-leaves : (out : List ℕ) (t : Bool) (x y : TextAnswer) → Leaves out x → Leaves out y → Leaves out (pick t x y)
refusal-leaves out true x y a b = a
refusal-leaves out false x y a b = b

rows-leave : (ts : List MessageType) (out : List ℕ) (l : Optional ℕ) → Leaves out (rows_answer ts out l)
rows-leave ts out (some r) = record { leaves = λ h. refl; stays = refl }
rows-leave ts out none = record {
  leaves = λ h. absurd (h refl);
  stays =
      let e : 0 + length (type_rows_from 0 ts) ≡ 8 * row_count ts = omega (arith, rows-length 0 ts) in
      drop_at (type_rows_from 0 ts) (drop (0 + length (type_rows_from 0 ts)) out) (8 * row_count ts) (rows-length 0 ts) ∙ ap (λ (n : ℕ). drop n out) e;
}

types-leave : (ts : List MessageType) (out : List ℕ) → Leaves out (types_answer ts out)
unfolding types_answer
types-leave ts out =
    refusal-leaves out (ltb (length out) rows_room) (text_refused BufferSize out) _ (record { leaves = λ h. refl; stays = refl })
    (refusal-leaves out (ltb row_limit (row_count ts)) (text_refused SectionCount out) _ (record { leaves = λ h. refl; stays = refl })
    (rows-leave ts out (large_from 0 ts)))

reading-leaves : (s out : List ℕ) (r : Reading (List Declaration)) → Leaves out (reading_answer s out r)
reading-leaves s out (offends p) = record { leaves = λ h. refl; stays = refl }
reading-leaves s out (parsed ds r) = types-leave (types_of ds) out

answer-leaves : (s out : List ℕ) → Leaves out (write_types s out)
unfolding write_types
answer-leaves s out =
    refusal-leaves out (ltb text_room (length s)) (text_refused FileLayout out) _ (record { leaves = λ h. refl; stays = refl })
    (reading-leaves s out (read_text s))

pub text-leaves : (s out : List ℕ) → (outcome_number (write_types s out).outcome ≡ 0 → ⊥) → (write_types s out).out ≡ out
text-leaves s out = (answer-leaves s out).leaves

pub text-stays : (s out : List ℕ) → drop (write_types s out).outcome.bytes (write_types s out).out ≡ drop (write_types s out).outcome.bytes out
text-stays s out = (answer-leaves s out).stays
