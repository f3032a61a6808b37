-- What writing the T rows of a text answers. 02, Wish 1, and 01's order of numbers for the rest: 2, then 20 or 21, then 1, 3, 5.
use Rattle.std.specs.Prelude.{List, [], ◌∷◌, Bool, not, ◌&&◌, ◌||◌, ℕ, ◌+◌, ◌*◌, length, eqb, ltb}
use Rattle.basics.specs.Choice.{pick}
use Rattle.wire.specs.Wire.{byte_at, with_part}
use Rattle.refusal.specs.declared.Refusal.{Refusal}
use Rattle.refusal.specs.declared.Refusal.TheVariants.{BufferSize, FileLayout, SectionCount, TooLarge, UnknownByte, BrokenText}
use Rattle.refusal.specs.declared.Outcome.{Outcome}
use Rattle.refusal.specs.Refusal.{done_with, refused_by}
use Rattle.network_syntax.specs.Syntax.{MessageType, Optional, none, some}
use Rattle.type_text.specs.Spelling.{is_blank, in_word}
use Rattle.type_text.specs.Grammar.{Declaration}
use Rattle.type_text.specs.Reader.{Reading, parsed, offends, read_text}
use Rattle.type_text.specs.Meaning.{types_of}
use Rattle.type_text.specs.TypeRows.{rows_in, row_count, type_rows_from, is_too_large}

-- The outcome, and what the out buffer holds then.
pub record TextAnswer : Type 0 where
  pub outcome : Outcome
  pub out : List ℕ

-- "a refusal changes no buffer".
abbrev pub text_refused : Refusal → List ℕ → TextAnswer
text_refused why out = record { outcome = refused_by why; out = out }

-- "take text up to 8,192 bytes"; "into at least 2,048 bytes"; 01, 3: at most 256 rows.
abbrev pub text_room : ℕ
text_room = 8192

abbrev pub rows_room : ℕ
rows_room = 2048

abbrev pub row_limit : ℕ
row_limit = 256

-- Does the grammar use the byte: in words, as a blank, or in a mark (`:`, `{`, `}`, `.`, `?`, `[`, `,`, `]`)?
unfoldable pub is_used_byte : ℕ → Bool
is_used_byte b =
    in_word b || (is_blank b || (eqb b 58 || (eqb b 123 || (eqb b 125 ||
    (eqb b 46 || (eqb b 63 || (eqb b 91 || (eqb b 44 || eqb b 93))))))))

-- "A byte that the grammar uses nowhere is 20 and a broken declaration, duplicate or unknown name is 21, both at the text's first offending byte".
unfoldable pub text_offence : List ℕ → ℕ → Refusal
text_offence s p = pick (ltb p (length s) && not (is_used_byte (byte_at s p))) (UnknownByte p) (BrokenText p)

-- The first row, the types' rows going from r on, of the first type that is too large.
unfoldable pub large_from : ℕ → List MessageType → Optional ℕ
large_from r [] = none
large_from r (t ∷ l) = pick (is_too_large t) (some r) (large_from (r + rows_in t) l)

-- "types past their limits stay 5", its place "its row's first byte, lowest first"; else the rows, and "the result counts the bytes written out ..,
-- those past them stay".
abbrev pub rows_answer : List MessageType → List ℕ → Optional ℕ → TextAnswer
rows_answer ts out (some r) = text_refused (TooLarge (8 * r)) out
rows_answer ts out none = record { outcome = done_with (8 * row_count ts); out = with_part out 0 (type_rows_from 0 ts) }

unfoldable pub types_answer : List MessageType → List ℕ → TextAnswer
types_answer ts out =
    pick (ltb (length out) rows_room) (text_refused BufferSize out)  -- 1
    (pick (ltb row_limit (row_count ts)) (text_refused SectionCount out)  -- 3
    (rows_answer ts out (large_from 0 ts)))  -- 5

abbrev pub reading_answer : List ℕ → List ℕ → Reading (List Declaration) → TextAnswer
reading_answer s out (offends p) = text_refused (text_offence s p) out  -- 20, 21
reading_answer s out (parsed ds r) = types_answer (types_of ds) out

-- "A longer text is 2, tried first".
unfoldable pub write_types : List ℕ → List ℕ → TextAnswer
write_types s out = pick (ltb text_room (length s)) (text_refused FileLayout out) (reading_answer s out (read_text s))
