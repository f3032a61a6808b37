-- What a rule of the checker answers: what it gives, or the refusal of the first premise that fails. 01, Typing: "The first
-- premise that fails gives its number among 6 to 12"; Refusals: "places 6 to 12: number of the B row at fault". The kinds of
-- refusal and their numbers are those of crate refusal.
use Rattle.std.specs.Prelude.{Bool, true, false, ℕ}
use Rattle.refusal.specs.declared.Refusal.{Refusal}
use Rattle.refusal.specs.Refusal.{number_of, place_of}
use Rattle.std.specs.Prelude.{Result, Ok, Err}

-- Within one row: what is given, or the kind of refusal of the first premise that fails (its row comes with `with_row`).
pub data Attempt (A : Type 0) : Type 0 where
  fails : (ℕ → Refusal) → Attempt A
  yields : A → Attempt A

-- For a whole behaviour: what is given, or the refusal with its place.
pub data Checked (A : Type 0) : Type 0 where
  refused : Refusal → Checked A
  passed : A → Checked A

-- A premise with its kind of refusal, before the rest.
abbrev pub demand : {A : Type 0} → Bool → (ℕ → Refusal) → Attempt A → Attempt A
demand true why r = r
demand false why r = fails why

-- One step, then what follows from what it gives.
abbrev pub and_then : {A B : Type 0} → Attempt A → (A → Attempt B) → Attempt B
and_then (fails why) f = fails why
and_then (yields a) f = f a

-- The answer of a row's own premises, placed at the row.
abbrev pub with_row : {A : Type 0} → ℕ → Attempt A → Checked A
with_row r (fails why) = refused (why r)
with_row r (yields a) = passed a

-- One part of a behaviour, then what follows from what it gives.
unfoldable pub next : {A B : Type 0} → Checked A → (A → Checked B) → Checked B
next (refused why) f = refused why
next (passed a) f = f a

-- The verdict of what is checked.
abbrev pub verdict_of : {A : Type 0} → Checked A → Result (Unit {0}) Refusal
verdict_of (refused why) = Err why
verdict_of (passed a) = (Ok tt)

-- 01's number and place; "number 0 is done".
abbrev pub refusal_number : {A : Type 0} → Checked A → ℕ
refusal_number (refused why) = number_of why
refusal_number (passed a) = 0

abbrev pub refusal_place : {A : Type 0} → Checked A → ℕ
refusal_place (refused why) = place_of why
refusal_place (passed a) = 0
