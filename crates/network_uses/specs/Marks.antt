-- Marks on the B rows that are used, and what going over some uses of rows does to them. A mark that is not 0 says that the row is
-- used. The uses of one row, run, field, B row or service are given as a function: how often is row t used?
use Rattle.std.specs.Prelude.{ℕ, zero, suc, ◌+◌, ◌<◌, ◌≤◌, ◌≡◌, List, Bool, false, not, ◌&&◌, ◌||◌, get_or, length, eqb, leb, ltb}
use Rattle.network.specs.declared.FieldSort.{FieldSort}
use Rattle.network.specs.Least.{rule, least_over}
use Rattle.network.specs.Layout.{behaviour_count, service_count, behaviour_at}
use Rattle.network.specs.Uses.{one, field_uses, row_uses, service_uses, used_by_rows, used, second_use, row_use_rule, service_use_rule}
use Rattle.std.specs.Prelude.{Option, None}

-- A test holds of one of the numbers below n.
unfoldable pub some_below : ℕ → (ℕ → Bool) → Bool
some_below zero f = false
some_below (suc n) f = some_below n f || f n

-- Uses, and further uses.
unfoldable pub plus : (ℕ → ℕ) → (ℕ → ℕ) → ℕ → ℕ
plus u h t = u t + h t

-- Is row t, used u times before, used a second time by the uses h?
unfoldable pub second_of : (ℕ → ℕ) → (ℕ → ℕ) → ℕ → Bool
second_of u h t = second_use (u t) (h t)

-- The marks of the first n rows after the uses u.
pub record Marked (n : ℕ) (u : ℕ → ℕ) (marks : List ℕ) : Type 0 where
  pub room : n ≤ length marks
  pub marked : (t : ℕ) → t < n → eqb (get_or marks t 0) 0 ≡ eqb (u t) 0

-- The uses h turn the marks `before` into `after`; `again` says whether one of the n rows is used a second time.
pub record MarkStep (n : ℕ) (h : ℕ → ℕ) (before after : List ℕ) (again : Bool) : Type 0 where
  pub adds : (u : ℕ → ℕ) → Marked n u before → Marked n (plus u h) after
  pub seen : (u : ℕ → ℕ) → Marked n u before → again ≡ some_below n (second_of u h)

-- One use of row v; the uses of the rows from `first` to before `end`; those of a field of a given sort, with the field w after it.
unfoldable pub use_of : ℕ → ℕ → ℕ
use_of v t = one (eqb v t)

unfoldable pub run_to : ℕ → ℕ → ℕ → ℕ
run_to first end t = one (leb first t && ltb t end)

unfoldable pub field_use : FieldSort → ℕ → ℕ → ℕ → ℕ
field_use q v w t = one (field_uses q v w t)

-- Those of four fields a, b, c, d of the given sorts.
unfoldable pub sorts_use : FieldSort → FieldSort → FieldSort → FieldSort → ℕ → ℕ → ℕ → ℕ → ℕ → ℕ
sorts_use qa qb qc qd a b c d t =
    one (field_uses qa a b t) + (one (field_uses qb b c t) + (one (field_uses qc c 0 t) + one (field_uses qd d 0 t)))

-- Those of B row r, and of S row q.
unfoldable pub row_use : List ℕ → ℕ → ℕ → ℕ
row_use s r t = row_uses s t r

unfoldable pub service_use : List ℕ → ℕ → ℕ → ℕ
service_use s q t = service_uses s t q

-- Those of nothing; of the first i B rows; of all B rows and the first i services.
unfoldable pub no_use : ℕ → ℕ
no_use t = 0

unfoldable pub uses_to : List ℕ → ℕ → ℕ → ℕ
uses_to s i t = used_by_rows s t i

unfoldable pub uses_beside : List ℕ → ℕ → ℕ → ℕ
uses_beside s i t = used s t i

-- The second uses by B row r, by S row q, and the lack of a use of row t.
unfoldable pub row_second : List ℕ → ℕ → Option ℕ
row_second s r = least_over (behaviour_count s) (λ t. row_use_rule s t r)

unfoldable pub service_second : List ℕ → ℕ → Option ℕ
service_second s q = least_over (behaviour_count s) (λ t. service_use_rule s t q)

unfoldable pub never_used : List ℕ → ℕ → Option ℕ
never_used s t = rule (not (eqb (used s t (service_count s)) 0)) (behaviour_at s t) None

-- The pass: before it, after the B rows and their lowest second use m, before and after the services, and at its end.
pub record Unmarked (s : List ℕ) (n : ℕ) (marks : List ℕ) : Type 0 where
  pub few : n ≤ 256
  pub all : n ≡ behaviour_count s
  pub none : Marked n no_use marks

pub record ByRows (s : List ℕ) (n : ℕ) (m : Option ℕ) (marks : List ℕ) : Type 0 where
  pub lowest : m ≡ least_over n (row_second s)
  pub after : Marked n (uses_to s n) marks

pub record Beside (s : List ℕ) (n : ℕ) (marks : List ℕ) : Type 0 where
  pub few : n ≤ 256
  pub all : n ≡ behaviour_count s
  pub by_rows : Marked n (uses_to s n) marks

pub record ByServices (s : List ℕ) (n : ℕ) (m : Option ℕ) (marks : List ℕ) : Type 0 where
  pub lowest : m ≡ least_over (service_count s) (service_second s)
  pub after : Marked n (uses_beside s (service_count s)) marks

pub record AllUsed (s : List ℕ) (n : ℕ) (marks : List ℕ) : Type 0 where
  pub few : n ≤ 256
  pub after : Marked n (uses_beside s (service_count s)) marks
