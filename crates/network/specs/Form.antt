-- Refusals 2 to 5 in their order: all of 2, then all of 3, then 4, then 5. Crate `refusal` has their numbers and places.
use Rattle.std.specs.Prelude.{ℕ, List, ◌≡◌}
use Rattle.basics.specs.Choice.{pick}
use Rattle.refusal.specs.declared.Refusal.{Refusal}
use Rattle.refusal.specs.declared.Refusal.TheVariants.{FileLayout, SectionCount, BrokenField, TooLarge}
use Rattle.network.specs.Layout.{laid_out, counted}
use Rattle.network.specs.Uses.{broken}
use Rattle.network.specs.Sizes.{large}
use Rattle.std.specs.Prelude.{Option, Some, None}
use Rattle.std.specs.Prelude.{Result, Ok, Err}

-- Refusal 5, with the lowest place of a row that is too large.
abbrev pub after_sizes : Option ℕ → Result (Unit {0}) Refusal
after_sizes None = (Ok tt)
after_sizes (Some p) = Err (TooLarge p)

-- Refusal 4, with the lowest place of a broken rule; then 5.
abbrev pub after_fields : Option ℕ → Option ℕ → Result (Unit {0}) Refusal
after_fields None sizes = after_sizes sizes
after_fields (Some p) sizes = Err (BrokenField p)

-- What refusals 2 to 5 say of a file.
unfoldable pub form_of : List ℕ → Result (Unit {0}) Refusal
form_of s =
    pick (laid_out s)
    (pick (counted s)
    (after_fields (broken s) (large s))  -- 4, 5
    (Err SectionCount))  -- 3
    (Err FileLayout)  -- 2

-- A file that none of 2 to 5 refuses: the hypothesis of all that is said about what its rows become.
abbrev pub WellFormed : List ℕ → Type 0
WellFormed s = form_of s ≡ (Ok tt)
