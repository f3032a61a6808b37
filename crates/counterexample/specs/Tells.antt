-- What the functions of this crate tell, each for every file that none of 2 to 5 refuses; on other bytes they end and say nothing.
use Rattle.std.specs.Prelude.{◌≡◌, List, Bool, true, ℕ, ◌+◌, ◌-◌, ◌≤◌, ◌<◌, length, take}
use Rattle.tree_forest.specs.Forest.{Tree, nodes}
use Rattle.scalar.specs.Value.{Value}
use Rattle.tree.specs.Encode.{root_count, encode, rooted}
use Rattle.tree_edit.specs.Wrote.{Wrote}
use Rattle.network_syntax.specs.Syntax.{Optional, none, some}
use Rattle.network.specs.Form.{WellFormed}
use Rattle.network.specs.Layout.{type_count}
use Rattle.network.specs.Decode.{type_of}
use Rattle.check_types.specs.TypeRows.{row_types}
use Rattle.counterexample.specs.Answer.{shown_bytes}
use Rattle.counterexample_rules.specs.Smallest.{IsMessage}
use Rattle.counterexample_rules.specs.Order.{is_lower}
use Rattle.counterexample_rules.specs.Breaking.{holds_child, least_with, least_message, lower_of, lowest_of}

-- x is how many nodes the n rows from r on have written out; it is below 256 on any bytes.
pub record RowNodes (file : List ℕ) (r n x : ℕ) : Type 0 where
  pub small : x < 256
  pub tells : WellFormed file → r + n ≤ type_count file → nodes (row_types file r n) < 256 → x ≡ nodes (row_types file r n)

-- x says of the number j what one more than the nodes of the n rows from r on says.
pub record Spans (file : List ℕ) (r n j x : ℕ) : Type 0 where
  pub holding : WellFormed file → r + n ≤ type_count file → nodes (row_types file r n) < 256 → (m : Bool) →
      holds_child m j x ≡ holds_child m j (1 + nodes (row_types file r n))
  pub later : WellFormed file → r + n ≤ type_count file → nodes (row_types file r n) < 256 → j - x ≡ j - (1 + nodes (row_types file r n))

-- x is how many of the n rows from r on the least message with their node number j holds.
pub record Held (file : List ℕ) (r n j x : ℕ) : Type 0 where
  pub small : x ≤ n
  pub tells : WellFormed file → r + n ≤ type_count file → nodes (row_types file r n) < 256 → x ≡ root_count (least_with j (row_types file r n))

-- The least siblings of the n rows from r on with their node number j are written from w on, up to e.
pub record LeastWritten (file : List ℕ) (r n j : ℕ) (o o' : List ℕ) (w e : ℕ) : Type 0 where
  pub inside : e ≤ length o
  pub writes : WellFormed file → r + n ≤ type_count file → nodes (row_types file r n) < 256 →
      w + length (encode (least_with j (row_types file r n))) ≤ length o →
      Wrote o o' w e (length (encode (least_with j (row_types file r n)))) (encode (least_with j (row_types file r n)))

-- The least message of row r with its node number j is written from the start on, up to e.
pub record MessageWritten (file : List ℕ) (r j : ℕ) (o o' : List ℕ) (e : ℕ) : Type 0 where
  pub inside : e ≤ length o
  pub writes : WellFormed file → r < type_count file → Wrote o o' 0 e e (encode (rooted (least_message (type_of file r) j)))

-- It is a message, if it is there.
abbrev pub IfMessage : Optional (Tree Value) → Type 0
IfMessage none = Unit {0}
IfMessage (some m) = IsMessage m

-- Is m lower than the lowest one so far?
abbrev pub is_better : Tree Value → Optional (Tree Value) → Bool
is_better m none = true
is_better m (some best) = is_lower m best

-- x tells whether the message a is lower than b, where b is one.
pub record BetterTold (a b : List ℕ) (x : Bool) : Type 0 where
  pub tells : (m : Tree Value) (best : Optional (Tree Value)) → IsMessage m → IfMessage best →
      a ≡ encode (rooted m) → b ≡ shown_bytes best → x ≡ is_better m best

-- The first n bytes of s are the message, none where n is 0.
abbrev pub HoldsMessage : List ℕ → ℕ → Optional (Tree Value) → Type 0
HoldsMessage s n best = (take n s ≡ shown_bytes best) × IfMessage best

-- The buffer holds the lower of what it held and the least message of row `first` with its node number j, if that does not fit row `second`.
pub record Considered (file : List ℕ) (first second j : ℕ) (o o' : List ℕ) (n n' : ℕ) : Type 0 where
  pub inside : n' ≤ length o
  pub tells : WellFormed file → first < type_count file → second < type_count file → (best : Optional (Tree Value)) → HoldsMessage o n best →
      HoldsMessage o' n' (lower_of (type_of file second) (least_message (type_of file first) j) best)

-- The buffer holds the lowest of those least messages with a node below number j.
pub record Searched (file : List ℕ) (first second j : ℕ) (o : List ℕ) (n : ℕ) : Type 0 where
  pub inside : n ≤ length o
  pub tells : WellFormed file → first < type_count file → second < type_count file → HoldsMessage o n (lowest_of (type_of file first) (type_of file second) j)
