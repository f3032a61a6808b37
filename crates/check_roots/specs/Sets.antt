-- Sets of root ids, as bits: one P row stands for all that have its root id. 01: "no root id (a path's first id) occurs on both sides".
use Rattle.std.specs.Prelude.{◌≡◌, List, Bool, true, false, ◌||◌, ℕ, zero, suc, ◌+◌, ◌*◌, ◌/◌, ◌%◌, ◌<◌, ◌≤◌, get_or, length, eqb}
use Rattle.std.specs.Int.Bits.{bit_or}
use Rattle.wire.specs.Wire.{u16_at}
use Rattle.network.specs.declared.BehaviourKind.{BehaviourKind}
use Rattle.network.specs.Form.{WellFormed}
use Rattle.network.specs.Layout.{path_count, expression_count, behaviour_count, path_at, behaviour_at}
use Rattle.network.specs.Rows.{field_a, field_b, kind_at}
use Rattle.network.specs.Decode.{path_of, expression_of, branches_from, behaviour_of}
use Rattle.check_typing.specs.Occurs.{is_root, occurs_in, occurs, occurs_in_branches, no_shared_root}
use Rattle.network_rows.specs.declared.BehaviourRow.{BehaviourRow}
use Rattle.network_rows.specs.Readers.{behaviour_row_of}
use Rattle.check_roots.specs.declared.Operands.{Operands}
use Rattle.check_roots.specs.declared.Own.{Own}
use Rattle.network_row_parts.specs.declared.Subs.{Subs}

-- ---- bits

-- The binary digit k of n, the lowest first.
unfoldable pub digit : ℕ → ℕ → Bool
digit n zero = eqb (n % 2) 1
digit n (suc k) = digit (n / 2) k

-- Is P row k in the set of 32 bytes that starts at `at`?
unfoldable pub in_set : List ℕ → ℕ → ℕ → Bool
in_set s at k = digit (get_or s (at + k / 8) 0) (k % 8)

-- ---- root ids

-- The root id of P row p.
abbrev pub root_at : List ℕ → ℕ → ℕ
root_at file p = u16_at file (path_at file p)

-- Does the root id i occur: in the path p, in the E row r, in the B row r, in the n branches from row r on?
unfoldable pub path_root : List ℕ → ℕ → ℕ → Bool
path_root file p i = is_root i (path_of file p)

unfoldable pub expression_roots : List ℕ → ℕ → ℕ → Bool
expression_roots file r i = occurs_in i (expression_of file r)

unfoldable pub behaviour_roots : List ℕ → ℕ → ℕ → Bool
behaviour_roots file r i = occurs i (behaviour_of file r)

unfoldable pub branch_roots : List ℕ → ℕ → ℕ → ℕ → Bool
branch_roots file r n i = occurs_in_branches i (branches_from file (behaviour_of file) r n)

-- In a row's parts.
unfoldable pub operand_roots : List ℕ → Operands → ℕ → Bool
operand_roots file Operands.Nothing i = false
operand_roots file (Operands.Path p) i = path_root file p i
operand_roots file (Operands.One a) i = expression_roots file a i
operand_roots file (Operands.Two a b) i = expression_roots file a i || expression_roots file b i

unfoldable pub own_roots : List ℕ → Own → ℕ → Bool
own_roots file Own.Nothing i = false
own_roots file (Own.Path p) i = path_root file p i
own_roots file (Own.Paths p q) i = path_root file p i || path_root file q i
own_roots file (Own.Expression e) i = expression_roots file e i
own_roots file (Own.Both e p) i = expression_roots file e i || path_root file p i

unfoldable pub sub_roots : List ℕ → Subs → ℕ → Bool
sub_roots file Subs.Nothing i = false
sub_roots file (Subs.One a) i = behaviour_roots file a i
sub_roots file (Subs.Two a b) i = behaviour_roots file a i || behaviour_roots file b i
sub_roots file (Subs.Run first n) i = branch_roots file first n i

-- ---- sets

-- The P row that stands for the root id i.
abbrev pub row_for : List ℕ → ℕ → ℕ
row_for table i = get_or table i 0 % 256

-- For the root id of each P row it has that root id.
pub record Represented (file table : List ℕ) : Type 0 where
  pub same : (p : ℕ) → p < path_count file → p < 256 → root_at file (row_for table (root_at file p)) ≡ root_at file p

pub record Represents (file before table : List ℕ) : Type 0 where
  pub tells : length before ≡ 65536 → Represented file table

-- The set at `at` is that of the root ids of which f holds.
pub record SetOf (file table s : List ℕ) (at : ℕ) (f : ℕ → Bool) : Type 0 where
  pub has : (i : ℕ) → f i ≡ true → in_set s at (row_for table i) ≡ true
  pub only : (k : ℕ) → k < 256 → in_set s at k ≡ true → f (root_at file k) ≡ true

-- The set of each row from `first` up to `end` stands in the list, that of row j at 32 j.
abbrev pub SetsOf : List ℕ → List ℕ → List ℕ → (ℕ → ℕ → Bool) → ℕ → ℕ → Type 0
SetsOf file table s f first end = (j : ℕ) → first ≤ j → j < end → SetOf file table s (32 * j) (f j)

-- A set and the root id of the path p; a set and that of row r; the set of row r is another.
pub record WithPath (file table set : List ℕ) (p : ℕ) (x : List ℕ) : Type 0 where
  pub tells : (f : ℕ → Bool) → Represented file table → p < path_count file → p < 256 → SetOf file table set 0 f
      → SetOf file table x 0 (λ i. f i || path_root file p i)

pub record Joined (set sets : List ℕ) (r : ℕ) (x : List ℕ) : Type 0 where
  pub each : (k : ℕ) → r < 256 → k < 32 → get_or x k 0 ≡ bit_or (get_or set k 0) (get_or sets (32 * r + k) 0)

pub record Stored (before : List ℕ) (r : ℕ) (set after : List ℕ) : Type 0 where
  pub size : length before ≡ 8192 → length after ≡ 8192
  pub new : length before ≡ 8192 → (k : ℕ) → r < 256 → k < 32 → get_or after (32 * r + k) 0 ≡ get_or set k 0
  pub others : (j k : ℕ) → (j ≡ r → ⊥) → k < 32 → get_or after (32 * j + k) 0 ≡ get_or before (32 * j + k) 0

-- ---- what the functions tell, for every file that none of 2 to 5 refuses; on other bytes they end and say nothing

pub record ExpressionSet (file table known : List ℕ) (r : ℕ) (x : List ℕ) : Type 0 where
  pub tells : WellFormed file → Represented file table → r < expression_count file → SetsOf file table known (expression_roots file) 0 r
      → SetOf file table x 0 (expression_roots file r)

pub record ExpressionSets (file table before known : List ℕ) : Type 0 where
  pub tells : length before ≡ 8192 → WellFormed file → Represented file table → SetsOf file table known (expression_roots file) 0 (expression_count file)

-- The paths and the expression that a B row names are rows of the file.
abbrev pub OwnKept : List ℕ → Own → Type 0
OwnKept file Own.Nothing = Unit {0}
OwnKept file (Own.Path p) = p < path_count file
OwnKept file (Own.Paths p q) = (p < path_count file) × (q < path_count file)
OwnKept file (Own.Expression e) = e < expression_count file
OwnKept file (Own.Both e p) = (e < expression_count file) × (p < path_count file)

pub record OwnSet (file table known : List ℕ) (own : Own) (x : List ℕ) : Type 0 where
  pub tells : WellFormed file → Represented file table → OwnKept file own → SetsOf file table known (expression_roots file) 0 (expression_count file)
      → SetOf file table x 0 (own_roots file own)

-- "A sub-behaviour is a later row": row k is a row of the file after row r.
abbrev pub LaterRow : List ℕ → ℕ → ℕ → Type 0
LaterRow file r k = (r < k) × (k < behaviour_count file)

abbrev pub LaterBranches : List ℕ → ℕ → ℕ → ℕ → Type 0
LaterBranches file r first n =
    (j : ℕ) → first ≤ j → j < first + n → LaterRow file r (field_a file (behaviour_at file j)) × LaterRow file r (field_b file (behaviour_at file j))

abbrev pub SubsKept : List ℕ → ℕ → Subs → Type 0
SubsKept file r Subs.Nothing = Unit {0}
SubsKept file r (Subs.One a) = LaterRow file r a
SubsKept file r (Subs.Two a b) = LaterRow file r a × LaterRow file r b
SubsKept file r (Subs.Run first n) = LaterBranches file r first n

-- The sets of the rows after row r stand in the list.
abbrev pub LaterSets : List ℕ → List ℕ → List ℕ → ℕ → Type 0
LaterSets file table sets r = SetsOf file table sets (behaviour_roots file) (suc r) (behaviour_count file)

pub record WithBranches (file sets set : List ℕ) (at n : ℕ) (x : List ℕ) : Type 0 where
  pub tells : (table : List ℕ) (f : ℕ → Bool) (r first : ℕ) → WellFormed file → Represented file table → at ≡ behaviour_at file first
      → LaterBranches file r first n → LaterSets file table sets r → SetOf file table set 0 f → SetOf file table x 0 (λ i. f i || branch_roots file first n i)

pub record WithSubs (file sets set : List ℕ) (subs : Subs) (x : List ℕ) : Type 0 where
  pub tells : (table : List ℕ) (f : ℕ → Bool) (r : ℕ) → WellFormed file → Represented file table → SubsKept file r subs → LaterSets file table sets r
      → SetOf file table set 0 f → SetOf file table x 0 (λ i. f i || sub_roots file subs i)

pub record BehaviourSet (file table known sets : List ℕ) (r : ℕ) (x : List ℕ) : Type 0 where
  pub tells : WellFormed file → Represented file table → r < behaviour_count file → SetsOf file table known (expression_roots file) 0 (expression_count file)
      → LaterSets file table sets r → SetOf file table x 0 (behaviour_roots file r)

pub record BehaviourSets (file table known before sets : List ℕ) : Type 0 where
  pub size : length before ≡ 8192 → length sets ≡ 8192
  pub tells : length before ≡ 8192 → WellFormed file → Represented file table → SetsOf file table known (expression_roots file) 0 (expression_count file)
      → SetsOf file table sets (behaviour_roots file) 0 (behaviour_count file)

-- ---- parallels

-- x tells whether a B row is a parallel.
pub record AnyParallel (file : List ℕ) (x : Bool) : Type 0 where
  pub one : x ≡ true → (r : ℕ) × (r < behaviour_count file) × (kind_at file r ≡ BehaviourKind.Parallel)
  pub none : x ≡ false → (r a b : ℕ) → r < behaviour_count file → behaviour_row_of file r ≡ BehaviourRow.Parallel a b → ⊥

-- x tells whether the sets of the rows a and b have no P row in common, in a list with room for all rows.
pub record SetsApart (sets : List ℕ) (a b : ℕ) (x : Bool) : Type 0 where
  pub common : 8192 ≤ length sets → a < 256 → b < 256 → x ≡ false → (k : ℕ) × (k < 256) × (in_set sets (32 * a) k ≡ true) × (in_set sets (32 * b) k ≡ true)
  pub none : 8192 ≤ length sets → a < 256 → b < 256 → x ≡ true → (k : ℕ) → k < 256 → in_set sets (32 * a) k ≡ true → in_set sets (32 * b) k ≡ true → ⊥

-- By the sets the sides of each parallel are told apart: "Parallel: no root id (a path's first id) occurs on both sides".
pub record Separates (file sets : List ℕ) : Type 0 where
  pub tells : WellFormed file → (r a b : ℕ) (x : Bool) → r < behaviour_count file → behaviour_row_of file r ≡ BehaviourRow.Parallel a b → SetsApart sets a b x
      → x ≡ no_shared_root (behaviour_of file a) (behaviour_of file b)

pub record Fills (file before sets : List ℕ) : Type 0 where
  pub size : length before ≡ 8192 → length sets ≡ 8192
  pub tells : length before ≡ 8192 → Separates file sets
