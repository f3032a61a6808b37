-- The rows of types are bytes: their ids and row numbers fit u16.
use Rattle.std.specs.Prelude.{ℕ, zero, suc, ◌+◌, ◌/◌, ◌%◌, ◌≤◌, ◌<◌, List, [], ◌∷◌, ◌++◌, Bool, true, false, eqb}
use Rattle.std.proofs.Common.{arith}
use Rattle.basics.specs.Choice.{pick}
use Rattle.wire.specs.Wire.{byte_at}
use Rattle.scalar.specs.Basic.{last_basic}
use Rattle.tree.specs.Encode.{Octets, children}
use Rattle.tree_forest.specs.Forest.{end, node, tree, levels}
use Rattle.network_syntax.specs.Syntax.{mark, basic, Types, MessageType}
use Rattle.network.specs.Shapes.{NodesShape}
use Rattle.type_text.specs.Grammar.{Declaration, TypeText}
use Rattle.type_text.specs.Meaning.{types_of}
use Rattle.type_text.specs.TypeRows.{TypeNode, type_node, level_of, levels_from, by_levels, row_bytes, rows_in, row_count, type_rows_from}
use Rattle.type_rows.specs.Ranged.{WellRanged, IdsUpTo, EachType}
use Rattle.type_rows.specs.LevelLaws.{children_in, children-type}
use Rattle.type_rows.specs.MeaningLaws.{types-ranged}
use Rattle.type_rows.specs.TextRows.{text-ids}

-- ---- bytes

octets-none : Octets []
octets-none = record { small = λ k. omega arith }

octets-one : {a : ℕ} {l : List ℕ} → a < 256 → Octets l → Octets (a ∷ l)
octets-one {a} {l} h o = record { small = λ k. go k }
  where
    go : (k : ℕ) → byte_at (a ∷ l) k < 256
    go zero = h
    go (suc k) = o.small k

octets-both : (l m : List ℕ) → Octets l → Octets m → Octets (l ++ m)
octets-both [] m o q = q
octets-both (a ∷ l) m o q = octets-one (o.small 0) (octets-both l m (record { small = λ k. o.small (suc k) }) q)

octets-word : {l : List ℕ} (v : ℕ) → v < 65536 → Octets l → Octets (v % 256 ∷ v / 256 ∷ l)
octets-word v h o = octets-one (omega arith) (octets-one (omega arith) o)

-- ---- the nodes of levels

-- Each node has an id up to 65535 and a basic type of 0 to 6.
NodesFit : List TypeNode → Type 0
NodesFit [] = Unit {0}
NodesFit (type_node i a n ∷ l) = (i ≤ 65535) × (basic a ≤ last_basic) × NodesFit l

fit-both : (l m : List TypeNode) → NodesFit l → NodesFit m → NodesFit (l ++ m)
unfolding NodesFit
fit-both [] m h g = g
fit-both (type_node i a n ∷ l) m h g = (h.0, h.1, fit-both l m h.2 g)

fit-level : (d : ℕ) (f : Types) → NodesShape f → IdsUpTo 65535 f → NodesFit (level_of d f)
unfolding level_of NodesShape IdsUpTo NodesFit
fit-level d end h g = tt
fit-level zero (node i a k r) h g = (g.0, h.1, fit-level zero r h.3 g.2)
fit-level (suc d) (node i a k r) h g =
    fit-both (level_of d k) (level_of (suc d) r) (fit-level d k h.2 g.1) (fit-level (suc d) r h.3 g.2)

fit-levels : (n d : ℕ) (f : Types) → NodesShape f → IdsUpTo 65535 f → NodesFit (levels_from n d f)
unfolding levels_from NodesFit
fit-levels zero d f h g = tt
fit-levels (suc n) d f h g = fit-both (level_of d f) (levels_from n (suc d) f) (fit-level d f h g) (fit-levels n (suc d) f h g)

fit-type : (t : MessageType) → WellRanged t → IdsUpTo 65535 (children t) → NodesFit (by_levels t)
unfolding by_levels NodesFit
fit-type (tree a k) h g = (omega arith, h.each_node.0, fit-levels (levels k) 0 k h.each_node.1 g)

-- ---- the rows

card-byte : (m : Bool) → pick m 1 0 < 256
card-byte true = omega arith
card-byte false = omega arith

first_fits : (t : Bool) (next : ℕ) → next < 65536 → pick t 0 next < 65536
first_fits true next h = omega arith
first_fits false next h = h

octets-rows : (l : List TypeNode) (next : ℕ) → NodesFit l → next + children_in l ≤ 65535 → Octets (row_bytes next l)
unfolding row_bytes NodesFit children_in
octets-rows [] next h u = octets-none
octets-rows (type_node i (mark m b) n ∷ l) next h u =
    let x = h.0 in let y = h.1 in
    octets-word i (omega arith)
    (octets-one (card-byte m) (octets-one (omega arith)
    (octets-word (pick (eqb n 0) 0 next) (first_fits (eqb n 0) next (omega arith))
    (octets-word n (omega arith) (octets-rows l (next + n) h.2 (omega arith))))))

octets-types : (ts : List MessageType) (r : ℕ) → EachType WellRanged ts → EachType (λ t. IdsUpTo 65535 (children t)) ts
    → r + row_count ts ≤ 65535 → Octets (type_rows_from r ts)
unfolding type_rows_from row_count EachType
octets-types [] r h g u = octets-none
octets-types (t ∷ l) r h g u =
    let e = children-type t in
    octets-both (row_bytes (r + 1) (by_levels t)) (type_rows_from (r + rows_in t) l)
    (octets-rows (by_levels t) (r + 1) (fit-type t h.0 g.0) (omega arith))
    (octets-types l (r + rows_in t) h.1 g.1 (omega arith))

pub rows-octets : (ts : List MessageType) → EachType WellRanged ts → EachType (λ t. IdsUpTo 65535 (children t)) ts → row_count ts ≤ 256
    → Octets (type_rows_from 0 ts)
rows-octets ts h g u = octets-types ts 0 h g (omega arith)

pub text-octets : (text : List ℕ) (ds : List Declaration) → TypeText text ds → row_count (types_of ds) ≤ 256 → Octets (type_rows_from 0 (types_of ds))
text-octets text ds h u = rows-octets (types_of ds) (types-ranged ds h.derived) (text-ids text ds h 65535 (omega arith)) u
