-- The paths, types, expressions and operations of a file that none of 2 to 5 refuses have the shapes of Shapes.antt.
use Rattle.std.specs.Prelude.{ℕ, zero, suc, ◌+◌, ◌-◌, ◌<◌, ◌≤◌, max, ◌≡◌, refl, List, [], ◌∷◌, Bool, true, false, length, eqb, leb}
use Rattle.std.proofs.Common.{sym, ◌∙◌, ap, arith, add-one}
use Rattle.std.proofs.Math.Nat.{max-le}
use Rattle.tree_forest.specs.Forest.{Tree, tree, node_of, Above, Rising, RisingTree, measure, nodes, levels}
use Rattle.scalar.specs.Value.{is_value}
use Rattle.basics.specs.Choice.{pick}
use Rattle.basics.specs.TestLaws.{and-of, clash, eq_of, le_of, lt_of, ne_of, of_eq, one_less, positive}
use Rattle.wire.specs.Wire.{byte_at, u16_at}
use Rattle.network_syntax.specs.Syntax.{Mark, Types, logical_not, negate}
use Rattle.network_syntax.specs.Syntax.{Expression, unary, input, output}
use Rattle.network.specs.declared.ExpressionKind.{ExpressionKind}
use Rattle.network.specs.Layout.{path_count, type_count, expression_count, operation_count, data_size, data_part, path_at, expression_at}
use Rattle.network.specs.Kinds.{expression_kind, expression_fields}
use Rattle.network.specs.Rows.{type_id, cardinality, first_child, child_count, id_before, field_a, field_b, field_c, field_fits, fields_rule}
use Rattle.network.specs.Rows.{constant_fits, basic_fits, expression_kind_at, expression_row, location_fits, operation_direction}
use Rattle.network.specs.Rows.{operation_two_way, operation_id, operation_location, request_type, reply_type}
use Rattle.network.specs.Sizes.{rows_sum, rows_all, levels_within, nodes_to, type_levels, operands_within, depth_within, expression_levels}
use Rattle.network.specs.Form.{WellFormed}
use Rattle.network.specs.Decode.{until_zero, path_of, mark_of, siblings, written_out, type_of, expression_from, expression_to, expression_of, no_reply}
use Rattle.network.specs.Decode.{operation_of, rows_from}
use Rattle.network.specs.Shapes.{AllPositive, PathShape, NodesShape, TreeNodesShape, tree_nodes, tree_levels, TypeShape}
use Rattle.network.specs.Shapes.{MessageTypeShape, depth, PartsShape, ExpressionShape, LocationShape, OperationShape}
use Rattle.network.proofs.LeastLaws.{rule-kept}
use Rattle.network.proofs.RowLaws.{unbroken, path-kept, TypeKept, type-kept, RootKept, type-size, expression-size}
use Rattle.network.proofs.RowLaws.{OperationKept, operation-kept}

-- ---- paths

until-positive : (l : List ℕ) → AllPositive (until_zero l)
unfolding AllPositive until_zero
until-positive [] = tt
until-positive (i ∷ is) = go (eqb i 0) refl (until-positive is)
  where
    go : (t : Bool) → eqb i 0 ≡ t → AllPositive (until_zero is) → AllPositive (pick t [] (i ∷ until_zero is))
    go true e h = tt
    go false e h = (positive i (λ z. clash (of_eq i 0 z) e), h)

until-length : (l : List ℕ) → length (until_zero l) ≤ length l
unfolding until_zero
until-length [] = omega arith
until-length (i ∷ is) = go (eqb i 0) (until-length is)
  where
    go : (t : Bool) → length (until_zero is) ≤ length is → length (pick t [] (i ∷ until_zero is)) ≤ suc (length is)
    go true h = omega arith
    go false h = omega arith

pub path-shape : (s : List ℕ) → WellFormed s → (r : ℕ) → r < path_count s → PathShape (path_of s r)
unfolding path_of
path-shape s w r l =
    let rest : List ℕ = u16_at s (path_at s r + 2) ∷ u16_at s (path_at s r + 4) ∷ u16_at s (path_at s r + 6) ∷ [] in
    (positive (u16_at s (path_at s r)) (path-kept s w r l).first, until-positive rest, until-length rest)

-- ---- types: one more sibling

rising-node : (i : ℕ) (t : Tree Mark) (r : Types) → Above i r → RisingTree t → Rising r → Rising (node_of i t r)
unfolding Rising
rising-node i (tree m k) r a h k2 = (a, h, k2)

above-node : (i j : ℕ) (t : Tree Mark) (r : Types) → i < j → Above i (node_of j t r)
above-node i j (tree m k) r h = h

nodes-node : (i : ℕ) (t : Tree Mark) (r : Types) → 0 < i → TreeNodesShape t → NodesShape r → NodesShape (node_of i t r)
unfolding NodesShape
nodes-node i (tree m k) r p h k2 = (p, h.0, h.1, k2)

count-node : (i : ℕ) (t : Tree Mark) (r : Types) → nodes (node_of i t r) ≡ tree_nodes t + nodes r
unfolding measure
count-node i (tree m k) r = refl

levels-node : (i n : ℕ) (t : Tree Mark) (r : Types) → tree_levels t ≤ n → levels r ≤ n → levels (node_of i t r) ≤ n
unfolding measure
levels-node i n (tree m k) r h k2 = max-le h k2

-- Something that holds of each row of a run.
abbrev Each : ℕ → ℕ → (ℕ → Type 0) → Type 0
Each first n P = (j : ℕ) → first ≤ j → j < first + n → P j

rising-run : (s : List ℕ) (f : ℕ → Tree Mark) (n first : ℕ) → Each first n (λ j. RisingTree (f j))
    → ((j : ℕ) → first ≤ j → j + 1 < first + n → type_id s j < type_id s (j + 1)) → Rising (siblings s f first n)
unfolding siblings Rising
rising-run s f zero first h k = tt
rising-run s f (suc n) first h k =
    rising-node (type_id s first) (f first) (siblings s f (first + 1) n)
    (above n k)
    (h first (omega arith) (omega arith))
    (rising-run s f n (first + 1) (λ j x y. h j (omega arith) (omega arith)) (λ j x y. k j (omega arith) (omega arith)))
  where
    above : (m : ℕ) → ((j : ℕ) → first ≤ j → j + 1 < first + suc m → type_id s j < type_id s (j + 1))
        → Above (type_id s first) (siblings s f (first + 1) m)
    above zero q = tt
    above (suc m) q = above-node (type_id s first) (type_id s (first + 1)) (f (first + 1)) (siblings s f (first + 1 + 1) m)
        (q first (omega arith) (omega arith))

nodes-run : (s : List ℕ) (f : ℕ → Tree Mark) (n first : ℕ) → Each first n (λ j. (0 < type_id s j) × TreeNodesShape (f j))
    → NodesShape (siblings s f first n)
unfolding siblings NodesShape
nodes-run s f zero first h = tt
nodes-run s f (suc n) first h =
    let x = h first (omega arith) (omega arith) in
    nodes-node (type_id s first) (f first) (siblings s f (first + 1) n) x.0 x.1
    (nodes-run s f n (first + 1) (λ j y z. h j (omega arith) (omega arith)))

count-run : (s : List ℕ) (f : ℕ → Tree Mark) (g : ℕ → ℕ) (t : ℕ → Bool) (n first : ℕ) → rows_all t first n ≡ true
    → ((j : ℕ) → t j ≡ true → tree_nodes (f j) ≡ g j) → nodes (siblings s f first n) ≡ rows_sum g first n
unfolding siblings rows_all rows_sum measure
count-run s f g t zero first a h = refl
count-run s f g t (suc n) first a h =
    let b = and-of (t first) (rows_all t (first + 1) n) a in
    let c = count-node (type_id s first) (f first) (siblings s f (first + 1) n) in
    let d = h first b.0 in
    let e = count-run s f g t n (first + 1) b.1 h in
    cc

levels-run : (s : List ℕ) (f : ℕ → Tree Mark) (d : ℕ) (t : ℕ → Bool) (n first : ℕ) → rows_all t first n ≡ true
    → ((j : ℕ) → t j ≡ true → tree_levels (f j) ≤ d) → levels (siblings s f first n) ≤ d
unfolding siblings rows_all measure
levels-run s f d t zero first a h = omega arith
levels-run s f d t (suc n) first a h =
    let b = and-of (t first) (rows_all t (first + 1) n) a in
    levels-node (type_id s first) d (f first) (siblings s f (first + 1) n) (h first b.0) (levels-run s f d t n (first + 1) b.1 h)

-- The ids of a run of children.
child-above : (s : List ℕ) (r : ℕ) → TypeKept s r → (j : ℕ) → first_child s r ≤ j → j < first_child s r + child_count s r → 0 < type_id s j
unfolding id_before
child-above s r k j x y = go (eqb j (first_child s r)) (k.rising j x y (let f = k.fit ne in omega arith))
  where
    ne : child_count s r ≡ 0 → ⊥
    ne e = omega arith

    go : (t : Bool) → pick t 0 (type_id s (j - 1)) < type_id s j → 0 < type_id s j
    go true h = h
    go false h = omega arith

child-rising : (s : List ℕ) (r : ℕ) → TypeKept s r → (j : ℕ) → first_child s r ≤ j → j + 1 < first_child s r + child_count s r
    → type_id s j < type_id s (j + 1)
unfolding id_before
child-rising s r k j x y = go (eqb (j + 1) (first_child s r)) refl (k.rising (j + 1) (omega arith) y (let f = k.fit ne in omega arith))
  where
    ne : child_count s r ≡ 0 → ⊥
    ne e = omega arith

    go : (t : Bool) → eqb (j + 1) (first_child s r) ≡ t → pick t 0 (type_id s (j + 1 - 1)) < type_id s (j + 1) → type_id s j < type_id s (j + 1)
    go true e h = let z = eq_of (j + 1) (first_child s r) e in absurd (omega arith)
    go false e h = let z : j + 1 - 1 ≡ j = omega arith in rw z at h

child-exists : (s : List ℕ) (r : ℕ) → TypeKept s r → (j : ℕ) → first_child s r ≤ j → j < first_child s r + child_count s r → j < type_count s
child-exists s r k j x y = let f = k.fit (λ e. omega arith) in omega arith

-- ---- types, written out

rising-written : (s : List ℕ) → WellFormed s → (d r : ℕ) → r < type_count s → RisingTree (written_out s d r)
unfolding written_out Rising
rising-written s w zero r l = tt
rising-written s w (suc d) r l =
    let k = type-kept s w r l in
    rising-run s (written_out s d) (child_count s r) (first_child s r)
    (λ j x y. rising-written s w d j (child-exists s r k j x y))
    (λ j x y. child-rising s r k j x y)

nodes-written : (s : List ℕ) → WellFormed s → (d r : ℕ) → r < type_count s → TreeNodesShape (written_out s d r)
unfolding written_out NodesShape mark_of
nodes-written s w zero r l = ((type-kept s w r l).basic_type, tt)
nodes-written s w (suc d) r l =
    let k = type-kept s w r l in (
      k.basic_type,
      nodes-run s (written_out s d) (child_count s r) (first_child s r)
          (λ j x y. (child-above s r k j x y, nodes-written s w d j (child-exists s r k j x y))),
    )

count-written : (s : List ℕ) (d r : ℕ) → levels_within s d r ≡ true → tree_nodes (written_out s d r) ≡ nodes_to s d r
unfolding written_out levels_within nodes_to
count-written s zero r h = let z : ◌≡◌ {A = ℕ} 0 1 = cc in absurd (omega arith)
count-written s (suc d) r h =
    let e = count-run s (written_out s d) (nodes_to s d) (levels_within s d) (child_count s r) (first_child s r) h (λ j t. count-written s d j t) in
    omega arith

levels-written : (s : List ℕ) (d r : ℕ) → levels_within s d r ≡ true → tree_levels (written_out s d r) ≤ d
unfolding written_out levels_within
levels-written s zero r h = let z : ◌≡◌ {A = ℕ} 0 1 = cc in absurd (omega arith)
levels-written s (suc d) r h =
    let e = levels-run s (written_out s d) d (levels_within s d) (child_count s r) (first_child s r) h (λ j t. levels-written s d j t) in
    omega arith

pub type-shape : (s : List ℕ) → WellFormed s → (r : ℕ) → r < type_count s → TypeShape (type_of s r)
type-shape s w r l =
    let z = type-size s w r l in
    record {
      rising = rising-written s w type_levels r l;
      each_node = nodes-written s w type_levels r l;
      few_nodes = let e = count-written s type_levels r z.0 in let f = z.1 in omega arith;
      few_levels = levels-written s type_levels r z.0;
    }

pub root-shape : (s : List ℕ) → WellFormed s → (r : ℕ) → RootKept s r → MessageTypeShape (type_of s r)
unfolding written_out mark_of
root-shape s w r k = record { shape = type-shape s w r k.exists; mandatory_root = of_eq (cardinality s r) 1 k.mandatory_root }

-- A T row is its mark and its children's trees.
same-written : (s : List ℕ) (d e r : ℕ) → levels_within s d r ≡ true → d ≤ e → written_out s d r ≡ written_out s e r
unfolding written_out levels_within siblings rows_all
same-written s zero e r h l = let z : ◌≡◌ {A = ℕ} 0 1 = cc in absurd (omega arith)
same-written s (suc d) zero r h l = absurd (omega arith)
same-written s (suc d) (suc e) r h l = ap (tree (mark_of s r))
    (same-run (child_count s r) (first_child s r) h (λ j t. same-written s d e j t (omega arith)))
  where
    same-run : (n first : ℕ) → rows_all (levels_within s d) first n ≡ true → ((j : ℕ) → levels_within s d j ≡ true → written_out s d j ≡ written_out s e j)
        → siblings s (written_out s d) first n ≡ siblings s (written_out s e) first n
    same-run zero first a k = refl
    same-run (suc n) first a k =
        let b = and-of (levels_within s d first) (rows_all (levels_within s d) (first + 1) n) a in
        rw (k first b.0, same-run n (first + 1) b.1 k) refl

-- A T row is its mark over its children's trees.
pub type-row : (s : List ℕ) → WellFormed s → (r : ℕ) → r < type_count s
    → type_of s r ≡ tree (mark_of s r) (siblings s (type_of s) (first_child s r) (child_count s r))
unfolding written_out
type-row s w r l = same-written s type_levels (suc type_levels) r (type-size s w r l).0 (omega arith)

-- ---- expressions

pub record ExpressionKept (s : List ℕ) (r : ℕ) : Type 0 where
  pub kind : byte_at s (expression_at s r) ≤ 9
  pub basic_type : basic_fits (expression_kind_at s r) (byte_at s (expression_at s r + 1)) ≡ true
  pub fits_a : field_fits s r (byte_at s (expression_at s r + 1)) (expression_fields (expression_kind_at s r)).a (field_a s (expression_at s r))
      (field_b s (expression_at s r)) ≡ true
  pub fits_b : field_fits s r (byte_at s (expression_at s r + 1)) (expression_fields (expression_kind_at s r)).b (field_b s (expression_at s r))
      (field_c s (expression_at s r)) ≡ true

pub expression-kept : (s : List ℕ) → WellFormed s → (r : ℕ) → r < expression_count s → ExpressionKept s r
unfolding expression_row fields_rule
expression-kept s w r l =
    let at : ℕ = expression_at s r in
    let k : ExpressionKind = expression_kind_at s r in
    let h = (unbroken s w).expressions r l in
    let a = rule-kept (leb (byte_at s at) 9) at _ h in
    let b = rule-kept (basic_fits k (byte_at s (at + 1))) (at + 1) _ a.1 in
    let c = rule-kept (field_fits s r (byte_at s (at + 1)) (expression_fields k).a (field_a s at) (field_b s at)) (at + 2) _ b.1 in
    let d = rule-kept (field_fits s r (byte_at s (at + 1)) (expression_fields k).b (field_b s at) (field_c s at)) (at + 4) _ c.1 in
    record { kind = le_of (byte_at s at) 9 a.0; basic_type = b.0; fits_a = c.0; fits_b = d.0 }

pub known-expression : (n : ℕ) → n ≤ 9 → expression_kind n ≡ ExpressionKind.Unknown → ⊥
unfolding expression_kind
known-expression zero l e = let z : ◌≡◌ {A = ℕ} 0 1 = cc in omega arith
known-expression (suc zero) l e = let z : ◌≡◌ {A = ℕ} 0 1 = cc in omega arith
known-expression (suc (suc zero)) l e = let z : ◌≡◌ {A = ℕ} 0 1 = cc in omega arith
known-expression (suc (suc (suc zero))) l e = let z : ◌≡◌ {A = ℕ} 0 1 = cc in omega arith
known-expression (suc (suc (suc (suc zero)))) l e = let z : ◌≡◌ {A = ℕ} 0 1 = cc in omega arith
known-expression (suc (suc (suc (suc (suc zero))))) l e = let z : ◌≡◌ {A = ℕ} 0 1 = cc in omega arith
known-expression (suc (suc (suc (suc (suc (suc zero)))))) l e = let z : ◌≡◌ {A = ℕ} 0 1 = cc in omega arith
known-expression (suc (suc (suc (suc (suc (suc (suc zero))))))) l e = let z : ◌≡◌ {A = ℕ} 0 1 = cc in omega arith
known-expression (suc (suc (suc (suc (suc (suc (suc (suc zero)))))))) l e = let z : ◌≡◌ {A = ℕ} 0 1 = cc in omega arith
known-expression (suc (suc (suc (suc (suc (suc (suc (suc (suc zero))))))))) l e = let z : ◌≡◌ {A = ℕ} 0 1 = cc in omega arith
known-expression (suc (suc (suc (suc (suc (suc (suc (suc (suc (suc n)))))))))) l e = omega arith

-- What is said of E row r of kind k, whose operands o gives, where it is said of the operands.
abbrev Operands : List ℕ → ℕ → ℕ → (Expression → Type 0) → Type 0
Operands s d r P = (j : ℕ) → j < r → depth_within s d j ≡ true → P (expression_to s d j)

constant-part : (s : List ℕ) (b v n : ℕ) → constant_fits s b v n ≡ true → is_value b (data_part s v n) ≡ true
unfolding constant_fits
constant-part s b v n e = (and-of (leb (v + n) (data_size s)) (is_value b (data_part s v n)) e).1

parts-by : (s : List ℕ) → WellFormed s → (d r : ℕ) (at b : ℕ) → byte_at s (at + 1) ≡ b → Operands s d r PartsShape → (k : ExpressionKind)
    → (k ≡ ExpressionKind.Unknown → ⊥)
    → field_fits s r b (expression_fields k).a (field_a s at) (field_b s at) ≡ true
    → field_fits s r b (expression_fields k).b (field_b s at) (field_c s at) ≡ true
    → operands_within k (depth_within s d (field_a s at)) (depth_within s d (field_b s at)) ≡ true → PartsShape (expression_from s (expression_to s d) at k)
unfolding expression_fields field_fits expression_from PartsShape
parts-by s w d r at b q ih ExpressionKind.Constant u x y h = rw q (constant-part s b (field_a s at) (field_b s at) x)
parts-by s w d r at b q ih ExpressionKind.ValueAt u x y h = path-shape s w (field_a s at) (lt_of (field_a s at) (path_count s) x)
parts-by s w d r at b q ih ExpressionKind.Presence u x y h = path-shape s w (field_a s at) (lt_of (field_a s at) (path_count s) x)
parts-by s w d r at b q ih ExpressionKind.Not u x y h = ih (field_a s at) (lt_of (field_a s at) r x) h
parts-by s w d r at b q ih ExpressionKind.Negate u x y h = ih (field_a s at) (lt_of (field_a s at) r x) h
parts-by s w d r at b q ih ExpressionKind.Add u x y h =
    let z = and-of (depth_within s d (field_a s at)) (depth_within s d (field_b s at)) h in
    (ih (field_a s at) (lt_of (field_a s at) r x) z.0, ih (field_b s at) (lt_of (field_b s at) r y) z.1)
parts-by s w d r at b q ih ExpressionKind.Subtract u x y h =
    let z = and-of (depth_within s d (field_a s at)) (depth_within s d (field_b s at)) h in
    (ih (field_a s at) (lt_of (field_a s at) r x) z.0, ih (field_b s at) (lt_of (field_b s at) r y) z.1)
parts-by s w d r at b q ih ExpressionKind.Less u x y h =
    let z = and-of (depth_within s d (field_a s at)) (depth_within s d (field_b s at)) h in
    (ih (field_a s at) (lt_of (field_a s at) r x) z.0, ih (field_b s at) (lt_of (field_b s at) r y) z.1)
parts-by s w d r at b q ih ExpressionKind.Equal u x y h =
    let z = and-of (depth_within s d (field_a s at)) (depth_within s d (field_b s at)) h in
    (ih (field_a s at) (lt_of (field_a s at) r x) z.0, ih (field_b s at) (lt_of (field_b s at) r y) z.1)
parts-by s w d r at b q ih ExpressionKind.And u x y h =
    let z = and-of (depth_within s d (field_a s at)) (depth_within s d (field_b s at)) h in
    (ih (field_a s at) (lt_of (field_a s at) r x) z.0, ih (field_b s at) (lt_of (field_b s at) r y) z.1)
parts-by s w d r at b q ih ExpressionKind.Unknown u x y h = absurd (u refl)

parts-to : (s : List ℕ) → WellFormed s → (d r : ℕ) → r < expression_count s → depth_within s d r ≡ true → PartsShape (expression_to s d r)
unfolding expression_to depth_within expression_kind_at
parts-to s w zero r l h = let z : ◌≡◌ {A = ℕ} 0 1 = cc in absurd (omega arith)
parts-to s w (suc d) r l h =
    let k = expression-kept s w r l in
    parts-by s w d r (expression_at s r) (byte_at s (expression_at s r + 1)) refl (λ j x y. parts-to s w d j (omega arith) y) (expression_kind_at s r)
    (λ e. known-expression (byte_at s (expression_at s r)) k.kind e) k.fits_a k.fits_b h

-- Levels of an expression.
depth-by : (s : List ℕ) (d at : ℕ) → ((j : ℕ) → depth_within s d j ≡ true → depth (expression_to s d j) ≤ d) → (k : ExpressionKind)
    → operands_within k (depth_within s d (field_a s at)) (depth_within s d (field_b s at)) ≡ true
    → depth (expression_from s (expression_to s d) at k) ≤ suc d
unfolding expression_from depth
depth-by s d at ih ExpressionKind.Constant h = omega arith
depth-by s d at ih ExpressionKind.ValueAt h = omega arith
depth-by s d at ih ExpressionKind.Presence h = omega arith
depth-by s d at ih ExpressionKind.Unknown h = omega arith
depth-by s d at ih ExpressionKind.Not h = let x = ih (field_a s at) h in omega arith
depth-by s d at ih ExpressionKind.Negate h = let x = ih (field_a s at) h in omega arith
depth-by s d at ih ExpressionKind.Add h =
    let z = and-of (depth_within s d (field_a s at)) (depth_within s d (field_b s at)) h in
    let m : max (depth (expression_to s d (field_a s at))) (depth (expression_to s d (field_b s at))) ≤ d = max-le (ih (field_a s at) z.0)
    (ih (field_b s at) z.1) in
    omega arith
depth-by s d at ih ExpressionKind.Subtract h =
    let z = and-of (depth_within s d (field_a s at)) (depth_within s d (field_b s at)) h in
    let m : max (depth (expression_to s d (field_a s at))) (depth (expression_to s d (field_b s at))) ≤ d = max-le (ih (field_a s at) z.0)
    (ih (field_b s at) z.1) in
    omega arith
depth-by s d at ih ExpressionKind.Less h =
    let z = and-of (depth_within s d (field_a s at)) (depth_within s d (field_b s at)) h in
    let m : max (depth (expression_to s d (field_a s at))) (depth (expression_to s d (field_b s at))) ≤ d = max-le (ih (field_a s at) z.0)
    (ih (field_b s at) z.1) in
    omega arith
depth-by s d at ih ExpressionKind.Equal h =
    let z = and-of (depth_within s d (field_a s at)) (depth_within s d (field_b s at)) h in
    let m : max (depth (expression_to s d (field_a s at))) (depth (expression_to s d (field_b s at))) ≤ d = max-le (ih (field_a s at) z.0)
    (ih (field_b s at) z.1) in
    omega arith
depth-by s d at ih ExpressionKind.And h =
    let z = and-of (depth_within s d (field_a s at)) (depth_within s d (field_b s at)) h in
    let m : max (depth (expression_to s d (field_a s at))) (depth (expression_to s d (field_b s at))) ≤ d = max-le (ih (field_a s at) z.0)
    (ih (field_b s at) z.1) in
    omega arith

depth-to : (s : List ℕ) (d r : ℕ) → depth_within s d r ≡ true → depth (expression_to s d r) ≤ d
unfolding expression_to depth_within
depth-to s zero r h = let z : ◌≡◌ {A = ℕ} 0 1 = cc in absurd (omega arith)
depth-to s (suc d) r h = depth-by s d (expression_at s r) (λ j x. depth-to s d j x) (expression_kind_at s r) h

pub expression-shape : (s : List ℕ) → WellFormed s → (r : ℕ) → r < expression_count s → ExpressionShape (expression_of s r)
expression-shape s w r l =
    let z = expression-size s w r l in
    record { parts = parts-to s w expression_levels r l z; few_levels = depth-to s expression_levels r z }

-- An E row by its kind, over its operands' expressions.
same_by : (s : List ℕ) (d e at : ℕ) → ((j : ℕ) → depth_within s d j ≡ true → expression_to s d j ≡ expression_to s e j) → (k : ExpressionKind)
    → operands_within k (depth_within s d (field_a s at)) (depth_within s d (field_b s at)) ≡ true
    → expression_from s (expression_to s d) at k ≡ expression_from s (expression_to s e) at k
unfolding expression_from
same_by s d e at ih ExpressionKind.Constant h = refl
same_by s d e at ih ExpressionKind.ValueAt h = refl
same_by s d e at ih ExpressionKind.Presence h = refl
same_by s d e at ih ExpressionKind.Unknown h = refl
same_by s d e at ih ExpressionKind.Not h = ap (unary logical_not) (ih (field_a s at) h)
same_by s d e at ih ExpressionKind.Negate h = ap (unary negate) (ih (field_a s at) h)
same_by s d e at ih ExpressionKind.Add h =
    let z = and-of (depth_within s d (field_a s at)) (depth_within s d (field_b s at)) h in
    let x = ih (field_a s at) z.0 in
    let y = ih (field_b s at) z.1 in
    cc
same_by s d e at ih ExpressionKind.Subtract h =
    let z = and-of (depth_within s d (field_a s at)) (depth_within s d (field_b s at)) h in
    let x = ih (field_a s at) z.0 in
    let y = ih (field_b s at) z.1 in
    cc
same_by s d e at ih ExpressionKind.Less h =
    let z = and-of (depth_within s d (field_a s at)) (depth_within s d (field_b s at)) h in
    let x = ih (field_a s at) z.0 in
    let y = ih (field_b s at) z.1 in
    cc
same_by s d e at ih ExpressionKind.Equal h =
    let z = and-of (depth_within s d (field_a s at)) (depth_within s d (field_b s at)) h in
    let x = ih (field_a s at) z.0 in
    let y = ih (field_b s at) z.1 in
    cc
same_by s d e at ih ExpressionKind.And h =
    let z = and-of (depth_within s d (field_a s at)) (depth_within s d (field_b s at)) h in
    let x = ih (field_a s at) z.0 in
    let y = ih (field_b s at) z.1 in
    cc

same-to : (s : List ℕ) (d e r : ℕ) → depth_within s d r ≡ true → d ≤ e → expression_to s d r ≡ expression_to s e r
unfolding expression_to depth_within
same-to s zero e r h l = let z : ◌≡◌ {A = ℕ} 0 1 = cc in absurd (omega arith)
same-to s (suc d) zero r h l = absurd (omega arith)
same-to s (suc d) (suc e) r h l = same_by s d e (expression_at s r) (λ j t. same-to s d e j t (omega arith)) (expression_kind_at s r) h

pub expression-row : (s : List ℕ) → WellFormed s → (r : ℕ) → r < expression_count s
    → expression_of s r ≡ expression_from s (expression_of s) (expression_at s r) (expression_kind_at s r)
unfolding expression_to
expression-row s w r l = same-to s expression_levels (suc expression_levels) r (expression-size s w r l) (omega arith)

-- ---- operations

no-reply : MessageTypeShape no_reply
unfolding Rising NodesShape measure
no-reply = record {
  shape = record {
    rising = tt;
    each_node =
        (omega arith, tt);
    few_nodes = omega arith;
    few_levels = omega arith;
  };
  mandatory_root = refl;
}

-- The direction, as the byte and as the syntax have it.
located-by : (d l : ℕ) → d ≤ 1 → location_fits d l ≡ true → LocationShape (pick (eqb d 0) input output) l
unfolding location_fits
located-by zero l h e = eq_of l 0 e
located-by (suc zero) l h e = positive l (ne_of l 0 e)
located-by (suc (suc d)) l h e = absurd (omega arith)

pub operation-shape : (s : List ℕ) → WellFormed s → (r : ℕ) → r < operation_count s → OperationShape (operation_of s r)
unfolding operation_of
operation-shape s w r l = record {
  request = root-shape s w (request_type s r) k.request;
  reply = replies (eqb (operation_two_way s r) 1) refl;
  named = positive (operation_id s r) k.named;
  located = located-by (operation_direction s r) (operation_location s r) k.directions k.location;
}
  where
    k : OperationKept s r
    k = operation-kept s w r l

    replies : (t : Bool) → eqb (operation_two_way s r) 1 ≡ t → MessageTypeShape (pick t (type_of s (reply_type s r)) no_reply)
    replies true e = root-shape s w (reply_type s r) (k.reply (eq_of (operation_two_way s r) 1 e))
    replies false e = no-reply

-- ---- a two-way operation's reply type is its T row

pub reply-row : (s : List ℕ) → WellFormed s → (o : ℕ) → o < operation_count s → (operation_of s o).two_way ≡ true
    → ((operation_of s o).reply ≡ type_of s (reply_type s o)) × (reply_type s o < type_count s)
unfolding operation_of
reply-row s w o l e =
    (ap (λ (t : Bool). pick t (type_of s (reply_type s o)) no_reply) e, ((operation-kept s w o l).reply (eq_of (operation_two_way s o) 1 e)).exists)

-- ---- rows one after another

pub rows_more : {A : Type 0} (f : ℕ → A) (i n : ℕ) → (n ≡ 0 → ⊥) → rows_from f i n ≡ f i ∷ rows_from f (i + 1) (n - 1)
unfolding rows_from
rows_more f i n z = ap (rows_from f i) (one_less n z) ∙ ap (λ (k : ℕ). f i ∷ rows_from f k (n - 1)) (sym (add-one i))

pub rows_none : {A : Type 0} (f : ℕ → A) (i n : ℕ) → n ≡ 0 → rows_from f i n ≡ []
unfolding rows_from
rows_none f i n z = ap (rows_from f i) z
