-- What a file that none of 2 to 5 refuses keeps: for every row the facts that its rules say.
use Rattle.std.specs.Prelude.{ℕ, suc, ◌+◌, ◌<◌, ◌≤◌, ◌≡◌, refl, List, Bool, true, false, not, ◌&&◌, ◌||◌, eqb, leb, ltb}
use Rattle.std.proofs.Common.{arith}
use Rattle.scalar.specs.Basic.{last_basic}
use Rattle.basics.specs.Choice.{pick}
use Rattle.basics.specs.TestLaws.{and-of, eq_of, le_of, lt_of, ne_of, not-true, of_le, of_lt, under}
use Rattle.wire.specs.Wire.{byte_at, u16_at}
use Rattle.refusal.specs.declared.Refusal.TheVariants.{FileLayout, SectionCount}
use Rattle.network.specs.Least.{least}
use Rattle.network.specs.Layout.{laid_out, counted, path_count, type_count, expression_count, behaviour_count, operation_count, service_count, path_at}
use Rattle.network.specs.Layout.{type_at, expression_at, operation_at, service_at, behaviour_at}
use Rattle.network.specs.Rows.{in_run, later_run, path_row, type_id, cardinality, type_basic, first_child, child_count, children_fit, id_before}
use Rattle.network.specs.Rows.{child_rule, child_ids, type_row, expression_row, behaviour_row, path_rows, type_rows, expression_rows, behaviour_rows}
use Rattle.network.specs.Rows.{operation_rows, service_rows}
use Rattle.network.specs.Rows.{operation_service, operation_direction, operation_two_way, operation_id, operation_location, request_type, reply_type}
use Rattle.network.specs.Rows.{root_fits, location_fits, reply_fits, same_service, same_name, repeat_rule, operation_fields, operation_links}
use Rattle.network.specs.Rows.{operation_row}
use Rattle.network.specs.Rows.{service_location, starter_row, client_row, starter_fits, client_fits, location_rule, service_row}
use Rattle.network.specs.Uses.{uses_row, uses_rows, broken}
use Rattle.network.specs.Sizes.{type_within, levels_within, nodes_to, depth_within, type_levels, type_nodes, expression_levels, type_large}
use Rattle.network.specs.Sizes.{expression_large, type_sizes, expression_sizes, large}
use Rattle.network.specs.Form.{after_fields, form_of, WellFormed}
use Rattle.network.proofs.LeastLaws.{least_kept, rule-kept, over-kept}
use Rattle.std.specs.Prelude.{Option, Some, None}
use Rattle.std.specs.Prelude.{Ok, Err}

pub in-run : (first n j : ℕ) → first ≤ j → j < first + n → in_run first n j ≡ true
in-run first n j l h = rw (of_le first j l) (of_lt j (first + n) h)

-- ---- none of 2 to 5

pub record Unrefused (s : List ℕ) : Type 0 where
  pub layout : laid_out s ≡ true
  pub counts : counted s ≡ true
  pub rules : broken s ≡ None
  pub sizes : large s ≡ None

unrefused-by : (s : List ℕ) (a b : Bool) (x y : Option ℕ) → laid_out s ≡ a → counted s ≡ b → broken s ≡ x → large s ≡ y
    → pick a (pick b (after_fields x y) (Err SectionCount)) (Err FileLayout) ≡ (Ok tt) → Unrefused s
unrefused-by s true true None None p q e f h = record { layout = p; counts = q; rules = e; sizes = f }
unrefused-by s true true None (Some y) p q e f h = let z : ◌≡◌ {A = ℕ} 0 1 = cc in absurd (omega arith)
unrefused-by s true true (Some x) y p q e f h = let z : ◌≡◌ {A = ℕ} 0 1 = cc in absurd (omega arith)
unrefused-by s true false x y p q e f h = let z : ◌≡◌ {A = ℕ} 0 1 = cc in absurd (omega arith)
unrefused-by s false b x y p q e f h = let z : ◌≡◌ {A = ℕ} 0 1 = cc in absurd (omega arith)

pub unrefused : (s : List ℕ) → WellFormed s → Unrefused s
unfolding form_of
unrefused s h = unrefused-by s (laid_out s) (counted s) (broken s) (large s) refl refl refl refl h

-- "At most 256 rows in P, T, E, B; 64 in O; 1 to 4 in S."
pub record CountsKept (s : List ℕ) : Type 0 where
  pub paths : path_count s ≤ 256
  pub types : type_count s ≤ 256
  pub expressions : expression_count s ≤ 256
  pub behaviours : behaviour_count s ≤ 256
  pub operations : operation_count s ≤ 64
  pub some_service : 1 ≤ service_count s
  pub services : service_count s ≤ 4

pub counts-kept : (s : List ℕ) → WellFormed s → CountsKept s
unfolding counted
counts-kept s w =
    let a = and-of (leb (path_count s) 256) _ (unrefused s w).counts in
    let b = and-of (leb (type_count s) 256) _ a.1 in
    let c = and-of (leb (expression_count s) 256) _ b.1 in
    let d = and-of (leb (behaviour_count s) 256) _ c.1 in
    let e = and-of (leb (operation_count s) 64) _ d.1 in
    let f = and-of (leb 1 (service_count s)) (leb (service_count s) 4) e.1 in
    record {
      paths = le_of (path_count s) 256 a.0;
      types = le_of (type_count s) 256 b.0;
      expressions = le_of (expression_count s) 256 c.0;
      behaviours = le_of (behaviour_count s) 256 d.0;
      operations = le_of (operation_count s) 64 e.0;
      some_service = le_of 1 (service_count s) f.0;
      services = le_of (service_count s) 4 f.1;
    }

-- ---- no row has a broken rule

pub record Unbroken (s : List ℕ) : Type 0 where
  pub paths : (r : ℕ) → r < path_count s → path_row s r ≡ None
  pub types : (r : ℕ) → r < type_count s → type_row s r ≡ None
  pub expressions : (r : ℕ) → r < expression_count s → expression_row s r ≡ None
  pub behaviours : (r : ℕ) → r < behaviour_count s → behaviour_row s r ≡ None
  pub uses : (r : ℕ) → r < behaviour_count s → uses_row s r ≡ None
  pub operations : (r : ℕ) → r < operation_count s → operation_row s r ≡ None
  pub services : (r : ℕ) → r < service_count s → service_row s r ≡ None

pub unbroken : (s : List ℕ) → WellFormed s → Unbroken s
unfolding broken path_rows type_rows expression_rows behaviour_rows uses_rows operation_rows service_rows
unbroken s w =
    let h = (unrefused s w).rules in
    let a = least_kept (path_rows s) (least (type_rows s)
    (least (expression_rows s) (least (behaviour_rows s) (least (uses_rows s) (least (operation_rows s) (service_rows s)))))) h in
    let b = least_kept (type_rows s) (least (expression_rows s)
    (least (behaviour_rows s) (least (uses_rows s) (least (operation_rows s) (service_rows s))))) a.1 in
    let c = least_kept (expression_rows s) (least (behaviour_rows s) (least (uses_rows s) (least (operation_rows s) (service_rows s)))) b.1 in
    let d = least_kept (behaviour_rows s) (least (uses_rows s) (least (operation_rows s) (service_rows s))) c.1 in
    let e = least_kept (uses_rows s) (least (operation_rows s) (service_rows s)) d.1 in
    let f = least_kept (operation_rows s) (service_rows s) e.1 in
    record {
      paths = λ r l. over-kept (path_row s) (path_count s) r a.0 l;
      types = λ r l. over-kept (type_row s) (type_count s) r b.0 l;
      expressions = λ r l. over-kept (expression_row s) (expression_count s) r c.0 l;
      behaviours = λ r l. over-kept (behaviour_row s) (behaviour_count s) r d.0 l;
      uses = λ r l. over-kept (uses_row s) (behaviour_count s) r e.0 l;
      operations = λ r l. over-kept (operation_row s) (operation_count s) r f.0 l;
      services = λ r l. over-kept (service_row s) (service_count s) r f.1 l;
    }

-- ---- P

pub record PathKept (s : List ℕ) (r : ℕ) : Type 0 where
  pub first : u16_at s (path_at s r) ≡ 0 → ⊥

pub path-kept : (s : List ℕ) → WellFormed s → (r : ℕ) → r < path_count s → PathKept s r
unfolding path_row
path-kept s w r l =
    let h = (unbroken s w).paths r l in
    record { first = λ e. ne_of (u16_at s (path_at s r)) 0 (rule-kept (not (eqb (u16_at s (path_at s r)) 0)) (path_at s r) _ h).0 e }

-- ---- T

-- "Children are consecutive later rows, ids rising strictly and not 0."
pub record TypeKept (s : List ℕ) (r : ℕ) : Type 0 where
  pub card : cardinality s r ≤ 1
  pub basic_type : type_basic s r ≤ last_basic
  pub later : (child_count s r ≡ 0 → ⊥) → r < first_child s r
  pub fit : (child_count s r ≡ 0 → ⊥) → first_child s r + child_count s r ≤ type_count s
  pub rising : (j : ℕ) → first_child s r ≤ j → j < first_child s r + child_count s r → j < type_count s → id_before s (first_child s r) j < type_id s j

pub type-kept : (s : List ℕ) → WellFormed s → (r : ℕ) → r < type_count s → TypeKept s r
unfolding type_row child_ids later_run children_fit child_rule
type-kept s w r l =
    let h = (unbroken s w).types r l in
    let a = rule-kept (leb (cardinality s r) 1) (type_at s r + 2) _ h in
    let b = rule-kept (leb (type_basic s r) last_basic) (type_at s r + 3) _ a.1 in
    let c = rule-kept (children_fit s r (first_child s r) (child_count s r)) (type_at s r + 4) _ b.1 in
    record {
      card = le_of (cardinality s r) 1 a.0;
      basic_type = le_of (type_basic s r) last_basic b.0;
      later = λ ne. (fits (first_child s r) (child_count s r) c.0 ne).0;
      fit = λ ne. (fits (first_child s r) (child_count s r) c.0 ne).1;
      rising = λ j x y z. ids (first_child s r) (child_count s r) j
          (over-kept (child_rule s (first_child s r) (child_count s r)) (type_count s) j c.1 z) x y;
    }
  where
    run : (first n : ℕ) → later_run (type_count s) r first n ≡ true → (r < first) × (first + n ≤ type_count s)
    run first n e = let f = and-of (ltb r first) (leb (first + n) (type_count s)) e in (lt_of r first f.0, le_of (first + n) (type_count s) f.1)

    fits : (first n : ℕ) → children_fit s r first n ≡ true → (n ≡ 0 → ⊥) → (r < first) × (first + n ≤ type_count s)
    fits first n e ne = go (eqb n 0) refl e
      where
        go : (t : Bool) → eqb n 0 ≡ t → pick t (eqb first 0) (later_run (type_count s) r first n) ≡ true → (r < first) × (first + n ≤ type_count s)
        go true p q = absurd (ne (eq_of n 0 p))
        go false p q = run first n q

    ids : (first n j : ℕ) → child_rule s first n j ≡ None → first ≤ j → j < first + n → id_before s first j < type_id s j
    ids first n j e x y =
        lt_of (id_before s first j) (type_id s j)
        (under (in_run first n j) (ltb (id_before s first j) (type_id s j))
        (rule-kept (not (in_run first n j) || ltb (id_before s first j) (type_id s j)) (type_at s j) None e).0
        (in-run first n j x y))

-- A message type's root.
pub record RootKept (s : List ℕ) (t : ℕ) : Type 0 where
  pub exists : t < type_count s
  pub mandatory_root : cardinality s t ≡ 1

pub root_kept : (s : List ℕ) (t : ℕ) → root_fits s t ≡ true → RootKept s t
unfolding root_fits
root_kept s t e =
    let f = and-of (ltb t (type_count s)) (eqb (type_id s t) 0 && eqb (cardinality s t) 1) e in
    let g = and-of (eqb (type_id s t) 0) (eqb (cardinality s t) 1) f.1 in
    record { exists = lt_of t (type_count s) f.0; mandatory_root = eq_of (cardinality s t) 1 g.1 }

-- ---- sizes

pub type-size : (s : List ℕ) → WellFormed s → (r : ℕ) → r < type_count s → (levels_within s type_levels r ≡ true) × (nodes_to s type_levels r ≤ type_nodes)
unfolding large type_sizes type_large type_within
type-size s w r l =
    let h = (least_kept (type_sizes s) (expression_sizes s) (unrefused s w).sizes).0 in
    let k = (rule-kept (type_within s r) (type_at s r) None (over-kept (type_large s) (type_count s) r h l)).0 in
    let f = and-of (levels_within s type_levels r) (leb (nodes_to s type_levels r) type_nodes) k in
    (f.0, le_of (nodes_to s type_levels r) type_nodes f.1)

pub expression-size : (s : List ℕ) → WellFormed s → (r : ℕ) → r < expression_count s → depth_within s expression_levels r ≡ true
unfolding large expression_sizes expression_large
expression-size s w r l =
    let h = (least_kept (type_sizes s) (expression_sizes s) (unrefused s w).sizes).1 in
    (rule-kept (depth_within s expression_levels r) (expression_at s r) None (over-kept (expression_large s) (expression_count s) r h l)).0

-- ---- O

pub record OperationKept (s : List ℕ) (r : ℕ) : Type 0 where
  pub owner : operation_service s r < service_count s
  pub directions : operation_direction s r ≤ 1
  pub ways : operation_two_way s r ≤ 1
  pub named : operation_id s r ≡ 0 → ⊥
  pub location : location_fits (operation_direction s r) (operation_location s r) ≡ true
  pub request : RootKept s (request_type s r)
  pub reply : operation_two_way s r ≡ 1 → RootKept s (reply_type s r)
  pub once : (q : ℕ) → q < r → same_service s r q && same_name s r q ≡ false

pub operation-kept : (s : List ℕ) → WellFormed s → (r : ℕ) → r < operation_count s → OperationKept s r
unfolding operation_row operation_fields operation_links reply_fits repeat_rule
operation-kept s w r l =
    let h = (unbroken s w).operations r l in
    let a = rule-kept (ltb (operation_service s r) (service_count s)) (operation_at s r) _ h in
    let b = rule-kept (leb (operation_direction s r) 1) (operation_at s r + 1) _ a.1 in
    let c = rule-kept (leb (operation_two_way s r) 1) (operation_at s r + 2) _ b.1 in
    let d = rule-kept (eqb (byte_at s (operation_at s r + 3)) 0) (operation_at s r + 3) _ c.1 in
    let e = rule-kept (not (eqb (operation_id s r) 0)) (operation_at s r + 4) _ d.1 in
    let f = rule-kept (location_fits (operation_direction s r) (operation_location s r)) (operation_at s r + 6) _ e.1 in
    let g = rule-kept (root_fits s (request_type s r)) (operation_at s r + 8) _ f.1 in
    let k = rule-kept (reply_fits s (operation_two_way s r) (reply_type s r)) (operation_at s r + 10) _ g.1 in
    record {
      owner = lt_of (operation_service s r) (service_count s) a.0;
      directions = le_of (operation_direction s r) 1 b.0;
      ways = le_of (operation_two_way s r) 1 c.0;
      named = ne_of (operation_id s r) 0 e.0;
      location = f.0;
      request = root_kept s (request_type s r) g.0;
      reply = λ t. root_kept s (reply_type s r) (replies (operation_two_way s r) (reply_type s r) k.0 t);
      once = λ q x. first-time q (over-kept (repeat_rule s r) r q k.1 x);
    }
  where
    replies : (n t : ℕ) → reply_fits s n t ≡ true → n ≡ 1 → root_fits s t ≡ true
    replies n t p e = rw e at p

    first-time : (q : ℕ) → repeat_rule s r q ≡ None → same_service s r q && same_name s r q ≡ false
    first-time q p = not-true (same_service s r q && same_name s r q)
        (rule-kept (not (same_service s r q && same_name s r q)) (operation_at s r) None p).0

-- ---- S

pub record ServiceKept (s : List ℕ) (r : ℕ) : Type 0 where
  pub located : service_location s r ≡ 0 → ⊥
  pub starters : starter_fits s (starter_row s r) ≡ true
  pub clients : client_fits s (client_row s r) ≡ true
  pub once : (q : ℕ) → q < r → service_location s q ≡ service_location s r → ⊥

pub service-kept : (s : List ℕ) → WellFormed s → (r : ℕ) → r < service_count s → ServiceKept s r
unfolding service_row location_rule
service-kept s w r l =
    let h = (unbroken s w).services r l in
    let a = rule-kept (not (eqb (service_location s r) 0)) (service_at s r) _ h in
    let b = rule-kept (starter_fits s (starter_row s r)) (service_at s r + 2) _ a.1 in
    let c = rule-kept (client_fits s (client_row s r)) (service_at s r + 4) _ b.1 in
    record {
      located = ne_of (service_location s r) 0 a.0;
      starters = b.0;
      clients = c.0;
      once = λ q x. first-time q (over-kept (location_rule s r) r q c.1 x);
    }
  where
    first-time : (q : ℕ) → location_rule s r q ≡ None → service_location s q ≡ service_location s r → ⊥
    first-time q p = ne_of (service_location s q) (service_location s r)
        (rule-kept (not (eqb (service_location s q) (service_location s r))) (service_at s r) None p).0

-- ---- places of rows

-- The next B row is 10 bytes on.
pub next-at : (s : List ℕ) (r : ℕ) → behaviour_at s r + 10 ≡ behaviour_at s (suc r)
unfolding behaviour_at
next-at s r = omega arith
