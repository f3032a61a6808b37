-- The rules of refusal 4, each with its place, as a relation. 01, 4: "A field or link breaks its row's rule, lowest place first (place: the
-- field's first byte; for a run or constant its start, for a type's root the O field, for a child its id; for a B row never used, a second
-- use or a repeated id, the first byte of that row, of the using row or of the later row)". And of refusal 5: "A type or expression is too
-- large (place: its row's first byte, lowest first)". LowestLaws: the place that the checker gives is the lowest of these.
use Rattle.std.specs.Prelude.{ℕ, ◌+◌, ◌<◌, ◌≡◌, List, true, false, not, ◌&&◌, ◌||◌, eqb, leb, ltb}
use Rattle.scalar.specs.Basic.{last_basic}
use Rattle.wire.specs.Wire.{byte_at, u16_at}
use Rattle.network.specs.Layout.{path_count, type_count, expression_count, behaviour_count, operation_count, service_count}
use Rattle.network.specs.Layout.{path_at, type_at, expression_at, behaviour_at, operation_at, service_at}
use Rattle.network.specs.declared.ExpressionKind.{ExpressionKind}
use Rattle.network.specs.declared.BehaviourKind.{BehaviourKind}
use Rattle.network.specs.Kinds.{expression_fields, behaviour_fields}
use Rattle.network.specs.Rows.{in_run, cardinality, type_basic, type_id, first_child, child_count, children_fit, id_before, field_a, field_b, field_c, field_d}
use Rattle.network.specs.Rows.{expression_kind_at, kind_at, is_choice_kind, is_branch_kind, field_fits, basic_fits, operation_service, operation_direction}
use Rattle.network.specs.Rows.{operation_two_way, operation_id, operation_location, request_type, reply_type, root_fits, location_fits, reply_fits}
use Rattle.network.specs.Rows.{same_service, same_name, service_location, starter_row, client_row, starter_fits, client_fits}
use Rattle.network.specs.Uses.{row_uses, service_uses, used_by_rows, used, second_use}
use Rattle.network.specs.Sizes.{type_within, depth_within, expression_levels}

-- P: "the first is not 0; after a 0 only 0"; a path row, its first byte, and the place at which a rule is broken.
pub data PathBreaks (s : List ℕ) (at : ℕ) : ℕ → Type 0 where
  path_first : not (eqb (u16_at s at) 0) ≡ false → PathBreaks s at at
  path_second : (not (eqb (u16_at s at) 0) || eqb (u16_at s (at + 2)) 0) ≡ false → PathBreaks s at (at + 2)
  path_third : (not (eqb (u16_at s (at + 2)) 0) || eqb (u16_at s (at + 4)) 0) ≡ false → PathBreaks s at (at + 4)
  path_fourth : (not (eqb (u16_at s (at + 4)) 0) || eqb (u16_at s (at + 6)) 0) ≡ false → PathBreaks s at (at + 6)

-- T: "cardinality u8 .., basic u8 ..", "Children are consecutive later rows, ids rising strictly and not 0"; "for a child
-- its id".
pub data TypeBreaks (s : List ℕ) (r : ℕ) : ℕ → Type 0 where
  type_cardinality : leb (cardinality s r) 1 ≡ false → TypeBreaks s r (type_at s r + 2)
  type_basic_type : leb (type_basic s r) last_basic ≡ false → TypeBreaks s r (type_at s r + 3)
  type_children : children_fit s r (first_child s r) (child_count s r) ≡ false → TypeBreaks s r (type_at s r + 4)
  child_id : (j : ℕ) → j < type_count s
      → (not (in_run (first_child s r) (child_count s r) j) || ltb (id_before s (first_child s r) j) (type_id s j)) ≡ false
      → TypeBreaks s r (type_at s j)

-- E: "kind u8, basic u8, a, b, c u16", by the kind; r is the row, `at` its first byte.
pub data ExpressionBreaks (s : List ℕ) (r at : ℕ) (k : ExpressionKind) : ℕ → Type 0 where
  expression_kind_byte : leb (byte_at s at) 9 ≡ false → ExpressionBreaks s r at k at
  expression_basic : basic_fits k (byte_at s (at + 1)) ≡ false → ExpressionBreaks s r at k (at + 1)
  expression_a : field_fits s r (byte_at s (at + 1)) (expression_fields k).a (field_a s at) (field_b s at) ≡ false
      → ExpressionBreaks s r at k (at + 2)
  expression_b : field_fits s r (byte_at s (at + 1)) (expression_fields k).b (field_b s at) (field_c s at) ≡ false
      → ExpressionBreaks s r at k (at + 4)
  expression_c : field_fits s r (byte_at s (at + 1)) (expression_fields k).c (field_c s at) 0 ≡ false
      → ExpressionBreaks s r at k (at + 6)

-- B: "kind u8, 0, then a, b, c, d u16", by the kind; every row of a choice's run is a branch, and "for a run .. its start".
pub data BehaviourBreaks (s : List ℕ) (r at : ℕ) (k : BehaviourKind) : ℕ → Type 0 where
  behaviour_kind_byte : leb (byte_at s at) 11 ≡ false → BehaviourBreaks s r at k at
  behaviour_unused : eqb (byte_at s (at + 1)) 0 ≡ false → BehaviourBreaks s r at k (at + 1)
  behaviour_a : field_fits s r 0 (behaviour_fields k).a (field_a s at) (field_b s at) ≡ false
      → BehaviourBreaks s r at k (at + 2)
  behaviour_b : field_fits s r 0 (behaviour_fields k).b (field_b s at) (field_c s at) ≡ false
      → BehaviourBreaks s r at k (at + 4)
  behaviour_c : field_fits s r 0 (behaviour_fields k).c (field_c s at) 0 ≡ false → BehaviourBreaks s r at k (at + 6)
  behaviour_d : field_fits s r 0 (behaviour_fields k).d (field_d s at) 0 ≡ false → BehaviourBreaks s r at k (at + 8)
  choice_branches : (j : ℕ) → j < behaviour_count s → is_choice_kind k ≡ true
      → (not (in_run (field_a s at) (field_b s at) j) || is_branch_kind (kind_at s j)) ≡ false
      → BehaviourBreaks s r at k (at + 2)

-- B: "Each row is used exactly once, by a row or a service"; "for a B row never used, a second use .. the first byte of that row, of the using
-- row".
pub data UseBreaks (s : List ℕ) (r : ℕ) : ℕ → Type 0 where
  never_used : not (eqb (used s r (service_count s)) 0) ≡ false → UseBreaks s r (behaviour_at s r)
  used_again_by_row : (j : ℕ) → j < behaviour_count s → not (second_use (used_by_rows s r j) (row_uses s r j)) ≡ false
      → UseBreaks s r (behaviour_at s j)
  used_again_by_service : (j : ℕ) → j < service_count s → not (second_use (used s r j) (service_uses s r j)) ≡ false
      → UseBreaks s r (service_at s j)

-- O: "service row u8, direction u8 (0 in, 1 out), two-way u8 (0, 1), 0, id u16, location u16 .., request type u16, reply type u16 ..";
-- "Input ids are unique in a service; so are pairs of id and location for outputs"; "a repeated id, the first byte .. of the later row".
pub data OperationBreaks (s : List ℕ) (r : ℕ) : ℕ → Type 0 where
  operation_service_row : ltb (operation_service s r) (service_count s) ≡ false → OperationBreaks s r (operation_at s r)
  operation_direction_byte : leb (operation_direction s r) 1 ≡ false → OperationBreaks s r (operation_at s r + 1)
  operation_two_way_byte : leb (operation_two_way s r) 1 ≡ false → OperationBreaks s r (operation_at s r + 2)
  operation_unused : eqb (byte_at s (operation_at s r + 3)) 0 ≡ false → OperationBreaks s r (operation_at s r + 3)
  operation_id_zero : not (eqb (operation_id s r) 0) ≡ false → OperationBreaks s r (operation_at s r + 4)
  operation_place : location_fits (operation_direction s r) (operation_location s r) ≡ false
      → OperationBreaks s r (operation_at s r + 6)
  operation_request : root_fits s (request_type s r) ≡ false → OperationBreaks s r (operation_at s r + 8)
  operation_reply : reply_fits s (operation_two_way s r) (reply_type s r) ≡ false
      → OperationBreaks s r (operation_at s r + 10)
  operation_repeated : (j : ℕ) → j < r → not (same_service s r j && same_name s r j) ≡ false
      → OperationBreaks s r (operation_at s r)

-- S: "location u16, unique and not 0; starter row (a choice), client row, 65535 for none". Any key id is one.
pub data ServiceBreaks (s : List ℕ) (r : ℕ) : ℕ → Type 0 where
  service_location_zero : not (eqb (service_location s r) 0) ≡ false → ServiceBreaks s r (service_at s r)
  service_starter : starter_fits s (starter_row s r) ≡ false → ServiceBreaks s r (service_at s r + 2)
  service_client : client_fits s (client_row s r) ≡ false → ServiceBreaks s r (service_at s r + 4)
  service_repeated : (j : ℕ) → j < r → not (eqb (service_location s j) (service_location s r)) ≡ false
      → ServiceBreaks s r (service_at s r)

-- A rule of the file s is broken at the place p: one of a row of some section. Each constructor above is a rule, and says that it does not hold.
pub data Breaks (s : List ℕ) (p : ℕ) : Type 0 where
  in_path : (r : ℕ) → r < path_count s → PathBreaks s (path_at s r) p → Breaks s p
  in_type : (r : ℕ) → r < type_count s → TypeBreaks s r p → Breaks s p
  in_expression : (r : ℕ) → r < expression_count s
      → ExpressionBreaks s r (expression_at s r) (expression_kind_at s r) p → Breaks s p
  in_behaviour : (r : ℕ) → r < behaviour_count s → BehaviourBreaks s r (behaviour_at s r) (kind_at s r) p → Breaks s p
  in_use : (r : ℕ) → r < behaviour_count s → UseBreaks s r p → Breaks s p
  in_operation : (r : ℕ) → r < operation_count s → OperationBreaks s r p → Breaks s p
  in_service : (r : ℕ) → r < service_count s → ServiceBreaks s r p → Breaks s p

-- A row is too large: "Every T row written out has at most 16 nodes and 4 levels, every E row 8 levels".
pub data TooLargeAt (s : List ℕ) : ℕ → Type 0 where
  large_type : (r : ℕ) → r < type_count s → type_within s r ≡ false → TooLargeAt s (type_at s r)
  large_expression : (r : ℕ) → r < expression_count s → depth_within s expression_levels r ≡ false
      → TooLargeAt s (expression_at s r)
