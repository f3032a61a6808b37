-- "lowest place first": the place of refusal 4 is that of a broken rule, and no rule is broken at a lower one; so it is for refusal 5.
use Rattle.std.specs.Prelude.{ℕ, ◌<◌, ◌≤◌, List, Bool}
use Rattle.std.proofs.Math.Path.{◌≡◌, refl, sym, ap, subst}
use Rattle.std.proofs.Common.{◌∙◌, inl, inr, le_refl, arith}
use Rattle.std.proofs.Math.Bool.{true, false}
use Rattle.std.proofs.Math.Logic.{⊎_elim}
use Rattle.basics.specs.Choice.{pick}
use Rattle.refusal.specs.declared.Refusal.{Refusal}
use Rattle.refusal.specs.declared.Refusal.TheVariants.{FileLayout, SectionCount, BrokenField, TooLarge}
use Rattle.network.specs.Least.{least, rule, least_over}
use Rattle.network.proofs.LeastLaws.{AtOrBelow, least-hit, rule-hit, over-hit, least-below, rule-below, over_below}
use Rattle.network.specs.Layout.{path_count, type_count, expression_count, behaviour_count, operation_count, service_count, path_at, expression_at, behaviour_at, laid_out, counted}
use Rattle.network.specs.Rows.{path_row, type_row, child_rule, child_ids, fields_rule, expression_row, behaviour_head, branch_rule, branch_row_rule, choice_run}
use Rattle.network.specs.Rows.{behaviour_row, operation_fields, operation_links, repeat_rule, operation_row, location_rule, service_row, path_rows, type_rows}
use Rattle.network.specs.Rows.{expression_rows, behaviour_rows, operation_rows, service_rows, expression_kind_at, kind_at, is_choice_kind, first_child, child_count}
use Rattle.network.specs.Uses.{row_use_rule, service_use_rule, uses_row, uses_rows, broken}
use Rattle.network.specs.Sizes.{type_large, expression_large, type_sizes, expression_sizes, large}
use Rattle.network.specs.Form.{after_fields, form_of}
use Rattle.network.specs.Breaks.{path_first, path_second, path_third, path_fourth, type_cardinality, type_basic_type, type_children, child_id}
use Rattle.network.specs.Breaks.{expression_kind_byte, expression_basic, expression_a, expression_b, expression_c, behaviour_kind_byte, behaviour_unused}
use Rattle.network.specs.Breaks.{behaviour_a, behaviour_b, behaviour_c, behaviour_d, choice_branches, never_used, used_again_by_row, used_again_by_service}
use Rattle.network.specs.Breaks.{operation_service_row, operation_direction_byte, operation_two_way_byte, operation_unused, operation_id_zero}
use Rattle.network.specs.Breaks.{operation_place, operation_request, operation_reply, operation_repeated, service_location_zero, service_starter}
use Rattle.network.specs.Breaks.{service_client, service_repeated}
use Rattle.network.specs.Breaks.{in_path, in_type, in_expression, in_behaviour, in_use, in_operation, in_service}
use Rattle.network.specs.Breaks.{PathBreaks, TypeBreaks, ExpressionBreaks, BehaviourBreaks, UseBreaks, OperationBreaks, ServiceBreaks}
use Rattle.network.specs.Breaks.{Breaks, TooLargeAt, large_type, large_expression}
use Rattle.std.specs.Prelude.{Option, Some, None}
use Rattle.std.specs.Prelude.{Result, Ok, Err}

-- A rule before others: the answer is its place or theirs; it is at or below its place, and theirs.
hit : {C : Type 0} (t : Bool) (x : ℕ) (m : Option ℕ) (p : ℕ) → (t ≡ false → x ≡ p → C) → (m ≡ Some p → C) → rule t x m ≡ Some p → C
hit t x m p f g e = ⊎_elim (λ h. f h.0 h.1) g (rule-hit t x m p e)

nothing : {C : Type 0} (p : ℕ) → None ≡ Some p → C
nothing p e = absurd (let z : ◌≡◌ {A = ℕ} 0 1 = cc in omega arith)

here : (t : Bool) (x : ℕ) (m : Option ℕ) → t ≡ false → AtOrBelow (rule t x m) x
here t x m e = rule-below t x m x (inl (e, le_refl x))

past : (t : Bool) (x : ℕ) (m : Option ℕ) (p : ℕ) → AtOrBelow m p → AtOrBelow (rule t x m) p
past t x m p h = rule-below t x m p (inr h)

-- ---- the answer of a row is the place of one of its rules

module _ (s : List ℕ) where
  path_row-hit : (r : ℕ) → r < path_count s → (p : ℕ) → path_row s r ≡ Some p → Breaks s p
  unfolding path_row
  path_row-hit r l p =
      hit _ _ _ p (λ h q. subst (Breaks s) q (in_path r l (path_first h)))
      (hit _ _ _ p (λ h q. subst (Breaks s) q (in_path r l (path_second h)))
      (hit _ _ _ p (λ h q. subst (Breaks s) q (in_path r l (path_third h)))
      (hit _ _ _ p (λ h q. subst (Breaks s) q (in_path r l (path_fourth h)))
      (nothing p))))

  child_rule-hit : (r : ℕ) → r < type_count s → (j : ℕ) → j < type_count s → (p : ℕ) → child_rule s (first_child s r) (child_count s r) j ≡ Some p → Breaks s p
  unfolding child_rule
  child_rule-hit r l j k p = hit _ _ _ p (λ h q. subst (Breaks s) q (in_type r l (child_id j k h))) (nothing p)

  type_row-hit : (r : ℕ) → r < type_count s → (p : ℕ) → type_row s r ≡ Some p → Breaks s p
  unfolding type_row child_ids
  type_row-hit r l p =
      hit _ _ _ p (λ h q. subst (Breaks s) q (in_type r l (type_cardinality h)))
      (hit _ _ _ p (λ h q. subst (Breaks s) q (in_type r l (type_basic_type h)))
      (hit _ _ _ p (λ h q. subst (Breaks s) q (in_type r l (type_children h)))
      (λ e. let w = over-hit (child_rule s (first_child s r) (child_count s r)) (type_count s) p e in child_rule-hit r l w.0 w.1 p w.2)))

  expression_row-hit : (r : ℕ) → r < expression_count s → (p : ℕ) → expression_row s r ≡ Some p → Breaks s p
  unfolding expression_row fields_rule
  expression_row-hit r l p =
      hit _ _ _ p (λ h q. subst (Breaks s) q (in_expression r l (expression_kind_byte h)))
      (hit _ _ _ p (λ h q. subst (Breaks s) q (in_expression r l (expression_basic h)))
      (hit _ _ _ p (λ h q. subst (Breaks s) q (in_expression r l (expression_a h)))
      (hit _ _ _ p (λ h q. subst (Breaks s) q (in_expression r l (expression_b h)))
      (hit _ _ _ p (λ h q. subst (Breaks s) q (in_expression r l (expression_c h)))
      (nothing p)))))

  branch-hit : (r : ℕ) → r < behaviour_count s → is_choice_kind (kind_at s r) ≡ true → (j : ℕ) → j < behaviour_count s → (p : ℕ)
      → branch_rule s (behaviour_at s r) j ≡ Some p → Breaks s p
  unfolding branch_rule
  branch-hit r l c j k p = hit _ _ _ p (λ h q. subst (Breaks s) q (in_behaviour r l (choice_branches j k c h))) (nothing p)

  choice-hit : (r : ℕ) → r < behaviour_count s → (p : ℕ) → choice_run s r ≡ Some p → Breaks s p
  unfolding choice_run branch_row_rule
  choice-hit r l p e = go (is_choice_kind (kind_at s r)) refl e
    where
      go : (c : Bool) → is_choice_kind (kind_at s r) ≡ c → pick c (least_over (behaviour_count s) (branch_rule s (behaviour_at s r))) None ≡ Some p → Breaks s p
      go true c e = let w = over-hit (branch_rule s (behaviour_at s r)) (behaviour_count s) p e in branch-hit r l c w.0 w.1 p w.2
      go false c e = nothing p e

  behaviour_row-hit : (r : ℕ) → r < behaviour_count s → (p : ℕ) → behaviour_row s r ≡ Some p → Breaks s p
  unfolding behaviour_row behaviour_head fields_rule
  behaviour_row-hit r l p =
      hit _ _ _ p (λ h q. subst (Breaks s) q (in_behaviour r l (behaviour_kind_byte h)))
      (hit _ _ _ p (λ h q. subst (Breaks s) q (in_behaviour r l (behaviour_unused h)))
      (hit _ _ _ p (λ h q. subst (Breaks s) q (in_behaviour r l (behaviour_a h)))
      (hit _ _ _ p (λ h q. subst (Breaks s) q (in_behaviour r l (behaviour_b h)))
      (hit _ _ _ p (λ h q. subst (Breaks s) q (in_behaviour r l (behaviour_c h)))
      (hit _ _ _ p (λ h q. subst (Breaks s) q (in_behaviour r l (behaviour_d h)))
      (choice-hit r l p))))))

  repeat_rule-hit : (r : ℕ) → r < operation_count s → (j : ℕ) → j < r → (p : ℕ) → repeat_rule s r j ≡ Some p → Breaks s p
  unfolding repeat_rule
  repeat_rule-hit r l j k p = hit _ _ _ p (λ h q. subst (Breaks s) q (in_operation r l (operation_repeated j k h))) (nothing p)

  operation_row-hit : (r : ℕ) → r < operation_count s → (p : ℕ) → operation_row s r ≡ Some p → Breaks s p
  unfolding operation_row operation_fields operation_links
  operation_row-hit r l p =
      hit _ _ _ p (λ h q. subst (Breaks s) q (in_operation r l (operation_service_row h)))
      (hit _ _ _ p (λ h q. subst (Breaks s) q (in_operation r l (operation_direction_byte h)))
      (hit _ _ _ p (λ h q. subst (Breaks s) q (in_operation r l (operation_two_way_byte h)))
      (hit _ _ _ p (λ h q. subst (Breaks s) q (in_operation r l (operation_unused h)))
      (hit _ _ _ p (λ h q. subst (Breaks s) q (in_operation r l (operation_id_zero h)))
      (hit _ _ _ p (λ h q. subst (Breaks s) q (in_operation r l (operation_place h)))
      (hit _ _ _ p (λ h q. subst (Breaks s) q (in_operation r l (operation_request h)))
      (hit _ _ _ p (λ h q. subst (Breaks s) q (in_operation r l (operation_reply h)))
      (λ e. let w = over-hit (repeat_rule s r) (r) p e in repeat_rule-hit r l w.0 w.1 p w.2))))))))

  location_rule-hit : (r : ℕ) → r < service_count s → (j : ℕ) → j < r → (p : ℕ) → location_rule s r j ≡ Some p → Breaks s p
  unfolding location_rule
  location_rule-hit r l j k p = hit _ _ _ p (λ h q. subst (Breaks s) q (in_service r l (service_repeated j k h))) (nothing p)

  service_row-hit : (r : ℕ) → r < service_count s → (p : ℕ) → service_row s r ≡ Some p → Breaks s p
  unfolding service_row
  service_row-hit r l p =
      hit _ _ _ p (λ h q. subst (Breaks s) q (in_service r l (service_location_zero h)))
      (hit _ _ _ p (λ h q. subst (Breaks s) q (in_service r l (service_starter h)))
      (hit _ _ _ p (λ h q. subst (Breaks s) q (in_service r l (service_client h)))
      (λ e. let w = over-hit (location_rule s r) (r) p e in location_rule-hit r l w.0 w.1 p w.2)))

  row_use-hit : (r : ℕ) → r < behaviour_count s → (j : ℕ) → j < behaviour_count s → (p : ℕ) → row_use_rule s r j ≡ Some p → Breaks s p
  unfolding row_use_rule
  row_use-hit r l j k p = hit _ _ _ p (λ h q. subst (Breaks s) q (in_use r l (used_again_by_row j k h))) (nothing p)

  service_use-hit : (r : ℕ) → r < behaviour_count s → (j : ℕ) → j < service_count s → (p : ℕ) → service_use_rule s r j ≡ Some p → Breaks s p
  unfolding service_use_rule
  service_use-hit r l j k p = hit _ _ _ p (λ h q. subst (Breaks s) q (in_use r l (used_again_by_service j k h))) (nothing p)

  uses_row-hit : (r : ℕ) → r < behaviour_count s → (p : ℕ) → uses_row s r ≡ Some p → Breaks s p
  unfolding uses_row
  uses_row-hit r l p =
      hit _ _ _ p (λ h q. subst (Breaks s) q (in_use r l (never_used h)))
      (λ e. ⊎_elim
      (λ h. let w = over-hit (row_use_rule s r) (behaviour_count s) p h in row_use-hit r l w.0 w.1 p w.2)
      (λ h. let w = over-hit (service_use_rule s r) (service_count s) p h in service_use-hit r l w.0 w.1 p w.2)
      (least-hit (least_over (behaviour_count s) (row_use_rule s r)) (least_over (service_count s) (service_use_rule s r)) p e))

  -- The lowest place in the sections after one.
  abbrev after_uses : Option ℕ
  after_uses = least (operation_rows s) (service_rows s)

  abbrev after_behaviours : Option ℕ
  after_behaviours = least (uses_rows s) after_uses

  abbrev after_expressions : Option ℕ
  after_expressions = least (behaviour_rows s) after_behaviours

  abbrev after_types : Option ℕ
  after_types = least (expression_rows s) after_expressions

  abbrev after_paths : Option ℕ
  after_paths = least (type_rows s) after_types

  either : {C : Type 0} (a b : Option ℕ) (p : ℕ) → (a ≡ Some p → C) → (b ≡ Some p → C) → least a b ≡ Some p → C
  either a b p f g e = ⊎_elim f g (least-hit a b p e)

  some-row : {C : Type 0} (f : ℕ → Option ℕ) (n p : ℕ) → ((r : ℕ) → r < n → (q : ℕ) → f r ≡ Some q → Breaks s q) → (Breaks s p → C) → least_over n f ≡ Some p → C
  some-row f n p g k e = let w = over-hit f n p e in k (g w.0 w.1 p w.2)

  broken-hit : (p : ℕ) → broken s ≡ Some p → Breaks s p
  unfolding broken path_rows type_rows expression_rows behaviour_rows uses_rows operation_rows service_rows
  broken-hit p =
      either (path_rows s) after_paths p (some-row (path_row s) (path_count s) p path_row-hit (λ b. b))
      (either (type_rows s) after_types p (some-row (type_row s) (type_count s) p type_row-hit (λ b. b))
      (either (expression_rows s) after_expressions p (some-row (expression_row s) (expression_count s) p expression_row-hit (λ b. b))
      (either (behaviour_rows s) after_behaviours p (some-row (behaviour_row s) (behaviour_count s) p behaviour_row-hit (λ b. b))
      (either (uses_rows s) after_uses p (some-row (uses_row s) (behaviour_count s) p uses_row-hit (λ b. b))
      (either (operation_rows s) (service_rows s) p (some-row (operation_row s) (operation_count s) p operation_row-hit (λ b. b))
      (some-row (service_row s) (service_count s) p service_row-hit (λ b. b)))))))

  -- ---- the answer is at or below the place of every broken rule

  in-path : (r p : ℕ) → r < path_count s → AtOrBelow (path_row s r) p → AtOrBelow (broken s) p
  unfolding broken path_rows type_rows expression_rows behaviour_rows uses_rows operation_rows service_rows
  in-path r p l h =
      least-below (path_rows s) after_paths p (inl (over_below (path_row s) (path_count s) r p l h))

  in-type : (r p : ℕ) → r < type_count s → AtOrBelow (type_row s r) p → AtOrBelow (broken s) p
  unfolding broken path_rows type_rows expression_rows behaviour_rows uses_rows operation_rows service_rows
  in-type r p l h =
      least-below (path_rows s) after_paths p (inr
      (least-below (type_rows s) after_types p (inl (over_below (type_row s) (type_count s) r p l h))))

  in-expression : (r p : ℕ) → r < expression_count s → AtOrBelow (expression_row s r) p → AtOrBelow (broken s) p
  unfolding broken path_rows type_rows expression_rows behaviour_rows uses_rows operation_rows service_rows
  in-expression r p l h =
      least-below (path_rows s) after_paths p (inr
      (least-below (type_rows s) after_types p (inr
      (least-below (expression_rows s) after_expressions p (inl (over_below (expression_row s) (expression_count s) r p l h))))))

  in-behaviour : (r p : ℕ) → r < behaviour_count s → AtOrBelow (behaviour_row s r) p → AtOrBelow (broken s) p
  unfolding broken path_rows type_rows expression_rows behaviour_rows uses_rows operation_rows service_rows
  in-behaviour r p l h =
      least-below (path_rows s) after_paths p (inr
      (least-below (type_rows s) after_types p (inr
      (least-below (expression_rows s) after_expressions p (inr
      (least-below (behaviour_rows s) after_behaviours p (inl (over_below (behaviour_row s) (behaviour_count s) r p l h))))))))

  in-use : (r p : ℕ) → r < behaviour_count s → AtOrBelow (uses_row s r) p → AtOrBelow (broken s) p
  unfolding broken path_rows type_rows expression_rows behaviour_rows uses_rows operation_rows service_rows
  in-use r p l h =
      least-below (path_rows s) after_paths p (inr
      (least-below (type_rows s) after_types p (inr
      (least-below (expression_rows s) after_expressions p (inr
      (least-below (behaviour_rows s) after_behaviours p (inr
      (least-below (uses_rows s) after_uses p (inl (over_below (uses_row s) (behaviour_count s) r p l h))))))))))

  in-operation : (r p : ℕ) → r < operation_count s → AtOrBelow (operation_row s r) p → AtOrBelow (broken s) p
  unfolding broken path_rows type_rows expression_rows behaviour_rows uses_rows operation_rows service_rows
  in-operation r p l h =
      least-below (path_rows s) after_paths p (inr
      (least-below (type_rows s) after_types p (inr
      (least-below (expression_rows s) after_expressions p (inr
      (least-below (behaviour_rows s) after_behaviours p (inr
      (least-below (uses_rows s) after_uses p (inr
      (least-below (operation_rows s) (service_rows s) p (inl (over_below (operation_row s) (operation_count s) r p l h))))))))))))

  in-service : (r p : ℕ) → r < service_count s → AtOrBelow (service_row s r) p → AtOrBelow (broken s) p
  unfolding broken path_rows type_rows expression_rows behaviour_rows uses_rows operation_rows service_rows
  in-service r p l h =
      least-below (path_rows s) after_paths p (inr
      (least-below (type_rows s) after_types p (inr
      (least-below (expression_rows s) after_expressions p (inr
      (least-below (behaviour_rows s) after_behaviours p (inr
      (least-below (uses_rows s) after_uses p (inr
      (least-below (operation_rows s) (service_rows s) p (inr (over_below (service_row s) (service_count s) r p l h))))))))))))

  branch-low : (r p : ℕ) → is_choice_kind (kind_at s r) ≡ true → AtOrBelow (branch_row_rule s (behaviour_at s r)) p → AtOrBelow (choice_run s r) p
  unfolding choice_run
  branch-low r p c h = rw c h

  path-below : (r p : ℕ) → PathBreaks s (path_at s r) p → AtOrBelow (path_row s r) p
  unfolding path_row
  path-below r p (path_first h) = here _ _ _ h
  path-below r p (path_second h) = past _ _ _ p (here _ _ _ h)
  path-below r p (path_third h) = past _ _ _ p (past _ _ _ p (here _ _ _ h))
  path-below r p (path_fourth h) = past _ _ _ p (past _ _ _ p (past _ _ _ p (here _ _ _ h)))

  type-below : (r p : ℕ) → TypeBreaks s r p → AtOrBelow (type_row s r) p
  unfolding type_row child_ids child_rule
  type-below r p (type_cardinality h) = here _ _ _ h
  type-below r p (type_basic_type h) = past _ _ _ p (here _ _ _ h)
  type-below r p (type_children h) = past _ _ _ p (past _ _ _ p (here _ _ _ h))
  type-below r p (child_id j k h) = past _ _ _ p (past _ _ _ p (past _ _ _ p (over_below (child_rule s (first_child s r) (child_count s r)) (type_count s) j p k (here _ _ _ h))))

  expression-below : (r p : ℕ) → ExpressionBreaks s r (expression_at s r) (expression_kind_at s r) p → AtOrBelow (expression_row s r) p
  unfolding expression_row fields_rule
  expression-below r p (expression_kind_byte h) = here _ _ _ h
  expression-below r p (expression_basic h) = past _ _ _ p (here _ _ _ h)
  expression-below r p (expression_a h) = past _ _ _ p (past _ _ _ p (here _ _ _ h))
  expression-below r p (expression_b h) = past _ _ _ p (past _ _ _ p (past _ _ _ p (here _ _ _ h)))
  expression-below r p (expression_c h) = past _ _ _ p (past _ _ _ p (past _ _ _ p (past _ _ _ p (here _ _ _ h))))

  behaviour-below : (r p : ℕ) → BehaviourBreaks s r (behaviour_at s r) (kind_at s r) p → AtOrBelow (behaviour_row s r) p
  unfolding behaviour_row behaviour_head fields_rule choice_run branch_row_rule branch_rule
  behaviour-below r p (behaviour_kind_byte h) = here _ _ _ h
  behaviour-below r p (behaviour_unused h) = past _ _ _ p (here _ _ _ h)
  behaviour-below r p (behaviour_a h) = past _ _ _ p (past _ _ _ p (here _ _ _ h))
  behaviour-below r p (behaviour_b h) = past _ _ _ p (past _ _ _ p (past _ _ _ p (here _ _ _ h)))
  behaviour-below r p (behaviour_c h) = past _ _ _ p (past _ _ _ p (past _ _ _ p (past _ _ _ p (here _ _ _ h))))
  behaviour-below r p (behaviour_d h) = past _ _ _ p (past _ _ _ p (past _ _ _ p (past _ _ _ p (past _ _ _ p (here _ _ _ h)))))
  behaviour-below r p (choice_branches j k c h) =
      past _ _ _ p (past _ _ _ p (past _ _ _ p (past _ _ _ p (past _ _ _ p (past _ _ _ p
      (branch-low r p c (over_below (branch_rule s (behaviour_at s r)) (behaviour_count s) j p k (here _ _ _ h))))))))

  use-below : (r p : ℕ) → UseBreaks s r p → AtOrBelow (uses_row s r) p
  unfolding uses_row row_use_rule service_use_rule
  use-below r p (never_used h) = here _ _ _ h
  use-below r p (used_again_by_row j k h) =
      past _ _ _ p (least-below (least_over (behaviour_count s) (row_use_rule s r)) (least_over (service_count s) (service_use_rule s r)) p
      (inl (over_below (row_use_rule s r) (behaviour_count s) j p k (here _ _ _ h))))
  use-below r p (used_again_by_service j k h) =
      past _ _ _ p (least-below (least_over (behaviour_count s) (row_use_rule s r)) (least_over (service_count s) (service_use_rule s r)) p
      (inr (over_below (service_use_rule s r) (service_count s) j p k (here _ _ _ h))))

  operation-below : (r p : ℕ) → OperationBreaks s r p → AtOrBelow (operation_row s r) p
  unfolding operation_row operation_fields operation_links repeat_rule
  operation-below r p (operation_service_row h) = here _ _ _ h
  operation-below r p (operation_direction_byte h) = past _ _ _ p (here _ _ _ h)
  operation-below r p (operation_two_way_byte h) = past _ _ _ p (past _ _ _ p (here _ _ _ h))
  operation-below r p (operation_unused h) = past _ _ _ p (past _ _ _ p (past _ _ _ p (here _ _ _ h)))
  operation-below r p (operation_id_zero h) = past _ _ _ p (past _ _ _ p (past _ _ _ p (past _ _ _ p (here _ _ _ h))))
  operation-below r p (operation_place h) = past _ _ _ p (past _ _ _ p (past _ _ _ p (past _ _ _ p (past _ _ _ p (here _ _ _ h)))))
  operation-below r p (operation_request h) = past _ _ _ p (past _ _ _ p (past _ _ _ p (past _ _ _ p (past _ _ _ p (past _ _ _ p (here _ _ _ h))))))
  operation-below r p (operation_reply h) = past _ _ _ p (past _ _ _ p (past _ _ _ p (past _ _ _ p (past _ _ _ p (past _ _ _ p (past _ _ _ p (here _ _ _ h)))))))
  operation-below r p (operation_repeated j k h) =
      past _ _ _ p (past _ _ _ p (past _ _ _ p (past _ _ _ p (past _ _ _ p (past _ _ _ p (past _ _ _ p (past _ _ _ p
      (over_below (repeat_rule s r) (r) j p k (here _ _ _ h)))))))))

  service-below : (r p : ℕ) → ServiceBreaks s r p → AtOrBelow (service_row s r) p
  unfolding service_row location_rule
  service-below r p (service_location_zero h) = here _ _ _ h
  service-below r p (service_starter h) = past _ _ _ p (here _ _ _ h)
  service-below r p (service_client h) = past _ _ _ p (past _ _ _ p (here _ _ _ h))
  service-below r p (service_repeated j k h) = past _ _ _ p (past _ _ _ p (past _ _ _ p (over_below (location_rule s r) (r) j p k (here _ _ _ h))))

  broken-below : (p : ℕ) → Breaks s p → AtOrBelow (broken s) p
  broken-below p (in_path r l h) = in-path r p l (path-below r p h)
  broken-below p (in_type r l h) = in-type r p l (type-below r p h)
  broken-below p (in_expression r l h) = in-expression r p l (expression-below r p h)
  broken-below p (in_behaviour r l h) = in-behaviour r p l (behaviour-below r p h)
  broken-below p (in_use r l h) = in-use r p l (use-below r p h)
  broken-below p (in_operation r l h) = in-operation r p l (operation-below r p h)
  broken-below p (in_service r l h) = in-service r p l (service-below r p h)

  -- ---- too large

  large-hit : (p : ℕ) → large s ≡ Some p → TooLargeAt s p
  unfolding large type_sizes expression_sizes type_large expression_large
  large-hit p =
      either (type_sizes s) (expression_sizes s) p
      (λ e. let w = over-hit (type_large s) (type_count s) p e in
      hit _ _ _ p (λ h q. subst (TooLargeAt s) q (large_type w.0 w.1 h)) (nothing p) w.2)
      (λ e. let w = over-hit (expression_large s) (expression_count s) p e in
      hit _ _ _ p (λ h q. subst (TooLargeAt s) q (large_expression w.0 w.1 h)) (nothing p) w.2)

  large-below : (p : ℕ) → TooLargeAt s p → AtOrBelow (large s) p
  unfolding large type_sizes expression_sizes type_large expression_large
  large-below p (large_type r l h) =
      least-below (type_sizes s) (expression_sizes s) p (inl (over_below (type_large s) (type_count s) r p l (here _ _ _ h)))
  large-below p (large_expression r l h) =
      least-below (type_sizes s) (expression_sizes s) p (inr (over_below (expression_large s) (expression_count s) r p l (here _ _ _ h)))

  -- The lowest of all.
  lowest : (P : ℕ → Type 0) (b : Option ℕ) (p : ℕ) → b ≡ Some p → P p → ((q : ℕ) → P q → AtOrBelow b q) → P p × ((q : ℕ) → P q → p ≤ q)
  lowest P b p e h f = (
    h,
    λ q k.
        let w = f q k in
        let same : Some p ≡ Some w.0 = sym e ∙ w.1 in
        let i : p ≡ w.0 = cc in
        let l = w.2 in
        omega arith,
  )

  refused-inj : {a b : Refusal} → ◌≡◌ {A = Result (Unit {0}) Refusal} (Err a) (Err b) → a ≡ b
  refused-inj e = cc

  broken-inj : {p q : ℕ} → BrokenField p ≡ BrokenField q → p ≡ q
  broken-inj e = cc

  large-inj : {p q : ℕ} → TooLarge p ≡ TooLarge q → p ≡ q
  large-inj e = cc

  -- 4: the verdict on a file is 4 at p only where p is the lowest place of a broken rule.
  pub lowest-broken : (p : ℕ) → form_of s ≡ Err (BrokenField p) → Breaks s p × ((q : ℕ) → Breaks s q → p ≤ q)
  unfolding form_of
  lowest-broken p e = go (laid_out s) (counted s) (broken s) (large s) refl e
    where
      go : (a b : Bool) (x y : Option ℕ) → broken s ≡ x → pick a (pick b (after_fields x y) (Err SectionCount)) (Err FileLayout) ≡ Err (BrokenField p)
          → Breaks s p × ((q : ℕ) → Breaks s q → p ≤ q)
      go true true (Some q) y f e =
          let same : broken s ≡ Some p = f ∙ ap Some (broken-inj (refused-inj e)) in lowest (Breaks s) (broken s) p same (broken-hit p same) broken-below
      go true true None None f e = absurd (let z : ◌≡◌ {A = ℕ} 0 1 = cc in omega arith)
      go true true None (Some q) f e = absurd (let z : ◌≡◌ {A = ℕ} 0 1 = cc in omega arith)
      go true false x y f e = absurd (let z : ◌≡◌ {A = ℕ} 0 1 = cc in omega arith)
      go false b x y f e = absurd (let z : ◌≡◌ {A = ℕ} 0 1 = cc in omega arith)

  -- 5: it is 5 at p only where no rule is broken and p is the lowest place of a row that is too large.
  pub lowest-large : (p : ℕ) → form_of s ≡ Err (TooLarge p) → ((q : ℕ) → Breaks s q → ⊥) × TooLargeAt s p × ((q : ℕ) → TooLargeAt s q → p ≤ q)
  unfolding form_of
  lowest-large p e = go (laid_out s) (counted s) (broken s) (large s) refl refl e
    where
      none : broken s ≡ None → (q : ℕ) → Breaks s q → ⊥
      none f q h = let w = broken-below q h in let g : None ≡ Some w.0 = sym f ∙ w.1 in nothing w.0 g

      go : (a b : Bool) (x y : Option ℕ) → broken s ≡ x → large s ≡ y
          → pick a (pick b (after_fields x y) (Err SectionCount)) (Err FileLayout) ≡ Err (TooLarge p)
          → ((q : ℕ) → Breaks s q → ⊥) × TooLargeAt s p × ((q : ℕ) → TooLargeAt s q → p ≤ q)
      go true true (Some q) y f g e = absurd (let z : ◌≡◌ {A = ℕ} 0 1 = cc in omega arith)
      go true true None None f g e = absurd (let z : ◌≡◌ {A = ℕ} 0 1 = cc in omega arith)
      go true true None (Some q) f g e =
          let same : large s ≡ Some p = g ∙ ap Some (large-inj (refused-inj e)) in
          let w = lowest (TooLargeAt s) (large s) p same (large-hit p same) large-below in (none f, w.0, w.1)
      go true false x y f g e = absurd (let z : ◌≡◌ {A = ℕ} 0 1 = cc in omega arith)
      go false b x y f g e = absurd (let z : ◌≡◌ {A = ℕ} 0 1 = cc in omega arith)

  -- A file that none of 2 to 5 refuses breaks no rule, and no row of it is too large.
  pub none-broken : form_of s ≡ (Ok tt) → ((q : ℕ) → Breaks s q → ⊥) × ((q : ℕ) → TooLargeAt s q → ⊥)
  unfolding form_of
  none-broken e = go (laid_out s) (counted s) (broken s) (large s) refl refl e
    where
      go : (a b : Bool) (x y : Option ℕ) → broken s ≡ x → large s ≡ y → pick a (pick b (after_fields x y) (Err SectionCount)) (Err FileLayout) ≡ (Ok tt)
          → ((q : ℕ) → Breaks s q → ⊥) × ((q : ℕ) → TooLargeAt s q → ⊥)
      go true true (Some q) y f g e = absurd (let z : ◌≡◌ {A = ℕ} 0 1 = cc in omega arith)
      go true true None None f g e = (
        (λ q h. let w = broken-below q h in let k : None ≡ Some w.0 = sym f ∙ w.1 in nothing w.0 k),
        (λ q h. let w = large-below q h in let k : None ≡ Some w.0 = sym g ∙ w.1 in nothing w.0 k),
      )
      go true true None (Some q) f g e = absurd (let z : ◌≡◌ {A = ℕ} 0 1 = cc in omega arith)
      go true false x y f g e = absurd (let z : ◌≡◌ {A = ℕ} 0 1 = cc in omega arith)
      go false b x y f g e = absurd (let z : ◌≡◌ {A = ℕ} 0 1 = cc in omega arith)
