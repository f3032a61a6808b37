-- Laws of evaluation: trees and paths in the session's tree, and E rows; one for each way out of the functions.
use Prim.Native.Nat.{ℕ, ◌+◌, ◌-◌, ◌<◌, ◌≤◌}
use mathlib.Core.Path.{◌≡◌, refl, sym, ◌∙◌, ap, subst}
use mathlib.Core.List.{List}
use mathlib.Core.Bool.{Bool, true, false}
use native.Mathlib.Omega.{arith}
use lib.ListN.{length}
use lib.Dec.{leb}
use Rattle.wire.specs.Wire.{part}
use Rattle.tree_forest.specs.Forest.{Forest, Tree, tree, Lookup}
use Rattle.tree_forest.specs.Path.{Path, read}
use Rattle.scalar.specs.Value.{Value, value, basic_of, is_value, SoundText}
use Rattle.scalar.specs.ScalarLaws.{read-text}
use Rattle.basics.specs.Choice.{pick}
use Rattle.basics.specs.TestLaws.{and_right}
use Rattle.scalar.specs.Operator.{of_bool}
use Rattle.scalar.specs.Scalar.{value_of}
use Rattle.scalar.specs.declared.Operand.{Operand}
use Rattle.network_syntax.specs.Syntax.{MessageType, Unary, Binary, Expression, constant, value_at, presence, unary, binary}
use Rattle.tree.specs.Encode.{Encodes, empty, payload}
use Rattle.tree_forest.specs.Limits.{session_levels, session_nodes}
use Rattle.tree.specs.EncodeLaws.{sized, got}
use Rattle.tree.specs.Decode as bytes
use Rattle.tree.specs.Ids.{is_path, path_from_ids, last_id}
use Rattle.tree.specs.Standing.{Root, Spot, Followed}
use Rattle.tree.specs.StandingLaws.{encodes-root, root-fields, root-seen, root-unseen}
use Rattle.tree.specs.declared.Head.{Head}
use Rattle.network.specs.Form.{WellFormed}
use Rattle.network.specs.Layout.{path_count, expression_count, data_size, data_part}
use Rattle.network.specs.Rows.{constant_fits}
use Rattle.network.specs.Decode as network
use Rattle.network.specs.Decode.{expression_of}
use Rattle.network_rows.specs.Readers.{path_ids}
use Rattle.network_row_parts.specs.Parts.{unary_of, binary_of}
use Rattle.network_row_parts.specs.declared.UnaryOperator.{UnaryOperator}
use Rattle.network_row_parts.specs.declared.BinaryOperator.{BinaryOperator}
use Rattle.move_rules.specs.Evaluation.{Evaluation, missing, wrong_kind, beyond, given, leaf, found, apply_unary, apply_binary, by_rule, on_operand}
use Rattle.move_rules.specs.Evaluation.{unary_result, binary_result, as_leaf, evaluate}
use Rattle.move_rules.specs.OperatorLaws.{without_value, unary-rule, binary-rule}
use Rattle.check_typing.specs.Result.{Attempt, fails, yields}
use Rattle.check_typing.specs.ExpressionTyping.{unary_type, binary_type}
use Rattle.tree_forest.specs.Forest.{is_present}
use Rattle.network_row_parts.specs.PathLaws.{path-is, ids-path}
use Rattle.move_evaluation.specs.declared.Place.{Place}
use Rattle.move_evaluation.specs.declared.Fault.{Fault}
use Rattle.move_evaluation.specs.declared.Evaluated.{Evaluated}
use Rattle.network_row_parts.specs.declared.Part.{Part}
use Rattle.network_row_parts.specs.Parts.{expression_part}
use Rattle.move_evaluation.specs.Evaluated.{on_source, literal, unary_on, binary_on, AloneAs, Computes, SourceOf, StandsFor, StandsAt, Reads}
use Rattle.move_evaluation.specs.Evaluated.{Presents, Evaluates}
use Rattle.network_row_parts.specs.PartLaws.{part-is}
use Rattle.std.specs.Prelude.{Option, Some, None}
use Rattle.tree.specs.Decode.{header}
use Rattle.std.specs.Prelude.{Ok, Err}
use Rattle.std.specs.Prelude as std

-- ---- what is alone stands for a leaf

source-alone : (s : List ℕ) (k : std.Result Place Fault) (v : Operand) (w : Evaluation Value) → AloneAs k v w → SourceOf s k v (as_leaf w)
source-alone s (Ok (Place.At at)) v w h = absurd h
source-alone s (Ok Place.Alone) v w h = ap as_leaf h
source-alone s (Err Fault.Missing) v w h = ap as_leaf h
source-alone s (Err Fault.Wrong) v w h = ap as_leaf h
source-alone s (Err Fault.Outside) v w h = ap as_leaf h

stands-alone : (s : List ℕ) {x : Evaluated} {w : Evaluation Value} → Computes x w → StandsFor s x (as_leaf w)
stands-alone s {x} {w} h = source-alone s x.source x.root w h.gives

stands-as : (s : List ℕ) (x : Evaluated) {f g : Evaluation (Tree Value)} → f ≡ g → StandsFor s x f → StandsFor s x g
stands-as s x e h = subst (StandsFor s x) e h

-- ---- the tree at a place

module _ (s : List ℕ) (at : ℕ) {i b c m : ℕ} {h : Option Head} (p : h ≡ bytes.head_at s at) (q : h ≡ Some (header i b c m)) where
  pub head-start : at + 5 ≤ length s
  head-start = (sized s at (got p q).ok).header

  pub head-next : at + 5 ≤ m
  head-next = omega (arith, (got p q).next)

  pub head-end : m ≤ length s
  head-end = omega (arith, (got p q).next, (sized s at (got p q).ok).value)

  value-bytes : part s (at + 5) (m - at - 5) ≡ bytes.value_at s at
  value-bytes = let e : m - at - 5 ≡ bytes.len_at s at = omega (arith, (got p q).next) in ap (λ (n : ℕ). part s (at + 5) n) e

  pub head-value : is_value b (part s (at + 5) (m - at - 5)) ≡ true
  head-value = rw (value-bytes, (got p q).basic) (sized s at (got p q).ok).valid

  pub tree-there : (v : Operand) → value_of v ≡ value b (part s (at + 5) (m - at - 5)) → StandsAt s at (record { source = Ok (Place.At at); root = v })
  tree-there v e = record { tells = tells; text = read-text v e head-value }
    where
      tells : (j : ℕ) (t : Tree Value) → Root s at j t → StandsFor s (record { source = Ok (Place.At at); root = v }) (given t)
      tells j (tree (value d u) ks) w =
          let y = root-seen s at j d u ks w h i b c m p q in
          record {
            id = j;
            there = tree (value d u) ks;
            is = refl;
            root = w;
            value = e ∙ rw (value-bytes, (root-fields s at j d u ks w).value, y.basic) refl;
          }

pub tree-fault : (s : List ℕ) (at : ℕ) {h : Option Head} (x : Evaluated) → h ≡ bytes.head_at s at → h ≡ None → Computes x missing → StandsAt s at x
tree-fault s at x p q c = record { tells = λ i t w. root-unseen s at i t w _ p q; text = c.text }

pub ruleset place-laws = (tree-there, tree-fault)

-- ---- paths

module _ (file s : List ℕ) (p : ℕ) {ids : List ℕ} {y : Option ℕ} (d : ids ≡ path_ids file p) (l : Followed s ids y) where
  -- Where the path leads, in the session's tree F.
  spot : {z : Option ℕ} → y ≡ z → (F : Forest Value) → Encodes session_levels session_nodes s (tree empty F) → WellFormed file → p < path_count file
      → Spot s (last_id (path_from_ids ids)) z (read (network.path_of file p) F)
  spot {z} e F w wf le =
      let h = l.tells 0 (tree empty F) (encodes-root session_levels session_nodes s (tree empty F) (omega arith) (omega arith) w) (ap is_path d ∙ ids-path file wf p le) in
      subst (λ (q : Path). Spot s (last_id (path_from_ids ids)) z (read q F)) (ap path_from_ids d ∙ path-is file p)
      (subst (λ (w : Option ℕ). Spot s (last_id (path_from_ids ids)) w (read (path_from_ids ids) F)) e h)

  pub read_none : (x : Evaluated) → y ≡ None → Computes x missing → Reads file s p x
  read_none x e c = record { tells = λ F w wf le. stands-as s x (sym (ap found (spot e F w wf le))) (stands-alone s c); text = c.text }

  pub read-there : (x : Evaluated) {at : ℕ} → y ≡ Some at → StandsAt s at x → Reads file s p x
  read-there x e c = record {
    tells = λ F w wf le. let u = spot e F w wf le in stands-as s x (sym (ap found u.is)) (c.tells _ u.there u.root);
    text = c.text;
  }

  pub present-none : (x : Evaluated) → y ≡ None → Computes x (given (of_bool false)) → Presents file s p x
  present-none x e c = record {
    tells = λ F w wf le. stands-as s x (ap (λ (f : Lookup Value). given (leaf (of_bool (is_present f)))) (sym (spot e F w wf le))) (stands-alone s c);
    text = c.text;
  }

  pub present-there : (x : Evaluated) {at : ℕ} → y ≡ Some at → Computes x (given (of_bool true)) → Presents file s p x
  present-there x e c = record {
    tells = λ F w wf le. stands-as s x (ap (λ (f : Lookup Value). given (leaf (of_bool (is_present f)))) (sym (spot e F w wf le).is)) (stands-alone s c);
    text = c.text;
  }

pub ruleset path-laws = (read_none, read-there, present-none, present-there)

-- ---- operands: their root values count, or their kinds

root-of : (t : Tree Value) (g : ℕ → Evaluation Value) (f : Value → Evaluation Value) → on_operand (given t) g f ≡ f (payload t)
root-of (tree v k) g f = refl

-- Where only the kind is known, g says what f gives without its value.
source-operand : (s : List ℕ) (k : std.Result Place Fault) (v : Operand) (x : Evaluation (Tree Value)) (g : ℕ → Evaluation Value) (f : Value → Evaluation Value)
    → without_value (f (value_of v)) ≡ g (basic_of (value_of v)) → SourceOf s k v x → on_operand x g f ≡ on_source k (f (value_of v))
source-operand s (Ok (Place.At at)) v x g f e h =
    ap (λ (z : Evaluation (Tree Value)). on_operand z g f) h.is ∙ root-of h.there g f ∙ ap f (sym h.value)
source-operand s (Ok Place.Alone) v x g f e h = ap (λ (z : Evaluation (Tree Value)). on_operand z g f) h
source-operand s (Err Fault.Missing) v x g f e h = ap (λ (z : Evaluation (Tree Value)). on_operand z g f) h
source-operand s (Err Fault.Wrong) v x g f e h = ap (λ (z : Evaluation (Tree Value)). on_operand z g f) h
source-operand s (Err Fault.Outside) v x g f e h = ap (λ (z : Evaluation (Tree Value)). on_operand z g f) h ∙ sym e

without-twice : (w : Evaluation Value) → without_value (without_value w) ≡ without_value w
without-twice missing = refl
without-twice wrong_kind = refl
without-twice (beyond b) = refl
without-twice (given v) = refl

without-rule : (r : Attempt MessageType) → without_value (by_rule r) ≡ by_rule r
without-rule (fails why) = refl
without-rule (yields t) = refl

without_source : (k : std.Result Place Fault) (w : Evaluation Value) → without_value (on_source k w) ≡ on_source k (without_value w)
without_source (Ok (Place.At at)) w = refl
without_source (Ok Place.Alone) w = refl
without_source (Err Fault.Missing) w = refl
without_source (Err Fault.Wrong) w = refl
without_source (Err Fault.Outside) w = refl

unary-stands : (s : List ℕ) (o : Unary) (x : Evaluated) (a : Evaluation (Tree Value)) → StandsFor s x a
    → unary_result o a ≡ on_source x.source (apply_unary o (value_of x.root))
unary-stands s o x a h =
    source-operand s x.source x.root a (λ b. by_rule (unary_type o b)) (apply_unary o) (unary-rule o (value_of x.root)) h

module _ (s : List ℕ) (o : Binary) (x y : Evaluated) (a b : Evaluation (Tree Value)) (h : StandsFor s x a) (k : StandsFor s y b) where
  abbrev v : Value
  v = value_of x.root

  abbrev w : Value
  w = value_of y.root

  -- The left operand's value is known, or its kind alone.
  right-known : on_operand b (λ c. by_rule (binary_type o (basic_of v) c)) (apply_binary o v) ≡ on_source y.source (apply_binary o v w)
  right-known = source-operand s y.source y.root b (λ c. by_rule (binary_type o (basic_of v) c)) (apply_binary o v) (binary-rule o v w) k

  right-kind : on_operand b (λ c. by_rule (binary_type o (basic_of v) c)) (λ u. by_rule (binary_type o (basic_of v) (basic_of u)))
      ≡ on_source y.source (by_rule (binary_type o (basic_of v) (basic_of w)))
  right-kind =
      source-operand s y.source y.root b (λ c. by_rule (binary_type o (basic_of v) c)) (λ u. by_rule (binary_type o (basic_of v) (basic_of u)))
      (without-rule (binary_type o (basic_of v) (basic_of w))) k

  binary-stands : binary_result o a b ≡ on_source x.source (on_source y.source (apply_binary o v w))
  binary-stands =
      source-operand s x.source x.root a
      (λ d. on_operand b (λ c. by_rule (binary_type o d c)) (λ u. by_rule (binary_type o d (basic_of u))))
      (λ u. on_operand b (λ c. by_rule (binary_type o (basic_of u) c)) (apply_binary o u))
      (ap without_value right-known ∙ (without_source y.source (apply_binary o v w)
      ∙ (ap (on_source y.source) (binary-rule o v w) ∙ sym right-kind))) h
      ∙ ap (on_source x.source) right-known

-- ---- rows

evaluates-as : (file s : List ℕ) (r : ℕ) {x : Evaluated} → SoundText (value_of x.root)
    → ((F : Forest Value) → Encodes session_levels session_nodes s (tree empty F) → WellFormed file
    → r < expression_count file → (e : Expression) × (expression_of file r ≡ e) × StandsFor s x (evaluate F e)) → Evaluates file s r x
evaluates-as file s r {x} text h = record {
  tells = λ F g w l. let u = h F g w l in stands-as s x (ap (evaluate F) (sym u.1)) u.2;
  text = text;
}

pub constant-evaluates : (file s : List ℕ) (r : ℕ) {y : Part} {b v n : ℕ} {x : Evaluated} → y ≡ expression_part file r → y ≡ Part.Constant b v n
    → Computes x (literal b (data_part file v n)) → Evaluates file s r x
unfolding evaluate literal constant_fits
constant-evaluates file s r {y} {b} {v} {n} {x} p q c = evaluates-as file s r c.text (λ F g w l.
    let u = part-is file w r l p q in
    let k = and_right (leb (v + n) (data_size file)) (is_value b (data_part file v n)) u.1 in
    (constant (value b (data_part file v n)), u.0, stands-as s x (ap as_leaf (fits k)) (stands-alone s c)))
  where
    fits : {t : Bool} {w : Value} → t ≡ true → pick t (given w) wrong_kind ≡ given w
    fits k = rw k refl

pub value-evaluates : (file s : List ℕ) (r : ℕ) {y : Part} {p : ℕ} {x : Evaluated} → y ≡ expression_part file r → y ≡ Part.ValueAt p
    → Reads file s p x → Evaluates file s r x
unfolding evaluate
value-evaluates file s r {y} {p} {x} m n c = evaluates-as file s r c.text (λ F g w l.
    let u = part-is file w r l m n in (value_at (network.path_of file p), u.0, c.tells F g w u.1))

pub presence-evaluates : (file s : List ℕ) (r : ℕ) {y : Part} {p : ℕ} {x : Evaluated} → y ≡ expression_part file r → y ≡ Part.Presence p
    → Presents file s p x → Evaluates file s r x
unfolding evaluate
presence-evaluates file s r {y} {p} {x} m n c = evaluates-as file s r c.text (λ F g w l.
    let u = part-is file w r l m n in (presence (network.path_of file p), u.0, c.tells F g w u.1))

pub unary-evaluates : (file s : List ℕ) (r : ℕ) {y : Part} {o : UnaryOperator} {a : ℕ} {x z : Evaluated} → y ≡ expression_part file r → y ≡ Part.Unary o a
    → Evaluates file s a x → Computes z (unary_on o x) → Evaluates file s r z
unfolding evaluate unary_on
unary-evaluates file s r {y} {o} {a} {x} {z} m n h c = evaluates-as file s r c.text (λ F g w l.
    let u = part-is file w r l m n in
    let i = u.1 in
    let e = unary-stands s (unary_of o) x (evaluate F (expression_of file a)) (h.tells F g w (omega arith)) in
    (unary (unary_of o) (expression_of file a), u.0, stands-as s z (ap as_leaf (sym e)) (stands-alone s c)))

pub binary-evaluates : (file s : List ℕ) (r : ℕ) {y : Part} {o : BinaryOperator} {a b : ℕ} {x t z : Evaluated} → y ≡ expression_part file r
    → y ≡ Part.Binary o a b → Evaluates file s a x → Evaluates file s b t → Computes z (binary_on o x t) → Evaluates file s r z
unfolding evaluate binary_on
binary-evaluates file s r {y} {o} {a} {b} {x} {t} {z} m n h k c = evaluates-as file s r c.text (λ F g w l.
    let u = part-is file w r l m n in
    let i = u.1 in
    let j = u.2 in
    let all = binary-stands s (binary_of o) x t (evaluate F (expression_of file a)) (evaluate F (expression_of file b)) (h.tells F g w (omega arith))
    (k.tells F g w (omega arith)) in
    (binary (binary_of o) (expression_of file a) (expression_of file b), u.0, stands-as s z (ap as_leaf (sym all)) (stands-alone s c)))

pub broken-evaluates : (file s : List ℕ) (r : ℕ) {y : Part} (x : Evaluated) → y ≡ expression_part file r → y ≡ Part.Broken → Computes x wrong_kind
    → Evaluates file s r x
broken-evaluates file s r x p q c = record { tells = λ F g w l. absurd (part-is file w r l p q); text = c.text }

pub ruleset row_laws = (constant-evaluates, value-evaluates, presence-evaluates, unary-evaluates, binary-evaluates, broken-evaluates)
