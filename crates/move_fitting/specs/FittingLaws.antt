-- What comes: a tree that a session can hold, alone in its bytes; and bytes from outside.
use Rattle.std.specs.Prelude.{◌≡◌, refl, Bool, true, false, ◌&&◌, List, ℕ, leb}
use Rattle.std.proofs.Common.{sym, ap, ◌∙◌, le-leb, leb-true}
use Rattle.basics.specs.TestLaws.{and_left, and_right, apart}
use Rattle.tree_forest.specs.Forest.{Tree, tree, Lookup, nodes, levels}
use Rattle.scalar.specs.Value.{Value}
use Rattle.refusal.specs.declared.Refusal.TheVariants.{NoMessage, MessageMisfit}
use Rattle.network_syntax.specs.Syntax.{MessageType}
use Rattle.check_subtyping.specs.Own.{fits}
use Rattle.tree.specs.Encode.{WellFormedTree, Encodes}
use Rattle.tree_forest.specs.Limits.{message_levels_below, message_nodes_below, session_levels, session_nodes}
use Rattle.tree.specs.Decode.{decode_message, is_message}
use Rattle.tree.specs.DecodeLaws.{absent-is, message-complete, decode-complete, encode_injective}
use Rattle.move_rules.specs.Evaluation.{Evaluation, given}
use Rattle.move_rules.specs.Moves.{Result, require, is_message_tree, must_fit, on_message}
use Rattle.move_fitting.specs.Fitting.{Comes, fitting_tree}

-- ---- messages

pub message-tree : (t : Tree Value) → WellFormedTree message_levels_below message_nodes_below t → is_message_tree t ≡ true
message-tree (tree v k) w = rw (le-leb (levels k) message_levels_below w.shallow, le-leb (nodes k) message_nodes_below w.few)

pub tree-message : (t : Tree Value) → is_message_tree t ≡ true → WellFormedTree session_levels session_nodes t
    → WellFormedTree message_levels_below message_nodes_below t
tree-message (tree v k) e w =
    let a = leb (levels k) message_levels_below in
    let b = leb (nodes k) message_nodes_below in
    record {
      root = w.root;
      sound = w.sound;
      rising = w.rising;
      shallow = leb-true (levels k) message_levels_below (and_left a b e);
      few = leb-true (nodes k) message_nodes_below (and_right a b e);
    }

-- A message fits by its type alone.
message-fit : (m : Tree Value) (t : MessageType) (r : Result) → WellFormedTree message_levels_below message_nodes_below m
    → must_fit m t r ≡ require (fits m t) MessageMisfit r
message-fit m t r w = ap (λ (b : Bool). require (b && fits m t) MessageMisfit r) (message-tree m w)

-- ---- a tree that a session can hold: where it is no message, it fits no type

tree-comes : {l : List ℕ} (m : Tree Value) (t : MessageType) (f : (Tree Value → Result) → Result) → Encodes session_levels session_nodes l m
    → ((k : Tree Value → Result) → f k ≡ must_fit m t (k m)) → Comes l MessageMisfit t f
tree-comes {l} m t f h e = record {
  no_message = λ n k. e k ∙ ap (λ (b : Bool). require (b && fits m t) MessageMisfit (k m)) (none n (is_message_tree m) refl);
  message = λ m₁ g k.
      let i : m₁ ≡ m = encode_injective message_levels_below message_nodes_below session_levels session_nodes m₁ m g.good h.good (sym g.bytes ∙ h.bytes) in
      e k ∙ (ap (λ (x : Tree Value). must_fit x t (k x)) (sym i) ∙ message-fit m₁ t (k m₁) g.good);
}
  where
    none : is_message l ≡ false → (b : Bool) → is_message_tree m ≡ b → is_message_tree m ≡ false
    none n true i = apart (sym n ∙ message-complete l m (record { bytes = h.bytes; good = tree-message m i h.good }))
    none n false i = i

pub value-comes : {l : List ℕ} (m : Tree Value) (t : MessageType) (y : Evaluation (Tree Value)) → Encodes session_levels session_nodes l m → y ≡ given m
    → Comes l MessageMisfit t (fitting_tree y t)
value-comes m t y h e = tree-comes m t (fitting_tree y t) h (λ k. ap (λ (z : Evaluation (Tree Value)). fitting_tree z t k) e)

-- ---- bytes from outside

pub bytes-come : (l : List ℕ) (t : MessageType) → Comes l NoMessage t (λ k. on_message (decode_message l) (λ m. must_fit m t (k m)))
bytes-come l t = record {
  no_message = λ n k. ap (λ (x : Lookup Value). on_message x (λ m. must_fit m t (k m))) (absent-is (decode_message l) n);
  message = λ m g k.
      ap (λ (x : Lookup Value). on_message x (λ m. must_fit m t (k m))) (decode-complete message_levels_below message_nodes_below l m g)
      ∙ message-fit m t (k m) g.good;
}
