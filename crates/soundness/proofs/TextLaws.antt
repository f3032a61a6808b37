-- Strings of trees and messages: a value by the rule of its basic type is well-formed UTF-8 if it is a string.
use Rattle.std.specs.Prelude.{◌≡◌, refl, Bool, true, false, List, [], ◌∷◌, ◌++◌, ℕ, leb}
use Rattle.std.proofs.Common.{sym, ap, subst, ◌∙◌, inl, inr, arith, leb-true, leb-false}
use Rattle.tree_forest.specs.Forest.{Forest, end, node, Tree, tree}
use Rattle.tree_forest.specs.Limits.{message_levels_below, message_nodes_below}
use Rattle.scalar.specs.Value.{Value, bytes_of, is_value}
use Rattle.scalar.specs.ValueLaws.{string-utf8}
use Rattle.wire.specs.Wire.{u32_bytes}
use Rattle.network_syntax.specs.Syntax.{Network}
use Rattle.tree.specs.Encode.{Proper, SoundValues, WellFormedTree}
use Rattle.state.specs.Session.{Queued, State}
use Rattle.state.specs.Shape.{AllMessages, WellMade, MadeSlot, HasShape}
use Rattle.state.specs.Bytes.{message_bytes}
use Rattle.soundness.specs.Texts.{IsText, AllText, TextTree, TextQueue, TextOut, message_out, reply_out}
use Rattle.soundness.specs.Property3.{AllTexts}
use Rattle.state.proofs.KeyLaws.{not_live}

proper-text : (v : Value) → Proper v → IsText v
proper-text v p e = string-utf8 (bytes_of v) (ap (λ (b : ℕ). is_value b (bytes_of v)) (sym e) ∙ p.valid)

values-text : (F : Forest Value) → SoundValues F → AllText F
unfolding SoundValues AllText
values-text end h = tt
values-text (node i v ks rest) h = (proper-text v h.2, values-text ks h.3, values-text rest h.4)

pub message-text : (m : Tree Value) → WellFormedTree message_levels_below message_nodes_below m → TextTree m
message-text (tree v ks) w = (proper-text v w.root, values-text ks w.sound)

queue-text : (l : List Queued) → AllMessages l → TextQueue l
unfolding AllMessages TextQueue
queue-text [] a = tt
queue-text (m ∷ l) a = (message-text m.message a.0, queue-text l a.1)

-- A state of a file's shape has no other strings.
pub shape-texts : (N : Network) (rows : ℕ) (G : State) → HasShape N rows G → AllTexts G
shape-texts N rows G h q n S e = by (leb q 3) (leb n 3) refl refl
  where
    made : WellMade S → AllText S.tree × TextQueue S.queue
    made w = (values-text S.tree w.bounded.sound, queue-text S.queue w.messages)

    by : (a b : Bool) → leb q 3 ≡ a → leb n 3 ≡ b → AllText S.tree × TextQueue S.queue
    by true true x y = made (subst MadeSlot e (h.made q n (omega (arith, leb-true q 3 x)) (omega (arith, leb-true n 3 y))))
    by true false x y = absurd (not_live (sym (h.elsewhere q n (inr (omega (arith, leb-false n 3 y)))) ∙ e))
    by false b x y = absurd (not_live (sym (h.elsewhere q n (inl (omega (arith, leb-false q 3 x)))) ∙ e))

-- A message that is written out, alone or after a reply number.
pub message-out : (m : Tree Value) → WellFormedTree message_levels_below message_nodes_below m → TextOut (message_bytes m)
message-out m w = message_out m (record { bytes = refl; good = w }) (message-text m w)

pub reply-out : (k : ℕ) (m : Tree Value) → WellFormedTree message_levels_below message_nodes_below m → TextOut (u32_bytes k ++ message_bytes m)
reply-out k m w = reply_out k m (record { bytes = refl; good = w }) (message-text m w)
