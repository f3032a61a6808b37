-- What is promised of the controller for requests of 02 that bring words of their own; each statement is closed by the name of its proof.
use Rattle.std.specs.Prelude.{◌≡◌, true, ◌&&◌, List, [], ◌∷◌, ◌++◌, ℕ, ◌≤◌, ◌<◌, leb, length, take, drop}
use Rattle.tree_forest.specs.Forest.{Tree}
use Rattle.utf8.specs.Utf8.{is_utf8, are_scalar_values, written, Written}
use Rattle.utf8.proofs.Utf8Laws.{written-utf8, utf8-written, written_once}
use Rattle.scalar.specs.Basic.{string}
use Rattle.scalar.specs.Value.{Value, is_value}
use Rattle.scalar.specs.ValueLaws.{string-rule}
use Rattle.refusal.specs.Refusal.{outcome_number}
use Rattle.tree.specs.Encode.{Message, encode, rooted, Octets}
use Rattle.network_syntax.specs.Syntax.{MessageType, Operation, none, some, Network}
use Rattle.network_syntax.specs.Rows.{entry}
use Rattle.network.specs.Layout.{type_count, behaviour_count}
use Rattle.network.specs.Rows.{root_fits}
use Rattle.network.specs.Sizes.{type_within}
use Rattle.network.specs.Decode.{type_of, network_of}
use Rattle.network.specs.Breaks.{TypeBreaks}
use Rattle.network.specs.Form.{WellFormed}
use Rattle.refusal.specs.declared.Refusal.TheVariants.{UnfitKey}
use Rattle.check_typing.specs.Result.{refused}
use Rattle.check_typing.specs.NetworkRules.{Environments, DerivesServices, OutputsMeet, UnfitInput}
use Rattle.check_files.specs.FileChecker.{check_file}
use Rattle.check_files.specs.KeyLaws.{lowest-unfit}
use Rattle.state.specs.Session.{State}
use Rattle.state.specs.Shape.{KeysApart, HasShape, Stands}
use Rattle.move_rules.specs.Fresh.{fresh_bytes}
use Rattle.soundness.specs.Texts.{TextTree}
use Rattle.soundness.specs.Property3.{AllTexts, WritesText, KeyedQueues, Turn, AllGiven, after, AcceptedFile}
use Rattle.soundness.proofs.TextLaws.{message-text, shape-texts}
use Rattle.soundness.proofs.Property3Laws.{texts-from-fresh, keys-from-fresh}
use Rattle.type_text.specs.Grammar.{Declaration, TypeText}
use Rattle.type_text.specs.Reader.{Item, parsed, offends, read_text}
use Rattle.type_text.specs.Meaning.{types_of}
use Rattle.type_text.specs.TypeRows.{row_count}
use Rattle.type_text.proofs.TextLaws.{read-sound, read-complete, text-unique, SameThrough, offends-first}
use Rattle.type_text.proofs.BeginsLaws.{offends-begins}
use Rattle.type_rows.specs.Ranged.{Small, EachType, TypeRowsOf}
use Rattle.type_rows.specs.TextRows.{text-rows-mean, text-rows-root, text-rows-rules, text-rows-small}
use Rattle.type_writing.specs.Answer.{write_types}
use Rattle.type_writing.specs.AnswerLaws.{text-leaves, text-stays}
use Rattle.check_subtyping.specs.Subtype.{Subtype}
use Rattle.check_subtyping.specs.Own.{Fits}
use Rattle.counterexample_rules.specs.Smallest.{IsMessage, Smallest, TypeWithin}
use Rattle.counterexample_rules.specs.Breaking.{breaking}
use Rattle.counterexample_rules.specs.BreakingLaws.{breaking-smallest, smallest-breaking, smallest-unique, no-beginning}
use Rattle.counterexample_rules.specs.BreakingLaws.{none-subtype, subtype-none, messages-subtype, subtype-messages}
use Rattle.counterexample_rules.specs.Examples.{AllBreak, examples, examples-hold}
use Rattle.counterexample.specs.Answer.{counterexample}
use Rattle.counterexample.specs.AnswerLaws.{breaking-leaves, breaking-stays}
use Rattle.counterexample.specs.RowLaws.{row_within}

-- ---- Types as text (02, Wish 1)

-- "Exactly the texts of this grammar are read, each in one way."
pub read-is-text : (s : List ℕ) (ds : List Declaration) (r : List Item) → read_text s ≡ parsed ds r → TypeText s ds
read-is-text = read-sound

pub text-is-read : (s : List ℕ) (ds : List Declaration) → TypeText s ds → read_text s ≡ parsed ds []
text-is-read = read-complete

pub text-one-way : (s : List ℕ) (ds es : List Declaration) → TypeText s ds → TypeText s es → ds ≡ es
text-one-way = text-unique

-- "at the text's first offending byte (of a word, taken whole, its first; the length if the text ends too soon)": no text that agrees with
-- this one through that byte is of the grammar.
pub first-offending-byte : (s s' : List ℕ) (p : ℕ) (ds : List Declaration) → read_text s ≡ offends p
    → SameThrough s s' p → TypeText s' ds → ⊥
first-offending-byte = offends-first

-- The bytes before it begin one that is.
pub offending-byte-first : (s : List ℕ) (p : ℕ) → length s ≤ 8192 → read_text s ≡ offends p
    → (r : List ℕ) × (ds : List Declaration) × TypeText (take p s ++ r) ds
offending-byte-first = offends-begins

-- The rows mean the text: in every network file whose T section they are, each declaration's first row is the root of a message type, which is
-- the type declared, and neither 4 nor 5 refuses a row of T.
pub rows-are-types : (text : List ℕ) (ds : List Declaration) → TypeText text ds → (file : List ℕ)
    → TypeRowsOf file (types_of ds)
    → EachType Small (types_of ds) → (before : List MessageType) (t : MessageType) (later : List MessageType)
    → types_of ds ≡ before ++ (t ∷ later)
    → (type_of file (row_count before) ≡ t) × (root_fits file (row_count before) ≡ true)
rows-are-types text ds h file w small before t later e =
    (text-rows-mean text ds h file w small before t later e, text-rows-root text ds h file w small before t later e)

pub rows-keep-rules-of-4 : (text : List ℕ) (ds : List Declaration) → TypeText text ds → (file : List ℕ)
    → TypeRowsOf file (types_of ds)
    → EachType Small (types_of ds) → (r p : ℕ) → r < type_count file → TypeBreaks file r p → ⊥
rows-keep-rules-of-4 = text-rows-rules

pub rows-are-within-5 : (text : List ℕ) (ds : List Declaration) → TypeText text ds → (file : List ℕ)
    → TypeRowsOf file (types_of ds)
    → EachType Small (types_of ds) → (r : ℕ) → r < type_count file → type_within file r ≡ true
rows-are-within-5 = text-rows-small

-- "a refusal changes no buffer"; the bytes past the rows stay.
pub refused-text-leaves : (s out : List ℕ) → (outcome_number (write_types s out).outcome ≡ 0 → ⊥)
    → (write_types s out).out ≡ out
refused-text-leaves = text-leaves

pub past-rows-stay : (s out : List ℕ) → drop (write_types s out).outcome.bytes (write_types s out).out
    ≡ drop (write_types s out).outcome.bytes out
past-rows-stay = text-stays

-- ---- Strings (02, Wish 4)

-- "Strings are now well-formed UTF-8 as in RFC 3629, still 0 to 16 bytes".
pub string-is-utf8 : (v : List ℕ) → is_value string v ≡ (leb (length v) 16 && is_utf8 v)
string-is-utf8 = string-rule

-- Well-formed are exactly the octets of a list of scalar values, by the RFC's table, and of one list.
pub scalar-values-are-utf8 : (us : List ℕ) → are_scalar_values us ≡ true → is_utf8 (written us) ≡ true
scalar-values-are-utf8 = written-utf8

pub utf8-is-scalar-values : (v : List ℕ) → is_utf8 v ≡ true → Written v
utf8-is-scalar-values = utf8-written

pub utf8-one-way : (us ws : List ℕ) → are_scalar_values us ≡ true → are_scalar_values ws ≡ true → written us ≡ written ws
    → us ≡ ws
utf8-one-way = written_once

-- No message, and no state of a file's shape, has another string: "an outside message 17", "a state with another one is 14".
pub message-strings : (s : List ℕ) (m : Tree Value) → Message s m → TextTree m
message-strings s m h = message-text m h.good

pub state-strings : (N : Network) (rows : ℕ) (G : State) → HasShape N rows G → AllTexts G
state-strings = shape-texts

-- "State trees and queues hold only well-formed strings from a fresh state on"; a next move writes out no other.
pub strings-from-fresh : (file : List ℕ) → AcceptedFile file → (l : List Turn) → AllGiven l → (G : State)
    → Stands (network_of file) (behaviour_count file) (after file (fresh_bytes file) l) G → AllTexts G × WritesText file G
strings-from-fresh = texts-from-fresh

-- ---- Sessions by key (02, Wish 5)

-- "A keyed service with an unfit input is 23, place the number of the lowest such input's O row, tried after 13."
pub lowest-place-of-23 : (file : List ℕ) (Es : List Environments) → WellFormed file
    → DerivesServices 0 (network_of file).services Es → OutputsMeet (network_of file) (network_of file).operations
    → (r : ℕ) (o : Operation) → entry r (network_of file).operations ≡ some o → UnfitInput (network_of file) o
    → ((q : ℕ) (i : Operation) → q < r → entry q (network_of file).operations ≡ some i
    → UnfitInput (network_of file) i → ⊥)
    → check_file file ≡ refused (UnfitKey r)
lowest-place-of-23 = lowest-unfit

-- "From fresh, no two live sessions of a service hold one key"; what is queued at a session that holds one has that key.
pub one-key-from-fresh : (file : List ℕ) → AcceptedFile file → (l : List Turn) → AllGiven l → (G : State)
    → Stands (network_of file) (behaviour_count file) (after file (fresh_bytes file) l) G
    → KeysApart (network_of file) G × KeyedQueues file G
one-key-from-fresh = keys-from-fresh

-- ---- A message that breaks it (02, Wish 6)

-- "the message that fits the first and not the second: fewest nodes, then lowest bytes in order", for all types within the limits.
pub shown-is-smallest : (t u : MessageType) → TypeWithin t → TypeWithin u → (m : Tree Value) → breaking t u ≡ some m
    → Smallest t u m
shown-is-smallest = breaking-smallest

pub smallest-is-shown : (t u : MessageType) → TypeWithin t → TypeWithin u → (m : Tree Value) → Smallest t u m
    → breaking t u ≡ some m
smallest-is-shown = smallest-breaking

-- At most one message is smallest; no message's bytes are the beginning of another's.
pub smallest-is-one : (t u : MessageType) (m n : Tree Value) → Smallest t u m → Smallest t u n → m ≡ n
smallest-is-one = smallest-unique

pub messages-apart : (m n : Tree Value) → IsMessage m → IsMessage n → (r : List ℕ)
    → encode (rooted m) ++ r ≡ encode (rooted n) → m ≡ n
messages-apart = no-beginning

-- "None (0 and no bytes) is reported exactly when the first is a subtype of the second."
pub none-is-subtype : (t u : MessageType) → TypeWithin t → TypeWithin u → breaking t u ≡ none → Subtype t u
none-is-subtype = none-subtype

pub subtype-is-none : (t u : MessageType) → TypeWithin t → TypeWithin u → Subtype t u → breaking t u ≡ none
subtype-is-none = subtype-none

-- "So T1 ≤ T2 holds exactly when every message that fits T1 fits T2, over all types within the limits".
pub subtype-by-messages : (t u : MessageType) → TypeWithin t → TypeWithin u
    → ((m : Tree Value) → IsMessage m → Fits m t → Fits m u) → Subtype t u
subtype-by-messages = messages-subtype

pub messages-by-subtype : (t u : MessageType) → Subtype t u → (m : Tree Value) → Fits m t → Fits m u
messages-by-subtype = subtype-messages

-- Such are the types of every file that none of 2 to 5 refuses.
pub rows-within-limits : (file : List ℕ) → Octets file → WellFormed file → (r : ℕ) → r < type_count file
    → TypeWithin (type_of file r)
rows-within-limits = row_within

-- A refusal leaves the out buffer; the bytes past the message stay.
pub refused-pair-leaves : (file : List ℕ) (first second : ℕ) (out : List ℕ)
    → (outcome_number (counterexample file first second out).outcome ≡ 0 → ⊥)
    → (counterexample file first second out).out ≡ out
refused-pair-leaves = breaking-leaves

pub past-message-stays : (file : List ℕ) (first second : ℕ) (out : List ℕ)
    → drop (counterexample file first second out).outcome.bytes (counterexample file first second out).out
    ≡ drop (counterexample file first second out).outcome.bytes out
past-message-stays = breaking-stays

-- Six pairs of types with their messages.
pub pairs-of-types : AllBreak examples
pairs-of-types = examples-hold
