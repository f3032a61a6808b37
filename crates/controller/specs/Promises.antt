-- All that is promised of the controller; what 02 brings with names of its own is in RequestPromises. The contracts of its functions (src/lib.rt)
-- say, for every input, that they give and leave what these definitions say: `check_file` of `check`, `fresh` and `step` of the functions of these
-- names, `span_of` and `part_of` of the message reader, `write_types` of `write_types`.
-- Here is what holds of the definitions, in 01's words; each statement is closed by the name of its proof.
use Rattle.std.specs.Prelude.{◌≡◌, true, List, [], ◌∷◌, ℕ, ◌+◌, ◌≤◌, length, take, drop}
use Rattle.std.proofs.Common.{sym, ◌∙◌}
use Rattle.tree_forest.specs.Forest.{Tree}
use Rattle.scalar.specs.Value.{Value}
use Rattle.refusal.specs.declared.Refusal.{Refusal}
use Rattle.refusal.specs.declared.Refusal.TheVariants.{BrokenField, TooLarge}
use Rattle.refusal.specs.Refusal.{outcome_number, done_with}
use Rattle.tree.specs.Encode.{Octets, Message}
use Rattle.tree_forest.specs.Limits.{message_levels_below, message_nodes_below}
use Rattle.tree.specs.Decode.{is_message}
use Rattle.tree.specs.DecodeLaws.{message-sound, message-complete, encode_injective}
use Rattle.tree_part.specs.Part.{part_of}
use Rattle.tree_part.specs.Span.{span_of}
use Rattle.tree_part.specs.SpanLaws.{span-inside, span-part, span-empty, twice, span-twice}
use Rattle.network_syntax.specs.Syntax.{none, some, Network}
use Rattle.network.specs.Form.{form_of, WellFormed}
use Rattle.network.specs.Decode.{network_of, row_operation}
use Rattle.network.specs.Shapes.{NetworkShape}
use Rattle.network.proofs.NetworkLaws.{network-shape}
use Rattle.network.specs.Breaks.{Breaks, TooLargeAt}
use Rattle.network.proofs.LowestLaws.{lowest-broken, lowest-large, none-broken}
use Rattle.check_typing.specs.Result.{refused, passed}
use Rattle.check_typing.specs.NetworkRules.{Environments, DerivesNetwork}
use Rattle.check_typing.specs.Cases.{TableHolds, table, all-rows-hold}
use Rattle.check_files.specs.FileChecker.{check_file}
use Rattle.check_files.specs.FileCheckerLaws.{accepted-derived, derived-accepted}
use Rattle.state.specs.Places.{state_size}
use Rattle.state.specs.Session.{State}
use Rattle.state.specs.Bytes.{state_bytes}
use Rattle.state.specs.Shape.{HasShape, Stands, decode_state}
use Rattle.state.proofs.ShapeLaws.{decode-state-sound, decode-state-complete, state-bytes-injective, refused-14}
use Rattle.move_rules.specs.Moves.{Move}
use Rattle.move_rules.specs.Fresh.{fresh_bytes, fresh}
use Rattle.move_rules.specs.Step.{step}
use Rattle.soundness.specs.Property3.{Turn, Given, AllGiven, AcceptedFile, Property3}
use Rattle.soundness.proofs.Property3Laws.{property3, fresh-writes}
use Rattle.soundness.specs.Calls.{SoundCall}
use Rattle.soundness.proofs.CallsLaws.{call-sound}
use Rattle.soundness.specs.Example.{file}
use Rattle.soundness.proofs.ExampleFileLaws.{accepted-file}
use Rattle.controller.specs.LeavesLaws.{fresh-leaves, step-leaves, step_stays}
use Rattle.std.specs.Prelude.{Result, Ok, Err}

-- ---- Network file: refusals 2 to 5

-- What 2 to 5 refuse, the checker refuses so.
pub form-first : (file : List ℕ) (why : Refusal) → form_of file ≡ Err why → check_file file ≡ refused why
unfolding check_file
form-first file why e = rw e

-- 4: "A field or link breaks its row's rule, lowest place first".
pub lowest-place-of-4 : (file : List ℕ) (p : ℕ) → form_of file ≡ Err (BrokenField p)
    → Breaks file p × ((q : ℕ) → Breaks file q → p ≤ q)
lowest-place-of-4 = lowest-broken

-- 5: "A type or expression is too large (place: its row's first byte, lowest first)"; no rule is broken then.
pub lowest-place-of-5 : (file : List ℕ) (p : ℕ) → form_of file ≡ Err (TooLarge p)
    → ((q : ℕ) → Breaks file q → ⊥) × TooLargeAt file p × ((q : ℕ) → TooLargeAt file q → p ≤ q)
lowest-place-of-5 = lowest-large

-- A file that none of 2 to 5 refuses breaks no rule and has no row too large; its bytes are one network, `network_of file`, of 01's shape.
pub nothing-broken : (file : List ℕ) → form_of file ≡ (Ok tt)
    → ((q : ℕ) → Breaks file q → ⊥) × ((q : ℕ) → TooLargeAt file q → ⊥)
nothing-broken = none-broken

pub file-is-network : (file : List ℕ) → WellFormed file → NetworkShape (row_operation file) (network_of file)
file-is-network = network-shape

-- ---- Typing: the checker accepts exactly what the rules derive, with the derived environments

pub accepted-is-derived : (file : List ℕ) (Es : List Environments) → check_file file ≡ passed Es
    → WellFormed file × DerivesNetwork (network_of file) Es
accepted-is-derived = accepted-derived

pub derived-is-accepted : (file : List ℕ) (Es : List Environments) → WellFormed file
    → DerivesNetwork (network_of file) Es → check_file file ≡ passed Es
derived-is-accepted = derived-accepted

-- ---- Messages, and the message reader

-- Bytes pass the test of a message exactly if they are one, and then of one tree.
pub tested-is-message : (s : List ℕ) → Octets s → is_message s ≡ true → (t : Tree Value) × Message s t
tested-is-message = message-sound

pub message-is-tested : (s : List ℕ) (t : Tree Value) → Message s t → is_message s ≡ true
message-is-tested = message-complete

pub message-one-way : (s : List ℕ) (t u : Tree Value) → Message s t → Message s u → t ≡ u
message-one-way s t u x y =
    encode_injective message_levels_below message_nodes_below message_levels_below message_nodes_below t u x.good y.good (sym x.bytes ∙ y.bytes)

-- The reader's part lies in the message, has there "the child's whole encoding", and is at 0 where it is empty.
pub part-lies-inside : (s ids : List ℕ) → Octets s → (span_of s ids).start + (span_of s ids).len ≤ length s
part-lies-inside = span-inside

pub part-is-there : (s ids : List ℕ) → Octets s → take (span_of s ids).len (drop (span_of s ids).start s) ≡ part_of s ids
part-is-there = span-part

pub empty-part-at-0 : (s ids : List ℕ) → (span_of s ids).len ≡ 0 → (span_of s ids).start ≡ 0
empty-part-at-0 = span-empty

-- Of 26 bytes in which the same child stands twice, the path 1.5 is the first and 2.5 the second.
pub each-twin : (span_of twice (1 ∷ 5 ∷ 0 ∷ 0 ∷ []) ≡ record { start = 11; len = 5 })
    × (span_of twice (2 ∷ 5 ∷ 0 ∷ 0 ∷ []) ≡ record { start = 21; len = 5 })
each-twin = span-twice

-- ---- States: "each, ill typed too, has one byte form"

-- `N` is the file's network and `rows` its number of B rows; 14: "The state bytes stand for no state of this file's shape."
pub read-is-state : {N : Network} {rows : ℕ} {s : List ℕ} {G : State} → Octets s → decode_state N rows s ≡ some G
    → Stands N rows s G
read-is-state = decode-state-sound

pub state-is-read : {N : Network} {rows : ℕ} {s : List ℕ} {G : State} → Stands N rows s G
    → decode_state N rows s ≡ some G
state-is-read = decode-state-complete

pub state-one-way : {N : Network} {rows : ℕ} {G H : State} → HasShape N rows G → HasShape N rows H
    → state_bytes G ≡ state_bytes H → G ≡ H
state-one-way = state-bytes-injective

pub else-14 : {N : Network} {rows : ℕ} {s : List ℕ} → Octets s → ((G : State) → Stands N rows s G → ⊥)
    → decode_state N rows s ≡ none
else-14 = refused-14

-- ---- Fresh and moves

-- "Fresh state: written for accepted files"; a refusal leaves the buffer as it was.
pub fresh-is-written : (file state : List ℕ) → AcceptedFile file → length state ≡ state_size
    → fresh file state ≡ record { outcome = done_with 0; state = fresh_bytes file }
fresh-is-written = fresh-writes

pub refused-fresh-leaves : (file s : List ℕ) → (outcome_number (fresh file s).outcome ≡ 0 → ⊥) → (fresh file s).state ≡ s
refused-fresh-leaves = fresh-leaves

-- A refused move leaves both buffers as they were. "Out bytes past that count stay."
pub refused-move-leaves : (file s out : List ℕ) (m : Move) (outside : List ℕ)
    → (outcome_number (step file s out m outside).outcome ≡ 0 → ⊥)
    → ((step file s out m outside).state ≡ s) × ((step file s out m outside).out ≡ out)
refused-move-leaves = step-leaves

pub past-count-stays : (file s out : List ℕ) (m : Move) (outside : List ℕ)
    → drop (step file s out m outside).outcome.bytes (step file s out m outside).out
    ≡ drop (step file s out m outside).outcome.bytes out
past-count-stays = step_stays

-- ---- Property 3

-- "after it live sessions are well typed, no next move, on the same file and the state so left, gives 18, no send or reply gives 19, one to an
-- outsider included, and a ready assign, if or while gives 0, or 1 for its out buffer": of an accepted file, for every list of moves.
pub sound : (file : List ℕ) → AcceptedFile file → (l : List Turn) → AllGiven l → Property3 file l
sound = property3

-- The same at a call, as the contract of `step` has it.
pub sound-call : (file s : List ℕ) (t : Turn) → Given t
    → SoundCall file s t (outcome_number (step file s t.out t.move t.bytes).outcome)
    (step file s t.out t.move t.bytes).state
sound-call = call-sound

-- There are files of which it speaks: this one is accepted, and its services send, receive and reply (soundness/ExampleFileLaws).
pub some-file-accepted : AcceptedFile file
some-file-accepted = accepted-file

-- ---- Proved cases: rows a to i, one table and one proof

pub cases : TableHolds table
cases = all-rows-hold
