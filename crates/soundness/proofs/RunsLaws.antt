-- What moves on bytes give, on an accepted file from a state's bytes, is what they give on states.
use Rattle.std.specs.Prelude.{◌≡◌, Bool, ℕ, T, leb, length}
use Rattle.std.proofs.Math.Path.{refl, ap}
use Rattle.std.proofs.Common.{◌∙◌}
use mathlib.Core.List.{List, [], ◌∷◌}
use Rattle.basics.specs.Choice.{pick}
use Rattle.basics.specs.TestLaws.{of_t}
use Rattle.refusal.specs.declared.Refusal.TheVariants.{BufferSize}
use Rattle.refusal.specs.Refusal.{outcome_number}
use Rattle.network.specs.Layout.{behaviour_count}
use Rattle.network.specs.Decode.{network_of}
use Rattle.network_syntax.specs.Syntax.{Network}
use Rattle.state.specs.Places.{out_room}
use Rattle.state.specs.Session.{State}
use Rattle.state.specs.Bytes.{state_bytes}
use Rattle.state.specs.Shape.{fresh_state}
use Rattle.move_rules.specs.Moves.{Result, refused, moved, move}
use Rattle.move_rules.specs.Step.{Step, refuse, finish, step}
use Rattle.soundness.specs.Invariant.{Sound}
use Rattle.soundness.proofs.ResultLaws.{Claims, claims_of, Keeps}
use Rattle.soundness.proofs.FreshLaws.{fresh-sound}
use Rattle.move_rules.specs.Fresh.{fresh_bytes}
use Rattle.soundness.specs.Property3.{Turn, AllGiven, AcceptedFile, after, number_of_next}
use Rattle.soundness.proofs.Property3Laws.{network, move-keeps, step_is}
use Rattle.soundness.specs.Runs.{given, state_after, numbers, reached_by, numbers_on_bytes, AllRoomy}

module _ (file : List ℕ) (acc : AcceptedFile file) where
  abbrev N : Network
  N = network_of file

  roomy : (G : State) → Sound N (behaviour_count file) G → (t : Turn) → T (leb out_room (length t.out))
      → step file (state_bytes G) t.out t.move t.bytes ≡ finish (state_bytes G) t.out (move N G t.move t.bytes)
  roomy G h t r =
      let R = move N G t.move t.bytes in
      step_is file acc G h t
      ∙ ap (λ (b : Bool). pick b (finish (state_bytes G) t.out R) (refuse BufferSize (state_bytes G) t.out)) (of_t (leb out_room (length t.out)) r)

  finish-number : (s out : List ℕ) (R : Result) → outcome_number (finish s out R).outcome ≡ given R
  finish-number s out (refused why) = refl
  finish-number s out (moved G bytes) = refl

  finish-bytes : (G : State) (out : List ℕ) (R : Result) → (finish (state_bytes G) out R).state ≡ state_bytes (state_after G R)
  finish-bytes G out (refused why) = refl
  finish-bytes G out (moved G2 bytes) = refl

  state-after-sound : (claims : Claims) (G : State) → Sound N (behaviour_count file) G → (R : Result) → Keeps N (behaviour_count file) claims R
      → Sound N (behaviour_count file) (state_after G R)
  state-after-sound claims G h (refused why) k = h
  state-after-sound claims G h (moved G2 bytes) k = k.0

  pub numbers-on-bytes : (l : List Turn) → AllGiven l → AllRoomy l → (G : State) → Sound N (behaviour_count file) G
      → numbers_on_bytes file (state_bytes G) l ≡ numbers N G l
  unfolding numbers_on_bytes numbers AllGiven AllRoomy
  numbers-on-bytes [] g r G h = refl
  numbers-on-bytes (t ∷ l) g r G h =
      let R = move N G t.move t.bytes in
      let number : number_of_next file (state_bytes G) t ≡ given R =
      ap (λ (x : Step). outcome_number x.outcome) (roomy G h t r.0) ∙ finish-number (state_bytes G) t.out R in
      let bytes : (step file (state_bytes G) t.out t.move t.bytes).state ≡ state_bytes (state_after G R) =
      ap (λ (x : Step). x.state) (roomy G h t r.0) ∙ finish-bytes G t.out R in
      let kept = move-keeps N (behaviour_count file) (network file acc) G h t.move t.bytes g.0.reply_number g.0.octets in
      let rest = numbers-on-bytes l g.1 r.1 (state_after G R) (state-after-sound (claims_of N G t.move) G h R kept) in
      rw (number, bytes, rest)

  -- The bytes after the list are those of the state after it.
  pub after-on-bytes : (l : List Turn) → AllGiven l → AllRoomy l → (G : State) → Sound N (behaviour_count file) G
      → after file (state_bytes G) l ≡ state_bytes (reached_by N G l)
  unfolding after reached_by AllGiven AllRoomy
  after-on-bytes [] g r G h = refl
  after-on-bytes (t ∷ l) g r G h =
      let R = move N G t.move t.bytes in
      let bytes : (step file (state_bytes G) t.out t.move t.bytes).state ≡ state_bytes (state_after G R) =
      ap (λ (x : Step). x.state) (roomy G h t r.0) ∙ finish-bytes G t.out R in
      let kept = move-keeps N (behaviour_count file) (network file acc) G h t.move t.bytes g.0.reply_number g.0.octets in
      ap (λ (s : List ℕ). after file s l) bytes
      ∙ after-on-bytes l g.1 r.1 (state_after G R) (state-after-sound (claims_of N G t.move) G h R kept)

  -- From fresh.
  pub fresh-numbers : (l : List Turn) → AllGiven l → AllRoomy l → numbers_on_bytes file (fresh_bytes file) l ≡ numbers N (fresh_state N) l
  fresh-numbers l g r = numbers-on-bytes l g r (fresh_state N) (fresh-sound N (behaviour_count file) (network file acc))

  pub fresh-after : (l : List Turn) → AllGiven l → AllRoomy l → after file (fresh_bytes file) l ≡ state_bytes (reached_by N (fresh_state N) l)
  fresh-after l g r = after-on-bytes l g r (fresh_state N) (fresh-sound N (behaviour_count file) (network file acc))
