-- Bytes that are written one after another, at each of the ways out of the code.
use mathlib.Core.Path.{◌≡◌, refl, sym, ap, ◌∙◌}
use mathlib.Core.List.{List, [], ◌∷◌, ◌++◌, append_assoc}
use mathlib.Core.Bool.{Bool}
use Prim.Native.Nat.{ℕ, ◌+◌, ◌-◌, ◌*◌, ◌≤◌, ◌<◌}
use native.Mathlib.Omega.{arith}
use lib.ListN.{length, take, drop, replicate, length-take, length-drop}
use lib.Seq.{drop-drop, paste}
use borrow.Rule.Slice.PartMut.{put_mid}
use borrow.Author.Tests.{lt-ltb, le-ltb}
use Rattle.basics.specs.Choice.{pick}
use Rattle.wire.specs.Wire.{put_u16, part, with_part}
use Rattle.wire.specs.WireLaws.{length_part, length-with_part, parts_next, put-16}
use Rattle.state.specs.Places.{slot_size, message_room, entry_size, entry_start}
use Rattle.network_syntax.specs.Syntax.{Optional}
use Rattle.state.specs.Session.{Destination}
use Rattle.state.specs.Bytes.{zeros, padded, reply_kind, reply_bytes, read_session}
use Rattle.wire.specs.Wire.{u16_bytes}
use Rattle.state.proofs.FreshLaws.{replicate-zeros}
use Rattle.state.proofs.PartLaws.{length-zeros}
use Rattle.state.proofs.SizeLaws.{reply-size}
use Rattle.state_destinations.specs.Meaning.{reply_of}
use Rattle.state_destinations.specs.declared.Destination as coded
use Rattle.state_queues.specs.Queue.{removed, entry_head, entry_of, pushed}
use Rattle.std.specs.Prelude.{Option}

-- ---- a part that is lent comes back

put-part : (s l m : List ℕ) (at k : ℕ) → l ≡ m → length m ≡ k → put_mid at k s l ≡ with_part s at m
put-part s l m at k f e = rw (f, drop-drop k at s, e) refl

put-zeros : (s l : List ℕ) (at n e : ℕ) → at + n ≡ e → e ≤ length s → l ≡ replicate (length (take (e - at) (drop at s))) 0
    → put_mid at (e - at) s l ≡ with_part s at (zeros n)
put-zeros s l at n e f h g =
    let left : length (take (e - at) (drop at s)) ≡ n = simp (length-take, length-drop) (omega arith) in
    let same : l ≡ replicate n 0 = rw left at g in
    put-part s l (zeros n) at (e - at) (same ∙ replicate-zeros n) (omega (arith, length-zeros n))

-- ---- an entry

pub head-written : (s : List ℕ) (at w : ℕ) (to : Option coded.Destination) (len : ℕ) {kind : ℕ} {s₁ s₂ s₃ s₄ : List ℕ} → at + 8 ≤ length s
    → s₁ ≡ with_part s at ((w + 1) ∷ []) → kind ≡ reply_kind (reply_of to) → s₂ ≡ with_part s₁ (at + 1) (kind ∷ []) → s₃ ≡ put_u16 s₂ (at + 2) len → s₄ ≡ with_part s₃ (at + 4) (reply_bytes (reply_of to)) → s₄ ≡ with_part s at (entry_head w (reply_of to) len)
unfolding entry_head
head-written s at w to len {kind} {s₁} {s₂} {s₃} h a k b d e =
    let r = reply_bytes (reply_of to) in
    let inside : at ≤ length s = omega (arith, h) in
    let two : s₂ ≡ with_part s at ((w + 1) ∷ kind ∷ []) = parts_next s at ((w + 1) ∷ []) (kind ∷ []) 1 (at + 1) inside refl refl a b in
    let l : length s₂ ≡ length s = ap length two ∙ length-with_part s at ((w + 1) ∷ kind ∷ []) (omega (arith, h)) in
    let four : s₃ ≡ with_part s at ((w + 1) ∷ kind ∷ u16_bytes len) =
    parts_next s at ((w + 1) ∷ kind ∷ []) (u16_bytes len) 2 (at + 2) inside refl refl two (d ∙ put-16 s₂ (at + 2) len (omega (arith, h, l))) in
    parts_next s at ((w + 1) ∷ kind ∷ u16_bytes len) r 4 (at + 4) inside refl refl four e
    ∙ ap (λ (j : ℕ). with_part s at (((w + 1) ∷ j ∷ u16_bytes len) ++ r)) k

head-size : (w : ℕ) (to : Optional Destination) (n : ℕ) → length (entry_head w to n) ≡ 8
unfolding entry_head
head-size w to n = omega (arith, reply-size to)

message-written : (s : List ℕ) (at : ℕ) (message : List ℕ) (start len : ℕ) {s₁ s₂ : List ℕ} → at + message_room ≤ length s → start + len ≤ length message
    → s₁ ≡ with_part s at (part message start len) → s₂ ≡ with_part s₁ (at + len) (zeros (message_room - len)) → s₂ ≡ with_part s at (padded message_room (part message start len))
message-written s at message start len h i a b =
    let m = part message start len in
    let l : length m ≡ len = length_part message start len i in
    parts_next s at m (zeros (message_room - len)) len (at + len) (omega (arith, h)) l refl a b ∙ ap (λ (j : ℕ). with_part s at (m ++ zeros (message_room - j))) (sym l)

-- The same where the parts are lent.
pub message-stored : (s : List ℕ) (at : ℕ) (message : List ℕ) (start len : ℕ) {l z : List ℕ} → at + message_room ≤ length s
    → start + len ≤ length message → len ≤ message_room → l ≡ take (start + len - start) (drop start message)
    → z ≡ replicate (length (take (at + message_room - (at + len)) (drop (at + len) (put_mid at (at + len - at) s l)))) 0
    → put_mid (at + len) (at + message_room - (at + len)) (put_mid at (at + len - at) s l) z ≡ with_part s at (padded message_room (part message start len))
message-stored s at message start len {l} {z} h i j e f =
    let m = part message start len in
    let p = put_mid at (at + len - at) s l in
    let x : start + len - start ≡ len = omega arith in
    let n : length m ≡ len = length_part message start len i in
    let a : p ≡ with_part s at m = put-part s l m at (at + len - at) (rw x at e) (omega (arith, n)) in
    let size : length p ≡ length s = ap length a ∙ length-with_part s at m (omega (arith, n, h)) in
    message-written s at message start len h i a
    (put-zeros p z (at + len) (message_room - len) (at + message_room) (omega arith) (omega (arith, size)) f)

-- ---- taking one out, and one more

removed-is : (s : List ℕ) (slot k : ℕ) {at : ℕ} {s₁ s₂ : List ℕ} → slot + slot_size ≤ length s → k < 4 → at ≡ entry_start slot k
    → s₁ ≡ with_part s at (part s (at + entry_size) (entry_size * (3 - k))) → s₂ ≡ with_part s₁ (at + entry_size * (3 - k)) (zeros entry_size) → s₂ ≡ removed s slot k
unfolding removed
removed-is s slot k {at} h i f a b =
    let n = entry_size * (3 - k) in
    let l : length (part s (at + entry_size) n) ≡ n = length_part s (at + entry_size) n (omega (arith, h, i, f)) in
    parts_next s at (part s (at + entry_size) n) (zeros entry_size) n (at + n) (omega (arith, h, i, f)) l refl a b
    ∙ ap (λ (j : ℕ). with_part s j (part s (j + entry_size) n ++ zeros entry_size)) f

-- The same where the last part is lent.
pub removed-moved : (s : List ℕ) (slot k : ℕ) {at : ℕ} {p z : List ℕ} → slot + slot_size ≤ length s → k < 4 → at ≡ entry_start slot k
    → p ≡ paste s at (drop (at + entry_size) s) (at + entry_size * (3 - k) + entry_size - (at + entry_size))
    → z ≡ replicate (length (take (at + entry_size * (3 - k) + entry_size - (at + entry_size * (3 - k))) (drop (at + entry_size * (3 - k)) p))) 0
    → put_mid (at + entry_size * (3 - k)) (at + entry_size * (3 - k) + entry_size - (at + entry_size * (3 - k))) p z ≡ removed s slot k
removed-moved s slot k {at} {p} {z} h i f e g =
    let n = entry_size * (3 - k) in
    let m = part s (at + entry_size) n in
    let x : at + n + entry_size - (at + entry_size) ≡ n = omega arith in
    let l : length m ≡ n = length_part s (at + entry_size) n (omega (arith, h, i, f)) in
    let moved : p ≡ paste s at (drop (at + entry_size) s) n = rw x at e in
    let a : p ≡ with_part s at m = moved ∙ (append_assoc (take at s) m (drop (at + n) s)
    ∙ ap (λ (j : ℕ). take at s ++ (m ++ drop (at + j) s)) (sym l)) in
    let size : length p ≡ length s = ap length a ∙ length-with_part s at m (omega (arith, l, h, i, f)) in
    removed-is s slot k h i f a
    (put-zeros p z (at + n) entry_size (at + n + entry_size) refl (omega (arith, size, h, i, f)) g)

module _ (s : List ℕ) (slot w : ℕ) (to : Option coded.Destination) (message : List ℕ) (start len : ℕ) {k : ℕ} where
  pub push-full : (k ≡ length (read_session s slot).queue) × (k ≤ 4) → 4 ≤ k → s ≡ pushed s slot w (reply_of to) (part message start len)
  unfolding pushed
  push-full h i =
      let n = length (read_session s slot).queue in
      sym (ap (λ (t : Bool). pick t (with_part s (entry_start slot n) (entry_of w (reply_of to) (part message start len))) s) (le-ltb n 4 (omega (arith, h.0, i))))

  pub push-one : {at : ℕ} {s₁ s₂ : List ℕ} → slot + slot_size ≤ length s → start + len ≤ length message → (k ≡ length (read_session s slot).queue) × (k ≤ 4)
      → k < 4 → at ≡ entry_start slot k → s₁ ≡ with_part s at (entry_head w (reply_of to) len)
      → s₂ ≡ with_part s₁ (at + 8) (padded message_room (part message start len)) → s₂ ≡ pushed s slot w (reply_of to) (part message start len)
  push-one {at} {s₁} {s₂} d e h i f a b =
      let m = part message start len in
      let l : length m ≡ len = length_part message start len e in
      let head = entry_head w (reply_of to) len in
      let c : s₂ ≡ with_part s at (head ++ padded message_room m) =
      parts_next s at head (padded message_room m) 8 (at + 8) (omega (arith, d, i, f)) (head-size w (reply_of to) len) refl a b in
      c ∙ (ap (λ (j : ℕ). with_part s at (entry_head w (reply_of to) j ++ padded message_room m)) (sym l)
      ∙ (ap (λ (j : ℕ). with_part s j (entry_of w (reply_of to) m)) f ∙ (ap (λ (j : ℕ). with_part s (entry_start slot j) (entry_of w (reply_of to) m)) h.0 ∙ opened (omega (arith, h.0, i)))))
    where
      opened : length (read_session s slot).queue < 4
          → with_part s (entry_start slot (length (read_session s slot).queue)) (entry_of w (reply_of to) (part message start len))
          ≡ pushed s slot w (reply_of to) (part message start len)
      opened h =
          unfold pushed in
          sym (ap (λ (t : Bool). pick t (with_part s (entry_start slot (length (read_session s slot).queue)) (entry_of w (reply_of to) (part message start len))) s)
          (lt-ltb (length (read_session s slot).queue) 4 h))
