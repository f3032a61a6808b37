-- The message that breaks it is the smallest that does, there is one exactly where the first type is no subtype of the second, and so T1 ≤ T2
-- holds exactly when every message that fits T1 fits T2.
use Rattle.std.specs.Prelude.{◌≡◌, refl, List, [], ◌∷◌, ◌++◌, Bool, true, false, ℕ, zero, suc, ◌+◌, ◌<◌, ◌≤◌, max, length, drop, T, ltb}
use Rattle.std.proofs.Common.{sym, ap, subst, ◌∙◌, arith}
use Rattle.basics.specs.Choice.{pick}
use Rattle.basics.specs.TestLaws.{T_of, of_t, clash, lt_of, lt_not}
use Rattle.tree_forest.specs.Limits.{message_levels_below, message_nodes_below, session_levels}
use Rattle.tree_forest.specs.Forest.{Forest, end, node, Tree, tree, Rising, RisingTree, nodes, levels}
use Rattle.scalar.specs.Value.{Value, value, is_value}
use Rattle.tree.specs.Encode.{encode, rooted, children, WellFormedTree}
use Rattle.tree.specs.Standing.{Root}
use Rattle.tree.specs.StandingLaws.{root-fields, encodes-root}
use Rattle.tree.specs.EncodeLaws.{unique, good_of, sound-above}
use Rattle.tree.specs.DecodeLaws.{encode_injective}
use Rattle.network_syntax.specs.Syntax.{Mark, mark, Types, MessageType, Optional, none, some}
use Rattle.network.specs.Shapes.{TypeShape, tree_nodes}
use Rattle.check_subtyping.specs.Subtype.{Subtypes, Subtype, are_subtypes, root_children}
use Rattle.check_subtyping.proofs.SubtypeLaws.{subtype-trans, subtypes-sound, subtypes-complete}
use Rattle.check_subtyping.specs.Own.{own_types, own_type, Fits, fits}
use Rattle.check_subtyping.proofs.OwnLaws.{own-rising, message-within, fits-sound, fits-complete}
use Rattle.check_typing.proofs.EnvironmentLaws.{sums, maxima}
use Rattle.counterexample_rules.specs.Order.{Lower, is_lower}
use Rattle.counterexample_rules.specs.OrderLaws.{irreflexive, lower-trans, neither-lower, lower-sound, lower-complete}
use Rattle.counterexample_rules.specs.Smallest.{IsMessage, Counterexample, Smallest, TypeWithin}
use Rattle.counterexample_rules.specs.Breaking.{least_of, least_with, least_message, lower_of, lowest_of, breaking}
use Rattle.counterexample_rules.specs.Contained.{Contained}
use Rattle.counterexample_rules.specs.ContainedLaws.{contained-lower}
use Rattle.counterexample_rules.specs.LeastLaws.{least-proper, least-sound, least-rising, least_fits, least-most}
use Rattle.counterexample_rules.specs.ChildLaws.{contained-least}
use Rattle.counterexample_rules.specs.WithinLaws.{FitsTypes, LeastFit, least-decide}
use Rattle.counterexample_rules.specs.OrderedLaws.{least-ordered}

-- ---- the least messages of a type

pub least-suits : (t : MessageType) → TypeWithin t → (j : ℕ) → Fits (least_message t j) t
least-suits (tree (mark m b) k) w j =
    record { basics = refl; children = subtypes-sound (own_types (least_with j k)) k (least_fits j k w.shape.rising) }

pub least-well-formed : (t : MessageType) → TypeWithin t → (j : ℕ) → WellFormedTree message_levels_below message_nodes_below (least_message t j)
least-well-formed (tree (mark m b) k) w j =
    let c = least_with j k in
    let rise = least-rising j k w.shape.rising in
    let fit = least-suits (tree (mark m b) k) w j in
    let deep = message-within max maxima (least_of b) c (mark m b) k rise w.shape.rising fit in
    let many = message-within ◌+◌ sums (least_of b) c (mark m b) k rise w.shape.rising fit in
    record {
      root = least-proper b w.shape.each_node.0;
      sound = least-sound j k w.shape.each_node.1 w.ids;
      rising = rise;
      shallow = omega (arith, w.shape.few_levels);
      few = omega (arith, w.shape.few_nodes);
    }

pub least-message : (t : MessageType) → TypeWithin t → (j : ℕ) → IsMessage (least_message t j)
least-message t w j = record { bytes = refl; good = least-well-formed t w j }

-- ---- the lowest of them

-- Which one it is, that it does not fit, and that none lower does not.
pub record LowestAt (t u : MessageType) (n : ℕ) (c : Tree Value) : Type 0 where
  pub number : ℕ
  pub is : c ≡ least_message t number
  pub misfit : fits c u ≡ false
  pub lowest : (j : ℕ) → j < n → fits (least_message t j) u ≡ false → Lower (least_message t j) c → ⊥

abbrev AllFit : MessageType → MessageType → ℕ → Type 0
AllFit t u n = (j : ℕ) → j < n → fits (least_message t j) u ≡ true

-- What the search answers.
abbrev Tells : MessageType → MessageType → ℕ → Optional (Tree Value) → Type 0
Tells t u n none = AllFit t u n
Tells t u n (some c) = LowestAt t u n c

-- Every number below the next is below or the last.
last_or : (P : ℕ → Type 0) (n j : ℕ) → j < suc n → ((i : ℕ) → i < n → P i) → P n → P j
last_or P n j h f l = go (ltb j n) refl
  where
    go : (t : Bool) → ltb j n ≡ t → P j
    go true e = f j (lt_of j n e)
    go false e = let q : n ≡ j = omega (arith, lt_not j n e) in subst P q l

module _ (t u : MessageType) (n : ℕ) where
  abbrev m : Tree Value
  m = least_message t n

  abbrev Misses : Tree Value → ℕ → Type 0
  Misses c j = fits (least_message t j) u ≡ false → Lower (least_message t j) c → ⊥

  next-none : (x : Bool) → fits m u ≡ x → AllFit t u n → Tells t u (suc n) (pick x none (some m))
  next-none true e h = λ j l. last_or (λ (i : ℕ). fits (least_message t i) u ≡ true) n j l h e
  next-none false e h = record {
    number = n;
    is = refl;
    misfit = e;
    lowest = λ j l. last_or (Misses m) n j l (λ i b f d. clash (h i b) f) (λ f. irreflexive m);
  }

  next-lower : (c : Tree Value) → LowestAt t u n c → fits m u ≡ false → (y : Bool) → is_lower m c ≡ y → LowestAt t u (suc n) (pick y m c)
  next-lower c h e true q =
      let d = lower-sound m c (T_of q) in
      record {
        number = n;
        is = refl;
        misfit = e;
        lowest = λ j l. last_or (Misses m) n j l (λ i b f x. h.lowest i b f (lower-trans x d)) (λ f. irreflexive m);
      }
  next-lower c h e false q = record {
    number = h.number;
    is = h.is;
    misfit = h.misfit;
    lowest = λ j l. last_or (Misses c) n j l h.lowest (λ f x. clash (of_t (is_lower m c) (lower-complete m c x)) q);
  }

  next_fits : (c : Tree Value) → LowestAt t u n c → fits m u ≡ true → LowestAt t u (suc n) c
  next_fits c h e = record {
    number = h.number;
    is = h.is;
    misfit = h.misfit;
    lowest = λ j l. last_or (Misses c) n j l h.lowest (λ f x. clash e f);
  }

  picked : (y : Bool) (c : Tree Value) → LowestAt t u (suc n) (pick y m c) → Tells t u (suc n) (pick y (some m) (some c))
  picked true c h = h
  picked false c h = h

  next-some : (c : Tree Value) → LowestAt t u n c → (x : Bool) → fits m u ≡ x
      → Tells t u (suc n) (pick x (some c) (pick (is_lower m c) (some m) (some c)))
  next-some c h true e = next_fits c h e
  next-some c h false e = picked (is_lower m c) c (next-lower c h e (is_lower m c) refl)

  next-tells : (b : Optional (Tree Value)) → Tells t u n b → Tells t u (suc n) (lower_of u m b)
  next-tells none h = next-none (fits m u) refl h
  next-tells (some c) h = next-some c h (fits m u) refl

pub lowest-tells : (t u : MessageType) (n : ℕ) → Tells t u n (lowest_of t u n)
unfolding lowest_of
lowest-tells t u zero = λ j l. absurd (omega arith)
lowest-tells t u (suc n) = next-tells t u n (lowest_of t u n) (lowest-tells t u n)

tells_at : (t u : MessageType) (n : ℕ) (b : Optional (Tree Value)) → lowest_of t u n ≡ b → Tells t u n b
tells_at t u n b e = subst (Tells t u n) e (lowest-tells t u n)

-- ---- what decides

-- A message that fits t fits u if the least messages of t that it contains do.
decide : (t u : MessageType) → RisingTree t → (n : Tree Value) → IsMessage n → Fits n t
    → ((j : ℕ) → j < tree_nodes t → Contained (least_with j (root_children t)) (children n) → Fits (least_message t j) u) → Fits n u
decide (tree (mark m b) K) (tree (mark p c) L) rise (tree v F) good fit h =
    let suits : FitsTypes K F = record {
      rising = good.good.rising;
      typed = rise;
      sound = good.good.sound;
      fitting = subtypes-complete (own_types F) K (own-rising F good.good.rising) rise fit.children;
    } in
    let first = h 0 (omega arith) (contained-least F K suits.sound suits.fitting) in
    record { basics = fit.basics ∙ first.basics; children = least-decide K L F suits (λ j l q. (h j (omega arith) q).children) }

-- A message contains the least ones with no higher bytes.
under-message : (t : MessageType) (n c : Tree Value) → IsMessage n → Fits n t → (j : ℕ) → Contained (least_with j (root_children t)) (children n)
    → Lower n c → Lower (least_message t j) c
under-message (tree (mark m b) K) (tree (value d v) F) c good fit j q low =
    let e : d ≡ b = fit.basics in
    contained-lower (least-most b v (subst (λ (z : ℕ). is_value z v ≡ true) e good.good.root.valid)) q
    (subst (λ (z : ℕ). Lower (tree (value z v) F) c) e low)

fits-of : (m : Tree Value) (u : MessageType) → IsMessage m → RisingTree u → Fits m u → fits m u ≡ true
fits-of (tree v F) u good rise h = of_t (fits (tree v F) u) (fits-complete (tree v F) u good.good.rising rise h)

each_fits : (t u : MessageType) → RisingTree t → ((j : ℕ) → j < tree_nodes t → Fits (least_message t j) u) → Subtype t u
each_fits (tree (mark m b) K) (tree (mark n c) L) w h =
    record { basics = (h 0 (omega arith)).basics; children = least-ordered K L w (λ j l. (h j (omega arith)).children) }

-- No message's encoding is the beginning of another's.
pub no-beginning : (m n : Tree Value) → IsMessage m → IsMessage n → (r : List ℕ) → encode (rooted m) ++ r ≡ encode (rooted n) → m ≡ n
no-beginning (tree (value b v) f) (tree (value c w) g) p q r e =
    let s = encode (rooted (tree (value c w) g)) in
    let x : Root s 0 0 (tree (value b v) f) = record {
      after = r;
      bytes = sym e;
      proper = p.good.root;
      good = good_of f session_levels 0 (sound-above f p.good.sound) p.good.rising p.good.sound (omega (arith, p.good.shallow));
      small = omega (arith, p.good.few);
    } in
    let y = encodes-root message_levels_below message_nodes_below s (tree (value c w) g) (omega arith) (omega arith) q in
    let x' = root-fields s 0 0 b v f x in
    let y' = root-fields s 0 0 c w g y in
    let ew : w ≡ v = sym y'.value ∙ x'.value in
    let after : drop (0 + 5 + length v) s ≡ encode g ++ y.after =
    subst (λ (z : List ℕ). drop (0 + 5 + length z) s ≡ encode g ++ y.after) ew y'.after in
    let eg = unique s (0 + 5 + length v) session_levels session_levels 0 0 f g r y.after x'.after after x.good y.good
    (sym x'.count ∙ y'.count) in
    same-tree (sym x'.basic ∙ y'.basic) (sym ew) eg
  where
    same-tree : {b c : ℕ} {v w : List ℕ} {f g : Forest Value} → b ≡ c → v ≡ w → f ≡ g → tree (value b v) f ≡ tree (value c w) g
    same-tree p q r = cc

-- At most one message is smallest.
pub smallest-unique : (t u : MessageType) (m n : Tree Value) → Smallest t u m → Smallest t u n → m ≡ n
smallest-unique t u m n p q =
    encode_injective message_levels_below message_nodes_below message_levels_below message_nodes_below m n p.breaks.message.good q.breaks.message.good
    (neither-lower m n (q.lowest m p.breaks) (p.lowest n q.breaks))

module _ (t u : MessageType) (wt : TypeWithin t) (wu : TypeWithin u) where
  -- What the search gives breaks it.
  found-breaks : (c : Tree Value) → LowestAt t u (tree_nodes t) c → Counterexample t u c
  found-breaks c h =
      let good = subst IsMessage (sym h.is) (least-message t wt h.number) in
      record {
        message = good;
        fits_first = subst (λ (z : Tree Value). Fits z t) (sym h.is) (least-suits t wt h.number);
        misfits = λ f. clash (fits-of c u good wu.shape.rising f) h.misfit;
      }

  -- And nothing lower does.
  found-lowest : (c : Tree Value) → LowestAt t u (tree_nodes t) c → (n : Tree Value) → Counterexample t u n → Lower n c → ⊥
  found-lowest c h n b low =
      b.misfits (decide t u wt.shape.rising n b.message b.fits_first
      (λ j l q. by j l q (fits (least_message t j) u) refl))
    where
      by : (j : ℕ) → j < tree_nodes t → Contained (least_with j (root_children t)) (children n) → (x : Bool) → fits (least_message t j) u ≡ x
          → Fits (least_message t j) u
      by j l q true e = fits-sound (least_message t j) u (T_of e)
      by j l q false e = absurd (h.lowest j l e (under-message t n c b.message b.fits_first j q low))

  pub breaking-smallest : (c : Tree Value) → breaking t u ≡ some c → Smallest t u c
  breaking-smallest c e =
      let h = tells_at t u (tree_nodes t) (some c) e in record { breaks = found-breaks c h; lowest = found-lowest c h }

  none-orders : AllFit t u (tree_nodes t) → Subtype t u
  none-orders h = each_fits t u wt.shape.rising (λ j l. fits-sound (least_message t j) u (T_of (h j l)))

  -- None exactly where the first is a subtype of the second.
  pub none-subtype : breaking t u ≡ none → Subtype t u
  none-subtype e = none-orders (tells_at t u (tree_nodes t) none e)

  pub subtype-none : Subtype t u → breaking t u ≡ none
  subtype-none h = by (breaking t u) refl
    where
      by : (b : Optional (Tree Value)) → breaking t u ≡ b → breaking t u ≡ none
      by none e = e
      by (some c) e = let x = (breaking-smallest c e).breaks in absurd (x.misfits (subtype-trans x.fits_first h))

  -- The smallest is what the search gives.
  pub smallest-breaking : (m : Tree Value) → Smallest t u m → breaking t u ≡ some m
  smallest-breaking m h = by (breaking t u) refl
    where
      by : (b : Optional (Tree Value)) → breaking t u ≡ b → breaking t u ≡ some m
      by none e = absurd (h.breaks.misfits (subtype-trans h.breaks.fits_first (none-subtype e)))
      by (some c) e = e ∙ ap some (smallest-unique t u c m (breaking-smallest c e) h)

  -- T1 ≤ T2 exactly when every message that fits T1 fits T2.
  pub messages-subtype : ((m : Tree Value) → IsMessage m → Fits m t → Fits m u) → Subtype t u
  messages-subtype h = by (breaking t u) refl
    where
      by : (b : Optional (Tree Value)) → breaking t u ≡ b → Subtype t u
      by none e = none-subtype e
      by (some c) e = let x = (breaking-smallest c e).breaks in absurd (x.misfits (h c x.message x.fits_first))

pub subtype-messages : (t u : MessageType) → Subtype t u → (m : Tree Value) → Fits m t → Fits m u
subtype-messages t u h m f = subtype-trans f h
