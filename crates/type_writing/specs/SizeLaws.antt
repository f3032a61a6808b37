-- The sizes that reading a text notes are those of its types, held at their limits.
use Rattle.std.specs.Prelude.{◌≡◌, refl, Bool, ℕ, suc, ◌+◌, ◌*◌, max}
use Rattle.std.proofs.Common.{sym, ◌∙◌}
use Rattle.std.proofs.Math.Path.{ap}
use native.Mathlib.Omega.{arith}
use mathlib.Core.List.{List, [], ◌∷◌}
use Rattle.std.proofs.Math.Bool.{true, false}
use Rattle.basics.specs.Choice.{pick}
use Rattle.wire.specs.Wire.{u16_at}
use Rattle.tree_forest.specs.Forest.{measure, nodes, levels}
use Rattle.tree.specs.Encode.{children}
use Rattle.network_syntax.specs.Syntax.{MessageType}
use Rattle.type_text.specs.Grammar.{same_word, Children, no_more, written, named, Declaration, declaration}
use Rattle.type_text.specs.Sizes.{nodes_in, levels_in}
use Rattle.type_text.specs.Meaning.{NamedType, named_type, type_named, type_from, types_from}
use Rattle.type_reading.specs.Tables.{word_from, held, known_at, known_nodes, known_levels, Noted}
use Rattle.type_rows.specs.MeaningLaws.{ProperAll, nodes_named, levels_named, nodes-known, levels-known, nodes-forest, levels-forest}

held_more : (m a b c d : ℕ) → held m a ≡ held m b → held m c ≡ held m d → held m (suc a + c) ≡ held m (suc b + d)
held_more m a b c d x y = omega (arith, x, y)

held_next : (m a b : ℕ) → held m a ≡ held m b → held m (suc a) ≡ held m (suc b)
held_next m a b x = omega (arith, x)

held-larger : (m a b : ℕ) → held m (max a b) ≡ max (held m a) (held m b)
held-larger m a b = omega arith

held-deeper : (m a b c d : ℕ) → held m a ≡ held m b → held m c ≡ held m d → held m (max (suc a) c) ≡ held m (max (suc b) d)
held-deeper m a b c d x y = rw (held-larger m (suc a) c, held-larger m (suc b) d, held_next m a b x, y) refl

-- Sizes that agree up to a limit for each name agree up to it for a list.
pub nodes-held : (m : ℕ) (k j : List ℕ → ℕ) → ((t : List ℕ) → held m (k t) ≡ held m (j t)) → (c : Children) → held m (nodes_in k c) ≡ held m (nodes_in j c)
unfolding nodes_in
nodes-held m k j h no_more = refl
nodes-held m k j h (written n o b c d) = held_more m (nodes_in k c) (nodes_in j c) (nodes_in k d) (nodes_in j d) (nodes-held m k j h c) (nodes-held m k j h d)
nodes-held m k j h (named n o t d) = held_more m (k t) (j t) (nodes_in k d) (nodes_in j d) (h t) (nodes-held m k j h d)

pub levels-held : (m : ℕ) (k j : List ℕ → ℕ) → ((t : List ℕ) → held m (k t) ≡ held m (j t)) → (c : Children) → held m (levels_in k c) ≡ held m (levels_in j c)
unfolding levels_in
levels-held m k j h no_more = refl
levels-held m k j h (written n o b c d) =
    held-deeper m (levels_in k c) (levels_in j c) (levels_in k d) (levels_in j d) (levels-held m k j h c) (levels-held m k j h d)
levels-held m k j h (named n o t d) = held-deeper m (k t) (j t) (levels_in k d) (levels_in j d) (h t) (levels-held m k j h d)

-- What a table knows of each name agrees with the types known so far.
pub record TableAgrees (s table : List ℕ) (n : ℕ) (known : List NamedType) : Type 0 where
  pub many : (t : List ℕ) → held 257 (known_nodes s table n t) ≡ held 257 (nodes_named known t)
  pub deep : (t : List ℕ) → held 5 (known_levels s table n t) ≡ held 5 (levels_named known t)

pub agrees-none : (s table : List ℕ) → TableAgrees s table 0 []
unfolding known_at type_named measure
agrees-none s table = record { many = λ t. refl; deep = λ t. refl }

-- The entries from n on hold the sizes of these types.
unfoldable pub SizesNoted : List ℕ → ℕ → List MessageType → Type 0
SizesNoted table n [] = Unit {0}
SizesNoted table n (t ∷ l) =
    (u16_at table (6 * n + 2) ≡ held 257 (nodes (children t))) × (u16_at table (6 * n + 4) ≡ held 5 (levels (children t))) × SizesNoted table (suc n) l

module _ (s table : List ℕ) (ids : List (List ℕ)) where
  pub agrees-more : (n : ℕ) (known : List NamedType) (v : List ℕ) (u : MessageType) → TableAgrees s table n known → word_from s (u16_at table (6 * n)) ≡ v
      → u16_at table (6 * n + 2) ≡ held 257 (nodes (children u)) → u16_at table (6 * n + 4) ≡ held 5 (levels (children u))
      → TableAgrees s table (suc n) (named_type v u ∷ known)
  unfolding known_at
  agrees-more n known v u a e x y = record {
    many = λ t. rw (e, x, nodes-known known v u t) (pick-held 257 (same_word t v) (nodes (children u)) (known_nodes s table n t) (nodes_named known t) (a.many t));
    deep = λ t. rw (e, y, levels-known known v u t) (pick-held 5 (same_word t v) (levels (children u)) (known_levels s table n t) (levels_named known t) (a.deep t));
  }
    where
      pick-held : (m : ℕ) (b : Bool) (x y z : ℕ) → held m y ≡ held m z → held m (pick b (held m x) y) ≡ held m (pick b x z)
      pick-held m true x y z h = omega arith
      pick-held m false x y z h = h

  pub sizes-noted : (ds : List Declaration) (n : ℕ) (known : List NamedType) → TableAgrees s table n known → ProperAll ids ds → Noted s table n ds
      → SizesNoted table n (types_from ids known ds)
  unfolding SizesNoted types_from Noted ProperAll
  sizes-noted [] n known a p h = tt
  sizes-noted (declaration v b c ∷ ds) n known a p h =
      let x : u16_at table (6 * n + 2) ≡ held 257 (nodes (children (type_from ids known b c))) =
      h.1 ∙ (nodes-held 257 (known_nodes s table n) (nodes_named known) a.many c ∙ ap (held 257) (sym (nodes-forest ids known c p.1))) in
      let y : u16_at table (6 * n + 4) ≡ held 5 (levels (children (type_from ids known b c))) =
      h.2 ∙ (levels-held 5 (known_levels s table n) (levels_named known) a.deep c ∙ ap (held 5) (sym (levels-forest ids known c p.1))) in
      (x, y, sizes-noted ds (suc n) (named_type v (type_from ids known b c) ∷ known) (agrees-more n known v (type_from ids known b c) a h.0 x y) p.2 h.3)
