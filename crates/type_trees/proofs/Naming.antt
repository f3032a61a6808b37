-- Gathering the names, at each of the ways out of the code.
use mathlib.Core.Path.{◌≡◌, refl, sym, ◌∙◌, ap}
use mathlib.Core.List.{List, [], ◌∷◌, ◌++◌, append-nil}
use mathlib.Core.Bool.{Bool, true, false}
use native.Mathlib.Omega.{arith}
use Prim.Native.Nat.{ℕ, ◌+◌, ◌*◌, ◌≤◌, ◌<◌}
use lib.ListN.{length}
use lib.Dec.{eqb}
use Rattle.wire.specs.Wire.{put_u16}
use Rattle.wire.specs.WireLaws.{length-16}
use Rattle.check_types.specs.Image.{flag}
use Rattle.type_text.specs.Spelling.{Token}
use Rattle.type_text.specs.Meaning.{first_uses, id_of}
use Rattle.type_text.specs.Reader.{Item, fault, items_at}
use Rattle.type_words.specs.declared.Item.TheVariants.{Word, Mark, Fault}
use Rattle.type_words.specs.Told.{ItemTold}
use Rattle.type_reading.specs.Tables.{word_from}
use Rattle.type_reading.specs.WordLaws.{word-items}
use Rattle.type_trees.specs.Names.{names_from, names_up_to, tokens_in, dot_names, with_name, NameAdded}
use Rattle.type_trees.specs.NameLaws.{length-names, name-more, among-by-id, none-by-id, first-uses-next, dot-mark}

module _ (s names : List ℕ) (n p id : ℕ) (e : id ≡ id_of (names_up_to s names n) (word_from s p)) where
  pub added-known : id ≤ n → NameAdded s names names n (word_from s p) n
  unfolding with_name
  added-known h =
      let a = among-by-id (names_up_to s names n) (word_from s p) (omega (arith, e, h, length-names s names 0 n)) in
      record { few = omega arith; size = refl; is = rw a refl }

  pub added_new : (n < id) → 2 * n + 2 ≤ length names → (names' : List ℕ) → names' ≡ put_u16 names (2 * n) p → NameAdded s names names' n (word_from s p) (n + 1)
  unfolding with_name
  added_new h l names' q =
      let a = none-by-id (names_up_to s names n) (word_from s p) (omega (arith, e, h, length-names s names 0 n)) in
      record { few = omega arith; size = ap length q ∙ length-16 names (2 * n) p; is = rw (a, q) (name-more s names n p l) }

-- ---- the loop over the items

-- The first n names, with those that come after them from `at` on, are the names of the whole text.
pub record Gathering (s : List ℕ) (size : ℕ) (names : List ℕ) (at n : ℕ) (after : Bool) : Type 0 where
  pub inside : at ≤ length s
  pub room : 2 * n + flag after ≤ at
  pub long : length names ≡ size
  pub whole : names_up_to s names n ++ first_uses (names_up_to s names n) (dot_names after (tokens_in (items_at s at)))
      ≡ first_uses [] (dot_names false (tokens_in (items_at s 0)))

pub gather-start : (s names : List ℕ) → Gathering s (length names) names 0 0 false
unfolding names_from
gather-start s names = record { inside = omega arith; room = omega arith; long = refl; whole = refl }

flag_small : (b : Bool) → flag b ≤ 1
flag_small true = omega arith
flag_small false = omega arith

module _ (s : List ℕ) (size : ℕ) (names : List ℕ) (at n : ℕ) where
  module _ (p q : ℕ) (t : ItemTold s at (Word p q)) where
    pub gather-word : Gathering s size names at n false → Gathering s size names q n false
    unfolding tokens_in dot_names
    gather-word g =
        let e = ap (λ (l : List Item). names_up_to s names n ++ first_uses (names_up_to s names n) (dot_names false (tokens_in l))) t.3 in
        record { inside = t.2; room = omega (arith, g.room, t.0, t.1); long = g.long; whole = sym e ∙ g.whole }

    pub gather-name : Gathering s size names at n true → (names' : List ℕ) (r : ℕ) → NameAdded s names names' n (word_from s p) r
        → Gathering s size names' q r false
    unfolding tokens_in dot_names
    gather-name g names' r a =
        let u = names_up_to s names n in
        let l = dot_names false (tokens_in (items_at s q)) in
        let e = ap (λ (x : List Item). u ++ first_uses u (dot_names true (tokens_in x))) (word-items s at p q t) in
        record {
          inside = t.2;
          room = omega (arith, g.room, t.0, t.1, a.few);
          long = a.size ∙ g.long;
          whole = ap (λ (x : List (List ℕ)). x ++ first_uses x l) a.is ∙ sym (first-uses-next u l (word_from s p)) ∙ sym e ∙ g.whole;
        }

  module _ (after : Bool) (g : Gathering s size names at n after) where
    pub gather-mark : (k p q : ℕ) → ItemTold s at (Mark k p q) → Gathering s size names q n (eqb k 4)
    unfolding tokens_in
    gather-mark k p q t =
        let u = names_up_to s names n in
        let e = ap (λ (x : List Item). u ++ first_uses u (dot_names after (tokens_in x))) t.5 in
        let d = ap (λ (x : List (List ℕ)). u ++ first_uses u x) (dot-mark k after (tokens_in (items_at s q)) t.3 t.4) in
        record { inside = t.2; room = omega (arith, g.room, t.0, t.1, flag_small (eqb k 4)); long = g.long; whole = sym d ∙ sym e ∙ g.whole }

    none_left : (l : List Item) → items_at s at ≡ l → tokens_in l ≡ [] → names_up_to s names n ≡ first_uses [] (dot_names false (tokens_in (items_at s 0)))
    unfolding dot_names first_uses
    none_left l e z =
        let u = names_up_to s names n in
        let x = ap (λ (y : List Token). u ++ first_uses u (dot_names after y)) (ap tokens_in e ∙ z) in
        sym (append-nil u) ∙ sym x ∙ g.whole

    pub gather-end : items_at s at ≡ [] → names_up_to s names n ≡ first_uses [] (dot_names false (tokens_in (items_at s 0)))
    unfolding tokens_in
    gather-end e = none_left [] e refl

    pub gather-fault : (p q : ℕ) → ItemTold s at (Fault p q) → names_up_to s names n ≡ first_uses [] (dot_names false (tokens_in (items_at s 0)))
    unfolding tokens_in
    gather-fault p q t = none_left (fault p q ∷ []) t.3 refl
