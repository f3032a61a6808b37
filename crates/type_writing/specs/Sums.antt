-- Sums over the table of declared types, and that they are those of the types.
use Rattle.std.specs.Prelude.{◌≡◌, refl, List, [], ◌∷◌, Bool, true, false, ◌||◌, ℕ, zero, suc, ◌+◌, ◌-◌, ◌*◌, ◌≤◌, ◌<◌, length, ltb}
use Rattle.std.proofs.Math.Path.{sym}
use Rattle.std.proofs.Common.{◌∙◌, ap, arith, le-ltb}
use Rattle.basics.specs.Choice.{pick}
use Rattle.basics.specs.TestLaws.{agree, lt_of, of_lt}
use Rattle.wire.specs.Wire.{u16_at}
use Rattle.tree_forest.specs.Forest.{tree, nodes, levels}
use Rattle.tree_forest.specs.Limits.{message_nodes_below, message_levels_below}
use Rattle.tree.specs.Encode.{children}
use Rattle.network_syntax.specs.ViewLaws.{none-some}
use Rattle.network_syntax.specs.Syntax.{MessageType, Optional, none, some}
use Rattle.type_text.specs.TypeRows.{rows_in, row_count, is_too_large}
use Rattle.type_reading.specs.Tables.{held}
use Rattle.type_writing.specs.Answer.{large_from}
use Rattle.type_writing.specs.SizeLaws.{SizesNoted}
use Rattle.std.specs.Prelude.{Option, Some, None}

-- The rows of k entries from n on.
unfoldable pub table_rows : List ℕ → ℕ → ℕ → ℕ
table_rows table n zero = 0
table_rows table n (suc k) = suc (u16_at table (6 * n + 2)) + table_rows table (suc n) k

-- Is the entry n too large?
abbrev pub entry_large : List ℕ → ℕ → Bool
entry_large table n = ltb message_nodes_below (u16_at table (6 * n + 2)) || ltb message_levels_below (u16_at table (6 * n + 4))

-- The first row of the first of k entries from n on that is too large, rows going from r on.
unfoldable pub table_large : List ℕ → ℕ → ℕ → ℕ → Optional ℕ
table_large table n zero r = none
table_large table n (suc k) r = pick (entry_large table n) (some r) (table_large table (suc n) k (r + suc (u16_at table (6 * n + 2))))

abbrev pub LargeTold : List ℕ → ℕ → Option ℕ → Type 0
LargeTold table n (Some r) = table_large table 0 n 0 ≡ some r
LargeTold table n None = table_large table 0 n 0 ≡ none

gap : (i n : ℕ) → i < n → n - i ≡ suc (n - suc i)
gap i n h = omega (arith, h)

held-add : (a b c d : ℕ) → a ≡ held 257 b → held 257 c ≡ held 257 d → held 257 (suc a + c) ≡ held 257 (suc b + d)
held-add a b c d x y = omega (arith, x, y)

pub rows-children : (t : MessageType) → rows_in t ≡ suc (nodes (children t))
unfolding rows_in
rows-children (tree a k) = refl

pub rows-counted : (table : List ℕ) (ts : List MessageType) (n : ℕ) → SizesNoted table n ts
    → held 257 (table_rows table n (length ts)) ≡ held 257 (row_count ts)
unfolding table_rows row_count SizesNoted
rows-counted table [] n h = refl
rows-counted table (t ∷ ts) n h =
    rw (rows-children t)
    (held-add (u16_at table (6 * n + 2)) (nodes (children t)) (table_rows table (suc n) (length ts)) (row_count ts) h.0 (rows-counted table ts (suc n) h.2))

ltb-held : (m b x : ℕ) → b < m → ltb b (held m x) ≡ ltb b x
ltb-held m b x h = agree (ltb b (held m x)) (ltb b x) (λ e. of_lt b x (omega (arith, lt_of b (held m x) e))) (λ e. of_lt b (held m x) (omega (arith, h, lt_of b x e)))

large-children : (t : MessageType) → is_too_large t ≡ ltb message_nodes_below (nodes (children t)) || ltb message_levels_below (levels (children t))
unfolding is_too_large
large-children (tree a k) = refl

-- An entry with a type's sizes is too large where the type is.
pub entry-large : (table : List ℕ) (n : ℕ) (t : MessageType) → u16_at table (6 * n + 2) ≡ held 257 (nodes (children t))
    → u16_at table (6 * n + 4) ≡ held 5 (levels (children t)) → entry_large table n ≡ is_too_large t
entry-large table n t x y =
    rw (
      x,
      y,
      ltb-held 257 message_nodes_below (nodes (children t)) (omega arith),
      ltb-held 5 message_levels_below (levels (children t)) (omega arith),
      large-children t,
    ) refl

pub large-found : (table : List ℕ) (ts : List MessageType) (n r : ℕ) → SizesNoted table n ts → row_count ts ≤ 256
    → table_large table n (length ts) r ≡ large_from r ts
unfolding table_large large_from row_count SizesNoted
large-found table [] n r h w = refl
large-found table (t ∷ ts) n r h w =
    rw (
      entry-large table n t h.0 h.1,
      exact,
      rows-children t,
      large-found table ts (suc n) (r + suc (nodes (children t))) h.2 (omega (arith, w, rows-children t)),
    ) refl
  where
    exact : u16_at table (6 * n + 2) ≡ nodes (children t)
    exact = omega (arith, h.0, w, rows-children t)

-- The sums from an entry on.
pub rows_next : (table : List ℕ) (i n : ℕ) → i < n → table_rows table i (n - i) ≡ suc (u16_at table (6 * i + 2)) + table_rows table (suc i) (n - suc i)
unfolding table_rows
rows_next table i n h = rw (gap i n h) refl

-- One entry more, the sum so far being x.
pub rows-summed : (table : List ℕ) (i n x y : ℕ) → i < n → x + table_rows table i (n - i) ≡ y
    → x + (1 + u16_at table (6 * i + 2)) + table_rows table (i + 1) (n - (i + 1)) ≡ y
rows-summed table i n x y h e =
    let z = rows_next table i n h in
    let w : suc i ≡ i + 1 = omega arith in
    rw (sym w) (omega (arith, z, e))

pub rows-over : (table : List ℕ) (i n x y : ℕ) → i < n → x + table_rows table i (n - i) ≡ y → 256 < x + (1 + u16_at table (6 * i + 2)) → 257 ≡ held 257 y
rows-over table i n x y h e o = let z = rows_next table i n h in omega (arith, z, e, o)

pub rows-ended : (table : List ℕ) (i n x y : ℕ) → n ≤ i → x ≤ 256 → x + table_rows table i (n - i) ≡ y → x ≡ held 257 y
unfolding table_rows
rows-ended table i n x y h l e =
    let g : n - i ≡ 0 = omega (arith, h) in
    let z : x + 0 ≡ y = rw g at e in
    omega (arith, z, l)

pub large-next : (table : List ℕ) (i n r : ℕ) → i < n
    → table_large table i (n - i) r ≡ pick (entry_large table i) (some r) (table_large table (suc i) (n - suc i) (r + suc (u16_at table (6 * i + 2))))
unfolding table_large
large-next table i n r h = rw (gap i n h) refl

pub rows_start : (table : List ℕ) (n : ℕ) → 0 + table_rows table 0 (n - 0) ≡ table_rows table 0 n
rows_start table n = let z : n - 0 ≡ n = omega arith in rw z (omega arith)

pub large-start : (table : List ℕ) (n : ℕ) → table_large table 0 (n - 0) 0 ≡ table_large table 0 n 0
large-start table n = let z : n - 0 ≡ n = omega arith in rw z refl

module _ (table : List ℕ) (i n r : ℕ) (x : Optional ℕ) (e : table_large table i (n - i) r ≡ x) where
  pub large-nodes : i < n → 15 < u16_at table (6 * i + 2) → x ≡ some r
  large-nodes h o = sym e ∙ (large-next table i n r h ∙ rw (of_lt 15 (u16_at table (6 * i + 2)) o) refl)

  pub large-levels : i < n → u16_at table (6 * i + 2) ≤ 15 → 3 < u16_at table (6 * i + 4) → x ≡ some r
  large-levels h w o =
      sym e ∙ (large-next table i n r h ∙ rw (le-ltb _ _ w, of_lt 3 (u16_at table (6 * i + 4)) o) refl)

  pub large-passed : i < n → u16_at table (6 * i + 2) ≤ 15 → u16_at table (6 * i + 4) ≤ 3
      → table_large table (i + 1) (n - (i + 1)) (r + (1 + u16_at table (6 * i + 2))) ≡ x
  large-passed h w o =
      let y : suc i ≡ i + 1 = omega arith in
      let z : r + suc (u16_at table (6 * i + 2)) ≡ r + (1 + u16_at table (6 * i + 2)) = omega arith in
      rw (sym y, sym z) (sym (large-next table i n r h ∙ rw (le-ltb _ _ w, le-ltb _ _ o) refl) ∙ e)

  pub large-none : n ≤ i → x ≡ none
  unfolding table_large
  large-none h = let g : n - i ≡ 0 = omega (arith, h) in sym (rw g at e)

-- The row found is one of the rows.
pub large-within : (table : List ℕ) (k n r x : ℕ) → table_large table n k r ≡ some x → x ≤ r + table_rows table n k
unfolding table_large table_rows
large-within table zero n r x e = absurd (none-some e)
large-within table (suc k) n r x e = by (entry_large table n) e (λ z. large-within table k (suc n) (r + suc (u16_at table (6 * n + 2))) x z)
  where
    by : (b : Bool) → pick b (some r) (table_large table (suc n) k (r + suc (u16_at table (6 * n + 2)))) ≡ some x
        → (table_large table (suc n) k (r + suc (u16_at table (6 * n + 2))) ≡ some x
        → x ≤ r + suc (u16_at table (6 * n + 2)) + table_rows table (suc n) k)
        → x ≤ r + (suc (u16_at table (6 * n + 2)) + table_rows table (suc n) k)
    by true z more = let q : r ≡ x = ap given z in omega (arith, q)
      where
        given : Optional ℕ → ℕ
        given none = 0
        given (some y) = y
    by false z more = let q = more z in omega (arith, q)
