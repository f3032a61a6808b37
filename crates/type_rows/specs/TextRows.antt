-- The rows of a text of types. 02, Wish 1: "take text .. and write T rows"; "types past their limits stay 5".
use Rattle.std.specs.Prelude.{ℕ, ◌≤◌, ◌<◌, ◌≡◌, List, ◌∷◌, ◌++◌, true, length}
use Rattle.std.proofs.Common.{arith}
use Rattle.tree_forest.specs.Forest.{end, node}
use Rattle.tree.specs.Encode.{children}
use Rattle.network_syntax.specs.Syntax.{Types, MessageType}
use Rattle.network.specs.Layout.{type_count}
use Rattle.network.specs.Rows.{root_fits}
use Rattle.network.specs.Decode.{type_of}
use Rattle.network.specs.Breaks.{TypeBreaks}
use Rattle.network.specs.Sizes.{type_within}
use Rattle.type_text.specs.Grammar.{Declaration, TypeText}
use Rattle.type_text.specs.Meaning.{id_names, types_of}
use Rattle.type_text.specs.TypeRows.{row_count}
use Rattle.type_rows.specs.Ranged.{WellRanged, IdsUpTo, Small, EachType, TypeRowsOf}
use Rattle.type_rows.specs.RowLaws.{each-split, rows-mean, rows-root, rows-keep-rules, rows-small}
use Rattle.type_rows.specs.MeaningLaws.{each_of, types-ranged, types-ids, names-few}

ids_more : (f : Types) (m n : ℕ) → m ≤ n → IdsUpTo m f → IdsUpTo n f
unfolding IdsUpTo
ids_more end m n l h = tt
ids_more (node i a k r) m n l h = let e = h.0 in (omega arith, ids_more k m n l h.1, ids_more r m n l h.2)

module _ (text : List ℕ) (ds : List Declaration) (h : TypeText text ds) where
  -- A text's ids are at most as many as its rows.
  pub text-ids : (n : ℕ) → row_count (types_of ds) ≤ n → EachType (λ t. IdsUpTo n (children t)) (types_of ds)
  text-ids n l =
      let f = names-few ds h.derived in
      each_of (λ t. IdsUpTo (length (id_names ds)) (children t)) (λ t. IdsUpTo n (children t))
      (λ t k. ids_more (children t) (length (id_names ds)) n (omega arith) k) (types_of ds) (types-ids ds h.derived)

  -- Of every network file whose T section is the rows of a text's types, none of them too large:
  module _ (s : List ℕ) (w : TypeRowsOf s (types_of ds)) (small : EachType Small (types_of ds)) where
    -- each declaration's first row, written out, is the type declared,
    pub text-rows-mean : (before : List MessageType) (t : MessageType) (later : List MessageType) → types_of ds ≡ before ++ (t ∷ later)
        → type_of s (row_count before) ≡ t
    text-rows-mean before t later e = rows-mean s (types_of ds) w before t later e (each-split Small before t later (rw e at small))

    -- and is the root of a message type;
    pub text-rows-root : (before : List MessageType) (t : MessageType) (later : List MessageType) → types_of ds ≡ before ++ (t ∷ later)
        → root_fits s (row_count before) ≡ true
    text-rows-root before t later e =
        rows-root s (types_of ds) w before t later e (each-split WellRanged before t later (rw e at (types-ranged ds h.derived)))

    -- no rule of 4 on T is broken,
    pub text-rows-rules : (r p : ℕ) → r < type_count s → TypeBreaks s r p → ⊥
    text-rows-rules = rows-keep-rules s (types_of ds) w (types-ranged ds h.derived) small

    -- and no T row is too large for 5.
    pub text-rows-small : (r : ℕ) → r < type_count s → type_within s r ≡ true
    text-rows-small = rows-small s (types_of ds) w (types-ranged ds h.derived) small
