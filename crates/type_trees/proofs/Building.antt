-- Making a declaration's type, at each of the ways out of the code.
use mathlib.Core.Path.{◌≡◌, refl, sym, ◌∙◌, ap, subst, subst₂}
use mathlib.Core.List.{List, [], ◌∷◌}
use mathlib.Core.Bool.{Bool, true}
use mathlib.Core.Logic.{◌⊎◌, inl, inr}
use native.Mathlib.Omega.{arith}
use Prim.Native.Nat.{ℕ, zero, suc, ◌+◌, ◌*◌, ◌≤◌}
use lib.ListN.{length}
use Rattle.basics.specs.TestLaws.{apart}
use Rattle.wire.specs.Wire.{u16_at}
use Rattle.tree_forest.specs.Forest.{end, tree, set}
use Rattle.network_syntax.specs.Syntax.{Mark, mark, Types}
use Rattle.check_subtyping.specs.Subtype.{root_children}
use Rattle.type_text.specs.Spelling.{Token, word, colon, opening, closing, dot, question, zero_to_one, one_to_one}
use Rattle.type_text.specs.Grammar.{among, Children}
use Rattle.type_text.specs.Meaning.{id_of, NamedType, type_named, forest_from}
use Rattle.type_text.specs.Reader.{Item, token, items_at, parsed, next_is, next_word, after_next, token_kind, word_in, Side, inline, reference}
use Rattle.type_text.specs.Reader.{read_side, read_children}
use Rattle.type_words.specs.declared.Item.{Item as WordItem}
use Rattle.type_words.specs.declared.Item.TheVariants.{Word, Mark as MarkItem, Fault, End}
use Rattle.type_words.specs.Told.{mark_token, ItemTold}
use Rattle.type_words.specs.ItemLaws.{kind-of-mark}
use Rattle.type_reading.specs.Tables.{word_from, declared_names, known_at, Named}
use Rattle.type_reading.specs.TableLaws.{none-empty-yet}
use Rattle.type_reading.specs.Readings.{MarkRead, NextMark, ColonRead, ColonTold, NameRead, LeafRead, BracesRead, through_colon, after_colon, closed}
use Rattle.type_reading.specs.ReadingLaws.{onward-here, onward-more}
use Rattle.type_reading.specs.PieceLaws.{children-none, children-unnamed}
use Rattle.type_reading.specs.WordLaws.{one_fewer, word-items, word-onward}
use Rattle.type_rows.specs.WordLaws.{id-positive}
use Rattle.type_rows.specs.MeaningLaws.{ProperList, FreshFor, fresh-end, fresh_set}
use Rattle.type_images.specs.declared.TypeImage.{TypeImage}
use Rattle.type_images.specs.TypeImages.{HoldsType, LeafMade, TypeCopied, ChildPut}
use Rattle.type_trees.specs.declared.Built.{Built}
use Rattle.type_trees.specs.Names.{names_up_to}
use Rattle.type_trees.specs.Builds.{KnownImages, side_type, ProperSide, LimitsKept, ClosingPassed, SideBuilt, ListBuilt, TreeBuilt}
use Rattle.type_trees.specs.BuildLaws.{known-image, forest-child, proper-child, child-within}
use Rattle.type_trees.specs.BuildLaws.{no-parse, parsed-what, then-parsed, child-read, named-read, closed-read}
use Rattle.std.specs.Prelude.{None, Err}

-- ---- what is no word

kind-no-word : (k : Token) → (token_kind k ≡ 0 → ⊥) → word_in k ≡ []
kind-no-word (word w) h = absurd (h refl)
kind-no-word colon h = refl
kind-no-word opening h = refl
kind-no-word closing h = refl
kind-no-word dot h = refl
kind-no-word question h = refl
kind-no-word zero_to_one h = refl
kind-no-word one_to_one h = refl

pub wordless-item : (s : List ℕ) (at : ℕ) (r : WordItem) → ItemTold s at r → ((p q : ℕ) → r ≡ Word p q → ⊥) → next_word (items_at s at) ≡ []
wordless-item s at (Word p q) t o = absurd (o p q refl)
wordless-item s at (MarkItem k p q) t o =
    let e = kind-of-mark k t.3 t.4 in ap next_word t.5 ∙ kind-no-word (mark_token k) (λ z. omega (arith, e, z, t.3))
wordless-item s at (Fault p q) t o = ap next_word t.3
wordless-item s at End t o = ap next_word t

-- ---- a list

module _ (s : List ℕ) (at : ℕ) (table : List ℕ) (n : ℕ) (names : List ℕ) (m : ℕ) (images : List ℕ) (acc : TypeImage) where
  pub list-ends : at ≤ length s → NextMark s at 4 None → ListBuilt s at table n names m images acc (record { at = at; image = acc })
  unfolding forest_from
  list-ends h e = record {
    onward = onward-here s at h;
    tells = λ known f seen c rest mk k ki le rd pl fr hd li.
        let z = parsed-what (sym (children-none (length s) (declared_names s table n) seen (items_at s at) e f) ∙ rd) in
        (sym z.1, subst (λ (x : Children). HoldsType acc (tree mk (forest_from (names_up_to s names m) known k x))) z.0 hd);
  }

  module _ (h : at ≤ length s) (a : ℕ) (t : MarkRead s at 4 a) where
    wordless : (types : List (List ℕ)) (f : ℕ) (seen : List (List ℕ)) (c : Children) (rest : List Item) → next_word (items_at s a) ≡ []
        → length (items_at s at) ≤ f → read_children (length s) types f seen (items_at s at) ≡ parsed c rest → ⊥
    wordless types zero seen c rest e le rd = omega (arith, one_fewer t.is, le)
    wordless types (suc f) seen c rest e le rd =
        no-parse (sym (children-unnamed (length s) types seen t.place (items_at s a) (rw e refl) f)
        ∙ ap (read_children (length s) types (suc f) seen) (sym t.is) ∙ rd)

    pub list-wordless : next_word (items_at s a) ≡ [] → ListBuilt s at table n names m images acc (record { at = at; image = acc })
    list-wordless e = record {
      onward = onward-here s at h;
      tells = λ known f seen c rest mk k ki le rd pl fr hd li. absurd (wordless (declared_names s table n) f seen c rest e le rd);
    }

    module _ (p q : ℕ) (w : ItemTold s a (Word p q)) where
      -- what is left to read after the name
      after-name : (types : List (List ℕ)) (f : ℕ) (seen : List (List ℕ)) (c : Children) (rest : List Item) → length (items_at s at) ≤ f
          → read_children (length s) types f seen (items_at s at) ≡ parsed c rest
          → (g : ℕ) × (f ≡ suc g) × (through_colon (length s) (after_colon (length s) types g seen (word_from s p)) (items_at s q) ≡ parsed c rest)
      after-name types zero seen c rest le rd = absurd (omega (arith, one_fewer t.is, le))
      after-name types (suc f) seen c rest le rd =
          let l = t.is ∙ ap (λ (x : List Item). token t.place dot ∷ x) (word-items s a p q w) in (
            f,
            refl,
            named-read (length s) types f seen t.place p (word_from s p) (items_at s q) c rest (ap (read_children (length s) types (suc f) seen) (sym l) ∙ rd),
          )

      pub list-colonless : (e : ℕ) → ColonTold s q (Err e) → ListBuilt s at table n names m images acc (record { at = at; image = acc })
      list-colonless e o = record {
        onward = onward-here s at h;
        tells = λ known f seen c rest mk k ki le rd pl fr hd li.
            let x = after-name (declared_names s table n) f seen c rest le rd in
            no-parse (sym (o (after_colon (length s) (declared_names s table n) x.0 seen (word_from s p))) ∙ x.2);
      }

      module _ (b : ℕ) (mandatory : Bool) (o : ColonRead s q b mandatory) (id : ℕ) (ie : id ≡ id_of (names_up_to s names m) (word_from s p))
          (side : Built) (sb : SideBuilt s b table n n names m images mandatory side) (grown : TypeImage) (cp : ChildPut acc id side.image grown)
          (r : Built) (lb : ListBuilt s side.at table n names m images grown r) where
        abbrev ids : List (List ℕ)
        ids = names_up_to s names m

        abbrev declared : List (List ℕ)
        declared = declared_names s table n

        tell : (known : List NamedType) (f : ℕ) (seen : List (List ℕ)) (c : Children) (rest : List Item) (mk : Mark) (k : Types)
            → KnownImages s table images n known → length (items_at s at) ≤ f → read_children (length s) declared f seen (items_at s at) ≡ parsed c rest
            → ProperList ids seen c → FreshFor ids seen k → HoldsType acc (tree mk k) → LimitsKept (forest_from ids known k c)
            → (rest ≡ items_at s r.at) × HoldsType r.image (tree mk (forest_from ids known k c))
        tell known f seen c rest mk k ki le rd pl fr hd li =
            let v = word_from s p in
            let x = after-name declared f seen c rest le rd in
            let g = x.0 in
            let few : suc (length (items_at s b)) ≤ g = omega (arith, x.1, le, one_fewer t.is, one_fewer (word-items s a p q w), o.fewer) in
            let cr = child-read (length s) declared g seen v mandatory (items_at s b) c rest (sym (o.reads (after_colon (length s) declared g seen v)) ∙ x.2) in
            let d = cr.others in
            let pc = proper-child ids seen v mandatory cr.side d (subst (ProperList ids seen) cr.is pl) in
            let u = side_type ids known mandatory cr.side in
            let fe = ap (forest_from ids known k) cr.is ∙ forest-child ids known k v mandatory cr.side d in
            let lk = subst LimitsKept fe li in
            let cw = child-within ids known seen k v cr.side d u pc fr lk in
            let st = sb.tells known g cr.side cr.between ki (omega (arith, few)) cr.side_reads pc.own cw.own in
            let cq = subst (λ (i : ℕ). ChildPut acc i side.image grown) ie cp in
            let gt = cq.tells mk k u hd st.1 (id-positive ids v) cw.sofar.0 cw.sofar.1 in
            let lt = lb.tells known g (v ∷ seen) d rest mk (set (id_of ids v) u k) ki (omega (arith, few, sb.onward.fewer))
            (ap (read_children (length s) declared g (v ∷ seen)) (sym st.0) ∙ cr.others_read) pc.others (fresh_set ids seen k v u fr) gt lk in
            (lt.0, subst (λ (y : Types). HoldsType r.image (tree mk y)) (sym fe) lt.1)

        pub list-child : ListBuilt s at table n names m images acc r
        list-child = record {
          onward = onward-more t.onward (onward-more (word-onward s a p q w) (onward-more o.onward (onward-more sb.onward lb.onward)));
          tells = tell;
        }

-- ---- what stands after a `:`

pub allowed-named : (s table : List ℕ) (allowed n : ℕ) → Named s table n → (allowed ≡ n) ⊎ (allowed ≡ 0) → Named s table allowed
allowed-named s table allowed n h (inl e) = subst (Named s table) (sym e) h
allowed-named s table allowed n h (inr e) = subst (Named s table) (sym e) (omega arith, none-empty-yet s table)

none-declared : (s table t : List ℕ) (n : ℕ) → n ≡ 0 → among t (declared_names s table n) ≡ true → ⊥
unfolding declared_names among
none-declared s table t n z d = apart (rw z at d)

module _ (s : List ℕ) (at : ℕ) (table : List ℕ) (allowed n : ℕ) (names : List ℕ) (m : ℕ) (images : List ℕ) (mandatory : Bool) where
  abbrev these : List (List ℕ)
  these = names_up_to s names m

  copied-holds : (w : List ℕ) (i : ℕ) (x : TypeImage) → TypeCopied images (7 * u16_at table (6 * i + 4)) (7 * suc (u16_at table (6 * i + 2))) mandatory x
      → u16_at table (6 * i + 4) ≡ known_at 4 s table n w → u16_at table (6 * i + 2) ≡ known_at 2 s table n w
      → (known : List NamedType) → KnownImages s table images n known → among w (declared_names s table n) ≡ true
      → HoldsType x (side_type these known mandatory (reference w))
  copied-holds w i x cp de ma known ki d =
      let im = known-image s table images w n known ki d in
      let cq = subst₂ (λ (y z : ℕ). TypeCopied images (7 * y) (7 * suc z) mandatory x) de ma cp in
      cq.tells (type_named known w) im.keeps (ap (λ (y : ℕ). 7 * suc y) im.count) im.image

  pub side-is-known : (q i : ℕ) → (allowed ≡ n) ⊎ (allowed ≡ 0) → NameRead s at table allowed q i → (x : TypeImage)
      → TypeCopied images (7 * u16_at table (6 * i + 4)) (7 * suc (u16_at table (6 * i + 2))) mandatory x
      → SideBuilt s at table allowed n names m images mandatory (record { at = q; image = x })
  side-is-known q i (inr e) k x cp = absurd (none-declared s table k.type allowed e k.declared)
  side-is-known q i (inl e) k x cp = record {
    onward = k.onward;
    tells = λ known f side rest ki le rd ps li.
        let z = parsed-what (sym (k.reads (read_children (length s) (declared_names s table n) f [])) ∙ rd) in
        let hd = copied-holds k.type i x cp (k.deep ∙ ap (λ (j : ℕ). known_at 4 s table j k.type) e)
        (k.many ∙ ap (λ (j : ℕ). known_at 2 s table j k.type) e) known ki
        (subst (λ (j : ℕ). among k.type (declared_names s table j) ≡ true) e k.declared) in
        (sym z.1, subst (λ (y : Side). HoldsType x (side_type these known mandatory y)) z.0 hd);
  }

  pub side-is-leaf : (q b : ℕ) → LeafRead s at table allowed q b → (x : TypeImage) → LeafMade mandatory b x
      → SideBuilt s at table allowed n names m images mandatory (record { at = q; image = x })
  unfolding forest_from
  side-is-leaf q b k x lm = record {
    onward = k.onward;
    tells = λ known f side rest ki le rd ps li.
        let z = parsed-what (sym (k.reads (read_children (length s) (declared_names s table n) f [])) ∙ rd) in
        let pp = subst (ProperSide these) (sym z.0) ps in
        (sym z.1, subst (λ (y : Side). HoldsType x (side_type these known mandatory y)) z.0 (lm.tells pp.0));
  }

  module _ (a b : ℕ) (k : BracesRead s at table allowed a b) (root : TypeImage) (lm : LeafMade mandatory b root) (made : Built)
      (lb : ListBuilt s a table n names m images root made) (r : Built) (cl : ClosingPassed s made r) where
    braces-tell : (known : List NamedType) (f : ℕ) (side : Side) (rest : List Item) → KnownImages s table images n known → length (items_at s at) ≤ f
        → read_side (length s) (declared_names s table allowed) (read_children (length s) (declared_names s table n) f []) (items_at s at) ≡ parsed side rest
        → ProperSide these side → LimitsKept (root_children (side_type these known mandatory side))
        → (rest ≡ items_at s r.at) × HoldsType r.image (side_type these known mandatory side)
    braces-tell known f side rest ki le rd ps li =
        let R = read_children (length s) (declared_names s table n) f [] in
        let x = then-parsed (R (items_at s a)) (closed (length s) b) side rest (sym (k.reads R) ∙ rd) in
        let y = closed-read (length s) b x.0 x.1 side rest x.3 in
        let pp = subst (ProperSide these) y.1 ps in
        let lk = subst (λ (z : Side). LimitsKept (root_children (side_type these known mandatory z))) y.1 li in
        let lt = lb.tells known f [] x.0 x.1 (mark mandatory b) end ki (omega (arith, le, k.fewer)) x.2 pp.1 (fresh-end these)
        (lm.tells pp.0) lk in
        let hd = subst (λ (z : TypeImage). HoldsType z (side_type these known mandatory (inline b x.0))) (sym cl.same) lt.1 in (
          y.2 ∙ ap after_next lt.0 ∙ cl.passes (ap (next_is closing) (sym lt.0) ∙ y.0),
          subst (λ (z : Side). HoldsType r.image (side_type these known mandatory z)) (sym y.1) hd,
        )

    pub side-is-braces : SideBuilt s at table allowed n names m images mandatory r
    side-is-braces = record { onward = onward-more k.onward (onward-more lb.onward cl.onward); tells = braces-tell }

-- ---- a declaration's own tree

pub tree-built : (s : List ℕ) (at : ℕ) (table : List ℕ) (n : ℕ) (names : List ℕ) (m : ℕ) (images : List ℕ) (r : Built)
    → SideBuilt s at table 0 n names m images true r → TreeBuilt s at table n names m images r
unfolding declared_names among
tree-built s at table n names m images r sb = record {
  onward = sb.onward;
  tells = λ known f b c rest ki le rd hb pl li. sb.tells known f (inline b c) rest ki le rd (hb, pl) li;
}
