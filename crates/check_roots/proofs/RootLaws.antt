-- Laws of the root ids of rows: those of a row's parts, and one law for each way out of the functions that fill the sets.
use Prim.Native.Nat.{ℕ, zero, suc, ◌+◌, ◌-◌, ◌*◌, ◌<◌, ◌≤◌}
use mathlib.Core.Path.{◌≡◌, refl, sym, ◌∙◌, ap, subst}
use mathlib.Core.List.{List}
use mathlib.Core.Bool.{Bool, true, false, ◌||◌}
use native.Mathlib.Omega.{arith}
use lib.ListN.{length, replicate}
use lib.Dec.{T}
use borrow.Author.Tests.{ne_eqb}
use Rattle.basics.specs.TestLaws.{T_of, clash, lt_of, not-T-false, of_t, one_less, or_assoc, or-false}
use Rattle.tree_forest.specs.Compare.{Compare, lt, eq, gt, compare}
use Rattle.wire.specs.Wire.{byte_at}
use Rattle.network.specs.declared.ExpressionKind.{ExpressionKind}
use Rattle.network.specs.declared.BehaviourKind.{BehaviourKind}
use Rattle.network.specs.Form.{WellFormed}
use Rattle.network.specs.Kinds.{behaviour_kind, expression_fields}
use Rattle.network.specs.Layout.{path_count, expression_count, behaviour_count, expression_at, behaviour_at}
use Rattle.network.specs.Rows.{field_a, field_b, field_c, field_d, field_fits, expression_kind_at, kind_at}
use Rattle.network.specs.Decode.{path_of, expression_from, expression_of, branches_from, behaviour_from, behaviour_of}
use Rattle.network.proofs.DecodeLaws.{expression-kept, expression-row}
use Rattle.network.proofs.BehaviourLaws.{behaviour-row}
use Rattle.network.proofs.UseLaws.{RowKept, BranchKept, behaviour-kept, branch_kept}
use Rattle.network.proofs.RowLaws.{counts-kept, next-at}
use Rattle.network_rows.specs.declared.ExpressionRow.{ExpressionRow}
use Rattle.network_rows.specs.declared.BehaviourRow.{BehaviourRow}
use Rattle.network_rows.specs.declared.BranchRow.{BranchRow}
use Rattle.network_rows.specs.Readers.{expression_row_as, expression_row_of, behaviour_row_as, behaviour_row_of, BranchAt}
use Rattle.check_typing.specs.Occurs.{is_root, occurs_in, occurs, occurs_in_branches, no_shared_root}
use Rattle.check_typing.proofs.OccursLaws.{no-shared-sound, no-shared-complete}
use Rattle.check_roots.specs.declared.Operands.{Operands}
use Rattle.check_roots.specs.declared.Own.{Own}
use Rattle.network_row_parts.specs.declared.Subs.{Subs}
use Rattle.network_row_parts.specs.Parts.{subs_in, subs_of}
use Rattle.network_row_parts.specs.PartLaws.{subs-of-row}
use Rattle.check_roots.specs.Parts.{operands_in, operands_of, own_in, own_of}
use Rattle.check_roots.specs.Sets.{root_at, path_root, expression_roots, behaviour_roots, branch_roots, operand_roots, own_roots, sub_roots}
use Rattle.check_roots.specs.Sets.{row_for, Represented, Represents, SetOf, SetsOf, WithPath, Joined, Stored, ExpressionSet, ExpressionSets, OwnKept, OwnSet, LaterRow}
use Rattle.check_roots.specs.Sets.{LaterBranches, SubsKept, LaterSets, WithBranches, WithSubs, BehaviourSet, BehaviourSets, AnyParallel, SetsApart, Fills}
use Rattle.check_roots.proofs.SetLaws.{set-of, set-none, join-set, store-row}

-- ---- parts of a row

pub operands-are : (s : List ℕ) (r : ℕ) {x : ExpressionRow} {y : Operands} → x ≡ expression_row_of s r → y ≡ operands_in x → y ≡ operands_of s r
unfolding operands_of
operands-are s r e f = f ∙ ap operands_in e

pub own-are : (s : List ℕ) (r : ℕ) {x : BehaviourRow} {y : Own} → x ≡ behaviour_row_of s r → y ≡ own_in x → y ≡ own_of s r
unfolding own_of
own-are s r e f = f ∙ ap own_in e

-- The parts of a row of a known kind.
pub operands-by : {x y : ExpressionRow} {z : Operands} → x ≡ y → z ≡ operands_in y → z ≡ operands_in x
operands-by e f = f ∙ sym (ap operands_in e)

pub own-by : {x y : BehaviourRow} {z : Own} → x ≡ y → z ≡ own_in y → z ≡ own_in x
own-by e f = f ∙ sym (ap own_in e)

pub ruleset kind-laws = (operands-by, own-by)

pub ruleset part-laws = (operands-are, own-are)

-- ---- a set more

-- A path, and an E row, after a set.
path-more : (file table s x : List ℕ) (p : ℕ) (f : ℕ → Bool) → WellFormed file → Represented file table → p < path_count file → WithPath file table s p x
    → SetOf file table s 0 f → SetOf file table x 0 (λ i. f i || path_root file p i)
path-more file table s x p f w r l h m = h.tells f r l (let c = counts-kept file w in omega arith) m

row_more : (file table s sets x : List ℕ) (a n : ℕ) (f : ℕ → Bool) (g : ℕ → ℕ → Bool) → n ≤ 256 → Joined s sets a x → a < n
    → SetOf file table sets (32 * a) (g a) → SetOf file table s 0 f → SetOf file table x 0 (λ i. f i || g a i)
row_more file table s sets x a n f g c j l k m = join-set file table s sets x a f (g a) j (omega arith) m k

-- ---- expressions

by_kind : (s : List ℕ) (r i : ℕ) (k : ExpressionKind) → occurs_in i (expression_from s (expression_of s) (expression_at s r) k)
    ≡ operand_roots s (operands_in (expression_row_as k (byte_at s (expression_at s r + 1)) (field_a s (expression_at s r)) (field_b s (expression_at s r)))) i
unfolding expression_from occurs_in operand_roots expression_row_as expression_roots path_root
by_kind s r i ExpressionKind.Constant = refl
by_kind s r i ExpressionKind.ValueAt = refl
by_kind s r i ExpressionKind.Presence = refl
by_kind s r i ExpressionKind.Not = refl
by_kind s r i ExpressionKind.Negate = refl
by_kind s r i ExpressionKind.Add = refl
by_kind s r i ExpressionKind.Subtract = refl
by_kind s r i ExpressionKind.Less = refl
by_kind s r i ExpressionKind.Equal = refl
by_kind s r i ExpressionKind.And = refl
by_kind s r i ExpressionKind.Unknown = refl

-- The root ids of an E row are those of its operands.
expression-parts : (s : List ℕ) → WellFormed s → (r i : ℕ) → r < expression_count s → expression_roots s r i ≡ operand_roots s (operands_of s r) i
unfolding expression_roots operands_of expression_row_of
expression-parts s w r i l = ap (occurs_in i) (expression-row s w r l) ∙ by_kind s r i (expression_kind_at s r)

-- "Operands a, b are earlier rows."
abbrev OperandsKept : List ℕ → ℕ → Operands → Type 0
OperandsKept s r Operands.Nothing = Unit {0}
OperandsKept s r (Operands.Path p) = p < path_count s
OperandsKept s r (Operands.One a) = a < r
OperandsKept s r (Operands.Two a b) = (a < r) × (b < r)

operands-by-kind : (s : List ℕ) (r at b : ℕ) (k : ExpressionKind) → field_fits s r b (expression_fields k).a (field_a s at) (field_b s at) ≡ true
    → field_fits s r b (expression_fields k).b (field_b s at) (field_c s at) ≡ true → OperandsKept s r (operands_in (expression_row_as k b (field_a s at) (field_b s at)))
unfolding expression_fields field_fits expression_row_as
operands-by-kind s r at b ExpressionKind.Constant x y = tt
operands-by-kind s r at b ExpressionKind.ValueAt x y = lt_of (field_a s at) (path_count s) x
operands-by-kind s r at b ExpressionKind.Presence x y = lt_of (field_a s at) (path_count s) x
operands-by-kind s r at b ExpressionKind.Not x y = lt_of (field_a s at) r x
operands-by-kind s r at b ExpressionKind.Negate x y = lt_of (field_a s at) r x
operands-by-kind s r at b ExpressionKind.Add x y = (lt_of (field_a s at) r x, lt_of (field_b s at) r y)
operands-by-kind s r at b ExpressionKind.Subtract x y = (lt_of (field_a s at) r x, lt_of (field_b s at) r y)
operands-by-kind s r at b ExpressionKind.Less x y = (lt_of (field_a s at) r x, lt_of (field_b s at) r y)
operands-by-kind s r at b ExpressionKind.Equal x y = (lt_of (field_a s at) r x, lt_of (field_b s at) r y)
operands-by-kind s r at b ExpressionKind.And x y = (lt_of (field_a s at) r x, lt_of (field_b s at) r y)
operands-by-kind s r at b ExpressionKind.Unknown x y = tt

operands-kept : (s : List ℕ) → WellFormed s → (r : ℕ) → r < expression_count s → OperandsKept s r (operands_of s r)
unfolding operands_of expression_row_of
operands-kept s w r l =
    let k = expression-kept s w r l in
    operands-by-kind s r (expression_at s r) (byte_at s (expression_at s r + 1)) (expression_kind_at s r) k.fits_a k.fits_b

-- A row of known operands: how they are kept, and the root ids.
module _ (s table known x : List ℕ) (r : ℕ) {o y : Operands} (e : o ≡ operands_of s r) (f : o ≡ y)
    (h : WellFormed s → Represented s table → r < expression_count s → SetsOf s table known (expression_roots s) 0 r → OperandsKept s r y → r ≤ 256 → SetOf s table x 0 (operand_roots s y)) where
  pub expression-by : ExpressionSet s table known r x
  expression-by = record {
    tells = λ w t l k.
        let c = counts-kept s w in
        let g : operands_of s r ≡ y = sym e ∙ f in
        set-of s table x 0 (operand_roots s y) (expression_roots s r) (λ i. sym (expression-parts s w r i l ∙ ap (λ (z : Operands). operand_roots s z i) g))
        (h w t l k (subst (OperandsKept s r) g (operands-kept s w r l)) (omega arith));
  }

pub operand-none : (s table known : List ℕ) (r : ℕ) {o : Operands} → o ≡ operands_of s r → o ≡ Operands.Nothing → ExpressionSet s table known r (replicate 32 0)
unfolding operand_roots
operand-none s table known r e f = expression-by s table known (replicate 32 0) r e f (λ w t l k c n. set-none s table 32)

pub operand-path : (s table known x : List ℕ) (r : ℕ) {o : Operands} {p : ℕ} → o ≡ operands_of s r → o ≡ Operands.Path p → WithPath s table (replicate 32 0) p x
    → ExpressionSet s table known r x
unfolding operand_roots
operand-path s table known x r {o} {p} e f h =
    expression-by s table known x r e f (λ w t l k c n. path-more s table (replicate 32 0) x p (λ i. false) w t c h (set-none s table 32))

pub operand-one : (s table known x : List ℕ) (r : ℕ) {o : Operands} {a : ℕ} → o ≡ operands_of s r → o ≡ Operands.One a → Joined (replicate 32 0) known a x
    → ExpressionSet s table known r x
unfolding operand_roots
operand-one s table known x r {o} {a} e f h =
    expression-by s table known x r e f (λ w t l k c n.
    row_more s table (replicate 32 0) known x a r (λ i. false) (expression_roots s) n h c (k a (omega arith) c) (set-none s table 32))

pub operand-two : (s table known m x : List ℕ) (r : ℕ) {o : Operands} {a b : ℕ} → o ≡ operands_of s r → o ≡ Operands.Two a b → Joined (replicate 32 0) known a m
    → Joined m known b x → ExpressionSet s table known r x
unfolding operand_roots
operand-two s table known m x r {o} {a} {b} e f h j =
    expression-by s table known x r e f (λ w t l k c n.
    row_more s table m known x b r (expression_roots s a) (expression_roots s) n j c.1 (k b (omega arith) c.1)
    (row_more s table (replicate 32 0) known m a r (λ i. false) (expression_roots s) n h c.0 (k a (omega arith) c.0) (set-none s table 32)))

pub ruleset operand-laws = (operand-none, operand-path, operand-one, operand-two)

-- The rows one after another.
pub record Expressions (s table before known : List ℕ) (n r : ℕ) : Type 0 where
  pub within : r ≤ n
  pub size : length before ≡ 8192 → length known ≡ 8192
  pub sets : length before ≡ 8192 → WellFormed s → Represented s table → n ≡ expression_count s → SetsOf s table known (expression_roots s) 0 r

pub expressions-none : (s table known : List ℕ) (n : ℕ) → Expressions s table known known n 0
expressions-none s table known n = record { within = omega arith; size = λ l. l; sets = λ l w t e j a b. absurd (omega arith) }

pub expressions-more : (s table before known x after : List ℕ) (n r : ℕ) → Expressions s table before known n r → r < n → ExpressionSet s table known r x
    → Stored known r x after → Expressions s table before after n (r + 1)
expressions-more s table before known x after n r h l k m = record {
  within = omega arith;
  size = λ z. m.size (h.size z);
  sets = λ z w t e.
      let c = counts-kept s w in
      store-row s table known after x r (expression_roots s) 0 (r + 1) m (h.size z) (omega arith) (k.tells w t (omega arith) (h.sets z w t e))
      (λ j n a b. h.sets z w t e j a (earlier j n b));
}
  where
    earlier : (j : ℕ) → (j ≡ r → ⊥) → j < r + 1 → j < r
    earlier j n b = omega (arith, n)

pub expressions-all : (s table before known : List ℕ) (n r : ℕ) → Expressions s table before known n r → n ≤ r → n ≡ expression_count s
    → ExpressionSets s table before known
expressions-all s table before known n r h l e = record { tells = λ z w t j a b. h.sets z w t e j a (omega arith) }

-- ---- a row's own paths and expression

own-as : (s table x : List ℕ) {o y : Own} → y ≡ o → SetOf s table x 0 (own_roots s y) → SetOf s table x 0 (own_roots s o)
own-as s table x {o} {y} e h = subst (λ (z : Own). SetOf s table x 0 (own_roots s z)) e h

-- What the row that was read names itself: one law for each way out.
module _ (s table known x : List ℕ) {o y z : Own} (e : y ≡ o) (f : y ≡ z)
    (h : WellFormed s → Represented s table → SetsOf s table known (expression_roots s) 0 (expression_count s) → OwnKept s z → expression_count s ≤ 256
    → SetOf s table x 0 (own_roots s z)) where
  pub own-set-by : OwnSet s table known o x
  own-set-by = record {
    tells = λ w t k c.
        let n = counts-kept s w in
        own-as s table x (sym f ∙ e) (h w t c (subst (OwnKept s) (sym e ∙ f) k) (omega arith));
  }

pub own-nothing : (s table known : List ℕ) {o y : Own} → y ≡ o → y ≡ Own.Nothing → OwnSet s table known o (replicate 32 0)
unfolding own_roots
own-nothing s table known e f = own-set-by s table known (replicate 32 0) e f (λ w t k c n. set-none s table 32)

pub own-path : (s table known x : List ℕ) {o y : Own} {p : ℕ} → y ≡ o → y ≡ Own.Path p → WithPath s table (replicate 32 0) p x → OwnSet s table known o x
unfolding own_roots
own-path s table known x {o} {y} {p} e f h =
    own-set-by s table known x e f (λ w t k c n. path-more s table (replicate 32 0) x p (λ i. false) w t c h (set-none s table 32))

pub own-paths : (s table known m x : List ℕ) {o y : Own} {p q : ℕ} → y ≡ o → y ≡ Own.Paths p q → WithPath s table (replicate 32 0) p m → WithPath s table m q x
    → OwnSet s table known o x
unfolding own_roots
own-paths s table known m x {o} {y} {p} {q} e f h j =
    own-set-by s table known x e f (λ w t k c n.
    path-more s table m x q (path_root s p) w t c.1 j (path-more s table (replicate 32 0) m p (λ i. false) w t c.0 h (set-none s table 32)))

pub own-expression : (s table known x : List ℕ) {o y : Own} {a : ℕ} → y ≡ o → y ≡ Own.Expression a → Joined (replicate 32 0) known a x → OwnSet s table known o x
unfolding own_roots
own-expression s table known x {o} {y} {a} e f h =
    own-set-by s table known x e f (λ w t k c n.
    row_more s table (replicate 32 0) known x a (expression_count s) (λ i. false) (expression_roots s) n h c (k a (omega arith) c) (set-none s table 32))

pub own-both : (s table known m x : List ℕ) {o y : Own} {a p : ℕ} → y ≡ o → y ≡ Own.Both a p → Joined (replicate 32 0) known a m → WithPath s table m p x
    → OwnSet s table known o x
unfolding own_roots
own-both s table known m x {o} {y} {a} {p} e f h j =
    own-set-by s table known x e f (λ w t k c n.
    path-more s table m x p (expression_roots s a) w t c.1 j
    (row_more s table (replicate 32 0) known m a (expression_count s) (λ i. false) (expression_roots s) n h c.0 (k a (omega arith) c.0) (set-none s table 32)))

pub ruleset own-laws = (own-nothing, own-path, own-paths, own-expression, own-both)

-- ---- branches

pub branches-none : (s sets set : List ℕ) (at n : ℕ) → n ≡ 0 → WithBranches s sets set at n set
unfolding branch_roots branches_from occurs occurs_in_branches
branches-none s sets set at n e = record {
  tells = λ table f r first w t g k l m. subst (λ (z : ℕ). SetOf s table set 0 (λ i. f i || branch_roots s first z i)) (sym e)
      (set-of s table set 0 f (λ i. f i || branch_roots s first 0 i) (λ i. or-false (f i)) m);
}

branch-parts : (s : List ℕ) (r n i : ℕ) → branch_roots s r (suc n) i
    ≡ ((behaviour_roots s (field_a s (behaviour_at s r)) i || behaviour_roots s (field_b s (behaviour_at s r)) i) || branch_roots s (suc r) n i)
unfolding branch_roots behaviour_roots branches_from occurs occurs_in_branches
branch-parts s r zero i = or-false (occurs i (behaviour_of s (field_a s (behaviour_at s r))) || occurs i (behaviour_of s (field_b s (behaviour_at s r))))
branch-parts s r (suc n) i = refl

four : (f a b c : Bool) → (((f || a) || b) || c) ≡ (f || ((a || b) || c))
four true a b c = refl
four false a b c = refl

pub branches-more : (s sets set m o x : List ℕ) (at n : ℕ) (row : BranchRow) → (n ≡ 0 → ⊥) → BranchAt s at row → Joined set sets row.input m
    → Joined m sets row.follow o → WithBranches s sets o (at + 10) (n - 1) x → WithBranches s sets set at n x
branches-more s sets set m o x at n row z e h j k = record { tells = tells }
  where
    a : ℕ
    a = row.input

    b : ℕ
    b = row.follow

    tells : (table : List ℕ) (f : ℕ → Bool) (r first : ℕ) → WellFormed s → Represented s table → at ≡ behaviour_at s first → LaterBranches s r first n
        → LaterSets s table sets r → SetOf s table set 0 f → SetOf s table x 0 (λ i. f i || branch_roots s first n i)
    tells table f r first w t q later l c =
        let pa : a ≡ field_a s (behaviour_at s first) = e.input ∙ ap (field_a s) q in
        let pb : b ≡ field_b s (behaviour_at s first) = e.follow ∙ ap (field_b s) q in
        let u = later first (omega arith) (omega (arith, z)) in
        let v = counts-kept s w in
        let la : LaterRow s r a = subst (LaterRow s r) (sym pa) u.0 in
        let lb : LaterRow s r b = subst (LaterRow s r) (sym pb) u.1 in
        let one = row_more s table set sets m a (behaviour_count s) f (behaviour_roots s) v.behaviours h la.1 (l a la.0 la.1) c in
        let two = row_more s table m sets o b (behaviour_count s) (λ i. f i || behaviour_roots s a i) (behaviour_roots s) v.behaviours j lb.1
        (l b lb.0 lb.1) one in
        let rest = k.tells table (λ i. (f i || behaviour_roots s a i) || behaviour_roots s b i) r (suc first) w t (ap (λ (y : ℕ). y + 10) q ∙ next-at s first)
        (λ y c d. later y (omega arith) (omega arith)) l two in
        set-of s table x 0 (λ i. ((f i || behaviour_roots s a i) || behaviour_roots s b i) || branch_roots s (suc first) (n - 1) i) (λ i. f i || branch_roots s first n i)
        (λ i. four (f i) (behaviour_roots s a i) (behaviour_roots s b i) (branch_roots s (suc first) (n - 1) i)
        ∙ ap (λ (y : Bool). f i || y) (ap (λ (y : ℕ). (behaviour_roots s y i || behaviour_roots s b i) || branch_roots s (suc first) (n - 1) i) pa
        ∙ (ap (λ (y : ℕ). (behaviour_roots s (field_a s (behaviour_at s first)) i || behaviour_roots s y i) || branch_roots s (suc first) (n - 1) i) pb
        ∙ (sym (branch-parts s first (n - 1) i) ∙ ap (λ (y : ℕ). branch_roots s first y i) (sym (one_less n z)))))) rest

pub ruleset branch-laws = (branches-none, branches-more)

-- ---- sub-behaviours

-- One law for each way out.
module _ (s sets set x : List ℕ) {o y z : Subs} (e : y ≡ o) (g : y ≡ z)
    (h : (table : List ℕ) (f : ℕ → Bool) (r : ℕ) → WellFormed s → Represented s table → LaterSets s table sets r → SubsKept s r z → behaviour_count s ≤ 256
    → SetOf s table set 0 f → SetOf s table x 0 (λ i. f i || sub_roots s z i)) where
  pub subs-set-by : WithSubs s sets set o x
  subs-set-by = record {
    tells = λ table f r w t k l m.
        let c = counts-kept s w in
        subst (λ (u : Subs). SetOf s table x 0 (λ i. f i || sub_roots s u i)) (sym g ∙ e)
        (h table f r w t l (subst (SubsKept s r) (sym e ∙ g) k) (omega arith) m);
  }

pub subs-none : (s sets set : List ℕ) {o y : Subs} → y ≡ o → y ≡ Subs.Nothing → WithSubs s sets set o set
unfolding sub_roots
subs-none s sets set e f = subs-set-by s sets set set e f (λ table f r w t l k c m. set-of s table set 0 f (λ i. f i || false) (λ i. or-false (f i)) m)

pub subs-one : (s sets set x : List ℕ) {o y : Subs} {a : ℕ} → y ≡ o → y ≡ Subs.One a → Joined set sets a x → WithSubs s sets set o x
unfolding sub_roots
subs-one s sets set x {o} {y} {a} e g h =
    subs-set-by s sets set x e g (λ table f r w t l k c m. row_more s table set sets x a (behaviour_count s) f (behaviour_roots s) c h k.1 (l a k.0 k.1) m)

pub subs-two : (s sets set n x : List ℕ) {o y : Subs} {a b : ℕ} → y ≡ o → y ≡ Subs.Two a b → Joined set sets a n → Joined n sets b x → WithSubs s sets set o x
unfolding sub_roots
subs-two s sets set n x {o} {y} {a} {b} e g h j =
    subs-set-by s sets set x e g (λ table f r w t l k c m.
    set-of s table x 0 (λ i. (f i || behaviour_roots s a i) || behaviour_roots s b i) (λ i. f i || (behaviour_roots s a i || behaviour_roots s b i))
    (λ i. or_assoc (f i) (behaviour_roots s a i) (behaviour_roots s b i))
    (row_more s table n sets x b (behaviour_count s) (λ i. f i || behaviour_roots s a i) (behaviour_roots s) c j k.1.1 (l b k.1.0 k.1.1)
    (row_more s table set sets n a (behaviour_count s) f (behaviour_roots s) c h k.0.1 (l a k.0.0 k.0.1) m)))

pub subs-run : (s sets set x : List ℕ) (at : ℕ) {o y : Subs} {a n : ℕ} → y ≡ o → y ≡ Subs.Run a n → at ≡ behaviour_at s a → WithBranches s sets set at n x
    → WithSubs s sets set o x
unfolding sub_roots
subs-run s sets set x at {o} {y} {a} {n} e g q h = subs-set-by s sets set x e g (λ table f r w t l k c m. h.tells table f r a w t q k l m)

pub ruleset sub-laws = (subs-none, subs-one, subs-two, subs-run)

-- ---- behaviours

kind-parts : (s : List ℕ) (r i : ℕ) (k : BehaviourKind) → occurs i (behaviour_from s (behaviour_of s) r (behaviour_at s r) k)
    ≡ (own_roots s (own_in (behaviour_row_as k (field_a s (behaviour_at s r)) (field_b s (behaviour_at s r)) (field_c s (behaviour_at s r)) (field_d s (behaviour_at s r)))) i
    || sub_roots s (subs_in (behaviour_row_as k (field_a s (behaviour_at s r)) (field_b s (behaviour_at s r)) (field_c s (behaviour_at s r)) (field_d s (behaviour_at s r)))) i)
unfolding behaviour_from occurs own_roots sub_roots behaviour_row_as expression_roots behaviour_roots branch_roots path_root
kind-parts s r i BehaviourKind.Nil = refl
kind-parts s r i BehaviourKind.OneWay = or-false (is_root i (path_of s (field_b s (behaviour_at s r))))
kind-parts s r i BehaviourKind.RequestResponse =
    sym (or_assoc (is_root i (path_of s (field_b s (behaviour_at s r)))) (is_root i (path_of s (field_c s (behaviour_at s r)))) (occurs i (behaviour_of s (field_d s (behaviour_at s r)))))
kind-parts s r i BehaviourKind.Notification = or-false (occurs_in i (expression_of s (field_b s (behaviour_at s r))))
kind-parts s r i BehaviourKind.SolicitResponse =
    or-false (occurs_in i (expression_of s (field_b s (behaviour_at s r))) || is_root i (path_of s (field_c s (behaviour_at s r))))
kind-parts s r i BehaviourKind.If = refl
kind-parts s r i BehaviourKind.While = refl
kind-parts s r i BehaviourKind.Sequence = refl
kind-parts s r i BehaviourKind.Parallel = refl
kind-parts s r i BehaviourKind.Assign =
    or-false (occurs_in i (expression_of s (field_b s (behaviour_at s r))) || is_root i (path_of s (field_a s (behaviour_at s r))))
kind-parts s r i BehaviourKind.Choice = refl
kind-parts s r i BehaviourKind.Branch = refl
kind-parts s r i BehaviourKind.Unknown = refl

behaviour-parts : (s : List ℕ) → WellFormed s → (r i : ℕ) → r < behaviour_count s → behaviour_roots s r i ≡ (own_roots s (own_of s r) i || sub_roots s (subs_of s r) i)
unfolding behaviour_roots own_of subs_of behaviour_row_of
behaviour-parts s w r i l = ap (occurs i) (behaviour-row s w r l) ∙ kind-parts s r i (kind_at s r)

-- What a row's fields keep to, by its parts.
branch-later : (s : List ℕ) → WellFormed s → (r j : ℕ) → BranchKept s r j → LaterRow s r (field_a s (behaviour_at s j)) × LaterRow s r (field_b s (behaviour_at s j))
branch-later s w r j k =
    let b = branch_kept s w r j k in
    let l = k.child.later in
    let x = b.0.child in
    let y = b.1.child in
    let u = x.later in
    let v = y.later in
    ((omega arith, x.exists), (omega arith, y.exists))

own-kept : (s : List ℕ) (r at : ℕ) (k : BehaviourKind) → RowKept s r at k → OwnKept s (own_in (behaviour_row_as k (field_a s at) (field_b s at) (field_c s at) (field_d s at)))
unfolding behaviour_row_as
own-kept s r at BehaviourKind.Nil k = tt
own-kept s r at BehaviourKind.OneWay k = k.1
own-kept s r at BehaviourKind.RequestResponse k = (k.1, k.2)
own-kept s r at BehaviourKind.Notification k = k.1
own-kept s r at BehaviourKind.SolicitResponse k = (k.1, k.2)
own-kept s r at BehaviourKind.If k = k.0
own-kept s r at BehaviourKind.While k = k.0
own-kept s r at BehaviourKind.Sequence k = tt
own-kept s r at BehaviourKind.Parallel k = tt
own-kept s r at BehaviourKind.Assign k = (k.1, k.0)
own-kept s r at BehaviourKind.Choice k = tt
own-kept s r at BehaviourKind.Branch k = tt
own-kept s r at BehaviourKind.Unknown k = tt

subs-kept : (s : List ℕ) → WellFormed s → (r at : ℕ) (k : BehaviourKind) → RowKept s r at k
    → SubsKept s r (subs_in (behaviour_row_as k (field_a s at) (field_b s at) (field_c s at) (field_d s at)))
unfolding behaviour_row_as
subs-kept s w r at BehaviourKind.Nil k = tt
subs-kept s w r at BehaviourKind.OneWay k = tt
subs-kept s w r at BehaviourKind.RequestResponse k = (k.3.child.later, k.3.child.exists)
subs-kept s w r at BehaviourKind.Notification k = tt
subs-kept s w r at BehaviourKind.SolicitResponse k = tt
subs-kept s w r at BehaviourKind.If k = ((k.1.child.later, k.1.child.exists), (k.2.child.later, k.2.child.exists))
subs-kept s w r at BehaviourKind.While k = (k.1.child.later, k.1.child.exists)
subs-kept s w r at BehaviourKind.Sequence k = ((k.0.child.later, k.0.child.exists), (k.1.child.later, k.1.child.exists))
subs-kept s w r at BehaviourKind.Parallel k = ((k.0.child.later, k.0.child.exists), (k.1.child.later, k.1.child.exists))
subs-kept s w r at BehaviourKind.Assign k = tt
subs-kept s w r at BehaviourKind.Choice k = λ j a b. branch-later s w r j (k.2 j a b)
subs-kept s w r at BehaviourKind.Branch k = tt
subs-kept s w r at BehaviourKind.Unknown k = tt

row-own : (s : List ℕ) → WellFormed s → (r : ℕ) → RowKept s r (behaviour_at s r) (kind_at s r) → OwnKept s (own_of s r)
unfolding own_of behaviour_row_of
row-own s w r k = own-kept s r (behaviour_at s r) (kind_at s r) k

row-subs : (s : List ℕ) → WellFormed s → (r : ℕ) → RowKept s r (behaviour_at s r) (kind_at s r) → SubsKept s r (subs_of s r)
unfolding subs_of behaviour_row_of
row-subs s w r k = subs-kept s w r (behaviour_at s r) (kind_at s r) k

pub behaviour-set-is : (s table known sets o x : List ℕ) (r : ℕ) {row : BehaviourRow} {y : Own} {z : Subs} → row ≡ behaviour_row_of s r → y ≡ own_in row
    → OwnSet s table known y o → z ≡ subs_in row → WithSubs s sets o z x → BehaviourSet s table known sets r x
behaviour-set-is s table known sets o x r {row} {y} {z} e f h g k = record {
  tells = λ w t l c d.
      let kept = behaviour-kept s w r l in
      let own = h.tells w t (subst (OwnKept s) (sym (own-are s r e f)) (row-own s w r kept)) c in
      let all = k.tells table (own_roots s y) r w t (subst (SubsKept s r) (sym (subs-of-row s r e g)) (row-subs s w r kept)) d own in
      set-of s table x 0 (λ i. own_roots s y i || sub_roots s z i) (behaviour_roots s r)
      (λ i. ap (λ (u : Own). own_roots s u i || sub_roots s z i) (own-are s r e f)
      ∙ (ap (λ (u : Subs). own_roots s (own_of s r) i || sub_roots s u i) (subs-of-row s r e g) ∙ sym (behaviour-parts s w r i l))) all;
}

-- The rows one before another.
pub record Behaviours (s table known before sets : List ℕ) (n r : ℕ) : Type 0 where
  pub within : r ≤ n
  pub size : length before ≡ 8192 → length sets ≡ 8192
  pub each : length before ≡ 8192 → WellFormed s → Represented s table → SetsOf s table known (expression_roots s) 0 (expression_count s)
      → SetsOf s table sets (behaviour_roots s) r (behaviour_count s)

pub behaviours-none : (s table known sets : List ℕ) (n : ℕ) → n ≡ behaviour_count s → Behaviours s table known sets sets n n
behaviours-none s table known sets n e = record { within = omega arith; size = λ l. l; each = λ l w t c j a b. absurd (omega arith) }

pub behaviours-more : (s table known before sets x after : List ℕ) (n r q : ℕ) → n ≡ behaviour_count s → Behaviours s table known before sets n r → 0 < r
    → q ≡ r - 1 → BehaviourSet s table known sets q x → Stored sets q x after → Behaviours s table known before after n q
behaviours-more s table known before sets x after n r q e h l f k m = record {
  within = (let a = h.within in omega arith);
  size = λ z. m.size (h.size z);
  each = λ z w t c.
      let v = counts-kept s w in
      let a = h.within in
      store-row s table sets after x q (behaviour_roots s) q (behaviour_count s) m (h.size z) (omega arith)
      (k.tells w t (omega arith) c (λ j a b. h.each z w t c j (omega arith) b)) (λ j n a b. h.each z w t c j (later j n a) b);
}
  where
    later : (j : ℕ) → (j ≡ q → ⊥) → q ≤ j → r ≤ j
    later j n a = omega (arith, n)

pub behaviours-all : (s table known before sets : List ℕ) (n r : ℕ) → Behaviours s table known before sets n r → r ≤ 0 → BehaviourSets s table known before sets
behaviours-all s table known before sets n r h l = record { size = h.size; tells = λ z w t c j a b. h.each z w t c j (omega arith) b }

-- ---- parallels

-- The first r rows are no parallels.
pub record Searched (s : List ℕ) (n r : ℕ) : Type 0 where
  pub within : r ≤ n
  pub none : (j a b : ℕ) → j < r → behaviour_row_of s j ≡ BehaviourRow.Parallel a b → ⊥

pub searched-none : (s : List ℕ) (n : ℕ) → Searched s n 0
searched-none s n = record { within = omega arith; none = λ j a b l. absurd (omega arith) }

not-parallel : (k : BehaviourKind) (a b c d : ℕ) {x y : ℕ} → behaviour_row_as k a b c d ≡ BehaviourRow.Parallel x y → k ≡ BehaviourKind.Parallel
unfolding behaviour_row_as
not-parallel BehaviourKind.Nil a b c d e = let z : ◌≡◌ {A = ℕ} 0 1 = cc in absurd (omega arith)
not-parallel BehaviourKind.OneWay a b c d e = let z : ◌≡◌ {A = ℕ} 0 1 = cc in absurd (omega arith)
not-parallel BehaviourKind.RequestResponse a b c d e = let z : ◌≡◌ {A = ℕ} 0 1 = cc in absurd (omega arith)
not-parallel BehaviourKind.Notification a b c d e = let z : ◌≡◌ {A = ℕ} 0 1 = cc in absurd (omega arith)
not-parallel BehaviourKind.SolicitResponse a b c d e = let z : ◌≡◌ {A = ℕ} 0 1 = cc in absurd (omega arith)
not-parallel BehaviourKind.If a b c d e = let z : ◌≡◌ {A = ℕ} 0 1 = cc in absurd (omega arith)
not-parallel BehaviourKind.While a b c d e = let z : ◌≡◌ {A = ℕ} 0 1 = cc in absurd (omega arith)
not-parallel BehaviourKind.Sequence a b c d e = let z : ◌≡◌ {A = ℕ} 0 1 = cc in absurd (omega arith)
not-parallel BehaviourKind.Parallel a b c d e = refl
not-parallel BehaviourKind.Assign a b c d e = let z : ◌≡◌ {A = ℕ} 0 1 = cc in absurd (omega arith)
not-parallel BehaviourKind.Choice a b c d e = let z : ◌≡◌ {A = ℕ} 0 1 = cc in absurd (omega arith)
not-parallel BehaviourKind.Branch a b c d e = let z : ◌≡◌ {A = ℕ} 0 1 = cc in absurd (omega arith)
not-parallel BehaviourKind.Unknown a b c d e = let z : ◌≡◌ {A = ℕ} 0 1 = cc in absurd (omega arith)

past-kinds : (n : ℕ) → 12 ≤ n → behaviour_kind n ≡ BehaviourKind.Parallel → ⊥
unfolding behaviour_kind
past-kinds n l e =
    let f : BehaviourKind.Unknown ≡ BehaviourKind.Parallel = rw (ne_eqb n 0 (λ z. omega arith), ne_eqb n 1 (λ z. omega arith), ne_eqb n 2 (λ z. omega arith), ne_eqb n 3 (λ z. omega arith), ne_eqb n 4 (λ z. omega arith), ne_eqb n 5 (λ z. omega arith), ne_eqb n 6 (λ z. omega arith), ne_eqb n 7 (λ z. omega arith), ne_eqb n 8 (λ z. omega arith), ne_eqb n 9 (λ z. omega arith), ne_eqb n 10 (λ z. omega arith), ne_eqb n 11 (λ z. omega arith)) at e in
    let z : ◌≡◌ {A = ℕ} 0 1 = cc in omega arith

parallel-byte : (n : ℕ) → behaviour_kind n ≡ BehaviourKind.Parallel → n ≡ 8
unfolding behaviour_kind
parallel-byte zero e = let z : ◌≡◌ {A = ℕ} 0 1 = cc in absurd (omega arith)
parallel-byte (suc zero) e = let z : ◌≡◌ {A = ℕ} 0 1 = cc in absurd (omega arith)
parallel-byte (suc (suc zero)) e = let z : ◌≡◌ {A = ℕ} 0 1 = cc in absurd (omega arith)
parallel-byte (suc (suc (suc zero))) e = let z : ◌≡◌ {A = ℕ} 0 1 = cc in absurd (omega arith)
parallel-byte (suc (suc (suc (suc zero)))) e = let z : ◌≡◌ {A = ℕ} 0 1 = cc in absurd (omega arith)
parallel-byte (suc (suc (suc (suc (suc zero))))) e = let z : ◌≡◌ {A = ℕ} 0 1 = cc in absurd (omega arith)
parallel-byte (suc (suc (suc (suc (suc (suc zero)))))) e = let z : ◌≡◌ {A = ℕ} 0 1 = cc in absurd (omega arith)
parallel-byte (suc (suc (suc (suc (suc (suc (suc zero))))))) e = let z : ◌≡◌ {A = ℕ} 0 1 = cc in absurd (omega arith)
parallel-byte (suc (suc (suc (suc (suc (suc (suc (suc zero)))))))) e = refl
parallel-byte (suc (suc (suc (suc (suc (suc (suc (suc (suc zero))))))))) e = let z : ◌≡◌ {A = ℕ} 0 1 = cc in absurd (omega arith)
parallel-byte (suc (suc (suc (suc (suc (suc (suc (suc (suc (suc zero)))))))))) e = let z : ◌≡◌ {A = ℕ} 0 1 = cc in absurd (omega arith)
parallel-byte (suc (suc (suc (suc (suc (suc (suc (suc (suc (suc (suc zero))))))))))) e = let z : ◌≡◌ {A = ℕ} 0 1 = cc in absurd (omega arith)
parallel-byte (suc (suc (suc (suc (suc (suc (suc (suc (suc (suc (suc (suc n)))))))))))) e = absurd (past-kinds (suc (suc (suc (suc (suc (suc (suc (suc (suc (suc (suc (suc n)))))))))))) (omega arith) e)

row-byte : (s : List ℕ) (j : ℕ) {a b : ℕ} → behaviour_row_of s j ≡ BehaviourRow.Parallel a b → byte_at s (behaviour_at s j) ≡ 8
unfolding behaviour_row_of kind_at
row-byte s j e = parallel-byte (byte_at s (behaviour_at s j)) (not-parallel (kind_at s j) _ _ _ _ e)

pub searched-more : (s : List ℕ) (n r at v : ℕ) → Searched s n r → r < n → at ≡ behaviour_at s r → v ≡ byte_at s at → (v ≡ 8 → ⊥) → Searched s n (r + 1)
searched-more s n r at v h l e f g = record { within = omega arith; none = λ j a b k p. by j a b k p (compare j r) }
  where
    by : (j a b : ℕ) → j < r + 1 → behaviour_row_of s j ≡ BehaviourRow.Parallel a b → Compare j r → ⊥
    by j a b k p (lt q) = h.none j a b q p
    by j a b k p (gt q) = omega arith
    by j a b k p (eq q) = g (f ∙ (ap (byte_at s) (e ∙ ap (behaviour_at s) (sym q)) ∙ row-byte s j p))

pub searched-all : (s : List ℕ) (n r : ℕ) → Searched s n r → n ≤ r → n ≡ behaviour_count s → AnyParallel s false
searched-all s n r h l e = record { one = λ f. absurd (clash f refl); none = λ f j a b k. h.none j a b (omega arith) }

pub found-one : (s : List ℕ) (n r at v : ℕ) → r < n → n ≡ behaviour_count s → at ≡ behaviour_at s r → v ≡ byte_at s at → v ≡ 8 → AnyParallel s true
unfolding kind_at behaviour_kind
found-one s n r at v l c e f g = record {
  one = λ t. (r, omega arith, ap behaviour_kind (ap (byte_at s) (sym e) ∙ (sym f ∙ g)));
  none = λ t. absurd (clash refl t);
}

parallel-kept : (s : List ℕ) → WellFormed s → (r : ℕ) → r < behaviour_count s → {a b : ℕ} → behaviour_row_of s r ≡ BehaviourRow.Parallel a b
    → LaterRow s r a × LaterRow s r b
unfolding behaviour_row_of
parallel-kept s w r l e = subst (SubsKept s r) (ap subs_in e) (subs-kept s w r (behaviour_at s r) (kind_at s r) (behaviour-kept s w r l))

roots-to : (s : List ℕ) (j i : ℕ) → behaviour_roots s j i ≡ true → T (occurs i (behaviour_of s j))
unfolding behaviour_roots
roots-to s j i m = T_of m

roots-from : (s : List ℕ) (j i : ℕ) → T (occurs i (behaviour_of s j)) → behaviour_roots s j i ≡ true
unfolding behaviour_roots
roots-from s j i m = of_t (occurs i (behaviour_of s j)) m

pub filled : (s no_table table none known before sets : List ℕ) → length no_table ≡ 65536 → Represents s no_table table → length none ≡ 8192
    → ExpressionSets s table none known → BehaviourSets s table known before sets → Fills s before sets
filled s no_table table none known before sets z-table u z-known e h = record { size = h.size; tells = λ z. record { tells = tells z } }
  where
    t : Represented s table
    t = u.tells z-table

    tells : length before ≡ 8192 → WellFormed s → (r a b : ℕ) (x : Bool) → r < behaviour_count s → behaviour_row_of s r ≡ BehaviourRow.Parallel a b
        → SetsApart sets a b x → x ≡ no_shared_root (behaviour_of s a) (behaviour_of s b)
    tells z w r a b x l p y = by x refl
      where
        k : LaterRow s r a × LaterRow s r b
        k = parallel-kept s w r l p

        c : behaviour_count s ≤ 256
        c = (counts-kept s w).behaviours

        room : 8192 ≤ length sets
        room = let n = h.size z in omega arith

        set_at : (j : ℕ) → j < behaviour_count s → SetOf s table sets (32 * j) (behaviour_roots s j)
        set_at j m = h.tells z w t (e.tells z-known w t) j (omega arith) m

        by : (c : Bool) → x ≡ c → c ≡ no_shared_root (behaviour_of s a) (behaviour_of s b)
        by false m =
            let v = y.common room (let q = k.0.1 in let u = c in omega arith) (let q = k.1.1 in let u = c in omega arith) m in
            sym (not-T-false (no_shared_root (behaviour_of s a) (behaviour_of s b)) (λ u.
            no-shared-sound (behaviour_of s a) (behaviour_of s b) u (root_at s v.0) (roots-to s a (root_at s v.0) ((set_at a k.0.1).only v.0 v.1 v.2))
            (roots-to s b (root_at s v.0) ((set_at b k.1.1).only v.0 v.1 v.3))))
        by true m =
            sym (of_t (no_shared_root (behaviour_of s a) (behaviour_of s b)) (no-shared-complete (behaviour_of s a) (behaviour_of s b) (λ i u v.
            y.none room (let q = k.0.1 in let u = c in omega arith) (let q = k.1.1 in let u = c in omega arith) m (row_for table i) (row_for-below i)
            ((set_at a k.0.1).has i (roots-from s a i u)) ((set_at b k.1.1).has i (roots-from s b i v)))))
          where
            row_for-below : (i : ℕ) → row_for table i < 256
            row_for-below i = omega arith
