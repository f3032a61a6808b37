-- The parts of a file of bytes that none of 2 to 5 refuses: ids of paths are u16 and not 0, constants are values of bytes, operations
-- are those of their rows, and every row of a behaviour is a B row of the file.
use Rattle.std.specs.Prelude.{◌≡◌, refl, Bool, true, false, List, [], ◌∷◌, eqb}
use Rattle.std.proofs.Common.{ap, ◌∙◌, arith}
use Prim.Native.Nat.{ℕ, zero, suc, ◌+◌, ◌<◌, ◌≤◌}
use Rattle.scalar.specs.Value.{bytes_of}
use Rattle.basics.specs.Choice.{pick}
use Rattle.wire.specs.Wire.{u16_at}
use Rattle.network_syntax.specs.Syntax.{Expression, constant, value_at, presence, unary, binary, Behaviour}
use Rattle.network.specs.declared.ExpressionKind.{ExpressionKind}
use Rattle.network.specs.declared.BehaviourKind.{BehaviourKind}
use Rattle.network.specs.Layout.{path_count, expression_count, behaviour_count, operation_count, D, start, path_at, expression_at, behaviour_at, data_part}
use Rattle.network.specs.Rows.{field_a, field_b, field_c, field_d, expression_kind_at, kind_at}
use Rattle.network.specs.Form.{WellFormed}
use Rattle.network.specs.Decode.{until_zero, path_of, expression_from, expression_to, expression_of, operation_of, branches_from, behaviour_from, behaviour_to}
use Rattle.network.specs.Decode.{behaviour_of, network_of}
use Rattle.network.specs.Shapes.{AllPositive, PartsShape}
use Rattle.network.proofs.DecodeLaws.{path-shape, expression-shape}
use Rattle.network.proofs.UseLaws.{RowKept, behaviour-kept, branch_kept}
use Rattle.network.proofs.BehaviourLaws.{BranchesKept, Later}
use Rattle.network.proofs.NetworkLaws.{operation-entry}
use Rattle.tree.specs.Encode.{Octets}
use Rattle.tree.specs.EncodeLaws.{octets-part, octets-nil}
use Rattle.state.specs.Shape.{operation_of_row}
use Rattle.soundness.specs.GoodTrees.{AllIds, GoodPath, GoodExpression}
use Rattle.soundness.specs.Accepted.{OfFile, MadeOf, MadeOfBranches}

-- Numbers of bytes ------------------------------------------------------------------------------------------------------------------------

u16-small : (s : List ℕ) → Octets s → (at : ℕ) → u16_at s at < 65536
unfolding u16_at
u16-small s b at = let x = b.small at in let y = b.small (at + 1) in omega arith

-- Paths -----------------------------------------------------------------------------------------------------------------------------------

abbrev AllSmall : List ℕ → Type 0
AllSmall [] = Unit {0}
AllSmall (i ∷ l) = (i < 65536) × AllSmall l

until-small : (l : List ℕ) → AllSmall l → AllSmall (until_zero l)
unfolding until_zero
until-small [] h = tt
until-small (i ∷ l) h = go (eqb i 0) (until-small l h.1)
  where
    go : (t : Bool) → AllSmall (until_zero l) → AllSmall (pick t [] (i ∷ until_zero l))
    go true k = tt
    go false k = (h.0, k)

all_ids : (l : List ℕ) → AllPositive l → AllSmall l → AllIds l
unfolding AllPositive AllIds
all_ids [] p h = tt
all_ids (i ∷ l) p h = ((p.0, h.0), all_ids l p.1 h.1)

path-good : (s : List ℕ) → Octets s → WellFormed s → (r : ℕ) → r < path_count s → GoodPath (path_of s r)
unfolding path_of
path-good s b w r l =
    let ids : List ℕ = u16_at s (path_at s r + 2) ∷ u16_at s (path_at s r + 4) ∷ u16_at s (path_at s r + 6) ∷ [] in
    let small : AllSmall ids = (u16-small s b (path_at s r + 2), (u16-small s b (path_at s r + 4), (u16-small s b (path_at s r + 6), tt))) in
    let h = path-shape s w r l in
    ((h.0, u16-small s b (path_at s r)), all_ids (until_zero ids) h.1 (until-small ids small))

-- Expressions -----------------------------------------------------------------------------------------------------------------------------

-- Every constant is made of bytes.
abbrev ConstantBytes : Expression → Type 0
ConstantBytes (constant v) = Octets (bytes_of v)
ConstantBytes (value_at x) = Unit {0}
ConstantBytes (presence x) = Unit {0}
ConstantBytes (unary o e) = ConstantBytes e
ConstantBytes (binary o a b) = ConstantBytes a × ConstantBytes b

data-bytes : (s : List ℕ) → Octets s → (v n : ℕ) → Octets (data_part s v n)
unfolding data_part
data-bytes s b v n = octets-part s (start s D + v) n b

constants-by : (s : List ℕ) → Octets s → (f : ℕ → Expression) → ((j : ℕ) → ConstantBytes (f j)) → (at : ℕ) (k : ExpressionKind)
    → ConstantBytes (expression_from s f at k)
unfolding expression_from
constants-by s b f h at ExpressionKind.Constant = data-bytes s b (field_a s at) (field_b s at)
constants-by s b f h at ExpressionKind.ValueAt = tt
constants-by s b f h at ExpressionKind.Presence = tt
constants-by s b f h at ExpressionKind.Not = h (field_a s at)
constants-by s b f h at ExpressionKind.Negate = h (field_a s at)
constants-by s b f h at ExpressionKind.Add = (h (field_a s at), h (field_b s at))
constants-by s b f h at ExpressionKind.Subtract = (h (field_a s at), h (field_b s at))
constants-by s b f h at ExpressionKind.Less = (h (field_a s at), h (field_b s at))
constants-by s b f h at ExpressionKind.Equal = (h (field_a s at), h (field_b s at))
constants-by s b f h at ExpressionKind.And = (h (field_a s at), h (field_b s at))
constants-by s b f h at ExpressionKind.Unknown = octets-nil

constants-to : (s : List ℕ) → Octets s → (d r : ℕ) → ConstantBytes (expression_to s d r)
unfolding expression_to
constants-to s b zero r = octets-nil
constants-to s b (suc d) r = constants-by s b (expression_to s d) (λ j. constants-to s b d j) (expression_at s r) (expression_kind_at s r)

parts-good : (e : Expression) → PartsShape e → ConstantBytes e → GoodExpression e
unfolding PartsShape GoodExpression
parts-good (constant v) p h = record { valid = p; bytes = h }
parts-good (value_at x) p h = tt
parts-good (presence x) p h = tt
parts-good (unary o a) p h = parts-good a p h
parts-good (binary o a b) p h = (parts-good a p.0 h.0, parts-good b p.1 h.1)

expression-good : (s : List ℕ) → Octets s → WellFormed s → (r : ℕ) → r < expression_count s → GoodExpression (expression_of s r)
expression-good s b w r l = parts-good (expression_of s r) (expression-shape s w r l).parts (constants-to s b 8 r)

-- Operations ------------------------------------------------------------------------------------------------------------------------------

operation-row : (s : List ℕ) (w : ℕ) → (operation_of s w).row ≡ w
unfolding operation_of
operation-row s w = refl

operation-of-file : (s : List ℕ) (w : ℕ) → w < operation_count s → OfFile (network_of s) (operation_of s w)
operation-of-file s w l =
    ap (operation_of_row (network_of s).operations) (operation-row s w) ∙ operation-entry s w l

-- Behaviours ------------------------------------------------------------------------------------------------------------------------------

abbrev MadeOfFile : List ℕ → Behaviour → Type 0
MadeOfFile s B = MadeOf (network_of s) (behaviour_count s) B

module _ (s : List ℕ) (b : Octets s) (w : WellFormed s) where
  branches-made : (r : ℕ) (f : ℕ → Behaviour) → Later s r (λ j. MadeOfFile s (f j)) → (n a : ℕ) → 1 ≤ n → BranchesKept s r a n
      → MadeOfBranches (network_of s) (behaviour_count s) (branches_from s f a n)
  unfolding branches_from MadeOf
  branches-made r f e zero a o h = absurd (omega arith)
  branches-made r f e (suc zero) a o h =
      let k = h a (omega arith) (omega arith) in
      let c = branch_kept s w r a k in
      let l = k.child.later in (
        k.child.exists,
        e (field_a s (behaviour_at s a)) (let y = c.0.child.later in omega arith) c.0.child.exists,
        e (field_b s (behaviour_at s a)) (let y = c.1.child.later in omega arith) c.1.child.exists,
      )
  branches-made r f e (suc (suc n)) a o h =
      let k = h a (omega arith) (omega arith) in
      let c = branch_kept s w r a k in
      let l = k.child.later in (
        k.child.exists,
        e (field_a s (behaviour_at s a)) (let y = c.0.child.later in omega arith) c.0.child.exists,
        e (field_b s (behaviour_at s a)) (let y = c.1.child.later in omega arith) c.1.child.exists,
        branches-made r f e (suc n) (suc a) (omega arith) (λ j p q. h j (omega arith) (omega arith)),
      )

  row_made : (r at : ℕ) → r < behaviour_count s → (f : ℕ → Behaviour) → Later s r (λ j. MadeOfFile s (f j)) → (k : BehaviourKind)
      → RowKept s r at k → MadeOfFile s (behaviour_from s f r at k)
  unfolding behaviour_from MadeOf
  row_made r at l f e BehaviourKind.Nil h = l
  row_made r at l f e BehaviourKind.OneWay h = (l, operation-of-file s (field_a s at) h.0, path-good s b w (field_b s at) h.1)
  row_made r at l f e BehaviourKind.RequestResponse h =
      (l, operation-of-file s (field_a s at) h.0, path-good s b w (field_b s at) h.1, e (field_d s at) h.3.child.later h.3.child.exists)
  row_made r at l f e BehaviourKind.Notification h = (l, operation-of-file s (field_a s at) h.0, expression-good s b w (field_b s at) h.1)
  row_made r at l f e BehaviourKind.SolicitResponse h =
      (l, operation-of-file s (field_a s at) h.0, expression-good s b w (field_b s at) h.1, path-good s b w (field_c s at) h.2)
  row_made r at l f e BehaviourKind.If h = (
    l,
    expression-good s b w (field_a s at) h.0,
    e (field_b s at) h.1.child.later h.1.child.exists,
    e (field_c s at) h.2.child.later h.2.child.exists,
  )
  row_made r at l f e BehaviourKind.While h =
      (l, expression-good s b w (field_a s at) h.0, e (field_b s at) h.1.child.later h.1.child.exists)
  row_made r at l f e BehaviourKind.Sequence h =
      (l, e (field_a s at) h.0.child.later h.0.child.exists, e (field_b s at) h.1.child.later h.1.child.exists)
  row_made r at l f e BehaviourKind.Parallel h =
      (l, e (field_a s at) h.0.child.later h.0.child.exists, e (field_b s at) h.1.child.later h.1.child.exists)
  row_made r at l f e BehaviourKind.Assign h = (l, path-good s b w (field_a s at) h.0, expression-good s b w (field_b s at) h.1)
  row_made r at l f e BehaviourKind.Choice h = (l, branches-made r f e (field_b s at) (field_a s at) h.0 h.2)
  row_made r at l f e BehaviourKind.Branch h = l
  row_made r at l f e BehaviourKind.Unknown h = absurd h

  made-to : (d r : ℕ) → r < behaviour_count s → MadeOfFile s (behaviour_to s d r)
  unfolding behaviour_to MadeOf
  made-to zero r l = l
  made-to (suc d) r l = row_made r (behaviour_at s r) l (behaviour_to s d) (λ j x y. made-to d j y) (kind_at s r) (behaviour-kept s w r l)

  -- A B row's behaviour is made of the file's parts.
  pub behaviour-made : (r : ℕ) → r < behaviour_count s → MadeOf (network_of s) (behaviour_count s) (behaviour_of s r)
  unfolding behaviour_of
  behaviour-made r l = made-to (behaviour_count s) r l
