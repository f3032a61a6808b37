-- Changes and their limits, at each of the ways out of `put_within` and `set_within`.
use mathlib.Core.Path.{◌≡◌, refl, sym, ◌∙◌}
use mathlib.Core.List.{List}
use mathlib.Core.Bool.{Bool, true, false}
use Prim.Native.Nat.{ℕ}
use lib.ListN.{length}
use Rattle.tree_forest.specs.Forest.{Forest, end, Tree, tree, Lookup, present}
use Rattle.tree_forest.specs.Path.{replace_at, set_payload_at}
use Rattle.scalar.specs.Value.{Value}
use Rattle.tree.specs.Encode.{encode, rooted, Octets}
use Rattle.tree.specs.Decode.{decode}
use Rattle.tree.specs.DecodeLaws.{decode-sound}
use Rattle.tree.specs.Ids.{is_path, path_from_ids, Words}
use Rattle.tree.specs.Standing.{Within as WithinLimits}
use Rattle.tree_edit.specs.Wrote.{Wrote}
use Rattle.tree_edit.specs.WroteLaws.{wrote_as}
use Rattle.tree_edit.specs.Change.{missing_value, replaced, assigned_bytes}
use Rattle.tree_edit.specs.ChangeLaws.{replace-right, set-right, within-is, within-encodes}
use Rattle.tree_edit.specs.Limited.{PutOutcome, SetOutcome}
use Rattle.std.specs.Prelude.{Ok, Err}

replaced-of : (ty : Bool) (ids : List ℕ) (l k : Lookup Value) (a : Value) (f : Forest Value) (t : Tree Value) → k ≡ present (tree a f) → l ≡ present t →
    replaced ty (path_from_ids ids) l k ≡ encode (rooted (tree a (replace_at (missing_value ty) (path_from_ids ids) t f)))
replaced-of ty ids l k a f t p q = rw (p, q) refl

assigned-of : (ids : List ℕ) (l k : Lookup Value) (a : Value) (f : Forest Value) (b : Value) → k ≡ present (tree a f) → l ≡ present (tree b end) →
    assigned_bytes (path_from_ids ids) l k ≡ encode (rooted (tree a (set_payload_at (missing_value false) (path_from_ids ids) b f)))
assigned-of ids l k a f b p q = rw (p, q) refl

module _ (ids s m : List ℕ) {o o' : List ℕ} {r : ℕ} (four : length ids ≡ 4) (ok : is_path ids ≡ true) (bs : Octets s) (bm : Octets m) (ws : Words ids)
    (b : Bool) (t : WithinLimits 6 48 o' b) where
  module _ (ty : Bool) (w : Wrote o o' 0 r r (replaced ty (path_from_ids ids) (decode 6 48 m) (decode 6 48 s))) where
    pub put-kept : b ≡ true → PutOutcome ty ids s m o o' (Ok r)
    put-kept e = record {
      tells = λ a f u p q.
          let x = decode-sound 6 48 m u bm q in
          let y = decode-sound 6 48 s (tree a f) bs p in
          let h = replace-right ids four ws ok ty 6 48 6 48 u (tree a f) x.good y.good in
          let v = wrote_as (replaced-of ty ids (decode 6 48 m) (decode 6 48 s) a f u p q) refl w in
          record { wrote = v; encodes = within-encodes 6 48 a _ b v y.good.root h t e };
    }

    pub put-passed : b ≡ false → PutOutcome ty ids s m o o' (Err r)
    put-passed e = record {
      tells = λ a f u p q.
          let x = decode-sound 6 48 m u bm q in
          let y = decode-sound 6 48 s (tree a f) bs p in
          let h = replace-right ids four ws ok ty 6 48 6 48 u (tree a f) x.good y.good in
          let v = wrote_as (replaced-of ty ids (decode 6 48 m) (decode 6 48 s) a f u p q) refl w in
          record { wrote = v; large = sym (within-is 6 48 a _ b v y.good.root h t) ∙ e };
    }

  module _ (w : Wrote o o' 0 r r (assigned_bytes (path_from_ids ids) (decode 0 0 m) (decode 6 48 s))) where
    pub set-kept : b ≡ true → SetOutcome ids s m o o' (Ok r)
    set-kept e = record {
      tells = λ a f u p q.
          let x = decode-sound 0 0 m (tree u end) bm q in
          let y = decode-sound 6 48 s (tree a f) bs p in
          let h = set-right ids four ws ok u 6 48 (tree a f) x.good.root y.good in
          let v = wrote_as (assigned-of ids (decode 0 0 m) (decode 6 48 s) a f u p q) refl w in
          record { wrote = v; encodes = within-encodes 6 48 a _ b v y.good.root h t e };
    }

    pub set-passed : b ≡ false → SetOutcome ids s m o o' (Err r)
    set-passed e = record {
      tells = λ a f u p q.
          let x = decode-sound 0 0 m (tree u end) bm q in
          let y = decode-sound 6 48 s (tree a f) bs p in
          let h = set-right ids four ws ok u 6 48 (tree a f) x.good.root y.good in
          let v = wrote_as (assigned-of ids (decode 0 0 m) (decode 6 48 s) a f u p q) refl w in
          record { wrote = v; large = sym (within-is 6 48 a _ b v y.good.root h t) ∙ e };
    }

pub ruleset put-limits = (put-kept, put-passed)

pub ruleset set-limits = (set-kept, set-passed)
