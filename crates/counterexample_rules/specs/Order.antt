-- Which of two messages is lower. 02, Wish 6: "fewest nodes, then lowest bytes in order".
use Rattle.std.specs.Prelude.{◌≡◌, List, [], ◌∷◌, Bool, true, false, ◌&&◌, ◌||◌, ℕ, ◌<◌, eqb, ltb}
use Rattle.tree_forest.specs.Forest.{Tree, nodes}
use Rattle.scalar.specs.Value.{Value}
use Rattle.tree.specs.Encode.{encode, rooted}

-- Lower bytes, compared from the front: the first that differ decide; what ends first is lower.
pub data LowerBytes : List ℕ → List ℕ → Type 0 where
  ends : {y : ℕ} {t : List ℕ} → LowerBytes [] (y ∷ t)
  differs : {x y : ℕ} {s t : List ℕ} → x < y → LowerBytes (x ∷ s) (y ∷ t)
  goes_on : {x : ℕ} {s t : List ℕ} → LowerBytes s t → LowerBytes (x ∷ s) (x ∷ t)

-- "fewest nodes", of the message with its root; "then lowest bytes in order", of its whole encoding.
pub data Lower (m n : Tree Value) : Type 0 where
  fewer : nodes (rooted m) < nodes (rooted n) → Lower m n
  as_many : nodes (rooted m) ≡ nodes (rooted n) → LowerBytes (encode (rooted m)) (encode (rooted n)) → Lower m n

-- The same as tests.
unfoldable pub is_lower_bytes : List ℕ → List ℕ → Bool
is_lower_bytes s [] = false
is_lower_bytes [] (y ∷ t) = true
is_lower_bytes (x ∷ s) (y ∷ t) = ltb x y || (eqb x y && is_lower_bytes s t)

unfoldable pub is_lower : Tree Value → Tree Value → Bool
is_lower m n =
    ltb (nodes (rooted m)) (nodes (rooted n))
    || (eqb (nodes (rooted m)) (nodes (rooted n)) && is_lower_bytes (encode (rooted m)) (encode (rooted n)))
