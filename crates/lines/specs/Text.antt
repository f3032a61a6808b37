-- What the characters of a line stand for. Assumes nothing.
use Rattle.std.specs.Prelude.{ℕ, ◌+◌, ◌-◌, ◌*◌, ◌≤◌, ◌<◌, ◌≡◌, Bool, true, cond, List, eqb, length, get_or, Option, Some, None}

-- `r` is the value of the hexadecimal digit x, 0 to 9, a to f or A to F, if x is one.
pub record HexDigit (x : ℕ) (r : Option ℕ) : Type 0 where
  pub decimal : 48 ≤ x → x ≤ 57 → r ≡ Some (x - 48)
  pub lower : 97 ≤ x → x ≤ 102 → r ≡ Some (x - 87)
  pub upper : 65 ≤ x → x ≤ 70 → r ≡ Some (x - 55)
  pub below : x < 48 → r ≡ None
  pub between : 57 < x → x < 65 → r ≡ None
  pub amid : 70 < x → x < 97 → r ≡ None
  pub above : 102 < x → r ≡ None

-- `r` is the value of the two hexadecimal digits x and y, if both are such.
pub record HexPair (x y : ℕ) (r : Option ℕ) : Type 0 where
  pub both : (a b : ℕ) → HexDigit x (Some a) → HexDigit y (Some b) → r ≡ Some (16 * a + b)
  pub high : HexDigit x None → r ≡ None
  pub low : HexDigit y None → r ≡ None

-- `r` is the value with one more decimal digit, if neither the value nor that is past 32 bits.
pub record Longer (value : Option ℕ) (digit : ℕ) (r : Option ℕ) : Type 0 where
  pub fits : (v : ℕ) → value ≡ Some v → 10 * v + digit ≤ 4294967295 → r ≡ Some (10 * v + digit)
  pub large : (v : ℕ) → value ≡ Some v → 4294967295 < 10 * v + digit → r ≡ None
  pub past : value ≡ None → r ≡ None

-- x is a blank or a tab.
abbrev pub blank : ℕ → Bool
blank x = cond (eqb x 32) true (eqb x 9)

-- The first `r` elements of s, and no more, are all blanks, or all other bytes.
pub record TextRun (s : List ℕ) (blanks : Bool) (r : ℕ) : Type 0 where
  pub within : r ≤ length s
  pub same : (k : ℕ) → k < r → blank (get_or s k 0) ≡ blanks
  pub other : r < length s → blank (get_or s r 0) ≡ blanks → ⊥

-- `r` is the place of the first x among the elements of s from `start` on and before `stop`, or `stop` where none is.
pub record FirstAt (s : List ℕ) (start stop x r : ℕ) : Type 0 where
  pub behind : start ≤ r
  pub within : r ≤ stop
  pub others : (k : ℕ) → start ≤ k → k < r → get_or s k 0 ≡ x → ⊥
  pub found : r < stop → get_or s r 0 ≡ x
