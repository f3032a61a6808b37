-- The bytes that pass a test, from the first on, as the code's chains count them.
use Rattle.std.specs.Prelude.{◌≡◌, Bool, List, [], ◌∷◌, ℕ, suc, ◌+◌}
use Rattle.std.specs.List.{prefix_len}
use Rattle.std.proofs.Common.{refl, arith, true, false, cond}
use Rattle.basics.specs.Choice.{pick}
use Rattle.type_words.specs.Told.{run_of}

pub run-prefix : (test : ℕ → Bool) (s : List ℕ) → prefix_len test s ≡ run_of test s
unfolding run_of
run-prefix test [] = refl
run-prefix test (b ∷ s) = by (test b) (run-prefix test s)
  where
    by : (t : Bool) → prefix_len test s ≡ run_of test s → cond t (1 + prefix_len test s) 0 ≡ pick t (suc (run_of test s)) 0
    by true e = omega (arith, e)
    by false e = refl
