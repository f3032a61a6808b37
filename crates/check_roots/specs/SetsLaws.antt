-- Where no row is a parallel, any bytes tell the sides of all parallels apart.
use Rattle.std.specs.Prelude.{◌≡◌, Bool, false, List, ℕ}
use Rattle.check_roots.specs.Sets.{AnyParallel, Separates}

pub no-parallel : (file sets : List ℕ) {x : Bool} → AnyParallel file x → x ≡ false → Separates file sets
no-parallel file sets h e = record { tells = λ w r a b x l p y. absurd (h.none e r a b l p) }
