-- Keyed services. 02: "The last field of a service row becomes a key id, 0 for none."
use Rattle.std.specs.Prelude.{Bool, not, ◌&&◌, ℕ, eqb, leb}
use Rattle.network_syntax.specs.Rows.{entry}
use Rattle.network_syntax.specs.Syntax.{Optional, none, some, Service, Network}

abbrev pub key_id_of : Optional Service → ℕ
key_id_of none = 0
key_id_of (some v) = v.key

-- The key id of the service of row q.
abbrev pub key_id : Network → ℕ → ℕ
key_id N q = key_id_of (entry q N.services)

abbrev pub is_keyed : Network → ℕ → Bool
is_keyed N q = not (eqb (key_id N q) 0)

-- "the live session 1 to 3 with its key": in a keyed service these sessions hold keys, and session 0 holds none.
abbrev pub holds_key : Network → ℕ → ℕ → Bool
holds_key N q n = is_keyed N q && (leb 1 n && leb n 3)
