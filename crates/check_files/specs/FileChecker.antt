-- The whole checker, from a file's bytes to the environments of its services or the first refusal. 01: "The checker tries 2 to 13"; 02: 23 is
-- "tried after 13".
use Rattle.std.specs.Prelude.{List, ℕ}
use Rattle.network.specs.Form.{form_of}
use Rattle.network.specs.Decode.{network_of}
use Rattle.check_typing.specs.Result.{Checked, refused}
use Rattle.check_typing.specs.NetworkRules.{Environments, DerivesNetwork}
use Rattle.check_typing.specs.NetworkChecker.{check_network}
use Rattle.std.specs.Prelude.{Result, Ok, Err}
use Rattle.refusal.specs.declared.Refusal.{Refusal}

-- Refusals 2 to 5, then what follows.
abbrev pub after_form : {A : Type 0} → Result (Unit {0}) Refusal → Checked A → Checked A
after_form (Ok tt) c = c
after_form (Err why) c = refused why

-- The environments of every service, or the first refusal of 2 to 13 and 23.
unfoldable pub check_file : List ℕ → Checked (List Environments)
check_file s =
    after_form (form_of s)  -- 2 to 5
    (check_network (network_of s))  -- 6 to 13, 23
