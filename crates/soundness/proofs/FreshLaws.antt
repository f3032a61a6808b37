-- Fresh state of an accepted file has its shape and satisfies the invariant. 01, Moves: "Fresh state: written for accepted files; clients
-- live in session 0, all else free."
use Rattle.std.specs.Prelude.{◌≡◌, ℕ, Bool, List, eqb}
use Rattle.std.proofs.Math.Path.{refl, subst}
use Rattle.std.proofs.Common.{sym, arith, ne_eqb}
use Rattle.basics.specs.Choice.{pick}
use Rattle.std.proofs.Math.Bool.{true, false}
use Rattle.std.proofs.Math.Decide.{ℕ_discrete}
use Rattle.network_syntax.specs.Syntax.{Optional, none, some, Network, Behaviour}
use Rattle.network.specs.Layout.{behaviour_count}
use Rattle.network.specs.Decode.{network_of}
use Rattle.check_typing.specs.Result.{passed}
use Rattle.check_typing.specs.NetworkRules.{Environments}
use Rattle.check_files.specs.FileChecker.{check_file}
use Rattle.tree.specs.Encode.{Octets}
use Rattle.state.specs.Session.{Session, free, live}
use Rattle.state.specs.Shape.{HasShape, service_of_row, client_of, fresh_slot, fresh_state}
use Rattle.state.proofs.ShapeLaws.{fresh-shape}
use Rattle.soundness.specs.Accepted.{Accepted}
use Rattle.soundness.proofs.AcceptedLaws.{accepted}
use Rattle.soundness.specs.Invariant.{SessionSound, KeySound, Sound}
use Rattle.soundness.specs.KeyedQueues.{AllOfKey}
use Rattle.soundness.proofs.StartLaws.{client-sound}
use Rattle.state.proofs.KeyLaws.{not_live}
use Rattle.soundness.proofs.ResultLaws.{live-inj}

module _ (N : Network) (rows : ℕ) (acc : Accepted N rows) where
  -- The client of the service q, if it has one.
  client-slot : (q : ℕ) (S : Session) (c : Optional Behaviour) → client_of (service_of_row N.services q) ≡ c → fresh_slot c ≡ live S → SessionSound N rows q 0 S
  client-slot q S none e h = absurd (not_live h)
  client-slot q S (some B) e h = subst (SessionSound N rows q 0) (live-inj h) (client-sound N rows acc q B e)

  slot-sound : (q n : ℕ) (S : Session) → Dec (n ≡ 0) → fresh_state N q n ≡ live S → SessionSound N rows q n S
  slot-sound q n S (yes z) h =
      subst (λ (m : ℕ). SessionSound N rows q m S) (sym z)
      (client-slot q S (client_of (service_of_row N.services q)) refl (rw z at h))
  slot-sound q n S (no z) h = let f : eqb n 0 ≡ false = ne_eqb n 0 z in absurd (not_live (rw f at h))

  -- Every session of fresh state is sound.
  pub fresh-sound : Sound N rows (fresh_state N)
  unfolding AllOfKey
  fresh-sound = record {
    sessions = λ q n S h. slot-sound q n S (ℕ_discrete n 0) h;
    keys = λ q n S h. slot-key q n S (eqb n 0) (client_of (service_of_row N.services q)) h;
    keys_apart = (fresh-shape N rows acc.few_services).keys_apart;
  }
    where
      slot-key : (q n : ℕ) (S : Session) (t : Bool) (c : Optional Behaviour) → pick t (fresh_slot c) free ≡ live S → KeySound N q n S.key S.queue
      slot-key q n S true none h = absurd (not_live h)
      slot-key q n S true (some B) h =
          subst (λ (z : Session). KeySound N q n z.key z.queue) (live-inj h)
          (record { fits = omega arith; none = λ w. refl; queue = record { of_key = λ w. tt; first = λ w e. refl } })
      slot-key q n S false c h = absurd (not_live h)

-- Of every accepted file: fresh state has the file's shape, and the invariant of property 3 holds there.
pub fresh-of-file : (s : List ℕ) (Es : List Environments) → Octets s → check_file s ≡ passed Es
    → HasShape (network_of s) (behaviour_count s) (fresh_state (network_of s)) × Sound (network_of s) (behaviour_count s) (fresh_state (network_of s))
fresh-of-file s Es b e =
    let a = accepted s Es b e in
    (fresh-shape (network_of s) (behaviour_count s) a.few_services, fresh-sound (network_of s) (behaviour_count s) a)
