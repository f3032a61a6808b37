-- Laws of keys: the checker passes a list of operations exactly if the request type of each input of a keyed service has the key, and else refuses
-- the first that has not.
use Rattle.std.specs.Prelude.{◌≡◌, List, [], ◌∷◌, Bool, ℕ, zero, suc, ◌<◌}
use Rattle.std.proofs.Math.Path.{refl}
use Rattle.std.proofs.Common.{sym, ap, subst, ◌∙◌, arith, eqb→eq}
use Rattle.std.proofs.Math.Bool.{true, false}
use Rattle.std.proofs.Math.Dec.{T}
use Rattle.basics.specs.TestLaws.{T_of, of_t, not-T-false, clash}
use Rattle.tree_forest.specs.Forest.{tree, Lookup, absent, present, find}
use Rattle.refusal.specs.declared.Refusal.TheVariants.{UnfitKey}
use Rattle.scalar.specs.Basic.{int}
use Rattle.network_syntax.specs.Syntax.{Mark, mark, Types, MessageType, Direction, input, output, Operation, some, Network}
use Rattle.network_syntax.specs.Rows.{entry}
use Rattle.network_syntax.specs.Keys.{key_id, is_keyed}
use Rattle.check_subtyping.specs.Subtype.{implies}
use Rattle.check_subtyping.proofs.SubtypeLaws.{implies-elim, implies-intro}
use Rattle.check_typing.specs.Result.{yields, demand, refused, passed, with_row, next}
use Rattle.check_typing.proofs.ResultLaws.{require-yields, require-holds, at_row-passed, next-passed, next-holds}
use Rattle.check_typing.specs.Rules.{same_direction}
use Rattle.check_typing.specs.NetworkRules.{HasKey, InputsKeyed, UnfitInput}
use Rattle.check_typing.specs.NetworkChecker.{is_mandatory_int, has_key, input_keyed, check_keys}

-- ---- one input

is-mandatory-int : (x : Lookup Mark) → T (is_mandatory_int x) → (c : Types) × (x ≡ present (tree (mark true int) c))
is-mandatory-int absent h = absurd h
is-mandatory-int (present (tree (mark true b) k)) h = (k, ap (λ (z : ℕ). present (tree (mark true z) k)) (eqb→eq b int h))
is-mandatory-int (present (tree (mark false b) k)) h = absurd h

has-sound : (k : ℕ) (t : MessageType) → T (has_key k t) → HasKey k t
has-sound k (tree a l) h = is-mandatory-int (find k l) h

has-complete : (k : ℕ) (t : MessageType) → HasKey k t → T (has_key k t)
has-complete k (tree a l) h = subst (λ (x : Lookup Mark). T (is_mandatory_int x)) (sym h.1) tt

is-input : (d : Direction) → T (same_direction d input) → d ≡ input
is-input input t = refl
is-input output t = absurd t

input-is : (d : Direction) → d ≡ input → T (same_direction d input)
input-is d e = subst (λ (z : Direction). T (same_direction z input)) (sym e) tt

module _ (N : Network) (o : Operation) where
  needed : Bool
  needed = implies (is_keyed N o.service) (has_key (key_id N o.service) o.request)

  keyed-sound : T (input_keyed N o) → o.direction ≡ input → T (is_keyed N o.service) → HasKey (key_id N o.service) o.request
  unfolding needed
  keyed-sound h e t =
      has-sound (key_id N o.service) o.request (implies-elim (is_keyed N o.service) (has_key (key_id N o.service) o.request)
      (implies-elim (same_direction o.direction input) needed h (input-is o.direction e)) t)

  keyed-complete : (o.direction ≡ input → T (is_keyed N o.service) → HasKey (key_id N o.service) o.request) → T (input_keyed N o)
  unfolding needed
  keyed-complete h =
      implies-intro (same_direction o.direction input) needed
      (λ d. implies-intro (is_keyed N o.service) (has_key (key_id N o.service) o.request)
      (λ t. has-complete (key_id N o.service) o.request (h (is-input o.direction d) t)))

  unfit-told : UnfitInput N o → input_keyed N o ≡ false
  unfit-told u = not-T-false (input_keyed N o) (λ h. u.lacks (keyed-sound h u.incoming u.keyed))

  fit-told : (UnfitInput N o → ⊥) → input_keyed N o ≡ true
  unfolding needed
  fit-told f = by (input_keyed N o) refl
    where
      denied : (a b : Bool) → implies a b ≡ false → T a × (b ≡ false)
      denied true b e = (tt, e)
      denied false b e = absurd (clash refl e)

      by : (x : Bool) → input_keyed N o ≡ x → x ≡ true
      by true e = refl
      by false e =
          let d = denied (same_direction o.direction input) needed e in
          let k = denied (is_keyed N o.service) (has_key (key_id N o.service) o.request) d.1 in
          absurd (f (record {
            incoming = is-input o.direction d.0;
            keyed = k.0;
            lacks = λ h. clash (of_t (has_key (key_id N o.service) o.request) (has-complete (key_id N o.service) o.request h)) k.1;
          }))

-- ---- a list of operations

pub keys-sound : (N : Network) (l : List Operation) (u : Unit {0}) → check_keys N l ≡ passed u → InputsKeyed N l
unfolding check_keys InputsKeyed
keys-sound N [] u h = tt
keys-sound N (o ∷ l) u h =
    let v = next-passed (with_row o.row (demand (input_keyed N o) UnfitKey (yields (tt {0})))) (λ u. check_keys N l) u h in
    let w = require-yields (input_keyed N o) UnfitKey (yields (tt {0})) (at_row-passed o.row _ v.0 v.1) in
    (keyed-sound N o w.0, keys-sound N l u v.2)

keys-more : (N : Network) (o : Operation) (l : List Operation) → input_keyed N o ≡ true → check_keys N (o ∷ l) ≡ check_keys N l
unfolding check_keys
keys-more N o l e =
    next-holds (with_row o.row (demand (input_keyed N o) UnfitKey (yields (tt {0})))) (λ u. check_keys N l) (tt {0})
    (ap (with_row o.row) (require-holds (input_keyed N o) UnfitKey (yields (tt {0})) (T_of e)))

pub keys-complete : (N : Network) (l : List Operation) → InputsKeyed N l → check_keys N l ≡ passed (tt {0})
unfolding check_keys InputsKeyed
keys-complete N [] h = refl
keys-complete N (o ∷ l) h = keys-more N o l (of_t (input_keyed N o) (keyed-complete N o h.0)) ∙ keys-complete N l h.1

-- The first unfit input is refused, with its row.
pub keys-refused : (N : Network) (l : List Operation) (i : ℕ) (o : Operation) → entry i l ≡ some o → UnfitInput N o
    → ((j : ℕ) (p : Operation) → j < i → entry j l ≡ some p → UnfitInput N p → ⊥) → check_keys N l ≡ refused (UnfitKey o.row)
unfolding check_keys entry next
keys-refused N [] i o e u first = absurd (let z : ◌≡◌ {A = ℕ} 0 1 = cc in omega arith)
keys-refused N (p ∷ l) zero o e u first =
    let same : p ≡ o = cc in
    ap (λ (q : Operation). check_keys N (q ∷ l)) same
    ∙ ap (λ (t : Bool). next (with_row o.row (demand t UnfitKey (yields (tt {0})))) (λ v. check_keys N l)) (unfit-told N o u)
keys-refused N (p ∷ l) (suc i) o e u first =
    keys-more N p l (fit-told N p (first 0 p (omega arith) refl)) ∙ keys-refused N l i o e u (λ j q m. first (suc j) q (omega arith))

-- The rule for one input of the list.
pub keyed-input : (N : Network) (l : List Operation) → InputsKeyed N l → (i : ℕ) (o : Operation) → entry i l ≡ some o → o.direction ≡ input
    → T (is_keyed N o.service) → HasKey (key_id N o.service) o.request
unfolding InputsKeyed entry
keyed-input N [] h i o e = absurd (let z : ◌≡◌ {A = ℕ} 0 1 = cc in omega arith)
keyed-input N (p ∷ l) h zero o e =
    let same : p ≡ o = cc in
    subst (λ (q : Operation). q.direction ≡ input → T (is_keyed N q.service) → HasKey (key_id N q.service) q.request) same h.0
keyed-input N (p ∷ l) h (suc i) o e = keyed-input N l h.1 i o e
