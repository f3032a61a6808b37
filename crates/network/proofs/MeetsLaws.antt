-- The input that an output meets: what is known of it, and that it is the only one.
use Rattle.std.specs.Prelude.{ℕ, zero, suc, ◌≡◌, refl, List, [], ◌∷◌, Bool, true, false, ◌&&◌, ◌||◌, eqb}
use Rattle.std.proofs.Common.{sym, ◌∙◌, ap, subst, ⊎_elim, arith}
use Rattle.basics.specs.Choice.{pick}
use Rattle.basics.specs.TestLaws.{and-of, clash, eq_of, of_eq, or-of}
use Rattle.network_syntax.specs.Syntax.{Direction, input, output, Operation, Optional, none, some, Service, Network}
use Rattle.network_syntax.specs.Meets.{location_of, some_at, in_file, same_kind, meets, first_of, met_input}
use Rattle.network_syntax.specs.Rows.{entry, is_input_operation}
use Rattle.network.specs.Shapes.{NetworkShape}

-- What the test says: an input, at the location, of the same id and kind.
pub record Met (n : Network) (o i : Operation) : Type 0 where
  pub incoming : i.direction ≡ input
  pub there : location_of (entry i.service n.services) ≡ o.location
  pub same_id : i.id ≡ o.id
  pub same_way : i.two_way ≡ o.two_way

input_of : (d : Direction) → is_input_operation d ≡ true → d ≡ input
input_of input e = refl
input_of output e = let z : ◌≡◌ {A = ℕ} 0 1 = cc in absurd (omega arith)

kind-of : (a b : Bool) → same_kind a b ≡ true → a ≡ b
kind-of true true e = refl
kind-of true false e = let z : ◌≡◌ {A = ℕ} 0 1 = cc in absurd (omega arith)
kind-of false true e = let z : ◌≡◌ {A = ℕ} 0 1 = cc in absurd (omega arith)
kind-of false false e = refl

own-kind : (a : Bool) → same_kind a a ≡ true
own-kind true = refl
own-kind false = refl

pub met_of : (n : Network) (o i : Operation) → meets n o i ≡ true → Met n o i
unfolding meets
met_of n o i e =
    let a = and-of (is_input_operation i.direction && eqb (location_of (entry i.service n.services)) o.location)
    (eqb i.id o.id && same_kind i.two_way o.two_way) e in
    let b = and-of (is_input_operation i.direction) (eqb (location_of (entry i.service n.services)) o.location) a.0 in
    let c = and-of (eqb i.id o.id) (same_kind i.two_way o.two_way) a.1 in
    record {
      incoming = input_of i.direction b.0;
      there = eq_of (location_of (entry i.service n.services)) o.location b.1;
      same_id = eq_of i.id o.id c.0;
      same_way = kind-of i.two_way o.two_way c.1;
    }

-- What is all that passes the test.
pub of-met : (n : Network) (o i : Operation) → Met n o i → meets n o i ≡ true
unfolding meets
of-met n o i m =
    let a = ap is_input_operation m.incoming in
    let b = of_eq (location_of (entry i.service n.services)) o.location m.there in
    let c = of_eq i.id o.id m.same_id in
    let d = ap (λ (x : Bool). same_kind x o.two_way) m.same_way ∙ own-kind o.two_way in
    rw (a, b, c, d) refl

-- ---- the first that passes

record First (test : Operation → Bool) (l : List Operation) (i : Operation) : Type 0 where
  number : ℕ
  there : entry number l ≡ some i
  passes : test i ≡ true

first_passes : (test : Operation → Bool) (l : List Operation) (i : Operation) → first_of test l ≡ some i → First test l i
unfolding first_of entry
first_passes test [] i e = let z : ◌≡◌ {A = ℕ} 0 1 = cc in absurd (omega arith)
first_passes test (x ∷ xs) i e = go (test x) refl e (λ f. first_passes test xs i f)
  where
    go : (t : Bool) → test x ≡ t → pick t (some x) (first_of test xs) ≡ some i → (first_of test xs ≡ some i → First test xs i) → First test (x ∷ xs) i
    go true p q ih = let z : x ≡ i = cc in record { number = zero; there = ap some z; passes = subst (λ (y : Operation). test y ≡ true) z p }
    go false p q ih = let h = ih q in record { number = suc h.number; there = h.there; passes = h.passes }

first-none : (test : Operation → Bool) (l : List Operation) → first_of test l ≡ none → (k : ℕ) (i : Operation) → entry k l ≡ some i → test i ≡ false
unfolding first_of entry
first-none test [] e k i f = let z : ◌≡◌ {A = ℕ} 0 1 = cc in absurd (omega arith)
first-none test (x ∷ xs) e k i f = go (test x) refl e k f (λ g m. first-none test xs g m i)
  where
    go : (t : Bool) → test x ≡ t → pick t (some x) (first_of test xs) ≡ none → (k : ℕ) → entry k (x ∷ xs) ≡ some i
        → (first_of test xs ≡ none → (m : ℕ) → entry m xs ≡ some i → test i ≡ false) → test i ≡ false
    go true p q k g ih = let z : ◌≡◌ {A = ℕ} 0 1 = cc in absurd (omega arith)
    go false p q zero g ih = let z : x ≡ i = cc in subst (λ (y : Operation). test y ≡ false) z p
    go false p q (suc m) g ih = ih q m g

-- The input met is an operation of the network that passes the test.
pub met-input : (n : Network) (o i : Operation) → met_input n o ≡ some i → Met n o i
unfolding met_input
met-input n o i e = met_of n o i (first_passes (meets n o) n.operations i e).passes

pub met-entry : (n : Network) (o i : Operation) → met_input n o ≡ some i → (k : ℕ) × (entry k n.operations ≡ some i)
unfolding met_input
met-entry n o i e = let h = first_passes (meets n o) n.operations i e in (h.number, h.there)

-- Where no input is met, no operation of the network passes the test.
pub met-none : (n : Network) (o : Operation) → met_input n o ≡ none → (k : ℕ) (i : Operation) → entry k n.operations ≡ some i → meets n o i ≡ false
unfolding met_input
met-none n o e k i f = first-none (meets n o) n.operations e k i f

-- Two inputs that an output meets are one row.
pub met-once : (f : ℕ → Operation) (n : Network) → NetworkShape f n → (o x y : Operation) (j k : ℕ) → entry j n.operations ≡ some x
    → entry k n.operations ≡ some y
    → Met n o x → Met n o y → j ≡ k
met-once f n h o x y j k ex ey mx my =
    let a = h.owned j x ex in
    let b = h.owned k y ey in
    let la : a.0.location ≡ o.location = sym (ap location_of a.1) ∙ mx.there in
    let lb : b.0.location ≡ o.location = sym (ap location_of b.1) ∙ my.there in
    h.inputs_once j k x y ex ey mx.incoming my.incoming
    (h.locations_once x.service y.service a.0 b.0 a.1 b.1 (la ∙ sym lb))
    (mx.same_id ∙ sym my.same_id)

-- An input that passes the test is the one that is met.
pub met-only : (f : ℕ → Operation) (n : Network) → NetworkShape f n → (o i : Operation) (k : ℕ) → entry k n.operations ≡ some i
    → meets n o i ≡ true → met_input n o ≡ some i
met-only f n h o i k e m = go (met_input n o) refl
  where
    go : (z : Optional Operation) → met_input n o ≡ z → met_input n o ≡ some i
    go none p = absurd (clash m (met-none n o p k i e))
    go (some x) p =
        let w = met-entry n o x p in
        let j = met-once f n h o x i w.0 k w.1 e (met-input n o x p) (met_of n o i m) in
        let q : some x ≡ some i = sym w.1 ∙ (ap (λ (r : ℕ). entry r n.operations) j ∙ e) in
        p ∙ q

-- ---- locations in the file

pub in-file : (vs : List Service) (l : ℕ) → some_at vs l ≡ true → (q : ℕ) × (v : Service) × (entry q vs ≡ some v) × (v.location ≡ l)
unfolding some_at entry
in-file [] l e = let z : ◌≡◌ {A = ℕ} 0 1 = cc in absurd (omega arith)
in-file (v ∷ vs) l e =
    ⊎_elim
    (λ h. (zero, v, refl, eq_of v.location l h))
    (λ h. let w = in-file vs l h in (suc w.0, w.1, w.2, w.3))
    (or-of (eqb v.location l) (some_at vs l) e)

pub at-location : (vs : List Service) (q : ℕ) (v : Service) → entry q vs ≡ some v → some_at vs v.location ≡ true
unfolding some_at entry
at-location [] q v e = let z : ◌≡◌ {A = ℕ} 0 1 = cc in absurd (omega arith)
at-location (u ∷ us) zero v e = let z : u ≡ v = cc in rw (of_eq u.location v.location (ap (λ (x : Service). x.location) z)) refl
at-location (u ∷ us) (suc q) v e = go (eqb u.location v.location) (at-location us q v e)
  where
    go : (t : Bool) → some_at us v.location ≡ true → t || some_at us v.location ≡ true
    go true h = refl
    go false h = h

-- An output that meets an input is to a location in the file.
pub met-in-file : (f : ℕ → Operation) (n : Network) → NetworkShape f n → (o i : Operation) → met_input n o ≡ some i → in_file n o.location ≡ true
met-in-file f n h o i e =
    let w = met-entry n o i e in
    let v = h.owned w.0 i w.1 in
    let l : v.0.location ≡ o.location = sym (ap location_of v.1) ∙ (met-input n o i e).there in
    subst (λ (x : ℕ). some_at n.services x ≡ true) l (at-location n.services i.service v.0 v.1)
