-- The rule for outputs, by services and inputs: in the network of a file that 2 to 5 let pass, an output to a location in the file meets an
-- input and agrees with it exactly if each service at that location has an input of the same id and kind with which the output agrees.
use Rattle.std.specs.Prelude.{◌≡◌, refl, ℕ, true, T}
use Rattle.std.proofs.Common.{sym, ap, subst, ◌∙◌}
use Rattle.basics.specs.TestLaws.{T_of, of_t}
use Rattle.network_syntax.specs.Syntax.{input, Operation, Optional, none, some, Service, Network}
use Rattle.network_syntax.specs.Rows.{entry}
use Rattle.network_syntax.specs.Meets.{location_of, some_at, in_file, met_input}
use Rattle.network.specs.Shapes.{NetworkShape}
use Rattle.network.proofs.MeetsLaws.{Met, of-met, met-input, met-entry, met-only, in-file, at-location}
use Rattle.check_typing.specs.NetworkRules.{Agrees, AgreesWith}

-- The service q has an input of the same id and kind as the output o, with which o agrees.
pub record AgreesAt (N : Network) (o : Operation) (q : ℕ) : Type 0 where
  pub row : ℕ
  pub incoming : Operation
  pub there : entry row N.operations ≡ some incoming
  pub of_service : incoming.service ≡ q
  pub is_input : incoming.direction ≡ input
  pub same_id : incoming.id ≡ o.id
  pub same_way : incoming.two_way ≡ o.two_way
  pub agrees : Agrees o incoming

module _ (f : ℕ → Operation) (N : Network) (h : NetworkShape f N) (o : Operation) where
  -- The input that is met is one of the service at the output's location.
  met_at : (m : Optional Operation) → met_input N o ≡ m → AgreesWith o m → (q : ℕ) (v : Service) → entry q N.services ≡ some v → v.location ≡ o.location
      → AgreesAt N o q
  met_at none e a q v g l = absurd a
  met_at (some i) e a q v g l =
      let k = met-entry N o i e in
      let m = met-input N o i e in
      let u = h.owned k.0 i k.1 in
      let w : u.0.location ≡ o.location = sym (ap location_of u.1) ∙ m.there in
      record {
        row = k.0;
        incoming = i;
        there = k.1;
        of_service = h.locations_once i.service q u.0 v u.1 g (w ∙ sym l);
        is_input = m.incoming;
        same_id = m.same_id;
        same_way = m.same_way;
        agrees = a;
      }

  pub rule-services : (T (in_file N o.location) → AgreesWith o (met_input N o)) → (q : ℕ) (v : Service) → entry q N.services ≡ some v
      → v.location ≡ o.location → AgreesAt N o q
  rule-services r q v g l =
      let t : some_at N.services o.location ≡ true = subst (λ (x : ℕ). some_at N.services x ≡ true) l (at-location N.services q v g) in
      met_at (met_input N o) refl (r (T_of t)) q v g l

  pub services-rule : ((q : ℕ) (v : Service) → entry q N.services ≡ some v → v.location ≡ o.location → AgreesAt N o q) → T (in_file N o.location)
      → AgreesWith o (met_input N o)
  services-rule r t =
      let v = in-file N.services o.location (of_t (in_file N o.location) t) in
      let a = r v.0 v.1 v.2 v.3 in
      let i = a.incoming in
      let m : Met N o i =
      record {
        incoming = a.is_input;
        there = ap (λ (j : ℕ). location_of (entry j N.services)) a.of_service ∙ (ap location_of v.2 ∙ v.3);
        same_id = a.same_id;
        same_way = a.same_way;
      } in
      subst (AgreesWith o) (sym (met-only f N h o i a.row a.there (of-met N o i m))) a.agrees
