-- Every call of the stepper keeps what property 3 promises.
use Rattle.std.specs.Prelude.{◌≡◌, refl, List, [], ◌∷◌, ◌++◌, ℕ}
use Rattle.std.proofs.Common.{sym, ap, subst, ◌∙◌}
use Rattle.refusal.specs.Refusal.{outcome_number}
use Rattle.network.specs.Layout.{behaviour_count}
use Rattle.network.specs.Decode.{network_of}
use Rattle.state.specs.Session.{State}
use Rattle.state.specs.Bytes.{state_bytes}
use Rattle.state.specs.Shape.{Stands}
use Rattle.state.proofs.ShapeLaws.{stands-unique}
use Rattle.move_rules.specs.Moves.{Move}
use Rattle.move_rules.specs.Step.{step}
use Rattle.move_rules.specs.Fresh.{fresh_bytes}
use Rattle.soundness.specs.Property3.{Ready, Causes22, Turn, Given, AllGiven, after, number_of_next, outgoing_of_next}
use Rattle.soundness.specs.Texts.{TextOut}
use Rattle.soundness.proofs.Property3Laws.{property3}
use Rattle.soundness.specs.Calls.{SoundCall}

-- One move more at the end of a list.
after_last : (file s : List ℕ) (l : List Turn) (t : Turn) → (step file (after file s l) t.out t.move t.bytes).state ≡ after file s (l ++ (t ∷ []))
unfolding after
after_last file s [] t = refl
after_last file s (u ∷ l) t = after_last file (step file s u.out u.move u.bytes).state l t

given-last : (l : List Turn) (t : Turn) → AllGiven l → Given t → AllGiven (l ++ (t ∷ []))
unfolding AllGiven
given-last [] t g h = (h, tt)
given-last (u ∷ l) t g h = (g.0, given-last l t g.1 h)

pub call-sound : (file s : List ℕ) (t : Turn) → Given t
    → SoundCall file s t (outcome_number (step file s t.out t.move t.bytes).outcome) (step file s t.out t.move t.bytes).state
call-sound file s t g l f =
    let P = property3 file f.accepted l f.given in
    let Q = property3 file f.accepted (l ++ (t ∷ [])) (given-last l t f.given g) in
    let at : s ≡ after file (fresh_bytes file) l = f.bytes in
    let same = at ∙ P.stands.bytes in
    let one : (G : State) → Stands (network_of file) (behaviour_count file) s G → G ≡ P.state =
    λ G h. stands-unique h (record { shape = P.stands.shape; bytes = same }) in
    let left : (step file s t.out t.move t.bytes).state ≡ after file (fresh_bytes file) (l ++ (t ∷ [])) =
    ap (λ (b : List ℕ). (step file b t.out t.move t.bytes).state) at ∙ after_last file (fresh_bytes file) l t in
    record {
      never18 = λ e. P.holds.never18 t g (ap (λ (b : List ℕ). number_of_next file b t) (sym same) ∙ e);
      never19 = λ k e. P.holds.never19 t g k (ap (λ (b : List ℕ). number_of_next file b t) (sym same) ∙ e);
      ready_moves = λ G h q n r e S w k.
          ap (λ (b : List ℕ). number_of_next file b t) same
          ∙ (ap (λ (m : Move). number_of_next file (state_bytes P.state) (record { move = m; bytes = t.bytes; out = t.out })) e
          ∙ P.holds.ready_moves q n r S w t.bytes t.out (subst (λ (z : State). Ready (network_of file) z q n r S w) (one G h) k));
      only22 = λ G h e. subst (λ (z : State). Causes22 (network_of file) z t.move) (sym (one G h))
          (P.holds.only22 t g (ap (λ (b : List ℕ). number_of_next file b t) (sym same) ∙ e));
      writes_text = subst (λ (b : List ℕ). TextOut (outgoing_of_next file b t)) (sym same) (P.holds.writes_text t g);
      leaves = left;
      state = Q.state;
      stands = record { shape = Q.stands.shape; bytes = left ∙ Q.stands.bytes };
      well_typed = Q.holds.well_typed;
      texts = Q.holds.texts;
      one_key = Q.holds.one_key;
      keyed_queues = Q.holds.keyed_queues;
    }
