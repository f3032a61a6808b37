-- Number and place of the checker's answer; start and length of the reader's; what fresh and a move leave, in numbers.
use mathlib.Core.Path.{◌≡◌, sym, ap, subst, ◌∙◌}
use mathlib.Core.List.{List}
use Prim.Native.Nat.{ℕ}
use Rattle.refusal.specs.Refusal.{number_in, place_in}
use Rattle.check_typing.specs.Result.{Checked, refused, passed, refusal_number, refusal_place}
use Rattle.check_typing.specs.NetworkRules.{Environments}
use Rattle.check_network.specs.declared.Answer.{Answer}
use Rattle.check_network.specs.Answer.{check_answer, IfPassed, ShapedAll}
use Rattle.tree_part.specs.declared.Span.{Span}
use Rattle.refusal.specs.declared.Outcome.{Outcome}
use Rattle.refusal.specs.Refusal.{outcome_number, outcome_place}
use Rattle.move_rules.specs.Fresh.{Freshened}
use Rattle.move_rules.specs.Moves.{Move}
use Rattle.move_rules.specs.Step.{step}
use Rattle.soundness.specs.Calls.{SoundCall}
use Rattle.host.specs.Reports.{Says, RunsCall, WritesOut}

pub answer-numbers : (c : Checked (List Environments)) {x : Answer} {n p : ℕ} → (x ≡ check_answer c) × IfPassed ShapedAll c
    → n ≡ number_in x.verdict → p ≡ place_in x.verdict → (n ≡ refusal_number c) × (p ≡ refusal_place c)
unfolding check_answer
answer-numbers c {x} {n} {p} k h l = by c k.0
  where
    by : (c : Checked (List Environments)) → x ≡ check_answer c → (n ≡ refusal_number c) × (p ≡ refusal_place c)
    by (refused y) e = (h ∙ ap (λ (z : Answer). number_in z.verdict) e, l ∙ ap (λ (z : Answer). place_in z.verdict) e)
    by (passed Es) e = (h ∙ ap (λ (z : Answer). number_in z.verdict) e, l ∙ ap (λ (z : Answer). place_in z.verdict) e)

pub part-numbers : {s t : Span} → s ≡ t → (s.len ≡ t.len) × (s.start ≡ t.start)
part-numbers e = (ap (λ (z : Span). z.len) e, ap (λ (z : Span). z.start) e)

pub fresh-numbers : {F : Freshened} {o : Outcome} {s : List ℕ} {n p : ℕ} → (o ≡ F.outcome) × (s ≡ F.state) → n ≡ outcome_number o → p ≡ outcome_place o
    → Says F.outcome n p × (s ≡ F.state)
fresh-numbers e k l = ((k ∙ ap (λ (x : Outcome). outcome_number x) e.0, l ∙ ap (λ (x : Outcome). outcome_place x) e.0), e.1)

pub runs : {file s out : List ℕ} {m : Move} {outside : List ℕ} {o : Outcome} {s' out' : List ℕ} {n b p : ℕ}
    → (o ≡ (step file s out m outside).outcome) × ((s' ≡ (step file s out m outside).state) × ((out' ≡ (step file s out m outside).out)
    × SoundCall file s (record { move = m; bytes = outside; out = out }) (outcome_number o) s'))
    → Says o n p × (b ≡ o.bytes) → RunsCall file s out m outside n b p s' out'
runs {file} {s} {out} {m} {outside} {o} {s'} e k = (
  (
    (k.0.0 ∙ ap (λ (x : Outcome). outcome_number x) e.0, k.0.1 ∙ ap (λ (x : Outcome). outcome_place x) e.0),
    k.1 ∙ ap (λ (x : Outcome). x.bytes) e.0,
    e.1.0,
    e.1.1.0,
  ),
  subst (λ (x : ℕ). SoundCall file s (record { move = m; bytes = outside; out = out }) x s') (sym k.0.0) e.1.1.1,
)

pub out-told : {left : Outcome} {o : Outcome} {out out' : List ℕ} {n b p : ℕ} → (o ≡ left) × (out ≡ out') → Says o n p × (b ≡ o.bytes)
    → WritesOut left out' n b p out
out-told e k = (
  (k.0.0 ∙ ap (λ (x : Outcome). outcome_number x) e.0, k.0.1 ∙ ap (λ (x : Outcome). outcome_place x) e.0),
  k.1 ∙ ap (λ (x : Outcome). x.bytes) e.0,
  e.1,
)
