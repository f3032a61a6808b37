-- Laws of environments in bytes and of what a step answers.
use Rattle.std.specs.Prelude.{◌≡◌, refl, List, [], ◌∷◌, ◌++◌, false, ℕ, suc, max, ◌+◌, ◌-◌, ◌*◌, ◌≤◌, length, take, replicate}
use Rattle.std.proofs.Common.{ap, sym, subst, ◌∙◌, arith, length-append}
use Rattle.std.proofs.Math.Seq.{take-append_seam}
use Rattle.tree_forest.specs.Forest.{end, node, Rising, measure, nodes}
use Rattle.refusal.specs.declared.Refusal.{Refusal}
use Rattle.scalar.specs.Basic.{void}
use Rattle.network_syntax.specs.Syntax.{Types, mark}
use Rattle.check_typing.specs.Result.{Checked, refused, passed}
use Rattle.tree.specs.Encode.{root_count, encode, WellFormedTree, Encodes}
use Rattle.tree_forest.specs.Limits.{session_levels, session_nodes}
use Rattle.tree.specs.Standing.{Root}
use Rattle.tree.specs.EncodeLaws.{good_of, sound-above, unique, length-node, empty-proper}
use Rattle.tree.specs.StandingLaws.{root-fields}
use Rattle.check_types.specs.Image.{mark_value, image, InRange, types_as}
use Rattle.check_types.specs.ImageLaws.{image-back, measure-map, length-image, image-sound, rising-map}
use Rattle.check_environments.specs.declared.Environment.{Environment}
use Rattle.check_environments.specs.Environment.{tree_of, bytes_for, standing, Shape, EnvironmentFor, step_of, StepAnswers}
use Rattle.check_environments.specs.Listing.{preorder}
use Rattle.std.specs.Prelude.{Result, Ok, Err}

-- ---- what a step answers

pub answers-as : {s : Result Environment Refusal} {c d : Checked Types} → c ≡ d → StepAnswers s c → StepAnswers s d
answers-as {s} e h = subst (StepAnswers s) e h

done-by : (s : Result Environment Refusal) (c : Checked Types) (d : Environment) → StepAnswers s c → s ≡ Ok d → (Γ : Types) × (c ≡ passed Γ) × EnvironmentFor d Γ
unfolding step_of
done-by s (passed Γ) d h e =
    let p : d ≡ standing Γ = cc (h.is, e) in
    (Γ, refl, record { is = p; shape = h.shape })
done-by s (refused why) d h e = absurd (cc (h.is, e))

pub answers-done : {s : Result Environment Refusal} {c : Checked Types} {d : Environment} → StepAnswers s c → s ≡ Ok d → (Γ : Types) × (c ≡ passed Γ) × EnvironmentFor d Γ
answers-done {s} {c} {d} h e = done-by s c d h e

refused-by : (s : Result Environment Refusal) (c : Checked Types) → StepAnswers s c → (why : Refusal) → s ≡ Err why → (c ≡ refused why) × (s ≡ step_of (refused why))
unfolding step_of
refused-by s (passed Γ) h why e = absurd (cc (h.is, e))
refused-by s (refused x) h why e =
    let q : x ≡ why = cc (h.is, e) in
    (ap refused q, e)

pub answers-refused : {s : Result Environment Refusal} {c : Checked Types} → StepAnswers s c → (why : Refusal) → s ≡ Err why
    → (c ≡ refused why) × (s ≡ step_of (refused why))
answers-refused {s} {c} h why e = refused-by s c h why e

pub answers-refuse : {s : Result Environment Refusal} (why : Refusal) → s ≡ step_of (refused why) → StepAnswers s (refused why)
answers-refuse why e = record { is = e; shape = tt }

pub answers-pass : {e : Environment} {Γ : Types} → EnvironmentFor e Γ → StepAnswers (Ok e) (passed Γ)
unfolding step_of
answers-pass h = record { is = ap (λ (z : Environment). Ok z) h.is; shape = h.shape }

-- ---- environments in bytes

pub tree-well-formed : (Γ : Types) → Shape Γ → WellFormedTree session_levels session_nodes (tree_of Γ)
tree-well-formed Γ h = record {
  root = empty-proper;
  sound = image-sound Γ h.ranged;
  rising = rising-map mark_value Γ h.rising;
  shallow = rw (measure-map mark_value max Γ) h.shallow;
  few = rw (measure-map mark_value ◌+◌ Γ) h.few;
}

pub bytes-encode : (s : List ℕ) (Γ : Types) → s ≡ bytes_for Γ → Shape Γ → Encodes session_levels session_nodes s (tree_of Γ)
unfolding bytes_for
bytes-encode s Γ e h = record { bytes = e; good = tree-well-formed Γ h }

pub bytes-length : (Γ : Types) → length (bytes_for Γ) ≡ 5 + 7 * nodes Γ
unfolding bytes_for encode
bytes-length Γ = length-node 0 void [] (image Γ) end ∙ omega (arith, length-image Γ)

-- the bytes of Γ, whatever stands after them
pub front-root : (s after : List ℕ) (Γ : Types) → s ≡ bytes_for Γ ++ after → Shape Γ → Root s 0 0 (tree_of Γ)
unfolding bytes_for
front-root s after Γ e h =
    let w = tree-well-formed Γ h in
    record {
      after = after;
      bytes = e;
      proper = w.root;
      good = good_of (image Γ) session_levels 0 (sound-above (image Γ) w.sound) w.rising w.sound w.shallow;
      small = w.few;
    }

-- e's tree stands at its start
pub stands-root : (e : Environment) (Γ : Types) → EnvironmentFor e Γ → Root e.bytes 0 0 (tree_of Γ)
unfolding standing
stands-root e Γ h = front-root e.bytes _ Γ (ap (λ (z : Environment). z.bytes) h.is) h.shape

pub stands-bytes : (e : Environment) (Γ : Types) → EnvironmentFor e Γ → take e.len e.bytes ≡ bytes_for Γ
unfolding standing
stands-bytes e Γ h = by e h.is
  where
    by : (e : Environment) → e ≡ standing Γ → take e.len e.bytes ≡ bytes_for Γ
    by e q = rw q (take-append_seam (bytes_for Γ) (replicate (512 - length (bytes_for Γ)) 0))

pub stands-len : (e : Environment) (Γ : Types) → EnvironmentFor e Γ → e.len ≤ 341
unfolding standing
stands-len e Γ h =
    let l : e.len ≡ length (bytes_for Γ) = ap (λ (z : Environment). z.len) h.is in
    omega (arith, bytes-length Γ, h.shape.few)

-- the bytes stand for one environment only
pub root-once : (s : List ℕ) (Γ Δ : Types) → Root s 0 0 (tree_of Γ) → Root s 0 0 (tree_of Δ) → Γ ≡ Δ
root-once s Γ Δ v w =
    let p = root-fields s 0 0 void [] (image Γ) v in
    let q = root-fields s 0 0 void [] (image Δ) w in
    let k : root_count (image Γ) ≡ root_count (image Δ) = sym p.count ∙ q.count in
    let e = unique s 5 session_levels session_levels 0 0 (image Γ) (image Δ) v.after w.after p.after q.after v.good w.good k in
    sym (image-back Γ) ∙ ap (types_as false) e ∙ image-back Δ

pub stands-once : {e : Environment} {Γ Δ : Types} → EnvironmentFor e Γ → EnvironmentFor e Δ → Γ ≡ Δ
stands-once {e} {Γ} {Δ} v w = root-once e.bytes Γ Δ (stands-root e Γ v) (stands-root e Δ w)

pub empty-shape : Shape end
unfolding measure Rising InRange
empty-shape = record { few = omega arith; shallow = omega arith; rising = tt; ranged = tt }

pub stands-empty : EnvironmentFor (standing end) end
stands-empty = record { is = refl; shape = empty-shape }

-- ---- nodes in preorder

pub length-preorder : (Γ : Types) (above : List ℕ) → length (preorder above Γ) ≡ nodes Γ
unfolding preorder measure
length-preorder end above = refl
length-preorder (node i (mark m b) k r) above =
    ap suc (length-append (preorder (above ++ (i ∷ [])) k) (preorder above r)) ∙ omega (arith, length-preorder k (above ++ (i ∷ [])), length-preorder r above)
