-- Private runs are least.
use Rattle.std.proofs.Common.{◌≡◌, ℕ, zero, suc, ◌+◌, ◌-◌, ◌≤◌, ◌⊎◌, List, Option, Some, None, refl, sym, ap, ◌∙◌, arith, inl, inr}
use Rattle.std.specs.Prelude.{option_and_then}
use Rattle.job_language.specs.declared.instructions.Instr.{Instr}
use Rattle.job_step.specs.declared.effects.Effect.{Effect}
use Rattle.job_step.specs.declared.effects.Effect.TheVariants.{Moves, DividesByZero, IsShared}
use Rattle.job_step.specs.declared.frames.Frame.{Frame}
use Rattle.job_step.specs.declared.runs.Run.{Run}
use Rattle.job_step.specs.declared.runs.Stop.TheVariants.{Shared, Yield, Fault}
use Rattle.job_step.specs.Frame.{instr_at, effect}
use Rattle.job_step.specs.Run.{effect_at, run_on, run_for, run_of}
use Rattle.job_step.specs.Least.{moved_to, next_of, frame_after, IsLeastRun}

-- f is the frame that the first one has become after c instructions
module _ (procs : List (List Instr)) (slot width : ℕ) (start : Frame) where
  abbrev IsReached : ℕ → Frame → Type 0
  IsReached c f = frame_after procs slot width start c ≡ Some f

  abbrev IsLeast : Run → Type 0
  IsLeast r = IsLeastRun procs slot width start r

  module _ (c : ℕ) (f : Frame) (reached : IsReached c f) (low : c + 1 ≤ 1000) where
    turn : (e : Effect) (i : Instr) (next : Frame → Run) → instr_at procs f ≡ Some i → effect i slot width f ≡ e → ((g : Frame) → IsReached (c + 1) g → IsLeast (next g)) →
        IsLeast (run_on start f c e (Some i) next)
    turn (Moves g) i next here does rest =
        let one : c + 1 ≡ suc c = omega arith in
        let goes : next_of procs slot width f ≡ Some g = rw (here, does) refl in
        rest g (ap (frame_after procs slot width start) one ∙ ap (option_and_then (next_of procs slot width)) reached ∙ goes)
    turn DividesByZero i next here does rest =
        let back : c + 1 - 1 ≡ c = omega arith in
        record { start = refl; most = low; end = ap (frame_after procs slot width start) back ∙ reached; stop = (omega arith, i, here, does) }
    turn IsShared i next here does rest = record { start = refl; most = omega (arith, low); end = reached; stop = (here, does) }

    by_instr : (o : Option Instr) (next : Frame → Run) → instr_at procs f ≡ o → ((g : Frame) → IsReached (c + 1) g → IsLeast (next g)) → IsLeast (run_on start f c (effect_at o slot width f) o next)
    by_instr (Some i) next here rest = turn (effect i slot width f) i next here refl rest
    by_instr None next here rest = record { start = refl; most = omega (arith, low); end = reached; stop = inr here }

  least_for : (left c : ℕ) (f : Frame) → left + c ≡ 1000 → IsReached c f → IsLeast (run_for left procs slot width start c f)
  unfolding run_for
  least_for zero c f all reached = record { start = refl; most = omega (arith, all); end = reached; stop = inl (omega (arith, all)) }
  least_for (suc left) c f all reached =
      by_instr c f reached (omega (arith, all)) (instr_at procs f) (run_for left procs slot width start (c + 1)) refl (λ g there. least_for left (c + 1) g (omega (arith, all)) there)

pub runs_are_least : (procs : List (List Instr)) (slot width : ℕ) (f : Frame) → IsLeastRun procs slot width f (run_of procs slot width f)
runs_are_least procs slot width f = least_for procs slot width f 1000 0 f refl refl
