-- The frame at the end of a row's private run.
use Rattle.std.proofs.Common.{◌≡◌, ℕ, true, false, refl, sym, subst, arith}
use Rattle.job_language.specs.declared.instructions.Instr.{Instr}
use Rattle.job_step.specs.declared.frames.Frame.{Frame}
use Rattle.job_step.specs.declared.runs.Run.{Run}
use Rattle.job_step.specs.declared.runs.Stop.{Stop}
use Rattle.job_step.specs.declared.runs.Stop.TheVariants.{Shared, Yield, Fault}
use Rattle.tenant_model.specs.State.{State, row, job}
use Rattle.tenant_model.specs.Advance.{is_blocked, after_run, move_on}
use Rattle.tenant_model.specs.Blocked.{stops_blocked}
use Rattle.tenant_model.proofs.Running.{EndsAt, run_ends_at}
use Rattle.arena_rows.specs.Held.{Held}
use Rattle.arena_steps.specs.Frames.{FrameFits}
use Rattle.arena_steps.specs.Ready.{IsReady}
use Rattle.arena_steps.specs.Runs.{RunFits}

module _ (a : Held) (s : State) (slot n : ℕ) (r : Run) (fits : RunFits a s slot n r) where
  ends : EndsAt (job s.jobs (row s.rows n).job).program (row s.rows n).frame r
  ends = subst (EndsAt (job s.jobs (row s.rows n).job).program (row s.rows n).frame) (sym fits.is) (run_ends_at (job s.jobs (row s.rows n).job).program slot s.config.slots (row s.rows n).frame)

  pub end_fits : FrameFits a s slot n r.end
  end_fits = record { rests = fits.rests; on_top = fits.on_top; same = ends.registers }

  pub end_ready : (i : Instr) → r.stop ≡ Shared i → is_blocked s n i ≡ false → IsReady a s slot n r.end i
  end_ready i stops passes = record {
    fits = end_fits;
    here = ends.stop i stops;
    passes = λ d e g is. subst (λ j. is_blocked s n j ≡ false) is passes;
  }

-- A row at a wait for pending members stays there, and its job pays for what it ran before.
pub blocked_moves : (s : State) (slot n count : ℕ) (f : Frame) (stop : Stop) → stops_blocked s n stop ≡ true → after_run s slot n count f stop ≡ move_on s slot n count f
blocked_moves s slot n count f Yield stuck = refl
blocked_moves s slot n count f Fault stuck = absurd (grind (arith, stuck))
blocked_moves s slot n count f (Shared i) stuck = rw stuck refl
