-- The private run of a slot's topmost row.
use Rattle.std.specs.Prelude.{◌≡◌, ◌<◌, ℕ, false, Some}
use Rattle.job_language.specs.declared.instructions.Instr.{Instr}
use Rattle.job_language.specs.Program.{is_last}
use Rattle.job_step.specs.declared.frames.TheConstants.{LAST_PLACE}
use Rattle.job_step.specs.declared.runs.Run.{Run}
use Rattle.job_step.specs.declared.runs.Stop.TheVariants.{Shared}
use Rattle.tenant_model.specs.State.{State}
use Rattle.tenant_model.specs.Walks.{top}
use Rattle.tenant_model.specs.Advance.{run_on}
use Rattle.arena_rows.specs.Held.{Held}
use Rattle.arena_rows.specs.Represents.{Rests}

-- Row n is on a slot, and that is its run.
pub record RunFits (a : Held) (s : State) (slot n : ℕ) (r : Run) : Type 0 where
  pub rests : Rests a s
  pub on_top : top s.rows slot ≡ Some n
  pub is : r ≡ run_on s slot n

-- A row is on a slot, in some settled state that is held, and that is its run.
abbrev pub HasRun : Held → (slot : ℕ) → Run → Type 0
HasRun a slot r = (s : State) × (n : ℕ) × RunFits a s slot n r

-- If a run stops at an instruction after which its row goes on, that is not at the last place that a procedure can have.
abbrev pub HasNextPlace : Run → Type 0
HasNextPlace r = (i : Instr) → r.stop ≡ Shared i → is_last i ≡ false → r.end.place < LAST_PLACE
