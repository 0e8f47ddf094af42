-- Changes of a tenant's state, one part at a time.
use Rattle.std.specs.Prelude.{ℕ, ◌+◌, ◌==◌, nat_lt, nat_le, max, Bool, not, ◌&&◌, if◌then◌else◌, List, [], ◌∷◌, ◌++◌, Option, Some, None, map, fold, count_by}
use Rattle.job_language.specs.declared.errors.JobFault.{JobFault}
use Rattle.job_language.specs.declared.answers.Moved.{Moved}
use Rattle.job_language.specs.declared.answers.Moved.TheVariants.{Ran, Freed}
use Rattle.job_step.specs.declared.frames.Frame.{Frame}
use Rattle.tenant_model.specs.declared.rows.Kind.{Kind}
use Rattle.tenant_model.specs.declared.rows.Phase.{Phase}
use Rattle.tenant_model.specs.declared.rows.Phase.TheVariants.{Live, Faulted}
use Rattle.tenant_model.specs.declared.rows.Row.{Row}
use Rattle.tenant_model.specs.declared.works.Work.{Work}
use Rattle.tenant_model.specs.State.{State, no_marks, with_at_number, row, job}
use Rattle.thread_cells.specs.Cells.{Table}
use Rattle.tenant_model.specs.Walks.{is_region, is_open, is_live_on, height, settle}

-- a row changed
abbrev pub on_row : State → ℕ → (Row → Row) → State
on_row s n f = record s { rows = with_at_number s.rows n (f (row s.rows n)) }

-- a job changed
abbrev pub on_job : State → ℕ → (Work → Work) → State
on_job s n f = record s { jobs = with_at_number s.jobs n (f (job s.jobs n)) }

abbrev pub new_row : Kind → (job : ℕ) → (made_on : Option ℕ) → Frame → Phase → Row
new_row kind job made_on frame phase = record { kind = kind; job = job; made_on = made_on; frame = frame; phase = phase; marks = no_marks }

abbrev pub add_row : State → Row → State
add_row s r = record s { rows = s.rows ++ r ∷ [] }

-- how many rows are open
abbrev pub open_rows : List Row → ℕ
open_rows rows = count_by (λ (r : Row). is_open r.phase) rows

abbrev pub is_row_limit_met : State → Bool
is_row_limit_met s = nat_le s.config.rows (open_rows s.rows)

abbrev pub is_full : State → Bool
is_full s = nat_le s.config.steps s.entries

-- A step that is an entry is counted, and the state settles.
abbrev pub entry : State → State
entry s = settle (record s { entries = s.entries + 1 })

-- a row at another frame
abbrev pub with_frame : State → ℕ → Frame → State
with_frame s n f = on_row s n (λ r. record r { frame = f })

-- a row live on top of a slot
abbrev pub nest : State → ℕ → ℕ → State
nest s slot n = on_row s n (λ r. record r { phase = Live slot (height s.rows slot + 1) })

abbrev pub with_cells : State → Table → State
with_cells s cells = record s { cells = cells }

-- A step ran: a reserved slot is freed if nothing is left on it.
abbrev pub finish_step : ℕ → State → Moved × State
finish_step slot s = (if nat_lt slot s.config.reserved && (height s.rows slot == 0) then Freed else Ran, entry s)

abbrev pub height_of : Phase → ℕ
height_of (Live t h) = h
height_of p = 0

-- the height of a row on the slot, if it is not a region
abbrev pub task_height_of : ℕ → Row → ℕ
task_height_of slot r = if is_live_on slot r.phase && not (is_region r.kind) then height_of r.phase else 0

-- the height of the highest row on a slot that is not a region
abbrev pub task_height : List Row → ℕ → ℕ
task_height rows slot = fold (λ most r. max most (task_height_of slot r)) 0 rows

abbrev pub faulted_phase : (slot from : ℕ) → Phase → Phase
faulted_phase slot from (Live t h) = if (t == slot) && nat_le from h then Faulted else Live t h
faulted_phase slot from p = p

abbrev pub faulted_row : (slot from : ℕ) → Row → Row
faulted_row slot from r = record r { phase = faulted_phase slot from r.phase }

-- the first fault of a job stays
abbrev pub first_fault : Option JobFault → JobFault → Option JobFault
first_fault None fault = Some fault
first_fault (Some f) fault = Some f

-- A fault ends the topmost row and those below it, down to and including the first that is not a region.
abbrev pub faults : (slot job : ℕ) → JobFault → State → Moved × State
faults slot j fault s =
    finish_step slot (on_job (record s { rows = map (faulted_row slot (task_height s.rows slot)) s.rows }) j (λ w. record w { fault = first_fault w.fault fault }))
