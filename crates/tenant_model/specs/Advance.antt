-- Advances and arrivals: what a slot does next, and what a worker takes who arrives at it.
use Rattle.std.specs.Prelude.{ℕ, ◌+◌, ◌-◌, ◌==◌, nat_lt, nat_le, Bool, true, false, ◌&&◌, if◌then◌else◌, Option, Some, None}
use Rattle.job_language.specs.declared.errors.JobFault.TheVariants as fault
use Rattle.job_language.specs.declared.instructions.Instr.{Instr}
use Rattle.job_language.specs.declared.instructions.Instr.TheVariants.{Wait}
use Rattle.job_language.specs.declared.answers.Moved.{Moved}
use Rattle.job_language.specs.declared.answers.Moved.TheVariants.{Nested, Left, Idle, Full}
use Rattle.job_language.specs.declared.answers.Came.{Came}
use Rattle.job_language.specs.declared.answers.Came.TheVariants as came
use Rattle.job_step.specs.declared.frames.Frame.{Frame}
use Rattle.job_step.specs.declared.runs.Run.{Run}
use Rattle.job_step.specs.declared.runs.Stop.{Stop}
use Rattle.job_step.specs.declared.runs.Stop.TheVariants.{Shared, Yield, Fault}
use Rattle.job_step.specs.Run.{run_of}
use Rattle.tenant_model.specs.declared.rows.TheConstants.{MAX_HEIGHT}
use Rattle.tenant_model.specs.declared.works.Work.{Work}
use Rattle.tenant_model.specs.State.{State, row, job}
use Rattle.tenant_model.specs.Walks.{is_pending, height, top, pick}
use Rattle.tenant_model.specs.Changes.{on_job, with_frame, nest, entry, is_full, finish_step, faults}
use Rattle.tenant_model.specs.Shared.{execute}

-- on an empty stack: a slot for workers takes the pick, and a reserved slot is idle
abbrev pub begin : State → ℕ → Option ℕ → Moved × State
begin s slot None = (if nat_lt slot s.config.reserved then Idle else Left, s)
begin s slot (Some n) = if nat_lt slot s.config.reserved then (Idle, s) else (Nested n, entry (nest s slot n))

-- at a wait for pending members, if nothing ran before it: take the pick, if there is one
abbrev pub nest_pick : State → (slot n : ℕ) → Option ℕ → Moved × State
nest_pick s slot n None = (Idle, s)
nest_pick s slot n (Some m) = if height s.rows slot == MAX_HEIGHT then faults slot (row s.rows n).job fault.TooDeep s else (Nested m, entry (nest s slot m))

abbrev pub work_of : State → ℕ → Work
work_of s n = job s.jobs (row s.rows n).job

-- Does row n's job lack the fuel?
abbrev pub is_poor : State → (n cost : ℕ) → Bool
is_poor s n cost = nat_lt (work_of s n).fuel cost

abbrev pub with_fuel : State → (n fuel : ℕ) → State
with_fuel s n fuel = on_job s (row s.rows n).job (λ w. record w { fuel = fuel })

-- the state after its job paid
abbrev pub with_fuel_paid : State → (n cost : ℕ) → State
with_fuel_paid s n cost = with_fuel s n ((work_of s n).fuel - cost)

-- The job pays for what row n executed. If it lacks the fuel, that is the fault.
abbrev pub pay : State → (slot n cost : ℕ) → (State → Moved × State) → Moved × State
pay s slot n cost next =
    if is_poor s n cost then faults slot (row s.rows n).job fault.Fuel (with_fuel s n 0)
    else next (with_fuel_paid s n cost)

abbrev pub is_blocked : State → ℕ → Instr → Bool
is_blocked s n (Wait d e g) = is_pending s.rows n g
is_blocked s n i = false

-- row n continues from frame f after it executed and paid `count` instructions
abbrev pub move_on : State → (slot n count : ℕ) → Frame → Moved × State
move_on s slot n count f = pay s slot n count (λ t. finish_step slot (with_frame t n f))

-- what follows a private run of row n, of `count` instructions that ended at frame f
abbrev pub after_run : State → (slot n count : ℕ) → Frame → Stop → Moved × State
after_run s slot n count f Yield = move_on s slot n count f
after_run s slot n count f Fault = pay s slot n count (λ t. faults slot (row t.rows n).job fault.Division t)
after_run s slot n count f (Shared i) =
    if is_blocked s n i then move_on s slot n count f
    else pay s slot n (count + 1) (λ t. execute t slot n f i)

-- Was the row at a wait for pending members, with nothing run before it?
abbrev pub is_idle_wait : State → (n count : ℕ) → Stop → Bool
is_idle_wait s n count Yield = false
is_idle_wait s n count Fault = false
is_idle_wait s n count (Shared i) = is_blocked s n i && (count == 0)

abbrev pub run_on : State → (slot n : ℕ) → Run
run_on s slot n = run_of (job s.jobs (row s.rows n).job).program slot s.config.slots (row s.rows n).frame

abbrev pub advance_run : State → (slot n : ℕ) → Run → Moved × State
advance_run s slot n r = if is_idle_wait s n r.count r.stop then nest_pick s slot n (pick s slot) else after_run s slot n r.count r.end r.stop

abbrev pub advance_top : State → ℕ → Option ℕ → Moved × State
advance_top s slot None = begin s slot (pick s slot)
advance_top s slot (Some n) = advance_run s slot n (run_on s slot n)

abbrev pub would_be_recorded : Moved → Bool
would_be_recorded Left = false
would_be_recorded Idle = false
would_be_recorded m = true

-- A step that would add an entry to a full history changes nothing.
abbrev pub unless_full : State → Moved × State → Moved × State
unless_full s r = if would_be_recorded r.0 && is_full s then (Full, s) else r

abbrev pub advance : State → ℕ → Moved × State
advance s slot = if nat_lt slot s.config.slots then unless_full s (advance_top s slot (top s.rows slot)) else (Idle, s)

abbrev pub arrive_at : State → ℕ → Option ℕ → Came × State
arrive_at s slot None = (came.Nothing, s)
arrive_at s slot (Some n) = if is_full s then (came.Full, s) else (came.At n, entry (nest s slot n))

-- May a worker arrive at the slot?
abbrev pub is_open_to_workers : State → ℕ → Bool
is_open_to_workers s slot = nat_le s.config.reserved slot && nat_lt slot s.config.slots && (height s.rows slot == 0)

abbrev pub arrive : State → ℕ → Came × State
arrive s slot = if is_open_to_workers s slot then arrive_at s slot (pick s slot) else (came.Nothing, s)
