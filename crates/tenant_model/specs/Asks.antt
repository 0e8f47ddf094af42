-- What a tenant asks: the reply, and the state after it.
use Rattle.std.specs.Prelude.{ℕ, ◌+◌, ◌==◌, nat_le, pos, Bool, true, false, not, ◌&&◌, ◌||◌, if◌then◌else◌, List, [], ◌∷◌, ◌++◌, Option, Some, None, option_and_then, slice_index_or, length, map, find}
use Rattle.std.specs.Prelude.{count_by}
use Rattle.std.specs.List.{list_any, range_with_len}
use Rattle.std.specs.Option.{option_map_or}
use Rattle.job_language.specs.declared.errors.Error.TheVariants.{BadRequest, UnknownJob, JobLimit, HistoryFull, TaskLimit, Busy}
use Rattle.job_language.specs.declared.jobs.Job.{Job}
use Rattle.job_language.specs.declared.requests.Request.{Request}
use Rattle.job_language.specs.declared.requests.Request.TheVariants.{Hello, Submit, Execute, Poll, Collect, Cancel, Cells, Arena, Retire, Release, Take}
use Rattle.job_language.specs.declared.answers.Reply.{Reply}
use Rattle.job_language.specs.declared.answers.Reply.TheVariants as reply
use Rattle.job_language.specs.declared.answers.Status.{Status}
use Rattle.job_language.specs.declared.answers.Status.TheVariants.{Running, Cancelled, Complete, Fault}
use Rattle.job_step.specs.Frame.{new_frame}
use Rattle.tenant_model.specs.declared.rows.Kind.TheVariants.{Root}
use Rattle.tenant_model.specs.declared.rows.Phase.{Phase}
use Rattle.tenant_model.specs.declared.rows.Phase.TheVariants.{Unstarted, Live}
use Rattle.tenant_model.specs.declared.rows.Row.{Row}
use Rattle.tenant_model.specs.declared.works.TheConstants.{MAX_JOBS}
use Rattle.tenant_model.specs.declared.works.Work.{Work}
use Rattle.tenant_model.specs.State.{State, at_number, row}
use Rattle.tenant_model.specs.Walks.{is_open, is_job_cancelled, value_in, height}
use Rattle.tenant_model.specs.Changes.{on_job, new_row, add_row, is_row_limit_met, is_full, entry}
use Rattle.thread_cells.specs.Cells.{no_cells, cell_sum, cell_count}

-- A job has an outcome if none of its rows is open.
abbrev pub has_outcome : List Row → ℕ → Bool
has_outcome rows j = not (list_any (λ (r : Row). (r.job == j) && is_open r.phase) rows)

abbrev pub outcome : List Row → Work → Status
outcome rows w = option_map_or (λ f. Fault f) w.fault (if w.cancelled then Cancelled else Complete (value_in (row rows w.root).phase))

abbrev pub status : List Row → ℕ → Work → Status
status rows j w = if has_outcome rows j then outcome rows w else Running

-- the job of a number, unless it is retired or released
abbrev pub known_job : State → ℕ → Option Work
known_job s j = option_and_then (λ (w : Work). if w.retired then None else Some w) (at_number s.jobs j)

-- how many jobs are neither retired nor released
abbrev pub current_jobs : State → ℕ
current_jobs s = count_by (λ (w : Work). not w.retired) s.jobs

-- the least reserved slot with nothing on it
abbrev pub free_slot : State → Option ℕ
free_slot s = find (λ slot. height s.rows slot == 0) (range_with_len 0 s.config.reserved)

abbrev pub new_job : State → Job → Work
new_job s j = record { program = j.program; fuel = j.fuel; root = length s.rows + 1; cancelled = false; fault = None; retired = false }

-- a job made, with its root in this phase
abbrev pub add_job : State → Job → Phase → State
add_job s j phase =
    add_row (record s { jobs = s.jobs ++ new_job s j ∷ [] })
    (new_row Root (length s.jobs + 1) None (new_frame 0 (slice_index_or j.args 0 (pos 0)) (slice_index_or j.args 1 (pos 0))) phase)

-- A job is made unless there are too many, or too many open rows.
abbrev pub unless_limit : State → Reply × State → Reply × State
unless_limit s made =
    if nat_le MAX_JOBS (current_jobs s) then (reply.Refused JobLimit, entry s)
    else if is_row_limit_met s then (reply.Refused TaskLimit, entry s) else made

abbrev pub submit : State → Job → Reply × State
submit s j = (reply.Made (length s.jobs + 1), entry (add_job s j Unstarted))

-- The job is placed on a free slot, if there is one.
abbrev pub submit_placed : State → Job → Option ℕ → Reply × State
submit_placed s j None = submit s j
submit_placed s j (Some slot) = (reply.Placed (length s.jobs + 1) slot, entry (add_job s j (Live slot 1)))

abbrev pub of_job : State → ℕ → (Work → Reply × State) → Reply × State
of_job s j next = option_map_or next (known_job s j) (reply.Refused UnknownJob, entry s)

abbrev pub collect : State → ℕ → Status → Reply × State
collect s j Running = (reply.Pending, s)
collect s j status = (reply.Job j status, entry s)

-- A cancel is the first if the job's context was not cancelled and it has no outcome.
abbrev pub cancel_by_request : State → ℕ → Work → Reply × State
cancel_by_request s j w =
    if is_job_cancelled w || has_outcome s.rows j then (reply.Cancelled j false, entry s)
    else (reply.Cancelled j true, entry (on_job s j (λ v. record v { cancelled = true })))

abbrev pub retired_work : Work → Work
retired_work w = record w { retired = true }

-- Nothing is retired while a row is open, which is while a job has no outcome.
abbrev pub retire : State → Reply × State
retire s =
    if list_any (λ (r : Row). is_open r.phase) s.rows then (reply.Refused Busy, entry s)
    else (reply.Epoch (s.epoch + 1), entry (record s { jobs = map retired_work s.jobs; cells = no_cells; epoch = s.epoch + 1 }))

-- A job is released as one is retired, but by itself: its rows, the cells and the epoch stay.
abbrev pub released : State → ℕ → State
released s j = entry (on_job s j retired_work)

-- A job can be released once it has an outcome.
abbrev pub release : State → ℕ → Reply × State
release s j = if has_outcome s.rows j then (reply.Released j, released s j) else (reply.Refused Busy, entry s)

-- An outcome is taken: the job is released with it.
abbrev pub take_outcome : State → ℕ → Work → Reply × State
take_outcome s j w = if has_outcome s.rows j then (reply.Job j (outcome s.rows w), released s j) else (reply.Pending, s)

-- the reply to an ask, if the history has room
abbrev pub reply_to : State → Request → Reply × State
reply_to s (Hello name) = (reply.Refused BadRequest, s)
reply_to s (Submit j) = unless_limit s (submit s j)
reply_to s (Execute j) = unless_limit s (submit_placed s j (free_slot s))
reply_to s (Poll j) = of_job s j (λ w. (reply.Job j (status s.rows j w), entry s))
reply_to s (Collect j) = of_job s j (λ w. collect s j (status s.rows j w))
reply_to s (Cancel j) = of_job s j (cancel_by_request s j)
reply_to s (Cells k) = (reply.Cells k (cell_count s.cells k) (cell_sum s.cells k), entry s)
reply_to s Arena = (reply.Arena s.config.priority s.config.reserved s.config.slots, entry s)
reply_to s Retire = retire s
reply_to s (Release j) = of_job s j (λ w. release s j)
reply_to s (Take j) = of_job s j (take_outcome s j)

abbrev pub is_hello : Request → Bool
is_hello (Hello name) = true
is_hello r = false

abbrev pub ask : State → Request → Reply × State
ask s r = if is_full s && not (is_hello r) then (reply.Refused HistoryFull, s) else reply_to s r
