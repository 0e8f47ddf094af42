-- What the changes of an arena's parts do to what they hold.
use Rattle.std.specs.Prelude.{ℕ, pos, ◌≡◌, ◌≢◌, ◌<◌, ◌+◌, All, Bool, true, false, [], ◌∷◌, ◌++◌, Option, Some, None, slice_index_or, slice_set, replicate, length, option_and_then}
use Rattle.job_step.specs.declared.frames.Frame.{Frame}
use Rattle.job_step.specs.Frame.{new_frame}
use Rattle.job_language.specs.declared.jobs.Job.{Job}
use Rattle.arena_rows.specs.declared.rows.Stage.{Stage}
use Rattle.region_tag.specs.declared.row_id.RowId.{RowId}
use Rattle.region_tag.specs.Region.{Table, region_of, tagged}
use Rattle.cancel_context.specs.Forest.{with_bound, with_request, binding, held_count}
use Rattle.job_language.specs.declared.instructions.TheConstants.{GROUPS}
use Rattle.task_group.specs.Groups.{group, no_members}
use Rattle.ready_pool.specs.declared.pool.Waiting.{Waiting}
use Rattle.std.specs.Option.{ForSome}
use Rattle.ready_pool.specs.Ready as ready
use Rattle.ready_pool.specs.Ready.{IsRegionEntered}
use Rattle.nest_stack.specs.declared.stack.Nested.{Nested}
use Rattle.nest_stack.specs.Nest.{stack, with_stack, with_top_frame, top}
use Rattle.job_language.specs.declared.errors.JobFault.{JobFault}
use Rattle.tenant_model.specs.declared.works.Work.{Work}
use Rattle.tenant_model.specs.Changes.{first_fault}
use Rattle.tenant_model.specs.State.{job}
use Rattle.arena_rows.specs.declared.rows.OpenRow.{OpenRow}
use Rattle.arena_rows.specs.declared.rows.CurrentJob.{CurrentJob}
use Rattle.arena_rows.specs.declared.rows.Source.{Source}
use Rattle.arena_rows.specs.declared.rows.Source.TheVariants.{Root, Posted, Spawned, Region}
use Rattle.arena_rows.specs.declared.rows.Stage.TheVariants as stage
use Rattle.thread_cells.specs.Cells as cells
use Rattle.arena_rows.specs.Held.{Held, place_of}

-- a waiting row goes live on top of a slot
abbrev pub started : Held → ℕ → RowId → OpenRow → Frame → Held
started a slot id e f = record a {
  table = slice_set a.table id.place (Some (record e { stage = stage.Live slot (length (stack a.nests slot) + 1) }));
  pool = ready.without a.pool id;
  nests = with_stack a.nests slot (stack a.nests slot ++ (record { frame = f; row = id; is_region = false }) ∷ []);
}

-- the row that a slot takes next
abbrev pub picked : Held → ℕ → Option RowId
picked a slot = ready.pick a.pool a.regions slot (option_and_then (λ (n : Nested). region_of a.regions n.row) (top (stack a.nests slot)))

-- the frame of a slot's topmost row moved on
abbrev pub framed : Held → (slot : ℕ) → Frame → Held
framed a slot f = record a { nests = with_stack a.nests slot (with_top_frame (stack a.nests slot) f) }

abbrev pub counted : Held → Held
counted a = record a { entries = a.entries + 1 }

abbrev pub with_cells_held : Held → cells.Table → Held
with_cells_held a t = record a { cells = t }

-- the next row, at a place
abbrev pub next_id : Held → (place : ℕ) → RowId
next_id a p = record { number = a.made + 1; place = p }

-- where a job stands among those that are held
abbrev pub index_of : Held → (job : ℕ) → ℕ
index_of a j = place_of a.jobs j

-- the tag of what makes a row, and whether the row is a region
abbrev pub outer_of : Table → Source → Option RowId
outer_of regions Root = None
outer_of regions Posted = None
outer_of regions (Spawned m g) = region_of regions m
outer_of regions (Region m) = region_of regions m

abbrev pub is_region_source : Source → Bool
is_region_source (Region m) = true
is_region_source s = false

-- the next row in the table, at a place, and among the regions
abbrev pub entered : Held → (place : ℕ) → OpenRow → Held
entered a p e = record a {
  table = slice_set a.table p (Some e);
  made = a.made + 1;
  regions = slice_set a.regions p (Some (tagged (next_id a p) (outer_of a.regions e.source) (is_region_source e.source)));
}

-- the entry of a row that was just made
abbrev pub new_entry : (number : ℕ) → Source → (job : ℕ) → (made_on : Option ℕ) → Stage → (context : ℕ) → OpenRow
new_entry n source j made_on stage c = record {
  number = n;
  source = source;
  job = j;
  made_on = made_on;
  stage = stage;
  groups = no_members;
  group_contexts = replicate GROUPS None;
  context = c;
}

-- of one that was posted
abbrev pub posted_entry : Held → (job context : ℕ) → Frame → OpenRow
posted_entry a j c f = new_entry (a.made + 1) Posted j None (stage.Waiting f) c

-- of one that was spawned
abbrev pub spawned_entry : Held → (maker : RowId) → (group job context slot : ℕ) → Frame → OpenRow
spawned_entry a m g j c slot f = new_entry (a.made + 1) (Spawned m g) j (Some slot) (stage.Waiting f) c

-- and of a region on top of its maker
abbrev pub region_entry : Held → (maker : RowId) → (job context slot : ℕ) → OpenRow
region_entry a m j c slot = new_entry (a.made + 1) (Region m) j (Some slot) (stage.Live slot (length (stack a.nests slot) + 1)) c

-- a region on top of a slot
abbrev pub region_pushed : Held → (slot : ℕ) → Frame → RowId → Held
region_pushed a slot f id = record a { nests = with_stack a.nests slot (stack a.nests slot ++ (record { frame = f; row = id; is_region = true }) ∷ []) }

-- one more open row of a job
abbrev pub with_open : CurrentJob → CurrentJob
with_open it = record it { open_rows = it.open_rows + 1 }

abbrev pub job_counted : Held → (job : ℕ) → CurrentJob → Held
job_counted a j d = record a { jobs = slice_set a.jobs (index_of a j) (with_open (slice_index_or a.jobs (index_of a j) d)) }

-- a job that is not there
abbrev pub no_job : CurrentJob
no_job = record { number = 0; work = job [] 0; value = pos 0; open_rows = 0; context = 0 }

-- a job's work changed
abbrev pub with_work : (Work → Work) → CurrentJob → CurrentJob
with_work f it = record it { work = f it.work }

abbrev pub job_changed : Held → (job : ℕ) → (Work → Work) → CurrentJob → Held
job_changed a j f d = record a { jobs = slice_set a.jobs (index_of a j) (with_work f (slice_index_or a.jobs (index_of a j) d)) }

abbrev pub with_fuel_left : ℕ → Work → Work
with_fuel_left fuel w = record w { fuel = fuel }

abbrev pub with_fault : JobFault → Work → Work
with_fault fault w = record w { fault = first_fault w.fault fault }

abbrev pub cancelled_work : Work → Work
cancelled_work w = record w { cancelled = true }

-- a cancel request on a job's context
abbrev pub job_asked : Held → (job : ℕ) → CurrentJob → Held
job_asked a j d = record a { contexts = with_request a.contexts (slice_index_or a.jobs (index_of a j) d).context true }

-- the entry of a row that another one joined as a member of its group
abbrev pub with_member : ℕ → OpenRow → OpenRow
with_member g e = let joined = group e.groups g in record e { groups = slice_set e.groups g (record joined { pending = joined.pending + 1; is_used = true }) }

abbrev pub with_entry : Held → (place : ℕ) → OpenRow → Held
with_entry a p e = record a { table = slice_set a.table p (Some e) }

-- the row waits to be started
abbrev pub put : Held → Waiting → Held
put a w = record a { pool = ready.with_row a.pool w }

-- a context more
abbrev pub bound_to : Held → (context : ℕ) → (parent : Option ℕ) → Held
bound_to a c parent = record a { contexts = with_bound a.contexts c parent }

abbrev pub with_group : ℕ → ℕ → OpenRow → OpenRow
with_group g c e = record e { group_contexts = slice_set e.group_contexts g (Some c) }

abbrev pub group_given : Held → (place group context : ℕ) → OpenRow → Held
group_given a p g c e = with_entry (bound_to a c (Some e.context)) p (with_group g c e)

-- what the pool asks of a new row that is to wait
pub record CanWait (a : Held) (id : RowId) (made_on : Option ℕ) : Type 0 where
  pub room : length a.pool.rows < a.pool.limit
  pub newest : All (λ (w : Waiting). w.row.number < id.number) a.pool.rows
  pub place : id.place < a.pool.limit
  pub free : All (λ (w : Waiting). w.row.place ≢ id.place) a.pool.rows
  pub slot : ForSome made_on (λ slot. slot < a.pool.slots)
  pub places : length a.regions ≡ a.pool.limit
  pub region : IsRegionEntered a.regions (region_of a.regions id)
  pub regions : All (λ (w : Waiting). IsRegionEntered a.regions w.region) a.pool.rows

-- the number of the next job
abbrev pub next_job : Held → ℕ
next_job a = a.made_jobs + 1

-- the frame of a job's root before its first instruction
abbrev pub root_frame : Job → Frame
root_frame j = new_frame 0 (slice_index_or j.args 0 (pos 0)) (slice_index_or j.args 1 (pos 0))

-- a job more, whose root is the next row, with `opened` open rows
abbrev pub new_current : Held → Job → (context opened : ℕ) → CurrentJob
new_current a j c opened = record {
  number = next_job a;
  work = record { program = j.program; fuel = j.fuel; root = a.made + 1; cancelled = false; fault = None; retired = false };
  value = pos 0;
  open_rows = opened;
  context = c;
}

-- the entry of a root
abbrev pub root_entry : Held → (stage : Stage) → (context : ℕ) → OpenRow
root_entry a stage c = new_entry (a.made + 1) Root (next_job a) None stage c

-- a job more, and its root in the table, at a place
abbrev pub job_begun : Held → (place : ℕ) → Job → (stage : Stage) → (context : ℕ) → Held
job_begun a p j stage c = entered (record a { contexts = with_bound a.contexts c None; jobs = a.jobs ++ new_current a j c 1 ∷ []; made_jobs = next_job a }) p (root_entry a stage c)

-- a job more, with a context that nothing held, and its root at a place
pub record IsBegun (a b : Held) (place : ℕ) (j : Job) (stage : Stage) : Type 0 where
  pub context : ℕ
  pub free : binding a.contexts context ≡ None
  pub within : context < length a.contexts
  pub count : held_count (with_bound a.contexts context None) ≡ held_count a.contexts + 1
  pub held : b ≡ job_begun a place j stage context

-- a root on a slot
abbrev pub root_pushed : Held → (slot : ℕ) → Frame → RowId → Held
root_pushed a slot f id = record a { nests = with_stack a.nests slot (stack a.nests slot ++ (record { frame = f; row = id; is_region = false }) ∷ []) }
