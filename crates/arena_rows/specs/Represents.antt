-- Which states an arena stands for.
use Rattle.std.specs.Prelude.{◌≡◌, ℕ, ◌+◌, ◌*◌, ◌<◌, ◌≤◌, ◌==◌, ◌&&◌, ◌⊎◌, Bool, true, false, if◌then◌else◌, List, ◌++◌, Option, Some, None, is_some, slice_index_or, get_or, All, map, filter, length}
use Rattle.std.specs.Prelude.{count_by, sum_by}
use Rattle.std.specs.Option.{option_map}
use Rattle.job_language.specs.declared.instructions.TheConstants.{GROUPS}
use Rattle.job_step.specs.declared.frames.Frame.{Frame}
use Rattle.region_tag.specs.declared.row_id.RowId.{RowId}
use Rattle.region_tag.specs.declared.regions.Tagged.{Tagged}
use Rattle.ready_pool.specs.declared.pool.Waiting.{Waiting}
use Rattle.nest_stack.specs.declared.stack.Nested.{Nested}
use Rattle.nest_stack.specs.Nest.{stack, at_height}
use Rattle.task_group.specs.Groups.{Group, group}
use Rattle.cancel_context.specs.declared.contexts.TheConstants.{BASE_CONTEXTS, CONTEXTS_PER_ROW}
use Rattle.cancel_context.specs.Forest.{Forest, Binding, binding, IsHeld, held_count}
use Rattle.tenant_model.specs.declared.rows.Kind.{Kind}
use Rattle.tenant_model.specs.declared.rows.Kind.TheVariants as kind
use Rattle.tenant_model.specs.declared.rows.Phase.{Phase}
use Rattle.tenant_model.specs.declared.rows.Phase.TheVariants as phase
use Rattle.tenant_model.specs.declared.rows.Row.{Row}
use Rattle.tenant_model.specs.declared.works.TheConstants.{MAX_JOBS}
use Rattle.tenant_model.specs.declared.works.Work.{Work}
use Rattle.tenant_model.specs.State.{State, row, job}
use Rattle.tenant_model.specs.Walks.{NumberedRow, numbered_rows, is_region, is_unstarted, is_open, members, mark, total, is_used, region_of, value_in, is_job_cancelled, top}
use Rattle.tenant_model.specs.Changes.{open_rows}
use Rattle.tenant_model.specs.Sound.{IsSteady, IsSettled}
use Rattle.arena_rows.specs.declared.rows.OpenRow.{OpenRow}
use Rattle.arena_rows.specs.declared.rows.CurrentJob.{CurrentJob}
use Rattle.arena_rows.specs.declared.rows.Source.{Source}
use Rattle.arena_rows.specs.declared.rows.Source.TheVariants as source
use Rattle.arena_rows.specs.declared.rows.Stage.{Stage}
use Rattle.arena_rows.specs.declared.rows.Stage.TheVariants as stage
use Rattle.arena_rows.specs.Held.{Held, NumbersRise}
use Rattle.tenant_model.specs.Asks.{current_jobs}

-- Where each row stands while it is open, by its number. Ids of rows that have ended name their old places.
abbrev pub Places : Type 0
Places = ℕ → ℕ

-- the id of the row of a number
abbrev pub id_of : Places → ℕ → RowId
id_of places n = record { number = n; place = places n }

-- what stands at a place
abbrev pub at_place : List (Option OpenRow) → ℕ → Option OpenRow
at_place table place = slice_index_or table place None

abbrev pub source_of : Places → Kind → Source
source_of places kind.Root = source.Root
source_of places kind.Posted = source.Posted
source_of places (kind.Spawned m g) = source.Spawned (id_of places m) g
source_of places (kind.Region m) = source.Region (id_of places m)

abbrev pub stage_of : Frame → Phase → Stage
stage_of f (phase.Live slot h) = stage.Live slot h
stage_of f p = stage.Waiting f

-- the counters of a group are those of its members
pub record IsGroup (rows : List Row) (n g : ℕ) (it : Group) : Type 0 where
  pub pending : it.pending ≡ count_by (λ (p : NumberedRow). is_open p.1.phase) (members rows n g)
  pub total : it.total ≡ total rows n g
  pub used : it.is_used ≡ is_used rows n g

-- an entry is that of row n
pub record IsRow (rows : List Row) (places : Places) (n : ℕ) (e : OpenRow) : Type 0 where
  pub number : e.number ≡ n
  pub source : e.source ≡ source_of places (row rows n).kind
  pub job : e.job ≡ (row rows n).job
  pub made_on : e.made_on ≡ (row rows n).made_on
  pub stage : e.stage ≡ stage_of (row rows n).frame (row rows n).phase
  pub groups : (g : ℕ) → g < GROUPS → IsGroup rows n g (group e.groups g)
  pub all_groups : length e.groups ≡ GROUPS
  pub all_contexts : length e.group_contexts ≡ GROUPS

-- row n stands at its place
pub record Stands (rows : List Row) (places : Places) (table : List (Option OpenRow)) (n : ℕ) : Type 0 where
  pub within : places n < length table
  pub entry : OpenRow
  pub there : at_place table (places n) ≡ Some entry
  pub is : IsRow rows places n entry

-- The table has the open rows and no others.
pub record AreRows (rows : List Row) (places : Places) (table : List (Option OpenRow)) : Type 0 where
  pub each : (n : ℕ) → is_open (row rows n).phase ≡ true → Stands rows places table n
  pub only : (p : ℕ) (e : OpenRow) → at_place table p ≡ Some e → (is_open (row rows e.number).phase ≡ true) × (places e.number ≡ p)

-- A place of a table is free.
pub record IsFree (table : List (Option OpenRow)) (p : ℕ) : Type 0 where
  pub within : p < length table
  pub vacant : at_place table p ≡ None

-- All places are free but those of the open rows.
pub record AreFree (rows : List Row) (limit : ℕ) (table : List (Option OpenRow)) : Type 0 where
  pub long : length table ≡ limit
  pub count : open_rows rows ≡ count_by is_some table

-- the row of a number as it stands on a stack
abbrev pub nested_of : List Row → Places → ℕ → Nested
nested_of rows places n = record { frame = (row rows n).frame; row = id_of places n; is_region = is_region (row rows n).kind }

pub record AreNests (rows : List Row) (places : Places) (slots : ℕ) (nests : List (List Nested)) : Type 0 where
  pub long : length nests ≡ slots
  pub each : (n slot h : ℕ) → (row rows n).phase ≡ phase.Live slot h → (slot < slots) × (1 ≤ h) × (at_height (stack nests slot) h ≡ Some (nested_of rows places n))
  pub only : (slot h : ℕ) → 1 ≤ h → h ≤ length (stack nests slot) → (n : ℕ) × ((row rows n).phase ≡ phase.Live slot h)

abbrev pub tag_of : List Row → Places → ℕ → Option RowId
tag_of rows places n = option_map (id_of places) (region_of rows n)

abbrev pub around_of : List Row → Places → Kind → Option RowId
around_of rows places (kind.Region m) = tag_of rows places m
around_of rows places k = None

abbrev pub tagged_of : List Row → Places → OpenRow → Tagged
tagged_of rows places e = record { number = e.number; tag = tag_of rows places e.number; around = around_of rows places (row rows e.number).kind }

pub record AreTagged (rows : List Row) (places : Places) (table : List (Option OpenRow)) (regions : List (Option Tagged)) : Type 0 where
  pub long : length regions ≡ length table
  pub each : (p : ℕ) → slice_index_or regions p None ≡ option_map (tagged_of rows places) (at_place table p)

-- the rows that wait, oldest first
abbrev pub waiting : List Row → List NumberedRow
waiting rows = filter (λ (p : NumberedRow). is_unstarted p.1.phase) (numbered_rows rows)

abbrev pub waiting_of : List Row → Places → NumberedRow → Waiting
waiting_of rows places p = record { row = id_of places p.0; made_on = p.1.made_on; region = tag_of rows places p.0 }

-- what holds each context
pub data Owner : Type 0 where
  Nobody : Owner
  OfJob : ℕ → Owner
  OfRow : ℕ → Owner
  OfGroup : ℕ → ℕ → Owner

-- the contexts of rows, groups and jobs, and what holds each
pub record Assigned : Type 0 where
  pub of_row : ℕ → ℕ
  pub of_group : ℕ → ℕ → Option ℕ
  pub of_job : ℕ → ℕ
  pub owner : ℕ → Owner

abbrev pub bound : (parent : ℕ) → (is_asked : Bool) → Binding
bound p asked = record { parent = Some p; is_asked = asked; is_orphan = false }

-- a context whose group ended by a fault
abbrev pub orphan : Binding
orphan = record { parent = None; is_asked = false; is_orphan = true }

-- the context of an open row, by what made it
abbrev pub IsRowContext : State → Forest → Assigned → ℕ → Kind → Type 0
IsRowContext s forest at n kind.Root = at.of_row n ≡ at.of_job (row s.rows n).job
IsRowContext s forest at n kind.Posted = at.of_row n ≡ at.of_job (row s.rows n).job
IsRowContext s forest at n (kind.Region m) = at.of_row n ≡ at.of_row m
IsRowContext s forest at n (kind.Spawned m g) =
    (at.owner (at.of_row n) ≡ OfRow n) ×
    (((is_open (row s.rows m).phase ≡ true) × ((c : ℕ) × (at.of_group m g ≡ Some c) × (binding forest (at.of_row n) ≡ Some (bound c false)))) ⊎
    ((is_open (row s.rows m).phase ≡ false) × (binding forest (at.of_row n) ≡ Some orphan)))

-- what is held for a group: a context if it is used or cancelled
abbrev pub IsGroupContext : State → Forest → Assigned → (n g : ℕ) → Option ℕ → Type 0
IsGroupContext s forest at n g None = (is_used s.rows n g ≡ false) × ((mark s.rows n g).cancelled ≡ false)
IsGroupContext s forest at n g (Some c) = (at.owner c ≡ OfGroup n g) × (binding forest c ≡ Some (bound (at.of_row n) (mark s.rows n g).cancelled))

-- A job is neither retired nor released.
pub record IsKept (jobs : List Work) (j : ℕ) : Type 0 where
  pub from : 1 ≤ j
  pub kept : (job jobs j).retired ≡ false

-- a context that is held is what its owner holds
abbrev pub IsOwned : State → Assigned → (c : ℕ) → Owner → Type 0
IsOwned s at c Nobody = ⊥
IsOwned s at c (OfJob j) = (at.of_job j ≡ c) × IsKept s.jobs j × (j ≤ length s.jobs)
IsOwned s at c (OfRow n) = (at.of_row n ≡ c) × (is_open (row s.rows n).phase ≡ true) × ((m : ℕ) × (g : ℕ) × ((row s.rows n).kind ≡ kind.Spawned m g))
IsOwned s at c (OfGroup n g) = (at.of_group n g ≡ Some c) × (is_open (row s.rows n).phase ≡ true) × (g < GROUPS)

-- how many contexts an entry holds
abbrev pub one_if : Bool → ℕ
one_if b = if b then 1 else 0

abbrev pub is_spawned : Source → Bool
is_spawned (source.Spawned m g) = true
is_spawned s = false

abbrev pub held_by : Option OpenRow → ℕ
held_by None = 0
held_by (Some e) = one_if (is_spawned e.source) + count_by (λ (c : Option ℕ). is_some c) e.group_contexts

-- The contexts of rows, of their groups, and of the jobs that are kept, which are `current`.
pub record AreContexts (s : State) (current : ℕ) (table : List (Option OpenRow)) (forest : Forest) (at : Assigned) : Type 0 where
  pub of_jobs : (j : ℕ) → IsKept s.jobs j → j ≤ length s.jobs → (at.owner (at.of_job j) ≡ OfJob j)
      × (binding forest (at.of_job j) ≡ Some (record { parent = None; is_asked = is_job_cancelled (job s.jobs j); is_orphan = false }))
  pub of_rows : (n : ℕ) → is_open (row s.rows n).phase ≡ true → IsRowContext s forest at n (row s.rows n).kind
  pub of_groups : (n g : ℕ) → is_open (row s.rows n).phase ≡ true → g < GROUPS → IsGroupContext s forest at n g (at.of_group n g)
  pub bare : (n g : ℕ) → is_unstarted (row s.rows n).phase ≡ true → at.of_group n g ≡ None
  pub owned : (c : ℕ) → IsHeld forest c → IsOwned s at c (at.owner c)
  pub in_table : (p : ℕ) (e : OpenRow) → at_place table p ≡ Some e → (e.context ≡ at.of_row e.number) × ((g : ℕ) → g < GROUPS → slice_index_or e.group_contexts g None ≡ at.of_group e.number g)
  pub count : held_count forest ≡ sum_by held_by table + current

-- how many rows of a job are open
abbrev pub open_of : List Row → ℕ → ℕ
open_of rows j = count_by (λ (r : Row). (r.job == j) && is_open r.phase) rows

-- a job that is kept, of that number
pub record IsJob (rows : List Row) (at : Assigned) (j : ℕ) (it : CurrentJob) : Type 0 where
  pub current : it.work.retired ≡ false
  pub value : it.value ≡ value_in (row rows it.work.root).phase
  pub opened : it.open_rows ≡ open_of rows j
  pub context : it.context ≡ at.of_job j

-- A job of that number is among those that are held.
pub record HasJob (jobs : List CurrentJob) (j : ℕ) : Type 0 where
  pub place : ℕ
  pub within : place < length jobs
  pub number : (d : CurrentJob) → (get_or jobs place d).number ≡ j

-- The jobs that are held are those that are kept.
pub record AreJobs (s : State) (at : Assigned) (jobs : List CurrentJob) : Type 0 where
  pub order : NumbersRise jobs
  pub there : (i : ℕ) (d : CurrentJob) → i < length jobs → (1 ≤ (get_or jobs i d).number) × ((get_or jobs i d).number ≤ length s.jobs)
  pub works : (i : ℕ) (d : CurrentJob) → i < length jobs → job s.jobs (get_or jobs i d).number ≡ (get_or jobs i d).work
  pub each : (i : ℕ) (d : CurrentJob) → i < length jobs → IsJob s.rows at (get_or jobs i d).number (get_or jobs i d)
  pub all : (j : ℕ) → IsKept s.jobs j → j ≤ length s.jobs → HasJob jobs j
  pub later : (n : ℕ) → is_open (row s.rows n).phase ≡ true → IsKept s.jobs (row s.rows n).job
  pub many : current_jobs s ≡ length jobs
  pub few : length jobs ≤ MAX_JOBS

-- What is held stands for the state.
pub record Holds (a : Held) (s : State) : Type 0 where
  pub config : a.config ≡ s.config
  pub places : Places
  pub assigned : Assigned
  pub made : a.made ≡ length s.rows
  pub made_jobs : a.made_jobs ≡ length s.jobs
  pub table : AreRows s.rows places a.table
  pub free : AreFree s.rows a.config.rows a.table
  pub nests : AreNests s.rows places a.config.slots a.nests
  pub tags : AreTagged s.rows places a.table a.regions
  pub waiting : a.pool ≡ record { isolation = a.config.isolation; limit = a.config.rows; slots = a.config.slots; rows = map (waiting_of s.rows places) (waiting s.rows) }
  pub contexts : AreContexts s (length a.jobs) a.table a.contexts assigned
  pub room : length a.contexts ≡ BASE_CONTEXTS + CONTEXTS_PER_ROW * a.config.rows
  pub jobs : AreJobs s assigned a.jobs
  pub cells : a.cells ≡ s.cells
  pub entries : a.entries ≡ s.entries
  pub epoch : a.epoch ≡ s.epoch
  pub steady : IsSteady s

-- And the state has settled, as between steps.
pub record Rests (a : Held) (s : State) : Type 0 where
  pub holds : Holds a s
  pub settled : IsSettled s

-- A step gives what the definitions give: the answer, and a state that the parts then rest on.
abbrev pub Gives : {A : Type 0} → (b : Held) → (answer : A) → A × State → Type 0
Gives b answer step = (answer ≡ step.0) × Rests b step.1

-- Some state is there that it stands for.
abbrev pub RestsSomehow : Held → Type 0
RestsSomehow a = (s : State) × Rests a s

abbrev pub HoldsSomehow : Held → Type 0
HoldsSomehow a = (s : State) × Holds a s

-- A row is on a slot, in some state that is held.
abbrev pub HasTop : Held → (slot : ℕ) → Type 0
HasTop a slot = (s : State) × (n : ℕ) × Holds a s × (top s.rows slot ≡ Some n)

-- What is held after a group of row n was given the context c.
pub record IsGiven (a b : Held) (s : State) (is : Holds a s) (n g c : ℕ) : Type 0 where
  pub holds : Holds b s
  pub places : (m : ℕ) → holds.places m ≡ is.places m
  pub given : holds.assigned.of_group n g ≡ Some c

-- A row of a job without a fault is on a slot, in some settled state that is held, and a group of it has the context c.
abbrev pub HasGroup : Held → (slot g c : ℕ) → Type 0
HasGroup a slot g c = (s : State) × (n : ℕ) × (is : Holds a s) × IsSettled s × (top s.rows slot ≡ Some n) × (is.assigned.of_group n g ≡ Some c) × ((job s.jobs (row s.rows n).job).fault ≡ None)
