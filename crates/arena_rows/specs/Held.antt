-- What an arena holds.
use Rattle.std.specs.Prelude.{ℕ, ◌≡◌, ◌<◌, ◌≤◌, List, Option, count_by, get_or, is_some, length, nat_lt, vec_capacity}
use Rattle.std.specs.List.{prefix_len}
use Rattle.job_language.specs.declared.tenants.Tenant.{Tenant}
use Rattle.cancel_context.specs.Forest.{Forest}
use Rattle.nest_stack.specs.Nest.{Stacks}
use Rattle.ready_pool.specs.Ready.{Ready}
use Rattle.region_tag.specs.Region.{Table}
use Rattle.thread_cells.specs.Cells as cells
use Rattle.tenant_model.specs.declared.works.TheConstants.{MAX_JOBS}
use Rattle.arena_rows.specs.declared.rows.OpenRow.{OpenRow}
use Rattle.arena_rows.specs.declared.rows.CurrentJob.{CurrentJob}
use Rattle.arena_rows.specs.declared.parts.Parts.TheInside.{Inside}

-- The open rows stand by their places.
pub record Held : Type 0 where
  pub config : Tenant
  pub table : List (Option OpenRow)
  pub made : ℕ
  pub jobs : List CurrentJob
  pub made_jobs : ℕ
  pub cells : cells.Table
  pub entries : ℕ
  pub epoch : ℕ
  pub regions : Table
  pub contexts : Forest
  pub pool : Ready
  pub nests : Stacks

abbrev pub shown : Inside → Held
shown p = record {
  config = p.config;
  table = p.rows.table;
  made = p.made;
  jobs = p.jobs.items;
  made_jobs = p.made_jobs;
  cells = p.cells;
  entries = p.entries;
  epoch = p.epoch;
  regions = p.regions;
  contexts = p.rows.contexts;
  pool = p.pool;
  nests = p.nests;
}

-- A job more needs no memory.
abbrev pub IsRoomy : Inside → Type 0
IsRoomy p = MAX_JOBS ≤ vec_capacity p.jobs

-- how many jobs stand before that of a number, where the numbers rise
abbrev pub place_of : List CurrentJob → (job : ℕ) → ℕ
place_of jobs j = prefix_len (λ (it : CurrentJob). nat_lt it.number j) jobs

-- The jobs stand in the order of their numbers.
abbrev pub NumbersRise : List CurrentJob → Type 0
NumbersRise jobs = (i k : ℕ) (d : CurrentJob) → i < k → k < length jobs → (get_or jobs i d).number < (get_or jobs k d).number

-- Some place is free.
abbrev pub HasFreePlace : Held → Type 0
HasFreePlace a = count_by is_some a.table < length a.table
