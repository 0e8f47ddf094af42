-- What an arena holds at first.
use Rattle.std.specs.Prelude.{◌+◌, ◌*◌, [], None, replicate}
use Rattle.job_language.specs.declared.tenants.Tenant.{Tenant}
use Rattle.cancel_context.specs.declared.contexts.TheConstants.{BASE_CONTEXTS, CONTEXTS_PER_ROW}
use Rattle.ready_pool.specs.Ready as ready
use Rattle.thread_cells.specs.Cells.{no_cells}
use Rattle.arena_rows.specs.Held.{Held}

-- nothing, with all places free
abbrev pub founded : Tenant → Held
founded c = record {
  config = c;
  table = replicate c.rows None;
  made = 0;
  jobs = [];
  made_jobs = 0;
  cells = no_cells;
  entries = 0;
  epoch = 0;
  regions = replicate c.rows None;
  contexts = replicate (BASE_CONTEXTS + CONTEXTS_PER_ROW * c.rows) None;
  pool = ready.empty c.isolation c.rows c.slots;
  nests = replicate c.slots [];
}
