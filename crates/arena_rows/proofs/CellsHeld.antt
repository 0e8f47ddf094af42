-- What is held stands for the state with other cells.
use Rattle.std.proofs.Common.{ℕ, ℤ, refl}
use Rattle.tenant_model.specs.State.{State}
use Rattle.thread_cells.specs.Cells.{Table, with_cell}
use Rattle.tenant_model.specs.Changes.{with_cells}
use Rattle.tenant_model.specs.WellFormed.{IsTable}
use Rattle.tenant_model.proofs.KeptSteps.{with_cell_kept}
use Rattle.tenant_model.proofs.Steady.{steady_cells}
use Rattle.arena_rows.specs.Held.{Held}
use Rattle.arena_rows.specs.Represents.{Holds, Rests}
use Rattle.arena_rows.specs.HeldChanges.{with_cells_held}

pub cells_hold : (a : Held) (s : State) (t : Table) → IsTable t → Holds a s → Holds (with_cells_held a t) (with_cells s t)
cells_hold a s t table is = record {
  config = is.config;
  places = is.places;
  assigned = is.assigned;
  made = is.made;
  made_jobs = is.made_jobs;
  table = is.table;
  free = is.free;
  nests = is.nests;
  tags = is.tags;
  waiting = is.waiting;
  contexts = record {
    of_jobs = is.contexts.of_jobs;
    of_rows = is.contexts.of_rows;
    of_groups = is.contexts.of_groups;
    bare = is.contexts.bare;
    owned = is.contexts.owned;
    in_table =
        is.contexts.in_table;
    count = is.contexts.count;
  };
  room = is.room;
  jobs = record { order = is.jobs.order; there = is.jobs.there; works = is.jobs.works; each = is.jobs.each; all = is.jobs.all; later = is.jobs.later; many = is.jobs.many; few = is.jobs.few };
  cells = refl;
  entries = is.entries;
  epoch = is.epoch;
  steady = steady_cells s is.steady t table;
}

-- with one cell changed
pub cell_holds : (a : Held) (s : State) (key slot : ℕ) (v : ℤ) → Holds a s → Holds (with_cells_held a (with_cell a.cells key slot v)) (with_cells s (with_cell s.cells key slot v))
cell_holds a s key slot v is = let same = is.cells in rw same (cells_hold a s (with_cell s.cells key slot v) (with_cell_kept s.cells key slot v is.steady.formed.table) is)

pub cell_rests : (a : Held) (s : State) (key slot : ℕ) (v : ℤ) → Rests a s → Rests (with_cells_held a (with_cell a.cells key slot v)) (with_cells s (with_cell s.cells key slot v))
cell_rests a s key slot v is = record { holds = cell_holds a s key slot v is.holds; settled = is.settled }
