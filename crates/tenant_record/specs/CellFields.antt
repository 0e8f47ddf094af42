-- What the fields of a tenant's cell say.
use Rattle.std.specs.Prelude.{◌≤◌, vec_capacity}
use Rattle.job_language.specs.Tenant.{IsValidTenant}
use Rattle.tenant_record.specs.Cell.{CellData, IsRight, AreCounted}
use Rattle.tenant_record.specs.declared.cells.TenantCell.TheInside.{Inside}

abbrev pub cell_data : Inside → CellData
cell_data c = record { tenant = c.tenant; config = c.replay.config; history = c.replay.history; askers = c.askers.items; home = c.slots.home.items; idle_since = c.slots.idle_since }

pub record IsCell (c : Inside) : Type 0 where
  pub right : IsRight (cell_data c)
  pub counts : AreCounted c.replay.history c.slots.counts
  pub valid : IsValidTenant c.replay.config
  -- Room for an asker of each entry is reserved.
  pub room : c.replay.config.steps ≤ vec_capacity c.askers
