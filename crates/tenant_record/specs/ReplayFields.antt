-- What the fields of an arena with its history say.
use Rattle.std.specs.Prelude.{◌≤◌, vec_capacity}
use Rattle.job_language.specs.Tenant.{IsValidTenant}
use Rattle.tenant_record.specs.History.{state_after, IsHistory}
use Rattle.tenant_record.specs.Replayed.{Replayed}
use Rattle.arena_core.specs.Stands.{StandsFor}
use Rattle.tenant_record.specs.declared.replay.Replay.TheInside.{Inside}

abbrev pub replayed : Inside → Replayed
replayed r = record { config = r.config; history = r.history.items }

pub record IsReplay (r : Inside) : Type 0 where
  pub arena : StandsFor r.arena (state_after r.config r.history.items)
  pub history : IsHistory r.config r.history.items
  pub valid : IsValidTenant r.config
  -- Room for all that the history may have is reserved.
  pub room : r.config.steps ≤ vec_capacity r.history
