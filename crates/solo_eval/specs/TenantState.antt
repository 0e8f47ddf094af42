-- The state that the evaluator holds.
use Rattle.tenant_model.specs.State.{State}
use Rattle.solo_eval.specs.declared.state.TenantState.TheInside.{Inside}

abbrev pub shown : Inside → State
shown s = record {
  config = s.config;
  rows = s.rows.items;
  jobs = s.jobs.items;
  cells = s.cells;
  entries = s.entries;
  epoch = s.epoch;
}
