-- Why no job can be made.
use Rattle.std.specs.Prelude.{Option, Some, None, if◌then◌else◌, nat_le}
use Rattle.job_language.specs.declared.errors.Error.{Error}
use Rattle.job_language.specs.declared.errors.Error.TheVariants.{JobLimit, TaskLimit}
use Rattle.tenant_model.specs.declared.works.TheConstants.{MAX_JOBS}
use Rattle.tenant_model.specs.State.{State}
use Rattle.tenant_model.specs.Changes.{is_row_limit_met}
use Rattle.tenant_model.specs.Asks.{current_jobs}

abbrev pub limit_of : State → Option Error
limit_of s = if nat_le MAX_JOBS (current_jobs s) then Some JobLimit else if is_row_limit_met s then Some TaskLimit else None
