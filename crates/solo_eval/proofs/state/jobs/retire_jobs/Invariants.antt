use Rattle.std.proofs.Common.{◌≡◌, ◌++◌, drop, take, map}
use Rattle.tenant_model.specs.Asks.{retired_work}
use Rattle.solo_eval.proofs.state.jobs.retire_jobs.Given as goal

abbrev pub invariant-loop-work : goal.invariant-loop-work
invariant-loop-work l = l.jobs ≡ map retired_work (take l.work-index l.fn.jobs) ++ drop l.work-index l.fn.jobs
