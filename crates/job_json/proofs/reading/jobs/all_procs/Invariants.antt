use Rattle.std.proofs.Common.{◌≡◌, map, drop}
use Rattle.std.specs.List.{list_all}
use Rattle.serde_json.specs.View.{view}
use Rattle.job_json.specs.Job.{is_proc}
use Rattle.job_json.proofs.reading.jobs.all_procs.Given as goal

abbrev pub invariant-loop-value : goal.invariant-loop-value
invariant-loop-value l = list_all is_proc (map view (drop l.value-index l.values)) ≡ list_all is_proc (map view l.values)
