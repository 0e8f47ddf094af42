-- A job's outline as the code has it.
use Rattle.std.specs.Prelude.{map}
use Rattle.serde_json.specs.View.{view}
use Rattle.job_json.specs.Job as job
use Rattle.job_json.specs.declared.reading.jobs.Outline.{Outline}

abbrev pub shape : Outline → job.Outline
shape o = record { args = o.args; fuel = o.fuel; procs = map view o.procs.now }
