-- The private run of a slot's topmost frame.
use Rattle.job_step.specs.declared.runs.Run.{Run}
use Rattle.job_step.specs.declared.segments.Top.{Top}
use Rattle.job_step.specs.Run.{run_of}

abbrev pub run_of_top : Top → Run
run_of_top t = run_of t.program t.slot t.width t.frame
