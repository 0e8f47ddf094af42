use Rattle.job_step.specs.Run.{run_of}
use Rattle.job_compiler.proofs.RunsFollow.{run_follows}
use Rattle.job_compiler.proofs.laws.runs_follow.Goals as goal

pub returns : goal.returns
returns c procs slot width p f same = run_follows procs slot width p f same (run_of procs slot width f) (c.runs_are_least.ensures.least procs slot width f)
