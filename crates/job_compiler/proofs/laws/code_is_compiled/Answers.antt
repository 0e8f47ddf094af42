use Rattle.job_compiler.proofs.Start.{is_compiled}
use Rattle.job_compiler.proofs.laws.code_is_compiled.Goals as goal

pub returns : goal.returns
returns c = is_compiled
