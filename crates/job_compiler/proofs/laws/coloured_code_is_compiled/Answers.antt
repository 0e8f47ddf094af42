use Rattle.job_compiler.proofs.Start.{is_compiled_coloured}
use Rattle.job_compiler.proofs.laws.coloured_code_is_compiled.Goals as goal

pub returns : goal.returns
returns c = is_compiled_coloured
