use Rattle.job_compiler.proofs.Refused.{not_refused}
use Rattle.register_choice.proofs.compile.compile_in.Goals as goal

pub returns-clause-accepted : goal.returns-clause-accepted
returns-clause-accepted c good = absurd (not_refused c.args.function.now c.in-Err.refusal good c.in-Err.ensures.refused)
