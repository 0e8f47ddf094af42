use Rattle.std.proofs.Common.{length, refl}
use Rattle.job_compiler.proofs.compile.plain_proc.Goals as goal

pub returns-in-None : goal.returns-in-None
returns-in-None c valid = c.in-None.ensures.none refl (length c.args.code.now) valid.each
