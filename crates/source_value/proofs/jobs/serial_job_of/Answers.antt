use Rattle.std.proofs.Common.{List, ℤ, map, subst}
use Rattle.source_tokens.specs.Givens.{view_given}
use Rattle.arena_compile.specs.Jobs.{IsJobOf}
use Rattle.source_value.proofs.Arguments.{stored_arguments}
use Rattle.source_value.proofs.jobs.serial_job_of.Goals as goal

pub returns-then-is_serial-clause-made : goal.returns-then-is_serial-clause-made
returns-then-is_serial-clause-made c =
    subst (λ (args : List ℤ). IsJobOf args (map view_given c.args.givens.now) c.args.text.now c.in-Ok.job)
    (stored_arguments c.args.first c.args.second c.ranges.first c.ranges.second) c.in-Ok.ensures.made
