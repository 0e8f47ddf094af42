use Rattle.std.proofs.Common.{refl}
use Rattle.arena_compile.proofs.jobs.job_with.Goals as goal

pub returns-clause-made : goal.returns-clause-made
returns-clause-made c = record {
  program = record { functions = c.args.functions.now; said = c.requires; compiled = c.in_ok-program.ensures.compiled };
  given = refl;
  fuel = c.most_fuel-fuel.ensures;
}
