use Rattle.std.proofs.Common.{rules, arith}
use Rattle.job_compiler.proofs.Emitted.{function_length}
use Rattle.job_compiler.proofs.compile.code_in.Goals as goal

pub returns-in-Some-clause-accepted : goal.returns-in-Some-clause-accepted
returns-in-Some-clause-accepted c = record {
  function = search rules;
  values = search rules;
  short = omega (arith, function_length c.args.function.now, c.in-Some.ensures);
}

pub returns-in-None-clause-refused : goal.returns-in-None-clause-refused
returns-in-None-clause-refused c = (search rules, search rules, omega (arith, function_length c.args.function.now, c.in-None.ensures))
