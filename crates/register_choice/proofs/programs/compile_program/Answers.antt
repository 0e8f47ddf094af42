use Rattle.std.proofs.Common.{sym, subst, arith}
use Rattle.std.proofs.lemmas.Grind.{common_steps}
use Rattle.job_compiler.specs.Programs.{HasCount, IsCompiledProgram}
use Rattle.register_choice.proofs.WholePrograms.{whole_program}
use Rattle.register_choice.proofs.programs.compile_program.Goals as goal

pub new-requires : goal.new-requires
new-requires c =
    let count : HasCount c.args.functions.now = (grind (arith, common_steps), omega arith) in
    (whole_program c.args.functions.now _ count c.in_ok-procs.ensures.compiled c.in_ok-procs.ensures.valid c.in_ok-procs.ensures.calls).valid

pub returns-in-Ok-clause-compiled : goal.returns-in-Ok-clause-compiled
returns-in-Ok-clause-compiled c =
    let fs = c.args.functions.now in
    let count : HasCount fs = (grind (arith, common_steps), omega arith) in
    subst (IsCompiledProgram fs) (sym c.in-Ok.ensures) (whole_program fs _ count c.in_ok-procs.ensures.compiled c.in_ok-procs.ensures.valid c.in_ok-procs.ensures.calls)
