use Rattle.std.proofs.Common.{sym, subst, ◌∙◌}
use Rattle.job_language.specs.Program.{IsValidProgram}
use Rattle.job_compiler.specs.Programs.{IsCompiledProgram}
use Rattle.job_compiler.proofs.WholePrograms.{compiled_program, valid_program}
use Rattle.job_compiler.proofs.programs.compile_program.Goals as goal

pub new-requires-2 : goal.new-requires-2
new-requires-2 c = subst IsValidProgram (sym c.in_ok-compile_procs.ensures.code) (valid_program c.args.functions.now c.in_ok-compile_procs.ensures.accepted)

pub returns-in-Ok-new-clause-compiled : goal.returns-in-Ok-new-clause-compiled
returns-in-Ok-new-clause-compiled c =
    let fs = c.args.functions.now in subst (IsCompiledProgram fs) (sym (c.in-Ok-new.ensures ∙ c.in_ok-compile_procs.ensures.code)) (compiled_program fs c.in_ok-compile_procs.ensures.accepted)
