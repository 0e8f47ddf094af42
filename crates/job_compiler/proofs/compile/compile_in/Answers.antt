use Rattle.std.proofs.Common.{sym, subst, ◌∙◌}
use Rattle.job_language.specs.Program.{IsValidProc}
use Rattle.job_compiler.specs.declared.errors.Refusal.TheVariants.{TooManyRegisters}
use Rattle.job_compiler.proofs.Refused.{refused_all, refused_exactly}
use Rattle.job_compiler.proofs.Start.{is_compiled}
use Rattle.job_compiler.proofs.compile.compile_in.Goals as goal

pub returns-in-Some-clause-compiled : goal.returns-in-Some-clause-compiled
returns-in-Some-clause-compiled c procs p slot width x y is low_slot low_width fx fy =
    let f = c.args.function.now in
    let code = c.in-Ok.ensures.code in
    is_compiled f c.in-Ok.ensures.accepted.function (subst IsValidProc code c.in-Some.ensures.0) procs p slot width x y (is ∙ c.in-Some.ensures.1 ∙ code) low_slot low_width fx fy

pub returns-in-Ok-clause-accepted : goal.returns-in-Ok-clause-accepted
returns-in-Ok-clause-accepted c =
    let f = c.args.function.now in refused_all f TooManyRegisters (c.in-Ok.ensures.accepted, λ valid. c.in-None.ensures (subst IsValidProc (sym c.in-Ok.ensures.code) valid))

pub returns-in-Ok-clause-refused : goal.returns-in-Ok-clause-refused
returns-in-Ok-clause-refused c =
    let f = c.args.function.now in refused_exactly f TooManyRegisters (c.in-Ok.ensures.accepted, λ valid. c.in-None.ensures (subst IsValidProc (sym c.in-Ok.ensures.code) valid))

pub returns-clause-accepted : goal.returns-clause-accepted
returns-clause-accepted c = refused_all c.args.function.now c.in-Err.refusal c.in-Err.ensures.refused
