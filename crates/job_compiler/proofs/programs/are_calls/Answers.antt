use Rattle.std.proofs.Common.{rules, ◌<◌, length, All, subst, arith, take_all}
use Rattle.std.proofs.lemmas.List.Elements.{All-more}
use Rattle.job_language.specs.Program.{Calls}
use Rattle.job_compiler.proofs.programs.are_calls.Goals as goal

pub loop-instr-preserved : goal.loop-instr-preserved
loop-instr-preserved c =
    let within : c.loop-instr.instr-index < length c.args.instrs.now = omega arith in
    let fine : Calls c.args.procs c.instr-item.result = search rules in
    All-more (Calls c.args.procs) c.args.instrs.now c.loop-instr.instr-index c.instr-item.result within c.loop-instr.invariant (subst (Calls c.args.procs) c.instr-item.is fine)

pub returns : goal.returns
returns c = (
  λ yes. subst (All (Calls c.args.procs)) (take_all c.loop-instr.instr-index c.args.instrs.now (omega arith)) c.loop-instr.invariant,
  λ all. search rules,
)
