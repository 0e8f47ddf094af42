use Rattle.std.proofs.Common.{◌≡◌, ◌≤◌, [], length, sym, ap, arith}
use Rattle.std.specs.Prelude.{slice_index_or}
use Rattle.std.proofs.lemmas.List.{get_or_read}
use Rattle.job_step.proofs.RunSteps.{run_of-nowhere, instr_at-past_procs, instr_at-past_instrs}
use Rattle.job_step.proofs.runs.run_frame.Goals as goal

pub returns-then-procedure-procs-clause-run : goal.returns-then-procedure-procs-clause-run
returns-then-procedure-procs-clause-run c =
    let procs = c.args.program.now in
    let past : length procs ≤ c.args.frame.now.procedure = omega (arith, ap length c.procs-procs.ensures.value) in
    sym (run_of-nowhere procs _ _ c.args.frame.now (instr_at-past_procs procs c.args.frame.now past))

pub returns-then-from-instrs-clause-run : goal.returns-then-from-instrs-clause-run
returns-then-from-instrs-clause-run c =
    let procs = c.args.program.now in
    let f = c.args.frame.now in
    let proc = c.index-procs-procedure.result in
    let here : slice_index_or procs f.procedure [] ≡ proc =
    rw (← c.procs-procs.ensures.value, ← c.from-procedure.ensures) (sym (get_or_read c.procs-procs.result.now c.from-procedure.result proc (omega arith) c.index-procs-procedure.is [])) in
    let past : length (slice_index_or procs f.procedure []) ≤ f.place = rw here (omega (arith, ap length c.instrs-instrs.ensures.value)) in
    sym (run_of-nowhere procs _ _ f (instr_at-past_instrs procs f past))
