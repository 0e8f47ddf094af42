use Rattle.std.proofs.Common.{◌≡◌, ◌-◌, ◌<◌, List, [], length}
use Rattle.std.specs.Prelude.{slice_index_or}
use Rattle.job_language.specs.declared.instructions.Instr.{Instr}
use Rattle.job_step.specs.InsideRun.{frame_of}
use Rattle.job_step.specs.Run.{run_for, run_of}
use Rattle.job_step.proofs.runs.run_in.Given as goal

abbrev pub invariant-loop-count : goal.invariant-loop-count
invariant-loop-count l = record {
  place : l.place < length l.instrs;
  procedure : l.frame.procedure ≡ l.initial.frame.procedure;
  run : (procs : List (List Instr)) → slice_index_or procs l.initial.frame.procedure [] ≡ l.instrs →
      run_for (1000 - l.count) procs l.slot l.width l.initial.frame l.count (frame_of l.procedure l.place l.frame.registers) ≡ run_of procs l.slot l.width l.initial.frame;
}
