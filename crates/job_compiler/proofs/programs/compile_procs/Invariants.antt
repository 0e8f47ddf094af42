use Rattle.std.proofs.Common.{◌≡◌, ◌≤◌, ◌+◌, All, length, map, take}
use Rattle.std.specs.Prelude.{vec_capacity}
use Rattle.job_compiler.specs.Code.{function_code}
use Rattle.job_compiler.specs.Programs.{FitsProgram}
use Rattle.job_compiler.proofs.programs.compile_procs.Given as goal

abbrev pub invariant-loop-number : goal.invariant-loop-number
invariant-loop-number l = record {
  code : l.procs.items ≡ map function_code (take l.number l.functions);
  fits : All (FitsProgram (length l.functions)) (take l.number l.functions);
  each : length l.functions ≤ l.number + length l.each.items;
  room : length l.functions ≤ vec_capacity l.procs;
}
