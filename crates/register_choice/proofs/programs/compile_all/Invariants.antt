use Rattle.std.proofs.Common.{◌≡◌, ℕ, ◌≤◌, All, get_or, length, take}
use Rattle.std.specs.List.{AllZip}
use Rattle.job_language.specs.Program.{Calls, IsValidProc}
use Rattle.source_language.specs.declared.syntax.Function.{Function}
use Rattle.job_compiler.specs.Compiled.{IsCompiled}
use Rattle.register_choice.proofs.programs.compile_all.Given as goal

abbrev pub invariant-loop-number : goal.invariant-loop-number
invariant-loop-number l = record {
  compiled : AllZip IsCompiled (take l.number l.initial.functions) l.procs.items;
  valid : All IsValidProc l.procs.items;
  calls : All (All (Calls (length l.initial.functions))) l.procs.items;
  count : l.count ≡ length l.initial.functions;
  long : length l.functions ≡ length l.initial.functions;
  left : (k : ℕ) (d : Function) → l.number ≤ k → get_or l.functions k d ≡ get_or l.initial.functions k d;
}
