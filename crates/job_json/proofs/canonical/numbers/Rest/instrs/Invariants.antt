use Rattle.std.specs.Prelude.{All}
use Rattle.job_language.specs.Program.{IsInRange}
use Rattle.job_language.specs.declared.programs.TheConstants.{MAX_INSTRS}
use Rattle.job_json.specs.CanonicalText.{instr_then}
use Rattle.job_json.proofs.Listed.{Continues}
use Rattle.job_json.proofs.canonical.numbers.Rest.instrs.Given as goal

abbrev pub invariant-loop : goal.invariant-loop
invariant-loop l = record {
  text : Continues instr_then l.fn.self.bytes.now l.self.bytes.now l.instrs.items;
  each : All (IsInRange MAX_INSTRS) l.instrs.items;
}
