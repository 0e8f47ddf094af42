use Rattle.std.specs.Prelude.{All}
use Rattle.job_language.specs.Program.{IsValidProc}
use Rattle.job_json.specs.CanonicalText.{proc_then}
use Rattle.job_json.proofs.Listed.{Continues}
use Rattle.job_json.proofs.canonical.numbers.Rest.procs.Given as goal

abbrev pub invariant-loop : goal.invariant-loop
invariant-loop l = record {
  text : Continues proc_then l.fn.self.bytes.now l.self.bytes.now l.procs.items;
  each : All IsValidProc l.procs.items;
}
