use Rattle.std.proofs.Common.{◌≡◌, length, map, drop}
use Rattle.std.specs.Prelude.{All}
use Rattle.serde_json.specs.View.{view}
use Rattle.job_json.specs.Job.{procs_from}
use Rattle.job_language.specs.Program.{IsValidProc, Calls}
use Rattle.job_json.proofs.Fronts.{with_front}
use Rattle.job_json.proofs.reading.jobs.read_procs.Given as goal

abbrev pub invariant-loop-number : goal.invariant-loop-number
invariant-loop-number l = record {
  read : with_front l.procs.items (procs_from (length l.values) l.number (map view (drop l.number l.values))) ≡ procs_from (length l.values) 0 (map view l.values);
  count : length l.procs.items ≡ l.number;
  valid : All IsValidProc l.procs.items;
  calls : All (All (Calls (length l.values))) l.procs.items;
}
