use Rattle.std.proofs.Common.{◌≡◌, length, map, drop, slice_get, ◌-◌}
use Rattle.std.specs.Prelude.{All, IfSome, IsTrue}
use Rattle.serde_json.specs.View.{view}
use Rattle.job_json.specs.Job.{instrs_from, proc_of}
use Rattle.job_language.specs.Program.{IsInRange, Calls, is_last}
use Rattle.job_json.proofs.Fronts.{with_front}
use Rattle.job_json.proofs.reading.jobs.read_instrs.Given as goal

abbrev pub invariant-loop-place : goal.invariant-loop-place
invariant-loop-place l = record {
  read : with_front l.instrs.items (instrs_from l.procs l.number (length l.values) l.place (map view (drop l.place l.values))) ≡ proc_of l.procs l.number (map view l.values);
  count : length l.instrs.items ≡ l.place;
  in_range : All (IsInRange (length l.values)) l.instrs.items;
  calls : All (Calls l.procs) l.instrs.items;
  ends : l.place ≡ length l.values → IfSome (slice_get l.instrs.items (length l.instrs.items - 1)) (λ i. IsTrue (is_last i));
}
