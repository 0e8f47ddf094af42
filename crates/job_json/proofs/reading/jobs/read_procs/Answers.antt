use Rattle.std.proofs.Common.{arith, length}
use Rattle.std.specs.Prelude.{All}
use Rattle.std.proofs.lemmas.Grind.{common_steps}
use Rattle.std.proofs.lemmas.Bool.{and_parts}
use Rattle.std.proofs.lemmas.List.Elements.{All-push}
use Rattle.serde_json.specs.View.{view}
use Rattle.job_json.specs.Job.{is_proc}
use Rattle.job_language.specs.Program.{IsValidProc, Calls}
use Rattle.job_json.proofs.Fronts.{passes_at}
use Rattle.job_json.proofs.reading.jobs.read_procs.Goals as goal

pub read_proc-requires-clause-list : goal.read_proc-requires-clause-list
read_proc-requires-clause-list c =
    passes_at is_proc view c.args.values.now c.loop-number.number c.index-values-number.result (and_parts _ _ c.requires).1 c.loop-number-test.true c.index-values-number.is

pub loop-number-preserved : goal.loop-number-preserved
loop-number-preserved c = record {
  read = grind (arith, common_steps);
  count = grind (arith, common_steps);
  valid = rw c.in_ok-push.ensures.items (All-push IsValidProc _ _ c.loop-number.invariant.valid c.in_ok-read_proc.ensures.valid);
  calls = rw c.in_ok-push.ensures.items (All-push (All (Calls (length c.args.values.now))) _ _ c.loop-number.invariant.calls c.in_ok-read_proc.ensures.calls);
}
