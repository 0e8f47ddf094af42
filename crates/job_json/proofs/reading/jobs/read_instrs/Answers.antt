use Rattle.std.proofs.Common.{arith, length}
use Rattle.std.specs.Prelude.{IsTrue}
use Rattle.std.proofs.lemmas.Grind.{common_steps}
use Rattle.std.proofs.lemmas.List.Elements.{All-push}
use Rattle.job_language.specs.Program.{IsInRange, Calls, is_last}
use Rattle.job_json.proofs.Fronts.{IfSome-push_last}
use Rattle.job_json.proofs.reading.jobs.read_instrs.Goals as goal

pub loop-place-preserved : goal.loop-place-preserved
loop-place-preserved c = record {
  read = grind (arith, common_steps);
  count = grind (arith, common_steps);
  in_range = rw c.in_ok-push.ensures.items (All-push (IsInRange (length c.args.values.now)) _ _ c.loop-place.invariant.in_range c.in-Some.ensures.in_range);
  calls = rw c.in_ok-push.ensures.items (All-push (Calls c.args.procs) _ _ c.loop-place.invariant.calls c.in-Some.ensures.calls);
  ends = λ at_end. rw c.in_ok-push.ensures.items (IfSome-push_last (λ i. IsTrue (is_last i)) c.loop-place.instrs.items c.in-Some.instr (c.in-Some.ensures.ends at_end));
}
