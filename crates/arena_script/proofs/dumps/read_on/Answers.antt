use Rattle.std.proofs.Common.{◌≡◌, rules, Err}
use Rattle.request_reader.proofs.Calling.{calls_then}
use Rattle.arena_script.specs.declared.ends.ScriptEnd.TheVariants.{Device}
use Rattle.arena_script.proofs.Causes.{lost_with}
use Rattle.arena_script.proofs.dumps.read_on.Goals as goal

pub returns-in_err-next_line-clause-cause : goal.returns-in_err-next_line-clause-cause
returns-in_err-next_line-clause-cause g c =
    let calls = calls_then g.R.Source.called _ _ _ _ _ _ c.loop-lines.invariant.calls c.next_line.ensures.calls in
    let lost : c.from_residual.result ≡ Err Device = search rules in
    lost_with _ _ _ _ _ _ _ _ lost calls c.in_err-next_line.ensures.cause

pub loop-lines-preserved : goal.loop-lines-preserved
loop-lines-preserved g c = record {
  same = search rules;
  calls = calls_then g.R.Source.called _ _ _ _ _ _ c.loop-lines.invariant.calls c.next_line.ensures.calls;
  work = search rules;
}
