use Rattle.std.proofs.Common.{rules, arith}
use Rattle.request_reader.proofs.Calling.{calls_then}
use Rattle.arena_script.proofs.inputs.next_input.Goals as goal

pub returns-in_err-input-clause-calls : goal.returns-in_err-input-clause-calls
returns-in_err-input-clause-calls g c = calls_then g.R.Source.called _ _ _ _ _ _ c.loop-lines.invariant.calls c.next_line.ensures.calls

pub loop-lines-preserved : goal.loop-lines-preserved
loop-lines-preserved g c = record {
  left = search rules;
  work = search rules;
  calls = calls_then g.R.Source.called _ _ _ _ _ _ c.loop-lines.invariant.calls c.next_line.ensures.calls;
  turns = omega (arith, c.loop-lines.invariant.turns, c.next_line.ensures.turns);
}

pub returns-in_default-clause-calls : goal.returns-in_default-clause-calls
returns-in_default-clause-calls g c = calls_then g.R.Source.called _ _ _ _ _ _ c.loop-lines.invariant.calls c.next_line.ensures.calls

pub returns-in_default-2 : goal.returns-in_default-2
returns-in_default-2 g c = record {
  lines = search rules;
  known = search rules;
  end = search rules;
  lowers = search rules;
  device = search rules;
  calls = calls_then g.R.Source.called _ _ _ _ _ _ c.loop-lines.invariant.calls c.next_line.ensures.calls;
  cause = search rules;
}
