use Rattle.std.proofs.Common.{◌≡◌, ◌≤◌, IsSome}
use Rattle.request_reader.specs.Calls.{AreCalls}
use Rattle.request_reader.specs.Reading.{work_left}
use Rattle.arena_script.specs.ScriptLines.{script_lines}
use Rattle.arena_script.proofs.inputs.next_input.Given as goal

abbrev pub invariant-loop-lines : goal.invariant-loop-lines
invariant-loop-lines g l = record {
  left : IsSome (g.R.Read.remaining l.initial.reader) →
      IsSome (g.R.Read.remaining l.reader)
      × (script_lines l.initial.lines (g.R.Read.remaining l.initial.reader) ≡ script_lines l.lines (g.R.Read.remaining l.reader));
  work : work_left l.lines ≤ work_left l.initial.lines;
  calls : AreCalls g.R.Source.called l.initial.lines.turns l.lines.turns l.initial.reader l.reader;
  turns : l.lines.turns ≤ l.initial.lines.turns;
}

abbrev pub decreases-loop-lines : goal.decreases-loop-lines
decreases-loop-lines g l = work_left l.lines
