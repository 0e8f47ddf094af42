use Rattle.std.proofs.Common.{◌≡◌, ◌≤◌, ◌+◌, [], unwrap_or, IsSome}
use Rattle.request_reader.specs.Calls.{AreCalls}
use Rattle.request_reader.specs.Reading.{lines_left, work_left}
use Rattle.arena_script.specs.DumpReads.{read_on}
use Rattle.arena_script.proofs.dumps.read_on.Given as goal

abbrev pub invariant-loop-lines : goal.invariant-loop-lines
invariant-loop-lines g l = record {
  -- what the lines that are left come to is what all come to
  same : IsSome (g.R.Read.remaining l.initial.reader) →
      IsSome (g.R.Read.remaining l.reader)
      × (read_on (lines_left l.initial.lines (unwrap_or (g.R.Read.remaining l.initial.reader) [])) 2 l.initial.dump
      ≡ read_on (lines_left l.lines (unwrap_or (g.R.Read.remaining l.reader) [])) l.number l.dump);
  calls : AreCalls g.R.Source.called l.initial.lines.turns l.lines.turns l.initial.reader l.reader;
  work : l.number + work_left l.lines ≤ 2 + work_left l.initial.lines;
}

abbrev pub decreases-loop-lines : goal.decreases-loop-lines
decreases-loop-lines g l = work_left l.lines
