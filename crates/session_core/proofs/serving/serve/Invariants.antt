use Rattle.std.proofs.Common.{false}
use Rattle.request_reader.specs.Calls.{AreCalls}
use Rattle.request_reader.specs.Reading.{work_left}
use Rattle.request_reader.specs.declared.turns.TheConstants.{MAX_TURNS}
use Rattle.nested_wait.specs.Runs.{Attends}
use Rattle.nested_wait.specs.Turns.{Turn}
use Rattle.session_core.specs.Replies.{Replies}
use Rattle.session_core.specs.Sessions.{Served}
use Rattle.session_core.proofs.serving.serve.Given as goal

abbrev pub invariant-loop-lines : goal.invariant-loop-lines
invariant-loop-lines g l = record {
  calls : AreCalls g.R.Source.called MAX_TURNS l.lines.turns l.fn.reader l.reader;
  served : Served (Replies g.D.Doors.finds g.D.Doors.binds g.D.Doors.asks g.D.Doors.waits (Attends (Turn g.D.Door.views g.D.Door.commits g.D.Door.advances) g.D.Door.heights g.D.Door.pauses 1)) l.lines
      (g.R.Read.remaining l.fn.reader) (g.R.Read.remaining l.reader) (g.W.Write.contents l.fn.writer) (g.W.Write.contents l.writer) (false, l.fn.doors) (l.is_bound, l.doors);
}

abbrev pub decreases-loop-lines : goal.decreases-loop-lines
decreases-loop-lines g l = work_left l.lines
