use Rattle.std.proofs.Common.{◌≡◌, []}
use Rattle.request_reader.specs.Calls.{AreCalls}
use Rattle.request_reader.specs.Reading.{Reads, IsPending}
use Rattle.request_reader.proofs.lines.LineReader.read_on.Given as goal

abbrev pub invariant-loop-self : goal.invariant-loop-self
invariant-loop-self g l = record {
  reads : Reads l.fn.self l.self (g.R.Read.remaining l.fn.reader) (g.R.Read.remaining l.reader) [];
  pending : IsPending l.self;
  calls : AreCalls g.R.Source.called l.fn.self.turns l.self.turns l.fn.reader l.reader;
  unread : l.self.turns ≡ l.fn.self.turns → l.reader ≡ l.fn.reader;
}

abbrev pub decreases-loop-self : goal.decreases-loop-self
decreases-loop-self g l = l.self.turns
