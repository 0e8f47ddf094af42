use Rattle.std.proofs.Common.{◌<◌, vec_len}
use Rattle.std.specs.Io.KnownBytes.{Consumes}
use Rattle.request_reader.specs.Calls.{AreCalls}
use Rattle.request_reader.specs.declared.turns.TheConstants.{MAX_TURNS}
use Rattle.arena_script.proofs.bytes.read_all.Given as goal

abbrev pub invariant-turns : goal.invariant-turns
invariant-turns g l = record {
  came : Consumes (g.R.Read.remaining l.initial.reader) (g.R.Read.remaining l.reader) l.bytes.items;
  calls : AreCalls g.R.Source.called MAX_TURNS l.turns l.initial.reader l.reader;
  room : 0 < vec_len l.room;
}

abbrev pub decreases-turns : goal.decreases-turns
decreases-turns g l = l.turns
