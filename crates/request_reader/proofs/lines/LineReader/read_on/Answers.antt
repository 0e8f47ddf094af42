use Rattle.std.proofs.Common.{[], ◌∙◌, arith}
use Rattle.request_reader.proofs.Telling.{Reads-then}
use Rattle.request_reader.proofs.Calling.{one_call, calls_then}
use Rattle.request_reader.proofs.Work.{lowers-turns}
use Rattle.request_reader.specs.LineReads.{told_by}
use Rattle.request_reader.proofs.lines.LineReader.read_on.Goals as goal

pub returns-in-Some-turn-clause-reads : goal.returns-in-Some-turn-clause-reads
returns-in-Some-turn-clause-reads g c =
    Reads-then c.args.self.now c.loop-self.self c.turn.new.self _ _ _ [] (told_by c.in-Some-turn.told c.turn.new.self) c.loop-self.invariant.reads c.in-Some-turn.ensures.turns_to.0

pub returns-in-Some-turn-clause-lowers : goal.returns-in-Some-turn-clause-lowers
returns-in-Some-turn-clause-lowers g c =
    let before = c.loop-self.invariant.reads in
    lowers-turns c.in-Some-turn.told c.args.self.now c.turn.new.self (c.in-Some-turn.ensures.turns_to.0.tells.limit ∙ before.tells.limit) (omega (arith, c.turn.ensures.turns, before.turns))
    c.turn.ensures.room

pub loop-self-preserved : goal.loop-self-preserved
loop-self-preserved g c = record {
  reads = Reads-then c.args.self.now c.loop-self.self c.turn.new.self _ _ _ [] [] c.loop-self.invariant.reads c.in_default-turn.ensures.turns_to.0;
  pending = c.in_default-turn.ensures.turns_to.1;
  calls = calls_then g.R.Source.called c.args.self.now.turns c.loop-self.self.turns c.turn.new.self.turns _ _ _ c.loop-self.invariant.calls
      (one_call g.R.Source.called _ _ _ _ c.turn.ensures.turns c.turn.ensures.called);
  unread = λ same. absurd (omega (arith, c.in_default-turn.ensures.turns, c.loop-self.invariant.reads.turns));
}

pub returns-in-Some-turn-clause-calls : goal.returns-in-Some-turn-clause-calls
returns-in-Some-turn-clause-calls g c =
    calls_then g.R.Source.called c.args.self.now.turns c.loop-self.self.turns c.turn.new.self.turns _ _ _ c.loop-self.invariant.calls
    (one_call g.R.Source.called _ _ _ _ c.turn.ensures.turns c.turn.ensures.called)
