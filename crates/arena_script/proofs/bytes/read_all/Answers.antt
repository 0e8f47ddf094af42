use Rattle.std.proofs.Common.{◌-◌, refl, arith}
use Rattle.std.proofs.KnownBytes.{Consumes-nil, Consumes-trans}
use Rattle.request_reader.proofs.Calling.{calls_then, no_calls, one_call}
use Rattle.arena_script.proofs.Reading.{all_bytes}
use Rattle.arena_script.proofs.bytes.read_all.Goals as goal

pub turns-init : goal.turns-init
turns-init g c = record {
  came = rw c.new-bytes.ensures.items (Consumes-nil (g.R.Read.remaining c.args.reader.now));
  calls = no_calls g.R.Source.called _ _ _ _ refl refl;
  room = let long = c.in_ok-resize.ensures.len in omega (arith, long);
}

pub turns-preserved : goal.turns-preserved
turns-preserved g c =
    let comes = c.in_ok-read_more.ensures.comes in
    let left = c.turns-test.true in
    let once = one_call g.R.Source.called c.turns.turns (c.turns.turns - 1) _ _ (omega (arith, left)) c.read_more.ensures.called in
    let same = c.read_more.ensures.room in
    let room = c.turns.invariant.room in
    record {
      came = rw comes.added (Consumes-trans _ _ _ _ _ c.turns.invariant.came comes.consumed);
      calls = calls_then g.R.Source.called _ _ _ _ _ _ c.turns.invariant.calls once;
      room = omega (arith, same, room);
    }

pub returns-then-not-branch-clause-bytes : goal.returns-then-not-branch-clause-bytes
returns-then-not-branch-clause-bytes g c =
    let comes = c.in_ok-read_more.ensures.comes in
    all_bytes _ _ _ (rw comes.added (Consumes-trans _ _ _ _ _ c.turns.invariant.came comes.consumed)) (comes.end c.if-not-branch.true)
