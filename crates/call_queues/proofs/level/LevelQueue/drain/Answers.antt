use Rattle.std.proofs.Common.{◌≡◌, ◌<◌, ◌++◌, ◌∷◌, [], length, vec_capacity, ◌∙◌, arith}
use Rattle.std.proofs.lemmas.Grind.{common_steps}
use Rattle.std.specs.Result.{IsOk}
use Rattle.call_queues.proofs.Rules.{drains_at, drained, written_more, room_left}
use Rattle.call_queues.proofs.level.LevelQueue.drain.Goals as goal

pub pop_as-requires-clause-rule : goal.pop_as-requires-clause-rule
pop_as-requires-clause-rule g c = drains_at _ _ _ _ _ c.loop.invariant.knows c.requires.all

pub loop-preserved : goal.loop-preserved
loop-preserved g c =
    let d = drained _ _ _ _ _ c.loop.invariant.knows c.in-Some-pop_as.ensures.rule in
    let q = c.in-Some-pop_as.ensures.queue in
    let room : length c.loop.into.items < vec_capacity c.loop.into = room_left _ _ _ _ _ _ _ c.loop.invariant.written d.1 d.2 c.requires.room c.loop.invariant.capacity in
    let there : IsOk c.push.result = c.push.ensures.succeeds (let ok = c.loop.into.ok in omega arith) in
    let pushed : c.push.new.self.items ≡ c.loop.into.items ++ c.in-Some-pop_as.marked.call ∷ [] = grind (arith, common_steps, c.push.ensures.items, there) in
    record {
      next = tt;
      finite = tt;
      pass = (q.0 ∙ c.loop.invariant.pass.0, q.2 ∙ c.loop.invariant.pass.1);
      knows = d.0;
      written = written_more _ _ _ _ _ _ c.loop.invariant.written d.1 pushed;
      few = d.2;
      capacity = (let a = c.push.ensures.capacity in let b = c.loop.invariant.capacity in omega arith);
    }
