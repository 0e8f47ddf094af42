use Rattle.std.proofs.Common.{[], ◌≡◌, ◌≤◌, ◌++◌, length, map, vec_capacity}
use Rattle.crossbeam_queue.specs.Passes.{view}
use Rattle.call_queues.specs.declared.marks.Marked.{Marked}
use Rattle.call_queues.specs.declared.marks.QueueView.TheVariants.{Keeper}
use Rattle.call_queues.specs.declared.marks.TheConstants.{MAX_CALLS}
use Rattle.call_queues.specs.Levels.{taken_in}
use Rattle.call_queues.proofs.level.LevelQueue.drain.Given as goal

abbrev pub invariant-loop : goal.invariant-loop
invariant-loop g l = record {
  next : (goal.iterator-loop g).can_next l.iterator';
  finite : (goal.iterator-loop g).is_finite l.iterator';
  pass : (l.seat.table_id ≡ l.fn.self.queue) × (l.seat.me.1 ≡ []);
  knows : view l.seat ≡ Keeper l.fn.returns.made l.fn.returns.back (taken_in (view l.seat));
  written : l.into.items ≡ l.initial.into.items ++ map (λ (m : Marked). m.call) (taken_in (view l.seat));
  few : length (taken_in (view l.seat)) ≤ MAX_CALLS;
  capacity : vec_capacity l.initial.into ≤ vec_capacity l.into;
}
