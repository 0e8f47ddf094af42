use Rattle.std.proofs.Common.{◌≡◌, ◌++◌, map}
use Rattle.call_queues.specs.Queues.{PassSeen}
use Rattle.call_queues.proofs.queues.CallQueues.drain.Given as goal

abbrev pub invariant-loop-pass : goal.invariant-loop-pass
invariant-loop-pass g l = record {
  high : l.high_back ≡ record l.initial.high_back { back = l.initial.high_back.back ++ map (λ (p : PassSeen). p.logs.high) l.yielded };
  normal : l.normal_back ≡ record l.initial.normal_back { back = l.initial.normal_back.back ++ map (λ (p : PassSeen). p.logs.normal) l.yielded };
  low : l.low_back ≡ record l.initial.low_back { back = l.initial.low_back.back ++ map (λ (p : PassSeen). p.logs.low) l.yielded };
}
