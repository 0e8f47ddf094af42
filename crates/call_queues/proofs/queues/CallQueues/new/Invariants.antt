use Rattle.std.proofs.Common.{◌≡◌, ◌<◌, ◌+◌, ℕ, length, slice_index_or}
use Rattle.call_queues.specs.Queues.{PassSeen, three, fresh}
use Rattle.call_queues.proofs.queues.CallQueues.new.Given as goal

abbrev pub invariant-loop-number : goal.invariant-loop-number
invariant-loop-number l = record {
  high : l.first_high ≡ record l.initial.first_high { made = l.number };
  normal : l.first_normal ≡ record l.initial.first_normal { made = l.number };
  low : l.first_low ≡ record l.initial.first_low { made = l.number };
  count : length l.out.items + 1 ≡ l.number;
  each : (k : ℕ) (d : PassSeen) → k < length l.out.items →
      slice_index_or l.out.items k d ≡ fresh (record { levels = three l.initial.first_high.queue l.initial.first_normal.queue l.initial.first_low.queue; passes = l.passes }) (k + 1);
}
