use Rattle.call_queues.specs.Queues.{QueueSet, three}
use Rattle.call_queues.proofs.Makes.{count_more, each_more, made_more, queue_first, pass_is}
use Rattle.call_queues.proofs.queues.CallQueues.new.Goals as goal

pub loop-number-preserved : goal.loop-number-preserved
loop-number-preserved c =
    let h = queue_first _ c.in_ok-high.first_high _ _ c.pass.ensures.pass c.in_ok-high.ensures.1 in
    let n = queue_first _ c.in_ok-normal.first_normal _ _ c.pass-in-loop-number.ensures.pass c.in_ok-normal.ensures.1 in
    let l = queue_first _ c.in_ok-low.first_low _ _ c.pass-in-loop-number-2.ensures.pass c.in_ok-low.ensures.1 in
    let queues : QueueSet = record { levels = three c.in_ok-high.first_high.queue c.in_ok-normal.first_normal.queue c.in_ok-low.first_low.queue; passes = c.args.passes } in
    let p = pass_is queues _ _ _ _ h n l in
    record {
      high = made_more c.in_ok-high.first_high _ _ _ c.loop-number.invariant.high c.pass.ensures.first;
      normal = made_more c.in_ok-normal.first_normal _ _ _ c.loop-number.invariant.normal c.pass-in-loop-number.ensures.first;
      low = made_more c.in_ok-low.first_low _ _ _ c.loop-number.invariant.low c.pass-in-loop-number-2.ensures.first;
      count = count_more _ _ _ _ c.in_ok-push.ensures.items c.loop-number.invariant.count;
      each = each_more queues _ _ _ _ c.in_ok-push.ensures.items c.loop-number.invariant.count c.loop-number.invariant.each p;
    }
