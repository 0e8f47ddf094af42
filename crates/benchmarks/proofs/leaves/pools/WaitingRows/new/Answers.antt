use Rattle.std.proofs.Common.{◌+◌, ◌<◌, [], ◌∷◌, Some, refl, length-append, arith}
use Rattle.benchmarks.proofs.Removed.{waiting-more}
use Rattle.benchmarks.proofs.leaves.pools.WaitingRows.new.Goals as goal

pub loop-place-preserved : goal.loop-place-preserved
loop-place-preserved c =
    let room : c.loop-place.place + 1 < c.loop-place.pool.limit = omega arith in
    record {
      waiting = rw c.put.ensures (waiting-more c.loop-place.pool c.args.regions c.args.region c.loop-place.place (record { row = c.row_at.result; made_on = Some 0; region = c.args.region })
          c.loop-place.invariant.waiting room c.row_at.ensures.place c.row_at.ensures.number refl);
      count = rw c.put.ensures (omega (arith, length-append c.loop-place.pool.rows (record { row = c.row_at.result; made_on = Some 0; region = c.args.region } ∷ []), c.loop-place.invariant.count));
    }
