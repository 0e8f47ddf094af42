use Rattle.std.proofs.Common.{◌≡◌, ◌+◌, length}
use Rattle.benchmarks.specs.Waiting.{AreWaiting}
use Rattle.benchmarks.proofs.leaves.pools.WaitingRows.new.Given as goal

abbrev pub invariant-loop-place : goal.invariant-loop-place
invariant-loop-place l = record { waiting : AreWaiting (record { pool = l.pool; regions = l.regions; region = l.region; free = l.place }); count : length l.pool.rows + l.first ≡ l.place }
