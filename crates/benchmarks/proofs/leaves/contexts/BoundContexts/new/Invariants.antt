use Rattle.std.proofs.Common.{◌≡◌, ◌+◌, ◌*◌, length}
use Rattle.cancel_context.specs.Forest.{IsForest, IsHeld, held_count}
use Rattle.benchmarks.proofs.leaves.contexts.BoundContexts.new.Given as goal

abbrev pub invariant-loop-row : goal.invariant-loop-row
invariant-loop-row l = record { forest : IsForest l.contexts; job : IsHeld l.contexts l.job; count : held_count l.contexts ≡ l._row; places : length l.contexts ≡ 256 + 5 * l.fn.rows }
