use Rattle.std.proofs.Common.{[]}
use Rattle.place_lists.specs.Filing.{filed_count}
use Rattle.arena_rows.specs.OpenRows.{AreFiled}
use Rattle.arena_rows.proofs.open_rows.filing.next_doomed.Given as goal

abbrev pub invariant-loop-place : goal.invariant-loop-place
invariant-loop-place l = AreFiled l.table l.contexts l.filing l.doomed []

abbrev pub decreases-loop-place : goal.decreases-loop-place
decreases-loop-place l = filed_count l.filing l.doomed
