use Rattle.std.proofs.Common.{◌≡◌}
use Rattle.arena_rows.specs.Endings.{Left, below}
use Rattle.arena_rows.proofs.endings.release_groups.Given as goal

abbrev pub invariant-loop-number : goal.invariant-loop-number
invariant-loop-number l = record {
  left : Left l.fn.rows.contexts l.rows.contexts (below l.groups l.number);
  table : l.rows.table ≡ l.fn.rows.table;
}
