use Rattle.std.proofs.Common.{◌≡◌, drop, pos}
use Rattle.std.specs.Prelude.{fold, unwrap_or}
use Rattle.std.specs.Int.{int_wrapping_add, w64}
use Rattle.thread_cells.proofs.tables.sum_of.Given as goal

abbrev pub invariant-loop-cell : goal.invariant-loop-cell
invariant-loop-cell l =
    fold (λ sum c. int_wrapping_add w64 sum (unwrap_or c (pos 0))) l.sum (drop l.cell-index l.cells) ≡ fold (λ sum c. int_wrapping_add w64 sum (unwrap_or c (pos 0))) (pos 0) l.cells
