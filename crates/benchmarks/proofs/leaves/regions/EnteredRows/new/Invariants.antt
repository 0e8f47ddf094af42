use Rattle.std.proofs.Common.{◌≡◌, length}
use Rattle.benchmarks.specs.Entered.{IsFreeFrom, IsFullBefore}
use Rattle.benchmarks.proofs.leaves.regions.EnteredRows.new.Given as goal

abbrev pub invariant-loop-place : goal.invariant-loop-place
invariant-loop-place l = record { places : length l.regions ≡ l.fn.rows; free : IsFreeFrom l.regions l.place; full : IsFullBefore l.regions l.place }
