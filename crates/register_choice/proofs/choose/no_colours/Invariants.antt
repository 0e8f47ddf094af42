use Rattle.std.proofs.Common.{◌≡◌, ◌≤◌, length}
use Rattle.std.specs.Prelude.{vec_capacity}
use Rattle.register_choice.proofs.choose.no_colours.Given as goal

abbrev pub invariant-loop : goal.invariant-loop
invariant-loop l = record {
  count : length l.colours.items ≡ l.counter;
  room : l.count ≤ vec_capacity l.colours;
}
