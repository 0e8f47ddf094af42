use Rattle.std.proofs.Common.{◌≡◌, ℕ, ◌≤◌, false, length}
use Rattle.std.specs.Prelude.{vec_capacity}
use Rattle.register_choice.specs.Choice.{live_of}
use Rattle.register_choice.proofs.liveness.no_rows.Given as goal

abbrev pub invariant-loop : goal.invariant-loop
invariant-loop l = record {
  dark : (k u : ℕ) → live_of l.rows.items k u ≡ false;
  count : length l.rows.items ≡ l.counter;
  room : l.count ≤ vec_capacity l.rows;
}
