use Rattle.std.proofs.Common.{ℕ, ◌<◌, ◌≤◌}
use Rattle.term_life.specs.Turns.{Waits}
use Rattle.term_life.proofs.turns.first_from.Given as goal

-- None of the places so far waits.
abbrev pub invariant-loop-place : goal.invariant-loop-place
invariant-loop-place l = (place : ℕ) → l.low ≤ place → place < l.place → Waits l.waits place → ⊥
