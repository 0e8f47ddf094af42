use Rattle.std.proofs.Common.{ℕ, ◌<◌, ◌≤◌, [], get_or}
use Rattle.std.specs.Prelude.{count_by}
use Rattle.register_choice.proofs.compile.without_choice.Given as goal

abbrev pub invariant-loop-place : goal.invariant-loop-place
invariant-loop-place l = (k : ℕ) → k < l.place → count_by (λ b. b) (get_or l.live k []) ≤ 8
