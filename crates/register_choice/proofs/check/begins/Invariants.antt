use Rattle.std.proofs.Common.{◌≡◌, ℕ, ◌<◌, ◌≤◌, ◌⊎◌, true, false, get_or}
use Rattle.register_choice.proofs.check.begins.Given as goal

abbrev pub invariant-loop-u : goal.invariant-loop-u
invariant-loop-u l = (k : ℕ) → k < l.u → get_or l.first k false ≡ true → ((k < 2) × (get_or l.colours k 0 ≡ k)) ⊎ ((2 ≤ k) × (2 ≤ get_or l.colours k 0))
