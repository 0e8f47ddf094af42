use Rattle.std.proofs.Common.{◌≡◌, ℕ, ◌⊎◌, true, false, get_or}
use Rattle.register_choice.proofs.liveness.after.Given as goal

abbrev pub invariant-loop-u : goal.invariant-loop-u
invariant-loop-u l = (k : ℕ) → get_or l.row k false ≡ true → (get_or l.initial.row k false ≡ true) ⊎ (get_or l.other k false ≡ true)
