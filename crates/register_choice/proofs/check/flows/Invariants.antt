use Rattle.std.proofs.Common.{◌≡◌, ℕ, ◌<◌, true, false, get_or}
use Rattle.register_choice.specs.Choice.{Stays, listed}
use Rattle.register_choice.proofs.check.flows.Given as goal

abbrev pub invariant-loop-u : goal.invariant-loop-u
invariant-loop-u l =
    (k : ℕ) → k < l.u → get_or l.next k false ≡ true → Stays (λ u. get_or l.from u 0) (λ u. get_or l.to u 0) l.here k (listed l.written.0 l.written.1)
