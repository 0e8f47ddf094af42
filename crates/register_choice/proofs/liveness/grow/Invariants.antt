use Rattle.std.proofs.Common.{◌≡◌, ℕ, true, map}
use Rattle.job_compiler.specs.Virtual.{instr_of}
use Rattle.register_choice.specs.Choice.{live_of}
use Rattle.register_choice.specs.Reasons.{IsReadLater}
use Rattle.register_choice.proofs.liveness.grow.Given as goal

abbrev pub invariant-loop-place : goal.invariant-loop-place
invariant-loop-place l = (k u : ℕ) → live_of l.rows k u ≡ true → IsReadLater (map instr_of l.instrs) k u
