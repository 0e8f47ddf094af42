use Rattle.std.proofs.Common.{◌≡◌, ℕ, ◌<◌, replicate}
use Rattle.std.specs.Prelude.{true}
use Rattle.job_language.specs.declared.steps.Step.TheVariants.{Advance}
use Rattle.tenant_model.specs.Solo.{after}
use Rattle.source_value.specs.Replies.{moves_at}
use Rattle.source_value.proofs.replies.advance.Given as goal

abbrev pub invariant-loop : goal.invariant-loop
invariant-loop l = (l.tenant ≡ after l.fn.tenant (replicate l.counter (Advance 0))) × ((i : ℕ) → i < l.counter → moves_at l.fn.tenant i ≡ true)
