use Rattle.std.proofs.Common.{◌≡◌, ◌∙◌, sym, nat_le, true, false, refl}
use Rattle.tenant_model.specs.declared.works.TheConstants.{MAX_JOBS}
use Rattle.tenant_model.specs.Changes.{is_row_limit_met}
use Rattle.tenant_model.specs.Asks.{current_jobs}
use Rattle.arena_core.proofs.asks.limit.Goals as goal

pub returns-then-is_job_limit_met-clause-value : goal.returns-then-is_job_limit_met-clause-value
returns-then-is_job_limit_met-clause-value c = λ s made rests.
    let met : nat_le MAX_JOBS (current_jobs s) ≡ true = sym (c.is_job_limit_met.ensures.value s rests.holds) ∙ c.if-is_job_limit_met.true in
    rw met refl

pub returns-then-is_row_limit_met-clause-value : goal.returns-then-is_row_limit_met-clause-value
returns-then-is_row_limit_met-clause-value c = λ s made rests.
    let few : nat_le MAX_JOBS (current_jobs s) ≡ false = sym (c.is_job_limit_met.ensures.value s rests.holds) ∙ c.if-is_job_limit_met.false in
    let met : is_row_limit_met s ≡ true = sym (c.is_row_limit_met.ensures.value s rests.holds) ∙ c.if-is_row_limit_met.true in
    rw (few, met) refl

pub returns-clause-value : goal.returns-clause-value
returns-clause-value c = λ s made rests.
    let few : nat_le MAX_JOBS (current_jobs s) ≡ false = sym (c.is_job_limit_met.ensures.value s rests.holds) ∙ c.if-is_job_limit_met.false in
    let room : is_row_limit_met s ≡ false = sym (c.is_row_limit_met.ensures.value s rests.holds) ∙ c.if-is_row_limit_met.false in
    rw (few, room) refl
