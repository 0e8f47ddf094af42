use Rattle.std.proofs.Common.{◌≡◌, ◌≤◌, subst}
use Rattle.job_language.specs.declared.tenants.Tenant.{Tenant}
use Rattle.job_language.specs.declared.tenants.TheConstants.{MAX_STEPS}
use Rattle.session_law.proofs.Turning.{ends, ends_same}
use Rattle.session_law.proofs.one_slot.attend_door.Goals as goal

pub returns-clause-same : goal.returns-clause-same
returns-clause-same c = (ends_same c.args.floor c.args.door.now c.attend.result c.attend.new.door c.attend.ensures).0

pub returns-clause-attends : goal.returns-clause-attends
returns-clause-attends c = λ s stands.
    let is : c.config.result.now ≡ s.config = c.config.ensures.value s stands in
    let limit : s.config.steps ≤ MAX_STEPS = subst (λ (t : Tenant). t.steps ≤ MAX_STEPS) is c.config.ensures.valid.most_steps in
    ends c.args.floor c.args.door.now c.attend.result c.attend.new.door s c.requires limit c.attend.ensures stands
