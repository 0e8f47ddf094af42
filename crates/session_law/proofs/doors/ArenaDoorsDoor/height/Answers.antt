use Rattle.std.proofs.Common.{◌≡◌, ◌<◌, ◌≤◌, length, arith, subst}
use Rattle.job_language.specs.declared.tenants.Tenant.{Tenant}
use Rattle.job_language.specs.declared.tenants.TheConstants.{MAX_STEPS}
use Rattle.session_law.proofs.Standing.{high_at}
use Rattle.session_law.proofs.doors.ArenaDoorsDoor.height.Goals as goal

pub returns-clause-value : goal.returns-clause-value
returns-clause-value c =
    let d = c.args.self.now in
    let within : d.tenant < length d.arenas.items = (let len = d.arenas.ok.0 in omega (arith, len, c.len.ensures, c.if-self-len.false)) in
    high_at d c.index-arena.result.now within c.index-arena.ensures c.height.result c.height.ensures.value
    (λ s stands. subst (λ (t : Tenant). t.steps ≤ MAX_STEPS) (c.config.ensures.value s stands) c.config.ensures.valid.most_steps)
