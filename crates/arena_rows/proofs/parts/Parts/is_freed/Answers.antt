use Rattle.std.proofs.Common.{ap, arith}
use Rattle.job_language.specs.declared.tenants.Tenant.{Tenant}
use Rattle.arena_rows.proofs.FaultEnds.{freed_told}
use Rattle.arena_rows.proofs.parts.Parts.is_freed.Goals as goal

pub returns : goal.returns
returns c = λ s is.
    let reserved = ap (λ (t : Tenant). t.reserved) c.config.ensures.value in
    freed_told c.args.self.now s is c.args.slot c.height.result (omega (arith, c.if-config-slot.false, reserved)) c.height.ensures
