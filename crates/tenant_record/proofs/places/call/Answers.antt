use Rattle.std.proofs.Common.{◌≡◌, sym, ap, arith}
use Rattle.job_language.specs.declared.tenants.Tenant.{Tenant}
use Rattle.tenant_record.specs.Places.{is_worker_home}
use Rattle.tenant_record.proofs.Calling.{found_below}
use Rattle.tenant_record.proofs.places.call.Goals as goal

pub wake-requires : goal.wake-requires
wake-requires c =
    let config = c.config-config.result.now in
    let below = found_below (is_worker_home config.reserved c.args.home.now) 0 config.slots c.in_ok-slot.slot (sym c.in_ok-slot.ensures) in
    let same : config.slots ≡ c.args.replay.now.config.slots = ap (λ (t : Tenant). t.slots) c.config-config.ensures.value in
    omega (arith, below, same, c.requires)
