use Rattle.job_json.proofs.RoundTripTenant.{tenant_of-tenant_data}
use Rattle.job_json.proofs.writing.tenants.write_tenant.Goals as goal

pub returns-clause-reads_back : goal.returns-clause-reads_back
returns-clause-reads_back c =
    let e = c.in_ok-value.ensures in
    rw (e.value, c.tenant.ensures.value) (tenant_of-tenant_data c.args.config.now c.tenant.ensures.valid)
