-- The JSON that a tenant is.
use Rattle.std.specs.Prelude.{codes}
use Rattle.serde_json.specs.Data.{Data, number, unsigned, string, object, Members, member, no_members}
use Rattle.job_language.specs.declared.tenants.Isolation.{Isolation}
use Rattle.job_language.specs.declared.tenants.Isolation.TheVariants.{Exact, Within}
use Rattle.job_language.specs.declared.tenants.Tenant.{Tenant}
use Rattle.job_language.specs.TenantWords.{level_word}

-- The mode is written only if it is not exact.
abbrev pub with_isolation : Isolation → Members → Members
with_isolation Exact members = members
with_isolation Within members = member (codes "isolation") (string (codes "within")) members

abbrev pub tenant_data : Tenant → Data
tenant_data t =
    object (with_isolation t.isolation (
    member (codes "name") (string t.name) (
    member (codes "priority") (string (level_word t.priority)) (
    member (codes "reserved") (number (unsigned t.reserved)) (
    member (codes "rows") (number (unsigned t.rows)) (
    member (codes "slots") (number (unsigned t.slots)) (
    member (codes "steps") (number (unsigned t.steps)) no_members)))))))
