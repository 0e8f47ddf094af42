-- The names of tenants, where other crates ask for them.
use Rattle.std.specs.Prelude.{ℕ, List}
use Rattle.std.specs.Arc.{arc_value}
use Rattle.host_terms.specs.declared.admissions.Admission.{Admission}
use Rattle.host_terms.specs.declared.tenancies.Tenancy.{Tenancy}

abbrev pub name_of : {J : Type 0} → Tenancy J → List ℕ
name_of t = t.name

-- the name of the tenant at which a connection has its place
abbrev pub admitted_name : {J : Type 0} → Admission J → List ℕ
admitted_name a = name_of (arc_value a.tenancy)
