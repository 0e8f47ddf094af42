-- How a host answers a hello, and to which tenant a session is bound.
use Rattle.std.specs.Prelude.{ℕ, ◌≡◌, List, Option, Some, Result, Ok, Err, option_map}
use Rattle.job_language.specs.declared.errors.Error.{Error}
use Rattle.host_terms.specs.Names.{admitted_name}
use Rattle.host_terms.specs.Refusals.{IsRefusal}
use Rattle.host_terms.specs.declared.admissions.Admission.{Admission}

-- the name of the tenant that a session is bound to, if it is
abbrev pub bound_name : {J : Type 0} → Option (Admission J) → Option (List ℕ)
bound_name admission = option_map admitted_name admission

-- A hello of a tenant that is known by that name binds the session to that tenant, or is refused.
abbrev pub IsBoundBy : {J : Type 0} → (name : List ℕ) → Result (Unit {0}) Error → Option (Admission J) → Type 0
IsBoundBy name (Ok u) admission = bound_name admission ≡ Some name
IsBoundBy name (Err error) admission = IsRefusal error
