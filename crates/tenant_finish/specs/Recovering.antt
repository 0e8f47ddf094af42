-- What recovering a tenant from a history gives.
use Rattle.std.specs.Prelude.{◌≡◌, ◌<◌, ◌+◌, ℕ, List, length, take}
use Rattle.job_language.specs.declared.steps.Entry.{Entry}
use Rattle.job_language.specs.declared.tenants.Tenant.{Tenant}
use Rattle.tenant_finish.specs.declared.recovering.Recovered.{Recovered}
use Rattle.tenant_finish.specs.declared.recovering.Recovered.TheVariants as recovered
use Rattle.tenant_record.specs.History.{IsHistory}

-- So many entries are a right history of the tenant, and with the next one they are none.
pub record IsFirstWrong (c : Tenant) (entries : List Entry) (right : ℕ) : Type 0 where
  pub there : right < length entries
  pub before : IsHistory c (take right entries)
  pub wrong : IsHistory c (take (right + 1) entries) → ⊥

-- the tenant with that history, or how much of it is right
abbrev pub IsRecovered : Tenant → List Entry → Recovered → Type 0
IsRecovered c entries (recovered.Tenant replay) = replay ≡ record { config = c; history = entries }
IsRecovered c entries (recovered.WrongAfter right) = IsFirstWrong c entries right
