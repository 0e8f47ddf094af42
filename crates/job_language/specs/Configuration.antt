-- What a configuration is, and what makes it valid.
use Rattle.std.specs.Prelude.{◌≢◌, ℕ, ◌≤◌, nat_le, List, [], ◌∷◌, length, map, All, AllPairs, Bool, true, ◌&&◌, not}
use Rattle.std.specs.List.{list_any}
use Rattle.std.specs.Str.{bytes_eq}
use Rattle.job_language.specs.declared.tenants.Tenant.{Tenant}
use Rattle.job_language.specs.declared.configs.TheConstants.{MAX_TENANTS, MAX_WORKERS}
use Rattle.job_language.specs.Tenant.{IsValidTenant}

-- the tenants, numbered from 0, and the number of worker threads
pub record Configuration : Type 0 where
  pub tenants : List Tenant
  pub workers : ℕ

abbrev pub names_of : List Tenant → List (List ℕ)
names_of tenants = map (λ t. t.name) tenants

pub record IsValidConfig (c : Configuration) : Type 0 where
  pub some_tenant : 1 ≤ length c.tenants
  pub most_tenants : length c.tenants ≤ MAX_TENANTS
  pub each : All IsValidTenant c.tenants
  pub distinct : AllPairs (λ s t. s ≢ t) (names_of c.tenants)
  pub some_worker : 1 ≤ c.workers
  pub most_workers : c.workers ≤ MAX_WORKERS

-- whether no name stands twice
abbrev pub are_distinct : List (List ℕ) → Bool
are_distinct [] = true
are_distinct (name ∷ names) = not (list_any (bytes_eq name) names) && are_distinct names

-- whether tenants that are valid, each for itself, make a configuration with the workers
abbrev pub is_valid_config : Configuration → Bool
is_valid_config c =
    nat_le 1 (length c.tenants) && nat_le (length c.tenants) MAX_TENANTS && nat_le 1 c.workers && nat_le c.workers MAX_WORKERS && are_distinct (names_of c.tenants)
