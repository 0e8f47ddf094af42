-- What makes a tenant valid.
use Rattle.std.specs.Prelude.{◌≡◌, ◌≤◌, Bool, true, ◌&&◌, nat_le}
use Rattle.job_language.specs.Name.{is_name}
use Rattle.job_language.specs.declared.tenants.Tenant.{Tenant}
use Rattle.job_language.specs.declared.tenants.TheConstants.{MAX_SLOTS, MAX_ROWS, MAX_STEPS}

pub record IsValidTenant (t : Tenant) : Type 0 where
  pub name : is_name t.name ≡ true
  pub some_slot : 1 ≤ t.slots
  pub most_slots : t.slots ≤ MAX_SLOTS
  pub reserved : t.reserved ≤ t.slots
  pub some_row : 1 ≤ t.rows
  pub most_rows : t.rows ≤ MAX_ROWS
  pub some_step : 1 ≤ t.steps
  pub most_steps : t.steps ≤ MAX_STEPS

-- the same as a test
abbrev pub is_valid_tenant : Tenant → Bool
is_valid_tenant t =
    is_name t.name && nat_le 1 t.slots && nat_le t.slots MAX_SLOTS && nat_le t.reserved t.slots && nat_le 1 t.rows && nat_le t.rows MAX_ROWS && nat_le 1 t.steps && nat_le t.steps MAX_STEPS
