-- A tenant is what its JSON spells.
use Rattle.std.proofs.Common.{◌≡◌, ℕ, List, true, refl, arith, Some, leb}
use Rattle.std.proofs.lemmas.Bool.{le-leb}
use Rattle.job_language.specs.declared.tenants.Isolation.{Isolation}
use Rattle.job_language.specs.declared.tenants.Isolation.TheVariants.{Exact, Within}
use Rattle.job_language.specs.declared.tenants.Level.{Level}
use Rattle.job_language.specs.declared.tenants.Level.TheVariants.{High, Normal, Low}
use Rattle.job_language.specs.declared.tenants.Tenant.{Tenant}
use Rattle.job_language.specs.Name.{is_name}
use Rattle.job_language.specs.Tenant.{IsValidTenant}
use Rattle.job_json.specs.TenantOf.{tenant_of}
use Rattle.job_language.specs.TenantWords.{level_word, level_named}
use Rattle.job_json.specs.TenantData.{tenant_data}

level_named-word : (level : Level) → level_named (level_word level) ≡ Some level
level_named-word High = refl
level_named-word Normal = refl
level_named-word Low = refl

by_mode : (isolation : Isolation) (name : List ℕ) (level : Level) (slots reserved rows steps : ℕ) → is_name name ≡ true → leb 1 slots ≡ true → leb slots 16 ≡ true → leb 0 reserved ≡ true →
    leb reserved slots ≡ true → leb 1 rows ≡ true → leb rows 4096 ≡ true → leb 1 steps ≡ true → leb steps 1048576 ≡ true → let t : Tenant =
    record { name = name; priority = level; isolation = isolation; slots = slots; reserved = reserved; rows = rows; steps = steps } in tenant_of (tenant_data t) ≡ Some t
by_mode Exact name level slots reserved rows steps n a b c d e f g h = simp (n, a, b, c, d, e, f, g, h, level_named-word level)
by_mode Within name level slots reserved rows steps n a b c d e f g h = simp (n, a, b, c, d, e, f, g, h, level_named-word level)

pub tenant_of-tenant_data : (t : Tenant) → IsValidTenant t → tenant_of (tenant_data t) ≡ Some t
tenant_of-tenant_data t v =
    by_mode t.isolation t.name t.priority t.slots t.reserved t.rows t.steps v.name (le-leb _ _ v.some_slot) (le-leb _ _ v.most_slots) (le-leb _ _ (omega arith)) (le-leb _ _ v.reserved)
    (le-leb _ _ v.some_row) (le-leb _ _ v.most_rows) (le-leb _ _ v.some_step) (le-leb _ _ v.most_steps)
