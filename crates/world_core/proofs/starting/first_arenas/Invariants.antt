use Rattle.std.proofs.Common.{◌≡◌, ℕ, ◌<◌, length}
use Rattle.std.specs.Prelude.{slice_index_or}
use Rattle.tenant_model.specs.State.{empty}
use Rattle.world_model.specs.World.{no_tenant}
use Rattle.world_core.proofs.starting.first_arenas.Given as goal

abbrev pub invariant-loop-tenant : goal.invariant-loop-tenant
invariant-loop-tenant g l =
    (length l.arenas.items ≡ l.tenant-index) ×
    ((t : ℕ) (d : _) → t < length l.arenas.items → g.A.TenantArena.stands_for (slice_index_or l.arenas.items t d) (empty (slice_index_or l.tenants t no_tenant)))
