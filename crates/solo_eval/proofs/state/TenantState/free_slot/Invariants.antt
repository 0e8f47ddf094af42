use Rattle.std.proofs.Common.{◌≡◌, ◌-◌, ◌==◌}
use Rattle.std.specs.Prelude.{find}
use Rattle.std.specs.List.{range_with_len}
use Rattle.tenant_model.specs.Walks.{height}
use Rattle.tenant_model.specs.Asks.{free_slot}
use Rattle.solo_eval.proofs.state.TenantState.free_slot.Given as goal

abbrev pub invariant-loop-slot : goal.invariant-loop-slot
invariant-loop-slot l = find (λ slot. height l.self.rows slot == 0) (range_with_len l.slot (l.reserved - l.slot)) ≡ free_slot l.self
