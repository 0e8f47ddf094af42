use Rattle.std.proofs.Common.{◌≡◌, nat_lt, nat_le, true, refl, ap, ◌∙◌, arith}
use Rattle.job_language.specs.declared.tenants.Tenant.{Tenant}
use Rattle.tenant_model.specs.Walks.{height}
use Rattle.arena_rows.proofs.Tops.{height_is}
use Rattle.arena_rows.proofs.parts.Parts.is_open_to_workers.Goals as goal

pub returns-clause-value : goal.returns-clause-value
returns-clause-value c = λ s rests.
    let a = c.args.self.now in
    let is = rests.holds in
    let reserved = ap (λ (t : Tenant). t.reserved) (c.config.ensures.value ∙ is.config) in
    let slots = ap (λ (t : Tenant). t.slots) (c.config-else-slot-config.ensures.value ∙ is.config) in
    let from : nat_le s.config.reserved c.args.slot ≡ true = grind (arith, reserved, c.if-slot-config.false) in
    let below : nat_lt c.args.slot s.config.slots ≡ true = grind (arith, slots, c.if-config-slot.false) in
    let high : c.height.result ≡ height s.rows c.args.slot = c.height.ensures ∙ height_is s.rows is.places a.config.slots a.nests is.steady.formed.stacked is.nests c.args.slot in
    rw (from, below, high) refl
