use Rattle.std.proofs.Common.{◌≡◌, sym, ap, ◌∙◌, subst}
use Rattle.world_model.specs.declared.calls.SlotState.TheVariants.{Due}
use Rattle.world_model.specs.Market.{Market, slot_at, is_due}
use Rattle.world_core.specs.WorldData.{KeepsOrder}
use Rattle.world_core.proofs.Keeping.{held_market, push_keeps}
use Rattle.world_core.proofs.worlds.World.push.Goals as goal

pub invariant_of-self : goal.invariant_of-self
invariant_of-self g c =
    let m = c.self.inside.market in
    let call = c.args.call in
    let at : slot_at m call.tenant call.slot ≡ Due = sym c.slot.ensures ∙ c.in-Due.is in
    let keeps : KeepsOrder m c.push.new.self = subst (λ (n : Market). KeepsOrder m n) (sym c.push.ensures) (push_keeps m call.tenant call.slot (ap is_due at)) in
    held_market c.self.inside.arenas.items m c.push.new.self c.self.invariant keeps
