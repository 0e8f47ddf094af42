use Rattle.std.proofs.Common.{◌≡◌, Some, sym, ap, ◌∙◌, subst}
use Rattle.std.specs.Prelude.{slice_set}
use Rattle.world_model.specs.declared.calls.WorkerState.TheVariants.{Holds}
use Rattle.world_model.specs.Market.{worker_at, held_by}
use Rattle.world_model.specs.Raw as raw
use Rattle.world_model.specs.declared.outcomes.Outcome.TheVariants.{Own}
use Rattle.world_core.specs.WorldData.{WorldData}
use Rattle.world_core.specs.Steps.{Steps}
use Rattle.world_core.proofs.Keeping.{held_there}
use Rattle.world_core.proofs.Stepping.{arrive_steps}
use Rattle.world_core.proofs.worlds.World.arrive.Goals as goal

pub returns : goal.returns
returns g c =
    let stands = g.A.TenantArena.stands_for in
    let h : WorldData g.row.A.Denot = record { arenas = c.self.inside.arenas.items; market = c.self.inside.market } in
    let call = c.in-Some-Holds.call in
    let at : worker_at h.market c.args.worker ≡ Some (Holds call) = sym c.worker.ensures ∙ c.in-Some-Holds.is ∙ ap Some c.in-Some-Holds.field-0-is in
    let there = held_there h c.self.invariant c.args.worker call (ap held_by at) in
    let taken = arrive_steps stands h c.args.worker call c.arrive.new.arena c.arrive.new.market c.arrive.result c.index_mut-arena.result.now there (ap held_by at)
    (λ s is. c.arrive.ensures.taken s (subst (λ a. stands a s) (sym c.index_mut-arena.ensures.value) is)) in
    let next : WorldData g.row.A.Denot = record { arenas = slice_set h.arenas call.tenant c.arrive.new.arena; market = c.arrive.new.market } in
    subst (λ (k : WorldData g.row.A.Denot). Steps stands k next (raw.arrive c.args.worker) (Own c.arrive.result)) c.self.view_is taken
