use Rattle.std.proofs.Common.{◌≡◌, Some, sym, ap, ◌∙◌, subst}
use Rattle.std.specs.Prelude.{slice_set}
use Rattle.world_model.specs.declared.calls.WorkerState.TheVariants.{In}
use Rattle.world_model.specs.Market.{worker_at, call_of}
use Rattle.world_model.specs.Raw as raw
use Rattle.world_model.specs.declared.outcomes.Outcome.TheVariants.{Own}
use Rattle.world_core.specs.WorldData.{WorldData}
use Rattle.world_core.specs.Steps.{Steps}
use Rattle.world_core.proofs.Keeping.{served_there}
use Rattle.world_core.proofs.Stepping.{advance_steps}
use Rattle.world_core.proofs.worlds.World.advance.Goals as goal

pub returns : goal.returns
returns g c =
    let stands = g.A.TenantArena.stands_for in
    let h : WorldData g.row.A.Denot = record { arenas = c.self.inside.arenas.items; market = c.self.inside.market } in
    let call = c.in-Some-In.call in
    let at : worker_at h.market c.args.worker ≡ Some (In call) = sym c.worker.ensures ∙ c.in-Some-In.is ∙ ap Some c.in-Some-In.field-0-is in
    let there = served_there h c.self.invariant c.args.worker call (ap call_of at) in
    let taken = advance_steps stands h c.args.worker call c.advance.new.arena c.advance.new.market c.advance.result c.index_mut-arena.result.now there (ap call_of at)
    (λ s is. c.advance.ensures.taken s (subst (λ a. stands a s) (sym c.index_mut-arena.ensures.value) is)) in
    let next : WorldData g.row.A.Denot = record { arenas = slice_set h.arenas call.tenant c.advance.new.arena; market = c.advance.new.market } in
    subst (λ (k : WorldData g.row.A.Denot). Steps stands k next (raw.advance c.args.worker) (Own c.advance.result)) c.self.view_is taken
