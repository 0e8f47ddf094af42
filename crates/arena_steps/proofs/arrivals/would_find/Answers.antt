use Rattle.std.proofs.Common.{◌≡◌, true, sym, ap, ◌∙◌}
use Rattle.std.specs.Prelude.{is_some}
use Rattle.tenant_model.specs.Walks.{pick}
use Rattle.tenant_model.specs.Advance.{is_open_to_workers}
use Rattle.arena_rows.specs.Represents.{id_of}
use Rattle.arena_rows.proofs.Picking.{picked_is}
use Rattle.arena_steps.proofs.Arriving.{mapped_some}
use Rattle.arena_steps.proofs.arrivals.would_find.Goals as goal

pub returns : goal.returns
returns c = λ s rests.
    let slot = c.args.slot in
    let opens : is_open_to_workers s slot ≡ true = sym (c.is_open_to_workers.ensures.value s rests) ∙ c.if-not-is_open_to_workers.false in
    let found : c.is_some.result ≡ is_some (pick s slot) =
    c.is_some.ensures ∙ ap is_some (c.pick.ensures ∙ picked_is c.args.parts.now s rests slot) ∙ mapped_some (id_of rests.holds.places) (pick s slot) in
    rw opens found
