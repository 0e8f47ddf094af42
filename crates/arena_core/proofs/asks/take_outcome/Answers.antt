use Rattle.std.proofs.Common.{◌∙◌, sym}
use Rattle.tenant_model.specs.Asks.{known_job}
use Rattle.arena_core.proofs.Asked.{over_told}
use Rattle.arena_core.proofs.asks.take_outcome.Goals as goal

pub release-requires : goal.release-requires
release-requires c =
    let some = c.requires.some in
    let told = sym (c.status.ensures some.0 some.1.rests.holds) ∙ c.in-Some.is in
    let over = over_told some.0 c.args.number (known_job some.0 c.args.number) c.in-Some.status told c.in_default-status.not-Running in
    record { ended = (some.0, some.1.rests.holds, over.0, over.1); room = c.requires.room }
