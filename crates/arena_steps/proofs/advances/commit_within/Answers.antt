use Rattle.std.proofs.Common.{sym, subst}
use Rattle.arena_rows.specs.Represents.{Gives}
use Rattle.arena_steps.specs.Within.{within}
use Rattle.arena_steps.proofs.Takes.{advance_on_top, slot_there}
use Rattle.arena_steps.proofs.advances.commit_within.Goals as goal

pub returns : goal.returns
returns c = λ s n fits.
    let slot = c.args.slot in
    let low = slot_there c.args.parts.now s slot n fits.rests.holds fits.on_top in
    subst (λ q. Gives c.advance_by.new.parts c.advance_by.result (within c.args.has_room s q)) (sym (advance_on_top s slot n low fits.on_top)) (c.advance_by.ensures s n fits)
