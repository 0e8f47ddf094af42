use Rattle.std.proofs.Common.{subst}
use Rattle.tenant_model.specs.Advance.{advance}
use Rattle.arena_rows.specs.Represents.{Gives}
use Rattle.arena_steps.proofs.Rooms.{within-open}
use Rattle.arena_steps.proofs.advances.advance.Goals as goal

pub returns : goal.returns
returns c = λ s rests. subst (Gives c.advance_within.new.parts c.advance_within.result) (within-open s (advance s c.args.slot)) (c.advance_within.ensures s rests)
