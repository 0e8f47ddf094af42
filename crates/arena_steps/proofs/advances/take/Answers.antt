use Rattle.std.proofs.Common.{refl}
use Rattle.tenant_model.specs.Changes.{nest}
use Rattle.arena_steps.proofs.advances.take.Goals as goal

pub returns : goal.returns
returns c = λ s rests. (refl, c.enter.ensures (nest s c.args.slot c.args.row.number) (c.nest.ensures s rests).1)
