use Rattle.std.specs.Cmp.Rules.{signed_items}
use Rattle.same_values.proofs.frames.are_same_registers.Goals as goal

pub returns : goal.returns
returns c = rw c.eq.ensures (signed_items c.args.registers.now c.args.others.now)
