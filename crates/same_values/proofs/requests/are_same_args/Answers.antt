use Rattle.std.specs.Cmp.Rules.{signed_items}
use Rattle.same_values.proofs.requests.are_same_args.Goals as goal

pub returns : goal.returns
returns c = rw c.eq.ensures (signed_items c.args.args.now c.args.others.now)
