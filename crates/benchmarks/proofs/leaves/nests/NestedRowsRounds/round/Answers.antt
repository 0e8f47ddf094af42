use Rattle.std.proofs.Common.{◌<◌, ◌%◌, false, length, arith}
use Rattle.benchmarks.proofs.Popped.{popped-is}
use Rattle.benchmarks.proofs.leaves.nests.NestedRowsRounds.round.Goals as goal

pub invariant_of-self : goal.invariant_of-self
invariant_of-self c =
    let within : c.args.number % 16 < length c.self.inside.nests = omega arith in
    rw (popped-is c.self.inside.nests (c.args.number % 16) within (record { frame = c.new.result; row = c.row_of_round-row.result; is_region = false }) c.new-2.result c.push.new.nests
    c.set_top.new.nests c.pop-popped.new.nests c.push.ensures c.set_top.ensures c.pop-popped.ensures) c.self.invariant

pub returns : goal.returns
returns c =
    let within : c.args.number % 16 < length c.self.inside.nests = omega arith in
    rw (popped-is c.self.inside.nests (c.args.number % 16) within (record { frame = c.new.result; row = c.row_of_round-row.result; is_region = false }) c.new-2.result c.push.new.nests
    c.set_top.new.nests c.pop-popped.new.nests c.push.ensures c.set_top.ensures c.pop-popped.ensures) c.self.view_is
