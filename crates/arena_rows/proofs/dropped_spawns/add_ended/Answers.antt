use Rattle.std.proofs.Common.{arith}
use Rattle.arena_rows.proofs.DroppedRow.{added_ended, one_pending}
use Rattle.arena_rows.proofs.dropped_spawns.add_ended.Goals as goal

pub drop_one-requires-clause-pending : goal.drop_one-requires-clause-pending
drop_one-requires-clause-pending c = one_pending c.args.groups.now c.add.new.self c.args.number (omega (arith, c.requires.number, c.requires.all)) c.add.ensures

pub returns : goal.returns
returns c = added_ended c.args.groups.now c.add.new.self c.drop_one.new.self c.args.number (omega (arith, c.requires.number, c.requires.all)) c.add.ensures c.drop_one.ensures
