use Rattle.std.proofs.Common.{arith}
use Rattle.arena_rows.proofs.Taken.{pick_taken, taken_within, taken_entry, taken_there, taken_waits, taken_rests}
use Rattle.tenant_model.specs.State.{row}
use Rattle.arena_rows.proofs.parts.Parts.nest.Goals as goal

pub start-requires-clause-place : goal.start-requires-clause-place
start-requires-clause-place c = taken_within c.args.self.now c.requires.rests.0 c.requires.rests.1 c.args.slot c.args.row c.requires.next

pub start-requires-clause-slot : goal.start-requires-clause-slot
start-requires-clause-slot c = omega (arith, c.requires.slot, c.requires.rests.1.holds.nests.long)

pub returns : goal.returns
returns c = λ s rests.
    let a = c.args.self.now in
    let slot = c.args.slot in
    let id = c.args.row in
    let next = c.requires.next in
    let new = c.start.ensures (taken_entry a s rests slot id next) (row s.rows id.number).frame (taken_there a s rests slot id next) (taken_waits a s rests slot id next) in
    (pick_taken a s rests slot id next, rw new (taken_rests a s rests slot id next c.requires.slot c.requires.height))
