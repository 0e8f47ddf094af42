use Rattle.arena_rows.proofs.TopRows.{top_within, some_row, on_slot, top_at}
use Rattle.arena_rows.proofs.Moves.{framed_holds, framed_settled}
use Rattle.tenant_model.proofs.Steady.{steady_framed}
use Rattle.arena_rows.proofs.parts.Parts.move_on.Goals as goal

pub set_frame-requires-clause-slot : goal.set_frame-requires-clause-slot
set_frame-requires-clause-slot c = top_within c.args.self.now c.args.slot c.requires

pub set_frame-requires-clause-height : goal.set_frame-requires-clause-height
set_frame-requires-clause-height c = some_row c.args.self.now c.args.slot c.requires

pub returns : goal.returns
returns c = λ s n rests on_top as_many.
    let is = rests.holds in
    let a = c.args.self.now in
    let within = on_slot a s is c.args.slot n on_top in
    let new = c.set_frame.ensures in
    let steady = steady_framed s c.args.slot n (top_at a s is c.args.slot n on_top) is.steady c.args.frame as_many in
    rw new (record { holds = framed_holds a s is c.args.slot n c.args.frame within on_top steady; settled = framed_settled a s is c.args.slot n c.args.frame within on_top steady rests.settled })
