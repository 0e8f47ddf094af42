use Rattle.arena_rows.specs.Represents.{HasTop}
use Rattle.arena_rows.specs.Endings.{faulted_rows}
use Rattle.arena_rows.proofs.FaultEnds.{faulty, now_faulty, has_faulty, same_slots, same_room}
use Rattle.arena_rows.proofs.parts.Parts.fault.Goals as goal

pub fault_rows-requires-clause-faulty : goal.fault_rows-requires-clause-faulty
fault_rows-requires-clause-faulty c =
    let a = c.args.self.now in
    let h : HasTop a c.args.slot = c.requires.top in
    has_faulty a h.0 h.2 c.args.slot h.1 h.3 c.args.fault c.fault_job.new.self (c.fault_job.ensures.holds h.0 h.1 h.2 h.3)

pub settle_step-requires-clause-held : goal.settle_step-requires-clause-held
settle_step-requires-clause-held c =
    let a = c.args.self.now in
    let h : HasTop a c.args.slot = c.requires.top in
    let t = faulty a h.0 h.2 c.args.slot h.1 h.3 c.args.fault in
    (faulted_rows t c.args.slot, c.fault_rows.ensures.holds t h.1 (c.fault_job.ensures.holds h.0 h.1 h.2 h.3) h.3 (now_faulty a h.0 h.2 c.args.slot h.1 h.3 c.args.fault))

pub settle_step-requires-clause-slot : goal.settle_step-requires-clause-slot
settle_step-requires-clause-slot c =
    let a = c.args.self.now in
    let h : HasTop a c.args.slot = c.requires.top in
    let t = faulty a h.0 h.2 c.args.slot h.1 h.3 c.args.fault in
    same_slots a h.0 h.2 c.args.slot h.1 h.3 c.args.fault c.fault_rows.new.self
    (c.fault_rows.ensures.holds t h.1 (c.fault_job.ensures.holds h.0 h.1 h.2 h.3) h.3 (now_faulty a h.0 h.2 c.args.slot h.1 h.3 c.args.fault))

pub settle_step-requires-clause-room : goal.settle_step-requires-clause-room
settle_step-requires-clause-room c =
    let a = c.args.self.now in
    let h : HasTop a c.args.slot = c.requires.top in
    let t = faulty a h.0 h.2 c.args.slot h.1 h.3 c.args.fault in
    same_room a h.0 h.2 c.args.slot h.1 h.3 c.args.fault c.fault_rows.new.self
    (c.fault_rows.ensures.holds t h.1 (c.fault_job.ensures.holds h.0 h.1 h.2 h.3) h.3 (now_faulty a h.0 h.2 c.args.slot h.1 h.3 c.args.fault)) c.requires.room

pub returns : goal.returns
returns c = λ s n is on_top.
    let a = c.args.self.now in
    let t = faulty a s is c.args.slot n on_top c.args.fault in
    c.settle_step.ensures (faulted_rows t c.args.slot) (c.fault_rows.ensures.holds t n (c.fault_job.ensures.holds s n is on_top) on_top (now_faulty a s is c.args.slot n on_top c.args.fault))
