use Rattle.std.proofs.Common.{pos}
use Rattle.arena_rows.specs.Represents.{HasTop}
use Rattle.arena_rows.specs.Endings.{HasFaulty}
use Rattle.arena_rows.proofs.EndHolds.{faulted_holds}
use Rattle.arena_rows.proofs.EndTop.{over_on_top, still_within, still_some, popped_short}
use Rattle.arena_rows.proofs.Loose.{loose_faulted}
use Rattle.arena_rows.proofs.TopRows.{top_open}
use Rattle.arena_rows.proofs.parts.Parts.fault_top.Goals as goal

pub top_row-row-requires : goal.top_row-row-requires
top_row-row-requires c = let h : HasFaulty c.args.self.now c.args.slot = c.requires.faulty in (h.0, h.1, h.2, h.3)

pub end-requires : goal.end-requires
end-requires c =
    let a = c.args.self.now in
    let h : HasFaulty a c.args.slot = c.requires.faulty in
    (h.0, h.1, h.2, top_open a h.0 h.2 c.args.slot h.1 h.3, c.top_row-row.ensures h.0 h.1 h.2 h.3, loose_faulted a h.0 h.2 c.args.slot h.1 h.3 c.requires.forest h.4)

pub pop-requires-clause-slot : goal.pop-requires-clause-slot
pop-requires-clause-slot c =
    let h : HasFaulty c.args.self.now c.args.slot = c.requires.faulty in
    still_within c.args.self.now c.end.new.self c.top_row-row.result (pos 0) c.end.ensures c.args.slot (h.0, h.1, h.2, h.3) (c.top_row-row.ensures h.0 h.1 h.2 h.3)

pub pop-requires-clause-height : goal.pop-requires-clause-height
pop-requires-clause-height c =
    let h : HasFaulty c.args.self.now c.args.slot = c.requires.faulty in
    still_some c.args.self.now c.end.new.self c.top_row-row.result (pos 0) c.end.ensures c.args.slot (h.0, h.1, h.2, h.3) (c.top_row-row.ensures h.0 h.1 h.2 h.3)

pub returns-clause-holds : goal.returns-clause-holds
returns-clause-holds c = λ s n is on_top fault.
    let a = c.args.self.now in
    let b = c.end.new.self in
    let it = over_on_top a b c.top_row-row.result (pos 0) c.end.ensures s is c.args.slot n on_top (c.top_row-row.ensures s n is on_top) in
    rw c.pop.ensures (faulted_holds a b s is n it.e it.entry (loose_faulted a s is c.args.slot n on_top c.requires.forest fault) c.args.slot on_top it.over fault)

pub returns-clause-forest : goal.returns-clause-forest
returns-clause-forest c =
    let a = c.args.self.now in
    let h : HasFaulty a c.args.slot = c.requires.faulty in
    let it = over_on_top a c.end.new.self c.top_row-row.result (pos 0) c.end.ensures h.0 h.2 c.args.slot h.1 h.3 (c.top_row-row.ensures h.0 h.1 h.2 h.3) in
    rw c.pop.ensures (it.over.left.sound c.requires.forest)

pub returns-clause-height : goal.returns-clause-height
returns-clause-height c =
    let a = c.args.self.now in
    let h : HasFaulty a c.args.slot = c.requires.faulty in
    let top : HasTop a c.args.slot = (h.0, h.1, h.2, h.3) in
    popped_short a c.end.new.self c.top_row-row.result (pos 0) c.end.ensures c.pop.new.self c.args.slot top (c.top_row-row.ensures h.0 h.1 h.2 h.3) c.pop.ensures
