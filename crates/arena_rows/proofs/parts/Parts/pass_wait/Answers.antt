use Rattle.std.proofs.Common.{◌<◌}
use Rattle.job_language.specs.declared.instructions.TheConstants.{GROUPS}
use Rattle.tenant_model.proofs.Steady.{steady_waited}
use Rattle.arena_rows.specs.MarkedGroups.{passed_mark}
use Rattle.arena_rows.proofs.GroupCalls.{rests_on}
use Rattle.arena_rows.proofs.TopRows.{top_within, some_row, top_at}
use Rattle.arena_rows.proofs.parts.Parts.pass_wait.Goals as goal

pub set_frame-requires-clause-slot : goal.set_frame-requires-clause-slot
set_frame-requires-clause-slot c =
    let h = c.requires in
    let nests = c.restart_group.ensures.nests in
    rw nests (top_within c.args.self.now c.args.slot (h.0, h.1, h.2, h.3))

pub set_frame-requires-clause-height : goal.set_frame-requires-clause-height
set_frame-requires-clause-height c =
    let h = c.requires in
    let nests = c.restart_group.ensures.nests in
    rw nests (some_row c.args.self.now c.args.slot (h.0, h.1, h.2, h.3))

pub returns : goal.returns
returns c = λ s n rests on_top ended as_many.
    let a = c.args.self.now in
    let is = rests.holds in
    let slot = c.args.slot in
    let g = c.args.group in
    let value = c.index.ensures.value in
    let few : g < GROUPS = rw value at c.index.ensures.in_range in
    let restarted = c.restart_group.ensures.restarted s n rests on_top ended in
    let steady = steady_waited s slot n (top_at a s is slot n on_top) is.steady c.args.frame g as_many ended in
    let new = c.set_frame.ensures in
    rw new (rests_on a s is slot n on_top g few (passed_mark s) c.args.frame c.restart_group.new.self c.restart_group.ensures.nests restarted steady)
