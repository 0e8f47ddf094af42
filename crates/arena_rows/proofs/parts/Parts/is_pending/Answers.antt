use Rattle.std.proofs.Common.{◌≡◌, ◌<◌, nat_lt, ◌∙◌, ap}
use Rattle.job_language.specs.declared.instructions.TheConstants.{GROUPS}
use Rattle.task_group.specs.Groups.{group}
use Rattle.arena_rows.proofs.Counters.{pending_told}
use Rattle.arena_rows.proofs.parts.Parts.is_pending.Goals as goal

pub returns : goal.returns
returns c = λ s n is on_top.
    let e = c.top_entry.result.now in
    let value = c.index.ensures.value in
    let few : c.args.group < GROUPS = rw value at c.index.ensures.in_range in
    let counted : c.pending.result ≡ (group e.groups c.args.group).pending = rw value at c.pending.ensures in
    ap (nat_lt 0) counted ∙ pending_told c.args.self.now s is n e (c.top_entry.ensures.entry s n is on_top).1 c.args.group few
