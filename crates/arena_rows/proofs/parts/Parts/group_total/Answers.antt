use Rattle.std.proofs.Common.{◌≡◌, ◌<◌, ◌∙◌, w64, to_z, of_z, rules}
use Rattle.job_language.specs.declared.instructions.TheConstants.{GROUPS}
use Rattle.task_group.specs.Groups.{group}
use Rattle.arena_rows.proofs.parts.Parts.group_total.Goals as goal

pub returns : goal.returns
returns c = λ s n is on_top.
    let e = c.top_entry.result.now in
    let value = c.index.ensures.value in
    let few : c.args.group < GROUPS = rw value at c.index.ensures.in_range in
    let told : c.total.result ≡ (group e.groups c.args.group).total = rw value at c.total.ensures in
    let same : to_z w64 (of_z w64 c.total.result) ≡ c.total.result = search rules in
    same ∙ told ∙ ((c.top_entry.ensures.entry s n is on_top).1.groups c.args.group few).total
