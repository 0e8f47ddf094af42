use Rattle.std.proofs.Common.{◌∙◌, Option, ap, option_map, subst, sym}
use Rattle.arena_script.proofs.Finished.{finished_dump}
use Rattle.arena_script.proofs.finishing.finished.Goals as goal
use Rattle.part_lines.specs.declared.reading.PartRead.{PartRead}
use Rattle.tenant_finish.specs.Recovering.{IsRecovered}

pub returns-in_ok-text_of-in-Tenant-clause-finished : goal.returns-in_ok-text_of-in-Tenant-clause-finished
returns-in_ok-text_of-in-Tenant-clause-finished c =
    let part = c.in-Some.part in
    let read = sym c.in_ok-part.ensures ∙ ap (λ (found : Option PartRead). option_map (λ (p : PartRead). (p.config, p.entries.items)) found) c.in-Some.is in
    let start = subst (IsRecovered part.config part.entries.items) c.in-Tenant.is c.in_ok-replay.ensures in
    let text = c.in_ok-text_of-in-Tenant.ensures in
    finished_dump c.args.bytes.now c.in_ok-text_of-in-Tenant.field-0.items part.config part.entries.items c.in-Tenant.replay c.finish_tenant.new.replay read start c.finish_tenant.ensures text.text
    text.reads_back
